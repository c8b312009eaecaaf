-- The life of a sent file, of which honest symbols were heard.
use Rattle.std.proofs.Common.{◌≡◌, ℕ, not, true, false, List, Option, Some, Result, Ok, refl, sym, ◌∙◌, ap, subst, subst₂}
use Rattle.std.specs.List.{AllByRecursion}
use Rattle.std.proofs.lemmas.Bool.{and_parts, cond_both, not-true}
use Rattle.std.proofs.lemmas.Option.{same_Some}
use Rattle.mb_geom.specs.Description.{Description}
use Rattle.mb_geom.proofs.FileLemmas.{HasLayout}
use Rattle.mb_fdt_text.specs.declared.fdt.FileFault.{FileFault}
use Rattle.mb_tables.specs.Tables.{RaptorTables}
use Rattle.mb_encoder.specs.Solutions.{Pair}
use Rattle.mb_way.specs.Way.{Way}
use Rattle.mb_way.specs.Ways.{ways_of}
use Rattle.mb_file.specs.File.{hear_in, are_complete, file_bytes}
use Rattle.mb_life.specs.Life.{Life, start_life, prolong, hear_in_block, has_digest, is_ready, is_damaged, bytes_of, hand_out}
use Rattle.mb_machine.specs.SentSet.{SentSet, SentFile, IsSentEntry, IsSymbolOfFile, IsSentFile}
use Rattle.mb_machine.specs.Laws.{file_of, handed_out}
use Rattle.mb_machine.proofs.KeptLemmas.{AreSentKept, nothing-sent, more-sent, file-sent}

-- a life that wasn't handed out has the ways of its description, and honest symbols of its file were heard
pub record IsSentLive (tables : RaptorTables) (bytes : List ℕ) (life : Life) : Type 0 where
  pub ways : life.ways ≡ ways_of tables life.desc
  pub kept : AreSentKept tables life.desc bytes life.kept

-- the life is that of a sent file
pub record IsSentLife (sent : SentSet) (tables : RaptorTables) (life : Life) : Type 0 where
  pub bytes : List ℕ
  pub known : sent.files life.toi ≡ Some (record { desc = life.desc; bytes = bytes })
  pub layout : HasLayout life.desc
  pub live : life.done ≡ false → IsSentLive tables bytes life

-- ---- a ready life

-- it isn't damaged, and its file is the sent one
pub ready-sent : (sent : SentSet) (tables : RaptorTables) (life : Life) → IsSentLife sent tables life → is_ready life ≡ true
    → (is_damaged life ≡ false) × IsSentFile sent (file_of life)
ready-sent sent tables life is ready =
    let file : SentFile = record { desc = life.desc; bytes = is.bytes } in
    let parts = and_parts _ _ ready in
    let live : IsSentLive tables is.bytes life = is.live (not-true life.done parts.0) in
    let complete : are_complete life.ways life.kept ≡ true = (and_parts _ _ parts.1).1 in
    let same : bytes_of life ≡ is.bytes
    = ap (λ (ways : List Way). file_bytes life.desc ways life.kept) live.ways
    ∙ file-sent tables life.desc is.bytes life.kept is.layout (sent.lengths life.toi file is.known) (sent.bytes life.toi file is.known) live.kept
    (sym (ap (λ (ways : List Way). are_complete ways life.kept) live.ways) ∙ complete) in
    let digest : has_digest life.desc.md5 (bytes_of life) ≡ true = ap (has_digest life.desc.md5) same ∙ sent.digests life.toi file is.known in
    (ap not digest, record { of = file; known = is.known; location = refl; bytes = same })

-- ---- what happens to a life

pub started-sent : (sent : SentSet) (tables : RaptorTables) (expires toi : ℕ) (d : Description) (of : Option ℕ) (entry : Result Description FileFault)
    → of ≡ Some toi → entry ≡ Ok d → IsSentEntry sent.files of entry → HasLayout d → IsSentLife sent tables (start_life expires toi d (ways_of tables d))
started-sent sent tables expires toi d of entry of_is entry_is is layout =
    let known : IsSentEntry sent.files (Some toi) (Ok d) = subst₂ (λ (o : Option ℕ) (e : Result Description FileFault). IsSentEntry sent.files o e) of_is entry_is is in
    record { bytes = known.0; known = known.1; layout = layout; live = λ _. record { ways = refl; kept = nothing-sent tables d known.0 } }

pub prolonged-sent : (sent : SentSet) (tables : RaptorTables) (expires : ℕ) (life : Life) → IsSentLife sent tables life → IsSentLife sent tables (prolong expires life)
prolonged-sent sent tables expires life is = record {
  bytes = is.bytes;
  known = is.known;
  layout = is.layout;
  live = λ goes_on. record { ways = (is.live goes_on).ways; kept = (is.live goes_on).kept };
}

-- no ready life goes on once it was handed out
pub handed-sent : (sent : SentSet) (tables : RaptorTables) (life : Life) → IsSentLife sent tables life → IsSentLife sent tables (handed_out life)
handed-sent sent tables life is =
    cond_both (is_ready life) (hand_out life) life (IsSentLife sent tables)
    (λ ready. record {
      bytes = is.bytes;
      known = is.known;
      layout = is.layout;
      live = λ goes_on. (let over = ap not (ready-sent sent tables life is ready).0 in absurd (let both = sym over ∙ goes_on in cc));
    })
    (λ _. is)

-- a sent file of this TOI is the one
one_file : (sent : SentSet) (toi : ℕ) (a b : SentFile) → sent.files toi ≡ Some a → sent.files toi ≡ Some b → a ≡ b
one_file sent toi a b one other = same_Some a b (sym one ∙ other)

pub heard-sent : (sent : SentSet) (tables : RaptorTables) (file : SentFile) (sbn : ℕ) (pairs : List Pair) (life : Life) → sent.files life.toi ≡ Some file
    → AllByRecursion (IsSymbolOfFile tables file sbn) pairs → IsSentLife sent tables life → IsSentLife sent tables (hear_in_block sbn pairs life)
heard-sent sent tables file sbn pairs life of all is =
    let own : SentFile = record { desc = life.desc; bytes = is.bytes } in
    let honest = subst (λ (f : SentFile). AllByRecursion (IsSymbolOfFile tables f sbn) pairs) (one_file sent life.toi file own of is.known) all in
    record {
      bytes = is.bytes;
      known = is.known;
      layout = is.layout;
      live = λ goes_on. record {
        ways = (is.live goes_on).ways;
        kept = subst (λ (ways : List Way). AreSentKept tables life.desc is.bytes (hear_in ways sbn pairs life.kept)) (sym (is.live goes_on).ways)
            (more-sent tables life.desc is.bytes sbn pairs life.kept honest (is.live goes_on).kept);
      };
    }
