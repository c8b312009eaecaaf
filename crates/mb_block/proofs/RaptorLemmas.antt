-- What calls do to a block under Raptor in memory.
use Rattle.std.proofs.Common.{◌≡◌, ◌↔◌, ℕ, ◌*◌, ◌<◌, ◌≤◌, ◌==◌, Bool, true, false, cond, List, [], ◌∷◌, ◌++◌, length, refl, sym, ◌∙◌, ap, ap₂, subst, arith, lt-ltb}
use Rattle.std.specs.List.{AllByRecursion, concat}
use Rattle.mb_rows.specs.Code.{RaptorCode}
use Rattle.mb_rows.specs.Determined.{Determines, DetermineBlock}
use Rattle.mb_encoder.specs.Solutions.{Pair, esis}
use Rattle.mb_decoder.specs.Block as decoder
use Rattle.mb_decoder.specs.Block.{IsOf, filled}
use Rattle.mb_decoder.specs.Sources.{AreSources}
use Rattle.mb_way.specs.Way.{Way, Way.Raptor, size_of}
use Rattle.mb_way.specs.Determined.{is_determined}
use Rattle.mb_way.specs.Heard.{heard_as, hear, is_complete}
use Rattle.mb_way.specs.Solution.{sources}
use Rattle.mb_way.specs.declared.heard.Heard.TheVariants.{Kept, Determined}
use Rattle.mb_way.proofs.Testing.{determined_tested, not_determined, block_tested}
use Rattle.mb_way.proofs.Keeping.{hear_keeps, kept_is_new, all_kept_with, heard_kept}
use Rattle.mb_way.proofs.Counting.{complete_count}
use Rattle.mb_way.proofs.Solving.{joined_from}
use Rattle.mb_block.specs.Block.{Block, IsPairOf, IsBlock}
use Rattle.mb_block.specs.Raptor.{IsHeard}
use Rattle.mb_block.proofs.BlockLemmas.{length-filled}

-- ---- of a block that was heard

size-heard : (w : Way) (d : decoder.Block) → IsHeard w d → d.k ≡ size_of w
size-heard w d h = h.of.k ∙ sym (ap size_of h.way)

pub complete-heard : (w : Way) (d : decoder.Block) → IsHeard w d → (length d.kept == d.k) ≡ is_complete w d.kept
complete-heard w d h = ap (λ n. length d.kept == n) (size-heard w d h) ∙ sym (complete_count w d.kept h.block.kept)

pub determined-heard : (w : Way) (d : decoder.Block) (c : RaptorCode) → w ≡ Raptor c → is_complete w d.kept ≡ true → DetermineBlock c (esis d.kept)
determined-heard w d c is complete = (block_tested c (esis d.kept)).0 (ap (λ (w : Way). is_complete w d.kept) (sym is) ∙ complete)

-- ---- one symbol more

heard-by : (c : RaptorCode) (kept : List Pair) (esi : ℕ) (b : Bool) → esi < 65536 → is_determined (Raptor c) (esis kept) esi ≡ b
    → heard_as (Raptor c) kept esi ≡ cond b Determined Kept
heard-by c kept esi b few is = rw (lt-ltb esi 65536 few, is) refl

heard-old : (w : Way) (c : RaptorCode) (kept : List Pair) (esi : ℕ) → w ≡ Raptor c → esi < 65536 → Determines c (esis kept) esi → heard_as w kept esi ≡ Determined
heard-old w c kept esi is few old = ap (λ (w : Way). heard_as w kept esi) is ∙ heard-by c kept esi true few ((determined_tested c (esis kept) esi).1 old)

heard-new : (w : Way) (c : RaptorCode) (kept : List Pair) (esi : ℕ) → w ≡ Raptor c → esi < 65536 → (Determines c (esis kept) esi → ⊥) → heard_as w kept esi ≡ Kept
heard-new w c kept esi is few new = ap (λ (w : Way). heard_as w kept esi) is ∙ heard-by c kept esi false few ((not_determined c (esis kept) esi).1 new)

kept-by : (c : RaptorCode) (kept : List Pair) (pair : Pair) → heard_as (Raptor c) kept pair.esi ≡ Kept → hear (Raptor c) kept pair ≡ kept ++ pair ∷ []
kept-by c kept pair is = rw is refl

hear-new : (w : Way) (c : RaptorCode) (kept : List Pair) (pair : Pair) → w ≡ Raptor c → heard_as w kept pair.esi ≡ Kept → hear w kept pair ≡ kept ++ pair ∷ []
hear-new w c kept pair is new =
    ap (λ (w : Way). hear w kept pair) is ∙ kept-by c kept pair (ap (λ (w : Way). heard_as w kept pair.esi) (sym is) ∙ new)

hear-old : (w : Way) (kept : List Pair) (pair : Pair) → heard_as w kept pair.esi ≡ Determined → hear w kept pair ≡ kept
hear-old w kept pair is = rw is refl

-- what a decoder's answer says
pub record IsAnswer (w : Way) (old new : decoder.Block) (pair : Pair) (answer : Bool) : Type 0 where
  pub heard : heard_as w old.kept pair.esi ≡ cond answer Kept Determined
  pub kept : new.kept ≡ hear w old.kept pair

pub answered : (w : Way) (old new : decoder.Block) (c : RaptorCode) (pair : Pair) (answer : Bool) → w ≡ Raptor c → pair.esi < 65536
    → (answer ≡ false) ↔ Determines c (esis old.kept) pair.esi → (answer ≡ false → new.kept ≡ old.kept) → (answer ≡ true → new.kept ≡ old.kept ++ pair ∷ [])
    → IsAnswer w old new pair answer
answered w old new c pair true is few determined same more =
    let new_one = heard-new w c old.kept pair.esi is few (λ d. let e = determined.1 d in cc e) in
    record { heard = new_one; kept = more refl ∙ sym (hear-new w c old.kept pair is new_one) }
answered w old new c pair false is few determined same more =
    let repeat = heard-old w c old.kept pair.esi is few (determined.0 refl) in
    record { heard = repeat; kept = same refl ∙ sym (hear-old w old.kept pair repeat) }

block-more : (w : Way) (t : ℕ) (kept : List Pair) (esi : ℕ) (bytes : List ℕ) → length bytes ≤ t → IsBlock (record { way = w; symbol = t; kept = kept })
    → IsBlock (record { way = w; symbol = t; kept = hear w kept (record { esi = esi; symbol = filled t bytes }) })
block-more w t kept esi bytes most b =
    let pair : Pair = record { esi = esi; symbol = filled t bytes } in record {
      way = b.way;
      some = b.some;
      kept = heard_kept w kept pair b.kept;
      pairs = hear_keeps (AllByRecursion (IsPairOf w t)) w kept pair b.pairs
          (λ is. all_kept_with (IsPairOf w t) w pair kept ((kept_is_new w kept esi is).0, length-filled t bytes most) b.pairs);
    }

pub heard-more : (w : Way) (old new : decoder.Block) (c : RaptorCode) (esi : ℕ) (bytes : List ℕ) → IsHeard w old → w ≡ Raptor c → length bytes ≤ old.t
    → new.t ≡ old.t → IsOf c new → new.kept ≡ hear w old.kept (record { esi = esi; symbol = filled old.t bytes }) → IsHeard w new
heard-more w old new c esi bytes h is most t of kept = record {
  code = c;
  way = is;
  of = of;
  block = subst (λ (x : Block). IsBlock x)
      (sym (ap₂ (λ (n : ℕ) (pairs : List Pair). let r : Block = record { way = w; symbol = n; kept = pairs } in r) t kept))
      (block-more w old.t old.kept esi bytes most h.block);
}

-- ---- the source symbols

times : (a b : ℕ) → a * b ≡ b * a
times a b = grind arith

pub sources-heard : (w : Way) (d : decoder.Block) (c : RaptorCode) (out : List ℕ) → IsHeard w d → w ≡ Raptor c → AreSources c d.t d.kept out
    → length out ≡ size_of w * d.t → out ≡ concat (sources w d.t d.kept)
sources-heard w d c out h is are long =
    let count : length out ≡ d.t * c.row.k = long ∙ ap (λ (w : Way). size_of w * d.t) is ∙ times c.row.k d.t in
    sym (ap (λ (w : Way). concat (sources w d.t d.kept)) is ∙ joined_from c d.t d.kept out are count)
