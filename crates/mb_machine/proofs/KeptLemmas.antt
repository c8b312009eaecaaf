-- The blocks of a file of which only symbols of the file were heard.
use Rattle.std.proofs.Common.{◌≡◌, ℕ, zero, suc, ◌+◌, ◌^◌, ◌<◌, ◌==◌, true, List, [], ◌∷◌, length, get_or, slice_index, slice_index_or, set, map, inl, inr, Option, Some, None, option_map, unwrap_or, refl, sym, ◌∙◌, ap, ap₂, subst, arith, eqb-true}
use Rattle.std.specs.List.{AllByRecursion, find, range_with_len}
use Rattle.std.proofs.lemmas.Bool.{and_parts, cases_eq, cases_lt}
use Rattle.std.proofs.lemmas.List.{length-map, length-set, get_or-map, get_or-set_same, get_or-set_other, get_or_past}
use Rattle.std.proofs.lemmas.List.Elements.{All-get_or}
use Rattle.std.proofs.lemmas.List.FromFn.{length-map-range_with_len, get_or-map-range_with_len}
use Rattle.mb_base.specs.Number.{AreBytes}
use Rattle.mb_geom.specs.Description.{Description, block_sizes, block_size, block_count}
use Rattle.mb_geom.specs.SourceSymbol.{place_of_byte, source_byte, source_symbol, source_symbols, joined_file}
use Rattle.mb_geom.specs.declared.desc.Scheme.{Scheme}
use Rattle.mb_geom.specs.declared.desc.Scheme.TheVariants as scheme
use Rattle.mb_geom.proofs.FileLemmas.{HasLayout, joined_file-is}
use Rattle.mb_tables.specs.Tables.{RaptorTables}
use Rattle.mb_tables.specs.declared.row.Row.{Row}
use Rattle.mb_encoder.specs.Symbols.{IsSymbol}
use Rattle.mb_encoder.specs.Solutions.{Pair}
use Rattle.mb_way.specs.Way.{Way, Way.NoCode, Way.Raptor, code_with, size_of}
use Rattle.mb_way.specs.Ways.{way_with, ways_of}
use Rattle.mb_way.specs.Solution.{sources}
use Rattle.mb_way.specs.Heard.{AreKept, hear, hear_pairs, is_complete}
use Rattle.mb_way.specs.Laws.{IsSymbolOf}
use Rattle.mb_way.proofs.Keeping as keeping
use Rattle.mb_way.proofs.Sent.{sources_sent}
use Rattle.mb_file.specs.File.{way_at, kept_at, nothing_kept, hear_in, are_complete, blocks_of, file_bytes}
use Rattle.mb_machine.specs.SentSet.{IsSymbolOfFile}
use Rattle.mb_machine.proofs.EachLemmas.{all-image, all-weaker}
use Rattle.mb_machine.proofs.HandOutLemmas.{found_passes}

-- ---- a block

-- symbols of a block with these source symbols of t bytes are kept, and nothing else
pub record IsSentKept (w : Way) (t : ℕ) (symbols : List (List ℕ)) (kept : List Pair) : Type 0 where
  pub are : AreKept w kept
  pub honest : AllByRecursion (IsSymbolOf w t symbols) kept

nothing-kept : (w : Way) (t : ℕ) (symbols : List (List ℕ)) → IsSentKept w t symbols []
nothing-kept w t symbols = record { are = keeping.nothing_kept w; honest = tt }

-- one more symbol
one-kept : (w : Way) (t : ℕ) (symbols : List (List ℕ)) (kept : List Pair) (pair : Pair) → IsSymbolOf w t symbols pair → IsSentKept w t symbols kept
    → IsSentKept w t symbols (hear w kept pair)
one-kept w t symbols kept pair of is =
    let P : Pair → Type 0 = IsSymbolOf w t symbols in
    record {
      are = keeping.heard_kept w kept pair is.are;
      honest = keeping.hear_keeps (AllByRecursion P) w kept pair is.honest (λ _. keeping.all_kept_with P w pair kept of is.honest);
    }

more-kept : (w : Way) (t : ℕ) (symbols : List (List ℕ)) (kept pairs : List Pair) → AllByRecursion (IsSymbolOf w t symbols) pairs → IsSentKept w t symbols kept
    → IsSentKept w t symbols (hear_pairs w kept pairs)
more-kept w t symbols kept [] all is = is
more-kept w t symbols kept (pair ∷ pairs) all is =
    more-kept w t symbols (hear w kept pair) pairs all.1 (one-kept w t symbols kept pair all.0 is)

-- ---- ways

found-size : (tables : RaptorTables) (k : ℕ) (found : Option Row) → find (λ (row : Row). row.k == k) tables.rows ≡ found
    → size_of (unwrap_or (option_map Raptor (option_map (code_with tables) found)) (NoCode k)) ≡ k
found-size tables k None is = refl
found-size tables k (Some row) is = eqb-true row.k k (found_passes (λ (r : Row). r.k == k) tables.rows row is)

-- a way has as many source symbols as its block
size-with : (tables : RaptorTables) (s : Scheme) (k : ℕ) → size_of (way_with tables s k) ≡ k
size-with tables (scheme.NoCode b) k = refl
size-with tables (scheme.Raptor z n al) k = found-size tables k (find (λ (row : Row). row.k == k) tables.rows) refl

-- the way of a block of a file
abbrev pub way_of_block : RaptorTables → Description → ℕ → Way
way_of_block tables d sbn = way_with tables d.scheme (block_size d sbn)

way_at-is : (tables : RaptorTables) (d : Description) (sbn : ℕ) → sbn < block_count d → way_at (ways_of tables d) sbn ≡ way_of_block tables d sbn
way_at-is tables d sbn within = get_or-map (way_with tables d.scheme) (block_sizes d) sbn 0 (NoCode 0) within

-- ---- the source symbols of a block

byte_below : (bytes : List ℕ) (p : ℕ) → AreBytes bytes → slice_index bytes p < 2 ^ 8
byte_below bytes p all =
    elim (cases_lt p (length bytes)) [
      | inl inside ↦ All-get_or (λ byte. byte < 256) bytes p 0 inside all
      | inr past ↦ (let none = get_or_past bytes p 0 past in omega (arith, none))
    ]

symbol-is : (d : Description) (bytes : List ℕ) (sbn i : ℕ) → AreBytes bytes → IsSymbol d.symbol (source_symbol d bytes sbn i)
unfolding source_symbol
symbol-is d bytes sbn i all = record {
  long = length-map-range_with_len (source_byte d bytes sbn i) 0 d.symbol;
  bytes = λ b below. subst (λ (n : ℕ). n < 2 ^ 8) (sym (get_or-map-range_with_len (source_byte d bytes sbn i) 0 d.symbol b b 0 below (omega arith)))
      (byte_below bytes (place_of_byte d sbn i b) all);
}

-- a complete block is the one that was sent
complete-sent : (tables : RaptorTables) (d : Description) (bytes : List ℕ) (sbn : ℕ) (kept : List Pair) → AreBytes bytes
    → IsSentKept (way_of_block tables d sbn) d.symbol (source_symbols d bytes sbn) kept → is_complete (way_of_block tables d sbn) kept ≡ true
    → sources (way_of_block tables d sbn) d.symbol kept ≡ source_symbols d bytes sbn
complete-sent tables d bytes sbn kept all is complete =
    let w : Way = way_of_block tables d sbn in
    let number : length (source_symbols d bytes sbn) ≡ size_of w
    = length-map-range_with_len (source_symbol d bytes sbn) 0 (block_size d sbn) ∙ sym (size-with tables d.scheme (block_size d sbn)) in
    sources_sent w d.symbol (source_symbols d bytes sbn) kept number
    (all-image (IsSymbol d.symbol) (source_symbol d bytes sbn) (λ i. symbol-is d bytes sbn i all) (range_with_len 0 (block_size d sbn)))
    is.are is.honest complete

-- ---- all blocks

-- the blocks from a number on
record AreSentFrom (tables : RaptorTables) (d : Description) (bytes : List ℕ) (at : ℕ) (sizes : List ℕ) (kept : List (List Pair)) : Type 0 where
  number : length kept ≡ length sizes
  sizes_are : (i : ℕ) → i < length sizes → get_or sizes i 0 ≡ block_size d (at + i)
  each : (i : ℕ) → i < length sizes → IsSentKept (way_of_block tables d (at + i)) d.symbol (source_symbols d bytes (at + i)) (get_or kept i [])

next : (at i : ℕ) → at + suc i ≡ at + 1 + i
next at i = omega arith

others-sent : (tables : RaptorTables) (d : Description) (bytes : List ℕ) (at k : ℕ) (sizes : List ℕ) (pairs : List Pair) (kept : List (List Pair))
    → AreSentFrom tables d bytes at (k ∷ sizes) (pairs ∷ kept) → AreSentFrom tables d bytes (at + 1) sizes kept
others-sent tables d bytes at k sizes pairs kept are = record {
  number = (let number = are.number in omega arith);
  sizes_are = λ i below. are.sizes_are (suc i) (omega arith) ∙ ap (block_size d) (next at i);
  each = λ i below. subst (λ (n : ℕ). IsSentKept (way_of_block tables d n) d.symbol (source_symbols d bytes n) (get_or kept i [])) (next at i)
      (are.each (suc i) (omega arith));
}

blocks-sent : (tables : RaptorTables) (d : Description) (bytes : List ℕ) (at : ℕ) (sizes : List ℕ) (kept : List (List Pair)) → AreBytes bytes
    → AreSentFrom tables d bytes at sizes kept → are_complete (map (way_with tables d.scheme) sizes) kept ≡ true
    → blocks_of (map (way_with tables d.scheme) sizes) d.symbol kept ≡ map (source_symbols d bytes) (range_with_len at (length sizes))
unfolding are_complete blocks_of
blocks-sent tables d bytes at [] kept all are complete = refl
blocks-sent tables d bytes at (k ∷ sizes) [] all are complete = absurd cc
blocks-sent tables d bytes at (k ∷ sizes) (pairs ∷ kept) all are complete =
    let parts = and_parts (is_complete (way_with tables d.scheme k) pairs) (are_complete (map (way_with tables d.scheme) sizes) kept) complete in
    let here : at + 0 ≡ at = omega arith in
    let size : k ≡ block_size d at = are.sizes_are 0 (omega arith) ∙ ap (block_size d) here in
    let way : way_with tables d.scheme k ≡ way_of_block tables d at = ap (way_with tables d.scheme) size in
    let own = subst (λ (n : ℕ). IsSentKept (way_of_block tables d n) d.symbol (source_symbols d bytes n) pairs) here (are.each 0 (omega arith)) in
    let first : sources (way_with tables d.scheme k) d.symbol pairs ≡ source_symbols d bytes at =
    ap (λ (w : Way). sources w d.symbol pairs) way
    ∙ complete-sent tables d bytes at pairs all own (sym (ap (λ (w : Way). is_complete w pairs) way) ∙ parts.0) in
    ap₂ (λ (b : List (List ℕ)) (bs : List (List (List ℕ))). b ∷ bs) first
    (blocks-sent tables d bytes (at + 1) sizes kept all (others-sent tables d bytes at k sizes pairs kept are) parts.1)

-- ---- the file

-- what is known of all blocks
pub record AreSentKept (tables : RaptorTables) (d : Description) (bytes : List ℕ) (kept : List (List Pair)) : Type 0 where
  pub number : length kept ≡ block_count d
  pub each : (sbn : ℕ) → sbn < block_count d
      → IsSentKept (way_of_block tables d sbn) d.symbol (source_symbols d bytes sbn) (slice_index_or kept sbn [])

-- before anything was heard
pub nothing_in : (ways : List Way) (n : ℕ) → [] ≡ kept_at (nothing_kept ways) n
nothing_in [] n = refl
nothing_in (w ∷ ways) zero = refl
nothing_in (w ∷ ways) (suc n) = nothing_in ways n

pub nothing-sent : (tables : RaptorTables) (d : Description) (bytes : List ℕ) → AreSentKept tables d bytes (nothing_kept (ways_of tables d))
nothing-sent tables d bytes = record {
  number = length-map (ways_of tables d) (λ w. []) ∙ length-map (block_sizes d) (way_with tables d.scheme);
  each = λ sbn _. subst (IsSentKept (way_of_block tables d sbn) d.symbol (source_symbols d bytes sbn)) (nothing_in (ways_of tables d) sbn)
      (nothing-kept (way_of_block tables d sbn) d.symbol (source_symbols d bytes sbn));
}

-- symbols of a block; the file may not have it
pub more-sent : (tables : RaptorTables) (d : Description) (bytes : List ℕ) (sbn : ℕ) (pairs : List Pair) (kept : List (List Pair))
    → AllByRecursion (IsSymbolOfFile tables (record { desc = d; bytes = bytes }) sbn) pairs → AreSentKept tables d bytes kept
    → AreSentKept tables d bytes (hear_in (ways_of tables d) sbn pairs kept)
more-sent tables d bytes sbn pairs kept all are =
    let heard : List Pair = hear_pairs (way_at (ways_of tables d) sbn) (kept_at kept sbn) pairs in
    let IsAt : ℕ → List Pair → Type 0 = λ n ps. IsSentKept (way_of_block tables d n) d.symbol (source_symbols d bytes n) ps in
    let own : sbn < block_count d → IsAt sbn heard
    = λ within. subst (λ (w : Way). IsAt sbn (hear_pairs w (kept_at kept sbn) pairs)) (sym (way_at-is tables d sbn within))
    (more-kept (way_of_block tables d sbn) d.symbol (source_symbols d bytes sbn) (kept_at kept sbn) pairs
    (all-weaker (IsSymbolOfFile tables (record { desc = d; bytes = bytes }) sbn) (IsSymbolOf (way_of_block tables d sbn) d.symbol (source_symbols d bytes sbn)) pairs
    (λ pair of. of within) all) (are.each sbn within)) in
    record {
      number = length-set kept sbn heard ∙ are.number;
      each = λ n below. elim (cases_eq n sbn) [
        | inl same ↦
            (let within : sbn < block_count d = subst (λ (m : ℕ). m < block_count d) same below in
            let inside : sbn < length kept = omega (arith, are.number, within) in
            subst (λ (m : ℕ). IsAt m (get_or (set kept sbn heard) m [])) (sym same)
            (subst (IsAt sbn) (sym (get_or-set_same kept sbn heard [] inside)) (own within)))
        | inr other ↦ subst (IsAt n) (sym (get_or-set_other kept sbn n heard [] other)) (are.each n below)
      ];
    }

-- the file that follows from complete blocks is the sent one
pub file-sent : (tables : RaptorTables) (d : Description) (bytes : List ℕ) (kept : List (List Pair)) → HasLayout d → length bytes ≡ d.length → AreBytes bytes
    → AreSentKept tables d bytes kept → are_complete (ways_of tables d) kept ≡ true → file_bytes d (ways_of tables d) kept ≡ bytes
file-sent tables d bytes kept layout long all are complete =
    let before : (i : ℕ) → 0 + i ≡ i = λ i. omega arith in
    let from : AreSentFrom tables d bytes 0 (block_sizes d) kept = record {
      number = are.number;
      sizes_are = λ i _. ap (block_size d) (sym (before i));
      each = λ i below. subst (λ (n : ℕ). IsSentKept (way_of_block tables d n) d.symbol (source_symbols d bytes n) (get_or kept i [])) (sym (before i)) (are.each i below);
    } in
    ap (joined_file d) (blocks-sent tables d bytes 0 (block_sizes d) kept all from complete) ∙ joined_file-is d bytes layout long
