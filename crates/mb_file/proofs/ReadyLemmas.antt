-- The file that follows from blocks that are determined.
use Rattle.std.proofs.Common.{◌≡◌, ℕ, zero, suc, ◌+◌, ◌*◌, ◌<◌, ◌≤◌, ◌==◌, ◌⊎◌, inl, inr, Bool, true, List, [], ◌∷◌, ◌++◌, length, get_or, take, map, sum, Option, Some, None, refl, sym, ◌∙◌, ap, ap₂, subst, arith}
use Rattle.std.specs.Prelude.{slice_index}
use Rattle.std.specs.List.{AllByRecursion, concat, range_with_len}
use Rattle.std.proofs.lemmas.Bool.{and_parts, eqb-true, cases_eq}
use Rattle.std.proofs.lemmas.List.{append-nil, take_all, length-append, length-map, get_or-append-add, get_or_append_left}
use Rattle.std.proofs.lemmas.List.FromFn.{length-range_with_len}
use Rattle.std.proofs.lemmas.Nat.{mul-le}
use Rattle.std.proofs.Math.Seq.{take-nil}
use Rattle.mb_geom.specs.Description.{Description, IsGood, block_sizes, block_size, block_count}
use Rattle.mb_geom.specs.SourceSymbol.{sub_sizes, sub_sizes_of, symbols_before, place_in_block, place_of_byte, joined_block, joined_file, IsBlockPut, AreSymbols, AreBlocks}
use Rattle.mb_geom.specs.declared.desc.Scheme.{Scheme}
use Rattle.mb_geom.specs.declared.desc.Scheme.TheVariants as scheme
use Rattle.mb_geom.proofs.SymbolLemmas.{sum-cons, place-below}
use Rattle.mb_geom.proofs.LayoutLemmas.{sum-sub_sizes}
use Rattle.mb_geom.proofs.PlaceLemmas.{joined_file-from}
use Rattle.mb_encoder.specs.Solutions.{Pair}
use Rattle.mb_rows.specs.Code.{RaptorCode}
use Rattle.mb_way.specs.Way.{Way, Way.NoCode, Way.Raptor, size_of, IsWay}
use Rattle.mb_way.specs.Ways.{IsOfScheme, AreWaysOf}
use Rattle.mb_way.specs.Heard.{is_complete, AreKept}
use Rattle.mb_way.specs.Solution.{symbol_over, solution, sources}
use Rattle.mb_way.proofs.Counting.{complete_count}
use Rattle.mb_way.proofs.Keeping.{nothing_kept}
use Rattle.mb_block.specs.Block.{Block, IsPairOf}
use Rattle.mb_block.specs.Blocks as whole
use Rattle.mb_block.specs.Blocks.{AreEachBlocks, joined_symbols}
use Rattle.mb_file.specs.File as file
use Rattle.mb_file.specs.File.{way_at, are_complete, blocks_of, file_bytes}
use Rattle.mb_file.specs.FileView.{kept_of, kept_seen, AreInOne, IsOf, IsPlace, ArePlaces, IsReady, IsReadyAt, AreReadyAt, AreReady, sources_of, file_from}
use Rattle.mb_file.specs.FileView as view
use Rattle.mb_file.specs.declared.blocks.Blocks.{Blocks}
use Rattle.mb_file.specs.declared.blocks.Blocks.TheVariants.{Nothing, NoCode, Raptor}
use Rattle.mb_file.proofs.FileLemmas.{count-places, count-ways}

-- ---- blocks that are determined

same_number : (a b : ℕ) → (a == b) ≡ true → a ≡ b
same_number a b is = eqb-true a b is

complete-length : (w : Way) (kept : List Pair) → AreKept w kept → is_complete w kept ≡ true → length kept ≡ size_of w
complete-length w kept are is = same_number (length kept) (size_of w) (sym (complete_count w kept are) ∙ is)

way-some : (w : Way) → IsWay w → 0 < size_of w
way-some (Way.NoCode k) is = is.0
way-some (Way.Raptor c) is = let least = is.row.k.least in omega arith

-- a block of which nothing was heard is not determined
nothing-incomplete : (w : Way) → IsWay w → is_complete w [] ≡ true → ⊥
nothing-incomplete w is complete =
    let none = complete-length w [] (nothing_kept w) complete in
    let some = way-some w is in absurd (omega arith)

-- nor is a file that has blocks
pub nothing-ready : (ways : List Way) → AllByRecursion IsWay ways → are_complete ways (file.nothing_kept ways) ≡ true → ways ≡ []
unfolding are_complete
nothing-ready [] each complete = refl
nothing-ready (w ∷ ways) each complete =
    absurd (nothing-incomplete w each.0 (and_parts (is_complete w []) (are_complete ways (file.nothing_kept ways)) complete).0)

whole-ready : (t : ℕ) (sizes : List ℕ) (kept : List (List Pair)) → AreEachBlocks t sizes kept → are_complete (map Way.NoCode sizes) kept ≡ true
    → map (λ (pairs : List Pair). length pairs) kept ≡ sizes
unfolding are_complete AreEachBlocks
whole-ready t [] [] are is = refl
whole-ready t [] (pairs ∷ kept) are is = absurd are
whole-ready t (k ∷ sizes) [] are is = absurd are
whole-ready t (k ∷ sizes) (pairs ∷ kept) are is =
    let both = and_parts (is_complete (Way.NoCode k) pairs) (are_complete (map Way.NoCode sizes) kept) is in
    ap₂ (λ (n : ℕ) (ns : List ℕ). n ∷ ns) (complete-length (Way.NoCode k) pairs are.0.kept both.0) (whole-ready t sizes kept are.1 both.1)

place-ready : (w : Way) (t : ℕ) (place : Option Block) → IsWay w → IsPlace w t place → is_complete w (kept_of place) ≡ true → IsReadyAt (size_of w) t place
place-ready w t None way is complete = nothing-incomplete w way complete
place-ready w t (Some b) way is complete = record {
  size = ap size_of is.way;
  symbol = is.symbol;
  complete = ap (λ v. is_complete v b.kept) is.way ∙ complete;
  block = is.block;
}

places-ready : (ways : List Way) (t : ℕ) (places : List (Option Block)) (i : ℕ) → AllByRecursion IsWay ways → ArePlaces ways t places
    → are_complete ways (map kept_of places) ≡ true → i < length ways → IsReadyAt (get_or (map size_of ways) i 0) t (get_or places i None)
unfolding are_complete ArePlaces
places-ready [] t places i each are is within = absurd (omega arith)
places-ready (w ∷ ways) t [] i each are is within = absurd are
places-ready (w ∷ ways) t (place ∷ places) zero each are is within =
    place-ready w t place each.0 are.0 (and_parts (is_complete w (kept_of place)) (are_complete ways (map kept_of places)) is).0
places-ready (w ∷ ways) t (place ∷ places) (suc i) each are is within =
    places-ready ways t places i each.1 are.1 (and_parts (is_complete w (kept_of place)) (are_complete ways (map kept_of places)) is).1 (omega arith)

pub are-ready : (d : Description) (ways : List Way) (t : ℕ) (blocks : Blocks) → AreWaysOf d ways → t ≡ d.symbol → view.AreBlocks ways t blocks
    → are_complete ways (kept_seen ways blocks) ≡ true → AreReady d blocks
are-ready d ways t Nothing of t_is are complete = tt
are-ready d ways t (NoCode b) of t_is are complete =
    whole-ready b.symbol b.sizes b.kept are.whole (ap (λ (ws : List Way). are_complete ws b.kept) are.sizes ∙ complete)
are-ready d ways t (Raptor v) of t_is are complete = record {
  count = count-places ways t v.items are.each ∙ count-ways d ways of;
  each = λ sbn within.
      let there : sbn < length ways = omega (arith, count-ways d ways of, within) in
      subst (λ (n : ℕ). IsReadyAt (block_size d sbn) n (get_or v.items sbn None)) t_is
      (subst (λ (ns : List ℕ). IsReadyAt (get_or ns sbn 0) t (get_or v.items sbn None)) of.sizes (places-ready ways t v.items sbn of.each are.each complete there));
}

-- ---- the file under Compact No-Code

whole-symbols : (t : ℕ) (ss : List (List ℕ)) → AllByRecursion (λ s. length s ≡ t) ss → map (take t) ss ≡ ss
whole-symbols t [] all = refl
whole-symbols t (s ∷ ss) all =
    let first : take t s ≡ s = take_all t s (omega (arith, all.0)) in
    ap₂ (λ (x : List ℕ) (xs : List (List ℕ)). x ∷ xs) first (whole-symbols t ss all.1)

-- a block of one sub-block is its symbols, one behind the other
joined-one : (t : ℕ) (ss : List (List ℕ)) → AllByRecursion (λ s. length s ≡ t) ss → joined_block (t ∷ []) ss ≡ concat ss
unfolding joined_block
joined-one t ss all = ap (λ xs. concat xs ++ []) (whole-symbols t ss all) ∙ append-nil (concat ss)

pairs-whole : (w : Way) (t : ℕ) (kept : List Pair) → AllByRecursion (IsPairOf w t) kept → AllByRecursion (λ s. length s ≡ t) (map (λ (pair : Pair). pair.symbol) kept)
pairs-whole w t [] all = tt
pairs-whole w t (pair ∷ kept) all = (all.0.1, pairs-whole w t kept all.1)

joined-blocks : (t : ℕ) (sizes : List ℕ) (kept : List (List Pair)) → AreEachBlocks t sizes kept
    → concat (map (joined_block (t ∷ [])) (blocks_of (map Way.NoCode sizes) t kept)) ≡ joined_symbols kept
unfolding blocks_of AreEachBlocks sources
joined-blocks t [] [] are = refl
joined-blocks t [] (pairs ∷ kept) are = absurd are
joined-blocks t (k ∷ sizes) [] are = absurd are
joined-blocks t (k ∷ sizes) (pairs ∷ kept) are =
    ap₂ (λ (x y : List ℕ). x ++ y)
    (joined-one t (map (λ (pair : Pair). pair.symbol) pairs) (pairs-whole (Way.NoCode k) t pairs are.0.pairs))
    (joined-blocks t sizes kept are.1)

joined-all : (s : Scheme) (t : ℕ) (sizes : List ℕ) (kept : List (List Pair)) → AllByRecursion (IsOfScheme s) (map Way.NoCode sizes) → AreEachBlocks t sizes kept
    → concat (map (joined_block (sub_sizes_of t s)) (blocks_of (map Way.NoCode sizes) t kept)) ≡ joined_symbols kept
unfolding blocks_of AreEachBlocks
joined-all (scheme.NoCode b) t sizes kept of are = joined-blocks t sizes kept are
joined-all (scheme.Raptor z n al) t [] [] of are = refl
joined-all (scheme.Raptor z n al) t [] (pairs ∷ kept) of are = absurd are
joined-all (scheme.Raptor z n al) t (k ∷ sizes) kept of are = absurd of.0

whole-file : (d : Description) (ways : List Way) (t : ℕ) (b : whole.Blocks) → AreWaysOf d ways → t ≡ d.symbol → AreInOne ways t b
    → take d.length (joined_symbols b.kept) ≡ file_bytes d ways b.kept
unfolding joined_file
whole-file d ways t b of t_is are =
    let symbol : b.symbol ≡ d.symbol = are.symbol ∙ t_is in
    let each : AreEachBlocks d.symbol b.sizes b.kept = subst (λ (n : ℕ). AreEachBlocks n b.sizes b.kept) symbol are.whole in
    let schemes : AllByRecursion (IsOfScheme d.scheme) (map Way.NoCode b.sizes) = subst (AllByRecursion (IsOfScheme d.scheme)) (sym are.sizes) of.scheme in
    sym (ap (λ (ws : List Way). take d.length (concat (map (joined_block (sub_sizes d)) (blocks_of ws d.symbol b.kept)))) (sym are.sizes)
    ∙ ap (take d.length) (joined-all d.scheme d.symbol b.sizes b.kept schemes each))

-- ---- the file under Raptor

place-sources : (w : Way) (t k : ℕ) (place : Option Block) → IsPlace w t place → IsReadyAt k t place → sources_of place ≡ sources w t (kept_of place)
place-sources w t k None is ready = absurd ready
place-sources w t k (Some b) is ready = ap₂ (λ (v : Way) (n : ℕ). sources v n b.kept) is.way is.symbol

places-sources : (ways : List Way) (t : ℕ) (places : List (Option Block)) → ArePlaces ways t places
    → ((i : ℕ) → i < length ways → IsReadyAt (get_or (map size_of ways) i 0) t (get_or places i None)) → map sources_of places ≡ blocks_of ways t (map kept_of places)
unfolding ArePlaces blocks_of
places-sources [] t [] are ready = refl
places-sources [] t (place ∷ places) are ready = absurd are
places-sources (w ∷ ways) t [] are ready = absurd are
places-sources (w ∷ ways) t (place ∷ places) are ready =
    ap₂ (λ (x : List (List ℕ)) (xs : List (List (List ℕ))). x ∷ xs) (place-sources w t (size_of w) place are.0 (ready 0 (omega arith)))
    (places-sources ways t places are.1 (λ i p. ready (suc i) (omega arith)))

pub file-is : (d : Description) (ways : List Way) (t : ℕ) (blocks : Blocks) → AreWaysOf d ways → t ≡ d.symbol → view.AreBlocks ways t blocks
    → are_complete ways (kept_seen ways blocks) ≡ true → file_from d blocks ≡ file_bytes d ways (kept_seen ways blocks)
unfolding joined_file blocks_of
file-is d ways t Nothing of t_is are complete =
    let none = nothing-ready ways of.each complete in
    sym (ap (λ (ws : List Way). file_bytes d ws (file.nothing_kept ws)) none ∙ take-nil d.length)
file-is d ways t (NoCode b) of t_is are complete = whole-file d ways t b of t_is are
file-is d ways t (Raptor v) of t_is are complete =
    ap (joined_file d) (places-sources ways t v.items are.each (λ i p. places-ready ways t v.items i of.each are.each complete p)
    ∙ ap (λ (n : ℕ). blocks_of ways n (map kept_of v.items)) t_is)

-- ---- blocks that are put into a file

symbols-long : (c : RaptorCode) (t : ℕ) (ss : List (List ℕ)) (esis : List ℕ) (row : ℕ → List Bool) → AllByRecursion (λ s. length s ≡ t) (map (λ esi. symbol_over t (row esi) ss) esis)
symbols-long c t ss [] row = tt
symbols-long c t ss (esi ∷ esis) row = (length-map (range_with_len 0 t) _ ∙ length-range_with_len 0 t, symbols-long c t ss esis row)

block-symbols : (w : Way) (t : ℕ) (kept : List Pair) → AreKept w kept → AllByRecursion (IsPairOf w t) kept → is_complete w kept ≡ true → AreSymbols t (size_of w) (sources w t kept)
unfolding sources
block-symbols (Way.NoCode k) t kept are pairs complete = record {
  number = length-map kept _ ∙ complete-length (Way.NoCode k) kept are complete;
  each = pairs-whole (Way.NoCode k) t kept pairs;
}
block-symbols (Way.Raptor c) t kept are pairs complete = record {
  number = length-map (range_with_len 0 c.row.k) _ ∙ length-range_with_len 0 c.row.k;
  each = symbols-long c t (solution c t kept) (range_with_len 0 c.row.k) _;
}

pub ready-symbols : (k t : ℕ) (b : Block) → IsReady k t b → AreSymbols t k (sources b.way b.symbol b.kept)
ready-symbols k t b is =
    subst (λ (n : ℕ). AreSymbols n k (sources b.way b.symbol b.kept)) is.symbol
    (subst (λ (n : ℕ). AreSymbols b.symbol n (sources b.way b.symbol b.kept)) is.size (block-symbols b.way b.symbol b.kept is.block.kept is.block.pairs is.complete))

place-symbols : (k t : ℕ) (place : Option Block) → IsReadyAt k t place → AreSymbols t k (sources_of place)
place-symbols k t None is = absurd is
place-symbols k t (Some b) is = ready-symbols k t b is

sources-at : (places : List (Option Block)) (i : ℕ) → get_or (map sources_of places) i [] ≡ sources_of (get_or places i None)
sources-at [] i = refl
sources-at (place ∷ places) zero = refl
sources-at (place ∷ places) (suc i) = sources-at places i

are-blocks : (d : Description) (places : List (Option Block)) → AreReadyAt d places → AreBlocks d (map sources_of places)
are-blocks d places ready = record {
  number = length-map places sources_of ∙ ready.count;
  each = λ sbn within. subst (AreSymbols d.symbol (block_size d sbn)) (sym (sources-at places sbn))
      (place-symbols (block_size d sbn) d.symbol (get_or places sbn None) (ready.each sbn within));
}

rows-length : (t : ℕ) (rows : List (List ℕ)) → AllByRecursion (λ row. length row ≡ t) rows → length (concat rows) ≡ length rows * t
rows-length t [] long = omega arith
rows-length t (row ∷ rows) long = length-append row (concat rows) ∙ omega (arith, long.0, rows-length t rows long.1)

row-at : (t : ℕ) (rows : List (List ℕ)) (i j : ℕ) → AllByRecursion (λ row. length row ≡ t) rows → i < length rows → j < t
    → get_or (concat rows) (i * t + j) 0 ≡ get_or (get_or rows i []) j 0
row-at t [] i j long within lt = absurd (omega arith)
row-at t (row ∷ rows) zero j long within lt =
    let place_is : 0 * t + j ≡ j = omega arith in
    ap (λ p. get_or (row ++ concat rows) p 0) place_is ∙ get_or_append_left row (concat rows) 0 j (omega (arith, long.0))
row-at t (row ∷ rows) (suc i) j long within lt =
    let place_is : suc i * t + j ≡ length row + (i * t + j) = omega (arith, long.0) in
    ap (λ p. get_or (row ++ concat rows) p 0) place_is
    ∙ get_or-append-add row (concat rows) (i * t + j) 0
    ∙ row-at t rows i j long.1 (omega arith) lt

-- the bytes of the first n blocks stand at their places
abbrev pub HasFirst : Description → List (List (List ℕ)) → ℕ → List ℕ → Type 0
HasFirst d blocks n file = (sbn i j : ℕ) → sbn < n → i < block_size d sbn → j < d.symbol → place_of_byte d sbn i j < d.length
    → slice_index file (place_of_byte d sbn i j) ≡ get_or (get_or (get_or blocks sbn []) i []) j 0

before-more : (sizes : List ℕ) (m n : ℕ) → m < n → m < length sizes → sum (take m sizes) + get_or sizes m 0 ≤ sum (take n sizes)
before-more [] m n less within = absurd (omega arith)
before-more (x ∷ sizes) zero zero less within = absurd (omega arith)
before-more (x ∷ sizes) (suc m) zero less within = absurd (omega arith)
before-more (x ∷ sizes) zero (suc n) less within = let more = sum-cons x (take n sizes) in omega arith
before-more (x ∷ sizes) (suc m) (suc n) less within =
    let one = sum-cons x (take m sizes) in
    let other = sum-cons x (take n sizes) in
    let rest = before-more sizes m n (omega arith) (omega arith) in omega arith

place-before : (d : Description) (sbn n i j : ℕ) → IsGood d → sbn < n → sbn < block_count d → i < block_size d sbn → j < d.symbol
    → place_of_byte d sbn i j < symbols_before d n * d.symbol
place-before d sbn n i j good less within p q =
    let sizes = sub_sizes d in
    let whole = sum-sub_sizes d good in
    let all : take (length sizes) sizes ≡ sizes = take_all (length sizes) sizes (omega arith) in
    let own : place_in_block sizes (block_size d sbn) i j < block_size d sbn * sum sizes =
    rw all at (place-below sizes (length sizes) (block_size d sbn) i j p (rw all (rw whole q))) in
    let lower : place_in_block sizes (block_size d sbn) i j < block_size d sbn * d.symbol = rw whole at own in
    let more = before-more (block_sizes d) sbn n less within in
    let times = mul-le (symbols_before d sbn + block_size d sbn) d.symbol (symbols_before d n) d.symbol more (omega arith) in omega arith

put-by : (d : Description) (blocks : List (List (List ℕ))) (n next sbn i j : ℕ) (rows : List (List ℕ)) (old new : List ℕ) → IsGood d → n < block_count d → next ≡ suc n
    → get_or blocks n [] ≡ rows → AreSymbols d.symbol (block_size d n) rows → IsBlockPut d n (concat rows) old new → HasFirst d blocks n old
    → sbn < next → i < block_size d sbn → j < d.symbol → place_of_byte d sbn i j < d.length
    → (sbn ≡ n) ⊎ ((sbn ≡ n) → ⊥) → slice_index new (place_of_byte d sbn i j) ≡ get_or (get_or (get_or blocks sbn []) i []) j 0
put-by d blocks n next sbn i j rows old new good within e at are put first p q r inside (inl same) =
    let number : i < block_size d n = subst (λ (m : ℕ). i < block_size d m) same q in
    let inner : place_of_byte d n i j < d.length = subst (λ (m : ℕ). place_of_byte d m i j < d.length) same inside in
    let there : i < length rows = omega (arith, are.number, number) in
    ap (λ (m : ℕ). slice_index new (place_of_byte d m i j)) same
    ∙ put.put i j number r inner
    ∙ row-at d.symbol rows i j are.each there r
    ∙ ap (λ (x : List (List ℕ)). get_or (get_or x i []) j 0) (sym at)
    ∙ ap (λ (m : ℕ). get_or (get_or (get_or blocks m []) i []) j 0) (sym same)
put-by d blocks n next sbn i j rows old new good within e at are put first p q r inside (inr other) =
    let less : sbn < n = omega (arith, p, e, other) in
    put.before (place_of_byte d sbn i j) (place-before d sbn n i j good less (omega arith) q r) ∙ first sbn i j less q r inside

-- a block is put
pub put-more : (d : Description) (places : List (Option Block)) (n next : ℕ) (b : Block) (old new : List ℕ) → IsGood d → AreReadyAt d places → n < block_count d → next ≡ suc n
    → get_or places n None ≡ Some b → IsBlockPut d n (concat (sources b.way b.symbol b.kept)) old new → HasFirst d (map sources_of places) n old
    → HasFirst d (map sources_of places) next new
put-more d places n next b old new good ready within e at put first sbn i j p q r inside =
    let own : get_or (map sources_of places) n [] ≡ sources b.way b.symbol b.kept = sources-at places n ∙ ap sources_of at in
    let is : IsReady (block_size d n) d.symbol b = subst (IsReadyAt (block_size d n) d.symbol) at (ready.each n within) in
    put-by d (map sources_of places) n next sbn i j (sources b.way b.symbol b.kept) old new good within e own (ready-symbols (block_size d n) d.symbol b is) put first p q r inside
    (cases_eq sbn n)

-- once all are
pub all-put : (d : Description) (places : List (Option Block)) (n : ℕ) (new : List ℕ) → IsGood d → AreReadyAt d places → n ≡ block_count d → length new ≡ d.length
    → HasFirst d (map sources_of places) n new → new ≡ joined_file d (map sources_of places)
all-put d places n new good ready all long first =
    joined_file-from d (map sources_of places) new good (are-blocks d places ready) long (λ sbn i j p q r inside. first sbn i j (omega (arith, all, p)) q r inside)
