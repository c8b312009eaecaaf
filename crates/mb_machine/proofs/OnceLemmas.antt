-- A life that was handed out isn't ready.
use Rattle.std.proofs.Common.{◌≡◌, ℕ, ◌+◌, ◌-◌, ◌*◌, ◌/◌, ◌<◌, ◌≤◌, ◌==◌, ◌&&◌, Bool, true, false, not, cond, List, [], ◌∷◌, length, map, find, ◌⊎◌, inl, inr, Option, Some, None, refl, sym, ◌∙◌, ap, arith, eq-eqb}
use Rattle.std.specs.List.{position}
use Rattle.std.proofs.lemmas.Iterator.Adapters.{position_from-zero}
use Rattle.std.proofs.lemmas.Bool.{and_parts, and_right, ne_eqb, not-true, ltb-true}
use Rattle.std.proofs.lemmas.Grind.{common_steps}
use Rattle.mb_geom.specs.Partition.{ceiling, sizes_of}
use Rattle.mb_geom.specs.Description.{Description, IsGood, symbols, block_sizes, blocking, is_block_size, are_parameters}
use Rattle.mb_geom.specs.SourceSymbol.{joined_file}
use Rattle.mb_geom.specs.declared.desc.Scheme.{Scheme}
use Rattle.mb_geom.specs.declared.desc.Scheme.TheVariants.{NoCode, Raptor}
use Rattle.mb_geom.proofs.PartitionLemmas.{le-ceiling-times}
use Rattle.mb_geom.proofs.BlockLemmas.{length-sizes_of, block_sizes-is}
use Rattle.mb_way.specs.Way.{Way, size_of}
use Rattle.mb_way.specs.Ways.{AreWaysOf}
use Rattle.mb_way.specs.Heard.{is_complete}
use Rattle.mb_way.proofs.Keeping.{nothing_kept}
use Rattle.mb_way.proofs.Counting.{complete_count}
use Rattle.mb_file.specs.File.{nothing_kept as nothing_of_each, are_complete, blocks_of}
use Rattle.mb_life.specs.Life.{Life, has_digest, is_wrongly_empty, is_ready, is_damaged}
use Rattle.mb_machine.specs.Table.{life_of}
use Rattle.mb_machine.specs.Laws.{IsFirstReady, HandedOutOnce}
use Rattle.mb_machine.proofs.HandOutLemmas.{found_passes}

-- ---- a file without blocks is empty

some_parts : (i j : ℕ) → (i - (i / j) * j) + (j - (i - (i / j) * j)) ≡ 0 → j ≡ 0
some_parts i j none = omega arith

no_symbols : (m n : ℕ) → 0 < n → ceiling m n ≡ 0 → m ≡ 0
no_symbols m n pos none = let enough : m ≤ 0 * n = rw none at (le-ceiling-times m n pos) in omega (arith, enough)

positive_parameter : (t b : ℕ) → are_parameters t (NoCode b) ≡ true → 0 < b
positive_parameter t b are = ltb-true 0 b are

positive_blocks : (t z n al : ℕ) → are_parameters t (Raptor z n al) ≡ true → 0 < z
positive_blocks t z n al are = grind (arith, common_steps)

empty_blocking : (s : Scheme) (t kt : ℕ) → are_parameters t s ≡ true → (blocking kt s).jl + (blocking kt s).js ≡ 0 → kt ≡ 0
empty_blocking (NoCode b) t kt are none = no_symbols kt b (positive_parameter t b are) (some_parts kt (ceiling kt b) none)
empty_blocking (Raptor z n al) t kt are none = let some = positive_blocks t z n al are in absurd (omega (arith, some_parts kt z none))

pub empty_length : (d : Description) → IsGood d → block_sizes d ≡ [] → d.length ≡ 0
empty_length d good none =
    let sizes : length (sizes_of (blocking (symbols d) d.scheme)) ≡ 0 = ap (length {A = ℕ}) (sym (block_sizes-is d) ∙ none) in
    let parts = sym (length-sizes_of (blocking (symbols d) d.scheme)) ∙ sizes in
    no_symbols d.length d.symbol good.symbol (empty_blocking d.scheme d.symbol (symbols d) good.parameters parts)

-- ---- a block of which nothing is kept isn't complete

not_bad : (b : Bool) (i : ℕ) (others : Option ℕ) → cond (not b) (Some i) others ≡ None → b ≡ true
not_bad true i others none = refl
not_bad false i others none = absurd cc

first_allowed : (s : Scheme) (k : ℕ) (ks : List ℕ) → position (λ n. not (is_block_size s n)) (k ∷ ks) ≡ None → is_block_size s k ≡ true
first_allowed s k ks none = not_bad (is_block_size s k) 0 _ (sym (position_from-zero (λ n. not (is_block_size s n)) (k ∷ ks)) ∙ none)

positive_size : (s : Scheme) (k : ℕ) → is_block_size s k ≡ true → 0 < k
positive_size (NoCode b) k is = grind (arith, common_steps)
positive_size (Raptor z n al) k is = grind (arith, common_steps)

pub nothing-complete : (w : Way) → 0 < size_of w → is_complete w [] ≡ false
nothing-complete w some =
    let other : (0 == size_of w) ≡ false = ne_eqb 0 (size_of w) (λ e. omega (arith, e, some)) in
    complete_count w [] (nothing_kept w) ∙ other

first_open : (d : Description) (ways : List Way) (k : ℕ) (ks : List ℕ) → block_sizes d ≡ k ∷ ks → map size_of ways ≡ block_sizes d
    → position (λ n. not (is_block_size d.scheme n)) (block_sizes d) ≡ None → are_complete ways (nothing_of_each ways) ≡ false
unfolding are_complete
first_open d [] k ks is sizes none = absurd (let empty = sizes ∙ is in cc)
first_open d (w ∷ ways) k ks is sizes none =
    let same : size_of w ≡ k = let both = sizes ∙ is in cc in
    let some : 0 < k = positive_size d.scheme k (first_allowed d.scheme k ks (rw is at none)) in
    rw (nothing-complete w (omega (arith, same, some))) refl

-- ---- what was handed out

no_bytes : (d : Description) (blocks : List (List (List ℕ))) → d.length ≡ 0 → joined_file d blocks ≡ []
unfolding joined_file
no_bytes d blocks none = rw none refl

-- an empty file of a ready life has its digest
undamaged_empty : (life : Life) → life.desc.length ≡ 0 → is_ready life ≡ true → is_damaged life ≡ false
undamaged_empty life none ready =
    let right : not (is_wrongly_empty life.desc) ≡ true = (and_parts _ _ (and_parts _ _ ready).1).0 in
    let empty : (life.desc.length == 0) ≡ true = eq-eqb life.desc.length 0 none in
    let same : not (has_digest life.desc.md5 []) ≡ false = not-true _ (rw empty at right) in
    rw (no_bytes life.desc (blocks_of life.ways life.desc.symbol life.kept) none) same

not_again : (damaged empty : Bool) (ways : List Way) → (damaged ≡ false) ⊎ (are_complete ways (nothing_of_each ways) ≡ false)
    → (not (not damaged) && (not empty && are_complete (cond damaged ways []) (nothing_of_each (cond damaged ways [])))) ≡ false
not_again false empty ways either = refl
not_again true empty ways (inl is) = absurd cc
not_again true empty ways (inr is) = ap (λ (b : Bool). not empty && b) is ∙ and_right (not empty) false refl

by_sizes : (life : Life) (sizes : List ℕ) → block_sizes life.desc ≡ sizes → IsGood life.desc → AreWaysOf life.desc life.ways → is_ready life ≡ true
    → (is_damaged life ≡ false) ⊎ (are_complete life.ways (nothing_of_each life.ways) ≡ false)
by_sizes life [] is good are ready = inl (undamaged_empty life (empty_length life.desc good is) ready)
by_sizes life (k ∷ ks) is good are ready = inr (first_open life.desc life.ways k ks is are.sizes good.sizes)

pub once : HandedOutOnce
once life good are ready = not_again (is_damaged life) (is_wrongly_empty life.desc) life.ways (by_sizes life (block_sizes life.desc) refl good are ready)

-- a life that two searches find is the first to be handed out
pub first_ready : (lives : List Life) (life : Life) → find is_ready lives ≡ Some life → life_of life.toi lives ≡ Some life → IsGood life.desc
    → AreWaysOf life.desc life.ways → IsFirstReady lives life
first_ready lives life first own good are =
    record { first = first; own = own; once = once life good are (found_passes is_ready lives life first) }
