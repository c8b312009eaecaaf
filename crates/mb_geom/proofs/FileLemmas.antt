-- A file is the one that its source symbols make: runs of its bytes follow each other.
use Rattle.std.proofs.Common.{◌≡◌, ℕ, zero, suc, ◌+◌, ◌*◌, ◌<◌, ◌≤◌, List, [], ◌∷◌, ◌++◌, length, slice_index, take, drop, map, sum, refl, sym, ◌∙◌, ap, subst, arith}
use Rattle.std.specs.List.{concat, range_with_len}
use Rattle.std.proofs.lemmas.List.{map-append, append-nil, take_all, drop-map}
use Rattle.std.proofs.lemmas.List.Folds.{concat-append}
use Rattle.std.proofs.lemmas.List.Sums.{sum_by_more}
use Rattle.std.proofs.lemmas.List.FromFn.{take-map-range_with_len, map-range_with_len_more, fill_by_all}
use Rattle.std.proofs.lemmas.Simd.{map-map}
use Rattle.mb_geom.specs.Description.{Description, block_sizes, block_size, block_count}
use Rattle.mb_geom.specs.SourceSymbol.{place_in_block, sub_sizes, symbols_before, source_symbol, source_symbols, source_blocks, joined_block, joined_file}
use Rattle.mb_geom.proofs.SymbolLemmas.{sum-cons, place-first, place-later}

-- ---- runs of numbers, and what a function makes of them

pub map-same : {X : Type 0} (f g : ℕ → X) (a n : ℕ) → ((i : ℕ) → a ≤ i → i < a + n → f i ≡ g i) → map f (range_with_len a n) ≡ map g (range_with_len a n)
map-same f g a zero same = refl
map-same f g a (suc n) same =
    rw (same a (omega arith) (omega arith), map-same f g (a + 1) n (λ i from below. same i (omega arith) (omega arith))) refl

range_split : (a m n : ℕ) → range_with_len a (m + n) ≡ range_with_len a m ++ range_with_len (a + m) n
range_split a zero n =
    let all : 0 + n ≡ n = omega arith in
    let same : a + 0 ≡ a = omega arith in
    rw (all, same) refl
range_split a (suc m) n =
    let more : suc m + n ≡ suc (m + n) = omega arith in
    let next : a + 1 + m ≡ a + suc m = omega arith in
    rw more (ap (λ xs. a ∷ xs) (range_split (a + 1) m n ∙ ap (λ b. range_with_len (a + 1) m ++ range_with_len b n) next))

map-split : (f : ℕ → ℕ) (a m n : ℕ) → map f (range_with_len a m) ++ map f (range_with_len (a + m) n) ≡ map f (range_with_len a (m + n))
map-split f a m n = sym (ap (map f) (range_split a m n) ∙ map-append f (range_with_len a m) (range_with_len (a + m) n))

map-shift : {X : Type 0} (f : ℕ → X) (a b n : ℕ) → map f (range_with_len (a + b) n) ≡ map (λ p. f (a + p)) (range_with_len b n)
map-shift f a b zero = refl
map-shift f a b (suc n) =
    let next : a + b + 1 ≡ a + (b + 1) = omega arith in
    rw next (ap (λ xs. f (a + b) ∷ xs) (map-shift f a (b + 1) n))

from_zero : {X : Type 0} (f : ℕ → X) (a n : ℕ) → map (λ p. f (a + p)) (range_with_len 0 n) ≡ map f (range_with_len a n)
from_zero f a n =
    let whole : a + 0 ≡ a = omega arith in
    sym (map-shift f a 0 n) ∙ ap (λ b. map f (range_with_len b n)) whole

drop-range : (m a n : ℕ) → drop m (range_with_len a (m + n)) ≡ range_with_len (a + m) n
drop-range zero a n =
    let all : 0 + n ≡ n = omega arith in
    let same : a + 0 ≡ a = omega arith in
    rw (all, same) refl
drop-range (suc m) a n =
    let more : suc m + n ≡ suc (m + n) = omega arith in
    let next : a + 1 + m ≡ a + suc m = omega arith in
    rw (more, ← next) (drop-range m (a + 1) n)

-- ---- a block

-- rows of so many bytes follow each other
rows_joined : (f : ℕ → ℕ) (size a k : ℕ) →
    concat (map (λ i. map (λ j. f (i * size + j)) (range_with_len 0 size)) (range_with_len a k)) ≡ map f (range_with_len (a * size) (k * size))
rows_joined f size a zero =
    let none : 0 * size ≡ 0 = omega arith in
    rw none refl
rows_joined f size a (suc k) =
    let first : map (λ j. f (a * size + j)) (range_with_len 0 size) ≡ map f (range_with_len (a * size) size) = from_zero f (a * size) size in
    let next : (a + 1) * size ≡ a * size + size = omega arith in
    let all : suc k * size ≡ size + k * size = omega arith in
    rw (first, rows_joined f size (a + 1) k, next, all) (map-split f (a * size) size (k * size))

-- byte j of symbol i, where a function of the place gives the bytes of a block
abbrev block_byte : (ℕ → ℕ) → List ℕ → ℕ → ℕ → ℕ → ℕ
block_byte f sizes k i j = f (place_in_block sizes k i j)

-- the source symbols of that block, of t bytes
abbrev block_symbols : (ℕ → ℕ) → List ℕ → ℕ → ℕ → List (List ℕ)
block_symbols f sizes k t = map (λ i. map (block_byte f sizes k i) (range_with_len 0 t)) (range_with_len 0 k)

fronts : (f : ℕ → ℕ) (size : ℕ) (others : List ℕ) (k rest : ℕ) →
    map (take size) (block_symbols f (size ∷ others) k (size + rest)) ≡ map (λ i. map (λ j. f (i * size + j)) (range_with_len 0 size)) (range_with_len 0 k)
fronts f size others k rest =
    let byte : ℕ → ℕ → ℕ = block_byte f (size ∷ others) k in
    let front : (i : ℕ) → take size (map (byte i) (range_with_len 0 (size + rest))) ≡ map (λ j. f (i * size + j)) (range_with_len 0 size) =
    λ i. (take-map-range_with_len (byte i) 0 (size + rest) size (omega arith)
    ∙ map-same (byte i) (λ j. f (i * size + j)) 0 size (λ j from below. ap f (place-first size k i j others (omega arith)))) in
    map-map (take size) (λ i. map (byte i) (range_with_len 0 (size + rest))) (range_with_len 0 k)
    ∙ map-same (λ i. take size (map (byte i) (range_with_len 0 (size + rest)))) _ 0 k (λ i from below. front i)

backs : (f : ℕ → ℕ) (size : ℕ) (others : List ℕ) (k rest : ℕ) →
    map (drop size) (block_symbols f (size ∷ others) k (size + rest)) ≡ block_symbols (λ p. f (k * size + p)) others k rest
backs f size others k rest =
    let byte : ℕ → ℕ → ℕ = block_byte f (size ∷ others) k in
    let later : ℕ → ℕ → ℕ = block_byte (λ p. f (k * size + p)) others k in
    let begin : 0 + size ≡ size = omega arith in
    let back : (i : ℕ) → drop size (map (byte i) (range_with_len 0 (size + rest))) ≡ map (later i) (range_with_len 0 rest) =
    λ i. (drop-map (byte i) size (range_with_len 0 (size + rest))
    ∙ ap (map (byte i)) (drop-range size 0 rest ∙ ap (λ b. range_with_len b rest) begin)
    ∙ sym (from_zero (byte i) size rest)
    ∙ map-same (λ j. byte i (size + j)) (later i) 0 rest (λ j from below. ap f (place-later size k i j others))) in
    map-map (drop size) (λ i. map (byte i) (range_with_len 0 (size + rest))) (range_with_len 0 k)
    ∙ map-same (λ i. drop size (map (byte i) (range_with_len 0 (size + rest)))) _ 0 k (λ i from below. back i)

block_step : (f : ℕ → ℕ) (size : ℕ) (others : List ℕ) (k rest : ℕ) →
    joined_block others (block_symbols (λ p. f (k * size + p)) others k rest) ≡ map (λ p. f (k * size + p)) (range_with_len 0 (k * rest)) →
    joined_block (size ∷ others) (block_symbols f (size ∷ others) k (size + rest)) ≡ map f (range_with_len 0 (k * (size + rest)))
unfolding joined_block
block_step f size others k rest joined =
    let none : 0 * size ≡ 0 = omega arith in
    let first : concat (map (take size) (block_symbols f (size ∷ others) k (size + rest))) ≡ map f (range_with_len 0 (k * size)) =
    ap concat (fronts f size others k rest) ∙ rows_joined f size 0 k ∙ ap (λ a. map f (range_with_len a (k * size))) none in
    let behind : 0 + k * size ≡ k * size = omega arith in
    let second : joined_block others (map (drop size) (block_symbols f (size ∷ others) k (size + rest))) ≡ map f (range_with_len (0 + k * size) (k * rest)) =
    ap (joined_block others) (backs f size others k rest) ∙ joined ∙ from_zero f (k * size) (k * rest) ∙ ap (λ a. map f (range_with_len a (k * rest))) (sym behind) in
    let all : k * size + k * rest ≡ k * (size + rest) = omega arith in
    ap (λ xs. xs ++ joined_block others (map (drop size) (block_symbols f (size ∷ others) k (size + rest)))) first
    ∙ ap (λ ys. map f (range_with_len 0 (k * size)) ++ ys) second
    ∙ map-split f 0 (k * size) (k * rest)
    ∙ ap (λ n. map f (range_with_len 0 n)) all

-- the source symbols of a block make the block
pub block-joined : (f : ℕ → ℕ) (sizes : List ℕ) (k : ℕ) →
    joined_block sizes (block_symbols f sizes k (sum sizes)) ≡ map f (range_with_len 0 (k * sum sizes))
unfolding joined_block
block-joined f [] k =
    let none : k * 0 ≡ 0 = omega arith in
    rw none refl
block-joined f (size ∷ others) k =
    let whole : size + sum others ≡ sum (size ∷ others) = sym (sum-cons size others) in
    subst (λ (t : ℕ). joined_block (size ∷ others) (block_symbols f (size ∷ others) k t) ≡ map f (range_with_len 0 (k * t))) whole
    (block_step f size others k (sum others) (block-joined (λ p. f (k * size + p)) others k))

-- ---- a file

-- runs whose lengths are given follow each other
runs_joined : (f : ℕ → ℕ) (t : ℕ) (counts : List ℕ) (n : ℕ) → n ≤ length counts →
    concat (map (λ m. map f (range_with_len (sum (take m counts) * t) (slice_index counts m * t))) (range_with_len 0 n)) ≡ map f (range_with_len 0 (sum (take n counts) * t))
runs_joined f t counts zero within =
    let none : 0 * t ≡ 0 = omega arith in
    rw none refl
runs_joined f t counts (suc n) within =
    let run : ℕ → List ℕ = λ m. map f (range_with_len (sum (take m counts) * t) (slice_index counts m * t)) in
    let before : ℕ = sum (take n counts) * t in
    let next : suc n ≡ n + 1 = omega arith in
    let more : sum (take (n + 1) counts) ≡ sum (take n counts) + slice_index counts n = sum_by_more (λ (y : ℕ). y) counts n 0 (omega arith) in
    let all : before + slice_index counts n * t ≡ sum (take (suc n) counts) * t = rw (next, more) (omega arith) in
    let start : 0 + before ≡ before = omega arith in
    let pieces : map run (range_with_len 0 (suc n)) ≡ map run (range_with_len 0 n) ++ run n ∷ [] =
    ap (λ m. map run (range_with_len 0 m)) next ∙ map-range_with_len_more run 0 n n (omega arith) in
    let last : concat (run n ∷ []) ≡ map f (range_with_len (0 + before) (slice_index counts n * t)) =
    append-nil (run n) ∙ ap (λ a. map f (range_with_len a (slice_index counts n * t))) (sym start) in
    ap concat pieces
    ∙ concat-append (map run (range_with_len 0 n)) (run n ∷ [])
    ∙ ap (λ xs. xs ++ concat (run n ∷ [])) (runs_joined f t counts n (omega arith))
    ∙ ap (λ ys. map f (range_with_len 0 before) ++ ys) last
    ∙ map-split f 0 before (slice_index counts n * t)
    ∙ ap (λ m. map f (range_with_len 0 m)) all

-- a block's source symbols make its run of the file
block_of_file : (d : Description) (file : List ℕ) (sbn : ℕ) → sum (sub_sizes d) ≡ d.symbol →
    joined_block (sub_sizes d) (source_symbols d file sbn) ≡ map (slice_index file) (range_with_len (symbols_before d sbn * d.symbol) (block_size d sbn * d.symbol))
unfolding source_symbol
block_of_file d file sbn whole =
    let f : ℕ → ℕ = λ p. slice_index file (symbols_before d sbn * d.symbol + p) in
    let joined : joined_block (sub_sizes d) (block_symbols f (sub_sizes d) (block_size d sbn) d.symbol) ≡ map f (range_with_len 0 (block_size d sbn * d.symbol)) =
    subst (λ (t : ℕ). joined_block (sub_sizes d) (block_symbols f (sub_sizes d) (block_size d sbn) t) ≡ map f (range_with_len 0 (block_size d sbn * t))) whole
    (block-joined f (sub_sizes d) (block_size d sbn)) in
    joined ∙ from_zero (slice_index file) (symbols_before d sbn * d.symbol) (block_size d sbn * d.symbol)

front_of_file : (file : List ℕ) (len n : ℕ) → length file ≡ len → len ≤ n → take len (map (slice_index file) (range_with_len 0 n)) ≡ file
front_of_file file len n long enough =
    take-map-range_with_len (slice_index file) 0 n len enough ∙ sym (fill_by_all (slice_index file) file len 0 long (λ k below. refl))

-- what the law needs of a description
pub record HasLayout (d : Description) : Type 0 where
  pub sub_symbols : sum (sub_sizes d) ≡ d.symbol
  pub enough : d.length ≤ sum (block_sizes d) * d.symbol

pub joined_file-is : (d : Description) (file : List ℕ) → HasLayout d → length file ≡ d.length → joined_file d (source_blocks d file) ≡ file
unfolding joined_file
joined_file-is d file layout long =
    let run : ℕ → List ℕ = λ sbn. map (slice_index file) (range_with_len (symbols_before d sbn * d.symbol) (block_size d sbn * d.symbol)) in
    let blocks_are : map (joined_block (sub_sizes d)) (source_blocks d file) ≡ map run (range_with_len 0 (block_count d)) =
    map-map (joined_block (sub_sizes d)) (source_symbols d file) (range_with_len 0 (block_count d))
    ∙ map-same (λ sbn. joined_block (sub_sizes d) (source_symbols d file sbn)) run 0 (block_count d) (λ sbn from below. block_of_file d file sbn layout.sub_symbols) in
    let whole : sum (take (block_count d) (block_sizes d)) ≡ sum (block_sizes d) = ap sum (take_all (block_count d) (block_sizes d) (omega arith)) in
    ap (λ blocks. take d.length (concat blocks)) blocks_are
    ∙ ap (take d.length) (runs_joined (slice_index file) d.symbol (block_sizes d) (block_count d) (omega arith))
    ∙ front_of_file file d.length _ long (rw whole layout.enough)
