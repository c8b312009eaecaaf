-- Which symbols are asked for: under Compact No-Code each that is not kept.
use Rattle.std.proofs.Common.{◌≡◌, ℕ, zero, suc, ◌+◌, ◌<◌, ◌==◌, ◌||◌, ◌&&◌, Bool, true, false, not, cond, List, [], ◌∷◌, ◌++◌, fold, refl, sym, ◌∙◌, ap, ap₂, arith, append_assoc, eq-eqb}
use Rattle.std.specs.List.{filter, range_with_len, list_all}
use Rattle.std.proofs.lemmas.Bool.{ne_eqb}
use Rattle.std.proofs.lemmas.List.{append-nil, map-id}
use Rattle.std.proofs.lemmas.List.FromFn.{filter_of_map_range_with_len_more}
use Rattle.std.proofs.lemmas.List.Folds.{list_any-append}
use Rattle.mb_bits.specs.BitRow.{bit_in}
use Rattle.mb_encoder.specs.Solutions.{Pair, esis}
use Rattle.mb_way.specs.Way.{Way.NoCode}
use Rattle.mb_way.specs.Determined.{is_determined, is_block_determined}
use Rattle.mb_way.proofs.Rising.{AreBelow, has}
use Rattle.mb_block.specs.Missing.{request}
use Rattle.mb_block.specs.Buffer.{seen}
use Rattle.mb_block.specs.Laws.{SourcesSuffice}
use Rattle.mb_block.proofs.SeenLemmas.{seen-determined}

-- one number more of a range
pub filter-more : (p : ℕ → Bool) (n : ℕ) → filter p (range_with_len 0 (n + 1)) ≡ filter p (range_with_len 0 n) ++ cond (p n) (n ∷ []) []
filter-more p n =
    ap (filter p) (sym (map-id (range_with_len 0 (n + 1))))
    ∙ filter_of_map_range_with_len_more p (λ x. x) 0 n n (omega arith)
    ∙ ap (λ xs. filter p xs ++ cond (p n) (n ∷ []) []) (map-id (range_with_len 0 n))

pub filter-found : (p : ℕ → Bool) (n : ℕ) (bit : Bool) (old new : List ℕ) → old ≡ filter (λ e. not (p e)) (range_with_len 0 n) → bit ≡ p n → bit ≡ false
    → new ≡ old ++ n ∷ [] → new ≡ filter (λ e. not (p e)) (range_with_len 0 (n + 1))
filter-found p n bit old new before reads clear is =
    let here : p n ≡ false = sym reads ∙ clear in
    is ∙ ap (λ xs. xs ++ n ∷ []) before ∙ sym (filter-more (λ e. not (p e)) n ∙ ap (λ b. filter (λ e. not (p e)) (range_with_len 0 n) ++ cond (not b) (n ∷ []) []) here)

pub filter-passed : (p : ℕ → Bool) (n : ℕ) (bit : Bool) (old : List ℕ) → old ≡ filter (λ e. not (p e)) (range_with_len 0 n) → bit ≡ p n → bit ≡ true
    → old ≡ filter (λ e. not (p e)) (range_with_len 0 (n + 1))
filter-passed p n bit old before reads set =
    let here : p n ≡ true = sym reads ∙ set in
    before
    ∙ sym (filter-more (λ e. not (p e)) n ∙ ap (λ b. filter (λ e. not (p e)) (range_with_len 0 n) ++ cond (not b) (n ∷ []) []) here
    ∙ append-nil (filter (λ e. not (p e)) (range_with_len 0 n)))

filter-same : (p q : ℕ → Bool) (n a end : ℕ) → a + n ≡ end → ((e : ℕ) → e < end → p e ≡ q e) → filter p (range_with_len a n) ≡ filter q (range_with_len a n)
filter-same p q zero a end is same = refl
filter-same p q (suc n) a end is same =
    ap₂ (λ (b : Bool) (es : List ℕ). cond b (a ∷ es) es) (same a (omega arith)) (filter-same p q n (a + 1) end (omega arith) same)

-- ---- what is asked for

below-next : (a : ℕ) (es : List ℕ) → AreBelow a es → AreBelow (a + 1) (es ++ a ∷ [])
below-next a [] below = (omega arith, tt)
below-next a (e ∷ es) below = let first = below.0 in (omega arith, below-next a es below.1)

below-more : (a : ℕ) (es : List ℕ) → AreBelow a es → AreBelow (a + 1) es
below-more a [] below = tt
below-more a (e ∷ es) below = let first = below.0 in (omega arith, below-more a es below.1)

has-above : (a : ℕ) (es : List ℕ) → AreBelow a es → has a es ≡ false
has-above a [] below = refl
has-above a (e ∷ es) below = ap₂ ◌||◌ (ne_eqb e a (λ is. let first = below.0 in omega arith)) (has-above a es below.1)

or-none : (b c : Bool) → c ≡ false → (b || c) ≡ b
or-none true c none = refl
or-none false c none = none

-- with what is already chosen
chosen : List ℕ → List ℕ → ℕ → ℕ → List ℕ
chosen es so_far n a = fold (λ chosen e. cond (has e (es ++ chosen)) chosen (chosen ++ e ∷ [])) so_far (range_with_len a n)

chosen-step : (b : Bool) (es so_far : List ℕ) (n a : ℕ) → chosen es so_far n (a + 1) ≡ so_far ++ filter (λ e. not (has e es)) (range_with_len (a + 1) n)
    → chosen es (so_far ++ a ∷ []) n (a + 1) ≡ (so_far ++ a ∷ []) ++ filter (λ e. not (has e es)) (range_with_len (a + 1) n)
    → chosen es (cond b so_far (so_far ++ a ∷ [])) n (a + 1)
    ≡ so_far ++ cond (not b) (a ∷ filter (λ e. not (has e es)) (range_with_len (a + 1) n)) (filter (λ e. not (has e es)) (range_with_len (a + 1) n))
chosen-step true es so_far n a without one = without
chosen-step false es so_far n a without one = one ∙ append_assoc so_far (a ∷ []) (filter (λ e. not (has e es)) (range_with_len (a + 1) n))

chosen-is : (es so_far : List ℕ) (n a : ℕ) → AreBelow a so_far → chosen es so_far n a ≡ so_far ++ filter (λ e. not (has e es)) (range_with_len a n)
unfolding chosen
chosen-is es so_far zero a below = sym (append-nil so_far)
chosen-is es so_far (suc n) a below =
    let here : has a (es ++ so_far) ≡ has a es =
    list_any-append (λ e. e == a) es so_far ∙ or-none (has a es) (has a so_far) (has-above a so_far below) in
    ap (λ b. chosen es (cond b so_far (so_far ++ a ∷ [])) n (a + 1)) here
    ∙ chosen-step (has a es) es so_far n a (chosen-is es so_far n (a + 1) (below-more a so_far below))
    (chosen-is es (so_far ++ a ∷ []) n (a + 1) (below-next a so_far below))

pub request-is : (k : ℕ) (kept : List Pair) → request (NoCode k) kept ≡ filter (λ e. not (has e (esis kept))) (range_with_len 0 k)
unfolding chosen is_determined
request-is k kept = chosen-is (esis kept) [] k 0 tt

-- by what calls gave
pub missing-places : (k t : ℕ) (bytes words read items : List ℕ) → read ≡ words → items ≡ filter (λ e. not (bit_in read e)) (range_with_len 0 k)
    → items ≡ request (NoCode k) (seen k t bytes words)
unfolding is_determined
missing-places k t bytes words read items read_is items_are =
    items_are ∙ ap (λ ws. filter (λ e. not (bit_in ws e)) (range_with_len 0 k)) read_is
    ∙ filter-same (λ e. not (bit_in words e)) (λ e. not (has e (esis (seen k t bytes words)))) k 0 k (omega arith)
    (λ e within. ap not (sym (seen-determined k t bytes words e within)))
    ∙ sym (request-is k (seen k t bytes words))

-- ---- all source symbols determine the block

or-both : (b c : Bool) → c ≡ true → (b || c) ≡ true
or-both true c is = refl
or-both false c is = is

range-has : (n a e i : ℕ) → i < n → e ≡ a + i → has e (range_with_len a n) ≡ true
range-has zero a e i lt is = absurd (omega arith)
range-has (suc n) a e zero lt is = ap (λ b. b || has e (range_with_len (a + 1) n)) (eq-eqb a e (omega arith))
range-has (suc n) a e (suc i) lt is = or-both (a == e) (has e (range_with_len (a + 1) n)) (range-has n (a + 1) e i (omega arith) (omega arith))

all-range : (es : List ℕ) (k n a : ℕ) → a + n ≡ k → list_all (λ e. has e (es ++ range_with_len 0 k)) (range_with_len a n) ≡ true
all-range es k zero a is = refl
all-range es k (suc n) a is =
    let here : has a (es ++ range_with_len 0 k) ≡ true =
    list_any-append (λ e. e == a) es (range_with_len 0 k) ∙ or-both (has a es) (has a (range_with_len 0 k)) (range-has k 0 a a (omega arith) (omega arith)) in
    ap₂ ◌&&◌ here (all-range es k n (a + 1) (omega arith))

pub suffice : SourcesSuffice
unfolding is_block_determined is_determined
suffice k kept = all-range (esis kept) k k 0 (omega arith)
