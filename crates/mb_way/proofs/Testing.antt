-- The tests of what ESIs determine under Raptor say what the equations say.
use Rattle.std.proofs.Common.{◌≡◌, ◌↔◌, ℕ, zero, suc, ◌+◌, ◌||◌, Bool, true, false, not, List, [], ◌∷◌, length, refl, ap, ap₂, ◌∙◌, arith}
use Rattle.std.specs.List.{AllByRecursion, list_all, range_with_len}
use Rattle.std.proofs.lemmas.Bool.{and_parts, and_from, not-true, iff_false, false_from_ne_true}
use Rattle.mb_linear.specs.Row.{zeros, value_over}
use Rattle.mb_rows.specs.Code.{RaptorCode, l_of}
use Rattle.mb_rows.specs.Walk.{lt_row}
use Rattle.mb_rows.specs.Constraints.{constraint_row}
use Rattle.mb_rows.specs.Determined.{AreZeroAt, Determines, DetermineBlock}
use Rattle.mb_way.specs.Way.{Way.Raptor}
use Rattle.mb_way.specs.Determined.{is_zero, are_zero_at, all_values, is_determined, is_block_determined}
use Rattle.mb_way.specs.Laws.{DeterminedIsTested, BlockIsTested}
use Rattle.mb_way.proofs.Lists.{all_true, all_from, IsAmong, among_first, among_later, below_true, below_all, among_lists, lists_pass}

-- ---- values that are zero at ESIs

zero_tested : (c : RaptorCode) (es : List ℕ) (values : List Bool) → length values ≡ l_of c → are_zero_at c es values ≡ true → AreZeroAt c es values
zero_tested c es values long h =
    let parts = and_parts (list_all (λ i. is_zero (constraint_row c i) values) (range_with_len 0 (c.row.s + c.h))) (list_all (λ e. is_zero (lt_row c e) values) es) h in record {
      meets = record {
        places = long;
        each = λ i p. not-true (value_over (constraint_row c i) values) (below_true (λ i. is_zero (constraint_row c i) values) (c.row.s + c.h) parts.0 i p);
      };
      each = all_true (λ e. value_over (lt_row c e) values ≡ false) (λ e. is_zero (lt_row c e) values) es (λ e z. not-true (value_over (lt_row c e) values) z) parts.1;
    }

tested_zero : (c : RaptorCode) (es : List ℕ) (values : List Bool) → AreZeroAt c es values → are_zero_at c es values ≡ true
tested_zero c es values z =
    and_from (list_all (λ i. is_zero (constraint_row c i) values) (range_with_len 0 (c.row.s + c.h))) (list_all (λ e. is_zero (lt_row c e) values) es)
    (below_all (λ i. is_zero (constraint_row c i) values) (c.row.s + c.h) (λ i p. ap not (z.meets.each i p)))
    (all_from (λ e. value_over (lt_row c e) values ≡ false) (λ e. is_zero (lt_row c e) values) es (λ e is. ap not is) z.each)

-- ---- a test over all such values

bit_among : (b : Bool) → IsAmong (false ∷ true ∷ []) b
bit_among false = among_first false (true ∷ [])
bit_among true = among_later false true (true ∷ []) (among_first true [])

bits_among : (values : List Bool) → AllByRecursion (IsAmong (false ∷ true ∷ [])) values
bits_among [] = tt
bits_among (b ∷ values) = (bit_among b, bits_among values)

then_true : (a b : Bool) → (not a || b) ≡ true → a ≡ true → b ≡ true
then_true true b h e = h
then_true false b h e = absurd (cc)

true_then : (a b : Bool) → (a ≡ true → b ≡ true) → (not a || b) ≡ true
true_then true b f = f refl
true_then false b f = refl

tested : (c : RaptorCode) (es : List ℕ) (q : List Bool → Bool) → list_all (λ values. not (are_zero_at c es values) || q values) (all_values c) ≡ true
    → (values : List Bool) → AreZeroAt c es values → q values ≡ true
tested c es q h values z =
    then_true (are_zero_at c es values) (q values)
    ((among_lists (false ∷ true ∷ []) (l_of c) values z.meets.places (bits_among values)).passes (λ values. not (are_zero_at c es values) || q values) h)
    (tested_zero c es values z)

test_from : (c : RaptorCode) (es : List ℕ) (q : List Bool → Bool) → ((values : List Bool) → AreZeroAt c es values → q values ≡ true)
    → list_all (λ values. not (are_zero_at c es values) || q values) (all_values c) ≡ true
test_from c es q f =
    lists_pass (λ values. not (are_zero_at c es values) || q values) (false ∷ true ∷ []) (l_of c)
    (λ values long among. true_then (are_zero_at c es values) (q values) (λ t. f values (zero_tested c es values long t)))

-- ---- one symbol

pub determined_tested : DeterminedIsTested
unfolding is_determined
determined_tested c es esi = (
  λ h values z. not-true (value_over (lt_row c esi) values) (tested c es (is_zero (lt_row c esi)) h values z),
  λ d. test_from c es (is_zero (lt_row c esi)) (λ values z. ap not (d values z)),
)

pub not_determined : (c : RaptorCode) (es : List ℕ) (esi : ℕ) → is_determined (Raptor c) es esi ≡ false ↔ (Determines c es esi → ⊥)
not_determined c es esi = (
  λ e. iff_false (determined_tested c es esi) e,
  λ f. false_from_ne_true (is_determined (Raptor c) es esi) (λ e. f ((determined_tested c es esi).0 e)),
)

-- ---- the block

none_set : (n : ℕ) (values : List Bool) → length values ≡ n → list_all not values ≡ true → values ≡ zeros n
unfolding zeros
none_set zero [] e h = refl
none_set zero (b ∷ values) e h = absurd (omega arith)
none_set (suc n) [] e h = absurd (omega arith)
none_set (suc n) (b ∷ values) e h =
    let parts = and_parts (not b) (list_all not values) h in
    ap₂ (λ (b : Bool) (bs : List Bool). b ∷ bs) (not-true b parts.0) (none_set n values (omega arith) parts.1)

zeros_unset : (n : ℕ) → list_all not (zeros n) ≡ true
unfolding zeros
zeros_unset zero = refl
zeros_unset (suc n) = zeros_unset n

pub block_tested : BlockIsTested
unfolding is_block_determined
block_tested c es = (
  λ h values z. none_set (l_of c) values z.meets.places (tested c es (list_all not) h values z),
  λ d. test_from c es (list_all not) (λ values z. ap (list_all not) (d values z) ∙ zeros_unset (l_of c)),
)

pub block_not_determined : (c : RaptorCode) (es : List ℕ) → is_block_determined (Raptor c) es ≡ false ↔ (DetermineBlock c es → ⊥)
block_not_determined c es = (
  λ e. iff_false (block_tested c es) e,
  λ f. false_from_ne_true (is_block_determined (Raptor c) es) (λ e. f ((block_tested c es).0 e)),
)
