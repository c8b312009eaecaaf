-- Bytes that are no UTF-8 are valid up to a place.
use Rattle.std.proofs.Common.{◌≡◌, ℕ, zero, suc, ◌<◌, ◌≤◌, Bool, true, false, cond, List, length, take, IsUtf8, refl, sym, ap, subst, ◌∙◌, inl, inr, arith, take_all}
use Rattle.std.specs.Str.{is_utf8, IsValidUpTo}
use Rattle.std.specs.Str.Lossy.{valid_len_up_to, utf8_valid_len}
use Rattle.std.proofs.lemmas.Str.{is_utf8-from_IsUtf8, IsUtf8-from_is_utf8, IsUtf8-nil}
use Rattle.std.proofs.lemmas.Bool.{both_ways, cases_lt, cases_eq}

-- the test is what IsUtf8 says
pub no_utf8_is : (bytes : List ℕ) → is_utf8 bytes ≡ false → IsUtf8 bytes → ⊥
no_utf8_is bytes other is = both_ways (is_utf8 bytes) other (is_utf8-from_IsUtf8 bytes is)

empty_utf8 : (bytes : List ℕ) → IsUtf8 (take 0 bytes)
empty_utf8 bytes = IsUtf8-nil

-- up to a length: the longest front that is UTF-8
record Longest (bytes : List ℕ) (n valid : ℕ) : Type 0 where
  front : IsUtf8 (take valid bytes)
  within : valid ≤ n
  longest : (m : ℕ) → valid < m → m ≤ n → IsUtf8 (take m bytes) → ⊥

longest_valid : (bytes : List ℕ) (n : ℕ) → Longest bytes n (valid_len_up_to bytes n)
longest_valid bytes zero = record { front = empty_utf8 bytes; within = omega arith; longest = λ m above most is. omega arith }
longest_valid bytes (suc n) = by_test (is_utf8 (take (suc n) bytes)) refl (longest_valid bytes n)
  where
    by_test : (t : Bool) → is_utf8 (take (suc n) bytes) ≡ t → Longest bytes n (valid_len_up_to bytes n) → Longest bytes (suc n) (valid_len_up_to bytes (suc n))
    by_test true holds before =
        subst (Longest bytes (suc n)) (sym (ap (λ (b : Bool). cond b (suc n) (valid_len_up_to bytes n)) holds))
        (record { front = IsUtf8-from_is_utf8 (take (suc n) bytes) holds; within = omega arith; longest = λ m above most is. omega arith })
    by_test false fails before =
        subst (Longest bytes (suc n)) (sym (ap (λ (b : Bool). cond b (suc n) (valid_len_up_to bytes n)) fails))
        (record {
          front = before.front;
          within = (let w = before.within in omega arith);
          longest = λ m above most is. elim (cases_eq m (suc n)) [
            | inl same ↦ no_utf8_is (take (suc n) bytes) fails (subst (λ (k : ℕ). IsUtf8 (take k bytes)) same is)
            | inr other ↦ before.longest m above (omega arith) is
          ];
        })

-- bytes that are no UTF-8 are valid up to their longest front that is
pub valid_up_to : (bytes : List ℕ) → is_utf8 bytes ≡ false → IsValidUpTo bytes (utf8_valid_len bytes)
unfolding utf8_valid_len
valid_up_to bytes fails =
    let is = longest_valid bytes (length bytes) in
    let whole : take (length bytes) bytes ≡ bytes = take_all (length bytes) bytes (omega arith) in
    record {
      short = elim (cases_eq (valid_len_up_to bytes (length bytes)) (length bytes)) [
        | inl same ↦ absurd (no_utf8_is bytes fails (subst IsUtf8 (ap (λ (k : ℕ). take k bytes) same ∙ whole) is.front))
        | inr other ↦ (let w = is.within in omega arith)
      ];
      front = is.front;
      longest = λ m above utf8. elim (cases_lt (length bytes) m) [
        | inl beyond ↦ no_utf8_is bytes fails (subst IsUtf8 (take_all m bytes (omega arith)) utf8)
        | inr within ↦ is.longest m above within utf8
      ];
    }
