-- Numbers, digit by digit.
use Rattle.std.proofs.Common.{◌≡◌, ℕ, ◌+◌, ◌*◌, ◌<◌, ◌≤◌, ◌&&◌, true, false, nat_lt, List, [], ◌∷◌, length, get_or, drop, Option, None, refl, inl, inr, arith}
use Rattle.std.specs.List.{list_all}
use Rattle.std.specs.Char.{is_digit, digit_value}
use Rattle.std.specs.Str.Parse.{digits_value, digits_value_after}
use Rattle.std.proofs.lemmas.List.{drop_more, drop_all}
use Rattle.std.proofs.lemmas.Bool.{cases_Bool, lt-ltb, le-ltb}
use Rattle.std.proofs.Math.Nat.{mul-le-mul_left}
use Rattle.mb_xml.specs.Value.{some_if}

-- what the digits to come make of the number that is known
pub digits_from : ℕ → ℕ → ℕ → List ℕ → Option ℕ
digits_from radix limit number ds = some_if (list_all (λ d. is_digit d radix) ds && nat_lt (digits_value_after radix number ds) limit) (digits_value_after radix number ds)

pub digits_whole : (radix limit : ℕ) (ds : List ℕ) → digits_from radix limit 0 ds ≡ some_if (list_all (λ d. is_digit d radix) ds && nat_lt (digits_value radix ds) limit) (digits_value radix ds)
unfolding digits_from
digits_whole radix limit ds = refl

pub digits_step : (radix limit number : ℕ) (ds : List ℕ) (i d : ℕ) → i < length ds → d ≡ digit_value (get_or ds i 0) → d < radix
    → digits_from radix limit number (drop i ds) ≡ digits_from radix limit (number * radix + d) (drop (i + 1) ds)
unfolding digits_from
digits_step radix limit number ds i d within is digit =
    let test : nat_lt (digit_value (get_or ds i 0)) radix ≡ true = lt-ltb (digit_value (get_or ds i 0)) radix (omega (arith, is, digit)) in
    rw (drop_more ds i 0 within, test, is) refl

pub digits_other : (radix limit number : ℕ) (ds : List ℕ) (i : ℕ) → i < length ds → radix ≤ digit_value (get_or ds i 0)
    → digits_from radix limit number (drop i ds) ≡ None
unfolding digits_from
digits_other radix limit number ds i within other =
    let test : nat_lt (digit_value (get_or ds i 0)) radix ≡ false = le-ltb (digit_value (get_or ds i 0)) radix other in
    rw (drop_more ds i 0 within, test) refl

pub le_value_after : (radix number : ℕ) (ds : List ℕ) → 0 < radix → number ≤ digits_value_after radix number ds
le_value_after radix number [] some = omega arith
le_value_after radix number (c ∷ cs) some =
    let grows : number * 1 ≤ number * radix = mul-le-mul_left number (omega (arith, some)) in
    omega (arith, grows, le_value_after radix (number * radix + digit_value c) cs some)

pub digits_large : (radix limit number : ℕ) (ds : List ℕ) → 0 < radix → limit ≤ number → digits_from radix limit number ds ≡ None
unfolding digits_from
digits_large radix limit number ds some large =
    let test : nat_lt (digits_value_after radix number ds) limit ≡ false = le-ltb (digits_value_after radix number ds) limit (omega (arith, le_value_after radix number ds some, large)) in
    elim (cases_Bool (list_all (λ d. is_digit d radix) ds)) [
      | inl passes ↦ rw (passes, test) refl
      | inr fails ↦ rw fails refl
    ]

pub digits_end : (radix limit number : ℕ) (ds : List ℕ) (i : ℕ) → length ds ≤ i → digits_from radix limit number (drop i ds) ≡ some_if (nat_lt number limit) number
unfolding digits_from
digits_end radix limit number ds i end = rw (drop_all i ds end) refl
