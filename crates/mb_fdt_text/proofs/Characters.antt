-- Classes of bytes, told apart.
use Rattle.std.proofs.Common.{◌≡◌, ◌≢◌, ℕ, Bool, true, false, ◌==◌, ◌&&◌, ◌||◌, nat_le, List, [], ◌∷◌, ◌++◌, refl, sym, ap, subst, ◌∙◌, inl, inr, eqb-true, eq-eqb}
use Rattle.std.proofs.lemmas.Bool.{cases_Bool, both_ways, or_cases, or_left}
use Rattle.mb_xml.specs.Name.{is_space, is_name_start, is_name_byte, IsName}
use Rattle.mb_fdt_text.proofs.Lists.{each_push}

-- a byte that passes a test is no byte that doesn't
pub apart : (p : ℕ → Bool) (b c : ℕ) → p b ≡ true → p c ≡ false → (b == c) ≡ false
apart p b c holds fails = elim (cases_Bool (b == c)) [
  | inl t ↦ absurd (both_ways (p c) fails (ap p (sym (eqb-true b c t)) ∙ holds))
  | inr t ↦ t
]

-- the test of two bytes that differ, and what it says
pub not_equal : (b c : ℕ) → b ≢ c → (b == c) ≡ false
not_equal b c other = elim (cases_Bool (b == c)) [
  | inl t ↦ absurd (other (eqb-true b c t))
  | inr t ↦ t
]

-- two bytes of which the test fails differ
pub equal_not : (b c : ℕ) → (b == c) ≡ false → b ≢ c
equal_not b c fails e = both_ways (b == c) fails (eq-eqb b c e)

-- white space is one of four bytes
pub space_is : (P : ℕ → Type 0) (b : ℕ) → is_space b ≡ true → P 32 → P 9 → P 13 → P 10 → P b
space_is P b e space tab return feed = elim (or_cases ((b == 32) || (b == 9) || (b == 13)) (b == 10) e) [
  | inl first ↦ elim (or_cases ((b == 32) || (b == 9)) (b == 13) first) [
    | inl second ↦ elim (or_cases (b == 32) (b == 9) second) [
      | inl t ↦ subst P (sym (eqb-true b 32 t)) space
      | inr t ↦ subst P (sym (eqb-true b 9 t)) tab
    ]
    | inr t ↦ subst P (sym (eqb-true b 13 t)) return
  ]
  | inr t ↦ subst P (sym (eqb-true b 10 t)) feed
]

-- white space ends a name
pub space_no_name : (b : ℕ) → is_space b ≡ true → is_name_byte b ≡ false
space_no_name b e = space_is (λ c. is_name_byte c ≡ false) b e refl refl refl refl

-- what may begin a name may stand in it
pub start_in_name : (b : ℕ) → is_name_start b ≡ true → is_name_byte b ≡ true
start_in_name b e = or_left (is_name_start b || (nat_le 48 b && nat_le b 57) || (b == 45)) (b == 46)
    (or_left (is_name_start b || (nat_le 48 b && nat_le b 57)) (b == 45) (or_left (is_name_start b) (nat_le 48 b && nat_le b 57) e))

-- what can't stand in a name begins none
pub no_name_no_start : (b : ℕ) → is_name_byte b ≡ false → is_name_start b ≡ false
no_name_no_start b e = elim (cases_Bool (is_name_start b)) [
  | inl t ↦ absurd (both_ways (is_name_byte b) e (start_in_name b t))
  | inr t ↦ t
]

-- one byte more of a name
pub longer_name : (name : List ℕ) (b : ℕ) → IsName name → is_name_byte b ≡ true → IsName (name ++ b ∷ [])
longer_name [] b is more = absurd is
longer_name (c ∷ name) b is more = (is.0, each_push (λ d. is_name_byte d ≡ true) name b is.1 more)
