-- Values of attributes: what they say of a file.
use Rattle.std.proofs.Common.{◌≡◌, ℕ, ◌<◌, ◌&&◌, Bool, true, false, nat_lt, List, length, Option, Some, None, option_map, refl, ap, ◌∙◌, inl, inr, arith}
use Rattle.std.specs.Option.{IfSome, option_or}
use Rattle.std.specs.List.{list_all}
use Rattle.std.specs.Str.Parse.{digits_value}
use Rattle.std.specs.Borrow.{Bor}
use Rattle.std.proofs.lemmas.Bool.{cases_Bool}
use Rattle.std.proofs.lemmas.Bool.Decides.{nat_tests}
use Rattle.mb_xml.specs.Name.{is_space}
use Rattle.mb_xml.specs.Reference.{replaced}
use Rattle.mb_xml.specs.Value.{number_of, some_if, digits_in, behind_digits}
use Rattle.mb_fdt.specs.ValuesView.{value_of}

some_if_below : (test : Bool) (n limit : ℕ) → IfSome (some_if (test && nat_lt n limit) n) (λ n. n < limit)
some_if_below false n limit = tt
some_if_below true n limit = elim (cases_Bool (nat_lt n limit)) [
  | inl below ↦ let is : n < limit = grind (arith, nat_tests) in rw below is
  | inr above ↦ rw above tt
]

pub number_below : (limit : ℕ) (value : List ℕ) → IfSome (number_of limit value) (λ n. n < limit)
unfolding number_of
number_below limit value = some_if_below (nat_lt 0 (length (digits_in value)) && list_all is_space (behind_digits value)) (digits_value 10 (digits_in value)) limit

pub value_is : (v : Option (Bor (List ℕ))) (r : Option (List ℕ)) → option_map (λ v. v.now) v ≡ r → value_of v ≡ option_map replaced r
value_is None r e = ap (λ r. option_map replaced r) e
value_is (Some v) r e = ap (λ r. option_map replaced r) e

replaced_or : (a b : Option (List ℕ)) → option_map replaced (option_or a b) ≡ option_or (option_map replaced a) (option_map replaced b)
replaced_or None b = refl
replaced_or (Some a) b = refl

pub value_of_first : (v a b : Option (Bor (List ℕ))) (file root : Option (List ℕ)) → option_map (λ v. v.now) v ≡ option_or (option_map (λ v. v.now) a) (option_map (λ v. v.now) b)
    → option_map (λ v. v.now) a ≡ file → option_map (λ v. v.now) b ≡ root → value_of v ≡ option_or (option_map replaced file) (option_map replaced root)
value_of_first v a b file root e ea eb =
    let first : option_map (λ v. v.now) v ≡ option_or file root = cc in
    value_is v (option_or file root) first ∙ replaced_or file root
