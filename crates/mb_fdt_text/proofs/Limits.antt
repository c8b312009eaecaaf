-- What a text says is within the limits of texts.
use Rattle.std.proofs.Common.{◌≡◌, ℕ, ◌^◌, ◌<◌, ◌≤◌, ◌&&◌, Bool, true, false, nat_lt, List, [], ◌∷◌, length, map, Option, Some, None, IfSome, unwrap_or, option_and_then, codes, refl, sym, subst, arith}
use Rattle.std.specs.Prelude.{IfOk}
use Rattle.std.specs.List.{AllByRecursion, list_all}
use Rattle.std.proofs.lemmas.List.{length-map}
use Rattle.std.proofs.lemmas.Grind.{common_steps}
use Rattle.mb_geom.specs.Description.{description_of, ok_unless, described}
use Rattle.mb_geom.specs.Description.{refusals as refusals_of, first_fault}
use Rattle.mb_geom.specs.declared.desc.DescFault.{DescFault}
use Rattle.std.specs.Str.Parse.{digits_value}
use Rattle.mb_xml.specs.Name.{is_space}
use Rattle.mb_xml.specs.Value.{some_if, digits_in, behind_digits, number_of}
use Rattle.mb_fdt_text.specs.declared.fdt.FileEntry.{FileEntry}
use Rattle.mb_fdt_text.specs.declared.fdt.FileFault.{FileFault}
use Rattle.mb_fdt_text.specs.Element.{Tag}
use Rattle.mb_fdt_text.specs.Entry.{Said, said_by, toi_of, parts_of, refusals, first_refusal, unless, entry_of}
use Rattle.mb_fdt_text.specs.Says.{value_of, root_attributes, expires_in, text_files, said_in, IsWithin}
use Rattle.mb_fdt_text.specs.Text.{Text}
use Rattle.mb_fdt_text.specs.WrittenForm.{IsWithinLimits}
use Rattle.mb_fdt_text.specs.Laws.{TextsAreWithin}

-- ---- numbers

if_below : (test : Bool) (n limit : ℕ) → (test ≡ true → n < limit) → IfSome (some_if test n) (λ m. m < limit)
if_below true n limit below = below refl
if_below false n limit below = tt

last_holds : (a b : Bool) (n limit : ℕ) → (a && b && nat_lt n limit) ≡ true → n < limit
last_holds true true n limit holds = grind (arith, common_steps)
last_holds true false n limit holds = absurd cc
last_holds false b n limit holds = absurd cc

number_below : (limit : ℕ) (value : List ℕ) → IfSome (number_of limit value) (λ n. n < limit)
unfolding number_of
number_below limit value =
    if_below _ _ limit (last_holds (nat_lt 0 (length (digits_in value))) (list_all is_space (behind_digits value)) (digits_value 10 (digits_in value)) limit)

some_below : (limit : ℕ) (value : Option (List ℕ)) → IfSome (option_and_then (number_of limit) value) (λ n. n < limit)
some_below limit None = tt
some_below limit (Some value) = number_below limit value

or_zero : (n : Option ℕ) (limit : ℕ) → 0 < limit → IfSome n (λ m. m < limit) → unwrap_or n 0 < limit
or_zero None limit some below = some
or_zero (Some n) limit some below = below

-- ---- TOIs

toi_if : (n : Option ℕ) (limit : ℕ) → IfSome n (λ m. m < limit) → IfSome (option_and_then (λ toi. some_if (nat_lt 0 toi) toi) n) (λ toi. (1 ≤ toi) × (toi < limit))
toi_if None limit below = tt
toi_if (Some n) limit below = by_test (nat_lt 0 n) refl
  where
    by_test : (t : Bool) → nat_lt 0 n ≡ t → IfSome (some_if t n) (λ toi. (1 ≤ toi) × (toi < limit))
    by_test true above = ((let more : 0 < n = grind (arith, common_steps) in omega arith), below)
    by_test false other = tt

toi_within : (value : Option (List ℕ)) → IfSome (option_and_then toi_of value) (λ toi. (1 ≤ toi) × (toi < 2 ^ 112))
toi_within None = tt
toi_within (Some value) = toi_if (number_of (2 ^ 112) value) (2 ^ 112) (number_below (2 ^ 112) value)

-- ---- locations

none_holds : (xs : List (Bool × FileFault)) → first_refusal xs ≡ None → AllByRecursion (λ x. x.0 ≡ false) xs
none_holds [] none = tt
none_holds ((true, fault) ∷ xs) none = absurd cc
none_holds ((false, fault) ∷ xs) none = (refl, none_holds xs none)

not_below : (a b : ℕ) → nat_lt a b ≡ false → b ≤ a
not_below a b fails = grind (arith, common_steps)

location_within : (s : Said) → IfOk (entry_of s).entry (λ d. length d.location ≤ 2048)
unfolding entry_of
location_within s = by_refusal (first_refusal (refusals s)) refl
  where
    by_fault : (fault : Option DescFault) → length (unwrap_or s.location []) ≤ 2048 → IfOk (unless None (ok_unless fault (description_of (parts_of s)))) (λ d. length d.location ≤ 2048)
    by_fault None short = short
    by_fault (Some fault) short = tt

    by_refusal : (refused : Option FileFault) → first_refusal (refusals s) ≡ refused → IfOk (unless refused (described (parts_of s))) (λ d. length d.location ≤ 2048)
    by_refusal (Some fault) is = tt
    by_refusal None is = by_fault (first_fault (refusals_of (parts_of s))) (not_below 2048 (length (unwrap_or s.location [])) (none_holds (refusals s) is).1.0)

entry_toi : (s : Said) → IfSome (entry_of s).toi (λ toi. (1 ≤ toi) × (toi < 2 ^ 112))
unfolding entry_of
entry_toi s = toi_within s.toi

-- ---- what a text says

each_map : {A B : Type 0} (P : B → Type 0) (f : A → B) → ((x : A) → P (f x)) → (xs : List A) → AllByRecursion P (map f xs)
each_map P f holds [] = tt
each_map P f holds (x ∷ xs) = (holds x, each_map P f holds xs)

said_within : (t : Text) → IsWithin t → IsWithinLimits (said_in t)
said_within t is =
    let entry = λ (file : Tag). entry_of (said_by (value_of (root_attributes t)) (value_of file.attributes)) in
    record {
      expires = or_zero (expires_in (root_attributes t)) (2 ^ 32) (omega arith) (some_below (2 ^ 32) (value_of (root_attributes t) (codes "Expires")));
      count = (let most = is.count in omega (arith, length-map (text_files t) entry));
      tois = each_map (λ (e : FileEntry). IfSome e.toi (λ toi. (1 ≤ toi) × (toi < 2 ^ 112))) entry (λ file. entry_toi _) (text_files t);
      locations = each_map (λ (e : FileEntry). IfOk e.entry (λ d. length d.location ≤ 2048)) entry (λ file. location_within _) (text_files t);
    }

pub texts_within : TextsAreWithin
texts_within bytes fdt is = subst IsWithinLimits (sym is.says) (said_within is.of is.within)
