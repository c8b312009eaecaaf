-- Where the reader of a value stands, and that one byte more keeps it so.
use Rattle.std.proofs.Common.{◌≡◌, ◌≢◌, ◌⊎◌, ℕ, ◌+◌, ◌*◌, ◌<◌, ◌≤◌, Bool, true, false, cond, not, ◌&&◌, ◌==◌, nat_lt, nat_eq, List, [], ◌∷◌, ◌++◌, Option, Some, None, is_some, unwrap_or, codes, bytes_eq, refl, sym, ap, subst, ◌∙◌, inl, inr, arith, append_assoc, append-nil, eqb-true, eq-eqb, ltb-true}
use Rattle.std.specs.List.{AllByRecursion, list_any, list_all, starts_with}
use Rattle.std.specs.Char.{is_digit, digit_value}
use Rattle.std.specs.Str.Parse.{digits_value}
use Rattle.std.proofs.lemmas.Bool.{cases_Bool, both_ways, and_parts, and_from}
use Rattle.std.proofs.lemmas.List.Folds.{list_all-append}
use Rattle.mb_xml.specs.Reference.{is_character, character_of, referred, are_references, Inside, named_references, digits_further, referred_further, are_references_in}
use Rattle.mb_xml.specs.Reference.Inside.{Plain, Named, Numbered, Digits}
use Rattle.mb_fdt_text.proofs.Lists.{fronts_same, lasts_same, Ending, ending, each_append, each_front, each_back, push_some}
use Rattle.mb_fdt_text.proofs.Lists.Ending.{Empty, Ends}
use Rattle.mb_fdt_text.proofs.SlotsFilled.{same_bytes}
use Rattle.mb_fdt_text.proofs.References.{Continues, are_behind, reference_then, hexadecimal_known, decimal_known, refs_empty}
use Rattle.mb_fdt_text.proofs.Digits.{is_inner, is_quotable, inner-quotable, inner-continues, inner-all_continue, digits-inner, value-append, IsWord, begins_word}

-- ---- where a reader stands

-- behind `&` and the beginning of a word
pub record IsNamed (so_far value : List ℕ) : Type 0 where
  pub front : List ℕ
  pub before : are_references front ≡ true
  pub whole : value ≡ front ++ 38 ∷ so_far
  pub rest : List ℕ
  pub word : IsWord (so_far ++ rest)

-- behind `&#`
pub record IsNumbered (value : List ℕ) : Type 0 where
  pub front : List ℕ
  pub before : are_references front ≡ true
  pub whole : value ≡ front ++ codes "&#"

-- what stands before the digits of a radix
abbrev pub IsRadix : ℕ → List ℕ → Type 0
IsRadix radix prefix = ((radix ≡ 16) × (prefix ≡ codes "#x")) ⊎ ((radix ≡ 10) × (prefix ≡ codes "#"))

-- the number of the digits, which is below those that no character has
abbrev pub IsNumber : ℕ → Option ℕ → List ℕ → Type 0
IsNumber radix None digits = (digits ≡ []) × (radix ≡ 16)
IsNumber radix (Some n) digits = (digits ≢ []) × (n ≡ digits_value radix digits) × (list_all (λ d. is_digit d radix) digits ≡ true) × (n < 0x110000)

-- behind `&`, what begins a number, and its digits so far
pub record IsDigits (radix : ℕ) (number : Option ℕ) (value : List ℕ) : Type 0 where
  pub front : List ℕ
  pub before : are_references front ≡ true
  pub prefix : List ℕ
  pub digits : List ℕ
  pub whole : value ≡ front ++ 38 ∷ (prefix ++ digits)
  pub radix_is : IsRadix radix prefix
  pub number_is : IsNumber radix number digits

-- these bytes of a value leave its reader there
abbrev pub IsBegun : Inside → List ℕ → Type 0
IsBegun Plain value = are_references value ≡ true
IsBegun (Named so_far) value = IsNamed so_far value
IsBegun Numbered value = IsNumbered value
IsBegun (Digits radix number) value = IsDigits radix number value

-- ---- in no reference

-- an ampersand may begin a word
pub plain-amp : (value : List ℕ) → are_references value ≡ true → IsBegun (Named []) (value ++ codes "&")
unfolding referred
plain-amp value e = record {
  front = value;
  before = e;
  whole = refl;
  rest = codes "amp";
  word = record { known = refl; inner = (refl, (refl, (refl, tt))); no_digits = refl; listed = refl };
}

-- any other byte stands for itself
pub plain-other : (value : List ℕ) (b : ℕ) → are_references value ≡ true → (b == 38) ≡ false → are_references (value ++ b ∷ []) ≡ true
unfolding are_references_in
plain-other value b e other = are_behind value (b ∷ []) e ∙ ap (λ (t : Bool). cond t false true) other

-- ---- one byte more

-- the byte leads from these bytes of a value to there, and a value may have it
abbrev pub Keeps : Inside → List ℕ → ℕ → Type 0
Keeps inside value b = IsBegun inside (value ++ b ∷ []) × (is_quotable b ≡ true)

-- one value of an option
pub some_same : {A : Type 0} (x y : A) → Some x ≡ Some y → x ≡ y
some_same x y e = cc

longer : (front so_far value : List ℕ) (b : ℕ) → value ≡ front ++ 38 ∷ so_far → value ++ b ∷ [] ≡ front ++ 38 ∷ (so_far ++ b ∷ [])
longer front so_far value b e = ap (λ (l : List ℕ). l ++ b ∷ []) e ∙ append_assoc front (38 ∷ so_far) (b ∷ [])

quotable_at : (b c : ℕ) → is_quotable c ≡ true → b ≡ c → is_quotable b ≡ true
quotable_at b c e same = ap is_quotable same ∙ e

-- the end of a reference
ended : (front name value : List ℕ) (b : ℕ) → are_references front ≡ true → value ≡ front ++ 38 ∷ name → b ≡ 59 → AllByRecursion Continues name
    → is_some (referred name) ≡ true → Keeps Plain value b
ended front name value b before whole last all known = (
  ap are_references (longer front name value b whole ∙ ap (λ (c : ℕ). front ++ 38 ∷ (name ++ c ∷ [])) last)
      ∙ reference_then front name [] before all known ∙ refs_empty,
  quotable_at b 59 refl last,
)

not_inner : (b : ℕ) → is_inner b ≡ true → (b == 59) ≡ true → ⊥
not_inner b e t = both_ways (b == 59) (inner-continues b e) t

named_keeps : (so_far value : List ℕ) (b : ℕ) (inside : Inside) (hash listed last : Bool) → IsNamed so_far value
    → bytes_eq (so_far ++ b ∷ []) (codes "#") ≡ hash → list_any (λ (name : List ℕ). starts_with nat_eq name (so_far ++ b ∷ [])) named_references ≡ listed
    → (b == 59) ≡ last
    → cond hash (Some Numbered) (cond (not listed) None (cond last (Some Plain) (Some (Named (so_far ++ b ∷ []))))) ≡ Some inside → Keeps inside value b
named_keeps so_far value b inside true listed last is h l e result =
    let same : so_far ++ b ∷ [] ≡ [] ++ 35 ∷ [] = same_bytes (so_far ++ b ∷ []) (codes "#") h in
    subst (λ (i : Inside). Keeps i value b) (some_same Numbered inside result) (
      record { front = is.front; before = is.before; whole = longer is.front so_far value b is.whole ∙ ap (λ (l : List ℕ). is.front ++ 38 ∷ l) same },
      quotable_at b 35 refl (lasts_same so_far [] b 35 same),
    )
named_keeps so_far value b inside false false last is h l e result = absurd cc
named_keeps so_far value b inside false true true is h l e result =
    let begins = begins_word (so_far ++ b ∷ []) l in
    subst (λ (i : Inside). Keeps i value b) (some_same Plain inside result) (by_ending begins.name begins.rest begins.is begins.begins (ending begins.rest))
  where
    by_ending : (name rest : List ℕ) → IsWord name → name ++ 59 ∷ [] ≡ (so_far ++ b ∷ []) ++ rest → Ending rest → Keeps Plain value b
    by_ending name rest word begins (Empty none) =
        let same : name ≡ so_far = fronts_same name so_far 59 b (begins ∙ ap (λ (l : List ℕ). (so_far ++ b ∷ []) ++ l) none ∙ append-nil (so_far ++ b ∷ [])) in
        ended is.front so_far value b is.before is.whole (eqb-true b 59 e)
        (inner-all_continue so_far (subst (AllByRecursion (λ c. is_inner c ≡ true)) same word.inner)) (ap (λ (l : List ℕ). is_some (referred l)) (sym same) ∙ word.known)
    by_ending name rest word begins (Ends init z same) =
        let front : name ≡ (so_far ++ b ∷ []) ++ init = fronts_same name ((so_far ++ b ∷ []) ++ init) 59 z
        (begins ∙ ap (λ (l : List ℕ). (so_far ++ b ∷ []) ++ l) same ∙ sym (append_assoc (so_far ++ b ∷ []) init (z ∷ []))) in
        let all = each_front (λ c. is_inner c ≡ true) (so_far ++ b ∷ []) init (subst (AllByRecursion (λ c. is_inner c ≡ true)) front word.inner) in
        absurd (not_inner b (each_back (λ c. is_inner c ≡ true) so_far (b ∷ []) all).0 e)
named_keeps so_far value b inside false true false is h l e result =
    let begins = begins_word (so_far ++ b ∷ []) l in
    subst (λ (i : Inside). Keeps i value b) (some_same (Named (so_far ++ b ∷ [])) inside result) (by_ending begins.name begins.rest begins.is begins.begins (ending begins.rest))
  where
    by_ending : (name rest : List ℕ) → IsWord name → name ++ 59 ∷ [] ≡ (so_far ++ b ∷ []) ++ rest → Ending rest → Keeps (Named (so_far ++ b ∷ [])) value b
    by_ending name rest word begins (Empty none) =
        let last : 59 ≡ b = lasts_same name so_far 59 b (begins ∙ ap (λ (l : List ℕ). (so_far ++ b ∷ []) ++ l) none ∙ append-nil (so_far ++ b ∷ [])) in
        absurd (both_ways (b == 59) e (eq-eqb b 59 (sym last)))
    by_ending name rest word begins (Ends init z same) =
        let front : name ≡ (so_far ++ b ∷ []) ++ init = fronts_same name ((so_far ++ b ∷ []) ++ init) 59 z
        (begins ∙ ap (λ (l : List ℕ). (so_far ++ b ∷ []) ++ l) same ∙ sym (append_assoc (so_far ++ b ∷ []) init (z ∷ []))) in
        let all = each_front (λ c. is_inner c ≡ true) (so_far ++ b ∷ []) init (subst (AllByRecursion (λ c. is_inner c ≡ true)) front word.inner) in (
          record { front = is.front; before = is.before; whole = longer is.front so_far value b is.whole; rest = init; word = subst IsWord front word },
          inner-quotable b (each_back (λ c. is_inner c ≡ true) so_far (b ∷ []) all).0,
        )

-- ---- digits

-- the number that a reader holds is that of the digits
abbrev pub HasDigits : ℕ → Option ℕ → List ℕ → Type 0
HasDigits radix number digits = (unwrap_or number 0 ≡ digits_value radix digits) × (list_all (λ d. is_digit d radix) digits ≡ true)

-- what is known of a number gives its value and its digits
pub has_digits : (radix : ℕ) (number : Option ℕ) (digits : List ℕ) → IsNumber radix number digits → HasDigits radix number digits
has_digits radix None digits is = (ap (digits_value radix) (sym is.0), ap (list_all (λ d. is_digit d radix)) is.0)
has_digits radix (Some n) digits is = (is.1, is.2)

-- a number that names a character has digits
pub some_digits : (radix : ℕ) (digits : List ℕ) → is_character (digits_value radix digits) ≡ true → digits ≢ []
some_digits radix digits e none = both_ways (is_character (digits_value radix digits)) (ap (λ (l : List ℕ). is_character (digits_value radix l)) none) e

-- digits whose number is a character name it
pub character_is : (radix : ℕ) (digits : List ℕ) → digits ≢ [] → list_all (λ d. is_digit d radix) digits ≡ true → is_character (digits_value radix digits) ≡ true
    → is_some (character_of radix digits) ≡ true
character_is radix [] some all is = absurd (some refl)
character_is radix (d ∷ digits) some all is =
    ap (λ (t : Bool). is_some (cond t (Some (digits_value radix (d ∷ digits))) None)) (and_from _ _ all is)

-- the radix is 10 or 16
pub radix_small : (radix : ℕ) (prefix : List ℕ) → IsRadix radix prefix → (radix ≤ 16) × (1 ≤ radix)
radix_small radix prefix (inl is) = (omega arith, omega arith)
radix_small radix prefix (inr is) = (omega arith, omega arith)

-- no decimal digit is an x
pub not_x : (d : ℕ) → is_digit d 10 ≡ true → (120 == d) ≡ false
not_x d digit = elim (cases_Bool (120 == d)) [
  | inl t ↦ absurd (omega (arith, ltb-true (digit_value d) 10 digit, ap digit_value (sym (eqb-true 120 d t))))
  | inr t ↦ t
]

-- digits that name a character are known behind what begins them
pub digits_known : (radix : ℕ) (prefix digits : List ℕ) → IsRadix radix prefix → digits ≢ [] → list_all (λ d. is_digit d radix) digits ≡ true
    → is_some (character_of radix digits) ≡ true → is_some (referred (prefix ++ digits)) ≡ true
digits_known radix prefix digits (inl is) some all known =
    ap (λ (l : List ℕ). is_some (referred (l ++ digits))) is.1 ∙ ap is_some (hexadecimal_known digits) ∙ ap (λ (n : ℕ). is_some (character_of n digits)) (sym is.0) ∙ known
digits_known radix prefix [] (inr is) some all known = absurd (some refl)
digits_known radix prefix (d ∷ digits) (inr is) some all known =
    let ten : list_all (λ c. is_digit c 10) (d ∷ digits) ≡ true = ap (λ (n : ℕ). list_all (λ c. is_digit c n) (d ∷ digits)) (sym is.0) ∙ all in
    ap (λ (l : List ℕ). is_some (referred (l ++ d ∷ digits))) is.1
    ∙ ap is_some (decimal_known d digits (not_x d (and_parts (is_digit d 10) (list_all (λ c. is_digit c 10) digits) ten).0))
    ∙ ap (λ (n : ℕ). is_some (character_of n (d ∷ digits))) (sym is.0) ∙ known

prefix-inner : (radix : ℕ) (prefix : List ℕ) → IsRadix radix prefix → AllByRecursion (λ c. is_inner c ≡ true) prefix
prefix-inner radix prefix (inl is) = subst (AllByRecursion (λ c. is_inner c ≡ true)) (sym is.1) (refl, (refl, tt))
prefix-inner radix prefix (inr is) = subst (AllByRecursion (λ c. is_inner c ≡ true)) (sym is.1) (refl, tt)

-- the bytes of a number end no reference, and a value may have them
pub number-inner : (radix : ℕ) (prefix digits : List ℕ) → IsRadix radix prefix → list_all (λ d. is_digit d radix) digits ≡ true
    → AllByRecursion (λ c. is_inner c ≡ true) (prefix ++ digits)
number-inner radix prefix digits is all =
    each_append (λ c. is_inner c ≡ true) prefix digits (prefix-inner radix prefix is) (digits-inner radix digits (radix_small radix prefix is).0 all)

-- one digit more
pub all-push : (radix : ℕ) (digits : List ℕ) (b : ℕ) → list_all (λ d. is_digit d radix) digits ≡ true → is_digit b radix ≡ true → list_all (λ d. is_digit d radix) (digits ++ b ∷ []) ≡ true
all-push radix digits b all digit =
    list_all-append (λ d. is_digit d radix) digits (b ∷ []) ∙ and_from _ _ all (and_from (is_digit b radix) true digit refl)

digits_keep : (radix : ℕ) (number : Option ℕ) (front prefix digits value : List ℕ) (b : ℕ) (inside : Inside) (digit below last : Bool)
    → are_references front ≡ true → value ≡ front ++ 38 ∷ (prefix ++ digits) → IsRadix radix prefix → HasDigits radix number digits
    → is_digit b radix ≡ digit → nat_lt (unwrap_or number 0 * radix + digit_value b) 0x110000 ≡ below → ((b == 59) && is_character (unwrap_or number 0)) ≡ last
    → cond digit (cond below (Some (Digits radix (Some (unwrap_or number 0 * radix + digit_value b)))) None) (cond last (Some Plain) None) ≡ Some inside
    → Keeps inside value b
digits_keep radix number front prefix digits value b inside true true last before whole is has d n l result =
    let all = all-push radix digits b has.1 d in
    subst (λ (i : Inside). Keeps i value b) (some_same _ inside result) (
      record {
        front = front;
        before = before;
        prefix = prefix;
        digits = digits ++ b ∷ [];
        whole = longer front (prefix ++ digits) value b whole ∙ ap (λ (t : List ℕ). front ++ 38 ∷ t) (append_assoc prefix digits (b ∷ []));
        radix_is = is;
        number_is = (
          push_some digits b,
          ap (λ (m : ℕ). m * radix + digit_value b) has.0 ∙ sym (value-append radix 0 digits (b ∷ [])),
          all,
          ltb-true _ _ n,
        );
      },
      inner-quotable b (each_back (λ c. is_inner c ≡ true) (prefix ++ digits) (b ∷ [])
          (subst (AllByRecursion (λ c. is_inner c ≡ true)) (sym (append_assoc prefix digits (b ∷ []))) (number-inner radix prefix (digits ++ b ∷ []) is all))).0,
    )
digits_keep radix number front prefix digits value b inside true false last before whole is has d n l result = absurd cc
digits_keep radix number front prefix digits value b inside false below true before whole is has d n l result =
    let parts = and_parts (b == 59) (is_character (unwrap_or number 0)) l in
    let character : is_character (digits_value radix digits) ≡ true = ap is_character (sym has.0) ∙ parts.1 in
    let some = some_digits radix digits character in
    subst (λ (i : Inside). Keeps i value b) (some_same Plain inside result)
    (ended front (prefix ++ digits) value b before whole (eqb-true b 59 parts.0)
    (inner-all_continue (prefix ++ digits) (number-inner radix prefix digits is has.1))
    (digits_known radix prefix digits is some has.1 (character_is radix digits some has.1 character)))
digits_keep radix number front prefix digits value b inside false below false before whole is has d n l result = absurd cc

numbered_keeps : (value : List ℕ) (b : ℕ) (inside : Inside) (hexadecimal : Bool) → IsNumbered value → (b == 120) ≡ hexadecimal
    → cond hexadecimal (Some (Digits 16 None)) (digits_further 10 None b) ≡ Some inside → Keeps inside value b
numbered_keeps value b inside true is x result =
    subst (λ (i : Inside). Keeps i value b) (some_same (Digits 16 None) inside result) (
      record {
        front = is.front;
        before = is.before;
        prefix = codes "#x";
        digits = [];
        whole = longer is.front (codes "#") value b is.whole ∙ ap (λ (c : ℕ). is.front ++ 38 ∷ 35 ∷ c ∷ []) (eqb-true b 120 x);
        radix_is = inl (refl, refl);
        number_is = (refl, refl);
      },
      quotable_at b 120 refl (eqb-true b 120 x),
    )
numbered_keeps value b inside false is x result =
    digits_keep 10 None is.front (codes "#") [] value b inside (is_digit b 10) (nat_lt (0 * 10 + digit_value b) 0x110000) ((b == 59) && is_character 0)
    is.before is.whole (inr (refl, refl)) (refl, refl) refl refl refl result

-- One byte more of a reference keeps a reader where some value goes on.
pub further_keeps : (inside after : Inside) (value : List ℕ) (b : ℕ) → inside ≢ Plain → IsBegun inside value → referred_further inside b ≡ Some after → Keeps after value b
unfolding referred_further
further_keeps Plain after value b other is result = absurd (other refl)
further_keeps (Named so_far) after value b other is result = named_keeps so_far value b after _ _ _ is refl refl refl result
further_keeps Numbered after value b other is result = numbered_keeps value b after _ is refl result
further_keeps (Digits radix number) after value b other is result =
    digits_keep radix number is.front is.prefix is.digits value b after _ _ _ is.before is.whole is.radix_is (has_digits radix number is.digits is.number_is) refl refl refl result
