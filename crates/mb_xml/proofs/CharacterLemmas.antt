-- The characters of a value, byte by byte.
use Rattle.std.proofs.Common.{◌≡◌, ℕ, suc, ◌+◌, ◌-◌, ◌<◌, ◌≤◌, List, [], ◌∷◌, ◌++◌, length, get_or, take, drop, Option, Some, None, is_some, true, refl, sym, ◌∙◌, ap, arith, length-take}
use Rattle.std.proofs.lemmas.List.{drop_more, drop_all, get_or-take, take_all}
use Rattle.std.proofs.lemmas.Bool.{ne_eqb}
use Rattle.std.specs.Option.{IfSome, IfNone}
use Rattle.mb_xml.specs.declared.characters.CharacterBytes.{CharacterBytes}
use Rattle.mb_xml.specs.CharactersView.{left, Gives}
use Rattle.mb_xml.specs.Reference.{replaced, replaced_in}

-- the bytes of a character that are still to be given
abbrev pub to_give : List ℕ → ℕ → ℕ → List ℕ
to_give character given count = drop given (take count character)

pub given_all : (character rest : List ℕ) (given count : ℕ) → count ≤ given → to_give character given count ++ rest ≡ rest
given_all character rest given count spent =
    let none : drop given (take count character) ≡ [] = drop_all given (take count character) (omega (arith, length-take count character, spent)) in
    rw none refl

pub given_more : (character rest : List ℕ) (given count : ℕ) → given < count → count ≤ length character
    → to_give character given count ++ rest ≡ get_or character given 0 ∷ (to_give character (given + 1) count ++ rest)
given_more character rest given count more room =
    let first : drop given (take count character) ≡ get_or (take count character) given 0 ∷ drop (given + 1) (take count character) =
    drop_more (take count character) given 0 (omega (arith, length-take count character, more, room)) in
    let is : get_or (take count character) given 0 ≡ get_or character given 0 = get_or-take count character given 0 more in
    rw (first, is) refl

pub replaced_ampersand : (b : ℕ) (value : List ℕ) → b ≡ 38 → replaced (b ∷ value) ≡ replaced_in (Some []) value
unfolding replaced_in
replaced_ampersand b value is = rw is refl

pub replaced_other : (b : ℕ) (value : List ℕ) → (b ≡ 38 → ⊥) → replaced (b ∷ value) ≡ b ∷ replaced value
unfolding replaced_in
replaced_other b value differs = rw (ne_eqb b 38 differs) refl

pub replaced_empty : (value : List ℕ) → length value < 1 → replaced value ≡ []
unfolding replaced_in
replaced_empty [] none = refl
replaced_empty (b ∷ value) none = absurd (omega (arith, none))

-- the characters of a value whose first byte begins a reference
pub first_ampersand : (value : List ℕ) → 1 ≤ length value → get_or value 0 0 ≡ 38 → replaced value ≡ replaced_in (Some []) (take (length value - 1) (drop 1 value))
first_ampersand [] some is = absurd (omega (arith, some))
first_ampersand (b ∷ value) some is =
    let rest : take (suc (length value) - 1) value ≡ value = take_all (suc (length value) - 1) value (omega arith) in
    replaced_ampersand b value is ∙ ap (λ (xs : List ℕ). replaced_in (Some []) xs) (sym rest)

-- the characters of a value whose first byte begins none
pub first_other : (value : List ℕ) → 1 ≤ length value → (get_or value 0 0 ≡ 38 → ⊥) → replaced value ≡ get_or value 0 0 ∷ replaced (take (length value - 1) (drop 1 value))
first_other [] some differs = absurd (omega (arith, some))
first_other (b ∷ value) some differs =
    let rest : take (suc (length value) - 1) value ≡ value = take_all (suc (length value) - 1) value (omega arith) in
    replaced_other b value differs ∙ ap (λ (xs : List ℕ). b ∷ replaced xs) (sym rest)

-- what is left where the last character is given
pub left_spent : (old new : CharacterBytes) → old.count ≤ old.given → new ≡ old → (left old ≡ replaced new.behind.now) × (left new ≡ replaced new.behind.now)
left_spent old new spent same =
    let is : left old ≡ replaced old.behind.now = given_all old.character (replaced old.behind.now) old.given old.count spent in
    rw same (is, is)

-- what is given of a character, or the end where it has no byte
pub gives_character : (old new : CharacterBytes) (result : Option ℕ) → IfSome result (λ byte. left old ≡ byte ∷ left new)
    → IfNone result (old.count ≤ old.given) → IfNone result (new ≡ old) → (old.count ≤ old.given → left old ≡ []) → Gives (left old) result (left new)
gives_character old new None some none same spent = rw same (spent none, spent none)
gives_character old new (Some byte) some none same spent = some

-- where a byte is given, there was one
pub some_given : (bytes rest : List ℕ) (result : Option ℕ) → Gives bytes result rest → true ≡ is_some result → 1 ≤ length bytes
some_given bytes rest None gives some = cc
some_given bytes rest (Some byte) gives some = omega (arith, ap length gives)
