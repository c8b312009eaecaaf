-- References in values: what bytes are whole references, and which names are referred to.
use Rattle.std.proofs.Common.{◌≡◌, ℕ, Bool, true, false, cond, ◌&&◌, ◌==◌, nat_eq, List, [], ◌∷◌, ◌++◌, length, take, drop, Option, Some, None, is_some, codes, bytes_eq, refl, sym, ap, subst, ◌∙◌, inl, inr, append_assoc, append-nil, eqb-true, take_at, take-append-drop}
use Rattle.std.specs.List.{AllByRecursion, list_any, starts_with}
use Rattle.std.proofs.lemmas.Bool.{cases_Bool, both_ways, and_parts}
use Rattle.mb_xml.specs.Reference.{character_of, referred, are_references_in, are_references, named_references}
use Rattle.mb_fdt_text.proofs.SlotsFilled.{same_bytes, bytes_same}

-- ---- one byte

refs_amp : (b : ℕ) (xs : List ℕ) → (b == 38) ≡ true → are_references_in None (b ∷ xs) ≡ are_references_in (Some []) xs
unfolding are_references_in
refs_amp b xs t = ap (λ (c : Bool). cond c (are_references_in (Some []) xs) (are_references_in None xs)) t

refs_plain : (b : ℕ) (xs : List ℕ) → (b == 38) ≡ false → are_references_in None (b ∷ xs) ≡ are_references_in None xs
unfolding are_references_in
refs_plain b xs t = ap (λ (c : Bool). cond c (are_references_in (Some []) xs) (are_references_in None xs)) t

refs_end : (name : List ℕ) (b : ℕ) (xs : List ℕ) → (b == 59) ≡ true → are_references_in (Some name) (b ∷ xs) ≡ (is_some (referred name) && are_references_in None xs)
unfolding are_references_in
refs_end name b xs t = ap (λ (c : Bool). cond c (is_some (referred name) && are_references_in None xs) (are_references_in (Some (name ++ b ∷ [])) xs)) t

refs_more : (name : List ℕ) (b : ℕ) (xs : List ℕ) → (b == 59) ≡ false → are_references_in (Some name) (b ∷ xs) ≡ are_references_in (Some (name ++ b ∷ [])) xs
unfolding are_references_in
refs_more name b xs t = ap (λ (c : Bool). cond c (is_some (referred name) && are_references_in None xs) (are_references_in (Some (name ++ b ∷ [])) xs)) t

-- the empty value has whole references
pub refs_empty : are_references_in None [] ≡ true
unfolding are_references_in
refs_empty = refl

refs_cut : (name : List ℕ) → are_references_in (Some name) [] ≡ false
unfolding are_references_in
refs_cut name = refl

-- ---- bytes one after another

-- whole references in front change nothing behind them
references_behind : (begun : Option (List ℕ)) (xs ys : List ℕ) → are_references_in begun xs ≡ true → are_references_in begun (xs ++ ys) ≡ are_references_in None ys
references_behind None [] ys e = refl
references_behind (Some name) [] ys e = absurd (both_ways _ (refs_cut name) e)
references_behind None (b ∷ xs) ys e = elim (cases_Bool (b == 38)) [
  | inl t ↦ refs_amp b (xs ++ ys) t ∙ references_behind (Some []) xs ys (sym (refs_amp b xs t) ∙ e)
  | inr t ↦ refs_plain b (xs ++ ys) t ∙ references_behind None xs ys (sym (refs_plain b xs t) ∙ e)
]
references_behind (Some name) (b ∷ xs) ys e = elim (cases_Bool (b == 59)) [
  | inl t ↦
      (let parts = and_parts (is_some (referred name)) (are_references_in None xs) (sym (refs_end name b xs t) ∙ e) in
      refs_end name b (xs ++ ys) t ∙ ap (λ (c : Bool). c && are_references_in None (xs ++ ys)) parts.0
      ∙ references_behind None xs ys parts.1)
  | inr t ↦ refs_more name b (xs ++ ys) t ∙ references_behind (Some (name ++ b ∷ [])) xs ys (sym (refs_more name b xs t) ∙ e)
]

-- the same from the beginning of a value
pub are_behind : (xs ys : List ℕ) → are_references xs ≡ true → are_references (xs ++ ys) ≡ are_references ys
are_behind xs ys e = references_behind None xs ys e

-- a byte that ends no reference
abbrev pub Continues : ℕ → Type 0
Continues b = (b == 59) ≡ false

-- a name and the byte that ends it
named_then : (so_far name ys : List ℕ) → AllByRecursion Continues name
    → are_references_in (Some so_far) (name ++ 59 ∷ ys) ≡ (is_some (referred (so_far ++ name)) && are_references_in None ys)
named_then so_far [] ys all = refs_end so_far 59 ys refl ∙ ap (λ (l : List ℕ). is_some (referred l) && are_references_in None ys) (sym (append-nil so_far))
named_then so_far (b ∷ name) ys all =
    refs_more so_far b (name ++ 59 ∷ ys) all.0 ∙ named_then (so_far ++ b ∷ []) name ys all.1
    ∙ ap (λ (l : List ℕ). is_some (referred l) && are_references_in None ys) (append_assoc so_far (b ∷ []) name)

-- behind whole references, a reference
pub reference_then : (front name ys : List ℕ) → are_references front ≡ true → AllByRecursion Continues name → is_some (referred name) ≡ true
    → are_references (front ++ 38 ∷ (name ++ 59 ∷ ys)) ≡ are_references ys
reference_then front name ys e all known =
    are_behind front (38 ∷ (name ++ 59 ∷ ys)) e ∙ refs_amp 38 (name ++ 59 ∷ ys) refl ∙ named_then [] name ys all
    ∙ ap (λ (c : Bool). c && are_references ys) known

-- a reference that doesn't end
never_ends : (so_far rest : List ℕ) → AllByRecursion Continues rest → are_references_in (Some so_far) rest ≡ false
never_ends so_far [] all = refs_cut so_far
never_ends so_far (b ∷ rest) all = refs_more so_far b rest all.0 ∙ never_ends (so_far ++ b ∷ []) rest all.1

-- the same behind whole references
pub cut_reference : (front rest : List ℕ) → are_references front ≡ true → AllByRecursion Continues rest → are_references (front ++ 38 ∷ rest) ≡ false
cut_reference front rest e all = are_behind front (38 ∷ rest) e ∙ refs_amp 38 rest refl ∙ never_ends [] rest all

-- what is behind `&`, where the references are whole
pub record IsEnded (so_far rest : List ℕ) : Type 0 where
  pub name : List ℕ
  pub behind : List ℕ
  pub whole : rest ≡ name ++ 59 ∷ behind
  pub continues : AllByRecursion Continues name
  pub known : is_some (referred (so_far ++ name)) ≡ true

ended : (so_far rest : List ℕ) → are_references_in (Some so_far) rest ≡ true → IsEnded so_far rest
ended so_far [] e = absurd (both_ways _ (refs_cut so_far) e)
ended so_far (b ∷ rest) e = elim (cases_Bool (b == 59)) [
  | inl t ↦ record {
    name = [];
    behind = rest;
    whole = ap (λ (c : ℕ). c ∷ rest) (eqb-true b 59 t);
    continues = tt;
    known = ap (λ (l : List ℕ). is_some (referred l)) (append-nil so_far)
        ∙ (and_parts (is_some (referred so_far)) (are_references_in None rest) (sym (refs_end so_far b rest t) ∙ e)).0;
  }
  | inr t ↦ longer t (ended (so_far ++ b ∷ []) rest (sym (refs_more so_far b rest t) ∙ e))
]
  where
    longer : Continues b → IsEnded (so_far ++ b ∷ []) rest → IsEnded so_far (b ∷ rest)
    longer t is = record {
      name = b ∷ is.name;
      behind = is.behind;
      whole = ap (λ (l : List ℕ). b ∷ l) is.whole;
      continues = (t, is.continues);
      known = ap (λ (l : List ℕ). is_some (referred l)) (sym (append_assoc so_far (b ∷ []) is.name)) ∙ is.known;
    }

-- the end of the reference behind whole references
pub reference_ends : (front rest : List ℕ) → are_references front ≡ true → are_references (front ++ 38 ∷ rest) ≡ true → IsEnded [] rest
reference_ends front rest e all = ended [] rest (sym (are_behind front (38 ∷ rest) e ∙ refs_amp 38 rest refl) ∙ all)

-- ---- the names that are referred to

-- a list begins with another
pub starts_from : (xs word rest : List ℕ) → xs ≡ word ++ rest → starts_with nat_eq xs word ≡ true
starts_from xs word rest e = bytes_same word (take (length word) xs) (sym (ap (take (length word)) e ∙ take_at word rest (length word) refl))

-- the other way round
pub starts_is : (xs word : List ℕ) → starts_with nat_eq xs word ≡ true → xs ≡ word ++ drop (length word) xs
starts_is xs word e =
    sym (take-append-drop (length word) xs) ∙ ap (λ (l : List ℕ). l ++ drop (length word) xs) (sym (same_bytes word (take (length word) xs) e))

-- one of the five names without digits
abbrev pub is_word : List ℕ → Bool
is_word name = list_any (λ (w : List ℕ). bytes_eq w (name ++ 59 ∷ [])) named_references

-- how a name is known: as one of the five, or by digits of a radix
pub data Known (name : List ℕ) : Type 0 where
  Word : is_word name ≡ true → Known name
  Hexadecimal : (digits : List ℕ) → name ≡ codes "#x" ++ digits → is_some (character_of 16 digits) ≡ true → Known name
  Decimal : (digits : List ℕ) → name ≡ codes "#" ++ digits → starts_with nat_eq name (codes "#x") ≡ false → is_some (character_of 10 digits) ≡ true → Known name

word_is : (name word : List ℕ) → list_any (λ (w : List ℕ). bytes_eq w (word ++ 59 ∷ [])) named_references ≡ true → bytes_eq name word ≡ true → is_word name ≡ true
word_is name word known e = subst (λ (l : List ℕ). is_word l ≡ true) (sym (same_bytes name word e)) known

-- the tests of a name, one after another
from_tests : (name : List ℕ) → is_some (referred name) ≡ true → Known name
unfolding referred
from_tests name e = elim (cases_Bool (bytes_eq name (codes "amp"))) [
  | inl t ↦ Word (word_is name (codes "amp") refl t)
  | inr amp ↦ elim (cases_Bool (bytes_eq name (codes "lt"))) [
    | inl t ↦ Word (word_is name (codes "lt") refl t)
    | inr lt ↦ elim (cases_Bool (bytes_eq name (codes "gt"))) [
      | inl t ↦ Word (word_is name (codes "gt") refl t)
      | inr gt ↦ elim (cases_Bool (bytes_eq name (codes "quot"))) [
        | inl t ↦ Word (word_is name (codes "quot") refl t)
        | inr quot ↦ elim (cases_Bool (bytes_eq name (codes "apos"))) [
          | inl t ↦ Word (word_is name (codes "apos") refl t)
          | inr apos ↦ elim (cases_Bool (starts_with nat_eq name (codes "#x"))) [
            | inl t ↦ Hexadecimal (drop 2 name) (starts_is name (codes "#x") t)
                (rw (amp, lt, gt, quot, apos, t) at e)
            | inr hex ↦ elim (cases_Bool (starts_with nat_eq name (codes "#"))) [
              | inl t ↦ Decimal (drop 1 name) (starts_is name (codes "#") t) hex (rw (amp, lt, gt, quot, apos, hex, t) at e)
              | inr decimal ↦ absurd (both_ways false refl (rw (amp, lt, gt, quot, apos, hex, decimal) at e))
            ]
          ]
        ]
      ]
    ]
  ]
]

-- a name that is referred to is known in one of the three ways
pub known_is : (name : List ℕ) → is_some (referred name) ≡ true → Known name
known_is name e = from_tests name e

-- what the names of digits refer to
pub hexadecimal_known : (digits : List ℕ) → referred (codes "#x" ++ digits) ≡ character_of 16 digits
unfolding referred
hexadecimal_known digits = refl

-- decimal digits begin with no x
pub decimal_known : (d : ℕ) (digits : List ℕ) → (120 == d) ≡ false → referred (codes "#" ++ d ∷ digits) ≡ character_of 10 (d ∷ digits)
unfolding referred
decimal_known d digits other = rw other refl
