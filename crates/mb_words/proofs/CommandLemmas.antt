-- What a simple command finds in words that it takes, and that words which it refuses have no values.
use Rattle.std.proofs.Common.{◌≡◌, true, List, [], ◌∷◌, Option, None, refl, sym, ap, ap₂, subst, inl, inr}
use Rattle.clap.specs.Words.{App, HasKind, IsAmong, Kinds, Row, Text, fault_of, is_simple, is_simple_and_free, kind_of, matches_of}
use Rattle.clap.specs.declared.error.Error.{Error}
use Rattle.clap.specs.declared.error.kind.ErrorKind.{ErrorKind}
use Rattle.clap.specs.declared.error.kind.ErrorKind.TheVariants.{OutOfMemory}
use Rattle.mb_words.specs.Values.{values_unless}

-- the values of words that a command takes are those of what it finds
pub taken : {A : Type 0} (known a : App) (words : List Text) (rows : List Row) (values : List Row → Option A) → is_simple_and_free known ≡ true → is_simple known ≡ true
    → a ≡ known → (is_simple_and_free a ≡ true → fault_of a words ≡ []) → (is_simple a ≡ true → rows ≡ matches_of a words)
    → values_unless (fault_of known words) (values (matches_of known words)) ≡ values rows
taken known a words rows values free simple is faults found =
    let none : fault_of known words ≡ [] = subst (λ (b : App). is_simple_and_free b ≡ true → fault_of b words ≡ []) is faults free in
    let rows_are : rows ≡ matches_of known words = subst (λ (b : App). is_simple b ≡ true → rows ≡ matches_of b words) is found simple in
    ap₂ values_unless none (ap values (sym rows_are))

none_left : {A : Type 0} (kind : ErrorKind) (kinds : Kinds) (values : Option A) → IsAmong kind kinds → values_unless kinds values ≡ None
none_left kind [] values among = absurd among
none_left kind (k ∷ kinds) values among = refl

pub left_out : {A : Type 0} (known a : App) (words : List Text) (e : Error) (values : Option A) → is_simple_and_free known ≡ true
    → a ≡ known → (is_simple_and_free a ≡ true → HasKind (fault_of a words) e) → (kind_of e ≡ OutOfMemory → ⊥)
    → values_unless (fault_of known words) values ≡ None
left_out known a words e values free is faults other =
    let has : HasKind (fault_of known words) e = subst (λ (b : App). is_simple_and_free b ≡ true → HasKind (fault_of b words) e) is faults free in
    elim has [
      | inl memory ↦ absurd (other memory)
      | inr among ↦ none_left (kind_of e) (fault_of known words) values among
    ]
