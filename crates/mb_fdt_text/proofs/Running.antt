-- The reader over bytes: how it goes on from one state to another.
use Rattle.std.proofs.Common.{◌≡◌, ℕ, List, [], ◌∷◌, ◌++◌, Ok, Err, refl, sym, ap, subst, append_assoc, append-nil}
use Rattle.std.specs.Prelude.{⊤}
use Rattle.mb_fdt_text.specs.declared.fdt.FdtKind.{FdtKind}
use Rattle.mb_fdt_text.specs.declared.fdt.FdtKind.TheVariants.{NotUtf8, Syntax, Forbidden, Depth, NoExpires, BadExpires, RepeatedAttribute, TooManyFiles}
use Rattle.mb_fdt_text.specs.Reader.{Reader, Token, Next, next, step, steps}

-- Faults of texts that keep to the grammar: what is found of these kinds is not found by the grammar.
abbrev pub IsLate : FdtKind → Type 0
IsLate NotUtf8 = ⊥
IsLate Syntax = ⊥
IsLate Forbidden = ⊥
IsLate Depth = ⊤
IsLate NoExpires = ⊤
IsLate BadExpires = ⊤
IsLate RepeatedAttribute = ⊤
IsLate TooManyFiles = ⊤

-- The reader is in a state of which P holds, or it has found a late fault, and then W does not hold.
abbrev pub Goes : Type 0 → (Reader → Type 0) → Next → Type 0
Goes W P (Ok r) = P r
Goes W P (Err fault) = IsLate fault.kind × (W → ⊥)

-- all bytes are read one part after the other
pub steps-append : (n : Next) (xs ys : List ℕ) → steps n (xs ++ ys) ≡ steps (steps n xs) ys
unfolding steps
steps-append (Err fault) xs ys = refl
steps-append (Ok r) [] ys = refl
steps-append (Ok r) (b ∷ xs) ys = steps-append (step r b) xs ys

goes_from : (W : Type 0) (P Q : Reader → Type 0) (n : Next) (ys : List ℕ) → Goes W P n → ((r : Reader) → P r → Goes W Q (steps (Ok r) ys)) → Goes W Q (steps n ys)
unfolding steps
goes_from W P Q (Ok r) ys p f = f r p
goes_from W P Q (Err fault) ys p f = p

-- what is reached by the first part goes on with the second
pub goes_on : (W : Type 0) (P Q : Reader → Type 0) (n : Next) (xs ys : List ℕ) → Goes W P (steps n xs) → ((r : Reader) → P r → Goes W Q (steps (Ok r) ys)) → Goes W Q (steps n (xs ++ ys))
goes_on W P Q n xs ys p f = subst (Goes W Q) (sym (steps-append n xs ys)) (goes_from W P Q (steps n xs) ys p f)

-- one byte, and then others
pub goes_byte : (W : Type 0) (P Q : Reader → Type 0) (r : Reader) (b : ℕ) (ys : List ℕ) → Goes W P (step r b) → ((r : Reader) → P r → Goes W Q (steps (Ok r) ys)) → Goes W Q (steps (Ok r) (b ∷ ys))
unfolding steps
goes_byte W P Q r b ys p f = goes_from W P Q (step r b) ys p f

-- no bytes
pub goes_nowhere : (W : Type 0) (P : Reader → Type 0) (r : Reader) → P r → Goes W P (steps (Ok r) [])
unfolding steps
goes_nowhere W P r p = p

-- one byte alone
pub goes_one : (W : Type 0) (P : Reader → Type 0) (r : Reader) (b : ℕ) → Goes W P (step r b) → Goes W P (steps (Ok r) (b ∷ []))
goes_one W P r b p = goes_byte W P P r b [] p (goes_nowhere W P)

-- the step of a reader whose token is known
pub step-is : (r : Reader) (token : Token) (b : ℕ) → r.token ≡ token → step r b ≡ next r token b
unfolding step
step-is r token b e = ap (λ t. next r t b) e

goes_weaker_of : (W V : Type 0) (P Q : Reader → Type 0) (n : Next) → (V → W) → ((r : Reader) → P r → Q r) → Goes W P n → Goes V Q n
goes_weaker_of W V P Q (Ok r) v f p = f r p
goes_weaker_of W V P Q (Err fault) v f p = (p.0, λ w. p.1 (v w))

-- less is said of what is reached, and more is needed for it
pub goes_weaker : (W V : Type 0) (P Q : Reader → Type 0) (n : Next) → (V → W) → ((r : Reader) → P r → Q r) → Goes W P n → Goes V Q n
goes_weaker W V P Q n v f p = goes_weaker_of W V P Q n v f p

-- What is known of a state behind some bytes is known of the state behind one more, where the bytes may go on so: then of the
-- state behind all of them.
pub goes_along : (W : Type 0) (C : List ℕ → Type 0) (S : List ℕ → Reader → Type 0)
    → ((xs ys : List ℕ) → C (xs ++ ys) → C xs)
    → ((so_far : List ℕ) (b : ℕ) (r : Reader) → C (so_far ++ b ∷ []) → S so_far r → Goes W (S (so_far ++ b ∷ [])) (step r b))
    → (bytes so_far : List ℕ) (r : Reader) → C (so_far ++ bytes) → S so_far r → Goes W (S (so_far ++ bytes)) (steps (Ok r) bytes)
goes_along W C S shorter one [] so_far r c s =
    goes_nowhere W (S (so_far ++ [])) r (subst (λ (l : List ℕ). S l r) (sym (append-nil so_far)) s)
goes_along W C S shorter one (b ∷ bytes) so_far r c s =
    let regroup : (so_far ++ b ∷ []) ++ bytes ≡ so_far ++ b ∷ bytes = append_assoc so_far (b ∷ []) bytes in
    let may : C ((so_far ++ b ∷ []) ++ bytes) = subst C (sym regroup) c in
    goes_byte W (S (so_far ++ b ∷ [])) (S (so_far ++ b ∷ bytes)) r b bytes (one so_far b r (shorter (so_far ++ b ∷ []) bytes may) s)
    (λ (r2 : Reader) (p : S (so_far ++ b ∷ []) r2). subst (λ (l : List ℕ). Goes W (S l) (steps (Ok r2) bytes)) regroup
    (goes_along W C S shorter one bytes (so_far ++ b ∷ []) r2 may p))

late_from : (W : Type 0) (P : Reader → Type 0) (n : Next) → Goes W (λ r. ⊥) n → Goes W P n
late_from W P (Ok r) none = absurd none
late_from W P (Err fault) late = late

-- what ends with a late fault ends so whatever was wanted
pub goes_late : (W : Type 0) (P : Reader → Type 0) (n : Next) → Goes W (λ r. ⊥) n → Goes W P n
goes_late W P n late = late_from W P n late
