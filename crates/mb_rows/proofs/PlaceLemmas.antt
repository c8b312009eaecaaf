-- Sets of places, and the rows that have them.
use Rattle.std.proofs.Common.{◌≡◌, ◌≢◌, ℕ, zero, suc, ◌+◌, ◌/◌, ◌%◌, ◌<◌, ◌≤◌, ◌⊎◌, inl, inr, Bool, true, false, not, cond, ◌==◌, ◌&&◌, ◌||◌, List, ◌∷◌, length, refl, ap, ap₂, sym, ◌∙◌, arith, eqb, ltb, replicate, slice_index}
use Rattle.std.specs.Prelude.{count_by}
use Rattle.std.specs.Int.{bit_at}
use Rattle.std.proofs.lemmas.Nat.Bits.{bit_at-zero}
use Rattle.std.proofs.lemmas.List.Sums.{sum_by-cons}
use Rattle.std.proofs.lemmas.Bool.{cases_lt, lt-ltb, le-ltb, eq-eqb, ne_eqb}
use Rattle.std.proofs.lemmas.Bool.Decides.{eqb_tells}
use Rattle.mb_linear.specs.Row.{plus}
use Rattle.mb_linear.proofs.RowLemmas.{plus_none}
use Rattle.mb_bits.specs.BitRow.{bit_in, row_from, row_of, Flips}
use Rattle.mb_rows.specs.Places.{is_odd_in, row_from_set, row_of_set}

zero_word : (n i : ℕ) → slice_index (replicate n 0) i ≡ 0
zero_word zero i = refl
zero_word (suc n) zero = refl
zero_word (suc n) (suc i) = zero_word n i

and_none : (b : Bool) → (b && false) ≡ false
and_none false = refl
and_none true = refl

and_all : (b : Bool) → (b && true) ≡ b
and_all false = refl
and_all true = refl

parity : (n : ℕ) → ((1 + n) % 2 == 1) ≡ not (n % 2 == 1)
parity zero = refl
parity (suc zero) = refl
parity (suc (suc n)) =
    let e : (1 + suc (suc n)) % 2 ≡ (1 + n) % 2 = omega arith in
    let f : suc (suc n) % 2 ≡ n % 2 = omega arith in
    ap (λ (m : ℕ). m == 1) e ∙ parity n ∙ ap (λ (m : ℕ). not (m == 1)) (sym f)

parity_of : (b : Bool) (n : ℕ) → ((cond b 1 0 + n) % 2 == 1) ≡ plus b (n % 2 == 1)
parity_of true n = parity n
parity_of false n = let e : (0 + n) % 2 ≡ n % 2 = omega arith in ap (λ (m : ℕ). m == 1) e

-- one place more comes or goes
pub odd_more : (q : ℕ) (places : List ℕ) (place : ℕ) → is_odd_in (q ∷ places) place ≡ plus (q == place) (is_odd_in places place)
odd_more q places place = ap (λ (n : ℕ). n % 2 == 1) (sum_by-cons (λ other. cond (other == place) 1 0) q places) ∙ parity_of (q == place) (count_by (λ other. other == place) places)

-- words that have the places of a set
row_from_is : (n at : ℕ) (words : List ℕ) (places : ℕ → Bool) → ((p : ℕ) → p < at + n → bit_in words p ≡ places p)
    → row_from n at words ≡ row_from_set n at places
unfolding row_from row_from_set
row_from_is zero at words places e = refl
row_from_is (suc n) at words places e =
    ap₂ (λ (b : Bool) (l : List Bool). b ∷ l) (e at (omega arith)) (row_from_is n (suc at) words places (λ p q. e p (omega arith)))

pub row_is : (n : ℕ) (words : List ℕ) (places : ℕ → Bool) → ((p : ℕ) → p < n → bit_in words p ≡ places p) → row_of n words ≡ row_of_set n places
row_is n words places e = row_from_is n 0 words places (λ p q. e p (omega arith))

from_set_same : (n at : ℕ) (f g : ℕ → Bool) → ((p : ℕ) → p < at + n → f p ≡ g p) → row_from_set n at f ≡ row_from_set n at g
unfolding row_from_set
from_set_same zero at f g e = refl
from_set_same (suc n) at f g e =
    ap₂ (λ (b : Bool) (l : List Bool). b ∷ l) (e at (omega arith)) (from_set_same n (suc at) f g (λ p q. e p (omega arith)))

pub set_same : (n : ℕ) (f g : ℕ → Bool) → ((p : ℕ) → p < n → f p ≡ g p) → row_of_set n f ≡ row_of_set n g
set_same n f g e = from_set_same n 0 f g (λ p q. e p (omega arith))

length_from_set : (n at : ℕ) (places : ℕ → Bool) → length (row_from_set n at places) ≡ n
unfolding row_from_set
length_from_set zero at places = refl
length_from_set (suc n) at places = ap suc (length_from_set n (suc at) places)

pub length_set : (n : ℕ) (places : ℕ → Bool) → length (row_of_set n places) ≡ n
length_set n places = length_from_set n 0 places

flipped_by : (place : ℕ) (old new : List ℕ) → Flips place old new → (p : ℕ) → ((eqb place p ≡ true) × (place ≡ p)) ⊎ ((eqb place p ≡ false) × (place ≢ p))
    → bit_in new p ≡ plus (place == p) (bit_in old p)
flipped_by place old new f p (inl e) =
    ap (bit_in new) (sym e.1) ∙ f.turned ∙ ap (λ (i : ℕ). not (bit_in old i)) e.1 ∙ ap (λ (b : Bool). plus b (bit_in old p)) (sym e.0)
flipped_by place old new f p (inr e) = f.others p (λ same. e.1 (sym same)) ∙ ap (λ (b : Bool). plus b (bit_in old p)) (sym e.0)

-- one place turned over
pub flipped : (place : ℕ) (old new : List ℕ) → Flips place old new → (p : ℕ) → bit_in new p ≡ plus (place == p) (bit_in old p)
flipped place old new f p = flipped_by place old new f p (eqb_tells place p)

-- no place of words that are zero is set
pub none_set : (n place : ℕ) → bit_in (replicate n 0) place ≡ false
none_set n place = ap (λ (w : ℕ). bit_at w (place % 64) == 1) (zero_word n (place / 64)) ∙ ap (λ (x : ℕ). x == 1) (bit_at-zero (place % 64))

pub flipped_if : (flip : Bool) (place : ℕ) (old new : List ℕ) → flip ≡ true → Flips place old new → (p : ℕ) → bit_in new p ≡ plus (flip && (place == p)) (bit_in old p)
flipped_if flip place old new e f p = flipped place old new f p ∙ ap (λ (b : Bool). plus (b && (place == p)) (bit_in old p)) (sym e)

pub not_flipped : (flip : Bool) (place : ℕ) (old : List ℕ) → flip ≡ false → (p : ℕ) → bit_in old p ≡ plus (flip && (place == p)) (bit_in old p)
not_flipped flip place old e p = ap (λ (b : Bool). plus (b && (place == p)) (bit_in old p)) (sym e)

-- ---- sets that grow at their end

below_next_by : (i p : ℕ) (f : ℕ → Bool) → ((p < i) ⊎ (i ≤ p)) → ((eqb i p ≡ true) × (i ≡ p)) ⊎ ((eqb i p ≡ false) × (i ≢ p))
    → plus (f i && (i == p)) (ltb p i && f p) ≡ (ltb p (i + 1) && f p)
below_next_by i p f (inl q) (inl e) = absurd (omega arith)
below_next_by i p f (inl q) (inr e) =
    let low : ltb p i ≡ true = lt-ltb p i q in
    let high : ltb p (i + 1) ≡ true = lt-ltb p (i + 1) (omega arith) in
    ap (λ (b : Bool). plus (f i && b) (ltb p i && f p)) e.0 ∙ ap (λ (b : Bool). plus b (ltb p i && f p)) (and_none (f i))
    ∙ ap (λ (b : Bool). b && f p) (low ∙ sym high)
below_next_by i p f (inr q) (inl e) =
    let low : ltb p i ≡ false = le-ltb p i q in
    let high : ltb p (i + 1) ≡ true = lt-ltb p (i + 1) (omega arith) in
    ap₂ (λ (b c : Bool). plus (f i && b) (c && f p)) e.0 low ∙ plus_none (f i && true) ∙ and_all (f i) ∙ ap f e.1 ∙ ap (λ (b : Bool). b && f p) (sym high)
below_next_by i p f (inr q) (inr e) =
    let low : ltb p i ≡ false = le-ltb p i q in
    let high : ltb p (i + 1) ≡ false = le-ltb p (i + 1) (let other = e.1 in omega arith) in
    ap₂ (λ (b c : Bool). plus (f i && b) (c && f p)) e.0 low ∙ ap (λ (b : Bool). plus b false) (and_none (f i)) ∙ ap (λ (b : Bool). b && f p) (sym high)

-- the set below the next place, by that place
pub below_next : (i p : ℕ) (f : ℕ → Bool) → plus (f i && (i == p)) (ltb p i && f p) ≡ (ltb p (i + 1) && f p)
below_next i p f = below_next_by i p f (cases_lt p i) (eqb_tells i p)

-- there is nothing below the first place
pub below_none : (p : ℕ) (f : ℕ → Bool) → (ltb p 0 && f p) ≡ false
below_none p f = ap (λ (b : Bool). b && f p) (le-ltb p 0 (omega arith))

-- words that had the places of a set below one place, and now have that place too
pub grown : (i q : ℕ) (flip : Bool) (f : ℕ → Bool) (old new : List ℕ) → q ≡ i → flip ≡ f i
    → ((p : ℕ) → bit_in new p ≡ plus (flip && (q == p)) (bit_in old p)) → ((p : ℕ) → bit_in old p ≡ (ltb p i && f p))
    → (p : ℕ) → bit_in new p ≡ (ltb p (i + 1) && f p)
grown i q flip f old new e g s w p =
    s p ∙ ap (λ (n : ℕ). plus (flip && (n == p)) (bit_in old p)) e ∙ ap₂ (λ (b c : Bool). plus (b && (i == p)) c) g (w p) ∙ below_next i p f

-- words that have the places of a set and of one place outside of it
with_place_by : (q p : ℕ) (f : ℕ → Bool) → f q ≡ false → ((eqb q p ≡ true) × (q ≡ p)) ⊎ ((eqb q p ≡ false) × (q ≢ p)) → plus (q == p) (f p) ≡ ((p == q) || f p)
with_place_by q p f e (inl s) =
    ap₂ plus s.0 (ap f (sym s.1) ∙ e) ∙ ap (λ (b : Bool). b || f p) (sym (eq-eqb p q (sym s.1)))
with_place_by q p f e (inr s) = ap (λ (b : Bool). plus b (f p)) s.0 ∙ ap (λ (b : Bool). b || f p) (sym (ne_eqb p q (λ same. s.1 (sym same))))

pub with_place : (q p : ℕ) (f : ℕ → Bool) → f q ≡ false → plus (q == p) (f p) ≡ ((p == q) || f p)
with_place q p f e = with_place_by q p f e (eqb_tells q p)
