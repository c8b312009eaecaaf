-- The bits of sums of words, of one flipped bit, and of the lowest one.
use Rattle.std.proofs.Common.{◌≡◌, ◌≢◌, ℕ, zero, suc, ◌+◌, ◌*◌, ◌/◌, ◌%◌, ◌^◌, ◌<◌, ◌≤◌, ◌==◌, Bool, true, false, not, List, [], ◌∷◌, length, slice_index, set, refl, ap, ap₂, sym, ◌∙◌, arith, ◌⊎◌, inl, inr}
use Rattle.std.specs.Int.{bit_at, trailing_zeros, w64}
use Rattle.std.specs.Int.Bits.{bit_xor, xor_zero_r}
use Rattle.std.proofs.lemmas.Nat.Bits.{bit_at_xor, bit_at-zero, bit_at-pow_same, bit_at-pow_other, bit_at-trailing_zeros}
use Rattle.std.proofs.lemmas.List.{get_or-set_same, get_or-set_other, get_or_past}
use Rattle.std.proofs.lemmas.Nat.{pow_below}
use Rattle.std.proofs.lemmas.Bool.Decides.{eqb_tells}
use Rattle.std.proofs.Math.Dec.{eqb}
use Rattle.std.proofs.Math.ListN.{length-set}
use Rattle.mb_linear.specs.Row.{plus, row_sum}
use Rattle.mb_bits.specs.BitRow.{bit_in, row_from, row_of, Flips, IsFirst}

-- two bits as numbers, added without a carry
sum_of_bits : (a b : ℕ) → a < 2 → b < 2 → ((a + b) % 2 == 1) ≡ plus (a == 1) (b == 1)
sum_of_bits zero zero p q = refl
sum_of_bits zero (suc zero) p q = refl
sum_of_bits (suc zero) zero p q = refl
sum_of_bits (suc zero) (suc zero) p q = refl
sum_of_bits (suc (suc a)) b p q = absurd (omega arith)
sum_of_bits zero (suc (suc b)) p q = absurd (omega arith)
sum_of_bits (suc zero) (suc (suc b)) p q = absurd (omega arith)

below_two : (n : ℕ) → n % 2 < 2
below_two n = omega arith

pub bit_of_xor : (a b i : ℕ) → (bit_at (bit_xor a b) i == 1) ≡ plus (bit_at a i == 1) (bit_at b i == 1)
bit_of_xor a b i = ap (λ (x : ℕ). x == 1) (bit_at_xor a b i) ∙ sum_of_bits (bit_at a i) (bit_at b i) (below_two (a / 2 ^ i)) (below_two (b / 2 ^ i))

-- words that are sums, each of two
abbrev pub AreSums : List ℕ → List ℕ → List ℕ → Type 0
AreSums old added new = (i : ℕ) → slice_index new i ≡ bit_xor (slice_index old i) (slice_index added i)

sum_bit : (old added new : List ℕ) → AreSums old added new → (place : ℕ) → bit_in new place ≡ plus (bit_in old place) (bit_in added place)
sum_bit old added new s place =
    ap (λ (w : ℕ). bit_at w (place % 64) == 1) (s (place / 64)) ∙ bit_of_xor (slice_index old (place / 64)) (slice_index added (place / 64)) (place % 64)

sum_from : (old added new : List ℕ) → AreSums old added new → (n at : ℕ) → row_from n at new ≡ row_sum (row_from n at old) (row_from n at added)
unfolding row_from row_sum
sum_from old added new s zero at = refl
sum_from old added new s (suc n) at =
    ap₂ (λ (b : Bool) (l : List Bool). b ∷ l) (sum_bit old added new s at) (sum_from old added new s n (suc at))

pub sum_of_rows : (old added new : List ℕ) → AreSums old added new → (n : ℕ) → row_of n new ≡ row_sum (row_of n old) (row_of n added)
sum_of_rows old added new s n = sum_from old added new s n 0

-- ---- one bit turned over

turned_over : (b : Bool) → plus b true ≡ not b
turned_over false = refl
turned_over true = refl

not_turned : (b : Bool) → plus b false ≡ b
not_turned false = refl
not_turned true = refl

turned_bit : (w k : ℕ) → (bit_at (bit_xor w (2 ^ k)) k == 1) ≡ not (bit_at w k == 1)
turned_bit w k = bit_of_xor w (2 ^ k) k ∙ ap (λ (x : ℕ). plus (bit_at w k == 1) (x == 1)) (bit_at-pow_same k) ∙ turned_over (bit_at w k == 1)

other_bit : (w k i : ℕ) → i ≢ k → (bit_at (bit_xor w (2 ^ k)) i == 1) ≡ (bit_at w i == 1)
other_bit w k i e = bit_of_xor w (2 ^ k) i ∙ ap (λ (x : ℕ). plus (bit_at w i == 1) (x == 1)) (bit_at-pow_other k i e) ∙ not_turned (bit_at w i == 1)

slice_past : (words : List ℕ) (i : ℕ) → length words ≤ i → slice_index words i ≡ 0
slice_past words i e = get_or_past words i 0 e

-- no bit is set in a word that isn't there
pub bit_past : (words : List ℕ) (i : ℕ) → length words ≤ i / 64 → bit_in words i ≡ false
bit_past words i e = ap (λ (w : ℕ). bit_at w (i % 64) == 1) (slice_past words (i / 64) e) ∙ ap (λ (x : ℕ). x == 1) (bit_at-zero (i % 64))

-- ---- the loops

-- a number is below another one or not
pub data Order (a b : ℕ) : Type 0 where
  Below : a < b → Order a b
  From : b ≤ a → Order a b

order_step : (a b : ℕ) → Order a b → Order (suc a) (suc b)
order_step a b (Below p) = Below (omega arith)
order_step a b (From p) = From (omega arith)

pub order : (a b : ℕ) → Order a b
order a zero = From (omega arith)
order zero (suc b) = Below (omega arith)
order (suc a) (suc b) = order_step a b (order a b)

-- words that were added from one to another, where those before are zero and none is behind
pub record IsAdded (old added new : List ℕ) (first end : ℕ) : Type 0 where
  pub before : (k : ℕ) → k < first → slice_index new k ≡ slice_index old k
  pub below : (k : ℕ) → first ≤ k → k < end → slice_index new k ≡ bit_xor (slice_index old k) (slice_index added k)
  pub above : (k : ℕ) → end ≤ k → slice_index new k ≡ slice_index old k
  pub zeros : (k : ℕ) → k < first → slice_index added k ≡ 0
  pub whole : length added ≤ end

xor_nothing : (old new word : ℕ) → new ≡ old → word ≡ 0 → new ≡ bit_xor old word
xor_nothing old new word e z = e ∙ sym (xor_zero_r old) ∙ ap (bit_xor old) (sym z)

sum_before : (old added new : List ℕ) (first end k : ℕ) → IsAdded old added new first end → Order k end → first ≤ k
    → slice_index new k ≡ bit_xor (slice_index old k) (slice_index added k)
sum_before old added new first end k s (Below p) q = s.below k q p
sum_before old added new first end k s (From p) q =
    let past : length added ≤ k = let w = s.whole in omega arith in
    xor_nothing (slice_index old k) (slice_index new k) (slice_index added k) (s.above k p) (slice_past added k past)

sum_there : (old added new : List ℕ) (first end k : ℕ) → IsAdded old added new first end → Order k first
    → slice_index new k ≡ bit_xor (slice_index old k) (slice_index added k)
sum_there old added new first end k s (Below p) = xor_nothing (slice_index old k) (slice_index new k) (slice_index added k) (s.before k p) (s.zeros k p)
sum_there old added new first end k s (From p) = sum_before old added new first end k s (order k end) p

pub added_sums : (old added new : List ℕ) (first end : ℕ) → IsAdded old added new first end → AreSums old added new
added_sums old added new first end s k = sum_there old added new first end k s (order k first)

-- the lowest bit of the first word that isn't zero
first_below : (words : List ℕ) (at low : ℕ) → ((k : ℕ) → k < at → slice_index words k ≡ 0) → low < 64
    → ((i : ℕ) → i < low → bit_at (slice_index words at) i ≡ 0) → (i : ℕ) → i < 64 * at + low → Order (i / 64) at → bit_in words i ≡ false
first_below words at low z l b i p (Below q) =
    ap (λ (w : ℕ). bit_at w (i % 64) == 1) (z (i / 64) q) ∙ ap (λ (x : ℕ). x == 1) (bit_at-zero (i % 64))
first_below words at low z l b i p (From q) =
    let same : i / 64 ≡ at = omega arith in
    let under : i % 64 < low = omega arith in
    ap (λ (k : ℕ). bit_at (slice_index words k) (i % 64) == 1) same ∙ ap (λ (x : ℕ). x == 1) (b (i % 64) under)

pub lowest_is_first : (words : List ℕ) (at low : ℕ) → at < length words → ((k : ℕ) → k < at → slice_index words k ≡ 0) → low < 64
    → bit_at (slice_index words at) low ≡ 1 → ((i : ℕ) → i < low → bit_at (slice_index words at) i ≡ 0) → IsFirst words (64 * at + low)
lowest_is_first words at low w z l s b =
    let word : (64 * at + low) / 64 ≡ at = omega arith in
    let bit : (64 * at + low) % 64 ≡ low = omega arith in record {
      within = omega arith;
      set = ap₂ (λ (k j : ℕ). bit_at (slice_index words k) j == 1) word bit ∙ ap (λ (x : ℕ). x == 1) s;
      none_before = λ i p. first_below words at low z l b i p (order (i / 64) at);
    }

-- one word with one bit turned over
flip_others : (words : List ℕ) (place i : ℕ) → place / 64 < length words → i ≢ place
    → ((eqb (i / 64) (place / 64) ≡ true) × (i / 64 ≡ place / 64)) ⊎ ((eqb (i / 64) (place / 64) ≡ false) × (i / 64 ≢ place / 64))
    → bit_in (set words (place / 64) (bit_xor (slice_index words (place / 64)) (2 ^ (place % 64)))) i ≡ bit_in words i
flip_others words place i w e (inl s) =
    let other : i % 64 ≢ place % 64 = λ same. e (let word = s.1 in omega arith) in
    ap (λ (k : ℕ). bit_at (slice_index (set words (place / 64) (bit_xor (slice_index words (place / 64)) (2 ^ (place % 64)))) k) (i % 64) == 1) s.1
    ∙ ap (λ (x : ℕ). bit_at x (i % 64) == 1) (get_or-set_same words (place / 64) (bit_xor (slice_index words (place / 64)) (2 ^ (place % 64))) 0 w)
    ∙ other_bit (slice_index words (place / 64)) (place % 64) (i % 64) other
    ∙ ap (λ (k : ℕ). bit_at (slice_index words k) (i % 64) == 1) (sym s.1)
flip_others words place i w e (inr s) =
    ap (λ (x : ℕ). bit_at x (i % 64) == 1) (get_or-set_other words (place / 64) (i / 64) (bit_xor (slice_index words (place / 64)) (2 ^ (place % 64))) 0 s.1)

pub flips : (words : List ℕ) (place mask : ℕ) → place / 64 < length words → mask ≡ 2 ^ (place % 64)
    → Flips place words (set words (place / 64) (bit_xor (slice_index words (place / 64)) mask))
flips words place mask w m = rw m (record {
  words = length-set words (place / 64) (bit_xor (slice_index words (place / 64)) (2 ^ (place % 64)));
  turned = ap (λ (x : ℕ). bit_at x (place % 64) == 1) (get_or-set_same words (place / 64) (bit_xor (slice_index words (place / 64)) (2 ^ (place % 64))) 0 w)
      ∙ turned_bit (slice_index words (place / 64)) (place % 64);
  others = λ i e. flip_others words place i w e (eqb_tells (i / 64) (place / 64));
})

-- a bit of a word fits it
pub mask_fits : (place : ℕ) → 1 * 2 ^ (place % 64) % 18446744073709551616 ≡ 2 ^ (place % 64)
mask_fits place =
    let within : place % 64 < 64 = omega arith in
    let fits : 2 ^ (place % 64) < 2 ^ 64 = pow_below (place % 64) 64 within in omega arith
