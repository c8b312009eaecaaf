-- Where a number stands in a list.
use Rattle.std.proofs.Common.{◌≡◌, ℕ, ◌<◌, ◌≤◌, ◌==◌, false, List, length, slice_index, position, Some, None, arith}
use Rattle.std.specs.List.{position_or_len}
use Rattle.std.proofs.lemmas.Grind.{common_steps}
use Rattle.std.proofs.lemmas.List.Sums.{position_or_len_is, fails_before_first}

pub record IsNowhere (x : ℕ) (xs : List ℕ) : Type 0 where
  pub other : (k : ℕ) → k < length xs → (slice_index xs k == x) ≡ false

pub position_first : (x : ℕ) (xs : List ℕ) (i : ℕ) → i < length xs → slice_index xs i ≡ x → ((k : ℕ) → k < i → (slice_index xs k == x) ≡ false) → position (λ y. y == x) xs ≡ Some i
position_first x xs i within here before =
    let first : position_or_len (λ y. y == x) xs ≡ i = position_or_len_is (λ y. y == x) xs i 0 (omega arith) before (λ _. grind (arith, common_steps)) in
    grind (arith, common_steps)

pub position_none : (x : ℕ) (xs : List ℕ) → IsNowhere x xs → position (λ y. y == x) xs ≡ None
position_none x xs nowhere =
    let all : position_or_len (λ y. y == x) xs ≡ length xs = position_or_len_is (λ y. y == x) xs (length xs) 0 (omega arith) nowhere.other (λ h. absurd (omega arith)) in
    grind (arith, common_steps)

pub nowhere : (x : ℕ) (xs : List ℕ) → position (λ y. y == x) xs ≡ None → IsNowhere x xs
nowhere x xs none =
    let all : length xs ≤ position_or_len (λ y. y == x) xs = grind (arith, common_steps) in
    record { other = λ k within. fails_before_first (λ y. y == x) xs k 0 (omega arith) }
