-- Rows that lie one behind the other in words.
use Rattle.std.proofs.Common.{◌≡◌, ℕ, zero, suc, ◌+◌, ◌-◌, ◌*◌, ◌/◌, ◌%◌, ◌<◌, ◌≤◌, ◌==◌, Bool, List, [], ◌∷◌, ◌++◌, length, take, drop, slice_index, refl, ap, ap₂, sym, ◌∙◌, arith, ◌≢◌, ◌⊎◌, inl, inr}
use Rattle.std.specs.Int.{bit_at}
use Rattle.std.proofs.Math.Nat.{mul-le-mul_left}
use Rattle.std.proofs.lemmas.Grind.{common_steps}
use Rattle.mb_linear.specs.Echelon.{has_place}
use Rattle.mb_bits.specs.BitRow.{bit_in, row_from, row_of}
use Rattle.mb_bits.proofs.BitLemmas.{Order, Order.Below, Order.From, order}
use Rattle.mb_elim.specs.Kept.{row_at, reduced_rows}
use Rattle.mb_elim.proofs.Snoc.{firsts_same}

pub row_from_same : (n at bt : ℕ) (xs ys : List ℕ) → ((i j : ℕ) → i + bt ≡ j + at → at ≤ i → i < at + n → bit_in xs i ≡ bit_in ys j)
    → row_from n at xs ≡ row_from n bt ys
unfolding row_from
row_from_same zero at bt xs ys e = refl
row_from_same (suc n) at bt xs ys e = ap₂ (λ (b : Bool) (l : List Bool). b ∷ l) (e at bt (omega arith) (omega arith) (omega arith))
    (row_from_same n (suc at) (suc bt) xs ys (λ i j p q r. e i j (omega arith) (omega arith) (omega arith)))

pub length_row_from : (n at : ℕ) (xs : List ℕ) → length (row_from n at xs) ≡ n
unfolding row_from
length_row_from zero at xs = refl
length_row_from (suc n) at xs = ap suc (length_row_from n (suc at) xs)

pub place_row_from : (n at i j : ℕ) (xs : List ℕ) → j ≡ at + i → i < n → has_place (row_from n at xs) i ≡ bit_in xs j
unfolding row_from
place_row_from zero at i j xs e p = absurd (omega arith)
place_row_from (suc n) at zero j xs e p = let same : at ≡ j = omega arith in ap (bit_in xs) same
place_row_from (suc n) at (suc i) j xs e p =
    let e2 : j ≡ suc at + i = omega arith in
    let p2 : i < n = omega arith in place_row_from n (suc at) i j xs e2 p2

bit_at_same : (u v i j : ℕ) → u ≡ v → i ≡ j → (bit_at u i == 1) ≡ (bit_at v j == 1)
bit_at_same u v i j e f = ap₂ (λ (w k : ℕ). bit_at w k == 1) e f

-- a row in words of its own, and the same words behind others
pub row_behind : (k w m : ℕ) (own words : List ℕ) → k ≤ 64 * w → ((j : ℕ) → j < w → slice_index own j ≡ slice_index words (m + j))
    → row_of k own ≡ row_from k (64 * m) words
row_behind k w m own words p e = row_from_same k 0 (64 * m) own words (λ i j q r s.
    let word : j / 64 ≡ m + i / 64 = omega arith in
    let bit : i % 64 ≡ j % 64 = omega arith in
    let within : i / 64 < w = omega arith in
    bit_at_same (slice_index own (i / 64)) (slice_index words (j / 64)) (i % 64) (j % 64)
    (e (i / 64) within ∙ ap (slice_index words) (sym word)) bit)

-- row i of n rows ends where the next one begins
pub row_within : (w i n : ℕ) → i < n → w * i + w ≤ w * n
row_within w i n p =
    let some : suc i ≤ n = omega arith in
    let more : w * suc i ≤ w * n = mul-le-mul_left w some in
    let same : w * suc i ≡ w * i + w = grind arith in omega arith

pub row_from_snoc : (n at j : ℕ) (words : List ℕ) → j ≡ at + n → row_from (suc n) at words ≡ row_from n at words ++ bit_in words j ∷ []
unfolding row_from
row_from_snoc zero at j words e = let same : at ≡ j = omega arith in ap (λ (p : ℕ). bit_in words p ∷ []) same
row_from_snoc (suc n) at j words e =
    let e2 : j ≡ suc at + n = omega arith in ap (λ (l : List Bool). bit_in words at ∷ l) (row_from_snoc n (suc at) j words e2)

-- the row is the same where its words are
pub row_same : (k w n : ℕ) (xs ys : List ℕ) → k ≤ 64 * w → ((j : ℕ) → j < w * n + w → slice_index xs j ≡ slice_index ys j)
    → row_at k w xs n ≡ row_at k w ys n
row_same k w n xs ys p e = row_from_same k (64 * (w * n)) (64 * (w * n)) xs ys (λ i j q r s.
    let same : i ≡ j = omega arith in
    let within : i / 64 < w * n + w = omega arith in
    ap (λ (u : ℕ). bit_at u (i % 64) == 1) (e (i / 64) within) ∙ ap (bit_in ys) same)

pub rows_same : (k w n : ℕ) (xs ys : List ℕ) → k ≤ 64 * w → ((j : ℕ) → j < w * n → slice_index xs j ≡ slice_index ys j)
    → reduced_rows k w xs n ≡ reduced_rows k w ys n
rows_same k w n xs ys p e = firsts_same (row_at k w xs) (row_at k w ys) n (λ i q.
    row_same k w i xs ys p (λ j r. let within = row_within w i n q in e j (omega arith)))

-- the row whose words stand between others
pub row_between : (k w n : ℕ) (front own rest : List ℕ) → k ≤ 64 * w → length front ≡ w * n → length own ≡ w
    → row_at k w (front ++ (own ++ rest)) n ≡ row_of k own
row_between k w n front own rest p f o = sym (row_behind k w (w * n) own (front ++ (own ++ rest)) p (λ j q. grind (arith, common_steps)))

rows_apart_by : (w i n b : ℕ) → i ≢ n → b < w → Order i n → (w * i + b < w * n) ⊎ (w * n + w ≤ w * i + b)
rows_apart_by w i n b e p (Below q) = let within = row_within w i n q in inl (omega arith)
rows_apart_by w i n b e p (From q) =
    let more : n < i = omega arith in
    let within = row_within w n i more in inr (omega arith)

-- bytes of two rows
pub rows_apart : (w i n b : ℕ) → i ≢ n → b < w → (w * i + b < w * n) ⊎ (w * n + w ≤ w * i + b)
rows_apart w i n b e p = rows_apart_by w i n b e p (order i n)

-- the words of one of n rows
pub own_length : (w i n : ℕ) (words : List ℕ) → length words ≡ w * n → i < n → length (take (w * i + w - w * i) (drop (w * i) words)) ≡ w
own_length w i n words e p = let within = row_within w i n p in grind (arith, common_steps)
