-- Lemmas on the numbers of a header's fields.
use Rattle.std.proofs.Common.{◌≡◌, ℕ, zero, suc, ◌+◌, ◌-◌, ◌*◌, ◌^◌, ◌<◌, ◌≤◌, List, [], ◌∷◌, ◌++◌, length, get_or, slice_index, take, drop, refl, sym, ap, ◌∙◌, arith, add-one}
use Rattle.std.proofs.Math.Nat.{pow-succ', pow-le-pow_right, div-one}
use Rattle.std.proofs.lemmas.Nat.{pow-add}
use Rattle.std.proofs.Math.Seq.{take-suc}
use Rattle.std.proofs.lemmas.List.{take_rest}
use Rattle.std.specs.Int.{w128, to_be_bytes}
use Rattle.mb_base.specs.Number.{be_number, be_bytes}
use Rattle.mb_base.proofs.NumberLemmas.{be_number-nil, be_number-cons, be_number-append, be_bytes-cons, length-be_bytes}

pub power_le : (m n : ℕ) → m ≤ n → 256 ^ m ≤ 256 ^ n
power_le m n le = pow-le-pow_right {n = 256} (omega arith) le

be_number-one : (b : ℕ) → be_number (b ∷ []) ≡ b
be_number-one b = omega (arith, be_number-cons b [], be_number-nil)

-- one byte more, at the end
pub be_number-further : (bs : List ℕ) (i : ℕ) → i < length bs → be_number (take (i + 1) bs) ≡ be_number (take i bs) * 256 + slice_index bs i
be_number-further bs i within =
    ap (λ k. be_number (take k bs)) (add-one i) ∙ ap be_number (take-suc bs i 0 within) ∙ be_number-append (take i bs) (get_or bs i 0 ∷ [])
    ∙ ap (λ n. be_number (take i bs) * 256 + n) (be_number-one (get_or bs i 0))

pub below_further : (n b i : ℕ) → n < 256 ^ i → b < 256 → n * 256 + b < 256 ^ (i + 1)
below_further n b i below small =
    let power : 256 ^ (i + 1) ≡ 256 * 256 ^ i = ap (λ k. 256 ^ k) (add-one i) ∙ pow-succ' 256 i in
    omega arith

-- the last bytes of a number in bytes
pub be_bytes-drop : (k w n : ℕ) → drop k (be_bytes (k + w) n) ≡ be_bytes w n
be_bytes-drop zero w n = ap (λ m. be_bytes m n) (omega arith)
be_bytes-drop (suc k) w n =
    let more : suc k + w ≡ suc (k + w) = omega arith in
    ap (λ m. drop (suc k) (be_bytes m n)) more ∙ ap (drop (suc k)) (be_bytes-cons (k + w) n) ∙ be_bytes-drop k w n

-- what `to_be_bytes` gives
pub be_bytes-sixteen : (n : ℕ) → to_be_bytes w128 n ≡ be_bytes 16 n
unfolding be_bytes
be_bytes-sixteen n = rw (div-one n) refl

-- the last bytes, as a slice has them
pub be_bytes-last : (bs : List ℕ) (w n : ℕ) → w ≤ 16 → bs ≡ to_be_bytes w128 n → take (16 - (16 - w)) (drop (16 - w) bs) ≡ be_bytes w n
be_bytes-last bs w n le is =
    let parts : 16 ≡ (16 - w) + w = omega arith in
    let size : length bs ≡ 16 = ap length (is ∙ be_bytes-sixteen n) ∙ length-be_bytes 16 n in
    ap (λ m. take (m - (16 - w)) (drop (16 - w) bs)) (sym size) ∙ take_rest bs (16 - w)
    ∙ ap (drop (16 - w)) (is ∙ be_bytes-sixteen n ∙ ap (λ m. be_bytes m n) parts) ∙ be_bytes-drop (16 - w) w n

-- a number in two parts, the second of eight bytes
pub number-join : (bs upper lower : List ℕ) → bs ≡ upper ++ lower → length lower ≡ 8 → be_number bs ≡ be_number upper * 2 ^ 64 + be_number lower
number-join bs upper lower is size =
    ap be_number is ∙ be_number-append upper lower ∙ ap (λ k. be_number upper * 256 ^ k + be_number lower) size

pub below-join : (n m i : ℕ) → n < 256 ^ i → m < 2 ^ 64 → n * 2 ^ 64 + m < 256 ^ (i + 8)
below-join n m i below small =
    let power : 256 ^ (i + 8) ≡ 256 ^ i * 2 ^ 64 = pow-add 256 i 8 in
    omega arith
