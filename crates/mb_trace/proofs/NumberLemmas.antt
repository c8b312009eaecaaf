-- Lemmas on numbers in bytes.
use Rattle.std.proofs.Common.{◌≡◌, ℕ, zero, suc, ◌+◌, ◌-◌, ◌*◌, ◌/◌, ◌%◌, ◌^◌, ◌<◌, List, [], ◌∷◌, ◌++◌, length, get_or, take, drop, refl, sym, ap, ap₂, subst, ◌∙◌, arith, length-append, take-append-drop, length-drop}
use Rattle.std.proofs.Math.Arith.{mod-mul}
use Rattle.std.proofs.Math.Nat.{pow-succ', one-le-pow, mod-eq_of_lt, add-mul-div_right, add-mul-mod_self_right, div-one, mod-one}
use Rattle.std.proofs.lemmas.Nat.{pow-add, div-mul-add}
use Rattle.std.proofs.lemmas.List.Elements.{All-cons, All-nil, All-head, All-tail}
use Rattle.std.proofs.lemmas.List.{take_rest}
use Rattle.std.specs.Int.{w16, w32, w64, to_be_bytes}
use Rattle.mb_trace.specs.Number.{AreBytes, be_number, be_bytes, NumbersAreReadBack, BytesAreWrittenBack}

-- ---- one byte more

pub be_number-nil : be_number [] ≡ 0
unfolding be_number
be_number-nil = refl

pub be_number-cons : (byte : ℕ) (others : List ℕ) → be_number (byte ∷ others) ≡ byte * 256 ^ length others + be_number others
unfolding be_number
be_number-cons byte others = refl

pub be_bytes-nil : (n : ℕ) → be_bytes 0 n ≡ []
unfolding be_bytes
be_bytes-nil n = refl

pub be_bytes-cons : (w n : ℕ) → be_bytes (suc w) n ≡ n / 256 ^ w % 256 ∷ be_bytes w n
unfolding be_bytes
be_bytes-cons w n = refl

-- ---- lengths and bounds

pub length-be_bytes : (w n : ℕ) → length (be_bytes w n) ≡ w
length-be_bytes zero n = ap length (be_bytes-nil n)
length-be_bytes (suc w) n = ap length (be_bytes-cons w n) ∙ ap suc (length-be_bytes w n)

pub be_bytes-bytes : (w n : ℕ) → AreBytes (be_bytes w n)
be_bytes-bytes zero n = subst AreBytes (sym (be_bytes-nil n)) (All-nil (λ byte. byte < 256))
be_bytes-bytes (suc w) n =
    subst AreBytes (sym (be_bytes-cons w n)) (All-cons (λ byte. byte < 256) _ _ (omega arith) (be_bytes-bytes w n))

pub power_pos : (w : ℕ) → 0 < 256 ^ w
power_pos w = omega (arith, one-le-pow w 256 (omega arith))

below_step : (byte p n q : ℕ) → byte < 256 → n < p → q ≡ 256 * p → byte * p + n < q
below_step byte p n q small below same = grind arith

pub be_number-below : (bs : List ℕ) → AreBytes bs → be_number bs < 256 ^ length bs
be_number-below [] all = omega (arith, be_number-nil)
be_number-below (b ∷ bs) all =
    let rest = be_number-below bs (All-tail (λ byte. byte < 256) b bs all) in
    subst (λ n. n < 256 ^ suc (length bs)) (sym (be_number-cons b bs))
    (below_step b (256 ^ length bs) (be_number bs) (256 ^ suc (length bs)) (All-head (λ byte. byte < 256) b bs all) rest (pow-succ' 256 (length bs)))

-- ---- there and back

pub be_number-be_bytes : (w n : ℕ) → be_number (be_bytes w n) ≡ n % 256 ^ w
be_number-be_bytes zero n = ap be_number (be_bytes-nil n) ∙ be_number-nil ∙ sym (mod-one n)
be_number-be_bytes (suc w) n =
    ap be_number (be_bytes-cons w n) ∙ be_number-cons _ (be_bytes w n)
    ∙ ap₂ (λ k m. n / 256 ^ w % 256 * 256 ^ k + m) (length-be_bytes w n) (be_number-be_bytes w n)
    ∙ sym (mod-mul n {m = 256} {c = 256 ^ w} (omega arith) (power_pos w))
    ∙ sym (ap (λ q. n % q) (pow-succ' 256 w))

pub numbers_read_back : NumbersAreReadBack
numbers_read_back w n below = be_number-be_bytes w n ∙ mod-eq_of_lt below

-- what stands above the width is not written
pub be_bytes-above : (w m r : ℕ) → be_bytes w (m * 256 ^ w + r) ≡ be_bytes w r
be_bytes-above zero m r = be_bytes-nil _ ∙ sym (be_bytes-nil r)
be_bytes-above (suc w) m r =
    let p = 256 ^ w in
    let power = ap (λ q. m * q) (pow-succ' 256 w) in
    let grouped : m * 256 ^ suc w + r ≡ m * 256 * p + r = omega (arith, power) in
    let turned : m * 256 ^ suc w + r ≡ r + m * 256 * p = omega (arith, power) in
    let first : (m * 256 ^ suc w + r) / p % 256 ≡ r / p % 256 =
    ap (λ k. k / p % 256) turned ∙ ap (λ k. k % 256) (add-mul-div_right r (m * 256) (power_pos w)) ∙ add-mul-mod_self_right (r / p) m 256 in
    be_bytes-cons w _ ∙ ap₂ ◌∷◌ first (ap (be_bytes w) grouped ∙ be_bytes-above w (m * 256) r) ∙ sym (be_bytes-cons w r)

pub bytes_written_back : BytesAreWrittenBack
bytes_written_back [] all = be_bytes-nil _
bytes_written_back (b ∷ bs) all =
    let tail = All-tail (λ byte. byte < 256) b bs all in
    let head = All-head (λ byte. byte < 256) b bs all in
    let n-is = be_number-cons b bs in
    be_bytes-cons (length bs) _
    ∙ ap₂ ◌∷◌
    (ap (λ n. n / 256 ^ length bs % 256) n-is ∙ ap (λ k. k % 256) (div-mul-add b (256 ^ length bs) (be_number bs) (be_number-below bs tail)) ∙ mod-eq_of_lt head)
    (ap (be_bytes (length bs)) n-is ∙ be_bytes-above (length bs) b (be_number bs) ∙ bytes_written_back bs tail)

-- ---- parts

pub be_number-append : (xs ys : List ℕ) → be_number (xs ++ ys) ≡ be_number xs * 256 ^ length ys + be_number ys
be_number-append [] ys = omega (arith, ap (λ n. n * 256 ^ length ys) be_number-nil)
be_number-append (x ∷ xs) ys =
    let power = ap (λ k. 256 ^ k) (length-append xs ys) ∙ pow-add 256 (length xs) (length ys) in
    be_number-cons x (xs ++ ys) ∙ ap₂ (λ p n. x * p + n) power (be_number-append xs ys)
    ∙ (let whole = be_number-cons x xs in omega (arith, ap (λ n. n * 256 ^ length ys) whole))

-- the last so many bytes as a slice has them
pub be_number-split : (k m : ℕ) (bs : List ℕ) → length bs ≡ k + m
    → be_number bs ≡ be_number (take k bs) * 256 ^ m + be_number (take (length bs - k) (drop k bs))
be_number-split k m bs len =
    let rest : length (drop k bs) ≡ m = omega (arith, length-drop k bs) in
    ap be_number (sym (take-append-drop k bs)) ∙ be_number-append (take k bs) (drop k bs)
    ∙ ap₂ (λ w tail. be_number (take k bs) * 256 ^ w + be_number tail) rest (sym (take_rest bs k))

pub be_number-two : (bs : List ℕ) → length bs ≡ 2 → be_number bs ≡ get_or bs 0 0 * 256 + get_or bs 1 0
be_number-two [] len = absurd (omega (arith, len))
be_number-two (a ∷ []) len = absurd (omega (arith, len))
be_number-two (a ∷ b ∷ []) len = omega (arith, be_number-cons a (b ∷ []), be_number-cons b [], be_number-nil)
be_number-two (a ∷ b ∷ c ∷ ds) len = absurd (omega (arith, len))

-- ---- what `to_be_bytes` gives

pub be_bytes-two : (n : ℕ) → to_be_bytes w16 n ≡ be_bytes 2 n
unfolding be_bytes
be_bytes-two n = ap (λ k. n / 256 % 256 ∷ k % 256 ∷ []) (sym (div-one n))

pub be_bytes-four : (n : ℕ) → to_be_bytes w32 n ≡ be_bytes 4 n
unfolding be_bytes
be_bytes-four n = ap (λ k. n / 256 ^ 3 % 256 ∷ n / 256 ^ 2 % 256 ∷ n / 256 % 256 ∷ k % 256 ∷ []) (sym (div-one n))

pub be_bytes-six : (n : ℕ) → drop 2 (to_be_bytes w64 n) ≡ be_bytes 6 n
unfolding be_bytes
be_bytes-six n =
    ap (λ k. n / 256 ^ 5 % 256 ∷ n / 256 ^ 4 % 256 ∷ n / 256 ^ 3 % 256 ∷ n / 256 ^ 2 % 256 ∷ n / 256 % 256 ∷ k % 256 ∷ []) (sym (div-one n))
