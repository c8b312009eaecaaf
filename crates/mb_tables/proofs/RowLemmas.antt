-- Lemmas on the rows of tables.
use Rattle.std.proofs.Common.{◌≡◌, ℕ, zero, suc, ◌+◌, ◌-◌, ◌*◌, ◌^◌, ◌<◌, ◌≤◌, List, [], ◌∷◌, ◌++◌, length, get_or, take, drop, refl, sym, ap, ap₂, subst, ◌∙◌, arith, take-append-drop, length-append}
use Rattle.std.proofs.lemmas.List.{take_all, drop-drop, length-take-le, length-drop}
use Rattle.std.specs.Prelude.{flat_map}
use Rattle.mb_base.specs.Number.{AreBytes, be_number, be_bytes}
use Rattle.mb_base.proofs.NumberLemmas.{bytes_written_back, be_number-below, length-be_bytes}
use Rattle.mb_tables.specs.Refused.{FitsFields}
use Rattle.std.proofs.lemmas.List.Elements.{All-nil, All-head, All-tail, All-push, All-take, All-drop}
use Rattle.std.specs.List.{All}
use Rattle.mb_tables.specs.Limits.{IsRow}
use Rattle.mb_tables.specs.Tables.{IsAbove, IsRising, AreRows, row_bytes}
use Rattle.mb_tables.specs.declared.row.Row.{Row}

pub rising-push : (rows : List Row) (row : Row) → IsRising rows → IsAbove row.k rows → IsRising (rows ++ row ∷ [])
rising-push [] row rising above = (All-nil (λ (other : Row). row.k < other.k), tt)
rising-push (first ∷ later) row rising above = (
  All-push (λ (other : Row). first.k < other.k) later row rising.0 (All-head (λ (other : Row). other.k < row.k) first later above),
  rising-push later row rising.1 (All-tail (λ (other : Row). other.k < row.k) first later above),
)

pub rows-push : (rows : List Row) (row : Row) → AreRows rows → IsRow row → IsAbove row.k rows → AreRows (rows ++ row ∷ [])
rows-push rows row good is above = record {
  each = All-push IsRow rows row good.each is;
  rising = rising-push rows row good.rising above;
}

-- a row's K is below that of each later one
pub rising-at : (rows : List Row) → IsRising rows → (i j : ℕ) (d : Row) → i < j → j < length rows → (get_or rows i d).k < (get_or rows j d).k
rising-at [] rising i j d before within = absurd (omega arith)
rising-at (first ∷ later) rising i zero d before within = absurd (omega arith)
rising-at (first ∷ later) rising zero (suc j) d before within = rising.0 j d (omega arith)
rising-at (first ∷ later) rising (suc i) (suc j) d before within = rising-at later rising.1 i j d (omega arith) (omega arith)

-- what is above the last row is above all
pub above-last : (rows : List Row) (row : Row) (k : ℕ) → IsRising rows → 0 < length rows
    → ((d : Row) → get_or rows (length rows - 1) d ≡ row) → row.k < k → IsAbove k rows
above-last rows row k rising some last above = λ i d within.
    let here : (get_or rows (length rows - 1) d).k ≡ row.k = ap (λ (r : Row). r.k) (last d) in
    let earlier : i < length rows - 1 → (get_or rows i d).k < (get_or rows (length rows - 1) d).k
    = λ (h : i < length rows - 1). rising-at rows rising i (length rows - 1) d h (omega arith) in
    let same : i ≡ length rows - 1 → (get_or rows i d).k ≡ (get_or rows (length rows - 1) d).k
    = λ (e : i ≡ length rows - 1). ap (λ n. (get_or rows n d).k) e in
    grind (arith, here, earlier, same)

-- K rise from at least a number on, so there are no more rows than numbers between
pub rows-few : (rows : List Row) (low k : ℕ) → IsRising rows → All (λ (row : Row). low ≤ row.k) rows → IsAbove k rows → low ≤ k
    → low + length rows ≤ k
rows-few [] low k rising all above least = omega arith
rows-few (first ∷ later) low k rising all above least =
    let here = All-head (λ (row : Row). low ≤ row.k) first later all in
    let below = All-head (λ (row : Row). row.k < k) first later above in
    let rest = rows-few later (first.k + 1) k rising.1 (λ i d within. let h = rising.0 i d within in omega (arith, h))
    (All-tail (λ (row : Row). row.k < k) first later above) (omega arith) in
    omega (arith, rest)

pub rows-most : (rows : List Row) → AreRows rows → length rows ≤ 8189
rows-most rows good =
    let few = rows-few rows 4 8193 good.rising (λ i d within. (good.each i d within).k.least)
    (λ i d within. let h = (good.each i d within).k.most in omega (arith, h)) (omega arith) in
    omega (arith, few)

-- ---- a row in its eight bytes

abbrev row_in : List ℕ → Row
row_in xs = record { k = be_number (take 2 xs); j = be_number (take 2 (drop 2 xs)); s = be_number (take 2 (drop 4 xs)); lp = be_number (take 2 (drop 6 xs)) }

two : (xs : List ℕ) (n : ℕ) → AreBytes xs → n + 2 ≤ length xs → be_bytes 2 (be_number (take 2 (drop n xs))) ≡ take 2 (drop n xs)
two xs n all within =
    let part = take 2 (drop n xs) in
    let len : length part ≡ 2 = length-take-le 2 (drop n xs) (omega (arith, length-drop n xs)) in
    subst (λ w. be_bytes w (be_number part) ≡ part) len
    (bytes_written_back part (All-take (λ byte. byte < 256) 2 (drop n xs) (All-drop (λ byte. byte < 256) n xs all)))

two-below : (xs : List ℕ) (n : ℕ) → AreBytes xs → n + 2 ≤ length xs → be_number (take 2 (drop n xs)) < 2 ^ 16
two-below xs n all within =
    let part = take 2 (drop n xs) in
    let len : length part ≡ 2 = length-take-le 2 (drop n xs) (omega (arith, length-drop n xs)) in
    let below = be_number-below part (All-take (λ byte. byte < 256) 2 (drop n xs) (All-drop (λ byte. byte < 256) n xs all)) in
    let power : 256 ^ length part ≡ 65536 = ap (λ w. 256 ^ w) len in
    omega (arith, below, power)

pub row-whole : (xs : List ℕ) → length xs ≡ 8 → AreBytes xs → row_bytes (row_in xs) ≡ xs
row-whole xs len all =
    let one = two xs 0 all (omega arith) in
    let last : take 2 (drop 6 xs) ≡ drop 6 xs = take_all 2 (drop 6 xs) (omega (arith, length-drop 6 xs)) in
    ap₂ ◌++◌ one (ap₂ ◌++◌ (two xs 2 all (omega arith)) (ap₂ ◌++◌ (two xs 4 all (omega arith)) (two xs 6 all (omega arith) ∙ last)))
    ∙ ap (λ l. take 2 xs ++ (take 2 (drop 2 xs) ++ (take 2 (drop 4 xs) ++ l))) (sym (drop-drop 2 4 xs))
    ∙ ap (λ l. take 2 xs ++ (take 2 (drop 2 xs) ++ l)) (take-append-drop 2 (drop 4 xs) ∙ sym (drop-drop 2 2 xs))
    ∙ ap (λ l. take 2 xs ++ l) (take-append-drop 2 (drop 2 xs))
    ∙ take-append-drop 2 xs

pub row-fits : (xs : List ℕ) → length xs ≡ 8 → AreBytes xs → FitsFields (row_in xs)
row-fits xs len all = record {
  k = two-below xs 0 all (omega arith);
  j = two-below xs 2 all (omega arith);
  s = two-below xs 4 all (omega arith);
  lp = two-below xs 6 all (omega arith);
}

pub length-row_bytes : (row : Row) → length (row_bytes row) ≡ 8
length-row_bytes row = omega (
  arith,
  length-append {A = ℕ},
  length-be_bytes 2 row.k,
  length-be_bytes 2 row.j,
  length-be_bytes 2 row.s,
  length-be_bytes 2 row.lp,
  length-append (be_bytes 2 row.k) (be_bytes 2 row.j ++ (be_bytes 2 row.s ++ be_bytes 2 row.lp)),
  length-append (be_bytes 2 row.j) (be_bytes 2 row.s ++ be_bytes 2 row.lp),
  length-append (be_bytes 2 row.s) (be_bytes 2 row.lp),
)

pub length-rows : (rows : List Row) → length (flat_map row_bytes rows) ≡ 8 * length rows
length-rows [] = refl
length-rows (row ∷ later) = omega (arith, length-append (row_bytes row) (flat_map row_bytes later), length-row_bytes row, length-rows later)

pub length-words : (words : List ℕ) → length (flat_map (be_bytes 4) words) ≡ 4 * length words
length-words [] = refl
length-words (word ∷ later) = omega (arith, length-append (be_bytes 4 word) (flat_map (be_bytes 4) later), length-be_bytes 4 word, length-words later)
