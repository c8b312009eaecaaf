-- What is seen of a text's bytes and bits: of none, with one symbol more, and of all.
use Rattle.std.proofs.Common.{◌≡◌, ◌≢◌, ℕ, zero, suc, ◌+◌, ◌-◌, ◌*◌, ◌/◌, ◌%◌, ◌<◌, ◌≤◌, min, Bool, true, false, not, cond, List, [], ◌∷◌, ◌++◌, length, get_or, set, take, drop, replicate, Option, Some, None, is_some, refl, sym, ◌∙◌, ap, ap₂, arith, ◌==◌, length-drop, add-one}
use Rattle.std.proofs.lemmas.Grind.{common_steps}
use Rattle.std.proofs.lemmas.List.{take-append-drop, drop-append-le, drop-take, length-take}
use Rattle.std.proofs.lemmas.Nat.Bits.{bit_at-zero}
use Rattle.mb_bits.specs.BitRow.{bit_in, row_from, Flips}
use Rattle.mb_window.specs.Symbols.{is_whole, joined}
use Rattle.mb_window.specs.Buffer.{seen, missing_in}

-- ---- bits

pub length-row_from : (n at : ℕ) (words : List ℕ) → length (row_from n at words) ≡ n
unfolding row_from
length-row_from zero at words = refl
length-row_from (suc n) at words = ap suc (length-row_from n (suc at) words)

pub row_from-get : (n at i place : ℕ) (words : List ℕ) → i < n → place ≡ at + i → get_or (row_from n at words) i false ≡ bit_in words place
unfolding row_from
row_from-get zero at i place words within is = absurd (omega arith)
row_from-get (suc n) at zero place words within is = ap (bit_in words) (omega arith)
row_from-get (suc n) at (suc i) place words within is = row_from-get n (suc at) i place words (omega arith) (omega arith)

row_from-same : (n at place : ℕ) (old new : List ℕ) → Flips place old new → place < at → row_from n at new ≡ row_from n at old
unfolding row_from
row_from-same zero at place old new flips before = refl
row_from-same (suc n) at place old new flips before =
    let other : at ≢ place = omega arith in
    ap₂ (λ (b : Bool) (bs : List Bool). b ∷ bs) (flips.others at other) (row_from-same n (suc at) place old new flips (omega arith))

pub row_from-set : (n at i place : ℕ) (old new : List ℕ) → Flips place old new → place ≡ at + i → i < n → bit_in old place ≡ false
    → row_from n at new ≡ set (row_from n at old) i true
unfolding row_from
row_from-set zero at i place old new flips is within clear = absurd (omega arith)
row_from-set (suc n) at zero place old new flips is within clear =
    let here : place ≡ at = omega arith in
    ap₂ (λ (b : Bool) (bs : List Bool). b ∷ bs) (ap (bit_in new) (sym here) ∙ flips.turned ∙ ap not clear) (row_from-same n (suc at) place old new flips (omega arith))
row_from-set (suc n) at (suc i) place old new flips is within clear =
    let other : at ≢ place = omega arith in
    ap₂ (λ (b : Bool) (bs : List Bool). b ∷ bs) (flips.others at other) (row_from-set n (suc at) i place old new flips (omega arith) (omega arith) clear)

-- ---- symbols

pub length-seen : (bits : List Bool) (t : ℕ) (bytes : List ℕ) → length (seen bits t bytes) ≡ length bits
unfolding seen
length-seen [] t bytes = refl
length-seen (b ∷ bits) t bytes = ap suc (length-seen bits t (drop t bytes))

if_some : (b : Bool) (x : List ℕ) → is_some (cond b (Some x) None) ≡ b
if_some true x = refl
if_some false x = refl

pub seen-get : (bits : List Bool) (t : ℕ) (bytes : List ℕ) (i : ℕ) → is_some (get_or (seen bits t bytes) i None) ≡ get_or bits i false
unfolding seen
seen-get [] t bytes i = refl
seen-get (b ∷ bits) t bytes zero = if_some b (take t bytes)
seen-get (b ∷ bits) t bytes (suc i) = seen-get bits t (drop t bytes) i

pub data Order (a b : ℕ) : Type 0 where
  upto : a ≤ b → Order a b
  past : b < a → Order a b

order_step : (a b : ℕ) → Order a b → Order (suc a) (suc b)
order_step a b (upto p) = upto (omega arith)
order_step a b (past p) = past (omega arith)

pub order : (a b : ℕ) → Order a b
order zero b = upto (omega arith)
order (suc a) zero = past (omega arith)
order (suc a) (suc b) = order_step a b (order a b)

put_take : (t : ℕ) (bytes piece : List ℕ) → length piece ≡ min t (length bytes) → Order t (length bytes) → take t (piece ++ drop (length piece) bytes) ≡ piece
put_take t bytes piece is (upto p) = let whole : t ≡ length piece = omega arith in rw whole (grind (arith, common_steps))
put_take t bytes piece is (past p) = let all : length piece ≡ length bytes = omega arith in rw all (grind (arith, common_steps))

put_drop : (t : ℕ) (bytes piece : List ℕ) → length piece ≡ min t (length bytes) → Order t (length bytes) → drop t (piece ++ drop (length piece) bytes) ≡ drop t bytes
put_drop t bytes piece is (upto p) = let whole : t ≡ length piece = omega arith in rw whole (grind (arith, common_steps))
put_drop t bytes piece is (past p) = let all : length piece ≡ length bytes = omega arith in rw all (grind (arith, common_steps))

-- bytes with a piece in the place of others
put : ℕ → List ℕ → List ℕ → List ℕ
put at piece bytes = take at bytes ++ (piece ++ drop (at + length piece) bytes)

put_behind_take : (t at : ℕ) (bytes piece : List ℕ) → at + t ≤ length bytes → take t (put (at + t) piece bytes) ≡ take t bytes
unfolding put
put_behind_take t at bytes piece within = grind (arith, common_steps)

drop_more : (t k n : ℕ) (bytes : List ℕ) → n ≡ t + k → drop n bytes ≡ drop k (drop t bytes)
drop_more zero k n bytes is = ap (λ i. drop i bytes) (omega arith)
drop_more (suc t) k n [] is = grind (arith, common_steps)
drop_more (suc t) k n (x ∷ bytes) is = let next : n ≡ suc (t + k) = omega arith in rw next (drop_more t k (t + k) bytes refl)

put_behind_drop : (t at : ℕ) (bytes piece : List ℕ) → at + t ≤ length bytes → drop t (put (at + t) piece bytes) ≡ put at piece (drop t bytes)
unfolding put
put_behind_drop t at bytes piece within =
    let reach : t ≤ length (take (at + t) bytes) = omega (arith, length-take (at + t) bytes) in
    drop-append-le t (take (at + t) bytes) (piece ++ drop (at + t + length piece) bytes) reach
    ∙ ap₂ (λ (xs ys : List ℕ). xs ++ (piece ++ ys)) (ap (λ k. drop t (take k bytes)) (omega arith) ∙ drop-take t at bytes)
    (drop_more t (at + length piece) (at + t + length piece) bytes (omega arith))

put_first : (bytes piece : List ℕ) → put 0 piece bytes ≡ piece ++ drop (length piece) bytes
unfolding put
put_first bytes piece = ap (λ k. piece ++ drop k bytes) (omega arith)

seen-set_at : (bits : List Bool) (t : ℕ) (bytes piece : List ℕ) (n at : ℕ) → at ≡ n * t → at ≤ length bytes → n < length bits
    → length piece ≡ min t (length bytes - at) → seen (set bits n true) t (put at piece bytes) ≡ set (seen bits t bytes) n (Some piece)
unfolding seen
seen-set_at [] t bytes piece n at is reach below len = absurd (omega arith)
seen-set_at (b ∷ bits) t bytes piece zero at is reach below len =
    let first : at ≡ 0 = omega arith in
    let short : length piece ≡ min t (length bytes) = omega arith in
    rw (first, put_first bytes piece)
    (ap₂ (λ (x : List ℕ) (xs : List (Option (List ℕ))). Some x ∷ xs) (put_take t bytes piece short (order t (length bytes)))
    (ap (seen bits t) (put_drop t bytes piece short (order t (length bytes)))))
seen-set_at (b ∷ bits) t bytes piece (suc n) at is reach below len =
    let later : at ≡ n * t + t = omega arith in
    let inside : n * t + t ≤ length bytes = omega arith in
    let left : length (drop t bytes) ≡ length bytes - t = length-drop t bytes in
    rw (later, put_behind_take t (n * t) bytes piece inside, put_behind_drop t (n * t) bytes piece inside)
    (ap (λ (xs : List (Option (List ℕ))). (cond b (Some (take t bytes)) None) ∷ xs)
    (seen-set_at bits t (drop t bytes) piece n (n * t) refl (omega (arith, left)) (omega arith) (omega (arith, left))))

-- one symbol more is seen where its bytes are put and its bit is set
pub seen-set : (bits : List Bool) (t : ℕ) (bytes piece new : List ℕ) (n at : ℕ) → at ≡ n * t → at ≤ length bytes → n < length bits
    → length piece ≡ min t (length bytes - at) → new ≡ take at bytes ++ (piece ++ drop (at + length piece) bytes)
    → seen (set bits n true) t new ≡ set (seen bits t bytes) n (Some piece)
unfolding put
seen-set bits t bytes piece new n at is reach below len new_is = rw new_is (seen-set_at bits t bytes piece n at is reach below len)

-- ---- missing symbols

pub missing-set : (kept : List (Option (List ℕ))) (n : ℕ) (x : List ℕ) → n < length kept → is_some (get_or kept n None) ≡ false
    → missing_in (set kept n (Some x)) + 1 ≡ missing_in kept
missing-set [] n x within none = absurd (omega arith)
missing-set (None ∷ kept) zero x within none = refl
missing-set (Some y ∷ kept) zero x within none = cc
missing-set (None ∷ kept) (suc n) x within none = ap (λ k. k + 1) (missing-set kept n x (omega arith) none)
missing-set (Some y ∷ kept) (suc n) x within none = missing-set kept n x (omega arith) none

not_zero : (n : ℕ) → false ≡ (n + 1 == 0)
not_zero n = grind (arith, common_steps)

pub whole-missing : (kept : List (Option (List ℕ))) → is_whole kept ≡ (missing_in kept == 0)
whole-missing [] = refl
whole-missing (None ∷ kept) = not_zero (missing_in kept)
whole-missing (Some x ∷ kept) = whole-missing kept

no_bytes : (bytes : List ℕ) → length bytes ≤ 0 → [] ≡ bytes
no_bytes [] none = refl
no_bytes (x ∷ bytes) none = absurd (omega arith)

-- where no symbol is missing, they are the bytes
pub joined-seen : (bits : List Bool) (t : ℕ) (bytes : List ℕ) → missing_in (seen bits t bytes) ≡ 0 → length bytes ≤ length bits * t
    → joined (seen bits t bytes) ≡ bytes
unfolding seen
joined-seen [] t bytes none within = no_bytes bytes (omega arith)
joined-seen (true ∷ bits) t bytes none within =
    let left : length (drop t bytes) ≡ length bytes - t = length-drop t bytes in
    ap (λ xs. take t bytes ++ xs) (joined-seen bits t (drop t bytes) none (omega (arith, left))) ∙ take-append-drop t bytes
joined-seen (false ∷ bits) t bytes none within = absurd (omega arith)

-- ---- nothing

zero_word : (m i : ℕ) → ◌≡◌ {A = ℕ} (get_or (replicate m 0) i 0) 0
zero_word zero i = refl
zero_word (suc m) zero = refl
zero_word (suc m) (suc i) = zero_word m i

no_bit : (m i : ℕ) → bit_in (replicate m 0) i ≡ false
no_bit m i = rw (zero_word m (i / 64), bit_at-zero (i % 64)) refl

pub row_from-none : (n at m : ℕ) → row_from n at (replicate m 0) ≡ replicate n false
unfolding row_from
row_from-none zero at m = refl
row_from-none (suc n) at m = ap₂ (λ (b : Bool) (bs : List Bool). b ∷ bs) (no_bit m at) (row_from-none n (suc at) m)

pub seen-none : (n t : ℕ) (bytes : List ℕ) → seen (replicate n false) t bytes ≡ replicate n None
unfolding seen
seen-none zero t bytes = refl
seen-none (suc n) t bytes = ap (λ (xs : List (Option (List ℕ))). None ∷ xs) (seen-none n t (drop t bytes))

pub missing-none : (n : ℕ) → missing_in (replicate n None) ≡ n
missing-none zero = refl
missing-none (suc n) = ap (λ k. k + 1) (missing-none n) ∙ add-one n
