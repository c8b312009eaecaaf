-- Lemmas on the bytes that are held between a source and an air.
use Rattle.std.proofs.Common.{◌≡◌, ℕ, ◌+◌, ◌-◌, ◌≤◌, List, [], ◌++◌, length, take, drop, slice_range, Option, Some, None, Result, Ok, Err, refl, sym, ap, ◌∙◌, arith, append_assoc, append-nil}
use Rattle.std.specs.Vec.{with_items}
use Rattle.std.specs.Prelude.{Vec, OnErr}
use Rattle.std.proofs.lemmas.List.{with_items_is, length-append, take_at, drop_at, take-append-le, drop-append-le, drop-take, drop-drop, length-take-le, length-drop, drop_all}
use borrow.Rule.Slice.PartMut.{put_mid, post_of}
use lib.Seq.{take-add}
use Rattle.mb_outside.specs.Outside.{Stays, Loses}
use Rattle.mb_trace.specs.Trace.{bytes_ahead}

pub grown : (xs ys : List ℕ) (start end k n : ℕ) → start ≤ end → end ≤ length xs → n ≤ length ys
    → slice_range (put_mid end k xs ys) start (end + n) ≡ slice_range xs start end ++ take n ys
grown xs ys start end k n ordered within fits =
    let front = length-take-le end xs within in
    let held = drop start (take end xs) in
    let len : length held ≡ end - start = omega (arith, length-drop start (take end xs)) in
    let sum : end + n - start ≡ (end - start) + n = omega arith in
    let parts : end ≡ start + (end - start) = omega arith in
    let same : held ≡ take (end - start) (drop start xs) = ap (λ j. drop start (take j xs)) parts ∙ drop-take start (end - start) xs in
    let after = ys ++ post_of end k xs in
    ap (take (end + n - start)) (drop-append-le start (take end xs) after (omega arith))
    ∙ ap (λ j. take j (held ++ after)) sum ∙ take-add (end - start) n (held ++ after)
    ∙ (rw (take_at held after _ len, drop_at held after _ len, take-append-le n ys (post_of end k xs) fits, same) refl)

pub kept : (xs ys : List ℕ) (start end k : ℕ) → start ≤ end → end ≤ length xs
    → slice_range (put_mid end k xs ys) start end ≡ slice_range xs start end
kept xs ys start end k ordered within =
    let none : end ≡ end + 0 = omega arith in
    ap (slice_range (put_mid end k xs ys) start) none ∙ grown xs ys start end k 0 ordered within (omega arith) ∙ append-nil _

length-put_mid : (xs ys : List ℕ) (end : ℕ) → end ≤ length xs → length ys ≡ length xs - end
    → length (put_mid end (length xs - end) xs ys) ≡ length xs
length-put_mid xs ys end within len =
    let k = length xs - end in
    let none : drop k (drop end xs) ≡ [] = drop_all k (drop end xs) (omega (arith, length-drop end xs)) in
    length-append (take end xs) (ys ++ post_of end k xs) ∙ ap (λ n. length (take end xs) + n) (length-append ys (post_of end k xs))
    ∙ (let rest = ap length none in omega (arith, rest, length-take-le end xs within))

-- a read into the room behind the held bytes
module _ {Z : Type 0} (v : Vec ℕ Z) (xs ys : List ℕ) (start end : ℕ) (whole : xs ≡ v.items) (full : length xs ≡ v.len) (ordered : start ≤ end) (within : end ≤ length xs) (len : length ys ≡ length xs - end) where
  pub read-kept : slice_range (with_items v (put_mid end (length xs - end) xs ys)).items start end ≡ slice_range v.items start end
  read-kept =
      ap (λ l. slice_range l start end) (with_items_is v _ (length-put_mid xs ys end within len ∙ full))
      ∙ kept xs ys start end (length xs - end) ordered within ∙ ap (λ l. slice_range l start end) whole

  pub read-grown : (n : ℕ) → n ≤ length ys
      → slice_range (with_items v (put_mid end (length xs - end) xs ys)).items start (end + n) ≡ slice_range v.items start end ++ take n ys
  read-grown n fits =
      ap (λ l. slice_range l start (end + n)) (with_items_is v _ (length-put_mid xs ys end within len ∙ full))
      ∙ grown xs ys start end (length xs - end) n ordered within fits ∙ ap (λ l. slice_range l start end ++ take n ys) whole

pub skipped : (xs : List ℕ) (start end count : ℕ) → start + count ≤ end
    → slice_range xs (start + count) end ≡ drop count (slice_range xs start end)
skipped xs start end count inside =
    let parts : end - start ≡ count + (end - (start + count)) = omega arith in
    sym (ap (λ j. drop count (take j (drop start xs))) parts ∙ drop-take count _ (drop start xs)
    ∙ ap (take (end - (start + count))) (drop-drop count start xs))

-- what was read moves from the source to what is held
pub Stays-read : (a b : Option (List ℕ)) (old new front : List ℕ) → Loses a b front → new ≡ old ++ front → Stays (bytes_ahead old a) (bytes_ahead new b)
Stays-read None b old new front p e = tt
Stays-read (Some x) None old new front p e = absurd p
Stays-read (Some x) (Some y) old new front p e =
    ap (λ l. l ++ y) e ∙ append_assoc old front y ∙ ap (λ l. old ++ l) (sym p)

-- nothing was read
pub Stays-kept : (a b : Option (List ℕ)) (old new : List ℕ) → Stays a b → new ≡ old → Stays (bytes_ahead old a) (bytes_ahead new b)
Stays-kept None b old new p e = tt
Stays-kept (Some x) None old new p e = absurd p
Stays-kept (Some x) (Some y) old new p e = ap (λ l. l ++ y) e ∙ ap (λ l. old ++ l) p

-- a fact holds whatever is answered
pub OnErr-always : {T E : Type 0} (result : Result T E) (P : Type 0) → P → OnErr result P
OnErr-always (Ok value) P p = tt
OnErr-always (Err fault) P p = p
