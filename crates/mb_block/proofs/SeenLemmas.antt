-- What is seen of a block's bytes and bits: of none, with one symbol more, and of all.
use Rattle.std.proofs.Common.{◌≡◌, ℕ, zero, suc, ◌+◌, ◌-◌, ◌*◌, ◌/◌, ◌%◌, ◌<◌, ◌≤◌, ◌==◌, Bool, true, false, not, nat_lt, cond, List, [], ◌∷◌, ◌++◌, length, map, take, drop, replicate, get_or, refl, sym, ◌∙◌, ap, ap₂, arith, eq-eqb, ◌≢◌, lt-ltb, le-ltb, subst, append_assoc, length-append, length-drop}
use Rattle.std.specs.List.{AllByRecursion, filter, range_with_len, concat}
use Rattle.std.proofs.lemmas.Bool.{ne_eqb}
use Rattle.std.proofs.lemmas.Grind.{common_steps}
use Rattle.std.proofs.lemmas.Nat.Bits.{bit_at-zero}
use Rattle.std.proofs.lemmas.List.{take-append-drop, take-append-le, drop-append-le, drop-drop, length-take, length-map}
use Rattle.std.proofs.Math.Seq.{drop-append-add}
use Rattle.std.proofs.Math.ListN.{drop_of_length-le}
use Rattle.std.proofs.Math.Nat.{mul-le-mul_right}
use Rattle.mb_bits.specs.BitRow.{bit_in, Flips}
use Rattle.mb_encoder.specs.Solutions.{Pair, esis}
use Rattle.mb_way.specs.Way.{Way.NoCode, is_in_range}
use Rattle.mb_way.specs.Determined.{is_determined}
use Rattle.mb_way.specs.Heard.{with_pair, AreRising}
use Rattle.mb_way.proofs.Rising.{AreBelow, has, rising-from, rising-has_before, rising-length}
use Rattle.mb_block.specs.Block.{IsPairOf, IsBlock}
use Rattle.mb_block.specs.Buffer.{pair_at, seen, block_in, IsBuffer}

-- the numbers of a range that pass a test
unfoldable pub passed : (ℕ → Bool) → ℕ → ℕ → List ℕ
passed p n a = filter p (range_with_len a n)

rising-cond : (b : Bool) (a least : ℕ) (es : List ℕ) → least ≤ a → AreRising (a + 1) es → AreRising least (cond b (a ∷ es) es)
rising-cond true a least es le rise = (le, rise)
rising-cond false a least es le rise = rising-from es least (a + 1) rise (omega arith)

pub passed-rising : (p : ℕ → Bool) (n a : ℕ) → AreRising a (passed p n a)
unfolding passed
passed-rising p zero a = tt
passed-rising p (suc n) a = rising-cond (p a) a a (passed p n (a + 1)) (omega arith) (passed-rising p n (a + 1))

below-cond : (b : Bool) (a end : ℕ) (es : List ℕ) → a < end → AreBelow end es → AreBelow end (cond b (a ∷ es) es)
below-cond true a end es lt below = (lt, below)
below-cond false a end es lt below = below

pub passed-below : (p : ℕ → Bool) (n a end : ℕ) → a + n ≡ end → AreBelow end (passed p n a)
unfolding passed
passed-below p zero a end is = tt
passed-below p (suc n) a end is = below-cond (p a) a end (passed p n (a + 1)) (omega arith) (passed-below p n (a + 1) end (omega arith))

pub esis-pairs : (f : ℕ → Pair) → ((e : ℕ) → (f e).esi ≡ e) → (es : List ℕ) → esis (map f es) ≡ es
esis-pairs f is [] = refl
esis-pairs f is (e ∷ es) = ap₂ (λ (x : ℕ) (xs : List ℕ). x ∷ xs) (is e) (esis-pairs f is es)

pub esis-seen : (k t : ℕ) (bytes words : List ℕ) → esis (seen k t bytes words) ≡ filter (bit_in words) (range_with_len 0 k)
unfolding seen
esis-seen k t bytes words = esis-pairs (pair_at t bytes) (λ e. refl) (filter (bit_in words) (range_with_len 0 k))

-- whether a number is among those that pass

has-cond_here : (b : Bool) (e : ℕ) (es : List ℕ) → has e es ≡ false → has e (cond b (e ∷ es) es) ≡ b
has-cond_here true e es none = let same : (e == e) ≡ true = eq-eqb e e refl in rw same refl
has-cond_here false e es none = none

has-cond_later : (b : Bool) (a e : ℕ) (es : List ℕ) → a < e → has e (cond b (a ∷ es) es) ≡ has e es
has-cond_later true a e es lt = let other : (a == e) ≡ false = ne_eqb a e (λ is. omega arith) in rw other refl
has-cond_later false a e es lt = refl

pub passed-has : (p : ℕ → Bool) (n a e i : ℕ) → i < n → e ≡ a + i → has e (passed p n a) ≡ p e
unfolding passed
passed-has p zero a e i lt is = absurd (omega arith)
passed-has p (suc n) a e zero lt is =
    let here : a ≡ e = omega arith in
    rw here (has-cond_here (p e) e (passed p n (e + 1)) (rising-has_before (passed p n (e + 1)) (e + 1) e (passed-rising p n (e + 1)) (omega arith)))
passed-has p (suc n) a e (suc i) lt is =
    has-cond_later (p a) a e (passed p n (a + 1)) (omega arith) ∙ passed-has p n (a + 1) e i (omega arith) (omega arith)

-- ---- one more

-- from one test and its pairs to another that passes one number more
pub record IsMore (pair : Pair) (p q : ℕ → Bool) (f g : ℕ → Pair) : Type 0 where
  pub f_esi : (e : ℕ) → (f e).esi ≡ e
  pub others : (e : ℕ) → e ≢ pair.esi → q e ≡ p e
  pub same : (e : ℕ) → e ≢ pair.esi → g e ≡ f e
  pub old : p pair.esi ≡ false
  pub new : q pair.esi ≡ true
  pub new_pair : g pair.esi ≡ pair

pub same-cond : (b : Bool) (x y : Pair) (xs ys : List Pair) → y ≡ x → ys ≡ xs → cond b (y ∷ ys) ys ≡ cond b (x ∷ xs) xs
same-cond b x y xs ys first others = rw (first, others) refl

pub map-cond : (f : ℕ → Pair) (b : Bool) (e : ℕ) (es : List ℕ) → map f (cond b (e ∷ es) es) ≡ cond b (f e ∷ map f es) (map f es)
map-cond f true e es = refl
map-cond f false e es = refl

-- behind its place nothing changes
more-behind : (pair : Pair) (p q : ℕ → Bool) (f g : ℕ → Pair) → IsMore pair p q f g → (n a : ℕ) → pair.esi < a
    → map g (passed q n a) ≡ map f (passed p n a)
unfolding passed
more-behind pair p q f g m zero a after = refl
more-behind pair p q f g m (suc n) a after =
    let other : a ≢ pair.esi = λ is. omega arith in
    map-cond g (q a) a (passed q n (a + 1))
    ∙ ap (λ b. cond b (g a ∷ map g (passed q n (a + 1))) (map g (passed q n (a + 1)))) (m.others a other)
    ∙ same-cond (p a) (f a) (g a) (map f (passed p n (a + 1))) (map g (passed q n (a + 1))) (m.same a other) (more-behind pair p q f g m n (a + 1) (omega arith))
    ∙ sym (map-cond f (p a) a (passed p n (a + 1)))

-- a pair goes before those with larger ESIs
with_pair-first : (pair : Pair) (kept : List Pair) (least : ℕ) → AreRising least (esis kept) → pair.esi < least → with_pair pair kept ≡ pair ∷ kept
unfolding with_pair
with_pair-first pair [] least rise before = refl
with_pair-first pair (first ∷ others) least rise before =
    let above = rise.0 in
    let less : nat_lt pair.esi first.esi ≡ true = lt-ltb pair.esi first.esi (omega arith) in
    rw less refl

with_pair-later : (b : Bool) (pair first : Pair) (kept : List Pair) → first.esi < pair.esi
    → cond b (first ∷ with_pair pair kept) (with_pair pair kept) ≡ with_pair pair (cond b (first ∷ kept) kept)
unfolding with_pair
with_pair-later true pair first kept after =
    let less : nat_lt pair.esi first.esi ≡ false = le-ltb pair.esi first.esi (omega arith) in
    rw less refl
with_pair-later false pair first kept after = refl

pub more-seen : (pair : Pair) (p q : ℕ → Bool) (f g : ℕ → Pair) → IsMore pair p q f g → (n a i : ℕ) → i < n → pair.esi ≡ a + i
    → map g (passed q n a) ≡ with_pair pair (map f (passed p n a))
unfolding passed
more-seen pair p q f g m zero a i lt is = absurd (omega arith)
more-seen pair p q f g m (suc n) a zero lt is =
    let here : a ≡ pair.esi = omega arith in
    let rise : AreRising (a + 1) (esis (map f (passed p n (a + 1)))) =
    subst (AreRising (a + 1)) (sym (esis-pairs f m.f_esi (passed p n (a + 1)))) (passed-rising p n (a + 1)) in
    let was : p a ≡ false = ap p here ∙ m.old in
    let now : q a ≡ true = ap q here ∙ m.new in
    let there : g a ≡ pair = ap g here ∙ m.new_pair in
    rw (now, was, there)
    (ap (λ (xs : List Pair). pair ∷ xs) (more-behind pair p q f g m n (a + 1) (omega arith))
    ∙ sym (with_pair-first pair (map f (passed p n (a + 1))) (a + 1) rise (omega arith)))
more-seen pair p q f g m (suc n) a (suc i) lt is =
    let other : a ≢ pair.esi = λ same. omega arith in
    let before : (f a).esi < pair.esi = let e = m.f_esi a in omega arith in
    map-cond g (q a) a (passed q n (a + 1))
    ∙ ap (λ b. cond b (g a ∷ map g (passed q n (a + 1))) (map g (passed q n (a + 1)))) (m.others a other)
    ∙ same-cond (p a) (f a) (g a) (with_pair pair (map f (passed p n (a + 1)))) (map g (passed q n (a + 1))) (m.same a other)
    (more-seen pair p q f g m n (a + 1) i (omega arith) (omega arith))
    ∙ with_pair-later (p a) pair (f a) (map f (passed p n (a + 1))) before
    ∙ ap (with_pair pair) (sym (map-cond f (p a) a (passed p n (a + 1))))

-- ---- the bytes of one symbol more

-- so many bytes with a piece in the place of others
unfoldable pub put : ℕ → ℕ → List ℕ → List ℕ → List ℕ
put at t piece bytes = take at bytes ++ (piece ++ drop (at + t) bytes)

pub put-here : (at t : ℕ) (piece bytes : List ℕ) → length piece ≡ t → at + t ≤ length bytes → take t (drop at (put at t piece bytes)) ≡ piece
unfolding put
put-here at t piece bytes len reach = grind (arith, common_steps)

part-left : (t m : ℕ) (xs ys : List ℕ) → m + t ≤ length xs → take t (drop m (xs ++ ys)) ≡ take t (drop m xs)
part-left t m xs ys within =
    let left : length (drop m xs) ≡ length xs - m = length-drop m xs in
    ap (take t) (drop-append-le m xs ys (omega arith)) ∙ take-append-le t (drop m xs) ys (omega arith)

put-before : (at t m : ℕ) (piece bytes : List ℕ) → at + t ≤ length bytes → m + t ≤ at
    → take t (drop m (put at t piece bytes)) ≡ take t (drop m bytes)
unfolding put
put-before at t m piece bytes reach before =
    let len = length-take at bytes in
    let within : m + t ≤ length (take at bytes) = omega arith in
    part-left t m (take at bytes) (piece ++ drop (at + t) bytes) within
    ∙ sym (part-left t m (take at bytes) (drop at bytes) within)
    ∙ ap (λ xs. take t (drop m xs)) (take-append-drop at bytes)

put-behind : (at t m : ℕ) (piece bytes : List ℕ) → length piece ≡ t → at + t ≤ length bytes → at + t ≤ m
    → drop m (put at t piece bytes) ≡ drop m bytes
unfolding put
put-behind at t m piece bytes len reach behind =
    let front = length-take at bytes in
    let both = length-append (take at bytes) piece in
    let rest : m ≡ length (take at bytes ++ piece) + (m - (at + t)) = omega arith in
    let back : at + t + (m - (at + t)) ≡ m = omega arith in
    ap (drop m) (sym (append_assoc (take at bytes) piece (drop (at + t) bytes)))
    ∙ ap (λ i. drop i ((take at bytes ++ piece) ++ drop (at + t) bytes)) rest
    ∙ drop-append-add (take at bytes ++ piece) (drop (at + t) bytes) (m - (at + t))
    ∙ drop-drop (m - (at + t)) (at + t) bytes
    ∙ ap (λ i. drop i bytes) back

-- a symbol's bytes and its bit, in the place of others
pub record IsPut (k t : ℕ) (bytes words new_bytes new_words piece : List ℕ) (place : ℕ) : Type 0 where
  pub within : place < k
  pub clear : bit_in words place ≡ false
  pub flips : Flips place words new_words
  pub piece_is : length piece ≡ t
  pub bytes_are : new_bytes ≡ take (place * t) bytes ++ (piece ++ drop (place * t + t) bytes)

pub place-reach : (place k t n : ℕ) → place < k → n ≡ k * t → place * t + t ≤ n
place-reach place k t n before is =
    let more : suc place * t ≤ k * t = mul-le-mul_right t before in
    omega (arith, more)

pub data Apart (m n : ℕ) : Type 0 where
  Less : m < n → Apart m n
  More : n < m → Apart m n

pub apart : (m n : ℕ) → m ≢ n → Apart m n
apart zero zero other = absurd (other refl)
apart zero (suc n) other = Less (omega arith)
apart (suc m) zero other = More (omega arith)
apart (suc m) (suc n) other = step (apart m n (λ is. other (ap suc is)))
  where
    step : Apart m n → Apart (suc m) (suc n)
    step (Less p) = Less (omega arith)
    step (More p) = More (omega arith)

pub pair-other : (t place e : ℕ) (piece bytes : List ℕ) → length piece ≡ t → place * t + t ≤ length bytes → Apart e place
    → pair_at t (put (place * t) t piece bytes) e ≡ pair_at t bytes e
pair-other t place e piece bytes len reach (Less before) =
    ap (λ xs. let pair : Pair = record { esi = e; symbol = xs } in pair)
    (put-before (place * t) t (e * t) piece bytes reach (place-reach e place t (place * t) before refl))
pair-other t place e piece bytes len reach (More behind) =
    ap (λ xs. let pair : Pair = record { esi = e; symbol = take t xs } in pair)
    (put-behind (place * t) t (e * t) piece bytes len reach (place-reach place e t (e * t) behind refl))

pub seen-put : (k t : ℕ) (bytes words new_bytes new_words piece : List ℕ) (place : ℕ) → length bytes ≡ k * t
    → IsPut k t bytes words new_bytes new_words piece place
    → seen k t new_bytes new_words ≡ with_pair (record { esi = place; symbol = piece }) (seen k t bytes words)
unfolding seen passed put
seen-put k t bytes words new_bytes new_words piece place len p =
    let reach : place * t + t ≤ length bytes = place-reach place k t (length bytes) p.within len in
    more-seen (record { esi = place; symbol = piece }) (bit_in words) (bit_in new_words) (pair_at t bytes) (pair_at t new_bytes)
    (record {
      f_esi = λ e. refl;
      others = p.flips.others;
      same = λ e other. rw p.bytes_are (pair-other t place e piece bytes p.piece_is reach (apart e place other));
      old = p.clear;
      new = p.flips.turned ∙ ap not p.clear;
      new_pair = ap (λ xs. let pair : Pair = record { esi = place; symbol = xs } in pair)
          (ap (λ xs. take t (drop (place * t) xs)) p.bytes_are ∙ put-here (place * t) t piece bytes p.piece_is reach);
    }) k 0 place p.within (omega arith)

-- ---- none, some, and all

pub passed-none : (p : ℕ → Bool) (n a : ℕ) → ((e : ℕ) → p e ≡ false) → passed p n a ≡ []
unfolding passed
passed-none p zero a none = refl
passed-none p (suc n) a none = rw (none a) (passed-none p n (a + 1) none)

zero_word : (m i : ℕ) → ◌≡◌ {A = ℕ} (get_or (replicate m 0) i 0) 0
zero_word zero i = refl
zero_word (suc m) zero = refl
zero_word (suc m) (suc i) = zero_word m i

pub no_bit : (m i : ℕ) → bit_in (replicate m 0) i ≡ false
no_bit m i = rw (zero_word m (i / 64), bit_at-zero (i % 64)) refl

pub seen-none : (k t : ℕ) (bytes words : List ℕ) (m : ℕ) → words ≡ replicate m 0 → seen k t bytes words ≡ []
unfolding seen passed
seen-none k t bytes words m none = rw none (ap (map (pair_at t bytes)) (passed-none (bit_in (replicate m 0)) k 0 (no_bit m)))

pub passed-length : (p : ℕ → Bool) (n a : ℕ) → length (passed p n a) ≤ n
passed-length p n a =
    let few = rising-length (passed p n a) a (a + n) (passed-rising p n a) (passed-below p n a (a + n) refl) in omega arith

pub length-seen : (k t : ℕ) (bytes words : List ℕ) → length (seen k t bytes words) ≤ k
unfolding seen passed
length-seen k t bytes words =
    let few = passed-length (bit_in words) k 0 in
    let same = length-map (filter (bit_in words) (range_with_len 0 k)) (pair_at t bytes) in
    omega arith

all-cond : (b : Bool) (a n : ℕ) (es : List ℕ) → length es ≤ n → length (cond b (a ∷ es) es) ≡ suc n
    → (length es ≡ n) × (cond b (a ∷ es) es ≡ a ∷ es)
all-cond true a n es few all = (omega arith, refl)
all-cond false a n es few all = absurd (omega arith)

pub passed-all : (p : ℕ → Bool) (n a : ℕ) → length (passed p n a) ≡ n → passed p n a ≡ range_with_len a n
unfolding passed
passed-all p zero a all = refl
passed-all p (suc n) a all =
    let here = all-cond (p a) a n (passed p n (a + 1)) (passed-length p n (a + 1)) all in
    here.1 ∙ ap (λ (es : List ℕ). a ∷ es) (passed-all p n (a + 1) here.0)

joined-range : (n a t : ℕ) (bytes : List ℕ) → length bytes ≡ (a + n) * t
    → concat (map (λ pair. pair.symbol) (map (pair_at t bytes) (range_with_len a n))) ≡ drop (a * t) bytes
joined-range zero a t bytes len =
    let end : length bytes ≡ a * t = len ∙ ap (λ i. i * t) (omega arith) in
    sym (drop_of_length-le bytes (omega arith))
joined-range (suc n) a t bytes len =
    let next : (a + 1) * t ≡ a * t + t = omega arith in
    let count : length bytes ≡ (a + 1 + n) * t = len ∙ ap (λ i. i * t) (omega arith) in
    ap (λ xs. take t (drop (a * t) bytes) ++ xs)
    (joined-range n (a + 1) t bytes count ∙ ap (λ i. drop i bytes) next ∙ sym (drop-drop t (a * t) bytes))
    ∙ take-append-drop t (drop (a * t) bytes)

-- where all symbols were heard, they are the bytes
pub joined-seen : (k t : ℕ) (bytes words : List ℕ) → length bytes ≡ k * t → length (seen k t bytes words) ≡ k
    → concat (map (λ pair. pair.symbol) (seen k t bytes words)) ≡ bytes
unfolding seen passed
joined-seen k t bytes words len all =
    let same = length-map (filter (bit_in words) (range_with_len 0 k)) (pair_at t bytes) in
    let from : k ≡ 0 + k = omega arith in
    let first : 0 * t ≡ 0 = omega arith in
    ap (λ es. concat (map (λ pair. pair.symbol) (map (pair_at t bytes) es))) (passed-all (bit_in words) k 0 (omega arith))
    ∙ joined-range k 0 t bytes (len ∙ ap (λ i. i * t) from)
    ∙ ap (λ i. drop i bytes) first

-- ---- what holds of what is seen

pairs-at : (k t : ℕ) (bytes : List ℕ) (es : List ℕ) → length bytes ≡ k * t → AreBelow k es → AllByRecursion (IsPairOf (NoCode k) t) (map (pair_at t bytes) es)
pairs-at k t bytes [] len below = tt
pairs-at k t bytes (e ∷ es) len below =
    let reach = place-reach e k t (length bytes) below.0 len in
    let left = length-drop (e * t) bytes in
    let whole : length (take t (drop (e * t) bytes)) ≡ t = omega (arith, length-take t (drop (e * t) bytes)) in
    ((lt-ltb e k below.0, whole), pairs-at k t bytes es len below.1)

-- each pair is of an ESI that the block has
pub pairs-range : (k t : ℕ) (kept : List Pair) → AllByRecursion (IsPairOf (NoCode k) t) kept → AllByRecursion (λ (pair : Pair). is_in_range (NoCode k) pair.esi ≡ true) kept
pairs-range k t [] are = tt
pairs-range k t (pair ∷ kept) are = (are.0.0, pairs-range k t kept are.1)

pub seen-pairs : (k t : ℕ) (bytes words : List ℕ) → length bytes ≡ k * t → AllByRecursion (IsPairOf (NoCode k) t) (seen k t bytes words)
unfolding seen passed
seen-pairs k t bytes words len = pairs-at k t bytes (passed (bit_in words) k 0) len (passed-below (bit_in words) k 0 k (omega arith))

pub seen-rising : (k t : ℕ) (bytes words : List ℕ) → AreRising 0 (esis (seen k t bytes words))
unfolding passed
seen-rising k t bytes words = subst (AreRising 0) (sym (esis-seen k t bytes words)) (passed-rising (bit_in words) k 0)

pub seen-block : (k t : ℕ) (bytes words : List ℕ) (kept : ℕ) → IsBuffer k t bytes words kept → IsBlock (block_in k t bytes words)
seen-block k t bytes words kept b =
    let pairs = seen-pairs k t bytes words b.bytes_are in record {
      way = (b.some, b.most);
      some = b.symbol;
      kept = record { few = length-seen k t bytes words; range = pairs-range k t (seen k t bytes words) pairs; new = seen-rising k t bytes words };
      pairs = pairs;
    }

-- whether a symbol was heard is what its bit says
pub seen-determined : (k t : ℕ) (bytes words : List ℕ) (place : ℕ) → place < k → is_determined (NoCode k) (esis (seen k t bytes words)) place ≡ bit_in words place
unfolding passed is_determined
seen-determined k t bytes words place within =
    ap (has place) (esis-seen k t bytes words) ∙ passed-has (bit_in words) k 0 place place within (omega arith)
