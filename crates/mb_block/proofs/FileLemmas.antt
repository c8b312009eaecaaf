-- What is seen of the bytes and bits of all blocks of a file: of none, with one symbol more, and of all.
use Rattle.std.proofs.Common.{◌≡◌, ◌≢◌, ℕ, zero, suc, ◌+◌, ◌*◌, ◌<◌, ◌≤◌, Bool, false, not, cond, List, [], ◌∷◌, ◌++◌, length, map, take, drop, get_or, set, replicate, sum, ◌^◌, refl, sym, ◌∙◌, ap, ap₂, subst, arith, lt-ltb, take-add, length-drop}
use Rattle.std.specs.List.{AllByRecursion, filter, range_with_len, concat}
use Rattle.std.proofs.lemmas.List.{take-append-drop, drop-drop, length-take, length-map, length-replicate, set-get_or}
use Rattle.std.proofs.Math.ListN.{drop_of_length-le}
use Rattle.std.proofs.Math.Nat.{mul-le-mul_right}
use Rattle.mb_bits.specs.BitRow.{bit_in}
use Rattle.mb_geom.specs.Partition.{ceiling}
use Rattle.mb_geom.specs.Description.{Description, IsGood, block_sizes, symbols, plain}
use Rattle.mb_geom.proofs.PartitionLemmas.{le-ceiling-times}
use Rattle.mb_geom.proofs.SymbolLemmas.{sum-cons, sum-within}
use Rattle.mb_geom.proofs.LayoutLemmas.{sum-block_sizes}
use Rattle.mb_encoder.specs.Solutions.{Pair, esis}
use Rattle.mb_way.specs.Way.{Way, Way.NoCode, IsWay}
use Rattle.mb_way.specs.Determined.{is_determined}
use Rattle.mb_way.specs.Heard.{with_pair, heard_as, hear, keep_if, AreRising}
use Rattle.mb_way.specs.declared.heard.Heard.TheVariants.{Kept, Determined}
use Rattle.mb_way.proofs.Rising.{AreBelow, has}
use Rattle.mb_way.proofs.SizeLemmas.{sizes-within}
use Rattle.mb_block.specs.Block.{IsPairOf, IsBlock}
use Rattle.mb_block.specs.Blocks.{Blocks, no_pairs, nothing_of_file, way_at, kept_at, AreEachBlocks, joined_symbols, pair_from, seen_from, all_seen, blocks_in, AreBuffers}
use Rattle.mb_block.proofs.SeenLemmas.{pairs-range, passed, passed-rising, passed-below, passed-has, passed-none, passed-length, passed-all, esis-pairs, same-cond, map-cond, more-seen, put, put-here, pair-other, apart, no_bit, place-reach, IsPut}

-- ---- one block, from its first symbol on

esis-from : (a k t : ℕ) (bytes words : List ℕ) → esis (seen_from a k t bytes words) ≡ filter (λ e. bit_in words (a + e)) (range_with_len 0 k)
unfolding seen_from
esis-from a k t bytes words = esis-pairs (pair_from a t bytes) (λ e. refl) (filter (λ e. bit_in words (a + e)) (range_with_len 0 k))

-- whether a symbol was heard is what its bit says
pub determined-from : (a k t : ℕ) (bytes words : List ℕ) (esi : ℕ) → esi < k
    → is_determined (NoCode k) (esis (seen_from a k t bytes words)) esi ≡ bit_in words (a + esi)
unfolding passed is_determined
determined-from a k t bytes words esi within =
    ap (has esi) (esis-from a k t bytes words) ∙ passed-has (λ e. bit_in words (a + e)) k 0 esi esi within (omega arith)

length-from : (a k t : ℕ) (bytes words : List ℕ) → length (seen_from a k t bytes words) ≤ k
unfolding seen_from passed
length-from a k t bytes words =
    let few = passed-length (λ e. bit_in words (a + e)) k 0 in
    let same = length-map (filter (λ e. bit_in words (a + e)) (range_with_len 0 k)) (pair_from a t bytes) in
    omega (arith, few, same)

reach-from : (place n t len : ℕ) → place < n → n * t ≤ len → place * t + t ≤ len
reach-from place n t len before le =
    let more : suc place * t ≤ n * t = mul-le-mul_right t before in
    omega (arith, more, le)

pairs-from : (a k t : ℕ) (bytes es : List ℕ) → (a + k) * t ≤ length bytes → AreBelow k es → AllByRecursion (IsPairOf (NoCode k) t) (map (pair_from a t bytes) es)
pairs-from a k t bytes [] len below = tt
pairs-from a k t bytes (e ∷ es) len below =
    let under : a + e < a + k = omega (arith, below.0) in
    let reach = reach-from (a + e) (a + k) t (length bytes) under len in
    let left = length-drop ((a + e) * t) bytes in
    let whole : length (take t (drop ((a + e) * t) bytes)) ≡ t = omega (arith, length-take t (drop ((a + e) * t) bytes), left, reach) in
    ((lt-ltb e k below.0, whole), pairs-from a k t bytes es len below.1)

block-from : (a k t : ℕ) (bytes words : List ℕ) → IsWay (NoCode k) → 0 < t → (a + k) * t ≤ length bytes
    → IsBlock (record { way = NoCode k; symbol = t; kept = seen_from a k t bytes words })
unfolding seen_from passed
block-from a k t bytes words way some len =
    let pairs = pairs-from a k t bytes (passed (λ e. bit_in words (a + e)) k 0) len (passed-below (λ e. bit_in words (a + e)) k 0 k (omega arith)) in record {
      way = way;
      some = some;
      kept = record {
        few = length-from a k t bytes words;
        range = pairs-range k t (seen_from a k t bytes words) pairs;
        new = subst (AreRising 0) (sym (esis-from a k t bytes words)) (passed-rising (λ e. bit_in words (a + e)) k 0);
      };
      pairs = pairs;
    }

-- ---- one symbol more

-- the bytes of another symbol stay, and those of its own are the new ones
other-piece : (n t e : ℕ) (bytes words new_bytes new_words piece : List ℕ) (place : ℕ) → length bytes ≡ n * t
    → IsPut n t bytes words new_bytes new_words piece place → e ≢ place → take t (drop (e * t) new_bytes) ≡ take t (drop (e * t) bytes)
unfolding put
other-piece n t e bytes words new_bytes new_words piece place len p other =
    let reach : place * t + t ≤ length bytes = place-reach place n t (length bytes) p.within len in
    rw p.bytes_are (ap (λ (pair : Pair). pair.symbol) (pair-other t place e piece bytes p.piece_is reach (apart e place other)))

own-piece : (n t : ℕ) (bytes words new_bytes new_words piece : List ℕ) (place : ℕ) → length bytes ≡ n * t
    → IsPut n t bytes words new_bytes new_words piece place → take t (drop (place * t) new_bytes) ≡ piece
unfolding put
own-piece n t bytes words new_bytes new_words piece place len p =
    let reach : place * t + t ≤ length bytes = place-reach place n t (length bytes) p.within len in
    ap (λ xs. take t (drop (place * t) xs)) p.bytes_are ∙ put-here (place * t) t piece bytes p.piece_is reach

-- the block that the symbol is of
own-block : (n a k t esi : ℕ) (bytes words new_bytes new_words piece : List ℕ) → length bytes ≡ n * t
    → IsPut n t bytes words new_bytes new_words piece (a + esi) → esi < k
    → seen_from a k t new_bytes new_words ≡ with_pair (record { esi = esi; symbol = piece }) (seen_from a k t bytes words)
unfolding seen_from passed
own-block n a k t esi bytes words new_bytes new_words piece len p within =
    more-seen (record { esi = esi; symbol = piece }) (λ e. bit_in words (a + e)) (λ e. bit_in new_words (a + e)) (pair_from a t bytes) (pair_from a t new_bytes)
    (record {
      f_esi = λ e. refl;
      others = λ e other. p.flips.others (a + e) (λ is. other (omega (arith, is)));
      same = λ e other. ap (λ xs. let pair : Pair = record { esi = e; symbol = xs } in pair)
          (other-piece n t (a + e) bytes words new_bytes new_words piece (a + esi) len p (λ is. other (omega (arith, is))));
      old = p.clear;
      new = p.flips.turned ∙ ap not p.clear;
      new_pair = ap (λ xs. let pair : Pair = record { esi = esi; symbol = xs } in pair)
          (own-piece n t bytes words new_bytes new_words piece (a + esi) len p);
    }) k 0 esi within (omega arith)

same-seen : (p q : ℕ → Bool) (f g : ℕ → Pair) (n a : ℕ) → ((e : ℕ) → a ≤ e → e < a + n → (q e ≡ p e) × (g e ≡ f e))
    → map g (passed q n a) ≡ map f (passed p n a)
unfolding passed
same-seen p q f g zero a same = refl
same-seen p q f g (suc n) a same =
    let here = same a (omega arith) (omega arith) in
    map-cond g (q a) a (passed q n (a + 1))
    ∙ ap (λ b. cond b (g a ∷ map g (passed q n (a + 1))) (map g (passed q n (a + 1)))) here.0
    ∙ same-cond (p a) (f a) (g a) (map f (passed p n (a + 1))) (map g (passed q n (a + 1))) here.1
    (same-seen p q f g n (a + 1) (λ e least most. same e (omega (arith, least)) (omega (arith, most))))
    ∙ sym (map-cond f (p a) a (passed p n (a + 1)))

-- a block that it is not of
other-block : (n a k t place : ℕ) (bytes words new_bytes new_words piece : List ℕ) → length bytes ≡ n * t
    → IsPut n t bytes words new_bytes new_words piece place → ((e : ℕ) → e < k → a + e ≢ place)
    → seen_from a k t new_bytes new_words ≡ seen_from a k t bytes words
unfolding seen_from passed
other-block n a k t place bytes words new_bytes new_words piece len p outside =
    same-seen (λ e. bit_in words (a + e)) (λ e. bit_in new_words (a + e)) (pair_from a t bytes) (pair_from a t new_bytes) k 0
    (λ e least most. let other = outside e (omega (arith, most)) in (
      p.flips.others (a + e) other,
      ap (λ xs. let pair : Pair = record { esi = e; symbol = xs } in pair) (other-piece n t (a + e) bytes words new_bytes new_words piece place len p other),
    ))

-- ---- all blocks

pub length-all : (sizes : List ℕ) (a t : ℕ) (bytes words : List ℕ) → length (all_seen a sizes t bytes words) ≡ length sizes
unfolding all_seen
length-all [] a t bytes words = refl
length-all (k ∷ sizes) a t bytes words = ap suc (length-all sizes (a + k) t bytes words)

pub all-at : (sizes : List ℕ) (a t i : ℕ) (bytes words : List ℕ) → i < length sizes
    → get_or (all_seen a sizes t bytes words) i [] ≡ seen_from (a + sum (take i sizes)) (get_or sizes i 0) t bytes words
unfolding all_seen
all-at [] a t i bytes words within = absurd (omega (arith, within))
all-at (k ∷ sizes) a t zero bytes words within =
    ap (λ (n : ℕ). seen_from n k t bytes words) (omega arith)
all-at (k ∷ sizes) a t (suc i) bytes words within =
    let same : (a + k) + sum (take i sizes) ≡ a + sum (take (suc i) (k ∷ sizes)) = omega (arith, sum-cons k (take i sizes)) in
    all-at sizes (a + k) t i bytes words (omega (arith, within))
    ∙ ap (λ (n : ℕ). seen_from n (get_or sizes i 0) t bytes words) same

-- behind its place nothing changes
all-behind : (sizes : List ℕ) (n a t place : ℕ) (bytes words new_bytes new_words piece : List ℕ) → length bytes ≡ n * t
    → IsPut n t bytes words new_bytes new_words piece place → place < a
    → all_seen a sizes t new_bytes new_words ≡ all_seen a sizes t bytes words
unfolding all_seen
all-behind [] n a t place bytes words new_bytes new_words piece len p before = refl
all-behind (k ∷ sizes) n a t place bytes words new_bytes new_words piece len p before =
    ap₂ (λ (x : List Pair) (xs : List (List Pair)). x ∷ xs)
    (other-block n a k t place bytes words new_bytes new_words piece len p (λ e within is. omega (arith, is, before)))
    (all-behind sizes n (a + k) t place bytes words new_bytes new_words piece len p (omega (arith, before)))

-- one symbol more, of block i
pub all-put : (sizes : List ℕ) (n a t i esi place : ℕ) (bytes words new_bytes new_words piece : List ℕ) → length bytes ≡ n * t
    → IsPut n t bytes words new_bytes new_words piece place → i < length sizes → esi < get_or sizes i 0 → place ≡ a + sum (take i sizes) + esi
    → all_seen a sizes t new_bytes new_words
    ≡ set (all_seen a sizes t bytes words) i (with_pair (record { esi = esi; symbol = piece }) (get_or (all_seen a sizes t bytes words) i []))
unfolding all_seen
all-put [] n a t i esi place bytes words new_bytes new_words piece len p within under is = absurd (omega (arith, within))
all-put (k ∷ sizes) n a t zero esi place bytes words new_bytes new_words piece len p within under is =
    let here : place ≡ a + esi = omega (arith, is) in
    let own = own-block n a k t esi bytes words new_bytes new_words piece len (subst (λ (m : ℕ). IsPut n t bytes words new_bytes new_words piece m) here p) under in
    ap₂ (λ (x : List Pair) (xs : List (List Pair)). x ∷ xs) own
    (all-behind sizes n (a + k) t place bytes words new_bytes new_words piece len p (omega (arith, here, under)))
all-put (k ∷ sizes) n a t (suc i) esi place bytes words new_bytes new_words piece len p within under is =
    let there : place ≡ (a + k) + sum (take i sizes) + esi = omega (arith, is, sum-cons k (take i sizes)) in
    ap₂ (λ (x : List Pair) (xs : List (List Pair)). x ∷ xs)
    (other-block n a k t place bytes words new_bytes new_words piece len p (λ e below same. omega (arith, same, below, there)))
    (all-put sizes n (a + k) t i esi place bytes words new_bytes new_words piece len p (omega (arith, within)) under there)

-- ---- none, and what holds of each

none-from : (a k t m : ℕ) (bytes : List ℕ) → seen_from a k t bytes (replicate m 0) ≡ []
unfolding seen_from passed
none-from a k t m bytes = ap (map (pair_from a t bytes)) (passed-none (λ e. bit_in (replicate m 0) (a + e)) k 0 (λ e. no_bit m (a + e)))

pub all-none : (sizes : List ℕ) (a t m : ℕ) (bytes : List ℕ) → all_seen a sizes t bytes (replicate m 0) ≡ no_pairs sizes
unfolding all_seen
all-none [] a t m bytes = refl
all-none (k ∷ sizes) a t m bytes = ap₂ (λ (x : List Pair) (xs : List (List Pair)). x ∷ xs) (none-from a k t m bytes) (all-none sizes (a + k) t m bytes)

pub all-blocks : (sizes : List ℕ) (a t : ℕ) (bytes words : List ℕ) → 0 < t → AllByRecursion (λ k. IsWay (NoCode k)) sizes → (a + sum sizes) * t ≤ length bytes
    → AreEachBlocks t sizes (all_seen a sizes t bytes words)
unfolding all_seen AreEachBlocks
all-blocks [] a t bytes words some ways len = tt
all-blocks (k ∷ sizes) a t bytes words some ways len =
    let all : a + k + sum sizes ≡ a + sum (k ∷ sizes) = omega (arith, sum-cons k sizes) in
    let first : a + k ≤ a + sum (k ∷ sizes) = omega (arith, all) in
    let below : (a + k) * t ≤ (a + sum (k ∷ sizes)) * t = mul-le-mul_right t first in
    let rest : (a + k + sum sizes) * t ≤ length bytes = subst (λ (m : ℕ). m * t ≤ length bytes) (sym all) len in
    (block-from a k t bytes words ways.0 some (omega (arith, below, len)), all-blocks sizes (a + k) t bytes words some ways.1 rest)

-- ---- all symbols

joined-range_from : (n a b t : ℕ) (bytes : List ℕ)
    → concat (map (λ (pair : Pair). pair.symbol) (map (pair_from a t bytes) (range_with_len b n))) ≡ take (n * t) (drop ((a + b) * t) bytes)
joined-range_from zero a b t bytes =
    let none : 0 * t ≡ 0 = omega arith in
    sym (ap (λ (m : ℕ). take m (drop ((a + b) * t) bytes)) none)
joined-range_from (suc n) a b t bytes =
    let sum_is : a + (b + 1) ≡ a + b + 1 = omega arith in
    let one_more : (a + b + 1) * t ≡ (a + b) * t + t = omega arith in
    let next : (a + (b + 1)) * t ≡ (a + b) * t + t = ap (λ (m : ℕ). m * t) sum_is ∙ one_more in
    let more : t + n * t ≡ suc n * t = omega arith in
    ap (λ xs. take t (drop ((a + b) * t) bytes) ++ xs)
    (joined-range_from n a (b + 1) t bytes ∙ ap (λ (m : ℕ). take (n * t) (drop m bytes)) next ∙ ap (take (n * t)) (sym (drop-drop t ((a + b) * t) bytes)))
    ∙ sym (take-add t (n * t) (drop ((a + b) * t) bytes))
    ∙ ap (λ (m : ℕ). take m (drop ((a + b) * t) bytes)) more

joined-from : (a k t : ℕ) (bytes words : List ℕ) → length (seen_from a k t bytes words) ≡ k
    → concat (map (λ (pair : Pair). pair.symbol) (seen_from a k t bytes words)) ≡ take (k * t) (drop (a * t) bytes)
unfolding seen_from passed
joined-from a k t bytes words all =
    let same = length-map (filter (λ e. bit_in words (a + e)) (range_with_len 0 k)) (pair_from a t bytes) in
    let from : (a + 0) * t ≡ a * t = ap (λ (m : ℕ). m * t) (omega arith) in
    ap (λ es. concat (map (λ (pair : Pair). pair.symbol) (map (pair_from a t bytes) es))) (passed-all (λ e. bit_in words (a + e)) k 0 (omega (arith, same, all)))
    ∙ joined-range_from k a 0 t bytes ∙ ap (λ (m : ℕ). take (k * t) (drop m bytes)) from

-- where all symbols were heard, they are the bytes
pub joined-all : (sizes : List ℕ) (a t : ℕ) (bytes words : List ℕ) → length bytes ≡ (a + sum sizes) * t
    → map (λ (pairs : List Pair). length pairs) (all_seen a sizes t bytes words) ≡ sizes
    → joined_symbols (all_seen a sizes t bytes words) ≡ drop (a * t) bytes
unfolding all_seen
joined-all [] a t bytes words len all =
    let end : length bytes ≡ a * t = len ∙ ap (λ (m : ℕ). m * t) (omega arith) in
    sym (drop_of_length-le bytes (omega (arith, end)))
joined-all (k ∷ sizes) a t bytes words len all =
    let first : length (seen_from a k t bytes words) ≡ k = ap (λ (ns : List ℕ). get_or ns 0 0) all in
    let others : map (λ (pairs : List Pair). length pairs) (all_seen (a + k) sizes t bytes words) ≡ sizes = ap (drop 1) all in
    let count : length bytes ≡ (a + k + sum sizes) * t = len ∙ ap (λ (m : ℕ). m * t) (omega (arith, sum-cons k sizes)) in
    let next : (a + k) * t ≡ a * t + k * t = omega arith in
    ap₂ (λ (x y : List ℕ). x ++ y) (joined-from a k t bytes words first)
    (joined-all sizes (a + k) t bytes words count others ∙ ap (λ (m : ℕ). drop m bytes) next ∙ sym (drop-drop (k * t) (a * t) bytes))
    ∙ take-append-drop (k * t) (drop (a * t) bytes)

-- ---- what calls do to all blocks

pub whole-of : (sizes : List ℕ) (t : ℕ) (bytes words : List ℕ) → AreBuffers sizes t bytes words → AreEachBlocks t sizes (all_seen 0 sizes t bytes words)
whole-of sizes t bytes words b =
    let from : 0 + sum sizes ≡ sum sizes = omega arith in
    let all : (0 + sum sizes) * t ≤ length bytes = subst (λ (m : ℕ). m * t ≤ length bytes) (sym from) (omega (arith, b.bytes_are)) in
    all-blocks sizes 0 t bytes words b.symbol b.each all

-- where a symbol of a block stands: behind those of the blocks before
pub record HasPlace (sizes : List ℕ) (sbn at k esi : ℕ) : Type 0 where
  pub within : sbn < length sizes
  pub at_is : at ≡ sum (take sbn sizes)
  pub k_is : k ≡ get_or sizes sbn 0
  pub below : esi < k

pub has-place : (sizes : List ℕ) (t : ℕ) (bytes words : List ℕ) (b : Blocks) (sbn wide at k esi : ℕ) → blocks_in sizes t bytes words ≡ b → sbn < length b.sizes
    → wide ≡ sbn → at ≡ sum (take wide sizes) → k ≡ get_or sizes wide 0 → esi < k → HasPlace sizes sbn at k esi
has-place sizes t bytes words b sbn wide at k esi view within same at_is k_is below = record {
  within = omega (arith, within, ap (λ (x : Blocks). length x.sizes) view);
  at_is = at_is ∙ ap (λ (n : ℕ). sum (take n sizes)) same;
  k_is = k_is ∙ ap (λ (n : ℕ). get_or sizes n 0) same;
  below = below;
}

pub place-within : (sizes : List ℕ) (sbn at k esi : ℕ) → HasPlace sizes sbn at k esi → at + esi < sum sizes
place-within sizes sbn at k esi p =
    omega (arith, sum-within sizes sbn at k (sum sizes) p.within p.at_is p.k_is refl, p.below)

-- the place is one of the words' bits
pub bit-within : (n place words : ℕ) → place < n → words ≡ ceiling n 64 → place < 64 * words
bit-within n place words before is = omega (arith, le-ceiling-times n 64 (omega arith), before, is)

pub place-room : (n place t len : ℕ) → place < n → len ≡ n * t → place * t + t ≤ len
place-room n place t len before is = reach-from place n t len before (omega (arith, is))

kept-of : (sizes : List ℕ) (t : ℕ) (bytes words : List ℕ) (sbn at k : ℕ) (b : Blocks) → blocks_in sizes t bytes words ≡ b → sbn < length sizes
    → at ≡ sum (take sbn sizes) → k ≡ get_or sizes sbn 0 → kept_at b sbn ≡ seen_from at k t bytes words
kept-of sizes t bytes words sbn at k b view within at_is k_is =
    let from : 0 + sum (take sbn sizes) ≡ at = omega (arith, at_is) in
    ap (λ (x : Blocks). get_or x.kept sbn []) (sym view) ∙ all-at sizes 0 t sbn bytes words within
    ∙ ap₂ (λ (m n : ℕ). seen_from m n t bytes words) from (sym k_is)

way-of : (sizes : List ℕ) (t : ℕ) (bytes words : List ℕ) (sbn k : ℕ) (b : Blocks) → blocks_in sizes t bytes words ≡ b → k ≡ get_or sizes sbn 0 → way_at b sbn ≡ NoCode k
way-of sizes t bytes words sbn k b view k_is = ap (λ (x : Blocks). NoCode (get_or x.sizes sbn 0)) (sym view) ∙ ap NoCode (sym k_is)

heard-from : (a k t : ℕ) (bytes words : List ℕ) (esi : ℕ) (bit : Bool) → esi < k → bit_in words (a + esi) ≡ bit
    → heard_as (NoCode k) (seen_from a k t bytes words) esi ≡ cond bit Determined Kept
heard-from a k t bytes words esi bit within is = rw (lt-ltb esi k within, determined-from a k t bytes words esi within, is) refl

-- what becomes of a symbol that the block has is what its bit says
pub heard-of : (sizes : List ℕ) (t : ℕ) (bytes words : List ℕ) (sbn at k esi : ℕ) (bit : Bool) (b : Blocks) → blocks_in sizes t bytes words ≡ b
    → HasPlace sizes sbn at k esi → bit_in words (at + esi) ≡ bit → heard_as (way_at b sbn) (kept_at b sbn) esi ≡ cond bit Determined Kept
heard-of sizes t bytes words sbn at k esi bit b view p is =
    ap₂ (λ (w : Way) (kept : List Pair). heard_as w kept esi) (way-of sizes t bytes words sbn k b view p.k_is) (kept-of sizes t bytes words sbn at k b view p.within p.at_is p.k_is)
    ∙ heard-from at k t bytes words esi bit p.below is

-- a repeat changes nothing
pub same-blocks : (b : Blocks) (sbn : ℕ) (pair : Pair) → heard_as (way_at b sbn) (kept_at b sbn) pair.esi ≡ Determined
    → b ≡ record b { kept = set b.kept sbn (hear (way_at b sbn) (kept_at b sbn) pair) }
same-blocks b sbn pair is =
    sym (ap (λ (kept : List (List Pair)). let r : Blocks = record b { kept = kept } in r)
    (ap (λ h. set b.kept sbn (keep_if h (way_at b sbn) (kept_at b sbn) pair)) is ∙ set-get_or b.kept sbn []))

-- and another symbol is kept
pub more-blocks : (sizes : List ℕ) (t : ℕ) (bytes words new_bytes new_words piece : List ℕ) (sbn at k esi place : ℕ) (b : Blocks) → blocks_in sizes t bytes words ≡ b
    → AreBuffers sizes t bytes words → IsPut (sum sizes) t bytes words new_bytes new_words piece place → HasPlace sizes sbn at k esi → place ≡ at + esi
    → blocks_in sizes t new_bytes new_words ≡ record b { kept = set b.kept sbn (hear (way_at b sbn) (kept_at b sbn) (record { esi = esi; symbol = piece })) }
more-blocks sizes t bytes words new_bytes new_words piece sbn at k esi place b view buffers put p place_is =
    let pair : Pair = record { esi = esi; symbol = piece } in
    let clear : bit_in words (at + esi) ≡ false = ap (bit_in words) (sym place_is) ∙ put.clear in
    let is : heard_as (way_at b sbn) (kept_at b sbn) esi ≡ Kept = heard-of sizes t bytes words sbn at k esi false b view p clear in
    let there : place ≡ 0 + sum (take sbn sizes) + esi = omega (arith, place_is, p.at_is) in
    let under : esi < get_or sizes sbn 0 = omega (arith, p.below, p.k_is) in
    let all = all-put sizes (sum sizes) 0 t sbn esi place bytes words new_bytes new_words piece buffers.bytes_are put p.within under there in
    ap (λ (kept : List (List Pair)). let r : Blocks = record { sizes = sizes; symbol = t; kept = kept } in r) all
    ∙ ap (λ (x : Blocks). let r : Blocks = record x { kept = set x.kept sbn (with_pair pair (kept_at x sbn)) } in r) view
    ∙ sym (ap (λ h. let r : Blocks = record b { kept = set b.kept sbn (keep_if h (way_at b sbn) (kept_at b sbn) pair) } in r) is)

-- before anything was heard
pub start-blocks : (d : Description) (sizes : List ℕ) (t : ℕ) (bytes words : List ℕ) (m : ℕ) → sizes ≡ block_sizes d → t ≡ d.symbol → words ≡ replicate m 0
    → blocks_in sizes t bytes words ≡ nothing_of_file d
start-blocks d sizes t bytes words m sizes_are symbol none =
    rw (none, all-none sizes 0 t m bytes)
    (ap₂ (λ (ks : List ℕ) (n : ℕ). let r : Blocks = record { sizes = ks; symbol = n; kept = no_pairs ks } in r) sizes_are symbol)

pub start-buffers : (d : Description) (sizes : List ℕ) (t n m room : ℕ) (bytes words : List ℕ) → IsGood d → sizes ≡ block_sizes d → t ≡ d.symbol
    → bytes ≡ replicate n 0 → n ≡ plain d → words ≡ replicate m 0 → m ≡ ceiling room 64 → room ≡ symbols d → symbols d ≤ 2 ^ 28 → AreBuffers sizes t bytes words
start-buffers d sizes t n m room bytes words good sizes_are symbol bytes_are count words_are places room_is few =
    let all : sum sizes ≡ symbols d = ap sum sizes_are ∙ sum-block_sizes d good in
    record {
      symbol = omega (arith, symbol, good.symbol);
      few = omega (arith, all, few);
      each = subst (AllByRecursion (λ k. IsWay (NoCode k))) (sym sizes_are) (sizes-within d good);
      bytes_are = ap length bytes_are ∙ length-replicate {A = ℕ} n 0 ∙ count ∙ ap₂ (λ (a b : ℕ). a * b) (sym all) (sym symbol);
      words_are = ap length words_are ∙ length-replicate {A = ℕ} m 0 ∙ places ∙ ap (λ (a : ℕ). ceiling a 64) (room_is ∙ sym all);
    }

pub all-bytes : (sizes : List ℕ) (t : ℕ) (bytes words : List ℕ) (b : Blocks) → blocks_in sizes t bytes words ≡ b → AreBuffers sizes t bytes words
    → map (λ (pairs : List Pair). length pairs) b.kept ≡ b.sizes → bytes ≡ joined_symbols b.kept
all-bytes sizes t bytes words b view buffers all =
    let whole : map (λ (pairs : List Pair). length pairs) (all_seen 0 sizes t bytes words) ≡ sizes =
    ap (λ (x : Blocks). map (λ (pairs : List Pair). length pairs) x.kept) view ∙ all ∙ ap (λ (x : Blocks). x.sizes) (sym view) in
    let len : length bytes ≡ (0 + sum sizes) * t = buffers.bytes_are ∙ ap (λ (m : ℕ). m * t) (omega arith) in
    let first : 0 * t ≡ 0 = omega arith in
    sym (ap (λ (x : Blocks). joined_symbols x.kept) (sym view) ∙ joined-all sizes 0 t bytes words len whole ∙ ap (λ (m : ℕ). drop m bytes) first)
