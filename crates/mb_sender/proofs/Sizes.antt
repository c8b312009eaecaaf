-- The sizes of blocks, and how many repair symbols they have.
use Rattle.std.proofs.Common.{◌≡◌, ◌≢◌, ℕ, zero, suc, ◌+◌, ◌-◌, ◌*◌, ◌<◌, ◌≤◌, ◌/◌, ◌%◌, min, true, false, refl, sym, subst, ap, ◌∙◌, arith}
use Rattle.std.specs.List.{range_with_len}
use Rattle.mb_geom.specs.Partition.{ceiling}
use Rattle.mb_geom.specs.Description.{Description, IsGood, block_count, block_size, is_block_size, is_no_code}
use Rattle.mb_geom.specs.declared.desc.Scheme.{Scheme}
use Rattle.mb_geom.specs.declared.desc.Scheme.TheVariants.{NoCode, Raptor}
use Rattle.mb_geom.proofs.PartitionLemmas.{ceiling-from}
use Rattle.mb_way.proofs.SizeLemmas.{size-within, size-allowed, raptor-limits}
use Rattle.mb_sender.specs.Trace.{repair_esis, repairs, first_repair}

-- the number of a block, and that of a symbol, fit 16 bits
pub block-small : (d : Description) (n : ℕ) → IsGood d → n < block_count d → n < 65536
block-small d n good below = omega (arith, good.blocks, below)

pub symbol-small : (d : Description) (sbn i : ℕ) → IsGood d → sbn < block_count d → i < block_size d sbn → i < 65536
symbol-small d sbn i good within below = omega (arith, below, (size-within d.scheme (block_size d sbn) (size-allowed d sbn good within)).1)

small : (s : Scheme) (k : ℕ) → is_no_code s ≡ false → is_block_size s k ≡ true → k ≤ 8192
small (NoCode b) k coded allowed = absurd (cc coded)
small (Raptor z n al) k coded allowed = (raptor-limits z n al k allowed).1

-- a block under Raptor has at most 8,192 symbols
pub raptor-small : (d : Description) (sbn : ℕ) → IsGood d → sbn < block_count d → is_no_code d.scheme ≡ false → block_size d sbn ≤ 8192
raptor-small d sbn good within coded = small d.scheme (block_size d sbn) coded (size-allowed d sbn good within)

-- a number below a count of parts
pub below : (i m q : ℕ) → i < q → q ≡ m / 1400 + min 1 (m % 1400) → i < ceiling m 1400
below i m q less is = subst (λ n. i < n) (sym (ceiling-from m 1400 1400 q (omega arith) refl is)) less

-- ---- repair symbols

pub esis-are : (percent round k : ℕ) (s : Scheme) → is_no_code s ≡ false
    → repair_esis percent round s k ≡ range_with_len (first_repair percent round k) (min (repairs percent k) (65536 - first_repair percent round k))
esis-are percent round k (NoCode b) coded = absurd (cc coded)
esis-are percent round k (Raptor z n al) coded = refl

-- with the numbers of a call
pub esis-counted : (percent round k first count : ℕ) (s : Scheme) → is_no_code s ≡ false → first ≡ first_repair percent round k
    → count ≡ min (repairs percent k) (65536 - first_repair percent round k) → repair_esis percent round s k ≡ range_with_len first count
esis-counted percent round k first count s coded first_is count_is =
    esis-are percent round k s coded ∙ rw (first_is, count_is) refl

none-of : (k : ℕ) → ceiling (k * 0) 100 ≡ 0
none-of k = let none : k * 0 ≡ 0 = omega arith in ap (λ n. ceiling n 100) none

-- where there are repair symbols, the percentage is above 0
pub percent-positive : (percent k count room : ℕ) → count ≡ min (repairs percent k) room → count ≢ 0 → 0 < percent
percent-positive zero k count room count_is some = absurd (some (omega (arith, count_is, none-of k)))
percent-positive (suc percent) k count room count_is some = omega arith

-- what a call says of a size, said of the block's
pub first-at : (percent round n k first : ℕ) → n ≡ k → first ≡ first_repair percent round n → first ≡ first_repair percent round k
first-at percent round n k first same is = is ∙ ap (first_repair percent round) same

pub count-at : (percent round n k count : ℕ) → n ≡ k → count ≡ min (repairs percent n) (65536 - first_repair percent round n)
    → count ≡ min (repairs percent k) (65536 - first_repair percent round k)
count-at percent round n k count same is = is ∙ ap (λ m. min (repairs percent m) (65536 - first_repair percent round m)) same
