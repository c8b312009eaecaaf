-- The blocks of a good description are within their limits.
use Rattle.std.proofs.Common.{◌≡◌, ℕ, zero, suc, ◌+◌, ◌<◌, ◌≤◌, Bool, true, false, not, nat_le, cond, List, [], ◌∷◌, length, get_or, Option, Some, None, refl, sym, ◌∙◌, ap, arith}
use Rattle.std.specs.List.{position_from, AllByRecursion}
use Rattle.std.proofs.lemmas.Grind.{common_steps}
use Rattle.std.proofs.lemmas.Bool.{and_parts, leb-true}
use Rattle.std.proofs.lemmas.Iterator.Adapters.{position_from-zero}
use Rattle.mb_geom.specs.Description.{Description, IsGood, block_sizes, block_size, block_count, is_block_size}
use Rattle.mb_geom.specs.declared.desc.Scheme.{Scheme}
use Rattle.mb_geom.specs.declared.desc.Scheme.TheVariants.{NoCode, Raptor}
use Rattle.mb_way.specs.Way.{Way.NoCode as NoCodeWay, IsWay}

no_first : {X : Type 0} (b : Bool) (x : X) (o : Option X) → cond b (Some x) o ≡ None → (b ≡ false) × (o ≡ None)
no_first true x o none = absurd cc
no_first false x o none = (refl, none)

none_from : (t : ℕ → Bool) (i n : ℕ) (xs : List ℕ) → position_from t i xs ≡ None → n < length xs → t (get_or xs n 0) ≡ false
none_from t i n [] none within = absurd (omega arith)
none_from t i zero (x ∷ xs) none within = (no_first (t x) i (position_from t (i + 1) xs) none).0
none_from t i (suc n) (x ∷ xs) none within = none_from t (i + 1) n xs (no_first (t x) i (position_from t (i + 1) xs) none).1 (omega arith)

not_not : (b : Bool) → not b ≡ false → b ≡ true
not_not true fails = refl
not_not false fails = absurd cc

pub size-allowed : (d : Description) (sbn : ℕ) → IsGood d → sbn < block_count d → is_block_size d.scheme (block_size d sbn) ≡ true
size-allowed d sbn good within =
    let t : ℕ → Bool = λ k. not (is_block_size d.scheme k) in
    not_not _ (none_from t 0 sbn (block_sizes d) (sym (position_from-zero t (block_sizes d)) ∙ good.sizes) within)

within-limits : (b k : ℕ) → is_block_size (NoCode b) k ≡ true → (0 < k) × (k ≤ 65536)
within-limits b k allowed = (grind (arith, common_steps), grind (arith, common_steps))

pub no_code-within : (d : Description) (sbn b k : ℕ) → IsGood d → sbn < block_count d → d.scheme ≡ NoCode b → k ≡ block_size d sbn
    → (0 < k) × (k ≤ 65536)
no_code-within d sbn b k good within scheme is =
    within-limits b k (ap (is_block_size (NoCode b)) is ∙ ap (λ s. is_block_size s (block_size d sbn)) (sym scheme) ∙ size-allowed d sbn good within)

-- ---- the sizes of all blocks

pub size-within : (s : Scheme) (k : ℕ) → is_block_size s k ≡ true → (0 < k) × (k ≤ 65536)
size-within (NoCode b) k is = within-limits b k is
size-within (Raptor z n al) k is =
    let p : (nat_le 4 k ≡ true) × (nat_le k 8192 ≡ true) = and_parts (nat_le 4 k) (nat_le k 8192) is in
    (omega (arith, leb-true 4 k p.0), omega (arith, leb-true k 8192 p.1))

all-within : (s : Scheme) (i : ℕ) (sizes : List ℕ) → position_from (λ k. not (is_block_size s k)) i sizes ≡ None → AllByRecursion (λ k. IsWay (NoCodeWay k)) sizes
all-within s i [] none = tt
all-within s i (k ∷ sizes) none =
    let parts = no_first (not (is_block_size s k)) i (position_from (λ k. not (is_block_size s k)) (i + 1) sizes) none in
    (size-within s k (not_not _ parts.0), all-within s (i + 1) sizes parts.1)

-- each block has as many symbols as a block may have
pub sizes-within : (d : Description) → IsGood d → AllByRecursion (λ k. IsWay (NoCodeWay k)) (block_sizes d)
sizes-within d good =
    let t : ℕ → Bool = λ k. not (is_block_size d.scheme k) in
    all-within d.scheme 0 (block_sizes d) (sym (position_from-zero t (block_sizes d)) ∙ good.sizes)

pub raptor-limits : (z n al k : ℕ) → is_block_size (Raptor z n al) k ≡ true → (4 ≤ k) × (k ≤ 8192)
raptor-limits z n al k is =
    let p : (nat_le 4 k ≡ true) × (nat_le k 8192 ≡ true) = and_parts (nat_le 4 k) (nat_le k 8192) is in
    (leb-true 4 k p.0, leb-true k 8192 p.1)

pub raptor-within : (d : Description) (sbn z n al k : ℕ) → IsGood d → sbn < block_count d → d.scheme ≡ Raptor z n al → k ≡ block_size d sbn
    → (4 ≤ k) × (k ≤ 8192)
raptor-within d sbn z n al k good within scheme is =
    raptor-limits z n al k (ap (is_block_size (Raptor z n al)) is ∙ ap (λ s. is_block_size s (block_size d sbn)) (sym scheme) ∙ size-allowed d sbn good within)
