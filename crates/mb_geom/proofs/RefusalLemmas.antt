-- What parts are described as, by the first of their refusals that holds.
use Rattle.std.proofs.Common.{◌≡◌, ℕ, zero, suc, ◌<◌, ◌≤◌, Bool, true, false, nat_lt, List, [], ◌∷◌, take, drop, Some, None, Ok, Err, refl, ◌∙◌, ap, arith}
use Rattle.std.proofs.lemmas.Grind.{common_steps}
use Rattle.mb_geom.specs.Description.{refusals, first_fault, ok_unless, described, description_of, block_count, block_size, bad_block}
use Rattle.mb_geom.specs.declared.desc.DescParts.{DescParts}
use Rattle.mb_geom.specs.declared.desc.DescFault.{DescFault}
use Rattle.mb_geom.specs.declared.desc.DescFault.TheVariants.{TooManyBlocks, BlockSize}

-- where none of the first refusals holds, the others decide
first_fault-drop : (n : ℕ) (xs : List (Bool × DescFault)) → first_fault (take n xs) ≡ None → first_fault xs ≡ first_fault (drop n xs)
first_fault-drop zero xs none = refl
first_fault-drop (suc n) [] none = refl
first_fault-drop (suc n) ((true, fault) ∷ xs) none = cc
first_fault-drop (suc n) ((false, fault) ∷ xs) none = first_fault-drop n xs none

first_fault-take : (n : ℕ) (xs : List (Bool × DescFault)) (fault : DescFault) → first_fault (take n xs) ≡ Some fault → first_fault xs ≡ Some fault
first_fault-take zero xs fault found = cc
first_fault-take (suc n) [] fault found = found
first_fault-take (suc n) ((true, first) ∷ xs) fault found = found
first_fault-take (suc n) ((false, first) ∷ xs) fault found = first_fault-take n xs fault found

-- none of the refusals before those of the blocks holds
pub record IsCoded (p : DescParts) : Type 0 where
  pub length : first_fault (take 4 (refusals p)) ≡ None
  pub coding : first_fault (take 3 (drop 4 (refusals p))) ≡ None

pub described-length : (p : DescParts) (fault : DescFault) → first_fault (take 4 (refusals p)) ≡ Some fault → described p ≡ Err fault
described-length p fault found = ap (λ f. ok_unless f (description_of p)) (first_fault-take 4 (refusals p) fault found)

pub described-coding : (p : DescParts) (fault : DescFault) → first_fault (take 4 (refusals p)) ≡ None →
    first_fault (take 3 (drop 4 (refusals p))) ≡ Some fault → described p ≡ Err fault
described-coding p fault none found =
    ap (λ f. ok_unless f (description_of p)) (first_fault-drop 4 (refusals p) none ∙ first_fault-take 3 (drop 4 (refusals p)) fault found)

blocks_decide : (p : DescParts) → IsCoded p → first_fault (refusals p) ≡ first_fault (drop 7 (refusals p))
blocks_decide p coded = first_fault-drop 4 (refusals p) coded.length ∙ first_fault-drop 3 (drop 4 (refusals p)) coded.coding

nat_lt-true : (a b : ℕ) → a < b → nat_lt a b ≡ true
nat_lt-true a b lt = grind (arith, common_steps)

nat_lt-false : (a b : ℕ) → b ≤ a → nat_lt a b ≡ false
nat_lt-false a b le = grind (arith, common_steps)

pub described-too_many : (p : DescParts) → IsCoded p → 65536 < block_count (description_of p) → described p ≡ Err TooManyBlocks
described-too_many p coded many =
    let holds : nat_lt 65536 (block_count (description_of p)) ≡ true = nat_lt-true _ _ many in
    let found : first_fault (drop 7 (refusals p)) ≡ Some TooManyBlocks = rw holds refl in
    ap (λ f. ok_unless f (description_of p)) (blocks_decide p coded ∙ found)

pub described-bad_block : (p : DescParts) (number : ℕ) → IsCoded p → block_count (description_of p) ≤ 65536 →
    bad_block (description_of p) ≡ Some number → described p ≡ Err (BlockSize number (block_size (description_of p) number))
described-bad_block p number coded few bad =
    let fails : nat_lt 65536 (block_count (description_of p)) ≡ false = nat_lt-false _ _ few in
    let found : first_fault (drop 7 (refusals p)) ≡ Some (BlockSize number (block_size (description_of p) number)) = rw (fails, bad) refl in
    ap (λ f. ok_unless f (description_of p)) (blocks_decide p coded ∙ found)

pub described-good : (p : DescParts) → IsCoded p → block_count (description_of p) ≤ 65536 →
    bad_block (description_of p) ≡ None → described p ≡ Ok (description_of p)
described-good p coded few good =
    let fails : nat_lt 65536 (block_count (description_of p)) ≡ false = nat_lt-false _ _ few in
    let found : first_fault (drop 7 (refusals p)) ≡ None = rw (fails, good) refl in
    ap (λ f. ok_unless f (description_of p)) (blocks_decide p coded ∙ found)
