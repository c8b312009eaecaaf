-- The local part of a name, by the places of its colons.
use Rattle.std.proofs.Common.{◌≡◌, ◌≢◌, ℕ, zero, suc, ◌+◌, ◌<◌, ◌==◌, ◌||◌, true, false, List, [], ◌∷◌, length, get_or, drop, refl, arith}
use Rattle.std.specs.List.{list_any}
use Rattle.mb_xml.specs.Name.{local_part}

any_at : (xs : List ℕ) (k : ℕ) → k < length xs → get_or xs k 0 ≡ 58 → list_any (λ c. c == 58) xs ≡ true
any_at [] k lt is = absurd (omega arith)
any_at (b ∷ xs) zero lt is = let same : b ≡ 58 = is in rw same refl
any_at (b ∷ xs) (suc k) lt is =
    let behind : list_any (λ c. c == 58) xs ≡ true = any_at xs k (omega arith) is in
    elim (b == 58) as (λ t. (t || list_any (λ c. c == 58) xs) ≡ true) [ true ↦ refl | false ↦ behind ]

any_none : (xs : List ℕ) → ((k : ℕ) → k < length xs → get_or xs k 0 ≢ 58) → list_any (λ c. c == 58) xs ≡ false
any_none [] none = refl
any_none (b ∷ xs) none =
    let first : b ≢ 58 = none 0 (omega arith) in
    let differs : (b == 58) ≡ false = grind (arith, first) in
    rw differs (any_none xs (λ k lt. none (suc k) (omega (arith, lt))))

-- what stands in front of a colon and the colon don't count
pub local_part_behind : (xs : List ℕ) (k : ℕ) → k < length xs → get_or xs k 0 ≡ 58 → local_part (drop (k + 1) xs) ≡ local_part xs
unfolding local_part
local_part_behind [] k lt is = absurd (omega arith)
local_part_behind (b ∷ xs) zero lt is = rw (any_at (b ∷ xs) 0 lt is) refl
local_part_behind (b ∷ xs) (suc k) lt is =
    let same : suc k + 1 ≡ suc (k + 1) = omega arith in
    rw (any_at (b ∷ xs) (suc k) lt is, same) (local_part_behind xs k (omega arith) is)

pub local_part_whole : (xs : List ℕ) → ((k : ℕ) → k < length xs → get_or xs k 0 ≢ 58) → local_part xs ≡ xs
unfolding local_part
local_part_whole [] none = refl
local_part_whole (b ∷ xs) none = rw (any_none (b ∷ xs) none) refl
