-- The limits of a row of the tables, and what follows from its numbers (RFC 5053 sections 5.4.2.3 and 5.7).
use Rattle.std.specs.Prelude.{◌≡◌, ◌⊎◌, ℕ, zero, suc, ◌+◌, ◌-◌, ◌*◌, ◌/◌, ◌%◌, ◌^◌, ◌<◌, ◌≤◌}
use Rattle.mb_tables.specs.declared.row.Row.{Row}

-- in how many ways so many of the n are chosen
unfoldable pub choose : ℕ → ℕ → ℕ
choose n zero = 1
choose zero (suc some) = 0
choose (suc n) (suc some) = choose n some + choose n (suc some)

-- half of a number, upwards
abbrev pub half : ℕ → ℕ
half n = (n + 1) / 2

-- K hundredths, upwards
abbrev pub hundredth : ℕ → ℕ
hundredth k = (k + 99) / 100

-- X: the least positive number of which X(X-1) is at least 2K
pub record IsX (k x : ℕ) : Type 0 where
  pub positive : 0 < x
  pub enough : 2 * k ≤ x * (x - 1)
  pub least : (fewer : ℕ) → 0 < fewer → fewer < x → fewer * (fewer - 1) < 2 * k

-- H: the least number of half symbols of which half, upwards, can be chosen in K + S ways
pub record IsH (symbols h : ℕ) : Type 0 where
  pub enough : symbols ≤ choose h (half h)
  pub least : (fewer : ℕ) → fewer < h → choose fewer (half fewer) < symbols

-- the fewest LDPC symbols that K may have
pub record IsLeastS (k least : ℕ) : Type 0 where
  pub x : ℕ
  pub is_x : IsX k x
  pub is : least ≡ hundredth k + x

-- L: the number of intermediate symbols, K + S + H
pub record IsL (k s l : ℕ) : Type 0 where
  pub h : ℕ
  pub is_h : IsH (k + s) h
  pub is : l ≡ k + s + h

-- K has a block's limits
pub record IsK (k : ℕ) : Type 0 where
  pub least : 4 ≤ k
  pub most : k ≤ 8192

-- S has its limits
pub record IsS (k s : ℕ) : Type 0 where
  pub fewest : ℕ
  pub is_fewest : IsLeastS k fewest
  pub least : fewest ≤ s
  pub most : s ≤ 512

-- L' has its limits
pub record IsLp (k s lp : ℕ) : Type 0 where
  pub l : ℕ
  pub is_l : IsL k s l
  pub least : l ≤ lp
  pub below : lp < 2 * l

-- each number of the row has its limits; J is any number of 16 bits
pub record IsRow (row : Row) : Type 0 where
  pub k : IsK row.k
  pub j : row.j < 2 ^ 16
  pub s : IsS row.k row.s
  pub lp : IsLp row.k row.s row.lp

-- the first number of the row that is outside its limits, by its place in the row
abbrev pub IsOut : ℕ → Row → Type 0
IsOut field row =
    ((field ≡ 0) × (IsK row.k → ⊥))
    ⊎ ((field ≡ 2) × IsK row.k × (IsS row.k row.s → ⊥))
    ⊎ ((field ≡ 3) × IsK row.k × IsS row.k row.s × (IsLp row.k row.s row.lp → ⊥))

-- the least odd number from another one on
pub record IsOddFrom (start odd : ℕ) : Type 0 where
  pub is_odd : odd % 2 ≡ 1
  pub from : start ≤ odd
  pub least : (other : ℕ) → other % 2 ≡ 1 → start ≤ other → odd ≤ other

-- the row that is made for K and J: S and L' are the least odd numbers within their limits
pub record IsMade (k j : ℕ) (row : Row) : Type 0 where
  pub k_is : row.k ≡ k
  pub j_is : row.j ≡ j
  pub fewest : ℕ
  pub is_fewest : IsLeastS k fewest
  pub s_is : IsOddFrom fewest row.s
  pub l : ℕ
  pub is_l : IsL k row.s l
  pub lp_is : IsOddFrom l row.lp
