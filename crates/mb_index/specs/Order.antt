-- The order of a list of TOIs: their places, sorted by rising TOI. The rank of a place is where it stands among these.
use Rattle.std.specs.Prelude.{◌≡◌, ℕ, ◌<◌, ◌≤◌, List, length, slice_index}

-- the TOI whose place has this rank
abbrev pub toi_at : List ℕ → List ℕ → ℕ → ℕ
toi_at tois sorted rank = slice_index tois (slice_index sorted rank)

-- a place has a rank
pub record HasRank (sorted : List ℕ) (place : ℕ) : Type 0 where
  pub rank : ℕ
  pub within : rank < length sorted
  pub stands : slice_index sorted rank ≡ place

-- each place of the TOIs has one rank, and the TOIs rise with the ranks, so that no two are the same
pub record IsOrder (tois sorted : List ℕ) : Type 0 where
  pub len : length sorted ≡ length tois
  pub within : (rank : ℕ) → rank < length sorted → slice_index sorted rank < length tois
  pub rises : (low high : ℕ) → low < high → high < length sorted → toi_at tois sorted low < toi_at tois sorted high
  pub covers : (place : ℕ) → place < length tois → HasRank sorted place

-- the TOIs of the ranks below this one are below the TOI, and those of the others are not
pub record IsRank (tois sorted : List ℕ) (toi rank : ℕ) : Type 0 where
  pub most : rank ≤ length sorted
  pub below : (other : ℕ) → other < rank → toi_at tois sorted other < toi
  pub above : (other : ℕ) → rank ≤ other → other < length sorted → toi ≤ toi_at tois sorted other
