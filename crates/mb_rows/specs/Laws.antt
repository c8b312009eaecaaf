-- What holds of the rows of all codes.
use Rattle.std.specs.Prelude.{◌≡◌, ◌↔◌, ℕ, ◌*◌, ◌<◌, ◌≤◌, Bool, List, map, length, find, nat_lt, IsSome}
use Rattle.mb_tables.specs.Limits.{choose, half}
use Rattle.mb_linear.specs.Row.{zeros, value_over}
use Rattle.mb_linear.specs.Span.{Solves, IsDetermined}
use Rattle.mb_rows.specs.Code.{RaptorCode, l_of}
use Rattle.mb_rows.specs.Triple.{triple_of}
use Rattle.mb_rows.specs.Walk.{steps, taken, sum_at, lt_row}
use Rattle.mb_rows.specs.Constraints.{marks}
use Rattle.mb_rows.specs.Determined.{Determines, DetermineBlock}
use Rattle.mb_rows.specs.Folding.{IsFolded, HasRest, folded_row}

-- the LT row of an ESI sums values to what its triple adds up, one symbol after the other
abbrev pub RowsAreSums : Type 0
RowsAreSums = (c : RaptorCode) (esi : ℕ) (values : List Bool) → length values ≡ l_of c
    → value_over (lt_row c esi) values ≡ sum_at (taken (l_of c) c.row.lp (triple_of c esi)) values

-- a folded row says of the first K symbols what the LT row says of all
abbrev pub RowsAreFolded : Type 0
RowsAreFolded = (c : RaptorCode) (esi : ℕ) → IsFolded c (lt_row c esi) (folded_row c esi)

-- the constraints leave the first K symbols free
abbrev pub FirstAreFree : Type 0
FirstAreFree = (c : RaptorCode) (first : List Bool) → length first ≡ c.row.k → HasRest c first

-- There are as many marks of H bits as half of H, upwards, can be chosen in ways. So each of K + S symbols has one.
abbrev pub MarksAreEnough : Type 0
MarksAreEnough = (h : ℕ) → 1 ≤ h → length (marks h) ≡ choose h (half h)

-- L' steps of a walk come to a place below L
abbrev pub WalksEnd : Type 0
WalksEnd = (l a lp b : ℕ) → l ≤ lp → lp < 2 * l → 1 ≤ a → a < lp → b < lp → IsSome (find (λ place. nat_lt place l) (steps lp a lp b))

-- ESIs determine another one exactly where its folded row is determined by theirs
abbrev pub RowsDetermine : Type 0
RowsDetermine = (c : RaptorCode) (esis : List ℕ) (esi : ℕ)
    → Determines c esis esi ↔ IsDetermined c.row.k (map (folded_row c) esis) (folded_row c esi)

-- ESIs determine the block exactly where the zeros alone solve their folded rows
abbrev pub RowsDetermineBlock : Type 0
RowsDetermineBlock = (c : RaptorCode) (esis : List ℕ)
    → DetermineBlock c esis ↔ ((first : List Bool) → Solves c.row.k (map (folded_row c) esis) first → first ≡ zeros c.row.k)
