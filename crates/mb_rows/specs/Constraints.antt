-- The constraints that tie the LDPC and half symbols to the others (RFC 5053 section 5.4.2.3). Each is a set of
-- intermediate symbols that sum to zero.
use Rattle.std.specs.Prelude.{ℕ, zero, suc, ◌+◌, ◌-◌, ◌*◌, ◌/◌, ◌%◌, ◌^◌, ◌==◌, Bool, ◌&&◌, ◌||◌, List, [], ◌∷◌, map, filter, if◌then◌else◌, nat_lt, slice_index, bit_xor, count_ones}
use Rattle.std.specs.Int.{bit_at}
use Rattle.mb_tables.specs.Limits.{half}
use Rattle.mb_rows.specs.Places.{is_odd_in, row_of_set}
use Rattle.mb_rows.specs.Code.{RaptorCode, l_of}

-- the three LDPC symbols that source symbol i is added to
abbrev pub ldpc_of : ℕ → ℕ → List ℕ
ldpc_of s i =
    let a = 1 + i / s % (s - 1) in
    let b = i % s in
    b ∷ ((b + a) % s) ∷ ((b + 2 * a) % s) ∷ []

-- the source symbols that are added to LDPC symbol b an odd number of times
abbrev pub in_ldpc : ℕ → ℕ → ℕ → Bool
in_ldpc s b i = is_odd_in (ldpc_of s i) b

-- the Gray code of a number
abbrev pub gray : ℕ → ℕ
gray i = bit_xor i (i / 2)

-- n numbers from one on
unfoldable pub numbers_from : ℕ → ℕ → List ℕ
numbers_from zero at = []
numbers_from (suc n) at = at ∷ numbers_from n (suc at)

-- those of the Gray codes g(1), g(2), .. of H bits that have half of them set, upwards: m[j, H'] is number j of them
abbrev pub marks : ℕ → List ℕ
marks h = filter (λ g. count_ones g == half h) (map gray (numbers_from (2 ^ h - 1) 1))

-- the source and LDPC symbols that are added to half symbol i: those of which m[j, H'] has bit i set
abbrev pub in_half : ℕ → ℕ → ℕ → Bool
in_half h i j = bit_at (slice_index (marks h) j) i == 1

-- The set of constraint i. The first S are those of the LDPC symbols, the others those of the half symbols.
abbrev pub in_constraint : RaptorCode → ℕ → ℕ → Bool
in_constraint c i place =
    (place == c.row.k + i)
    || (if nat_lt i c.row.s then nat_lt place c.row.k && in_ldpc c.row.s i place
    else nat_lt place (c.row.k + c.row.s) && in_half c.h (i - c.row.s) place)

abbrev pub constraint_row : RaptorCode → ℕ → List Bool
constraint_row c i = row_of_set (l_of c) (in_constraint c i)
