-- The triple of an ESI (RFC 5053 section 5.4.4).
use Rattle.std.specs.Prelude.{ℕ, ◌+◌, ◌-◌, ◌*◌, ◌/◌, ◌%◌, ◌^◌, List, if◌then◌else◌, nat_lt, slice_index, bit_xor}
use Rattle.mb_tables.specs.declared.row.Row.{Row}
use Rattle.mb_rows.specs.Code.{RaptorCode}
use Rattle.mb_rows.specs.declared.triple.Triple.{Triple}

-- Rand[Y, i, m] (section 5.4.4.1)
abbrev pub rand : List ℕ → List ℕ → ℕ → ℕ → ℕ → ℕ
rand v0 v1 y i m = bit_xor (slice_index v0 ((y + i) % 256)) (slice_index v1 ((y / 256 + i) % 256)) % m

-- Deg[v], of a v below 2^20 (section 5.4.4.2)
abbrev pub degree : ℕ → ℕ
degree v =
    if nat_lt v 10241 then 1 else (if nat_lt v 491582 then 2 else (if nat_lt v 712794 then 3 else (if nat_lt v 831695 then 4
    else (if nat_lt v 948446 then 10 else (if nat_lt v 1032189 then 11 else 40)))))

-- A and B, which the systematic index J gives (section 5.4.4.4)
abbrev pub factor : ℕ → ℕ
factor j = (53591 + j * 997) % 65521

abbrev pub offset : ℕ → ℕ
offset j = 10267 * (j + 1) % 65521

-- Y of an ESI
abbrev pub seed : ℕ → ℕ → ℕ
seed j esi = (offset j + esi * factor j) % 65521

-- Trip[K, X]
abbrev pub triple_for : List ℕ → List ℕ → Row → ℕ → Triple
triple_for v0 v1 row esi = record {
  d = degree (rand v0 v1 (seed row.j esi) 0 (2 ^ 20));
  a = 1 + rand v0 v1 (seed row.j esi) 1 (row.lp - 1);
  b = rand v0 v1 (seed row.j esi) 2 row.lp;
}

abbrev pub triple_of : RaptorCode → ℕ → Triple
triple_of c esi = triple_for c.v0 c.v1 c.row esi
