-- The code that is made of tables for a block size is the one of the definition.
use Rattle.std.proofs.Common.{◌≡◌, ◌≢◌, ◌⊎◌, inl, inr, ℕ, zero, suc, ◌+◌, ◌<◌, ◌≤◌, ◌==◌, Bool, true, false, cond, nat_le, List, [], ◌∷◌, length, Option, Some, None, All, refl, ap, ap₂, sym, subst, ◌∙◌, arith}
use Rattle.std.specs.Prelude.{find, option_map, unwrap_or, slice_index_or, Contains}
use Rattle.std.specs.List.{range_with_len}
use Rattle.std.proofs.lemmas.Bool.{cases_lt, cond-true, cond-false, le-leb, lt-leb, eq-eqb, ne_eqb, eqb-true}
use Rattle.mb_tables.specs.Limits.{choose, half, IsH}
use Rattle.mb_tables.specs.Tables.{RaptorTables, AreTables, IsRising}
use Rattle.mb_tables.specs.declared.row.Row.{Row}
use Rattle.mb_rows.specs.Code.{RaptorCode, IsCode, IsCodeOf}
use Rattle.mb_rows.proofs.CodeLemmas.{half_few}
use Rattle.mb_way.specs.Way.{half_symbols, code_with, code_of}

-- ---- the first number of a range that passes a test

find_by : (p : ℕ → Bool) (n a h : ℕ) → (a < h) ⊎ (h ≤ a) → a ≤ h → p h ≡ true → (a < h → p a ≡ false) → (a < h → find p (range_with_len (a + 1) n) ≡ Some h)
    → find p (range_with_len a (suc n)) ≡ Some h
find_by p n a h (inl below) low passes fails later =
    cond-false (p a) (Some a) (find p (range_with_len (a + 1) n)) (fails below) ∙ later below
find_by p n a h (inr above) low passes fails later =
    let same : a ≡ h = omega arith in
    cond-true (p a) (Some a) (find p (range_with_len (a + 1) n)) (ap p same ∙ passes) ∙ ap Some same

find_first : (p : ℕ → Bool) (n a h : ℕ) → a ≤ h → h < a + n → p h ≡ true → ((i : ℕ) → a ≤ i → i < h → p i ≡ false) → find p (range_with_len a n) ≡ Some h
find_first p zero a h low high passes fails = absurd (omega arith)
find_first p (suc n) a h low high passes fails =
    find_by p n a h (cases_lt a h) low passes (λ below. fails a (omega arith) below)
    (λ below. find_first p n (a + 1) h (omega arith) (omega arith) passes (λ i q r. fails i (omega arith) r))

-- the half symbols of a code are those of the definition
half_is : (n h : ℕ) → IsH n h → h ≤ 16 → half_symbols n ≡ h
half_is n h is few =
    ap (λ (o : Option ℕ). unwrap_or o 0)
    (find_first (λ i. nat_le n (choose i (half i))) 17 0 h (omega arith) (omega arith) (le-leb n (choose h (half h)) is.enough)
    (λ i q r. lt-leb n (choose i (half i)) (is.least i r)))

-- ---- the row of a block size

find_row : (rows : List Row) (k i : ℕ) (row : Row) → IsRising rows → i < length rows → slice_index_or rows i row ≡ row → row.k ≡ k
    → find (λ (r : Row). r.k == k) rows ≡ Some row
find_row [] k i row rising within at is = absurd (omega arith)
find_row (first ∷ rows) k zero row rising within at is =
    cond-true (first.k == k) (Some first) (find (λ (r : Row). r.k == k) rows) (eq-eqb first.k k (ap (λ (r : Row). r.k) at ∙ is)) ∙ ap Some at
find_row (first ∷ rows) k (suc i) row rising within at is =
    let inside : i < length rows = omega arith in
    let above : first.k < (slice_index_or rows i row).k = rising.0 i row inside in
    let same : (slice_index_or rows i row).k ≡ k = ap (λ (r : Row). r.k) at ∙ is in
    let other : first.k ≢ k = λ e. omega arith in
    cond-false (first.k == k) (Some first) (find (λ (r : Row). r.k == k) rows) (ne_eqb first.k k other)
    ∙ find_row rows k i row rising.1 inside at is

same_parts : (c d : RaptorCode) → c.v0 ≡ d.v0 → c.v1 ≡ d.v1 → c.row ≡ d.row → c.h ≡ d.h → c ≡ d
same_parts c d e f g h =
    ap₂ (λ (v w : List ℕ). let r : RaptorCode = record { v0 = v; v1 = w; row = c.row; h = c.h } in r) e f
    ∙ ap₂ (λ (row : Row) (n : ℕ). let r : RaptorCode = record { v0 = d.v0; v1 = d.v1; row = row; h = n } in r) g h

pub code_is : (t : RaptorTables) (k : ℕ) (c : RaptorCode) → AreTables t → IsCode c → IsCodeOf t k c → code_of t k ≡ Some c
code_is t k c are code of =
    let half : IsH (c.row.k + c.row.s) c.h = subst (λ (n : ℕ). IsH (n + c.row.s) c.h) (sym of.k_is) of.h in
    ap (option_map (code_with t)) (find_row t.rows k of.row.0 c.row are.rows.rising of.row.1 of.row.2 of.k_is)
    ∙ ap Some (same_parts (code_with t c.row) c (sym of.v0) (sym of.v1) refl (half_is (c.row.k + c.row.s) c.h half (half_few c code)))

find_none : (rows : List Row) (k : ℕ) → All (λ (row : Row). row.k ≢ k) rows → find (λ (r : Row). r.k == k) rows ≡ None
find_none [] k none = refl
find_none (first ∷ rows) k none =
    cond-false (first.k == k) (Some first) (find (λ (r : Row). r.k == k) rows) (ne_eqb first.k k (none 0 first (omega arith)))
    ∙ find_none rows k (λ i d p. none (suc i) d (omega arith))

pub no_code_of : (t : RaptorTables) (k : ℕ) → All (λ (row : Row). row.k ≢ k) t.rows → code_of t k ≡ None
no_code_of t k none = ap (option_map (code_with t)) (find_none t.rows k none)

none_later : (b : Bool) (x : Row) (o : Option Row) → cond b (Some x) o ≡ None → o ≡ None
none_later true x o none = absurd cc
none_later false x o none = none

rows_none : (rows : List Row) (k : ℕ) → find (λ (r : Row). r.k == k) rows ≡ None → All (λ (row : Row). row.k ≢ k) rows
rows_none [] k none i d p = absurd (omega arith)
rows_none (first ∷ rows) k none zero d p = λ e. absurd (cc (none, cond-true (first.k == k) (Some first) (find (λ (r : Row). r.k == k) rows) (eq-eqb first.k k e)))
rows_none (first ∷ rows) k none (suc i) d p = rows_none rows k (none_later (first.k == k) first (find (λ (r : Row). r.k == k) rows) none) i d (omega arith)

-- where there is no code, there is no row
none_given : (t : RaptorTables) (o : Option Row) → option_map (code_with t) o ≡ None → o ≡ None
none_given t None e = refl
none_given t (Some row) e = absurd cc

pub rows_without : (t : RaptorTables) (k : ℕ) → code_of t k ≡ None → All (λ (row : Row). row.k ≢ k) t.rows
rows_without t k none = rows_none t.rows k (none_given t (find (λ (r : Row). r.k == k) t.rows) none)

-- whether there is a code is whether there is a row
pub code_some : (t : RaptorTables) (k : ℕ) (row : Row) → AreTables t → Contains t.rows row → row.k ≡ k → code_of t k ≡ Some (code_with t row)
code_some t k row are has is = ap (option_map (code_with t)) (find_row t.rows k has.0 row are.rows.rising has.1 has.2 is)

same_row : (a b : Row) → Some a ≡ Some b → a ≡ b
same_row a b e = cc e

same_code : (a b : RaptorCode) → Some a ≡ Some b → a ≡ b
same_code a b e = cc e

size_by : (b : Bool) (first row : Row) (k : ℕ) (o : Option Row) → (first.k == k) ≡ b → cond b (Some first) o ≡ Some row → (o ≡ Some row → row.k ≡ k) → row.k ≡ k
size_by true first row k o e is later = ap (λ (r : Row). r.k) (sym (same_row first row is)) ∙ eqb-true first.k k e
size_by false first row k o e is later = later is

find_size : (rows : List Row) (k : ℕ) (row : Row) → find (λ (r : Row). r.k == k) rows ≡ Some row → row.k ≡ k
find_size [] k row is = absurd (cc is)
find_size (first ∷ rows) k row is = size_by (first.k == k) first row k (find (λ (r : Row). r.k == k) rows) refl is (find_size rows k row)

size_with : (t : RaptorTables) (k : ℕ) (c : RaptorCode) (o : Option Row) → ((row : Row) → o ≡ Some row → row.k ≡ k) → option_map (code_with t) o ≡ Some c → c.row.k ≡ k
size_with t k c None size is = absurd (cc is)
size_with t k c (Some row) size is = ap (λ (x : RaptorCode). x.row.k) (sym (same_code (code_with t row) c is)) ∙ size row refl

-- a code of K has K source symbols
pub code_size : (t : RaptorTables) (k : ℕ) (c : RaptorCode) → code_of t k ≡ Some c → c.row.k ≡ k
code_size t k c is = size_with t k c (find (λ (r : Row). r.k == k) t.rows) (find_size t.rows k) is
