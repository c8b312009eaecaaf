-- Codes that are shared: what a code that was made, or refused, says of the tables.
use Rattle.std.proofs.Common.{◌≡◌, ◌≢◌, ◌↔◌, ℕ, zero, suc, ◌<◌, Bool, true, false, List, [], ◌∷◌, ◌++◌, Some, None, Result, Ok, Err, IfOk, IfErr, All, length, ap, sym, subst, ◌∙◌, arith}
use Rattle.std.specs.Prelude.{slice_index_or, Contains}
use Rattle.std.specs.List.{AllByRecursion, items_where_true}
use Rattle.mb_tables.specs.Tables.{RaptorTables}
use Rattle.mb_tables.specs.declared.row.Row.{Row}
use Rattle.mb_rows.specs.Code.{RaptorCode}
use Rattle.mb_rows.specs.declared.fault.CodeFault.{CodeFault}
use Rattle.mb_rows.specs.declared.fault.CodeFault.TheVariants.{NoRow, Memory}
use Rattle.mb_way.specs.Way.{code_of}
use Rattle.mb_way.proofs.CodeLemmas.{no_code_of, rows_without}

pub shared_is : (t : RaptorTables) (k : ℕ) (c : RaptorCode) (r : Result RaptorCode CodeFault) → code_of t k ≡ Some c → IfOk r (λ s. s ≡ c)
    → IfOk r (λ s. code_of t k ≡ Some s)
shared_is t k c (Ok s) is e = is ∙ ap Some (sym e)
shared_is t k c (Err f) is e = tt

pub shared_row : (t : RaptorTables) (k : ℕ) (c : RaptorCode) (r : Result RaptorCode CodeFault) → code_of t k ≡ Some c → IfErr r (λ f. f ≡ Memory)
    → (r ≡ Err (NoRow k)) ↔ (code_of t k ≡ None)
shared_row t k c (Ok s) is m = (λ e. absurd (cc e), λ e. absurd (cc (e, is)))
shared_row t k c (Err f) is m = (λ e. absurd (cc (e, m)), λ e. absurd (cc (e, is)))

same_fault : {A : Type 0} → (f g : CodeFault) (r : Result A CodeFault) → r ≡ Err f → r ≡ Err g → f ≡ g
same_fault f g r a b = cc (a, b)

pub refused_row : {A B : Type 0} → (t : RaptorTables) (k : ℕ) (f : CodeFault) (r : Result A CodeFault) (s : Result B CodeFault) → r ≡ Err f → s ≡ Err f
    → (r ≡ Err (NoRow k)) ↔ All (λ (row : Row). row.k ≢ k) t.rows → (s ≡ Err (NoRow k)) ↔ (code_of t k ≡ None)
refused_row t k f r s is of row = (
  λ e. no_code_of t k (row.0 (is ∙ ap Err (same_fault f (NoRow k) s of e))),
  λ e. of ∙ ap Err (same_fault f (NoRow k) r is (row.1 (rows_without t k e))),
)

-- what holds of all holds of those that a test leaves
pub all_left : {A : Type 0} → (P : A → Type 0) (bs : List Bool) (xs : List A) → AllByRecursion P xs → AllByRecursion P (items_where_true bs xs)
all_left P [] xs all = tt
all_left P (b ∷ bs) [] all = tt
all_left P (true ∷ bs) (x ∷ xs) all = (all.0, all_left P bs xs all.1)
all_left P (false ∷ bs) (x ∷ xs) all = all_left P bs xs all.1

at_place : {A : Type 0} → (P : A → Type 0) (xs : List A) (i : ℕ) (x : A) → AllByRecursion P xs → i < length xs → slice_index_or xs i x ≡ x → P x
at_place P [] i x all p e = absurd (omega arith)
at_place P (y ∷ xs) zero x all p e = subst P e all.0
at_place P (y ∷ xs) (suc i) x all p e = at_place P xs i x all.1 (omega arith) e

-- what holds of all holds of one of them
pub all_has : {A : Type 0} → (P : A → Type 0) (xs : List A) (x : A) → AllByRecursion P xs → Contains xs x → P x
all_has P xs x all has = at_place P xs has.0 x all has.1 has.2

-- and of all and one more
pub all_more : {A : Type 0} → (P : A → Type 0) (xs : List A) (x : A) → AllByRecursion P xs → P x → AllByRecursion P (xs ++ x ∷ [])
all_more P [] x all has = (has, tt)
all_more P (y ∷ xs) x all has = (all.0, all_more P xs x all.1 has)
