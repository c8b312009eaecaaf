-- Tables have one code for a block size.
use Rattle.std.proofs.Common.{◌≡◌, ◌↔◌, ℕ, zero, suc, ◌+◌, ◌<◌, Bool, List, [], ◌∷◌, length, slice_index_or, IsTrue, Option, Some, None, MatchOption, Result, Ok, Err, IfOk, ap, ap₂, sym, subst, ◌∙◌, arith}
use Rattle.std.specs.Prelude.{is_some}
use Rattle.mb_tables.specs.Limits.{IsH}
use Rattle.mb_tables.specs.Tables.{RaptorTables, AreTables, IsRising}
use Rattle.mb_tables.specs.declared.row.Row.{Row}
use Rattle.mb_tables.proofs.LimitLemmas.{H-unique}
use Rattle.mb_elim.specs.Offered.{Offered}
use Rattle.mb_rows.specs.Code.{RaptorCode, IsCodeOf}
use Rattle.mb_rows.specs.Determined.{DetermineBlock}
use Rattle.mb_encoder.specs.Usable.{source_esis, IsUsable}
use Rattle.mb_encoder.specs.Symbols.{symbols_of}
use Rattle.mb_encoder.specs.Encoder.{Encoder, IsEncoderOf}
use Rattle.mb_encoder.specs.Kept.{IsEliminated}

same_at : (rows : List Row) (i j : ℕ) (a b : Row) → IsRising rows → i < length rows → j < length rows → slice_index_or rows i a ≡ a
    → slice_index_or rows j b ≡ b → a.k ≡ b.k → a ≡ b
same_at [] i j a b h p q e f g = absurd (omega arith)
same_at (row ∷ rows) zero zero a b h p q e f g = sym e ∙ f
same_at (row ∷ rows) zero (suc j) a b h p q e f g =
    let above : row.k < (slice_index_or rows j b).k = h.0 j b (omega arith) in
    let one : row.k ≡ a.k = ap (λ (r : Row). r.k) e in
    let two : (slice_index_or rows j b).k ≡ b.k = ap (λ (r : Row). r.k) f in absurd (omega arith)
same_at (row ∷ rows) (suc i) zero a b h p q e f g =
    let above : row.k < (slice_index_or rows i a).k = h.0 i a (omega arith) in
    let one : row.k ≡ b.k = ap (λ (r : Row). r.k) f in
    let two : (slice_index_or rows i a).k ≡ a.k = ap (λ (r : Row). r.k) e in absurd (omega arith)
same_at (row ∷ rows) (suc i) (suc j) a b h p q e f g = same_at rows i j a b h.1 (omega arith) (omega arith) e f g

same_parts : (c d : RaptorCode) → c.v0 ≡ d.v0 → c.v1 ≡ d.v1 → c.row ≡ d.row → c.h ≡ d.h → c ≡ d
same_parts c d e f g h =
    ap₂ (λ (v w : List ℕ). let r : RaptorCode = record { v0 = v; v1 = w; row = c.row; h = c.h } in r) e f
    ∙ ap₂ (λ (row : Row) (n : ℕ). let r : RaptorCode = record { v0 = d.v0; v1 = d.v1; row = row; h = n } in r) g h

pub one_code : (t : RaptorTables) (k : ℕ) (c d : RaptorCode) → AreTables t → IsCodeOf t k c → IsCodeOf t k d → c ≡ d
one_code t k c d are x y =
    let row : c.row ≡ d.row = same_at t.rows x.row.0 y.row.0 c.row d.row are.rows.rising x.row.1 y.row.1 x.row.2 y.row.2 (x.k_is ∙ sym y.k_is) in
    let half : IsH (k + c.row.s) d.h = subst (λ (r : Row). IsH (k + r.s) d.h) (sym row) y.h in
    same_parts c d (x.v0 ∙ sym y.v0) (x.v1 ∙ sym y.v1) row (H-unique (k + c.row.s) c.h d.h x.h half)

pub one_if : {E : Type 0} → (t : RaptorTables) (k : ℕ) (result : Result RaptorCode E) → AreTables t → IfOk result (IsCodeOf t k)
    → IfOk result (λ (c : RaptorCode). (d : RaptorCode) → IsCodeOf t k d → c ≡ d)
one_if t k (Ok c) are is = λ d e. one_code t k c d are is e
one_if t k (Err fault) are is = tt

pub usable_by : (t : RaptorTables) (k : ℕ) (c : RaptorCode) (found : Option Offered) (answer : Bool)
    → ((d : RaptorCode) → IsCodeOf t k d → c ≡ d) → IsCodeOf t k c
    → MatchOption found (DetermineBlock c (source_esis c.row.k) → ⊥) (IsEliminated c) → answer ≡ is_some found
    → IsTrue answer ↔ IsUsable t k
usable_by t k c None answer one is m e = (
  λ h. absurd (cc),
  λ u. absurd (m (subst (λ (d : RaptorCode). DetermineBlock d (source_esis d.row.k)) (sym (one u.code u.is_code))
      (subst (λ (n : ℕ). DetermineBlock u.code (source_esis n)) (sym u.is_code.k_is) u.determine))),
)
usable_by t k c (Some x) answer one is m e =
    (λ h. record { code = c; is_code = is; determine = subst (λ (n : ℕ). DetermineBlock c (source_esis n)) is.k_is m.determine }, λ u. e)

pub usable_is : (t : RaptorTables) (k : ℕ) (c : RaptorCode) (e : Offered) → IsCodeOf t k c → IsEliminated c e → IsUsable t k
usable_is t k c e is m = record { code = c; is_code = is; determine = subst (λ (n : ℕ). DetermineBlock c (source_esis n)) is.k_is m.determine }

pub encoder_is : (t : RaptorTables) (k w : ℕ) (block : List ℕ) (c : RaptorCode) (e : Encoder) → IsCodeOf t k c
    → e ≡ record { code = c; t = w; sources = symbols_of w c.row.k block } → IsEncoderOf t k w block e
encoder_is t k w block c e is same = record {
  code = subst (IsCodeOf t k) (sym (ap (λ (o : Encoder). o.code) same)) is;
  t_is = ap (λ (o : Encoder). o.t) same;
  sources = ap (λ (o : Encoder). o.sources) same ∙ ap (λ (n : ℕ). symbols_of w n block) is.k_is;
}
