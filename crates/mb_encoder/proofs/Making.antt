-- The intermediate symbols that are made of a block give its symbols.
use Rattle.std.proofs.Common.{◌≡◌, ℕ, ◌+◌, ◌*◌, ◌^◌, ◌<◌, List, [], length, slice_index, ap, sym, subst, ◌∙◌, arith}
use Rattle.mb_elim.specs.Offered.{Offered}
use Rattle.mb_elim.specs.Kept.{firsts}
use Rattle.mb_elim.specs.Values.{byte_at, byte_sum, AreSums, AreUnknowns}
use Rattle.mb_elim.proofs.Snoc.{length_firsts, firsts_same, nth_firsts}
use Rattle.mb_elim.proofs.RowsInWords.{row_within}
use Rattle.mb_rows.specs.Code.{RaptorCode, l_of}
use Rattle.mb_rows.specs.Walk.{lt_row}
use Rattle.mb_rows.specs.Constraints.{constraint_row}
use Rattle.mb_rows.specs.Folding.{folded_row}
use Rattle.mb_encoder.specs.Symbols.{SumToZero, symbol_of, symbols_of}
use Rattle.mb_encoder.specs.Encoder.{Encoder}
use Rattle.mb_encoder.specs.Kept.{IsEliminated, IsKept, given_at, encoder_of}
use Rattle.mb_encoder.proofs.Offering.{length_folded, folded_are_rows}
use Rattle.mb_encoder.proofs.Lifting.{byte_same}
use Rattle.mb_encoder.proofs.Summing.{nth_symbol}
use Rattle.mb_encoder.proofs.Inverse.{HasUnknowns, full_unknowns}
use Rattle.mb_encoder.proofs.Solving.{folded_bytes}

-- the first bytes are put to unknowns of the rows and stay
made_byte : (c : RaptorCode) (t n b : ℕ) (block middle items : List ℕ) (us : List (List ℕ)) → n < c.row.k → b < t → length us ≡ c.row.k
    → AreSums t (firsts (folded_row c) c.row.k) us block → AreUnknowns t us middle
    → ((j : ℕ) → j < t * c.row.k → slice_index items j ≡ slice_index middle j)
    → ((i : ℕ) → i < c.row.s + c.h → SumToZero t (constraint_row c i) (symbols_of t (l_of c) items))
    → byte_sum b (lt_row c n) (symbols_of t (l_of c) items) ≡ byte_at t block n b
made_byte c t n b block middle items us p q count sums unknowns stay meet =
    let all = symbols_of t (l_of c) items in
    let many = length_firsts (symbol_of t items) (l_of c) in
    let long = length_folded c n in
    let rows = length_firsts (folded_row c) c.row.k in
    folded_bytes c n b all (λ i r. meet i r b q)
    ∙ byte_same b (folded_row c n) all us (omega arith) (omega arith)
    (λ i r. let room = row_within t i c.row.k (omega arith) in
    nth_symbol t (l_of c) i b items (omega arith) q ∙ stay (t * i + b) (omega arith) ∙ unknowns i b (omega arith) q)
    ∙ ap (λ row. byte_sum b row us) (sym (nth_firsts (folded_row c) [] c.row.k n p))
    ∙ sym (sums n b (omega arith) q)

pub made_sources : (c : RaptorCode) (t : ℕ) (e : Offered) (block middle items : List ℕ) → IsEliminated c e
    → ((us : List (List ℕ)) → length us ≡ e.places → AreSums t e.news us block → AreUnknowns t us middle)
    → ((j : ℕ) → j < t * c.row.k → slice_index items j ≡ slice_index middle j)
    → ((i : ℕ) → i < c.row.s + c.h → SumToZero t (constraint_row c i) (symbols_of t (l_of c) items))
    → firsts (given_at c t items) c.row.k ≡ symbols_of t c.row.k block
made_sources c t e block middle items is replay stay meet =
    let have : HasUnknowns t c.row.k (firsts (folded_row c) c.row.k) block =
    full_unknowns t c.row.k (firsts (folded_row c) c.row.k) block (folded_are_rows c c.row.k) is.independent (length_firsts (folded_row c) c.row.k) in
    let us = have.unknowns in
    let places : length us ≡ e.places = have.count ∙ sym (ap (λ (o : Offered). o.places) is.rows) in
    let sums : AreSums t e.news us block = subst (λ (o : Offered). AreSums t o.news us block) (sym is.rows) have.sums in
    let unknowns : AreUnknowns t us middle = replay us places sums in
    firsts_same (given_at c t items) (symbol_of t block) c.row.k
    (λ n p. firsts_same (λ b. byte_sum b (lt_row c n) (symbols_of t (l_of c) items)) (byte_at t block n) t
    (λ b q. made_byte c t n b block middle items us p q have.count have.sums unknowns stay meet))

pub made_kept : (c : RaptorCode) (t : ℕ) (e : Offered) (made items : List ℕ) → IsEliminated c e → items ≡ made → length made ≡ t * l_of c
    → ((i : ℕ) → slice_index made i < 2 ^ 8) → ((i : ℕ) → i < c.row.s + c.h → SumToZero t (constraint_row c i) (symbols_of t (l_of c) made))
    → IsKept c t items
made_kept c t e made items is same count bytes meet =
    subst (IsKept c t) (sym same) (record { code = is.code; count = count; bytes = bytes; meet = meet; determine = is.determine })

pub made_encoder : (c : RaptorCode) (t : ℕ) (made items block : List ℕ) → items ≡ made → firsts (given_at c t made) c.row.k ≡ symbols_of t c.row.k block
    → encoder_of c t items ≡ record { code = c; t = t; sources = symbols_of t c.row.k block }
made_encoder c t made items block same sources =
    ap (encoder_of c t) same ∙ ap (λ (symbols : List (List ℕ)). let e : Encoder = record { code = c; t = t; sources = symbols } in e) sources
