-- The source symbols that are copied or put are those that the kept pairs determine.
use Rattle.std.proofs.Common.{◌≡◌, ℕ, ◌+◌, ◌*◌, ◌^◌, ◌<◌, ◌⊎◌, inl, inr, Bool, true, false, List, length, map, slice_index, refl, ap, sym, ◌∙◌, arith}
use Rattle.mb_bits.specs.BitRow.{bit_in}
use Rattle.mb_linear.specs.Row.{AreRows}
use Rattle.mb_linear.specs.Span.{AreIndependent}
use Rattle.mb_elim.specs.Values.{byte_at, byte_sum, AreSums, AreUnknowns}
use Rattle.mb_elim.proofs.Snoc.{length_firsts, nth_firsts}
use Rattle.mb_rows.specs.Code.{RaptorCode}
use Rattle.mb_rows.specs.Walk.{lt_row}
use Rattle.mb_rows.specs.Folding.{folded_row}
use Rattle.mb_rows.specs.Determined.{DetermineBlock}
use Rattle.mb_encoder.specs.Symbols.{IsSymbol, symbol_of, symbols_of}
use Rattle.mb_encoder.specs.Solutions.{esis, SolvePairs}
use Rattle.mb_encoder.proofs.Inverse.{full_unknowns}
use Rattle.mb_encoder.proofs.Solving.{solutions_agree}
use Rattle.mb_decoder.specs.Kept.{pairs_in}
use Rattle.mb_decoder.specs.Sources.{IsCopied, AreCopied, AreSources}
use Rattle.mb_decoder.proofs.Extending.{all_of, all_folded}
use Rattle.mb_decoder.proofs.Solutions.{kept_sum, replayed_solve, full_solve}

bit_either : (b : Bool) → (b ≡ true) ⊎ (b ≡ false)
bit_either true = inl refl
bit_either false = inr refl

put_symbol_is : (t esi : ℕ) (out : List ℕ) → ((j : ℕ) → slice_index out j < 2 ^ 8) → IsSymbol t (symbol_of t out esi)
put_symbol_is t esi out small = record {
  long = length_firsts (byte_at t out esi) t;
  bytes = λ b q.
      let is = nth_firsts (byte_at t out esi) 0 t b q in
      let few = small (t * esi + b) in omega arith;
}

-- ---- each solution sums to what was put

copied_sum : (c : RaptorCode) (t k esi b : ℕ) (es xs out : List ℕ) (us : List (List ℕ)) → IsCopied t k es xs esi out → SolvePairs c t (pairs_in t es xs k) us → b < t
    → byte_sum b (lt_row c esi) us ≡ byte_at t out esi b
copied_sum c t k esi b es xs out us copied s q =
    ap (λ (e : ℕ). byte_sum b (lt_row c e) us) (sym copied.esi_is) ∙ kept_sum c t k copied.index b es xs us s copied.within q ∙ sym (copied.bytes_are b q)

pub put_sum_is : (c : RaptorCode) (t k esi b : ℕ) (es xs ys out : List ℕ) (us : List (List ℕ)) → DetermineBlock c (esis (pairs_in t es xs k))
    → SolvePairs c t (pairs_in t es xs k) (all_of c t (symbols_of t c.row.k ys)) → SolvePairs c t (pairs_in t es xs k) us
    → byte_at t out esi b ≡ byte_sum b (folded_row c esi) (symbols_of t c.row.k ys) → b < t → byte_sum b (lt_row c esi) us ≡ byte_at t out esi b
put_sum_is c t k esi b es xs ys out us d own s put q =
    let vs = symbols_of t c.row.k ys in
    solutions_agree c t esi b (pairs_in t es xs k) us (all_of c t vs) d s own q
    ∙ all_folded c t esi b vs (length_firsts (symbol_of t ys) c.row.k) q
    ∙ sym put

source_by : (c : RaptorCode) (t k esi b : ℕ) (es xs ys noted copy out : List ℕ) (us : List (List ℕ)) → DetermineBlock c (esis (pairs_in t es xs k))
    → SolvePairs c t (pairs_in t es xs k) (all_of c t (symbols_of t c.row.k ys)) → SolvePairs c t (pairs_in t es xs k) us
    → (bit_in noted esi ≡ true → IsCopied t k es xs esi copy) → (bit_in noted esi ≡ true → byte_at t out esi b ≡ byte_at t copy esi b)
    → (bit_in noted esi ≡ false → byte_at t out esi b ≡ byte_sum b (folded_row c esi) (symbols_of t c.row.k ys))
    → b < t → (bit_in noted esi ≡ true) ⊎ (bit_in noted esi ≡ false) → byte_sum b (lt_row c esi) us ≡ byte_at t out esi b
source_by c t k esi b es xs ys noted copy out us d own s copied stay put q (inl e) = copied_sum c t k esi b es xs copy us (copied e) s q ∙ sym (stay e)
source_by c t k esi b es xs ys noted copy out us d own s copied stay put q (inr e) = put_sum_is c t k esi b es xs ys out us d own s (put e) q

-- what the copies, the replay and the sums leave
pub sources_are : (c : RaptorCode) (t k : ℕ) (es xs ys noted copy out : List ℕ) (rows : List (List Bool)) → k ≡ c.row.k → AreRows k rows → AreIndependent k rows → length rows ≡ k
    → rows ≡ map (folded_row c) (esis (pairs_in t es xs k)) → DetermineBlock c (esis (pairs_in t es xs k))
    → ((unknowns : List (List ℕ)) → length unknowns ≡ k → AreSums t rows unknowns xs → AreUnknowns t unknowns ys)
    → ((j : ℕ) → slice_index ys j < 2 ^ 8) → ((j : ℕ) → slice_index out j < 2 ^ 8)
    → AreCopied t k k es xs noted copy
    → ((esi b : ℕ) → esi < c.row.k → bit_in noted esi ≡ true → b < t → byte_at t out esi b ≡ byte_at t copy esi b)
    → ((esi b : ℕ) → esi < c.row.k → bit_in noted esi ≡ false → b < t → byte_at t out esi b ≡ byte_sum b (folded_row c esi) (symbols_of t c.row.k ys))
    → AreSources c t (pairs_in t es xs k) out
sources_are c t k es xs ys noted copy out rows f are free many e d replay small_ys small copied stay put esi p =
    let found = full_unknowns t k rows xs are free many in
    let own = replayed_solve c t k es xs ys rows found.unknowns f found.count found.sums (replay found.unknowns found.count found.sums) e many small_ys in record {
      is_symbol = put_symbol_is t esi out small;
      some = all_of c t (symbols_of t c.row.k ys);
      solve = own;
      each = λ us s b q.
          source_by c t k esi b es xs ys noted copy out us d own s (λ y. copied esi (omega arith) y) (λ y. stay esi b p y q) (λ y. put esi b p y q) q (bit_either (bit_in noted esi))
          ∙ sym (nth_firsts (byte_at t out esi) 0 t b q);
    }

-- where each source symbol was copied, nothing need be replayed
pub copies_are : (c : RaptorCode) (t k : ℕ) (es xs noted out : List ℕ) (rows : List (List Bool)) → k ≡ c.row.k → AreRows k rows → AreIndependent k rows → length rows ≡ k
    → rows ≡ map (folded_row c) (esis (pairs_in t es xs k)) → ((j : ℕ) → slice_index xs j < 2 ^ 8) → ((j : ℕ) → slice_index out j < 2 ^ 8)
    → AreCopied t k k es xs noted out → ((esi : ℕ) → esi < k → bit_in noted esi ≡ true) → AreSources c t (pairs_in t es xs k) out
copies_are c t k es xs noted out rows f are free many e small_xs small copied all esi p =
    let found = full_solve c t k es xs rows f are free many e small_xs in record {
      is_symbol = put_symbol_is t esi out small;
      some = found.some;
      solve = found.solve;
      each = λ us s b q.
          copied_sum c t k esi b es xs out us (copied esi (omega arith) (all esi (omega arith))) s q
          ∙ sym (nth_firsts (byte_at t out esi) 0 t b q);
    }
