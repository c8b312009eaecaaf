use Rattle.std.proofs.Common.{◌≡◌, ℕ, ◌+◌, ◌-◌, ◌*◌, Bool, true, false, List, length, take, drop, slice_index, ap, ap₂, sym, ◌∙◌, arith}
use Rattle.std.proofs.lemmas.Grind.{common_steps}
use Rattle.mb_bits.specs.BitRow.{bit_in, row_of}
use Rattle.mb_elim.specs.Values.{byte_sum}
use Rattle.mb_elim.proofs.RowsInWords.{row_within}
use Rattle.mb_rows.specs.Folding.{folded_row}
use Rattle.mb_encoder.specs.Symbols.{symbols_of}
use Rattle.mb_decoder.proofs.Middle.{mid_length, put_more, put_stay, put_skip}
use Rattle.mb_decoder.proofs.solve.put_others.Goals.{then-not-has_bit, else-not-has_bit}
use Rattle.mb_decoder.proofs.solve.put_others.Goals as goal

pub put_sum-requires-clause-symbols : goal.put_sum-requires-clause-symbols
put_sum-requires-clause-symbols c =
    let k = c.k-k.ensures.k in
    let at = c.from-then-not-has_bit.ensures in
    let room = row_within c.args.t c.from-then-not-has_bit.result c.args.code.now.row.k (omega arith) in
    let all : length c.loop-esi.out ≡ c.args.t * c.args.code.now.row.k = c.loop-esi.invariant.count ∙ c.requires.out in
    let own : length (take (c.args.t * c.from-then-not-has_bit.result + c.args.t - c.args.t * c.from-then-not-has_bit.result) (drop (c.args.t * c.from-then-not-has_bit.result) c.loop-esi.out)) ≡ c.args.t =
    grind (arith, common_steps) in
    let same : c.args.t * c.k-k.result ≡ c.args.t * c.args.code.now.row.k = ap (λ (n : ℕ). c.args.t * n) k in
    let symbols = c.requires.symbols in rw own (omega arith)

pub loop-esi-preserved : goal.loop-esi-preserved
loop-esi-preserved c =
    let k = c.k-k.ensures.k in
    let all : length c.loop-esi.out ≡ c.args.t * c.args.code.now.row.k = c.loop-esi.invariant.count ∙ c.requires.out in
    let f = λ (esi b : ℕ). byte_sum b (folded_row c.args.code.now esi) (symbols_of c.args.t c.args.code.now.row.k c.args.symbols.now) in
    let noted = ap (bit_in c.args.heard.now) c.from.ensures in
    elim c.if-not-has_bit.branch [
      | then-not-has_bit w ↦
          let here : w.from-then-not-has_bit.result ≡ c.loop-esi.esi = w.from-then-not-has_bit.ensures in
          let unset : bit_in c.args.heard.now c.loop-esi.esi ≡ false = sym noted ∙ sym c.has_bit.ensures ∙ w.if-not-has_bit.true in
          let at : c.args.t * w.from-then-not-has_bit.result ≡ c.args.t * c.loop-esi.esi = ap (λ (n : ℕ). c.args.t * n) here in
          let room = row_within c.args.t w.from-then-not-has_bit.result c.args.code.now.row.k (omega (arith, here, k, c.loop-esi-test.true)) in
          let run : c.args.t * w.from-then-not-has_bit.result + c.args.t - c.args.t * w.from-then-not-has_bit.result ≡ c.args.t = omega arith in
          let own : length (take (c.args.t * w.from-then-not-has_bit.result + c.args.t - c.args.t * w.from-then-not-has_bit.result) (drop (c.args.t * w.from-then-not-has_bit.result) c.loop-esi.out))
          ≡ c.args.t = grind (arith, common_steps) in
          let long : length w.put_sum.new.out ≡ c.args.t = w.put_sum.ensures.count ∙ own in record {
            others = put_more c.args.t c.loop-esi.esi (c.loop-esi.esi + 1) (c.args.t * w.from-then-not-has_bit.result) _ f c.args.heard.now c.loop-esi.out w.put_sum.new.out c.if-not-has_bit.out
                (omega arith) at (omega arith) run (long ∙ sym run)
                (λ d q. w.put_sum.ensures.sum d (rw own q)
                ∙ ap₂ (λ (n t : ℕ). byte_sum d (row_of n w.folded_row.new.out) (symbols_of t n c.args.symbols.now)) k own
                ∙ ap (λ (row : List Bool). byte_sum d row (symbols_of c.args.t c.args.code.now.row.k c.args.symbols.now)) w.folded_row.ensures.row)
                w.out-is c.loop-esi.invariant.others;
            copied = λ esi b p q r.
                put_stay c.args.t c.loop-esi.esi (c.args.t * w.from-then-not-has_bit.result) _ esi b c.args.heard.now c.loop-esi.out w.put_sum.new.out c.if-not-has_bit.out at (omega arith) run
                (long ∙ sym run) w.out-is unset q r
                ∙ c.loop-esi.invariant.copied esi b p q r;
            count = ap (λ (xs : List ℕ). length xs) w.out-is ∙ mid_length _ _ c.loop-esi.out w.put_sum.new.out (omega arith) (long ∙ sym run) ∙ c.loop-esi.invariant.count;
            words = ap (λ (xs : List ℕ). length xs) w.row-is ∙ w.folded_row.ensures.words ∙ c.loop-esi.invariant.words;
          }
      | else-not-has_bit w ↦
          let set : bit_in c.args.heard.now c.loop-esi.esi ≡ true = sym noted ∙ sym c.has_bit.ensures ∙ w.if-not-has_bit.false in record {
            others = rw w.out-is (put_skip c.args.t c.loop-esi.esi (c.loop-esi.esi + 1) f c.args.heard.now c.loop-esi.out (omega arith) set c.loop-esi.invariant.others);
            copied = λ esi b p q r. ap (λ (xs : List ℕ). slice_index xs (c.args.t * esi + b)) w.out-is ∙ c.loop-esi.invariant.copied esi b p q r;
            count = ap (λ (xs : List ℕ). length xs) w.out-is ∙ c.loop-esi.invariant.count;
            words = ap (λ (xs : List ℕ). length xs) w.row-is ∙ c.loop-esi.invariant.words;
          }
    ]
