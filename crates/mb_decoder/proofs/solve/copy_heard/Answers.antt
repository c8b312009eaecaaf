use Rattle.std.proofs.Common.{◌≡◌, ℕ, ◌+◌, ◌-◌, ◌*◌, List, length, take, drop, slice_index, ap, sym, refl, ◌∙◌, arith}
use Rattle.std.proofs.lemmas.Grind.{common_steps}
use Rattle.mb_elim.proofs.RowsInWords.{row_within}
use Rattle.mb_decoder.proofs.Middle.{copied_more, copied_same, mid_own, mid_other, mid_length, run_byte}
use Rattle.mb_decoder.proofs.solve.copy_heard.Goals.{then-esi-from+then-not-has_bit, else-esi-from}
use Rattle.mb_decoder.proofs.solve.copy_heard.Goals as goal

pub loop-n-preserved : goal.loop-n-preserved
loop-n-preserved c =
    let all : length c.loop-n.out ≡ c.args.t * c.args.k = c.loop-n.invariant.count ∙ c.requires.out in
    elim c.if-esi-from.branch [
      | then-esi-from+then-not-has_bit w ↦
          let room = row_within c.args.t c.from-esi.result c.args.k (omega (arith, w.if-esi-from.true, c.from.ensures)) in
          let from_room = row_within c.args.t c.loop-n.n c.args.k (omega arith) in
          let k : c.args.t * c.from-esi.result + c.args.t - c.args.t * c.from-esi.result ≡ c.args.t = omega arith in
          let from_k : c.args.t * c.loop-n.n + c.args.t - c.args.t * c.loop-n.n ≡ c.args.t = omega arith in
          let symbols = c.requires.symbols in
          let run : length (take (c.args.t * c.loop-n.n + c.args.t - c.args.t * c.loop-n.n) (drop (c.args.t * c.loop-n.n) c.args.symbols.now)) ≡ c.args.t = grind (arith, common_steps) in
          let put : w.copy_from_slice.new.self ≡ take (c.args.t * c.loop-n.n + c.args.t - c.args.t * c.loop-n.n) (drop (c.args.t * c.loop-n.n) c.args.symbols.now) =
          w.copy_from_slice.ensures.after in
          let long : length w.copy_from_slice.new.self ≡ c.args.t = ap (λ (xs : List ℕ). length xs) put ∙ run in record {
            copied = rw (w.heard-is, w.out-is) (copied_more c.args.t c.args.k c.loop-n.n (c.loop-n.n + 1) c.from-esi.result c.args.esis.now c.args.symbols.now _ _ c.loop-n.out _ (omega arith)
                (sym c.from-esi.ensures) w.flip_bit.ensures
                (λ b q. mid_own c.args.t (c.args.t * c.from-esi.result) _ c.from-esi.result b c.loop-n.out _ refl (omega arith) long q
                ∙ ap (λ (xs : List ℕ). slice_index xs b) put ∙ run_byte c.args.t (c.args.t * c.loop-n.n) _ c.loop-n.n b c.args.symbols.now refl from_k q)
                (λ i b other q. mid_other c.args.t (c.args.t * c.from-esi.result) _ c.from-esi.result i b c.loop-n.out _ refl (omega arith) k (long ∙ sym k) other q)
                c.loop-n.invariant.copied);
            words = ap (λ (xs : List ℕ). length xs) w.heard-is ∙ w.flip_bit.ensures.words ∙ c.loop-n.invariant.words;
            count = ap (λ (xs : List ℕ). length xs) w.out-is ∙ mid_length _ _ c.loop-n.out _ (omega arith) (long ∙ sym k) ∙ c.loop-n.invariant.count;
          }
      | else-esi-from w ↦ record {
        copied = rw (w.heard-is, w.out-is) (copied_same c.args.t c.args.k c.loop-n.n (c.loop-n.n + 1) c.args.esis.now c.args.symbols.now c.loop-n.heard c.loop-n.out (omega arith)
            c.loop-n.invariant.copied);
        words = ap (λ (xs : List ℕ). length xs) w.heard-is ∙ c.loop-n.invariant.words;
        count = ap (λ (xs : List ℕ). length xs) w.out-is ∙ c.loop-n.invariant.count;
      }
    ]
