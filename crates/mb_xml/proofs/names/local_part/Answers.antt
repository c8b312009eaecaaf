use Rattle.std.proofs.Common.{◌≡◌, ◌≢◌, ℕ, ◌+◌, ◌-◌, ◌<◌, List, length, get_or, drop, sym, ◌∙◌, subst, inl, inr, arith, get_or-drop, length-drop}
use Rattle.std.proofs.lemmas.List.{take_all}
use Rattle.std.proofs.lemmas.Bool.{cases_lt}
use Rattle.mb_xml.proofs.NameLemmas.{local_part_behind, local_part_whole}
use Rattle.mb_xml.proofs.names.local_part.Goals as goal
use Rattle.mb_xml.proofs.names.local_part.Goals.{then-byte-eq58, else-byte-eq58}

pub loop-place-preserved : goal.loop-place-preserved
loop-place-preserved c = elim c.if-byte-eq58.branch [
  | then-byte-eq58 w ↦ record {
    within = omega arith;
    same = rw w.from-is (local_part_behind c.args.whole.now c.loop-place.place c.loop-place-test.true w.if-byte-eq58.true);
    none = λ k from to. absurd (omega (arith, from, to));
  }
  | else-byte-eq58 w ↦ record {
    within = omega arith;
    same = rw w.from-is c.loop-place.invariant.same;
    none = λ k from to is. elim (cases_lt k c.loop-place.place) [
      | inl lt ↦ c.loop-place.invariant.none k (omega (arith, from)) lt is
      | inr ge ↦
          let here : k ≡ c.loop-place.place = omega (arith, to, ge) in
          w.if-byte-eq58.false (subst (λ (j : ℕ). get_or c.args.whole.now j 0 ≡ 58) here is)
    ];
  }
]

pub returns : goal.returns
returns c =
    let whole = c.args.whole.now in
    let from = c.loop-place.from in
    let rest : List ℕ = drop from whole in
    let none : (k : ℕ) → k < length rest → get_or rest k 0 ≢ 58 =
    λ k lt is. c.loop-place.invariant.none (from + k) (omega arith) (omega (arith, lt, length-drop from whole)) (sym (get_or-drop from whole k 0) ∙ is) in
    take_all (length whole - from) rest (omega (arith, length-drop from whole)) ∙ sym (local_part_whole rest none) ∙ c.loop-place.invariant.same
