use Rattle.std.proofs.Common.{◌≡◌, length, filter}
use Rattle.mb_life.specs.Life.{is_ready}
use Rattle.mb_rx.specs.Receive.{outputs}
use Rattle.mb_rx.proofs.HandOut.{IsHandedSoFar}
use Rattle.mb_rx.proofs.session.hand_out.Given as goal

abbrev pub decreases-loop : goal.decreases-loop
decreases-loop g l = length (filter is_ready l.table.lives)

abbrev pub invariant-loop : goal.invariant-loop
invariant-loop g l = record {
  handed : IsHandedSoFar l.initial.table l.table
      (outputs (g.S.Store.files l.initial.store) (g.S.Store.faults l.initial.store) (g.O.Sink.written l.initial.out) (g.O.Sink.faults l.initial.out))
      (outputs (g.S.Store.files l.store) (g.S.Store.faults l.store) (g.O.Sink.written l.out) (g.O.Sink.faults l.out));
  same_store : g.S.Store.made l.store ≡ g.S.Store.made l.initial.store;
  same_out : g.O.Sink.made l.out ≡ g.O.Sink.made l.initial.out;
}
