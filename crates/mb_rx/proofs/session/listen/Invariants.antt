use Rattle.std.proofs.Common.{◌≡◌, ◌≤◌}
use Rattle.mb_rx.specs.Receive.{outputs}
use Rattle.mb_rx.specs.Listening.{IsHeardSoFar}
use Rattle.mb_rx.specs.ValueView.{seen}
use Rattle.mb_rx.proofs.session.listen.Given as goal

abbrev pub invariant-loop-datagrams : goal.invariant-loop-datagrams
invariant-loop-datagrams g l = record {
  heard : IsHeardSoFar l.words l.datagrams (g.A.Air.broadcast l.initial.air) (g.A.Air.broadcast l.air) (seen l.initial.receiver) (seen l.receiver)
      (outputs (g.S.Store.files l.initial.store) (g.S.Store.faults l.initial.store) (g.O.Sink.written l.initial.out) (g.O.Sink.faults l.initial.out))
      (outputs (g.S.Store.files l.store) (g.S.Store.faults l.store) (g.O.Sink.written l.out) (g.O.Sink.faults l.out));
  air_later : g.A.Air.faults l.initial.air ≤ g.A.Air.faults l.air;
  same_air : g.A.Air.made l.air ≡ g.A.Air.made l.initial.air;
  same_store : g.S.Store.made l.store ≡ g.S.Store.made l.initial.store;
  same_out : g.O.Sink.made l.out ≡ g.O.Sink.made l.initial.out;
}
