use Rattle.std.proofs.Common.{[], ◌∷◌, refl, sym, ◌∙◌, arith}
use Rattle.std.proofs.lemmas.Result.{err_from_is_err_and}
use Rattle.mb_rx.proofs.Making.{Makes-nil}
use Rattle.mb_rx.proofs.ListenLemmas.{Hears-datagram, Hears-quiet, Hears-ended, Hears-broken, Hears-failed, hears-stopped, hears-ending, closed-ending}
use Rattle.mb_rx.proofs.session.hear_next.Goals as goal

pub returns-in_err-hear_datagram-in-Datagram-clause-hears :
    goal.returns-in_err-hear_datagram-in-Datagram-clause-hears
returns-in_err-hear_datagram-in-Datagram-clause-hears g c =
    let p = err_from_is_err_and c.from_residual.result c.from_residual.ensures.1 in
    hears-stopped c.args.words.now _ _ _ _ _ _ _ _ p.0 c.from_residual.result
    (Hears-datagram c.args.words.now.until c.in-Datagram.at c.in-Datagram.len _ _ _ c.in-Datagram.ensures.heard)
    c.in-Datagram.ensures.within.0 p.1 p.2 (sym c.is_closed.ensures ∙ c.if-is_closed.false) (rw c.front-bytes.ensures at c.in_err-hear_datagram-in-Datagram.ensures.made)

pub returns-in_ok-hear_datagram-in-Datagram-clause-hears :
    goal.returns-in_ok-hear_datagram-in-Datagram-clause-hears
returns-in_ok-hear_datagram-in-Datagram-clause-hears g c = record {
  records = record { at = c.in-Datagram.at; bytes = _ } ∷ [];
  taken = Hears-datagram c.args.words.now.until c.in-Datagram.at c.in-Datagram.len _ _ _ c.in-Datagram.ensures.heard;
  one = omega arith;
  in_time = (c.in-Datagram.ensures.within.0, tt);
  asked = sym c.is_closed.ensures ∙ c.if-is_closed.false;
  failed = tt;
  heard = (refl, (rw c.front-bytes.ensures at c.in_ok-hear_datagram-in-Datagram.ensures.heard));
  played = (rw c.front-bytes.ensures at c.in_ok-hear_datagram-in-Datagram.ensures.made);
}

pub returns-in-Quiet-clause-hears : goal.returns-in-Quiet-clause-hears
returns-in-Quiet-clause-hears g c = hears-ending c.args.words.now _ _ _ _ _ (sym c.is_closed.ensures ∙ c.if-is_closed.false) (Hears-quiet c.args.words.now c.next.new.buf _ _ c.in-Quiet.ensures.heard)

pub returns-in-Ended-clause-hears : goal.returns-in-Ended-clause-hears
returns-in-Ended-clause-hears g c = hears-ending c.args.words.now _ _ _ _ _ (sym c.is_closed.ensures ∙ c.if-is_closed.false) (Hears-ended c.args.words.now c.next.new.buf _ _ c.in-Ended.ensures.heard)

pub returns-in-Broken-clause-hears : goal.returns-in-Broken-clause-hears
returns-in-Broken-clause-hears g c = hears-ending c.args.words.now _ _ _ _ _ (sym c.is_closed.ensures ∙ c.if-is_closed.false) (Hears-broken c.args.words.now c.in-Broken.place c.next.new.buf _ _ c.in-Broken.ensures.heard)

pub returns-in-Failed-clause-hears : goal.returns-in-Failed-clause-hears
returns-in-Failed-clause-hears g c = record {
  records = [];
  taken = Hears-failed c.args.words.now.until c.next.new.buf _ _ c.in-Failed.ensures.heard;
  one = omega arith;
  in_time = tt;
  asked = sym c.is_closed.ensures ∙ c.if-is_closed.false;
  failed = λ air. sym c.is_closed.ensures ∙ c.if-is_closed.false;
  heard = tt;
  played = Makes-nil _;
}

pub returns-then-is_closed-clause-hears : goal.returns-then-is_closed-clause-hears
returns-then-is_closed-clause-hears g c =
    hears-ending c.args.words.now _ _ _ _ _ (sym c.is_closed.ensures ∙ c.if-is_closed.true) (closed-ending c.args.words.now _)
