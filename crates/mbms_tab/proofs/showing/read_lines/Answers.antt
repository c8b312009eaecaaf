use Rattle.std.proofs.Common.{None, refl, ◌∙◌, arith}
use Rattle.std.proofs.lemmas.Result.{err_from_is_err_and}
use Rattle.mb_base.specs.TraceReader.{ahead_of, held_of, holds_record}
use Rattle.mbms_tab.specs.Steps.{ahead_by}
use Rattle.mbms_tab.proofs.ShowLemmas.{so_far-none, so_far-next, read-at_end, read-at_limit, read-unprinted, read-stopped}
use Rattle.mbms_tab.proofs.showing.read_lines.Goals as goal

pub loop-init : goal.loop-init
loop-init g c = record {
  read = so_far-none _ _ _ c.requires.none;
  read_faults = refl;
  print_faults = refl;
  same_src = refl;
  same_out = refl;
}

pub returns-in_err-print_before_read-clause-read :
    goal.returns-in_err-print_before_read-clause-read
returns-in_err-print_before_read-clause-read g c =
    let p = err_from_is_err_and c.from_residual.result c.from_residual.ensures.1 in
    read-unprinted (holds_record c.loop.reader) c.loop.counter _ _ _ _ _ _ _ _ c.in_err-print_before_read.field-0.0 p.0 c.from_residual.result
    c.loop.invariant.read c.loop-test.true c.in_err-print_before_read.ensures.printed p.1 p.2

pub returns-in_err-broken-clause-read : goal.returns-in_err-broken-clause-read
returns-in_err-broken-clause-read g c =
    let p = err_from_is_err_and c.from_residual-in_err-broken.result c.from_residual-in_err-broken.ensures.1 in
    read-stopped (holds_record c.loop.reader) c.in_ok-print_before_read.field-0 c.loop.counter _ _ (ahead_by (held_of c.gather_next.new.reader) (g.S.Source.left c.gather_next.new.src) (ahead_of c.gather_next.new.reader None (g.S.Source.left c.gather_next.new.src))) _ _ _ _ _ _ _ c.in_err-broken.field-0.0 p.0 c.from_residual-in_err-broken.result
    c.loop.invariant.read c.loop-test.true c.in_ok-print_before_read.ensures.printed c.in_err-broken.ensures.next p.1 p.2

pub returns-in-Over-clause-read : goal.returns-in-Over-clause-read
returns-in-Over-clause-read g c =
    read-at_end (holds_record c.loop.reader) c.in_ok-print_before_read.field-0 c.loop.counter _ _ _ _ _ _ (g.S.Source.left c.gather_next.new.src) _ _ _ c.in_ok-broken.field-0 c.in-Over.broken
    c.loop.invariant.read c.loop-test.true c.in_ok-print_before_read.ensures.printed c.in-Over.is c.in_ok-broken.ensures.next

pub loop-preserved : goal.loop-preserved
loop-preserved g c =
    let kept = c.loop.invariant in
    let print = c.in_ok-print_before_read.ensures in
    let next = c.in_ok-broken.ensures in record {
      read = so_far-next (holds_record c.loop.reader) c.in_ok-print_before_read.field-0 c.loop.counter _ _ _ _ _ _ (g.S.Source.left c.gather_next.new.src) _ _ _ c.in_ok-broken.field-0 kept.read print.printed c.in_default.is next.next;
      read_faults = next.cause.kept ∙ kept.read_faults;
      print_faults = print.cause.kept ∙ kept.print_faults;
      same_src = next.same ∙ kept.same_src;
      same_out = print.same ∙ kept.same_out;
    }

pub returns-clause-read : goal.returns-clause-read
returns-clause-read g c =
    read-at_limit c.loop.counter _ _ _ _ _ c.loop.invariant.read (omega (arith, c.loop-test.false, c.loop.auto.counter-end))
