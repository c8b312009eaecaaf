use Rattle.std.proofs.Common.{ℕ, List, ◌++◌, None, take, string_bytes, refl, ap, ◌∙◌}
use Rattle.mb_base.specs.TraceReader.{held_of}
use Rattle.mbms_tab.specs.Lines.{record_line}
use Rattle.mbms_tab.proofs.ShowLemmas.{taken-datagram, unread-failed}
use Rattle.mbms_tab.proofs.showing.gather_next.Goals as goal

pub returns-in_ok-push_record-in-Datagram-clause-next :
    goal.returns-in_ok-push_record-in-Datagram-clause-next
returns-in_ok-push_record-in-Datagram-clause-next g c = (
  record { at = c.in-Datagram.at; bytes = take c.in-Datagram.len c.next.new.buf },
  taken-datagram 18446744073709551615 c.in-Datagram.at c.in-Datagram.len c.next.new.buf _ _ (c.in-Datagram.ensures.heard None) c.in-Datagram.ensures.given,
  c.in_ok-push_record-in-Datagram.ensures
      ∙ ap (λ (datagram : List ℕ). string_bytes c.args.lines.now ++ record_line (record { at = c.in-Datagram.at; bytes = datagram })) c.front.ensures,
)

pub returns-in-Failed-clause-next : goal.returns-in-Failed-clause-next
returns-in-Failed-clause-next g c =
    let none = c.in-Failed.ensures.failed refl in
    record {
      none_held = none.0;
      part = held_of c.next.new.self;
      none_came = none.1;
      kept = unread-failed c.next.new.buf _ _ c.in-Failed.ensures.given;
    }
