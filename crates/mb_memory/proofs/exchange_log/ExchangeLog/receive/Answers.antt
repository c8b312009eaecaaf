use Rattle.std.proofs.Common.{◌≡◌, ◌+◌, ◌-◌, min, length, take, drop, arith, refl}
use Rattle.std.specs.Option.{unwrap_or}
use Rattle.std.proofs.lemmas.Grind.{common_steps}
use Rattle.mb_memory.specs.ExchangeLog.{answer_of}
use Rattle.mb_memory.proofs.Copies.{receives_part, receives_none}
use Rattle.mb_memory.proofs.exchange_log.ExchangeLog.receive.Goals as goal
use Rattle.mb_memory.proofs.exchange_log.ExchangeLog.receive.Goals.{in-Some, in-None}

pub returns-clause-received : goal.returns-clause-received
returns-clause-received c =
    let answer_is : c.match-self.answer.now ≡ answer_of c.args.self.now.last =
    elim c.match-self.branch [
      | in-Some w ↦ rw (w.answer-is, w.answered-answer.ensures, w.in-Some.is) refl
      | in-None w ↦ rw (w.answer-is, w.in-None.is) refl
    ] in
    let place_is : c.min-place.result ≡ min (unwrap_or c.args.self.now.received 0) (length (answer_of c.args.self.now.last))
    = rw (c.unwrap_or.ensures, answer_is) at c.min-place.ensures in
    let count_is : c.min-count.result ≡ min (length c.args.buf.now) (length (answer_of c.args.self.now.last) - c.min-place.result)
    = rw answer_is at c.min-count.ensures in
    let part_is : c.copy_from_slice.new.self ≡ take (c.min-place.result + c.min-count.result - c.min-place.result) (drop c.min-place.result (answer_of c.args.self.now.last))
    = rw answer_is at c.copy_from_slice.ensures.after in
    record {
      exchanges = refl;
      waiting = receives_part _ _ _ _ _ _ _ place_is count_is part_is;
      end = λ none room. receives_none _ _ _ _ _ _ _ place_is count_is part_is none (grind (arith, common_steps, room, part_is, count_is));
      begun = refl;
      coming = refl;
    }
