use Rattle.std.proofs.Common.{rules, inr}
use Rattle.mb_memory.specs.MemLinks.{StopsTelling}
use Rattle.mb_memory.proofs.mem_links.MemLinksLinks.connect.Goals as goal

pub returns-then-is_err-clause-made_none : goal.returns-then-is_err-clause-made_none
returns-then-is_err-clause-made_none c =
    let stops : StopsTelling c.args.self.now c.stop_telling.new.self = record {
      complete = c.stop_telling.ensures.complete;
      refused = rw (c.stop_telling.ensures.plan, c.call.ensures.counted) (search rules);
      traffic = rw c.stop_telling.ensures.log (search rules);
    } in
    inr stops

pub returns-then-is_err-clause-calls : goal.returns-then-is_err-clause-calls
returns-then-is_err-clause-calls c = rw c.stop_telling.ensures.plan (record {
  number = search rules;
  failing = search rules;
  planned = λ h. search rules;
  counted = λ h. search rules;
  other = λ none. absurd (none (search rules));
})

pub returns-then-is_err-2-clause-made_none : goal.returns-then-is_err-2-clause-made_none
returns-then-is_err-2-clause-made_none c =
    let stops : StopsTelling c.args.self.now c.stop_telling-then-is_err-2.new.self = record {
      complete = c.stop_telling-then-is_err-2.ensures.complete;
      refused = rw (c.stop_telling-then-is_err-2.ensures.plan, c.call.ensures.counted) (search rules);
      traffic = rw c.stop_telling-then-is_err-2.ensures.log (search rules);
    } in
    inr stops
