use Rattle.std.proofs.Common.{subst, sym, ◌∙◌}
use Rattle.mb_tables.specs.Tables.{RaptorTables}
use Rattle.mb_machine.specs.Table.{Table}
use Rattle.mb_objects.specs.Takes.{TakesOut}
use Rattle.mb_objects.proofs.ReadyLemmas.{taken-out}
use Rattle.mb_objects.proofs.table.Table.take.Goals as goal

pub returns : goal.returns
returns g c =
    let i = c.self.inside in
    let old : Table = record { tsi = i.tsi; tables = i.codes; clock = i.clock; closed = i.closed; slots = i.window; lives = i.lives; expired = i.expired } in
    subst (λ (tables : RaptorTables). TakesOut c.args.toi c.args.self.now (record old { tables = tables; lives = c.take.new.self }) c.in-Ok.taken) (sym (c.forget_unused.ensures ∙ c.tell.ensures))
    (subst (λ (t : Table). TakesOut c.args.toi t (record old { lives = c.take.new.self }) c.in-Ok.taken) c.self.view_is
    (taken-out c.args.toi old c.take.new.self c.in-Some.place c.in-Ok.taken c.in-Some.ensures.within c.in-Some.ensures.at c.in-Ok.ensures.taken c.in-Ok.ensures.once c.in-Ok.ensures.left))
