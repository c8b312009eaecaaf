use Rattle.std.proofs.Common.{ap, ◌∙◌}
use Rattle.mb_machine.specs.Table.{Table, tick}
use Rattle.mb_objects.proofs.TickLemmas.{ticks}
use Rattle.mb_objects.proofs.table.Table.tick.Goals as goal

pub returns : goal.returns
returns c =
    let i = c.self.inside in
    let t : Table = record { tsi = i.tsi; tables = i.codes; clock = i.clock; closed = i.closed; slots = i.window; lives = i.lives; expired = i.expired } in
    ticks t c.args.at c.forget_where_fewer.new.codes c.max-self-inside.result c.expire.new.self c.expire-2.new.self c.saturating_add-self-inside.result c.expire-2.result
    c.forget_where_fewer.ensures c.max-self-inside.ensures c.expire.ensures c.expire-2.ensures.left c.expire-2.ensures.count c.saturating_add-self-inside.ensures ∙ ap (tick c.args.at) c.self.view_is
