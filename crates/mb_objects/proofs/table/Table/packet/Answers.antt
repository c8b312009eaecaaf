use Rattle.std.proofs.Common.{refl, ◌∙◌}
use Rattle.mb_alc.specs.PacketView.{packet_seen}
use Rattle.mb_machine.specs.Table.{Table}
use Rattle.mb_objects.proofs.StepLemmas.{packet-heard}
use Rattle.mb_objects.proofs.table.Table.packet.Goals as goal

pub returns : goal.returns
returns c =
    let i = c.self.inside in
    let t : Table = record { tsi = i.tsi; tables = i.codes; clock = i.clock; closed = i.closed; slots = i.window; lives = i.lives; expired = i.expired } in
    packet-heard (packet_seen c.args.packet.now) c.args.at c.args.self.now t c.hear_packet.new.codes c.hear_packet.new.window c.hear_packet.new.lives c.in_ok-happened.happened c.closes.result
    (c.self.view_is ∙ c.tick.ensures) c.hear_packet.ensures.tables (c.in_ok-happened.ensures.step t refl refl refl refl) c.closes.ensures
