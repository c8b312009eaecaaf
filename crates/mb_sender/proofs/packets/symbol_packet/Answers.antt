use Rattle.std.proofs.Common.{arith}
use Rattle.mb_sender.proofs.Fitting.{symbol_fits, code_point-most}
use Rattle.mb_sender.proofs.packets.symbol_packet.Goals as goal

pub returns-clause-fits : goal.returns-clause-fits
returns-clause-fits c =
    rw c.object_header.ensures.header
    (symbol_fits c.args.session.now c.args.toi _ c.args.sbn c.args.esi c.args.symbol.now c.object_header.ensures.tsi (omega arith)
    (rw c.code_point.ensures (code_point-most c.scheme.result)) c.requires)
