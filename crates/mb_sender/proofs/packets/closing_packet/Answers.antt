use Rattle.std.proofs.Common.{arith}
use Rattle.mb_sender.proofs.Fitting.{fits}
use Rattle.mb_sender.proofs.packets.closing_packet.Goals as goal

pub returns-clause-fits : goal.returns-clause-fits
returns-clause-fits c = fits _ (omega arith) (omega arith) (omega arith) tt tt tt (omega arith) (omega arith)
