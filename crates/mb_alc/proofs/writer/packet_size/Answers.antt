use Rattle.std.proofs.Common.{arith}
use Rattle.mb_alc.specs.PacketView.{packet_seen}
use Rattle.mb_alc.proofs.WriteLemmas.{length-packet}
use Rattle.mb_alc.proofs.writer.packet_size.Goals as goal

pub returns : goal.returns
returns c = omega (
  arith,
  length-packet (packet_seen c.args.p.now) c.ext_words.ensures.tail,
  c.header_words.ensures.exact,
  c.ext_words.ensures.exact,
  c.body_size.ensures.exact,
  c.from.ensures,
)
