use Rattle.std.proofs.Common.{arith}
use Rattle.mb_fdt_text.proofs.WriteLemmas.{info_is}
use Rattle.mb_fdt_text.proofs.write.info_bytes.Goals as goal

pub returns : goal.returns
returns c = info_is c.args.z c.args.n c.args.al (omega arith)
