use Rattle.std.proofs.Common.{arith}
use Rattle.mb_bits.proofs.BitLemmas.{flips, mask_fits}
use Rattle.mb_bits.proofs.row.flip_bit.Goals as goal

pub returns : goal.returns
returns c = flips c.args.words.now c.args.place _ (omega arith) (mask_fits c.args.place)
