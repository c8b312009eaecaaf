use Rattle.std.proofs.Common.{refl}
use Rattle.mb_bits.proofs.XorLemmas.{xored_block}
use Rattle.mb_bits.proofs.xor.xor_block.Goals as goal

pub returns : goal.returns
returns c = xored_block _ (λ a b. refl) c.args.dst.now c.args.src.now c.requires.dst c.requires.src
