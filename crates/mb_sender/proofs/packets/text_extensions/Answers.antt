use Rattle.std.proofs.Common.{refl}
use Rattle.mb_base.specs.Number.{be_bytes}
use Rattle.mb_sender.proofs.packets.text_extensions.Goals as goal

pub returns : goal.returns
unfolding be_bytes
returns c = refl
