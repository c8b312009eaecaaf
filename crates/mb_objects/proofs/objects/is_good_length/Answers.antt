use Rattle.mb_objects.proofs.ReasonLemmas.{some-length}
use Rattle.mb_objects.proofs.objects.is_good_length.Goals as goal

pub tail-requires : goal.tail-requires
tail-requires c = some-length c.args.desc.now c.args.body.now.sbn c.requires.good c.requires.block
