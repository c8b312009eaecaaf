use Rattle.std.proofs.Common.{IsUtf8, arith}
use Rattle.std.proofs.lemmas.Grind.{common_steps}
use Rattle.std.proofs.lemmas.List.Elements.{All-push}
use Rattle.mb_files.proofs.files_tests.locations.Goals as goal

pub loop-location-preserved : goal.loop-location-preserved
loop-location-preserved c = record {
  texts = rw c.in_ok-push.ensures.items (All-push IsUtf8 _ _ c.loop-location.invariant.texts c.in_ok-text.ensures);
  number = grind (arith, common_steps);
}
