use Rattle.std.proofs.Common.{rules, not}
use Rattle.std.proofs.lemmas.Fn.{filter_same}
use Rattle.mb_machine.specs.Table.{is_past}
use Rattle.mb_objects.proofs.lives.end_past.Goals as goal

pub returns : goal.returns
returns c =
    filter_same _ (λ life. not (is_past c.args.clock life)) _ (λ x b f' k. search rules) c.args.lives.now.items c.retain.new.self.items c.retain.ensures.filtered
