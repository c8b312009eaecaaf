use Rattle.std.proofs.Common.{rules, not, ap, ◌∙◌}
use Rattle.std.proofs.lemmas.Fn.{filter_same}
use Rattle.mb_window.specs.Window.{is_expired, expire}
use Rattle.mb_window.proofs.window.Window.expire.Goals as goal

pub returns : goal.returns
returns c =
    filter_same _ (λ slot. not (is_expired c.args.clock slot.state)) _ (λ x b f' k. search rules) c.self.inside.slots.items c.retain.new.self.items c.retain.ensures.filtered
    ∙ ap (expire c.args.clock) c.self.view_is
