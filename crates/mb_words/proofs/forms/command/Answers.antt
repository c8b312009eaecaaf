use Rattle.std.proofs.Common.{◌∙◌, ap₂, sym, arith}
use Rattle.std.proofs.lemmas.List.Sums.{fold_more}
use Rattle.clap.specs.Words.{with_rule}
use Rattle.mb_words.specs.Forms.{nameless_app, option_rule}
use Rattle.mb_words.proofs.forms.command.Goals as goal

pub loop-form-preserved : goal.loop-form-preserved
loop-form-preserved c =
    c.in_ok-command.ensures.shape c.option.ensures.local
    ∙ (ap₂ with_rule c.loop-form.invariant c.option.ensures.rule
    ∙ sym (fold_more (λ app form. with_rule app (option_rule form)) (nameless_app c.args.name.now) c.args.forms.now c.loop-form.form-index _ (omega arith)))
