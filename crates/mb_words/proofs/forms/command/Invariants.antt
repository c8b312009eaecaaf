use Rattle.std.proofs.Common.{◌≡◌, take}
use Rattle.clap.specs.Words.{app_of}
use Rattle.mb_words.specs.Forms.{with_options, nameless_app}
use Rattle.mb_words.proofs.forms.command.Given as goal

abbrev pub invariant-loop-form : goal.invariant-loop-form
invariant-loop-form l = app_of l.command ≡ with_options (nameless_app l.name) (take l.form-index l.forms)
