-- The commands of the programs: options, and texts behind them.
use Rattle.std.specs.Prelude.{Bool, true, List, fold, Some}
use Rattle.clap.specs.Words.{App, Rule, Text, new_app, new_rule, with_rule}
use Rattle.clap.specs.Simple.{on_top}
use Rattle.clap.specs.declared.builder.action.ArgAction.TheVariants.{Append}
use Rattle.mb_words.specs.declared.forms.OptionForm.{OptionForm}

-- a command whose words have no program's name before them
abbrev pub nameless_app : Text → App
nameless_app name = on_top (λ shape. record shape { no_binary_name = true }) (new_app name)

-- an option with one text
abbrev pub option_rule : OptionForm → Rule
option_rule form = record (new_rule form.name.now) { long = Some form.name.now; required = form.is_required }

-- texts that stand behind no option's name
abbrev pub texts_rule : Text → Bool → Rule
texts_rule name are_required = record (new_rule name) { action = Some Append; required = are_required }

abbrev pub with_options : App → List OptionForm → App
with_options app forms = fold (λ app form. with_rule app (option_rule form)) app forms

-- the same, of options by their name and whether they are required
abbrev pub options_app : App → List (Text × Bool) → App
options_app app options = fold (λ app option. with_rule app (record (new_rule option.0) { long = Some option.0; required = option.1 })) app options
