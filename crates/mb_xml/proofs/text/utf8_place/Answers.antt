use Rattle.std.proofs.Common.{refl, ap, ◌∙◌, Some, inl, inr}
use Rattle.std.specs.Str.{is_utf8}
use Rattle.std.proofs.lemmas.Bool.{cases_Bool}
use Rattle.std.proofs.lemmas.Str.{IsUtf8-from_is_utf8, is_utf8-from_IsUtf8}
use Rattle.mb_xml.proofs.text.utf8_place.Goals as goal

pub returns-in-Ok-clause-exact : goal.returns-in-Ok-clause-exact
returns-in-Ok-clause-exact c = rw (is_utf8-from_IsUtf8 c.args.text.now (c.in-Ok.ensures.cases.1)) refl

pub returns-in-Err-clause-exact : goal.returns-in-Err-clause-exact
returns-in-Err-clause-exact c = elim (cases_Bool (is_utf8 c.args.text.now)) [
  | inl text ↦ absurd (c.in-Err.ensures.cases.0 (IsUtf8-from_is_utf8 c.args.text.now text))
  | inr other ↦ rw other (ap Some (c.valid_up_to.ensures ∙ c.in-Err.ensures.valid_len))
]
