use Rattle.std.proofs.Common.{◌≡◌, ◌<◌, length, Some, None, sym, ◌∙◌, arith}
use Rattle.std.proofs.lemmas.Bool.{eqb-false}
use Rattle.mb_xml.specs.ValueStateView.{radix_of}
use Rattle.mb_xml.proofs.ReferenceLemmas.{digits_below, character_none, character_is, scalar_some}
use Rattle.mb_xml.proofs.references.character.Goals as goal

pub returns-in_default : goal.returns-in_default
returns-in_default c =
    let none : digits_below (radix_of c.args.radix) c.args.digits.now ≡ None = rw (← c.base.ensures.exact) (sym (rw c.from.ensures at c.in_default.ensures)) in
    sym (character_none (radix_of c.args.radix) c.args.digits.now none)

pub returns : goal.returns
returns c =
    let is : digits_below (radix_of c.args.radix) c.args.digits.now ≡ Some c.in-Some.number = rw (← c.base.ensures.exact) (sym (rw c.from.ensures at c.in-Some.ensures)) in
    let some : 0 < length c.args.digits.now = omega (arith, eqb-false (length c.args.digits.now) 0 (sym c.if-is_empty.ensures)) in
    let found = scalar_some c.in-Some.number c.from_u32.result (sym c.if-not-is_character.ensures) c.from_u32.ensures.succeeds c.from_u32.ensures.value in
    let character = character_is (radix_of c.args.radix) c.in-Some.number c.args.digits.now some is in
    found ∙ sym (rw (sym c.if-not-is_character.ensures) at character)
