use Rattle.std.proofs.Common.{◌≡◌, ℕ, ◌+◌, ◌-◌, List, ◌++◌, length, take, drop, Option, unwrap_or, sym, ◌∙◌, ap, ap₂, arith, length-drop}
use Rattle.std.specs.Char.{encode_utf8}
use Rattle.std.proofs.lemmas.List.{take_all}
use Rattle.mb_xml.specs.Reference.{referred, replaced}
use Rattle.mb_xml.proofs.ReferenceLemmas.{reference_at, reference_none, replaced_nil}
use Rattle.mb_xml.proofs.characters.CharacterBytes.behind_ampersand.Goals as goal

pub returns-in_default-clause-exact : goal.returns-in_default-clause-exact
returns-in_default-clause-exact c = c.new.ensures ∙ replaced_nil ∙ sym (reference_none c.args.bytes.now c.in_default.ensures.none)

pub returns-in_default-clause-spent : goal.returns-in_default-clause-spent
returns-in_default-clause-spent c = λ _. c.new.ensures ∙ replaced_nil

pub returns-clause-exact : goal.returns-clause-exact
returns-clause-exact c =
    let bytes = c.args.bytes.now in
    let place = c.in-Some.place in
    let rest : List ℕ = drop (place + 1) bytes in
    let rest_is : take (length bytes - (place + 1)) rest ≡ rest = take_all (length bytes - (place + 1)) rest (omega (arith, length-drop (place + 1) bytes)) in
    let at = reference_at bytes place c.in-Some.ensures.within c.in-Some.ensures.there c.in-Some.ensures.first in
    let character : c.unwrap_or.result ≡ unwrap_or (referred (take place bytes)) 0 = c.unwrap_or.ensures ∙ ap (λ (r : Option ℕ). unwrap_or r 0) c.referred.ensures in
    ap₂ (λ (a b : List ℕ). a ++ b) (c.encoded-count.ensures.exact ∙ ap encode_utf8 character) (ap replaced rest_is) ∙ sym at
