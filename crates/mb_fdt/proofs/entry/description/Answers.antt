use Rattle.std.proofs.Common.{◌≡◌, ℕ, List, ◌∙◌, ap}
use Rattle.mb_geom.specs.Description.{described}
use Rattle.mb_fdt_text.specs.Entry.{refusals, first_refusal, parts_of}
use Rattle.mb_fdt.specs.ValuesView.{said_of}
use Rattle.mb_fdt.specs.EntryView.{parts_by}
use Rattle.mb_fdt.proofs.DescriptionLemmas.{parts_are, fault_is, description_is, fault_is_none}
use Rattle.mb_fdt.proofs.entry.description.Goals as goal

pub returns-in-Some-clause-exact : goal.returns-in-Some-clause-exact
returns-in-Some-clause-exact c =
    let s = said_of c.args.said.now in
    fault_is (first_refusal (refusals s)) (described (parts_of s)) c.in-Some.fault c.in-Some.ensures

pub returns-in-Ok-clause-exact : goal.returns-in-Ok-clause-exact
returns-in-Ok-clause-exact c =
    let s = said_of c.args.said.now in
    let v = c.args.values.now in
    let parts : c.parts.result ≡ parts_of s =
    c.parts.ensures ∙ ap (λ (location : List ℕ). parts_by location v) c.in_ok-location.ensures.exact ∙ parts_are s v c.requires.read in
    description_is (first_refusal (refusals s)) (described (parts_of s)) c.in-Ok.desc c.in_default.ensures (c.in-Ok.ensures ∙ ap described parts)

pub returns-in-Err-clause-exact : goal.returns-in-Err-clause-exact
returns-in-Err-clause-exact c =
    let s = said_of c.args.said.now in
    let v = c.args.values.now in
    let parts : c.parts.result ≡ parts_of s =
    c.parts.ensures ∙ ap (λ (location : List ℕ). parts_by location v) c.in_ok-location.ensures.exact ∙ parts_are s v c.requires.read in
    fault_is_none (first_refusal (refusals s)) (described (parts_of s)) c.in-Err.fault c.in_default.ensures (c.in-Err.ensures ∙ ap described parts)
