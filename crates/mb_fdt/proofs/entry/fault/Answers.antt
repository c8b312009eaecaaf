use Rattle.std.proofs.Common.{◌≡◌, ℕ, List, [], Option, unwrap_or, option_map, Result, sym, ◌∙◌, ap}
use Rattle.std.specs.Result.{result_err}
use Rattle.mb_geom.specs.Description.{Description, described}
use Rattle.mb_geom.specs.declared.desc.DescParts.{DescParts}
use Rattle.mb_geom.specs.declared.desc.DescFault.{DescFault}
use Rattle.mb_fdt_text.specs.declared.fdt.FileFault.{FileFault}
use Rattle.mb_fdt_text.specs.declared.fdt.FileFault.TheVariants.{Desc}
use Rattle.mb_fdt_text.specs.Entry.{unless, parts_of}
use Rattle.mb_fdt.specs.ValuesView.{said_of}
use Rattle.mb_fdt.specs.EntryView.{parts_by, fault_of}
use Rattle.mb_fdt.proofs.DescriptionLemmas.{parts_are, same_fault, err_of_description}
use Rattle.mb_fdt.proofs.entry.fault.Goals as goal
use Rattle.mb_fdt.proofs.entry.fault.Goals.{in-Ok, in-Err}

pub returns : goal.returns
returns c =
    let s = said_of c.args.said.now in
    let v = c.args.values.now in
    let nowhere : c.from_vec-nowhere.result ≡ [] = c.from_vec-nowhere.ensures ∙ c.new.ensures.items in
    let found : c.new-2.result ≡ described (parts_by [] v) =
    c.new-2.ensures ∙ ap described (c.parts.ensures ∙ ap (λ (location : List ℕ). parts_by location v) nowhere) in
    let fault_by = λ (d : Result Description DescFault). option_map Desc (result_err d) in
    let whole : fault_of s ≡ fault_by c.new-2.result =
    ap (λ (refused : Option FileFault). result_err (unless refused (described (parts_of s)))) (sym c.in_default.ensures)
    ∙ err_of_description (described (parts_of s))
    ∙ ap (λ (p : DescParts). fault_by (described p)) (sym (parts_are s v c.requires))
    ∙ ap (λ (fault : Option DescFault). option_map Desc fault) (sym (same_fault [] (unwrap_or s.location []) v))
    ∙ ap fault_by (sym found) in
    elim c.match-new.branch [
      | in-Ok w ↦ w.result-is ∙ sym (whole ∙ ap fault_by w.in-Ok.is)
      | in-Err w ↦ w.result-is ∙ sym (whole ∙ ap fault_by w.in-Err.is)
    ]
