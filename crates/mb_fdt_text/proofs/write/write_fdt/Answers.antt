use Rattle.std.proofs.Common.{rules, ◌≡◌, ap, sym, subst, ◌∙◌}
use Rattle.mb_fdt_text.specs.Says.{IsFdt}
use Rattle.mb_fdt_text.specs.Reader.{fdt_of}
use Rattle.mb_fdt_text.specs.WrittenForm.{written_form, AreGood, IsWritable}
use Rattle.mb_fdt_text.proofs.WrittenTexts.{written_text, written_read}
use Rattle.mb_fdt_text.proofs.write.write_fdt.Goals as goal

pub returns-clause-text : goal.returns-clause-text
unfolding written_form
returns-clause-text c = λ limits.
    let f = c.args.fdt.now in
    let text : c.extend_from_slice-3.new.self.items ≡ written_form f = search rules in
    let is : IsWritable f = record { described = c.requires.described; limits = limits; good = subst AreGood c.as_slice.ensures c.in_ok-put_entries.ensures.good } in
    subst (λ t. IsFdt t f) (sym text) (written_text f is)

pub returns-clause-read_back : goal.returns-clause-read_back
unfolding written_form
returns-clause-read_back c = λ limits.
    let f = c.args.fdt.now in
    let text : c.extend_from_slice-3.new.self.items ≡ written_form f = search rules in
    let is : IsWritable f = record { described = c.requires.described; limits = limits; good = subst AreGood c.as_slice.ensures c.in_ok-put_entries.ensures.good } in
    ap fdt_of text ∙ written_read f is
