use Rattle.std.proofs.Common.{ℕ, List, ◌++◌, codes, decimal, Option, ap, ap₂, ◌∙◌}
use Rattle.mb_geom.specs.declared.desc.Scheme.{Scheme}
use Rattle.mb_fdt_text.specs.WrittenForm.{attribute, escaped, md5_attribute, oti_attributes}
use Rattle.mb_fdt_text.proofs.WriteLemmas.{eight_parts}
use Rattle.mb_fdt_text.proofs.write.put_file.Goals as goal

pub returns-clause-form : goal.returns-clause-form
returns-clause-form c =
    let d = c.args.desc.now in
    let location = c.in_ok-put_location.ensures ∙ ap (λ (l : List ℕ). c.extend_from_slice.new.self.items ++ attribute (codes "Content-Location") (escaped l)) c.location.ensures in
    let content = c.in_ok-put_number-2.ensures
    ∙ ap (λ (n : ℕ). c.put_number.new.text.items ++ attribute (codes "Content-Length") (decimal n)) (c.from.ensures ∙ c.length.ensures.exact) in
    let transfer = c.in_ok-put_number-3.ensures
    ∙ ap (λ (n : ℕ). c.put_number-2.new.text.items ++ attribute (codes "Transfer-Length") (decimal n)) (c.from-2.ensures ∙ c.length-2.ensures.exact) in
    let md5 = c.in_ok-put_md5.ensures ∙ ap (λ (m : Option (List ℕ)). c.put_number-3.new.text.items ++ md5_attribute m) c.md5.ensures in
    let coding = c.in_ok-put_coding.ensures
    ∙ ap₂ (λ (t : ℕ) (scheme : Scheme). c.put_md5.new.text.items ++ oti_attributes t scheme) c.symbol.ensures c.scheme.ensures in
    eight_parts c.args.text.now.items _ _ _ _ _ _ _ _ _ _ _ _ _ _ _ _ c.in_ok-extend_from_slice.ensures.items location c.in_ok-put_number.ensures content transfer md5 coding
    c.in_ok-extend_from_slice-2.ensures.items
