use Rattle.std.proofs.Common.{ℕ, List, ◌++◌, codes, decimal, ap, ◌∙◌}
use Rattle.base64.specs.Engines.{standard}
use Rattle.base64.specs.GeneralPurpose.{encode_of}
use Rattle.mb_fdt_text.specs.WrittenForm.{attribute}
use Rattle.mb_fdt_text.proofs.WriteLemmas.{three_parts}
use Rattle.mb_fdt_text.proofs.write.put_coding.Goals as goal

pub returns-in_ok-put_number-in-NoCode-3 : goal.returns-in_ok-put_number-in-NoCode-3
returns-in_ok-put_number-in-NoCode-3 c =
    let block = c.in_ok-put_number-in-NoCode-2.ensures
    ∙ ap (λ (n : ℕ). c.put_number.new.text.items ++ attribute (codes "FEC-OTI-Maximum-Source-Block-Length") (decimal n)) c.from.ensures in
    let symbol = c.in_ok-put_number-in-NoCode-3.ensures
    ∙ ap (λ (n : ℕ). c.put_number-in-NoCode.new.text.items ++ attribute (codes "FEC-OTI-Encoding-Symbol-Length") (decimal n)) c.from-in-NoCode.ensures in
    rw c.in-NoCode.is (three_parts c.args.text.now.items _ _ _ _ _ _ c.in_ok-put_number-in-NoCode.ensures block symbol)

pub returns-in_ok-put_base64-in-Raptor : goal.returns-in_ok-put_base64-in-Raptor
returns-in_ok-put_base64-in-Raptor c =
    let symbol = c.in_ok-put_number-in-Raptor-2.ensures
    ∙ ap (λ (n : ℕ). c.put_number-in-Raptor.new.text.items ++ attribute (codes "FEC-OTI-Encoding-Symbol-Length") (decimal n)) c.from-in-Raptor.ensures in
    let info = c.in_ok-put_base64-in-Raptor.ensures
    ∙ ap (λ (bytes : List ℕ). c.put_number-in-Raptor-2.new.text.items ++ attribute (codes "FEC-OTI-Scheme-Specific-Info") (encode_of standard bytes)) c.info_bytes.ensures in
    rw c.in-Raptor.is (three_parts c.args.text.now.items _ _ _ _ _ _ c.in_ok-put_number-in-Raptor.ensures symbol info)
