use Rattle.std.proofs.Common.{ℕ, List, ap, ◌∙◌}
use Rattle.mb_xml.specs.CharactersView.{left}
use Rattle.mb_xml.specs.Value.{bytes_of}
use Rattle.mb_xml.proofs.EncodedLemmas.{bytes_long}
use Rattle.mb_xml.proofs.encoded.base64_in.Goals as goal

pub returns-in_err-count : goal.returns-in_err-count
returns-in_err-count g c =
    let n : ℕ = g.row.N in
    c.from_residual.ensures ∙ bytes_long (left c.new.result) n c.requires c.in_err-count.ensures.long ∙ ap (λ (s : List ℕ). bytes_of n s) c.new.ensures
