use Rattle.std.proofs.Common.{◌++◌, ap, ◌∙◌}
use Rattle.mb_lct.proofs.FieldLemmas.{be_bytes-last}
use Rattle.mb_lct.proofs.field.put_number.Goals as goal

pub returns-clause-appended : goal.returns-clause-appended
returns-clause-appended c =
    let before = c.args.out.now.items in
    c.in_ok-extend_from_slice.ensures.items
    ∙ ap (λ bytes. before ++ bytes) (be_bytes-last c.to_be_bytes.result c.args.width c.args.number c.requires c.to_be_bytes.ensures)
