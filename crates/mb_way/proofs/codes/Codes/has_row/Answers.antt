use Rattle.std.proofs.Common.{◌≡◌, true, false, ap, sym, subst}
use Rattle.std.specs.Prelude.{is_some}
use Rattle.mb_tables.specs.Tables.{RaptorTables}
use Rattle.mb_way.specs.Way.{code_of}
use Rattle.mb_way.proofs.CodeLemmas.{code_some, no_code_of}
use Rattle.mb_way.proofs.codes.Codes.has_row.Goals as goal

pub returns-in-Some : goal.returns-in-Some
returns-in-Some c =
    let found = c.in-Some.ensures.found in
    subst (λ (t : RaptorTables). true ≡ is_some (code_of t c.args.k)) c.self.view_is
    (ap is_some (sym (code_some c.self.inside.tables c.args.k c.in-Some.field-0 c.row.ensures.tables found.0 found.1)))

pub returns-in-None : goal.returns-in-None
returns-in-None c =
    subst (λ (t : RaptorTables). false ≡ is_some (code_of t c.args.k)) c.self.view_is
    (ap is_some (sym (no_code_of c.self.inside.tables c.args.k c.in-None.ensures.none)))
