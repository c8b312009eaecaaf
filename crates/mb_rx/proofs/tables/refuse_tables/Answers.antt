use Rattle.std.proofs.Common.{◌∙◌}
use Rattle.mb_rx.proofs.TableLemmas.{refused_line, refused_cut, refused_unprinted}
use Rattle.mb_rx.proofs.tables.refuse_tables.Goals as goal

pub returns-in_default-clause-refused : goal.returns-in_default-clause-refused
returns-in_default-clause-refused g c = refused_unprinted c.args.fault _ _

pub returns-in-Ok-print-clause-refused : goal.returns-in-Ok-print-clause-refused
returns-in-Ok-print-clause-refused g c =
    refused_line c.args.fault _ _ _ _ _ (c.as_str.ensures.value ∙ c.in-Ok.ensures) c.in-Ok-print.ensures.printed c.in-Ok-print.ensures.cause

pub returns-clause-refused : goal.returns-clause-refused
returns-clause-refused g c =
    refused_cut c.args.fault _ _ _ _ _ c.in-Err.status (c.as_str.ensures.value ∙ c.in-Ok.ensures) c.in-Err.ensures.printed c.in-Err.ensures.cause
