use Rattle.std.proofs.Common.{refl}
use Rattle.mb_way.proofs.CodeLemmas.{code_is}
use Rattle.mb_way.proofs.ShareLemmas.{shared_is, shared_row, refused_row}
use Rattle.mb_way.proofs.way.code_for.Goals as goal

pub returns-in-Ok-clause-code : goal.returns-in-Ok-clause-code
returns-in-Ok-clause-code c =
    shared_is c.args.tables.now c.args.k c.in-Ok.code c.share.result (code_is c.args.tables.now c.args.k c.in-Ok.code c.rows-rows.ensures.tables c.in-Ok.ensures.limits c.in-Ok.ensures.code) c.share.ensures.code

pub returns-in-Ok-clause-no_row : goal.returns-in-Ok-clause-no_row
returns-in-Ok-clause-no_row c =
    shared_row c.args.tables.now c.args.k c.in-Ok.code c.share.result (code_is c.args.tables.now c.args.k c.in-Ok.code c.rows-rows.ensures.tables c.in-Ok.ensures.limits c.in-Ok.ensures.code) c.share.ensures.memory

pub returns-in-Err-clause-no_row : goal.returns-in-Err-clause-no_row
returns-in-Err-clause-no_row c = refused_row c.args.tables.now c.args.k c.in-Err.fault c.new.result _ c.in-Err.is refl c.new.ensures.no_row
