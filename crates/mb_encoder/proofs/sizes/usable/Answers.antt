use Rattle.mb_encoder.proofs.OneCode.{usable_by}
use Rattle.mb_encoder.proofs.sizes.usable.Goals as goal

pub returns-clause-usable : goal.returns-clause-usable
returns-clause-usable c =
    usable_by c.args.tables.now c.args.k c.in_ok-code.code c.in_ok-found.found c.is_some.result c.in_ok-code.ensures.one c.in_ok-code.ensures.code c.in_ok-found.ensures
    c.is_some.ensures
