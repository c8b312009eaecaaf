use Rattle.std.proofs.Common.{ap}
use Rattle.mb_rows.specs.Code.{RaptorCode}
use Rattle.mb_rows.proofs.CodeLemmas.{lt_is}
use Rattle.mb_rows.proofs.code.Code.lt_row.Goals as goal

pub returns-clause-row : goal.returns-clause-row
returns-clause-row c =
    lt_is c.args.self.now c.args.esi _ c.self.inside.row.lp _ _ c.triple.ensures.triple c.l.ensures.sum
    (ap (λ (v : RaptorCode). v.row.lp) c.self.view_is) c.put_lt_row.ensures.row
