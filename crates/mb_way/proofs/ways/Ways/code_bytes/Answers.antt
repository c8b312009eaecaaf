use Rattle.std.proofs.Common.{◌+◌, ◌*◌, ◌/◌, ◌≤◌, Some, sym, subst}
use Rattle.mb_rows.specs.Code.{RaptorCode}
use Rattle.mb_way.specs.Ways.{AreWaysOf}
use Rattle.mb_way.specs.Views.{ways_seen, AreCodesOf, IsTwo}
use Rattle.mb_way.proofs.BytesLemmas.{once_most}
use Rattle.mb_way.proofs.ways.Ways.code_bytes.Goals as goal

pub returns-in-Some-clause-most : goal.returns-in-Some-clause-most
returns-in-Some-clause-most c = λ d are.
    let p = c.self.inside.parts in
    let two = c.in-Some.two in
    let is : IsTwo p two = subst (AreCodesOf p) c.in-Some.is c.self.invariant.codes_are in
    let seen : AreWaysOf d (ways_seen p (Some two)) =
    subst (λ codes. AreWaysOf d (ways_seen p codes)) c.in-Some.is (subst (AreWaysOf d) (sym c.self.view_is) are) in
    let low : c.rows_of.result ≤ 4224 * ((two.longer.row.k + 63) / 64) =
    subst (λ (code : RaptorCode). c.rows_of.result ≤ 4224 * ((code.row.k + 63) / 64)) c.code.ensures c.rows_of.ensures in
    let high : c.rows_of-in-Some.result ≤ 4224 * ((two.shorter.row.k + 63) / 64) =
    subst (λ (code : RaptorCode). c.rows_of-in-Some.result ≤ 4224 * ((code.row.k + 63) / 64)) c.code-in-Some.ensures c.rows_of-in-Some.ensures in
    once_most d p two c.rows_of.result c.rows_of-in-Some.result is c.self.invariant.shorter seen low high
