use Rattle.std.proofs.Common.{◌≡◌, Some, sym, subst, ◌∙◌}
use Rattle.std.specs.List.{AllByRecursion}
use Rattle.mb_tables.specs.Tables.{RaptorTables}
use Rattle.mb_way.specs.Way.{Way.NoCode, IsWay, code_of}
use Rattle.mb_way.specs.Ways.{AreWaysOf}
use Rattle.mb_way.proofs.SizeLemmas.{sizes-within}
use Rattle.mb_way.proofs.TwoSizes.{are_two, raptor_ways, raptor_fit, plain_fit}
use Rattle.mb_way.proofs.codes.Codes.ways.Goals as goal

pub no_code-requires-clause-each : goal.no_code-requires-clause-each
no_code-requires-clause-each c =
    subst (AllByRecursion (λ k. IsWay (NoCode k))) (sym c.parts-parts.ensures.sizes) (sizes-within c.args.desc.now c.length-length.ensures.good)

pub code-requires : goal.code-requires
code-requires c = record {
  limits = (are_two c.args.desc.now c.parts-parts.result c.in-Raptor.z c.in-Raptor.n c.in-Raptor.al c.length-length.ensures.good
      (sym c.scheme.ensures ∙ c.in-Raptor.is) c.parts-parts.ensures.exact).long;
}

pub code-requires-in-Raptor : goal.code-requires-in-Raptor
code-requires-in-Raptor c = record {
  limits = (are_two c.args.desc.now c.parts-parts.result c.in-Raptor.z c.in-Raptor.n c.in-Raptor.al c.length-length.ensures.good
      (sym c.scheme.ensures ∙ c.in-Raptor.is) c.parts-parts.ensures.exact).short;
}

pub returns-in-NoCode-clause-fit : goal.returns-in-NoCode-clause-fit
returns-in-NoCode-clause-fit c =
    let all = subst (AllByRecursion (λ k. IsWay (NoCode k))) (sym c.parts-parts.ensures.sizes) (sizes-within c.args.desc.now c.length-length.ensures.good) in
    subst (AreWaysOf c.args.desc.now) (sym c.no_code.ensures)
    (plain_fit c.args.desc.now c.parts-parts.result c.in-NoCode.max_block (sym c.scheme.ensures ∙ c.in-NoCode.is) c.parts-parts.ensures.sizes all)

pub returns-in_ok-shorter-in-Raptor-clause-ways : goal.returns-in_ok-shorter-in-Raptor-clause-ways
returns-in_ok-shorter-in-Raptor-clause-ways c =
    let p = c.parts-parts.result in
    let long = c.in_ok-longer-in-Raptor.longer in
    let short = c.in_ok-shorter-in-Raptor.shorter in
    c.coded.ensures ∙ raptor_ways c.args.self.now c.args.desc.now p c.in-Raptor.z c.in-Raptor.n c.in-Raptor.al long short
    (sym c.scheme.ensures ∙ c.in-Raptor.is) c.parts-parts.ensures.sizes c.in_ok-longer-in-Raptor.ensures.code
    (subst (λ (t : RaptorTables). code_of t p.is ≡ Some short) c.code.ensures.same c.in_ok-shorter-in-Raptor.ensures.code)

pub returns-in_ok-shorter-in-Raptor-clause-fit : goal.returns-in_ok-shorter-in-Raptor-clause-fit
returns-in_ok-shorter-in-Raptor-clause-fit c =
    let long = c.in_ok-longer-in-Raptor.ensures.size in
    let short = c.in_ok-shorter-in-Raptor.ensures.size in
    subst (AreWaysOf c.args.desc.now) (sym c.coded.ensures)
    (raptor_fit c.args.desc.now c.parts-parts.result c.in-Raptor.z c.in-Raptor.n c.in-Raptor.al c.in_ok-longer-in-Raptor.longer c.in_ok-shorter-in-Raptor.shorter
    (sym c.scheme.ensures ∙ c.in-Raptor.is) c.parts-parts.ensures.sizes long.0 short.0 long.1 short.1)

pub coded-requires-clause-one : goal.coded-requires-clause-one
coded-requires-clause-one c =
    (are_two c.args.desc.now c.parts-parts.result c.in-Raptor.z c.in-Raptor.n c.in-Raptor.al c.length-length.ensures.good
    (sym c.scheme.ensures ∙ c.in-Raptor.is) c.parts-parts.ensures.exact).one
