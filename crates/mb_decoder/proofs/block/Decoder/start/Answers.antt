use Rattle.std.proofs.Common.{ap, refl, sym, subst}
use Rattle.mb_decoder.specs.Block.{Block, IsOf}
use Rattle.mb_decoder.proofs.Hearing.{begun}
use Rattle.mb_decoder.proofs.Alone.{none_alone}
use Rattle.mb_decoder.proofs.block.Decoder.start.Goals as goal

pub returns-clause-nothing : goal.returns-clause-nothing
returns-clause-nothing c =
    ap (λ (b : Block). b.kept) (begun c.args.t c.k-k.result _ c.args.usable c.in_ok-esis.esis.items c.in_ok-symbols.symbols.items c.in_ok-offered.ensures)

pub returns-clause-of : goal.returns-clause-of
returns-clause-of c =
    subst (IsOf c.args.code.now) (sym (begun c.args.t c.k-k.result _ c.args.usable c.in_ok-esis.esis.items c.in_ok-symbols.symbols.items c.in_ok-offered.ensures))
    (record {
      k = c.k-k.ensures.k;
      rows = λ worked. refl;
      sources = λ alone. none_alone c.args.code.now _ refl (c.requires alone);
    })
