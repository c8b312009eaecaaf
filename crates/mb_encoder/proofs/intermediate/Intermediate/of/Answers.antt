use Rattle.mb_encoder.proofs.OneCode.{usable_is, encoder_is}
use Rattle.mb_encoder.proofs.intermediate.Intermediate.of.Goals as goal

pub returns-clause-encoder : goal.returns-clause-encoder
returns-clause-encoder c =
    encoder_is c.args.tables.now c.args.k c.args.t c.args.block.now c.in_ok-code.code _ c.in_ok-code.ensures.code c.in_ok-symbols.ensures.sources

pub returns-clause-usable : goal.returns-clause-usable
returns-clause-usable c =
    usable_is c.args.tables.now c.args.k c.in_ok-code.code c.in-Some.elim c.in_ok-code.ensures.code (rw c.in-Some.is at c.in_ok-elim.ensures)
