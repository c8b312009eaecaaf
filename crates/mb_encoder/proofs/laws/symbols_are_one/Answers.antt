use Rattle.mb_encoder.proofs.Solving.{one_symbol, source_symbol}
use Rattle.mb_encoder.proofs.laws.symbols_are_one.Goals as goal

pub returns-clause-one : goal.returns-clause-one
returns-clause-one c = one_symbol

pub returns-clause-source : goal.returns-clause-source
returns-clause-source c = source_symbol
