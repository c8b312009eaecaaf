use Rattle.mb_way.proofs.Testing.{determined_tested, block_tested}
use Rattle.mb_way.proofs.Solving.{solution_solves}
use Rattle.mb_way.proofs.laws.blocks_are_determined.Goals as goal

pub returns-clause-determined : goal.returns-clause-determined
returns-clause-determined c = determined_tested

pub returns-clause-block : goal.returns-clause-block
returns-clause-block c = block_tested

pub returns-clause-solved : goal.returns-clause-solved
returns-clause-solved c = solution_solves
