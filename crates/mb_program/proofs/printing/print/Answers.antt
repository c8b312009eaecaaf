use Rattle.mb_program.proofs.PrintLemmas.{PrintsPart-take}
use Rattle.mb_program.proofs.printing.print.Goals as goal

pub returns-in-Err-clause-printed : goal.returns-in-Err-clause-printed
returns-in-Err-clause-printed g c =
    PrintsPart-take c.args.text.now c.as_bytes.result.now c.in-Err.ensures.part.0 _ _ c.as_bytes.ensures.value c.in-Err.ensures.part.2
