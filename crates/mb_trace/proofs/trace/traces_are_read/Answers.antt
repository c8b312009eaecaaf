use Rattle.mb_trace.proofs.TraceLaws.{traces_read}
use Rattle.mb_trace.proofs.trace.traces_are_read.Goals as goal

pub returns : goal.returns
returns c = traces_read
