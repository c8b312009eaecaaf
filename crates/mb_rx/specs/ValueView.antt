-- What definitions see of the code's receiver.
use Rattle.mb_rx.specs.Receiver as machine
use Rattle.mb_rx.specs.declared.receiver.Receiver.{Receiver}

abbrev pub seen : Receiver → machine.Receiver
seen r = record { table = r.table; faults = r.faults; drops = r.drops }
