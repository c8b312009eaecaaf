-- The numbers with which programs end.
use Rattle.std.specs.Prelude.{ℕ}
use Rattle.mb_outside.specs.declared.status.Status.{Status}
use Rattle.mb_outside.specs.declared.status.Status.TheVariants.{Done, Incomplete, Usage, Tables, TraceBroken, ReadFault, AirFault, StoreFault, OutFault, Memory, BadFile, Unusable, ServeFault, NoJ}

abbrev pub number_of : Status → ℕ
number_of Done = 0
number_of Incomplete = 1
number_of Usage = 2
number_of Tables = 3
number_of TraceBroken = 4
number_of ReadFault = 5
number_of AirFault = 6
number_of StoreFault = 7
number_of OutFault = 8
number_of Memory = 9
number_of BadFile = 10
number_of Unusable = 11
number_of ServeFault = 12
number_of NoJ = 13
