use Rattle.mb_tables.proofs.OneReading.{reads-told}
use Rattle.mb_tables.proofs.reader.read_tables.Goals as goal

pub returns-clause-reads : goal.returns-clause-reads
returns-clause-reads g c = reads-told _ c.read_file.result c.read_file.ensures.read c.read_file.ensures.refused
