use Rattle.std.proofs.Common.{◌++◌}
use Rattle.std.specs.Prelude.{flat_map}
use Rattle.mb_tables.specs.Tables.{head_bytes, row_bytes}
use Rattle.mb_tables.proofs.PartLemmas.{Loses-trans, Tells-behind}
use Rattle.mb_tables.proofs.FileLemmas.{rows-stop, trailing}
use Rattle.mb_tables.proofs.reader.read_file.Goals as goal

pub returns-in-Err-read_rows-clause-refused : goal.returns-in-Err-read_rows-clause-refused
returns-in-Err-read_rows-clause-refused g c =
    let head = c.in-Ok.head in
    let read = c.in-Ok.ensures.read in
    Tells-behind _ _ (head_bytes head.v0.items head.v1.items head.count) _ _ read.moved
    (λ rest stop. rows-stop head.v0.items head.v1.items head.count c.in-Err-read_rows.fault rest read.words0 read.words1 read.fits stop)
    c.in-Err-read_rows.ensures.refused

pub returns-in-Err-read_end-clause-refused : goal.returns-in-Err-read_end-clause-refused
returns-in-Err-read_end-clause-refused g c =
    let head = c.in-Ok.head in
    let read = c.in-Ok.ensures.read in
    let rows = c.in-Ok-read_rows.rows.items in
    let good = c.in-Ok-read_rows.ensures.good in
    Tells-behind _ _ (head_bytes head.v0.items head.v1.items head.count ++ flat_map row_bytes rows) _ _
    (Loses-trans _ _ _ _ _ read.moved c.in-Ok-read_rows.ensures.read)
    (λ rest behind. trailing head.v0.items head.v1.items head.count rows c.in-Err-read_end.fault rest read.words0 read.words1 good.0 good.1 behind)
    c.in-Err-read_end.ensures.refused
