use Rattle.mb_geom.specs.Description.{Description}
use Rattle.mb_file.specs.File.{IsFileOf}
use Rattle.mb_file.proofs.file_tests.a_file_under_raptor_follows_from_repair_and_source_symbols.Given as goal

abbrev pub invariant-loop-at : goal.invariant-loop-at
invariant-loop-at g l =
    let i = l.desc-inside in
    let d : Description = record { location = i.location; length = i.length; symbol = i.symbol; scheme = i.scheme; md5 = i.md5 } in IsFileOf d l.file
