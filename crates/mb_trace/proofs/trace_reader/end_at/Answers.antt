use Rattle.std.proofs.Common.{◌<◌, length, refl, sym, arith}
use Rattle.std.proofs.lemmas.Bool.{eqb-true, eqb-false}
use Rattle.std.proofs.lemmas.List.{nil_from_length}
use Rattle.mb_trace.proofs.TraceLemmas.{records_of-none, ended, cut}
use Rattle.mb_trace.proofs.trace_reader.end_at.Goals as goal

pub returns-then-is_empty-clause-heard : goal.returns-then-is_empty-clause-heard
returns-then-is_empty-clause-heard c =
    let bytes = c.args.bytes.now in
    let none = nil_from_length bytes (eqb-true _ _ (sym c.if-is_empty.ensures)) in
    λ until rested buf. (records_of-none bytes c.requires.none, ended c.args.place bytes c.requires none, refl)

pub returns-else-is_empty-clause-heard : goal.returns-else-is_empty-clause-heard
returns-else-is_empty-clause-heard c =
    let bytes = c.args.bytes.now in
    let other = eqb-false _ _ (sym c.if-is_empty.ensures) in
    let some : 0 < length bytes = omega (arith, other) in
    λ until rested buf. (records_of-none bytes c.requires.none, cut c.args.place bytes c.requires some (omega (arith, c.ranges.place.fits)), refl)
