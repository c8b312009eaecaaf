-- The laws of traces that are shown.
use Rattle.std.proofs.Common.{◌≡◌, ℕ, ◌<◌, ◌≤◌, ◌*◌, ◌^◌, inl, inr, Bool, cond, true, List, [], ◌∷◌, length, Option, Some, None, refl, sym, ap, ◌∙◌, length-append, arith}
use Rattle.std.specs.Prelude.{nat_lt, flat_map, All}
use Rattle.std.proofs.lemmas.List.{take_all}
use Rattle.std.proofs.lemmas.List.Elements.{All-head, All-tail}
use Rattle.std.proofs.lemmas.Bool.{lt-ltb}
use Rattle.mb_base.specs.Broadcast.{Record}
use Rattle.mb_base.specs.Trace.{record_bytes, records_of, told_place, IsRecord, IsTrace, EndsWith}
use Rattle.mb_base.proofs.TraceLaws.{traces_read}
use Rattle.mb_base.proofs.TraceLemmas.{length-record_bytes, told_place-exact}
use Rattle.mb_base.specs.Status.TheVariants as status
use Rattle.mbms_tab.specs.Laws.{TracesAreShown, WholeTracesAreShown, BrokenTracesAreFound}
use Rattle.mbms_tab.specs.Show.{records_most}

-- ---- the place where a trace is broken

records_fit : (records : List Record) → All IsRecord records → length (flat_map record_bytes records) ≤ 65543 * length records
records_fit [] fits = omega arith
records_fit (r ∷ rs) fits =
    let first = All-head IsRecord r rs fits in
    let small = first.datagram in
    let others = records_fit rs (All-tail IsRecord r rs fits) in
    omega (arith, small, others, length-record_bytes r, length-append (record_bytes r) (flat_map record_bytes rs))

rest_fits : (rest : List ℕ) (end : ℕ) (broken : Option ℕ) → EndsWith rest end broken → length rest ≤ 65543
rest_fits rest end None none = omega (arith, ap length none)
rest_fits rest end (Some place) cut =
    let small = cut.0.fits.datagram in
    omega (arith, small, length-record_bytes cut.0.of, ap length cut.0.whole, length-append rest cut.0.more)

trace_fits : (bytes : List ℕ) (records : List Record) (broken : Option ℕ) → IsTrace bytes records broken → length records < records_most → length bytes < 2 ^ 64
trace_fits bytes records broken trace few =
    omega (arith, few, records_fit records trace.fits, rest_fits trace.rest _ broken trace.end, ap length trace.whole, length-append (flat_map record_bytes records) trace.rest)

pub traces_shown : TracesAreShown
traces_shown bytes records broken all trace few =
    let is = (traces_read bytes records broken all).0 trace in
    let len : length (records_of bytes) < records_most = omega (arith, few, ap length is.0) in
    let below : nat_lt (length (records_of bytes)) records_most ≡ true = lt-ltb _ _ len in (
      take_all records_most (records_of bytes) (omega (arith, len)) ∙ sym is.0,
      ap (λ (b : Bool). cond b (told_place 0 bytes) None) below ∙ (told_place-exact bytes (trace_fits bytes records broken trace few) ∙ sym is.1),
    )

-- ---- calls without a fault

pub whole_shown : WholeTracesAreShown
whole_shown bytes left before after rb ra pb pa status.Done s f whole = inl refl
whole_shown bytes left before after rb ra pb pa status.Memory s f whole = inr refl
whole_shown bytes left before after rb ra pb pa status.TraceBroken s f whole = absurd (cc (s.of.1, s.printed.1, whole))
whole_shown bytes left before after rb ra pb pa status.ReadFault s f whole = absurd (f.no_read_fault (f.read_fault refl))
whole_shown bytes left before after rb ra pb pa status.OutFault s f whole = absurd (f.no_out_fault (f.out_fault refl))
whole_shown bytes left before after rb ra pb pa _ s f whole = absurd s.printed

pub broken_found : BrokenTracesAreFound
broken_found bytes place left before after rb ra pb pa status.TraceBroken s f broken = inl refl
broken_found bytes place left before after rb ra pb pa status.Memory s f broken = inr refl
broken_found bytes place left before after rb ra pb pa status.Done s f broken = absurd (cc (s.of.1, s.printed.0, broken))
broken_found bytes place left before after rb ra pb pa status.ReadFault s f broken = absurd (f.no_read_fault (f.read_fault refl))
broken_found bytes place left before after rb ra pb pa status.OutFault s f broken = absurd (f.no_out_fault (f.out_fault refl))
broken_found bytes place left before after rb ra pb pa _ s f broken = absurd s.printed
