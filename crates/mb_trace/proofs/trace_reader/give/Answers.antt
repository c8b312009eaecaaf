use Rattle.std.proofs.Common.{◌≡◌, ◌<◌, ◌-◌, length, take, drop, refl, sym, ap, ◌∙◌, subst, arith}
use Rattle.std.proofs.lemmas.List.{length-take-le, length-drop}
use Rattle.mb_trace.specs.Number.{be_number}
use Rattle.mb_trace.specs.RecordBuffer.{held_bytes}
use Rattle.mb_trace.proofs.TraceLemmas.{late, given, given_bytes}
use Rattle.mb_trace.proofs.trace_reader.give.Goals as goal

pub returns-then-until-at-clause-heard : goal.returns-then-until-at-clause-heard
returns-then-until-at-clause-heard c =
    let at-is = c.be48-at.ensures.value ∙ ap (λ l. be_number (take 6 l)) c.as_slice-record.ensures in
    let past = subst (λ n. c.args.until < n) at-is c.if-until-at.true in
    λ rested later. (late c.args.size c.args.until _ c.requires past later, refl)

pub returns-clause-heard : goal.returns-clause-heard
returns-clause-heard c =
    let size = c.args.size in
    let held = held_bytes c.args.held.now in
    let part : take (size - 8) (drop 8 c.as_slice-record.result.now) ≡ take (size - 8) (drop 8 held)
    = ap (λ l. take (size - 8) (drop 8 l)) c.as_slice-record.ensures in
    let len : length (take (size - 8) (drop 8 c.as_slice-record.result.now)) ≡ size - 8
    = ap length part ∙ length-take-le (size - 8) (drop 8 held) (omega (arith, length-drop 8 held, c.requires.within)) in
    let datagram-is : take (size - 8) c.put.new.self ≡ take (size - 8) (drop 8 held)
    = ap (λ n. take n c.put.new.self) (sym len) ∙ c.put.ensures ∙ part in
    given size c.args.place.now c.saturating_add.result c.be48-at.result _ _ _ c.requires
    (c.be48-at.ensures.value ∙ ap (λ l. be_number (take 6 l)) c.as_slice-record.ensures)
    datagram-is c.saturating_add.ensures c.skip.ensures

pub returns-clause-given : goal.returns-clause-given
returns-clause-given c =
    let size = c.args.size in
    let held = held_bytes c.args.held.now in
    let part : take (size - 8) (drop 8 c.as_slice-record.result.now) ≡ take (size - 8) (drop 8 held)
    = ap (λ l. take (size - 8) (drop 8 l)) c.as_slice-record.ensures in
    let len : length (take (size - 8) (drop 8 c.as_slice-record.result.now)) ≡ size - 8
    = ap length part ∙ length-take-le (size - 8) (drop 8 held) (omega (arith, length-drop 8 held, c.requires.within)) in
    let datagram-is : take (size - 8) c.put.new.self ≡ take (size - 8) (drop 8 held)
    = ap (λ n. take n c.put.new.self) (sym len) ∙ c.put.ensures ∙ part in
    given_bytes size c.be48-at.result _ _ _ c.requires
    (c.be48-at.ensures.value ∙ ap (λ l. be_number (take 6 l)) c.as_slice-record.ensures)
    datagram-is c.skip.ensures
