use Rattle.std.proofs.Common.{◌≡◌, Some, Ok, sym, ap, ◌∙◌, slice_index_or}
use Rattle.std.specs.Option.{option_map}
use Rattle.mb_alc.specs.PacketView.{body_seen}
use Rattle.mb_window.specs.Buffer.{IsRun}
use Rattle.mb_window.specs.Window.{slot_place, slot_at, text_in, text_for}
use Rattle.mb_window.specs.declared.slot.Slot.{Slot}
use Rattle.mb_window.specs.declared.slot.State.TheVariants.{Read}
use Rattle.mb_window.proofs.HearLemmas.{found-id, found-slot, text_for-slot, hear-found}
use Rattle.mb_window.proofs.window.hear_in.Goals as goal

pub hear_more-requires-clause-id : goal.hear_more-requires-clause-id
hear_more-requires-clause-id c = λ slot.
    let found : slot_place c.args.id c.args.slots.now.items ≡ Some c.in-Some.place =
    ap (slot_place c.args.id) (sym c.deref.ensures.value) ∙ sym c.place_of-place.ensures.place ∙ c.in-Some.is in
    found-id c.args.id c.args.slots.now.items c.in-Some.place slot found

pub hear_more-requires-clause-run : goal.hear_more-requires-clause-run
hear_more-requires-clause-run c = λ slot.
    let slots = c.args.slots.now.items in
    let fti = option_map (λ f. f.now) c.args.fti in
    let found : slot_place c.args.id slots ≡ Some c.in-Some.place =
    ap (slot_place c.args.id) (sym c.deref.ensures.value) ∙ sym c.place_of-place.ensures.place ∙ c.in-Some.is in
    let seen : option_map (λ s. s.now) c.slot_in.result ≡ slot_at (Some c.in-Some.place) slots =
    c.slot_in.ensures ∙ ap (λ p. slot_at p c.deref-2.result.now) c.in-Some.is ∙ ap (slot_at (Some c.in-Some.place)) c.deref-2.ensures.value in
    let text : text_for (slot_at (Some c.in-Some.place) slots) fti ≡ Ok c.in-Ok.geometry =
    ap (λ s. text_for s fti) (sym seen) ∙ sym c.geometry_for.ensures ∙ c.in-Ok.is in
    let at = found-slot c.args.id slots c.in-Some.place slot found in
    let same : c.in-Ok.geometry ≡ text_in (slice_index_or slots c.in-Some.place slot).state =
    text_for-slot (slice_index_or slots c.in-Some.place slot) fti c.in-Ok.geometry (ap (λ s. text_for s fti) (sym at) ∙ text) in
    let run : IsRun c.in-Ok.geometry (body_seen c.args.body.now) c.in-Ok-run_of.run' = record {
      first_is = c.in-Ok-run_of.ensures.first;
      count_is = c.in-Ok-run_of.ensures.count;
      places = c.in-Ok-run_of.ensures.places;
      bytes = c.in-Ok-run_of.ensures.bytes;
    } in
    rw same at run

pub returns-in-Some-clause-heard : goal.returns-in-Some-clause-heard
returns-in-Some-clause-heard c =
    let slots = c.args.slots.now.items in
    let fti = option_map (λ f. f.now) c.args.fti in
    let any : Slot = record { id = 0; state = Read c.in-Ok.geometry 0 } in
    let found : slot_place c.args.id slots ≡ Some c.in-Some.place =
    ap (slot_place c.args.id) (sym c.deref.ensures.value) ∙ sym c.place_of-place.ensures.place ∙ c.in-Some.is in
    let seen : option_map (λ s. s.now) c.slot_in.result ≡ slot_at (Some c.in-Some.place) slots =
    c.slot_in.ensures ∙ ap (λ p. slot_at p c.deref-2.result.now) c.in-Some.is ∙ ap (slot_at (Some c.in-Some.place)) c.deref-2.ensures.value in
    let text : text_for (slot_at (Some c.in-Some.place) slots) fti ≡ Ok c.in-Ok.geometry =
    ap (λ s. text_for s fti) (sym seen) ∙ sym c.geometry_for.ensures ∙ c.in-Ok.is in
    let at = found-slot c.args.id slots c.in-Some.place any found in
    rw (hear-found c.args.id fti (body_seen c.args.body.now) slots c.in-Some.place c.in-Ok.geometry (slice_index_or slots c.in-Some.place any)
    found text c.in-Ok-run_of.ensures.found at)
    (c.hear_more.ensures.heard any)
