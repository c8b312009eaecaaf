-- Each life that becomes ready has its file put, unless it is damaged.
use Rattle.std.proofs.Common.{◌≡◌, ℕ, zero, suc, true, false, cond, List, [], ◌∷◌, ◌++◌, Option, Some, None, filter, flat_map, refl, sym, ap, ◌∙◌, subst, arith, inl, inr}
use Rattle.std.specs.List.{Contains}
use Rattle.std.proofs.lemmas.List.Elements.{Contains-append_left, Contains-append_right, Contains-append_cases}
use Rattle.mb_base.specs.Broadcast.{Record}
use Rattle.mb_base.specs.Files.{File}
use Rattle.mb_life.specs.Life.{Life, is_ready, is_damaged}
use Rattle.mb_machine.specs.Laws.{file_of}
use Rattle.mb_machine.specs.declared.happened.Happened.{Happened}
use Rattle.mb_machine.specs.declared.happened.Happened.TheVariants.{Dropped, Part, Instance, BadInstance, LateInstance, Heard}
use Rattle.mb_tables.specs.Tables.{RaptorTables}
use Rattle.mb_rx.specs.Receiver.{step}
use Rattle.mb_rx.specs.Run.{Event, Session, after_record, session, packet_events, taken_events, hand_out_events}
use Rattle.mb_words.specs.declared.rx.RxWords.{RxWords}
use Rattle.mb_rx.specs.declared.cause.Ending.{Ending}
use Rattle.mb_rx.specs.Receive.{puts_in, PutsEachReady, events_by}
use Rattle.mb_rx.proofs.Making.{puts_in-append}
use Rattle.mb_rx.proofs.Growth.{session-append, events_at, events_grow, closing_events, events_by-session}

-- what a packet did puts nothing
puts_in-packet : (happened : Option Happened) (events : List Event) → puts_in (packet_events happened ++ events) ≡ puts_in events
puts_in-packet None events = refl
puts_in-packet (Some (Dropped why)) events = refl
puts_in-packet (Some (Part id)) events = refl
puts_in-packet (Some (Instance id report)) events = refl
puts_in-packet (Some (BadInstance id fault)) events = refl
puts_in-packet (Some (LateInstance id)) events = refl
puts_in-packet (Some (Heard toi sbn kept determined)) events = refl

-- the files that a record puts are those of the lives that are ready after it
pub puts_in-record : (s : Session) (heard : Record) → puts_in (events_at s heard) ≡ puts_in (hand_out_events (step s.receiver heard).receiver.table.lives)
puts_in-record s heard =
    let stepped = step s.receiver heard in
    puts_in-packet stepped.happened (hand_out_events stepped.receiver.table.lives)

-- what the life in front gives, and the others
pub hand_out_events-ready : (life : Life) (lives : List Life) → is_ready life ≡ true → hand_out_events (life ∷ lives) ≡ taken_events life ++ hand_out_events lives
hand_out_events-ready life lives is = ap (λ b. flat_map taken_events (cond b (life ∷ filter is_ready lives) (filter is_ready lives))) is

pub hand_out_events-unready : (life : Life) (lives : List Life) → is_ready life ≡ false → hand_out_events (life ∷ lives) ≡ hand_out_events lives
hand_out_events-unready life lives is = ap (λ b. flat_map taken_events (cond b (life ∷ filter is_ready lives) (filter is_ready lives))) is

-- a life that isn't damaged has its file put, and no other
pub puts_in-undamaged : (life : Life) → is_damaged life ≡ false → puts_in (taken_events life) ≡ file_of life ∷ []
puts_in-undamaged life is = rw is refl

-- the empty list has no element
no_element : (life : Life) → Contains [] life → ⊥
no_element life h = absurd (omega arith)

-- a list of one has that one
only_element : (first life : Life) → Contains (first ∷ []) life → first ≡ life
only_element first life (zero, within, same) = same
only_element first life (suc k, within, same) = absurd (omega arith)

-- the file of a ready life in front is put
put_first : (first : Life) (lives : List Life) (life : Life) → first ≡ life → is_ready life ≡ true → is_damaged life ≡ false
    → Contains (puts_in (hand_out_events (first ∷ lives))) (file_of life)
put_first first lives life same ready whole =
    let now : puts_in (hand_out_events (first ∷ lives)) ≡ (file_of life ∷ []) ++ puts_in (hand_out_events lives)
    = ap puts_in (hand_out_events-ready first lives (ap is_ready same ∙ ready))
    ∙ (puts_in-append (taken_events first) (hand_out_events lives)
    ∙ ap (λ files. files ++ puts_in (hand_out_events lives)) (ap (λ (l : Life). puts_in (taken_events l)) same ∙ puts_in-undamaged life whole)) in
    subst (λ (files : List File). Contains files (file_of life)) (sym now) (0, omega arith, refl)

-- what is put behind is put
put_later : (first : Life) (lives : List Life) (file : File) → Contains (puts_in (hand_out_events lives)) file
    → Contains (puts_in (hand_out_events (first ∷ lives))) file
put_later first lives file h =
    elim (is_ready first) as (λ b. Contains (puts_in (flat_map taken_events (cond b (first ∷ filter is_ready lives) (filter is_ready lives)))) file) [
      | true ↦ subst (λ (files : List File). Contains files file) (sym (puts_in-append (taken_events first) (hand_out_events lives)))
          (Contains-append_right (puts_in (taken_events first)) (puts_in (hand_out_events lives)) file h)
      | false ↦ h
    ]

-- the file of a ready life is put
put_among : (lives : List Life) (life : Life) → Contains lives life → is_ready life ≡ true → is_damaged life ≡ false
    → Contains (puts_in (hand_out_events lives)) (file_of life)
put_among [] life h ready whole = absurd (no_element life h)
put_among (first ∷ lives) life h ready whole =
    elim (Contains-append_cases (first ∷ []) lives life h) as (λ _. Contains (puts_in (hand_out_events (first ∷ lives))) (file_of life)) [
      | inl here ↦ put_first first lives life (only_element first life here) ready whole
      | inr there ↦ put_later first lives (file_of life) (put_among lives life there ready whole)
    ]

-- the file of the ready life was put by the record after which it was ready
put_by_then : (tsi : ℕ) (tables : RaptorTables) (before after : List Record) (heard : Record) (life : Life)
    → Contains (step (session tsi tables before).receiver heard).receiver.table.lives life → is_ready life ≡ true → is_damaged life ≡ false
    → Contains (puts_in (session tsi tables (before ++ heard ∷ after)).events) (file_of life)
put_by_then tsi tables before after heard life h ready whole =
    let was = session tsi tables before in
    let made = events_at was heard in
    let r = events_grow (after_record was heard) after in
    let now : (session tsi tables (before ++ heard ∷ after)).events ≡ (was.events ++ made) ++ r.0
    = ap (λ (s : Session). s.events) (session-append tsi tables before (heard ∷ after)) ∙ r.1 in
    let P : List File → Type 0 = λ files. Contains files (file_of life) in
    let here : Contains (puts_in made) (file_of life)
    = subst P (sym (puts_in-record was heard)) (put_among (step was.receiver heard).receiver.table.lives life h ready whole) in
    let files = puts_in was.events in
    let parts : puts_in (session tsi tables (before ++ heard ∷ after)).events ≡ (files ++ puts_in made) ++ puts_in r.0
    = ap puts_in now ∙ puts_in-append (was.events ++ made) r.0 ∙ ap (λ xs. xs ++ puts_in r.0) (puts_in-append was.events made) in
    subst P (sym parts) (Contains-append_left (files ++ puts_in made) (puts_in r.0) (file_of life) (Contains-append_right files (puts_in made) (file_of life) here))

-- each life that became ready, after whichever record, has its file put
pub each_ready_is_put : (words : RxWords) (tables : RaptorTables) (records : List Record) (ending : Option Ending) → PutsEachReady words.tsi tables records (puts_in (events_by words tables records ending))
each_ready_is_put words tables records ending before after heard life split h ready whole =
    let P : List File → Type 0 = λ files. Contains files (file_of life) in
    let s = session words.tsi tables records in
    let closing = closing_events words tables records ending in
    let there : Contains (puts_in s.events) (file_of life)
    = rw split (put_by_then words.tsi tables before after heard life h ready whole) in
    subst P (sym (ap puts_in (events_by-session words tables records ending) ∙ puts_in-append s.events closing))
    (Contains-append_left (puts_in s.events) (puts_in closing) (file_of life) there)
