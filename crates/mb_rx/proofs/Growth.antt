-- A session as a fold over its records, and how its events grow: at their end only.
use Rattle.std.proofs.Common.{◌≡◌, ℕ, List, [], ◌∷◌, ◌++◌, Option, Some, None, fold, refl, sym, ap, ◌∙◌, append_assoc, append-nil}
use Rattle.std.proofs.lemmas.List.Sums.{fold-append}
use Rattle.mb_base.specs.Broadcast.{Record}
use Rattle.mb_tables.specs.Tables.{RaptorTables}
use Rattle.mb_rx.specs.Receiver.{fresh, step}
use Rattle.mb_rx.specs.Run.{Event, Line, Known, Session, after_record, session, packet_events, hand_out_events, end_events, events_of, Extends}
use Rattle.mb_program.specs.Lines as program
use Rattle.mb_rx.specs.declared.cause.Cause.{Cause}
use Rattle.mb_words.specs.declared.rx.RxWords.{RxWords}
use Rattle.mb_rx.specs.declared.cause.Ending.{Ending}
use Rattle.mb_rx.specs.declared.cause.Ending.TheVariants.{EndsBy, BreaksAt}
use Rattle.mb_rx.specs.Receive.{events_by, known_of}

-- before anything is heard
pub session-nil : (tsi : ℕ) (tables : RaptorTables) → session tsi tables [] ≡ record { receiver = fresh tsi tables; events = [] }
unfolding session
session-nil tsi tables = refl

-- later records go on from the session that the first ones made
pub session-append : (tsi : ℕ) (tables : RaptorTables) (xs ys : List Record) → session tsi tables (xs ++ ys) ≡ fold after_record (session tsi tables xs) ys
unfolding session
session-append tsi tables xs ys = fold-append after_record (record { receiver = fresh tsi tables; events = [] }) xs ys

-- one more record
pub session-push : (tsi : ℕ) (tables : RaptorTables) (records : List Record) (heard : Record) → session tsi tables (records ++ heard ∷ []) ≡ after_record (session tsi tables records) heard
session-push tsi tables records heard = session-append tsi tables records (heard ∷ [])

-- what a record adds to the events
abbrev pub events_at : Session → Record → List Event
events_at s heard = let stepped = step s.receiver heard in packet_events stepped.happened ++ hand_out_events stepped.receiver.table.lives

-- records only add events, at the end
pub events_grow : (s : Session) (records : List Record) → (later : List Event) × ((fold after_record s records).events ≡ s.events ++ later)
events_grow s [] = ([], sym (append-nil s.events))
events_grow s (heard ∷ records) =
    let r = events_grow (after_record s heard) records in
    (events_at s heard ++ r.0, r.1 ∙ append_assoc s.events (events_at s heard) r.0)

-- while the session goes on, more records add events at the end
grows_on : (known more : Known) → known.cause ≡ None → more.words ≡ known.words → more.tables ≡ known.tables
    → (later : List Record) → more.records ≡ known.records ++ later → (events : List Event) × (events_of more ≡ events_of known ++ events)
grows_on known more c w same later e =
    let tsi = known.words.tsi in
    let tables = known.tables in
    let was = session tsi tables known.records in
    let now = session more.words.tsi more.tables more.records in
    let goes : now ≡ fold after_record was later = ap (λ (words : RxWords). session words.tsi more.tables more.records) w
    ∙ (ap (λ (t : RaptorTables). session tsi t more.records) same ∙ (ap (session tsi tables) e ∙ session-append tsi tables known.records later)) in
    let r = events_grow was later in
    let ending = end_events more now.receiver more.cause in
    let old : events_of known ≡ was.events = ap (λ cause. was.events ++ end_events known was.receiver cause) c ∙ append-nil was.events in
    let new : events_of more ≡ was.events ++ (r.0 ++ ending) = ap (λ (s : Session). s.events ++ ending) goes ∙ ap (λ events. events ++ ending) r.1 ∙ append_assoc was.events r.0 ending in
    (r.0 ++ ending, new ∙ ap (λ events. events ++ (r.0 ++ ending)) (sym old))

-- once the session has ended, its events stand
ended_stands : (known more : Known) (cause : Cause) → known.cause ≡ Some cause → more.words ≡ known.words → more.tables ≡ known.tables
    → more.cause ≡ Some cause → more.records ≡ known.records → (events : List Event) × (events_of more ≡ events_of known ++ events)
ended_stands known more cause c w same d e =
    let at : RxWords → RaptorTables → List Record → Option Cause → List Event
    = λ words tables records ending. events_of (record known { words = words; tables = tables; records = records; cause = ending }) in
    let is : events_of more ≡ events_of known
    = ap (λ words. at words more.tables more.records more.cause) w ∙ (ap (λ (t : RaptorTables). at known.words t more.records more.cause) same
    ∙ (ap (λ records. at known.words known.tables records more.cause) e ∙ ap (at known.words known.tables known.records) (d ∙ sym c))) in
    ([], is ∙ sym (append-nil (events_of known)))

-- whether or not it has ended
grows_by : (known more : Known) → Extends known more → (cause : Option Cause) → known.cause ≡ cause → (later : List Event) × (events_of more ≡ events_of known ++ later)
grows_by known more x None c = let r = x.records c in grows_on known more c x.words x.tables r.0 r.1
grows_by known more x (Some cause) c = let e = x.ended cause c in ended_stands known more cause c x.words x.tables e.0 e.1

-- what is known of a run grows, and the events that it has made grow at their end only
pub run_grows : (known more : Known) → Extends known more → (later : List Event) × (events_of more ≡ events_of known ++ later)
run_grows known more x = grows_by known more x known.cause refl

-- Of a run whose words name no tables and no server, the session's events come first.

-- what comes behind the session's events
abbrev pub closing_events : RxWords → RaptorTables → List Record → Option Ending → List Event
closing_events words tables records None = end_events (known_of words tables records None) (session words.tsi tables records).receiver None
closing_events words tables records (Some (EndsBy cause)) = end_events (known_of words tables records (Some cause)) (session words.tsi tables records).receiver (Some cause)
closing_events words tables records (Some (BreaksAt place)) = Line (program.broken place) ∷ []

-- the events of such a run, whichever way the session goes
pub events_by-session : (words : RxWords) (tables : RaptorTables) (records : List Record) (ending : Option Ending)
    → events_by words tables records ending ≡ (session words.tsi tables records).events ++ closing_events words tables records ending
events_by-session words tables records None = refl
events_by-session words tables records (Some (EndsBy cause)) = refl
events_by-session words tables records (Some (BreaksAt place)) = ap (λ events. events ++ Line (program.broken place) ∷ []) (append-nil (session words.tsi tables records).events)
