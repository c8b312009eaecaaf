-- How what was listened to, and the lines after it, make a run.
use Rattle.std.proofs.Common.{◌≡◌, ℕ, ◌≤◌, Bool, true, false, cond, List, [], ◌∷◌, ◌++◌, length, Option, Some, None, is_some, Result, Ok, Err, inl, inr, refl, sym, ap, subst, ◌∙◌, append-nil, arith}
use Rattle.std.specs.List.{list_all}
use Rattle.mb_base.specs.Outside.{Becomes, Stays, Grows, Rose}
use Rattle.mb_base.specs.Files.{File}
use Rattle.mb_base.proofs.Content.{Grows-nil}
use Rattle.mb_base.specs.Broadcast.{Record, Broadcast, Takes}
use Rattle.mb_base.specs.Status.{Status}
use Rattle.mb_base.specs.Status.TheVariants as status
use Rattle.mb_words.specs.declared.rx.RxWords.{RxWords}
use Rattle.mb_rx.specs.declared.cause.Cause.{Cause}
use Rattle.mb_rx.specs.declared.cause.Ending.{Ending}
use Rattle.mb_rx.specs.declared.cause.Ending.TheVariants.{EndsBy, BreaksAt}
use Rattle.mb_rx.specs.declared.session.Listened.{Listened}
use Rattle.mb_program.specs.Lines as program
use Rattle.mb_program.specs.Printing as printing
use Rattle.mb_tables.specs.Tables.{RaptorTables, AreTables}
use Rattle.mb_rx.specs.Receiver.{Receiver, fresh}
use Rattle.mb_rx.specs.Run.{Event, Line, Session, session, end_events, is_complete}
use Rattle.mb_rx.specs.Receive.{names_tables, Outputs, outputs, Makes, Stops, IsEnding, IsRun, Leaves, Receives, Refuses, events_by, known_of, ClosesBy, is_closed, TakesWhileOpen, AreInTime, datagrams_most}
use Rattle.mb_rx.specs.Listening.{Plays, Listens, after_records, TakenOpen}
use Rattle.mb_rx.specs.RunResult.{Runs}
use Rattle.mb_rx.specs.Steps.{StopsReading}
use Rattle.mb_rx.proofs.Making.{Makes-trans, Stops-after, Stops-memory}
use Rattle.mb_rx.proofs.ListenLemmas.{Takes-none, TakenOpen-split}
use Rattle.mb_rx.proofs.Honest.{honest_puts}
use Rattle.mb_rx.proofs.Ready.{each_ready_is_put}

-- a session is what its records make of a fresh receiver
pub session-is : (tsi : ℕ) (tables : RaptorTables) (records : List Record) → session tsi tables records ≡ after_records (fresh tsi tables) records
unfolding session
session-is tsi tables records = refl

-- the events of a session that goes on, ended, or broke
events_by-none : (words : RxWords) (tables : RaptorTables) (records : List Record) → (after_records (fresh words.tsi tables) records).events ≡ events_by words tables records None
events_by-none words tables records = ap (λ (s : Session). s.events) (sym (session-is words.tsi tables records)) ∙ sym (append-nil (session words.tsi tables records).events)

events_by-ended : (words : RxWords) (tables : RaptorTables) (records : List Record) (cause : Cause)
    → (after_records (fresh words.tsi tables) records).events ++ end_events (known_of words tables records (Some cause)) (after_records (fresh words.tsi tables) records).receiver (Some cause)
    ≡ events_by words tables records (Some (EndsBy cause))
events_by-ended words tables records cause =
    ap (λ (s : Session). s.events ++ end_events (known_of words tables records (Some cause)) s.receiver (Some cause)) (sym (session-is words.tsi tables records))

events_by-broken : (words : RxWords) (tables : RaptorTables) (records : List Record) (place : ℕ)
    → (after_records (fresh words.tsi tables) records).events ++ Line (program.broken place) ∷ [] ≡ events_by words tables records (Some (BreaksAt place))
events_by-broken words tables records place = ap (λ (es : List Event). es ++ Line (program.broken place) ∷ []) (events_by-none words tables records)

-- whether the sender closed the session, by what its records make of a fresh receiver
closed-is : (words : RxWords) (tables : RaptorTables) (records : List Record) → is_closed words tables records ≡ (after_records (fresh words.tsi tables) records).receiver.table.closed
closed-is words tables records = ap (λ (s : Session). s.receiver.table.closed) (session-is words.tsi tables records)

closes-as : (words : RxWords) (tables : RaptorTables) (records : List Record) (ending : Option Ending) → ClosesBy ending (after_records (fresh words.tsi tables) records).receiver.table.closed
    → ClosesBy ending (is_closed words tables records)
closes-as words tables records ending p = subst (ClosesBy ending) (sym (closed-is words tables records)) p

taken_open : (words : RxWords) (tables : RaptorTables) (records : List Record) → TakenOpen (fresh words.tsi tables) records → TakesWhileOpen words tables records
taken_open words tables records still before after heard split =
    closed-is words tables before ∙ TakenOpen-split (fresh words.tsi tables) before after heard (subst (TakenOpen (fresh words.tsi tables)) split still)

-- a run, from what it left: the laws of honest datagrams and of ready files hold of every run
run_of : (words : RxWords) (tables : RaptorTables) → AreTables tables → (a b : Option Broadcast) (x y : Outputs) (result : Status) (records : List Record) (ending : Option Ending)
    → Becomes a b (Takes records) → length records ≤ datagrams_most → AreInTime words records → TakenOpen (fresh words.tsi tables) records → ClosesBy ending (is_closed words tables records)
    → Becomes a b (λ _ air. IsEnding words records ending air)
    → Leaves result words tables records ending x y → IsRun words tables a b x y result
run_of words tables good a b x y result records ending taken within in_time still closes ends left = record {
  records = records;
  taken = taken;
  within = within;
  in_time = in_time;
  while_open = taken_open words tables records still;
  ending = ending;
  closes = closes;
  ends = ends;
  left = left;
  honest = λ sent honest. honest_puts words tables good records ending sent honest;
  ready = each_ready_is_put words tables records ending;
}

-- a status that stopped among the events of a run
Leaves-stopped : (reason : Status) (words : RxWords) (tables : RaptorTables) (records : List Record) (ending : Option Ending) (x y : Outputs)
    → Stops reason x y (events_by words tables records ending) → Leaves reason words tables records ending x y
Leaves-stopped status.StoreFault words tables records ending x y s = s
Leaves-stopped status.OutFault words tables records ending x y s = s
Leaves-stopped status.Memory words tables records ending x y s = s
Leaves-stopped _ words tables records ending x y s = absurd s.stop

Leaves-played : (A : Type 0) (reason : Status) (words : RxWords) (tables : RaptorTables) (records : List Record) (x y : Outputs)
    → (reason ≡ status.AirFault → is_closed words tables records ≡ false)
    → Plays {A = A} x y (events_by words tables records None) (Err reason) → Leaves reason words tables records None x y
Leaves-played A status.AirFault words tables records x y failed p = (refl, failed refl, p)
Leaves-played A status.StoreFault words tables records x y failed p = p
Leaves-played A status.OutFault words tables records x y failed p = p
Leaves-played A status.Memory words tables records x y failed p = p
Leaves-played A _ words tables records x y failed p = absurd p.stop

goes_on : (words : RxWords) (records : List Record) (a b : Option Broadcast) → Becomes a b (Takes records) → Becomes a b (λ _ air. IsEnding words records None air)
goes_on words records None b p = tt
goes_on words records (Some a) None p = absurd p
goes_on words records (Some a) (Some b) p = tt

-- the status says whether each life was handed out
finishes : (all : Bool) (words : RxWords) (tables : RaptorTables) (records : List Record) (cause : Cause) (x z : Outputs)
    → Makes x z (events_by words tables records (Some (EndsBy cause))) → is_complete (session words.tsi tables records) ≡ all
    → Leaves (cond all status.Done status.Incomplete) words tables records (Some (EndsBy cause)) x z
finishes true words tables records cause x z made lives = record { ended = tt; all = made; lives = lives }
finishes false words tables records cause x z made lives = record { ended = tt; all = made; lives = lives }

-- listening handed on a status
pub run-unheard : (words : RxWords) (tables : RaptorTables) → AreTables tables → (a b : Option Broadcast) (new : Receiver) (x y : Outputs) (reason answer : Status) (result : Result Status Status)
    → result ≡ Err answer → answer ≡ reason → Listens words a b (fresh words.tsi tables) new x y (Err reason) → Runs words tables a b x y result
run-unheard words tables good a b new x y reason answer result is same l =
    subst (λ (r : Result Status Status). Runs words tables a b x y r) (sym (is ∙ ap Err same))
    (run_of words tables good a b x y reason l.records None l.taken l.within l.in_time l.while_open tt (goes_on words l.records a b l.taken)
    (Leaves-played Listened reason words tables l.records x y (λ air. closed-is words tables l.records ∙ l.failed air) (subst (λ (es : List Event). Plays {A = Listened} x y es (Err reason)) (events_by-none words tables l.records) l.played)))

-- the session ended, and its last lines were printed, or a status stopped them
pub run-ended : (words : RxWords) (tables : RaptorTables) → AreTables tables → (a b : Option Broadcast) (new : Receiver) (x y z : Outputs) (listened : Listened) (cause : Cause) (all : Bool) (result : Status)
    → listened.ending ≡ EndsBy cause → Listens words a b (fresh words.tsi tables) new x y (Ok listened)
    → ((records : List Record) → length records ≡ listened.datagrams → Makes y z (end_events (known_of words tables records (Some cause)) new (Some cause)))
    → all ≡ list_all (λ life. life.done) new.table.lives → result ≡ cond all status.Done status.Incomplete → IsRun words tables a b x z result
run-ended words tables good a b new x y z listened cause all result by l printed complete is =
    let records = l.records in
    let heard = (after_records (fresh words.tsi tables) records).receiver in
    let closes : ClosesBy (Some (EndsBy cause)) (is_closed words tables records) =
    closes-as words tables records (Some (EndsBy cause)) (subst (λ (e : Ending). ClosesBy (Some e) (after_records (fresh words.tsi tables) records).receiver.table.closed) by l.heard.2) in
    let ended : Becomes a b (λ _ air. IsEnding words records (Some (EndsBy cause)) air) =
    subst (λ (e : Ending). Becomes a b (λ _ air. IsEnding words records (Some e) air)) by l.heard.3 in
    let made : Makes x z (events_by words tables records (Some (EndsBy cause))) =
    subst (λ (es : List Event). Makes x z es) (events_by-ended words tables records cause)
    (Makes-trans x y z _ _ l.played (subst (λ (r : Receiver). Makes y z (end_events (known_of words tables records (Some cause)) r (Some cause))) l.heard.0 (printed records (sym l.heard.1)))) in
    let lives : is_complete (session words.tsi tables records) ≡ all =
    ap (λ (s : Session). is_complete s) (session-is words.tsi tables records) ∙ (ap (λ (r : Receiver). list_all (λ life. life.done) r.table.lives) (sym l.heard.0) ∙ sym complete) in
    subst (λ (s : Status). IsRun words tables a b x z s) (sym is)
    (run_of words tables good a b x z (cond all status.Done status.Incomplete) records (Some (EndsBy cause)) l.taken l.within l.in_time l.while_open closes ended (finishes all words tables records cause x z made lives))

pub run-unended : (words : RxWords) (tables : RaptorTables) → AreTables tables → (a b : Option Broadcast) (new : Receiver) (x y z : Outputs) (listened : Listened) (cause : Cause) (reason answer : Status) (result : Result Status Status)
    → listened.ending ≡ EndsBy cause → Listens words a b (fresh words.tsi tables) new x y (Ok listened)
    → ((records : List Record) → length records ≡ listened.datagrams → Stops reason y z (end_events (known_of words tables records (Some cause)) new (Some cause)))
    → result ≡ Err answer → answer ≡ reason → Runs words tables a b x z result
run-unended words tables good a b new x y z listened cause reason answer result by l printed is same =
    let records = l.records in
    let closes : ClosesBy (Some (EndsBy cause)) (is_closed words tables records) =
    closes-as words tables records (Some (EndsBy cause)) (subst (λ (e : Ending). ClosesBy (Some e) (after_records (fresh words.tsi tables) records).receiver.table.closed) by l.heard.2) in
    let ended : Becomes a b (λ _ air. IsEnding words records (Some (EndsBy cause)) air) =
    subst (λ (e : Ending). Becomes a b (λ _ air. IsEnding words records (Some e) air)) by l.heard.3 in
    let stopped : Stops reason x z (events_by words tables records (Some (EndsBy cause))) =
    subst (λ (es : List Event). Stops reason x z es) (events_by-ended words tables records cause)
    (Stops-after reason x y z _ _ l.played (subst (λ (r : Receiver). Stops reason y z (end_events (known_of words tables records (Some cause)) r (Some cause))) l.heard.0 (printed records (sym l.heard.1)))) in
    subst (λ (r : Result Status Status). Runs words tables a b x z r) (sym (is ∙ ap Err same))
    (run_of words tables good a b x z reason records (Some (EndsBy cause)) l.taken l.within l.in_time l.while_open closes ended (Leaves-stopped reason words tables records (Some (EndsBy cause)) x z stopped))

-- the trace broke, and the line that says so was printed, or a status stopped it
pub run-broken : (words : RxWords) (tables : RaptorTables) → AreTables tables → (a b : Option Broadcast) (new : Receiver) (x y z : Outputs) (listened : Listened) (place : ℕ)
    → listened.ending ≡ BreaksAt place → Listens words a b (fresh words.tsi tables) new x y (Ok listened) → Makes y z (Line (program.broken place) ∷ [])
    → IsRun words tables a b x z status.TraceBroken
run-broken words tables good a b new x y z listened place by l printed =
    let records = l.records in
    let closes : ClosesBy (Some (BreaksAt place)) (is_closed words tables records) =
    closes-as words tables records (Some (BreaksAt place)) (subst (λ (e : Ending). ClosesBy (Some e) (after_records (fresh words.tsi tables) records).receiver.table.closed) by l.heard.2) in
    let broke : Becomes a b (λ _ air. IsEnding words records (Some (BreaksAt place)) air) =
    subst (λ (e : Ending). Becomes a b (λ _ air. IsEnding words records (Some e) air)) by l.heard.3 in
    let made : Makes x z (events_by words tables records (Some (BreaksAt place))) =
    subst (λ (es : List Event). Makes x z es) (events_by-broken words tables records place) (Makes-trans x y z _ _ l.played printed) in
    run_of words tables good a b x z status.TraceBroken records (Some (BreaksAt place)) l.taken l.within l.in_time l.while_open closes broke (tt, made)

pub run-unbroken : (words : RxWords) (tables : RaptorTables) → AreTables tables → (a b : Option Broadcast) (new : Receiver) (x y z : Outputs) (listened : Listened) (place : ℕ) (reason answer : Status) (result : Result Status Status)
    → listened.ending ≡ BreaksAt place → Listens words a b (fresh words.tsi tables) new x y (Ok listened) → Stops reason y z (Line (program.broken place) ∷ [])
    → result ≡ Err answer → answer ≡ reason → Runs words tables a b x z result
run-unbroken words tables good a b new x y z listened place reason answer result by l stopped is same =
    let records = l.records in
    let closes : ClosesBy (Some (BreaksAt place)) (is_closed words tables records) =
    closes-as words tables records (Some (BreaksAt place)) (subst (λ (e : Ending). ClosesBy (Some e) (after_records (fresh words.tsi tables) records).receiver.table.closed) by l.heard.2) in
    let broke : Becomes a b (λ _ air. IsEnding words records (Some (BreaksAt place)) air) =
    subst (λ (e : Ending). Becomes a b (λ _ air. IsEnding words records (Some e) air)) by l.heard.3 in
    let stop : Stops reason x z (events_by words tables records (Some (BreaksAt place))) =
    subst (λ (es : List Event). Stops reason x z es) (events_by-broken words tables records place) (Stops-after reason x y z _ _ l.played stopped) in
    subst (λ (r : Result Status Status). Runs words tables a b x z r) (sym (is ∙ ap Err same))
    (run_of words tables good a b x z reason records (Some (BreaksAt place)) l.taken l.within l.in_time l.while_open closes broke (Leaves-stopped reason words tables records (Some (BreaksAt place)) x z stop))

pub from_fresh : (words : RxWords) (tables : RaptorTables) (a b : Option Broadcast) (old new : Receiver) (x y : Outputs) (result : Result Listened Status) → old ≡ fresh words.tsi tables
    → Listens words a b old new x y result → Listens words a b (fresh words.tsi tables) new x y result
from_fresh words tables a b old new x y result e l = subst (λ (r : Receiver). Listens words a b r new x y result) e l

-- the air never stops a store or a sink
pub no_air_fault : (x y : Outputs) (events : List Event) (reason answer : Status) (result : Result Status Status) → result ≡ Err answer → answer ≡ reason
    → Stops reason x y events → result ≡ Err status.AirFault → ⊥
no_air_fault x y events reason answer result is same stopped air =
    let e : reason ≡ status.AirFault = cc in
    let s : Stops status.AirFault x y events = subst (λ (r : Status). Stops r x y events) e stopped in
    s.stop

-- ---- words that are refused, and want of memory before any run

Stays-same : (air : Option Broadcast) → Stays air air
Stays-same None = tt
Stays-same (Some air) = refl

-- what refusing leaves beside a store that stays as it is
pub Refuses-as : (files : Option (List File)) (faults : ℕ) (old new : Option (List ℕ)) (before after : ℕ) (result : Status)
    → printing.Refuses result old new → before ≤ after → (result ≡ status.OutFault → Rose before after)
    → Refuses result (outputs files faults old before) (outputs files faults new after)
Refuses-as files faults old new before after status.Usage printed later fault = record {
  put = Grows-nil files;
  printed = subst (λ (t : List ℕ). Grows old new t) (sym (append-nil program.usage)) printed;
  store_later = omega arith;
  sink_later = later;
}
Refuses-as files faults old new before after status.OutFault printed later fault = record {
  made = [];
  later = Line program.usage ∷ [];
  cut = printed.printed;
  split = refl;
  stop = ((printed.rest, printed.split), fault refl);
  put = Grows-nil files;
  printed = printed.grown;
  store_later = omega arith;
  sink_later = later;
}
Refuses-as files faults old new before after _ printed later fault = absurd printed

-- refusing touches the sink alone
pub refuses-no_air : (old new : Option (List ℕ)) (result : Status) → printing.Refuses result old new → result ≡ status.AirFault → ⊥
refuses-no_air old new result p e = let q : printing.Refuses status.AirFault old new = subst (λ (s : Status). printing.Refuses s old new) e p in q

pub refuses-no_read : (old new : Option (List ℕ)) (result : Status) → printing.Refuses result old new → result ≡ status.ReadFault → ⊥
refuses-no_read old new result p e = let q : printing.Refuses status.ReadFault old new = subst (λ (s : Status). printing.Refuses s old new) e p in q

pub refuses-no_store : (old new : Option (List ℕ)) (result : Status) → printing.Refuses result old new → result ≡ status.StoreFault → ⊥
refuses-no_store old new result p e = let q : printing.Refuses status.StoreFault old new = subst (λ (s : Status). printing.Refuses s old new) e p in q

pub refused_words : (words : Option RxWords) (told_before told_after : Option (List ℕ)) (air : Option Broadcast) (x y : Outputs) (result : Status) → words ≡ None
    → Refuses result x y → Receives words told_before told_after air air x y result
refused_words words told_before told_after air x y result none refused =
    subst (λ (w : Option RxWords). Receives w told_before told_after air air x y result) (sym none) (Stays-same air, refused)

pub received_with : (given : Option RxWords) (words : RxWords) (told_before told_after : Option (List ℕ)) (a b : Option Broadcast) (x y : Outputs) (result : Status)
    → given ≡ Some words → Receives (Some words) told_before told_after a b x y result → Receives given told_before told_after a b x y result
received_with given words told_before told_after a b x y result is received =
    subst (λ (w : Option RxWords). Receives w told_before told_after a b x y result) (sym is) received

pub no_memory : (words : Option RxWords) (told_before told_after : Option (List ℕ)) (air : Option Broadcast) (x : Outputs)
    → Receives words told_before told_after air air x x status.Memory
no_memory None told_before told_after air x = (Stays-same air, Stops-memory x _)
no_memory (Some words) told_before told_after air x = inr (Stays-same air, Stops-memory x [])

-- want of memory before anything was heard
pub run-unmade : (words : RxWords) (tables : RaptorTables) → AreTables tables → (air : Option Broadcast) (x : Outputs) (answer : Status) (result : Result Status Status)
    → result ≡ Err answer → answer ≡ status.Memory → Runs words tables air air x x result
run-unmade words tables good air x answer result is same =
    subst (λ (r : Result Status Status). Runs words tables air air x x r) (sym (is ∙ ap Err same))
    (run_of words tables good air air x x status.Memory [] None (Takes-none air) (omega arith) tt tt tt (goes_on words [] air air (Takes-none air)) (Stops-memory x _))

-- ---- the faults of a call

stopped_store : (words : Option RxWords) (told_before told_after : Option (List ℕ)) (a b : Option Broadcast) (x y : Outputs)
    → Receives words told_before told_after a b x y status.StoreFault → Rose x.store_faults y.store_faults
stopped_store None told_before told_after a b x y r = absurd r.1
stopped_store (Some words) told_before told_after a b x y (inl with) = with.run.left.stop.2
stopped_store (Some words) told_before told_after a b x y (inr stops) = absurd stops.1

pub receives_of_store : (words : Option RxWords) (told_before told_after : Option (List ℕ)) (a b : Option Broadcast) (x y : Outputs) (result : Status)
    → Receives words told_before told_after a b x y result → result ≡ status.StoreFault → Rose x.store_faults y.store_faults
receives_of_store words told_before told_after a b x y result r is =
    stopped_store words told_before told_after a b x y (subst (λ (s : Status). Receives words told_before told_after a b x y s) is r)

stopped_sink : (words : Option RxWords) (told_before told_after : Option (List ℕ)) (a b : Option Broadcast) (x y : Outputs)
    → Receives words told_before told_after a b x y status.OutFault → Rose x.sink_faults y.sink_faults
stopped_sink None told_before told_after a b x y r = r.1.stop.1
stopped_sink (Some words) told_before told_after a b x y (inl with) = with.run.left.stop.1
stopped_sink (Some words) told_before told_after a b x y (inr stops) = stops.1.2.stop.1

pub receives_of_sink : (words : Option RxWords) (told_before told_after : Option (List ℕ)) (a b : Option Broadcast) (x y : Outputs) (result : Status)
    → Receives words told_before told_after a b x y result → result ≡ status.OutFault → Rose x.sink_faults y.sink_faults
receives_of_sink words told_before told_after a b x y result r is =
    stopped_sink words told_before told_after a b x y (subst (λ (s : Status). Receives words told_before told_after a b x y s) is r)

-- stopping at the tables touches no air
pub stops-no_air : (named told old new : Option (List ℕ)) (before after : ℕ) (result : Status) → StopsReading named told old before new after result
    → result ≡ status.AirFault → ⊥
stops-no_air named told old new before after result stops e =
    let s : StopsReading named told old before new after status.AirFault = subst (StopsReading named told old before new after) e stops in s None 0

-- words without tables
pub not_some : {A : Type 0} (x : Option A) → is_some x ≡ false → x ≡ None
not_some None is = refl
not_some (Some x) is = absurd cc

pub no_names : (words : Option RxWords) (values : RxWords) → words ≡ Some values → names_tables words ≡ false → values.tables ≡ None
no_names words values is none = not_some values.tables (subst (λ (w : Option RxWords). names_tables w ≡ false) is none)
