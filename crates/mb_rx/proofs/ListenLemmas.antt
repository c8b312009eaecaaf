-- How listening goes on: what was taken from the air, what records make of a receiver one after another, and
-- what was made or stopped.
use Rattle.std.proofs.Common.{◌≡◌, ℕ, ◌<◌, ◌≤◌, ◌+◌, false, length, length-append, List, [], ◌∷◌, ◌++◌, fold, take, Option, Some, None, Result, Ok, Err, OnOk, refl, sym, ap, subst, ◌∙◌, append_assoc, append-nil, arith}
use Rattle.std.proofs.lemmas.List.Sums.{fold-append}
use Rattle.mb_base.specs.Outside.{Becomes}
use Rattle.mb_base.specs.Broadcast.{Record, Broadcast, Hears, IsPast, Takes, IsOver}
use Rattle.mb_base.specs.AirEvent.TheVariants.{Datagram, Quiet, Ended, Broken, Failed}
use Rattle.mb_base.specs.Status.{Status}
use Rattle.mb_base.specs.Status.TheVariants as status
use Rattle.mb_words.specs.declared.rx.RxWords.{RxWords}
use Rattle.mb_rx.specs.declared.session.Listened.{Listened}
use Rattle.mb_rx.specs.declared.cause.Ending.{Ending}
use Rattle.mb_rx.specs.declared.cause.Ending.TheVariants.{EndsBy, BreaksAt}
use Rattle.mb_rx.specs.declared.cause.Cause.TheVariants as cause
use Rattle.mb_machine.specs.Table.{Table}
use Rattle.mb_machine.specs.Laws.{with_hand_outs}
use Rattle.mb_machine.specs.declared.happened.Happened.{Happened}
use Rattle.mb_rx.specs.Receiver.{Receiver, step}
use Rattle.mb_rx.specs.Run.{Event, Session, packet_events, hand_out_events, after_step, after_record}
use Rattle.mb_rx.specs.Receive.{Outputs, Makes, Stops, Does, AreInTime, IsEnding, ClosesBy, datagrams_most}
use Rattle.mb_rx.specs.Listening as listening
use Rattle.mb_rx.specs.Listening.{Plays, after_records, TakenOpen}
use Rattle.mb_rx.proofs.Making.{Makes-nil, Makes-trans, Stops-after, Stops-more, Stops-memory, Does-after}

-- ---- the air

pub Takes-none : (air : Option Broadcast) → Becomes air air (Takes [])
Takes-none None = tt
Takes-none (Some air) = refl

pub Takes-trans : (a b c : Option Broadcast) (xs ys : List Record) → Becomes a b (Takes xs) → Becomes b c (Takes ys) → Becomes a c (Takes (xs ++ ys))
Takes-trans None b c xs ys p q = tt
Takes-trans (Some a) None c xs ys p q = absurd p
Takes-trans (Some a) (Some b) None xs ys p q = absurd q
Takes-trans (Some a) (Some b) (Some c) xs ys p q =
    p ∙ (ap (λ (x : Broadcast). record x { records = xs ++ x.records }) q
    ∙ ap (λ (rs : List Record). record c { records = rs }) (sym (append_assoc xs ys c.records)))

-- an event that takes no record
pub Hears-datagram : (until at len : ℕ) (buf : List ℕ) (a b : Option Broadcast) → Becomes a b (Hears until (Datagram at len) buf)
    → Becomes a b (Takes (record { at = at; bytes = take len buf } ∷ []))
Hears-datagram until at len buf None b p = tt
Hears-datagram until at len buf (Some a) None p = absurd p
Hears-datagram until at len buf (Some a) (Some b) p = p

-- an event that takes none tells how the session ended
pub Hears-quiet : (words : RxWords) (buf : List ℕ) (a b : Option Broadcast) → Becomes a b (Hears words.until Quiet buf)
    → Becomes a b (Takes []) × Becomes a b (λ _ air. IsEnding words [] (Some (EndsBy cause.Quiet)) air)
Hears-quiet words buf None b p = (tt, tt)
Hears-quiet words buf (Some a) None p = absurd p
Hears-quiet words buf (Some a) (Some b) p = (sym p.1, subst (λ (x : Broadcast). IsPast words.until x.records) (sym p.1) p.0)

pub Hears-ended : (words : RxWords) (buf : List ℕ) (a b : Option Broadcast) → Becomes a b (Hears words.until Ended buf)
    → Becomes a b (Takes []) × Becomes a b (λ _ air. IsEnding words [] (Some (EndsBy cause.Ended)) air)
Hears-ended words buf None b p = (tt, tt)
Hears-ended words buf (Some a) None p = absurd p
Hears-ended words buf (Some a) (Some b) p = (sym p.2, subst (IsOver None) (sym p.2) (record { none_left = p.0; end = p.1 }))

pub Hears-broken : (words : RxWords) (place : ℕ) (buf : List ℕ) (a b : Option Broadcast) → Becomes a b (Hears words.until (Broken place) buf)
    → Becomes a b (Takes []) × Becomes a b (λ _ air. IsEnding words [] (Some (BreaksAt place)) air)
Hears-broken words place buf None b p = (tt, tt)
Hears-broken words place buf (Some a) None p = absurd p
Hears-broken words place buf (Some a) (Some b) p = (sym p.2, subst (IsOver (Some place)) (sym p.2) (record { none_left = p.0; end = p.1 }))

-- where the air isn't asked, nothing changes
pub closed-ending : (words : RxWords) (air : Option Broadcast) → Becomes air air (Takes []) × Becomes air air (λ _ now. IsEnding words [] (Some (EndsBy cause.Closed)) now)
closed-ending words None = (tt, tt)
closed-ending words (Some air) = (refl, tt)

pub Hears-failed : (until : ℕ) (buf : List ℕ) (a b : Option Broadcast) → Becomes a b (Hears until Failed buf) → Becomes a b (Takes [])
Hears-failed until buf None b p = tt
Hears-failed until buf (Some a) None p = absurd p
Hears-failed until buf (Some a) (Some b) p = sym p

-- how a session ended is told by its last part
pub ending-after : (words : RxWords) (records : List Record) (ending : Ending) (a b c : Option Broadcast) → Becomes a b (Takes records)
    → Becomes b c (λ _ air. IsEnding words [] (Some ending) air) → Becomes a c (λ _ air. IsEnding words records (Some ending) air)
ending-after words records ending None b c p q = tt
ending-after words records ending (Some a) None c p q = absurd p
ending-after words records ending (Some a) (Some b) None p q = absurd q
ending-after words records (EndsBy cause.Quiet) (Some a) (Some b) (Some c) p q = q
ending-after words records (EndsBy cause.Ended) (Some a) (Some b) (Some c) p q = q
ending-after words records (EndsBy cause.Closed) (Some a) (Some b) (Some c) p q = q
ending-after words records (EndsBy cause.Limit) (Some a) (Some b) (Some c) p q = absurd (omega (arith, q))
ending-after words records (BreaksAt place) (Some a) (Some b) (Some c) p q = q

-- ---- what records make of a receiver

fold-from : (r : Receiver) (events : List Event) (records : List Record)
    → fold after_record (record { receiver = r; events = events }) records
    ≡ record { receiver = (after_records r records).receiver; events = events ++ (after_records r records).events }
fold-from r events [] = ap (λ (es : List Event). record { receiver = r; events = es }) (sym (append-nil events))
fold-from r events (heard ∷ records) =
    let s = after_record (record { receiver = r; events = [] }) heard in
    fold-from s.receiver (events ++ s.events) records
    ∙ (ap (λ (es : List Event). record { receiver = (after_records s.receiver records).receiver; events = es }) (append_assoc events s.events (after_records s.receiver records).events)
    ∙ ap (λ (x : Session). record { receiver = x.receiver; events = events ++ x.events }) (sym (fold-from s.receiver s.events records)))

-- records after records
pub after_records-append : (r : Receiver) (xs ys : List Record)
    → after_records r (xs ++ ys) ≡ record {
      receiver = (after_records (after_records r xs).receiver ys).receiver;
      events = (after_records r xs).events ++ (after_records (after_records r xs).receiver ys).events;
    }
after_records-append r xs ys = fold-append after_record (record { receiver = r; events = [] }) xs ys ∙ fold-from (after_records r xs).receiver (after_records r xs).events ys

-- a record, by what hearing it did
pub after-heard : (old mid : Receiver) (heard : Record) (happened : Option Happened) → step old heard ≡ record { receiver = mid; happened = happened }
    → after_record (record { receiver = old; events = [] }) heard
    ≡ record { receiver = record mid { table = with_hand_outs mid.table }; events = packet_events happened ++ hand_out_events mid.table.lives }
after-heard old mid heard happened is = ap (after_step []) is

-- the events of a record, of which the first ones were stopped, or all were made
pub heard-unprinted : (x y : Outputs) (old mid : Receiver) (heard : Record) (happened : Option Happened) (reason : Status)
    → step old heard ≡ record { receiver = mid; happened = happened } → Stops reason x y (packet_events happened)
    → Stops reason x y (after_record (record { receiver = old; events = [] }) heard).events
heard-unprinted x y old mid heard happened reason is s =
    subst (λ (r : Session). Stops reason x y r.events) (sym (after-heard old mid heard happened is)) (Stops-more reason x y (packet_events happened) _ s)

pub heard-printed : {A : Type 0} (x y z : Outputs) (old mid : Receiver) (heard : Record) (happened : Option Happened) (result : Result A Status)
    → step old heard ≡ record { receiver = mid; happened = happened } → Makes x y (packet_events happened)
    → Does y z (hand_out_events mid.table.lives) result → Does x z (after_record (record { receiver = old; events = [] }) heard).events result
heard-printed x y z old mid heard happened result is m d =
    subst (λ (r : Session). Does x z r.events result) (sym (after-heard old mid heard happened is)) (Does-after x y z (packet_events happened) _ result m d)

-- and the receiver
pub heard-left : (old mid new : Receiver) (table : Table) (heard : Record) (happened : Option Happened) → step old heard ≡ record { receiver = mid; happened = happened }
    → table ≡ with_hand_outs mid.table → new ≡ record mid { table = table } → new ≡ (after_record (record { receiver = old; events = [] }) heard).receiver
heard-left old mid new table heard happened is left now =
    now ∙ (ap (λ (t : Table). record mid { table = t }) left ∙ sym (ap (λ (r : Session). r.receiver) (after-heard old mid heard happened is)))

-- what a result that succeeded tells more
pub OnOk-more : {A P Q : Type 0} (result : Result A Status) → (P → Q) → OnOk result P → OnOk result Q
OnOk-more (Ok x) more p = more p
OnOk-more (Err reason) more p = tt

-- ---- records taken while the session was open

pub TakenOpen-append : (r : Receiver) (xs ys : List Record) → TakenOpen r xs → TakenOpen (after_records r xs).receiver ys → TakenOpen r (xs ++ ys)
TakenOpen-append r [] ys p q = q
TakenOpen-append r (heard ∷ xs) ys p q =
    let one = (after_records r (heard ∷ [])).receiver in
    let same : (after_records r (heard ∷ xs)).receiver ≡ (after_records one xs).receiver = ap (λ (s : Session). s.receiver) (after_records-append r (heard ∷ []) xs) in
    (p.0, TakenOpen-append one xs ys p.1 (subst (λ (x : Receiver). TakenOpen x ys) same q))

-- a record was taken at the place where it stands
pub TakenOpen-split : (r : Receiver) (before after : List Record) (heard : Record) → TakenOpen r (before ++ heard ∷ after)
    → (after_records r before).receiver.table.closed ≡ false
TakenOpen-split r [] after heard p = p.0
TakenOpen-split r (x ∷ before) after heard p =
    let one = (after_records r (x ∷ [])).receiver in
    ap (λ (s : Session). s.receiver.table.closed) (after_records-append r (x ∷ []) before) ∙ TakenOpen-split one before after heard p.1

-- the next records were taken while it was open
open-next : (r : Receiver) (records : List Record) → length records ≤ 1 → r.table.closed ≡ false → TakenOpen r records
open-next r [] one still = tt
open-next r (heard ∷ []) one still = (still, tt)
open-next r (heard ∷ next ∷ records) one still = absurd (omega arith)

-- ---- records in time

in_time-append : (words : RxWords) (xs ys : List Record) → AreInTime words xs → AreInTime words ys → AreInTime words (xs ++ ys)
in_time-append words [] ys p q = q
in_time-append words (heard ∷ xs) ys p q = (p.0, in_time-append words xs ys p.1 q)

-- ---- what was made, or stopped

pub Plays-stopped : (A : Type 0) (reason : Status) (a b : Outputs) (events : List Event) → Stops reason a b events → Plays {A = A} a b events (Err reason)
Plays-stopped A status.AirFault a b events s = absurd s.stop
Plays-stopped A _ a b events s = s

-- a failing air stops no event
stops-no_air : (reason : Status) (a b : Outputs) (events : List Event) → reason ≡ status.AirFault → Stops reason a b events → ⊥
stops-no_air reason a b events is s = let at : Stops status.AirFault a b events = subst (λ (r : Status). Stops r a b events) is s in at.stop

-- ---- the next datagram

-- a datagram was taken, and a status stopped its events
pub hears-stopped : (words : RxWords) (air_before air_after : Option Broadcast) (old new : Receiver) (before after : Outputs)
    (heard : Record) (reason answer : Status) (result : Result (Option Ending) Status) → Becomes air_before air_after (Takes (heard ∷ []))
    → heard.at ≤ words.until → result ≡ Err answer → answer ≡ reason → old.table.closed ≡ false → Stops reason before after (after_record (record { receiver = old; events = [] }) heard).events
    → listening.Hears words air_before air_after old new before after result
hears-stopped words air_before air_after old new before after heard reason answer result taken in_time is same still stopped =
    subst (λ (x : Result (Option Ending) Status). listening.Hears words air_before air_after old new before after x) (sym (is ∙ ap Err same))
    (record {
      records = heard ∷ [];
      taken = taken;
      one = omega arith;
      in_time = (in_time, tt);
      asked = still;
      failed = λ air. absurd (stops-no_air reason before after _ air stopped);
      heard = tt;
      played = Plays-stopped (Option Ending) reason before after _ stopped;
    })

-- no datagram was taken, for this is how the session ended
pub hears-ending : (words : RxWords) (air_before air_after : Option Broadcast) (old : Receiver) (outputs : Outputs) (ending : Ending)
    → ClosesBy (Some ending) old.table.closed → Becomes air_before air_after (Takes []) × Becomes air_before air_after (λ _ air. IsEnding words [] (Some ending) air)
    → listening.Hears words air_before air_after old old outputs outputs (Ok (Some ending))
hears-ending words air_before air_after old outputs ending closed tells = record {
  records = [];
  taken = tells.0;
  one = omega arith;
  in_time = tt;
  asked = closed;
  failed = tt;
  heard = (refl, refl, tells.1);
  played = Makes-nil outputs;
}

-- ---- listening, datagram after datagram

pub Plays-after : (A B : Type 0) (reason : Status) (a b c : Outputs) (xs ys : List Event) → Makes a b xs → Plays {A = A} b c ys (Err reason) → Plays {A = B} a c (xs ++ ys) (Err reason)
Plays-after A B status.AirFault a b c xs ys m p = Makes-trans a b c xs ys m p
Plays-after A B status.Done a b c xs ys m p = Stops-after status.Done a b c xs ys m p
Plays-after A B status.Incomplete a b c xs ys m p = Stops-after status.Incomplete a b c xs ys m p
Plays-after A B status.Usage a b c xs ys m p = Stops-after status.Usage a b c xs ys m p
Plays-after A B status.Tables a b c xs ys m p = Stops-after status.Tables a b c xs ys m p
Plays-after A B status.TraceBroken a b c xs ys m p = Stops-after status.TraceBroken a b c xs ys m p
Plays-after A B status.ReadFault a b c xs ys m p = Stops-after status.ReadFault a b c xs ys m p
Plays-after A B status.StoreFault a b c xs ys m p = Stops-after status.StoreFault a b c xs ys m p
Plays-after A B status.OutFault a b c xs ys m p = Stops-after status.OutFault a b c xs ys m p
Plays-after A B status.Memory a b c xs ys m p = Stops-after status.Memory a b c xs ys m p
Plays-after A B status.BadFile a b c xs ys m p = Stops-after status.BadFile a b c xs ys m p
Plays-after A B status.Unusable a b c xs ys m p = Stops-after status.Unusable a b c xs ys m p
Plays-after A B status.ServeFault a b c xs ys m p = Stops-after status.ServeFault a b c xs ys m p
Plays-after A B status.NoJ a b c xs ys m p = Stops-after status.NoJ a b c xs ys m p

pub so_far-none : (words : RxWords) (air : Option Broadcast) (old : Receiver) (outputs : Outputs) → listening.IsHeardSoFar words 0 air air old old outputs outputs
so_far-none words air old outputs =
    record { records = []; taken = Takes-none air; number = refl; in_time = tt; while_open = tt; heard = refl; made = Makes-nil outputs }

-- where the session goes on, a datagram was heard
pub heard_on : (words : RxWords) (b c : Option Broadcast) (old new : Receiver) (y z : Outputs) (ending : Option Ending) → ending ≡ None
    → listening.Hears words b c old new y z (Ok ending) → listening.Hears words b c old new y z (Ok None)
heard_on words b c old new y z ending e h = subst (λ (o : Option Ending). listening.Hears words b c old new y z (Ok o)) e h

pub so_far-next : (words : RxWords) (n : ℕ) (a b c : Option Broadcast) (old mid new : Receiver) (x y z : Outputs)
    → listening.IsHeardSoFar words n a b old mid x y → listening.Hears words b c mid new y z (Ok None) → listening.IsHeardSoFar words (n + 1) a c old new x z
so_far-next words n a b c old mid new x y z s next =
    let before = after_records old s.records in
    let h : listening.Hears words b c before.receiver new y z (Ok None) = subst (λ (m : Receiver). listening.Hears words b c m new y z (Ok None)) s.heard next in
    let joined = after_records-append old s.records h.records in
    record {
      records = s.records ++ h.records;
      taken = Takes-trans a b c s.records h.records s.taken h.taken;
      number = length-append s.records h.records ∙ omega (arith, s.number, h.heard.0);
      in_time = in_time-append words s.records h.records s.in_time h.in_time;
      while_open = TakenOpen-append old s.records h.records s.while_open (open-next before.receiver h.records h.one h.asked);
      heard = h.heard.1 ∙ sym (ap (λ (r : Session). r.receiver) joined);
      made = subst (λ (es : List Event). Makes x z es) (sym (ap (λ (r : Session). r.events) joined)) (Makes-trans x y z before.events _ s.made h.played);
    }

pub listens-stopped : (words : RxWords) (n : ℕ) (a b c : Option Broadcast) (old mid new : Receiver) (x y z : Outputs)
    (reason answer : Status) (result : Result Listened Status) → listening.IsHeardSoFar words n a b old mid x y → n < datagrams_most
    → result ≡ Err answer → answer ≡ reason → listening.Hears words b c mid new y z (Err reason) → listening.Listens words a c old new x z result
listens-stopped words n a b c old mid new x y z reason answer result s room is same next =
    let before = after_records old s.records in
    let h : listening.Hears words b c before.receiver new y z (Err reason) = subst (λ (m : Receiver). listening.Hears words b c m new y z (Err reason)) s.heard next in
    let joined = after_records-append old s.records h.records in
    subst (λ (r : Result Listened Status). listening.Listens words a c old new x z r) (sym (is ∙ ap Err same)) (record {
      records = s.records ++ h.records;
      taken = Takes-trans a b c s.records h.records s.taken h.taken;
      within = let len : length (s.records ++ h.records) ≡ length s.records + length h.records = length-append s.records h.records in omega (arith, s.number, h.one, room, len);
      in_time = in_time-append words s.records h.records s.in_time h.in_time;
      while_open = TakenOpen-append old s.records h.records s.while_open (open-next before.receiver h.records h.one h.asked);
      failed = λ air. ap (λ (r : Session). r.receiver.table.closed) joined ∙ h.failed air;
      heard = tt;
      played = subst (λ (es : List Event). Plays {A = Listened} x z es (Err reason)) (sym (ap (λ (r : Session). r.events) joined)) (Plays-after (Option Ending) Listened reason x y z before.events _ s.made h.played);
    })

-- want of memory before anything was heard
pub listens-memory : (words : RxWords) (air : Option Broadcast) (old : Receiver) (outputs : Outputs) (answer : Status) (result : Result Listened Status)
    → result ≡ Err answer → answer ≡ status.Memory → listening.Listens words air air old old outputs outputs result
listens-memory words air old outputs answer result is same =
    subst (λ (r : Result Listened Status). listening.Listens words air air old old outputs outputs r) (sym (is ∙ ap Err same))
    (record { records = []; taken = Takes-none air; within = omega arith; in_time = tt; while_open = tt; failed = λ air. absurd cc; heard = tt; played = Stops-memory outputs [] })
