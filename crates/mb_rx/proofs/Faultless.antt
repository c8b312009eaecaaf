-- What a call without a fault of the outside answers.
use Rattle.std.proofs.Common.{◌≡◌, ℕ, ◌≤◌, ◌<◌, ◌+◌, List, [], ◌∷◌, ◌++◌, length, length-append, ◌||◌, true, false, fold, Option, Some, None, Result, Ok, Err, inl, inr, arith, refl, sym, ◌∙◌, ap, subst}
use Rattle.std.specs.List.{AllByRecursion}
use Rattle.mb_base.specs.Outside.{Becomes, Rose}
use Rattle.mb_base.specs.Broadcast.{Record, Broadcast, IsPast, Takes}
use Rattle.mb_base.specs.Status.{Status}
use Rattle.mb_base.specs.Status.TheVariants as status
use Rattle.mb_words.specs.declared.rx.RxWords.{RxWords}
use Rattle.mb_rx.specs.declared.cause.Cause.TheVariants as cause
use Rattle.mb_rx.specs.declared.cause.Ending.{Ending}
use Rattle.mb_rx.specs.declared.cause.Ending.TheVariants.{EndsBy, BreaksAt}
use Rattle.mb_alc.specs.Packet.{Packet, packet_of}
use Rattle.mb_alc.specs.declared.fault.PacketFault.{PacketFault}
use Rattle.mb_machine.specs.Table.{Table, tick}
use Rattle.mb_machine.specs.Packets.{Stepped, drop_for, closes, hear_packet, packet}
use Rattle.mb_machine.specs.declared.reason.Reason.TheVariants as reason
use Rattle.mb_tables.specs.Tables.{RaptorTables}
use Rattle.mb_rx.specs.Receiver.{Receiver, hear_datagram}
use Rattle.mb_rx.specs.Run.{Session, after_record, session}
use Rattle.mb_rx.proofs.Growth.{session-append}
use Rattle.mb_tables.specs.declared.fault.TablesFault.{TablesFault}
use Rattle.mb_rx.specs.Tables.{IsReadAs, IsRefusedAs, AreGoodTables, AreBadTables}
use Rattle.mb_rx.specs.Receive.{Receives, StopsAtTables, FindsBad, ClosesBy, is_closed, datagrams_most, Outputs, IsEnding, IsEnded, IsBroken, IsRun, IsUncounted, IsWholeTrace, IsCutTrace, Completes, FindsBroken}

-- an air that is not broken does not break
unbroken : (words : RxWords) (records : List Record) (ending : Option Ending) (old : Broadcast) (air : Option Broadcast) → old.broken ≡ None
    → Becomes (Some old) air (Takes records) → Becomes (Some old) air (λ _ now. IsEnding words records ending now) → IsBroken ending → ⊥
unbroken words records None old air whole taken ends broken = broken
unbroken words records (Some (EndsBy cause)) old air whole taken ends broken = broken
unbroken words records (Some (BreaksAt place)) old None whole taken ends broken = taken
unbroken words records (Some (BreaksAt place)) old (Some now) whole taken ends broken =
    let same : old.broken ≡ now.broken = ap (λ (b : Broadcast). b.broken) taken in
    let there : now.broken ≡ Some place = ends.end in
    cc

faultless : (words : RxWords) (tables : RaptorTables) (a b : Option Broadcast) (x y : Outputs) (from to before after : ℕ) (result : Status) → IsRun words tables a b x y result
    → (result ≡ status.AirFault → Rose before after) → IsWholeTrace a → IsUncounted from to before after x y → Completes result
faultless words tables a b x y from to before after status.Done r cause f same = tt
faultless words tables a b x y from to before after status.Incomplete r cause f same = tt
faultless words tables a b x y from to before after status.Memory r cause f same = tt
faultless words tables a b x y from to before after status.TraceBroken r cause f same =
    absurd (unbroken words r.records r.ending f.broadcast b f.unbroken
    (subst (λ (o : Option Broadcast). Becomes o b (Takes r.records)) f.told r.taken)
    (subst (λ (o : Option Broadcast). Becomes o b (λ _ now. IsEnding words r.records r.ending now)) f.told r.ends) r.left.0)
faultless words tables a b x y from to before after status.AirFault r cause f same = absurd (same.air_same (cause refl))
faultless words tables a b x y from to before after status.StoreFault r cause f same = absurd (same.store_same r.left.stop.2)
faultless words tables a b x y from to before after status.OutFault r cause f same = absurd (same.sink_same r.left.stop.1)
faultless words tables a b x y from to before after _ r cause f same = absurd r.left

-- a record that is later than the session listens is not among those of the air
late : (until : ℕ) (records rest : List Record) → AllByRecursion (λ heard. heard.at ≤ until) (records ++ rest) → IsPast until rest → ⊥
late until [] [] in_time past = past
late until [] (next ∷ later) in_time past = let by : next.at ≤ until = in_time.0 in omega (arith, by, past)
late until (heard ∷ records) rest in_time past = late until records rest in_time.1 past

-- a session that took the most records was given as many
most : (m : ℕ) (records rest : List Record) → length records ≡ m → length (records ++ rest) < m → ⊥
most m records rest all few = let len : length (records ++ rest) ≡ length records + length rest = length-append records rest in omega (arith, all, few, len)

-- a session that was closed stays closed
packet-closed : (at : ℕ) (p : Packet) (t : Table) → t.closed ≡ true → (packet at p t).table.closed ≡ true
packet-closed at p t closed =
    let dropped : hear_packet p (tick at t) ≡ drop_for reason.Closed (tick at t) = rw closed refl in
    ap (λ (s : Stepped). s.table.closed || closes t.tsi p) dropped ∙ ap (λ b. b || closes t.tsi p) closed

datagram-closed : (at : ℕ) (p : Result Packet PacketFault) (r : Receiver) → r.table.closed ≡ true → (hear_datagram at p r).receiver.table.closed ≡ true
datagram-closed at (Err fault) r closed = closed
datagram-closed at (Ok p) r closed = packet-closed at p r.table closed

records-closed : (s : Session) (records : List Record) → s.receiver.table.closed ≡ true → (fold after_record s records).receiver.table.closed ≡ true
records-closed s [] closed = closed
records-closed s (heard ∷ records) closed =
    records-closed (after_record s heard) records (datagram-closed heard.at (packet_of heard.bytes) s.receiver closed)

stays-closed : (words : RxWords) (tables : RaptorTables) (xs ys : List Record) → is_closed words tables xs ≡ true → is_closed words tables (xs ++ ys) ≡ true
stays-closed words tables xs ys closed =
    ap (λ (s : Session). s.receiver.table.closed) (session-append words.tsi tables xs ys) ∙ records-closed (session words.tsi tables xs) ys closed

-- a session that listens up to where the air breaks does not end before
not_ended : (words : RxWords) (tables : RaptorTables) (records : List Record) (ending : Option Ending) (old : Broadcast) (air : Option Broadcast) (place : ℕ) → old.broken ≡ Some place
    → length old.records < datagrams_most → AllByRecursion (λ heard. heard.at ≤ words.until) old.records
    → is_closed words tables old.records ≡ false → ClosesBy ending (is_closed words tables records)
    → Becomes (Some old) air (Takes records) → Becomes (Some old) air (λ _ now. IsEnding words records ending now) → IsEnded ending → ⊥
not_ended words tables records None old air place broken few in_time still closes taken ends ended = ended
not_ended words tables records (Some (BreaksAt at)) old air place broken few in_time still closes taken ends ended = ended
not_ended words tables records (Some (EndsBy why)) old None place broken few in_time still closes taken ends ended = taken
not_ended words tables records (Some (EndsBy cause.Quiet)) old (Some now) place broken few in_time still closes taken ends ended =
    late words.until records now.records (subst (λ (b : Broadcast). AllByRecursion (λ heard. heard.at ≤ words.until) b.records) taken in_time) ends
not_ended words tables records (Some (EndsBy cause.Ended)) old (Some now) place broken few in_time still closes taken ends ended =
    let same : old.broken ≡ now.broken = ap (λ (b : Broadcast). b.broken) taken in
    let none : now.broken ≡ None = ends.end in
    cc
not_ended words tables records (Some (EndsBy cause.Closed)) old (Some now) place broken few in_time still closes taken ends ended =
    let closed : is_closed words tables old.records ≡ true = ap (λ (b : Broadcast). is_closed words tables b.records) taken ∙ stays-closed words tables records now.records closes in
    cc
not_ended words tables records (Some (EndsBy cause.Limit)) old (Some now) place broken few in_time still closes taken ends ended =
    most datagrams_most records now.records ends (subst (λ (b : Broadcast). length b.records < datagrams_most) taken few)

ended_whole : (words : RxWords) (tables : RaptorTables) (a b : Option Broadcast) (x y : Outputs) (result : Status) (r : IsRun words tables a b x y result)
    → IsCutTrace words tables a → IsEnded r.ending → ⊥
ended_whole words tables a b x y result r f ended = not_ended words tables r.records r.ending f.broadcast b f.place f.broken f.few f.in_time f.while_open r.closes
    (subst (λ (o : Option Broadcast). Becomes o b (Takes r.records)) f.told r.taken)
    (subst (λ (o : Option Broadcast). Becomes o b (λ _ now. IsEnding words r.records r.ending now)) f.told r.ends) ended

found_broken : (words : RxWords) (tables : RaptorTables) (a b : Option Broadcast) (x y : Outputs) (from to before after : ℕ) (result : Status) → IsRun words tables a b x y result
    → (result ≡ status.AirFault → Rose before after) → IsCutTrace words tables a → IsUncounted from to before after x y → FindsBroken result
found_broken words tables a b x y from to before after status.TraceBroken r cause f same = tt
found_broken words tables a b x y from to before after status.Memory r cause f same = tt
found_broken words tables a b x y from to before after status.Done r cause f same = absurd (ended_whole words tables a b x y status.Done r f r.left.ended)
found_broken words tables a b x y from to before after status.Incomplete r cause f same = absurd (ended_whole words tables a b x y status.Incomplete r f r.left.ended)
found_broken words tables a b x y from to before after status.AirFault r cause f same = absurd (same.air_same (cause refl))
found_broken words tables a b x y from to before after status.StoreFault r cause f same = absurd (same.store_same r.left.stop.2)
found_broken words tables a b x y from to before after status.OutFault r cause f same = absurd (same.sink_same r.left.stop.1)
found_broken words tables a b x y from to before after _ r cause f same = absurd r.left

-- ---- whole calls

same_answer : (p : Result RaptorTables TablesFault) (s t : RaptorTables) → p ≡ Ok s → p ≡ Ok t → s ≡ t
same_answer p s t is also = cc

one_answer : (p : Result RaptorTables TablesFault) (t : RaptorTables) (fault : TablesFault) → p ≡ Ok t → p ≡ Err fault → ⊥
one_answer p t fault is also = absurd cc

-- good tables are not refused
good-unrefused : (named told : Option (List ℕ)) (tables : RaptorTables) (fault : TablesFault) → AreGoodTables named told tables → IsRefusedAs named told fault → ⊥
good-unrefused None told tables fault good is = is
good-unrefused (Some name) None tables fault good is = good
good-unrefused (Some name) (Some bytes) tables fault good is =
    one_answer (Ok tables) tables fault refl ((is.1 (Ok tables)).0 good)

-- those that were read are they
good-read : (named told after : Option (List ℕ)) (t tables : RaptorTables) → AreGoodTables named told tables → IsReadAs named told after t → t ≡ tables
good-read None told after t tables good is = is ∙ sym good
good-read (Some name) None after t tables good is = absurd good
good-read (Some name) (Some bytes) after t tables good is = sym (same_answer (Ok tables) tables t refl ((is.0 (Ok tables)).0 good))

-- bad tables were not read
bad-unread : (named told after : Option (List ℕ)) (t : RaptorTables) → AreBadTables named told → IsReadAs named told after t → ⊥
bad-unread None told after t bad is = bad
bad-unread (Some name) None after t bad is = bad
bad-unread (Some name) (Some bytes) after t bad is = bad t ((is.0 (Ok t)).1 refl)

stops-complete : (named told : Option (List ℕ)) (tables : RaptorTables) (x y : Outputs) (from to before after : ℕ) (result : Status) → StopsAtTables named told result x y
    → (result ≡ status.ReadFault → Rose from to) → AreGoodTables named told tables → IsUncounted from to before after x y → result ≡ status.Memory
stops-complete named told tables x y from to before after status.Tables stops read good same = absurd (good-unrefused named told tables stops.0 good stops.1)
stops-complete named told tables x y from to before after status.ReadFault stops read good same = absurd (same.read_same (read refl))
stops-complete named told tables x y from to before after status.OutFault stops read good same = absurd (same.sink_same stops.2.stop.1)
stops-complete named told tables x y from to before after status.Memory stops read good same = refl
stops-complete named told tables x y from to before after _ stops read good same = absurd stops

pub calls_complete : (words : RxWords) (told_before told_after : Option (List ℕ)) (tables : RaptorTables) (a b : Option Broadcast) (x y : Outputs)
    (from to before after : ℕ) (result : Status) → Receives (Some words) told_before told_after a b x y result
    → (result ≡ status.ReadFault → Rose from to) → (result ≡ status.AirFault → Rose before after)
    → AreGoodTables words.tables told_before tables → IsWholeTrace a → IsUncounted from to before after x y → Completes result
calls_complete words told_before told_after tables a b x y from to before after result (inl with) read air good whole same =
    faultless words with.tables a b x y from to before after result with.run air whole same
calls_complete words told_before told_after tables a b x y from to before after result (inr stops) read air good whole same =
    subst Completes (sym (stops-complete words.tables told_before tables x y from to before after result stops.1 read good same)) tt

pub calls_find_broken : (words : RxWords) (told_before told_after : Option (List ℕ)) (tables : RaptorTables) (a b : Option Broadcast) (x y : Outputs)
    (from to before after : ℕ) (result : Status) → Receives (Some words) told_before told_after a b x y result
    → (result ≡ status.ReadFault → Rose from to) → (result ≡ status.AirFault → Rose before after)
    → AreGoodTables words.tables told_before tables → IsCutTrace words tables a → IsUncounted from to before after x y → FindsBroken result
calls_find_broken words told_before told_after tables a b x y from to before after result (inl with) read air good broken same =
    found_broken words with.tables a b x y from to before after result with.run air
    (subst (λ (t : RaptorTables). IsCutTrace words t a) (sym (good-read words.tables told_before told_after with.tables tables good with.read)) broken) same
calls_find_broken words told_before told_after tables a b x y from to before after result (inr stops) read air good broken same =
    subst FindsBroken (sym (stops-complete words.tables told_before tables x y from to before after result stops.1 read good same)) tt

stops-bad : (named told : Option (List ℕ)) (x y : Outputs) (from to before after : ℕ) (result : Status) → StopsAtTables named told result x y
    → (result ≡ status.ReadFault → Rose from to) → IsUncounted from to before after x y → FindsBad result
stops-bad named told x y from to before after status.Tables stops read same = tt
stops-bad named told x y from to before after status.ReadFault stops read same = absurd (same.read_same (read refl))
stops-bad named told x y from to before after status.OutFault stops read same = absurd (same.sink_same stops.2.stop.1)
stops-bad named told x y from to before after status.Memory stops read same = tt
stops-bad named told x y from to before after _ stops read same = absurd stops

pub calls_find_bad : (words : RxWords) (told_before told_after : Option (List ℕ)) (a b : Option Broadcast) (x y : Outputs)
    (from to before after : ℕ) (result : Status) → Receives (Some words) told_before told_after a b x y result
    → (result ≡ status.ReadFault → Rose from to) → AreBadTables words.tables told_before → IsUncounted from to before after x y → FindsBad result
calls_find_bad words told_before told_after a b x y from to before after result (inl with) read bad same =
    absurd (bad-unread words.tables told_before told_after with.tables bad with.read)
calls_find_bad words told_before told_after a b x y from to before after result (inr stops) read bad same =
    stops-bad words.tables told_before x y from to before after result stops.1 read same
