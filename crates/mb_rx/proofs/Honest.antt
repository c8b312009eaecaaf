-- Where the datagrams are honest, what is put is what was sent, and no life is damaged.
use Rattle.std.proofs.Common.{◌≡◌, ℕ, ◌==◌, not, nat_lt, true, false, cond, List, [], ◌∷◌, ◌++◌, Option, Some, None, Result, Ok, Err, fold, filter, map, flat_map, refl, sym, ap, ◌∙◌, subst, append-nil, arith}
use Rattle.std.specs.List.{AllByRecursion, Contains}
use Rattle.std.proofs.lemmas.Bool.{cond_both}
use Rattle.std.proofs.lemmas.List.Elements.{Contains-append_right}
use Rattle.mb_base.specs.Broadcast.{Record}
use Rattle.mb_base.specs.Files.{File}
use Rattle.mb_fdt_text.specs.declared.fdt.Fdt.{Fdt}
use Rattle.mb_fdt_text.specs.declared.fdt.FdtFault.{FdtFault}
use Rattle.mb_fdt.specs.Reader.{fdt_of}
use Rattle.mb_alc.specs.Packet.{Packet, Body, packet_of}
use Rattle.mb_alc.specs.Words.{kind_word, kinds}
use Rattle.mb_alc.specs.declared.packet.Fti.{Fti}
use Rattle.mb_alc.specs.declared.fault.PacketFault.{PacketFault}
use Rattle.mb_tables.specs.Tables.{RaptorTables, AreTables}
use Rattle.mb_life.specs.Life.{Life, is_ready, is_damaged, missing}
use Rattle.mb_machine.specs.Table.{Table, tick}
use Rattle.mb_machine.specs.Packets.{Stepped, read_instance, hear_in_window, packet}
use Rattle.mb_machine.specs.Counts.{reasons, drop_count}
use Rattle.mb_machine.specs.SentSet.{SentSet, IsHonestPacket, IsSentFile}
use Rattle.mb_machine.specs.Laws.{file_of, IsHeardHonestly, Fresh, Ticked, Heard, HandedOut}
use Rattle.mb_machine.proofs.PacketLemmas.{of_packet, of_window}
use Rattle.mb_machine.proofs.EachLemmas.{all-append}
use Rattle.mb_machine.proofs.HonestLemmas as machine
use Rattle.mb_rx.specs.Receiver.{Receiver, fresh, hear_datagram, step}
use Rattle.mb_rx.specs.Run.{Event, Line, Session, after_record, session, count_line, expired_line, fault_count, fault_lines, drop_lines, incomplete_lines, end_events, taken_events, hand_out_events, Known}
use Rattle.mb_rx.specs.Lines as line
use Rattle.mb_words.specs.declared.rx.RxWords.{RxWords}
use Rattle.mb_rx.specs.declared.cause.Cause.{Cause}
use Rattle.mb_rx.specs.declared.cause.Ending.{Ending}
use Rattle.mb_rx.specs.declared.cause.Ending.TheVariants.{EndsBy, BreaksAt}
use Rattle.mb_rx.specs.Receive.{puts_in, events_by, known_of, IsHonest, IsNeverDamaged}
use Rattle.mb_rx.proofs.Making.{puts_in-append}
use Rattle.mb_rx.proofs.Growth.{events_at, closing_events, events_by-session}
use Rattle.mb_rx.proofs.Ready.{puts_in-record, puts_in-undamaged}

-- What is printed at the end puts nothing.

-- a line that is printed where some were counted puts nothing
puts_in-counted_line : (n : ℕ) (text : List ℕ) → puts_in (cond (n == 0) [] (Line text ∷ [])) ≡ []
puts_in-counted_line n text =
    elim (n == 0) as (λ b. puts_in (cond b [] (Line text ∷ [])) ≡ []) [ true ↦ refl | false ↦ refl ]

-- what puts nothing, behind what puts nothing
puts_in-none : (xs ys : List Event) → puts_in xs ≡ [] → puts_in ys ≡ [] → puts_in (xs ++ ys) ≡ []
puts_in-none xs ys p q = puts_in-append xs ys ∙ ap (λ files. files ++ puts_in ys) p ∙ q

-- the lines of counts put nothing
puts_in-counts : {K : Type 0} (word : K → List ℕ) (count : K → ℕ) (kinds : List K) → puts_in (flat_map (λ k. count_line (word k) (count k)) kinds) ≡ []
puts_in-counts word count [] = refl
puts_in-counts word count (k ∷ kinds) =
    puts_in-none (count_line (word k) (count k)) (flat_map (λ x. count_line (word x) (count x)) kinds)
    (puts_in-counted_line (count k) (line.dropped (word k) (count k))) (puts_in-counts word count kinds)

-- lines put nothing, whatever their texts
puts_in-lines : {X : Type 0} (text : X → List ℕ) (xs : List X) → puts_in (map (λ x. Line (text x)) xs) ≡ []
puts_in-lines text [] = refl
puts_in-lines text (x ∷ xs) = puts_in-lines text xs

-- the session's end puts nothing
pub puts_in-end_events : (known : Known) (r : Receiver) (cause : Option Cause) → puts_in (end_events known r cause) ≡ []
puts_in-end_events known r None = refl
puts_in-end_events known r (Some cause) =
    let incomplete = puts_in-lines (λ (life : Life). line.incomplete life.toi (missing life)) (filter (λ (life : Life). not life.done) r.table.lives) in
    puts_in-none (expired_line r.table.expired) (fault_lines r.faults kinds ++ (drop_lines r.drops reasons ++ incomplete_lines r.table.lives))
    (puts_in-counted_line r.table.expired (line.expired r.table.expired))
    (puts_in-none (fault_lines r.faults kinds) (drop_lines r.drops reasons ++ incomplete_lines r.table.lives) (puts_in-counts kind_word (fault_count r.faults) kinds)
    (puts_in-none (drop_lines r.drops reasons) (incomplete_lines r.table.lives) (puts_in-counts line.reason_word (drop_count r.drops) reasons) incomplete))

-- what comes behind the session's events puts nothing
puts_in-closing : (words : RxWords) (tables : RaptorTables) (records : List Record) (ending : Option Ending) → puts_in (closing_events words tables records ending) ≡ []
puts_in-closing words tables records None = refl
puts_in-closing words tables records (Some (EndsBy cause)) = puts_in-end_events (known_of words tables records (Some cause)) (session words.tsi tables records).receiver (Some cause)
puts_in-closing words tables records (Some (BreaksAt place)) = refl

-- the files that a run puts are those that its session puts
pub puts_in-events_by : (words : RxWords) (tables : RaptorTables) (records : List Record) (ending : Option Ending)
    → puts_in (events_by words tables records ending) ≡ puts_in (session words.tsi tables records).events
puts_in-events_by words tables records ending =
    let s = session words.tsi tables records in
    let closing = closing_events words tables records ending in
    ap puts_in (events_by-session words tables records ending) ∙ puts_in-append s.events closing
    ∙ ap (λ files. puts_in s.events ++ files) (puts_in-closing words tables records ending) ∙ append-nil (puts_in s.events)

-- The TSI and the tables of a table stay.

instance-tsi : (id : ℕ) (fti : Option Fti) (read : Result Fdt FdtFault) (t : Table) → (read_instance id fti read t).table.tsi ≡ t.tsi
instance-tsi id fti (Err fault) t = refl
instance-tsi id fti (Ok fdt) t = cond_both (nat_lt fdt.expires t.clock) _ _ (λ (s : Stepped). s.table.tsi ≡ t.tsi) (λ _. refl) (λ _. refl)

window-tsi : (id : ℕ) (fti : Option Fti) (body : Body) (t : Table) → (hear_in_window id fti body t).table.tsi ≡ t.tsi
window-tsi id fti body t = of_window (λ (s : Stepped). s.table.tsi ≡ t.tsi) id fti _ _ (λ _. refl) (λ text _. instance-tsi id fti (fdt_of text) _)

packet-tsi : (at : ℕ) (p : Packet) (t : Table) → (packet at p t).table.tsi ≡ t.tsi
packet-tsi at p t = of_packet (λ (s : Stepped). s.table.tsi ≡ t.tsi) p (tick at t) (record {
  dropped = λ _. refl;
  instance = λ id body _ _ _ _. window-tsi id p.exts.fti body (tick at t);
  object = λ _ _ _ _ _ _ _ _ _. refl;
})

instance-tables : (id : ℕ) (fti : Option Fti) (read : Result Fdt FdtFault) (t : Table) → (read_instance id fti read t).table.tables ≡ t.tables
instance-tables id fti (Err fault) t = refl
instance-tables id fti (Ok fdt) t = cond_both (nat_lt fdt.expires t.clock) _ _ (λ (s : Stepped). s.table.tables ≡ t.tables) (λ _. refl) (λ _. refl)

window-tables : (id : ℕ) (fti : Option Fti) (body : Body) (t : Table) → (hear_in_window id fti body t).table.tables ≡ t.tables
window-tables id fti body t = of_window (λ (s : Stepped). s.table.tables ≡ t.tables) id fti _ _ (λ _. refl) (λ text _. instance-tables id fti (fdt_of text) _)

packet-tables : (at : ℕ) (p : Packet) (t : Table) → (packet at p t).table.tables ≡ t.tables
packet-tables at p t = of_packet (λ (s : Stepped). s.table.tables ≡ t.tables) p (tick at t) (record {
  dropped = λ _. refl;
  instance = λ id body _ _ _ _. window-tables id p.exts.fti body (tick at t);
  object = λ _ _ _ _ _ _ _ _ _. refl;
})

-- A session whose records are honest.

-- the receiver of the session with this TSI and these tables has heard honest packets of it
record IsHonestly (sent : SentSet) (tsi : ℕ) (tables : RaptorTables) (r : Receiver) : Type 0 where
  heard : IsHeardHonestly sent r.table
  own : r.table.tsi ≡ tsi
  under : r.table.tables ≡ tables

-- each packet of the session that the datagram is is honest
abbrev IsHonestRecord : RaptorTables → SentSet → ℕ → Record → Type 0
IsHonestRecord tables sent tsi heard = (p : Packet) → packet_of heard.bytes ≡ Ok p → p.lct.tsi ≡ tsi → IsHonestPacket tables sent p

datagram-honestly : (sent : SentSet) (tsi at : ℕ) (tables : RaptorTables) (r : Receiver) (read : Result Packet PacketFault)
    → ((p : Packet) → read ≡ Ok p → p.lct.tsi ≡ tsi → IsHonestPacket tables sent p)
    → IsHonestly sent tsi tables r → IsHonestly sent tsi tables (hear_datagram at read r).receiver
datagram-honestly sent tsi at tables r (Err fault) honest was = record { heard = Ticked r.table at was.heard; own = was.own; under = was.under }
datagram-honestly sent tsi at tables r (Ok p) honest was =
    record {
      heard = Heard r.table at p was.heard (λ same. subst (λ (t : RaptorTables). IsHonestPacket t sent p) (sym was.under) (honest p refl (same ∙ was.own)));
      own = packet-tsi at p r.table ∙ was.own;
      under = packet-tables at p r.table ∙ was.under;
    }

step-honestly : (sent : SentSet) (tsi : ℕ) (tables : RaptorTables) (r : Receiver) (heard : Record) → IsHonestRecord tables sent tsi heard → IsHonestly sent tsi tables r
    → IsHonestly sent tsi tables (step r heard).receiver
step-honestly sent tsi tables r heard honest was = datagram-honestly sent tsi heard.at tables r (packet_of heard.bytes) honest was

after-honestly : (sent : SentSet) (tsi : ℕ) (tables : RaptorTables) (s : Session) (heard : Record) → IsHonestRecord tables sent tsi heard → IsHonestly sent tsi tables s.receiver
    → IsHonestly sent tsi tables (after_record s heard).receiver
after-honestly sent tsi tables s heard honest was =
    let now = step-honestly sent tsi tables s.receiver heard honest was in
    record { heard = HandedOut (step s.receiver heard).receiver.table now.heard; own = now.own; under = now.under }

-- no ready life is damaged, and its file was sent
ready-sent : (sent : SentSet) (tsi : ℕ) (tables : RaptorTables) (r : Receiver) (life : Life) → IsHonestly sent tsi tables r → Contains r.table.lives life → is_ready life ≡ true
    → (is_damaged life ≡ false) × IsSentFile sent (file_of life)
ready-sent sent tsi tables r life was among ready = machine.honest sent r.table life was.heard among ready

-- the files that are put of lives whose ready ones are sent files
puts-sent : (sent : SentSet) (lives : List Life)
    → ((life : Life) → Contains lives life → is_ready life ≡ true → (is_damaged life ≡ false) × IsSentFile sent (file_of life))
    → AllByRecursion (IsSentFile sent) (puts_in (hand_out_events lives))
puts-sent sent [] each = tt
puts-sent sent (life ∷ lives) each =
    let others = puts-sent sent lives (λ l among ready. each l (Contains-append_right (life ∷ []) lives l among) ready) in
    let All : List File → Type 0 = AllByRecursion (IsSentFile sent) in
    cond_both (is_ready life) (life ∷ filter is_ready lives) (filter is_ready lives) (λ (ready : List Life). All (puts_in (flat_map taken_events ready)))
    (λ is.
    let own = each life (0, omega arith, refl) is in
    subst All (sym (puts_in-append (taken_events life) (hand_out_events lives)))
    (all-append (IsSentFile sent) (puts_in (taken_events life)) (puts_in (hand_out_events lives)) (subst All (sym (puts_in-undamaged life own.0)) (own.1, tt)) others))
    (λ _. others)

-- the session, and the files that it has put
puts_from : (sent : SentSet) (tsi : ℕ) (tables : RaptorTables) (s : Session) (records : List Record) → IsHonest tables sent tsi records → IsHonestly sent tsi tables s.receiver
    → AllByRecursion (IsSentFile sent) (puts_in s.events)
    → IsHonestly sent tsi tables (fold after_record s records).receiver × AllByRecursion (IsSentFile sent) (puts_in (fold after_record s records).events)
puts_from sent tsi tables s [] honest was puts = (was, puts)
puts_from sent tsi tables s (heard ∷ records) honest was puts =
    let stepped = step s.receiver heard in
    let now = step-honestly sent tsi tables s.receiver heard honest.0 was in
    let All : List File → Type 0 = AllByRecursion (IsSentFile sent) in
    let new : All (puts_in (events_at s heard))
    = subst All (sym (puts_in-record s heard)) (puts-sent sent stepped.receiver.table.lives (λ life among ready. ready-sent sent tsi tables stepped.receiver life now among ready)) in
    puts_from sent tsi tables (after_record s heard) records honest.1 (after-honestly sent tsi tables s heard honest.0 was)
    (subst All (sym (puts_in-append s.events (events_at s heard))) (all-append (IsSentFile sent) (puts_in s.events) (puts_in (events_at s heard)) puts new))

-- from a receiver that has heard nothing
session_puts : (sent : SentSet) (tsi : ℕ) (tables : RaptorTables) → AreTables tables → (records : List Record) → IsHonest tables sent tsi records
    → IsHonestly sent tsi tables (session tsi tables records).receiver × AllByRecursion (IsSentFile sent) (puts_in (session tsi tables records).events)
unfolding session
session_puts sent tsi tables good records honest =
    puts_from sent tsi tables (record { receiver = fresh tsi tables; events = [] }) records honest (record { heard = Fresh tsi tables good; own = refl; under = refl }) tt

-- the records before one, and that one
honest-before : (sent : SentSet) (tsi : ℕ) (tables : RaptorTables) (before after : List Record) (heard : Record) → IsHonest tables sent tsi (before ++ heard ∷ after)
    → IsHonest tables sent tsi before × IsHonestRecord tables sent tsi heard
honest-before sent tsi tables [] after heard honest = (tt, honest.0)
honest-before sent tsi tables (x ∷ before) after heard honest =
    let others = honest-before sent tsi tables before after heard honest.1 in ((honest.0, others.0), others.1)

never_damaged : (sent : SentSet) (tsi : ℕ) (tables : RaptorTables) → AreTables tables → (records : List Record) → IsHonest tables sent tsi records → IsNeverDamaged tsi tables records
never_damaged sent tsi tables good records honest before after heard life split among ready =
    let parts = honest-before sent tsi tables before after heard (subst (IsHonest tables sent tsi) split honest) in
    let was = (session_puts sent tsi tables good before parts.0).0 in
    (ready-sent sent tsi tables (step (session tsi tables before).receiver heard).receiver life
    (step-honestly sent tsi tables (session tsi tables before).receiver heard parts.1 was) among ready).0

-- where the datagrams are honest, what is put is what was sent
pub honest_puts : (words : RxWords) (tables : RaptorTables) → AreTables tables → (records : List Record) (ending : Option Ending) (sent : SentSet) → IsHonest tables sent words.tsi records
    → AllByRecursion (IsSentFile sent) (puts_in (events_by words tables records ending)) × IsNeverDamaged words.tsi tables records
honest_puts words tables good records ending sent honest = (
  subst (AllByRecursion (IsSentFile sent)) (sym (puts_in-events_by words tables records ending)) (session_puts sent words.tsi tables good records honest).1,
  never_damaged sent words.tsi tables good records honest,
)
