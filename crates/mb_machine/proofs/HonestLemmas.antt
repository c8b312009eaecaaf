-- Where honest packets were heard, what is handed out was sent.
use Rattle.std.proofs.Common.{◌≡◌, ℕ, ◌==◌, max, not, nat_lt, Bool, List, [], ◌∷◌, Option, Some, None, Result, Ok, Err, refl, sym, ◌∙◌, ap, subst, subst₂, eqb-true}
use Rattle.std.specs.List.{AllByRecursion}
use Rattle.std.proofs.lemmas.Bool.{cond_both}
use Rattle.std.proofs.lemmas.List.Elements.{All-from_recursion, All-contains}
use Rattle.mb_fdt_text.specs.declared.fdt.Fdt.{Fdt}
use Rattle.mb_fdt_text.specs.declared.fdt.FdtFault.{FdtFault}
use Rattle.mb_fdt_text.specs.declared.fdt.FileEntry.{FileEntry}
use Rattle.mb_fdt.specs.Reader.{fdt_of}
use Rattle.mb_alc.specs.Packet.{Packet, Body}
use Rattle.mb_alc.specs.declared.packet.Fti.{Fti}
use Rattle.mb_window.specs.Window as window
use Rattle.mb_tables.specs.Tables.{RaptorTables}
use Rattle.mb_way.specs.Ways.{ways_of}
use Rattle.mb_life.specs.Life.{Life, start_life, hear_in_block}
use Rattle.mb_machine.specs.Table.{Table, is_past, tick, life_of}
use Rattle.mb_machine.specs.Packets.{Stepped, read_instance, hear_in_window, object_reason, pairs_of, hear_symbols, packet}
use Rattle.mb_machine.specs.SentSet.{SentSet, SentFile, IsSentEntry, IsHonestInstance, IsHonestFdt, IsHonestObject, IsHonestBody, IsHonestPacket}
use Rattle.mb_machine.specs.Laws.{handed_out, IsHeardHonestly, Fresh, Ticked, Heard, HandedOut, HonestFilesAreSent}
use Rattle.mb_machine.proofs.EachLemmas.{all-map, all-filter, all-change_life, all-found}
use Rattle.mb_machine.proofs.HandOutLemmas.{found_passes}
use Rattle.mb_machine.proofs.EntryLemmas.{of_entries}
use Rattle.mb_machine.proofs.PacketLemmas.{of_packet, of_window}
use Rattle.mb_machine.proofs.SlotLemmas.{IsSentText, AreSentSlots, IsSentAnswer, IsHonestHearing, hearing-sent, settle-sent, clear-sent, expire-sent}
use Rattle.mb_machine.proofs.DescribedLemmas.{IsSoundEntry, sound_text}
use Rattle.mb_machine.proofs.LifeLemmas.{IsSentLife, started-sent, prolonged-sent, handed-sent, heard-sent, ready-sent}

-- what is known of a table with these tables of the Raptor code
pub record IsHonestTable (sent : SentSet) (tables : RaptorTables) (t : Table) : Type 0 where
  pub tables_are : t.tables ≡ tables
  pub slots : AreSentSlots sent t.slots
  pub lives : AllByRecursion (IsSentLife sent tables) t.lives

abbrev StaysHonest : SentSet → RaptorTables → Stepped → Type 0
StaysHonest sent tables s = IsHonestTable sent tables s.table

-- ---- an instance that is whole

-- what is known of an entry of a sent text
abbrev IsHonestEntry : SentSet → FileEntry → Type 0
IsHonestEntry sent e = IsSentEntry sent.files e.toi e.entry × IsSoundEntry e

both : (sent : SentSet) (files : List FileEntry) → AllByRecursion (λ e. IsSentEntry sent.files e.toi e.entry) files → AllByRecursion IsSoundEntry files
    → AllByRecursion (IsHonestEntry sent) files
both sent [] of sound = tt
both sent (e ∷ files) of sound = ((of.0, sound.0), both sent files of.1 sound.1)

entries-honest : (sent : SentSet) (id : ℕ) (text : List ℕ) (fdt : Fdt) → IsSentText sent id text → fdt_of text ≡ Ok fdt → AllByRecursion (IsHonestEntry sent) fdt.files
entries-honest sent id text fdt is read =
    both sent fdt.files (sent.entries id is.of fdt is.known (sym (ap fdt_of is.same) ∙ read)) (sound_text text fdt read)

instance-honest : (sent : SentSet) (tables : RaptorTables) (id : ℕ) (fti : Option Fti) (text : List ℕ) (read : Result Fdt FdtFault) (t : Table) → IsSentText sent id text
    → fdt_of text ≡ read → IsHonestTable sent tables t → StaysHonest sent tables (read_instance id fti read t)
instance-honest sent tables id fti text (Err fault) t is read now = record { tables_are = now.tables_are; slots = clear-sent sent id t.slots now.slots; lives = now.lives }
instance-honest sent tables id fti text (Ok fdt) t is read now =
    cond_both (nat_lt fdt.expires t.clock) _ _ (StaysHonest sent tables)
    (λ _. record { tables_are = now.tables_are; slots = clear-sent sent id t.slots now.slots; lives = now.lives })
    (λ _. record {
      tables_are = now.tables_are;
      slots = settle-sent sent id fti fdt.expires t.slots now.slots;
      lives = of_entries (IsSentLife sent tables) (IsHonestEntry sent) t.tables fdt.expires fdt.files _ (prolonged-sent sent tables fdt.expires)
          (λ e toi d honest toi_is entry_is has. subst (λ (ts : RaptorTables). IsSentLife sent tables (start_life fdt.expires toi d (ways_of ts d))) (sym now.tables_are)
          (started-sent sent tables fdt.expires toi d e.toi e.entry toi_is entry_is honest.0 (honest.1 d entry_is)))
          (entries-honest sent id text fdt is read) now.lives;
    })

window-honest : (sent : SentSet) (tables : RaptorTables) (id : ℕ) (fti : Option Fti) (body : Body) (t : Table) → IsHonestInstance sent id fti body → IsHonestTable sent tables t
    → StaysHonest sent tables (hear_in_window id fti body t)
window-honest sent tables id fti body t honest now =
    let heard : IsHonestHearing sent id (window.hear id fti body t.slots) = hearing-sent sent id fti body t.slots honest now.slots in
    of_window (StaysHonest sent tables) id fti _ _ (λ _. record { tables_are = now.tables_are; slots = heard.slots; lives = now.lives })
    (λ text is. instance-honest sent tables id fti text (fdt_of text) _ (subst (IsSentAnswer sent id) is heard.heard) refl (record { tables_are = now.tables_are; slots = heard.slots; lives = now.lives }))

-- ---- symbols of a life

symbols-honest : (sent : SentSet) (tables : RaptorTables) (toi : ℕ) (p : Packet) (body : Body) (life : Life) (t : Table) → IsHonestObject tables sent toi body
    → life_of toi t.lives ≡ Some life → object_reason life p body ≡ None → IsHonestTable sent tables t
    → StaysHonest sent tables (hear_symbols life body.sbn (pairs_of life.desc body) t)
symbols-honest sent tables toi p body life t honest found none now =
    let test : Life → Bool = λ l. l.toi == toi in
    let own : life.toi ≡ toi = eqb-true life.toi toi (found_passes test t.lives life found) in
    let is : IsSentLife sent tables life = all-found (IsSentLife sent tables) test t.lives life now.lives found in
    let file : SentFile = record { desc = life.desc; bytes = is.bytes } in
    let symbols = honest file (ap sent.files (sym own) ∙ is.known) in
    record {
      tables_are = now.tables_are;
      slots = now.slots;
      lives = all-change_life (IsSentLife sent tables) life.toi (hear_in_block body.sbn (pairs_of life.desc body)) t.lives
          (λ l same. heard-sent sent tables file body.sbn (pairs_of life.desc body) l (ap sent.files same ∙ is.known) symbols)
          now.lives;
    }

-- ---- a packet

instance_is : (sent : SentSet) (tables : RaptorTables) (p : Packet) (id : ℕ) (body : Body) → IsHonestPacket tables sent p → p.lct.toi ≡ Some 0 → p.body ≡ Some body → p.exts.fdt ≡ Some id
    → IsHonestInstance sent id p.exts.fti body
instance_is sent tables p id body honest named has is =
    let known = (subst₂ (λ (toi : Option ℕ) (b : Option Body). IsHonestBody tables sent p toi b) named has honest).0 refl in
    subst (λ (i : Option ℕ). IsHonestFdt sent i p.exts.fti body) is known

object_is : (sent : SentSet) (tables : RaptorTables) (p : Packet) (toi : ℕ) (body : Body) → IsHonestPacket tables sent p → p.lct.toi ≡ Some toi → (toi ≡ 0 → ⊥) → p.body ≡ Some body
    → IsHonestObject tables sent toi body
object_is sent tables p toi body honest named other has =
    (subst₂ (λ (o : Option ℕ) (b : Option Body). IsHonestBody tables sent p o b) named has honest).1 other

tick-honest : (sent : SentSet) (tables : RaptorTables) (at : ℕ) (t : Table) → IsHonestTable sent tables t → IsHonestTable sent tables (tick at t)
tick-honest sent tables at t now =
    let clock : ℕ = max t.clock at in
    record {
      tables_are = now.tables_are;
      slots = expire-sent sent clock t.slots now.slots;
      lives = all-filter (IsSentLife sent tables) (IsSentLife sent tables) (λ life. not (is_past clock life)) t.lives (λ life _ is. is) now.lives;
    }

packet-honest : (sent : SentSet) (tables : RaptorTables) (at : ℕ) (p : Packet) (t : Table) → (p.lct.tsi ≡ t.tsi → IsHonestPacket tables sent p) → IsHonestTable sent tables t
    → IsHonestTable sent tables (packet at p t).table
packet-honest sent tables at p t honest before =
    let now : IsHonestTable sent tables (tick at t) = tick-honest sent tables at t before in
    let after = of_packet (StaysHonest sent tables) p (tick at t) (record {
      dropped = λ _. now;
      instance = λ id body session named has is. window-honest sent tables id p.exts.fti body (tick at t) (instance_is sent tables p id body (honest session) named has is) now;
      object = λ toi body life session named other has found none.
          symbols-honest sent tables toi p body life (tick at t) (object_is sent tables p toi body (honest session) named other has) found none now;
    }) in
    record { tables_are = after.tables_are; slots = after.slots; lives = after.lives }

-- ---- a session

-- the tables stay the ones that the session began with
heard_honestly : (sent : SentSet) (t : Table) → IsHeardHonestly sent t → IsHonestTable sent t.tables t
heard_honestly sent _ (Fresh tsi tables are) = record { tables_are = refl; slots = tt; lives = tt }
heard_honestly sent _ (Ticked t at before) = tick-honest sent t.tables at t (heard_honestly sent t before)
heard_honestly sent _ (Heard t at p before honest) =
    let after = packet-honest sent t.tables at p t honest (heard_honestly sent t before) in
    subst (λ (ts : RaptorTables). IsHonestTable sent ts (packet at p t).table) (sym after.tables_are) after
heard_honestly sent _ (HandedOut t before) =
    let now = heard_honestly sent t before in
    record {
      tables_are = now.tables_are;
      slots = now.slots;
      lives = all-map (IsSentLife sent t.tables) (IsSentLife sent t.tables) handed_out t.lives (handed-sent sent t.tables) now.lives;
    }

pub honest : HonestFilesAreSent
honest sent t life heard among ready =
    let P : Life → Type 0 = IsSentLife sent t.tables in
    ready-sent sent t.tables life (All-contains P t.lives life (All-from_recursion P t.lives (heard_honestly sent t heard).lives) among) ready
