-- What a packet does to the table, from what it does to the window and the lives.
use Rattle.std.proofs.Common.{◌≡◌, ℕ, ◌==◌, ◌||◌, Bool, true, false, if◌then◌else◌, List, Option, Some, Result, Ok, Err, IfOk, inl, inr, sym, ap, ap₂, ◌∙◌, eq-eqb, eqb-true}
use Rattle.std.proofs.lemmas.Bool.{cases_Bool}
use Rattle.mb_alc.specs.Packet.{Packet, Body}
use Rattle.mb_window.specs.declared.slot.Slot.{Slot}
use Rattle.mb_tables.specs.Tables.{RaptorTables}
use Rattle.mb_life.specs.Life.{Life}
use Rattle.mb_machine.specs.Table.{Table, life_of, tick}
use Rattle.mb_machine.specs.Packets.{drop_for, hear_fdt, hear_object, hear_in_session, hear_packet, closes, close_if, packet}
use Rattle.mb_machine.specs.declared.reason.Reason.TheVariants as reason
use Rattle.mb_machine.specs.declared.happened.Happened.{Happened}
use Rattle.mb_objects.specs.Stepping.{holding, Steps}

unequal : (n : ℕ) → (n ≡ 0 → ⊥) → (n == 0) ≡ false
unequal n other = elim (cases_Bool (n == 0)) [ inl is ↦ absurd (other (eqb-true n 0 is)) | inr differs ↦ differs ]

pub object-heard : {E : Type 0} (result : Result Happened E) (p : Packet) (toi : ℕ) (body : Body) (tsi : ℕ) (tables : RaptorTables) (clock : ℕ) (closed : Bool) (slots : List Slot) (old new : List Life)
    → p.lct.tsi ≡ tsi → closed ≡ false → p.lct.toi ≡ Some toi → (toi ≡ 0 → ⊥) → p.body ≡ Some body
    → IfOk result (λ h. (t : Table) → Steps t (hear_object (life_of toi old) p body (record t { lives = old })) t.slots new h)
    → IfOk result (λ h. (t : Table) → t.tsi ≡ tsi → t.tables ≡ tables → t.clock ≡ clock → t.closed ≡ closed → Steps t (hear_packet p (holding t slots old)) slots new h)
object-heard (Ok h) p toi body tsi tables clock closed slots old new of running named other has heard = λ t same rows now shut.
    let open_is : t.closed ≡ false = shut ∙ running in
    let of_is : (p.lct.tsi == t.tsi) ≡ true = eq-eqb p.lct.tsi t.tsi (of ∙ sym same) in
    let u : Table = holding t slots old in
    ap (λ (b : Bool). if b then drop_for reason.Closed u else if p.lct.tsi == u.tsi then hear_in_session p p.lct.toi p.body u else drop_for reason.OtherSession u) open_is
    ∙ ap (λ (b : Bool). if b then hear_in_session p p.lct.toi p.body u else drop_for reason.OtherSession u) of_is
    ∙ ap₂ (λ (o : Option ℕ) (b : Option Body). hear_in_session p o b u) named has
    ∙ ap (λ (b : Bool). if b then hear_fdt p body p.exts.fdt u else hear_object (life_of toi old) p body u) (unequal toi other)
    ∙ heard u
object-heard (Err e) p toi body tsi tables clock closed slots old new of running named other has heard = tt

pub packet-heard : (p : Packet) (at : ℕ) (old t : Table) (tables : RaptorTables) (slots : List Slot) (lives : List Life) (h : Happened) (closing : Bool) → t ≡ tick at old → tables ≡ t.tables
    → hear_packet p t ≡ record { table = holding t slots lives; happened = h } → closing ≡ closes t.tsi p
    → packet at p old ≡ record { table = record { tsi = t.tsi; tables = tables; clock = t.clock; closed = t.closed || closing; slots = slots; lives = lives; expired = t.expired }; happened = h }
packet-heard p at old t tables slots lives h closing is rows heard closes_is =
    rw rows (ap₂ close_if (sym (closes_is ∙ ap (λ (x : Table). closes x.tsi p) is)) (ap (hear_packet p) (sym is) ∙ heard))
