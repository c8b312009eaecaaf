-- What a packet does to a table, by the three things that become of it.
use Rattle.std.proofs.Common.{◌≡◌, ℕ, ◌==◌, ◌&&◌, not, is_none, List, Option, Some, None, refl, ◌∙◌, ap, eqb-true}
use Rattle.std.proofs.lemmas.Bool.{cond_both, eqb-false}
use Rattle.mb_alc.specs.Packet.{Packet, Body}
use Rattle.mb_alc.specs.declared.packet.Fti.{Fti}
use Rattle.mb_fdt.specs.Reader.{fdt_of}
use Rattle.mb_window.specs.Window as window
use Rattle.mb_window.specs.declared.heard.WindowHeard.{WindowHeard}
use Rattle.mb_window.specs.declared.heard.WindowHeard.TheVariants as fdt
use Rattle.mb_life.specs.Life.{Life}
use Rattle.mb_machine.specs.Table.{Table, life_of}
use Rattle.mb_machine.specs.Packets.{Stepped, drop_for, read_instance, after_window, is_encoded, hear_in_window, hear_fdt, object_reason, pairs_of, hear_symbols, hear_unless, hear_object, hear_in_session, hear_packet}
use Rattle.mb_machine.specs.declared.reason.Reason.{Reason}
use Rattle.mb_machine.specs.declared.reason.Reason.TheVariants as reason
use Rattle.mb_machine.specs.declared.happened.Happened.{Happened}
use Rattle.mb_machine.specs.declared.happened.Happened.TheVariants.{Dropped, Part}

-- what has to hold where a packet is dropped, is of an FDT Instance, or brings symbols of a life
pub record EachWay (C : Stepped → Type 0) (p : Packet) (t : Table) : Type 0 where
  pub dropped : (why : Reason) → C (drop_for why t)
  pub instance : (id : ℕ) (body : Body) → p.lct.tsi ≡ t.tsi → p.lct.toi ≡ Some 0 → p.body ≡ Some body → p.exts.fdt ≡ Some id
      → C (hear_in_window id p.exts.fti body t)
  pub object : (toi : ℕ) (body : Body) (life : Life) → p.lct.tsi ≡ t.tsi → p.lct.toi ≡ Some toi → (toi ≡ 0 → ⊥) → p.body ≡ Some body
      → life_of toi t.lives ≡ Some life → object_reason life p body ≡ None → C (hear_symbols life body.sbn (pairs_of life.desc body) t)

of_reason : (C : Stepped → Type 0) (p : Packet) (t : Table) (life : Life) (body : Body) (why : Option Reason) → EachWay C p t
    → (why ≡ None → C (hear_symbols life body.sbn (pairs_of life.desc body) t)) → C (hear_unless why life body.sbn (pairs_of life.desc body) t)
of_reason C p t life body (Some why) each heard = each.dropped why
of_reason C p t life body None each heard = heard refl

of_object : (C : Stepped → Type 0) (p : Packet) (t : Table) (toi : ℕ) (body : Body) (found : Option Life) → EachWay C p t
    → p.lct.tsi ≡ t.tsi → p.lct.toi ≡ Some toi → (toi ≡ 0 → ⊥) → p.body ≡ Some body → life_of toi t.lives ≡ found → C (hear_object found p body t)
of_object C p t toi body None each session named other has found = each.dropped reason.Unknown
of_object C p t toi body (Some life) each session named other has found =
    of_reason C p t life body (object_reason life p body) each (each.object toi body life session named other has found)

of_fdt : (C : Stepped → Type 0) (p : Packet) (t : Table) (body : Body) (id : Option ℕ) → EachWay C p t
    → p.lct.tsi ≡ t.tsi → p.lct.toi ≡ Some 0 → p.body ≡ Some body → p.exts.fdt ≡ id → C (hear_fdt p body id t)
of_fdt C p t body None each session named has is = each.dropped reason.FdtWithoutIds
of_fdt C p t body (Some id) each session named has is =
    cond_both (not (window.has id t.slots) && is_none p.exts.fti) _ _ C (λ _. each.dropped reason.FdtWithoutIds)
    (λ _. cond_both (is_encoded p.exts.cenc) _ _ C (λ _. each.dropped reason.FdtEncoded)
    (λ _. cond_both (not (p.lct.cp == 0)) _ _ C (λ _. each.dropped reason.CodePointDiffers)
    (λ _. each.instance id body session named has is)))

of_session : (C : Stepped → Type 0) (p : Packet) (t : Table) (toi : Option ℕ) (body : Option Body) → EachWay C p t
    → p.lct.tsi ≡ t.tsi → p.lct.toi ≡ toi → p.body ≡ body → C (hear_in_session p toi body t)
of_session C p t None body each session named has = each.dropped reason.NoToi
of_session C p t (Some toi) None each session named has = each.dropped reason.NoBody
of_session C p t (Some toi) (Some body) each session named has =
    cond_both (toi == 0) _ _ C
    (λ is. of_fdt C p t body p.exts.fdt each session (named ∙ ap Some (eqb-true toi 0 is)) has refl)
    (λ is. of_object C p t toi body (life_of toi t.lives) each session named (eqb-false toi 0 is) has refl)

pub of_packet : (C : Stepped → Type 0) (p : Packet) (t : Table) → EachWay C p t → C (hear_packet p t)
of_packet C p t each =
    cond_both t.closed _ _ C (λ _. each.dropped reason.Closed)
    (λ _. cond_both (p.lct.tsi == t.tsi) _ _ C
    (λ is. of_session C p t p.lct.toi p.body each (eqb-true p.lct.tsi t.tsi is) refl refl)
    (λ _. each.dropped reason.OtherSession))

-- the window's answer: a whole text is read, and otherwise no more happens to the table
pub of_window : (C : Stepped → Type 0) (id : ℕ) (fti : Option Fti) (heard : WindowHeard) (t : Table)
    → ((happened : Happened) → C (record { table = t; happened = happened }))
    → ((text : List ℕ) → heard ≡ fdt.Whole text → C (read_instance id fti (fdt_of text) t)) → C (after_window id fti heard t)
of_window C id fti fdt.NoIds t other whole = other (Dropped reason.FdtWithoutIds)
of_window C id fti fdt.Shape t other whole = other (Dropped reason.FdtShape)
of_window C id fti fdt.Differs t other whole = other (Dropped reason.FtiDiffers)
of_window C id fti fdt.Block t other whole = other (Dropped reason.Block)
of_window C id fti fdt.Symbol t other whole = other (Dropped reason.Symbol)
of_window C id fti fdt.Length t other whole = other (Dropped reason.Length)
of_window C id fti fdt.Done t other whole = other (Dropped reason.Done)
of_window C id fti fdt.Part t other whole = other (Part id)
of_window C id fti (fdt.Whole text) t other whole = whole text refl
