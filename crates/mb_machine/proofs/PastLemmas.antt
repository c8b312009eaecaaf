-- No life stands once the clock has passed its expiry.
use Rattle.std.proofs.Common.{ℕ, ◌≤◌, max, not, nat_lt, List, [], ◌∷◌, Option, Result, Ok, Err, arith}
use Rattle.std.specs.List.{AllByRecursion}
use Rattle.std.proofs.lemmas.Bool.{cond_both, not-true, ltb-false}
use Rattle.mb_alc.specs.Packet.{Packet, Body}
use Rattle.mb_alc.specs.declared.packet.Fti.{Fti}
use Rattle.mb_fdt_text.specs.declared.fdt.Fdt.{Fdt}
use Rattle.mb_fdt_text.specs.declared.fdt.FdtFault.{FdtFault}
use Rattle.mb_fdt.specs.Reader.{fdt_of}
use Rattle.mb_encoder.specs.Solutions.{Pair}
use Rattle.mb_life.specs.Life.{Life, hear_in_block}
use Rattle.mb_machine.specs.Table.{Table, is_past, tick_to, tick}
use Rattle.mb_machine.specs.Packets.{Stepped, packet, read_instance, hear_in_window, pairs_of, hear_symbols}
use Rattle.mb_machine.specs.Laws.{NoneIsPast, NoLifeIsPast}
use Rattle.mb_machine.proofs.EachLemmas.{all-filter, all-change_life}
use Rattle.mb_machine.proofs.EntryLemmas.{of_entries}
use Rattle.mb_machine.proofs.PacketLemmas.{of_packet, of_window}

-- the life stands at this moment
abbrev IsCurrent : ℕ → Life → Type 0
IsCurrent clock life = clock ≤ life.expires

abbrev AreCurrent : Table → Type 0
AreCurrent t = AllByRecursion (IsCurrent t.clock) t.lives

abbrev StaysCurrent : Stepped → Type 0
StaysCurrent s = AreCurrent s.table

-- of any items nothing is asked
any : {X : Type 0} (xs : List X) → AllByRecursion (λ _. Unit {0}) xs
any [] = tt
any (x ∷ xs) = (tt, any xs)

pub tick-current : (clock : ℕ) (t : Table) → AreCurrent (tick_to clock t)
tick-current clock t =
    all-filter (λ _. Unit {0}) (IsCurrent clock) (λ life. not (is_past clock life)) t.lives
    (λ life stands _. ltb-false life.expires clock (not-true (is_past clock life) stands))
    (any t.lives)

longer_current : (clock expires : ℕ) (life : Life) → IsCurrent clock life → clock ≤ max life.expires expires
longer_current clock expires life now = omega (arith, now)

instance-current : (id : ℕ) (fti : Option Fti) (read : Result Fdt FdtFault) (t : Table) → AreCurrent t → StaysCurrent (read_instance id fti read t)
instance-current id fti (Err fault) t all = all
instance-current id fti (Ok fdt) t all =
    cond_both (nat_lt fdt.expires t.clock) _ _ StaysCurrent (λ _. all)
    (λ soon.
    let now : t.clock ≤ fdt.expires = ltb-false fdt.expires t.clock soon in
    of_entries (IsCurrent t.clock) (λ _. Unit {0}) t.tables fdt.expires fdt.files _
    (longer_current t.clock fdt.expires) (λ e toi d _ _ _ _. now) (any fdt.files) all)

window-current : (id : ℕ) (fti : Option Fti) (body : Body) (t : Table) → AreCurrent t → StaysCurrent (hear_in_window id fti body t)
window-current id fti body t all =
    of_window StaysCurrent id fti _ _ (λ _. all) (λ text _. instance-current id fti (fdt_of text) _ all)

symbols-current : (life : Life) (sbn : ℕ) (pairs : List Pair) (t : Table) → AreCurrent t → StaysCurrent (hear_symbols life sbn pairs t)
symbols-current life sbn pairs t all = all-change_life (IsCurrent t.clock) life.toi (hear_in_block sbn pairs) t.lives (λ l _ now. now) all

packet-current : (at : ℕ) (p : Packet) (t : Table) → NoneIsPast (packet at p t).table
packet-current at p t =
    let now : AreCurrent (tick at t) = tick-current (max t.clock at) t in
    of_packet StaysCurrent p (tick at t) (record {
      dropped = λ _. now;
      instance = λ id body _ _ _ _. window-current id p.exts.fti body (tick at t) now;
      object = λ toi body life _ _ _ _ _ _. symbols-current life body.sbn (pairs_of life.desc body) (tick at t) now;
    })

pub current : NoLifeIsPast
current t at = (tick-current (max t.clock at) t, λ p. packet-current at p t)
