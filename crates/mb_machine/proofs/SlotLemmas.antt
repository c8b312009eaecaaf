-- A text that was heard from honest packets is the one that was sent.
use Rattle.std.proofs.Common.{◌≡◌, ℕ, ◌<◌, ◌==◌, not, nat_lt, nat_le, Bool, true, false, List, [], ◌∷◌, ◌++◌, length, drop, Option, Some, None, IfSome, Result, Ok, Err, inl, inr, refl, sym, ◌∙◌, ap, ap₂, subst, arith}
use Rattle.std.specs.List.{AllByRecursion, find, position_or_len, slice_get}
use Rattle.std.proofs.lemmas.Bool.{cases_Bool, cond_both, or_parts, eqb-true, eqb-false, ltb-false}
use Rattle.std.proofs.lemmas.Option.{same_Some, slice_get_past}
use Rattle.std.proofs.lemmas.List.Folds.{find_at}
use Rattle.std.proofs.lemmas.List.Sums.{fold-append}
use Rattle.mb_geom.specs.Description.{Description, block_count}
use Rattle.mb_geom.proofs.PartitionLemmas.{le-ceiling-times}
use Rattle.mb_alc.specs.Packet.{Body}
use Rattle.mb_alc.specs.declared.packet.Fti.{Fti}
use Rattle.mb_window.specs.Symbols as symbol
use Rattle.mb_window.specs.Symbols.{Symbol, symbols_of, is_whole, joined}
use Rattle.mb_window.specs.Assembled.{Assembled, text_of, is_misshapen, same_text, is_past_block, is_good_length, nothing_of}
use Rattle.mb_window.specs.Laws.{IsSymbolOf}
use Rattle.mb_window.specs.Window as window
use Rattle.mb_window.specs.Window.{Hearing, slot_place, slot_at, with_room, with_slot, text_in, text_for, symbols_refused, assembled_in, assembled_so_far, dropped, hear_with, heard_more, hear_unless, hear_for, settled_text, settle_text, settle, without, clear, is_expired, expire, slots_most}
use Rattle.mb_window.specs.declared.heard.WindowHeard.{WindowHeard}
use Rattle.mb_window.specs.declared.heard.WindowHeard.TheVariants.{Shape, Differs, Whole}
use Rattle.mb_window.specs.declared.slot.Slot.{Slot}
use Rattle.mb_window.specs.declared.slot.State.{State}
use Rattle.mb_window.specs.declared.slot.State.TheVariants.{Read, Heard}
use Rattle.mb_window.proofs.LawLemmas.{is_sent}
use Rattle.mb_machine.specs.SentSet.{SentSet, SentText, IsHonestInstance}
use Rattle.mb_machine.proofs.EachLemmas.{all-append, all-filter, all-set, all-drop, all-remove, all-found}
use Rattle.mb_machine.proofs.HandOutLemmas.{found_passes}

-- ---- what is known of slots

-- the text that was sent under an ID
pub record IsSentText (sent : SentSet) (id : ℕ) (text : List ℕ) : Type 0 where
  pub of : SentText
  pub known : sent.texts id ≡ Some of
  pub same : text ≡ of.text

-- symbols of the sent text were heard, and nothing else
pub record IsSentAssembled (sent : SentSet) (id : ℕ) (a : Assembled) : Type 0 where
  pub of : SentText
  pub known : sent.texts id ≡ Some of
  pub some : 0 < of.fti.symbol
  pub text : a.text ≡ text_of of.fti
  pub heard : List Symbol
  pub honest : AllByRecursion (IsSymbolOf (text_of of.fti) of.text) heard
  pub kept : a.kept ≡ symbol.hear_symbols (text_of of.fti) heard (nothing_of (text_of of.fti)).kept

-- nothing is known of a text that was read
abbrev pub IsSentState : SentSet → ℕ → State → Type 0
IsSentState sent id (Read text expires) = Unit {0}
IsSentState sent id (Heard a) = IsSentAssembled sent id a

abbrev pub IsSentSlot : SentSet → Slot → Type 0
IsSentSlot sent slot = IsSentState sent slot.id slot.state

abbrev pub AreSentSlots : SentSet → List Slot → Type 0
AreSentSlots sent slots = AllByRecursion (IsSentSlot sent) slots

-- ---- symbols

-- one text is sent under an ID
same_text_sent : (sent : SentSet) (id : ℕ) (a b : SentText) → sent.texts id ≡ Some a → sent.texts id ≡ Some b → a ≡ b
same_text_sent sent id a b one other = same_Some a b (sym one ∙ other)

-- more honest symbols
more-sent : (sent : SentSet) (id : ℕ) (fti : Option Fti) (body : Body) (a : Assembled) → IsHonestInstance sent id fti body → IsSentAssembled sent id a
    → IsSentAssembled sent id (heard_more a body)
more-sent sent id fti body a honest is =
    let d : Description = text_of is.of.fti in
    let same : honest.of ≡ is.of = same_text_sent sent id honest.of is.of honest.known is.known in
    let symbols : AllByRecursion (IsSymbolOf d is.of.text) (symbols_of d body)
    = subst (λ (of : SentText). AllByRecursion (IsSymbolOf (text_of of.fti) of.text) (symbols_of (text_of of.fti) body)) same honest.symbols in
    record {
      of = is.of;
      known = is.known;
      some = is.some;
      text = is.text;
      heard = is.heard ++ symbols_of d body;
      honest = all-append (IsSymbolOf d is.of.text) is.heard (symbols_of d body) is.honest symbols;
      kept = ap₂ (λ (text : Description) (kept : List (Option (List ℕ))). symbol.hear_symbols text (symbols_of text body) kept) is.text is.kept
          ∙ sym (fold-append (symbol.keep d) (nothing_of d).kept is.heard (symbols_of d body));
    }

-- where no symbol is missing
whole-sent : (sent : SentSet) (id : ℕ) (a : Assembled) → IsSentAssembled sent id a → is_whole a.kept ≡ true → IsSentText sent id (joined a.kept)
whole-sent sent id a is whole =
    let d : Description = text_of is.of.fti in
    let long : length is.of.text ≡ is.of.fti.transfer = sent.text_lengths id is.of is.known in
    let within = le-ceiling-times is.of.fti.transfer is.of.fti.symbol is.some in
    record {
      of = is.of;
      known = is.known;
      same = ap joined is.kept ∙ is_sent d is.of.text is.heard (rw long within) is.honest (sym (ap is_whole is.kept) ∙ whole);
    }

-- the first honest packet of a text
nothing-sent : (sent : SentSet) (id : ℕ) (fti : Fti) (body : Body) → IsHonestInstance sent id (Some fti) body → is_misshapen fti ≡ false
    → IsSentAssembled sent id (nothing_of (text_of fti))
nothing-sent sent id fti body honest shaped =
    let some : fti.symbol ≡ 0 → ⊥ = eqb-false fti.symbol 0 (or_parts _ _ shaped).0 in
    let same : fti ≡ honest.of.fti = honest.same_fti in
    record {
      of = honest.of;
      known = honest.known;
      some = rw (sym same) (omega (arith, some));
      text = ap text_of same;
      heard = [];
      honest = tt;
      kept = ap (λ (f : Fti). (nothing_of (text_of f)).kept) same;
    }

-- ---- slots

-- what a search for an instance's slot finds
found-slot : (id : ℕ) (slots : List Slot) → slot_at (slot_place id slots) slots ≡ find (λ (slot : Slot). slot.id == id) slots
found-slot id slots =
    let test : Slot → Bool = λ slot. slot.id == id in
    let place : ℕ = position_or_len test slots in
    let is : find test slots ≡ slice_get slots place = find_at test slots in
    elim (cases_Bool (nat_lt place (length slots))) [
      | inl within ↦ rw within (sym is)
      | inr past ↦ rw past (sym (is ∙ slice_get_past slots place (ltb-false place (length slots) past)))
    ]

-- the slot that stands under the ID
abbrev IsFound : SentSet → ℕ → Option Slot → Type 0
IsFound sent id found = IfSome found (λ slot. IsSentState sent id slot.state)

is_found : (sent : SentSet) (id : ℕ) (slots : List Slot) (found : Option Slot) → AreSentSlots sent slots → find (λ (slot : Slot). slot.id == id) slots ≡ found
    → IsFound sent id found
is_found sent id slots None all is = tt
is_found sent id slots (Some slot) all is =
    let test : Slot → Bool = λ slot. slot.id == id in
    let own : slot.id ≡ id = eqb-true slot.id id (found_passes test slots slot is) in
    subst (λ (n : ℕ). IsSentState sent n slot.state) own (all-found (IsSentSlot sent) test slots slot all is)

room-sent : (sent : SentSet) (slots : List Slot) → AreSentSlots sent slots → AreSentSlots sent (with_room slots)
room-sent sent slots all =
    cond_both (nat_lt (length slots) slots_most) slots (drop 1 slots) (AreSentSlots sent) (λ _. all) (λ _. all-drop (IsSentSlot sent) 1 slots all)

put-sent : (sent : SentSet) (place : Option ℕ) (slot : Slot) (slots : List Slot) → IsSentSlot sent slot → AreSentSlots sent slots
    → AreSentSlots sent (with_slot place slot slots)
put-sent sent None slot slots new all = all-append (IsSentSlot sent) (with_room slots) (slot ∷ []) (room-sent sent slots all) (new, tt)
put-sent sent (Some place) slot slots new all = all-set (IsSentSlot sent) slots place slot new all

-- ---- a packet

-- what the window answers: a whole text is the sent one
abbrev pub IsSentAnswer : SentSet → ℕ → WindowHeard → Type 0
IsSentAnswer sent id (Whole text) = IsSentText sent id text
IsSentAnswer sent id other = Unit {0}

pub record IsHonestHearing (sent : SentSet) (id : ℕ) (h : Hearing) : Type 0 where
  pub slots : AreSentSlots sent h.slots
  pub heard : IsSentAnswer sent id h.heard

with-sent : (sent : SentSet) (id : ℕ) (place : Option ℕ) (slots : List Slot) (a : Assembled) → AreSentSlots sent slots → IsSentAssembled sent id a
    → IsHonestHearing sent id (hear_with id place slots a.text a.kept)
with-sent sent id place slots a all is =
    cond_both (is_whole a.kept) _ _ (IsHonestHearing sent id)
    (λ whole. record { slots = all; heard = whole-sent sent id a is whole })
    (λ _. record { slots = put-sent sent place (record { id = id; state = Heard a }) slots is all; heard = tt })

symbols-sent : (sent : SentSet) (id : ℕ) (place : Option ℕ) (slots : List Slot) (fti : Option Fti) (body : Body) (so_far : Option Assembled)
    → IsHonestInstance sent id fti body → AreSentSlots sent slots → IfSome so_far (IsSentAssembled sent id)
    → IsHonestHearing sent id (window.hear_symbols id place slots body so_far)
symbols-sent sent id place slots fti body None honest all is = record { slots = all; heard = tt }
symbols-sent sent id place slots fti body (Some a) honest all is =
    with-sent sent id place slots (heard_more a body) all (more-sent sent id fti body a honest is)

-- a packet of a text
text-sent : (sent : SentSet) (id : ℕ) (place : Option ℕ) (slots : List Slot) (fti : Option Fti) (body : Body) (text : Description) (so_far : Option Assembled)
    → IsHonestInstance sent id fti body → AreSentSlots sent slots → IfSome so_far (IsSentAssembled sent id)
    → IsHonestHearing sent id (hear_unless (symbols_refused text body) id place slots body so_far)
text-sent sent id place slots fti body text so_far honest all is =
    let C : Option WindowHeard → Type 0 = λ reason. IsHonestHearing sent id (hear_unless reason id place slots body so_far) in
    cond_both (nat_le (block_count text) body.sbn) _ _ C (λ _. record { slots = all; heard = tt })
    (λ _. cond_both (is_past_block text body) _ _ C (λ _. record { slots = all; heard = tt })
    (λ _. cond_both (not (is_good_length text body)) _ _ C (λ _. record { slots = all; heard = tt })
    (λ _. symbols-sent sent id place slots fti body so_far honest all is)))

so_far-sent : (sent : SentSet) (id : ℕ) (state : State) → IsSentState sent id state → IfSome (assembled_in state) (IsSentAssembled sent id)
so_far-sent sent id (Read text expires) is = tt
so_far-sent sent id (Heard a) is = is

slot-sent : (sent : SentSet) (id : ℕ) (place : Option ℕ) (slots : List Slot) (fti : Option Fti) (body : Body) (found : Option Slot)
    → slot_at place slots ≡ found → IsFound sent id found → IsHonestInstance sent id fti body → AreSentSlots sent slots
    → IsHonestHearing sent id (hear_for (text_for found fti) id place slots body)
slot-sent sent id place slots None body None at is honest all = record { slots = all; heard = tt }
slot-sent sent id place slots (Some fti) body None at is honest all =
    cond_both (is_misshapen fti) (Err Shape) (Ok (text_of fti)) (λ (r : Result Description WindowHeard). IsHonestHearing sent id (hear_for r id place slots body))
    (λ _. record { slots = all; heard = tt })
    (λ shaped. rw at (text-sent sent id place slots (Some fti) body (text_of fti) (Some (nothing_of (text_of fti))) honest all (nothing-sent sent id fti body honest shaped)))
slot-sent sent id place slots None body (Some slot) at is honest all =
    rw at (text-sent sent id place slots None body (text_in slot.state) (assembled_in slot.state) honest all (so_far-sent sent id slot.state is))
slot-sent sent id place slots (Some fti) body (Some slot) at is honest all =
    let C : Result Description WindowHeard → Type 0 = λ r. IsHonestHearing sent id (hear_for r id place slots body) in
    cond_both (is_misshapen fti) (Err Shape) _ C
    (λ _. record { slots = all; heard = tt })
    (λ _. cond_both (same_text (text_of fti) (text_in slot.state)) (Ok (text_in slot.state)) (Err Differs) C
    (λ _. rw at (text-sent sent id place slots (Some fti) body (text_in slot.state) (assembled_in slot.state) honest all (so_far-sent sent id slot.state is)))
    (λ _. record { slots = all; heard = tt }))

pub hearing-sent : (sent : SentSet) (id : ℕ) (fti : Option Fti) (body : Body) (slots : List Slot) → IsHonestInstance sent id fti body → AreSentSlots sent slots
    → IsHonestHearing sent id (window.hear id fti body slots)
hearing-sent sent id fti body slots honest all =
    let place = slot_place id slots in
    slot-sent sent id place slots fti body (slot_at place slots) refl
    (is_found sent id slots (slot_at place slots) all (sym (found-slot id slots))) honest all

-- ---- what is done with an instance

settled-sent : (sent : SentSet) (id expires : ℕ) (place : Option ℕ) (text : Option Description) (slots : List Slot) → AreSentSlots sent slots
    → AreSentSlots sent (settle_text id expires place text slots)
settled-sent sent id expires place None slots all = all
settled-sent sent id expires place (Some text) slots all = put-sent sent place (record { id = id; state = Read text expires }) slots tt all

pub settle-sent : (sent : SentSet) (id : ℕ) (fti : Option Fti) (expires : ℕ) (slots : List Slot) → AreSentSlots sent slots → AreSentSlots sent (settle id fti expires slots)
settle-sent sent id fti expires slots all =
    settled-sent sent id expires (slot_place id slots) (settled_text (slot_at (slot_place id slots) slots) fti) slots all

without-sent : (sent : SentSet) (place : Option ℕ) (slots : List Slot) → AreSentSlots sent slots → AreSentSlots sent (without place slots)
without-sent sent None slots all = room-sent sent slots all
without-sent sent (Some place) slots all = all-remove (IsSentSlot sent) slots place all

pub clear-sent : (sent : SentSet) (id : ℕ) (slots : List Slot) → AreSentSlots sent slots → AreSentSlots sent (clear id slots)
clear-sent sent id slots all = without-sent sent (slot_place id slots) slots all

pub expire-sent : (sent : SentSet) (clock : ℕ) (slots : List Slot) → AreSentSlots sent slots → AreSentSlots sent (expire clock slots)
expire-sent sent clock slots all =
    all-filter (IsSentSlot sent) (IsSentSlot sent) (λ slot. not (is_expired clock slot.state)) slots (λ slot _ is. is) all
