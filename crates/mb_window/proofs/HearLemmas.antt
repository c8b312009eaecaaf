-- When a text is whole, and what a packet then does to the window.
use Rattle.std.proofs.Common.{◌≡◌, ℕ, zero, suc, ◌+◌, ◌<◌, ◌≤◌, Bool, true, false, cond, List, [], ◌∷◌, length, get_or, set, take, drop, Option, Some, None, Ok, Err, is_some, refl, ◌∙◌, ap, arith, ◌==◌}
use Rattle.std.proofs.lemmas.Grind.{common_steps}
use Rattle.mb_geom.specs.Description.{Description}
use Rattle.mb_alc.specs.Packet.{Body}
use Rattle.mb_window.specs.Symbols.{is_whole, joined, keep_at, cut, symbol_count}
use Rattle.mb_window.specs.Assembled.{Assembled, is_misshapen, same_text, text_of}
use Rattle.mb_window.specs.Buffer.{missing_in, keep_run, IsRun}
use Rattle.mb_window.specs.Window.{Hearing, hear_with, with_slot, heard_more, slot_place, slot_at, text_in, text_for, symbols_refused, hear, hear_symbols, assembled_in}
use Rattle.std.specs.List.{slice_get}
use Rattle.std.proofs.lemmas.List.Quantifiers.{position-Some}
use Rattle.mb_alc.specs.declared.packet.Fti.{Fti}
use Rattle.mb_window.specs.declared.geometry.Run.{Run}
use Rattle.mb_window.specs.declared.slot.Slot.{Slot}
use Rattle.mb_window.specs.declared.slot.State.TheVariants.{Heard}
use Rattle.mb_window.specs.declared.heard.WindowHeard.TheVariants.{Whole, Part, Shape, Differs}
use Rattle.mb_window.proofs.SeenLemmas.{whole-missing}
use Rattle.mb_window.proofs.BufferLemmas.{run-hear}

missing-none_left : (kept : List (Option (List ℕ))) → missing_in kept ≡ 0 → is_whole kept ≡ true
missing-none_left kept none = whole-missing kept ∙ ap (λ n. n == 0) none

not_none : (n : ℕ) → 0 < n → (n == 0) ≡ false
not_none n some = grind (arith, common_steps)

pub missing-some_left : (kept : List (Option (List ℕ))) → 0 < missing_in kept → is_whole kept ≡ false
missing-some_left kept some = whole-missing kept ∙ not_none (missing_in kept) some

pub heard-whole : (id : ℕ) (place : Option ℕ) (slots : List Slot) (text : Description) (kept : List (Option (List ℕ))) → missing_in kept ≡ 0
    → ◌≡◌ {A = Hearing} (hear_with id place slots text kept) (record { slots = slots; heard = Whole (joined kept) })
heard-whole id place slots text kept none = rw (missing-none_left kept none) refl

pub heard-part : (id : ℕ) (place : Option ℕ) (slots : List Slot) (text : Description) (kept : List (Option (List ℕ))) → is_whole kept ≡ false
    → ◌≡◌ {A = Hearing} (hear_with id place slots text kept)
    (record { slots = with_slot place (record { id = id; state = Heard (record { text = text; kept = kept }) }) slots; heard = Part })
heard-part id place slots text kept some = rw some refl

-- one symbol lowers what is missing by one at most
missing_one : (kept : List (Option (List ℕ))) (n : ℕ) (x : List ℕ) → missing_in kept ≤ missing_in (set kept n (Some x)) + 1
missing_one [] n x = omega arith
missing_one (None ∷ kept) zero x = omega arith
missing_one (Some y ∷ kept) zero x = omega arith
missing_one (None ∷ kept) (suc n) x = let others = missing_one kept n x in omega (arith, others)
missing_one (Some y ∷ kept) (suc n) x = missing_one kept n x

missing_if : (b : Bool) (kept new : List (Option (List ℕ))) → missing_in kept ≤ missing_in new + 1 → missing_in kept ≤ missing_in (cond b kept new) + 1
missing_if true kept new one = omega arith
missing_if false kept new one = one

missing_keep : (d : Description) (place : ℕ) (bytes : List ℕ) (kept : List (Option (List ℕ))) → missing_in kept ≤ missing_in (keep_at d place bytes kept) + 1
missing_keep d place bytes kept =
    missing_if (is_some (get_or kept place None)) kept (set kept place (Some (cut d place bytes))) (missing_one kept place (cut d place bytes))

pub missing-run : (n : ℕ) (d : Description) (place : ℕ) (bytes : List ℕ) (kept : List (Option (List ℕ))) → missing_in kept ≤ missing_in (keep_run n d place bytes kept) + n
missing-run zero d place bytes kept = omega arith
missing-run (suc n) d place bytes kept =
    let one = missing_keep d place (take d.symbol bytes) kept in
    let others = missing-run n d (place + 1) (drop d.symbol bytes) (keep_at d place (take d.symbol bytes) kept) in
    omega (arith, one, others)

-- a run is the packet's symbols
pub run-heard_more : (a : Assembled) (body : Body) (run : Run) → IsRun a.text body run
    → ◌≡◌ {A = Assembled} (record a { kept = keep_run run.count a.text run.first body.payload a.kept }) (heard_more a body)
run-heard_more a body run is =
    ap (λ kept. let r : Assembled = record { text = a.text; kept = kept } in r)
    (ap (λ n. keep_run n a.text run.first body.payload a.kept) is.count_is
    ∙ run-hear (symbol_count a.text body) a.text body.sbn body.esi run.first body.payload a.kept is.first_is)

-- ---- slots

same_number : (m n : ℕ) → (m == n) ≡ true → m ≡ n
same_number m n is = grind (arith, common_steps)

pub found-id : (id : ℕ) (slots : List Slot) (place : ℕ) (d : Slot) → slot_place id slots ≡ Some place → (get_or slots place d).id ≡ id
found-id id slots place d found = same_number (get_or slots place d).id id (position-Some (λ slot. slot.id == id) slots place d found).1

slice_get_at : (slots : List Slot) (place : ℕ) (d : Slot) → place < length slots → slice_get slots place ≡ Some (get_or slots place d)
slice_get_at [] place d within = absurd (omega arith)
slice_get_at (slot ∷ slots) zero d within = refl
slice_get_at (slot ∷ slots) (suc place) d within = slice_get_at slots place d (omega arith)

pub found-slot : (id : ℕ) (slots : List Slot) (place : ℕ) (d : Slot) → slot_place id slots ≡ Some place → slot_at (Some place) slots ≡ Some (get_or slots place d)
found-slot id slots place d found = slice_get_at slots place d (position-Some (λ slot. slot.id == id) slots place d found).0

text_if : (misshapen same : Bool) (t d : Description) → cond misshapen (Err Shape) (cond same (Ok t) (Err Differs)) ≡ Ok d → d ≡ t
text_if true same t d is = cc
text_if false true t d is = cc
text_if false false t d is = cc

pub text_for-slot : (slot : Slot) (fti : Option Fti) (d : Description) → text_for (Some slot) fti ≡ Ok d → d ≡ text_in slot.state
text_for-slot slot None d is = cc
text_for-slot slot (Some fti) d is = text_if (is_misshapen fti) (same_text (text_of fti) (text_in slot.state)) (text_in slot.state) d is

-- a packet of an instance that has a slot, which is not dropped
pub hear-found : (id : ℕ) (fti : Option Fti) (body : Body) (slots : List Slot) (place : ℕ) (d : Description) (slot : Slot)
    → slot_place id slots ≡ Some place → text_for (slot_at (Some place) slots) fti ≡ Ok d → symbols_refused d body ≡ None
    → slot_at (Some place) slots ≡ Some slot → hear id fti body slots ≡ hear_symbols id (Some place) slots body (assembled_in slot.state)
hear-found id fti body slots place d slot found text good at = rw (found, text, good, at) refl
