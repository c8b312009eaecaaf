-- The window: the FDT Instances whose texts are put together from packets, or were read.
use Rattle.std.specs.Prelude.{◌≡◌, ℕ, ◌+◌, ◌*◌, ◌==◌, Bool, false, not, nat_lt, nat_le, if◌then◌else◌, List, [], ◌∷◌, ◌++◌, length, drop, filter, remove, position, sum_by, slice_get, slice_set, Option, Some, None, is_some, Result, Ok, Err}
use Rattle.mb_geom.specs.Partition.{ceiling}
use Rattle.mb_geom.specs.Description.{Description, symbols, block_count}
use Rattle.mb_alc.specs.Packet.{Body}
use Rattle.mb_alc.specs.declared.packet.Fti.{Fti}
use Rattle.mb_window.specs.Symbols as symbol
use Rattle.mb_window.specs.Symbols.{symbols_of, is_whole, joined}
use Rattle.mb_window.specs.Assembled.{Assembled, text_of, is_misshapen, same_text, is_past_block, is_good_length, nothing_of}
use Rattle.mb_window.specs.declared.heard.WindowHeard.{WindowHeard}
use Rattle.mb_window.specs.declared.heard.WindowHeard.TheVariants.{NoIds, Shape, Differs, Block, Symbol, Length, Done, Part, Whole}
use Rattle.mb_window.specs.declared.slot.Slot.{Slot}
use Rattle.mb_window.specs.declared.slot.State.{State}
use Rattle.mb_window.specs.declared.slot.State.TheVariants.{Read, Heard}

-- how many slots stand at most
abbrev pub slots_most : ℕ
slots_most = 16

-- ---- slots, in the order in which they were made

-- where the instance's slot stands
abbrev pub slot_place : ℕ → List Slot → Option ℕ
slot_place id slots = position (λ slot. slot.id == id) slots

-- whether it has one
abbrev pub has : ℕ → List Slot → Bool
has id slots = is_some (slot_place id slots)

abbrev pub slot_at : Option ℕ → List Slot → Option Slot
slot_at None slots = None
slot_at (Some place) slots = slice_get slots place

-- the slots with room for one more: of 16 the one that was made first is given up
abbrev pub with_room : List Slot → List Slot
with_room slots = if nat_lt (length slots) slots_most then slots else drop 1 slots

-- with this slot in its place, or as a new last one
abbrev pub with_slot : Option ℕ → Slot → List Slot → List Slot
with_slot None slot slots = with_room slots ++ slot ∷ []
with_slot (Some place) slot slots = slice_set slots place slot

-- the text that the slot's EXT_FTI is of
abbrev pub text_in : State → Description
text_in (Read text expires) = text
text_in (Heard assembled) = assembled.text

-- ---- a packet with an instance's ID

-- the text that the packet is of, by its EXT_FTI and the instance's slot, or why it is dropped
abbrev pub text_for : Option Slot → Option Fti → Result Description WindowHeard
text_for None None = Err NoIds
text_for None (Some fti) = if is_misshapen fti then Err Shape else Ok (text_of fti)
text_for (Some slot) None = Ok (text_in slot.state)
text_for (Some slot) (Some fti) =
    if is_misshapen fti then Err Shape
    else if same_text (text_of fti) (text_in slot.state) then Ok (text_in slot.state)
    else Err Differs

-- why the text has no such symbols
abbrev pub symbols_refused : Description → Body → Option WindowHeard
symbols_refused d body =
    if nat_le (block_count d) body.sbn then Some Block
    else if is_past_block d body then Some Symbol
    else if not (is_good_length d body) then Some Length
    else None

-- what was heard so far of a text that wasn't read
abbrev pub assembled_in : State → Option Assembled
assembled_in (Read text expires) = None
assembled_in (Heard assembled) = Some assembled

abbrev pub assembled_so_far : Description → Option Slot → Option Assembled
assembled_so_far text None = Some (nothing_of text)
assembled_so_far text (Some slot) = assembled_in slot.state

-- the window after a packet, and what became of the packet
pub record Hearing : Type 0 where
  pub slots : List Slot
  pub heard : WindowHeard

-- a packet that is dropped changes nothing
abbrev pub dropped : List Slot → WindowHeard → Hearing
dropped slots reason = record { slots = slots; heard = reason }

-- the packet's symbols are kept in the instance's slot, unless the text is whole with them
abbrev pub hear_with : ℕ → Option ℕ → List Slot → Description → List (Option (List ℕ)) → Hearing
hear_with id place slots text kept =
    if is_whole kept then record { slots = slots; heard = Whole (joined kept) }
    else record { slots = with_slot place (record { id = id; state = Heard (record { text = text; kept = kept }) }) slots; heard = Part }

-- the text with the packet's symbols
abbrev pub heard_more : Assembled → Body → Assembled
heard_more a body = record a { kept = symbol.hear_symbols a.text (symbols_of a.text body) a.kept }

abbrev pub hear_symbols : ℕ → Option ℕ → List Slot → Body → Option Assembled → Hearing
hear_symbols id place slots body None = dropped slots Done
hear_symbols id place slots body (Some a) = hear_with id place slots a.text (heard_more a body).kept

-- what a packet did to the window, and its answer
abbrev pub Hears : Hearing → List Slot → WindowHeard → Type 0
Hears is slots heard = (slots ≡ is.slots) × (heard ≡ is.heard)

abbrev pub hear_unless : Option WindowHeard → ℕ → Option ℕ → List Slot → Body → Option Assembled → Hearing
hear_unless (Some reason) id place slots body so_far = dropped slots reason
hear_unless None id place slots body so_far = hear_symbols id place slots body so_far

abbrev pub hear_for : Result Description WindowHeard → ℕ → Option ℕ → List Slot → Body → Hearing
hear_for (Err reason) id place slots body = dropped slots reason
hear_for (Ok text) id place slots body =
    hear_unless (symbols_refused text body) id place slots body (assembled_so_far text (slot_at place slots))

-- a packet is dropped for the first reason that holds, else its symbols are heard
abbrev pub hear : ℕ → Option Fti → Body → List Slot → Hearing
hear id fti body slots = let place = slot_place id slots in
    hear_for (text_for (slot_at place slots) fti) id place slots body

-- ---- what the caller does with an instance

-- the text of the instance's slot, or of an EXT_FTI that a text has
abbrev pub settled_text : Option Slot → Option Fti → Option Description
settled_text (Some slot) fti = Some (text_in slot.state)
settled_text None None = None
settled_text None (Some fti) = if is_misshapen fti then None else Some (text_of fti)

abbrev pub settle_text : ℕ → ℕ → Option ℕ → Option Description → List Slot → List Slot
settle_text id expires place None slots = slots
settle_text id expires place (Some text) slots = with_slot place (record { id = id; state = Read text expires }) slots

-- the instance was read, and stands so until it expires
abbrev pub settle : ℕ → Option Fti → ℕ → List Slot → List Slot
settle id fti expires slots = let place = slot_place id slots in
    settle_text id expires place (settled_text (slot_at place slots) fti) slots

abbrev pub without : Option ℕ → List Slot → List Slot
without None slots = with_room slots
without (Some place) slots = remove slots place

-- the instance's slot is given up; where it has none, as if it had been made for that
abbrev pub clear : ℕ → List Slot → List Slot
clear id slots = without (slot_place id slots) slots

abbrev pub is_expired : ℕ → State → Bool
is_expired clock (Read text expires) = nat_lt expires clock
is_expired clock (Heard assembled) = false

-- read instances are given up once the clock is past their expiry
abbrev pub expire : ℕ → List Slot → List Slot
expire clock slots = filter (λ slot. not (is_expired clock slot.state)) slots

-- the bytes of a text that is put together, and a bit for each symbol, in words of 64
abbrev pub buffer_of : State → ℕ
buffer_of (Read text expires) = 0
buffer_of (Heard assembled) = assembled.text.length + 8 * ceiling (symbols assembled.text) 64

abbrev pub buffered : List Slot → ℕ
buffered slots = sum_by (λ slot. buffer_of slot.state) slots

-- the most bytes of all texts and their bits
abbrev pub buffered_most : ℕ
buffered_most = 1179648
