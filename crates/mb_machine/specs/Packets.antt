-- What a packet does to the table of a session.
use Rattle.std.specs.Prelude.{ℕ, ◌+◌, ◌-◌, ◌==◌, ◌||◌, ◌&&◌, Bool, true, false, not, max, nat_lt, nat_le, if◌then◌else◌, List, length, take, slice_index, Option, Some, None, is_none, Result, Ok, Err}
use Rattle.mb_base.specs.Number.{be_number}
use Rattle.mb_geom.specs.Description.{Description, block_count, block_size, tail}
use Rattle.mb_geom.specs.declared.desc.Scheme.{Scheme}
use Rattle.mb_geom.specs.declared.desc.Scheme.TheVariants.{NoCode, Raptor}
use Rattle.mb_fdt_text.specs.declared.fdt.Fdt.{Fdt}
use Rattle.mb_fdt_text.specs.declared.fdt.FdtFault.{FdtFault}
use Rattle.mb_fdt.specs.Reader.{fdt_of}
use Rattle.mb_alc.specs.Packet.{Packet, Body}
use Rattle.mb_alc.specs.declared.packet.Fti.{Fti}
use Rattle.mb_window.specs.Symbols.{symbol_count}
use Rattle.mb_window.specs.Assembled.{short_bytes}
use Rattle.mb_window.specs.Window as window
use Rattle.mb_window.specs.declared.heard.WindowHeard.{WindowHeard}
use Rattle.mb_window.specs.declared.heard.WindowHeard.TheVariants as fdt
use Rattle.mb_encoder.specs.Solutions.{Pair}
use Rattle.mb_way.specs.Heard.{hear_pairs}
use Rattle.mb_file.specs.File.{pairs_from}
use Rattle.mb_life.specs.Life.{Life, way_in, kept_in, hear_in_block}
use Rattle.mb_machine.specs.Table.{Table, tick, life_of, change_life}
use Rattle.mb_machine.specs.Entries.{with_instance}
use Rattle.mb_machine.specs.declared.reason.Reason.{Reason}
use Rattle.mb_machine.specs.declared.reason.Reason.TheVariants as reason
use Rattle.mb_machine.specs.declared.happened.Happened.{Happened}
use Rattle.mb_machine.specs.declared.happened.Happened.TheVariants.{Dropped, Part, Instance, BadInstance, LateInstance, Heard}

-- the table after a packet, and what the packet did
pub record Stepped : Type 0 where
  pub table : Table
  pub happened : Happened

-- a packet that is dropped changes nothing
abbrev pub drop_for : Reason → Table → Stepped
drop_for why t = record { table = t; happened = Dropped why }

-- ---- packets of FDT Instances

-- the instance that a text is of, once it is whole: it is read, it is late, or it has a fault; the last two give its slot up
abbrev pub read_instance : ℕ → Option Fti → Result Fdt FdtFault → Table → Stepped
read_instance id fti (Err fault) t = record { table = record t { slots = window.clear id t.slots }; happened = BadInstance id fault }
read_instance id fti (Ok fdt) t =
    if nat_lt fdt.expires t.clock
    then record { table = record t { slots = window.clear id t.slots }; happened = LateInstance id }
    else (let s = with_instance t.tables fdt.expires fdt.files t.lives in record {
      table = record t { slots = window.settle id fti fdt.expires t.slots; lives = s.lives };
      happened = Instance id s.report;
    })

-- what the window answers of a packet
abbrev pub after_window : ℕ → Option Fti → WindowHeard → Table → Stepped
after_window id fti fdt.NoIds t = drop_for reason.FdtWithoutIds t
after_window id fti fdt.Shape t = drop_for reason.FdtShape t
after_window id fti fdt.Differs t = drop_for reason.FtiDiffers t
after_window id fti fdt.Block t = drop_for reason.Block t
after_window id fti fdt.Symbol t = drop_for reason.Symbol t
after_window id fti fdt.Length t = drop_for reason.Length t
after_window id fti fdt.Done t = drop_for reason.Done t
after_window id fti fdt.Part t = record { table = t; happened = Part id }
after_window id fti (fdt.Whole text) t = read_instance id fti (fdt_of text) t

abbrev pub hear_in_window : ℕ → Option Fti → Body → Table → Stepped
hear_in_window id fti body t = let h = window.hear id fti body t.slots in
    after_window id fti h.heard (record t { slots = h.slots })

-- EXT_CENC names an encoding, which 0 doesn't (RFC 3926 section 3.4.3)
abbrev pub is_encoded : Option ℕ → Bool
is_encoded None = false
is_encoded (Some algorithm) = not (algorithm == 0)

abbrev pub hear_fdt : Packet → Body → Option ℕ → Table → Stepped
hear_fdt p body None t = drop_for reason.FdtWithoutIds t
hear_fdt p body (Some id) t =
    if not (window.has id t.slots) && is_none p.exts.fti then drop_for reason.FdtWithoutIds t
    else if is_encoded p.exts.cenc then drop_for reason.FdtEncoded t
    else if not (p.lct.cp == 0) then drop_for reason.CodePointDiffers t
    else hear_in_window id p.exts.fti body t

-- ---- packets of objects

-- the last four bytes of EXT_FTI are those of the scheme (RFC 3926 section 5.1.2.1, RFC 5053 section 3.2.3)
abbrev pub is_scheme : Scheme → List ℕ → Bool
is_scheme (NoCode b) last = be_number last == b
is_scheme (Raptor z n al) last = (be_number (take 2 last) == z) && ((slice_index last 2 == n) && (slice_index last 3 == al))

abbrev pub fti_differs : Description → Option Fti → Bool
fti_differs d None = false
fti_differs d (Some fti) = not ((fti.transfer == d.length) && ((fti.symbol == d.symbol) && is_scheme d.scheme fti.tail))

-- the codepoint of a scheme is its FEC Encoding ID (RFC 3926 section 5.1)
abbrev pub code_point : Scheme → ℕ
code_point (NoCode b) = 0
code_point (Raptor z n al) = 1

-- the ESIs of a block of k source symbols are below this
abbrev pub esi_end : Scheme → ℕ → ℕ
esi_end (NoCode b) k = k
esi_end (Raptor z n al) k = 65536

-- the packet's last symbol is past its block's last one; a packet without a symbol is looked at as one with one
abbrev pub is_past_block : Description → Body → Bool
is_past_block d body = nat_lt (esi_end d.scheme (block_size d body.sbn)) (body.esi + max (symbol_count d body) 1)

-- a symbol without its last bytes can be told of a scheme with one sub-block
abbrev pub may_be_short : Scheme → Bool
may_be_short (NoCode b) = true
may_be_short (Raptor z n al) = n == 1

-- the packet's last symbol is the file's last source symbol
abbrev pub ends_file : Description → Body → Bool
ends_file d body = (body.sbn + 1 == block_count d) && (body.esi + symbol_count d body == block_size d body.sbn)

-- A short symbol is the file's last one, and has the file's bytes of it at least.
abbrev pub is_good_length : Description → Body → Bool
is_good_length d body = nat_lt 0 (length body.payload)
    && ((short_bytes d body == 0) || (may_be_short d.scheme && (ends_file d body && nat_le (tail d) (short_bytes d body))))

-- the file has no such symbols
abbrev pub symbols_refused : Description → Body → Option Reason
symbols_refused d body =
    if nat_le (block_count d) body.sbn then Some reason.Block
    else if is_past_block d body then Some reason.Symbol
    else if not (is_good_length d body) then Some reason.Length
    else None

abbrev pub done_refused : Life → Option Reason
done_refused life = if life.done then Some reason.Done else None

abbrev pub or_reason : Option Reason → Option Reason → Option Reason
or_reason (Some why) other = Some why
or_reason None other = other

-- the first reason why a packet of a life's object is dropped
abbrev pub object_reason : Life → Packet → Body → Option Reason
object_reason life p body =
    if fti_differs life.desc p.exts.fti then Some reason.FtiDiffers
    else if not (p.lct.cp == code_point life.desc.scheme) then Some reason.CodePointDiffers
    else or_reason (symbols_refused life.desc body) (done_refused life)

-- the symbols that a payload holds
abbrev pub pairs_of : Description → Body → List Pair
pairs_of d body = pairs_from (symbol_count d body) d.symbol body.esi body.payload

-- how many more pairs a block keeps once these were heard
abbrev pub news : Life → ℕ → List Pair → ℕ
news life sbn pairs = length (hear_pairs (way_in sbn life) (kept_in sbn life) pairs) - length (kept_in sbn life)

-- symbols of a block of a life are heard
abbrev pub hear_symbols : Life → ℕ → List Pair → Table → Stepped
hear_symbols life sbn pairs t = record {
  table = record t { lives = change_life life.toi (hear_in_block sbn pairs) t.lives };
  happened = Heard life.toi sbn (news life sbn pairs) (length pairs - news life sbn pairs);
}

abbrev pub hear_unless : Option Reason → Life → ℕ → List Pair → Table → Stepped
hear_unless (Some why) life sbn pairs t = drop_for why t
hear_unless None life sbn pairs t = hear_symbols life sbn pairs t

abbrev pub hear_object : Option Life → Packet → Body → Table → Stepped
hear_object None p body t = drop_for reason.Unknown t
hear_object (Some life) p body t = hear_unless (object_reason life p body) life body.sbn (pairs_of life.desc body) t

-- ---- any packet

-- TOI 0 is that of FDT Instances (RFC 3926 section 3.3)
abbrev pub hear_body : Packet → ℕ → Body → Table → Stepped
hear_body p toi body t = if toi == 0 then hear_fdt p body p.exts.fdt t else hear_object (life_of toi t.lives) p body t

abbrev pub hear_in_session : Packet → Option ℕ → Option Body → Table → Stepped
hear_in_session p None body t = drop_for reason.NoToi t
hear_in_session p (Some toi) None t = drop_for reason.NoBody t
hear_in_session p (Some toi) (Some body) t = hear_body p toi body t

abbrev pub hear_packet : Packet → Table → Stepped
hear_packet p t =
    if t.closed then drop_for reason.Closed t
    else if p.lct.tsi == t.tsi then hear_in_session p p.lct.toi p.body t
    else drop_for reason.OtherSession t

-- a packet of the session with Close Session closes it, whatever became of the packet
abbrev pub closes : ℕ → Packet → Bool
closes tsi p = (p.lct.tsi == tsi) && p.lct.close_session

abbrev pub close_if : Bool → Stepped → Stepped
close_if closing s = record { table = record s.table { closed = s.table.closed || closing }; happened = s.happened }

-- a packet of this moment: the clock moves, and then the packet is heard or dropped
abbrev pub packet : ℕ → Packet → Table → Stepped
packet at p t = close_if (closes t.tsi p) (hear_packet p (tick at t))
