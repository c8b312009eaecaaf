-- The text of an FDT Instance under Compact No-Code (RFC 3926 sections 3.4 and 5.1), as far as it was heard.
use Rattle.std.specs.Prelude.{ℕ, ◌+◌, ◌%◌, ◌<◌, ◌≤◌, ◌^◌, ◌==◌, ◌||◌, ◌&&◌, Bool, nat_lt, nat_le, List, [], length, replicate, max, Option, None}
use Rattle.mb_base.specs.Number.{be_number}
use Rattle.mb_geom.specs.Description.{Description, symbols, block_size, same_scheme, tail}
use Rattle.mb_geom.specs.declared.desc.Scheme.TheVariants.{NoCode}
use Rattle.mb_alc.specs.Packet.{Body}
use Rattle.mb_alc.specs.declared.packet.Fti.{Fti}
use Rattle.mb_window.specs.Symbols.{symbol_count, place_of}

-- how many bytes a text has at most
abbrev pub text_most : ℕ
text_most = 65536

-- a text of f bytes, in symbols of t bytes, with at most b symbols in a block
abbrev pub text_with : ℕ → ℕ → ℕ → Description
text_with f t b = record { location = []; length = f; symbol = t; scheme = NoCode b; md5 = None }

-- the maximum source block length of EXT_FTI, its last four bytes (RFC 3926 section 5.1.2.1)
abbrev pub block_most : Fti → ℕ
block_most fti = be_number fti.tail

-- the text that an EXT_FTI is of; its FEC Instance ID says nothing of it
abbrev pub text_of : Fti → Description
text_of fti = text_with fti.transfer fti.symbol (block_most fti)

-- No text has this EXT_FTI. Since a text has at most 65,536 symbols, no block has more.
abbrev pub is_misshapen : Fti → Bool
is_misshapen fti = (fti.symbol == 0) || ((block_most fti == 0) || ((fti.transfer == 0) || nat_lt text_most fti.transfer))

-- the numbers of a text
pub record AreText (f t b : ℕ) : Type 0 where
  pub some : 0 < f
  pub most : f ≤ text_most
  pub symbol_some : 0 < t
  pub symbol_fits : t < 2 ^ 16
  pub block_some : 0 < b
  pub block_fits : b < 2 ^ 32

-- whether two EXT_FTI are of the same text
abbrev pub same_text : Description → Description → Bool
same_text a b = (a.length == b.length) && ((a.symbol == b.symbol) && same_scheme a.scheme b.scheme)

-- the packet's last symbol is past its block's last one; a packet without a symbol is looked at as one with one
abbrev pub is_past_block : Description → Body → Bool
is_past_block d body = nat_lt (block_size d body.sbn) (body.esi + max (symbol_count d body) 1)

-- the bytes of the payload's last symbol, where that is short
abbrev pub short_bytes : Description → Body → ℕ
short_bytes d body = length body.payload % d.symbol

-- the packet's last symbol is the text's last one
abbrev pub ends_text : Description → Body → Bool
ends_text d body = place_of d body.sbn body.esi + symbol_count d body == symbols d

-- A short symbol is the text's last one, and has the text's bytes of it at least.
abbrev pub is_good_length : Description → Body → Bool
is_good_length d body = nat_lt 0 (length body.payload)
    && ((short_bytes d body == 0) || (ends_text d body && nat_le (tail d) (short_bytes d body)))

-- a text as far as it was heard
pub record Assembled : Type 0 where
  pub text : Description
  pub kept : List (Option (List ℕ))

-- a text of which nothing was heard
abbrev pub nothing_of : Description → Assembled
nothing_of text = record { text = text; kept = replicate (symbols text) None }
