-- What the values of attributes, as they stand in a text, say of a file.
use Rattle.std.specs.Prelude.{ℕ, List, Option, Some, None, option_map}
use Rattle.std.specs.Borrow.{Bor}
use Rattle.mb_xml.specs.Reference.{replaced}
use Rattle.mb_fdt.specs.declared.values.Said.{Said as ReadSaid}
use Rattle.mb_fdt_text.specs.Entry.{Said}

-- a value with its characters in place of its references
abbrev pub value_of : Option (Bor (List ℕ)) → Option (List ℕ)
value_of value = option_map (λ v. replaced v.now) value

abbrev pub said_of : ReadSaid → Said
said_of s = record {
  location = value_of s.location;
  toi = value_of s.toi;
  content_length = value_of s.content_length;
  transfer_length = value_of s.transfer_length;
  encoding = value_of s.encoding;
  root_encoding = value_of s.root_encoding;
  md5 = value_of s.md5;
  encoding_id = value_of s.encoding_id;
  max_block = value_of s.max_block;
  symbol = value_of s.symbol;
  info = value_of s.info;
}

-- what a value of the File says, or what is read of the root where the File has none
abbrev pub over : {A : Type 0} → (List ℕ → Option A) → Option (List ℕ) → Option A → Option A
over read None shared = shared
over read (Some value) shared = read value
