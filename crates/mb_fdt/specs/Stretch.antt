-- The bytes that a reader passes over at once, since each leaves what is begun as it is.
use Rattle.std.specs.Prelude.{◌≡◌, ℕ, ◌==◌, ◌&&◌, ◌≤◌, Bool, false, not, nat_lt, if◌then◌else◌, length, slice_range, Ok}
use Rattle.mb_xml.specs.declared.value_state.Inside.{Inside as ReadInside}
use Rattle.mb_xml.specs.declared.value_state.Inside.TheVariants.{Plain as ReadPlain}
use Rattle.mb_xml.specs.Name.{is_space, is_name_byte}
use Rattle.mb_fdt.specs.declared.token.Token.{Token as ReadToken}
use Rattle.mb_fdt.specs.declared.token.Token.TheVariants.{Between as ReadBetween, Declaration as ReadDeclaration, Comment as ReadComment, ElementName as ReadElementName, InTag as ReadInTag, AttributeName as ReadAttributeName, BehindName as ReadBehindName, BehindEquals as ReadBehindEquals, Value as ReadValue, EndSpace as ReadEndSpace}
use Rattle.mb_fdt.specs.declared.reader.Reader.{Reader as ReadReader}
use Rattle.mb_fdt_text.specs.Reader.{steps}
use Rattle.mb_fdt.specs.ReaderView.{reader_of}

-- a byte other than this one
abbrev pub is_other : ℕ → ℕ → Bool
is_other byte b = not (b == byte)

-- a byte of a value that neither ends it, nor begins a reference in it, nor is forbidden there
abbrev pub is_of_value : ℕ → ℕ → Bool
is_of_value quote b = is_other quote b && is_other 60 b && is_other 38 b

-- a byte of a value, no part of a reference
abbrev pub is_plain : ReadInside → ℕ → ℕ → Bool
is_plain ReadPlain quote b = is_of_value quote b
is_plain inside quote b = false

-- where markup may begin, in so many open elements
abbrev pub is_between : ℕ → ℕ → Bool
is_between depth b = if nat_lt 0 depth then is_other 60 b else is_space b

-- a byte that leaves what is begun as it is, in so many open elements
abbrev pub is_passed : ReadToken → ℕ → ℕ → Bool
is_passed (ReadBetween start) depth b = not start && is_between depth b
is_passed (ReadDeclaration question) depth b = not question && is_other 63 b
is_passed (ReadComment hyphens) depth b = (hyphens == 0) && is_other 45 b
is_passed (ReadElementName from) depth b = is_name_byte b
is_passed ReadInTag depth b = is_space b
is_passed (ReadAttributeName from) depth b = is_name_byte b
is_passed (ReadBehindName slot) depth b = is_space b
is_passed (ReadBehindEquals slot) depth b = is_space b
is_passed (ReadValue quoted) depth b = is_plain quoted.inside quoted.quote b
is_passed ReadEndSpace depth b = is_space b
is_passed token depth b = false

-- The bytes from one place to another leave what is begun as it is.
pub record IsStretch (from to : ℕ) (token : ReadToken) (r : ReadReader) : Type 0 where
  pub forward : from ≤ to
  pub within : to ≤ length r.text.now
  pub passed : steps (Ok (reader_of from token r)) (slice_range r.text.now from to) ≡ Ok (reader_of to token r)
