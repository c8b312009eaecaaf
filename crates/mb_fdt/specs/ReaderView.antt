-- What the values of the code stand for in the definition of the reader.
use Rattle.std.specs.Prelude.{◌≡◌, ℕ, slice_index, ◌+◌, ◌<◌, ◌≤◌, List, length, slice_range, drop, option_map, Result, Ok, Err, IsUtf8, ⊤}
use Rattle.mb_xml.specs.ValueStateView.{inside_of}
use Rattle.mb_fdt_text.specs.declared.fdt.FdtFault.{FdtFault}
use Rattle.mb_fdt.specs.declared.token.Token.{Token as ReadToken}
use Rattle.mb_fdt.specs.declared.token.Token.TheVariants.{Front as ReadFront, ByteOrderMark as ReadByteOrderMark, Between as ReadBetween, Opened as ReadOpened, Declares as ReadDeclares, Declaration as ReadDeclaration, Bang as ReadBang, BangDash as ReadBangDash, Banned as ReadBanned, Comment as ReadComment, ElementName as ReadElementName, InTag as ReadInTag, AttributeName as ReadAttributeName, BehindName as ReadBehindName, BehindEquals as ReadBehindEquals, Value as ReadValue, BehindValue as ReadBehindValue, Slash as ReadSlash, EndName as ReadEndName, EndSpace as ReadEndSpace}
use Rattle.mb_fdt.specs.declared.token.Quoted.{Quoted as ReadQuoted}
use Rattle.mb_fdt.specs.declared.reader.Reader.{Reader as ReadReader}
use Rattle.mb_fdt.specs.declared.root.RootSays.{RootSays as ReadRootSays}
use Rattle.mb_fdt.specs.SlotsView.{slots_of}
use Rattle.mb_fdt.specs.PathView.{path_of}
use Rattle.mb_fdt_text.specs.Reader.{Quoted, Token, RootSays, Reader, Next}
use Rattle.mb_fdt_text.specs.Reader.Token.{Front, ByteOrderMark, Between, Opened, Declares, Declaration, Bang, BangDash, Banned, Comment, ElementName, InTag, AttributeName, BehindName, BehindEquals, Value, BehindValue, Slash, EndName, EndSpace}

-- a value in the text, of which the bytes up to a place were read
abbrev pub quoted_of : List ℕ → ℕ → ReadQuoted → Quoted
quoted_of text at q = record { slot = q.slot; quote = q.quote; bytes = slice_range text q.from at; inside = inside_of q.inside }

-- what is begun in the text, of which the bytes up to a place were read
abbrev pub token_of : List ℕ → ℕ → ReadToken → Token
token_of text at ReadFront = Front
token_of text at (ReadByteOrderMark left) = ByteOrderMark left.now
token_of text at (ReadBetween start) = Between start
token_of text at (ReadOpened start) = Opened start
token_of text at (ReadDeclares left) = Declares left.now
token_of text at (ReadDeclaration question) = Declaration question
token_of text at ReadBang = Bang
token_of text at ReadBangDash = BangDash
token_of text at (ReadBanned left) = Banned left.now
token_of text at (ReadComment hyphens) = Comment hyphens
token_of text at (ReadElementName from) = ElementName (slice_range text from at)
token_of text at ReadInTag = InTag
token_of text at (ReadAttributeName from) = AttributeName (slice_range text from at)
token_of text at (ReadBehindName slot) = BehindName slot
token_of text at (ReadBehindEquals slot) = BehindEquals slot
token_of text at (ReadValue quoted) = Value (quoted_of text at quoted)
token_of text at ReadBehindValue = BehindValue
token_of text at ReadSlash = Slash
token_of text at (ReadEndName left) = EndName left.now
token_of text at ReadEndSpace = EndSpace

abbrev pub root_of : ReadRootSays → RootSays
root_of said = record { expires = said.expires; slots = slots_of said.slots }

-- what is known behind so many bytes, with what is begun there
abbrev pub reader_of : ℕ → ReadToken → ReadReader → Reader
reader_of at token r = record {
  at = at;
  token = token_of r.text.now at token;
  markup = r.markup;
  attribute = r.attribute;
  name = r.tag.name.now;
  slots = slots_of r.slots;
  path = path_of r.path;
  root = option_map root_of r.root;
  files = r.files.items;
}

-- what is known, with nothing begun
abbrev pub reader_at : ℕ → ReadReader → Reader
reader_at at r = reader_of at ReadFront r

-- what is known behind the byte at a place, or the fault
abbrev pub next_of : ℕ → Result ReadToken FdtFault → ReadReader → Next
next_of at (Ok token) r = Ok (reader_of (at + 1) token r)
next_of at (Err fault) r = Err fault

-- the byte at a place
pub record IsByteAt (text : List ℕ) (at byte : ℕ) : Type 0 where
  pub within : at < length text
  pub is : slice_index text at ≡ byte

-- another element may be opened
abbrev pub HasRoom : ReadReader → Type 0
HasRoom r = length (path_of r.path) < 16

-- a value, whose bytes begin a text
pub record IsBegun (at : ℕ) (q : ReadQuoted) (r : ReadReader) : Type 0 where
  pub from : q.from ≤ at
  pub quote : q.quote < 128
  pub text : IsUtf8 (drop q.from r.text.now)
  pub room : HasRoom r

-- what is begun begins before the place; behind `<` and `<!` the text has them; in a tag, another element may be opened
abbrev pub IsPlaced : ℕ → ReadToken → ReadReader → Type 0
IsPlaced at ReadFront r = ⊤
IsPlaced at (ReadByteOrderMark left) r = ⊤
IsPlaced at (ReadBetween start) r = ⊤
IsPlaced at (ReadOpened start) r = r.markup + 1 ≤ at
IsPlaced at (ReadDeclares left) r = ⊤
IsPlaced at (ReadDeclaration question) r = ⊤
IsPlaced at ReadBang r = r.markup + 2 ≤ at
IsPlaced at ReadBangDash r = ⊤
IsPlaced at (ReadBanned left) r = r.markup + 2 ≤ at
IsPlaced at (ReadComment hyphens) r = ⊤
IsPlaced at (ReadElementName from) r = (from ≤ at) × HasRoom r
IsPlaced at ReadInTag r = HasRoom r
IsPlaced at (ReadAttributeName from) r = (from ≤ at) × HasRoom r
IsPlaced at (ReadBehindName slot) r = HasRoom r
IsPlaced at (ReadBehindEquals slot) r = HasRoom r
IsPlaced at (ReadValue quoted) r = IsBegun at quoted r
IsPlaced at ReadBehindValue r = HasRoom r
IsPlaced at ReadSlash r = HasRoom r
IsPlaced at (ReadEndName left) r = ⊤
IsPlaced at ReadEndSpace r = ⊤

abbrev pub IsWithin : ℕ → Result ReadToken FdtFault → ReadReader → Type 0
IsWithin at (Ok token) r = IsPlaced at token r
IsWithin at (Err fault) r = ⊤
