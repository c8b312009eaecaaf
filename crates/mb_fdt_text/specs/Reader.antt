-- A reader of texts that goes from byte to byte. It gives what IsFdt and IsFault say, as a function: the laws are in Laws.antt.
use Rattle.std.specs.Prelude.{ℕ, ◌+◌, ◌==◌, ◌&&◌, ◌||◌, Bool, true, false, not, nat_lt, nat_le, if◌then◌else◌, List, [], ◌∷◌, ◌++◌, length, map, slice_index_or, slice_set, position, Option, Some, None, is_some, option_map, option_and_then, Result, Ok, Err, codes, bytes_eq, min}
use Rattle.std.specs.Str.{is_utf8}
use Rattle.std.specs.Str.Lossy.{utf8_valid_len}
use Rattle.mb_fdt_text.specs.declared.fdt.Fdt.{Fdt}
use Rattle.mb_fdt_text.specs.declared.fdt.FileEntry.{FileEntry}
use Rattle.mb_fdt_text.specs.declared.fdt.FdtFault.{FdtFault}
use Rattle.mb_fdt_text.specs.declared.fdt.FdtKind.{FdtKind}
use Rattle.mb_fdt_text.specs.declared.fdt.FdtKind.TheVariants.{NotUtf8, Syntax, Forbidden, Depth, NoExpires, BadExpires, RepeatedAttribute, TooManyFiles}
use Rattle.mb_xml.specs.Name.{is_space, is_name_start, is_name_byte, local_part}
use Rattle.mb_xml.specs.Reference.{replaced, Inside, referred_further}
use Rattle.mb_xml.specs.Reference.Inside.{Plain, Named, Numbered, Digits}
use Rattle.mb_fdt_text.specs.Known.{is_file, read_names, root_names, file_names}
use Rattle.mb_xml.specs.Value.{expires_of, is_complete}
use Rattle.mb_fdt_text.specs.Entry.{entry_of, said_by}

-- The values of the attributes that are read, one for each of their names, in the order of the names.
abbrev pub Slots : Type 0
Slots = List (Option (List ℕ))

abbrev pub no_slots : List (List ℕ) → Slots
no_slots names = map (λ name. None) names

-- where a name's slot is
abbrev pub slot_of : List (List ℕ) → List ℕ → Option ℕ
slot_of names name = position (bytes_eq name) names

abbrev pub slot : Slots → ℕ → Option (List ℕ)
slot slots k = slice_index_or slots k None

-- the value under a name, its references replaced
abbrev pub value_in : List (List ℕ) → Slots → List ℕ → Option (List ℕ)
value_in names slots name = option_map replaced (option_and_then (slot slots) (slot_of names name))

-- an attribute, behind its name: its slot, where it is read
abbrev pub Slot : Type 0
Slot = Option ℕ

-- a value, behind its first quote: the attribute's slot, the quote, the bytes so far, and what is begun among them
pub record Quoted : Type 0 where
  pub slot : Slot
  pub quote : ℕ
  pub bytes : List ℕ
  pub inside : Inside

-- what was begun and not ended
pub data Token : Type 0 where
  -- nothing of the text
  Front : Token
  -- a byte order mark, of which these bytes are to come
  ByteOrderMark : List ℕ → Token
  -- nothing, where markup may begin, at the start of the text or not
  Between : Bool → Token
  -- markup, by its `<`, at the start of the text or not
  Opened : Bool → Token
  -- `<?xml`, of which these bytes are to come
  Declares : List ℕ → Token
  -- the declaration, whose last byte was `?` or not
  Declaration : Bool → Token
  -- `<!`, and `<!-`
  Bang : Token
  BangDash : Token
  -- a forbidden word, of which these bytes are to come
  Banned : List ℕ → Token
  -- a comment, which ends with so many hyphens, 2 at most
  Comment : ℕ → Token
  -- the name of an element
  ElementName : List ℕ → Token
  -- white space in a tag
  InTag : Token
  -- an attribute: its name, white space behind it, what is behind its equals sign, its value, what is behind that
  AttributeName : List ℕ → Token
  BehindName : Slot → Token
  BehindEquals : Slot → Token
  Value : Quoted → Token
  BehindValue : Token
  -- `/` in a tag
  Slash : Token
  -- an end tag, whose name has these bytes to come, and white space in it
  EndName : List ℕ → Token
  EndSpace : Token

-- what the root's tag says
pub record RootSays : Type 0 where
  pub expires : ℕ
  pub slots : Slots

-- what is known between two bytes
pub record Reader : Type 0 where
  -- how many bytes came before
  pub at : ℕ
  pub token : Token
  -- the place of the last `<` with which markup began, and of the last attribute's name
  pub markup : ℕ
  pub attribute : ℕ
  -- the last tag's name, and its attributes so far
  pub name : List ℕ
  pub slots : Slots
  -- the names of the elements that are open, the innermost first
  pub path : List (List ℕ)
  pub root : Option RootSays
  pub files : List FileEntry

abbrev pub begin : Reader
begin = record { at = 0; token = Front; markup = 0; attribute = 0; name = []; slots = []; path = []; root = None; files = [] }

abbrev pub Next : Type 0
Next = Result Reader FdtFault

-- the reader goes on with this token
abbrev pub go : Reader → Token → Next
go r token = Ok (record r { token = token; at = r.at + 1 })

abbrev pub fail : FdtKind → ℕ → Next
fail kind place = Err (record { kind = kind; place = place })

-- no text goes on with this byte
abbrev pub syntax : Reader → Next
syntax r = fail Syntax r.at

-- in the content of an element, or before the root's tag
abbrev pub in_content : Reader → Bool
in_content r = nat_lt 0 (length r.path)

abbrev pub before_root : Reader → Bool
before_root r = not (is_some r.root)

-- the names of the attributes that are read in the last tag
abbrev pub names_read : Reader → List (List ℕ)
names_read r = read_names (length r.path) r.name

-- where markup may begin
abbrev pub between : Reader → Bool → ℕ → Next
between r start b =
    if b == 60 then go (record r { markup = r.at }) (Opened start)
    else if in_content r || is_space b then go r (Between false)
    else syntax r

-- one of a word's bytes to come
abbrev pub word : Next → (List ℕ → Next) → List ℕ → ℕ → Next
word other then_left [] b = other
word other then_left (c ∷ left) b = if b == c then then_left left else other

abbrev pub mark_left : Reader → List ℕ → Next
mark_left r [] = go r (Between true)
mark_left r (c ∷ left) = go r (ByteOrderMark (c ∷ left))

-- the name of the innermost of the open elements, and the elements around it
abbrev pub innermost : List (List ℕ) → List ℕ
innermost [] = []
innermost (name ∷ outer) = name

abbrev pub outside : List (List ℕ) → List (List ℕ)
outside [] = []
outside (name ∷ outer) = outer

-- behind `<`
abbrev pub opened : Reader → Bool → ℕ → Next
opened r start b =
    if b == 63 then (if start then go r (Declares (codes "xml")) else fail Forbidden r.markup)
    else if b == 33 then go r Bang
    else if (b == 47) && in_content r then go r (EndName (innermost r.path))
    else if is_name_start b && (in_content r || before_root r) then
    (if nat_le 16 (length r.path) then fail Depth r.markup else go r (ElementName (b ∷ [])))
    else syntax r

abbrev pub declares : Reader → List ℕ → ℕ → Next
declares r [] b = if is_space b then go r (Declaration false) else syntax r
declares r (c ∷ left) b = if b == c then go r (Declares left) else syntax r

abbrev pub declaration : Reader → Bool → ℕ → Next
declaration r question b = if question && (b == 62) then go r (Between false) else go r (Declaration (b == 63))

abbrev pub bang : Reader → ℕ → Next
bang r b =
    if b == 45 then go r BangDash
    else if b == 91 then go r (Banned (codes "CDATA["))
    else if b == 68 then go r (Banned (codes "OCTYPE"))
    else syntax r

-- A word that isn't forbidden after all is no markup from the byte behind `<!` on.
abbrev pub banned_left : Reader → List ℕ → Next
banned_left r [] = fail Forbidden r.markup
banned_left r (c ∷ left) = go r (Banned (c ∷ left))

abbrev pub comment : Reader → ℕ → ℕ → Next
comment r hyphens b =
    if (hyphens == 2) && (b == 62) then go r (Between false)
    else go r (Comment (if b == 45 then min 2 (hyphens + 1) else 0))

-- the values of the root's and of a File's attributes
abbrev pub root_value : Slots → List ℕ → Option (List ℕ)
root_value slots name = value_in root_names slots name

abbrev pub file_value : Slots → List ℕ → Option (List ℕ)
file_value slots name = value_in file_names slots name

abbrev pub root_slots : Option RootSays → Slots
root_slots None = []
root_slots (Some said) = said.slots

-- The end of a tag, by `/>` or by `>`, behind which its content begins.
abbrev pub leave : Reader → Bool → Next
leave r empty = go (record r { path = if empty then r.path else r.name ∷ r.path }) (Between false)

abbrev pub with_expires : Reader → Bool → Option (List ℕ) → Option ℕ → Next
with_expires r empty None number = fail NoExpires r.markup
with_expires r empty (Some value) None = fail BadExpires r.markup
with_expires r empty (Some value) (Some expires) = leave (record r { root = Some (record { expires = expires; slots = r.slots }) }) empty

abbrev pub tag_end : Reader → Bool → List (List ℕ) → Next
tag_end r empty [] = let value = root_value r.slots (codes "Expires") in with_expires r empty value (option_and_then expires_of value)
tag_end r empty (root ∷ []) = leave (if is_file r.name
    then record r { files = r.files ++ entry_of (said_by (root_value (root_slots r.root)) (file_value r.slots)) ∷ [] }
    else r) empty
tag_end r empty (parent ∷ outer ∷ others) = leave r empty

-- behind a name or a value in a tag
abbrev pub in_tag : Reader → ℕ → Next
in_tag r b =
    if is_space b then go r InTag
    else if b == 47 then go r Slash
    else if b == 62 then tag_end r false r.path
    else syntax r

-- the byte behind an element's name
abbrev pub named : Reader → List ℕ → ℕ → Next
named r name b =
    if (length r.path == 0) && not (bytes_eq (local_part name) (codes "FDT-Instance")) then syntax r
    else if (length r.path == 1) && is_file name && nat_le 1024 (length r.files) then fail TooManyFiles r.markup
    else in_tag (record r { name = name; slots = no_slots (read_names (length r.path) name) }) b

abbrev pub equals : Reader → Slot → ℕ → Next
equals r slot b = if is_space b then go r (BehindName slot) else if b == 61 then go r (BehindEquals slot) else syntax r

-- the byte behind an attribute's name
abbrev pub attribute_named : Reader → Slot → ℕ → Next
attribute_named r k b =
    if is_some (option_and_then (slot r.slots) k) then fail RepeatedAttribute r.attribute else equals r k b

abbrev pub with_slot : Slot → Option (List ℕ) → Slots → Slots
with_slot None bytes slots = slots
with_slot (Some k) bytes slots = slice_set slots k bytes

abbrev pub with_value : Reader → Quoted → Reader
with_value r q = record r { slots = with_slot q.slot (Some q.bytes) r.slots }

-- the value with one byte more
abbrev pub quoted : Quoted → Inside → ℕ → Quoted
quoted q inside b = record q { bytes = q.bytes ++ b ∷ []; inside = inside }

abbrev pub plain : Reader → Quoted → ℕ → Next
plain r q b =
    if b == q.quote then go (with_value r q) BehindValue
    else if b == 60 then syntax r
    else if (b == 38) && is_some q.slot then go r (Value (quoted q (Named []) b))
    else go r (Value (quoted q Plain b))

abbrev pub referring : Reader → Quoted → ℕ → Option Inside → Next
referring r q b None = syntax r
referring r q b (Some inside) = go r (Value (quoted q inside b))

abbrev pub value : Reader → Quoted → Inside → ℕ → Next
value r q Plain b = plain r q b
value r q (Named so_far) b = referring r q b (referred_further (Named so_far) b)
value r q Numbered b = referring r q b (referred_further Numbered b)
value r q (Digits radix number) b = referring r q b (referred_further (Digits radix number) b)

abbrev pub end_space : Reader → ℕ → Next
end_space r b =
    if is_space b then go r EndSpace
    else if b == 62 then go (record r { path = outside r.path }) (Between false)
    else syntax r

abbrev pub end_name : Reader → List ℕ → ℕ → Next
end_name r [] b = end_space r b
end_name r (c ∷ left) b = if b == c then go r (EndName left) else syntax r

-- one byte more
abbrev pub next : Reader → Token → ℕ → Next
next r Front b = if b == 0xef then go r (ByteOrderMark (0xbb ∷ 0xbf ∷ [])) else between r true b
next r (ByteOrderMark left) b = word (syntax r) (mark_left r) left b
next r (Between start) b = between r start b
next r (Opened start) b = opened r start b
next r (Declares left) b = declares r left b
next r (Declaration question) b = declaration r question b
next r Bang b = bang r b
next r BangDash b = if b == 45 then go r (Comment 0) else syntax r
next r (Banned left) b = word (fail Syntax (r.markup + 2)) (banned_left r) left b
next r (Comment hyphens) b = comment r hyphens b
next r (ElementName name) b = if is_name_byte b then go r (ElementName (name ++ b ∷ [])) else named r name b
next r InTag b = if is_name_start b then go (record r { attribute = r.at }) (AttributeName (b ∷ [])) else in_tag r b
next r (AttributeName name) b = if is_name_byte b then go r (AttributeName (name ++ b ∷ [])) else attribute_named r (slot_of (names_read r) name) b
next r (BehindName k) b = equals r k b
next r (BehindEquals k) b =
    if is_space b then go r (BehindEquals k)
    else if (b == 34) || (b == 39) then go r (Value (record { slot = k; quote = b; bytes = []; inside = Plain }))
    else syntax r
next r (Value q) b = value r q q.inside b
next r BehindValue b = in_tag r b
next r Slash b = if b == 62 then tag_end r true r.path else syntax r
next r (EndName left) b = end_name r left b
next r EndSpace b = end_space r b

unfoldable pub step : Reader → ℕ → Next
step r b = next r r.token b

-- all bytes, one after another, up to the first fault
unfoldable pub steps : Next → List ℕ → Next
steps (Err fault) bytes = Err fault
steps (Ok r) [] = Ok r
steps (Ok r) (b ∷ bytes) = steps (step r b) bytes

-- what stands there where the bytes end
abbrev pub said_of : Reader → RootSays → Fdt
said_of r said = record { expires = said.expires; complete = is_complete (root_value said.slots (codes "Complete")); files = r.files }

abbrev pub end_of : Reader → Token → List (List ℕ) → Option RootSays → Result Fdt FdtFault
end_of r (Between start) [] (Some said) = Ok (said_of r said)
end_of r (Banned left) path root = Err (record { kind = Syntax; place = r.markup + 2 })
end_of r token path root = Err (record { kind = Syntax; place = r.at })

unfoldable pub finish : Next → Result Fdt FdtFault
finish (Err fault) = Err fault
finish (Ok r) = end_of r r.token r.path r.root

-- the instance that the bytes are the text of, or their fault
unfoldable pub fdt_of : List ℕ → Result Fdt FdtFault
fdt_of bytes =
    if is_utf8 bytes then finish (steps (Ok begin) bytes)
    else Err (record { kind = NotUtf8; place = utf8_valid_len bytes })
