-- What the bytes before a reader are, by its token: the invariant of a reader, over any bytes.
use Rattle.std.proofs.Common.{◌≡◌, ◌⊎◌, ℕ, ◌+◌, Bool, true, false, List, ◌∷◌, ◌++◌, length, codes, Ok, Err}
use Rattle.mb_fdt_text.specs.declared.fdt.FdtKind.TheVariants.{Syntax}
use Rattle.mb_xml.specs.Name.{is_space, IsSpace}
use Rattle.mb_fdt_text.specs.Element.{Tag, tag_bytes}
use Rattle.mb_fdt_text.specs.Text.{Prolog, byte_order_mark}
use Rattle.mb_fdt_text.specs.Faults.{Open, Place, bytes_before, ShowsOther}
use Rattle.mb_fdt_text.specs.Faults.Place.{Inside as Within}
use Rattle.mb_fdt_text.specs.Reader.{Reader, Token, Slot, Next, Quoted}
use Rattle.mb_fdt_text.specs.Reader.Token.{Front, ByteOrderMark, Between, Opened, Declares, Declaration, Bang, BangDash, Banned, Comment, ElementName, InTag, AttributeName, BehindName, BehindEquals, Value, BehindValue, Slash, EndName, EndSpace}
use Rattle.mb_fdt_text.proofs.TagsRead.{ReaderAt, InTagOf}
use Rattle.mb_fdt_text.proofs.AttributesRead.{behind_space}
use Rattle.mb_fdt_text.proofs.States.{token_at, IsOpened}
use Rattle.mb_fdt_text.proofs.TagStates.{IsNaming, IsSpaced, IsValued, IsAttributeName, IsBehindName, IsBehindEquals, IsInValue}
use Rattle.mb_fdt_text.proofs.ContentRuns.{IsCommenting}
use Rattle.mb_fdt_text.proofs.TextRuns.{start_place, IsDeclaring}
use Rattle.mb_fdt_text.proofs.Comments.{hyphens_after}
use Rattle.mb_fdt_text.proofs.Comments.{question_after}

-- a reader right at a place
pub record ReadsPlace (r : Reader) (bytes : List ℕ) : Type 0 where
  pub at : Place
  pub reader : ReaderAt r at
  pub token_is : r.token ≡ token_at at
  pub whole : bytes ≡ bytes_before at

-- some bytes of markup behind a place
pub record ReadsMarkup (r : Reader) (bytes markup : List ℕ) : Type 0 where
  pub at : Place
  pub reader : ReaderAt r at
  pub markup_is : r.markup ≡ length (bytes_before at)
  pub whole : bytes ≡ bytes_before at ++ markup

-- behind `<`
pub record ReadsOpened (r : Reader) (bytes : List ℕ) : Type 0 where
  pub at : Place
  pub is : IsOpened r at
  pub whole : bytes ≡ bytes_before at ++ codes "<"

-- behind `<?` and these letters of `xml`
pub record ReadsDeclares (r : Reader) (bytes left : List ℕ) : Type 0 where
  pub marked : Bool
  pub reader : ReaderAt r (start_place marked)
  pub letters : List ℕ
  pub word : letters ++ left ≡ codes "xml"
  pub whole : bytes ≡ bytes_before (start_place marked) ++ (codes "<?" ++ letters)

-- in a declaration
pub record ReadsDeclaration (r : Reader) (bytes : List ℕ) (question : Bool) : Type 0 where
  pub marked : Bool
  pub space : ℕ
  pub space_is : is_space space ≡ true
  pub says : List ℕ
  pub is : IsDeclaring r marked says
  pub question_is : question ≡ question_after false says
  pub whole : bytes ≡ bytes_before (start_place marked) ++ (codes "<?xml" ++ space ∷ says)

-- in a forbidden word
pub record ReadsBanned (r : Reader) (bytes left : List ℕ) : Type 0 where
  pub at : Place
  pub reader : ReaderAt r at
  pub markup_is : r.markup ≡ length (bytes_before at)
  pub so_far : List ℕ
  pub word : List ℕ
  pub forbidden : (word ≡ codes "<![CDATA[") ⊎ (word ≡ codes "<!DOCTYPE")
  pub rest : codes "<!" ++ (so_far ++ left) ≡ word
  pub whole : bytes ≡ bytes_before at ++ (codes "<!" ++ so_far)

-- in a comment
pub record ReadsComment (r : Reader) (bytes : List ℕ) (hyphens : ℕ) : Type 0 where
  pub at : Place
  pub text : List ℕ
  pub is : IsCommenting r at text
  pub hyphens_are : hyphens ≡ hyphens_after 0 text
  pub whole : bytes ≡ bytes_before at ++ (codes "<!--" ++ text)

-- in the name of an element
pub record ReadsName (r : Reader) (bytes name : List ℕ) : Type 0 where
  pub prolog : Prolog
  pub opens : List Open
  pub is : IsNaming r prolog opens name
  pub whole : bytes ≡ bytes_before (Within prolog opens) ++ (codes "<" ++ name)

-- the bytes up to a tag and in it
abbrev pub bytes_with : Prolog → List Open → Tag → List ℕ
bytes_with prolog opens tag = bytes_before (Within prolog opens) ++ tag_bytes tag

-- behind white space in a tag
pub record ReadsSpaced (r : Reader) (bytes : List ℕ) : Type 0 where
  pub prolog : Prolog
  pub opens : List Open
  pub tag : Tag
  pub is : IsSpaced r prolog opens tag
  pub whole : bytes ≡ bytes_with prolog opens tag

-- behind the value of an attribute
pub record ReadsValued (r : Reader) (bytes : List ℕ) : Type 0 where
  pub prolog : Prolog
  pub opens : List Open
  pub tag : Tag
  pub is : IsValued r prolog opens tag
  pub whole : bytes ≡ bytes_with prolog opens tag

-- behind the slash of an empty element
pub record ReadsSlash (r : Reader) (bytes : List ℕ) : Type 0 where
  pub prolog : Prolog
  pub opens : List Open
  pub tag : Tag
  pub is : InTagOf r prolog opens tag
  pub whole : bytes ≡ bytes_with prolog opens tag ++ codes "/"

-- in the name of an attribute
pub record ReadsAttribute (r : Reader) (bytes name : List ℕ) : Type 0 where
  pub prolog : Prolog
  pub opens : List Open
  pub tag : Tag
  pub is : IsAttributeName r prolog opens tag name (length (bytes_with prolog opens tag))
  pub whole : bytes ≡ bytes_with prolog opens tag ++ name

-- behind the name of an attribute
pub record ReadsBehindName (r : Reader) (bytes : List ℕ) (k : Slot) : Type 0 where
  pub prolog : Prolog
  pub opens : List Open
  pub tag : Tag
  pub name : List ℕ
  pub space : List ℕ
  pub is : IsBehindName r prolog opens tag k name space
  pub whole : bytes ≡ bytes_with prolog opens tag ++ (name ++ space)

-- behind an equals sign
pub record ReadsBehindEquals (r : Reader) (bytes : List ℕ) (k : Slot) : Type 0 where
  pub prolog : Prolog
  pub opens : List Open
  pub tag : Tag
  pub name : List ℕ
  pub behind_name : List ℕ
  pub space : List ℕ
  pub is : IsBehindEquals r prolog opens tag k name behind_name space
  pub whole : bytes ≡ bytes_with prolog opens tag ++ (name ++ (behind_name ++ 61 ∷ space))

-- in a value
pub record ReadsValue (r : Reader) (bytes : List ℕ) (q : Quoted) : Type 0 where
  pub prolog : Prolog
  pub opens : List Open
  pub tag : Tag
  pub k : Slot
  pub name : List ℕ
  pub behind_name : List ℕ
  pub behind_equals : List ℕ
  pub is : IsInValue r prolog opens tag k name behind_name behind_equals q
  pub whole : bytes ≡ bytes_with prolog opens tag ++ behind_space name behind_name behind_equals q.quote q.bytes

-- in an end tag: so much of the name, and white space behind it
pub record ReadsEnd (r : Reader) (bytes left : List ℕ) : Type 0 where
  pub prolog : Prolog
  pub o : Open
  pub outer : List Open
  pub reader : ReaderAt r (Within prolog (o ∷ outer))
  pub so_far : List ℕ
  pub name : so_far ++ left ≡ o.tag.name
  pub whole : bytes ≡ bytes_before (Within prolog (o ∷ outer)) ++ (codes "</" ++ so_far)

-- in the white space of an end tag
pub record ReadsEndSpace (r : Reader) (bytes : List ℕ) : Type 0 where
  pub prolog : Prolog
  pub o : Open
  pub outer : List Open
  pub reader : ReaderAt r (Within prolog (o ∷ outer))
  pub space : List ℕ
  pub space_is : IsSpace space
  pub whole : bytes ≡ bytes_before (Within prolog (o ∷ outer)) ++ (codes "</" ++ (o.tag.name ++ space))

-- what the bytes are, by the token
abbrev pub Reads : Reader → Token → List ℕ → Type 0
Reads r Front bytes = ReadsPlace r bytes
Reads r (ByteOrderMark left) bytes = ReaderAt r (start_place false) × (bytes ++ left ≡ byte_order_mark)
Reads r (Between start) bytes = ReadsPlace r bytes
Reads r (Opened start) bytes = ReadsOpened r bytes
Reads r (Declares left) bytes = ReadsDeclares r bytes left
Reads r (Declaration question) bytes = ReadsDeclaration r bytes question
Reads r Bang bytes = ReadsMarkup r bytes (codes "<!")
Reads r BangDash bytes = ReadsMarkup r bytes (codes "<!-")
Reads r (Banned left) bytes = ReadsBanned r bytes left
Reads r (Comment hyphens) bytes = ReadsComment r bytes hyphens
Reads r (ElementName name) bytes = ReadsName r bytes name
Reads r InTag bytes = ReadsSpaced r bytes
Reads r (AttributeName name) bytes = ReadsAttribute r bytes name
Reads r (BehindName k) bytes = ReadsBehindName r bytes k
Reads r (BehindEquals k) bytes = ReadsBehindEquals r bytes k
Reads r (Value q) bytes = ReadsValue r bytes q
Reads r BehindValue bytes = ReadsValued r bytes
Reads r Slash bytes = ReadsSlash r bytes
Reads r (EndName left) bytes = ReadsEnd r bytes left
Reads r EndSpace bytes = ReadsEndSpace r bytes

-- where a reader finds that no text goes on so
abbrev pub stop_place : Reader → Token → ℕ
stop_place r Front = r.at
stop_place r (ByteOrderMark left) = r.at
stop_place r (Between start) = r.at
stop_place r (Opened start) = r.at
stop_place r (Declares left) = r.at
stop_place r (Declaration question) = r.at
stop_place r Bang = r.at
stop_place r BangDash = r.at
stop_place r (Banned left) = r.markup + 2
stop_place r (Comment hyphens) = r.at
stop_place r (ElementName name) = r.at
stop_place r InTag = r.at
stop_place r (AttributeName name) = r.at
stop_place r (BehindName k) = r.at
stop_place r (BehindEquals k) = r.at
stop_place r (Value q) = r.at
stop_place r BehindValue = r.at
stop_place r Slash = r.at
stop_place r (EndName left) = r.at
stop_place r EndSpace = r.at

-- One step: the bytes are read, or they show a fault, or no text begins so.
abbrev pub Outcome : ℕ → List ℕ → Next → Type 0
Outcome place bytes (Ok r) = Reads r r.token bytes
Outcome place bytes (Err fault) = ((fault.kind ≡ Syntax) × (fault.place ≡ place)) ⊎ ShowsOther bytes fault.kind fault.place
