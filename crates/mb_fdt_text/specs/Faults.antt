-- Why bytes are no text of an instance: what is found first, from left to right, and where.
use Rattle.std.specs.Prelude.{◌≡◌, ◌≢◌, ◌⊎◌, ℕ, zero, suc, ◌<◌, ◌≤◌, true, false, List, [], ◌∷◌, ◌++◌, length, take, Some, None, Any, codes, IsUtf8, ⊤}
use Rattle.std.specs.Str.{IsValidUpTo}
use Rattle.mb_fdt_text.specs.declared.fdt.FdtFault.{FdtFault}
use Rattle.mb_fdt_text.specs.declared.fdt.FdtKind.{FdtKind}
use Rattle.mb_fdt_text.specs.declared.fdt.FdtKind.TheVariants.{NotUtf8, Syntax, Forbidden, Depth, NoExpires, BadExpires, RepeatedAttribute, TooManyFiles}
use Rattle.mb_xml.specs.Name.{is_name_start, is_name_byte, IsName}
use Rattle.mb_fdt_text.specs.Known.{is_file, is_read}
use Rattle.mb_fdt_text.specs.Element.{Tag, tag_bytes, IsTag, Content, content_bytes, IsContent}
use Rattle.mb_fdt_text.specs.Element.Content.{Nothing}
use Rattle.mb_fdt_text.specs.Text.{Prolog, prolog_bytes, IsProlog, Root, root_bytes, IsRoot, IsRootTag, IsMisc, Text, text_bytes, IsText, IsBeginning}
use Rattle.mb_fdt_text.specs.Says.{files_in, value_of, expires_in}

-- an element that has begun and not ended: its start tag, and its content so far
pub record Open : Type 0 where
  pub tag : Tag
  pub content : Content

-- the bytes of open elements, the innermost first
abbrev pub open_bytes : List Open → List ℕ
open_bytes [] = []
open_bytes (o ∷ outer) = open_bytes outer ++ tag_bytes o.tag ++ codes ">" ++ content_bytes o.content

-- a tag inside so many elements, where the first is the root's
abbrev pub IsTagThere : ℕ → Tag → Type 0
IsTagThere zero tag = IsRootTag tag
IsTagThere (suc around) tag = IsTag (suc around) tag

abbrev pub AreOpen : List Open → Type 0
AreOpen [] = ⊤
AreOpen (o ∷ outer) = AreOpen outer × IsTagThere (length outer) o.tag × IsContent (suc (length outer)) o.content

-- A place where markup may begin: inside open elements, or before the root where there are none; or behind the root.
pub data Place : Type 0 where
  Inside : Prolog → List Open → Place
  Behind : Prolog → Root → Content → Place

-- the bytes before the place
abbrev pub bytes_before : Place → List ℕ
bytes_before (Inside prolog path) = prolog_bytes prolog ++ open_bytes path
bytes_before (Behind prolog root misc) = prolog_bytes prolog ++ root_bytes root ++ content_bytes misc

abbrev pub IsPlace : Place → Type 0
IsPlace (Inside prolog path) = IsProlog prolog × AreOpen path
IsPlace (Behind prolog root misc) = IsProlog prolog × IsRoot root × IsMisc misc

-- the start of the text, or the place right behind its byte order mark
abbrev pub IsStart : Place → Type 0
IsStart (Inside prolog path) = (prolog.declaration ≡ None) × (prolog.misc ≡ Nothing) × (path ≡ [])
IsStart (Behind prolog root misc) = ⊥

-- a word that is forbidden at the place
abbrev pub IsForbidden : Place → List ℕ → Type 0
IsForbidden at word = (word ≡ codes "<![CDATA[") ⊎ (word ≡ codes "<!DOCTYPE") ⊎ ((word ≡ codes "<?") × (¬ (IsStart at)))

pub record ShowsForbidden (bytes : List ℕ) (place : ℕ) : Type 0 where
  pub at : Place
  pub there : IsPlace at
  pub word : List ℕ
  pub forbidden : IsForbidden at word
  pub whole : bytes ≡ bytes_before at ++ word
  pub where_it_is : place ≡ length (bytes_before at)

-- the first byte of the name of an element inside 16 others
pub record ShowsDepth (bytes : List ℕ) (place : ℕ) : Type 0 where
  pub prolog : Prolog
  pub path : List Open
  pub there : IsPlace (Inside prolog path)
  pub deep : length path ≡ 16
  pub first : ℕ
  pub name : is_name_start first ≡ true
  pub whole : bytes ≡ bytes_before (Inside prolog path) ++ codes "<" ++ first ∷ []
  pub where_it_is : place ≡ length (bytes_before (Inside prolog path))

-- the root's whole tag
pub record ShowsRootTag (bytes : List ℕ) (tag : Tag) (place : ℕ) : Type 0 where
  pub prolog : Prolog
  pub before : IsProlog prolog
  pub root : IsRootTag tag
  pub close : List ℕ
  pub closed : (close ≡ codes ">") ⊎ (close ≡ codes "/>")
  pub whole : bytes ≡ prolog_bytes prolog ++ tag_bytes tag ++ close
  pub where_it_is : place ≡ length (prolog_bytes prolog)

-- an attribute's name and the byte behind it, where an attribute that is read has that name already
pub record ShowsRepeated (bytes : List ℕ) (place : ℕ) : Type 0 where
  pub prolog : Prolog
  pub path : List Open
  pub there : IsPlace (Inside prolog path)
  -- the tag so far, up to the white space before the name
  pub tag : Tag
  pub so_far : IsTagThere (length path) tag
  pub space : tag.space ≢ []
  pub name : List ℕ
  pub named : IsName name
  pub read : is_read (length path) tag.name name ≡ true
  pub again : Any (λ a. a.name ≡ name) tag.attributes
  pub behind : ℕ
  pub ended : is_name_byte behind ≡ false
  pub whole : bytes ≡ bytes_before (Inside prolog path) ++ tag_bytes tag ++ name ++ behind ∷ []
  pub where_it_is : place ≡ length (bytes_before (Inside prolog path) ++ tag_bytes tag)

-- the name of a File element and the byte behind it, where the root has 1,024 File elements before it
pub record ShowsTooMany (bytes : List ℕ) (place : ℕ) : Type 0 where
  pub prolog : Prolog
  pub root : Open
  pub there : IsPlace (Inside prolog (root ∷ []))
  pub full : length (files_in root.content) ≡ 1024
  pub name : List ℕ
  pub named : IsName name
  pub file : is_file name ≡ true
  pub behind : ℕ
  pub ended : is_name_byte behind ≡ false
  pub whole : bytes ≡ bytes_before (Inside prolog (root ∷ [])) ++ codes "<" ++ name ++ behind ∷ []
  pub where_it_is : place ≡ length (bytes_before (Inside prolog (root ∷ [])))

-- what these bytes show by their last one, however they go on, of what is neither Syntax nor NotUtf8
abbrev pub ShowsOther : List ℕ → FdtKind → ℕ → Type 0
ShowsOther bytes NotUtf8 place = ⊥
ShowsOther bytes Syntax place = ⊥
ShowsOther bytes Forbidden place = ShowsForbidden bytes place
ShowsOther bytes Depth place = ShowsDepth bytes place
ShowsOther bytes NoExpires place = (tag : Tag) × ShowsRootTag bytes tag place × (value_of tag.attributes (codes "Expires") ≡ None)
ShowsOther bytes BadExpires place = (tag : Tag) × (value : List ℕ) × ShowsRootTag bytes tag place
    × (value_of tag.attributes (codes "Expires") ≡ Some value) × (expires_in tag.attributes ≡ None)
ShowsOther bytes RepeatedAttribute place = ShowsRepeated bytes place
ShowsOther bytes TooManyFiles place = ShowsTooMany bytes place

abbrev pub ShowsNoOther : List ℕ → Type 0
ShowsNoOther bytes = (kind : FdtKind) (place : ℕ) → ¬ (ShowsOther bytes kind place)

-- some text begins so, or what is forbidden does
abbrev pub MayGoOn : List ℕ → Type 0
MayGoOn bytes = IsBeginning bytes ⊎ ((more : List ℕ) × (place : ℕ) × ShowsForbidden (bytes ++ more) place)

-- nothing is found in the first n bytes, nor in fewer
abbrev pub PassesBelow : List ℕ → ℕ → Type 0
PassesBelow bytes n = (m : ℕ) → m < n → MayGoOn (take m bytes) × ShowsNoOther (take m bytes)

-- the fewest bytes in which anything is found show this
pub record IsShownFirst (bytes : List ℕ) (kind : FdtKind) (place : ℕ) : Type 0 where
  pub found : ℕ
  pub within : found ≤ length bytes
  pub shows : ShowsOther (take found bytes) kind place
  pub first : PassesBelow bytes found

-- the longest front of the bytes with which some text begins has so many
pub record IsLongestBeginning (bytes : List ℕ) (n : ℕ) : Type 0 where
  pub within : n ≤ length bytes
  pub begins : IsBeginning (take n bytes)
  pub longest : (m : ℕ) → n < m → m ≤ length bytes → ¬ (IsBeginning (take m bytes))

-- nothing else is found first, and the bytes are no text, or don't begin any
pub record IsSyntaxFault (bytes : List ℕ) (place : ℕ) : Type 0 where
  pub found : ℕ
  pub within : found ≤ length bytes
  pub first : PassesBelow bytes found
  pub none : ShowsNoOther (take found bytes)
  pub stops : (¬ (MayGoOn (take found bytes))) ⊎ ((found ≡ length bytes) × ((t : Text) → IsText t → bytes ≢ text_bytes t))
  pub place_is : IsLongestBeginning bytes place

abbrev pub IsFaultOf : List ℕ → FdtKind → ℕ → Type 0
IsFaultOf bytes NotUtf8 place = IsValidUpTo bytes place
IsFaultOf bytes Syntax place = IsUtf8 bytes × IsSyntaxFault bytes place
IsFaultOf bytes Forbidden place = IsUtf8 bytes × IsShownFirst bytes Forbidden place
IsFaultOf bytes Depth place = IsUtf8 bytes × IsShownFirst bytes Depth place
IsFaultOf bytes NoExpires place = IsUtf8 bytes × IsShownFirst bytes NoExpires place
IsFaultOf bytes BadExpires place = IsUtf8 bytes × IsShownFirst bytes BadExpires place
IsFaultOf bytes RepeatedAttribute place = IsUtf8 bytes × IsShownFirst bytes RepeatedAttribute place
IsFaultOf bytes TooManyFiles place = IsUtf8 bytes × IsShownFirst bytes TooManyFiles place

-- the one fault of the bytes
abbrev pub IsFault : List ℕ → FdtFault → Type 0
IsFault bytes fault = IsFaultOf bytes fault.kind fault.place

-- What bytes show, for each kind of fault.

-- no UTF-8 begins so
pub record ShowsNotUtf8 (bytes : List ℕ) (place : ℕ) : Type 0 where
  pub never : (more : List ℕ) → ¬ (IsUtf8 (bytes ++ more))
  pub place_is : IsValidUpTo bytes place

-- no text begins so, nor does what is forbidden, and none of the other kinds is shown
pub record ShowsSyntax (bytes : List ℕ) (place : ℕ) : Type 0 where
  pub never : ¬ (MayGoOn bytes)
  pub other : ShowsNoOther bytes
  pub place_is : IsLongestBeginning bytes place

-- what these bytes show, however they go on
abbrev pub Shows : List ℕ → FdtKind → ℕ → Type 0
Shows bytes NotUtf8 place = ShowsNotUtf8 bytes place
Shows bytes Syntax place = ShowsSyntax bytes place
Shows bytes Forbidden place = ShowsOther bytes Forbidden place
Shows bytes Depth place = ShowsOther bytes Depth place
Shows bytes NoExpires place = ShowsOther bytes NoExpires place
Shows bytes BadExpires place = ShowsOther bytes BadExpires place
Shows bytes RepeatedAttribute place = ShowsOther bytes RepeatedAttribute place
Shows bytes TooManyFiles place = ShowsOther bytes TooManyFiles place

-- none of the fronts of fewer than n bytes shows anything
abbrev pub ShowsNothingBelow : List ℕ → ℕ → Type 0
ShowsNothingBelow bytes n = (m : ℕ) → m < n → (kind : FdtKind) (place : ℕ) → ¬ (Shows (take m bytes) kind place)

-- the shortest front that shows anything shows this
pub record ShowsFirst (bytes : List ℕ) (kind : FdtKind) (place : ℕ) : Type 0 where
  pub found : ℕ
  pub within : found ≤ length bytes
  pub shows : Shows (take found bytes) kind place
  pub first : ShowsNothingBelow bytes found

-- no front shows anything, nor do all bytes, which are no text: they end too early
pub record EndsEarly (bytes : List ℕ) (kind : FdtKind) (place : ℕ) : Type 0 where
  pub kind_is : kind ≡ Syntax
  pub nothing : ShowsNothingBelow bytes (suc (length bytes))
  pub no_text : (t : Text) → IsText t → bytes ≢ text_bytes t
  pub place_is : IsLongestBeginning bytes place

-- The fault in one sentence: bytes that are no UTF-8 have that fault, whatever else they show; the fault of other bytes
-- is the one that their shortest front shows which shows any, and where none does, Syntax at their end.
abbrev pub IsFaultShown : List ℕ → FdtFault → Type 0
IsFaultShown bytes fault = ((fault.kind ≡ NotUtf8) × IsValidUpTo bytes fault.place)
    ⊎ (IsUtf8 bytes × (ShowsFirst bytes fault.kind fault.place ⊎ EndsEarly bytes fault.kind fault.place))
