-- Elements as trees that keep each byte (XML 1.0 sections 2.5, 3 and 3.1, without processing instructions and CDATA sections).
use Rattle.std.specs.Prelude.{◌≡◌, ◌≢◌, ◌⊎◌, ℕ, suc, ◌+◌, max, true, List, [], ◌∷◌, ◌++◌, codes, flat_map, ⊤}
use Rattle.std.specs.List.{AllByRecursion}
use Rattle.mb_xml.specs.Name.{IsSpace, IsName}
use Rattle.mb_xml.specs.Reference.{are_references}
use Rattle.mb_fdt_text.specs.Known.{is_read}

-- the word stands nowhere in the bytes
abbrev pub Lacks : List ℕ → List ℕ → Type 0
Lacks word bytes = (before behind : List ℕ) → bytes ≢ before ++ word ++ behind

-- an attribute, and the white space before it
pub record Attribute : Type 0 where
  pub before : List ℕ
  pub name : List ℕ
  pub behind_name : List ℕ
  pub behind_equals : List ℕ
  pub quote : ℕ
  pub value : List ℕ

abbrev pub attribute_bytes : Attribute → List ℕ
attribute_bytes a = a.before ++ a.name ++ a.behind_name ++ codes "=" ++ a.behind_equals ++ a.quote ∷ a.value ++ a.quote ∷ []

pub record IsAttribute (a : Attribute) : Type 0 where
  pub before : IsSpace a.before
  pub some_before : a.before ≢ []
  pub name : IsName a.name
  pub behind_name : IsSpace a.behind_name
  pub behind_equals : IsSpace a.behind_equals
  pub quote : (a.quote ≡ 34) ⊎ (a.quote ≡ 39)
  pub value : AllByRecursion (λ b. (b ≢ 60) × (b ≢ a.quote)) a.value

-- a start tag or the tag of an empty element, up to its `>` or `/>`
pub record Tag : Type 0 where
  pub name : List ℕ
  pub attributes : List Attribute
  pub space : List ℕ

abbrev pub tag_bytes : Tag → List ℕ
tag_bytes tag = codes "<" ++ tag.name ++ flat_map attribute_bytes tag.attributes ++ tag.space

-- a tag inside so many elements; in the attributes that are read, each `&` begins a reference
pub record IsTag (around : ℕ) (tag : Tag) : Type 0 where
  pub name : IsName tag.name
  pub attributes : AllByRecursion IsAttribute tag.attributes
  pub space : IsSpace tag.space
  pub references : AllByRecursion (λ a. is_read around tag.name a.name ≡ true → are_references a.value ≡ true) tag.attributes

abbrev pub comment_bytes : List ℕ → List ℕ
comment_bytes text = codes "<!--" ++ text ++ codes "-->"

abbrev pub end_tag_bytes : List ℕ → List ℕ → List ℕ
end_tag_bytes name space = codes "</" ++ name ++ space ++ codes ">"

-- What stands in an element, or in front of a place in it. Each case is what comes last, behind what comes before it.
pub data Content : Type 0 where
  Nothing : Content
  -- a byte of character data
  Byte : Content → ℕ → Content
  Comment : Content → List ℕ → Content
  -- an empty element, as <a/>
  Empty : Content → Tag → Content
  -- an element with its content, and the white space behind the name of its end tag
  Full : Content → Tag → Content → List ℕ → Content

abbrev pub content_bytes : Content → List ℕ
content_bytes Nothing = []
content_bytes (Byte before b) = content_bytes before ++ b ∷ []
content_bytes (Comment before text) = content_bytes before ++ comment_bytes text
content_bytes (Empty before tag) = content_bytes before ++ tag_bytes tag ++ codes "/>"
content_bytes (Full before tag inner space) =
    content_bytes before ++ tag_bytes tag ++ codes ">" ++ content_bytes inner ++ end_tag_bytes tag.name space

-- content inside so many elements
abbrev pub IsContent : ℕ → Content → Type 0
IsContent around Nothing = ⊤
IsContent around (Byte before b) = IsContent around before × (b ≢ 60)
IsContent around (Comment before text) = IsContent around before × Lacks (codes "-->") text
IsContent around (Empty before tag) = IsContent around before × IsTag around tag
IsContent around (Full before tag inner space) =
    IsContent around before × IsTag around tag × IsContent (suc around) inner × IsSpace space

-- how deep elements stand in it
abbrev pub depth : Content → ℕ
depth Nothing = 0
depth (Byte before b) = depth before
depth (Comment before text) = depth before
depth (Empty before tag) = max (depth before) 1
depth (Full before tag inner space) = max (depth before) (1 + depth inner)
