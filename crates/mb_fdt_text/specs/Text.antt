-- The grammar of a text (XML 1.0 sections 2.1 and 2.8): a byte order mark, an XML declaration, the root FDT-Instance, and white space and comments around it.
use Rattle.std.specs.Prelude.{◌≡◌, ℕ, ◌+◌, Bool, true, false, List, [], ◌∷◌, ◌++◌, Option, Some, None, codes, ⊤}
use Rattle.mb_xml.specs.Name.{is_space, IsSpace, local_part}
use Rattle.mb_fdt_text.specs.Element.{Lacks, Tag, tag_bytes, IsTag, Content, content_bytes, IsContent, depth, end_tag_bytes}
use Rattle.mb_fdt_text.specs.Element.Content.{Nothing, Byte, Comment, Empty, Full}

-- white space and comments alone
abbrev pub IsMisc : Content → Type 0
IsMisc Nothing = ⊤
IsMisc (Byte before b) = IsMisc before × (is_space b ≡ true)
IsMisc (Comment before text) = IsMisc before × Lacks (codes "-->") text
IsMisc (Empty before tag) = ⊥
IsMisc (Full before tag inner space) = ⊥

abbrev pub byte_order_mark : List ℕ
byte_order_mark = 0xef ∷ 0xbb ∷ 0xbf ∷ []

-- an XML declaration: the white space behind `<?xml`, and what it says, which isn't read
pub record Declaration : Type 0 where
  pub space : ℕ
  pub says : List ℕ

-- what stands before the root
pub record Prolog : Type 0 where
  pub marked : Bool
  pub declaration : Option Declaration
  pub misc : Content

abbrev pub mark_bytes : Bool → List ℕ
mark_bytes true = byte_order_mark
mark_bytes false = []

abbrev pub declaration_bytes : Option Declaration → List ℕ
declaration_bytes None = []
declaration_bytes (Some d) = codes "<?xml" ++ d.space ∷ d.says ++ codes "?>"

abbrev pub prolog_bytes : Prolog → List ℕ
prolog_bytes p = mark_bytes p.marked ++ declaration_bytes p.declaration ++ content_bytes p.misc

abbrev pub IsDeclaration : Option Declaration → Type 0
IsDeclaration None = ⊤
IsDeclaration (Some d) = (is_space d.space ≡ true) × Lacks (codes "?>") d.says

pub record IsProlog (p : Prolog) : Type 0 where
  pub declaration : IsDeclaration p.declaration
  pub misc : IsMisc p.misc

-- what stands between the root's tags, and the white space behind the name of its end tag
pub record Inner : Type 0 where
  pub content : Content
  pub space : List ℕ

-- the root, which may be an empty element
pub record Root : Type 0 where
  pub tag : Tag
  pub inner : Option Inner

abbrev pub inner_bytes : List ℕ → Option Inner → List ℕ
inner_bytes name None = codes "/>"
inner_bytes name (Some i) = codes ">" ++ content_bytes i.content ++ end_tag_bytes name i.space

abbrev pub root_bytes : Root → List ℕ
root_bytes r = tag_bytes r.tag ++ inner_bytes r.tag.name r.inner

abbrev pub IsInner : Option Inner → Type 0
IsInner None = ⊤
IsInner (Some i) = IsContent 1 i.content × IsSpace i.space

pub record IsRootTag (tag : Tag) : Type 0 where
  pub well_formed : IsTag 0 tag
  pub named : local_part tag.name ≡ codes "FDT-Instance"

pub record IsRoot (r : Root) : Type 0 where
  pub tag : IsRootTag r.tag
  pub inner : IsInner r.inner

-- a whole text as a tree
pub record Text : Type 0 where
  pub prolog : Prolog
  pub root : Root
  pub misc : Content

abbrev pub text_bytes : Text → List ℕ
text_bytes t = prolog_bytes t.prolog ++ root_bytes t.root ++ content_bytes t.misc

pub record IsText (t : Text) : Type 0 where
  pub prolog : IsProlog t.prolog
  pub root : IsRoot t.root
  pub misc : IsMisc t.misc

-- bytes with which some text of the grammar begins
pub record IsBeginning (bytes : List ℕ) : Type 0 where
  pub of : Text
  pub more : List ℕ
  pub is : IsText of
  pub begins : text_bytes of ≡ bytes ++ more

-- what the root contains
abbrev pub inner_content : Option Inner → Content
inner_content None = Nothing
inner_content (Some i) = i.content

abbrev pub root_content : Root → Content
root_content r = inner_content r.inner

-- how deep the elements of a text stand, the root being 1
abbrev pub text_depth : Text → ℕ
text_depth t = 1 + depth (root_content t.root)
