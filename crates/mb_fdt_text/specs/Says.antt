-- What a text says: an FDT Instance (RFC 3926 section 3.4.2).
use Rattle.std.specs.Prelude.{◌≡◌, ℕ, ◌≤◌, if◌then◌else◌, List, [], ◌∷◌, ◌++◌, length, map, find, count_by, Option, IsSome, unwrap_or, option_map, option_and_then, codes, bytes_eq, IsUtf8}
use Rattle.std.specs.List.{AllByRecursion}
use Rattle.mb_fdt_text.specs.declared.fdt.Fdt.{Fdt}
use Rattle.mb_xml.specs.Reference.{replaced}
use Rattle.mb_fdt_text.specs.Known.{is_file, root_names, file_names}
use Rattle.mb_fdt_text.specs.Element.{Attribute, Tag, Content}
use Rattle.mb_fdt_text.specs.Element.Content.{Nothing, Byte, Comment, Empty, Full}
use Rattle.mb_fdt_text.specs.Text.{Text, IsText, text_bytes, text_depth, root_content}
use Rattle.mb_xml.specs.Value.{expires_of, is_complete}
use Rattle.mb_fdt_text.specs.Entry.{entry_of, said_by}

-- the value of the attribute of this name, its references replaced
abbrev pub value_of : List Attribute → List ℕ → Option (List ℕ)
value_of attributes name = option_map (λ a. replaced a.value) (find (λ a. bytes_eq a.name name) attributes)

-- the element itself, if it is a File
abbrev pub file_tags : Tag → List Tag
file_tags tag = if is_file tag.name then tag ∷ [] else []

-- the File elements of the root's content, in order; those inside other elements are none
abbrev pub files_in : Content → List Tag
files_in Nothing = []
files_in (Byte before b) = files_in before
files_in (Comment before text) = files_in before
files_in (Empty before tag) = files_in before ++ file_tags tag
files_in (Full before tag inner space) = files_in before ++ file_tags tag

abbrev pub root_attributes : Text → List Attribute
root_attributes t = t.root.tag.attributes

abbrev pub text_files : Text → List Tag
text_files t = files_in (root_content t.root)

-- the number of Expires in the root's tag
abbrev pub expires_in : List Attribute → Option ℕ
expires_in attributes = option_and_then expires_of (value_of attributes (codes "Expires"))

abbrev pub said_in : Text → Fdt
said_in t = record {
  expires = unwrap_or (expires_in (root_attributes t)) 0;
  complete = is_complete (value_of (root_attributes t) (codes "Complete"));
  files = map (λ file. entry_of (said_by (value_of (root_attributes t)) (value_of file.attributes))) (text_files t);
}

-- none of the names stands twice
abbrev pub AreOnce : List (List ℕ) → List Attribute → Type 0
AreOnce names attributes = AllByRecursion (λ name. count_by (λ a. bytes_eq a.name name) attributes ≤ 1) names

-- what a text keeps to beyond the grammar
pub record IsWithin (t : Text) : Type 0 where
  pub depth : text_depth t ≤ 16
  pub expires : IsSome (expires_in (root_attributes t))
  pub root_once : AreOnce root_names (root_attributes t)
  pub files_once : AllByRecursion (λ file. AreOnce file_names file.attributes) (text_files t)
  pub count : length (text_files t) ≤ 1024

-- the bytes are the text of this instance
pub record IsFdt (bytes : List ℕ) (fdt : Fdt) : Type 0 where
  pub of : Text
  pub utf8 : IsUtf8 bytes
  pub whole : bytes ≡ text_bytes of
  pub grammar : IsText of
  pub within : IsWithin of
  pub says : fdt ≡ said_in of
