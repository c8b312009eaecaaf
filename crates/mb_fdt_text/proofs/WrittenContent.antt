-- The content of a written root: its bytes, its File elements, and what they say.
use Rattle.std.proofs.Common.{◌≡◌, ℕ, ◌≤◌, Bool, List, [], ◌∷◌, ◌++◌, map, flat_map, Option, Some, None, Result, Ok, Err, IsUtf8, codes, refl, sym, ap, ◌∙◌, arith, append_assoc, append-nil}
use Rattle.std.specs.List.{AllByRecursion}
use Rattle.std.proofs.lemmas.List.{map-append}
use Rattle.std.proofs.lemmas.Str.{IsUtf8-append, IsUtf8-nil}
use Rattle.mb_geom.specs.Description.{Description}
use Rattle.mb_xml.specs.Name.{local_part}
use Rattle.mb_fdt_text.specs.declared.fdt.FileEntry.{FileEntry}
use Rattle.mb_fdt_text.specs.declared.fdt.FileFault.{FileFault}
use Rattle.mb_fdt_text.specs.Known.{file_names}
use Rattle.mb_fdt_text.specs.Element.{Tag, tag_bytes, Content, content_bytes, IsContent, depth}
use Rattle.mb_fdt_text.specs.Element.Content.{Byte, Empty}
use Rattle.mb_fdt_text.specs.Says.{value_of, file_tags, files_in, AreOnce}
use Rattle.mb_fdt_text.specs.Entry.{entry_of, said_by}
use Rattle.mb_fdt_text.specs.WrittenForm.{entry_element}
use Rattle.mb_fdt_text.proofs.Writable.{IsWritableEntry, AreWritable}
use Rattle.mb_fdt_text.proofs.Lists.{each_push}
use Rattle.mb_fdt_text.proofs.WrittenElements.{root_tag, file_tag, file_form, file_is, file_utf8, file_once}
use Rattle.mb_fdt_text.proofs.WrittenEntries.{entry_written}

-- the content behind a File element, and a line feed
abbrev pub behind_entry : Content → Option ℕ → Result Description FileFault → Content
behind_entry before (Some toi) (Ok d) = Byte (Empty before (file_tag toi d)) 10
behind_entry before (Some toi) (Err fault) = before
behind_entry before None entry = before

-- behind File elements in their order
abbrev pub behind_files : Content → List FileEntry → Content
behind_files before [] = before
behind_files before (file ∷ files) = behind_files (behind_entry before file.toi file.entry) files

-- the File elements as they are written
abbrev pub elements : List FileEntry → List ℕ
elements files = flat_map (λ e. entry_element e.toi e.entry) files

-- ---- bytes

entry_bytes : (before : Content) (toi : Option ℕ) (entry : Result Description FileFault) → content_bytes (behind_entry before toi entry) ≡ content_bytes before ++ entry_element toi entry
entry_bytes before (Some toi) (Ok d) =
    append_assoc (content_bytes before ++ tag_bytes (file_tag toi d)) (codes "/>") (codes "\n")
    ∙ append_assoc (content_bytes before) (tag_bytes (file_tag toi d)) (codes "/>\n")
    ∙ ap (λ (l : List ℕ). content_bytes before ++ l) (file_form toi d)
entry_bytes before (Some toi) (Err fault) = sym (append-nil (content_bytes before))
entry_bytes before None entry = sym (append-nil (content_bytes before))

-- the bytes of such content
pub files_bytes : (before : Content) (files : List FileEntry) → content_bytes (behind_files before files) ≡ content_bytes before ++ elements files
files_bytes before [] = sym (append-nil (content_bytes before))
files_bytes before (file ∷ files) =
    files_bytes (behind_entry before file.toi file.entry) files
    ∙ ap (λ (l : List ℕ). l ++ elements files) (entry_bytes before file.toi file.entry)
    ∙ append_assoc (content_bytes before) (entry_element file.toi file.entry) (elements files)

entry_utf8 : (toi : Option ℕ) (entry : Result Description FileFault) → IsWritableEntry toi entry → IsUtf8 (entry_element toi entry)
entry_utf8 (Some toi) (Ok d) is = file_utf8 toi d is
entry_utf8 (Some toi) (Err fault) is = absurd is
entry_utf8 None entry is = absurd is

-- they are UTF-8
pub elements_utf8 : (files : List FileEntry) → AreWritable files → IsUtf8 (elements files)
elements_utf8 [] are = IsUtf8-nil
elements_utf8 (file ∷ files) are = IsUtf8-append (entry_element file.toi file.entry) (elements files) (entry_utf8 file.toi file.entry are.0) (elements_utf8 files are.1)

-- ---- elements

entry_content : (before : Content) (toi : Option ℕ) (entry : Result Description FileFault) → IsContent 1 before → IsWritableEntry toi entry → IsContent 1 (behind_entry before toi entry)
entry_content before (Some toi) (Ok d) so_far is = ((so_far, file_is toi d is), λ e. omega arith)
entry_content before (Some toi) (Err fault) so_far is = absurd is
entry_content before None entry so_far is = absurd is

-- it is content of the root
pub files_content : (before : Content) (files : List FileEntry) → IsContent 1 before → AreWritable files → IsContent 1 (behind_files before files)
files_content before [] so_far are = so_far
files_content before (file ∷ files) so_far are =
    files_content (behind_entry before file.toi file.entry) files (entry_content before file.toi file.entry so_far are.0) are.1

entry_depth : (before : Content) (toi : Option ℕ) (entry : Result Description FileFault) → depth before ≤ 1 → depth (behind_entry before toi entry) ≤ 1
entry_depth before (Some toi) (Ok d) so_far = omega arith
entry_depth before (Some toi) (Err fault) so_far = so_far
entry_depth before None entry so_far = so_far

-- no element of it has others inside
pub files_depth : (before : Content) (files : List FileEntry) → depth before ≤ 1 → depth (behind_files before files) ≤ 1
files_depth before [] so_far = so_far
files_depth before (file ∷ files) so_far = files_depth (behind_entry before file.toi file.entry) files (entry_depth before file.toi file.entry so_far)

-- a File element is taken for one
file_tag_is : (toi : ℕ) (d : Description) → file_tags (file_tag toi d) ≡ file_tag toi d ∷ []
unfolding local_part
file_tag_is toi d = refl

-- no attribute of a File element stands twice
abbrev AreAllOnce : List Tag → Type 0
AreAllOnce tags = AllByRecursion (λ file. AreOnce file_names file.attributes) tags

entry_once : (before : Content) (toi : Option ℕ) (entry : Result Description FileFault) → AreAllOnce (files_in before) → AreAllOnce (files_in (behind_entry before toi entry))
entry_once before (Some toi) (Ok d) so_far =
    rw (file_tag_is toi d) (each_push (λ (file : Tag). AreOnce file_names file.attributes) (files_in before) (file_tag toi d) so_far (file_once toi d))
entry_once before (Some toi) (Err fault) so_far = so_far
entry_once before None entry so_far = so_far

pub files_once : (before : Content) (files : List FileEntry) → AreAllOnce (files_in before) → AreAllOnce (files_in (behind_files before files))
files_once before [] so_far = so_far
files_once before (file ∷ files) so_far = files_once (behind_entry before file.toi file.entry) files (entry_once before file.toi file.entry so_far)

-- ---- what they say

-- the entry of a File element in such a root, and those of several
abbrev pub said_by_tag : ℕ → Bool → Tag → FileEntry
said_by_tag expires complete file = entry_of (said_by (value_of (root_tag expires complete).attributes) (value_of file.attributes))

abbrev pub said_by_tags : ℕ → Bool → List Tag → List FileEntry
said_by_tags expires complete tags = map (said_by_tag expires complete) tags

entry_said : (expires : ℕ) (complete : Bool) (before : Content) (toi : Option ℕ) (entry : Result Description FileFault) → IsWritableEntry toi entry
    → said_by_tags expires complete (files_in (behind_entry before toi entry)) ≡ said_by_tags expires complete (files_in before) ++ record { toi = toi; entry = entry } ∷ []
entry_said expires complete before (Some toi) (Ok d) is =
    ap (λ (l : List Tag). said_by_tags expires complete (files_in before ++ l)) (file_tag_is toi d)
    ∙ map-append (said_by_tag expires complete) (files_in before) (file_tag toi d ∷ [])
    ∙ ap (λ (file : FileEntry). said_by_tags expires complete (files_in before) ++ file ∷ []) (entry_written expires complete toi d is)
entry_said expires complete before (Some toi) (Err fault) is = absurd is
entry_said expires complete before None entry is = absurd is

-- they say the entries that were given
pub files_said : (expires : ℕ) (complete : Bool) (before : Content) (files : List FileEntry) → AreWritable files
    → said_by_tags expires complete (files_in (behind_files before files)) ≡ said_by_tags expires complete (files_in before) ++ files
files_said expires complete before [] are = sym (append-nil (said_by_tags expires complete (files_in before)))
files_said expires complete before (file ∷ files) are =
    files_said expires complete (behind_entry before file.toi file.entry) files are.1
    ∙ ap (λ (l : List FileEntry). l ++ files) (entry_said expires complete before file.toi file.entry are.0)
    ∙ append_assoc (said_by_tags expires complete (files_in before)) (file ∷ []) files
