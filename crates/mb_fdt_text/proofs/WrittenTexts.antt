-- What is written is the text of what was given, so that it is read.
use Rattle.std.proofs.Common.{◌≡◌, ℕ, ◌^◌, ◌<◌, ◌==◌, ◌&&◌, not, Bool, true, false, List, [], ◌∷◌, ◌++◌, length, Some, is_some, unwrap_or, IsUtf8, codes, decimal, refl, sym, subst, ap, ◌∙◌, arith, append_assoc}
use Rattle.std.proofs.lemmas.Bool.{and_parts, both_ways, not-true, eq-eqb}
use Rattle.std.proofs.lemmas.List.{length-map}
use Rattle.std.proofs.lemmas.Str.{IsUtf8-append}
use Rattle.mb_xml.specs.Name.{local_part}
use Rattle.mb_xml.specs.Reference.{replaced_in}
use Rattle.mb_xml.specs.Value.{expires_of, is_complete}
use Rattle.mb_fdt_text.specs.declared.fdt.Fdt.{Fdt}
use Rattle.mb_fdt_text.specs.Element.{Lacks, tag_bytes, Content}
use Rattle.mb_fdt_text.specs.Element.Content.{Nothing, Byte}
use Rattle.mb_fdt_text.specs.Text.{Declaration, Text, text_bytes, IsText}
use Rattle.mb_fdt_text.specs.Says.{value_of, text_files, expires_in, said_in, IsWithin}
use Rattle.mb_fdt_text.specs.WrittenForm.{attribute, complete_attribute, written_form, IsWritable}
use Rattle.mb_fdt_text.specs.Laws.{WrittenIsText, WrittenIsRead}
use Rattle.mb_fdt_text.proofs.Writable.{entries_writable}
use Rattle.mb_fdt_text.proofs.Texts.{texts_read}
use Rattle.mb_fdt_text.proofs.PlainValues.{decimal_plain, plain_replaced, decimal_read}
use Rattle.mb_fdt_text.proofs.Escaping.{ascii_utf8}
use Rattle.mb_fdt_text.proofs.WrittenElements.{root_tag, root_form, root_is, root_utf8, root_once}
use Rattle.mb_fdt_text.proofs.WrittenContent.{behind_files, elements, files_bytes, elements_utf8, files_content, files_depth, files_once, said_by_tag, said_by_tags, files_said}

-- ---- the tree

-- a line feed
abbrev feed : Content
feed = Byte Nothing 10

abbrev declared : Declaration
declared = record { space = 32; says = codes "version=\"1.0\" encoding=\"UTF-8\"" }

abbrev content : Fdt → Content
content f = behind_files feed f.files

abbrev tree : Fdt → Text
tree f = record {
  prolog = record { marked = false; declaration = Some declared; misc = feed };
  root = record { tag = root_tag f.expires f.complete; inner = Some (record { content = content f; space = [] }) };
  misc = feed;
}

-- ---- its bytes

abbrev opening : List ℕ
opening = codes "<?xml version=\"1.0\" encoding=\"UTF-8\"?>\n"

abbrev closing : List ℕ
closing = codes "</FDT-Instance>\n"

regrouped : (tag inside : List ℕ) → tag ++ (62 ∷ 10 ∷ inside ++ codes "</FDT-Instance>") ++ codes "\n" ≡ tag ++ (62 ∷ 10 ∷ (inside ++ closing))
regrouped tag inside =
    append_assoc tag (62 ∷ 10 ∷ inside ++ codes "</FDT-Instance>") (codes "\n")
    ∙ ap (λ (l : List ℕ). tag ++ (62 ∷ 10 ∷ l)) (append_assoc inside (codes "</FDT-Instance>") (codes "\n"))

regrouped_six : (a b c d e f : List ℕ) → a ++ (b ++ (c ++ (d ++ (e ++ f)))) ≡ a ++ b ++ c ++ d ++ e ++ f
regrouped_six a b c d e f = simp append_assoc

tree_bytes : (f : Fdt) → text_bytes (tree f) ≡ opening ++ (tag_bytes (root_tag f.expires f.complete) ++ (62 ∷ 10 ∷ (elements f.files ++ closing)))
tree_bytes f =
    ap (λ (l : List ℕ). opening ++ (tag_bytes (root_tag f.expires f.complete) ++ (62 ∷ l ++ codes "</FDT-Instance>") ++ codes "\n")) (files_bytes feed f.files)
    ∙ ap (λ (l : List ℕ). opening ++ l) (regrouped (tag_bytes (root_tag f.expires f.complete)) (elements f.files))

-- they are what is written
written_is : (f : Fdt) → written_form f ≡ text_bytes (tree f)
unfolding written_form
written_is f =
    let expires = attribute (codes "Expires") (decimal f.expires) in
    sym (tree_bytes f
    ∙ ap (λ (l : List ℕ). opening ++ l) (root_form f.expires f.complete (62 ∷ 10 ∷ (elements f.files ++ closing)))
    ∙ regrouped_six (opening ++ codes "<FDT-Instance") expires (complete_attribute f.complete) (codes ">\n") (elements f.files) closing)

written_utf8 : (f : Fdt) → IsWritable f → IsUtf8 (written_form f)
written_utf8 f is =
    subst IsUtf8 (sym (written_is f ∙ tree_bytes f))
    (IsUtf8-append opening (tag_bytes (root_tag f.expires f.complete) ++ (62 ∷ 10 ∷ (elements f.files ++ closing))) (ascii_utf8 opening refl)
    (root_utf8 f.expires f.complete (62 ∷ 10 ∷ (elements f.files ++ closing)) is.limits.expires
    (IsUtf8-append (codes ">\n") (elements f.files ++ closing) (ascii_utf8 (codes ">\n") refl)
    (IsUtf8-append (elements f.files) closing (elements_utf8 f.files (entries_writable f is)) (ascii_utf8 closing refl)))))

-- ---- the grammar

-- no byte of the list is c
abbrev lacks : ℕ → List ℕ → Bool
lacks c [] = true
lacks c (b ∷ bytes) = not (b == c) && lacks c bytes

-- bytes lack a word where they lack its first byte
lacks_first : (first : ℕ) (word bytes : List ℕ) → lacks first bytes ≡ true → Lacks (first ∷ word) bytes
lacks_first first word bytes e before behind same = nowhere before (subst (λ (l : List ℕ). lacks first l ≡ true) same e)
  where
    nowhere : (before : List ℕ) → lacks first (before ++ first ∷ word ++ behind) ≡ true → ⊥
    nowhere [] e = both_ways (first == first) (not-true (first == first) (and_parts (not (first == first)) (lacks first (word ++ behind)) e).0) (eq-eqb first first refl)
    nowhere (b ∷ before) e = nowhere before (and_parts (not (b == first)) (lacks first (before ++ first ∷ word ++ behind)) e).1

well_formed : (f : Fdt) → IsWritable f → IsText (tree f)
unfolding local_part
well_formed f is = record {
  prolog = record { declaration = (refl, lacks_first 63 (62 ∷ []) declared.says refl); misc = (tt, refl) };
  root = record {
    tag = record { well_formed = root_is f.expires f.complete is.limits.expires; named = refl };
    inner = (files_content feed f.files (tt, λ e. omega arith) (entries_writable f is), tt);
  };
  misc = (tt, refl);
}

-- ---- what it says

expires_read : (f : Fdt) → IsWritable f → expires_in (root_tag f.expires f.complete).attributes ≡ Some f.expires
expires_read f is =
    let small : f.expires < 10 ^ 64 = omega (arith, is.limits.expires) in
    ap expires_of (plain_replaced (decimal f.expires) (decimal_plain f.expires small)) ∙ decimal_read (2 ^ 32) f.expires small is.limits.expires

complete_read : (expires : ℕ) (complete : Bool) → is_complete (value_of (root_tag expires complete).attributes (codes "Complete")) ≡ complete
unfolding replaced_in
complete_read expires true = refl
complete_read expires false = refl

files_read : (f : Fdt) → IsWritable f → said_by_tags f.expires f.complete (text_files (tree f)) ≡ f.files
files_read f is = files_said f.expires f.complete feed f.files (entries_writable f is)

says : (f : Fdt) → IsWritable f → f ≡ said_in (tree f)
says f is =
    let expires = sym (expires_read f is) in
    let complete = sym (complete_read f.expires f.complete) in
    let files = sym (files_read f is) in
    λ i. record { expires = unwrap_or (expires i) 0; complete = complete i; files = files i }

within : (f : Fdt) → IsWritable f → IsWithin (tree f)
within f is = record {
  depth = omega (arith, files_depth feed f.files (omega arith));
  expires = ap is_some (expires_read f is);
  root_once = root_once f.expires f.complete;
  files_once = files_once feed f.files tt;
  count = omega (arith, is.limits.count, length-map (text_files (tree f)) (said_by_tag f.expires f.complete), ap length (files_read f is));
}

-- the laws of what is written
pub written_text : WrittenIsText
written_text f is = record {
  of = tree f;
  utf8 = written_utf8 f is;
  whole = written_is f;
  grammar = well_formed f is;
  within = within f is;
  says = says f is;
}

pub written_read : WrittenIsRead
written_read f is = (texts_read (written_form f) f).0 (written_text f is)
