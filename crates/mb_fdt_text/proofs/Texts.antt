-- Bytes are the text of an instance exactly where the reader gives it.
use Rattle.std.proofs.Common.{◌≡◌, ℕ, Bool, true, false, cond, List, [], ◌∷◌, Option, Some, None, unwrap_or, codes, Result, Ok, Err, IsUtf8, refl, sym, ap, ap₂, subst, ◌∙◌}
use Rattle.std.specs.Prelude.{⊤}
use Rattle.std.specs.Str.{is_utf8}
use Rattle.std.specs.Str.Lossy.{utf8_valid_len}
use Rattle.std.proofs.lemmas.Str.{is_utf8-from_IsUtf8, IsUtf8-from_is_utf8}
use Rattle.mb_fdt_text.specs.declared.fdt.Fdt.{Fdt}
use Rattle.mb_fdt_text.specs.declared.fdt.FileEntry.{FileEntry}
use Rattle.mb_fdt_text.specs.declared.fdt.FdtFault.{FdtFault}
use Rattle.mb_fdt_text.specs.declared.fdt.FdtKind.TheVariants.{NotUtf8}
use Rattle.mb_xml.specs.Value.{is_complete}
use Rattle.mb_fdt_text.specs.Element.{Content}
use Rattle.mb_fdt_text.specs.Text.{Prolog, Root, Text, text_bytes, IsText}
use Rattle.mb_fdt_text.specs.Says.{said_in, IsWithin, IsFdt, expires_in}
use Rattle.mb_fdt_text.specs.Faults.{Place, bytes_before}
use Rattle.mb_fdt_text.specs.Faults.Place.{Inside, Behind}
use Rattle.mb_fdt_text.specs.Reader.{Reader, Token, RootSays, begin, Next, steps, said_of, end_of, finish, fdt_of}
use Rattle.mb_fdt_text.specs.Reader.Token.{Between}
use Rattle.mb_fdt_text.specs.Laws.{TextsAreRead}
use Rattle.mb_fdt_text.proofs.Running.{Goes}
use Rattle.mb_fdt_text.proofs.SlotsFilled.{given-value}
use Rattle.mb_fdt_text.proofs.Places.{root_says, IsKept}
use Rattle.mb_fdt_text.proofs.TagsRead.{ReaderAt}
use Rattle.mb_fdt_text.proofs.States.{IsPlaced}
use Rattle.mb_fdt_text.proofs.TextRuns.{place_goes}
use Rattle.mb_fdt_text.proofs.Invariant.{Reads}
use Rattle.mb_fdt_text.proofs.Growth.{Traced, traced}

-- ---- what a reader says behind a text

make_fdt : ℕ → Bool → List FileEntry → Fdt
make_fdt expires complete files = record { expires = expires; complete = complete; files = files }

abbrev text_of : Prolog → Root → Content → Text
text_of prolog root misc = record { prolog = prolog; root = root; misc = misc }

said_is : (r : Reader) (prolog : Prolog) (root : Root) (misc : Content) → ReaderAt r (Behind prolog root misc)
    → said_of r (root_says root.tag) ≡ said_in (text_of prolog root misc)
unfolding make_fdt
said_is r prolog root misc is =
    ap₂ (make_fdt (unwrap_or (expires_in root.tag.attributes) 0))
    (ap is_complete (given-value root.tag.attributes (codes "Complete"))) is.entries

within : (prolog : Prolog) (root : Root) (misc : Content) → IsKept (Behind prolog root misc) → IsWithin (text_of prolog root misc)
within prolog root misc kept = record { depth = kept.shallow; expires = kept.root.1; root_once = kept.root.0; files_once = kept.once; count = kept.count }

-- ---- what the reader gives is what the text says

fdt_at : (bytes : List ℕ) (r : Reader) (at : Place) (said : RootSays) → IsUtf8 bytes → ReaderAt r at → bytes ≡ bytes_before at → r.path ≡ [] → r.root ≡ Some said
    → IsFdt bytes (said_of r said)
fdt_at bytes r (Inside prolog []) said utf8 is whole path root = absurd (let e : None ≡ Some said = sym is.says ∙ root in cc)
fdt_at bytes r (Inside prolog (o ∷ outer)) said utf8 is whole path root = absurd (let e = sym is.names ∙ path in cc)
fdt_at bytes r (Behind prolog root_tree misc) said utf8 is whole path root = record {
  of = text_of prolog root_tree misc;
  utf8 = utf8;
  whole = whole;
  grammar = record { prolog = is.place.0; root = is.place.1; misc = is.place.2 };
  within = within prolog root_tree misc is.kept;
  says = ap (said_of r) (let same : said ≡ root_says root_tree.tag = (let e : Some said ≡ Some (root_says root_tree.tag) = sym root ∙ is.says in cc) in same) ∙ said_is r prolog root_tree misc is;
}

ended : (bytes : List ℕ) (fdt : Fdt) (r : Reader) (token : Token) (path : List (List ℕ)) (root : Option RootSays) → IsUtf8 bytes → Reads r token bytes → r.path ≡ path → r.root ≡ root
    → end_of r token path root ≡ Ok fdt → IsFdt bytes fdt
ended bytes fdt r (Between start) [] (Some said) utf8 is p q e =
    subst (IsFdt bytes) (let same : said_of r said ≡ fdt = cc in same) (fdt_at bytes r is.at said utf8 is.reader is.whole p q)
ended bytes fdt r token path root utf8 is p q e = absurd cc

finished : (bytes : List ℕ) (fdt : Fdt) (n : Next) → IsUtf8 bytes → Traced bytes n → finish n ≡ Ok fdt → IsFdt bytes fdt
unfolding finish
finished bytes fdt (Ok r) utf8 is e = ended bytes fdt r r.token r.path r.root utf8 is refl refl e
finished bytes fdt (Err fault) utf8 is e = absurd cc

-- bytes that are no UTF-8 are refused
abbrev pub no_utf8 : List ℕ → Result Fdt FdtFault
no_utf8 bytes = Err (record { kind = NotUtf8; place = utf8_valid_len bytes })

-- what the reader gives is what the text says
pub given_is : (bytes : List ℕ) (fdt : Fdt) → fdt_of bytes ≡ Ok fdt → IsFdt bytes fdt
unfolding fdt_of
given_is bytes fdt e = by_test (is_utf8 bytes) refl
  where
    by_test : (t : Bool) → is_utf8 bytes ≡ t → IsFdt bytes fdt
    by_test true utf8 = finished bytes fdt (steps (Ok begin) bytes) (IsUtf8-from_is_utf8 bytes utf8) (traced bytes)
        (sym (ap (λ (b : Bool). cond b (finish (steps (Ok begin) bytes)) (no_utf8 bytes)) utf8) ∙ e)
    by_test false other = absurd (refused (sym (ap (λ (b : Bool). cond b (finish (steps (Ok begin) bytes)) (no_utf8 bytes)) other) ∙ e))
      where
        refused : no_utf8 bytes ≡ Ok fdt → ⊥
        refused f = cc

-- ---- a text is read

kept_text : (t : Text) → IsWithin t → IsKept (Behind t.prolog t.root t.misc)
kept_text t is = record { shallow = is.depth; root = (is.root_once, is.expires); once = is.files_once; count = is.count }

-- a reader behind a text gives what it says
pub ends_behind : (r : Reader) (prolog : Prolog) (root : Root) (misc : Content) → r.token ≡ Between false → ReaderAt r (Behind prolog root misc)
    → finish (Ok r) ≡ Ok (said_in (text_of prolog root misc))
unfolding finish
ends_behind r prolog root misc token is =
    ap (λ (t : Token). end_of r t r.path r.root) token
    ∙ ap₂ (λ (p : List (List ℕ)) (o : Option RootSays). end_of r (Between false) p o) is.names is.says
    ∙ ap Ok (said_is r prolog root misc is)

goes_ends : (t : Text) (n : Next) → Goes ⊤ (λ s. IsPlaced s (Behind t.prolog t.root t.misc)) n → finish n ≡ Ok (said_in t)
goes_ends t (Ok r) is = ends_behind r t.prolog t.root t.misc is.token_is is.reader
goes_ends t (Err fault) is = absurd (is.1 tt)

text_read : (t : Text) → IsText t → IsWithin t → finish (steps (Ok begin) (text_bytes t)) ≡ Ok (said_in t)
text_read t grammar is =
    goes_ends t (steps (Ok begin) (text_bytes t)) (place_goes ⊤ (Behind t.prolog t.root t.misc) (grammar.prolog, grammar.root, grammar.misc) (λ w. kept_text t is))

-- what the text says is given
pub is_given : (bytes : List ℕ) (fdt : Fdt) → IsFdt bytes fdt → fdt_of bytes ≡ Ok fdt
unfolding fdt_of
is_given bytes fdt is =
    ap (λ (b : Bool). cond b (finish (steps (Ok begin) bytes)) (no_utf8 bytes)) (is_utf8-from_IsUtf8 bytes is.utf8)
    ∙ ap (λ (l : List ℕ). finish (steps (Ok begin) l)) is.whole ∙ text_read is.of is.grammar is.within ∙ ap Ok (sym is.says)

-- the law of texts
pub texts_read : TextsAreRead
texts_read bytes fdt = (is_given bytes fdt, given_is bytes fdt)
