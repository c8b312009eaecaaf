-- The names and values in the written form of the root's tag and of a File element.
use Rattle.std.proofs.Common.{◌≡◌, ℕ, ◌^◌, ◌<◌, Bool, true, false, List, [], ◌∷◌, ◌++◌, Option, Some, None, IsUtf8, codes, decimal, refl, subst, ap, ◌∙◌, arith, append_assoc}
use Rattle.base64.specs.Engines.{standard}
use Rattle.base64.specs.GeneralPurpose.{encode_of}
use Rattle.mb_geom.specs.Description.{Description, SchemeFits}
use Rattle.mb_geom.specs.declared.desc.Scheme.{Scheme}
use Rattle.mb_geom.specs.declared.desc.Scheme.TheVariants.{NoCode, Raptor}
use Rattle.mb_fdt_text.specs.Known.{root_names, file_names}
use Rattle.mb_fdt_text.specs.Element.{Tag, tag_bytes, IsTag}
use Rattle.mb_fdt_text.specs.Says.{AreOnce}
use Rattle.mb_fdt_text.specs.WrittenForm.{attribute, escaped, complete_attribute, md5_attribute, info_bytes, oti_attributes, file_element}
use Rattle.mb_fdt_text.proofs.Writable.{IsWritableFile}
use Rattle.mb_fdt_text.proofs.PlainValues.{decimal_plain, base64_plain}
use Rattle.mb_fdt_text.proofs.Escaping.{ascii_utf8}
use Rattle.mb_fdt_text.proofs.WrittenTags.{Given, made_tag, written_before, tag_form, are_words, AreValues, plain_value, location_value, tag_is, tag_utf8, are_once, once_from}

-- ---- the root

abbrev pub complete_given : Bool → Given
complete_given true = (codes "Complete", codes "true") ∷ []
complete_given false = []

abbrev pub root_given : ℕ → Bool → Given
root_given expires complete = (codes "Expires", decimal expires) ∷ complete_given complete

abbrev pub root_tag : ℕ → Bool → Tag
root_tag expires complete = made_tag (codes "FDT-Instance") (root_given expires complete)

complete_form : (complete : Bool) (rest : List ℕ) → written_before (complete_given complete) rest ≡ complete_attribute complete ++ rest
complete_form true rest = refl
complete_form false rest = refl

-- the bytes of the root's tag, before others
pub root_form : (expires : ℕ) (complete : Bool) (rest : List ℕ)
    → tag_bytes (root_tag expires complete) ++ rest ≡ codes "<FDT-Instance" ++ (attribute (codes "Expires") (decimal expires) ++ (complete_attribute complete ++ rest))
root_form expires complete rest =
    tag_form (codes "FDT-Instance") (root_given expires complete) rest
    ∙ ap (λ (l : List ℕ). codes "<FDT-Instance" ++ (attribute (codes "Expires") (decimal expires) ++ l)) (complete_form complete rest)

root_words : (expires : ℕ) (complete : Bool) → are_words (root_given expires complete) ≡ true
root_words expires true = refl
root_words expires false = refl

root_values : (expires : ℕ) (complete : Bool) → expires < 2 ^ 32 → AreValues (root_given expires complete)
root_values expires true fits = (plain_value (decimal expires) (decimal_plain expires (omega arith)), (plain_value (codes "true") (refl, (refl, (refl, (refl, tt)))), tt))
root_values expires false fits = (plain_value (decimal expires) (decimal_plain expires (omega arith)), tt)

pub root_is : (expires : ℕ) (complete : Bool) → expires < 2 ^ 32 → IsTag 0 (root_tag expires complete)
root_is expires complete fits = tag_is 0 (codes "FDT-Instance") (root_given expires complete) refl (root_words expires complete) (root_values expires complete fits)

pub root_utf8 : (expires : ℕ) (complete : Bool) (rest : List ℕ) → expires < 2 ^ 32 → IsUtf8 rest → IsUtf8 (tag_bytes (root_tag expires complete) ++ rest)
root_utf8 expires complete rest fits is =
    tag_utf8 (codes "FDT-Instance") (root_given expires complete) rest refl (root_words expires complete) (root_values expires complete fits) is

pub root_once : (expires : ℕ) (complete : Bool) → AreOnce root_names (root_tag expires complete).attributes
root_once expires complete = once_from root_names (root_given expires complete) (passes complete)
  where
    passes : (complete : Bool) → are_once root_names (root_given expires complete) ≡ true
    passes true = refl
    passes false = refl

-- ---- a File element

-- MD5, where it is given, before others
abbrev pub md5_given : Option (List ℕ) → Given → Given
md5_given None others = others
md5_given (Some md5) others = (codes "Content-MD5", encode_of standard md5) ∷ others

-- the FEC-OTI attributes
abbrev pub oti_given : ℕ → Scheme → Given
oti_given t (NoCode b) = (codes "FEC-OTI-FEC-Encoding-ID", decimal 0) ∷ (codes "FEC-OTI-Maximum-Source-Block-Length", decimal b)
    ∷ (codes "FEC-OTI-Encoding-Symbol-Length", decimal t) ∷ []
oti_given t (Raptor z n al) = (codes "FEC-OTI-FEC-Encoding-ID", decimal 1) ∷ (codes "FEC-OTI-Encoding-Symbol-Length", decimal t)
    ∷ (codes "FEC-OTI-Scheme-Specific-Info", encode_of standard (info_bytes z n al)) ∷ []

-- all of a file; what is written in different ways stands apart, for cases
abbrev pub file_given : ℕ → List ℕ → ℕ → Option (List ℕ) → ℕ → Scheme → Given
file_given toi location length md5 t scheme = (codes "Content-Location", escaped location) ∷ (codes "TOI", decimal toi)
    ∷ (codes "Content-Length", decimal length) ∷ (codes "Transfer-Length", decimal length) ∷ md5_given md5 (oti_given t scheme)

abbrev pub given_of : ℕ → Description → Given
given_of toi d = file_given toi d.location d.length d.md5 d.symbol d.scheme

abbrev pub file_tag : ℕ → Description → Tag
file_tag toi d = made_tag (codes "File") (given_of toi d)

md5_form : (md5 : Option (List ℕ)) (others : Given) (rest : List ℕ) → written_before (md5_given md5 others) rest ≡ md5_attribute md5 ++ written_before others rest
md5_form None others rest = refl
md5_form (Some md5) others rest = refl

regrouped_three : (a b c rest : List ℕ) → a ++ (b ++ (c ++ rest)) ≡ (a ++ b ++ c) ++ rest
regrouped_three a b c rest = simp append_assoc

oti_form : (t : ℕ) (scheme : Scheme) (rest : List ℕ) → written_before (oti_given t scheme) rest ≡ oti_attributes t scheme ++ rest
oti_form t (NoCode b) rest =
    regrouped_three (attribute (codes "FEC-OTI-FEC-Encoding-ID") (decimal 0)) (attribute (codes "FEC-OTI-Maximum-Source-Block-Length") (decimal b))
    (attribute (codes "FEC-OTI-Encoding-Symbol-Length") (decimal t)) rest
oti_form t (Raptor z n al) rest =
    regrouped_three (attribute (codes "FEC-OTI-FEC-Encoding-ID") (decimal 1)) (attribute (codes "FEC-OTI-Encoding-Symbol-Length") (decimal t))
    (attribute (codes "FEC-OTI-Scheme-Specific-Info") (encode_of standard (info_bytes z n al))) rest

regrouped_seven : (a b c d e f g rest : List ℕ) → a ++ (b ++ (c ++ (d ++ (e ++ (f ++ (g ++ rest)))))) ≡ a ++ b ++ c ++ d ++ e ++ f ++ g ++ rest
regrouped_seven a b c d e f g rest = simp append_assoc

-- the bytes of a File element, and a line feed
pub file_form : (toi : ℕ) (d : Description) → tag_bytes (file_tag toi d) ++ codes "/>\n" ≡ file_element toi d
file_form toi d =
    let location = attribute (codes "Content-Location") (escaped d.location) in
    let number = attribute (codes "TOI") (decimal toi) in
    let content = attribute (codes "Content-Length") (decimal d.length) in
    let transfer = attribute (codes "Transfer-Length") (decimal d.length) in
    tag_form (codes "File") (given_of toi d) (codes "/>\n")
    ∙ ap (λ (l : List ℕ). codes "<File" ++ (location ++ (number ++ (content ++ (transfer ++ l)))))
    (md5_form d.md5 (oti_given d.symbol d.scheme) (codes "/>\n") ∙ ap (λ (l : List ℕ). md5_attribute d.md5 ++ l) (oti_form d.symbol d.scheme (codes "/>\n")))
    ∙ regrouped_seven (codes "<File") location number content transfer (md5_attribute d.md5) (oti_attributes d.symbol d.scheme) (codes "/>\n")

file_words : (toi : ℕ) (location : List ℕ) (length : ℕ) (md5 : Option (List ℕ)) (t : ℕ) (scheme : Scheme) → are_words (file_given toi location length md5 t scheme) ≡ true
file_words toi location length None t (NoCode b) = refl
file_words toi location length None t (Raptor z n al) = refl
file_words toi location length (Some md5) t (NoCode b) = refl
file_words toi location length (Some md5) t (Raptor z n al) = refl

oti_values : (t : ℕ) (scheme : Scheme) → t < 2 ^ 16 → SchemeFits scheme → AreValues (oti_given t scheme)
oti_values t (NoCode b) small fits = (
  plain_value (decimal 0) (decimal_plain 0 (omega arith)),
  (plain_value (decimal b) (decimal_plain b (omega arith)), (plain_value (decimal t) (decimal_plain t (omega arith)), tt)),
)
oti_values t (Raptor z n al) small fits = (
  plain_value (decimal 1) (decimal_plain 1 (omega arith)),
  (plain_value (decimal t) (decimal_plain t (omega arith)), (plain_value (encode_of standard (info_bytes z n al)) (base64_plain (info_bytes z n al)), tt)),
)

md5_values : (md5 : Option (List ℕ)) (others : Given) → AreValues others → AreValues (md5_given md5 others)
md5_values None others are = are
md5_values (Some md5) others are = (plain_value (encode_of standard md5) (base64_plain md5), are)

file_values : (toi : ℕ) (d : Description) → IsWritableFile toi d → AreValues (given_of toi d)
file_values toi d is = (
  location_value d.location is.good.location,
  (
    plain_value (decimal toi) (decimal_plain toi (omega (arith, is.toi_below))),
    (
      plain_value (decimal d.length) (decimal_plain d.length (omega (arith, is.good.length))),
      (
        plain_value (decimal d.length) (decimal_plain d.length (omega (arith, is.good.length))),
        md5_values d.md5 (oti_given d.symbol d.scheme) (oti_values d.symbol d.scheme is.good.symbol_fits is.good.scheme_fits),
      ),
    ),
  ),
)

pub file_is : (toi : ℕ) (d : Description) → IsWritableFile toi d → IsTag 1 (file_tag toi d)
file_is toi d is = tag_is 1 (codes "File") (given_of toi d) refl (file_words toi d.location d.length d.md5 d.symbol d.scheme) (file_values toi d is)

pub file_utf8 : (toi : ℕ) (d : Description) → IsWritableFile toi d → IsUtf8 (file_element toi d)
file_utf8 toi d is =
    subst IsUtf8 (file_form toi d)
    (tag_utf8 (codes "File") (given_of toi d) (codes "/>\n") refl (file_words toi d.location d.length d.md5 d.symbol d.scheme) (file_values toi d is) (ascii_utf8 (codes "/>\n") refl))

pub file_once : (toi : ℕ) (d : Description) → AreOnce file_names (file_tag toi d).attributes
file_once toi d = once_from file_names (given_of toi d) (passes d.md5 d.scheme)
  where
    passes : (md5 : Option (List ℕ)) (scheme : Scheme) → are_once file_names (file_given toi d.location d.length md5 d.symbol scheme) ≡ true
    passes None (NoCode b) = refl
    passes None (Raptor z n al) = refl
    passes (Some md5) (NoCode b) = refl
    passes (Some md5) (Raptor z n al) = refl
