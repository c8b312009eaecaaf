-- Where a reader goes on, some text begins so, or what is forbidden does.
use Rattle.std.proofs.Common.{◌≡◌, ◌≢◌, ◌⊎◌, ℕ, true, false, List, [], ◌∷◌, ◌++◌, length, Some, None, is_some, codes, refl, sym, ap, subst, ◌∙◌, inl, inr, arith, append_assoc, append-nil}
use Rattle.std.specs.Prelude.{⊤}
use Rattle.std.specs.List.{AllByRecursion}
use Rattle.mb_xml.specs.Name.{IsSpace}
use Rattle.mb_xml.specs.Reference.{are_references, Inside}
use Rattle.mb_fdt_text.specs.Known.{is_read}
use Rattle.mb_fdt_text.specs.Element.{tag_bytes, end_tag_bytes}
use Rattle.mb_fdt_text.specs.Text.{Prolog, byte_order_mark, IsBeginning}
use Rattle.mb_fdt_text.specs.Faults.{Open, bytes_before, IsPlace, MayGoOn}
use Rattle.mb_fdt_text.specs.Faults.Place.{Inside as Within}
use Rattle.mb_fdt_text.specs.Reader.{Reader, Token, Slot, Quoted}
use Rattle.mb_fdt_text.specs.Reader.Token.{Front, ByteOrderMark, Between, Opened, Declares, Declaration, Bang, BangDash, Banned, Comment, ElementName, InTag, AttributeName, BehindName, BehindEquals, Value, BehindValue, Slash, EndName, EndSpace}
use Rattle.mb_fdt_text.proofs.Lists.{each_append, each_weaker}
use Rattle.mb_fdt_text.proofs.Comments.{lacks-none}
use Rattle.mb_fdt_text.proofs.Digits.{is_quotable}
use Rattle.mb_fdt_text.proofs.Completing.{begun_completed}
use Rattle.mb_fdt_text.proofs.Nesting.{closed, closed-bytes, closed-place}
use Rattle.mb_fdt_text.proofs.AttributesRead.{Stands, behind_space}
use Rattle.mb_fdt_text.proofs.ValueRuns.{read_slot}
use Rattle.mb_fdt_text.proofs.TextRuns.{start_place}
use Rattle.mb_fdt_text.proofs.MarkupSteps.{forbidden_there}
use Rattle.mb_fdt_text.proofs.AttributeGrowth.{quotable-parts, no_quote}
use Rattle.mb_fdt_text.proofs.Invariant.{ReadsBanned, ReadsEnd, ReadsValue, Reads}
use Rattle.mb_fdt_text.proofs.Beginnings.{begins_front, place_begins, comment_begins, declaration_begins, tag_begins, name_begins, attribute_begins}
use Rattle.mb_fdt_text.proofs.References.{refs_empty}

-- ---- values

-- what completes a value, in an attribute that is read or not
record ValueRest (k : Slot) (quote : ℕ) (bytes : List ℕ) : Type 0 where
  more : List ℕ
  fits : AllByRecursion (λ b. (b ≢ 60) × (b ≢ quote)) more
  whole : is_some k ≡ true → are_references (bytes ++ more) ≡ true

value_rest : (k : Slot) (quote : ℕ) (inside : Inside) (bytes : List ℕ) → (quote ≡ 34) ⊎ (quote ≡ 39) → Stands k inside bytes → ValueRest k quote bytes
value_rest None quote inside bytes is stands = record { more = []; fits = tt; whole = λ (some : false ≡ true). absurd cc }
value_rest (Some k) quote inside bytes is stands =
    let done = begun_completed inside bytes stands in record {
      more = done.more;
      fits = each_weaker (λ b. is_quotable b ≡ true) (λ b. (b ≢ 60) × (b ≢ quote)) (λ (b : ℕ) (q : is_quotable b ≡ true). ((quotable-parts b q).0, no_quote b quote q is)) done.more done.quotable;
      whole = λ some. done.references;
    }

value_parts : (n b e c v m z : List ℕ) → (n ++ (b ++ (e ++ (c ++ (v ++ m))))) ++ z ≡ (n ++ (b ++ (e ++ (c ++ v)))) ++ (m ++ z)
value_parts n b e c v m z = simp append_assoc

value_begins : (r : Reader) (bytes : List ℕ) (q : Quoted) → ReadsValue r bytes q → IsBeginning bytes
value_begins r bytes q is =
    let rest = value_rest is.k q.quote q.inside q.bytes is.is.quoted_is.quote_is is.is.quoted_is.stands in
    subst IsBeginning (sym is.whole)
    (attribute_begins is.prolog is.opens is.tag is.name is.behind_name is.behind_equals q.quote (q.bytes ++ rest.more)
    (behind_space is.name is.behind_name is.behind_equals q.quote q.bytes) (rest.more ++ q.quote ∷ [])
    is.is.tag_is.at.place is.is.tag_is.there is.is.named.some_space is.is.named.name_is is.is.behind_name_is is.is.behind_equals_is is.is.quoted_is.quote_is
    (each_append (λ b. (b ≢ 60) × (b ≢ q.quote)) q.bytes rest.more is.is.quoted_is.bytes_are rest.fits)
    (λ (read : is_read (length is.opens) is.tag.name is.name ≡ true). rest.whole (read_slot r is.opens is.tag is.k is.name is.is.named read))
    (value_parts is.name is.behind_name (codes "=") is.behind_equals (q.quote ∷ q.bytes) rest.more (q.quote ∷ [])))

-- ---- end tags

end_begins : (prolog : Prolog) (o : Open) (outer : List Open) (space xs ys : List ℕ) → IsPlace (Within prolog (o ∷ outer)) → IsSpace space
    → end_tag_bytes o.tag.name space ≡ xs ++ ys → IsBeginning (bytes_before (Within prolog (o ∷ outer)) ++ xs)
end_begins prolog o outer space xs ys is spaces e =
    begins_front (bytes_before (Within prolog (o ∷ outer)) ++ xs) ys (bytes_before (closed prolog o outer space))
    (closed-bytes prolog o outer space ∙ ap (λ (l : List ℕ). bytes_before (Within prolog (o ∷ outer)) ++ l) e ∙ sym (append_assoc (bytes_before (Within prolog (o ∷ outer))) xs ys))
    (place_begins (closed prolog o outer space) (closed-place prolog o outer space is spaces))

end_name_parts : (a s l c : List ℕ) → a ++ (s ++ l) ++ [] ++ c ≡ (a ++ s) ++ (l ++ c)
end_name_parts a s l c = simp (append_assoc, append-nil)

end_name_begins : (r : Reader) (bytes left : List ℕ) → ReadsEnd r bytes left → IsBeginning bytes
end_name_begins r bytes left is =
    subst IsBeginning (sym is.whole)
    (end_begins is.prolog is.o is.outer [] (codes "</" ++ is.so_far) (left ++ codes ">") is.reader.place tt
    (ap (λ (l : List ℕ). codes "</" ++ l ++ [] ++ codes ">") (sym is.name) ∙ end_name_parts (codes "</") is.so_far left (codes ">")))

-- ---- every token

-- no forbidden word is begun
abbrev pub IsNoWord : Token → Type 0
IsNoWord Front = ⊤
IsNoWord (ByteOrderMark left) = ⊤
IsNoWord (Between start) = ⊤
IsNoWord (Opened start) = ⊤
IsNoWord (Declares left) = ⊤
IsNoWord (Declaration question) = ⊤
IsNoWord Bang = ⊤
IsNoWord BangDash = ⊤
IsNoWord (Banned left) = ⊥
IsNoWord (Comment hyphens) = ⊤
IsNoWord (ElementName name) = ⊤
IsNoWord InTag = ⊤
IsNoWord (AttributeName name) = ⊤
IsNoWord (BehindName k) = ⊤
IsNoWord (BehindEquals k) = ⊤
IsNoWord (Value q) = ⊤
IsNoWord BehindValue = ⊤
IsNoWord Slash = ⊤
IsNoWord (EndName left) = ⊤
IsNoWord EndSpace = ⊤

letters_parts : (a s l c : List ℕ) → a ++ ((s ++ l) ++ c) ≡ (a ++ s) ++ (l ++ c)
letters_parts a s l c = simp append_assoc

-- Behind a token some text goes on, unless it is a forbidden word.
pub reads_begin : (r : Reader) (token : Token) (bytes : List ℕ) → IsNoWord token → Reads r token bytes → IsBeginning bytes
reads_begin r Front bytes other is = subst IsBeginning (sym is.whole) (place_begins is.at is.reader.place)
reads_begin r (ByteOrderMark left) bytes other is =
    begins_front bytes left byte_order_mark (sym is.1) (place_begins (start_place true) (record { declaration = tt; misc = tt }, tt))
reads_begin r (Between start) bytes other is = subst IsBeginning (sym is.whole) (place_begins is.at is.reader.place)
reads_begin r (Opened start) bytes other is =
    subst IsBeginning (sym is.whole) (comment_begins is.at [] (codes "<") (codes "!---->") is.is.reader.place (lacks-none (codes "-->") (omega arith)) refl)
reads_begin r (Declares left) bytes other is =
    subst IsBeginning (sym is.whole)
    (declaration_begins is.marked 32 [] (codes "<?" ++ is.letters) (left ++ codes " ?>") refl (lacks-none (codes "?>") (omega arith))
    (ap (λ (l : List ℕ). codes "<?" ++ (l ++ codes " ?>")) (sym is.word) ∙ letters_parts (codes "<?") is.letters left (codes " ?>")))
reads_begin r (Declaration question) bytes other is =
    subst IsBeginning (sym is.whole) (declaration_begins is.marked is.space is.says (codes "<?xml" ++ is.space ∷ is.says) (codes "?>") is.space_is is.is.lacks refl)
reads_begin r Bang bytes other is =
    subst IsBeginning (sym is.whole) (comment_begins is.at [] (codes "<!") (codes "---->") is.reader.place (lacks-none (codes "-->") (omega arith)) refl)
reads_begin r BangDash bytes other is =
    subst IsBeginning (sym is.whole) (comment_begins is.at [] (codes "<!-") (codes "--->") is.reader.place (lacks-none (codes "-->") (omega arith)) refl)
reads_begin r (Banned left) bytes other is = absurd other
reads_begin r (Comment hyphens) bytes other is =
    subst IsBeginning (sym is.whole) (comment_begins is.at is.text (codes "<!--" ++ is.text) (codes "-->") is.is.reader.place is.is.lacks refl)
reads_begin r (ElementName name) bytes other is = subst IsBeginning (sym is.whole) (name_begins is.prolog is.opens name is.is.reader.place is.is.name_is)
reads_begin r InTag bytes other is =
    subst IsBeginning (sym is.whole) (tag_begins is.prolog is.opens is.tag (tag_bytes is.tag) (codes "/>") is.is.tag_is.at.place is.is.tag_is.there refl)
reads_begin r (AttributeName name) bytes other is =
    subst IsBeginning (sym is.whole)
    (attribute_begins is.prolog is.opens is.tag name [] [] 34 [] name (codes "=\"\"") is.is.tag_is.at.place is.is.tag_is.there is.is.some is.is.name_is tt tt (inl refl) tt
    (λ (read : is_read (length is.opens) is.tag.name name ≡ true). refs_empty) (append_assoc name (codes "=\"") (codes "\"")))
reads_begin r (BehindName k) bytes other is =
    subst IsBeginning (sym is.whole)
    (attribute_begins is.prolog is.opens is.tag is.name is.space [] 34 [] (is.name ++ is.space) (codes "=\"\"") is.is.tag_is.at.place is.is.tag_is.there is.is.named.some_space is.is.named.name_is
    is.is.space_is tt (inl refl) tt
    (λ (read : is_read (length is.opens) is.tag.name is.name ≡ true). refs_empty) (three is.name is.space (codes "=\"") (codes "\"")))
  where
    three : (n s e z : List ℕ) → (n ++ (s ++ e)) ++ z ≡ (n ++ s) ++ (e ++ z)
    three n s e z = simp append_assoc
reads_begin r (BehindEquals k) bytes other is =
    subst IsBeginning (sym is.whole)
    (attribute_begins is.prolog is.opens is.tag is.name is.behind_name is.space 34 [] (is.name ++ (is.behind_name ++ 61 ∷ is.space)) (codes "\"\"")
    is.is.tag_is.at.place is.is.tag_is.there is.is.named.some_space is.is.named.name_is is.is.behind_name_is is.is.space_is (inl refl) tt
    (λ (read : is_read (length is.opens) is.tag.name is.name ≡ true). refs_empty) (four is.name is.behind_name (codes "=") is.space (codes "\"") (codes "\"")))
  where
    four : (n b e c v z : List ℕ) → (n ++ (b ++ (e ++ (c ++ v)))) ++ z ≡ (n ++ (b ++ (e ++ c))) ++ (v ++ z)
    four n b e c v z = simp append_assoc
reads_begin r (Value q) bytes other is = value_begins r bytes q is
reads_begin r BehindValue bytes other is =
    subst IsBeginning (sym is.whole) (tag_begins is.prolog is.opens is.tag (tag_bytes is.tag) (codes "/>") is.is.tag_is.at.place is.is.tag_is.there refl)
reads_begin r Slash bytes other is =
    subst IsBeginning (sym (is.whole ∙ append_assoc (bytes_before (Within is.prolog is.opens)) (tag_bytes is.tag) (codes "/")))
    (tag_begins is.prolog is.opens is.tag (tag_bytes is.tag ++ codes "/") (codes ">") is.is.at.place is.is.there (sym (append_assoc (tag_bytes is.tag) (codes "/") (codes ">"))))
reads_begin r (EndName left) bytes other is = end_name_begins r bytes left is
reads_begin r EndSpace bytes other is =
    subst IsBeginning (sym is.whole)
    (end_begins is.prolog is.o is.outer is.space (codes "</" ++ (is.o.tag.name ++ is.space)) (codes ">") is.reader.place is.space_is
    (ap (λ (l : List ℕ). 60 ∷ 47 ∷ (l ++ codes ">")) refl))

word_goes_on : (r : Reader) (bytes left : List ℕ) → ReadsBanned r bytes left → MayGoOn bytes
word_goes_on r bytes left is = inr (
  left,
  length (bytes_before is.at),
  record {
    at = is.at;
    there = is.reader.place;
    word = is.word;
    forbidden = forbidden_there is.at is.word is.forbidden;
    whole = ap (λ (l : List ℕ). l ++ left) is.whole ∙ append_assoc (bytes_before is.at) (codes "<!" ++ is.so_far) left ∙ ap (λ (l : List ℕ). bytes_before is.at ++ l) is.rest;
    where_it_is = refl;
  },
)

-- a forbidden word, or none
pub word_or : (token : Token) → ((left : List ℕ) × (token ≡ Banned left)) ⊎ IsNoWord token
word_or Front = inr tt
word_or (ByteOrderMark left) = inr tt
word_or (Between start) = inr tt
word_or (Opened start) = inr tt
word_or (Declares left) = inr tt
word_or (Declaration question) = inr tt
word_or Bang = inr tt
word_or BangDash = inr tt
word_or (Banned left) = inl (left, refl)
word_or (Comment hyphens) = inr tt
word_or (ElementName name) = inr tt
word_or InTag = inr tt
word_or (AttributeName name) = inr tt
word_or (BehindName k) = inr tt
word_or (BehindEquals k) = inr tt
word_or (Value q) = inr tt
word_or BehindValue = inr tt
word_or Slash = inr tt
word_or (EndName left) = inr tt
word_or EndSpace = inr tt

-- what a reader has read may go on
pub reads_go_on : (r : Reader) (token : Token) (bytes : List ℕ) → Reads r token bytes → MayGoOn bytes
reads_go_on r token bytes is = elim (word_or token) [
  | inl word ↦ word_goes_on r bytes word.0 (subst (λ (t : Token). Reads r t bytes) word.1 is)
  | inr other ↦ inl (reads_begin r token bytes other is)
]
