-- One byte more in declarations, in comments, in forbidden words and in end tags.
use Rattle.std.proofs.Common.{◌≡◌, ◌⊎◌, ℕ, ◌+◌, min, Bool, true, false, cond, ◌==◌, ◌&&◌, ◌||◌, List, [], ◌∷◌, ◌++◌, Some, codes, refl, sym, ap, subst, ◌∙◌, inl, inr, arith, append_assoc, append-nil, eqb-true}
use Rattle.std.proofs.lemmas.Bool.{cases_Bool, both_ways, and_parts}
use Rattle.mb_fdt_text.specs.declared.fdt.FdtKind.TheVariants.{Syntax}
use Rattle.mb_xml.specs.Name.{is_space, IsSpace, is_name_start}
use Rattle.mb_fdt_text.specs.Element.{Content, comment_bytes, Lacks}
use Rattle.mb_fdt_text.specs.Element.Content.{Nothing, Comment}
use Rattle.mb_fdt_text.specs.Text.{Declaration, declaration_bytes, mark_bytes, Prolog}
use Rattle.mb_fdt_text.specs.Faults.{Open, Place, bytes_before, IsPlace, IsForbidden}
use Rattle.mb_fdt_text.specs.Faults.Place.{Inside as Within, Behind}
use Rattle.mb_fdt_text.specs.Reader.{Reader, go, fail, syntax, opened, declares, declaration, bang, word, banned_left, comment, in_content, before_root, end_name, end_space}
use Rattle.mb_fdt_text.specs.Reader.Token.{Between, Opened, Declaration as InDeclaration, Comment as InComment}
use Rattle.mb_fdt_text.proofs.Lists.{each_push}
use Rattle.mb_fdt_text.proofs.Comments.{lacks-none, hyphens_after, hyphens-push, ends_two, comment_goes_on, lacks-front, question-push, ends_question, declaration_goes_on}
use Rattle.mb_fdt_text.proofs.Places.{grown, grown-bytes, grown-at}
use Rattle.mb_fdt_text.proofs.Nesting.{closed, closed-bytes, closed-at}
use Rattle.mb_fdt_text.proofs.TagsRead.{ReaderAt}
use Rattle.mb_fdt_text.proofs.States.{start_of}
use Rattle.mb_fdt_text.proofs.ContentRuns.{token-grown, token-closed}
use Rattle.mb_fdt_text.proofs.TextRuns.{start_place, declared, declaration-parts}
use Rattle.mb_fdt_text.proofs.Invariant.{ReadsMarkup, ReadsOpened, ReadsDeclares, ReadsDeclaration, ReadsBanned, ReadsComment, ReadsEnd, ReadsEndSpace, Outcome}
use Rattle.mb_fdt_text.proofs.MarkupGrowth.{outcome_if, one_more, grow_name, grow_end, grow_question}

opened_same : (s t : Bool) → Opened s ≡ Opened t → s ≡ t
opened_same s t e = cc

-- a byte behind `<`
pub grow_opened : (r : Reader) (bytes : List ℕ) (start : Bool) (b : ℕ) → ReadsOpened r bytes → r.token ≡ Opened start → Outcome r.at (bytes ++ b ∷ []) (opened r start b)
grow_opened r bytes start b is token = elim (cases_Bool (is_name_start b && (in_content r || before_root r))) [
  | inl name ↦ (let parts = and_parts (is_name_start b) (in_content r || before_root r) name in grow_name r bytes start b is.at is.whole is.is parts.0 parts.1)
  | inr other ↦ others other
]
  where
    markup : (c : ℕ) → (b == c) ≡ true → bytes ++ b ∷ [] ≡ bytes_before is.at ++ (codes "<" ++ c ∷ [])
    markup c e = one_more bytes (bytes_before is.at) (codes "<") b c is.whole (eqb-true b c e)

    same : start ≡ start_of is.at
    same = opened_same start (start_of is.at) (sym token ∙ is.is.token_is)

    others : (is_name_start b && (in_content r || before_root r)) ≡ false → Outcome r.at (bytes ++ b ∷ []) (opened r start b)
    others other =
        outcome_if r.at (bytes ++ b ∷ []) (b == 63) _ _
        (λ (t : (b == 63) ≡ true). grow_question r (bytes ++ b ∷ []) start is.at (markup 63 t) is.is.reader is.is.markup_is same)
        (λ (t : (b == 63) ≡ false). outcome_if r.at (bytes ++ b ∷ []) (b == 33) _ _
        (λ (u : (b == 33) ≡ true). record { at = is.at; reader = is.is.reader; markup_is = is.is.markup_is; whole = markup 33 u })
        (λ (u : (b == 33) ≡ false). outcome_if r.at (bytes ++ b ∷ []) ((b == 47) && in_content r) _ _
        (λ (v : ((b == 47) && in_content r) ≡ true). (let parts = and_parts (b == 47) (in_content r) v in
        grow_end r (bytes ++ b ∷ []) is.at (markup 47 parts.0) is.is.reader parts.1))
        (λ (v : ((b == 47) && in_content r) ≡ false). outcome_if r.at (bytes ++ b ∷ []) (is_name_start b && (in_content r || before_root r)) _ _
        (λ (w : (is_name_start b && (in_content r || before_root r)) ≡ true). absurd (both_ways _ other w))
        (λ (w : (is_name_start b && (in_content r || before_root r)) ≡ false). inl (refl, refl)))))

-- ---- declarations

-- a byte behind `<?`
pub grow_declares : (r : Reader) (bytes left : List ℕ) (b : ℕ) → ReadsDeclares r bytes left → Outcome r.at (bytes ++ b ∷ []) (declares r left b)
grow_declares r bytes [] b is =
    outcome_if r.at (bytes ++ b ∷ []) (is_space b) _ _
    (λ (space : is_space b ≡ true). record {
      marked = is.marked;
      space = b;
      space_is = space;
      says = [];
      is = record { reader = is.reader; token_is = refl; lacks = lacks-none (codes "?>") (omega arith) };
      question_is = refl;
      whole = one_more bytes (bytes_before (start_place is.marked)) (codes "<?xml") b b
          (is.whole ∙ ap (λ (l : List ℕ). bytes_before (start_place is.marked) ++ (codes "<?" ++ l)) (sym (append-nil is.letters) ∙ is.word)) refl;
    })
    (λ (other : is_space b ≡ false). inl (refl, refl))
grow_declares r bytes (c ∷ left) b is =
    outcome_if r.at (bytes ++ b ∷ []) (b == c) _ _
    (λ (t : (b == c) ≡ true). record {
      marked = is.marked;
      reader = is.reader;
      letters = is.letters ++ c ∷ [];
      word = append_assoc is.letters (c ∷ []) left ∙ is.word;
      whole = one_more bytes (bytes_before (start_place is.marked)) (codes "<?" ++ is.letters) b c is.whole (eqb-true b c t);
    })
    (λ (t : (b == c) ≡ false). inl (refl, refl))

-- a byte of a declaration
pub grow_declaration : (r : Reader) (bytes : List ℕ) (question : Bool) (b : ℕ) → ReadsDeclaration r bytes question → Outcome r.at (bytes ++ b ∷ []) (declaration r question b)
grow_declaration r bytes question b is =
    outcome_if r.at (bytes ++ b ∷ []) (question && (b == 62)) _ _
    (λ (t : (question && (b == 62)) ≡ true). ends (and_parts question (b == 62) t))
    (λ (t : (question && (b == 62)) ≡ false). record {
      marked = is.marked;
      space = is.space;
      space_is = is.space_is;
      says = is.says ++ b ∷ [];
      is = record {
        reader = is.is.reader;
        token_is = ap (λ (q : Bool). InDeclaration q) (sym (question-push false is.says b));
        lacks = declaration_goes_on is.says b is.is.lacks (ap (λ (q : Bool). q && (b == 62)) (sym is.question_is) ∙ t);
      };
      question_is = sym (question-push false is.says b);
      whole = one_more bytes (bytes_before (start_place is.marked)) (codes "<?xml" ++ is.space ∷ is.says) b b is.whole refl;
    })
  where
    ends : (question ≡ true) × ((b == 62) ≡ true) → Outcome r.at (bytes ++ b ∷ []) (go r (Between false))
    ends parts =
        let marked = ends_question is.says (sym is.question_is ∙ parts.0) in
        let d : Declaration = record { space = is.space; says = marked.0 } in
        record {
          at = Within (record { marked = is.marked; declaration = Some d; misc = Nothing }) [];
          reader = declared _ r.path r.root r.files is.is.reader _ (record { declaration = (is.space_is, lacks-front (codes "?>") marked.0 (63 ∷ []) (subst (Lacks (codes "?>")) marked.1 is.is.lacks)); misc = tt });
          token_is = refl;
          whole = one_more bytes (bytes_before (start_place is.marked)) (codes "<?xml" ++ is.space ∷ is.says) b 62 is.whole (eqb-true b 62 parts.1)
              ∙ ap (λ (l : List ℕ). bytes_before (start_place is.marked) ++ (codes "<?xml" ++ is.space ∷ (l ++ 62 ∷ []))) marked.1
              ∙ ap (λ (l : List ℕ). bytes_before (start_place is.marked) ++ (codes "<?xml" ++ is.space ∷ l)) (append_assoc marked.0 (63 ∷ []) (62 ∷ []))
              ∙ sym (declaration-parts (mark_bytes is.marked) (declaration_bytes (Some d)));
        }

-- ---- behind `<!`

-- a byte behind `<!`
pub grow_bang : (r : Reader) (bytes : List ℕ) (b : ℕ) → ReadsMarkup r bytes (codes "<!") → Outcome r.at (bytes ++ b ∷ []) (bang r b)
grow_bang r bytes b is =
    outcome_if r.at (bytes ++ b ∷ []) (b == 45) _ _
    (λ (t : (b == 45) ≡ true). record { at = is.at; reader = is.reader; markup_is = is.markup_is; whole = one_more bytes (bytes_before is.at) (codes "<!") b 45 is.whole (eqb-true b 45 t) })
    (λ (t : (b == 45) ≡ false). outcome_if r.at (bytes ++ b ∷ []) (b == 91) _ _
    (λ (u : (b == 91) ≡ true). record {
      at = is.at;
      reader = is.reader;
      markup_is = is.markup_is;
      so_far = codes "[";
      word = codes "<![CDATA[";
      forbidden = inl refl;
      rest = refl;
      whole = one_more bytes (bytes_before is.at) (codes "<!") b 91 is.whole (eqb-true b 91 u);
    })
    (λ (u : (b == 91) ≡ false). outcome_if r.at (bytes ++ b ∷ []) (b == 68) _ _
    (λ (v : (b == 68) ≡ true). record {
      at = is.at;
      reader = is.reader;
      markup_is = is.markup_is;
      so_far = codes "D";
      word = codes "<!DOCTYPE";
      forbidden = inr refl;
      rest = refl;
      whole = one_more bytes (bytes_before is.at) (codes "<!") b 68 is.whole (eqb-true b 68 v);
    })
    (λ (v : (b == 68) ≡ false). inl (refl, refl))))

-- a byte behind `<!-`
pub grow_dash : (r : Reader) (bytes : List ℕ) (b : ℕ) → ReadsMarkup r bytes (codes "<!-") → Outcome r.at (bytes ++ b ∷ []) (cond (b == 45) (go r (InComment 0)) (syntax r))
grow_dash r bytes b is =
    outcome_if r.at (bytes ++ b ∷ []) (b == 45) _ _
    (λ (t : (b == 45) ≡ true). record {
      at = is.at;
      text = [];
      is = record { reader = is.reader; token_is = refl; lacks = lacks-none (codes "-->") (omega arith) };
      hyphens_are = refl;
      whole = one_more bytes (bytes_before is.at) (codes "<!-") b 45 is.whole (eqb-true b 45 t);
    })
    (λ (t : (b == 45) ≡ false). inl (refl, refl))

-- the two words are forbidden everywhere
pub forbidden_there : (at : Place) (word : List ℕ) → (word ≡ codes "<![CDATA[") ⊎ (word ≡ codes "<!DOCTYPE") → IsForbidden at word
forbidden_there at word (inl e) = inl e
forbidden_there at word (inr e) = inr (inl e)

grow_banned_left : (r : Reader) (bytes left : List ℕ) → ReadsBanned r bytes left → Outcome (r.markup + 2) bytes (banned_left r left)
grow_banned_left r bytes [] is =
    inr (record {
      at = is.at;
      there = is.reader.place;
      word = is.word;
      forbidden = forbidden_there is.at is.word is.forbidden;
      whole = is.whole ∙ ap (λ (l : List ℕ). bytes_before is.at ++ l) (ap (λ (l : List ℕ). codes "<!" ++ l) (sym (append-nil is.so_far)) ∙ is.rest);
      where_it_is = is.markup_is;
    })
grow_banned_left r bytes (c ∷ left) is = record {
  at = is.at;
  reader = is.reader;
  markup_is = is.markup_is;
  so_far = is.so_far;
  word = is.word;
  forbidden = is.forbidden;
  rest = is.rest;
  whole = is.whole;
}

-- a byte of a forbidden word
pub grow_banned : (r : Reader) (bytes left : List ℕ) (b : ℕ) → ReadsBanned r bytes left
    → Outcome (r.markup + 2) (bytes ++ b ∷ []) (word (fail Syntax (r.markup + 2)) (banned_left r) left b)
grow_banned r bytes [] b is = inl (refl, refl)
grow_banned r bytes (c ∷ left) b is =
    outcome_if (r.markup + 2) (bytes ++ b ∷ []) (b == c) _ _
    (λ (t : (b == c) ≡ true). grow_banned_left r (bytes ++ b ∷ []) left (record {
      at = is.at;
      reader = is.reader;
      markup_is = is.markup_is;
      so_far = is.so_far ++ c ∷ [];
      word = is.word;
      forbidden = is.forbidden;
      rest = ap (λ (l : List ℕ). codes "<!" ++ l) (append_assoc is.so_far (c ∷ []) left) ∙ is.rest;
      whole = one_more bytes (bytes_before is.at) (codes "<!" ++ is.so_far) b c is.whole (eqb-true b c t);
    }))
    (λ (t : (b == c) ≡ false). inl (refl, refl))

-- ---- comments

-- a comment that ended is one of the place
pub commented : (at : Place) (text : List ℕ) → IsPlace at → Lacks (codes "-->") text → IsPlace (grown (λ c. Comment c text) at)
commented (Within prolog []) text place lacks = (record { declaration = place.0.declaration; misc = (place.0.misc, lacks) }, tt)
commented (Within prolog (o ∷ outer)) text place lacks = (place.0, (place.1.0, place.1.1, (place.1.2, lacks)))
commented (Behind prolog root misc) text place lacks = (place.0, place.1, (place.2, lacks))

-- a byte of a comment
pub grow_comment : (r : Reader) (bytes : List ℕ) (hyphens b : ℕ) → ReadsComment r bytes hyphens → Outcome r.at (bytes ++ b ∷ []) (comment r hyphens b)
grow_comment r bytes hyphens b is =
    outcome_if r.at (bytes ++ b ∷ []) ((hyphens == 2) && (b == 62)) _ _
    (λ (t : ((hyphens == 2) && (b == 62)) ≡ true). ends (and_parts (hyphens == 2) (b == 62) t))
    (λ (t : ((hyphens == 2) && (b == 62)) ≡ false). record {
      at = is.at;
      text = is.text ++ b ∷ [];
      is = record {
        reader = is.is.reader;
        token_is = ap (λ (n : ℕ). InComment n) (more ∙ sym (hyphens-push 0 is.text b));
        lacks = comment_goes_on is.text b is.is.lacks (ap (λ (n : ℕ). (n == 2) && (b == 62)) (sym is.hyphens_are) ∙ t);
      };
      hyphens_are = more ∙ sym (hyphens-push 0 is.text b);
      whole = one_more bytes (bytes_before is.at) (codes "<!--" ++ is.text) b b is.whole refl;
    })
  where
    more : cond (b == 45) (min 2 (hyphens + 1)) 0 ≡ cond (b == 45) (min 2 (hyphens_after 0 is.text + 1)) 0
    more = ap (λ (n : ℕ). cond (b == 45) (min 2 (n + 1)) 0) is.hyphens_are

    ends : ((hyphens == 2) ≡ true) × ((b == 62) ≡ true) → Outcome r.at (bytes ++ b ∷ []) (go r (Between false))
    ends parts =
        let two = ends_two is.text (sym is.hyphens_are ∙ eqb-true hyphens 2 parts.0) in
        let lacks : Lacks (codes "-->") two.0 = lacks-front (codes "-->") two.0 (codes "--") (subst (Lacks (codes "-->")) two.1 is.is.lacks) in
        record {
          at = grown (λ c. Comment c two.0) is.at;
          reader = grown-at (λ c. Comment c two.0) (λ c. refl) (λ c. refl) r.path r.root r.files is.at is.is.reader (commented is.at two.0 is.is.reader.place lacks);
          token_is = sym (token-grown (λ c. Comment c two.0) (λ (c : Content) (e : Comment c two.0 ≡ Nothing). absurd cc) is.at);
          whole = one_more bytes (bytes_before is.at) (codes "<!--" ++ is.text) b 62 is.whole (eqb-true b 62 parts.1)
              ∙ ap (λ (l : List ℕ). bytes_before is.at ++ (codes "<!--" ++ (l ++ 62 ∷ []))) two.1
              ∙ ap (λ (l : List ℕ). bytes_before is.at ++ (codes "<!--" ++ l)) (append_assoc two.0 (codes "--") (62 ∷ []))
              ∙ sym (grown-bytes (λ c. Comment c two.0) (comment_bytes two.0) (λ c. refl) is.at);
        }

-- ---- end tags

-- white space behind the name of an end tag, and its end
grow_end_at : (r : Reader) (bytes : List ℕ) (prolog : Prolog) (o : Open) (outer : List Open) (space : List ℕ) (b : ℕ) → ReaderAt r (Within prolog (o ∷ outer)) → IsSpace space
    → bytes ≡ bytes_before (Within prolog (o ∷ outer)) ++ (codes "</" ++ (o.tag.name ++ space)) → Outcome r.at (bytes ++ b ∷ []) (end_space r b)
grow_end_at r bytes prolog o outer space b is spaces whole =
    outcome_if r.at (bytes ++ b ∷ []) (is_space b) _ _
    (λ (t : is_space b ≡ true). record {
      prolog = prolog;
      o = o;
      outer = outer;
      reader = is;
      space = space ++ b ∷ [];
      space_is = each_push (λ c. is_space c ≡ true) space b spaces t;
      whole = one_more bytes (bytes_before (Within prolog (o ∷ outer))) (codes "</" ++ (o.tag.name ++ space)) b b whole refl
          ∙ ap (λ (l : List ℕ). bytes_before (Within prolog (o ∷ outer)) ++ (codes "</" ++ l)) (append_assoc o.tag.name space (b ∷ []));
    })
    (λ (t : is_space b ≡ false). outcome_if r.at (bytes ++ b ∷ []) (b == 62) _ _
    (λ (u : (b == 62) ≡ true). record {
      at = closed prolog o outer space;
      reader = closed-at r.path r.root r.files prolog o outer space is spaces;
      token_is = sym (token-closed prolog o outer space);
      whole = one_more bytes (bytes_before (Within prolog (o ∷ outer))) (codes "</" ++ (o.tag.name ++ space)) b 62 whole (eqb-true b 62 u)
          ∙ sym (closed-bytes prolog o outer space);
    })
    (λ (u : (b == 62) ≡ false). inl (refl, refl)))

-- a byte behind white space in an end tag
pub grow_end_space : (r : Reader) (bytes : List ℕ) (b : ℕ) → ReadsEndSpace r bytes → Outcome r.at (bytes ++ b ∷ []) (end_space r b)
grow_end_space r bytes b is = grow_end_at r bytes is.prolog is.o is.outer is.space b is.reader is.space_is is.whole

-- a byte of the name in an end tag
pub grow_end_name : (r : Reader) (bytes left : List ℕ) (b : ℕ) → ReadsEnd r bytes left → Outcome r.at (bytes ++ b ∷ []) (end_name r left b)
grow_end_name r bytes [] b is =
    grow_end_at r bytes is.prolog is.o is.outer [] b is.reader tt
    (is.whole ∙ ap (λ (l : List ℕ). bytes_before (Within is.prolog (is.o ∷ is.outer)) ++ (codes "</" ++ l)) (sym (append-nil is.so_far) ∙ is.name ∙ sym (append-nil is.o.tag.name)))
grow_end_name r bytes (c ∷ left) b is =
    outcome_if r.at (bytes ++ b ∷ []) (b == c) _ _
    (λ (t : (b == c) ≡ true). record {
      prolog = is.prolog;
      o = is.o;
      outer = is.outer;
      reader = is.reader;
      so_far = is.so_far ++ c ∷ [];
      name = append_assoc is.so_far (c ∷ []) left ∙ is.name;
      whole = one_more bytes (bytes_before (Within is.prolog (is.o ∷ is.outer))) (codes "</" ++ is.so_far) b c is.whole (eqb-true b c t);
    })
    (λ (t : (b == c) ≡ false). inl (refl, refl))
