-- One byte more at a place, and in markup that is no tag.
use Rattle.std.proofs.Common.{◌≡◌, ◌≢◌, ℕ, ◌≤◌, Bool, true, false, cond, ◌==◌, ◌||◌, List, [], ◌∷◌, ◌++◌, length, codes, refl, sym, ap, ap₂, subst, ◌∙◌, inl, inr, arith, append_assoc, append-nil, eqb-true}
use Rattle.std.proofs.lemmas.Bool.{both_ways, or_cases, cond_both}
use Rattle.mb_fdt_text.specs.declared.fdt.FdtKind.TheVariants.{Forbidden}
use Rattle.mb_xml.specs.Name.{is_space, is_name_start}
use Rattle.mb_fdt_text.specs.Element.{Content}
use Rattle.mb_fdt_text.specs.Element.Content.{Nothing, Byte}
use Rattle.mb_fdt_text.specs.Text.{byte_order_mark, Prolog}
use Rattle.mb_fdt_text.specs.Faults.{Open, Place, bytes_before, IsPlace, IsStart}
use Rattle.mb_fdt_text.specs.Faults.Place.{Inside as Within, Behind}
use Rattle.mb_fdt_text.specs.Reader.{Reader, Next, next, go, fail, syntax, between, opened, word, mark_left, in_content, before_root, innermost}
use Rattle.mb_fdt_text.specs.Reader.Token.{Front, Between, Opened, Declares, EndName}
use Rattle.mb_fdt_text.proofs.Characters.{equal_not}
use Rattle.mb_fdt_text.proofs.Places.{grown, grown-bytes, grown-at, AreShallow}
use Rattle.mb_fdt_text.proofs.TagsRead.{ReaderAt}
use Rattle.mb_fdt_text.proofs.States.{starts, start_of, first_token, token_at, start_is, is_start, IsOpened, outside-element, behind-element, some_root}
use Rattle.mb_fdt_text.proofs.ElementRuns.{NameBegins, name_begins}
use Rattle.mb_fdt_text.proofs.ElementRuns.NameBegins.{Begins, Deep}
use Rattle.mb_fdt_text.proofs.ContentRuns.{token-grown}
use Rattle.mb_fdt_text.proofs.TextRuns.{start_place, declared}
use Rattle.mb_fdt_text.proofs.Invariant.{ReadsPlace, Outcome}

-- both outcomes of a test
pub outcome_if : (place : ℕ) (bytes : List ℕ) (b : Bool) (x y : Next) → (b ≡ true → Outcome place bytes x) → (b ≡ false → Outcome place bytes y) → Outcome place bytes (cond b x y)
outcome_if place bytes b x y p q = cond_both b x y (Outcome place bytes) p q

-- the bytes with one more
pub one_more : (bytes front back : List ℕ) (b c : ℕ) → bytes ≡ front ++ back → b ≡ c → bytes ++ b ∷ [] ≡ front ++ (back ++ c ∷ [])
one_more bytes front back b c e same = ap₂ (λ (l : List ℕ) (x : ℕ). l ++ x ∷ []) e same ∙ append_assoc front back (c ∷ [])

-- the same behind bytes that are given whole
pub one_at : (bytes front : List ℕ) (b c : ℕ) → bytes ≡ front → b ≡ c → bytes ++ b ∷ [] ≡ front ++ c ∷ []
one_at bytes front b c e same = ap₂ (λ (l : List ℕ) (x : ℕ). l ++ x ∷ []) e same

-- ---- at a place

front_of : (marked start : Bool) → first_token marked start ≡ Front → (marked ≡ false) × (start ≡ true)
front_of true true e = absurd cc
front_of false true e = (refl, refl)
front_of marked false e = absurd cc

between_of : (marked start known : Bool) → first_token marked start ≡ Between known → known ≡ start
between_of true true known e = cc
between_of false true known e = absurd cc
between_of marked false known e = cc

-- the token tells whether the place is the start
pub between_start : (at : Place) (start : Bool) → token_at at ≡ Between start → start ≡ start_of at
between_start (Within prolog opens) start e = between_of prolog.marked (starts prolog.declaration prolog.misc opens) start e
between_start (Behind prolog root misc) start e = cc

-- the start is before anything, or behind a byte order mark
pub start_at : (at : Place) → start_of at ≡ true → (marked : Bool) × (at ≡ start_place marked)
start_at (Within prolog opens) e =
    let is = start_is (Within prolog opens) e in
    (prolog.marked, λ i. Within (record { marked = prolog.marked; declaration = is.0 i; misc = is.1 i }) (is.2 i))
start_at (Behind prolog root misc) e = absurd cc

-- the first token stands at the start alone
pub front_start : (at : Place) → token_at at ≡ Front → at ≡ start_place false
front_start (Within prolog opens) e =
    let parts = front_of prolog.marked (starts prolog.declaration prolog.misc opens) e in
    let is = start_is (Within prolog opens) parts.1 in
    λ i. Within (record { marked = parts.0 i; declaration = is.0 i; misc = is.1 i }) (is.2 i)
front_start (Behind prolog root misc) e = absurd cc

not_content : (r : Reader) (at : Place) (b : ℕ) → in_content r ≡ false → (in_content r || is_space b) ≡ true → is_space b ≡ true
not_content r at b none e = elim (or_cases (in_content r) (is_space b) e) [
  | inl inside ↦ absurd (both_ways (in_content r) none inside)
  | inr space ↦ space
]

grown_place : (r : Reader) (at : Place) (b : ℕ) → ReaderAt r at → b ≢ 60 → (in_content r || is_space b) ≡ true → IsPlace (grown (λ c. Byte c b) at)
grown_place r (Within prolog []) b is angle may =
    (record { declaration = is.place.0.declaration; misc = (is.place.0.misc, not_content r (Within prolog []) b (outside-element r prolog is) may) }, tt)
grown_place r (Within prolog (o ∷ outer)) b is angle may = (is.place.0, (is.place.1.0, is.place.1.1, (is.place.1.2, angle)))
grown_place r (Behind prolog root misc) b is angle may =
    (is.place.0, is.place.1, (is.place.2, not_content r (Behind prolog root misc) b (behind-element r (Behind prolog root misc) refl is) may))

-- a byte at a place
pub grow_place : (r : Reader) (bytes : List ℕ) (start : Bool) (b : ℕ) → (is : ReadsPlace r bytes) → r.at ≡ length bytes → start ≡ start_of is.at
    → Outcome r.at (bytes ++ b ∷ []) (between r start b)
grow_place r bytes start b is count same =
    outcome_if r.at (bytes ++ b ∷ []) (b == 60) _ _
    (λ (angle : (b == 60) ≡ true). record {
      at = is.at;
      is = record { reader = is.reader; token_is = ap (λ (s : Bool). Opened s) same; markup_is = count ∙ ap length is.whole };
      whole = one_at bytes (bytes_before is.at) b 60 is.whole (eqb-true b 60 angle);
    })
    (λ (angle : (b == 60) ≡ false). outcome_if r.at (bytes ++ b ∷ []) (in_content r || is_space b) _ _
    (λ (may : (in_content r || is_space b) ≡ true). record {
      at = grown (λ c. Byte c b) is.at;
      reader = grown-at (λ c. Byte c b) (λ c. refl) (λ c. refl) r.path r.root r.files is.at is.reader (grown_place r is.at b is.reader (equal_not b 60 angle) may);
      token_is = sym (token-grown (λ c. Byte c b) (λ (c : Content) (e : Byte c b ≡ Nothing). absurd cc) is.at);
      whole = one_at bytes (bytes_before is.at) b b is.whole refl ∙ sym (grown-bytes (λ c. Byte c b) (b ∷ []) (λ c. refl) is.at);
    })
    (λ (other : (in_content r || is_space b) ≡ false). inl (refl, refl)))

-- the first byte of the text
pub grow_front : (r : Reader) (bytes : List ℕ) (b : ℕ) → ReadsPlace r bytes → r.at ≡ length bytes → r.token ≡ Front → Outcome r.at (bytes ++ b ∷ []) (next r Front b)
grow_front r bytes b is count token =
    let start = front_start is.at (sym is.token_is ∙ token) in
    let none : bytes ≡ [] = is.whole ∙ ap bytes_before start in
    outcome_if r.at (bytes ++ b ∷ []) (b == 0xef) _ _
    (λ (mark : (b == 0xef) ≡ true). (
      subst (λ (at : Place). ReaderAt r at) start is.reader,
      ap₂ (λ (l : List ℕ) (c : ℕ). (l ++ c ∷ []) ++ 0xbb ∷ 0xbf ∷ []) none (eqb-true b 0xef mark),
    ))
    (λ (other : (b == 0xef) ≡ false). grow_place r bytes true b is count (sym (ap start_of start)))

-- ---- a byte order mark

grow_mark_left : (r : Reader) (bytes left : List ℕ) → ReaderAt r (start_place false) → bytes ++ left ≡ byte_order_mark → Outcome r.at bytes (mark_left r left)
grow_mark_left r bytes [] is same = record {
  at = start_place true;
  reader = declared _ r.path r.root r.files is _ (record { declaration = tt; misc = tt });
  token_is = refl;
  whole = sym (append-nil bytes) ∙ same;
}
grow_mark_left r bytes (c ∷ left) is same = (is, same)

-- a byte of a byte order mark
pub grow_mark : (r : Reader) (bytes left : List ℕ) (b : ℕ) → ReaderAt r (start_place false) → bytes ++ left ≡ byte_order_mark
    → Outcome r.at (bytes ++ b ∷ []) (word (syntax r) (mark_left r) left b)
grow_mark r bytes [] b is same = inl (refl, refl)
grow_mark r bytes (c ∷ left) b is same =
    outcome_if r.at (bytes ++ b ∷ []) (b == c) _ _
    (λ (t : (b == c) ≡ true). grow_mark_left r (bytes ++ b ∷ []) left is
    (ap (λ (x : ℕ). (bytes ++ x ∷ []) ++ left) (eqb-true b c t) ∙ append_assoc bytes (c ∷ []) left ∙ same))
    (λ (t : (b == c) ≡ false). inl (refl, refl))

-- ---- behind `<`

-- no more than 16 elements are open
pub depth_most : (opens : List Open) → AreShallow opens → length opens ≤ 16
depth_most [] is = omega arith
depth_most (o ∷ outer) is = omega (arith, is.1)

name_outcome : (r : Reader) (bytes : List ℕ) (prolog : Prolog) (opens : List Open) (start : Bool) (b : ℕ) → bytes ≡ bytes_before (Within prolog opens) ++ codes "<"
    → ReaderAt r (Within prolog opens) → r.markup ≡ length (bytes_before (Within prolog opens)) → is_name_start b ≡ true
    → NameBegins r prolog opens start b → Outcome r.at (bytes ++ b ∷ []) (opened r start b)
name_outcome r bytes prolog opens start b whole is markup name (Begins naming e) =
    subst (Outcome r.at (bytes ++ b ∷ [])) (sym e)
    (record { prolog = prolog; opens = opens; is = naming; whole = one_more bytes (bytes_before (Within prolog opens)) (codes "<") b b whole refl })
name_outcome r bytes prolog opens start b whole is markup name (Deep deep e) =
    subst (Outcome r.at (bytes ++ b ∷ [])) (sym e)
    (inr (record {
      prolog = prolog;
      path = opens;
      there = is.place;
      deep = (let most = depth_most opens is.kept.shallow in omega arith);
      first = b;
      name = name;
      whole = one_at bytes (bytes_before (Within prolog opens) ++ codes "<") b b whole refl;
      where_it_is = markup;
    }))

-- a name behind `<`
pub grow_name : (r : Reader) (bytes : List ℕ) (start : Bool) (b : ℕ) (at : Place) → bytes ≡ bytes_before at ++ codes "<" → IsOpened r at
    → is_name_start b ≡ true → (in_content r || before_root r) ≡ true → Outcome r.at (bytes ++ b ∷ []) (opened r start b)
grow_name r bytes start b (Within prolog opens) whole is name may =
    name_outcome r bytes prolog opens start b whole is.reader is.markup_is name (name_begins r prolog opens start b is.reader is.markup_is name)
grow_name r bytes start b (Behind prolog root misc) whole is name may = elim (or_cases (in_content r) (before_root r) may) [
  | inl inside ↦ absurd (both_ways (in_content r) (behind-element r (Behind prolog root misc) refl is.reader) inside)
  | inr before ↦ absurd (both_ways (before_root r) (some_root r (Behind prolog root misc) refl is.reader) before)
]

-- the slash of an end tag
pub grow_end : (r : Reader) (bytes : List ℕ) (at : Place) → bytes ≡ bytes_before at ++ codes "</" → ReaderAt r at → in_content r ≡ true
    → Outcome r.at bytes (go r (EndName (innermost r.path)))
grow_end r bytes (Within prolog []) whole is inside = absurd (both_ways (in_content r) (outside-element r prolog is) inside)
grow_end r bytes (Within prolog (o ∷ outer)) whole is inside =
    record { prolog = prolog; o = o; outer = outer; reader = is; so_far = []; name = ap innermost is.names; whole = whole }
grow_end r bytes (Behind prolog root misc) whole is inside = absurd (both_ways (in_content r) (behind-element r (Behind prolog root misc) refl is) inside)

-- a question mark behind `<`: a declaration at the start, and forbidden elsewhere
pub grow_question : (r : Reader) (bytes : List ℕ) (start : Bool) (at : Place) → bytes ≡ bytes_before at ++ codes "<?" → ReaderAt r at → r.markup ≡ length (bytes_before at)
    → start ≡ start_of at → Outcome r.at bytes (cond start (go r (Declares (codes "xml"))) (fail Forbidden r.markup))
grow_question r bytes true at whole is markup same =
    let start = start_at at (sym same) in record {
      marked = start.0;
      reader = subst (λ (p : Place). ReaderAt r p) start.1 is;
      letters = [];
      word = refl;
      whole = whole ∙ ap (λ (p : Place). bytes_before p ++ codes "<?") start.1;
    }
grow_question r bytes false at whole is markup same =
    inr (record {
      at = at;
      there = is.place;
      word = codes "<?";
      forbidden = inr (inr (refl, λ (s : IsStart at). both_ways false refl (same ∙ is_start at s)));
      whole = whole;
      where_it_is = markup;
    })
