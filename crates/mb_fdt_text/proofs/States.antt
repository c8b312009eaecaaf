-- A reader between two bytes: at a place, and behind the `<` that stands there.
use Rattle.std.proofs.Common.{◌≡◌, ℕ, suc, ◌+◌, Bool, true, false, cond, not, ◌==◌, ◌||◌, nat_lt, List, [], ◌∷◌, length, Option, Some, None, is_some, option_map, Ok, refl, ap, ap₂, ◌∙◌, arith, lt-ltb}
use Rattle.mb_fdt_text.specs.Element.{Content, Tag}
use Rattle.mb_fdt_text.specs.Element.Content.{Nothing, Byte, Comment, Empty, Full}
use Rattle.mb_fdt_text.specs.Text.{Declaration, Prolog}
use Rattle.mb_fdt_text.specs.Faults.{Open, Place, bytes_before, IsStart}
use Rattle.mb_fdt_text.specs.Faults.Place.{Inside, Behind}
use Rattle.mb_fdt_text.specs.Reader.{Reader, Token, RootSays, step, between, in_content, before_root}
use Rattle.mb_fdt_text.specs.Reader.Token.{Front, Between, Opened}
use Rattle.mb_fdt_text.proofs.Places.{place_root, place_names, open_names, root_says}
use Rattle.mb_fdt_text.proofs.TagsRead.{ReaderAt}
use Rattle.mb_fdt_text.proofs.Running.{step-is}

-- ---- the start of the text

-- nothing stands before it but a byte order mark
abbrev pub starts : Option Declaration → Content → List Open → Bool
starts None Nothing [] = true
starts None Nothing (o ∷ opens) = false
starts None (Byte before b) opens = false
starts None (Comment before text) opens = false
starts None (Empty before tag) opens = false
starts None (Full before tag inner space) opens = false
starts (Some d) misc opens = false

-- whether a place is the start
abbrev pub start_of : Place → Bool
start_of (Inside prolog opens) = starts prolog.declaration prolog.misc opens
start_of (Behind prolog root misc) = false

starts_is : (declaration : Option Declaration) (misc : Content) (opens : List Open) → starts declaration misc opens ≡ true → (declaration ≡ None) × (misc ≡ Nothing) × (opens ≡ [])
starts_is None Nothing [] e = (refl, refl, refl)
starts_is None Nothing (o ∷ opens) e = absurd cc
starts_is None (Byte before b) opens e = absurd cc
starts_is None (Comment before text) opens e = absurd cc
starts_is None (Empty before tag) opens e = absurd cc
starts_is None (Full before tag inner space) opens e = absurd cc
starts_is (Some d) misc opens e = absurd cc

-- the test says what IsStart says
pub start_is : (at : Place) → start_of at ≡ true → IsStart at
start_is (Inside prolog opens) e = starts_is prolog.declaration prolog.misc opens e
start_is (Behind prolog root misc) e = absurd cc

-- the other way round
pub is_start : (at : Place) → IsStart at → start_of at ≡ true
is_start (Inside prolog opens) is =
    ap (λ (d : Option Declaration). starts d prolog.misc opens) is.0 ∙ ap₂ (λ (c : Content) (l : List Open). starts None c l) is.1 is.2
is_start (Behind prolog root misc) is = absurd is

-- ---- at a place

-- Nothing is begun; at the start of the text a byte order mark may come, where none came.
abbrev pub first_token : Bool → Bool → Token
first_token marked true = cond marked (Between true) Front
first_token marked false = Between false

-- the token at a place
abbrev pub token_at : Place → Token
token_at (Inside prolog opens) = first_token prolog.marked (starts prolog.declaration prolog.misc opens)
token_at (Behind prolog root misc) = Between false

-- a reader at a place, with all that it knows there
pub record IsPlaced (r : Reader) (at : Place) : Type 0 where
  pub reader : ReaderAt r at
  pub token_is : r.token ≡ token_at at
  pub count : r.at ≡ length (bytes_before at)

by_token : (r : Reader) (marked start : Bool) (b : ℕ) → r.token ≡ first_token marked start → (b == 0xef) ≡ false → step r b ≡ between r start b
by_token r true true b e other = step-is r (Between true) b e
by_token r false true b e other = step-is r Front b e ∙ rw other refl
by_token r marked false b e other = step-is r (Between false) b e

-- the step at a place
pub between-step : (r : Reader) (at : Place) (b : ℕ) → r.token ≡ token_at at → (b == 0xef) ≡ false → step r b ≡ between r (start_of at) b
between-step r (Inside prolog opens) b e other = by_token r prolog.marked (starts prolog.declaration prolog.misc opens) b e other
between-step r (Behind prolog root misc) b e other = step-is r (Between false) b e

-- ---- behind `<`

-- a reader behind the `<` at a place
pub record IsOpened (r : Reader) (at : Place) : Type 0 where
  pub reader : ReaderAt r at
  pub token_is : r.token ≡ Opened (start_of at)
  pub markup_is : r.markup ≡ length (bytes_before at)

-- the reader behind `<`
abbrev pub opening : Reader → Bool → Reader
opening r start = record r { markup = r.at; token = Opened start; at = r.at + 1 }

-- its step
pub opening-step : (r : Reader) (at : Place) → IsPlaced r at → step r 60 ≡ Ok (opening r (start_of at))
opening-step r at is = between-step r at 60 is.token_is refl

-- what it knows
pub opening-is : (r : Reader) (at : Place) → IsPlaced r at → IsOpened (opening r (start_of at)) at
opening-is r at is = record { reader = is.reader; token_is = refl; markup_is = is.count }

-- ---- where elements may stand

no_names : (path : List (List ℕ)) → path ≡ [] → nat_lt 0 (length path) ≡ false
no_names path e = ap (λ (l : List (List ℕ)). nat_lt 0 (length l)) e

-- inside an element the reader is in content
pub inside-element : (r : Reader) (prolog : Prolog) (o : Open) (outer : List Open) → ReaderAt r (Inside prolog (o ∷ outer)) → in_content r ≡ true
inside-element r prolog o outer is = ap (λ (l : List (List ℕ)). nat_lt 0 (length l)) is.names ∙ lt-ltb 0 (suc (length (open_names outer))) (omega arith)

-- before the root it is not
pub outside-element : (r : Reader) (prolog : Prolog) → ReaderAt r (Inside prolog []) → in_content r ≡ false
outside-element r prolog is = no_names r.path is.names

-- nor where no element is open
pub behind-element : (r : Reader) (at : Place) → place_names at ≡ [] → ReaderAt r at → in_content r ≡ false
behind-element r at none is = no_names r.path (is.names ∙ none)

-- before the root none is known
pub no_root : (r : Reader) (prolog : Prolog) → ReaderAt r (Inside prolog []) → before_root r ≡ true
no_root r prolog is = ap (λ (o : Option RootSays). not (is_some o)) is.says

-- behind the root's tag it is known
pub some_root : (r : Reader) (at : Place) → is_some (place_root at) ≡ true → ReaderAt r at → before_root r ≡ false
some_root r at some is = ap (λ (o : Option RootSays). not (is_some o)) is.says ∙ with_root (place_root at) some
  where
    with_root : (o : Option Tag) → is_some o ≡ true → not (is_some (option_map root_says o)) ≡ false
    with_root None e = absurd cc
    with_root (Some tag) e = refl

-- elements may begin inside elements, and before the root
pub may_begin : (r : Reader) (prolog : Prolog) (opens : List Open) → ReaderAt r (Inside prolog opens) → (in_content r || before_root r) ≡ true
may_begin r prolog [] is = rw (outside-element r prolog is, no_root r prolog is) refl
may_begin r prolog (o ∷ outer) is = rw (inside-element r prolog o outer is) refl
