-- The bytes that a reader has read are those of its state, and where it stops they show why.
use Rattle.std.proofs.Common.{◌≡◌, ℕ, false, List, [], ◌∷◌, ◌++◌, length, Ok, Err, refl, sym, ap, subst, ◌∙◌, append_assoc, append-nil}
use Rattle.mb_fdt_text.specs.declared.fdt.FdtFault.{FdtFault}
use Rattle.mb_fdt_text.specs.Reader.{Reader, Token, begin, Next, next, step, steps}
use Rattle.mb_fdt_text.specs.Reader.Token.{Front, ByteOrderMark, Between, Opened, Declares, Declaration, Bang, BangDash, Banned, Comment, ElementName, InTag, AttributeName, BehindName, BehindEquals, Value, BehindValue, Slash, EndName, EndSpace}
use Rattle.mb_fdt_text.proofs.Running.{steps-append}
use Rattle.mb_fdt_text.proofs.Counting.{counts_from_begin}
use Rattle.mb_fdt_text.proofs.TextRuns.{start_place, begin-placed}
use Rattle.mb_fdt_text.proofs.Invariant.{Reads, stop_place, Outcome}
use Rattle.mb_fdt_text.proofs.MarkupGrowth.{between_start, grow_place, grow_front, grow_mark}
use Rattle.mb_fdt_text.proofs.MarkupSteps.{grow_opened, grow_declares, grow_declaration, grow_bang, grow_dash, grow_banned, grow_comment, grow_end_name, grow_end_space}
use Rattle.mb_fdt_text.proofs.TagGrowth.{grow_valued, grow_slash, grow_spaced, grow_element_name}
use Rattle.mb_fdt_text.proofs.AttributeGrowth.{grow_behind_name, grow_attribute_name, grow_behind_equals, grow_value}

-- one byte more, by the token
grow_next : (r : Reader) (bytes : List ℕ) (token : Token) (b : ℕ) → r.token ≡ token → r.at ≡ length bytes → Reads r token bytes
    → Outcome (stop_place r token) (bytes ++ b ∷ []) (next r token b)
grow_next r bytes Front b e count is = grow_front r bytes b is count e
grow_next r bytes (ByteOrderMark left) b e count is = grow_mark r bytes left b is.0 is.1
grow_next r bytes (Between start) b e count is = grow_place r bytes start b is count (between_start is.at start (sym is.token_is ∙ e))
grow_next r bytes (Opened start) b e count is = grow_opened r bytes start b is e
grow_next r bytes (Declares left) b e count is = grow_declares r bytes left b is
grow_next r bytes (Declaration question) b e count is = grow_declaration r bytes question b is
grow_next r bytes Bang b e count is = grow_bang r bytes b is
grow_next r bytes BangDash b e count is = grow_dash r bytes b is
grow_next r bytes (Banned left) b e count is = grow_banned r bytes left b is
grow_next r bytes (Comment hyphens) b e count is = grow_comment r bytes hyphens b is
grow_next r bytes (ElementName name) b e count is = grow_element_name r bytes name b is
grow_next r bytes InTag b e count is = grow_spaced r bytes b is count
grow_next r bytes (AttributeName name) b e count is = grow_attribute_name r bytes name b is
grow_next r bytes (BehindName k) b e count is = grow_behind_name r bytes k b is
grow_next r bytes (BehindEquals k) b e count is = grow_behind_equals r bytes k b is
grow_next r bytes (Value q) b e count is = grow_value r bytes q b is
grow_next r bytes BehindValue b e count is = grow_valued r bytes b is
grow_next r bytes Slash b e count is = grow_slash r bytes b is
grow_next r bytes (EndName left) b e count is = grow_end_name r bytes left b is
grow_next r bytes EndSpace b e count is = grow_end_space r bytes b is

-- one byte more
pub grow : (r : Reader) (bytes : List ℕ) (b : ℕ) → r.at ≡ length bytes → Reads r r.token bytes → Outcome (stop_place r r.token) (bytes ++ b ∷ []) (step r b)
unfolding step
grow r bytes b count is = grow_next r bytes r.token b refl count is

-- The reader stops at a byte: what it has read up to there, and the fault.
pub record Stops (bytes : List ℕ) (fault : FdtFault) : Type 0 where
  pub before : List ℕ
  pub b : ℕ
  pub rest : List ℕ
  pub whole : bytes ≡ before ++ b ∷ rest
  pub r : Reader
  pub read : steps (Ok begin) before ≡ Ok r
  pub reads : Reads r r.token before
  pub stops : step r b ≡ Err fault

-- the bytes are those of the reader's state, or the reader stops in them
abbrev pub Traced : List ℕ → Next → Type 0
Traced bytes (Ok r) = Reads r r.token bytes
Traced bytes (Err fault) = Stops bytes fault

one_byte : (r : Reader) (b : ℕ) → steps (Ok r) (b ∷ []) ≡ step r b
unfolding steps
one_byte r b = by_step (step r b)
  where
    by_step : (n : Next) → steps n [] ≡ n
    by_step (Ok s) = refl
    by_step (Err fault) = refl

-- the reader of one byte more
pub after_one : (so_far : List ℕ) (b : ℕ) (r : Reader) → steps (Ok begin) so_far ≡ Ok r → steps (Ok begin) (so_far ++ b ∷ []) ≡ step r b
after_one so_far b r e = steps-append (Ok begin) so_far (b ∷ []) ∙ ap (λ (n : Next). steps n (b ∷ [])) e ∙ one_byte r b

-- a step, and the rest of the bytes
traced_step : (so_far rest : List ℕ) (r : Reader) (b : ℕ) → steps (Ok begin) so_far ≡ Ok r → Reads r r.token so_far
    → ((s : Reader) → steps (Ok begin) (so_far ++ b ∷ []) ≡ Ok s → Reads s s.token (so_far ++ b ∷ []) → Traced (so_far ++ b ∷ rest) (steps (Ok s) rest))
    → (n : Next) → step r b ≡ n → Traced (so_far ++ b ∷ rest) (steps n rest)
unfolding steps
traced_step so_far rest r b e is later (Ok s) same =
    later s (after_one so_far b r e ∙ same) (subst (Outcome (stop_place r r.token) (so_far ++ b ∷ [])) same (grow r so_far b (counts_from_begin so_far r e) is))
traced_step so_far rest r b e is later (Err fault) same =
    record { before = so_far; b = b; rest = rest; whole = refl; r = r; read = e; reads = is; stops = same }

traced_from : (rest so_far : List ℕ) (r : Reader) → steps (Ok begin) so_far ≡ Ok r → Reads r r.token so_far → Traced (so_far ++ rest) (steps (Ok r) rest)
unfolding steps
traced_from [] so_far r e is = subst (Reads r r.token) (sym (append-nil so_far)) is
traced_from (b ∷ rest) so_far r e is =
    traced_step so_far rest r b e is
    (λ (s : Reader) (f : steps (Ok begin) (so_far ++ b ∷ []) ≡ Ok s) (i : Reads s s.token (so_far ++ b ∷ [])).
    subst (λ (l : List ℕ). Traced l (steps (Ok s) rest)) (append_assoc so_far (b ∷ []) rest) (traced_from rest (so_far ++ b ∷ []) s f i))
    (step r b) refl

-- what a reader of any bytes has read
pub traced : (bytes : List ℕ) → Traced bytes (steps (Ok begin) bytes)
unfolding steps
traced bytes = traced_from bytes [] begin refl (record { at = start_place false; reader = begin-placed.reader; token_is = refl; whole = refl })
