-- The reader counts the bytes: `at` is how many came before.
use Rattle.std.proofs.Common.{◌≡◌, ℕ, ◌+◌, Bool, true, false, cond, not, ◌&&◌, ◌||◌, ◌==◌, nat_le, List, [], ◌∷◌, length, Option, Some, None, is_some, option_and_then, bytes_eq, codes, Ok, Err, refl, sym, ap, ◌∙◌, arith}
use Rattle.std.specs.Prelude.{⊤}
use Rattle.mb_fdt_text.specs.declared.fdt.FdtKind.TheVariants.{Syntax}
use Rattle.mb_xml.specs.Name.{is_space, is_name_start, is_name_byte, local_part}
use Rattle.mb_xml.specs.Reference.{Inside, referred_further}
use Rattle.mb_xml.specs.Reference.Inside.{Plain, Named, Numbered, Digits}
use Rattle.mb_fdt_text.specs.Known.{is_file, read_names}
use Rattle.mb_xml.specs.Value.{expires_of}
use Rattle.mb_fdt_text.specs.Reader.{Reader, Token, Next, Quoted, Slot, begin, next, step, steps, fail, syntax, between, in_content, before_root, opened, bang, mark_left, word, banned_left, in_tag, tag_end, leave, with_expires, root_value, no_slots, named, equals, slot, slot_of, names_read, referring, value, end_space}
use Rattle.mb_fdt_text.specs.Reader.Token.{Front, ByteOrderMark, Between, Opened, Declares, Declaration, Bang, BangDash, Banned, Comment, ElementName, InTag, AttributeName, BehindName, BehindEquals, Value, BehindValue, Slash, EndName, EndSpace}

-- so many bytes came before
abbrev pub Counts : ℕ → Next → Type 0
Counts n (Ok r) = r.at ≡ n
Counts n (Err fault) = ⊤

-- both outcomes of a test
either : (n : ℕ) (b : Bool) (x y : Next) → Counts n x → Counts n y → Counts n (cond b x y)
either n true x y p q = p
either n false x y p q = q

between_counts : (r : Reader) (start : Bool) (b : ℕ) → Counts (r.at + 1) (between r start b)
between_counts r start b = either _ (b == 60) _ _ refl (either _ (in_content r || is_space b) _ _ refl tt)

opened_counts : (r : Reader) (start : Bool) (b : ℕ) → Counts (r.at + 1) (opened r start b)
opened_counts r start b =
    either _ (b == 63) _ _ (either _ start _ _ refl tt)
    (either _ (b == 33) _ _ refl
    (either _ ((b == 47) && in_content r) _ _ refl
    (either _ (is_name_start b && (in_content r || before_root r)) _ _ (either _ (nat_le 16 (length r.path)) _ _ tt refl) tt)))

bang_counts : (r : Reader) (b : ℕ) → Counts (r.at + 1) (bang r b)
bang_counts r b = either _ (b == 45) _ _ refl (either _ (b == 91) _ _ refl (either _ (b == 68) _ _ refl tt))

mark_counts : (r : Reader) (left : List ℕ) → Counts (r.at + 1) (mark_left r left)
mark_counts r [] = refl
mark_counts r (c ∷ left) = refl

banned_counts : (r : Reader) (left : List ℕ) → Counts (r.at + 1) (banned_left r left)
banned_counts r [] = tt
banned_counts r (c ∷ left) = refl

word_counts : (n : ℕ) (other : Next) (then_left : List ℕ → Next) (left : List ℕ) (b : ℕ) → Counts n other → ((left : List ℕ) → Counts n (then_left left)) → Counts n (word other then_left left b)
word_counts n other then_left [] b p f = p
word_counts n other then_left (c ∷ left) b p f = either n (b == c) _ _ (f left) p

expires_counts : (r : Reader) (empty : Bool) (value : Option (List ℕ)) (number : Option ℕ) → Counts (r.at + 1) (with_expires r empty value number)
expires_counts r empty None number = tt
expires_counts r empty (Some value) None = tt
expires_counts r empty (Some value) (Some expires) = refl

leave_if : (test : Bool) (x y : Reader) (n : ℕ) (empty : Bool) → Counts n (leave x empty) → Counts n (leave y empty) → Counts n (leave (cond test x y) empty)
leave_if true x y n empty p q = p
leave_if false x y n empty p q = q

tag_end_counts : (r : Reader) (empty : Bool) (path : List (List ℕ)) → Counts (r.at + 1) (tag_end r empty path)
tag_end_counts r empty [] = expires_counts r empty (root_value r.slots (codes "Expires")) (option_and_then expires_of (root_value r.slots (codes "Expires")))
tag_end_counts r empty (root ∷ []) = leave_if (is_file r.name) _ r (r.at + 1) empty refl refl
tag_end_counts r empty (parent ∷ outer ∷ others) = refl

in_tag_counts : (r : Reader) (b : ℕ) → Counts (r.at + 1) (in_tag r b)
in_tag_counts r b =
    either _ (is_space b) _ _ refl (either _ (b == 47) _ _ refl (either _ (b == 62) _ _ (tag_end_counts r false r.path) tt))

named_counts : (r : Reader) (name : List ℕ) (b : ℕ) → Counts (r.at + 1) (named r name b)
named_counts r name b =
    either _ ((length r.path == 0) && not (bytes_eq (local_part name) (codes "FDT-Instance"))) _ _ tt
    (either _ ((length r.path == 1) && is_file name && nat_le 1024 (length r.files)) _ _ tt
    (in_tag_counts (record r { name = name; slots = no_slots (read_names (length r.path) name) }) b))

equals_counts : (r : Reader) (k : Slot) (b : ℕ) → Counts (r.at + 1) (equals r k b)
equals_counts r k b = either _ (is_space b) _ _ refl (either _ (b == 61) _ _ refl tt)

referring_counts : (r : Reader) (q : Quoted) (b : ℕ) (inside : Option Inside) → Counts (r.at + 1) (referring r q b inside)
referring_counts r q b None = tt
referring_counts r q b (Some inside) = refl

value_counts : (r : Reader) (q : Quoted) (inside : Inside) (b : ℕ) → Counts (r.at + 1) (value r q inside b)
value_counts r q Plain b =
    either _ (b == q.quote) _ _ refl (either _ (b == 60) _ _ tt (either _ ((b == 38) && is_some q.slot) _ _ refl refl))
value_counts r q (Named so_far) b = referring_counts r q b (referred_further (Named so_far) b)
value_counts r q Numbered b = referring_counts r q b (referred_further Numbered b)
value_counts r q (Digits radix number) b = referring_counts r q b (referred_further (Digits radix number) b)

end_space_counts : (r : Reader) (b : ℕ) → Counts (r.at + 1) (end_space r b)
end_space_counts r b = either _ (is_space b) _ _ refl (either _ (b == 62) _ _ refl tt)

-- each byte is counted
pub next_counts : (r : Reader) (token : Token) (b : ℕ) → Counts (r.at + 1) (next r token b)
next_counts r Front b = either _ (b == 0xef) _ _ refl (between_counts r true b)
next_counts r (ByteOrderMark left) b = word_counts _ (syntax r) (mark_left r) left b tt (mark_counts r)
next_counts r (Between start) b = between_counts r start b
next_counts r (Opened start) b = opened_counts r start b
next_counts r (Declares []) b = either _ (is_space b) _ _ refl tt
next_counts r (Declares (c ∷ left)) b = either _ (b == c) _ _ refl tt
next_counts r (Declaration question) b = either _ (question && (b == 62)) _ _ refl refl
next_counts r Bang b = bang_counts r b
next_counts r BangDash b = either _ (b == 45) _ _ refl tt
next_counts r (Banned left) b = word_counts _ (fail Syntax (r.markup + 2)) (banned_left r) left b tt (banned_counts r)
next_counts r (Comment hyphens) b = either _ ((hyphens == 2) && (b == 62)) _ _ refl refl
next_counts r (ElementName name) b = either _ (is_name_byte b) _ _ refl (named_counts r name b)
next_counts r InTag b = either _ (is_name_start b) _ _ refl (in_tag_counts r b)
next_counts r (AttributeName name) b =
    either _ (is_name_byte b) _ _ refl
    (either _ (is_some (option_and_then (slot r.slots) (slot_of (names_read r) name))) _ _ tt (equals_counts r (slot_of (names_read r) name) b))
next_counts r (BehindName k) b = equals_counts r k b
next_counts r (BehindEquals k) b =
    either _ (is_space b) _ _ refl (either _ ((b == 34) || (b == 39)) _ _ refl tt)
next_counts r (Value q) b = value_counts r q q.inside b
next_counts r BehindValue b = in_tag_counts r b
next_counts r Slash b = either _ (b == 62) _ _ (tag_end_counts r true r.path) tt
next_counts r (EndName []) b = end_space_counts r b
next_counts r (EndName (c ∷ left)) b = either _ (b == c) _ _ refl tt
next_counts r EndSpace b = end_space_counts r b

steps_count_from : (n m : ℕ) (x : Next) (bytes : List ℕ) → Counts n x → n + length bytes ≡ m → Counts m (steps x bytes)
unfolding steps step
steps_count_from n m (Err fault) bytes p e = tt
steps_count_from n m (Ok r) [] p e = p ∙ omega arith
steps_count_from n m (Ok r) (b ∷ bytes) p e =
    steps_count_from (r.at + 1) m (step r b) bytes (next_counts r r.token b) (omega arith)

-- all bytes are counted
pub steps_count : (r : Reader) (bytes : List ℕ) → Counts (r.at + length bytes) (steps (Ok r) bytes)
steps_count r bytes = steps_count_from r.at (r.at + length bytes) (Ok r) bytes refl refl

counts_at : (n : ℕ) (x : Next) (r : Reader) → x ≡ Ok r → Counts n x → r.at ≡ n
counts_at n (Ok s) r e p = ap (λ (t : Reader). t.at) (sym same) ∙ p
  where
    same : s ≡ r
    same = cc
counts_at n (Err fault) r e p = absurd cc

-- from the beginning on
pub counts_from_begin : (bytes : List ℕ) (r : Reader) → steps (Ok begin) bytes ≡ Ok r → r.at ≡ length bytes
counts_from_begin bytes r e = counts_at (0 + length bytes) (steps (Ok begin) bytes) r e (steps_count begin bytes) ∙ omega arith
