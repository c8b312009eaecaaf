-- Where a reader stops without a text, the longest front that begins one ends where it says.
use Rattle.std.proofs.Common.{◌≡◌, ◌⊎◌, ℕ, ◌+◌, ◌-◌, ◌<◌, ◌≤◌, List, [], ◌∷◌, ◌++◌, length, take, codes, Ok, Err, refl, sym, ap, ap₂, subst, ◌∙◌, inl, inr, arith, append_assoc, append-nil, length-append, take_at}
use Rattle.std.proofs.Math.Seq.{take-append-add}
use Rattle.mb_fdt_text.specs.declared.fdt.FdtFault.{FdtFault}
use Rattle.mb_fdt_text.specs.declared.fdt.FdtKind.TheVariants.{Syntax}
use Rattle.mb_fdt_text.specs.Text.{IsBeginning}
use Rattle.mb_fdt_text.specs.Faults.{Place, bytes_before, IsPlace, IsLongestBeginning}
use Rattle.mb_fdt_text.specs.Reader.{Reader, Token, begin, Next, next, steps, go}
use Rattle.mb_fdt_text.specs.Reader.Token.{Bang, Banned}
use Rattle.mb_fdt_text.proofs.Running.{Goes}
use Rattle.mb_fdt_text.proofs.Counting.{counts_from_begin}
use Rattle.mb_fdt_text.proofs.Comments.{lacks-none}
use Rattle.mb_fdt_text.proofs.Invariant.{Reads, ReadsBanned, stop_place}
use Rattle.mb_fdt_text.proofs.Beginnings.{begins_shorter, comment_begins}
use Rattle.mb_fdt_text.proofs.GoingOn.{IsNoWord, reads_begin, word_or}
use Rattle.mb_fdt_text.proofs.Shown.{IsBanned, banned_begins}
use Rattle.mb_fdt_text.proofs.Prefixes.{ok_shorter, stops_text, banned_text}

-- ---- fronts by their length

-- a longer front of the bytes goes on from a shorter one
pub front_more : (bytes xs ys : List ℕ) (m : ℕ) → bytes ≡ xs ++ ys → length xs ≤ m → take m bytes ≡ xs ++ take (m - length xs) ys
front_more bytes xs ys m whole le =
    let n : m ≡ length xs + (m - length xs) = omega arith in
    ap₂ take n whole ∙ take-append-add xs ys (m - length xs)

-- bytes up to n begin a text, and no more of them do
pub longest_at : (bytes xs ys : List ℕ) (n : ℕ) → bytes ≡ xs ++ ys → n ≡ length xs → IsBeginning xs
    → ((zs : List ℕ) (m : ℕ) → length xs < m → m ≤ length bytes → take m bytes ≡ xs ++ zs → IsBeginning (take m bytes) → ⊥) → IsLongestBeginning bytes n
longest_at bytes xs ys n whole at begins none = record {
  within = omega (arith, ap length whole, length-append xs ys);
  begins = subst IsBeginning (sym (ap₂ take at whole ∙ take_at xs ys (length xs) refl)) begins;
  longest = λ m above within is. none (take (m - length xs) ys) m (omega arith) within (front_more bytes xs ys m whole (omega arith)) is;
}

-- ---- outside of forbidden words

-- the reader has stopped at a byte
pub stopped_longest : (bytes before rest : List ℕ) (b n : ℕ) (r : Reader) (fault : FdtFault) → bytes ≡ before ++ b ∷ rest → steps (Ok begin) (before ++ b ∷ []) ≡ Err fault → fault.kind ≡ Syntax
    → n ≡ length before → IsBeginning before → IsLongestBeginning bytes n
stopped_longest bytes before rest b n r fault whole e syntax at begins =
    longest_at bytes before (b ∷ rest) n whole at begins
    (λ zs m above within same is.
    (let whole2 : bytes ≡ (before ++ b ∷ []) ++ rest = whole ∙ sym (append_assoc before (b ∷ []) rest) in
    let len = length-append before (b ∷ []) in
    let front = front_more bytes (before ++ b ∷ []) rest m whole2 (omega arith) in
    stops_text (before ++ b ∷ []) fault e syntax (begins_shorter (before ++ b ∷ []) (take (m - length (before ++ b ∷ [])) rest) (subst IsBeginning front is))))

-- the reader has come to the end
pub ended_longest : (bytes : List ℕ) (n : ℕ) → n ≡ length bytes → IsBeginning bytes → IsLongestBeginning bytes n
ended_longest bytes n at begins =
    longest_at bytes bytes [] n (sym (append-nil bytes)) at begins (λ zs m above within same is. omega arith)

-- ---- in a forbidden word

-- the byte behind `<!` of a forbidden word
first_letter : (word tail : List ℕ) (c : ℕ) → (word ≡ codes "<![CDATA[") ⊎ (word ≡ codes "<!DOCTYPE") → codes "<!" ++ c ∷ tail ≡ word
    → (left : List ℕ) × ((r : Reader) → next r Bang c ≡ go r (Banned left))
first_letter word tail c (inl cdata) e =
    let first : c ≡ 91 = (let same : 60 ∷ 33 ∷ c ∷ tail ≡ codes "<![CDATA[" = e ∙ cdata in cc) in
    (codes "CDATA[", λ r. ap (next r Bang) first)
first_letter word tail c (inr doctype) e =
    let first : c ≡ 68 = (let same : 60 ∷ 33 ∷ c ∷ tail ≡ codes "<!DOCTYPE" = e ∙ doctype in cc) in
    (codes "OCTYPE", λ r. ap (next r Bang) first)

banned_token : (n : Next) (r : Reader) (left : List ℕ) (markup : ℕ) → n ≡ Ok r → Goes ⊥ (λ s. IsBanned s left markup) n → r.token ≡ Banned left
banned_token (Ok s) r left markup e is = ap (λ (t : Reader). t.token) (let same : r ≡ s = cc in same) ∙ is.token_is
banned_token (Err fault) r left markup e is = absurd cc

-- behind `<!` and a letter of a forbidden word no text goes on
no_letter : (bytes before rest : List ℕ) (r : Reader) (at : Place) (so_far left word : List ℕ) → IsPlace at → bytes ≡ before ++ rest → steps (Ok begin) before ≡ Ok r → r.token ≡ Banned left
    → (word ≡ codes "<![CDATA[") ⊎ (word ≡ codes "<!DOCTYPE") → codes "<!" ++ (so_far ++ left) ≡ word → before ≡ bytes_before at ++ (codes "<!" ++ so_far)
    → (m : ℕ) → length (bytes_before at ++ codes "<!") < m → m ≤ length bytes → IsBeginning (take m bytes) → ⊥
no_letter bytes before rest r at [] left word place whole e token forbidden spelled is m above within begins =
    let front = front_more bytes before rest m whole (omega (arith, ap length is)) in
    banned_text before (take (m - length before) rest) r left e token (subst IsBeginning front begins)
no_letter bytes before rest r at (c ∷ tail) left word place whole e token forbidden spelled is m above within begins =
    let three : List ℕ = bytes_before at ++ 60 ∷ 33 ∷ c ∷ [] in
    let split : before ≡ three ++ tail = is ∙ sym (append_assoc (bytes_before at) (60 ∷ 33 ∷ c ∷ []) tail) in
    let first = ok_shorter three tail r (ap (steps (Ok begin)) (sym split) ∙ e) in
    let letter = first_letter word (tail ++ left) c forbidden spelled in
    let banned = banned_token (steps (Ok begin) three) first.0 letter.0 (length (bytes_before at)) first.1 (banned_begins at place c letter.0 letter.1) in
    let whole2 : bytes ≡ three ++ (tail ++ rest) = whole ∙ ap (λ (l : List ℕ). l ++ rest) split ∙ append_assoc three tail rest in
    let front = front_more bytes three (tail ++ rest) m whole2 (omega (arith, length-append (bytes_before at) (60 ∷ 33 ∷ c ∷ []), length-append (bytes_before at) (codes "<!"))) in
    banned_text three (take (m - length three) (tail ++ rest)) first.0 letter.0 first.1 banned (subst IsBeginning front begins)

-- the reader is in a forbidden word
pub banned_longest : (bytes before rest : List ℕ) (r : Reader) (left : List ℕ) (n : ℕ) → bytes ≡ before ++ rest → steps (Ok begin) before ≡ Ok r → r.token ≡ Banned left
    → ReadsBanned r before left → n ≡ r.markup + 2 → IsLongestBeginning bytes n
banned_longest bytes before rest r left n whole e token is at =
    longest_at bytes (bytes_before is.at ++ codes "<!") (is.so_far ++ rest) n
    (whole ∙ ap (λ (l : List ℕ). l ++ rest) is.whole ∙ parts (bytes_before is.at) (codes "<!") is.so_far rest)
    (at ∙ ap (λ (k : ℕ). k + 2) is.markup_is ∙ sym (length-append (bytes_before is.at) (codes "<!")))
    (comment_begins is.at [] (codes "<!") (codes "---->") is.reader.place (lacks-none (codes "-->") (omega arith)) refl)
    (λ zs m above within same begins. no_letter bytes before rest r is.at is.so_far left is.word is.reader.place whole e token is.forbidden is.rest is.whole m above within begins)
  where
    parts : (p a s z : List ℕ) → (p ++ (a ++ s)) ++ z ≡ (p ++ a) ++ (s ++ z)
    parts p a s z = simp append_assoc

-- outside of forbidden words the reader stops where it is
pub stop_is : (r : Reader) (token : Token) → IsNoWord token → stop_place r token ≡ r.at
stop_is r (Banned left) other = absurd other
stop_is r token other = refl

-- Where the reader stops at a byte, the longest front that begins a text ends where it says.
pub stop_longest : (bytes before rest : List ℕ) (b : ℕ) (r : Reader) (fault : FdtFault) → bytes ≡ before ++ b ∷ rest → steps (Ok begin) before ≡ Ok r → Reads r r.token before
    → steps (Ok begin) (before ++ b ∷ []) ≡ Err fault → fault.kind ≡ Syntax → IsLongestBeginning bytes (stop_place r r.token)
stop_longest bytes before rest b r fault whole e is stops syntax = elim (word_or r.token) [
  | inl word ↦
      subst (λ (t : Token). IsLongestBeginning bytes (stop_place r t)) (sym word.1)
      (banned_longest bytes before (b ∷ rest) r word.0 (r.markup + 2) whole e word.1 (subst (λ (t : Token). Reads r t before) word.1 is) refl)
  | inr other ↦
      stopped_longest bytes before rest b (stop_place r r.token) r fault whole stops syntax (stop_is r r.token other ∙ counts_from_begin before r e) (reads_begin r r.token before other is)
]
