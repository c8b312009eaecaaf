-- The fault of bytes is found by the reader.
use Rattle.std.proofs.Common.{◌≡◌, ◌≢◌, ◌⊎◌, ℕ, ◌+◌, ◌<◌, ◌≤◌, Bool, true, cond, List, [], ◌∷◌, ◌++◌, length, take, drop, Result, Ok, Err, IsUtf8, refl, sym, ap, subst, ◌∙◌, inl, inr, arith, append_assoc, length-append, length-take-le, take_at, take_all, take-append-drop}
use Rattle.std.specs.Str.{is_utf8, IsValidUpTo}
use Rattle.std.proofs.lemmas.Str.{is_utf8-from_IsUtf8, IsUtf8-from_is_utf8, utf8_valid_len-IsValidUpTo}
use Rattle.std.proofs.lemmas.Bool.{cases_order, false_from_ne_true}
use Rattle.mb_fdt_text.specs.declared.fdt.Fdt.{Fdt}
use Rattle.mb_fdt_text.specs.declared.fdt.FdtFault.{FdtFault}
use Rattle.mb_fdt_text.specs.declared.fdt.FdtKind.{FdtKind}
use Rattle.mb_fdt_text.specs.declared.fdt.FdtKind.TheVariants.{NotUtf8, Syntax, Forbidden, Depth, NoExpires, BadExpires, RepeatedAttribute, TooManyFiles}
use Rattle.mb_fdt_text.specs.Text.{text_bytes, IsText, Text}
use Rattle.mb_fdt_text.specs.Says.{IsFdt}
use Rattle.mb_fdt_text.specs.Faults.{ShowsOther, MayGoOn, PassesBelow, IsShownFirst, IsLongestBeginning, IsSyntaxFault, IsFaultOf}
use Rattle.mb_fdt_text.specs.Reader.{begin, Next, step, steps, finish, fdt_of}
use Rattle.mb_fdt_text.specs.Laws.{FaultsAreFound}
use Rattle.mb_fdt_text.proofs.Running.{IsLate, Goes}
use Rattle.mb_fdt_text.proofs.Counting.{counts_from_begin}
use Rattle.mb_fdt_text.proofs.Invariant.{stop_place, Outcome}
use Rattle.mb_fdt_text.proofs.Growth.{Stops, Traced, traced, grow, after_one}
use Rattle.mb_fdt_text.proofs.Shown.{IsShown, fault_at}
use Rattle.mb_fdt_text.proofs.ShownTags.{shown}
use Rattle.mb_fdt_text.proofs.Prefixes.{err_longer, not_late}
use Rattle.mb_fdt_text.proofs.Texts.{no_utf8, given_is}
use Rattle.mb_fdt_text.proofs.FaultLaws.{found_is}

-- ---- what is shown first

-- a late fault is shown where the reader stops
late_shows : (bytes : List ℕ) (fault : FdtFault) → (s : Stops bytes fault) → IsLate fault.kind → ShowsOther (s.before ++ s.b ∷ []) fault.kind fault.place
late_shows bytes fault s late =
    by_outcome (subst (Outcome (stop_place s.r s.r.token) (s.before ++ s.b ∷ [])) s.stops (grow s.r s.before s.b (counts_from_begin s.before s.r s.read) s.reads))
  where
    by_outcome : Outcome (stop_place s.r s.r.token) (s.before ++ s.b ∷ []) (Err fault) → ShowsOther (s.before ++ s.b ∷ []) fault.kind fault.place
    by_outcome (inl syntax) = absurd (not_late fault.kind syntax.0 late)
    by_outcome (inr shows) = shows

-- nothing is found before what is shown first
none_before : (bytes front : List ℕ) (last found : ℕ) (fault : FdtFault) → take found bytes ≡ front ++ last ∷ [] → found ≤ length bytes → PassesBelow bytes found
    → Stops front fault → IsLate fault.kind → ⊥
none_before bytes front last found fault whole within first s late =
    let xs : List ℕ = s.before ++ s.b ∷ [] in
    let split : take found bytes ≡ xs ++ (s.rest ++ last ∷ []) =
    whole ∙ ap (λ (l : List ℕ). l ++ last ∷ []) (s.whole ∙ sym (append_assoc s.before (s.b ∷ []) s.rest)) ∙ append_assoc xs s.rest (last ∷ []) in
    let len : found ≡ length xs + length (s.rest ++ last ∷ []) = sym (length-take-le found bytes within) ∙ ap length split ∙ length-append xs (s.rest ++ last ∷ []) in
    let short : length xs < found = omega (arith, length-append s.rest (last ∷ [])) in
    let front_is : take (length xs) bytes ≡ xs =
    ap (take (length xs)) (sym (take-append-drop found bytes) ∙ ap (λ (l : List ℕ). l ++ drop found bytes) split ∙ append_assoc xs (s.rest ++ last ∷ []) (drop found bytes))
    ∙ take_at xs ((s.rest ++ last ∷ []) ++ drop found bytes) (length xs) refl in
    (first (length xs) short).1 fault.kind fault.place (subst (λ (l : List ℕ). ShowsOther l fault.kind fault.place) (sym front_is) (late_shows front fault s late))

-- what is shown first is what a reader finds
shown_first : (bytes : List ℕ) (kind : FdtKind) (place : ℕ) → IsShownFirst bytes kind place → steps (Ok begin) bytes ≡ Err (fault_at kind place)
shown_first bytes kind place is = by_step (steps (Ok begin) s.front) refl s.goes (traced s.front)
  where
    s : IsShown (take is.found bytes) kind place
    s = shown (take is.found bytes) kind place is.shows

    by_step : (n : Next) → steps (Ok begin) s.front ≡ n → Goes ⊥ (λ r. step r s.last ≡ Err (fault_at kind place)) n → Traced s.front n → steps (Ok begin) bytes ≡ Err (fault_at kind place)
    by_step (Ok r) same e trace =
        ap (steps (Ok begin)) (sym (take-append-drop is.found bytes))
        ∙ err_longer (take is.found bytes) (drop is.found bytes) (fault_at kind place) (ap (steps (Ok begin)) s.whole ∙ after_one s.front s.last r same ∙ e)
    by_step (Err fault) same late trace = absurd (none_before bytes s.front s.last is.found fault s.whole is.within is.first trace late.0)

found_utf8 : (bytes : List ℕ) (kind : FdtKind) (place : ℕ) → IsUtf8 bytes → steps (Ok begin) bytes ≡ Err (fault_at kind place) → fdt_of bytes ≡ Err (fault_at kind place)
unfolding fdt_of finish
found_utf8 bytes kind place utf8 e =
    ap (λ (b : Bool). cond b (finish (steps (Ok begin) bytes)) (no_utf8 bytes)) (is_utf8-from_IsUtf8 bytes utf8) ∙ ap finish e

-- ---- bytes that are no UTF-8

not_valid : (bytes : List ℕ) (n : ℕ) → IsValidUpTo bytes n → IsUtf8 bytes → ⊥
not_valid bytes n is utf8 = is.longest (length bytes) is.short (subst IsUtf8 (sym (take_all (length bytes) bytes (omega arith))) utf8)

found_no_utf8 : (bytes : List ℕ) (place : ℕ) → IsValidUpTo bytes place → fdt_of bytes ≡ Err (fault_at NotUtf8 place)
unfolding fdt_of
found_no_utf8 bytes place is =
    ap (λ (b : Bool). cond b (finish (steps (Ok begin) bytes)) (no_utf8 bytes))
    (false_from_ne_true (is_utf8 bytes) (λ (e : is_utf8 bytes ≡ true). not_valid bytes place is (IsUtf8-from_is_utf8 bytes e)))
    ∙ ap (fail_at) (utf8_valid_len-IsValidUpTo bytes place is)
  where
    fail_at : ℕ → Result Fdt FdtFault
    fail_at n = Err (fault_at NotUtf8 n)

-- ---- no text begins so

one_longest : (bytes : List ℕ) (n m : ℕ) → IsLongestBeginning bytes n → IsLongestBeginning bytes m → n ≡ m
one_longest bytes n m p q = elim (cases_order n m) [
  | inl same ↦ same
  | inr (inl less) ↦ absurd (p.longest m less q.within q.begins)
  | inr (inr more) ↦ absurd (q.longest n more p.within p.begins)
]

-- where no text begins so, nothing is shown first
none_shown : (bytes : List ℕ) (kind : FdtKind) (place at : ℕ) → IsSyntaxFault bytes place → IsShownFirst bytes kind at → ⊥
none_shown bytes kind place at syntax is = elim (cases_order is.found syntax.found) [
  | inl same ↦ syntax.none kind at (subst (λ (n : ℕ). ShowsOther (take n bytes) kind at) same is.shows)
  | inr (inl less) ↦ (syntax.first is.found less).1 kind at is.shows
  | inr (inr more) ↦ goes_on syntax.stops more
]
  where
    goes_on : (¬ (MayGoOn (take syntax.found bytes))) ⊎ ((syntax.found ≡ length bytes) × ((t : Text) → IsText t → bytes ≢ text_bytes t))
        → syntax.found < is.found → ⊥
    goes_on (inl stops) more = stops (is.first syntax.found more).0
    goes_on (inr ended) more = (let within = is.within in omega (arith, ended.0))

-- bytes of which no text begins so are no text
no_fdt : (bytes : List ℕ) (place : ℕ) (fdt : Fdt) → IsSyntaxFault bytes place → IsFdt bytes fdt → ⊥
no_fdt bytes place fdt syntax is = by_stops syntax.stops
  where
    by_stops : (¬ (MayGoOn (take syntax.found bytes))) ⊎ ((syntax.found ≡ length bytes) × ((t : Text) → IsText t → bytes ≢ text_bytes t)) → ⊥
    by_stops (inl stops) = stops (inl (record {
      of = is.of;
      more = drop syntax.found bytes;
      is = is.grammar;
      begins = sym is.whole ∙ sym (take-append-drop syntax.found bytes);
    }))
    by_stops (inr ended) = ended.1 is.of is.grammar is.whole

-- the one fault of bytes of which no text begins so
same_syntax : (bytes : List ℕ) (place : ℕ) (kind : FdtKind) (at : ℕ) → IsUtf8 bytes → IsSyntaxFault bytes place → IsFaultOf bytes kind at → fault_at kind at ≡ fault_at Syntax place
same_syntax bytes place NotUtf8 at utf8 syntax is = absurd (not_valid bytes at is utf8)
same_syntax bytes place Syntax at utf8 syntax is = ap (fault_at Syntax) (one_longest bytes at place is.1.place_is syntax.place_is)
same_syntax bytes place Forbidden at utf8 syntax is = absurd (none_shown bytes Forbidden place at syntax is.1)
same_syntax bytes place Depth at utf8 syntax is = absurd (none_shown bytes Depth place at syntax is.1)
same_syntax bytes place NoExpires at utf8 syntax is = absurd (none_shown bytes NoExpires place at syntax is.1)
same_syntax bytes place BadExpires at utf8 syntax is = absurd (none_shown bytes BadExpires place at syntax is.1)
same_syntax bytes place RepeatedAttribute at utf8 syntax is = absurd (none_shown bytes RepeatedAttribute place at syntax is.1)
same_syntax bytes place TooManyFiles at utf8 syntax is = absurd (none_shown bytes TooManyFiles place at syntax is.1)

found_syntax : (bytes : List ℕ) (place : ℕ) → IsUtf8 bytes → IsSyntaxFault bytes place → fdt_of bytes ≡ Err (fault_at Syntax place)
found_syntax bytes place utf8 syntax = by_result (fdt_of bytes) refl
  where
    by_result : (x : Result Fdt FdtFault) → fdt_of bytes ≡ x → fdt_of bytes ≡ Err (fault_at Syntax place)
    by_result (Ok fdt) e = absurd (no_fdt bytes place fdt syntax (given_is bytes fdt e))
    by_result (Err fault) e = e ∙ ap (λ (f : FdtFault). Err f) (same_syntax bytes place fault.kind fault.place utf8 syntax (found_is bytes fault e))

-- ---- the fault of the bytes is found

is_found_of : (bytes : List ℕ) (kind : FdtKind) (place : ℕ) → IsFaultOf bytes kind place → fdt_of bytes ≡ Err (fault_at kind place)
is_found_of bytes NotUtf8 place is = found_no_utf8 bytes place is
is_found_of bytes Syntax place is = found_syntax bytes place is.0 is.1
is_found_of bytes Forbidden place is = found_utf8 bytes Forbidden place is.0 (shown_first bytes Forbidden place is.1)
is_found_of bytes Depth place is = found_utf8 bytes Depth place is.0 (shown_first bytes Depth place is.1)
is_found_of bytes NoExpires place is = found_utf8 bytes NoExpires place is.0 (shown_first bytes NoExpires place is.1)
is_found_of bytes BadExpires place is = found_utf8 bytes BadExpires place is.0 (shown_first bytes BadExpires place is.1)
is_found_of bytes RepeatedAttribute place is = found_utf8 bytes RepeatedAttribute place is.0 (shown_first bytes RepeatedAttribute place is.1)
is_found_of bytes TooManyFiles place is = found_utf8 bytes TooManyFiles place is.0 (shown_first bytes TooManyFiles place is.1)

-- the law of faults
pub faults_found : FaultsAreFound
faults_found bytes fault = (is_found_of bytes fault.kind fault.place, found_is bytes fault)
