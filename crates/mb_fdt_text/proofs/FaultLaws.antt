-- Bytes have a fault exactly where the reader finds it.
use Rattle.std.proofs.Common.{◌≡◌, ◌⊎◌, ℕ, suc, ◌+◌, ◌≤◌, Bool, true, false, cond, List, [], ◌∷◌, ◌++◌, length, take, Option, Some, Result, Ok, Err, IsUtf8, refl, sym, ap, subst, ◌∙◌, inl, inr, arith, append_assoc, append-nil, length-append, take_at, take_all}
use Rattle.std.specs.Str.{is_utf8}
use Rattle.std.specs.Str.Lossy.{utf8_valid_len}
use Rattle.std.proofs.lemmas.Str.{IsUtf8-from_is_utf8}
use Rattle.mb_fdt_text.specs.declared.fdt.Fdt.{Fdt}
use Rattle.mb_fdt_text.specs.declared.fdt.FdtFault.{FdtFault}
use Rattle.mb_fdt_text.specs.declared.fdt.FdtKind.{FdtKind}
use Rattle.mb_fdt_text.specs.declared.fdt.FdtKind.TheVariants.{NotUtf8, Syntax, Forbidden, Depth, NoExpires, BadExpires, RepeatedAttribute, TooManyFiles}
use Rattle.mb_fdt_text.specs.Text.{Text, text_bytes, IsText}
use Rattle.mb_fdt_text.specs.Says.{said_in}
use Rattle.mb_fdt_text.specs.Faults.{Place, ShowsOther, ShowsNoOther, MayGoOn, PassesBelow, IsShownFirst, IsLongestBeginning, IsSyntaxFault, IsFaultOf, IsFault}
use Rattle.mb_fdt_text.specs.Faults.Place.{Behind}
use Rattle.mb_fdt_text.specs.Reader.{Reader, Token, RootSays, begin, Next, steps, end_of, finish, fdt_of}
use Rattle.mb_fdt_text.specs.Reader.Token.{Between, Banned}
use Rattle.mb_fdt_text.proofs.Running.{IsLate, Goes}
use Rattle.mb_fdt_text.proofs.Counting.{counts_from_begin}
use Rattle.mb_fdt_text.proofs.States.{IsPlaced}
use Rattle.mb_fdt_text.proofs.Invariant.{Reads, stop_place, Outcome}
use Rattle.mb_fdt_text.proofs.Growth.{Stops, Traced, traced, grow, after_one}
use Rattle.mb_fdt_text.proofs.GoingOn.{reads_begin, word_or}
use Rattle.mb_fdt_text.proofs.Shown.{fault_at, reaches}
use Rattle.mb_fdt_text.proofs.ShownTags.{shown}
use Rattle.mb_fdt_text.proofs.Prefixes.{faulty, passes, passes_below, not_late, stops_all}
use Rattle.mb_fdt_text.proofs.Stopping.{ended_longest, banned_longest, stop_longest, stop_is}
use Rattle.mb_fdt_text.proofs.Utf8Lemmas.{valid_up_to}
use Rattle.mb_fdt_text.proofs.Texts.{no_utf8, ends_behind}

-- ---- what is found first

not_syntax : (bytes : List ℕ) (kind : FdtKind) (place : ℕ) → kind ≡ Syntax → ShowsOther bytes kind place → ⊥
not_syntax bytes kind place e shows = subst (λ (k : FdtKind). ShowsOther bytes k place) e shows

-- the fault of some kind, from what shows it first
of_kind : (bytes xs : List ℕ) (kind : FdtKind) (place : ℕ) → IsUtf8 bytes → ShowsOther xs kind place → IsShownFirst bytes kind place → IsFaultOf bytes kind place
of_kind bytes xs NotUtf8 place utf8 shows is = absurd shows
of_kind bytes xs Syntax place utf8 shows is = absurd shows
of_kind bytes xs Forbidden place utf8 shows is = (utf8, is)
of_kind bytes xs Depth place utf8 shows is = (utf8, is)
of_kind bytes xs NoExpires place utf8 shows is = (utf8, is)
of_kind bytes xs BadExpires place utf8 shows is = (utf8, is)
of_kind bytes xs RepeatedAttribute place utf8 shows is = (utf8, is)
of_kind bytes xs TooManyFiles place utf8 shows is = (utf8, is)

-- bytes at which a reader stops as no text goes on show nothing
pub stops_show : (xs : List ℕ) (fault : FdtFault) → steps (Ok begin) xs ≡ Err fault → fault.kind ≡ Syntax → ShowsNoOther xs
stops_show xs fault e syntax kind place shows =
    let is = faulty xs kind place (shown xs kind place shows) in
    let same : is.fault ≡ fault = (let both : Err is.fault ≡ Err fault = sym is.found ∙ e in cc) in
    by_which is.fault same is.which
  where
    by_which : (f : FdtFault) → f ≡ fault → IsLate f.kind ⊎ (f ≡ fault_at kind place) → ⊥
    by_which f same (inl late) = not_late f.kind (ap (λ (g : FdtFault). g.kind) same ∙ syntax) late
    by_which f same (inr is) = not_syntax xs kind place (ap (λ (g : FdtFault). g.kind) (sym is ∙ same) ∙ syntax) shows

module _ (bytes : List ℕ) (fault : FdtFault) (utf8 : IsUtf8 bytes) (s : Stops bytes fault) where
  one_more_found : steps (Ok begin) (s.before ++ s.b ∷ []) ≡ Err fault
  one_more_found = after_one s.before s.b s.r s.read ∙ s.stops

  front : take (suc (length s.before)) bytes ≡ s.before ++ s.b ∷ []
  front =
      ap (take (suc (length s.before))) (s.whole ∙ sym (append_assoc s.before (s.b ∷ []) s.rest))
      ∙ take_at (s.before ++ s.b ∷ []) s.rest (suc (length s.before)) (length-append s.before (s.b ∷ []) ∙ omega arith)

  within : suc (length s.before) ≤ length bytes
  within = omega (arith, ap length s.whole, length-append s.before (s.b ∷ s.rest))

  below : PassesBelow bytes (suc (length s.before))
  below = passes_below bytes s.before (s.b ∷ s.rest) s.r (suc (length s.before)) s.whole s.read (omega arith)

  stop_outcome : Outcome (stop_place s.r s.r.token) (s.before ++ s.b ∷ []) (Err fault) → IsFault bytes fault
  stop_outcome (inl syntax) =
      let is : IsSyntaxFault bytes fault.place = record {
        found = suc (length s.before);
        within = within;
        first = below;
        none = subst ShowsNoOther (sym front) (stops_show (s.before ++ s.b ∷ []) fault one_more_found syntax.0);
        stops = inl (λ (may : MayGoOn (take (suc (length s.before)) bytes)). stops_all (s.before ++ s.b ∷ []) fault one_more_found syntax.0 (subst MayGoOn front may));
        place_is = subst (IsLongestBeginning bytes) (sym syntax.1) (stop_longest bytes s.before s.rest s.b s.r fault s.whole s.read s.reads one_more_found syntax.0);
      } in
      subst (λ (k : FdtKind). IsFaultOf bytes k fault.place) (sym syntax.0) (utf8, is)
  stop_outcome (inr shows) = of_kind bytes (s.before ++ s.b ∷ []) fault.kind fault.place utf8 shows (record {
    found = suc (length s.before);
    within = within;
    shows = subst (λ (l : List ℕ). ShowsOther l fault.kind fault.place) (sym front) shows;
    first = below;
  })

  -- the reader stops at a byte
  pub stop_found : IsFault bytes fault
  stop_found = stop_outcome (subst (Outcome (stop_place s.r s.r.token) (s.before ++ s.b ∷ [])) s.stops (grow s.r s.before s.b (counts_from_begin s.before s.r s.read) s.reads))

-- ---- the end of the bytes

abbrev Ended : Type 0
Ended = Result Fdt FdtFault

fault_is : (fault : FdtFault) (place : ℕ) (x : Ended) → x ≡ Err (fault_at Syntax place) → x ≡ Err fault → (fault.kind ≡ Syntax) × (fault.place ≡ place)
fault_is fault place x e f =
    let same : fault ≡ fault_at Syntax place = cc in
    (ap (λ (g : FdtFault). g.kind) same, ap (λ (g : FdtFault). g.place) same)

-- where bytes end that are no text
end_fault : (r : Reader) (token : Token) (path : List (List ℕ)) (root : Option RootSays) (fault : FdtFault) → end_of r token path root ≡ Err fault
    → (fault.kind ≡ Syntax) × (fault.place ≡ stop_place r token)
end_fault r (Between start) [] (Some said) fault e = absurd cc
end_fault r (Banned left) path root fault e = fault_is fault (r.markup + 2) (end_of r (Banned left) path root) refl e
end_fault r token path root fault e = fault_is fault r.at (end_of r token path root) refl e

no_text : (bytes : List ℕ) (r : Reader) (fault : FdtFault) → steps (Ok begin) bytes ≡ Ok r → finish (Ok r) ≡ Err fault → (t : Text) → IsText t → bytes ≡ text_bytes t → ⊥
no_text bytes r fault e ended t grammar whole =
    let at : Place = Behind t.prolog t.root t.misc in
    placed (subst (Goes ⊥ (λ s. IsPlaced s at)) (ap (steps (Ok begin)) (sym whole) ∙ e) (reaches at (grammar.prolog, grammar.root, grammar.misc)))
  where
    placed : IsPlaced r (Behind t.prolog t.root t.misc) → ⊥
    placed is = let both : Ok (said_in t) ≡ Err fault = sym (ends_behind r t.prolog t.root t.misc is.token_is is.reader) ∙ ended in cc

end_longest : (bytes : List ℕ) (r : Reader) → steps (Ok begin) bytes ≡ Ok r → Reads r r.token bytes → IsLongestBeginning bytes (stop_place r r.token)
end_longest bytes r e is = elim (word_or r.token) [
  | inl word ↦
      subst (λ (t : Token). IsLongestBeginning bytes (stop_place r t)) (sym word.1)
      (banned_longest bytes bytes [] r word.0 (r.markup + 2) (sym (append-nil bytes)) e word.1 (subst (λ (t : Token). Reads r t bytes) word.1 is) refl)
  | inr other ↦ ended_longest bytes (stop_place r r.token) (stop_is r r.token other ∙ counts_from_begin bytes r e) (reads_begin r r.token bytes other is)
]

end_found : (bytes : List ℕ) (fault : FdtFault) (r : Reader) → IsUtf8 bytes → steps (Ok begin) bytes ≡ Ok r → Reads r r.token bytes → finish (Ok r) ≡ Err fault → IsFault bytes fault
unfolding finish
end_found bytes fault r utf8 e is ended =
    let parts = end_fault r r.token r.path r.root fault ended in
    let whole : take (length bytes) bytes ≡ bytes = take_all (length bytes) bytes (omega arith) in
    let syntax : IsSyntaxFault bytes fault.place = record {
      found = length bytes;
      within = omega arith;
      first = passes_below bytes bytes [] r (length bytes) (sym (append-nil bytes)) e (omega arith);
      none = subst ShowsNoOther (sym whole) (passes bytes r e).1;
      stops = inr (refl, no_text bytes r fault e ended);
      place_is = subst (IsLongestBeginning bytes) (sym parts.1) (end_longest bytes r e is);
    } in
    subst (λ (k : FdtKind). IsFaultOf bytes k fault.place) (sym parts.0) (utf8, syntax)

-- ---- what the reader finds is the fault of the bytes

found_by : (bytes : List ℕ) (fault : FdtFault) (n : Next) → IsUtf8 bytes → steps (Ok begin) bytes ≡ n → Traced bytes n → finish n ≡ Err fault → IsFault bytes fault
unfolding finish
found_by bytes fault (Ok r) utf8 e is ended = end_found bytes fault r utf8 e is ended
found_by bytes fault (Err f) utf8 e is ended =
    let same : f ≡ fault = cc in stop_found bytes fault utf8 (subst (Stops bytes) same is)

-- what the reader finds is the fault of the bytes
pub found_is : (bytes : List ℕ) (fault : FdtFault) → fdt_of bytes ≡ Err fault → IsFault bytes fault
unfolding fdt_of
found_is bytes fault e = by_test (is_utf8 bytes) refl
  where
    by_test : (t : Bool) → is_utf8 bytes ≡ t → IsFault bytes fault
    by_test true utf8 = found_by bytes fault (steps (Ok begin) bytes) (IsUtf8-from_is_utf8 bytes utf8) refl (traced bytes)
        (sym (ap (λ (b : Bool). cond b (finish (steps (Ok begin) bytes)) (no_utf8 bytes)) utf8) ∙ e)
    by_test false other =
        let both : no_utf8 bytes ≡ Err fault = sym (ap (λ (b : Bool). cond b (finish (steps (Ok begin) bytes)) (no_utf8 bytes)) other) ∙ e in
        let same : fault_at NotUtf8 (utf8_valid_len bytes) ≡ fault = cc in
        subst (IsFault bytes) same (valid_up_to bytes other)
