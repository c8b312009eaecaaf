-- Fronts of bytes that a reader goes over: what they begin and what they show.
use Rattle.std.proofs.Common.{◌≡◌, ◌⊎◌, ℕ, suc, ◌+◌, ◌≤◌, Bool, true, false, cond, ◌==◌, List, [], ◌∷◌, ◌++◌, length, take, drop, Ok, Err, refl, sym, ap, subst, ◌∙◌, inl, inr, arith, append_assoc, take-append-drop}
use Rattle.std.proofs.lemmas.List.{take-append-le}
use Rattle.mb_fdt_text.specs.declared.fdt.FdtFault.{FdtFault}
use Rattle.mb_fdt_text.specs.declared.fdt.FdtKind.{FdtKind}
use Rattle.mb_fdt_text.specs.declared.fdt.FdtKind.TheVariants.{Syntax, Forbidden}
use Rattle.mb_fdt_text.specs.Text.{text_bytes, IsBeginning}
use Rattle.mb_fdt_text.specs.Faults.{Place, ShowsNoOther, MayGoOn, PassesBelow}
use Rattle.mb_fdt_text.specs.Faults.Place.{Behind}
use Rattle.mb_fdt_text.specs.Reader.{Reader, begin, Next, step, steps, fail, word, banned_left}
use Rattle.mb_fdt_text.specs.Reader.Token.{Between, Banned}
use Rattle.mb_fdt_text.proofs.Running.{IsLate, Goes, steps-append, step-is}
use Rattle.mb_fdt_text.proofs.States.{token_at, IsPlaced}
use Rattle.mb_fdt_text.proofs.Invariant.{Reads}
use Rattle.mb_fdt_text.proofs.Growth.{Traced, traced, after_one}
use Rattle.mb_fdt_text.proofs.GoingOn.{reads_go_on}
use Rattle.mb_fdt_text.proofs.Shown.{IsShown, fault_at, reaches, forbidden_shown}
use Rattle.mb_fdt_text.proofs.ShownTags.{shown}

-- ---- runs over more bytes

-- no bytes follow a fault
pub stopped : (fault : FdtFault) (ys : List ℕ) → steps (Err fault) ys ≡ Err fault
unfolding steps
stopped fault ys = refl

-- a fault stays, whatever follows
pub err_longer : (xs ys : List ℕ) (fault : FdtFault) → steps (Ok begin) xs ≡ Err fault → steps (Ok begin) (xs ++ ys) ≡ Err fault
err_longer xs ys fault e = steps-append (Ok begin) xs ys ∙ ap (λ (n : Next). steps n ys) e ∙ stopped fault ys

-- a front of what is read is read
pub ok_shorter : (xs ys : List ℕ) (r : Reader) → steps (Ok begin) (xs ++ ys) ≡ Ok r → (s : Reader) × (steps (Ok begin) xs ≡ Ok s)
ok_shorter xs ys r e = by_step (steps (Ok begin) xs) refl
  where
    by_step : (n : Next) → steps (Ok begin) xs ≡ n → (s : Reader) × (steps (Ok begin) xs ≡ Ok s)
    by_step (Ok s) same = (s, same)
    by_step (Err fault) same = absurd (let f : Err fault ≡ Ok r = sym (err_longer xs ys fault same) ∙ e in cc)

-- what a reader has read is what its state says
pub reads_of : (xs : List ℕ) (r : Reader) → steps (Ok begin) xs ≡ Ok r → Reads r r.token xs
reads_of xs r e = subst (Traced xs) e (traced xs)

-- ---- what is shown is a fault

-- the fault of bytes that show one: this, or a late fault before
pub record IsFaulty (bytes : List ℕ) (kind : FdtKind) (place : ℕ) : Type 0 where
  pub fault : FdtFault
  pub found : steps (Ok begin) bytes ≡ Err fault
  pub which : IsLate fault.kind ⊎ (fault ≡ fault_at kind place)

-- bytes that show a fault are read to a fault
pub faulty : (bytes : List ℕ) (kind : FdtKind) (place : ℕ) → IsShown bytes kind place → IsFaulty bytes kind place
faulty bytes kind place is = by_step (steps (Ok begin) is.front) refl is.goes
  where
    by_step : (n : Next) → steps (Ok begin) is.front ≡ n → Goes ⊥ (λ r. step r is.last ≡ Err (fault_at kind place)) n → IsFaulty bytes kind place
    by_step (Ok r) same e = record {
      fault = fault_at kind place;
      found = ap (steps (Ok begin)) is.whole ∙ after_one is.front is.last r same ∙ e;
      which = inr refl;
    }
    by_step (Err fault) same late = record {
      fault = fault;
      found = ap (steps (Ok begin)) is.whole ∙ err_longer is.front (is.last ∷ []) fault same;
      which = inl late.0;
    }

-- bytes that are read show nothing, and may go on
pub passes : (xs : List ℕ) (r : Reader) → steps (Ok begin) xs ≡ Ok r → MayGoOn xs × ShowsNoOther xs
passes xs r e = (
  reads_go_on r r.token xs (reads_of xs r e),
  λ kind place shows.
      (let is = faulty xs kind place (shown xs kind place shows) in let both : Err is.fault ≡ Ok r = sym is.found ∙ e in cc),
)

-- the fronts of bytes of which some front is read
pub passes_below : (bytes before rest : List ℕ) (r : Reader) (n : ℕ) → bytes ≡ before ++ rest → steps (Ok begin) before ≡ Ok r → n ≤ suc (length before) → PassesBelow bytes n
passes_below bytes before rest r n whole e most m below =
    let front : take m bytes ≡ take m before = ap (take m) whole ∙ take-append-le m before rest (omega arith) in
    let first = ok_shorter (take m before) (drop m before) r (ap (steps (Ok begin)) (take-append-drop m before) ∙ e) in
    subst (λ (l : List ℕ). MayGoOn l × ShowsNoOther l) (sym front) (passes (take m before) first.0 first.1)

-- ---- what begins no text

late_of : (W : Type 0) (P : Reader → Type 0) (n : Next) (fault : FdtFault) → n ≡ Err fault → Goes W P n → IsLate fault.kind
late_of W P (Ok r) fault e p = absurd cc
late_of W P (Err found) fault e p = subst (λ (f : FdtFault). IsLate f.kind) (let same : found ≡ fault = cc in same) p.0

-- a fault of the grammar is no late one
pub not_late : (kind : FdtKind) → kind ≡ Syntax → IsLate kind → ⊥
not_late kind e late = subst IsLate e late

-- no text begins so where a reader has stopped
pub stops_text : (xs : List ℕ) (fault : FdtFault) → steps (Ok begin) xs ≡ Err fault → fault.kind ≡ Syntax → IsBeginning xs → ⊥
stops_text xs fault e syntax is =
    let t = is.of in
    not_late fault.kind syntax
    (late_of ⊥ (λ s. IsPlaced s (Behind t.prolog t.root t.misc)) (steps (Ok begin) (text_bytes t)) fault
    (ap (steps (Ok begin)) is.begins ∙ err_longer xs is.more fault e)
    (reaches (Behind t.prolog t.root t.misc) (is.is.prolog, is.is.root, is.is.misc)))

not_forbidden : (kind : FdtKind) → kind ≡ Syntax → kind ≡ Forbidden → ⊥
not_forbidden kind e f = absurd (let g : Syntax ≡ Forbidden = sym e ∙ f in cc)

-- nor does a forbidden word
pub stops_all : (xs : List ℕ) (fault : FdtFault) → steps (Ok begin) xs ≡ Err fault → fault.kind ≡ Syntax → MayGoOn xs → ⊥
stops_all xs fault e syntax (inl begins) = stops_text xs fault e syntax begins
stops_all xs fault e syntax (inr word) =
    let is = faulty (xs ++ word.0) Forbidden word.1 (forbidden_shown (xs ++ word.0) word.1 word.2) in
    let same : is.fault ≡ fault = (let both : Err is.fault ≡ Err fault = sym is.found ∙ err_longer xs word.0 fault e in cc) in
    by_which is.fault same is.which
  where
    by_which : (f : FdtFault) → f ≡ fault → IsLate f.kind ⊎ (f ≡ fault_at Forbidden word.1) → ⊥
    by_which f same (inl late) = not_late f.kind (ap (λ (g : FdtFault). g.kind) same ∙ syntax) late
    by_which f same (inr is) = not_forbidden fault.kind syntax (ap (λ (g : FdtFault). g.kind) (sym same ∙ is))

-- ---- in a forbidden word

abbrev StillBanned : Next → Type 0
StillBanned (Ok r) = (left : List ℕ) × (r.token ≡ Banned left)
StillBanned (Err fault) = (fault.kind ≡ Syntax) ⊎ (fault.kind ≡ Forbidden)

still_left : (r : Reader) (left : List ℕ) → StillBanned (banned_left r left)
still_left r [] = inr refl
still_left r (c ∷ left) = (c ∷ left, refl)

still_word : (r : Reader) (left : List ℕ) (b : ℕ) → StillBanned (word (fail Syntax (r.markup + 2)) (banned_left r) left b)
still_word r [] b = inl refl
still_word r (c ∷ left) b = by_test (b == c)
  where
    by_test : (t : Bool) → StillBanned (cond t (banned_left r left) (fail Syntax (r.markup + 2)))
    by_test true = still_left r left
    by_test false = inl refl

-- a forbidden word that is begun goes on as one, or is a fault
banned_stays : (ys : List ℕ) (n : Next) → StillBanned n → StillBanned (steps n ys)
unfolding steps
banned_stays [] (Ok r) is = is
banned_stays (b ∷ ys) (Ok r) is = banned_stays ys (step r b) (subst StillBanned (sym (step-is r (Banned is.0) b is.1)) (still_word r is.0 b))
banned_stays ys (Err fault) is = is

no_end : (n : Next) → StillBanned n → (at : Place) → Goes ⊥ (λ s. IsPlaced s at) n → token_at at ≡ Between false → ⊥
no_end (Ok r) is at goes token = absurd (let e : Banned is.0 ≡ Between false = sym is.1 ∙ goes.token_is ∙ token in cc)
no_end (Err fault) (inl e) at goes token = not_late fault.kind e goes.0
no_end (Err fault) (inr e) at goes token = subst IsLate e goes.0

-- no text goes on from a forbidden word
pub banned_text : (xs ys : List ℕ) (r : Reader) (left : List ℕ) → steps (Ok begin) xs ≡ Ok r → r.token ≡ Banned left → IsBeginning (xs ++ ys) → ⊥
banned_text xs ys r left e token is =
    let t = is.of in
    let at : Place = Behind t.prolog t.root t.misc in
    let whole : text_bytes t ≡ xs ++ (ys ++ is.more) = is.begins ∙ append_assoc xs ys is.more in
    no_end (steps (Ok begin) (text_bytes t))
    (subst StillBanned (sym (ap (steps (Ok begin)) whole ∙ steps-append (Ok begin) xs (ys ++ is.more))) (banned_stays (ys ++ is.more) (steps (Ok begin) xs) (subst StillBanned (sym e) (left, token))))
    at (reaches at (is.is.prolog, is.is.root, is.is.misc)) refl
