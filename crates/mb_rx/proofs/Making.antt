-- How parts of a run join: what is made after what was made, and what stops after that.
use Rattle.std.proofs.Common.{◌≡◌, ℕ, ◌≤◌, List, [], ◌∷◌, ◌++◌, Option, append-nil, Result, Ok, Err, refl, sym, ap, ◌∙◌, subst, append_assoc, arith}
use Rattle.mb_base.specs.Outside.{Grows, Rose}
use Rattle.mb_base.specs.Files.{File}
use Rattle.mb_base.specs.Status.{Status}
use Rattle.mb_base.specs.Status.TheVariants as status
use Rattle.mb_base.proofs.Content.{Grows-nil, Grows-trans}
use Rattle.mb_rx.specs.Run.{Event, Put, Line, Ask}
use Rattle.mb_rx.specs.Receive.{puts_in, text_in, Outputs, Makes, Stops, StopsAt, IsPutNext, IsCutLine, Does, outputs}
use Rattle.mb_program.specs.Printing as printing

pub puts_in-append : (xs ys : List Event) → puts_in (xs ++ ys) ≡ puts_in xs ++ puts_in ys
puts_in-append [] ys = refl
puts_in-append (Put file ∷ xs) ys = ap (λ files. file ∷ files) (puts_in-append xs ys)
puts_in-append (Line text ∷ xs) ys = puts_in-append xs ys
puts_in-append (Ask server request ∷ xs) ys = puts_in-append xs ys

pub text_in-append : (xs ys : List Event) → text_in (xs ++ ys) ≡ text_in xs ++ text_in ys
text_in-append [] ys = refl
text_in-append (Put file ∷ xs) ys = text_in-append xs ys
text_in-append (Line text ∷ xs) ys = ap (λ bytes. text ++ bytes) (text_in-append xs ys) ∙ sym (append_assoc text (text_in xs) (text_in ys))
text_in-append (Ask server request ∷ xs) ys = text_in-append xs ys

pub Makes-nil : (o : Outputs) → Makes o o []
Makes-nil o = record { put = Grows-nil o.files; printed = Grows-nil o.written; store_later = omega arith; sink_later = omega arith }

pub Makes-trans : (a b c : Outputs) (xs ys : List Event) → Makes a b xs → Makes b c ys → Makes a c (xs ++ ys)
Makes-trans a b c xs ys p q = record {
  put = rw puts_in-append (Grows-trans a.files b.files c.files (puts_in xs) (puts_in ys) p.put q.put);
  printed = rw text_in-append (Grows-trans a.written b.written c.written (text_in xs) (text_in ys) p.printed q.printed);
  store_later = omega arith;
  sink_later = omega arith;
}

-- a count that rose later, or before it went on
pub Rose-after : (a b c : ℕ) → a ≤ b → Rose b c → Rose a c
Rose-after a b c p q = omega arith

pub Rose-before : (a b c : ℕ) → Rose a b → b ≤ c → Rose a c
Rose-before a b c p q = omega arith

-- a status stops at the same place, seen from before
pub StopsAt-after : (reason : Status) (a b c : Outputs) (later : List Event) (cut : List ℕ)
    → a.store_faults ≤ b.store_faults → a.sink_faults ≤ b.sink_faults → StopsAt reason b c later cut → StopsAt reason a c later cut
StopsAt-after status.StoreFault a b c later cut p q s = (s.0, s.1, Rose-after a.store_faults b.store_faults c.store_faults p s.2)
StopsAt-after status.OutFault a b c later cut p q s = (s.0, Rose-after a.sink_faults b.sink_faults c.sink_faults q s.1)
StopsAt-after status.Memory a b c later cut p q s = s
StopsAt-after _ a b c later cut p q s = absurd s

-- more events behind a stop change nothing
IsPutNext-more : (later more : List Event) → IsPutNext later → IsPutNext (later ++ more)
IsPutNext-more [] more s = absurd s
IsPutNext-more (Put file ∷ later) more s = s
IsPutNext-more (Line text ∷ later) more s = absurd s
IsPutNext-more (Ask server request ∷ later) more s = absurd s

IsCutLine-more : (later more : List Event) (cut : List ℕ) → IsCutLine later cut → IsCutLine (later ++ more) cut
IsCutLine-more [] more cut s = absurd s
IsCutLine-more (Put file ∷ later) more cut s = absurd s
IsCutLine-more (Line text ∷ later) more cut s = s
IsCutLine-more (Ask server request ∷ later) more cut s = absurd s

pub StopsAt-more : (reason : Status) (a b : Outputs) (later more : List Event) (cut : List ℕ)
    → StopsAt reason a b later cut → StopsAt reason a b (later ++ more) cut
StopsAt-more status.StoreFault a b later more cut s = (IsPutNext-more later more s.0, s.1, s.2)
StopsAt-more status.OutFault a b later more cut s = (IsCutLine-more later more cut s.0, s.1)
StopsAt-more status.Memory a b later more cut s = s
StopsAt-more _ a b later more cut s = absurd s

pub Stops-more : (reason : Status) (a b : Outputs) (xs ys : List Event) → Stops reason a b xs → Stops reason a b (xs ++ ys)
Stops-more reason a b xs ys s = record {
  made = s.made;
  later = s.later ++ ys;
  cut = s.cut;
  split = ap (λ events. events ++ ys) s.split ∙ append_assoc s.made s.later ys;
  stop = StopsAt-more reason a b s.later ys s.cut s.stop;
  put = s.put;
  printed = s.printed;
  store_later = s.store_later;
  sink_later = s.sink_later;
}

pub Stops-after : (reason : Status) (a b c : Outputs) (xs ys : List Event) → Makes a b xs → Stops reason b c ys → Stops reason a c (xs ++ ys)
Stops-after reason a b c xs ys m s = record {
  made = xs ++ s.made;
  later = s.later;
  cut = s.cut;
  split = ap (λ events. xs ++ events) s.split ∙ sym (append_assoc xs s.made s.later);
  stop = StopsAt-after reason a b c s.later s.cut m.store_later m.sink_later s.stop;
  put = rw puts_in-append (Grows-trans a.files b.files c.files (puts_in xs) (puts_in s.made) m.put s.put);
  printed = rw (text_in-append, append_assoc) (Grows-trans a.written b.written c.written (text_in xs) (text_in s.made ++ s.cut) m.printed s.printed);
  store_later = omega arith;
  sink_later = omega arith;
}

-- want of memory before any event
pub Stops-memory : (a : Outputs) (xs : List Event) → Stops status.Memory a a xs
Stops-memory a xs = record {
  made = [];
  later = xs;
  cut = [];
  split = refl;
  stop = refl;
  put = Grows-nil a.files;
  printed = Grows-nil a.written;
  store_later = omega arith;
  sink_later = omega arith;
}

-- a part does what comes behind what was made
pub Does-after : {A : Type 0} (a b c : Outputs) (xs ys : List Event) (result : Result A Status)
    → Makes a b xs → Does b c ys result → Does a c (xs ++ ys) result
Does-after a b c xs ys (Ok x) m d = Makes-trans a b c xs ys m d
Does-after a b c xs ys (Err reason) m d = Stops-after reason a b c xs ys m d

-- what a result that stopped says, at the exit that hands it on
pub Does-stopped : {A : Type 0} (reason answer : Status) (a b : Outputs) (events : List Event) (result : Result A Status)
    → result ≡ Err answer → answer ≡ reason → Stops reason a b events → Does a b events result
Does-stopped reason answer a b events result r e s =
    subst (λ (x : Result _ Status). Does a b events x) (sym r) (subst (λ (x : Status). Stops x a b events) (sym e) s)

-- the same events, or the same line, under another name
pub Does-events : {A : Type 0} (a b : Outputs) (xs ys : List Event) (result : Result A Status) → xs ≡ ys → Does a b xs result → Does a b ys result
Does-events a b xs ys result e d = subst (λ (es : List Event). Does a b es result) e d

pub Does-line : {A : Type 0} (a b : Outputs) (text line : List ℕ) (result : Result A Status) → text ≡ line
    → Does a b (Line text ∷ []) result → Does a b (Line line ∷ []) result
Does-line a b text line result e d = subst (λ (bytes : List ℕ). Does a b (Line bytes ∷ []) result) e d

-- what a line that is printed, or cut, leaves
pub Does-printed : (files : Option (List File)) (faults : ℕ) (text : List ℕ) (old new : Option (List ℕ)) (before after : ℕ) (result : Result (Unit {0}) Status)
    → printing.Prints text old new result → printing.CountsFaults status.OutFault before after result
    → Does (outputs files faults old before) (outputs files faults new after) (Line text ∷ []) result
Does-printed files faults text old new before after (Ok x) printed cause = record {
  put = Grows-nil files;
  printed = subst (λ (t : List ℕ). Grows old new t) (sym (append-nil text)) printed;
  store_later = omega arith;
  sink_later = cause.later;
}
Does-printed files faults text old new before after (Err status.OutFault) printed cause = record {
  made = [];
  later = Line text ∷ [];
  cut = printed.printed;
  split = refl;
  stop = ((printed.rest, printed.split), cause.failed refl);
  put = Grows-nil files;
  printed = printed.grown;
  store_later = omega arith;
  sink_later = cause.later;
}
Does-printed files faults text old new before after (Err _) printed cause = absurd printed
