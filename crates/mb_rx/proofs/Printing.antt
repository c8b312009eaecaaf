-- How parts that only print join, and the lines of lives.
use Rattle.std.proofs.Common.{◌≡◌, ℕ, ◌+◌, ◌<◌, ◌&&◌, ◌==◌, not, Bool, true, false, cond, List, [], ◌∷◌, ◌++◌, length, take, drop, get_or, Option, Some, Result, Ok, Err, IsErrAnd, map, filter, flat_map, refl, sym, ap, ◌∙◌, subst, append_assoc, append-nil, arith}
use Rattle.std.proofs.lemmas.List.{take-append-drop, take_more}
use Rattle.std.proofs.lemmas.List.Concat.{flat_map-append}
use Rattle.std.proofs.lemmas.Bool.Decides.{nat_tests}
use Rattle.std.specs.List.{list_all}
use Rattle.mb_base.specs.Files.{File}
use Rattle.mb_base.specs.Status.{Status}
use Rattle.mb_base.specs.Status.TheVariants as status
use Rattle.mb_rx.specs.Lines as line
use Rattle.mb_life.specs.Life.{Life, missing}
use Rattle.mb_machine.specs.declared.happened.Happened.{Happened}
use Rattle.mb_rx.specs.Run.{Event, Line, happened_events, packet_events, count_line, expired_line, incomplete_lines}
use Rattle.mb_rx.specs.Receive.{Makes, Stops, outputs}
use Rattle.mb_rx.specs.Steps.{Prints}
use Rattle.mb_rx.proofs.Making.{Stops-more, Stops-memory, Does-after}

-- want of memory before any event
pub Prints-memory : {A : Type 0} (old : Option (List ℕ)) (before : ℕ) (events : List Event) (result : Result A Status)
    → IsErrAnd result (λ e. e ≡ status.Memory) → Prints old before old before events result
Prints-memory old before events (Ok x) is = absurd is
Prints-memory old before events (Err e) is = λ files faults.
    subst (λ reason. Stops reason (outputs files faults old before) (outputs files faults old before) events) (sym is)
    (Stops-memory (outputs files faults old before) events)

-- a part that stops, with more events behind it
pub Prints-stop : {A : Type 0} (old : Option (List ℕ)) (before : ℕ) (new : Option (List ℕ)) (after : ℕ) (xs ys : List Event) (reason : Status) (result : Result A Status)
    → IsErrAnd result (λ e. e ≡ reason)
    → ((files : Option (List File)) (faults : ℕ) → Stops reason (outputs files faults old before) (outputs files faults new after) xs)
    → Prints old before new after (xs ++ ys) result
Prints-stop old before new after xs ys reason (Ok x) is p = absurd is
Prints-stop old before new after xs ys reason (Err e) is p = λ files faults.
    subst (λ r. Stops r (outputs files faults old before) (outputs files faults new after) (xs ++ ys)) (sym is)
    (Stops-more reason (outputs files faults old before) (outputs files faults new after) xs ys (p files faults))

-- a part behind one that was made
pub Prints-then : {A : Type 0} (old : Option (List ℕ)) (before : ℕ) (mid : Option (List ℕ)) (between : ℕ) (new : Option (List ℕ)) (after : ℕ)
    (xs ys : List Event) (result : Result A Status)
    → ((files : Option (List File)) (faults : ℕ) → Makes (outputs files faults old before) (outputs files faults mid between) xs)
    → Prints mid between new after ys result → Prints old before new after (xs ++ ys) result
Prints-then old before mid between new after xs ys result p q = λ files faults.
    Does-after (outputs files faults old before) (outputs files faults mid between) (outputs files faults new after) xs ys result
    (p files faults) (q files faults)

-- the same events, told in another way
pub Prints-same : {A : Type 0} (old : Option (List ℕ)) (before : ℕ) (new : Option (List ℕ)) (after : ℕ) (xs ys : List Event) (result : Result A Status)
    → xs ≡ ys → Prints old before new after xs result → Prints old before new after ys result
Prints-same old before new after xs ys result same p = subst (λ events. Prints old before new after events result) same p

not_zero : (n : ℕ) → (n ≡ 0 → ⊥) → (n == 0) ≡ false
not_zero n some = grind (arith, nat_tests)

pub count_line-some : (word : List ℕ) (n : ℕ) → (n ≡ 0 → ⊥) → count_line word n ≡ Line (line.dropped word n) ∷ []
count_line-some word n some = ap (λ b. cond b [] (Line (line.dropped word n) ∷ [])) (not_zero n some)

-- the lines of counts up to one, and its own
pub flat_map-more : {K : Type 0} (f : K → List Event) (ks : List K) (i : ℕ) (d : K) → i < length ks
    → flat_map f (take (i + 1) ks) ≡ flat_map f (take i ks) ++ f (get_or ks i d)
flat_map-more f ks i d below =
    ap (flat_map f) (take_more ks i d below) ∙ (flat_map-append f (take i ks) (get_or ks i d ∷ [])
    ∙ ap (λ x. flat_map f (take i ks) ++ x) (append-nil (f (get_or ks i d))))

-- and the lines of the counts behind it
pub flat_map-at : {K : Type 0} (f : K → List Event) (ks : List K) (i : ℕ) (d : K) → i < length ks
    → flat_map f (take i ks) ++ (f (get_or ks i d) ++ flat_map f (drop (i + 1) ks)) ≡ flat_map f ks
flat_map-at f ks i d below =
    sym (append_assoc (flat_map f (take i ks)) (f (get_or ks i d)) (flat_map f (drop (i + 1) ks)))
    ∙ (ap (λ x. x ++ flat_map f (drop (i + 1) ks)) (sym (flat_map-more f ks i d below))
    ∙ (sym (flat_map-append f (take (i + 1) ks) (drop (i + 1) ks)) ∙ ap (flat_map f) (take-append-drop (i + 1) ks)))

-- a part that stops, told in another way
pub Stops-same : (reason : Status) (old : Option (List ℕ)) (before : ℕ) (new : Option (List ℕ)) (after : ℕ) (xs ys : List Event) → xs ≡ ys
    → ((files : Option (List File)) (faults : ℕ) → Stops reason (outputs files faults old before) (outputs files faults new after) xs)
    → (files : Option (List File)) (faults : ℕ) → Stops reason (outputs files faults old before) (outputs files faults new after) ys
Stops-same reason old before new after xs ys same p files faults =
    subst (λ (events : List Event). Stops reason (outputs files faults old before) (outputs files faults new after) events) same (p files faults)

-- The line of what a packet did.

pub packet_line : (given : Option Happened) (x of : Happened) → given ≡ Some x → x ≡ of → happened_events of ≡ packet_events given
packet_line given x of is same = sym (ap packet_events is ∙ ap happened_events same)

-- The line of the lives that ended.

pub expired_line-some : (n : ℕ) → (n ≡ 0 → ⊥) → expired_line n ≡ Line (line.expired n) ∷ []
expired_line-some n some = ap (λ b. cond b [] (Line (line.expired n) ∷ [])) (not_zero n some)

-- The lines of lives.

pub incomplete_lines-one : (life : Life) → life.done ≡ false → incomplete_lines (life ∷ []) ≡ Line (line.incomplete life.toi (missing life)) ∷ []
incomplete_lines-one life is = ap (λ b. map (λ (l : Life). Line (line.incomplete l.toi (missing l))) (cond (not b) (life ∷ []) [])) is

pub incomplete_lines-append : (xs ys : List Life) → incomplete_lines (xs ++ ys) ≡ incomplete_lines xs ++ incomplete_lines ys
incomplete_lines-append [] ys = refl
incomplete_lines-append (x ∷ xs) ys =
    let text : Life → Event = λ life. Line (line.incomplete life.toi (missing life)) in
    let open_of : List Life → List Life = filter (λ life. not life.done) in
    elim (not x.done) as (λ b. map text (cond b (x ∷ open_of (xs ++ ys)) (open_of (xs ++ ys))) ≡ map text (cond b (x ∷ open_of xs) (open_of xs)) ++ incomplete_lines ys)
    [ true ↦ ap (λ events. text x ∷ events) (incomplete_lines-append xs ys) | false ↦ incomplete_lines-append xs ys ]

list_all-append : {A : Type 0} (test : A → Bool) (xs ys : List A) → list_all test (xs ++ ys) ≡ (list_all test xs && list_all test ys)
list_all-append test [] ys = refl
list_all-append test (x ∷ xs) ys =
    elim (test x) as (λ b. (b && list_all test (xs ++ ys)) ≡ ((b && list_all test xs) && list_all test ys))
    [ true ↦ list_all-append test xs ys | false ↦ refl ]

and-true : (b : Bool) → (b && true) ≡ b
and-true true = refl
and-true false = refl

-- the lives up to one, and it
take_life : (lives : List Life) (i : ℕ) (life : Life) → i < length lives → life ≡ get_or lives i life → take (i + 1) lives ≡ take i lives ++ (life ∷ [])
take_life lives i life below at = take_more lives i life below ∙ ap (λ (l : Life). take i lives ++ (l ∷ [])) (sym at)

pub incomplete_lines-more : (lives : List Life) (i : ℕ) (life : Life) → i < length lives → life ≡ get_or lives i life
    → incomplete_lines (take (i + 1) lives) ≡ incomplete_lines (take i lives) ++ incomplete_lines (life ∷ [])
incomplete_lines-more lives i life below at =
    ap (λ (ls : List Life). incomplete_lines ls) (take_life lives i life below at) ∙ incomplete_lines-append (take i lives) (life ∷ [])

-- the lines of the lives up to one, its line, and the lines of those behind it
pub incomplete_lines-at : (lives : List Life) (i : ℕ) (life : Life) → i < length lives → life ≡ get_or lives i life
    → incomplete_lines (take i lives) ++ (incomplete_lines (life ∷ []) ++ incomplete_lines (drop (i + 1) lives)) ≡ incomplete_lines lives
incomplete_lines-at lives i life below at =
    sym (append_assoc (incomplete_lines (take i lives)) (incomplete_lines (life ∷ [])) (incomplete_lines (drop (i + 1) lives)))
    ∙ (ap (λ events. events ++ incomplete_lines (drop (i + 1) lives)) (sym (incomplete_lines-more lives i life below at))
    ∙ (sym (incomplete_lines-append (take (i + 1) lives) (drop (i + 1) lives))
    ∙ ap (λ (ls : List Life). incomplete_lines ls) (take-append-drop (i + 1) lives)))

pub all_done-more : (lives : List Life) (i : ℕ) (life : Life) → i < length lives → life ≡ get_or lives i life
    → list_all (λ (l : Life). l.done) (take (i + 1) lives) ≡ (list_all (λ (l : Life). l.done) (take i lives) && life.done)
all_done-more lives i life below at =
    let done : Life → Bool = λ l. l.done in
    ap (list_all done) (take_life lives i life below at)
    ∙ (list_all-append done (take i lives) (life ∷ []) ∙ ap (λ b. list_all done (take i lives) && b) (and-true life.done))
