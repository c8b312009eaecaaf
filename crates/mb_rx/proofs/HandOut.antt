-- How ready lives are handed out, one after another.
use Rattle.std.proofs.Common.{◌≡◌, ℕ, suc, ◌<◌, Bool, true, false, cond, List, [], ◌∷◌, ◌++◌, length, filter, find, flat_map, Option, Some, None, option_map, unwrap_or, Result, Ok, Err, refl, sym, ap, ◌∙◌, subst, append_assoc, arith}
use Rattle.std.proofs.lemmas.Option.{same_Some}
use Rattle.mb_base.specs.Status.{Status}
use Rattle.mb_base.specs.Status.TheVariants as status
use Rattle.mb_life.specs.Life.{Life, is_ready, hand_out}
use Rattle.mb_life.specs.Taking.{IsTaken}
use Rattle.mb_life.specs.declared.taken.Taken.{Taken}
use Rattle.mb_life.specs.declared.taken.Taken.TheVariants as taken
use Rattle.mb_machine.specs.Table.{Table, life_of, change_life}
use Rattle.mb_machine.specs.Laws.{IsFirstReady, with_hand_outs}
use Rattle.mb_machine.proofs.HandOutLemmas.{found_passes, leaves_others, flat_map-ready, length-ready, none_ready}
use Rattle.mb_objects.specs.Takes.{if_ready, ready_life, TakesOut, Takes}
use Rattle.mb_objects.specs.declared.table.TakeFault.{TakeFault}
use Rattle.mb_objects.specs.declared.table.TakeFault.TheVariants as fault
use Rattle.mb_rx.specs.Lines as line
use Rattle.mb_rx.specs.Run.{Event, Put, Line, put_events, damaged_events, taken_events, hand_out_events}
use Rattle.mb_rx.specs.Receive.{Outputs, Makes, Stops, Does}
use Rattle.mb_rx.specs.Taking.{HandsOneOut}
use Rattle.mb_rx.proofs.Making.{Makes-nil, Makes-trans, Stops-more, Stops-after, Stops-memory, Does-after}

-- The events of one life.

-- a file that is put, and its line
pub stored-events : (life : Life) (toi : ℕ) (location bytes text : List ℕ) → life.toi ≡ toi → IsTaken life (taken.File location bytes)
    → text ≡ line.stored toi (length bytes) location
    → (Put (record { toi = toi; location = location; bytes = bytes }) ∷ []) ++ (Line text ∷ []) ≡ taken_events life
stored-events life toi location bytes text own is shown =
    rw (shown, sym own, is.1, is.2) refl ∙ sym (ap (λ b. cond b (damaged_events life) (put_events life)) is.0)

-- a file of which the store, memory or the sink gives no more: its parts are those that were taken
pub stored-unput : (life : Life) (toi : ℕ) (location bytes at put : List ℕ) (given : Taken) (reason : Status) (a b : Outputs)
    → given ≡ taken.File location bytes → life.toi ≡ toi → IsTaken life given → at ≡ location → put ≡ bytes
    → Stops reason a b (Put (record { toi = toi; location = at; bytes = put }) ∷ []) → Stops reason a b (taken_events life)
stored-unput life toi location bytes at put given reason a b of own is l p s =
    let file : IsTaken life (taken.File at put) = rw (l, p) (subst (λ (t : Taken). IsTaken life t) of is) in
    subst (λ (es : List Event). Stops reason a b es) (stored-events life toi at put _ own file refl) (Stops-more reason a b _ _ s)

pub stored-unprinted : (life : Life) (toi : ℕ) (location bytes at put : List ℕ) (given : Taken) (a b : Outputs)
    → given ≡ taken.File location bytes → life.toi ≡ toi → IsTaken life given → at ≡ location → put ≡ bytes
    → Makes a b (Put (record { toi = toi; location = at; bytes = put }) ∷ []) → Stops status.Memory a b (taken_events life)
stored-unprinted life toi location bytes at put given a b of own is l p m =
    let file : IsTaken life (taken.File at put) = rw (l, p) (subst (λ (t : Taken). IsTaken life t) of is) in
    subst (λ (es : List Event). Stops status.Memory a b es) (stored-events life toi at put _ own file refl) (Stops-after status.Memory a b b _ _ m (Stops-memory b _))

pub stored-printed : {A : Type 0} (life : Life) (toi : ℕ) (location bytes at put : List ℕ) (given : Taken) (text : List ℕ) (a b c : Outputs) (result : Result A Status)
    → given ≡ taken.File location bytes → life.toi ≡ toi → IsTaken life given → at ≡ location → put ≡ bytes → text ≡ line.stored toi (length put) at
    → Makes a b (Put (record { toi = toi; location = at; bytes = put }) ∷ []) → Does b c (Line text ∷ []) result → Does a c (taken_events life) result
stored-printed life toi location bytes at put given text a b c result of own is l p shown m d =
    let file : IsTaken life (taken.File at put) = rw (l, p) (subst (λ (t : Taken). IsTaken life t) of is) in
    subst (λ (es : List Event). Does a c es result) (stored-events life toi at put text own file shown) (Does-after a b c _ _ result m d)

-- the line of a damaged one
pub damaged-events : (life : Life) (toi : ℕ) (given found text : List ℕ) → life.toi ≡ toi → IsTaken life (taken.Damaged given found)
    → text ≡ line.damaged toi given found → Line text ∷ [] ≡ taken_events life
damaged-events life toi given found text own is shown =
    let stated : List ℕ = unwrap_or life.desc.md5 [] in
    ap (λ (bytes : List ℕ). Line bytes ∷ []) (shown ∙ (ap (λ n. line.damaged n given found) (sym own)
    ∙ (ap (λ (d : List ℕ). line.damaged life.toi d found) (sym (ap (λ (d : Option (List ℕ)). unwrap_or d []) is.1)) ∙ ap (line.damaged life.toi stated) is.2)))
    ∙ sym (ap (λ b. cond b (damaged_events life) (put_events life)) is.0)

-- The first ready life.

-- the life of the TOI is the first that is ready
pub record IsFirstOf (lives : List Life) (toi : ℕ) : Type 0 where
  pub life : Life
  pub own : life.toi ≡ toi
  pub first : IsFirstReady lives life

pub first_of : (lives : List Life) (toi : ℕ) (found : Option Life) → find is_ready lives ≡ found → Some toi ≡ option_map (λ (life : Life). life.toi) found
    → ((life : Life) → find is_ready lives ≡ Some life → IsFirstReady lives life) → IsFirstOf lives toi
first_of lives toi None is named firsts = absurd cc
first_of lives toi (Some life) is named firsts = record { life = life; own = sym (same_Some toi life.toi named); first = firsts life is }

-- it is the one that is ready by its TOI
pub ready_of : (t : Table) (toi : ℕ) (f : IsFirstOf t.lives toi) → ready_life toi t ≡ Some f.life
ready_of t toi f =
    let found : life_of toi t.lives ≡ Some f.life = subst (λ (n : ℕ). life_of n t.lives ≡ Some f.life) f.own f.first.own in
    ap if_ready found ∙ ap (λ b. cond b (Some f.life) None) (found_passes is_ready t.lives f.life f.first.first)

-- what taking it gives, and leaves
pub taken_of : (old new : Table) (toi : ℕ) (given : Taken) (f : IsFirstOf old.lives toi) → TakesOut toi old new given
    → IsTaken f.life given × (new ≡ record old { lives = change_life f.life.toi hand_out old.lives })
taken_of old new toi given f t =
    let same : t.life ≡ f.life = same_Some t.life f.life (sym t.was ∙ ready_of old toi f) in
    (subst (λ (l : Life). IsTaken l given) same t.gives, t.left ∙ ap (λ n. record old { lives = change_life n hand_out old.lives }) (sym f.own))

-- so taking it doesn't answer that no life of the TOI is ready
pub not_unready : (old new : Table) (toi : ℕ) (why : TakeFault) → IsFirstOf old.lives toi → why ≡ fault.NotReady → Takes toi old new (Err why) → ⊥
not_unready old new toi why f is takes =
    let none : Takes toi old new (Err fault.NotReady) = subst (λ (x : TakeFault). Takes toi old new (Err x)) is takes in
    let some = ready_of old toi f in
    let neither : Some f.life ≡ None = sym some ∙ none.0 in
    absurd cc

-- a status stopped its events
pub one_stopped : (old new : Table) (x y : Outputs) (toi : ℕ) (f : IsFirstOf old.lives toi) (reason answer : Status) (result : Result Bool Status)
    → result ≡ Err answer → answer ≡ reason → Stops reason x y (taken_events f.life) → HandsOneOut old new x y result
one_stopped old new x y toi f reason answer result r e s =
    subst (λ (z : Result Bool Status). HandsOneOut old new x y z) (sym (r ∙ ap Err e)) (f.life, f.first, s)

-- One after another.

-- what was made so far, and what is left to be made
pub record IsHandedSoFar (old new : Table) (before after : Outputs) : Type 0 where
  pub made : List Event
  pub makes : Makes before after made
  pub left : hand_out_events old.lives ≡ made ++ hand_out_events new.lives
  pub same : with_hand_outs new ≡ with_hand_outs old

pub so_far-none : (t : Table) (o : Outputs) → IsHandedSoFar t t o o
so_far-none t o = record { made = []; makes = Makes-nil o; left = refl; same = refl }

pub so_far-next : (a b c : Table) (x y z : Outputs) → IsHandedSoFar a b x y → HandsOneOut b c y z (Ok true) → IsHandedSoFar a c x z
so_far-next a b c x y z s h =
    let life = h.0 in
    let now = h.1 in
    let lives = change_life life.toi hand_out b.lives in
    let rest : hand_out_events b.lives ≡ taken_events life ++ hand_out_events c.lives
    = flat_map-ready taken_events b.lives life now.first ∙ ap (λ (t : Table). taken_events life ++ hand_out_events t.lives) (sym now.left) in
    record {
      made = s.made ++ taken_events life;
      makes = Makes-trans x y z s.made (taken_events life) s.makes h.2;
      left = s.left ∙ (ap (λ (es : List Event). s.made ++ es) rest ∙ sym (append_assoc s.made (taken_events life) (hand_out_events c.lives)));
      same = ap with_hand_outs now.left ∙ (ap (λ (ls : List Life). record b { lives = ls }) (leaves_others b.lives life now.first).after ∙ s.same);
    }

-- fewer are ready
pub fewer : (b c : Table) (y z : Outputs) → HandsOneOut b c y z (Ok true) → length (filter is_ready c.lives) < length (filter is_ready b.lives)
fewer b c y z h =
    let less : length (filter is_ready b.lives) ≡ suc (length (filter is_ready c.lives))
    = length-ready b.lives h.0 h.1.first ∙ ap (λ (t : Table). suc (length (filter is_ready t.lives))) (sym h.1.left) in
    omega (arith, less)

-- none is ready any more
pub all_handed : (a b c : Table) (x y z : Outputs) → IsHandedSoFar a b x y → HandsOneOut b c y z (Ok false)
    → (c ≡ with_hand_outs a) × Makes x z (hand_out_events a.lives)
all_handed a b c x y z s h =
    let none = none_ready b.lives h.0 in
    let nothing : hand_out_events b.lives ≡ [] = ap (flat_map taken_events) none.0 in (
      h.1 ∙ (ap (λ (ls : List Life). record b { lives = ls }) (sym none.1) ∙ s.same),
      subst (λ (es : List Event). Makes x z es) (sym (s.left ∙ ap (λ (es : List Event). s.made ++ es) nothing)) (Makes-trans x y z s.made [] s.makes h.2),
    )

-- a status stopped the events of a life
pub stopped : (a b c : Table) (x y z : Outputs) (reason : Status) → IsHandedSoFar a b x y → HandsOneOut b c y z (Err reason)
    → Stops reason x z (hand_out_events a.lives)
stopped a b c x y z reason s h =
    let life = h.0 in
    let rest : hand_out_events b.lives ≡ taken_events life ++ hand_out_events (change_life life.toi hand_out b.lives) = flat_map-ready taken_events b.lives life h.1 in
    subst (λ (es : List Event). Stops reason x z es) (sym (s.left ∙ ap (λ (es : List Event). s.made ++ es) rest))
    (Stops-after reason x y z s.made _ s.makes (Stops-more reason y z (taken_events life) _ h.2))

-- what the answer of handing one out tells
pub was_one : (b c : Table) (y z : Outputs) (more : Bool) → more ≡ true → HandsOneOut b c y z (Ok more) → HandsOneOut b c y z (Ok true)
was_one b c y z more is h = subst (λ (m : Bool). HandsOneOut b c y z (Ok m)) is h

pub was_none : (b c : Table) (y z : Outputs) (more : Bool) → more ≡ false → HandsOneOut b c y z (Ok more) → HandsOneOut b c y z (Ok false)
was_none b c y z more is h = subst (λ (m : Bool). HandsOneOut b c y z (Ok m)) is h
