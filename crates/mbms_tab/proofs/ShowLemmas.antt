-- How the parts of showing a trace join.
use Rattle.std.proofs.Common.{◌≡◌, ℕ, ◌<◌, ◌≤◌, ◌+◌, ◌-◌, Bool, cond, true, false, List, [], ◌∷◌, ◌++◌, take, length, Option, Some, None, Result, Ok, Err, refl, sym, ap, ap₂, subst, ◌∙◌, append_assoc, append-nil, length-append, arith}
use Rattle.std.specs.Prelude.{nat_lt, option_map}
use Rattle.std.proofs.lemmas.List.{take_at, drop_at, take_all, length-take}
use Rattle.std.proofs.lemmas.Bool.{lt-ltb, le-ltb}
use Rattle.std.proofs.lemmas.Grind.{flat_map-append}
use Rattle.std.proofs.Math.Seq.{take-add}
use Rattle.mb_base.specs.Outside.{Grows, Becomes, Stays}
use Rattle.mb_base.specs.Broadcast.{Record, Broadcast, Hears, Takes, IsOver}
use Rattle.mb_base.specs.Trace.{trace_broadcast, bytes_ahead, has_record, records_of, Gives}
use Rattle.mb_base.proofs.TraceLemmas.{records_of-none}
use Rattle.mb_base.specs.AirEvent.TheVariants.{Datagram, Failed}
use Rattle.mb_base.specs.Status.{Status}
use Rattle.mb_base.specs.Status.TheVariants as status
use Rattle.mb_base.proofs.Content.{Grows-nil, Grows-trans}
use Rattle.mb_program.specs.Lines as line
use Rattle.mb_program.specs.Printing.{PrintsPart}
use Rattle.mbms_tab.specs.Lines.{show_text, record_line}
use Rattle.mbms_tab.specs.Show.{records_most, break_text, trace_text, PrintsFirst, PrintsCome, AreCome}
use Rattle.mbms_tab.specs.Steps.{PrintsUnless, Ahead, trace_ahead, TakesBytes, IsTaken, IsUnread, IsNext, IsShownAhead, ShowsAhead, ShowsOrStops, IsGathered, IsReadSoFar, IsReadWhole, IsRead, Finishes}
use Rattle.mbms_tab.specs.declared.showing.Turn.{Turn}
use Rattle.mbms_tab.specs.declared.showing.Turn.TheVariants.{More, Over}

-- ---- texts

pub show_text-append : (xs ys : List Record) → show_text (xs ++ ys) ≡ show_text xs ++ show_text ys
unfolding show_text
show_text-append xs ys = flat_map-append record_line xs ys

pub show_text-nil : show_text [] ≡ []
unfolding show_text
show_text-nil = refl

pub show_text-one : (heard : Record) → show_text (heard ∷ []) ≡ record_line heard
unfolding show_text
show_text-one heard = append-nil (record_line heard)

-- a beginning of a text that stands between others
pub PrintsPart-behind : (front text more whole : List ℕ) (before mid after : Option (List ℕ)) → whole ≡ front ++ (text ++ more)
    → Grows before mid front → PrintsPart text mid after → PrintsPart whole before after
PrintsPart-behind front text more whole before mid after is grown part = record {
  printed = front ++ part.printed;
  rest = part.rest ++ more;
  split = is ∙ (ap (λ (t : List ℕ). front ++ (t ++ more)) part.split
      ∙ (ap (λ (t : List ℕ). front ++ t) (append_assoc part.printed part.rest more) ∙ sym (append_assoc front part.printed (part.rest ++ more))));
  grown = Grows-trans before mid after front part.printed grown part.grown;
}

-- ---- what is taken

Takes-none : (ahead : Option Broadcast) → Becomes ahead ahead (Takes [])
Takes-none None = tt
Takes-none (Some ahead) = refl

Takes-trans : (a b c : Option Broadcast) (xs ys : List Record) → Becomes a b (Takes xs) → Becomes b c (Takes ys) → Becomes a c (Takes (xs ++ ys))
Takes-trans None b c xs ys p q = tt
Takes-trans (Some a) None c xs ys p q = absurd p
Takes-trans (Some a) (Some b) None xs ys p q = absurd q
Takes-trans (Some a) (Some b) (Some c) xs ys p q =
    p ∙ (ap (λ (x : Broadcast). record x { records = xs ++ x.records }) q
    ∙ ap (λ (rs : List Record). record c { records = rs }) (sym (append_assoc xs ys c.records)))

TakesBytes-none : (ahead : Option (List ℕ)) → Becomes ahead ahead (TakesBytes [])
TakesBytes-none None = tt
TakesBytes-none (Some ahead) = ([], refl, λ later. refl)

TakesBytes-trans : (a b c : Option (List ℕ)) (xs ys : List Record) → Becomes a b (TakesBytes xs) → Becomes b c (TakesBytes ys)
    → Becomes a c (TakesBytes (xs ++ ys))
TakesBytes-trans None b c xs ys p q = tt
TakesBytes-trans (Some a) None c xs ys p q = absurd p
TakesBytes-trans (Some a) (Some b) None xs ys p q = absurd q
TakesBytes-trans (Some a) (Some b) (Some c) xs ys p q = (
  p.0 ++ q.0,
  p.1 ∙ (ap (λ (l : List ℕ). p.0 ++ l) q.1 ∙ sym (append_assoc p.0 q.0 c)),
  λ later.
      ap records_of (append_assoc p.0 q.0 later) ∙ (p.2 (q.0 ++ later)
      ∙ (ap (λ (rs : List Record). xs ++ rs) (q.2 later) ∙ sym (append_assoc xs ys (records_of later)))),
)

taken-none : (ahead : Ahead) → IsTaken [] ahead ahead
taken-none ahead = record { in_bytes = TakesBytes-none ahead.bytes; in_broadcast = Takes-none ahead.broadcast }

taken-trans : (a b c : Ahead) (xs ys : List Record) → IsTaken xs a b → IsTaken ys b c → IsTaken (xs ++ ys) a c
taken-trans a b c xs ys p q = record {
  in_bytes = TakesBytes-trans a.bytes b.bytes c.bytes xs ys p.in_bytes q.in_bytes;
  in_broadcast = Takes-trans a.broadcast b.broadcast c.broadcast xs ys p.in_broadcast q.in_broadcast;
}

Takes-datagram : (until at len : ℕ) (buf : List ℕ) (a b : Option Broadcast) → Becomes a b (Hears until (Datagram at len) buf)
    → Becomes a b (Takes (record { at = at; bytes = take len buf } ∷ []))
Takes-datagram until at len buf None b p = tt
Takes-datagram until at len buf (Some a) None p = absurd p
Takes-datagram until at len buf (Some a) (Some b) p = p

TakesBytes-datagram : (at len : ℕ) (buf : List ℕ) (a b : Option (List ℕ)) → Becomes a b (Gives (Datagram at len) buf)
    → Becomes a b (TakesBytes (record { at = at; bytes = take len buf } ∷ []))
TakesBytes-datagram at len buf None b p = tt
TakesBytes-datagram at len buf (Some a) None p = absurd p
TakesBytes-datagram at len buf (Some a) (Some b) p = p

pub taken-datagram : (until at len : ℕ) (buf : List ℕ) (a b : Ahead) → Becomes a.broadcast b.broadcast (Hears until (Datagram at len) buf)
    → Becomes a.bytes b.bytes (Gives (Datagram at len) buf) → IsTaken (record { at = at; bytes = take len buf } ∷ []) a b
taken-datagram until at len buf a b heard given = record {
  in_bytes = TakesBytes-datagram at len buf a.bytes b.bytes given;
  in_broadcast = Takes-datagram until at len buf a.broadcast b.broadcast heard;
}

-- the source failed, where no whole record was held
pub unread-failed : (buf : List ℕ) (a b : Option (List ℕ)) → Becomes a b (Gives Failed buf) → Stays a b
unread-failed buf None b p = tt
unread-failed buf (Some a) None p = absurd p
unread-failed buf (Some a) (Some b) p = p

-- ---- what is shown, by what was taken

-- the records that were taken are the first of those that are shown
pub record IsFrontOfShown (ahead : Option Broadcast) (records : List Record) : Type 0 where
  pub whole : List Record
  pub broken : Option ℕ
  pub within : length whole ≤ records_most
  pub of : IsShownAhead ahead whole broken
  pub later : List Record
  pub split : whole ≡ records ++ later

take_front : (xs ys : List Record) (most : ℕ) → length xs ≤ most → take most (xs ++ ys) ≡ xs ++ take (most - length xs) ys
take_front xs ys most few =
    let sum : most ≡ length xs + (most - length xs) = omega arith in
    ap (λ (n : ℕ). take n (xs ++ ys)) sum ∙ (take-add (length xs) (most - length xs) (xs ++ ys)
    ∙ ap₂ (λ (front rest : List Record). front ++ take (most - length xs) rest) (take_at xs ys (length xs) refl) (drop_at xs ys (length xs) refl))

pub front_of_shown : (a b : Option Broadcast) (records : List Record) → Becomes a b (Takes records) → length records ≤ records_most → IsFrontOfShown a records
front_of_shown None b records taken few =
    record { whole = records; broken = None; within = few; of = tt; later = []; split = sym (append-nil records) }
front_of_shown (Some a) None records taken few = absurd taken
front_of_shown (Some a) (Some b) records taken few = record {
  whole = take records_most a.records;
  broken = cond (nat_lt (length a.records) records_most) a.broken None;
  within = omega (arith, length-take records_most a.records);
  of = (refl, refl);
  later = take (records_most - length records) b.records;
  split = ap (λ (x : Broadcast). take records_most x.records) taken ∙ take_front records b.records records_most few;
}

-- all were taken, for none is left
pub shown_at_end : (a b c : Option Broadcast) (records : List Record) (broken : Option ℕ) → Becomes a b (Takes records) → length records < records_most
    → Becomes b c (λ old _. IsOver broken old) → IsShownAhead a records broken
shown_at_end None b c records broken taken few over = tt
shown_at_end (Some a) None c records broken taken few over = absurd taken
shown_at_end (Some a) (Some b) None records broken taken few over = absurd over
shown_at_end (Some a) (Some b) (Some c) records broken taken few over =
    let all : a.records ≡ records = ap (λ (x : Broadcast). x.records) taken ∙ (ap (λ (rs : List Record). records ++ rs) over.none_left ∙ append-nil records) in
    let len : length a.records < records_most = omega (arith, ap length all) in
    let below : nat_lt (length a.records) records_most ≡ true = lt-ltb _ _ len in
    let end : a.broken ≡ broken = ap (λ (x : Broadcast). x.broken) taken ∙ over.end in
    (sym (take_all records_most a.records (omega (arith, len)) ∙ all), sym (ap (λ (b : Bool). cond b a.broken None) below ∙ end))

-- as many were taken as are shown at most
pub shown_at_limit : (a b : Option Broadcast) (records : List Record) → Becomes a b (Takes records) → length records ≡ records_most → IsShownAhead a records None
shown_at_limit None b records taken full = tt
shown_at_limit (Some a) None records taken full = absurd taken
shown_at_limit (Some a) (Some b) records taken full =
    let all : a.records ≡ records ++ b.records = ap (λ (x : Broadcast). x.records) taken in
    let len : records_most ≤ length a.records = omega (arith, ap length all, length-append records b.records, full) in
    let past : nat_lt (length a.records) records_most ≡ false = le-ltb _ _ len in
    (sym (ap (take records_most) all ∙ take_at records b.records records_most full), sym (ap (λ (b : Bool). cond b a.broken None) past))

-- ---- what came

-- the records that were taken are all whole ones that came, where a part of a record is left of it
come_by : (a b left : Option (List ℕ)) (records : List Record) (part : List ℕ) → Becomes a b (TakesBytes records) → has_record part ≡ false
    → Stays b (bytes_ahead part left) → length records ≤ records_most → Becomes a left (λ old new. AreCome old new records)
come_by None b left records part taken none kept few = tt
come_by (Some a) None left records part taken none kept few = absurd taken
come_by (Some a) (Some b) None records part taken none kept few = absurd kept
come_by (Some a) (Some b) (Some left) records part taken none kept few =
    let all : records_of (taken.0 ++ part) ≡ records =
    taken.2 part ∙ (ap (λ (rs : List Record). records ++ rs) (records_of-none part none) ∙ append-nil records) in
    record {
      came = taken.0 ++ part;
      lost = taken.1 ∙ (ap (λ (l : List ℕ). taken.0 ++ l) (sym kept) ∙ sym (append_assoc taken.0 part left));
      whole = sym (ap (take records_most) all ∙ take_all records_most records few);
    }

-- ---- gathered lines

pub gathered-none : (lines : List ℕ) (out : Option (List ℕ)) → lines ≡ [] → IsGathered [] lines out out
gathered-none lines out none = record {
  printed = [];
  waiting = [];
  split = refl;
  text = none ∙ sym show_text-nil;
  grown = subst (λ (t : List ℕ). Grows out out t) (sym show_text-nil) (Grows-nil out);
}

pub gathered-next : (records : List Record) (heard : Record) (lines new : List ℕ) (before after : Option (List ℕ)) → IsGathered records lines before after
    → new ≡ lines ++ record_line heard → IsGathered (records ++ heard ∷ []) new before after
gathered-next records heard lines new before after s is = record {
  printed = s.printed;
  waiting = s.waiting ++ heard ∷ [];
  split = ap (λ (rs : List Record). rs ++ heard ∷ []) s.split ∙ append_assoc s.printed s.waiting (heard ∷ []);
  text = is ∙ (ap₂ (λ (xs ys : List ℕ). xs ++ ys) s.text (sym (show_text-one heard)) ∙ sym (show_text-append s.waiting (heard ∷ [])));
  grown = s.grown;
}

gathered-printed : (records : List Record) (lines kept : List ℕ) (before mid after : Option (List ℕ)) → IsGathered records lines before mid
    → kept ≡ [] → Grows mid after lines → IsGathered records kept before after
gathered-printed records lines kept before mid after s none grown = record {
  printed = records;
  waiting = [];
  split = sym (append-nil records);
  text = none ∙ sym show_text-nil;
  grown = subst (λ (t : List ℕ). Grows before after t) (sym (ap show_text s.split ∙ show_text-append s.printed s.waiting))
      (Grows-trans before mid after (show_text s.printed) (show_text s.waiting) s.grown (subst (λ (t : List ℕ). Grows mid after t) s.text grown));
}

pub gathered-kept : (holds : Bool) (x : Unit {0}) (records : List Record) (lines kept : List ℕ) (before mid after : Option (List ℕ)) → IsGathered records lines before mid
    → PrintsUnless holds lines kept mid after (Ok x) → IsGathered records kept before after
gathered-kept true x records lines kept before mid after s p =
    subst (λ (l : List ℕ). IsGathered records l before after) (sym p.0) (subst (λ (o : Option (List ℕ)). IsGathered records lines before o) (sym p.1) s)
gathered-kept false x records lines kept before mid after s p = gathered-printed records lines kept before mid after s p.0 p.1

-- ---- what stops

-- the text of all records, by those that were printed, those that wait, and the others
whole_text : (printed waiting later records whole : List Record) (end : List ℕ) → records ≡ printed ++ waiting → whole ≡ records ++ later
    → show_text whole ++ end ≡ show_text printed ++ (show_text waiting ++ (show_text later ++ end))
whole_text printed waiting later records whole end s w =
    let parts : show_text whole ≡ show_text printed ++ (show_text waiting ++ show_text later) =
    ap show_text (w ∙ (ap (λ (rs : List Record). rs ++ later) s ∙ append_assoc printed waiting later))
    ∙ (show_text-append printed (waiting ++ later) ∙ ap (λ (t : List ℕ). show_text printed ++ t) (show_text-append waiting later)) in
    ap (λ (t : List ℕ). t ++ end) parts ∙ (append_assoc (show_text printed) (show_text waiting ++ show_text later) end
    ∙ ap (λ (t : List ℕ). show_text printed ++ t) (append_assoc (show_text waiting) (show_text later) end))

-- lines were wanting, or the source failed, while these were gathered
pub stopped : (ahead : Option Broadcast) (records : List Record) (lines : List ℕ) (before after : Option (List ℕ)) (f : IsFrontOfShown ahead records)
    → IsGathered records lines before after → PrintsFirst f.whole before after
stopped ahead records lines before after f s = record {
  printed = s.printed;
  later = s.waiting ++ f.later;
  split = f.split ∙ (ap (λ (rs : List Record). rs ++ f.later) s.split ∙ append_assoc s.printed s.waiting f.later);
  grown = s.grown;
}

-- the source failed, and no line was waiting
unread : (a b : Ahead) (left : Option (List ℕ)) (records : List Record) (before after : Option (List ℕ)) (f : IsFrontOfShown a.broadcast records)
    (holds : Bool) → IsTaken records a b → length records ≤ records_most → IsUnread holds b.bytes left → Grows before after (show_text records)
    → PrintsCome f.whole a.bytes left before after
unread a b left records before after f holds taken few u grown = record {
  printed = records;
  later = f.later;
  split = f.split;
  come = come_by a.bytes b.bytes left records u.part taken.in_bytes u.none_came u.kept few;
  grown = grown;
}

-- the sink failed in the lines that were gathered
pub unprinted : (ahead : Ahead) (left : Option (List ℕ)) (records : List Record) (lines : List ℕ) (before mid after : Option (List ℕ)) → IsFrontOfShown ahead.broadcast records
    → IsGathered records lines before mid → PrintsPart lines mid after → ShowsAhead ahead left before after status.OutFault
unprinted ahead left records lines before mid after f s part = record {
  records = f.whole;
  broken = f.broken;
  within = f.within;
  of = f.of;
  printed = PrintsPart-behind (show_text s.printed) (show_text s.waiting) (show_text f.later ++ break_text f.broken) (trace_text f.whole f.broken)
      before mid after (whole_text s.printed s.waiting f.later records f.whole (break_text f.broken) s.split f.split) s.grown
      (subst (λ (t : List ℕ). PrintsPart t mid after) s.text part);
}

-- ---- record after record

pub so_far-none : (ahead : Ahead) (lines : List ℕ) (out : Option (List ℕ)) → lines ≡ [] → IsReadSoFar 0 ahead ahead lines out out
so_far-none ahead lines out none =
    record { records = []; taken = taken-none ahead; length_is = refl; gathered = gathered-none lines out none }

-- the records so far are few enough to be shown
so_far-front : (n : ℕ) (a b : Ahead) (lines : List ℕ) (before after : Option (List ℕ)) (s : IsReadSoFar n a b lines before after)
    → n ≤ records_most → IsFrontOfShown a.broadcast s.records
so_far-front n a b lines before after s few = front_of_shown a.broadcast b.broadcast s.records s.taken.in_broadcast (omega (arith, s.length_is))

-- the gathered lines were printed, or wait on
so_far-kept : (holds : Bool) (x : Unit {0}) (n : ℕ) (a b : Ahead) (lines kept : List ℕ) (before mid after : Option (List ℕ)) → IsReadSoFar n a b lines before mid
    → PrintsUnless holds lines kept mid after (Ok x) → IsReadSoFar n a b kept before after
so_far-kept holds x n a b lines kept before mid after s p =
    record { records = s.records; taken = s.taken; length_is = s.length_is; gathered = gathered-kept holds x s.records lines kept before mid after s.gathered p }

pub so_far-next : (holds : Bool) (x : Unit {0}) (n : ℕ) (a b c : Ahead) (lines kept new : List ℕ) (left before mid after : Option (List ℕ)) (turn : Turn)
    → IsReadSoFar n a b lines before mid → PrintsUnless holds lines kept mid after (Ok x) → turn ≡ More
    → IsNext holds b c left kept new (Ok turn) → IsReadSoFar (n + 1) a c new before after
so_far-next holds x n a b c lines kept new left before mid after turn so_far printed on next =
    let s = so_far-kept holds x n a b lines kept before mid after so_far printed in
    let t : IsNext holds b c left kept new (Ok More) = subst (λ (t : Turn). IsNext holds b c left kept new (Ok t)) on next in
    record {
      records = s.records ++ t.0 ∷ [];
      taken = taken-trans a b c s.records (t.0 ∷ []) s.taken t.1;
      length_is = length-append s.records (t.0 ∷ []) ∙ omega (arith, s.length_is);
      gathered = gathered-next s.records t.0 kept new before after s.gathered t.2;
    }

pub read-at_end : (holds : Bool) (x : Unit {0}) (n : ℕ) (a b c : Ahead) (lines kept new : List ℕ) (left before mid after : Option (List ℕ)) (turn : Turn) (broken : Option ℕ)
    → IsReadSoFar n a b lines before mid → n < records_most → PrintsUnless holds lines kept mid after (Ok x) → turn ≡ Over broken
    → IsNext holds b c left kept new (Ok turn) → IsReadWhole a broken new before after
read-at_end holds x n a b c lines kept new left before mid after turn broken so_far few printed over next =
    let s = so_far-kept holds x n a b lines kept before mid after so_far printed in
    let end : IsNext holds b c left kept new (Ok (Over broken)) = subst (λ (t : Turn). IsNext holds b c left kept new (Ok t)) over next in
    record {
      records = s.records;
      within = omega (arith, s.length_is);
      of = shown_at_end a.broadcast b.broadcast c.broadcast s.records broken s.taken.in_broadcast (omega (arith, s.length_is)) end.0;
      gathered = subst (λ (l : List ℕ). IsGathered s.records l before after) (sym end.1) s.gathered;
    }

pub read-at_limit : (n : ℕ) (a b : Ahead) (lines : List ℕ) (before after : Option (List ℕ)) → IsReadSoFar n a b lines before after
    → n ≡ records_most → IsReadWhole a None lines before after
read-at_limit n a b lines before after s full = record {
  records = s.records;
  within = omega (arith, s.length_is, full);
  of = shown_at_limit a.broadcast b.broadcast s.records s.taken.in_broadcast (s.length_is ∙ full);
  gathered = s.gathered;
}

-- a result that hands on a status
IsRead-err : (ahead : Ahead) (lines : List ℕ) (left before after : Option (List ℕ)) (reason answer : Status) (result : Result (Option ℕ) Status)
    → result ≡ Err answer → answer ≡ reason → ShowsAhead ahead left before after reason → IsRead ahead left lines before after result
IsRead-err ahead lines left before after reason answer result is same s =
    subst (λ (r : Result (Option ℕ) Status). IsRead ahead left lines before after r) (sym (is ∙ ap Err same)) s

-- the sink failed
unprinted_by : (holds : Bool) (ahead : Ahead) (records : List Record) (lines kept : List ℕ) (left before mid after : Option (List ℕ)) (reason : Status)
    → IsFrontOfShown ahead.broadcast records → IsGathered records lines before mid → PrintsUnless holds lines kept mid after (Err reason) → ShowsAhead ahead left before after reason
unprinted_by false ahead records lines kept left before mid after status.OutFault f s p = unprinted ahead left records lines before mid after f s p
unprinted_by false ahead records lines kept left before mid after _ f s p = absurd p
unprinted_by true ahead records lines kept left before mid after reason f s p = absurd p

pub read-unprinted : (holds : Bool) (n : ℕ) (a b : Ahead) (lines kept : List ℕ) (left before mid after : Option (List ℕ)) (reason answer : Status) (result : Result (Option ℕ) Status)
    → IsReadSoFar n a b lines before mid → n < records_most → PrintsUnless holds lines kept mid after (Err reason)
    → result ≡ Err answer → answer ≡ reason → IsRead a left kept before after result
read-unprinted holds n a b lines kept left before mid after reason answer result s few p is same =
    IsRead-err a kept left before after reason answer result is same
    (unprinted_by holds a s.records lines kept left before mid after reason (so_far-front n a b lines before mid s (omega arith)) s.gathered p)

-- lines that were printed, or wait for a record that is held
lines_of : (holds : Bool) (x : Unit {0}) (records : List Record) (lines kept : List ℕ) (before mid after : Option (List ℕ)) → holds ≡ false
    → IsGathered records lines before mid → PrintsUnless holds lines kept mid after (Ok x) → Grows before after (show_text records)
lines_of true x records lines kept before mid after none s p = cc
lines_of false x records lines kept before mid after none s p =
    subst (λ (t : List ℕ). Grows before after t) (sym (ap show_text s.split ∙ show_text-append s.printed s.waiting))
    (Grows-trans before mid after (show_text s.printed) (show_text s.waiting) s.grown (subst (λ (t : List ℕ). Grows mid after t) s.text p.1))

-- the source failed, or memory was wanting
stopped_by : (holds : Bool) (x : Unit {0}) (n : ℕ) (a b c : Ahead) (lines kept new : List ℕ) (left before mid after : Option (List ℕ)) (reason : Status)
    → IsReadSoFar n a b lines before mid → n < records_most → PrintsUnless holds lines kept mid after (Ok x) → IsNext holds b c left kept new (Err reason)
    → ShowsAhead a left before after reason
stopped_by holds x n a b c lines kept new left before mid after status.ReadFault s few p next =
    let f = so_far-front n a b lines before mid s (omega arith) in
    record {
      records = f.whole;
      broken = f.broken;
      within = f.within;
      of = f.of;
      printed = unread a b left s.records before after f holds s.taken (omega (arith, s.length_is)) next
          (lines_of holds x s.records lines kept before mid after next.none_held s.gathered p);
    }
stopped_by holds x n a b c lines kept new left before mid after status.Memory s few p next =
    let f = so_far-front n a b lines before mid s (omega arith) in
    record {
      records = f.whole;
      broken = f.broken;
      within = f.within;
      of = f.of;
      printed = stopped a.broadcast s.records kept before after f (gathered-kept holds x s.records lines kept before mid after s.gathered p);
    }
stopped_by holds x n a b c lines kept new left before mid after _ s few p next = absurd next

pub read-stopped : (holds : Bool) (x : Unit {0}) (n : ℕ) (a b c : Ahead) (lines kept new : List ℕ) (left before mid after : Option (List ℕ)) (reason answer : Status) (result : Result (Option ℕ) Status)
    → IsReadSoFar n a b lines before mid → n < records_most → PrintsUnless holds lines kept mid after (Ok x) → IsNext holds b c left kept new (Err reason)
    → result ≡ Err answer → answer ≡ reason → IsRead a left new before after result
read-stopped holds x n a b c lines kept new left before mid after reason answer result so_far few printed next is same =
    IsRead-err a new left before after reason answer result is same (stopped_by holds x n a b c lines kept new left before mid after reason so_far few printed next)

-- ---- a whole trace

-- want of memory before anything was read
pub no_room : (ahead : Ahead) (left out : Option (List ℕ)) (answer : Status) (result : Result (Option ℕ) Status) → result ≡ Err answer → answer ≡ status.Memory
    → ShowsOrStops ahead left out out result
no_room ahead left out answer result is same =
    let f = front_of_shown ahead.broadcast ahead.broadcast [] (Takes-none ahead.broadcast) (omega arith) in
    subst (λ (r : Result (Option ℕ) Status). ShowsOrStops ahead left out out r) (sym (is ∙ ap Err same)) (record {
      records = f.whole;
      broken = f.broken;
      within = f.within;
      of = f.of;
      printed = stopped ahead.broadcast [] [] out out f (gathered-none [] out refl);
    })

printed_whole : (records : List Record) (lines end : List ℕ) (before mid after : Option (List ℕ)) → IsGathered records lines before mid
    → Grows mid after (lines ++ end) → Grows before after (show_text records ++ end)
printed_whole records lines end before mid after s grown =
    let text : show_text records ++ end ≡ show_text s.printed ++ (lines ++ end) =
    ap (λ (rs : List Record). show_text rs ++ end) s.split ∙ (ap (λ (t : List ℕ). t ++ end) (show_text-append s.printed s.waiting)
    ∙ (append_assoc (show_text s.printed) (show_text s.waiting) end ∙ ap (λ (t : List ℕ). show_text s.printed ++ (t ++ end)) (sym s.text))) in
    subst (λ (t : List ℕ). Grows before after t) (sym text) (Grows-trans before mid after (show_text s.printed) (lines ++ end) s.grown grown)

-- all lines were printed
pub shown_whole : (x : Unit {0}) (ahead : Ahead) (broken : Option ℕ) (lines : List ℕ) (left before mid after : Option (List ℕ)) → IsReadWhole ahead broken lines before mid
    → Finishes broken lines mid after (Ok x) → ShowsOrStops ahead left before after (Ok broken)
shown_whole x ahead None lines left before mid after s p = record {
  records = s.records;
  broken = None;
  within = s.within;
  of = s.of;
  printed = (refl, subst (λ (t : List ℕ). Grows before after t) (append-nil (show_text s.records)) (printed_whole s.records lines [] before mid after s.gathered p));
}
shown_whole x ahead (Some place) lines left before mid after s p = record {
  records = s.records;
  broken = Some place;
  within = s.within;
  of = s.of;
  printed = (place, refl, printed_whole s.records lines (line.broken place) before mid after s.gathered p);
}

-- the last lines could not be made or printed
unended_by : (ahead : Ahead) (broken : Option ℕ) (lines : List ℕ) (left before mid after : Option (List ℕ)) (reason : Status) → IsReadWhole ahead broken lines before mid
    → Finishes broken lines mid after (Err reason) → ShowsAhead ahead left before after reason
unended_by ahead broken lines left before mid after status.OutFault s p =
    let whole : trace_text s.records broken ≡ show_text s.gathered.printed ++ ((lines ++ break_text broken) ++ []) =
    ap (λ (rs : List Record). show_text rs ++ break_text broken) s.gathered.split
    ∙ (ap (λ (t : List ℕ). t ++ break_text broken) (show_text-append s.gathered.printed s.gathered.waiting)
    ∙ (append_assoc (show_text s.gathered.printed) (show_text s.gathered.waiting) (break_text broken)
    ∙ ap (λ (t : List ℕ). show_text s.gathered.printed ++ t)
    (ap (λ (t : List ℕ). t ++ break_text broken) (sym s.gathered.text) ∙ sym (append-nil (lines ++ break_text broken))))) in
    record {
      records = s.records;
      broken = broken;
      within = s.within;
      of = s.of;
      printed = PrintsPart-behind (show_text s.gathered.printed) (lines ++ break_text broken) [] (trace_text s.records broken) before mid after whole s.gathered.grown p;
    }
unended_by ahead broken lines left before mid after status.Memory s p = record {
  records = s.records;
  broken = broken;
  within = s.within;
  of = s.of;
  printed = subst (λ (o : Option (List ℕ)). PrintsFirst s.records before o) (sym p)
      (record { printed = s.gathered.printed; later = s.gathered.waiting; split = s.gathered.split; grown = s.gathered.grown });
}
unended_by ahead broken lines left before mid after _ s p = absurd p

pub unended : (ahead : Ahead) (broken : Option ℕ) (lines : List ℕ) (left before mid after : Option (List ℕ)) (reason answer : Status) (result : Result (Option ℕ) Status)
    → IsReadWhole ahead broken lines before mid → Finishes broken lines mid after (Err reason) → result ≡ Err answer → answer ≡ reason → ShowsOrStops ahead left before after result
unended ahead broken lines left before mid after reason answer result s p is same =
    subst (λ (r : Result (Option ℕ) Status). ShowsOrStops ahead left before after r) (sym (is ∙ ap Err same)) (unended_by ahead broken lines left before mid after reason s p)

-- the trace could not be read to its end
pub stopped-reading : (ahead : Ahead) (lines : List ℕ) (left before after : Option (List ℕ)) (reason answer : Status) (result : Result (Option ℕ) Status)
    → IsRead ahead left lines before after (Err reason) → result ≡ Err answer → answer ≡ reason → ShowsOrStops ahead left before after result
stopped-reading ahead lines left before after reason answer result s is same =
    subst (λ (r : Result (Option ℕ) Status). ShowsOrStops ahead left before after r) (sym (is ∙ ap Err same)) s

-- what is ahead of a reader that has read nothing is the trace
held_none : (held : List ℕ) (left : Option (List ℕ)) → held ≡ [] → bytes_ahead held left ≡ left
held_none held None none = refl
held_none held (Some bytes) none = ap (λ (l : List ℕ). Some (l ++ bytes)) none

make_ahead : Option (List ℕ) → Option Broadcast → Ahead
make_ahead bytes broadcast = record { bytes = bytes; broadcast = broadcast }

pub of_trace : (held : List ℕ) (broadcast : Option Broadcast) (left left_now before after : Option (List ℕ)) (result : Result (Option ℕ) Status) → held ≡ []
    → broadcast ≡ option_map (trace_broadcast 0 None) left
    → ShowsOrStops (record { bytes = bytes_ahead held left; broadcast = broadcast }) left_now before after result → ShowsOrStops (trace_ahead left) left_now before after result
unfolding make_ahead
of_trace held broadcast left left_now before after result none is s =
    subst (λ (a : Ahead). ShowsOrStops a left_now before after result) (ap₂ make_ahead (held_none held left none) is) s
