-- Lemmas on traces.
use Rattle.std.proofs.Common.{◌≡◌, ◌≢◌, ℕ, zero, suc, ◌+◌, ◌-◌, ◌^◌, ◌<◌, ◌≤◌, min, List, [], ◌∷◌, ◌++◌, length, take, drop, Bool, true, false, Option, Some, None, refl, sym, ap, ap₂, subst, ◌∙◌, inl, inr, eq-eqb, ne_eqb, arith, append_assoc, length-append, length-take-le, length-drop}
use Rattle.std.specs.Prelude.{flat_map, option_map, if◌then◌else◌}
use Rattle.std.proofs.lemmas.List.{take-append-le, take-append-drop, drop-append-le, drop_at}
use Rattle.std.proofs.lemmas.Bool.{leb-true, leb-false, le-leb, lt-leb, cases_eq}
use Rattle.mb_outside.specs.Outside.{Stays, Becomes, count_most}
use Rattle.mb_outside.specs.Broadcast.{Record, Broadcast, IsPast}
use Rattle.mb_outside.specs.declared.air.AirEvent.{AirEvent}
use Rattle.mb_trace.specs.Number.{be_number, be_bytes}
use Rattle.mb_trace.specs.Trace.{record_bytes, record_size, has_record, first_record, records_in, records_of, records_end, broken_of, told_place, trace_broadcast, bytes_ahead, IsWhole, IsPart, AreRecords, Gives}
use Rattle.mb_trace.proofs.NumberLemmas.{length-be_bytes}

-- ---- the record at the front

pub size-is : (bs : List ℕ) → record_size bs ≡ 8 + be_number (take 2 (drop 6 bs))
unfolding record_size
size-is bs = refl

pub size_least : (bs : List ℕ) → 8 ≤ record_size bs
size_least bs = omega (arith, size-is bs)

pub has-le : (bs : List ℕ) → has_record bs ≡ true → record_size bs ≤ length bs
unfolding has_record
has-le bs h = leb-true _ _ h

pub has_not-lt : (bs : List ℕ) → has_record bs ≡ false → length bs < record_size bs
unfolding has_record
has_not-lt bs h = leb-false _ _ h

pub has_from-le : (bs : List ℕ) → record_size bs ≤ length bs → has_record bs ≡ true
unfolding has_record
has_from-le bs h = le-leb _ _ h

pub has_not_from-lt : (bs : List ℕ) → length bs < record_size bs → has_record bs ≡ false
unfolding has_record
has_not_from-lt bs h = lt-leb _ _ h

pub first-at : (bs : List ℕ) → (first_record bs).at ≡ be_number (take 6 bs)
unfolding first_record
first-at bs = refl

pub first-bytes : (bs : List ℕ) → (first_record bs).bytes ≡ take (record_size bs - 8) (drop 8 bs)
unfolding first_record
first-bytes bs = refl

abbrev make_record : ℕ → List ℕ → Record
make_record at bytes = record { at = at; bytes = bytes }

-- bytes behind the record's change nothing

pub size-append : (bs ys : List ℕ) → 8 ≤ length bs → record_size (bs ++ ys) ≡ record_size bs
size-append bs ys long =
    let len = length-drop 6 bs in
    size-is (bs ++ ys)
    ∙ ap (λ l. 8 + be_number l) (ap (take 2) (drop-append-le 6 bs ys (omega arith)) ∙ take-append-le 2 (drop 6 bs) ys (omega arith))
    ∙ sym (size-is bs)

pub has-append : (bs ys : List ℕ) → has_record bs ≡ true → has_record (bs ++ ys) ≡ true
has-append bs ys h =
    let fits = has-le bs h in
    let least = size_least bs in
    has_from-le (bs ++ ys) (omega (arith, size-append bs ys (omega arith), length-append bs ys))

pub first-append : (bs ys : List ℕ) → has_record bs ≡ true → first_record (bs ++ ys) ≡ first_record bs
unfolding first_record
first-append bs ys h =
    let fits = has-le bs h in
    let least = size_least bs in
    let len = length-drop 8 bs in
    ap₂ make_record
    (ap be_number (take-append-le 6 bs ys (omega arith)))
    (ap (λ n. take (n - 8) (drop 8 (bs ++ ys))) (size-append bs ys (omega arith))
    ∙ ap (take (record_size bs - 8)) (drop-append-le 8 bs ys (omega arith))
    ∙ take-append-le (record_size bs - 8) (drop 8 bs) ys (omega arith))

-- ---- the whole records

records_in-has : (n : ℕ) (bs : List ℕ) → has_record bs ≡ true
    → records_in (suc n) bs ≡ first_record bs ∷ records_in n (drop (record_size bs) bs)
unfolding records_in
records_in-has n bs h =
    ap (λ b. if b then first_record bs ∷ records_in n (drop (record_size bs) bs) else []) h

records_in-none : (n : ℕ) (bs : List ℕ) → has_record bs ≡ false → records_in n bs ≡ []
unfolding records_in
records_in-none zero bs h = refl
records_in-none (suc n) bs h =
    ap (λ b. if b then first_record bs ∷ records_in n (drop (record_size bs) bs) else []) h

pub none_in-short : (bs : List ℕ) → length bs ≤ 7 → has_record bs ≡ false
none_in-short bs short = has_not_from-lt bs (omega (arith, size_least bs))

enough_step : (m n : ℕ) (bs : List ℕ) (b : Bool) → has_record bs ≡ b
    → (has_record bs ≡ true → records_in m (drop (record_size bs) bs) ≡ records_in n (drop (record_size bs) bs))
    → records_in (suc m) bs ≡ records_in (suc n) bs
enough_step m n bs true h same = records_in-has m bs h ∙ ap (λ l. first_record bs ∷ l) (same h) ∙ sym (records_in-has n bs h)
enough_step m n bs false h same = records_in-none (suc m) bs h ∙ sym (records_in-none (suc n) bs h)

shorter : (bs : List ℕ) (m : ℕ) → length bs ≤ suc m → length (drop (record_size bs) bs) ≤ m
shorter bs m h = omega (arith, length-drop (record_size bs) bs, size_least bs)

-- more steps than bytes change nothing
records_in-enough : (m n : ℕ) (bs : List ℕ) → length bs ≤ m → length bs ≤ n → records_in m bs ≡ records_in n bs
records_in-enough zero n bs p q =
    let none = none_in-short bs (omega arith) in records_in-none zero bs none ∙ sym (records_in-none n bs none)
records_in-enough (suc m) zero bs p q =
    let none = none_in-short bs (omega arith) in records_in-none (suc m) bs none ∙ sym (records_in-none zero bs none)
records_in-enough (suc m) (suc n) bs p q =
    enough_step m n bs (has_record bs) refl (λ h. records_in-enough m n (drop (record_size bs) bs) (shorter bs m p) (shorter bs n q))

pub records_of-has : (bs : List ℕ) → has_record bs ≡ true → records_of bs ≡ first_record bs ∷ records_of (drop (record_size bs) bs)
unfolding records_of
records_of-has bs h =
    let rest = drop (record_size bs) bs in
    let len = length-drop (record_size bs) bs in
    records_in-enough (length bs) (suc (length bs)) bs (omega arith) (omega arith) ∙ records_in-has (length bs) bs h
    ∙ ap (λ l. first_record bs ∷ l) (records_in-enough (length bs) (length rest) rest (omega arith) (omega arith))

pub records_of-none : (bs : List ℕ) → has_record bs ≡ false → records_of bs ≡ []
unfolding records_of
records_of-none bs h = records_in-none (length bs) bs h

-- ---- lengths and places

pub length-record_bytes : (r : Record) → length (record_bytes r) ≡ 8 + length r.bytes
length-record_bytes r =
    let moment = be_bytes 6 r.at in
    let size = be_bytes 2 (length r.bytes) in
    omega (arith, length-append (moment ++ size) r.bytes, length-append moment size, length-be_bytes 6 r.at, length-be_bytes 2 (length r.bytes))

pub length-first : (bs : List ℕ) → has_record bs ≡ true → length (first_record bs).bytes ≡ record_size bs - 8
length-first bs h =
    let fits = has-le bs h in
    let least = size_least bs in
    ap length (first-bytes bs) ∙ length-take-le (record_size bs - 8) (drop 8 bs) (omega (arith, length-drop 8 bs))

pub length-first_bytes : (bs : List ℕ) → has_record bs ≡ true → length (record_bytes (first_record bs)) ≡ record_size bs
length-first_bytes bs h = omega (arith, length-record_bytes (first_record bs), length-first bs h, size_least bs)

pub end-has : (bs : List ℕ) → has_record bs ≡ true → records_end bs ≡ record_size bs + records_end (drop (record_size bs) bs)
unfolding records_end
end-has bs h =
    let later = flat_map record_bytes (records_of (drop (record_size bs) bs)) in
    ap (λ l. length (flat_map record_bytes l)) (records_of-has bs h)
    ∙ length-append (record_bytes (first_record bs)) later ∙ ap (λ n. n + length later) (length-first_bytes bs h)

pub end-none : (bs : List ℕ) → has_record bs ≡ false → records_end bs ≡ 0
unfolding records_end
end-none bs h = ap (λ l. length (flat_map record_bytes l)) (records_of-none bs h)

pub unbroken : (bs : List ℕ) → records_end bs ≡ length bs → broken_of bs ≡ None
unfolding broken_of
unbroken bs e = ap (λ b. if b then None else Some (records_end bs)) (eq-eqb _ _ e)

pub broken : (bs : List ℕ) → records_end bs ≢ length bs → broken_of bs ≡ Some (records_end bs)
unfolding broken_of
broken bs e = ap (λ b. if b then None else Some (records_end bs)) (ne_eqb _ _ e)

pub broken-has : (bs : List ℕ) → has_record bs ≡ true
    → broken_of bs ≡ option_map (λ place. record_size bs + place) (broken_of (drop (record_size bs) bs))
broken-has bs h =
    let rest = drop (record_size bs) bs in
    let len = length-drop (record_size bs) bs in
    let end = end-has bs h in
    let fits = has-le bs h in
    elim (cases_eq (records_end rest) (length rest)) [
      | inl same ↦ unbroken bs (omega arith) ∙ sym (ap (option_map (λ place. record_size bs + place)) (unbroken rest same))
      | inr other ↦
          broken bs (λ e. other (omega arith)) ∙ ap Some end
          ∙ sym (ap (option_map (λ place. record_size bs + place)) (broken rest other))
    ]

end-le_step : (bs : List ℕ) (b : Bool) → has_record bs ≡ b
    → (has_record bs ≡ true → records_end (drop (record_size bs) bs) ≤ length (drop (record_size bs) bs)) → records_end bs ≤ length bs
end-le_step bs true has later = omega (arith, end-has bs has, later has, length-drop (record_size bs) bs, has-le bs has)
end-le_step bs false none later = omega (arith, end-none bs none)

end-le_most : (most : ℕ) (bs : List ℕ) → length bs ≤ most → records_end bs ≤ length bs
end-le_most zero bs short = omega (arith, end-none bs (none_in-short bs (omega arith)))
end-le_most (suc most) bs short =
    end-le_step bs (has_record bs) refl (λ has. end-le_most most (drop (record_size bs) bs) (shorter bs most short))

pub end-le : (bs : List ℕ) → records_end bs ≤ length bs
end-le bs = end-le_most (length bs) bs (omega arith)

-- of a trace that its type can count, the place is told as it is
pub told_place-exact : (bs : List ℕ) → length bs < 2 ^ 64 → told_place 0 bs ≡ broken_of bs
told_place-exact bs short =
    let tell : Option ℕ → Option ℕ = option_map (λ place. min (0 + place) count_most) in
    let le = end-le bs in
    elim (cases_eq (records_end bs) (length bs)) [
      | inl same ↦ ap tell (unbroken bs same) ∙ sym (unbroken bs same)
      | inr other ↦ ap tell (broken bs other) ∙ ap Some (omega arith) ∙ sym (broken bs other)
    ]

told_step : (o : Option ℕ) (before size most : ℕ)
    → option_map (λ place. min (before + place) most) (option_map (λ place. size + place) o)
    ≡ option_map (λ place. min (min (before + size) most + place) most) o
told_step None before size most = refl
told_step (Some place) before size most = ap Some (omega arith)

pub told_place-has : (before : ℕ) (bs : List ℕ) → has_record bs ≡ true
    → told_place before bs ≡ told_place (min (before + record_size bs) count_most) (drop (record_size bs) bs)
told_place-has before bs h =
    ap (option_map (λ place. min (before + place) count_most)) (broken-has bs h)
    ∙ told_step (broken_of (drop (record_size bs) bs)) before (record_size bs) count_most

-- ---- what is on the air

make_broadcast : Option ℕ → List Record → Option ℕ → Broadcast
make_broadcast rested records broken = record { records = records; broken = broken; rested = rested }

-- the whole record at the front is given
pub given : (size place after at : ℕ) (held next datagram : List ℕ) → IsWhole size held → at ≡ be_number (take 6 held)
    → datagram ≡ take (size - 8) (drop 8 held) → after ≡ min (place + size) count_most → next ≡ drop size held
    → (rested : Option ℕ) (later : List ℕ)
    → trace_broadcast place rested (held ++ later)
    ≡ record (trace_broadcast after rested (next ++ later))
    { records = (record { at = at; bytes = datagram }) ∷ records_of (next ++ later) }
unfolding make_broadcast
given size place after at held next datagram whole at-is datagram-is after-is next-is rested later =
    let bs = held ++ later in
    let has = has-append held later whole.has in
    let same : record_size bs ≡ size = size-append held later (omega (arith, whole.header, whole.within)) ∙ sym whole.is in
    let rest : drop (record_size bs) bs ≡ next ++ later =
    ap (λ n. drop n bs) same ∙ drop-append-le size held later whole.within ∙ ap (λ l. l ++ later) (sym next-is) in
    let first : first_record bs ≡ record { at = at; bytes = datagram } =
    first-append held later whole.has
    ∙ ap₂ make_record (first-at held ∙ sym at-is) (first-bytes held ∙ ap (λ n. take (n - 8) (drop 8 held)) (sym whole.is) ∙ sym datagram-is) in
    ap₂ (make_broadcast rested)
    (records_of-has bs has ∙ ap₂ ◌∷◌ first (ap records_of rest))
    (told_place-has place bs has ∙ ap₂ told_place (ap (λ n. min (place + n) count_most) same ∙ sym after-is) rest)

-- its bytes are those of that record alone
pub given_bytes : (size at : ℕ) (held next datagram : List ℕ) → IsWhole size held → at ≡ be_number (take 6 held)
    → datagram ≡ take (size - 8) (drop 8 held) → next ≡ drop size held
    → (later : List ℕ) → (bytes : List ℕ) × (held ++ later ≡ bytes ++ (next ++ later)) × AreRecords bytes (record { at = at; bytes = datagram } ∷ [])
given_bytes size at held next datagram whole at-is datagram-is next-is later =
    let front = take size held in
    let behind = drop size held in
    let joined : held ≡ front ++ behind = sym (take-append-drop size held) in
    let len : length front ≡ size = length-take-le size held whole.within in
    let long : 8 ≤ length front = omega (arith, len, whole.header) in
    let same : record_size front ≡ size = sym (size-append front behind long) ∙ ap record_size (sym joined) ∙ sym whole.is in
    let has : has_record front ≡ true = has_from-le front (omega (arith, same, len)) in
    let first : first_record front ≡ record { at = at; bytes = datagram } =
    sym (first-append front behind has) ∙ ap first_record (sym joined)
    ∙ ap₂ make_record (first-at held ∙ sym at-is) (first-bytes held ∙ ap (λ n. take (n - 8) (drop 8 held)) (sym whole.is) ∙ sym datagram-is) in
    let split : held ++ later ≡ front ++ (next ++ later) =
    ap (λ l. l ++ later) joined ∙ append_assoc front behind later ∙ ap (λ l. front ++ (l ++ later)) (sym next-is) in (
      front,
      split,
      λ more.
          records_of-has (front ++ more) (has-append front more has)
          ∙ ap₂ ◌∷◌ (first-append front more has ∙ first)
          (ap records_of (ap (λ n. drop n (front ++ more)) (size-append front more long ∙ same) ∙ drop_at front more size len)),
    )

-- what was given from the front of what is held was given from the front of all that is ahead
pub Gives-ahead : (event : AirEvent) (buf old mid new : List ℕ) (a b : Option (List ℕ)) → Stays (bytes_ahead old a) (bytes_ahead mid b)
    → ((later : List ℕ) → Gives event buf (mid ++ later) (new ++ later)) → Becomes (bytes_ahead old a) (bytes_ahead new b) (Gives event buf)
Gives-ahead event buf old mid new None b same gives = tt
Gives-ahead event buf old mid new (Some x) None same gives = absurd same
Gives-ahead event buf old mid new (Some x) (Some y) same gives = subst (λ (l : List ℕ). Gives event buf l (new ++ y)) same (gives y)

-- the whole record at the front is of a later moment
pub late : (size until : ℕ) (held : List ℕ) → IsWhole size held → until < be_number (take 6 held) → (later : List ℕ)
    → IsPast until (records_of (held ++ later))
late size until held whole past later =
    let has = has-append held later whole.has in
    subst (IsPast until) (sym (records_of-has (held ++ later) has))
    (subst (λ (r : Record). until < r.at) (sym (first-append held later whole.has)) (subst (λ n. until < n) (sym (first-at held)) past))

-- no record is left, and nothing else or something
pub ended : (place : ℕ) (held : List ℕ) → IsPart held → held ≡ [] → told_place place held ≡ None
ended place held part none =
    ap (option_map (λ p. min (place + p) count_most)) (unbroken held (end-none held part.none ∙ sym (ap length none)))

pub cut : (place : ℕ) (held : List ℕ) → IsPart held → 0 < length held → place ≤ count_most → told_place place held ≡ Some place
cut place held part some fits =
    let end = end-none held part.none in
    ap (option_map (λ p. min (place + p) count_most)) (broken held (λ e. absurd (omega arith)) ∙ ap Some end) ∙ ap Some (omega arith)
