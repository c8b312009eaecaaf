-- A trace is read in one way: the functions of `specs/Trace.antt` meet its relation, and nothing else does.
use Rattle.std.proofs.Common.{◌≡◌, ◌≢◌, ℕ, zero, suc, ◌+◌, ◌-◌, ◌^◌, ◌<◌, ◌≤◌, List, [], ◌∷◌, ◌++◌, length, take, drop, replicate, Bool, true, false, Option, Some, None, refl, sym, ap, ap₂, subst, ◌∙◌, inl, inr, arith, length-append, length-take-le, length-drop, append_assoc, append-nil}
use Rattle.std.specs.Prelude.{flat_map, All}
use Rattle.std.proofs.lemmas.Bool.{cases_eq, cases_lt}
use Rattle.std.proofs.lemmas.List.{take_at, drop_at, nil_from_length, length-replicate, take-append-drop}
use Rattle.std.proofs.lemmas.List.Elements.{All-nil, All-cons, All-head, All-tail, All-take, All-drop, All-append, All-replicate}
use Rattle.std.proofs.Math.Seq.{take-add, take-append-add}
use Rattle.mb_outside.specs.Outside.{count_most}
use Rattle.mb_outside.specs.Broadcast.{Record}
use Rattle.mb_trace.specs.Number.{AreBytes, be_number, be_bytes}
use Rattle.mb_trace.specs.Trace.{record_bytes, record_most, IsRecord, IsCut, EndsWith, IsTrace, TracesAreRead, record_size, has_record, first_record, records_of, records_end, broken_of, trace_broadcast, TellsTrace}
use Rattle.mb_trace.proofs.NumberLemmas.{length-be_bytes, numbers_read_back, bytes_written_back, be_number-below}
use Rattle.mb_trace.proofs.TraceLemmas.{size-is, size_least, has-le, has_not-lt, has_from-le, none_in-short, first-at, first-bytes, size-append, records_of-has, records_of-none, length-record_bytes, length-first, unbroken, broken, told_place-exact}

-- ---- a record that was written is read

abbrev header : Record → List ℕ
header r = be_bytes 6 r.at ++ be_bytes 2 (length r.bytes)

length-header : (r : Record) → length (header r) ≡ 8
length-header r =
    omega (arith, length-append (be_bytes 6 r.at) (be_bytes 2 (length r.bytes)), length-be_bytes 6 r.at, length-be_bytes 2 (length r.bytes))

size-written : (r : Record) (later : List ℕ) → IsRecord r → record_size (record_bytes r ++ later) ≡ 8 + length r.bytes
size-written r later fits =
    let moment = be_bytes 6 r.at in
    let size = be_bytes 2 (length r.bytes) in
    let parts : record_bytes r ++ later ≡ moment ++ (size ++ (r.bytes ++ later)) =
    append_assoc (moment ++ size) r.bytes later ∙ append_assoc moment size (r.bytes ++ later) in
    let field : take 2 (drop 6 (record_bytes r ++ later)) ≡ size =
    ap (λ l. take 2 (drop 6 l)) parts ∙ ap (take 2) (drop_at moment (size ++ (r.bytes ++ later)) 6 (length-be_bytes 6 r.at))
    ∙ take_at size (r.bytes ++ later) 2 (length-be_bytes 2 (length r.bytes)) in
    size-is (record_bytes r ++ later) ∙ ap (λ l. 8 + be_number l) field ∙ ap (λ n. 8 + n) (numbers_read_back 2 (length r.bytes) (omega (arith, fits.datagram)))

has-written : (r : Record) (later : List ℕ) → IsRecord r → has_record (record_bytes r ++ later) ≡ true
has-written r later fits =
    has_from-le (record_bytes r ++ later) (omega (arith, size-written r later fits, length-append (record_bytes r) later, length-record_bytes r))

abbrev make_record : ℕ → List ℕ → Record
make_record at bytes = record { at = at; bytes = bytes }

first-written : (r : Record) (later : List ℕ) → IsRecord r → first_record (record_bytes r ++ later) ≡ r
unfolding first_record
first-written r later fits =
    let moment = be_bytes 6 r.at in
    let size = be_bytes 2 (length r.bytes) in
    let bs = record_bytes r ++ later in
    let whole : bs ≡ header r ++ (r.bytes ++ later) = append_assoc (header r) r.bytes later in
    let parts : bs ≡ moment ++ (size ++ (r.bytes ++ later)) = whole ∙ append_assoc moment size (r.bytes ++ later) in
    let at-is : be_number (take 6 bs) ≡ r.at =
    ap be_number (ap (take 6) parts ∙ take_at moment (size ++ (r.bytes ++ later)) 6 (length-be_bytes 6 r.at)) ∙ numbers_read_back 6 r.at fits.moment in
    let count : record_size bs - 8 ≡ length r.bytes = omega (arith, size-written r later fits) in
    let bytes-is : take (record_size bs - 8) (drop 8 bs) ≡ r.bytes =
    ap₂ take count (ap (drop 8) whole ∙ drop_at (header r) (r.bytes ++ later) 8 (length-header r)) ∙ take_at r.bytes later (length r.bytes) refl in
    ap₂ make_record at-is bytes-is

rest-written : (r : Record) (later : List ℕ) → IsRecord r → drop (record_size (record_bytes r ++ later)) (record_bytes r ++ later) ≡ later
rest-written r later fits =
    drop_at (record_bytes r) later (record_size (record_bytes r ++ later)) (length-record_bytes r ∙ sym (size-written r later fits))

-- the records in front of what is no record
read_off : (records : List Record) (rest : List ℕ) → All IsRecord records → has_record rest ≡ false
    → records_of (flat_map record_bytes records ++ rest) ≡ records
read_off [] rest fits none = records_of-none rest none
read_off (r ∷ rs) rest fits none =
    let later = flat_map record_bytes rs ++ rest in
    let first = All-head IsRecord r rs fits in
    ap records_of (append_assoc (record_bytes r) (flat_map record_bytes rs) rest)
    ∙ records_of-has (record_bytes r ++ later) (has-written r later first)
    ∙ ap₂ ◌∷◌ (first-written r later first) (ap records_of (rest-written r later first) ∙ read_off rs rest (All-tail IsRecord r rs fits) none)

-- ---- a cut record is no record

not_true : (b : Bool) → (b ≡ true → ⊥) → b ≡ false
not_true true refuted = absurd (refuted refl)
not_true false refuted = refl

part_of-cut : (bs : List ℕ) → IsCut bs → has_record bs ≡ false
part_of-cut bs cut = not_true (has_record bs) (λ has.
    let r = cut.of in
    let least = size_least bs in
    let fits = has-le bs has in
    let size : record_size (bs ++ cut.more) ≡ 8 + length r.bytes =
    ap record_size (sym cut.whole ∙ sym (append-nil (record_bytes r))) ∙ size-written r [] cut.fits in
    let lengths : 8 + length r.bytes ≡ length bs + length cut.more = sym (length-record_bytes r) ∙ ap length cut.whole ∙ length-append bs cut.more in
    cut.lacks (nil_from_length cut.more (omega (arith, size-append bs cut.more (omega arith)))))

end_none : (rest : List ℕ) (end : ℕ) (broken : Option ℕ) → EndsWith rest end broken → has_record rest ≡ false
end_none rest end None none = none_in-short rest (omega (arith, ap length none))
end_none rest end (Some place) cut = part_of-cut rest cut.0

end_is : (bytes rest : List ℕ) (end : ℕ) (broken : Option ℕ) → EndsWith rest end broken → records_end bytes ≡ end
    → length bytes ≡ end + length rest → broken ≡ broken_of bytes
end_is bytes rest end None none at len = sym (unbroken bytes (omega (arith, ap length none)))
end_is bytes rest end (Some place) cut at len =
    ap Some (cut.1 ∙ sym at) ∙ sym (broken bytes (λ same. cut.0.some (nil_from_length rest (omega arith))))

-- bytes are a trace in one way at most
pub one_reading : (bytes : List ℕ) (records : List Record) (broken : Option ℕ) → IsTrace bytes records broken
    → (records ≡ records_of bytes) × (broken ≡ broken_of bytes)
unfolding records_end
one_reading bytes records broken trace =
    let read : records_of bytes ≡ records = ap records_of trace.whole ∙ read_off records trace.rest trace.fits (end_none trace.rest _ broken trace.end) in
    let end : records_end bytes ≡ length (flat_map record_bytes records) = ap (λ l. length (flat_map record_bytes l)) read in
    let len = ap length trace.whole ∙ length-append (flat_map record_bytes records) trace.rest in
    (sym read, end_is bytes trace.rest _ broken trace.end end len)

-- ---- the reading is a trace

module _ (bs : List ℕ) (all : AreBytes bs) (has : has_record bs ≡ true) where
  field_bytes : 8 ≤ length bs
  field_bytes = omega (arith, size_least bs, has-le bs has)

  moment_bytes : be_bytes 6 (first_record bs).at ≡ take 6 bs
  moment_bytes =
      let len = length-take-le 6 bs (omega (arith, field_bytes)) in
      ap₂ be_bytes (sym len) (first-at bs) ∙ bytes_written_back (take 6 bs) (All-take (λ byte. byte < 256) 6 bs all)

  size_field : length (take 2 (drop 6 bs)) ≡ 2
  size_field = length-take-le 2 (drop 6 bs) (omega (arith, length-drop 6 bs, field_bytes))

  size_bytes : be_bytes 2 (length (first_record bs).bytes) ≡ take 2 (drop 6 bs)
  size_bytes =
      let number : length (first_record bs).bytes ≡ be_number (take 2 (drop 6 bs)) = omega (arith, length-first bs has, size-is bs) in
      ap₂ be_bytes (sym size_field) number
      ∙ bytes_written_back (take 2 (drop 6 bs)) (All-take (λ byte. byte < 256) 2 (drop 6 bs) (All-drop (λ byte. byte < 256) 6 bs all))

  -- the record at the front is the first bytes
  pub first_written : record_bytes (first_record bs) ≡ take (record_size bs) bs
  first_written =
      let count : record_size bs ≡ 8 + (record_size bs - 8) = omega (arith, size_least bs) in
      ap₂ ◌++◌ (ap₂ ◌++◌ moment_bytes size_bytes ∙ sym (take-add 6 2 bs)) (first-bytes bs)
      ∙ sym (take-add 8 (record_size bs - 8) bs) ∙ ap (λ n. take n bs) (sym count)

  pub first_fits : IsRecord (first_record bs)
  first_fits =
      let six = length-take-le 6 bs (omega (arith, field_bytes)) in
      let moment = subst (λ w. be_number (take 6 bs) < 256 ^ w) six (be_number-below (take 6 bs) (All-take (λ byte. byte < 256) 6 bs all)) in
      let size = subst (λ w. be_number (take 2 (drop 6 bs)) < 256 ^ w) size_field
      (be_number-below (take 2 (drop 6 bs)) (All-take (λ byte. byte < 256) 2 (drop 6 bs) (All-drop (λ byte. byte < 256) 6 bs all))) in
      record { moment = omega (arith, first-at bs); datagram = omega (arith, length-first bs has, size-is bs) }

-- bytes as their records and what is left
record Reading (bytes : List ℕ) : Type 0 where
  rest : List ℕ
  whole : bytes ≡ flat_map record_bytes (records_of bytes) ++ rest
  fits : All IsRecord (records_of bytes)
  none : has_record rest ≡ false
  left : AreBytes rest

reading-none : (bs : List ℕ) → AreBytes bs → has_record bs ≡ false → Reading bs
reading-none bs all none =
    let nothing = records_of-none bs none in record {
      rest = bs;
      whole = ap (λ l. flat_map record_bytes l ++ bs) (sym nothing);
      fits = subst (All IsRecord) (sym nothing) (All-nil IsRecord);
      none = none;
      left = all;
    }

reading-has : (bs : List ℕ) → AreBytes bs → has_record bs ≡ true → Reading (drop (record_size bs) bs) → Reading bs
reading-has bs all has later =
    let size = record_size bs in
    let records = records_of-has bs has in
    let written = flat_map record_bytes (records_of (drop size bs)) in record {
      rest = later.rest;
      whole =
          sym (take-append-drop size bs) ∙ ap₂ ◌++◌ (sym (first_written bs all has)) later.whole
          ∙ sym (append_assoc (record_bytes (first_record bs)) written later.rest)
          ∙ ap (λ l. flat_map record_bytes l ++ later.rest) (sym records);
      fits = subst (All IsRecord) (sym records) (All-cons IsRecord (first_record bs) (records_of (drop size bs)) (first_fits bs all has) later.fits);
      none = later.none;
      left = later.left;
    }

reading_step : (bs : List ℕ) → AreBytes bs → (b : Bool) → has_record bs ≡ b → (has_record bs ≡ true → Reading (drop (record_size bs) bs)) → Reading bs
reading_step bs all true has later = reading-has bs all has (later has)
reading_step bs all false none later = reading-none bs all none

reading : (most : ℕ) (bs : List ℕ) → length bs ≤ most → AreBytes bs → Reading bs
reading zero bs short all = reading-none bs all (none_in-short bs (omega arith))
reading (suc most) bs short all =
    let size = record_size bs in
    reading_step bs all (has_record bs) refl
    (λ has. reading most (drop size bs) (omega (arith, length-drop size bs, size_least bs)) (All-drop (λ byte. byte < 256) size bs all))

-- how many zeros make any cut record whole; a number that no proof writes out
enough : ℕ
enough = record_most

enough-is : enough ≡ record_most
unfolding enough
enough-is = refl

zeros : List ℕ
zeros = replicate enough 0

zeros-bytes : AreBytes zeros
unfolding zeros
zeros-bytes = All-replicate (λ byte. byte < 256) enough 0 (omega arith)

length-zeros : length zeros ≡ record_most
unfolding zeros
length-zeros = length-replicate enough 0 ∙ enough-is

size_most : (bs : List ℕ) → AreBytes bs → 8 ≤ length bs → record_size bs ≤ record_most
size_most bs all long =
    let two = length-take-le 2 (drop 6 bs) (omega (arith, length-drop 6 bs)) in
    let below = subst (λ w. be_number (take 2 (drop 6 bs)) < 256 ^ w) two
    (be_number-below (take 2 (drop 6 bs)) (All-take (λ byte. byte < 256) 2 (drop 6 bs) (All-drop (λ byte. byte < 256) 6 bs all))) in
    omega (arith, size-is bs)

-- zeros behind it make a cut record longer
size-zeros : (rest : List ℕ) → has_record rest ≡ false → length rest < record_size (rest ++ zeros)
size-zeros rest none = elim (cases_lt (length rest) 8) [
  | inl short ↦ omega (arith, size_least (rest ++ zeros))
  | inr long ↦ omega (arith, size-append rest zeros long, has_not-lt rest none)
]

cut_of-part : (rest : List ℕ) → AreBytes rest → has_record rest ≡ false → rest ≢ [] → IsCut rest
cut_of-part rest all none some =
    let padded = rest ++ zeros in
    let lengths = length-append rest zeros in
    let bytes = All-append (λ byte. byte < 256) rest zeros all zeros-bytes in
    let size = record_size padded in
    let most : size ≤ record_most = size_most padded bytes (omega (arith, length-zeros)) in
    let has : has_record padded ≡ true = has_from-le padded (omega (arith, length-zeros)) in
    let longer : length rest < size = size-zeros rest none in
    let more = take (size - length rest) zeros in
    let count : size ≡ length rest + (size - length rest) = omega arith in
    let len : length more ≡ size - length rest = length-take-le (size - length rest) zeros (omega (arith, length-zeros)) in record {
      of = first_record padded;
      more = more;
      fits = first_fits padded bytes has;
      whole = first_written padded bytes has ∙ ap (λ n. take n padded) count ∙ take-append-add rest zeros (size - length rest);
      some = some;
      lacks = λ nothing. absurd (omega (arith, ap length nothing));
    }

end_of : (bytes rest : List ℕ) (end : ℕ) → AreBytes rest → has_record rest ≡ false → records_end bytes ≡ end → length bytes ≡ end + length rest
    → EndsWith rest end (broken_of bytes)
end_of bytes rest end all none at len = elim (cases_eq (length rest) 0) [
  | inl nothing ↦ subst (EndsWith rest end) (sym (unbroken bytes (omega arith))) (nil_from_length rest nothing)
  | inr some ↦
      subst (EndsWith rest end) (sym (broken bytes (λ same. some (omega arith))))
      (cut_of-part rest all none (λ nothing. some (ap length nothing)), at)
]

pub is_reading : (bytes : List ℕ) → AreBytes bytes → IsTrace bytes (records_of bytes) (broken_of bytes)
unfolding records_end
is_reading bytes all =
    let read = reading (length bytes) bytes (omega arith) all in
    let len = ap length read.whole ∙ length-append (flat_map record_bytes (records_of bytes)) read.rest in record {
      rest = read.rest;
      whole = read.whole;
      fits = read.fits;
      end = end_of bytes read.rest (length (flat_map record_bytes (records_of bytes))) read.left read.none refl len;
    }

pub traces_read : TracesAreRead
traces_read bytes records broken all = (
  one_reading bytes records broken,
  λ same. subst (λ r. IsTrace bytes r broken) (sym same.0) (subst (IsTrace bytes (records_of bytes)) (sym same.1) (is_reading bytes all)),
)

pub tells_trace : (bytes : List ℕ) (rested : Option ℕ) → AreBytes bytes → length bytes ≤ count_most
    → TellsTrace bytes rested (Some (trace_broadcast 0 rested bytes))
tells_trace bytes rested all short =
    (subst (IsTrace bytes (records_of bytes)) (sym (told_place-exact bytes (omega (arith, short)))) (is_reading bytes all), refl)
