-- What decoding into room for n bytes answers, beside what the value decodes to.
use Rattle.std.proofs.Common.{◌≡◌, ◌≢◌, ℕ, ◌*◌, ◌/◌, ◌<◌, ◌≤◌, ◌==◌, Bool, true, false, nat_lt, if◌then◌else◌, List, [], ◌++◌, length, drop, Option, Some, None, option_and_then, Result, Ok, Err, refl, sym, ◌∙◌, ap, inl, inr, arith, length-append}
use Rattle.std.proofs.lemmas.Bool.{cases_Bool, cases_eq, le-ltb, ltb-true, eq-eqb, ne_eqb}
use Rattle.std.proofs.lemmas.List.{append-nil, drop_all}
use Rattle.base64.specs.declared.decode.DecodeError.{DecodeError}
use Rattle.base64.specs.declared.decode.DecodeSliceError.{DecodeSliceError}
use Rattle.base64.specs.declared.decode.DecodeSliceError.TheVariants.{OutputSliceTooSmall}
use Rattle.base64.specs.declared.engine.general_purpose.GeneralPurpose.{GeneralPurpose}
use Rattle.base64.specs.Decode.{lone_error, groups_error, suffix_error, or_else, or_error, bytes_fit, decode_outcome, groups_bytes, groups_before_last, suffix_bytes, IsWrittenOver}
use Rattle.base64.specs.Engines.{standard}
use Rattle.base64.specs.GeneralPurpose.{decode_of, decoded_of, decoded_bytes_of, decode_slice_of}
use Rattle.base64.proofs.Decoding.{length-groups_bytes}
use Rattle.std.specs.Result.{result_ok}
use Rattle.mb_xml.specs.Value.{some_if, bytes_of}

-- the answer by the errors of the lone byte and of the rest, and a test whether the room is too small
slice_answer : Option DecodeError → Bool → Option DecodeError → ℕ → ℕ → Result ℕ DecodeSliceError
slice_answer lone small rest count n = or_error lone (if small then Err OutputSliceTooSmall else or_error rest (bytes_fit count n))

abbrev pub Decodes : Option DecodeError → Option DecodeError → Type 0
Decodes lone rest = or_else lone rest ≡ None

answer_ok : (lone rest : Option DecodeError) (small : Bool) (count n k : ℕ) → slice_answer lone small rest count n ≡ Ok k → (Decodes lone rest) × (k ≡ count)
unfolding slice_answer
answer_ok (Some e) rest small count n k is = cc
answer_ok None rest true count n k is = cc
answer_ok None (Some e) false count n k is = cc
answer_ok None None false count n k is = elim (cases_Bool (nat_lt n count)) [
  | inl past ↦ cc (rw past at is)
  | inr fits ↦ (refl, cc (rw fits at is))
]

answer_found : (lone rest : Option DecodeError) (small : Bool) (count n : ℕ) → Decodes lone rest → count ≤ n → (small ≡ true → n < count) → slice_answer lone small rest count n ≡ Ok count
unfolding slice_answer
answer_found (Some e) rest small count n decodes fits room = cc
answer_found None (Some e) small count n decodes fits room = cc
answer_found None None true count n decodes fits room = absurd (omega (arith, room refl))
answer_found None None false count n decodes fits room = rw (le-ltb n count fits) refl

-- the errors of an input's lone last byte and of the rest
abbrev pub lone_of : GeneralPurpose → List ℕ → Option DecodeError
lone_of e s = lone_error e.decode_table e.padding.value s

abbrev pub rest_of : GeneralPurpose → List ℕ → Option DecodeError
rest_of e s = or_else (groups_error e.decode_table s (groups_before_last (length s)))
    (suffix_error e.decode_table e.padding.value e.config.decode_allow_trailing_bits e.config.decode_padding_mode (4 * groups_before_last (length s)) s)

pub slice_decodes : (e : GeneralPurpose) (s : List ℕ) (n k : ℕ) → decode_slice_of e s n ≡ Ok k
    → (decode_of e s ≡ Ok (decoded_bytes_of e s)) × (k ≡ length (decoded_bytes_of e s))
unfolding slice_answer
slice_decodes e s n k is =
    let answer = answer_ok (lone_of e s) (rest_of e s) (nat_lt (n / 3) (groups_before_last (length s))) (length (decoded_bytes_of e s)) n k is in
    (rw answer.0 refl, answer.1)

decodes_outcome : (fault : Option DecodeError) (bytes found : List ℕ) → decode_outcome fault bytes ≡ Ok found → (fault ≡ None) × (bytes ≡ found)
decodes_outcome None bytes found is = (refl, cc)
decodes_outcome (Some e) bytes found is = cc

pub decodes_slice : (e : GeneralPurpose) (s found : List ℕ) (n : ℕ) → decode_of e s ≡ Ok found → length found ≤ n → decode_slice_of e s n ≡ Ok (length found)
unfolding slice_answer
decodes_slice e s found n is fits =
    let outcome = decodes_outcome (or_else (lone_of e s) (rest_of e s)) (decoded_bytes_of e s) found is in
    let groups : ℕ = groups_before_last (length s) in
    let fronts : length (groups_bytes e.decode_table s groups) ≡ 3 * groups = length-groups_bytes e.decode_table s groups in
    let whole : length (decoded_bytes_of e s) ≡ length found = ap length outcome.1 in
    let most : 3 * groups ≤ length found = omega (arith, whole, fronts, length-append (groups_bytes e.decode_table s groups) (suffix_bytes e.decode_table e.padding.value (4 * groups) s)) in
    let room : nat_lt (n / 3) groups ≡ true → n < length (decoded_bytes_of e s) = λ small. absurd (omega (arith, ltb-true (n / 3) groups small)) in
    answer_found (lone_of e s) (rest_of e s) (nat_lt (n / 3) groups) (length (decoded_bytes_of e s)) n outcome.0 (omega (arith, whole)) room ∙ ap Ok whole

-- ---- the bytes, where there are n

bytes_by : GeneralPurpose → ℕ → List ℕ → Option (List ℕ)
bytes_by e n s = option_and_then (λ bytes. some_if (length bytes == n) bytes) (result_ok (decode_of e s))

bytes_by_some : (e : GeneralPurpose) (s old new : List ℕ) (n : ℕ) → decode_slice_of e s n ≡ Ok n → IsWrittenOver (decoded_bytes_of e s) old new → length old ≡ n
    → Some new ≡ bytes_by e n s
unfolding bytes_by
bytes_by_some e s old new n is written len =
    let found = slice_decodes e s n n is in
    let all : drop (length (decoded_bytes_of e s)) old ≡ [] = drop_all (length (decoded_bytes_of e s)) old (omega (arith, found.1, len)) in
    let same : new ≡ decoded_bytes_of e s = written ∙ ap (λ (xs : List ℕ). decoded_bytes_of e s ++ xs) all ∙ append-nil (decoded_bytes_of e s) in
    let count : (length (decoded_bytes_of e s) == n) ≡ true = eq-eqb (length (decoded_bytes_of e s)) n (sym found.1) in
    rw (found.0, count) (ap Some same)

bytes_by_none : (e : GeneralPurpose) (s : List ℕ) (n : ℕ) (outcome : Result (List ℕ) DecodeError) → decode_of e s ≡ outcome
    → ((k : ℕ) → decode_slice_of e s n ≡ Ok k → k ≢ n) → None ≡ bytes_by e n s
unfolding bytes_by
bytes_by_none e s n (Err fault) is other = rw is refl
bytes_by_none e s n (Ok found) is other = elim (cases_eq (length found) n) [
  | inl same ↦ absurd (other (length found) (decodes_slice e s found n is (omega (arith, same))) same)
  | inr differs ↦
      let count : (length found == n) ≡ false = ne_eqb (length found) n differs in
      rw (is, count) refl
]

pub bytes_some : (s old new : List ℕ) (n : ℕ) → decode_slice_of standard s n ≡ Ok n → IsWrittenOver (decoded_bytes_of standard s) old new → length old ≡ n
    → Some new ≡ bytes_of n s
unfolding bytes_by bytes_of decoded_of
bytes_some s old new n is written len = bytes_by_some standard s old new n is written len

pub bytes_none : (s : List ℕ) (n : ℕ) → ((k : ℕ) → decode_slice_of standard s n ≡ Ok k → k ≢ n) → None ≡ bytes_of n s
unfolding bytes_by bytes_of decoded_of
bytes_none s n other = bytes_by_none standard s n (decode_of standard s) refl other

-- ---- a value that is too long for n bytes

long_by : (e : GeneralPurpose) (s : List ℕ) (n : ℕ) (outcome : Result (List ℕ) DecodeError) → decode_of e s ≡ outcome → n ≤ 16 → 24 < length s → None ≡ bytes_by e n s
unfolding bytes_by
long_by e s n (Err fault) is most long = rw is refl
long_by e s n (Ok found) is most long =
    let outcome = decodes_outcome (or_else (lone_of e s) (rest_of e s)) (decoded_bytes_of e s) found is in
    let groups : ℕ = groups_before_last (length s) in
    let fronts : length (groups_bytes e.decode_table s groups) ≡ 3 * groups = length-groups_bytes e.decode_table s groups in
    let many : 6 ≤ groups = omega (arith, long) in
    let whole : length (decoded_bytes_of e s) ≡ length found = ap length outcome.1 in
    let differs : length found ≢ n = λ same. absurd (omega (
      arith,
      same,
      most,
      many,
      whole,
      fronts,
      length-append (groups_bytes e.decode_table s groups) (suffix_bytes e.decode_table e.padding.value (4 * groups) s),
    )) in
    let count : (length found == n) ≡ false = ne_eqb (length found) n differs in
    rw (is, count) refl

pub bytes_long : (s : List ℕ) (n : ℕ) → n ≤ 16 → 24 < length s → None ≡ bytes_of n s
unfolding bytes_by bytes_of decoded_of
bytes_long s n most long = long_by standard s n (decode_of standard s) refl most long
