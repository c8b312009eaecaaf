-- Lemmas on the writing of a header: what it appends, and that it is read back.
use Rattle.std.proofs.Common.{◌≡◌, ℕ, ◌+◌, ◌*◌, ◌^◌, ◌<◌, ◌≤◌, ◌||◌, Bool, true, false, nat_lt, nat_le, if◌then◌else◌, List, [], ◌∷◌, ◌++◌, length, take, drop, Option, Some, None, unwrap_or, IfNone, Ok, ◌↔◌, inl, inr, refl, sym, subst, ap, ap₂, ◌∙◌, arith, append_assoc, length-append, length-take-le}
use Rattle.std.proofs.lemmas.Grind.{common_steps}
use Rattle.std.proofs.lemmas.List.{take-append-drop}
use Rattle.std.proofs.lemmas.Bool.{cases_lt}
use Rattle.std.specs.Int.{from_bool}
use Rattle.mb_base.specs.Number.{be_bytes}
use Rattle.mb_base.proofs.NumberLemmas.{numbers_read_back, be_bytes-nil, length-be_bytes}
use Rattle.mb_lct.specs.declared.head.Lct.{Lct}
use Rattle.mb_lct.specs.Header.{first_word, Header, field_bytes, number_in}
use Rattle.mb_lct.specs.Written.{lct_bytes, first_bytes, has_half, half_of, toi_words, toi_words_of, words_of, tsi_width, toi_width}
use Rattle.mb_lct.specs.Laws.{HeadersAreWritten, HeadersAreReadBack, WordsAreFewest, HeadersAreShort}
use Rattle.mb_lct.proofs.HeaderLemmas.{bit-most, length-fields, number-some}
use Rattle.mb_lct.proofs.ReadLemmas.{head-same, lct-Ok, not_lt, lt-true}
use Rattle.mb_lct.proofs.FieldLemmas.{power_le}

-- ---- a number fits its bytes

le-false : (a b : ℕ) → nat_le a b ≡ false → b < a
le-false a b is = grind (arith, common_steps)

false-le : (a b : ℕ) → b < a → nat_le a b ≡ false
false-le a b lt = grind (arith, common_steps)

or-left : (b c : Bool) → (b || c) ≡ false → b ≡ false
or-left true c is = cc
or-left false c is = refl

or-right : (b c : Bool) → (b || c) ≡ false → c ≡ false
or-right true c is = cc
or-right false c is = is

no_half-tsi : (lct : Lct) → has_half lct ≡ false → lct.tsi < 2 ^ 32
no_half-tsi lct is = le-false _ _ (or-left _ _ is)

no_half-toi : (lct : Lct) → has_half lct ≡ false → unwrap_or lct.toi 0 < 2 ^ 96
no_half-toi lct is = le-false _ _ (or-right (nat_le (2 ^ 32) lct.tsi) _ is)

tsi-holds : (half : Bool) (tsi : ℕ) → tsi < 2 ^ 48 → (half ≡ false → tsi < 2 ^ 32) → tsi < 256 ^ (4 + 2 * from_bool half)
tsi-holds false tsi most low = low refl
tsi-holds true tsi most low = most

whole-holds : (toi : ℕ) (b c : Bool) → nat_lt toi (2 ^ 32) ≡ b → nat_lt toi (2 ^ 64) ≡ c → toi < 2 ^ 96
    → toi < 256 ^ (4 * (if b then 1 else if c then 2 else 3) + 2 * 0)
whole-holds toi true c is_b is_c most = lt-true _ _ is_b
whole-holds toi false true is_b is_c most = lt-true _ _ is_c
whole-holds toi false false is_b is_c most = most

half-holds : (toi : ℕ) (b c d : Bool) → nat_lt toi (2 ^ 16) ≡ b → nat_lt toi (2 ^ 48) ≡ c → nat_lt toi (2 ^ 80) ≡ d → toi < 2 ^ 112
    → toi < 256 ^ (4 * (if b then 0 else if c then 1 else if d then 2 else 3) + 2 * 1)
half-holds toi true c d is_b is_c is_d most = lt-true _ _ is_b
half-holds toi false true d is_b is_c is_d most = lt-true _ _ is_c
half-holds toi false false true is_b is_c is_d most = lt-true _ _ is_d
half-holds toi false false false is_b is_c is_d most = most

toi-holds : (half : Bool) (toi : ℕ) → toi < 2 ^ 112 → (half ≡ false → toi < 2 ^ 96)
    → toi < 256 ^ (4 * toi_words half (Some toi) + 2 * from_bool half)
toi-holds false toi most low = whole-holds toi _ _ refl refl (low refl)
toi-holds true toi most low = half-holds toi _ _ _ refl refl refl most

whole-most : (b c : Bool) → (if b then 1 else if c then 2 else 3) ≤ 3
whole-most true c = omega arith
whole-most false true = omega arith
whole-most false false = omega arith

whole-some : (b c : Bool) → 0 < (if b then 1 else if c then 2 else 3)
whole-some true c = omega arith
whole-some false true = omega arith
whole-some false false = omega arith

half-most : (b c d : Bool) → (if b then 0 else if c then 1 else if d then 2 else 3) ≤ 3
half-most true c d = omega arith
half-most false true d = omega arith
half-most false false true = omega arith
half-most false false false = omega arith

words-most : (half : Bool) (toi : Option ℕ) → toi_words half toi ≤ 3
words-most half None = omega arith
words-most false (Some toi) = whole-most _ _
words-most true (Some toi) = half-most _ _ _

toi-some : (half : Bool) (toi : ℕ) → 0 < 4 * toi_words half (Some toi) + 2 * from_bool half
toi-some false toi =
    let some : 0 < toi_words false (Some toi) = whole-some _ _ in
    omega arith
toi-some true toi = omega arith

-- ---- the length

pub headers_short : HeadersAreShort
unfolding lct_bytes
headers_short lct ext_words =
    let most = words-most (has_half lct) lct.toi in
    let bit = bit-most (has_half lct) in
    let tsi : List ℕ = be_bytes (tsi_width lct) lct.tsi in
    let toi : List ℕ = be_bytes (toi_width lct) (unwrap_or lct.toi 0) in
    let front = length-append (first_bytes lct ext_words) tsi in
    let whole = length-append (first_bytes lct ext_words ++ tsi) toi in
    let tsi_size : length tsi ≡ tsi_width lct = length-be_bytes (tsi_width lct) lct.tsi in
    let toi_size : length toi ≡ toi_width lct = length-be_bytes (toi_width lct) (unwrap_or lct.toi 0) in
    (whole ∙ omega arith, omega arith)

-- ---- what is written is a header

-- the TOI is read back from its bytes
toi-back : (half : Bool) (toi : Option ℕ) → unwrap_or toi 0 < 2 ^ 112 → (half ≡ false → unwrap_or toi 0 < 2 ^ 96) → IfNone toi (half ≡ false)
    → number_in (be_bytes (4 * toi_words half toi + 2 * from_bool half) (unwrap_or toi 0)) ≡ toi
toi-back half None most low none = ap (λ b. number_in (be_bytes (4 * 0 + 2 * from_bool b) 0)) none ∙ ap number_in (be_bytes-nil 0)
toi-back half (Some toi) most low none =
    let width = 4 * toi_words half (Some toi) + 2 * from_bool half in
    number-some (be_bytes width toi) (omega (arith, length-be_bytes width toi, toi-some half toi))
    ∙ ap Some (numbers_read_back width toi (toi-holds half toi most low))

-- without a TOI there is no half word
none-no_half : (toi : Option ℕ) (tsi : ℕ) → IfNone toi (tsi < 2 ^ 32) → IfNone toi ((nat_le (2 ^ 32) tsi || nat_le (2 ^ 96) (unwrap_or toi 0)) ≡ false)
none-no_half None tsi small = rw (false-le (2 ^ 32) tsi small) refl
none-no_half (Some toi) tsi small = small

-- the header that is written, with its extensions
abbrev header_of : Lct → ℕ → List ℕ → Header
header_of lct ext_words more = record {
  word = record {
    version = 1;
    congestion_flag = 0;
    reserved = 0;
    tsi_flag = 1;
    toi_flag = toi_words_of lct;
    half_word_flag = half_of lct;
    current_time_flag = 0;
    residual_time_flag = 0;
    close_session = lct.close_session;
    close_object = lct.close_object;
    header_length = words_of lct + ext_words;
    codepoint = lct.cp;
  };
  cci = 0 ∷ 0 ∷ 0 ∷ 0 ∷ [];
  tsi = be_bytes (tsi_width lct) lct.tsi;
  toi = be_bytes (toi_width lct) (unwrap_or lct.toi 0);
  times = [];
  area = take (4 * ext_words) more;
}

tail-joined : (t o a m : List ℕ) → (t ++ o) ++ (a ++ m) ≡ ((t ++ o ++ []) ++ a) ++ m
tail-joined t o a m = grind (arith, common_steps)

pub headers_written : HeadersAreWritten
unfolding lct_bytes
headers_written lct ext_words fits more room =
    let header = header_of lct ext_words more in
    let word = header.word in
    let half = bit-most (has_half lct) in
    let tsi_size = length-be_bytes (tsi_width lct) lct.tsi in
    let toi_size = length-be_bytes (toi_width lct) (unwrap_or lct.toi 0) in
    let area_size = length-take-le (4 * ext_words) more room in
    let size = length-fields (first_word word) header.cci header.tsi header.toi [] in
    let whole = length-append (field_bytes header) header.area in
    let bytes_size : length (lct_bytes lct ext_words) ≡ 4 * words_of lct = (headers_short lct ext_words).0 in
    record {
      header = header;
      behind = drop (4 * ext_words) more;
      joined =
          ap (λ (l : List ℕ). lct_bytes lct ext_words ++ l) (sym (take-append-drop (4 * ext_words) more))
          ∙ ap₂ (λ n l. 16 ∷ n ∷ (words_of lct + ext_words) ∷ lct.cp ∷ 0 ∷ 0 ∷ 0 ∷ 0 ∷ l) (omega arith)
          (tail-joined header.tsi header.toi header.area (drop (4 * ext_words) more));
      is = record {
        word = record {
          version = omega arith;
          congestion_flag = omega arith;
          reserved = omega arith;
          tsi_flag = omega arith;
          toi_flag = omega (arith, words-most (has_half lct) lct.toi);
          half_word_flag = omega arith;
          current_time_flag = omega arith;
          residual_time_flag = omega arith;
        };
        version = refl;
        cci = refl;
        tsi = omega arith;
        toi = omega arith;
        times = refl;
        whole = omega arith;
        session = omega arith;
      };
      says =
          head-same _ _ _ _ _ _ _ _ _ _ _ _ _ _
          (sym (numbers_read_back _ lct.tsi (tsi-holds (has_half lct) lct.tsi fits.tsi (no_half-tsi lct))))
          (sym (toi-back (has_half lct) lct.toi fits.toi (no_half-toi lct) (none-no_half lct.toi lct.tsi fits.without_toi)))
          refl refl refl (omega arith) (omega arith);
    }

pub headers_read_back : HeadersAreReadBack
headers_read_back lct ext_words more fits room =
    let size : length (lct_bytes lct ext_words) ≡ 4 * words_of lct = (headers_short lct ext_words).0 in
    lct-Ok _ _ (headers_written lct ext_words fits more room)
    ∙ ap₂ (λ n m. Ok (record { lct = lct; ext_at = n; end = m })) size (omega arith)

-- ---- what is appended

pub appended : (lct : Lct) (ext_words : ℕ) (old one two three bytes tsi toi : List ℕ) → one ≡ old ++ bytes → two ≡ one ++ tsi → three ≡ two ++ toi
    → bytes ≡ first_bytes lct ext_words → tsi ≡ be_bytes (tsi_width lct) lct.tsi → toi ≡ be_bytes (toi_width lct) (unwrap_or lct.toi 0)
    → three ≡ old ++ lct_bytes lct ext_words
unfolding lct_bytes
appended lct ext_words old one two three bytes tsi toi one_is two_is three_is bytes_is tsi_is toi_is =
    rw (three_is, two_is, one_is, bytes_is, tsi_is, toi_is)
    (ap (λ l. l ++ be_bytes (toi_width lct) (unwrap_or lct.toi 0)) (append_assoc old (first_bytes lct ext_words) (be_bytes (tsi_width lct) lct.tsi))
    ∙ append_assoc old (first_bytes lct ext_words ++ be_bytes (tsi_width lct) lct.tsi) (be_bytes (toi_width lct) (unwrap_or lct.toi 0)))

pub first-is : (lct : Lct) (ext_words half words count session object : ℕ) → half ≡ half_of lct → words ≡ toi_words_of lct → count ≡ words_of lct
    → session ≡ from_bool lct.close_session → object ≡ from_bool lct.close_object
    → 16 ∷ (128 + 32 * words + 16 * half + (session * 2 + object)) ∷ (count + ext_words) ∷ lct.cp ∷ 0 ∷ 0 ∷ 0 ∷ 0 ∷ []
    ≡ first_bytes lct ext_words
first-is lct ext_words half words count session object h o n a b =
    ap₂ (λ f w. 16 ∷ f ∷ w ∷ lct.cp ∷ 0 ∷ 0 ∷ 0 ∷ 0 ∷ []) (omega arith) (omega arith)

-- ---- the fewest words

-- a number that so many bytes hold and fewer do not
width_above : (n k w : ℕ) → 256 ^ k ≤ n → n < 256 ^ w → k < w
width_above n k w above below =
    elim (cases_lt k w) [ inl lt ↦ lt | inr le ↦ absurd (let more = power_le w k le in omega arith) ]

whole-fewest : (toi words : ℕ) (b c : Bool) → nat_lt toi (2 ^ 32) ≡ b → nat_lt toi (2 ^ 64) ≡ c → 0 < words + 0
    → toi < 256 ^ (4 * words + 2 * 0) → (if b then 1 else if c then 2 else 3) ≤ words
whole-fewest toi words true c is_b is_c some below = omega arith
whole-fewest toi words false true is_b is_c some below =
    let wider = width_above toi 4 (4 * words + 2 * 0) (not_lt _ _ is_b) below in
    omega arith
whole-fewest toi words false false is_b is_c some below =
    let wider = width_above toi 8 (4 * words + 2 * 0) (not_lt _ _ is_c) below in
    omega arith

half-fewest : (toi words : ℕ) (b c d : Bool) → nat_lt toi (2 ^ 16) ≡ b → nat_lt toi (2 ^ 48) ≡ c → nat_lt toi (2 ^ 80) ≡ d
    → toi < 256 ^ (4 * words + 2 * 1) → (if b then 0 else if c then 1 else if d then 2 else 3) ≤ words
half-fewest toi words true c d is_b is_c is_d below = omega arith
half-fewest toi words false true d is_b is_c is_d below =
    let wider = width_above toi 2 (4 * words + 2 * 1) (not_lt _ _ is_b) below in
    omega arith
half-fewest toi words false false true is_b is_c is_d below =
    let wider = width_above toi 6 (4 * words + 2 * 1) (not_lt _ _ is_c) below in
    omega arith
half-fewest toi words false false false is_b is_c is_d below =
    let wider = width_above toi 10 (4 * words + 2 * 1) (not_lt _ _ is_d) below in
    omega arith

fewest : (half : Bool) (toi words : ℕ) → 0 < words + from_bool half → toi < 256 ^ (4 * words + 2 * from_bool half)
    → toi_words half (Some toi) ≤ words
fewest false toi words some below = whole-fewest toi words _ _ refl refl some below
fewest true toi words some below = half-fewest toi words _ _ _ refl refl refl below

enough : (half : Bool) (toi words : ℕ) → toi < 2 ^ 112 → (half ≡ false → toi < 2 ^ 96) → toi_words half (Some toi) ≤ words
    → toi < 256 ^ (4 * words + 2 * from_bool half)
enough half toi words most low few =
    let holds = toi-holds half toi most low in
    let more = power_le (4 * toi_words half (Some toi) + 2 * from_bool half) (4 * words + 2 * from_bool half) (omega arith) in
    omega arith

pub words_fewest : WordsAreFewest
words_fewest lct ext_words toi words fits is some =
    let value = ap (λ (o : Option ℕ). unwrap_or o 0) is in
    let most : toi < 2 ^ 112 = subst (λ n. n < 2 ^ 112) value fits.toi in
    let low : has_half lct ≡ false → toi < 2 ^ 96 = λ none. subst (λ n. n < 2 ^ 96) value (no_half-toi lct none) in
    subst (λ (o : Option ℕ). (toi < 256 ^ (4 * words + 2 * half_of lct)) ↔ (toi_words (has_half lct) o ≤ words)) (sym is)
    (fewest (has_half lct) toi words some, enough (has_half lct) toi words most low)
