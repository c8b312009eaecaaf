-- Lemmas on a header's fields: those of its first word, and the parts of its bytes.
use Rattle.std.proofs.Common.{◌≡◌, ℕ, ◌+◌, ◌-◌, ◌*◌, ◌/◌, ◌%◌, ◌<◌, ◌≤◌, ◌==◌, Bool, true, false, if◌then◌else◌, Fits, w8, List, [], ◌∷◌, ◌++◌, length, get_or, take, drop, Some, None, refl, sym, ap, ap₂, subst, ◌∙◌, arith, length-append, length-take-le, length-drop, drop-drop}
use Rattle.std.proofs.lemmas.List.{take-append-drop}
use Rattle.std.proofs.lemmas.Grind.{common_steps}
use Rattle.std.proofs.Math.Seq.{take-append_seam, drop-append_seam}
use Rattle.std.proofs.lemmas.List.Elements.{All-head, All-tail, All-from_get_or}
use Rattle.std.specs.Int.{from_bool}
use Rattle.std.specs.List.{slice_range}
use Rattle.mb_base.specs.Number.{AreBytes, be_number}
use Rattle.mb_lct.specs.Header.{FirstWord, second_byte, first_word, IsFirstWord, BeginsWith, number_in}
use Rattle.mb_lct.specs.Lct.{version, congestion_flag, tsi_flag, toi_flag, half_word_flag, current_time_flag, residual_time_flag, close_session, close_object, header_length, codepoint}

pub true-same : (a b : ℕ) → a ≡ b → (a == b) ≡ true
true-same a b is = grind (arith, common_steps)

pub false-same : (a b : ℕ) → a < b → (a == b) ≡ false
false-same a b lt = grind (arith, common_steps)

-- ---- bytes

-- what a slice of bytes has
pub are_bytes : (bytes : List ℕ) → ((i : ℕ) → Fits w8 (get_or bytes i 0)) → AreBytes bytes
are_bytes bytes each = All-from_get_or (λ byte. byte < 256) bytes 0 (λ i within. omega (arith, each i))

-- ---- a bit

pub bit-most : (b : Bool) → from_bool b ≤ 1
bit-most true = omega arith
bit-most false = omega arith

pub bit-back : (b : Bool) → (from_bool b == 1) ≡ b
bit-back true = refl
bit-back false = refl

bit-of : (n : ℕ) (b : Bool) → n < 2 → (n == 1) ≡ b → from_bool b ≡ n
bit-of n true small is = grind (arith, common_steps)
bit-of n false small is = grind (arith, common_steps)

-- ---- the first word is read

-- the fields of the first word, as they are read from its bytes
pub record AreFields (bytes : List ℕ) (word : FirstWord) : Type 0 where
  pub some : 4 ≤ length bytes
  pub version : version bytes ≡ word.version
  pub congestion : congestion_flag bytes ≡ word.congestion_flag
  pub tsi : tsi_flag bytes ≡ word.tsi_flag
  pub toi : toi_flag bytes ≡ word.toi_flag
  pub half : half_word_flag bytes ≡ word.half_word_flag
  pub current : current_time_flag bytes ≡ word.current_time_flag
  pub residual : residual_time_flag bytes ≡ word.residual_time_flag
  pub session : close_session bytes ≡ word.close_session
  pub object : close_object bytes ≡ word.close_object
  pub length : header_length bytes ≡ word.header_length
  pub codepoint : codepoint bytes ≡ word.codepoint

fields-joined : (word : FirstWord) (behind : List ℕ) → IsFirstWord word → AreFields (first_word word ++ behind) word
fields-joined word behind is =
    let a = bit-most word.close_session in
    let b = bit-most word.close_object in
    let v = is.version in
    let c = is.congestion_flag in
    let z = is.reserved in
    let s = is.tsi_flag in
    let o = is.toi_flag in
    let h = is.half_word_flag in
    let t = is.current_time_flag in
    let r = is.residual_time_flag in
    let session : second_byte word / 2 % 2 ≡ from_bool word.close_session = omega arith in
    let object : second_byte word / 1 % 2 ≡ from_bool word.close_object = omega arith in
    record {
      some = omega (arith, length-append (first_word word) behind);
      version = omega arith;
      congestion = omega arith;
      tsi = omega arith;
      toi = omega arith;
      half = omega arith;
      current = omega arith;
      residual = omega arith;
      session = ap (λ n. n == 1) session ∙ bit-back word.close_session;
      object = ap (λ n. n == 1) object ∙ bit-back word.close_object;
      length = refl;
      codepoint = refl;
    }

pub fields-begin : (bytes : List ℕ) (word : FirstWord) → BeginsWith word bytes → AreFields bytes word
fields-begin bytes word begins = subst (λ l. AreFields l word) (sym begins.joined) (fields-joined word begins.behind begins.is)

-- ---- each word is a first word

-- the word that the bytes begin with
abbrev pub word_of : List ℕ → FirstWord
word_of bytes = record {
  version = version bytes;
  congestion_flag = congestion_flag bytes;
  reserved = get_or bytes 0 0 % 4;
  tsi_flag = tsi_flag bytes;
  toi_flag = toi_flag bytes;
  half_word_flag = half_word_flag bytes;
  current_time_flag = current_time_flag bytes;
  residual_time_flag = residual_time_flag bytes;
  close_session = close_session bytes;
  close_object = close_object bytes;
  header_length = header_length bytes;
  codepoint = codepoint bytes;
}

second-is : (n : ℕ) (a b : Bool) → n < 256 → (n / 2 % 2 == 1) ≡ a → (n / 1 % 2 == 1) ≡ b
    → n ≡ 128 * (n / 128 % 2) + 32 * (n / 32 % 4) + 16 * (n / 16 % 2) + 8 * (n / 8 % 2) + 4 * (n / 4 % 2) + 2 * from_bool a + from_bool b
second-is n a b small is_a is_b =
    let session = bit-of (n / 2 % 2) a (omega arith) is_a in
    let object = bit-of (n / 1 % 2) b (omega arith) is_b in
    omega arith

pub word-joined : (bytes : List ℕ) → AreBytes bytes → 4 ≤ length bytes → bytes ≡ first_word (word_of bytes) ++ drop 4 bytes
word-joined [] all some = absurd (omega arith)
word-joined (a ∷ []) all some = absurd (omega arith)
word-joined (a ∷ b ∷ []) all some = absurd (omega arith)
word-joined (a ∷ b ∷ c ∷ []) all some = absurd (omega arith)
word-joined (a ∷ b ∷ c ∷ d ∷ more) all some =
    let small = All-head (λ byte. byte < 256) b (c ∷ d ∷ more) (All-tail (λ byte. byte < 256) a (b ∷ c ∷ d ∷ more) all) in
    ap₂ (λ x y. x ∷ y ∷ c ∷ d ∷ more) (omega arith) (second-is b _ _ small refl refl)

first-within : (bytes : List ℕ) → get_or bytes 0 0 < 256 → IsFirstWord (word_of bytes)
first-within bytes small = record {
  version = omega arith;
  congestion_flag = omega arith;
  reserved = omega arith;
  tsi_flag = omega arith;
  toi_flag = omega arith;
  half_word_flag = omega arith;
  current_time_flag = omega arith;
  residual_time_flag = omega arith;
}

pub word-within : (bytes : List ℕ) → AreBytes bytes → IsFirstWord (word_of bytes)
word-within [] all = first-within [] (omega arith)
word-within (a ∷ more) all = first-within (a ∷ more) (All-head (λ byte. byte < 256) a more all)

pub word-begins : (bytes : List ℕ) → AreBytes bytes → 4 ≤ length bytes → BeginsWith (word_of bytes) bytes
word-begins bytes all some = record { behind = drop 4 bytes; joined = word-joined bytes all some; is = word-within bytes all }

-- ---- the parts of the bytes

pub between : (xs ys zs : List ℕ) (a b : ℕ) → a ≡ length xs → b ≡ a + length ys → slice_range (xs ++ (ys ++ zs)) a b ≡ ys
between xs ys zs a b start end =
    let size : b - a ≡ length ys = omega arith in
    ap (λ n. take n (drop a (xs ++ (ys ++ zs)))) size ∙ ap (λ n. take (length ys) (drop n (xs ++ (ys ++ zs)))) start
    ∙ ap (take (length ys)) (drop-append_seam xs (ys ++ zs)) ∙ take-append_seam ys zs

pub size-between : (bytes : List ℕ) (a b : ℕ) → a ≤ b → b ≤ length bytes → length (slice_range bytes a b) ≡ b - a
size-between bytes a b le within = length-take-le (b - a) (drop a bytes) (omega (arith, length-drop a bytes))

-- what stands from one offset on is what stands up to another, and the rest
pub cut : (bytes : List ℕ) (a b : ℕ) → a ≤ b → drop a bytes ≡ slice_range bytes a b ++ drop b bytes
cut bytes a b le =
    let same : a + (b - a) ≡ b = omega arith in
    sym (take-append-drop (b - a) (drop a bytes)) ∙ ap (λ l. slice_range bytes a b ++ l) (drop-drop (b - a) a bytes ∙ ap (λ n. drop n bytes) same)

-- ---- a field that may have no bytes

pub toi-is : (bytes : List ℕ) (a b : ℕ) → b ≡ a + length bytes → (if a == b then None else Some (be_number bytes)) ≡ number_in bytes
toi-is [] a b is =
    let same : (a == b) ≡ true = true-same a b (omega arith) in
    rw same refl
toi-is (x ∷ xs) a b is =
    let differ : (a == b) ≡ false = false-same a b (omega arith) in
    rw differ refl

pub number-some : (bytes : List ℕ) → 0 < length bytes → number_in bytes ≡ Some (be_number bytes)
number-some [] some = absurd (omega arith)
number-some (x ∷ xs) some = refl

-- ---- the parts joined

pub joined-right : (f c t o m a r : List ℕ) → ((f ++ c ++ t ++ o ++ m) ++ a) ++ r ≡ f ++ (c ++ (t ++ (o ++ (m ++ (a ++ r)))))
joined-right f c t o m a r = grind (arith, common_steps)

pub length-fields : (f c t o m : List ℕ) → length (f ++ c ++ t ++ o ++ m) ≡ length f + length c + length t + length o + length m
length-fields f c t o m = grind (arith, common_steps)
