-- Values of attributes without markup: decimal numbers and base64. They stand in a text as they are, and are read back.
use Rattle.std.proofs.Common.{◌≡◌, ◌≢◌, ℕ, zero, suc, ◌/◌, ◌%◌, ◌*◌, ◌+◌, ◌^◌, ◌<◌, ◌≤◌, Bool, true, false, not, ◌&&◌, ◌==◌, nat_lt, List, [], ◌∷◌, length, replicate, slice_index, Some, IsUtf8, take_while, decimal, refl, subst, ap, ◌∙◌, inl, inr, arith, lt-ltb, ltb-true, eq-eqb}
use Rattle.std.specs.List.{AllByRecursion, list_all, prefix_len}
use Rattle.std.specs.Char.{is_digit, digit_value}
use Rattle.std.specs.Str.Parse.{AllDigits, digits_value}
use Rattle.std.proofs.lemmas.Bool.{cases_lt, and_parts, not-true, ne_eqb, eqb-false}
use Rattle.std.proofs.lemmas.Fmt.{decimal_is_IsNumeral_wide}
use Rattle.std.proofs.lemmas.List.{drop_all, get_or_past}
use Rattle.std.proofs.lemmas.Str.{IsUtf8-append, IsUtf8-nil, IsUtf8-encode, encode_ascii}
use Rattle.std.proofs.lemmas.Str.Parse.{digit_from_value}
use lib.Utf8.{low_scalar}
use Rattle.base64.specs.Rfc4648.{encode_symbols, encode_group, padding_len}
use Rattle.base64.specs.Engines.{standard}
use Rattle.base64.specs.GeneralPurpose.{encode_of, decoded_of}
use Rattle.base64.proofs.EngineFacts.{decode_of-encode_of}
use Rattle.mb_base.specs.Number.{AreBytes}
use Rattle.mb_xml.specs.Name.{is_space}
use Rattle.mb_xml.specs.Reference.{are_references, are_references_in, replaced, replaced_in}
use Rattle.mb_xml.specs.Value.{skip_space, number_of, bytes_of}
use Rattle.mb_fdt_text.proofs.Lists.{each_append, each_weaker}

-- A byte of ASCII that no value has to escape. It is a test, so that it computes over the table of base64.
abbrev pub is_plain : ℕ → Bool
is_plain b = nat_lt b 128 && not (b == 60) && not (b == 34) && not (b == 38)

-- a value of such bytes
abbrev pub IsPlain : List ℕ → Type 0
IsPlain value = AllByRecursion (λ b. is_plain b ≡ true) value

-- what the test of a byte says
record PlainByte (b : ℕ) : Type 0 where
  ascii : b < 128
  less : b ≢ 60
  quote : b ≢ 34
  amp : (b == 38) ≡ false

plain_byte : (b : ℕ) → is_plain b ≡ true → PlainByte b
plain_byte b e =
    let outer = and_parts (nat_lt b 128 && not (b == 60) && not (b == 34)) (not (b == 38)) e in
    let middle = and_parts (nat_lt b 128 && not (b == 60)) (not (b == 34)) outer.0 in
    let inner = and_parts (nat_lt b 128) (not (b == 60)) middle.0 in
    record {
      ascii = ltb-true b 128 inner.0;
      less = eqb-false b 60 (not-true (b == 60) inner.1);
      quote = eqb-false b 34 (not-true (b == 34) middle.1);
      amp = not-true (b == 38) outer.1;
    }

-- ---- what holds of a plain value

-- a value without `<` and without the quote around it
abbrev pub IsQuotable : List ℕ → Type 0
IsQuotable value = AllByRecursion (λ b. (b ≢ 60) × (b ≢ 34)) value

-- it can stand between quotes
pub plain_quotable : (value : List ℕ) → IsPlain value → IsQuotable value
plain_quotable value is = each_weaker (λ b. is_plain b ≡ true) (λ b. (b ≢ 60) × (b ≢ 34)) (λ (b : ℕ) (e : is_plain b ≡ true). let byte = plain_byte b e in (byte.less, byte.quote)) value is

-- it has no reference
pub plain_references : (value : List ℕ) → IsPlain value → are_references value ≡ true
unfolding are_references_in
plain_references [] is = refl
plain_references (b ∷ value) is = rw (plain_byte b is.0).amp (plain_references value is.1)

-- so that nothing is replaced in it
pub plain_replaced : (value : List ℕ) → IsPlain value → replaced value ≡ value
unfolding replaced_in
plain_replaced [] is = refl
plain_replaced (b ∷ value) is = rw (plain_byte b is.0).amp (ap (λ (l : List ℕ). b ∷ l) (plain_replaced value is.1))

-- one byte of ASCII before UTF-8
pub ascii_then : (b : ℕ) (bytes : List ℕ) → b < 128 → IsUtf8 bytes → IsUtf8 (b ∷ bytes)
ascii_then b bytes small utf8 = IsUtf8-append (b ∷ []) bytes (subst IsUtf8 (encode_ascii b small) (IsUtf8-encode b (low_scalar b (omega arith)))) utf8

-- and it is UTF-8
pub plain_utf8 : (value : List ℕ) → IsPlain value → IsUtf8 value
plain_utf8 [] is = IsUtf8-nil
plain_utf8 (b ∷ value) is = ascii_then b value (plain_byte b is.0).ascii (plain_utf8 value is.1)

-- ---- decimal numbers

digit_plain : (b : ℕ) → 48 ≤ b → b ≤ 57 → is_plain b ≡ true
digit_plain b low high = rw (lt-ltb b 128 (omega arith), ne_eqb b 60 (λ e. omega arith), ne_eqb b 34 (λ e. omega arith), ne_eqb b 38 (λ e. omega arith)) refl

digits_plain : (digits : List ℕ) → AllDigits 10 digits → IsPlain digits
digits_plain [] are = tt
digits_plain (b ∷ digits) are = let digit = digit_from_value b are.0 in (digit_plain b digit.0 digit.1, digits_plain digits are.1)

-- a number of 64 digits at most
pub decimal_plain : (n : ℕ) → n < 10 ^ 64 → IsPlain (decimal n)
decimal_plain n small = digits_plain (decimal n) (decimal_is_IsNumeral_wide n small).0.1

-- ---- base64

-- a symbol of a table of plain ones; behind the table's end it is 0, which is plain too
symbol_plain : (table : List ℕ) (i : ℕ) → IsPlain table → is_plain (slice_index table i) ≡ true
symbol_plain [] i are = refl
symbol_plain (b ∷ table) zero are = are.0
symbol_plain (b ∷ table) (suc i) are = symbol_plain table i are.1

symbols_plain : (table bytes : List ℕ) → ((i : ℕ) → is_plain (slice_index table i) ≡ true) → IsPlain (encode_symbols table bytes)
unfolding encode_symbols
symbols_plain table [] symbol = tt
symbols_plain table (a ∷ []) symbol = (symbol (a / 4), (symbol (a % 4 * 16), tt))
symbols_plain table (a ∷ b ∷ []) symbol = (symbol (a / 4), (symbol (a % 4 * 16 + b / 16), (symbol (b % 16 * 4), tt)))
symbols_plain table (a ∷ b ∷ c ∷ rest) symbol =
    each_append (λ d. is_plain d ≡ true) (encode_group table a b c) (encode_symbols table rest)
    (symbol (a / 4), (symbol (a % 4 * 16 + b / 16), (symbol (b % 16 * 4 + c / 64), (symbol (c % 64), tt))))
    (symbols_plain table rest symbol)

-- the padding is `=`
padding_plain : (n : ℕ) → IsPlain (replicate n 61)
padding_plain zero = tt
padding_plain (suc n) = (refl, padding_plain n)

plain_listed : (bytes : List ℕ) → list_all is_plain bytes ≡ true → IsPlain bytes
plain_listed [] e = tt
plain_listed (b ∷ bytes) e = let parts = and_parts (is_plain b) (list_all is_plain bytes) e in (parts.0, plain_listed bytes parts.1)

-- the base64 of any bytes
pub base64_plain : (bytes : List ℕ) → IsPlain (encode_of standard bytes)
base64_plain bytes =
    each_append (λ d. is_plain d ≡ true) (encode_symbols standard.encode_table bytes) (replicate (padding_len (length bytes)) 61)
    (symbols_plain standard.encode_table bytes (λ (i : ℕ). symbol_plain standard.encode_table i (plain_listed standard.encode_table refl)))
    (padding_plain (padding_len (length bytes)))

-- ---- what is read back

-- a digit is no white space, so that a number of digits is read as a whole
digit_no_space : (b : ℕ) → 48 ≤ b → b ≤ 57 → is_space b ≡ false
digit_no_space b low high = rw (ne_eqb b 32 (λ e. omega arith), ne_eqb b 9 (λ e. omega arith), ne_eqb b 13 (λ e. omega arith), ne_eqb b 10 (λ e. omega arith)) refl

digits_skipped : (digits : List ℕ) → AllDigits 10 digits → skip_space digits ≡ digits
unfolding skip_space
digits_skipped [] are = refl
digits_skipped (b ∷ digits) are = let digit = digit_from_value b are.0 in rw (digit_no_space b digit.0 digit.1) refl

digits_taken : (digits : List ℕ) → AllDigits 10 digits → take_while (λ b. is_digit b 10) digits ≡ digits
digits_taken [] are = refl
digits_taken (b ∷ digits) are =
    let more : 1 + prefix_len (λ c. is_digit c 10) digits ≡ suc (prefix_len (λ c. is_digit c 10) digits) = omega arith in
    rw (lt-ltb (digit_value b) 10 are.0, more) (ap (λ (l : List ℕ). b ∷ l) (digits_taken digits are.1))

number_read : (limit : ℕ) (digits : List ℕ) → AllDigits 10 digits → 0 < length digits → digits_value 10 digits < limit → number_of limit digits ≡ Some (digits_value 10 digits)
unfolding number_of
number_read limit digits are some below =
    rw (digits_skipped digits are, digits_taken digits are, drop_all (length digits) digits (omega arith), lt-ltb 0 (length digits) some, lt-ltb (digits_value 10 digits) limit below) refl

-- a number from its decimal form
pub decimal_read : (limit n : ℕ) → n < 10 ^ 64 → n < limit → number_of limit (decimal n) ≡ Some n
decimal_read limit n small below =
    let is = decimal_is_IsNumeral_wide n small in
    number_read limit (decimal n) is.0.1 is.0.0 (omega (arith, is.1)) ∙ ap Some is.1

-- bytes from their base64
pub base64_read : (count : ℕ) (bytes : List ℕ) → length bytes ≡ count → AreBytes bytes → bytes_of count (encode_of standard bytes) ≡ Some bytes
unfolding bytes_of decoded_of
base64_read count bytes same are =
    rw (decode_of-encode_of standard bytes refl (within bytes are), eq-eqb (length bytes) count same) refl
  where
    within : (bytes : List ℕ) → AreBytes bytes → (i : ℕ) → slice_index bytes i < 256
    within bytes are i = elim (cases_lt i (length bytes)) [
      | inl lt ↦ are i 0 lt
      | inr ge ↦ let past : slice_index bytes i ≡ 0 = get_or_past bytes i 0 ge in omega arith
    ]
