-- What a symbol does to the bytes and the bits of a text.
use Rattle.std.proofs.Common.{◌≡◌, ℕ, zero, suc, replicate, ◌+◌, ◌-◌, ◌*◌, ◌<◌, ◌≤◌, min, Bool, true, false, List, [], ◌∷◌, ◌++◌, length, get_or, set, take, drop, Option, Some, None, is_some, refl, sym, ◌∙◌, ap, arith}
use Rattle.std.proofs.lemmas.Grind.{common_steps}
use Rattle.std.proofs.Math.Nat.{mul-le-mul_right}
use Rattle.std.proofs.lemmas.List.{length-take}
use Rattle.mb_geom.specs.Description.{Description, symbols}
use Rattle.mb_bits.specs.BitRow.{bit_in, row_of, Flips}
use Rattle.mb_window.specs.Symbols.{keep_at, cut, place_of, hear_symbols, symbols_from}
use Rattle.mb_window.specs.Buffer.{seen, seen_in, missing_in, IsBuffer, keep_run}
use Rattle.mb_window.proofs.SeenLemmas.{length-row_from, row_from-get, row_from-set, length-seen, seen-get, seen-set, missing-set, row_from-none, seen-none}

-- a symbol's bytes and its bit, in the place of others
pub record IsPut (d : Description) (bytes words new_bytes new_words piece : List ℕ) (place : ℕ) : Type 0 where
  pub within : place < symbols d
  pub clear : bit_in words place ≡ false
  pub flips : Flips place words new_words
  pub piece_is : length piece ≡ min d.symbol (d.length - place * d.symbol)
  pub reach : place * d.symbol ≤ d.length
  pub bytes_are : new_bytes ≡ take (place * d.symbol) bytes ++ (piece ++ drop (place * d.symbol + length piece) bytes)

-- a symbol's place is within what is sent
pub place-within : (place count t f : ℕ) → place < count → count * t < f + t → place * t ≤ f
place-within place count t f before last =
    let more : suc place * t ≤ count * t = mul-le-mul_right t before in
    omega (arith, more)

-- the same by what calls gave
pub put_by : (d : Description) (bytes words payload new_bytes new_words lent lent_words read_words : List ℕ) (place t u f len : ℕ) (bit : Bool)
    → place < symbols d → symbols d * d.symbol < d.length + d.symbol → bit ≡ bit_in read_words place → read_words ≡ words → bit ≡ false
    → Flips place lent_words new_words → lent_words ≡ words → t ≡ d.symbol → u ≡ d.symbol → f ≡ d.length → len ≡ min u (f - place * t)
    → min d.symbol (d.length - place * d.symbol) ≤ length payload
    → new_bytes ≡ take (place * t) lent ++ (take len payload ++ drop (place * t + length (take len payload)) lent) → lent ≡ bytes
    → IsPut d bytes words new_bytes new_words (take len payload) place
put_by d bytes words payload new_bytes new_words lent lent_words read_words place t u f len bit within last reads read clear flips lent_is t_is u_is f_is len_is enough put lent_bytes =
    let size : len ≡ min d.symbol (d.length - place * d.symbol) = rw (u_is, f_is, t_is) at len_is in record {
      within = within;
      clear = ap (λ ws. bit_in ws place) (sym read) ∙ sym reads ∙ clear;
      flips = rw lent_is at flips;
      piece_is = omega (arith, length-take len payload, size, enough);
      reach = place-within place (symbols d) d.symbol d.length within last;
      bytes_are = rw (lent_bytes, t_is) at put;
    }

-- whether a symbol was heard is what its bit says
pub seen-bit : (d : Description) (bytes words : List ℕ) (place : ℕ) → place < symbols d
    → is_some (get_or (seen_in d bytes words) place None) ≡ bit_in words place
seen-bit d bytes words place within =
    seen-get (row_of (symbols d) words) d.symbol bytes place
    ∙ row_from-get (symbols d) 0 place place words within (omega arith)

pub length-seen_in : (d : Description) (bytes words : List ℕ) → length (seen_in d bytes words) ≡ symbols d
length-seen_in d bytes words = length-seen (row_of (symbols d) words) d.symbol bytes ∙ length-row_from (symbols d) 0 words

pub seen-put : (d : Description) (bytes words new_bytes new_words piece : List ℕ) (missing place : ℕ) → IsBuffer d bytes words missing
    → IsPut d bytes words new_bytes new_words piece place → seen_in d new_bytes new_words ≡ set (seen_in d bytes words) place (Some piece)
seen-put d bytes words new_bytes new_words piece missing place b p =
    let row = row_from-set (symbols d) 0 place place words new_words p.flips (omega arith) p.within p.clear in
    let len : length piece ≡ min d.symbol (length bytes - place * d.symbol) = rw b.bytes_are p.piece_is in
    let reach : place * d.symbol ≤ length bytes = rw b.bytes_are p.reach in
    let below : place < length (row_of (symbols d) words) = omega (arith, length-row_from (symbols d) 0 words, p.within) in
    ap (λ bits. seen bits d.symbol new_bytes) row
    ∙ seen-set (row_of (symbols d) words) d.symbol bytes piece new_bytes place (place * d.symbol) refl reach below len p.bytes_are

pub missing-put : (d : Description) (bytes words new_bytes new_words piece : List ℕ) (missing place : ℕ) → IsBuffer d bytes words missing
    → IsPut d bytes words new_bytes new_words piece place → missing_in (seen_in d new_bytes new_words) + 1 ≡ missing
missing-put d bytes words new_bytes new_words piece missing place b p =
    let below : place < length (seen_in d bytes words) = omega (arith, length-seen_in d bytes words, p.within) in
    ap (λ kept. missing_in kept + 1) (seen-put d bytes words new_bytes new_words piece missing place b p)
    ∙ missing-set (seen_in d bytes words) place piece below (seen-bit d bytes words place p.within ∙ p.clear)
    ∙ sym b.missing_are

pub buffer-put : (d : Description) (bytes words new_bytes new_words piece : List ℕ) (missing place : ℕ) → IsBuffer d bytes words missing
    → IsPut d bytes words new_bytes new_words piece place → length new_bytes ≡ length bytes → IsBuffer d new_bytes new_words (missing - 1)
buffer-put d bytes words new_bytes new_words piece missing place b p same = record {
  bytes_are = same ∙ b.bytes_are;
  words_are = p.flips.words ∙ b.words_are;
  whole = b.whole;
  last = b.last;
  missing_are = omega (arith, missing-put d bytes words new_bytes new_words piece missing place b p);
}

-- the bytes of a payload that are kept are those that are copied
pub cut-take : (d : Description) (place len : ℕ) (bytes : List ℕ) → len ≡ min d.symbol (d.length - place * d.symbol)
    → length bytes ≤ d.symbol → len ≤ length bytes → cut d place bytes ≡ take len bytes
cut-take d place len bytes is most enough = cut_from (d.length - place * d.symbol) d.symbol len bytes is most enough
  where
    cut_from : (k t len : ℕ) (bytes : List ℕ) → len ≡ min t k → length bytes ≤ t → len ≤ length bytes → take k bytes ≡ take len bytes
    cut_from k t len bytes is most enough = grind (arith, common_steps)

-- a symbol that is kept
pub keep-new : (d : Description) (kept : List (Option (List ℕ))) (place : ℕ) (bytes piece : List ℕ)
    → is_some (get_or kept place None) ≡ false → cut d place bytes ≡ piece → set kept place (Some piece) ≡ keep_at d place bytes kept
keep-new d kept place bytes piece new is = rw (new, is) refl

pub keep-old : (d : Description) (kept : List (Option (List ℕ))) (place : ℕ) (bytes : List ℕ)
    → is_some (get_or kept place None) ≡ true → kept ≡ keep_at d place bytes kept
keep-old d kept place bytes old = rw old refl

pub seen-fresh : (d : Description) (bytes words : List ℕ) (count : ℕ) → words ≡ replicate count 0 → seen_in d bytes words ≡ replicate (symbols d) None
seen-fresh d bytes words count none =
    ap (λ ws. seen (row_of (symbols d) ws) d.symbol bytes) none
    ∙ ap (λ bits. seen bits d.symbol bytes) (row_from-none (symbols d) 0 count) ∙ seen-none (symbols d) d.symbol bytes

-- a run of symbols is those of a body
pub run-hear : (n : ℕ) (d : Description) (sbn esi place : ℕ) (bytes : List ℕ) (kept : List (Option (List ℕ))) → place ≡ place_of d sbn esi
    → keep_run n d place bytes kept ≡ hear_symbols d (symbols_from n d.symbol sbn esi bytes) kept
run-hear zero d sbn esi place bytes kept is = refl
run-hear (suc n) d sbn esi place bytes kept is =
    run-hear n d sbn (esi + 1) (place + 1) (drop d.symbol bytes) (keep_at d place (take d.symbol bytes) kept) (omega (arith, is))
    ∙ ap (λ k. hear_symbols d (symbols_from n d.symbol sbn (esi + 1) (drop d.symbol bytes)) (keep_at d k (take d.symbol bytes) kept)) is

take_all : (t : ℕ) (rest : List ℕ) → take (min t (length rest)) rest ≡ take t rest
take_all t [] = grind (arith, common_steps)
take_all zero (x ∷ rest) = grind (arith, common_steps)
take_all (suc t) (x ∷ rest) =
    let next : min (suc t) (suc (length rest)) ≡ suc (min t (length rest)) = omega arith in
    rw next (ap (λ xs. x ∷ xs) (take_all t rest))

drop_all : (t : ℕ) (rest : List ℕ) → drop (min t (length rest)) rest ≡ drop t rest
drop_all t [] = grind (arith, common_steps)
drop_all zero (x ∷ rest) = grind (arith, common_steps)
drop_all (suc t) (x ∷ rest) =
    let next : min (suc t) (suc (length rest)) ≡ suc (min t (length rest)) = omega arith in
    rw next (drop_all t rest)

-- one symbol of a run
pub run-step : (left : ℕ) (d : Description) (place m : ℕ) (rest front back : List ℕ) (kept : List (Option (List ℕ))) → 0 < left
    → m ≡ min d.symbol (length rest) → front ≡ take m rest → back ≡ drop m rest
    → keep_run (left - 1) d (place + 1) back (keep_at d place front kept) ≡ keep_run left d place rest kept
run-step zero d place m rest front back kept some is front_is back_is = absurd (omega arith)
run-step (suc n) d place m rest front back kept some is front_is back_is =
    let one_less : suc n - 1 ≡ n = omega arith in
    let front_all : front ≡ take d.symbol rest = front_is ∙ ap (λ k. take k rest) is ∙ take_all d.symbol rest in
    let back_all : back ≡ drop d.symbol rest = back_is ∙ ap (λ k. drop k rest) is ∙ drop_all d.symbol rest in
    rw (one_less, front_all, back_all) refl

-- the bytes behind it are those of the others
pub bytes-step : (left place t f n m : ℕ) → 0 < left → min (left * t) (f - place * t) ≤ n → m ≡ min t n
    → min ((left - 1) * t) (f - (place + 1) * t) ≤ n - m
bytes-step zero place t f n m some enough is = absurd (omega arith)
bytes-step (suc k) place t f n m some enough is =
    let one_less : suc k - 1 ≡ k = omega arith in
    rw one_less (omega arith)
