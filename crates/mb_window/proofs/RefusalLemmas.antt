-- Why a text has no such symbols, and that a payload has the bytes of those that it has.
use Rattle.std.proofs.Common.{◌≡◌, ℕ, zero, suc, ◌+◌, ◌-◌, ◌*◌, ◌%◌, ◌<◌, ◌≤◌, min, max, Bool, true, false, nat_lt, nat_le, ◌==◌, ◌&&◌, ◌||◌, ◌⊎◌, inl, inr, length, Some, None, refl, arith}
use Rattle.std.proofs.lemmas.Grind.{common_steps}
use Rattle.mb_geom.specs.Description.{Description, symbols, block_count, block_size, tail}
use Rattle.mb_alc.specs.Packet.{Body}
use Rattle.mb_window.specs.Symbols.{symbol_count, place_of}
use Rattle.mb_window.specs.Assembled.{is_good_length}
use Rattle.mb_window.specs.Window.{symbols_refused}
use Rattle.mb_window.specs.declared.heard.WindowHeard.TheVariants.{Block, Symbol, Length}

nat_le-true : (a b : ℕ) → a ≤ b → nat_le a b ≡ true
nat_le-true a b le = grind (arith, common_steps)

nat_le-false : (a b : ℕ) → b < a → nat_le a b ≡ false
nat_le-false a b lt = grind (arith, common_steps)

nat_lt-true : (a b : ℕ) → a < b → nat_lt a b ≡ true
nat_lt-true a b lt = grind (arith, common_steps)

nat_lt-false : (a b : ℕ) → b ≤ a → nat_lt a b ≡ false
nat_lt-false a b le = grind (arith, common_steps)

pub refused-block : (d : Description) (body : Body) → block_count d ≤ body.sbn → symbols_refused d body ≡ Some Block
refused-block d body none = rw (nat_le-true (block_count d) body.sbn none) refl

pub refused-symbol : (d : Description) (body : Body) → body.sbn < block_count d → block_size d body.sbn < body.esi + max (symbol_count d body) 1
    → symbols_refused d body ≡ Some Symbol
refused-symbol d body there past =
    rw (nat_le-false (block_count d) body.sbn there, nat_lt-true (block_size d body.sbn) (body.esi + max (symbol_count d body) 1) past) refl

pub refused-length : (d : Description) (body : Body) → body.sbn < block_count d → body.esi + max (symbol_count d body) 1 ≤ block_size d body.sbn
    → is_good_length d body ≡ false → symbols_refused d body ≡ Some Length
refused-length d body there within bad =
    rw (nat_le-false (block_count d) body.sbn there, nat_lt-false (block_size d body.sbn) (body.esi + max (symbol_count d body) 1) within, bad) refl

pub refused-none : (d : Description) (body : Body) → body.sbn < block_count d → body.esi + max (symbol_count d body) 1 ≤ block_size d body.sbn
    → is_good_length d body ≡ true → symbols_refused d body ≡ None
refused-none d body there within good =
    rw (nat_le-false (block_count d) body.sbn there, nat_lt-false (block_size d body.sbn) (body.esi + max (symbol_count d body) 1) within, good) refl

-- whether a length is good, by the place behind the symbols
pub good-length : (d : Description) (body : Body) (end : ℕ) (good : Bool) → end ≡ place_of d body.sbn body.esi + symbol_count d body
    → good ≡ (nat_lt 0 (length body.payload) && ((length body.payload % d.symbol == 0) || ((end == symbols d) && nat_le (tail d) (length body.payload % d.symbol))))
    → is_good_length d body ≡ good
good-length d body end good end_is is = rw (is, end_is) refl

whole_bytes : (len t q count first f : ℕ) → q * t + 0 ≡ len → count ≡ q → min (count * t) (f - first * t) ≤ len
whole_bytes len t q count first f len_is count_is = rw count_is (omega (arith, len_is))

short_bytes_from : (len t q r count first f kt : ℕ) → q * t + suc r ≡ len → count ≡ q + 1 → first + count ≡ kt → f - (kt - 1) * t ≤ suc r
    → min (count * t) (f - first * t) ≤ len
short_bytes_from len t q r count first f kt len_is count_is end enough =
    let before : kt - 1 ≡ first + q = omega arith in
    let rest : f - (first + q) * t ≤ suc r = rw before at enough in
    omega (arith, rest, len_is)

-- a payload of a good length has the bytes of its symbols
pub bytes-from : (len t q r count first f kt : ℕ) → q * t + r ≡ len → count ≡ q + min 1 r
    → (r ≡ 0) ⊎ ((first + count ≡ kt) × (f - (kt - 1) * t ≤ r)) → min (count * t) (f - first * t) ≤ len
bytes-from len t q zero count first f kt len_is count_is good = whole_bytes len t q count first f len_is (omega (arith, count_is))
bytes-from len t q (suc r) count first f kt len_is count_is (inl none) = absurd (omega arith)
bytes-from len t q (suc r) count first f kt len_is count_is (inr last) =
    short_bytes_from len t q r count first f kt len_is (omega (arith, count_is)) last.0 last.1

-- what a good length says
good_says : (none short_is end_is tail_is : Bool) → (none && (short_is || (end_is && tail_is))) ≡ true → (short_is ≡ true) ⊎ ((end_is ≡ true) × (tail_is ≡ true))
good_says false short_is end_is tail_is good = cc
good_says true true end_is tail_is good = inl refl
good_says true false false tail_is good = cc
good_says true false true false good = cc
good_says true false true true good = inr (refl, refl)

is_zero : (n : ℕ) → (n == 0) ≡ true → n ≡ 0
is_zero n is = grind (arith, common_steps)

is_same : (m n : ℕ) → (m == n) ≡ true → m ≡ n
is_same m n is = grind (arith, common_steps)

is_le : (m n : ℕ) → nat_le m n ≡ true → m ≤ n
is_le m n is = grind (arith, common_steps)

pub length-says : (len t end kt least : ℕ) → (nat_lt 0 len && ((len % t == 0) || ((end == kt) && nat_le least (len % t)))) ≡ true
    → (len % t ≡ 0) ⊎ ((end ≡ kt) × (least ≤ len % t))
length-says len t end kt least good =
    elim (good_says (nat_lt 0 len) (len % t == 0) (end == kt) (nat_le least (len % t)) good)
    [ inl whole ↦ inl (is_zero (len % t) whole) | inr short ↦ inr (is_same end kt short.0, is_le least (len % t) short.1) ]
