-- Sums of symbols, one place after the other, and the LDPC and half symbols that are put behind the first.
use Rattle.std.proofs.Common.{◌≡◌, ℕ, zero, suc, ◌+◌, ◌-◌, ◌*◌, ◌/◌, ◌%◌, ◌<◌, ◌≤◌, ◌⊎◌, inl, inr, ◌==◌, ◌||◌, min, Bool, true, false, List, [], ◌∷◌, ◌++◌, length, slice_index, slice_index_or, bit_xor, refl, ap, ap₂, sym, ◌∙◌, arith}
use Rattle.std.proofs.Math.Nat.{mul-le-mul_left}
use Rattle.std.specs.Int.Bits.{xor_self, xor_zero_r}
use Rattle.std.specs.Int.{bit_at}
use Rattle.std.proofs.lemmas.Nat.Bits.{bit_at-zero}
use Rattle.mb_linear.specs.Row.{zeros}
use Rattle.std.proofs.lemmas.Bool.{cases_lt, eq-eqb, ne_eqb}
use Rattle.mb_bits.specs.BitRow.{bit_in, row_from, row_of}
use Rattle.mb_elim.specs.Kept.{firsts}
use Rattle.mb_elim.specs.Values.{byte_at, byte_sum}
use Rattle.mb_elim.proofs.Snoc.{length_firsts, firsts_same, nth_firsts}
use Rattle.mb_elim.proofs.RowsInWords.{length_row_from, row_from_snoc, row_within}
use Rattle.mb_rows.specs.Code.{RaptorCode, l_of}
use Rattle.mb_rows.specs.Constraints.{in_constraint, constraint_row}
use Rattle.mb_rows.proofs.CodeLemmas.{added_in, own_outside}
use Rattle.mb_rows.proofs.ValueLemmas.{place_of_set}
use Rattle.mb_encoder.specs.Symbols.{symbol_of, symbols_of}
use Rattle.mb_encoder.proofs.Lifting.{chosen, byte_snoc, byte_more, byte_past, byte_padded}

pub nth_symbol : (t count n b : ℕ) (block : List ℕ) → n < count → b < t → slice_index (slice_index_or (symbols_of t count block) n []) b ≡ byte_at t block n b
nth_symbol t count n b block p q = ap (λ (s : List ℕ). slice_index s b) (nth_firsts (symbol_of t block) [] count n p) ∙ nth_firsts (byte_at t block n) 0 t b q

-- ---- a sum, one place after the other

sum_next : (t count place next b : ℕ) (row symbols : List ℕ) (c : Bool) → next ≡ suc place → place < count → b < t → bit_in row place ≡ c
    → byte_sum b (row_of next row) (symbols_of t count symbols) ≡ bit_xor (byte_sum b (row_of place row) (symbols_of t count symbols)) (chosen c (byte_at t symbols place b))
sum_next t count place next b row symbols c e p q h =
    let us = symbols_of t count symbols in
    let long = length_row_from place 0 row in
    let many = length_firsts (symbol_of t symbols) count in
    let here : place ≡ 0 + place = omega arith in
    ap (λ (n : ℕ). byte_sum b (row_of n row) us) e
    ∙ ap (λ (r : List Bool). byte_sum b r us) (row_from_snoc place 0 place row here)
    ∙ byte_snoc b (row_of place row) (bit_in row place) us (omega arith)
    ∙ ap₂ (λ (n : ℕ) (d : Bool). bit_xor (byte_sum b (row_of place row) us) (chosen d (slice_index (slice_index_or us n []) b))) long h
    ∙ ap (λ (x : ℕ). bit_xor (byte_sum b (row_of place row) us) (chosen c x)) (nth_symbol t count place b symbols p q)

pub sum_set : (t count place next b old own new : ℕ) (row symbols : List ℕ) → next ≡ suc place → place < count → b < t → bit_in row place ≡ true
    → old ≡ byte_sum b (row_of place row) (symbols_of t count symbols) → own ≡ byte_at t symbols place b → new ≡ bit_xor old own
    → new ≡ byte_sum b (row_of next row) (symbols_of t count symbols)
sum_set t count place next b old own new row symbols e p q h so_far own_is sum = sum ∙ ap₂ bit_xor so_far own_is ∙ sym (sum_next t count place next b row symbols true e p q h)

pub sum_unset : (t count place next b old : ℕ) (row symbols : List ℕ) → next ≡ suc place → place < count → b < t → bit_in row place ≡ false
    → old ≡ byte_sum b (row_of place row) (symbols_of t count symbols) → old ≡ byte_sum b (row_of next row) (symbols_of t count symbols)
sum_unset t count place next b old row symbols e p q h so_far =
    so_far ∙ sym (xor_zero_r (byte_sum b (row_of place row) (symbols_of t count symbols))) ∙ sym (sum_next t count place next b row symbols false e p q h)

sum_nought : (b : ℕ) (row : List ℕ) (us : List (List ℕ)) → 0 ≡ byte_sum b (row_from zero 0 row) us
unfolding byte_sum row_from
sum_nought b row us = refl

pub sum_none : (b n old : ℕ) (row : List ℕ) (us : List (List ℕ)) → n ≡ 0 → old ≡ 0 → old ≡ byte_sum b (row_of n row) us
sum_none b n old row us e f = f ∙ sum_nought b row us ∙ ap (λ (m : ℕ). byte_sum b (row_of m row) us) (sym e)

pub sum_done : (t u count place b old : ℕ) (row symbols : List ℕ) → t ≡ u → place ≡ count
    → old ≡ byte_sum b (row_of place row) (symbols_of t count symbols) → old ≡ byte_sum b (row_of count row) (symbols_of u count symbols)
sum_done t u count place b old row symbols e f g = g ∙ ap₂ (λ (n w : ℕ). byte_sum b (row_of n row) (symbols_of w count symbols)) f e

row_split : (m d at behind : ℕ) (words : List ℕ) → behind ≡ at + m → row_from (m + d) at words ≡ row_from m at words ++ row_from d behind words
unfolding row_from
row_split zero d at behind words e =
    let same : zero + d ≡ d = omega arith in
    let here : at ≡ behind = omega arith in ap₂ (λ (n i : ℕ). row_from n i words) same here
row_split (suc m) d at behind words e =
    let same : suc m + d ≡ suc (m + d) = omega arith in
    ap (λ (n : ℕ). row_from n at words) same ∙ ap (λ (r : List Bool). bit_in words at ∷ r) (row_split m d (suc at) behind words (omega arith))

-- ---- a word with no place set

clear_bit : (i p : ℕ) (words : List ℕ) → slice_index words i ≡ 0 → p / 64 ≡ i → bit_in words p ≡ false
clear_bit i p words e q =
    ap (λ (n : ℕ). bit_at (slice_index words n) (p % 64) == 1) q ∙ ap (λ (w : ℕ). bit_at w (p % 64) == 1) e ∙ ap (λ (x : ℕ). x == 1) (bit_at-zero (p % 64))

clear_row : (i d at : ℕ) (words : List ℕ) → slice_index words i ≡ 0 → 64 * i ≤ at → at + d ≤ 64 * i + 64 → row_from d at words ≡ zeros d
unfolding row_from zeros
clear_row i zero at words e p q = refl
clear_row i (suc d) at words e p q =
    ap₂ (λ (b : Bool) (row : List Bool). b ∷ row) (clear_bit i at words e (omega arith)) (clear_row i d (suc at) words e (omega arith) (omega arith))

pub clear_word : (i first end b : ℕ) (words : List ℕ) (us : List (List ℕ)) → slice_index words i ≡ 0 → 64 * i ≤ first → first ≤ end → end ≤ 64 * i + 64
    → byte_sum b (row_of first words) us ≡ byte_sum b (row_of end words) us
clear_word i first end b words us e p q r =
    let whole : end ≡ first + (end - first) = omega arith in
    sym (ap (λ (n : ℕ). byte_sum b (row_of n words) us) whole
    ∙ ap (λ (row : List Bool). byte_sum b row us) (row_split first (end - first) 0 first words (omega arith)
    ∙ ap (λ (row : List Bool). row_of first words ++ row) (clear_row i (end - first) first words e p (omega arith)))
    ∙ byte_padded b (end - first) (row_of first words) us)

pub word_unset : (t count i next b old : ℕ) (row symbols : List ℕ) → next ≡ suc i → 64 * i ≤ count → slice_index row i ≡ 0
    → old ≡ byte_sum b (row_of (min count (64 * i)) row) (symbols_of t count symbols) → old ≡ byte_sum b (row_of (min count (64 * next)) row) (symbols_of t count symbols)
word_unset t count i next b old row symbols e p none so_far =
    so_far ∙ clear_word i (min count (64 * i)) (min count (64 * next)) b row (symbols_of t count symbols) none (omega arith) (omega arith) (omega arith)

pub word_set : (t u count i next first end b old new : ℕ) (row symbols : List ℕ) → u ≡ t → first ≡ 64 * i → next ≡ suc i → 64 * i ≤ count → end ≡ min count (64 * i + 64)
    → (old ≡ byte_sum b (row_of first row) (symbols_of u count symbols) → new ≡ byte_sum b (row_of end row) (symbols_of u count symbols))
    → old ≡ byte_sum b (row_of (min count (64 * i)) row) (symbols_of t count symbols) → new ≡ byte_sum b (row_of (min count (64 * next)) row) (symbols_of t count symbols)
word_set t u count i next first end b old new row symbols e f g p h added so_far =
    let begin : min count (64 * i) ≡ first = omega arith in
    let last : end ≡ min count (64 * next) = omega arith in
    added (so_far ∙ ap₂ (λ (n w : ℕ). byte_sum b (row_of n row) (symbols_of w count symbols)) begin (sym e))
    ∙ ap₂ (λ (n w : ℕ). byte_sum b (row_of n row) (symbols_of w count symbols)) last e

-- ---- the symbols behind the first

-- the first bytes are those of the first symbols
pub same_symbols : (t count : ℕ) (xs ys : List ℕ) → ((j : ℕ) → j < t * count → slice_index xs j ≡ slice_index ys j) → symbols_of t count xs ≡ symbols_of t count ys
same_symbols t count xs ys f = firsts_same (symbol_of t xs) (symbol_of t ys) count (λ n p. firsts_same (byte_at t xs n) (byte_at t ys n) t
    (λ b q. f (t * n + b) (let room = row_within t n count p in omega arith)))

symbols_snoc : (t count : ℕ) (xs : List ℕ) → symbols_of t (suc count) xs ≡ symbols_of t count xs ++ symbol_of t xs count ∷ []
unfolding firsts
symbols_snoc t count xs = refl

place_of_constraint : (c : RaptorCode) (i p : ℕ) → p < l_of c → slice_index_or (constraint_row c i) p false ≡ in_constraint c i p
place_of_constraint c i p q = place_of_set (l_of c) p (in_constraint c i) q

own_place : (c : RaptorCode) (i p : ℕ) → p ≡ c.row.k + i → p < l_of c → slice_index_or (constraint_row c i) p false ≡ true
own_place c i p e q = place_of_constraint c i p q ∙ ap (λ (b : Bool). b || added_in c i p) (eq-eqb p (c.row.k + i) e)

later_place : (c : RaptorCode) (i p : ℕ) → c.row.k + i < p → p < l_of c → slice_index_or (constraint_row c i) p false ≡ false
later_place c i p r q =
    place_of_constraint c i p q ∙ ap₂ (λ (a b : Bool). a || b) (ne_eqb p (c.row.k + i) (λ same. omega arith)) (own_outside c i p (omega arith))

-- a row sums the first symbols as far as there are any
front_sum : (b m l : ℕ) (words : List ℕ) (us : List (List ℕ)) → length us ≡ m → m ≤ l → byte_sum b (row_of l words) us ≡ byte_sum b (row_of m words) us
front_sum b m l words us e p =
    let whole : l ≡ m + (l - m) = omega arith in
    let long = length_row_from m 0 words in
    ap (λ (n : ℕ). byte_sum b (row_of n words) us) whole
    ∙ ap (λ (r : List Bool). byte_sum b r us) (row_split m (l - m) 0 m words (omega arith))
    ∙ byte_past b (row_of m words) (row_from (l - m) m words) us (omega arith)

-- one symbol more: the sum over a constraint of one that it is the last of, and of one before
meets_own : (c : RaptorCode) (t m i b own : ℕ) (words old : List ℕ) → m ≡ c.row.k + i → m < l_of c → row_of (l_of c) words ≡ constraint_row c i
    → own ≡ byte_sum b (row_of m words) (symbols_of t m old)
    → bit_xor (byte_sum b (constraint_row c i) (symbols_of t m old)) (chosen (slice_index_or (constraint_row c i) m false) own) ≡ 0
meets_own c t m i b own words old e p r s =
    let us = symbols_of t m old in
    let many = length_firsts (symbol_of t old) m in
    ap₂ bit_xor (ap (λ (row : List Bool). byte_sum b row us) (sym r) ∙ front_sum b m (l_of c) words us many (omega arith))
    (ap (λ (d : Bool). chosen d own) (own_place c i m e p) ∙ s)
    ∙ xor_self (byte_sum b (row_of m words) us)

meets_earlier : (c : RaptorCode) (m i own sum : ℕ) → c.row.k + i < m → m < l_of c → sum ≡ 0
    → bit_xor sum (chosen (slice_index_or (constraint_row c i) m false) own) ≡ 0
meets_earlier c m i own sum q p e = ap₂ bit_xor e (ap (λ (d : Bool). chosen d own) (later_place c i m q p)) ∙ xor_zero_r 0

meets_by : (c : RaptorCode) (t m n i b own : ℕ) (words old : List ℕ) → n ≡ m - c.row.k → c.row.k ≤ m → m < l_of c → row_of (l_of c) words ≡ constraint_row c n
    → own ≡ byte_sum b (row_of m words) (symbols_of t m old)
    → (c.row.k + i < m → byte_sum b (constraint_row c i) (symbols_of t m old) ≡ 0) → c.row.k + i < suc m → (c.row.k + i < m) ⊎ (m ≤ c.row.k + i)
    → bit_xor (byte_sum b (constraint_row c i) (symbols_of t m old)) (chosen (slice_index_or (constraint_row c i) m false) own) ≡ 0
meets_by c t m n i b own words old e g p r s earlier q (inl z) = meets_earlier c m i own (byte_sum b (constraint_row c i) (symbols_of t m old)) z p (earlier z)
meets_by c t m n i b own words old e g p r s earlier q (inr z) =
    let same : n ≡ i = omega arith in meets_own c t m i b own words old (omega arith) p (r ∙ ap (constraint_row c) same) s

pub meets_more : (c : RaptorCode) (t m n next : ℕ) (words old new : List ℕ) → next ≡ suc m → n ≡ m - c.row.k → c.row.k ≤ m → m < l_of c
    → row_of (l_of c) words ≡ constraint_row c n
    → ((j : ℕ) → j < t * m → slice_index new j ≡ slice_index old j)
    → ((b : ℕ) → b < t → slice_index new (t * m + b) ≡ byte_sum b (row_of m words) (symbols_of t m old))
    → ((i : ℕ) → c.row.k + i < m → (b : ℕ) → b < t → byte_sum b (constraint_row c i) (symbols_of t m old) ≡ 0)
    → (i : ℕ) → c.row.k + i < next → (b : ℕ) → b < t → byte_sum b (constraint_row c i) (symbols_of t next new) ≡ 0
meets_more c t m n next words old new e f g p r same own earlier i q b s =
    let row = constraint_row c i in
    let many = length_firsts (symbol_of t old) m in
    ap (λ (k : ℕ). byte_sum b row (symbols_of t k new)) e
    ∙ ap (byte_sum b row) (symbols_snoc t m new ∙ ap (λ (us : List (List ℕ)). us ++ symbol_of t new m ∷ []) (same_symbols t m new old same))
    ∙ byte_more b row (symbols_of t m old) (symbol_of t new m)
    ∙ ap₂ (λ (k x : ℕ). bit_xor (byte_sum b row (symbols_of t m old)) (chosen (slice_index_or row k false) x)) many (nth_firsts (byte_at t new m) 0 t b s)
    ∙ meets_by c t m n i b (slice_index new (t * m + b)) words old f g p r (own b s) (λ z. earlier i z b s) (omega arith) (cases_lt (c.row.k + i) m)

-- ---- three lists one behind the other

pub at_front : (xs ys : List ℕ) (j : ℕ) → j < length xs → slice_index (xs ++ ys) j ≡ slice_index xs j
at_front [] ys j p = absurd (omega arith)
at_front (x ∷ xs) ys zero p = refl
at_front (x ∷ xs) ys (suc j) p = at_front xs ys j (omega arith)

pub at_own : (xs ys zs : List ℕ) (n b j : ℕ) → length xs ≡ n → j ≡ n + b → b < length ys → slice_index (xs ++ (ys ++ zs)) j ≡ slice_index ys b
at_own [] ys zs n b j e f p =
    let same : j ≡ b = omega arith in ap (slice_index (ys ++ zs)) same ∙ at_front ys zs b p
at_own (x ∷ xs) ys zs n b zero e f p = absurd (omega arith)
at_own (x ∷ xs) ys zs zero b (suc j) e f p = absurd (omega arith)
at_own (x ∷ xs) ys zs (suc n) b (suc j) e f p = at_own xs ys zs n b j (omega arith) (omega arith) p

pub rest_next : (c : RaptorCode) (t w m n next : ℕ) (words old front own behind : List ℕ) → next ≡ suc m → n ≡ m - c.row.k → c.row.k ≤ m → m < l_of c
    → row_of (l_of c) words ≡ constraint_row c n → length front ≡ t * m → ((j : ℕ) → j < t * m → slice_index front j ≡ slice_index old j) → length own ≡ t → w ≡ t
    → ((b : ℕ) → b < w → slice_index own b ≡ byte_sum b (row_of m words) (symbols_of w m front))
    → ((i : ℕ) → c.row.k + i < m → (b : ℕ) → b < t → byte_sum b (constraint_row c i) (symbols_of t m old) ≡ 0)
    → (i : ℕ) → c.row.k + i < next → (b : ℕ) → b < t → byte_sum b (constraint_row c i) (symbols_of t next (front ++ (own ++ behind))) ≡ 0
rest_next c t w m n next words old front own behind e f g p r long same room width sum earlier =
    meets_more c t m n next words old (front ++ (own ++ behind)) e f g p r
    (λ j q. at_front front (own ++ behind) j (omega arith) ∙ same j q)
    (λ b q. at_own front own behind (t * m) b (t * m + b) long refl (omega arith) ∙ sum b (omega arith)
    ∙ ap (λ (k : ℕ). byte_sum b (row_of m words) (symbols_of k m front)) width
    ∙ ap (byte_sum b (row_of m words)) (same_symbols t m front old same))
    earlier

pub first_stay : (t k m : ℕ) (old initial front rest : List ℕ) → k ≤ m → length front ≡ t * m → ((j : ℕ) → j < t * m → slice_index front j ≡ slice_index old j)
    → ((j : ℕ) → j < t * k → slice_index old j ≡ slice_index initial j) → (j : ℕ) → j < t * k → slice_index (front ++ rest) j ≡ slice_index initial j
first_stay t k m old initial front rest p long same so_far j q =
    let room : t * k ≤ t * m = mul-le-mul_left t p in
    at_front front rest j (omega arith) ∙ same j (omega arith) ∙ so_far j q
