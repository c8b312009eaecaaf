-- Symbols that lie one behind the other in words, and sums of them.
use Rattle.std.proofs.Common.{◌≡◌, ◌≢◌, ℕ, zero, suc, ◌+◌, ◌-◌, ◌*◌, ◌/◌, ◌%◌, ◌<◌, ◌≤◌, ◌⊎◌, inl, inr, ◌==◌, Bool, true, false, ◌&&◌, eqb, ltb, List, [], ◌∷◌, ◌++◌, length, take, drop, slice_index, refl, ap, ap₂, sym, ◌∙◌, arith}
use Rattle.std.specs.Prelude.{slice_index_or}
use Rattle.std.specs.Int.{bit_at}
use Rattle.std.proofs.Math.Nat.{mul-le-mul_left}
use Rattle.std.proofs.lemmas.Grind.{common_steps}
use Rattle.std.proofs.lemmas.Bool.{cases_lt, cases_eq, cases_order, eq-eqb, ne_eqb, lt-ltb, le-ltb, cond-true, cond-false}
use Rattle.std.proofs.lemmas.Bool.Decides.{eqb_tells}
use Rattle.mb_linear.specs.Row.{plus, row_sum}
use Rattle.mb_linear.proofs.RowLemmas.{plus_comm, plus_assoc, plus_none}
use Rattle.mb_linear.proofs.EchelonLemmas.{place_sum}
use Rattle.mb_bits.specs.BitRow.{bit_in, row_from, row_of, Flips}
use Rattle.mb_bits.proofs.BitLemmas.{bit_past}
use Rattle.mb_rows.specs.Places.{is_odd_in, is_odd_over}
use Rattle.mb_rows.specs.Constraints.{ldpc_of, in_ldpc, in_half}
use Rattle.mb_rows.specs.Folding.{plain_set, half_set, symbol_set}
use Rattle.mb_rows.specs.Kept.{kept_bit, known_bit, AreFolded}
use Rattle.mb_rows.specs.Walk.{first_below, taken_from}
use Rattle.mb_rows.proofs.WalkLemmas.{taken_more}
use Rattle.mb_rows.proofs.PlaceLemmas.{odd_more, flipped, below_next}

-- ---- the bits of a sum of words

length_row_from : (n at : ℕ) (words : List ℕ) → length (row_from n at words) ≡ n
unfolding row_from
length_row_from zero at words = refl
length_row_from (suc n) at words = ap suc (length_row_from n (suc at) words)

place_row_from : (n at i j : ℕ) (words : List ℕ) → j ≡ at + i → i < n → slice_index_or (row_from n at words) i false ≡ bit_in words j
unfolding row_from
place_row_from zero at i j words e p = absurd (omega arith)
place_row_from (suc n) at zero j words e p = let same : at ≡ j = omega arith in ap (bit_in words) same
place_row_from (suc n) at (suc i) j words e p =
    let e2 : j ≡ suc at + i = omega arith in
    let p2 : i < n = omega arith in place_row_from n (suc at) i j words e2 p2

place_row_of : (words : List ℕ) (p : ℕ) → slice_index_or (row_of (suc p) words) p false ≡ bit_in words p
place_row_of words p = place_row_from (suc p) 0 p p words (omega arith) (omega arith)

pub bit_of_sum : (old added new : List ℕ) → ((n : ℕ) → row_of n new ≡ row_sum (row_of n old) (row_of n added))
    → (p : ℕ) → bit_in new p ≡ plus (bit_in old p) (bit_in added p)
bit_of_sum old added new e p =
    sym (place_row_of new p) ∙ ap (λ (row : List Bool). slice_index_or row p false) (e (suc p))
    ∙ place_sum (row_of (suc p) old) (row_of (suc p) added) p (length_row_from (suc p) 0 old ∙ sym (length_row_from (suc p) 0 added))
    ∙ ap₂ plus (place_row_of old p) (place_row_of added p)

-- ---- words of their own, and the same words among others

slice_bit_by : (w at p : ℕ) (words : List ℕ) → at + w ≤ length words → (p < 64 * w) ⊎ (64 * w ≤ p)
    → bit_in (take (at + w - at) (drop at words)) p ≡ (ltb p (64 * w) && bit_in words (64 * at + p))
slice_bit_by w at p words q (inl r) =
    let word : (64 * at + p) / 64 ≡ at + p / 64 = omega arith in
    let bit : (64 * at + p) % 64 ≡ p % 64 = omega arith in
    let within : p / 64 < w = omega arith in
    let own : slice_index (take (at + w - at) (drop at words)) (p / 64) ≡ slice_index words (at + p / 64) = grind (arith, common_steps) in
    ap (λ (x : ℕ). bit_at x (p % 64) == 1) own
    ∙ ap₂ (λ (k i : ℕ). bit_at (slice_index words k) i == 1) (sym word) (sym bit)
    ∙ ap (λ (b : Bool). b && bit_in words (64 * at + p)) (sym (lt-ltb p (64 * w) r))
slice_bit_by w at p words q (inr r) =
    let long : length (take (at + w - at) (drop at words)) ≡ w = grind (arith, common_steps) in
    let past : length (take (at + w - at) (drop at words)) ≤ p / 64 = omega arith in
    bit_past (take (at + w - at) (drop at words)) p past ∙ ap (λ (b : Bool). b && bit_in words (64 * at + p)) (sym (le-ltb p (64 * w) r))

pub slice_bit : (w at p : ℕ) (words : List ℕ) → at + w ≤ length words
    → bit_in (take (at + w - at) (drop at words)) p ≡ (ltb p (64 * w) && bit_in words (64 * at + p))
slice_bit w at p words q = slice_bit_by w at p words q (cases_lt p (64 * w))

-- a symbol that is kept was added
pub added_kept : (k w symbol n : ℕ) (folded old new : List ℕ) → k ≤ symbol → n ≡ symbol - k → w * n + w ≤ length folded
    → ((m : ℕ) → row_of m new ≡ row_sum (row_of m old) (row_of m (take (w * n + w - w * n) (drop (w * n) folded))))
    → (p : ℕ) → bit_in new p ≡ plus (known_bit k w folded symbol p) (bit_in old p)
added_kept k w symbol n folded old new q e r s p =
    bit_of_sum old (take (w * n + w - w * n) (drop (w * n) folded)) new s p
    ∙ plus_comm (bit_in old p) (bit_in (take (w * n + w - w * n) (drop (w * n) folded)) p)
    ∙ ap (λ (b : Bool). plus b (bit_in old p)) (slice_bit w (w * n) p folded r
    ∙ ap (λ (m : ℕ). ltb p (64 * w) && kept_bit w folded m p) e
    ∙ sym (cond-false (ltb symbol k) (symbol == p) (ltb p (64 * w) && kept_bit w folded (symbol - k) p) (le-ltb symbol k q)))

-- ---- one place of one symbol

rows_apart : (w r q p i : ℕ) → p < 64 * w → i < 64 * w → 64 * (w * r) + p ≡ 64 * (w * q) + i → (r ≡ q) ⊎ ((r < q) ⊎ (q < r)) → r ≡ q
rows_apart w r q p i a b e (inl s) = s
rows_apart w r q p i a b e (inr (inl s)) =
    let more : w * suc r ≤ w * q = mul-le-mul_left w s in
    let same : w * suc r ≡ w * r + w = grind arith in absurd (omega arith)
rows_apart w r q p i a b e (inr (inr s)) =
    let more : w * suc q ≤ w * r = mul-le-mul_left w s in
    let same : w * suc q ≡ w * q + w = grind arith in absurd (omega arith)

same_place_by : (w r q p i : ℕ) → p < 64 * w → i < 64 * w
    → ((eqb (64 * (w * r) + p) (64 * (w * q) + i) ≡ true) × (64 * (w * r) + p ≡ 64 * (w * q) + i)) ⊎ ((eqb (64 * (w * r) + p) (64 * (w * q) + i) ≡ false) × (64 * (w * r) + p ≢ 64 * (w * q) + i))
    → ((eqb p i ≡ true) × (p ≡ i)) ⊎ ((eqb p i ≡ false) × (p ≢ i)) → ((eqb r q ≡ true) × (r ≡ q)) ⊎ ((eqb r q ≡ false) × (r ≢ q))
    → eqb (64 * (w * r) + p) (64 * (w * q) + i) ≡ (eqb p i && eqb r q)
same_place_by w r q p i a b (inl s) (inl t) (inl u) = s.0 ∙ ap₂ (λ (x y : Bool). x && y) (sym t.0) (sym u.0)
same_place_by w r q p i a b (inl s) (inl t) (inr u) = absurd (u.1 (rows_apart w r q p i a b s.1 (cases_order r q)))
same_place_by w r q p i a b (inl s) (inr t) u =
    let row : r ≡ q = rows_apart w r q p i a b s.1 (cases_order r q) in
    let same : w * r ≡ w * q = ap (λ (n : ℕ). w * n) row in absurd (t.1 (let h = s.1 in omega arith))
same_place_by w r q p i a b (inr s) (inl t) (inl u) =
    let same : w * r ≡ w * q = ap (λ (n : ℕ). w * n) u.1 in absurd (s.1 (let h = t.1 in omega arith))
same_place_by w r q p i a b (inr s) (inl t) (inr u) = s.0 ∙ ap₂ (λ (x y : Bool). x && y) (sym t.0) (sym u.0)
same_place_by w r q p i a b (inr s) (inr t) u = s.0 ∙ ap (λ (x : Bool). x && eqb r q) (sym t.0)

same_place : (w r q p i : ℕ) → p < 64 * w → i < 64 * w → eqb (64 * (w * r) + p) (64 * (w * q) + i) ≡ (eqb p i && eqb r q)
same_place w r q p i a b = same_place_by w r q p i a b (eqb_tells (64 * (w * r) + p) (64 * (w * q) + i)) (eqb_tells p i) (eqb_tells r q)

pub kept_flipped : (w r p at : ℕ) (old new : List ℕ) → at ≡ 64 * (w * r) + p → p < 64 * w → Flips at old new
    → (q i : ℕ) → i < 64 * w → kept_bit w new q i ≡ plus ((p == i) && (r == q)) (kept_bit w old q i)
kept_flipped w r p at old new e a f q i b =
    flipped at old new f (64 * (w * q) + i)
    ∙ ap (λ (x : Bool). plus x (kept_bit w old q i)) (ap (λ (n : ℕ). n == 64 * (w * q) + i) e ∙ same_place w r q p i a b)

three_times : (own a b c old : Bool) → plus (own && c) (plus (own && b) (plus (own && a) old)) ≡ plus (own && plus a (plus b (plus c false))) old
three_times false a b c old = refl
three_times true false false false old = refl
three_times true false false true old = refl
three_times true false true false old = refl
three_times true false true true false = refl
three_times true false true true true = refl
three_times true true false false old = refl
three_times true true false true false = refl
three_times true true false true true = refl
three_times true true true false false = refl
three_times true true true false true = refl
three_times true true true true false = refl
three_times true true true true true = refl

odd_of_three : (a b c r : ℕ) → is_odd_in (a ∷ b ∷ c ∷ []) r ≡ plus (a == r) (plus (b == r) (plus (c == r) false))
odd_of_three a b c r = odd_more a (b ∷ c ∷ []) r ∙ ap (plus (a == r)) (odd_more b (c ∷ []) r ∙ ap (plus (b == r)) (odd_more c [] r))

-- a source symbol was added to the three symbols
pub added_three : (w s i a b c : ℕ) (old one two new : List ℕ) → a ≡ slice_index (ldpc_of s i) 0 → b ≡ slice_index (ldpc_of s i) 1 → c ≡ slice_index (ldpc_of s i) 2
    → ((q p : ℕ) → p < 64 * w → kept_bit w one q p ≡ plus ((i == p) && (a == q)) (kept_bit w old q p))
    → ((q p : ℕ) → p < 64 * w → kept_bit w two q p ≡ plus ((i == p) && (b == q)) (kept_bit w one q p))
    → ((q p : ℕ) → p < 64 * w → kept_bit w new q p ≡ plus ((i == p) && (c == q)) (kept_bit w two q p))
    → (r p : ℕ) → p < 64 * w → kept_bit w new r p ≡ plus ((i == p) && in_ldpc s r i) (kept_bit w old r p)
added_three w s i a b c old one two new d e t f g h r p q =
    h r p q ∙ ap (plus ((i == p) && (c == r))) (g r p q ∙ ap (plus ((i == p) && (b == r))) (f r p q))
    ∙ three_times (i == p) (a == r) (b == r) (c == r) (kept_bit w old r p)
    ∙ ap (λ (x : Bool). plus ((i == p) && x) (kept_bit w old r p)) (sym (odd_of_three a b c r)
    ∙ ap₂ (λ (x : ℕ) (rest : List ℕ). is_odd_in (x ∷ rest) r) d (ap₂ (λ (x y : ℕ). x ∷ y ∷ []) e t))

-- ---- the LDPC symbols

and_comm : (a b : Bool) → (a && b) ≡ (b && a)
and_comm false false = refl
and_comm false true = refl
and_comm true false = refl
and_comm true true = refl

-- the source symbols below one were added, and now that one is
pub ldpc_more : (i p : ℕ) (f : ℕ → Bool) (old new : Bool) → new ≡ plus ((i == p) && f i) old → old ≡ (ltb p i && f p) → new ≡ (ltb p (i + 1) && f p)
ldpc_more i p f old new e g = e ∙ ap₂ plus (and_comm (i == p) (f i)) g ∙ below_next i p f

pub ldpc_symbol : (k s h r p : ℕ) → r < s → symbol_set k s h (k + r) p ≡ (ltb p k && in_ldpc s r p)
ldpc_symbol k s h r p q =
    let behind : k ≤ k + r = omega arith in
    let among : k + r < k + s = omega arith in
    let number : k + r - k ≡ r = omega arith in
    cond-true (ltb (k + r) (k + s)) (plain_set k s (k + r) p) (half_set k s h (k + r - (k + s)) p) (lt-ltb (k + r) (k + s) among)
    ∙ cond-false (ltb (k + r) k) (k + r == p) (ltb p k && in_ldpc s (k + r - k) p) (le-ltb (k + r) k behind)
    ∙ ap (λ (n : ℕ). ltb p k && in_ldpc s n p) number

pub half_symbol : (k s h i r p : ℕ) → r ≡ k + (s + i) → symbol_set k s h r p ≡ half_set k s h i p
half_symbol k s h i r p e =
    let behind : k + s ≤ r = omega arith in
    let number : r - (k + s) ≡ i = omega arith in
    cond-false (ltb r (k + s)) (plain_set k s r p) (half_set k s h (r - (k + s)) p) (le-ltb r (k + s) behind)
    ∙ ap (λ (n : ℕ). half_set k s h n p) number

pub ldpc_done : (k s h i r p : ℕ) (bit : Bool) → i ≡ k → r < s → bit ≡ (ltb p i && in_ldpc s r p) → bit ≡ symbol_set k s h (k + r) p
ldpc_done k s h i r p bit e q f = f ∙ ap (λ (n : ℕ). ltb p n && in_ldpc s r p) e ∙ sym (ldpc_symbol k s h r p q)

-- ---- the half symbols

known_ldpc : (k s h w j p : ℕ) (folded : List ℕ) → AreFolded k s h s w folded → k ≤ 64 * w → j < k + s → k ≤ j → (p < 64 * w) ⊎ (64 * w ≤ p)
    → (ltb p (64 * w) && kept_bit w folded (j - k) p) ≡ (ltb p k && in_ldpc s (j - k) p)
known_ldpc k s h w j p folded a b q r (inl t) =
    let few : j - k < s = omega arith in
    ap (λ (x : Bool). x && kept_bit w folded (j - k) p) (lt-ltb p (64 * w) t) ∙ a (j - k) p few t ∙ ldpc_symbol k s h (j - k) p few
known_ldpc k s h w j p folded a b q r (inr t) =
    ap (λ (x : Bool). x && kept_bit w folded (j - k) p) (le-ltb p (64 * w) t) ∙ ap (λ (x : Bool). x && in_ldpc s (j - k) p) (sym (le-ltb p k (omega arith)))

known_plain_by : (k s h w j p : ℕ) (folded : List ℕ) → AreFolded k s h s w folded → k ≤ 64 * w → j < k + s → (j < k) ⊎ (k ≤ j)
    → known_bit k w folded j p ≡ plain_set k s j p
known_plain_by k s h w j p folded a b q (inl r) =
    cond-true (ltb j k) (j == p) (ltb p (64 * w) && kept_bit w folded (j - k) p) (lt-ltb j k r)
    ∙ sym (cond-true (ltb j k) (j == p) (ltb p k && in_ldpc s (j - k) p) (lt-ltb j k r))
known_plain_by k s h w j p folded a b q (inr r) =
    cond-false (ltb j k) (j == p) (ltb p (64 * w) && kept_bit w folded (j - k) p) (le-ltb j k r)
    ∙ known_ldpc k s h w j p folded a b q r (cases_lt p (64 * w))
    ∙ sym (cond-false (ltb j k) (j == p) (ltb p k && in_ldpc s (j - k) p) (le-ltb j k r))

known_plain : (k s h w j p : ℕ) (folded : List ℕ) → AreFolded k s h s w folded → k ≤ 64 * w → j < k + s → known_bit k w folded j p ≡ plain_set k s j p
known_plain k s h w j p folded a b q = known_plain_by k s h w j p folded a b q (cases_lt j k)

pub odd_over_none : (chosen : ℕ → Bool) (sets : ℕ → ℕ → Bool) (p : ℕ) → is_odd_over chosen sets 0 p ≡ false
unfolding is_odd_over
odd_over_none chosen sets p = refl

pub odd_over_next : (chosen : ℕ → Bool) (sets : ℕ → ℕ → Bool) (n next p : ℕ) → next ≡ suc n
    → is_odd_over chosen sets next p ≡ plus (chosen n && sets n p) (is_odd_over chosen sets n p)
unfolding is_odd_over
odd_over_next chosen sets n next p e = ap (λ (m : ℕ). is_odd_over chosen sets m p) e

-- one symbol more of those that are added to a half symbol
pub half_next : (k s h i w v j q next p : ℕ) (chosen old new : Bool) (folded scratch : List ℕ) → AreFolded k s h s w folded → k ≤ 64 * w → v ≡ w → j < k + s
    → q ≡ j → next ≡ suc j → chosen ≡ bit_in scratch q → bit_in scratch j ≡ (ltb j (k + s) && in_half h i j)
    → new ≡ plus (chosen && known_bit k v folded j p) old → old ≡ is_odd_over (in_half h i) (plain_set k s) j p
    → new ≡ is_odd_over (in_half h i) (plain_set k s) next p
half_next k s h i w v j q next p chosen old new folded scratch a b e r f g c d m o =
    m ∙ ap₂ plus (ap₂ (λ (x y : Bool). x && y)
    (c ∙ ap (bit_in scratch) f ∙ d ∙ ap (λ (x : Bool). x && in_half h i j) (lt-ltb j (k + s) r))
    (ap (λ (n : ℕ). known_bit k n folded j p) e ∙ known_plain k s h w j p folded a b r)) o
    ∙ sym (odd_over_next (in_half h i) (plain_set k s) j next p g)

pub row_within : (w r n : ℕ) → r < n → w * r + w ≤ w * n
row_within w r n p =
    let more : w * suc r ≤ w * n = mul-le-mul_left w p in
    let same : w * suc r ≡ w * r + w = grind arith in omega arith

-- a symbol is the same where its words are
pub same_kept : (w r n p : ℕ) (xs ys : List ℕ) → r < n → p < 64 * w → ((j : ℕ) → j < w * n → slice_index xs j ≡ slice_index ys j)
    → kept_bit w xs r p ≡ kept_bit w ys r p
same_kept w r n p xs ys q b e =
    let more = row_within w r n q in
    let within : (64 * (w * r) + p) / 64 < w * n = omega arith in
    ap (λ (x : ℕ). bit_at x ((64 * (w * r) + p) % 64) == 1) (e ((64 * (w * r) + p) / 64) within)

-- a symbol that stands between others
pub own_kept : (w n p : ℕ) (front own rest : List ℕ) → length front ≡ w * n → length own ≡ w → p < 64 * w
    → kept_bit w (front ++ (own ++ rest)) n p ≡ bit_in own p
own_kept w n p front own rest f o b =
    let word : (64 * (w * n) + p) / 64 ≡ w * n + p / 64 = omega arith in
    let bit : (64 * (w * n) + p) % 64 ≡ p % 64 = omega arith in
    let within : p / 64 < w = omega arith in
    let same : slice_index (front ++ (own ++ rest)) (w * n + p / 64) ≡ slice_index own (p / 64) = grind (arith, common_steps) in
    ap₂ (λ (k i : ℕ). bit_at (slice_index (front ++ (own ++ rest)) k) i == 1) word bit
    ∙ ap (λ (x : ℕ). bit_at x (p % 64) == 1) same

-- the symbols that stand in the first words
pub folded_front : (k s h n count w v : ℕ) (folded front : List ℕ) → AreFolded k s h n w folded → count ≤ n → v ≡ w
    → ((j : ℕ) → j < w * n → slice_index front j ≡ slice_index folded j) → AreFolded k s h count v front
folded_front k s h n count w v folded front a q e f = λ r p b c.
    let more : r < n = omega arith in
    let within : p < 64 * w = omega arith in
    ap (λ (m : ℕ). kept_bit m front r p) e ∙ same_kept w r n p front folded more within f ∙ a r p more within

folded_more_by : (k s h n i w r p : ℕ) (folded front own rest : List ℕ) → AreFolded k s h n w folded → n ≡ s + i → length front ≡ w * n → length own ≡ w
    → ((j : ℕ) → j < w * n → slice_index front j ≡ slice_index folded j) → ((place : ℕ) → bit_in own place ≡ half_set k s h i place)
    → p < 64 * w → (r < n) ⊎ (n ≤ r) → r < suc n → kept_bit w (front ++ (own ++ rest)) r p ≡ symbol_set k s h (k + r) p
folded_more_by k s h n i w r p folded front own rest a e f o g d b (inl q) t =
    same_kept w r n p (front ++ (own ++ rest)) folded q b (λ j u.
    let same : slice_index (front ++ (own ++ rest)) j ≡ slice_index front j = grind (arith, common_steps) in same ∙ g j u)
    ∙ a r p q b
folded_more_by k s h n i w r p folded front own rest a e f o g d b (inr q) t =
    let last : r ≡ n = omega arith in
    let number : k + r ≡ k + (s + i) = omega arith in
    ap (λ (m : ℕ). kept_bit w (front ++ (own ++ rest)) m p) last ∙ own_kept w n p front own rest f o b ∙ d p ∙ sym (half_symbol k s h i (k + r) p number)

-- one half symbol more
pub folded_more : (k s h n i w next : ℕ) (folded front own rest : List ℕ) → AreFolded k s h n w folded → n ≡ s + i → next ≡ suc n → length front ≡ w * n
    → length own ≡ w → ((j : ℕ) → j < w * n → slice_index front j ≡ slice_index folded j) → ((place : ℕ) → bit_in own place ≡ half_set k s h i place)
    → AreFolded k s h next w (front ++ (own ++ rest))
folded_more k s h n i w next folded front own rest a e m f o g d = λ r p q b.
    folded_more_by k s h n i w r p folded front own rest a e f o g d b (cases_lt r n) (omega arith)

-- ---- sums over sets that change by one place

over_same : (f g : ℕ → Bool) (sets : ℕ → ℕ → Bool) (n p : ℕ) → ((m : ℕ) → m < n → (f m && sets m p) ≡ (g m && sets m p)) → is_odd_over f sets n p ≡ is_odd_over g sets n p
unfolding is_odd_over
over_same f g sets zero p e = refl
over_same f g sets (suc n) p e = ap₂ plus (e n (omega arith)) (over_same f g sets n p (λ m q. e m (omega arith)))

-- sets that are the same
pub over_sets : (f : ℕ → Bool) (xs ys : ℕ → ℕ → Bool) (n p : ℕ) → ((m : ℕ) → m < n → xs m p ≡ ys m p) → is_odd_over f xs n p ≡ is_odd_over f ys n p
unfolding is_odd_over
over_sets f xs ys zero p e = refl
over_sets f xs ys (suc n) p e = ap₂ plus (ap (λ (b : Bool). f n && b) (e n (omega arith))) (over_sets f xs ys n p (λ m q. e m (omega arith)))

over_last : (a s x : Bool) → plus (plus true a && s) x ≡ plus s (plus (a && s) x)
over_last false false x = refl
over_last false true x = refl
over_last true false x = refl
over_last true true false = refl
over_last true true true = refl

over_earlier : (a s x : Bool) → plus a (plus s x) ≡ plus s (plus a x)
over_earlier false s x = refl
over_earlier true false x = refl
over_earlier true true x = refl

unequal : (q m : ℕ) → (q ≡ m → ⊥) → (b : Bool) → plus (q == m) b ≡ b
unequal q m e b = ap (λ (x : Bool). plus x b) (ne_eqb q m e)

over_above : (q n p : ℕ) (f g : ℕ → Bool) (sets : ℕ → ℕ → Bool) → ((m : ℕ) → f m ≡ plus (q == m) (g m)) → n ≤ q → is_odd_over f sets n p ≡ is_odd_over g sets n p
over_above q n p f g sets e r = over_same f g sets n p (λ m s. ap (λ (b : Bool). b && sets m p) (e m ∙ unequal q m (λ same. omega arith) (g m)))

over_here : (q n p : ℕ) (f g : ℕ → Bool) (sets : ℕ → ℕ → Bool) → ((m : ℕ) → f m ≡ plus (q == m) (g m)) → q ≡ n
    → is_odd_over f sets (suc n) p ≡ plus (sets q p) (is_odd_over g sets (suc n) p)
unfolding is_odd_over
over_here q n p f g sets e same =
    let last : f n ≡ plus true (g n) = e n ∙ ap (λ (b : Bool). plus b (g n)) (eq-eqb q n same) in
    let before : is_odd_over f sets n p ≡ is_odd_over g sets n p = over_above q n p f g sets e (omega arith) in
    ap₂ (λ (b x : Bool). plus (b && sets n p) x) last before
    ∙ over_last (g n) (sets n p) (is_odd_over g sets n p)
    ∙ ap (λ (m : ℕ). plus (sets m p) (plus (g n && sets n p) (is_odd_over g sets n p))) (sym same)

over_there : (q n p : ℕ) (f g : ℕ → Bool) (sets : ℕ → ℕ → Bool) → ((m : ℕ) → f m ≡ plus (q == m) (g m)) → (q ≡ n → ⊥)
    → is_odd_over f sets n p ≡ plus (sets q p) (is_odd_over g sets n p)
    → is_odd_over f sets (suc n) p ≡ plus (sets q p) (is_odd_over g sets (suc n) p)
unfolding is_odd_over
over_there q n p f g sets e other before =
    ap₂ (λ (b x : Bool). plus (b && sets n p) x) (e n ∙ unequal q n other (g n)) before
    ∙ over_earlier (g n && sets n p) (sets q p) (is_odd_over g sets n p)

-- one place more in the set
over_more : (q n p : ℕ) (f g : ℕ → Bool) (sets : ℕ → ℕ → Bool) → ((m : ℕ) → f m ≡ plus (q == m) (g m)) → q < n
    → is_odd_over f sets n p ≡ plus (sets q p) (is_odd_over g sets n p)
over_more q zero p f g sets e r = absurd (omega arith)
over_more q (suc n) p f g sets e r = over_more_step q n p f g sets e (cases_eq q n) (λ other. over_more q n p f g sets e (omega (arith, other)))
  where
    over_more_step : (q n p : ℕ) (f g : ℕ → Bool) (sets : ℕ → ℕ → Bool) → ((m : ℕ) → f m ≡ plus (q == m) (g m)) → (q ≡ n) ⊎ (q ≡ n → ⊥)
        → ((q ≡ n → ⊥) → is_odd_over f sets n p ≡ plus (sets q p) (is_odd_over g sets n p))
        → is_odd_over f sets (suc n) p ≡ plus (sets q p) (is_odd_over g sets (suc n) p)
    over_more_step q n p f g sets e (inl same) h = over_here q n p f g sets e same
    over_more_step q n p f g sets e (inr other) h = over_there q n p f g sets e other (h other)

over_nothing : (f : ℕ → Bool) (sets : ℕ → ℕ → Bool) (n p : ℕ) → ((m : ℕ) → f m ≡ false) → is_odd_over f sets n p ≡ false
unfolding is_odd_over
over_nothing f sets zero p e = refl
over_nothing f sets (suc n) p e = ap₂ (λ (b x : Bool). plus (b && sets n p) x) (e n) (over_nothing f sets n p e)

-- ---- the symbols that an LT row takes

pub added_none : (n l a lp b p : ℕ) (sets : ℕ → ℕ → Bool) (bit : Bool) → n ≡ 0 → plus bit (is_odd_over (is_odd_in (taken_from n l a lp b)) sets l p) ≡ bit
unfolding taken_from
added_none zero l a lp b p sets bit e = ap (plus bit) (over_nothing (is_odd_in []) sets l p (λ m. refl)) ∙ plus_none bit
added_none (suc n) l a lp b p sets bit e = absurd (omega arith)

-- the symbol that is taken next is added, and the others are still to come
pub added_next : (n m l a lp b next taken p k v w : ℕ) (folded old new : List ℕ) (all : Bool) → n ≡ suc m → taken ≡ first_below l a lp b
    → next ≡ (taken + a) % lp → taken < l → v ≡ w → bit_in new p ≡ plus (known_bit k v folded taken p) (bit_in old p)
    → all ≡ plus (bit_in old p) (is_odd_over (is_odd_in (taken_from n l a lp b)) (known_bit k w folded) l p)
    → all ≡ plus (bit_in new p) (is_odd_over (is_odd_in (taken_from m l a lp next)) (known_bit k w folded) l p)
added_next n m l a lp b next taken p k v w folded old new all e f g q t h u =
    u ∙ ap (λ (ps : List ℕ). plus (bit_in old p) (is_odd_over (is_odd_in ps) (known_bit k w folded) l p)) (taken_more n m l a lp b taken e f)
    ∙ ap (plus (bit_in old p)) (over_more taken l p (is_odd_in (taken ∷ taken_from m l a lp ((taken + a) % lp))) (is_odd_in (taken_from m l a lp ((taken + a) % lp)))
    (known_bit k w folded) (λ i. odd_more taken (taken_from m l a lp ((taken + a) % lp)) i) q)
    ∙ sym (plus_assoc (bit_in old p) (known_bit k w folded taken p) (is_odd_over (is_odd_in (taken_from m l a lp ((taken + a) % lp))) (known_bit k w folded) l p))
    ∙ ap₂ (λ (x : Bool) (i : ℕ). plus x (is_odd_over (is_odd_in (taken_from m l a lp i)) (known_bit k w folded) l p))
    (plus_comm (bit_in old p) (known_bit k w folded taken p) ∙ ap (λ (i : ℕ). plus (known_bit k i folded taken p) (bit_in old p)) (sym t) ∙ sym h) (sym g)

pub folded_same : (k s h n w v : ℕ) (xs ys : List ℕ) → AreFolded k s h n w xs → v ≡ w → ys ≡ xs → AreFolded k s h n v ys
folded_same k s h n w v xs ys a e f = λ r p q b.
    ap₂ (λ (m : ℕ) (words : List ℕ). kept_bit m words r p) e f ∙ a r p q (omega arith)

-- ---- no symbol has a place behind the first K

over_no_sets : (f : ℕ → Bool) (sets : ℕ → ℕ → Bool) (n p : ℕ) → ((m : ℕ) → sets m p ≡ false) → is_odd_over f sets n p ≡ false
unfolding is_odd_over
over_no_sets f sets zero p e = refl
over_no_sets f sets (suc n) p e = ap₂ (λ (b x : Bool). plus (f n && b) x) (e n) (over_no_sets f sets n p e) ∙ ap (λ (b : Bool). plus b false) (and_comm (f n) false)

plain_behind_by : (k s j p : ℕ) → k ≤ p → (j < k) ⊎ (k ≤ j) → plain_set k s j p ≡ false
plain_behind_by k s j p q (inl r) =
    cond-true (ltb j k) (j == p) (ltb p k && in_ldpc s (j - k) p) (lt-ltb j k r) ∙ ne_eqb j p (λ same. omega arith)
plain_behind_by k s j p q (inr r) =
    cond-false (ltb j k) (j == p) (ltb p k && in_ldpc s (j - k) p) (le-ltb j k r) ∙ ap (λ (b : Bool). b && in_ldpc s (j - k) p) (le-ltb p k q)

plain_behind : (k s j p : ℕ) → k ≤ p → plain_set k s j p ≡ false
plain_behind k s j p q = plain_behind_by k s j p q (cases_lt j k)

half_behind : (k s h i p : ℕ) → k ≤ p → half_set k s h i p ≡ false
half_behind k s h i p q = over_no_sets (in_half h i) (plain_set k s) (k + s) p (λ m. plain_behind k s m p q)

symbol_behind_by : (k s h m p : ℕ) → k ≤ p → (m < k + s) ⊎ (k + s ≤ m) → symbol_set k s h m p ≡ false
symbol_behind_by k s h m p q (inl r) =
    cond-true (ltb m (k + s)) (plain_set k s m p) (half_set k s h (m - (k + s)) p) (lt-ltb m (k + s) r) ∙ plain_behind k s m p q
symbol_behind_by k s h m p q (inr r) =
    cond-false (ltb m (k + s)) (plain_set k s m p) (half_set k s h (m - (k + s)) p) (le-ltb m (k + s) r) ∙ half_behind k s h (m - (k + s)) p q

pub symbol_behind : (k s h m p : ℕ) → k ≤ p → symbol_set k s h m p ≡ false
symbol_behind k s h m p q = symbol_behind_by k s h m p q (cases_lt m (k + s))

pub folded_behind : (k s h n p : ℕ) (f : ℕ → Bool) → k ≤ p → is_odd_over f (symbol_set k s h) n p ≡ false
folded_behind k s h n p f q = over_no_sets f (symbol_set k s h) n p (λ m. symbol_behind k s h m p q)

-- ---- what is kept is what each symbol is the sum of

pub source_symbol : (k s h m p : ℕ) → m < k → symbol_set k s h m p ≡ (m == p)
source_symbol k s h m p q =
    cond-true (ltb m (k + s)) (plain_set k s m p) (half_set k s h (m - (k + s)) p) (lt-ltb m (k + s) (omega arith))
    ∙ cond-true (ltb m k) (m == p) (ltb p k && in_ldpc s (m - k) p) (lt-ltb m k q)

known_kept : (k s h n w m p : ℕ) (folded : List ℕ) → AreFolded k s h n w folded → k ≤ 64 * w → m < k + n → k ≤ m → (p < 64 * w) ⊎ (64 * w ≤ p)
    → (ltb p (64 * w) && kept_bit w folded (m - k) p) ≡ symbol_set k s h m p
known_kept k s h n w m p folded a b q r (inl t) =
    let few : m - k < n = omega arith in
    let number : k + (m - k) ≡ m = omega arith in
    ap (λ (x : Bool). x && kept_bit w folded (m - k) p) (lt-ltb p (64 * w) t) ∙ a (m - k) p few t ∙ ap (λ (i : ℕ). symbol_set k s h i p) number
known_kept k s h n w m p folded a b q r (inr t) =
    ap (λ (x : Bool). x && kept_bit w folded (m - k) p) (le-ltb p (64 * w) t) ∙ sym (symbol_behind k s h m p (omega arith))

known_symbol_by : (k s h n w m p : ℕ) (folded : List ℕ) → AreFolded k s h n w folded → k ≤ 64 * w → m < k + n → (m < k) ⊎ (k ≤ m)
    → known_bit k w folded m p ≡ symbol_set k s h m p
known_symbol_by k s h n w m p folded a b q (inl r) =
    cond-true (ltb m k) (m == p) (ltb p (64 * w) && kept_bit w folded (m - k) p) (lt-ltb m k r) ∙ sym (source_symbol k s h m p r)
known_symbol_by k s h n w m p folded a b q (inr r) =
    cond-false (ltb m k) (m == p) (ltb p (64 * w) && kept_bit w folded (m - k) p) (le-ltb m k r) ∙ known_kept k s h n w m p folded a b q r (cases_lt p (64 * w))

pub known_symbol : (k s h n w m p : ℕ) (folded : List ℕ) → AreFolded k s h n w folded → k ≤ 64 * w → m < k + n
    → known_bit k w folded m p ≡ symbol_set k s h m p
known_symbol k s h n w m p folded a b q = known_symbol_by k s h n w m p folded a b q (cases_lt m k)

-- sets that are chosen alike
pub over_chosen : (f g : ℕ → Bool) (sets : ℕ → ℕ → Bool) (n p : ℕ) → ((m : ℕ) → f m ≡ g m) → is_odd_over f sets n p ≡ is_odd_over g sets n p
over_chosen f g sets n p e = over_same f g sets n p (λ m q. ap (λ (b : Bool). b && sets m p) (e m))
