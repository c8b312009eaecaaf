-- The limits of a code's numbers, and the sets of its constraints.
use Rattle.std.proofs.Common.{◌≡◌, ℕ, ◌+◌, ◌-◌, ◌*◌, ◌/◌, ◌<◌, ◌≤◌, ◌⊎◌, inl, inr, ◌==◌, Bool, false, ◌&&◌, ◌||◌, ltb, nat_lt, List, refl, ap, ap₂, sym, subst, ◌∙◌, arith}
use Rattle.std.specs.Prelude.{if◌then◌else◌}
use Rattle.std.proofs.lemmas.Bool.{cases_lt, cond-true, cond-false, lt-ltb, le-ltb, ne_eqb}
use Rattle.mb_linear.specs.Row.{plus}
use Rattle.mb_bits.specs.BitRow.{bit_in, row_of, Flips}
use Rattle.mb_tables.specs.Limits.{choose, half, IsH}
use Rattle.mb_tables.proofs.LimitLemmas.{choose-16, L-unique}
use Rattle.mb_rows.specs.Code.{RaptorCode, IsCode, l_of}
use Rattle.mb_rows.specs.Places.{is_odd_in, is_odd_over}
use Rattle.mb_rows.specs.Triple.{triple_of}
use Rattle.mb_rows.specs.Walk.{taken, in_lt, lt_row}
use Rattle.mb_rows.specs.Constraints.{in_ldpc, in_half, in_constraint, constraint_row}
use Rattle.mb_rows.specs.Folding.{symbol_set, in_folded, folded_row}
use Rattle.mb_rows.specs.Kept.{known_bit, IsKept}
use Rattle.mb_rows.specs.declared.triple.Triple.{Triple}
use Rattle.mb_rows.proofs.PlaceLemmas.{flipped, with_place, row_is}
use Rattle.mb_rows.proofs.FoldLemmas.{over_chosen, over_sets, known_symbol, folded_behind}

few_by : (n h : ℕ) → IsH n h → n ≤ 12870 → (16 < h) ⊎ (h ≤ 16) → h ≤ 16
few_by n h is most (inl p) = let below : choose 16 (half 16) < n = is.least 16 p in absurd (omega (arith, choose-16))
few_by n h is most (inr p) = p

-- there are at most 16 half symbols
pub half_few : (c : RaptorCode) → IsCode c → c.h ≤ 16
half_few c is =
    let k = is.row.k.most in
    let s = is.row.s.most in few_by (c.row.k + c.row.s) c.h is.h (omega arith) (cases_lt 16 c.h)

-- L' is L at least, and below 2L
pub walk_fits : (c : RaptorCode) → IsCode c → (l_of c ≤ c.row.lp) × (c.row.lp < 2 * l_of c)
walk_fits c is =
    let same : is.row.lp.l ≡ l_of c = L-unique c.row.k c.row.s is.row.lp.l (l_of c) is.row.lp.is_l (record { h = c.h; is_h = is.h; is = refl }) in
    let least = is.row.lp.least in
    let below = is.row.lp.below in (omega arith, omega arith)

-- there are at least two LDPC symbols
pub some_ldpc : (c : RaptorCode) → IsCode c → 2 ≤ c.row.s
some_ldpc c is =
    let x = is.row.s.is_fewest.is_x.positive in
    let least = is.row.s.least in
    let fewest = is.row.s.is_fewest.is in
    let k = is.row.k.least in omega arith

-- the set of a constraint, but for its own symbol
abbrev pub added_in : RaptorCode → ℕ → ℕ → Bool
added_in c i place =
    if nat_lt i c.row.s then nat_lt place c.row.k && in_ldpc c.row.s i place
    else nat_lt place (c.row.k + c.row.s) && in_half c.h (i - c.row.s) place

own_outside_by : (c : RaptorCode) (i p : ℕ) → c.row.k + i ≤ p → (i < c.row.s) ⊎ (c.row.s ≤ i) → added_in c i p ≡ false
own_outside_by c i p q (inl r) =
    cond-true (ltb i c.row.s) (ltb p c.row.k && in_ldpc c.row.s i p) (ltb p (c.row.k + c.row.s) && in_half c.h (i - c.row.s) p) (lt-ltb i c.row.s r)
    ∙ ap (λ (b : Bool). b && in_ldpc c.row.s i p) (le-ltb p c.row.k (omega arith))
own_outside_by c i p q (inr r) =
    cond-false (ltb i c.row.s) (ltb p c.row.k && in_ldpc c.row.s i p) (ltb p (c.row.k + c.row.s) && in_half c.h (i - c.row.s) p) (le-ltb i c.row.s r)
    ∙ ap (λ (b : Bool). b && in_half c.h (i - c.row.s) p) (le-ltb p (c.row.k + c.row.s) (omega arith))

-- the constraint's own symbol and those behind it are not added to it
pub own_outside : (c : RaptorCode) (i p : ℕ) → c.row.k + i ≤ p → added_in c i p ≡ false
own_outside c i p q = own_outside_by c i p q (cases_lt i c.row.s)

pub constraint_bits : (c : RaptorCode) (i at p : ℕ) (old new : List ℕ) → at ≡ c.row.k + i → Flips at old new
    → ((place : ℕ) → bit_in old place ≡ added_in c i place) → bit_in new p ≡ in_constraint c i p
constraint_bits c i at p old new e f g =
    flipped at old new f p ∙ ap₂ plus (ap (λ (q : ℕ). q == p) e) (g p) ∙ with_place (c.row.k + i) p (added_in c i) (own_outside c i (c.row.k + i) (omega arith))

pub constraint_behind : (c : RaptorCode) (i p : ℕ) → i < c.row.s + c.h → l_of c ≤ p → in_constraint c i p ≡ false
constraint_behind c i p q r =
    ap₂ (λ (a b : Bool). a || b) (ne_eqb p (c.row.k + i) (λ same. omega arith)) (own_outside c i p (omega arith))

pub constraint_is : (c v : RaptorCode) (i at : ℕ) (old new : List ℕ) → c ≡ v → at ≡ c.row.k + i → Flips at old new → ((place : ℕ) → bit_in old place ≡ added_in c i place)
    → row_of (l_of v) new ≡ constraint_row v i
constraint_is c v i at old new s e f g =
    let P : RaptorCode → Type 0 = λ d. row_of (l_of d) new ≡ constraint_row d i in
    subst P s (row_is (l_of c) new (in_constraint c i) (λ p q. constraint_bits c i at p old new e f g))

pub constraint_rest : (c v : RaptorCode) (i at : ℕ) (old new : List ℕ) → c ≡ v → i < v.row.s + v.h → at ≡ c.row.k + i → Flips at old new
    → ((place : ℕ) → bit_in old place ≡ added_in c i place) → (p : ℕ) → l_of v ≤ p → bit_in new p ≡ false
constraint_rest c v i at old new s q e f g p r =
    let behind : l_of c ≤ p = rw s r in
    let among : i < c.row.s + c.h = rw s q in
    constraint_bits c i at p old new e f g ∙ constraint_behind c i p among behind

-- ---- the LT row and the folded row

same_taken : (c : RaptorCode) (esi l lp p : ℕ) (t : Triple) → t ≡ triple_of c esi → l ≡ l_of c → lp ≡ c.row.lp → is_odd_in (taken l lp t) p ≡ in_lt c esi p
same_taken c esi l lp p t e f g =
    ap (λ (u : Triple). is_odd_in (taken l lp u) p) e ∙ ap₂ (λ (m n : ℕ). is_odd_in (taken m n (triple_of c esi)) p) f g

pub lt_is : (c : RaptorCode) (esi l lp : ℕ) (t : Triple) (words : List ℕ) → t ≡ triple_of c esi → l ≡ l_of c → lp ≡ c.row.lp
    → ((p : ℕ) → bit_in words p ≡ is_odd_in (taken l lp t) p) → row_of (l_of c) words ≡ lt_row c esi
lt_is c esi l lp t words e f g h = row_is (l_of c) words (in_lt c esi) (λ p q. h p ∙ same_taken c esi l lp p t e f g)

enough_words : (k : ℕ) → k ≤ 64 * ((k + 63) / 64)
enough_words k = omega arith

folded_bits : (c : RaptorCode) (esi l lp k w p : ℕ) (t : Triple) (kept folded : List ℕ) (bit : Bool) → IsKept c kept → t ≡ triple_of c esi → l ≡ l_of c → lp ≡ c.row.lp
    → k ≡ c.row.k → w ≡ (c.row.k + 63) / 64 → folded ≡ kept → bit ≡ is_odd_over (is_odd_in (taken l lp t)) (known_bit k w folded) l p → bit ≡ in_folded c esi p
folded_bits c esi l lp k w p t kept folded bit is e f g a b d h =
    h ∙ over_chosen (is_odd_in (taken l lp t)) (in_lt c esi) (known_bit k w folded) l p (λ m. same_taken c esi l lp m t e f g)
    ∙ ap₂ (λ (i v : ℕ). is_odd_over (in_lt c esi) (known_bit i v folded) l p) a b
    ∙ ap₂ (λ (words : List ℕ) (n : ℕ). is_odd_over (in_lt c esi) (known_bit c.row.k ((c.row.k + 63) / 64) words) n p) d f
    ∙ over_sets (in_lt c esi) (known_bit c.row.k ((c.row.k + 63) / 64) kept) (symbol_set c.row.k c.row.s c.h) (l_of c) p
    (λ m q. known_symbol c.row.k c.row.s c.h (c.row.s + c.h) ((c.row.k + 63) / 64) m p kept is.symbols (enough_words c.row.k) (omega arith))

pub folded_is : (c v : RaptorCode) (esi l lp k w : ℕ) (t : Triple) (kept folded words : List ℕ) → c ≡ v → IsKept c kept → t ≡ triple_of v esi → l ≡ l_of v → lp ≡ c.row.lp
    → k ≡ c.row.k → w ≡ (v.row.k + 63) / 64 → folded ≡ kept
    → ((p : ℕ) → bit_in words p ≡ is_odd_over (is_odd_in (taken l lp t)) (known_bit k w folded) l p) → row_of v.row.k words ≡ folded_row v esi
folded_is c v esi l lp k w t kept folded words s is e f g a b d h =
    let P : RaptorCode → Type 0 = λ x. row_of x.row.k words ≡ folded_row x esi in
    subst P s (row_is c.row.k words (in_folded c esi) (λ p q. folded_bits c esi l lp k w p t kept folded (bit_in words p) is
    (e ∙ ap (λ (x : RaptorCode). triple_of x esi) (sym s)) (f ∙ ap l_of (sym s)) g a (b ∙ ap (λ (x : RaptorCode). (x.row.k + 63) / 64) (sym s)) d (h p)))

pub folded_rest : (c v : RaptorCode) (esi l lp k w : ℕ) (t : Triple) (kept folded words : List ℕ) → c ≡ v → IsKept c kept → t ≡ triple_of v esi → l ≡ l_of v → lp ≡ c.row.lp
    → k ≡ c.row.k → w ≡ (v.row.k + 63) / 64 → folded ≡ kept
    → ((p : ℕ) → bit_in words p ≡ is_odd_over (is_odd_in (taken l lp t)) (known_bit k w folded) l p) → (p : ℕ) → v.row.k ≤ p → bit_in words p ≡ false
folded_rest c v esi l lp k w t kept folded words s is e f g a b d h p q =
    let behind : c.row.k ≤ p = rw s q in
    folded_bits c esi l lp k w p t kept folded (bit_in words p) is
    (e ∙ ap (λ (x : RaptorCode). triple_of x esi) (sym s)) (f ∙ ap l_of (sym s)) g a (b ∙ ap (λ (x : RaptorCode). (x.row.k + 63) / 64) (sym s)) d (h p)
    ∙ folded_behind c.row.k c.row.s c.h (l_of c) p (in_lt c esi) behind
