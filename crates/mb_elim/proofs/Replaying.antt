-- Values of rows, as sums of unknowns, are replayed to the unknowns.
use Rattle.std.proofs.Common.{◌≡◌, ℕ, zero, suc, ◌*◌, ◌<◌, ◌≤◌, Bool, true, false, List, [], ◌∷◌, length, slice_index, slice_index_or, bit_xor, refl, ap, sym, subst, ◌∙◌, arith}
use Rattle.std.specs.Int.Bits.{xor_assoc, xor_self, xor_zero_r}
use Rattle.std.proofs.lemmas.Nat.{xor_comm}
use Rattle.mb_linear.specs.Row.{row_sum, zeros}
use Rattle.mb_linear.specs.Echelon.{IsEchelon}
use Rattle.mb_elim.specs.Offered.{Offered}
use Rattle.mb_elim.specs.Kept.{firsts, row_at, reduced_rows, row_as_it_came, offered_of, IsKept}
use Rattle.mb_elim.specs.Values.{byte_sum, AreSums, AreUnknowns}
use Rattle.mb_elim.specs.Replay.{IsLinear, AreValues, IsHeld, unit}
use Rattle.mb_elim.proofs.Snoc.{nth_firsts}
use Rattle.mb_elim.proofs.Offering.{enough_words}
use Rattle.mb_elim.proofs.Solving.{each_is_pivot}
use Rattle.mb_elim.proofs.Viewed.{count_is, places_is}

xor_swap : (u a b : ℕ) → bit_xor u (bit_xor a b) ≡ bit_xor a (bit_xor u b)
xor_swap u a b = sym (xor_assoc u a b) ∙ ap (λ (x : ℕ). bit_xor x b) (xor_comm u a) ∙ xor_assoc a u b

xor_twice : (u a b : ℕ) → bit_xor a b ≡ bit_xor (bit_xor u a) (bit_xor u b)
xor_twice u a b = sym (
    xor_assoc u a (bit_xor u b) ∙ ap (bit_xor u) (xor_swap a u b) ∙ sym (xor_assoc u u (bit_xor a b))
    ∙ ap (λ (x : ℕ). bit_xor x (bit_xor a b)) (xor_self u) ∙ xor_comm 0 (bit_xor a b) ∙ xor_zero_r (bit_xor a b)
    )

pub byte_linear : (b : ℕ) (us : List (List ℕ)) (x y : List Bool) → length x ≡ length y → byte_sum b (row_sum x y) us ≡ bit_xor (byte_sum b x us) (byte_sum b y us)
unfolding byte_sum row_sum
byte_linear b us [] [] e = sym (xor_zero_r 0)
byte_linear b us [] (d ∷ y) e = absurd (omega arith)
byte_linear b us (c ∷ x) [] e = absurd (omega arith)
byte_linear b [] (c ∷ x) (d ∷ y) e = sym (xor_zero_r 0)
byte_linear b (u ∷ us) (false ∷ x) (false ∷ y) e = let e2 : length x ≡ length y = omega arith in byte_linear b us x y e2
byte_linear b (u ∷ us) (true ∷ x) (false ∷ y) e =
    let e2 : length x ≡ length y = omega arith in
    ap (bit_xor (slice_index u b)) (byte_linear b us x y e2) ∙ sym (xor_assoc (slice_index u b) (byte_sum b x us) (byte_sum b y us))
byte_linear b (u ∷ us) (false ∷ x) (true ∷ y) e =
    let e2 : length x ≡ length y = omega arith in
    ap (bit_xor (slice_index u b)) (byte_linear b us x y e2) ∙ xor_swap (slice_index u b) (byte_sum b x us) (byte_sum b y us)
byte_linear b (u ∷ us) (true ∷ x) (true ∷ y) e =
    let e2 : length x ≡ length y = omega arith in byte_linear b us x y e2 ∙ xor_twice (slice_index u b) (byte_sum b x us) (byte_sum b y us)

sums_linear : (k : ℕ) (us : List (List ℕ)) → IsLinear k (λ b row. byte_sum b row us)
sums_linear k us b x y p q = byte_linear b us x y (p ∙ sym q)

pub byte_zeros : (b n : ℕ) (us : List (List ℕ)) → byte_sum b (zeros n) us ≡ 0
unfolding byte_sum zeros
byte_zeros b zero us = refl
byte_zeros b (suc n) [] = refl
byte_zeros b (suc n) (u ∷ us) = byte_zeros b n us

pub byte_unit : (b k p : ℕ) (us : List (List ℕ)) → length us ≡ k → p < k → byte_sum b (unit k p) us ≡ slice_index (slice_index_or us p []) b
unfolding byte_sum unit
byte_unit b zero p us e q = absurd (omega arith)
byte_unit b (suc k) p [] e q = absurd (omega arith)
byte_unit b (suc k) zero (u ∷ us) e q = ap (bit_xor (slice_index u b)) (byte_zeros b k us) ∙ xor_zero_r (slice_index u b)
byte_unit b (suc k) (suc p) (u ∷ us) e q =
    let e2 : length us ≡ k = omega arith in
    let q2 : p < k = omega arith in byte_unit b k p us e2 q2

-- ---- what the three steps do

abbrev pub Reduces : ℕ → ℕ → List ℕ → List ℕ → List ℕ → Type 0
Reduces width count masks s t = (k w : ℕ) (rows : List ℕ) (values : ℕ → List Bool → ℕ) → IsLinear k values → AreValues width values (row_as_it_came k w rows masks) s 0 count
    → AreValues width values (row_at k w rows) t 0 count

abbrev pub SolvesAt : ℕ → ℕ → ℕ → List ℕ → List ℕ → List ℕ → List ℕ → Type 0
SolvesAt width count words rows pivots s t = (values : ℕ → List Bool → ℕ) → IsLinear count values → count ≤ 64 * words → ((i : ℕ) → slice_index pivots i < count)
    → IsEchelon (reduced_rows count words rows count) (firsts (slice_index pivots) count) → AreValues width values (row_at count words rows) s 0 count
    → AreValues width values (λ n. unit count (slice_index pivots n)) t 0 count

abbrev pub Places : ℕ → ℕ → List ℕ → List ℕ → List ℕ → Type 0
Places width count pivots s t = (values : ℕ → List Bool → ℕ) → AreValues width values (λ n. unit count (slice_index pivots n)) s 0 count → AreValues width values (unit count) t 0 count

full_rank : (k w n : ℕ) (rows masks : List ℕ) (v : Offered) → offered_of k w n rows masks ≡ v → length v.news ≡ v.places → n ≡ k
full_rank k w n rows masks v e f = count_is k w n rows masks v e ∙ f ∙ sym (places_is k w n rows masks v e)

full_echelon : (k w n : ℕ) (rows masks pivots : List ℕ) → n ≡ k → IsKept k w n rows masks pivots → IsEchelon (reduced_rows k w rows k) (firsts (slice_index pivots) k)
full_echelon k w n rows masks pivots e h = subst (λ (m : ℕ). IsEchelon (reduced_rows k w rows m) (firsts (slice_index pivots) m)) e h.reduced

pub held_when_full : (k w n : ℕ) (rows masks pivots : List ℕ) (v : Offered) → offered_of k w n rows masks ≡ v → length v.news ≡ v.places → IsKept k w n rows masks pivots
    → (u : ℕ) → u < length pivots → IsHeld pivots 0 u
held_when_full k w n rows masks pivots v e f h u p =
    let fit = h.pivots_fit in each_is_pivot k w rows pivots u (omega arith) fit (full_echelon k w n rows masks pivots (full_rank k w n rows masks v e f) h)

-- the stripe has the values of the rows as they came
sums_came : (k w n width : ℕ) (rows masks s : List ℕ) (us : List (List ℕ)) (v : Offered) → offered_of k w n rows masks ≡ v → n ≡ k → AreSums width v.news us s
    → AreValues width (λ b row. byte_sum b row us) (row_as_it_came k w rows masks) s 0 k
sums_came k w n width rows masks s us v e f sums i b p q r =
    let count = count_is k w n rows masks v e in
    let news = ap (λ (o : Offered). o.news) e in
    sums i b (omega arith) r ∙ ap (λ (ns : List (List Bool)). byte_sum b (slice_index_or ns i []) us) (sym news)
    ∙ ap (λ (row : List Bool). byte_sum b row us) (nth_firsts (row_as_it_came k w rows masks) [] n i (omega arith))

pub replayed : (k w n words width : ℕ) (rows masks pivots s t u x : List ℕ) (us : List (List ℕ)) (v : Offered) → offered_of k w n rows masks ≡ v
    → IsKept k w n rows masks pivots → length v.news ≡ v.places → words ≡ w → length us ≡ v.places → AreSums width v.news us s
    → Reduces width k masks s t → SolvesAt width (length pivots) words rows pivots t u → Places width (length pivots) pivots u x → AreUnknowns width us x
replayed k w n words width rows masks pivots s t u x us v e h f same long sums one two three i b p q =
    let full = full_rank k w n rows masks v e f in
    let places = places_is k w n rows masks v e in
    let values = λ (d : ℕ) (row : List Bool). byte_sum d row us in
    let count = long ∙ sym places in
    let two_at : SolvesAt width k w rows pivots t u =
    subst (λ (m : ℕ). SolvesAt width k m rows pivots t u) same (subst (λ (m : ℕ). SolvesAt width m words rows pivots t u) h.pivots_fit two) in
    let three_at : Places width k pivots u x = subst (λ (m : ℕ). Places width m pivots u x) h.pivots_fit three in
    let lin = sums_linear k us in
    let reds = one k w rows values lin (sums_came k w n width rows masks s us v e full sums) in
    let units = two_at values lin (enough_words k w h.words) h.pivots_within (full_echelon k w n rows masks pivots full h) reds in
    three_at values units i b (omega arith) (omega arith) q ∙ byte_unit b k i us count (omega arith)
