-- Source symbols of a usable code: none follows from the others, so a symbol of another ESI is always new.
use Rattle.std.proofs.Common.{◌≡◌, ◌*◌, take, drop, slice_set, add-one, ap₂, ◌≢◌, ◌↔◌, ℕ, zero, suc, ◌+◌, ◌-◌, ◌<◌, ◌≤◌, Bool, true, false, nat_lt, cond, List, [], ◌∷◌, ◌++◌, length, map, slice_index, refl, ap, sym, subst, ◌∙◌, arith, lt-ltb}
use Rattle.std.specs.List.{AllByRecursion}
use Rattle.std.proofs.lemmas.List.{length-map, map-append}
use Rattle.std.proofs.lemmas.Grind.{common_steps}
use Rattle.mb_linear.specs.Row.{row_sum, zeros, chosen_sum, value_over}
use Rattle.mb_linear.specs.Span.{IsSumOf, IsNothing, AreIndependent}
use Rattle.mb_linear.proofs.RowLemmas.{sum_self, zero_values}
use Rattle.mb_linear.proofs.SpanLemmas.{sums_determined}
use Rattle.mb_linear.proofs.Independence.{new_independent, independent_few}
use Rattle.mb_linear.proofs.Spanning.{zeros_span, spanning_many}
use Rattle.mb_bits.proofs.BitLemmas.{Order, Order.Below, Order.From, order}
use Rattle.mb_bits.specs.BitRow.{row_of}
use Rattle.mb_elim.specs.Offered.{Offered}
use Rattle.mb_elim.specs.Kept.{firsts}
use Rattle.mb_elim.specs.declared.elim.Offer.{Offer}
use Rattle.mb_elim.specs.declared.elim.Offer.TheVariants.{New, Determined}
use Rattle.mb_elim.proofs.Snoc.{length_snoc, length_firsts, nth_firsts, all_before, all_last, all_snoc, all_firsts, all_at}
use Rattle.mb_elim.proofs.Gathering.{chosen_snoc}
use Rattle.mb_rows.specs.Code.{RaptorCode, l_of}
use Rattle.mb_rows.specs.Walk.{lt_row}
use Rattle.mb_rows.specs.Folding.{folded_row}
use Rattle.mb_rows.specs.Determined.{Determines, DetermineBlock}
use Rattle.mb_rows.proofs.DeterminedLemmas.{rows_determine_one, rows_determine_block}
use Rattle.mb_encoder.specs.Solutions.{Pair, esis}
use Rattle.mb_encoder.proofs.Offering.{length_folded}
use Rattle.mb_decoder.specs.Block.{Block, SourcesDetermine, AreSourcesAlone, IsOf}
use Rattle.mb_decoder.specs.Block.{filled}
use Rattle.mb_decoder.specs.Kept.{block_in, pairs_in, IsAmongFirst, IsAmong}
use Rattle.mb_decoder.proofs.Hearing.{folded_rows, full_block, block_full, heard}
use Rattle.mb_decoder.proofs.Extending.{map_of_firsts}
use Rattle.mb_decoder.proofs.Solutions.{esis_in}

-- ---- independent rows

-- a choice of rows by its last
record LastOf (n : ℕ) (choice : List Bool) : Type 0 where
  front : List Bool
  last : Bool
  is : choice ≡ front ++ last ∷ []
  count : length front ≡ n

last_of : (n : ℕ) (choice : List Bool) → length choice ≡ suc n → LastOf n choice
last_of n [] e = absurd (omega arith)
last_of zero (c ∷ []) e = record { front = []; last = c; is = refl; count = refl }
last_of zero (c ∷ d ∷ choice) e = absurd (omega arith)
last_of (suc n) (c ∷ choice) e =
    let e2 : length choice ≡ suc n = omega arith in
    let l = last_of n choice e2 in record { front = c ∷ l.front; last = l.last; is = ap (λ (bs : List Bool). c ∷ bs) l.is; count = ap suc l.count }

-- rows are independent wherever the first of them stands
pub last_independent : (n : ℕ) (rows : List (List Bool)) (row : List Bool) → AreIndependent n (row ∷ rows) → AreIndependent n (rows ++ row ∷ [])
unfolding chosen_sum
last_independent n rows row free choice long none =
    let l = last_of (length rows) choice (long ∙ length_snoc rows row) in
    let sum = sym (chosen_snoc n l.front l.last rows row l.count) ∙ ap (λ (c : List Bool). chosen_sum n c (rows ++ row ∷ [])) (sym l.is) ∙ none in
    let nothing : IsNothing (l.last ∷ l.front) = free (l.last ∷ l.front) (ap suc l.count) sum in
    subst IsNothing (sym l.is) (all_snoc (λ c. c ≡ false) l.front l.last nothing.1 nothing.0)

before_free : (k m : ℕ) (f : ℕ → List Bool) → AreIndependent k (firsts f (suc m)) → AreIndependent k (firsts f m)
unfolding firsts
before_free k m f free choice long none =
    let all = free (choice ++ false ∷ []) (length_snoc choice false ∙ ap suc long ∙ sym (length_snoc (firsts f m) (f m)))
    (chosen_snoc k choice false (firsts f m) (f m) long ∙ none) in
    all_before (λ c. c ≡ false) choice false all

front_free : (k n d count : ℕ) (f : ℕ → List Bool) → count ≡ d + n → AreIndependent k (firsts f count) → AreIndependent k (firsts f n)
front_free k n zero count f e free = let e2 : count ≡ n = omega arith in subst (λ (m : ℕ). AreIndependent k (firsts f m)) e2 free
front_free k n (suc d) count f e free =
    let e2 : count ≡ suc (d + n) = omega arith in
    front_free k n d (d + n) f refl (before_free k (d + n) f (subst (λ (m : ℕ). AreIndependent k (firsts f m)) e2 free))

-- none of independent rows is a sum of those before it
pub last_is_new : (k n count : ℕ) (f : ℕ → List Bool) → length (f n) ≡ k → n < count → AreIndependent k (firsts f count) → IsSumOf k (firsts f n) (f n) → ⊥
unfolding firsts
last_is_new k n count f long p free s =
    let own = front_free k (suc n) (count - suc n) count f (omega arith) free in
    let none : chosen_sum k (s.choice ++ true ∷ []) (firsts f n ++ f n ∷ []) ≡ zeros k =
    chosen_snoc k s.choice true (firsts f n) (f n) s.one_each ∙ ap (row_sum (f n)) s.sum ∙ sum_self k (f n) long in
    let nothing = own (s.choice ++ true ∷ []) (length_snoc s.choice true ∙ ap suc s.one_each ∙ sym (length_snoc (firsts f n) (f n))) none in
    let bad : true ≡ false = all_last (λ c. c ≡ false) s.choice true nothing in absurd cc

-- ---- a source symbol that was not heard

-- the numbers but one
abbrev skipping : ℕ → ℕ → ℕ
skipping x i = cond (nat_lt i x) i (suc i)

below_stays : (x i : ℕ) → i < x → skipping x i ≡ i
below_stays x i p = rw (lt-ltb i x p) refl

not_below : (x i : ℕ) → x ≤ i → nat_lt i x ≡ false
not_below x i p = grind (arith, common_steps)

from_moves : (x i : ℕ) → x ≤ i → skipping x i ≡ suc i
from_moves x i p = rw (not_below x i p) refl

-- the source ESIs but one
abbrev others : ℕ → ℕ → List ℕ
others k x = firsts (skipping x) (k - 1)

at_by : (P : ℕ → Type 0) (k x e : ℕ) → AllByRecursion P (others k x) → e < k → e ≢ x → x < k → Order e x → P e
at_by P k x e all p differ q (Below r) = subst P (below_stays x e r) (all_at P (skipping x) (k - 1) all e (omega arith))
at_by P k x zero all p differ q (From r) = absurd (differ (omega arith))
at_by P k x (suc e) all p differ q (From r) =
    let behind : x ≤ e = (let apart : suc e ≢ x = differ in other_order x e r apart) in
    subst P (from_moves x e behind) (all_at P (skipping x) (k - 1) all e (omega arith))
  where
    other_order : (x e : ℕ) → x ≤ suc e → suc e ≢ x → x ≤ e
    other_order x e r apart = by_order x e r apart (order e x)
      where
        by_order : (x e : ℕ) → x ≤ suc e → suc e ≢ x → Order e x → x ≤ e
        by_order x e r apart (Below s) = absurd (apart (omega arith))
        by_order x e r apart (From s) = s

at_others : (P : ℕ → Type 0) (k x e : ℕ) → AllByRecursion P (others k x) → e < k → e ≢ x → x < k → P e
at_others P k x e all p differ q = at_by P k x e all p differ q (order e x)

all_apart : (P : ℕ → Type 0) (k x : ℕ) (es : List ℕ) → AllByRecursion P (others k x) → x < k → AllByRecursion (λ e. e < k) es → AllByRecursion (λ e. e ≢ x) es
    → AllByRecursion P es
all_apart P k x [] all q below apart = tt
all_apart P k x (e ∷ es) all q below apart = (at_others P k x e all below.0 apart.0 q, all_apart P k x es all q below.1 apart.1)

determine_many : (c : RaptorCode) (es : List ℕ) → DetermineBlock c es → c.row.k ≤ length es
determine_many c es d =
    let rows = map (folded_row c) es in
    let many = spanning_many c.row.k rows (folded_rows c es) (zeros_span c.row.k rows (folded_rows c es) ((rows_determine_block c es).0 d)) in
    let count = length-map es (folded_row c) in omega arith

-- what holds of all but one holds of all where it holds of that one
with_one : (P : ℕ → Type 0) (k x : ℕ) → AllByRecursion P (others k x) → P x → x < k → (e : ℕ) → e < k → P e
with_one P k x all own q e p = by_same P k x e all own q p (order e x) (order x e)
  where
    by_same : (P : ℕ → Type 0) (k x e : ℕ) → AllByRecursion P (others k x) → P x → x < k → e < k → Order e x → Order x e → P e
    by_same P k x e all own q p (Below r) s = at_others P k x e all p (λ same. absurd (omega arith)) q
    by_same P k x e all own q p (From r) (Below s) = at_others P k x e all p (λ same. absurd (omega arith)) q
    by_same P k x e all own q p (From r) (From s) = let same : x ≡ e = omega arith in subst P same own

-- source symbols of a usable code do not determine one that is not among them
pub source_is_new : (c : RaptorCode) (es : List ℕ) (x : ℕ) → SourcesDetermine c → AllByRecursion (λ e. e < c.row.k) es → AllByRecursion (λ e. e ≢ x) es → x < c.row.k
    → Determines c es x → ⊥
source_is_new c es x usable below apart q d =
    let k = c.row.k in
    let all : DetermineBlock c (others k x) = λ values meet.
    let own : value_over (lt_row c x) values ≡ false =
    d values (record { meets = meet.meets; each = all_apart (λ e. value_over (lt_row c e) values ≡ false) k x es meet.each q below apart }) in
    usable values (record {
      meets = meet.meets;
      each = all_firsts (λ e. value_over (lt_row c e) values ≡ false) (λ e. e) k
          (with_one (λ e. value_over (lt_row c e) values ≡ false) k x meet.each own q);
    }) in
    let many = determine_many c (others k x) all in
    let count = length_firsts (skipping x) (k - 1) in absurd (omega arith)

-- ---- a source symbol that was heard

all_among : (P : ℕ → Type 0) (es : List ℕ) (i : ℕ) → AllByRecursion P es → i < length es → P (slice_index es i)
all_among P [] i all p = absurd (omega arith)
all_among P (e ∷ es) zero all p = all.0
all_among P (e ∷ es) (suc i) all p = all_among P es i all.1 (omega arith)

heard_again : (c : RaptorCode) (es : List ℕ) (x : ℕ) → IsAmong es x → Determines c es x
heard_again c es x among values meet =
    subst (λ (e : ℕ). value_over (lt_row c e) values ≡ false) among.is (all_among (λ e. value_over (lt_row c e) values ≡ false) es among.index meet.each among.within)

-- a block that is determined determines each symbol
all_determined : (c : RaptorCode) (es : List ℕ) (x : ℕ) → DetermineBlock c es → Determines c es x
all_determined c es x d values meet = ap (value_over (lt_row c x)) (d values meet) ∙ zero_values (l_of c) (lt_row c x)

repeated_by : (c : RaptorCode) (es : List ℕ) (x : ℕ) → AreIndependent c.row.k (map (folded_row c) es) → (length es ≢ c.row.k → IsAmong es x)
    → Order (length es) c.row.k → Determines c es x
repeated_by c es x free among (Below p) = heard_again c es x (among (λ same. absurd (omega arith)))
repeated_by c es x free among (From p) =
    let few = independent_few c.row.k (map (folded_row c) es) (folded_rows c es) free in
    let count = length-map es (folded_row c) in
    all_determined c es x (full_block c es free (omega arith))

-- a source symbol is not kept where it was heard, or where the block is determined
repeated : (c : RaptorCode) (es : List ℕ) (x : ℕ) → AreIndependent c.row.k (map (folded_row c) es) → (length es ≢ c.row.k → IsAmong es x) → Determines c es x
repeated c es x free among = repeated_by c es x free among (order (length es) c.row.k)

-- ---- one more source symbol

pub rows_more : (c : RaptorCode) (kept : List Pair) (pair : Pair) → map (folded_row c) (esis (kept ++ pair ∷ [])) ≡ map (folded_row c) (esis kept) ++ folded_row c pair.esi ∷ []
rows_more c kept pair =
    ap (map (folded_row c)) (map-append (λ (p : Pair). p.esi) kept (pair ∷ [])) ∙ map-append (folded_row c) (esis kept) (pair.esi ∷ [])

more_free : (c : RaptorCode) (kept : List Pair) (pair : Pair) → AreIndependent c.row.k (map (folded_row c) (esis kept)) → (Determines c (esis kept) pair.esi → ⊥)
    → AreIndependent c.row.k (map (folded_row c) (esis (kept ++ pair ∷ [])))
more_free c kept pair free new =
    let rows = map (folded_row c) (esis kept) in
    subst (AreIndependent c.row.k) (sym (rows_more c kept pair))
    (last_independent c.row.k rows (folded_row c pair.esi)
    (new_independent c.row.k rows (folded_row c pair.esi) (folded_rows c (esis kept)) (length_folded c pair.esi) free
    (λ s. new ((rows_determine_one c (esis kept) pair.esi).1 (sums_determined c.row.k rows (folded_row c pair.esi) (folded_rows c (esis kept)) s)))))

-- what hearing a source symbol did to a block of source symbols alone
pub record IsHeard (c : RaptorCode) (old new : Block) (pair : Pair) (answer : Bool) : Type 0 where
  pub determined : (answer ≡ false) ↔ Determines c (esis old.kept) pair.esi
  pub t : new.t ≡ old.t
  pub of : IsOf c new

pub is_heard : (c : RaptorCode) (old new : Block) (pair : Pair) (answer : Bool) → IsOf c old → old.alone ≡ true → pair.esi < c.row.k
    → (answer ≡ false → new ≡ old) → (answer ≡ false → length old.kept ≢ old.k → IsAmong (esis old.kept) pair.esi)
    → (answer ≡ true → AllByRecursion (λ e. e ≢ pair.esi) (esis old.kept)) → (answer ≡ true → new ≡ record old { kept = old.kept ++ pair ∷ [] }) → IsHeard c old new pair answer
is_heard c old new pair false of alone source same again fresh more =
    let a = of.sources alone in
    let count = length-map old.kept (λ (p : Pair). p.esi) in record {
      determined = (
        λ no. repeated c (esis old.kept) pair.esi a.new (λ few. again refl (λ full. few (count ∙ full ∙ of.k))),
        λ d. refl,
      );
      t = ap (λ (b : Block). b.t) (same refl);
      of = subst (IsOf c) (sym (same refl)) of;
    }
is_heard c old new pair true of alone source same again fresh more =
    let a = of.sources alone in
    let new_one = source_is_new c (esis old.kept) pair.esi a.usable a.below (fresh refl) source in record {
      determined = (λ no. absurd cc, λ d. absurd (new_one d));
      t = ap (λ (b : Block). b.t) (more refl);
      of = subst (IsOf c) (sym (more refl)) (record {
        k = of.k;
        rows = λ worked. let bad : true ≡ false = sym alone ∙ worked in absurd cc;
        sources = λ still. record {
          usable = a.usable;
          below = subst (AllByRecursion (λ e. e < c.row.k)) (sym (map-append (λ (p : Pair). p.esi) old.kept (pair ∷ [])))
              (all_snoc (λ e. e < c.row.k) (esis old.kept) pair.esi a.below source);
          new = more_free c old.kept pair a.new new_one;
        };
      });
    }

-- ---- a block of them

-- its source symbols determine the block where some of them do
pub sources_show : (c : RaptorCode) (es : List ℕ) → DetermineBlock c es → AllByRecursion (λ e. e < c.row.k) es → SourcesDetermine c
sources_show c es d below = λ values meet. d values (record {
  meets = meet.meets;
  each = all_below (λ e. value_over (lt_row c e) values ≡ false) c.row.k es (all_at (λ e. value_over (lt_row c e) values ≡ false) (λ e. e) c.row.k meet.each) below;
})
  where
    all_below : (P : ℕ → Type 0) (k : ℕ) (es : List ℕ) → ((e : ℕ) → e < k → P e) → AllByRecursion (λ e. e < k) es → AllByRecursion P es
    all_below P k [] all below = tt
    all_below P k (e ∷ es) all below = (all e below.0, all_below P k es all below.1)

none_free : (n : ℕ) → AreIndependent n []
none_free n [] long none = tt
none_free n (c ∷ choice) long none = absurd (omega arith)

-- nothing was heard yet
pub none_alone : (c : RaptorCode) (b : Block) → b.kept ≡ [] → SourcesDetermine c → AreSourcesAlone c b
none_alone c b none usable = record {
  usable = usable;
  below = subst (λ (kept : List Pair). AllByRecursion (λ e. e < c.row.k) (esis kept)) (sym none) tt;
  new = subst (λ (kept : List Pair). AreIndependent c.row.k (map (folded_row c) (esis kept))) (sym none) (none_free c.row.k);
}

-- whether its rows were offered or not, they are independent
pub free_by : (c : RaptorCode) (b : Block) (alone : Bool) → b.alone ≡ alone → IsOf c b → AreIndependent b.k b.rows → AreIndependent c.row.k (map (folded_row c) (esis b.kept))
free_by c b true is of free = (of.sources is).new
free_by c b false is of free = subst (AreIndependent c.row.k) (of.rows is) (subst (λ (k : ℕ). AreIndependent k b.rows) of.k free)

-- ---- in memory

pub rows_in : (c : RaptorCode) (t n : ℕ) (es xs : List ℕ) → map (folded_row c) (esis (pairs_in t es xs n)) ≡ firsts (λ i. folded_row c (slice_index es i)) n
rows_in c t n es xs = ap (map (folded_row c)) (esis_in t n es xs) ∙ map_of_firsts (folded_row c) (slice_index es) n

pub among_kept : (t n : ℕ) (es xs : List ℕ) (x : ℕ) → IsAmongFirst es n x → IsAmong (esis (pairs_in t es xs n)) x
among_kept t n es xs x among =
    let count = ap length (esis_in t n es xs) ∙ length_firsts (slice_index es) n in record {
      index = among.index;
      within = let p = among.within in omega arith;
      is = ap (λ (is : List ℕ). slice_index is among.index) (esis_in t n es xs) ∙ nth_firsts (slice_index es) 0 n among.index among.within ∙ among.is;
    }

-- what holds of the first ESIs holds of those that are kept
pub all_kept : (P : ℕ → Type 0) (t n : ℕ) (es xs : List ℕ) → ((i : ℕ) → i < n → P (slice_index es i)) → AllByRecursion P (esis (pairs_in t es xs n))
all_kept P t n es xs all = subst (AllByRecursion P) (sym (esis_in t n es xs)) (all_firsts P (slice_index es) n all)

-- a symbol is put behind those that are kept
pub source_kept : (b : Block) (e : Offered) (t n count at esi : ℕ) (alone : Bool) (es xs ys bytes : List ℕ) → block_in t e n alone es xs ≡ b → count ≡ suc n → at ≡ t * n
    → n < length es → at + t ≤ length xs → length bytes ≤ t → ys ≡ take at xs ++ (filled t bytes ++ drop (at + t) xs)
    → block_in t e count alone (slice_set es n esi) ys ≡ record b { kept = b.kept ++ record { esi = esi; symbol = filled b.t bytes } ∷ [] }
source_kept b e t n count at esi alone es xs ys bytes view f g p q r put =
    let more = b.kept ++ record { esi = esi; symbol = filled b.t bytes } ∷ [] in
    ap (λ (ps : List Pair). let d : Block = record { k = e.places; t = t; kept = ps; alone = alone; rows = e.news } in d)
    (heard b e t n count at esi alone es xs ys bytes view f g p q r put)
    ∙ ap (λ (d : Block). let r : Block = record { k = d.k; t = d.t; kept = more; alone = d.alone; rows = d.rows } in r) view

-- ---- offering the rows of those that are kept

pub offered_one : (c : RaptorCode) (es : List ℕ) (n count : ℕ) (old new : Offered) (words : List ℕ) (answer : Offer) → old.places ≡ c.row.k
    → old.news ≡ firsts (λ i. folded_row c (slice_index es i)) n → n < count → AreIndependent c.row.k (firsts (λ i. folded_row c (slice_index es i)) count)
    → row_of c.row.k words ≡ folded_row c (slice_index es n) → (answer ≡ Determined → IsSumOf old.places old.news (row_of old.places words))
    → ((m : ℕ) → answer ≡ New m → new ≡ record { places = old.places; news = old.news ++ row_of old.places words ∷ [] })
    → new.news ≡ firsts (λ i. folded_row c (slice_index es i)) (n + 1)
unfolding firsts
offered_one c es n count old new words Determined places rows p free own old_one added =
    let sum = subst (λ (k : ℕ). IsSumOf k old.news (row_of k words)) places (old_one refl) in
    let same = subst (λ (rs : List (List Bool)). IsSumOf c.row.k rs (row_of c.row.k words)) rows sum in
    let last = subst (IsSumOf c.row.k (firsts (λ i. folded_row c (slice_index es i)) n)) own same in
    absurd (last_is_new c.row.k n count (λ i. folded_row c (slice_index es i)) (length_folded c (slice_index es n)) p free last)
offered_one c es n count old new words (New m) places rows p free own old_one added =
    ap (λ (o : Offered). o.news) (added m refl)
    ∙ ap₂ (λ (rs : List (List Bool)) (r : List Bool). rs ++ r ∷ []) rows (ap (λ (k : ℕ). row_of k words) places ∙ own)
    ∙ sym (ap (firsts (λ i. folded_row c (slice_index es i))) (add-one n))

-- the block is then one whose rows were offered
pub offered_all : (c : RaptorCode) (b : Block) (e f : Offered) (t n : ℕ) (alone : Bool) (es xs : List ℕ) → block_in t e n alone es xs ≡ b → IsOf c b → f.places ≡ e.places
    → f.news ≡ firsts (λ i. folded_row c (slice_index es i)) n → IsOf c (block_in t f n false es xs)
offered_all c b e f t n alone es xs view of places rows = record {
  k = places ∙ ap (λ (d : Block). d.k) view ∙ of.k;
  rows = λ worked. rows ∙ sym (rows_in c t n es xs);
  sources = λ is. absurd cc;
}

-- ---- as many as source symbols

-- those that determine the block are K
pub full_kept : (c : RaptorCode) (b : Block) → AreIndependent c.row.k (map (folded_row c) (esis b.kept)) → DetermineBlock c (esis b.kept) → length b.kept ≡ c.row.k
full_kept c b free d =
    let rows = length-map (esis b.kept) (folded_row c) in
    let count = length-map b.kept (λ (p : Pair). p.esi) in
    let full = block_full c (esis b.kept) free d in omega arith
