-- What holds of the kept pairs of a block as one more is heard.
use Rattle.std.proofs.Common.{◌≡◌, ℕ, suc, ◌+◌, ◌-◌, ◌<◌, ◌≤◌, ◌==◌, Bool, true, false, not, nat_lt, cond, List, [], ◌∷◌, ◌++◌, length, map, refl, sym, ◌∙◌, ap, subst, arith, add-one}
use Rattle.std.specs.List.{AllByRecursion}
use Rattle.std.proofs.lemmas.Bool.{or_parts}
use Rattle.std.proofs.lemmas.Grind.{common_steps}
use Rattle.std.proofs.lemmas.List.{length-map, map-append}
use Rattle.mb_linear.specs.Span.{IsSumOf, AreIndependent}
use Rattle.mb_linear.proofs.SpanLemmas.{sums_determined}
use Rattle.mb_linear.proofs.Independence.{new_independent, independent_few}
use Rattle.mb_elim.proofs.Snoc.{length_snoc, all_snoc}
use Rattle.mb_rows.specs.Code.{RaptorCode}
use Rattle.mb_rows.specs.Folding.{folded_row}
use Rattle.mb_rows.specs.Determined.{Determines}
use Rattle.mb_rows.proofs.DeterminedLemmas.{rows_determine_one}
use Rattle.mb_encoder.specs.Solutions.{Pair, esis}
use Rattle.mb_encoder.proofs.Offering.{length_folded}
use Rattle.mb_decoder.proofs.Alone.{last_independent, rows_more}
use Rattle.mb_decoder.proofs.Hearing.{folded_rows}
use Rattle.mb_way.specs.Way.{Way, Way.NoCode, Way.Raptor, is_in_range}
use Rattle.mb_way.specs.Determined.{is_determined}
use Rattle.mb_way.specs.Heard.{with_pair, kept_with, heard_as, keep_if, hear, AreRising, AreKept}
use Rattle.mb_way.specs.Laws.{KeptIsOneMore, NothingIsKept, HeardAreKept}
use Rattle.mb_way.specs.declared.heard.Heard.{Heard}
use Rattle.mb_way.specs.declared.heard.Heard.TheVariants.{Kept, Determined, OutOfRange}
use Rattle.mb_way.proofs.Rising.{AreBelow, has, rising-length}
use Rattle.mb_way.proofs.Testing.{not_determined}

-- ---- what becomes of a symbol

-- what holds of the kept pairs and with a pair that is kept holds once it is heard
keep_if_keeps : (P : List Pair → Type 0) (h : Heard) (w : Way) (kept : List Pair) (pair : Pair) → P kept → (h ≡ Kept → P (kept_with w pair kept)) → P (keep_if h w kept pair)
keep_if_keeps P Kept w kept pair p more = more refl
keep_if_keeps P Determined w kept pair p more = p
keep_if_keeps P OutOfRange w kept pair p more = p

pub hear_keeps : (P : List Pair → Type 0) (w : Way) (kept : List Pair) (pair : Pair) → P kept
    → (heard_as w kept pair.esi ≡ Kept → P (kept_with w pair kept)) → P (hear w kept pair)
hear_keeps P w kept pair p more = keep_if_keeps P (heard_as w kept pair.esi) w kept pair p more

if_kept : (in_range determined : Bool) → cond (not in_range) OutOfRange (cond determined Determined Kept) ≡ Kept → (in_range ≡ true) × (determined ≡ false)
if_kept true true is = absurd cc
if_kept true false is = (refl, refl)
if_kept false determined is = absurd cc

-- a symbol is kept where the block has its ESI and the kept ones don't determine it
pub kept_is_new : (w : Way) (kept : List Pair) (esi : ℕ) → heard_as w kept esi ≡ Kept → (is_in_range w esi ≡ true) × (is_determined w (esis kept) esi ≡ false)
kept_is_new w kept esi is = if_kept (is_in_range w esi) (is_determined w (esis kept) esi) is

-- ---- one pair more

next : (n : ℕ) → suc (n + 1) ≡ suc n + 1
next n = omega arith

length_either : (b : Bool) (pair first : Pair) (others new : List Pair) → length new ≡ length others + 1
    → length (cond b (pair ∷ first ∷ others) (first ∷ new)) ≡ suc (length others) + 1
length_either true pair first others new more = sym (add-one (suc (length others)))
length_either false pair first others new more = ap suc more ∙ next (length others)

length_with_pair : (pair : Pair) (kept : List Pair) → length (with_pair pair kept) ≡ length kept + 1
unfolding with_pair
length_with_pair pair [] = refl
length_with_pair pair (first ∷ others) =
    length_either (nat_lt pair.esi first.esi) pair first others (with_pair pair others) (length_with_pair pair others)

pub length_kept_with : (w : Way) (pair : Pair) (kept : List Pair) → length (kept_with w pair kept) ≡ length kept + 1
length_kept_with (NoCode k) pair kept = length_with_pair pair kept
length_kept_with (Raptor c) pair kept = length_snoc kept pair ∙ sym (add-one (length kept))

pub kept_more : KeptIsOneMore
kept_more w kept pair is = rw is (length_kept_with w pair kept)

all_either : (P : Pair → Type 0) (b : Bool) (pair first : Pair) (others new : List Pair) → P pair → P first → AllByRecursion P others → AllByRecursion P new
    → AllByRecursion P (cond b (pair ∷ first ∷ others) (first ∷ new))
all_either P true pair first others new p q all more = (p, (q, all))
all_either P false pair first others new p q all more = (q, more)

all_with_pair : (P : Pair → Type 0) (pair : Pair) (kept : List Pair) → P pair → AllByRecursion P kept → AllByRecursion P (with_pair pair kept)
unfolding with_pair
all_with_pair P pair [] p all = (p, tt)
all_with_pair P pair (first ∷ others) p all =
    all_either P (nat_lt pair.esi first.esi) pair first others (with_pair pair others) p all.0 all.1 (all_with_pair P pair others p all.1)

pub all_kept_with : (P : Pair → Type 0) (w : Way) (pair : Pair) (kept : List Pair) → P pair → AllByRecursion P kept → AllByRecursion P (kept_with w pair kept)
all_kept_with P (NoCode k) pair kept p all = all_with_pair P pair kept p all
all_kept_with P (Raptor c) pair kept p all = all_snoc P kept pair all p

-- ---- of Compact No-Code

rising_either : (b : Bool) (pair first : Pair) (others new : List Pair) (least : ℕ) → nat_lt pair.esi first.esi ≡ b → least ≤ pair.esi
    → (first.esi == pair.esi) ≡ false → AreRising least (esis (first ∷ others)) → (first.esi + 1 ≤ pair.esi → AreRising (first.esi + 1) (esis new))
    → AreRising least (esis (cond b (pair ∷ first ∷ others) (first ∷ new)))
rising_either true pair first others new least is le other rise more =
    let less : pair.esi < first.esi = grind (arith, common_steps) in (le, (omega arith, rise.1))
rising_either false pair first others new least is le other rise more =
    let above : first.esi + 1 ≤ pair.esi = grind (arith, common_steps) in (rise.0, more above)

rising_with_pair : (pair : Pair) (kept : List Pair) (least : ℕ) → AreRising least (esis kept) → least ≤ pair.esi → has pair.esi (esis kept) ≡ false
    → AreRising least (esis (with_pair pair kept))
unfolding with_pair
rising_with_pair pair [] least rise le none = (le, tt)
rising_with_pair pair (first ∷ others) least rise le none =
    let parts = or_parts (first.esi == pair.esi) (has pair.esi (esis others)) none in
    rising_either (nat_lt pair.esi first.esi) pair first others (with_pair pair others) least refl le parts.0 rise
    (λ above. rising_with_pair pair others (first.esi + 1) rise.1 above parts.1)

below_end : (e k : ℕ) → nat_lt e k ≡ true → e < k
below_end e k is = grind (arith, common_steps)

pub range_below : (k : ℕ) (kept : List Pair) → AllByRecursion (λ (pair : Pair). is_in_range (NoCode k) pair.esi ≡ true) kept → AreBelow k (esis kept)
range_below k [] are = tt
range_below k (pair ∷ kept) are = (below_end pair.esi k are.0, range_below k kept are.1)

no_code_more : (k : ℕ) (kept : List Pair) (pair : Pair) → AreKept (NoCode k) kept → heard_as (NoCode k) kept pair.esi ≡ Kept → AreKept (NoCode k) (with_pair pair kept)
unfolding is_determined
no_code_more k kept pair are is =
    let new = kept_is_new (NoCode k) kept pair.esi is in
    let range = all_with_pair (λ (pair : Pair). is_in_range (NoCode k) pair.esi ≡ true) pair kept new.0 are.range in
    let rising = rising_with_pair pair kept 0 are.new (omega arith) new.1 in
    let few : length (esis (with_pair pair kept)) ≤ k - 0 = rising-length (esis (with_pair pair kept)) 0 k rising (range_below k (with_pair pair kept) range) in
    let count = length-map (with_pair pair kept) (λ (p : Pair). p.esi) in
    record { few = omega arith; range = range; new = rising }

-- ---- of Raptor

pub esis_more : (kept : List Pair) (pair : Pair) → esis (kept ++ pair ∷ []) ≡ esis kept ++ pair.esi ∷ []
esis_more kept pair = map-append (λ (p : Pair). p.esi) kept (pair ∷ [])

new_row : (c : RaptorCode) (es : List ℕ) (esi : ℕ) → (Determines c es esi → ⊥) → IsSumOf c.row.k (map (folded_row c) es) (folded_row c esi) → ⊥
new_row c es esi new s = new ((rows_determine_one c es esi).1 (sums_determined c.row.k (map (folded_row c) es) (folded_row c esi) (folded_rows c es) s))

raptor_more : (c : RaptorCode) (kept : List Pair) (pair : Pair) → AreKept (Raptor c) kept → heard_as (Raptor c) kept pair.esi ≡ Kept
    → AreKept (Raptor c) (kept ++ pair ∷ [])
raptor_more c kept pair are is =
    let new = kept_is_new (Raptor c) kept pair.esi is in
    let rows = map (folded_row c) (esis kept) in
    let free : AreIndependent c.row.k (rows ++ folded_row c pair.esi ∷ []) =
    last_independent c.row.k rows (folded_row c pair.esi)
    (new_independent c.row.k rows (folded_row c pair.esi) (folded_rows c (esis kept)) (length_folded c pair.esi) are.new
    (new_row c (esis kept) pair.esi ((not_determined c (esis kept) pair.esi).0 new.1))) in
    let all : AreIndependent c.row.k (map (folded_row c) (esis (kept ++ pair ∷ []))) = subst (AreIndependent c.row.k) (sym (rows_more c kept pair)) free in
    let few = independent_few c.row.k (map (folded_row c) (esis (kept ++ pair ∷ []))) (folded_rows c (esis (kept ++ pair ∷ []))) all in
    let row_count = length-map (esis (kept ++ pair ∷ [])) (folded_row c) in
    let count = length-map (kept ++ pair ∷ []) (λ (p : Pair). p.esi) in
    record {
      few = omega arith;
      range = all_snoc (λ (pair : Pair). is_in_range (Raptor c) pair.esi ≡ true) kept pair are.range new.0;
      new = all;
    }

-- ---- of both

none_chosen : (n : ℕ) → AreIndependent n []
none_chosen n [] long none = tt
none_chosen n (c ∷ choice) long none = absurd (omega arith)

pub nothing_kept : NothingIsKept
nothing_kept (NoCode k) = record { few = omega arith; range = tt; new = tt }
nothing_kept (Raptor c) = record { few = omega arith; range = tt; new = none_chosen c.row.k }

more_are_kept : (w : Way) (kept : List Pair) (pair : Pair) → AreKept w kept → heard_as w kept pair.esi ≡ Kept → AreKept w (kept_with w pair kept)
more_are_kept (NoCode k) kept pair are is = no_code_more k kept pair are is
more_are_kept (Raptor c) kept pair are is = raptor_more c kept pair are is

pub heard_kept : HeardAreKept
heard_kept w kept pair are = hear_keeps (AreKept w) w kept pair are (λ is. more_are_kept w kept pair are is)
