-- What is kept of a block determines exactly what the symbols that were heard of it do.
use Rattle.std.proofs.Common.{◌≡◌, ℕ, ◌==◌, ◌||◌, Bool, true, false, not, nat_lt, cond, List, [], ◌∷◌, ◌++◌, fold, filter, refl, sym, ◌∙◌, ap, append_assoc}
use Rattle.std.specs.List.{AllByRecursion, range_with_len}
use Rattle.std.proofs.lemmas.Bool.{eqb-true}
use Rattle.std.proofs.lemmas.List.{append-nil}
use Rattle.std.proofs.lemmas.List.Folds.{list_any-append}
use Rattle.mb_linear.specs.Row.{value_over}
use Rattle.mb_rows.specs.Code.{RaptorCode}
use Rattle.mb_rows.specs.Walk.{lt_row}
use Rattle.mb_rows.specs.Determined.{AreZeroAt, Determines}
use Rattle.mb_encoder.specs.Solutions.{Pair, esis}
use Rattle.mb_way.specs.Way.{Way, Way.NoCode, Way.Raptor, is_in_range}
use Rattle.mb_way.specs.Determined.{is_determined, is_block_determined}
use Rattle.mb_way.specs.Heard.{with_pair, kept_with, keep_if, hear}
use Rattle.mb_way.specs.Laws.{CompleteByHeard}
use Rattle.mb_way.specs.declared.heard.Heard.TheVariants.{Kept, Determined, OutOfRange}
use Rattle.mb_way.proofs.Lists.{all_same}
use Rattle.mb_way.proofs.Rising.{has}
use Rattle.mb_way.proofs.Testing.{determined_tested, block_tested}
use Rattle.mb_way.proofs.Keeping.{esis_more}
use Rattle.mb_way.proofs.Counting.{same_tests}

-- ---- of Compact No-Code

has_both : (i : ℕ) (xs ys : List ℕ) → has i (xs ++ ys) ≡ (has i xs || has i ys)
has_both i xs ys = list_any-append (λ e. e == i) xs ys

-- lists that have the same numbers determine the same
same_has : (k : ℕ) (xs ys : List ℕ) → ((i : ℕ) → has i xs ≡ has i ys) → is_block_determined (NoCode k) xs ≡ is_block_determined (NoCode k) ys
unfolding is_block_determined is_determined
same_has k xs ys f = all_same (λ i. has i xs) (λ i. has i ys) (range_with_len 0 k) f

or_repeat : (a b c : Bool) → (b ≡ true → a ≡ true) → (a || c) ≡ (a || (b || c))
or_repeat true b c f = refl
or_repeat false true c f = absurd (let e = f refl in cc)
or_repeat false false c f = refl

or_between : (a b c : Bool) → ((b || a) || c) ≡ (a || (b || c))
or_between true true c = refl
or_between true false c = refl
or_between false true c = refl
or_between false false c = refl

has_repeat : (es others : List ℕ) (esi i : ℕ) → has esi es ≡ true → has i (es ++ others) ≡ has i (es ++ esi ∷ others)
has_repeat es others esi i old =
    has_both i es others
    ∙ or_repeat (has i es) (esi == i) (has i others) (λ e. ap (λ (n : ℕ). has n es) (sym (eqb-true esi i e)) ∙ old)
    ∙ sym (has_both i es (esi ∷ others))

or_swap : (a b c : Bool) → (a || (b || c)) ≡ (b || (a || c))
or_swap true true c = refl
or_swap true false c = refl
or_swap false true c = refl
or_swap false false c = refl

has_either : (b : Bool) (pair first : Pair) (others new : List Pair) (i : ℕ) → has i (esis new) ≡ ((pair.esi == i) || has i (esis others))
    → has i (esis (cond b (pair ∷ first ∷ others) (first ∷ new))) ≡ ((pair.esi == i) || ((first.esi == i) || has i (esis others)))
has_either true pair first others new i more = refl
has_either false pair first others new i more =
    ap (λ (b : Bool). (first.esi == i) || b) more ∙ or_swap (first.esi == i) (pair.esi == i) (has i (esis others))

has_with_pair : (pair : Pair) (kept : List Pair) (i : ℕ) → has i (esis (with_pair pair kept)) ≡ ((pair.esi == i) || has i (esis kept))
unfolding with_pair
has_with_pair pair [] i = refl
has_with_pair pair (first ∷ others) i = has_either (nat_lt pair.esi first.esi) pair first others (with_pair pair others) i (has_with_pair pair others i)

has_kept : (pair : Pair) (kept : List Pair) (others : List ℕ) (i : ℕ) → has i (esis (with_pair pair kept) ++ others) ≡ has i (esis kept ++ pair.esi ∷ others)
has_kept pair kept others i =
    has_both i (esis (with_pair pair kept)) others
    ∙ ap (λ (b : Bool). b || has i others) (has_with_pair pair kept i)
    ∙ or_between (has i (esis kept)) (pair.esi == i) (has i others)
    ∙ sym (has_both i (esis kept) (pair.esi ∷ others))

-- ---- of Raptor

all_front : {A : Type 0} → (P : A → Type 0) (xs ys : List A) → AllByRecursion P (xs ++ ys) → AllByRecursion P xs
all_front P [] ys a = tt
all_front P (x ∷ xs) ys a = (a.0, all_front P xs ys a.1)

all_without : {A : Type 0} → (P : A → Type 0) (xs : List A) (y : A) (ys : List A) → AllByRecursion P (xs ++ y ∷ ys) → AllByRecursion P (xs ++ ys)
all_without P [] y ys a = a.1
all_without P (x ∷ xs) y ys a = (a.0, all_without P xs y ys a.1)

all_with : {A : Type 0} → (P : A → Type 0) (xs : List A) (y : A) (ys : List A) → AllByRecursion P (xs ++ ys) → P y → AllByRecursion P (xs ++ y ∷ ys)
all_with P [] y ys a p = (p, a)
all_with P (x ∷ xs) y ys a p = (a.0, all_with P xs y ys a.1 p)

-- an ESI that is determined says nothing new
zero_more : (c : RaptorCode) (es others : List ℕ) (esi : ℕ) (values : List Bool) → Determines c es esi → AreZeroAt c (es ++ others) values → AreZeroAt c (es ++ esi ∷ others) values
zero_more c es others esi values d z =
    let P : ℕ → Type 0 = λ e. value_over (lt_row c e) values ≡ false in record {
      meets = z.meets;
      each = all_with P es esi others z.each (d values (record { meets = z.meets; each = all_front P es others z.each }));
    }

zero_fewer : (c : RaptorCode) (es others : List ℕ) (esi : ℕ) (values : List Bool) → AreZeroAt c (es ++ esi ∷ others) values → AreZeroAt c (es ++ others) values
zero_fewer c es others esi values z = record {
  meets = z.meets;
  each = all_without (λ e. value_over (lt_row c e) values ≡ false) es esi others z.each;
}

raptor_repeat : (c : RaptorCode) (es others : List ℕ) (esi : ℕ) → Determines c es esi
    → is_block_determined (Raptor c) (es ++ others) ≡ is_block_determined (Raptor c) (es ++ esi ∷ others)
raptor_repeat c es others esi d =
    let fewer = block_tested c (es ++ others) in
    let more = block_tested c (es ++ esi ∷ others) in
    same_tests (is_block_determined (Raptor c) (es ++ others)) (is_block_determined (Raptor c) (es ++ esi ∷ others))
    (λ e. more.1 (λ values z. fewer.0 e values (zero_fewer c es others esi values z)))
    (λ e. fewer.1 (λ values z. more.0 e values (zero_more c es others esi values d z)))

-- ---- of both

repeat : (w : Way) (es others : List ℕ) (esi : ℕ) → is_determined w es esi ≡ true → is_block_determined w (es ++ others) ≡ is_block_determined w (es ++ esi ∷ others)
unfolding is_determined
repeat (NoCode k) es others esi old = same_has k (es ++ others) (es ++ esi ∷ others) (λ i. has_repeat es others esi i old)
repeat (Raptor c) es others esi old = raptor_repeat c es others esi ((determined_tested c es esi).0 old)

kept_first : (w : Way) (pair : Pair) (kept : List Pair) (others : List ℕ)
    → is_block_determined w (esis (kept_with w pair kept) ++ others) ≡ is_block_determined w (esis kept ++ pair.esi ∷ others)
kept_first (NoCode k) pair kept others = same_has k (esis (with_pair pair kept) ++ others) (esis kept ++ pair.esi ∷ others) (has_kept pair kept others)
kept_first (Raptor c) pair kept others =
    ap (λ (es : List ℕ). is_block_determined (Raptor c) (es ++ others)) (esis_more kept pair)
    ∙ ap (is_block_determined (Raptor c)) (append_assoc (esis kept) (pair.esi ∷ []) others)

heard_first_by : (in_range determined : Bool) (w : Way) (pair : Pair) (kept : List Pair) (others : List ℕ)
    → (determined ≡ true → is_block_determined w (esis kept ++ others) ≡ is_block_determined w (esis kept ++ pair.esi ∷ others))
    → is_block_determined w (esis (kept_with w pair kept) ++ others) ≡ is_block_determined w (esis kept ++ pair.esi ∷ others)
    → is_block_determined w (esis (keep_if (cond (not in_range) OutOfRange (cond determined Determined Kept)) w kept pair) ++ others)
    ≡ is_block_determined w (esis kept ++ cond in_range (pair.esi ∷ others) others)
heard_first_by true true w pair kept others old new = old refl
heard_first_by true false w pair kept others old new = new
heard_first_by false determined w pair kept others old new = refl

heard_first : (w : Way) (pair : Pair) (kept : List Pair) (others : List ℕ)
    → is_block_determined w (esis (hear w kept pair) ++ others) ≡ is_block_determined w (esis kept ++ cond (is_in_range w pair.esi) (pair.esi ∷ others) others)
heard_first w pair kept others =
    heard_first_by (is_in_range w pair.esi) (is_determined w (esis kept) pair.esi) w pair kept others
    (λ old. repeat w (esis kept) others pair.esi old) (kept_first w pair kept others)

heard_all : (w : Way) (kept heard : List Pair)
    → is_block_determined w (esis (fold (hear w) kept heard)) ≡ is_block_determined w (esis kept ++ filter (is_in_range w) (esis heard))
heard_all w kept [] = ap (is_block_determined w) (sym (append-nil (esis kept)))
heard_all w kept (pair ∷ heard) = heard_all w (hear w kept pair) heard ∙ heard_first w pair kept (filter (is_in_range w) (esis heard))

pub complete_heard : CompleteByHeard
complete_heard w heard = heard_all w [] heard
