-- Lemmas on bytes that a source gives one part behind another.
use Rattle.std.proofs.Common.{◌≡◌, ◌≢◌, ℕ, ◌+◌, ◌-◌, ◌<◌, ◌≤◌, List, [], ◌∷◌, ◌++◌, length, take, drop, Option, Some, None, refl, sym, ap, subst, ◌∙◌, arith, append_assoc, append-nil, length-append}
use Rattle.std.proofs.lemmas.List.{take_at, drop_at, length-take-le, length-drop, take-append-le, take-take, drop_all}
use Rattle.std.proofs.lemmas.List.Elements.{All-take}
use borrow.Rule.Slice.PartMut.{put_mid, post_of}
use lib.Seq.{take-add}
use lib.Pointwise.{pointwise}
use lib.Dec.{eqb}
use Rattle.std.proofs.lemmas.Bool.Decides.{nat_tests}
use Rattle.std.proofs.Common.{true, not}
use Rattle.mb_tables.specs.Parts.{IsShort}
use Rattle.mb_tables.specs.declared.fault.TablesFault.{TablesFault}
use Rattle.mb_tables.specs.declared.fault.TablesFault.TheVariants.{Magic, Truncated, Order, Range, Trailing, SourceFault, Memory}
use Rattle.mb_base.specs.Outside.{Loses, EndsAt, AreBytes, AreToldBytes}
use Rattle.mb_base.specs.Number.{be_number, be_bytes}
use Rattle.mb_base.proofs.NumberLemmas.{bytes_written_back}
use Rattle.mb_tables.specs.Refused.{Tells}

-- ---- filling a buffer

-- what was filled, and then n bytes that were read behind it
pub filled : (xs ys : List ℕ) (at k n : ℕ) → at ≤ length xs → n ≤ length ys
    → take (at + n) (put_mid at k xs ys) ≡ take at xs ++ take n ys
filled xs ys at k n within fits =
    let front = take at xs in
    let len : length front ≡ at = length-take-le at xs within in
    let after = ys ++ post_of at k xs in
    take-add at n (front ++ after)
    ∙ (rw (take_at front after _ len, drop_at front after _ len, take-append-le n ys (post_of at k xs) fits) refl)

pub length-put_mid : (xs ys : List ℕ) (end : ℕ) → end ≤ length xs → length ys ≡ length xs - end
    → length (put_mid end (length xs - end) xs ys) ≡ length xs
length-put_mid xs ys end within len =
    let k = length xs - end in
    let none : drop k (drop end xs) ≡ [] = drop_all k (drop end xs) (omega (arith, length-drop end xs)) in
    length-append (take end xs) (ys ++ post_of end k xs) ∙ ap (λ n. length (take end xs) + n) (length-append ys (post_of end k xs))
    ∙ (let rest = ap length none in omega (arith, rest, length-take-le end xs within))

-- ---- one part behind another

pub Loses-nil : (a : Option (List ℕ)) → Loses a a []
Loses-nil None = tt
Loses-nil (Some bytes) = refl

pub Loses-trans : (a b c : Option (List ℕ)) (xs ys : List ℕ) → Loses a b xs → Loses b c ys → Loses a c (xs ++ ys)
Loses-trans None b c xs ys p q = tt
Loses-trans (Some x) None c xs ys p q = absurd p
Loses-trans (Some x) (Some y) None xs ys p q = absurd q
Loses-trans (Some x) (Some y) (Some z) xs ys p q = p ∙ ap (λ l. xs ++ l) q ∙ sym (append_assoc xs ys z)

-- bytes that were told are bytes
pub Loses-bytes : (a b : Option (List ℕ)) (xs : List ℕ) (P : List ℕ → Type 0) → AreToldBytes a → (AreBytes xs → P xs)
    → Loses a b xs → Tells a (λ bytes. P xs)
Loses-bytes None b xs P all then p = tt
Loses-bytes (Some x) None xs P all then p = absurd p
Loses-bytes (Some x) (Some y) xs P all then p =
    then (subst AreBytes (ap (take (length xs)) p ∙ take_at xs y _ refl) (All-take (λ byte. byte < 256) (length xs) x all))

-- the bytes are those of another list, where they are bytes
pub Loses-as : (a b : Option (List ℕ)) (xs ys : List ℕ) → AreToldBytes a → (AreBytes xs → ys ≡ xs) → Loses a b xs → Loses a b ys
Loses-as None b xs ys all same p = tt
Loses-as (Some x) None xs ys all same p = absurd p
Loses-as (Some x) (Some y) xs ys all same p =
    let are = subst AreBytes (ap (take (length xs)) p ∙ take_at xs y _ refl) (All-take (λ byte. byte < 256) (length xs) x all) in
    p ∙ ap (λ l. l ++ y) (sym (same are))

-- the bytes are a number's
pub Loses-number : (a b : Option (List ℕ)) (xs : List ℕ) (width : ℕ) → AreToldBytes a → length xs ≡ width
    → Loses a b xs → Loses a b (be_bytes width (be_number xs))
Loses-number a b xs width all len p =
    Loses-as a b xs _ all (λ (are : AreBytes xs). subst (λ w. be_bytes w (be_number xs) ≡ xs) len (bytes_written_back xs are)) p

-- what follows from the bytes in front, whatever is behind them
pub Tells-front : (a b : Option (List ℕ)) (xs : List ℕ) (P : List ℕ → Type 0) → Loses a b xs
    → ((rest : List ℕ) → P (xs ++ rest)) → Tells a P
Tells-front None b xs P p then = tt
Tells-front (Some x) None xs P p then = absurd p
Tells-front (Some x) (Some y) xs P p then = subst P (sym p) (then y)

-- the same where they are known to be bytes
pub Tells-bytes : (a b : Option (List ℕ)) (xs : List ℕ) (P : List ℕ → Type 0) → AreToldBytes a → Loses a b xs
    → (AreBytes xs → (rest : List ℕ) → P (xs ++ rest)) → Tells a P
Tells-bytes None b xs P all p then = tt
Tells-bytes (Some x) None xs P all p then = absurd p
Tells-bytes (Some x) (Some y) xs P all p then =
    let are = subst AreBytes (ap (take (length xs)) p ∙ take_at xs y _ refl) (All-take (λ byte. byte < 256) (length xs) x all) in
    subst P (sym p) (then are y)

-- what follows where they are all
pub Tells-end : (a b : Option (List ℕ)) (xs : List ℕ) (P : List ℕ → Type 0) → Loses a b xs → EndsAt b → P xs → Tells a P
Tells-end None b xs P p end then = tt
Tells-end (Some x) None xs P p end then = absurd p
Tells-end (Some x) (Some y) xs P p end then = subst P (sym (p ∙ ap (λ l. xs ++ l) end ∙ append-nil xs)) then

-- what follows from what is told behind them
pub Tells-behind : (a b : Option (List ℕ)) (xs : List ℕ) (P Q : List ℕ → Type 0) → Loses a b xs
    → ((rest : List ℕ) → Q rest → P (xs ++ rest)) → Tells b Q → Tells a P
Tells-behind None b xs P Q p then q = tt
Tells-behind (Some x) None xs P Q p then q = absurd p
Tells-behind (Some x) (Some y) xs P Q p then q = subst P (sym p) (then y q)

-- ---- the magic

-- some of the first bytes differ
pub magic-differs : (word front rest : List ℕ) (n : ℕ) → length word ≡ 8 → length front ≡ n → n ≤ 8 → front ≢ take n word
    → take 8 (front ++ rest) ≡ take (length (front ++ rest)) word → ⊥
magic-differs word front rest n eight len fits differs same =
    let reach : n ≤ length (front ++ rest) = omega (arith, length-append front rest) in
    differs (sym (take_at front rest n len) ∙ sym (take-take n 8 (front ++ rest) fits) ∙ ap (take n) same
    ∙ take-take n (length (front ++ rest)) word reach)

eqb-self : (xs : List ℕ) → pointwise eqb xs xs ≡ true
eqb-self [] = refl
eqb-self (x ∷ xs) = grind (arith, nat_tests, eqb-self xs)

pub not-same : (xs ys : List ℕ) → true ≡ not (pointwise eqb xs ys) → xs ≢ ys
not-same xs ys differ = λ same.
    let none : true ≡ not (pointwise eqb xs xs) = subst (λ l. true ≡ not (pointwise eqb xs l)) (sym same) differ in
    let no = ap not (eqb-self xs) in
    cc (none, no)

-- ---- a part that is cut

pub short-behind : (at n wanted total : ℕ) (fault : TablesFault) (xs rest : List ℕ) → length xs ≡ n → n + wanted ≤ total
    → IsShort (at + n) wanted fault rest → IsShort at total fault (xs ++ rest)
short-behind at n wanted total Magic xs rest len fits short = absurd short
short-behind at n wanted total (Truncated place) xs rest len fits short =
    (omega (arith, short.0, length-append xs rest), omega (arith, short.1, length-append xs rest))
short-behind at n wanted total (Order number) xs rest len fits short = absurd short
short-behind at n wanted total (Range number field) xs rest len fits short = absurd short
short-behind at n wanted total Trailing xs rest len fits short = absurd short
short-behind at n wanted total SourceFault xs rest len fits short = tt
short-behind at n wanted total Memory xs rest len fits short = tt
