-- A text that is put together from the symbols of one is that one.
use Rattle.std.proofs.Common.{◌≡◌, ℕ, zero, suc, ◌+◌, ◌-◌, ◌*◌, ◌≤◌, Bool, true, false, cond, List, [], ◌∷◌, ◌++◌, length, get_or, set, take, drop, replicate, Option, Some, None, is_some, refl, sym, ◌∙◌, ap, arith, length-drop}
use Rattle.std.specs.List.{AllByRecursion}
use Rattle.std.proofs.Math.ListN.{length-set}
use Rattle.std.proofs.lemmas.List.{take-append-drop, drop-drop, length-replicate}
use Rattle.mb_geom.specs.Description.{Description, symbols}
use Rattle.mb_window.specs.Symbols.{Symbol, place_of, cut, keep, hear_symbols, is_whole, joined}
use Rattle.mb_window.specs.Assembled.{nothing_of}
use Rattle.mb_window.specs.Laws.{IsSymbolOf, WholeIsSent}

-- what is kept are symbols of t bytes of the text
AreOf : ℕ → List ℕ → List (Option (List ℕ)) → Type 0
AreOf t text [] = Unit {0}
AreOf t text (None ∷ kept) = AreOf t (drop t text) kept
AreOf t text (Some bytes ∷ kept) = (bytes ≡ take t text) × AreOf t (drop t text) kept

none-of : (n t : ℕ) (text : List ℕ) → AreOf t text (replicate n None)
unfolding AreOf
none-of zero t text = tt
none-of (suc n) t text = none-of n t (drop t text)

next_place : (n t : ℕ) (text : List ℕ) → drop (suc n * t) text ≡ drop (n * t) (drop t text)
next_place n t text = let after : suc n * t ≡ t + n * t = omega arith in ap (λ k. drop k text) after ∙ sym (drop-drop (n * t) t text)

first_place : (t : ℕ) (text : List ℕ) → take t (drop (zero * t) text) ≡ take t text
first_place t text = let none : zero * t ≡ 0 = omega arith in rw none refl

set-of : (kept : List (Option (List ℕ))) (n t : ℕ) (text bytes : List ℕ) → AreOf t text kept → bytes ≡ take t (drop (n * t) text)
    → AreOf t text (set kept n (Some bytes))
unfolding AreOf
set-of [] n t text bytes of is = tt
set-of (None ∷ kept) zero t text bytes of is = (is ∙ first_place t text, of)
set-of (Some old ∷ kept) zero t text bytes of is = (is ∙ first_place t text, of.1)
set-of (None ∷ kept) (suc n) t text bytes of is = set-of kept n t (drop t text) bytes of (is ∙ ap (take t) (next_place n t text))
set-of (Some old ∷ kept) (suc n) t text bytes of is = (of.0, set-of kept n t (drop t text) bytes of.1 (is ∙ ap (take t) (next_place n t text)))

if-of : (b : Bool) (t : ℕ) (text : List ℕ) (kept new : List (Option (List ℕ))) → AreOf t text kept → AreOf t text new → AreOf t text (cond b kept new)
if-of true t text kept new old is = old
if-of false t text kept new old is = is

hear-of : (d : Description) (text : List ℕ) (heard : List Symbol) (kept : List (Option (List ℕ))) → AreOf d.symbol text kept
    → AllByRecursion (IsSymbolOf d text) heard → AreOf d.symbol text (hear_symbols d heard kept)
hear-of d text [] kept of all = of
hear-of d text (s ∷ heard) kept of all =
    let place = place_of d s.sbn s.esi in
    hear-of d text heard (keep d kept s)
    (if-of (is_some (get_or kept place None)) d.symbol text kept (set kept place (Some (cut d place s.bytes))) of
    (set-of kept place d.symbol text (cut d place s.bytes) of all.0)) all.1

if-length : (b : Bool) (kept new : List (Option (List ℕ))) → length new ≡ length kept → length (cond b kept new) ≡ length kept
if-length true kept new same = refl
if-length false kept new same = same

hear-length : (d : Description) (heard : List Symbol) (kept : List (Option (List ℕ))) → length (hear_symbols d heard kept) ≡ length kept
hear-length d [] kept = refl
hear-length d (s ∷ heard) kept =
    let place = place_of d s.sbn s.esi in
    hear-length d heard (keep d kept s)
    ∙ if-length (is_some (get_or kept place None)) kept (set kept place (Some (cut d place s.bytes))) (length-set kept place (Some (cut d place s.bytes)))

nothing_left : (text : List ℕ) → length text ≤ 0 → [] ≡ text
nothing_left [] none = refl
nothing_left (x ∷ text) none = absurd (omega arith)

joined-of : (kept : List (Option (List ℕ))) (t : ℕ) (text : List ℕ) → AreOf t text kept → is_whole kept ≡ true → length text ≤ length kept * t
    → joined kept ≡ text
unfolding AreOf
joined-of [] t text of whole within = nothing_left text (omega arith)
joined-of (None ∷ kept) t text of whole within = cc
joined-of (Some bytes ∷ kept) t text of whole within =
    let left : length (drop t text) ≡ length text - t = length-drop t text in
    ap (λ xs. xs ++ joined kept) of.0
    ∙ ap (λ xs. take t text ++ xs) (joined-of kept t (drop t text) of.1 whole (omega (arith, left))) ∙ take-append-drop t text

pub is_sent : WholeIsSent
is_sent d text heard within all whole =
    let count : length (hear_symbols d heard (nothing_of d).kept) ≡ symbols d =
    hear-length d heard (nothing_of d).kept ∙ length-replicate {A = Option (List ℕ)} (symbols d) None in
    joined-of (hear_symbols d heard (nothing_of d).kept) d.symbol text
    (hear-of d text heard (nothing_of d).kept (none-of (symbols d) d.symbol text) all) whole (rw count within)
