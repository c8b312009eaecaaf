-- Which symbols of a file are heard decides, and not in which order or how often.
use Rattle.std.proofs.Common.{◌≡◌, ℕ, suc, ◌+◌, ◌<◌, ◌≤◌, ◌==◌, ◌&&◌, ◌||◌, not, Bool, true, List, [], ◌∷◌, length, get_or, set, map, filter, fold, inl, inr, refl, sym, ◌∙◌, ap, ap₂, subst, subst₂, arith, eqb-true}
use Rattle.std.specs.List.{list_all, list_any, range_with_len}
use Rattle.std.proofs.lemmas.Bool.{and_parts, cases_Bool, cases_lt, cond_both, eqb-false}
use Rattle.std.proofs.lemmas.List.{length-map, length-set, get_or-set_same, get_or-set_other, get_or_past}
use Rattle.std.proofs.lemmas.Simd.{map-map}
use Rattle.mb_geom.specs.Description.{Description}
use Rattle.mb_geom.proofs.LayoutLemmas.{layout-of}
use Rattle.mb_rows.specs.Walk.{lt_row}
use Rattle.mb_rows.specs.Constraints.{constraint_row}
use Rattle.mb_tables.specs.Tables.{RaptorTables}
use Rattle.mb_encoder.specs.Solutions.{Pair, esis}
use Rattle.mb_way.specs.Way.{Way, Way.NoCode, Way.Raptor, is_in_range}
use Rattle.mb_way.specs.Ways.{ways_of}
use Rattle.mb_way.specs.Determined.{is_zero, are_zero_at, all_values, is_determined, is_block_determined}
use Rattle.mb_way.specs.Heard.{hear, hear_pairs, is_complete}
use Rattle.mb_way.proofs.Lists.{all_same}
use Rattle.mb_way.proofs.Counting.{same_tests}
use Rattle.mb_way.proofs.Hearing.{complete_heard}
use Rattle.mb_file.specs.File.{way_at, kept_at, nothing_kept, hear_in, are_complete}
use Rattle.mb_life.specs.Life.{Life, start_life, is_wrongly_empty, is_ready, bytes_of}
use Rattle.mb_machine.specs.Laws.{HeardSymbol, after_symbols, esis_heard, is_block_complete, CompleteByHeard, has_symbol, HaveTheSame, AreOfFile, AreOfOneFile, TwoOrdersOneFile}
use Rattle.mb_machine.proofs.KeptLemmas.{AreSentKept, nothing_in, nothing-sent, more-sent, file-sent}

-- ---- what a life keeps

abbrev kept_after : List Way → List HeardSymbol → List (List Pair) → List (List Pair)
kept_after ways heard kept = fold (λ (k : List (List Pair)) (s : HeardSymbol). hear_in ways s.sbn (s.pair ∷ []) k) kept heard

-- nothing else of a life changes
after-is : (heard : List HeardSymbol) (life : Life) → after_symbols heard life ≡ record life { kept = kept_after life.ways heard life.kept }
after-is [] life = refl
after-is (s ∷ heard) life = after-is heard (record life { kept = hear_in life.ways s.sbn (s.pair ∷ []) life.kept })

length-kept_after : (ways : List Way) (heard : List HeardSymbol) (kept : List (List Pair)) → length (kept_after ways heard kept) ≡ length kept
length-kept_after ways [] kept = refl
length-kept_after ways (s ∷ heard) kept =
    length-kept_after ways heard (hear_in ways s.sbn (s.pair ∷ []) kept) ∙ length-set kept s.sbn (hear (way_at ways s.sbn) (kept_at kept s.sbn) s.pair)

abbrev of_block : ℕ → List HeardSymbol → List HeardSymbol
of_block sbn heard = filter (λ (s : HeardSymbol). s.sbn == sbn) heard

abbrev pairs_heard : ℕ → List HeardSymbol → List Pair
pairs_heard sbn heard = map (λ (s : HeardSymbol). s.pair) (of_block sbn heard)

-- a block keeps what is heard of it
kept_after-at : (ways : List Way) (sbn : ℕ) (heard : List HeardSymbol) (kept : List (List Pair)) → sbn < length kept
    → kept_at (kept_after ways heard kept) sbn ≡ hear_pairs (way_at ways sbn) (kept_at kept sbn) (pairs_heard sbn heard)
kept_after-at ways sbn [] kept inside = refl
kept_after-at ways sbn (s ∷ heard) kept inside =
    let w : Way = way_at ways sbn in
    let new : List Pair = hear (way_at ways s.sbn) (kept_at kept s.sbn) s.pair in
    let more : sbn < length (set kept s.sbn new) = omega (arith, length-set kept s.sbn new, inside) in
    let others : kept_at (kept_after ways heard (set kept s.sbn new)) sbn ≡ hear_pairs w (kept_at (set kept s.sbn new) sbn) (pairs_heard sbn heard)
    = kept_after-at ways sbn heard (set kept s.sbn new) more in
    cond_both (s.sbn == sbn) (s ∷ of_block sbn heard) (of_block sbn heard)
    (λ (ss : List HeardSymbol). kept_at (kept_after ways heard (set kept s.sbn new)) sbn ≡ hear_pairs w (kept_at kept sbn) (map (λ (x : HeardSymbol). x.pair) ss))
    (λ is.
    let same : s.sbn ≡ sbn = eqb-true s.sbn sbn is in
    let own : kept_at (set kept s.sbn new) sbn ≡ hear w (kept_at kept sbn) s.pair
    = ap (λ (n : ℕ). get_or (set kept n (hear (way_at ways n) (kept_at kept n) s.pair)) sbn []) same
    ∙ get_or-set_same kept sbn (hear w (kept_at kept sbn) s.pair) [] inside in
    others ∙ ap (λ (k : List Pair). hear_pairs w k (pairs_heard sbn heard)) own)
    (λ is.
    let other : (sbn ≡ s.sbn → ⊥) = λ e. eqb-false s.sbn sbn is (sym e) in
    others ∙ ap (λ (k : List Pair). hear_pairs w k (pairs_heard sbn heard)) (get_or-set_other kept s.sbn sbn new [] other))

-- ---- a block is complete where what was heard of it determines it

esis-are : (sbn : ℕ) (heard : List HeardSymbol) → esis (pairs_heard sbn heard) ≡ esis_heard sbn heard
esis-are sbn heard = map-map (λ (p : Pair). p.esi) (λ (s : HeardSymbol). s.pair) (of_block sbn heard)

complete-at : (ways : List Way) (heard : List HeardSymbol) (sbn : ℕ) → sbn < length ways
    → is_complete (way_at ways sbn) (kept_at (kept_after ways heard (nothing_kept ways)) sbn)
    ≡ is_block_determined (way_at ways sbn) (filter (is_in_range (way_at ways sbn)) (esis_heard sbn heard))
complete-at ways heard sbn within =
    let w : Way = way_at ways sbn in
    let long : length (nothing_kept ways) ≡ length ways = length-map ways (λ w. []) in
    ap (is_complete w) (kept_after-at ways sbn heard (nothing_kept ways) (omega (arith, long, within)))
    ∙ ap (λ (k : List Pair). is_complete w (hear_pairs w k (pairs_heard sbn heard))) (sym (nothing_in ways sbn))
    ∙ complete_heard w (pairs_heard sbn heard)
    ∙ ap (λ (es : List ℕ). is_block_determined w (filter (is_in_range w) es)) (esis-are sbn heard)

pub complete_by : CompleteByHeard
complete_by expires toi d ways heard sbn within =
    ap (is_block_complete sbn) (after-is heard (start_life expires toi d ways)) ∙ complete-at ways heard sbn within

-- ---- sets of ESIs

abbrev has : ℕ → List ℕ → Bool
has esi es = list_any (λ e. e == esi) es

-- a test of all ESIs depends on which they are
passes : (p : ℕ → Bool) (es : List ℕ) (e : ℕ) → list_all p es ≡ true → has e es ≡ true → p e ≡ true
passes p [] e all is = absurd cc
passes p (x ∷ es) e all is =
    let parts = and_parts (p x) (list_all p es) all in
    elim (cases_Bool (x == e)) [
      | inl same ↦ subst (λ (n : ℕ). p n ≡ true) (eqb-true x e same) parts.0
      | inr other ↦ passes p es e parts.1 (rw other at is)
    ]

first_has : (e : ℕ) (es : List ℕ) → has e (e ∷ es) ≡ true
first_has e es = grind arith

later_has : (e x : ℕ) (es : List ℕ) → has e es ≡ true → has e (x ∷ es) ≡ true
later_has e x es is = rw is (grind arith)

all_pass : (p : ℕ → Bool) (es : List ℕ) → ((e : ℕ) → has e es ≡ true → p e ≡ true) → list_all p es ≡ true
all_pass p [] each = refl
all_pass p (x ∷ es) each =
    rw (each x (first_has x es), all_pass p es (λ e is. each e (later_has e x es is))) refl

same_all : (p : ℕ → Bool) (es fs : List ℕ) → ((e : ℕ) → has e es ≡ has e fs) → list_all p es ≡ list_all p fs
same_all p es fs same =
    same_tests (list_all p es) (list_all p fs)
    (λ all. all_pass p fs (λ e is. passes p es e all (same e ∙ is)))
    (λ all. all_pass p es (λ e is. passes p fs e all (sym (same e) ∙ is)))

same_determined : (w : Way) (es fs : List ℕ) → ((e : ℕ) → has e es ≡ has e fs) → is_block_determined w es ≡ is_block_determined w fs
unfolding is_block_determined is_determined
same_determined (NoCode k) es fs same = all_same (λ e. has e es) (λ e. has e fs) (range_with_len 0 k) same
same_determined (Raptor c) es fs same =
    all_same (λ values. not (are_zero_at c es values) || list_all not values) (λ values. not (are_zero_at c fs values) || list_all not values) (all_values c)
    (λ values. ap (λ (b : Bool). not (list_all (λ i. is_zero (constraint_row c i) values) (range_with_len 0 (c.row.s + c.h)) && b) || list_all not values)
    (same_all (λ e. is_zero (lt_row c e) values) es fs same))

-- ---- which of them were heard

has_in_range : (p : ℕ → Bool) (e : ℕ) (es : List ℕ) → has e (filter p es) ≡ (has e es && p e)
has_in_range p e [] = refl
has_in_range p e (x ∷ es) =
    let others = has_in_range p e es in
    elim (cases_Bool (x == e)) [
      | inl same ↦
          (let is : x ≡ e = eqb-true x e same in
          let both : p x ≡ p e = ap p is in
          elim (cases_Bool (p x)) [
            | inl inside ↦ rw (inside, same, sym both ∙ inside) refl
            | inr out ↦ rw (out, same, sym both ∙ out) (others ∙ rw (sym both ∙ out) (grind arith))
          ])
      | inr other ↦
          elim (cases_Bool (p x)) [
            | inl inside ↦ rw (inside, other) others
            | inr out ↦ rw (out, other) others
          ]
    ]

has_heard : (sbn e : ℕ) (heard : List HeardSymbol) → has e (esis_heard sbn heard) ≡ has_symbol sbn e heard
has_heard sbn e [] = refl
has_heard sbn e (s ∷ heard) =
    let others = has_heard sbn e heard in
    elim (cases_Bool (s.sbn == sbn)) [
      | inl own ↦ rw own (ap (λ (b : Bool). (s.pair.esi == e) || b) others)
      | inr other ↦ rw other others
    ]

same_heard : (w : Way) (sbn : ℕ) (one other : List HeardSymbol) → HaveTheSame one other
    → is_block_determined w (filter (is_in_range w) (esis_heard sbn one)) ≡ is_block_determined w (filter (is_in_range w) (esis_heard sbn other))
same_heard w sbn one other same =
    let each : (heard : List HeardSymbol) (e : ℕ) → has e (filter (is_in_range w) (esis_heard sbn heard)) ≡ (has_symbol sbn e heard && is_in_range w e)
    = λ heard e. has_in_range (is_in_range w) e (esis_heard sbn heard) ∙ ap (λ (b : Bool). b && is_in_range w e) (has_heard sbn e heard) in
    same_determined w (filter (is_in_range w) (esis_heard sbn one)) (filter (is_in_range w) (esis_heard sbn other))
    (λ e. each one e ∙ ap (λ (b : Bool). b && is_in_range w e) (same sbn e) ∙ sym (each other e))

-- ---- two orders

-- the same blocks are complete; a block that the file doesn't have keeps nothing
same_complete : (ways : List Way) (one other : List HeardSymbol) (sbn : ℕ) → HaveTheSame one other
    → is_complete (way_at ways sbn) (kept_at (kept_after ways one (nothing_kept ways)) sbn)
    ≡ is_complete (way_at ways sbn) (kept_at (kept_after ways other (nothing_kept ways)) sbn)
same_complete ways one other sbn same =
    let long : length (nothing_kept ways) ≡ length ways = length-map ways (λ w. []) in
    let nothing : (heard : List HeardSymbol) → length ways ≤ sbn → kept_at (kept_after ways heard (nothing_kept ways)) sbn ≡ []
    = λ heard past. get_or_past (kept_after ways heard (nothing_kept ways)) sbn []
    (omega (arith, length-kept_after ways heard (nothing_kept ways), long, past)) in
    elim (cases_lt sbn (length ways)) [
      | inl within ↦ complete-at ways one sbn within ∙ same_heard (way_at ways sbn) sbn one other same ∙ sym (complete-at ways other sbn within)
      | inr past ↦ ap (is_complete (way_at ways sbn)) (nothing one past ∙ sym (nothing other past))
    ]

all_complete : (ways : List Way) (ks ls : List (List Pair)) → length ks ≡ length ways → length ls ≡ length ways
    → ((i : ℕ) → is_complete (way_at ways i) (kept_at ks i) ≡ is_complete (way_at ways i) (kept_at ls i)) → are_complete ways ks ≡ are_complete ways ls
unfolding are_complete
all_complete [] ks ls one other same = refl
all_complete (w ∷ ways) [] ls one other same = absurd (omega arith)
all_complete (w ∷ ways) (k ∷ ks) [] one other same = absurd (omega arith)
all_complete (w ∷ ways) (k ∷ ks) (l ∷ ls) one other same =
    ap₂ (λ (a b : Bool). a && b) (same 0) (all_complete ways ks ls (omega arith) (omega arith) (λ i. same (suc i)))

-- what is known of a life of a file of which only its symbols were heard
after-sent : (tables : RaptorTables) (d : Description) (bytes : List ℕ) (heard : List HeardSymbol) (kept : List (List Pair))
    → AreOfFile tables (record { desc = d; bytes = bytes }) heard → AreSentKept tables d bytes kept → AreSentKept tables d bytes (kept_after (ways_of tables d) heard kept)
after-sent tables d bytes [] kept all are = are
after-sent tables d bytes (s ∷ heard) kept all are =
    after-sent tables d bytes heard (hear_in (ways_of tables d) s.sbn (s.pair ∷ []) kept) all.1 (more-sent tables d bytes s.sbn (s.pair ∷ []) kept (all.0, tt) are)

pub two_orders : TwoOrdersOneFile
two_orders tables file expires toi one other are good long bytes has one_is other_is same =
    let d : Description = file.desc in
    let ways : List Way = ways_of tables d in
    let life : Life = start_life expires toi d ways in
    let kept : List HeardSymbol → List (List Pair) = λ heard. kept_after ways heard (nothing_kept ways) in
    let count : (heard : List HeardSymbol) → length (kept heard) ≡ length ways
    = λ heard. length-kept_after ways heard (nothing_kept ways) ∙ length-map ways (λ w. []) in
    let complete : (sbn : ℕ) → is_complete (way_at ways sbn) (kept_at (kept one) sbn) ≡ is_complete (way_at ways sbn) (kept_at (kept other) sbn)
    = λ sbn. same_complete ways one other sbn same in
    let sent : (heard : List HeardSymbol) → AreOfFile tables file heard → is_ready (record life { kept = kept heard }) ≡ true → bytes_of (record life { kept = kept heard }) ≡ file.bytes
    = λ heard is ready. file-sent tables d file.bytes (kept heard) (layout-of d good) long bytes
    (after-sent tables d file.bytes heard (nothing_kept ways) is (nothing-sent tables d file.bytes)) (and_parts _ _ ready).1 in
    subst₂ (AreOfOneFile file) (sym (after-is one life)) (sym (after-is other life))
    (record {
      complete = complete;
      ready = ap (λ (b : Bool). not (is_wrongly_empty d) && b) (all_complete ways (kept one) (kept other) (count one) (count other) complete);
      first = sent one one_is;
      second = sent other other_is;
    })
