-- A symbol is determined exactly where its folded row is a sum of those that are kept, and what is kept where it is not.
use Rattle.std.proofs.Common.{◌≡◌, ◌↔◌, ℕ, zero, suc, ◌+◌, ◌-◌, ◌*◌, ◌<◌, ◌≤◌, ◌==◌, Bool, true, false, List, [], ◌∷◌, ◌++◌, length, map, take, drop, replicate, slice_index, slice_set, refl, ap, ap₂, sym, subst, ◌∙◌, arith, length-append}
use Rattle.std.proofs.lemmas.Bool.{eq-eqb}
use Rattle.std.proofs.lemmas.List.{map-append, length-replicate, length-take-le, length-drop, length-map, get_or-take, get_or-set_same, get_or-set_other}
use Rattle.std.proofs.lemmas.Grind.{same_number_lists, common_steps}
use Rattle.mb_linear.specs.Row.{AreRows}
use Rattle.mb_linear.specs.Span.{IsSumOf, AreIndependent}
use Rattle.mb_linear.proofs.SpanLemmas.{sums_determined}
use Rattle.mb_linear.proofs.Deciding.{determined_sums}
use Rattle.mb_linear.proofs.Independence.{full_determines, independent_few}
use Rattle.mb_linear.proofs.Spanning.{spanned_zeros, zeros_span, spanning_many}
use Rattle.mb_elim.specs.Offered.{Offered}
use Rattle.mb_elim.specs.Kept.{firsts}
use Rattle.mb_elim.specs.Values.{byte_at}
use Rattle.mb_elim.proofs.Snoc.{length_firsts, firsts_same, nth_firsts}
use Rattle.mb_elim.proofs.RowsInWords.{row_within}
use Rattle.mb_rows.specs.Code.{RaptorCode}
use Rattle.mb_rows.specs.Folding.{folded_row}
use Rattle.mb_rows.specs.Determined.{Determines, DetermineBlock}
use Rattle.mb_rows.proofs.DeterminedLemmas.{rows_determine_one, rows_determine_block}
use Rattle.mb_encoder.specs.Symbols.{symbol_of}
use Rattle.mb_encoder.specs.Solutions.{Pair, esis}
use Rattle.mb_encoder.proofs.Offering.{length_folded}
use Rattle.mb_encoder.proofs.Summing.{at_front, at_own}
use Rattle.mb_decoder.specs.Block.{Block, IsOf, filled}
use Rattle.mb_decoder.specs.Kept.{pair_in, pairs_in, block_in}

pub folded_rows : (c : RaptorCode) (es : List ℕ) → AreRows c.row.k (map (folded_row c) es)
folded_rows c [] = tt
folded_rows c (e ∷ es) = (length_folded c e, folded_rows c es)

-- ---- one symbol

sum_by : (c : RaptorCode) (k esi : ℕ) (rows : List (List Bool)) (es : List ℕ) (row : List Bool) → k ≡ c.row.k → rows ≡ map (folded_row c) es → row ≡ folded_row c esi
    → IsSumOf k rows row → IsSumOf c.row.k (map (folded_row c) es) (folded_row c esi)
sum_by c k esi rows es row e f g s =
    subst (IsSumOf c.row.k (map (folded_row c) es)) g (subst (λ (r : List (List Bool)). IsSumOf c.row.k r row) f (subst (λ (n : ℕ). IsSumOf n rows row) e s))

sum_back : (c : RaptorCode) (k esi : ℕ) (rows : List (List Bool)) (es : List ℕ) (row : List Bool) → k ≡ c.row.k → rows ≡ map (folded_row c) es → row ≡ folded_row c esi
    → IsSumOf c.row.k (map (folded_row c) es) (folded_row c esi) → IsSumOf k rows row
sum_back c k esi rows es row e f g s =
    subst (λ (n : ℕ). IsSumOf n rows row) (sym e) (subst (λ (r : List (List Bool)). IsSumOf c.row.k r row) (sym f) (subst (IsSumOf c.row.k (map (folded_row c) es)) (sym g) s))

pub is_determined : (c : RaptorCode) (k esi : ℕ) (rows : List (List Bool)) (es : List ℕ) (row : List Bool) → k ≡ c.row.k → rows ≡ map (folded_row c) es
    → row ≡ folded_row c esi → IsSumOf k rows row ↔ Determines c es esi
is_determined c k esi rows es row e f g = (
  λ s. (rows_determine_one c es esi).1
      (sums_determined c.row.k (map (folded_row c) es) (folded_row c esi) (folded_rows c es) (sum_by c k esi rows es row e f g s)),
  λ d. sum_back c k esi rows es row e f g
      (determined_sums c.row.k (map (folded_row c) es) (folded_row c esi) (folded_rows c es) (length_folded c esi) ((rows_determine_one c es esi).0 d)),
)

-- ---- the block

pub full_block : (c : RaptorCode) (es : List ℕ) → AreIndependent c.row.k (map (folded_row c) es) → length (map (folded_row c) es) ≡ c.row.k → DetermineBlock c es
full_block c es free many =
    let rows = map (folded_row c) es in
    (rows_determine_block c es).1 (spanned_zeros c.row.k rows (folded_rows c es) (λ row long. full_determines c.row.k rows row (folded_rows c es) free many long))

pub block_full : (c : RaptorCode) (es : List ℕ) → AreIndependent c.row.k (map (folded_row c) es) → DetermineBlock c es → length (map (folded_row c) es) ≡ c.row.k
block_full c es free d =
    let rows = map (folded_row c) es in
    let many = spanning_many c.row.k rows (folded_rows c es) (zeros_span c.row.k rows (folded_rows c es) ((rows_determine_block c es).0 d)) in
    let few = independent_few c.row.k rows (folded_rows c es) free in omega arith

free_by : (c : RaptorCode) (k : ℕ) (rows : List (List Bool)) (es : List ℕ) → k ≡ c.row.k → rows ≡ map (folded_row c) es → AreIndependent k rows
    → AreIndependent c.row.k (map (folded_row c) es)
free_by c k rows es e f free = subst (AreIndependent c.row.k) f (subst (λ (n : ℕ). AreIndependent n rows) e free)

-- as many symbols as source symbols are those that determine the block
pub is_full : (c : RaptorCode) (k : ℕ) (rows : List (List Bool)) (es : List ℕ) → k ≡ c.row.k → rows ≡ map (folded_row c) es → AreIndependent k rows → DetermineBlock c es
    → length rows ≡ k
is_full c k rows es e f free d = ap length f ∙ block_full c es (free_by c k rows es e f free) d ∙ sym e

same_number : (m n : ℕ) → (m == n) ≡ true → m ≡ n
same_number m n is = grind (arith, common_steps)

pub is_complete : (c : RaptorCode) (k : ℕ) (es : List ℕ) (answer : Bool) → answer ≡ (length es == k) → k ≡ c.row.k → AreIndependent c.row.k (map (folded_row c) es)
    → (answer ≡ true) ↔ DetermineBlock c es
is_complete c k es answer a e free =
    let count = length-map es (folded_row c) in (
      λ yes. full_block c es free (count ∙ same_number (length es) k (sym a ∙ yes) ∙ e),
      λ d. a ∙ eq-eqb (length es) k (sym count ∙ block_full c es free d ∙ sym e),
    )

-- ---- what is kept

same_pair : (esi esi' : ℕ) (symbol symbol' : List ℕ) → esi ≡ esi' → symbol ≡ symbol' → let p : Pair = record { esi = esi; symbol = symbol } in let q : Pair = record { esi = esi'; symbol = symbol' } in p ≡ q
same_pair esi esi' symbol symbol' e f = ap₂ (λ (i : ℕ) (s : List ℕ). let p : Pair = record { esi = i; symbol = s } in p) e f

same_symbol : (t n : ℕ) (xs ys : List ℕ) → ((b : ℕ) → b < t → byte_at t xs n b ≡ byte_at t ys n b) → symbol_of t xs n ≡ symbol_of t ys n
same_symbol t n xs ys f = firsts_same (byte_at t xs n) (byte_at t ys n) t f

pub more_pairs : (t n count esi : ℕ) (old new xs ys bytes : List ℕ) → count ≡ suc n → ((i : ℕ) → i < n → slice_index new i ≡ slice_index old i) → slice_index new n ≡ esi
    → ((i b : ℕ) → i < n → b < t → byte_at t ys i b ≡ byte_at t xs i b) → symbol_of t ys n ≡ bytes
    → pairs_in t new ys count ≡ pairs_in t old xs n ++ record { esi = esi; symbol = bytes } ∷ []
unfolding pairs_in firsts
more_pairs t n count esi old new xs ys bytes e same own stay symbol =
    ap (pairs_in t new ys) e
    ∙ ap₂ (λ (ps : List Pair) (p : Pair). ps ++ p ∷ [])
    (firsts_same (pair_in t new ys) (pair_in t old xs) n
    (λ i p. same_pair _ _ _ _ (same i p) (same_symbol t i ys xs (λ b q. stay i b p q))))
    (same_pair _ _ _ _ own symbol)

pub more_rows : (c : RaptorCode) (rows : List (List Bool)) (row : List Bool) (kept : List Pair) (p : Pair) → rows ≡ map (folded_row c) (esis kept) → row ≡ folded_row c p.esi
    → rows ++ row ∷ [] ≡ map (folded_row c) (esis (kept ++ p ∷ []))
more_rows c rows row kept p e f =
    ap₂ (λ (rs : List (List Bool)) (r : List Bool). rs ++ r ∷ []) e f
    ∙ sym (ap (map (folded_row c)) (map-append (λ (q : Pair). q.esi) kept (p ∷ [])) ∙ map-append (folded_row c) (esis kept) (p.esi ∷ []))

pub pairs_count : (t n : ℕ) (es xs : List ℕ) → length (pairs_in t es xs n) ≡ n
unfolding pairs_in
pairs_count t n es xs = length_firsts (pair_in t es xs) n

no_pairs : (t : ℕ) (es xs : List ℕ) → pairs_in t es xs zero ≡ []
unfolding pairs_in firsts
no_pairs t es xs = refl

-- ---- a symbol that is put behind those that are kept

length_filled : (t : ℕ) (bytes : List ℕ) → length bytes ≤ t → length (filled t bytes) ≡ t
length_filled t bytes p =
    let both = length-append bytes (replicate (t - length bytes) 0) in
    let zeros = length-replicate {A = ℕ} (t - length bytes) 0 in omega arith

pub put_length : (t at : ℕ) (xs bytes : List ℕ) → at + t ≤ length xs → length bytes ≤ t → length (take at xs ++ (filled t bytes ++ drop (at + t) xs)) ≡ length xs
put_length t at xs bytes p q =
    let front = length-take-le at xs (omega arith) in
    let own = length_filled t bytes q in
    let rest = length-drop (at + t) xs in
    let behind = length-append (filled t bytes) (drop (at + t) xs) in
    let all = length-append (take at xs) (filled t bytes ++ drop (at + t) xs) in omega arith

put_own : (t at n : ℕ) (xs bytes : List ℕ) → at ≡ t * n → at + t ≤ length xs → length bytes ≤ t
    → symbol_of t (take at xs ++ (filled t bytes ++ drop (at + t) xs)) n ≡ filled t bytes
put_own t at n xs bytes e p q =
    let ys = take at xs ++ (filled t bytes ++ drop (at + t) xs) in
    let long = length_filled t bytes q in
    let count = length_firsts (byte_at t ys n) t in
    same_number_lists (symbol_of t ys n) (filled t bytes) (count ∙ sym long)
    (λ b r. nth_firsts (byte_at t ys n) 0 t b (omega arith)
    ∙ at_own (take at xs) (filled t bytes) (drop (at + t) xs) at b (t * n + b) (length-take-le at xs (omega arith)) (omega arith) (omega arith))

put_before : (t at n i b : ℕ) (xs rest : List ℕ) → at ≡ t * n → at ≤ length xs → i < n → b < t → byte_at t (take at xs ++ rest) i b ≡ byte_at t xs i b
put_before t at n i b xs rest e p q r =
    let room = row_within t i n q in
    let long = length-take-le at xs p in
    at_front (take at xs) rest (t * i + b) (omega arith) ∙ get_or-take at xs (t * i + b) 0 (omega arith)

-- what is kept then
pub heard : (b : Block) (e : Offered) (t n count at esi : ℕ) (alone : Bool) (es xs ys bytes : List ℕ) → block_in t e n alone es xs ≡ b → count ≡ suc n → at ≡ t * n
    → n < length es → at + t ≤ length xs → length bytes ≤ t → ys ≡ take at xs ++ (filled t bytes ++ drop (at + t) xs)
    → pairs_in t (slice_set es n esi) ys count ≡ b.kept ++ record { esi = esi; symbol = filled b.t bytes } ∷ []
heard b e t n count at esi alone es xs ys bytes view f g p q r put =
    more_pairs t n count esi es (slice_set es n esi) xs ys (filled t bytes) f
    (λ i s. get_or-set_other es n i esi 0 (λ same. omega arith))
    (get_or-set_same es n esi 0 p)
    (λ i d s u. ap (λ (zs : List ℕ). byte_at t zs i d) put ∙ put_before t at n i d xs (filled t bytes ++ drop (at + t) xs) g (omega arith) s u)
    (ap (λ (zs : List ℕ). symbol_of t zs n) put ∙ put_own t at n xs bytes g q r)
    ∙ ap₂ (λ (ps : List Pair) (w : ℕ). ps ++ record { esi = esi; symbol = filled w bytes } ∷ [])
    (ap (λ (d : Block). d.kept) view) (ap (λ (d : Block). d.t) view)

-- it is a block of the code still
pub is_of_more : (c : RaptorCode) (b : Block) (e f : Offered) (t n : ℕ) (alone : Bool) (es xs : List ℕ) (kept : List Pair) (row : List Bool) (p : Pair) → alone ≡ false
    → block_in t e n alone es xs ≡ b → IsOf c b → f.places ≡ e.places → f.news ≡ e.news ++ row ∷ [] → row ≡ folded_row c p.esi → kept ≡ b.kept ++ p ∷ []
    → IsOf c (record { k = f.places; t = t; kept = kept; alone = alone; rows = f.news })
is_of_more c b e f t n alone es xs kept row p worked view of places news own more = record {
  k = places ∙ ap (λ (d : Block). d.k) view ∙ of.k;
  rows = λ still.
      news ∙ more_rows c e.news row b.kept p (ap (λ (d : Block). d.rows) view ∙ of.rows (sym (ap (λ (d : Block). d.alone) view) ∙ worked)) own
      ∙ sym (ap (λ (ps : List Pair). map (folded_row c) (esis ps)) more);
  sources = λ is. let bad : true ≡ false = sym is ∙ worked in absurd cc;
}

-- of a block that was just begun
pub begun : (t k : ℕ) (e : Offered) (alone : Bool) (es xs : List ℕ) → e ≡ record { places = k; news = [] }
    → block_in t e 0 alone es xs ≡ record { k = k; t = t; kept = []; alone = alone; rows = [] }
begun t k e alone es xs is =
    ap (λ (o : Offered). block_in t o 0 alone es xs) is
    ∙ ap (λ (ps : List Pair). let b : Block = record { k = k; t = t; kept = ps; alone = alone; rows = [] } in b) (no_pairs t es xs)
