-- The folded rows of the source ESIs, offered one after the other.
use Rattle.std.proofs.Common.{◌≡◌, ℕ, zero, suc, ◌<◌, Bool, List, [], ◌∷◌, ◌++◌, length, refl, ap, ap₂, sym, subst, ◌∙◌}
use Rattle.mb_linear.specs.Row.{zeros, AreRows}
use Rattle.mb_linear.specs.Span.{IsSumOf, Solves, AreIndependent}
use Rattle.mb_linear.proofs.Independence.{full_determines}
use Rattle.mb_linear.proofs.Spanning.{spanned_zeros}
use Rattle.mb_elim.specs.Offered.{Offered}
use Rattle.mb_elim.specs.Kept.{firsts}
use Rattle.mb_elim.proofs.Snoc.{length_firsts, all_firsts}
use Rattle.mb_rows.specs.Code.{RaptorCode, IsCode}
use Rattle.mb_rows.specs.Folding.{in_folded, folded_row}
use Rattle.mb_rows.specs.Determined.{DetermineBlock}
use Rattle.mb_rows.proofs.PlaceLemmas.{length_set}
use Rattle.mb_rows.proofs.DeterminedLemmas.{rows_determine_block}
use Rattle.mb_encoder.specs.Usable.{source_esis}
use Rattle.mb_encoder.specs.Kept.{IsEliminated}
use Rattle.mb_encoder.proofs.Dependent.{dependent_rows, map_firsts}

pub length_folded : (c : RaptorCode) (esi : ℕ) → length (folded_row c esi) ≡ c.row.k
length_folded c esi = length_set c.row.k (in_folded c esi)

pub folded_are_rows : (c : RaptorCode) (n : ℕ) → AreRows c.row.k (firsts (folded_row c) n)
folded_are_rows c n = all_firsts (λ row. length row ≡ c.row.k) (folded_row c) n (λ i p. length_folded c i)

pub more_new : (f : ℕ → List Bool) (n next : ℕ) (news : List (List Bool)) (row : List Bool) → next ≡ suc n → news ≡ firsts f n → row ≡ f n
    → news ++ row ∷ [] ≡ firsts f next
unfolding firsts
more_new f n next news row e p q =
    ap₂ (λ (xs : List (List Bool)) (x : List Bool). xs ++ x ∷ []) p q ∙ ap (firsts f) (sym e)

-- the block is determined where zeros alone solve the folded rows
solve_folded : (c : RaptorCode) → ((first : List Bool) → Solves c.row.k (firsts (folded_row c) c.row.k) first → first ≡ zeros c.row.k) → DetermineBlock c (source_esis c.row.k)
solve_folded c only =
    let same = map_firsts (folded_row c) c.row.k in
    (rows_determine_block c (source_esis c.row.k)).1 (λ first s. only first (subst (λ (rows : List (List Bool)). Solves c.row.k rows first) same s))

folded_solve : (c : RaptorCode) → DetermineBlock c (source_esis c.row.k) → (first : List Bool) → Solves c.row.k (firsts (folded_row c) c.row.k) first → first ≡ zeros c.row.k
folded_solve c d first s =
    let same = map_firsts (folded_row c) c.row.k in
    (rows_determine_block c (source_esis c.row.k)).0 d first (subst (λ (rows : List (List Bool)). Solves c.row.k rows first) (sym same) s)

-- a folded row that is a sum of those before it
pub not_determined : (c : RaptorCode) (k esi : ℕ) (news : List (List Bool)) (row : List Bool) → esi < c.row.k → k ≡ c.row.k → news ≡ firsts (folded_row c) esi
    → row ≡ folded_row c esi → IsSumOf k news row → DetermineBlock c (source_esis c.row.k) → ⊥
not_determined c k esi news row p e f g s d =
    let at_k : IsSumOf c.row.k news row = subst (λ (n : ℕ). IsSumOf n news row) e s in
    let at_news : IsSumOf c.row.k (firsts (folded_row c) esi) row = subst (λ (rows : List (List Bool)). IsSumOf c.row.k rows row) f at_k in
    dependent_rows c.row.k (folded_row c) esi (length_folded c) p (subst (IsSumOf c.row.k (firsts (folded_row c) esi)) g at_news) (folded_solve c d)

-- each of them was new
pub is_eliminated : (c : RaptorCode) (e : Offered) (n : ℕ) → n ≡ c.row.k → e.places ≡ c.row.k → e.news ≡ firsts (folded_row c) n → AreIndependent e.places e.news → IsCode c
    → IsEliminated c e
is_eliminated c e n p q r free code =
    let same : e.news ≡ firsts (folded_row c) c.row.k = r ∙ ap (firsts (folded_row c)) p in
    let rows : e ≡ record { places = c.row.k; news = firsts (folded_row c) c.row.k } =
    ap₂ (λ (k : ℕ) (rows : List (List Bool)). let o : Offered = record { places = k; news = rows } in o) q same in
    let independent : AreIndependent c.row.k (firsts (folded_row c) c.row.k) = subst (λ (o : Offered). AreIndependent o.places o.news) rows free in
    let are = folded_are_rows c c.row.k in record {
      code = code;
      rows = rows;
      independent = independent;
      determine = solve_folded c (spanned_zeros c.row.k (firsts (folded_row c) c.row.k) are
          (λ row long. full_determines c.row.k (firsts (folded_row c) c.row.k) row are independent (length_firsts (folded_row c) c.row.k) long));
    }

pub count_new : (f : ℕ → List Bool) (n : ℕ) (news : List (List Bool)) → news ≡ firsts f n → length news ≡ n
count_new f n news e = ap length e ∙ length_firsts f n

nothing : (f : ℕ → List Bool) → [] ≡ firsts f zero
unfolding firsts
nothing f = refl

pub none_new : (f : ℕ → List Bool) (news : List (List Bool)) → news ≡ [] → news ≡ firsts f 0
none_new f news e = e ∙ nothing f

pub full_offered : (c : RaptorCode) (e : Offered) → IsEliminated c e → length e.news ≡ e.places
full_offered c e is = subst (λ (o : Offered). length o.news ≡ o.places) (sym is.rows) (length_firsts (folded_row c) c.row.k)
