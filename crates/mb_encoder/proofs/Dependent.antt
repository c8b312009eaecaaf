-- Where n rows have one that is a sum of those before it, more than the zeros solve them.
use Rattle.std.proofs.Common.{◌≡◌, ℕ, zero, suc, ◌+◌, ◌-◌, ◌<◌, Bool, List, [], ◌∷◌, ◌++◌, length, map, refl, ap, subst, ◌∙◌, arith}
use Rattle.std.specs.List.{AllByRecursion}
use Rattle.mb_linear.specs.Row.{zeros, AreRows}
use Rattle.mb_linear.specs.Span.{IsSumOf, Solves}
use Rattle.mb_linear.proofs.SpanLemmas.{first_is_sum, later_is_sum, sum_through}
use Rattle.mb_linear.proofs.Deciding.{each_is_sum}
use Rattle.mb_linear.proofs.Spanning.{zeros_span, spanning_many}
use Rattle.mb_elim.specs.Kept.{firsts}
use Rattle.mb_elim.proofs.Snoc.{length_firsts, all_snoc, all_firsts}

-- ---- one row that is a sum of those before it

-- the first m rows are sums of fewer
record Fewer (n : ℕ) (f : ℕ → List Bool) (m : ℕ) : Type 0 where
  pub rows : List (List Bool)
  pub count : length rows < m
  pub are : AreRows n rows
  pub sums : AllByRecursion (IsSumOf n rows) (firsts f m)

all_later : (n : ℕ) (rows : List (List Bool)) (row : List Bool) (others : List (List Bool)) → AllByRecursion (IsSumOf n rows) others → AllByRecursion (IsSumOf n (row ∷ rows)) others
all_later n rows row [] s = tt
all_later n rows row (other ∷ others) s = (later_is_sum n rows row other s.0, all_later n rows row others s.1)

fewer_one : (n : ℕ) (f : ℕ → List Bool) (m : ℕ) → ((i : ℕ) → length (f i) ≡ n) → IsSumOf n (firsts f m) (f m) → Fewer n f (suc m)
unfolding firsts
fewer_one n f m long s = record {
  rows = firsts f m;
  count = let e = length_firsts f m in omega arith;
  are = all_firsts (λ row. length row ≡ n) f m (λ i p. long i);
  sums = all_snoc (IsSumOf n (firsts f m)) (firsts f m) (f m) (each_is_sum n (firsts f m) (all_firsts (λ row. length row ≡ n) f m (λ i p. long i))) s;
}

fewer_more : (n : ℕ) (f : ℕ → List Bool) (m : ℕ) → ((i : ℕ) → length (f i) ≡ n) → Fewer n f m → Fewer n f (suc m)
unfolding firsts
fewer_more n f m long few = record {
  rows = f m ∷ few.rows;
  count = let c = few.count in omega arith;
  are = (long m, few.are);
  sums = all_snoc (IsSumOf n (f m ∷ few.rows)) (firsts f m) (f m) (all_later n few.rows (f m) (firsts f m) few.sums) (first_is_sum n few.rows (f m) (long m));
}

fewer_all : (n : ℕ) (f : ℕ → List Bool) (m d : ℕ) → ((i : ℕ) → length (f i) ≡ n) → IsSumOf n (firsts f m) (f m) → Fewer n f (suc m + d)
fewer_all n f m zero long s = let same : suc m + zero ≡ suc m = omega arith in rw same (fewer_one n f m long s)
fewer_all n f m (suc d) long s = let same : suc m + suc d ≡ suc (suc m + d) = omega arith in rw same (fewer_more n f (suc m + d) long (fewer_all n f m d long s))

pub dependent_rows : (n : ℕ) (f : ℕ → List Bool) (m : ℕ) → ((i : ℕ) → length (f i) ≡ n) → m < n → IsSumOf n (firsts f m) (f m)
    → ((values : List Bool) → Solves n (firsts f n) values → values ≡ zeros n) → ⊥
dependent_rows n f m long p s only =
    let whole : suc m + (n - suc m) ≡ n = omega arith in
    let few : Fewer n f n = subst (Fewer n f) whole (fewer_all n f m (n - suc m) long s) in
    let are : AreRows n (firsts f n) = all_firsts (λ row. length row ≡ n) f n (λ i q. long i) in
    let many = spanning_many n few.rows few.are (λ row e. sum_through n few.rows (firsts f n) row few.are few.sums (zeros_span n (firsts f n) are only row e)) in
    let count = few.count in omega arith

-- ---- maps

pub map_firsts : {A : Type 0} → (g : ℕ → A) (n : ℕ) → map g (firsts (λ i. i) n) ≡ firsts g n
unfolding firsts
map_firsts g zero = refl
map_firsts g (suc n) = map_snoc g (firsts (λ i. i) n) n ∙ ap (λ (xs : List _). xs ++ g n ∷ []) (map_firsts g n)
  where
    map_snoc : {A : Type 0} → (g : ℕ → A) (xs : List ℕ) (x : ℕ) → map g (xs ++ x ∷ []) ≡ map g xs ++ g x ∷ []
    map_snoc g [] x = refl
    map_snoc g (y ∷ xs) x = ap (λ (l : List _). g y ∷ l) (map_snoc g xs x)
