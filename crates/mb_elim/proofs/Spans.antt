-- What is a sum of the rows as they came is one of the reduced rows, and the other way round.
use Rattle.std.proofs.Common.{◌≡◌, ℕ, zero, suc, ◌*◌, Bool, List, [], ◌∷◌, ◌++◌, length}
use Rattle.std.specs.List.{AllByRecursion}
use Rattle.mb_linear.specs.Row.{row_sum, chosen_sum, AreRows}
use Rattle.mb_linear.specs.Span.{IsSumOf}
use Rattle.mb_linear.proofs.RowLemmas.{length_row_sum, length_chosen_sum, sum_twice}
use Rattle.mb_linear.proofs.SpanLemmas.{sum_of_sums, same_is_sum, chosen_is_sum, sum_through}
use Rattle.mb_linear.proofs.Deciding.{each_is_sum}
use Rattle.mb_elim.specs.Kept.{firsts, row_at, mask_at, reduced_rows, row_as_it_came}
use Rattle.mb_elim.proofs.Snoc.{all_before, all_last, all_snoc, all_firsts}
use Rattle.mb_elim.proofs.RowsInWords.{length_row_from}

all_more : {A : Type 0} → (P Q : A → Type 0) (xs : List A) → ((x : A) → P x → Q x) → AllByRecursion P xs → AllByRecursion Q xs
all_more P Q [] f a = tt
all_more P Q (x ∷ xs) f a = (f x a.0, all_more P Q xs f a.1)

pub sum_snoc : (n : ℕ) (rows : List (List Bool)) (row sum : List Bool) → AreRows n (rows ++ row ∷ []) → IsSumOf n rows sum → IsSumOf n (rows ++ row ∷ []) sum
sum_snoc n rows row sum w s =
    sum_through n (rows ++ row ∷ []) rows sum w (all_before (IsSumOf n (rows ++ row ∷ [])) rows row (each_is_sum n (rows ++ row ∷ []) w)) s

pub last_is_sum : (n : ℕ) (rows : List (List Bool)) (row : List Bool) → AreRows n (rows ++ row ∷ []) → IsSumOf n (rows ++ row ∷ []) row
last_is_sum n rows row w = all_last (IsSumOf n (rows ++ row ∷ [])) rows row (each_is_sum n (rows ++ row ∷ []) w)

pub sums_snoc : (n : ℕ) (rows : List (List Bool)) (row : List Bool) (sums : List (List Bool)) → AreRows n (rows ++ row ∷ []) → AllByRecursion (IsSumOf n rows) sums
    → AllByRecursion (IsSumOf n (rows ++ row ∷ [])) sums
sums_snoc n rows row sums w s = all_more (IsSumOf n rows) (IsSumOf n (rows ++ row ∷ [])) sums (λ sum. sum_snoc n rows row sum w) s

-- ---- lengths

pub reduced_are_rows : (k w n : ℕ) (rows : List ℕ) → AreRows k (reduced_rows k w rows n)
reduced_are_rows k w n rows = all_firsts (λ row. length row ≡ k) (row_at k w rows) n (λ i p. length_row_from k (64 * (w * i)) rows)

pub length_as_it_came : (k w i : ℕ) (rows masks : List ℕ) → length (row_as_it_came k w rows masks i) ≡ k
length_as_it_came k w i rows masks = length_row_sum k (chosen_sum k (mask_at masks i) (reduced_rows k w rows i)) (row_at k w rows i)
    (length_chosen_sum k (mask_at masks i) (reduced_rows k w rows i) (reduced_are_rows k w i rows)) (length_row_from k (64 * (w * i)) rows)

pub news_are_rows : (k w n : ℕ) (rows masks : List ℕ) → AreRows k (firsts (row_as_it_came k w rows masks) n)
news_are_rows k w n rows masks = all_firsts (λ row. length row ≡ k) (row_as_it_came k w rows masks) n (λ i p. length_as_it_came k w i rows masks)

-- ---- each reduced row is a sum of the rows as they came

-- a row to which a sum of others was added
taken_back : (k : ℕ) (xs others : List (List Bool)) (choice row : List Bool) → AreRows k xs → AreRows k others → length row ≡ k
    → AllByRecursion (IsSumOf k xs) others → IsSumOf k xs (row_sum (chosen_sum k choice others) row) → IsSumOf k xs row
taken_back k xs others choice row w v e s t =
    let c = chosen_sum k choice others in
    same_is_sum k xs (row_sum c (row_sum c row)) row (sum_twice k c row (length_chosen_sum k choice others v) e)
    (sum_of_sums k xs c (row_sum c row) w (chosen_is_sum k xs others choice w s) t)

pub reduced_are_sums : (k w n : ℕ) (rows masks : List ℕ) → AllByRecursion (IsSumOf k (firsts (row_as_it_came k w rows masks) n)) (reduced_rows k w rows n)
unfolding firsts
reduced_are_sums k w zero rows masks = tt
reduced_are_sums k w (suc n) rows masks =
    let news = firsts (row_as_it_came k w rows masks) n in
    let new = row_as_it_came k w rows masks n in
    let reds = reduced_rows k w rows n in
    let red = row_at k w rows n in
    let more : AreRows k (news ++ new ∷ []) = all_snoc (λ row. length row ≡ k) news new (news_are_rows k w n rows masks) (length_as_it_came k w n rows masks) in
    let earlier = sums_snoc k news new reds more (reduced_are_sums k w n rows masks) in
    all_snoc (IsSumOf k (news ++ new ∷ [])) reds red earlier
    (taken_back k (news ++ new ∷ []) reds (mask_at masks n) red more (reduced_are_rows k w n rows) (length_row_from k (64 * (w * n)) rows) earlier (last_is_sum k news new more))

pub news_are_sums : (k w n : ℕ) (rows masks : List ℕ) → AllByRecursion (IsSumOf k (reduced_rows k w rows n)) (firsts (row_as_it_came k w rows masks) n)
unfolding firsts
news_are_sums k w zero rows masks = tt
news_are_sums k w (suc n) rows masks =
    let news = firsts (row_as_it_came k w rows masks) n in
    let new = row_as_it_came k w rows masks n in
    let reds = reduced_rows k w rows n in
    let red = row_at k w rows n in
    let more : AreRows k (reds ++ red ∷ []) = all_snoc (λ row. length row ≡ k) reds red (reduced_are_rows k w n rows) (length_row_from k (64 * (w * n)) rows) in
    all_snoc (IsSumOf k (reds ++ red ∷ [])) news new (sums_snoc k reds red news more (news_are_sums k w n rows masks))
    (sum_of_sums k (reds ++ red ∷ []) (chosen_sum k (mask_at masks n) reds) red more
    (chosen_is_sum k (reds ++ red ∷ []) reds (mask_at masks n) more (all_before (IsSumOf k (reds ++ red ∷ [])) reds red (each_is_sum k (reds ++ red ∷ []) more)))
    (last_is_sum k reds red more))

-- ---- so both have the same sums

pub sum_of_reduced : (k w n : ℕ) (rows masks : List ℕ) (row : List Bool) → IsSumOf k (firsts (row_as_it_came k w rows masks) n) row → IsSumOf k (reduced_rows k w rows n) row
sum_of_reduced k w n rows masks row s =
    sum_through k (reduced_rows k w rows n) (firsts (row_as_it_came k w rows masks) n) row (reduced_are_rows k w n rows) (news_are_sums k w n rows masks) s

pub sum_of_news : (k w n : ℕ) (rows masks : List ℕ) (row : List Bool) → IsSumOf k (reduced_rows k w rows n) row → IsSumOf k (firsts (row_as_it_came k w rows masks) n) row
sum_of_news k w n rows masks row s =
    sum_through k (firsts (row_as_it_came k w rows masks) n) (reduced_rows k w rows n) row (news_are_rows k w n rows masks) (reduced_are_sums k w n rows masks) s
