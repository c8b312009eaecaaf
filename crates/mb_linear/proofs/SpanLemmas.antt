-- Sums of chosen rows: what is among them, and sums of sums.
use Rattle.std.proofs.Common.{◌≡◌, ℕ, suc, Bool, true, false, List, [], ◌∷◌, length, ap, ap₂, sym, ◌∙◌}
use Rattle.std.specs.List.{AllByRecursion}
use Rattle.mb_linear.specs.Row.{plus, row_sum, zeros, added_if, chosen_sum, value_over, AreRows}
use Rattle.mb_linear.specs.Span.{IsSumOf, IsDetermined}
use Rattle.mb_linear.proofs.RowLemmas.{length_zeros, length_row_sum, zeros_right, chosen_none, chosen_plus, length_chosen_sum, value_zeros, value_sum}

pub nothing_is_sum : (n : ℕ) (rows : List (List Bool)) → IsSumOf n rows (zeros n)
nothing_is_sum n rows = record { choice = zeros (length rows); one_each = length_zeros (length rows); sum = chosen_none n (length rows) rows }

pub first_is_sum : (n : ℕ) (rows : List (List Bool)) (row : List Bool) → length row ≡ n → IsSumOf n (row ∷ rows) row
unfolding chosen_sum
first_is_sum n rows row p = record {
  choice = true ∷ zeros (length rows);
  one_each = ap suc (length_zeros (length rows));
  sum = ap (row_sum row) (chosen_none n (length rows) rows) ∙ zeros_right n row p;
}

pub later_is_sum : (n : ℕ) (rows : List (List Bool)) (row sum : List Bool) → IsSumOf n rows sum → IsSumOf n (row ∷ rows) sum
unfolding chosen_sum
later_is_sum n rows row sum s = record { choice = false ∷ s.choice; one_each = ap suc s.one_each; sum = s.sum }

pub sum_of_sums : (n : ℕ) (rows : List (List Bool)) (a b : List Bool) → AreRows n rows → IsSumOf n rows a → IsSumOf n rows b → IsSumOf n rows (row_sum a b)
sum_of_sums n rows a b w s t = record {
  choice = row_sum s.choice t.choice;
  one_each = length_row_sum (length rows) s.choice t.choice s.one_each t.one_each;
  sum = chosen_plus n s.choice t.choice rows w (s.one_each ∙ sym t.one_each) ∙ ap₂ row_sum s.sum t.sum;
}

pub added_is_sum : (n : ℕ) (rows : List (List Bool)) (c : Bool) (a b : List Bool) → AreRows n rows → IsSumOf n rows a → IsSumOf n rows b → IsSumOf n rows (added_if c a b)
added_is_sum n rows false a b w s t = t
added_is_sum n rows true a b w s t = sum_of_sums n rows a b w s t

-- a sum of sums is a sum
pub chosen_is_sum : (n : ℕ) (rows others : List (List Bool)) (choice : List Bool) → AreRows n rows → AllByRecursion (IsSumOf n rows) others
    → IsSumOf n rows (chosen_sum n choice others)
unfolding chosen_sum
chosen_is_sum n rows others [] w s = nothing_is_sum n rows
chosen_is_sum n rows [] (c ∷ choice) w s = nothing_is_sum n rows
chosen_is_sum n rows (row ∷ others) (c ∷ choice) w s =
    added_is_sum n rows c row (chosen_sum n choice others) w s.0 (chosen_is_sum n rows others choice w s.1)

pub same_is_sum : (n : ℕ) (rows : List (List Bool)) (a b : List Bool) → a ≡ b → IsSumOf n rows a → IsSumOf n rows b
same_is_sum n rows a b e s = record { choice = s.choice; one_each = s.one_each; sum = s.sum ∙ e }

pub sum_through : (n : ℕ) (rows others : List (List Bool)) (row : List Bool) → AreRows n rows → AllByRecursion (IsSumOf n rows) others
    → IsSumOf n others row → IsSumOf n rows row
sum_through n rows others row w s t =
    same_is_sum n rows (chosen_sum n t.choice others) row t.sum (chosen_is_sum n rows others t.choice w s)

value_added : (c : Bool) (row sum values : List Bool) → length row ≡ length sum → value_over row values ≡ false → value_over sum values ≡ false
    → value_over (added_if c row sum) values ≡ false
value_added false row sum values e p q = q
value_added true row sum values e p q = value_sum row sum values e ∙ ap₂ plus p q

-- what each row sums to zero, so does each sum of them
pub chosen_value : (n : ℕ) (choice : List Bool) (rows : List (List Bool)) (values : List Bool) → AreRows n rows
    → AllByRecursion (λ row. value_over row values ≡ false) rows → value_over (chosen_sum n choice rows) values ≡ false
unfolding chosen_sum
chosen_value n [] rows values w z = value_zeros n values
chosen_value n (c ∷ choice) [] values w z = value_zeros n values
chosen_value n (c ∷ choice) (row ∷ rows) values w z =
    value_added c row (chosen_sum n choice rows) values (w.0 ∙ sym (length_chosen_sum n choice rows w.1)) z.0 (chosen_value n choice rows values w.1 z.1)

pub sums_determined : (n : ℕ) (rows : List (List Bool)) (row : List Bool) → AreRows n rows → IsSumOf n rows row → IsDetermined n rows row
sums_determined n rows row w s values z =
    ap (λ (r : List Bool). value_over r values) (sym s.sum) ∙ chosen_value n s.choice rows values w z.each
