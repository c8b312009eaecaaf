-- As many independent rows as places have unknowns that sum to any bytes.
use Rattle.std.proofs.Common.{◌≡◌, ℕ, zero, suc, ◌<◌, Bool, true, false, List, [], ◌∷◌, length, map, slice_index_or, bit_xor, refl, ap, ap₂, sym, subst, ◌∙◌, arith}
use Rattle.std.specs.List.{AllByRecursion}
use Rattle.mb_linear.specs.Row.{row_sum, zeros, chosen_sum, AreRows}
use Rattle.mb_linear.specs.Span.{IsSumOf, IsNothing, AreIndependent}
use Rattle.mb_linear.proofs.RowLemmas.{length_row_sum, length_chosen_sum, sum_self, zeros_right, chosen_none, chosen_plus}
use Rattle.mb_linear.proofs.Independence.{full_determines, choices_of, choices_long, choices_many, choices_sum}
use Rattle.mb_linear.proofs.Spanning.{units, units_are_rows, length_units, chosen_units, all_sums}
use Rattle.mb_elim.specs.Kept.{firsts}
use Rattle.mb_elim.specs.Values.{byte_sum, AreSums}
use Rattle.mb_elim.specs.Replay.{unit}
use Rattle.mb_elim.proofs.Solving.{same_rows, length_unit}
use Rattle.mb_elim.proofs.Snoc.{length_firsts, nth_firsts}
use Rattle.mb_elim.proofs.Replaying.{byte_linear, byte_zeros, byte_unit}
use Rattle.mb_encoder.specs.Symbols.{symbols_of}
use Rattle.mb_encoder.proofs.Summing.{nth_symbol}

-- ---- the row with one place set

chosen_unit : (n p : ℕ) (rows : List (List Bool)) → AreRows n rows → p < length rows → chosen_sum n (unit (length rows) p) rows ≡ slice_index_or rows p []
unfolding chosen_sum unit
chosen_unit n p [] w q = absurd (omega arith)
chosen_unit n zero (row ∷ rows) w q = ap (row_sum row) (chosen_none n (length rows) rows) ∙ zeros_right n row w.0
chosen_unit n (suc p) (row ∷ rows) w q = chosen_unit n p rows w.1 (omega arith)

nothing_zeros : (n : ℕ) (choice : List Bool) → length choice ≡ n → IsNothing choice → choice ≡ zeros n
unfolding zeros
nothing_zeros zero [] e z = refl
nothing_zeros zero (c ∷ choice) e z = absurd (omega arith)
nothing_zeros (suc n) [] e z = absurd (omega arith)
nothing_zeros (suc n) (c ∷ choice) e z =
    let e2 : length choice ≡ n = omega arith in ap₂ (λ (b : Bool) (bs : List Bool). b ∷ bs) z.0 (nothing_zeros n choice e2 z.1)

-- independent rows have one choice for each sum
one_choice : (n m : ℕ) (rows : List (List Bool)) (a b : List Bool) → AreRows n rows → AreIndependent n rows → length rows ≡ m → length a ≡ m → length b ≡ m
    → chosen_sum n a rows ≡ chosen_sum n b rows → a ≡ b
one_choice n m rows a b w free many p q e =
    let long : length (row_sum a b) ≡ m = length_row_sum m a b p q in
    let none : chosen_sum n (row_sum a b) rows ≡ zeros n =
    chosen_plus n a b rows w (p ∙ sym q) ∙ ap (λ (r : List Bool). row_sum r (chosen_sum n b rows)) e ∙ sum_self n (chosen_sum n b rows) (length_chosen_sum n b rows w) in
    same_rows m a b p q (nothing_zeros m (row_sum a b) long (free (row_sum a b) (long ∙ sym many) none))

-- ---- the unknowns

-- the bytes that a choice of symbols sums to
abbrev pub made : ℕ → List (List ℕ) → List Bool → List ℕ
made t sources choice = firsts (λ b. byte_sum b choice sources) t

pub byte_made : (t n b : ℕ) (row : List Bool) (choices : List (List Bool)) (sources : List (List ℕ)) → AreRows n choices → b < t
    → byte_sum b row (map (made t sources) choices) ≡ byte_sum b (chosen_sum n row choices) sources
unfolding byte_sum chosen_sum
byte_made t n b [] choices sources w p = sym (byte_zeros b n sources)
byte_made t n b (c ∷ row) [] sources w p = sym (byte_zeros b n sources)
byte_made t n b (true ∷ row) (choice ∷ choices) sources w p =
    ap₂ bit_xor (nth_firsts (λ (d : ℕ). byte_sum d choice sources) 0 t b p) (byte_made t n b row choices sources w.1 p)
    ∙ sym (byte_linear b sources choice (chosen_sum n row choices) (w.0 ∙ sym (length_chosen_sum n row choices w.1)))
byte_made t n b (false ∷ row) (choice ∷ choices) sources w p = byte_made t n b row choices sources w.1 p

made_count : (t : ℕ) (sources : List (List ℕ)) (choices : List (List Bool)) → length (map (made t sources) choices) ≡ length choices
made_count t sources [] = refl
made_count t sources (choice ∷ choices) = ap suc (made_count t sources choices)

row_long : (n i : ℕ) (rows : List (List Bool)) → AreRows n rows → i < length rows → length (slice_index_or rows i []) ≡ n
row_long n i [] w p = absurd (omega arith)
row_long n zero (row ∷ rows) w p = w.0
row_long n (suc i) (row ∷ rows) w p = row_long n i rows w.1 (omega arith)

pub record HasUnknowns (t k : ℕ) (rows : List (List Bool)) (stripe : List ℕ) : Type 0 where
  pub unknowns : List (List ℕ)
  pub count : length unknowns ≡ k
  pub sums : AreSums t rows unknowns stripe

-- the choice of rows that a row's choice of units comes to is the row itself
own_choice : (k i : ℕ) (rows : List (List Bool)) (s : AllByRecursion (IsSumOf k rows) (units k)) → AreRows k rows → AreIndependent k rows → length rows ≡ k → i < k
    → chosen_sum k (slice_index_or rows i []) (choices_of k rows (units k) s) ≡ unit k i
own_choice k i rows s w free many p =
    let row = slice_index_or rows i [] in
    let choices = choices_of k rows (units k) s in
    let wide : AreRows k choices = subst (λ (n : ℕ). AreRows n choices) many (choices_long k rows (units k) s) in
    let came : chosen_sum k (chosen_sum k row choices) rows ≡ row =
    ap (λ (n : ℕ). chosen_sum k (chosen_sum n row choices) rows) (sym many) ∙ choices_sum k rows (units k) s row w
    ∙ chosen_units k row (row_long k i rows w (omega arith)) in
    let one : chosen_sum k (unit k i) rows ≡ row =
    ap (λ (n : ℕ). chosen_sum k (unit n i) rows) (sym many) ∙ chosen_unit k i rows w (omega arith) in
    one_choice k k rows (chosen_sum k row choices) (unit k i) w free many (length_chosen_sum k row choices wide) (length_unit k i) (came ∙ sym one)

pub full_unknowns : (t k : ℕ) (rows : List (List Bool)) (stripe : List ℕ) → AreRows k rows → AreIndependent k rows → length rows ≡ k → HasUnknowns t k rows stripe
full_unknowns t k rows stripe w free many =
    let s : AllByRecursion (IsSumOf k rows) (units k) = all_sums k rows (units k) (units_are_rows k) (λ row e. full_determines k rows row w free many e) in
    let choices = choices_of k rows (units k) s in
    let wide : AreRows k choices = subst (λ (n : ℕ). AreRows n choices) many (choices_long k rows (units k) s) in
    let sources = symbols_of t k stripe in record {
      unknowns = map (made t sources) choices;
      count = made_count t sources choices ∙ choices_many k rows (units k) s ∙ length_units k;
      sums = λ i b p q.
          let r : i < k = omega arith in
          sym (byte_made t k b (slice_index_or rows i []) choices sources wide q
          ∙ ap (λ (row : List Bool). byte_sum b row sources) (own_choice k i rows s w free many r)
          ∙ byte_unit b k i sources (length_firsts _ k) r
          ∙ nth_symbol t k i b stripe r q);
    }
