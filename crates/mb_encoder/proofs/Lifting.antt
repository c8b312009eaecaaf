-- What holds of bits over rows holds of the bytes of symbols.
use Rattle.std.proofs.Common.{◌≡◌, ℕ, zero, suc, ◌<◌, ◌≤◌, Bool, true, false, ◌&&◌, List, [], ◌∷◌, ◌++◌, length, take, slice_index, slice_index_or, bit_xor, refl, ap, ap₂, sym, ◌∙◌, arith}
use Rattle.std.specs.List.{AllByRecursion}
use Rattle.std.specs.Int.Bits.{xor_assoc, xor_self, xor_zero_r}
use Rattle.std.proofs.lemmas.Nat.{xor_comm}
use Rattle.mb_linear.specs.Row.{plus, zeros, added_if, chosen_sum, value_over, AreRows}
use Rattle.mb_linear.specs.Span.{IsDetermined}
use Rattle.mb_linear.proofs.RowLemmas.{length_chosen_sum, value_zeros}
use Rattle.mb_linear.proofs.Deciding.{determined_sums}
use Rattle.mb_elim.specs.Values.{byte_sum}
use Rattle.mb_elim.proofs.Replaying.{byte_linear, byte_zeros}

-- ---- what bits determine, bytes do

byte_none : (b : ℕ) (row : List Bool) → byte_sum b row [] ≡ 0
unfolding byte_sum
byte_none b [] = refl
byte_none b (c ∷ row) = refl

byte_added : (b n : ℕ) (c : Bool) (row sum : List Bool) (us vs : List (List ℕ)) → length row ≡ length sum → byte_sum b row us ≡ byte_sum b row vs
    → byte_sum b sum us ≡ byte_sum b sum vs → byte_sum b (added_if c row sum) us ≡ byte_sum b (added_if c row sum) vs
byte_added b n false row sum us vs l e f = f
byte_added b n true row sum us vs l e f = byte_linear b us row sum l ∙ ap₂ bit_xor e f ∙ sym (byte_linear b vs row sum l)

chosen_agree : (b n : ℕ) (choice : List Bool) (rows : List (List Bool)) (us vs : List (List ℕ)) → AreRows n rows
    → AllByRecursion (λ row. byte_sum b row us ≡ byte_sum b row vs) rows → byte_sum b (chosen_sum n choice rows) us ≡ byte_sum b (chosen_sum n choice rows) vs
unfolding chosen_sum
chosen_agree b n [] rows us vs w a = byte_zeros b n us ∙ sym (byte_zeros b n vs)
chosen_agree b n (c ∷ choice) [] us vs w a = byte_zeros b n us ∙ sym (byte_zeros b n vs)
chosen_agree b n (c ∷ choice) (row ∷ rows) us vs w a =
    byte_added b n c row (chosen_sum n choice rows) us vs (w.0 ∙ sym (length_chosen_sum n choice rows w.1)) a.0 (chosen_agree b n choice rows us vs w.1 a.1)

-- where symbols have the same sums over rows, so they have over each row that these determine
pub determined_agree : (b n : ℕ) (rows : List (List Bool)) (row : List Bool) (us vs : List (List ℕ)) → AreRows n rows → length row ≡ n → IsDetermined n rows row
    → AllByRecursion (λ r. byte_sum b r us ≡ byte_sum b r vs) rows → byte_sum b row us ≡ byte_sum b row vs
determined_agree b n rows row us vs w l d a =
    let s = determined_sums n rows row w l d in
    ap (λ (r : List Bool). byte_sum b r us) (sym s.sum) ∙ chosen_agree b n s.choice rows us vs w a ∙ ap (λ (r : List Bool). byte_sum b r vs) s.sum

none_zero : (b : ℕ) (rows : List (List Bool)) (us : List (List ℕ)) → AllByRecursion (λ r. byte_sum b r us ≡ 0) rows → AllByRecursion (λ r. byte_sum b r us ≡ byte_sum b r []) rows
none_zero b [] us a = tt
none_zero b (row ∷ rows) us a = (a.0 ∙ sym (byte_none b row), none_zero b rows us a.1)

pub determined_zero : (b n : ℕ) (rows : List (List Bool)) (row : List Bool) (us : List (List ℕ)) → AreRows n rows → length row ≡ n → IsDetermined n rows row
    → AllByRecursion (λ r. byte_sum b r us ≡ 0) rows → byte_sum b row us ≡ 0
determined_zero b n rows row us w l d a = determined_agree b n rows row us [] w l d (none_zero b rows us a) ∙ byte_none b row

-- ---- rows with zeros behind

pub byte_padded : (b m : ℕ) (row : List Bool) (us : List (List ℕ)) → byte_sum b (row ++ zeros m) us ≡ byte_sum b row us
unfolding byte_sum
byte_padded b m [] us = byte_zeros b m us
byte_padded b m (c ∷ row) [] = refl
byte_padded b m (true ∷ row) (u ∷ us) = ap (bit_xor (slice_index u b)) (byte_padded b m row us)
byte_padded b m (false ∷ row) (u ∷ us) = byte_padded b m row us

pub value_padded : (m n : ℕ) (row values : List Bool) → length row ≡ n → value_over (row ++ zeros m) values ≡ value_over row (take n values)
unfolding value_over
value_padded m n [] values e = value_zeros m values
value_padded m zero (c ∷ row) values e = absurd (omega arith)
value_padded m (suc n) (c ∷ row) [] e = refl
value_padded m (suc n) (c ∷ row) (v ∷ values) e =
    let e2 : length row ≡ n = omega arith in ap (plus (c && v)) (value_padded m n row values e2)

pub xor_equal : (a b : ℕ) → bit_xor a b ≡ 0 → a ≡ b
xor_equal a b e = sym (xor_zero_r a) ∙ ap (bit_xor a) (sym (xor_self b)) ∙ sym (xor_assoc a b b) ∙ ap (λ (x : ℕ). bit_xor x b) e ∙ xor_comm 0 b ∙ xor_zero_r b

-- ---- symbols at the places of a row

pub byte_same : (b : ℕ) (row : List Bool) (us vs : List (List ℕ)) → length row ≤ length us → length row ≤ length vs
    → ((i : ℕ) → i < length row → slice_index (slice_index_or us i []) b ≡ slice_index (slice_index_or vs i []) b) → byte_sum b row us ≡ byte_sum b row vs
unfolding byte_sum
byte_same b [] us vs p q f = refl
byte_same b (c ∷ row) [] vs p q f = absurd (omega arith)
byte_same b (c ∷ row) (u ∷ us) [] p q f = absurd (omega arith)
byte_same b (true ∷ row) (u ∷ us) (v ∷ vs) p q f =
    ap₂ bit_xor (f 0 (omega arith)) (byte_same b row us vs (omega arith) (omega arith) (λ i r. f (suc i) (omega arith)))
byte_same b (false ∷ row) (u ∷ us) (v ∷ vs) p q f = byte_same b row us vs (omega arith) (omega arith) (λ i r. f (suc i) (omega arith))

-- a byte where it is chosen
abbrev pub chosen : Bool → ℕ → ℕ
chosen true x = x
chosen false x = 0

-- a row of one place more
pub byte_snoc : (b : ℕ) (row : List Bool) (c : Bool) (us : List (List ℕ)) → length row < length us
    → byte_sum b (row ++ c ∷ []) us ≡ bit_xor (byte_sum b row us) (chosen c (slice_index (slice_index_or us (length row) []) b))
unfolding byte_sum
byte_snoc b [] c [] p = absurd (omega arith)
byte_snoc b [] true (u ∷ us) p = xor_comm (slice_index u b) 0
byte_snoc b [] false (u ∷ us) p = sym (xor_zero_r 0)
byte_snoc b (d ∷ row) c [] p = absurd (omega arith)
byte_snoc b (true ∷ row) c (u ∷ us) p =
    ap (bit_xor (slice_index u b)) (byte_snoc b row c us (omega arith))
    ∙ sym (xor_assoc (slice_index u b) (byte_sum b row us) (chosen c (slice_index (slice_index_or us (length row) []) b)))
byte_snoc b (false ∷ row) c (u ∷ us) p = byte_snoc b row c us (omega arith)

-- one symbol more
pub byte_more : (b : ℕ) (row : List Bool) (us : List (List ℕ)) (u : List ℕ)
    → byte_sum b row (us ++ u ∷ []) ≡ bit_xor (byte_sum b row us) (chosen (slice_index_or row (length us) false) (slice_index u b))
unfolding byte_sum
byte_more b [] [] u = sym (xor_zero_r 0)
byte_more b [] (v ∷ us) u = sym (xor_zero_r 0)
byte_more b (true ∷ row) [] u = ap (bit_xor (slice_index u b)) (byte_none b row) ∙ xor_comm (slice_index u b) 0
byte_more b (false ∷ row) [] u = byte_none b row ∙ sym (xor_zero_r 0)
byte_more b (true ∷ row) (v ∷ us) u =
    ap (bit_xor (slice_index v b)) (byte_more b row us u)
    ∙ sym (xor_assoc (slice_index v b) (byte_sum b row us) (chosen (slice_index_or row (length us) false) (slice_index u b)))
byte_more b (false ∷ row) (v ∷ us) u = byte_more b row us u

-- places behind the last symbol add nothing
pub byte_past : (b : ℕ) (row behind : List Bool) (us : List (List ℕ)) → length us ≤ length row → byte_sum b (row ++ behind) us ≡ byte_sum b row us
unfolding byte_sum
byte_past b [] behind [] p = byte_none b behind
byte_past b [] behind (u ∷ us) p = absurd (omega arith)
byte_past b (c ∷ row) behind [] p = refl
byte_past b (true ∷ row) behind (u ∷ us) p = ap (bit_xor (slice_index u b)) (byte_past b row behind us (omega arith))
byte_past b (false ∷ row) behind (u ∷ us) p = byte_past b row behind us (omega arith)
