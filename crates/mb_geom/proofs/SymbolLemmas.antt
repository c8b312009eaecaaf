-- Where the bytes of source symbols stand in a block, sub-block by sub-block.
use Rattle.std.proofs.Common.{◌≡◌, ℕ, zero, suc, ◌+◌, ◌-◌, ◌*◌, ◌<◌, ◌≤◌, inl, inr, List, [], ◌∷◌, ◌++◌, length, get_or, slice_index, take, drop, sum, refl, ◌∙◌, ap, arith, lt-ltb, le-ltb}
use Rattle.std.proofs.lemmas.Bool.{cases_lt}
use Rattle.std.proofs.lemmas.List.Sums.{sum_by-cons, sum_by_more, sum_by_more_le}
use Rattle.std.proofs.lemmas.List.{get_or_append_left, get_or-append_right, get_or-take, get_or-drop, length-take, length-take-le, length-drop}
use Rattle.std.proofs.lemmas.Nat.{mul-le}
use Rattle.std.proofs.lemmas.List.FromFn.{fill_by_all}
use Rattle.mb_geom.specs.Description.{Description, block_size}
use Rattle.mb_geom.specs.SourceSymbol.{place_in_block, sub_sizes, symbols_before, source_byte, source_symbol}
use Rattle.mb_geom.specs.Run.{IsSymbol, IsRun, IsRunPut, AreSubSymbolsPut, AreSymbolsPut}

pub place-first : (size k i j : ℕ) (others : List ℕ) → j < size → place_in_block (size ∷ others) k i j ≡ i * size + j
unfolding place_in_block
place-first size k i j others lt = rw (lt-ltb j size lt) refl

pub place-later : (size k i j : ℕ) (others : List ℕ) → place_in_block (size ∷ others) k i (size + j) ≡ k * size + place_in_block others k i j
unfolding place_in_block
place-later size k i j others =
    let le : size ≤ size + j = omega arith in
    let back : size + j - size ≡ j = omega arith in
    rw (le-ltb (size + j) size le, back) refl

pub sum-cons : (x : ℕ) (xs : List ℕ) → sum (x ∷ xs) ≡ x + sum xs
sum-cons x xs = sum_by-cons (λ (y : ℕ). y) x xs

-- byte r of sub-symbol s stands behind the sub-blocks before, and there behind those of the symbols before
pub place-at : (sizes : List ℕ) (s k i r : ℕ) → s < length sizes → r < get_or sizes s 0 →
    place_in_block sizes k i (sum (take s sizes) + r) ≡ k * sum (take s sizes) + (i * get_or sizes s 0 + r)
place-at [] s k i r within lt = absurd (omega arith)
place-at (size ∷ others) zero k i r within lt =
    let byte_is : 0 + r ≡ r = omega arith in
    rw (byte_is, place-first size k i r others lt) (omega arith)
place-at (size ∷ others) (suc s) k i r within lt =
    let m : ℕ = sum (take s others) in
    let sum_is : sum (size ∷ take s others) ≡ size + m = sum-cons size (take s others) in
    let byte_is : size + m + r ≡ size + (m + r) = omega arith in
    rw (sum_is, byte_is, place-later size k i (m + r) others, place-at others s k i r (omega arith) lt) (omega arith)

row_below : (i k size j : ℕ) → i < k → j < size → i * size + j < k * size
row_below i k size j lt below = omega (arith, mul-le (i + 1) size k size (omega arith) (omega arith))

-- the bytes of the first sub-symbols stand in the first sub-blocks
pub place-below : (sizes : List ℕ) (s k i j : ℕ) → i < k → j < sum (take s sizes) → place_in_block sizes k i j < k * sum (take s sizes)
place-below [] zero k i j number lt = absurd (omega arith)
place-below [] (suc s) k i j number lt = absurd (omega arith)
place-below (size ∷ others) zero k i j number lt = absurd (omega arith)
place-below (size ∷ others) (suc s) k i j number lt =
    let sum_is : sum (size ∷ take s others) ≡ size + sum (take s others) = sum-cons size (take s others) in
    elim (cases_lt j size) [
      | inl first ↦ rw (sum_is, place-first size k i j others first) (omega (arith, row_below i k size j number first))
      | inr later ↦
          (let j_is : j ≡ size + (j - size) = omega arith in
          let rest : place_in_block others k i (j - size) < k * sum (take s others) = place-below others s k i (j - size) number (omega arith) in
          let place_is : place_in_block (size ∷ others) k i j ≡ k * size + place_in_block others k i (j - size) =
          ap (place_in_block (size ∷ others) k i) j_is ∙ place-later size k i (j - size) others in
          rw (sum_is, place_is) (omega arith))
    ]

-- the part of so many bytes of a symbol among others that follow each other
part-within : (i k t from size len : ℕ) → i < k → from + size ≤ t → len ≡ k * t → i * t + from + size ≤ len
part-within i k t from size len lt part long = omega (arith, mul-le (i + 1) t k t (omega arith) (omega arith), part, long)

-- one more symbol's sub-symbol is put
pub sub_symbols-more : (at i k t from size n : ℕ) (symbols old mid new : List ℕ) → i < k → from + size ≤ t → length symbols ≡ k * t → n ≡ size →
    AreSubSymbolsPut at i t from size symbols old mid →
    IsRunPut (at + i * size) (take n (drop (i * t + from) symbols)) mid new →
    AreSubSymbolsPut at (i + 1) t from size symbols old new
sub_symbols-more at i k t from size n symbols old mid new lt part whole n_is before more =
    let within : i * t + from + size ≤ length symbols = part-within i k t from size (length symbols) lt part whole in
    let long : length (take n (drop (i * t + from) symbols)) ≡ size = simp (length-take, length-drop) (omega arith) in
    record {
      len = more.len ∙ before.len;
      put = λ i' r lt' below inside.
          elim (cases_lt i' i) [
            | inl earlier ↦ more.before (at + (i' * size + r)) (omega (arith, row_below i' i size r earlier below)) ∙ before.put i' r earlier below inside
            | inr later ↦
                (let this : i' ≡ i = omega arith in
                let place_is : at + (i' * size + r) ≡ at + i * size + r = rw this (omega arith) in
                let byte_is : slice_index (take n (drop (i * t + from) symbols)) r ≡ slice_index symbols (i * t + from + r) =
                get_or-take n (drop (i * t + from) symbols) r 0 (omega arith) ∙ get_or-drop (i * t + from) symbols r 0 in
                let put_is : slice_index new (at + i * size + r) ≡ slice_index (take n (drop (i * t + from) symbols)) r =
                more.put r (omega arith) (omega (arith, inside, place_is, before.len)) in
                rw (place_is, this) (put_is ∙ byte_is))
          ];
      before = λ p lt'. more.before p (omega arith) ∙ before.before p lt';
      behind = λ p le. more.behind p (omega arith) ∙ before.behind p (omega arith);
    }

-- the same of a byte that a loop comes to, which has passed the sub-symbols before
place-of-later : (sizes : List ℕ) (s k i j m size : ℕ) → s < length sizes → m ≡ sum (take s sizes) → size ≡ get_or sizes s 0 → m ≤ j → j < m + size →
    place_in_block sizes k i j ≡ k * m + (i * size + (j - m))
place-of-later sizes s k i j m size is_one m_is size_is later below =
    let byte_is : j ≡ sum (take s sizes) + (j - m) = omega arith in
    let at : place_in_block sizes k i (sum (take s sizes) + (j - m)) ≡ k * sum (take s sizes) + (i * get_or sizes s 0 + (j - m)) =
    place-at sizes s k i (j - m) is_one (omega arith) in
    ap (place_in_block sizes k i) byte_is ∙ at ∙ rw (← m_is, ← size_is) refl

-- the sub-symbols up to one take no more than the symbol
pub sum-within : (sizes : List ℕ) (s m size t : ℕ) → s < length sizes → m ≡ sum (take s sizes) → size ≡ get_or sizes s 0 → sum sizes ≡ t → m + size ≤ t
sum-within sizes s m size t is_one m_is size_is whole =
    omega (arith, sum_by_more_le (λ (y : ℕ). y) sizes s 0 is_one, m_is, size_is, whole)

pub sum-more : (sizes : List ℕ) (s m size : ℕ) → s < length sizes → m ≡ sum (take s sizes) → size ≡ get_or sizes s 0 → m + size ≡ sum (take (s + 1) sizes)
sum-more sizes s m size is_one m_is size_is =
    omega (arith, sum_by_more (λ (y : ℕ). y) sizes s 0 is_one, m_is, size_is)

-- the sub-symbols of a symbol are read by one more
pub symbol-more : (file run out rest : List ℕ) (start k i m size s : ℕ) (sizes : List ℕ) → s < length sizes → m ≡ sum (take s sizes) → size ≡ get_or sizes s 0 →
    length run ≡ size → m ≤ length out →
    ((j : ℕ) → j < m → slice_index out j ≡ slice_index file (start + place_in_block sizes k i j)) →
    IsRun file (start + k * m + i * size) run →
    (j : ℕ) → j < m + size → slice_index (take m out ++ (run ++ rest)) j ≡ slice_index file (start + place_in_block sizes k i j)
symbol-more file run out rest start k i m size s sizes is_one m_is size_is long room before more j below =
    let front : length (take m out) ≡ m = length-take-le m out room in
    elim (cases_lt j m) [
      | inl earlier ↦ get_or_append_left (take m out) (run ++ rest) 0 j (omega arith) ∙ get_or-take m out j 0 earlier ∙ before j earlier
      | inr later ↦
          (let place_is : place_in_block sizes k i j ≡ k * m + (i * size + (j - m)) = place-of-later sizes s k i j m size is_one m_is size_is later below in
          let all : start + k * m + i * size + (j - m) ≡ start + place_in_block sizes k i j = rw place_is (omega arith) in
          let of_rest : slice_index (take m out ++ (run ++ rest)) j ≡ slice_index (run ++ rest) (j - m) = get_or-append_right (take m out) (run ++ rest) m j 0 front later in
          let of_run : slice_index (run ++ rest) (j - m) ≡ slice_index run (j - m) = get_or_append_left run rest 0 (j - m) (omega arith) in
          of_rest ∙ of_run ∙ more.each (j - m) (omega arith) ∙ ap (slice_index file) all)
    ]

-- the symbols are put by one more of their sub-symbols
pub symbols-more : (start k t m size s : ℕ) (sizes symbols old mid new : List ℕ) → s < length sizes → m ≡ sum (take s sizes) → size ≡ get_or sizes s 0 →
    AreSymbolsPut start k t m sizes symbols old mid → AreSubSymbolsPut (start + k * m) k t m size symbols mid new →
    AreSymbolsPut start k t (m + size) sizes symbols old new
symbols-more start k t m size s sizes symbols old mid new is_one m_is size_is before more = record {
  len = more.len ∙ before.len;
  put = λ i j lt below within.
      elim (cases_lt j m) [
        | inl earlier ↦
            (let lower : place_in_block sizes k i j < k * m = rw m_is (place-below sizes s k i j lt (rw (← m_is) earlier)) in
            more.before (start + place_in_block sizes k i j) (omega arith) ∙ before.put i j lt earlier within)
        | inr later ↦
            (let place_is : place_in_block sizes k i j ≡ k * m + (i * size + (j - m)) = place-of-later sizes s k i j m size is_one m_is size_is later below in
            let all : start + place_in_block sizes k i j ≡ start + k * m + (i * size + (j - m)) = rw place_is (omega arith) in
            let byte_is : i * t + j ≡ i * t + m + (j - m) = omega arith in
            rw (all, byte_is) (more.put i (j - m) lt (omega arith) (omega (arith, all, within, before.len))))
      ];
  before = λ p lt. more.before p (omega arith) ∙ before.before p lt;
  behind = λ p le. more.behind p (omega arith) ∙ before.behind p (omega arith);
}

-- a symbol that is its only sub-symbol
pub symbols-whole : (start k t : ℕ) (sizes symbols old new : List ℕ) → length sizes ≡ 1 → sum sizes ≡ t → length symbols ≡ k * t →
    IsRunPut start symbols old new → AreSymbolsPut start k t t sizes symbols old new
symbols-whole start k t [] symbols old new one whole long put = absurd (omega arith)
symbols-whole start k t (size ∷ x ∷ xs) symbols old new one whole long put = absurd (omega arith)
symbols-whole start k t (size ∷ []) symbols old new one whole long put =
    let size_is : size ≡ t = omega arith in
    record {
      len = put.len;
      put = λ i j lt below within.
          (let place_is : place_in_block (size ∷ []) k i j ≡ i * t + j = place-first size k i j [] (omega arith) ∙ ap (λ n. i * n + j) size_is in
          rw place_is (put.put (i * t + j) (omega (arith, row_below i k t j lt below)) (omega (arith, place_is, within))));
      before = put.before;
      behind = λ p le. put.behind p (omega arith);
    }

-- what is read of a block that stands where the file has it
pub source_symbol-from : (d : Description) (file out : List ℕ) (sbn i start k n : ℕ) (sizes : List ℕ) → start ≡ symbols_before d sbn * d.symbol →
    k ≡ block_size d sbn → sizes ≡ sub_sizes d → n ≡ i → length out ≡ d.symbol → IsSymbol file start k sizes n out → out ≡ source_symbol d file sbn i
unfolding source_symbol
source_symbol-from d file out sbn i start k n sizes start_is k_is sizes_are n_is long read =
    fill_by_all (source_byte d file sbn i) out d.symbol 0 long
    (λ j below. read.each j (omega (arith, long, below)) ∙ rw (start_is, k_is, sizes_are, n_is) refl)
