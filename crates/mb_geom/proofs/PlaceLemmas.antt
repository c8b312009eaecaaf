-- Each byte of a file is a byte of a source symbol. So a file is known by the bytes at the places of its symbols.
use Rattle.std.proofs.Common.{◌≡◌, ℕ, zero, suc, ◌+◌, ◌*◌, ◌-◌, ◌/◌, ◌%◌, ◌<◌, ◌≤◌, inl, inr, List, [], ◌∷◌, length, get_or, slice_index, take, sum, sym, ◌∙◌, ap, arith}
use Rattle.std.proofs.lemmas.Bool.{cases_lt}
use Rattle.std.proofs.lemmas.Nat.{mul-le, div-add-mod'}
use Rattle.std.proofs.Math.Nat.{mod-lt}
use Rattle.std.proofs.lemmas.List.{ext_get_or}
use Rattle.mb_geom.specs.Description.{Description, IsGood, block_sizes, block_size, block_count}
use Rattle.mb_geom.specs.SourceSymbol.{place_in_block, sub_sizes, place_of_byte, joined_file, AreBlocks}
use Rattle.mb_geom.proofs.SymbolLemmas.{sum-cons, place-first, place-later}
use Rattle.mb_geom.proofs.FileLemmas.{HasLayout}
use Rattle.mb_geom.proofs.LayoutLemmas.{layout-of}
use Rattle.mb_geom.proofs.JoinedLemmas.{has_its_symbols, length-joined_file}

-- the symbol and the byte in it that stand at place r of a block of k symbols
record IsInBlock (sizes : List ℕ) (k r : ℕ) : Type 0 where
  number : ℕ
  byte : ℕ
  symbol : number < k
  within : byte < sum sizes
  is : place_in_block sizes k number byte ≡ r

first_sub_block : (size k r : ℕ) (others : List ℕ) → r < k * size → IsInBlock (size ∷ others) k r
first_sub_block zero k r others inside = absurd (omega arith)
first_sub_block (suc n) k r others inside =
    let lt : r % suc n < suc n = mod-lt r (omega arith) in
    let split : r / suc n * suc n + r % suc n ≡ r = div-add-mod' r (suc n) in
    record {
      number = r / suc n;
      byte = r % suc n;
      symbol = elim (cases_lt (r / suc n) k) [
        | inl below ↦ below
        | inr behind ↦ absurd (omega (arith, mul-le k (suc n) (r / suc n) (suc n) behind (omega arith), split, inside))
      ];
      within = rw (sum-cons (suc n) others) (omega (arith, lt));
      is = place-first (suc n) k (r / suc n) (r % suc n) others lt ∙ split;
    }

later_sub_block : (size k r : ℕ) (others : List ℕ) → k * size ≤ r → IsInBlock others k (r - k * size) → IsInBlock (size ∷ others) k r
later_sub_block size k r others later rest =
    let whole : sum (size ∷ others) ≡ size + sum others = sum-cons size others in
    record {
      number = rest.number;
      byte = size + rest.byte;
      symbol = rest.symbol;
      within = omega (arith, whole, rest.within);
      is = place-later size k rest.number rest.byte others ∙ omega (arith, rest.is, later);
    }

in_block : (sizes : List ℕ) (k r : ℕ) → r < k * sum sizes → IsInBlock sizes k r
in_block [] k r inside = absurd (omega arith)
in_block (size ∷ others) k r inside =
    elim (cases_lt r (k * size)) [
      | inl earlier ↦ first_sub_block size k r others earlier
      | inr later ↦
          (let inner : r < k * (size + sum others) = rw sum-cons at inside in
          later_sub_block size k r others later (in_block others k (r - k * size) (omega (arith, inner))))
    ]

-- the block and the place in it of a place of the file
record IsInBlocks (t : ℕ) (counts : List ℕ) (p : ℕ) : Type 0 where
  number : ℕ
  rest : ℕ
  block : number < length counts
  within : rest < get_or counts number 0 * t
  is : sum (take number counts) * t + rest ≡ p

later_block : (t x p : ℕ) (counts : List ℕ) → x * t ≤ p → IsInBlocks t counts (p - x * t) → IsInBlocks t (x ∷ counts) p
later_block t x p counts later found = record {
  number = suc found.number;
  rest = found.rest;
  block = omega (arith, found.block);
  within = found.within;
  is = rw (sum-cons x (take found.number counts)) (omega (arith, found.is, later));
}

in_blocks : (t : ℕ) (counts : List ℕ) (p : ℕ) → p < sum counts * t → IsInBlocks t counts p
in_blocks t [] p inside = absurd (omega arith)
in_blocks t (x ∷ counts) p inside =
    elim (cases_lt p (x * t)) [
      | inl earlier ↦ record { number = 0; rest = p; block = omega arith; within = earlier; is = omega arith }
      | inr later ↦
          (let inner : p < (x + sum counts) * t = rw sum-cons at inside in
          later_block t x p counts later (in_blocks t counts (p - x * t) (omega (arith, inner))))
    ]

-- the block, the symbol and the byte that stand at a place of the file
pub record IsPlace (d : Description) (p : ℕ) : Type 0 where
  pub sbn : ℕ
  pub number : ℕ
  pub byte : ℕ
  pub block : sbn < block_count d
  pub symbol : number < block_size d sbn
  pub within : byte < d.symbol
  pub is : place_of_byte d sbn number byte ≡ p

place_from : (d : Description) (p : ℕ) (outer : IsInBlocks d.symbol (block_sizes d) p) → sum (sub_sizes d) ≡ d.symbol →
    IsInBlock (sub_sizes d) (block_size d outer.number) outer.rest → IsPlace d p
place_from d p outer whole inner = record {
  sbn = outer.number;
  number = inner.number;
  byte = inner.byte;
  block = outer.block;
  symbol = inner.symbol;
  within = rw whole at inner.within;
  is = omega (arith, inner.is, outer.is);
}

pub each_place : (d : Description) → IsGood d → (p : ℕ) → p < d.length → IsPlace d p
each_place d good p inside =
    let layout : HasLayout d = layout-of d good in
    let outer : IsInBlocks d.symbol (block_sizes d) p = in_blocks d.symbol (block_sizes d) p (omega (arith, layout.enough, inside)) in
    place_from d p outer layout.sub_symbols
    (in_block (sub_sizes d) (block_size d outer.number) outer.rest (rw layout.sub_symbols outer.within))

-- a file that has the symbols of each block at their places is what is joined of them
pub joined_file-from : (d : Description) (blocks : List (List (List ℕ))) (file : List ℕ) → IsGood d → AreBlocks d blocks → length file ≡ d.length →
    ((sbn i j : ℕ) → sbn < block_count d → i < block_size d sbn → j < d.symbol → place_of_byte d sbn i j < d.length →
    slice_index file (place_of_byte d sbn i j) ≡ get_or (get_or (get_or blocks sbn []) i []) j 0) →
    file ≡ joined_file d blocks
joined_file-from d blocks file good are long has =
    ext_get_or 0 file (joined_file d blocks) (long ∙ sym (length-joined_file d blocks good are))
    (λ p below.
    (let place : IsPlace d p = each_place d good p (omega (arith, long, below)) in
    let inside : place_of_byte d place.sbn place.number place.byte < d.length = rw place.is (omega (arith, long, below)) in
    ap (slice_index file) (sym place.is)
    ∙ has place.sbn place.number place.byte place.block place.symbol place.within inside
    ∙ sym (has_its_symbols d blocks good are place.sbn place.number place.byte place.block place.symbol place.within inside)
    ∙ ap (slice_index (joined_file d blocks)) place.is))
