-- Where the bytes of symbols stand in what is joined of them.
use Rattle.std.proofs.Common.{◌≡◌, ℕ, zero, suc, ◌+◌, ◌*◌, ◌-◌, ◌<◌, inl, inr, List, [], ◌∷◌, ◌++◌, length, get_or, take, drop, map, sum, refl, sym, ◌∙◌, ap, subst, arith}
use Rattle.std.specs.List.{concat, AllByRecursion}
use Rattle.std.proofs.lemmas.Bool.{cases_lt}
use Rattle.std.proofs.lemmas.Nat.{mul-le}
use Rattle.std.proofs.lemmas.List.{length-append, length-map, length-take, length-drop, get_or_append_left, get_or-append-add, get_or-take, get_or-drop, get_or-map, take_all}
use Rattle.mb_geom.specs.Description.{Description, IsGood, block_sizes, block_size, block_count}
use Rattle.mb_geom.specs.SourceSymbol.{place_in_block, sub_sizes, place_of_byte, joined_block, joined_file, AreBlocks, TheFileHasItsSymbols}
use Rattle.mb_geom.proofs.SymbolLemmas.{sum-cons, place-first, place-later, place-below}
use Rattle.mb_geom.proofs.LayoutLemmas.{sum-sub_sizes, layout-of}

-- rows of t bytes each
abbrev AreLong : ℕ → List (List ℕ) → Type 0
AreLong t rows = AllByRecursion (λ row. length row ≡ t) rows

length-rows : (t : ℕ) (rows : List (List ℕ)) → AreLong t rows → length (concat rows) ≡ length rows * t
length-rows t [] long = omega arith
length-rows t (row ∷ rows) long = length-append row (concat rows) ∙ omega (arith, long.0, length-rows t rows long.1)

row-at : (t : ℕ) (rows : List (List ℕ)) (i j : ℕ) → AreLong t rows → i < length rows → j < t → get_or (concat rows) (i * t + j) 0 ≡ get_or (get_or rows i []) j 0
row-at t [] i j long within lt = absurd (omega arith)
row-at t (row ∷ rows) zero j long within lt =
    let place_is : 0 * t + j ≡ j = omega arith in
    ap (λ p. get_or (row ++ concat rows) p 0) place_is ∙ get_or_append_left row (concat rows) 0 j (omega (arith, long.0))
row-at t (row ∷ rows) (suc i) j long within lt =
    let place_is : suc i * t + j ≡ length row + (i * t + j) = omega (arith, long.0) in
    ap (λ p. get_or (row ++ concat rows) p 0) place_is
    ∙ get_or-append-add row (concat rows) (i * t + j) 0
    ∙ row-at t rows i j long.1 (omega arith) lt

-- ---- the sub-symbols of symbols, and what is left of these

fronts-long : (size rest : ℕ) (rows : List (List ℕ)) → AreLong (size + rest) rows → AreLong size (map (take size) rows)
fronts-long size rest [] long = tt
fronts-long size rest (row ∷ rows) long = (simp length-take (omega (arith, long.0)), fronts-long size rest rows long.1)

backs-long : (size rest : ℕ) (rows : List (List ℕ)) → AreLong (size + rest) rows → AreLong rest (map (drop size) rows)
backs-long size rest [] long = tt
backs-long size rest (row ∷ rows) long = (simp length-drop (omega (arith, long.0)), backs-long size rest rows long.1)

length-joined : (sizes : List ℕ) (symbols : List (List ℕ)) → AreLong (sum sizes) symbols → length (joined_block sizes symbols) ≡ length symbols * sum sizes
unfolding joined_block
length-joined [] symbols long = omega arith
length-joined (size ∷ others) symbols long =
    let parts_long : AreLong (size + sum others) symbols = subst (λ (t : ℕ). AreLong t symbols) (sum-cons size others) long in
    let first : length (concat (map (take size) symbols)) ≡ length symbols * size =
    length-rows size (map (take size) symbols) (fronts-long size (sum others) symbols parts_long) ∙ ap (λ n. n * size) (length-map symbols (take size)) in
    let second : length (joined_block others (map (drop size) symbols)) ≡ length symbols * sum others =
    length-joined others (map (drop size) symbols) (backs-long size (sum others) symbols parts_long) ∙ ap (λ n. n * sum others) (length-map symbols (drop size)) in
    length-append (concat (map (take size) symbols)) (joined_block others (map (drop size) symbols)) ∙ rw (first, second, sum-cons size others) (omega arith)

-- byte j of symbol i
joined-at : (sizes : List ℕ) (symbols : List (List ℕ)) (k i j : ℕ) → AreLong (sum sizes) symbols → length symbols ≡ k → i < k → j < sum sizes →
    get_or (joined_block sizes symbols) (place_in_block sizes k i j) 0 ≡ get_or (get_or symbols i []) j 0
unfolding joined_block
joined-at [] symbols k i j long count within lt = absurd (omega arith)
joined-at (size ∷ others) symbols k i j long count within lt =
    let whole : sum (size ∷ others) ≡ size + sum others = sum-cons size others in
    let parts_long : AreLong (size + sum others) symbols = subst (λ (t : ℕ). AreLong t symbols) whole long in
    let fronts : List (List ℕ) = map (take size) symbols in
    let backs : List (List ℕ) = map (drop size) symbols in
    let are_fronts : AreLong size fronts = fronts-long size (sum others) symbols parts_long in
    let fronts_count : length fronts ≡ k = length-map symbols (take size) ∙ count in
    let first : length (concat fronts) ≡ k * size = length-rows size fronts are_fronts ∙ ap (λ n. n * size) fronts_count in
    elim (cases_lt j size) [
      | inl earlier ↦
          (let inside : i * size + j < k * size = omega (arith, mul-le (i + 1) size k size (omega arith) (omega arith)) in
          ap (λ p. get_or (concat fronts ++ joined_block others backs) p 0) (place-first size k i j others earlier)
          ∙ get_or_append_left (concat fronts) (joined_block others backs) 0 (i * size + j) (omega arith)
          ∙ row-at size fronts i j are_fronts (omega arith) earlier
          ∙ ap (λ row. get_or row j 0) (get_or-map (take size) symbols i [] [] (omega arith))
          ∙ get_or-take size (get_or symbols i []) j 0 earlier)
      | inr later ↦
          (let byte_is : j ≡ size + (j - size) = omega arith in
          let place_is : place_in_block (size ∷ others) k i j ≡ length (concat fronts) + place_in_block others k i (j - size) =
          ap (place_in_block (size ∷ others) k i) byte_is ∙ place-later size k i (j - size) others ∙ ap (λ n. n + place_in_block others k i (j - size)) (sym first) in
          ap (λ p. get_or (concat fronts ++ joined_block others backs) p 0) place_is
          ∙ get_or-append-add (concat fronts) (joined_block others backs) (place_in_block others k i (j - size)) 0
          ∙ joined-at others backs k i (j - size) (backs-long size (sum others) symbols parts_long) (length-map symbols (drop size) ∙ count) within (omega (arith, whole))
          ∙ ap (λ row. get_or row (j - size) 0) (get_or-map (drop size) symbols i [] [] (omega arith))
          ∙ get_or-drop size (get_or symbols i []) (j - size) 0
          ∙ ap (λ p. get_or (get_or symbols i []) p 0) (sym byte_is))
    ]

-- ---- the blocks of a file

-- pieces whose lengths are given follow each other
pieces-at : (t : ℕ) (pieces : List (List ℕ)) (counts : List ℕ) (n r : ℕ) → length pieces ≡ length counts →
    ((m : ℕ) → m < length counts → length (get_or pieces m []) ≡ get_or counts m 0 * t) →
    n < length counts → r < get_or counts n 0 * t → get_or (concat pieces) (sum (take n counts) * t + r) 0 ≡ get_or (get_or pieces n []) r 0
pieces-at t [] [] n r count long within lt = absurd (omega arith)
pieces-at t [] (x ∷ counts) n r count long within lt = absurd (omega arith)
pieces-at t (piece ∷ pieces) [] n r count long within lt = absurd (omega arith)
pieces-at t (piece ∷ pieces) (x ∷ counts) zero r count long within lt =
    let place_is : 0 * t + r ≡ r = omega arith in
    ap (λ p. get_or (piece ++ concat pieces) p 0) place_is
    ∙ get_or_append_left piece (concat pieces) 0 r (omega (arith, long 0 (omega arith)))
pieces-at t (piece ∷ pieces) (x ∷ counts) (suc n) r count long within lt =
    let place_is : sum (x ∷ take n counts) * t + r ≡ length piece + (sum (take n counts) * t + r) =
    rw (sum-cons x (take n counts)) (omega (arith, long 0 (omega arith))) in
    ap (λ p. get_or (piece ++ concat pieces) p 0) place_is
    ∙ get_or-append-add piece (concat pieces) (sum (take n counts) * t + r) 0
    ∙ pieces-at t pieces counts n r (omega arith) (λ m below. long (suc m) (omega arith)) (omega arith) lt

place-within : (sizes : List ℕ) (k i j : ℕ) → i < k → j < sum sizes → place_in_block sizes k i j < k * sum sizes
place-within sizes k i j within lt =
    let all : take (length sizes) sizes ≡ sizes = take_all (length sizes) sizes (omega arith) in
    rw all at (place-below sizes (length sizes) k i j within (rw all lt))

are-long : (d : Description) (blocks : List (List (List ℕ))) (m : ℕ) → sum (sub_sizes d) ≡ d.symbol → AreBlocks d blocks → m < block_count d →
    AreLong (sum (sub_sizes d)) (get_or blocks m [])
are-long d blocks m whole are below = subst (λ (t : ℕ). AreLong t (get_or blocks m [])) (sym whole) (are.each m below).each

piece-at : (d : Description) (blocks : List (List (List ℕ))) (m : ℕ) → AreBlocks d blocks → m < block_count d →
    get_or (map (joined_block (sub_sizes d)) blocks) m [] ≡ joined_block (sub_sizes d) (get_or blocks m [])
piece-at d blocks m are below = get_or-map (joined_block (sub_sizes d)) blocks m [] [] (omega (arith, are.number, below))

length-piece : (d : Description) (blocks : List (List (List ℕ))) (m : ℕ) → sum (sub_sizes d) ≡ d.symbol → AreBlocks d blocks → m < block_count d →
    length (get_or (map (joined_block (sub_sizes d)) blocks) m []) ≡ block_size d m * d.symbol
length-piece d blocks m whole are below =
    ap length (piece-at d blocks m are below)
    ∙ length-joined (sub_sizes d) (get_or blocks m []) (are-long d blocks m whole are below)
    ∙ rw ((are.each m below).number, whole) refl

joined_file-at : (d : Description) (blocks : List (List (List ℕ))) (sbn i j : ℕ) → sum (sub_sizes d) ≡ d.symbol → AreBlocks d blocks →
    sbn < block_count d → i < block_size d sbn → j < d.symbol → place_of_byte d sbn i j < d.length →
    get_or (joined_file d blocks) (place_of_byte d sbn i j) 0 ≡ get_or (get_or (get_or blocks sbn []) i []) j 0
unfolding joined_file
joined_file-at d blocks sbn i j whole are block symbol byte inside =
    let pieces : List (List ℕ) = map (joined_block (sub_sizes d)) blocks in
    let place : ℕ = place_in_block (sub_sizes d) (block_size d sbn) i j in
    let lower : place_in_block (sub_sizes d) (block_size d sbn) i j < block_size d sbn * d.symbol =
    rw whole at (place-within (sub_sizes d) (block_size d sbn) i j symbol (omega (arith, whole, byte))) in
    get_or-take d.length (concat pieces) (place_of_byte d sbn i j) 0 inside
    ∙ pieces-at d.symbol pieces (block_sizes d) sbn place (length-map blocks (joined_block (sub_sizes d)) ∙ are.number)
    (λ m below. length-piece d blocks m whole are below) block lower
    ∙ ap (λ piece. get_or piece place 0) (piece-at d blocks sbn are block)
    ∙ joined-at (sub_sizes d) (get_or blocks sbn []) (block_size d sbn) i j (are-long d blocks sbn whole are block) (are.each sbn block).number symbol (omega (arith, whole, byte))

length-pieces : (t : ℕ) (pieces : List (List ℕ)) (counts : List ℕ) → length pieces ≡ length counts →
    ((m : ℕ) → m < length counts → length (get_or pieces m []) ≡ get_or counts m 0 * t) → length (concat pieces) ≡ sum counts * t
length-pieces t [] [] count long = omega arith
length-pieces t [] (x ∷ counts) count long = absurd (omega arith)
length-pieces t (piece ∷ pieces) [] count long = absurd (omega arith)
length-pieces t (piece ∷ pieces) (x ∷ counts) count long =
    let first : length piece ≡ x * t = long 0 (omega arith) in
    let rest : length (concat pieces) ≡ sum counts * t = length-pieces t pieces counts (omega arith) (λ m below. long (suc m) (omega arith)) in
    length-append piece (concat pieces) ∙ rw (first, rest, sum-cons x counts) (omega arith)

-- what is joined has the file's length
pub length-joined_file : (d : Description) (blocks : List (List (List ℕ))) → IsGood d → AreBlocks d blocks → length (joined_file d blocks) ≡ d.length
unfolding joined_file
length-joined_file d blocks good are =
    let whole : length (concat (map (joined_block (sub_sizes d)) blocks)) ≡ sum (block_sizes d) * d.symbol =
    length-pieces d.symbol (map (joined_block (sub_sizes d)) blocks) (block_sizes d) (length-map blocks (joined_block (sub_sizes d)) ∙ are.number)
    (λ m below. length-piece d blocks m (sum-sub_sizes d good) are below) in
    length-take d.length (concat (map (joined_block (sub_sizes d)) blocks)) ∙ omega (arith, whole, (layout-of d good).enough)

-- the law of what is joined
pub has_its_symbols : TheFileHasItsSymbols
has_its_symbols d blocks good are sbn i j block symbol byte inside = joined_file-at d blocks sbn i j (sum-sub_sizes d good) are block symbol byte inside
