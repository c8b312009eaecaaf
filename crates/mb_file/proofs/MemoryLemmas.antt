-- The bytes that the blocks of a file take.
use Rattle.std.proofs.Common.{◌≡◌, ℕ, ◌+◌, ◌-◌, ◌*◌, ◌^◌, ◌<◌, ◌≤◌, Bool, true, cond, List, [], ◌∷◌, length, map, sum, sum_by, Option, Some, None, refl, sym, ◌∙◌, ap, ap₂, subst, arith}
use Rattle.std.specs.List.{AllByRecursion}
use Rattle.std.proofs.lemmas.Bool.{cond_both}
use Rattle.std.proofs.lemmas.List.Sums.{sum_by-cons}
use Rattle.std.proofs.lemmas.Nat.{mul-le, div-add-mod'}
use Rattle.mb_geom.specs.Partition.{ceiling}
use Rattle.mb_geom.specs.Description.{Description, IsGood, block_sizes, symbols, plain, equations_of}
use Rattle.mb_geom.specs.declared.desc.Scheme.{Scheme}
use Rattle.mb_geom.specs.declared.desc.Scheme.TheVariants as scheme
use Rattle.mb_geom.proofs.SymbolLemmas.{sum-cons}
use Rattle.mb_geom.proofs.LayoutLemmas.{sum-block_sizes}
use Rattle.mb_encoder.specs.Solutions.{Pair}
use Rattle.mb_way.specs.Way.{Way, Way.NoCode, Way.Raptor, size_of, IsWay}
use Rattle.mb_way.specs.Ways.{IsOfScheme, AreWaysOf}
use Rattle.mb_block.specs.Block.{Block, buffer_of}
use Rattle.mb_block.specs.Blocks.{buffers_of}
use Rattle.mb_file.specs.File as file
use Rattle.mb_file.specs.File.{is_unheard}
use Rattle.mb_file.specs.Memory.{block_bytes, blocks_bytes, bits_of, held}
use Rattle.mb_file.specs.FileView.{kept_of, kept_seen, IsPlace, ArePlaces, IsRaptor, AreBlocks, place_bytes, bytes_seen, AreFew}
use Rattle.mb_file.specs.declared.blocks.Blocks.{Blocks}
use Rattle.mb_file.specs.declared.blocks.Blocks.TheVariants.{Nothing, NoCode, Raptor}
use Rattle.mb_file.proofs.FileLemmas.{count-places, count-ways}

pub few-blocks : (d : Description) (ways : List Way) (t : ℕ) (blocks : Blocks) → IsGood d → AreWaysOf d ways → AreBlocks ways t blocks → AreFew blocks
few-blocks d ways t Nothing good of are = tt
few-blocks d ways t (NoCode b) good of are = tt
few-blocks d ways t (Raptor v) good of are = omega (arith, count-places ways t v.items are.each, count-ways d ways of, good.blocks)

-- ---- at most

more-words : (a b : ℕ) → ceiling (a + b) 64 ≤ ceiling a 64 + ceiling b 64
more-words a b = omega arith

words-by : (b : ℕ) (sizes : List ℕ) → 8 * ceiling (sum sizes) 64 ≤ sum_by (equations_of (scheme.NoCode b)) sizes
words-by b [] = omega arith
words-by b (k ∷ sizes) =
    omega (arith, words-by b sizes, more-words k (sum sizes), ap (λ (n : ℕ). ceiling n 64) (sum-cons k sizes), sum_by-cons (equations_of (scheme.NoCode b)) k sizes)

words-most : (s : Scheme) (sizes : List ℕ) → AllByRecursion (IsOfScheme s) (map Way.NoCode sizes) → 8 * ceiling (sum sizes) 64 ≤ sum_by (equations_of s) sizes
words-most (scheme.NoCode b) sizes of = words-by b sizes
words-most (scheme.Raptor z n al) [] of = omega arith
words-most (scheme.Raptor z n al) (k ∷ sizes) of = absurd of.0

sizes-back : (sizes : List ℕ) → map size_of (map Way.NoCode sizes) ≡ sizes
sizes-back [] = refl
sizes-back (k ∷ sizes) = ap (λ (ns : List ℕ). k ∷ ns) (sizes-back sizes)

place-most : (s : Scheme) (w : Way) (t : ℕ) (place : Option Block) → IsOfScheme s w → IsRaptor w → IsPlace w t place → place_bytes place ≤ size_of w * t + equations_of s (size_of w)
place-most s (Way.NoCode k) t place of raptor is = absurd raptor
place-most (scheme.NoCode b) (Way.Raptor c) t place of raptor is = absurd of
place-most (scheme.Raptor z n al) (Way.Raptor c) t None of raptor is = omega arith
place-most (scheme.Raptor z n al) (Way.Raptor c) t (Some b) of raptor is =
    let same : buffer_of b.way b.symbol ≡ buffer_of (Way.Raptor c) t = ap₂ buffer_of is.way is.symbol in omega arith

places-most : (s : Scheme) (ways : List Way) (t : ℕ) (places : List (Option Block)) → AllByRecursion (IsOfScheme s) ways → AllByRecursion IsRaptor ways → ArePlaces ways t places
    → sum_by place_bytes places ≤ sum (map size_of ways) * t + sum_by (equations_of s) (map size_of ways)
unfolding ArePlaces
places-most s [] t [] of raptor are = omega arith
places-most s [] t (place ∷ places) of raptor are = absurd are
places-most s (w ∷ ways) t [] of raptor are = absurd are
places-most s (w ∷ ways) t (place ∷ places) of raptor are =
    let own = place-most s w t place of.0 raptor.0 are.0 in
    let others = places-most s ways t places of.1 raptor.1 are.1 in
    let one = sum_by-cons place_bytes place places in
    let sizes = sum-cons (size_of w) (map size_of ways) in
    let equations = sum_by-cons (equations_of s) (size_of w) (map size_of ways) in
    let times : sum (map size_of (w ∷ ways)) * t ≡ size_of w * t + sum (map size_of ways) * t = rw sizes (omega arith) in omega arith

pub bytes-most : (d : Description) (ways : List Way) (t : ℕ) (blocks : Blocks) → IsGood d → AreWaysOf d ways → t ≡ d.symbol → AreBlocks ways t blocks
    → bytes_seen blocks ≤ plain d + sum_by (equations_of d.scheme) (block_sizes d)
bytes-most d ways t Nothing good of t_is are = omega arith
bytes-most d ways t (NoCode b) good of t_is are =
    let sizes : b.sizes ≡ block_sizes d = sym (sizes-back b.sizes) ∙ ap (map size_of) are.sizes ∙ of.sizes in
    let words = words-most d.scheme b.sizes (subst (AllByRecursion (IsOfScheme d.scheme)) (sym are.sizes) of.scheme) in
    let all : sum b.sizes ≡ symbols d = ap (λ (ns : List ℕ). sum ns) sizes ∙ sum-block_sizes d good in
    let symbol : b.symbol ≡ d.symbol = are.symbol ∙ t_is in
    let plain_is : sum b.sizes * b.symbol ≡ plain d = ap₂ (λ (m n : ℕ). m * n) all symbol in
    let equations_are : sum_by (equations_of d.scheme) b.sizes ≡ sum_by (equations_of d.scheme) (block_sizes d) = ap (sum_by (equations_of d.scheme)) sizes in omega arith
bytes-most d ways t (Raptor v) good of t_is are =
    let most = places-most d.scheme ways t v.items of.scheme are.raptor are.each in
    let all : sum (map size_of ways) ≡ symbols d = ap (λ (ns : List ℕ). sum ns) of.sizes ∙ sum-block_sizes d good in
    let plain_is : sum (map size_of ways) * t ≡ plain d = ap₂ (λ (m n : ℕ). m * n) all t_is in
    let equations_are : sum_by (equations_of d.scheme) (map size_of ways) ≡ sum_by (equations_of d.scheme) (block_sizes d) = ap (sum_by (equations_of d.scheme)) of.sizes in omega arith

way-most : (w : Way) → IsWay w → size_of w ≤ 65536
way-most (Way.NoCode k) is = is.1
way-most (Way.Raptor c) is = let most = is.row.k.most in omega arith

equations-most : (s : Scheme) (k : ℕ) → k ≤ 65536 → equations_of s k ≤ 2 ^ 31
equations-most (scheme.NoCode b) k most = omega arith
equations-most (scheme.Raptor z n al) k most =
    let words : ceiling k 64 ≤ 1024 = omega arith in
    let times = mul-le (16 * k) (ceiling k 64) (16 * 65536) 1024 (omega arith) words in omega arith

equations-few : (s : Scheme) (ways : List Way) → AllByRecursion IsWay ways → sum_by (equations_of s) (map size_of ways) ≤ length ways * 2 ^ 31
equations-few s [] each = omega arith
equations-few s (w ∷ ways) each =
    let one = sum_by-cons (equations_of s) (size_of w) (map size_of ways) in
    let own = equations-most s (size_of w) (way-most w each.0) in
    let others = equations-few s ways each.1 in omega arith

plain-below : (m n : ℕ) → 0 < n → ceiling m n * n < m + n
plain-below m n some = omega (arith, div-add-mod' (m + n - 1) n, some)

pub bytes-small : (d : Description) (ways : List Way) (t : ℕ) (blocks : Blocks) → IsGood d → AreWaysOf d ways → t ≡ d.symbol → AreBlocks ways t blocks → bytes_seen blocks ≤ 2 ^ 49
bytes-small d ways t blocks good of t_is are =
    let most = bytes-most d ways t blocks good of t_is are in
    let few = equations-few d.scheme ways of.each in
    let sizes : sum_by (equations_of d.scheme) (map size_of ways) ≡ sum_by (equations_of d.scheme) (block_sizes d) = ap (sum_by (equations_of d.scheme)) of.sizes in
    omega (arith, most, few, sizes, count-ways d ways of, good.blocks, plain-below d.length d.symbol good.symbol, good.length, good.symbol_fits)

-- ---- at least

unheard-nothing : (ways : List Way) → is_unheard (file.nothing_kept ways) ≡ true
unheard-nothing [] = refl
unheard-nothing (w ∷ ways) = unheard-nothing ways

whole-least : (t : ℕ) (sizes : List ℕ) (kept : List (List Pair)) → blocks_bytes t (map Way.NoCode sizes) kept ≤ sum sizes * t
unfolding blocks_bytes
whole-least t [] kept = omega arith
whole-least t (k ∷ sizes) [] = omega arith
whole-least t (k ∷ sizes) (pairs ∷ kept) =
    let others = whole-least t sizes kept in
    let times : sum (k ∷ sizes) * t ≡ k * t + sum sizes * t = rw (sum-cons k sizes) (omega arith) in omega arith

bits-whole : (sizes : List ℕ) → sum_by bits_of (map Way.NoCode sizes) ≡ sum sizes
bits-whole [] = refl
bits-whole (k ∷ sizes) = omega (arith, sum_by-cons bits_of (Way.NoCode k) (map Way.NoCode sizes), bits-whole sizes, sum-cons k sizes)

bits-apart : (ways : List Way) → AllByRecursion IsRaptor ways → sum_by bits_of ways ≡ 0
bits-apart [] raptor = refl
bits-apart (Way.NoCode k ∷ ways) raptor = absurd raptor.0
bits-apart (Way.Raptor c ∷ ways) raptor = omega (arith, sum_by-cons bits_of (Way.Raptor c) ways, bits-apart ways raptor.1)

kept-bytes : (w : Way) (t : ℕ) (kept : List Pair) → IsRaptor w → block_bytes t w kept ≤ buffer_of w t
kept-bytes (Way.NoCode k) t kept raptor = absurd raptor
kept-bytes (Way.Raptor c) t [] raptor = omega arith
kept-bytes (Way.Raptor c) t (pair ∷ kept) raptor = omega arith

none-bytes : (w : Way) (t : ℕ) → IsRaptor w → block_bytes t w [] ≡ 0
none-bytes (Way.NoCode k) t raptor = absurd raptor
none-bytes (Way.Raptor c) t raptor = refl

place-least : (w : Way) (t : ℕ) (place : Option Block) → IsRaptor w → IsPlace w t place → block_bytes t w (kept_of place) ≤ place_bytes place
place-least w t None raptor is = let none = none-bytes w t raptor in omega arith
place-least w t (Some b) raptor is =
    let same : buffer_of b.way b.symbol ≡ buffer_of w t = ap₂ buffer_of is.way is.symbol in
    let own = kept-bytes w t b.kept raptor in omega arith

places-least : (ways : List Way) (t : ℕ) (places : List (Option Block)) → AllByRecursion IsRaptor ways → ArePlaces ways t places
    → blocks_bytes t ways (map kept_of places) ≤ sum_by place_bytes places
unfolding blocks_bytes ArePlaces
places-least [] t [] raptor are = omega arith
places-least [] t (place ∷ places) raptor are = absurd are
places-least (w ∷ ways) t [] raptor are = absurd are
places-least (w ∷ ways) t (place ∷ places) raptor are =
    let own = place-least w t place raptor.0 are.0 in
    let others = places-least ways t places raptor.1 are.1 in
    let one = sum_by-cons place_bytes place places in omega arith

bytes-least : (ways : List Way) (t : ℕ) (blocks : Blocks) → AreBlocks ways t blocks
    → cond (is_unheard (kept_seen ways blocks)) 0 (blocks_bytes t ways (kept_seen ways blocks) + 8 * ceiling (sum_by bits_of ways) 64) ≤ bytes_seen blocks
bytes-least ways t Nothing are =
    let none : cond (is_unheard (file.nothing_kept ways)) 0 (blocks_bytes t ways (file.nothing_kept ways) + 8 * ceiling (sum_by bits_of ways) 64) ≡ 0 =
    ap (λ (b : Bool). cond {A = ℕ} b 0 (blocks_bytes t ways (file.nothing_kept ways) + 8 * ceiling (sum_by bits_of ways) 64)) (unheard-nothing ways) in omega arith
bytes-least ways t (NoCode b) are =
    let least = whole-least t b.sizes b.kept in
    let bytes : blocks_bytes t ways b.kept ≡ blocks_bytes t (map Way.NoCode b.sizes) b.kept = ap (λ (ws : List Way). blocks_bytes t ws b.kept) (sym are.sizes) in
    let bits : sum_by bits_of ways ≡ sum b.sizes = ap (sum_by bits_of) (sym are.sizes) ∙ bits-whole b.sizes in
    let words : ceiling (sum_by bits_of ways) 64 ≡ ceiling (sum b.sizes) 64 = ap (λ (n : ℕ). ceiling n 64) bits in
    let symbol : sum b.sizes * b.symbol ≡ sum b.sizes * t = ap (λ (n : ℕ). sum b.sizes * n) are.symbol in
    cond_both (is_unheard b.kept) 0 (blocks_bytes t ways b.kept + 8 * ceiling (sum_by bits_of ways) 64) (λ (m : ℕ). m ≤ buffers_of b.sizes b.symbol) (λ e. omega arith) (λ e. omega arith)
bytes-least ways t (Raptor v) are =
    let least = places-least ways t v.items are.raptor are.each in
    let words : ceiling (sum_by bits_of ways) 64 ≡ 0 = ap (λ (n : ℕ). ceiling n 64) (bits-apart ways are.raptor) in
    cond_both (is_unheard (map kept_of v.items)) 0 (blocks_bytes t ways (map kept_of v.items) + 8 * ceiling (sum_by bits_of ways) 64) (λ (m : ℕ). m ≤ sum_by place_bytes v.items) (λ e. omega arith) (λ e. omega arith)

pub held-least : (f : file.File) (ways : List Way) (t : ℕ) (blocks : Blocks) → AreBlocks ways t blocks
    → (let g : file.File = record { ways = ways; symbol = t; kept = kept_seen ways blocks } in g) ≡ f → held f ≤ bytes_seen blocks
held-least f ways t blocks are view = subst (λ (g : file.File). held g ≤ bytes_seen blocks) view (bytes-least ways t blocks are)
