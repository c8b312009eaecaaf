-- What is kept of the blocks of a file in memory, and how many symbols are missing.
use Rattle.std.proofs.Common.{◌≡◌, ℕ, zero, suc, ◌+◌, ◌-◌, ◌<◌, ◌≤◌, ◌==◌, ◌&&◌, inl, inr, eq-eqb, Bool, true, false, List, [], ◌∷◌, length, get_or, set, map, sum, replicate, Option, Some, None, Result, Ok, Err, OnOk, length-set, refl, sym, ◌∙◌, ap, ap₂, subst, arith}
use Rattle.std.specs.List.{AllByRecursion}
use Rattle.std.proofs.lemmas.Bool.{ne_eqb, cases_eq}
use Rattle.std.proofs.lemmas.List.{map-set, get_or-map, get_or-set_same, length-map}
use Rattle.std.proofs.Math.Seq.{map-set_same}
use Rattle.mb_geom.specs.Partition.{ceiling}
use Rattle.mb_geom.specs.Description.{Description, IsGood, block_sizes, block_count, symbols}
use Rattle.mb_geom.specs.declared.desc.Scheme.TheVariants as scheme
use Rattle.mb_geom.proofs.SymbolLemmas.{sum-cons}
use Rattle.mb_geom.proofs.LayoutLemmas.{sum-block_sizes}
use Rattle.mb_encoder.specs.Solutions.{Pair}
use Rattle.mb_way.specs.Way.{Way, Way.NoCode, Way.Raptor, size_of}
use Rattle.mb_way.specs.Ways.{IsOfScheme, AreWaysOf}
use Rattle.mb_way.specs.Heard.{hear_pairs, AreKept}
use Rattle.mb_way.proofs.Counting.{complete_count}
use Rattle.mb_way.proofs.Keeping.{nothing_kept}
use Rattle.mb_block.specs.Block.{Block, IsBlock}
use Rattle.mb_block.specs.Blocks as whole
use Rattle.mb_block.specs.Blocks.{AreEachBlocks}
use Rattle.mb_file.specs.File as file
use Rattle.mb_file.specs.File.{File, IsFileOf, way_at, kept_at, hear_in, pairs_from, payload_pairs, are_complete, missing_in}
use Rattle.mb_file.specs.FileView.{kept_of, kept_seen, AreInOne, IsOf, IsPlace, ArePlaces, IsRaptor, AreBlocks, StandAs, IsThere, HasWayOf, HasWay, AreHeard}
use Rattle.mb_file.specs.declared.blocks.Blocks.{Blocks}
use Rattle.mb_file.specs.declared.blocks.Blocks.TheVariants.{Nothing, NoCode, Raptor}

-- ---- how many symbols are missing

-- what holds of what is kept of each block
unfoldable pub AreEachKept : List Way → List (List Pair) → Type 0
AreEachKept [] [] = Unit {0}
AreEachKept [] (kept ∷ others) = ⊥
AreEachKept (w ∷ ways) [] = ⊥
AreEachKept (w ∷ ways) (kept ∷ others) = AreKept w kept × AreEachKept ways others

pub each-nothing : (ways : List Way) → AreEachKept ways (file.nothing_kept ways)
unfolding AreEachKept
each-nothing [] = tt
each-nothing (w ∷ ways) = (nothing_kept w, each-nothing ways)

each-whole : (t : ℕ) (sizes : List ℕ) (kept : List (List Pair)) → AreEachBlocks t sizes kept → AreEachKept (map Way.NoCode sizes) kept
unfolding AreEachBlocks AreEachKept
each-whole t [] [] are = tt
each-whole t [] (pairs ∷ kept) are = absurd are
each-whole t (k ∷ sizes) [] are = absurd are
each-whole t (k ∷ sizes) (pairs ∷ kept) are = (are.0.kept, each-whole t sizes kept are.1)

place-kept : (w : Way) (t : ℕ) (place : Option Block) → IsPlace w t place → AreKept w (kept_of place)
place-kept w t None is = nothing_kept w
place-kept w t (Some b) is = subst (λ v. AreKept v b.kept) is.way is.block.kept

each-place : (ways : List Way) (t : ℕ) (places : List (Option Block)) → ArePlaces ways t places → AreEachKept ways (map kept_of places)
unfolding ArePlaces AreEachKept
each-place [] t [] are = tt
each-place [] t (place ∷ places) are = absurd are
each-place (w ∷ ways) t [] are = absurd are
each-place (w ∷ ways) t (place ∷ places) are = (place-kept w t place are.0, each-place ways t places are.1)

pub each-kept : (ways : List Way) (t : ℕ) (blocks : Blocks) → AreBlocks ways t blocks → AreEachKept ways (kept_seen ways blocks)
each-kept ways t Nothing are = each-nothing ways
each-kept ways t (NoCode b) are = subst (λ (ws : List Way). AreEachKept ws b.kept) are.sizes (each-whole b.symbol b.sizes b.kept are.whole)
each-kept ways t (Raptor v) are = each-place ways t v.items are.each

pub each-length : (ways : List Way) (kept : List (List Pair)) → AreEachKept ways kept → length kept ≡ length ways
unfolding AreEachKept
each-length [] [] are = refl
each-length [] (pairs ∷ kept) are = absurd are
each-length (w ∷ ways) [] are = absurd are
each-length (w ∷ ways) (pairs ∷ kept) are = ap suc (each-length ways kept are.1)

pub each-at : (ways : List Way) (kept : List (List Pair)) (i : ℕ) → AreEachKept ways kept → i < length ways → AreKept (way_at ways i) (kept_at kept i)
unfolding AreEachKept
each-at [] kept i are within = absurd (omega arith)
each-at (w ∷ ways) [] i are within = absurd are
each-at (w ∷ ways) (pairs ∷ kept) zero are within = are.0
each-at (w ∷ ways) (pairs ∷ kept) (suc i) are within = each-at ways kept i are.1 (omega arith)

all_there : (l k rest : ℕ) (m : Bool) → l ≤ k → (rest == 0) ≡ m → ((k - l + rest) == 0) ≡ ((l == k) && m)
all_there l k rest m few is =
    elim (cases_eq l k) [
      | inl same ↦ let none : k - l + rest ≡ rest = omega (arith, same) in
          let whole : (l == k) ≡ true = eq-eqb l k same in
          rw (none, whole) is
      | inr other ↦ let some : ((k - l + rest) == 0) ≡ false = ne_eqb (k - l + rest) 0 (λ e. other (omega (arith, e, few))) in
          let other_is : (l == k) ≡ false = ne_eqb l k other in
          rw (some, other_is) refl
    ]

-- none is missing exactly where each block is complete
pub missing-zero : (ways : List Way) (kept : List (List Pair)) → AreEachKept ways kept → (missing_in ways kept == 0) ≡ are_complete ways kept
unfolding missing_in are_complete AreEachKept
missing-zero [] kept are = refl
missing-zero (w ∷ ways) [] are = absurd are
missing-zero (w ∷ ways) (pairs ∷ kept) are =
    all_there (length pairs) (size_of w) (missing_in ways kept) (are_complete ways kept) are.0.few (missing-zero ways kept are.1)
    ∙ ap (λ b. b && are_complete ways kept) (sym (complete_count w pairs are.0))

-- so many are missing less as are kept more of one block
missing-less : (ways : List Way) (kept : List (List Pair)) (i n : ℕ) (new : List Pair) → AreEachKept ways kept → i < length ways
    → length new ≤ size_of (way_at ways i) → n + length (kept_at kept i) ≡ length new → missing_in ways (set kept i new) + n ≡ missing_in ways kept
unfolding missing_in AreEachKept
missing-less [] kept i n new are within few more = absurd (omega arith)
missing-less (w ∷ ways) [] i n new are within few more = absurd are
missing-less (w ∷ ways) (pairs ∷ kept) zero n new are within few more = omega (arith, few, more)
missing-less (w ∷ ways) (pairs ∷ kept) (suc i) n new are within few more = omega (arith, missing-less ways kept i n new are.1 (omega arith) few more)

pub missing-nothing : (ways : List Way) → missing_in ways (file.nothing_kept ways) ≡ sum (map size_of ways)
unfolding missing_in
missing-nothing [] = refl
missing-nothing (w ∷ ways) = omega (arith, missing-nothing ways, sum-cons (size_of w) (map size_of ways))

pub missing-all : (d : Description) (ways : List Way) → IsGood d → AreWaysOf d ways → missing_in ways (file.nothing_kept ways) ≡ symbols d
missing-all d ways good are = missing-nothing ways ∙ ap (λ (ns : List ℕ). sum ns) are.sizes ∙ sum-block_sizes d good

-- a file without blocks misses none and is complete
pub no-blocks : are_complete [] [] ≡ true
unfolding are_complete
no-blocks = refl

pub no-missing : missing_in [] [] ≡ 0
unfolding missing_in
no-missing = refl

pub count-ways : (d : Description) (ways : List Way) → AreWaysOf d ways → length ways ≡ block_count d
count-ways d ways are = sym (length-map ways size_of) ∙ ap (λ (ns : List ℕ). length ns) are.sizes

-- ---- room

pub places-none : (ways : List Way) (t : ℕ) → ArePlaces ways t (replicate (length ways) None)
unfolding ArePlaces
places-none [] t = tt
places-none (w ∷ ways) t = (tt, places-none ways t)

pub kept-none : (ways : List Way) → map kept_of (replicate (length ways) None) ≡ file.nothing_kept ways
kept-none [] = refl
kept-none (w ∷ ways) = ap (λ (ks : List (List Pair)). [] ∷ ks) (kept-none ways)

raptor-all : (z n al : ℕ) (ways : List Way) → AllByRecursion (IsOfScheme (scheme.Raptor z n al)) ways → AllByRecursion IsRaptor ways
raptor-all z n al [] all = tt
raptor-all z n al (Way.NoCode k ∷ ways) all = absurd all.0
raptor-all z n al (Way.Raptor c ∷ ways) all = (tt, raptor-all z n al ways all.1)

-- the ways of a file under Raptor
pub raptor-ways : (d : Description) (ways : List Way) (z n al : ℕ) → AreWaysOf d ways → d.scheme ≡ scheme.Raptor z n al → AllByRecursion IsRaptor ways
raptor-ways d ways z n al are is = raptor-all z n al ways (subst (λ s. AllByRecursion (IsOfScheme s) ways) is are.scheme)

no_code-ways : (b : ℕ) (ways : List Way) → AllByRecursion (IsOfScheme (scheme.NoCode b)) ways → map Way.NoCode (map size_of ways) ≡ ways
no_code-ways b [] all = refl
no_code-ways b (Way.NoCode k ∷ ways) all = ap (λ (ws : List Way). Way.NoCode k ∷ ws) (no_code-ways b ways all.1)
no_code-ways b (Way.Raptor c ∷ ways) all = absurd all.0

pub ways-of_sizes : (d : Description) (ways : List Way) (b : ℕ) → AreWaysOf d ways → d.scheme ≡ scheme.NoCode b → map Way.NoCode (block_sizes d) ≡ ways
ways-of_sizes d ways b are is =
    ap (map Way.NoCode) (sym are.sizes) ∙ no_code-ways b ways (subst (λ s. AllByRecursion (IsOfScheme s) ways) is are.scheme)

nothing-by : (sizes : List ℕ) → whole.no_pairs sizes ≡ file.nothing_kept (map Way.NoCode sizes)
nothing-by [] = refl
nothing-by (k ∷ sizes) = ap (λ (ks : List (List Pair)). [] ∷ ks) (nothing-by sizes)

pub nothing-of_sizes : (d : Description) (ways : List Way) (b : ℕ) → AreWaysOf d ways → d.scheme ≡ scheme.NoCode b → whole.no_pairs (block_sizes d) ≡ file.nothing_kept ways
nothing-of_sizes d ways b are is = nothing-by (block_sizes d) ∙ ap file.nothing_kept (ways-of_sizes d ways b are is)

pub count-places : (ways : List Way) (t : ℕ) (places : List (Option Block)) → ArePlaces ways t places → length places ≡ length ways
unfolding ArePlaces
count-places [] t [] are = refl
count-places [] t (place ∷ places) are = absurd are
count-places (w ∷ ways) t [] are = absurd are
count-places (w ∷ ways) t (place ∷ places) are = ap suc (count-places ways t places are.1)

pub place-at : (ways : List Way) (t : ℕ) (places : List (Option Block)) (i : ℕ) → ArePlaces ways t places → i < length ways
    → IsPlace (way_at ways i) t (get_or places i None)
unfolding ArePlaces
place-at [] t places i are within = absurd (omega arith)
place-at (w ∷ ways) t [] i are within = absurd are
place-at (w ∷ ways) t (place ∷ places) zero are within = are.0
place-at (w ∷ ways) t (place ∷ places) (suc i) are within = place-at ways t places i are.1 (omega arith)

pub place-set : (ways : List Way) (t : ℕ) (places : List (Option Block)) (i : ℕ) (p : Option Block) → ArePlaces ways t places → i < length ways
    → IsPlace (way_at ways i) t p → ArePlaces ways t (set places i p)
unfolding ArePlaces
place-set [] t places i p are within is = absurd (omega arith)
place-set (w ∷ ways) t [] i p are within is = absurd are
place-set (w ∷ ways) t (place ∷ places) zero p are within is = (is, are.1)
place-set (w ∷ ways) t (place ∷ places) (suc i) p are within is = (are.0, place-set ways t places i p are.1 (omega arith) is)

pub same-kept : (places : List (Option Block)) (i : ℕ) (p : Option Block) → kept_of p ≡ kept_of (get_or places i None) → map kept_of (set places i p) ≡ map kept_of places
same-kept places i p is = map-set_same kept_of places i p None is

-- ---- what a block shows of its code

has-way_of : (w : Way) (t : ℕ) (place : Option Block) → IsPlace w t place → HasWayOf w place
has-way_of w t None is = tt
has-way_of w t (Some b) is = is.way

pub has-way : (ways : List Way) (t sbn : ℕ) (blocks : Blocks) → AreBlocks ways t blocks → sbn < length ways → HasWay ways sbn blocks
has-way ways t sbn Nothing are within = tt
has-way ways t sbn (NoCode b) are within = tt
has-way ways t sbn (Raptor v) are within = (
  omega (arith, count-places ways t v.items are.each, within),
  has-way_of (way_at ways sbn) t (get_or v.items sbn None) (place-at ways t v.items sbn are.each within),
)

-- ---- hearing

way-in_one : (sizes : List ℕ) (i : ℕ) → i < length sizes → way_at (map Way.NoCode sizes) i ≡ Way.NoCode (get_or sizes i 0)
way-in_one sizes i within = get_or-map Way.NoCode sizes i 0 (Way.NoCode 0) within

pub heard-whole : (ways : List Way) (t sbn kept : ℕ) (pairs : List Pair) (old new : whole.Blocks) → AreInOne ways t old → sbn < length old.sizes
    → new ≡ record old { kept = set old.kept sbn (hear_pairs (whole.way_at old sbn) (whole.kept_at old sbn) pairs) } → whole.AreWhole new
    → kept + length (whole.kept_at old sbn) ≡ length (whole.kept_at new sbn) → AreHeard ways t sbn pairs kept (NoCode old) (NoCode new)
heard-whole ways t sbn kept pairs old new are within is all count =
    let way : whole.way_at old sbn ≡ way_at ways sbn = sym (way-in_one old.sizes sbn within) ∙ ap (λ (ws : List Way). way_at ws sbn) are.sizes in record {
      are = record {
        sizes = ap (λ (b : whole.Blocks). map Way.NoCode b.sizes) is ∙ are.sizes;
        symbol = ap (λ (b : whole.Blocks). b.symbol) is ∙ are.symbol;
        whole = all;
      };
      kept_are = ap (λ (b : whole.Blocks). b.kept) is ∙ ap (λ w. set old.kept sbn (hear_pairs w (whole.kept_at old sbn) pairs)) way;
      count = count;
    }

place-kept_at : (places : List (Option Block)) (i : ℕ) → kept_at (map kept_of places) i ≡ kept_of (get_or places i None)
place-kept_at [] i = refl
place-kept_at (place ∷ places) zero = refl
place-kept_at (place ∷ places) (suc i) = place-kept_at places i

-- a block of its own way after pairs were heard in it
pub heard-place : (ways : List Way) (t sbn kept : ℕ) (pairs : List Pair) (old new : List (Option Block)) (b after : Block) → ArePlaces ways t old → sbn < length old
    → get_or old sbn None ≡ Some b → after ≡ record b { kept = hear_pairs b.way b.kept pairs } → IsBlock after → new ≡ set old sbn (Some after)
    → kept + length b.kept ≡ length after.kept
    → (ArePlaces ways t new) × (map kept_of new ≡ hear_in ways sbn pairs (map kept_of old)) × (kept + length (kept_at (map kept_of old) sbn) ≡ length (kept_at (map kept_of new) sbn))
heard-place ways t sbn kept pairs old new b after are within at after_is is_block new_is count =
    let there : sbn < length ways = omega (arith, count-places ways t old are, within) in
    let of : IsOf (way_at ways sbn) t b = subst (IsPlace (way_at ways sbn) t) at (place-at ways t old sbn are there) in
    let before : kept_at (map kept_of old) sbn ≡ b.kept = place-kept_at old sbn ∙ ap kept_of at in
    let own : after.kept ≡ hear_pairs (way_at ways sbn) (kept_at (map kept_of old) sbn) pairs =
    ap (λ (x : Block). x.kept) after_is ∙ ap₂ (λ (w : Way) (ks : List Pair). hear_pairs w ks pairs) of.way (sym before) in
    let now : map kept_of new ≡ set (map kept_of old) sbn after.kept = ap (map kept_of) new_is ∙ map-set kept_of old sbn (Some after) in
    let long : sbn < length (map kept_of old) = omega (arith, length-map old kept_of, within) in
    let last : kept_at (map kept_of new) sbn ≡ after.kept = ap (λ (ks : List (List Pair)). kept_at ks sbn) now ∙ get_or-set_same (map kept_of old) sbn after.kept [] long in (
      subst (ArePlaces ways t) (sym new_is) (place-set ways t old sbn (Some after) are there (record {
        way = ap (λ (x : Block). x.way) after_is ∙ of.way;
        symbol = ap (λ (x : Block). x.symbol) after_is ∙ of.symbol;
        block = is_block;
      })),
      now ∙ ap (λ (ks : List Pair). set (map kept_of old) sbn ks) own,
      ap (λ (ks : List Pair). kept + length ks) before ∙ count ∙ ap (λ (ks : List Pair). length ks) (sym last),
    )

-- how many symbols are missing then
pub missing-heard : (ways : List Way) (t sbn kept : ℕ) (pairs : List Pair) (old new : Blocks) → AreBlocks ways t old → sbn < length ways
    → AreHeard ways t sbn pairs kept old new → missing_in ways (kept_seen ways new) + kept ≡ missing_in ways (kept_seen ways old)
missing-heard ways t sbn kept pairs old new are within heard =
    let each = each-kept ways t old are in
    let after = each-at ways (kept_seen ways new) sbn (each-kept ways t new heard.are) within in
    let pairs_now = hear_pairs (way_at ways sbn) (kept_at (kept_seen ways old) sbn) pairs in
    let long : sbn < length (kept_seen ways old) = omega (arith, each-length ways (kept_seen ways old) each, within) in
    let own : kept_at (kept_seen ways new) sbn ≡ pairs_now =
    ap (λ (ks : List (List Pair)). kept_at ks sbn) heard.kept_are ∙ get_or-set_same (kept_seen ways old) sbn pairs_now [] long in
    let few = after.few in
    let count_is = ap (λ (ks : List Pair). length ks) own in
    ap (λ (ks : List (List Pair)). missing_in ways ks + kept) heard.kept_are
    ∙ missing-less ways (kept_seen ways old) sbn kept pairs_now each within (omega (arith, few, count_is)) (omega (arith, heard.count, count_is))

-- ---- places

pub other_default : {A : Type 0} → (xs : List A) (i : ℕ) (d e : A) → i < length xs → get_or xs i d ≡ get_or xs i e
other_default [] i d e within = absurd (omega arith)
other_default (x ∷ xs) zero d e within = refl
other_default (x ∷ xs) (suc i) d e within = other_default xs i d e (omega arith)

-- what stands at a place, by whatever default
pub stands-at : (places : List (Option Block)) (i n : ℕ) (p : Option Block) → n ≡ i → i < length places → p ≡ get_or places n p → p ≡ get_or places i None
stands-at places i n p same within is = is ∙ ap (λ (m : ℕ). get_or places m p) same ∙ other_default places i p None within

pub on-ok : {A E : Type 0} → (r : Result A E) {P Q : Type 0} → OnOk r P → (P → Q) → OnOk r Q
on-ok (Ok a) p f = f p
on-ok (Err e) p f = tt

pub room-there : (t sbn n : ℕ) (places : List (Option Block)) (p : Option Block) → n ≡ sbn → sbn < length places → IsThere t p
    → (sbn < length (set places n p)) × IsThere t (get_or (set places n p) sbn None)
room-there t sbn n places p same within there =
    rw same (omega (arith, length-set places sbn p, within), subst (IsThere t) (sym (get_or-set_same places sbn p None within)) there)

-- ---- a payload that was heard

abbrev pub seen : List Way → ℕ → Blocks → File
seen ways t blocks = record { ways = ways; symbol = t; kept = kept_seen ways blocks }

pub record IsFileHeard (d : Description) (f : File) (ways : List Way) (t : ℕ) (new : Blocks) (missing sbn esi kept : ℕ) (payload : List ℕ) : Type 0 where
  pub most : kept ≤ missing
  pub stands : StandAs ways t new (missing - kept)
  pub seen_is : seen ways t new ≡ record f { kept = hear_in f.ways sbn (payload_pairs d.symbol esi payload) f.kept }
  pub block : sbn < length f.kept

heard-by : (d : Description) (ways : List Way) (t : ℕ) (start room new : Blocks) (missing sbn esi kept symbol count : ℕ) (payload : List ℕ)
    → AreWaysOf d ways → t ≡ d.symbol → StandAs ways t start missing → sbn < block_count d → AreBlocks ways d.symbol room
    → kept_seen ways room ≡ kept_seen ways start → symbol ≡ d.symbol → count ≡ ceiling (length payload) d.symbol
    → ((ws : List Way) → AreBlocks ws symbol room → AreHeard ws symbol sbn (pairs_from count symbol esi payload) kept room new)
    → IsFileHeard d (seen ways t start) ways t new missing sbn esi kept payload
heard-by d ways t start room new missing sbn esi kept symbol count payload of t_is stands within are same symbol_is count_is hears =
    let there : sbn < length ways = omega (arith, count-ways d ways of, within) in
    let heard : AreHeard ways d.symbol sbn (payload_pairs d.symbol esi payload) kept room new =
    subst (λ (n : ℕ). AreHeard ways d.symbol sbn (pairs_from n d.symbol esi payload) kept room new) count_is
    (subst (λ (n : ℕ). AreHeard ways n sbn (pairs_from count n esi payload) kept room new) symbol_is
    (hears ways (subst (λ (n : ℕ). AreBlocks ways n room) (sym symbol_is) are))) in
    let less : missing_in ways (kept_seen ways new) + kept ≡ missing_in ways (kept_seen ways start) =
    missing-heard ways d.symbol sbn kept (payload_pairs d.symbol esi payload) room new are there heard ∙ ap (missing_in ways) same in
    let total = stands.count in record {
      most = omega arith;
      stands = record {
        are = subst (λ (n : ℕ). AreBlocks ways n new) (sym t_is) heard.are;
        count = omega arith;
      };
      seen_is = ap (λ (ks : List (List Pair)). let f : File = record { ways = ways; symbol = t; kept = ks } in f)
          (heard.kept_are ∙ ap (hear_in ways sbn (payload_pairs d.symbol esi payload)) same);
      block = omega (arith, each-length ways (kept_seen ways start) (each-kept ways t start stands.are), there);
    }

pub file-heard : (d : Description) (f : File) (ways : List Way) (t : ℕ) (start room new : Blocks) (missing sbn esi kept symbol count : ℕ) (payload : List ℕ)
    → IsFileOf d f → seen ways t start ≡ f → StandAs ways t start missing → sbn < block_count d → AreBlocks ways d.symbol room
    → kept_seen ways room ≡ kept_seen ways start → symbol ≡ d.symbol → count ≡ ceiling (length payload) d.symbol
    → ((ws : List Way) → AreBlocks ws symbol room → AreHeard ws symbol sbn (pairs_from count symbol esi payload) kept room new)
    → IsFileHeard d f ways t new missing sbn esi kept payload
file-heard d f ways t start room new missing sbn esi kept symbol count payload is view stands within are same symbol_is count_is hears =
    subst (λ (g : File). IsFileHeard d g ways t new missing sbn esi kept payload) view
    (heard-by d ways t start room new missing sbn esi kept symbol count payload (subst (λ (g : File). AreWaysOf d g.ways) (sym view) is.ways)
    (ap (λ (g : File). g.symbol) view ∙ is.symbol) stands within are same symbol_is count_is hears)
