-- A payload's symbols, one by one.
use Rattle.std.proofs.Common.{◌≡◌, ℕ, zero, suc, ◌+◌, ◌-◌, ◌<◌, ◌≤◌, min, List, [], ◌∷◌, length, get_or, set, take, drop, refl, sym, ◌∙◌, ap, ap₂, arith}
use Rattle.std.proofs.lemmas.Grind.{common_steps}
use Rattle.std.proofs.lemmas.List.{get_or-set_same, set-set, set-get_or}
use Rattle.mb_encoder.specs.Solutions.{Pair}
use Rattle.mb_decoder.specs.Block.{filled}
use Rattle.mb_way.specs.Way.{Way, Way.NoCode}
use Rattle.mb_way.specs.Heard.{heard_as, hear, keep_if, hear_pairs}
use Rattle.mb_way.specs.declared.heard.Heard.{Heard}
use Rattle.mb_way.specs.declared.heard.Heard.TheVariants.{Kept, Determined, OutOfRange}
use Rattle.mb_way.proofs.Keeping.{length_kept_with}
use Rattle.mb_block.specs.Block.{Block}
use Rattle.mb_block.specs.Blocks.{Blocks, way_at, kept_at, AreEachBlocks, AreWhole}
use Rattle.mb_file.specs.File.{pairs_from}
use Rattle.mb_file.specs.Hearing.{count_of}

take-min : (t m : ℕ) (bytes : List ℕ) → m ≡ min t (length bytes) → take t bytes ≡ take m bytes
take-min t m bytes is = rw is (grind (arith, common_steps))

drop-min : (t m : ℕ) (bytes : List ℕ) → m ≡ min t (length bytes) → drop t bytes ≡ drop m bytes
drop-min t m bytes is = rw is (grind (arith, common_steps))

step : (n t esi m : ℕ) (rest front back : List ℕ) → m ≡ min t (length rest) → front ≡ take m rest → back ≡ drop m rest
    → pairs_from (suc n) t esi rest ≡ record { esi = esi; symbol = filled t front } ∷ pairs_from n t (esi + 1) back
unfolding pairs_from
step n t esi m rest front back is front_is back_is =
    let first : take t rest ≡ front = take-min t m rest is ∙ sym front_is in
    let others : drop t rest ≡ back = drop-min t m rest is ∙ sym back_is in
    ap₂ (λ (p : Pair) (ps : List Pair). p ∷ ps) (ap (λ bytes. let p : Pair = record { esi = esi; symbol = filled t bytes } in p) first)
    (ap (pairs_from n t (esi + 1)) others)

-- the first of the symbols, and the others
pub pairs-step : (left t esi m : ℕ) (rest front back : List ℕ) → 0 < left → m ≡ min t (length rest) → front ≡ take m rest → back ≡ drop m rest
    → pairs_from left t esi rest ≡ record { esi = esi; symbol = filled t front } ∷ pairs_from (left - 1) t (esi + 1) back
pairs-step left t esi m rest front back some is front_is back_is =
    let same : left ≡ suc (left - 1) = omega arith in
    ap (λ n. pairs_from n t esi rest) same ∙ step (left - 1) t esi m rest front back is front_is back_is

pub pairs-none : (w : Way) (t esi : ℕ) (rest : List ℕ) (kept : List Pair) → hear_pairs w kept (pairs_from 0 t esi rest) ≡ kept
unfolding pairs_from
pairs-none w t esi rest kept = refl

-- ---- how many are kept

pub length-pairs_from : (n t esi : ℕ) (bytes : List ℕ) → length (pairs_from n t esi bytes) ≡ n
unfolding pairs_from
length-pairs_from zero t esi bytes = refl
length-pairs_from (suc n) t esi bytes = ap suc (length-pairs_from n t (esi + 1) (drop t bytes))

keep-more : (h : Heard) (w : Way) (kept : List Pair) (pair : Pair) → count_of h + length kept ≡ length (keep_if h w kept pair)
keep-more Kept w kept pair = omega (arith, length_kept_with w pair kept)
keep-more Determined w kept pair = omega arith
keep-more OutOfRange w kept pair = omega arith

-- a symbol that is kept is one more
pub hear-more : (w : Way) (kept : List Pair) (pair : Pair) → count_of (heard_as w kept pair.esi) + length kept ≡ length (hear w kept pair)
hear-more w kept pair = keep-more (heard_as w kept pair.esi) w kept pair

-- ---- one symbol of a payload

-- the blocks of a file before and behind a symbol of a payload, and how many symbols were kept so far
pub record IsHearing (first now : Blocks) (sbn count left t from next kept : ℕ) (payload rest : List ℕ) : Type 0 where
  pub sizes : now.sizes ≡ first.sizes
  pub symbol : now.symbol ≡ first.symbol
  pub whole : AreWhole now
  pub within : next + left ≤ 65536
  pub lengths : kept + length (kept_at first sbn) ≡ length (kept_at now sbn)
  pub few : kept + left ≤ count
  pub run : set now.kept sbn (hear_pairs (way_at first sbn) (kept_at now sbn) (pairs_from left t next rest))
      ≡ set first.kept sbn (hear_pairs (way_at first sbn) (kept_at first sbn) (pairs_from count t from payload))

kept-length : (t : ℕ) (sizes : List ℕ) (kept : List (List Pair)) → AreEachBlocks t sizes kept → length kept ≡ length sizes
unfolding AreEachBlocks
kept-length t [] [] are = refl
kept-length t [] (pairs ∷ kept) are = absurd are
kept-length t (k ∷ sizes) [] are = absurd are
kept-length t (k ∷ sizes) (pairs ∷ kept) are = ap suc (kept-length t sizes kept are.1)

pub length-kept : (b : Blocks) → AreWhole b → length b.kept ≡ length b.sizes
length-kept b are = kept-length b.symbol b.sizes b.kept are

count_of-le : (h : Heard) → count_of h ≤ 1
count_of-le Kept = omega arith
count_of-le Determined = omega arith
count_of-le OutOfRange = omega arith

pub hearing-start : (first : Blocks) (sbn count t from next : ℕ) (payload : List ℕ) → AreWhole first → from + count ≤ 65536 → next ≡ from
    → IsHearing first first sbn count count t from next 0 payload payload
hearing-start first sbn count t from next payload whole within same = record {
  sizes = refl;
  symbol = refl;
  whole = whole;
  within = omega (arith, within, same);
  lengths = omega arith;
  few = omega arith;
  run = ap (λ (n : ℕ). set first.kept sbn (hear_pairs (way_at first sbn) (kept_at first sbn) (pairs_from count t n payload))) same;
}

pub hearing-step : (first now new : Blocks) (sbn count left t from next kept more m : ℕ) (payload rest front back : List ℕ) (h : Heard)
    → IsHearing first now sbn count left t from next kept payload rest → sbn < length first.sizes → first.symbol ≡ t → 0 < left → m ≡ min t (length rest)
    → front ≡ take m rest → back ≡ drop m rest → h ≡ heard_as (way_at now sbn) (kept_at now sbn) next → more ≡ count_of h
    → new ≡ record now { kept = set now.kept sbn (hear (way_at now sbn) (kept_at now sbn) (record { esi = next; symbol = filled now.symbol front })) }
    → AreWhole new → IsHearing first new sbn count (left - 1) t from (next + 1) (kept + more) payload back
hearing-step first now new sbn count left t from next kept more m payload rest front back h i there symbol some m_is front_is back_is heard more_is is whole =
    let w : Way = way_at first sbn in
    let way : way_at now sbn ≡ w = ap (λ (sizes : List ℕ). NoCode (get_or sizes sbn 0)) i.sizes in
    let t_is : now.symbol ≡ t = i.symbol ∙ symbol in
    let pair : Pair = record { esi = next; symbol = filled t front } in
    let heard_pairs : List Pair = hear w (kept_at now sbn) pair in
    let pair_is : hear (way_at now sbn) (kept_at now sbn) (record { esi = next; symbol = filled now.symbol front }) ≡ heard_pairs =
    ap₂ (λ (v : Way) (n : ℕ). hear v (kept_at now sbn) (record { esi = next; symbol = filled n front })) way t_is in
    let kept_is : new.kept ≡ set now.kept sbn heard_pairs = ap (λ (b : Blocks). b.kept) is ∙ ap (set now.kept sbn) pair_is in
    let within : sbn < length now.kept = omega (arith, length-kept now i.whole, there, ap (λ (sizes : List ℕ). length sizes) i.sizes) in
    let own : kept_at new sbn ≡ heard_pairs = ap (λ (ks : List (List Pair)). get_or ks sbn []) kept_is ∙ get_or-set_same now.kept sbn heard_pairs [] within in
    let one : count_of (heard_as w (kept_at now sbn) next) + length (kept_at now sbn) ≡ length heard_pairs = hear-more w (kept_at now sbn) pair in
    let count_is : more ≡ count_of (heard_as w (kept_at now sbn) next) =
    more_is ∙ ap count_of (heard ∙ ap (λ (v : Way). heard_as v (kept_at now sbn) next) way) in
    let length_is : length (kept_at new sbn) ≡ length heard_pairs = ap (λ (ps : List Pair). length ps) own in
    let at_most : more ≤ 1 = omega (arith, more_is, count_of-le h) in
    let step = pairs-step left t next m rest front back some m_is front_is back_is in
    record {
      sizes = ap (λ (b : Blocks). b.sizes) is ∙ i.sizes;
      symbol = ap (λ (b : Blocks). b.symbol) is ∙ i.symbol;
      whole = whole;
      within = omega (arith, i.within, some);
      lengths = omega (arith, i.lengths, one, count_is, length_is);
      few = omega (arith, i.few, at_most, some);
      run = ap₂ (λ (ks : List (List Pair)) (ps : List Pair). set ks sbn (hear_pairs w ps (pairs_from (left - 1) t (next + 1) back))) kept_is own
          ∙ set-set now.kept sbn heard_pairs (hear_pairs w heard_pairs (pairs_from (left - 1) t (next + 1) back))
          ∙ sym (ap (λ (ps : List Pair). set now.kept sbn (hear_pairs w (kept_at now sbn) ps)) step)
          ∙ i.run;
    }

pub hearing-end : (first now : Blocks) (sbn count left t from next kept : ℕ) (payload rest : List ℕ) → IsHearing first now sbn count left t from next kept payload rest → left ≡ 0
    → now ≡ record first { kept = set first.kept sbn (hear_pairs (way_at first sbn) (kept_at first sbn) (pairs_from count t from payload)) }
unfolding pairs_from
hearing-end first now sbn count left t from next kept payload rest i none =
    let last : set now.kept sbn (hear_pairs (way_at first sbn) (kept_at now sbn) (pairs_from left t next rest)) ≡ now.kept =
    ap (λ (n : ℕ). set now.kept sbn (hear_pairs (way_at first sbn) (kept_at now sbn) (pairs_from n t next rest))) none ∙ set-get_or now.kept sbn [] in
    ap₂ (λ (sizes : List ℕ) (n : ℕ). let b : Blocks = record { sizes = sizes; symbol = n; kept = now.kept } in b) i.sizes i.symbol
    ∙ ap (λ (ks : List (List Pair)). let b : Blocks = record first { kept = ks } in b) (sym last ∙ i.run)

-- ---- the same of a block that stands alone

pub record IsHearingIn (first now : Block) (count left t from next kept : ℕ) (payload rest : List ℕ) : Type 0 where
  pub way : now.way ≡ first.way
  pub symbol : now.symbol ≡ first.symbol
  pub within : next + left ≤ 65536
  pub lengths : kept + length first.kept ≡ length now.kept
  pub few : kept + left ≤ count
  pub run : hear_pairs first.way now.kept (pairs_from left t next rest) ≡ hear_pairs first.way first.kept (pairs_from count t from payload)

pub block-start : (first : Block) (count t from next : ℕ) (payload : List ℕ) → from + count ≤ 65536 → next ≡ from
    → IsHearingIn first first count count t from next 0 payload payload
block-start first count t from next payload within same = record {
  way = refl;
  symbol = refl;
  within = omega (arith, within, same);
  lengths = omega arith;
  few = omega arith;
  run = ap (λ (n : ℕ). hear_pairs first.way first.kept (pairs_from count t n payload)) same;
}

pub block-step : (first now new : Block) (count left t from next kept more m : ℕ) (payload rest front back : List ℕ) (h : Heard)
    → IsHearingIn first now count left t from next kept payload rest → first.symbol ≡ t → 0 < left → m ≡ min t (length rest)
    → front ≡ take m rest → back ≡ drop m rest → h ≡ heard_as now.way now.kept next → more ≡ count_of h
    → new ≡ record now { kept = hear now.way now.kept (record { esi = next; symbol = filled now.symbol front }) }
    → IsHearingIn first new count (left - 1) t from (next + 1) (kept + more) payload back
block-step first now new count left t from next kept more m payload rest front back h i symbol some m_is front_is back_is heard more_is is =
    let t_is : now.symbol ≡ t = i.symbol ∙ symbol in
    let pair : Pair = record { esi = next; symbol = filled t front } in
    let own : new.kept ≡ hear first.way now.kept pair =
    ap (λ (b : Block). b.kept) is
    ∙ ap₂ (λ (v : Way) (n : ℕ). hear v now.kept (record { esi = next; symbol = filled n front })) i.way t_is in
    let one : count_of (heard_as first.way now.kept next) + length now.kept ≡ length (hear first.way now.kept pair) = hear-more first.way now.kept pair in
    let count_is : more ≡ count_of (heard_as first.way now.kept next) = more_is ∙ ap count_of (heard ∙ ap (λ (v : Way). heard_as v now.kept next) i.way) in
    let length_is : length new.kept ≡ length (hear first.way now.kept pair) = ap (λ (ps : List Pair). length ps) own in
    let at_most : more ≤ 1 = omega (arith, more_is, count_of-le h) in
    let step = pairs-step left t next m rest front back some m_is front_is back_is in
    record {
      way = ap (λ (b : Block). b.way) is ∙ i.way;
      symbol = ap (λ (b : Block). b.symbol) is ∙ i.symbol;
      within = omega (arith, i.within, some);
      lengths = omega (arith, i.lengths, one, count_is, length_is);
      few = omega (arith, i.few, at_most, some);
      run = ap (λ (ps : List Pair). hear_pairs first.way ps (pairs_from (left - 1) t (next + 1) back)) own
          ∙ sym (ap (λ (ps : List Pair). hear_pairs first.way now.kept ps) step)
          ∙ i.run;
    }

pub block-end : (first now : Block) (count left t from next kept : ℕ) (payload rest : List ℕ) → IsHearingIn first now count left t from next kept payload rest → left ≡ 0
    → now ≡ record first { kept = hear_pairs first.way first.kept (pairs_from count t from payload) }
unfolding pairs_from
block-end first now count left t from next kept payload rest i none =
    let last : hear_pairs first.way now.kept (pairs_from left t next rest) ≡ now.kept =
    ap (λ (n : ℕ). hear_pairs first.way now.kept (pairs_from n t next rest)) none in
    ap₂ (λ (w : Way) (n : ℕ). let b : Block = record { way = w; symbol = n; kept = now.kept } in b) i.way i.symbol
    ∙ ap (λ (ks : List Pair). let b : Block = record first { kept = ks } in b) (sym last ∙ i.run)
