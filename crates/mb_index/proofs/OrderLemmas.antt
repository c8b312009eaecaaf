-- What the sorted places say of where a TOI stands, and what an added TOI does to them.
use Rattle.std.proofs.Common.{◌≡◌, ℕ, ◌+◌, ◌-◌, ◌<◌, ◌≤◌, ◌==◌, false, List, [], ◌∷◌, ◌++◌, length, slice_index, position, Some, arith, refl, inl, inr, ◌∙◌}
use Rattle.std.specs.List.{insert}
use Rattle.std.proofs.lemmas.Grind.{common_steps}
use Rattle.std.proofs.lemmas.Bool.Decides.{leb_tells, nat_tests}
use Rattle.std.proofs.lemmas.List.Edits.{length-insert, get_or-insert_below, get_or-insert_at, get_or-insert_above}
use Rattle.mb_index.specs.Order.{IsOrder, IsRank, HasRank, toi_at}
use Rattle.mb_index.proofs.PositionLemmas.{IsNowhere, position_first}

-- places of the same TOI are the same
same_place : (tois sorted : List ℕ) → IsOrder tois sorted → (place rank : ℕ) → place < length tois → rank < length sorted → slice_index tois place ≡ toi_at tois sorted rank → place ≡ slice_index sorted rank
same_place tois sorted is place rank within below same =
    let has : HasRank sorted place = is.covers place within in
    grind (arith, is.rises has.rank rank, is.rises rank has.rank, has.stands, has.within)

pub found : (tois sorted : List ℕ) (toi rank : ℕ) → IsOrder tois sorted → rank < length sorted → toi_at tois sorted rank ≡ toi → position (λ other. other == toi) tois ≡ Some (slice_index sorted rank)
found tois sorted toi rank is within here =
    position_first toi tois (slice_index sorted rank) (is.within rank within) here
    (λ k before. grind (arith, common_steps, same_place tois sorted is k rank, is.within rank within))

pub absent : (tois sorted : List ℕ) (toi rank : ℕ) → IsOrder tois sorted → IsRank tois sorted toi rank → (rank < length sorted → toi < toi_at tois sorted rank) → IsNowhere toi tois
absent tois sorted toi rank is ranked above = record {
  other = λ place within.
      let has : HasRank sorted place = is.covers place within in
      grind (arith, common_steps, ranked.below has.rank, is.rises rank has.rank, has.stands, has.within);
}

-- the places by rank after one was put at a rank
record IsPut (old new : List ℕ) (rank place : ℕ) : Type 0 where
  pub len : length new ≡ length old + 1
  pub below : (k : ℕ) → k < rank → slice_index new k ≡ slice_index old k
  pub here : (k : ℕ) → k ≡ rank → slice_index new k ≡ place
  pub above : (k : ℕ) → rank < k → slice_index new k ≡ slice_index old (k - 1)

is_put : (old : List ℕ) (rank place : ℕ) → rank ≤ length old → IsPut old (insert old rank place) rank place
is_put old rank place most = record {
  len = length-insert old rank place most;
  below = λ k h. get_or-insert_below old rank place 0 k h most;
  here = λ k h. rw h (get_or-insert_at old rank place 0 most);
  above = λ k h.
      let is : slice_index (insert old rank place) (k - 1 + 1) ≡ slice_index old (k - 1) = get_or-insert_above old rank place 0 (k - 1) (omega arith) most in
      let same : k - 1 + 1 ≡ k = omega arith in
      rw same at is;
}

-- a list after one more number
record IsMore (old new : List ℕ) (x : ℕ) : Type 0 where
  pub len : length new ≡ length old + 1
  pub below : (k : ℕ) → k < length old → slice_index new k ≡ slice_index old k
  pub here : (k : ℕ) → k ≡ length old → slice_index new k ≡ x

is_more : (old : List ℕ) (x : ℕ) → IsMore old (old ++ x ∷ []) x
is_more old x = record {
  len = grind (arith, common_steps);
  below = λ k h. grind (arith, common_steps);
  here = λ k h. grind (arith, common_steps);
}

-- the TOIs by rank after one was added
record IsAdded (tois sorted tois' sorted' : List ℕ) (toi rank : ℕ) : Type 0 where
  pub below : (k : ℕ) → k < rank → toi_at tois' sorted' k ≡ toi_at tois sorted k
  pub here : (k : ℕ) → k ≡ rank → toi_at tois' sorted' k ≡ toi
  pub above : (k : ℕ) → rank < k → k < length sorted' → toi_at tois' sorted' k ≡ toi_at tois sorted (k - 1)

is_added : (tois sorted tois' sorted' : List ℕ) (toi rank : ℕ) → IsOrder tois sorted → rank ≤ length sorted → IsMore tois tois' toi → IsPut sorted sorted' rank (length tois) → IsAdded tois sorted tois' sorted' toi rank
is_added tois sorted tois' sorted' toi rank is most more put = record {
  below = λ k h. rw (put.below k h) (more.below (slice_index sorted k) (is.within k (omega arith)));
  here = λ k h. more.here (slice_index sorted' k) (put.here k h);
  above = λ k h w. rw (put.above k h) (more.below (slice_index sorted (k - 1)) (is.within (k - 1) (omega (arith, put.len))));
}

rises : (tois sorted tois' sorted' : List ℕ) (toi rank : ℕ) → IsOrder tois sorted → IsRank tois sorted toi rank → IsNowhere toi tois → IsAdded tois sorted tois' sorted' toi rank → length sorted' ≡ length sorted + 1 → (low high : ℕ) → low < high → high < length sorted' → toi_at tois' sorted' low < toi_at tois' sorted' high
rises tois sorted tois' sorted' toi rank is ranked nowhere added len low high h w =
    let other : high - 1 < length sorted → (toi_at tois sorted (high - 1) == toi) ≡ false = λ i. nowhere.other (slice_index sorted (high - 1)) (is.within (high - 1) i) in
    grind (
      arith,
      nat_tests,
      added.below low,
      added.below high,
      added.here low,
      added.here high,
      added.above low,
      added.above high,
      is.rises low high,
      is.rises low (high - 1),
      is.rises (low - 1) (high - 1),
      ranked.below low,
      ranked.above (high - 1),
    )

within : (tois sorted tois' sorted' : List ℕ) (toi rank : ℕ) → IsOrder tois sorted → rank ≤ length sorted → IsMore tois tois' toi → IsPut sorted sorted' rank (length tois) → (k : ℕ) → k < length sorted' → slice_index sorted' k < length tois'
within tois sorted tois' sorted' toi rank is most more put k h =
    grind (arith, put.below k, put.here k, put.above k, is.within k, is.within (k - 1), more.len, put.len)

-- the rank of a place after one was put at a rank
moved : (old new : List ℕ) (rank place other : ℕ) → IsPut old new rank place → HasRank old other → HasRank new other
moved old new rank place other put has = elim (leb_tells rank has.rank) [
  | inl above ↦ record {
    rank = has.rank + 1;
    within = omega (arith, put.len, has.within);
    stands =
        let is : slice_index new (has.rank + 1) ≡ slice_index old (has.rank + 1 - 1) = put.above (has.rank + 1) (omega (arith, above.1)) in
        let same : has.rank + 1 - 1 ≡ has.rank = omega arith in
        rw same at is ∙ has.stands;
  }
  | inr below ↦ record {
    rank = has.rank;
    within = omega (arith, put.len, has.within);
    stands = put.below has.rank below.1 ∙ has.stands;
  }
]

covers : (tois sorted tois' sorted' : List ℕ) (toi rank : ℕ) → IsOrder tois sorted → rank ≤ length sorted → IsMore tois tois' toi → IsPut sorted sorted' rank (length tois) → (place : ℕ) → place < length tois' → HasRank sorted' place
covers tois sorted tois' sorted' toi rank is most more put place h = elim (leb_tells (length tois) place) [
  | inl last ↦ record {
    rank = rank;
    within = omega (arith, put.len);
    stands = let same : length tois ≡ place = omega (arith, more.len, last.1) in put.here rank refl ∙ same;
  }
  | inr before ↦ moved sorted sorted' rank (length tois) place put (is.covers place before.1)
]

pub added : (tois sorted : List ℕ) (toi rank : ℕ) → IsOrder tois sorted → IsRank tois sorted toi rank → IsNowhere toi tois → IsOrder (tois ++ toi ∷ []) (insert sorted rank (length tois))
added tois sorted toi rank is ranked nowhere =
    let more = is_more tois toi in
    let put = is_put sorted rank (length tois) ranked.most in
    let added = is_added _ _ _ _ toi rank is ranked.most more put in
    record {
      len = omega (arith, is.len, more.len, put.len);
      within = within _ _ _ _ toi rank is ranked.most more put;
      rises = rises _ _ _ _ toi rank is ranked nowhere added put.len;
      covers = covers _ _ _ _ toi rank is ranked.most more put;
    }
