-- A block is complete exactly where as many symbols are kept as it has source symbols.
use Rattle.std.proofs.Common.{◌≡◌, ℕ, ◌+◌, ◌==◌, Bool, true, false, List, length, refl, sym, ◌∙◌, ap, subst, arith}
use Rattle.std.proofs.lemmas.List.{length-map}
use Rattle.mb_rows.specs.Code.{RaptorCode}
use Rattle.mb_encoder.specs.Solutions.{Pair, esis}
use Rattle.mb_decoder.proofs.Hearing.{is_complete}
use Rattle.mb_way.specs.Way.{Way.NoCode, Way.Raptor}
use Rattle.mb_way.specs.Determined.{is_determined, is_block_determined}
use Rattle.mb_way.specs.Heard as heard
use Rattle.mb_way.specs.Heard.{AreRising, AreKept}
use Rattle.mb_way.specs.Laws.{CompleteByCount}
use Rattle.mb_way.proofs.Rising.{AreBelow, rising-all}
use Rattle.mb_way.proofs.Keeping.{range_below}
use Rattle.mb_way.proofs.Testing.{block_tested}

pub complete_below : (k : ℕ) (kept : List Pair) → AreBelow k (esis kept) → AreRising 0 (esis kept) → heard.is_complete (NoCode k) kept ≡ (length kept == k)
unfolding is_block_determined is_determined
complete_below k kept below rise =
    let from : k ≡ 0 + k = omega arith in
    rising-all k 0 (esis kept) rise (subst (λ (end : ℕ). AreBelow end (esis kept)) from below) ∙ ap (λ n. n == k) (length-map kept (λ (p : Pair). p.esi))

-- tests of facts that are the same
pub same_tests : (a b : Bool) → (a ≡ true → b ≡ true) → (b ≡ true → a ≡ true) → a ≡ b
same_tests true b f g = sym (f refl)
same_tests false true f g = absurd (let e = g refl in cc)
same_tests false false f g = refl

complete_raptor : (c : RaptorCode) (kept : List Pair) → AreKept (Raptor c) kept → heard.is_complete (Raptor c) kept ≡ (length kept == c.row.k)
complete_raptor c kept are =
    let full = is_complete c c.row.k (esis kept) (length (esis kept) == c.row.k) refl refl are.new in
    same_tests (is_block_determined (Raptor c) (esis kept)) (length (esis kept) == c.row.k)
    (λ e. full.1 ((block_tested c (esis kept)).0 e)) (λ e. (block_tested c (esis kept)).1 (full.0 e))
    ∙ ap (λ n. n == c.row.k) (length-map kept (λ (p : Pair). p.esi))

pub complete_count : CompleteByCount
complete_count (NoCode k) kept are = complete_below k kept (range_below k kept are.range) are.new
complete_count (Raptor c) kept are = complete_raptor c kept are
