use Rattle.std.proofs.Common.{arith, ◌≡◌, ℕ, slice_index}
use Rattle.std.specs.Int.{w64}
use Rattle.std.proofs.lemmas.Nat.Bits.{bit_at-trailing_zeros}
use Rattle.mb_bits.proofs.BitLemmas.{lowest_is_first}
use Rattle.mb_bits.proofs.row.first_bit.Goals as goal

pub returns-then-words-i-ne0-clause-first : goal.returns-then-words-i-ne0-clause-first
returns-then-words-i-ne0-clause-first c =
    let low = bit_at-trailing_zeros w64 (slice_index c.args.words.now c.loop-i.i) (omega arith) (omega (arith, c.type_inv.words c.loop-i.i)) in
    lowest_is_first c.args.words.now c.loop-i.i _ c.loop-i-test.true c.loop-i.invariant low.0 low.1 low.2
