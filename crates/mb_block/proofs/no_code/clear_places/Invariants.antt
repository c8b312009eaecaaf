use Rattle.std.proofs.Common.{◌≡◌, not}
use Rattle.std.specs.List.{filter, range_with_len}
use Rattle.mb_bits.specs.BitRow.{bit_in}
use Rattle.mb_block.proofs.no_code.clear_places.Given as goal

abbrev pub invariant-loop-place : goal.invariant-loop-place
invariant-loop-place l = l.places.items ≡ filter (λ e. not (bit_in l.words e)) (range_with_len 0 l.place)
