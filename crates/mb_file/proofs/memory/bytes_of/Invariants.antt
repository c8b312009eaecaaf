use Rattle.std.proofs.Common.{◌≡◌, ◌≤◌, ◌*◌, ◌^◌, take, sum_by}
use Rattle.mb_file.specs.FileView.{place_bytes}
use Rattle.mb_file.proofs.memory.bytes_of.Given as goal

-- the bytes of the places so far
abbrev pub invariant-loop-place : goal.invariant-loop-place
invariant-loop-place l = record {
  exact : l.bytes ≡ sum_by place_bytes (take l.place-index l.places);
  small : l.bytes ≤ l.place-index * 2 ^ 33;
}
