use Rattle.std.proofs.Common.{◌≡◌, string_bytes, take}
use Rattle.mb_rx.specs.Lines as line
use Rattle.mb_rx.proofs.lines.digest_text.Given as goal

abbrev pub invariant-loop-byte : goal.invariant-loop-byte
invariant-loop-byte l = string_bytes l.text ≡ line.digest_text (take l.byte-index l.digest)
