-- Parts of a text that are appended one after another.
use Rattle.std.proofs.Common.{◌≡◌, ℕ, ◌/◌, ◌%◌, ◌^◌, ◌<◌, List, [], ◌∷◌, ◌++◌, refl, append_assoc, arith}
use Rattle.mb_base.specs.Number.{be_bytes}
use Rattle.mb_fdt_text.specs.WrittenForm.{info_bytes}

pub info_is : (z n al : ℕ) → z < 2 ^ 16 → z / 256 ∷ z % 256 ∷ n ∷ al ∷ [] ≡ info_bytes z n al
unfolding be_bytes
info_is z n al fits =
    let high : z / 256 % 256 ≡ z / 256 = omega arith in
    let low : z / 1 % 256 ≡ z % 256 = omega arith in
    rw (high, low) refl

pub three_parts : (o a b c p q r : List ℕ) → p ≡ o ++ a → q ≡ p ++ b → r ≡ q ++ c → r ≡ o ++ (a ++ b ++ c)
three_parts o a b c p q r ep eq er = rw (er, eq, ep) (simp append_assoc)

pub eight_parts : (o a b c d e f g h p q r s t u v w : List ℕ) → p ≡ o ++ a → q ≡ p ++ b → r ≡ q ++ c → s ≡ r ++ d → t ≡ s ++ e → u ≡ t ++ f → v ≡ u ++ g → w ≡ v ++ h
    → w ≡ o ++ (a ++ b ++ c ++ d ++ e ++ f ++ g ++ h)
eight_parts o a b c d e f g h p q r s t u v w ep eq er es et eu ev ew = rw (ew, ev, eu, et, es, er, eq, ep) (simp append_assoc)
