-- Sums of bytes by lanes.
use Rattle.std.proofs.Common.{◌≡◌, ℕ, ◌<◌, ◌≤◌, List, length, take, slice_index, bit_xor, refl, ap, ap₂, sym, subst, ◌∙◌, arith}
use lib.Lanes.{zip2, put_chunk}
use Rattle.std.proofs.lemmas.Simd.{length-zip2, put_chunk_whole, get_or-zip2}
use Rattle.std.proofs.lemmas.List.{take_all}
use Rattle.mb_bits.specs.Xor.{IsXored}

zipped : (f : ℕ → ℕ → ℕ) → ((a b : ℕ) → f a b ≡ bit_xor a b) → (dst src : List ℕ) → length dst ≡ length src → IsXored src dst (zip2 f dst src)
zipped f e dst src l = record {
  count = length-zip2 f dst src l;
  each = λ i p. let q : i < length src = omega arith in get_or-zip2 f dst src i 0 0 0 p q ∙ e (slice_index dst i) (slice_index src i);
}

pub xored_block : (f : ℕ → ℕ → ℕ) → ((a b : ℕ) → f a b ≡ bit_xor a b) → (dst src : List ℕ) → length dst ≡ 32 → length src ≡ 32
    → IsXored src dst (put_chunk 0 dst (zip2 f (take 32 dst) (take 32 src)))
xored_block f e dst src p q =
    let whole_dst : take 32 dst ≡ dst = take_all 32 dst (omega arith) in
    let whole_src : take 32 src ≡ src = take_all 32 src (omega arith) in
    let same : length dst ≡ length src = p ∙ sym q in
    let z = zipped f e dst src same in
    subst (IsXored src dst) (sym (ap (put_chunk 0 dst) (ap₂ (zip2 f) whole_dst whole_src) ∙ put_chunk_whole dst (zip2 f dst src) (sym z.count))) z
