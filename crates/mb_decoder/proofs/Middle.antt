-- Bytes that are written at the place of one symbol.
use Rattle.std.proofs.Common.{◌≡◌, ◌≢◌, ℕ, suc, ◌+◌, ◌-◌, ◌*◌, ◌<◌, ◌≤◌, ◌⊎◌, inl, inr, true, false, List, length, take, drop, slice_index, ap, sym, ◌∙◌, arith}
use Rattle.std.proofs.lemmas.Bool.{cases_lt, cases_eq}
use Rattle.std.proofs.lemmas.List.{length-take-le, get_or-take, get_or-drop, get_or-append_right}
use Rattle.std.proofs.lemmas.Grind.{common_steps}
use Rattle.std.proofs.lemmas.Slice.{take-put_mid, take-put_mid_below, drop-put_mid}
use borrow.Rule.Slice.PartMut.{put_mid}
use Rattle.mb_bits.specs.BitRow.{bit_in, Flips}
use Rattle.mb_elim.specs.Values.{byte_at}
use Rattle.mb_elim.proofs.RowsInWords.{row_within}
use Rattle.mb_decoder.specs.Sources.{IsCopied, AreCopied}

pub mid_own : (t at k n b : ℕ) (xs ys : List ℕ) → at ≡ t * n → at ≤ length xs → length ys ≡ t → b < t → byte_at t (put_mid at k xs ys) n b ≡ slice_index ys b
mid_own t at k n b xs ys e p long q =
    let front = length-take-le at xs p in
    let left : (t * n + b) - at ≡ b = omega arith in
    sym (get_or-take (at + t) (put_mid at k xs ys) (t * n + b) 0 (omega arith))
    ∙ ap (λ (zs : List ℕ). slice_index zs (t * n + b)) (take-put_mid at k xs ys (at + t) (omega arith) p)
    ∙ get_or-append_right (take at xs) ys at (t * n + b) 0 front (omega arith)
    ∙ ap (slice_index ys) left

mid_by : (t at k n i b : ℕ) (xs ys : List ℕ) → at ≡ t * n → at + t ≤ length xs → k ≡ t → length ys ≡ k → i ≢ n → b < t → (i < n) ⊎ (n ≤ i)
    → byte_at t (put_mid at k xs ys) i b ≡ byte_at t xs i b
mid_by t at k n i b xs ys e p f long other q (inl r) =
    let room = row_within t i n r in
    sym (get_or-take at (put_mid at k xs ys) (t * i + b) 0 (omega arith))
    ∙ ap (λ (zs : List ℕ). slice_index zs (t * i + b)) (take-put_mid_below at k xs ys at (omega arith) (omega arith))
    ∙ get_or-take at xs (t * i + b) 0 (omega arith)
mid_by t at k n i b xs ys e p f long other q (inr r) =
    let room = row_within t n i (omega arith) in
    let there : (at + t) + ((t * i + b) - (at + t)) ≡ t * i + b = omega arith in
    ap (slice_index (put_mid at k xs ys)) (sym there)
    ∙ sym (get_or-drop (at + t) (put_mid at k xs ys) ((t * i + b) - (at + t)) 0)
    ∙ ap (λ (zs : List ℕ). slice_index zs ((t * i + b) - (at + t))) (drop-put_mid at k xs ys (at + t) (omega arith) (omega arith) long)
    ∙ get_or-drop (at + t) xs ((t * i + b) - (at + t)) 0
    ∙ ap (slice_index xs) there

pub mid_other : (t at k n i b : ℕ) (xs ys : List ℕ) → at ≡ t * n → at + t ≤ length xs → k ≡ t → length ys ≡ k → i ≢ n → b < t
    → byte_at t (put_mid at k xs ys) i b ≡ byte_at t xs i b
mid_other t at k n i b xs ys e p f long other q = mid_by t at k n i b xs ys e p f long other q (cases_lt i n)

pub mid_length : (at k : ℕ) (xs ys : List ℕ) → at + k ≤ length xs → length ys ≡ k → length (put_mid at k xs ys) ≡ length xs
mid_length at k xs ys p long = grind (arith, common_steps)

-- ---- what is put

put_by : (t n next at k esi b : ℕ) (f : ℕ → ℕ → ℕ) (noted xs ys out : List ℕ) → next ≡ suc n → at ≡ t * n → at + t ≤ length xs → k ≡ t → length ys ≡ k
    → ((d : ℕ) → d < t → slice_index ys d ≡ f n d) → out ≡ put_mid at k xs ys
    → ((i d : ℕ) → i < n → bit_in noted i ≡ false → d < t → byte_at t xs i d ≡ f i d)
    → esi < next → bit_in noted esi ≡ false → b < t → (esi ≡ n) ⊎ (esi ≢ n) → byte_at t out esi b ≡ f esi b
put_by t n next at k esi b f noted xs ys out e g p h long sum is before q y r (inl same) =
    ap (λ (zs : List ℕ). byte_at t zs esi b) is ∙ ap (λ (i : ℕ). byte_at t (put_mid at k xs ys) i b) same
    ∙ mid_own t at k n b xs ys g (omega arith) (omega arith) r ∙ sum b r ∙ ap (λ (i : ℕ). f i b) (sym same)
put_by t n next at k esi b f noted xs ys out e g p h long sum is before q y r (inr other) =
    ap (λ (zs : List ℕ). byte_at t zs esi b) is ∙ mid_other t at k n esi b xs ys g p h long other r
    ∙ before esi b (let below : esi < n = omega arith in below) y r

pub put_more : (t n next at k : ℕ) (f : ℕ → ℕ → ℕ) (noted xs ys out : List ℕ) → next ≡ suc n → at ≡ t * n → at + t ≤ length xs → k ≡ t → length ys ≡ k
    → ((d : ℕ) → d < t → slice_index ys d ≡ f n d) → out ≡ put_mid at k xs ys
    → ((i d : ℕ) → i < n → bit_in noted i ≡ false → d < t → byte_at t xs i d ≡ f i d)
    → (esi b : ℕ) → esi < next → bit_in noted esi ≡ false → b < t → byte_at t out esi b ≡ f esi b
put_more t n next at k f noted xs ys out e g p h long sum is before esi b q y r =
    put_by t n next at k esi b f noted xs ys out e g p h long sum is before q y r (cases_eq esi n)

-- what was copied stays
pub put_stay : (t n at k esi b : ℕ) (noted xs ys out : List ℕ) → at ≡ t * n → at + t ≤ length xs → k ≡ t → length ys ≡ k → out ≡ put_mid at k xs ys → bit_in noted n ≡ false
    → bit_in noted esi ≡ true → b < t → byte_at t out esi b ≡ byte_at t xs esi b
put_stay t n at k esi b noted xs ys out g p h long is unset set q =
    ap (λ (zs : List ℕ). byte_at t zs esi b) is
    ∙ mid_other t at k n esi b xs ys g p h long (λ same. let at_n = ap (bit_in noted) same in cc (at_n, unset, set)) q

skip_by : (t n next esi b : ℕ) (f : ℕ → ℕ → ℕ) (noted xs : List ℕ) → next ≡ suc n → bit_in noted n ≡ true
    → ((i d : ℕ) → i < n → bit_in noted i ≡ false → d < t → byte_at t xs i d ≡ f i d) → esi < next → bit_in noted esi ≡ false → b < t → (esi ≡ n) ⊎ (esi ≢ n)
    → byte_at t xs esi b ≡ f esi b
skip_by t n next esi b f noted xs e set before q y r (inl same) = absurd (let at_n = ap (bit_in noted) same in cc (at_n, set, y))
skip_by t n next esi b f noted xs e set before q y r (inr other) = before esi b (let below : esi < n = omega arith in below) y r

pub put_skip : (t n next : ℕ) (f : ℕ → ℕ → ℕ) (noted xs : List ℕ) → next ≡ suc n → bit_in noted n ≡ true
    → ((i d : ℕ) → i < n → bit_in noted i ≡ false → d < t → byte_at t xs i d ≡ f i d) → (esi b : ℕ) → esi < next → bit_in noted esi ≡ false → b < t
    → byte_at t xs esi b ≡ f esi b
put_skip t n next f noted xs e set before esi b q y r = skip_by t n next esi b f noted xs e set before q y r (cases_eq esi n)

-- ---- what is copied

copied_by : (t k n next esi j : ℕ) (es xs old new copy out : List ℕ) → next ≡ suc n → slice_index es n ≡ esi → Flips esi old new
    → ((b : ℕ) → b < t → byte_at t out esi b ≡ byte_at t xs n b) → ((i b : ℕ) → i ≢ esi → b < t → byte_at t out i b ≡ byte_at t copy i b)
    → AreCopied t k n es xs old copy → j < k → bit_in new j ≡ true → (j ≡ esi) ⊎ (j ≢ esi) → IsCopied t next es xs j out
copied_by t k n next esi j es xs old new copy out e own flips put stay copied p y (inl same) = record {
  index = n;
  within = omega arith;
  esi_is = own ∙ sym same;
  bytes_are = λ b q. ap (λ (i : ℕ). byte_at t out i b) same ∙ put b q;
}
copied_by t k n next esi j es xs old new copy out e own flips put stay copied p y (inr other) =
    let before = copied j p (sym (flips.others j other) ∙ y) in
    let within = before.within in record {
      index = before.index;
      within = omega arith;
      esi_is = before.esi_is;
      bytes_are = λ b q. stay j b other q ∙ before.bytes_are b q;
    }

pub copied_more : (t k n next esi : ℕ) (es xs old new copy out : List ℕ) → next ≡ suc n → slice_index es n ≡ esi → Flips esi old new
    → ((b : ℕ) → b < t → byte_at t out esi b ≡ byte_at t xs n b) → ((i b : ℕ) → i ≢ esi → b < t → byte_at t out i b ≡ byte_at t copy i b)
    → AreCopied t k n es xs old copy → AreCopied t k next es xs new out
copied_more t k n next esi es xs old new copy out e own flips put stay copied j p y =
    copied_by t k n next esi j es xs old new copy out e own flips put stay copied p y (cases_eq j esi)

pub copied_same : (t k n next : ℕ) (es xs noted copy : List ℕ) → next ≡ suc n → AreCopied t k n es xs noted copy → AreCopied t k next es xs noted copy
copied_same t k n next es xs noted copy e copied j p y =
    let before = copied j p y in
    let within = before.within in record {
      index = before.index;
      within = omega arith;
      esi_is = before.esi_is;
      bytes_are = before.bytes_are;
    }

-- byte b of a run of t bytes
pub run_byte : (t from k n b : ℕ) (xs : List ℕ) → from ≡ t * n → k ≡ t → b < t → slice_index (take k (drop from xs)) b ≡ byte_at t xs n b
run_byte t from k n b xs e f p = get_or-take k (drop from xs) b 0 (omega arith) ∙ get_or-drop from xs b 0 ∙ ap (λ (i : ℕ). slice_index xs (i + b)) e
