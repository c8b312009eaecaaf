-- What calls do to a block under Compact No-Code in memory.
use Rattle.std.proofs.Common.{◌≡◌, ℕ, ◌+◌, ◌-◌, ◌*◌, ◌<◌, ◌≤◌, ◌==◌, Bool, true, false, List, ◌++◌, length, take, drop, replicate, refl, sym, ◌∙◌, ap, arith, lt-ltb, length-append}
use Rattle.std.specs.List.{concat}
use Rattle.std.proofs.lemmas.Bool.{eqb-true}
use Rattle.std.proofs.lemmas.List.{length-replicate}
use Rattle.mb_bits.specs.BitRow.{bit_in, Flips}
use Rattle.mb_decoder.specs.Block.{filled}
use Rattle.mb_way.specs.Way.{Way.NoCode}
use Rattle.mb_way.specs.Heard.{heard_as, hear, is_complete}
use Rattle.mb_way.specs.Solution.{sources}
use Rattle.mb_way.specs.declared.heard.Heard.TheVariants.{Kept, Determined}
use Rattle.mb_way.proofs.Counting.{complete_count}
use Rattle.mb_way.proofs.Keeping.{length_kept_with}
use Rattle.mb_block.specs.Buffer.{seen, IsBuffer}
use Rattle.mb_block.proofs.SeenLemmas.{IsPut, seen-put, seen-determined, seen-block, joined-seen}

pub heard-determined : (k t : ℕ) (bytes words : List ℕ) (esi : ℕ) → esi < k → bit_in words esi ≡ true → heard_as (NoCode k) (seen k t bytes words) esi ≡ Determined
heard-determined k t bytes words esi within bit = rw (lt-ltb esi k within, seen-determined k t bytes words esi within, bit) refl

pub heard-kept : (k t : ℕ) (bytes words : List ℕ) (esi : ℕ) → esi < k → bit_in words esi ≡ false → heard_as (NoCode k) (seen k t bytes words) esi ≡ Kept
heard-kept k t bytes words esi within bit = rw (lt-ltb esi k within, seen-determined k t bytes words esi within, bit) refl

-- a repeat changes nothing
pub hear-repeat : (k t : ℕ) (bytes words symbol : List ℕ) (esi : ℕ) → esi < k → bit_in words esi ≡ true
    → hear (NoCode k) (seen k t bytes words) (record { esi = esi; symbol = symbol }) ≡ seen k t bytes words
hear-repeat k t bytes words symbol esi within bit = rw (heard-determined k t bytes words esi within bit) refl

pub length-filled : (t : ℕ) (bytes : List ℕ) → length bytes ≤ t → length (filled t bytes) ≡ t
length-filled t bytes most =
    let both = length-append bytes (replicate (t - length bytes) 0) in
    let zeros = length-replicate {A = ℕ} (t - length bytes) 0 in
    omega arith

-- one symbol more, by what calls gave
pub put_by : (k t : ℕ) (bytes words new_bytes new_words lent lent_words read_words symbol : List ℕ) (place u : ℕ) (bit : Bool)
    → place < k → length symbol ≤ t → bit ≡ bit_in read_words place → read_words ≡ words → bit ≡ false
    → Flips place lent_words new_words → lent_words ≡ words → u ≡ t
    → new_bytes ≡ take (place * u) lent ++ (filled u symbol ++ drop (place * u + u) lent) → lent ≡ bytes
    → IsPut k t bytes words new_bytes new_words (filled t symbol) place
put_by k t bytes words new_bytes new_words lent lent_words read_words symbol place u bit within most reads read clear flips lent_is u_is put lent_bytes = record {
  within = within;
  clear = ap (λ ws. bit_in ws place) (sym read) ∙ sym reads ∙ clear;
  flips = rw lent_is at flips;
  piece_is = length-filled t symbol most;
  bytes_are = rw (lent_bytes, u_is) at put;
}

pub buffer-put : (k t : ℕ) (bytes words new_bytes new_words piece : List ℕ) (kept place : ℕ) → IsBuffer k t bytes words kept
    → IsPut k t bytes words new_bytes new_words piece place → length new_bytes ≡ length bytes → IsBuffer k t new_bytes new_words (kept + 1)
buffer-put k t bytes words new_bytes new_words piece kept place b p same = record {
  some = b.some;
  most = b.most;
  symbol = b.symbol;
  bytes_are = same ∙ b.bytes_are;
  words_are = p.flips.words ∙ b.words_are;
  kept_are = ap (λ n. n + 1) b.kept_are
      ∙ sym (length_kept_with (NoCode k) (record { esi = place; symbol = piece }) (seen k t bytes words))
      ∙ sym (ap length (seen-put k t bytes words new_bytes new_words piece place b.bytes_are p));
}

pub hear-put : (k t : ℕ) (bytes words new_bytes new_words piece : List ℕ) (kept place : ℕ) → IsBuffer k t bytes words kept
    → IsPut k t bytes words new_bytes new_words piece place
    → seen k t new_bytes new_words ≡ hear (NoCode k) (seen k t bytes words) (record { esi = place; symbol = piece })
hear-put k t bytes words new_bytes new_words piece kept place b p =
    rw (heard-kept k t bytes words place p.within p.clear) (seen-put k t bytes words new_bytes new_words piece place b.bytes_are p)

-- the block is complete where as many symbols are kept as it has
pub complete-seen : (k t : ℕ) (bytes words : List ℕ) (kept : ℕ) → IsBuffer k t bytes words kept → (kept == k) ≡ is_complete (NoCode k) (seen k t bytes words)
complete-seen k t bytes words kept b =
    ap (λ n. n == k) b.kept_are ∙ sym (complete_count (NoCode k) (seen k t bytes words) (seen-block k t bytes words kept b).kept)

-- the source symbols of a block that is complete are its bytes
pub solved : (k t : ℕ) (bytes words : List ℕ) (kept : ℕ) → IsBuffer k t bytes words kept → is_complete (NoCode k) (seen k t bytes words) ≡ true
    → concat (sources (NoCode k) t (seen k t bytes words)) ≡ bytes
unfolding sources
solved k t bytes words kept b whole =
    let all : kept ≡ k = eqb-true kept k (complete-seen k t bytes words kept b ∙ whole) in
    joined-seen k t bytes words b.bytes_are (sym b.kept_are ∙ all)
