-- How an encoder is made of an elimination, and keeps its block: as the intermediate symbols, one behind the other.
use Rattle.std.specs.Prelude.{◌≡◌, ℕ, ◌+◌, ◌*◌, ◌^◌, ◌<◌, List, length, slice_index}
use Rattle.mb_linear.specs.Span.{AreIndependent}
use Rattle.mb_elim.specs.Offered.{Offered}
use Rattle.mb_elim.specs.Kept.{firsts}
use Rattle.mb_elim.specs.Values.{byte_sum}
use Rattle.mb_rows.specs.Code.{RaptorCode, IsCode, l_of}
use Rattle.mb_rows.specs.Walk.{lt_row}
use Rattle.mb_rows.specs.Constraints.{constraint_row}
use Rattle.mb_rows.specs.Folding.{folded_row}
use Rattle.mb_rows.specs.Determined.{DetermineBlock}
use Rattle.mb_encoder.specs.Symbols.{SumToZero, symbols_of}
use Rattle.mb_encoder.specs.Usable.{source_esis}
use Rattle.mb_encoder.specs.Encoder.{Encoder}

-- the elimination of the folded rows of the source ESIs, each of which was new
pub record IsEliminated (c : RaptorCode) (e : Offered) : Type 0 where
  pub code : IsCode c
  pub rows : e ≡ record { places = c.row.k; news = firsts (folded_row c) c.row.k }
  pub independent : AreIndependent c.row.k (firsts (folded_row c) c.row.k)
  pub determine : DetermineBlock c (source_esis c.row.k)

-- the encoding symbol that the symbols give at an ESI
abbrev pub given_at : RaptorCode → ℕ → List ℕ → ℕ → List ℕ
given_at c t symbols esi = firsts (λ b. byte_sum b (lt_row c esi) (symbols_of t (l_of c) symbols)) t

abbrev pub encoder_of : RaptorCode → ℕ → List ℕ → Encoder
encoder_of c t symbols = record { code = c; t = t; sources = firsts (given_at c t symbols) c.row.k }

-- what holds of the symbols
pub record IsKept (c : RaptorCode) (t : ℕ) (symbols : List ℕ) : Type 0 where
  pub code : IsCode c
  pub count : length symbols ≡ t * l_of c
  pub bytes : (i : ℕ) → slice_index symbols i < 2 ^ 8
  pub meet : (i : ℕ) → i < c.row.s + c.h → SumToZero t (constraint_row c i) (symbols_of t (l_of c) symbols)
  pub determine : DetermineBlock c (source_esis c.row.k)
