-- The source symbols of a block, one behind the other, and the symbols that its encoder makes of them.
use Rattle.std.proofs.Common.{◌≡◌, ℕ, ◌+◌, ◌*◌, ◌<◌, ◌≤◌, ◌⊎◌, inl, inr, false, List, ◌++◌, length, map, slice_index, Option, Some, sym, subst, ap, ap₂, ◌∙◌, arith}
use Rattle.std.specs.Prelude.{option_map, unwrap_or}
use Rattle.std.specs.List.{range_with_len}
use Rattle.std.proofs.lemmas.Bool.{cases_lt}
use Rattle.std.proofs.lemmas.Grind.{common_steps, same_number_lists}
use Rattle.std.proofs.lemmas.List.{get_or_append_left, get_or-append-add}
use Rattle.std.proofs.lemmas.List.FromFn.{length-map-range_with_len, get_or-map-range_with_len}
use Rattle.mb_geom.specs.Description.{Description, block_size, is_no_code}
use Rattle.mb_geom.specs.SourceSymbol.{source_byte, source_symbol, source_symbols}
use Rattle.mb_geom.specs.declared.desc.Scheme.{Scheme}
use Rattle.mb_geom.specs.declared.desc.Scheme.TheVariants.{NoCode as NoCodeScheme, Raptor as RaptorScheme}
use Rattle.mb_tables.specs.Limits.{IsRow, IsH}
use Rattle.mb_tables.specs.Tables.{RaptorTables, AreTables, AreWords}
use Rattle.mb_elim.specs.Values.{byte_at, byte_sum}
use Rattle.mb_rows.specs.Code.{RaptorCode, IsCode, IsCodeOf}
use Rattle.mb_rows.specs.Walk.{lt_row}
use Rattle.mb_rows.proofs.FoldLemmas.{row_within}
use Rattle.mb_encoder.specs.Encoder.{Encoder, IsEncoderOf}
use Rattle.mb_encoder.specs.Symbols.{symbol_of, symbols_of}
use Rattle.mb_encoder.specs.Solutions.{IsSymbolAt, source_pairs}
use Rattle.mb_way.specs.Way.{Way, code_of}
use Rattle.mb_way.specs.Ways.{way_with}
use Rattle.mb_way.specs.Solution.{solution, symbol_over}
use Rattle.mb_way.proofs.CodeLemmas.{code_is}
use Rattle.mb_way.proofs.Solving.{solution_solves, map_range}
use Rattle.mb_sender.specs.Trace.{encoding_symbol}
use Rattle.mb_sender.specs.Block.{IsEncoderOfBlock}
use Rattle.mb_files.specs.declared.reading.SentFile.{SentFile}

-- ---- the symbols of a block, one behind the other

-- the first n symbols of a block stand in its bytes
pub record AreGathered (d : Description) (file : List ℕ) (sbn n : ℕ) (items : List ℕ) : Type 0 where
  pub count : length items ≡ d.symbol * n
  pub bytes : (i j : ℕ) → i < n → j < d.symbol → slice_index items (d.symbol * i + j) ≡ source_byte d file sbn i j

pub none-gathered : (d : Description) (file : List ℕ) (sbn : ℕ) (items : List ℕ) → length items ≡ 0 → AreGathered d file sbn 0 items
none-gathered d file sbn items none = record { count = omega (arith, none); bytes = λ i j below. absurd (omega (arith, below)) }

byte-of : (d : Description) (file : List ℕ) (sbn n j : ℕ) → j < d.symbol → slice_index (source_symbol d file sbn n) j ≡ source_byte d file sbn n j
unfolding source_symbol
byte-of d file sbn n j within = get_or-map-range_with_len (source_byte d file sbn n) 0 d.symbol j j 0 within (omega arith)

pub symbol-long : (d : Description) (file : List ℕ) (sbn n : ℕ) → length (source_symbol d file sbn n) ≡ d.symbol
unfolding source_symbol
symbol-long d file sbn n = length-map-range_with_len (source_byte d file sbn n) 0 d.symbol

byte-more : (d : Description) (file : List ℕ) (sbn n : ℕ) (items : List ℕ) → AreGathered d file sbn n items → (i j : ℕ) → i < n + 1 → j < d.symbol → (i < n) ⊎ (n ≤ i)
    → slice_index (items ++ source_symbol d file sbn n) (d.symbol * i + j) ≡ source_byte d file sbn i j
byte-more d file sbn n items are i j below within (inl before) =
    let place : d.symbol * i + j < length items = omega (arith, row_within d.symbol i n before, within, are.count) in
    get_or_append_left items (source_symbol d file sbn n) 0 (d.symbol * i + j) place ∙ are.bytes i j before within
byte-more d file sbn n items are i j below within (inr behind) =
    let same : i ≡ n = omega (arith, below, behind) in
    let place : d.symbol * i + j ≡ length items + j = ap (λ m. d.symbol * m + j) same ∙ ap (λ m. m + j) (sym are.count) in
    ap (slice_index (items ++ source_symbol d file sbn n)) place ∙ get_or-append-add items (source_symbol d file sbn n) j 0
    ∙ byte-of d file sbn n j within ∙ ap (λ m. source_byte d file sbn m j) (sym same)

-- one symbol more
pub more-gathered : (d : Description) (file : List ℕ) (sbn n : ℕ) (items symbol new : List ℕ) → AreGathered d file sbn n items → symbol ≡ source_symbol d file sbn n
    → new ≡ items ++ symbol → AreGathered d file sbn (n + 1) new
more-gathered d file sbn n items symbol new are symbol_is new_is =
    let is : items ++ source_symbol d file sbn n ≡ new = ap (λ (ys : List ℕ). items ++ ys) (sym symbol_is) ∙ sym new_is in
    let next : d.symbol * (n + 1) ≡ d.symbol * n + d.symbol = grind arith in
    subst (AreGathered d file sbn (n + 1)) is (record {
      count = grind (arith, common_steps, are.count, symbol-long d file sbn n, next);
      bytes = λ i j below within. byte-more d file sbn n items are i j below within (cases_lt i n);
    })

-- all of them
pub gathered-long : (d : Description) (file : List ℕ) (sbn n : ℕ) (items : List ℕ) → n ≡ block_size d sbn → AreGathered d file sbn n items
    → length items ≡ block_size d sbn * d.symbol
gathered-long d file sbn n items n_is are =
    let turned : d.symbol * block_size d sbn ≡ block_size d sbn * d.symbol = grind arith in
    are.count ∙ ap (λ m. d.symbol * m) n_is ∙ turned

pub all-gathered : (d : Description) (file : List ℕ) (sbn n : ℕ) (items : List ℕ) → n ≡ block_size d sbn → AreGathered d file sbn n items
    → symbols_of d.symbol (block_size d sbn) items ≡ source_symbols d file sbn
unfolding source_symbol
all-gathered d file sbn n items n_is are =
    sym (map_range (source_symbol d file sbn) (symbol_of d.symbol items) (block_size d sbn) 0 (λ i p.
    let at : 0 + i ≡ i = omega arith in
    ap (source_symbol d file sbn) at
    ∙ map_range (source_byte d file sbn i) (byte_at d.symbol items i) d.symbol 0 (λ j q.
    let here : 0 + j ≡ j = omega arith in
    ap (source_byte d file sbn i) here ∙ sym (are.bytes i j (omega (arith, p, n_is)) q))))

-- ---- the encoder

pub encoder-is : (tables : RaptorTables) (file : SentFile) (sbn k t : ℕ) (block items : List ℕ) (e : Encoder) → AreTables tables → k ≡ block_size file.desc sbn
    → t ≡ file.desc.symbol → block ≡ items → IsEncoderOf tables k t block e
    → symbols_of file.desc.symbol (block_size file.desc sbn) items ≡ source_symbols file.desc file.bytes sbn → IsEncoderOfBlock tables file sbn e
encoder-is tables file sbn k t block items e are k_is t_is block_is is given = record {
  tables_are = are;
  code = subst (λ n. IsCodeOf tables n e.code) k_is is.code;
  t_is = is.t_is ∙ t_is;
  sources =
      is.sources ∙ ap₂ (λ n m. symbols_of n m block) t_is k_is ∙ ap (symbols_of file.desc.symbol (block_size file.desc sbn)) block_is ∙ given;
}

-- the code of tables is within their limits
code-good : (t : RaptorTables) (k : ℕ) (c : RaptorCode) → AreTables t → IsCodeOf t k c → IsCode c
code-good t k c are of = record {
  v0 = subst AreWords (sym of.v0) are.v0;
  v1 = subst AreWords (sym of.v1) are.v1;
  row = subst IsRow of.row.2 (are.rows.each of.row.0 c.row of.row.1);
  h = subst (λ n. IsH (n + c.row.s) c.h) (sym of.k_is) of.h;
}

way-is : (t : RaptorTables) (s : Scheme) (k : ℕ) (c : RaptorCode) → is_no_code s ≡ false → code_of t k ≡ Some c → way_with t s k ≡ Way.Raptor c
way-is t (NoCodeScheme b) k c coded is = absurd (cc coded)
way-is t (RaptorScheme z n al) k c coded is = ap (λ (o : Option RaptorCode). unwrap_or (option_map Way.Raptor o) (Way.NoCode k)) is

-- the symbol at an ESI is the sum of the solution over the ESI's row
sum-is : (c : RaptorCode) (t : ℕ) (sources : List (List ℕ)) (esi : ℕ) (out : List ℕ) → IsSymbolAt c t sources esi out
    → out ≡ symbol_over t (lt_row c esi) (solution c t (source_pairs sources))
sum-is c t sources esi out at =
    let pairs = source_pairs sources in
    let f : ℕ → ℕ = λ b. byte_sum b (lt_row c esi) (solution c t pairs) in
    sym (same_number_lists (map f (range_with_len 0 t)) out (length-map-range_with_len f 0 t ∙ sym at.is_symbol.long) (λ b p.
    let within : b < t = omega (arith, p, length-map-range_with_len f 0 t) in
    get_or-map-range_with_len f 0 t b b 0 within (omega arith) ∙ at.each (solution c t pairs) (solution_solves c t pairs at.some at.solve) b within))

over-is : (w : Way) (c : RaptorCode) (t : ℕ) (sources : List (List ℕ)) (esi : ℕ) → w ≡ Way.Raptor c
    → symbol_over t (lt_row c esi) (solution c t (source_pairs sources)) ≡ encoding_symbol w t sources esi
unfolding encoding_symbol
over-is w c t sources esi is = ap (λ (v : Way). encoding_symbol v t sources esi) (sym is)

-- what an encoder of the block makes is the encoding symbol
pub encoded : (tables : RaptorTables) (file : SentFile) (sbn esi : ℕ) (e : Encoder) (out : List ℕ) → IsEncoderOfBlock tables file sbn e
    → is_no_code file.desc.scheme ≡ false → IsSymbolAt e.code e.t e.sources esi out
    → out ≡ encoding_symbol (way_with tables file.desc.scheme (block_size file.desc sbn)) file.desc.symbol (source_symbols file.desc file.bytes sbn) esi
encoded tables file sbn esi e out is coded at =
    let k = block_size file.desc sbn in
    let way = way-is tables file.desc.scheme k e.code coded (code_is tables k e.code is.tables_are (code-good tables k e.code is.tables_are is.code) is.code) in
    sum-is e.code e.t e.sources esi out at ∙ over-is _ e.code e.t e.sources esi way
    ∙ ap₂ (λ t (sources : List (List ℕ)). encoding_symbol (way_with tables file.desc.scheme k) t sources esi) is.t_is is.sources
