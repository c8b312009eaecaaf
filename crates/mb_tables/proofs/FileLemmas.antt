-- Lemmas on how the parts of a tables file make its answer.
use Rattle.std.proofs.Common.{◌≡◌, ℕ, ◌+◌, ◌^◌, ◌<◌, ◌≤◌, List, ◌++◌, length, take, refl, sym, ap, ◌∙◌, arith, length-append, inl, inr}
use Rattle.std.proofs.lemmas.List.{take_all, take-append-le}
use Rattle.std.specs.Prelude.{flat_map}
use Rattle.mb_base.specs.Number.{be_bytes}
use Rattle.mb_base.proofs.NumberLemmas.{length-be_bytes}
use Rattle.mb_tables.specs.Tables.{AreWords, AreRows, magic, row_bytes, head_bytes}
use Rattle.mb_tables.specs.Refused.{HasRows}
use Rattle.mb_tables.specs.Parts.{IsShort, StopsAt, RowsStop, StopsBehind, IsBehind, Explains}
use Rattle.mb_tables.specs.declared.row.Row.{Row}
use Rattle.mb_tables.specs.declared.fault.TablesFault.{TablesFault}
use Rattle.mb_tables.specs.declared.fault.TablesFault.TheVariants.{Magic, Truncated, Order, Range, Trailing, SourceFault, Memory}
use Rattle.mb_tables.proofs.RowLemmas.{length-words, length-rows}

-- the file is cut before its rows
pub head-cut : (at wanted : ℕ) (fault : TablesFault) (front rest : List ℕ) → length front ≡ at → 8 ≤ at → take 8 front ≡ magic
    → at + wanted ≤ 2058 → IsShort at wanted fault rest → Explains fault (front ++ rest)
head-cut at wanted Magic front rest len behind begins fits short = absurd short
head-cut at wanted (Truncated place) front rest len behind begins fits short =
    let size = length-append front rest in
    let same : take 8 (front ++ rest) ≡ take (length (front ++ rest)) magic =
    take-append-le 8 front rest (omega arith) ∙ begins ∙ sym (take_all (length (front ++ rest)) magic (omega arith)) in
    (omega (arith, short.0, size), inl (record { begins = same; short = omega (arith, short.1, size) }))
head-cut at wanted (Order number) front rest len behind begins fits short = absurd short
head-cut at wanted (Range number field) front rest len behind begins fits short = absurd short
head-cut at wanted Trailing front rest len behind begins fits short = absurd short
head-cut at wanted SourceFault front rest len behind begins fits short = tt
head-cut at wanted Memory front rest len behind begins fits short = tt

pub words-size : (words : List ℕ) → AreWords words → length (flat_map (be_bytes 4) words) ≡ 1024
words-size words good = omega (arith, length-words words, good.count)

pub head-size : (v0 v1 : List ℕ) (count : ℕ) → AreWords v0 → AreWords v1 → length (head_bytes v0 v1 count) ≡ 2058
head-size v0 v1 count words0 words1 =
    let first = flat_map (be_bytes 4) v0 in
    let second = flat_map (be_bytes 4) v1 in
    let whole = length-append magic (first ++ (second ++ be_bytes 2 count)) in
    omega (arith, whole, length-append first (second ++ be_bytes 2 count), length-append second (be_bytes 2 count), words-size v0 words0, words-size v1 words1, length-be_bytes 2 count)

has-rows : (v0 v1 : List ℕ) (count : ℕ) (fault : TablesFault) (rest : List ℕ) → AreWords v0 → AreWords v1 → count < 2 ^ 16
    → (s : RowsStop count fault rest) → HasRows (head_bytes v0 v1 count ++ rest) s.rows s.later
has-rows v0 v1 count fault rest words0 words1 fits s = record {
  v0 = v0;
  v1 = v1;
  count = count;
  words0 = words0;
  words1 = words1;
  fits = fits;
  whole = ap (λ l. head_bytes v0 v1 count ++ l) s.whole;
  good = s.good;
  more = s.more;
}

-- the rows are refused
pub rows-stop : (v0 v1 : List ℕ) (count : ℕ) (fault : TablesFault) (rest : List ℕ) → AreWords v0 → AreWords v1 → count < 2 ^ 16
    → StopsBehind count fault rest → Explains fault (head_bytes v0 v1 count ++ rest)
rows-stop v0 v1 count Magic rest words0 words1 fits s = absurd s
rows-stop v0 v1 count (Truncated place) rest words0 words1 fits s =
    let head = head_bytes v0 v1 count in
    let rows = flat_map row_bytes s.rows in
    let size = length-append head rest in
    let inner = ap length s.whole ∙ length-append rows s.later in (
      omega (arith, s.stop.0, size, inner, head-size v0 v1 count words0 words1, length-rows s.rows),
      inr (record { rows = s.rows; later = s.later; has = has-rows v0 v1 count (Truncated place) rest words0 words1 fits s; cut = s.stop.1 }),
    )
rows-stop v0 v1 count (Order number) rest words0 words1 fits s =
    record { rows = s.rows; later = s.later; has = has-rows v0 v1 count (Order number) rest words0 words1 fits s; number_is = s.stop.0; below = s.stop.1 }
rows-stop v0 v1 count (Range number field) rest words0 words1 fits s =
    record { rows = s.rows; later = s.later; has = has-rows v0 v1 count (Range number field) rest words0 words1 fits s; number_is = s.stop.0; out = s.stop.1 }
rows-stop v0 v1 count Trailing rest words0 words1 fits s = absurd s
rows-stop v0 v1 count SourceFault rest words0 words1 fits s = tt
rows-stop v0 v1 count Memory rest words0 words1 fits s = tt

-- rows behind which none good comes
pub stops-behind : (count : ℕ) (rows : List Row) (fault : TablesFault) (later : List ℕ) → AreRows rows → length rows < count
    → StopsAt rows fault later → StopsBehind count fault (flat_map row_bytes rows ++ later)
stops-behind count rows Magic later good more stop = absurd stop
stops-behind count rows (Truncated place) later good more stop = record { rows = rows; later = later; whole = refl; good = good; more = more; stop = stop }
stops-behind count rows (Order number) later good more stop = record { rows = rows; later = later; whole = refl; good = good; more = more; stop = stop }
stops-behind count rows (Range number field) later good more stop = record { rows = rows; later = later; whole = refl; good = good; more = more; stop = stop }
stops-behind count rows Trailing later good more stop = absurd stop
stops-behind count rows SourceFault later good more stop = tt
stops-behind count rows Memory later good more stop = tt

-- bytes follow the tables
pub trailing : (v0 v1 : List ℕ) (count : ℕ) (rows : List Row) (fault : TablesFault) (rest : List ℕ) → AreWords v0 → AreWords v1 → AreRows rows
    → length rows ≡ count → IsBehind fault rest → Explains fault ((head_bytes v0 v1 count ++ flat_map row_bytes rows) ++ rest)
trailing v0 v1 count rows Magic rest words0 words1 good same s = absurd s
trailing v0 v1 count rows (Truncated place) rest words0 words1 good same s = absurd s
trailing v0 v1 count rows (Order number) rest words0 words1 good same s = absurd s
trailing v0 v1 count rows (Range number field) rest words0 words1 good same s = absurd s
trailing v0 v1 count rows Trailing rest words0 words1 good same s = record {
  tables = record { v0 = v0; v1 = v1; rows = rows };
  later = rest;
  good = record { v0 = words0; v1 = words1; rows = good };
  whole = ap (λ n. (head_bytes v0 v1 n ++ flat_map row_bytes rows) ++ rest) (sym same);
  more = s;
}
trailing v0 v1 count rows SourceFault rest words0 words1 good same s = tt
trailing v0 v1 count rows Memory rest words0 words1 good same s = tt
