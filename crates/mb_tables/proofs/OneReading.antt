-- Bytes are read in one way.
use Rattle.std.proofs.Common.{◌≡◌, ◌≢◌, ℕ, ◌+◌, ◌*◌, ◌^◌, ◌<◌, ◌≤◌, List, [], ◌∷◌, ◌++◌, length, get_or, take, drop, Result, Ok, Err, refl, sym, ap, ap₂, subst, ◌∙◌, arith, append_assoc, append-nil, length-append, inl, inr, ◌⊎◌}
use Rattle.std.proofs.lemmas.List.{take_at, drop_at, take_all, get_or_at}
use Rattle.std.proofs.lemmas.List.Elements.{All-nil, All-cons, All-head, All-tail}
use Rattle.std.specs.Prelude.{flat_map, All, IfOk, IfErr, Option, Some, None}
use Rattle.mb_base.specs.Number.{be_number, be_bytes}
use Rattle.mb_base.proofs.NumberLemmas.{length-be_bytes, numbers_read_back}
use Rattle.mb_tables.specs.Limits.{IsRow, IsOut}
use Rattle.mb_tables.specs.Tables.{RaptorTables, AreWords, AreRows, IsAbove, IsRising, IsTables, magic, row_bytes, head_bytes}
use Rattle.mb_tables.specs.Parts.{Explains}
use Rattle.mb_tables.specs.Refused.{ReadsTold, IsReadingOf, Tells, BeginsAsTables, IsCutHead, IsCutRow, IsBelow, HasOut, FitsFields, HasRows, Reads, next_k}
use Rattle.mb_tables.specs.declared.row.Row.{Row}
use Rattle.mb_tables.specs.declared.fault.TablesFault.{TablesFault}
use Rattle.mb_tables.specs.declared.fault.TablesFault.TheVariants.{Magic, Truncated, Order, Range, Trailing, SourceFault, Memory}
use Rattle.mb_tables.proofs.RowLemmas.{length-row_bytes, length-rows, rows-most}
use Rattle.mb_tables.proofs.LimitLemmas.{choose-16}
use Rattle.mb_tables.proofs.FileLemmas.{head-size, words-size}

-- ---- parts of lists

-- two lists in two parts each, where the first parts are as long
pub same-front : (a b x y : List ℕ) → length a ≡ length b → a ++ x ≡ b ++ y → a ≡ b
same-front a b x y len e = sym (take_at a x (length b) len) ∙ ap (take (length b)) e ∙ take_at b y (length b) refl

pub same-back : (a b x y : List ℕ) → length a ≡ length b → a ++ x ≡ b ++ y → x ≡ y
same-back a b x y len e = sym (drop_at a x (length b) len) ∙ ap (drop (length b)) e ∙ drop_at b y (length b) refl

-- ---- numbers

pub same-number : (w m n : ℕ) → m < 256 ^ w → n < 256 ^ w → be_bytes w m ≡ be_bytes w n → m ≡ n
same-number w m n small fits e = sym (numbers_read_back w m small) ∙ ap be_number e ∙ numbers_read_back w n fits

pub same-words : (v w : List ℕ) → length v ≡ length w → All (λ word. word < 2 ^ 32) v → All (λ word. word < 2 ^ 32) w
    → flat_map (be_bytes 4) v ≡ flat_map (be_bytes 4) w → v ≡ w
same-words [] [] len p q e = refl
same-words [] (y ∷ w) len p q e = absurd (omega (arith, len))
same-words (x ∷ v) [] len p q e = absurd (omega (arith, len))
same-words (x ∷ v) (y ∷ w) len p q e =
    let sizes : length (be_bytes 4 x) ≡ length (be_bytes 4 y) = length-be_bytes 4 x ∙ sym (length-be_bytes 4 y) in
    ap₂ ◌∷◌
    (same-number 4 x y (All-head (λ word. word < 2 ^ 32) x v p) (All-head (λ word. word < 2 ^ 32) y w q) (same-front _ _ _ _ sizes e))
    (same-words v w (omega (arith, len)) (All-tail (λ word. word < 2 ^ 32) x v p) (All-tail (λ word. word < 2 ^ 32) y w q) (same-back _ _ _ _ sizes e))

-- ---- rows

-- each number of a row within its limits fits its field
pub row-fields : (row : Row) → IsRow row → FitsFields row
row-fields row is =
    let h = is.lp.is_l.h in
    let few : 16 < h → ⊥ = λ (over : 16 < h). omega (arith, is.lp.is_l.is_h.least 16 over, choose-16, is.k.most, is.s.most) in
    let s-most = is.s.most in
    let k-most = is.k.most in
    record {
      k = omega (arith, k-most);
      j = is.j;
      s = omega (arith, s-most);
      lp = omega (arith, is.lp.below, is.lp.is_l.is, few, k-most, s-most);
    }

pub row-of : ℕ → ℕ → ℕ → ℕ → Row
row-of k j s lp = record { k = k; j = j; s = s; lp = lp }

pub same-fields : (a b : Row) → a.k ≡ b.k → a.j ≡ b.j → a.s ≡ b.s → a.lp ≡ b.lp → a ≡ b
unfolding row-of
same-fields a b k j s lp = ap (λ x. row-of x a.j a.s a.lp) k ∙ ap (λ x. row-of b.k x a.s a.lp) j ∙ ap (λ x. row-of b.k b.j x a.lp) s ∙ ap (λ x. row-of b.k b.j b.s x) lp

pub same-row : (a b : Row) → FitsFields a → FitsFields b → row_bytes a ≡ row_bytes b → a ≡ b
same-row a b p q e =
    let k-len = length-be_bytes 2 a.k ∙ sym (length-be_bytes 2 b.k) in
    let j-len = length-be_bytes 2 a.j ∙ sym (length-be_bytes 2 b.j) in
    let s-len = length-be_bytes 2 a.s ∙ sym (length-be_bytes 2 b.s) in
    let behind-k = same-back _ _ _ _ k-len e in
    let behind-j = same-back _ _ _ _ j-len behind-k in
    let k = same-number 2 a.k b.k p.k q.k (same-front _ _ _ _ k-len e) in
    let j = same-number 2 a.j b.j p.j q.j (same-front _ _ _ _ j-len behind-k) in
    let s = same-number 2 a.s b.s p.s q.s (same-front _ _ _ _ s-len behind-j) in
    let lp = same-number 2 a.lp b.lp p.lp q.lp (same-back _ _ _ _ s-len behind-j) in
    same-fields a b k j s lp

-- a row is above those before it
pub above-before : (done : List Row) (row : Row) (later : List Row) → IsRising (done ++ row ∷ later) → IsAbove row.k done
above-before [] row later rising = All-nil (λ (other : Row). other.k < row.k)
above-before (first ∷ done) row later rising =
    let all = rising.0 in
    let here : get_or (done ++ row ∷ later) (length done) first ≡ row = get_or_at done row later first (length done) refl in
    let below = all (length done) first (omega (arith, length-append done (row ∷ later))) in
    All-cons (λ (other : Row). other.k < row.k) first done (subst (λ (r : Row). first.k < r.k) here below) (above-before done row later rising.1)

-- a row with a number outside its limits isn't a good one
pub not-out : (field : ℕ) (row : Row) → IsOut field row → IsRow row → ⊥
not-out field row (inl out) is = out.1 is.k
not-out field row (inr (inl out)) is = out.2 is.s
not-out field row (inr (inr out)) is = out.3 is.lp

-- the first such number is one
pub one-out : (f g : ℕ) (row : Row) → IsOut f row → IsOut g row → f ≡ g
one-out f g row (inl p) (inl q) = p.0 ∙ sym q.0
one-out f g row (inl p) (inr (inl q)) = absurd (p.1 q.1)
one-out f g row (inl p) (inr (inr q)) = absurd (p.1 q.1)
one-out f g row (inr (inl p)) (inl q) = absurd (q.1 p.1)
one-out f g row (inr (inl p)) (inr (inl q)) = p.0 ∙ sym q.0
one-out f g row (inr (inl p)) (inr (inr q)) = absurd (p.2 q.2)
one-out f g row (inr (inr p)) (inl q) = absurd (q.1 p.1)
one-out f g row (inr (inr p)) (inr (inl q)) = absurd (q.2 p.2)
one-out f g row (inr (inr p)) (inr (inr q)) = p.0 ∙ sym q.0

-- no good row comes next, or none is wanted
abbrev pub IsLast : ℕ → List Row → List ℕ → Type 0
IsLast count rows later = (length rows ≡ count) ⊎ ((row : Row) (rest : List ℕ) → later ≡ row_bytes row ++ rest → IsRow row → IsAbove row.k rows → ⊥)

-- another row stands where none good comes
pub not-last : (count : ℕ) (done : List Row) (row : Row) (more : List Row) (later rest : List ℕ) → IsLast count done later
    → later ≡ row_bytes row ++ rest → AreRows (done ++ row ∷ more) → length (done ++ row ∷ more) ≤ count → ⊥
not-last count done row more later rest (inl all) e good fits = omega (arith, all, fits, length-append done (row ∷ more))
not-last count done row more later rest (inr none) e good fits =
    let is : IsRow row = subst IsRow (get_or_at done row more row (length done) refl) (good.each (length done) row (omega (arith, length-append done (row ∷ more)))) in
    none row rest e is (above-before done row more good.rising)

-- the same rows behind those that are done
pub record AreSame (rows others : List Row) (later left : List ℕ) : Type 0 where
  pub rows-are : rows ≡ others
  pub later-are : later ≡ left

pub same-rows : (count : ℕ) (done rows others : List Row) (later left : List ℕ)
    → flat_map row_bytes rows ++ later ≡ flat_map row_bytes others ++ left
    → AreRows (done ++ rows) → AreRows (done ++ others) → length (done ++ rows) ≤ count → length (done ++ others) ≤ count
    → IsLast count (done ++ rows) later → IsLast count (done ++ others) left → AreSame rows others later left
same-rows count done [] [] later left e p q m n a b = record { rows-are = refl; later-are = e }
same-rows count done [] (y ∷ others) later left e p q m n a b =
    let here = subst (λ (l : List Row). IsLast count l later) (append-nil done) a in
    absurd (not-last count done y others later (flat_map row_bytes others ++ left) here (e ∙ append_assoc (row_bytes y) (flat_map row_bytes others) left) q n)
same-rows count done (x ∷ rows) [] later left e p q m n a b =
    let here = subst (λ (l : List Row). IsLast count l left) (append-nil done) b in
    absurd (not-last count done x rows left (flat_map row_bytes rows ++ later) here (sym e ∙ append_assoc (row_bytes x) (flat_map row_bytes rows) later) p m)
same-rows count done (x ∷ rows) (y ∷ others) later left e p q m n a b =
    let x-is : IsRow x = subst IsRow (get_or_at done x rows x (length done) refl) (p.each (length done) x (omega (arith, length-append done (x ∷ rows)))) in
    let y-is : IsRow y = subst IsRow (get_or_at done y others y (length done) refl) (q.each (length done) y (omega (arith, length-append done (y ∷ others)))) in
    let whole = sym (append_assoc (row_bytes x) (flat_map row_bytes rows) later) ∙ e ∙ append_assoc (row_bytes y) (flat_map row_bytes others) left in
    let sizes = length-row_bytes x ∙ sym (length-row_bytes y) in
    let same : x ≡ y = same-row x y (row-fields x x-is) (row-fields y y-is) (same-front _ _ _ _ sizes whole) in
    let left-shift = sym (append_assoc done (x ∷ []) rows) in
    let right-shift = sym (append_assoc done (y ∷ []) others) ∙ ap (λ (r : Row). (done ++ r ∷ []) ++ others) (sym same) in
    let rest = same-rows count (done ++ x ∷ []) rows others later left (same-back _ _ _ _ sizes whole)
    (subst AreRows left-shift p) (subst AreRows right-shift q)
    (subst (λ (l : List Row). length l ≤ count) left-shift m) (subst (λ (l : List Row). length l ≤ count) right-shift n)
    (subst (λ (l : List Row). IsLast count l later) left-shift a) (subst (λ (l : List Row). IsLast count l left) right-shift b) in
    record { rows-are = ap₂ ◌∷◌ same rest.rows-are; later-are = rest.later-are }

-- ---- answers behind the rows

-- the answer where these bytes are left behind these rows
abbrev pub Stops : List ℕ → List ℕ → ℕ → List Row → List ℕ → Result RaptorTables TablesFault → Type 0
Stops v0 v1 count rows later (Ok t) = (t ≡ record { v0 = v0; v1 = v1; rows = rows }) × (length rows ≡ count) × (later ≡ [])
Stops v0 v1 count rows later (Err Magic) = ⊥
Stops v0 v1 count rows later (Err (Truncated place)) = (place ≡ 2058 + 8 * length rows + length later) × (length rows < count) × IsCutRow rows later
Stops v0 v1 count rows later (Err (Order number)) = (number ≡ length rows) × (length rows < count) × IsBelow rows later
Stops v0 v1 count rows later (Err (Range number field)) = (number ≡ length rows) × (length rows < count) × HasOut field rows later
Stops v0 v1 count rows later (Err Trailing) = (length rows ≡ count) × (later ≢ [])
Stops v0 v1 count rows later (Err SourceFault) = ⊥
Stops v0 v1 count rows later (Err Memory) = ⊥

pub next-is : (row : Row) (rest : List ℕ) → FitsFields row → next_k (row_bytes row ++ rest) ≡ row.k
next-is row rest fits =
    let k = be_bytes 2 row.k in
    let others = be_bytes 2 row.j ++ (be_bytes 2 row.s ++ be_bytes 2 row.lp) in
    ap be_number (ap (take 2) (append_assoc k others rest) ∙ take_at k (others ++ rest) 2 (length-be_bytes 2 row.k)) ∙ numbers_read_back 2 row.k fits.k

-- where the rows stop, no good row comes
pub stops-last : (v0 v1 : List ℕ) (count : ℕ) (rows : List Row) (later : List ℕ) (answer : Result RaptorTables TablesFault)
    → Stops v0 v1 count rows later answer → IsLast count rows later
stops-last v0 v1 count rows later (Ok t) s = inl s.1
stops-last v0 v1 count rows later (Err Magic) s = absurd s
stops-last v0 v1 count rows later (Err (Truncated place)) s =
    inr (λ row rest e is above. omega (arith, s.2.short, ap length e, length-append (row_bytes row) rest, length-row_bytes row))
stops-last v0 v1 count rows later (Err (Order number)) s =
    inr (λ row rest e is above. s.2.below (subst (λ k. IsAbove k rows) (sym (ap next_k e ∙ next-is row rest (row-fields row is))) above))
stops-last v0 v1 count rows later (Err (Range number field)) s = inr (λ row rest e is above.
    let out = s.2 in
    let sizes = length-row_bytes row ∙ sym (length-row_bytes out.row) in
    let same : row ≡ out.row = same-row row out.row (row-fields row is) out.fits (same-front _ _ _ _ sizes (sym e ∙ out.is)) in
    not-out field out.row out.out (subst IsRow same is))
stops-last v0 v1 count rows later (Err Trailing) s = inl s.0
stops-last v0 v1 count rows later (Err SourceFault) s = absurd s
stops-last v0 v1 count rows later (Err Memory) s = absurd s

-- ---- one answer

abbrev refusal : TablesFault → Result RaptorTables TablesFault
refusal fault = Err fault

err-same : (f g : TablesFault) → f ≡ g → refusal f ≡ refusal g
err-same f g e = ap refusal e

too-short : (rows : List Row) (later : List ℕ) (field : ℕ) → IsCutRow rows later → HasOut field rows later → ⊥
too-short rows later field cut out = omega (arith, cut.short, ap length out.is, length-append (row_bytes out.row) out.others, length-row_bytes out.row)

is-above : (rows : List Row) (later : List ℕ) (field : ℕ) → IsBelow rows later → HasOut field rows later → ⊥
is-above rows later field low out =
    low.below (subst (λ k. IsAbove k rows) (sym (ap next_k out.is ∙ next-is out.row out.others out.fits)) out.above)

same-field : (rows : List Row) (later : List ℕ) (f g : ℕ) → HasOut f rows later → HasOut g rows later → f ≡ g
same-field rows later f g p q =
    let sizes = length-row_bytes p.row ∙ sym (length-row_bytes q.row) in
    let same : p.row ≡ q.row = same-row p.row q.row p.fits q.fits (same-front _ _ _ _ sizes (sym p.is ∙ q.is)) in
    one-out f g q.row (subst (IsOut f) same p.out) q.out

one-stop : (v0 v1 : List ℕ) (count : ℕ) (rows : List Row) (later : List ℕ) (a b : Result RaptorTables TablesFault)
    → Stops v0 v1 count rows later a → Stops v0 v1 count rows later b → a ≡ b
one-stop v0 v1 count rows later (Ok m) (Ok n) p q = ap (λ (t : RaptorTables). Ok t) (p.0 ∙ sym q.0)
one-stop v0 v1 count rows later (Ok m) (Err Magic) p q = absurd q
one-stop v0 v1 count rows later (Ok m) (Err (Truncated n)) p q = absurd (omega (arith, p.1, q.1))
one-stop v0 v1 count rows later (Ok m) (Err (Order n)) p q = absurd (omega (arith, p.1, q.1))
one-stop v0 v1 count rows later (Ok m) (Err (Range n g)) p q = absurd (omega (arith, p.1, q.1))
one-stop v0 v1 count rows later (Ok m) (Err Trailing) p q = absurd (q.1 p.2)
one-stop v0 v1 count rows later (Ok m) (Err SourceFault) p q = absurd q
one-stop v0 v1 count rows later (Ok m) (Err Memory) p q = absurd q
one-stop v0 v1 count rows later (Err Magic) b p q = absurd p
one-stop v0 v1 count rows later (Err (Truncated m)) (Ok n) p q = absurd (omega (arith, p.1, q.1))
one-stop v0 v1 count rows later (Err (Truncated m)) (Err Magic) p q = absurd q
one-stop v0 v1 count rows later (Err (Truncated m)) (Err (Truncated n)) p q = err-same (Truncated m) (Truncated n) (ap Truncated (p.0 ∙ sym q.0))
one-stop v0 v1 count rows later (Err (Truncated m)) (Err (Order n)) p q = absurd (q.2.below (p.2.above q.2.has))
one-stop v0 v1 count rows later (Err (Truncated m)) (Err (Range n g)) p q = absurd (too-short rows later g p.2 q.2)
one-stop v0 v1 count rows later (Err (Truncated m)) (Err Trailing) p q = absurd (omega (arith, p.1, q.0))
one-stop v0 v1 count rows later (Err (Truncated m)) (Err SourceFault) p q = absurd q
one-stop v0 v1 count rows later (Err (Truncated m)) (Err Memory) p q = absurd q
one-stop v0 v1 count rows later (Err (Order m)) (Ok n) p q = absurd (omega (arith, p.1, q.1))
one-stop v0 v1 count rows later (Err (Order m)) (Err Magic) p q = absurd q
one-stop v0 v1 count rows later (Err (Order m)) (Err (Truncated n)) p q = absurd (p.2.below (q.2.above p.2.has))
one-stop v0 v1 count rows later (Err (Order m)) (Err (Order n)) p q = err-same (Order m) (Order n) (ap Order (p.0 ∙ sym q.0))
one-stop v0 v1 count rows later (Err (Order m)) (Err (Range n g)) p q = absurd (is-above rows later g p.2 q.2)
one-stop v0 v1 count rows later (Err (Order m)) (Err Trailing) p q = absurd (omega (arith, p.1, q.0))
one-stop v0 v1 count rows later (Err (Order m)) (Err SourceFault) p q = absurd q
one-stop v0 v1 count rows later (Err (Order m)) (Err Memory) p q = absurd q
one-stop v0 v1 count rows later (Err (Range m f)) (Ok n) p q = absurd (omega (arith, p.1, q.1))
one-stop v0 v1 count rows later (Err (Range m f)) (Err Magic) p q = absurd q
one-stop v0 v1 count rows later (Err (Range m f)) (Err (Truncated n)) p q = absurd (too-short rows later f q.2 p.2)
one-stop v0 v1 count rows later (Err (Range m f)) (Err (Order n)) p q = absurd (is-above rows later f q.2 p.2)
one-stop v0 v1 count rows later (Err (Range m f)) (Err (Range n g)) p q = err-same (Range m f) (Range n g) (ap₂ Range (p.0 ∙ sym q.0) (same-field rows later f g p.2 q.2))
one-stop v0 v1 count rows later (Err (Range m f)) (Err Trailing) p q = absurd (omega (arith, p.1, q.0))
one-stop v0 v1 count rows later (Err (Range m f)) (Err SourceFault) p q = absurd q
one-stop v0 v1 count rows later (Err (Range m f)) (Err Memory) p q = absurd q
one-stop v0 v1 count rows later (Err Trailing) (Ok n) p q = absurd (p.1 q.2)
one-stop v0 v1 count rows later (Err Trailing) (Err Magic) p q = absurd q
one-stop v0 v1 count rows later (Err Trailing) (Err (Truncated n)) p q = absurd (omega (arith, p.0, q.1))
one-stop v0 v1 count rows later (Err Trailing) (Err (Order n)) p q = absurd (omega (arith, p.0, q.1))
one-stop v0 v1 count rows later (Err Trailing) (Err (Range n g)) p q = absurd (omega (arith, p.0, q.1))
one-stop v0 v1 count rows later (Err Trailing) (Err Trailing) p q = refl
one-stop v0 v1 count rows later (Err Trailing) (Err SourceFault) p q = absurd q
one-stop v0 v1 count rows later (Err Trailing) (Err Memory) p q = absurd q
one-stop v0 v1 count rows later (Err SourceFault) b p q = absurd p
one-stop v0 v1 count rows later (Err Memory) b p q = absurd p

-- ---- the bytes of a file up to where its rows stop

pub record Walk (bytes : List ℕ) (answer : Result RaptorTables TablesFault) : Type 0 where
  pub v0 : List ℕ
  pub v1 : List ℕ
  pub count : ℕ
  pub rows : List Row
  pub later : List ℕ
  pub words0 : AreWords v0
  pub words1 : AreWords v1
  pub fits : count < 2 ^ 16
  pub whole : bytes ≡ head_bytes v0 v1 count ++ (flat_map row_bytes rows ++ later)
  pub good : AreRows rows
  pub most : length rows ≤ count
  pub stops : Stops v0 v1 count rows later answer

walk-size : (bytes : List ℕ) (answer : Result RaptorTables TablesFault) → Walk bytes answer → 2058 ≤ length bytes
walk-size bytes answer walk =
    let rest = flat_map row_bytes walk.rows ++ walk.later in
    omega (arith, ap length walk.whole, length-append (head_bytes walk.v0 walk.v1 walk.count) rest, head-size walk.v0 walk.v1 walk.count walk.words0 walk.words1)

walk-begins : (bytes : List ℕ) (answer : Result RaptorTables TablesFault) → Walk bytes answer → BeginsAsTables bytes
walk-begins bytes answer walk =
    let others = flat_map (be_bytes 4) walk.v0 ++ (flat_map (be_bytes 4) walk.v1 ++ be_bytes 2 walk.count) in
    let rest = flat_map row_bytes walk.rows ++ walk.later in
    let size = walk-size bytes answer walk in
    ap (take 8) (walk.whole ∙ append_assoc magic others rest) ∙ take_at magic (others ++ rest) 8 refl
    ∙ sym (take_all (length bytes) magic (omega (arith, size)))

pub same-walk : (bytes : List ℕ) (a b : Result RaptorTables TablesFault) → Walk bytes a → Walk bytes b → a ≡ b
same-walk bytes a b p q =
    let sizes = head-size p.v0 p.v1 p.count p.words0 p.words1 ∙ sym (head-size q.v0 q.v1 q.count q.words0 q.words1) in
    let e = sym p.whole ∙ q.whole in
    let head = same-back magic magic _ _ refl (same-front (head_bytes p.v0 p.v1 p.count) (head_bytes q.v0 q.v1 q.count) _ _ sizes e) in
    let first = words-size p.v0 p.words0 ∙ sym (words-size q.v0 q.words0) in
    let second = words-size p.v1 p.words1 ∙ sym (words-size q.v1 q.words1) in
    let v0 : p.v0 ≡ q.v0 = same-words p.v0 q.v0 (p.words0.count ∙ sym q.words0.count) p.words0.fit q.words0.fit (same-front _ _ _ _ first head) in
    let behind = same-back _ _ _ _ first head in
    let v1 : p.v1 ≡ q.v1 = same-words p.v1 q.v1 (p.words1.count ∙ sym q.words1.count) p.words1.fit q.words1.fit (same-front _ _ _ _ second behind) in
    let count : p.count ≡ q.count = same-number 2 p.count q.count p.fits q.fits (same-back _ _ _ _ second behind) in
    let last = subst (λ (n : ℕ). IsLast n q.rows q.later) (sym count) (stops-last q.v0 q.v1 q.count q.rows q.later b q.stops) in
    let rows = same-rows p.count [] p.rows q.rows p.later q.later (same-back (head_bytes p.v0 p.v1 p.count) (head_bytes q.v0 q.v1 q.count) _ _ sizes e) p.good q.good p.most
    (subst (λ (n : ℕ). length q.rows ≤ n) (sym count) q.most) (stops-last p.v0 p.v1 p.count p.rows p.later a p.stops) last in
    let one = subst (λ (l : List ℕ). Stops l q.v1 q.count q.rows q.later b) (sym v0) q.stops in
    let two = subst (λ (l : List ℕ). Stops p.v0 l q.count q.rows q.later b) (sym v1) one in
    let three = subst (λ (n : ℕ). Stops p.v0 p.v1 n q.rows q.later b) (sym count) two in
    let four = subst (λ (rs : List Row). Stops p.v0 p.v1 p.count rs q.later b) (sym rows.rows-are) three in
    let five = subst (λ (l : List ℕ). Stops p.v0 p.v1 p.count p.rows l b) (sym rows.later-are) four in
    one-stop p.v0 p.v1 p.count p.rows p.later a b p.stops five

-- what an answer says of the bytes
abbrev pub View : List ℕ → Result RaptorTables TablesFault → Type 0
View bytes answer =
    ((answer ≡ Err Magic) × (BeginsAsTables bytes → ⊥))
    ⊎ ((answer ≡ Err (Truncated (length bytes))) × IsCutHead bytes)
    ⊎ Walk bytes answer

has-walk : (bytes : List ℕ) (rows : List Row) (later : List ℕ) (answer : Result RaptorTables TablesFault) → (has : HasRows bytes rows later)
    → Stops has.v0 has.v1 has.count rows later answer → Walk bytes answer
has-walk bytes rows later answer has stops = record {
  v0 = has.v0;
  v1 = has.v1;
  count = has.count;
  rows = rows;
  later = later;
  words0 = has.words0;
  words1 = has.words1;
  fits = has.fits;
  whole = has.whole;
  good = has.good;
  most = omega (arith, has.more);
  stops = stops;
}

view : (bytes : List ℕ) (answer : Result RaptorTables TablesFault) → Reads bytes answer → View bytes answer
view bytes (Ok t) r =
    let few = rows-most t.rows r.good.rows in
    inr (inr (record {
      v0 = t.v0;
      v1 = t.v1;
      count = length t.rows;
      rows = t.rows;
      later = [];
      words0 = r.good.v0;
      words1 = r.good.v1;
      fits = omega (arith, few);
      whole = r.whole ∙ ap (λ l. head_bytes t.v0 t.v1 (length t.rows) ++ l) (sym (append-nil (flat_map row_bytes t.rows)));
      good = r.good.rows;
      most = omega arith;
      stops = (refl, refl, refl);
    }))
view bytes (Err Magic) r = inl (refl, r)
view bytes (Err (Truncated place)) (place-is, inl cut) = inr (inl (err-same (Truncated place) (Truncated (length bytes)) (ap Truncated place-is), cut))
view bytes (Err (Truncated place)) (place-is, inr cut) =
    let has = cut.has in
    let rows = flat_map row_bytes cut.rows in
    let size = ap length has.whole ∙ length-append (head_bytes has.v0 has.v1 has.count) (rows ++ cut.later) in
    let place-at : place ≡ 2058 + 8 * length cut.rows + length cut.later =
    omega (arith, place-is, size, length-append rows cut.later, length-rows cut.rows, head-size has.v0 has.v1 has.count has.words0 has.words1) in
    inr (inr (has-walk bytes cut.rows cut.later (Err (Truncated place)) has (place-at, has.more, cut.cut)))
view bytes (Err (Order number)) r = inr (inr (has-walk bytes r.rows r.later (Err (Order number)) r.has (r.number_is, r.has.more, r.below)))
view bytes (Err (Range number field)) r = inr (inr (has-walk bytes r.rows r.later (Err (Range number field)) r.has (r.number_is, r.has.more, r.out)))
view bytes (Err Trailing) r =
    let t = r.tables in
    let few = rows-most t.rows r.good.rows in
    inr (inr (record {
      v0 = t.v0;
      v1 = t.v1;
      count = length t.rows;
      rows = t.rows;
      later = r.later;
      words0 = r.good.v0;
      words1 = r.good.v1;
      fits = omega (arith, few);
      whole = r.whole ∙ append_assoc (head_bytes t.v0 t.v1 (length t.rows)) (flat_map row_bytes t.rows) r.later;
      good = r.good.rows;
      most = omega arith;
      stops = (refl, r.more);
    }))
view bytes (Err SourceFault) r = absurd r
view bytes (Err Memory) r = absurd r

one-view : (bytes : List ℕ) (a b : Result RaptorTables TablesFault) → View bytes a → View bytes b → a ≡ b
one-view bytes a b (inl p) (inl q) = p.0 ∙ sym q.0
one-view bytes a b (inl p) (inr (inl q)) = absurd (p.1 q.1.begins)
one-view bytes a b (inl p) (inr (inr q)) = absurd (p.1 (walk-begins bytes b q))
one-view bytes a b (inr (inl p)) (inl q) = absurd (q.1 p.1.begins)
one-view bytes a b (inr (inl p)) (inr (inl q)) = p.0 ∙ sym q.0
one-view bytes a b (inr (inl p)) (inr (inr q)) = absurd (omega (arith, p.1.short, walk-size bytes b q))
one-view bytes a b (inr (inr p)) (inl q) = absurd (q.1 (walk-begins bytes a p))
one-view bytes a b (inr (inr p)) (inr (inl q)) = absurd (omega (arith, q.1.short, walk-size bytes a p))
one-view bytes a b (inr (inr p)) (inr (inr q)) = same-walk bytes a b p q

pub one-reading : (bytes : List ℕ) (a b : Result RaptorTables TablesFault) → Reads bytes a → Reads bytes b → a ≡ b
one-reading bytes a b p q = one-view bytes a b (view bytes a p) (view bytes b q)

-- ---- the answer to what is told

is-reading : (bytes : List ℕ) (result : Result RaptorTables TablesFault) → Reads bytes result → IsReadingOf bytes result
is-reading bytes result reads = λ answer. ((λ r. one-reading bytes answer result r reads), (λ e. subst (Reads bytes) (sym e) reads))

pub reads-told : (told : Option (List ℕ)) (result : Result RaptorTables TablesFault)
    → IfOk result (λ t. Tells told (λ bytes. IsTables bytes t)) → IfErr result (λ fault. Tells told (Explains fault)) → ReadsTold told result
reads-told None result ok err = inr tt
reads-told (Some bytes) (Ok t) ok err = inr (is-reading bytes (Ok t) ok)
reads-told (Some bytes) (Err Magic) ok err = inr (is-reading bytes (Err Magic) err)
reads-told (Some bytes) (Err (Truncated place)) ok err = inr (is-reading bytes (Err (Truncated place)) err)
reads-told (Some bytes) (Err (Order number)) ok err = inr (is-reading bytes (Err (Order number)) err)
reads-told (Some bytes) (Err (Range number field)) ok err = inr (is-reading bytes (Err (Range number field)) err)
reads-told (Some bytes) (Err Trailing) ok err = inr (is-reading bytes (Err Trailing) err)
reads-told (Some bytes) (Err SourceFault) ok err = inl tt
reads-told (Some bytes) (Err Memory) ok err = inl tt
