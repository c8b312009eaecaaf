-- Made rows and made tables.
use Rattle.std.proofs.Common.{◌≡◌, ◌↔◌, ℕ, zero, suc, ◌<◌, ◌≤◌, ◌+◌, ◌^◌, Bool, true, false, IsTrue, List, [], ◌∷◌, ◌++◌, length, map, take, drop, get_or, slice_index_or, refl, sym, ap, ap₂, subst, ◌∙◌, string_bytes, Global, arith}
use Rattle.std.specs.Prelude.{String, Option, All, Contains}
use Rattle.std.specs.List.{AllZip}
use Rattle.std.proofs.lemmas.List.{take_more, take_all, get_or-map, length-map}
use Rattle.std.proofs.lemmas.List.Elements.{All-push, Contains-get_or}
use Rattle.rayon.proofs.ListFacts.{AllZip-append}
use Rattle.mb_base.specs.Outside.{Grows}
use Rattle.mb_base.specs.Status.TheVariants as status
use Rattle.mb_program.proofs.PrintLemmas.{PrintsPart-take}
use Rattle.mb_tables.specs.Limits.{IsOddFrom, IsMade}
use Rattle.mb_tables.specs.Made.{AreMadeWords, HasMadeWords}
use Rattle.mb_tables.specs.Tables.{RaptorTables, table_bytes}
use Rattle.mb_tables.specs.declared.row.Row.{Row}
use Rattle.mb_tables.proofs.LimitLemmas.{LeastS-unique, L-unique}
use Rattle.mb_encoder.specs.Usable.{IsUsable}
use Rattle.mbms_tab.specs.Forms.{size_of, IsSizeText, AreSizesAbove}
use Rattle.mbms_tab.specs.Make.{with_row, IsUsableUnder, HasNoJ, IsMadeRow, AreMadeTables, LacksJ, Makes}
use Rattle.mbms_tab.proofs.FormLemmas.{texts_more}

-- ---- a row that is made

odd-unique : (n a b : ℕ) → IsOddFrom n a → IsOddFrom n b → a ≡ b
odd-unique n a b p q = omega (arith, p.least b q.is_odd q.from, q.least a p.is_odd p.from)

abbrev row_by : ℕ → ℕ → ℕ → ℕ → Row
row_by k j s lp = record { k = k; j = j; s = s; lp = lp }

pub made-unique : (k j : ℕ) (a b : Row) → IsMade k j a → IsMade k j b → a ≡ b
made-unique k j a b p q =
    let fewest = LeastS-unique k p.fewest q.fewest p.is_fewest q.is_fewest in
    let s : a.s ≡ b.s = odd-unique p.fewest a.s b.s p.s_is (subst (λ (n : ℕ). IsOddFrom n b.s) (sym fewest) q.s_is) in
    let l = L-unique k a.s p.l q.l p.is_l (rw s q.is_l) in
    let lp : a.lp ≡ b.lp = odd-unique p.l a.lp b.lp p.lp_is (subst (λ (n : ℕ). IsOddFrom n b.lp) (sym l) q.lp_is) in
    ap₂ (λ (x y : ℕ). row_by x y a.s a.lp) (p.k_is ∙ sym q.k_is) (p.j_is ∙ sym q.j_is) ∙ ap₂ (λ (x y : ℕ). row_by b.k b.j x y) s lp

-- ---- the least J

abbrev pub NoneBelow : RaptorTables → ℕ → ℕ → Type 0
NoneBelow t k j = (fewer : ℕ) → fewer < j → IsUsableUnder t k fewer → ⊥

pub none_below-next : (t : RaptorTables) (k j m : ℕ) (row : Row) (answer : Bool) → m ≡ j → IsMade k m row → IsTrue answer ↔ IsUsable (with_row t row) row.k
    → answer ≡ false → NoneBelow t k j → NoneBelow t k (j + 1)
none_below-next t k j m row answer same made tells bad below = λ fewer h u.
    let at : fewer ≡ j → ⊥ = λ (e : fewer ≡ j).
    let row_is : u.row ≡ row = made-unique k fewer u.row row u.made (subst (λ (n : ℕ). IsMade k n row) (same ∙ sym e) made) in
    let usable : IsUsable (with_row t row) row.k = subst (λ (r : Row). IsUsable (with_row t r) r.k) row_is (subst (IsUsable (with_row t u.row)) (sym u.made.k_is) u.usable) in
    let is : answer ≡ true = tells.1 usable in absurd (cc (is, bad)) in
    below fewer (omega (arith, h, at)) u

pub made_row : (t : RaptorTables) (k j m : ℕ) (row : Row) (answer : Bool) → m ≡ j → j < 2 ^ 16 → IsMade k m row → IsTrue answer ↔ IsUsable (with_row t row) row.k
    → answer ≡ true → NoneBelow t k j → IsMadeRow t k row
made_row t k j m row answer same small made tells is below = record {
  j = omega (arith, made.j_is, same, small);
  made = subst (λ (n : ℕ). IsMade k n row) (sym made.j_is) made;
  usable = subst (IsUsable (with_row t row)) made.k_is (tells.0 is);
  least = λ fewer h. below fewer (omega (arith, made.j_is, same, h));
}

pub none_at_all : (t : RaptorTables) (k j : ℕ) → 65536 ≤ j → NoneBelow t k j → HasNoJ t k
none_at_all t k j end below = λ n small. below n (omega (arith, end, small))

-- ---- the tables

-- the rows say the same in tables of the same V0 and V1
with_row-same : (t u : RaptorTables) (row : Row) → t.v0 ≡ u.v0 → t.v1 ≡ u.v1 → with_row t row ≡ with_row u row
with_row-same t u row v0 v1 = ap₂ (λ (a b : List ℕ). let x : RaptorTables = record { v0 = a; v1 = b; rows = row ∷ [] } in x) v0 v1

made_row-same : (t u : RaptorTables) (k : ℕ) (row : Row) → t.v0 ≡ u.v0 → t.v1 ≡ u.v1 → IsMadeRow t k row → IsMadeRow u k row
made_row-same t u k row v0 v1 m = record {
  j = m.j;
  made = m.made;
  usable = subst (λ (x : RaptorTables). IsUsable x k) (with_row-same t u row v0 v1) m.usable;
  least = λ fewer h x. m.least fewer h (record {
    row = x.row;
    made = x.made;
    usable = subst (λ (y : RaptorTables). IsUsable y k) (sym (with_row-same t u x.row v0 v1)) x.usable;
  });
}

made_rows-same : (t u : RaptorTables) (ks : List ℕ) (rows : List Row) → t.v0 ≡ u.v0 → t.v1 ≡ u.v1 → AllZip (IsMadeRow t) ks rows → AllZip (IsMadeRow u) ks rows
made_rows-same t u [] [] v0 v1 all = tt
made_rows-same t u [] (row ∷ rows) v0 v1 all = absurd all
made_rows-same t u (k ∷ ks) [] v0 v1 all = absurd all
made_rows-same t u (k ∷ ks) (row ∷ rows) v0 v1 all = (made_row-same t u k row v0 v1 all.0, made_rows-same t u ks rows v0 v1 all.1)

only_at : (i : ℕ) (row other : Row) → i < 1 → slice_index_or (row ∷ []) i other ≡ other → other ≡ row
only_at zero row other within e = sym e
only_at (suc i) row other within e = absurd (omega arith)

-- a row that makes its K usable alone makes it so among others
usable_among : (t u : RaptorTables) (row : Row) → t.v0 ≡ u.v0 → t.v1 ≡ u.v1 → Contains u.rows row → IsUsable (with_row t row) row.k → IsUsable u row.k
usable_among t u row v0 v1 among x =
    let only : x.code.row ≡ row = only_at x.is_code.row.0 row x.code.row x.is_code.row.1 x.is_code.row.2 in
    record {
      code = x.code;
      is_code = record {
        v0 = x.is_code.v0 ∙ v0;
        v1 = x.is_code.v1 ∙ v1;
        row = subst (λ (r : Row). Contains u.rows r) (sym only) among;
        k_is = x.is_code.k_is;
        h = x.is_code.h;
      };
      determine = x.determine;
    }

made_at : (t : RaptorTables) (ks : List ℕ) (rows : List Row) (i : ℕ) (d : Row) → i < length rows → AllZip (IsMadeRow t) ks rows
    → IsUsable (with_row t (slice_index_or rows i d)) (slice_index_or rows i d).k
made_at t [] [] i d within all = absurd (omega arith)
made_at t [] (row ∷ rows) i d within all = absurd all
made_at t (k ∷ ks) [] i d within all = absurd all
made_at t (k ∷ ks) (row ∷ rows) zero d within all = subst (IsUsable (with_row t row)) (sym all.0.made.k_is) all.0.usable
made_at t (k ∷ ks) (row ∷ rows) (suc i) d within all = made_at t ks rows i d (omega arith) all.1

same_at : (rows : List Row) (i : ℕ) (d e : Row) → i < length rows → slice_index_or rows i e ≡ slice_index_or rows i d
same_at [] i d e within = absurd (omega arith)
same_at (row ∷ rows) zero d e within = refl
same_at (row ∷ rows) (suc i) d e within = same_at rows i d e (omega arith)

pub made_tables_are : (words t : RaptorTables) (ks : List ℕ) → HasMadeWords t → words.v0 ≡ t.v0 → words.v1 ≡ t.v1
    → AllZip (IsMadeRow words) ks t.rows → AreMadeTables ks t
made_tables_are words t ks made v0 v1 all = record {
  words = made;
  rows = made_rows-same words t ks t.rows v0 v1 all;
  usable = λ i d within.
      usable_among words t (slice_index_or t.rows i d) v0 v1 (i, within, same_at t.rows i d (slice_index_or t.rows i d) within) (made_at words ks t.rows i d within all);
}

-- ---- the tables so far

-- the rows of the first texts were made, and the other texts are sizes above them
pub record IsMadeTo (words t : RaptorTables) (texts : List (String Global)) (i : ℕ) : Type 0 where
  pub v0 : words.v0 ≡ t.v0
  pub v1 : words.v1 ≡ t.v1
  pub rows : AllZip (IsMadeRow words) (take i (map size_of (map string_bytes texts))) t.rows
  pub low : ℕ
  pub rest : AreSizesAbove low (drop i (map string_bytes texts))
  pub most : All (λ (row : Row). row.k ≤ low) t.rows

pub made_to-none : (words t : RaptorTables) (texts : List (String Global)) → t ≡ words → words.rows ≡ [] → AreSizesAbove 0 (map string_bytes texts) → IsMadeTo words t texts 0
made_to-none words t texts same none sizes =
    let empty : t.rows ≡ [] = ap (λ (x : RaptorTables). x.rows) same ∙ none in
    record {
      v0 = ap (λ (x : RaptorTables). x.v0) (sym same);
      v1 = ap (λ (x : RaptorTables). x.v1) (sym same);
      rows = subst (AllZip (IsMadeRow words) []) (sym empty) tt;
      low = 0;
      rest = sizes;
      most = λ n d within. let h : length t.rows ≡ 0 = ap length empty in absurd (omega (arith, within, h));
    }

-- the next text is a size above the rows
pub made_to-size : (words t : RaptorTables) (texts : List (String Global)) (i : ℕ) (text : String Global) (bytes : List ℕ) → IsMadeTo words t texts i → i < length texts
    → text ≡ get_or texts i text → bytes ≡ string_bytes text → IsSizeText bytes × (All (λ (row : Row). row.k < size_of bytes) t.rows) × AreSizesAbove (size_of bytes) (drop (i + 1) (map string_bytes texts))
made_to-size words t texts i text bytes m within at is =
    let same : string_bytes (get_or texts i text) ≡ bytes = ap string_bytes (sym at) ∙ sym is in
    let rest = drop (i + 1) (map string_bytes texts) in
    let more = texts_more texts i text within ∙ ap (λ (l : List ℕ). l ∷ rest) same in
    let h : AreSizesAbove m.low (bytes ∷ rest) = subst (AreSizesAbove m.low) more m.rest in
    (h.0, (λ n d inside. let below = m.most n d inside in omega (arith, below, h.1)), h.2)

size_at : (texts : List (String Global)) (i : ℕ) (text : String Global) (bytes : List ℕ) → i < length texts → text ≡ get_or texts i text → bytes ≡ string_bytes text
    → get_or (map size_of (map string_bytes texts)) i 0 ≡ size_of bytes
size_at texts i text bytes within at is =
    let len = length-map texts string_bytes in
    get_or-map size_of (map string_bytes texts) i [] 0 (omega (arith, len, within)) ∙ ap size_of (get_or-map string_bytes texts i text [] within ∙ ap string_bytes (sym at) ∙ sym is)

sizes_long : (texts : List (String Global)) → length (map size_of (map string_bytes texts)) ≡ length texts
sizes_long texts = length-map (map string_bytes texts) size_of ∙ length-map texts string_bytes

pub made_to-next : (words t u : RaptorTables) (texts : List (String Global)) (i k : ℕ) (text : String Global) (bytes : List ℕ) (row : Row) → IsMadeTo words t texts i → i < length texts
    → text ≡ get_or texts i text → bytes ≡ string_bytes text → k ≡ size_of bytes → IsMadeRow words k row → u ≡ record t { rows = t.rows ++ row ∷ [] } → IsMadeTo words u texts (i + 1)
made_to-next words t u texts i k text bytes row m within at is size made added =
    let ks = map size_of (map string_bytes texts) in
    let now = made_to-size words t texts i text bytes m within at is in
    let rows : u.rows ≡ t.rows ++ row ∷ [] = ap (λ (x : RaptorTables). x.rows) added in
    let more : take (i + 1) ks ≡ take i ks ++ k ∷ [] =
    take_more ks i 0 (omega (arith, sizes_long texts, within)) ∙ ap (λ (n : ℕ). take i ks ++ n ∷ []) (size_at texts i text bytes within at is ∙ sym size) in
    record {
      v0 = m.v0 ∙ sym (ap (λ (x : RaptorTables). x.v0) added);
      v1 = m.v1 ∙ sym (ap (λ (x : RaptorTables). x.v1) added);
      rows = subst (λ (l : List ℕ). AllZip (IsMadeRow words) l u.rows) (sym more)
          (subst (AllZip (IsMadeRow words) (take i ks ++ k ∷ [])) (sym rows) (AllZip-append (IsMadeRow words) (take i ks) (k ∷ []) t.rows (row ∷ []) m.rows (made, tt)));
      low = size_of bytes;
      rest = now.2;
      most = subst (All (λ (r : Row). r.k ≤ size_of bytes)) (sym rows)
          (All-push (λ (r : Row). r.k ≤ size_of bytes) t.rows row (λ n d inside. let below = now.1 n d inside in omega (arith, below)) (omega (arith, made.made.k_is, size)));
    }

-- a size without a J is one of those that are wanted
pub made_to-lacks : (words : RaptorTables) (texts : List (String Global)) (i k : ℕ) (text : String Global) (bytes : List ℕ) → i < length texts
    → text ≡ get_or texts i text → bytes ≡ string_bytes text → k ≡ size_of bytes → HasMadeWords words → HasNoJ words k → LacksJ (map size_of (map string_bytes texts))
made_to-lacks words texts i k text bytes within at is size made none = record {
  tables = words;
  words = made;
  k = k;
  wanted = subst (Contains (map size_of (map string_bytes texts))) (size_at texts i text bytes within at is ∙ sym size)
      (Contains-get_or (map size_of (map string_bytes texts)) i 0 (omega (arith, sizes_long texts, within)));
  none = none;
}

pub made_to-all : (words t : RaptorTables) (texts : List (String Global)) (i : ℕ) → IsMadeTo words t texts i → length texts ≤ i → HasMadeWords words
    → AreMadeTables (map size_of (map string_bytes texts)) t
made_to-all words t texts i m end made =
    let ks = map size_of (map string_bytes texts) in
    made_tables_are words t ks (record { v0 = subst (AreMadeWords 0) m.v0 made.v0; v1 = subst (AreMadeWords 256) m.v1 made.v1 }) m.v0 m.v1
    (subst (λ (l : List ℕ). AllZip (IsMadeRow words) l t.rows) (take_all i ks (omega (arith, sizes_long texts, end))) m.rows)

-- ---- the file

pub made_part : (ks file bytes : List ℕ) (n : ℕ) (before after : Option (List ℕ)) (made : (t : RaptorTables) × AreMadeTables ks t × (file ≡ table_bytes t)) → bytes ≡ file
    → Grows before after (take n bytes) → Makes ks before after status.OutFault
made_part ks file bytes n before after made is grown = (made.0, made.1, PrintsPart-take (table_bytes made.0) bytes n before after (is ∙ made.2) grown)
