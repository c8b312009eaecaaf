-- The lines of rows.
use Rattle.std.proofs.Common.{◌≡◌, ◌↔◌, ℕ, zero, suc, ◌<◌, ◌≤◌, ◌+◌, Bool, true, false, IsTrue, List, [], ◌∷◌, ◌++◌, length, take, drop, get_or, inl, inr, Option, Result, Ok, Err, IfOk, refl, sym, ap, ap₂, subst, ◌∙◌, codes, append-nil, append_assoc, take-append-drop, arith}
use Rattle.std.specs.Prelude.{Contains}
use Rattle.std.specs.List.{AllZip}
use Rattle.std.proofs.lemmas.Grind.{flat_map-append}
use Rattle.std.proofs.lemmas.List.{take_all, take_more}
use Rattle.std.proofs.lemmas.Slice.Zip.{AllZip-long}
use Rattle.std.proofs.lemmas.List.Elements.{All-take, All-drop, Contains-get_or}
use Rattle.std.proofs.Math.Seq.{take-add}
use Rattle.rayon.proofs.ListFacts.{AllZip-append}
use Rattle.mb_base.specs.Outside.{Grows}
use Rattle.mb_base.proofs.Content.{Grows-nil, Grows-trans}
use Rattle.mb_base.specs.Status.{Status}
use Rattle.mb_base.specs.Status.TheVariants as status
use Rattle.mb_tables.specs.Tables.{RaptorTables}
use Rattle.mb_tables.specs.declared.row.Row.{Row}
use Rattle.mb_rows.specs.declared.fault.CodeFault.{CodeFault}
use Rattle.mb_rows.specs.declared.fault.CodeFault.TheVariants as code
use Rattle.mb_encoder.specs.Usable.{IsUsable}
use Rattle.mbms_tab.specs.declared.rows.Answer.{Answer}
use Rattle.mbms_tab.specs.Check.{IsRowLine, TellsRows, row_line}
use Rattle.mbms_tab.specs.Parts.{IsAnswer, AreRowsOf, PrintsRows, PrintsAllRows}
use Rattle.mbms_tab.proofs.ShowLemmas.{PrintsPart-behind}

-- ---- answers, one for each row

answer_at : (t : RaptorTables) (rows : List Row) (answers : List Answer) (i : ℕ) (d : Row) (e : Answer)
    → AllZip (IsAnswer t) rows answers → i < length answers → IsAnswer t (get_or rows i d) (get_or answers i e)
answer_at t rows [] i d e all within = absurd (omega arith)
answer_at t [] (answer ∷ answers) i d e all within = absurd all
answer_at t (row ∷ rows) (answer ∷ answers) zero d e all within = all.0
answer_at t (row ∷ rows) (answer ∷ answers) (suc i) d e all within = answer_at t rows answers i d e all.1 (omega arith)

-- the answer that comes next is for the next row, which is one of the tables
pub record IsNextAnswer (t : RaptorTables) (rows : List Row) (i : ℕ) (answer : Answer) : Type 0 where
  pub is : IsAnswer t answer.row answer
  pub among : Contains t.rows answer.row
  pub more : take (i + 1) rows ≡ take i rows ++ answer.row ∷ []

pub next_answer : (t : RaptorTables) (rows : List Row) (answers : List Answer) (i : ℕ) (e : Answer) → AreRowsOf t rows → AllZip (IsAnswer t) rows answers
    → i < length answers → IsNextAnswer t rows i (get_or answers i e)
next_answer t rows answers i e among all within =
    let answer = get_or answers i e in
    let long = AllZip-long (IsAnswer t) rows answers all in
    let inside : i < length rows = omega (arith, within, long) in
    let here = answer_at t rows answers i answer.row e all within in
    let same : get_or rows i answer.row ≡ answer.row = sym here.row_is in
    record {
      is = subst (λ (r : Row). IsAnswer t r answer) same here;
      among = subst (Contains t.rows) same (among i answer.row inside);
      more = take_more rows i answer.row inside ∙ ap (λ (r : Row). take i rows ++ r ∷ []) same;
    }

-- a row of the tables has an answer
pub row_found : (t : RaptorTables) (n : ℕ) (answer : Answer) → Contains t.rows answer.row → IsAnswer t answer.row answer → answer.usable ≡ Err (code.NoRow n) → ⊥
row_found t n answer has a none =
    let is : answer.usable ≡ Err (code.NoRow answer.row.k) = subst (λ (m : ℕ). answer.usable ≡ Err (code.NoRow m)) (a.which n none) none in
    let apart = a.no_row.0 is has.0 answer.row has.1 in
    apart (ap (λ (r : Row). r.k) has.2)

-- ---- lines

pub tells-none : (t : RaptorTables) → TellsRows t [] []
tells-none t = record { lines = []; each = tt; is = refl }

pub tells-append : (t : RaptorTables) (xs ys : List Row) (a b : List ℕ) → TellsRows t xs a → TellsRows t ys b → TellsRows t (xs ++ ys) (a ++ b)
tells-append t xs ys a b p q = record {
  lines = p.lines ++ q.lines;
  each = AllZip-append (IsRowLine t) xs ys p.lines q.lines p.each q.each;
  is = ap₂ (λ (l r : List ℕ). l ++ r) p.is q.is ∙ sym (flat_map-append (λ (line : List ℕ). line) p.lines q.lines);
}

tells-one : (t : RaptorTables) (row : Row) (line : List ℕ) → IsRowLine t row line → TellsRows t (row ∷ []) line
tells-one t row line is = record { lines = line ∷ []; each = (is, tt); is = sym (append-nil line) }

pub tells-next : (t : RaptorTables) (rows : List Row) (i : ℕ) (answer : Answer) (text new : List ℕ) (good : Bool) → IsNextAnswer t rows i answer → answer.usable ≡ Ok good
    → (good ≡ true → new ≡ text ++ row_line answer.row (codes "usable")) → (good ≡ false → new ≡ text ++ row_line answer.row (codes "unusable"))
    → TellsRows t (take i rows) text → TellsRows t (take (i + 1) rows) new
tells-next t rows i answer text new true next is usable unusable tells =
    let row = answer.row in
    let line = row_line row (codes "usable") in
    let tells_of : IsTrue true ↔ IsUsable t row.k = subst (λ (r : Result Bool CodeFault). IfOk r (λ good. IsTrue good ↔ IsUsable t row.k)) is next.is.usable in
    subst (λ (l : List Row). TellsRows t l new) (sym next.more) (subst (TellsRows t (take i rows ++ row ∷ [])) (sym (usable refl))
    (tells-append t (take i rows) (row ∷ []) text line tells (tells-one t row line (inl (tells_of.0 refl, refl)))))
tells-next t rows i answer text new false next is usable unusable tells =
    let row = answer.row in
    let line = row_line row (codes "unusable") in
    let tells_of : IsTrue false ↔ IsUsable t row.k = subst (λ (r : Result Bool CodeFault). IfOk r (λ good. IsTrue good ↔ IsUsable t row.k)) is next.is.usable in
    let bad : IsUsable t row.k → ⊥ = λ u. let h = tells_of.1 u in absurd (cc h) in
    subst (λ (l : List Row). TellsRows t l new) (sym next.more) (subst (TellsRows t (take i rows ++ row ∷ [])) (sym (unusable refl))
    (tells-append t (take i rows) (row ∷ []) text line tells (tells-one t row line (inr (bad, refl)))))

pub tells-all : (t : RaptorTables) (rows : List Row) (answers : List Answer) (i : ℕ) (text : List ℕ) → AllZip (IsAnswer t) rows answers → length answers ≤ i
    → TellsRows t (take i rows) text → TellsRows t rows text
tells-all t rows answers i text all end tells =
    let long = AllZip-long (IsAnswer t) rows answers all in
    subst (λ (l : List Row). TellsRows t l text) (take_all i rows (omega (arith, long, end))) tells

-- ---- all batches

-- the lines of so many rows were printed
pub record IsPrintedTo (t : RaptorTables) (rows : List Row) (n : ℕ) (before after : Option (List ℕ)) : Type 0 where
  pub text : List ℕ
  pub lines : TellsRows t (take n rows) text
  pub grown : Grows before after text

pub printed-none : (t : RaptorTables) (rows : List Row) (before : Option (List ℕ)) → IsPrintedTo t rows 0 before before
printed-none t rows before = record { text = []; lines = tells-none t; grown = Grows-nil before }

pub printed-next : (t : RaptorTables) (rows part : List Row) (n size : ℕ) (x : Unit {0}) (before mid after : Option (List ℕ)) → part ≡ take size (drop n rows)
    → IsPrintedTo t rows n before mid → PrintsRows t part mid after (Ok x) → IsPrintedTo t rows (n + size) before after
printed-next t rows part n size x before mid after is so_far p = record {
  text = so_far.text ++ p.0;
  lines = subst (λ (l : List Row). TellsRows t l (so_far.text ++ p.0)) (sym (take-add n size rows))
      (tells-append t (take n rows) (take size (drop n rows)) so_far.text p.0 so_far.lines (subst (λ (l : List Row). TellsRows t l p.0) is p.1));
  grown = Grows-trans before mid after so_far.text p.0 so_far.grown p.2;
}

unprinted_by : (t : RaptorTables) (rows part : List Row) (n size : ℕ) (before mid after : Option (List ℕ)) (reason : Status) → rows ≡ t.rows → part ≡ take size (drop n rows)
    → IsPrintedTo t rows n before mid → PrintsRows t part mid after (Err reason) → PrintsAllRows t before after (Err reason)
unprinted_by t rows part n size before mid after status.Memory same is so_far p = (
  so_far.text,
  record { rows = take n rows; later = drop n rows; split = sym same ∙ sym (take-append-drop n rows); lines = so_far.lines },
  subst (λ (o : Option (List ℕ)). Grows before o so_far.text) (sym p) so_far.grown,
)
unprinted_by t rows part n size before mid after status.OutFault same is so_far p = (
  so_far.text ++ p.0,
  record {
    rows = take n rows ++ part;
    later = drop size (drop n rows);
    split = sym same ∙ (sym (take-append-drop n rows) ∙ (ap (λ (l : List Row). take n rows ++ l) (sym (take-append-drop size (drop n rows)) ∙ ap (λ (l : List Row). l ++ drop size (drop n rows)) (sym is))
        ∙ sym (append_assoc (take n rows) part (drop size (drop n rows)))));
    lines = tells-append t (take n rows) part so_far.text p.0 so_far.lines p.1;
  },
  PrintsPart-behind so_far.text p.0 [] (so_far.text ++ p.0) before mid after (ap (λ (l : List ℕ). so_far.text ++ l) (sym (append-nil p.0))) so_far.grown p.2,
)
unprinted_by t rows part n size before mid after _ same is so_far p = absurd p

pub unprinted : (t : RaptorTables) (rows part : List Row) (n size : ℕ) (before mid after : Option (List ℕ)) (reason answer : Status) (result : Result (Unit {0}) Status)
    → rows ≡ t.rows → part ≡ take size (drop n rows) → IsPrintedTo t rows n before mid → PrintsRows t part mid after (Err reason)
    → result ≡ Err answer → answer ≡ reason → PrintsAllRows t before after result
unprinted t rows part n size before mid after reason answer result same is so_far p failed handed =
    subst (λ (r : Result (Unit {0}) Status). PrintsAllRows t before after r) (sym (failed ∙ ap Err handed)) (unprinted_by t rows part n size before mid after reason same is so_far p)

-- a part of the rows of the tables
pub part_of_rows : (t : RaptorTables) (rows part : List Row) (n size : ℕ) → rows ≡ t.rows → part ≡ take size (drop n rows) → AreRowsOf t part
part_of_rows t rows part n size same is =
    let whole : AreRowsOf t rows = subst (AreRowsOf t) (sym same) (λ i d within. Contains-get_or t.rows i d within) in
    subst (AreRowsOf t) (sym is) (All-take (λ (row : Row). Contains t.rows row) size (drop n rows) (All-drop (λ (row : Row). Contains t.rows row) n rows whole))
