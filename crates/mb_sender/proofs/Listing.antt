-- The entries of files.
use Rattle.std.proofs.Common.{◌≡◌, ℕ, ◌+◌, ◌<◌, ◌&&◌, true, List, [], ◌∷◌, ◌++◌, length, get_or, take, Some, Ok, refl, sym, ap, ◌∙◌, arith}
use Rattle.std.specs.Prelude.{is_some, is_ok}
use Rattle.std.specs.List.{list_all}
use Rattle.std.proofs.lemmas.Grind.{common_steps, take_at_read}
use Rattle.mb_fdt_text.specs.declared.fdt.FileEntry.{FileEntry}
use Rattle.mb_sender.specs.Trace.{entries_from}
use Rattle.mb_files.specs.declared.reading.SentFile.{SentFile}

pub entries-none : (toi : ℕ) → entries_from toi [] ≡ []
unfolding entries_from
entries-none toi = refl

entries-append : (toi : ℕ) (xs ys : List SentFile) → entries_from toi (xs ++ ys) ≡ entries_from toi xs ++ entries_from (toi + length xs) ys
unfolding entries_from
entries-append toi [] ys = ap (λ n. entries_from n ys) (omega arith)
entries-append toi (x ∷ xs) ys =
    let shifted : toi + 1 + length xs ≡ toi + length (x ∷ xs) = omega arith in
    ap (λ (es : List FileEntry). record { toi = Some toi; entry = Ok x.desc } ∷ es)
    (entries-append (toi + 1) xs ys ∙ ap (λ n. entries_from (toi + 1) xs ++ entries_from n ys) shifted)

entries-one : (toi : ℕ) (x : SentFile) → entries_from toi (x ∷ []) ≡ record { toi = Some toi; entry = Ok x.desc } ∷ []
unfolding entries_from
entries-one toi x = refl

-- one file more
pub entries-more : (i : ℕ) (xs : List SentFile) (x : SentFile) (e : FileEntry) (old new : List FileEntry) → i < length xs → x ≡ get_or xs i x
    → e ≡ record { toi = Some (i + 1); entry = Ok x.desc } → old ≡ entries_from 1 (take i xs) → new ≡ old ++ e ∷ [] → new ≡ entries_from 1 (take (i + 1) xs)
entries-more i xs x e old new below is e_is old_is new_is =
    let long : 1 + length (take i xs) ≡ i + 1 = grind (arith, common_steps, below) in
    let more : entries_from 1 (take (i + 1) xs) ≡ entries_from 1 (take i xs) ++ record { toi = Some (i + 1); entry = Ok x.desc } ∷ [] =
    ap (entries_from 1) ((take_at_read xs i x below).1) ∙ entries-append 1 (take i xs) (get_or xs i x ∷ [])
    ∙ ap (λ n. entries_from 1 (take i xs) ++ entries_from n (get_or xs i x ∷ [])) long
    ∙ ap (λ (y : SentFile). entries_from 1 (take i xs) ++ entries_from (i + 1) (y ∷ [])) (sym is)
    ∙ ap (λ (es : List FileEntry). entries_from 1 (take i xs) ++ es) (entries-one (i + 1) x) in
    new_is ∙ ap (λ (es : List FileEntry). es ++ e ∷ []) old_is ∙ ap (λ (f : FileEntry). entries_from 1 (take i xs) ++ f ∷ []) e_is ∙ sym more

-- each has a TOI and a description
pub entries-described : (toi : ℕ) (xs : List SentFile) → list_all (λ (e : FileEntry). is_some e.toi && is_ok e.entry) (entries_from toi xs) ≡ true
unfolding entries_from
entries-described toi [] = refl
entries-described toi (x ∷ xs) = entries-described (toi + 1) xs
