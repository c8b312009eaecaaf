-- What the contents of a shelf make, one file after the other.
use Rattle.std.proofs.Common.{◌≡◌, ℕ, suc, ◌+◌, ◌^◌, ◌<◌, ◌≤◌, ◌==◌, inl, inr, true, nat_lt, List, [], ◌∷◌, ◌++◌, length, take, drop, slice_index_or, Option, Some, None, IfSome, IfErr, IsErrAnd, Result, Ok, Err, refl, sym, ◌∙◌, ap, subst, arith}
use Rattle.std.proofs.lemmas.Grind.{common_steps}
use Rattle.std.proofs.lemmas.List.{take_more, get_or_append_left, length-append}
use Rattle.std.proofs.lemmas.Bool.{cases_lt}
use Rattle.std.proofs.Math.Seq.{get_or-append_seam}
use Rattle.mb_base.specs.Outside.{Becomes}
use Rattle.mb_shelf.specs.Shelf.{left_at}
use Rattle.mb_shelf.specs.Reading.{AreMoreAt, TakesAllAt, LosesSomeAt}
use Rattle.mb_geom.specs.Description.{Description, refusals, first_fault, ok_unless, description_of, described}
use Rattle.mb_geom.specs.declared.desc.DescParts.{DescParts}
use Rattle.mb_geom.specs.declared.desc.DescFault.{DescFault}
use Rattle.mb_geom.specs.declared.desc.DescFault.TheVariants.{Encoded, NoLength, LengthsDiffer, TooLong, NoScheme, ZeroSymbol, Parameters, TooManyBlocks, BlockSize}
use Rattle.mb_geom.proofs.RefusalLemmas.{described-length}
use Rattle.mb_files.specs.Description.{parts_of, described_by}
use Rattle.mb_files.specs.Files.{number_of, file_before, files_from, files_of, IsDescribed, IsWhyBad, IsWhyBadAt, IsInPlace, IsReached}
use Rattle.mb_files.specs.declared.describing.Layout.{Layout}
use Rattle.mb_files.specs.declared.reading.SentFile.{SentFile}
use Rattle.mb_files.specs.declared.fault.FilesFault.{FilesFault}
use Rattle.mb_files.specs.declared.fault.FilesFault.TheVariants.{Bad, Fault, Memory}

cut_at : (xs : List (List ℕ)) (i : ℕ) (d : List ℕ) → i < length xs → xs ≡ take i xs ++ slice_index_or xs i d ∷ drop (i + 1) xs
cut_at xs i d within = grind (arith, common_steps)

-- ---- one file

-- what is described has what was said of it
described_is : (p : DescParts) (f : Option DescFault) (d : Description) → ok_unless f (description_of p) ≡ Ok d → d ≡ description_of p
described_is p None d made = cc
described_is p (Some fault) d made = cc

pub is_described : (layout : Layout) (location : List ℕ) (file : SentFile)
    → described_by layout location file.bytes ≡ Ok file.desc → IsDescribed layout location file
unfolding described_by
is_described layout location file made =
    let p = parts_of layout location file.bytes in
    record { made = made; says = described_is p (first_fault (refusals p)) file.desc made }

too_long : (layout : Layout) (location bytes : List ℕ) → 2 ^ 28 < length bytes → described_by layout location bytes ≡ Err TooLong
unfolding described_by
too_long layout location bytes long =
    let same : (length bytes == length bytes) ≡ true = grind (arith, common_steps) in
    let more : nat_lt (2 ^ 28) (length bytes) ≡ true = grind (arith, common_steps) in
    let found : first_fault (take 4 (refusals (parts_of layout location bytes))) ≡ Some TooLong = rw (same, more) refl in
    described-length (parts_of layout location bytes) TooLong found

-- a file of more bytes than are allowed is bad
pub too_long_is_bad : (layout : Layout) (location : List ℕ) (index : ℕ) (left : Option (List (List ℕ))) (fault : FilesFault)
    → AreMoreAt index (2 ^ 28) left → fault ≡ Bad (index + 1) (number_of TooLong)
    → IfSome left (λ contents. IsWhyBadAt layout location index (left_at index contents) fault)
too_long_is_bad layout location index None refused more is = tt
too_long_is_bad layout location index (Some contents) refused more is =
    rw is (TooLong, (too_long layout location (left_at index contents) more, (refl, refl)))

number_within : (fault : DescFault) → (0 < number_of fault) × (number_of fault ≤ 9)
number_within Encoded = (omega arith, omega arith)
number_within NoLength = (omega arith, omega arith)
number_within LengthsDiffer = (omega arith, omega arith)
number_within TooLong = (omega arith, omega arith)
number_within NoScheme = (omega arith, omega arith)
number_within ZeroSymbol = (omega arith, omega arith)
number_within Parameters = (omega arith, omega arith)
number_within TooManyBlocks = (omega arith, omega arith)
number_within (BlockSize number size) = (omega arith, omega arith)

pub is_in_place : (index : ℕ) (fault : DescFault) → IsInPlace (index + 1) (Bad (index + 1) (number_of fault))
is_in_place index fault = ((omega arith, omega arith), number_within fault)

pub in_place_of_more : (index count : ℕ) (fault : FilesFault) → index < count → IsInPlace (index + 1) fault → IsInPlace count fault
in_place_of_more index count (Bad file number) within place = ((place.0.0, omega (arith, within, place.0.1)), place.1)
in_place_of_more index count Fault within place = tt
in_place_of_more index count Memory within place = tt

-- ---- one file after the other

-- files of which the first is described like this, before these others
record Begins (bytes : List ℕ) (described : Result Description DescFault) (others : Result (List SentFile) FilesFault) (files : List SentFile) : Type 0 where
  first : SentFile
  rest : List SentFile
  made : described ≡ Ok first.desc
  bytes_are : first.bytes ≡ bytes
  others_are : others ≡ Ok rest
  files_are : files ≡ first ∷ rest

begins : (number : ℕ) (bytes : List ℕ) (described : Result Description DescFault) (others : Result (List SentFile) FilesFault) (files : List SentFile)
    → file_before number bytes described others ≡ Ok files → Begins bytes described others files
begins number bytes (Err fault) others files is = cc
begins number bytes (Ok desc) (Err refused) files is = cc
begins number bytes (Ok desc) (Ok rest) files is = record {
  first = record { desc = desc; bytes = bytes };
  rest = rest;
  made = refl;
  bytes_are = refl;
  others_are = refl;
  files_are = cc;
}

begins_from : (number : ℕ) (bytes : List ℕ) (described : Result Description DescFault) (others : Result (List SentFile) FilesFault) (first : SentFile) (rest : List SentFile)
    → described ≡ Ok first.desc → others ≡ Ok rest → first.bytes ≡ bytes → file_before number bytes described others ≡ Ok (first ∷ rest)
begins_from number bytes described others first rest made others_are bytes_are =
    rw (made, others_are) (ap (λ (bs : List ℕ). Ok (record { desc = first.desc; bytes = bs } ∷ rest)) (sym bytes_are))

refused_behind : (number : ℕ) (bytes : List ℕ) (described : Result Description DescFault) (others : Result (List SentFile) FilesFault) (desc : Description) (refused : FilesFault)
    → described ≡ Ok desc → others ≡ Err refused → file_before number bytes described others ≡ Err refused
refused_behind number bytes described others desc refused made is = rw (made, is) refl

files_from-push : (index : ℕ) (layout : Layout) (before : List (List ℕ)) (location : List ℕ) (contents : List (List ℕ)) (files : List SentFile) (file : SentFile)
    → files_from index layout before contents ≡ Ok files → file.bytes ≡ left_at (index + length before) contents
    → described_by layout location file.bytes ≡ Ok file.desc
    → files_from index layout (before ++ location ∷ []) contents ≡ Ok (files ++ file ∷ [])
unfolding files_from
files_from-push index layout [] location contents files file made bytes good =
    let here : left_at index contents ≡ file.bytes = ap (λ (n : ℕ). left_at n contents) (omega arith) ∙ sym bytes in
    let none : files ≡ [] = cc in
    rw (none, here, good) refl
files_from-push index layout (earlier ∷ before) location contents files file made bytes good =
    let b = begins _ _ _ _ files made in
    let later : file.bytes ≡ left_at (suc index + length before) contents = bytes ∙ ap (λ (n : ℕ). left_at n contents) (omega arith) in
    let more = files_from-push (suc index) layout before location contents b.rest file b.others_are later good in
    begins_from _ _ _ _ b.first (b.rest ++ file ∷ []) b.made more b.bytes_are ∙ ap (λ (fs : List SentFile). Ok (fs ++ file ∷ [])) (sym b.files_are)

files_from-refused : (index : ℕ) (layout : Layout) (before : List (List ℕ)) (location : List ℕ) (behind contents : List (List ℕ)) (files : List SentFile) (fault : DescFault)
    → files_from index layout before contents ≡ Ok files
    → described_by layout location (left_at (index + length before) contents) ≡ Err fault
    → files_from index layout (before ++ location ∷ behind) contents ≡ Err (Bad (index + length before + 1) (number_of fault))
unfolding files_from
files_from-refused index layout [] location behind contents files fault made refused =
    let here : index + 0 ≡ index = omega arith in
    let there : described_by layout location (left_at index contents) ≡ Err fault = ap (λ (n : ℕ). described_by layout location (left_at n contents)) (sym here) ∙ refused in
    rw (there, here) refl
files_from-refused index layout (earlier ∷ before) location behind contents files fault made refused =
    let b = begins _ _ _ _ files made in
    let next : index + suc (length before) ≡ suc index + length before = omega arith in
    let there : described_by layout location (left_at (suc index + length before) contents) ≡ Err fault =
    ap (λ (n : ℕ). described_by layout location (left_at n contents)) (sym next) ∙ refused in
    let more = files_from-refused (suc index) layout before location behind contents b.rest fault b.others_are there in
    refused_behind _ _ _ _ b.first.desc _ b.made more ∙ ap (λ (n : ℕ). Err (Bad (n + 1) (number_of fault))) (sym next)

-- ---- told contents

-- the files of this index and behind it are as before
pub record AreLeft (index : ℕ) (old new : List (List ℕ)) : Type 0 where
  pub behind : (other : ℕ) → index ≤ other → left_at other new ≡ left_at other old
  pub count : length new ≡ length old

-- the told contents make these files
abbrev pub Make : Layout → List (List ℕ) → Option (List (List ℕ)) → List SentFile → Type 0
Make layout locations old files = IfSome old (λ contents. files_of layout locations contents ≡ Ok files)

pub make-none : (layout : Layout) (locations : List (List ℕ)) (old : Option (List (List ℕ))) → Make layout (take 0 locations) old []
unfolding files_of files_from
make-none layout locations None = tt
make-none layout locations (Some contents) = refl

pub make-push : (layout : Layout) (locations : List (List ℕ)) (location : List ℕ) (index : ℕ) (old now new : Option (List (List ℕ))) (files : List SentFile) (file : SentFile)
    → index < length locations → slice_index_or locations index [] ≡ location
    → Make layout (take index locations) old files → Becomes old now (AreLeft index)
    → Becomes now new (TakesAllAt index file.bytes) → described_by layout location file.bytes ≡ Ok file.desc
    → Make layout (take (index + 1) locations) old (files ++ file ∷ [])
unfolding files_of
make-push layout locations location index None now new files file within here made same taken good = tt
make-push layout locations location index (Some x) None new files file within here made same taken good = absurd same
make-push layout locations location index (Some x) (Some y) None files file within here made same taken good = absurd taken
make-push layout locations location index (Some x) (Some y) (Some z) files file within here made same taken good =
    let taken_are : length (take index locations) ≡ index = grind (arith, common_steps) in
    let long : 0 + length (take index locations) ≡ index = omega (arith, taken_are) in
    let bytes : file.bytes ≡ left_at (0 + length (take index locations)) x =
    taken.all ∙ same.behind index (omega arith) ∙ ap (λ (n : ℕ). left_at n x) (sym long) in
    let more : take (index + 1) locations ≡ take index locations ++ location ∷ [] =
    take_more locations index [] within ∙ ap (λ (l : List ℕ). take index locations ++ l ∷ []) here in
    rw more (files_from-push 0 layout (take index locations) location x files file made bytes good)

pub why_bad : (layout : Layout) (locations : List (List ℕ)) (location : List ℕ) (index : ℕ) (old now : Option (List (List ℕ))) (files : List SentFile) (fault : FilesFault)
    → index < length locations → slice_index_or locations index [] ≡ location
    → Make layout (take index locations) old files → Becomes old now (AreLeft index)
    → IfSome now (λ contents. IsWhyBadAt layout location index (left_at index contents) fault)
    → IfSome old (λ contents. IsWhyBad layout locations contents fault)
unfolding files_of
why_bad layout locations location index None now files refused within here made same why = tt
why_bad layout locations location index (Some x) None files refused within here made same why = absurd same
why_bad layout locations location index (Some x) (Some y) files Fault within here made same why = tt
why_bad layout locations location index (Some x) (Some y) files Memory within here made same why = tt
why_bad layout locations location index (Some x) (Some y) files (Bad file number) within here made same (fault, (is, (file_is, number_is))) =
    let taken_are : length (take index locations) ≡ index = grind (arith, common_steps) in
    let long : 0 + length (take index locations) ≡ index = omega (arith, taken_are) in
    let bytes : left_at index y ≡ left_at (0 + length (take index locations)) x =
    same.behind index (omega arith) ∙ ap (λ (n : ℕ). left_at n x) (sym long) in
    let refused : described_by layout location (left_at (0 + length (take index locations)) x) ≡ Err fault =
    ap (described_by layout location) (sym bytes) ∙ is in
    let whole : locations ≡ take index locations ++ location ∷ drop (index + 1) locations =
    cut_at locations index [] within ∙ ap (λ (l : List ℕ). take index locations ++ l ∷ drop (index + 1) locations) here in
    ap (λ (ls : List (List ℕ)). files_from 0 layout ls x) whole
    ∙ files_from-refused 0 layout (take index locations) location (drop (index + 1) locations) x files fault made refused
    ∙ ap (λ (n : ℕ). Err (Bad (n + 1) (number_of fault))) long
    ∙ ap (λ (n : ℕ). Err (Bad n (number_of fault))) (sym file_is)
    ∙ ap (λ (n : ℕ). Err (Bad file n)) (sym number_is)

pub left-none : (old : Option (List (List ℕ))) → Becomes old old (AreLeft 0)
left-none None = tt
left-none (Some x) = record { behind = λ other from. refl; count = refl }

pub left-push : (index : ℕ) (bytes : List ℕ) (old now new : Option (List (List ℕ)))
    → Becomes old now (AreLeft index) → Becomes now new (TakesAllAt index bytes) → Becomes old new (AreLeft (index + 1))
left-push index bytes None now new same taken = tt
left-push index bytes (Some x) None new same taken = absurd same
left-push index bytes (Some x) (Some y) None same taken = absurd taken
left-push index bytes (Some x) (Some y) (Some z) same taken = record {
  behind = λ other from. taken.kept.others other (λ is. omega (arith, from, is)) ∙ same.behind other (omega (arith, from));
  count = taken.kept.count ∙ same.count;
}

-- reading ends in the file of this index
pub reached-in : (layout : Layout) (locations : List (List ℕ)) (index : ℕ) (old now new : Option (List (List ℕ))) (files : List SentFile)
    → Make layout (take index locations) old files → Becomes old now (AreLeft index) → Becomes now new (LosesSomeAt index)
    → Becomes old new (IsReached layout locations index)
reached-in layout locations index None now new files made same lost = tt
reached-in layout locations index (Some x) None new files made same lost = absurd same
reached-in layout locations index (Some x) (Some y) None files made same lost = absurd lost
reached-in layout locations index (Some x) (Some y) (Some z) files made same lost = record {
  before = rw made refl;
  behind = λ other from. lost.1.kept.others other (λ is. omega (arith, from, is)) ∙ same.behind other (omega (arith, from));
  count = lost.1.kept.count ∙ same.count;
}

-- reading ends before the file of this index
pub reached-all : (layout : Layout) (locations : List (List ℕ)) (index : ℕ) (old now : Option (List (List ℕ))) (files : List SentFile)
    → Make layout (take index locations) old files → Becomes old now (AreLeft index) → Becomes old now (IsReached layout locations index)
reached-all layout locations index None now files made same = tt
reached-all layout locations index (Some x) None files made same = absurd same
reached-all layout locations index (Some x) (Some y) files made same = record {
  before = rw made refl;
  behind = λ other from. same.behind other (omega (arith, from));
  count = same.count;
}

-- ---- each file

-- the files have descriptions like this, each with its location
abbrev pub EachDescribed : Layout → List (List ℕ) → List SentFile → Type 0
EachDescribed layout locations files = (index : ℕ) (default : SentFile) → index < length files
    → IsDescribed layout (slice_index_or locations index []) (slice_index_or files index default)

pub each-push : (layout : Layout) (locations : List (List ℕ)) (location : List ℕ) (index : ℕ) (files : List SentFile) (file : SentFile)
    → length files ≡ index → slice_index_or locations index [] ≡ location
    → EachDescribed layout locations files → described_by layout location file.bytes ≡ Ok file.desc
    → EachDescribed layout locations (files ++ file ∷ [])
each-push layout locations location index files file number here each good other default within = elim (cases_lt other (length files)) [
  | inl lt ↦ subst (IsDescribed layout (slice_index_or locations other [])) (sym (get_or_append_left files (file ∷ []) default other lt)) (each other default lt)
  | inr ge ↦
      let last : length files ≡ other = omega (arith, ge, within, length-append files (file ∷ [])) in
      let at : slice_index_or locations other [] ≡ location = ap (λ (n : ℕ). slice_index_or locations n []) (sym last ∙ number) ∙ here in
      let is : slice_index_or (files ++ file ∷ []) other default ≡ file =
      ap (λ (n : ℕ). slice_index_or (files ++ file ∷ []) n default) (sym last) ∙ get_or-append_seam files file [] default in
      rw (at, is) (is_described layout location file good)
]

-- ---- an answer that is handed on

pub handed_on : {T : Type 0} (result : Result T FilesFault) (P : FilesFault → Type 0) (fault : FilesFault)
    → IsErrAnd result (λ given. given ≡ fault) → P fault → IfErr result P
handed_on (Ok value) P refused is holds = tt
handed_on (Err given) P refused is holds = subst P (sym is) holds

pub index_is : (xs : List (List ℕ)) (i : ℕ) (here x : List ℕ) → i < length xs → here ≡ x → x ≡ slice_index_or xs i x → slice_index_or xs i [] ≡ here
index_is xs i here x within is at = grind (arith, common_steps)
