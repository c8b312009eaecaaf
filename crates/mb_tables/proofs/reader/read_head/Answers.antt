use Rattle.std.proofs.Common.{◌≡◌, ◌++◌, take, length, refl, ◌∙◌, arith, length-append}
use Rattle.std.proofs.lemmas.List.{take_at, take-append-le}
use Rattle.std.specs.Prelude.{flat_map}
use Rattle.mb_base.specs.Number.{be_bytes}
use Rattle.mb_tables.specs.Tables.{magic}
use Rattle.mb_tables.proofs.PartLemmas.{Loses-trans, Tells-behind}
use Rattle.mb_tables.proofs.FileLemmas.{head-cut, words-size}
use Rattle.mb_tables.proofs.reader.read_head.Goals as goal

pub returns-in-Err-read_words-2-clause-refused : goal.returns-in-Err-read_words-2-clause-refused
returns-in-Err-read_words-2-clause-refused g c =
    let first = flat_map (be_bytes 4) c.in-Ok-read_words.words.items in
    let size : length (magic ++ first) ≡ 1032 = omega (arith, length-append magic first, words-size _ c.in-Ok-read_words.ensures.good) in
    Tells-behind _ _ (magic ++ first) _ _ (Loses-trans _ _ _ _ _ c.in-Ok.ensures.read c.in-Ok-read_words.ensures.read)
    (λ rest short. head-cut 1032 1024 c.in-Err-read_words-2.fault (magic ++ first) rest size (omega arith) (take_at magic first 8 refl) (omega arith) short)
    c.in-Err-read_words-2.ensures.refused

pub returns-in-Err-read_count-clause-refused : goal.returns-in-Err-read_count-clause-refused
returns-in-Err-read_count-clause-refused g c =
    let first = flat_map (be_bytes 4) c.in-Ok-read_words.words.items in
    let second = flat_map (be_bytes 4) c.in-Ok-read_words-2.words.items in
    let half : length (magic ++ first) ≡ 1032 = omega (arith, length-append magic first, words-size _ c.in-Ok-read_words.ensures.good) in
    let size : length ((magic ++ first) ++ second) ≡ 2056 = omega (arith, length-append (magic ++ first) second, half, words-size _ c.in-Ok-read_words-2.ensures.good) in
    let begins : take 8 ((magic ++ first) ++ second) ≡ magic = take-append-le 8 (magic ++ first) second (omega (arith, half)) ∙ take_at magic first 8 refl in
    Tells-behind _ _ ((magic ++ first) ++ second) _ _
    (Loses-trans _ _ _ _ _ (Loses-trans _ _ _ _ _ c.in-Ok.ensures.read c.in-Ok-read_words.ensures.read) c.in-Ok-read_words-2.ensures.read)
    (λ rest short. head-cut 2056 2 c.in-Err-read_count.fault ((magic ++ first) ++ second) rest size (omega arith) begins (omega arith) short)
    c.in-Err-read_count.ensures.refused
