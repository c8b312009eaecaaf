-- How many packets a session has at most.
use Rattle.std.proofs.Common.{◌≡◌, ℕ, zero, suc, ◌+◌, ◌-◌, ◌*◌, ◌<◌, ◌≤◌, min, List, [], ◌∷◌, length, take, flat_map, sum, slice_index, sym, ap, subst, ◌∙◌, length-append, take_all, arith}
use Rattle.std.specs.List.{range_with_len, AllByRecursion}
use Rattle.std.proofs.lemmas.List.{length-map}
use Rattle.std.proofs.lemmas.List.Sums.{sum_by-cons, sum_by_more}
use Rattle.std.proofs.lemmas.List.FromFn.{length-range_with_len, length-map-range_with_len}
use Rattle.mb_alc.specs.Packet.{Packet}
use Rattle.mb_tables.specs.Tables.{RaptorTables}
use Rattle.mb_geom.specs.Partition.{ceiling}
use Rattle.mb_geom.specs.Description.{IsGood, symbols, block_sizes, block_count, block_size}
use Rattle.mb_geom.specs.declared.desc.Scheme.{Scheme}
use Rattle.mb_geom.specs.declared.desc.Scheme.TheVariants.{NoCode, Raptor}
use Rattle.mb_geom.proofs.PartitionLemmas.{ceiling-le}
use Rattle.mb_geom.proofs.LayoutLemmas.{sum-block_sizes}
use Rattle.mb_sender.specs.Trace.{repairs, first_repair, repair_esis, source_packet, source_packets, repair_packet, repair_packets, block_packets, file_packets, files_packets, text_packet, text_packets, round_packets, rounds_packets, closing_packet, session_packets}
use Rattle.mb_sender.specs.Counts.{symbols_of_files, packets_most}
use Rattle.mb_sender.specs.declared.session.Session.{Session}
use Rattle.mb_files.specs.declared.reading.SentFile.{SentFile}
use Rattle.mb_sender.proofs.Joining.{flat-more}

-- ---- a block

esis-most : (percent round k : ℕ) (s : Scheme) → length (repair_esis percent round s k) ≤ k * percent
esis-most percent round k (NoCode b) = omega arith
esis-most percent round k (Raptor z n al) =
    let most : repairs percent k ≤ k * percent = ceiling-le (k * percent) 100 (omega arith) in
    let long = length-range_with_len (first_repair percent round k) (min (repairs percent k) (65536 - first_repair percent round k)) in
    omega (arith, most, long)

block-most : (s : Session) (tables : RaptorTables) (round toi : ℕ) (file : SentFile) (sbn : ℕ)
    → length (block_packets s tables round toi file sbn) ≤ block_size file.desc sbn * (1 + s.percent)
block-most s tables round toi file sbn =
    let k = block_size file.desc sbn in
    let sources : length (source_packets s toi file sbn) ≡ k = length-map-range_with_len (source_packet s toi file sbn) 0 k in
    let esis = repair_esis s.percent round file.desc.scheme k in
    let repaired : length (repair_packets s tables round toi file sbn) ≡ length esis = length-map esis (repair_packet s tables toi file sbn) in
    let both = length-append (source_packets s toi file sbn) (repair_packets s tables round toi file sbn) in
    let parts : k * (1 + s.percent) ≡ k + k * s.percent = grind arith in
    omega (arith, sources, repaired, both, parts, esis-most s.percent round k file.desc.scheme)

-- ---- several blocks

sum-read : (xs : List ℕ) (n : ℕ) → n < length xs → sum (take (n + 1) xs) ≡ sum (take n xs) + slice_index xs n
sum-read xs n below = sum_by_more (λ (x : ℕ). x) xs n 0 below

flat-sum : (g : ℕ → List Packet) (xs : List ℕ) (c n : ℕ) → n ≤ length xs → ((i : ℕ) → length (g i) ≤ slice_index xs i * c)
    → length (flat_map g (range_with_len 0 n)) ≤ sum (take n xs) * c
flat-sum g xs c zero within each = omega arith
flat-sum g xs c (suc n) within each =
    let one : suc n ≡ n + 1 = omega arith in
    let before = flat-sum g xs c n (omega (arith, within)) each in
    let long : length (flat_map g (range_with_len 0 (n + 1))) ≡ length (flat_map g (range_with_len 0 n)) + length (g n) =
    ap length (flat-more g n) ∙ length-append (flat_map g (range_with_len 0 n)) (g n) in
    let parts : (sum (take n xs) + slice_index xs n) * c ≡ sum (take n xs) * c + slice_index xs n * c = grind arith in
    let all : sum (take (n + 1) xs) * c ≡ sum (take n xs) * c + slice_index xs n * c = ap (λ m. m * c) (sum-read xs n (omega (arith, within))) ∙ parts in
    let most : length (flat_map g (range_with_len 0 (n + 1))) ≤ sum (take (n + 1) xs) * c = omega (arith, before, long, all, each n) in
    subst (λ m. length (flat_map g (range_with_len 0 m)) ≤ sum (take m xs) * c) (sym one) most

file-most : (s : Session) (tables : RaptorTables) (round toi : ℕ) (file : SentFile) → IsGood file.desc
    → length (file_packets s tables round toi file) ≤ symbols file.desc * (1 + s.percent)
file-most s tables round toi file good =
    let d = file.desc in
    let most = flat-sum (block_packets s tables round toi file) (block_sizes d) (1 + s.percent) (block_count d) (omega arith) (block-most s tables round toi file) in
    let whole : sum (take (block_count d) (block_sizes d)) ≡ symbols d = ap sum (take_all (block_count d) (block_sizes d) (omega arith)) ∙ sum-block_sizes d good in
    subst (λ m. length (file_packets s tables round toi file) ≤ m * (1 + s.percent)) whole most

files-most : (s : Session) (tables : RaptorTables) (round toi : ℕ) (xs : List SentFile) → AllByRecursion (λ (file : SentFile). IsGood file.desc) xs
    → length (files_packets s tables round toi xs) ≤ symbols_of_files xs * (1 + s.percent)
unfolding files_packets
files-most s tables round toi [] good = omega arith
files-most s tables round toi (x ∷ xs) good =
    let one = file-most s tables round toi x good.0 in
    let others = files-most s tables round (toi + 1) xs good.1 in
    let long = length-append (file_packets s tables round toi x) (files_packets s tables round (toi + 1) xs) in
    let parts : (symbols x.desc + symbols_of_files xs) * (1 + s.percent) ≡ symbols x.desc * (1 + s.percent) + symbols_of_files xs * (1 + s.percent) = grind arith in
    let sums : symbols_of_files (x ∷ xs) ≡ symbols x.desc + symbols_of_files xs = sum_by-cons (λ (file : SentFile). symbols file.desc) x xs in
    let all : symbols_of_files (x ∷ xs) * (1 + s.percent) ≡ symbols x.desc * (1 + s.percent) + symbols_of_files xs * (1 + s.percent) = ap (λ m. m * (1 + s.percent)) sums ∙ parts in
    omega (arith, one, others, long, all)

-- ---- the session

flat-most : (g : ℕ → List Packet) (c n : ℕ) → ((i : ℕ) → length (g i) ≤ c) → length (flat_map g (range_with_len 0 n)) ≤ n * c
flat-most g c zero each = omega arith
flat-most g c (suc n) each =
    let one : suc n ≡ n + 1 = omega arith in
    let before = flat-most g c n each in
    let long : length (flat_map g (range_with_len 0 (n + 1))) ≡ length (flat_map g (range_with_len 0 n)) + length (g n) =
    ap length (flat-more g n) ∙ length-append (flat_map g (range_with_len 0 n)) (g n) in
    let parts : (n + 1) * c ≡ n * c + c = grind arith in
    let most : length (flat_map g (range_with_len 0 (n + 1))) ≤ (n + 1) * c = omega (arith, before, long, parts, each n) in
    subst (λ m. length (flat_map g (range_with_len 0 m)) ≤ m * c) (sym one) most

round-most : (s : Session) (tables : RaptorTables) (text : List ℕ) (files : List SentFile) (round : ℕ) → AllByRecursion (λ (file : SentFile). IsGood file.desc) files
    → length (round_packets s tables text files round) ≤ ceiling (length text) 1400 + symbols_of_files files * (1 + s.percent)
round-most s tables text files round good =
    let texts : length (text_packets s text) ≡ ceiling (length text) 1400 = length-map-range_with_len (text_packet s text) 0 (ceiling (length text) 1400) in
    let both = length-append (text_packets s text) (files_packets s tables round 1 files) in
    omega (arith, texts, both, files-most s tables round 1 files good)

pub session-most : (s : Session) (tables : RaptorTables) (text : List ℕ) (files : List SentFile) → AllByRecursion (λ (file : SentFile). IsGood file.desc) files
    → length (session_packets s tables text files) ≤ packets_most s text files
session-most s tables text files good =
    let c = ceiling (length text) 1400 + symbols_of_files files * (1 + s.percent) in
    let rounds = flat-most (round_packets s tables text files) c s.rounds (λ round. round-most s tables text files round good) in
    let both = length-append (rounds_packets s tables text files) (closing_packet s ∷ []) in
    omega (arith, rounds, both)
