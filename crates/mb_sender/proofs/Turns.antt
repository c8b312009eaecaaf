-- What is sent by the turns of a loop, and at its end.
use Rattle.std.proofs.Common.{◌≡◌, ℕ, zero, suc, ◌+◌, ◌-◌, ◌<◌, ◌≤◌, List, [], ◌∷◌, ◌++◌, length, get_or, take, drop, map, flat_map, Option, Result, Ok, Err, OnOk, refl, sym, ◌∙◌, ap, subst, append-nil, length-append, arith}
use Rattle.std.specs.List.{range_with_len, AllByRecursion}
use Rattle.std.proofs.lemmas.Grind.{common_steps, take_at_read}
use Rattle.std.proofs.lemmas.List.{take-append-drop}
use Rattle.std.proofs.lemmas.List.FromFn.{length-map-range_with_len}
use Rattle.std.proofs.Math.Seq.{take-append_seam}
use Rattle.mb_base.specs.Outside.{Grows}
use Rattle.mb_alc.specs.Packet.{Packet}
use Rattle.mb_tables.specs.Tables.{RaptorTables}
use Rattle.mb_sender.specs.Trace.{file_packets, files_packets}
use Rattle.mb_sender.specs.Sent.{bytes_from, IsSent, IsSendable, Line, Sends}
use Rattle.mb_sender.specs.declared.session.Session.{Session}
use Rattle.mb_files.specs.declared.reading.SentFile.{SentFile}
use Rattle.mb_sender.specs.declared.fault.SendFault.{SendFault}
use Rattle.mb_sender.proofs.Joining.{Part, sends-trans, part-more, part-behind, stopped, map-more, map-split, flat-more, flat-split, flat-within, files-append}

-- ---- any packets

-- the same packets
pub sends-same : {T : Type 0} (s : Session) (a b : Option (List ℕ)) (l m : Line) (xs ys : List Packet) (r : Result T SendFault) → xs ≡ ys
    → Sends {T = T} s a b l m xs r → Sends {T = T} s a b l m ys r
sends-same s a b l m xs ys r same p = subst (λ zs. Sends s a b l m zs r) same p

-- some packets were sent, and then others, which are all
pub sends-next : {T U : Type 0} (s : Session) (a b c : Option (List ℕ)) (l m n : Line) (xs ys all : List Packet) (t : T) (r : Result U SendFault)
    → all ≡ xs ++ ys → Sends {T = T} s a b l m xs (Ok t) → Sends {T = U} s b c m n ys r → Sends {T = U} s a c l n all r
sends-next s a b c l m n xs ys all t r is p q = sends-same s a c l n (xs ++ ys) all r (sym is) (sends-trans s a b c l m n xs ys t r p q)

-- behind some packets a beginning of others was sent
pub stopped-behind : {T U : Type 0} (s : Session) (a b c : Option (List ℕ)) (l m n : Line) (xs ys rest all : List Packet) (t : T) (f : SendFault) (r : Result U SendFault)
    → all ≡ (xs ++ ys) ++ rest → r ≡ Err f → Sends {T = T} s a b l m xs (Ok t) → Part s b c m ys → Sends {T = U} s a c l n all r
stopped-behind s a b c l m n xs ys rest all t f r is r_is p q =
    stopped s a c l n all f r r_is
    (subst (λ zs. Part s a c l zs) (sym is) (part-more s a c l (xs ++ ys) rest (part-behind s a b c l m xs ys t p q)))

-- a beginning of the first of two runs was sent
pub stopped-first : {U : Type 0} (s : Session) (a b : Option (List ℕ)) (l n : Line) (xs ys : List Packet) (f : SendFault) (r : Result U SendFault)
    → r ≡ Err f → Part s a b l xs → Sends {T = U} s a b l n (xs ++ ys) r
stopped-first s a b l n xs ys f r r_is p = stopped s a b l n (xs ++ ys) f r r_is (part-more s a b l xs ys p)

-- ---- one packet for each number

pub map-parts : (f : ℕ → Packet) (at i j k : ℕ) → at + i ≡ j → i < k
    → map f (range_with_len at k) ≡ (map f (range_with_len at i) ++ f j ∷ []) ++ map f (range_with_len (at + (i + 1)) (k - (i + 1)))
map-parts f at i j k is below =
    map-split f at (i + 1) k (omega (arith, below)) ∙ ap (λ (ys : List Packet). ys ++ map f (range_with_len (at + (i + 1)) (k - (i + 1)))) (map-more f at i j is)

pub map-number : (f : ℕ → Packet) (at i k m l most : ℕ) → i < k → m ≡ l + length (map f (range_with_len at i)) → l + length (map f (range_with_len at k)) ≤ most → m < most
map-number f at i k m l most below m_is within = omega (arith, below, m_is, within, length-map-range_with_len f at i, length-map-range_with_len f at k)

-- ---- several packets for each number

pub flat-parts : (g : ℕ → List Packet) (i k : ℕ) → i < k
    → flat_map g (range_with_len 0 k) ≡ (flat_map g (range_with_len 0 i) ++ g i) ++ flat_map g (range_with_len (i + 1) (k - (i + 1)))
flat-parts g i k below =
    flat-split g (i + 1) k (omega (arith, below)) ∙ ap (λ (ys : List Packet). ys ++ flat_map g (range_with_len (i + 1) (k - (i + 1)))) (flat-more g i)

pub flat-number : (g : ℕ → List Packet) (i k m l most : ℕ) → i < k → m ≡ l + length (flat_map g (range_with_len 0 i)) → l + length (flat_map g (range_with_len 0 k)) ≤ most
    → m + length (g i) ≤ most
flat-number g i k m l most below m_is within = omega (arith, m_is, within, flat-within g i k below)

-- ---- files

files-one : (s : Session) (tables : RaptorTables) (round toi : ℕ) (x : SentFile) → files_packets s tables round toi (x ∷ []) ≡ file_packets s tables round toi x
unfolding files_packets
files-one s tables round toi x = append-nil (file_packets s tables round toi x)

pub files-none : (s : Session) (tables : RaptorTables) (round toi : ℕ) → files_packets s tables round toi [] ≡ []
unfolding files_packets
files-none s tables round toi = refl

pub files-more : (s : Session) (tables : RaptorTables) (round i : ℕ) (xs : List SentFile) (x : SentFile) → i < length xs → x ≡ get_or xs i x
    → files_packets s tables round 1 (take (i + 1) xs) ≡ files_packets s tables round 1 (take i xs) ++ file_packets s tables round (i + 1) x
files-more s tables round i xs x below is =
    let long : 1 + length (take i xs) ≡ i + 1 = grind (arith, common_steps, below) in
    ap (files_packets s tables round 1) ((take_at_read xs i x below).1) ∙ files-append s tables round 1 (take i xs) (get_or xs i x ∷ [])
    ∙ ap (λ n. files_packets s tables round 1 (take i xs) ++ files_packets s tables round n (get_or xs i x ∷ [])) long
    ∙ ap (λ (y : SentFile). files_packets s tables round 1 (take i xs) ++ files_packets s tables round (i + 1) (y ∷ [])) (sym is)
    ∙ ap (λ (ys : List Packet). files_packets s tables round 1 (take i xs) ++ ys) (files-one s tables round (i + 1) x)

pub files-parts : (s : Session) (tables : RaptorTables) (round i : ℕ) (xs : List SentFile) (x : SentFile) → i < length xs → x ≡ get_or xs i x
    → files_packets s tables round 1 xs
    ≡ (files_packets s tables round 1 (take i xs) ++ file_packets s tables round (i + 1) x) ++ files_packets s tables round (1 + length (take (i + 1) xs)) (drop (i + 1) xs)
files-parts s tables round i xs x below is =
    ap (files_packets s tables round 1) (sym (take-append-drop (i + 1) xs)) ∙ files-append s tables round 1 (take (i + 1) xs) (drop (i + 1) xs)
    ∙ ap (λ (ys : List Packet). ys ++ files_packets s tables round (1 + length (take (i + 1) xs)) (drop (i + 1) xs)) (files-more s tables round i xs x below is)

pub files-number : (s : Session) (tables : RaptorTables) (round i : ℕ) (xs : List SentFile) (x : SentFile) (m l most : ℕ) → i < length xs → x ≡ get_or xs i x
    → m ≡ l + length (files_packets s tables round 1 (take i xs)) → l + length (files_packets s tables round 1 xs) ≤ most
    → m + length (file_packets s tables round (i + 1) x) ≤ most
files-number s tables round i xs x m l most below is m_is within =
    let before = files_packets s tables round 1 (take i xs) in
    let rest = files_packets s tables round (1 + length (take (i + 1) xs)) (drop (i + 1) xs) in
    let all : length (files_packets s tables round 1 xs) ≡ length before + length (file_packets s tables round (i + 1) x) + length rest =
    ap length (files-parts s tables round i xs x below is) ∙ length-append (before ++ file_packets s tables round (i + 1) x) rest
    ∙ ap (λ n. n + length rest) (length-append before (file_packets s tables round (i + 1) x)) in
    omega (arith, m_is, within, all)

pub at-place : {X : Type 0} (P : X → Type 0) (xs : List X) (i : ℕ) (d : X) → AllByRecursion P xs → i < length xs → P (get_or xs i d)
at-place P [] i d all below = absurd (omega (arith, below))
at-place P (x ∷ xs) zero d all below = all.0
at-place P (x ∷ xs) (suc i) d all below = at-place P xs i d all.1 (omega (arith, below))

pub sendable-at : (s : Session) (tables : RaptorTables) (xs : List SentFile) (i : ℕ) (x : SentFile) → AllByRecursion (IsSendable s tables) xs → i < length xs → x ≡ get_or xs i x
    → IsSendable s tables x
sendable-at s tables xs i x all below is = subst (IsSendable s tables) (sym is) (at-place (IsSendable s tables) xs i x all below)

-- ---- the whole trace

-- all of it was written
pub all-written : {T : Type 0} (s : Session) (a b : Option (List ℕ)) (l m : Line) (packets : List Packet) (r : Result T SendFault) → l ≡ record { number = 0; held = [] }
    → Sends {T = T} s a b l m packets r → OnOk r (m.held ≡ []) → OnOk r (Grows a b (bytes_from s 0 packets))
all-written s a b l m packets (Ok t) l_is p empty =
    let out : p.1.out ≡ bytes_from s 0 packets =
    sym (append-nil p.1.out) ∙ ap (λ (h : List ℕ). p.1.out ++ h) (sym empty) ∙ p.1.same ∙ ap (λ (k : Line). k.held ++ bytes_from s k.number packets) l_is in
    subst (λ (o : List ℕ). Grows a b o) out p.1.grows
all-written s a b l m packets (Err e) l_is p empty = tt

some-written : (s : Session) (a b : Option (List ℕ)) (l : Line) (left : List ℕ) (packets : List Packet) → l ≡ record { number = 0; held = [] }
    → IsSent a b l.held left (bytes_from s l.number packets) → (n : ℕ) × Grows a b (take n (bytes_from s 0 packets))
some-written s a b l left packets l_is p =
    let all : p.out ++ left ≡ bytes_from s 0 packets = p.same ∙ ap (λ (k : Line). k.held ++ bytes_from s k.number packets) l_is in
    let out : p.out ≡ take (length p.out) (bytes_from s 0 packets) = sym (take-append_seam p.out left) ∙ ap (take (length p.out)) all in
    (length p.out, subst (λ (o : List ℕ). Grows a b o) out p.grows)

-- the first bytes of it were written
pub part-written : {T : Type 0} (s : Session) (a b : Option (List ℕ)) (l m : Line) (packets : List Packet) (r : Result T SendFault) → l ≡ record { number = 0; held = [] }
    → Sends {T = T} s a b l m packets r → (n : ℕ) × Grows a b (take n (bytes_from s 0 packets))
part-written s a b l m packets (Ok t) l_is p = some-written s a b l m.held packets l_is p.1
part-written s a b l m packets (Err e) l_is p = some-written s a b l p.0 packets l_is p.1
