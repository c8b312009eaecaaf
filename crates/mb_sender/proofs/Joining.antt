-- How what was sent joins over calls.
use Rattle.std.proofs.Common.{◌≡◌, ℕ, zero, suc, ◌+◌, ◌-◌, ◌<◌, ◌≤◌, List, [], ◌∷◌, ◌++◌, length, take, drop, map, flat_map, Option, Result, Ok, Err, refl, sym, ◌∙◌, ap, ap₂, append_assoc, append-nil, length-append, arith}
use Rattle.std.specs.List.{range_with_len}
use Rattle.std.proofs.lemmas.Grind.{flat_map-append}
use Rattle.std.proofs.lemmas.List.{map-append, take-append-drop}
use Rattle.std.proofs.lemmas.List.FromFn.{map-range_with_len_more}
use Rattle.mb_base.specs.Outside.{Grows}
use Rattle.mb_base.proofs.Content.{Grows-nil, Grows-trans}
use Rattle.mb_base.specs.Trace.{record_bytes}
use Rattle.mb_alc.specs.Packet.{Packet}
use Rattle.mb_alc.specs.Written.{packet_bytes}
use Rattle.mb_base.specs.Broadcast.{Record}
use Rattle.mb_sender.specs.Trace.{records_from, moment_of, file_packets, files_packets}
use Rattle.mb_files.specs.declared.reading.SentFile.{SentFile}
use Rattle.mb_tables.specs.Tables.{RaptorTables}
use Rattle.mb_sender.specs.Sent.{bytes_from, IsSent, Line, Sends, HasSendCause}
use Rattle.mb_sender.specs.declared.session.Session.{Session}
use Rattle.mb_sender.specs.declared.fault.SendFault.{SendFault}

-- ---- the bytes of records

records_from-append : (s : Session) (n : ℕ) (xs ys : List Packet) → records_from s n (xs ++ ys) ≡ records_from s n xs ++ records_from s (n + length xs) ys
unfolding records_from
records_from-append s n [] ys = ap (λ m. records_from s m ys) (omega arith)
records_from-append s n (x ∷ xs) ys =
    let shifted : suc n + length xs ≡ n + length (x ∷ xs) = omega arith in
    ap (λ (rs : List Record). record { at = moment_of s n; bytes = packet_bytes x } ∷ rs)
    (records_from-append s (suc n) xs ys ∙ ap (λ m. records_from s (suc n) xs ++ records_from s m ys) shifted)

pub bytes_from-append : (s : Session) (n : ℕ) (xs ys : List Packet) → bytes_from s n (xs ++ ys) ≡ bytes_from s n xs ++ bytes_from s (n + length xs) ys
unfolding bytes_from
bytes_from-append s n xs ys =
    ap (flat_map record_bytes) (records_from-append s n xs ys) ∙ flat_map-append record_bytes (records_from s n xs) (records_from s (n + length xs) ys)

pub bytes_from-nil : (s : Session) (n : ℕ) → bytes_from s n [] ≡ []
unfolding bytes_from records_from
bytes_from-nil s n = refl

-- ---- what was sent

pub nothing_sent : (a : Option (List ℕ)) (held : List ℕ) → IsSent a a held held []
nothing_sent a held = record { out = []; grows = Grows-nil a; same = sym (append-nil held) }

sent-trans : (a b c : Option (List ℕ)) (held mid left xs ys : List ℕ) → IsSent a b held mid xs → IsSent b c mid left ys → IsSent a c held left (xs ++ ys)
sent-trans a b c held mid left xs ys p q = record {
  out = p.out ++ q.out;
  grows = Grows-trans a b c p.out q.out p.grows q.grows;
  same =
      append_assoc p.out q.out left ∙ ap (λ (l : List ℕ). p.out ++ l) q.same ∙ sym (append_assoc p.out mid ys)
      ∙ ap (λ (l : List ℕ). l ++ ys) p.same ∙ append_assoc held xs ys;
}

sent-more : (a b : Option (List ℕ)) (held left xs ys : List ℕ) → IsSent a b held left xs → IsSent a b held (left ++ ys) (xs ++ ys)
sent-more a b held left xs ys p = record {
  out = p.out;
  grows = p.grows;
  same = sym (append_assoc p.out left ys) ∙ ap (λ (l : List ℕ). l ++ ys) p.same ∙ append_assoc held xs ys;
}

-- nothing
pub sends-nothing : {T : Type 0} (s : Session) (a : Option (List ℕ)) (l : Line) (t : T) → Sends {T = T} s a a l l [] (Ok t)
sends-nothing s a l t = (omega arith, rw (bytes_from-nil s l.number) (nothing_sent a l.held))

-- some packets, and then others
pub sends-trans : {T U : Type 0} (s : Session) (a b c : Option (List ℕ)) (l m n : Line) (xs ys : List Packet) (t : T) (r : Result U SendFault)
    → Sends s a b l m xs (Ok t) → Sends s b c m n ys r → Sends s a c l n (xs ++ ys) r
sends-trans s a b c l m n xs ys t (Ok u) p q = (
  q.0 ∙ ap (λ k. k + length ys) p.0 ∙ sym (omega (arith, length-append xs ys)),
  rw (bytes_from-append s l.number xs ys, sym p.0) (sent-trans a b c l.held m.held n.held _ _ p.1 q.1),
)
sends-trans s a b c l m n xs ys t (Err e) p q = (
  q.0,
  rw (bytes_from-append s l.number xs ys, sym p.0) (sent-trans a b c l.held m.held q.0 _ _ p.1 q.1),
)

-- a beginning of packets was sent
abbrev pub Part : Session → Option (List ℕ) → Option (List ℕ) → Line → List Packet → Type 0
Part s a b l packets = (left : List ℕ) × IsSent a b l.held left (bytes_from s l.number packets)

-- a beginning of some packets is one of more
pub part-more : (s : Session) (a b : Option (List ℕ)) (l : Line) (xs ys : List Packet) → Part s a b l xs → Part s a b l (xs ++ ys)
part-more s a b l xs ys p = (
  p.0 ++ bytes_from s (l.number + length xs) ys,
  rw (bytes_from-append s l.number xs ys) (sent-more a b l.held p.0 _ _ p.1),
)

-- behind packets that were sent
pub part-behind : {T : Type 0} (s : Session) (a b c : Option (List ℕ)) (l m : Line) (xs ys : List Packet) (t : T)
    → Sends s a b l m xs (Ok t) → Part s b c m ys → Part s a c l (xs ++ ys)
part-behind s a b c l m xs ys t p q =
    (q.0, rw (bytes_from-append s l.number xs ys, sym p.0) (sent-trans a b c l.held m.held q.0 _ _ p.1 q.1))

pub stopped : {U : Type 0} (s : Session) (a b : Option (List ℕ)) (l n : Line) (xs : List Packet) (f : SendFault) (r : Result U SendFault)
    → r ≡ Err f → Part s a b l xs → Sends s a b l n xs r
stopped s a b l n xs f r r_is p = rw r_is p

-- where a result says that a beginning was sent
pub part-of : {U : Type 0} (s : Session) (a b : Option (List ℕ)) (l n : Line) (xs : List Packet) (f : SendFault) (r : Result U SendFault)
    → r ≡ Err f → Sends s a b l n xs r → Part s a b l xs
part-of s a b l n xs f (Ok u) r_is p = absurd (cc r_is)
part-of s a b l n xs f (Err e) r_is p = p

-- ---- the count of faults

pub cause-none : {T : Type 0} (n : ℕ) (t : T) → HasSendCause n n (Ok t)
cause-none n t = record { later = omega arith; failed = λ e. absurd cc }

-- ---- numbers in a row

range-next : (a n : ℕ) → range_with_len a (suc n) ≡ range_with_len a n ++ (a + n) ∷ []
range-next a zero = ap (λ (x : ℕ). x ∷ []) (omega arith)
range-next a (suc n) =
    let last : a + 1 + n ≡ a + suc n = omega arith in
    ap (λ (xs : List ℕ). a ∷ xs) (range-next (a + 1) n ∙ ap (λ (x : ℕ). range_with_len (a + 1) n ++ x ∷ []) last)

pub range-more : (a n : ℕ) → range_with_len a (n + 1) ≡ range_with_len a n ++ (a + n) ∷ []
range-more a n = let one : n + 1 ≡ suc n = omega arith in ap (range_with_len a) one ∙ range-next a n

pub range-split : (a k n : ℕ) → k ≤ n → range_with_len a n ≡ range_with_len a k ++ range_with_len (a + k) (n - k)
range-split a zero n le = ap₂ range_with_len (omega arith) (omega arith)
range-split a (suc k) zero le = absurd (omega arith)
range-split a (suc k) (suc n) le =
    let last : a + 1 + k ≡ a + suc k = omega arith in
    let left : n - k ≡ suc n - suc k = omega arith in
    ap (λ (xs : List ℕ). a ∷ xs)
    (range-split (a + 1) k n (omega arith) ∙ ap₂ (λ x y. range_with_len (a + 1) k ++ range_with_len x y) last left)

-- ---- one packet for each number

pub map-more : (f : ℕ → Packet) (a i j : ℕ) → a + i ≡ j → map f (range_with_len a (i + 1)) ≡ map f (range_with_len a i) ++ f j ∷ []
map-more f a i j is = map-range_with_len_more f a i j is

pub map-split : (f : ℕ → Packet) (a k n : ℕ) → k ≤ n → map f (range_with_len a n) ≡ map f (range_with_len a k) ++ map f (range_with_len (a + k) (n - k))
map-split f a k n le = ap (map f) (range-split a k n le) ∙ map-append f (range_with_len a k) (range_with_len (a + k) (n - k))

-- ---- several packets for each number

pub flat-more : (g : ℕ → List Packet) (i : ℕ) → flat_map g (range_with_len 0 (i + 1)) ≡ flat_map g (range_with_len 0 i) ++ g i
flat-more g i =
    let at : 0 + i ≡ i = omega arith in
    ap (flat_map g) (range-more 0 i) ∙ flat_map-append g (range_with_len 0 i) ((0 + i) ∷ []) ∙ ap (λ x. flat_map g (range_with_len 0 i) ++ flat_map g (x ∷ [])) at
    ∙ ap (λ (l : List Packet). flat_map g (range_with_len 0 i) ++ l) (append-nil (g i))

pub flat-split : (g : ℕ → List Packet) (k n : ℕ) → k ≤ n
    → flat_map g (range_with_len 0 n) ≡ flat_map g (range_with_len 0 k) ++ flat_map g (range_with_len k (n - k))
flat-split g k n le =
    let at : 0 + k ≡ k = omega arith in
    ap (flat_map g) (range-split 0 k n le) ∙ flat_map-append g (range_with_len 0 k) (range_with_len (0 + k) (n - k))
    ∙ ap (λ x. flat_map g (range_with_len 0 k) ++ flat_map g (range_with_len x (n - k))) at

pub flat-within : (g : ℕ → List Packet) (i n : ℕ) → i < n → length (flat_map g (range_with_len 0 i)) + length (g i) ≤ length (flat_map g (range_with_len 0 n))
flat-within g i n below =
    let one : length (flat_map g (range_with_len 0 (i + 1))) ≡ length (flat_map g (range_with_len 0 i)) + length (g i) =
    ap length (flat-more g i) ∙ length-append (flat_map g (range_with_len 0 i)) (g i) in
    let all : length (flat_map g (range_with_len 0 n)) ≡ length (flat_map g (range_with_len 0 (i + 1))) + length (flat_map g (range_with_len (i + 1) (n - (i + 1)))) =
    ap length (flat-split g (i + 1) n (omega arith)) ∙ length-append (flat_map g (range_with_len 0 (i + 1))) _ in
    omega (arith, one, all)

-- ---- files

pub files-append : (s : Session) (tables : RaptorTables) (round toi : ℕ) (xs ys : List SentFile)
    → files_packets s tables round toi (xs ++ ys) ≡ files_packets s tables round toi xs ++ files_packets s tables round (toi + length xs) ys
unfolding files_packets
files-append s tables round toi [] ys = ap (λ n. files_packets s tables round n ys) (omega arith)
files-append s tables round toi (x ∷ xs) ys =
    let shifted : toi + 1 + length xs ≡ toi + length (x ∷ xs) = omega arith in
    ap (λ (l : List Packet). file_packets s tables round toi x ++ l)
    (files-append s tables round (toi + 1) xs ys ∙ ap (λ n. files_packets s tables round (toi + 1) xs ++ files_packets s tables round n ys) shifted)
    ∙ sym (append_assoc (file_packets s tables round toi x) (files_packets s tables round (toi + 1) xs) (files_packets s tables round (toi + length (x ∷ xs)) ys))

-- the bytes of one record
pub bytes_from-one : (s : Session) (n : ℕ) (p : Packet) → bytes_from s n (p ∷ []) ≡ record_bytes (record { at = moment_of s n; bytes = packet_bytes p })
unfolding bytes_from records_from
bytes_from-one s n p = append-nil (record_bytes (record { at = moment_of s n; bytes = packet_bytes p }))

-- all that is held is written
pub sent-all : (a b : Option (List ℕ)) (held : List ℕ) → Grows a b held → IsSent a b held [] []
sent-all a b held p = record { out = held; grows = p; same = refl }

-- or some of it
pub sent-some : (a b : Option (List ℕ)) (held : List ℕ) (n : ℕ) → Grows a b (take n held) → IsSent a b held (drop n held) []
sent-some a b held n p = record { out = take n held; grows = p; same = take-append-drop n held ∙ sym (append-nil held) }

-- what is held is written, or some of it
pub flushed : (s : Session) (a b : Option (List ℕ)) (l : Line) (held left : List ℕ) → l.held ≡ held → left ≡ [] → Grows a b held
    → IsSent a b l.held left (bytes_from s l.number [])
flushed s a b l held left held_is left_is p = rw (bytes_from-nil s l.number, held_is, left_is) (sent-all a b held p)

pub flushed-part : (s : Session) (a b : Option (List ℕ)) (l : Line) (held : List ℕ) (k : ℕ) → l.held ≡ held → Grows a b (take k held) → Part s a b l []
flushed-part s a b l held k held_is p = (drop k held, rw (bytes_from-nil s l.number, held_is) (sent-some a b held k p))

-- what is held with one packet more, of which nothing was written
pub one-held : (s : Session) (a : Option (List ℕ)) (l m : Line) (p : Packet) → m.held ≡ l.held ++ bytes_from s l.number (p ∷ []) → IsSent a a l.held m.held (bytes_from s l.number (p ∷ []))
one-held s a l m p is = record { out = []; grows = Grows-nil a; same = is }

pub none-held : (s : Session) (a : Option (List ℕ)) (l : Line) (xs : List Packet) → Part s a a l xs
none-held s a l xs = (l.held ++ bytes_from s l.number xs, record { out = []; grows = Grows-nil a; same = refl })

-- the record of a packet is held behind the others
pub held-more : (s : Session) (l : Line) (n at : ℕ) (new held bytes : List ℕ) (p : Packet) → l ≡ record { number = n; held = held } → at ≡ moment_of s n
    → bytes ≡ packet_bytes p → new ≡ held ++ record_bytes (record { at = at; bytes = bytes }) → new ≡ l.held ++ bytes_from s l.number (p ∷ [])
held-more s l n at new held bytes p l_is at_is bytes_are new_is =
    new_is ∙ ap₂ (λ a (b : List ℕ). held ++ record_bytes (record { at = a; bytes = b })) at_is bytes_are
    ∙ ap (λ (b : List ℕ). held ++ b) (sym (bytes_from-one s n p)) ∙ ap (λ (k : Line). k.held ++ bytes_from s k.number (p ∷ [])) (sym l_is)

pub flush-ok : (s : Session) (a b : Option (List ℕ)) (l : Line) (n : ℕ) (held bytes left : List ℕ) → record { number = n; held = held } ≡ l → bytes ≡ held → left ≡ []
    → Grows a b bytes → (n ≡ l.number + 0) × IsSent a b l.held left (bytes_from s l.number [])
flush-ok s a b l n held bytes left view bytes_are left_is p =
    let number : n ≡ l.number = ap (λ (k : Line). k.number) view in
    let same : l.held ≡ bytes = sym (bytes_are ∙ ap (λ (k : Line). k.held) view) in
    (omega (arith, number), flushed s a b l bytes left same left_is p)

-- one packet is held, and then what is held is written, or some of it
pub held-sent : (s : Session) (a : Option (List ℕ)) (l m : Line) (p : Packet) → m.number ≡ l.number + 1 → m.held ≡ l.held ++ bytes_from s l.number (p ∷ [])
    → Sends {T = Unit} s a a l m (p ∷ []) (Ok tt)
held-sent s a l m p number held = (number, one-held s a l m p held)

pub held-flushed : (s : Session) (a b : Option (List ℕ)) (l m n : Line) (p : Packet) → m.number ≡ l.number + 1 → m.held ≡ l.held ++ bytes_from s l.number (p ∷ [])
    → Sends {T = Unit} s a b m n [] (Ok tt) → Sends {T = Unit} s a b l n (p ∷ []) (Ok tt)
held-flushed s a b l m n p number held q = sends-trans {T = Unit} {U = Unit} s a a b l m n (p ∷ []) [] tt (Ok tt) (held-sent s a l m p number held) q

pub held-stopped : (s : Session) (a b : Option (List ℕ)) (l m n : Line) (p : Packet) (f : SendFault) (r : Result Unit SendFault) → m.number ≡ l.number + 1
    → m.held ≡ l.held ++ bytes_from s l.number (p ∷ []) → r ≡ Err f → Part s a b m [] → Sends s a b l n (p ∷ []) r
held-stopped s a b l m n p f r number held is q =
    stopped s a b l n (p ∷ []) f r is (part-behind {T = Unit} s a a b l m (p ∷ []) [] tt (held-sent s a l m p number held) q)
