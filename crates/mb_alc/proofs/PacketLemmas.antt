-- Lemmas on packets: a datagram is read in one way.
use Rattle.std.proofs.Common.{◌≡◌, ℕ, ◌<◌, ◌≤◌, ◌==◌, nat_lt, cond, Bool, true, false, List, length, Option, Some, None, Result, Ok, Err, get_or, ◌↔◌, Fits, w8, refl, sym, ap, subst, ◌∙◌, arith}
use Rattle.std.proofs.lemmas.Grind.{common_steps}
use Rattle.std.proofs.lemmas.List.{nil_from_length}
use Rattle.std.proofs.lemmas.List.Elements.{All-drop}
use Rattle.mb_base.specs.Number.{AreBytes}
use Rattle.mb_lct.specs.Header.{IsLct}
use Rattle.mb_lct.specs.Lct.{lct_of}
use Rattle.mb_lct.specs.declared.head.LctHead.{LctHead}
use Rattle.mb_lct.specs.declared.head.LctFault.{LctFault}
use Rattle.mb_lct.specs.declared.head.Lct.{Lct}
use Rattle.mb_lct.proofs.HeaderLemmas.{are_bytes}
use Rattle.mb_lct.proofs.ReadLemmas.{headers_found, header_faults_first, lct-Ok, fault-Err}
use Rattle.mb_alc.specs.Extensions.{IsExts, exts_of}
use Rattle.mb_alc.specs.Packet.{Body, Packet, area, behind, body_in, IsBody, IsPacket, IsPacketFault, body_of, with_body, with_exts, with_header, packet_of}
use Rattle.mb_alc.specs.PacketView.{Sees}
use Rattle.mb_alc.specs.declared.packet.Packet as code
use Rattle.mb_alc.specs.Laws.{PacketsAreFound, PacketFaultsAreFirst}
use Rattle.mb_alc.specs.declared.packet.Exts.{Exts}
use Rattle.mb_alc.specs.declared.fault.ExtFault.{ExtFault}
use Rattle.mb_alc.specs.declared.fault.PacketFault.{PacketFault}
use Rattle.mb_alc.specs.declared.fault.PacketFault.TheVariants as fault
use Rattle.mb_alc.proofs.ExtensionLemmas.{exts-found, extensions_found, faults_first}
use Rattle.mb_alc.proofs.PartLemmas.{part-bytes, body-is, body-parts}

same-true : (a b : ℕ) → (a == b) ≡ true → a ≡ b
same-true a b is = grind (arith, common_steps)

false-some : (a : ℕ) → 0 < a → (a == 0) ≡ false
false-some a some = grind (arith, common_steps)

some-false : (a : ℕ) → (a == 0) ≡ false → 0 < a
some-false a is = grind (arith, common_steps)

lt-true : (a b : ℕ) → nat_lt a b ≡ true → a < b
lt-true a b is = grind (arith, common_steps)

true-lt : (a b : ℕ) → a < b → nat_lt a b ≡ true
true-lt a b lt = grind (arith, common_steps)

not_lt : (a b : ℕ) → nat_lt a b ≡ false → b ≤ a
not_lt a b is = grind (arith, common_steps)

false-lt : (a b : ℕ) → b ≤ a → nat_lt a b ≡ false
false-lt a b le = grind (arith, common_steps)

-- ---- what stands behind the header

body-Ok : (bytes : List ℕ) (body : Option Body) → IsBody bytes body → body_of bytes ≡ Ok body
body-Ok bytes None is = ap (λ (l : List ℕ). body_of l) is
body-Ok bytes (Some body) is =
    let found = body-is bytes body is in
    let some : (length bytes == 0) ≡ false = false-some _ (omega (arith, found.0)) in
    let long : nat_lt (length bytes) 4 ≡ false = false-lt _ _ found.0 in
    rw (some, long) (ap (λ (b : Body). Ok (Some b)) (sym found.1))

body-Err : (bytes : List ℕ) → 0 < length bytes → length bytes < 4 → body_of bytes ≡ Err fault.NoPayloadId
body-Err bytes some short =
    let there : (length bytes == 0) ≡ false = false-some _ some in
    let few : nat_lt (length bytes) 4 ≡ true = true-lt _ _ short in
    rw (there, few) refl

-- what bytes behind a header are
abbrev IsBodyOf : List ℕ → Result (Option Body) PacketFault → Type 0
IsBodyOf bytes (Ok body) = IsBody bytes body
IsBodyOf bytes (Err reason) = (reason ≡ fault.NoPayloadId) × (0 < length bytes) × (length bytes < 4)

body-chosen : (bytes : List ℕ) (none few : Bool) → AreBytes bytes → (length bytes == 0) ≡ none → nat_lt (length bytes) 4 ≡ few
    → IsBodyOf bytes (cond none (Ok None) (cond few (Err fault.NoPayloadId) (Ok (Some (body_in bytes)))))
body-chosen bytes true few all is_none is_few = nil_from_length bytes (same-true _ _ is_none)
body-chosen bytes false true all is_none is_few = (refl, some-false _ is_none, lt-true _ _ is_few)
body-chosen bytes false false all is_none is_few = body-parts bytes all (not_lt _ _ is_few)

-- ---- a packet is found

made-same : (bytes : List ℕ) (head : LctHead) (p : Packet) → IsExts (area bytes head) p.exts → p.lct ≡ head.lct → p.lct.cp ≤ 1
    → IsBody (behind bytes head) p.body → with_exts bytes head (exts_of (area bytes head)) ≡ Ok p
made-same bytes head p extensions says cp body =
    let low : nat_lt 1 head.lct.cp ≡ false = ap (λ (l : Lct). nat_lt 1 l.cp) (sym says) ∙ false-lt _ _ cp in
    ap (with_exts bytes head) (exts-found (area bytes head) p.exts extensions)
    ∙ (ap (λ b. cond b (Err (fault.CodePoint head.lct.cp)) (with_body head.lct p.exts (body_of (behind bytes head)))) low
    ∙ (ap (with_body head.lct p.exts) (body-Ok (behind bytes head) p.body body)
    ∙ ap (λ (l : Lct). Ok (record { lct = l; exts = p.exts; body = p.body })) (sym says)))

pub packet-Ok : (bytes : List ℕ) (p : Packet) → IsPacket bytes p → packet_of bytes ≡ Ok p
unfolding packet_of
packet-Ok bytes p is =
    ap (with_header bytes) (lct-Ok bytes is.head is.header)
    ∙ made-same bytes is.head p is.extensions is.says is.codepoint is.body

-- ---- a fault is the first

with_exts-code : (bytes : List ℕ) (head : LctHead) (exts : Exts) → IsExts (area bytes head) exts → 1 < head.lct.cp
    → with_exts bytes head (exts_of (area bytes head)) ≡ Err (fault.CodePoint head.lct.cp)
with_exts-code bytes head exts is high =
    ap (with_exts bytes head) (exts-found (area bytes head) exts is)
    ∙ ap (λ b. cond b (Err (fault.CodePoint head.lct.cp)) (with_body head.lct exts (body_of (behind bytes head)))) (true-lt _ _ high)

with_exts-few : (bytes : List ℕ) (head : LctHead) (exts : Exts) → IsExts (area bytes head) exts → head.lct.cp ≤ 1
    → 0 < length (behind bytes head) → length (behind bytes head) < 4 → with_exts bytes head (exts_of (area bytes head)) ≡ Err fault.NoPayloadId
with_exts-few bytes head exts is low some short =
    ap (with_exts bytes head) (exts-found (area bytes head) exts is)
    ∙ (ap (λ b. cond b (Err (fault.CodePoint head.lct.cp)) (with_body head.lct exts (body_of (behind bytes head)))) (false-lt _ _ low)
    ∙ ap (with_body head.lct exts) (body-Err (behind bytes head) some short))

packet-Err : (bytes : List ℕ) (reason : PacketFault) → IsPacketFault bytes reason → packet_of bytes ≡ Err reason
unfolding packet_of
packet-Err bytes (fault.Lct reason) is = ap (with_header bytes) (fault-Err bytes reason is)
packet-Err bytes (fault.Ext reason) is =
    ap (with_header bytes) (lct-Ok bytes is.0 is.1) ∙ ap (with_exts bytes is.0) ((faults_first (area bytes is.0) reason).0 is.2)
packet-Err bytes (fault.CodePoint cp) is =
    ap (with_header bytes) (lct-Ok bytes is.0 is.1)
    ∙ (with_exts-code bytes is.0 is.2.0 is.2.1 (subst (λ n. 1 < n) is.3 is.4) ∙ ap (λ n. Err (fault.CodePoint n)) (sym is.3))
packet-Err bytes fault.NoPayloadId is =
    ap (with_header bytes) (lct-Ok bytes is.0 is.1) ∙ with_exts-few bytes is.0 is.2.0 is.2.1 is.3 is.4 is.5

-- ---- and nothing else is found

-- what a datagram is
abbrev IsRead : List ℕ → Result Packet PacketFault → Type 0
IsRead bytes (Ok p) = IsPacket bytes p
IsRead bytes (Err reason) = IsPacketFault bytes reason

read-body : (bytes : List ℕ) (head : LctHead) (exts : Exts) (r : Result (Option Body) PacketFault) → IsLct bytes head → IsExts (area bytes head) exts
    → head.lct.cp ≤ 1 → IsBodyOf (behind bytes head) r → IsRead bytes (with_body head.lct exts r)
read-body bytes head exts (Ok body) header extensions low is =
    record { head = head; header = header; says = refl; extensions = extensions; codepoint = low; body = is }
read-body bytes head exts (Err reason) header extensions low is =
    subst (λ (f : PacketFault). IsPacketFault bytes f) (sym is.0) (head, header, (exts, extensions), low, is.1, is.2)

read-code : (bytes : List ℕ) (head : LctHead) (exts : Exts) (high : Bool) → AreBytes bytes → IsLct bytes head → IsExts (area bytes head) exts
    → nat_lt 1 head.lct.cp ≡ high
    → IsRead bytes (cond high (Err (fault.CodePoint head.lct.cp)) (with_body head.lct exts (body_of (behind bytes head))))
read-code bytes head exts true all header extensions is = (head, header, (exts, extensions), refl, lt-true _ _ is)
read-code bytes head exts false all header extensions is =
    read-body bytes head exts (body_of (behind bytes head)) header extensions (not_lt _ _ is)
    (body-chosen (behind bytes head) (length (behind bytes head) == 0) (nat_lt (length (behind bytes head)) 4)
    (All-drop (λ byte. byte < 256) head.end bytes all) refl refl)

read-exts : (bytes : List ℕ) (head : LctHead) (r : Result Exts ExtFault) → AreBytes bytes → IsLct bytes head → exts_of (area bytes head) ≡ r
    → IsRead bytes (with_exts bytes head r)
read-exts bytes head (Ok exts) all header is =
    read-code bytes head exts (nat_lt 1 head.lct.cp) all header
    ((extensions_found (area bytes head) exts (part-bytes bytes head.ext_at head.end all)).1 is) refl
read-exts bytes head (Err reason) all header is = (head, header, (faults_first (area bytes head) reason).1 is)

read-header : (bytes : List ℕ) (r : Result LctHead LctFault) → AreBytes bytes → lct_of bytes ≡ r → IsRead bytes (with_header bytes r)
read-header bytes (Ok head) all is = read-exts bytes head (exts_of (area bytes head)) all ((headers_found bytes head all).1 is) refl
read-header bytes (Err reason) all is = (header_faults_first bytes reason all).1 is

read : (bytes : List ℕ) → AreBytes bytes → IsRead bytes (packet_of bytes)
unfolding packet_of
read bytes all = read-header bytes (lct_of bytes) all refl

pub packets_found : PacketsAreFound
packets_found bytes p all = (packet-Ok bytes p, λ is. subst (IsRead bytes) is (read bytes all))

pub packet_faults_first : PacketFaultsAreFirst
packet_faults_first bytes reason all = (packet-Err bytes reason, λ is. subst (IsRead bytes) is (read bytes all))

-- ---- reading part after part

pub lct-fault : (bytes : List ℕ) (reason : LctFault) → lct_of bytes ≡ Err reason → packet_of bytes ≡ Err (fault.Lct reason)
unfolding packet_of
lct-fault bytes reason is = ap (with_header bytes) is

pub ext-fault : (bytes : List ℕ) (head : LctHead) (reason : ExtFault) → lct_of bytes ≡ Ok head → exts_of (area bytes head) ≡ Err reason
    → packet_of bytes ≡ Err (fault.Ext reason)
unfolding packet_of
ext-fault bytes head reason header extensions = ap (with_header bytes) header ∙ ap (with_exts bytes head) extensions

pub code-fault : (bytes : List ℕ) (head : LctHead) (exts : Exts) → lct_of bytes ≡ Ok head → exts_of (area bytes head) ≡ Ok exts → 1 < head.lct.cp
    → packet_of bytes ≡ Err (fault.CodePoint head.lct.cp)
unfolding packet_of
code-fault bytes head exts header extensions high =
    ap (with_header bytes) header
    ∙ (ap (with_exts bytes head) extensions
    ∙ ap (λ b. cond b (Err (fault.CodePoint head.lct.cp)) (with_body head.lct exts (body_of (behind bytes head)))) (true-lt _ _ high))

-- by what stands behind the header
pub packet-body : (bytes : List ℕ) (head : LctHead) (exts : Exts) (r : Result (Option Body) PacketFault) → lct_of bytes ≡ Ok head
    → exts_of (area bytes head) ≡ Ok exts → head.lct.cp ≤ 1 → body_of (behind bytes head) ≡ r → packet_of bytes ≡ with_body head.lct exts r
unfolding packet_of
packet-body bytes head exts r header extensions low is =
    ap (with_header bytes) header
    ∙ (ap (with_exts bytes head) extensions
    ∙ (ap (λ b. cond b (Err (fault.CodePoint head.lct.cp)) (with_body head.lct exts (body_of (behind bytes head)))) (false-lt _ _ low)
    ∙ ap (with_body head.lct exts) is))

-- a fault that is answered
pub sees-fault : (bytes : List ℕ) (reason answer : PacketFault) (result : Result code.Packet PacketFault) → result ≡ Err answer → answer ≡ reason
    → packet_of bytes ≡ Err reason → Sees result (packet_of bytes)
sees-fault bytes reason answer result is same found =
    subst (λ (r : Result code.Packet PacketFault). Sees r (packet_of bytes)) (sym (is ∙ ap Err same)) found

-- ---- what is answered

sees-same : (result : Result code.Packet PacketFault) (r s : Result Packet PacketFault) → Sees result r → Sees result s → r ≡ s
sees-same (Ok p) r s a b = a ∙ sym b
sees-same (Err f) r s a b = a ∙ sym b

sees-Err : (result : Result code.Packet PacketFault) (reason : PacketFault) → Sees result (Err reason) → result ≡ Err reason
sees-Err (Ok p) reason is = absurd cc
sees-Err (Err f) reason is =
    let same : f ≡ reason = cc in
    ap (λ (g : PacketFault). Err g) same

Err-sees : (result : Result code.Packet PacketFault) (reason : PacketFault) (r : Result Packet PacketFault) → result ≡ Err reason → Sees result r → r ≡ Err reason
Err-sees (Ok p) reason r is sees = absurd cc
Err-sees (Err f) reason r is sees =
    let same : f ≡ reason = cc in
    sees ∙ ap (λ (g : PacketFault). Err g) same

pub answered_packet : (bytes : List ℕ) (result : Result code.Packet PacketFault) → ((i : ℕ) → Fits w8 (get_or bytes i 0)) → Sees result (packet_of bytes)
    → (p : Packet) → IsPacket bytes p ↔ Sees result (Ok p)
answered_packet bytes result each exact p =
    let law = packets_found bytes p (are_bytes bytes each) in
    (λ is. subst (Sees result) (law.0 is) exact, λ sees. law.1 (sees-same result (packet_of bytes) (Ok p) exact sees))

pub answered_fault : (bytes : List ℕ) (result : Result code.Packet PacketFault) → ((i : ℕ) → Fits w8 (get_or bytes i 0)) → Sees result (packet_of bytes)
    → (reason : PacketFault) → IsPacketFault bytes reason ↔ (result ≡ Err reason)
answered_fault bytes result each exact reason =
    let law = packet_faults_first bytes reason (are_bytes bytes each) in
    (λ is. sees-Err result reason (subst (Sees result) (law.0 is) exact), λ is. law.1 (Err-sees result reason (packet_of bytes) is exact))
