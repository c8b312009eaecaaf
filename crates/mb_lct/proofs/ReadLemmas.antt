-- Lemmas on the reading of a header: it is one exactly where `lct_of` finds it.
use Rattle.std.proofs.Common.{◌≡◌, ◌≢◌, ℕ, ◌+◌, ◌%◌, ◌<◌, ◌≤◌, ◌==◌, ◌||◌, Bool, true, false, not, nat_lt, if◌then◌else◌, List, ◌++◌, length, get_or, ◌↔◌, Fits, w8, drop, Option, Some, None, Result, Ok, Err, inl, inr, refl, sym, ap, subst, ◌∙◌, arith, append_assoc, length-append}
use Rattle.std.proofs.lemmas.Grind.{common_steps}
use Rattle.std.specs.List.{slice_range}
use Rattle.mb_base.specs.Number.{AreBytes, be_number}
use Rattle.mb_lct.specs.Header.{FirstWord, first_word, fields_size, Header, field_bytes, header_bytes, IsHeader, number_in, IsLct, HasWhole, IsLctFault}
use Rattle.mb_lct.specs.Lct.{lct_of, head_of, toi_of, version, tsi_at, toi_at, times_at, ext_at, end_at, number_between}
use Rattle.mb_lct.specs.declared.head.LctHead.{LctHead}
use Rattle.mb_lct.specs.declared.head.LctFault.{LctFault}
use Rattle.mb_lct.specs.declared.head.LctFault.TheVariants.{Short, Version, HeaderLength, NoTsi}
use Rattle.mb_lct.specs.Laws.{HeadersAreFound, HeaderFaultsAreFirst}
use Rattle.mb_lct.proofs.HeaderLemmas.{AreFields, fields-begin, word_of, word-joined, word-within, word-begins, between, size-between, cut, joined-right, length-fields, toi-is, true-same, false-same, are_bytes}

nat_lt-false : (a b : ℕ) → b ≤ a → nat_lt a b ≡ false
nat_lt-false a b le = grind (arith, common_steps)

nat_lt-true : (a b : ℕ) → a < b → nat_lt a b ≡ true
nat_lt-true a b lt = grind (arith, common_steps)

pub not_lt : (a b : ℕ) → nat_lt a b ≡ false → b ≤ a
not_lt a b is = grind (arith, common_steps)

pub lt-true : (a b : ℕ) → nat_lt a b ≡ true → a < b
lt-true a b is = grind (arith, common_steps)

same-true : (a b : ℕ) → (a == b) ≡ true → a ≡ b
same-true a b is = grind (arith, common_steps)

same-false : (a b : ℕ) → a ≤ b → (a == b) ≡ false → a < b
same-false a b le is = grind (arith, common_steps)

false-differ : (a b : ℕ) → (a == b) ≡ false → a ≢ b
false-differ a b is same = grind (arith, common_steps)

differ-false : (a b : ℕ) → a ≢ b → (a == b) ≡ false
differ-false a b differ = grind (arith, common_steps)

-- ---- what a header says is what stands at the offsets

abbrev pub head_made : ℕ → Option ℕ → Bool → Bool → ℕ → ℕ → ℕ → LctHead
head_made tsi toi session object cp ext end = record {
  lct = record { tsi = tsi; toi = toi; close_session = session; close_object = object; cp = cp };
  ext_at = ext;
  end = end;
}

pub head-same : (tsi tsi' : ℕ) (toi toi' : Option ℕ) (a a' b b' : Bool) (cp cp' ext ext' end end' : ℕ) → tsi ≡ tsi' → toi ≡ toi' → a ≡ a' → b ≡ b'
    → cp ≡ cp' → ext ≡ ext' → end ≡ end' → head_made tsi toi a b cp ext end ≡ head_made tsi' toi' a' b' cp' ext' end'
head-same tsi tsi' toi toi' a a' b b' cp cp' ext ext' end end' p q r s t u v = rw (p, q, r, s, t, u, v) refl

-- the offsets and the fields of a header that stands at the front
record IsFront (bytes : List ℕ) (header : Header) : Type 0 where
  pub are : AreFields bytes header.word
  pub toi_place : toi_at bytes ≡ tsi_at bytes + length header.tsi
  pub ext_place : ext_at bytes ≡ length (field_bytes header)
  pub end_place : end_at bytes ≡ length (header_bytes header)
  pub within : length (field_bytes header) ≤ length (header_bytes header)
  pub whole : length (header_bytes header) ≤ length bytes
  pub tsi : number_between bytes (tsi_at bytes) (toi_at bytes) ≡ be_number header.tsi
  pub toi : toi_of bytes ≡ number_in header.toi

front : (bytes behind : List ℕ) (header : Header) → bytes ≡ header_bytes header ++ behind → IsHeader header → IsFront bytes header
front bytes behind header joined is =
    let w = header.word in
    let are : AreFields bytes w = fields-begin bytes w (record {
      behind = ((header.cci ++ header.tsi ++ header.toi ++ header.times) ++ header.area) ++ behind;
      joined = joined;
      is = is.word;
    }) in
    let more : List ℕ = header.times ++ (header.area ++ behind) in
    let right : bytes ≡ first_word w ++ (header.cci ++ (header.tsi ++ (header.toi ++ more))) =
    joined ∙ joined-right (first_word w) header.cci header.tsi header.toi header.times header.area behind in
    let one : bytes ≡ (first_word w ++ header.cci) ++ (header.tsi ++ (header.toi ++ more)) =
    right ∙ sym (append_assoc (first_word w) header.cci (header.tsi ++ (header.toi ++ more))) in
    let two : bytes ≡ ((first_word w ++ header.cci) ++ header.tsi) ++ (header.toi ++ more) =
    one ∙ sym (append_assoc (first_word w ++ header.cci) header.tsi (header.toi ++ more)) in
    let fields = length-fields (first_word w) header.cci header.tsi header.toi header.times in
    let whole = length-append (field_bytes header) header.area in
    let size = ap length joined ∙ length-append (header_bytes header) behind in
    let before_tsi = length-append (first_word w) header.cci in
    let before_toi = length-append (first_word w ++ header.cci) header.tsi in
    let tsi_place : tsi_at bytes ≡ 4 + length header.cci = omega (arith, are.congestion, is.cci) in
    let toi_place : toi_at bytes ≡ tsi_at bytes + length header.tsi = omega (arith, are.tsi, are.half, is.tsi) in
    let times_place : times_at bytes ≡ toi_at bytes + length header.toi = omega (arith, are.toi, are.half, is.toi) in
    let tsi_part : slice_range bytes (tsi_at bytes) (toi_at bytes) ≡ header.tsi =
    ap (λ l. slice_range l (tsi_at bytes) (toi_at bytes)) one
    ∙ between (first_word w ++ header.cci) header.tsi (header.toi ++ more) (tsi_at bytes) (toi_at bytes) (omega arith) toi_place in
    let toi_part : slice_range bytes (toi_at bytes) (times_at bytes) ≡ header.toi =
    ap (λ l. slice_range l (toi_at bytes) (times_at bytes)) two
    ∙ between ((first_word w ++ header.cci) ++ header.tsi) header.toi more (toi_at bytes) (times_at bytes) (omega arith) times_place in
    record {
      are = are;
      toi_place = toi_place;
      ext_place = omega (arith, times_place, toi_place, tsi_place, fields, are.current, are.residual, is.times);
      end_place = omega (arith, are.length, is.whole);
      within = omega (arith, whole);
      whole = omega (arith, size);
      tsi = ap be_number tsi_part;
      toi =
          ap (λ l. if toi_at bytes == times_at bytes then None else Some (be_number l)) toi_part
          ∙ toi-is header.toi (toi_at bytes) (times_at bytes) times_place;
    }

-- where no condition holds, the header is found
found : (bytes : List ℕ) → 4 ≤ length bytes → end_at bytes ≤ length bytes → version bytes ≡ 1 → ext_at bytes ≤ end_at bytes → tsi_at bytes < toi_at bytes
    → lct_of bytes ≡ Ok (head_of bytes)
unfolding lct_of
found bytes some whole spoken fields session =
    rw (nat_lt-false _ _ some, nat_lt-false _ _ whole, true-same _ _ spoken, nat_lt-false _ _ fields, false-same _ _ session) refl

pub lct-Ok : (bytes : List ℕ) (head : LctHead) → IsLct bytes head → lct_of bytes ≡ Ok head
lct-Ok bytes head is =
    let f = front bytes is.behind is.header is.joined is.is in
    let are = f.are in
    found bytes are.some (omega (arith, f.end_place, f.whole)) (are.version ∙ is.is.version) (omega (arith, f.ext_place, f.end_place, f.within))
    (omega (arith, f.toi_place, is.is.session))
    ∙ ap Ok (head-same _ _ _ _ _ _ _ _ _ _ _ _ _ _ f.tsi f.toi are.session are.object are.codepoint f.ext_place f.end_place ∙ sym is.says)

-- ---- a fault is the first

few-Short : (bytes : List ℕ) → length bytes < 4 → lct_of bytes ≡ Err Short
unfolding lct_of
few-Short bytes few = rw (nat_lt-true _ _ few) refl

cut-Short : (bytes : List ℕ) → 4 ≤ length bytes → length bytes < end_at bytes → lct_of bytes ≡ Err Short
unfolding lct_of
cut-Short bytes some short = rw (nat_lt-false _ _ some, nat_lt-true _ _ short) refl

spoken-Version : (bytes : List ℕ) → 4 ≤ length bytes → end_at bytes ≤ length bytes → version bytes ≢ 1 → lct_of bytes ≡ Err (Version (version bytes))
unfolding lct_of
spoken-Version bytes some whole other = rw (nat_lt-false _ _ some, nat_lt-false _ _ whole, differ-false _ _ other) refl

long-HeaderLength : (bytes : List ℕ) → 4 ≤ length bytes → end_at bytes ≤ length bytes → version bytes ≡ 1 → end_at bytes < ext_at bytes
    → lct_of bytes ≡ Err HeaderLength
unfolding lct_of
long-HeaderLength bytes some whole spoken long =
    rw (nat_lt-false _ _ some, nat_lt-false _ _ whole, true-same _ _ spoken, nat_lt-true _ _ long) refl

none-NoTsi : (bytes : List ℕ) → 4 ≤ length bytes → end_at bytes ≤ length bytes → version bytes ≡ 1 → ext_at bytes ≤ end_at bytes → tsi_at bytes ≡ toi_at bytes
    → lct_of bytes ≡ Err NoTsi
unfolding lct_of
none-NoTsi bytes some whole spoken fields none =
    rw (nat_lt-false _ _ some, nat_lt-false _ _ whole, true-same _ _ spoken, nat_lt-false _ _ fields, true-same _ _ none) refl

fields-at : (bytes : List ℕ) (word : FirstWord) → AreFields bytes word → ext_at bytes ≡ fields_size word
fields-at bytes word are = omega (arith, are.congestion, are.tsi, are.half, are.toi, are.current, are.residual)

pub fault-Err : (bytes : List ℕ) (fault : LctFault) → IsLctFault bytes fault → lct_of bytes ≡ Err fault
fault-Err bytes Short (inl few) = few-Short bytes few
fault-Err bytes Short (inr is) =
    let are = fields-begin bytes is.0 is.1 in cut-Short bytes are.some (omega (arith, are.length, is.2))
fault-Err bytes (Version v) is =
    let are = fields-begin bytes is.0 is.1.begins in
    let same : version bytes ≡ v = are.version ∙ sym is.2 in
    spoken-Version bytes are.some (omega (arith, are.length, is.1.whole)) (subst (λ n. n ≢ 1) (sym same) is.3) ∙ ap (λ n. Err (Version n)) same
fault-Err bytes HeaderLength is =
    let are = fields-begin bytes is.0 is.1.begins in
    long-HeaderLength bytes are.some (omega (arith, are.length, is.1.whole)) (are.version ∙ is.2)
    (omega (arith, fields-at bytes is.0 are, are.length, is.3))
fault-Err bytes NoTsi is =
    let are = fields-begin bytes is.0 is.1.begins in
    none-NoTsi bytes are.some (omega (arith, are.length, is.1.whole)) (are.version ∙ is.2)
    (omega (arith, fields-at bytes is.0 are, are.length, is.3)) (omega (arith, are.tsi, are.half, is.4))

-- ---- and nothing else is found

-- the header that the bytes begin with, by its offsets
abbrev header_at : List ℕ → Header
header_at bytes = record {
  word = word_of bytes;
  cci = slice_range bytes 4 (tsi_at bytes);
  tsi = slice_range bytes (tsi_at bytes) (toi_at bytes);
  toi = slice_range bytes (toi_at bytes) (times_at bytes);
  times = slice_range bytes (times_at bytes) (ext_at bytes);
  area = slice_range bytes (ext_at bytes) (end_at bytes);
}

header-is : (bytes : List ℕ) → AreBytes bytes → 4 ≤ length bytes → end_at bytes ≤ length bytes → version bytes ≡ 1 → ext_at bytes ≤ end_at bytes
    → tsi_at bytes < toi_at bytes → IsLct bytes (head_of bytes)
header-is bytes all some whole spoken fields session =
    let h = header_at bytes in
    let t = tsi_at bytes in
    let o = toi_at bytes in
    let m = times_at bytes in
    let x = ext_at bytes in
    let e = end_at bytes in
    let t_o : t ≤ o = omega arith in
    let o_m : o ≤ m = omega arith in
    let m_x : m ≤ x = omega arith in
    let cci = size-between bytes 4 t (omega arith) (omega arith) in
    let tsi = size-between bytes t o t_o (omega arith) in
    let toi = size-between bytes o m o_m (omega arith) in
    let times = size-between bytes m x m_x (omega arith) in
    let area = size-between bytes x e fields whole in
    let size = length-fields (first_word h.word) h.cci h.tsi h.toi h.times in
    let ext_place : x ≡ length (field_bytes h) = omega arith in
    let end_place : e ≡ length (header_bytes h) = omega (arith, length-append (field_bytes h) h.area) in
    record {
      header = h;
      behind = drop e bytes;
      joined =
          word-joined bytes all some
          ∙ ap (λ l. first_word h.word ++ l)
          (cut bytes 4 t (omega arith)
          ∙ ap (λ l. h.cci ++ l)
          (cut bytes t o t_o
          ∙ ap (λ l. h.tsi ++ l)
          (cut bytes o m o_m ∙ ap (λ l. h.toi ++ l) (cut bytes m x m_x ∙ ap (λ l. h.times ++ l) (cut bytes x e fields)))))
          ∙ sym (joined-right (first_word h.word) h.cci h.tsi h.toi h.times h.area (drop e bytes));
      is = record {
        word = word-within bytes all;
        version = spoken;
        cci = omega arith;
        tsi = omega arith;
        toi = omega arith;
        times = omega arith;
        whole = sym end_place;
        session = omega arith;
      };
      says =
          head-same _ _ _ _ _ _ _ _ _ _ _ _ _ _ refl (toi-is h.toi o m (omega arith)) refl refl refl ext_place end_place;
    }

word-whole : (bytes : List ℕ) → AreBytes bytes → 4 ≤ length bytes → end_at bytes ≤ length bytes → HasWhole (word_of bytes) bytes
word-whole bytes all some whole = record { begins = word-begins bytes all some; whole = whole }

-- what a datagram is
abbrev IsRead : List ℕ → Result LctHead LctFault → Type 0
IsRead bytes (Ok head) = IsLct bytes head
IsRead bytes (Err fault) = IsLctFault bytes fault

-- the conditions in their order
abbrev chosen : Bool → Bool → Bool → Bool → Bool → ℕ → LctHead → Result LctHead LctFault
chosen few short spoken cut none v head =
    if few || short then Err Short else if not spoken then Err (Version v) else if cut then Err HeaderLength else if none then Err NoTsi else Ok head

read-chosen : (bytes : List ℕ) (few short spoken cut none : Bool) → AreBytes bytes → nat_lt (length bytes) 4 ≡ few → nat_lt (length bytes) (end_at bytes) ≡ short
    → (version bytes == 1) ≡ spoken → nat_lt (end_at bytes) (ext_at bytes) ≡ cut → (tsi_at bytes == toi_at bytes) ≡ none
    → IsRead bytes (chosen few short spoken cut none (version bytes) (head_of bytes))
read-chosen bytes true short spoken cut none all a b c d e = inl (lt-true _ _ a)
read-chosen bytes false true spoken cut none all a b c d e = inr (word_of bytes, word-begins bytes all (not_lt _ _ a), lt-true _ _ b)
read-chosen bytes false false false cut none all a b c d e =
    (word_of bytes, word-whole bytes all (not_lt _ _ a) (not_lt _ _ b), refl, false-differ _ _ c)
read-chosen bytes false false true true none all a b c d e =
    (word_of bytes, word-whole bytes all (not_lt _ _ a) (not_lt _ _ b), same-true _ _ c, let long = lt-true _ _ d in omega arith)
read-chosen bytes false false true false true all a b c d e = (
  word_of bytes,
  word-whole bytes all (not_lt _ _ a) (not_lt _ _ b),
  same-true _ _ c,
  let fields = not_lt _ _ d in omega arith,
  let same = same-true _ _ e in omega arith,
)
read-chosen bytes false false true false false all a b c d e =
    header-is bytes all (not_lt _ _ a) (not_lt _ _ b) (same-true _ _ c) (not_lt _ _ d) (same-false _ _ (omega arith) e)

read : (bytes : List ℕ) → AreBytes bytes → IsRead bytes (lct_of bytes)
unfolding lct_of
read bytes all = read-chosen bytes _ _ _ _ _ all refl refl refl refl refl

pub headers_found : HeadersAreFound
headers_found bytes head all = (lct-Ok bytes head, λ is. subst (IsRead bytes) is (read bytes all))

pub header_faults_first : HeaderFaultsAreFirst
header_faults_first bytes fault all = (fault-Err bytes fault, λ is. subst (IsRead bytes) is (read bytes all))

-- ---- what is answered

pub answered_head : (bytes : List ℕ) (result : Result LctHead LctFault) → ((i : ℕ) → Fits w8 (get_or bytes i 0)) → result ≡ lct_of bytes
    → (head : LctHead) → IsLct bytes head ↔ (result ≡ Ok head)
answered_head bytes result each exact head =
    let law = headers_found bytes head (are_bytes bytes each) in
    (λ is. exact ∙ law.0 is, λ is. law.1 (sym exact ∙ is))

pub answered_fault : (bytes : List ℕ) (result : Result LctHead LctFault) → ((i : ℕ) → Fits w8 (get_or bytes i 0)) → result ≡ lct_of bytes
    → (fault : LctFault) → IsLctFault bytes fault ↔ (result ≡ Err fault)
answered_fault bytes result each exact fault =
    let law = header_faults_first bytes fault (are_bytes bytes each) in
    (λ is. exact ∙ law.0 is, λ is. law.1 (sym exact ∙ is))

-- the extensions are whole words
pub area_words : (bytes : List ℕ) (head : LctHead) → IsLct bytes head → head.ext_at ≤ head.end → head.end ≤ length bytes
    → length (slice_range bytes head.ext_at head.end) % 4 ≡ 0
area_words bytes head is le within =
    let h = is.header in
    let start : head.ext_at ≡ length (field_bytes h) = ap (λ (x : LctHead). x.ext_at) is.says in
    let end : head.end ≡ length (header_bytes h) = ap (λ (x : LctHead). x.end) is.says in
    let fields = length-fields (first_word h.word) h.cci h.tsi h.toi h.times in
    let size = size-between bytes head.ext_at head.end le within in
    omega (arith, is.is.cci, is.is.tsi, is.is.toi, is.is.times, is.is.whole)
