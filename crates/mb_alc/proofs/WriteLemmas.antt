-- Lemmas on the writing of a packet: that it is read back.
use Rattle.std.proofs.Common.{◌≡◌, ℕ, ◌+◌, ◌-◌, ◌*◌, ◌/◌, ◌%◌, ◌^◌, ◌<◌, ◌==◌, cond, Result, Err, OnErr, List, [], ◌∷◌, ◌++◌, length, take, drop, Option, Some, None, Ok, IfSome, refl, sym, ap, ap₂, subst, ◌∙◌, arith, append_assoc, append-nil, length-append}
use Rattle.std.specs.List.{slice_range}
use Rattle.std.specs.Prelude.{option_map}
use Rattle.std.specs.Option.{option_or}
use Rattle.std.proofs.Math.Seq.{take-append_seam, drop-append_seam}
use Rattle.mb_base.specs.Number.{be_bytes}
use Rattle.mb_base.proofs.NumberLemmas.{be_bytes-cons, be_bytes-above}
use Rattle.std.proofs.lemmas.List.Folds.{find-append}
use Rattle.mb_lct.specs.Header.{IsLct}
use Rattle.mb_lct.specs.Written.{lct_bytes, words_of}
use Rattle.mb_lct.specs.declared.head.LctHead.{LctHead}
use Rattle.mb_lct.proofs.WriteLemmas.{headers_written, headers_short}
use Rattle.mb_alc.specs.Extensions.{IsExtension, IsExts, het, first_of, Says, IsFdt, IsFti, IsCenc, fdt_extension, fti_extension}
use Rattle.mb_alc.specs.Packet.{Body, Packet, IsBody, area}
use Rattle.mb_alc.specs.Written.{FitsPacket, HasWidths, fdt_bytes, fti_bytes, cenc_bytes, ext_bytes, words_if, ext_words, body_bytes, packet_bytes}
use Rattle.mb_alc.specs.Laws.{PacketsAreWritten, PacketsAreReadBack}
use Rattle.mb_alc.specs.PacketView.{body_seen}
use Rattle.mb_alc.specs.declared.packet.Body as code_body
use Rattle.mb_alc.specs.declared.packet.Exts.{Exts}
use Rattle.mb_alc.specs.declared.packet.Fti.{Fti}
use Rattle.mb_alc.proofs.ExtensionLemmas.{AllByRecursion-push, concat-push, made}
use Rattle.mb_alc.proofs.PacketLemmas.{packet-Ok}
use Rattle.mb_alc.proofs.PartLemmas.{says-more}

-- ---- one extension

fdt-extension : (id : ℕ) → id < 2 ^ 20 → IsExtension (fdt_bytes (Some id))
unfolding be_bytes
fdt-extension id below = record {
  some = omega arith;
  whole = refl;
  fti = λ h. absurd (omega (arith, h));
  fdt = λ h. omega arith;
}

fti-extension : (fti : Fti) → length fti.tail ≡ 4 → IsExtension (fti_bytes (Some fti))
unfolding be_bytes
fti-extension fti tail = record {
  some = omega arith;
  whole = omega arith;
  fti = λ h. refl;
  fdt = λ h. absurd (omega (arith, h));
}

cenc-extension : (algorithm : ℕ) → IsExtension (cenc_bytes (Some algorithm))
cenc-extension algorithm = record {
  some = omega arith;
  whole = refl;
  fti = λ h. absurd (omega (arith, h));
  fdt = λ h. absurd (omega (arith, h));
}

-- ---- the extensions

or-None : {A : Type 0} (a : Option A) → a ≡ option_or a None
or-None None = refl
or-None (Some x) = refl

first-push : (kind : ℕ) (es : List (List ℕ)) (e : List ℕ) → first_of kind (es ++ e ∷ []) ≡ option_or (first_of kind es) (cond (het e == kind) (Some e) None)
first-push kind es e = find-append (λ (x : List ℕ). het x == kind) es (e ∷ [])

-- one extension more, which says this
exts-push : (area e : List ℕ) (before : Exts) (fdt cenc : Option ℕ) (fti : Option Fti) → IsExts area before → IsExtension e
    → Says IsFdt (cond (het e == 192) (Some e) None) fdt → Says IsFti (cond (het e == 64) (Some e) None) fti
    → Says IsCenc (cond (het e == 193) (Some e) None) cenc
    → IsExts (area ++ e) (made (option_or before.fdt fdt) (option_or before.fti fti) (option_or before.cenc cenc))
exts-push area e before fdt cenc fti is one a b c = record {
  extensions = is.extensions ++ e ∷ [];
  joined = ap (λ (l : List ℕ). l ++ e) is.joined ∙ sym (concat-push is.extensions e);
  each = AllByRecursion-push is.extensions e is.each one;
  fdt =
      subst (λ o. Says IsFdt o (option_or before.fdt fdt)) (sym (first-push 192 is.extensions e))
      (says-more IsFdt (first_of 192 is.extensions) _ before.fdt fdt is.fdt a);
  fti =
      subst (λ o. Says IsFti o (option_or before.fti fti)) (sym (first-push 64 is.extensions e))
      (says-more IsFti (first_of 64 is.extensions) _ before.fti fti is.fti b);
  cenc =
      subst (λ o. Says IsCenc o (option_or before.cenc cenc)) (sym (first-push 193 is.extensions e))
      (says-more IsCenc (first_of 193 is.extensions) _ before.cenc cenc is.cenc c);
}

exts-nothing : IsExts [] (made None None None)
exts-nothing = record { extensions = []; joined = refl; each = tt; fdt = tt; fti = tt; cenc = tt }

exts-fdt : (fdt : Option ℕ) → IfSome fdt (λ id. id < 2 ^ 20) → IsExts (fdt_bytes fdt) (made fdt None None)
exts-fdt None below = exts-nothing
exts-fdt (Some id) below =
    exts-push [] (fdt_extension id) (made None None None) (Some id) None None exts-nothing (fdt-extension id below)
    (record { joined = refl; below = below }) tt tt

exts-fti : (area : List ℕ) (fdt : Option ℕ) (fti : Option Fti) → IsExts area (made fdt None None) → IfSome fti (λ f. f.transfer < 2 ^ 48)
    → IfSome fti (λ f. f.instance < 2 ^ 16) → IfSome fti (λ f. f.symbol < 2 ^ 16) → IfSome fti (λ f. length f.tail ≡ 4)
    → IsExts (area ++ fti_bytes fti) (made fdt fti None)
exts-fti area fdt None is transfer instance symbol tail = subst (λ (l : List ℕ). IsExts l (made fdt None None)) (sym (append-nil area)) is
exts-fti area fdt (Some fti) is transfer instance symbol tail =
    subst (λ (o : Option ℕ). IsExts (area ++ fti_extension fti) (made o (Some fti) None)) (sym (or-None fdt))
    (exts-push area (fti_extension fti) (made fdt None None) None None (Some fti) is (fti-extension fti tail) tt
    (record { joined = refl; transfer = transfer; instance = instance; symbol = symbol; tail = tail }) tt)

exts-cenc : (area : List ℕ) (fdt : Option ℕ) (fti : Option Fti) (cenc : Option ℕ) → IsExts area (made fdt fti None)
    → IsExts (area ++ cenc_bytes cenc) (made fdt fti cenc)
exts-cenc area fdt fti None is = subst (λ (l : List ℕ). IsExts l (made fdt fti None)) (sym (append-nil area)) is
exts-cenc area fdt fti (Some algorithm) is =
    subst (λ (o : Option ℕ). IsExts (area ++ cenc_bytes (Some algorithm)) (made o fti (Some algorithm))) (sym (or-None fdt))
    (subst (λ (o : Option Fti). IsExts (area ++ cenc_bytes (Some algorithm)) (made (option_or fdt None) o (Some algorithm))) (sym (or-None fti))
    (exts-push area (cenc_bytes (Some algorithm)) (made fdt fti None) None (Some algorithm) None is (cenc-extension algorithm) tt tt
    (record { reserved = 0 ∷ 0 ∷ []; joined = refl })))

exts-written : (p : Packet) → FitsPacket p → HasWidths p → IsExts (ext_bytes p.exts) p.exts
exts-written p fits widths =
    exts-cenc (fdt_bytes p.exts.fdt ++ fti_bytes p.exts.fti) p.exts.fdt p.exts.fti p.exts.cenc
    (exts-fti (fdt_bytes p.exts.fdt) p.exts.fdt p.exts.fti (exts-fdt p.exts.fdt fits.fdt) fits.transfer widths.instance widths.symbol widths.tail)

-- ---- lengths

pub length-fdt : (fdt : Option ℕ) → length (fdt_bytes fdt) ≡ 4 * words_if 1 fdt
unfolding be_bytes
length-fdt None = refl
length-fdt (Some id) = refl

pub length-fti : (fti : Option Fti) → IfSome fti (λ f. length f.tail ≡ 4) → length (fti_bytes fti) ≡ 4 * words_if 4 fti
unfolding be_bytes
length-fti None tail = refl
length-fti (Some fti) tail = omega arith

pub length-cenc : (cenc : Option ℕ) → length (cenc_bytes cenc) ≡ 4 * words_if 1 cenc
length-cenc None = refl
length-cenc (Some algorithm) = refl

pub length-exts : (exts : Exts) → IfSome exts.fti (λ f. length f.tail ≡ 4) → length (ext_bytes exts) ≡ 4 * ext_words exts
length-exts exts tail =
    let front = length-append (fdt_bytes exts.fdt) (fti_bytes exts.fti) in
    let whole = length-append (fdt_bytes exts.fdt ++ fti_bytes exts.fti) (cenc_bytes exts.cenc) in
    omega (arith, length-fdt exts.fdt, length-fti exts.fti tail, length-cenc exts.cenc)

-- ---- the body

body-written : (body : Option Body) → IfSome body (λ b. b.sbn < 2 ^ 16) → IfSome body (λ b. b.esi < 2 ^ 16) → IsBody (body_bytes body) body
body-written None sbn esi = refl
body-written (Some body) sbn esi = (refl, sbn, esi)

-- ---- the packet

area-written : (first exts more : List ℕ) (start end : ℕ) → start ≡ length first → end ≡ start + length exts
    → slice_range (first ++ exts ++ more) start end ≡ exts
area-written first exts more start end start_is end_is =
    let size : end - start ≡ length exts = omega arith in
    ap (λ n. take n (drop start (first ++ exts ++ more))) size ∙ ap (λ n. take (length exts) (drop n (first ++ exts ++ more))) start_is
    ∙ ap (λ l. take (length exts) (drop (length first) l)) (append_assoc first exts more)
    ∙ ap (take (length exts)) (drop-append_seam first (exts ++ more)) ∙ take-append_seam exts more

behind-written : (first more : List ℕ) (end : ℕ) → end ≡ length first → drop end (first ++ more) ≡ more
behind-written first more end end_is = ap (λ n. drop n (first ++ more)) end_is ∙ drop-append_seam first more

pub packets_written : PacketsAreWritten
unfolding packet_bytes
packets_written p fits widths =
    let first : List ℕ = lct_bytes p.lct (ext_words p.exts) in
    let exts : List ℕ = ext_bytes p.exts in
    let body : List ℕ = body_bytes p.body in
    let exts_size : length exts ≡ 4 * ext_words p.exts = length-exts p.exts widths.tail in
    let head : LctHead = record { lct = p.lct; ext_at = length first; end = length first + 4 * ext_words p.exts } in
    let header = headers_written p.lct (ext_words p.exts) fits.header (exts ++ body) (omega (arith, length-append exts body)) in
    record {
      head = head;
      header = subst (λ (l : List ℕ). IsLct l head) (sym (append_assoc first exts body)) header;
      says = refl;
      extensions =
          subst (λ (l : List ℕ). IsExts l p.exts) (sym (area-written first exts body head.ext_at head.end refl (omega arith))) (exts-written p fits widths);
      codepoint = fits.codepoint;
      body =
          subst (λ (l : List ℕ). IsBody l p.body) (sym (behind-written (first ++ exts) body head.end (omega (arith, length-append first exts))))
          (body-written p.body widths.sbn widths.esi);
    }

pub packets_read_back : PacketsAreReadBack
packets_read_back p fits widths = packet-Ok (packet_bytes p) p (packets_written p fits widths)

-- ---- what is appended

-- EXT_FDT as one word
pub fdt-word : (id : ℕ) → id < 2 ^ 20 → be_bytes 4 (0xc0100000 + id) ≡ fdt_bytes (Some id)
fdt-word id below =
    let first : (0xc0100000 + id) / 256 ^ 3 % 256 ≡ 192 = omega arith in
    be_bytes-cons 3 (0xc0100000 + id)
    ∙ ap₂ ◌∷◌ first (ap (be_bytes 3) (omega arith) ∙ be_bytes-above 3 192 (2 ^ 20 + id))

pub body-size : (body : Option code_body.Body) (b : code_body.Body) → body ≡ Some b → 4 + length b.payload.now ≡ length (body_bytes (option_map body_seen body))
unfolding be_bytes
body-size body b is = rw is (omega arith)

pub on_err : {T E P : Type 0} (r : Result T E) → P → OnErr r P
on_err (Ok x) p = tt
on_err (Err e) p = p

-- the parts, one after another, are the packet
pub parts-appended : (p : Packet) (old one two three four five : List ℕ) → one ≡ old ++ lct_bytes p.lct (ext_words p.exts)
    → two ≡ one ++ fdt_bytes p.exts.fdt → three ≡ two ++ fti_bytes p.exts.fti → four ≡ three ++ cenc_bytes p.exts.cenc
    → five ≡ four ++ body_bytes p.body → five ≡ old ++ packet_bytes p
unfolding packet_bytes
parts-appended p old one two three four five one_is two_is three_is four_is five_is =
    rw (five_is, four_is, three_is, two_is, one_is) (simp append_assoc)

-- ---- how many bytes a packet has

pub length-packet : (p : Packet) → IfSome p.exts.fti (λ f. length f.tail ≡ 4)
    → length (packet_bytes p) ≡ 4 * (words_of p.lct + ext_words p.exts) + length (body_bytes p.body)
unfolding packet_bytes
length-packet p tail =
    let first : List ℕ = lct_bytes p.lct (ext_words p.exts) in
    let exts : List ℕ = ext_bytes p.exts in
    let body : List ℕ = body_bytes p.body in
    let first_size : length first ≡ 4 * words_of p.lct = (headers_short p.lct (ext_words p.exts)).0 in
    let exts_size : length exts ≡ 4 * ext_words p.exts = length-exts p.exts tail in
    length-append (first ++ exts) body ∙ ap (λ n. n + length body) (length-append first exts) ∙ omega arith
