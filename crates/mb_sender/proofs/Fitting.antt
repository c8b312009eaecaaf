-- The packets of a session can be written.
use Rattle.std.proofs.Common.{◌≡◌, ℕ, ◌+◌, ◌*◌, ◌^◌, ◌<◌, ◌≤◌, Bool, true, false, nat_le, nat_lt, List, length, Option, Some, None, IfSome, IfNone, refl, arith}
use Rattle.std.specs.Prelude.{unwrap_or}
use Rattle.std.specs.Int.{from_bool}
use Rattle.std.proofs.lemmas.Bool.{lt-leb, lt-ltb}
use Rattle.mb_lct.specs.Written.{has_half, toi_words, words_of}
use Rattle.mb_lct.specs.declared.head.Lct.{Lct}
use Rattle.mb_alc.specs.Packet.{Packet}
use Rattle.mb_alc.specs.Written.{FitsPacket, ext_words, body_bytes, packet_bytes}
use Rattle.mb_alc.proofs.WriteLemmas.{length-packet}
use Rattle.mb_base.specs.Number.{be_bytes}
use Rattle.mb_geom.specs.declared.desc.Scheme.{Scheme}
use Rattle.mb_geom.specs.declared.desc.Scheme.TheVariants.{NoCode, Raptor}
use Rattle.mb_sender.specs.Trace.{object_header, no_extension, text_extensions, code_point}
use Rattle.mb_sender.specs.declared.session.Session.{Session}

-- a TSI and a TOI of 32 bits need no half word
no_half : (lct : Lct) → lct.tsi < 2 ^ 32 → unwrap_or lct.toi 0 < 2 ^ 32 → has_half lct ≡ false
no_half lct tsi toi =
    let one : nat_le (2 ^ 32) lct.tsi ≡ false = lt-leb (2 ^ 32) lct.tsi tsi in
    let two : nat_le (2 ^ 96) (unwrap_or lct.toi 0) ≡ false = lt-leb (2 ^ 96) (unwrap_or lct.toi 0) (omega (arith, toi)) in
    rw (one, two) refl

few_words : (half : Bool) (toi : Option ℕ) → half ≡ false → unwrap_or toi 0 < 2 ^ 32 → 3 + toi_words half toi + from_bool half ≤ 4
few_words true toi e small = absurd cc
few_words false None e small = omega arith
few_words false (Some toi) e small =
    let one : nat_lt toi (2 ^ 32) ≡ true = lt-ltb toi (2 ^ 32) small in
    rw one (omega arith)

if_none : {P : Type 0} (o : Option ℕ) → P → IfNone o P
if_none None p = p
if_none (Some x) p = tt

pub fits : (p : Packet) → p.lct.tsi < 2 ^ 32 → unwrap_or p.lct.toi 0 < 2 ^ 32 → p.lct.cp ≤ 1 → IfSome p.exts.fdt (λ id. id < 2 ^ 20)
    → IfSome p.exts.fti (λ f. f.transfer < 2 ^ 48) → IfSome p.exts.fti (λ f. length f.tail ≡ 4) → ext_words p.exts ≤ 6
    → length (body_bytes p.body) + 4 * ext_words p.exts ≤ 65519 → FitsPacket p
fits p tsi toi cp fdt transfer tail words body =
    let few : words_of p.lct ≤ 4 = few_words (has_half p.lct) p.lct.toi (no_half p.lct tsi toi) toi in
    let long : length (packet_bytes p) ≡ 4 * (words_of p.lct + ext_words p.exts) + length (body_bytes p.body) = length-packet p tail in
    record {
      header = record {
        tsi = omega (arith, tsi);
        toi = omega (arith, toi);
        without_toi = if_none p.lct.toi tsi;
        words = omega (arith, few, words);
      };
      codepoint = cp;
      fdt = fdt;
      transfer = transfer;
      whole = omega (arith, few, long, body);
    }

-- ---- the packets of a session

pub symbol_fits : (s : Session) (toi : ℕ) (cp sbn esi : ℕ) (symbol : List ℕ) → s.tsi < 2 ^ 32 → toi < 2 ^ 32 → cp ≤ 1 → length symbol ≤ 65515
    → FitsPacket (record { lct = object_header s toi cp; exts = no_extension; body = Some (record { sbn = sbn; esi = esi; payload = symbol }) })
unfolding be_bytes
symbol_fits s toi cp sbn esi symbol tsi small code short = fits _ (omega (arith, tsi)) (omega (arith, small)) code tt tt tt (omega arith) (omega (arith, short))

pub text_fits : (s : Session) (text symbol : List ℕ) (esi : ℕ) → s.tsi < 2 ^ 32 → s.instance < 2 ^ 20 → length text ≤ 65536 → length symbol ≤ 1400
    → FitsPacket (record { lct = object_header s 0 0; exts = text_extensions s text; body = Some (record { sbn = 0; esi = esi; payload = symbol }) })
unfolding be_bytes
text_fits s text symbol esi tsi instance long short =
    fits _ (omega (arith, tsi)) (omega arith) (omega arith) instance (omega (arith, long)) refl (omega arith) (omega (arith, short))

pub code_point-most : (scheme : Scheme) → code_point scheme ≤ 1
code_point-most (NoCode b) = omega arith
code_point-most (Raptor z n al) = omega arith
