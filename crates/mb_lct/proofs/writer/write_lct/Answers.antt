use Rattle.std.proofs.Common.{◌≡◌, ◌+◌, ◌*◌, ◌++◌, ℕ, List, [], ◌∷◌, length, length-append, ap, ap₂, ◌∙◌, arith}
use Rattle.std.specs.Int.{from_bool}
use Rattle.mb_base.specs.Number.{be_bytes}
use Rattle.mb_base.proofs.NumberLemmas.{length-be_bytes}
use Rattle.mb_lct.specs.Written.{half_of, toi_words, toi_words_of, toi_width}
use Rattle.mb_lct.proofs.WriteLemmas.{appended, first-is, headers_written}
use Rattle.mb_lct.proofs.writer.write_lct.Goals as goal

pub returns-in_err-put_number-2-clause-kept : goal.returns-in_err-put_number-2-clause-kept
returns-in_err-put_number-2-clause-kept c =
    let size = ap length c.in_ok-put_number.ensures.appended in
    absurd (omega (
      arith,
      length-append {A = ℕ},
      length-be_bytes (4 + 2 * c.from-half_bytes.result) c.from-4.result,
      c.in_err-put_number-2.ensures.full,
      c.in_ok-put_number.ensures.room,
      c.in_ok-extend_from_slice.ensures.len,
      c.in_ok-extend_from_slice.ensures.capacity,
      c.in_ok-reserve.ensures.ok,
      c.in_ok-reserve.ensures.len,
      c.reserve.new.self.ok.0,
      c.extend_from_slice.new.self.ok.0,
      c.put_number.new.out.ok.0,
    ))

pub returns-in_err-put_number-2-clause-full : goal.returns-in_err-put_number-2-clause-full
returns-in_err-put_number-2-clause-full c =
    let size = ap length c.in_ok-put_number.ensures.appended in
    absurd (omega (
      arith,
      length-append {A = ℕ},
      length-be_bytes (4 + 2 * c.from-half_bytes.result) c.from-4.result,
      c.in_err-put_number-2.ensures.full,
      c.in_ok-put_number.ensures.room,
      c.in_ok-extend_from_slice.ensures.len,
      c.in_ok-extend_from_slice.ensures.capacity,
      c.in_ok-reserve.ensures.ok,
      c.in_ok-reserve.ensures.len,
      c.reserve.new.self.ok.0,
      c.extend_from_slice.new.self.ok.0,
      c.put_number.new.out.ok.0,
    ))

pub returns-clause-appended : goal.returns-clause-appended
returns-clause-appended c =
    let lct = c.args.lct.now in
    let half : c.from-half.result ≡ half_of lct = c.from-half.ensures ∙ ap from_bool c.has_half-has_half.ensures in
    let words : c.toi_words-toi_words.result ≡ toi_words_of lct =
    c.toi_words-toi_words.ensures.exact ∙ ap (λ b. toi_words b lct.toi) c.has_half-has_half.ensures in
    let width : 4 * c.from-3.result + 2 * c.from-half_bytes.result ≡ toi_width lct =
    ap₂ (λ o h. 4 * o + 2 * h) (c.from-3.ensures ∙ words) (c.from-half_bytes.ensures ∙ half) in
    let bytes : List ℕ = 16 ∷ (128 + 32 * c.toi_words-toi_words.result + 16 * c.from-half.result + (c.from.result * 2 + c.from-2.result))
    ∷ (c.header_words.result + c.args.ext_words) ∷ lct.cp ∷ 0 ∷ 0 ∷ 0 ∷ 0 ∷ [] in
    let one : c.extend_from_slice.new.self.items ≡ c.args.out.now.items ++ bytes =
    c.in_ok-extend_from_slice.ensures.items ∙ ap (λ l. l ++ bytes) c.in_ok-reserve.ensures.items in
    appended lct c.args.ext_words c.args.out.now.items c.extend_from_slice.new.self.items c.put_number.new.out.items c.put_number-2.new.out.items
    bytes (be_bytes (4 + 2 * c.from-half_bytes.result) c.from-4.result) (be_bytes (4 * c.from-3.result + 2 * c.from-half_bytes.result) c.unwrap_or.result)
    one c.in_ok-put_number.ensures.appended c.in_ok-put_number-2.ensures.appended
    (first-is lct c.args.ext_words _ _ _ c.from.result c.from-2.result half words c.header_words.ensures.exact c.from.ensures c.from-2.ensures)
    (ap₂ (λ h n. be_bytes (4 + 2 * h) n) (c.from-half_bytes.ensures ∙ half) c.from-4.ensures)
    (ap₂ be_bytes width c.unwrap_or.ensures)

pub returns-clause-written : goal.returns-clause-written
returns-clause-written c = headers_written c.args.lct.now c.args.ext_words c.requires
