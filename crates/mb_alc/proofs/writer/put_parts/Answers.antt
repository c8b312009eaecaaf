use Rattle.std.proofs.Common.{◌++◌, ℕ, length, ap, ◌∙◌, arith, length-append}
use Rattle.mb_lct.specs.Written.{lct_bytes}
use Rattle.mb_lct.proofs.WriteLemmas.{headers_short}
use Rattle.mb_alc.specs.PacketView.{packet_seen}
use Rattle.mb_alc.proofs.WriteLemmas.{length-fdt, length-fti, length-cenc, length-packet, on_err, parts-appended}
use Rattle.mb_alc.proofs.writer.put_parts.Goals as goal

pub returns-in_err-write_lct-clause-full : goal.returns-in_err-write_lct-clause-full
returns-in_err-write_lct-clause-full c =
    let size = length-packet (packet_seen c.args.p.now) c.ext_words-words.ensures.tail in
    on_err c.from_residual.result (omega (arith, size, c.in_err-write_lct.ensures.full))

pub returns-in_err-put_fdt-clause-full : goal.returns-in_err-put_fdt-clause-full
returns-in_err-put_fdt-clause-full c =
    let header = headers_short c.args.p.now.lct c.ext_words-words.result in
    let size = length-packet (packet_seen c.args.p.now) c.ext_words-words.ensures.tail in
    let one = ap length c.in_ok-write_lct.ensures.appended in
    on_err c.from_residual-in_err-put_fdt.result (omega (
      arith,
      length-append {A = ℕ},
      header.0,
      size,
      c.ext_words-words.ensures.exact,
      c.in_err-put_fdt.ensures.full,
      c.in_ok-write_lct.ensures.room,
      c.write_lct.new.out.ok.0,
    ))

pub returns-in_err-put_fti-clause-full : goal.returns-in_err-put_fti-clause-full
returns-in_err-put_fti-clause-full c =
    let header = headers_short c.args.p.now.lct c.ext_words-words.result in
    let size = length-packet (packet_seen c.args.p.now) c.ext_words-words.ensures.tail in
    let one = ap length c.in_ok-write_lct.ensures.appended in
    let two = ap length c.in_ok-put_fdt.ensures.appended in
    on_err c.from_residual-in_err-put_fti.result (omega (
      arith,
      length-append {A = ℕ},
      header.0,
      size,
      c.ext_words-words.ensures.exact,
      length-fdt c.args.p.now.exts.fdt,
      c.in_err-put_fti.ensures.full,
      c.in_ok-write_lct.ensures.room,
      c.in_ok-put_fdt.ensures.room,
      c.write_lct.new.out.ok.0,
      c.put_fdt.new.out.ok.0,
    ))

pub returns-in_err-put_cenc-clause-full : goal.returns-in_err-put_cenc-clause-full
returns-in_err-put_cenc-clause-full c =
    let header = headers_short c.args.p.now.lct c.ext_words-words.result in
    let size = length-packet (packet_seen c.args.p.now) c.ext_words-words.ensures.tail in
    let one = ap length c.in_ok-write_lct.ensures.appended in
    let two = ap length c.in_ok-put_fdt.ensures.appended in
    let three = ap length c.in_ok-put_fti.ensures.appended in
    on_err c.from_residual-in_err-put_cenc.result (omega (
      arith,
      length-append {A = ℕ},
      header.0,
      size,
      c.ext_words-words.ensures.exact,
      length-fdt c.args.p.now.exts.fdt,
      length-fti c.args.p.now.exts.fti c.in_ok-put_fti.ensures.tail,
      c.in_err-put_cenc.ensures.full,
      c.in_ok-write_lct.ensures.room,
      c.in_ok-put_fdt.ensures.room,
      c.in_ok-put_fti.ensures.room,
      c.write_lct.new.out.ok.0,
      c.put_fdt.new.out.ok.0,
      c.put_fti.new.out.ok.0,
    ))

pub returns-in_err-put_body-clause-full : goal.returns-in_err-put_body-clause-full
returns-in_err-put_body-clause-full c =
    let header = headers_short c.args.p.now.lct c.ext_words-words.result in
    let size = length-packet (packet_seen c.args.p.now) c.ext_words-words.ensures.tail in
    let one = ap length c.in_ok-write_lct.ensures.appended in
    let two = ap length c.in_ok-put_fdt.ensures.appended in
    let three = ap length c.in_ok-put_fti.ensures.appended in
    let four = ap length c.in_ok-put_cenc.ensures.appended in
    on_err c.from_residual-in_err-put_body.result (omega (
      arith,
      length-append {A = ℕ},
      header.0,
      size,
      c.ext_words-words.ensures.exact,
      length-fdt c.args.p.now.exts.fdt,
      length-fti c.args.p.now.exts.fti c.in_ok-put_fti.ensures.tail,
      length-cenc c.args.p.now.exts.cenc,
      c.in_err-put_body.ensures.full,
      c.in_ok-write_lct.ensures.room,
      c.in_ok-put_fdt.ensures.room,
      c.in_ok-put_fti.ensures.room,
      c.in_ok-put_cenc.ensures.room,
      c.write_lct.new.out.ok.0,
      c.put_fdt.new.out.ok.0,
      c.put_fti.new.out.ok.0,
      c.put_cenc.new.out.ok.0,
    ))

pub returns-clause-appended : goal.returns-clause-appended
returns-clause-appended c =
    parts-appended (packet_seen c.args.p.now) c.args.out.now.items c.write_lct.new.out.items c.put_fdt.new.out.items c.put_fti.new.out.items
    c.put_cenc.new.out.items c.put_body.new.out.items
    (c.in_ok-write_lct.ensures.appended ∙ ap (λ n. c.args.out.now.items ++ lct_bytes c.args.p.now.lct n) c.ext_words-words.ensures.exact)
    c.in_ok-put_fdt.ensures.appended c.in_ok-put_fti.ensures.appended c.in_ok-put_cenc.ensures.appended c.in_ok-put_body.ensures.appended
