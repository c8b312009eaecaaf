use Rattle.std.proofs.Common.{◌≡◌, ◌==◌, ◌&&◌, false, is_some, refl, sym, ◌∙◌, inl, inr, arith}
use Rattle.std.proofs.lemmas.Bool.{cases_Bool}
use Rattle.mb_xml.specs.Reference.Inside.{Plain}
use Rattle.mb_fdt.specs.ReaderView.{quoted_of, reader_at}
use Rattle.mb_fdt.proofs.TextLemmas.{longer_is, plain_begins, plain_goes_on}
use Rattle.mb_fdt.proofs.reader.Reader.plain.Goals as goal
use Rattle.mb_fdt.proofs.reader.Reader.plain.Goals.{else-byte-eq38-via-then-byte-eq38+else-is_some, else-byte-eq38-via-else-byte-eq38}

pub returns-then-is_some-clause-exact : goal.returns-then-is_some-clause-exact
returns-then-is_some-clause-exact c =
    let r = c.args.self.now in
    let begins = plain_begins (reader_at c.args.at r) (quoted_of r.text.now c.args.at c.args.quoted) c.args.byte c.if-byte-quoted.false c.if-byte-eq38.true
    (sym c.is_some.ensures ∙ c.if-is_some.true) in
    longer_is r c.args.at c.args.byte c.args.quoted c.longer.result c.begun.result _ c.requires.begun.from c.requires.here c.longer.ensures c.begun.ensures ∙ sym begins

pub returns-else-byte-eq38-clause-exact : goal.returns-else-byte-eq38-clause-exact
returns-else-byte-eq38-clause-exact c =
    let r = c.args.self.now in
    let q = c.args.quoted in
    let begins : ((c.args.byte == 38) && is_some q.slot) ≡ false = elim c.else-byte-eq38.branch [
      | else-byte-eq38-via-then-byte-eq38+else-is_some w ↦
          let none : is_some q.slot ≡ false = sym w.is_some.ensures ∙ w.if-is_some.false in
          elim (cases_Bool (c.args.byte == 38)) [ inl begins ↦ rw (begins, none) refl | inr differs ↦ rw differs refl ]
      | else-byte-eq38-via-else-byte-eq38 w ↦
          let no : (c.args.byte == 38) ≡ false = grind (arith, w.if-byte-eq38.false) in
          rw no refl
    ] in
    let goes_on = plain_goes_on (reader_at c.args.at r) (quoted_of r.text.now c.args.at q) c.args.byte c.if-byte-quoted.false c.if-byte-eq60.false begins in
    longer_is r c.args.at c.args.byte q c.longer-else-byte-eq38.result _ Plain c.requires.begun.from c.requires.here c.longer-else-byte-eq38.ensures refl ∙ sym goes_on
