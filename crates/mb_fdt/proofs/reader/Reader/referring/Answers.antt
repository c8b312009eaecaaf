use Rattle.std.proofs.Common.{refl, ap, ◌∙◌}
use Rattle.mb_xml.specs.ValueStateView.{inside_of}
use Rattle.mb_fdt_text.specs.Reader.{referring}
use Rattle.mb_fdt.specs.ReaderView.{quoted_of, reader_at}
use Rattle.mb_fdt.proofs.TextLemmas.{longer_is}
use Rattle.mb_fdt.proofs.reader.Reader.referring.Goals as goal

pub returns-in-Some-clause-exact : goal.returns-in-Some-clause-exact
returns-in-Some-clause-exact c =
    let r = c.args.self.now in
    let q = c.args.quoted in
    longer_is r c.args.at c.args.byte q c.longer.result c.in-Some.inside (inside_of c.in-Some.inside) c.requires.begun.from c.requires.here c.longer.ensures refl
    ∙ ap (referring (reader_at c.args.at r) (quoted_of r.text.now c.args.at q) c.args.byte) c.in-Some.ensures
