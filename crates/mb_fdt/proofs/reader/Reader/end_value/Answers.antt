use Rattle.mb_fdt.proofs.TextLemmas.{text_between}
use Rattle.mb_fdt.proofs.reader.Reader.end_value.Goals as goal

pub put-requires : goal.put-requires
put-requires c =
    let begun = c.requires.begun in
    text_between c.args.self.now.text.now c.args.quoted.from c.args.at c.args.quoted.quote begun.from c.requires.here begun.quote begun.text
