use Rattle.std.proofs.Common.{◌<◌, arith}
use Rattle.mb_fdt.proofs.TextLemmas.{text_behind}
use Rattle.mb_fdt.proofs.reader.Reader.behind_equals.Goals as goal

pub returns-then-byte-eq39-clause-placed : goal.returns-then-byte-eq39-clause-placed
returns-then-byte-eq39-clause-placed c =
    let ascii : c.args.byte < 128 = omega (arith, c.if-byte-eq39.either) in
    record {
      from = omega arith;
      quote = ascii;
      text = text_behind c.args.self.now.text.now c.args.at c.args.byte c.requires.here ascii c.requires.utf8;
      room = c.requires.room;
    }
