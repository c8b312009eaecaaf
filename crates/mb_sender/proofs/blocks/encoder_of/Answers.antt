use Rattle.mb_sender.proofs.Encoding.{encoder-is}
use Rattle.mb_sender.proofs.blocks.encoder_of.Goals as goal

pub returns-in-Ok-clause-encoder : goal.returns-in-Ok-clause-encoder
returns-in-Ok-clause-encoder c =
    encoder-is c.args.tables.now c.args.file.now c.args.sbn c.k_of-k.result c.symbol.result c.as_slice.result.now c.in_ok-block.block.items c.in-Ok.encoder
    c.rows-rows.ensures.tables c.k_of-k.ensures c.symbol.ensures c.as_slice.ensures.value c.in-Ok.ensures.encoder c.in_ok-block.ensures.symbols
