use Rattle.mb_sender.proofs.Fitting.{text_fits}
use Rattle.mb_sender.proofs.packets.text_packet.Goals as goal

pub returns-clause-fits : goal.returns-clause-fits
returns-clause-fits c =
    rw (c.object_header.ensures.header, c.text_extensions.ensures)
    (text_fits c.args.session.now c.args.text.now c.text_symbol.result.now c.args.esi c.object_header.ensures.tsi c.requires.session.instance c.requires.text c.text_symbol.ensures.short)
