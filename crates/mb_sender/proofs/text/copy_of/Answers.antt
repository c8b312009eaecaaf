use Rattle.std.proofs.Common.{◌≡◌, ◌∙◌, sym}
use Rattle.mb_geom.proofs.GoodLemmas.{described_again}
use Rattle.mb_sender.proofs.text.copy_of.Goals as goal

pub unreachable-requires : goal.unreachable-requires
unreachable-requires c =
    let again = described_again c.args.desc.now c.length.ensures.good in
    let location : c.from_vec.result ≡ c.args.desc.now.location = cc (c.from_vec.ensures, c.in_ok-extend_from_slice.ensures.items, c.new-location.ensures.items, c.location.ensures) in
    absurd (cc (sym c.in-Err.is ∙ c.new.ensures, again, location, c.length.ensures.exact, c.length-2.ensures.exact, c.symbol.ensures, c.scheme.ensures, c.md5.ensures))
