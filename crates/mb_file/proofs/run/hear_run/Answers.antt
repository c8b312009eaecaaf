use Rattle.std.proofs.Common.{◌≡◌, ℕ, get_or, set, Some, None, ap, subst, sym, ◌∙◌}
use Rattle.std.specs.Vec.{with_item}
use Rattle.mb_file.specs.File.{pairs_from}
use Rattle.mb_file.specs.FileView.{AreBlocks, AreApart, HasRoom, AreHeard}
use Rattle.mb_file.specs.declared.blocks.Blocks.{Blocks}
use Rattle.mb_file.specs.declared.blocks.Blocks.TheVariants.{Raptor}
use Rattle.mb_file.proofs.FileLemmas.{stands-at, heard-place}
use Rattle.mb_file.proofs.run.hear_run.Goals as goal

pub returns-in-Some-clause-heard : goal.returns-in-Some-clause-heard
returns-in-Some-clause-heard c = λ ways are.
    let t = c.args.symbol in
    let sbn = c.args.sbn in
    let items = c.in-Raptor.places.items in
    let pairs = pairs_from c.args.count t c.args.esi c.args.payload.now in
    let apart : AreApart ways t items = subst (AreBlocks ways t) c.in-Raptor.is are in
    let room : HasRoom t sbn (Raptor c.in-Raptor.places) = subst (HasRoom t sbn) c.in-Raptor.is c.requires.room in
    let at : get_or items sbn None ≡ Some c.in-Some.block =
    sym (stands-at items sbn c.from.result c.index_mut.result.now c.from.ensures room.0 c.index_mut.ensures.value) ∙ c.in-Some.is in
    let heard = heard-place ways t sbn c.hear_in_block.result pairs items (set items c.from.result (Some c.hear_in_block.new.block)) c.in-Some.block c.hear_in_block.new.block apart.each room.0 at
    c.hear_in_block.ensures.block c.hear_in_block.ensures.whole (ap (λ (i : ℕ). set items i (Some c.hear_in_block.new.block)) c.from.ensures) c.hear_in_block.ensures.kept in
    let after : AreHeard ways t sbn pairs c.hear_in_block.result (Raptor c.in-Raptor.places) (Raptor (with_item c.in-Raptor.places c.from.result (Some c.hear_in_block.new.block))) =
    record { are = record { raptor = apart.raptor; each = heard.0 }; kept_are = heard.1; count = heard.2 } in
    subst (λ (old : Blocks). AreHeard ways t sbn pairs c.hear_in_block.result old (Raptor (with_item c.in-Raptor.places c.from.result (Some c.hear_in_block.new.block))))
    (sym c.in-Raptor.is) after
