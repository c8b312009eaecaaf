use Rattle.std.proofs.Common.{ℕ, ◌<◌, length, set, map, ap, subst, sym, ◌∙◌, arith}
use Rattle.std.proofs.lemmas.Grind.{common_steps}
use Rattle.mb_file.specs.File.{way_at}
use Rattle.mb_file.specs.FileView.{kept_of, kept_seen, IsPlace, AreBlocks, ArePlaces, AreApart}
use Rattle.mb_file.proofs.FileLemmas.{count-places, place-at, place-set, same-kept, stands-at, on-ok, room-there}
use Rattle.mb_file.proofs.room.fill_block.Goals as goal

pub index_mut-requires : goal.index_mut-requires
index_mut-requires c =
    let apart : AreApart c.args.ways.now c.args.symbol c.in-Raptor.places.items = subst (AreBlocks c.args.ways.now c.args.symbol) c.in-Raptor.is c.requires.are in
    let count = count-places c.args.ways.now c.args.symbol c.in-Raptor.places.items apart.each in
    let there : c.from.result < length c.in-Raptor.places.items = omega (arith, count, c.requires.block, c.from.ensures) in
    grind (arith, common_steps)

pub fill_place-requires-clause-place : goal.fill_place-requires-clause-place
fill_place-requires-clause-place c =
    let ways = c.args.ways.now in
    let items = c.in-Raptor.places.items in
    let apart : AreApart ways c.args.symbol items = subst (AreBlocks ways c.args.symbol) c.in-Raptor.is c.requires.are in
    let are = apart.each in
    let within : c.args.sbn < length items = omega (arith, count-places ways c.args.symbol items are, c.requires.block) in
    subst (IsPlace (way_at ways c.args.sbn) c.args.symbol)
    (sym (stands-at items c.args.sbn c.from.result c.index_mut.result.now c.from.ensures within c.index_mut.ensures.value))
    (place-at ways c.args.symbol items c.args.sbn are c.requires.block)

pub returns-in-Raptor-clause-are : goal.returns-in-Raptor-clause-are
returns-in-Raptor-clause-are c =
    let ways = c.args.ways.now in
    let items = c.in-Raptor.places.items in
    let apart : AreApart ways c.args.symbol items = subst (AreBlocks ways c.args.symbol) c.in-Raptor.is c.requires.are in
    let are = apart.each in
    record {
      raptor = apart.raptor;
      each = subst (λ (i : ℕ). ArePlaces ways c.args.symbol (set items i c.fill_place.new.place)) (sym c.from.ensures)
          (place-set ways c.args.symbol items c.args.sbn c.fill_place.new.place are c.requires.block c.fill_place.ensures.place);
    }

pub returns-in-Raptor-clause-kept : goal.returns-in-Raptor-clause-kept
returns-in-Raptor-clause-kept c =
    let ways = c.args.ways.now in
    let items = c.in-Raptor.places.items in
    let apart : AreApart ways c.args.symbol items = subst (AreBlocks ways c.args.symbol) c.in-Raptor.is c.requires.are in
    let are = apart.each in
    let within : c.args.sbn < length items = omega (arith, count-places ways c.args.symbol items are, c.requires.block) in
    ap (λ (i : ℕ). map kept_of (set items i c.fill_place.new.place)) c.from.ensures
    ∙ same-kept items c.args.sbn c.fill_place.new.place
    (c.fill_place.ensures.kept ∙ ap kept_of (stands-at items c.args.sbn c.from.result c.index_mut.result.now c.from.ensures within c.index_mut.ensures.value))
    ∙ sym (ap (kept_seen ways) c.in-Raptor.is)

pub returns-in-Raptor-clause-room : goal.returns-in-Raptor-clause-room
returns-in-Raptor-clause-room c =
    let ways = c.args.ways.now in
    let items = c.in-Raptor.places.items in
    let apart : AreApart ways c.args.symbol items = subst (AreBlocks ways c.args.symbol) c.in-Raptor.is c.requires.are in
    let are = apart.each in
    let within : c.args.sbn < length items = omega (arith, count-places ways c.args.symbol items are, c.requires.block) in
    on-ok c.fill_place.result c.fill_place.ensures.there (room-there c.args.symbol c.args.sbn c.from.result items c.fill_place.new.place c.from.ensures within)
