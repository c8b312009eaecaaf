use Rattle.std.proofs.Common.{ℕ, ◌-◌, List, ap, subst, sym, ◌∙◌, arith}
use Rattle.mb_geom.proofs.PartitionLemmas.{ceiling-from}
use Rattle.mb_way.specs.Way.{Way}
use Rattle.mb_way.specs.Ways.{AreWaysOf}
use Rattle.mb_file.specs.File.{File}
use Rattle.mb_file.specs.FileView.{StandAs}
use Rattle.mb_file.proofs.FileLemmas.{count-ways, has-way, seen, file-heard}
use Rattle.mb_file.proofs.file.FileRx.hear.Goals as goal

pub overflow_sub-self : goal.overflow_sub-self
overflow_sub-self c =
    let heard = file-heard c.args.desc.now c.args.self.now c.self.inside.ways c.self.inside.symbol c.self.inside.blocks c.make_room.new.blocks c.hear_run-kept.new.blocks c.self.inside.missing
    c.args.sbn c.args.esi c.hear_run-kept.result c.symbol-symbol.result c.div_ceil-count.result c.args.payload.now c.requires.file c.self.view_is c.self.invariant c.requires.block
    c.make_room.ensures.are c.make_room.ensures.kept c.symbol-symbol.ensures
    (sym (ceiling-from _ _ _ _ c.requires.file.good.symbol (c.from.ensures ∙ c.symbol-symbol.ensures) c.div_ceil-count.ensures)) c.hear_run-kept.ensures.heard in
    omega (arith, heard.most, c.from-2.ensures)

pub learn-requires-clause-way : goal.learn-requires-clause-way
learn-requires-clause-way c =
    let d = c.args.desc.now in
    let of = subst (λ (f : File). AreWaysOf d f.ways) (sym c.self.view_is) c.requires.file.ways in
    let heard = file-heard c.args.desc.now c.args.self.now c.self.inside.ways c.self.inside.symbol c.self.inside.blocks c.make_room.new.blocks c.hear_run-kept.new.blocks c.self.inside.missing
    c.args.sbn c.args.esi c.hear_run-kept.result c.symbol-symbol.result c.div_ceil-count.result c.args.payload.now c.requires.file c.self.view_is c.self.invariant c.requires.block
    c.make_room.ensures.are c.make_room.ensures.kept c.symbol-symbol.ensures
    (sym (ceiling-from _ _ _ _ c.requires.file.good.symbol (c.from.ensures ∙ c.symbol-symbol.ensures) c.div_ceil-count.ensures)) c.hear_run-kept.ensures.heard in
    has-way c.self.inside.ways c.self.inside.symbol c.args.sbn c.hear_run-kept.new.blocks heard.stands.are (omega (arith, count-ways d c.self.inside.ways of, c.requires.block))

pub invariant_of-self-2 : goal.invariant_of-self-2
invariant_of-self-2 c =
    let heard = file-heard c.args.desc.now c.args.self.now c.self.inside.ways c.self.inside.symbol c.self.inside.blocks c.make_room.new.blocks c.hear_run-kept.new.blocks c.self.inside.missing
    c.args.sbn c.args.esi c.hear_run-kept.result c.symbol-symbol.result c.div_ceil-count.result c.args.payload.now c.requires.file c.self.view_is c.self.invariant c.requires.block
    c.make_room.ensures.are c.make_room.ensures.kept c.symbol-symbol.ensures
    (sym (ceiling-from _ _ _ _ c.requires.file.good.symbol (c.from.ensures ∙ c.symbol-symbol.ensures) c.div_ceil-count.ensures)) c.hear_run-kept.ensures.heard in
    subst (λ (ways : List Way). StandAs ways c.self.inside.symbol c.hear_run-kept.new.blocks (c.self.inside.missing - c.from-2.result)) (sym c.learn.ensures)
    (subst (λ (n : ℕ). StandAs c.self.inside.ways c.self.inside.symbol c.hear_run-kept.new.blocks (c.self.inside.missing - n)) (sym c.from-2.ensures) heard.stands)

pub returns-clause-file : goal.returns-clause-file
returns-clause-file c =
    let heard = file-heard c.args.desc.now c.args.self.now c.self.inside.ways c.self.inside.symbol c.self.inside.blocks c.make_room.new.blocks c.hear_run-kept.new.blocks c.self.inside.missing
    c.args.sbn c.args.esi c.hear_run-kept.result c.symbol-symbol.result c.div_ceil-count.result c.args.payload.now c.requires.file c.self.view_is c.self.invariant c.requires.block
    c.make_room.ensures.are c.make_room.ensures.kept c.symbol-symbol.ensures
    (sym (ceiling-from _ _ _ _ c.requires.file.good.symbol (c.from.ensures ∙ c.symbol-symbol.ensures) c.div_ceil-count.ensures)) c.hear_run-kept.ensures.heard in
    ap (λ (ways : List Way). seen ways c.self.inside.symbol c.hear_run-kept.new.blocks) c.learn.ensures ∙ heard.seen_is

pub returns-clause-determined : goal.returns-clause-determined
returns-clause-determined c =
    ap (λ (n : ℕ). n - c.hear_run-kept.result)
    (sym (ceiling-from _ _ _ _ c.requires.file.good.symbol (c.from.ensures ∙ c.symbol-symbol.ensures) c.div_ceil-count.ensures))

pub returns-clause-block : goal.returns-clause-block
returns-clause-block c =
    let heard = file-heard c.args.desc.now c.args.self.now c.self.inside.ways c.self.inside.symbol c.self.inside.blocks c.make_room.new.blocks c.hear_run-kept.new.blocks c.self.inside.missing
    c.args.sbn c.args.esi c.hear_run-kept.result c.symbol-symbol.result c.div_ceil-count.result c.args.payload.now c.requires.file c.self.view_is c.self.invariant c.requires.block
    c.make_room.ensures.are c.make_room.ensures.kept c.symbol-symbol.ensures
    (sym (ceiling-from _ _ _ _ c.requires.file.good.symbol (c.from.ensures ∙ c.symbol-symbol.ensures) c.div_ceil-count.ensures)) c.hear_run-kept.ensures.heard in
    heard.block
