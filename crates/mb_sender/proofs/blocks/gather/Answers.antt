use Rattle.std.proofs.Common.{◌≡◌, ◌∙◌, List, ℕ, length, refl, sym, ap, arith}
use Rattle.mb_geom.specs.SourceSymbol.{source_symbol}
use Rattle.mb_sender.proofs.Encoding.{none-gathered, more-gathered, gathered-long, all-gathered, symbol-long}
use Rattle.mb_sender.proofs.blocks.gather.Goals as goal

pub loop-i-init : goal.loop-i-init
loop-i-init c = record {
  gathered = none-gathered c.args.file.now.desc c.args.file.now.bytes c.args.sbn c.new-block.result.items (ap length c.new-block.ensures.items);
  room = refl;
}

pub loop-i-preserved : goal.loop-i-preserved
loop-i-preserved c =
    let d = c.args.file.now.desc in
    let is : c.symbol_of.new.out ≡ source_symbol d c.args.file.now.bytes c.args.sbn c.loop-i.i =
    c.symbol_of.ensures ∙ ap (λ (bytes : List ℕ). source_symbol d bytes c.args.sbn c.loop-i.i) c.as_slice.ensures in
    record {
      gathered =
          more-gathered d c.args.file.now.bytes c.args.sbn c.loop-i.i c.loop-i.block.items c.symbol_of.new.out c.extend_from_slice.new.self.items
          c.loop-i.invariant.gathered is c.in_ok-extend_from_slice.ensures.items;
      room = ap length is ∙ symbol-long d c.args.file.now.bytes c.args.sbn c.loop-i.i ∙ sym c.requires.room;
    }

pub returns-clause-count : goal.returns-clause-count
returns-clause-count c =
    gathered-long c.args.file.now.desc c.args.file.now.bytes c.args.sbn c.loop-i.i c.loop-i.block.items
    (omega (arith, c.loop-i-test.false, c.loop-i.auto.i-end, c.k_of-k.ensures)) c.loop-i.invariant.gathered

pub returns-clause-symbols : goal.returns-clause-symbols
returns-clause-symbols c =
    all-gathered c.args.file.now.desc c.args.file.now.bytes c.args.sbn c.loop-i.i c.loop-i.block.items
    (omega (arith, c.loop-i-test.false, c.loop-i.auto.i-end, c.k_of-k.ensures)) c.loop-i.invariant.gathered
