use Rattle.std.proofs.Common.{◌≡◌, ℕ, ◌+◌, ◌<◌, ◌≤◌, List, length, get_or, map, None, length-set, refl, sym, ◌∙◌, ap, subst, arith}
use Rattle.std.proofs.lemmas.List.{get_or-set_other}
use Rattle.mb_geom.specs.Description.{block_count, block_size}
use Rattle.mb_file.specs.FileView.{IsReadyAt, sources_of}
use Rattle.mb_file.proofs.FileLemmas.{stands-at}
use Rattle.mb_file.proofs.ReadyLemmas.{HasFirst, put-more, all-put}
use Rattle.mb_file.proofs.solve.put_blocks.Goals.{in-Some, in_default}
use Rattle.mb_file.proofs.solve.put_blocks.Goals as goal

pub put_block-requires-clause-ready : goal.put_block-requires-clause-ready
put_block-requires-clause-ready g c = λ lifetimes longer.
    let l = c.loop-sbn in
    let d = c.args.desc.now in
    let within : l.sbn < block_count d = omega (arith, c.loop-sbn-test.true, c.blocks-sbn-end.ensures) in
    let long : l.sbn < length l.places.items = omega (arith, l.invariant.count, c.requires.ready.count, within) in
    let at : get_or c.args.places.items l.sbn None ≡ c.take.result =
    sym (l.invariant.rest l.sbn (omega arith)) ∙ sym (stands-at l.places.items l.sbn l.sbn c.index_mut.result.now refl long c.index_mut.ensures.value) ∙ sym c.take.ensures.value in
    subst (IsReadyAt (block_size d l.sbn) d.symbol) (at ∙ c.in-Some.is) (c.requires.ready.each l.sbn within)

pub loop-sbn-preserved : goal.loop-sbn-preserved
loop-sbn-preserved g c =
    let l = c.loop-sbn in
    let d = c.args.desc.now in
    let items = c.args.places.items in
    let within : l.sbn < block_count d = omega (arith, c.loop-sbn-test.true, c.blocks-sbn-end.ensures) in
    let long : l.sbn < length l.places.items = omega (arith, l.invariant.count, c.requires.ready.count, within) in
    let at : get_or items l.sbn None ≡ c.take.result =
    sym (l.invariant.rest l.sbn (omega arith)) ∙ sym (stands-at l.places.items l.sbn l.sbn c.index_mut.result.now refl long c.index_mut.ensures.value) ∙ sym c.take.ensures.value in
    let count = length-set l.places.items l.sbn c.take.new.self ∙ l.invariant.count in
    let rest = λ (i : ℕ) (p : l.sbn + 1 ≤ i). get_or-set_other l.places.items l.sbn i c.take.new.self None (λ e. omega (arith, e, p)) ∙ l.invariant.rest i (omega (arith, p)) in
    elim c.match-take.branch [
      | in-Some w ↦
          let file_is : length c.match-take.file ≡ d.length = ap (λ (xs : List ℕ). length xs) w.file-is ∙ w.put_block.ensures.put.len ∙ l.invariant.space.file_is in
          let block_is : length c.match-take.block ≡ length l.block = ap (λ (xs : List ℕ). length xs) w.block-is ∙ w.put_block.ensures.space in
          record {
            count = count;
            rest = rest;
            space = record {
              file_is = file_is;
              block_fits = λ sbn p. omega (arith, l.invariant.space.block_fits sbn p, block_is);
            };
            first = subst (HasFirst d (map sources_of items) (l.sbn + 1)) (sym w.file-is)
                (put-more d items l.sbn (l.sbn + 1) w.in-Some.solved l.file w.put_block.new.file c.requires.good c.requires.ready within (omega arith) (at ∙ w.in-Some.is)
                w.put_block.ensures.put l.invariant.first);
          }
      | in_default w ↦ absurd (subst (IsReadyAt (block_size d l.sbn) d.symbol) (at ∙ w.in_default.is) (c.requires.ready.each l.sbn within))
    ]

pub returns : goal.returns
returns g c =
    let l = c.loop-sbn in
    all-put c.args.desc.now c.args.places.items l.sbn l.file c.requires.good c.requires.ready (omega (arith, c.loop-sbn-test.false, c.blocks-sbn-end.ensures, l.auto.sbn-end)) l.invariant.space.file_is
    l.invariant.first
