use Rattle.std.proofs.Common.{◌≡◌, false, not, ◌⊎◌, inl, inr, sym, arith}
use Rattle.std.proofs.lemmas.Grind.{common_steps}
use Rattle.mb_geom.specs.Description.{is_block_size}
use Rattle.mb_geom.proofs.BlockLemmas.{position-second, position-none}
use Rattle.mb_geom.proofs.desc.Scheme.bad_block.Goals as goal
use Rattle.mb_geom.proofs.desc.Scheme.bad_block.Goals.{else-blocks-gt0-via-then-blocks-gt0+else-not-allows, else-blocks-gt0-via-else-blocks-gt0, else-blocks-gt0-2-via-then-blocks-gt0-2+else-not-allows-2, else-blocks-gt0-2-via-else-blocks-gt0-2}

pub returns-then-not-allows-2-clause-exact : goal.returns-then-not-allows-2-clause-exact
returns-then-not-allows-2-clause-exact c =
    let skips : (c.args.blocks.jl ≡ 0) ⊎ (not (is_block_size c.args.self c.args.blocks.il) ≡ false) =
    elim c.else-blocks-gt0.branch [
      | else-blocks-gt0-via-then-blocks-gt0+else-not-allows w ↦ inr (grind (arith, common_steps))
      | else-blocks-gt0-via-else-blocks-gt0 w ↦ inl (omega arith)
    ] in
    sym (position-second _ c.args.blocks skips c.if-blocks-gt0-2.true (grind (arith, common_steps)))

pub returns-else-blocks-gt0-2-clause-exact : goal.returns-else-blocks-gt0-2-clause-exact
returns-else-blocks-gt0-2-clause-exact c =
    let skips : (c.args.blocks.jl ≡ 0) ⊎ (not (is_block_size c.args.self c.args.blocks.il) ≡ false) =
    elim c.else-blocks-gt0.branch [
      | else-blocks-gt0-via-then-blocks-gt0+else-not-allows w ↦ inr (grind (arith, common_steps))
      | else-blocks-gt0-via-else-blocks-gt0 w ↦ inl (omega arith)
    ] in
    let skips_others : (c.args.blocks.js ≡ 0) ⊎ (not (is_block_size c.args.self c.args.blocks.is) ≡ false) =
    elim c.else-blocks-gt0-2.branch [
      | else-blocks-gt0-2-via-then-blocks-gt0-2+else-not-allows-2 w ↦ inr (grind (arith, common_steps))
      | else-blocks-gt0-2-via-else-blocks-gt0-2 w ↦ inl (omega arith)
    ] in
    sym (position-none _ c.args.blocks skips skips_others)
