use Rattle.std.proofs.Common.{◌≡◌, ◌≤◌, ◌<◌, slice_index, Some, None, sym, ◌∙◌, ap, arith}
use Rattle.mb_geom.specs.Partition.{sizes_of}
use Rattle.mb_geom.proofs.LayoutLemmas.{divided-by}
use Rattle.mb_geom.specs.Description.{IsGood, block_sizes, block_count, block_size, bad_block, description_of}
use Rattle.mb_geom.proofs.BlockLemmas.{block_sizes-is, block_sizes-from}
use Rattle.mb_geom.proofs.RefusalLemmas.{IsCoded, described-too_many, described-bad_block, described-good}
use Rattle.mb_geom.proofs.desc.Desc.new.Goals as goal

pub returns-then-count-gt-MAX_BLOCKS : goal.returns-then-count-gt-MAX_BLOCKS
returns-then-count-gt-MAX_BLOCKS c =
    let coded : IsCoded c.args.parts = record { length = c.in_ok-length.ensures.refused; coding = c.in_ok-symbol.ensures.refused } in
    let sizes_are : block_sizes (description_of c.args.parts) ≡ sizes_of c.blocks-blocks.result =
    block_sizes-from _ _ _ _ _ c.blocks-blocks.ensures.exact c.in_ok-length.ensures.length c.in_ok-symbol.ensures.symbol c.in_ok-symbol.ensures.scheme in
    let many : 65536 < block_count (description_of c.args.parts) = rw sizes_are (omega arith) in
    sym (described-too_many c.args.parts coded many)

pub returns-in-Some : goal.returns-in-Some
returns-in-Some c =
    let coded : IsCoded c.args.parts = record { length = c.in_ok-length.ensures.refused; coding = c.in_ok-symbol.ensures.refused } in
    let sizes_are : block_sizes (description_of c.args.parts) ≡ sizes_of c.blocks-blocks.result =
    block_sizes-from _ _ _ _ _ c.blocks-blocks.ensures.exact c.in_ok-length.ensures.length c.in_ok-symbol.ensures.symbol c.in_ok-symbol.ensures.scheme in
    let few : block_count (description_of c.args.parts) ≤ 65536 = rw sizes_are (omega arith) in
    let bad : bad_block (description_of c.args.parts) ≡ Some c.in-Some.number =
    rw (sizes_are, ← c.in_ok-symbol.ensures.scheme) (sym c.bad_block.ensures.exact ∙ c.in-Some.is) in
    let size_is : c.size-size.result ≡ block_size (description_of c.args.parts) c.in-Some.number =
    c.size-size.ensures.exact ∙ ap (λ xs. slice_index xs c.in-Some.number) (sym sizes_are) in
    rw size_is (sym (described-bad_block c.args.parts c.in-Some.number coded few bad))

pub invariant_of-result : goal.invariant_of-result
invariant_of-result c =
    let good : IsGood (record { location = c.args.parts.location; length = c.in_ok-length.length; symbol = c.in_ok-symbol.symbol; scheme = c.in_ok-symbol.scheme; md5 = c.digest.result }) = record {
      location = c.requires;
      length = c.in_ok-length.ensures.most;
      symbol = c.in_ok-symbol.ensures.positive;
      symbol_fits = omega arith;
      scheme_fits = c.in_ok-symbol.ensures.fields;
      digest = c.digest.ensures.bytes;
      parameters = c.in_ok-symbol.ensures.parameters;
      blocks = rw (block_sizes-is, ← c.blocks-blocks.ensures.exact) (omega arith);
      sizes = rw (block_sizes-is, ← c.blocks-blocks.ensures.exact) (sym c.bad_block.ensures.exact ∙ c.in_default.is);
    } in
    divided-by _ c.blocks-blocks.result good c.blocks-blocks.ensures.exact

pub returns : goal.returns
returns c =
    let coded : IsCoded c.args.parts = record { length = c.in_ok-length.ensures.refused; coding = c.in_ok-symbol.ensures.refused } in
    let sizes_are : block_sizes (description_of c.args.parts) ≡ sizes_of c.blocks-blocks.result =
    block_sizes-from _ _ _ _ _ c.blocks-blocks.ensures.exact c.in_ok-length.ensures.length c.in_ok-symbol.ensures.symbol c.in_ok-symbol.ensures.scheme in
    let few : block_count (description_of c.args.parts) ≤ 65536 = rw sizes_are (omega arith) in
    let good : bad_block (description_of c.args.parts) ≡ None =
    rw (sizes_are, ← c.in_ok-symbol.ensures.scheme) (sym c.bad_block.ensures.exact ∙ c.in_default.is) in
    rw (c.in_ok-length.ensures.length, c.in_ok-symbol.ensures.symbol, c.in_ok-symbol.ensures.scheme, c.digest.ensures.exact)
    (sym (described-good c.args.parts coded few good))
