use Rattle.std.proofs.Common.{ℕ, map, replicate, None, ap, subst, sym, ◌∙◌}
use Rattle.mb_way.specs.Way.{Way.NoCode}
use Rattle.mb_block.specs.Blocks as whole
use Rattle.mb_file.specs.FileView.{kept_of, ArePlaces}
use Rattle.mb_file.proofs.FileLemmas.{places-none, kept-none, raptor-ways, ways-of_sizes, nothing-of_sizes}
use Rattle.mb_file.proofs.room.start.Goals as goal

pub returns-in_ok-no_blocks-in-Raptor-clause-are : goal.returns-in_ok-no_blocks-in-Raptor-clause-are
returns-in_ok-no_blocks-in-Raptor-clause-are c =
    let ways = c.args.ways.now in
    let t = c.args.desc.now.symbol in
    record {
      raptor = raptor-ways c.args.desc.now ways c.in-Raptor.z c.in-Raptor.n c.in-Raptor.al c.requires (sym c.scheme.ensures ∙ c.in-Raptor.is);
      each = subst (ArePlaces ways t) (sym (c.in_ok-no_blocks-in-Raptor.ensures ∙ ap (λ (n : ℕ). replicate n None) c.count.ensures.exact)) (places-none ways t);
    }

pub returns-in_ok-no_blocks-in-Raptor-clause-kept : goal.returns-in_ok-no_blocks-in-Raptor-clause-kept
returns-in_ok-no_blocks-in-Raptor-clause-kept c =
    ap (map kept_of) (c.in_ok-no_blocks-in-Raptor.ensures ∙ ap (λ (n : ℕ). replicate n None) c.count.ensures.exact) ∙ kept-none c.args.ways.now

pub returns-in_ok-start-in-NoCode-clause-are : goal.returns-in_ok-start-in-NoCode-clause-are
returns-in_ok-start-in-NoCode-clause-are c =
    let d = c.args.desc.now in
    let is = c.in_ok-start-in-NoCode.ensures.blocks in
    record {
      sizes = ap (λ (b : whole.Blocks). map NoCode b.sizes) is ∙ ways-of_sizes d c.args.ways.now c.in-NoCode.max_block c.requires (sym c.scheme.ensures ∙ c.in-NoCode.is);
      symbol = ap (λ (b : whole.Blocks). b.symbol) is;
      whole = c.in_ok-start-in-NoCode.ensures.whole;
    }

pub returns-in_ok-start-in-NoCode-clause-kept : goal.returns-in_ok-start-in-NoCode-clause-kept
returns-in_ok-start-in-NoCode-clause-kept c =
    ap (λ (b : whole.Blocks). b.kept) c.in_ok-start-in-NoCode.ensures.blocks
    ∙ nothing-of_sizes c.args.desc.now c.args.ways.now c.in-NoCode.max_block c.requires (sym c.scheme.ensures ∙ c.in-NoCode.is)
