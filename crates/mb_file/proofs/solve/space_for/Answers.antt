use Rattle.std.proofs.Common.{◌≡◌, ℕ, ◌*◌, List, length, get_or, ap, sym, ◌∙◌, arith}
use Rattle.std.proofs.lemmas.Nat.{mul-le}
use Rattle.mb_geom.specs.Description.{block_size}
use Rattle.mb_file.proofs.SizeLemmas.{size-most}
use Rattle.mb_file.proofs.solve.space_for.Goals as goal

pub returns : goal.returns
returns c =
    let d = c.args.desc.now in
    let p = c.parts.result in record {
      file_is = c.in_ok-file.ensures ∙ c.length.ensures.exact;
      block_fits = λ sbn within.
          let size : block_size d sbn ≡ get_or _ sbn 0 = ap (λ (ns : List ℕ). get_or ns sbn 0) (sym c.parts.ensures.sizes) in
          let most = size-most p sbn c.parts.ensures.shorter in
          let t : c.from.result ≡ d.symbol = c.from.ensures ∙ c.symbol.ensures in
          let room : length c.in_ok-block.block.items ≡ p.il * d.symbol = c.in_ok-block.ensures ∙ ap (λ (n : ℕ). p.il * n) t in
          let times = mul-le (block_size d sbn) d.symbol p.il d.symbol (omega arith) (omega arith) in omega arith;
    }
