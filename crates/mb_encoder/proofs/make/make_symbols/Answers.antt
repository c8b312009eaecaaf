use Rattle.std.proofs.Common.{◌≡◌, ℕ, ◌*◌, List, ap, ap₂, sym, ◌∙◌, arith, length}
use Rattle.std.proofs.lemmas.Grind.{common_steps}
use Rattle.mb_elim.specs.Offered.{Offered}
use Rattle.mb_rows.specs.Code.{l_of}
use Rattle.mb_encoder.proofs.Offering.{full_offered}
use Rattle.mb_encoder.proofs.Making.{made_sources, made_kept, made_encoder}
use Rattle.mb_encoder.proofs.make.make_symbols.Goals as goal

pub put_first-requires-clause-block : goal.put_first-requires-clause-block
put_first-requires-clause-block c = c.requires.block ∙ ap₂ (λ (t k : ℕ). t * k) (sym c.from-width.ensures) (sym (ap (λ (o : Offered). o.places) c.requires.rows.rows))

pub put_first-requires-clause-full : goal.put_first-requires-clause-full
put_first-requires-clause-full c = full_offered c.args.code.now c.args.offered.now c.requires.rows

pub returns-clause-kept : goal.returns-clause-kept
returns-clause-kept c =
    let size : c.from-width.result * c.from-l.result ≡ c.args.t * l_of c.args.code.now = ap₂ (λ (t l : ℕ). t * l) c.from-width.ensures (c.from-l.ensures ∙ c.l.ensures.sum) in
    let room : length c.deref_mut.result.now ≡ c.args.t * l_of c.args.code.now = grind (arith, common_steps) in
    let first : length c.put_first.new.symbols ≡ c.args.t * l_of c.args.code.now = c.put_first.ensures.count ∙ room in
    let same : c.deref_mut-3.result.now ≡ c.put_first.new.symbols = grind (arith, common_steps) in
    let count : length c.put_rest.new.symbols ≡ c.args.t * l_of c.args.code.now = c.put_rest.ensures.count ∙ ap (λ (xs : List ℕ). length xs) same ∙ first in
    made_kept c.args.code.now c.args.t c.args.offered.now c.put_rest.new.symbols _ c.requires.rows (grind (arith, common_steps)) count c.put_rest.ensures.bytes
    (rw c.from-width.ensures at c.put_rest.ensures.meet)

pub returns-clause-sources : goal.returns-clause-sources
returns-clause-sources c =
    let same : c.deref_mut-3.result.now ≡ c.put_first.new.symbols = grind (arith, common_steps) in
    made_encoder c.args.code.now c.args.t c.put_rest.new.symbols _ c.args.block.now (grind (arith, common_steps))
    (made_sources c.args.code.now c.args.t c.args.offered.now c.args.block.now c.put_first.new.symbols c.put_rest.new.symbols c.requires.rows
    (rw c.from-width.ensures at c.put_first.ensures.unknowns) (rw (c.from-width.ensures, same) at c.put_rest.ensures.first)
    (rw c.from-width.ensures at c.put_rest.ensures.meet))
