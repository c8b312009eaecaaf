use Rattle.std.proofs.Common.{◌≡◌, ◌==◌, position, None, subst, sym}
use Rattle.mb_life.specs.Life.{Life}
use Rattle.mb_objects.proofs.entries.start_file.Goals as goal

pub start-requires-clause-new : goal.start-requires-clause-new
start-requires-clause-new c =
    subst (λ (l : Life). position (λ other. other.toi == l.toi) c.args.lives.now ≡ None) (sym c.start-life.ensures) c.requires.new
