use Rattle.mb_way.proofs.codes.Codes.forget_unused.Goals as goal

pub invariant_of-self : goal.invariant_of-self
invariant_of-self c = record { tables = c.self.invariant.tables; each = c.leave_shared.ensures c.self.inside.tables c.self.invariant.each }
