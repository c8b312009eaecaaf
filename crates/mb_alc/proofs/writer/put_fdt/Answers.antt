use Rattle.std.proofs.Common.{◌^◌, ◌<◌, ◌++◌, ℕ, Option, IfSome, sym, ap, subst, ◌∙◌}
use Rattle.mb_alc.specs.Written.{fdt_bytes}
use Rattle.mb_alc.proofs.WriteLemmas.{fdt-word}
use Rattle.mb_alc.proofs.writer.put_fdt.Goals as goal

pub returns-in_ok-put_be32-clause-appended : goal.returns-in_ok-put_be32-clause-appended
returns-in_ok-put_be32-clause-appended c =
    let below : c.in-Some.id < 2 ^ 20 = subst (λ (o : Option ℕ). IfSome o (λ id. id < 2 ^ 20)) c.in-Some.is c.requires in
    c.in_ok-put_be32.ensures.appended ∙ ap (λ l. c.args.out.now.items ++ l) (fdt-word c.in-Some.id below ∙ ap fdt_bytes (sym c.in-Some.is))
