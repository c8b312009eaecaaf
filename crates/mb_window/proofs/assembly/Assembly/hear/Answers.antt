use Rattle.std.proofs.Common.{ap, ◌∙◌}
use Rattle.mb_alc.specs.PacketView.{body_seen}
use Rattle.mb_window.specs.Assembled.{Assembled}
use Rattle.mb_window.proofs.HearLemmas.{missing-run, run-heard_more}
use Rattle.mb_window.proofs.assembly.Assembly.hear.Goals as goal

pub returns-clause-heard : goal.returns-clause-heard
returns-clause-heard c = c.keep_run.ensures ∙ run-heard_more c.args.self.now (body_seen c.args.body.now) c.args.run c.requires

pub returns-clause-missing : goal.returns-clause-missing
returns-clause-missing c =
    let a = c.args.self.now in
    rw (ap (λ (b : Assembled). b.kept) c.keep_run.ensures) (missing-run c.args.run.count a.text c.args.run.first c.args.body.now.payload.now a.kept)
