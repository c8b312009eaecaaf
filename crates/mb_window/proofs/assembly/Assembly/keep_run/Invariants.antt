use Rattle.std.proofs.Common.{◌≡◌, ◌+◌, ◌-◌, ◌*◌, ◌≤◌, ◌<◌, min, length}
use Rattle.mb_geom.specs.Description.{symbols}
use Rattle.mb_window.specs.Buffer.{keep_run}
use Rattle.mb_window.proofs.assembly.Assembly.keep_run.Given as goal

abbrev pub invariant-loop-left : goal.invariant-loop-left
invariant-loop-left l = record {
  text : l.self.text ≡ l.fn.self.text;
  symbol : l.symbol ≡ l.fn.self.text.symbol;
  some : 0 < l.symbol;
  places : l.place + l.left ≤ symbols l.fn.self.text;
  bytes : min (l.left * l.symbol) (l.fn.self.text.length - l.place * l.symbol) ≤ length l.rest;
  run : keep_run l.left l.fn.self.text l.place l.rest l.self.kept ≡ keep_run l.fn.count l.fn.self.text l.fn.first l.fn.payload l.fn.self.kept;
}

abbrev pub decreases-loop-left : goal.decreases-loop-left
decreases-loop-left l = l.left
