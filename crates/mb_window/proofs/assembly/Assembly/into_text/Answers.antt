use Rattle.std.proofs.Common.{◌≡◌, ◌*◌, ◌≤◌, length, sym}
use Rattle.mb_geom.specs.Description.{symbols}
use Rattle.mb_bits.specs.BitRow.{row_of}
use Rattle.mb_window.specs.Buffer.{missing_in, seen_in}
use Rattle.mb_window.proofs.SeenLemmas.{joined-seen, length-row_from}
use Rattle.mb_window.proofs.assembly.Assembly.into_text.Goals as goal

pub returns : goal.returns
returns c =
    let a = c.self.inside in
    let none : missing_in (seen_in a.geometry a.text.items a.heard.items) ≡ 0 = rw (← c.self.view_is) at c.requires in
    let count = length-row_from (symbols a.geometry) 0 a.heard.items in
    let enough : length a.text.items ≤ length (row_of (symbols a.geometry) a.heard.items) * a.geometry.symbol =
    rw (count, c.self.invariant.bytes_are) c.self.invariant.whole in
    rw (← c.self.view_is) (sym (joined-seen (row_of (symbols a.geometry) a.heard.items) a.geometry.symbol a.text.items none enough))
