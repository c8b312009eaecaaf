use Rattle.std.proofs.Common.{◌≡◌, ℕ, ◌++◌, map, All}
use Rattle.std.specs.Global.{Vec}
use Rattle.std.specs.Vec.Iter.{into_iter_items}
use Rattle.mb_base.specs.Outside.{AreBytes}
use Rattle.mb_shelf.proofs.mem_shelf.MemShelf.new.Given as goal

abbrev pub invariant-loop-file : goal.invariant-loop-file
invariant-loop-file l = record {
  files : l.kept.items ++ map (λ (file : Vec ℕ). file.items) (into_iter_items l.file-iterator) ≡ map (λ (file : Vec ℕ). file.items) l.fn.files.items;
  bytes : All AreBytes l.kept.items;
}
