use Rattle.std.proofs.Common.{◌≡◌, ℕ, List, [], ◌∷◌, ◌++◌, map, append_assoc}
use Rattle.std.specs.Global.{Vec}
use Rattle.std.proofs.lemmas.List.Elements.{All-push}
use Rattle.mb_base.specs.Outside.{AreBytes}
use Rattle.mb_shelf.proofs.mem_shelf.MemShelf.new.Goals as goal

-- one file more was kept, and one fewer is left
one_more : (content : Vec ℕ → List ℕ) (kept more whole : List (List ℕ)) (file : Vec ℕ) (left rest : List (Vec ℕ))
    → left ≡ file ∷ rest → more ≡ kept ++ content file ∷ [] → kept ++ map content left ≡ whole → more ++ map content rest ≡ whole
one_more content kept more whole file left rest step added before = rw (added, append_assoc) (rw step at before)

pub loop-file-preserved : goal.loop-file-preserved
loop-file-preserved c = record {
  files =
      let added : c.push.new.self.items ≡ c.loop-file.kept.items ++ c.in-Some.file.items ∷ [] = rw c.new.ensures.all at c.in_ok-push.ensures.items in
      one_more (λ (file : Vec ℕ). file.items) _ _ _ c.in-Some.file _ _ c.in-Some.ensures.steps.0 added c.loop-file.invariant.files;
  bytes = rw c.in_ok-push.ensures.items (All-push AreBytes _ _ c.loop-file.invariant.bytes c.new.ensures.bytes);
}
