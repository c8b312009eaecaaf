use Rattle.std.proofs.Common.{◌≡◌, ℕ, List, [], ◌∷◌, Result, ap, sym, ◌∙◌}
use Rattle.mb_fdt_text.specs.declared.fdt.FdtFault.{FdtFault}
use Rattle.mb_fdt.specs.declared.token.Token.{Token}
use Rattle.mb_fdt_text.specs.Reader.{tag_end, innermost}
use Rattle.mb_fdt.specs.PathView.{path_of}
use Rattle.mb_fdt.specs.ReaderView.{next_of, reader_at}
use Rattle.mb_fdt.proofs.SlotLemmas.{one_name, if_ok_map}
use Rattle.mb_fdt.proofs.reader.Reader.tag_end.Goals as goal

pub returns-in-1-clause-exact : goal.returns-in-1-clause-exact
returns-in-1-clause-exact c =
    let r = c.args.self.now in
    let path : List (List ℕ) = path_of r.path in
    let one : path ≡ innermost path ∷ [] = one_name path (sym c.depth.ensures ∙ c.in-1.is) in
    let end = λ (at : ℕ) (p : List (List ℕ)). tag_end (reader_at at r) c.args.empty p in
    if_ok_map
    (λ (next : Result Token FdtFault). (root : List ℕ) (at : ℕ) → next_of at next c.child_end.new.self ≡ end at (root ∷ []))
    (λ (next : Result Token FdtFault). (at : ℕ) → next_of at next c.child_end.new.self ≡ end at path)
    (λ next given at. given (innermost path) at ∙ ap (end at) (sym one)) c.child_end.result c.child_end.ensures.exact
