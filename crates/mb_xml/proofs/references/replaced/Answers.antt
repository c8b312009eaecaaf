use Rattle.std.proofs.Common.{◌≡◌, ℕ, List, ◌++◌, sym, ◌∙◌, ap}
use Rattle.std.proofs.lemmas.List.{append-nil}
use Rattle.mb_xml.specs.Reference.{replaced}
use Rattle.mb_xml.proofs.ReplacedLemmas.{replaced_short, replaced_text}
use Rattle.mb_xml.proofs.references.replaced.Goals as goal

pub returns-clause-short : goal.returns-clause-short
returns-clause-short c =
    let out : List ℕ = c.loop-byte.out.items in
    let whole : c.from_vec-2.result ≡ replaced c.args.value.now =
    c.from_vec-2.ensures ∙ sym (append-nil out) ∙ ap (λ (xs : List ℕ). out ++ xs) (sym c.in_default.ensures.0) ∙ c.loop-byte.invariant.so_far in
    rw whole (replaced_short c.args.value.now)

pub returns-clause-text : goal.returns-clause-text
returns-clause-text c = λ text.
    let out : List ℕ = c.loop-byte.out.items in
    let whole : c.from_vec-2.result ≡ replaced c.args.value.now =
    c.from_vec-2.ensures ∙ sym (append-nil out) ∙ ap (λ (xs : List ℕ). out ++ xs) (sym c.in_default.ensures.0) ∙ c.loop-byte.invariant.so_far in
    rw whole (replaced_text c.args.value.now text)
