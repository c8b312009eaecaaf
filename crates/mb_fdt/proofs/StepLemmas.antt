-- Steps of the definition of the reader over the bytes of a text.
use Rattle.std.proofs.Common.{◌≡◌, ℕ, suc, ◌+◌, ◌<◌, ◌≤◌, List, [], ◌∷◌, length, get_or, drop, Ok, Err, ap, sym, ◌∙◌, arith, drop-cons}
use Rattle.std.proofs.lemmas.List.{drop_all}
use Rattle.mb_fdt_text.specs.declared.fdt.FdtFault.{FdtFault}
use Rattle.mb_fdt_text.specs.Reader.{Reader, Next, step, steps, finish}

-- one byte further
pub steps_further : (r : Reader) (text : List ℕ) (i : ℕ) → i < length text → steps (Ok r) (drop i text) ≡ steps (step r (get_or text i 0)) (drop (i + 1) text)
unfolding steps
steps_further r text i within =
    let next : suc i ≡ i + 1 = omega arith in
    ap (λ (bytes : List ℕ). steps (Ok r) bytes) (drop-cons text i 0 within ∙ ap (λ (j : ℕ). get_or text i 0 ∷ drop j text) next)

-- a fault
pub fault_found : (r : Reader) (text : List ℕ) (i : ℕ) (fault : FdtFault) (all : Next) → i < length text → Err fault ≡ step r (get_or text i 0)
    → steps (Ok r) (drop i text) ≡ all → Err fault ≡ finish all
unfolding steps finish
fault_found r text i fault all within found same =
    let here : Err fault ≡ all = ap (λ (next : Next). steps next (drop (i + 1) text)) found ∙ sym (steps_further r text i within) ∙ same in
    ap finish here

-- the end
pub end_found : (r : Reader) (text : List ℕ) (i : ℕ) (all : Next) → length text ≤ i → steps (Ok r) (drop i text) ≡ all → finish (Ok r) ≡ finish all
unfolding steps
end_found r text i all end same =
    let nothing : drop i text ≡ [] = drop_all i text end in
    ap finish (ap (λ (bytes : List ℕ). steps (Ok r) bytes) (sym nothing) ∙ same)
