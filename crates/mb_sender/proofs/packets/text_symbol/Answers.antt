use Rattle.std.proofs.Common.{◌≡◌, ℕ, ◌-◌, ◌*◌, min, List, length, take, drop, ap, ◌∙◌, arith}
use Rattle.std.proofs.lemmas.Grind.{common_steps}
use Rattle.std.proofs.lemmas.List.{take_rest, take_min}
use Rattle.mb_sender.proofs.packets.text_symbol.Goals as goal

-- the first n of a list, or all of them
short : (xs : List ℕ) (n k : ℕ) → k ≡ min (length xs) n → take k xs ≡ take n xs
short xs n k is =
    let other : k ≡ min n (length xs) = omega (arith, is) in
    ap (λ j. take j xs) other ∙ take_min n xs

symbol : (text : List ℕ) (at n k : ℕ) → k ≡ min (length text - at) n → take k (take (length text - at) (drop at text)) ≡ take n (drop at text)
symbol text at n k is = ap (take k) (take_rest text at) ∙ short (drop at text) n k (grind (arith, common_steps, is))

pub returns-clause-symbol : goal.returns-clause-symbol
returns-clause-symbol c =
    let text = c.args.text.now in
    symbol text (1400 * c.from.result) 1400 c.min.result (grind (arith, common_steps, c.min.ensures)) ∙ ap (λ e. take 1400 (drop (1400 * e) text)) c.from.ensures
