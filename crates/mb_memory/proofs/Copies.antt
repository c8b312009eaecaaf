-- Lemmas on what was copied out of kept bytes.
use Rattle.std.proofs.Common.{◌≡◌, ℕ, ◌+◌, ◌-◌, ◌≤◌, ◌<◌, min, inl, inr, List, [], ◌++◌, length, take, drop, Option, Some, None, sym, arith}
use Rattle.std.proofs.Math.Seq.{drop-length}
use Rattle.std.proofs.Math.ListN.{drop_of_length-le}
use Rattle.std.specs.Option.{unwrap_or}
use Rattle.std.proofs.lemmas.Bool.{cases_lt}
use Rattle.std.proofs.lemmas.Grind.{common_steps}
use Rattle.std.proofs.lemmas.List.{drop-drop, take-append-drop}
use Rattle.mb_memory.specs.ExchangeLog.{left_of}

-- a part that was copied to the front of a buffer, and what lies behind it
pub copied_front : (xs part tail : List ℕ) (place n : ℕ) → part ≡ take (place + n - place) (drop place xs)
    → place + n ≤ length xs → drop place xs ≡ take n (part ++ tail) ++ drop (place + n) xs
copied_front xs part tail place n e h =
    let same : part ≡ take n (drop place xs) = grind (arith, common_steps) in
    let len : length part ≡ n = grind (arith, common_steps) in
    let front : take n (part ++ tail) ≡ part = grind (arith, common_steps) in
    let rest : drop (place + n) xs ≡ drop n (drop place xs) = sym (drop-drop n place xs) in
    rw (front, rest, same) (sym (take-append-drop n (drop place xs)))

-- past the end there is nothing to drop
pub drop-min : (xs : List ℕ) (n m : ℕ) → m ≡ min n (length xs) → drop n xs ≡ drop m xs
drop-min xs n m e =
    elim (cases_lt n (length xs)) [
      | inl h ↦ let same : m ≡ n = omega arith in rw same
      | inr h ↦
          let same : m ≡ length xs = omega arith in
          let none : drop n xs ≡ [] = drop_of_length-le xs h in
          let none_left : drop (length xs) xs ≡ [] = drop-length xs in
          rw (same, none, none_left)
    ]

-- what is left of an answer, from where receiving it has come
pub left_of-place : (received : Option ℕ) (answer : List ℕ) (place : ℕ) → place ≡ min (unwrap_or received 0) (length answer)
    → left_of received answer ≡ drop place answer
left_of-place None answer place e = let zero_place : place ≡ 0 = omega arith in rw zero_place
left_of-place (Some received) answer place e = drop-min answer received place e

-- what was taken of what is left of an answer, and what is left then
pub receives_part : (received : Option ℕ) (answer part tail : List ℕ) (place n room : ℕ)
    → place ≡ min (unwrap_or received 0) (length answer) → n ≡ min room (length answer - place)
    → part ≡ take (place + n - place) (drop place answer)
    → left_of received answer ≡ take n (part ++ tail) ++ drop (place + n) answer
receives_part received answer part tail place n room p l e =
    let fits : place + n ≤ length answer = omega arith in
    rw (left_of-place received answer place p) (copied_front answer part tail place n e fits)

-- with room, none was taken only where none was left
pub receives_none : (received : Option ℕ) (answer part tail : List ℕ) (place n room : ℕ)
    → place ≡ min (unwrap_or received 0) (length answer) → n ≡ min room (length answer - place)
    → part ≡ take (place + n - place) (drop place answer) → take n (part ++ tail) ≡ [] → 0 < room
    → left_of received answer ≡ []
receives_none received answer part tail place n room p l e none h =
    let shown = receives_part received answer part tail place n room p l e in
    let part_len : length part ≡ n = grind (arith, common_steps) in
    let none_len : length (take n (part ++ tail)) ≡ 0 = rw none in
    let no_bytes : n ≡ 0 = grind (arith, common_steps, none_len) in
    let past : length answer ≤ place = omega arith in
    rw (left_of-place received answer place p) (drop_of_length-le answer past)
