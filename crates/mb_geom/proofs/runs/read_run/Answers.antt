use Rattle.std.proofs.Common.{rules, ◌≡◌, ℕ, ◌+◌, ◌-◌, ◌<◌, min, inl, inr, List, ◌++◌, length, get_or, take, drop, replicate, refl, sym, ◌∙◌, arith}
use Rattle.std.proofs.lemmas.Bool.{cases_lt}
use Rattle.std.proofs.lemmas.List.{get_or_append_left, get_or-append_right, take_at, get_or-take, get_or-drop, get_or-replicate, get_or_past, length-append, length-take, length-drop, length-replicate}
use Rattle.mb_geom.proofs.runs.read_run.Goals as goal

-- a byte of what was copied and filled up
filled : (file front zeros others : List ℕ) (at from held len k : ℕ) → from ≡ min at (length file) → held ≡ min len (length file - from) →
    front ≡ take held (drop from file) → zeros ≡ replicate (len - held) 0 → k < len →
    get_or (front ++ (zeros ++ others)) k 0 ≡ get_or file (at + k) 0
filled file front zeros others at from held len k from_is held_is front_is zeros_are within =
    let long : length front ≡ held = rw front_is (simp (length-take, length-drop) (omega arith)) in
    let zeros_long : length zeros ≡ len - held = rw zeros_are (length-replicate (len - held) 0) in
    elim (cases_lt k held) [
      | inl copied ↦
          (let same : at ≡ from = omega arith in
          let of_front : get_or (front ++ (zeros ++ others)) k 0 ≡ get_or front k 0 = get_or_append_left front (zeros ++ others) 0 k (omega arith) in
          let of_part : get_or front k 0 ≡ get_or file (from + k) 0 = rw front_is (get_or-take held (drop from file) k 0 copied ∙ get_or-drop from file k 0) in
          rw same (of_front ∙ of_part))
      | inr behind ↦
          (let of_rest : get_or (front ++ (zeros ++ others)) k 0 ≡ get_or (zeros ++ others) (k - held) 0 = get_or-append_right front (zeros ++ others) held k 0 long behind in
          let of_zeros : get_or (zeros ++ others) (k - held) 0 ≡ get_or zeros (k - held) 0 = get_or_append_left zeros others 0 (k - held) (omega arith) in
          let zero_is : get_or zeros (k - held) 0 ≡ 0 = rw zeros_are (get_or-replicate (len - held) (k - held) 0 0 (omega arith)) in
          let past : get_or file (at + k) 0 ≡ 0 = get_or_past file (at + k) 0 (omega arith) in
          of_rest ∙ of_zeros ∙ zero_is ∙ sym past)
    ]

-- the same of the slice that was written in two parts
written : (file was front zeros others : List ℕ) (at from held n k : ℕ) → from ≡ min at (length file) → held ≡ min (length was) (length file - from) → n ≡ held →
    front ≡ take n (drop from file) →
    zeros ≡ replicate (length (take (length (front ++ drop held was) - held) (drop held (front ++ drop held was)))) 0 →
    others ≡ drop (length (front ++ drop held was) - held) (drop held (front ++ drop held was)) →
    k < length (take held (front ++ drop held was) ++ (zeros ++ others)) →
    get_or (take held (front ++ drop held was) ++ (zeros ++ others)) k 0 ≡ get_or file (at + k) 0
written file was front zeros others at from held n k from_is held_is n_is front_is zeros_are others_are within =
    let front_of : front ≡ take held (drop from file) = rw n_is at front_is in
    let long : length front ≡ held = rw front_of (simp (length-take, length-drop) (omega arith)) in
    let rest_long : length (take (length (front ++ drop held was) - held) (drop held (front ++ drop held was))) ≡ length was - held =
    simp (length-take, length-drop, length-append) (omega arith) in
    let zeros_of : zeros ≡ replicate (length was - held) 0 = rw rest_long at zeros_are in
    let zeros_long : length zeros ≡ length was - held = rw zeros_of (length-replicate (length was - held) 0) in
    let none : length others ≡ 0 = rw others_are (simp (length-drop, length-append) (omega arith)) in
    let inside : k < length was = omega (arith, simp (length-append, length-take, length-drop) at within) in
    rw (take_at front (drop held was) held long) (filled file front zeros others at from held (length was) k from_is held_is front_of zeros_of inside)

pub returns : goal.returns
returns c =
    record {
      each = λ k within. written c.args.file.now c.args.run.now c.copy_from_slice.new.self c.fill.new.self _ c.args.at c.min-from.result c.min-held.result _ k
          (search rules) (search rules) (omega arith) c.copy_from_slice.ensures.after (c.fill.ensures.after (λ y is. is)) refl within;
    }
