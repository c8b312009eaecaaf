use Rattle.std.proofs.Common.{◌≡◌, ◌≤◌, ◌-◌, List, ℕ, ◌∷◌, length, drop, take, get_or, sym, ◌∙◌, ap, arith}
use Rattle.mb_xml.specs.CharactersView.{left}
use Rattle.mb_xml.specs.Reference.{replaced}
use Rattle.mb_xml.proofs.CharacterLemmas.{left_spent, gives_character, replaced_empty, first_ampersand, first_other, given_all}
use Rattle.mb_xml.proofs.characters.CharacterBytes.next.Goals as goal

pub returns-in-empty : goal.returns-in-empty
returns-in-empty c =
    let spent = left_spent c.args.self.now c.next_of_reference.new.self c.in_default.ensures.none c.in_default.ensures.same in
    let empty = replaced_empty c.next_of_reference.new.self.behind.now c.in-empty.len_below in
    (spent.0 ∙ empty, spent.1 ∙ empty)

pub returns-in-38 : goal.returns-in-38
returns-in-38 c =
    let behind : List ℕ = c.next_of_reference.new.self.behind.now in
    let first : get_or behind 0 0 ≡ 38 = grind arith in
    let spent = left_spent c.args.self.now c.next_of_reference.new.self c.in_default.ensures.none c.in_default.ensures.same in
    let whole : left c.args.self.now ≡ left c.behind_ampersand.result = spent.0 ∙ first_ampersand behind c.in-38.len_at_least first ∙ sym c.behind_ampersand.ensures.exact in
    rw whole (gives_character c.behind_ampersand.result c.next_of_reference-in-38.new.self c.next_of_reference-in-38.result
    c.next_of_reference-in-38.ensures.some c.next_of_reference-in-38.ensures.none c.next_of_reference-in-38.ensures.same c.behind_ampersand.ensures.spent)

pub returns-in-len1-up : goal.returns-in-len1-up
returns-in-len1-up c =
    let read = c.next_of_reference.new.self in
    let behind : List ℕ = read.behind.now in
    let first : get_or behind 0 0 ≡ 38 → ⊥ = grind arith in
    let none : read.count ≤ read.given = rw c.in_default.ensures.same c.in_default.ensures.none in
    let spent = left_spent c.args.self.now read c.in_default.ensures.none c.in_default.ensures.same in
    spent.0 ∙ first_other behind c.in-len1-up.len_at_least first
    ∙ ap (λ (xs : List ℕ). get_or behind 0 0 ∷ xs) (sym (given_all read.character (replaced (take (length behind - 1) (drop 1 behind))) read.given read.count none))
