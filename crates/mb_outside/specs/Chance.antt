use Rattle.std.specs.Prelude.{◌≡◌, ℕ, List, [], ◌∷◌}

-- the word is the first of the list, which loses it; with none left it is 0
abbrev pub Draws : ℕ → List ℕ → List ℕ → Type 0
Draws word [] new = (word ≡ 0) × (new ≡ [])
Draws word (first ∷ others) new = (word ≡ first) × (new ≡ others)
