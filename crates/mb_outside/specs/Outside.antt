-- What is told of an object of the outside, and when one of its calls may fail.
use Rattle.std.specs.Prelude.{◌≡◌, ℕ, ◌+◌, ◌-◌, ◌^◌, ◌<◌, ◌≤◌, min, List, [], ◌++◌, Option, Some, None, All, Result, OnOk, OnErr, ⊤}

-- the last value of a count, at which it stands still
abbrev pub count_most : ℕ
count_most = 2 ^ 64 - 1

-- A count rose. At its last value it may stand.
abbrev pub Rose : ℕ → ℕ → Type 0
Rose before now = min (before + 1) count_most ≤ now

-- A call fails only where the count of faults rose in it, and never lowers that count.
pub record HasCause {T E : Type 0} (before now : ℕ) (result : Result T E) : Type 0 where
  pub later : before ≤ now
  pub failed : OnErr result (Rose before now)
  pub kept : OnOk result (now ≡ before)

-- Content is told (Some) or not (None). A fact about content is owed where it is told, and what is told stays
-- told. Of untold content nothing is owed, so it may become told.

-- the content is as before
abbrev pub Stays : {A : Type 0} → Option A → Option A → Type 0
Stays None new = ⊤
Stays (Some x) None = ⊥
Stays (Some x) (Some y) = y ≡ x

-- the list grows by xs at its end
abbrev pub Grows : {A : Type 0} → Option (List A) → Option (List A) → List A → Type 0
Grows None new xs = ⊤
Grows (Some before) None xs = ⊥
Grows (Some before) (Some now) xs = now ≡ before ++ xs

-- the list loses xs at its front
abbrev pub Loses : {A : Type 0} → Option (List A) → Option (List A) → List A → Type 0
Loses None new xs = ⊤
Loses (Some before) None xs = ⊥
Loses (Some before) (Some now) xs = before ≡ xs ++ now

-- the told content is related to the new one
abbrev pub Becomes : {A : Type 0} → Option A → Option A → (A → A → Type 0) → Type 0
Becomes None new R = ⊤
Becomes (Some x) None R = ⊥
Becomes (Some x) (Some y) R = R x y

-- no byte is left
abbrev pub EndsAt : {A : Type 0} → Option (List A) → Type 0
EndsAt None = ⊤
EndsAt (Some xs) = xs ≡ []

-- each is a byte
abbrev pub AreBytes : List ℕ → Type 0
AreBytes bytes = All (λ byte. byte < 256) bytes

-- what is told is bytes
abbrev pub AreToldBytes : Option (List ℕ) → Type 0
AreToldBytes None = ⊤
AreToldBytes (Some bytes) = AreBytes bytes
