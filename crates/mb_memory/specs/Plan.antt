-- Which calls of an object in memory fail, and what it counts of them.
use Rattle.std.specs.Prelude.{◌≡◌, ℕ, ◌+◌, min, List, Bool, if◌then◌else◌, Contains, Result, OnOk, OnErr, IsErr}
use Rattle.mb_outside.specs.Outside.{count_most}
use Rattle.mb_memory.specs.declared.plan.Plan.{Plan}

-- a count stands still at the last value of its type
abbrev pub next_count : ℕ → ℕ
next_count n = min (n + 1) count_most

-- no call was made yet
abbrev pub new_plan : List ℕ → Plan
new_plan failing = record { failing = failing; calls = 0; listed = 0; refused = 0 }

-- one more call was made, a listed one or not
abbrev pub called : Plan → Bool → Plan
called plan listed = record plan { calls = next_count plan.calls; listed = (if listed then next_count plan.listed else plan.listed) }

-- the call found no room
abbrev pub refused_once : Plan → Plan
refused_once plan = record plan { refused = next_count plan.refused }

-- the call that was made last is a listed one
abbrev pub IsListed : Plan → Type 0
IsListed plan = Contains plan.failing plan.calls

-- the calls that failed: those that were listed, and those that found no room
abbrev pub faults_of : Plan → ℕ
faults_of plan = min (plan.listed + plan.refused) count_most

-- a listed call fails, and is counted as one
pub record IsListedCall {T E : Type 0} (old new : Plan) (result : Result T E) : Type 0 where
  pub fails : IsErr result
  pub listed : new.listed ≡ next_count old.listed
  pub refused : new.refused ≡ old.refused

-- any other call fails exactly where it found no room, and is counted as one that did
pub record IsOtherCall {T E : Type 0} (old new : Plan) (result : Result T E) : Type 0 where
  pub listed : new.listed ≡ old.listed
  pub failed : OnErr result (new.refused ≡ next_count old.refused)
  pub kept : OnOk result (new.refused ≡ old.refused)

-- one more call, which answers result
pub record Calls {T E : Type 0} (old new : Plan) (result : Result T E) : Type 0 where
  pub number : new.calls ≡ next_count old.calls
  pub failing : new.failing ≡ old.failing
  pub planned : IsListed new → IsListedCall old new result
  pub other : (IsListed new → ⊥) → IsOtherCall old new result

-- As Calls, of a call that looks for room where it is a listed one too: it may find none, and counts that.
pub record CallsForRoom {T E : Type 0} (old new : Plan) (result : Result T E) : Type 0 where
  pub number : new.calls ≡ next_count old.calls
  pub failing : new.failing ≡ old.failing
  pub planned : IsListed new → IsErr result
  pub counted : IsListed new → new.listed ≡ next_count old.listed
  pub other : (IsListed new → ⊥) → IsOtherCall old new result
