use Rattle.std.specs.Prelude.{ℕ, List}

-- a file as it was put: the object's number, the file's location, and its bytes
pub record File : Type 0 where
  pub toi : ℕ
  pub location : List ℕ
  pub bytes : List ℕ
