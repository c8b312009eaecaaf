-- Values of attributes that are texts.
use Rattle.std.specs.Prelude.{ℕ, Bool, List, [], Option, unwrap_or}
use Rattle.std.specs.List.{list_all}
use Rattle.std.specs.Str.{is_utf8}

abbrev pub are_texts : List (Option (List ℕ)) → Bool
are_texts values = list_all (λ value. is_utf8 (unwrap_or value [])) values
