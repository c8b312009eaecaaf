-- The table of the reasons for which an element is refused.
use Rattle.std.proofs.Common.{◌≡◌, ℕ, ◌&&◌, Bool, true, false, List, [], ◌∷◌, Option, Some, None, not, is_some, is_none, refl}
use Rattle.std.specs.Borrow.{Bor}
use Rattle.mb_fdt_text.specs.declared.fdt.FileFault.{FileFault}
use Rattle.mb_fdt_text.specs.declared.fdt.FileFault.TheVariants.{NoLocation, LongLocation, NoToi, BadNumber, BadMd5, BadInfo}
use Rattle.mb_fdt_text.specs.declared.fdt.Attr.TheVariants.{Toi, ContentLength, TransferLength, FecOtiFecEncodingId, FecOtiMaximumSourceBlockLength, FecOtiEncodingSymbolLength}
use Rattle.mb_fdt.specs.ValuesView.{value_of}

-- the reasons, each with whether its condition holds
unfoldable pub reasons : (no_location long no_toi toi content transfer id block symbol md5 info : Bool) → List (Bool × FileFault)
reasons no_location long no_toi toi content transfer id block symbol md5 info =
    (no_location, NoLocation) ∷ (long, LongLocation) ∷ (no_toi, NoToi) ∷ (toi, BadNumber Toi) ∷ (content, BadNumber ContentLength)
    ∷ (transfer, BadNumber TransferLength) ∷ (id, BadNumber FecOtiFecEncodingId) ∷ (block, BadNumber FecOtiMaximumSourceBlockLength)
    ∷ (symbol, BadNumber FecOtiEncodingSymbolLength) ∷ (md5, BadMd5) ∷ (info, BadInfo) ∷ []

pub same_reasons : (a b c d e f g h i j k a' b' c' d' e' f' g' h' i' j' k' : Bool) → a ≡ a' → b ≡ b' → c ≡ c' → d ≡ d' → e ≡ e' → f ≡ f' → g ≡ g' → h ≡ h'
    → i ≡ i' → j ≡ j' → k ≡ k' → reasons a b c d e f g h i j k ≡ reasons a' b' c' d' e' f' g' h' i' j' k'
same_reasons a b c d e f g h i j k a' b' c' d' e' f' g' h' i' j' k' ea eb ec ed ee ef eg eh ei ej ek = cc

pub is_none_value : (v : Option (Bor (List ℕ))) (r : Bool) → is_some v ≡ not r → r ≡ is_none (value_of v)
is_none_value None true e = refl
is_none_value None false e = cc
is_none_value (Some v) true e = cc
is_none_value (Some v) false e = refl

pub bad_is : {A : Type 0} (v : Option (Bor (List ℕ))) (r : Bool) (read found : Option A) → r ≡ (is_some (value_of v) && is_none read) → read ≡ found
    → r ≡ (is_some (value_of v) && is_none found)
bad_is v r read found e same = cc

pub bad_where_is : {A : Type 0} (v : Option (Bor (List ℕ))) (r used is_used : Bool) (read found : Option A) → r ≡ (used && (is_some (value_of v) && is_none read))
    → used ≡ is_used → read ≡ found → r ≡ (is_used && (is_some (value_of v) && is_none found))
bad_where_is v r used is_used read found e eu same = cc
