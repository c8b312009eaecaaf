-- What the values of the code stand for in the definitions.
use Rattle.std.specs.Prelude.{ℕ, take}
use Rattle.mb_xml.specs.declared.value_state.Inside.{Inside as ReadInside}
use Rattle.mb_xml.specs.declared.value_state.Inside.TheVariants.{Plain as ReadPlain, Named as ReadNamed, Numbered as ReadNumbered, Digits as ReadDigits}
use Rattle.mb_xml.specs.declared.value_state.Radix.{Radix}
use Rattle.mb_xml.specs.declared.value_state.Radix.TheVariants.{Decimal, Hexadecimal}
use Rattle.mb_xml.specs.Reference.{Inside}
use Rattle.mb_xml.specs.Reference.Inside.{Plain, Named, Numbered, Digits}

-- how many digits there are
abbrev pub radix_of : Radix → ℕ
radix_of Decimal = 10
radix_of Hexadecimal = 16

-- where a reader of a value stands
abbrev pub inside_of : ReadInside → Inside
inside_of ReadPlain = Plain
inside_of (ReadNamed bytes count) = Named (take count bytes)
inside_of ReadNumbered = Numbered
inside_of (ReadDigits radix number) = Digits (radix_of radix) number
