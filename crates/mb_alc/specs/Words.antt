-- The kinds of faults, and the words by which they are printed.
use Rattle.std.specs.Prelude.{ℕ, List, [], ◌∷◌, codes}
use Rattle.mb_lct.specs.declared.head.LctFault.TheVariants as lct
use Rattle.mb_alc.specs.declared.fault.ExtFault.TheVariants as ext
use Rattle.mb_alc.specs.declared.fault.PacketFault.{PacketFault}
use Rattle.mb_alc.specs.declared.fault.PacketFault.TheVariants.{Lct, Ext, CodePoint, NoPayloadId}
use Rattle.mb_alc.specs.declared.fault.FaultKind.{FaultKind}
use Rattle.mb_alc.specs.declared.fault.FaultKind.TheVariants as kind

abbrev pub kind_of : PacketFault → FaultKind
kind_of (Lct lct.Short) = kind.Short
kind_of (Lct (lct.Version v)) = kind.Version
kind_of (Lct lct.HeaderLength) = kind.HeaderLength
kind_of (Lct lct.NoTsi) = kind.NoTsi
kind_of (Ext (ext.Overrun place)) = kind.Overrun
kind_of (Ext (ext.ZeroLength place)) = kind.ZeroLength
kind_of (Ext (ext.FtiLength place)) = kind.FtiLength
kind_of (Ext (ext.FluteVersion v)) = kind.FluteVersion
kind_of (CodePoint cp) = kind.CodePoint
kind_of NoPayloadId = kind.NoPayloadId

-- all of them, in the order in which they are printed
abbrev pub kinds : List FaultKind
kinds = kind.Short ∷ kind.Version ∷ kind.HeaderLength ∷ kind.NoTsi ∷ kind.Overrun ∷ kind.ZeroLength ∷ kind.FtiLength
    ∷ kind.FluteVersion ∷ kind.CodePoint ∷ kind.NoPayloadId ∷ []

abbrev pub kind_word : FaultKind → List ℕ
kind_word kind.Short = codes "short"
kind_word kind.Version = codes "version"
kind_word kind.HeaderLength = codes "headerlength"
kind_word kind.NoTsi = codes "notsi"
kind_word kind.Overrun = codes "overrun"
kind_word kind.ZeroLength = codes "zerolength"
kind_word kind.FtiLength = codes "ftilength"
kind_word kind.FluteVersion = codes "fluteversion"
kind_word kind.CodePoint = codes "codepoint"
kind_word kind.NoPayloadId = codes "nopayloadid"

abbrev pub fault_word : PacketFault → List ℕ
fault_word fault = kind_word (kind_of fault)
