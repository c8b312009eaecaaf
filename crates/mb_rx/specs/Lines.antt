-- The lines that the receiver prints. Each ends with a line feed, numbers are decimal without leading zeros.
use Rattle.std.specs.Prelude.{ℕ, ◌/◌, ◌%◌, ◌==◌, ◌+◌, ◌||◌, nat_lt, if◌then◌else◌, List, [], ◌∷◌, ◌++◌, flat_map, codes, decimal}
use Rattle.mb_fdt_text.specs.declared.fdt.FdtFault.{FdtFault}
use Rattle.mb_fdt_text.specs.declared.fdt.FdtKind.{FdtKind}
use Rattle.mb_fdt_text.specs.declared.fdt.FdtKind.TheVariants.{NotUtf8, Syntax, Forbidden, Depth, NoExpires, BadExpires, RepeatedAttribute, TooManyFiles}
use Rattle.mb_rx.specs.declared.cause.Cause.{Cause}
use Rattle.mb_rx.specs.declared.cause.Cause.TheVariants.{Quiet, Ended, Closed, Limit}
use Rattle.mb_machine.specs.declared.report.InstanceReport.{InstanceReport}
use Rattle.mb_machine.specs.declared.reason.Reason.{Reason}
use Rattle.mb_machine.specs.declared.reason.Reason.TheVariants as reason

-- one of sixteen digits, in upper case
abbrev pub hex_digit : ℕ → ℕ
hex_digit n = if nat_lt n 10 then 48 + n else 55 + n

-- a byte of a location: as it is where it is visible ASCII and no percent sign, else by two digits
abbrev pub location_byte : ℕ → List ℕ
location_byte b =
    if nat_lt b 0x21 || nat_lt 0x7e b || (b == 0x25) then 0x25 ∷ hex_digit (b / 16) ∷ hex_digit (b % 16) ∷ []
    else b ∷ []

abbrev pub location_text : List ℕ → List ℕ
location_text location = flat_map location_byte location

-- the entries that started and prolonged no life
unfoldable pub others : InstanceReport → List ℕ
others r = codes "conflicting " ++ (decimal r.conflicting ++ (codes " refused " ++ (decimal r.refused
    ++ (codes " norow " ++ (decimal r.norow ++ (codes " full " ++ decimal r.full))))))

abbrev pub instance : ℕ → InstanceReport → List ℕ
instance id r = codes "fdt " ++ (decimal id ++ (codes " started " ++ (decimal r.started
    ++ (codes " prolonged " ++ (decimal r.prolonged ++ (codes " " ++ (others r ++ codes "\n")))))))

-- the kinds of fault of a text, as they are numbered in its line
abbrev pub fault_number : FdtKind → ℕ
fault_number NotUtf8 = 1
fault_number Syntax = 2
fault_number Forbidden = 3
fault_number Depth = 4
fault_number NoExpires = 5
fault_number BadExpires = 6
fault_number RepeatedAttribute = 7
fault_number TooManyFiles = 8

abbrev pub bad_instance : ℕ → FdtFault → List ℕ
bad_instance id fault = codes "fdt " ++ (decimal id ++ (codes " fault " ++ (decimal (fault_number fault.kind)
    ++ (codes " at " ++ (decimal fault.place ++ codes "\n")))))

abbrev pub late_instance : ℕ → List ℕ
late_instance id = codes "fdt " ++ (decimal id ++ codes " late\n")

abbrev pub stored : ℕ → ℕ → List ℕ → List ℕ
stored toi len location = codes "stored " ++ (decimal toi ++ (codes " " ++ (decimal len ++ (codes " " ++ (location_text location ++ codes "\n")))))

-- a digest's bytes, each by two digits in lower case
abbrev pub small_hex_digit : ℕ → ℕ
small_hex_digit n = if nat_lt n 10 then 48 + n else 87 + n

abbrev pub digest_text : List ℕ → List ℕ
digest_text digest = flat_map (λ b. small_hex_digit (b / 16) ∷ small_hex_digit (b % 16) ∷ []) digest

abbrev pub damaged : ℕ → List ℕ → List ℕ → List ℕ
damaged toi given found = codes "damaged " ++ (decimal toi ++ (codes " " ++ (digest_text given ++ (codes " " ++ (digest_text found ++ codes "\n")))))

abbrev pub cause_word : Cause → List ℕ
cause_word Quiet = codes "quiet"
cause_word Ended = codes "ended"
cause_word Closed = codes "closed"
cause_word Limit = codes "limit"

abbrev pub end : Cause → ℕ → ℕ → List ℕ
end cause moment datagrams = codes "end " ++ (cause_word cause ++ (codes " " ++ (decimal moment
    ++ (codes " datagrams " ++ (decimal datagrams ++ codes "\n")))))

abbrev pub expired : ℕ → List ℕ
expired n = codes "expired " ++ (decimal n ++ codes "\n")

abbrev pub reason_word : Reason → List ℕ
reason_word reason.Closed = codes "closed"
reason_word reason.OtherSession = codes "othersession"
reason_word reason.NoToi = codes "notoi"
reason_word reason.NoBody = codes "nobody"
reason_word reason.FdtWithoutIds = codes "fdtwithoutids"
reason_word reason.FdtEncoded = codes "fdtencoded"
reason_word reason.FdtShape = codes "fdtshape"
reason_word reason.Unknown = codes "unknown"
reason_word reason.FtiDiffers = codes "ftidiffers"
reason_word reason.CodePointDiffers = codes "codepointdiffers"
reason_word reason.Block = codes "block"
reason_word reason.Symbol = codes "symbol"
reason_word reason.Length = codes "length"
reason_word reason.Done = codes "done"

abbrev pub dropped : List ℕ → ℕ → List ℕ
dropped word n = codes "dropped " ++ (word ++ (codes " " ++ (decimal n ++ codes "\n")))

abbrev pub incomplete : ℕ → ℕ → List ℕ
incomplete toi missing = codes "incomplete " ++ (decimal toi ++ (codes " " ++ (decimal missing ++ codes "\n")))
