-- The lines that each program prints. Each ends with a line feed, numbers are decimal without leading zeros.
use Rattle.std.specs.Prelude.{ℕ, List, [], ◌++◌, codes, decimal}
use Rattle.mb_tables.specs.declared.fault.TablesFault.{TablesFault}
use Rattle.mb_tables.specs.declared.fault.TablesFault.TheVariants.{Magic, Truncated, Order, Range, Trailing, SourceFault, Memory}

-- of arguments that are refused
abbrev pub usage : List ℕ
usage = codes "usage\n"

-- of a trace that ends inside a record whose first byte is at this offset
abbrev pub broken : ℕ → List ℕ
broken place = codes "broken " ++ (decimal place ++ codes "\n")

-- Of a tables file that is refused: the number of the fault, and where it is. A fault that is none of its bytes has no line.
abbrev pub refused_tables : TablesFault → List ℕ
refused_tables Magic = codes "tables 1\n"
refused_tables (Truncated place) = codes "tables 2 " ++ (decimal place ++ codes "\n")
refused_tables (Order row) = codes "tables 3 " ++ (decimal row ++ codes "\n")
refused_tables (Range row field) = codes "tables 4 " ++ (decimal row ++ (codes " " ++ (decimal field ++ codes "\n")))
refused_tables Trailing = codes "tables 5\n"
refused_tables SourceFault = []
refused_tables Memory = []
