-- The slots of the attributes that are read, by the places of their names in root_names and file_names.
use Rattle.std.specs.Prelude.{ℕ}
use Rattle.mb_fdt.specs.declared.known.RootAttribute.{RootAttribute}
use Rattle.mb_fdt.specs.declared.known.RootAttribute.TheVariants as root
use Rattle.mb_fdt.specs.declared.known.FileAttribute.{FileAttribute}
use Rattle.mb_fdt.specs.declared.known.FileAttribute.TheVariants as file

abbrev pub root_slot : RootAttribute → ℕ
root_slot root.Expires = 0
root_slot root.Complete = 1
root_slot root.ContentType = 2
root_slot root.ContentEncoding = 3
root_slot root.EncodingId = 4
root_slot root.MaxBlock = 5
root_slot root.Symbol = 6
root_slot root.Info = 7

abbrev pub file_slot : FileAttribute → ℕ
file_slot file.Location = 0
file_slot file.Toi = 1
file_slot file.ContentLength = 2
file_slot file.TransferLength = 3
file_slot file.ContentType = 4
file_slot file.ContentEncoding = 5
file_slot file.Md5 = 6
file_slot file.EncodingId = 7
file_slot file.MaxBlock = 8
file_slot file.Symbol = 9
file_slot file.Info = 10
