-- How a life stands in memory: the blocks of its file, and none once the file was handed out.
use Rattle.std.specs.Prelude.{◌≡◌, Bool, true, false, []}
use Rattle.mb_geom.specs.Description.{Description, IsGood}
use Rattle.mb_file.specs.File.{File, nothing_of, IsFileOf}

pub record Stands (d : Description) (file : File) (done : Bool) : Type 0 where
  pub good : IsGood d
  pub file_is : done ≡ false → IsFileOf d file
  pub freed : done ≡ true → file ≡ nothing_of 0 []
