-- The description of a file by a layout.
use Rattle.std.specs.Prelude.{ℕ, false, List, length, Some, Result}
use Rattle.md5.specs.Md5.{md5}
use Rattle.mb_geom.specs.Description.{Description, described}
use Rattle.mb_geom.specs.declared.desc.DescParts.{DescParts}
use Rattle.mb_geom.specs.declared.desc.DescFault.{DescFault}
use Rattle.mb_files.specs.declared.describing.Layout.{Layout}

-- what is said of the file with these bytes at this location: they are not encoded, both lengths are their number, the
-- layout says how they are cut, and the MD5 is theirs
abbrev pub parts_of : Layout → List ℕ → List ℕ → DescParts
parts_of layout location bytes = record {
  location = location;
  content_length = Some (length bytes);
  transfer_length = Some (length bytes);
  encoded = false;
  symbol = Some layout.symbol;
  scheme = Some layout.scheme;
  md5 = Some (md5 bytes);
}

-- the description that this makes, or its first fault
unfoldable pub described_by : Layout → List ℕ → List ℕ → Result Description DescFault
described_by layout location bytes = described (parts_of layout location bytes)

-- the description that it makes where it has no fault
abbrev pub description_by : Layout → List ℕ → List ℕ → Description
description_by layout location bytes = record {
  location = location;
  length = length bytes;
  symbol = layout.symbol;
  scheme = layout.scheme;
  md5 = Some (md5 bytes);
}
