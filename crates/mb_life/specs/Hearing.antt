-- What a life hears of a payload.
use Rattle.std.specs.Prelude.{◌≡◌, ℕ, ◌+◌, ◌<◌, ◌≤◌, false, List}
use Rattle.mb_geom.specs.Partition.{ceiling}
use Rattle.mb_geom.specs.Description.{block_count}
use Rattle.mb_file.specs.File.{payload_pairs}
use Rattle.mb_life.specs.Life.{Life, hear_in_block}

-- the life's file was not handed out, it has the block, and no symbol of so many bytes has an ESI of more than 16 bits
pub record CanHear (life : Life) (sbn esi len : ℕ) : Type 0 where
  pub live : life.done ≡ false
  pub block : sbn < block_count life.desc
  pub within : esi + ceiling len life.desc.symbol ≤ 65536

-- the symbols of a payload, the first of which has this ESI, are heard in a block
abbrev pub hear_payload : ℕ → ℕ → List ℕ → Life → Life
hear_payload sbn esi payload life = hear_in_block sbn (payload_pairs life.desc.symbol esi payload) life
