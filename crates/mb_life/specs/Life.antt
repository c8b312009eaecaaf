-- The life of a file: one TOI under one description, what was heard of it, and the file that follows.
use Rattle.std.specs.Prelude.{ℕ, max, ◌==◌, ◌&&◌, Bool, true, false, not, bytes_eq, if◌then◌else◌, List, [], Option, Some, None}
use Rattle.md5.specs.Md5.{md5}
use Rattle.mb_geom.specs.Description.{Description}
use Rattle.mb_encoder.specs.Solutions.{Pair}
use Rattle.mb_way.specs.Way.{Way}
use Rattle.mb_file.specs.File.{nothing_kept, way_at, kept_at, hear_in, are_complete, file_bytes, missing_in}
use Rattle.mb_file.specs.Memory as memory

pub record Life : Type 0 where
  pub toi : ℕ
  pub desc : Description
  -- the NTP second up to which it stands
  pub expires : ℕ
  -- of each block its way; none once the file was handed out
  pub ways : List Way
  -- of each block the pairs that are kept
  pub kept : List (List Pair)
  -- whether its file was handed out
  pub done : Bool

-- a life of which nothing was heard, whose blocks have these ways
abbrev pub start_life : ℕ → ℕ → Description → List Way → Life
start_life expires toi d ways = record { toi = toi; desc = d; expires = expires; ways = ways; kept = nothing_kept ways; done = false }

abbrev pub prolong : ℕ → Life → Life
prolong expires life = record life { expires = max life.expires expires }

-- ---- hearing

-- the way of a block, and what is kept of it
abbrev pub way_in : ℕ → Life → Way
way_in sbn life = way_at life.ways sbn

abbrev pub kept_in : ℕ → Life → List Pair
kept_in sbn life = kept_at life.kept sbn

-- these symbols are heard in a block, in order: those of a packet, or of another answer
abbrev pub hear_in_block : ℕ → List Pair → Life → Life
hear_in_block sbn pairs life = record life { kept = hear_in life.ways sbn pairs life.kept }

-- ---- the file

-- the bytes have this digest, where one is given
abbrev pub has_digest : Option (List ℕ) → List ℕ → Bool
has_digest None bytes = true
has_digest (Some given) bytes = bytes_eq given (md5 bytes)

-- An empty file with another digest than that of no bytes is never received.
abbrev pub is_wrongly_empty : Description → Bool
is_wrongly_empty d = (d.length == 0) && not (has_digest d.md5 [])

-- A life is ready where its file wasn't handed out and each block is determined.
abbrev pub is_ready : Life → Bool
is_ready life = not life.done && (not (is_wrongly_empty life.desc) && are_complete life.ways life.kept)

-- the bytes of the file of a ready life
abbrev pub bytes_of : Life → List ℕ
bytes_of life = file_bytes life.desc life.ways life.kept

-- its bytes have another digest than its description
abbrev pub is_damaged : Life → Bool
is_damaged life = not (has_digest life.desc.md5 (bytes_of life))

-- the ways that a life has once it was handed out: where its file is damaged, it goes on
abbrev pub ways_left : Life → List Way
ways_left life = if is_damaged life then life.ways else []

-- A ready life is handed out, and keeps nothing.
abbrev pub hand_out : Life → Life
hand_out life = record life { ways = ways_left life; kept = nothing_kept (ways_left life); done = not (is_damaged life) }

-- how many symbols of the blocks aren't kept
abbrev pub missing : Life → ℕ
missing life = if life.done then 0 else missing_in life.ways life.kept

-- the bytes of the buffers, at least
abbrev pub held : Life → ℕ
held life = memory.held (record { ways = life.ways; symbol = life.desc.symbol; kept = life.kept })
