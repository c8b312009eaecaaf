-- What holds of the table of every session.
use Rattle.std.specs.Prelude.{◌≡◌, ℕ, ◌<◌, ◌≤◌, ◌==◌, ◌&&◌, Bool, true, false, List, [], ◌∷◌, length, map, filter, fold, Some, None, if◌then◌else◌, Contains, find}
use Rattle.std.specs.List.{AllByRecursion, list_any}
use Rattle.mb_base.specs.Files.{File}
use Rattle.mb_base.specs.Number.{AreBytes}
use Rattle.mb_geom.specs.Description.{Description, IsGood}
use Rattle.mb_tables.specs.Tables.{RaptorTables, AreTables}
use Rattle.mb_alc.specs.Packet.{Packet}
use Rattle.mb_encoder.specs.Solutions.{Pair}
use Rattle.mb_way.specs.Way.{Way, is_in_range}
use Rattle.mb_way.specs.Ways.{has_ways, ways_of, AreWaysOf}
use Rattle.mb_way.specs.Determined.{is_block_determined}
use Rattle.mb_way.specs.Heard.{is_complete}
use Rattle.mb_life.specs.Life.{Life, start_life, way_in, kept_in, hear_in_block, hand_out, is_ready, is_damaged, bytes_of}
use Rattle.mb_machine.specs.Table.{Table, fresh, tick, life_of, change_life}
use Rattle.mb_machine.specs.Packets.{packet}
use Rattle.mb_machine.specs.SentSet.{SentSet, SentFile, IsSymbolOfFile, IsHonestPacket, IsSentFile}

-- the file that a life is handed out as
abbrev pub file_of : Life → File
file_of life = record { toi = life.toi; location = life.desc.location; bytes = bytes_of life }

-- the ready lives are handed out
abbrev pub handed_out : Life → Life
handed_out life = if is_ready life then hand_out life else life

abbrev pub with_hand_outs : Table → Table
with_hand_outs t = record t { lives = map handed_out t.lives }

-- A table that packets of a session led to, which are honest for what was sent, with its ready lives handed out now and
-- then.
pub data IsHeardHonestly (sent : SentSet) : Table → Type 0 where
  Fresh : (tsi : ℕ) (tables : RaptorTables) → AreTables tables → IsHeardHonestly sent (fresh tsi tables)
  Ticked : (t : Table) (at : ℕ) → IsHeardHonestly sent t → IsHeardHonestly sent (tick at t)
  Heard : (t : Table) (at : ℕ) (p : Packet) → IsHeardHonestly sent t → (p.lct.tsi ≡ t.tsi → IsHonestPacket t.tables sent p)
      → IsHeardHonestly sent (packet at p t).table
  HandedOut : (t : Table) → IsHeardHonestly sent t → IsHeardHonestly sent (with_hand_outs t)

-- Where what was heard is honest, no ready life is damaged, and its file is the one that was sent.
abbrev pub HonestFilesAreSent : Type 0
HonestFilesAreSent = (sent : SentSet) (t : Table) (life : Life) → IsHeardHonestly sent t → Contains t.lives life → is_ready life ≡ true
    → (is_damaged life ≡ false) × IsSentFile sent (file_of life)

-- Ready lives can be handed out one by one, the first one first.
pub record IsFirstReady (lives : List Life) (life : Life) : Type 0 where
  pub first : find is_ready lives ≡ Some life
  pub own : life_of life.toi lives ≡ Some life
  pub once : is_ready (hand_out life) ≡ false

-- the first ready life being handed out, the others stay ready, and all hand-outs lead to the same lives
pub record LeavesTheOthers (lives : List Life) (life : Life) : Type 0 where
  pub ready : filter is_ready lives ≡ life ∷ filter is_ready (change_life life.toi hand_out lives)
  pub after : map handed_out (change_life life.toi hand_out lives) ≡ map handed_out lives

abbrev pub ReadyOneByOne : Type 0
ReadyOneByOne = (lives : List Life) (life : Life) → IsFirstReady lives life → LeavesTheOthers lives life

-- where none is ready, none is handed out
abbrev pub NoneIsReady : Type 0
NoneIsReady = (lives : List Life) → find is_ready lives ≡ None → (filter is_ready lives ≡ []) × (map handed_out lives ≡ lives)

-- no life of a table stands whose expiry its clock has passed
abbrev pub NoneIsPast : Table → Type 0
NoneIsPast t = AllByRecursion (λ life. t.clock ≤ life.expires) t.lives

-- That holds once the clock has moved, and after each packet.
abbrev pub NoLifeIsPast : Type 0
NoLifeIsPast = (t : Table) (at : ℕ) → NoneIsPast (tick at t) × ((p : Packet) → NoneIsPast (packet at p t).table)

-- A life that was handed out isn't ready: its file is put once, and a damaged one waits for new symbols.
abbrev pub HandedOutOnce : Type 0
HandedOutOnce = (life : Life) → IsGood life.desc → AreWaysOf life.desc life.ways → is_ready life ≡ true → is_ready (hand_out life) ≡ false

-- ---- which symbols are heard decides, and not in which order

-- a symbol that is heard of a block
pub record HeardSymbol : Type 0 where
  pub sbn : ℕ
  pub pair : Pair

-- a life once these symbols were heard, in order
abbrev pub after_symbols : List HeardSymbol → Life → Life
after_symbols heard life = fold (λ (l : Life) (s : HeardSymbol). hear_in_block s.sbn (s.pair ∷ []) l) life heard

-- the ESIs of those of one block
abbrev pub esis_heard : ℕ → List HeardSymbol → List ℕ
esis_heard sbn heard = map (λ (s : HeardSymbol). s.pair.esi) (filter (λ (s : HeardSymbol). s.sbn == sbn) heard)

abbrev pub is_block_complete : ℕ → Life → Bool
is_block_complete sbn life = is_complete (way_in sbn life) (kept_in sbn life)

-- A block is complete exactly where the symbols that were heard of it determine it.
abbrev pub CompleteByHeard : Type 0
CompleteByHeard = (expires toi : ℕ) (d : Description) (ways : List Way) (heard : List HeardSymbol) (sbn : ℕ) → sbn < length ways
    → let life = start_life expires toi d ways in
    is_block_complete sbn (after_symbols heard life) ≡ is_block_determined (way_in sbn life) (filter (is_in_range (way_in sbn life)) (esis_heard sbn heard))

-- whether one of them is of the block and has the ESI
abbrev pub has_symbol : ℕ → ℕ → List HeardSymbol → Bool
has_symbol sbn esi heard = list_any (λ (s : HeardSymbol). (s.sbn == sbn) && (s.pair.esi == esi)) heard

-- the same blocks and ESIs were heard
abbrev pub HaveTheSame : List HeardSymbol → List HeardSymbol → Type 0
HaveTheSame one other = (sbn esi : ℕ) → has_symbol sbn esi one ≡ has_symbol sbn esi other

-- each is a symbol of the file
abbrev pub AreOfFile : RaptorTables → SentFile → List HeardSymbol → Type 0
AreOfFile tables file heard = AllByRecursion (λ (s : HeardSymbol). IsSymbolOfFile tables file s.sbn s.pair) heard

-- two lives of one file have the same complete blocks, and where they are ready their file is the sent one
pub record AreOfOneFile (file : SentFile) (one other : Life) : Type 0 where
  pub complete : (sbn : ℕ) → is_block_complete sbn one ≡ is_block_complete sbn other
  pub ready : is_ready one ≡ is_ready other
  pub first : is_ready one ≡ true → bytes_of one ≡ file.bytes
  pub second : is_ready other ≡ true → bytes_of other ≡ file.bytes

-- In whichever order symbols of a file are heard, and however often, which blocks are complete depends only on which
-- symbols they are, and so does the file.
abbrev pub TwoOrdersOneFile : Type 0
TwoOrdersOneFile = (tables : RaptorTables) (file : SentFile) (expires toi : ℕ) (one other : List HeardSymbol) → AreTables tables
    → IsGood file.desc → length file.bytes ≡ file.desc.length → AreBytes file.bytes → has_ways tables file.desc ≡ true
    → AreOfFile tables file one → AreOfFile tables file other → HaveTheSame one other
    → let life = start_life expires toi file.desc (ways_of tables file.desc) in
    AreOfOneFile file (after_symbols one life) (after_symbols other life)
