use Rattle.mb_trace.proofs.NumberLemmas.{numbers_read_back, bytes_written_back, length-be_bytes, be_bytes-bytes, be_number-below}
use Rattle.mb_trace.proofs.number.numbers_are_read_back.Goals as goal

pub returns : goal.returns
returns c = record {
  read = numbers_read_back;
  written = bytes_written_back;
  width = length-be_bytes;
  bytes = be_bytes-bytes;
  below = be_number-below;
}
