use Rattle.mb_lct.proofs.ReadLemmas.{headers_found, header_faults_first}
use Rattle.mb_lct.proofs.WriteLemmas.{headers_written, headers_read_back, words_fewest, headers_short}
use Rattle.mb_lct.proofs.law.lct_headers_are_read.Goals as goal

pub returns : goal.returns
returns c = record { found = headers_found; faults = header_faults_first; written = headers_written; read_back = headers_read_back; fewest = words_fewest; short = headers_short }
