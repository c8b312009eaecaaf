use Rattle.std.proofs.Common.{ℕ}
use Rattle.mb_fdt_text.specs.Reader.{slot}
use Rattle.mb_fdt.specs.SlotsView.{slots_of}
use Rattle.mb_fdt.proofs.ValueLemmas.{value_is, value_of_first}
use Rattle.mb_fdt.proofs.values.said_in.Goals as goal

pub returns-clause-exact : goal.returns-clause-exact
returns-clause-exact c =
    let file = λ (k : ℕ). slot (slots_of c.args.file.now) k in
    let root = λ (k : ℕ). slot (slots_of c.args.root.now) k in
    let location = value_is c.of_file.result (file 0) c.of_file.ensures.exact in
    let toi = value_is c.of_file-2.result (file 1) c.of_file-2.ensures.exact in
    let content_length = value_is c.of_file-3.result (file 2) c.of_file-3.ensures.exact in
    let transfer_length = value_is c.of_file-4.result (file 3) c.of_file-4.ensures.exact in
    let encoding = value_is c.of_file-5.result (file 5) c.of_file-5.ensures.exact in
    let root_encoding = value_is c.of_root.result (root 3) c.of_root.ensures.exact in
    let md5 = value_is c.of_file-6.result (file 6) c.of_file-6.ensures.exact in
    let encoding_id = value_of_first c.first_of.result c.of_file-7.result c.of_root-2.result (file 7) (root 4) c.first_of.ensures c.of_file-7.ensures.exact c.of_root-2.ensures.exact in
    let max_block = value_of_first c.first_of-2.result c.of_file-8.result c.of_root-3.result (file 8) (root 5) c.first_of-2.ensures c.of_file-8.ensures.exact c.of_root-3.ensures.exact in
    let symbol = value_of_first c.first_of-3.result c.of_file-9.result c.of_root-4.result (file 9) (root 6) c.first_of-3.ensures c.of_file-9.ensures.exact c.of_root-4.ensures.exact in
    let info = value_of_first c.first_of-4.result c.of_file-10.result c.of_root-5.result (file 10) (root 7) c.first_of-4.ensures c.of_file-10.ensures.exact c.of_root-5.ensures.exact in
    λ i. record {
      location = location i;
      toi = toi i;
      content_length = content_length i;
      transfer_length = transfer_length i;
      encoding = encoding i;
      root_encoding = root_encoding i;
      md5 = md5 i;
      encoding_id = encoding_id i;
      max_block = max_block i;
      symbol = symbol i;
      info = info i;
    }
