use Rattle.std.proofs.Common.{◌≡◌, ◌+◌, ◌<◌, ◌≤◌, ◌%◌, ◌/◌, max, length, slice_index, sum, take, min, arith, sym, ap, ◌∙◌}
use Rattle.mb_geom.specs.Partition.{sizes_of}
use Rattle.mb_geom.specs.Description.{symbols, block_sizes, block_count, block_size, tail}
use Rattle.mb_geom.proofs.PartitionLemmas.{ceiling-from}
use Rattle.mb_alc.specs.PacketView.{body_seen}
use Rattle.mb_window.specs.Symbols.{place_of, symbol_count}
use Rattle.mb_window.proofs.RefusalLemmas.{refused-symbol, refused-length, refused-none, good-length, bytes-from, length-says}
use Rattle.mb_window.proofs.geometry.Geometry.run_of.Goals as goal

pub returns-then-esi-max-clause-refused : goal.returns-then-esi-max-clause-refused
returns-then-esi-max-clause-refused c =
    let d = c.args.self.now in
    let body = body_seen c.args.body.now in
    let some : 0 < d.symbol = omega (arith, c.symbol.ensures.exact, c.symbol.ensures.some) in
    let count : c.div_ceil-count.result ≡ symbol_count d body =
    sym (ceiling-from (length body.payload) d.symbol c.symbol.result c.div_ceil-count.result some c.symbol.ensures.exact c.div_ceil-count.ensures) in
    let there : body.sbn < block_count d = omega (arith, c.blocks-blocks.ensures.count, c.if-sbn-blocks.false, c.from-sbn.ensures) in
    let size : block_size d body.sbn ≡ c.size_of.result =
    ap (λ sizes. slice_index sizes body.sbn) c.blocks-blocks.ensures.exact
    ∙ ap (slice_index (sizes_of c.blocks-blocks.result)) (sym c.from-sbn.ensures) ∙ sym c.size_of.ensures in
    let past : block_size d body.sbn < body.esi + max (symbol_count d body) 1 = omega (arith, size, count, c.max.ensures, c.if-esi-max.true, c.from-esi.ensures) in
    refused-symbol d body there past

pub returns-then-not-is_good_length-clause-refused : goal.returns-then-not-is_good_length-clause-refused
returns-then-not-is_good_length-clause-refused c =
    let d = c.args.self.now in
    let body = body_seen c.args.body.now in
    let some : 0 < d.symbol = omega (arith, c.symbol.ensures.exact, c.symbol.ensures.some) in
    let count : c.div_ceil-count.result ≡ symbol_count d body =
    sym (ceiling-from (length body.payload) d.symbol c.symbol.result c.div_ceil-count.result some c.symbol.ensures.exact c.div_ceil-count.ensures) in
    let there : body.sbn < block_count d = omega (arith, c.blocks-blocks.ensures.count, c.if-sbn-blocks.false, c.from-sbn.ensures) in
    let size : block_size d body.sbn ≡ c.size_of.result =
    ap (λ sizes. slice_index sizes body.sbn) c.blocks-blocks.ensures.exact
    ∙ ap (slice_index (sizes_of c.blocks-blocks.result)) (sym c.from-sbn.ensures) ∙ sym c.size_of.ensures in
    let before : sum (take body.sbn (block_sizes d)) ≡ c.things_before.result =
    ap (λ sizes. sum (take body.sbn sizes)) c.blocks-blocks.ensures.exact
    ∙ ap (λ k. sum (take k (sizes_of c.blocks-blocks.result))) (sym c.from-sbn.ensures) ∙ sym c.things_before.ensures.exact in
    let end : c.things_before.result + c.from-esi.result + c.div_ceil-count.result ≡ place_of d body.sbn body.esi + symbol_count d body =
    omega (arith, before, count, c.from-esi.ensures) in
    let within : body.esi + max (symbol_count d body) 1 ≤ block_size d body.sbn = omega (arith, size, count, c.max.ensures, c.if-esi-max.false, c.from-esi.ensures) in
    let good = good-length d body (c.things_before.result + c.from-esi.result + c.div_ceil-count.result) c.is_good_length.result end c.is_good_length.ensures in
    refused-length d body there within (good ∙ c.if-not-is_good_length.true)

pub returns-clause-found : goal.returns-clause-found
returns-clause-found c =
    let d = c.args.self.now in
    let body = body_seen c.args.body.now in
    let some : 0 < d.symbol = omega (arith, c.symbol.ensures.exact, c.symbol.ensures.some) in
    let count : c.div_ceil-count.result ≡ symbol_count d body =
    sym (ceiling-from (length body.payload) d.symbol c.symbol.result c.div_ceil-count.result some c.symbol.ensures.exact c.div_ceil-count.ensures) in
    let there : body.sbn < block_count d = omega (arith, c.blocks-blocks.ensures.count, c.if-sbn-blocks.false, c.from-sbn.ensures) in
    let size : block_size d body.sbn ≡ c.size_of.result =
    ap (λ sizes. slice_index sizes body.sbn) c.blocks-blocks.ensures.exact
    ∙ ap (slice_index (sizes_of c.blocks-blocks.result)) (sym c.from-sbn.ensures) ∙ sym c.size_of.ensures in
    let before : sum (take body.sbn (block_sizes d)) ≡ c.things_before.result =
    ap (λ sizes. sum (take body.sbn sizes)) c.blocks-blocks.ensures.exact
    ∙ ap (λ k. sum (take k (sizes_of c.blocks-blocks.result))) (sym c.from-sbn.ensures) ∙ sym c.things_before.ensures.exact in
    let end : c.things_before.result + c.from-esi.result + c.div_ceil-count.result ≡ place_of d body.sbn body.esi + symbol_count d body =
    omega (arith, before, count, c.from-esi.ensures) in
    let within : body.esi + max (symbol_count d body) 1 ≤ block_size d body.sbn = omega (arith, size, count, c.max.ensures, c.if-esi-max.false, c.from-esi.ensures) in
    let good = good-length d body (c.things_before.result + c.from-esi.result + c.div_ceil-count.result) c.is_good_length.result end c.is_good_length.ensures in
    refused-none d body there within (good ∙ c.if-not-is_good_length.false)

pub returns-clause-count : goal.returns-clause-count
returns-clause-count c =
    let d = c.args.self.now in
    let body = body_seen c.args.body.now in
    let some : 0 < d.symbol = omega (arith, c.symbol.ensures.exact, c.symbol.ensures.some) in
    let count : c.div_ceil-count.result ≡ symbol_count d body =
    sym (ceiling-from (length body.payload) d.symbol c.symbol.result c.div_ceil-count.result some c.symbol.ensures.exact c.div_ceil-count.ensures) in
    count

pub returns-clause-bytes : goal.returns-clause-bytes
returns-clause-bytes c =
    let d = c.args.self.now in
    let len = length c.args.body.now.payload.now in
    let some : 0 < d.symbol = omega (arith, c.symbol.ensures.exact, c.symbol.ensures.some) in
    let count : c.div_ceil-count.result ≡ len / d.symbol + min 1 (len % d.symbol) = rw c.symbol.ensures.exact at c.div_ceil-count.ensures in
    bytes-from len d.symbol (len / d.symbol) (len % d.symbol) c.div_ceil-count.result (c.things_before.result + c.from-esi.result) d.length (symbols d)
    (omega (arith, some)) count
    (length-says len d.symbol (c.things_before.result + c.from-esi.result + c.div_ceil-count.result) (symbols d) (tail d)
    (sym c.is_good_length.ensures ∙ c.if-not-is_good_length.false))
