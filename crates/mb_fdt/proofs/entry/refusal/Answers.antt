use Rattle.std.proofs.Common.{ℕ, ◌||◌, nat_lt, Option, ap, ◌∙◌}
use Rattle.mb_fdt_text.specs.Entry.{first_refusal}
use Rattle.mb_fdt.specs.ValuesView.{said_of}
use Rattle.mb_fdt.specs.EntryView.{is_id}
use Rattle.mb_fdt.proofs.RefusalLemmas.{reasons, same_reasons, is_none_value, bad_is, bad_where_is}
use Rattle.mb_fdt.proofs.entry.refusal.Goals as goal

pub returns : goal.returns
unfolding reasons
returns c =
    let given = c.args.said.now in
    let s = said_of given in
    let no_location = is_none_value given.location c.is_none.result c.is_none.ensures in
    let long = ap (λ (n : ℕ). nat_lt 2048 n) c.requires.location_length in
    let no_toi = is_none_value given.toi c.is_none-2.result c.is_none-2.ensures in
    let toi = bad_is given.toi _ _ _ c.is_bad.ensures c.requires.toi in
    let content = bad_is given.content_length _ _ _ c.is_bad-2.ensures c.requires.content_length in
    let transfer = bad_is given.transfer_length _ _ _ c.is_bad-3.ensures c.requires.transfer_length in
    let id = bad_is given.encoding_id _ _ _ c.is_bad-4.ensures c.requires.encoding_id in
    let no_code = c.is_id.ensures ∙ ap (λ (n : Option ℕ). is_id 0 n) c.requires.encoding_id in
    let raptor = c.is_id-2.ensures ∙ ap (λ (n : Option ℕ). is_id 1 n) c.requires.encoding_id in
    let scheme = c.has_scheme.ensures ∙ ap (λ (n : Option ℕ). is_id 0 n || is_id 1 n) c.requires.encoding_id in
    let block = bad_where_is given.max_block _ _ _ _ _ c.is_bad_where-block.ensures no_code c.requires.max_block in
    let symbol = bad_where_is given.symbol _ _ _ _ _ c.is_bad_where-symbol.ensures scheme c.requires.symbol in
    let md5 = bad_is given.md5 _ _ _ c.is_bad-5.ensures c.requires.md5 in
    let info = bad_where_is given.info _ _ _ _ _ c.is_bad_where-info.ensures raptor c.requires.info in
    c.first_fault.ensures
    ∙ ap first_refusal (same_reasons _ _ _ _ _ _ _ _ _ _ _ _ _ _ _ _ _ _ _ _ _ _ no_location long no_toi toi content transfer id block symbol md5 info)
