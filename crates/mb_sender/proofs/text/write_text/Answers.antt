use Rattle.std.proofs.Common.{◌∙◌, ◌+◌, Some, Ok, take, sym, ap}
use Rattle.mb_files.specs.declared.reading.SentFile.{SentFile}
use Rattle.mb_sender.proofs.Listing.{entries-none, entries-more, entries-described}
use Rattle.mb_sender.proofs.text.write_text.Goals as goal

pub loop-i-init : goal.loop-i-init
loop-i-init c = c.new-entries.ensures.items ∙ sym (entries-none 1)

pub loop-i-preserved : goal.loop-i-preserved
loop-i-preserved c =
    entries-more c.loop-i.i c.args.files.now c.index-files-i.result (record { toi = Some (c.loop-i.i + 1); entry = Ok c.in_ok-copy_of.field-0 })
    c.loop-i.entries.items c.push.new.self.items c.loop-i-test.true c.index-files-i.is
    (ap (λ d. record { toi = Some (c.loop-i.i + 1); entry = Ok d }) (c.in_ok-copy_of.ensures ∙ ap (λ (x : SentFile). x.desc) (sym c.index-files-i.is))) c.loop-i.invariant c.in_ok-push.ensures.items

pub write_fdt-requires : goal.write_fdt-requires
write_fdt-requires c = record {
  described =
      rw (c.from_vec.ensures, c.loop-i.invariant) (entries-described 1 (take c.loop-i.i c.args.files.now));
}
