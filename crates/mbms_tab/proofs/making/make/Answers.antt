use Rattle.std.proofs.Common.{map, string_bytes, subst}
use Rattle.mbms_tab.specs.Forms.{size_of}
use Rattle.mbms_tab.specs.Parts.{IsMakingFile}
use Rattle.mbms_tab.proofs.MakeLemmas.{made_part}
use Rattle.mbms_tab.proofs.making.make.Goals as goal

pub returns-clause-made : goal.returns-clause-made
returns-clause-made g c =
    let ks = map size_of (map string_bytes c.args.texts.now) in
    let part = c.in-Err-write_all.ensures.part in
    made_part ks c.in-Some.file.items c.deref.result.now part.0 _ _ (subst (IsMakingFile ks) c.in-Some.is c.in-Ok.ensures) c.deref.ensures.value part.2
