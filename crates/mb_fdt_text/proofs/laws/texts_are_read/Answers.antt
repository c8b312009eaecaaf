use Rattle.mb_fdt_text.proofs.Texts.{texts_read}
use Rattle.mb_fdt_text.proofs.FaultsFound.{faults_found}
use Rattle.mb_fdt_text.proofs.ShownFirst.{faults_shown, utf8_shown}
use Rattle.mb_fdt_text.proofs.WrittenTexts.{written_text, written_read}
use Rattle.mb_fdt_text.proofs.Limits.{texts_within}
use Rattle.mb_fdt_text.proofs.laws.texts_are_read.Goals as goal

pub returns : goal.returns
returns c = record {
  read = texts_read;
  found = faults_found;
  shown = faults_shown;
  utf8 = utf8_shown;
  text = written_text;
  written = written_read;
  within = texts_within;
}
