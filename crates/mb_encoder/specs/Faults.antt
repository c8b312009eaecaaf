-- Faults of a code as faults of an encoder.
use Rattle.mb_rows.specs.declared.fault.CodeFault.{CodeFault}
use Rattle.mb_rows.specs.declared.fault.CodeFault.TheVariants as code
use Rattle.mb_encoder.specs.declared.fault.EncodeFault.{EncodeFault}
use Rattle.mb_encoder.specs.declared.fault.EncodeFault.TheVariants as encode

abbrev pub encode_fault : CodeFault → EncodeFault
encode_fault (code.NoRow k) = encode.NoRow k
encode_fault code.Memory = encode.Memory
