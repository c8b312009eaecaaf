use Rattle.std.proofs.Common.{◌≡◌, ℕ, List, length, sym, ◌∙◌, ap, Ok, replicate}
use Rattle.std.proofs.lemmas.List.{length-replicate}
use Rattle.base64.specs.Engines.{standard}
use Rattle.base64.specs.GeneralPurpose.{decode_slice_of}
use Rattle.mb_xml.proofs.EncodedLemmas.{bytes_some, bytes_none}
use Rattle.mb_xml.proofs.encoded.base64_bytes.Goals as goal
use Rattle.mb_xml.proofs.encoded.base64_bytes.Goals.{in_default-via-in-Ok+else-count, in_default-via-in_default}

pub returns-in-Ok : goal.returns-in-Ok
returns-in-Ok g c =
    let n : ℕ = g.row.N in
    let zeros : List ℕ = replicate n 0 in
    let len : length zeros ≡ n = length-replicate n 0 in
    let room = ap (λ (m : ℕ). decode_slice_of standard c.args.value.now m) (sym len) in
    bytes_some c.args.value.now zeros c.decode_slice.new.output n (room ∙ sym c.decode_slice.ensures.value ∙ c.in-Ok.is ∙ ap Ok c.if-count.true)
    c.in-Ok.ensures.written len

pub returns-in_default : goal.returns-in_default
returns-in_default g c =
    let n : ℕ = g.row.N in
    let zeros : List ℕ = replicate n 0 in
    let len : length zeros ≡ n = length-replicate n 0 in
    let room = ap (λ (m : ℕ). decode_slice_of standard c.args.value.now m) len in
    elim c.in_default.branch [
      | in_default-via-in-Ok+else-count w ↦ bytes_none c.args.value.now n (λ k is same. w.if-count.false (cc (c.decode_slice.ensures.value, room, is, same, w.in-Ok.is)))
      | in_default-via-in_default w ↦ bytes_none c.args.value.now n (λ k is same. w.in_default.not-Ok k (c.decode_slice.ensures.value ∙ room ∙ is))
    ]
