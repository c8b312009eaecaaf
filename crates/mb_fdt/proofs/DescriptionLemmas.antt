-- What a description needs of its location: nothing that could refuse it.
use Rattle.std.proofs.Common.{◌≡◌, ℕ, List, [], Option, Some, None, unwrap_or, option_map, Result, Ok, Err, refl, ◌∙◌, ap}
use Rattle.std.specs.Result.{result_err}
use Rattle.mb_geom.specs.Description.{Description, described, description_of, refusals, first_fault, ok_unless, block_sizes}
use Rattle.mb_geom.specs.declared.desc.DescFault.{DescFault}
use Rattle.mb_fdt_text.specs.declared.fdt.FileFault.{FileFault}
use Rattle.mb_fdt_text.specs.declared.fdt.FileFault.TheVariants.{Desc}
use Rattle.mb_fdt.specs.declared.entry.Values.{Values}
use Rattle.mb_fdt_text.specs.Entry.{Said, parts_of, unless}
use Rattle.mb_fdt.specs.EntryView.{IsRead, parts_by}

pub parts_are : (s : Said) (v : Values) → IsRead s v → parts_by (unwrap_or s.location []) v ≡ parts_of s
parts_are s v read =
    let content_length = read.content_length in
    let transfer_length = read.transfer_length in
    let encoded = read.encoded in
    let md5 = read.md5 in
    let encoding_id = read.encoding_id in
    let max_block = read.max_block in
    let symbol = read.symbol in
    let info = read.info in
    cc

err_unless : (fault : Option DescFault) (d e : Description) → result_err (ok_unless fault d) ≡ result_err (ok_unless fault e)
err_unless None d e = refl
err_unless (Some fault) d e = refl

same_faults : (k l : List ℕ) (v : Values) → first_fault (refusals (parts_by k v)) ≡ first_fault (refusals (parts_by l v))
unfolding block_sizes
same_faults k l v = refl

-- the fault of parts is the same at each location
pub same_fault : (k l : List ℕ) (v : Values) → result_err (described (parts_by k v)) ≡ result_err (described (parts_by l v))
same_fault k l v =
    ap (λ (fault : Option DescFault). result_err (ok_unless fault (description_of (parts_by k v)))) (same_faults k l v)
    ∙ err_unless (first_fault (refusals (parts_by l v))) (description_of (parts_by k v)) (description_of (parts_by l v))

pub err_of_description : (d : Result Description DescFault) → result_err (unless None d) ≡ option_map Desc (result_err d)
err_of_description (Ok d) = refl
err_of_description (Err fault) = refl

-- ---- the description, where it is known whether it has a fault

pub fault_is : (refused : Option FileFault) (d : Result Description DescFault) (fault : FileFault) → Some fault ≡ result_err (unless refused d) → Err fault ≡ unless refused d
fault_is (Some other) d fault is = cc
fault_is None (Ok found) fault is = cc
fault_is None (Err other) fault is = cc

pub description_is : (refused : Option FileFault) (d : Result Description DescFault) (found : Description) → None ≡ result_err (unless refused d) → Ok found ≡ d
    → Ok found ≡ unless refused d
description_is (Some other) d found none is = cc
description_is None (Ok same) found none is = cc
description_is None (Err other) found none is = cc

pub fault_is_none : (refused : Option FileFault) (d : Result Description DescFault) (fault : DescFault) → None ≡ result_err (unless refused d) → Err fault ≡ d
    → Err (Desc fault) ≡ unless refused d
fault_is_none (Some other) d fault none is = cc
fault_is_none None (Ok found) fault none is = cc
fault_is_none None (Err other) fault none is = cc
