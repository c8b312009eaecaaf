-- The descriptions that a text of an FDT Instance gives have blocks that hold all bytes of their files.
use Rattle.std.proofs.Common.{◌≡◌, ℕ, zero, suc, ◌*◌, ◌+◌, ◌/◌, ◌%◌, ◌<◌, Bool, true, false, List, [], ◌∷◌, sum, Option, Some, None, Result, Ok, Err, refl, sym, ◌∙◌, ap, subst, arith}
use Rattle.std.specs.List.{AllByRecursion}
use Rattle.std.proofs.lemmas.Bool.{eqb-false, not-false}
use Rattle.std.proofs.lemmas.Grind.{common_steps}
use Rattle.std.proofs.lemmas.Nat.{div-add-mod'}
use Rattle.mb_geom.specs.Partition.{ceiling, partition_of, sizes_of}
use Rattle.mb_geom.specs.Description.{Description, symbols, block_sizes, blocking, are_parameters, description_of, refusals, first_fault, ok_unless, described}
use Rattle.mb_geom.specs.SourceSymbol.{sub_sizes_of}
use Rattle.mb_geom.specs.declared.parts.Parts.{Parts}
use Rattle.mb_geom.specs.declared.desc.DescParts.{DescParts}
use Rattle.mb_geom.specs.declared.desc.DescFault.{DescFault}
use Rattle.mb_geom.specs.declared.desc.Scheme.{Scheme}
use Rattle.mb_geom.specs.declared.desc.Scheme.TheVariants.{NoCode, Raptor}
use Rattle.mb_geom.proofs.PartitionLemmas.{le-ceiling-times, partition_of-from, things-total, sum-sizes_of, sum-scaled, sizes_of-scaled}
use Rattle.mb_geom.proofs.BlockLemmas.{block_sizes-is}
use Rattle.mb_geom.proofs.FileLemmas.{HasLayout}
use Rattle.mb_fdt_text.specs.declared.fdt.Fdt.{Fdt}
use Rattle.mb_fdt_text.specs.declared.fdt.FileEntry.{FileEntry}
use Rattle.mb_fdt_text.specs.declared.fdt.FileFault.{FileFault}
use Rattle.mb_fdt_text.specs.Entry.{Said, said_by, parts_of, first_refusal, unless, entry_of}
use Rattle.mb_fdt_text.specs.Entry.{refusals as refusals_said}
use Rattle.mb_fdt_text.specs.Element.{Tag}
use Rattle.mb_fdt_text.specs.Says.{value_of, root_attributes, text_files, IsFdt}
use Rattle.mb_fdt_text.proofs.Texts.{texts_read}
use Rattle.mb_fdt.specs.Reader.{fdt_of}
use Rattle.mb_machine.proofs.EachLemmas.{all-image}

-- ---- symbols that aren't empty, with parameters that fit them
-- A text's scheme need not fit its fields, as that of a good description does.

partition_whole : (i j : ℕ) → 0 < j → sum (sizes_of (partition_of i j)) ≡ i
partition_whole i j some = ap (λ (p : Parts). sum (sizes_of p)) (sym (partition_of-from i j some)) ∙ sum-sizes_of _ ∙ things-total i j some

-- of no things there may be no parts
fewest_whole : (i b n : ℕ) → 0 < b → ceiling i b ≡ n → sum (sizes_of (partition_of i n)) ≡ i
fewest_whole i b zero some none =
    let enough = rw none at (le-ceiling-times i b some) in
    let empty : i ≡ 0 = omega (arith, enough) in
    rw empty refl
fewest_whole i b (suc n) some is = partition_whole i (suc n) (omega arith)

blocks_whole : (t kt : ℕ) (s : Scheme) → are_parameters t s ≡ true → sum (sizes_of (blocking kt s)) ≡ kt
blocks_whole t kt (NoCode b) are = fewest_whole kt b (ceiling kt b) (grind (arith, common_steps)) refl
blocks_whole t kt (Raptor z n al) are = partition_whole kt z (grind (arith, common_steps))

sub_symbols_whole : (t : ℕ) (s : Scheme) → are_parameters t s ≡ true → sum (sub_sizes_of t s) ≡ t
sub_symbols_whole t (NoCode b) are = omega arith
sub_symbols_whole t (Raptor z n al) are =
    let even : t % al ≡ 0 = grind (arith, common_steps) in
    let whole : t / al * al ≡ t = omega (arith, div-add-mod' t al, even) in
    let units : Parts = partition_of (t / al) n in
    let things : units.jl * units.il + units.js * units.is ≡ t / al = sym (sum-sizes_of units) ∙ partition_whole (t / al) n (grind (arith, common_steps)) in
    ap sum (sym (sizes_of-scaled units al)) ∙ sum-scaled units al (t / al) t things whole

layout : (d : Description) → 0 < d.symbol → are_parameters d.symbol d.scheme ≡ true → HasLayout d
layout d some are =
    let all : sum (block_sizes d) ≡ symbols d = ap sum (block_sizes-is d) ∙ blocks_whole d.symbol (symbols d) d.scheme are in
    record { sub_symbols = sub_symbols_whole d.symbol d.scheme are; enough = rw all (le-ceiling-times d.length d.symbol some) }

-- ---- what an element describes

none_holds : (xs : List (Bool × DescFault)) → first_fault xs ≡ None → AllByRecursion (λ x. x.0 ≡ false) xs
none_holds [] none = tt
none_holds ((true, fault) ∷ xs) none = absurd cc
none_holds ((false, fault) ∷ xs) none = (refl, none_holds xs none)

no_fault : (fault : Option DescFault) (d e : Description) → ok_unless fault d ≡ Ok e → (fault ≡ None) × (d ≡ e)
no_fault None d e is = (refl, cc)
no_fault (Some fault) d e is = absurd cc

parts_layout : (p : DescParts) (d : Description) → described p ≡ Ok d → HasLayout d
parts_layout p d is =
    let none = no_fault (first_fault (refusals p)) (description_of p) d is in
    let fails = none_holds (refusals p) none.0 in
    let filled = eqb-false (description_of p).symbol 0 fails.1.1.1.1.1.0 in
    subst HasLayout none.1 (layout (description_of p) (omega (arith, filled)) (not-false _ fails.1.1.1.1.1.1.0))

unless_ok : (refused : Option FileFault) (found : Result Description DescFault) (d : Description) → unless refused found ≡ Ok d → found ≡ Ok d
unless_ok None (Ok other) d is = cc
unless_ok None (Err fault) d is = absurd cc
unless_ok (Some fault) found d is = absurd cc

-- the blocks of a description that an element gives hold its file
abbrev pub IsSoundEntry : FileEntry → Type 0
IsSoundEntry e = (d : Description) → e.entry ≡ Ok d → HasLayout d

sound_entry : (s : Said) → IsSoundEntry (entry_of s)
unfolding entry_of
sound_entry s d is = parts_layout (parts_of s) d (unless_ok (first_refusal (refusals_said s)) (described (parts_of s)) d is)

-- ---- what a text describes

pub sound_text : (text : List ℕ) (fdt : Fdt) → fdt_of text ≡ Ok fdt → AllByRecursion IsSoundEntry fdt.files
sound_text text fdt is =
    let fdt_is : IsFdt text fdt = (texts_read text fdt).1 is in
    subst (λ (f : Fdt). AllByRecursion IsSoundEntry f.files) (sym fdt_is.says)
    (all-image IsSoundEntry (λ (file : Tag). entry_of (said_by (value_of (root_attributes fdt_is.of)) (value_of file.attributes))) (λ file. sound_entry _) (text_files fdt_is.of))
