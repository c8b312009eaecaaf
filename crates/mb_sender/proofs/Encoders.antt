-- The blocks of a file have two sizes, so it has encoders where both sizes have.
use Rattle.std.proofs.Common.{◌≡◌, ◌⊎◌, inl, inr, ℕ, ◌+◌, ◌-◌, ◌<◌, ◌≤◌, Bool, true, false, length, replicate, slice_index, Result, Ok, Err, IfOk, refl, sym, subst, ap, ap₂, ◌∙◌, length-append, arith}
use Rattle.std.proofs.lemmas.Bool.{cases_lt}
use Rattle.std.proofs.lemmas.List.{get_or_append_left, get_or-append_right, get_or-replicate, length-replicate}
use Rattle.mb_geom.specs.Partition.{sizes_of}
use Rattle.mb_geom.specs.Description.{Description, IsGood, symbols, block_sizes, blocking, is_no_code}
use Rattle.mb_geom.specs.declared.parts.Parts.{Parts}
use Rattle.mb_geom.specs.declared.desc.Scheme.{Scheme}
use Rattle.mb_geom.specs.declared.desc.Scheme.TheVariants.{NoCode, Raptor}
use Rattle.mb_tables.specs.Tables.{RaptorTables}
use Rattle.mb_encoder.specs.Usable.{IsUsable}
use Rattle.mb_way.proofs.TwoSizes.{AreTwo, are_two}
use Rattle.mb_sender.specs.Sent.{HasEncoders}
use Rattle.mb_sender.specs.declared.session.Session.{Session}
use Rattle.mb_files.specs.declared.reading.SentFile.{SentFile}

two_by : (d : Description) (p : Parts) (s : Scheme) → d.scheme ≡ s → is_no_code s ≡ false → IsGood d → p ≡ blocking (symbols d) d.scheme → AreTwo p
two_by d p (NoCode b) is coded good parts = absurd (cc coded)
two_by d p (Raptor z n al) is coded good parts = are_two d p z n al good is parts

pub sizes-two : (d : Description) (p : Parts) → is_no_code d.scheme ≡ false → IsGood d → p ≡ blocking (symbols d) d.scheme → AreTwo p
sizes-two d p coded good parts = two_by d p d.scheme refl coded good parts

size-by : (p : Parts) (n : ℕ) → n < p.jl + p.js → (n < p.jl) ⊎ (p.jl ≤ n) → (slice_index (sizes_of p) n ≡ p.il) ⊎ (slice_index (sizes_of p) n ≡ p.is)
size-by p n below (inl first) =
    let within : n < length (replicate p.jl p.il) = omega (arith, first, length-replicate p.jl p.il) in
    inl (get_or_append_left (replicate p.jl p.il) (replicate p.js p.is) 0 n within ∙ get_or-replicate p.jl n p.il 0 first)
size-by p n below (inr later) =
    let rest : n - p.jl < p.js = omega (arith, below, later) in
    inr (get_or-append_right (replicate p.jl p.il) (replicate p.js p.is) p.jl n 0 (length-replicate p.jl p.il) later ∙ get_or-replicate p.js (n - p.jl) p.is 0 rest)

usable-by : (tables : RaptorTables) (p : Parts) (k : ℕ) → IsUsable tables p.il → IsUsable tables p.is → (k ≡ p.il) ⊎ (k ≡ p.is) → IsUsable tables k
usable-by tables p k longer shorter (inl is) = subst (IsUsable tables) (sym is) longer
usable-by tables p k longer shorter (inr is) = subst (IsUsable tables) (sym is) shorter

count-of : (p : Parts) → length (sizes_of p) ≡ p.jl + p.js
count-of p = length-append (replicate p.jl p.il) (replicate p.js p.is) ∙ ap₂ (λ a b. a + b) (length-replicate p.jl p.il) (length-replicate p.js p.is)

has-both : (s : Session) (tables : RaptorTables) (file : SentFile) (p : Parts) → sizes_of p ≡ block_sizes file.desc → IsUsable tables p.il → IsUsable tables p.is
    → HasEncoders s tables file
has-both s tables file p sizes longer shorter = λ percent coded sbn within.
    let below : sbn < p.jl + p.js = subst (λ m. sbn < m) (sym (ap length sizes) ∙ count-of p) within in
    subst (λ k. IsUsable tables k) (ap (λ xs. slice_index xs sbn) sizes)
    (usable-by tables p (slice_index (sizes_of p) sbn) longer shorter (size-by p sbn below (cases_lt sbn p.jl)))

-- as two calls tried both sizes
pub tried : {E : Type 0} (s : Session) (tables : RaptorTables) (file : SentFile) (p : Parts) (first : Bool) (r : Result Bool E) → sizes_of p ≡ block_sizes file.desc
    → first ≡ true → (first ≡ true → IsUsable tables p.il) → IfOk r (λ has. has ≡ true → IsUsable tables p.is)
    → IfOk r (λ has. has ≡ true → HasEncoders s tables file)
tried s tables file p first (Ok second) sizes so longer shorter = λ has. has-both s tables file p sizes (longer so) (shorter has)
tried s tables file p first (Err e) sizes so longer shorter = tt
