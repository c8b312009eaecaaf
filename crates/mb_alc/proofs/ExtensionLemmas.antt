-- Lemmas on header extensions: an area is read in one way.
use Rattle.std.proofs.Common.{◌≡◌, ℕ, zero, suc, ◌+◌, ◌*◌, ◌/◌, ◌%◌, ◌<◌, ◌≤◌, ◌==◌, ◌&&◌, not, nat_lt, cond, Bool, true, false, List, [], ◌∷◌, ◌++◌, length, take, drop, slice_index, Option, Some, None, option_map, Result, Ok, Err, get_or, ◌↔◌, Fits, w8, refl, sym, ap, ap₂, subst, ◌∙◌, arith, length-append, length-take-le, length-drop, append_assoc, append-nil}
use Rattle.std.specs.List.{AllByRecursion, concat}
use Rattle.std.specs.Option.{option_or}
use Rattle.std.proofs.lemmas.Grind.{common_steps}
use Rattle.std.proofs.lemmas.List.{take_at, drop_at, nil_from_length, take-append-drop}
use Rattle.std.proofs.Math.Seq.{take-add}
use Rattle.std.proofs.lemmas.List.Folds.{find-append, concat-append}
use Rattle.mb_alc.specs.Extensions.{IsExtension, IsExts, IsExtsFault, het, hel, extension_size, flute_version, front_fault, first_of, exts_in, instance_id, fti_of, algorithm, extensions_in, before, said, exts_of}
use Rattle.mb_base.specs.Number.{AreBytes}
use Rattle.mb_lct.proofs.HeaderLemmas.{are_bytes}
use Rattle.mb_alc.specs.Laws.{ExtensionsAreFound, ExtensionFaultsAreFirst}
use Rattle.mb_alc.proofs.PartLemmas.{fdt-function, fti-function, cenc-function, function-fdt, function-fti, function-cenc, each-bytes}
use Rattle.mb_alc.specs.declared.packet.Exts.{Exts}
use Rattle.mb_alc.specs.declared.packet.Fti.{Fti}
use Rattle.mb_alc.specs.declared.fault.ExtFault.{ExtFault}

-- the area is a list of extensions, joined, and `exts_in` gives what they say
pub record AreExts (area : List ℕ) (exts : Exts) : Type 0 where
  pub extensions : List (List ℕ)
  pub joined : area ≡ concat extensions
  pub each : AllByRecursion IsExtension extensions
  pub says : exts ≡ exts_in extensions

-- ---- tests of numbers

same-true : (a b : ℕ) → (a == b) ≡ true → a ≡ b
same-true a b is = grind (arith, common_steps)

true-same : (a b : ℕ) → a ≡ b → (a == b) ≡ true
true-same a b is = grind (arith, common_steps)

same-false : (a b : ℕ) → (a == b) ≡ false → a ≡ b → ⊥
same-false a b is e = grind (arith, common_steps)

false-some : (a : ℕ) → 0 < a → (a == 0) ≡ false
false-some a some = grind (arith, common_steps)

some-false : (a : ℕ) → (a == 0) ≡ false → 0 < a
some-false a is = grind (arith, common_steps)

not_lt : (a b : ℕ) → nat_lt a b ≡ false → b ≤ a
not_lt a b is = grind (arith, common_steps)

false-lt : (a b : ℕ) → b ≤ a → nat_lt a b ≡ false
false-lt a b le = grind (arith, common_steps)

-- ---- what extensions say, with one more

option_map-or : {A B : Type 0} (f : A → B) (a b : Option A) → option_map f (option_or a b) ≡ option_or (option_map f a) (option_map f b)
option_map-or f None b = refl
option_map-or f (Some x) b = refl

only : {A : Type 0} (f : List ℕ → A) (is : Bool) (e : List ℕ) → option_map f (cond is (Some e) None) ≡ cond is (Some (f e)) None
only f true e = refl
only f false e = refl

first-more : {A : Type 0} (f : List ℕ → A) (kind : ℕ) (es : List (List ℕ)) (e : List ℕ)
    → option_map f (first_of kind (es ++ e ∷ [])) ≡ option_or (option_map f (first_of kind es)) (cond (het e == kind) (Some (f e)) None)
first-more f kind es e =
    ap (option_map f) (find-append (λ (x : List ℕ). het x == kind) es (e ∷ []))
    ∙ (option_map-or f (first_of kind es) (cond (het e == kind) (Some e) None)
    ∙ ap (option_or (option_map f (first_of kind es))) (only f (het e == kind) e))

abbrev pub made : Option ℕ → Option Fti → Option ℕ → Exts
made fdt fti cenc = record { fdt = fdt; fti = fti; cenc = cenc }

made-same : {fdt fdt' cenc cenc' : Option ℕ} {fti fti' : Option Fti} → fdt ≡ fdt' → fti ≡ fti' → cenc ≡ cenc' → made fdt fti cenc ≡ made fdt' fti' cenc'
made-same a b c = rw (a, b, c) refl

-- what is said with one more, by what each part gives of it
pub exts-more : (es : List (List ℕ)) (e : List ℕ) (self : Exts) (fdt cenc : Option ℕ) (fti : Option Fti) → self ≡ exts_in es
    → fdt ≡ option_or self.fdt (cond (het e == 192) (Some (instance_id e)) None)
    → fti ≡ option_or self.fti (cond (het e == 64) (Some (fti_of e)) None)
    → cenc ≡ option_or self.cenc (cond (het e == 193) (Some (algorithm e)) None)
    → made fdt fti cenc ≡ exts_in (es ++ e ∷ [])
exts-more es e self fdt cenc fti is a b c =
    let x : fdt ≡ option_map instance_id (first_of 192 (es ++ e ∷ [])) =
    a ∙ (ap (λ (s : Exts). option_or s.fdt (cond (het e == 192) (Some (instance_id e)) None)) is ∙ sym (first-more instance_id 192 es e)) in
    let y : fti ≡ option_map fti_of (first_of 64 (es ++ e ∷ [])) =
    b ∙ (ap (λ (s : Exts). option_or s.fti (cond (het e == 64) (Some (fti_of e)) None)) is ∙ sym (first-more fti_of 64 es e)) in
    let z : cenc ≡ option_map algorithm (first_of 193 (es ++ e ∷ [])) =
    c ∙ (ap (λ (s : Exts). option_or s.cenc (cond (het e == 193) (Some (algorithm e)) None)) is ∙ sym (first-more algorithm 193 es e)) in
    rw (x, y, z) refl

-- ---- one extension in front of others

size-least : (b : Bool) (n : ℕ) → 0 < cond b (4 * n) 4 → 4 ≤ cond b (4 * n) 4
size-least true n some = omega arith
size-least false n some = omega arith

pub length-least : (e : List ℕ) → IsExtension e → 4 ≤ length e
length-least e is = subst (λ n. 4 ≤ n) (sym is.whole) (size-least (nat_lt (het e) 128) (hel e) (subst (λ n. 0 < n) is.whole is.some))

front : (e more : List ℕ) (i : ℕ) → i < length e → slice_index (e ++ more) i ≡ slice_index e i
front e more i within = grind (arith, common_steps)

het-front : (e more : List ℕ) → IsExtension e → het (e ++ more) ≡ het e
het-front e more is = front e more 0 is.some

second-front : (e more : List ℕ) → IsExtension e → slice_index (e ++ more) 1 ≡ slice_index e 1
second-front e more is = let least = length-least e is in front e more 1 (omega arith)

size-front : (e more : List ℕ) → IsExtension e → extension_size (e ++ more) ≡ length e
size-front e more is =
    ap₂ (λ h n. cond (nat_lt h 128) (4 * n) 4) (het-front e more is) (second-front e more is) ∙ sym is.whole

-- none of four conditions holds
none-chosen : {A : Type 0} (a b c d : Bool) (w x y z : A) → a ≡ false → b ≡ false → c ≡ false → d ≡ false
    → cond a (Some w) (cond b (Some x) (cond c (Some y) (cond d (Some z) None))) ≡ None
none-chosen a b c d w x y z p q r s = rw (p, q, r, s) refl

pub record AreFalse (a b c d : Bool) : Type 0 where
  pub first : a ≡ false
  pub second : b ≡ false
  pub third : c ≡ false
  pub fourth : d ≡ false

chosen-none : {A : Type 0} (a b c d : Bool) (w x y z : A) → cond a (Some w) (cond b (Some x) (cond c (Some y) (cond d (Some z) None))) ≡ None
    → AreFalse a b c d
chosen-none true b c d w x y z is = absurd cc
chosen-none false true c d w x y z is = absurd cc
chosen-none false false true d w x y z is = absurd cc
chosen-none false false false true w x y z is = absurd cc
chosen-none false false false false w x y z is = record { first = refl; second = refl; third = refl; fourth = refl }

not-both : (p q : Bool) → (p ≡ true → q ≡ true) → (p && not q) ≡ false
not-both true q leads = ap (λ b. not b) (leads refl)
not-both false q leads = refl

both-not : (p q : Bool) → (p && not q) ≡ false → p ≡ true → q ≡ true
both-not true true is one = refl
both-not true false is one = absurd cc
both-not false q is one = absurd cc

both-false : (a b c d : ℕ) → (a ≡ c → b ≡ d) → ((a == c) && not (b == d)) ≡ false
both-false a b c d leads = not-both (a == c) (b == d) (λ h. true-same b d (leads (same-true a c h)))

false-both : (a b c d : ℕ) → ((a == c) && not (b == d)) ≡ false → a ≡ c → b ≡ d
false-both a b c d is same = same-true b d (both-not (a == c) (b == d) is (true-same a c same))

fault-front : (offset : ℕ) (e more : List ℕ) → IsExtension e → front_fault offset (e ++ more) ≡ None
fault-front offset e more is =
    let size = size-front e more is in
    none-chosen _ _ _ _ _ _ _ _
    (false-some _ (subst (λ n. 0 < n) (sym size) is.some))
    (false-lt _ _ (omega (arith, size, length-append e more)))
    (both-false _ _ 64 4 (λ h. second-front e more is ∙ is.fti (sym (het-front e more is) ∙ h)))
    (both-false _ _ 192 1 (λ h. ap (λ n. n / 16) (second-front e more is) ∙ is.fdt (sym (het-front e more is) ∙ h)))

-- an extension is read off the front
step-front : (most offset : ℕ) (e more : List ℕ) → IsExtension e
    → extensions_in (suc most) offset (e ++ more) ≡ before None e (extensions_in most (offset + length e) more)
unfolding extensions_in
step-front most offset e more is =
    let size = size-front e more is in
    let some : (length (e ++ more) == 0) ≡ false = false-some _ (omega (arith, length-append e more, is.some)) in
    let first : take (extension_size (e ++ more)) (e ++ more) ≡ e = take_at e more _ (sym size) in
    let rest : drop (extension_size (e ++ more)) (e ++ more) ≡ more = drop_at e more _ (sym size) in
    ap (λ b. cond b (Ok []) (before (front_fault offset (e ++ more)) (take (extension_size (e ++ more)) (e ++ more))
    (extensions_in most (offset + extension_size (e ++ more)) (drop (extension_size (e ++ more)) (e ++ more))))) some
    ∙ (ap (λ o. before o (take (extension_size (e ++ more)) (e ++ more)) (extensions_in most (offset + extension_size (e ++ more)) (drop (extension_size (e ++ more)) (e ++ more)))) (fault-front offset e more is)
    ∙ ap₂ (before None) first (ap₂ (λ n (l : List ℕ). extensions_in most (offset + n) l) size rest))

-- ---- extensions that are joined are read

in-nil : (most offset : ℕ) → extensions_in most offset [] ≡ Ok []
unfolding extensions_in
in-nil zero offset = refl
in-nil (suc most) offset = refl

in-fault : (most offset : ℕ) (bytes : List ℕ) (fault : ExtFault) → 0 < length bytes → front_fault offset bytes ≡ Some fault
    → extensions_in (suc most) offset bytes ≡ Err fault
unfolding extensions_in
in-fault most offset bytes fault some is =
    ap (λ b. cond b (Ok []) (before (front_fault offset bytes) (take (extension_size bytes) bytes) (extensions_in most (offset + extension_size bytes) (drop (extension_size bytes) bytes)))) (false-some _ some)
    ∙ ap (λ o. before o (take (extension_size bytes) bytes) (extensions_in most (offset + extension_size bytes) (drop (extension_size bytes) bytes))) is

read-good : (most offset : ℕ) (es : List (List ℕ)) → AllByRecursion IsExtension es → length (concat es) ≤ most
    → extensions_in most offset (concat es) ≡ Ok es
read-good most offset [] all short = in-nil most offset
read-good zero offset (e ∷ es) all short =
    absurd (omega (arith, length-append e (concat es), length-least e all.0))
read-good (suc most) offset (e ∷ es) all short =
    step-front most offset e (concat es) all.0
    ∙ ap (before None e) (read-good most (offset + length e) es all.1 (omega (arith, length-append e (concat es), length-least e all.0)))

read-fault : (most offset : ℕ) (es : List (List ℕ)) (rest : List ℕ) (fault : ExtFault) → AllByRecursion IsExtension es → 0 < length rest
    → front_fault (offset + length (concat es)) rest ≡ Some fault → length (concat es ++ rest) ≤ most
    → extensions_in most offset (concat es ++ rest) ≡ Err fault
read-fault zero offset [] rest fault all some is short = absurd (omega arith)
read-fault (suc most) offset [] rest fault all some is short =
    in-fault most offset rest fault some (ap (λ n. front_fault n rest) (omega arith) ∙ is)
read-fault zero offset (e ∷ es) rest fault all some is short =
    absurd (omega (arith, length-append (e ++ concat es) rest, length-append e (concat es), length-least e all.0))
read-fault (suc most) offset (e ∷ es) rest fault all some is short =
    ap (extensions_in (suc most) offset) (append_assoc e (concat es) rest)
    ∙ (step-front most offset e (concat es ++ rest) all.0
    ∙ ap (before None e) (read-fault most (offset + length e) es rest fault all.1 some
    (ap (λ n. front_fault n rest) (omega (arith, length-append e (concat es))) ∙ is)
    (omega (arith, length-append (e ++ concat es) rest, length-append e (concat es), length-append (concat es) rest, length-least e all.0))))

-- ---- what is read is extensions that are joined

-- bytes do not begin with an extension, behind extensions that begin at an offset
pub record IsFaultFrom (offset : ℕ) (bytes : List ℕ) (fault : ExtFault) : Type 0 where
  pub extensions : List (List ℕ)
  pub rest : List ℕ
  pub joined : bytes ≡ concat extensions ++ rest
  pub each : AllByRecursion IsExtension extensions
  pub some : 0 < length rest
  pub fault_is : front_fault (offset + length (concat extensions)) rest ≡ Some fault

abbrev Reads : ℕ → List ℕ → Result (List (List ℕ)) ExtFault → Type 0
Reads offset bytes (Ok es) = (bytes ≡ concat es) × AllByRecursion IsExtension es
Reads offset bytes (Err fault) = IsFaultFrom offset bytes fault

-- bytes that begin with no fault begin with an extension
from-none : (offset : ℕ) (bytes : List ℕ) → front_fault offset bytes ≡ None
    → IsExtension (take (extension_size bytes) bytes) × (extension_size bytes ≤ length bytes)
from-none offset bytes is =
    let are : AreFalse (extension_size bytes == 0) (nat_lt (length bytes) (extension_size bytes)) ((het bytes == 64) && not (hel bytes == 4))
    ((het bytes == 192) && not (flute_version bytes == 1)) = chosen-none _ _ _ _ _ _ _ _ is in
    let size = extension_size bytes in
    let some : 0 < size = some-false size are.first in
    let whole : size ≤ length bytes = not_lt _ _ are.second in
    let least : 4 ≤ size = size-least (nat_lt (het bytes) 128) (hel bytes) some in
    let e : List ℕ = take size bytes in
    let len : length e ≡ size = length-take-le size bytes whole in
    let first : het e ≡ het bytes = grind (arith, common_steps, some) in
    let second : slice_index e 1 ≡ slice_index bytes 1 = grind (arith, common_steps, least) in (
      record {
        some = omega arith;
        whole = len ∙ ap₂ (λ h n. cond (nat_lt h 128) (4 * n) 4) (sym first) (sym second);
        fti = λ h. second ∙ false-both _ _ 64 4 are.third (sym first ∙ h);
        fdt = λ h. ap (λ n. n / 16) second ∙ false-both _ _ 192 1 are.fourth (sym first ∙ h);
      },
      whole,
    )

reads-more : (offset : ℕ) (bytes : List ℕ) (r : Result (List (List ℕ)) ExtFault) → IsExtension (take (extension_size bytes) bytes)
    → extension_size bytes ≤ length bytes → Reads (offset + extension_size bytes) (drop (extension_size bytes) bytes) r
    → Reads offset bytes (before None (take (extension_size bytes) bytes) r)
reads-more offset bytes (Ok es) first whole later =
    (sym (take-append-drop (extension_size bytes) bytes) ∙ ap (λ (l : List ℕ). take (extension_size bytes) bytes ++ l) later.0, (first, later.1))
reads-more offset bytes (Err fault) first whole later =
    let e : List ℕ = take (extension_size bytes) bytes in
    let len : length e ≡ extension_size bytes = length-take-le (extension_size bytes) bytes whole in
    record {
      extensions = e ∷ later.extensions;
      rest = later.rest;
      joined = sym (take-append-drop (extension_size bytes) bytes) ∙ (ap (λ (l : List ℕ). e ++ l) later.joined ∙ sym (append_assoc e (concat later.extensions) later.rest));
      each = (first, later.each);
      some = later.some;
      fault_is = ap (λ n. front_fault n later.rest) (omega (arith, length-append e (concat later.extensions), len)) ∙ later.fault_is;
    }

reads-front : (offset : ℕ) (bytes : List ℕ) (o : Option ExtFault) (r : Result (List (List ℕ)) ExtFault) → 0 < length bytes → front_fault offset bytes ≡ o
    → (front_fault offset bytes ≡ None → Reads (offset + extension_size bytes) (drop (extension_size bytes) bytes) r)
    → Reads offset bytes (before o (take (extension_size bytes) bytes) r)
reads-front offset bytes (Some fault) r some is later = record {
  extensions = [];
  rest = bytes;
  joined = refl;
  each = tt;
  some = some;
  fault_is = ap (λ n. front_fault n bytes) (omega arith) ∙ is;
}
reads-front offset bytes None r some is later =
    let front = from-none offset bytes is in reads-more offset bytes r front.0 front.1 (later is)

reads-some : (offset : ℕ) (bytes : List ℕ) (b : Bool) (r : Result (List (List ℕ)) ExtFault) → (length bytes == 0) ≡ b
    → (0 < length bytes → Reads offset bytes r) → Reads offset bytes (cond b (Ok []) r)
reads-some offset bytes true r is later = (nil_from_length bytes (same-true _ _ is), tt)
reads-some offset bytes false r is later = later (some-false _ is)

reads : (most offset : ℕ) (bytes : List ℕ) → length bytes ≤ most → Reads offset bytes (extensions_in most offset bytes)
unfolding extensions_in
reads zero offset bytes short = (nil_from_length bytes (omega arith), tt)
reads (suc most) offset bytes short =
    let size = extension_size bytes in
    reads-some offset bytes (length bytes == 0) (before (front_fault offset bytes) (take size bytes) (extensions_in most (offset + size) (drop size bytes))) refl
    (λ some. reads-front offset bytes (front_fault offset bytes) (extensions_in most (offset + size) (drop size bytes)) some refl
    (λ none. reads most (offset + size) (drop size bytes)
    (let front = from-none offset bytes none in
    let least = length-least (take size bytes) front.0 in
    omega (arith, length-drop size bytes, length-take-le size bytes front.1))))

-- ---- the laws

pub exts-Ok : (area : List ℕ) (exts : Exts) → AreExts area exts → exts_of area ≡ Ok exts
unfolding exts_of
exts-Ok area exts is =
    ap said (ap (λ (l : List ℕ). extensions_in (length l) 0 l) is.joined ∙ read-good (length (concat is.extensions)) 0 is.extensions is.each (omega arith))
    ∙ ap Ok (sym is.says)

exts-Err : (area : List ℕ) (fault : ExtFault) → IsExtsFault area fault → exts_of area ≡ Err fault
unfolding exts_of
exts-Err area fault is =
    ap said (ap (λ (l : List ℕ). extensions_in (length l) 0 l) is.joined
    ∙ read-fault (length (concat is.extensions ++ is.rest)) 0 is.extensions is.rest fault is.each is.some
    (ap (λ n. front_fault n is.rest) (omega arith) ∙ is.fault_is) (omega arith))

said-Ok : (area : List ℕ) (r : Result (List (List ℕ)) ExtFault) (exts : Exts) → Reads 0 area r → said r ≡ Ok exts → AreExts area exts
said-Ok area (Ok es) exts read is = record { extensions = es; joined = read.0; each = read.1; says = cc }
said-Ok area (Err fault) exts read is = absurd cc

said-Err : (area : List ℕ) (r : Result (List (List ℕ)) ExtFault) (fault : ExtFault) → Reads 0 area r → said r ≡ Err fault → IsExtsFault area fault
said-Err area (Ok es) fault read is = absurd cc
said-Err area (Err other) fault read is =
    let same : other ≡ fault = cc in
    record {
      extensions = read.extensions;
      rest = read.rest;
      joined = read.joined;
      each = read.each;
      some = read.some;
      fault_is = ap (λ n. front_fault n read.rest) (omega arith) ∙ read.fault_is ∙ ap Some same;
    }

Ok-exts : (area : List ℕ) (exts : Exts) → exts_of area ≡ Ok exts → AreExts area exts
unfolding exts_of
Ok-exts area exts is = said-Ok area _ exts (reads (length area) 0 area (omega arith)) is

Err-exts : (area : List ℕ) (fault : ExtFault) → exts_of area ≡ Err fault → IsExtsFault area fault
unfolding exts_of
Err-exts area fault is = said-Err area _ fault (reads (length area) 0 area (omega arith)) is

-- what the parts joined say is what stands at the offsets
parts-say : (area : List ℕ) (exts : Exts) → IsExts area exts → AreExts area exts
parts-say area exts is =
    let a = fdt-function (first_of 192 is.extensions) exts.fdt is.fdt in
    let b = fti-function (first_of 64 is.extensions) exts.fti is.fti in
    let c = cenc-function (first_of 193 is.extensions) exts.cenc is.cenc in
    record { extensions = is.extensions; joined = is.joined; each = is.each; says = made-same a b c }

say-parts : (area : List ℕ) (exts : Exts) → AreBytes area → AreExts area exts → IsExts area exts
say-parts area exts all is =
    let each = each-bytes is.extensions (subst AreBytes is.joined all) in
    subst (IsExts area) (sym is.says) (record {
      extensions = is.extensions;
      joined = is.joined;
      each = is.each;
      fdt = function-fdt is.extensions is.each each;
      fti = function-fti is.extensions is.each each;
      cenc = function-cenc is.extensions is.each each;
    })

pub exts-found : (area : List ℕ) (exts : Exts) → IsExts area exts → exts_of area ≡ Ok exts
exts-found area exts is = exts-Ok area exts (parts-say area exts is)

pub extensions_found : ExtensionsAreFound
extensions_found area exts all = (exts-found area exts, λ is. say-parts area exts all (Ok-exts area exts is))

pub faults_first : ExtensionFaultsAreFirst
faults_first area fault = (exts-Err area fault, Err-exts area fault)

-- ---- reading one extension after another

pub AllByRecursion-push : (es : List (List ℕ)) (e : List ℕ) → AllByRecursion IsExtension es → IsExtension e → AllByRecursion IsExtension (es ++ e ∷ [])
AllByRecursion-push [] e all is = (is, tt)
AllByRecursion-push (x ∷ es) e all is = (all.0, AllByRecursion-push es e all.1 is)

pub concat-push : (es : List (List ℕ)) (e : List ℕ) → concat (es ++ e ∷ []) ≡ concat es ++ e
concat-push es e = concat-append es (e ∷ []) ∙ ap (λ (l : List ℕ). concat es ++ l) (append-nil e)

pub exts-none : (area : List ℕ) → AreExts (take 0 area) (made None None None)
exts-none area = record { extensions = []; joined = refl; each = tt; says = refl }

pub exts-next : (area : List ℕ) (offset : ℕ) (e : List ℕ) (exts new : Exts) → AreExts (take offset area) exts → IsExtension e
    → e ≡ take (length e) (drop offset area) → ((es : List (List ℕ)) → exts ≡ exts_in es → new ≡ exts_in (es ++ e ∷ []))
    → AreExts (take (offset + length e) area) new
exts-next area offset e exts new is one at says = record {
  extensions = is.extensions ++ e ∷ [];
  joined = take-add offset (length e) area ∙ ap₂ (λ (a b : List ℕ). a ++ b) is.joined (sym at) ∙ sym (concat-push is.extensions e);
  each = AllByRecursion-push is.extensions e is.each one;
  says = says is.extensions is.says;
}

pub exts-fault : (area : List ℕ) (offset : ℕ) (exts : Exts) (fault : ExtFault) → offset < length area → AreExts (take offset area) exts
    → front_fault offset (drop offset area) ≡ Some fault → IsExtsFault area fault
exts-fault area offset exts fault within is fault_is = record {
  extensions = is.extensions;
  rest = drop offset area;
  joined = sym (take-append-drop offset area) ∙ ap (λ (l : List ℕ). l ++ drop offset area) is.joined;
  each = is.each;
  some = omega (arith, length-drop offset area);
  fault_is =
      ap (λ n. front_fault n (drop offset area)) (sym (ap length is.joined) ∙ length-take-le offset area (omega arith)) ∙ fault_is;
}

words : (b : Bool) (n : ℕ) → cond b (4 * n) 4 % 4 ≡ 0
words true n = omega arith
words false n = refl

-- an extension is whole words
pub whole-words : (e : List ℕ) → IsExtension e → length e % 4 ≡ 0
whole-words e is = subst (λ n. n % 4 ≡ 0) (sym is.whole) (words (nat_lt (het e) 128) (hel e))

-- ---- what is answered

pub answered_exts : (area : List ℕ) (result : Result Exts ExtFault) → ((i : ℕ) → Fits w8 (get_or area i 0)) → result ≡ exts_of area
    → (exts : Exts) → IsExts area exts ↔ (result ≡ Ok exts)
answered_exts area result each exact exts =
    let law = extensions_found area exts (are_bytes area each) in
    (λ is. exact ∙ law.0 is, λ is. law.1 (sym exact ∙ is))

pub answered_fault : (area : List ℕ) (result : Result Exts ExtFault) → result ≡ exts_of area → (fault : ExtFault) → IsExtsFault area fault ↔ (result ≡ Err fault)
answered_fault area result exact fault =
    let law = faults_first area fault in
    (λ is. exact ∙ law.0 is, λ is. law.1 (sym exact ∙ is))

-- a fault that is answered
pub answer-fault : (area : List ℕ) (reason answer : ExtFault) (result : Result Exts ExtFault) → result ≡ Err answer → answer ≡ reason
    → IsExtsFault area reason → result ≡ exts_of area
answer-fault area reason answer result is same fault = is ∙ (ap Err same ∙ sym (exts-Err area reason fault))
