-- Lemmas on what the parts of a packet say: by the parts joined, and by where they stand.
use Rattle.std.proofs.Common.{◌≡◌, ℕ, ◌+◌, ◌-◌, ◌*◌, ◌/◌, ◌%◌, ◌^◌, ◌<◌, ◌≤◌, ◌==◌, nat_lt, cond, Bool, true, false, List, [], ◌∷◌, ◌++◌, length, take, drop, slice_index, Option, Some, None, option_map, refl, sym, ap, ap₂, subst, ◌∙◌, arith, length-drop, take_all}
use Rattle.std.specs.List.{AllByRecursion, concat, slice_range}
use Rattle.std.specs.Option.{option_or}
use Rattle.std.proofs.lemmas.Grind.{common_steps}
use Rattle.std.proofs.lemmas.List.Elements.{All-tail, All-take, All-drop}
use Rattle.std.proofs.Math.Seq.{take-append_seam, drop-append_seam}
use Rattle.mb_base.specs.Number.{AreBytes, be_number, be_bytes}
use Rattle.mb_base.proofs.NumberLemmas.{numbers_read_back, bytes_written_back, be_number-below, be_number-cons}
use Rattle.mb_lct.proofs.HeaderLemmas.{size-between, cut}
use Rattle.mb_lct.specs.Lct.{number_between}
use Rattle.mb_alc.specs.Extensions.{IsExtension, het, hel, fdt_extension, fti_extension, IsFdt, IsFti, IsCenc, first_of, Says, instance_id, fti_of, algorithm}
use Rattle.mb_alc.specs.Packet.{Body, body_in, IsBody}
use Rattle.mb_alc.specs.declared.packet.Fti.{Fti}

-- ---- a number in its bytes

pub part-bytes : (bytes : List ℕ) (a b : ℕ) → AreBytes bytes → AreBytes (slice_range bytes a b)
part-bytes bytes a b all = All-take (λ byte. byte < 256) (b - a) (drop a bytes) (All-drop (λ byte. byte < 256) a bytes all)

number-back : (bytes : List ℕ) (a b width : ℕ) → AreBytes bytes → a ≤ b → b ≤ length bytes → b - a ≡ width
    → be_bytes width (number_between bytes a b) ≡ slice_range bytes a b
number-back bytes a b width all le within is =
    ap (λ n. be_bytes n (number_between bytes a b)) (sym (size-between bytes a b le within ∙ is))
    ∙ bytes_written_back (slice_range bytes a b) (part-bytes bytes a b all)

number-below : (bytes : List ℕ) (a b width : ℕ) → AreBytes bytes → a ≤ b → b ≤ length bytes → b - a ≡ width → number_between bytes a b < 256 ^ width
number-below bytes a b width all le within is =
    subst (λ n. number_between bytes a b < 256 ^ n) (size-between bytes a b le within ∙ is)
    (be_number-below (slice_range bytes a b) (part-bytes bytes a b all))

-- ---- EXT_FDT

pub fdt-read : (id : ℕ) → id < 2 ^ 20 → instance_id (fdt_extension id) ≡ id
unfolding be_bytes
fdt-read id below =
    let number : be_number (fdt_extension id) ≡ 192 * 256 ^ 3 + (2 ^ 20 + id) =
    be_number-cons 192 (be_bytes 3 (2 ^ 20 + id)) ∙ ap (λ n. 192 * 256 ^ 3 + n) (numbers_read_back 3 (2 ^ 20 + id) (omega arith)) in
    ap (λ n. n % 2 ^ 20) number ∙ omega arith

fdt-is : (e : List ℕ) (id : ℕ) → IsFdt e id → id ≡ instance_id e
fdt-is e id is = sym (ap instance_id is.joined ∙ fdt-read id is.below)

four-size : (e : List ℕ) (kind : ℕ) → IsExtension e → het e ≡ kind → nat_lt kind 128 ≡ false → length e ≡ 4
four-size e kind is same single = is.whole ∙ ap (λ h. cond (nat_lt h 128) (4 * hel e) 4) same ∙ ap (λ b. cond b (4 * hel e) 4) single

fdt-four : (a b c d : ℕ) → AreBytes (b ∷ c ∷ d ∷ []) → a ≡ 192 → b / 16 ≡ 1 → IsFdt (a ∷ b ∷ c ∷ d ∷ []) (instance_id (a ∷ b ∷ c ∷ d ∷ []))
fdt-four a b c d all first version =
    let last : List ℕ = b ∷ c ∷ d ∷ [] in
    let number : be_number (a ∷ last) ≡ a * 256 ^ 3 + be_number last = be_number-cons a last in
    let second : be_number last ≡ b * 256 ^ 2 + be_number (c ∷ d ∷ []) = be_number-cons b (c ∷ d ∷ []) in
    let below : be_number (c ∷ d ∷ []) < 256 ^ 2 = be_number-below (c ∷ d ∷ []) (All-tail (λ byte. byte < 256) b (c ∷ d ∷ []) all) in
    let id : 2 ^ 20 + be_number (a ∷ last) % 2 ^ 20 ≡ be_number last = omega arith in
    record {
      joined = ap₂ ◌∷◌ first (sym (bytes_written_back last all)) ∙ ap (λ n. 192 ∷ be_bytes 3 n) (sym id);
      below = omega arith;
    }

fdt-says : (e : List ℕ) → IsExtension e → AreBytes e → het e ≡ 192 → IsFdt e (instance_id e)
fdt-says [] is all same = absurd (omega (arith, is.some))
fdt-says (a ∷ []) is all same = absurd (omega (arith, four-size (a ∷ []) 192 is same refl))
fdt-says (a ∷ b ∷ []) is all same = absurd (omega (arith, four-size (a ∷ b ∷ []) 192 is same refl))
fdt-says (a ∷ b ∷ c ∷ []) is all same = absurd (omega (arith, four-size (a ∷ b ∷ c ∷ []) 192 is same refl))
fdt-says (a ∷ b ∷ c ∷ d ∷ []) is all same = fdt-four a b c d (All-tail (λ byte. byte < 256) a (b ∷ c ∷ d ∷ []) all) same (is.fdt same)
fdt-says (a ∷ b ∷ c ∷ d ∷ x ∷ xs) is all same = absurd (omega (arith, four-size (a ∷ b ∷ c ∷ d ∷ x ∷ xs) 192 is same refl))

-- ---- EXT_FTI

pub fti-read : (fti : Fti) → fti.transfer < 2 ^ 48 → fti.instance < 2 ^ 16 → fti.symbol < 2 ^ 16 → length fti.tail ≡ 4
    → fti_of (fti_extension fti) ≡ fti
unfolding be_bytes
fti-read fti transfer instance symbol tail =
    let a = numbers_read_back 6 fti.transfer transfer in
    let b = numbers_read_back 2 fti.instance instance in
    let c = numbers_read_back 2 fti.symbol symbol in
    let d : take 4 fti.tail ≡ fti.tail = take_all 4 fti.tail (omega arith) in
    rw (a, b, c, d) refl

fti-is : (e : List ℕ) (fti : Fti) → IsFti e fti → fti ≡ fti_of e
fti-is e fti is = sym (ap fti_of is.joined ∙ fti-read fti is.transfer is.instance is.symbol is.tail)

two-first : (e : List ℕ) → 2 ≤ length e → e ≡ slice_index e 0 ∷ slice_index e 1 ∷ drop 2 e
two-first [] some = absurd (omega arith)
two-first (a ∷ []) some = absurd (omega arith)
two-first (a ∷ b ∷ more) some = refl

fti-says : (e : List ℕ) → IsExtension e → AreBytes e → het e ≡ 64 → IsFti e (fti_of e)
unfolding be_bytes
fti-says e is all same =
    let words : hel e ≡ 4 = is.fti same in
    let size : length e ≡ 16 = is.whole ∙ ap₂ (λ h n. cond (nat_lt h 128) (4 * n) 4) same words in
    let six = number-back e 2 8 6 all (omega arith) (omega arith) refl in
    let two = number-back e 8 10 2 all (omega arith) (omega arith) refl in
    let next = number-back e 10 12 2 all (omega arith) (omega arith) refl in
    let rest : drop 12 e ≡ slice_range e 12 16 = sym (take_all 4 (drop 12 e) (omega (arith, length-drop 12 e))) in
    record {
      joined =
          two-first e (omega arith)
          ∙ ap₂ (λ h n. h ∷ n ∷ drop 2 e) same words
          ∙ ap (λ l. 64 ∷ 4 ∷ l)
          (cut e 2 8 (omega arith)
          ∙ ap₂ (λ x y. x ++ y) (sym six)
          (cut e 8 10 (omega arith)
          ∙ ap₂ (λ x y. x ++ y) (sym two) (cut e 10 12 (omega arith) ∙ ap₂ (λ x y. x ++ y) (sym next) rest)));
      transfer = number-below e 2 8 6 all (omega arith) (omega arith) refl;
      instance = number-below e 8 10 2 all (omega arith) (omega arith) refl;
      symbol = number-below e 10 12 2 all (omega arith) (omega arith) refl;
      tail = size-between e 12 16 (omega arith) (omega arith);
    }

-- ---- EXT_CENC

cenc-is : (e : List ℕ) (a : ℕ) → IsCenc e a → a ≡ algorithm e
cenc-is e a is = sym (ap algorithm is.joined)

cenc-says : (e : List ℕ) → IsExtension e → AreBytes e → het e ≡ 193 → IsCenc e (algorithm e)
cenc-says e is all same =
    let size = four-size e 193 is same refl in
    record { reserved = drop 2 e; joined = two-first e (omega arith) ∙ ap (λ h. h ∷ slice_index e 1 ∷ drop 2 e) same }

-- ---- the first of a kind

says-function : {A : Type 0} (Is : List ℕ → A → Type 0) (f : List ℕ → A) (o : Option (List ℕ)) (x : Option A) → ((e : List ℕ) (a : A) → Is e a → a ≡ f e)
    → Says Is o x → x ≡ option_map f o
says-function Is f None None same is = refl
says-function Is f None (Some a) same is = absurd is
says-function Is f (Some e) None same is = absurd is
says-function Is f (Some e) (Some a) same is = ap Some (same e a is)

pub fdt-function : (o : Option (List ℕ)) (x : Option ℕ) → Says IsFdt o x → x ≡ option_map instance_id o
fdt-function o x is = says-function IsFdt instance_id o x fdt-is is

pub fti-function : (o : Option (List ℕ)) (x : Option Fti) → Says IsFti o x → x ≡ option_map fti_of o
fti-function o x is = says-function IsFti fti_of o x fti-is is

pub cenc-function : (o : Option (List ℕ)) (x : Option ℕ) → Says IsCenc o x → x ≡ option_map algorithm o
cenc-function o x is = says-function IsCenc algorithm o x cenc-is is

same-true : (a b : ℕ) → (a == b) ≡ true → a ≡ b
same-true a b is = grind (arith, common_steps)

says-chosen : {A : Type 0} (Is : List ℕ → A → Type 0) (f : List ℕ → A) (e : List ℕ) (o : Option (List ℕ)) (b : Bool) → (b ≡ true → Is e (f e))
    → Says Is o (option_map f o) → Says Is (cond b (Some e) o) (option_map f (cond b (Some e) o))
says-chosen Is f e o true one others = one refl
says-chosen Is f e o false one others = others

function-says : {A : Type 0} (Is : List ℕ → A → Type 0) (f : List ℕ → A) (kind : ℕ) (es : List (List ℕ))
    → ((e : List ℕ) → IsExtension e → AreBytes e → het e ≡ kind → Is e (f e)) → AllByRecursion IsExtension es → AllByRecursion AreBytes es
    → Says Is (first_of kind es) (option_map f (first_of kind es))
function-says Is f kind [] one each all = tt
function-says Is f kind (e ∷ es) one each all =
    says-chosen Is f e (first_of kind es) (het e == kind) (λ is. one e each.0 all.0 (same-true (het e) kind is))
    (function-says Is f kind es one each.1 all.1)

pub function-fdt : (es : List (List ℕ)) → AllByRecursion IsExtension es → AllByRecursion AreBytes es → Says IsFdt (first_of 192 es) (option_map instance_id (first_of 192 es))
function-fdt es each all = function-says IsFdt instance_id 192 es fdt-says each all

pub function-fti : (es : List (List ℕ)) → AllByRecursion IsExtension es → AllByRecursion AreBytes es → Says IsFti (first_of 64 es) (option_map fti_of (first_of 64 es))
function-fti es each all = function-says IsFti fti_of 64 es fti-says each all

pub function-cenc : (es : List (List ℕ)) → AllByRecursion IsExtension es → AllByRecursion AreBytes es → Says IsCenc (first_of 193 es) (option_map algorithm (first_of 193 es))
function-cenc es each all = function-says IsCenc algorithm 193 es cenc-says each all

front-bytes : (xs ys : List ℕ) → AreBytes (xs ++ ys) → AreBytes xs
front-bytes xs ys all = subst AreBytes (take-append_seam xs ys) (All-take (λ byte. byte < 256) (length xs) (xs ++ ys) all)

back-bytes : (xs ys : List ℕ) → AreBytes (xs ++ ys) → AreBytes ys
back-bytes xs ys all = subst AreBytes (drop-append_seam xs ys) (All-drop (λ byte. byte < 256) (length xs) (xs ++ ys) all)

pub each-bytes : (es : List (List ℕ)) → AreBytes (concat es) → AllByRecursion AreBytes es
each-bytes [] all = tt
each-bytes (e ∷ es) all = (front-bytes e (concat es) all, each-bytes es (back-bytes e (concat es) all))

-- with one more extension behind them
pub says-more : {A : Type 0} (Is : List ℕ → A → Type 0) (o p : Option (List ℕ)) (x y : Option A) → Says Is o x → Says Is p y
    → Says Is (option_or o p) (option_or x y)
says-more Is None p None y is more = more
says-more Is None p (Some a) y is more = absurd is
says-more Is (Some e) p None y is more = absurd is
says-more Is (Some e) p (Some a) y is more = is

-- ---- the body

pub body-is : (bytes : List ℕ) (body : Body) → IsBody bytes (Some body) → (4 ≤ length bytes) × (body ≡ body_in bytes)
unfolding be_bytes
body-is bytes body is =
    let a = numbers_read_back 2 body.sbn is.1 in
    let b = numbers_read_back 2 body.esi is.2 in
    subst (λ l. (4 ≤ length l) × (body ≡ body_in l)) (sym is.0) (omega arith, rw (a, b) refl)

pub body-parts : (bytes : List ℕ) → AreBytes bytes → 4 ≤ length bytes → IsBody bytes (Some (body_in bytes))
unfolding be_bytes
body-parts bytes all some =
    let sbn = number-back bytes 0 2 2 all (omega arith) (omega arith) refl in
    let esi = number-back bytes 2 4 2 all (omega arith) (omega arith) refl in (
      cut bytes 0 2 (omega arith) ∙ ap₂ (λ x y. x ++ y) (sym sbn) (cut bytes 2 4 (omega arith) ∙ ap (λ x. x ++ drop 4 bytes) (sym esi)),
      number-below bytes 0 2 2 all (omega arith) (omega arith) refl,
      number-below bytes 2 4 2 all (omega arith) (omega arith) refl,
    )
