-- A description is good exactly where some parts make it.
use Rattle.std.proofs.Common.{◌≡◌, ℕ, ◌<◌, ◌≤◌, ◌==◌, ◌^◌, Bool, true, false, not, nat_lt, List, [], ◌∷◌, Option, Some, None, IfSome, is_some, unwrap_or, Ok, refl, subst, arith, eq-eqb, le-ltb}
use Rattle.std.specs.List.{AllByRecursion}
use Rattle.std.proofs.lemmas.Bool.{ne_eqb}
use Rattle.std.proofs.lemmas.Grind.{common_steps}
use Rattle.mb_geom.specs.Description.{Description, description_of, refusals, first_fault, ok_unless, described, bad_block, block_count, SchemeFits, IsGood, AreParts, GoodAreMade}
use Rattle.mb_geom.specs.declared.desc.DescParts.{DescParts}
use Rattle.mb_geom.specs.declared.desc.DescFault.{DescFault}
use Rattle.mb_geom.specs.declared.desc.Scheme.{Scheme}
use Rattle.mb_geom.specs.declared.desc.Scheme.TheVariants.{NoCode}

-- the parts that say a description, with both lengths
abbrev pub parts_of : Description → DescParts
parts_of d = record {
  location = d.location;
  content_length = Some d.length;
  transfer_length = Some d.length;
  encoded = false;
  symbol = Some d.symbol;
  scheme = Some d.scheme;
  md5 = d.md5;
}

-- a good description comes from its parts
pub described_again : (d : Description) → IsGood d → described (parts_of d) ≡ Ok d
described_again d good =
    let same : (d.length == d.length) ≡ true = eq-eqb d.length d.length refl in
    let long : nat_lt (2 ^ 28) d.length ≡ false = le-ltb (2 ^ 28) d.length good.length in
    let some : (d.symbol == 0) ≡ false = ne_eqb d.symbol 0 (λ e. omega (arith, e, good.symbol)) in
    let many : nat_lt 65536 (block_count d) ≡ false = le-ltb 65536 (block_count d) good.blocks in
    rw (same, long, some, good.parameters, many, good.sizes) refl

-- where no refusal is the first, none holds
none_holds : (xs : List (Bool × DescFault)) → first_fault xs ≡ None → AllByRecursion (λ x. x.0 ≡ false) xs
none_holds [] none = tt
none_holds ((true, fault) ∷ xs) none = absurd cc
none_holds ((false, fault) ∷ xs) none = (refl, none_holds xs none)

no_fault : (fault : Option DescFault) (d e : Description) → ok_unless fault d ≡ Ok e → (fault ≡ None) × (d ≡ e)
no_fault None d e is = (refl, cc)
no_fault (Some fault) d e is = absurd cc

symbol_below : (symbol : Option ℕ) → IfSome symbol (λ t. t < 2 ^ 16) → unwrap_or symbol 0 < 2 ^ 16
symbol_below None fits = omega arith
symbol_below (Some t) fits = fits

scheme_below : (scheme : Option Scheme) → IfSome scheme SchemeFits → SchemeFits (unwrap_or scheme (NoCode 0))
scheme_below None fits = omega arith
scheme_below (Some scheme) fits = fits

not_below : (a b : ℕ) → nat_lt a b ≡ false → b ≤ a
not_below a b fails = grind (arith, common_steps)

not_zero : (n : ℕ) → (n == 0) ≡ false → 0 < n
not_zero n fails = grind (arith, common_steps)

not_not : (b : Bool) → not b ≡ false → b ≡ true
not_not true fails = refl
not_not false fails = absurd cc

is_nothing : {A : Type 0} (o : Option A) → is_some o ≡ false → o ≡ None
is_nothing None fails = refl
is_nothing (Some x) fails = absurd cc

made_is_good : (p : DescParts) → AreParts p → first_fault (refusals p) ≡ None → IsGood (description_of p)
made_is_good p are none =
    let fails = none_holds (refusals p) none in
    record {
      location = are.location;
      length = not_below (2 ^ 28) (description_of p).length fails.1.1.1.0;
      symbol = not_zero (description_of p).symbol fails.1.1.1.1.1.0;
      symbol_fits = symbol_below p.symbol are.symbol;
      scheme_fits = scheme_below p.scheme are.scheme;
      digest = are.digest;
      parameters = not_not _ fails.1.1.1.1.1.1.0;
      blocks = not_below 65536 (block_count (description_of p)) fails.1.1.1.1.1.1.1.0;
      sizes = is_nothing (bad_block (description_of p)) fails.1.1.1.1.1.1.1.1.0;
    }

-- the law of good descriptions
pub made : GoodAreMade
made d = (
  λ good. record {
    of = parts_of d;
    are = record { location = good.location; symbol = good.symbol_fits; scheme = good.scheme_fits; digest = good.digest };
    made = described_again d good;
  },
  λ is.
      (let parts = no_fault (first_fault (refusals is.of)) (description_of is.of) d is.made in
      subst IsGood parts.1 (made_is_good is.of is.are parts.0)),
)
