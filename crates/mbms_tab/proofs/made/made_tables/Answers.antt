use Rattle.std.proofs.Common.{◌≡◌, string_bytes, MatchOption, Option, subst, arith}
use Rattle.mb_tables.specs.Limits.{IsRow}
use Rattle.mb_tables.specs.declared.row.Row.{Row}
use Rattle.mbms_tab.specs.Make.{HasNoJ, IsMadeRow}
use Rattle.mbms_tab.proofs.MakeLemmas.{made_to-none, made_to-size, made_to-next, made_to-lacks, made_to-all}
use Rattle.mbms_tab.proofs.made.made_tables.Goals as goal

pub loop-text-init : goal.loop-text-init
loop-text-init g c = made_to-none c.args.words.now c.in_ok-tables.tables c.args.texts.now c.in_ok-tables.ensures c.requires.none c.requires.sizes

pub unreachable-requires : goal.unreachable-requires
unreachable-requires g c =
    let bytes = c.as_bytes.result.now in
    let is : bytes ≡ string_bytes c.text-item.result = cc (c.as_bytes.ensures.value, c.as_str.ensures.value) in
    let size = made_to-size c.args.words.now c.loop-text.tables c.args.texts.now c.loop-text.text-index c.text-item.result bytes c.loop-text.invariant c.loop-text-test.true c.text-item.is is in
    c.in_default.ensures.none size.0

pub returns-in_default-found : goal.returns-in_default-found
returns-in_default-found g c =
    let words = c.args.words.now in
    let k = c.in-Some.k in
    let bytes = c.as_bytes.result.now in
    let is : bytes ≡ string_bytes c.text-item.result = cc (c.as_bytes.ensures.value, c.as_str.ensures.value) in
    made_to-lacks words c.args.texts.now c.loop-text.text-index k c.text-item.result bytes c.loop-text-test.true c.text-item.is is c.in-Some.ensures.size.1 c.requires.words
    (subst (λ (o : Option Row). MatchOption o (HasNoJ words k) (λ row. IsMadeRow words k row × IsRow row)) c.in_default-found.is c.in_ok-found.ensures)

pub add_row-requires-clause-above : goal.add_row-requires-clause-above
add_row-requires-clause-above g c =
    let words = c.args.words.now in
    let k = c.in-Some.k in
    let bytes = c.as_bytes.result.now in
    let is : bytes ≡ string_bytes c.text-item.result = cc (c.as_bytes.ensures.value, c.as_str.ensures.value) in
    let size = made_to-size words c.loop-text.tables c.args.texts.now c.loop-text.text-index c.text-item.result bytes c.loop-text.invariant c.loop-text-test.true c.text-item.is is in
    let made = subst (λ (o : Option Row). MatchOption o (HasNoJ words k) (λ row. IsMadeRow words k row × IsRow row)) c.in-Some-found.is c.in_ok-found.ensures in
    λ n d inside. let below = size.1 n d inside in omega (arith, below, made.0.made.k_is, c.in-Some.ensures.size.1)

pub loop-text-preserved : goal.loop-text-preserved
loop-text-preserved g c =
    let words = c.args.words.now in
    let k = c.in-Some.k in
    let bytes = c.as_bytes.result.now in
    let is : bytes ≡ string_bytes c.text-item.result = cc (c.as_bytes.ensures.value, c.as_str.ensures.value) in
    let made = subst (λ (o : Option Row). MatchOption o (HasNoJ words k) (λ row. IsMadeRow words k row × IsRow row)) c.in-Some-found.is c.in_ok-found.ensures in
    made_to-next words c.loop-text.tables c.add_row.new.tables c.args.texts.now c.loop-text.text-index k c.text-item.result bytes c.in-Some-found.row c.loop-text.invariant
    c.loop-text-test.true c.text-item.is is c.in-Some.ensures.size.1 made.0 c.in_ok-add_row.ensures

pub returns : goal.returns
returns g c =
    made_to-all c.args.words.now c.loop-text.tables c.args.texts.now c.loop-text.text-index c.loop-text.invariant (omega (arith, c.loop-text-test.false)) c.requires.words
