-- What a description says of its blocks, why a packet of an object is dropped, and what one that isn't does.
use Rattle.std.proofs.Common.{◌≡◌, ℕ, ◌+◌, ◌-◌, ◌<◌, ◌≤◌, ◌==◌, max, nat_le, Bool, true, false, cond, List, [], length, get_or, set, sum, position, Option, Some, None, refl, sym, ap, ◌∙◌, arith, leb-false, ltb-false, eqb-true}
use Rattle.std.proofs.lemmas.List.{get_or-set_same}
use Rattle.std.proofs.lemmas.Grind.{common_steps}
use Rattle.std.proofs.lemmas.List.Sums.{get_or-le-sum_by}
use Rattle.mb_geom.specs.Description.{Description, IsGood, block_sizes, block_size, block_count, is_block_size}
use Rattle.mb_geom.specs.declared.desc.Scheme.{Scheme}
use Rattle.mb_geom.specs.declared.desc.Scheme.TheVariants.{NoCode, Raptor}
use Rattle.mb_geom.specs.Partition.{ceiling}
use Rattle.mb_alc.specs.Packet.{Packet, Body}
use Rattle.mb_window.specs.Symbols.{symbol_count}
use Rattle.mb_encoder.specs.Solutions.{Pair}
use Rattle.mb_way.specs.Heard.{hear_pairs}
use Rattle.mb_way.proofs.SizeLemmas.{size-allowed}
use Rattle.mb_file.proofs.RunLemmas.{length-pairs_from}
use Rattle.mb_life.specs.Life.{Life, way_in, kept_in, hear_in_block}
use Rattle.mb_life.specs.Hearing.{CanHear, hear_payload}
use Rattle.mb_machine.specs.Table.{Table, life_of, change_life}
use Rattle.mb_machine.specs.Packets.{Stepped, esi_end, is_past_block, symbols_refused, object_reason, pairs_of, news, hear_unless, hear_object}
use Rattle.mb_machine.specs.declared.reason.Reason.{Reason}
use Rattle.mb_machine.specs.declared.reason.Reason.TheVariants as reason
use Rattle.mb_machine.specs.declared.happened.Happened.TheVariants.{Dropped, Heard}
use Rattle.mb_geom.proofs.PartitionLemmas.{ceiling-le}
use Rattle.mb_geom.proofs.LayoutLemmas.{sum-block_sizes}
use Rattle.mb_machine.proofs.HandOutLemmas.{found_passes}
use Rattle.mb_objects.specs.Stepping.{Steps}
use Rattle.mb_objects.proofs.PlaceLemmas.{IsLifeAt, life_of-at, life_of-none, change_life-at}

some_symbol : (s : Scheme) (k : ℕ) → is_block_size s k ≡ true → 0 < k
some_symbol (NoCode b) k is = grind (arith, common_steps)
some_symbol (Raptor z n al) k is = grind (arith, common_steps)

-- a file with a block has a byte
pub some-length : (d : Description) (sbn : ℕ) → IsGood d → sbn < block_count d → 0 < d.length
some-length d sbn good within =
    let some : 0 < block_size d sbn = some_symbol d.scheme (block_size d sbn) (size-allowed d sbn good within) in
    let among : block_size d sbn ≤ sum (block_sizes d) = get_or-le-sum_by (λ (k : ℕ). k) (block_sizes d) sbn 0 within in
    omega (arith, some, among, sum-block_sizes d good, ceiling-le d.length d.symbol good.symbol)

-- ---- symbols that nothing refuses

esi_end-most : (s : Scheme) (k : ℕ) → is_block_size s k ≡ true → esi_end s k ≤ 65536
esi_end-most (NoCode b) k is = grind (arith, common_steps)
esi_end-most (Raptor z n al) k is = omega arith

not_refused : (b : Bool) (why : Reason) (other : Option Reason) → cond b (Some why) other ≡ None → (b ≡ false) × (other ≡ None)
not_refused true why other none = absurd cc
not_refused false why other none = (refl, none)

-- a life that wasn't handed out can hear them
pub can-hear : (life : Life) (body : Body) → IsGood life.desc → symbols_refused life.desc body ≡ None → life.done ≡ false
    → CanHear life body.sbn body.esi (length body.payload)
can-hear life body good none live =
    let d = life.desc in
    let block = not_refused (nat_le (block_count d) body.sbn) _ _ none in
    let symbol = not_refused (is_past_block d body) _ _ block.1 in
    let there : body.sbn < block_count d = leb-false (block_count d) body.sbn block.0 in
    let within : body.esi + max (symbol_count d body) 1 ≤ esi_end d.scheme (block_size d body.sbn) =
    ltb-false (esi_end d.scheme (block_size d body.sbn)) (body.esi + max (symbol_count d body) 1) symbol.0 in
    record {
      live = live;
      block = there;
      within = omega (arith, within, esi_end-most d.scheme (block_size d body.sbn) (size-allowed d body.sbn good there));
    }

-- ---- what a packet of an object does

pub unknown-object : (toi : ℕ) (lives : List Life) (p : Packet) (body : Body) (t : Table) → position (λ life. life.toi == toi) lives ≡ None
    → Steps t (hear_object (life_of toi lives) p body (record t { lives = lives })) t.slots lives (Dropped reason.Unknown)
unknown-object toi lives p body t none =
    ap (λ (o : Option Life). hear_object o p body (record t { lives = lives })) (life_of-none toi lives none)

pub dropped-object : (toi : ℕ) (lives : List Life) (p : Packet) (body : Body) (t : Table) (life : Life) (place : ℕ) (why : Reason) → IsLifeAt toi lives place life
    → object_reason life p body ≡ Some why → Steps t (hear_object (life_of toi lives) p body (record t { lives = lives })) t.slots lives (Dropped why)
dropped-object toi lives p body t life place why at is =
    ap (λ (o : Option Life). hear_object o p body (record t { lives = lives })) (life_of-at toi lives place life at)
    ∙ ap (λ (o : Option Reason). hear_unless o life body.sbn (pairs_of life.desc body) (record t { lives = lives })) is

same-step : (t : Table) (a b : List Life) (m n sbn k l x y : ℕ) → a ≡ b → m ≡ n → k ≡ l → x ≡ y
    → ◌≡◌ {A = Stepped} (record { table = record t { lives = a }; happened = Heard m sbn k x }) (record { table = record t { lives = b }; happened = Heard n sbn l y })
same-step t a b m n sbn k l x y lives toi kept rest = rw (lives, toi, kept, rest) refl

-- how many pairs more a block keeps
news-are : (life : Life) (sbn : ℕ) (pairs : List Pair) → sbn < length life.kept
    → news life sbn pairs ≡ length (kept_in sbn (hear_in_block sbn pairs life)) - length (kept_in sbn life)
news-are life sbn pairs there =
    ap (λ (ps : List Pair). length ps - length (kept_in sbn life)) (sym (get_or-set_same life.kept sbn (hear_pairs (way_in sbn life) (kept_in sbn life) pairs) [] there))

pub heard-object : (toi : ℕ) (lives new : List Life) (p : Packet) (body : Body) (t : Table) (life d : Life) (place kept determined : ℕ) → IsLifeAt toi lives place life
    → place < length lives → object_reason life p body ≡ None → body.sbn < length life.kept → new ≡ set lives place (hear_payload body.sbn body.esi body.payload life)
    → kept ≡ length (kept_in body.sbn (get_or new place d)) - length (kept_in body.sbn life) → determined ≡ ceiling (length body.payload) life.desc.symbol - kept
    → Steps t (hear_object (life_of toi lives) p body (record t { lives = lives })) t.slots new (Heard toi body.sbn kept determined)
heard-object toi lives new p body t life d place kept determined at within none there new_is kept_is determined_is =
    let pairs : List Pair = pairs_of life.desc body in
    let found : life_of toi lives ≡ Some life = life_of-at toi lives place life at in
    let own : life.toi ≡ toi = eqb-true life.toi toi (found_passes (λ (l : Life). l.toi == toi) lives life found) in
    let changed : change_life life.toi (hear_in_block body.sbn pairs) lives ≡ new =
    ap (λ (n : ℕ). change_life n (hear_in_block body.sbn pairs) lives) own
    ∙ (change_life-at toi (hear_in_block body.sbn pairs) lives place life at ∙ sym new_is) in
    let heard : get_or new place d ≡ hear_in_block body.sbn pairs life =
    ap (λ (ls : List Life). get_or ls place d) new_is ∙ get_or-set_same lives place (hear_in_block body.sbn pairs life) d within in
    let more : news life body.sbn pairs ≡ kept =
    news-are life body.sbn pairs there
    ∙ (ap (λ (l : Life). length (kept_in body.sbn l) - length (kept_in body.sbn life)) (sym heard) ∙ sym kept_is) in
    let rest : length pairs - news life body.sbn pairs ≡ determined =
    omega (arith, length-pairs_from (ceiling (length body.payload) life.desc.symbol) life.desc.symbol body.esi body.payload, more, determined_is) in
    ap (λ (o : Option Life). hear_object o p body (record t { lives = lives })) found
    ∙ (ap (λ (o : Option Reason). hear_unless o life body.sbn pairs (record t { lives = lives })) none
    ∙ same-step t _ new life.toi toi body.sbn (news life body.sbn pairs) kept (length pairs - news life body.sbn pairs) determined changed own more rest)
