-- The fault of bytes is what their shortest front shows that shows any, or that they end too early.
use Rattle.std.proofs.Common.{◌≡◌, ◌≢◌, ◌⊎◌, ℕ, suc, ◌-◌, ◌<◌, ◌≤◌, List, [], ◌∷◌, ◌++◌, length, take, drop, Ok, Err, IsUtf8, refl, sym, ap, subst, ◌∙◌, inl, inr, arith, append_assoc, append-nil, length-append, length-take-le, take_at, take_all, take-append-drop}
use Rattle.std.specs.Str.{IsValidUpTo}
use Rattle.std.proofs.lemmas.Bool.{cases_lt}
use Rattle.std.proofs.lemmas.List.{take-append-le}
use Rattle.mb_fdt_text.specs.declared.fdt.FdtFault.{FdtFault}
use Rattle.mb_fdt_text.specs.declared.fdt.FdtKind.{FdtKind}
use Rattle.mb_fdt_text.specs.declared.fdt.FdtKind.TheVariants.{NotUtf8, Syntax, Forbidden, Depth, NoExpires, BadExpires, RepeatedAttribute, TooManyFiles}
use Rattle.mb_fdt_text.specs.Text.{Text, text_bytes, IsText, IsBeginning}
use Rattle.mb_fdt_text.specs.Faults.{ShowsOther, ShowsNoOther, MayGoOn, PassesBelow, IsShownFirst, IsLongestBeginning, IsSyntaxFault, IsFaultOf, IsFault, Shows, ShowsNothingBelow, ShowsFirst, EndsEarly, IsFaultShown}
use Rattle.mb_fdt_text.specs.Reader.{begin, Next, steps}
use Rattle.mb_fdt_text.specs.Laws.{FaultsAreShown, NotUtf8IsShown}
use Rattle.mb_fdt_text.proofs.Counting.{counts_from_begin}
use Rattle.mb_fdt_text.proofs.Invariant.{stop_place, Outcome}
use Rattle.mb_fdt_text.proofs.Growth.{Stops, Traced, traced, grow, after_one}
use Rattle.mb_fdt_text.proofs.Beginnings.{begins_front}
use Rattle.mb_fdt_text.proofs.Prefixes.{passes, passes_below as fronts_pass, stops_all}
use Rattle.mb_fdt_text.proofs.Stopping.{front_more, stop_longest}
use Rattle.mb_fdt_text.proofs.FaultLaws.{stops_show}

-- ---- fronts of fronts

-- a front of a front is a front
front_of : (bytes : List ℕ) (n m : ℕ) → n ≤ m → m ≤ length bytes → take n (take m bytes) ≡ take n bytes
front_of bytes n m le within =
    let len = length-take-le m bytes within in
    sym (ap (take n) (sym (take-append-drop m bytes)) ∙ take-append-le n (take m bytes) (drop m bytes) (omega (arith, len)))

-- a front of what begins a text begins one
front_begins : (bytes : List ℕ) (n m : ℕ) → n ≤ m → m ≤ length bytes → IsBeginning (take m bytes) → IsBeginning (take n bytes)
front_begins bytes n m le within =
    let len = length-take-le n bytes (omega arith) in
    begins_front (take n bytes) (take (m - length (take n bytes)) (drop n bytes)) (take m bytes)
    (front_more bytes (take n bytes) (drop n bytes) m (sym (take-append-drop n bytes)) (omega (arith, len)))

-- the longest front that begins a text, in bytes and in a front of them that begins none
cut_longest : (bytes : List ℕ) (n place : ℕ) → n ≤ length bytes → ¬ (IsBeginning (take n bytes)) → IsLongestBeginning bytes place → IsLongestBeginning (take n bytes) place
cut_longest bytes n place within never is = elim (cases_lt place n) [
  | inl less ↦ (let len = length-take-le n bytes within in record {
    within = omega (arith, len);
    begins = subst IsBeginning (sym (front_of bytes place n (omega arith) within)) is.begins;
    longest = λ m above most begins. is.longest m above (omega (arith, len)) (subst IsBeginning (front_of bytes m n (omega (arith, len)) within) begins);
  })
  | inr more ↦ absurd (never (front_begins bytes n place more is.within is.begins))
]

whole_longest : (bytes : List ℕ) (n place : ℕ) → n ≤ length bytes → ¬ (IsBeginning (take n bytes)) → IsLongestBeginning (take n bytes) place → IsLongestBeginning bytes place
whole_longest bytes n place within never is =
    let len = length-take-le n bytes within in
    let le = is.within in
    record {
      within = omega (arith, len);
      begins = subst IsBeginning (front_of bytes place n (omega (arith, len)) within) is.begins;
      longest = λ m above most begins. elim (cases_lt n m) [
        | inl beyond ↦ never (front_begins bytes n m (omega arith) most begins)
        | inr inside ↦ is.longest m above (omega (arith, len)) (subst IsBeginning (sym (front_of bytes m n inside within)) begins)
      ];
    }

-- ---- where a reader stops, some front shows why

record IsShownIn (xs : List ℕ) : Type 0 where
  found : ℕ
  within : found ≤ length xs
  kind : FdtKind
  place : ℕ
  shows : Shows (take found xs) kind place

shows_other : (xs : List ℕ) (kind : FdtKind) (place : ℕ) → ShowsOther xs kind place → Shows xs kind place
shows_other xs NotUtf8 place shows = absurd shows
shows_other xs Syntax place shows = absurd shows
shows_other xs Forbidden place shows = shows
shows_other xs Depth place shows = shows
shows_other xs NoExpires place shows = shows
shows_other xs BadExpires place shows = shows
shows_other xs RepeatedAttribute place shows = shows
shows_other xs TooManyFiles place shows = shows

stops_shown : (xs : List ℕ) (fault : FdtFault) → Stops xs fault → IsShownIn xs
stops_shown xs fault s =
    by_outcome (subst (Outcome (stop_place s.r s.r.token) (s.before ++ s.b ∷ [])) s.stops (grow s.r s.before s.b (counts_from_begin s.before s.r s.read) s.reads))
  where
    found : steps (Ok begin) (s.before ++ s.b ∷ []) ≡ Err fault
    found = after_one s.before s.b s.r s.read ∙ s.stops

    front : take (suc (length s.before)) xs ≡ s.before ++ s.b ∷ []
    front =
        ap (take (suc (length s.before))) (s.whole ∙ sym (append_assoc s.before (s.b ∷ []) s.rest))
        ∙ take_at (s.before ++ s.b ∷ []) s.rest (suc (length s.before)) (length-append s.before (s.b ∷ []) ∙ omega arith)

    shown_by : (kind : FdtKind) (place : ℕ) → Shows (s.before ++ s.b ∷ []) kind place → IsShownIn xs
    shown_by kind place shows = record {
      found = suc (length s.before);
      within = omega (arith, ap length s.whole, length-append s.before (s.b ∷ s.rest));
      kind = kind;
      place = place;
      shows = subst (λ (l : List ℕ). Shows l kind place) (sym front) shows;
    }

    by_outcome : Outcome (stop_place s.r s.r.token) (s.before ++ s.b ∷ []) (Err fault) → IsShownIn xs
    by_outcome (inl syntax) = shown_by Syntax (stop_place s.r s.r.token) (record {
      never = stops_all (s.before ++ s.b ∷ []) fault found syntax.0;
      other = stops_show (s.before ++ s.b ∷ []) fault found syntax.0;
      place_is = stop_longest (s.before ++ s.b ∷ []) s.before [] s.b s.r fault refl s.read s.reads found syntax.0;
    })
    by_outcome (inr shows) = shown_by fault.kind fault.place (shows_other (s.before ++ s.b ∷ []) fault.kind fault.place shows)

-- ---- nothing is found in fewer bytes exactly where they show nothing

nothing_below : (bytes : List ℕ) (n : ℕ) → IsUtf8 bytes → PassesBelow bytes n → ShowsNothingBelow bytes n
nothing_below bytes n utf8 first m below NotUtf8 place shows = shows.never (drop m bytes) (subst IsUtf8 (sym (take-append-drop m bytes)) utf8)
nothing_below bytes n utf8 first m below Syntax place shows = shows.never (first m below).0
nothing_below bytes n utf8 first m below Forbidden place shows = (first m below).1 Forbidden place shows
nothing_below bytes n utf8 first m below Depth place shows = (first m below).1 Depth place shows
nothing_below bytes n utf8 first m below NoExpires place shows = (first m below).1 NoExpires place shows
nothing_below bytes n utf8 first m below BadExpires place shows = (first m below).1 BadExpires place shows
nothing_below bytes n utf8 first m below RepeatedAttribute place shows = (first m below).1 RepeatedAttribute place shows
nothing_below bytes n utf8 first m below TooManyFiles place shows = (first m below).1 TooManyFiles place shows

front_passes : (bytes : List ℕ) (n m : ℕ) → n ≤ suc (length bytes) → ShowsNothingBelow bytes n → m < n → MayGoOn (take m bytes) × ShowsNoOther (take m bytes)
front_passes bytes n m within nothing below = by_step (steps (Ok begin) (take m bytes)) refl (traced (take m bytes))
  where
    by_step : (next : Next) → steps (Ok begin) (take m bytes) ≡ next → Traced (take m bytes) next → MayGoOn (take m bytes) × ShowsNoOther (take m bytes)
    by_step (Ok r) same trace = passes (take m bytes) r same
    by_step (Err fault) same trace =
        let is = stops_shown (take m bytes) fault trace in
        let le = is.within in
        let len = length-take-le m bytes (omega arith) in
        absurd (nothing is.found (omega (arith, len)) is.kind is.place
        (subst (λ (l : List ℕ). Shows l is.kind is.place) (front_of bytes is.found m (omega (arith, len)) (omega arith)) is.shows))

passes_below : (bytes : List ℕ) (n : ℕ) → n ≤ suc (length bytes) → ShowsNothingBelow bytes n → PassesBelow bytes n
passes_below bytes n within nothing m below = front_passes bytes n m within nothing below

-- ---- the fault of bytes is the one of the sentence

first_shown : (bytes : List ℕ) (kind : FdtKind) (place : ℕ) → IsUtf8 bytes → IsShownFirst bytes kind place → ShowsFirst bytes kind place
first_shown bytes kind place utf8 is = record {
  found = is.found;
  within = is.within;
  shows = shows_other (take is.found bytes) kind place is.shows;
  first = nothing_below bytes is.found utf8 is.first;
}

-- bytes that show something, and none of the other kinds, go on as no text
shown_never : (bytes : List ℕ) (n : ℕ) (kind : FdtKind) (place : ℕ) → IsUtf8 bytes → ShowsNoOther (take n bytes) → Shows (take n bytes) kind place → ¬ (MayGoOn (take n bytes))
shown_never bytes n NotUtf8 place utf8 none shows = absurd (shows.never (drop n bytes) (subst IsUtf8 (sym (take-append-drop n bytes)) utf8))
shown_never bytes n Syntax place utf8 none shows = shows.never
shown_never bytes n Forbidden place utf8 none shows = absurd (none Forbidden place shows)
shown_never bytes n Depth place utf8 none shows = absurd (none Depth place shows)
shown_never bytes n NoExpires place utf8 none shows = absurd (none NoExpires place shows)
shown_never bytes n BadExpires place utf8 none shows = absurd (none BadExpires place shows)
shown_never bytes n RepeatedAttribute place utf8 none shows = absurd (none RepeatedAttribute place shows)
shown_never bytes n TooManyFiles place utf8 none shows = absurd (none TooManyFiles place shows)

module _ (bytes : List ℕ) (place : ℕ) (utf8 : IsUtf8 bytes) (is : IsSyntaxFault bytes place) where
  never_shown : ¬ (MayGoOn (take is.found bytes)) → ShowsFirst bytes Syntax place
  never_shown never = record {
    found = is.found;
    within = is.within;
    shows = record { never = never; other = is.none; place_is = cut_longest bytes is.found place is.within (λ (begins : IsBeginning (take is.found bytes)). never (inl begins)) is.place_is };
    first = nothing_below bytes is.found utf8 is.first;
  }

  end_shown : is.found ≡ length bytes → ((t : Text) → IsText t → bytes ≢ text_bytes t) → ShowsFirst bytes Syntax place ⊎ EndsEarly bytes Syntax place
  end_shown end no_text = by_step (steps (Ok begin) bytes) refl (traced bytes)
    where
      never : (shown : IsShownIn bytes) → ¬ (MayGoOn (take is.found bytes))
      never shown = elim (cases_lt shown.found is.found) [
        | inl less ↦ absurd (nothing_below bytes is.found utf8 is.first shown.found less shown.kind shown.place shown.shows)
        | inr more ↦
            (let within = shown.within in let same : shown.found ≡ is.found = omega (arith, end) in
            shown_never bytes is.found shown.kind shown.place utf8 is.none (subst (λ (n : ℕ). Shows (take n bytes) shown.kind shown.place) same shown.shows))
      ]

      by_step : (next : Next) → steps (Ok begin) bytes ≡ next → Traced bytes next → ShowsFirst bytes Syntax place ⊎ EndsEarly bytes Syntax place
      by_step (Ok r) same trace = inr (record {
        kind_is = refl;
        nothing = nothing_below bytes (suc (length bytes)) utf8 (fronts_pass bytes bytes [] r (suc (length bytes)) (sym (append-nil bytes)) same (omega arith));
        no_text = no_text;
        place_is = is.place_is;
      })
      by_step (Err fault) same trace = inl (never_shown (never (stops_shown bytes fault trace)))

  syntax_shown : ShowsFirst bytes Syntax place ⊎ EndsEarly bytes Syntax place
  syntax_shown = elim is.stops [
    | inl never ↦ inl (never_shown never)
    | inr ended ↦ end_shown ended.0 ended.1
  ]

is_shown_of : (bytes : List ℕ) (kind : FdtKind) (place : ℕ) → IsFaultOf bytes kind place
    → ((kind ≡ NotUtf8) × IsValidUpTo bytes place) ⊎ (IsUtf8 bytes × (ShowsFirst bytes kind place ⊎ EndsEarly bytes kind place))
is_shown_of bytes NotUtf8 place is = inl (refl, is)
is_shown_of bytes Syntax place is = inr (is.0, syntax_shown bytes place is.0 is.1)
is_shown_of bytes Forbidden place is = inr (is.0, inl (first_shown bytes Forbidden place is.0 is.1))
is_shown_of bytes Depth place is = inr (is.0, inl (first_shown bytes Depth place is.0 is.1))
is_shown_of bytes NoExpires place is = inr (is.0, inl (first_shown bytes NoExpires place is.0 is.1))
is_shown_of bytes BadExpires place is = inr (is.0, inl (first_shown bytes BadExpires place is.0 is.1))
is_shown_of bytes RepeatedAttribute place is = inr (is.0, inl (first_shown bytes RepeatedAttribute place is.0 is.1))
is_shown_of bytes TooManyFiles place is = inr (is.0, inl (first_shown bytes TooManyFiles place is.0 is.1))

first_is : (bytes : List ℕ) (kind : FdtKind) (place : ℕ) → IsUtf8 bytes → (is : ShowsFirst bytes kind place) → ShowsOther (take is.found bytes) kind place → IsShownFirst bytes kind place
first_is bytes kind place utf8 is shows = record {
  found = is.found;
  within = is.within;
  shows = shows;
  first = passes_below bytes is.found (let within = is.within in omega arith) is.first;
}

syntax_is : (bytes : List ℕ) (place : ℕ) → (is : ShowsFirst bytes Syntax place) → IsSyntaxFault bytes place
syntax_is bytes place is = record {
  found = is.found;
  within = is.within;
  first = passes_below bytes is.found (let within = is.within in omega arith) is.first;
  none = is.shows.other;
  stops = inl is.shows.never;
  place_is = whole_longest bytes is.found place is.within (λ (begins : IsBeginning (take is.found bytes)). is.shows.never (inl begins)) is.shows.place_is;
}

from_first : (bytes : List ℕ) (kind : FdtKind) (place : ℕ) → IsUtf8 bytes → ShowsFirst bytes kind place → IsFaultOf bytes kind place
from_first bytes NotUtf8 place utf8 is = absurd (is.shows.never (drop is.found bytes) (subst IsUtf8 (sym (take-append-drop is.found bytes)) utf8))
from_first bytes Syntax place utf8 is = (utf8, syntax_is bytes place is)
from_first bytes Forbidden place utf8 is = (utf8, first_is bytes Forbidden place utf8 is is.shows)
from_first bytes Depth place utf8 is = (utf8, first_is bytes Depth place utf8 is is.shows)
from_first bytes NoExpires place utf8 is = (utf8, first_is bytes NoExpires place utf8 is is.shows)
from_first bytes BadExpires place utf8 is = (utf8, first_is bytes BadExpires place utf8 is is.shows)
from_first bytes RepeatedAttribute place utf8 is = (utf8, first_is bytes RepeatedAttribute place utf8 is is.shows)
from_first bytes TooManyFiles place utf8 is = (utf8, first_is bytes TooManyFiles place utf8 is is.shows)

from_end : (bytes : List ℕ) (kind : FdtKind) (place : ℕ) → IsUtf8 bytes → EndsEarly bytes kind place → IsFaultOf bytes Syntax place
from_end bytes kind place utf8 is =
    let passes = passes_below bytes (suc (length bytes)) (omega arith) is.nothing in (
      utf8,
      record {
        found = length bytes;
        within = omega arith;
        first = λ m below. passes m (omega arith);
        none = (passes (length bytes) (omega arith)).1;
        stops = inr (refl, is.no_text);
        place_is = is.place_is;
      },
    )

from_shown : (bytes : List ℕ) (fault : FdtFault) → IsFaultShown bytes fault → IsFault bytes fault
from_shown bytes fault (inl valid) = subst (λ (k : FdtKind). IsFaultOf bytes k fault.place) (sym valid.0) valid.1
from_shown bytes fault (inr (utf8, inl first)) = from_first bytes fault.kind fault.place utf8 first
from_shown bytes fault (inr (utf8, inr end)) = subst (λ (k : FdtKind). IsFaultOf bytes k fault.place) (sym end.kind_is) (from_end bytes fault.kind fault.place utf8 end)

-- the law of the sentence
pub faults_shown : FaultsAreShown
faults_shown bytes fault = (is_shown_of bytes fault.kind fault.place, from_shown bytes fault)

-- ---- no UTF-8

-- a front that shows that bytes are no UTF-8 shows it of all of them
pub utf8_shown : NotUtf8IsShown
utf8_shown bytes n place is = elim (cases_lt (length bytes) n) [
  | inl beyond ↦ subst (λ (l : List ℕ). IsValidUpTo l place) (take_all n bytes (omega arith)) is.place_is
  | inr within ↦ (let len = length-take-le n bytes within in let short = is.place_is.short in record {
    short = omega (arith, len);
    front = subst IsUtf8 (front_of bytes place n (omega (arith, len)) within) is.place_is.front;
    longest = λ m above utf8. elim (cases_lt n m) [
      | inl more ↦ is.never (take (m - length (take n bytes)) (drop n bytes)) (subst IsUtf8 (front_more bytes (take n bytes) (drop n bytes) m (sym (take-append-drop n bytes)) (omega (arith, len))) utf8)
      | inr inside ↦ is.place_is.longest m above (subst IsUtf8 (sym (front_of bytes m n inside within)) utf8)
    ];
  })
]
