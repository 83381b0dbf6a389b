-- What a deed of a machine makes of its records, place by place, and of a ledger beside them.
use Rattle.std.proofs.Common.{Bool, List, None, Option, Some, [], ap, eq-eqb, eqb-true, false, ne_eqb, not, refl, subst, sym, true, ℕ, ◌&&◌, ◌++◌, ◌==◌, ◌||◌, ◌∙◌, ◌∷◌, ◌≡◌, ◌≢◌}
use Rattle.std.specs.Prelude.{if◌then◌else◌}
use Rattle.std.proofs.lemmas.List.Folds.{list_any-append}
use Rattle.std.proofs.lemmas.Bool.{not-true, and_parts}
use mathlib.Core.Bool.{and-false}
use Rattle.node_core.specs.Own.{Own, with_id_instead, without_id}
use Rattle.standings.specs.Deeds.{added, made, taken}
use Rattle.standings.specs.Ledger.{AreLegal, Ledger, are_different, empty_ledger, has_entry, ids_named, is_entry, is_found, is_missing, is_unseen, ledger_after, ledger_after_all}
use Rattle.standings.specs.Marks.{Owned, Where, has_at, has_id, intake, is_held, is_same_mark, kept, mark_at, outlet}
use Rattle.standings.specs.declared.deed.Deed.{Deed}
use Rattle.standings.specs.declared.entry.Entry.{Entry}
use Rattle.standings.proofs.Entries.{stands_after}
use Rattle.law_one_standing.proofs.LedgerWalk.{own_parts}

-- ---- the places of a machine

abbrev pub owned : Own → Owned
owned own = record { kept = own.kept; held = own.held; taking = own.taking }

abbrev pub entry_at : ℕ → Where → ℕ → Entry
entry_at machine place id = record { id = id; mark = mark_at place machine }

-- an id in a place
pub record Spot : Type 0 where
  pub place : Where
  pub id : ℕ

abbrev pub spot : Where → ℕ → Option Spot
spot place id = Some (record { place = place; id = id })

abbrev pub is_place : Where → Where → Bool
is_place kept kept = true
is_place outlet outlet = true
is_place intake intake = true
is_place _ _ = false

-- it is this id in this place
abbrev pub hits : Option Spot → Where → ℕ → Bool
hits None place id = false
hits (Some s) place id = (s.id == id) && is_place s.place place

abbrev pub entry_of : ℕ → Option Spot → Option Entry
entry_of machine None = None
entry_of machine (Some s) = Some (entry_at machine s.place s.id)

abbrev pub is_there : Option Spot → Own → Bool
is_there None own = true
is_there (Some s) own = has_at s.place (owned own) s.id

abbrev pub is_absent : Option Spot → Own → Bool
is_absent None own = true
is_absent (Some s) own = not (has_at s.place (owned own) s.id)

-- a record goes out of a place where it was, and into one where it was not
pub record Turns (own : Own) (out into : Option Spot) (after : Own) : Type 0 where
  pub found : is_there out own ≡ true
  pub missing : is_absent into own ≡ true
  pub now : (place : Where) (x : ℕ) → has_at place (owned after) x ≡ ((has_at place (owned own) x && not (hits out place x)) || hits into place x)

-- ---- tests

stays : (a b was : Bool) → was ≡ ((was && not (a && false)) || (b && false))
stays true true true = refl
stays true true false = refl
stays true false true = refl
stays true false false = refl
stays false true true = refl
stays false true false = refl
stays false false true = refl
stays false false false = refl

goes : (a b was now : Bool) → now ≡ (was && not a) → now ≡ ((was && not (a && true)) || (b && false))
goes true true true now is = is
goes true true false now is = is
goes true false true now is = is
goes true false false now is = is
goes false true true now is = is
goes false true false now is = is
goes false false true now is = is
goes false false false now is = is

comes : (a b was now : Bool) → now ≡ (was || b) → now ≡ ((was && not (a && false)) || (b && true))
comes true true true now is = is
comes true true false now is = is
comes true false true now is = is
comes true false false now is = is
comes false true true now is = is
comes false true false now is = is
comes false false true now is = is
comes false false false now is = is

-- where nothing goes, and where nothing comes
stays_in : (b was : Bool) → was ≡ ((was && not false) || (b && false))
stays_in true true = refl
stays_in true false = refl
stays_in false true = refl
stays_in false false = refl

comes_in : (b was now : Bool) → now ≡ (was || b) → now ≡ ((was && not false) || (b && true))
comes_in true true now is = is
comes_in true false now is = is
comes_in false true now is = is
comes_in false false now is = is

stays_out : (a was : Bool) → was ≡ ((was && not (a && false)) || false)
stays_out true true = refl
stays_out true false = refl
stays_out false true = refl
stays_out false false = refl

goes_out : (a was now : Bool) → now ≡ (was && not a) → now ≡ ((was && not (a && true)) || false)
goes_out true true now is = is
goes_out true false now is = is
goes_out false true now is = is
goes_out false false now is = is

changes : (a b was now : Bool) → now ≡ ((was && not a) || b) → now ≡ ((was && not (a && true)) || (b && true))
changes true true true now is = is
changes true true false now is = is
changes true false true now is = is
changes true false false now is = is
changes false true true now is = is
changes false true false now is = is
changes false false true now is = is
changes false false false now is = is

-- an id goes off the front of some that don't have it
off_front : (a h : Bool) → (a ≡ true → h ≡ false) → h ≡ ((a || h) && not a)
off_front true true none = none refl
off_front true false none = refl
off_front false true none = refl
off_front false false none = refl

gone_one : (a : Bool) → false ≡ (a && not a)
gone_one true = refl
gone_one false = refl

or_back : (a h : Bool) → (a || h) ≡ (h || a)
or_back true true = refl
or_back true false = refl
or_back false true = refl
or_back false false = refl

or_none : (h a : Bool) → (h || (a || false)) ≡ (h || a)
or_none true a = refl
or_none false true = refl
or_none false false = refl

not_has : (b : Bool) → b ≡ false → not b ≡ true
not_has b is = rw is refl

same_none : (id x : ℕ) (ids : List ℕ) → has_id id ids ≡ false → (id == x) ≡ true → has_id x ids ≡ false
same_none id x ids none is = ap (λ (y : ℕ). has_id y ids) (sym (eqb-true id x is)) ∙ none

pub has_first : (id : ℕ) (ids : List ℕ) → has_id id (id ∷ ids) ≡ true
has_first id ids = rw (eq-eqb id id refl) refl

-- ---- each deed

pub turns_opens : (id : ℕ) (ids : List ℕ) (taking : Option ℕ) → has_id id ids ≡ false → Turns (own_parts (id ∷ ids) None taking) (spot kept id) (spot outlet id) (own_parts ids (Some id) taking)
turns_opens id ids taking none = record { found = has_first id ids; missing = refl; now = now } where
  now : (place : Where) (x : ℕ) → has_at place (owned (own_parts ids (Some id) taking)) x ≡ ((has_at place (owned (own_parts (id ∷ ids) None taking)) x && not ((id == x) && is_place kept place)) || ((id == x) && is_place outlet place))
  now kept x = goes (id == x) (id == x) (has_id x (id ∷ ids)) (has_id x ids) (off_front (id == x) (has_id x ids) (same_none id x ids none))
  now outlet x = comes (id == x) (id == x) false (id == x) refl
  now intake x = stays (id == x) (id == x) (is_held x taking)

pub turns_returns : (id : ℕ) (ids : List ℕ) (taking : Option ℕ) → has_id id ids ≡ false → Turns (own_parts ids (Some id) taking) (spot outlet id) (spot kept id) (own_parts (id ∷ ids) None taking)
turns_returns id ids taking none = record { found = eq-eqb id id refl; missing = not_has (has_id id ids) none; now = now } where
  now : (place : Where) (x : ℕ) → has_at place (owned (own_parts (id ∷ ids) None taking)) x ≡ ((has_at place (owned (own_parts ids (Some id) taking)) x && not ((id == x) && is_place outlet place)) || ((id == x) && is_place kept place))
  now kept x = comes (id == x) (id == x) (has_id x ids) (has_id x (id ∷ ids)) (or_back (id == x) (has_id x ids))
  now outlet x = goes (id == x) (id == x) (id == x) false (gone_one (id == x))
  now intake x = stays (id == x) (id == x) (is_held x taking)

pub turns_leaves : (id : ℕ) (ids : List ℕ) (taking : Option ℕ) → Turns (own_parts ids (Some id) taking) (spot outlet id) None (own_parts ids None taking)
turns_leaves id ids taking = record { found = eq-eqb id id refl; missing = refl; now = now } where
  now : (place : Where) (x : ℕ) → has_at place (owned (own_parts ids None taking)) x ≡ ((has_at place (owned (own_parts ids (Some id) taking)) x && not ((id == x) && is_place outlet place)) || false)
  now kept x = stays_out (id == x) (has_id x ids)
  now outlet x = goes_out (id == x) (id == x) false (gone_one (id == x))
  now intake x = stays_out (id == x) (is_held x taking)

has_last : (id x : ℕ) (ids : List ℕ) → has_id x (ids ++ id ∷ []) ≡ (has_id x ids || (id == x))
has_last id x ids = list_any-append (λ (other : ℕ). other == x) ids (id ∷ []) ∙ or_none (has_id x ids) (id == x)

pub turns_settles : (id : ℕ) (ids : List ℕ) (held : Option ℕ) → has_id id ids ≡ false → Turns (own_parts ids held (Some id)) (spot intake id) (spot kept id) (own_parts (ids ++ id ∷ []) held None)
turns_settles id ids held none = record { found = eq-eqb id id refl; missing = not_has (has_id id ids) none; now = now } where
  now : (place : Where) (x : ℕ) → has_at place (owned (own_parts (ids ++ id ∷ []) held None)) x ≡ ((has_at place (owned (own_parts ids held (Some id))) x && not ((id == x) && is_place intake place)) || ((id == x) && is_place kept place))
  now kept x = comes (id == x) (id == x) (has_id x ids) (has_id x (ids ++ id ∷ [])) (has_last id x ids)
  now outlet x = stays (id == x) (id == x) (is_held x held)
  now intake x = goes (id == x) (id == x) (id == x) false (gone_one (id == x))

pub turns_drops : (id : ℕ) (ids : List ℕ) (held : Option ℕ) → Turns (own_parts ids held (Some id)) (spot intake id) None (own_parts ids held None)
turns_drops id ids held = record { found = eq-eqb id id refl; missing = refl; now = now } where
  now : (place : Where) (x : ℕ) → has_at place (owned (own_parts ids held None)) x ≡ ((has_at place (owned (own_parts ids held (Some id))) x && not ((id == x) && is_place intake place)) || false)
  now kept x = stays_out (id == x) (has_id x ids)
  now outlet x = stays_out (id == x) (is_held x held)
  now intake x = goes_out (id == x) (id == x) false (gone_one (id == x))

pub turns_starts : (id : ℕ) (ids : List ℕ) (held : Option ℕ) → Turns (own_parts ids held None) None (spot intake id) (own_parts ids held (Some id))
turns_starts id ids held = record { found = refl; missing = refl; now = now } where
  now : (place : Where) (x : ℕ) → has_at place (owned (own_parts ids held (Some id))) x ≡ ((has_at place (owned (own_parts ids held None)) x && not false) || ((id == x) && is_place intake place))
  now kept x = stays_in (id == x) (has_id x ids)
  now outlet x = stays_in (id == x) (is_held x held)
  now intake x = comes_in (id == x) false (id == x) refl

pub turns_inserts : (id : ℕ) (ids : List ℕ) (held taking : Option ℕ) → has_id id ids ≡ false → Turns (own_parts ids held taking) None (spot kept id) (own_parts (ids ++ id ∷ []) held taking)
turns_inserts id ids held taking none = record { found = refl; missing = not_has (has_id id ids) none; now = now } where
  now : (place : Where) (x : ℕ) → has_at place (owned (own_parts (ids ++ id ∷ []) held taking)) x ≡ ((has_at place (owned (own_parts ids held taking)) x && not false) || ((id == x) && is_place kept place))
  now kept x = comes_in (id == x) (has_id x ids) (has_id x (ids ++ id ∷ [])) (has_last id x ids)
  now outlet x = stays_in (id == x) (is_held x held)
  now intake x = stays_in (id == x) (is_held x taking)

-- ---- by hand, where no id is kept twice

pub different_first : (id : ℕ) (ids : List ℕ) → are_different (id ∷ ids) ≡ true → has_id id ids ≡ false
different_first id ids is = not-true (has_id id ids) (and_parts (not (has_id id ids)) (are_different ids) is).0

pub different_rest : (id : ℕ) (ids : List ℕ) → are_different (id ∷ ids) ≡ true → are_different ids ≡ true
different_rest id ids is = (and_parts (not (has_id id ids)) (are_different ids) is).1

-- two tests of which not both pass
off_behind : (m h o : Bool) → (m ≡ true → o ≡ false) → (m || (h && not o)) ≡ ((m || h) && not o)
off_behind true true true apart = apart refl
off_behind true false true apart = apart refl
off_behind true true false apart = refl
off_behind true false false apart = refl
off_behind false true true apart = refl
off_behind false false true apart = refl
off_behind false true false apart = refl
off_behind false false false apart = refl

instead_first : (m h n : Bool) → (m ≡ true → h ≡ false) → (n || h) ≡ (((m || h) && not m) || n)
instead_first true true true none = refl
instead_first true true false none = none refl ∙ refl
instead_first true false true none = refl
instead_first true false false none = refl
instead_first false true true none = refl
instead_first false true false none = refl
instead_first false false true none = refl
instead_first false false false none = refl

instead_behind : (m h o n : Bool) → (m ≡ true → o ≡ false) → (m || ((h && not o) || n)) ≡ (((m || h) && not o) || n)
instead_behind true h true n apart = absurd (let e : true ≡ false = apart refl in cc)
instead_behind true h false n apart = refl
instead_behind false h o n apart = refl

not_both : (mine id x : ℕ) → (mine == id) ≡ false → (mine == x) ≡ true → (id == x) ≡ false
not_both mine id x apart is = apart_by (id == x) refl where
  apart_by : (b : Bool) → (id == x) ≡ b → b ≡ false
  apart_by false same = refl
  apart_by true same =
      let one : mine ≡ id = eqb-true mine x is ∙ sym (eqb-true id x same) in
      let h : true ≡ false = sym (eq-eqb mine id one) ∙ apart in
      absurd (cc)

without_by : (id x mine : ℕ) (others : List ℕ) (test : Bool) → (mine == id) ≡ test → are_different (mine ∷ others) ≡ true → has_id x (without_id id others) ≡ (has_id x others && not (id == x))
    → has_id x (if test then others else mine ∷ without_id id others) ≡ (((mine == x) || has_id x others) && not (id == x))
without_by id x mine others true is different later =
    let same : mine ≡ id = eqb-true mine id is in
    let P : ℕ → Type 0 = λ (n : ℕ). has_id x others ≡ (((mine == x) || has_id x others) && not (n == x)) in
    subst P same (off_front (mine == x) (has_id x others) (same_none mine x others (different_first mine others different)))
without_by id x mine others false is different later =
    ap (λ (b : Bool). (mine == x) || b) later ∙ off_behind (mine == x) (has_id x others) (id == x) (not_both mine id x is)

without_has : (id x : ℕ) (ids : List ℕ) → are_different ids ≡ true → has_id x (without_id id ids) ≡ (has_id x ids && not (id == x))
without_has id x [] different = refl
without_has id x (mine ∷ others) different = without_by id x mine others (mine == id) refl different (without_has id x others (different_rest mine others different))

instead_by : (old new x mine : ℕ) (others : List ℕ) (test : Bool) → (mine == old) ≡ test → are_different (mine ∷ others) ≡ true → (test || has_id old others) ≡ true
    → (has_id old others ≡ true → has_id x (with_id_instead old new others) ≡ ((has_id x others && not (old == x)) || (new == x)))
    → has_id x (if test then new ∷ others else mine ∷ with_id_instead old new others) ≡ ((((mine == x) || has_id x others) && not (old == x)) || (new == x))
instead_by old new x mine others true is different has later =
    let same : mine ≡ old = eqb-true mine old is in
    let P : ℕ → Type 0 = λ (n : ℕ). ((new == x) || has_id x others) ≡ ((((mine == x) || has_id x others) && not (n == x)) || (new == x)) in
    subst P same (instead_first (mine == x) (has_id x others) (new == x) (same_none mine x others (different_first mine others different)))
instead_by old new x mine others false is different has later =
    ap (λ (b : Bool). (mine == x) || b) (later has) ∙ instead_behind (mine == x) (has_id x others) (old == x) (new == x) (not_both mine old x is)

instead_has : (old new x : ℕ) (ids : List ℕ) → are_different ids ≡ true → has_id old ids ≡ true → has_id x (with_id_instead old new ids) ≡ ((has_id x ids && not (old == x)) || (new == x))
instead_has old new x [] different has = absurd (let h : false ≡ true = has in cc)
instead_has old new x (mine ∷ others) different has = instead_by old new x mine others (mine == old) refl different has (instead_has old new x others (different_rest mine others different))

pub turns_removes : (id : ℕ) (ids : List ℕ) (held taking : Option ℕ) → are_different ids ≡ true → has_id id ids ≡ true → Turns (own_parts ids held taking) (spot kept id) None (own_parts (without_id id ids) held taking)
turns_removes id ids held taking different has = record { found = has; missing = refl; now = now } where
  now : (place : Where) (x : ℕ) → has_at place (owned (own_parts (without_id id ids) held taking)) x ≡ ((has_at place (owned (own_parts ids held taking)) x && not ((id == x) && is_place kept place)) || false)
  now kept x = goes_out (id == x) (has_id x ids) (has_id x (without_id id ids)) (without_has id x ids different)
  now outlet x = stays_out (id == x) (is_held x held)
  now intake x = stays_out (id == x) (is_held x taking)

pub turns_replaces : (old new : ℕ) (ids : List ℕ) (held taking : Option ℕ) → are_different ids ≡ true → has_id old ids ≡ true → has_id new ids ≡ false → Turns (own_parts ids held taking) (spot kept old) (spot kept new) (own_parts (with_id_instead old new ids) held taking)
turns_replaces old new ids held taking different has none = record { found = has; missing = not_has (has_id new ids) none; now = now } where
  now : (place : Where) (x : ℕ) → has_at place (owned (own_parts (with_id_instead old new ids) held taking)) x ≡ ((has_at place (owned (own_parts ids held taking)) x && not ((old == x) && is_place kept place)) || ((new == x) && is_place kept place))
  now kept x = changes (old == x) (new == x) (has_id x ids) (has_id x (with_id_instead old new ids)) (instead_has old new x ids different has)
  now outlet x = stays (old == x) (new == x) (is_held x held)
  now intake x = stays (old == x) (new == x) (is_held x taking)

-- ---- a ledger beside a machine

-- the ledger of some deeds, from the empty one on: its marks at this machine are those of what it owns, at other machines
-- these; and the ids that were named are old
pub record Fits (Old : ℕ → Type 0) (machine : ℕ) (own : Own) (others : Where → ℕ → ℕ → Bool) (ledger : Ledger) : Type 0 where
  pub past : List Deed
  pub is : ledger ≡ ledger_after_all empty_ledger past
  pub here : (place : Where) (x : ℕ) → has_entry (entry_at machine place x) ledger.marks ≡ has_at place (owned own) x
  pub there : (place : Where) (other x : ℕ) → other ≢ machine → has_entry (entry_at other place x) ledger.marks ≡ others place other x
  pub olds : (x : ℕ) → has_id x ledger.seen ≡ true → Old x

-- deeds are legal there, and the ledger behind them is that of what the machine owns then
pub record Follows (Old : ℕ → Type 0) (machine : ℕ) (own : Own) (others : Where → ℕ → ℕ → Bool) (ledger : Ledger) (deeds : List Deed) : Type 0 where
  pub legal : AreLegal ledger deeds
  pub fits : Fits Old machine own others (ledger_after_all ledger deeds)

pub legal_append : (ledger : Ledger) (a b : List Deed) → AreLegal ledger a → AreLegal (ledger_after_all ledger a) b → AreLegal ledger (a ++ b)
legal_append ledger [] b one two = two
legal_append ledger (deed ∷ a) b one two = (one.0, legal_append (ledger_after ledger deed) a b one.1 two)

pub after_append : (ledger : Ledger) (a b : List Deed) → ledger_after_all ledger (a ++ b) ≡ ledger_after_all (ledger_after_all ledger a) b
after_append ledger [] b = refl
after_append ledger (deed ∷ a) b = after_append (ledger_after ledger deed) a b

pub follows_none : {Old : ℕ → Type 0} {machine : ℕ} {own : Own} {others : Where → ℕ → ℕ → Bool} {ledger : Ledger} → Fits Old machine own others ledger → Follows Old machine own others ledger []
follows_none fits = record { legal = tt; fits = fits }

pub follows_both : {Old Older : ℕ → Type 0} {machine : ℕ} {own end : Own} {others : Where → ℕ → ℕ → Bool} (ledger : Ledger) (a b : List Deed) → Follows Older machine own others ledger a → Follows Old machine end others (ledger_after_all ledger a) b → Follows Old machine end others ledger (a ++ b)
follows_both {Old = Old} {machine = machine} {end = end} {others = others} ledger a b one two = record {
  legal = legal_append ledger a b one.legal two.legal;
  fits = subst (λ (l : Ledger). Fits Old machine end others l) (sym (after_append ledger a b)) two.fits;
}

-- an entry of a spot
same_spot : (place other : Where) (machine : ℕ) → is_same_mark (mark_at place machine) (mark_at other machine) ≡ is_place place other
same_spot kept kept machine = eq-eqb machine machine refl
same_spot kept outlet machine = refl
same_spot kept intake machine = refl
same_spot outlet kept machine = refl
same_spot outlet outlet machine = eq-eqb machine machine refl
same_spot outlet intake machine = refl
same_spot intake kept machine = refl
same_spot intake outlet machine = refl
same_spot intake intake machine = eq-eqb machine machine refl

entry_hits : (s : Option Spot) (machine : ℕ) (place : Where) (x : ℕ) → is_entry (entry_of machine s) (entry_at machine place x) ≡ hits s place x
entry_hits None machine place x = refl
entry_hits (Some s) machine place x = ap (λ (b : Bool). (s.id == x) && b) (same_spot s.place place machine)

other_mark : (place other : Where) (machine number : ℕ) → machine ≢ number → is_same_mark (mark_at place machine) (mark_at other number) ≡ false
other_mark kept kept machine number apart = ne_eqb machine number apart
other_mark kept outlet machine number apart = refl
other_mark kept intake machine number apart = refl
other_mark outlet kept machine number apart = refl
other_mark outlet outlet machine number apart = ne_eqb machine number apart
other_mark outlet intake machine number apart = refl
other_mark intake kept machine number apart = refl
other_mark intake outlet machine number apart = refl
other_mark intake intake machine number apart = ne_eqb machine number apart

entry_misses : (s : Option Spot) (machine number : ℕ) (place : Where) (x : ℕ) → machine ≢ number → is_entry (entry_of machine s) (entry_at number place x) ≡ false
entry_misses None machine number place x apart = refl
entry_misses (Some s) machine number place x apart = ap (λ (b : Bool). (s.id == x) && b) (other_mark s.place place machine number apart) ∙ and-false (s.id == x)

untouched : (b : Bool) → ((b && not false) || false) ≡ b
untouched true = refl
untouched false = refl

found_by : {Old : ℕ → Type 0} {machine : ℕ} {own : Own} {others : Where → ℕ → ℕ → Bool} (ledger : Ledger) (s : Option Spot) → Fits Old machine own others ledger → is_there s own ≡ true → is_found (entry_of machine s) ledger.marks ≡ true
found_by ledger None fits is = refl
found_by ledger (Some s) fits is = fits.here s.place s.id ∙ is

missing_by : {Old : ℕ → Type 0} {machine : ℕ} {own : Own} {others : Where → ℕ → ℕ → Bool} (ledger : Ledger) (s : Option Spot) → Fits Old machine own others ledger → is_absent s own ≡ true → is_missing (entry_of machine s) ledger.marks ≡ true
missing_by ledger None fits is = refl
missing_by ledger (Some s) fits is = ap not (fits.here s.place s.id) ∙ is

has_either : (x : ℕ) (a b : List ℕ) (one : Bool) → has_id x a ≡ one → has_id x (a ++ b) ≡ true → (one ≡ false → has_id x b ≡ true)
has_either x a b one is has none = ap (λ (c : Bool). c || has_id x b) (sym (is ∙ none)) ∙ sym (list_any-append (λ (other : ℕ). other == x) a b) ∙ has

-- a deed that turns the records of a machine so
pub follows_one : {Old : ℕ → Type 0} {machine : ℕ} {own end : Own} {others : Where → ℕ → ℕ → Bool} (out into : Option Spot) (ledger : Ledger) (deed : Deed) → Turns own out into end → taken deed ≡ entry_of machine out → added deed ≡ entry_of machine into → is_unseen (made deed) ledger.seen ≡ true
    → ((x : ℕ) → has_id x (ids_named deed) ≡ true → Old x) → Fits Old machine own others ledger → Follows Old machine end others ledger (deed ∷ [])
follows_one {Old} {machine} {own} {end} {others} out into ledger deed turns takes adds unseen named fits =
    let before : (entry : Entry) → has_entry entry (ledger_after ledger deed).marks ≡ ((has_entry entry ledger.marks && not (is_entry (entry_of machine out) entry)) || is_entry (entry_of machine into) entry) =
    λ entry. stands_after ledger deed entry ∙ rw (takes, adds) refl in
    record {
      legal = (record { takes = rw takes (found_by ledger out fits turns.found); adds = rw adds (missing_by ledger into fits turns.missing); makes = unseen }, tt);
      fits = record {
        past = fits.past ++ deed ∷ [];
        is = ap (λ (l : Ledger). ledger_after l deed) fits.is ∙ sym (after_append empty_ledger fits.past (deed ∷ []));
        here = λ place x. before (entry_at machine place x) ∙ rw (entry_hits out machine place x, entry_hits into machine place x, fits.here place x) (sym (turns.now place x));
        there = λ place other x apart. before (entry_at other place x)
            ∙ rw (entry_misses out machine other place x (λ (same : machine ≡ other). apart (sym same)), entry_misses into machine other place x (λ (same : machine ≡ other). apart (sym same))) (untouched (has_entry (entry_at other place x) ledger.marks))
            ∙ fits.there place other x apart;
        olds = λ x seen. old_by x (has_id x ledger.seen) refl seen;
      };
    } where
      old_by : (x : ℕ) (b : Bool) → has_id x ledger.seen ≡ b → has_id x (ledger.seen ++ ids_named deed) ≡ true → Old x
      old_by x true is seen = fits.olds x is
      old_by x false is seen = named x (has_either x ledger.seen (ids_named deed) false is seen refl)
