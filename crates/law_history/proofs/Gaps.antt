-- What the report tells of a gap, as a fold: the board of the last start, until that is answered or settled, and whether a
-- board was dropped since; and what the acts of the two machines at the gap do to it.
use Rattle.std.proofs.Common.{Bool, List, None, Option, Some, [], ap, append-nil, append_assoc, arith, eqb-true, false, refl, subst, sym, true, ℕ, ◌++◌, ◌+◌, ◌==◌, ◌||◌, ◌∙◌, ◌∷◌, ◌≡◌, ◌⊎◌, inl, inr, length, suc, zero}
use Rattle.std.specs.Prelude.{drop, if◌then◌else◌}
use Rattle.std.specs.List.{list_any}
use Rattle.std.proofs.lemmas.Bool.{and_parts, false≢true, or_parts}
use Rattle.law_history.proofs.Said.{some_id}
use Rattle.law_custody.proofs.Rows.{same as same_number}
use mathlib.Core.Bool.{or-false, or_assoc}
use Rattle.line_base.specs.declared.states.Side.TheVariants.{Entry}
use Rattle.hermes_horizontal.specs.declared.message.Horizontal.{Horizontal}
use Rattle.hermes_horizontal.specs.declared.message.Horizontal.TheVariants as bodies
use Rattle.line_report.specs.declared.happening.Happening.{Happening}
use Rattle.line_report.specs.declared.happening.Happening.TheVariants as happenings
use Rattle.node_core.specs.Told.{drives}
use Rattle.node_core.specs.declared.act.Act.{Act}
use Rattle.node_core.specs.declared.act.Act.TheVariants as acts
use Rattle.node_core.specs.declared.act.Deed.{Deed}
use Rattle.node_core.specs.declared.act.Deed.TheVariants as deeds
use Rattle.node_core.specs.declared.word.Word.{Word}
use Rattle.law_machine_custody.specs.Flight.{AreOldest}
use Rattle.node_core.specs.Own.{Own}
use Rattle.law_one_standing.proofs.FactsBlame.{Front, front_of}
use Rattle.law_one_standing.proofs.LedgerWalk.{Announces, Did, Hand, Walk, are_silent, did, hand_gets, hand_gives, hand_inserts, hand_removes, hand_replaces, hand_walks, is_silent, says_last, says_more, says_start, walk_drops, walk_end, walk_leaves, walk_loses, walk_on, walk_opens, walk_returns, walk_settles}
use Rattle.law_history.specs.Opened.{gap_deed, gap_deeds, if_it, is_above, is_below, is_drop, is_other}
use Rattle.law_history.specs.Settled.{is_start}
use Rattle.law_history.proofs.LinkUp.{starts_of}
use Rattle.law_history.proofs.Orders.{Orders, is_plain, orders_end, orders_hears, orders_on, orders_opens, orders_refuses, orders_starts}
use Rattle.law_history.proofs.Started.{hand_open, open_act, open_all, silent_all, silent_open, walk_open, none_some}
use Rattle.law_history.proofs.View.{done_act, done_by, told_of_act, undriven}

-- ---- the fold

pub record Gap : Type 0 where
  pub last : Option ℕ
  pub dropped : Bool

abbrev pub none_yet : Gap
none_yet = record { last = None; dropped = false }

abbrev pub is_named : Option ℕ → ℕ → Bool
is_named None other = false
is_named (Some id) other = other == id

abbrev pub gap_after : Gap → Deed → Gap
gap_after g (deeds.Starts id) = record { last = Some id; dropped = false }
gap_after g (deeds.Opens id) = none_yet
gap_after g (deeds.Refuses id) = none_yet
gap_after g (deeds.Settles id) = none_yet
gap_after g (deeds.Drops id) = record g { dropped = g.dropped || is_named g.last id }
gap_after g _ = g

abbrev pub gaps_after : Gap → List Deed → Gap
gaps_after g [] = g
gaps_after g (deed ∷ told) = gaps_after (gap_after g deed) told

pub gaps_append : (g : Gap) (a b : List Deed) → gaps_after g (a ++ b) ≡ gaps_after (gaps_after g a) b
gaps_append g [] b = refl
gaps_append g (deed ∷ a) b = gaps_append (gap_after g deed) a b

pub gap_append : (gap : ℕ) (a b : List Happening) → gap_deeds gap (a ++ b) ≡ gap_deeds gap a ++ gap_deeds gap b
gap_append gap [] b = refl
gap_append gap (h ∷ a) b = ap (λ (l : List Deed). gap_deed gap h ++ l) (gap_append gap a b) ∙ sym (append_assoc (gap_deed gap h) (gap_deeds gap a) (gap_deeds gap b))

-- ---- the last start, read off

-- the deeds end in this start and what came since
pub record Split (id : ℕ) (dropped : Bool) (told : List Deed) : Type 0 where
  pub before : List Deed
  pub since : List Deed
  pub told_is : told ≡ before ++ deeds.Starts id ∷ since
  pub last : list_any is_other since ≡ false
  pub drops : list_any (is_drop id) since ≡ dropped

split_on : {id : ℕ} {dropped : Bool} (deed : Deed) (told : List Deed) → Split id dropped told → Split id dropped (deed ∷ told)
split_on deed told s = record { before = deed ∷ s.before; since = s.since; told_is = ap (λ (l : List Deed). deed ∷ l) s.told_is; last = s.last; drops = s.drops }

-- the start is among these deeds, or it was before them
abbrev Last : Gap → List Deed → ℕ → Bool → Type 0
Last g told id dropped = Split id dropped told ⊎ ((g.last ≡ Some id) × ((list_any is_other told ≡ false) × ((g.dropped || list_any (is_drop id) told) ≡ dropped)))

drop_named : (g : Gap) (other id : ℕ) (rest : Bool) → g.last ≡ Some id → ((g.dropped || is_named g.last other) || rest) ≡ (g.dropped || ((other == id) || rest))
drop_named g other id rest is = or_assoc g.dropped (is_named g.last other) rest ∙ ap (λ (o : Option ℕ). g.dropped || (is_named o other || rest)) is

last_by : (g : Gap) (deed : Deed) (told : List Deed) (id : ℕ) (dropped : Bool) → Last (gap_after g deed) told id dropped → Last g (deed ∷ told) id dropped
last_by g deed told id dropped (inl s) = inl (split_on deed told s)
last_by g (deeds.Starts other) told id dropped (inr all) =
    inl (record { before = []; since = told; told_is = ap (λ (x : ℕ). deeds.Starts x ∷ told) (some_id other id all.0); last = all.1.0; drops = all.1.1 })
last_by g (deeds.Drops other) told id dropped (inr all) = inr (all.0, (all.1.0, sym (drop_named g other id (list_any (is_drop id) told) all.0) ∙ all.1.1))
last_by g (deeds.Leaves other) told id dropped (inr all) = inr all
last_by g (deeds.Returns other) told id dropped (inr all) = inr all
last_by g (deeds.Loses other) told id dropped (inr all) = inr all
last_by g _ told id dropped (inr all) = none_some id all.0

last_of : (g : Gap) (told : List Deed) (id : ℕ) → (gaps_after g told).last ≡ Some id → Last g told id (gaps_after g told).dropped
last_of g [] id is = inr (is, (refl, or-false g.dropped))
last_of g (deed ∷ told) id is = last_by g deed told id (gaps_after (gap_after g deed) told).dropped (last_of (gap_after g deed) told id is)

pub split_of : (told : List Deed) (id : ℕ) → (gaps_after none_yet told).last ≡ Some id → Split id (gaps_after none_yet told).dropped told
split_of told id is = by (last_of none_yet told id is)
  where
    by : Last none_yet told id (gaps_after none_yet told).dropped → Split id (gaps_after none_yet told).dropped told
    by (inl s) = s
    by (inr all) = none_some id all.0

-- ---- the acts of the two machines

abbrev pub above_of : Act → List Deed
above_of (acts.Deed deed) = if_it (is_above deed) deed
above_of _ = []

abbrev pub below_of : Act → List Deed
below_of (acts.Deed deed) = if_it (is_below deed) deed
below_of _ = []

abbrev pub above_deeds : List Act → List Deed
above_deeds [] = []
above_deeds (act ∷ told) = above_of act ++ above_deeds told

abbrev pub below_deeds : List Act → List Deed
below_deeds [] = []
below_deeds (act ∷ told) = below_of act ++ below_deeds told

above_append : (a b : List Act) → above_deeds (a ++ b) ≡ above_deeds a ++ above_deeds b
above_append [] b = refl
above_append (act ∷ a) b = ap (λ (l : List Deed). above_of act ++ l) (above_append a b) ∙ sym (append_assoc (above_of act) (above_deeds a) (above_deeds b))

below_append : (a b : List Act) → below_deeds (a ++ b) ≡ below_deeds a ++ below_deeds b
below_append [] b = refl
below_append (act ∷ a) b = ap (λ (l : List Deed). below_of act ++ l) (below_append a b) ∙ sym (append_assoc (below_of act) (below_deeds a) (below_deeds b))

never_both : {X : Type 0} (machine gap : ℕ) → (machine == gap) ≡ true → (machine == gap + 1) ≡ true → X
never_both machine gap one two = absurd (let no_way : gap ≡ gap + 1 = sym (eqb-true machine gap one) ∙ eqb-true machine (gap + 1) two in let wrong : ⊥ = omega (arith, no_way) in wrong)

abbrev if_act : Bool → Act → List Act
if_act test act = if test then act ∷ [] else []

one_deed : (deed : Deed) (machine gap : ℕ) (a b : Bool) → (machine == gap) ≡ a → (machine == gap + 1) ≡ b
    → (if a then if_it (is_above deed) deed else (if b then if_it (is_below deed) deed else [])) ≡ above_deeds (if_act a (acts.Deed deed)) ++ below_deeds (if_act b (acts.Deed deed))
one_deed deed machine gap true true one two = never_both machine gap one two
one_deed deed machine gap true false one two = sym (append-nil (above_deeds (if_act true (acts.Deed deed))) ∙ append-nil (if_it (is_above deed) deed))
one_deed deed machine gap false true one two = sym (append-nil (if_it (is_below deed) deed))
one_deed deed machine gap false false one two = refl

no_deed : (act : Act) (a b : Bool) → above_of act ≡ [] → below_of act ≡ [] → [] ≡ above_deeds (if_act a act) ++ below_deeds (if_act b act)
no_deed act true true above below = rw (above, below) refl
no_deed act true false above below = rw above refl
no_deed act false true above below = rw below refl
no_deed act false false above below = refl

no_acts : (a b : Bool) → [] ≡ above_deeds (if a then [] else []) ++ below_deeds (if b then [] else [])
no_acts true true = refl
no_acts true false = refl
no_acts false true = refl
no_acts false false = refl

one_act : (gap machine : ℕ) (act : Act) → gap_deed gap (happenings.Done machine act) ≡ above_deeds (done_act gap (happenings.Done machine act)) ++ below_deeds (done_act (gap + 1) (happenings.Done machine act))
one_act gap machine (acts.Deed deed) = one_deed deed machine gap (machine == gap) (machine == gap + 1) refl refl
one_act gap machine (acts.Drive side on) = no_acts (machine == gap) (machine == gap + 1)
one_act gap machine (acts.Signals signal on) = no_acts (machine == gap) (machine == gap + 1)
one_act gap machine (acts.Tells message) = no_acts (machine == gap) (machine == gap + 1)
one_act gap machine act = no_deed act (machine == gap) (machine == gap + 1) refl refl

one_happening : (gap : ℕ) (h : Happening) → gap_deed gap h ≡ above_deeds (done_act gap h) ++ below_deeds (done_act (gap + 1) h)
one_happening gap (happenings.Done machine act) = one_act gap machine act
one_happening gap _ = refl

empty_first : (a b : List Deed) → a ++ b ≡ [] → a ≡ []
empty_first [] b is = refl
empty_first (d ∷ a) b is = absurd (cc)

empty_second : (a b : List Deed) → a ++ b ≡ [] → b ≡ []
empty_second [] b is = is
empty_second (d ∷ a) b is = absurd (cc)

-- where the machine below says nothing, they are what the machine above says
pub only_above : (gap : ℕ) (told : List Happening) → below_deeds (done_by (gap + 1) told) ≡ [] → gap_deeds gap told ≡ above_deeds (done_by gap told)
only_above gap [] none = refl
only_above gap (h ∷ told) none =
    let parts : below_deeds (done_act (gap + 1) h) ++ below_deeds (done_by (gap + 1) told) ≡ [] = sym (below_append (done_act (gap + 1) h) (done_by (gap + 1) told)) ∙ none in
    let here : gap_deed gap h ≡ above_deeds (done_act gap h) =
    one_happening gap h ∙ ap (λ (l : List Deed). above_deeds (done_act gap h) ++ l) (empty_first (below_deeds (done_act (gap + 1) h)) (below_deeds (done_by (gap + 1) told)) parts) ∙ append-nil (above_deeds (done_act gap h)) in
    ap (λ (l : List Deed). l ++ gap_deeds gap told) here
    ∙ ap (λ (l : List Deed). above_deeds (done_act gap h) ++ l) (only_above gap told (empty_second (below_deeds (done_act (gap + 1) h)) (below_deeds (done_by (gap + 1) told)) parts))
    ∙ sym (above_append (done_act gap h) (done_by gap told))

-- and the other way round
pub only_below : (gap : ℕ) (told : List Happening) → above_deeds (done_by gap told) ≡ [] → gap_deeds gap told ≡ below_deeds (done_by (gap + 1) told)
only_below gap [] none = refl
only_below gap (h ∷ told) none =
    let parts : above_deeds (done_act gap h) ++ above_deeds (done_by gap told) ≡ [] = sym (above_append (done_act gap h) (done_by gap told)) ∙ none in
    let here : gap_deed gap h ≡ below_deeds (done_act (gap + 1) h) =
    one_happening gap h ∙ ap (λ (l : List Deed). l ++ below_deeds (done_act (gap + 1) h)) (empty_first (above_deeds (done_act gap h)) (above_deeds (done_by gap told)) parts) in
    ap (λ (l : List Deed). l ++ gap_deeds gap told) here
    ∙ ap (λ (l : List Deed). below_deeds (done_act (gap + 1) h) ++ l) (only_below gap told (empty_second (above_deeds (done_act gap h)) (above_deeds (done_by gap told)) parts))
    ∙ sym (below_append (done_act (gap + 1) h) (done_by (gap + 1) told))

-- ---- the machine above: a start that it hears is the last one, and not answered yet

pub data Pending (ids : List ℕ) (last : Option ℕ) : Type 0 where
  pend_none : ids ≡ [] → Pending ids last
  pend_one : (z : ℕ) → ids ≡ z ∷ [] → last ≡ Some z → Pending ids last

-- where an opening is among acts
pub data OpensIn (id : ℕ) : List Act → List Act → Type 0 where
  opens_here : {later : List Act} → OpensIn id [] (acts.Deed (deeds.Opens id) ∷ later)
  opens_there : {act : Act} {earlier told : List Act} → OpensIn id earlier told → OpensIn id (act ∷ earlier) (act ∷ told)

pub opens_in : (id : ℕ) (earlier later : List Act) → OpensIn id earlier (earlier ++ acts.Deed (deeds.Opens id) ∷ later)
opens_in id [] later = opens_here
opens_in id (act ∷ earlier) later = opens_there (opens_in id earlier later)

plain_above : (act : Act) → is_plain act ≡ true → above_of act ≡ []
plain_above (acts.Deed (deeds.Opens id)) plain = absurd (false≢true plain)
plain_above (acts.Deed (deeds.Refuses id)) plain = absurd (false≢true plain)
plain_above (acts.Deed (deeds.Starts id)) plain = absurd (false≢true plain)
plain_above _ plain = refl

pending_rest : (m : Horizontal) (rest : List Horizontal) (last : Option ℕ) → Pending (starts_of (m ∷ rest)) last → Pending (starts_of rest) last
pending_rest (bodies.StartTransport id) rest last (pend_none is) = absurd (cc)
pending_rest (bodies.StartTransport id) rest last (pend_one z is same) = pend_none (let rest_is : starts_of rest ≡ [] = cc in rest_is)
pending_rest (bodies.MachineReady quality) rest last p = p
pending_rest bodies.RevokeMachineReady rest last p = p
pending_rest (bodies.StopTransport state id) rest last p = p
pending_rest (bodies.ServiceDescription service) rest last p = p
pending_rest _ rest last p = p

none_rest : (m : Horizontal) (rest : List Horizontal) → starts_of (m ∷ rest) ≡ [] → starts_of rest ≡ []
none_rest (bodies.StartTransport id) rest is = absurd (cc)
none_rest (bodies.MachineReady quality) rest is = is
none_rest bodies.RevokeMachineReady rest is = is
none_rest (bodies.StopTransport state id) rest is = is
none_rest (bodies.ServiceDescription service) rest is = is
none_rest _ rest is = is

pub none_dropped : (n : ℕ) (ms : List Horizontal) → starts_of ms ≡ [] → starts_of (drop n ms) ≡ []
none_dropped zero ms is = is
none_dropped (suc n) [] is = refl
none_dropped (suc n) (m ∷ ms) is = none_dropped n ms (none_rest m ms is)

one_rest : (m : Horizontal) (rest : List Horizontal) (z : ℕ) → starts_of (m ∷ rest) ≡ z ∷ [] → (starts_of rest ≡ []) ⊎ (starts_of rest ≡ z ∷ [])
one_rest (bodies.StartTransport id) rest z is = inl (let rest_is : starts_of rest ≡ [] = cc in rest_is)
one_rest (bodies.MachineReady quality) rest z is = inr is
one_rest bodies.RevokeMachineReady rest z is = inr is
one_rest (bodies.StopTransport state id) rest z is = inr is
one_rest (bodies.ServiceDescription service) rest z is = inr is
one_rest _ rest z is = inr is

pub one_dropped : (n : ℕ) (ms : List Horizontal) (z : ℕ) → starts_of ms ≡ z ∷ [] → (starts_of (drop n ms) ≡ []) ⊎ (starts_of (drop n ms) ≡ z ∷ [])
one_dropped zero ms z is = inr is
one_dropped (suc n) [] z is = absurd (cc)
one_dropped (suc n) (m ∷ ms) z is = by (one_rest m ms z is) (one_dropped n ms z)
  where
    by : (starts_of ms ≡ []) ⊎ (starts_of ms ≡ z ∷ []) → (starts_of ms ≡ z ∷ [] → (starts_of (drop n ms) ≡ []) ⊎ (starts_of (drop n ms) ≡ z ∷ [])) → (starts_of (drop n ms) ≡ []) ⊎ (starts_of (drop n ms) ≡ z ∷ [])
    by (inl none) later = inl (none_dropped n ms none)
    by (inr one) later = later one

-- the start that is heard first
record Heard (id : ℕ) (last : Option ℕ) (ups rest : List Horizontal) : Type 0 where
  last_is : last ≡ Some id
  none : starts_of rest ≡ []
  some : starts_of ups ≡ [] → ⊥

heard_start : (id : ℕ) (last : Option ℕ) (m : Horizontal) (ups rest : List Horizontal) → m ≡ bodies.StartTransport id → ups ≡ m ∷ rest → Pending (starts_of ups) last → Heard id last ups rest
heard_start id last m ups rest says is p = by (subst (λ (l : List Horizontal). Pending (starts_of l) last) all p)
  where
    all : ups ≡ bodies.StartTransport id ∷ rest
    all = is ∙ ap (λ (h : Horizontal). h ∷ rest) says

    some : starts_of ups ≡ [] → ⊥
    some none = let no_way : ◌≡◌ {A = List ℕ} (id ∷ starts_of rest) [] = sym (ap starts_of all) ∙ none in cc

    by : Pending (id ∷ starts_of rest) last → Heard id last ups rest
    by (pend_none none) = absurd (cc)
    by (pend_one z one same) = record { last_is = same ∙ (let z_is : z ≡ id = cc in ap (λ (x : ℕ). Some x) z_is); none = (let rest_is : starts_of rest ≡ [] = cc in rest_is); some = some }

pub record Found (id : ℕ) (last : Option ℕ) (ups : List Horizontal) (earlier : List Act) : Type 0 where
  pub last_is : last ≡ Some id
  pub some : starts_of ups ≡ [] → ⊥
  pub quiet : above_deeds earlier ≡ []

drives_open_not : {X : Type 0} {id : ℕ} {earlier : List Act} (on : Option Bool) → OpensIn id earlier (drives Entry on) → X
drives_open_not None at = elim at [ ]
drives_open_not (Some on) (opens_there at) = elim at [ ]

pub found_open : {words : List Word} {told earlier : List Act} {id : ℕ} {ups : List Horizontal} {last : Option ℕ} → Orders true words told → OpensIn id earlier told → AreOldest words ups → Pending (starts_of ups) last → Found id last ups earlier
found_open orders_end at oldest p = elim at [ ]
found_open (orders_on plain more) opens_here oldest p = absurd (false≢true plain)
found_open (orders_on {act = act} plain more) (opens_there {earlier = earlier} at) oldest p =
    let f = found_open more at oldest p in
    record { last_is = f.last_is; some = f.some; quiet = ap (λ (l : List Deed). l ++ above_deeds earlier) (plain_above act plain) ∙ f.quiet }
found_open {ups = ups} {last = last} (orders_hears {words = words} {message = message} more) (opens_there at) oldest p =
    let f : Front message.body words ups = front_of oldest in
    let rest = found_open more at f.oldest (pending_rest message.body f.rest last (subst (λ (l : List Horizontal). Pending (starts_of l) last) f.is p)) in
    record { last_is = rest.last_is; some = λ none. rest.some (none_rest message.body f.rest (sym (ap starts_of f.is) ∙ none)); quiet = rest.quiet }
found_open {ups = ups} {last = last} (orders_opens {words = words} {message = message} {id = id} says more) (opens_there opens_here) oldest p =
    let f : Front message.body words ups = front_of oldest in
    let h : Heard id last ups f.rest = heard_start id last message.body ups f.rest says f.is p in
    record { last_is = h.last_is; some = h.some; quiet = refl }
found_open {id = other} {ups = ups} {last = last} (orders_opens {words = words} {message = message} {id = id} says more) (opens_there (opens_there at)) oldest p =
    let f : Front message.body words ups = front_of oldest in
    let h : Heard id last ups f.rest = heard_start id last message.body ups f.rest says f.is p in
    none_some other (found_open {last = None} more at f.oldest (pend_none h.none)).last_is
found_open {id = other} {ups = ups} {last = last} (orders_refuses {words = words} {message = message} {id = id} says more) (opens_there (opens_there at)) oldest p =
    let f : Front message.body words ups = front_of oldest in
    let h : Heard id last ups f.rest = heard_start id last message.body ups f.rest says f.is p in
    none_some other (found_open {last = None} more at f.oldest (pend_none h.none)).last_is
found_open (orders_starts on) (opens_there (opens_there at)) oldest p = drives_open_not on at

-- it answers nothing, or no start is left on its way
pub answers : {words : List Word} {told : List Act} {ups : List Horizontal} {last : Option ℕ} → Orders true words told → AreOldest words ups → Pending (starts_of ups) last → (above_deeds told ≡ []) ⊎ (starts_of (drop (length words) ups) ≡ [])
answers orders_end oldest p = inl refl
answers (orders_on {act = act} {told = told} plain more) oldest p = by (answers more oldest p)
  where
    by : {B : Type 0} → (above_deeds told ≡ []) ⊎ B → (above_of act ++ above_deeds told ≡ []) ⊎ B
    by (inl none) = inl (ap (λ (l : List Deed). l ++ above_deeds told) (plain_above act plain) ∙ none)
    by (inr none) = inr none
answers {ups = ups} {last = last} (orders_hears {words = words} {message = message} {told = told} more) oldest p =
    let f : Front message.body words ups = front_of oldest in
    elim (answers more f.oldest (pending_rest message.body f.rest last (subst (λ (l : List Horizontal). Pending (starts_of l) last) f.is p))) [
      | inl none ↦ inl none
      | inr none ↦ inr (ap (λ (l : List Horizontal). starts_of (drop (suc (length words)) l)) f.is ∙ none)
    ]
answers {ups = ups} {last = last} (orders_opens {words = words} {message = message} {id = id} says more) oldest p =
    let f : Front message.body words ups = front_of oldest in
    let h : Heard id last ups f.rest = heard_start id last message.body ups f.rest says f.is p in
    inr (ap (λ (l : List Horizontal). starts_of (drop (suc (length words)) l)) f.is ∙ none_dropped (length words) f.rest h.none)
answers {ups = ups} {last = last} (orders_refuses {words = words} {message = message} {id = id} says more) oldest p =
    let f : Front message.body words ups = front_of oldest in
    let h : Heard id last ups f.rest = heard_start id last message.body ups f.rest says f.is p in
    inr (ap (λ (l : List Horizontal). starts_of (drop (suc (length words)) l)) f.is ∙ none_dropped (length words) f.rest h.none)
answers (orders_starts None) oldest p = inl refl
answers (orders_starts (Some on)) oldest p = inl refl

-- one that hears nothing answers nothing
pub none_above : {told : List Act} → Orders true [] told → above_deeds told ≡ []
none_above orders_end = refl
none_above (orders_on {act = act} {told = told} plain more) = ap (λ (l : List Deed). l ++ above_deeds told) (plain_above act plain) ∙ none_above more
none_above (orders_starts None) = refl
none_above (orders_starts (Some on)) = refl

-- ---- the machine below

-- acts that tell a start end in it
pub record Starts (o : Option ℕ) (g : Gap) (told : List Act) : Type 0 where
  pub id : ℕ
  pub open_is : open_all o told ≡ Some id
  pub gap_is : gaps_after g (below_deeds told) ≡ record { last = Some id; dropped = false }

plain_start : (act : Act) → is_plain act ≡ true → is_start act ≡ false
plain_start (acts.Deed (deeds.Starts id)) plain = absurd (false≢true plain)
plain_start _ plain = refl

pub ends_started : {words : List Word} {told : List Act} → Orders true words told → list_any is_start told ≡ true → (o : Option ℕ) (g : Gap) → Starts o g told
ends_started orders_end any o g = absurd (false≢true any)
ends_started (orders_on {act = act} {told = told} plain more) any o g =
    let later : list_any is_start told ≡ true = sym (ap (λ (b : Bool). b || list_any is_start told) (plain_start act plain)) ∙ any in
    let s : Starts (open_act o act) (gaps_after g (below_of act)) told = ends_started more later (open_act o act) (gaps_after g (below_of act)) in
    record { id = s.id; open_is = s.open_is; gap_is = gaps_append g (below_of act) (below_deeds told) ∙ s.gap_is }
ends_started (orders_hears more) any o g = let s = ends_started more any o g in record { id = s.id; open_is = s.open_is; gap_is = s.gap_is }
ends_started (orders_opens says more) any o g = let s = ends_started more any o g in record { id = s.id; open_is = s.open_is; gap_is = s.gap_is }
ends_started (orders_refuses says more) any o g = let s = ends_started more any o g in record { id = s.id; open_is = s.open_is; gap_is = s.gap_is }
ends_started (orders_starts {id = id} None) any o g = record { id = id; open_is = refl; gap_is = refl }
ends_started (orders_starts {id = id} (Some on)) any o g = record { id = id; open_is = refl; gap_is = refl }

-- the board of the last start is held, or it was dropped
pub data Stays (z : ℕ) (o : Option ℕ) (g : Gap) : Type 0 where
  stays_held : o ≡ Some z → g ≡ record { last = Some z; dropped = false } → Stays z o g
  stays_dropped : o ≡ None → g ≡ record { last = Some z; dropped = true } → Stays z o g

abbrev pub is_settle : Act → Bool
is_settle (acts.Deed (deeds.Settles id)) = true
is_settle _ = false

-- what is dropped is what is taken
abbrev pub is_dropping : Act → Bool
is_dropping (acts.Deed (deeds.Drops id)) = true
is_dropping _ = false

pub data Owned : Option ℕ → List Act → Type 0 where
  owned_end : {o : Option ℕ} → Owned o []
  owned_on : {o : Option ℕ} {act : Act} {told : List Act} → is_dropping act ≡ false → Owned (open_act o act) told → Owned o (act ∷ told)
  owned_drops : {id : ℕ} {told : List Act} → Owned None told → Owned (Some id) (acts.Deed (deeds.Drops id) ∷ told)

owned_both : {o : Option ℕ} {a : List Act} (b : List Act) → Owned o a → Owned (open_all o a) b → Owned o (a ++ b)
owned_both b owned_end later = later
owned_both b (owned_on plain more) later = owned_on plain (owned_both b more later)
owned_both b (owned_drops more) later = owned_drops (owned_both b more later)

silent_drops : (act : Act) → is_silent act ≡ true → is_dropping act ≡ false
silent_drops (acts.Deed (deeds.Opens id)) is = absurd (false≢true is)
silent_drops (acts.Deed (deeds.Leaves id)) is = absurd (false≢true is)
silent_drops (acts.Deed (deeds.Returns id)) is = absurd (false≢true is)
silent_drops (acts.Deed (deeds.Loses id)) is = absurd (false≢true is)
silent_drops (acts.Deed (deeds.Starts id)) is = absurd (false≢true is)
silent_drops (acts.Deed (deeds.Settles id)) is = absurd (false≢true is)
silent_drops (acts.Deed (deeds.Drops id)) is = absurd (false≢true is)
silent_drops _ is = refl

owned_silent : (o : Option ℕ) (told : List Act) → are_silent told ≡ true → Owned o told
owned_silent o [] is = owned_end
owned_silent o (act ∷ told) is = let both = and_parts (is_silent act) (are_silent told) is in owned_on (silent_drops act both.0) (owned_silent (open_act o act) told both.1)

owned_walk : {own end : Own} {told : List Act} → Walk own told end → Owned own.taking told
owned_walk walk_end = owned_end
owned_walk {own = own} (walk_on {act = act} {others = others} silent more) = owned_on (silent_drops act silent) (subst (λ (o : Option ℕ). Owned o others) (sym (silent_open own.taking act silent)) (owned_walk more))
owned_walk (walk_opens more) = owned_on refl (owned_walk more)
owned_walk (walk_returns more) = owned_on refl (owned_walk more)
owned_walk (walk_leaves more) = owned_on refl (owned_walk more)
owned_walk (walk_loses more) = owned_on refl (owned_walk more)
owned_walk (walk_settles more) = owned_on refl (owned_walk more)
owned_walk (walk_drops more) = owned_drops (owned_walk more)

owned_hand : {New : ℕ → Type 0} {own end : Own} {told : List Act} → Hand New own told end → Owned own.taking told
owned_hand (hand_walks walk) = owned_walk walk
owned_hand (hand_inserts new) = owned_on refl owned_end
owned_hand (hand_removes has) = owned_on refl owned_end
owned_hand (hand_gives has) = owned_on refl owned_end
owned_hand hand_gets = owned_on refl owned_end
owned_hand (hand_replaces has new) = owned_on refl owned_end

owned_says : {own end : Own} {told : List Act} → Announces own told end → Owned own.taking told
owned_says {own = own} (says_more told others silent more) =
    owned_both others (owned_silent own.taking told silent) (subst (λ (o : Option ℕ). Owned o others) (sym (silent_all own.taking told silent)) (owned_says more))
owned_says {own = own} (says_last {told = told} silent) = owned_silent own.taking told silent
owned_says (says_start {id = id} {others = others} silent) = owned_on refl (owned_silent (Some id) others silent)

pub owned_did : {New : ℕ → Type 0} {own end : Own} {told : List Act} → Did New own told end → Owned own.taking told
owned_did (did read met told walk hand says) =
    owned_both (met ++ told) (owned_walk walk) (subst (λ (o : Option ℕ). Owned o (met ++ told)) (sym (walk_open walk)) (owned_both told (owned_hand hand) (subst (λ (o : Option ℕ). Owned o told) (sym (hand_open hand)) (owned_says says))))

owned_told : {o : Option ℕ} (act : Act) (rest : List Act) → is_dropping act ≡ false → Owned (open_act o act) rest → Owned o (told_of_act act ++ rest)
owned_told (acts.Drive side on) rest plain more = more
owned_told (acts.Signals signal on) rest plain more = more
owned_told (acts.Tells message) rest plain more = more
owned_told act rest plain more = owned_on plain more

pub owned_undriven : {o : Option ℕ} {told : List Act} → Owned o told → Owned o (undriven told)
owned_undriven owned_end = owned_end
owned_undriven (owned_on {act = act} {told = told} plain more) = owned_told act (undriven told) plain (owned_undriven more)
owned_undriven (owned_drops more) = owned_drops (owned_undriven more)

stays_act : (z : ℕ) (act : Act) (o : Option ℕ) (g : Gap) → is_start act ≡ false → is_settle act ≡ false → is_dropping act ≡ false → Stays z o g → Stays z (open_act o act) (gaps_after g (below_of act))
stays_act z (acts.Deed (deeds.Starts id)) o g start settle drops s = absurd (false≢true (sym start))
stays_act z (acts.Deed (deeds.Settles id)) o g start settle drops s = absurd (false≢true (sym settle))
stays_act z (acts.Deed (deeds.Drops id)) o g start settle drops s = absurd (false≢true (sym drops))
stays_act z _ o g start settle drops s = s

stays_drop : (z id : ℕ) (g : Gap) → Stays z (Some id) g → Stays z None (gap_after g (deeds.Drops id))
stays_drop z id g (stays_held is gap) =
    let same : id ≡ z = some_id id z is in
    stays_dropped refl (ap (λ (x : Gap). gap_after x (deeds.Drops id)) gap ∙ ap (λ (b : Bool). record { last = Some z; dropped = b }) (ap (λ (n : ℕ). n == z) same ∙ same_number z))
stays_drop z id g (stays_dropped is gap) = none_some id (sym is)

pub stays_all : (z : ℕ) (told : List Act) (o : Option ℕ) (g : Gap) → Owned o told → list_any is_start told ≡ false → list_any is_settle told ≡ false → Stays z o g → Stays z (open_all o told) (gaps_after g (below_deeds told))
stays_all z [] o g owned_end start settle s = s
stays_all z (act ∷ told) o g (owned_on plain more) start settle s =
    subst (λ (x : Gap). Stays z (open_all (open_act o act) told) x) (sym (gaps_append g (below_of act) (below_deeds told)))
    (stays_all z told (open_act o act) (gaps_after g (below_of act)) more (or_parts (is_start act) (list_any is_start told) start).1 (or_parts (is_settle act) (list_any is_settle told) settle).1
    (stays_act z act o g (or_parts (is_start act) (list_any is_start told) start).0 (or_parts (is_settle act) (list_any is_settle told) settle).0 plain s))
stays_all z (_ ∷ told) _ g (owned_drops {id = id} more) start settle s = stays_all z told None (gap_after g (deeds.Drops id)) more start settle (stays_drop z id g s)
