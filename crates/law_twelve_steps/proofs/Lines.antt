-- A line of an undisturbed stretch.
use Rattle.std.proofs.Common.{Bool, List, Option, Ok, Err, [], ap, arith, false, ne_eqb, refl, subst, sym, true, ℕ, ◌&&◌, ◌++◌, ◌+◌, ◌==◌, ◌∙◌, ◌∷◌, ◌≡◌, ◌≢◌, ◌≤◌, ◌⊎◌, ◌||◌, inl, inr}
use Rattle.std.specs.Prelude.{not}
use Rattle.std.proofs.lemmas.Bool.{or_left, or_right}
use Rattle.law_custody.proofs.Rows.{same as own_eq}
use Rattle.board_record.specs.declared.record.Record.{Record}
use Rattle.line_base.specs.declared.states.Role.TheVariants.{Upstream}
use Rattle.line_base.specs.declared.states.Side.{Side}
use Rattle.line_base.specs.declared.states.Side.TheVariants.{Entry, Exit}
use Rattle.line_link.specs.Link.{LinkParts}
use Rattle.line_world.specs.FloorPlan.{machine_at}
use Rattle.law_custody.specs.Words.{events_at}
use Rattle.node_core.specs.Node.{NodeState}
use Rattle.node_core.specs.declared.act.Act.{Act}
use Rattle.node_core.specs.declared.act.Act.TheVariants as acts
use Rattle.node_core.specs.declared.act.Deed.TheVariants as deeds
use Rattle.node_core.specs.declared.input.Input.{Input}
use Rattle.node_core.specs.declared.input.Input.TheVariants as inputs
use Rattle.line_report.specs.declared.happening.Happening.{Happening}
use Rattle.line_report.specs.declared.happening.Happening.TheVariants as happenings
use Rattle.line_report.specs.declared.happening.Reason.{Reason}
use Rattle.line_step.specs.Acts.{acts_did, act_did}
use Rattle.line_step.specs.Lines.{Becomes, Flows, Unless, arrived}
use Rattle.line_step.specs.Reasons.{May, may_do}
use Rattle.line_step.specs.State.{LineState, with_world}
use Rattle.line_step.specs.Steps.{MachineSteps, is_second, read_by}
use Rattle.line_step.specs.World.{WorldParts, link_of, with_link}
use Rattle.line_step.specs.Requests.{Request}
use Rattle.line_step.specs.Requests as requests
use Rattle.line_step.proofs.Changing.{link_changes, step_changes}
use Rattle.law_one_standing.proofs.Carrying.{SaysAlone}
use Rattle.law_one_standing.proofs.LineRun.{Stood}
use Rattle.law_one_standing.proofs.RestLine.{links_stay, node_there}
use Rattle.law_twelve_steps.specs.Twelve.{is_settling, one_if, tells_settled}
use Rattle.law_twelve_steps.specs.Undisturbed.{IsElsewhere, are_some, has_unread_of, is_link_step, is_no, is_of_link, tells_no}
use Rattle.law_twelve_steps.proofs.Beside.{leaves_still, reaches}
use Rattle.law_twelve_steps.proofs.Beyond.{Untouched, forth_untouched, link_beyond, machine_beyond, stage_untouched, untouched_self, untouched_then}
use Rattle.law_twelve_steps.proofs.Flowing.{Outcome, above_line, comes_to_end, forth_less, goes_forth, outcome_less}
use Rattle.law_twelve_steps.proofs.FlowingDown.{below_line}
use Rattle.law_twelve_steps.proofs.Going.{AreCounted, Forth, Stage, counted, next_node}
use Rattle.law_twelve_steps.proofs.Lower.{aside_still}
use Rattle.law_twelve_steps.proofs.Turning.{HasSettled, has_first, has_later}

-- ---- what is told of a board that settles

by_first : (one two three : Bool) → (one || two) ≡ true → (two ≡ true → three ≡ true) → (one || three) ≡ true
by_first true two three is more = refl
by_first false two three is more = more is

pub settled_append : (k id : ℕ) (told more : List Happening) → tells_settled k id told ≡ true → tells_settled k id (told ++ more) ≡ true
settled_append k id [] more is = absurd (cc)
settled_append k id (h ∷ told) more is = by_first (is_settling k id h) (tells_settled k id told) (tells_settled k id (told ++ more)) is (settled_append k id told more)

pub settled_behind : (k id : ℕ) (told more : List Happening) → tells_settled k id more ≡ true → tells_settled k id (told ++ more) ≡ true
settled_behind k id [] more is = is
settled_behind k id (h ∷ told) more is = or_right (is_settling k id h) (tells_settled k id (told ++ more)) (settled_behind k id told more is)

pub no_append : (told more : List Happening) → tells_no told ≡ true → tells_no (told ++ more) ≡ true
no_append [] more is = absurd (cc)
no_append (h ∷ told) more is = by_first (is_no h) (tells_no told) (tells_no (told ++ more)) is (no_append told more)

settling : (k id : ℕ) → is_settling k id (happenings.Done (k + 1) (acts.Deed (deeds.Settles id))) ≡ true
settling k id = rw (own_eq (k + 1), own_eq id) refl

-- what is told behind an act
behind_act : (answering : Bool) (k id : ℕ) (act : Act) (told : List Act) (world : WorldParts) → tells_settled k id (acts_did answering (k + 1) told (act_did answering (k + 1) act world).world).told ≡ true → tells_settled k id (acts_did answering (k + 1) (act ∷ told) world).told ≡ true
behind_act answering k id act told world later =
    settled_behind k id (act_did answering (k + 1) act world).told (acts_did answering (k + 1) told (act_did answering (k + 1) act world).world).told later

-- an act that isn't a settling leaves it to the others
act_settles : (answering : Bool) (k id : ℕ) (act : Act) (told : List Act) (world : WorldParts) → (HasSettled id (reaches Entry told) → tells_settled k id (acts_did answering (k + 1) told (act_did answering (k + 1) act world).world).told ≡ true) → HasSettled id (reaches Entry (act ∷ told))
    → tells_settled k id (acts_did answering (k + 1) (act ∷ told) world).told ≡ true
act_settles answering k id (acts.Deed (deeds.Settles board)) told world more has_first = or_left (is_settling k id (happenings.Done (k + 1) (acts.Deed (deeds.Settles id)))) (tells_settled k id (acts_did answering (k + 1) told (act_did answering (k + 1) (acts.Deed (deeds.Settles id)) world).world).told) (settling k id)
act_settles answering k id (acts.Deed (deeds.Settles board)) told world more (has_later h) = or_right (is_settling k id (happenings.Done (k + 1) (acts.Deed (deeds.Settles board)))) (tells_settled k id (acts_did answering (k + 1) told (act_did answering (k + 1) (acts.Deed (deeds.Settles board)) world).world).told) (more h)
act_settles answering k id (acts.Sends Entry message) told world more (has_later h) = behind_act answering k id (acts.Sends Entry message) told world (more h)
act_settles answering k id (acts.Closes Entry) told world more (has_later h) = behind_act answering k id (acts.Closes Entry) told world (more h)
act_settles answering k id (acts.Notices Entry) told world more (has_later h) = behind_act answering k id (acts.Notices Entry) told world (more h)
act_settles answering k id (acts.Drive Entry on) told world more (has_later h) = more h
act_settles answering k id act told world more h = behind_act answering k id act told world (more h)

-- of the acts of the machine below
pub acts_settle : (answering : Bool) (k id : ℕ) (told : List Act) (world : WorldParts) → HasSettled id (reaches Entry told) → tells_settled k id (acts_did answering (k + 1) told world).told ≡ true
acts_settle answering k id [] world h = elim h [ ]
acts_settle answering k id (act ∷ told) world h = act_settles answering k id act told world (λ later. acts_settle answering k id told (act_did answering (k + 1) act world).world later) h

-- ---- what is had of a line

pub record Had (k : ℕ) (id : Record) (left number : ℕ) (told : Bool) (s next : LineState) : Type 0 where
  pub alone : SaysAlone
  pub few : number ≤ 1000000
  pub st : Stage k id left told s
  pub stood : Stood s
  pub next_stood : Stood next

pub counts_of : {s : LineState} → Stood s → AreCounted s
counts_of stood = record { floor = stood.stands.together.floor; links = stood.stands.together.links }

-- what a line of the stretch makes of the stage
pub record Goes (k : ℕ) (id : Record) (left : ℕ) (told : Bool) (s : LineState) (request : Request) (next : LineState) (done : List Happening) : Type 0 where
  pub out : Outcome k id left (one_if (is_link_step k s request done)) (told || tells_settled k id.id done) next

few_one : (b : Bool) → one_if b ≤ 1
few_one true = omega arith
few_one false = omega arith

no_step : (of step : Bool) → of ≡ false → one_if (of && step) ≤ 0
no_step false step is = omega arith
no_step true step is = absurd (cc)

no_told : (of step : Bool) → step ≡ true → one_if (of && not step) ≤ 0
no_told true true is = omega arith
no_told false true is = omega arith
no_told of false is = absurd (cc)

less_of : (of step one : Bool) → of ≡ one → one_if (of && step) ≤ one_if one
less_of true true _ is = subst (λ (b : Bool). 1 ≤ one_if b) is (omega arith)
less_of true false _ is = subst (λ (b : Bool). 0 ≤ one_if b) is (omega arith)
less_of false step _ is = subst (λ (b : Bool). 0 ≤ one_if b) is (omega arith)

pub goes_one : {k : ℕ} {id : Record} {left : ℕ} {told : Bool} {s next : LineState} {done : List Happening} (request : Request) → Outcome k id left 1 (told || tells_settled k id.id done) next → Goes k id left told s request next done
goes_one {k = k} {s = s} {done = done} request out = record { out = outcome_less (one_if (is_link_step k s request done)) (few_one (is_link_step k s request done)) out }

pub goes_none : {k : ℕ} {id : Record} {left : ℕ} {told : Bool} {s next : LineState} {done : List Happening} (request : Request) → is_of_link k s request ≡ false → Forth k id left 0 (told || tells_settled k id.id done) next → Goes k id left told s request next done
goes_none {k = k} {s = s} {done = done} request is f = record { out = goes_forth (forth_less (one_if (is_link_step k s request done)) (no_step (is_of_link k s request) (not (tells_no done)) is) f) }

pub later_told : (k id : ℕ) (told : Bool) (done : List Happening) → told ≡ true → (told || tells_settled k id done) ≡ true
later_told k id told done is = or_left told (tells_settled k id done) is

pub forth_later : {k : ℕ} {id : Record} {left spare : ℕ} {told told_now : Bool} {next : LineState} → (told ≡ true → told_now ≡ true) → Forth k id left spare told next → Forth k id left spare told_now next
forth_later {k = k} {next = next} later f = record { now = f.now; fewer = f.fewer; stage = stage_untouched (untouched_self k next) later f.stage }

pub outcome_later : {k : ℕ} {id : Record} {left spare : ℕ} {told told_now : Bool} {next : LineState} → (told ≡ true → told_now ≡ true) → Outcome k id left spare told next → Outcome k id left spare told_now next
outcome_later later (goes_forth f) = goes_forth (forth_later later f)
outcome_later later (comes_to_end e) = comes_to_end (record { fewer = e.fewer; told_is = later e.told_is; idle = e.idle })

goes_beyond : {k : ℕ} {id : Record} {left : ℕ} {told : Bool} {s next : LineState} {done : List Happening} (request : Request) → Stage k id left told s → Untouched k s next → is_of_link k s request ≡ false → Goes k id left told s request next done
goes_beyond {k = k} {id = id} {told = told} {done = done} request st same is = goes_none request is (forth_untouched same (later_told k id.id told done) st)

-- a line that can't be done
pub refused : {k : ℕ} {id : Record} {left : ℕ} {told : Bool} {s next : LineState} {done : List Happening} (request : Request) (reason : Reason) → Stage k id left told s → Becomes s (happenings.No reason ∷ []) next done → Goes k id left told s request next done
refused {k = k} {id = id} {left = left} {told = told} {s = s} {next = next} {done = done} request reason st b =
    let no : tells_no done ≡ true = ap (λ (hs : List Happening). tells_no hs) b.told_is in
    subst (λ (x : LineState). Goes k id left told s request x done) (sym b.after_is)
    (record { out = goes_forth (forth_less (one_if (is_link_step k s request done)) (no_told (is_of_link k s request) (tells_no done) no) (forth_untouched (untouched_self k s) (later_told k id.id told done) st)) })

pub unless_goes : {k : ℕ} {id : Record} {left : ℕ} {told : Bool} {s next : LineState} {done : List Happening} (request : Request) (may : May) (Does : Type 0) → Stage k id left told s → Unless may s next done Does → (may ≡ may_do → Does → Goes k id left told s request next done) → Goes k id left told s request next done
unless_goes request (Ok _) Does st is goes = goes refl is
unless_goes request (Err reason) Does st is goes = refused request reason st is

pub becomes_goes : {k : ℕ} {id : Record} {left : ℕ} {told : Bool} {s next now : LineState} {what done : List Happening} (request : Request) → Stage k id left told s → Untouched k s now → is_of_link k s request ≡ false → Becomes now what next done → Goes k id left told s request next done
becomes_goes {k = k} {id = id} {left = left} {told = told} {s = s} {done = done} request st same is b = subst (λ (x : LineState). Goes k id left told s request x done) (sym b.after_is) (goes_beyond request st same is)

-- ---- steps of other machines

pub beyond_step : (k number m : ℕ) (input : Input) (s next : LineState) (done : List Happening) → m ≢ k → m ≢ k + 1 → MachineSteps number m input s next done → Untouched k s next
beyond_step k number m input s next done above below steps = machine_beyond k m s next above below (step_changes number m input s next done steps) (λ is. links_stay number m input s next done steps k ∙ is)

pub elsewhere_step : {k : ℕ} {id : Record} {left : ℕ} {told : Bool} {s next : LineState} {done : List Happening} (request : Request) (number m : ℕ) (input : Input) → Stage k id left told s → IsElsewhere k m → is_of_link k s request ≡ false → MachineSteps number m input s next done → Goes k id left told s request next done
elsewhere_step {k = k} {s = s} {next = next} {done = done} request number m input st e is steps = goes_beyond request st (beyond_step k number m input s next done e.not_above e.not_below steps) is

pub link_untouched : (k link : ℕ) (parts : LinkParts) (s : LineState) → link ≢ k → Untouched k s (with_world (with_link link parts s.world) s)
link_untouched k link parts s apart = link_beyond k link s (with_world (with_link link parts s.world) s) apart (link_changes link parts s) (λ is. is)

pub other_link : (k m : ℕ) (side : Side) → 1 ≤ k → IsElsewhere k m → link_of m side ≢ k
other_link k m Exit one e = e.not_above
other_link k m Entry one e =
    let below = e.not_below in
    omega (arith, one, below)

pub elsewhere_flow : {k : ℕ} {id : Record} {left : ℕ} {told : Bool} {s next : LineState} {done : List Happening} (request : Request) (number m : ℕ) (side : Side) (count : Option ℕ) → Stage k id left told s → IsElsewhere k m → is_of_link k s request ≡ false → Flows number m side count s next done → Goes k id left told s request next done
elsewhere_flow {k = k} {s = s} {next = next} {done = done} request number m side count st e is flows =
    let one = (counted k s st.linked).0 in
    goes_beyond request st
    (untouched_then (link_untouched k (link_of m side) _ s (other_link k m side one e)) (beyond_step k number m (inputs.Bytes side flows.piece) (arrived m side count s) next done e.not_above e.not_below flows.steps)) is

-- ---- both machines read what their sensors saw

by_above : (one two x y : Bool) → one ≡ true → two ≡ false → ((one && x) || (two && y)) ≡ x
by_above true false true y a b = refl
by_above true false false y a b = refl
by_above false two x y a b = absurd (cc)
by_above true true x y a b = absurd (cc)

by_below : (one two x y : Bool) → one ≡ false → two ≡ true → ((one && x) || (two && y)) ≡ y
by_below false true x y a b = refl
by_below true two x y a b = absurd (cc)
by_below false false x y a b = absurd (cc)

by_none : (one two x y : Bool) → one ≡ false → two ≡ false → ((one && x) || (two && y)) ≡ false
by_none false false x y a b = refl
by_none true two x y a b = absurd (cc)
by_none false true x y a b = absurd (cc)

pub unread_above : (k : ℕ) (s : LineState) → has_unread_of k k s ≡ are_some (events_at Exit (machine_at s.world.floor k).unread)
unread_above k s =
    let apart : k ≢ k + 1 = omega arith in
    by_above (k == k) (k == k + 1) (are_some (events_at Exit (machine_at s.world.floor k).unread)) (are_some (events_at Entry (machine_at s.world.floor k).unread)) (own_eq k) (ne_eqb k (k + 1) apart)

pub unread_below : (k : ℕ) (s : LineState) → has_unread_of k (k + 1) s ≡ are_some (events_at Entry (machine_at s.world.floor (k + 1)).unread)
unread_below k s =
    let apart : k + 1 ≢ k = omega arith in
    by_below (k + 1 == k) (k + 1 == k + 1) (are_some (events_at Exit (machine_at s.world.floor (k + 1)).unread)) (are_some (events_at Entry (machine_at s.world.floor (k + 1)).unread)) (ne_eqb (k + 1) k apart) (own_eq (k + 1))

pub unread_elsewhere : (k m : ℕ) (s : LineState) → m ≢ k → m ≢ k + 1 → has_unread_of k m s ≡ false
unread_elsewhere k m s above below =
    by_none (m == k) (m == k + 1) (are_some (events_at Exit (machine_at s.world.floor m).unread)) (are_some (events_at Entry (machine_at s.world.floor m).unread)) (ne_eqb m k above) (ne_eqb m (k + 1) below)

sense_above : {k : ℕ} {id : Record} {left : ℕ} {told : Bool} {s next : LineState} {done : List Happening} (number : ℕ) → Had k id left number told s next → MachineSteps number k inputs.Nothing s next done → Goes k id left told s (requests.gives k inputs.Nothing) next done
sense_above {k = k} {id = id} {left = left} {told = told} {s = s} {next = next} {done = done} number h steps =
    let st = h.st in
    let f = above_line h.alone k id number left told inputs.Nothing s s.world next done st (counts_of h.stood) h.stood.stands.ids.whole refl refl h.few (h.stood.stands.fit k) (h.next_stood.stands.fit k).body.kept steps steps.steps.lane.brings.1 refl (next_node number k inputs.Nothing s next done steps) (λ body. leaves_still Entry body) in
    record { out = goes_forth (forth_less (one_if (is_link_step k s (requests.gives k inputs.Nothing) done)) (less_of (has_unread_of k k s) (not (tells_no done)) (are_some st.up_seen) (unread_above k s ∙ ap (λ es. are_some es) st.up_unread)) (forth_later (later_told k id.id told done) f)) }

-- what is told of the machine below
pub told_below : {id : ℕ} {s next : LineState} {done : List Happening} (k : ℕ) (told : Bool) (number : ℕ) (input : Input) (b : ℕ) → b ≡ id → (steps : MachineSteps number (k + 1) input s next done) → HasSettled b (reaches Entry steps.acts) → (told || tells_settled k id done) ≡ true
told_below {id = id} {s = s} {done = done} k told number input b is steps h =
    or_right told (tells_settled k id done) (ap (λ (hs : List Happening). tells_settled k id hs) steps.told_is ∙ acts_settle (is_second input) k id steps.acts (read_by (k + 1) s.world) (subst (λ (n : ℕ). HasSettled n (reaches Entry steps.acts)) is h))

sense_below : {k : ℕ} {id : Record} {left : ℕ} {told : Bool} {s next : LineState} {done : List Happening} (number : ℕ) → Had k id left number told s next → MachineSteps number (k + 1) inputs.Nothing s next done → Goes k id left told s (requests.gives (k + 1) inputs.Nothing) next done
sense_below {k = k} {id = id} {left = left} {told = told} {s = s} {next = next} {done = done} number h steps =
    let st = h.st in
    let role = subst (λ (n : NodeState). n.lane.body.exit.session.role ≡ Upstream) (node_there (k + 1) s steps.node steps.there) (h.stood.stands.sound (k + 1)).exit in
    let f = below_line h.alone k id number left told (told || tells_settled k id.id done) inputs.Nothing s s.world next done st (counts_of h.stood) h.stood.stands.ids.whole refl h.few (h.stood.stands.fit (k + 1)) steps role steps.steps.lane.brings.0 refl (λ body r. aside_still body)
    (later_told k id.id told done) (told_below k told number inputs.Nothing st.b.id (st.same ∙ st.named) steps) in
    record { out = goes_forth (forth_less (one_if (is_link_step k s (requests.gives (k + 1) inputs.Nothing) done)) (less_of (has_unread_of k (k + 1) s) (not (tells_no done)) (are_some st.down_seen) (unread_below k s ∙ ap (λ es. are_some es) st.down_unread)) f) }

pub sense_by : {k : ℕ} {id : Record} {left : ℕ} {told : Bool} {s next : LineState} {done : List Happening} (number m : ℕ) → Had k id left number told s next → MachineSteps number m inputs.Nothing s next done → (m ≡ k) ⊎ (m ≢ k) → (m ≡ k + 1) ⊎ (m ≢ k + 1) → Goes k id left told s (requests.gives m inputs.Nothing) next done
sense_by {k = k} {id = id} {left = left} {told = told} {s = s} {next = next} {done = done} number m h steps (inl is) other =
    subst (λ (n : ℕ). MachineSteps number n inputs.Nothing s next done → Goes k id left told s (requests.gives n inputs.Nothing) next done) (sym is) (λ own. sense_above number h own) steps
sense_by {k = k} {id = id} {left = left} {told = told} {s = s} {next = next} {done = done} number m h steps (inr above) (inl is) =
    subst (λ (n : ℕ). MachineSteps number n inputs.Nothing s next done → Goes k id left told s (requests.gives n inputs.Nothing) next done) (sym is) (λ own. sense_below number h own) steps
sense_by {k = k} {s = s} {next = next} {done = done} number m h steps (inr above) (inr below) = elsewhere_step (requests.gives m inputs.Nothing) number m inputs.Nothing h.st (record { not_above = above; not_below = below }) (unread_elsewhere k m s above below) steps
