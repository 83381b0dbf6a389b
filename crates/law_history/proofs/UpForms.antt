-- A LINE, as the link behind a machine sees it: what the machine above it hears and tells, and which starts flow up behind it.
use Rattle.std.proofs.Common.{Bool, Err, List, None, Ok, Option, Result, Some, [], ap, append-nil, arith, false, inl, inr, length, refl, subst, sym, true, ℕ, ◌&&◌, ◌++◌, ◌+◌, ◌-◌, ◌||◌, ◌∙◌, ◌∷◌, ◌≡◌, ◌≢◌, ◌≤◌, ◌⊎◌}
use Rattle.std.specs.Prelude.{drop}
use Rattle.std.specs.List.{list_any}
use Rattle.std.proofs.lemmas.Bool.{false≢true, ltb-true, or_right, and_from}
use Rattle.law_one_standing.proofs.RestLine.{node_there}
use Rattle.law_one_standing.proofs.BlameFlows.{others_same, own_behind, flow_fit}
use Rattle.line_base.specs.declared.states.Role.TheVariants.{Downstream, Upstream}
use Rattle.line_base.specs.declared.states.Side.{Side}
use Rattle.line_base.specs.declared.states.Side.TheVariants.{Entry, Exit}
use Rattle.board_record.specs.Maker.{Maker, next_id}
use Rattle.board_record.specs.declared.maker.IdsUsedUp.{IdsUsedUp}
use Rattle.hermes_horizontal.specs.declared.message.Horizontal.{Horizontal}
use Rattle.hermes_horizontal.specs.declared.message.Message.{Message}
use Rattle.hermes_stream.specs.Frames.{NeedMore, answer_of}
use Rattle.line_link.specs.Flow.{Stream, coming, flowing, with_arrival}
use Rattle.line_link.specs.Link.{LinkParts, after_connect, after_flow, after_spoil, connected, connected_of, cut, is_too_much, next_number, nulled}
use Rattle.line_link.specs.declared.link.Connected.{Connected}
use Rattle.line_link.specs.declared.link.Connected.TheVariants as connections
use Rattle.line_link.proofs.Coming.{coming_of_nul}
use Rattle.smema_bridge.specs.Levels.{BridgeLevels}
use Rattle.line_report.specs.declared.happening.Happening.{Happening}
use Rattle.node_core.specs.Desk.{Desk}
use Rattle.node_core.specs.Done.{Done}
use Rattle.node_core.specs.Event.{Event, event_of, with_new}
use Rattle.node_core.specs.Event as events
use Rattle.node_core.specs.Halves.{OffersFront}
use Rattle.node_core.specs.Node.{NodeState, desk_of}
use Rattle.node_core.specs.Sides.{is_open}
use Rattle.node_core.specs.Signals.{signalled}
use Rattle.node_core.specs.Step.{plain_step}
use Rattle.node_core.specs.Supervising.{watch_of, with_tells}
use Rattle.node_core.specs.Words.{AreWords}
use Rattle.node_core.specs.declared.act.Act.{Act}
use Rattle.node_core.specs.declared.act.Act.TheVariants as acts
use Rattle.node_core.specs.declared.act.Signal.{Signal}
use Rattle.node_core.specs.declared.input.Input.{Input}
use Rattle.node_core.specs.declared.input.Input.TheVariants as inputs
use Rattle.node_core.specs.declared.lane.Body.{Body}
use Rattle.node_core.specs.declared.supervising.Watch.{Watch}
use Rattle.node_core.specs.declared.word.Word.{Word}
use Rattle.node_core.proofs.Signalling.{signals_pass}
use Rattle.node_core.proofs.Telling.{tells_pass}
use Rattle.law_custody.specs.Bytes.{Flows as FlowsAs, Spoiled, texts_of}
use Rattle.law_custody.proofs.Spoils.{puts_a_nul}
use Rattle.law_custody.proofs.Texts.{nothing_flows}
use Rattle.law_machine_custody.specs.Flight.{AreOldest, oldest_none}
use Rattle.law_link_messages.specs.Fit.{AreFit, AreFitActs, AreFitWords, IsFitInput, none_fit}
use Rattle.law_link_messages.specs.Heard.{Heard, HeardSpoiled, bodies}
use Rattle.law_link_messages.proofs.Fitting.{fit_behind}
use Rattle.node_core.specs.declared.lane.Lane.{Lane}
use Rattle.line_step.specs.Tracks.{TrackLine, TrackSteps, other_line, own_line}
use Rattle.line_step.proofs.Beside.{beside-lane}
use Rattle.line_step.specs.Lines.{Connects, Flows, LineSteps, arrived, connecting, lied, met, moved, spoil_told, spoiled, unseen}
use Rattle.line_step.specs.Numbered.{node_at}
use Rattle.line_step.specs.Reasons.{has_link, is_empty, may_do, may_flow}
use Rattle.line_step.specs.Shown.{standings_told}
use Rattle.line_step.specs.State.{LineState, one_more, with_world}
use Rattle.line_step.specs.Steps.{MachineSteps, is_second, moment_of, read_by, unread_by}
use Rattle.line_step.specs.World.{end_of, link_at, link_of, with_link}
use Rattle.line_step.proofs.Keeps.{more_at}
use Rattle.line_step.proofs.Numbers.{machine_within, same_or_not}
use Rattle.law_one_standing.specs.Carried.{Carries, IsFitMachine, Trace, carries_over, carries_spoiled, carries_whole}
use Rattle.law_one_standing.specs.Links.{AreWholeLinks}
use Rattle.law_one_standing.specs.Standing.{IsFitRequest, IsFitTrack}
use Rattle.law_one_standing.specs.Stands.{Stands}
use Rattle.law_one_standing.specs.Waits.{AreWaiting}
use Rattle.law_one_standing.proofs.Behind.{fit_machine}
use Rattle.law_one_standing.proofs.BlameJoins.{same_exit, whole_connecting}
use Rattle.law_one_standing.proofs.BlameLines.{more_same, met_quiet, still_exit}
use Rattle.law_one_standing.proofs.BlameSteps.{NewBytes, heard_good, is_bytes, new_bytes, others_stay, quiet_fit}
use Rattle.law_one_standing.proofs.Carrying.{SaysAlone}
use Rattle.law_one_standing.proofs.Counting.{is_wrong_first}
use Rattle.law_one_standing.proofs.LedgerLine.{same_nodes}
use Rattle.law_one_standing.proofs.LineForms.{numbered}
use Rattle.law_one_standing.proofs.MirroringCall.{dry_up}
use Rattle.law_one_standing.proofs.MirroringFlow.{CanFlow, arrival, can_flow, empty_of, link_there, no_words, bodies_drop}
use Rattle.law_one_standing.proofs.MirroringPlain.{is_plain_input}
use Rattle.law_one_standing.proofs.RestMore.{no_link_at}
use Rattle.law_one_standing.proofs.SpoilingLine.{spoil_needs}
use Rattle.law_one_standing.proofs.WholeLinks.{CanSpoil, can_spoil, steps as whole_steps, whole_arrival, whole_links}
use Rattle.law_history.specs.Settled.{is_start}
use Rattle.law_history.proofs.LinkFlow.{at_set, flow_off, flow_over, flow_spoiled, flow_whole, on_cut, on_limit, set_own}
use Rattle.law_history.proofs.LinkUp.{Up, UpOn, acts_up, are_silent, is_silent, starts_of, up_any}
use Rattle.law_history.proofs.Orders.{Orders, exit_words, is_plain, orders_end, orders_hears, orders_on, orders_opens, orders_refuses, orders_starts, step_orders}
use Rattle.law_history.proofs.View.{done_append, done_by, flow_carried, other_acts, own_acts, remarks_none, standings_none, told_of_act, undriven, undriven_signals, undriven_step}
use Rattle.line_step.proofs.Remarks.{unvouched_remarks}
use Rattle.line_step.specs.Requests.{Request}
use Rattle.line_step.proofs.Effects.{Effect, added_remarks, becomes_by, line_effect, spoil_remarks}
use Rattle.law_one_standing.proofs.GivenPlain.{given_plain}
use Rattle.line_step.proofs.Effects as effects

-- ---- what is told of acts

plain_told : {words : List Word} (act : Act) (rest : List Act) → is_plain act ≡ true → Orders true words rest → Orders true words (told_of_act act ++ rest)
plain_told (acts.Drive side on) rest plain more = more
plain_told (acts.Signals signal on) rest plain more = more
plain_told (acts.Tells message) rest plain more = more
plain_told act rest plain more = orders_on plain more

pub orders_undriven : {words : List Word} {told : List Act} → Orders true words told → Orders true words (undriven told)
orders_undriven orders_end = orders_end
orders_undriven (orders_on {act = act} {told = told} plain more) = plain_told act (undriven told) plain (orders_undriven more)
orders_undriven (orders_hears more) = orders_hears (orders_undriven more)
orders_undriven (orders_opens is more) = orders_opens is (orders_undriven more)
orders_undriven (orders_refuses is more) = orders_refuses is (orders_undriven more)
orders_undriven (orders_starts None) = orders_starts None
orders_undriven (orders_starts (Some on)) = orders_starts None

plain_silent : (act : Act) → is_plain act ≡ true → is_silent act ≡ true
plain_silent (acts.Sends Entry message) plain = plain
plain_silent (acts.Sends Exit message) plain = refl
plain_silent _ plain = refl

pub any_later : (a b : List Act) → list_any is_start b ≡ true → list_any is_start (a ++ b) ≡ true
any_later [] b is = is
any_later (act ∷ a) b is = or_right (is_start act) (list_any is_start (a ++ b)) (any_later a b is)

pub any_first : (a b : List Act) → list_any is_start a ≡ true → list_any is_start (a ++ b) ≡ true
any_first [] b is = absurd (false≢true is)
any_first (act ∷ a) b is = by (is_start act) is (any_first a b)
  where
    by : (test : Bool) → (test || list_any is_start a) ≡ true → (list_any is_start a ≡ true → list_any is_start (a ++ b) ≡ true) → (test || list_any is_start (a ++ b)) ≡ true
    by true is later = refl
    by false is later = later is

-- it tells a start, or sends none
silent_or : {words : List Word} {told : List Act} → Orders true words told → (list_any is_start (undriven told) ≡ true) ⊎ (are_silent told ≡ true)
silent_or orders_end = inr refl
silent_or (orders_on {act = act} {told = told} plain more) = by (silent_or more)
  where
    by : (list_any is_start (undriven told) ≡ true) ⊎ (are_silent told ≡ true) → (list_any is_start (undriven (act ∷ told)) ≡ true) ⊎ (are_silent (act ∷ told) ≡ true)
    by (inl any) = inl (any_later (told_of_act act) (undriven told) any)
    by (inr silent) = inr (and_from (is_silent act) (are_silent told) (plain_silent act plain) silent)
silent_or (orders_hears more) = silent_or more
silent_or (orders_opens is more) = silent_or more
silent_or (orders_refuses is more) = silent_or more
silent_or (orders_starts on) = inl refl

-- a bridge's own signals send none
silent_last : (front : List Act) (signal : Signal) (on : Bool) → are_silent (front ++ acts.Signals signal on ∷ []) ≡ are_silent front
silent_last [] signal on = refl
silent_last (act ∷ front) signal on = ap (λ (b : Bool). is_silent act && b) (silent_last front signal on)

silent_signals : (made : List Act) (bridge : Option BridgeLevels) (body : Body) → are_silent (made ++ signalled bridge body) ≡ are_silent made
silent_signals made bridge body = signals_pass are_silent silent_last made bridge body

-- nor does what the supervisor is told
pub silent_tells : (desk : Desk) (watch : Watch) (made : List Act) → are_silent (with_tells desk watch made) ≡ are_silent made
silent_tells desk watch made =
    tells_pass are_silent (λ act told plain h. ap (λ (b : Bool). is_silent act && b) h) (λ message told. refl) desk watch made

-- ---- a step of a machine

own_done : (number m : ℕ) (input : Input) (start after : LineState) (told : List Happening) → (steps : MachineSteps number m input start after told) → done_by m told ≡ undriven steps.steps.made
own_done number m input start after told steps =
    ap (done_by m) steps.told_is ∙ own_acts (is_second input) m steps.acts (read_by m start.world) ∙ ap undriven steps.steps.told
    ∙ undriven_signals steps.steps.made steps.node.bridge steps.next.lane.body

pub other_done : (k number m : ℕ) (input : Input) (start after : LineState) (told : List Happening) → MachineSteps number m input start after told → k ≢ m → done_by k told ≡ []
other_done k number m input start after told steps apart = ap (done_by k) steps.told_is ∙ other_acts (is_second input) k m steps.acts (read_by m start.world) apart

-- what it did but for what the supervisor is told
abbrev pub plain_did : {number m : ℕ} {input : Input} {start after : LineState} {told : List Happening} → MachineSteps number m input start after told → Done
plain_did {number = number} {m = m} {input = input} {start = start} steps =
    plain_step (desk_of steps.node (moment_of number)) (unread_by m start.world) (event_of steps.node.maker input steps.steps.lane.words) steps.node.lane.body

pub own_plain : (number m : ℕ) (input : Input) (start after : LineState) (told : List Happening) → (steps : MachineSteps number m input start after told) → done_by m told ≡ undriven (plain_did steps).acts
own_plain number m input start after told steps =
    own_done number m input start after told steps ∙ ap undriven steps.steps.lane.told
    ∙ undriven_step (desk_of steps.node (moment_of number)) (unread_by m start.world) (event_of steps.node.maker input steps.steps.lane.words) steps.node.lane.body

acts_orders : (number m : ℕ) (input : Input) (start after : LineState) (told : List Happening) → (steps : MachineSteps number m input start after told) → OffersFront steps.node.lane.body → Orders true (exit_words (event_of steps.node.maker input steps.steps.lane.words)) (plain_did steps).acts
acts_orders number m input start after told steps front =
    step_orders (desk_of steps.node (moment_of number)) (unread_by m start.world) (event_of steps.node.maker input steps.steps.lane.words) steps.node.lane.body front

own_orders : (number m : ℕ) (input : Input) (start after : LineState) (told : List Happening) → (steps : MachineSteps number m input start after told) → OffersFront steps.node.lane.body → Orders true (exit_words (event_of steps.node.maker input steps.steps.lane.words)) (done_by m told)
own_orders number m input start after told steps front =
    subst (λ (l : List Act). Orders true (exit_words (event_of steps.node.maker input steps.steps.lane.words)) l) (sym (own_plain number m input start after told steps)) (orders_undriven (acts_orders number m input start after told steps front))

new_none : (found : Result ℕ IdsUsedUp) (event : ℕ → Event) → ((id : ℕ) → exit_words (event id) ≡ []) → exit_words (with_new found event) ≡ []
new_none (Ok id) event all = all id
new_none (Err why) event all = refl

-- words come at the exit with bytes to it alone
abbrev is_bytes_up : Input → Bool
is_bytes_up (inputs.Bytes Exit piece) = true
is_bytes_up _ = false

no_exit_words : (maker : Maker) (input : Input) (words : List Word) → is_bytes_up input ≡ false → exit_words (event_of maker input words) ≡ []
no_exit_words maker (inputs.Bytes Exit piece) words none = absurd (false≢true (sym none))
no_exit_words maker (inputs.Insert barcode) words none = new_none (next_id maker) (λ id. events.Insert id barcode) (λ id. refl)
no_exit_words maker (inputs.Replace old) words none = new_none (next_id maker) (events.Replace old) (λ id. refl)
no_exit_words maker _ words none = refl

-- each machine offers its front record
abbrev OffersAll : LineState → Type 0
OffersAll s = (machine : ℕ) → OffersFront (node_at s machine).lane.body

own_front : (number m : ℕ) (input : Input) (start after : LineState) (told : List Happening) → OffersFront (node_at start m).lane.body → (steps : MachineSteps number m input start after told) → OffersFront steps.node.lane.body
own_front number m input start after told all steps = subst (λ (n : NodeState). OffersFront n.lane.body) (node_there m start steps.node steps.there) all

pub offers_all : (t : Trace) (s : LineState) → Stands t s → OffersAll s
offers_all t s st machine = (st.sound machine).offers

offers_same : (s now : LineState) → now.machines ≡ s.machines → OffersAll s → OffersAll now
offers_same s now same all machine = subst (λ (n : NodeState). OffersFront n.lane.body) (sym (same_nodes s now same machine)) (all machine)

-- a step without them answers nothing
pub no_orders : (k number m : ℕ) (input : Input) (start after : LineState) (told : List Happening) → OffersFront (node_at start m).lane.body → is_bytes_up input ≡ false → MachineSteps number m input start after told → Orders true [] (done_by k told)
no_orders k number m input start after told all none steps = by (same_or_not k m)
  where
    by : (k ≡ m) ⊎ (k ≢ m) → Orders true [] (done_by k told)
    by (inl is) =
        subst (λ (n : ℕ). Orders true [] (done_by n told)) (sym is)
        (subst (λ (ws : List Word). Orders true ws (done_by m told)) (no_exit_words steps.node.maker input steps.steps.lane.words none) (own_orders number m input start after told steps (own_front number m input start after told all steps)))
    by (inr apart) = subst (λ (l : List Act). Orders true [] l) (sym (other_done k number m input start after told steps apart)) orders_end

-- where it is the machine below the link, it tells a start or sends none
silent_at : (k number m : ℕ) (input : Input) (start after : LineState) (told : List Happening) → OffersFront (node_at start m).lane.body → (steps : MachineSteps number m input start after told) → k ≡ m - 1 → (list_any is_start (done_by (k + 1) told) ≡ true) ⊎ (are_silent steps.acts ≡ true)
silent_at k number m input start after told all steps is =
    let counted : 1 ≤ m = (machine_within m start steps.node steps.there).0 in
    let same : k + 1 ≡ m = omega (arith, counted, is) in
    subst (λ (n : ℕ). (list_any is_start (done_by n told) ≡ true) ⊎ (are_silent steps.acts ≡ true)) (sym same)
    (subst (λ (l : List Act). (list_any is_start l ≡ true) ⊎ (are_silent steps.acts ≡ true)) (sym (own_plain number m input start after told steps)) (behind (silent_or (acts_orders number m input start after told steps (own_front number m input start after told all steps)))))
  where
    desk : Desk
    desk = desk_of steps.node (moment_of number)

    behind : (list_any is_start (undriven (plain_did steps).acts) ≡ true) ⊎ (are_silent (plain_did steps).acts ≡ true) → (list_any is_start (undriven (plain_did steps).acts) ≡ true) ⊎ (are_silent steps.acts ≡ true)
    behind (inl any) = inl any
    behind (inr silent) =
        inr (ap are_silent steps.steps.told ∙ silent_signals steps.steps.made steps.node.bridge steps.next.lane.body ∙ ap are_silent steps.steps.lane.told
        ∙ silent_tells desk (watch_of desk steps.node.lane.body) (plain_did steps).acts ∙ silent)

step_up : {Any : Type 0} {ids : List ℕ} {waiting : List ℕ} → SaysAlone → (k number m : ℕ) (input : Input) (start after : LineState) (told : List Happening) (steps : MachineSteps number m input start after told) → AreFitActs steps.acts
    → (k ≡ m - 1 → Any ⊎ (are_silent steps.acts ≡ true)) → AreWholeLinks start → UpOn Any ids waiting (link_at k start.world) → UpOn Any ids waiting (link_at k after.world)
step_up {Any} {ids} {waiting} alone k number m input start after told steps fit silent whole was =
    subst (λ (s : LineState). UpOn Any ids waiting (link_at k s.world)) (sym steps.after_is) (acts_up alone k (is_second input) m steps.acts (read_by m start.world) fit silent whole was)

-- ---- before the line

-- the messages on their way up, where their bytes are whole; else none
pub data Ups (messages : List Horizontal) (waiting bytes : List ℕ) : List Horizontal → Type 0 where
  ups_none : Ups messages waiting bytes []
  ups_whole : (said : List Message) → AreFit said → bodies said ≡ messages → FlowsAs waiting bytes (texts_of said) → Ups messages waiting bytes messages

pub record Based (messages : List Horizontal) (stands : Bool) (waiting bytes : List ℕ) : Type 0 where
  pub ups : List Horizontal
  pub is : Ups messages waiting bytes ups
  pub up : Up ⊥ (starts_of ups) stands waiting bytes

based_on : {stands : Bool} {waiting : List ℕ} {stream : Stream} {messages : List Horizontal} → Carries stands waiting stream messages → Based messages stands waiting (coming stream)
based_on (carries_whole said fit flows) = record { ups = bodies said; is = ups_whole said fit refl flows; up = flow_whole said fit (inr refl) flows }
based_on (carries_spoiled spoiled hides) = record { ups = []; is = ups_none; up = flow_spoiled spoiled }
based_on (carries_over off none) = record { ups = []; is = ups_none; up = flow_over off none }

abbrev pub Base : ℕ → Trace → LineState → Type 0
Base k t s = Based (t.up k) (link_at k s.world).stands (node_at s k).lane.exit_bytes (coming (link_at k s.world).flows.to_upstream)

pub base : (k : ℕ) (t : Trace) (s : LineState) → Stands t s → Base k t s
base k t s st = by (has_link k s) refl
  where
    by : (test : Bool) → has_link k s ≡ test → Base k t s
    by true has = based_on (st.carried k has).up
    by false none =
        subst (λ (l : LinkParts). Based (t.up k) l.stands (node_at s k).lane.exit_bytes (coming l.flows.to_upstream)) (sym (no_link_at s k st.together none)) (record { ups = []; is = ups_none; up = flow_over refl refl })

-- ---- THE LINK BEHIND MACHINE k, over a line

-- a start is told by the machine below
abbrev pub Starting : ℕ → List Happening → Type 0
Starting k told = list_any is_start (done_by (k + 1) told) ≡ true

pub record UpNext (k : ℕ) (t : Trace) (before next : LineState) (told : List Happening) : Type 0 where
  pub ups : List Horizontal
  pub is : Ups (t.up k) (node_at before k).lane.exit_bytes (coming (link_at k before.world).flows.to_upstream) ups
  pub heard : List Word
  pub oldest : AreOldest heard ups
  pub orders : Orders true heard (done_by k told)
  pub who : (done_by (k + 1) told ≡ []) ⊎ (heard ≡ [])
  pub ids : List ℕ
  pub left : (ids ≡ []) ⊎ (ids ≡ starts_of (drop (length heard) ups))
  pub up : is_open Exit (node_at next k).lane.body ≡ true → UpOn (Starting k told) ids (node_at next k).lane.exit_bytes (link_at k next.world)

-- nothing is heard there
quiet_next : (k : ℕ) (t : Trace) (before next : LineState) (told : List Happening) → (st : Stands t before) → Orders true [] (done_by k told) → UpOn (Starting k told) (starts_of (base k t before st).ups) (node_at next k).lane.exit_bytes (link_at k next.world) → UpNext k t before next told
quiet_next k t before next told st orders up =
    let b : Base k t before = base k t before st in
    record { ups = b.ups; is = b.is; heard = []; oldest = oldest_none; orders = orders; who = inr refl; ids = starts_of b.ups; left = inr refl; up = λ on. up }

pub not_bytes : (input : Input) → is_plain_input input ≡ true → is_bytes input ≡ false
not_bytes (inputs.Bytes side piece) plain = absurd (false≢true plain)
not_bytes _ plain = refl

not_up : (input : Input) → is_bytes input ≡ false → is_bytes_up input ≡ false
not_up (inputs.Bytes side piece) none = absurd (false≢true (sym none))
not_up _ none = refl

plain_next : SaysAlone → (k number m : ℕ) (input : Input) (t : Trace) (before next : LineState) (told : List Happening) → is_plain_input input ≡ true → IsFitInput input → number ≤ 1000000 → Stands t before → MachineSteps number m input before next told → UpNext k t before next told
plain_next alone k number m input t before next told plain fits few st steps =
    let none : is_bytes input ≡ false = not_bytes input plain in
    let new : NewBytes m input before next = new_bytes number m input before next told none steps in
    quiet_next k t before next told st (no_orders k number m input before next told (offers_all t before st m) (not_up input none) steps)
    (subst (λ (w : List ℕ). UpOn (Starting k told) (starts_of (base k t before st).ups) w (link_at k next.world)) (sym (same_exit m input before next (λ bytes. still_exit input bytes plain) new k))
    (step_up alone k number m input before next told steps (quiet_fit number m input before next told none fits few (st.fit m) steps) (silent_at k number m input before next told (offers_all t before st m) steps) st.links (up_any (base k t before st).up)))

-- where no machine tells anything and the machine's bytes and its link are the same
still_next : (k : ℕ) (t : Trace) (before now : LineState) (what : List Happening) → Stands t before → done_by k what ≡ [] → (node_at now k).lane.exit_bytes ≡ (node_at before k).lane.exit_bytes → link_at k now.world ≡ link_at k before.world → UpNext k t before now what
still_next k t before now what st none bytes link =
    quiet_next k t before now what st (subst (λ (l : List Act). Orders true [] l) (sym none) orders_end)
    (subst (λ (w : List ℕ). UpOn (Starting k what) (starts_of (base k t before st).ups) w (link_at k now.world)) (sym bytes) (subst (λ (l : LinkParts). UpOn (Starting k what) (starts_of (base k t before st).ups) (node_at before k).lane.exit_bytes l) (sym link) (up_any (base k t before st).up)))

-- or the link of one number is another
changed_next : (k link : ℕ) (parts : LinkParts) (t : Trace) (before : LineState) (what : List Happening) → (st : Stands t before) → done_by k what ≡ [] → (k ≡ link → UpOn (Starting k what) (starts_of (base k t before st).ups) (node_at before k).lane.exit_bytes parts)
    → UpNext k t before (with_world (with_link link parts before.world) before) what
changed_next k link parts t before what st none here =
    let now : LineState = with_world (with_link link parts before.world) before in
    quiet_next k t before now what st (subst (λ (l : List Act). Orders true [] l) (sym none) orders_end)
    (subst (λ (w : List ℕ). UpOn (Starting k what) (starts_of (base k t before st).ups) w (link_at k now.world)) (sym (ap (λ (n : NodeState). n.lane.exit_bytes) (same_nodes before now refl k))) (at_set Upstream k link parts before.world here (up_any (base k t before st).up)))

-- ---- bytes arrive

-- the words of a piece are fit
carries_fit : {stands : Bool} {stream : Stream} {messages : List Horizontal} → SaysAlone → (words : List Word) (old piece new : List ℕ) (still : Bool) (later : Stream) → coming stream ≡ piece ++ coming later → is_empty (coming stream) ≡ false
    → AreWords old piece new still words → Carries stands old stream messages → AreFitWords words
carries_fit alone words old piece new still later is some are (carries_whole said good flows) =
    alone.fit_words old piece (coming later) new still words said (alone.sayable said good) good (subst (λ (bytes : List ℕ). FlowsAs old bytes (texts_of said)) is flows) are
carries_fit alone words old piece new still later is some are (carries_spoiled spoiled hides) = alone.fit_wrong old piece (coming later) new still words (subst (λ (bytes : List ℕ). Spoiled old bytes) is spoiled) are
carries_fit {stream = stream} alone words old piece new still later is some are (carries_over off nothing) = absurd (false≢true (sym some ∙ empty_of (coming stream) nothing))

pub flow_fits : SaysAlone → (t : Trace) (number j : ℕ) (side : Side) (count : Option ℕ) (before after : LineState) (told : List Happening) → CanFlow (j + 1) side before → Stands t before
    → (flows : Flows number (j + 1) side count before after told) → AreFitWords flows.steps.steps.lane.words
flow_fits alone t number j side count before after told can st flows =
    flow_carried (λ (words : List Word) (messages : List Horizontal). AreFitWords words) (λ stands stream messages words old piece new still later. carries_fit alone words old piece new still later) t number j side count before after told can st flows

-- what is heard of what flows up, and what is left
record Hears (messages : List Horizontal) (words : List Word) (stands still : Bool) (old bytes new later : List ℕ) : Type 0 where
  ups : List Horizontal
  is : Ups messages old bytes ups
  oldest : AreOldest words ups
  up : still ≡ true → is_wrong_first words ≡ false → Up ⊥ (starts_of (drop (length words) ups)) stands new later

hears_of : {stands : Bool} {stream : Stream} {messages : List Horizontal} → SaysAlone → (words : List Word) (old piece new : List ℕ) (still : Bool) (later : Stream) → coming stream ≡ piece ++ coming later → is_empty (coming stream) ≡ false
    → AreWords old piece new still words → Carries stands old stream messages → Hears messages words stands still old (coming stream) new (coming later)
hears_of alone words old piece new still later is some are (carries_whole said fit flows) =
    let h : Heard said words new (coming later) still = alone.oldest old piece (coming later) new still words said (alone.sayable said fit) (subst (λ (bytes : List ℕ). FlowsAs old bytes (texts_of said)) is flows) are in
    record {
      ups = bodies said;
      is = ups_whole said fit refl flows;
      oldest = h.oldest;
      up = λ on good. flow_whole (drop (length words) said) (fit_behind (length words) said fit) (inr (ap starts_of (bodies_drop (length words) said))) (h.flows on);
    }
hears_of alone words old piece new still later is some are (carries_spoiled spoiled hides) =
    let h : HeardSpoiled [] words new (coming later) still = alone.wrong old piece (coming later) new still words [] (subst (λ (bytes : List ℕ). Spoiled old bytes) is spoiled) are in
    record { ups = []; is = ups_none; oldest = h.oldest; up = λ on good. flow_spoiled (h.spoiled on (no_words words h.oldest good)) }
hears_of {stream = stream} alone words old piece new still later is some are (carries_over off nothing) = absurd (false≢true (sym some ∙ empty_of (coming stream) nothing))

-- to an entry
entry_next : SaysAlone → (k number j : ℕ) (count : Option ℕ) (t : Trace) (before next : LineState) (told : List Happening) → CanFlow (j + 1) Entry before → number ≤ 1000000 → Stands t before → Flows number (j + 1) Entry count before next told → UpNext k t before next told
entry_next alone k number j count t before next told can few st flows =
    quiet_next k t before next told st (no_orders k number m (inputs.Bytes Entry flows.piece) start next told (offers_same before start refl (offers_all t before st) m) refl flows.steps)
    (subst (λ (w : List ℕ). UpOn (Starting k told) (starts_of (base k t before st).ups) w (link_at k next.world)) (sym (bytes (same_or_not k m)))
    (step_up alone k number m (inputs.Bytes Entry flows.piece) start next told flows.steps (flow_fit number m Entry count before next told few (st.fit m) flows (flow_fits alone t number j Entry count before next told can st flows))
    (silent_at k number m (inputs.Bytes Entry flows.piece) start next told (offers_same before start refl (offers_all t before st) m) flows.steps) (whole_links (m - 1) parts before.world st.links (whole_arrival Downstream count (link_at (m - 1) before.world) (st.links (m - 1))))
    (at_set Upstream k (m - 1) parts before.world (λ is. subst (λ (n : ℕ). UpOn (Starting k told) (starts_of (base k t before st).ups) (node_at before k).lane.exit_bytes (link_at n before.world)) is (up_any (base k t before st).up)) (up_any (base k t before st).up))))
  where
    m : ℕ
    m = j + 1

    start : LineState
    start = arrived m Entry count before

    parts : LinkParts
    parts = after_flow Downstream count (link_at (m - 1) before.world)

    bytes : (k ≡ m) ⊎ (k ≢ m) → (node_at next k).lane.exit_bytes ≡ (node_at before k).lane.exit_bytes
    bytes (inl is) =
        ap (λ (n : ℕ). (node_at next n).lane.exit_bytes) is ∙ ap (λ (x : NodeState). x.lane.exit_bytes) (own_behind number m Entry count before next told flows) ∙ flows.steps.steps.lane.brings.1
        ∙ sym (ap (λ (x : NodeState). x.lane.exit_bytes) (node_there m before flows.steps.node flows.steps.there)) ∙ sym (ap (λ (n : ℕ). (node_at before n).lane.exit_bytes) is)
    bytes (inr apart) = ap (λ (x : NodeState). x.lane.exit_bytes) (others_same number m Entry count before next told flows k apart)

-- to the exit of another machine
exit_other : SaysAlone → (k number j : ℕ) (count : Option ℕ) (t : Trace) (before next : LineState) (told : List Happening) → k ≢ j + 1 → CanFlow (j + 1) Exit before → number ≤ 1000000 → Stands t before → Flows number (j + 1) Exit count before next told → UpNext k t before next told
exit_other alone k number j count t before next told apart can few st flows =
    let m : ℕ = j + 1 in
    let start : LineState = arrived m Exit count before in
    let parts : LinkParts = after_flow Upstream count (link_at m before.world) in
    quiet_next k t before next told st (subst (λ (l : List Act). Orders true [] l) (sym (other_done k number m (inputs.Bytes Exit flows.piece) start next told flows.steps apart)) orders_end)
    (subst (λ (w : List ℕ). UpOn (Starting k told) (starts_of (base k t before st).ups) w (link_at k next.world)) (sym (ap (λ (x : NodeState). x.lane.exit_bytes) (others_same number m Exit count before next told flows k apart)))
    (step_up alone k number m (inputs.Bytes Exit flows.piece) start next told flows.steps (flow_fit number m Exit count before next told few (st.fit m) flows (flow_fits alone t number j Exit count before next told can st flows))
    (silent_at k number m (inputs.Bytes Exit flows.piece) start next told (offers_same before start refl (offers_all t before st) m) flows.steps) (whole_links m parts before.world st.links (whole_arrival Upstream count (link_at m before.world) (st.links m)))
    (at_set Upstream k m parts before.world (λ is. absurd (apart is)) (up_any (base k t before st).up))))

next_apart : (j : ℕ) → j + 1 + 1 ≢ j + 1
next_apart j = omega arith

below_apart : (j : ℕ) → j + 1 ≢ j + 1 - 1
below_apart j = omega arith

-- to its own
exit_own : SaysAlone → (number j : ℕ) (count : Option ℕ) (t : Trace) (before next : LineState) (told : List Happening) → CanFlow (j + 1) Exit before → number ≤ 1000000 → Stands t before → Flows number (j + 1) Exit count before next told → UpNext (j + 1) t before next told
exit_own alone number j count t before next told can few st flows = record {
  ups = h.ups;
  is = h.is;
  heard = words;
  oldest = h.oldest;
  orders = own_orders number m (inputs.Bytes Exit flows.piece) start next told flows.steps (own_front number m (inputs.Bytes Exit flows.piece) start next told (offers_same before start refl (offers_all t before st) m) flows.steps);
  who = inl (other_done (m + 1) number m (inputs.Bytes Exit flows.piece) start next told flows.steps (next_apart j));
  ids = starts_of (drop (length words) h.ups);
  left = inr refl;
  up = λ on. (let now : is_open Exit flows.steps.next.lane.body ≡ true = sym (ap (λ (n : NodeState). is_open Exit n.lane.body) (own_behind number m Exit count before next told flows)) ∙ on in
      subst (λ (w : List ℕ). UpOn (Starting m told) (starts_of (drop (length words) h.ups)) w (link_at m next.world)) (sym (ap (λ (x : NodeState). x.lane.exit_bytes) (own_behind number m Exit count before next told flows)))
      (step_up alone m number m (inputs.Bytes Exit flows.piece) start next told flows.steps (flow_fit number m Exit count before next told few (st.fit m) flows (flow_fits alone t number j Exit count before next told can st flows))
      (λ is. absurd (below_apart j is)) (whole_links m parts before.world st.links (whole_arrival Upstream count (link_at m before.world) (st.links m)))
      (set_own Upstream m parts before.world (up_any (h.up now (heard_good number m Exit flows.piece start next told flows.steps now))))));
} where
  m : ℕ
  m = j + 1

  start : LineState
  start = arrived m Exit count before

  words : List Word
  words = flows.steps.steps.lane.words

  stream : Stream
  stream = (link_at m before.world).flows.to_upstream

  parts : LinkParts
  parts = after_flow Upstream count (link_at m before.world)

  there : has_link m before ≡ true
  there = link_there m (length before.machines) (omega arith) (omega (arith, ltb-true m (length before.machines) can.beside))

  node_is : node_at before m ≡ flows.steps.node
  node_is = node_there m before flows.steps.node flows.steps.there

  waits : Carries (link_at m before.world).stands flows.steps.node.lane.exit_bytes stream (t.up m)
  waits = subst (λ (n : NodeState). Carries (link_at m before.world).stands n.lane.exit_bytes stream (t.up m)) node_is (st.carried m there).up

  h : Hears (t.up m) words (link_at m before.world).stands (is_open Exit flows.steps.next.lane.body) (node_at before m).lane.exit_bytes (coming stream) flows.steps.next.lane.exit_bytes (coming (with_arrival (flowing count stream) stream))
  h = subst (λ (n : NodeState). Hears (t.up m) words (link_at m before.world).stands (is_open Exit flows.steps.next.lane.body) n.lane.exit_bytes (coming stream) flows.steps.next.lane.exit_bytes (coming (with_arrival (flowing count stream) stream))) (sym node_is)
      (hears_of alone words flows.steps.node.lane.exit_bytes flows.piece.now flows.steps.next.lane.exit_bytes (is_open Exit flows.steps.next.lane.body) (with_arrival (flowing count stream) stream) (arrival (flowing count stream) stream flows.piece.now flows.bytes) can.comes flows.steps.steps.lane.brings.0 waits)

exit_next : SaysAlone → (k number j : ℕ) (count : Option ℕ) (t : Trace) (before next : LineState) (told : List Happening) → (k ≡ j + 1) ⊎ (k ≢ j + 1) → CanFlow (j + 1) Exit before → number ≤ 1000000 → Stands t before → Flows number (j + 1) Exit count before next told → UpNext k t before next told
exit_next alone k number j count t before next told (inl is) can few st flows = subst (λ (n : ℕ). UpNext n t before next told) (sym is) (exit_own alone number j count t before next told can few st flows)
exit_next alone k number j count t before next told (inr apart) can few st flows = exit_other alone k number j count t before next told apart can few st flows

flow_side : SaysAlone → (k number j : ℕ) (side : Side) (count : Option ℕ) (t : Trace) (before next : LineState) (told : List Happening) → CanFlow (j + 1) side before → number ≤ 1000000 → Stands t before → Flows number (j + 1) side count before next told → UpNext k t before next told
flow_side alone k number j Entry count t before next told can few st flows = entry_next alone k number j count t before next told can few st flows
flow_side alone k number j Exit count t before next told can few st flows = exit_next alone k number j count t before next told (same_or_not k (j + 1)) can few st flows

flow_next : SaysAlone → (k number m : ℕ) (side : Side) (count : Option ℕ) (t : Trace) (before next : LineState) (told : List Happening) → may_flow m side before ≡ may_do → number ≤ 1000000 → Stands t before → Flows number m side count before next told → UpNext k t before next told
flow_next alone k number m side count t before next told may few st flows =
    numbered (λ (n : ℕ). may_flow n side before ≡ may_do → Flows number n side count before next told → UpNext k t before next told) m before flows.steps.node flows.steps.there
    (λ j may flows. flow_side alone k number j side count t before next told (can_flow (j + 1) side before may) few st flows) may flows

-- ---- a connection is made

more_any : (k : ℕ) (a b all : List Happening) (Rest : Type 0) → all ≡ a ++ b → (list_any is_start (done_by (k + 1) a) ≡ true) ⊎ Rest → Starting k all ⊎ Rest
more_any k a b all Rest is (inl any) = inl (ap (λ (l : List Happening). list_any is_start (done_by (k + 1) l)) is ∙ ap (list_any is_start) (done_append (k + 1) a b) ∙ any_first (done_by (k + 1) a) (done_by (k + 1) b) any)
more_any k a b all Rest is (inr rest) = inr rest

later_any : (k : ℕ) (a b all : List Happening) (Rest : Type 0) → all ≡ a ++ b → (list_any is_start (done_by (k + 1) b) ≡ true) ⊎ Rest → Starting k all ⊎ Rest
later_any k a b all Rest is (inl any) = inl (ap (λ (l : List Happening). list_any is_start (done_by (k + 1) l)) is ∙ ap (list_any is_start) (done_append (k + 1) a b) ∙ any_later (done_by (k + 1) a) (done_by (k + 1) b) any)
later_any k a b all Rest is (inr rest) = inr rest

record Joins (number m : ℕ) (input : Input) (before between next : LineState) (earlier later told : List Happening) : Type 0 where
  quiet : is_bytes input ≡ false
  fits : IsFitInput input
  first : MachineSteps number m inputs.Connect (connecting m before) between earlier
  second : MachineSteps number (m - 1) input between next later
  told_is : told ≡ earlier ++ later
  all : OffersAll before
  then : OffersFront (node_at between (m - 1)).lane.body

join_orders : (k number m : ℕ) (input : Input) (before between next : LineState) (earlier later told : List Happening) → Joins number m input before between next earlier later told → Orders true [] (done_by k told)
join_orders k number m input before between next earlier later told j = subst (λ (l : List Act). Orders true [] l) (sym (ap (done_by k) j.told_is ∙ done_append k earlier later)) (by (same_or_not k m))
  where
    counted : 1 ≤ m
    counted = (machine_within m (connecting m before) j.first.node j.first.there).0

    by : (k ≡ m) ⊎ (k ≢ m) → Orders true [] (done_by k earlier ++ done_by k later)
    by (inl is) =
        let apart : k ≢ m - 1 = omega (arith, counted, is) in
        subst (λ (l : List Act). Orders true [] (done_by k earlier ++ l)) (sym (other_done k number (m - 1) input between next later j.second apart))
        (subst (λ (l : List Act). Orders true [] l) (sym (append-nil (done_by k earlier))) (no_orders k number m inputs.Connect (connecting m before) between earlier (offers_same before (connecting m before) refl j.all m) refl j.first))
    by (inr apart) =
        subst (λ (l : List Act). Orders true [] (l ++ done_by k later)) (sym (other_done k number m inputs.Connect (connecting m before) between earlier j.first apart)) (no_orders k number (m - 1) input between next later j.then (not_up input j.quiet) j.second)

join_up : {ids : List ℕ} {waiting : List ℕ} → SaysAlone → (k number m : ℕ) (input : Input) (t : Trace) (before between next : LineState) (earlier later told : List Happening) → number ≤ 1000000 → Stands t before → (j : Joins number m input before between next earlier later told)
    → UpOn (Starting k told) ids waiting (link_at k (connecting m before).world) → UpOn (Starting k told) ids waiting (link_at k next.world)
join_up alone k number m input t before between next earlier later told few st j start =
    let begin : LineState = connecting m before in
    let counted : 1 ≤ m = (machine_within m begin j.first.node j.first.there).0 in
    let whole : AreWholeLinks begin = whole_connecting m before st.links in
    let fit_one : IsFitMachine begin m = fit_machine before begin m (same_nodes before begin refl m) (st.fit m) in
    let new : NewBytes m inputs.Connect begin between = new_bytes number m inputs.Connect begin between earlier refl j.first in
    let beside : m - 1 ≢ m = omega (arith, counted) in
    let fit_two : IsFitMachine between (m - 1) = fit_machine before between (m - 1) (new.others (m - 1) beside ∙ same_nodes before begin refl (m - 1)) (st.fit (m - 1)) in
    step_up alone k number (m - 1) input between next later j.second (quiet_fit number (m - 1) input between next later j.quiet j.fits few fit_two j.second)
    (λ is. later_any k earlier later told (are_silent j.second.acts ≡ true) j.told_is (silent_at k number (m - 1) input between next later j.then j.second is)) (whole_steps number m inputs.Connect begin between earlier j.first whole)
    (step_up alone k number m inputs.Connect begin between earlier j.first (quiet_fit number m inputs.Connect begin between earlier refl tt few fit_one j.first)
    (λ is. more_any k earlier later told (are_silent j.first.acts ≡ true) j.told_is (silent_at k number m inputs.Connect begin between earlier (offers_same before begin refl j.all m) j.first is)) whole start)

bytes_between : (k number m : ℕ) (input : Input) (before between next : LineState) (earlier later told : List Happening) → Joins number m input before between next earlier later told → (node_at between k).lane.exit_bytes ≡ (node_at before k).lane.exit_bytes
bytes_between k number m input before between next earlier later told j =
    same_exit m inputs.Connect (connecting m before) between (λ bytes. refl) (new_bytes number m inputs.Connect (connecting m before) between earlier refl j.first) k
    ∙ ap (λ (x : NodeState). x.lane.exit_bytes) (same_nodes before (connecting m before) refl k)

-- another link
join_other : SaysAlone → (k number m : ℕ) (input : Input) (t : Trace) (before between next : LineState) (earlier later told : List Happening) → k ≢ m - 1 → number ≤ 1000000 → Stands t before → Joins number m input before between next earlier later told → UpNext k t before next told
join_other alone k number m input t before between next earlier later told apart few st j =
    quiet_next k t before next told st (join_orders k number m input before between next earlier later told j)
    (subst (λ (w : List ℕ). UpOn (Starting k told) (starts_of (base k t before st).ups) w (link_at k next.world))
    (sym (ap (λ (x : NodeState). x.lane.exit_bytes) (others_stay number (m - 1) input between next later j.second k apart) ∙ bytes_between k number m input before between next earlier later told j))
    (join_up alone k number m input t before between next earlier later told few st j (at_set Upstream k (m - 1) (after_connect (link_at (m - 1) before.world)) before.world (λ is. absurd (apart is)) (up_any (base k t before st).up))))

-- the exit has no connection: nothing flows to it
join_first : SaysAlone → (number m : ℕ) (t : Trace) (before between next : LineState) (earlier later told : List Happening) → (link_at (m - 1) before.world).upstream ≡ None → number ≤ 1000000 → Stands t before → Joins number m inputs.Accepted before between next earlier later told
    → UpNext (m - 1) t before next told
join_first alone number m t before between next earlier later told above few st j = record {
  ups = (base (m - 1) t before st).ups;
  is = (base (m - 1) t before st).is;
  heard = [];
  oldest = oldest_none;
  orders = join_orders (m - 1) number m inputs.Accepted before between next earlier later told j;
  who = inr refl;
  ids = [];
  left = inl refl;
  up = λ on. (let two : NewBytes (m - 1) inputs.Accepted between next = new_bytes number (m - 1) inputs.Accepted between next later refl j.second in
      subst (λ (w : List ℕ). UpOn (Starting (m - 1) told) [] w (link_at (m - 1) next.world)) (sym two.exit)
      (join_up alone (m - 1) number m inputs.Accepted t before between next earlier later told few st j (set_own Upstream (m - 1) (after_connect L) before.world (subst (λ (l : LinkParts). UpOn (Starting (m - 1) told) [] [] l) (sym parts_are) here))));
} where
  L : LinkParts
  L = link_at (m - 1) before.world

  parts_are : after_connect L ≡ connected None (next_number L.made) L
  parts_are = ap (λ (n : Option ℕ). connected n (next_number L.made) L) above

  here : UpOn (Starting (m - 1) told) [] [] (connected None (next_number L.made) L)
  here = flow_whole [] none_fit (inr refl) (subst (λ (b : List ℕ). FlowsAs [] b []) (sym (dry_up L (st.links (m - 1)) above)) nothing_flows)

-- it has one: what flowed to it goes on
join_second : SaysAlone → (number m other : ℕ) (t : Trace) (before between next : LineState) (earlier later told : List Happening) → (link_at (m - 1) before.world).upstream ≡ Some other → number ≤ 1000000 → Stands t before → Joins number m inputs.Second before between next earlier later told
    → UpNext (m - 1) t before next told
join_second alone number m other t before between next earlier later told above few st j =
    quiet_next (m - 1) t before next told st (join_orders (m - 1) number m inputs.Second before between next earlier later told j)
    (subst (λ (w : List ℕ). UpOn (Starting (m - 1) told) (starts_of (base (m - 1) t before st).ups) w (link_at (m - 1) next.world)) (sym bytes)
    (join_up alone (m - 1) number m inputs.Second t before between next earlier later told few st j (set_own Upstream (m - 1) (after_connect L) before.world (subst (λ (l : LinkParts). UpOn (Starting (m - 1) told) (starts_of (base (m - 1) t before st).ups) (node_at before (m - 1)).lane.exit_bytes l) (sym parts_are) here))))
  where
    L : LinkParts
    L = link_at (m - 1) before.world

    parts_are : after_connect L ≡ connected (Some other) (next_number L.made) L
    parts_are = ap (λ (n : Option ℕ). connected n (next_number L.made) L) above

    here : UpOn (Starting (m - 1) told) (starts_of (base (m - 1) t before st).ups) (node_at before (m - 1)).lane.exit_bytes (connected (Some other) (next_number L.made) L)
    here = flow_off (up_any (base (m - 1) t before st).up)

    bytes : (node_at next (m - 1)).lane.exit_bytes ≡ (node_at before (m - 1)).lane.exit_bytes
    bytes = (new_bytes number (m - 1) inputs.Second between next later refl j.second).exit ∙ bytes_between (m - 1) number m inputs.Second before between next earlier later told j

-- the machine above is as it was behind the first step
above_then : (number m : ℕ) (t : Trace) (before between : LineState) (earlier : List Happening) → Stands t before → MachineSteps number m inputs.Connect (connecting m before) between earlier → OffersFront (node_at between (m - 1)).lane.body
above_then number m t before between earlier st first =
    let counted : 1 ≤ m = (machine_within m (connecting m before) first.node first.there).0 in
    let beside : m - 1 ≢ m = omega (arith, counted) in
    let new : NewBytes m inputs.Connect (connecting m before) between = new_bytes number m inputs.Connect (connecting m before) between earlier refl first in
    subst (λ (n : NodeState). OffersFront n.lane.body) (sym (new.others (m - 1) beside ∙ same_nodes before (connecting m before) refl (m - 1))) (offers_all t before st (m - 1))

join_own : SaysAlone → (number m : ℕ) (found : Option ℕ) (t : Trace) (before between next : LineState) (earlier later told : List Happening) → (link_at (m - 1) before.world).upstream ≡ found → number ≤ 1000000 → Stands t before
    → MachineSteps number m inputs.Connect (connecting m before) between earlier → MachineSteps number (m - 1) (met (connected_of found)) between next later → told ≡ earlier ++ later → UpNext (m - 1) t before next told
join_own alone number m None t before between next earlier later told above few st one two is = join_first alone number m t before between next earlier later told above few st (record { quiet = refl; fits = tt; first = one; second = two; told_is = is; all = offers_all t before st; then = above_then number m t before between earlier st one })
join_own alone number m (Some other) t before between next earlier later told above few st one two is = join_second alone number m other t before between next earlier later told above few st (record { quiet = refl; fits = tt; first = one; second = two; told_is = is; all = offers_all t before st; then = above_then number m t before between earlier st one })

pub met_fits : (on : Connected) → IsFitInput (met on)
met_fits connections.Accepted = tt
met_fits connections.Second = tt

connect_next : SaysAlone → (k number m : ℕ) (t : Trace) (before next : LineState) (told : List Happening) → (k ≡ m - 1) ⊎ (k ≢ m - 1) → number ≤ 1000000 → Stands t before → Connects number m before next told → UpNext k t before next told
connect_next alone k number m t before next told (inl is) few st twice =
    subst (λ (n : ℕ). UpNext n t before next told) (sym is) (join_own alone number m (link_at (m - 1) before.world).upstream t before twice.between next twice.earlier twice.later told refl few st twice.first twice.second twice.told_is)
connect_next alone k number m t before next told (inr apart) few st twice =
    let on : Connected = connected_of (link_at (m - 1) before.world).upstream in
    join_other alone k number m (met on) t before twice.between next twice.earlier twice.later told apart few st (record { quiet = met_quiet on; fits = met_fits on; first = twice.first; second = twice.second; told_is = twice.told_is; all = offers_all t before st; then = above_then number m t before twice.between twice.earlier st twice.first })

-- ---- the other forms

spoil_up : (k m : ℕ) (side : Side) (t : Trace) (before : LineState) (what : List Happening) → (st : Stands t before) → AreWaiting before → CanSpoil m side before → k ≡ link_of m side
    → UpOn (Starting k what) (starts_of (base k t before st).ups) (node_at before k).lane.exit_bytes (after_spoil (end_of side) (link_at (link_of m side) before.world))
spoil_up k m Exit t before what st waits can is =
    let L : LinkParts = link_at m before.world in
    let needs : answer_of (node_at before k).lane.exit_bytes ≡ NeedMore = ap (λ (n : ℕ). answer_of (node_at before n).lane.exit_bytes) is ∙ spoil_needs m Exit t before st waits can in
    on_limit Upstream (is_too_much Upstream (nulled Upstream L)) (nulled Upstream L)
    (flow_spoiled (subst (λ (b : List ℕ). Spoiled (node_at before k).lane.exit_bytes b) (sym (coming_of_nul L.flows.to_upstream (st.links m).begun.upstream)) (puts_a_nul (node_at before k).lane.exit_bytes (coming L.flows.to_upstream) needs)))
spoil_up k m Entry t before what st waits can is =
    let L : LinkParts = link_at (m - 1) before.world in
    on_limit Upstream (is_too_much Downstream (nulled Downstream L)) (nulled Downstream L) (subst (λ (n : ℕ). UpOn (Starting k what) (starts_of (base k t before st).ups) (node_at before k).lane.exit_bytes (link_at n before.world)) is (up_any (base k t before st).up))

effect_next : SaysAlone → (k number : ℕ) (request : Request) (t : Trace) (before next : LineState) (told : List Happening) → number ≤ 1000000 → IsFitRequest request → Stands t before → AreWaiting before → Effect number before next told request → UpNext k t before next told
effect_next alone k number request t before next told few fit st waits (effects.rests _ what remarks b) = becomes_by (UpNext k t before) b (still_next k t before before what st (remarks_none k what remarks) refl refl)
effect_next alone k number request t before next told few fit st waits (effects.adds lane is_bridge capacity used may b) =
    becomes_by (UpNext k t before) b
    (still_next k t before (one_more lane is_bridge capacity used before) _ st (remarks_none k _ (added_remarks is_bridge capacity before)) (more_same (λ (n : NodeState). n.lane.exit_bytes) lane is_bridge capacity used before refl k) (more_at lane is_bridge capacity used before k))
effect_next alone k number request t before next told few fit st waits (effects.steps m input given may did) = plain_next alone k number m input t before next told (given_plain input given) fit few st did
effect_next alone k number request t before next told few fit st waits (effects.connects m may did) = connect_next alone k number m t before next told (same_or_not k (m - 1)) few st did
effect_next alone k number request t before next told few fit st waits (effects.flows m side count may did) = flow_next alone k number m side count t before next told may few st did
effect_next alone k number request t before next told few fit st waits (effects.cuts gap may b) =
    becomes_by (UpNext k t before) b (changed_next k gap (cut (link_at gap before.world)) t before _ st refl (λ is. on_cut Upstream (link_at gap before.world)))
effect_next alone k number request t before next told few fit st waits (effects.spoils m side may b) =
    becomes_by (UpNext k t before) b
    (changed_next k (link_of m side) (after_spoil (end_of side) (link_at (link_of m side) before.world)) t before (spoil_told m side before) st
    (remarks_none k (spoil_told m side before) (spoil_remarks m side before)) (λ is. spoil_up k m side t before (spoil_told m side before) st waits (can_spoil m side before may) is))
effect_next alone k number request t before next told few fit st waits (effects.moves gap step floor is b) =
    becomes_by (UpNext k t before) b (still_next k t before (moved (Ok floor) before) _ st refl (ap (λ (n : NodeState). n.lane.exit_bytes) (same_nodes before (moved (Ok floor) before) refl k)) refl)
effect_next alone k number request t before next told few fit st waits (effects.lies m sensed may b) =
    becomes_by (UpNext k t before) b (still_next k t before (lied number m sensed before) _ st (remarks_none k _ (unvouched_remarks before.unvouched)) (ap (λ (n : NodeState). n.lane.exit_bytes) (same_nodes before (lied number m sensed before) refl k)) refl)
effect_next alone k number request t before next told few fit st waits (effects.unsees m side may b) =
    becomes_by (UpNext k t before) b (still_next k t before (unseen number m side before) _ st (remarks_none k _ (unvouched_remarks before.unvouched)) (ap (λ (n : NodeState). n.lane.exit_bytes) (same_nodes before (unseen number m side before) refl k)) refl)

-- ---- EACH LINE

more_told : (k : ℕ) (a b : List Happening) → done_by k b ≡ [] → done_by k (a ++ b) ≡ done_by k a
more_told k a b none = done_append k a b ∙ ap (λ (l : List Act). done_by k a ++ l) none ∙ append-nil (done_by k a)

pub line_next : SaysAlone → (k number : ℕ) (request : Request) (t : Trace) (before after : LineState) (told : List Happening) → number ≤ 1000000 → IsFitRequest request → Stands t before → AreWaiting before → LineSteps number request before after told → UpNext k t before after told
line_next alone k number request t before after told few fit st waits steps =
    let next : LineState = steps.next in
    let now : LineState = record next { lines = steps.lines } in
    let one : UpNext k t before next steps.done = effect_next alone k number request t before next steps.done few fit st waits (line_effect number request before next steps.done steps.does) in
    let above : done_by k told ≡ done_by k steps.done = ap (done_by k) steps.told_is ∙ more_told k steps.done (standings_told before next) (standings_none k before next) in
    let below : done_by (k + 1) told ≡ done_by (k + 1) steps.done = ap (done_by (k + 1)) steps.told_is ∙ more_told (k + 1) steps.done (standings_told before next) (standings_none (k + 1) before next) in
    let any : Starting k steps.done ≡ Starting k told = ap (λ (l : List Act). list_any is_start l ≡ true) (sym below) in
    let nodes : node_at now k ≡ node_at next k = same_nodes next now refl k in
    subst (λ (s : LineState). UpNext k t before s told) (sym steps.after_is) (record {
      ups = one.ups;
      is = one.is;
      heard = one.heard;
      oldest = one.oldest;
      orders = subst (λ (l : List Act). Orders true one.heard l) (sym above) one.orders;
      who = elim one.who [ inl none ↦ inl (below ∙ none) | inr none ↦ inr none ];
      ids = one.ids;
      left = one.left;
      up = λ on. subst (λ (n : NodeState). UpOn (Starting k told) one.ids n.lane.exit_bytes (link_at k next.world)) (sym nodes)
          (subst (λ (A : Type 0). UpOn A one.ids (node_at next k).lane.exit_bytes (link_at k next.world)) any (one.up (ap (λ (n : NodeState). is_open Exit n.lane.body) (sym nodes) ∙ on)));
    })

-- EACH LINE OF A TRACK
pub track_next : SaysAlone → (k number : ℕ) (line : TrackLine) (t : Trace) (before after : LineState) (told : List Happening) → number ≤ 1000000 → IsFitTrack line → Stands t before → AreWaiting before → TrackSteps number line before after told → UpNext k t before after told
track_next alone k number (own_line request) t before after told few fit st waits steps = line_next alone k number request t before after told few fit st waits steps.0
track_next alone k number other_line t before after told few fit st waits steps =
    still_next k t before after told st (ap (done_by k) steps.1) (ap (λ (l : Lane). l.exit_bytes) (beside-lane before after k steps.0)) (ap (link_at k) steps.0.world)
