-- Which boards are put in and taken out by hand in a machine's step, and which of it the report tells.
use Rattle.std.proofs.Common.{
  ◌≡◌,
  ◌∙◌,
  ◌++◌,
  ◌==◌,
  ◌||◌,
  ℕ,
  Bool,
  true,
  false,
  List,
  [],
  ◌∷◌,
  Option,
  Some,
  None,
  refl,
  sym,
  ap,
  subst,
  eq-eqb,
  eqb-true,
}
use Rattle.std.specs.List.{AllByRecursion, flat_map, list_any}
use Rattle.std.proofs.lemmas.Bool.{false≢true, or_left, or_right}
use Rattle.std.proofs.lemmas.List.Folds.{list_any-append}
use Rattle.line_step.proofs.FloorLaws.{plain_of}
use Rattle.line_base.specs.declared.states.Side.{Side}
use Rattle.board_record.specs.declared.record.Record.{Record}
use Rattle.board_record.specs.declared.sensed.Sensed.{Sensed}
use Rattle.hermes_horizontal.specs.Canonical.{canonical}
use Rattle.hermes_horizontal.specs.declared.message.Message.{Message}
use Rattle.hermes_vertical.specs.declared.message.VerticalMessage.{VerticalMessage}
use Rattle.line_link.specs.Link.{answer_sent, sent_of}
use Rattle.line_link.specs.declared.link.Sent.{Sent}
use Rattle.line_link.specs.declared.link.Sent.TheVariants as sent
use Rattle.node_core.specs.Announces.{announces}
use Rattle.node_core.specs.Boards.{if_kept, is_kept}
use Rattle.node_core.specs.Bridge.{sets_level}
use Rattle.node_core.specs.Desk.{Desk}
use Rattle.node_core.specs.Event.{
  Event,
  Gets,
  Gives,
  Insert,
  Level,
  Remove,
  Replace,
  Supervised,
  event_did,
  event_of,
}
use Rattle.node_core.specs.Reads.{all_read}
use Rattle.node_core.specs.Step.{plain_step}
use Rattle.node_core.specs.Supervising.{supervises, watch_of, with_tells}
use Rattle.node_core.specs.Signals.{signalled}
use Rattle.step_rules.specs.Acts.{OfEvent, Usual}
use Rattle.step_rules.proofs.Acts.{All, told_acts_hold}
use Rattle.node_core.specs.declared.act.Act.{Act}
use Rattle.node_core.specs.declared.act.Act.TheVariants as acts
use Rattle.node_core.specs.declared.act.Signal.{Signal}
use Rattle.node_core.specs.declared.input.Input.{Input}
use Rattle.node_core.specs.declared.input.Input.TheVariants as inputs
use Rattle.node_core.specs.declared.lane.Body.{Body}
use Rattle.node_core.specs.Node.{desk_of}
use Rattle.node_core.proofs.Signalling.{signals_pass}
use Rattle.node_core.proofs.Telling.{tells_pass}
use Rattle.standings.specs.Told.{told_of}
use Rattle.standings.specs.declared.told.Told.{Told as Standing}
use Rattle.standings.specs.declared.told.Told.TheVariants as tolds
use Rattle.line_report.specs.declared.happening.Happening.{Happening}
use Rattle.line_report.specs.declared.happening.Happening.TheVariants as happenings
use Rattle.line_step.specs.Acts.{act_did, acts_did, answers, cut_told, sent_by}
use Rattle.line_step.specs.FloorIds.{made_by, made_in}
use Rattle.line_step.specs.Shown.{ascending, ids_marked, standing_told, standings_told}
use Rattle.line_step.specs.State.{LineState, marks_in}
use Rattle.line_step.specs.Steps.{MachineSteps, is_second, moment_of, read_by, unread_by}
use Rattle.line_step.specs.World.{WorldParts, end_of, link_at, link_of}
use Rattle.step_rules.proofs.Hands.{
  AreQuiet,
  announces-quiet,
  met-quiet,
  read-quiet,
  supervision-quiet,
}
use Rattle.law_history.proofs.Offering.{or_join}
use Rattle.law_one_standing.proofs.MirroringEnds.{vacuous}
use mathlib.Core.Bool.{or-false}
use Rattle.law_supervisor_replay.specs.Replay.{came_in}
use Rattle.law_supervisor_replay.proofs.Bodies.{brings_in, takes_out}
use Rattle.law_one_standing.specs.Told.{IsTold, told_first}
use Rattle.law_one_standing.proofs.ApartStep.{told_before, told_behind}
use Rattle.law_supervisor_replay.proofs.Floors.{may_bring, may_lose}

-- ---- acts that are none of a hand

quiet_out : (id : ℕ) (made : List Act) → AreQuiet made → list_any (takes_out id) made ≡ false
quiet_out id [] all = refl
quiet_out id (acts.Inserts other ∷ made) all = absurd all.0
quiet_out id (acts.Removes other ∷ made) all = absurd all.0
quiet_out id (acts.Replaces old new ∷ made) all = absurd all.0
quiet_out id (acts.Gives other to ∷ made) all = absurd all.0
quiet_out id (acts.Gets other ∷ made) all = absurd all.0
quiet_out id (act ∷ made) all = quiet_out id made all.1

quiet_in : (id : ℕ) (made : List Act) → AreQuiet made → list_any (brings_in id) made ≡ false
quiet_in id [] all = refl
quiet_in id (acts.Inserts other ∷ made) all = absurd all.0
quiet_in id (acts.Removes other ∷ made) all = absurd all.0
quiet_in id (acts.Replaces old new ∷ made) all = absurd all.0
quiet_in id (acts.Gives other to ∷ made) all = absurd all.0
quiet_in id (acts.Gets other ∷ made) all = absurd all.0
quiet_in id (act ∷ made) all = quiet_in id made all.1

any_join : (f : Act → Bool) (a b : List Act) → list_any f (a ++ b) ≡ (list_any f a || list_any f b)
any_join f [] b = refl
any_join f (act ∷ a) b =
    ap (λ (rest : Bool). f act || rest) (any_join f a b) ∙ or_join (f act) (list_any f a) (list_any f b)

pub middle : (x y z : Bool) → x ≡ false → z ≡ false → (x || (y || z)) ≡ y
middle false true z one two = refl
middle false false z one two = two
middle true y z one two = absurd (false≢true (sym one))

-- in a step: those of the event alone
pub step_outs : (id : ℕ) (desk : Desk) (unread : List Sensed) (event : Event) (body : Body)
    → list_any (takes_out id) (plain_step desk unread event body).acts
    ≡ list_any (takes_out id) (event_did desk event (all_read desk unread body).body).acts
step_outs id desk unread event body =
    let read = all_read desk unread body in
    let met = event_did desk event read.body in
    let last = announces desk met.body in
    any_join (takes_out id) read.acts (met.acts ++ last.acts)
    ∙ ap (λ (rest : Bool). list_any (takes_out id) read.acts || rest)
    (any_join (takes_out id) met.acts last.acts)
    ∙ middle (list_any (takes_out id) read.acts) (list_any (takes_out id) met.acts)
    (list_any (takes_out id) last.acts)
    (quiet_out id read.acts (read-quiet desk unread body))
    (quiet_out id last.acts (announces-quiet desk met.body))

pub step_ins : (id : ℕ) (desk : Desk) (unread : List Sensed) (event : Event) (body : Body)
    → list_any (brings_in id) (plain_step desk unread event body).acts
    ≡ list_any (brings_in id) (event_did desk event (all_read desk unread body).body).acts
step_ins id desk unread event body =
    let read = all_read desk unread body in
    let met = event_did desk event read.body in
    let last = announces desk met.body in
    any_join (brings_in id) read.acts (met.acts ++ last.acts)
    ∙ ap (λ (rest : Bool). list_any (brings_in id) read.acts || rest)
    (any_join (brings_in id) met.acts last.acts)
    ∙ middle (list_any (brings_in id) read.acts) (list_any (brings_in id) met.acts)
    (list_any (brings_in id) last.acts)
    (quiet_in id read.acts (read-quiet desk unread body))
    (quiet_in id last.acts (announces-quiet desk met.body))

-- ---- which events they are of

or_nothing : (b : Bool) → (b || false) ≡ true → b ≡ true
or_nothing true is = refl
or_nothing false is = is

pub data TakesOut (id : ℕ) : Event → Type 0 where
  out_removed : TakesOut id (Remove id)
  out_replaced : {new : ℕ} → TakesOut id (Replace id new)
  out_given : {to : ℕ} → TakesOut id (Gives id to)

pub data BringsIn (id : ℕ) : Event → Type 0 where
  in_inserted : {barcode : Option (List ℕ)} → BringsIn id (Insert id barcode)
  in_replaced : {old : ℕ} → BringsIn id (Replace old id)
  in_got : {board : Record} → board.id ≡ id → BringsIn id (Gets board)

removed_by : (id old : ℕ) (kept : Bool) (after body : Body)
    → list_any (takes_out id) (if_kept kept after (acts.Removes old) body).acts ≡ true
    → TakesOut id (Remove old)
removed_by id old true after body is =
    subst (λ (n : ℕ). TakesOut id (Remove n)) (sym (eqb-true old id (or_nothing (old == id) is))) out_removed
removed_by id old false after body is = absurd (false≢true is)

given_by : (id old to : ℕ) (kept : Bool) (after body : Body)
    → list_any (takes_out id) (if_kept kept after (acts.Gives old to) body).acts ≡ true
    → TakesOut id (Gives old to)
given_by id old to true after body is =
    subst (λ (n : ℕ). TakesOut id (Gives n to)) (sym (eqb-true old id (or_nothing (old == id) is))) out_given
given_by id old to false after body is = absurd (false≢true is)

given_in : (id old to : ℕ) (kept : Bool) (after body : Body)
    → list_any (brings_in id) (if_kept kept after (acts.Gives old to) body).acts ≡ false
given_in id old to true after body = refl
given_in id old to false after body = refl

replaced_out : (id old new : ℕ) (kept : Bool) (after body : Body)
    → list_any (takes_out id) (if_kept kept after (acts.Replaces old new) body).acts ≡ true
    → TakesOut id (Replace old new)
replaced_out id old new true after body is =
    subst (λ (n : ℕ). TakesOut id (Replace n new)) (sym (eqb-true old id (or_nothing (old == id) is))) out_replaced
replaced_out id old new false after body is = absurd (false≢true is)

removed_in : (id old : ℕ) (kept : Bool) (after body : Body)
    → list_any (brings_in id) (if_kept kept after (acts.Removes old) body).acts ≡ false
removed_in id old true after body = refl
removed_in id old false after body = refl

replaced_in : (id old new : ℕ) (kept : Bool) (after body : Body)
    → list_any (brings_in id) (if_kept kept after (acts.Replaces old new) body).acts ≡ true
    → BringsIn id (Replace old new)
replaced_in id old new true after body is =
    subst (λ (n : ℕ). BringsIn id (Replace old n)) (sym (eqb-true new id (or_nothing (new == id) is))) in_replaced
replaced_in id old new false after body is = absurd (false≢true is)

pub outs_are : (id : ℕ) (desk : Desk) (event : Event) (body : Body)
    → list_any (takes_out id) (event_did desk event body).acts ≡ true → TakesOut id event
outs_are id desk (Remove old) body is = removed_by id old (is_kept old body.kept) _ body is
outs_are id desk (Replace old new) body is =
    replaced_out id old new (is_kept old body.kept) _ body is
outs_are id desk (Insert new barcode) body is = absurd (false≢true is)
outs_are id desk (Gives old to) body is = given_by id old to (is_kept old body.kept) _ body is
outs_are id desk (Gets board) body is = absurd (false≢true is)
outs_are id desk (Level line on) body is =
    vacuous
    (quiet_out id (sets_level desk line on body).acts
    (met-quiet desk (Level line on) body (tt, λ marked. tt))) is
outs_are id desk (Supervised what) body is =
    vacuous
    (quiet_out id (supervises desk what body).acts
    (met-quiet desk (Supervised what) body (supervision-quiet desk what))) is
outs_are id desk event body is =
    vacuous (quiet_out id (event_did desk event body).acts (met-quiet desk event body tt)) is

pub ins_are : (id : ℕ) (desk : Desk) (event : Event) (body : Body)
    → list_any (brings_in id) (event_did desk event body).acts ≡ true → BringsIn id event
ins_are id desk (Remove old) body is = vacuous (removed_in id old (is_kept old body.kept) _ body) is
ins_are id desk (Replace old new) body is = replaced_in id old new (is_kept old body.kept) _ body is
ins_are id desk (Gives old to) body is = vacuous (given_in id old to (is_kept old body.kept) _ body) is
ins_are id desk (Gets board) body is = in_got (eqb-true board.id id (or_nothing (board.id == id) is))
ins_are id desk (Insert new barcode) body is =
    subst (λ (n : ℕ). BringsIn id (Insert n barcode)) (sym (eqb-true new id (or_nothing (new == id) is))) in_inserted
ins_are id desk (Level line on) body is =
    vacuous
    (quiet_in id (sets_level desk line on body).acts
    (met-quiet desk (Level line on) body (tt, λ marked. tt))) is
ins_are id desk (Supervised what) body is =
    vacuous
    (quiet_in id (supervises desk what body).acts
    (met-quiet desk (Supervised what) body (supervision-quiet desk what))) is
ins_are id desk event body is =
    vacuous (quiet_in id (event_did desk event body).acts (met-quiet desk event body tt)) is

-- ---- what the report tells of it

-- a test of happenings that looks at a machine's act alone
pub record LooksAtActs (f : Happening → Bool) (g : Act → Bool) : Type 0 where
  pub each : (machine : ℕ) (act : Act) → f (happenings.Done machine act) ≡ g act
  pub cuts : (link : ℕ) → f (happenings.Cut link) ≡ false
  pub drives : (side : Side) (on : Bool) → g (acts.Drive side on) ≡ false

cut_none : (f : Happening → Bool) (g : Act → Bool) (link : ℕ) (on : Sent) → LooksAtActs f g
    → list_any f (cut_told link on) ≡ false
cut_none f g link sent.Cuts looks = or-false (f (happenings.Cut link)) ∙ looks.cuts link
cut_none f g link sent.Flows looks = refl
cut_none f g link sent.Vanishes looks = refl

sent_any : (f : Happening → Bool) (g : Act → Bool) (second : Bool) (machine : ℕ) (side : Side) (message : Message)
    (world : WorldParts) → LooksAtActs f g
    → list_any f (sent_by second machine side message world).told ≡ g (acts.Sends side message)
sent_any f g true machine side message world looks =
    ap (λ (b : Bool). f (happenings.Done machine (acts.Sends side message)) || b)
    (cut_none f g machine (answer_sent (canonical message) (link_at machine world)) looks)
    ∙ or-false (f (happenings.Done machine (acts.Sends side message)))
    ∙ looks.each machine (acts.Sends side message)
sent_any f g false machine side message world looks =
    ap (λ (b : Bool). f (happenings.Done machine (acts.Sends side message)) || b)
    (cut_none f g (link_of machine side)
    (sent_of (end_of side) (canonical message) (link_at (link_of machine side) world)) looks)
    ∙ or-false (f (happenings.Done machine (acts.Sends side message)))
    ∙ looks.each machine (acts.Sends side message)

act_any : (f : Happening → Bool) (g : Act → Bool) (second : Bool) (machine : ℕ) (act : Act) (world : WorldParts)
    → LooksAtActs f g → list_any f (act_did second machine act world).told ≡ g act
act_any f g second machine (acts.Sends side message) world looks =
    sent_any f g (answers second side message) machine side message world looks
act_any f g second machine (acts.Drive side on) world looks = sym (looks.drives side on)
act_any f g second machine act world looks =
    or-false (f (happenings.Done machine act)) ∙ looks.each machine act

pub acts_any : (f : Happening → Bool) (g : Act → Bool) (second : Bool) (machine : ℕ) (made : List Act)
    (world : WorldParts) → LooksAtActs f g
    → list_any f (acts_did second machine made world).told ≡ list_any g made
acts_any f g second machine [] world looks = refl
acts_any f g second machine (act ∷ others) world looks =
    let one = act_did second machine act world in
    list_any-append f one.told (acts_did second machine others one.world).told
    ∙ ap (λ (b : Bool). b || list_any f (acts_did second machine others one.world).told)
    (act_any f g second machine act world looks)
    ∙ ap (λ (b : Bool). g act || b) (acts_any f g second machine others one.world looks)

pub looks_lost : (id : ℕ) → LooksAtActs (may_lose id) (takes_out id)
looks_lost id = record { each = lost; cuts = λ link. refl; drives = λ side on. refl } where
  lost : (machine : ℕ) (act : Act) → may_lose id (happenings.Done machine act) ≡ takes_out id act
  lost machine (acts.Removes other) = refl
  lost machine (acts.Replaces old new) = refl
  lost machine (acts.Gives other to) = refl
  lost machine act = refl

pub looks_brought : (id : ℕ) → LooksAtActs (may_bring id) (brings_in id)
looks_brought id = record { each = brought; cuts = λ link. refl; drives = λ side on. refl } where
  brought : (machine : ℕ) (act : Act) → may_bring id (happenings.Done machine act) ≡ brings_in id act
  brought machine (acts.Inserts other) = refl
  brought machine (acts.Replaces old new) = refl
  brought machine (acts.Gets other) = refl
  brought machine act = refl

any_plain : (f : Act → Bool) → ((message : VerticalMessage) → f (acts.Tells message) ≡ false)
    → ((signal : Signal) (on : Bool) → f (acts.Signals signal on) ≡ false)
    → (number machine : ℕ) (input : Input) (before after : LineState) (told : List Happening)
    → (steps : MachineSteps number machine input before after told)
    → list_any f steps.acts ≡ list_any f (plain_of number machine input before after told steps)
any_plain f tells signals number machine input before after told steps =
    ap (list_any f) steps.steps.told
    ∙ signals_pass (list_any f) (λ front signal on.
    any_join f front (acts.Signals signal on ∷ [])
    ∙ ap (λ (b : Bool). list_any f front || (b || false)) (signals signal on)
    ∙ or-false (list_any f front)) steps.steps.made steps.node.bridge steps.next.lane.body
    ∙ ap (list_any f) steps.steps.lane.told
    ∙ tells_pass (list_any f) (λ act made plain same. ap (λ (b : Bool). f act || b) same)
    (λ message made. ap (λ (b : Bool). b || list_any f made) (tells message))
    (desk_of steps.node (moment_of number)) (watch_of (desk_of steps.node (moment_of number)) steps.node.lane.body)
    (plain_of number machine input before after told steps)

pub step_any : (f : Happening → Bool) (g : Act → Bool) → LooksAtActs f g
    → ((message : VerticalMessage) → g (acts.Tells message) ≡ false)
    → ((signal : Signal) (on : Bool) → g (acts.Signals signal on) ≡ false)
    → (number machine : ℕ) (input : Input) (before after : LineState) (told : List Happening)
    → (steps : MachineSteps number machine input before after told)
    → list_any f told ≡ list_any g (plain_of number machine input before after told steps)
step_any f g looks tells signals number machine input before after told steps =
    ap (list_any f) steps.told_is
    ∙ acts_any f g (is_second input) machine steps.acts (read_by machine before.world) looks
    ∙ any_plain g tells signals number machine input before after told steps

-- ---- what is made is among the ids that are told as made

front_join : (P : ℕ → Type 0) (front a b all : List ℕ)
    → (AllByRecursion P all → AllByRecursion P a × AllByRecursion P b)
    → AllByRecursion P (front ++ all) → AllByRecursion P (front ++ a) × AllByRecursion P b
front_join P [] a b all rest is = rest is
front_join P (id ∷ front) a b all rest is =
    let later = front_join P front a b all rest is.1 in
    ((is.0, later.0), later.1)

made_join : (a b : List Happening) (P : ℕ → Type 0) → AllByRecursion P (made_by (a ++ b))
    → AllByRecursion P (made_by a) × AllByRecursion P (made_by b)
made_join [] b P all = (tt, all)
made_join (happening ∷ a) b P all =
    front_join P (made_in happening) (made_by a) (made_by b) (made_by (a ++ b)) (made_join a b P) all

pub made_first : (a b : List Happening) (P : ℕ → Type 0) → AllByRecursion P (made_by (a ++ b))
    → AllByRecursion P (made_by a)
made_first a b P all = (made_join a b P all).0

-- a board that comes from another lane is none that is made
abbrev pub gets_it : ℕ → Act → Bool
gets_it id (acts.Gets other) = other == id
gets_it id _ = false

abbrev pub GetsNone : ℕ → Act → Type 0
GetsNone id act = gets_it id act ≡ false

looks_came : (id : ℕ) → LooksAtActs (came_in id) (gets_it id)
looks_came id = record { each = came; cuts = λ link. refl; drives = λ side on. refl } where
  came : (machine : ℕ) (act : Act) → came_in id (happenings.Done machine act) ≡ gets_it id act
  came machine (acts.Gets other) = refl
  came machine act = refl

got_acts : (id : ℕ) (desk : Desk) (unread : List Sensed) (board : Record) (body : Body) → board.id ≡ id
    → list_any (gets_it id) (plain_step desk unread (Gets board) body).acts ≡ true
got_acts id desk unread board body same =
    let read = all_read desk unread body in
    let met = event_did desk (Gets board) read.body in
    let last = announces desk met.body in
    let here : list_any (gets_it id) met.acts ≡ true = ap (λ (b : Bool). b || false) (eq-eqb board.id id same) in
    any_join (gets_it id) read.acts (met.acts ++ last.acts)
    ∙ or_right (list_any (gets_it id) read.acts) (list_any (gets_it id) (met.acts ++ last.acts))
    (any_join (gets_it id) met.acts last.acts
    ∙ or_left (list_any (gets_it id) met.acts) (list_any (gets_it id) last.acts) here)

-- and it is told to come
pub got_told : (id number machine : ℕ) (board : Record) (before after : LineState) (told : List Happening)
    → MachineSteps number machine (inputs.Gets board) before after told → board.id ≡ id
    → list_any (came_in id) told ≡ true
got_told id number machine board before after told steps same =
    step_any (came_in id) (gets_it id) (looks_came id) (λ message. refl) (λ signal on. refl)
    number machine (inputs.Gets board) before after told steps
    ∙ got_acts id (desk_of steps.node (moment_of number)) (unread_by machine before.world) board steps.node.lane.body same

pub usual_none : (id : ℕ) → Usual (GetsNone id)
usual_none id = record {
  reads = λ side event. refl;
  hears = λ side message. refl;
  breaches = λ side text. refl;
  sends = λ side message. refl;
  closes = λ side. refl;
  notices = λ side. refl;
  deed = λ deed. refl;
  drive = λ side on. refl;
}

pub none_got : (id number machine : ℕ) (input : Input) (before after : LineState) (told : List Happening)
    → (steps : MachineSteps number machine input before after told)
    → OfEvent (GetsNone id) (desk_of steps.node (moment_of number)) (event_of steps.node.maker input steps.steps.lane.words)
    → All (GetsNone id) steps.acts
none_got id number machine input before after told steps own =
    let desk : Desk = desk_of steps.node (moment_of number) in
    let unread : List Sensed = unread_by machine before.world in
    let event : Event = event_of steps.node.maker input steps.steps.lane.words in
    let body : Body = steps.node.lane.body in
    let signs : List Act = signalled steps.node.bridge steps.next.lane.body in
    let is : steps.acts ≡ with_tells desk (watch_of desk body) (plain_step desk unread event body).acts ++ signs =
    steps.steps.told ∙ ap (λ (xs : List Act). xs ++ signs) steps.steps.lane.told in
    subst (λ (xs : List Act). All (GetsNone id) xs) (sym is)
    (told_acts_hold (usual_none id) (λ message. refl) (λ signal on. refl) desk (watch_of desk body) unread event body
    steps.node.bridge steps.next.lane.body own)

act_made : (id : ℕ) (second : Bool) (machine : ℕ) (act : Act) (world : WorldParts) (P : ℕ → Type 0)
    → AllByRecursion P (made_by (act_did second machine act world).told) → GetsNone id act → brings_in id act ≡ true → P id
act_made id second machine (acts.Inserts other) world P all none is = subst P (eqb-true other id is) all.0
act_made id second machine (acts.Replaces old new) world P all none is = subst P (eqb-true new id is) all.0
act_made id second machine (acts.Gets other) world P all none is = absurd (false≢true (sym none ∙ is))
act_made id second machine _ world P all none is = absurd (false≢true is)

either_makes : {A : Type 0} (here later : Bool) → (here || later) ≡ true → (here ≡ true → A) → (later ≡ true → A) → A
either_makes true later is first rest = first refl
either_makes false later is first rest = rest is

acts_made : (id : ℕ) (second : Bool) (machine : ℕ) (made : List Act) (world : WorldParts) (P : ℕ → Type 0)
    → AllByRecursion P (made_by (acts_did second machine made world).told) → All (GetsNone id) made
    → list_any (brings_in id) made ≡ true → P id
acts_made id second machine [] world P all none is = absurd (false≢true is)
acts_made id second machine (act ∷ others) world P all none is =
    let one = act_did second machine act world in
    let parts = made_join one.told (acts_did second machine others one.world).told P all in
    either_makes (brings_in id act) (list_any (brings_in id) others) is
    (λ own. act_made id second machine act world P parts.0 none.0 own)
    (λ later. acts_made id second machine others one.world P parts.1 none.1 later)

pub step_makes : (id number machine : ℕ) (input : Input) (before after : LineState) (told : List Happening)
    (P : ℕ → Type 0) → (steps : MachineSteps number machine input before after told)
    → AllByRecursion P (made_by told)
    → OfEvent (GetsNone id) (desk_of steps.node (moment_of number)) (event_of steps.node.maker input steps.steps.lane.words)
    → list_any (brings_in id) (plain_of number machine input before after told steps) ≡ true → P id
step_makes id number machine input before after told P steps all own is =
    acts_made id (is_second input) machine steps.acts (read_by machine before.world) P
    (subst (λ (ts : List Happening). AllByRecursion P (made_by ts)) steps.told_is all)
    (none_got id number machine input before after told steps own)
    (any_plain (brings_in id) (λ message. refl) (λ signal on. refl) number machine input before after told steps ∙ is)

-- ---- the standings are none of them

-- a test that passes no standing
pub record PassesNone (f : Happening → Bool) : Type 0 where
  pub at : (machine id : ℕ) → f (happenings.With machine id) ≡ false
  pub between : (gap id : ℕ) → f (happenings.Between gap id) ≡ false
  pub gone : (id : ℕ) → f (happenings.Gone id) ≡ false

standing_none : (f : Happening → Bool) → PassesNone f → (x : ℕ) (told : Option Standing)
    → list_any f (standing_told x told) ≡ false
standing_none f none x None = refl
standing_none f none x (Some (tolds.With machine)) =
    or-false (f (happenings.With machine x)) ∙ none.at machine x
standing_none f none x (Some (tolds.Between gap)) =
    or-false (f (happenings.Between gap x)) ∙ none.between gap x
standing_none f none x (Some tolds.Gone) = or-false (f (happenings.Gone x)) ∙ none.gone x

each_none : (f : Happening → Bool) (g : ℕ → List Happening) (ids : List ℕ)
    → ((x : ℕ) → list_any f (g x) ≡ false) → list_any f (flat_map g ids) ≡ false
each_none f g [] every = refl
each_none f g (x ∷ ids) every =
    list_any-append f (g x) (flat_map g ids)
    ∙ ap (λ (b : Bool). b || list_any f (flat_map g ids)) (every x) ∙ each_none f g ids every

pub with_standings : (f : Happening → Bool) → PassesNone f → (told : List Happening) (before next : LineState)
    → list_any f (told ++ standings_told before next) ≡ list_any f told
with_standings f none told before next =
    list_any-append f told (standings_told before next)
    ∙ ap (λ (b : Bool). list_any f told || b)
    (each_none f (λ x. standing_told x (told_of (marks_in before x) (marks_in next x)))
    (ascending (ids_marked before ++ ids_marked next))
    (λ x. standing_none f none x (told_of (marks_in before x) (marks_in next x))))
    ∙ or-false (list_any f told)

pub loses_none : (id : ℕ) → PassesNone (may_lose id)
loses_none id = record { at = λ machine x. refl; between = λ gap x. refl; gone = λ x. refl }

pub brings_none : (id : ℕ) → PassesNone (may_bring id)
brings_none id = record { at = λ machine x. refl; between = λ gap x. refl; gone = λ x. refl }

-- ---- what goes by hand is told so

pub data IsTakenOut (id machine : ℕ) (told : List Happening) : Type 0 where
  is_removed : IsTold (happenings.Done machine (acts.Removes id)) told → IsTakenOut id machine told
  is_replaced : (new : ℕ) → IsTold (happenings.Done machine (acts.Replaces id new)) told
      → IsTakenOut id machine told
  is_given : (to : ℕ) → IsTold (happenings.Done machine (acts.Gives id to)) told
      → IsTakenOut id machine told

out_behind : {id machine : ℕ} (earlier : List Happening) {told : List Happening} → IsTakenOut id machine told
    → IsTakenOut id machine (earlier ++ told)
out_behind earlier (is_removed is) = is_removed (told_behind earlier is)
out_behind earlier (is_replaced new is) = is_replaced new (told_behind earlier is)
out_behind earlier (is_given to is) = is_given to (told_behind earlier is)

pub out_before : {id machine : ℕ} {told : List Happening} (later : List Happening) → IsTakenOut id machine told
    → IsTakenOut id machine (told ++ later)
out_before later (is_removed is) = is_removed (told_before later is)
out_before later (is_replaced new is) = is_replaced new (told_before later is)
out_before later (is_given to is) = is_given to (told_before later is)

act_out : (id : ℕ) (second : Bool) (machine : ℕ) (act : Act) (world : WorldParts) → takes_out id act ≡ true
    → IsTakenOut id machine (act_did second machine act world).told
act_out id second machine (acts.Removes other) world is =
    is_removed (subst (λ (n : ℕ). IsTold (happenings.Done machine (acts.Removes id)) (happenings.Done machine (acts.Removes n) ∷ []))
    (sym (eqb-true other id is)) told_first)
act_out id second machine (acts.Replaces old new) world is =
    is_replaced new (subst (λ (n : ℕ). IsTold (happenings.Done machine (acts.Replaces id new)) (happenings.Done machine (acts.Replaces n new) ∷ []))
    (sym (eqb-true old id is)) told_first)
act_out id second machine (acts.Gives old to) world is =
    is_given to (subst (λ (n : ℕ). IsTold (happenings.Done machine (acts.Gives id to)) (happenings.Done machine (acts.Gives n to) ∷ []))
    (sym (eqb-true old id is)) told_first)
act_out id second machine _ world is = absurd (false≢true is)

acts_out : (id : ℕ) (second : Bool) (machine : ℕ) (made : List Act) (world : WorldParts)
    → list_any (takes_out id) made ≡ true → IsTakenOut id machine (acts_did second machine made world).told
acts_out id second machine [] world is = absurd (false≢true is)
acts_out id second machine (act ∷ others) world is =
    let one = act_did second machine act world in
    let rest = (acts_did second machine others one.world).told in
    either_makes (takes_out id act) (list_any (takes_out id) others) is
    (λ own. out_before rest (act_out id second machine act world own))
    (λ later. out_behind one.told (acts_out id second machine others one.world later))

pub step_out : (id number machine : ℕ) (input : Input) (before after : LineState) (told : List Happening)
    → (steps : MachineSteps number machine input before after told)
    → list_any (takes_out id) (plain_of number machine input before after told steps) ≡ true
    → IsTakenOut id machine told
step_out id number machine input before after told steps is =
    subst (λ (ts : List Happening). IsTakenOut id machine ts) (sym steps.told_is)
    (acts_out id (is_second input) machine steps.acts (read_by machine before.world)
    (any_plain (takes_out id) (λ message. refl) (λ signal on. refl) number machine input before after told steps ∙ is))
