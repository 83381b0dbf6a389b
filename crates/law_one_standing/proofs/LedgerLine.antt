-- THE LEDGER FOLLOWS EACH LINE of a script.
use Rattle.std.proofs.Common.{Bool, Err, List, None, Ok, Option, Result, Some, [], ap, append-nil, arith, inl, inr, length, nat_le, refl, subst, suc, sym, true, zero, ℕ, ◌++◌, ◌+◌, ◌-◌, ◌<◌, ◌∙◌, ◌∷◌, ◌≡◌, ◌≢◌, ◌≤◌, ◌⊎◌}
use Rattle.std.specs.Prelude.{slice_get, slice_index_or, slice_set}
use Rattle.law_one_standing.proofs.RestLine.{node_there}
use Rattle.line_base.specs.declared.states.Side.{Side}
use Rattle.board_record.specs.Maker.{Maker, after_next, made_id, next_id}
use Rattle.board_record.specs.declared.maker.IdsUsedUp.{IdsUsedUp}
use Rattle.line_link.specs.Link.{connected_of}
use Rattle.line_link.specs.declared.link.Connected.{Connected}
use Rattle.line_link.specs.declared.link.Connected.TheVariants as connections
use Rattle.node_core.specs.Event.{Event, Insert, Replace, event_of, maker_after, with_new}
use Rattle.node_core.specs.Node.{NodeState, desk_of, new_node}
use Rattle.node_core.specs.Own.{own_of}
use Rattle.node_core.specs.Step.{plain_step}
use Rattle.node_core.specs.Supervising.{watch_of}
use Rattle.node_core.specs.declared.act.Act.{Act}
use Rattle.node_core.specs.declared.input.Input.{Input}
use Rattle.node_core.specs.declared.input.Input.TheVariants as inputs
use Rattle.node_core.specs.declared.lane.Body.{Body}
use Rattle.node_core.specs.declared.word.Word.{Word}
use Rattle.line_report.specs.declared.happening.Happening.{Happening}
use Rattle.standings.specs.Ledger.{AreLegal, Ledger, are_different, has_entry, ledger_after_all}
use Rattle.standings.specs.Marks.{Owned, Where, has_at}
use Rattle.standings.specs.declared.deed.Deed.{Deed}
use Rattle.line_step.specs.Lines.{Becomes, Connects, Flows, LineSteps, arrived, connecting, met}
use Rattle.line_step.specs.Numbered.{ChangesMachine, Stand, no_node, node_at}
use Rattle.line_step.specs.Shown.{standings_told}
use Rattle.line_step.specs.State.{LineState, machine_in, one_more, profile_of, owned_by}
use Rattle.line_step.specs.Steps.{MachineSteps, is_second, moment_of, read_by, unread_by}
use Rattle.line_step.specs.World.{link_at}
use Rattle.line_step.proofs.Changing.{more_changes, step_changes}
use Rattle.line_step.proofs.FloorLaws.{steps-goes, plain_of, IsNew, new_by}
use Rattle.step_rules.specs.Makers.{IsOld}
use Rattle.step_rules.proofs.Makers.{AreNumbered, numbered-at, old-apart, old-new}
use Rattle.line_step.proofs.Numbers.{machine_set_own, machine_within, same_or_not}
use Rattle.law_one_standing.specs.Carried.{Trace}
use Rattle.law_one_standing.specs.Replay.{deeds_of}
use Rattle.law_one_standing.specs.Stands.{Stands}
use Rattle.law_one_standing.proofs.LedgerMarks.{FitsLine, differ_of, mark_old, taken_old}
use Rattle.law_one_standing.proofs.MarksOf.{has_kept, id_kept}
use Rattle.standings.specs.declared.mark.Mark.TheVariants as marks
use Rattle.line_step.specs.Tracks.{ComesFromElsewhere}
use Rattle.law_one_standing.proofs.LedgerSteps.{Ends, IsMadeNow, all_of, deeds_by, did_goes, kept_different, silent_behind, tells_deeds}
use Rattle.law_one_standing.proofs.LedgerTold.{acts_deeds, deeds_join, no_acts_deeds, remarks_none}
use Rattle.law_one_standing.proofs.LedgerTurns.{Fits, Follows, after_append, entry_at, legal_append}
use Rattle.law_one_standing.proofs.LedgerWalk.{Did, IsNewFor, step_did}
use Rattle.node_core.specs.Signals.{signalled}
use Rattle.law_one_standing.proofs.Signalled.{signals_silent}
use Rattle.line_step.proofs.Remarks.{all_pass, standings_remarks}
use Rattle.line_step.specs.Requests.{Request, added_told}
use Rattle.line_step.proofs.Effects.{added_remarks}
use Rattle.line_step.proofs.Turns.{LineTurns, line_turns}
use Rattle.line_step.proofs.Turns as turns

-- the deeds of what is told are legal, and the ledger behind them is that of the line after
pub record Led (Old : ℕ → Type 0) (after : LineState) (ledger : Ledger) (told : List Happening) : Type 0 where
  pub legal : AreLegal ledger (deeds_of told)
  pub fits : FitsLine Old after (ledger_after_all ledger (deeds_of told))

led_told : {Old : ℕ → Type 0} {after : LineState} {ledger : Ledger} (told what : List Happening) → deeds_of told ≡ deeds_of what → Led Old after ledger what → Led Old after ledger told
led_told {Old} {after} {ledger} told what same led = record {
  legal = subst (λ (ds : List Deed). AreLegal ledger ds) (sym same) led.legal;
  fits = subst (λ (ds : List Deed). FitsLine Old after (ledger_after_all ledger ds)) (sym same) led.fits;
}

led_both : {Older Old : ℕ → Type 0} {between after : LineState} {ledger : Ledger} (a b : List Happening) → Led Older between ledger a → Led Old after (ledger_after_all ledger (deeds_of a)) b → Led Old after ledger (a ++ b)
led_both {Old = Old} {after = after} {ledger = ledger} a b one two = record {
  legal = subst (λ (ds : List Deed). AreLegal ledger ds) (sym (deeds_join a b)) (legal_append ledger (deeds_of a) (deeds_of b) one.legal two.legal);
  fits = subst (λ (ds : List Deed). FitsLine Old after (ledger_after_all ledger ds)) (sym (deeds_join a b)) (subst (λ (l : Ledger). FitsLine Old after l) (sym (after_append ledger (deeds_of a) (deeds_of b))) two.fits);
}

-- ---- nothing is done with a record

-- each machine owns what it did
abbrev pub OwnSame : LineState → LineState → Type 0
OwnSame before after = (machine : ℕ) → owned_by (node_at after machine) ≡ owned_by (node_at before machine)

fits_same : {Older Old : ℕ → Type 0} (before after : LineState) (ledger : Ledger) → OwnSame before after → ((x : ℕ) → Older x → Old x) → FitsLine Older before ledger → FitsLine Old after ledger
fits_same before after ledger same more fits = record {
  past = fits.past;
  is = fits.is;
  all = λ place machine x. fits.all place machine x ∙ ap (λ (o : Owned). has_at place o x) (sym (same machine));
  olds = λ x seen. more x (fits.olds x seen);
}

pub still_led : {Older Old : ℕ → Type 0} (before after : LineState) (ledger : Ledger) (told : List Happening) → OwnSame before after → deeds_of told ≡ [] → ((x : ℕ) → Older x → Old x) → FitsLine Older before ledger → Led Old after ledger told
still_led before after ledger told same none more fits = led_told told [] none (record { legal = tt; fits = fits_same before after ledger same more fits })

pub same_nodes : (s t : LineState) → t.machines ≡ s.machines → (machine : ℕ) → node_at t machine ≡ node_at s machine
same_nodes s t is zero = refl
same_nodes s t is (suc place) = ap (λ (nodes : List NodeState). slice_index_or nodes place no_node) is

own_nodes : (s t : LineState) → t.machines ≡ s.machines → OwnSame s t
own_nodes s t is machine = ap owned_by (same_nodes s t is machine)

-- ---- a machine's step

-- the ids that an input makes
abbrev pub IsNewInput : (ℕ → Type 0) → Input → Maker → Type 0
IsNewInput New (inputs.Insert barcode) maker = (id : ℕ) → next_id maker ≡ Ok id → New id
IsNewInput New (inputs.Replace old) maker = (id : ℕ) → next_id maker ≡ Ok id → New id
IsNewInput New _ maker = Unit {0}

pub new_with : (New : ℕ → Type 0) (found : Result ℕ IdsUsedUp) (event : ℕ → Event) → ((id : ℕ) → found ≡ Ok id → IsNewFor New (event id)) → IsNewFor New (with_new found event)
new_with New (Ok id) event new = new id refl
new_with New (Err why) event new = tt

pub new_event : (New : ℕ → Type 0) (maker : Maker) (input : Input) (words : List Word) → IsNewInput New input maker → IsNewFor New (event_of maker input words)
new_event New maker (inputs.Insert barcode) words new = new_with New (next_id maker) (λ id. Insert id barcode) (λ id is. new id is)
new_event New maker (inputs.Replace old) words new = new_with New (next_id maker) (Replace old) (λ id is. new id is)
new_event New maker _ words new = tt

step_own : {New : ℕ → Type 0} (number machine : ℕ) (input : Input) (before after : LineState) (told : List Happening) (steps : MachineSteps number machine input before after told) → IsNewInput New input steps.node.maker
    → Did New (own_of steps.node.lane.body) (plain_of number machine input before after told steps)
    (own_of steps.next.lane.body)
step_own {New} number machine input before after told steps new =
    let lane = steps.steps.lane in
    let event = event_of steps.node.maker input lane.words in
    let desk = desk_of steps.node (moment_of number) in
    let unread = unread_by machine before.world in
    subst (λ (b : Body). Did New (own_of steps.node.lane.body)
    (plain_step desk unread event steps.node.lane.body).acts (own_of b)) (sym lane.body)
    (step_did desk unread event steps.node.lane.body
    (new_event New steps.node.maker input lane.words new))

-- which are its deeds
step_deeds : (number machine : ℕ) (input : Input) (before after : LineState)
    (told : List Happening) (steps : MachineSteps number machine input before after told)
    → deeds_by machine steps.acts
    ≡ deeds_by machine (plain_of number machine input before after told steps)
step_deeds number machine input before after told steps =
    let desk = desk_of steps.node (moment_of number) in
    let own : List Act = signalled steps.node.bridge steps.next.lane.body in
    ap (deeds_by machine) steps.steps.told
    ∙ silent_behind machine steps.steps.made own
    (signals_silent steps.node.bridge steps.next.lane.body)
    ∙ ap (deeds_by machine) steps.steps.lane.told
    ∙ tells_deeds machine desk (watch_of desk steps.node.lane.body)
    (plain_of number machine input before after told steps)

machine_led : {Older Old : ℕ → Type 0} (number machine : ℕ) (input : Input) (before after : LineState) (told : List Happening) → ((x : ℕ) → Older x → Old x) → (steps : MachineSteps number machine input before after told)
    → IsNewInput (IsMadeNow Older Old) input steps.node.maker → are_different (all_of (own_of (node_at before machine).lane.body)) ≡ true → Ends Old (own_of (node_at after machine).lane.body)
    → (ledger : Ledger) → FitsLine Older before ledger → Led Old after ledger told
machine_led {Older} {Old} number machine input before after told more steps new different ends ledger fits =
    let others : Where → ℕ → ℕ → Bool = λ place other x. has_at place (owned_by (node_at before other)) x in
    let node_is : node_at before machine ≡ steps.node = node_there machine before steps.node steps.there in
    let next_is : node_at after machine ≡ steps.next = node_there machine after steps.next (ap (machine_in machine) steps.after_is ∙ machine_set_own machine before steps.node steps.next steps.there) in
    let counted : 1 ≤ machine = (machine_within machine before steps.node steps.there).0 in
    let at : machine - 1 + 1 ≡ machine = omega (arith, counted) in
    let plain : List Act = plain_of number machine input before after told steps in
    let does : Did (IsMadeNow Older Old) (own_of (node_at before machine).lane.body) plain
    (own_of (node_at after machine).lane.body) =
    subst (λ (n : NodeState). Did (IsMadeNow Older Old) (own_of n.lane.body) plain
    (own_of (node_at after machine).lane.body)) (sym node_is)
    (subst (λ (n : NodeState). Did (IsMadeNow Older Old) (own_of steps.node.lane.body) plain
    (own_of n.lane.body)) (sym next_is)
    (step_own number machine input before after told steps new)) in
    let here : Fits Older machine (own_of (node_at before machine).lane.body) others ledger =
    record { past = fits.past; is = fits.is; here = λ place x. fits.all place machine x; there = λ place other x apart. fits.all place other x; olds = fits.olds } in
    let follows : Follows Old machine (own_of (node_at after machine).lane.body) others ledger
    (deeds_by machine plain) = did_goes at more does different ends ledger here in
    let same : deeds_of told ≡ deeds_by machine plain =
    ap deeds_of steps.told_is ∙ acts_deeds (is_second input) machine steps.acts
    (read_by machine before.world)
    ∙ step_deeds number machine input before after told steps in
    let changes : ChangesMachine machine before after = step_changes number machine input before after told steps in
    let last : FitsLine Old after (ledger_after_all ledger (deeds_by machine plain)) = record {
      past = follows.fits.past;
      is = follows.fits.is;
      all = λ place other x. place_by place other x follows changes (same_or_not other machine);
      olds = follows.fits.olds;
    } in
    record { legal = subst (λ (ds : List Deed). AreLegal ledger ds) (sym same) follows.legal; fits = subst (λ (ds : List Deed). FitsLine Old after (ledger_after_all ledger ds)) (sym same) last } where
      place_by : (place : Where) (other x : ℕ)
          → Follows Old machine (own_of (node_at after machine).lane.body)
          (λ p n y. has_at p (owned_by (node_at before n)) y) ledger
          (deeds_by machine (plain_of number machine input before after told steps))
          → ChangesMachine machine before after
          → (other ≡ machine) ⊎ (other ≢ machine)
          → has_entry (entry_at other place x)
          (ledger_after_all ledger
          (deeds_by machine (plain_of number machine input before after told steps))).marks
          ≡ has_at place (owned_by (node_at after other)) x
      place_by place other x follows changes (inl is) =
          subst (λ (n : ℕ). has_entry (entry_at n place x)
          (ledger_after_all ledger
          (deeds_by machine (plain_of number machine input before after told steps))).marks
          ≡ has_at place (owned_by (node_at after n)) x) (sym is) (follows.fits.here place x)
      place_by place other x follows changes (inr apart) =
          follows.fits.there place other x apart ∙ ap (λ (s : Stand). has_at place (owned_by s.node) x) (sym (changes.machines other apart))

-- ---- a new id

new_at : (nodes : List NodeState) (place id : ℕ) (node next : NodeState) → AreNumbered 1 nodes → slice_get nodes place ≡ Some node → next.maker ≡ after_next node.maker → next_id node.maker ≡ Ok id → IsMadeNow (IsOld 1 nodes) (IsOld 1 (slice_set nodes place next)) id
new_at nodes place id node next own found made is =
    let new : IsNew node.maker id = new_by (nat_le 281474976710655 node.maker.used) node.maker id refl is in
    let number : node.maker.machine ≡ 1 + place = (numbered-at 1 nodes place node own found).machine in
    let made_there : id ≡ made_id (1 + place) (node.maker.used + 1) = new.is ∙ ap (λ (m : ℕ). made_id m (node.maker.used + 1)) number in
    let used : next.maker.used ≡ node.maker.used + 1 = ap (λ (m : Maker). m.used) made ∙ new.now in
    record {
      apart = λ other old same. old-apart 1 nodes place node other id (node.maker.used + 1) found (omega arith) new.small made_there old same;
      old = old-new 1 nodes place node next id found (record { count = node.maker.used + 1; counted = omega (arith, used); small = new.small; is = made_there });
    }

pub made_here : (number machine : ℕ) (input : Input) (before after : LineState) (told : List Happening) (steps : MachineSteps number machine input before after told) → AreNumbered 1 before.machines → maker_after input steps.node.maker ≡ after_next steps.node.maker
    → (id : ℕ) → next_id steps.node.maker ≡ Ok id → IsMadeNow (IsOld 1 before.machines) (IsOld 1 after.machines) id
made_here number zero input before after told steps own makes id is = absurd (let h : ◌≡◌ {A = Option NodeState} None (Some steps.node) = steps.there in cc)
made_here number (suc place) input before after told steps own makes id is =
    let at : suc place - 1 ≡ place = omega arith in
    let nodes : after.machines ≡ slice_set before.machines place steps.next = ap (λ (s : LineState). s.machines) steps.after_is ∙ ap (λ (n : ℕ). slice_set before.machines n steps.next) at in
    subst (λ (ns : List NodeState). IsMadeNow (IsOld 1 before.machines) (IsOld 1 ns) id) (sym nodes) (new_at before.machines place id steps.node steps.next own steps.there (steps.steps.lane.made ∙ makes) is)

-- ---- the forms

-- what a line is done in, and what holds behind it: a machine's ids differ before it, what a machine has behind it is old
-- and differs, and what was old stays so
record Around (before next : LineState) : Type 0 where
  different : (machine : ℕ) → are_different (all_of (own_of (node_at before machine).lane.body)) ≡ true
  ends : (machine : ℕ) → Ends (IsOld 1 next.machines) (own_of (node_at next machine).lane.body)
  own : AreNumbered 1 before.machines
  olds : (x : ℕ) → IsOld 1 before.machines x → IsOld 1 next.machines x

abbrev LedLine : LineState → LineState → Ledger → List Happening → Type 0
LedLine before next ledger told = FitsLine (IsOld 1 before.machines) before ledger → Led (IsOld 1 next.machines) next ledger told

becomes_led : (before now next : LineState) (what told : List Happening) (ledger : Ledger) → Around before next → Becomes now what next told → OwnSame before now → deeds_of what ≡ [] → LedLine before next ledger told
becomes_led before now next what told ledger a becomes same none fits =
    still_led before next ledger told (subst (λ (s : LineState). OwnSame before s) (sym becomes.after_is) same) (ap deeds_of becomes.told_is ∙ none) a.olds fits

-- the ids that an input makes are new
input_new : (number machine : ℕ) (input : Input) (before next : LineState) (told : List Happening) → Around before next → (steps : MachineSteps number machine input before next told) → IsNewInput (IsMadeNow (IsOld 1 before.machines) (IsOld 1 next.machines)) input steps.node.maker
input_new number machine (inputs.Insert barcode) before next told a steps = made_here number machine (inputs.Insert barcode) before next told steps a.own refl
input_new number machine (inputs.Replace old) before next told a steps = made_here number machine (inputs.Replace old) before next told steps a.own refl
input_new number machine _ before next told a steps = tt

-- bytes arrive: the link alone changes before the machine's step
flows_led : (number machine : ℕ) (side : Side) (count : Option ℕ) (before next : LineState) (told : List Happening) (ledger : Ledger) → Around before next → Flows number machine side count before next told → LedLine before next ledger told
flows_led number machine side count before next told ledger a flows fits =
    let start : LineState = arrived machine side count before in
    machine_led number machine (inputs.Bytes side flows.piece) start next told a.olds flows.steps tt (ap (λ (n : NodeState). are_different (all_of (own_of n.lane.body))) (same_nodes before start refl machine) ∙ a.different machine) (a.ends machine) ledger
    (fits_same before start ledger (own_nodes before start refl) (λ x old. old) fits)

met_new : (New : ℕ → Type 0) (on : Connected) (maker : Maker) → IsNewInput New (met on) maker
met_new New connections.Accepted maker = tt
met_new New connections.Second maker = tt

-- a connection is made: a step of each of two machines
connects_led : (number machine : ℕ) (before next : LineState) (told : List Happening) (ledger : Ledger) → Around before next → Connects number machine before next told → LedLine before next ledger told
connects_led number machine before next told ledger a twice fits =
    let Old : ℕ → Type 0 = IsOld 1 next.machines in
    let start : LineState = connecting machine before in
    let on : Connected = connected_of (link_at (machine - 1) before.world).upstream in
    let counted : 1 ≤ machine = (machine_within machine start twice.first.node twice.first.there).0 in
    let apart : machine ≢ machine - 1 = omega (arith, counted) in
    let beside : machine - 1 ≢ machine = omega (arith, counted) in
    let early : ChangesMachine machine start twice.between = step_changes number machine inputs.Connect start twice.between twice.earlier twice.first in
    let late : ChangesMachine (machine - 1) twice.between next = step_changes number (machine - 1) (met on) twice.between next twice.later twice.second in
    let here : node_at next machine ≡ node_at twice.between machine = ap (λ (s : Stand). s.node) (late.machines machine apart) in
    let above : node_at twice.between (machine - 1) ≡ node_at before (machine - 1) = ap (λ (s : Stand). s.node) (early.machines (machine - 1) beside) ∙ same_nodes before start refl (machine - 1) in
    let one : Led Old twice.between ledger twice.earlier =
    machine_led number machine inputs.Connect start twice.between twice.earlier a.olds twice.first tt (ap (λ (n : NodeState). are_different (all_of (own_of n.lane.body))) (same_nodes before start refl machine) ∙ a.different machine)
    (subst (λ (n : NodeState). Ends Old (own_of n.lane.body)) here (a.ends machine)) ledger (fits_same before start ledger (own_nodes before start refl) (λ x old. old) fits) in
    let two : Led Old next (ledger_after_all ledger (deeds_of twice.earlier)) twice.later =
    machine_led number (machine - 1) (met on) twice.between next twice.later (λ x old. old) twice.second (met_new (IsMadeNow Old Old) on twice.second.node.maker) (ap (λ (n : NodeState). are_different (all_of (own_of n.lane.body))) above ∙ a.different (machine - 1))
    (a.ends (machine - 1)) (ledger_after_all ledger (deeds_of twice.earlier)) one.fits in
    led_told told (twice.earlier ++ twice.later) (ap deeds_of twice.told_is) (led_both twice.earlier twice.later one two)

-- ---- one machine more

pub last_node : (nodes : List NodeState) (new : NodeState) → slice_index_or (nodes ++ new ∷ []) (length nodes) no_node ≡ new
last_node [] new = refl
last_node (node ∷ nodes) new = last_node nodes new

pub no_last : (nodes : List NodeState) → slice_index_or nodes (length nodes) no_node ≡ no_node
no_last [] = refl
no_last (node ∷ nodes) = no_last nodes

more_own : (lane : ℕ) (is_bridge : Bool) (capacity used : ℕ) (s : LineState) → OwnSame s (one_more lane is_bridge capacity used s)
more_own lane is_bridge capacity used s machine = by (same_or_not machine (length s.machines + 1)) where
  new : (n : ℕ) → n ≡ length s.machines → owned_by (slice_index_or (one_more lane is_bridge capacity used s).machines n no_node) ≡ owned_by (slice_index_or s.machines n no_node)
  new n is = rw is (rw (last_node s.machines (new_node (profile_of lane is_bridge (length s.machines + 1) capacity used)), no_last s.machines) refl)

  by : (machine ≡ length s.machines + 1) ⊎ (machine ≢ length s.machines + 1) → owned_by (node_at (one_more lane is_bridge capacity used s) machine) ≡ owned_by (node_at s machine)
  by (inl is) =
      let next : machine ≡ suc (length s.machines) = omega (arith, is) in
      subst (λ (m : ℕ). owned_by (node_at (one_more lane is_bridge capacity used s) m) ≡ owned_by (node_at s m)) (sym next) (new (length s.machines) refl)
  by (inr apart) = ap (λ (x : Stand). owned_by x.node) ((more_changes lane is_bridge capacity used s).machines machine apart)

-- ---- each form

turns_led : (number : ℕ) (request : Request) (before next : LineState) (told : List Happening) (ledger : Ledger) → Around before next → LineTurns number before next told request → LedLine before next ledger told
turns_led number request before next told ledger a (turns.stays _ same none) fits = still_led before next ledger told (own_nodes before next same) (all_pass told no_acts_deeds none) a.olds fits
turns_led number request before next told ledger a (turns.adds lane is_bridge capacity used may b) fits =
    becomes_led before (one_more lane is_bridge capacity used before) next (added_told is_bridge capacity before) told ledger a b (more_own lane is_bridge capacity used before) (remarks_none _ (added_remarks is_bridge capacity before)) fits
turns_led number request before next told ledger a (turns.steps machine input given may did) fits =
    machine_led number machine input before next told a.olds did (input_new number machine input before next told a did) (a.different machine) (a.ends machine) ledger fits
turns_led number request before next told ledger a (turns.connects machine may did) fits = connects_led number machine before next told ledger a did fits
turns_led number request before next told ledger a (turns.flows machine side count may did) fits = flows_led number machine side count before next told ledger a did fits

-- ---- THE LINE

ends_of : {t : Trace} {s : LineState} (machine : ℕ) → Stands t s → Ends (IsOld 1 s.machines) (own_of (node_at s machine).lane.body)
ends_of {s = s} machine st = record {
  different = kept_different (own_of (node_at s machine).lane.body) (differ_of machine st);
  kept = λ id has. mark_old {mark = marks.Kept machine} st (has_kept (id_kept id (node_at s machine).lane.body.kept has));
  taken = λ id is. taken_old machine id st is;
}

around_of : (t t2 : Trace) (number : ℕ) (request : Request) (before after : LineState) (told : List Happening) → Stands t before → Stands t2 after → ComesFromElsewhere request before → (steps : LineSteps number request before after told) → Around before steps.next
around_of t t2 number request before after told st st2 from steps =
    let same : after.machines ≡ steps.next.machines = ap (λ (s : LineState). s.machines) steps.after_is in
    record {
      different = λ machine. differ_of machine st;
      ends = λ machine. subst (λ (n : NodeState). Ends (IsOld 1 steps.next.machines) (own_of n.lane.body)) (same_nodes steps.next after same machine)
          (subst (λ (ns : List NodeState). Ends (IsOld 1 ns) (own_of (node_at after machine).lane.body)) same (ends_of machine st2));
      own = st.ids.own;
      olds = λ x old. subst (λ (ns : List NodeState). IsOld 1 ns x) same ((steps-goes number request before after told st.ids from steps).olds x old);
    }

pub line_led : (t t2 : Trace) (number : ℕ) (request : Request) (before after : LineState) (told : List Happening) (ledger : Ledger) → Stands t before → Stands t2 after → ComesFromElsewhere request before → LineSteps number request before after told
    → FitsLine (IsOld 1 before.machines) before ledger → Led (IsOld 1 after.machines) after ledger told
line_led t t2 number request before after told ledger st st2 from steps fits =
    let same : after.machines ≡ steps.next.machines = ap (λ (s : LineState). s.machines) steps.after_is in
    let led : Led (IsOld 1 steps.next.machines) steps.next ledger steps.done = turns_led number request before steps.next steps.done ledger (around_of t t2 number request before after told st st2 from steps) (line_turns number request before steps.next steps.done steps.does) fits in
    let none : deeds_of told ≡ deeds_of steps.done = ap deeds_of steps.told_is ∙ deeds_join steps.done (standings_told before steps.next) ∙ ap (λ (ds : List Deed). deeds_of steps.done ++ ds) (remarks_none (standings_told before steps.next) (standings_remarks before steps.next)) ∙ append-nil (deeds_of steps.done) in
    led_told told steps.done none (record {
      legal = led.legal;
      fits = fits_same steps.next after (ledger_after_all ledger (deeds_of steps.done)) (own_nodes steps.next after same) (λ x old. subst (λ (ns : List NodeState). IsOld 1 ns x) (sym same) old) led.fits;
    })
