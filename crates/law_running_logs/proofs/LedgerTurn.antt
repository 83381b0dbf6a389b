-- THE LEDGER FOLLOWS A TURN: the deeds of its acts are legal in a ledger that has the marks of the machines, and leave it
-- with those behind the turn.
use Rattle.std.proofs.Common.{Bool, List, [], ap, arith, inl, inr, map, refl, subst, sym, ℕ, ℤ, ◌++◌, ◌+◌, ◌-◌, ◌<◌, ◌∙◌, ◌∷◌, ◌≡◌, ◌≢◌, ◌≤◌, ◌⊎◌}
use Rattle.law_one_standing.proofs.LedgerLine.{IsNewInput, new_event}
use Rattle.board_record.specs.Maker.{Maker, after_next, made_id}
use Rattle.line_report.specs.declared.happening.Happening.TheVariants as happenings
use Rattle.node_core.specs.Event.{Insert, Replace}
use Rattle.node_core.specs.Node.{NodeState, desk_of}
use Rattle.node_core.specs.Own.{own_of}
use Rattle.node_core.specs.Signals.{signalled}
use Rattle.node_core.specs.Step.{plain_step}
use Rattle.node_core.specs.Supervising.{watch_of}
use Rattle.node_core.specs.declared.act.Act.{Act}
use Rattle.node_core.specs.declared.input.Input.{Input}
use Rattle.node_core.specs.declared.input.Input.TheVariants as inputs
use Rattle.node_core.specs.declared.lane.Body.{Body}
use Rattle.standings.specs.Ledger.{AreLegal, Ledger, has_entry, ledger_after_all}
use Rattle.standings.specs.Marks.{Where, has_at}
use Rattle.standings.specs.declared.deed.Deed.{Deed}
use Rattle.line_step.specs.State.{owned_by}
use Rattle.line_step.proofs.Numbers.{machine_within, same_or_not}
use Rattle.law_one_standing.specs.Replay.{deeds_at as deeds_of_act, deeds_of}
use Rattle.law_one_standing.specs.Carried.{Trace}
use Rattle.law_one_standing.proofs.LedgerMarks.{FitsLine}
use Rattle.law_one_standing.proofs.LedgerSteps.{IsMadeNow, deeds_by, did_goes, silent_behind, tells_deeds}
use Rattle.law_one_standing.proofs.LedgerTurns.{Fits, Follows, entry_at}
use Rattle.law_one_standing.proofs.LedgerWalk.{Did, step_did}
use Rattle.law_one_standing.proofs.Signalled.{signals_silent}
use Rattle.law_running_line.specs.Reading.{Reading}
use Rattle.law_running_line.specs.Running.{Running}
use Rattle.law_running_line.specs.Stands.{AreInRelation, IsMade, Stands, line_of, node_in}
use Rattle.law_running_line.specs.Turns.{Turns}
use Rattle.law_running_line.proofs.TurnHands.{fresh, next_made}
use Rattle.law_running_line.proofs.TurnLeaves.{event_in}
use Rattle.law_running_line.proofs.TurnShape.{made_then, next_there, other_nodes, own_node}
use Rattle.law_running_logs.proofs.LedgerMarks.{differ_of, ends_of}

-- the deeds of what is told of a machine's acts are those of the acts
pub told_deeds : (machine : ℕ) (acts : List Act) → deeds_of (map (happenings.Done machine) acts) ≡ deeds_by machine acts
told_deeds machine [] = refl
told_deeds machine (act ∷ acts) = ap (λ (ds : List Deed). deeds_of_act machine act ++ ds) (told_deeds machine acts)

-- ---- the id that is made next

record IsNext (maker : Maker) (id : ℕ) : Type 0 where
  is : id ≡ made_id maker.machine (maker.used + 1)
  small : maker.used + 1 < 281474976710656
  now : after_next maker ≡ record maker { used = maker.used + 1 }

-- ---- the ids that an input makes

pub input_new : {t : Trace} {reading : Reading} {machine : ℕ} {moment : ℤ} {before after : Running} {told : List Act} (input : Input) (turn : Turns reading machine input moment before after told) → Stands t before → IsNewInput (IsMadeNow (IsMade before) (IsMade after)) input turn.node.maker
input_new {machine = machine} {before = before} (inputs.Insert barcode) turn st = λ id is. record {
  apart = λ other made. fresh before machine turn.node id other st.numbers turn.there is made;
  old = next_made turn id is turn.steps.lane.made;
}
input_new {machine = machine} {before = before} (inputs.Replace old) turn st = λ id is. record {
  apart = λ other made. fresh before machine turn.node id other st.numbers turn.there is made;
  old = next_made turn id is turn.steps.lane.made;
}
input_new _ turn st = tt

-- ---- what the turn's step does with its machine's records

-- but for what it tells its supervisor, and for a bridge's own signals
abbrev pub plain_of : {reading : Reading} {machine : ℕ} {input : Input} {moment : ℤ} {before after : Running} {told : List Act} → Turns reading machine input moment before after told → List Act
plain_of {moment = moment} turn = (plain_step (desk_of turn.node moment) turn.read (event_in turn) turn.node.lane.body).acts

pub step_own : {New : ℕ → Type 0} {reading : Reading} {machine : ℕ} {input : Input} {moment : ℤ} {before after : Running} {told : List Act} (turn : Turns reading machine input moment before after told) → IsNewInput New input turn.node.maker
    → Did New (own_of turn.node.lane.body) (plain_of turn) (own_of turn.next.lane.body)
step_own {New} {input = input} {moment = moment} turn new =
    subst (λ (b : Body). Did New (own_of turn.node.lane.body) (plain_of turn) (own_of b)) (sym turn.steps.lane.body)
    (step_did (desk_of turn.node moment) turn.read (event_in turn) turn.node.lane.body (new_event New turn.node.maker input turn.steps.lane.words new))

pub step_deeds : {reading : Reading} {machine : ℕ} {input : Input} {moment : ℤ} {before after : Running} {told : List Act} (turn : Turns reading machine input moment before after told) → deeds_by machine told ≡ deeds_by machine (plain_of turn)
step_deeds {machine = machine} {moment = moment} turn =
    ap (deeds_by machine) turn.steps.told
    ∙ silent_behind machine turn.steps.made (signalled turn.node.bridge turn.next.lane.body) (signals_silent turn.node.bridge turn.next.lane.body)
    ∙ ap (deeds_by machine) turn.steps.lane.told
    ∙ tells_deeds machine (desk_of turn.node moment) (watch_of (desk_of turn.node moment) turn.node.lane.body) (plain_of turn)

-- ---- THE TURN

-- the deeds of some acts are legal, and the ledger behind them is that of the machines after
pub record Led (after : Running) (ledger : Ledger) (deeds : List Deed) : Type 0 where
  pub legal : AreLegal ledger deeds
  pub fits : FitsLine (IsMade after) (line_of after) (ledger_after_all ledger deeds)

pub turn_led : {reading : Reading} {machine : ℕ} {input : Input} {moment : ℤ} {before after : Running} {told : List Act} (turn : Turns reading machine input moment before after told) → AreInRelation before → AreInRelation after
    → (ledger : Ledger) → FitsLine (IsMade before) (line_of before) ledger → Led after ledger (deeds_by machine told)
turn_led {machine = machine} {input = input} {before = before} {after = after} {told = told} turn was now ledger fits =
    let others : Where → ℕ → ℕ → Bool = λ place other x. has_at place (owned_by (node_in before other)) x in
    let counted : 1 ≤ machine = (machine_within machine (line_of before) turn.node turn.there).0 in
    let at : machine - 1 + 1 ≡ machine = omega (arith, counted) in
    let plain : List Act = plain_of turn in
    let does : Did (IsMadeNow (IsMade before) (IsMade after)) (own_of (node_in before machine).lane.body) plain (own_of (node_in after machine).lane.body) =
    subst (λ (n : NodeState). Did (IsMadeNow (IsMade before) (IsMade after)) (own_of n.lane.body) plain (own_of (node_in after machine).lane.body)) (sym (own_node turn))
    (subst (λ (n : NodeState). Did (IsMadeNow (IsMade before) (IsMade after)) (own_of turn.node.lane.body) plain (own_of n.lane.body)) (sym (next_there turn)) (step_own turn (input_new input turn was.stands))) in
    let here : Fits (IsMade before) machine (own_of (node_in before machine).lane.body) others ledger =
    record { past = fits.past; is = fits.is; here = λ place x. fits.all place machine x; there = λ place other x apart. fits.all place other x; olds = fits.olds } in
    let follows : Follows (IsMade after) machine (own_of (node_in after machine).lane.body) others ledger (deeds_by machine plain) =
    did_goes at (λ x made. made_then turn x made) does (differ_of machine was.stands) (ends_of machine now.stands) ledger here in
    let last : FitsLine (IsMade after) (line_of after) (ledger_after_all ledger (deeds_by machine plain)) = record {
      past = follows.fits.past;
      is = follows.fits.is;
      all = λ place other x. place_by place other x follows (same_or_not other machine);
      olds = follows.fits.olds;
    } in
    subst (λ (ds : List Deed). Led after ledger ds) (sym (step_deeds turn)) (record { legal = follows.legal; fits = last })
  where
    place_by : (place : Where) (other x : ℕ)
        → Follows (IsMade after) machine (own_of (node_in after machine).lane.body) (λ p n y. has_at p (owned_by (node_in before n)) y) ledger (deeds_by machine (plain_of turn))
        → (other ≡ machine) ⊎ (other ≢ machine)
        → has_entry (entry_at other place x) (ledger_after_all ledger (deeds_by machine (plain_of turn))).marks ≡ has_at place (owned_by (node_in after other)) x
    place_by place other x follows (inl is) =
        subst (λ (n : ℕ). has_entry (entry_at n place x) (ledger_after_all ledger (deeds_by machine (plain_of turn))).marks ≡ has_at place (owned_by (node_in after n)) x) (sym is) (follows.fits.here place x)
    place_by place other x follows (inr apart) =
        follows.fits.there place other x apart ∙ ap (λ (n : NodeState). has_at place (owned_by n) x) (sym (other_nodes turn other apart))
