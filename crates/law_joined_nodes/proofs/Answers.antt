-- A SECOND CONNECTION IS ANSWERED FIRST, and no other act of that step is such an answer.
use Rattle.std.proofs.Common.{Bool, List, None, Option, Some, [], ap, false, refl, subst, sym, true, ℤ, ◌++◌, ◌∙◌, ◌∷◌, ◌≡◌}
use Rattle.std.specs.Prelude.{if◌then◌else◌}
use Rattle.std.proofs.lemmas.Bool.{false≢true}
use Rattle.line_base.specs.declared.states.Role.{Role}
use Rattle.line_base.specs.declared.states.Role.TheVariants.{Upstream}
use Rattle.line_base.specs.declared.states.Side.TheVariants.{Entry, Exit}
use Rattle.hermes_horizontal.specs.declared.message.Message.{Message}
use Rattle.session_core.specs.Acts.{one}
use Rattle.session_core.specs.End.{SessionEnd, is_connected_state}
use Rattle.session_core.specs.Input.{second}
use Rattle.session_core.specs.Row.{SessionRow, connected_row, second_row, session_row}
use Rattle.session_core.specs.Table.{IsSessionRow, refuses_second}
use Rattle.session_core.specs.declared.actions.Action.TheVariants.{Tell}
use Rattle.session_core.specs.declared.actions.Actions.{Actions}
use Rattle.session_core.specs.declared.actions.Tell.TheVariants.{AlreadyConnected}
use Rattle.session_core.specs.declared.state.SessionState.{SessionState}
use Rattle.session_core.specs.declared.state.SessionState.TheVariants.{
  Handshake,
  NotConnected,
  Standing,
}
use Rattle.session_core.proofs.Rows.{row_is}
use Rattle.smema_bridge.specs.Levels.{BridgeLevels}
use Rattle.node_core.specs.Announces.{announces}
use Rattle.node_core.specs.Desk.{Desk}
use Rattle.node_core.specs.May.{may_do, may_of}
use Rattle.node_core.specs.Node.{NodeState, desk_of}
use Rattle.node_core.specs.Session.{actions_did, session_did}
use Rattle.node_core.specs.Sides.{is_open, with_session}
use Rattle.node_core.specs.Signals.{signalled}
use Rattle.node_core.specs.Step.{Steps}
use Rattle.node_core.specs.Supervising.{watch_of, with_tells}
use Rattle.node_core.specs.declared.act.Act.{Act}
use Rattle.node_core.specs.declared.act.Act.TheVariants as acts
use Rattle.node_core.specs.declared.input.Input.{Input}
use Rattle.node_core.specs.declared.input.Input.TheVariants as inputs
use Rattle.node_core.specs.declared.lane.Body.{Body}
use Rattle.node_core.specs.declared.supervising.Watch.{Watch}
use Rattle.node_core.proofs.Signalling.{signals_all}
use Rattle.law_machine_custody.proofs.Answering.{IsNoAnswer as IsPlainAct, announces_plain}
use Rattle.law_machine_custody.proofs.Quiet.{AllActs, acts_more, acts_none, all_append, all_tells}
use Rattle.line_step.specs.Acts.{is_answer}
use Rattle.law_one_standing.proofs.CarryingAnswer.{same_answer}
use Rattle.law_node_runs.proofs.Holding.{is_reached}

abbrev pub IsNoAnswer : Act → Type 0
IsNoAnswer (acts.Sends Exit message) = is_answer message.body ≡ false
IsNoAnswer act = Unit {0}

abbrev pub AreNoAnswers : List Act → Type 0
AreNoAnswers [] = Unit {0}
AreNoAnswers (act ∷ others) = IsNoAnswer act × AreNoAnswers others

pub record AnswersFirst (told : List Act) : Type 0 where
  pub message : Message
  pub rest : List Act
  pub is : told ≡ acts.Sends Exit message ∷ rest
  pub answer : is_answer message.body ≡ true
  pub none : AreNoAnswers rest

abbrev pub AnswersIf : Input → List Act → Type 0
AnswersIf inputs.Second told = AnswersFirst told
AnswersIf input told = Unit {0}

no_answer : (act : Act) → IsPlainAct act → IsNoAnswer act
no_answer (acts.Sends Exit message) plain = same_answer message.body ∙ plain
no_answer (acts.Sends Entry message) plain = tt
no_answer act plain = tt

no_answers : {told : List Act} → AllActs IsPlainAct told → AreNoAnswers told
no_answers acts_none = tt
no_answers (acts_more {act = act} one more) = (no_answer act one, no_answers more)

tells_none : (test : Bool) → AllActs IsPlainAct (if test then [] else [])
tells_none true = acts_none
tells_none false = acts_none

second_told : (desk : Desk) (watch : Watch) (after : Body) (actions : Actions) (more : List Act)
    → actions ≡ one (Tell AlreadyConnected) → AllActs IsPlainAct more
    → AnswersFirst (with_tells desk watch ((actions_did desk Exit actions after).acts
    ++ (announces desk (actions_did desk Exit actions after).body).acts) ++ more)
second_told desk watch after actions more is plain =
    let P : Actions → Type 0 = λ a. AnswersFirst (with_tells desk watch
    ((actions_did desk Exit a after).acts
    ++ (announces desk (actions_did desk Exit a after).body).acts) ++ more) in
    let told : AnswersFirst (with_tells desk watch
    ((actions_did desk Exit (one (Tell AlreadyConnected)) after).acts
    ++ (announces desk after).acts) ++ more) = record {
      message = _;
      rest = _;
      is = refl;
      answer = refl;
      none = no_answers (all_append
          (all_append (tells_none watch.supervised)
          (all_tells desk watch (λ message. tt) (announces_plain desk after))) plain);
    } in
    subst P (sym is) told

second_actions : {s : SessionEnd} {row : SessionRow} → IsSessionRow s second row
    → row.actions ≡ one (Tell AlreadyConnected)
second_actions (refuses_second on) = refl

no_row : {X : Type 0} (state : SessionState) (s : SessionEnd) (actions : Actions)
    → is_connected_state state ≡ true → connected_row state s actions ≡ None → X
no_row NotConnected s actions on none = absurd (false≢true on)
no_row Handshake s actions on none = cc
no_row Standing s actions on none = cc

none_second : {X : Type 0} (s : SessionEnd) → s.role ≡ Upstream
    → is_connected_state s.state ≡ true → session_row s second ≡ None → X
none_second s role on none =
    no_row s.state s (one (Tell AlreadyConnected)) on
    (subst (λ (r : Role). second_row r s ≡ None) role none)

second_by : (desk : Desk) (watch : Watch) (body : Body) (found : Option SessionRow)
    (more : List Act) → session_row body.exit.session second ≡ found
    → body.exit.session.role ≡ Upstream → is_open Exit body ≡ true → AllActs IsPlainAct more
    → AnswersFirst (with_tells desk watch ((session_did desk Exit found body).acts
    ++ (announces desk (session_did desk Exit found body).body).acts) ++ more)
second_by desk watch body None more is role on plain =
    none_second body.exit.session role on is
second_by desk watch body (Some row) more is role on plain =
    second_told desk watch (with_session Exit row.after body) row.actions more
    (second_actions (row_is body.exit.session second row is)) plain

signals_plain : (bridge : Option BridgeLevels) (body : Body)
    → AllActs IsPlainAct (signalled bridge body)
signals_plain bridge body =
    signals_all (AllActs IsPlainAct) acts_none (λ signal on. acts_more tt acts_none)
    (λ a b one two. all_append one two) bridge body

-- of each step that reads nothing
pub answers_first : (s t : NodeState) (input : Input) (moment : ℤ) (told : List Act)
    → may_of s input ≡ may_do → Steps s [] input moment t told
    → s.lane.body.exit.session.role ≡ Upstream → AnswersIf input told
answers_first s t inputs.Second moment told may steps role =
    let desk : Desk = desk_of s moment in
    let body : Body = s.lane.body in
    subst AnswersFirst
    (sym (steps.told
    ∙ ap (λ (made : List Act). made ++ signalled s.bridge t.lane.body) steps.lane.told))
    (second_by desk (watch_of desk body) body (session_row body.exit.session second)
    (signalled s.bridge t.lane.body) refl role (is_reached Exit body may)
    (signals_plain s.bridge t.lane.body))
answers_first s t inputs.Nothing moment told may steps role = tt
answers_first s t input moment told may steps role = tt
