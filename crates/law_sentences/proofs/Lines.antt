-- EACH LINE ANSWERS ONCE: a line that gives an answer, and all others, which change no answer.
use Rattle.std.proofs.Common.{
  ◌≡◌,
  ◌∙◌,
  ◌++◌,
  ◌+◌,
  ◌-◌,
  ◌==◌,
  ℕ,
  zero,
  suc,
  Bool,
  true,
  false,
  cond,
  List,
  [],
  ◌∷◌,
  Option,
  Some,
  None,
  length,
  option_and_then,
  slice_get,
  refl,
  sym,
  ap,
  subst,
  append-nil,
}
use Rattle.line_base.specs.declared.states.Side.{Side}
use Rattle.line_link.specs.Link.{connected_of}
use Rattle.line_link.specs.declared.link.Connected.{Connected}
use Rattle.line_link.specs.declared.link.Connected.TheVariants as connections
use Rattle.supervisory_core.specs.declared.order.Order.{Order}
use Rattle.supervisory_core.specs.Orders.{answer_to}
use Rattle.node_core.specs.Node.{NodeState, new_node}
use Rattle.node_core.specs.declared.input.Input.{Input}
use Rattle.node_core.specs.declared.input.Input.TheVariants as inputs
use Rattle.line_report.specs.declared.happening.Happening.{Happening}
use Rattle.line_step.specs.Tracks.{AreBesideNodes, IsBeside, TrackLine, TrackSteps, other_line, own_line}
use Rattle.line_step.specs.Lines.{Becomes, Connects, Flows, connecting, met}
use Rattle.line_step.specs.Reasons.{may_do}
use Rattle.line_step.specs.Shown.{standings_told}
use Rattle.line_step.specs.State.{LineState, one_more, profile_of}
use Rattle.line_step.specs.Steps.{MachineSteps}
use Rattle.line_step.specs.World.{link_at}
use Rattle.law_sentences.specs.Answers.{
  Answers,
  AnswersOnce,
  EachLineAnswersOnce,
  answers_of,
  kept_in,
}
use Rattle.law_sentences.proofs.Steps.{NoAnswer, answer_once, none_kept, none_silent}
use Rattle.law_sentences.proofs.Told.{Silent, answers_join, both_silent, no_acts_silent, remarks_silent}
use Rattle.line_step.proofs.Remarks.{all_pass, standings_remarks}
use Rattle.line_step.specs.Requests.{Request, added_told, may_get}
use Rattle.line_step.proofs.Effects.{added_remarks}
use Rattle.line_step.proofs.Turns.{LineTurns, line_turns}
use Rattle.line_step.proofs.Turns as turns

-- ---- what answers once keeps what was answered

stays_by : (before after : LineState) (machine query : ℕ) (word : List ℕ) (words : List (List ℕ))
    → Answers before after machine query words → kept_in before machine query ≡ Some word
    → kept_in after machine query ≡ Some word
stays_by before after machine query word [] same is = same ∙ is
stays_by before after machine query word (other ∷ []) gets is =
    absurd (let none : None ≡ Some word = sym gets.unanswered ∙ is in cc)
stays_by before after machine query word (_ ∷ (_ ∷ _)) never is = absurd never

once_of : (before after : LineState) (told : List Happening)
    → ((machine query : ℕ) → Answers before after machine query (answers_of machine query told))
    → AnswersOnce before after told
once_of before after told each = record {
  each = each;
  stays = λ machine query word is.
      stays_by before after machine query word (answers_of machine query told)
      (each machine query) is;
}

-- ---- what changes no answer

-- the books of two states keep the same answers
abbrev KeepSame : LineState → LineState → Type 0
KeepSame before after =
    (machine query : ℕ) → kept_in after machine query ≡ kept_in before machine query

record Quiet (before after : LineState) (told : List Happening) : Type 0 where
  same : KeepSame before after
  silent : Silent told

quiet_once : (before after : LineState) (told : List Happening) → Quiet before after told
    → (machine query : ℕ) → Answers before after machine query (answers_of machine query told)
quiet_once before after told quiet machine query =
    subst (λ (words : List (List ℕ)). Answers before after machine query words)
    (sym (quiet.silent machine query)) (quiet.same machine query)

becomes_quiet : (before now next : LineState) (what told : List Happening)
    → Becomes now what next told
    → KeepSame before now → Silent what → Quiet before next told
becomes_quiet before now next what told becomes same silent = record {
  same = λ machine query.
      ap (λ (s : LineState). kept_in s machine query) becomes.after_is ∙ same machine query;
  silent = λ machine query. ap (answers_of machine query) becomes.told_is ∙ silent machine query;
}

step_quiet : (number machine : ℕ) (input : Input) (before next : LineState) (told : List Happening)
    → NoAnswer input → MachineSteps number machine input before next told → Quiet before next told
step_quiet number machine input before next told none steps = record {
  same = none_kept number machine input before next told steps none;
  silent = none_silent number machine input before next told steps none;
}

-- bytes arrive: the link alone changes before the machine's step
flows_quiet : (number machine : ℕ) (side : Side) (count : Option ℕ) (before next : LineState)
    (told : List Happening) → Flows number machine side count before next told
    → Quiet before next told
flows_quiet number machine side count before next told flows =
    let steps =
    step_quiet number machine (inputs.Bytes side flows.piece) _ next told tt flows.steps in
    record { same = steps.same; silent = steps.silent }

met_none : (on : Connected) → NoAnswer (met on)
met_none connections.Accepted = tt
met_none connections.Second = tt

-- a connection is made: a step of each of two machines
connects_quiet : (number machine : ℕ) (before next : LineState) (told : List Happening)
    → Connects number machine before next told → Quiet before next told
connects_quiet number machine before next told twice =
    let on : Connected = connected_of (link_at (machine - 1) before.world).upstream in
    let first = step_quiet number machine inputs.Connect (connecting machine before) twice.between
    twice.earlier tt twice.first in
    let second =
    step_quiet number (machine - 1) (met on) twice.between next twice.later (met_none on)
    twice.second in
    record {
      same = λ at query. second.same at query ∙ first.same at query;
      silent = λ at query.
          ap (answers_of at query) twice.told_is
          ∙ both_silent twice.earlier twice.later first.silent second.silent at query;
    }

-- ---- one machine more, which asked nothing

none_asked : (zeroth : Bool) (place : ℕ)
    → option_and_then (λ (order : Order). order.answer) (cond zeroth None (slice_get [] place))
    ≡ None
none_asked true place = refl
none_asked false place = refl

last_kept : (nodes : List NodeState) (new : NodeState) (place query : ℕ)
    → answer_to new.orders query ≡ None
    → option_and_then (λ node. answer_to node.orders query) (slice_get (nodes ++ new ∷ []) place)
    ≡ option_and_then (λ node. answer_to node.orders query) (slice_get nodes place)
last_kept [] new zero query none = none
last_kept [] new (suc place) query none = refl
last_kept (node ∷ nodes) new zero query none = refl
last_kept (node ∷ nodes) new (suc place) query none = last_kept nodes new place query none

more_kept : (lane : ℕ) (is_bridge : Bool) (capacity used : ℕ) (s : LineState)
    → KeepSame s (one_more lane is_bridge capacity used s)
more_kept lane is_bridge capacity used s zero query = refl
more_kept lane is_bridge capacity used s (suc place) query =
    last_kept s.machines
    (new_node (profile_of lane is_bridge (length s.machines + 1) capacity used)) place query
    (none_asked (query == 0) (query - 1))

-- ---- the turns

-- one answer
step_once : (number machine : ℕ) (input : Input) (before next : LineState)
    (told : List Happening) → may_get machine input before ≡ may_do
    → MachineSteps number machine input before next told
    → (at asked : ℕ) → Answers before next at asked (answers_of at asked told)
step_once number machine (inputs.Answer query order) before next told may did at asked =
    answer_once number machine query order before next told did may at asked
step_once number machine input before next told may did at asked =
    quiet_once before next told (step_quiet number machine input before next told tt did) at
    asked

turn_once : (number : ℕ) (request : Request) (before next : LineState) (told : List Happening)
    → LineTurns number before next told request
    → (at asked : ℕ) → Answers before next at asked (answers_of at asked told)
turn_once number request before next told (turns.stays _ same none) at asked =
    quiet_once before next told
    (record {
      same = λ machine query.
          ap (λ (nodes : List NodeState). kept_in (record before { machines = nodes }) machine query)
          same;
      silent = all_pass told no_acts_silent none;
    })
    at asked
turn_once number request before next told (turns.adds lane is_bridge capacity used may b) at asked =
    quiet_once before next told
    (becomes_quiet before (one_more lane is_bridge capacity used before) next
    (added_told is_bridge capacity before) told b (more_kept lane is_bridge capacity used before)
    (remarks_silent (added_told is_bridge capacity before)
    (added_remarks is_bridge capacity before)))
    at asked
turn_once number request before next told (turns.steps machine input given may did) at asked =
    step_once number machine input before next told may did at asked
turn_once number request before next told (turns.connects machine may did) at asked =
    quiet_once before next told (connects_quiet number machine before next told did) at asked
turn_once number request before next told (turns.flows machine side count may did) at asked =
    quiet_once before next told (flows_quiet number machine side count before next told did) at
    asked

-- ---- THE LINE

-- the count of lines is no answer
counted_by : (before next : LineState) (lines machine query : ℕ) (words : List (List ℕ))
    → Answers before next machine query words
    → Answers before (record next { lines = lines }) machine query words
counted_by before next lines machine query [] same = same
counted_by before next lines machine query (word ∷ []) gets =
    record { asked = gets.asked; unanswered = gets.unanswered; kept = gets.kept }
counted_by before next lines machine query (_ ∷ (_ ∷ _)) never = absurd never

pub line_once : EachLineAnswersOnce
line_once number request before after told steps =
    let next : LineState = steps.next in
    let counted : LineState = record next { lines = steps.lines } in
    once_of before after told (λ machine query.
    subst (λ (s : LineState). Answers before s machine query (answers_of machine query told))
    (sym steps.after_is)
    (subst (λ (words : List (List ℕ)). Answers before counted machine query words)
    (sym (ap (answers_of machine query) steps.told_is
    ∙ answers_join machine query steps.done (standings_told before next)
    ∙ ap (λ (words : List (List ℕ)). answers_of machine query steps.done ++ words)
    (remarks_silent (standings_told before next) (standings_remarks before next) machine query)
    ∙ append-nil (answers_of machine query steps.done)))
    (counted_by before next steps.lines machine query (answers_of machine query steps.done)
    (turn_once number request before next steps.done
    (line_turns number request before next steps.done steps.does) machine query))))

-- ---- a track

beside_orders : (nodes others : List NodeState) (place query : ℕ)
    → AreBesideNodes nodes others
    → option_and_then (λ node. answer_to node.orders query) (slice_get others place)
    ≡ option_and_then (λ node. answer_to node.orders query) (slice_get nodes place)
beside_orders [] [] place query are = refl
beside_orders [] (other ∷ others) place query are = absurd are
beside_orders (node ∷ nodes) [] place query are = absurd are
beside_orders (node ∷ nodes) (other ∷ others) zero query are =
    ap (λ (orders : List Order). answer_to orders query) are.0.orders
beside_orders (node ∷ nodes) (other ∷ others) (suc place) query are =
    beside_orders nodes others place query are.1

-- a line of another track leaves the answers
beside_kept : (before after : LineState) (machine query : ℕ) → IsBeside before after
    → kept_in after machine query ≡ kept_in before machine query
beside_kept before after zero query is = refl
beside_kept before after (suc place) query is =
    beside_orders before.machines after.machines place query is.machines

pub track_once : (number : ℕ) (line : TrackLine) (before after : LineState)
    (told : List Happening) → TrackSteps number line before after told
    → AnswersOnce before after told
track_once number (own_line request) before after told steps =
    line_once number request before after told steps.0
track_once number other_line before after told steps =
    once_of before after told (λ machine query.
    subst (λ (words : List (List ℕ)). Answers before after machine query words)
    (sym (ap (answers_of machine query) steps.1))
    (beside_kept before after machine query steps.0))
