-- What a machine's step tells as answers, and what its book keeps behind it.
use Rattle.std.proofs.Common.{
  ◌≡◌,
  ◌≢◌,
  ◌⊎◌,
  ◌∙◌,
  ◌++◌,
  ◌==◌,
  inl,
  inr,
  ℕ,
  Bool,
  true,
  false,
  List,
  [],
  ◌∷◌,
  Option,
  Some,
  Result,
  Ok,
  Err,
  option_and_then,
  is_some,
  not,
  refl,
  sym,
  ap,
  subst,
  append-nil,
  eqb-true,
}
use Rattle.std.specs.List.{flat_map}
use Rattle.std.proofs.lemmas.Bool.{eqb-false}
use Rattle.std.proofs.lemmas.Grind.{flat_map-append}
use Rattle.board_record.specs.declared.sensed.Sensed.{Sensed}
use Rattle.board_record.specs.Maker.{Maker, next_id}
use Rattle.board_record.specs.declared.maker.IdsUsedUp.{IdsUsedUp}
use Rattle.supervisory_core.specs.declared.order.Order.{Order}
use Rattle.supervisory_core.specs.declared.error.AnswerError.{AnswerError}
use Rattle.supervisory_core.specs.declared.error.AnswerError.TheVariants as answer_errors
use Rattle.supervisory_core.specs.Calls.{after_answer}
use Rattle.supervisory_core.specs.Orders.{answer_of, answer_to, answered, order_numbered}
use Rattle.supervisory_core.proofs.Kept.{now_answered, other_answered}
use Rattle.node_core.specs.Announces.{announces}
use Rattle.node_core.specs.Desk.{Desk}
use Rattle.node_core.specs.Event.{Event, Insert, Replace, Supervised, event_of, with_new}
use Rattle.node_core.specs.May.{may_of}
use Rattle.node_core.specs.May as own_may
use Rattle.node_core.specs.Node.{NodeState, desk_of}
use Rattle.node_core.specs.Reads.{all_read}
use Rattle.node_core.specs.Signals.{signalled}
use Rattle.node_core.specs.Step.{plain_step}
use Rattle.node_core.specs.Supervising.{Answer, orders_after, watch_of, with_tells}
use Rattle.node_core.specs.declared.act.Act.{Act}
use Rattle.node_core.specs.declared.act.Act.TheVariants as acts
use Rattle.node_core.specs.declared.input.Input.{Input}
use Rattle.node_core.specs.declared.input.Input.TheVariants as inputs
use Rattle.node_core.specs.declared.input.No.{No}
use Rattle.node_core.specs.declared.input.No.TheVariants as nos
use Rattle.node_core.specs.declared.lane.Body.{Body}
use Rattle.node_core.specs.declared.word.Word.{Word}
use Rattle.node_core.proofs.Signalling.{signals_pass}
use Rattle.line_report.specs.declared.happening.Happening.{Happening}
use Rattle.line_step.specs.Reasons.{behind_own, if_there, may_answer, may_do}
use Rattle.line_step.specs.State.{LineState, machine_in}
use Rattle.line_step.specs.Steps.{MachineSteps, is_second, moment_of, read_by, unread_by}
use Rattle.line_step.proofs.Answering.{answer_may}
use Rattle.line_step.proofs.Numbers.{
  machine_set_other,
  machine_set_own,
  machine_within,
  same_or_not,
}
use Rattle.line_step.proofs.WithTells.{flat_with_tells}
use Rattle.step_rules.specs.Acts.{OfEvent, Usual}
use Rattle.step_rules.proofs.Acts.{All, acts_hold, told_acts_hold}
use Rattle.step_rules.proofs.Steps.{all_read_made, announces_made}
use Rattle.law_sentences.specs.Answers.{Answers, GetsAnswer, answers_of, kept_in, word_in}
use Rattle.law_sentences.proofs.Book.{asking_keeps, was_open}
use Rattle.law_sentences.proofs.Told.{Silent, acts_words, if_own, own_none}

-- an input that is no answer
abbrev pub NoAnswer : Input → Type 0
NoAnswer (inputs.Answer query order) = ⊥
NoAnswer _ = Unit {0}

-- ---- the words of its acts

usual_none : (query : ℕ) → Usual (λ act. word_in query act ≡ [])
usual_none query = record {
  reads = λ side event. refl;
  hears = λ side message. refl;
  breaches = λ side text. refl;
  sends = λ side message. refl;
  closes = λ side. refl;
  notices = λ side. refl;
  deed = λ deed. refl;
  drive = λ side on. refl;
}

no_words : (query : ℕ) (told : List Act) → All (λ act. word_in query act ≡ []) told
    → flat_map (word_in query) told ≡ []
no_words query [] all = refl
no_words query (act ∷ others) all =
    ap (λ (words : List (List ℕ)). words ++ flat_map (word_in query) others) all.0
    ∙ no_words query others all.1

new_event : (P : Act → Type 0) (desk : Desk) (found : Result ℕ IdsUsedUp) (event : ℕ → Event)
    → ((id : ℕ) → OfEvent P desk (event id)) → OfEvent P desk (with_new found event)
new_event P desk (Ok id) event each = each id
new_event P desk (Err why) event each = tt

event_none : (query : ℕ) (desk : Desk) (maker : Maker) (input : Input) (words : List Word)
    → NoAnswer input
    → OfEvent (λ act. word_in query act ≡ []) desk (event_of maker input words)
event_none query desk maker (inputs.Insert barcode) words none =
    new_event (λ act. word_in query act ≡ []) desk (next_id maker) (λ id. Insert id barcode) (λ id.
    refl)
event_none query desk maker (inputs.Replace old) words none =
    new_event (λ act. word_in query act ≡ []) desk (next_id maker) (Replace old) (λ id. refl)
event_none query desk maker (inputs.Answer number order) words none = absurd none
event_none query desk maker (inputs.Level line on) words none = (refl, λ id. refl)
event_none query desk maker inputs.Nothing words none = tt
event_none query desk maker inputs.Accepted words none = tt
event_none query desk maker inputs.Second words none = tt
event_none query desk maker (inputs.Bytes side piece) words none = tt
event_none query desk maker (inputs.Notice side) words none = tt
event_none query desk maker inputs.Tick words none = tt
event_none query desk maker inputs.Shutdown words none = tt
event_none query desk maker (inputs.Fault side) words none = tt
event_none query desk maker inputs.Forecast words none = tt
event_none query desk maker (inputs.Query barcode) words none = tt
event_none query desk maker _ words none = refl

-- a step of an input that is no answer tells none
none_words : (query number machine : ℕ) (input : Input) (before after : LineState)
    (told : List Happening)
    (steps : MachineSteps number machine input before after told) → NoAnswer input
    → flat_map (word_in query) steps.acts ≡ []
none_words query number machine input before after told steps none =
    let node = steps.node in
    let desk : Desk = desk_of node (moment_of number) in
    let event : Event = event_of node.maker input steps.steps.lane.words in
    let body : Body = node.lane.body in
    let made =
    with_tells desk (watch_of desk body)
    (plain_step desk (unread_by machine before.world) event body).acts in
    let own = signalled node.bridge steps.next.lane.body in
    let is : steps.acts ≡ made ++ own =
    steps.steps.told ∙ ap (λ (xs : List Act). xs ++ own) steps.steps.lane.told in
    ap (flat_map (word_in query)) is
    ∙ no_words query (made ++ own)
    (told_acts_hold (usual_none query) (λ message. refl) (λ signal on. refl) desk
    (watch_of desk body)
    (unread_by machine before.world) event body
    node.bridge steps.next.lane.body
    (event_none query desk node.maker input steps.steps.lane.words none))

-- a step of an answer tells that one
plain_words : (query number : ℕ) (order : List ℕ) (desk : Desk) (unread : List Sensed)
    (body : Body)
    → flat_map (word_in query)
    (plain_step desk unread (Supervised (Answer number order)) body).acts
    ≡ word_in query (acts.Answered number order)
plain_words query number order desk unread body =
    let read = all_read desk unread body in
    let last : List Act = (announces desk read.body).acts in
    let word : List (List ℕ) = word_in query (acts.Answered number order) in
    flat_map-append (word_in query) read.acts (acts.Answered number order ∷ last)
    ∙ ap (λ (words : List (List ℕ)). words ++ (word ++ flat_map (word_in query) last))
    (no_words query read.acts
    (acts_hold (usual_none query) (all_read_made desk unread body) tt))
    ∙ ap (λ (words : List (List ℕ)). word ++ words)
    (no_words query last
    (acts_hold (usual_none query) (announces_made desk read.body) tt))
    ∙ append-nil word

one_word : (query number machine asked : ℕ) (order : List ℕ) (before after : LineState)
    (told : List Happening)
    (steps : MachineSteps number machine (inputs.Answer asked order) before after told)
    → flat_map (word_in query) steps.acts ≡ word_in query (acts.Answered asked order)
one_word query number machine asked order before after told steps =
    let node = steps.node in
    let desk : Desk = desk_of node (moment_of number) in
    let body : Body = node.lane.body in
    let unread : List Sensed = unread_by machine before.world in
    let plain : List Act = (plain_step desk unread (Supervised (Answer asked order)) body).acts in
    ap (flat_map (word_in query)) steps.steps.told
    ∙ signals_pass (flat_map (word_in query))
    (λ front signal on. flat_map-append (word_in query) front (acts.Signals signal on ∷ [])
    ∙ append-nil (flat_map (word_in query) front))
    steps.steps.made node.bridge steps.next.lane.body
    ∙ ap (flat_map (word_in query)) steps.steps.lane.told
    ∙ flat_with_tells (word_in query) (λ message. refl) desk (watch_of desk body) plain
    ∙ plain_words query asked order desk unread body

step_words : (query number machine at : ℕ) (input : Input) (before after : LineState)
    (told : List Happening)
    (steps : MachineSteps number machine input before after told) (words : List (List ℕ))
    → flat_map (word_in query) steps.acts ≡ words
    → answers_of at query told ≡ if_own (machine == at) words
step_words query number machine at input before after told steps words is =
    ap (answers_of at query) steps.told_is
    ∙ acts_words at query (is_second input) machine steps.acts (read_by machine before.world)
    ∙ ap (if_own (machine == at)) is

-- ---- what the books keep behind it

before_is : (query number machine : ℕ) (input : Input) (before after : LineState)
    (told : List Happening)
    (steps : MachineSteps number machine input before after told)
    → kept_in before machine query ≡ answer_to steps.node.orders query
before_is query number machine input before after told steps =
    ap (λ (found : Option NodeState). option_and_then (λ node.
    answer_to node.orders query) found) steps.there

after_is : (query number machine : ℕ) (input : Input) (before after : LineState)
    (told : List Happening)
    (steps : MachineSteps number machine input before after told)
    → kept_in after machine query ≡ answer_to (orders_after input steps.node.orders) query
after_is query number machine input before after told steps =
    ap (λ (found : Option NodeState). option_and_then (λ node. answer_to node.orders query) found)
    (ap (machine_in machine) steps.after_is ∙ machine_set_own machine before steps.node steps.next
    steps.there)
    ∙ ap (λ (os : List Order). answer_to os query) steps.steps.orders

other_is : (query number machine at : ℕ) (input : Input) (before after : LineState)
    (told : List Happening)
    (steps : MachineSteps number machine input before after told) → at ≢ machine
    → kept_in after at query ≡ kept_in before at query
other_is query number machine at input before after told steps apart =
    ap (λ (found : Option NodeState). option_and_then (λ node. answer_to node.orders query) found)
    (ap (machine_in at) steps.after_is
    ∙ machine_set_other machine at before steps.next
    (machine_within machine before steps.node steps.there).0 apart)

same_orders : (query : ℕ) (input : Input) (orders : List Order) → NoAnswer input
    → answer_to (orders_after input orders) query ≡ answer_to orders query
same_orders query (inputs.Ask question) orders none = asking_keeps orders question query
same_orders query (inputs.Answer number order) orders none = absurd none
same_orders query _ orders none = refl

pub none_silent : (number machine : ℕ) (input : Input) (before after : LineState)
    (told : List Happening)
    → MachineSteps number machine input before after told → NoAnswer input → Silent told
none_silent number machine input before after told steps none at query =
    step_words query number machine at input before after told steps []
    (none_words query number machine input before after told steps none)
    ∙ own_none (machine == at)

pub none_kept : (number machine : ℕ) (input : Input) (before after : LineState)
    (told : List Happening)
    → MachineSteps number machine input before after told → NoAnswer input
    → (at query : ℕ) → kept_in after at query ≡ kept_in before at query
none_kept number machine input before after told steps none at query =
    by (same_or_not at machine) where
      by : (at ≡ machine) ⊎ (at ≢ machine) → kept_in after at query ≡ kept_in before at query
      by (inl is) =
          subst (λ (n : ℕ). kept_in after n query ≡ kept_in before n query) (sym is)
          (after_is query number machine input before after told steps
          ∙ same_orders query input steps.node.orders none
          ∙ sym (before_is query number machine input before after told steps))
      by (inr apart) = other_is query number machine at input before after told steps apart

-- ---- the step of an answer

given : (own : Result (Unit {0}) No) → behind_own own may_do ≡ may_do → own ≡ Ok tt
given (Ok _) is = refl
given (Err why) is = absurd cc

open_by : (test : Bool) (found : Result (Unit {0}) AnswerError)
    → own_may.no_if test nos.NotSupervised (own_may.no_answer found) ≡ Ok tt → found ≡ Ok tt
open_by true found is = absurd cc
open_by false (Ok _) is = refl
open_by false (Err (answer_errors.Unknown query)) is = absurd cc
open_by false (Err (answer_errors.Answered query)) is = absurd cc

taken_there : (machine query : ℕ) (order : List ℕ) (s : LineState) (node : NodeState)
    → machine_in machine s ≡ Some node → may_answer machine query order s ≡ may_do
    → answer_of node.orders query ≡ Ok tt
taken_there machine query order s node there may =
    open_by (not node.supervised) (answer_of node.orders query)
    (given (may_of node (inputs.Answer query order))
    (ap (λ (found : Option NodeState). if_there found (λ n.
    behind_own (may_of n (inputs.Answer query order)) may_do))
    (sym there)
    ∙ answer_may machine query order s may))

pub answer_once : (number machine query : ℕ) (order : List ℕ) (before after : LineState)
    (told : List Happening)
    → MachineSteps number machine (inputs.Answer query order) before after told
    → may_answer machine query order before ≡ may_do
    → (at asked : ℕ) → Answers before after at asked (answers_of at asked told)
answer_once number machine query order before after told steps may at asked =
    by (machine == at) (query == asked) refl refl where
      taken : answer_of steps.node.orders query ≡ Ok tt
      taken = taken_there machine query order before steps.node steps.there may

      words : (own same : Bool) → (machine == at) ≡ own → (query == asked) ≡ same
          → answers_of at asked told ≡ if_own own (if_own same (order ∷ []))
      words own same here this =
          step_words asked number machine at (inputs.Answer query order) before after told steps
          (if_own (query == asked) (order ∷ []))
          (one_word asked number machine query order before after told steps)
          ∙ ap (λ (b : Bool). if_own b (if_own (query == asked) (order ∷ []))) here
          ∙ ap (λ (b : Bool). if_own own (if_own b (order ∷ []))) this

      behind : (other : ℕ)
          → kept_in after machine other ≡ answer_to (answered steps.node.orders query order) other
      behind other =
          after_is other number machine (inputs.Answer query order) before after told steps
          ∙ ap (λ (r : Result (Unit {0}) AnswerError). answer_to
          (after_answer steps.node.orders query order r) other) taken

      gets : GetsAnswer before after machine query order
      gets = record {
        asked =
            ap (λ (found : Option NodeState). is_some
            (option_and_then (λ n. order_numbered n.orders query) found)) steps.there
            ∙ (was_open steps.node.orders query taken).0;
        unanswered =
            before_is query number machine (inputs.Answer query order) before after told steps
            ∙ (was_open steps.node.orders query taken).1;
        kept = behind query ∙ now_answered steps.node.orders query order taken;
      }

      by : (own same : Bool) → (machine == at) ≡ own → (query == asked) ≡ same
          → Answers before after at asked (answers_of at asked told)
      by true true here this =
          subst (λ (ws : List (List ℕ)). Answers before after at asked ws)
          (sym (words true true here this))
          (subst (λ (n : ℕ). GetsAnswer before after n asked order) (eqb-true machine at here)
          (subst (λ (q : ℕ). GetsAnswer before after machine q order)
          (eqb-true query asked this) gets))
      by true false here this =
          subst (λ (ws : List (List ℕ)). Answers before after at asked ws)
          (sym (words true false here this))
          (subst (λ (n : ℕ). kept_in after n asked ≡ kept_in before n asked)
          (eqb-true machine at here)
          (behind asked ∙ other_answered steps.node.orders query asked order taken this
          ∙ sym (before_is asked number machine
          (inputs.Answer query order) before after told steps)))
      by false same here this =
          let apart : machine ≢ at = eqb-false machine at here in
          subst (λ (ws : List (List ℕ)). Answers before after at asked ws)
          (sym (words false same here this))
          (other_is asked number machine at (inputs.Answer query order) before after told steps
          (λ is. apart (sym is)))
