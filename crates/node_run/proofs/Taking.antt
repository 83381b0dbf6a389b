-- From what the methods of a run say to what a move does.
use Rattle.std.proofs.Common.{◌≡◌, ◌∙◌, sym, subst, ap, refl, ℕ, ℤ, ◌||◌, Bool, true, false, List, [], ◌∷◌, ◌++◌, Option, None, Result, Ok, Err, append_assoc, if◌then◌else◌}
use Rattle.std.specs.Prelude.{OnOk}
use Rattle.std.specs.List.{list_any}
use Rattle.line_base.specs.declared.memory.Memory.{Memory}
use Rattle.line_base.specs.declared.states.Severity.TheVariants as severity
use Rattle.line_base.specs.declared.states.Side.{Side}
use Rattle.line_base.specs.declared.states.Side.TheVariants.{Entry, Exit}
use Rattle.hermes_vertical.specs.Parts.{kind_of}
use Rattle.hermes_vertical.specs.declared.kind.VerticalKind.{VerticalKind}
use Rattle.hermes_vertical.specs.declared.message.Vertical.{Vertical}
use Rattle.supervisory_core.specs.Row.{SupervisedRow}
use Rattle.supervisory_core.specs.Told.{unexpected}
use Rattle.book_entry.specs.Given.{entry_of}
use Rattle.node_core.specs.May.{may_of}
use Rattle.node_core.specs.declared.act.Act.{Act}
use Rattle.node_core.specs.declared.input.Input.{Input}
use Rattle.node_core.specs.declared.input.Input.TheVariants as inputs
use Rattle.board_record.specs.declared.sensed.Sensed.{Sensed}
use Rattle.node_core.specs.declared.input.No.{No}
use Rattle.line_outside.specs.declared.answer.GotBytes.{GotBytes}
use Rattle.line_outside.specs.declared.answer.GotBytes.TheVariants as founds
use Rattle.line_outside.specs.declared.way.Way.TheVariants as ways
use Rattle.node_run.specs.After.{AfterLook, AfterPanel, PanelArrives, TakesFinding, TakesHeld, greeting, looked, with_held}
use Rattle.supervised_end.specs.Channel.{HearsNext}
use Rattle.node_run.specs.Held.{Finding, nothing_held}
use Rattle.supervised_end.specs.Said.{all_told_for, notification, system_of, told_for, untaken}
use Rattle.node_run.specs.Hearing.{AnswersIf, BreaksOff, Describes, DoesFound, DoesHear, DoesRow, Unsupervised, said, session_ended, with_channel}
use Rattle.node_run.specs.Next.{moved_on}
use Rattle.node_run.specs.Gone.{HearsGone, HearsIf, StepsAlone, gone_at}
use Rattle.node_run.specs.State.{RunState, RunView, WayValue, echoed, with_wire}
use Rattle.node_run.specs.Steps.{HasStepped, Takes, TakesSecond, TakesStep, closes_side, message_for, messages_for, panel_told, put, put_told, refusing_with, routed, with_node}
use Rattle.supervised_end.specs.declared.channel.Found.{Found}
use Rattle.node_run.specs.declared.rules.Rules.{Rules}
use Rattle.node_run.specs.declared.way_state.Wire.{Wire}
use Rattle.node_run.specs.declared.way_state.Wire.TheVariants as wires

-- ---- an act more is routed

wire_more : (a b : Bool) (wire : Wire) → (if b then wires.Ends else (if a || false then wires.Ends else wire)) ≡ (if a || b then wires.Ends else wire)
wire_more true true wire = refl
wire_more true false wire = refl
wire_more false true wire = refl
wire_more false false wire = refl

text_more : (unsent text rest : List ℕ) → (unsent ++ (text ++ [])) ++ rest ≡ unsent ++ (text ++ rest)
text_more unsent text rest = append_assoc unsent (text ++ []) rest ∙ ap (λ l. unsent ++ l) (append_assoc text [] rest)

put_more : (side : Side) (act : Act) (rest : List Act) (way : WayValue) → put side rest (put side (act ∷ []) way) ≡ put side (act ∷ rest) way
put_more side act rest way = λ i. record {
  wire = wire_more (closes_side side act) (list_any (closes_side side) rest) way.wire i;
  unsent = text_more way.unsent (message_for side act) (messages_for side rest) i;
}

told_more : (stands : Bool) (act : Act) (rest : List Act) (way : WayValue) → put_told stands rest (put_told stands (act ∷ []) way) ≡ put_told stands (act ∷ rest) way
told_more stands act rest way = λ i. record way { unsent = text_more way.unsent (told_for stands act) (all_told_for stands rest) i }

pub routed_more : (act : Act) (rest : List Act) (s : RunState) → routed rest (routed (act ∷ []) s) ≡ routed (act ∷ rest) s
routed_more act rest s = λ i. record s {
  upstream = put_more Entry act rest s.upstream i;
  downstream = put_more Exit act rest s.downstream i;
  supervisory = told_more s.channel.stands act rest s.supervisory i;
}

-- as a loop over acts has it
pub routed_on : (act : Act) (rest all : List Act) (r m wanted : RunView) → all ≡ act ∷ rest → m ≡ record r { state = routed (act ∷ []) r.state } → record r { state = routed all r.state } ≡ wanted
    → record m { state = routed rest m.state } ≡ wanted
routed_on act rest all r m wanted first e whole =
    ap (λ (v : RunView). record v { state = routed rest v.state }) e
    ∙ ap (λ (s : RunState). record r { state = s }) (routed_more act rest r.state)
    ∙ sym (ap (λ l. record r { state = routed l r.state }) first)
    ∙ whole

-- ---- a step that the panel asked for, and one that it didn't

pub asked_taken : (result : Result (Unit {0}) Memory) (moment : ℤ) (sensed : List Sensed) (input : Input) (acts listed : List Act) (r m n u : RunView) → listed ≡ acts
    → HasStepped r.rules moment sensed input acts r.state m.state m.told → n ≡ record m { state = routed listed m.state } → OnOk result (u ≡ record n { state = echoed n.told n.state })
    → OnOk result (TakesStep true r.rules moment sensed input r.state u.state u.told)
asked_taken (Ok done) moment sensed input acts listed r m n u same stepped to_ways to_panel = record {
  node = m.state.node;
  told = acts;
  steps = stepped.steps;
  proper = stepped.proper;
  after =
      ap (λ (v : RunView). v.state) to_panel
      ∙ ap (λ (v : RunView). echoed v.told v.state) to_ways
      ∙ ap (λ l. echoed m.told (routed l m.state)) same
      ∙ ap (λ (s : RunState). echoed m.told (routed acts s)) stepped.after
      ∙ ap (λ l. echoed l (routed acts (with_node (entry_of sensed input moment) m.state.node acts r.state))) stepped.lines;
  lines = ap (λ (v : RunView). v.told) to_panel ∙ ap (λ (v : RunView). v.told) to_ways ∙ stepped.lines;
}
asked_taken (Err memory) moment sensed input acts listed r m n u same stepped to_ways to_panel = tt

pub unasked_taken : (result : Result (Unit {0}) Memory) (moment : ℤ) (input : Input) (acts listed : List Act) (r m n u : RunView) → listed ≡ acts → m.rules ≡ r.rules
    → HasStepped r.rules moment [] input acts r.state m.state m.told → n ≡ record m { state = routed listed m.state } → OnOk result (u ≡ record n { state = panel_told false n.rules listed n.state })
    → OnOk result (TakesStep false r.rules moment [] input r.state u.state u.told)
unasked_taken (Ok done) moment input acts listed r m n u same rules stepped to_ways to_panel = record {
  node = m.state.node;
  told = acts;
  steps = stepped.steps;
  proper = stepped.proper;
  after =
      ap (λ (v : RunView). v.state) to_panel
      ∙ ap (λ (v : RunView). panel_told false v.rules listed v.state) to_ways
      ∙ ap (λ (k : Rules). panel_told false k listed (routed listed m.state)) rules
      ∙ ap (λ l. panel_told false r.rules l (routed l m.state)) same
      ∙ ap (λ (s : RunState). panel_told false r.rules acts (routed acts s)) stepped.after;
  lines = ap (λ (v : RunView). v.told) to_panel ∙ ap (λ (v : RunView). v.told) to_ways ∙ stepped.lines;
}
unasked_taken (Err memory) moment input acts listed r m n u same rules stepped to_ways to_panel = tt

-- ---- a second connection downstream

pub second_taken : (result : Result (Unit {0}) Memory) (moment : ℤ) (acts listed : List Act) (r m n u : RunView) → listed ≡ acts → m.rules ≡ r.rules
    → HasStepped r.rules moment [] inputs.Second acts r.state m.state m.told → n ≡ record m { state = refusing_with listed m.state } → OnOk result (u ≡ record n { state = panel_told false n.rules listed n.state })
    → OnOk result (TakesSecond r.rules moment inputs.Second r.state u.state u.told)
second_taken (Ok done) moment acts listed r m n u same rules stepped to_ways to_panel = record {
  node = m.state.node;
  told = acts;
  steps = stepped.steps;
  proper = stepped.proper;
  after =
      ap (λ (v : RunView). v.state) to_panel
      ∙ ap (λ (v : RunView). panel_told false v.rules listed v.state) to_ways
      ∙ ap (λ (k : Rules). panel_told false k listed (refusing_with listed m.state)) rules
      ∙ ap (λ l. panel_told false r.rules l (refusing_with l m.state)) same
      ∙ ap (λ (s : RunState). panel_told false r.rules acts (refusing_with acts s)) stepped.after;
  lines = ap (λ (v : RunView). v.told) to_panel ∙ ap (λ (v : RunView). v.told) to_ways ∙ stepped.lines;
}
second_taken (Err memory) moment acts listed r m n u same rules stepped to_ways to_panel = tt

-- ---- a panel that connects

pub greeted : (result : Result (Unit {0}) Memory) (r m n u : RunView) → r.state.panel.wire ≡ wires.Rests → r.told ≡ [] → m ≡ record r { state = with_wire ways.Panel wires.Stands r.state }
    → n ≡ record m { told = m.told ++ greeting m.rules m.state } → OnOk result (u ≡ record n { state = echoed n.told n.state }) → OnOk result (AfterPanel r.rules founds.Arrived r.state u.state u.told)
greeted (Ok done) r m n u wire none stands told to_panel =
    let s = with_wire ways.Panel wires.Stands r.state in
    let P : Wire → Type 0 = λ w. PanelArrives w r.rules r.state u.state u.told in
    let whole : n ≡ record r { state = s; told = greeting r.rules r.state } =
    told ∙ ap (λ (v : RunView). record v { told = v.told ++ greeting v.rules v.state }) stands ∙ ap (λ l. record r { state = s; told = l ++ greeting r.rules r.state }) none
    in subst P (sym wire) (ap (λ (v : RunView). v.state) to_panel ∙ ap (λ (v : RunView). echoed v.told v.state) whole, ap (λ (v : RunView). v.told) to_panel ∙ ap (λ (v : RunView). v.told) whole)
greeted (Err memory) r m n u wire none stands told to_panel = tt

-- ---- messages of the supervisor

pub hears_does : (result : Result (Unit {0}) Memory) (found : Found) (moment : ℤ) (r m u : RunView) → HearsNext r.state.channel m.state.channel found
    → m ≡ record r { state = with_channel m.state.channel r.state } → OnOk result (DoesFound found m.rules moment m.state u.state u.told)
    → OnOk result (DoesHear r.rules moment r.state u.state u.told)
hears_does (Ok done) found moment r m u hears e does =
    let P : RunView → Type 0 = λ v. DoesFound found v.rules moment v.state u.state u.told in
    record { found = found; channel = m.state.channel; hears = hears; does = subst P e does }
hears_does (Err memory) found moment r m u hears e does = tt

pub describes : (result : Result (Unit {0}) Memory) (moment : ℤ) (own : Vertical) (r m u : RunView) → own ≡ system_of r.rules.machine_id → m.rules ≡ r.rules
    → m.state ≡ said moment own r.state
    → OnOk result (Takes (may_of m.state.node (inputs.Supervise true)) m.rules moment (inputs.Supervise true) m.state m.state u.state u.told)
    → OnOk result (Describes r.rules moment r.state u.state u.told)
describes (Ok done) moment own r m u own_is rules e takes =
    let P : RunState → Type 0 = λ s. Takes (may_of s.node (inputs.Supervise true)) m.rules moment (inputs.Supervise true) s s u.state u.told in
    let t = said moment (system_of r.rules.machine_id) r.state in
    let Q : Rules → Type 0 = λ n. Takes (may_of t.node (inputs.Supervise true)) n moment (inputs.Supervise true) t t u.state u.told in
    subst Q rules (subst P (e ∙ ap (λ b. said moment b r.state) own_is) takes)
describes (Err memory) moment own r m u own_is rules e takes = tt

pub untaken_does : (result : Result (Unit {0}) Memory) (may : Result (Unit {0}) No) (why : No) (moment : ℤ) (query : ℕ) (order : List ℕ) (r u : RunView) → Err why ≡ may → u.told ≡ r.told → r.told ≡ []
    → OnOk result (u.state ≡ said moment (notification 0 severity.Warning (untaken why)) r.state)
    → OnOk result (AnswersIf may r.rules moment query order r.state u.state u.told)
untaken_does (Ok done) may why moment query order r u is told none said =
    let P : Result (Unit {0}) No → Type 0 = λ n. AnswersIf n r.rules moment query order r.state u.state u.told in
    subst P is (said, told ∙ none)
untaken_does (Err memory) may why moment query order r u is told none said = tt

pub text_breaks : (result : Result (Unit {0}) Memory) (text wanted : List ℕ) (moment : ℤ) (r u : RunView) → text ≡ wanted
    → OnOk result (BreaksOff r.rules moment text r.state u.state u.told) → OnOk result (BreaksOff r.rules moment wanted r.state u.state u.told)
text_breaks result text wanted moment r u same breaks =
    let P : List ℕ → Type 0 = λ l. OnOk result (BreaksOff r.rules moment l r.state u.state u.told) in subst P same breaks

pub session_breaks : (result : Result (Unit {0}) Memory) (text : List ℕ) (body : Vertical) (moment : ℤ) (r m n u : RunView) → body ≡ notification 1 severity.Fatal text → m.rules ≡ r.rules → m.state ≡ said moment body r.state
    → n ≡ record m { state = session_ended m.state } → OnOk result (Unsupervised n.rules moment n.state u.state u.told)
    → OnOk result (BreaksOff r.rules moment text r.state u.state u.told)
session_breaks result text body moment r m n u is rules e ended ends =
    let P : RunView → Type 0 = λ v. OnOk result (Unsupervised v.rules moment v.state u.state u.told) in
    let Q : RunState → Type 0 = λ s. OnOk result (Unsupervised m.rules moment (session_ended s) u.state u.told) in
    let t = session_ended (said moment (notification 1 severity.Fatal text) r.state) in
    let R : Rules → Type 0 = λ l. OnOk result (Unsupervised l moment t u.state u.told) in
    subst R rules (subst Q (e ∙ ap (λ b. said moment b r.state) is) (subst P ended ends))

pub row_breaks : (result : Result (Unit {0}) Memory) (row : Option SupervisedRow) (body : Vertical) (kind : VerticalKind) (text : List ℕ) (moment : ℤ) (r m u : RunView) → row ≡ None → kind ≡ kind_of body
    → text ≡ unexpected kind → m ≡ r → OnOk result (BreaksOff m.rules moment text m.state u.state u.told)
    → OnOk result (DoesRow row body r.rules moment r.state u.state u.told)
row_breaks result row body kind text moment r m u none is said same breaks =
    let P : Option SupervisedRow → Type 0 = λ o. OnOk result (DoesRow o body r.rules moment r.state u.state u.told) in
    let Q : RunView → Type 0 = λ v. OnOk result (BreaksOff v.rules moment text v.state u.state u.told) in
    subst P (sym none) (text_breaks result text (unexpected (kind_of body)) moment r u (said ∙ ap unexpected is) (subst Q same breaks))

-- ---- what was found of a neighbour

pub looked_after : (result : Result (Unit {0}) Memory) (found : GotBytes) (r m u : RunView) → m ≡ record r { state = looked found r.state } → OnOk result (AfterPanel m.rules found m.state u.state u.told)
    → OnOk result (AfterLook r.rules found r.state u.state u.told)
looked_after result found r m u e after = let P : RunView → Type 0 = λ v. OnOk result (AfterPanel v.rules found v.state u.state u.told) in subst P e after

pub held_taken : (result : Result (Unit {0}) Memory) (moment : ℤ) (finding : Option Finding) (r m u : RunView) → finding ≡ r.state.held.finding → m ≡ record r { state = with_held nothing_held r.state }
    → OnOk result (TakesFinding finding m.rules moment m.state u.state u.told) → OnOk result (TakesHeld r.rules moment r.state u.state u.told)
held_taken result moment finding r m u same e takes =
    let P : RunView → Type 0 = λ v. OnOk result (TakesFinding finding v.rules moment v.state u.state u.told) in
    let Q : Option Finding → Type 0 = λ f. OnOk result (TakesFinding f r.rules moment (with_held nothing_held r.state) u.state u.told) in
    subst Q same (subst P e takes)

-- ---- a step whose messages go nowhere

pub alone_taken : (moment : ℤ) (input : Input) (acts : List Act) (r m : RunView) → HasStepped r.rules moment [] input acts r.state m.state m.told → StepsAlone r.rules moment input r.state m.state m.told
alone_taken moment input acts r m stepped = record { node = m.state.node; told = acts; steps = stepped.steps; proper = stepped.proper; after = stepped.after; lines = stepped.lines }

pub gone_heard : (result : Result (Unit {0}) Memory) (gone : Option Input) (moment : ℤ) (r m u : RunView) → gone ≡ gone_at r.state.place → m ≡ record r { state = moved_on r.state }
    → OnOk result (HearsIf gone m.rules moment m.state u.state u.told) → OnOk result (HearsGone r.rules moment r.state u.state u.told)
gone_heard result gone moment r m u is moved hears =
    let P : RunView → Type 0 = λ v. OnOk result (HearsIf gone v.rules moment v.state u.state u.told) in
    let Q : Option Input → Type 0 = λ g. OnOk result (HearsIf g r.rules moment (moved_on r.state) u.state u.told) in
    subst Q is (subst P moved hears)
