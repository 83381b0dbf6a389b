-- A machine's step: what flows to each side of the line goes on being said by the across end, and which breaches are told.
use Rattle.std.proofs.Common.{Bool, Err, List, None, Ok, Result, Some, [], ap, false, inl, inr, is_some, refl, subst, sym, true, ℕ, ◌+◌, ◌∙◌, ◌≡◌, ◌≢◌, ◌≤◌, ◌⊎◌}
use Rattle.std.specs.Borrow.{Bor}
use Rattle.std.proofs.lemmas.Bool.{false≢true}
use Rattle.law_one_standing.proofs.RestLine.{node_there}
use Rattle.line_step.proofs.Connecting.{none_of}
use Rattle.line_base.specs.declared.states.Side.{Side}
use Rattle.line_base.specs.declared.states.Side.TheVariants.{Entry, Exit}
use Rattle.board_record.specs.Maker.{Maker, next_id}
use Rattle.board_record.specs.declared.maker.IdsUsedUp.{IdsUsedUp}
use Rattle.board_record.specs.declared.record.Record.{Record}
use Rattle.board_record.specs.declared.sensed.Sensed.{Sensed}
use Rattle.line_link.specs.Flow.{coming}
use Rattle.line_link.specs.Link.{LinkParts, flow_to, number_of}
use Rattle.line_report.specs.declared.happening.Happening.{Happening}
use Rattle.node_core.specs.Desk.{Desk}
use Rattle.node_core.specs.Event.{Event, Nothing, Words, event_of, with_new}
use Rattle.node_core.specs.Node.{NodeState, desk_of}
use Rattle.node_core.specs.Sides.{is_open}
use Rattle.node_core.specs.Step.{Brings, entry_after, exit_after, machine_step}
use Rattle.node_core.specs.declared.act.Act.{Act}
use Rattle.node_core.specs.declared.input.Input.{Input}
use Rattle.node_core.specs.declared.input.Input.TheVariants as inputs
use Rattle.node_core.specs.declared.lane.Body.{Body}
use Rattle.node_core.specs.declared.lane.Lane.{Lane}
use Rattle.node_core.specs.declared.word.Word.{Word}
use Rattle.node_core.proofs.Offers.{OffersOf}
use Rattle.law_custody.specs.Pair.{Ghost}
use Rattle.law_machine_custody.specs.Flight.{AreOldest, unheard}
use Rattle.law_machine_custody.specs.Good.{Afar, Good}
use Rattle.law_machine_custody.specs.Scene.{Scene}
use Rattle.law_link_messages.specs.Fit.{AreFitActs, Fits, IsFitBody, IsFitEvent, IsFitInput, IsFitMaker, none_heard}
use Rattle.law_link_messages.proofs.Eventing.{event_of_fits}
use Rattle.law_link_messages.proofs.Saying.{step_fits, signals_fit}
use Rattle.line_step.specs.Numbered.{node_at}
use Rattle.line_step.specs.State.{LineState, machine_in}
use Rattle.line_step.specs.Steps.{MachineSteps, is_second, moment_of, read_by, unread_by}
use Rattle.line_step.specs.Together.{IsLineTogether}
use Rattle.line_step.specs.World.{end_of, link_at, link_of}
use Rattle.line_step.proofs.Changing.{step_changes}
use Rattle.line_step.proofs.Numbers.{machine_within, same_or_not}
use Rattle.law_one_standing.specs.Carried.{IsFitMachine}
use Rattle.law_one_standing.specs.Links.{AreWholeLinks, IsWholeLink}
use Rattle.law_one_standing.proofs.BlameLinks.{AreClear, acts_clear, none_free}
use Rattle.step_rules.proofs.BlameReady.{MayCall, is_ready, ready_words, step_hears_ready, step_stays}
use Rattle.law_one_standing.proofs.BlameWords.{AreSpoken, spoken_none, spoken_said, spoken_wrong}
use Rattle.law_one_standing.proofs.Carrying.{SaysAlone}
use Rattle.law_one_standing.proofs.Counting.{is_wrong_first, step_hears_all, across}
use Rattle.law_one_standing.proofs.FactsBlame.{IsNoWords, Leave, are_mild, at_none, at_one, heard_step_mild, quiet_step_mild, silent_step_mild, wrong_step_mild}
use Rattle.law_one_standing.proofs.Mirroring.{fit_desk}
use Rattle.law_one_standing.proofs.MirroringCall.{dry_down, dry_up}
use Rattle.law_one_standing.proofs.Plain.{node_next}
use Rattle.law_one_standing.proofs.WholeLinks.{numbered}
use Rattle.law_link_messages.proofs.SayingWhat.{both_said}
use Rattle.law_one_standing.proofs.Signalled.{signals_mild}
use Rattle.law_one_standing.proofs.LineMoves.{less_one}

-- ---- the bytes that wait at the two sides of each link, and what flows there

abbrev pub exits_of : LineState → ℕ → List ℕ
exits_of s link = (node_at s link).lane.exit_bytes

abbrev pub entries_of : LineState → ℕ → List ℕ
entries_of s link = (node_at s (link + 1)).lane.entry_bytes

-- whether the side of a link is not in its handshake
abbrev pub ready_of : LineState → ℕ → Side → Bool
ready_of s link Exit = is_ready Exit (node_at s link).lane.body
ready_of s link Entry = is_ready Entry (node_at s (link + 1)).lane.body

-- and so may tell the across one of boards
abbrev pub free_of : LineState → ℕ → Side → Bool
free_of s link side = ready_of s link (across side)

abbrev pub AreClearIn : (ℕ → Side → Type 0) → LineState → Type 0
AreClearIn Taint s = AreClear Taint (ready_of s) none_free (exits_of s) (entries_of s) s.world

-- whether a side of a machine may tell its neighbour of boards
abbrev pub frees_by : Body → Side → Bool
frees_by body side = is_ready side body

pub frees_there : (m : ℕ) (s : LineState) (node : NodeState) → machine_in m s ≡ Some node → (side : Side) → frees_by node.lane.body side ≡ true → free_of s (link_of m side) (across side) ≡ true
frees_there m s node there Exit is = ap (λ (n : NodeState). is_ready Exit n.lane.body) (node_there m s node there) ∙ is
frees_there m s node there Entry is =
    ap (λ (k : ℕ). is_ready Entry (node_at s k).lane.body) (less_one m (machine_within m s node there).0) ∙ ap (λ (n : NodeState). is_ready Entry n.lane.body) (node_there m s node there) ∙ is

-- ---- a machine's acts

pub acts_fit : (number m : ℕ) (input : Input) (before after : LineState) (told : List Happening) → number ≤ 1000000 → IsFitMachine before m → (steps : MachineSteps number m input before after told)
    → IsFitEvent (event_of steps.node.maker input steps.steps.lane.words) → AreFitActs steps.acts
acts_fit number m input before after told few fit steps fits =
    let node : NodeState = steps.node in
    let is : node_at before m ≡ node = node_there m before node steps.there in
    let desk : Desk = desk_of node (moment_of number) in
    let did : Fits (machine_step desk (unread_by m before.world) (event_of node.maker input steps.steps.lane.words) node.lane.body) =
    step_fits desk (unread_by m before.world) (event_of node.maker input steps.steps.lane.words) node.lane.body (fit_desk node number before m is few fit) fits (subst (λ (n : NodeState). IsFitBody n.lane.body) is fit.body) in
    let made : AreFitActs steps.steps.made = subst (λ (told : List Act). AreFitActs told) (sym steps.steps.lane.told) did.acts in
    subst (λ (told : List Act). AreFitActs told) (sym steps.steps.told) (both_said made (signals_fit node.bridge steps.next.lane.body))

-- bytes
abbrev pub is_bytes : Input → Bool
is_bytes (inputs.Bytes side piece) = true
is_bytes _ = false

-- what tells or asks a neighbour of a board is done where the session of that side stands
abbrev pub IsFree : (Side → Bool) → Input → Type 0
IsFree frees inputs.Forecast = frees Exit ≡ true
IsFree frees (inputs.Query barcode) = frees Entry ≡ true
IsFree frees _ = Unit {0}

new_no_words : (frees : Side → Bool) (answer : Result ℕ IdsUsedUp) (event : ℕ → Event) → ((id : ℕ) → IsNoWords frees (event id)) → IsNoWords frees (with_new answer event)
new_no_words frees (Ok id) event each = each id
new_no_words frees (Err why) event each = tt

no_words_in : (frees : Side → Bool) (maker : Maker) (input : Input) (heard : List Word) → is_bytes input ≡ false → IsFree frees input → IsNoWords frees (event_of maker input heard)
no_words_in frees maker (inputs.Bytes side piece) heard none free = absurd (false≢true (sym none))
no_words_in frees maker inputs.Forecast heard none free = free
no_words_in frees maker (inputs.Query barcode) heard none free = free
no_words_in frees maker (inputs.Insert barcode) heard none free = new_no_words frees (next_id maker) _ (λ id. tt)
no_words_in frees maker (inputs.Replace id) heard none free = new_no_words frees (next_id maker) _ (λ new. tt)
no_words_in frees maker _ heard none free = tt

without_words : (maker : Maker) (input : Input) (heard : List Word) → is_bytes input ≡ false → event_of maker input heard ≡ event_of maker input []
without_words maker (inputs.Bytes side piece) heard none = absurd (false≢true (sym none))
without_words maker _ heard none = refl

input_fits : (maker : Maker) (input : Input) (heard : List Word) → is_bytes input ≡ false → IsFitMaker maker → IsFitInput input → IsFitEvent (event_of maker input heard)
input_fits maker input heard none m i = subst (λ (e : Event). IsFitEvent e) (sym (without_words maker input heard none)) (event_of_fits maker input [] m i none_heard)

pub quiet_fit : (number m : ℕ) (input : Input) (before after : LineState) (told : List Happening) → is_bytes input ≡ false → IsFitInput input → number ≤ 1000000 → IsFitMachine before m → (steps : MachineSteps number m input before after told) → AreFitActs steps.acts
quiet_fit number m input before after told none fits few fit steps =
    acts_fit number m input before after told few fit steps
    (input_fits steps.node.maker input steps.steps.lane.words none (subst (λ (n : NodeState). IsFitMaker n.maker) (node_there m before steps.node steps.there) fit.maker) fits)

pub quiet_mild : (may : Leave) (number m : ℕ) (input : Input) (before after : LineState) (told : List Happening) → is_bytes input ≡ false → IsFree may.frees input → (steps : MachineSteps number m input before after told) → are_mild may steps.acts ≡ true
quiet_mild may number m input before after told none free steps =
    let node : NodeState = steps.node in
    ap (are_mild may) steps.steps.told ∙ signals_mild may steps.steps.made node.bridge steps.next.lane.body ∙ ap (are_mild may) steps.steps.lane.told
    ∙ quiet_step_mild may (desk_of node (moment_of number)) (unread_by m before.world) (event_of node.maker input steps.steps.lane.words) node.lane.body (no_words_in may.frees node.maker input steps.steps.lane.words none free)

-- ---- what flows behind its acts

pub step_clear : {Taint : ℕ → Side → Type 0} {ready free : ℕ → Side → Bool} {exits entries : ℕ → List ℕ} → SaysAlone → (may : Leave) (number m : ℕ) (input : Input) (before after : LineState) (told : List Happening) (steps : MachineSteps number m input before after told)
    → AreFitActs steps.acts → are_mild may steps.acts ≡ true → ((side : Side) → may.frees side ≡ true → free (link_of m side) (across side) ≡ true) → (is_second input ≡ true → entries m ≡ []) → AreWholeLinks before → AreClear Taint ready free exits entries before.world → AreClear Taint ready free exits entries after.world
step_clear {Taint} {ready} {free} {exits} {entries} alone may number m input before after told steps fit mild frees empty whole all =
    subst (λ (s : LineState). AreClear Taint ready free exits entries s.world) (sym steps.after_is)
    (acts_clear alone may (is_second input) m steps.acts (read_by m before.world) fit mild frees empty whole (record { at = all.at }))

-- ---- the bytes that wait behind a step without bytes

pub record NewBytes (m : ℕ) (input : Input) (before after : LineState) : Type 0 where
  pub others : (k : ℕ) → k ≢ m → node_at after k ≡ node_at before k
  pub entry : (node_at after m).lane.entry_bytes ≡ entry_after input (node_at before m).lane.entry_bytes
  pub exit : (node_at after m).lane.exit_bytes ≡ exit_after input (node_at before m).lane.exit_bytes

brings_of : (input : Input) (old new : Lane) (heard : List Word) → is_bytes input ≡ false → Brings input old new heard → (new.entry_bytes ≡ entry_after input old.entry_bytes) × (new.exit_bytes ≡ exit_after input old.exit_bytes)
brings_of (inputs.Bytes side piece) old new heard none brings = absurd (false≢true (sym none))
brings_of _ old new heard none brings = brings

pub others_stay : (number m : ℕ) (input : Input) (before after : LineState) (told : List Happening) → MachineSteps number m input before after told → (k : ℕ) → k ≢ m → node_at after k ≡ node_at before k
others_stay number m input before after told steps k apart = ap (λ st. st.node) ((step_changes number m input before after told steps).machines k apart)

pub new_bytes : (number m : ℕ) (input : Input) (before after : LineState) (told : List Happening) → is_bytes input ≡ false → MachineSteps number m input before after told → NewBytes m input before after
new_bytes number m input before after told none steps =
    let brings = brings_of input steps.node.lane steps.next.lane steps.steps.lane.words none steps.steps.lane.brings in
    let was : node_at before m ≡ steps.node = node_there m before steps.node steps.there in
    let now : node_at after m ≡ steps.next = node_next number m input before after told steps in
    record {
      others = others_stay number m input before after told steps;
      entry = ap (λ (n : NodeState). n.lane.entry_bytes) now ∙ brings.0 ∙ sym (ap (λ (n : NodeState). entry_after input n.lane.entry_bytes) was);
      exit = ap (λ (n : NodeState). n.lane.exit_bytes) now ∙ brings.1 ∙ sym (ap (λ (n : NodeState). exit_after input n.lane.exit_bytes) was);
    }

-- ---- a step in which words are heard

-- such acts breach at that side alone, and only where the text was spoiled
pub record AreMildAt (Taint : Type 0) (frees : Side → Bool) (side : Side) (told : List Act) : Type 0 where
  pub blames : Side → Bool
  pub mild : are_mild (record { blames = blames; frees = frees }) told ≡ true
  pub taints : (at : Side) → blames at ≡ true → (at ≡ side) × Taint

one_side : (side at : Side) → at_one side at ≡ true → at ≡ side
one_side Entry Entry is = refl
one_side Entry Exit is = absurd (false≢true is)
one_side Exit Entry is = absurd (false≢true is)
one_side Exit Exit is = refl

pub spoken_mild : {Taint : Type 0} {afar : Afar} {above : List Record} {ga gb : Ghost} (desk : Desk) (unread : List Sensed) (side : Side) (heard : List Word) (body : Body) (c : Scene) → AreOldest heard (unheard side c) → OffersOf body → Good afar above unread ga gb body c
    → AreSpoken Taint side (is_ready side body) heard → AreMildAt Taint (frees_by body) side (machine_step desk unread (Words side heard) body).acts
spoken_mild desk unread side _ body c oldest offers good spoken_none =
    record { blames = at_none; mild = silent_step_mild (record { blames = at_none; frees = frees_by body }) desk unread side body; taints = λ at is. absurd (false≢true is) }
spoken_mild {Taint} desk unread side heard body c oldest offers good (spoken_said s) =
    let told : List Word → List Act = λ (ws : List Word). (machine_step desk unread (Words side ws) body).acts in
    subst (λ (ws : List Word). AreMildAt Taint (frees_by body) side (told ws)) (sym s.are) (record {
      blames = at_none;
      mild = heard_step_mild (record { blames = at_none; frees = frees_by body }) desk unread side s.messages body c (subst (λ (ws : List Word). AreOldest ws (unheard side c)) s.are oldest) s.from (λ at is. is) offers good;
      taints = λ at is. absurd (false≢true is);
    })
spoken_mild desk unread side _ body c oldest offers good (spoken_wrong {text} {others} taint) =
    record { blames = at_one side; mild = wrong_step_mild (frees_by body) desk unread side text others body; taints = λ at is. (one_side side at is, taint) }

-- ---- which sides are ready behind it

-- a connection of a side begins a handshake
abbrev pub calls : Side → Input → Bool
calls Entry inputs.Connect = true
calls Exit inputs.Accepted = true
calls side _ = false

new_may_call : (side : Side) (answer : Result ℕ IdsUsedUp) (event : ℕ → Event) → ((id : ℕ) → MayCall side (event id)) → MayCall side Nothing → MayCall side (with_new answer event)
new_may_call side (Ok id) event each none = each id
new_may_call side (Err why) event each none = none

may_call_in : (side : Side) (maker : Maker) (input : Input) (heard : List Word) → calls side input ≡ false → MayCall side (event_of maker input heard)
may_call_in Entry maker inputs.Connect heard none = absurd (false≢true (sym none))
may_call_in Entry maker (inputs.Insert barcode) heard none = new_may_call Entry (next_id maker) _ (λ id. tt) tt
may_call_in Entry maker (inputs.Replace id) heard none = new_may_call Entry (next_id maker) _ (λ new. tt) tt
may_call_in Entry maker _ heard none = tt
may_call_in Exit maker inputs.Accepted heard none = absurd (false≢true (sym none))
may_call_in Exit maker (inputs.Insert barcode) heard none = new_may_call Exit (next_id maker) _ (λ id. tt) tt
may_call_in Exit maker (inputs.Replace id) heard none = new_may_call Exit (next_id maker) _ (λ new. tt) tt
may_call_in Exit maker _ heard none = tt

own_ready : (number m : ℕ) (input : Input) (side : Side) (before after : LineState) (told : List Happening) → MachineSteps number m input before after told → calls side input ≡ false
    → is_ready side (node_at before m).lane.body ≡ true → is_ready side (node_at after m).lane.body ≡ true
own_ready number m input side before after told steps none is =
    let node : NodeState = steps.node in
    let was : is_ready side node.lane.body ≡ true = ap (λ (n : NodeState). is_ready side n.lane.body) (sym (node_there m before node steps.there)) ∙ is in
    ap (λ (n : NodeState). is_ready side n.lane.body) (node_next number m input before after told steps) ∙ ap (is_ready side) steps.steps.lane.body
    ∙ (step_stays side (desk_of node (moment_of number)) (unread_by m before.world) (event_of node.maker input steps.steps.lane.words) node.lane.body (may_call_in side node.maker input steps.steps.lane.words none)).ready was

-- at a machine that makes no step
pub still_ready : (number m : ℕ) (input : Input) (side : Side) (before after : LineState) (told : List Happening) → MachineSteps number m input before after told → (k : ℕ) → k ≢ m → is_ready side (node_at before k).lane.body ≡ true → is_ready side (node_at after k).lane.body ≡ true
still_ready number m input side before after told steps k apart is = ap (λ (n : NodeState). is_ready side n.lane.body) (ap (λ st. st.node) ((step_changes number m input before after told steps).machines k apart)) ∙ is

each_ready : (number m : ℕ) (input : Input) (side : Side) (before after : LineState) (told : List Happening) → MachineSteps number m input before after told → calls side input ≡ false → (k : ℕ)
    → is_ready side (node_at before k).lane.body ≡ true → is_ready side (node_at after k).lane.body ≡ true
each_ready number m input side before after told steps none k = by (same_or_not k m)
  where
    by : (k ≡ m) ⊎ (k ≢ m) → is_ready side (node_at before k).lane.body ≡ true → is_ready side (node_at after k).lane.body ≡ true
    by (inl same) is = ap (λ (n : ℕ). is_ready side (node_at after n).lane.body) same ∙ own_ready number m input side before after told steps none (ap (λ (n : ℕ). is_ready side (node_at before n).lane.body) (sym same) ∙ is)
    by (inr apart) is = still_ready number m input side before after told steps k apart is

pub exits_ready : (number m : ℕ) (input : Input) (before after : LineState) (told : List Happening) → MachineSteps number m input before after told → calls Exit input ≡ false → (link : ℕ) → ready_of before link Exit ≡ true → ready_of after link Exit ≡ true
exits_ready number m input before after told steps none link is = each_ready number m input Exit before after told steps none link is

pub entries_ready : (number m : ℕ) (input : Input) (before after : LineState) (told : List Happening) → MachineSteps number m input before after told → calls Entry input ≡ false → (link : ℕ) → ready_of before link Entry ≡ true → ready_of after link Entry ≡ true
entries_ready number m input before after told steps none link is = each_ready number m input Entry before after told steps none (link + 1) is

pub both_ready : (number m : ℕ) (input : Input) (before after : LineState) (told : List Happening) → MachineSteps number m input before after told → calls Exit input ≡ false → calls Entry input ≡ false
    → (link : ℕ) (side : Side) → ready_of before link side ≡ true → ready_of after link side ≡ true
both_ready number m input before after told steps out into link Exit is = exits_ready number m input before after told steps out link is
both_ready number m input before after told steps out into link Entry is = entries_ready number m input before after told steps into link is

-- a side is ready behind words that make it so
pub heard_ready : (number m : ℕ) (side : Side) (piece : Bor (List ℕ)) (start after : LineState) (told : List Happening) (steps : MachineSteps number m (inputs.Bytes side piece) start after told)
    → ready_words side (is_ready side steps.node.lane.body) steps.steps.lane.words ≡ true → is_ready side steps.next.lane.body ≡ true
heard_ready number m side piece start after told steps is =
    ap (is_ready side) steps.steps.lane.body ∙ step_hears_ready (desk_of steps.node (moment_of number)) (unread_by m start.world) side steps.steps.lane.words steps.node.lane.body is

-- a side that is open behind the step has heard no wrong word first
pub heard_good : (number m : ℕ) (side : Side) (piece : Bor (List ℕ)) (start after : LineState) (told : List Happening) (steps : MachineSteps number m (inputs.Bytes side piece) start after told)
    → is_open side steps.next.lane.body ≡ true → is_wrong_first steps.steps.lane.words ≡ false
heard_good number m side piece start after told steps on =
    let node : NodeState = steps.node in
    let lane = steps.steps.lane in
    (step_hears_all side (desk_of node (moment_of number)) (unread_by m start.world) lane.words node.lane.body (sym (ap (λ (b : Body). is_open side b) lane.body) ∙ on)).good

-- ---- a side without a connection

not_true : (test : Bool) → (test ≡ true → true ≡ false) → test ≡ false
not_true false then = refl
not_true true then = then refl

-- its link doesn't stand, and nothing comes
pub record IsShut (side : Side) (link : LinkParts) : Type 0 where
  pub off : link.stands ≡ false
  pub none : coming (flow_to (end_of side) link) ≡ []

shut_dry : (side : Side) (link : LinkParts) → IsWholeLink link → number_of (end_of side) link ≡ None → coming (flow_to (end_of side) link) ≡ []
shut_dry Exit link whole none = dry_up link whole none
shut_dry Entry link whole none = dry_down link whole none

pub is_shut : (m : ℕ) (side : Side) (s : LineState) (node : NodeState) → IsLineTogether s → AreWholeLinks s → machine_in m s ≡ Some node → is_open side node.lane.body ≡ false → IsShut side (link_at (link_of m side) s.world)
is_shut m side s node together whole there shut =
    let link : LinkParts = link_at (link_of m side) s.world in
    let off : is_some (number_of (end_of side) link) ≡ false = together.joined m side node there ∙ shut in
    record {
      off = not_true link.stands (λ on. sym (numbered (end_of side) link (whole (link_of m side)) on) ∙ off);
      none = shut_dry side link (whole (link_of m side)) (none_of (number_of (end_of side) link) off);
    }
