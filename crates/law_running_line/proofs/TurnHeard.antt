-- The words that a turn's bytes bring are the oldest messages on their way to their side.
use Rattle.std.proofs.Common.{Bool, List, Some, ap, slice_get, subst, sym, ℕ, ℤ, ◌++◌, ◌+◌, ◌∙◌, ◌∷◌, ◌≡◌, length}
use Rattle.std.specs.Prelude.{drop, take}
use Rattle.std.proofs.lemmas.List.{take-append-drop}
use Rattle.law_running_line.proofs.WiresParts.{bytes_both}
use Rattle.line_base.specs.declared.states.Side.TheVariants.{Entry, Exit}
use Rattle.hermes_horizontal.specs.declared.message.Horizontal.{Horizontal}
use Rattle.node_core.specs.Node.{NodeState}
use Rattle.node_core.specs.Words.{AreWords}
use Rattle.node_core.specs.declared.act.Act.{Act}
use Rattle.node_core.specs.declared.input.Input.{Input}
use Rattle.node_core.specs.declared.input.Input.TheVariants as inputs
use Rattle.node_core.specs.declared.word.Word.{Word}
use Rattle.law_custody.specs.Bytes.{Flows, texts_of}
use Rattle.law_link_messages.specs.Fit.{AreFitWords}
use Rattle.law_link_messages.specs.Heard.{Heard}
use Rattle.law_machine_custody.specs.Flight.{AreOldest}
use Rattle.law_one_standing.specs.Carried.{Trace}
use Rattle.law_one_standing.proofs.Carrying.{SaysAlone}
use Rattle.law_one_standing.proofs.MirroringEnds.{before_one}
use Rattle.law_running_line.specs.Reading.{Reading}
use Rattle.law_running_line.specs.Running.{Running}
use Rattle.law_running_line.specs.Stands.{Carries, Stands}
use Rattle.law_running_line.specs.Steady.{scene_of}
use Rattle.law_running_line.specs.Turns.{Turns}
use Rattle.law_running_line.specs.Wire.{Coming, Wire, bytes_of}
use Rattle.law_running_line.proofs.TurnLeaves.{IsHeard}
use Rattle.law_running_line.proofs.TurnShape.{own_node}
use Rattle.law_running_line.proofs.Waiting.{all_at}

-- ---- a piece is a front of what is on its way

front_bytes : (n : ℕ) (piece : List ℕ) (coming : List Coming) → piece ≡ bytes_of (take n coming) → bytes_of coming ≡ piece ++ bytes_of (drop n coming)
front_bytes n piece coming is = ap bytes_of (sym (take-append-drop n coming)) ∙ bytes_both (take n coming) (drop n coming) ∙ ap (λ (front : List ℕ). front ++ bytes_of (drop n coming)) (sym is)

heard_by : SaysAlone → (old piece new : List ℕ) (still : Bool) (words : List Word) (coming : List Coming) (messages : List Horizontal) → piece ≡ bytes_of (take (length piece) coming) → Carries old coming messages → AreWords old piece new still words
    → AreOldest words messages × AreFitWords words
heard_by alone old piece new still words coming messages front k are =
    let later : List ℕ = bytes_of (drop (length piece) coming) in
    let all : Flows old (piece ++ later) (texts_of k.said) = subst (λ (bytes : List ℕ). Flows old bytes (texts_of k.said)) (front_bytes (length piece) piece coming front) k.flows in
    let sayable = alone.sayable k.said k.fit in
    let heard : Heard k.said words new later still = alone.oldest old piece later new still words k.said sayable all are in
    (subst (λ (ms : List Horizontal). AreOldest words ms) (sym k.are) heard.oldest, alone.fit_words old piece later new still words k.said sayable k.fit all are)

-- ---- of each input

pub heard_in : SaysAlone → (j : ℕ) (input : Input) {reading : Reading} {moment : ℤ} {before after : Running} {told : List Act} (t : Trace) → Stands t before → (turn : Turns reading (j + 1) input moment before after told) → IsHeard input turn.steps.lane.words (scene_of t before j)
heard_in alone j (inputs.Bytes Entry piece) {before = before} t st turn =
    let wire : Wire = turn.meets.at.wire in
    let there : slice_get (before.wires j) turn.place ≡ Some wire = subst (λ (n : ℕ). slice_get (before.wires n) turn.place ≡ Some wire) (before_one j) turn.meets.at.there in
    let carries : Carries turn.node.lane.entry_bytes wire.down (t.down j) =
    subst (λ (n : NodeState). Carries n.lane.entry_bytes wire.down (t.down j)) (own_node turn) (all_at _ wire (before.wires j) turn.place there (st.carried j).down turn.meets.at.held) in
    heard_by alone turn.node.lane.entry_bytes piece.now turn.next.lane.entry_bytes _ turn.steps.lane.words wire.down (t.down j) turn.meets.front carries turn.steps.lane.brings.0
heard_in alone j (inputs.Bytes Exit piece) {before = before} t st turn =
    let wire : Wire = turn.meets.at.wire in
    let carries : Carries turn.node.lane.exit_bytes wire.up (t.up (j + 1)) =
    subst (λ (n : NodeState). Carries n.lane.exit_bytes wire.up (t.up (j + 1))) (own_node turn) (all_at _ wire (before.wires (j + 1)) turn.place turn.meets.at.there (st.carried (j + 1)).up turn.meets.at.held) in
    heard_by alone turn.node.lane.exit_bytes piece.now turn.next.lane.exit_bytes _ turn.steps.lane.words wire.up (t.up (j + 1)) turn.meets.front carries turn.steps.lane.brings.0
heard_in alone j input t st turn = tt
