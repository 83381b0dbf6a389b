-- What a shift leaves: the record that comes to the one lane is the one that the machine kept on the
-- other.
use Rattle.std.proofs.Common.{◌≡◌, ◌∙◌, ◌==◌, ℕ, Bool, true, false, List, [], ◌∷◌, Some, length, take, refl, sym, ap, subst, arith, eqb-true}
use Rattle.std.specs.Prelude.{if◌then◌else◌}
use Rattle.board_record.specs.declared.record.Record.{Record}
use Rattle.node_core.specs.Boards.{first_kept, is_kept}
use Rattle.node_core.specs.Desk.{Desk}
use Rattle.node_core.specs.Node.{NodeState, desk_of}
use Rattle.node_core.specs.Reads.{all_read}
use Rattle.node_core.specs.declared.input.Input.TheVariants as inputs
use Rattle.node_core.specs.declared.lane.Body.{Body}
use Rattle.line_report.specs.declared.happening.LaneHappening.{LaneHappening}
use Rattle.line_step.specs.Lines.{Unless}
use Rattle.line_step.specs.Numbered.{node_at}
use Rattle.line_step.specs.Reasons.{May}
use Rattle.line_step.specs.Runs.{Point, state_behind}
use Rattle.line_step.specs.State.{LineState, no_line}
use Rattle.line_step.specs.Steps.{MachineSteps, moment_of, unread_by}
use Rattle.law_one_standing.proofs.Carrying.{SaysAlone}
use Rattle.law_one_standing.proofs.Connected.{connects_bear}
use Rattle.law_one_standing.proofs.LedgerLine.{same_nodes}
use Rattle.law_one_standing.proofs.LineRun.{AreStood, Stood, are_stood, none_stood, run_by}
use Rattle.law_one_standing.proofs.RestLine.{node_there}
use Rattle.law_sentences.specs.Records.{In, in_first, in_later}
use Rattle.law_sentences.proofs.Hands.{IsOneRecord, one_record_of}
use Rattle.law_sentences.proofs.Pieces.{HasIn, has_kept, read_has}
use Rattle.law_lanes.specs.Lanes.{Lanes, track}
use Rattle.law_lanes.specs.Parts.{LanePoint}
use Rattle.law_lanes.specs.Views.{has_lie_on}
use Rattle.law_lanes.proofs.Moving.{IsShifted}
use Rattle.law_lanes.proofs.Points.{TrackTo, take_past, whole_honest}
use Rattle.law_lanes.proofs.Walk.{Along}
use Rattle.law_lane_shifts.specs.Shifted.{KeepsLast, LeavesRecord}
use Rattle.law_lane_shifts.proofs.Announcing.{gets_last}

-- ---- a machine has one record of a board

last_stood : (points : List Point) (s : LineState) → Stood s → AreStood points
    → Stood (state_behind s points)
last_stood [] s was all = was
last_stood (point ∷ points) s was all = last_stood points point.after all.0 all.1

one_on : SaysAlone → (lane : ℕ) (past : List LanePoint) (s : Lanes) → TrackTo lane past s
    → has_lie_on past ≡ false → (machine : ℕ)
    → IsOneRecord (node_at (track lane s) machine).lane.body
one_on alone lane past s t none machine =
    let whole = whole_honest lane past s t none in
    let n = length t.own in
    let all = t.honest n (ap has_lie_on (take_past n past (omega (arith, t.points_many))) ∙ none) in
    let each =
    run_by alone connects_bear [] no_line t.asked t.own n whole.fit t.short none_stood t.run
    all.0.told all.0.newcomers in
    let stood : AreStood t.own =
    subst (λ (ps : List Point). AreStood ps) (take_past n t.own (omega arith))
    (are_stood [] (take n t.own) each) in
    let last : Stood (track lane s) =
    subst (λ (b : LineState). Stood b) t.behind
    (last_stood t.own no_line none_stood.stood stood) in
    one_record_of machine last.stands

-- ---- the first record of an id

first_by : (id : ℕ) (first : Record) (boards : List Record) (board : Record) (same : Bool)
    → (first_kept id boards ≡ Some board → In board boards)
    → (if same then Some first else first_kept id boards) ≡ Some board → In board (first ∷ boards)
first_by id first boards board true later is =
    let own : board ≡ first = cc in
    in_first own
first_by id first boards board false later is = in_later (later is)

first_in : (id : ℕ) (kept : List Record) (board : Record) → first_kept id kept ≡ Some board
    → In board kept
first_in id [] board is = cc
first_in id (first ∷ boards) board is =
    first_by id first boards board (first.id == id) (first_in id boards board) is

record KeepsOne (id : ℕ) (kept : List Record) : Type 0 where
  board : Record
  there : In board kept
  named : board.id ≡ id

one_by : (id : ℕ) (first : Record) (boards : List Record) (same : Bool) → (first.id == id) ≡ same
    → (is_kept id boards ≡ true → KeepsOne id boards)
    → (if same then true else is_kept id boards) ≡ true → KeepsOne id (first ∷ boards)
one_by id first boards true here later is =
    record { board = first; there = in_first refl; named = eqb-true first.id id here }
one_by id first boards false here later is =
    let one = later is in
    record { board = one.board; there = in_later one.there; named = one.named }

one_kept : (id : ℕ) (kept : List Record) → is_kept id kept ≡ true → KeepsOne id kept
one_kept id [] is = cc
one_kept id (first ∷ boards) is =
    one_by id first boards (first.id == id) refl (one_kept id boards) is

-- ---- THE SHIFT

same_last : (s t : LineState) (machine : ℕ) (board : Record) → t.machines ≡ s.machines
    → KeepsLast s machine board → KeepsLast t machine board
same_last s t machine board same last =
    record {
      others = last.others;
      is = ap (λ (n : NodeState). n.lane.body.kept) (same_nodes s t same machine) ∙ last.is;
    }

pub shift_leaves : SaysAlone → (number : ℕ) (past : List LanePoint) (s next after : Lanes)
    (done : List LaneHappening) → Along past s → has_lie_on past ≡ false
    → (shift : IsShifted number s next done)
    → (track shift.to after).machines ≡ (track shift.to next).machines
    → LeavesRecord shift.machine shift.from shift.to shift.id s after
shift_leaves alone number past s next after done all none shift same =
    let giver : LineState = track shift.from s in
    let machine : ℕ = shift.machine in
    let body : Body = shift.node.lane.body in
    let node_is : node_at giver machine ≡ shift.node = node_there machine giver shift.node shift.there in
    let one : IsOneRecord body =
    subst (λ (n : NodeState). IsOneRecord n.lane.body) node_is
    (one_on alone shift.from past s (all.tracks shift.from shift.may.giver.0) none machine) in
    let desk : Desk = desk_of shift.node (moment_of number) in
    let unread = unread_by machine giver.world in
    let has : HasIn shift.board body =
    read_has desk unread body shift.board
    (has_kept (first_in shift.id (all_read desk unread body).body.kept shift.board shift.is)) in
    let was : KeepsOne shift.id body.kept = one_kept shift.id body.kept shift.kept in
    let own : shift.board ≡ was.board =
    one was.board shift.board (has_kept was.there) has (was.named ∙ sym shift.own) in
    let steps : MachineSteps number machine (inputs.Gets shift.board) (track shift.to s) (track shift.to next) shift.taken =
    subst (λ (may : May). Unless may (track shift.to s) (track shift.to next) shift.taken
    (MachineSteps number machine (inputs.Gets shift.board) (track shift.to s) (track shift.to next)
    shift.taken)) shift.may.takes shift.gets in
    record {
      board = shift.board;
      named = shift.own;
      was =
          subst (λ (n : NodeState). In shift.board n.lane.body.kept) (sym node_is)
          (subst (λ (r : Record). In r body.kept) (sym own) was.there);
      one = λ q kept named.
          one shift.board q has
          (has_kept (subst (λ (n : NodeState). In q n.lane.body.kept) node_is kept))
          (shift.own ∙ sym named);
      now =
          same_last (track shift.to next) (track shift.to after) machine shift.board same
          (gets_last number machine shift.board (track shift.to s) (track shift.to next) shift.taken
          steps);
    }
