-- CONTENTS ARE KEPT: over each line of a script each machine has of a board what it had, but for the quality of a mark.
use Rattle.std.proofs.Common.{List, Option, [], ap, arith, inl, inr, length, refl, subst, suc, sym, take, zero, ℕ, ◌++◌, ◌+◌, ◌-◌, ◌∙◌, ◌∷◌, ◌≡◌, ◌≢◌, ◌≤◌, ◌⊎◌, Bool}
use Rattle.board_record.specs.declared.record.Record.{Record}
use Rattle.line_base.specs.declared.states.Side.{Side}
use Rattle.line_link.specs.Link.{connected_of}
use Rattle.line_link.specs.declared.link.Connected.{Connected}
use Rattle.line_report.specs.declared.happening.Happening.{Happening}
use Rattle.node_core.specs.Node.{NodeState}
use Rattle.node_core.specs.declared.input.Input.{Input}
use Rattle.node_core.specs.declared.input.Input.TheVariants as inputs
use Rattle.node_core.specs.declared.lane.Body.{Body}
use Rattle.node_core.specs.declared.lane.Lane.{Lane}
use Rattle.line_step.proofs.Beside.{beside-lane}
use Rattle.line_step.specs.Lines.{Connects, Flows, LineSteps, arrived, connecting, met as met_on}
use Rattle.line_step.specs.Numbered.{ChangesMachine, Stand, no_node, node_at}
use Rattle.line_step.specs.Tracks.{IsBeside, TrackLine, TrackSteps, asked_on, other_line, own_line}
use Rattle.line_step.specs.Runs.{IsRun, Point}
use Rattle.line_step.specs.Shown.{standings_told}
use Rattle.line_step.specs.State.{LineState, no_line, one_more}
use Rattle.line_step.specs.Steps.{MachineSteps}
use Rattle.line_step.specs.World.{link_at}
use Rattle.line_step.proofs.Changing.{more_changes, step_changes}
use Rattle.line_step.proofs.Numbers.{machine_within, same_or_not}
use Rattle.line_step.specs.Requests.{Request}
use Rattle.line_step.proofs.Turns.{LineTurns, line_turns}
use Rattle.line_step.proofs.Turns as turns
use Rattle.line_step.specs.Requests as requests
use Rattle.smema_bridge.specs.declared.line.SegmentLine.{SegmentLine}
use Rattle.std.specs.Prelude.{slice_get}
use Rattle.step_rules.specs.Makers.{IsOld}
use Rattle.step_rules.proofs.Makers.{AreNumbered}
use Rattle.law_one_standing.specs.Carried.{Trace}
use Rattle.law_sentences.specs.Records.{In, AreContentsKept, ContentsAreKept, KeepsContents, IsChanged, by_mark, by_sub}
use Rattle.law_one_standing.specs.Stands.{Stands}
use Rattle.law_one_standing.specs.Told.{IsTold}
use Rattle.law_one_standing.proofs.ApartStep.{told_before, told_behind}
use Rattle.law_one_standing.proofs.Carrying.{SaysAlone}
use Rattle.law_one_standing.proofs.LedgerLine.{same_nodes}
use Rattle.law_one_standing.proofs.LineForms.{ConnectsBear}
use Rattle.law_one_standing.proofs.LineRun.{AreStood, AreStoodBy, Stood, StoodBy, are_stood, none_stood, run_by}
use Rattle.line_step.specs.Homes.{AreNewcomers, IsNewcomer}
use Rattle.law_sentences.specs.Contents.{AreContentsWhole, ChangesFrontAlone, ContentsStayWhole, HasRecord, IsFailedFront, StaysWhole}
use Rattle.law_sentences.proofs.Hands.{BringsNew, IsOneRecord, brings_new, front_whole, Starting, Whole, has_none, held_has, machine_whole, met_whole, starting_of, taking_has, whole_itself}
use Rattle.law_sentences.proofs.There.{past}
use Rattle.law_sentences.proofs.Pieces.{HasIn, has_kept}

-- each machine of a line
abbrev AreWhole : List Happening → LineState → LineState → Type 0
AreWhole told before after =
    (machine : ℕ) → Whole told machine (node_at before machine).lane.body (node_at after machine).lane.body

-- a machine whose body stays
stays_whole : {told : List Happening} {machine : ℕ} {was now : Body} → IsOneRecord was → now ≡ was → Whole told machine was now
stays_whole {told} {machine} {was} one is = subst (λ (b : Body). Whole told machine was b) (sym is) (whole_itself one)

same_whole : (told : List Happening) (before after : LineState) → Starting before → ((machine : ℕ) → (node_at after machine).lane.body ≡ (node_at before machine).lane.body) → AreWhole told before after
same_whole told before after a nodes = λ machine. stays_whole (a.one machine) (nodes machine)

-- the step of one machine
step_whole : (number m : ℕ) (input : Input) (before after : LineState) (told : List Happening) → Starting before → BringsNew (requests.gives m input) before → MachineSteps number m input before after told → AreWhole told before after
step_whole number m input before after told a new steps = λ machine. by machine (same_or_not machine m) where
  by : (machine : ℕ) → (machine ≡ m) ⊎ (machine ≢ m) → Whole told machine (node_at before machine).lane.body (node_at after machine).lane.body
  by machine (inl is) = subst (λ (n : ℕ). Whole told n (node_at before n).lane.body (node_at after n).lane.body) (sym is) (machine_whole number m input before after told a new steps)
  by machine (inr apart) = stays_whole (a.one machine) (ap (λ (x : Stand). x.node.lane.body) ((step_changes number m input before after told steps).machines machine apart))

-- the same machines start so
starting_same : (s t : LineState) → t.machines ≡ s.machines → Starting s → Starting t
starting_same s t is a = record {
  one = λ machine. subst (λ (n : NodeState). IsOneRecord n.lane.body) (sym (same_nodes s t is machine)) (a.one machine);
  own = subst (λ (ns : List NodeState). AreNumbered 1 ns) (sym is) a.own;
  olds = λ machine q has. subst (λ (ns : List NodeState). IsOld 1 ns q.id) (sym is) (a.olds machine q (subst (λ (n : NodeState). HasIn q n.lane.body) (same_nodes s t is machine) has));
}

from_same : (told : List Happening) (s start next : LineState) → start.machines ≡ s.machines → AreWhole told start next → AreWhole told s next
from_same told s start next is whole = λ machine. subst (λ (n : NodeState). Whole told machine n.lane.body (node_at next machine).lane.body) (same_nodes s start is machine) (whole machine)

-- what is told is told among more
more_told : {told all : List Happening} {machine : ℕ} {was now : Body} → ((h : Happening) → IsTold h told → IsTold h all) → Whole told machine was now → Whole all machine was now
more_told each whole = record {
  kept = λ q p has i same. elim (whole.kept q p has i same) [
    | inl is ↦ inl is
    | inr (inl mark) ↦ inr (inl (record { quality = mark.quality; marks = each _ mark.marks; is = mark.is }))
    | inr (inr sub) ↦ inr (inr (record { place = sub.place; barcode = sub.barcode; tells = each _ sub.tells; is = sub.is }))
  ];
  out = λ q p has is same. whole.out q p has is same;
}

-- ---- the forms

connects_whole : (number m : ℕ) (before next : LineState) (told : List Happening) → Starting before → Connects number m before next told → AreWhole told before next
connects_whole number m before next told a twice =
    let start : LineState = connecting m before in
    let on : Connected = connected_of (link_at (m - 1) before.world).upstream in
    let b : Starting start = starting_same before start refl a in
    let counted : 1 ≤ m = (machine_within m start twice.first.node twice.first.there).0 in
    let beside : m - 1 ≢ m = omega (arith, counted) in
    let early : ChangesMachine m start twice.between = step_changes number m inputs.Connect start twice.between twice.earlier twice.first in
    let late : ChangesMachine (m - 1) twice.between next = step_changes number (m - 1) (met_on on) twice.between next twice.later twice.second in
    let one : AreWhole twice.earlier start twice.between = step_whole number m inputs.Connect start twice.between twice.earlier b tt twice.first in
    let above : node_at twice.between (m - 1) ≡ node_at start (m - 1) = ap (λ (x : Stand). x.node) (early.machines (m - 1) beside) in
    let single : IsOneRecord (node_at twice.between (m - 1)).lane.body = subst (λ (n : NodeState). IsOneRecord n.lane.body) (sym above) (b.one (m - 1)) in
    let two : Whole twice.later (m - 1) (node_at twice.between (m - 1)).lane.body (node_at next (m - 1)).lane.body = met_whole number (m - 1) on twice.between next twice.later single twice.second in
    from_same told before start next refl (λ machine. elim (same_or_not machine (m - 1)) [
      | inl is ↦ subst (λ (n : ℕ). Whole told n (node_at start n).lane.body (node_at next n).lane.body) (sym is) (subst (λ (x : NodeState). Whole told (m - 1) x.lane.body (node_at next (m - 1)).lane.body) above (more_told (λ h is_told. later_told h is_told) two))
      | inr apart ↦ subst (λ (x : NodeState). Whole told machine (node_at start machine).lane.body x.lane.body) (sym (ap (λ (x : Stand). x.node) (late.machines machine apart))) (more_told (λ h is_told. early_told h is_told) (one machine))
    ]) where
      early_told : (h : Happening) → IsTold h twice.earlier → IsTold h told
      early_told h is = subst (λ (all : List Happening). IsTold h all) (sym twice.told_is) (told_before twice.later is)

      later_told : (h : Happening) → IsTold h twice.later → IsTold h told
      later_told h is = subst (λ (all : List Happening). IsTold h all) (sym twice.told_is) (told_behind twice.earlier is)

flows_whole : (number m : ℕ) (side : Side) (count : Option ℕ) (before next : LineState) (told : List Happening) → Starting before → Flows number m side count before next told → AreWhole told before next
flows_whole number m side count before next told a flows =
    let start : LineState = arrived m side count before in
    from_same told before start next refl (step_whole number m (inputs.Bytes side flows.piece) start next told (starting_same before start refl a) tt flows.steps)

more_body : (lane : ℕ) (is_bridge : Bool) (capacity used : ℕ) (s : LineState) (machine : ℕ) → machine ≢ length s.machines + 1 → (node_at (one_more lane is_bridge capacity used s) machine).lane.body ≡ (node_at s machine).lane.body
more_body lane is_bridge capacity used s machine apart = ap (λ (x : Stand). x.node.lane.body) ((more_changes lane is_bridge capacity used s).machines machine apart)

-- one machine more has no record, and beyond the end of the line there was none
none_whole : {told : List Happening} {machine : ℕ} {was now : Body} → was ≡ no_node.lane.body → Whole told machine was now
none_whole {told} {machine} {was} {now} is = record {
  kept = λ q p has i same. has_none q (subst (λ (b : Body). HasIn q b) is has);
  out = λ q p has held_is same. has_none q (subst (λ (b : Body). HasIn q b) is has);
}

adds_whole : (told : List Happening) (lane : ℕ) (is_bridge : Bool) (capacity used : ℕ) (before : LineState) → Starting before → AreWhole told before (one_more lane is_bridge capacity used before)
adds_whole told lane is_bridge capacity used before a = λ machine. elim (same_or_not machine (length before.machines + 1)) [
  | inl is ↦ none_whole (ap (λ (n : NodeState). n.lane.body) (past before machine (omega (arith, is))))
  | inr apart ↦ stays_whole (a.one machine) (more_body lane is_bridge capacity used before machine apart)
]

after_whole : (told : List Happening) (before next after : LineState) → after ≡ next → AreWhole told before next → AreWhole told before after
after_whole told before next after is whole = subst (λ (s : LineState). AreWhole told before s) (sym is) whole

turns_whole : (number : ℕ) (request : Request) (before next : LineState) (told : List Happening) → Starting before → BringsNew request before → LineTurns number before next told request → AreWhole told before next
turns_whole number request before next told a new (turns.stays _ same none) = same_whole told before next a (λ machine. ap (λ (n : NodeState). n.lane.body) (same_nodes before next same machine))
turns_whole number request before next told a new (turns.adds lane is_bridge capacity used may b) = after_whole told before (one_more lane is_bridge capacity used before) next b.after_is (adds_whole told lane is_bridge capacity used before a)
turns_whole number request before next told a new (turns.steps m input given may did) = step_whole number m input before next told a new did
turns_whole number request before next told a new (turns.connects m may did) = connects_whole number m before next told a did
turns_whole number request before next told a new (turns.flows m side count may did) = flows_whole number m side count before next told a did

-- EACH LINE
has_in : (s : LineState) (machine : ℕ) (q : Record) → HasRecord s machine q → HasIn q (node_at s machine).lane.body
has_in s machine q (inl i) = has_kept i
has_in s machine q (inr (inl out)) = held_has (node_at s machine).lane.body q out
has_in s machine q (inr (inr into)) = taking_has (node_at s machine).lane.body q into

pub line_whole : (t : Trace) (number : ℕ) (request : Request) (before after : LineState) (told : List Happening) → Stands t before → BringsNew request before → LineSteps number request before after told → StaysWhole told before after
line_whole t number request before after told st new steps =
    let same : after.machines ≡ steps.next.machines = ap (λ (s : LineState). s.machines) steps.after_is in
    let next : AreWhole steps.done before steps.next = turns_whole number request before steps.next steps.done (starting_of st) new (line_turns number request before steps.next steps.done steps.does) in
    let each : (h : Happening) → IsTold h steps.done → IsTold h told = λ h is. subst (λ (all : List Happening). IsTold h all) (sym steps.told_is) (told_before (standings_told before steps.next) is) in
    let whole : AreWhole told before after = λ machine. subst (λ (n : NodeState). Whole told machine (node_at before machine).lane.body n.lane.body) (sym (same_nodes steps.next after same machine)) (more_told each (next machine)) in
    record {
      kept = λ machine was now has i ids. (whole machine).kept was now (has_in before machine was has) i ids;
      held = λ machine was now has is ids. (whole machine).out was now (has_in before machine was has) is ids;
    }

-- a line that sets a level
level_front : (number m : ℕ) (level : SegmentLine) (on : Bool) (before next : LineState) (told : List Happening) → Starting before → LineTurns number before next told (requests.gives m (inputs.Level level on))
    → (q p : Record) → HasIn q (node_at before m).lane.body → In p (node_at next m).lane.body.kept → q.id ≡ p.id → (p ≡ q) ⊎ IsFailedFront before next m q p
level_front number m level on before next told a (turns.stays _ same none) q p has i ids =
    inl (a.one m q p has (has_kept (subst (λ (n : NodeState). In p n.lane.body.kept) (same_nodes before next same m) i)) ids)
level_front number m level on before next told a (turns.steps _ _ given may did) q p has i ids = front_whole number m level on before next told (a.one m) did q p has i ids

front_alone : (t : Trace) (number : ℕ) (request : Request) (before after : LineState) (told : List Happening) → Stands t before → LineSteps number request before after told → ChangesFrontAlone request before after
front_alone t number (requests.gives m (inputs.Level level on)) before after told st steps = λ was now has i ids. by was now has i ids where
  is : node_at after m ≡ node_at steps.next m
  is = same_nodes steps.next after (ap (λ (s : LineState). s.machines) steps.after_is) m

  back : (was now : Record) → (now ≡ was) ⊎ IsFailedFront before steps.next m was now → (now ≡ was) ⊎ IsFailedFront before after m was now
  back was now (inl same) = inl same
  back was now (inr front) = inr (record { first = ap (λ (n : NodeState). slice_get n.lane.body.kept 0) is ∙ front.first; is = front.is; untouched = front.untouched })

  by : (was now : Record) → HasRecord before m was → In now (node_at after m).lane.body.kept → was.id ≡ now.id → (now ≡ was) ⊎ IsFailedFront before after m was now
  by was now has i ids =
      back was now (level_front number m level on before steps.next steps.done (starting_of st) (line_turns number (requests.gives m (inputs.Level level on)) before steps.next steps.done steps.does) was now (has_in before m was has)
      (subst (λ (n : NodeState). In now n.lane.body.kept) is i) ids)
front_alone t number _ before after told st steps = tt

-- a line of another track
beside_whole : (t : Trace) (before after : LineState) (told : List Happening) → Stands t before → IsBeside before after → StaysWhole told before after
beside_whole t before after told st beside =
    let whole : AreWhole told before after = same_whole told before after (starting_of st) (λ machine. ap (λ (l : Lane). l.body) (beside-lane before after machine beside)) in
    record {
      kept = λ machine was now has i ids. (whole machine).kept was now (has_in before machine was has) i ids;
      held = λ machine was now has is ids. (whole machine).out was now (has_in before machine was has) is ids;
    }

track_whole : (t : Trace) (number : ℕ) (line : TrackLine) (before after : LineState) (told : List Happening) → Stands t before → BringsNew (asked_on line) before → TrackSteps number line before after told → StaysWhole told before after
track_whole t number (own_line request) before after told st new steps = line_whole t number request before after told st new steps.0
track_whole t number other_line before after told st new steps = beside_whole t before after told st steps.0

track_front : (t : Trace) (number : ℕ) (line : TrackLine) (before after : LineState) (told : List Happening) → Stands t before → TrackSteps number line before after told → ChangesFrontAlone (asked_on line) before after
track_front t number (own_line request) before after told st steps = front_alone t number request before after told st steps.0
track_front t number other_line before after told st steps = tt

-- ---- along a run

-- each line of a run brings what has no record
abbrev AllNew : LineState → List TrackLine → List Point → Type 0
AllNew s (line ∷ asked) (point ∷ points) = BringsNew (asked_on line) s × AllNew point.after asked points
AllNew s _ _ = Unit {0}

whole_run : (s : LineState) (asked : List TrackLine) (points : List Point) (n : ℕ) → Stood s → IsRun s asked points → AreStood (take n points) → AllNew s asked (take n points) → AreContentsWhole s asked (take n points)
whole_run s [] points zero was run all new = tt
whole_run s (line ∷ asked) points zero was run all new = tt
whole_run s [] [] (suc n) was run all new = tt
whole_run s [] (point ∷ points) (suc n) was run all new = elim run [ ]
whole_run s (line ∷ asked) [] (suc n) was run all new = elim run [ ]
whole_run s (line ∷ asked) (point ∷ points) (suc n) was run all new = (track_whole was.trace (s.lines + 1) line s point.after point.told was.stands new.0 run.0, track_front was.trace (s.lines + 1) line s point.after point.told was.stands run.0, whole_run point.after asked points n all.0 run.1 all.1 new.1)

-- THE LAW
brings_asked : (reported : List Happening) (line : TrackLine) (s : LineState) → StoodBy reported s → IsNewcomer reported line → BringsNew (asked_on line) s
brings_asked reported (own_line request) s by new = brings_new reported request s by new
brings_asked reported other_line s by new = tt

all_new : (reported : List Happening) (s : LineState) (asked : List TrackLine) (points : List Point) (n : ℕ) → StoodBy reported s → AreStoodBy reported (take n points) → AreNewcomers reported (take n asked) (take n points) → AllNew s asked (take n points)
all_new reported s [] points zero was stood new = tt
all_new reported s (line ∷ asked) points zero was stood new = tt
all_new reported s [] points (suc n) was stood new = tt
all_new reported s (line ∷ asked) [] (suc n) was stood new = tt
all_new reported s (line ∷ asked) (point ∷ points) (suc n) was stood new = (brings_asked reported line s was new.0, all_new (reported ++ point.told) point.after asked points n stood.0 stood.1 new.1)

pub contents_whole : SaysAlone → ConnectsBear → ContentsStayWhole
contents_whole alone connects asked points n fit few run honest =
    let stood : AreStoodBy [] (take n points) = run_by alone connects [] no_line asked points n fit few none_stood run honest.told honest.newcomers in
    whole_run no_line asked points n none_stood.stood run (are_stood [] (take n points) stood) (all_new [] no_line asked points n none_stood stood honest.newcomers)

-- ---- of the records that are kept alone

kept_line : {told : List Happening} {before after : LineState} → StaysWhole told before after → KeepsContents (IsChanged told) before after
kept_line whole machine was now i j same = elim (whole.kept machine was now (inl i) j same) [
  | inl one ↦ inl one
  | inr (inl mark) ↦ inr (by_mark mark.quality mark.marks)
  | inr (inr sub) ↦ inr (by_sub sub.place sub.tells)
]

kept_run : (s : LineState) (asked : List TrackLine) (points : List Point) → IsRun s asked points → (n : ℕ) → AreContentsWhole s asked (take n points) → AreContentsKept s (take n points)
kept_run s asked points run zero whole = tt
kept_run s asked [] run (suc n) whole = tt
kept_run s [] (point ∷ points) run (suc n) whole = elim run [ ]
kept_run s (line ∷ asked) (point ∷ points) run (suc n) whole = (kept_line whole.0, kept_run point.after asked points run.1 n whole.2)

pub contents_are_kept : ContentsStayWhole → ContentsAreKept
contents_are_kept law asked points n fit few run honest = kept_run no_line asked points run n (law asked points n fit few run honest)
