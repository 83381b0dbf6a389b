-- The panel is polled again, and what was found of a neighbour is taken.
use Rattle.std.proofs.Common.{◌≡◌, ◌∙◌, sym, subst, ap, refl, ℕ, ℤ, ◌-◌, ◌+◌, ◌<◌, ◌≤◌, Bool, true, false, List, Option, None, Some, is_some, nat_lt, arith}
use Rattle.std.proofs.lemmas.Bool.{false≢true}
use Rattle.std.proofs.lemmas.Bool.Decides.{nat_tests}
use Rattle.line_base.specs.declared.states.Side.{Side}
use Rattle.line_base.specs.declared.states.Side.TheVariants.{Entry, Exit}
use Rattle.line_outside.specs.declared.answer.GotBytes.{GotBytes}
use Rattle.line_outside.specs.declared.answer.GotBytes.TheVariants as founds
use Rattle.line_outside.specs.declared.way.Way.{Way}
use Rattle.line_outside.specs.declared.way.Way.TheVariants as ways
use Rattle.node_core.specs.May.{may_of}
use Rattle.node_core.specs.Sides.{is_open}
use Rattle.node_core.specs.declared.input.Input.TheVariants as inputs
use Rattle.node_run.specs.After.{AfterPanel, PanelArrives, TakesFinding, TakesFound, TakesHeld, broken, greeting, panel_bytes, panel_closed, panel_second, way_of, with_held}
use Rattle.node_run.specs.Held.{Finding, is_more, looks_behind, nothing_held}
use Rattle.node_run.specs.State.{RunState, echoed, with_wire}
use Rattle.node_run.specs.Work.{look_work_of}
use Rattle.node_run.specs.declared.rules.Rules.{Rules}
use Rattle.node_run.specs.declared.way_state.Wire.{Wire}
use Rattle.node_run.specs.declared.way_state.Wire.TheVariants as wires
use Rattle.node_run.proofs.Heard.{SameHere, here_at, takes_here}

-- ---- a poll of the panel leaves what is heard, and what is held

pub record PanelAlone (s t : RunState) : Type 0 where
  pub channel : t.channel ≡ s.channel
  pub config : t.config ≡ s.config
  pub held : t.held ≡ s.held

alone : (s : RunState) → PanelAlone s s
alone s = record { channel = refl; config = refl; held = refl }

alone_at : (s u t : RunState) → t ≡ u → PanelAlone s u → PanelAlone s t
alone_at s u t e frame = let P : RunState → Type 0 = PanelAlone s in subst P (sym e) frame

arrived_alone : (wire : Wire) (rules : Rules) (s t : RunState) (log : List ℕ) → PanelArrives wire rules s t log → PanelAlone s t
arrived_alone wires.Rests rules s t log arrives = alone_at s (echoed (greeting rules s) (with_wire ways.Panel wires.Stands s)) t arrives.0 (record { channel = refl; config = refl; held = refl })
arrived_alone wires.Stands rules s t log arrives = alone_at s s t arrives.0 (alone s)
arrived_alone wires.Ends rules s t log arrives = alone_at s s t arrives.0 (alone s)
arrived_alone wires.Breaks rules s t log arrives = alone_at s s t arrives.0 (alone s)

second_alone : (wire : Wire) (s : RunState) → PanelAlone s (panel_second wire s)
second_alone wires.Stands s = record { channel = refl; config = refl; held = refl }
second_alone wires.Rests s = alone s
second_alone wires.Ends s = alone s
second_alone wires.Breaks s = alone s

bytes_alone : (wire : Wire) (bytes : List ℕ) (s : RunState) → PanelAlone s (panel_bytes wire bytes s)
bytes_alone wires.Stands bytes s = record { channel = refl; config = refl; held = refl }
bytes_alone wires.Rests bytes s = alone s
bytes_alone wires.Ends bytes s = alone s
bytes_alone wires.Breaks bytes s = alone s

closed_alone : (wire : Wire) (s : RunState) → PanelAlone s (panel_closed wire s)
closed_alone wires.Stands s = record { channel = refl; config = refl; held = refl }
closed_alone wires.Rests s = alone s
closed_alone wires.Ends s = alone s
closed_alone wires.Breaks s = alone s

pub panel_alone : (rules : Rules) (got : GotBytes) (s t : RunState) (log : List ℕ) → AfterPanel rules got s t log → PanelAlone s t
panel_alone rules founds.Arrived s t log after = arrived_alone s.panel.wire rules s t log after
panel_alone rules founds.Second s t log after = alone_at s _ t after.0 (second_alone s.panel.wire s)
panel_alone rules (founds.Bytes bytes) s t log after = alone_at s _ t after.0 (bytes_alone s.panel.wire bytes s)
panel_alone rules founds.NotYet s t log after = alone_at s s t after.0 (alone s)
panel_alone rules founds.Closed s t log after = alone_at s _ t after.0 (closed_alone s.panel.wire s)
panel_alone rules founds.Failed s t log after = alone_at s _ t after.0 (closed_alone s.panel.wire s)

-- ---- fewer polls are to come

behind_less : (more : Bool) (looks : ℕ) → 0 < looks → looks_behind more looks < looks
behind_less true looks some = omega (arith, some)
behind_less false looks some = some

some_looks : (looks : ℕ) → nat_lt 0 looks ≡ true → 0 < looks
some_looks looks e = grind (arith, nat_tests)

pub looks_less : (finding : Option Finding) (more : Bool) (looks : ℕ) → is_some finding ≡ true → nat_lt 0 looks ≡ true → look_work_of finding (looks_behind more looks) + 500000 ≤ look_work_of finding looks
looks_less None more looks some e = absurd (false≢true some)
looks_less (Some finding) more looks some e = omega (arith, behind_less more looks (some_looks looks e))

pub some_work : (finding : Option Finding) (looks : ℕ) → is_some finding ≡ true → 500000 ≤ look_work_of finding looks
some_work None looks some = absurd (false≢true some)
some_work (Some finding) looks some = omega arith

pub few_work : (finding : Option Finding) (looks : ℕ) → looks ≤ 16 → look_work_of finding looks ≤ 8500000
few_work None looks few = omega arith
few_work (Some finding) looks few = omega (arith, few)

-- ---- what was found is taken

broken_here : (side : Side) (test : Bool) (s : RunState) → SameHere s (broken (way_of side) test s)
broken_here Entry true s = record { turn = refl; place = refl; rest = refl; ended = refl; channel = refl; config = refl; held = refl; settings = refl }
broken_here Exit true s = record { turn = refl; place = refl; rest = refl; ended = refl; channel = refl; config = refl; held = refl; settings = refl }
broken_here side false s = here_at s s refl

here_behind : (s u t : RunState) → t ≡ u → SameHere s u → SameHere s t
here_behind s u t e frame = let P : RunState → Type 0 = SameHere s in subst P (sym e) frame

found_here : (bytes : Option (List ℕ)) (side : Side) (rules : Rules) (moment : ℤ) (s t : RunState) (log : List ℕ) → TakesFound bytes side rules moment s t log → SameHere s t
found_here (Some bytes) side rules moment s t log takes = takes_here (may_of s.node (inputs.Bytes side takes.piece)) rules moment (inputs.Bytes side takes.piece) s t log takes.takes
found_here None side rules moment s t log takes = here_behind s _ t takes.0 (broken_here side (is_open side s.node.lane.body) s)

finding_here : (finding : Option Finding) (rules : Rules) (moment : ℤ) (s t : RunState) (log : List ℕ) → TakesFinding finding rules moment s t log → SameHere s t
finding_here None rules moment s t log takes = here_at s t takes.0
finding_here (Some finding) rules moment s t log takes = found_here finding.bytes finding.side rules moment s t log takes

pub held_here : (rules : Rules) (moment : ℤ) (s t : RunState) (log : List ℕ) → TakesHeld rules moment s t log → SameHere (with_held nothing_held s) t
held_here rules moment s t log takes = finding_here s.held.finding rules moment (with_held nothing_held s) t log takes
