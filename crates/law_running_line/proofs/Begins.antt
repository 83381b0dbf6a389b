-- A run that reads first, from new machines, computed.
use Rattle.std.proofs.Common.{List, None, Option, Some, [], ap, arith, codes, false, map, refl, slice_get, subst, suc, sym, zero, ℕ, ◌++◌, ◌∙◌, ◌∷◌, ◌≡◌}
use Rattle.law_one_standing.proofs.Mirroring.{same_some}
use Rattle.line_base.proofs.Printable.{plain_is_text}
use Rattle.line_base.specs.declared.states.Side.TheVariants.{Entry}
use Rattle.node_core.specs.Node.{NodeState, new_node}
use Rattle.node_core.specs.declared.input.Input.TheVariants as inputs
use Rattle.law_running_line.specs.Begins.{Begins, new_pair, profile_as}
use Rattle.law_running_line.specs.New.{IsNewNode}
use Rattle.law_running_line.specs.Reading.{Behind, Strictly}
use Rattle.law_running_line.specs.Running.{Running, node_of, with_wires}
use Rattle.law_running_line.specs.RunSteps.{asks, given_up, turns}
use Rattle.law_running_line.specs.Wire.{Wire, asked_for, has}
use Rattle.law_running_line.proofs.Doubled.{To, has_above, here, next_by, step_to, turn_by, turned}

-- ---- the states

abbrev pub loader : NodeState
loader = new_node (profile_as 1 (codes "loader"))

abbrev pub printer : NodeState
printer = new_node (profile_as 2 (codes "printer"))

abbrev pub loader_keeps : NodeState
loader_keeps = next_by loader [] (inputs.Insert None) []

abbrev pub kept : Running
kept = turned 1 loader [] [] (inputs.Insert None) [] 0 new_pair

abbrev pub asked : Running
asked = with_wires 1 (λ (wires : List Wire). map (given_up Entry) wires ++ asked_for ∷ []) kept

abbrev pub come : Running
come = turned 2 printer [] [] inputs.Connect [] 0 asked

abbrev pub taken : Running
taken = turned 1 loader_keeps [] [] inputs.Accepted [] 0 come

-- ---- the run

pub one_above : (w : Wire) → has w.above ≡ false → (place : ℕ) (wire : Wire) → slice_get (w ∷ []) place ≡ Some wire → has wire.above ≡ false
one_above w first zero wire is = subst (λ (o : Option Wire). has_above o ≡ false) is first
one_above w first (suc place) wire is = cc

runs : To Strictly new_pair taken
runs =
    step_to (turns (turn_by Strictly 1 loader [] [] (inputs.Insert None) [] 0 new_pair refl (record { exit = refl; entry = refl }) tt refl refl (refl, refl) tt))
    (step_to (asks (record { above = loader_keeps; above_there = refl; below = printer; below_there = refl; may = refl; after_is = refl }))
    (step_to (turns (turn_by Strictly 2 printer [] [] inputs.Connect [] 0 asked refl (record { exit = refl; entry = refl }) (record { wire = _; there = refl; held = refl }) refl refl (refl, refl) tt))
    (step_to (turns (turn_by Strictly 1 loader_keeps [] [] inputs.Accepted [] 0 come refl (record { exit = refl; entry = refl }) (record { wire = _; there = refl; held = refl }, one_above _ refl) refl refl (refl, refl) tt)) here)))

-- and behind the reading
runs_behind : To Behind new_pair taken
runs_behind =
    step_to (turns (turn_by Behind 1 loader [] [] (inputs.Insert None) [] 0 new_pair refl (record { exit = refl; entry = refl }) tt refl refl (refl, refl) tt))
    (step_to (asks (record { above = loader_keeps; above_there = refl; below = printer; below_there = refl; may = refl; after_is = refl }))
    (step_to (turns (turn_by Behind 2 printer [] [] inputs.Connect [] 0 asked refl (record { exit = refl; entry = refl }) (record { wire = _; there = refl; held = refl }) refl refl (refl, refl) tt))
    (step_to (turns (turn_by Behind 1 loader_keeps [] [] inputs.Accepted [] 0 come refl (record { exit = refl; entry = refl }) (record { wire = _; there = refl; held = refl }, one_above _ refl) refl refl (refl, refl) tt)) here)))

-- ---- new machines

numbered : (machine : ℕ) (node : NodeState) → node_of machine new_pair ≡ Some node → node.maker.machine ≡ machine
numbered zero node there = cc
numbered (suc zero) node there = ap (λ (n : NodeState). n.maker.machine) (sym (same_some there))
numbered (suc (suc zero)) node there = ap (λ (n : NodeState). n.maker.machine) (sym (same_some there))
numbered (suc (suc (suc place))) node there = cc

loader_new : IsNewNode loader
loader_new = record { profile = profile_as 1 (codes "loader"); name = plain_is_text (codes "loader") refl; lane = omega arith; number = omega arith; is = refl }

printer_new : IsNewNode printer
printer_new = record { profile = profile_as 2 (codes "printer"); name = plain_is_text (codes "printer") refl; lane = omega arith; number = omega arith; is = refl }

pub begins : Begins
begins = record {
  new = record { nodes = (loader_new, (printer_new, tt)); floor = refl; wires = λ link. refl };
  differ = record { apart = λ machine other node next one two same. sym (numbered machine node one) ∙ same ∙ numbered other next two };
  told = runs.told;
  after = taken;
  run = runs.run;
  told_behind = runs_behind.told;
  behind = runs_behind.run;
  joined = refl;
  keeps = record { node = next_by loader_keeps [] inputs.Accepted []; there = refl; kept = refl };
}
