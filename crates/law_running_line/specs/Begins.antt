-- A RUN THAT READS FIRST, written out: of two new machines the upstream one keeps a board, the downstream
-- one asks for a connection and finds it made, and the upstream one takes it.
use Rattle.std.specs.Prelude.{ℕ, false, true, List, [], ◌∷◌, ◌≡◌, None, codes}
use Rattle.std.specs.List.{list_any}
use Rattle.board_record.specs.Maker.{made_id}
use Rattle.board_record.specs.Record.{plain_record}
use Rattle.node_core.specs.Node.{new_node}
use Rattle.node_core.specs.declared.act.Act.{Act}
use Rattle.node_core.specs.declared.profile.NodeProfile.{NodeProfile}
use Rattle.law_running_line.specs.Doubled.{KeepsAt}
use Rattle.law_running_line.specs.New.{IsNew, NumbersDiffer, new_floor}
use Rattle.law_running_line.specs.Reading.{Behind, Strictly}
use Rattle.law_running_line.specs.Running.{Running}
use Rattle.law_running_line.specs.RunSteps.{RunsTo}
use Rattle.law_running_line.specs.Stands.{is_joined}

abbrev pub profile_as : ℕ → List ℕ → NodeProfile
profile_as number name = record {
  number = number;
  machine = name;
  lane = 1;
  capacity = 4;
  used = 0;
  bridge = false;
}

abbrev pub new_pair : Running
new_pair = record {
  machines =
      new_node (profile_as 1 (codes "loader")) ∷ new_node (profile_as 2 (codes "printer")) ∷ [];
  floor = new_floor 2;
  wires = λ (link : ℕ). [];
}

-- it is one under either reading; behind the run the link stands, and the board's record is kept upstream
pub record Begins : Type 0 where
  pub new : IsNew new_pair
  pub differ : NumbersDiffer new_pair
  pub told : List Act
  pub after : Running
  pub run : RunsTo Strictly new_pair told after
  pub told_behind : List Act
  pub behind : RunsTo Behind new_pair told_behind after
  pub joined : list_any is_joined (after.wires 1) ≡ true
  pub keeps : KeepsAt 1 (plain_record (made_id 1 1) (codes "loader") None ∷ []) after
