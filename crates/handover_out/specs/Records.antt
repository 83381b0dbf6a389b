use Rattle.std.specs.Prelude.{ℕ, List, [], ◌∷◌, ◌++◌, Option, Some, None, option_map}
use Rattle.board_record.specs.declared.record.Record.{Record}
use Rattle.handover_out.specs.declared.act.OutAct.{OutAct}
use Rattle.handover_out.specs.declared.act.OutDeed.{OutDeed}
use Rattle.handover_out.specs.declared.act.OutDeed.TheVariants.{Opens, Leaves, Returns, Loses}
use Rattle.handover_out.specs.declared.input.OutInput.{OutInput}
use Rattle.handover_out.specs.declared.input.OutInput.TheVariants.{Start}
use Rattle.handover_out.specs.State.{OutState, held}
use Rattle.handover_out.specs.Run.{step}

abbrev pub list_of : Option Record → List Record
list_of (Some board) = board ∷ []
list_of None = []

-- the record that comes with a start
abbrev pub board_of_input : OutInput → Option Record
board_of_input (Start _ board) = board
board_of_input _ = None

-- the record that goes into an outlet at an input: that of an opening
abbrev pub goes_in : Option OutDeed → OutInput → List Record
goes_in (Some (Opens _)) input = list_of (board_of_input input)
goes_in _ _ = []

-- the record that comes out: given back, or let go as the board leaves or is lost
abbrev pub comes_out : Option OutDeed → OutState → OutAct → List Record
comes_out (Some (Returns _)) _ act = list_of act.back
comes_out (Some (Leaves _)) s _ = list_of (held s)
comes_out (Some (Loses _)) s _ = list_of (held s)
comes_out _ _ _ = []

-- the records that go into an outlet over a list of inputs, in order
abbrev pub all_in : OutState → List OutInput → List Record
all_in s [] = []
all_in s (input ∷ inputs) =
    goes_in (step s input).act.deed input ++ all_in (step s input).after inputs

-- and those that come out
abbrev pub all_out : OutState → List OutInput → List Record
all_out s [] = []
all_out s (input ∷ inputs) =
    comes_out (step s input).act.deed s (step s input).act ++ all_out (step s input).after inputs

-- the board that is held after a deed
abbrev pub held_by : Option ℕ → Option OutDeed → Option ℕ
held_by _ (Some (Opens id)) = Some id
held_by _ (Some (Leaves _)) = None
held_by _ (Some (Returns _)) = None
held_by _ (Some (Loses _)) = None
held_by held _ = held

-- the board that is held after the deeds of a list of inputs
abbrev pub held_by_all : Option ℕ → OutState → List OutInput → Option ℕ
held_by_all held s [] = held
held_by_all held s (input ∷ inputs) =
    held_by_all (held_by held (step s input).act.deed) (step s input).after inputs

abbrev pub id_of : Option Record → Option ℕ
id_of = option_map (λ board. board.id)
