use Rattle.std.specs.Prelude.{ℕ, List, [], ◌∷◌, ◌++◌, Option, Some, None, option_map}
use Rattle.board_record.specs.declared.record.Record.{Record}
use Rattle.handover_in.specs.declared.act.InAct.{InAct}
use Rattle.handover_in.specs.declared.act.InDeed.{InDeed}
use Rattle.handover_in.specs.declared.act.InDeed.TheVariants.{Starts, Settles, Drops}
use Rattle.handover_in.specs.declared.input.InInput.{InInput}
use Rattle.handover_in.specs.State.{InState, held}
use Rattle.handover_in.specs.Run.{step}

abbrev pub list_of : Option Record → List Record
list_of (Some board) = board ∷ []
list_of None = []

-- the record that goes into a handover: that of the offer, as its transport starts
abbrev pub goes_in : Option InDeed → InState → List Record
goes_in (Some (Starts _)) s = list_of s.offer
goes_in _ _ = []

-- the record that comes out: handed on to be kept, or dropped
abbrev pub comes_out : Option InDeed → InState → InAct → List Record
comes_out (Some (Settles _)) _ act = list_of act.keep
comes_out (Some (Drops _)) s _ = list_of (held s)
comes_out _ _ _ = []

-- the records that go into the handovers of a list of inputs, in order
abbrev pub all_in : InState → List InInput → List Record
all_in s [] = []
all_in s (input ∷ inputs) = goes_in (step s input).act.deed s ++ all_in (step s input).after inputs

-- and those that come out
abbrev pub all_out : InState → List InInput → List Record
all_out s [] = []
all_out s (input ∷ inputs) =
    comes_out (step s input).act.deed s (step s input).act ++ all_out (step s input).after inputs

-- the board that is held after a deed
abbrev pub held_by : Option ℕ → Option InDeed → Option ℕ
held_by _ (Some (Starts id)) = Some id
held_by _ (Some (Settles _)) = None
held_by _ (Some (Drops _)) = None
held_by held None = held

-- the board that is held after the deeds of a list of inputs
abbrev pub held_by_all : Option ℕ → InState → List InInput → Option ℕ
held_by_all held s [] = held
held_by_all held s (input ∷ inputs) =
    held_by_all (held_by held (step s input).act.deed) (step s input).after inputs

abbrev pub id_of : Option Record → Option ℕ
id_of = option_map (λ board. board.id)
