-- The places of a machine.
use Rattle.std.specs.Prelude.{ℕ, ◌+◌, Bool, Option, Some, None, length, nat_lt}
use Rattle.board_record.specs.declared.record.Record.{Record}
use Rattle.handover_out.specs.State.{held}
use Rattle.handover_in.specs.State.{held as in_held}
use Rattle.node_core.specs.Desk.{Desk}
use Rattle.node_core.specs.declared.lane.Body.{Body}

abbrev pub place_for : Option Record → ℕ
place_for None = 0
place_for (Some board) = 1

-- the places that are used: by the kept records, by that of the outlet and by that of the intake
abbrev pub used : Body → ℕ
used body = length body.kept + place_for (held body.outlet) + place_for (in_held body.intake)

-- there is a place for one board more
abbrev pub has_place : Desk → Body → Bool
has_place desk body = nat_lt (used body) desk.capacity
