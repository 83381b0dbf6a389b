use Rattle.std.specs.Prelude.{◌≡◌, ℕ, Option, Some, None}
use Rattle.handover_out.specs.declared.act.OutDeed.{OutDeed}
use Rattle.handover_out.specs.declared.act.OutDeed.TheVariants.{Opens, Refuses, Leaves, Returns, Loses}
use Rattle.handover_out.specs.declared.input.OutInput.{OutInput}
use Rattle.handover_out.specs.declared.input.OutInput.TheVariants.{Start}
use Rattle.handover_out.specs.State.{OutState, held}
use Rattle.handover_out.specs.Row.{OutRow}
use Rattle.handover_out.specs.Records.{board_of_input, id_of}

-- the id for which a start is
abbrev pub id_of_start : OutInput → Option ℕ
id_of_start (Start id _) = Some id
id_of_start _ = None

-- A deed names its board: an opening the one that comes with the start, which is then held; a
-- refusal the one that the start is for; and what ends a handover the one that was held. That
-- record is given back exactly where it returns.
abbrev pub NamesRecord : OutState → OutInput → OutRow → Option OutDeed → Type 0
NamesRecord s input row (Some (Opens id)) =
    (id_of (board_of_input input) ≡ Some id) × (held row.after ≡ board_of_input input)
    × (row.act.back ≡ None)
NamesRecord s input row (Some (Refuses id)) =
    (id_of_start input ≡ Some id) × (held row.after ≡ None) × (row.act.back ≡ None)
NamesRecord s input row (Some (Leaves id)) =
    (id_of (held s) ≡ Some id) × (held row.after ≡ None) × (row.act.back ≡ None)
NamesRecord s input row (Some (Returns id)) =
    (id_of (held s) ≡ Some id) × (held row.after ≡ None) × (row.act.back ≡ held s)
NamesRecord s input row (Some (Loses id)) =
    (id_of (held s) ≡ Some id) × (held row.after ≡ None) × (row.act.back ≡ None)
NamesRecord s input row None = (held row.after ≡ held s) × (row.act.back ≡ None)
