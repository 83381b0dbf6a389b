-- What a deed names, and what becomes of its record.
use Rattle.std.specs.Prelude.{◌≡◌, Option, Some, None}
use Rattle.handover_in.specs.declared.act.InDeed.{InDeed}
use Rattle.handover_in.specs.declared.act.InDeed.TheVariants.{Starts, Settles, Drops}
use Rattle.handover_in.specs.State.{InState, held}
use Rattle.handover_in.specs.Row.{InRow}
use Rattle.handover_in.specs.Records.{id_of}

-- a start names the offered board, whose record is held then; what ends a handover names the held
-- board, whose record is handed on exactly where it settles; without a deed it stays
abbrev pub NamesRecord : InState → InRow → Option InDeed → Type 0
NamesRecord s row (Some (Starts id)) =
    (id_of s.offer ≡ Some id) × (held row.after ≡ s.offer) × (row.act.keep ≡ None)
NamesRecord s row (Some (Settles id)) =
    (id_of (held s) ≡ Some id) × (held row.after ≡ None) × (row.act.keep ≡ held s)
NamesRecord s row (Some (Drops id)) =
    (id_of (held s) ≡ Some id) × (held row.after ≡ None) × (row.act.keep ≡ None)
NamesRecord s row None = (held row.after ≡ held s) × (row.act.keep ≡ None)
