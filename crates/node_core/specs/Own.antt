-- What a machine owns, folded over its acts: the ids of the records that it keeps, of the one that
-- its outlet holds, and of the one that its intake takes.
use Rattle.std.specs.Prelude.{ℕ, List, [], ◌∷◌, ◌++◌, ◌==◌, Option, Some, None, drop, map, option_map, if◌then◌else◌}
use Rattle.board_record.specs.declared.record.Record.{Record}
use Rattle.handover_out.specs.State.{OutState, held}
use Rattle.handover_in.specs.State.{InState, held as in_held}
use Rattle.node_core.specs.declared.act.Act.{Act}
use Rattle.node_core.specs.declared.act.Act.TheVariants as acts
use Rattle.node_core.specs.declared.act.Deed.{Deed}
use Rattle.node_core.specs.declared.act.Deed.TheVariants as deeds
use Rattle.node_core.specs.declared.lane.Body.{Body}

pub record Own : Type 0 where
  pub kept : List ℕ
  pub held : Option ℕ
  pub taking : Option ℕ

abbrev pub one_of : Option ℕ → List ℕ
one_of None = []
one_of (Some id) = id ∷ []

-- the ids without the first of this one
abbrev pub without_id : ℕ → List ℕ → List ℕ
without_id id [] = []
without_id id (mine ∷ others) = if mine == id then others else mine ∷ without_id id others

-- the ids with another in the first place of this one
abbrev pub with_id_instead : ℕ → ℕ → List ℕ → List ℕ
with_id_instead old new [] = []
with_id_instead old new (mine ∷ others) =
    if mine == old then new ∷ others else mine ∷ with_id_instead old new others

abbrev pub own_deed : Own → Deed → Own
own_deed own (deeds.Opens id) = record own { kept = drop 1 own.kept; held = Some id }
own_deed own (deeds.Refuses id) = own
own_deed own (deeds.Leaves id) = record own { held = None }
own_deed own (deeds.Returns id) = record own { kept = one_of own.held ++ own.kept; held = None }
own_deed own (deeds.Loses id) = record own { held = None }
own_deed own (deeds.Starts id) = record own { taking = Some id }
own_deed own (deeds.Settles id) =
    record own { kept = own.kept ++ one_of own.taking; taking = None }
own_deed own (deeds.Drops id) = record own { taking = None }

abbrev pub own_act : Own → Act → Own
own_act own (acts.Deed deed) = own_deed own deed
own_act own (acts.Inserts id) = record own { kept = own.kept ++ id ∷ [] }
own_act own (acts.Removes id) = record own { kept = without_id id own.kept }
own_act own (acts.Replaces old new) = record own { kept = with_id_instead old new own.kept }
own_act own (acts.Gives id to) = record own { kept = without_id id own.kept }
own_act own (acts.Gets id) = record own { kept = own.kept ++ id ∷ [] }
own_act own _ = own

-- the own records after some acts
abbrev pub own_after : Own → List Act → Own
own_after own [] = own
own_after own (act ∷ others) = own_after (own_act own act) others

abbrev pub ids_of : List Record → List ℕ
ids_of = map (λ (board : Record). board.id)

abbrev pub id_of : Option Record → Option ℕ
id_of = option_map (λ (board : Record). board.id)

abbrev pub own_by : List Record → OutState → InState → Own
own_by kept outlet intake =
    record { kept = ids_of kept; held = id_of (held outlet); taking = id_of (in_held intake) }

-- the own records of a body
abbrev pub own_of : Body → Own
own_of body = own_by body.kept body.outlet body.intake
