-- A BOARD SETTLES ONLY WHEN IT WAS SAID: a machine tells that a board settles only after it has
-- heard that its transport ended upstream, in the connection of the handover, or has heard the
-- upstream machine describe itself in a later one.
--
-- Everything here is a look back over what was told of one machine, of its entry alone. No state
-- of a machine is named.
use Rattle.std.specs.Prelude.{Bool, List, [], false, if◌then◌else◌, length, take, true, ℕ, ◌&&◌, ◌++◌, ◌+◌, ◌==◌, ◌||◌, ◌∷◌, ◌≡◌, ◌≤◌}
use Rattle.std.specs.List.{AllByRecursion, list_any}
use Rattle.line_base.specs.declared.states.Side.TheVariants.{Entry}
use Rattle.line_base.specs.declared.states.Transfer.TheVariants.{Complete}
use Rattle.hermes_horizontal.specs.declared.message.Horizontal.{Horizontal}
use Rattle.hermes_horizontal.specs.declared.message.Horizontal.TheVariants as bodies
use Rattle.node_core.specs.declared.act.Act.{Act}
use Rattle.node_core.specs.declared.act.Act.TheVariants as acts
use Rattle.node_core.specs.declared.act.Deed.TheVariants as deeds
use Rattle.line_report.specs.declared.happening.Happening.{Happening}
use Rattle.line_report.specs.declared.happening.Happening.TheVariants as happenings
use Rattle.line_step.specs.Homes.{IsHonest}
use Rattle.line_step.specs.Tracks.{TrackLine}
use Rattle.line_step.specs.Runs.{IsRun, Point, all_told, IsShort}
use Rattle.line_step.specs.State.{no_line}
use Rattle.law_one_standing.specs.Standing.{IsFitTrack}

-- ---- what a machine does at its entry

-- what bears on a handover there: the messages that are heard, the ends of the connection, and the
-- deeds of the entry
abbrev pub is_at_entry : Act → Bool
is_at_entry (acts.Hears Entry message) = true
is_at_entry (acts.Closes Entry) = true
is_at_entry (acts.Notices Entry) = true
is_at_entry (acts.Deed (deeds.Starts id)) = true
is_at_entry (acts.Deed (deeds.Settles id)) = true
is_at_entry (acts.Deed (deeds.Drops id)) = true
is_at_entry _ = false

abbrev pub entry_act : ℕ → Happening → List Act
entry_act machine (happenings.Done other act) =
    if other == machine && is_at_entry act then act ∷ [] else []
entry_act machine _ = []

-- the acts of a machine at its entry, in their order
abbrev pub entry_acts : ℕ → List Happening → List Act
entry_acts machine [] = []
entry_acts machine (happening ∷ told) = entry_act machine happening ++ entry_acts machine told

abbrev pub starts : ℕ → Act
starts id = acts.Deed (deeds.Starts id)

abbrev pub settles : ℕ → Act
settles id = acts.Deed (deeds.Settles id)

abbrev pub is_start : Act → Bool
is_start (acts.Deed (deeds.Starts id)) = true
is_start _ = false

-- ---- what was heard

-- the connection of the entry ends
abbrev pub ends_connection : Act → Bool
ends_connection (acts.Closes Entry) = true
ends_connection (acts.Notices Entry) = true
ends_connection _ = false

-- a message says that the transport of this board ended upstream: it has left
abbrev pub says_end : ℕ → Horizontal → Bool
says_end id (bodies.TransportFinished Complete other) = other == id
says_end id _ = false

abbrev pub hears_end : ℕ → Act → Bool
hears_end id (acts.Hears Entry message) = says_end id message.body
hears_end id _ = false

-- a message is the upstream machine's description of itself, with which a connection begins
abbrev pub says_itself : Horizontal → Bool
says_itself (bodies.ServiceDescription service) = true
says_itself _ = false

abbrev pub hears_description : Act → Bool
hears_description (acts.Hears Entry message) = says_itself message.body
hears_description _ = false

-- of the acts since a start of this board: while its connection stood the end of the transport was
-- heard, or after that connection ended a description was
abbrev pub is_said : ℕ → List Act → Bool
is_said id [] = false
is_said id (act ∷ told) =
    if ends_connection act then list_any hears_description told else hears_end id act
    || is_said id told

-- ---- the law

-- what was told ends in a start of this board and acts since, no other start among them, in which
-- it was said
pub record IsSaid (id : ℕ) (told : List Act) : Type 0 where
  pub before : List Act
  pub since : List Act
  pub told_is : told ≡ before ++ starts id ∷ since
  pub last : list_any is_start since ≡ false
  pub said : is_said id since ≡ true

-- wherever a machine settles a board, it was said
abbrev pub SettlesWhenSaid : ℕ → List Happening → Type 0
SettlesWhenSaid machine told =
    (earlier later : List Act) (id : ℕ) → entry_acts machine told ≡ earlier ++ settles id ∷ later
    → IsSaid id earlier

-- THE LAW: it holds of the machine behind each gap over every script, up to the first line that
-- told what was not so, or let a board come or go unseen
abbrev pub BoardsSettleWhenSaid : Type 0
BoardsSettleWhenSaid =
    (asked : List TrackLine) (points : List Point) (n gap : ℕ) → AllByRecursion IsFitTrack asked
    → IsShort no_line points → IsRun no_line asked points → IsHonest asked points n
    → SettlesWhenSaid (gap + 1) (all_told (take n points))
