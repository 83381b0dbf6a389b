-- WHERE BOARDS ARE AT HOME: a board that is moved between the lanes of a machine comes only to a
-- track that it isn't on.
use Rattle.std.specs.Prelude.{◌≡◌, ◌==◌, ◌&&◌, ◌||◌, ◌++◌, ℕ, Bool, false, List, [], ◌∷◌, not, take}
use Rattle.node_core.specs.declared.act.Act.TheVariants as acts
use Rattle.node_core.specs.declared.input.Input.TheVariants as inputs
use Rattle.line_report.specs.declared.happening.Happening.{Happening}
use Rattle.line_report.specs.declared.happening.Happening.TheVariants as happenings
use Rattle.line_step.specs.Lies.{has_lie}
use Rattle.line_step.specs.Requests.{gives}
use Rattle.line_step.specs.Runs.{Point}
use Rattle.line_step.specs.Tracks.{TrackLine, own_line}

-- a board is at home on a track from when it was inserted, put into the place of another, or came
-- from another lane, until it goes to another lane
abbrev pub home_by : ℕ → Happening → Bool → Bool
home_by id (happenings.Done machine (acts.Inserts new)) home = (new == id) || home
home_by id (happenings.Done machine (acts.Replaces old new)) home = (new == id) || home
home_by id (happenings.Done machine (acts.Gets new)) home = (new == id) || home
home_by id (happenings.Done machine (acts.Gives old to)) home = not (old == id) && home
home_by id happening home = home

abbrev pub home_after : ℕ → List Happening → Bool → Bool
home_after id [] home = home
home_after id (happening ∷ told) home = home_after id told (home_by id happening home)

-- by all that the track told
abbrev pub is_home : ℕ → List Happening → Bool
is_home id told = home_after id told false

-- a board that comes isn't at home: `past` is what was told before
abbrev pub IsNewcomer : List Happening → TrackLine → Type 0
IsNewcomer past (own_line (gives machine (inputs.Gets board))) = is_home board.id past ≡ false
IsNewcomer past line = Unit {0}

abbrev pub AreNewcomers : List Happening → List TrackLine → List Point → Type 0
AreNewcomers past [] points = Unit {0}
AreNewcomers past (line ∷ lines) [] = Unit {0}
AreNewcomers past (line ∷ lines) (point ∷ points) =
    IsNewcomer past line × AreNewcomers (past ++ point.told) lines points

-- the first n lines told nothing that was not so, and boards came to where they weren't at home
pub record IsHonest (asked : List TrackLine) (points : List Point) (n : ℕ) : Type 0 where
  pub told : has_lie (take n points) ≡ false
  pub newcomers : AreNewcomers [] (take n asked) (take n points)
