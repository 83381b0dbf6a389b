-- What a machine on one lane leaves of it on another.
use Rattle.std.specs.Prelude.{◌≡◌, ◌==◌, ◌+◌, ℕ, Bool, List, [], ◌∷◌, Option, Some, None, map, if◌then◌else◌}
use Rattle.node_core.specs.Shared.{SharedParts}
use Rattle.line_step.specs.State.{LineState, one_more}
use Rattle.line_machines.specs.Sharing.{shared_in, sharing}
use Rattle.line_engine.specs.declared.track.Track.{Track}
use Rattle.line_engine.specs.declared.sharing.Shares.{Shares}

abbrev pub sharing_track : ℕ → SharedParts → Track → Track
sharing_track machine shared track = record track { state = sharing machine shared track.state }

abbrev pub sharing_track_if : ℕ → Option SharedParts → Track → Track
sharing_track_if machine None track = track
sharing_track_if machine (Some shared) track = sharing_track machine shared track

abbrev pub unvouched_track : Option ℕ → Track → Track
unvouched_track unvouched track =
    record track { state = record track.state { unvouched = unvouched } }

-- two lanes have the same to share, at the machines of two numbers
pub record ShareAlike (first last : ℕ) (one other : LineState) : Type 0 where
  pub last_is : shared_in last one ≡ shared_in last other
  pub first_is : shared_in first one ≡ shared_in first other
  pub unvouched_is : one.unvouched ≡ other.unvouched

-- a track follows another one, at the machines of two numbers
abbrev pub shared_by : ℕ → ℕ → LineState → Track → Track
shared_by first last s track =
    if first == last then sharing_track_if last (shared_in last s) track else
    sharing_track_if first (shared_in first s) (sharing_track_if last (shared_in last s) track)

abbrev pub followed : ℕ → ℕ → LineState → Track → Track
followed first last s track = unvouched_track s.unvouched (shared_by first last s track)

-- all of them do, the one itself too
abbrev pub following : ℕ → ℕ → LineState → List Track → List Track
following first last s tracks = map (followed first last s) tracks

-- the same of what was found of it
abbrev pub shared_with : ℕ → ℕ → Shares → Track → Track
shared_with first last shares track =
    if first == last then sharing_track_if last shares.last track else
    sharing_track_if first shares.first (sharing_track_if last shares.last track)

abbrev pub followed_with : ℕ → ℕ → Shares → Track → Track
followed_with first last shares track =
    unvouched_track shares.unvouched (shared_with first last shares track)

abbrev pub counted_track : ℕ → Track → Track
counted_track lines track = record track { state = record track.state { lines = lines } }

-- a machine more on each, from this lane on
abbrev pub grown : ℕ → Bool → ℕ → ℕ → List Track → List Track
grown lane is_bridge capacity used [] = []
grown lane is_bridge capacity used (track ∷ tracks) =
    record track { state = one_more lane is_bridge capacity used track.state }
    ∷ grown (lane + 1) is_bridge capacity used tracks
