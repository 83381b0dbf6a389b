-- THE COUNTS of lanes together.
use Rattle.std.specs.Prelude.{◌+◌, ◌&&◌, Bool, List, [], ◌∷◌, nat_le}
use Rattle.line_report.specs.declared.summary.Summary.{Summary}
use Rattle.line_step.specs.Views.{summary_of}
use Rattle.line_engine.specs.Kept.{most_counted}
use Rattle.line_engine.specs.declared.track.Track.{Track}

-- what two lanes count together
abbrev pub added_up : Summary → Summary → Summary
added_up one other =
    record one {
      boards = one.boards + other.boards;
      opened = one.opened + other.opened;
      settled = one.settled + other.settled;
    }

-- it can be told
abbrev pub is_told : Summary → Bool
is_told sum =
    nat_le sum.boards most_counted && nat_le sum.opened most_counted
    && nat_le sum.settled most_counted

-- lane after lane
abbrev pub summed : Summary → List Track → Summary
summed sum [] = sum
summed sum (track ∷ tracks) = summed (added_up sum (summary_of track.state)) tracks
