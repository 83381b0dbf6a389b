-- PLACE WORDS of a report: the number of a machine or a gap, and behind a point the lane. A word
-- without a point is of the first lane.
use Rattle.std.specs.Prelude.{ℕ, List, [], ◌∷◌}
use Rattle.line_base.specs.Number.{behind_digits, front_digits, value_of}

abbrev pub number_of : List ℕ → ℕ
number_of word = value_of (front_digits word)

abbrev pub lane_from : List ℕ → ℕ
lane_from [] = 1
lane_from (point ∷ digits) = value_of digits

abbrev pub lane_of : List ℕ → ℕ
lane_of word = lane_from (behind_digits word)
