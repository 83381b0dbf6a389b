-- ONE STANDING of running machines that stand in their relation: by numbers, as of a line of a script.
use Rattle.std.proofs.Common.{ap, refl}
use Rattle.handover_in.specs.State.{board_of_phase as held_in}
use Rattle.law_one_standing.specs.Carried.{Trace, stand_of}
use Rattle.law_one_standing.specs.Standing.{HasOneStanding}
use Rattle.law_one_standing.proofs.MarksPlace.{HasEnd}
use Rattle.law_one_standing.proofs.OneStand.{ByNumbers, one_standing_by}
use Rattle.law_running_line.specs.Running.{Running}
use Rattle.law_running_line.specs.Stands.{Stands, between_of, line_of}

pub has_end : (t : Trace) (s : Running) → Stands t s → HasEnd (stand_of (line_of s))
has_end t s st = record { kept = refl; outlet = refl; intake = ap held_in (st.rest 0 refl).intake }

pub by_numbers : {t : Trace} {s : Running} → Stands t s → ByNumbers (between_of t s) (line_of s)
by_numbers {t} {s} st = record { keeps = st.keeps; ends = has_end t s st; gaps = λ gap. refl }

pub one_standing_of : (t : Trace) (s : Running) → Stands t s → HasOneStanding (line_of s)
one_standing_of t s st = one_standing_by (by_numbers st)
