-- Where running machines stand in the relation, ids are unique, and each that has a mark was made by a machine.
use Rattle.std.proofs.Common.{ℕ}
use Rattle.standings.specs.declared.mark.Mark.{Mark}
use Rattle.line_step.specs.State.{marks_in}
use Rattle.law_one_standing.specs.Carried.{Trace, stand_of}
use Rattle.law_one_standing.specs.Places.{LiesAt, Spot, at_machine, in_gap, lies_at, lies_in}
use Rattle.law_one_standing.proofs.ApartFloor.{lies_on_floor}
use Rattle.law_one_standing.proofs.MarksOf.{HasMark, first_among, mark_stands}
use Rattle.law_one_standing.proofs.MarksPlace.{IsAt, Position, is_between, is_gone, is_listed, part_lies_at}
use Rattle.law_one_standing.proofs.OneStand.{at_link}
use Rattle.law_running_line.specs.Ids.{HasUniqueIds}
use Rattle.law_running_line.specs.Running.{Running}
use Rattle.law_running_line.specs.Stands.{IsMade, Stands, between_of, line_of}
use Rattle.law_running_line.proofs.FloorMoves.{to_line}
use Rattle.law_running_line.proofs.OneStand.{has_end, by_numbers}

spot_made : {t : Trace} {s : Running} {x : ℕ} (p : Spot) → Stands t s → LiesAt (stand_of (line_of s)) (between_of t s) x p → IsMade s x
spot_made {t} {s} {x} p st lies = st.made x (lies_on_floor t (line_of s) x p st.whole (to_line t s lies))

position_made : {t : Trace} {s : Running} {x : ℕ} {p : Position} → Stands t s → IsAt (stand_of (line_of s)) (between_of t s) x p → IsMade s x
position_made {t} {s} st (is_listed {m = m} part) = spot_made (at_machine m) st (lies_at (part_lies_at (has_end t s st) st.keeps part))
position_made st (is_between {k = k} lies) = spot_made (in_gap k) st (lies_in lies)
position_made {x = x} st (is_gone {k = k} gone) = st.olds k x gone

pub mark_made : {t : Trace} {s : Running} {x : ℕ} {mark : Mark} → Stands t s → HasMark (stand_of (line_of s)) x mark → IsMade s x
mark_made st has = position_made st (at_link (by_numbers st) has).is

pub unique_ids_of : (t : Trace) (s : Running) → Stands t s → HasUniqueIds s
unique_ids_of t s st = record {
  differ = st.differ;
  boards = st.made;
  marked = λ id some. (let first = first_among (marks_in (line_of s) id) some in mark_made st (mark_stands (line_of s) id first.0 first.1));
}
