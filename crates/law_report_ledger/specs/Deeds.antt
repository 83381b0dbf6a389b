-- THE DEEDS OF A LANE in a report's bytes: a deed is of the lane that its place word names, and
-- `shift p q id` takes the board's record off at p and puts it on at q.
use Rattle.std.specs.Prelude.{ℕ, ◌==◌, ◌++◌, List, [], ◌∷◌, Option, None, Some, codes, option_to_list, if◌then◌else◌}
use Rattle.std.specs.Str.{bytes_eq}
use Rattle.standings.specs.declared.deed.Deed.{Deed}
use Rattle.standings.specs.declared.deed.Deed.TheVariants.{Comes, Removes}
use Rattle.line_check.specs.declared.kind.Kind.{Kind}
use Rattle.line_check.specs.LogLine.{id_of, kind_of}
use Rattle.line_check.specs.Words.{behind, cut_at_space, first_word}
use Rattle.law_report_ledger.specs.Places.{lane_of, number_of}
use Rattle.law_report_lines.specs.Lines.{ReportLine, lines_in}
use Rattle.law_report_ledger.specs.ReportLines.{deed_at, vouched}

-- what is done at a place, where that is on this lane
abbrev pub done_on : ℕ → List ℕ → List Deed → List Deed
done_on lane place deeds = if lane_of place == lane then deeds else []

-- ---- a deed at one place

abbrev pub deeds_in : ℕ → Kind → Option (List ℕ × List ℕ) → List Deed
deeds_in lane kind None = []
deeds_in lane kind (Some (place, rest)) =
    done_on lane place (option_to_list (deed_at kind (number_of place) rest))

abbrev pub deeds_by : ℕ → Option Kind → List ℕ → List Deed
deeds_by lane None rest = []
deeds_by lane (Some kind) rest = deeds_in lane kind (cut_at_space rest)

-- ---- a board that is moved from a place to another one

abbrev pub moved : ℕ → List ℕ → List ℕ → Option ℕ → List Deed
moved lane from to None = []
moved lane from to (Some id) =
    done_on lane from (Removes (number_of from) id ∷ [])
    ++ done_on lane to (Comes (number_of to) id ∷ [])

abbrev pub moved_to : ℕ → List ℕ → Option (List ℕ × List ℕ) → List Deed
moved_to lane from None = []
moved_to lane from (Some (to, rest)) = moved lane from to (id_of rest)

abbrev pub moved_from : ℕ → Option (List ℕ × List ℕ) → List Deed
moved_from lane None = []
moved_from lane (Some (from, rest)) = moved_to lane from (cut_at_space rest)

-- ---- of lines

-- THE DEEDS OF A LANE that a text tells
abbrev pub lane_deeds_of : ℕ → List ℕ → List Deed
lane_deeds_of lane text =
    if bytes_eq (first_word text) (codes "shift")
    then moved_from lane (cut_at_space (behind (cut_at_space text)))
    else deeds_by lane (kind_of (first_word text)) (behind (cut_at_space text))

-- a line without a number tells none
abbrev pub lane_deeds_at : ℕ → Option ℕ → List ℕ → List Deed
lane_deeds_at lane None text = []
lane_deeds_at lane (Some number) text = lane_deeds_of lane text

-- THE DEEDS OF A LANE that some lines tell, in their order
abbrev pub lane_deeds_told : ℕ → List ReportLine → List Deed
lane_deeds_told lane [] = []
lane_deeds_told lane (line ∷ lines) =
    lane_deeds_at lane line.number line.text ++ lane_deeds_told lane lines

-- THE DEEDS OF A LANE in a report, up to the first line of its script that told what was not so, on
-- whichever lane
abbrev pub lane_deeds_in_report : ℕ → List ℕ → List Deed
lane_deeds_in_report lane bytes = lane_deeds_told lane (vouched (lines_in bytes))
