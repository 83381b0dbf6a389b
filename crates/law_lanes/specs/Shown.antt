-- What the report shows of all machines, machine by machine and in each lane by lane; and the
-- standings that a line changed, over all lanes.
use Rattle.std.specs.Prelude.{◌+◌, ◌==◌, ◌++◌, ℕ, zero, suc, Bool, true, false, List, [], ◌∷◌, Option, Some, None, if◌then◌else◌, length, map}
use Rattle.std.specs.List.{flat_map}
use Rattle.node_core.specs.Node.{NodeState}
use Rattle.node_core.specs.Own.{own_of}
use Rattle.standings.specs.Standing.{standing_of}
use Rattle.standings.specs.Told.{is_same_standing}
use Rattle.standings.specs.declared.mark.Mark.{Mark}
use Rattle.standings.specs.declared.standing.Standing.{Standing}
use Rattle.standings.specs.declared.standing.Standing.TheVariants as standings
use Rattle.line_report.specs.Lanes.{told_on}
use Rattle.line_report.specs.declared.happening.Happening.{Happening}
use Rattle.line_report.specs.declared.happening.Happening.TheVariants as happenings
use Rattle.line_report.specs.declared.happening.LaneHappening.{LaneHappening}
use Rattle.line_step.specs.Shown.{ascending, between_shown, ids_marked, kept_shown, taken_below}
use Rattle.line_step.specs.State.{LineState, marks_in}
use Rattle.law_lanes.specs.Lanes.{Lanes}
use Rattle.law_lanes.specs.Reasons.{first_track}

-- ---- show

-- the machine that is first of these, and the next one
abbrev pub front_shown : ℕ → ℕ → List NodeState → List LaneHappening
front_shown lane machine [] = []
front_shown lane machine (node ∷ nodes) =
    told_on lane (kept_shown machine node.lane.body.kept
    ++ between_shown machine (own_of node.lane.body).held (taken_below nodes))

-- on each lane, from this one on
abbrev pub fronts_shown : ℕ → ℕ → List (List NodeState) → List LaneHappening
fronts_shown lane machine [] = []
fronts_shown lane machine (nodes ∷ others) =
    front_shown lane machine nodes ++ fronts_shown (lane + 1) machine others

abbrev pub behind_first : List NodeState → List NodeState
behind_first [] = []
behind_first (node ∷ nodes) = nodes

-- so many machines, from this one on
abbrev pub all_shown : ℕ → ℕ → List (List NodeState) → List LaneHappening
all_shown zero machine lanes = []
all_shown (suc more) machine lanes =
    fronts_shown 1 machine lanes ++ all_shown more (machine + 1) (map behind_first lanes)

abbrev pub shown_on : Lanes → List LaneHappening
shown_on s =
    all_shown (length (first_track s).machines) 1 (map (λ (t : LineState). t.machines) s.tracks)

-- ---- standings

-- a lane with the marks that an id has there
pub record LaneMarks : Type 0 where
  pub lane : ℕ
  pub marks : List Mark

-- those of lanes on which it has any, from this one on
abbrev pub with_marks : ℕ → List Mark → List LaneMarks → List LaneMarks
with_marks lane [] others = others
with_marks lane (mark ∷ marks) others = record { lane = lane; marks = mark ∷ marks } ∷ others

abbrev pub marked_from : ℕ → ℕ → List LineState → List LaneMarks
marked_from id lane [] = []
marked_from id lane (t ∷ ts) = with_marks lane (marks_in t id) (marked_from id (lane + 1) ts)

abbrev pub marked_on : Lanes → ℕ → List LaneMarks
marked_on s id = marked_from id 1 s.tracks

-- a standing, with its lane
pub record LanePlace : Type 0 where
  pub lane : ℕ
  pub standing : Standing

abbrev pub placed : ℕ → Option Standing → Option LanePlace
placed lane None = None
placed lane (Some standing) = Some (record { lane = lane; standing = standing })

-- THE STANDING of an id: that of its marks, which are all on one lane. Marks on several lanes give
-- none
abbrev pub standing_on : List LaneMarks → Option LanePlace
standing_on [] = None
standing_on (own ∷ []) = placed own.lane (standing_of own.marks)
standing_on (own ∷ other ∷ others) = None

abbrev pub is_same_place : Option LanePlace → Option LanePlace → Bool
is_same_place None None = true
is_same_place None (Some _) = false
is_same_place (Some _) None = false
is_same_place (Some place) (Some other) =
    if place.lane == other.lane
    then is_same_standing (Some place.standing) (Some other.standing) else false

abbrev pub standing_happens : ℕ → Standing → Happening
standing_happens id (standings.With machine) = happenings.With machine id
standing_happens id (standings.Between gap) = happenings.Between gap id

abbrev pub place_told : ℕ → Option LanePlace → List LaneHappening
place_told id None = []
place_told id (Some place) = told_on place.lane (standing_happens id place.standing ∷ [])

-- a new standing is told where it is another than before, and an id is told to be gone where its
-- last mark went
abbrev pub marks_told : ℕ → List LaneMarks → List LaneMarks → List LaneHappening
marks_told id [] [] = []
marks_told id (own ∷ others) [] = told_on 1 (happenings.Gone id ∷ [])
marks_told id before (own ∷ others) =
    if is_same_place (standing_on (own ∷ others)) (standing_on before) then [] else
    place_told id (standing_on (own ∷ others))

-- the standings that changed from a state to another, in ascending order of id
abbrev pub standings_on : Lanes → Lanes → List LaneHappening
standings_on before after =
    flat_map (λ (id : ℕ). marks_told id (marked_on before id) (marked_on after id))
    (ascending (flat_map ids_marked before.tracks ++ flat_map ids_marked after.tracks))
