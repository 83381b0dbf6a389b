-- What one_standing says of an honest run of a track: an id with a mark is at home there, and the
-- machines' records are fit.
use Rattle.std.proofs.Common.{◌≡◌, ◌≢◌, ◌++◌, ℕ, Bool, true, false, List, [], ◌∷◌, length, refl, sym, subst, arith, append-nil, append_assoc}
use Rattle.line_report.specs.declared.happening.Happening.{Happening}
use Rattle.line_step.specs.Homes.{is_home}
use Rattle.line_step.specs.Runs.{Point, all_told, state_behind}
use Rattle.line_step.specs.State.{LineState, marks_in, no_line}
use Rattle.law_one_standing.proofs.Carrying.{SaysAlone}
use Rattle.law_one_standing.proofs.Comings.{away_has_none}
use Rattle.law_one_standing.proofs.Connected.{connects_bear}
use Rattle.law_one_standing.proofs.FactsOf.{facts_of}
use Rattle.law_one_standing.proofs.LineRun.{AreStoodBy, StoodBy, none_stood, run_by}
use Rattle.law_one_standing.proofs.MarksOf.{first_among, mark_stands}
use Rattle.law_one_standing.proofs.OneStand.{one_standing_of}
use Rattle.law_lanes.proofs.Points.{take_past}
use Rattle.law_lanes.proofs.Walk.{HonestTrack, IsAtHome}

last_stood : (past : List Happening) (s : LineState) (points : List Point) → StoodBy past s
    → AreStoodBy past points → StoodBy (past ++ all_told points) (state_behind s points)
last_stood past s [] was all =
    subst (λ (told : List Happening). StoodBy told s) (sym (append-nil past)) was
last_stood past s (point ∷ points) was all =
    subst (λ (told : List Happening). StoodBy told (state_behind point.after points))
    (append_assoc past point.told (all_told points))
    (last_stood (past ++ point.told) point.after points all.0 all.1)

at_home_by : SaysAlone → (points : List Point) (s : LineState) → StoodBy (all_told points) s
    → IsAtHome points s
at_home_by alone points s by =
    record {
      home = λ id some. home_of id some (is_home id (all_told points)) refl;
      fit = λ machine. by.stood.stands.fit machine;
      one = one_standing_of by.stood.trace s by.stood.stands;
      custody = facts_of alone by.stood.trace s by.stood.stands by.stood.waits;
    } where
      home_of : (id : ℕ) → marks_in s id ≢ [] → (home : Bool)
          → is_home id (all_told points) ≡ home → is_home id (all_told points) ≡ true
      home_of id some true is = is
      home_of id some false is =
          let first = first_among (marks_in s id) some in
          absurd (away_has_none by.stood.stands (by.away id is)
          (mark_stands s id first.0 first.1))

pub honest_track : SaysAlone → HonestTrack
honest_track alone asked points fit short run honest =
    let whole = take_past (length points) points (omega arith) in
    let each = run_by alone connects_bear [] no_line asked points (length points) fit short
    none_stood run honest.told honest.newcomers in
    at_home_by alone points (state_behind no_line points)
    (last_stood [] no_line points none_stood
    (subst (λ (all : List Point). AreStoodBy [] all) whole each))
