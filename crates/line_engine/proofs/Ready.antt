-- A lane on which a line may be done is there, and stands together before each step of the code.
use Rattle.std.proofs.Common.{◌≡◌, ◌∙◌, ℕ, Bool, true, false, zero, suc, List, ap, refl}
use Rattle.std.specs.Prelude.{Option, None, Some, Ok, Err, not}
use Rattle.line_report.specs.declared.happening.Happening.{Happening}
use Rattle.line_report.specs.declared.happening.Reason.{Reason}
use Rattle.line_script.specs.declared.line.ScriptLine.{ScriptLine}
use Rattle.line_step.specs.Lines.{LineDoes}
use Rattle.line_step.specs.Reasons.{May, may_do, no_if}
use Rattle.line_step.specs.Requests.{Request, request_of}
use Rattle.line_step.specs.State.{LineState}
use Rattle.line_step.specs.Together.{IsLineTogether}
use Rattle.line_step.proofs.Keeps.{does_together}
use Rattle.law_lanes.specs.Lanes.{Lanes, has_lane}
use Rattle.law_lanes.specs.Reasons.{and_may, first_track, is_named, may_on}
use Rattle.node_core.specs.declared.input.No.TheVariants as nos
use Rattle.line_report.specs.declared.happening.Reason.TheVariants as reasons
use Rattle.line_machines.specs.Given.{is_of_lane}
use Rattle.line_machines.specs.Sharing.{AreNumbered}
use Rattle.line_engine.specs.Tracks.{AreKept, IsFollowing, IsOwn, IsReady, StepsOn, lanes_of, track_in}
use Rattle.line_marks.specs.Stepped.{first_stepped, last_stepped}
use Rattle.line_engine.specs.declared.track.Track.{Track}
use Rattle.line_machines.proofs.Numbering.{not_adding}
use Rattle.line_engine.proofs.Lanes.{has_there, some_of}
use Rattle.line_machines.proofs.Numbering.{line_numbered}
use Rattle.line_engine.proofs.OnLane.{own_at, second_there}
use Rattle.line_engine.proofs.Telling.{with_there}

lane_by : (named : May) (has : Bool) (reason : Reason) → and_may named (no_if (not has) reason may_do) ≡ may_do → has ≡ true
lane_by (Err why) has reason may = absurd (cc)
lane_by (Ok _) true reason may = refl
lane_by (Ok _) false reason may = absurd (cc)

pub lane_may : (lane : ℕ) (request : Request) (s : Lanes) → may_on lane request s ≡ may_do → has_lane lane s ≡ true
lane_may lane request s may = lane_by (is_named request (first_track s)) (has_lane lane s) (reasons.Node nos.NoLane) may

ready_found : (lane : ℕ) (tracks : List Track) (found : Option Track) → track_in lane tracks ≡ found → AreKept tracks → has_lane lane (lanes_of tracks) ≡ true → IsReady lane tracks
ready_found lane tracks None is kept has = let no = has_there lane tracks None is in absurd (cc)
ready_found zero tracks (Some own) is kept has = absurd (cc)
ready_found (suc place) tracks (Some own) is kept has =
    let mine : IsOwn own = own_at place tracks own kept.each is in
    some_of (λ (t : Track). IsLineTogether t.state × AreNumbered t.state) (suc place) tracks own is (mine.together, mine.numbered)

pub kept_ready : (lane : ℕ) (request : Request) (tracks : List Track) → AreKept tracks → may_on lane request (lanes_of tracks) ≡ may_do → IsReady lane tracks
kept_ready lane request tracks kept may = ready_found lane tracks (track_in lane tracks) refl kept (lane_may lane request (lanes_of tracks) may)

pub steps_ready : (number lane : ℕ) (line : ScriptLine) (before after : List Track) (done : List Happening) → is_of_lane line ≡ true → AreKept before → StepsOn lane (λ (s t : LineState). LineDoes number (request_of line) s t done) before after → IsReady lane after
steps_ready number zero line before after done own kept s = let none = s.there in absurd (cc)
steps_ready number (suc place) line before after done own kept s =
    let mine : IsOwn s.own = own_at place before s.own kept.each s.there in
    let now : Track = record s.own { state = s.next } in
    some_of (λ (t : Track). IsLineTogether t.state × AreNumbered t.state) (suc place) after now (ap (track_in (suc place)) s.after_is ∙ with_there (suc place) before s.own now s.there)
    (does_together number (request_of line) s.own.state s.next done mine.together s.does, line_numbered number (request_of line) s.own.state s.next done (not_adding line own) mine.numbered s.does)

pub shares_ready : (number lane : ℕ) (line : ScriptLine) (tracks first second : List Track) (done : List Happening) → is_of_lane line ≡ true → AreKept tracks
    → StepsOn lane (λ (s t : LineState). LineDoes number (request_of line) s t done) tracks first → IsFollowing lane (first_stepped line) (last_stepped line) first second → IsReady lane second
shares_ready number zero line tracks first second done own kept s f = let none = s.there in absurd (cc)
shares_ready number (suc place) line tracks first second done own kept s f =
    let mine : IsOwn s.own = own_at place tracks s.own kept.each s.there in
    some_of (λ (t : Track). IsLineTogether t.state × AreNumbered t.state) (suc place) second (record s.own { state = s.next }) (second_there number place line tracks first second done own kept s f)
    (does_together number (request_of line) s.own.state s.next done mine.together s.does, line_numbered number (request_of line) s.own.state s.next done (not_adding line own) mine.numbered s.does)
