-- The ledger follows what a whole line of a script tells of a lane.
use Rattle.std.proofs.Common.{◌≡◌, ◌∙◌, ◌+◌, ◌≤◌, ◌++◌, ℕ, Bool, true, false, List, [], ◌∷◌, None, ap, append-nil, refl, subst, sym}
use Rattle.std.specs.Prelude.{if◌then◌else◌}
use Rattle.line_report.specs.declared.happening.Happening.{Happening}
use Rattle.line_report.specs.declared.happening.Happening.TheVariants as happenings
use Rattle.line_report.specs.declared.happening.LaneHappening.{LaneHappening}
use Rattle.line_script.specs.declared.line.LaneLine.{LaneLine}
use Rattle.standings.specs.Ledger.{AreLegal, Ledger, ledger_after_all}
use Rattle.standings.specs.Standing.{HasStanding}
use Rattle.standings.specs.Marks.{has_mark}
use Rattle.standings.specs.declared.deed.Deed.{Deed}
use Rattle.standings.specs.declared.mark.Mark.{Mark}
use Rattle.line_step.specs.Lines.{LineSteps}
use Rattle.line_step.specs.Requests.{nothing}
use Rattle.line_step.specs.Runs.{Point, all_told, state_behind}
use Rattle.line_step.specs.Shown.{standings_told}
use Rattle.line_step.specs.State.{LineState}
use Rattle.line_step.specs.Tracks.{IsBeside, other_line, own_line}
use Rattle.line_step.proofs.Beside.{beside-marks, beside-old}
use Rattle.line_step.proofs.Counted.{rises}
use Rattle.line_step.proofs.Remarks.{standings_remarks}
use Rattle.law_one_standing.specs.Reached.{Books, FollowsLine, IsBook, IsReached, LedgerAlong}
use Rattle.law_one_standing.specs.Replay.{IsStandingTold, deeds_in, deeds_of}
use Rattle.law_one_standing.proofs.LedgerTold.{deeds_join, remarks_none}
use Rattle.law_one_standing.proofs.LedgerTurns.{after_append, legal_append}
use Rattle.law_one_standing.proofs.Reaching.{made_of, old_of}
use Rattle.law_lanes.specs.Along.{ArePointsOn, EachLaneIsATrack, all_done, is_done, told_for}
use Rattle.law_lanes.specs.Lanes.{Lanes, track, unvouched_of}
use Rattle.law_lanes.specs.Once.{EachRunRemembers}
use Rattle.law_lanes.specs.Parts.{LanePoint}
use Rattle.law_lanes.specs.Parts as lanes
use Rattle.law_lanes.proofs.Points.{told_beside}
use Rattle.line_engine.specs.Each.{AreVouchedAlike}
use Rattle.line_engine.specs.Whole.{OverLanes}
use Rattle.line_engine.proofs.Nexts.{Known, some_points}
use Rattle.line_engine.proofs.OnTracks.{EachAlong, OfEachStep, OnTrackAlong, on_track, so_reached}

-- ---- the deeds are of what is done alone

none_in : (h : Happening) → is_done h ≡ false → deeds_in h ≡ []
none_in (happenings.Done machine act) is = absurd (cc)
none_in _ is = refl

deeds_more : (h : Happening) (told : List Happening) (done : Bool) → is_done h ≡ done → deeds_of told ≡ deeds_of (all_done told) → deeds_in h ++ deeds_of told ≡ deeds_of (if done then h ∷ all_done told else all_done told)
deeds_more h told true is same = ap (λ (ds : List Deed). deeds_in h ++ ds) same
deeds_more h told false is same = ap (λ (ds : List Deed). ds ++ deeds_of told) (none_in h is) ∙ same

deeds_done : (told : List Happening) → deeds_of told ≡ deeds_of (all_done told)
deeds_done [] = refl
deeds_done (h ∷ told) = deeds_more h told (is_done h) refl (deeds_done told)

follows_as : {before after : LineState} (a b : List Happening) → deeds_of a ≡ deeds_of b → FollowsLine before after a → FollowsLine before after b
follows_as {before} {after} a b same f = record {
  ledger = f.ledger;
  beside = f.beside;
  each = λ other book. (let one : Books before after a other = f.each other book in
      record {
        legal = subst (λ (ds : List Deed). AreLegal other ds) same one.legal;
        book = subst (λ (ds : List Deed). IsBook (ledger_after_all other ds) after) same one.book;
        standings = subst (λ (ds : List Deed). IsStandingTold (ledger_after_all other ds) after) same one.standings;
      });
}

-- ---- a line of another lane

quiet_steps : (s : LineState) → LineSteps (s.lines + 1) nothing s (record s { lines = s.lines + 1 }) (standings_told s s)
quiet_steps s = record { next = s; done = []; does = record { after_is = refl; told_is = refl }; lines = s.lines + 1; counts = rises s.lines; after_is = refl; told_is = refl }

quiet_follows : LedgerAlong → (s : LineState) → IsReached s → s.lines + 1 ≤ 1000000 → s.unvouched ≡ None → FollowsLine s (record s { lines = s.lines + 1 }) []
quiet_follows law s reached few none =
    follows_as (standings_told s s) [] (remarks_none (standings_told s s) (standings_remarks s s))
    (law nothing s (record s { lines = s.lines + 1 }) (standings_told s s) reached tt tt tt few (quiet_steps s) none)

beside_book : (s t : LineState) (ledger : Ledger) → IsBeside s t → IsBook ledger s → IsBook ledger t
beside_book s t ledger is book = record {
  past = book.past;
  led = book.led;
  marks = λ entry. book.marks entry ∙ ap (λ (ms : List Mark). has_mark entry.mark ms) (sym (beside-marks s t entry.id is));
  seen = λ id has. made_of t id (beside-old 1 s.machines t.machines is.machines id (old_of s id (book.seen id has)));
}

beside_standings : (s t : LineState) (ledger : Ledger) → IsBeside s t → IsStandingTold ledger (record s { lines = s.lines + 1 }) → IsStandingTold ledger t
beside_standings s t ledger is standings = record {
  told = λ id standing has. subst (λ (ms : List Mark). HasStanding ms standing) (sym (beside-marks s t id is)) (standings.told id standing has);
  whole = λ id standing has. standings.whole id standing (subst (λ (ms : List Mark). HasStanding ms standing) (beside-marks s t id is) has);
}

beside_follows : (s t : LineState) → IsBeside s t → FollowsLine s (record s { lines = s.lines + 1 }) [] → FollowsLine s t []
beside_follows s t is f = record {
  ledger = f.ledger;
  beside = f.beside;
  each = λ other book. record {
    legal = tt;
    book = beside_book s t other is book;
    standings = beside_standings s t other is (f.each other book).standings;
  };
}

pub ledger_step : LedgerAlong → OfEachStep FollowsLine
ledger_step law s asked points (own_line request) point so steps few fit new none = law request s point.after point.told (so_reached s asked points few so) fit new steps.1 few steps.0 none
ledger_step law s asked points other_line point so steps few fit new none =
    subst (λ (told : List Happening). FollowsLine s point.after told) (sym steps.1)
    (beside_follows s point.after steps.0 (quiet_follows law s (so_reached s asked points few so) few (steps.0.vouched none)))

-- ---- one behind the other

books_both : {before between after : LineState} {ledger : Ledger} (a b : List Happening) → Books before between a ledger → FollowsLine between after b → Books before after (a ++ b) ledger
books_both {after = after} {ledger = ledger} a b one follows =
    let middle : Ledger = ledger_after_all ledger (deeds_of a) in
    let two : Books _ after b middle = follows.each middle one.book in
    let legal : AreLegal ledger (deeds_of a ++ deeds_of b) = legal_append ledger (deeds_of a) (deeds_of b) one.legal two.legal in
    let same : ledger_after_all middle (deeds_of b) ≡ ledger_after_all ledger (deeds_of (a ++ b)) =
    sym (after_append ledger (deeds_of a) (deeds_of b)) ∙ ap (λ (ds : List Deed). ledger_after_all ledger ds) (sym (deeds_join a b)) in
    record {
      legal = subst (λ (ds : List Deed). AreLegal ledger ds) (sym (deeds_join a b)) legal;
      book = subst (λ (l : Ledger). IsBook l after) same two.book;
      standings = subst (λ (l : Ledger). IsStandingTold l after) same two.standings;
    }

follows_all : (s : LineState) (point : Point) (points : List Point) → EachAlong FollowsLine s (point ∷ points) → FollowsLine s (state_behind point.after points) (all_told (point ∷ points))
follows_all s point [] each = subst (λ (told : List Happening). FollowsLine s point.after told) (sym (append-nil point.told)) each.0
follows_all s point (next ∷ points) each =
    let later = follows_all point.after next points each.1 in
    record {
      ledger = each.0.ledger;
      beside = each.0.beside;
      each = λ other beside. books_both point.told (all_told (next ∷ points)) (each.0.each other beside) later;
    }

-- ---- A WHOLE LINE

whole_on : (lane : ℕ) (before after : Lanes) (points : List LanePoint) (t : OnTrackAlong FollowsLine lane before after points) → (points ≡ [] → ⊥) → FollowsLine (track lane before) (track lane after) (told_for lane (lanes.all_told points))
whole_on lane before after [] t are = absurd (are refl)
whole_on lane before after (first ∷ points) t are =
    by t.own t.beside t.each t.behind
  where
    by : (own : List Point) → ArePointsOn lane (first ∷ points) own → EachAlong FollowsLine (track lane before) own → state_behind (track lane before) own ≡ track lane after
        → FollowsLine (track lane before) (track lane after) (told_for lane (lanes.all_told (first ∷ points)))
    by [] beside each behind = absurd beside
    by (x ∷ own) beside each behind =
        follows_as (all_told (x ∷ own)) (told_for lane (lanes.all_told (first ∷ points)))
        (deeds_done (all_told (x ∷ own)) ∙ ap deeds_of (told_beside lane (first ∷ points) (x ∷ own) beside) ∙ sym (deeds_done (told_for lane (lanes.all_told (first ∷ points)))))
        (subst (λ (s : LineState). FollowsLine (track lane before) s (all_told (x ∷ own))) behind (follows_all (track lane before) x own each))

pub ledger_whole : EachLaneIsATrack → EachRunRemembers → LedgerAlong → (line : LaneLine) (before after : Lanes) (told : List LaneHappening) → Known line before after told → AreVouchedAlike after → unvouched_of after ≡ None → OverLanes FollowsLine before after told
ledger_whole tracks remembers law line before after told k alike none =
    λ lane least.
    subst (λ (hs : List LaneHappening). FollowsLine (track lane before) (track lane after) (told_for lane hs)) (sym k.steps.told_is)
    (whole_on lane before after k.steps.points (on_track FollowsLine (ledger_step law) tracks remembers line before after told k alike none lane least) (some_points line before after told k))
