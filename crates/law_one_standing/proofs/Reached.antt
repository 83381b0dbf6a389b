-- The laws of a line that a run has led to.
use Rattle.std.proofs.Common.{Bool, List, None, [], ap, append-nil, append_assoc, arith, false, length, refl, subst, sym, ℕ, ◌++◌, ◌+◌, ◌∙◌, ◌∷◌, ◌≡◌, ◌≤◌}
use Rattle.std.proofs.lemmas.Bool.{or_parts, or_from}
use Rattle.std.specs.List.{AllByRecursion}
use Rattle.line_report.specs.declared.happening.Happening.{Happening}
use Rattle.standings.specs.Ledger.{Ledger, empty_ledger, ledger_after_all}
use Rattle.line_step.specs.FloorIds.{boards_of}
use Rattle.line_step.specs.Lies.{has_lie, tells_lie}
use Rattle.line_step.specs.Lines.{LineSteps}
use Rattle.line_step.specs.Homes.{AreNewcomers, IsNewcomer}
use Rattle.line_step.specs.Tracks.{ComesFromElsewhere, TrackLine, TrackSteps, other_line, own_line}
use Rattle.line_step.specs.Runs.{IsRun, Point, all_told, state_behind, IsShort}
use Rattle.line_step.specs.State.{LineState, marks_in, no_line}
use Rattle.line_step.specs.Requests.{Request}
use Rattle.line_step.proofs.FloorLaws.{Holds, track-goes}
use Rattle.step_rules.specs.Makers.{IsOld}
use Rattle.line_step.proofs.Vouching.{none_lied, unvouched-before}
use Rattle.law_one_standing.specs.Reached.{Books, CustodyAlong, IdsAlong, IsBook, IsReached, LedgerAlong, StandsAlong}
use Rattle.law_one_standing.specs.Replay.{deeds_of}
use Rattle.law_one_standing.specs.Standing.{IsFitTrack}
use Rattle.law_one_standing.proofs.Carrying.{SaysAlone}
use Rattle.law_one_standing.proofs.FactsOf.{facts_of}
use Rattle.law_one_standing.proofs.LedgerLine.{Led, line_led}
use Rattle.law_one_standing.proofs.LedgerMarks.{FitsLine, entries_of, ledger_of, mark_old}
use Rattle.law_one_standing.proofs.LedgerRun.{none_fits, track_led}
use Rattle.law_one_standing.proofs.LedgerStandings.{standing_told}
use Rattle.law_one_standing.proofs.LineForms.{ConnectsBear}
use Rattle.law_one_standing.proofs.LineRun.{Stood, StoodBy, none_stood, track_stood}
use Rattle.law_one_standing.proofs.MarksOf.{first_among, mark_stands}
use Rattle.law_one_standing.proofs.OneStand.{one_standing_of}
use Rattle.law_one_standing.proofs.Reaching.{behind_more, boards_made, made_of, old_of, reached_run}

-- ---- no lie in the lines so far, nor in the next

honest_last : (points : List Point) (point : Point) → has_lie (points ++ point ∷ []) ≡ false → tells_lie point.told ≡ false
honest_last [] point is = (or_parts (tells_lie point.told) false is).0
honest_last (first ∷ points) point is = honest_last points point (or_parts (tells_lie first.told) (has_lie (points ++ point ∷ [])) is).1

honest_run : (s : LineState) (asked : List TrackLine) (points : List Point) → IsRun no_line asked points → state_behind no_line points ≡ s → s.unvouched ≡ None → has_lie points ≡ false
honest_run s asked points run behind none = none_lied asked points run (ap (λ (t : LineState). t.unvouched) behind ∙ none)

honest : (s : LineState) (reached : IsReached s) → s.unvouched ≡ None → has_lie reached.points ≡ false
honest s reached none = honest_run s reached.asked reached.points reached.run reached.behind none

-- nor does a line tell one behind which nobody did
honest_step : (request : Request) (before after : LineState) (told : List Happening) → (reached : IsReached before) → LineSteps (before.lines + 1) request before after told → ComesFromElsewhere request before → after.unvouched ≡ None → tells_lie told ≡ false
honest_step request before after told reached steps from none =
    let point : Point = record { told = told; after = after } in
    let asked : List TrackLine = reached.asked ++ own_line request ∷ [] in
    honest_last reached.points point (honest_run after asked (reached.points ++ point ∷ []) (reached_run request before after told reached steps from) (behind_more no_line reached.points point) none)

-- ---- what an honest run leaves

record Told (past : List Happening) (s : LineState) : Type 0 where
  stood : StoodBy past s
  ledger : Ledger
  fits : FitsLine (IsOld 1 s.machines) s ledger

told_line : SaysAlone → ConnectsBear → (past : List Happening) (line : TrackLine) (before after : LineState) (told : List Happening) → before.lines + 1 ≤ 1000000 → IsFitTrack line → IsNewcomer past line → tells_lie told ≡ false → Told past before → TrackSteps (before.lines + 1) line before after told
    → Told (past ++ told) after
told_line alone connects past line before after told few fit new none was steps =
    let stood : StoodBy (past ++ told) after = track_stood alone connects (before.lines + 1) past line before after told refl few fit new none was.stood steps in
    let led : Led (IsOld 1 after.machines) after was.ledger told = track_led was.stood.stood.trace stood.stood.trace (before.lines + 1) line before after told was.ledger was.stood.stood.stands stood.stood.stands steps was.fits in
    record { stood = stood; ledger = ledger_after_all was.ledger (deeds_of told); fits = led.fits }

told_run : SaysAlone → ConnectsBear → (past : List Happening) (s : LineState) (asked : List TrackLine) (points : List Point) → AllByRecursion IsFitTrack asked → IsShort s points → Told past s → IsRun s asked points → has_lie points ≡ false → AreNewcomers past asked points
    → Told (past ++ all_told points) (state_behind s points)
told_run alone connects past s [] [] fit few was run none new = subst (λ (hs : List Happening). Told hs s) (sym (append-nil past)) was
told_run alone connects past s [] (point ∷ points) fit few was run none new = absurd run
told_run alone connects past s (line ∷ asked) [] fit few was run none new = absurd run
told_run alone connects past s (line ∷ asked) (point ∷ points) fit few was run none new =
    let now : Told (past ++ point.told) point.after = told_line alone connects past line s point.after point.told few.0 fit.0 new.0 (or_parts (tells_lie point.told) (has_lie points) none).0 was run.0 in
    let left : IsShort point.after points = few.1 in
    subst (λ (hs : List Happening). Told hs (state_behind point.after points)) (append_assoc past point.told (all_told points))
    (told_run alone connects (past ++ point.told) point.after asked points fit.1 left now run.1 (or_parts (tells_lie point.told) (has_lie points) none).1 new.1)

none_told : Told [] no_line
none_told = record { stood = none_stood; ledger = empty_ledger; fits = none_fits }

told_by : SaysAlone → ConnectsBear → (s : LineState) (reached : IsReached s) → s.unvouched ≡ None → Told (all_told reached.points) s
told_by alone connects s reached none =
    subst (λ (t : LineState). Told (all_told reached.points) t) reached.behind
    (told_run alone connects [] no_line reached.asked reached.points (reached.fit none) reached.short none_told reached.run (honest s reached none) (reached.newcomers none))

pub stands_along : SaysAlone → ConnectsBear → StandsAlong
stands_along alone connects s reached none =
    let now : Stood s = (told_by alone connects s reached none).stood.stood in
    one_standing_of now.trace s now.stands

pub custody_along : SaysAlone → ConnectsBear → CustodyAlong
custody_along alone connects s reached none =
    let now : Stood s = (told_by alone connects s reached none).stood.stood in
    facts_of alone now.trace s now.stands now.waits

-- ---- unique ids

holds_run : (s : LineState) (asked : List TrackLine) (points : List Point) → Holds s → IsRun s asked points → Holds (state_behind s points)
holds_run s [] [] was run = was
holds_run s [] (point ∷ points) was run = absurd run
holds_run s (line ∷ asked) [] was run = absurd run
holds_run s (line ∷ asked) (point ∷ points) was run = holds_run point.after asked points (track-goes (s.lines + 1) line s point.after point.told was run.0).holds run.1

pub ids_along : SaysAlone → ConnectsBear → IdsAlong
ids_along alone connects s reached =
    let held : Holds s = subst (λ (t : LineState). Holds t) reached.behind (holds_run no_line reached.asked reached.points none_stood.stood.stands.ids reached.run) in
    record {
      differ = held.differ;
      boards = boards_made s (boards_of s) held.old;
      marked = λ none id has. (let now : Stood s = (told_by alone connects s reached none).stood.stood in
          let first = first_among (marks_in s id) has in
          made_of s id (mark_old {mark = first.0} now.stands (mark_stands s id first.0 first.1)));
    }

-- ---- the ledger

book_of : (s : LineState) (ledger : Ledger) → FitsLine (IsOld 1 s.machines) s ledger → IsBook ledger s
book_of s ledger fits = record { past = fits.past; led = fits.is; marks = ledger_of s ledger fits; seen = λ id has. made_of s id (fits.olds id has) }

fits_of : (s : LineState) (ledger : Ledger) → IsBook ledger s → FitsLine (IsOld 1 s.machines) s ledger
fits_of s ledger book = record { past = book.past; is = book.led; all = entries_of s ledger book.marks; olds = λ id has. old_of s id (book.seen id has) }

books_line : (before after : LineState) (request : Request) (told : List Happening) (ledger : Ledger) → Stood before → Stood after → ComesFromElsewhere request before → LineSteps (before.lines + 1) request before after told → IsBook ledger before → Books before after told ledger
books_line before after request told ledger was now from steps book =
    let led : Led (IsOld 1 after.machines) after ledger told = line_led was.trace now.trace (before.lines + 1) request before after told ledger was.stands now.stands from steps (fits_of before ledger book) in
    let later : Ledger = ledger_after_all ledger (deeds_of told) in
    record { legal = led.legal; book = book_of after later led.fits; standings = standing_told later after (ledger_of after later led.fits) }

pub ledger_along : SaysAlone → ConnectsBear → LedgerAlong
ledger_along alone connects request before after told reached fit new from few steps none =
    let honest_told : tells_lie told ≡ false = honest_step request before after told reached steps from none in
    let was = told_by alone connects before reached (unvouched-before (before.lines + 1) request before after told steps none) in
    let now = told_line alone connects (all_told reached.points) (own_line request) before after told few fit new honest_told was (steps, from) in
    record {
      ledger = was.ledger;
      beside = book_of before was.ledger was.fits;
      each = λ other book. books_line before after request told other was.stood.stood now.stood.stood from steps book;
    }

-- ---- the relation

-- where no line told what was not so, the state before the last one stands in the relation of the line, and knows nothing
-- of boards that are away
pub stood_before : SaysAlone → ConnectsBear → (request : Request) (before after : LineState) (told : List Happening) → (reached : IsReached before) → LineSteps (before.lines + 1) request before after told → after.unvouched ≡ None → StoodBy (all_told reached.points) before
stood_before alone connects request before after told reached steps none = (told_by alone connects before reached (unvouched-before (before.lines + 1) request before after told steps none)).stood
