-- WHAT HOLDS OF WHATEVER A TRACK DOES NEXT, law by law.
use Rattle.std.specs.Prelude.{◌≡◌, ◌≤◌, ◌+◌, None, List}
use Rattle.law_sentences.specs.Along.{GoInOrder}
use Rattle.line_report.specs.declared.happening.Happening.{Happening}
use Rattle.line_step.specs.Requests.{Request}
use Rattle.line_step.specs.State.{LineState}
use Rattle.line_step.specs.Tracks.{TrackSteps, own_line}
use Rattle.law_one_standing.specs.Reached.{FollowsLine}
use Rattle.law_one_standing.specs.Standing.{IsFitRequest}
use Rattle.law_supervisor_replay.specs.Along.{AgreesNext}
use Rattle.law_sentences.specs.Answers.{AnswersOnce}
use Rattle.line_engine.specs.Blames.{BlamesNext}
use Rattle.line_engine.specs.Contents.{KeepsContentsNext}
use Rattle.line_engine.specs.Each.{Next, NextEver}
use Rattle.line_engine.specs.Opens.{OpensNext}

abbrev pub OrderNext : LineState → Type 0
OrderNext s = Next GoInOrder s

abbrev pub LedgerNext : LineState → Type 0
LedgerNext s = Next FollowsLine s

abbrev pub ContentsNext : LineState → Type 0
ContentsNext s = Next KeepsContentsNext s

abbrev pub BlameNext : LineState → Type 0
BlameNext s =
    (request : Request) (after : LineState) (told : List Happening) → IsFitRequest request
    → s.lines + 1 ≤ 1000000 → TrackSteps (s.lines + 1) (own_line request) s after told
    → after.unvouched ≡ None → BlamesNext request s told

abbrev pub ReplayNext : LineState → Type 0
ReplayNext s =
    (after : LineState) (told : List Happening) → s.lines + 1 ≤ 1000000 → after.unvouched ≡ None
    → AgreesNext s after told

abbrev pub OpensOver : LineState → LineState → List Happening → Type 0
OpensOver before after told = OpensNext before told

abbrev pub OpeningsNext : LineState → Type 0
OpeningsNext s = NextEver OpensOver s

abbrev pub AnswersNext : LineState → Type 0
AnswersNext s = NextEver AnswersOnce s
