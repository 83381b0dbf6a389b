-- The relation of the line along a run of a script.
use Rattle.std.proofs.Common.{List, [], ap, append-nil, arith, false, length, refl, suc, subst, sym, take, zero, ℕ, ◌++◌, ◌+◌, ◌∙◌, ◌∷◌, ◌≡◌, ◌≤◌}
use Rattle.std.proofs.lemmas.Bool.{false≢true, or_parts, or_from}
use Rattle.std.specs.List.{AllByRecursion}
use Rattle.line_report.specs.declared.happening.Happening.{Happening}
use Rattle.line_step.specs.Lies.{has_lie, is_lie, tells_lie}
use Rattle.line_step.specs.Lines.{LineDoes, LineSteps}
use Rattle.line_step.specs.Tracks.{ComesFromElsewhere, TrackLine, TrackSteps, other_line, own_line}
use Rattle.line_step.specs.Homes.{AreNewcomers, IsHonest, IsNewcomer}
use Rattle.line_step.specs.FloorIds.{boards_of}
use Rattle.line_step.specs.World.{WorldParts}
use Rattle.line_world.specs.Boards.{boards_on}
use Rattle.line_world.specs.declared.board.Board.{Board}
use Rattle.line_step.specs.Runs.{IsRun, Point, IsShort}
use Rattle.line_step.specs.Shown.{standings_told}
use Rattle.line_step.specs.State.{LineState, no_line}
use Rattle.line_step.specs.Together.{IsLineTogether}
use Rattle.line_step.specs.Requests.{Request}
use Rattle.line_step.proofs.Keeps.{does_together, lines_stay}
use Rattle.law_one_standing.specs.Carried.{Trace}
use Rattle.law_one_standing.specs.Stands.{Stands}
use Rattle.law_one_standing.specs.Standing.{HasOneStanding, IsFitRequest, IsFitTrack, OneStanding}
use Rattle.law_one_standing.specs.Waits.{AreWaiting}
use Rattle.law_one_standing.proofs.ApartFloor.{counted}
use Rattle.law_one_standing.proofs.ApartStep.{LeftBy, does_goes, told_before}
use Rattle.law_one_standing.proofs.Away.{AreAway, away_then, done_asked, news_of, ungone}
use Rattle.law_one_standing.proofs.Behind.{Bears}
use Rattle.law_one_standing.proofs.Beside.{beside_stands, beside_waits}
use Rattle.law_one_standing.proofs.Carrying.{SaysAlone}
use Rattle.law_one_standing.proofs.HandSteps.{Around}
use Rattle.law_one_standing.proofs.LineForms.{ConnectsBear, line_bears}
use Rattle.law_one_standing.proofs.OneStand.{one_standing_of}
use Rattle.law_one_standing.proofs.RestMore.{counted_stands}
use Rattle.law_one_standing.proofs.RestNone.{no_trace, none_stands}
use Rattle.law_one_standing.proofs.SpoilingWaits.{does_waiting, none_waiting}
use Rattle.law_one_standing.proofs.WholeLinks.{does_whole_links}

-- a line of a script leaves the line in its relation
pub record Stood (s : LineState) : Type 0 where
  pub trace : Trace
  pub stands : Stands trace s
  pub waits : AreWaiting s

-- and a track knows nothing of the boards that are away, by what it told
pub record StoodBy (past : List Happening) (s : LineState) : Type 0 where
  pub stood : Stood s
  pub away : AreAway past stood.trace s

pub honest_front : (a b : List Happening) → tells_lie (a ++ b) ≡ false → tells_lie a ≡ false
honest_front [] b is = refl
honest_front (h ∷ a) b is = or_from (is_lie h) (tells_lie a) (or_parts (is_lie h) (tells_lie (a ++ b)) is).0 (honest_front a b (or_parts (is_lie h) (tells_lie (a ++ b)) is).1)

does_stood : SaysAlone → ConnectsBear → (number : ℕ) (past : List Happening) (request : Request) (before next : LineState) (done : List Happening) → number ≤ 1000000 → IsFitRequest request → IsNewcomer past (own_line request) → ComesFromElsewhere request before → tells_lie done ≡ false
    → StoodBy past before → LineDoes number request before next done → StoodBy (past ++ (done ++ standings_told before next)) next
does_stood alone connects number past request before next done few fit new from honest by does =
    let was = by.stood in
    let st = was.stands in
    let told : List Happening = done ++ standings_told before next in
    let goes = does_goes number request before next done st.ids from does in
    let together : IsLineTogether next = does_together number request before next done st.together does in
    let asked = done_asked number request before next done does in
    let news = news_of request was.trace before next told st goes asked from (ungone past request was.trace before by.away new) in
    let around : Around was.trace before next told = record { st = st; together = together; goes = goes; news = news } in
    let bears = line_bears connects number request was.trace before next done told
    (record { alone = alone; few = few; waits = was.waits; around = around; within = λ h is. told_before (standings_told before next) is }) honest fit does in
    let b : Bears (LeftBy request before) was.trace bears.0 next = bears.1 in
    record {
      stood = record {
        trace = bears.0;
        stands = record { keeps = b.keeps; carried = b.carried; rest = b.rest; fit = b.fit; sound = b.sound; links = does_whole_links number request before next done st.links does; together = together; ids = goes.holds; olds = b.olds };
        waits = does_waiting number request before next done was.waits does;
      };
      away = away_then number past request was.trace bears.0 before next done (record { st = st; goes = goes; news = news; asked = asked; does = does; was = b.was }) by.away;
    }

pub line_stood : SaysAlone → ConnectsBear → (number : ℕ) (past : List Happening) (request : Request) (before after : LineState) (told : List Happening) → number ≡ before.lines + 1 → number ≤ 1000000 → IsFitRequest request → IsNewcomer past (own_line request) → ComesFromElsewhere request before → tells_lie told ≡ false
    → StoodBy past before → LineSteps number request before after told → StoodBy (past ++ told) after
line_stood alone connects number past request before after told is few fit new from honest was steps =
    let next : LineState = steps.next in
    let front : tells_lie steps.done ≡ false = honest_front steps.done (standings_told before next) (ap tells_lie (sym steps.told_is) ∙ honest) in
    let by = does_stood alone connects number past request before next steps.done few fit new from front was steps.does in
    let same : next.lines ≡ before.lines = lines_stay number request before next steps.done steps.does in
    let counted : steps.lines ≤ 1000000 = omega (arith, same, is, few, steps.counts.most) in
    subst (λ (hs : List Happening). StoodBy (past ++ hs) after) (sym steps.told_is)
    (subst (λ (s : LineState). StoodBy (past ++ (steps.done ++ standings_told before next)) s) (sym steps.after_is) (record {
      stood = record {
        trace = by.stood.trace;
        stands = counted_stands by.stood.trace next steps.lines counted by.stood.stands;
        waits = λ machine. by.stood.waits machine;
      };
      away = λ id far. record { lies = (by.away id far).lies; gone = (by.away id far).gone };
    }))

-- and so does one of another track
pub track_stood : SaysAlone → ConnectsBear → (number : ℕ) (past : List Happening) (line : TrackLine) (before after : LineState) (told : List Happening) → number ≡ before.lines + 1 → number ≤ 1000000 → IsFitTrack line → IsNewcomer past line → tells_lie told ≡ false
    → StoodBy past before → TrackSteps number line before after told → StoodBy (past ++ told) after
track_stood alone connects number past (own_line request) before after told is few fit new honest was steps = line_stood alone connects number past request before after told is few fit new steps.1 honest was steps.0
track_stood alone connects number past other_line before after told is few fit new honest was steps =
    let least : after.lines ≤ 1000000 = omega (arith, is, few, steps.0.counts.most) in
    let trace : Trace = was.stood.trace in
    let boards : boards_of after ≡ boards_of before = ap (λ (w : WorldParts). boards_on w.floor) steps.0.world in
    let same : past ++ told ≡ past = ap (λ (hs : List Happening). past ++ hs) steps.1 ∙ append-nil past in
    subst (λ (hs : List Happening). StoodBy hs after) (sym same) (record {
      stood = record { trace = trace; stands = beside_stands trace before after least steps.0 was.stood.stands; waits = beside_waits before after steps.0 was.stood.waits };
      away = λ id far. record { lies = ap (λ (bs : List Board). counted id bs) boards ∙ (was.away id far).lies; gone = (was.away id far).gone };
    })

-- ---- along a run

abbrev pub AreStood : List Point → Type 0
AreStood points = AllByRecursion (λ (point : Point). Stood point.after) points

-- with what each point has behind it
abbrev pub AreStoodBy : List Happening → List Point → Type 0
AreStoodBy past [] = Unit {0}
AreStoodBy past (point ∷ points) = StoodBy (past ++ point.told) point.after × AreStoodBy (past ++ point.told) points

pub are_stood : (past : List Happening) (points : List Point) → AreStoodBy past points → AreStood points
are_stood past [] all = tt
are_stood past (point ∷ points) all = (all.0.stood, are_stood (past ++ point.told) points all.1)

pub run_by : SaysAlone → ConnectsBear → (past : List Happening) (s : LineState) (asked : List TrackLine) (points : List Point) (n : ℕ) → AllByRecursion IsFitTrack asked → IsShort s points → StoodBy past s → IsRun s asked points → has_lie (take n points) ≡ false
    → AreNewcomers past (take n asked) (take n points) → AreStoodBy past (take n points)
run_by alone connects past s asked points zero fit few was run honest new = tt
run_by alone connects past s [] [] (suc n) fit few was run honest new = tt
run_by alone connects past s [] (point ∷ points) (suc n) fit few was run honest new = elim run [ ]
run_by alone connects past s (line ∷ asked) [] (suc n) fit few was run honest new = elim run [ ]
run_by alone connects past s (line ∷ asked) (point ∷ points) (suc n) fit few was run honest new =
    let one : tells_lie point.told ≡ false = (or_parts (tells_lie point.told) (has_lie (take n points)) honest).0 in
    let others : has_lie (take n points) ≡ false = (or_parts (tells_lie point.told) (has_lie (take n points)) honest).1 in
    let here : s.lines + 1 ≤ 1000000 = few.0 in
    let stood : StoodBy (past ++ point.told) point.after = track_stood alone connects (s.lines + 1) past line s point.after point.told refl here fit.0 new.0 one was run.0 in
    let left : IsShort point.after points = few.1 in
    (stood, run_by alone connects (past ++ point.told) point.after asked points n fit.1 left stood run.1 others new.1)

pub run_stood : SaysAlone → ConnectsBear → (s : LineState) (asked : List TrackLine) (points : List Point) (n : ℕ) → AllByRecursion IsFitTrack asked → IsShort s points → StoodBy [] s → IsRun s asked points → IsHonest asked points n → AreStood (take n points)
run_stood alone connects s asked points n fit few was run honest = are_stood [] (take n points) (run_by alone connects [] s asked points n fit few was run honest.told honest.newcomers)

pub none_stood : StoodBy [] no_line
none_stood = record { stood = record { trace = no_trace; stands = none_stands; waits = none_waiting }; away = λ id far. record { lies = refl; gone = λ link gone. absurd (false≢true gone) } }

standing_each : (points : List Point) → AreStood points → AllByRecursion (λ (point : Point). HasOneStanding point.after) points
standing_each [] all = tt
standing_each (point ∷ points) all = (one_standing_of all.0.trace point.after all.0.stands, standing_each points all.1)

-- THE HEADLINE
pub one_standing : SaysAlone → ConnectsBear → OneStanding
one_standing alone connects asked points n fit few run honest = standing_each (take n points) (run_stood alone connects no_line asked points n fit few none_stood run honest)
