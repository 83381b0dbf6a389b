-- A track has no mark of a board that is away, so what comes in a line is none that it has a mark of.
use Rattle.std.proofs.Common.{◌≡◌, ◌≤◌, ℕ, List, [], arith, subst, sym, true}
use Rattle.standings.specs.declared.mark.Mark.{Mark}
use Rattle.line_report.specs.declared.happening.Happening.{Happening}
use Rattle.line_step.specs.FloorIds.{boards_of}
use Rattle.line_step.specs.Homes.{IsNewcomer}
use Rattle.line_step.specs.State.{LineState}
use Rattle.line_step.specs.Tracks.{TrackLine, TrackSteps, other_line, own_line}
use Rattle.line_step.proofs.FloorLaws.{track-goes}
use Rattle.line_step.proofs.Shifted.{steps_asked}
use Rattle.law_one_standing.specs.Carried.{Trace, between_of, stand_of}
use Rattle.law_one_standing.specs.Places.{at_machine, in_gap, lies_at, lies_in}
use Rattle.law_one_standing.specs.Stands.{Stands}
use Rattle.law_one_standing.proofs.ApartFloor.{counted, lies_on_floor}
use Rattle.law_one_standing.proofs.ApartStep.{AreNews, IsNot, come_by}
use Rattle.law_one_standing.proofs.Away.{IsAway, news_of, ungone}
use Rattle.law_one_standing.proofs.LineRun.{StoodBy}
use Rattle.law_one_standing.proofs.MarksOf.{HasMark}
use Rattle.law_one_standing.proofs.MarksPlace.{IsAt, Position, is_between, is_gone, is_listed, part_lies_at}
use Rattle.law_one_standing.proofs.OneStand.{at_link, by_numbers, has_end}

-- a board with a mark lies on the track, or is gone there
known_at : {t : Trace} {s : LineState} {x : ℕ} {p : Position} (P : Type 0) → Stands t s
    → (1 ≤ counted x (boards_of s) → P) → ((link : ℕ) → t.gone link x ≡ true → P)
    → IsAt (stand_of s) (between_of t s) x p → P
known_at {t} {s} {x} P st lies gone (is_listed {m = m} part) =
    lies (lies_on_floor t s x (at_machine m) st.ids.whole
    (lies_at (part_lies_at (has_end t s st) st.keeps part)))
known_at {t} {s} {x} P st lies gone (is_between {k = k} there) =
    lies (lies_on_floor t s x (in_gap k) st.ids.whole (lies_in there))
known_at P st lies gone (is_gone {k = k} so) = gone k so

-- so it is none that comes
pub mark_stays : {t : Trace} {s : LineState} {told : List Happening} {x : ℕ} {mark : Mark}
    → Stands t s → AreNews t s told → HasMark (stand_of s) x mark → IsNot x (come_by told)
mark_stays {told = told} {x = x} st news has =
    known_at (IsNot x (come_by told)) st (news.lies x) (λ link gone. news.gone link x gone)
    (at_link (by_numbers st) has).is

none_on : (count : ℕ) → count ≡ 0 → 1 ≤ count → ⊥
none_on count none some = omega (arith, none, some)

-- and it isn't away
pub away_has_none : {t : Trace} {s : LineState} {x : ℕ} {mark : Mark} → Stands t s → IsAway t s x
    → HasMark (stand_of s) x mark → ⊥
away_has_none {s = s} {x = x} st away has =
    known_at ⊥ st (none_on (counted x (boards_of s)) away.lies) away.gone
    (at_link (by_numbers st) has).is

-- what comes in a line of a track
pub track_news : (number : ℕ) (past : List Happening) (line : TrackLine) (before after : LineState)
    (told : List Happening) → (by : StoodBy past before) → IsNewcomer past line
    → TrackSteps number line before after told → AreNews by.stood.trace before told
track_news number past (own_line request) before after told by new steps =
    let st = by.stood.stands in
    news_of request by.stood.trace before after told st
    (track-goes number (own_line request) before after told st.ids steps)
    (steps_asked number request before after told steps.0) steps.1
    (ungone past request by.stood.trace before by.away new)
track_news number past other_line before after told by new steps =
    subst (λ (all : List Happening). AreNews by.stood.trace before all) (sym steps.1)
    (record { gone = λ link x gone. tt; lies = λ x some. tt })
