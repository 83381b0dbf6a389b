use Rattle.std.proofs.Common.{List, None, subst, sym, ◌∙◌, ◌≡◌, ◌≤◌, ℕ}
use Rattle.std.proofs.lemmas.Result.{IfOk-weaker}
use Rattle.std.specs.Prelude.{Err, IfOk, Ok, Result}
use Rattle.law_sentences.specs.Within.{IsBounded}
use Rattle.line_report.specs.declared.happening.LaneHappening.{LaneHappening}
use Rattle.line_step.specs.State.{LineState}
use Rattle.law_one_standing.specs.Facts.{HasCustodyFacts}
use Rattle.law_one_standing.specs.Reached.{FollowsLine, HasUniqueIds, IsReached}
use Rattle.law_one_standing.specs.Standing.{HasOneStanding}
use Rattle.law_lanes.specs.Along.{IsLaneReached, IsOnOneLane}
use Rattle.law_lanes.specs.Lanes.{lines_of, track, unvouched_of}
use Rattle.law_lanes.specs.Parts.{LaneLineSteps}
use Rattle.line_engine.specs.Each.{AreVouchedAlike, EachLaneNow, EachNext}
use Rattle.line_engine.specs.Next.{AnswersNext, BlameNext, ContentsNext, LedgerNext, OpeningsNext, OrderNext, ReplayNext}
use Rattle.line_engine.proofs.Bounded.{bounded_behind}
use Rattle.line_engine.proofs.Nexts.{Known, answers_next, blame_next, contents_next, each_next, each_now, ledger_next, line_counted, openings_next, order_next, reached_next, replay_next}
use Rattle.line_engine.specs.Whole.{OverLanes}
use Rattle.law_sentences.specs.Along.{GoInOrder}
use Rattle.line_engine.proofs.WholeLedger.{ledger_whole}
use Rattle.line_engine.proofs.WholeOrder.{order_whole}
use Rattle.line_engine.proofs.line.Line.step.Goals as goal
use Rattle.line_engine.proofs.line.Line.step.Goals.{After-play}

IfOk-both : {A E : Type 0} (result : Result A E) (P Q : A → Type 0) → IfOk result P → IfOk result Q → IfOk result (λ a. P a × Q a)
IfOk-both (Ok a) P Q p q = (p, q)
IfOk-both (Err e) P Q p q = tt

-- what is known of the line behind which a run has led
known : (c : After-play) (told : List LaneHappening) → LaneLineSteps c.args.line.now c.args.self.now c.play.new.self told → Known c.args.line.now c.args.self.now c.play.new.self told
known c told steps = record {
  parts = c.each_part_is_reached.ensures;
  reached = c.known.ensures;
  fit = c.is_fit.ensures;
  few = subst (λ (n : ℕ). n ≤ 1000000) c.requires.numbered c.requires.few;
  steps = steps;
}

reached : (c : After-play) (told : List LaneHappening) → LaneLineSteps c.args.line.now c.args.self.now c.play.new.self told → IsLaneReached c.play.new.self
reached c told steps = reached_next c.args.line.now c.args.self.now c.play.new.self told c.known.ensures c.is_fit.ensures (subst (λ (n : ℕ). n ≤ 1000000) c.requires.numbered c.requires.few) steps

-- of each lane to which a run has led
lanes : (c : After-play) (Holds : LineState → Type 0) (told : List LaneHappening) → LaneLineSteps c.args.line.now c.args.self.now c.play.new.self told → ((s : LineState) → IsReached s → Holds s) → EachLaneNow Holds c.play.new.self
lanes c Holds told steps law = each_now Holds law c.args.line.now c.args.self.now c.play.new.self told (known c told steps)

-- the number of the line behind it
counted : (c : After-play) (told : List LaneHappening) → LaneLineSteps c.args.line.now c.args.self.now c.play.new.self told → lines_of c.play.new.self ≡ c.args.number
counted c told steps = line_counted c.args.line.now c.args.self.now c.play.new.self told steps ∙ sym c.requires.numbered

pub returns-clause-reached : goal.returns-clause-reached
returns-clause-reached c =
    let at = (goal.at.returns-clause-reached c).After-play in
    IfOk-weaker c.play.result (λ told. LaneLineSteps c.args.line.now c.args.self.now c.play.new.self told) (λ told. IsLaneReached c.play.new.self)
    (λ told steps. reached at told steps) c.play.ensures.step

pub returns-clause-bounded : goal.returns-clause-bounded
returns-clause-bounded c =
    let at = (goal.at.returns-clause-bounded c).After-play in
    IfOk-weaker c.play.result (λ told. LaneLineSteps c.args.line.now c.args.self.now c.play.new.self told) (λ told. EachLaneNow IsBounded c.play.new.self)
    (λ told steps. lanes at IsBounded told steps (bounded_behind c.a_line_stays_within_its_bounds.ensures.machines c.a_line_stays_within_its_bounds.ensures.links)) c.play.ensures.step

pub returns-clause-ids : goal.returns-clause-ids
returns-clause-ids c =
    let at = (goal.at.returns-clause-ids c).After-play in
    IfOk-weaker c.play.result (λ told. LaneLineSteps c.args.line.now c.args.self.now c.play.new.self told) (λ told. EachLaneNow HasUniqueIds c.play.new.self)
    (λ told steps. lanes at HasUniqueIds told steps c.what_a_run_leads_to.ensures.ids) c.play.ensures.step

pub returns-clause-one_lane : goal.returns-clause-one_lane
returns-clause-one_lane c =
    let at = (goal.at.returns-clause-one_lane c).After-play in
    IfOk-weaker c.play.result (λ told. LaneLineSteps c.args.line.now c.args.self.now c.play.new.self told) (λ told. unvouched_of c.play.new.self ≡ None → IsOnOneLane c.play.new.self)
    (λ told steps. λ none. c.what_a_run_over_lanes_leads_to.ensures.one_lane c.play.new.self (reached at told steps) none) c.play.ensures.step

pub returns-clause-order : goal.returns-clause-order
returns-clause-order c =
    let at = (goal.at.returns-clause-order c).After-play in
    IfOk-weaker c.play.result (λ told. LaneLineSteps c.args.line.now c.args.self.now c.play.new.self told) (λ told. EachNext OrderNext c.args.line.now c.args.self.now c.play.new.self told)
    (λ told steps. each_next OrderNext (order_next c.each_line_keeps_the_order.ensures) c.args.line.now c.args.self.now c.play.new.self told (known at told steps)) c.play.ensures.step

pub returns-clause-ledger : goal.returns-clause-ledger
returns-clause-ledger c =
    let at = (goal.at.returns-clause-ledger c).After-play in
    IfOk-weaker c.play.result (λ told. LaneLineSteps c.args.line.now c.args.self.now c.play.new.self told) (λ told. EachNext LedgerNext c.args.line.now c.args.self.now c.play.new.self told)
    (λ told steps. each_next LedgerNext (ledger_next c.what_a_run_leads_to.ensures.ledger) c.args.line.now c.args.self.now c.play.new.self told (known at told steps)) c.play.ensures.step

pub returns-clause-contents : goal.returns-clause-contents
returns-clause-contents c =
    let at = (goal.at.returns-clause-contents c).After-play in
    IfOk-weaker c.play.result (λ told. LaneLineSteps c.args.line.now c.args.self.now c.play.new.self told) (λ told. EachNext ContentsNext c.args.line.now c.args.self.now c.play.new.self told)
    (λ told steps. each_next ContentsNext (contents_next c.contents_are_kept_over_each_line.ensures) c.args.line.now c.args.self.now c.play.new.self told (known at told steps)) c.play.ensures.step

pub returns-clause-blame : goal.returns-clause-blame
returns-clause-blame c =
    let at = (goal.at.returns-clause-blame c).After-play in
    IfOk-weaker c.play.result (λ told. LaneLineSteps c.args.line.now c.args.self.now c.play.new.self told) (λ told. EachNext BlameNext c.args.line.now c.args.self.now c.play.new.self told)
    (λ told steps. each_next BlameNext (blame_next c.a_breach_is_told_only_behind_a_spoiled_text.ensures) c.args.line.now c.args.self.now c.play.new.self told (known at told steps)) c.play.ensures.step

pub returns-clause-opens : goal.returns-clause-opens
returns-clause-opens c =
    let at = (goal.at.returns-clause-opens c).After-play in
    IfOk-weaker c.play.result (λ told. LaneLineSteps c.args.line.now c.args.self.now c.play.new.self told) (λ told. EachNext OpeningsNext c.args.line.now c.args.self.now c.play.new.self told)
    (λ told steps. each_next OpeningsNext (openings_next c.a_machine_opens_exactly_when_announced.ensures) c.args.line.now c.args.self.now c.play.new.self told (known at told steps)) c.play.ensures.step

pub returns-clause-answers : goal.returns-clause-answers
returns-clause-answers c =
    let at = (goal.at.returns-clause-answers c).After-play in
    IfOk-weaker c.play.result (λ told. LaneLineSteps c.args.line.now c.args.self.now c.play.new.self told) (λ told. EachNext AnswersNext c.args.line.now c.args.self.now c.play.new.self told)
    (λ told steps. each_next AnswersNext (answers_next c.each_line_answers_once.ensures) c.args.line.now c.args.self.now c.play.new.self told (known at told steps)) c.play.ensures.step

pub returns-clause-replay : goal.returns-clause-replay
returns-clause-replay c =
    let at = (goal.at.returns-clause-replay c).After-play in
    IfOk-weaker c.play.result (λ told. LaneLineSteps c.args.line.now c.args.self.now c.play.new.self told) (λ told. EachNext ReplayNext c.args.line.now c.args.self.now c.play.new.self told)
    (λ told steps. each_next ReplayNext (replay_next c.each_line_keeps_the_replay_right.ensures) c.args.line.now c.args.self.now c.play.new.self told (known at told steps)) c.play.ensures.step

pub returns-clause-counted : goal.returns-clause-counted
returns-clause-counted c =
    let at = (goal.at.returns-clause-counted c).After-play in
    IfOk-weaker c.play.result (λ told. LaneLineSteps c.args.line.now c.args.self.now c.play.new.self told) (λ told. lines_of c.play.new.self ≡ c.args.number)
    (λ told steps. counted at told steps) c.play.ensures.step

pub returns-clause-standing : goal.returns-clause-standing
returns-clause-standing c =
    let at = (goal.at.returns-clause-standing c).After-play in
    IfOk-weaker c.play.result (λ told. LaneLineSteps c.args.line.now c.args.self.now c.play.new.self told × AreVouchedAlike c.play.new.self) (λ told. unvouched_of c.play.new.self ≡ None → EachLaneNow HasOneStanding c.play.new.self)
    (λ told both. λ none lane least. c.what_a_run_leads_to.ensures.standing (track lane c.play.new.self) (c.what_a_run_over_lanes_leads_to.ensures.tracks c.play.new.self (reached at told both.0) lane least) (both.1 lane least ∙ none))
    (IfOk-both c.play.result _ _ c.play.ensures.step c.play.ensures.alike)

pub returns-clause-custody : goal.returns-clause-custody
returns-clause-custody c =
    let at = (goal.at.returns-clause-custody c).After-play in
    IfOk-weaker c.play.result (λ told. LaneLineSteps c.args.line.now c.args.self.now c.play.new.self told × AreVouchedAlike c.play.new.self) (λ told. unvouched_of c.play.new.self ≡ None → EachLaneNow HasCustodyFacts c.play.new.self)
    (λ told both. λ none lane least. c.what_a_run_leads_to.ensures.custody (track lane c.play.new.self) (c.what_a_run_over_lanes_leads_to.ensures.tracks c.play.new.self (reached at told both.0) lane least) (both.1 lane least ∙ none))
    (IfOk-both c.play.result _ _ c.play.ensures.step c.play.ensures.alike)

pub returns-clause-order_whole : goal.returns-clause-order_whole
returns-clause-order_whole c =
    let at = (goal.at.returns-clause-order_whole c).After-play in
    IfOk-weaker c.play.result (λ told. LaneLineSteps c.args.line.now c.args.self.now c.play.new.self told × AreVouchedAlike c.play.new.self) (λ told. unvouched_of c.play.new.self ≡ None → OverLanes GoInOrder c.args.self.now c.play.new.self told)
    (λ told both. λ none. order_whole c.each_lane_is_a_track.ensures.tracks c.each_run_remembers_its_lies.ensures c.each_line_keeps_the_order.ensures c.args.line.now c.args.self.now c.play.new.self told (known at told both.0) both.1 none)
    (IfOk-both c.play.result _ _ c.play.ensures.step c.play.ensures.alike)

pub returns-clause-ledger_whole : goal.returns-clause-ledger_whole
returns-clause-ledger_whole c =
    let at = (goal.at.returns-clause-ledger_whole c).After-play in
    IfOk-weaker c.play.result (λ told. LaneLineSteps c.args.line.now c.args.self.now c.play.new.self told × AreVouchedAlike c.play.new.self) (λ told. unvouched_of c.play.new.self ≡ None → OverLanes FollowsLine c.args.self.now c.play.new.self told)
    (λ told both. λ none. ledger_whole c.each_lane_is_a_track.ensures.tracks c.each_run_remembers_its_lies.ensures c.what_a_run_leads_to.ensures.ledger c.args.line.now c.args.self.now c.play.new.self told (known at told both.0) both.1 none)
    (IfOk-both c.play.result _ _ c.play.ensures.step c.play.ensures.alike)
