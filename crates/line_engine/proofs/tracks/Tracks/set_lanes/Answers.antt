use Rattle.std.proofs.Common.{◌≡◌, ◌≤◌, ◌-◌, ◌∙◌, ◌∷◌, ℕ, List, [], Option, ap, arith, eqb-true, length, subst, sym}
use Rattle.std.proofs.lemmas.Bool.{eqb-false}
use Rattle.std.proofs.lemmas.List.{nil_from_length}
use Rattle.std.proofs.lemmas.Result.{on_ok_weaker}
use Rattle.node_core.specs.Node.{NodeState}
use Rattle.line_script.specs.declared.line.LaneLine.TheVariants as lane_lines
use Rattle.law_lanes.specs.Steps.{LanesDo}
use Rattle.line_engine.specs.declared.track.Track.{Track}
use Rattle.line_engine.specs.Tracks.{AreKept, TellsDone, empty_track, empty_tracks}
use Rattle.line_engine.proofs.Setting.{lanes_set, set_refused}
use Rattle.line_engine.proofs.tracks.Tracks.set_lanes.Goals as goal

pub returns-then-not-is_empty-clause-step : goal.returns-then-not-is_empty-clause-step
returns-then-not-is_empty-clause-step c = λ number.
    let first : Track = c.self.inside.first in
    let others : List Track = c.self.inside.others.items in
    let kept : AreKept (first ∷ others) = subst (λ (ts : List Track). AreKept ts) (sym c.self.view_is) c.requires.kept in
    let some : 1 ≤ length c.machines.result.now = omega (arith, eqb-false _ _ (sym c.if-not-is_empty.ensures)) in
    let stand : 1 ≤ length first.state.machines = subst (λ (ns : List NodeState). 1 ≤ length ns) c.machines.ensures some in
    on_ok_weaker c.tell.result (λ is.
    subst (λ (ts : List Track). TellsDone (LanesDo number (lane_lines.Lanes c.args.count)) ts ts c.args.told.now c.tell.new.self) c.self.view_is
    (set_refused number c.args.count first others c.args.told.now c.tell.new.self kept stand is)) c.tell.ensures.told

pub returns-clause-step : goal.returns-clause-step
returns-clause-step c = λ number.
    let first : Track = c.self.inside.first in
    let others : List Track = c.self.inside.others.items in
    let kept : AreKept (first ∷ others) = subst (λ (ts : List Track). AreKept ts) (sym c.self.view_is) c.requires.kept in
    let none : first.state.machines ≡ [] = sym c.machines.ensures ∙ nil_from_length c.machines.result.now (eqb-true _ _ (sym c.if-not-is_empty.ensures)) in
    let one : c.empty_track.result ≡ empty_track first.state.lines first.state.unvouched =
    c.empty_track.ensures
    ∙ ap (λ (n : ℕ). empty_track n c.unvouched-unvouched.result) c.lines-lines.ensures
    ∙ ap (λ (u : Option ℕ). empty_track first.state.lines u) c.unvouched-unvouched.ensures in
    let rest : c.in_ok-others.others.items ≡ empty_tracks (c.args.count - 1) first.state.lines first.state.unvouched =
    c.in_ok-others.ensures
    ∙ ap (λ (n : ℕ). empty_tracks (c.args.count - 1) n c.unvouched-unvouched.result) c.lines-lines.ensures
    ∙ ap (λ (u : Option ℕ). empty_tracks (c.args.count - 1) first.state.lines u) c.unvouched-unvouched.ensures in
    let both : c.empty_track.result ∷ c.in_ok-others.others.items ≡ empty_track first.state.lines first.state.unvouched ∷ empty_tracks (c.args.count - 1) first.state.lines first.state.unvouched =
    ap (λ (t : Track). t ∷ c.in_ok-others.others.items) one ∙ ap (λ (ts : List Track). empty_track first.state.lines first.state.unvouched ∷ ts) rest in
    on_ok_weaker c.tell-2.result (λ is.
    subst (λ (ts : List Track). TellsDone (LanesDo number (lane_lines.Lanes c.args.count)) ts (c.empty_track.result ∷ c.in_ok-others.others.items) c.args.told.now c.tell-2.new.self) c.self.view_is
    (subst (λ (ts : List Track). TellsDone (LanesDo number (lane_lines.Lanes c.args.count)) (first ∷ others) ts c.args.told.now c.tell-2.new.self) (sym both)
    (lanes_set number c.args.count first others c.args.told.now c.tell-2.new.self kept none c.requires.within.least is))) c.tell-2.ensures.told
