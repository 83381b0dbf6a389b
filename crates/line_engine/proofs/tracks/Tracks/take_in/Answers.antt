use Rattle.std.proofs.Common.{◌≡◌, ◌-◌, ◌∷◌, List, arith}
use Rattle.std.proofs.lemmas.Result.{IfOk-weaker}
use Rattle.std.specs.Prelude.{slice_set}
use Rattle.line_step.specs.Reasons.{may_do, may_take_in}
use Rattle.line_step.specs.Together.{IsLineTogether}
use Rattle.line_step.specs.State.{LineState}
use Rattle.line_engine.specs.Tracks.{TakesOn}
use Rattle.line_report.specs.declared.happening.Happening.{Happening}
use Rattle.node_core.specs.declared.input.Input.TheVariants as inputs
use Rattle.line_step.specs.Steps.{MachineSteps}
use Rattle.line_engine.specs.declared.track.Track.{Track}
use Rattle.line_engine.proofs.Lanes.{IsLater, later, later_set, later_there, own_ready}
use Rattle.line_engine.proofs.tracks.Tracks.take_in.Goals as goal

pub take_in-requires-2-clause-may : goal.take_in-requires-2-clause-may
take_in-requires-2-clause-may c =
    let first : Track = c.self.inside.first in
    let others : List Track = c.self.inside.others.items in
    let apart : c.args.to ≡ 1 → ⊥ = omega arith in
    let l : IsLater c.args.to others = later (λ (own : Track). IsLineTogether own.state × (may_take_in c.args.machine own.state ≡ may_do)) c.args.to first others (rw (← c.self.view_is) at c.requires.may) apart in
    let own : Track = c.index_mut.result.now in
    (own_ready (λ (own : Track). IsLineTogether own.state × (may_take_in c.args.machine own.state ≡ may_do)) c.args.to (first ∷ others) own (later_there c.args.to first others own l c.index_mut.ensures.value) (rw (← c.self.view_is) at c.requires.may)).1

pub returns : goal.returns
returns c =
    let first : Track = c.self.inside.first in
    let others : List Track = c.self.inside.others.items in
    let apart : c.args.to ≡ 1 → ⊥ = omega arith in
    let l : IsLater c.args.to others = later (λ (own : Track). IsLineTogether own.state × (may_take_in c.args.machine own.state ≡ may_do)) c.args.to first others (rw (← c.self.view_is) at c.requires.may) apart in
    let own : Track = c.index_mut.result.now in
    let next : LineState = c.take_in-2.new.self in
    rw (← c.self.view_is)
    (IfOk-weaker c.take_in-2.result (λ (got : List Happening). MachineSteps c.args.number c.args.machine (inputs.Gets c.args.board) own.state next got)
    (λ (got : List Happening). TakesOn c.args.number c.args.machine c.args.to c.args.board (first ∷ others) (first ∷ slice_set others (c.args.to - 2) (record { state = next; index = own.index })) got)
    (λ got does. record {
      own = own;
      there = later_there c.args.to first others own l c.index_mut.ensures.value;
      next = next;
      does = does;
      after_is = later_set c.args.to first (record { state = next; index = own.index }) others l;
    })
    c.take_in-2.ensures)
