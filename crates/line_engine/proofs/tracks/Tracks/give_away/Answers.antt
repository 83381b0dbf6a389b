use Rattle.std.proofs.Common.{◌≡◌, ◌-◌, ◌∷◌, List, arith}
use Rattle.std.proofs.lemmas.Result.{IfOk-weaker}
use Rattle.std.specs.Prelude.{slice_set}
use Rattle.line_step.specs.Reasons.{may_do, may_give_away}
use Rattle.line_step.specs.Together.{IsLineTogether}
use Rattle.line_step.specs.State.{LineState}
use Rattle.line_machines.specs.Given.{GivesBoard}
use Rattle.line_engine.specs.Tracks.{GivesOn}
use Rattle.line_machines.specs.declared.stepping.Gave.{Gave}
use Rattle.line_engine.specs.declared.track.Track.{Track}
use Rattle.line_engine.proofs.Lanes.{IsLater, later, later_set, later_there, own_ready}
use Rattle.line_engine.proofs.tracks.Tracks.give_away.Goals as goal

pub give_away-requires-2-clause-may : goal.give_away-requires-2-clause-may
give_away-requires-2-clause-may c =
    let first : Track = c.self.inside.first in
    let others : List Track = c.self.inside.others.items in
    let apart : c.args.from ≡ 1 → ⊥ = omega arith in
    let l : IsLater c.args.from others = later (λ (own : Track). IsLineTogether own.state × (may_give_away c.args.machine c.args.id own.state ≡ may_do)) c.args.from first others (rw (← c.self.view_is) at c.requires.may) apart in
    let own : Track = c.index_mut.result.now in
    (own_ready (λ (own : Track). IsLineTogether own.state × (may_give_away c.args.machine c.args.id own.state ≡ may_do)) c.args.from (first ∷ others) own (later_there c.args.from first others own l c.index_mut.ensures.value) (rw (← c.self.view_is) at c.requires.may)).1

pub returns : goal.returns
returns c =
    let first : Track = c.self.inside.first in
    let others : List Track = c.self.inside.others.items in
    let apart : c.args.from ≡ 1 → ⊥ = omega arith in
    let l : IsLater c.args.from others = later (λ (own : Track). IsLineTogether own.state × (may_give_away c.args.machine c.args.id own.state ≡ may_do)) c.args.from first others (rw (← c.self.view_is) at c.requires.may) apart in
    let own : Track = c.index_mut.result.now in
    let next : LineState = c.give_away-2.new.self in
    rw (← c.self.view_is)
    (IfOk-weaker c.give_away-2.result (λ (gave : Gave). GivesBoard c.args.number c.args.machine c.args.id c.args.to own.state next gave.told gave.board)
    (λ (gave : Gave). GivesOn c.args.number c.args.machine c.args.from c.args.id c.args.to (first ∷ others) (first ∷ slice_set others (c.args.from - 2) (record { state = next; index = own.index })) gave.told gave.board)
    (λ gave does. record {
      own = own;
      there = later_there c.args.from first others own l c.index_mut.ensures.value;
      next = next;
      does = does;
      after_is = later_set c.args.from first (record { state = next; index = own.index }) others l;
    })
    c.give_away-2.ensures)
