use Rattle.std.proofs.Common.{◌≡◌, ◌-◌, ◌∷◌, List, arith}
use Rattle.std.proofs.lemmas.Result.{IfOk-weaker}
use Rattle.std.specs.Prelude.{slice_set}
use Rattle.line_report.specs.declared.happening.Happening.{Happening}
use Rattle.line_step.specs.Lines.{LineDoes}
use Rattle.line_step.specs.Requests.{request_of}
use Rattle.line_step.specs.State.{LineState}
use Rattle.line_step.specs.Together.{IsLineTogether}
use Rattle.line_machines.specs.Sharing.{AreNumbered}
use Rattle.line_engine.specs.Tracks.{StepsOn}
use Rattle.line_engine.specs.declared.track.Track.{Track}
use Rattle.line_engine.proofs.Lanes.{IsLater, later, later_set, later_there}
use Rattle.line_engine.proofs.tracks.Tracks.do_line.Goals as goal

pub returns : goal.returns
returns c =
    let first : Track = c.self.inside.first in
    let others : List Track = c.self.inside.others.items in
    let apart : c.args.lane ≡ 1 → ⊥ = omega arith in
    let l : IsLater c.args.lane others = later (λ (own : Track). IsLineTogether own.state × AreNumbered own.state) c.args.lane first others (rw (← c.self.view_is) at c.requires.ready) apart in
    let own : Track = c.index_mut.result.now in
    let next : LineState = c.do_line-2.new.self in
    rw (← c.self.view_is)
    (IfOk-weaker c.do_line-2.result (λ (told : List Happening). LineDoes c.args.number (request_of c.args.line.now) own.state next told)
    (λ (told : List Happening). StepsOn c.args.lane (λ (before after : LineState). LineDoes c.args.number (request_of c.args.line.now) before after told) (first ∷ others) (first ∷ slice_set others (c.args.lane - 2) (record { state = next; index = own.index })))
    (λ told does. record {
      own = own;
      there = later_there c.args.lane first others own l c.index_mut.ensures.value;
      next = next;
      does = does;
      after_is = later_set c.args.lane first (record { state = next; index = own.index }) others l;
    })
    c.do_line-2.ensures)
