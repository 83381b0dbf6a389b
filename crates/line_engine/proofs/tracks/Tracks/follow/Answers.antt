use Rattle.std.proofs.Common.{◌≡◌, ◌-◌, ◌∷◌, List, arith}
use Rattle.std.proofs.lemmas.Result.{IfOk-weaker}
use Rattle.std.specs.Prelude.{slice_set}
use Rattle.line_step.specs.Together.{IsLineTogether}
use Rattle.line_machines.specs.Sharing.{AreNumbered}
use Rattle.line_engine.specs.Tracks.{FollowsOne, FollowsTrack}
use Rattle.line_engine.specs.declared.track.Track.{Track}
use Rattle.line_engine.proofs.Lanes.{IsLater, later}
use Rattle.line_engine.proofs.Telling.{follows_first, follows_later}
use Rattle.line_engine.proofs.tracks.Tracks.follow.Goals as goal

pub returns-then-lane-eq1 : goal.returns-then-lane-eq1
returns-then-lane-eq1 c =
    rw (← c.self.view_is) (IfOk-weaker c.follow.result (λ moved. FollowsTrack c.args.lane c.args.span.first c.args.span.last c.args.id c.self.inside.first c.follow.new.self moved) (λ moved. FollowsOne c.args.lane c.args.span.first c.args.span.last c.args.id (c.self.inside.first ∷ c.self.inside.others.items) (c.follow.new.self ∷ c.self.inside.others.items) moved)
    (λ moved f. follows_first c.args.lane c.args.span.first c.args.span.last c.args.id c.self.inside.first c.follow.new.self c.self.inside.others.items moved (omega arith) f) c.follow.ensures)

pub returns : goal.returns
returns c =
    let first : Track = c.self.inside.first in
    let others : List Track = c.self.inside.others.items in
    let apart : c.args.lane ≡ 1 → ⊥ = omega arith in
    let l : IsLater c.args.lane others = later (λ (own : Track). IsLineTogether own.state × AreNumbered own.state) c.args.lane first others (rw (← c.self.view_is) at c.requires.ready) apart in
    let own : Track = c.index_mut.result.now in
    rw (← c.self.view_is) (IfOk-weaker c.follow-2.result (λ moved. FollowsTrack c.args.lane c.args.span.first c.args.span.last c.args.id own c.follow-2.new.self moved) (λ moved. FollowsOne c.args.lane c.args.span.first c.args.span.last c.args.id (first ∷ others) (first ∷ slice_set others (c.args.lane - 2) c.follow-2.new.self) moved)
    (λ moved f. follows_later c.args.lane c.args.span.first c.args.span.last c.args.id first own c.follow-2.new.self others moved l c.index_mut.ensures.value f) c.follow-2.ensures)
