use Rattle.std.proofs.Common.{◌≡◌, ◌∙◌, ◌∷◌, List, [], eqb-true, subst, sym}
use Rattle.std.proofs.lemmas.List.{nil_from_length}
use Rattle.line_engine.specs.Tracks.{IsFollowing, IsReady}
use Rattle.line_engine.specs.declared.track.Track.{Track}
use Rattle.line_engine.proofs.Besides.{all_follow, alone_follows}
use Rattle.line_engine.proofs.tracks.Tracks.share.Goals as goal

pub returns : goal.returns
returns c = all_follow c.args.lane c.args.span.first c.args.span.last c.shares-shares.result c.args.self.now c.follow_all.new.self c.shares-shares.ensures c.follow_all.ensures

pub returns-then-is_empty : goal.returns-then-is_empty
returns-then-is_empty c =
    let others : List Track = c.self.inside.others.items in
    let none : others ≡ [] = sym c.as_slice.ensures.value ∙ nil_from_length c.as_slice.result.now (eqb-true _ _ (sym c.if-is_empty.ensures)) in
    let ready : IsReady c.args.lane (c.self.inside.first ∷ others) = subst (λ (ts : List Track). IsReady c.args.lane ts) (sym c.self.view_is) c.requires.ready in
    subst (λ (ts : List Track). IsFollowing c.args.lane c.args.span.first c.args.span.last ts ts) c.self.view_is
    (subst (λ (os : List Track). IsFollowing c.args.lane c.args.span.first c.args.span.last (c.self.inside.first ∷ os) (c.self.inside.first ∷ os)) (sym none)
    (alone_follows c.args.lane c.args.span.first c.args.span.last c.self.inside.first (subst (λ (os : List Track). IsReady c.args.lane (c.self.inside.first ∷ os)) none ready)))
