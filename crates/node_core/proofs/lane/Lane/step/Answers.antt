use Rattle.std.proofs.Common.{◌≡◌, ◌∙◌, sym, ap, subst}
use Rattle.node_core.specs.declared.lane.Body.{Body}
use Rattle.node_core.specs.Halves.{OffersFront}
use Rattle.node_core.specs.declared.supervising.Watch.{Watch}
use Rattle.node_core.specs.Shifts.{given_by}
use Rattle.node_core.specs.Supervising.{watch_of, with_tells}
use Rattle.node_core.proofs.Sound.{read_offers, read_exit}
use Rattle.node_core.proofs.Stepping.{steps_lane}
use Rattle.node_core.proofs.lane.Lane.step.Goals as goal

pub meet-requires-clause-offers : goal.meet-requires-clause-offers
meet-requires-clause-offers c = subst (λ (b : Body). OffersFront b) (sym c.in_ok-read_all.ensures.body) (read_offers c.args.desk.now c.args.unread.now c.args.self.now.body c.requires.offers)

pub meet-requires-clause-upstream : goal.meet-requires-clause-upstream
meet-requires-clause-upstream c = ap (λ (b : Body). b.exit.session.role) c.in_ok-read_all.ensures.body ∙ read_exit c.args.desk.now c.args.unread.now c.args.self.now.body ∙ c.requires.upstream

pub returns-clause-steps : goal.returns-clause-steps
returns-clause-steps c =
    let watched : c.in_ok-told.told ≡ with_tells c.args.desk.now (watch_of c.args.desk.now c.args.self.now.body) c.announce.new.to =
    c.in_ok-told.ensures ∙ ap (λ (w : Watch). with_tells c.args.desk.now w c.announce.new.to) c.of-watch.ensures in
    steps_lane c.args.desk.now c.args.unread.now c.args.input c.args.maker.now c.meet.new.maker c.args.self.now c.meet.new.self c.read_all.new.self c.announce.new.self c.read_all.new.to c.meet.new.to c.announce.new.to
    c.in_ok-told.told
    c.in_ok-read_all.ensures.body (rw c.new-acts.ensures at c.in_ok-read_all.ensures.acts) c.in_ok-meet.ensures.met c.in_ok-announce.ensures.body c.in_ok-announce.ensures.acts
    watched

pub returns-clause-board : goal.returns-clause-board
returns-clause-board c =
    c.in_ok-meet.ensures.board
    ∙ ap (λ (b : Body). given_by c.args.input b.kept c.args.slot.now) c.in_ok-read_all.ensures.body
