use Rattle.std.proofs.Common.{◌∙◌, ◌∷◌, ap, sym}
use Rattle.std.specs.Option.{option_copied}
use Rattle.line_step.specs.Reasons.{May, may_take_in}
use Rattle.law_lanes.specs.Reasons.{and_may}
use Rattle.line_engine.specs.Tracks.{track_in}
use Rattle.line_engine.proofs.OnTwo.{both_say, no_giver, no_taker, on_bridge, own_on, to_itself}
use Rattle.line_engine.proofs.tracks.Tracks.may_shift.Goals as goal

pub returns-in_default-track : goal.returns-in_default-track
returns-in_default-track c =
    rw (← c.self.view_is) (no_giver c.args.machine c.args.from c.args.to c.args.id (c.self.inside.first ∷ c.self.inside.others.items) (sym c.may_find.ensures ∙ c.in_default.is)
    (ap (track_in c.args.from) c.self.view_is ∙ sym c.track.ensures ∙ ap option_copied c.in_default-track.is))

pub returns-in_default-track-2 : goal.returns-in_default-track-2
returns-in_default-track-2 c =
    rw (← c.self.view_is) (no_taker c.args.machine c.args.from c.args.to c.args.id (c.self.inside.first ∷ c.self.inside.others.items) c.in-Some.giver.now (sym c.may_find.ensures ∙ c.in_default.is)
    (ap (track_in c.args.from) c.self.view_is ∙ sym c.track.ensures ∙ ap option_copied c.in-Some.is)
    (ap (track_in c.args.to) c.self.view_is ∙ sym c.track-2.ensures ∙ ap option_copied c.in_default-track-2.is))

pub returns-then-is_bridge : goal.returns-then-is_bridge
returns-then-is_bridge c =
    rw (← c.self.view_is) (on_bridge c.args.machine c.args.from c.args.to c.args.id (c.self.inside.first ∷ c.self.inside.others.items) c.in-Some.giver.now c.in-Some-track.taker.now (sym c.may_find.ensures ∙ c.in_default.is)
    (ap (track_in c.args.from) c.self.view_is ∙ sym c.track.ensures ∙ ap option_copied c.in-Some.is) (ap (track_in c.args.to) c.self.view_is ∙ sym c.track-2.ensures ∙ ap option_copied c.in-Some-track.is) (sym c.is_bridge.ensures ∙ c.if-is_bridge.true))

pub returns-then-from-to : goal.returns-then-from-to
returns-then-from-to c =
    rw (← c.self.view_is) (to_itself c.args.machine c.args.from c.args.to c.args.id (c.self.inside.first ∷ c.self.inside.others.items) c.in-Some.giver.now c.in-Some-track.taker.now (sym c.may_find.ensures ∙ c.in_default.is)
    (ap (track_in c.args.from) c.self.view_is ∙ sym c.track.ensures ∙ ap option_copied c.in-Some.is) (ap (track_in c.args.to) c.self.view_is ∙ sym c.track-2.ensures ∙ ap option_copied c.in-Some-track.is) (sym c.is_bridge.ensures ∙ c.if-is_bridge.false) c.if-from-to.true)

pub may_give_away-requires : goal.may_give_away-requires
may_give_away-requires c = (own_on c.args.from c.args.self.now c.in-Some.giver.now c.requires.each (sym c.track.ensures ∙ ap option_copied c.in-Some.is)).together

pub returns-in-Ok : goal.returns-in-Ok
returns-in-Ok c =
    c.may_take_in.ensures
    ∙ ap (λ (m : May). and_may m (may_take_in c.args.machine c.in-Some-track.taker.now.state)) (sym c.in-Ok.is ∙ c.may_give_away.ensures)
    ∙ sym (rw (← c.self.view_is) (both_say c.args.machine c.args.from c.args.to c.args.id (c.self.inside.first ∷ c.self.inside.others.items) c.in-Some.giver.now c.in-Some-track.taker.now (sym c.may_find.ensures ∙ c.in_default.is)
    (ap (track_in c.args.from) c.self.view_is ∙ sym c.track.ensures ∙ ap option_copied c.in-Some.is) (ap (track_in c.args.to) c.self.view_is ∙ sym c.track-2.ensures ∙ ap option_copied c.in-Some-track.is) (sym c.is_bridge.ensures ∙ c.if-is_bridge.false) c.if-from-to.false))

pub returns-in-Err-may_give_away : goal.returns-in-Err-may_give_away
returns-in-Err-may_give_away c =
    ap (λ (m : May). and_may m (may_take_in c.args.machine c.in-Some-track.taker.now.state)) (sym c.in-Err-may_give_away.is ∙ c.may_give_away.ensures)
    ∙ sym (rw (← c.self.view_is) (both_say c.args.machine c.args.from c.args.to c.args.id (c.self.inside.first ∷ c.self.inside.others.items) c.in-Some.giver.now c.in-Some-track.taker.now (sym c.may_find.ensures ∙ c.in_default.is)
    (ap (track_in c.args.from) c.self.view_is ∙ sym c.track.ensures ∙ ap option_copied c.in-Some.is) (ap (track_in c.args.to) c.self.view_is ∙ sym c.track-2.ensures ∙ ap option_copied c.in-Some-track.is) (sym c.is_bridge.ensures ∙ c.if-is_bridge.false) c.if-from-to.false))
