use Rattle.std.proofs.Common.{◌∙◌, ℕ, ap, sym}
use Rattle.std.specs.Option.{option_copied}
use Rattle.line_engine.specs.Tracks.{lane_beside, track_in}
use Rattle.line_engine.proofs.Unchanged.{alone_unchanged, beside_apart, unchanged}
use Rattle.line_engine.proofs.tracks.Tracks.is_shared.Goals as goal

pub are_alike-requires-clause-other : goal.are_alike-requires-clause-other
are_alike-requires-clause-other c =
    (c.requires.beside.others (lane_beside c.args.lane) c.in-Some-Some.other.now (beside_apart c.args.lane)
    (ap (λ (n : ℕ). track_in n c.args.self.now) (sym c.lane_beside.ensures) ∙ sym c.in-Some-Some.ensures')).1

pub returns-in-Some-Some : goal.returns-in-Some-Some
returns-in-Some-Some c =
    λ is. unchanged c.args.lane (lane_beside c.args.lane) c.args.span.first c.args.span.last c.args.self.now c.in-Some-Some.own.now c.in-Some-Some.other.now (beside_apart c.args.lane) c.requires.beside (sym c.in-Some-Some.ensures)
    (ap (λ (n : ℕ). track_in n c.args.self.now) (sym c.lane_beside.ensures) ∙ sym c.in-Some-Some.ensures') (c.are_alike.ensures.0 is)

pub returns-in_default : goal.returns-in_default
returns-in_default c =
    λ is. alone_unchanged c.args.lane c.args.span.first c.args.span.last c.args.self.now c.requires.ready (ap (λ (n : ℕ). track_in n c.args.self.now) (sym c.lane_beside.ensures) ∙ sym c.track-2.ensures ∙ ap option_copied c.in_default.is-1)
