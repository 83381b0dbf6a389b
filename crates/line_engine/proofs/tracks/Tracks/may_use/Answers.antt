use Rattle.std.proofs.Common.{ap, sym, ◌∙◌}
use Rattle.std.specs.Option.{option_copied}
use Rattle.line_report.specs.declared.happening.Reason.TheVariants as reasons
use Rattle.node_core.specs.declared.input.No.TheVariants as nos
use Rattle.line_engine.proofs.Lanes.{may_be, may_not_be}
use Rattle.line_engine.proofs.tracks.Tracks.may_use.Goals as goal

pub returns-in-Some : goal.returns-in-Some
returns-in-Some c = sym (may_be c.args.lane c.args.self.now c.in-Some._track.now (reasons.Node nos.NoLane) (sym c.track.ensures ∙ ap option_copied c.in-Some.is))

pub returns-in-None : goal.returns-in-None
returns-in-None c = sym (may_not_be c.args.lane c.args.self.now (reasons.Node nos.NoLane) (sym c.track.ensures ∙ ap option_copied c.in-None.is))
