use Rattle.std.proofs.Common.{ap, sym, ◌∙◌}
use Rattle.std.specs.Option.{option_copied}
use Rattle.line_script.specs.declared.line.LaneLine.TheVariants as lane_lines
use Rattle.line_script.specs.declared.line.ScriptLine.{ScriptLine}
use Rattle.line_engine.proofs.Stops.{cut_nowhere, cut_there, machines_few}
use Rattle.line_engine.proofs.tracks.Tracks.cut_where.Goals as goal

pub returns-in-Some-clause-line : goal.returns-in-Some-clause-line
returns-in-Some-clause-line c =
    ap (λ (line : ScriptLine). lane_lines.On c.args.lane line) c.cut_where.ensures.line
    ∙ cut_there c.args.lane c.args.gap c.args.self.now c.in-Some.track.now (sym c.track.ensures ∙ ap option_copied c.in-Some.is)

pub returns-in-Some-clause-within : goal.returns-in-Some-clause-within
returns-in-Some-clause-within c =
    (c.requires.lane, c.cut_where.ensures.within (machines_few c.args.lane c.args.self.now c.in-Some.track.now c.requires.kept (sym c.track.ensures ∙ ap option_copied c.in-Some.is)))

pub returns-in-None-clause-line : goal.returns-in-None-clause-line
returns-in-None-clause-line c = cut_nowhere c.args.lane c.args.gap c.args.self.now c.requires.lane.least (sym c.track.ensures ∙ ap option_copied c.in-None.is)

pub returns-in-None-clause-within : goal.returns-in-None-clause-within
returns-in-None-clause-within c = (c.requires.lane, tt)
