use Rattle.std.proofs.Common.{◌∙◌, ap, arith}
use Rattle.std.specs.Prelude.{slice_index_or}
use Rattle.line_step.specs.State.{LineState}
use Rattle.line_engine.specs.Sharing.{unvouched_track}
use Rattle.line_engine.specs.declared.track.Track.{Track}
use Rattle.line_engine.proofs.Mapped.{loop_next, mapped_end}
use Rattle.line_engine.proofs.sharing.unvouch_all.Goals as goal

pub loop-track-preserved : goal.loop-track-preserved
loop-track-preserved c =
    let old : Track = slice_index_or c.loop-track.tracks c.loop-track.track-index c.track-item.result in
    loop_next (unvouched_track c.args.unvouched) c.loop-track.track-index c.args.tracks.now c.loop-track.tracks c.track-item.result (record { state = c.set_unvouched.new.self; index = old.index }) (omega arith) c.loop-track.invariant
    (ap (λ (s : LineState). record { state = s; index = old.index }) c.set_unvouched.ensures)

pub returns : goal.returns
returns c = c.loop-track.invariant ∙ mapped_end (unvouched_track c.args.unvouched) c.loop-track.track-index c.args.tracks.now (omega arith)
