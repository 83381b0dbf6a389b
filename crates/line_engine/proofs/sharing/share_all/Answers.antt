use Rattle.std.proofs.Common.{◌∙◌, ap, arith}
use Rattle.std.specs.Prelude.{slice_index_or}
use Rattle.line_step.specs.State.{LineState}
use Rattle.line_engine.specs.Sharing.{sharing_track}
use Rattle.line_engine.specs.declared.track.Track.{Track}
use Rattle.line_engine.proofs.Mapped.{loop_next, mapped_end}
use Rattle.line_engine.proofs.sharing.share_all.Goals as goal

pub loop-track-preserved : goal.loop-track-preserved
loop-track-preserved c =
    let old : Track = slice_index_or c.loop-track.tracks c.loop-track.track-index c.track-item.result in
    loop_next (sharing_track c.args.machine c.args.shared.now) c.loop-track.track-index c.args.tracks.now c.loop-track.tracks c.track-item.result (record { state = c.share.new.self; index = old.index }) (omega arith) c.loop-track.invariant
    (ap (λ (s : LineState). record { state = s; index = old.index }) c.share.ensures)

pub returns : goal.returns
returns c = c.loop-track.invariant ∙ mapped_end (sharing_track c.args.machine c.args.shared.now) c.loop-track.track-index c.args.tracks.now (omega arith)
