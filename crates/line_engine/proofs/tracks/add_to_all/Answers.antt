use Rattle.std.proofs.Common.{◌∙◌, ◌+◌, ◌<◌, ap, arith, length}
use Rattle.std.specs.Prelude.{slice_index_or}
use Rattle.line_step.specs.State.{LineState}
use Rattle.line_engine.specs.declared.track.Track.{Track}
use Rattle.line_engine.proofs.Adding.{grown_end, grows_next, room_at}
use Rattle.line_engine.proofs.tracks.add_to_all.Goals as goal

pub loop-track-preserved : goal.loop-track-preserved
loop-track-preserved c =
    let old : Track = slice_index_or c.loop-track.tracks c.loop-track.track-index c.track-item.result in (
      ap (λ n. n + 1) c.loop-track.invariant.0,
      grows_next c.loop-track.track-index (c.loop-track.lane + 1) c.args.is_bridge c.args.capacity c.args.used c.args.tracks.now c.loop-track.tracks c.track-item.result (record { state = c.add_machine.new.self; index = old.index }) (omega arith) (omega (arith, c.loop-track.invariant.0)) c.loop-track.invariant.1
          (ap (λ (s : LineState). record { state = s; index = old.index }) c.in_ok-add_machine.ensures),
    )

pub returns : goal.returns
returns c = c.loop-track.invariant.1 ∙ grown_end c.loop-track.track-index 2 c.args.is_bridge c.args.capacity c.args.used c.args.tracks.now (omega arith)

pub add_machine-requires-clause-few : goal.add_machine-requires-clause-few
add_machine-requires-clause-few c =
    let within : c.loop-track.track-index < length c.args.tracks.now = omega arith in
    (room_at c.loop-track.track-index 2 c.args.is_bridge c.args.capacity c.args.used c.args.tracks.now c.loop-track.tracks c.track-item.result within c.requires.room c.loop-track.invariant.1).few

pub add_machine-requires-clause-together : goal.add_machine-requires-clause-together
add_machine-requires-clause-together c =
    let within : c.loop-track.track-index < length c.args.tracks.now = omega arith in
    (room_at c.loop-track.track-index 2 c.args.is_bridge c.args.capacity c.args.used c.args.tracks.now c.loop-track.tracks c.track-item.result within c.requires.room c.loop-track.invariant.1).together
