use Rattle.line_cli.proofs.Tracks.{fronts_are_tracks, lanes_are_tracks, records_on_one, records_stand}
use Rattle.line_cli.proofs.laws.each_lane_is_run.Goals as goal

pub returns-clause-lanes : goal.returns-clause-lanes
returns-clause-lanes c = lanes_are_tracks c.each_lane_is_a_track.ensures.tracks

pub returns-clause-fronts : goal.returns-clause-fronts
returns-clause-fronts c = fronts_are_tracks c.each_lane_is_a_track.ensures.fronts

pub returns-clause-standing : goal.returns-clause-standing
returns-clause-standing c = records_stand c.each_lane_is_a_track.ensures.standing

pub returns-clause-one_lane : goal.returns-clause-one_lane
returns-clause-one_lane c = records_on_one c.each_lane_is_a_track.ensures.one_lane
