use Rattle.std.proofs.Common.{arith}
use Rattle.line_engine.proofs.tracks.Tracks.begin_stop.Goals as goal

pub do_part-requires-clause-within : goal.do_part-requires-clause-within
do_part-requires-clause-within c = (record { least = omega arith; most = omega arith }, c.requires.machine)
