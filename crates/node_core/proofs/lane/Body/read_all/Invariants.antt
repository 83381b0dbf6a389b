use Rattle.std.proofs.Common.{◌≡◌, ◌++◌, drop}
use Rattle.node_core.specs.Reads.{all_read}
use Rattle.node_core.proofs.lane.Body.read_all.Given as goal

abbrev pub invariant-loop-sensed : goal.invariant-loop-sensed
invariant-loop-sensed l = record {
  body : (all_read l.desk (drop l.sensed-index l.unread) l.self).body ≡ (all_read l.desk l.unread l.initial.self).body;
  acts : l.to ++ (all_read l.desk (drop l.sensed-index l.unread) l.self).acts ≡ l.initial.to ++ (all_read l.desk l.unread l.initial.self).acts;
}
