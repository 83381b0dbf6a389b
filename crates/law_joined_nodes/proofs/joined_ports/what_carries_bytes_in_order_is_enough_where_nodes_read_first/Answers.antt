use Rattle.law_running_line.specs.Reading.{Strictly}
use Rattle.law_joined_nodes.proofs.Weaving.{first_goes}
use Rattle.law_joined_nodes.proofs.Runs.{poured_stand, tcp_is_enough}
use Rattle.law_joined_nodes.proofs.joined_ports.what_carries_bytes_in_order_is_enough_where_nodes_read_first.Goals as goal

pub returns-clause-woven : goal.returns-clause-woven
returns-clause-woven c =
    tcp_is_enough (first_goes c.the_relation_goes_on_in_a_turn.ensures.related)
    (c.the_relation_goes_on_behind_the_reading.ensures.new Strictly)

pub returns-clause-stand : goal.returns-clause-stand
returns-clause-stand c =
    poured_stand (first_goes c.the_relation_goes_on_in_a_turn.ensures.related)
    (c.the_relation_goes_on_behind_the_reading.ensures.new Strictly)
    c.one_standing_in_the_relation.ensures
