use Rattle.law_running_line.specs.Reading.{Behind}
use Rattle.law_joined_nodes.proofs.Runs.{poured_stand, tcp_is_enough}
use Rattle.law_joined_nodes.proofs.joined_ports.what_carries_bytes_in_order_is_enough.Goals as goal

pub returns-clause-woven : goal.returns-clause-woven
returns-clause-woven c =
    tcp_is_enough c.the_relation_goes_on_behind_the_reading.ensures.steps
    (c.the_relation_goes_on_behind_the_reading.ensures.new Behind)

pub returns-clause-stand : goal.returns-clause-stand
returns-clause-stand c =
    poured_stand c.the_relation_goes_on_behind_the_reading.ensures.steps
    (c.the_relation_goes_on_behind_the_reading.ensures.new Behind)
    c.one_standing_in_the_relation.ensures
