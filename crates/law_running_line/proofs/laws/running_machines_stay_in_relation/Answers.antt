use Rattle.law_running_line.proofs.FloorMoves.{moves_stand}
use Rattle.law_running_line.proofs.NewMachines.{new_stand}
use Rattle.law_running_line.proofs.Relation.{asks_stand, lets_be_stand}
use Rattle.law_running_line.proofs.laws.running_machines_stay_in_relation.Goals as goal

pub returns-clause-new : goal.returns-clause-new
returns-clause-new c = λ s new differ. new_stand s new differ

pub returns-clause-asks : goal.returns-clause-asks
returns-clause-asks c = λ machine before after asks r. record { trace = r.trace; stands = asks_stand r.trace r.stands asks }

pub returns-clause-lets_be : goal.returns-clause-lets_be
returns-clause-lets_be c = λ machine side before after lets r. record { trace = r.trace; stands = lets_be_stand r.trace r.stands lets }

pub returns-clause-moves : goal.returns-clause-moves
returns-clause-moves c = λ reading gap step before after moves r. moves_stand r.trace r.stands moves
