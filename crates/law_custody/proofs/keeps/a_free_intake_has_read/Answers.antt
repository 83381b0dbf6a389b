use Rattle.law_custody.proofs.Ahead.{frees_read, moves_not, steps_ahead}
use Rattle.law_custody.proofs.keeps.a_free_intake_has_read.Goals as goal

pub returns-clause-read : goal.returns-clause-read
returns-clause-read c = λ g l e rest row k is free. frees_read g l e rest row k is free

pub returns-clause-rests : goal.returns-clause-rests
returns-clause-rests c = λ step l g around k y i moved. moves_not step l g around k y i moved

pub returns-clause-announces : goal.returns-clause-announces
returns-clause-announces c = λ gone kept g l w later none step. steps_ahead g l w later none step
