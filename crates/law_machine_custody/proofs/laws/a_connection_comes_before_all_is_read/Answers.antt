use Rattle.law_machine_custody.proofs.Answering.{lefts_ahead, seconds_ahead}
use Rattle.law_machine_custody.proofs.ComingLast.{comes_ahead, comes_alone_ahead}
use Rattle.law_machine_custody.proofs.FrontRead.{reads_front}
use Rattle.law_machine_custody.proofs.TakingAlone.{takes_ahead}
use Rattle.law_machine_custody.proofs.laws.a_connection_comes_before_all_is_read.Goals as goal

pub returns-clause-first : goal.returns-clause-first
returns-clause-first v = λ afar above ga gb desk read rest body c down g r away may shakes up quiet. comes_ahead desk read body c down (reads_front desk read rest body c g r) away may shakes up quiet

pub returns-clause-above : goal.returns-clause-above
returns-clause-above v = λ afar above ga gb desk read rest body c up g r away call. takes_ahead desk read body c up (reads_front desk read rest body c g r) away call

pub returns-clause-below : goal.returns-clause-below
returns-clause-below v = λ afar above ga gb desk read rest body c down g r away may quiet. comes_alone_ahead desk read body c down (reads_front desk read rest body c g r) away may quiet

pub returns-clause-refused : goal.returns-clause-refused
returns-clause-refused v = λ afar above ga gb desk read rest body c g r. seconds_ahead desk read body c (reads_front desk read rest body c g r)

pub returns-clause-left : goal.returns-clause-left
returns-clause-left v = λ afar above ga gb desk read rest body c g r. lefts_ahead desk read body c (reads_front desk read rest body c g r)
