use Rattle.std.proofs.Common.{◌≡◌}
use Rattle.node_run.proofs.Booking.{as_ever, ended_kept, misses_as_ever, missed_kept, once_kept, rules_kept, status_weaker}
use Rattle.node_run.proofs.Moving.{once_status}
use Rattle.node_run.proofs.booked.next_kept.Goals as goal

pub returns-in-End-clause-does : goal.returns-in-End-clause-does
returns-in-End-clause-does g c = ended_kept _ c.args.run.now c.begin_move.new.self _ _ _ _ c.in-End.status c.begin_move.ensures c.requires.again c.requires.ended c.in-End.ensures

pub returns-in-End-clause-status : goal.returns-in-End-clause-status
returns-in-End-clause-status g c = once_status c.args.run.now c.begin_move.new.self c.in-End.status _ _ c.begin_move.ensures c.requires.ended c.in-End.ensures

pub returns-in-Err-clause-does : goal.returns-in-Err-clause-does
returns-in-Err-clause-does g c = missed_kept _ c.args.run.now c.begin_move.new.self c.make_move.new.run.state c.args.size.now c.args.size.now _ _ _ _ c.begin_move.ensures (misses_as_ever c.args.run.now c.begin_move.new.self _ _ c.begin_move.ensures c.requires.again c.in-Err.ensures.misses)

pub returns-clause-rules : goal.returns-clause-rules
returns-clause-rules g c = λ none. rules_kept _ c.args.run.now c.begin_move.new.self c.make_move.new.run _ _ _ _ c.begin_move.ensures (as_ever _ c.args.run.now c.begin_move.new.self c.make_move.new.run _ _ _ _ c.begin_move.ensures c.requires.again c.in_default-make_move.ensures.moves)

pub returns-clause-does : goal.returns-clause-does
returns-clause-does g c =
    once_kept c.go_out.result _ c.args.run.now c.begin_move.new.self c.make_move.new.run c.made_odd_steps-odd.result _ _ _ _ _ _ _ _ _ _ c.begin_move.ensures c.made_odd_steps-odd.ensures (as_ever _ c.args.run.now c.begin_move.new.self c.make_move.new.run _ _ _ _ c.begin_move.ensures c.requires.again c.in_default-make_move.ensures.moves) c.go_out.ensures.out

pub returns-clause-rest : goal.returns-clause-rest
returns-clause-rest g c = λ none. c.in_default-make_move.ensures.moves.rest

pub returns-clause-ended : goal.returns-clause-ended
returns-clause-ended g c = λ none. c.in_default-make_move.ensures.moves.ended

pub returns-clause-status : goal.returns-clause-status
returns-clause-status g c = status_weaker c.go_out.result c.args.run.now.state.ended _ _ _ _ c.go_out.ensures.status
