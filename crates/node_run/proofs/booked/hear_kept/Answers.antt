use Rattle.node_run.proofs.Booking.{again_begun, hears_on, missed_kept, misses_none, once_kept, rules_kept, status_weaker, turns_begun}
use Rattle.node_run.proofs.booked.hear_kept.Goals as goal

pub hear_gone-requires-clause-again : goal.hear_gone-requires-clause-again
hear_gone-requires-clause-again g c = again_begun c.args.run.now c.begin_move.new.self c.begin_move.ensures c.requires.again

pub hear_gone-requires-clause-turns : goal.hear_gone-requires-clause-turns
hear_gone-requires-clause-turns g c = turns_begun c.args.run.now c.begin_move.new.self c.begin_move.ensures c.requires.turns

pub returns-in-Err-clause-does : goal.returns-in-Err-clause-does
returns-in-Err-clause-does g c = missed_kept _ c.args.run.now c.begin_move.new.self c.hear_gone.new.self.state c.args.size.now c.args.size.now _ _ _ _ c.begin_move.ensures (misses_none c.args.run.now c.begin_move.new.self _)

pub returns-clause-rules : goal.returns-clause-rules
returns-clause-rules g c = λ none.
    rules_kept _ c.args.run.now c.begin_move.new.self c.hear_gone.new.self (g.P.Ports.given c.args.ports.now) (g.P.Ports.given c.args.ports.now) 0 0 c.begin_move.ensures
    (hears_on _ _ c.args.run.now c.begin_move.new.self c.hear_gone.new.self _ 0 0 c.begin_move.ensures c.requires.again c.requires.rest c.moment_of-moment.ensures.told c.hear_gone.ensures.rules c.in_default.ensures.gone)

pub returns-clause-does : goal.returns-clause-does
returns-clause-does g c =
    once_kept c.go_out.result _ c.args.run.now c.begin_move.new.self c.hear_gone.new.self c.made_odd_steps-odd.result _ _ _ _ _ _ _ _ 0 0 c.begin_move.ensures c.made_odd_steps-odd.ensures
    (hears_on _ _ c.args.run.now c.begin_move.new.self c.hear_gone.new.self _ 0 0 c.begin_move.ensures c.requires.again c.requires.rest c.moment_of-moment.ensures.told c.hear_gone.ensures.rules c.in_default.ensures.gone) c.go_out.ensures.out

pub returns-clause-rest : goal.returns-clause-rest
returns-clause-rest g c = λ none.
    (hears_on _ _ c.args.run.now c.begin_move.new.self c.hear_gone.new.self (g.P.Ports.given c.args.ports.now) 0 0 c.begin_move.ensures c.requires.again c.requires.rest c.moment_of-moment.ensures.told c.hear_gone.ensures.rules c.in_default.ensures.gone).rest

pub returns-clause-ended : goal.returns-clause-ended
returns-clause-ended g c = λ none.
    (hears_on _ _ c.args.run.now c.begin_move.new.self c.hear_gone.new.self (g.P.Ports.given c.args.ports.now) _ _ c.begin_move.ensures c.requires.again c.requires.rest c.moment_of-moment.ensures.told c.hear_gone.ensures.rules c.in_default.ensures.gone).ended

pub returns-clause-status : goal.returns-clause-status
returns-clause-status g c = status_weaker c.go_out.result c.args.run.now.state.ended _ _ _ _ c.go_out.ensures.status
