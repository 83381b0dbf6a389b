use Rattle.std.proofs.Common.{◌∙◌, arith}
use Rattle.node_run.proofs.Moving.{if_polled, unless_polled, got_counts, short_found}
use Rattle.node_run.proofs.Nexts.{left_to_poll}
use Rattle.node_run.proofs.moves.poll.Goals as goal

pub after_poll-requires-clause-turn : goal.after_poll-requires-clause-turn
after_poll-requires-clause-turn g c = left_to_poll c.args.run.now.rules c.args.run.now.state c.args.way c.requires.next

pub after_poll-requires-clause-few : goal.after_poll-requires-clause-few
after_poll-requires-clause-few g c = omega (arith, c.given.ensures.within, c.poll-got.auto.room, c.requires.room)

pub returns-clause-counted : goal.returns-clause-counted
returns-clause-counted g c = got_counts c.poll-got.result _ _ c.poll-got.ensures.cause

pub returns-clause-moves : goal.returns-clause-moves
returns-clause-moves g c =
    if_polled c.after_poll.result _ c.moment_of-moment.result c.args.run.now c.after_poll.new.self c.args.way _ _ _ _ _ _ _ c.requires.next c.requires.rest c.moment_of-moment.ensures.told c.after_poll.ensures.rules
    (c.poll-got.auto.room ∙ c.requires.room) c.given.ensures.found (short_found c.poll-got.result _ c.given.result.now (c.poll-got.auto.room ∙ c.requires.room) c.given.ensures.within) c.poll-got.ensures.told c.after_poll.ensures.after

pub returns-clause-misses : goal.returns-clause-misses
returns-clause-misses g c = unless_polled c.after_poll.result c.args.run.now.rules c.args.run.now.state c.args.way _ _ _ _ c.requires.next (c.poll-got.auto.room ∙ c.requires.room) c.poll-got.ensures.told
