use Rattle.std.proofs.Common.{◌∙◌}
use Rattle.node_run.proofs.Moving.{if_looked, unless_looked, got_counts, short_found}
use Rattle.node_run.proofs.moves.look.Goals as goal

pub returns-clause-counted : goal.returns-clause-counted
returns-clause-counted g c = got_counts c.poll-got.result _ _ c.poll-got.ensures.cause

pub returns-clause-moves : goal.returns-clause-moves
returns-clause-moves g c =
    λ told. if_looked c.after_look.result told c.args.run.now c.after_look.new.self _ _ _ _ _ _ _ c.requires.next c.requires.rest c.after_look.ensures.rules
    (c.poll-got.auto.room ∙ c.requires.room) c.given.ensures.found (short_found c.poll-got.result _ c.given.result.now (c.poll-got.auto.room ∙ c.requires.room) c.given.ensures.within) c.poll-got.ensures.told c.after_look.ensures.after

pub returns-clause-misses : goal.returns-clause-misses
returns-clause-misses g c = unless_looked c.after_look.result c.args.run.now.rules c.args.run.now.state _ _ _ _ c.requires.next (c.poll-got.auto.room ∙ c.requires.room) c.poll-got.ensures.told
