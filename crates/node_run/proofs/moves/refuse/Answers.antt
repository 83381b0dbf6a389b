use Rattle.node_run.proofs.Moving.{refused_on, sent_counts}
use Rattle.node_run.proofs.moves.refuse.Goals as goal

pub returns-clause-counted : goal.returns-clause-counted
returns-clause-counted g c = sent_counts c.refuse.result _ _ c.refuse.ensures.cause

pub returns-clause-moves : goal.returns-clause-moves
returns-clause-moves g c =
    λ told. refused_on told c.args.run.now c.after_refuse.new.self c.args.way c.refusal_text.result.now c.refuse.result _ _ _ _ c.requires.next c.requires.told c.requires.rest c.refusal_text.ensures c.refuse.ensures.told c.after_refuse.ensures
