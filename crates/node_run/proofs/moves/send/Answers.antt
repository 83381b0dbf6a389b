use Rattle.node_run.proofs.Moving.{sent_on, sent_counts, unsent_some}
use Rattle.node_run.proofs.Nexts.{left_to_send, some_to_send}
use Rattle.node_run.proofs.moves.send.Goals as goal

pub send-sent-requires : goal.send-sent-requires
send-sent-requires g c = unsent_some c.unsent.result.now c.args.run.now.state c.args.way c.unsent.ensures (some_to_send c.args.run.now.rules c.args.run.now.state c.args.way c.requires.next)

pub after_send-requires : goal.after_send-requires
after_send-requires g c = left_to_send c.args.run.now.rules c.args.run.now.state c.args.way c.requires.next

pub returns-clause-counted : goal.returns-clause-counted
returns-clause-counted g c = sent_counts c.send-sent.result _ _ c.send-sent.ensures.cause

pub returns-clause-moves : goal.returns-clause-moves
returns-clause-moves g c =
    λ told. sent_on told c.args.run.now c.after_send.new.self c.args.way c.unsent.result.now c.send-sent.result _ _ _ _ c.requires.next c.requires.told c.requires.rest c.unsent.ensures c.send-sent.ensures.told c.after_send.ensures
