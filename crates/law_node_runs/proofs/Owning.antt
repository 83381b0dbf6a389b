-- What a machine owns after a run over a book is read off the run's log.
use Rattle.std.proofs.Common.{◌≡◌, ◌∙◌, ◌++◌, List, [], ◌∷◌, refl, sym, ap, subst}
use Rattle.book_entry.specs.declared.entry.Entry.{Entry}
use Rattle.book_entry.specs.Steps.{Replays}
use Rattle.node_core.proofs.Keeping.{own_append}
use Rattle.node_core.proofs.Lasting.{may_alone, owns_after}
use Rattle.node_core.specs.Node.{NodeState}
use Rattle.node_core.specs.Own.{own_after, own_of}
use Rattle.node_core.specs.declared.act.Act.{Act}
use Rattle.node_run.proofs.Accounts.{own_read}
use Rattle.node_run.specs.Booked.{EntriesAreTheSteps}
use Rattle.law_node_runs.specs.Anew.{KeptLogTellsOwn}

pub replays_own : (s t : NodeState) (entries : List Entry) (acts : List Act) → Replays s entries t acts → own_of t.lane.body ≡ own_after (own_of s.lane.body) acts
replays_own s t [] acts replays = sym (ap (λ (n : NodeState). own_of n.lane.body) replays.0) ∙ ap (own_after (own_of s.lane.body)) (sym replays.1)
replays_own s t (entry ∷ entries) acts replays =
    replays_own replays.0 t entries replays.2 replays.4 ∙ ap (λ o. own_after o replays.2) (owns_after s replays.0 entry.sensed replays.3.lent entry.moment replays.1 (may_alone s replays.3.lent replays.3.may) replays.3.steps)
    ∙ sym (own_append (own_of s.lane.body) replays.1 replays.2) ∙ ap (own_after (own_of s.lane.body)) (sym replays.5)

pub kept_owns : EntriesAreTheSteps → KeptLogTellsOwn
kept_owns law rules moments s t calls log entries run =
    let is = law rules moments s t calls log entries run in
    replays_own s.node t.node entries is.told is.replays ∙ sym (own_read rules (own_of s.node.lane.body) is.tells)
