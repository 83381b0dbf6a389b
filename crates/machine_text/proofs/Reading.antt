-- What a machine owns is read off the lines of its steps, whatever follows.
use Rattle.std.proofs.Common.{◌≡◌, ◌∙◌, sym, ap, refl, ℕ, true, List, [], ◌++◌, append_assoc, append-nil}
use Rattle.std.proofs.lemmas.List.Elements.{recursion_from_All}
use Rattle.node_core.specs.Own.{own_of}
use Rattle.machine_log.specs.Account.{AreProper, IsProperAct, own_behind}
use Rattle.machine_log.proofs.Reading.{acts_read}
use Rattle.machine_port.specs.Port.{PortState}
use Rattle.machine_text.specs.Logs.{IsLog, OwnIsRead, TellsOwn, begun, between, log_of, step_more}

-- of the lines of a step
pub tells_own : (s : PortState) → AreProper s.last → TellsOwn s
tells_own s proper rest own = acts_read true s.steps s.number s.last rest own (recursion_from_All IsProperAct s.last proper.each)

-- and of those of any steps
log_read : {s t : PortState} {log : List ℕ} → IsLog s log t → (rest : List ℕ)
    → own_behind [] (log ++ rest) (own_of s.node.lane.body) ≡ own_behind [] rest (own_of t.node.lane.body)
log_read begun rest = refl
log_read {s} (step_more {t} {u} {log} is sensed input moment stepped tells) rest =
    ap (λ bytes. own_behind [] bytes (own_of s.node.lane.body)) (append_assoc log (log_of u) rest)
    ∙ log_read is (log_of u ++ rest)
    ∙ tells rest (own_of t.node.lane.body)
    ∙ ap (own_behind [] rest) (sym stepped.own)
log_read (between {t} {u} {log} is same) rest =
    log_read is rest ∙ ap (λ n. own_behind [] rest (own_of n.lane.body)) (sym same)

pub own_is_read : (s t : PortState) (log : List ℕ) → IsLog s log t → OwnIsRead s t log
own_is_read s t log is =
    sym (sym (ap (λ bytes. own_behind [] bytes (own_of s.node.lane.body)) (append-nil log)) ∙ log_read is [])
