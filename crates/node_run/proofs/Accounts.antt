-- What a machine owns is read off its log, whatever follows.
use Rattle.std.proofs.Common.{◌≡◌, ◌∙◌, sym, ap, refl, ℕ, List, [], ◌∷◌, ◌++◌, Option, None, Some, codes, flat_map, append_assoc, append-nil}
use Rattle.std.proofs.lemmas.List.Elements.{recursion_from_All}
use Rattle.node_core.proofs.Keeping.{own_append}
use Rattle.line_base.specs.declared.states.Side.{Side}
use Rattle.line_base.specs.declared.states.Side.TheVariants.{Entry, Exit}
use Rattle.board_record.specs.declared.record.Record.{Record}
use Rattle.line_script.specs.Words.{why_text}
use Rattle.line_report.specs.Texts.{of_board, quality_text, reason_text}
use Rattle.node_core.specs.Own.{Own, own_after}
use Rattle.node_core.specs.declared.act.Act.{Act}
use Rattle.machine_log.specs.Account.{own_behind, own_by_log, IsProperAct}
use Rattle.node_run.specs.declared.rules.Rules.{Rules}
use Rattle.node_run.specs.Owning.{IsAnswer, refuses, denies, shows, greets, TellsActs, no_lines, step_lines, answer_lines}
use Rattle.machine_log.specs.Texts.{lines_of, at_gap, kept_line, held_line}
use Rattle.machine_log.proofs.Solid.{is_inner, join}
use Rattle.machine_log.proofs.Reading.{log_read, acts_read, drives_read}
use Rattle.machine_log.proofs.Inner.{spaced, inner_why, inner_reason, inner_board, inner_gap, inner_quality}

-- ---- answers to the panel tell nothing of it

kept_read : (turn machine : ℕ) (boards : List Record) (rest : List ℕ) (own : Own) → own_behind [] (flat_map (kept_line turn machine) boards ++ rest) own ≡ own_behind [] rest own
kept_read turn machine [] rest own = refl
kept_read turn machine (board ∷ boards) rest own =
    ap (λ bytes. own_behind [] bytes own) (append_assoc (kept_line turn machine board) (flat_map (kept_line turn machine) boards) rest)
    ∙ log_read turn (of_board (codes "show") machine board.id ++ codes " " ++ quality_text board.quality) (flat_map (kept_line turn machine) boards ++ rest) own
    (spaced (of_board (codes "show") machine board.id) (quality_text board.quality) (inner_board (codes "show") machine board.id refl) (inner_quality board.quality))
    ∙ kept_read turn machine boards rest own

held_read : (turn : ℕ) (side : Side) (board : Option Record) (rest : List ℕ) (own : Own) → own_behind [] (held_line turn side board ++ rest) own ≡ own_behind [] rest own
held_read turn side None rest own = refl
held_read turn side (Some board) rest own = log_read turn (at_gap (codes "show") side board.id) rest own (inner_gap (codes "show") side board.id refl)

answer_read : (rules : Rules) {text : List ℕ} → IsAnswer rules text → (rest : List ℕ) (own : Own) → own_behind [] (text ++ rest) own ≡ own_behind [] rest own
answer_read rules (refuses turn why) rest own = log_read turn (codes "refused: " ++ why_text why) rest own (join is_inner (codes "refused: ") (why_text why) refl (inner_why why))
answer_read rules (denies turn reason) rest own = log_read turn (codes "no: " ++ reason_text reason) rest own (join is_inner (codes "no: ") (reason_text reason) refl (inner_reason reason))
answer_read rules (shows turn kept out taking) rest own =
    ap (λ bytes. own_behind [] bytes own) (append_assoc (flat_map (kept_line turn rules.number) kept) (held_line turn Exit out ++ held_line turn Entry taking) rest)
    ∙ kept_read turn rules.number kept ((held_line turn Exit out ++ held_line turn Entry taking) ++ rest) own
    ∙ ap (λ bytes. own_behind [] bytes own) (append_assoc (held_line turn Exit out) (held_line turn Entry taking) rest)
    ∙ held_read turn Exit out (held_line turn Entry taking ++ rest) own
    ∙ held_read turn Entry taking rest own
answer_read rules (greets turn drives) rest own = drives_read rules.panel.drives turn rules.number drives rest own

-- ---- a log

tells_read : (rules : Rules) {log : List ℕ} {told : List Act} → TellsActs rules log told → (rest : List ℕ) (own : Own) → own_behind [] (log ++ rest) own ≡ own_behind [] rest (own_after own told)
tells_read rules no_lines rest own = refl
tells_read rules (step_lines {log} {told} turn acts proper tells) rest own =
    ap (λ bytes. own_behind [] bytes own) (append_assoc log (lines_of rules.panel.drives turn rules.number acts) rest)
    ∙ tells_read rules tells (lines_of rules.panel.drives turn rules.number acts ++ rest) own
    ∙ acts_read rules.panel.drives turn rules.number acts rest (own_after own told) (recursion_from_All IsProperAct acts proper.each)
    ∙ ap (own_behind [] rest) (sym (own_append own told acts))
tells_read rules (answer_lines {log} {text} {told} tells answer) rest own =
    ap (λ bytes. own_behind [] bytes own) (append_assoc log text rest)
    ∙ tells_read rules tells (text ++ rest) own
    ∙ answer_read rules answer rest (own_after own told)

-- what a log tells is what is read off it
pub own_read : (rules : Rules) {log : List ℕ} {told : List Act} (own : Own) → TellsActs rules log told → own_by_log log own ≡ own_after own told
own_read rules {log} {told} own tells = ap (λ bytes. own_behind [] bytes own) (sym (append-nil log)) ∙ tells_read rules tells [] own
