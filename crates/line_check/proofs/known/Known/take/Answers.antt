use Rattle.std.proofs.Common.{◌≡◌, ◌∙◌, ◌∷◌, ◌+◌, ◌&&◌, ℕ, Option, Some, false, not, sym, ap}
use Rattle.line_check.specs.declared.group.Group.{Group}
use Rattle.line_check.specs.LogLine.{group_of}
use Rattle.line_check.specs.Log.{against, all_stand, is_same_group, ledger_of}
use Rattle.line_check.specs.Checking.{last_group}
use Rattle.line_check.proofs.Reasons.{owed-own, regroup}
use Rattle.line_check.proofs.known.Known.take.Goals as goal

pub returns-in-Err-clause-knows : goal.returns-in-Err-clause-knows
returns-in-Err-clause-knows c = λ lines known.
    let bytes = c.args.bytes.now in
    let stands : (not (is_same_group (last_group lines) (group_of bytes)) && not (all_stand (ledger_of lines).marks)) ≡ false =
    ap (λ (o : Option Group). not (is_same_group o (group_of bytes)) && not (all_stand (ledger_of lines).marks)) (sym known.open_group)
    ∙ ap (λ (o : Option Group). not (is_same_group c.args.self.now.open_group o) && not (all_stand (ledger_of lines).marks)) (sym c.group_of-group.ensures.answer)
    ∙ sym (c.ends_without.ensures lines known) ∙ c.if-ends_without.false
    in
    let own = sym (c.in-Err.ensures.answer lines known) in
    record {
      whatever = λ after.
          ap against (regroup lines bytes after) ∙ known.goes (bytes ∷ after) ∙ owed-own lines bytes after c.in-Err.why stands own
          ∙ ap (λ (n : ℕ). Some (record { line = n + 1; why = c.in-Err.why })) (sym known.counted);
    }
