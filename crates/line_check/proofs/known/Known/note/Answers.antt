use Rattle.std.proofs.Common.{◌≡◌, ◌∙◌, ◌∷◌, ◌&&◌, [], sym, ap, subst, Some, false, not, length-append, arith}
use Rattle.standings.specs.Ledger.{Ledger, ledger_after_all}
use Rattle.line_check.specs.declared.group.Group.{Group}
use Rattle.line_check.specs.declared.reading.Reading.{Reading}
use Rattle.std.proofs.Common.{Option}
use Rattle.line_check.specs.LogLine.{group_of}
use Rattle.line_check.specs.Log.{against, all_stand, deeds_in, is_late_in, is_same_group, ledger_of}
use Rattle.line_check.specs.Book.{IsBook}
use Rattle.line_check.specs.Checking.{last_group}
use Rattle.line_check.proofs.Reasons.{last_group-push, ledger_of-push, no_reason, owed-none, regroup}
use Rattle.line_check.proofs.known.Known.note.Goals as goal

pub returns-clause-known : goal.returns-clause-known
returns-clause-known c = λ lines known own stand.
    let bytes = c.args.bytes.now in
    let group = c.args.group in
    let of : group_of bytes ≡ Some group = c.requires.group in
    let early : is_late_in (Some group) lines ≡ false = ap (λ (o : Option Group). is_late_in o lines) (sym of) ∙ (no_reason lines bytes own).early in
    let stands : (not (is_same_group (last_group lines) (group_of bytes)) && not (all_stand (ledger_of lines).marks)) ≡ false =
    ap (λ (o : Option Group). not (is_same_group o (group_of bytes)) && not (all_stand (ledger_of lines).marks)) (sym known.open_group)
    ∙ ap (λ (o : Option Group). not (is_same_group c.args.self.now.open_group o) && not (all_stand (ledger_of lines).marks)) of
    ∙ stand
    in
    let P : Ledger → Type 0 = λ (ledger : Ledger). IsBook ledger c.note_said.new.self in
    record {
      counted = omega (arith, known.counted, length-append lines (bytes ∷ []));
      open_group = sym of ∙ sym (last_group-push lines bytes);
      turns = c.note.ensures lines bytes known.turns of early;
      book = subst P (ap (λ (said : Reading). ledger_after_all (ledger_of lines) (deeds_in said)) c.requires.said ∙ sym (ledger_of-push lines bytes)) (c.in_ok-note_said.ensures (ledger_of lines) known.book);
      goes = λ after. ap against (regroup lines bytes after) ∙ known.goes (bytes ∷ after) ∙ owed-none lines bytes after stands own;
    }
