use Rattle.std.proofs.Common.{refl, sym, ap, ◌∙◌, rules}
use Rattle.line_commands.specs.Command.{is_run, is_read, is_check}
use Rattle.line_commands.specs.Making.{made_number}
use Rattle.line_commands.proofs.command.do_word.Goals as goal

-- of a run no more is searched for than its own clauses, so what it does not do is refused soon
pub returns-then-is_word-clause-does : goal.returns-then-is_word-clause-does
returns-then-is_word-clause-does g c = rw (ap is_run (sym c.list.ensures) ∙ sym c.if-is_word.ensures) (search rules)

pub returns-then-is_word-clause-causes : goal.returns-then-is_word-clause-causes
returns-then-is_word-clause-causes g c = search rules

pub returns-in-Some-clause-causes : goal.returns-in-Some-clause-causes
returns-in-Some-clause-causes g c = c.write_made.ensures.causes (g.S.Source.faults c.args.script.now)

pub returns-clause-does : goal.returns-clause-does
returns-clause-does g c =
    let runs = ap is_run (sym c.list.ensures) ∙ sym c.if-is_word.ensures in
    let reads = ap is_read (sym c.list-2.ensures) ∙ sym c.if-is_word-2.ensures in
    let checks = ap is_check (sym c.list-3.ensures) ∙ sym c.if-is_word-3.ensures in
    let made = ap made_number (sym c.list-4.ensures) ∙ sym c.made_number.ensures.number ∙ c.in_default.is in
    rw (runs, reads, checks, made) (record { usage = refl; unread = refl; pushed = c.push_all-pushed.result; text = rw c.as_bytes.ensures.value at c.push_all-pushed.ensures })
