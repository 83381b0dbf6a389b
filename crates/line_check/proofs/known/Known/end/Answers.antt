use Rattle.std.proofs.Common.{◌≡◌, ◌∙◌, sym, ap, None, Some, [], append-nil, true, false}
use Rattle.line_check.specs.Log.{against, all_stand, ledger_of}
use Rattle.line_check.specs.declared.why.CheckWhy.TheVariants.{Standing}
use Rattle.line_check.proofs.Reasons.{end_lacks, end_stands}
use Rattle.line_check.proofs.Rights.{right_from}
use Rattle.line_check.proofs.known.Known.end.Goals as goal

pub returns-then-not-all_stand-clause-ends : goal.returns-then-not-all_stand-clause-ends
returns-then-not-all_stand-clause-ends c = λ lines known.
    let lacks : all_stand (ledger_of lines).marks ≡ false = sym (c.all_stand.ensures (ledger_of lines) known.book) ∙ c.if-not-all_stand.true in
    ap against (sym (append-nil lines)) ∙ known.goes [] ∙ end_lacks lines lacks ∙ ap (λ n. Some (record { line = n; why = Standing })) (sym known.counted)

pub returns-clause-ends : goal.returns-clause-ends
returns-clause-ends c = λ lines known.
    let stand : all_stand (ledger_of lines).marks ≡ true = sym (c.all_stand.ensures (ledger_of lines) known.book) ∙ c.if-not-all_stand.false in
    let nothing : against lines ≡ None = ap against (sym (append-nil lines)) ∙ known.goes [] ∙ end_stands lines stand in
    record { nothing = nothing; lines_counted = known.counted; boards_counted = c.boards.ensures (ledger_of lines) known.book; right = right_from lines nothing }
