use Rattle.std.proofs.Common.{◌++◌, ap, ◌∙◌}
use Rattle.std.proofs.lemmas.Result.{on_ok_weaker}
use Rattle.hermes_element.proofs.Standings.{stands-then}
use Rattle.hermes_horizontal.specs.Canonical.{assignment_if}
use Rattle.hermes_horizontal.specs.declared.attr.Attr.TheVariants as attrs
use Rattle.hermes_horizontal.proofs.Writing.{board_written}
use Rattle.hermes_horizontal.proofs.board.append_board.Goals as goal

pub returns-in_err-append_optional_text-2-clause-kept : goal.returns-in_err-append_optional_text-2-clause-kept
returns-in_err-append_optional_text-2-clause-kept c =
    stands-then (stands-then (stands-then (stands-then c.append_optional_id.ensures.kept c.append_optional_text.ensures.kept) c.append_optional_number.ensures.kept) c.append_optional_number-2.ensures.kept) c.append_optional_text-2.ensures.kept

pub returns-in_err-append_optional_text-3-clause-kept : goal.returns-in_err-append_optional_text-3-clause-kept
returns-in_err-append_optional_text-3-clause-kept c =
    stands-then (stands-then (stands-then (stands-then (stands-then c.append_optional_id.ensures.kept c.append_optional_text.ensures.kept) c.append_optional_number.ensures.kept) c.append_optional_number-2.ensures.kept) c.append_optional_text-2.ensures.kept) c.append_optional_text-3.ensures.kept

pub returns-in_err-append_optional_text-4-clause-kept : goal.returns-in_err-append_optional_text-4-clause-kept
returns-in_err-append_optional_text-4-clause-kept c =
    stands-then (stands-then (stands-then (stands-then (stands-then (stands-then c.append_optional_id.ensures.kept c.append_optional_text.ensures.kept) c.append_optional_number.ensures.kept) c.append_optional_number-2.ensures.kept) c.append_optional_text-2.ensures.kept) c.append_optional_text-3.ensures.kept) c.append_optional_text-4.ensures.kept

pub returns-in_err-append_optional_decimal-clause-kept : goal.returns-in_err-append_optional_decimal-clause-kept
returns-in_err-append_optional_decimal-clause-kept c =
    stands-then (stands-then (stands-then (stands-then (stands-then (stands-then (stands-then c.append_optional_id.ensures.kept c.append_optional_text.ensures.kept) c.append_optional_number.ensures.kept) c.append_optional_number-2.ensures.kept) c.append_optional_text-2.ensures.kept) c.append_optional_text-3.ensures.kept) c.append_optional_text-4.ensures.kept) c.append_optional_decimal.ensures.kept

pub returns-in_err-append_optional_decimal-2-clause-kept : goal.returns-in_err-append_optional_decimal-2-clause-kept
returns-in_err-append_optional_decimal-2-clause-kept c =
    stands-then (stands-then (stands-then (stands-then (stands-then (stands-then (stands-then (stands-then c.append_optional_id.ensures.kept c.append_optional_text.ensures.kept) c.append_optional_number.ensures.kept) c.append_optional_number-2.ensures.kept) c.append_optional_text-2.ensures.kept) c.append_optional_text-3.ensures.kept) c.append_optional_text-4.ensures.kept) c.append_optional_decimal.ensures.kept) c.append_optional_decimal-2.ensures.kept

pub returns-in_err-append_optional_decimal-3-clause-kept : goal.returns-in_err-append_optional_decimal-3-clause-kept
returns-in_err-append_optional_decimal-3-clause-kept c =
    stands-then (stands-then (stands-then (stands-then (stands-then (stands-then (stands-then (stands-then (stands-then c.append_optional_id.ensures.kept c.append_optional_text.ensures.kept) c.append_optional_number.ensures.kept) c.append_optional_number-2.ensures.kept) c.append_optional_text-2.ensures.kept) c.append_optional_text-3.ensures.kept) c.append_optional_text-4.ensures.kept) c.append_optional_decimal.ensures.kept) c.append_optional_decimal-2.ensures.kept) c.append_optional_decimal-3.ensures.kept

pub returns-in_err-append_optional_decimal-4-clause-kept : goal.returns-in_err-append_optional_decimal-4-clause-kept
returns-in_err-append_optional_decimal-4-clause-kept c =
    stands-then (stands-then (stands-then (stands-then (stands-then (stands-then (stands-then (stands-then (stands-then (stands-then c.append_optional_id.ensures.kept c.append_optional_text.ensures.kept) c.append_optional_number.ensures.kept) c.append_optional_number-2.ensures.kept) c.append_optional_text-2.ensures.kept) c.append_optional_text-3.ensures.kept) c.append_optional_text-4.ensures.kept) c.append_optional_decimal.ensures.kept) c.append_optional_decimal-2.ensures.kept) c.append_optional_decimal-3.ensures.kept) c.append_optional_decimal-4.ensures.kept

pub returns-in_err-append_optional_decimal-5-clause-kept : goal.returns-in_err-append_optional_decimal-5-clause-kept
returns-in_err-append_optional_decimal-5-clause-kept c =
    stands-then (stands-then (stands-then (stands-then (stands-then (stands-then (stands-then (stands-then (stands-then (stands-then (stands-then c.append_optional_id.ensures.kept c.append_optional_text.ensures.kept) c.append_optional_number.ensures.kept) c.append_optional_number-2.ensures.kept) c.append_optional_text-2.ensures.kept) c.append_optional_text-3.ensures.kept) c.append_optional_text-4.ensures.kept) c.append_optional_decimal.ensures.kept) c.append_optional_decimal-2.ensures.kept) c.append_optional_decimal-3.ensures.kept) c.append_optional_decimal-4.ensures.kept) c.append_optional_decimal-5.ensures.kept

pub returns-in_err-append_optional_decimal-6-clause-kept : goal.returns-in_err-append_optional_decimal-6-clause-kept
returns-in_err-append_optional_decimal-6-clause-kept c =
    stands-then (stands-then (stands-then (stands-then (stands-then (stands-then (stands-then (stands-then (stands-then (stands-then (stands-then (stands-then c.append_optional_id.ensures.kept c.append_optional_text.ensures.kept) c.append_optional_number.ensures.kept) c.append_optional_number-2.ensures.kept) c.append_optional_text-2.ensures.kept) c.append_optional_text-3.ensures.kept) c.append_optional_text-4.ensures.kept) c.append_optional_decimal.ensures.kept) c.append_optional_decimal-2.ensures.kept) c.append_optional_decimal-3.ensures.kept) c.append_optional_decimal-4.ensures.kept) c.append_optional_decimal-5.ensures.kept) c.append_optional_decimal-6.ensures.kept

pub returns-in_err-append_optional_decimal-7-clause-kept : goal.returns-in_err-append_optional_decimal-7-clause-kept
returns-in_err-append_optional_decimal-7-clause-kept c =
    stands-then (stands-then (stands-then (stands-then (stands-then (stands-then (stands-then (stands-then (stands-then (stands-then (stands-then (stands-then (stands-then c.append_optional_id.ensures.kept c.append_optional_text.ensures.kept) c.append_optional_number.ensures.kept) c.append_optional_number-2.ensures.kept) c.append_optional_text-2.ensures.kept) c.append_optional_text-3.ensures.kept) c.append_optional_text-4.ensures.kept) c.append_optional_decimal.ensures.kept) c.append_optional_decimal-2.ensures.kept) c.append_optional_decimal-3.ensures.kept) c.append_optional_decimal-4.ensures.kept) c.append_optional_decimal-5.ensures.kept) c.append_optional_decimal-6.ensures.kept) c.append_optional_decimal-7.ensures.kept

pub returns-in_err-append_optional_text-5-clause-kept : goal.returns-in_err-append_optional_text-5-clause-kept
returns-in_err-append_optional_text-5-clause-kept c =
    stands-then (stands-then (stands-then (stands-then (stands-then (stands-then (stands-then (stands-then (stands-then (stands-then (stands-then (stands-then (stands-then (stands-then c.append_optional_id.ensures.kept c.append_optional_text.ensures.kept) c.append_optional_number.ensures.kept) c.append_optional_number-2.ensures.kept) c.append_optional_text-2.ensures.kept) c.append_optional_text-3.ensures.kept) c.append_optional_text-4.ensures.kept) c.append_optional_decimal.ensures.kept) c.append_optional_decimal-2.ensures.kept) c.append_optional_decimal-3.ensures.kept) c.append_optional_decimal-4.ensures.kept) c.append_optional_decimal-5.ensures.kept) c.append_optional_decimal-6.ensures.kept) c.append_optional_decimal-7.ensures.kept) c.append_optional_text-5.ensures.kept

pub returns-clause-kept : goal.returns-clause-kept
returns-clause-kept c =
    stands-then (stands-then (stands-then (stands-then (stands-then (stands-then (stands-then (stands-then (stands-then (stands-then (stands-then (stands-then (stands-then (stands-then (stands-then c.append_optional_id.ensures.kept c.append_optional_text.ensures.kept) c.append_optional_number.ensures.kept) c.append_optional_number-2.ensures.kept) c.append_optional_text-2.ensures.kept) c.append_optional_text-3.ensures.kept) c.append_optional_text-4.ensures.kept) c.append_optional_decimal.ensures.kept) c.append_optional_decimal-2.ensures.kept) c.append_optional_decimal-3.ensures.kept) c.append_optional_decimal-4.ensures.kept) c.append_optional_decimal-5.ensures.kept) c.append_optional_decimal-6.ensures.kept) c.append_optional_decimal-7.ensures.kept) c.append_optional_text-5.ensures.kept) c.append_optional_text-6.ensures.kept

pub returns-clause-written : goal.returns-clause-written
returns-clause-written c = λ whole. on_ok_weaker c.append_optional_text-6.result
    (λ end. board_written whole c.args.board.now
    c.args.to.now.items c.append_optional_id.new.to.items c.append_optional_text.new.to.items c.append_optional_number.new.to.items
    c.append_optional_number-2.new.to.items c.append_optional_text-2.new.to.items c.append_optional_text-3.new.to.items c.append_optional_text-4.new.to.items
    c.append_optional_decimal.new.to.items c.append_optional_decimal-2.new.to.items c.append_optional_decimal-3.new.to.items c.append_optional_decimal-4.new.to.items
    c.append_optional_decimal-5.new.to.items c.append_optional_decimal-6.new.to.items c.append_optional_decimal-7.new.to.items c.append_optional_text-5.new.to.items
    c.append_optional_text-6.new.to.items
    c.in_ok-append_optional_id.ensures.written c.in_ok-append_optional_text.ensures.written
    (c.in_ok-append_optional_number.ensures.written ∙ ap (λ value. c.append_optional_text.new.to.items ++ assignment_if attrs.FailedBoard value) c.optional_quality_number-quality.ensures) (c.in_ok-append_optional_number-2.ensures.written ∙ ap (λ value. c.append_optional_number.new.to.items ++ assignment_if attrs.FlippedBoard value) c.optional_flip_number-flip.ensures)
    c.in_ok-append_optional_text-2.ensures.written c.in_ok-append_optional_text-3.ensures.written
    c.in_ok-append_optional_text-4.ensures.written c.in_ok-append_optional_decimal.ensures.written
    c.in_ok-append_optional_decimal-2.ensures.written c.in_ok-append_optional_decimal-3.ensures.written
    c.in_ok-append_optional_decimal-4.ensures.written c.in_ok-append_optional_decimal-5.ensures.written
    c.in_ok-append_optional_decimal-6.ensures.written c.in_ok-append_optional_decimal-7.ensures.written
    c.in_ok-append_optional_text-5.ensures.written
    end)
    c.append_optional_text-6.ensures.written
