use Rattle.std.proofs.Common.{arith, sym}
use Rattle.book_entry.proofs.Texts.{is_text_of, not_text}
use Rattle.book_entry.proofs.text.is_text.Goals as goal

pub returns-in-Ok : goal.returns-in-Ok
returns-in-Ok c = sym (is_text_of c.args.bytes.now c.in-Ok.ensures.1.allowed)

pub returns-in-Err-TooLong : goal.returns-in-Err-TooLong
returns-in-Err-TooLong c =
    let long = rw c.in-Err-TooLong.field-0-is at c.in-Err-TooLong.ensures in
    absurd (omega (arith, long, c.requires))

pub returns-in-Err-BadChar : goal.returns-in-Err-BadChar
returns-in-Err-BadChar c =
    let never = rw c.in-Err-BadChar.field-0-is at c.in-Err-BadChar.ensures in
    sym (not_text c.args.bytes.now never.1)
