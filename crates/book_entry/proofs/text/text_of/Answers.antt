use Rattle.std.proofs.Common.{arith}
use Rattle.book_entry.proofs.Texts.{text_read, text_refused}
use Rattle.book_entry.proofs.text.text_of.Goals as goal

pub returns-in-Ok : goal.returns-in-Ok
returns-in-Ok c = text_read c.args.bytes.now c.in-Ok.text c.in-Ok.ensures

pub returns-in-Err-TooLong : goal.returns-in-Err-TooLong
returns-in-Err-TooLong c =
    let long = rw c.in-Err-TooLong.field-0-is at c.in-Err-TooLong.ensures in
    absurd (omega (arith, long, c.requires))

pub returns-in-Err-BadChar : goal.returns-in-Err-BadChar
returns-in-Err-BadChar c =
    let never = rw c.in-Err-BadChar.field-0-is at c.in-Err-BadChar.ensures in
    text_refused c.args.bytes.now never.1
