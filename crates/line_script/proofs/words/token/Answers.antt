use Rattle.std.proofs.Common.{sym}
use Rattle.line_script.proofs.Tokens.{IsAllowed-from_text}
use Rattle.line_script.proofs.words.token.Goals as goal

pub unreachable-requires-in-Err-BadChar : goal.unreachable-requires-in-Err-BadChar
unreachable-requires-in-Err-BadChar c = (rw c.in-Err-BadChar.field-0-is at c.in-Err-BadChar.ensures).1 (IsAllowed-from_text _ (sym c.if-not-is_text.ensures))
