-- The texts of the reasons against a log.
use Rattle.std.specs.Prelude.{ℕ, List, codes}
use Rattle.line_check.specs.declared.why.CheckWhy.{CheckWhy}
use Rattle.line_check.specs.declared.why.CheckWhy.TheVariants.{Long, Lines, Form, Turn, Legal, Standing}

abbrev pub why_text : CheckWhy → List ℕ
why_text Long = codes "long line"
why_text Lines = codes "too many lines"
why_text Form = codes "form"
why_text Turn = codes "turn"
why_text Legal = codes "not legal"
why_text Standing = codes "no standing"
