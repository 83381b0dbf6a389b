use Rattle.std.specs.Prelude.{ℕ, ◌++◌, List, codes}
use Rattle.std.specs.Fmt.{decimal}
use Rattle.line_script.specs.Words.{why_text}
use Rattle.line_script.specs.declared.line.LineWhy.{LineWhy}

-- the report's last line where a line of the script was refused
abbrev pub refused_text : ℕ → LineWhy → List ℕ
refused_text number why =
    codes "refused " ++ decimal number ++ codes ": " ++ why_text why ++ codes "\n"
