use Rattle.std.specs.Prelude.{ℕ, ◌+◌, ◌++◌, List, [], ◌∷◌, Option, None, Some, Result, Ok, Err, length, nat_lt, if◌then◌else◌}
use Rattle.std.specs.Str.Lines.{lines}
use Rattle.line_script.specs.Grammar.{read_of}
use Rattle.line_script.specs.declared.line.LineWhy.{LineWhy}
use Rattle.line_script.specs.declared.line.LineWhy.TheVariants as whys
use Rattle.line_script.specs.declared.line.LaneLine.{LaneLine}

-- what the line with this number asks for, or the first refusal that holds
abbrev pub meaning_at : ℕ → List ℕ → Result LaneLine LineWhy
meaning_at number line =
    if nat_lt 4096 (length line) then Err whys.LongLine else
    (if nat_lt 1000000 number then Err whys.TooManyLines else read_of line)

-- the line that is refused, and why
pub record Refusal : Type 0 where
  pub line : ℕ
  pub why : LineWhy

-- a script: its accepted lines, and the first refusal if there is one
pub record Script : Type 0 where
  pub lines : List LaneLine
  pub refusal : Option Refusal

abbrev pub either : {A E B : Type 0} → Result A E → (A → B) → (E → B) → B
either (Ok value) f g = f value
either (Err why) f g = g why

abbrev pub before_all : LaneLine → Script → Script
before_all line script = record { lines = line ∷ script.lines; refusal = script.refusal }

-- the same, behind all of these lines
abbrev pub behind_lines : List LaneLine → Script → Script
behind_lines done script = record { lines = done ++ script.lines; refusal = script.refusal }

abbrev pub refused_at : ℕ → LineWhy → Script
refused_at number why = record { lines = []; refusal = Some (record { line = number; why = why }) }

-- the script of the lines behind those that are done
abbrev pub script_from : ℕ → List (List ℕ) → Script
script_from done [] = record { lines = []; refusal = None }
script_from done (line ∷ others) =
    either (meaning_at (done + 1) line) (λ asked. before_all asked (script_from (done + 1) others))
    (λ why. refused_at (done + 1) why)

-- the script that bytes are: lines end with a line feed, a carriage return before it is dropped,
-- and the last line may lack its end
abbrev pub script_of : List ℕ → Script
script_of bytes = script_from 0 (lines bytes)
