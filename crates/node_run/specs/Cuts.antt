-- The front of the panel's text is put behind the front of a line.
use Rattle.std.specs.Prelude.{◌≡◌, ◌++◌, ℕ, Bool, true, false, List, [], Option, None, Some, take, drop}
use Rattle.node_run.specs.State.{RunState}

-- a line that is dropped takes nothing more
abbrev pub line_with : Bool → List ℕ → List ℕ → List ℕ
line_with true line front = line
line_with false line front = line ++ front

abbrev pub fronted : ℕ → RunState → RunState
fronted count s =
    record s { line = line_with s.drops s.line (take count s.rest); rest = drop count s.rest }

-- what stands before the first end of a line, or all of the text, stands behind the front of the
-- line now
abbrev pub HasCut : Option (List ℕ × List ℕ) → Bool → RunState → RunState → Type 0
HasCut None is_end s t =
    (is_end ≡ false) × (t ≡ record s { line = line_with s.drops s.line s.rest; rest = [] })
HasCut (Some parts) is_end s t =
    (is_end ≡ true) × (t ≡ record s { line = line_with s.drops s.line parts.0; rest = parts.1 })
