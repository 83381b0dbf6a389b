-- THE MADE SCRIPT of a number: two machines, and so many boards, one after another, that go from
-- the one through the other. The handover of every seventh is cut off.
use Rattle.std.specs.Prelude.{ℕ, ◌+◌, ◌%◌, ◌++◌, ◌==◌, zero, suc, List, [], ◌∷◌, None, if◌then◌else◌}
use Rattle.line_base.specs.declared.states.Side.TheVariants.{Entry, Exit}
use Rattle.board_record.specs.Maker.{made_id}
use Rattle.line_script.specs.declared.line.ScriptLine.{ScriptLine}
use Rattle.line_script.specs.declared.line.ScriptLine.TheVariants as lines

-- `machine 4`, `machine 4`, `connect 2`, `flow 1 out`, `flow 2 in`: two machines that know each
-- other
abbrev pub opening : List ScriptLine
opening =
    lines.Machine 4 0 ∷ lines.Machine 4 0 ∷ lines.Connect 2 ∷ lines.Flow 1 Exit None ∷ lines.Flow 2
    Entry None ∷ []

-- `flow 1 out`, `flow 2 in`, `flow 1 out`, `begin 1`, `sense 1`, `sense 2`, `left 1`, `sense 1`,
-- `in 1`, `sense 2`, `flow 2 in`, `flow 1 out`: a handover that nothing disturbs
abbrev pub undisturbed : List ScriptLine
undisturbed =
    lines.Flow 1 Exit None ∷ lines.Flow 2 Entry None ∷ lines.Flow 1 Exit None ∷ lines.Begin 1 ∷
    lines.Sense 1 ∷ lines.Sense 2
    ∷ lines.Left 1 ∷ lines.Sense 1 ∷ lines.Enter 1 ∷ lines.Sense 2 ∷ lines.Flow 2 Entry None ∷
    lines.Flow 1 Exit None ∷ []

-- `flow 1 out`, `flow 2 in`, `flow 1 out`, `begin 1`, `left 1`, `in 1`, `cut 1`, `notice 1 out`,
-- `notice 2 in`, `connect 2`, `flow 1 out`, `flow 2 in`: a handover whose link is cut once the
-- board is in, and a new connection
abbrev pub cut_off : List ScriptLine
cut_off =
    lines.Flow 1 Exit None ∷ lines.Flow 2 Entry None ∷ lines.Flow 1 Exit None ∷ lines.Begin 1 ∷
    lines.Left 1 ∷ lines.Enter 1
    ∷ lines.Cut 1 ∷ lines.Notice 1 Exit ∷ lines.Notice 2 Entry ∷ lines.Connect 2 ∷ lines.Flow 1
    Exit None ∷ lines.Flow 2 Entry None ∷ []

-- the twelve lines of the handover with this count
abbrev pub handover : ℕ → List ScriptLine
handover count = if count % 7 == 0 then cut_off else undisturbed

-- the fourteen lines of a board: `insert 1`, its handover, and `remove 2` with its id
abbrev pub round : ℕ → List ScriptLine
round count = lines.Insert 1 None ∷ (handover count ++ lines.Remove 2 (made_id 1 count) ∷ [])

-- so many rounds, from this one on
abbrev pub rounds : ℕ → ℕ → List ScriptLine
rounds count zero = []
rounds count (suc more) = round count ++ rounds (count + 1) more

abbrev pub made_script : ℕ → List ScriptLine
made_script number = opening ++ rounds 1 number
