-- What a line of a script leaves of the marks of a line of machines.
use Rattle.std.proofs.Common.{◌≡◌, ◌∙◌, ◌+◌, ◌≤◌, ◌⊎◌, ℕ, true, List, [], inl, inr, sym, ap, arith}
use Rattle.std.proofs.lemmas.Bool.{false≢true}
use Rattle.line_script.specs.declared.line.ScriptLine.{ScriptLine}
use Rattle.line_script.specs.declared.line.ScriptLine.TheVariants as lines
use Rattle.line_report.specs.declared.happening.Happening.{Happening}
use Rattle.standings.specs.Marks.{Owned, has_id, marks_of}
use Rattle.line_step.specs.Requests.{request_of}
use Rattle.line_step.specs.Lines.{LineDoes}
use Rattle.line_step.specs.Named.{ids_named}
use Rattle.line_step.specs.State.{LineState, owned}
use Rattle.line_step.proofs.ChangedStandings.{line_stays}
use Rattle.line_marks.specs.Indexed.{Follows, patched}
use Rattle.line_marks.specs.Stepped.{first_stepped, last_stepped, owned_between}
use Rattle.line_marks.proofs.Restored.{owned_with, restores}
use Rattle.line_marks.proofs.Patched.{patched_is}

ordered : (line : ScriptLine) → first_stepped line ≤ last_stepped line + 1
ordered (lines.Connect machine) = omega arith
ordered _ = omega arith

named_by : (first last : ℕ) (before now : List Owned) (ids : List ℕ) (id : ℕ) → first ≤ last + 1 → (owned_with first (owned_between first last before) now ≡ before) ⊎ (ids ≡ []) → has_id id ids ≡ true
    → marks_of now id ≡ patched first last now (marks_of before id) id
named_by first last before now ids id h (inl same) has = patched_is first last before now id h same
named_by first last before now ids id h (inr none) has = absurd (false≢true (sym (ap (has_id id) none) ∙ has))

pub follows : (number : ℕ) (line : ScriptLine) (before next : LineState) (done : List Happening) → LineDoes number (request_of line) before next done
    → Follows (first_stepped line) (last_stepped line) (ids_named done) (owned before) (owned next)
follows number line before next done does = record {
  named = λ id has. named_by (first_stepped line) (last_stepped line) (owned before) (owned next) (ids_named done) id (ordered line) (restores number line before next done does) has;
  others = λ id none. line_stays id number (request_of line) before next done does none;
}
