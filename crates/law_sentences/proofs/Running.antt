-- ONE ANSWER TO A QUERY, over a run.
use Rattle.std.proofs.Common.{
  ◌≡◌,
  ◌∙◌,
  ◌++◌,
  ◌+◌,
  ℕ,
  zero,
  suc,
  List,
  [],
  ◌∷◌,
  Option,
  None,
  refl,
  sym,
  ap,
  append-nil,
  append_assoc,
}
use Rattle.line_step.specs.Tracks.{TrackLine}
use Rattle.line_step.specs.Runs.{IsRun, Point, state_behind, all_told}
use Rattle.line_step.specs.State.{LineState, no_line}
use Rattle.law_sentences.specs.Answers.{Answers, OneAnswer, answers_of, kept_in, one_of}
use Rattle.law_sentences.proofs.Lines.{track_once}
use Rattle.law_sentences.proofs.Told.{answers_join}

-- what is kept behind a line is what was kept before it, and what the line tells
one_more_by : (before after : LineState) (machine query : ℕ) (words : List (List ℕ))
    → Answers before after machine query words
    → one_of (kept_in before machine query) ++ words ≡ one_of (kept_in after machine query)
one_more_by before after machine query [] same =
    append-nil (one_of (kept_in before machine query)) ∙ ap one_of (sym same)
one_more_by before after machine query (word ∷ []) gets =
    ap (λ (kept : Option (List ℕ)). one_of kept ++ word ∷ []) gets.unanswered ∙ ap one_of
    (sym gets.kept)
one_more_by before after machine query (_ ∷ (_ ∷ _)) never = absurd never

run_answers : (s : LineState) (asked : List TrackLine) (points : List Point) (machine query : ℕ)
    → IsRun s asked points
    → one_of (kept_in s machine query) ++ answers_of machine query (all_told points)
    ≡ one_of (kept_in (state_behind s points) machine query)
run_answers s [] [] machine query run = append-nil (one_of (kept_in s machine query))
run_answers s [] (point ∷ points) machine query run = absurd run
run_answers s (line ∷ asked) [] machine query run = absurd run
run_answers s (line ∷ asked) (point ∷ points) machine query run =
    let first : List (List ℕ) = one_of (kept_in s machine query) in
    let here : List (List ℕ) = answers_of machine query point.told in
    let later : List (List ℕ) = answers_of machine query (all_told points) in
    let once = track_once (s.lines + 1) line s point.after point.told run.0 in
    ap (λ (words : List (List ℕ)). first
    ++ words) (answers_join machine query point.told (all_told points))
    ∙ sym (append_assoc first here later)
    ∙ ap (λ (words : List (List ℕ)). words
    ++ later) (one_more_by s point.after machine query here (once.each machine query))
    ∙ run_answers point.after asked points machine query run.1

none_kept : (machine query : ℕ) → kept_in no_line machine query ≡ None
none_kept zero query = refl
none_kept (suc place) query = refl

pub one_answer : OneAnswer
one_answer asked points machine query run =
    ap (λ (kept : Option (List ℕ)). one_of kept ++ answers_of machine query (all_told points))
    (sym (none_kept machine query))
    ∙ run_answers no_line asked points machine query run
