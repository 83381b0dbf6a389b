-- The marks of a board on all lanes, put together lane by lane.
use Rattle.std.proofs.Common.{◌≡◌, ◌∙◌, ◌+◌, ◌-◌, ◌<◌, ◌≤◌, ◌⊎◌, ℕ, List, [], inl, inr, ap, arith, length, subst, sym}
use Rattle.std.proofs.lemmas.Bool.{cases_lt, cases_order}
use Rattle.std.proofs.lemmas.List.{get_or_past}
use Rattle.line_step.specs.State.{LineState, marks_in}
use Rattle.law_lanes.specs.Lanes.{Lanes, empty_track, track}
use Rattle.line_marks.specs.AllMarks.{AreOnLanesTo, AreOrdered, IsWithMarks, of_lane}
use Rattle.line_marks.specs.declared.all_marks.LaneMark.{LaneMark}
use Rattle.line_marks.proofs.Marking.{none_beyond}
use Rattle.line_engine.specs.AllMarks.{AreAllMarks}

-- all marks on so many lanes
pub record AreMarksTo (s : Lanes) (id count : ℕ) (marks : List LaneMark) : Type 0 where
  pub each : (lane : ℕ) → 1 ≤ lane → lane ≤ count → of_lane lane marks ≡ marks_in (track lane s) id
  pub lanes : AreOnLanesTo count marks
  pub ordered : AreOrdered marks

pub marks_none : (s : Lanes) (id : ℕ) → AreMarksTo s id 0 []
marks_none s id = record { each = λ lane least most. absurd (omega (arith, least, most)); lanes = tt; ordered = tt }

each_more : (s : Lanes) (id count : ℕ) (marks now : List LaneMark) → AreMarksTo s id count marks → IsWithMarks (count + 1) (marks_in (track (count + 1) s) id) marks now → (lane : ℕ) → 1 ≤ lane → lane ≤ count + 1
    → (lane ≡ count + 1) ⊎ ((lane < count + 1) ⊎ (count + 1 < lane)) → of_lane lane now ≡ marks_in (track lane s) id
each_more s id count marks now to added lane least most (inl same) = subst (λ (n : ℕ). of_lane n now ≡ marks_in (track n s) id) (sym same) added.own
each_more s id count marks now to added lane least most (inr (inl h)) = added.others lane (λ e. omega (arith, h, e)) ∙ to.each lane least (omega (arith, h))
each_more s id count marks now to added lane least most (inr (inr h)) = absurd (omega (arith, h, most))

pub marks_more : (s : Lanes) (id count : ℕ) (marks now : List LaneMark) → AreMarksTo s id count marks → IsWithMarks (count + 1) (marks_in (track (count + 1) s) id) marks now → AreMarksTo s id (count + 1) now
marks_more s id count marks now to added = record {
  each = λ lane least most. each_more s id count marks now to added lane least most (cases_order lane (count + 1));
  lanes = added.lanes;
  ordered = added.ordered;
}

each_of : (s : Lanes) (id count lane : ℕ) (marks : List LaneMark) → length s.tracks ≤ count → AreMarksTo s id count marks → 1 ≤ lane → (count < lane) ⊎ (lane ≤ count) → of_lane lane marks ≡ marks_in (track lane s) id
each_of s id count lane marks wide to least (inr h) = to.each lane least h
each_of s id count lane marks wide to least (inl h) =
    none_beyond count lane marks to.lanes h
    ∙ ap (λ (t : LineState). marks_in t id) (sym (get_or_past s.tracks (lane - 1) (empty_track s) (omega (arith, wide, h))))

pub marks_all : (s : Lanes) (id count : ℕ) (marks : List LaneMark) → length s.tracks ≤ count → AreMarksTo s id count marks → AreAllMarks s id marks
marks_all s id count marks wide to = record {
  each = λ lane least. each_of s id count lane marks wide to least (cases_lt count lane);
  ordered = to.ordered;
}
