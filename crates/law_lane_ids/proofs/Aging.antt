-- Whatever was named by hand on a lane is an id that a machine of the line made.
use Rattle.std.proofs.Common.{◌≡◌, ◌∙◌, ◌+◌, ◌≤◌, ◌++◌, ℕ, Bool, true, false, List, [], ◌∷◌, refl, sym, ap, subst, arith}
use Rattle.std.specs.Prelude.{if◌then◌else◌}
use Rattle.std.specs.List.{AllByRecursion}
use Rattle.line_report.specs.declared.happening.Happening.{Happening}
use Rattle.line_report.specs.declared.happening.Happening.TheVariants as happenings
use Rattle.line_report.specs.declared.happening.LaneHappening.{LaneHappening}
use Rattle.step_rules.specs.Makers.{IsOld}
use Rattle.line_step.specs.FloorIds.{handled_by, handled_in, made_by, made_in}
use Rattle.line_step.specs.Runs.{IsRun, Point}
use Rattle.line_step.specs.State.{LineState, no_line}
use Rattle.line_step.specs.Tracks.{TrackLine}
use Rattle.line_step.proofs.FloorLaws.{Holds, track-goes}
use Rattle.line_step.proofs.OnFloor.{handled-join}
use Rattle.law_lanes.specs.Along.{ArePointsOn, IsTrackOf, all_done, is_done, told_for}
use Rattle.law_lanes.specs.Lanes.{Lanes, no_lanes, track}
use Rattle.law_lanes.specs.Parts.{LanePoint}
use Rattle.law_lanes.proofs.Telling.{for_append, join_all}
use Rattle.law_lanes.proofs.Together.{none_track}

-- ---- what is done alone names ids by hand, or makes one

undone_handled : (h : Happening) → is_done h ≡ false → handled_in h ≡ []
undone_handled (happenings.Done machine act) none = cc
undone_handled h none = refl

undone_made : (h : Happening) → is_done h ≡ false → made_in h ≡ []
undone_made (happenings.Done machine act) none = cc
undone_made h none = refl

handled_test : (test : Bool) (h : Happening) (told : List Happening) → is_done h ≡ test
    → handled_by told ≡ handled_by (all_done told)
    → handled_in h ++ handled_by told
    ≡ handled_by (if test then h ∷ all_done told else all_done told)
handled_test true h told is same = ap (λ (ids : List ℕ). handled_in h ++ ids) same
handled_test false h told is same = λ i. undone_handled h is i ++ same i

handled_done : (told : List Happening) → handled_by told ≡ handled_by (all_done told)
handled_done [] = refl
handled_done (h ∷ told) = handled_test (is_done h) h told refl (handled_done told)

made_test : (test : Bool) (h : Happening) (told : List Happening) → is_done h ≡ test
    → made_by told ≡ made_by (all_done told)
    → made_in h ++ made_by told ≡ made_by (if test then h ∷ all_done told else all_done told)
made_test true h told is same = ap (λ (ids : List ℕ). made_in h ++ ids) same
made_test false h told is same = λ i. undone_made h is i ++ same i

made_done : (told : List Happening) → made_by told ≡ made_by (all_done told)
made_done [] = refl
made_done (h ∷ told) = made_test (is_done h) h told refl (made_done told)

same_handled : (a b : List Happening) → all_done a ≡ all_done b → handled_by a ≡ handled_by b
same_handled a b same = handled_done a ∙ ap handled_by same ∙ sym (handled_done b)

pub same_made : (a b : List Happening) → all_done a ≡ all_done b → made_by a ≡ made_by b
same_made a b same = made_done a ∙ ap made_by same ∙ sym (made_done b)

pub each_so : (P Q : ℕ → Type 0) (ids : List ℕ) → ((id : ℕ) → P id → Q id) → AllByRecursion P ids
    → AllByRecursion Q ids
each_so P Q [] so all = tt
each_so P Q (id ∷ ids) so all = (so id all.0, each_so P Q ids so all.1)

-- ---- along a run

-- all ids that were named by hand on the lane were made
abbrev pub AreOlds : ℕ → List LaneHappening → Lanes → Type 0
AreOlds lane past s =
    AllByRecursion (IsOld 1 (track lane s).machines) (handled_by (told_for lane past))

abbrev pub EachOld : ℕ → List LaneHappening → Lanes → List LanePoint → Type 0
EachOld lane past s [] = Unit {0}
EachOld lane past s (point ∷ points) =
    AreOlds lane past s × EachOld lane (past ++ point.told) point.after points

olds_more : (lane : ℕ) (past told : List LaneHappening) (P Q : ℕ → Type 0)
    → ((id : ℕ) → P id → Q id) → AllByRecursion P (handled_by (told_for lane past))
    → AllByRecursion Q (handled_by (told_for lane told))
    → AllByRecursion Q (handled_by (told_for lane (past ++ told)))
olds_more lane past told P Q older one two =
    let was = handled_by (told_for lane past) in
    let now = handled_by (told_for lane told) in
    let same : handled_by (told_for lane (past ++ told)) ≡ was ++ now =
    ap handled_by (for_append lane past told)
    ∙ handled-join (told_for lane past) (told_for lane told) in
    subst (λ (ids : List ℕ). AllByRecursion Q ids) (sym same)
    (join_all Q was now (each_so P Q was older one) two)

ages : (lane : ℕ) (past : List LaneHappening) (s : Lanes) (points : List LanePoint)
    (t : LineState) (asked : List TrackLine) (own : List Point) → t ≡ track lane s → Holds t
    → AllByRecursion (IsOld 1 t.machines) (handled_by (told_for lane past)) → IsRun t asked own
    → ArePointsOn lane points own → EachOld lane past s points
ages lane past s [] t asked own same h old run beside = tt
ages lane past s (point ∷ points) t asked [] same h old run beside = absurd beside
ages lane past s (point ∷ points) t [] (x ∷ own) same h old run beside = absurd run
ages lane past s (point ∷ points) t (line ∷ asked) (x ∷ own) same h old run beside =
    let goes = track-goes (t.lines + 1) line t x.after x.told h run.0 in
    let told : handled_by x.told ≡ handled_by (told_for lane point.told) =
    same_handled x.told (told_for lane point.told) beside.0.told in (
      subst (λ (u : LineState). AllByRecursion (IsOld 1 u.machines) (handled_by (told_for lane past)))
          same old,
      ages lane (past ++ point.told) point.after points x.after asked own beside.0.after goes.holds
          (olds_more lane past point.told (IsOld 1 t.machines) (IsOld 1 x.after.machines) goes.olds
          old
          (subst (λ (ids : List ℕ). AllByRecursion (IsOld 1 x.after.machines) ids) told goes.handled))
          run.1 beside.1,
    )

none_holds : Holds no_line
none_holds =
    record {
      own = tt;
      many = refl;
      whole = refl;
      old = tt;
      differ = record { once = λ id. omega arith };
    }

-- from a line without a machine on
pub track_ages : (lane : ℕ) (points : List LanePoint) → 1 ≤ lane → IsTrackOf lane points
    → EachOld lane [] no_lanes points
track_ages lane points some t =
    ages lane [] no_lanes points no_line t.asked t.own (sym (none_track lane some)) none_holds tt
    t.run t.beside
