-- What the laws over runs say of the line behind a run.
use Rattle.std.proofs.Common.{List, None, ap, append-nil, append_assoc, arith, false, length, subst, sym, [], ◌++◌, ◌+◌, ◌∙◌, ◌∷◌, ◌≡◌, ◌≤◌}
use Rattle.std.proofs.lemmas.List.{take_all}
use Rattle.std.specs.Prelude.{take}
use Rattle.std.specs.List.{AllByRecursion}
use Rattle.line_report.specs.declared.happening.Happening.{Happening}
use Rattle.line_step.specs.Homes.{AreNewcomers, IsHonest, IsNewcomer}
use Rattle.line_step.specs.Lies.{has_lie}
use Rattle.line_step.specs.Tracks.{TrackLine, TrackSteps, own_line}
use Rattle.line_step.specs.Runs.{IsRun, IsShort, Point, state_behind, all_told}
use Rattle.line_step.specs.State.{LineState, no_line}
use Rattle.line_step.specs.Requests.{Request}
use Rattle.line_step.proofs.Newcomers.{newcomers-append, newcomers-take}
use Rattle.line_step.proofs.Running.{short-behind, short-more}
use Rattle.line_step.proofs.Vouching.{none_lied, unvouched-before}
use Rattle.law_one_standing.specs.Blame.{AreBlamesTrue, IsBlameTrue, NoFalseBlame}
use Rattle.law_sentences.specs.Records.{AreContentsKept, ContentsAreKept, IsChanged, KeepsContents}
use Rattle.law_one_standing.specs.Reached.{IsReached}
use Rattle.law_one_standing.specs.Standing.{IsFitRequest, IsFitTrack}
use Rattle.law_one_standing.proofs.Reaching.{behind_more, run_more, fit_more}
use Rattle.law_sentences.specs.Announced.{OpensAsAnnounced, OpensWhenAnnounced}
use Rattle.line_engine.specs.Blames.{BlamesNext}
use Rattle.line_engine.specs.Opens.{OpensNext}

-- ---- a run with the line behind it, as the laws ask for it

-- all of the points
all_points : (points : List Point) → take (length points) points ≡ points
all_points points = take_all (length points) points (omega arith)

record Longer (request : Request) (after : LineState) (told : List Happening) (asked : List TrackLine) (points : List Point) : Type 0 where
  fit : AllByRecursion IsFitTrack (asked ++ own_line request ∷ [])
  few : IsShort no_line (points ++ record { told = told; after = after } ∷ [])
  run : IsRun no_line (asked ++ own_line request ∷ []) (points ++ record { told = told; after = after } ∷ [])
  honest : IsHonest (asked ++ own_line request ∷ []) (points ++ record { told = told; after = after } ∷ []) (length (points ++ record { told = told; after = after } ∷ []))

longer : (request : Request) (before after : LineState) (told : List Happening) (asked : List TrackLine) (points : List Point) → IsFitRequest request → before.lines + 1 ≤ 1000000 → TrackSteps (before.lines + 1) (own_line request) before after told → after.unvouched ≡ None
    → AllByRecursion IsFitTrack asked → IsRun no_line asked points → state_behind no_line points ≡ before → AreNewcomers [] asked points → IsNewcomer (all_told points) (own_line request) → Longer request after told asked points
longer request before after told asked points one few steps none fit run behind came new =
    let point : Point = record { told = told; after = after } in
    let more : IsRun no_line (asked ++ own_line request ∷ []) (points ++ point ∷ []) = run_more no_line asked points (own_line request) point run (subst (λ (s : LineState). TrackSteps (s.lines + 1) (own_line request) s after told) (sym behind) steps) in
    let within : (state_behind no_line points).lines + 1 ≤ 1000000 = subst (λ (s : LineState). s.lines + 1 ≤ 1000000) (sym behind) few in
    record {
      fit = fit_more asked (own_line request) fit one;
      few = short-more no_line points point (short-behind no_line asked points run within) within;
      run = more;
      honest = record {
        told = subst (λ (ps : List Point). has_lie ps ≡ false) (sym (all_points (points ++ point ∷ []))) (none_lied (asked ++ own_line request ∷ []) (points ++ point ∷ []) more (ap (λ (s : LineState). s.unvouched) (behind_more no_line points point) ∙ none));
        newcomers = newcomers-take [] (asked ++ own_line request ∷ []) (points ++ point ∷ []) (length (points ++ point ∷ [])) (newcomers-append [] no_line asked (own_line request ∷ []) points (point ∷ []) run came (new, tt));
      };
    }

-- ---- contents

contents_last : (s : LineState) (points : List Point) (point : Point) → AreContentsKept s (points ++ point ∷ []) → KeepsContents (IsChanged point.told) (state_behind s points) point.after
contents_last s [] point all = all.0
contents_last s (first ∷ points) point all = contents_last first.after points point all.1

pub contents_line : ContentsAreKept → (request : Request) (before after : LineState) (told : List Happening) → (was : IsReached before) → IsFitRequest request → IsNewcomer (all_told was.points) (own_line request) → before.lines + 1 ≤ 1000000 → TrackSteps (before.lines + 1) (own_line request) before after told → after.unvouched ≡ None
    → KeepsContents (IsChanged told) before after
contents_line law request before after told was one new few steps none =
    let point : Point = record { told = told; after = after } in
    let l : Longer request after told was.asked was.points = longer request before after told was.asked was.points one few steps none (was.fit (unvouched-before (before.lines + 1) request before after told steps.0 none)) was.run was.behind (was.newcomers (unvouched-before (before.lines + 1) request before after told steps.0 none)) new in
    let points : List Point = was.points ++ point ∷ [] in
    let all : AreContentsKept no_line points = subst (λ (ps : List Point). AreContentsKept no_line ps) (all_points points) (law (was.asked ++ own_line request ∷ []) points (length points) l.fit l.few l.run l.honest) in
    subst (λ (s : LineState). KeepsContents (IsChanged told) s after) was.behind (contents_last no_line was.points point all)

-- ---- blame

blame_last : (past : List Happening) (points : List Point) (point : Point) → AreBlamesTrue past (points ++ point ∷ []) → IsBlameTrue (past ++ all_told points) point.told
blame_last past [] point all = subst (λ (hs : List Happening). IsBlameTrue hs point.told) (sym (append-nil past)) all.0
blame_last past (first ∷ points) point all = subst (λ (hs : List Happening). IsBlameTrue hs point.told) (append_assoc past first.told (all_told points)) (blame_last (past ++ first.told) points point all.1)

pub blames_line : NoFalseBlame → (request : Request) (before after : LineState) (told : List Happening) → IsFitRequest request → before.lines + 1 ≤ 1000000 → TrackSteps (before.lines + 1) (own_line request) before after told → after.unvouched ≡ None → BlamesNext request before told
blames_line law request before after told one few steps none = record {
  behind = λ asked past fit run behind came new. (let point : Point = record { told = told; after = after } in
      let l : Longer request after told asked past = longer request before after told asked past one few steps none fit run behind came new in
      let points : List Point = past ++ point ∷ [] in
      blame_last [] past point (subst (λ (ps : List Point). AreBlamesTrue [] ps) (all_points points) (law (asked ++ own_line request ∷ []) points (length points) l.fit l.few l.run l.honest)));
}

-- ---- openings

pub told_more : (points : List Point) (point : Point) → all_told (points ++ point ∷ []) ≡ all_told points ++ point.told
told_more [] point = append-nil point.told
told_more (first ∷ points) point = ap (λ (told : List Happening). first.told ++ told) (told_more points point) ∙ sym (append_assoc first.told (all_told points) point.told)

pub opens_line : OpensWhenAnnounced → (request : Request) (before after : LineState) (told : List Happening) → TrackSteps (before.lines + 1) (own_line request) before after told → OpensNext before told
opens_line law request before after told steps = record {
  behind = λ asked points machine run behind. (let point : Point = record { told = told; after = after } in
      subst (λ (all : List Happening). OpensAsAnnounced machine all) (told_more points point)
      (law (asked ++ own_line request ∷ []) (points ++ point ∷ []) machine
      (run_more no_line asked points (own_line request) point run (subst (λ (s : LineState). TrackSteps (s.lines + 1) (own_line request) s after told) (sym behind) steps))));
}
