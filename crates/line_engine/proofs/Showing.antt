-- What is shown of all machines, machine by machine and lane by lane.
use Rattle.std.proofs.Common.{◌≡◌, ◌∙◌, ◌+◌, ◌-◌, ◌<◌, ◌≤◌, ◌++◌, ℕ, zero, suc, List, [], ◌∷◌, ap, append-nil, append_assoc, arith, drop, length, map, refl, sym}
use Rattle.std.proofs.lemmas.List.{drop_all, drop_more}
use Rattle.std.specs.Prelude.{slice_index_or}
use Rattle.node_core.specs.Node.{NodeState}
use Rattle.board_record.specs.declared.record.Record.{Record}
use Rattle.line_report.specs.Lanes.{on_lane, told_on}
use Rattle.line_report.specs.declared.happening.Happening.TheVariants as happenings
use Rattle.line_report.specs.declared.happening.LaneHappening.{LaneHappening}
use Rattle.line_step.specs.Shown.{kept_shown}
use Rattle.line_step.specs.State.{LineState}
use Rattle.law_lanes.specs.Shown.{all_shown, behind_first, front_shown, fronts_shown}
use Rattle.law_lanes.specs.Reasons.{first_track}
use Rattle.line_engine.specs.Tracks.{lanes_of, states_of}
use Rattle.line_engine.specs.declared.track.Track.{Track}

-- the machines of each lane behind so many
abbrev pub fronts : ℕ → List LineState → List (List NodeState)
fronts before ts = map (λ (t : LineState). drop before t.machines) ts

behind_dropped : (before : ℕ) (nodes : List NodeState) → behind_first (drop before nodes) ≡ drop (before + 1) nodes
behind_dropped zero [] = refl
behind_dropped zero (node ∷ nodes) = refl
behind_dropped (suc before) [] =
    ap behind_first (drop_all (suc before) [] (omega arith)) ∙ sym (drop_all (suc before + 1) [] (omega arith))
behind_dropped (suc before) (node ∷ nodes) =
    let more : suc (before + 1) ≡ suc before + 1 = omega arith in
    behind_dropped before nodes ∙ ap (λ (n : ℕ). drop n (node ∷ nodes)) more

fronts_next : (before : ℕ) (ts : List LineState) → map behind_first (fronts before ts) ≡ fronts (before + 1) ts
fronts_next before [] = refl
fronts_next before (t ∷ ts) =
    ap (λ (ns : List NodeState). ns ∷ map behind_first (fronts before ts)) (behind_dropped before t.machines)
    ∙ ap (λ (nss : List (List NodeState)). drop (before + 1) t.machines ∷ nss) (fronts_next before ts)

-- one machine is shown
pub shows_next : (count before : ℕ) (ts : List LineState) (old now new : List LaneHappening) → before < count
    → now ++ all_shown (count - before) (before + 1) (fronts before ts) ≡ old
    → new ≡ now ++ fronts_shown 1 (before + 1) (fronts before ts)
    → new ++ all_shown (count - (before + 1)) (before + 1 + 1) (fronts (before + 1) ts) ≡ old
shows_next count before ts old now new within is new_is =
    let left : count - before ≡ suc (count - (before + 1)) = omega (arith, within) in
    let rest = all_shown (count - (before + 1)) (before + 1 + 1) in
    ap (λ (told : List LaneHappening). told ++ rest (fronts (before + 1) ts)) new_is
    ∙ append_assoc now (fronts_shown 1 (before + 1) (fronts before ts)) (rest (fronts (before + 1) ts))
    ∙ ap (λ (nss : List (List NodeState)). now ++ (fronts_shown 1 (before + 1) (fronts before ts) ++ rest nss)) (sym (fronts_next before ts))
    ∙ ap (λ (n : ℕ). now ++ all_shown n (before + 1) (fronts before ts)) (sym left)
    ∙ is

-- one lane of it
pub lane_next : (lane machine before place : ℕ) (tracks : List Track) (one : Track) (old now new : List LaneHappening) → place < length tracks → one ≡ slice_index_or tracks place one
    → now ++ fronts_shown lane machine (fronts before (states_of (drop place tracks))) ≡ old → new ≡ now ++ front_shown lane machine (drop before one.state.machines)
    → new ++ fronts_shown (lane + 1) machine (fronts before (states_of (drop (place + 1) tracks))) ≡ old
lane_next lane machine before place tracks one old now new within at is new_is =
    ap (λ (told : List LaneHappening). told ++ fronts_shown (lane + 1) machine (fronts before (states_of (drop (place + 1) tracks)))) new_is
    ∙ append_assoc now (front_shown lane machine (drop before one.state.machines)) (fronts_shown (lane + 1) machine (fronts before (states_of (drop (place + 1) tracks))))
    ∙ ap (λ (ts : List Track). now ++ fronts_shown lane machine (fronts before (states_of ts))) (sym (drop_more tracks place one within ∙ ap (λ (t : Track). t ∷ drop (place + 1) tracks) (sym at)))
    ∙ is

pub lanes_last : (lane machine before place : ℕ) (tracks : List Track) (now : List LaneHappening) → length tracks ≤ place → now ++ fronts_shown lane machine (fronts before (states_of (drop place tracks))) ≡ now
lanes_last lane machine before place tracks now past =
    ap (λ (ts : List Track). now ++ fronts_shown lane machine (fronts before (states_of ts))) (drop_all place tracks past) ∙ append-nil now

-- ---- what a machine keeps

pub kept_next : (lane machine place : ℕ) (boards : List Record) (one : Record) (old now new : List LaneHappening) → place < length boards → one ≡ slice_index_or boards place one
    → now ++ told_on lane (kept_shown machine (drop place boards)) ≡ old → new ≡ now ++ on_lane lane (happenings.Shown machine one.id one.quality) ∷ []
    → new ++ told_on lane (kept_shown machine (drop (place + 1) boards)) ≡ old
kept_next lane machine place boards one old now new within at is new_is =
    let one_told : LaneHappening = on_lane lane (happenings.Shown machine one.id one.quality) in
    let rest : List LaneHappening = told_on lane (kept_shown machine (drop (place + 1) boards)) in
    ap (λ (told : List LaneHappening). told ++ rest) new_is
    ∙ append_assoc now (one_told ∷ []) rest
    ∙ ap (λ (bs : List Record). now ++ told_on lane (kept_shown machine bs)) (sym (drop_more boards place one within ∙ ap (λ (b : Record). b ∷ drop (place + 1) boards) (sym at)))
    ∙ is

pub kept_last : (lane machine place : ℕ) (boards : List Record) (now : List LaneHappening) → length boards ≤ place → now ++ told_on lane (kept_shown machine (drop place boards)) ≡ now
kept_last lane machine place boards now past =
    ap (λ (bs : List Record). now ++ told_on lane (kept_shown machine bs)) (drop_all place boards past) ∙ append-nil now

-- ---- all machines

pub shows_end : (count before : ℕ) (ts : List LineState) (now : List LaneHappening) → count ≤ before → now ++ all_shown (count - before) (before + 1) (fronts before ts) ≡ now
shows_end count before ts now past =
    let left : count - before ≡ 0 = omega (arith, past) in
    ap (λ (n : ℕ). now ++ all_shown n (before + 1) (fronts before ts)) left ∙ append-nil now

pub machines_first : (first : Track) (others tracks : List Track) → first ∷ others ≡ tracks → first.state.machines ≡ (first_track (lanes_of tracks)).machines
machines_first first others tracks is = ap (λ (ts : List Track). (first_track (lanes_of ts)).machines) is
