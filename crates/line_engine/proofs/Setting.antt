-- The lanes of a line without a machine are set.
use Rattle.std.proofs.Common.{◌≡◌, ◌∙◌, ◌+◌, ◌-◌, ◌≤◌, ◌++◌, ℕ, zero, suc, List, [], ◌∷◌, Option, Some, ap, append-nil, arith, length, map, refl, subst, sym}
use Rattle.std.specs.Prelude.{Err, false, is_some, slice_get}
use Rattle.std.specs.List.{AllByRecursion, flat_map}
use Rattle.node_core.specs.Node.{NodeState}
use Rattle.node_core.specs.Shared.{shared_of}
use Rattle.line_report.specs.Lanes.{on_lane}
use Rattle.line_report.specs.declared.happening.Happening.TheVariants as happenings
use Rattle.line_report.specs.declared.happening.LaneHappening.{LaneHappening}
use Rattle.line_report.specs.declared.happening.Reason.TheVariants as reasons
use Rattle.line_script.specs.declared.line.LaneLine.TheVariants as lane_lines
use Rattle.line_step.specs.Reasons.{May, may_do, no_if}
use Rattle.line_step.specs.Shown.{ascending, ids_marked, ids_owned}
use Rattle.line_step.specs.State.{LineState, machine_in, no_line, owned_by}
use Rattle.line_step.proofs.Keeps.{none_together}
use Rattle.law_lanes.specs.Lanes.{Lanes, empty_track as lane_empty}
use Rattle.law_lanes.specs.Reasons.{may_set}
use Rattle.law_lanes.specs.Shown.{marked_on, marks_told, standings_on}
use Rattle.law_lanes.specs.Steps.{Becomes, LanesDo, Unless, copies, told_once}
use Rattle.line_engine.specs.declared.track.Track.{Track}
use Rattle.line_engine.specs.Tracks.{AreKept, AreLike, IsLike, IsOwn, TellsDone, empty_track, empty_tracks, lanes_of, states_of}
use Rattle.line_engine.proofs.OnLane.{refused}

-- ---- so many lanes without a machine

one_behind : (n lines : ℕ) (unvouched : Option ℕ) → empty_tracks n lines unvouched ++ empty_track lines unvouched ∷ [] ≡ empty_tracks (suc n) lines unvouched
one_behind zero lines unvouched = refl
one_behind (suc n) lines unvouched = ap (λ (ts : List Track). empty_track lines unvouched ∷ ts) (one_behind n lines unvouched)

pub one_empty : (n lines : ℕ) (unvouched : Option ℕ) → empty_tracks n lines unvouched ++ empty_track lines unvouched ∷ [] ≡ empty_tracks (n + 1) lines unvouched
one_empty n lines unvouched =
    let same : suc n ≡ n + 1 = omega arith in
    one_behind n lines unvouched ∙ ap (λ (k : ℕ). empty_tracks k lines unvouched) same

abbrev blank : ℕ → Option ℕ → LineState
blank lines unvouched = record no_line { lines = lines; unvouched = unvouched }

copied : (n lines : ℕ) (unvouched : Option ℕ) → states_of (empty_tracks n lines unvouched) ≡ copies n (blank lines unvouched)
copied zero lines unvouched = refl
copied (suc n) lines unvouched = ap (λ (ss : List LineState). blank lines unvouched ∷ ss) (copied n lines unvouched)

set_states : (count lines : ℕ) (unvouched : Option ℕ) → 1 ≤ count → states_of (empty_track lines unvouched ∷ empty_tracks (count - 1) lines unvouched) ≡ copies count (blank lines unvouched)
set_states zero lines unvouched least = absurd (omega (arith, least))
set_states (suc more) lines unvouched least =
    let same : suc more - 1 ≡ more = omega arith in
    ap (λ (n : ℕ). blank lines unvouched ∷ states_of (empty_tracks n lines unvouched)) same
    ∙ ap (λ (ss : List LineState). blank lines unvouched ∷ ss) (copied more lines unvouched)

-- ---- no id has a mark

no_ids : (s : LineState) → s.machines ≡ [] → ids_marked s ≡ []
no_ids s none = ap (λ (ns : List NodeState). flat_map ids_owned (map owned_by ns)) none

map_none : (ns : List NodeState) → map shared_of ns ≡ [] → ns ≡ []
map_none [] is = refl
map_none (n ∷ ns) is = absurd (cc)

likes_none : (first : LineState) (ts : List Track) → first.machines ≡ [] → AllByRecursion (IsLike first) (states_of ts) → flat_map ids_marked (states_of ts) ≡ []
likes_none first [] none like = refl
likes_none first (t ∷ ts) none like =
    let same : map shared_of t.state.machines ≡ [] = sym like.0.shared ∙ ap (λ (ns : List NodeState). map shared_of ns) none in
    ap (λ (ids : List ℕ). ids ++ flat_map ids_marked (states_of ts)) (no_ids t.state (map_none t.state.machines same)) ∙ likes_none first ts none like.1

empties_none : (n lines : ℕ) (unvouched : Option ℕ) → flat_map ids_marked (states_of (empty_tracks n lines unvouched)) ≡ []
empties_none zero lines unvouched = refl
empties_none (suc n) lines unvouched = empties_none n lines unvouched

set_untold : (first : Track) (others : List Track) (n lines : ℕ) (unvouched : Option ℕ) → first.state.machines ≡ [] → AreLike (states_of (first ∷ others)) → standings_on (lanes_of (first ∷ others)) (lanes_of (empty_track lines unvouched ∷ empty_tracks n lines unvouched)) ≡ []
set_untold first others n lines unvouched none like =
    let before : Lanes = lanes_of (first ∷ others) in
    let after : Lanes = lanes_of (empty_track lines unvouched ∷ empty_tracks n lines unvouched) in
    let a : flat_map ids_marked before.tracks ≡ [] =
    ap (λ (ids : List ℕ). ids ++ flat_map ids_marked (states_of others)) (no_ids first.state none) ∙ likes_none first.state others none like in
    let b : flat_map ids_marked after.tracks ≡ [] = empties_none n lines unvouched in
    let both : flat_map ids_marked before.tracks ++ flat_map ids_marked after.tracks ≡ [] =
    ap (λ (ids : List ℕ). ids ++ flat_map ids_marked after.tracks) a ∙ b in
    ap (λ (ids : List ℕ). flat_map (λ (id : ℕ). marks_told id (marked_on before id) (marked_on after id)) (ascending ids)) both

-- ---- what stands against it

set_free : (first : LineState) (others : List LineState) → first.machines ≡ [] → may_set (record { spent = false; tracks = first ∷ others }) ≡ may_do
set_free first others none = ap (λ (ns : List NodeState). no_if (is_some (slice_get ns 0)) reasons.MachinesStand may_do) none

set_stands : (ns : List NodeState) → 1 ≤ length ns → no_if (is_some (slice_get ns 0)) reasons.MachinesStand may_do ≡ Err reasons.MachinesStand
set_stands [] some = absurd (omega (arith, some))
set_stands (n ∷ ns) some = refl

unless_free : (may : May) (before after : Lanes) (told : List LaneHappening) (Done : Type 0) → may ≡ may_do → Done → Unless may before after told Done
unless_free may before after told Done is done = subst (λ (m : May). Unless m before after told Done) (sym is) done

-- ---- the line

pub set_refused : (number count : ℕ) (first : Track) (others : List Track) (old new : List LaneHappening) → AreKept (first ∷ others) → 1 ≤ length first.state.machines
    → new ≡ old ++ on_lane 1 (happenings.No reasons.MachinesStand) ∷ [] → TellsDone (LanesDo number (lane_lines.Lanes count)) (first ∷ others) (first ∷ others) old new
set_refused number count first others old new kept some is =
    refused (LanesDo number (lane_lines.Lanes count)) (first ∷ others) (told_once (happenings.No reasons.MachinesStand)) old new kept
    (subst (λ (m : May). Unless m (lanes_of (first ∷ others)) (lanes_of (first ∷ others)) (told_once (happenings.No reasons.MachinesStand))
    (Becomes (record (lanes_of (first ∷ others)) { tracks = copies count (lane_empty (lanes_of (first ∷ others))) }) (told_once (happenings.Lanes count)) (lanes_of (first ∷ others)) (told_once (happenings.No reasons.MachinesStand)))) (sym (set_stands first.state.machines some)) (record { after_is = refl; told_is = refl }))
    is

pub lanes_set : (number count : ℕ) (first : Track) (others : List Track) (old new : List LaneHappening) → AreKept (first ∷ others) → first.state.machines ≡ [] → 1 ≤ count
    → new ≡ old ++ on_lane 1 (happenings.Lanes count) ∷ []
    → TellsDone (LanesDo number (lane_lines.Lanes count)) (first ∷ others)
    (empty_track first.state.lines first.state.unvouched ∷ empty_tracks (count - 1) first.state.lines first.state.unvouched) old new
lanes_set number count first others old new kept none least is = record {
  done = told_once (happenings.Lanes count);
  does = unless_free (may_set (lanes_of (first ∷ others))) (lanes_of (first ∷ others))
      (lanes_of (empty_track first.state.lines first.state.unvouched ∷ empty_tracks (count - 1) first.state.lines first.state.unvouched)) (told_once (happenings.Lanes count))
      (Becomes (record (lanes_of (first ∷ others)) { tracks = copies count (lane_empty (lanes_of (first ∷ others))) }) (told_once (happenings.Lanes count))
      (lanes_of (empty_track first.state.lines first.state.unvouched ∷ empty_tracks (count - 1) first.state.lines first.state.unvouched)) (told_once (happenings.Lanes count)))
      (set_free first.state (states_of others) none)
      (record {
        after_is = ap (λ (ss : List LineState). record (lanes_of (first ∷ others)) { tracks = ss }) (set_states count first.state.lines first.state.unvouched least);
        told_is = refl;
      });
  now_is = is ∙ ap (λ (more : List LaneHappening). old ++ more)
      (sym (append-nil (told_once (happenings.Lanes count)))
      ∙ ap (λ (more : List LaneHappening). told_once (happenings.Lanes count) ++ more) (sym (set_untold first others (count - 1) first.state.lines first.state.unvouched none kept.alike)));
}

-- ---- what stands together

nobody : (machine lines : ℕ) (unvouched : Option ℕ) (node : NodeState) → machine_in machine (blank lines unvouched) ≡ Some node → ⊥
nobody zero lines unvouched node is = cc
nobody (suc place) lines unvouched node is = cc

empty_own : (lines : ℕ) (unvouched : Option ℕ) → lines ≤ 1000000 → IsOwn (empty_track lines unvouched)
empty_own lines unvouched short = record {
  together = record { few = none_together.few; short = short; floor = none_together.floor; links = none_together.links; joined = none_together.joined };
  numbered = λ machine node is. absurd (nobody machine lines unvouched node is);
  index = record { at = λ id. refl };
}

empties_own : (n lines : ℕ) (unvouched : Option ℕ) → lines ≤ 1000000 → AllByRecursion IsOwn (empty_tracks n lines unvouched)
empties_own zero lines unvouched short = tt
empties_own (suc n) lines unvouched short = (empty_own lines unvouched short, empties_own n lines unvouched short)

empties_like : (n lines : ℕ) (unvouched : Option ℕ) → AllByRecursion (IsLike (blank lines unvouched)) (states_of (empty_tracks n lines unvouched))
empties_like zero lines unvouched = tt
empties_like (suc n) lines unvouched = (record { shared = refl; lines = refl; unvouched = refl }, empties_like n lines unvouched)

empties_wide : (n lines : ℕ) (unvouched : Option ℕ) → length (empty_tracks n lines unvouched) ≡ n
empties_wide zero lines unvouched = refl
empties_wide (suc n) lines unvouched = ap (λ (k : ℕ). suc k) (empties_wide n lines unvouched)

pub set_kept : (count lines : ℕ) (unvouched : Option ℕ) → 1 ≤ count → count ≤ 4 → lines ≤ 1000000 → AreKept (empty_track lines unvouched ∷ empty_tracks (count - 1) lines unvouched)
set_kept count lines unvouched least most short =
    let within : suc (count - 1) ≤ 4 = omega (arith, least, most) in
    record {
      few = subst (λ (k : ℕ). suc k ≤ 4) (sym (empties_wide (count - 1) lines unvouched)) within;
      each = (empty_own lines unvouched short, empties_own (count - 1) lines unvouched short);
      alike = empties_like (count - 1) lines unvouched;
    }
