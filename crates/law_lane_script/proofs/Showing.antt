-- What a `show` tells of a lane is what is shown of it.
use Rattle.std.proofs.Common.{◌≡◌, ◌≢◌, ◌∙◌, ◌+◌, ◌-◌, ◌<◌, ◌≤◌, ◌==◌, ◌++◌, ℕ, zero, suc, Bool, true, false, List, [], ◌∷◌, Option, Some, None, length, map, refl, sym, ap, subst, arith, append-nil, append_assoc, get_or}
use Rattle.std.specs.Prelude.{if◌then◌else◌}
use Rattle.board_record.specs.declared.record.Record.{Record}
use Rattle.node_core.specs.Node.{NodeState}
use Rattle.node_core.specs.Own.{own_of}
use Rattle.line_report.specs.Lanes.{told_on}
use Rattle.line_report.specs.declared.happening.Happening.{Happening}
use Rattle.line_report.specs.declared.happening.Happening.TheVariants as happenings
use Rattle.line_report.specs.declared.happening.LaneHappening.{LaneHappening}
use Rattle.line_step.specs.Shown.{between_shown, kept_shown, shown, shown_from, taken_below}
use Rattle.line_step.specs.State.{LineState}
use Rattle.law_lanes.specs.Along.{told_for}
use Rattle.law_lanes.specs.Lanes.{Lanes, empty_track, track}
use Rattle.law_lanes.specs.Shown.{all_shown, behind_first, front_shown, fronts_shown, shown_on}
use Rattle.law_lanes.proofs.Places.{at_map, at_past, map_many}
use Rattle.law_lanes.proofs.Sharing.{shared_many}
use Rattle.law_lanes.proofs.Telling.{AreUnmoved, IsUnmoved, for_append, for_other, for_own, join_all}
use Rattle.law_lanes.proofs.Together.{IsThere, IsTogether, Whether, is_past, is_there, whether}

kept_still : (machine : ℕ) (boards : List Record) → AreUnmoved (kept_shown machine boards)
kept_still machine [] = tt
kept_still machine (board ∷ boards) = (tt, kept_still machine boards)

two_still : (same : Bool) (gap above below : ℕ)
    → AreUnmoved (happenings.ShownBetween gap above
    ∷ (if same then [] else happenings.ShownBetween gap below ∷ []))
two_still true gap above below = (tt, tt)
two_still false gap above below = (tt, (tt, tt))

between_still : (gap : ℕ) (above below : Option ℕ) → AreUnmoved (between_shown gap above below)
between_still gap None None = tt
between_still gap None (Some below) = (tt, tt)
between_still gap (Some above) None = (tt, tt)
between_still gap (Some above) (Some below) = two_still (above == below) gap above below

-- the machine that is first of these nodes
abbrev first_shown : ℕ → List NodeState → List Happening
first_shown machine [] = []
first_shown machine (node ∷ nodes) =
    kept_shown machine node.lane.body.kept
    ++ between_shown machine (own_of node.lane.body).held (taken_below nodes)

front_is : (lane machine : ℕ) (nodes : List NodeState)
    → front_shown lane machine nodes ≡ told_on lane (first_shown machine nodes)
front_is lane machine [] = refl
front_is lane machine (node ∷ nodes) = refl

first_still : (machine : ℕ) (nodes : List NodeState) → AreUnmoved (first_shown machine nodes)
first_still machine [] = tt
first_still machine (node ∷ nodes) =
    join_all IsUnmoved (kept_shown machine node.lane.body.kept)
    (between_shown machine (own_of node.lane.body).held (taken_below nodes))
    (kept_still machine node.lane.body.kept)
    (between_still machine (own_of node.lane.body).held (taken_below nodes))

front_own : (own lane machine : ℕ) (nodes : List NodeState) → own ≡ lane
    → told_for lane (front_shown own machine nodes) ≡ first_shown machine nodes
front_own own lane machine nodes same =
    subst (λ (l : ℕ). told_for l (front_shown own machine nodes) ≡ first_shown machine nodes) same
    (ap (told_for own) (front_is own machine nodes)
    ∙ for_own own (first_shown machine nodes) (first_still machine nodes))

front_other : (own lane machine : ℕ) (nodes : List NodeState) → own ≢ lane
    → told_for lane (front_shown own machine nodes) ≡ []
front_other own lane machine nodes apart =
    ap (told_for lane) (front_is own machine nodes)
    ∙ for_other own lane (first_shown machine nodes) apart (first_still machine nodes)

fronts_behind : (own lane machine : ℕ) (lists : List (List NodeState)) → lane < own
    → told_for lane (fronts_shown own machine lists) ≡ []
fronts_behind own lane machine [] less = refl
fronts_behind own lane machine (nodes ∷ lists) less =
    for_append lane (front_shown own machine nodes) (fronts_shown (own + 1) machine lists)
    ∙ (λ i. front_other own lane machine nodes
    (λ (same : own ≡ lane). let never : ⊥ = omega (arith, same, less) in never) i
    ++ fronts_behind (own + 1) lane machine lists (omega (arith, less)) i)

fronts_at : (own place machine : ℕ) (lists : List (List NodeState))
    → told_for (own + place) (fronts_shown own machine lists)
    ≡ first_shown machine (get_or lists place [])
fronts_at own place machine [] = sym (ap (first_shown machine) (at_past [] place [] (omega arith)))
fronts_at own zero machine (nodes ∷ lists) =
    for_append (own + 0) (front_shown own machine nodes) (fronts_shown (own + 1) machine lists)
    ∙ (λ i. front_own own (own + 0) machine nodes (omega arith) i
    ++ fronts_behind (own + 1) (own + 0) machine lists (omega arith) i)
    ∙ append-nil (first_shown machine nodes)
fronts_at own (suc place) machine (nodes ∷ lists) =
    let here : own + suc place ≡ own + 1 + place = omega arith in
    for_append (own + suc place) (front_shown own machine nodes)
    (fronts_shown (own + 1) machine lists)
    ∙ (λ i. front_other own (own + suc place) machine nodes
    (λ (same : own ≡ own + suc place). let never : ⊥ = omega (arith, same) in never) i
    ++ told_for (here i) (fronts_shown (own + 1) machine lists))
    ∙ fronts_at (own + 1) place machine lists

behind_at : (lists : List (List NodeState)) (place : ℕ)
    → get_or (map behind_first lists) place [] ≡ behind_first (get_or lists place [])
behind_at [] place =
    at_past [] place [] (omega arith) ∙ sym (ap behind_first (at_past [] place [] (omega arith)))
behind_at (nodes ∷ lists) zero = refl
behind_at (nodes ∷ lists) (suc place) = behind_at lists place

shown_first : (machine : ℕ) (node : NodeState) (nodes : List NodeState)
    → first_shown machine (node ∷ nodes) ++ shown_from (machine + 1) nodes
    ≡ shown_from machine (node ∷ nodes)
shown_first machine node nodes =
    append_assoc (kept_shown machine node.lane.body.kept)
    (between_shown machine (own_of node.lane.body).held (taken_below nodes))
    (shown_from (machine + 1) nodes)

all_at : (many machine place : ℕ) (lists : List (List NodeState)) (nodes : List NodeState)
    → get_or lists place [] ≡ nodes → length nodes ≡ many
    → told_for (1 + place) (all_shown many machine lists) ≡ shown_from machine nodes
all_at zero machine place lists [] is count = refl
all_at zero machine place lists (node ∷ nodes) is count =
    absurd (let never : ⊥ = omega (arith, count) in never)
all_at (suc more) machine place lists [] is count =
    absurd (let never : ⊥ = omega (arith, count) in never)
all_at (suc more) machine place lists (node ∷ nodes) is count =
    for_append (1 + place) (fronts_shown 1 machine lists)
    (all_shown more (machine + 1) (map behind_first lists))
    ∙ (λ i. (fronts_at 1 place machine lists ∙ ap (first_shown machine) is) i
    ++ all_at more (machine + 1) place (map behind_first lists) nodes
    (behind_at lists place ∙ ap behind_first is) (omega (arith, count)) i)
    ∙ shown_first machine node nodes

all_none : (many machine place : ℕ) (lists : List (List NodeState)) → get_or lists place [] ≡ []
    → told_for (1 + place) (all_shown many machine lists) ≡ []
all_none zero machine place lists none = refl
all_none (suc more) machine place lists none =
    for_append (1 + place) (fronts_shown 1 machine lists)
    (all_shown more (machine + 1) (map behind_first lists))
    ∙ (λ i. (fronts_at 1 place machine lists ∙ ap (first_shown machine) none) i
    ++ all_none more (machine + 1) place (map behind_first lists)
    (behind_at lists place ∙ ap behind_first none) i)

abbrev nodes_of : LineState → List NodeState
nodes_of t = t.machines

shown_there : (lane : ℕ) (s : Lanes) → IsTogether s → IsThere lane s
    → told_for lane (shown_on s) ≡ shown (track lane s)
shown_there lane s is there =
    let here : 1 + (lane - 1) ≡ lane = omega (arith, there.0) in
    ap (λ (l : ℕ). told_for l (shown_on s)) (sym here)
    ∙ all_at (length (track 1 s).machines) 1 (lane - 1) (map nodes_of s.tracks)
    (track lane s).machines
    (at_map nodes_of s.tracks (lane - 1) (empty_track s) [] (omega (arith, there.0, there.1)))
    (shared_many (track 1 s).machines (track lane s).machines (is.like lane there).machines)

shown_past : (lane : ℕ) (s : Lanes) → 1 ≤ lane → length s.tracks < lane
    → told_for lane (shown_on s) ≡ []
shown_past lane s some past =
    let here : 1 + (lane - 1) ≡ lane = omega (arith, some) in
    ap (λ (l : ℕ). told_for l (shown_on s)) (sym here)
    ∙ all_none (length (track 1 s).machines) 1 (lane - 1) (map nodes_of s.tracks)
    (at_past (map nodes_of s.tracks) (lane - 1) []
    (omega (arith, past, map_many nodes_of s.tracks)))

pub shown_on_each : (lane : ℕ) (s : Lanes) → IsTogether s → 1 ≤ lane
    → told_for lane (shown_on s) ≡ shown (track lane s)
shown_on_each lane s is some = by (whether lane s some) where
  by : Whether lane s → told_for lane (shown_on s) ≡ shown (track lane s)
  by (is_there there) = shown_there lane s is there
  by (is_past past empty) = shown_past lane s some past ∙ ap shown (sym empty)
