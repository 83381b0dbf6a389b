-- What a step on one lane leaves of the other lanes of its machines.
use Rattle.std.proofs.Common.{◌≡◌, ◌∙◌, ◌-◌, ◌<◌, ◌==◌, ℕ, Bool, true, false, zero, suc, List, [], ◌∷◌, ap, arith, length, map, refl, subst, sym, eq-eqb}
use Rattle.std.proofs.Math.Numerals.{sub-one}
use Rattle.std.specs.Prelude.{Option, None, Some, if◌then◌else◌, option_map, slice_get, slice_set}
use Rattle.std.specs.List.{AllByRecursion}
use Rattle.node_core.specs.Node.{NodeState}
use Rattle.node_core.specs.Shared.{SharedParts, shared_of, with_shared}
use Rattle.node_core.specs.declared.input.Input.{Input}
use Rattle.node_core.specs.declared.input.Input.TheVariants as inputs
use Rattle.line_script.specs.declared.line.ScriptLine.{ScriptLine}
use Rattle.line_report.specs.declared.happening.Happening.{Happening}
use Rattle.line_step.specs.Lines.{Connects, LineDoes, arrived, connecting}
use Rattle.line_step.specs.Requests.{Request, request_of}
use Rattle.line_step.specs.State.{LineState}
use Rattle.line_step.specs.Steps.{MachineSteps}
use Rattle.line_step.proofs.Ascending.{choose_false, choose_true}
use Rattle.line_step.proofs.Turns.{LineTurns, line_turns}
use Rattle.line_step.proofs.Turns as turns
use Rattle.law_lanes.specs.Lanes.{beside, beside_nodes, tracks_with}
use Rattle.line_machines.specs.Given.{is_of_lane}
use Rattle.line_machines.proofs.Numbering.{is_adding, not_adding}
use Rattle.line_marks.specs.Stepped.{first_stepped, last_stepped}
use Rattle.line_marks.proofs.Restored.{first_asked, first_is, last_asked, last_is, stepped}
use Rattle.line_machines.specs.Sharing.{shared_in, sharing, sharing_at}
use Rattle.line_engine.specs.Sharing.{followed, followed_with, following, shared_with, sharing_track_if, unvouched_track}
use Rattle.line_engine.specs.Tracks.{IsFollowing, IsReady, SharesOf, states_of, with_behind}
use Rattle.line_engine.specs.declared.sharing.Shares.{Shares}
use Rattle.line_engine.specs.declared.track.Track.{Track}

-- ---- one machine of a list follows

abbrev pub set_shared : ℕ → SharedParts → List NodeState → List NodeState
set_shared place shared [] = []
set_shared zero shared (node ∷ nodes) = with_shared shared node ∷ nodes
set_shared (suc place) shared (node ∷ nodes) = node ∷ set_shared place shared nodes

set_shared_at : (place : ℕ) (shared : SharedParts) (nodes : List NodeState) (node : NodeState) → slice_get nodes place ≡ Some node → slice_set nodes place (with_shared shared node) ≡ set_shared place shared nodes
set_shared_at place shared [] node there = absurd (cc)
set_shared_at zero shared (first ∷ nodes) node there = let same : first ≡ node = cc in ap (λ (n : NodeState). with_shared shared n ∷ nodes) (sym same)
set_shared_at (suc place) shared (first ∷ nodes) node there = ap (λ (ns : List NodeState). first ∷ ns) (set_shared_at place shared nodes node there)

set_shared_past : (place : ℕ) (shared : SharedParts) (nodes : List NodeState) → slice_get nodes place ≡ None → set_shared place shared nodes ≡ nodes
set_shared_past place shared [] past = refl
set_shared_past zero shared (first ∷ nodes) past = absurd (cc)
set_shared_past (suc place) shared (first ∷ nodes) past = ap (λ (ns : List NodeState). first ∷ ns) (set_shared_past place shared nodes past)

-- ---- lists that agree in what they share

first_alike : (a b : NodeState) (more others : List NodeState) → map shared_of (a ∷ more) ≡ map shared_of (b ∷ others) → shared_of a ≡ shared_of b
first_alike a b more others same = cc

more_alike : (a b : NodeState) (more others : List NodeState) → map shared_of (a ∷ more) ≡ map shared_of (b ∷ others) → map shared_of more ≡ map shared_of others
more_alike a b more others same = cc

none_alike : (b : NodeState) (others : List NodeState) → map shared_of [] ≡ map shared_of (b ∷ others) → ⊥
none_alike b others same = cc

some_alike : (a : NodeState) (more : List NodeState) → map shared_of (a ∷ more) ≡ map shared_of [] → ⊥
some_alike a more same = cc

-- nothing is left where they agree
pub beside_alike : (nodes others : List NodeState) → map shared_of nodes ≡ map shared_of others → beside_nodes nodes others ≡ others
beside_alike [] others same = refl
beside_alike (node ∷ nodes) [] same = absurd (some_alike node nodes same)
beside_alike (node ∷ nodes) (other ∷ others) same =
    ap (λ (n : NodeState). n ∷ beside_nodes nodes others) (ap (λ (shared : SharedParts). with_shared shared other) (first_alike node other nodes others same))
    ∙ ap (λ (ns : List NodeState). other ∷ ns) (beside_alike nodes others (more_alike node other nodes others same))

share_same : (place : ℕ) (nodes others : List NodeState) (node : NodeState) → map shared_of nodes ≡ map shared_of others → slice_get nodes place ≡ Some node → set_shared place (shared_of node) others ≡ others
share_same place nodes [] node same there = refl
share_same place [] (other ∷ others) node same there = absurd (cc)
share_same zero (first ∷ nodes) (other ∷ others) node same there =
    let here : first ≡ node = cc in
    ap (λ (shared : SharedParts). with_shared shared other ∷ others) (ap shared_of (sym here) ∙ first_alike first other nodes others same)
share_same (suc place) (first ∷ nodes) (other ∷ others) node same there = ap (λ (ns : List NodeState). other ∷ ns) (share_same place nodes others node (more_alike first other nodes others same) there)

-- one machine is another
pub beside_set : (place : ℕ) (next : NodeState) (nodes others : List NodeState) → place < length nodes → beside_nodes (slice_set nodes place next) others ≡ set_shared place (shared_of next) (beside_nodes nodes others)
beside_set place next [] others within = absurd (omega (arith, within))
beside_set zero next (node ∷ nodes) [] within = refl
beside_set zero next (node ∷ nodes) (other ∷ others) within = refl
beside_set (suc place) next (node ∷ nodes) [] within = refl
beside_set (suc place) next (node ∷ nodes) (other ∷ others) within =
    ap (λ (ns : List NodeState). record other { maker = node.maker; supervised = node.supervised } ∷ ns) (beside_set place next nodes others (omega (arith, within)))

within_of : (place : ℕ) (nodes : List NodeState) (node : NodeState) → slice_get nodes place ≡ Some node → place < length nodes
within_of place [] node there = absurd (cc)
within_of zero (first ∷ nodes) node there = omega arith
within_of (suc place) (first ∷ nodes) node there = let h = within_of place nodes node there in omega (arith, h)

get_set : (place : ℕ) (nodes : List NodeState) (next : NodeState) → place < length nodes → slice_get (slice_set nodes place next) place ≡ Some next
get_set place [] next within = absurd (omega (arith, within))
get_set zero (first ∷ nodes) next within = refl
get_set (suc place) (first ∷ nodes) next within = get_set place nodes next (omega (arith, within))

pub set_length : (place : ℕ) (nodes : List NodeState) (next : NodeState) → length (slice_set nodes place next) ≡ length nodes
set_length place [] next = refl
set_length zero (first ∷ nodes) next = refl
set_length (suc place) (first ∷ nodes) next = ap (λ (n : ℕ). suc n) (set_length place nodes next)

get_other : (place other : ℕ) (nodes : List NodeState) (next : NodeState) → place < other → slice_get (slice_set nodes place next) other ≡ slice_get nodes other
get_other place other [] next apart = refl
get_other zero zero (first ∷ nodes) next apart = absurd (omega (arith, apart))
get_other zero (suc other) (first ∷ nodes) next apart = refl
get_other (suc place) zero (first ∷ nodes) next apart = absurd (omega (arith, apart))
get_other (suc place) (suc other) (first ∷ nodes) next apart = get_other place other nodes next (omega (arith, apart))

-- ---- a line follows

-- one machine of it, as a list
shares_whole : (place : ℕ) (shared : SharedParts) (found : Option NodeState) (s : LineState) → slice_get s.machines place ≡ found → sharing (suc place) shared s ≡ record s { machines = set_shared place shared s.machines }
shares_whole place shared None s is =
    ap (λ (f : Option NodeState). sharing_at (suc place) shared f s) is ∙ ap (λ (ns : List NodeState). record s { machines = ns }) (sym (set_shared_past place shared s.machines is))
shares_whole place shared (Some node) s is =
    ap (λ (f : Option NodeState). sharing_at (suc place) shared f s) is
    ∙ ap (λ (n : ℕ). record s { machines = slice_set s.machines n (with_shared shared node) }) (sub-one (suc place))
    ∙ ap (λ (ns : List NodeState). record s { machines = ns }) (set_shared_at place shared s.machines node is)

pub shares : (place : ℕ) (shared : SharedParts) (s : LineState) → sharing (suc place) shared s ≡ record s { machines = set_shared place shared s.machines }
shares place shared s = shares_whole place shared (slice_get s.machines place) s refl

-- at a machine, what it has in a line, if it is there
abbrev pub sharing_if : ℕ → Option SharedParts → LineState → LineState
sharing_if machine None t = t
sharing_if machine (Some shared) t = sharing machine shared t

abbrev pub share_state : ℕ → ℕ → LineState → LineState → LineState
share_state first last s t =
    if first == last then sharing_if last (shared_in last s) t else
    sharing_if first (shared_in first s) (sharing_if last (shared_in last s) t)

by_found : (place : ℕ) (s t : LineState) (node : NodeState) → slice_get s.machines place ≡ Some node → sharing_if (suc place) (shared_in (suc place) s) t ≡ record t { machines = set_shared place (shared_of node) t.machines }
by_found place s t node there = ap (λ (found : Option NodeState). sharing_if (suc place) (option_map shared_of found) t) there ∙ shares place (shared_of node) t

rest_found : (place : ℕ) (found : Option NodeState) (s t : LineState) → map shared_of s.machines ≡ map shared_of t.machines → slice_get s.machines place ≡ found → sharing_if (suc place) (shared_in (suc place) s) t ≡ t
rest_found place None s t same is = ap (λ (found : Option NodeState). sharing_if (suc place) (option_map shared_of found) t) is
rest_found place (Some node) s t same is = by_found place s t node is ∙ ap (λ (ns : List NodeState). record t { machines = ns }) (share_same place s.machines t.machines node same is)

-- nothing changes where they agree
pub rests : (machine : ℕ) (s t : LineState) → map shared_of s.machines ≡ map shared_of t.machines → sharing_if machine (shared_in machine s) t ≡ t
rests zero s t same = refl
rests (suc place) s t same = rest_found place (slice_get s.machines place) s t same refl

rests_both : (test : Bool) (first last : ℕ) (s t : LineState) → map shared_of s.machines ≡ map shared_of t.machines
    → (if test then sharing_if last (shared_in last s) t else sharing_if first (shared_in first s) (sharing_if last (shared_in last s) t)) ≡ t
rests_both true first last s t same = rests last s t same
rests_both false first last s t same = ap (sharing_if first (shared_in first s)) (rests last s t same) ∙ rests first s t same

pub state_rests : (first last : ℕ) (s t : LineState) → map shared_of s.machines ≡ map shared_of t.machines → share_state first last s t ≡ t
state_rests first last s t same = rests_both (first == last) first last s t same

-- ---- which machines a line may have changed

pub data Touches (first last : ℕ) (before next : LineState) : Type 0 where
  touches_none : next.machines ≡ before.machines → Touches first last before next
  touches_one : (place : ℕ) (node : NodeState) → first ≡ suc place → last ≡ suc place → place < length before.machines → next.machines ≡ slice_set before.machines place node → Touches first last before next
  touches_two : (above : ℕ) (lower upper : NodeState) → first ≡ suc above → last ≡ suc (suc above) → suc above < length before.machines → next.machines ≡ slice_set (slice_set before.machines (suc above) lower) above upper
      → Touches first last before next

pub one_touched : (number machine : ℕ) (input : Input) (before start after : LineState) (told : List Happening) → start.machines ≡ before.machines → MachineSteps number machine input start after told → Touches machine machine before after
one_touched number zero input before start after told same m = let none = m.there in absurd (cc)
one_touched number (suc place) input before start after told same m =
    touches_one place m.next refl refl (subst (λ (ns : List NodeState). place < length ns) same (within_of place start.machines m.node m.there))
    (stepped number place (suc place) input start after told refl m ∙ ap (λ (ns : List NodeState). slice_set ns place m.next) same)

two_touched : (number place upper : ℕ) (one other : Input) (before start between after : LineState) (earlier later : List Happening) → upper ≡ place → start.machines ≡ before.machines
    → MachineSteps number (suc place) one start between earlier → MachineSteps number upper other between after later → Touches upper (suc place) before after
two_touched number place zero one other before start between after earlier later is same a b = let none = b.there in absurd (cc)
two_touched number place (suc above) one other before start between after earlier later is same a b =
    let lower = stepped number place (suc place) one start between earlier refl a ∙ ap (λ (ns : List NodeState). slice_set ns place a.next) same ∙ ap (λ (n : ℕ). slice_set before.machines n a.next) (sym is) in
    let within : place < length before.machines = subst (λ (ns : List NodeState). place < length ns) same (within_of place start.machines a.node a.there) in
    touches_two above a.next b.next refl (ap (λ (n : ℕ). suc n) (sym is)) (subst (λ (n : ℕ). n < length before.machines) (sym is) within)
    (stepped number above (suc above) other between after later refl b ∙ ap (λ (ns : List NodeState). slice_set ns above b.next) lower)

connect_touched : (number machine : ℕ) (before after : LineState) (told : List Happening) → Connects number machine before after told → Touches (machine - 1) machine before after
connect_touched number zero before after told t = let none = t.first.there in absurd (cc)
connect_touched number (suc place) before after told t = two_touched number place (suc place - 1) inputs.Connect _ before (connecting (suc place) before) t.between after t.earlier t.later (sub-one (suc place)) refl t.first t.second

turn_touched : (number : ℕ) (request : Request) (before after : LineState) (told : List Happening) → is_adding request ≡ false → LineTurns number before after told request → Touches (first_asked request) (last_asked request) before after
turn_touched number request before after told not (turns.stays _ same none) = touches_none same
turn_touched number request before after told not (turns.adds lane is_bridge capacity used may b) = absurd (cc)
turn_touched number request before after told not (turns.steps machine input given may did) = one_touched number machine input before before after told refl did
turn_touched number request before after told not (turns.connects machine may did) = connect_touched number machine before after told did
turn_touched number request before after told not (turns.flows machine side count may did) = one_touched number machine _ before (arrived machine side count before) after told refl did.steps

pub line_touched : (number : ℕ) (line : ScriptLine) (before after : LineState) (told : List Happening) → is_of_lane line ≡ true → LineDoes number (request_of line) before after told → Touches (first_stepped line) (last_stepped line) before after
line_touched number line before after told own does =
    subst (λ (first : ℕ). Touches first (last_stepped line) before after) (first_is line)
    (subst (λ (last : ℕ). Touches (first_asked (request_of line)) last before after) (last_is line)
    (turn_touched number (request_of line) before after told (not_adding line own) (line_turns number (request_of line) before after told does)))

-- ---- another lane follows

followed_one : (place : ℕ) (node : NodeState) (first last : ℕ) (before next t : LineState) → first ≡ suc place → last ≡ suc place → place < length before.machines → next.machines ≡ slice_set before.machines place node
    → map shared_of before.machines ≡ map shared_of t.machines → share_state first last next t ≡ record t { machines = beside_nodes next.machines t.machines }
followed_one place node first last before next t first_is last_is within machines same =
    let there : slice_get next.machines place ≡ Some node = ap (λ (ns : List NodeState). slice_get ns place) machines ∙ get_set place before.machines node within in
    choose_true (first == last) (sharing_if last (shared_in last next) t) (sharing_if first (shared_in first next) (sharing_if last (shared_in last next) t)) (eq-eqb first last (first_is ∙ sym last_is))
    ∙ ap (λ (n : ℕ). sharing_if n (shared_in n next) t) last_is
    ∙ by_found place next t node there
    ∙ ap (λ (ns : List NodeState). record t { machines = set_shared place (shared_of node) ns }) (sym (beside_alike before.machines t.machines same))
    ∙ ap (λ (ns : List NodeState). record t { machines = ns }) (sym (beside_set place node before.machines t.machines within))
    ∙ ap (λ (ns : List NodeState). record t { machines = beside_nodes ns t.machines }) (sym machines)

followed_two : (above : ℕ) (lower upper : NodeState) (first last : ℕ) (before next t : LineState) → first ≡ suc above → last ≡ suc (suc above) → suc above < length before.machines
    → next.machines ≡ slice_set (slice_set before.machines (suc above) lower) above upper
    → map shared_of before.machines ≡ map shared_of t.machines → share_state first last next t ≡ record t { machines = beside_nodes next.machines t.machines }
followed_two above lower upper first last before next t first_is last_is within machines same =
    let mid : List NodeState = slice_set before.machines (suc above) lower in
    let wide : length mid ≡ length before.machines = set_length (suc above) before.machines lower in
    let high : above < length mid = omega (arith, wide, within) in
    let top : slice_get next.machines above ≡ Some upper = ap (λ (ns : List NodeState). slice_get ns above) machines ∙ get_set above mid upper high in
    let low : slice_get next.machines (suc above) ≡ Some lower = ap (λ (ns : List NodeState). slice_get ns (suc above)) machines ∙ get_other above (suc above) mid upper (omega arith) ∙ get_set (suc above) before.machines lower within in
    let apart : (first == last) ≡ false = grind (arith, first_is, last_is) in
    choose_false (first == last) (sharing_if last (shared_in last next) t) (sharing_if first (shared_in first next) (sharing_if last (shared_in last next) t)) apart
    ∙ ap (λ (n : ℕ). sharing_if first (shared_in first next) (sharing_if n (shared_in n next) t)) last_is
    ∙ ap (λ (n : ℕ). sharing_if n (shared_in n next) (sharing_if (suc (suc above)) (shared_in (suc (suc above)) next) t)) first_is
    ∙ ap (sharing_if (suc above) (shared_in (suc above) next)) (by_found (suc above) next t lower low)
    ∙ by_found above next (record t { machines = set_shared (suc above) (shared_of lower) t.machines }) upper top
    ∙ ap (λ (ns : List NodeState). record t { machines = set_shared above (shared_of upper) (set_shared (suc above) (shared_of lower) ns) }) (sym (beside_alike before.machines t.machines same))
    ∙ ap (λ (ns : List NodeState). record t { machines = set_shared above (shared_of upper) ns }) (sym (beside_set (suc above) lower before.machines t.machines within))
    ∙ ap (λ (ns : List NodeState). record t { machines = ns }) (sym (beside_set above upper mid t.machines high))
    ∙ ap (λ (ns : List NodeState). record t { machines = beside_nodes ns t.machines }) (sym machines)

pub state_follows : (first last : ℕ) (before next t : LineState) → Touches first last before next → map shared_of before.machines ≡ map shared_of t.machines → share_state first last next t ≡ record t { machines = beside_nodes next.machines t.machines }
state_follows first last before next t (touches_none machines) same =
    let alike : map shared_of next.machines ≡ map shared_of t.machines = ap (map shared_of) machines ∙ same in
    state_rests first last next t alike ∙ ap (λ (ns : List NodeState). record t { machines = ns }) (sym (beside_alike next.machines t.machines alike))
state_follows first last before next t (touches_one place node first_is last_is within machines) same = followed_one place node first last before next t first_is last_is within machines same
state_follows first last before next t (touches_two above lower upper first_is last_is within machines) same = followed_two above lower upper first last before next t first_is last_is within machines same

-- ---- tracks follow

shared_track : (test : Bool) (first last : ℕ) (x y : Option SharedParts) (track : Track)
    → (if test then sharing_track_if last y track else sharing_track_if first x (sharing_track_if last y track))
    ≡ record track { state = if test then sharing_if last y track.state else sharing_if first x (sharing_if last y track.state) }
shared_track true first last x None track = refl
shared_track true first last x (Some shared) track = refl
shared_track false first last None None track = refl
shared_track false first last (Some other) None track = refl
shared_track false first last None (Some shared) track = refl
shared_track false first last (Some other) (Some shared) track = refl

pub followed_is : (first last : ℕ) (s : LineState) (track : Track) → followed first last s track ≡ record track { state = record (share_state first last s track.state) { unvouched = s.unvouched } }
followed_is first last s track = ap (unvouched_track s.unvouched) (shared_track (first == last) first last (shared_in first s) (shared_in last s) track)

-- the one that stepped is as it was
pub own_followed : (first last : ℕ) (next : LineState) (own : Track) → followed first last next (record own { state = next }) ≡ record own { state = next }
own_followed first last next own =
    followed_is first last next (record own { state = next })
    ∙ ap (λ (s : LineState). record own { state = record s { unvouched = next.unvouched } }) (state_rests first last next next refl)

other_followed : (first last : ℕ) (before next : LineState) (other : Track) → Touches first last before next → map shared_of before.machines ≡ map shared_of other.state.machines → followed first last next other ≡ record other { state = beside next other.state }
other_followed first last before next other touched same =
    followed_is first last next other
    ∙ ap (λ (s : LineState). record other { state = record s { unvouched = next.unvouched } }) (state_follows first last before next other.state touched same)

-- ---- all of them

abbrev pub beside_track : LineState → Track → Track
beside_track next other = record other { state = beside next other.state }

abbrev pub tracks_behind : ℕ → LineState → List Track → List Track
tracks_behind before next [] = []
tracks_behind zero next (own ∷ others) = record own { state = next } ∷ map (beside_track next) others
tracks_behind (suc before) next (other ∷ others) = beside_track next other ∷ tracks_behind before next others

states_map : (next : LineState) (tracks : List Track) → states_of (map (beside_track next) tracks) ≡ map (beside next) (states_of tracks)
states_map next [] = refl
states_map next (track ∷ tracks) = ap (λ (ss : List LineState). beside next track.state ∷ ss) (states_map next tracks)

pub states_behind : (place : ℕ) (next : LineState) (tracks : List Track) → states_of (tracks_behind place next tracks) ≡ tracks_with place next (states_of tracks)
states_behind place next [] = refl
states_behind zero next (own ∷ others) = ap (λ (ss : List LineState). next ∷ ss) (states_map next others)
states_behind (suc place) next (other ∷ others) = ap (λ (ss : List LineState). beside next other.state ∷ ss) (states_behind place next others)

abbrev pub AreAlike : LineState → List Track → Type 0
AreAlike before tracks = AllByRecursion (λ (track : Track). map shared_of before.machines ≡ map shared_of track.state.machines) tracks

map_followed : (first last : ℕ) (before next : LineState) (tracks : List Track) → Touches first last before next → AreAlike before tracks → map (followed first last next) tracks ≡ map (beside_track next) tracks
map_followed first last before next [] touched alike = refl
map_followed first last before next (track ∷ tracks) touched alike =
    ap (λ (t : Track). t ∷ map (followed first last next) tracks) (other_followed first last before next track touched alike.0)
    ∙ ap (λ (ts : List Track). beside_track next track ∷ ts) (map_followed first last before next tracks touched alike.1)

all_followed : (first last place : ℕ) (before next : LineState) (own : Track) (tracks : List Track) → Touches first last before next → AreAlike before tracks → slice_get tracks place ≡ Some own
    → map (followed first last next) (with_behind place (record own { state = next }) tracks) ≡ tracks_behind place next tracks
all_followed first last place before next own [] touched alike there = refl
all_followed first last zero before next own (one ∷ tracks) touched alike there =
    let same : one ≡ own = cc in
    ap (λ (t : Track). t ∷ map (followed first last next) tracks) (own_followed first last next own ∙ ap (λ (t : Track). record t { state = next }) (sym same))
    ∙ ap (λ (ts : List Track). record one { state = next } ∷ ts) (map_followed first last before next tracks touched alike.1)
all_followed first last (suc place) before next own (one ∷ tracks) touched alike there =
    ap (λ (t : Track). t ∷ map (followed first last next) (with_behind place (record own { state = next }) tracks)) (other_followed first last before next one touched alike.0)
    ∙ ap (λ (ts : List Track). beside_track next one ∷ ts) (all_followed first last place before next own tracks touched alike.1 there)

pub tracks_follow : (first last place : ℕ) (before next : LineState) (own : Track) (tracks : List Track) → Touches first last before next → AreAlike before tracks → slice_get tracks place ≡ Some own
    → following first last next (with_behind place (record own { state = next }) tracks) ≡ tracks_behind place next tracks
tracks_follow first last place before next own tracks touched alike there = all_followed first last place before next own tracks touched alike there

-- ---- the code's words for it

pub none_shared : (machine : ℕ) (shared : Option SharedParts) (tracks : List Track) → shared ≡ None → tracks ≡ map (sharing_track_if machine shared) tracks
none_shared machine shared tracks is = all_same tracks ∙ ap (λ (s : Option SharedParts). map (sharing_track_if machine s) tracks) (sym is)
  where
    all_same : (tracks : List Track) → tracks ≡ map (sharing_track_if machine None) tracks
    all_same [] = refl
    all_same (track ∷ tracks) = ap (λ (ts : List Track). track ∷ ts) (all_same tracks)

map_both : (f g h : Track → Track) → ((t : Track) → f (g t) ≡ h t) → (tracks : List Track) → map f (map g tracks) ≡ map h tracks
map_both f g h is [] = refl
map_both f g h is (track ∷ tracks) = ap (λ (t : Track). t ∷ map f (map g tracks)) (is track) ∙ ap (λ (ts : List Track). h track ∷ ts) (map_both f g h is tracks)

map_same : (f h : Track → Track) → ((t : Track) → f t ≡ h t) → (tracks : List Track) → map f tracks ≡ map h tracks
map_same f h is [] = refl
map_same f h is (track ∷ tracks) = ap (λ (t : Track). t ∷ map f tracks) (is track) ∙ ap (λ (ts : List Track). h track ∷ ts) (map_same f h is tracks)

pub machines_one : (first last : ℕ) (shares : Shares) (tracks next : List Track) → (first == last) ≡ true → next ≡ map (sharing_track_if last shares.last) tracks → next ≡ map (shared_with first last shares) tracks
machines_one first last shares tracks next same is =
    is ∙ map_same (sharing_track_if last shares.last) (shared_with first last shares)
    (λ t. sym (choose_true (first == last) (sharing_track_if last shares.last t) (sharing_track_if first shares.first (sharing_track_if last shares.last t)) same)) tracks

pub machines_two : (first last : ℕ) (shares : Shares) (tracks mid next : List Track) → (first == last) ≡ false → mid ≡ map (sharing_track_if last shares.last) tracks → next ≡ map (sharing_track_if first shares.first) mid → next ≡ map (shared_with first last shares) tracks
machines_two first last shares tracks mid next apart mid_is is =
    is ∙ ap (map (sharing_track_if first shares.first)) mid_is
    ∙ map_both (sharing_track_if first shares.first) (sharing_track_if last shares.last) (shared_with first last shares)
    (λ t. sym (choose_false (first == last) (sharing_track_if last shares.last t) (sharing_track_if first shares.first (sharing_track_if last shares.last t)) apart)) tracks

pub all_with : (first last : ℕ) (shares : Shares) (tracks mid next : List Track) → mid ≡ map (shared_with first last shares) tracks → next ≡ map (unvouched_track shares.unvouched) mid → next ≡ map (followed_with first last shares) tracks
all_with first last shares tracks mid next mid_is is =
    is ∙ ap (map (unvouched_track shares.unvouched)) mid_is ∙ map_both (unvouched_track shares.unvouched) (shared_with first last shares) (followed_with first last shares) (λ t. refl) tracks

pub all_follow : (lane first last : ℕ) (shares : Shares) (tracks next : List Track) → SharesOf lane first last tracks shares → next ≡ map (followed_with first last shares) tracks → IsFollowing lane first last tracks next
all_follow lane first last shares tracks next s is = record {
  own = s.own;
  there = s.there;
  after_is = is
      ∙ map_same (followed_with first last shares) (followed first last s.own.state)
      (λ t. ap (λ (x : Option SharedParts). followed_with first last (record shares { last = x }) t) s.last_is
      ∙ ap (λ (x : Option SharedParts). followed_with first last (record shares { last = shared_in last s.own.state; first = x }) t) s.first_is
      ∙ ap (λ (u : Option ℕ). followed_with first last (record { last = shared_in last s.own.state; first = shared_in first s.own.state; unvouched = u }) t) s.unvouched_is) tracks;
}

-- a lane without others follows itself by what it is
pub alone_follows : (lane first last : ℕ) (one : Track) → IsReady lane (one ∷ []) → IsFollowing lane first last (one ∷ []) (one ∷ [])
alone_follows zero first last one ready = absurd ready
alone_follows (suc zero) first last one ready = record {
  own = one;
  there = refl;
  after_is = ap (λ (t : Track). t ∷ []) (sym (own_followed first last one.state one));
}
alone_follows (suc (suc before)) first last one ready = absurd ready
