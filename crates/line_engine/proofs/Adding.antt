-- One machine more on each lane.
use Rattle.std.proofs.Common.{◌≡◌, ◌∙◌, ◌+◌, ◌<◌, ◌≤◌, ◌++◌, ◌⊎◌, ℕ, Bool, true, false, zero, suc, List, [], ◌∷◌, inl, inr, ap, append-nil, arith, length, map, refl, subst, sym}
use Rattle.std.specs.Prelude.{Err, None, Some, nat_le, slice_get, slice_index_or, slice_set}
use Rattle.std.specs.List.{AllByRecursion}
use Rattle.node_core.specs.Node.{NodeState, new_node}
use Rattle.node_core.specs.Shared.{SharedParts, shared_of}
use Rattle.standings.specs.Marks.{Owned, marks_at, marks_from}
use Rattle.standings.specs.declared.mark.Mark.{Mark}
use Rattle.line_report.specs.Lanes.{on_lane, told_on}
use Rattle.line_report.specs.declared.happening.Happening.TheVariants as happenings
use Rattle.line_report.specs.declared.happening.LaneHappening.{LaneHappening}
use Rattle.line_report.specs.declared.happening.Reason.{Reason}
use Rattle.line_report.specs.declared.happening.Reason.TheVariants as reasons
use Rattle.line_step.specs.Reasons.{may_add, may_do, no_if}
use Rattle.line_step.specs.Requests.{added_told, adds}
use Rattle.line_step.specs.State.{LineState, machine_in, most_machines, one_more, owned_by, profile_of}
use Rattle.line_step.proofs.Keeps.{more_together, not_full}
use Rattle.law_lanes.specs.Lanes.{Lanes}
use Rattle.law_lanes.specs.Shown.{standings_on}
use Rattle.law_lanes.specs.Steps.{Becomes, RequestDoes, more_on, told_once}
use Rattle.line_marks.specs.Indexed.{indexed, marks_listed}
use Rattle.line_machines.specs.Sharing.{AreNumbered}
use Rattle.line_engine.specs.Sharing.{grown}
use Rattle.line_engine.specs.Tracks.{AreKept, HasRoom, IsLike, IsOwn, TellsDone, lanes_of, made_told, states_of}
use Rattle.line_marks.specs.Seats.{both, own_seat}
use Rattle.line_engine.specs.Seats.{seat_listed}
use Rattle.line_engine.specs.declared.track.Track.{Track}
use Rattle.line_engine.proofs.OnLane.{refused, unless_done, unless_not}
use Rattle.line_engine.proofs.Standings.{seats_listed, standings_among}

-- ---- lane by lane

abbrev pub grow : ℕ → Bool → ℕ → ℕ → Track → Track
grow lane is_bridge capacity used track =
    record track { state = one_more lane is_bridge capacity used track.state }

-- so many of them are grown
abbrev pub grown_to : ℕ → ℕ → Bool → ℕ → ℕ → List Track → List Track
grown_to zero lane is_bridge capacity used ts = ts
grown_to (suc n) lane is_bridge capacity used [] = []
grown_to (suc n) lane is_bridge capacity used (t ∷ ts) =
    grow lane is_bridge capacity used t ∷ grown_to n (lane + 1) is_bridge capacity used ts

grown_next : (n lane own : ℕ) (is_bridge : Bool) (capacity used : ℕ) (ts : List Track) (none : Track) → n < length ts → own ≡ lane + n
    → slice_set (grown_to n lane is_bridge capacity used ts) n (grow own is_bridge capacity used (slice_index_or (grown_to n lane is_bridge capacity used ts) n none))
    ≡ grown_to (suc n) lane is_bridge capacity used ts
grown_next zero lane own is_bridge capacity used [] none within is = absurd (omega (arith, within))
grown_next zero lane own is_bridge capacity used (t ∷ ts) none within is =
    let same : own ≡ lane = omega (arith, is) in
    ap (λ (n : ℕ). grow n is_bridge capacity used t ∷ ts) same
grown_next (suc n) lane own is_bridge capacity used [] none within is = absurd (omega (arith, within))
grown_next (suc n) lane own is_bridge capacity used (t ∷ ts) none within is =
    ap (λ (xs : List Track). grow lane is_bridge capacity used t ∷ xs) (grown_next n (lane + 1) own is_bridge capacity used ts none (omega (arith, within)) (omega (arith, is)))

one_more_place : (n : ℕ) → suc n ≡ n + 1
one_more_place n = omega arith

pub grows_next : (n own : ℕ) (is_bridge : Bool) (capacity used : ℕ) (ts now : List Track) (none new : Track) → n < length ts → own ≡ 2 + n → now ≡ grown_to n 2 is_bridge capacity used ts
    → new ≡ grow own is_bridge capacity used (slice_index_or now n none) → slice_set now n new ≡ grown_to (n + 1) 2 is_bridge capacity used ts
grows_next n own is_bridge capacity used ts now none new within own_is is new_is =
    ap (slice_set now n) new_is
    ∙ ap (λ (xs : List Track). slice_set xs n (grow own is_bridge capacity used (slice_index_or xs n none))) is
    ∙ grown_next n 2 own is_bridge capacity used ts none within own_is
    ∙ ap (λ (k : ℕ). grown_to k 2 is_bridge capacity used ts) (one_more_place n)

pub grown_end : (n lane : ℕ) (is_bridge : Bool) (capacity used : ℕ) (ts : List Track) → length ts ≤ n → grown_to n lane is_bridge capacity used ts ≡ grown lane is_bridge capacity used ts
grown_end zero lane is_bridge capacity used [] past = refl
grown_end zero lane is_bridge capacity used (t ∷ ts) past = absurd (omega (arith, past))
grown_end (suc n) lane is_bridge capacity used [] past = refl
grown_end (suc n) lane is_bridge capacity used (t ∷ ts) past =
    ap (λ (xs : List Track). grow lane is_bridge capacity used t ∷ xs) (grown_end n (lane + 1) is_bridge capacity used ts (omega (arith, past)))

pub grown_to_wide : (n lane : ℕ) (is_bridge : Bool) (capacity used : ℕ) (ts : List Track) → length (grown_to n lane is_bridge capacity used ts) ≡ length ts
grown_to_wide zero lane is_bridge capacity used ts = refl
grown_to_wide (suc n) lane is_bridge capacity used [] = refl
grown_to_wide (suc n) lane is_bridge capacity used (t ∷ ts) = ap (λ (k : ℕ). suc k) (grown_to_wide n (lane + 1) is_bridge capacity used ts)

-- the next one is as it was, and has room
pub room_at : (n lane : ℕ) (is_bridge : Bool) (capacity used : ℕ) (ts now : List Track) (none : Track) → n < length ts → AllByRecursion HasRoom ts → now ≡ grown_to n lane is_bridge capacity used ts → HasRoom (slice_index_or now n none)
room_at n lane is_bridge capacity used ts now none within room is =
    subst (λ (xs : List Track). HasRoom (slice_index_or xs n none)) (sym is) (room_in n lane ts within room)
  where
    room_in : (n lane : ℕ) (ts : List Track) → n < length ts → AllByRecursion HasRoom ts → HasRoom (slice_index_or (grown_to n lane is_bridge capacity used ts) n none)
    room_in zero lane [] within room = absurd (omega (arith, within))
    room_in zero lane (t ∷ ts) within room = room.0
    room_in (suc n) lane [] within room = absurd (omega (arith, within))
    room_in (suc n) lane (t ∷ ts) within room = room_in n (lane + 1) ts (omega (arith, within)) room.1

-- ---- what stands together

shared_wide : (nodes : List NodeState) → length (map shared_of nodes) ≡ length nodes
shared_wide [] = refl
shared_wide (node ∷ nodes) = ap (λ (k : ℕ). suc k) (shared_wide nodes)

like_wide : (s t : LineState) → IsLike s t → length t.machines ≡ length s.machines
like_wide s t like = sym (shared_wide t.machines) ∙ ap (λ (ps : List SharedParts). length ps) (sym like.shared) ∙ shared_wide s.machines

may_alike : (s t : LineState) → IsLike s t → may_add s ≡ may_do → may_add t ≡ may_do
may_alike s t like may = ap (λ (k : ℕ). no_if (nat_le most_machines k) reasons.LineFull may_do) (like_wide s t like) ∙ may

pub may_room : (s : LineState) → may_add s ≡ may_do → length s.machines < 64
may_room s may =
    let room : nat_le most_machines (length s.machines) ≡ false = not_full (nat_le most_machines (length s.machines)) reasons.LineFull may in
    grind (arith, room)

pub rooms : (first : LineState) (ts : List Track) → may_add first ≡ may_do → AllByRecursion (IsLike first) (states_of ts) → AllByRecursion IsOwn ts → AllByRecursion HasRoom ts
rooms first [] may likes owns = tt
rooms first (t ∷ ts) may likes owns = (
  record { together = owns.0.together; few = may_room t.state (may_alike first t.state likes.0 may) },
  rooms first ts may likes.1 owns.1,
)

get_more : (nodes : List NodeState) (new node : NodeState) (place : ℕ) → slice_get (nodes ++ new ∷ []) place ≡ Some node → (slice_get nodes place ≡ Some node) ⊎ ((place ≡ length nodes) × (new ≡ node))
get_more [] new node zero is = inr (refl, (cc))
get_more [] new node (suc place) is = absurd (cc)
get_more (n ∷ nodes) new node zero is = inl is
get_more (n ∷ nodes) new node (suc place) is = elim (get_more nodes new node place is) [ inl was ↦ inl was | inr last ↦ inr ((omega (arith, last.0)), last.1) ]

next_number : (count place : ℕ) → place ≡ count → count + 1 ≡ suc place
next_number count place is = omega (arith, is)

more_numbered : (lane : ℕ) (is_bridge : Bool) (capacity used : ℕ) (s : LineState) → AreNumbered s → AreNumbered (one_more lane is_bridge capacity used s)
more_numbered lane is_bridge capacity used s numbered = λ machine node there. at machine node there
  where
    at : (machine : ℕ) (node : NodeState) → machine_in machine (one_more lane is_bridge capacity used s) ≡ Some node → node.maker.machine ≡ machine
    at zero node there = absurd (cc)
    at (suc place) node there =
        elim (get_more s.machines (new_node (profile_of lane is_bridge (length s.machines + 1) capacity used)) node place there) [
          | inl was ↦ numbered (suc place) node was
          | inr last ↦ ap (λ (n : NodeState). n.maker.machine) (sym last.1) ∙ next_number (length s.machines) place last.0
        ]

marks_more : (number id : ℕ) (nodes : List NodeState) (fresh : NodeState) → owned_by fresh ≡ record { kept = []; held = None; taking = None } → marks_from number (map owned_by (nodes ++ fresh ∷ [])) id ≡ marks_from number (map owned_by nodes) id
marks_more number id [] fresh is = ap (λ (own : Owned). marks_at number own id ++ []) is
marks_more number id (first ∷ nodes) fresh is = ap (λ (ms : List Mark). marks_at number (owned_by first) id ++ ms) (marks_more (number + 1) id nodes fresh is)

more_own : (lane : ℕ) (is_bridge : Bool) (capacity used : ℕ) (track : Track) → may_add track.state ≡ may_do → IsOwn track → IsOwn (grow lane is_bridge capacity used track)
more_own lane is_bridge capacity used track may own = record {
  together = more_together lane is_bridge capacity used track.state may own.together;
  numbered = more_numbered lane is_bridge capacity used track.state own.numbered;
  index = record { at = λ id. own.index.at id ∙ ap indexed (sym (marks_more 1 id track.state.machines _ refl)) };
}

shared_last : (nodes : List NodeState) (node : NodeState) → map shared_of (nodes ++ node ∷ []) ≡ map shared_of nodes ++ shared_of node ∷ []
shared_last [] node = refl
shared_last (first ∷ nodes) node = ap (λ (ps : List SharedParts). shared_of first ∷ ps) (shared_last nodes node)

more_like : (lane other : ℕ) (is_bridge : Bool) (capacity used : ℕ) (s t : LineState) → IsLike s t → IsLike (one_more lane is_bridge capacity used s) (one_more other is_bridge capacity used t)
more_like lane other is_bridge capacity used s t like = record {
  shared = shared_last s.machines (new_node (profile_of lane is_bridge (length s.machines + 1) capacity used))
      ∙ ap (λ (ps : List SharedParts). ps ++ shared_of (new_node (profile_of lane is_bridge (length s.machines + 1) capacity used)) ∷ []) like.shared
      ∙ ap (λ (k : ℕ). map shared_of t.machines ++ record { maker = record { machine = k + 1; used = used }; supervised = false } ∷ []) (sym (like_wide s t like))
      ∙ sym (shared_last t.machines (new_node (profile_of other is_bridge (length t.machines + 1) capacity used)));
  lines = like.lines;
  unvouched = like.unvouched;
}

grown_owns : (lane : ℕ) (is_bridge : Bool) (capacity used : ℕ) (first : LineState) (ts : List Track) → may_add first ≡ may_do → AllByRecursion (IsLike first) (states_of ts) → AllByRecursion IsOwn ts → AllByRecursion IsOwn (grown lane is_bridge capacity used ts)
grown_owns lane is_bridge capacity used first [] may likes owns = tt
grown_owns lane is_bridge capacity used first (t ∷ ts) may likes owns = (
  more_own lane is_bridge capacity used t (may_alike first t.state likes.0 may) owns.0,
  grown_owns (lane + 1) is_bridge capacity used first ts may likes.1 owns.1,
)

grown_likes : (own lane : ℕ) (is_bridge : Bool) (capacity used : ℕ) (first : LineState) (ts : List Track) → AllByRecursion (IsLike first) (states_of ts) → AllByRecursion (IsLike (one_more own is_bridge capacity used first)) (states_of (grown lane is_bridge capacity used ts))
grown_likes own lane is_bridge capacity used first [] likes = tt
grown_likes own lane is_bridge capacity used first (t ∷ ts) likes = (more_like own lane is_bridge capacity used first t.state likes.0, grown_likes own (lane + 1) is_bridge capacity used first ts likes.1)

pub grown_wide : (lane : ℕ) (is_bridge : Bool) (capacity used : ℕ) (ts : List Track) → length (grown lane is_bridge capacity used ts) ≡ length ts
grown_wide lane is_bridge capacity used [] = refl
grown_wide lane is_bridge capacity used (t ∷ ts) = ap (λ (k : ℕ). suc k) (grown_wide (lane + 1) is_bridge capacity used ts)

pub added_kept : (is_bridge : Bool) (capacity used : ℕ) (first : Track) (others : List Track) → AreKept (first ∷ others) → may_add first.state ≡ may_do → AreKept (grow 1 is_bridge capacity used first ∷ grown 2 is_bridge capacity used others)
added_kept is_bridge capacity used first others kept may = record {
  few = subst (λ (k : ℕ). suc k ≤ 4) (sym (grown_wide 2 is_bridge capacity used others)) kept.few;
  each = (more_own 1 is_bridge capacity used first may kept.each.0, grown_owns 2 is_bridge capacity used first.state others may kept.alike kept.each.1);
  alike = grown_likes 1 2 is_bridge capacity used first.state others kept.alike;
}

-- ---- nothing is told of standings

grown_seats : (id own lane : ℕ) (is_bridge : Bool) (capacity used : ℕ) (ts : List Track) → seat_listed id own ts ≡ seat_listed id own (grown lane is_bridge capacity used ts)
grown_seats id own lane is_bridge capacity used [] = refl
grown_seats id own lane is_bridge capacity used (t ∷ ts) = ap (both (own_seat own (marks_listed t.index id))) (grown_seats id (own + 1) (lane + 1) is_bridge capacity used ts)

added_untold : (is_bridge : Bool) (capacity used : ℕ) (first : Track) (others : List Track) → AreKept (first ∷ others) → may_add first.state ≡ may_do
    → standings_on (lanes_of (first ∷ others)) (lanes_of (grow 1 is_bridge capacity used first ∷ grown 2 is_bridge capacity used others)) ≡ []
added_untold is_bridge capacity used first others kept may =
    let before : List Track = first ∷ others in
    let after : List Track = grow 1 is_bridge capacity used first ∷ grown 2 is_bridge capacity used others in
    let owns : AllByRecursion IsOwn after = (added_kept is_bridge capacity used first others kept may).each in
    standings_among [] before after kept.each owns
    (λ id none. sym (seats_listed id 1 before kept.each) ∙ ap (both (own_seat 1 (marks_listed first.index id))) (grown_seats id 2 2 is_bridge capacity used others) ∙ seats_listed id 1 after owns)

-- ---- the line

grown_states : (lane : ℕ) (is_bridge : Bool) (capacity used : ℕ) (ts : List Track) → states_of (grown lane is_bridge capacity used ts) ≡ more_on lane is_bridge capacity used (states_of ts)
grown_states lane is_bridge capacity used [] = refl
grown_states lane is_bridge capacity used (t ∷ ts) = ap (λ (ss : List LineState). one_more lane is_bridge capacity used t.state ∷ ss) (grown_states (lane + 1) is_bridge capacity used ts)

made_is : (is_bridge : Bool) (capacity : ℕ) (s : LineState) → on_lane 1 (made_told is_bridge (length s.machines + 1) capacity) ∷ [] ≡ told_on 1 (added_told is_bridge capacity s)
made_is true capacity s = refl
made_is false capacity s = refl

pub added_tells : (number lane : ℕ) (is_bridge : Bool) (capacity used : ℕ) (first : Track) (others : List Track) (old new : List LaneHappening) → AreKept (first ∷ others) → may_add first.state ≡ may_do
    → new ≡ old ++ on_lane 1 (made_told is_bridge (length first.state.machines + 1) capacity) ∷ []
    → TellsDone (RequestDoes number lane (adds 1 is_bridge capacity used)) (first ∷ others) (grow 1 is_bridge capacity used first ∷ grown 2 is_bridge capacity used others) old new
added_tells number lane is_bridge capacity used first others old new kept may is =
    let before : Lanes = lanes_of (first ∷ others) in
    let after : Lanes = lanes_of (grow 1 is_bridge capacity used first ∷ grown 2 is_bridge capacity used others) in
    let told : List LaneHappening = told_on 1 (added_told is_bridge capacity first.state) in
    record {
      done = told;
      does = unless_done (may_add first.state) before after told
          (Becomes (record before { tracks = more_on 1 is_bridge capacity used before.tracks }) told after told) may
          (record {
            after_is = ap (λ (ss : List LineState). record before { tracks = one_more 1 is_bridge capacity used first.state ∷ ss }) (grown_states 2 is_bridge capacity used others);
            told_is = refl;
          });
      now_is = is ∙ ap (λ (more : List LaneHappening). old ++ more)
          (made_is is_bridge capacity first.state ∙ sym (append-nil told)
          ∙ ap (λ (more : List LaneHappening). told ++ more) (sym (added_untold is_bridge capacity used first others kept may)));
    }

pub added_refused : (number lane : ℕ) (is_bridge : Bool) (capacity used : ℕ) (first : Track) (others : List Track) (reason : Reason) (old new : List LaneHappening) → AreKept (first ∷ others) → may_add first.state ≡ Err reason
    → new ≡ old ++ on_lane 1 (happenings.No reason) ∷ []
    → TellsDone (RequestDoes number lane (adds 1 is_bridge capacity used)) (first ∷ others) (first ∷ others) old new
added_refused number lane is_bridge capacity used first others reason old new kept may is =
    let before : Lanes = lanes_of (first ∷ others) in
    refused (RequestDoes number lane (adds 1 is_bridge capacity used)) (first ∷ others) (told_once (happenings.No reason)) old new kept
    (unless_not (may_add first.state) reason before
    (Becomes (record before { tracks = more_on 1 is_bridge capacity used before.tracks }) (told_on 1 (added_told is_bridge capacity first.state)) before (told_once (happenings.No reason))) may)
    is
