-- What a line of the script is to each lane.
use Rattle.std.proofs.Common.{◌≡◌, ◌≢◌, ◌∙◌, ◌≤◌, ◌++◌, ◌⊎◌, inl, inr, ℕ, zero, suc, Bool, true, false, List, [], ◌∷◌, Option, Some, None, Ok, Err, length, refl, sym, ap, subst, arith, leb-true, ltb-true}
use Rattle.std.specs.Prelude.{nat_le, nat_lt, not, slice_get}
use Rattle.std.specs.List.{AllByRecursion}
use Rattle.std.proofs.lemmas.Bool.{and_parts, or_from, or_parts}
use Rattle.node_core.specs.Node.{NodeState}
use Rattle.node_core.specs.declared.act.Act.{Act}
use Rattle.node_core.specs.declared.act.Act.TheVariants as acts
use Rattle.node_core.specs.declared.input.Input.TheVariants as inputs
use Rattle.node_core.specs.declared.input.No.TheVariants as nos
use Rattle.line_world.specs.declared.moves.MoveNo.TheVariants as moves
use Rattle.line_report.specs.Lanes.{told_on}
use Rattle.line_report.specs.declared.happening.Happening.{Happening}
use Rattle.line_report.specs.declared.happening.Happening.TheVariants as happenings
use Rattle.line_report.specs.declared.happening.LaneHappening.{LaneHappening}
use Rattle.line_report.specs.declared.happening.Reason.{Reason}
use Rattle.line_report.specs.declared.happening.Reason.TheVariants as reasons
use Rattle.line_step.specs.Lies.{is_lie, tells_lie}
use Rattle.line_step.specs.FloorIds.{made_by}
use Rattle.line_step.proofs.OnFloor.{made-join}
use Rattle.line_step.specs.Lines.{Becomes, LineDoes, LineSteps, Unless, first_of, lied, unseen}
use Rattle.step_rules.specs.Makers.{IsOld}
use Rattle.line_step.specs.Reasons.{May, has_link, if_there, may_do, may_lie, may_unseen, no_if}
use Rattle.line_step.specs.Requests.{Request, added_told, request_of}
use Rattle.line_step.specs.Requests as requests
use Rattle.line_step.specs.Shown.{standings_told}
use Rattle.line_step.specs.State.{LineState, machine_in}
use Rattle.line_step.specs.Tracks.{ComesFromElsewhere, TrackLine, other_line, own_line}
use Rattle.line_step.proofs.FloorLaws.{Holds, steps-goes}
use Rattle.line_step.proofs.Keeps.{lines_stay}
use Rattle.line_step.proofs.Shifted.{AreAskedFor, AsksFor, IsAskedFor, asks_to_get, asks_to_give, does_asked}
use Rattle.line_step.proofs.Vouching.{steps-honest, unvouched-before}
use Rattle.law_one_standing.specs.Standing.{IsFitRequest, IsFitTrack}
use Rattle.law_lanes.specs.Along.{all_done, told_for}
use Rattle.law_lanes.specs.Lanes.{Lanes, has_lane, track, unvouched_of, with_track}
use Rattle.law_lanes.specs.Reasons.{and_may, first_track, is_named, may_on}
use Rattle.law_lanes.specs.Steps as steps
use Rattle.law_lanes.specs.Steps.{OnTrack, told_once}
use Rattle.law_lanes.specs.Views.{tells_lie_on}
use Rattle.law_lanes.proofs.Floors.{comes_new, front_all}
use Rattle.law_lanes.proofs.Growing.{IsNoAdding, does_grow}
use Rattle.law_lanes.proofs.Sharing.{IsLeft, left_itself, old_alike, shared_many}
use Rattle.law_lanes.proofs.Telling.{AreNoDeeds, AreUnmoved, IsUnmoved, came, for_other, for_own, lie_on, no_deed_lies, none_for, same_came}
use Rattle.law_lanes.proofs.Together.{IsDone, IsThere, IsTogether, first_there, other_left, own_put, put_many, together_put, two_alike, unvouched_are}

pub same_or_not : (a b : ℕ) → (a ≡ b) ⊎ (a ≢ b)
same_or_not zero zero = inl refl
same_or_not zero (suc b) = inr (λ (same : zero ≡ suc b). let never : ⊥ = omega (arith, same) in never)
same_or_not (suc a) zero = inr (λ (same : suc a ≡ zero). let never : ⊥ = omega (arith, same) in never)
same_or_not (suc a) (suc b) = elim (same_or_not a b) [
  | inl same ↦ inl (ap suc same)
  | inr apart ↦ inr (λ (same : suc a ≡ suc b). apart (omega (arith, same)))
]

-- ---- what a lane sees of a line

abbrev pub Sees : ℕ → TrackLine → LineState → LineState → List Happening → Type 0
Sees number (own_line request) before next told =
    LineDoes number request before next told × ComesFromElsewhere request before
Sees number other_line before next told = IsLeft before next × (told ≡ [])

-- no board comes from another lane
abbrev pub IsPlainLine : TrackLine → Type 0
IsPlainLine (own_line (requests.gives machine (inputs.Gets board))) = ⊥
IsPlainLine _ = Unit {0}

pub record SeesLine (number lane : ℕ) (before next : Lanes) (done : List LaneHappening) : Type 0 where
  pub line : TrackLine
  pub told : List Happening
  pub sees : Sees number line (track lane before) (track lane next) told
  pub same : all_done told ≡ all_done (told_for lane done)

pub record SeesPlainly (number lane : ℕ) (before next : Lanes) (done : List LaneHappening) : Type 0 where
  pub line : TrackLine
  pub told : List Happening
  pub sees : Sees number line (track lane before) (track lane next) told
  pub same : all_done told ≡ all_done (told_for lane done)
  pub plain : IsPlainLine line
  pub fit : IsFitTrack line

-- where boards come to one lane at most, and there none that was made before
pub record IsPlainly (number : ℕ) (before next : Lanes) (done : List LaneHappening) : Type 0 where
  pub active : ℕ
  pub each : (lane : ℕ) → 1 ≤ lane → SeesPlainly number lane before next done
  pub others : (lane id : ℕ) → 1 ≤ lane → lane ≢ active → came id (told_for lane done) ≡ 0
  pub new : (id lane : ℕ) → IsThere lane before → IsOld 1 (track lane before).machines id
      → came id (told_for active done) ≡ 0
  pub counts : 1 ≤ active

-- nobody vouches behind a lie
abbrev pub Vouches : Lanes → Lanes → List LaneHappening → Type 0
Vouches before next done =
    unvouched_of next ≡ None → (unvouched_of before ≡ None) × (tells_lie_on done ≡ false)

-- ---- a lane that sees nothing

pub sees_other : (number lane : ℕ) (before next : Lanes) (done : List LaneHappening)
    → IsLeft (track lane before) (track lane next) → all_done (told_for lane done) ≡ []
    → SeesPlainly number lane before next done
sees_other number lane before next done left none =
    record {
      line = other_line;
      told = [];
      sees = (left, refl);
      same = sym none;
      plain = tt;
      fit = tt;
    }

pub none_came : (id : ℕ) (told : List Happening) → all_done told ≡ [] → came id told ≡ 0
none_came id told none = same_came id told [] none

-- a line of which no machine's deed is told, and each lane is as it was but for what is shared
pub quietly : (number : ℕ) (before next : Lanes) (done : List LaneHappening) → AreNoDeeds done
    → ((lane : ℕ) → 1 ≤ lane → IsLeft (track lane before) (track lane next))
    → IsPlainly number before next done
quietly number before next done none left =
    record {
      active = 1;
      each = λ lane some. sees_other number lane before next done (left lane some)
          (none_for lane done none);
      others = λ lane id some apart. none_came id (told_for lane done) (none_for lane done none);
      new = λ id lane there old. none_came id (told_for 1 done) (none_for 1 done none);
      counts = omega arith;
    }

pub record Seen (number : ℕ) (before next : Lanes) (done : List LaneHappening) : Type 0 where
  pub plainly : IsPlainly number before next done
  pub together : IsTogether next
  pub vouches : Vouches before next done

still : (number : ℕ) (before : Lanes) (done : List LaneHappening) → IsTogether before
    → AreNoDeeds done → Seen number before before done
still number before done is none =
    record {
      plainly = quietly number before before done none
          (λ lane some. left_itself (track lane before));
      together = is;
      vouches = λ vouched. (vouched, no_deed_lies done none);
    }

pub becomes_still : (number : ℕ) (before next : Lanes) (what done : List LaneHappening)
    → IsTogether before → AreNoDeeds what → steps.Becomes before what next done
    → Seen number before next done
becomes_still number before next what done is none b =
    subst (λ (n : Lanes). Seen number before n done) (sym b.after_is)
    (subst (λ (t : List LaneHappening). Seen number before before t) (sym b.told_is)
    (still number before what is none))

-- ---- what may be done on a lane

-- a line of one lane
abbrev pub IsOfLane : Request → Type 0
IsOfLane requests.nothing = ⊥
IsOfLane requests.shows = ⊥
IsOfLane (requests.adds lane is_bridge capacity used) = ⊥
IsOfLane (requests.stops machine) = ⊥
IsOfLane _ = Unit {0}

-- no board is moved between lanes
abbrev pub IsNoShift : Request → Type 0
IsNoShift (requests.gives machine (inputs.Gives id to)) = ⊥
IsNoShift (requests.gives machine (inputs.Gets board)) = ⊥
IsNoShift _ = Unit {0}

found_some : (nodes : List NodeState) (place : ℕ) (may : NodeState → May)
    → if_there (slice_get nodes place) may ≡ may_do → 1 ≤ length nodes
found_some [] place may is = cc
found_some (node ∷ nodes) place may is = omega arith

pub there_some : (machine : ℕ) (s : LineState) (may : NodeState → May)
    → if_there (machine_in machine s) may ≡ may_do → 1 ≤ length s.machines
there_some zero s may is = cc
there_some (suc place) s may is = found_some s.machines place may is

pub not_refused : (test : Bool) (reason : Reason) (next : May) → no_if (not test) reason next ≡ may_do
    → test ≡ true
not_refused true reason next is = refl
not_refused false reason next is = cc

link_some : (gap : ℕ) (s : LineState) → has_link gap s ≡ true → 1 ≤ length s.machines
link_some gap s has =
    let parts = and_parts (nat_le 1 gap) (nat_lt gap (length s.machines)) has in
    let less = ltb-true gap (length s.machines) parts.1 in
    omega (arith, less)

pub named_some : (request : Request) (s : LineState) → IsOfLane request → is_named request s ≡ may_do
    → 1 ≤ length s.machines
named_some (requests.gives machine input) s own is = there_some machine s (λ node. may_do) is
named_some (requests.connects machine) s own is = there_some machine s (λ node. may_do) is
named_some (requests.flows machine side count) s own is = there_some machine s (λ node. may_do) is
named_some (requests.spoils machine side) s own is = there_some machine s (λ node. may_do) is
named_some (requests.lies machine sensed) s own is = there_some machine s (λ node. may_do) is
named_some (requests.unsees machine side) s own is = there_some machine s (λ node. may_do) is
named_some (requests.cuts gap) s own is =
    link_some gap s (not_refused (has_link gap s) (reasons.Move moves.NoGap) may_do is)
named_some (requests.moves_on gap step) s own is =
    link_some gap s (not_refused (has_link gap s) (reasons.Move moves.NoGap) may_do is)
named_some requests.nothing s own is = absurd own
named_some requests.shows s own is = absurd own
named_some (requests.adds lane is_bridge capacity used) s own is = absurd own
named_some (requests.stops machine) s own is = absurd own

pub both_may : (one next : May) → and_may one next ≡ may_do → (one ≡ may_do) × (next ≡ may_do)
both_may (Ok _) next is = (refl, is)
both_may (Err why) next is = cc

pub lane_there : (lane : ℕ) (s : Lanes) → has_lane lane s ≡ true → IsThere lane s
lane_there lane s has =
    let parts = and_parts (nat_lt 0 lane) (nat_le lane (length s.tracks)) has in
    (omega (arith, ltb-true 0 lane parts.0), leb-true lane (length s.tracks) parts.1)

pub record MayOn (lane : ℕ) (request : Request) (s : Lanes) : Type 0 where
  pub there : IsThere lane s
  pub named : is_named request (first_track s) ≡ may_do

pub may_on_is : (lane : ℕ) (request : Request) (s : Lanes) → may_on lane request s ≡ may_do
    → MayOn lane request s
may_on_is lane request s may =
    let both = both_may (is_named request (first_track s)) _ may in
    record {
      there = lane_there lane s
          (not_refused (has_lane lane s) (reasons.Node nos.NoLane) may_do both.1);
      named = both.0;
    }

-- ---- a step on one track

pub of_lane : (request : Request) → IsOfLane request → IsNoAdding request
of_lane requests.nothing own = tt
of_lane requests.shows own = tt
of_lane (requests.adds lane is_bridge capacity used) own = own
of_lane _ own = tt

none_asks : {request : Request} {machine : ℕ} {act : Act} → IsNoShift request
    → AsksFor request machine act → ⊥
none_asks never asks_to_give = never
none_asks never asks_to_get = never

unmoved_one : (request : Request) (h : Happening) → IsNoShift request → IsAskedFor request h
    → IsUnmoved h
unmoved_one request (happenings.Done machine (acts.Gives id to)) never asks = none_asks never asks
unmoved_one request (happenings.Done machine (acts.Gets id)) never asks = none_asks never asks
unmoved_one request h never asks = tt

unmoved_all : (request : Request) (told : List Happening) → IsNoShift request
    → AreAskedFor request told → AreUnmoved told
unmoved_all request [] never asks = tt
unmoved_all request (h ∷ told) never asks =
    (unmoved_one request h never asks.0, unmoved_all request told never asks.1)

pub does_unmoved : (number : ℕ) (request : Request) (before after : LineState)
    (told : List Happening) → IsNoShift request → LineDoes number request before after told
    → AreUnmoved told
does_unmoved number request before after told never does =
    unmoved_all request told never (does_asked number request before after told does)

-- as a line step that is not counted
pub as_steps : (number : ℕ) (request : Request) (before after : LineState) (told : List Happening)
    → LineDoes number request before after told
    → LineSteps number request before after (told ++ standings_told before after)
as_steps number request before after told does =
    record {
      next = after;
      done = told;
      does = does;
      lines = after.lines;
      counts = record { least = omega arith; most = omega arith };
      after_is = refl;
      told_is = refl;
    }

pub lie_front : (front back : List Happening) → tells_lie (front ++ back) ≡ false
    → tells_lie front ≡ false
lie_front [] back none = refl
lie_front (h ∷ front) back none =
    let parts = or_parts (is_lie h) (tells_lie (front ++ back)) none in
    or_from (is_lie h) (tells_lie front) parts.0 (lie_front front back parts.1)

-- a lie leaves nobody who vouches
some_lie : (number : ℕ) (unvouched : Option ℕ) → first_of number unvouched ≡ None → ⊥
some_lie number None is = cc
some_lie number (Some line) is = cc

lie_vouches : (may : May) (before after next : LineState) (what told : List Happening)
    → (next.unvouched ≡ None → ⊥)
    → Unless may before after told (Becomes next what after told) → after.unvouched ≡ None
    → tells_lie told ≡ false
lie_vouches (Err why) before after next what told never does none = ap tells_lie does.told_is
lie_vouches (Ok _) before after next what told never does none =
    absurd (never (sym (ap (λ (s : LineState). s.unvouched) does.after_is) ∙ none))

does_honest : (number : ℕ) (request : Request) (before after : LineState) (told : List Happening)
    → LineDoes number request before after told → after.unvouched ≡ None → tells_lie told ≡ false
does_honest number (requests.lies machine sensed) before after told does none =
    lie_vouches (may_lie machine sensed.side before) before after
    (lied number machine sensed before) _ told (some_lie number before.unvouched) does none
does_honest number (requests.unsees machine side) before after told does none =
    lie_vouches (may_unseen machine side before) before after
    (unseen number machine side before) _ told (some_lie number before.unvouched) does none
does_honest number request before after told does none =
    lie_front told (standings_told before after)
    (steps-honest number request before after (told ++ standings_told before after) tt
    (as_steps number request before after told does))

pub is_done_of : (number : ℕ) (request : Request) (before after : LineState)
    (told : List Happening) → IsNoAdding request → 1 ≤ length before.machines
    → LineDoes number request before after told → IsDone before after
is_done_of number request before after told plain some does =
    record {
      grown = does_grow number request before after told plain does;
      lines = lines_stay number request before after told does;
      vouched = λ none.
          unvouched-before number request before after (told ++ standings_told before after)
          (as_steps number request before after told does) none;
      stands = some;
    }

pub from_nowhere : (request : Request) (s : LineState) → IsNoShift request
    → ComesFromElsewhere request s
from_nowhere (requests.gives machine (inputs.Gets board)) s never = absurd never
from_nowhere _ s never = tt

plain_line : (request : Request) → IsNoShift request → IsPlainLine (own_line request)
plain_line (requests.gives machine (inputs.Gets board)) never = never
plain_line _ never = tt

each_weaker : {A : Type 0} (P Q : A → Type 0) (all : List A) → ((x : A) → P x → Q x)
    → AllByRecursion P all → AllByRecursion Q all
each_weaker P Q [] weaker every = tt
each_weaker P Q (x ∷ xs) weaker every = (weaker x every.0, each_weaker P Q xs weaker every.1)

-- an id that was made before doesn't come
pub old_stays : (number : ℕ) (request : Request) (before after : LineState) (told : List Happening)
    (id : ℕ) → IsNoShift request → Holds before → LineDoes number request before after told
    → IsOld 1 before.machines id → came id told ≡ 0
old_stays number request before after told id never holds does old =
    let standings = standings_told before after in
    let goes = steps-goes number request before after (told ++ standings) holds
    (from_nowhere request before never) (as_steps number request before after told does) in
    let all = each_weaker (λ (new : ℕ). (other : ℕ) → IsOld 1 before.machines other → other ≢ new)
    (λ (new : ℕ). id ≢ new) (made_by (told ++ standings)) (λ new apart. apart id old) goes.fresh in
    comes_new id told (does_unmoved number request before after told never does)
    (front_made told standings (λ (new : ℕ). id ≢ new) all)
  where
    front_made : (front back : List Happening) (P : ℕ → Type 0)
        → AllByRecursion P (made_by (front ++ back)) → AllByRecursion P (made_by front)
    front_made front back P all =
        (front_all P (made_by front) (made_by back)
        (subst (λ (ids : List ℕ). AllByRecursion P ids) (made-join front back) all)).0

on_track_seen : (number lane : ℕ) (request : Request) (before : Lanes) (now : LineState)
    (told : List Happening) → IsTogether before → ((l : ℕ) → 1 ≤ l → Holds (track l before))
    → IsOfLane request → IsNoShift request → IsFitRequest request → MayOn lane request before
    → LineDoes number request (track lane before) now told
    → Seen number before (with_track lane now before) (told_on lane told)
on_track_seen number lane request before now told is holds own never fit may does =
    let here = may.there in
    let next = with_track lane now before in
    let like = two_alike before 1 lane is (first_there before is.some) here in
    let stands : 1 ≤ length (track lane before).machines =
    omega (
      arith,
      named_some request (track 1 before) own may.named,
      shared_many (track 1 before).machines (track lane before).machines like.machines,
    ) in
    let did = is_done_of number request (track lane before) now told (of_lane request own) stands
    does in
    let calm = does_unmoved number request (track lane before) now told never does in
    let behind = together_put lane now before is here did in
    let other : (l : ℕ) → l ≢ lane → told_for l (told_on lane told) ≡ [] =
    λ l apart. for_other lane l told (λ (same : lane ≡ l). apart (sym same)) calm in
    record {
      plainly = record {
        active = lane;
        each = λ l some. each_lane l some (same_or_not l lane) other did;
        others = λ l id some apart. ap (λ (t : List Happening). came id t) (other l apart);
        new = λ id l there old.
            ap (λ (t : List Happening). came id t) (for_own lane told calm)
            ∙ old_stays number request (track lane before) now told id never (holds lane here.0) does
            (old_alike (track l before) (track lane before) id (two_alike before l lane is there here)
            old);
        counts = here.0;
      };
      together = behind;
      vouches = λ none.
          let own_none : now.unvouched ≡ None =
          sym (ap (λ (t : LineState). t.unvouched) (own_put lane now before here))
          ∙ unvouched_are next lane behind (here.0, omega (arith, here.1, put_many lane now before))
          ∙ none in (
            sym (unvouched_are before lane is here) ∙ did.vouched own_none,
            lie_on lane told ∙ does_honest number request (track lane before) now told does own_none,
          );
    } where
      each_lane : (l : ℕ) → 1 ≤ l → (l ≡ lane) ⊎ (l ≢ lane)
          → ((l : ℕ) → l ≢ lane → told_for l (told_on lane told) ≡ [])
          → IsDone (track lane before) now
          → SeesPlainly number l before (with_track lane now before) (told_on lane told)
      each_lane l some (inl same) other did =
          subst (λ (k : ℕ). SeesPlainly number k before (with_track lane now before) (told_on lane told))
          (sym same)
          (record {
            line = own_line request;
            told = told;
            sees = (
              subst (λ (t : LineState). LineDoes number request (track lane before) t told)
                  (sym (own_put lane now before may.there)) does,
              from_nowhere request (track lane before) never,
            );
            same = ap all_done (sym (for_own lane told
                (does_unmoved number request (track lane before) now told never does)));
            plain = plain_line request never;
            fit = fit;
          })
      each_lane l some (inr apart) other did =
          sees_other number l before (with_track lane now before) (told_on lane told)
          (other_left lane l now before is may.there some apart did) (ap all_done (other l apart))

-- THE LINE of one lane
pub lane_seen : (number lane : ℕ) (request : Request) (before next : Lanes)
    (done : List LaneHappening) → IsTogether before → ((l : ℕ) → 1 ≤ l → Holds (track l before))
    → IsOfLane request → IsNoShift request → IsFitRequest request
    → steps.Unless (may_on lane request before) before next done
    (OnTrack lane (LineDoes number request) before next done)
    → Seen number before next done
lane_seen number lane request before next done is holds own never fit does =
    by (may_on lane request before) refl does where
      by : (may : May) → may_on lane request before ≡ may
          → steps.Unless may before next done
          (OnTrack lane (LineDoes number request) before next done)
          → Seen number before next done
      by (Err why) may b =
          becomes_still number before next (told_once (happenings.No why)) done is (refl, tt) b
      by (Ok _) may on =
          subst (λ (n : Lanes). Seen number before n done) (sym on.after_is)
          (subst (λ (t : List LaneHappening). Seen number before (with_track lane on.next before) t)
          (sym on.told_is)
          (on_track_seen number lane request before on.next on.done is holds own never fit
          (may_on_is lane request before may) on.does))
