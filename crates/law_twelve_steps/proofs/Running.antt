-- The stage along an undisturbed stretch.
use Rattle.std.proofs.Common.{Bool, List, Some, [], ap, arith, false, length, refl, subst, sym, true, ℕ, ◌&&◌, ◌++◌, ◌+◌, ◌∙◌, ◌∷◌, ◌≡◌, ◌≤◌, ◌||◌, if◌then◌else◌}
use Rattle.std.specs.Prelude.{nat_le, nat_lt, not}
use Rattle.std.specs.List.{AllByRecursion}
use Rattle.std.proofs.lemmas.Bool.{or_parts, and_from}
use Rattle.board_record.specs.declared.record.Record.{Record}
use Rattle.handover_out.specs.State.{is_idle_phase}
use Rattle.handover_in.specs.State.{board_of_phase}
use Rattle.handover_in.specs.declared.phase.Phase.{Phase as In}
use Rattle.line_report.specs.declared.happening.Happening.{Happening}
use Rattle.node_core.specs.declared.lane.Lane.{Lane}
use Rattle.line_step.specs.Tracks.{IsBeside, IsBesideNode, TrackLine, TrackSteps, asked_on, other_line, own_line}
use Rattle.line_step.specs.World.{WorldParts, link_at}
use Rattle.line_step.proofs.Beside.{beside-length, beside-node}
use Rattle.line_step.specs.Lies.{has_lie, tells_lie}
use Rattle.line_step.specs.Lines.{LineSteps}
use Rattle.line_step.specs.Numbered.{node_at}
use Rattle.line_step.specs.Runs.{IsRun, Point, IsShort}
use Rattle.line_step.specs.Shown.{standings_told}
use Rattle.line_step.specs.State.{LineState}
use Rattle.line_step.specs.Requests.{Request}
use Rattle.line_step.proofs.Keeps.{lines_stay}
use Rattle.law_one_standing.specs.Standing.{IsFitTrack}
use Rattle.law_one_standing.proofs.Carrying.{SaysAlone}
use Rattle.law_one_standing.proofs.LineForms.{ConnectsBear}
use Rattle.law_one_standing.proofs.LineRun.{Stood, StoodBy, track_stood}
use Rattle.line_step.specs.Homes.{AreNewcomers}
use Rattle.law_one_standing.proofs.RestMore.{counted_stands}
use Rattle.law_twelve_steps.specs.Twelve.{CanGoOnToEnd, HoldsIt, HoldsItToEnd, Unless, has_ended, one_if, steps_to_end, tells_settled}
use Rattle.law_twelve_steps.specs.Undisturbed.{AreUndisturbed, CanGoOn, IsUndisturbed, is_link_step, is_of_link, more, tells_no}
use Rattle.law_twelve_steps.proofs.Beyond.{Untouched, stage_untouched}
use Rattle.law_twelve_steps.proofs.EachLine.{each_line}
use Rattle.law_twelve_steps.proofs.Flowing.{Outcome, comes_to_end, goes_forth, outcome_less}
use Rattle.law_twelve_steps.proofs.Going.{Stage}
use Rattle.law_twelve_steps.proofs.Lines.{Goes, Had, no_append, outcome_later, settled_append}
use Rattle.law_twelve_steps.proofs.Lower.{IsLower, Lower, asked, phase_of, readies, settled, stopped, takes}
use Rattle.law_twelve_steps.proofs.Texts.{Carrying}
use Rattle.law_twelve_steps.proofs.Upper.{IsUpper}
use Rattle.law_twelve_steps.proofs.Possible.{can_go_on}

-- ---- a line, counted and with the standings that it changed

-- the state before its lines are counted
uncounted : (next : LineState) (n : ℕ) → next.lines ≤ 1000000 → Stood (record next { lines = n }) → Stood next
uncounted next n few stood = record {
  trace = stood.trace;
  stands = counted_stands stood.trace (record next { lines = n }) next.lines few stood.stands;
  waits = λ machine. stood.waits machine;
}

count_untouched : (k : ℕ) (next : LineState) (n : ℕ) → Untouched k next (record next { lines = n })
count_untouched k next n = record { above = refl; below = refl; up_seen = refl; down_seen = refl; between = refl; linked = λ is. is }

or_more : (told one two : Bool) → (one ≡ true → two ≡ true) → (told || one) ≡ true → (told || two) ≡ true
or_more true one two passes is = refl
or_more false one two passes is = passes is

fewer_step : (of one two : Bool) → (one ≡ true → two ≡ true) → one_if (of && not two) ≤ one_if (of && not one)
fewer_step false one two passes = omega arith
fewer_step true false true passes = omega arith
fewer_step true false false passes = omega arith
fewer_step true true true passes = omega arith
fewer_step true true false passes = absurd (let no : false ≡ true = passes refl in cc)

counted_outcome : {k : ℕ} {id : Record} {left spare : ℕ} {told : Bool} (next : LineState) (n : ℕ) → Outcome k id left spare told next → Outcome k id left spare told (record next { lines = n })
counted_outcome {k = k} next n (goes_forth f) = goes_forth (record { now = f.now; fewer = f.fewer; stage = stage_untouched (count_untouched k next n) (λ is. is) f.stage })
counted_outcome next n (comes_to_end e) = comes_to_end (record { fewer = e.fewer; told_is = e.told_is; idle = e.idle })

pub one_line : {k : ℕ} {id : Record} {left : ℕ} {told : Bool} {s after : LineState} {what : List Happening} → SaysAlone → (request : Request) → IsUndisturbed k request → s.lines + 1 ≤ 1000000 → Stage k id left told s → Stood s → Stood after → LineSteps (s.lines + 1) request s after what
    → Outcome k id left (one_if (is_link_step k s request what)) (told || tells_settled k id.id what) after
one_line {k = k} {id = id} {left = left} {told = told} {s = s} {after = after} {what = what} alone request calm few st stood after_stood steps =
    let next : LineState = steps.next in
    let lines_same : next.lines ≡ s.lines = lines_stay (s.lines + 1) request s next steps.done steps.does in
    let counted : Stood (record next { lines = steps.lines }) = subst (λ (x : LineState). Stood x) steps.after_is after_stood in
    let h : Had k id left (s.lines + 1) told s next = record { alone = alone; few = few; st = st; stood = stood; next_stood = uncounted next steps.lines (omega (arith, lines_same, few)) counted } in
    let goes : Goes k id left told s request next steps.done = each_line request calm h steps.does in
    let first = outcome_later (or_more told (tells_settled k id.id steps.done) (tells_settled k id.id what) (λ is. ap (λ (hs : List Happening). tells_settled k id.id hs) steps.told_is ∙ settled_append k id.id steps.done (standings_told s next) is)) goes.out in
    let less = outcome_less (one_if (is_link_step k s request what)) (fewer_step (is_of_link k s request) (tells_no steps.done) (tells_no what) (λ is. ap (λ (hs : List Happening). tells_no hs) steps.told_is ∙ no_append steps.done (standings_told s next) is)) first in
    subst (λ (x : LineState). Outcome k id left (one_if (is_link_step k s request what)) (told || tells_settled k id.id what) x) (sym steps.after_is) (counted_outcome next steps.lines less)

-- what was told stays told
told_still : (told now : Bool) → told ≡ true → (told || now) ≡ true
told_still true now is = refl
told_still false now is = absurd (let no : false ≡ true = is in cc)

-- a line of another track leaves the stage
abbrev aside : LineState → LineState → LineState
aside s next = record next { world = s.world }

stage_still : {k : ℕ} {id : Record} {left : ℕ} {told told_now : Bool} {s : LineState} (next : LineState) → IsBeside s (aside s next) → (told ≡ true → told_now ≡ true) → Stage k id left told s → Stage k id left told_now (aside s next)
stage_still {k = k} {s = s} next beside later st =
    let now : LineState = aside s next in
    let above : IsBesideNode (node_at s k) (node_at now k) = beside-node s now k beside in
    let below : IsBesideNode (node_at s (k + 1)) (node_at now (k + 1)) = beside-node s now (k + 1) beside in
    record {
      a = st.a;
      b = st.b;
      named = st.named;
      taken = st.taken;
      same = st.same;
      short = st.short;
      w = st.w;
      u = st.u;
      l = st.l;
      up_seen = st.up_seen;
      down_seen = st.down_seen;
      up = st.up;
      down = st.down;
      linked = ap (λ (n : ℕ). nat_le 1 k && nat_lt k n) (beside-length s.machines now.machines beside.machines) ∙ st.linked;
      upper = subst (λ (lane : Lane). IsUpper st.a st.u lane.body) (sym above.lane) st.upper;
      lower = subst (λ (n : ℕ). IsLower n st.b st.l (node_at now (k + 1)).lane.body) (sym below.capacity) (subst (λ (lane : Lane). IsLower (node_at s (k + 1)).capacity st.b st.l lane.body) (sym below.lane) st.lower);
      up_unread = st.up_unread;
      down_unread = st.down_unread;
      link = subst (λ (lane : Lane). Carrying lane.exit_bytes (node_at now (k + 1)).lane.entry_bytes (link_at k s.world) st.up st.down) (sym above.lane)
          (subst (λ (lane : Lane). Carrying (node_at s k).lane.exit_bytes lane.entry_bytes (link_at k s.world) st.up st.down) (sym below.lane) st.link);
      gap = st.gap;
      joint = st.joint;
      few = st.few;
      settles = λ is. later (st.settles is);
    }

stage_beside : {k : ℕ} {id : Record} {left : ℕ} {told told_now : Bool} {s next : LineState} → IsBeside s next → (told ≡ true → told_now ≡ true) → Stage k id left told s → Stage k id left told_now next
stage_beside {k = k} {id = id} {left = left} {told_now = told_now} {s = s} {next = next} beside later st =
    let still : IsBeside s (aside s next) = record { machines = beside.machines; world = refl; counts = beside.counts; vouched = beside.vouched } in
    subst (λ (w : WorldParts). Stage k id left told_now (record next { world = w })) (sym beside.world) (stage_still next still later st)

pub track_line : {k : ℕ} {id : Record} {left : ℕ} {told : Bool} {s after : LineState} → SaysAlone → (what : List Happening) (line : TrackLine) → IsUndisturbed k (asked_on line) → s.lines + 1 ≤ 1000000 → Stage k id left told s → Stood s → Stood after → TrackSteps (s.lines + 1) line s after what
    → Outcome k id left (one_if (is_link_step k s (asked_on line) what)) (told || tells_settled k id.id what) after
track_line alone what (own_line request) calm few st stood after_stood steps = one_line alone request calm few st stood after_stood steps.0
track_line {k = k} {id = id} {left = left} {told = told} alone what other_line calm few st stood after_stood steps =
    goes_forth (record { now = left; fewer = omega arith; stage = stage_beside steps.0 (told_still told (tells_settled k id.id what)) st })

-- ---- the stretch

-- the steps of one line, and of those behind it unless it was the last
total : (over : Bool) (one rest now left : ℕ) → (over ≡ false → rest ≤ now) → now + one ≤ left → one + (if over then 0 else rest) ≤ left
total true one rest now left later few = omega (arith, few)
total false one rest now left later few =
    let behind = later refl in
    omega (arith, few, behind)

all_of : (over : Bool) (Later : Type 0) → (over ≡ false → Later) → Unless over Later
all_of true Later later = tt
all_of false Later later = later refl

-- what the intake holds is that board's record
held_by : (r b : Record) (l : Lower) → board_of_phase (phase_of b l) ≡ Some r → r ≡ b
held_by r b (takes begun heard) is = cc
held_by r b stopped is = cc
held_by r b readies is = absurd (cc)
held_by r b asked is = absurd (cc)
held_by r b (settled again) is = absurd (cc)

holds_it : {k : ℕ} {id : Record} {left : ℕ} {told : Bool} {s : LineState} → Stage k id left told s → HoldsIt k id s
holds_it st = λ r is. held_by r st.b st.l (sym (ap (λ (p : In). board_of_phase p) st.lower.phase) ∙ is) ∙ st.taken

-- so many link steps at most, and one can be done until the end; and what the intake holds until then is that record
pub record Ends (most k : ℕ) (id : Record) (told : Bool) (s : LineState) (lines : List TrackLine) (points : List Point) : Type 0 where
  pub few : steps_to_end k id.id told s lines points ≤ most
  pub possible : CanGoOnToEnd k id.id told s points
  pub holds : HoldsItToEnd k id told s points

by_outcome : {k : ℕ} {id : Record} {left : ℕ} {told : Bool} {s : LineState} (line : TrackLine) (lines : List TrackLine) (point : Point) (points : List Point) → CanGoOn k s → HoldsIt k id s → Outcome k id left (one_if (is_link_step k s (asked_on line) point.told)) (told || tells_settled k id.id point.told) point.after
    → ((now : ℕ) → Stage k id now (told || tells_settled k id.id point.told) point.after → Ends now k id (told || tells_settled k id.id point.told) point.after lines points) → Ends left k id told s (line ∷ lines) (point ∷ points)
by_outcome {k = k} {id = id} {left = left} {told = told} {s = s} line lines point points can holds (goes_forth f) later =
    let told_now = told || tells_settled k id.id point.told in
    let over = has_ended k told_now point.after in
    let rest = later f.now f.stage in
    record {
      few = total over (one_if (is_link_step k s (asked_on line) point.told)) (steps_to_end k id.id told_now point.after lines points) f.now left (λ _. rest.few) f.fewer;
      possible = (can, all_of over (CanGoOnToEnd k id.id told_now point.after points) (λ _. rest.possible));
      holds = (holds, all_of over (HoldsItToEnd k id told_now point.after points) (λ _. rest.holds));
    }
by_outcome {k = k} {id = id} {left = left} {told = told} {s = s} line lines point points can holds (comes_to_end e) later =
    let told_now = told || tells_settled k id.id point.told in
    let over : has_ended k told_now point.after ≡ true = and_from told_now (is_idle_phase (node_at point.after k).lane.body.outlet.phase) e.told_is e.idle in
    let fewer = e.fewer in
    record {
      few = total (has_ended k told_now point.after) (one_if (is_link_step k s (asked_on line) point.told)) (steps_to_end k id.id told_now point.after lines points) 0 left (λ off. absurd (let no : true ≡ false = sym over ∙ off in cc)) (omega (arith, fewer));
      possible = (can, all_of (has_ended k told_now point.after) (CanGoOnToEnd k id.id told_now point.after points) (λ off. absurd (let no : true ≡ false = sym over ∙ off in cc)));
      holds = (holds, all_of (has_ended k told_now point.after) (HoldsItToEnd k id told_now point.after points) (λ off. absurd (let no : true ≡ false = sym over ∙ off in cc)));
    }

pub run_ends : {k : ℕ} {id : Record} → SaysAlone → ConnectsBear → (past : List Happening) (lines : List TrackLine) (points : List Point) (left : ℕ) (told : Bool) (s : LineState) → Stage k id left told s → StoodBy past s → AllByRecursion IsFitTrack lines → IsShort s points → IsRun s lines points → AreUndisturbed k lines → has_lie points ≡ false → AreNewcomers past lines points → Ends left k id told s lines points
run_ends alone connects past [] [] left told s st stood fit few run calm honest new = record { few = omega arith; possible = can_go_on st stood.stood; holds = holds_it st }
run_ends alone connects past [] (point ∷ points) left told s st stood fit few run calm honest new = absurd run
run_ends alone connects past (line ∷ lines) [] left told s st stood fit few run calm honest new = absurd run
run_ends {k = k} {id = id} alone connects past (line ∷ lines) (point ∷ points) left told s st stood fit few run (more one others) honest new =
    let here : s.lines + 1 ≤ 1000000 = few.0 in
    let first : tells_lie point.told ≡ false = (or_parts (tells_lie point.told) (has_lie points) honest).0 in
    let after : StoodBy (past ++ point.told) point.after = track_stood alone connects (s.lines + 1) past line s point.after point.told refl here fit.0 new.0 first stood run.0 in
    let behind : IsShort point.after points = few.1 in
    by_outcome line lines point points (can_go_on st stood.stood) (holds_it st) (track_line alone point.told line one here st stood.stood after.stood run.0)
    (λ now stage. run_ends alone connects (past ++ point.told) lines points now (told || tells_settled k id.id point.told) point.after stage after fit.1 behind run.1 others (or_parts (tells_lie point.told) (has_lie points) honest).1 new.1)
