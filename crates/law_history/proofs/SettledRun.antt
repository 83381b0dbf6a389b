-- Along a run: what a machine tells of its entry is orderly, and so each board that settles was said.
use Rattle.std.proofs.Common.{Bool, List, None, Option, Some, [], ap, append-nil, append_assoc, arith, false, refl, suc, subst, sym, take, true, zero, ℕ, ◌&&◌, ◌++◌, ◌+◌, ◌==◌, ◌∙◌, ◌∷◌, ◌≡◌}
use Rattle.std.specs.Prelude.{cond}
use Rattle.line_base.specs.declared.states.Side.TheVariants.{Entry}
use Rattle.board_record.specs.declared.record.Record.{Record}
use Rattle.line_world.specs.FloorPlan.{machine_at}
use Rattle.node_core.specs.Done.{Done}
use Rattle.node_core.specs.Step.{plain_step}
use Rattle.node_core.specs.declared.act.Act.{Act}
use Rattle.node_core.specs.declared.act.Act.TheVariants as acts
use Rattle.node_core.specs.declared.act.Deed.TheVariants as deeds
use Rattle.node_core.specs.declared.lane.Body.{Body}
use Rattle.line_report.specs.declared.happening.Happening.{Happening}
use Rattle.line_report.specs.declared.happening.Happening.TheVariants as happenings
use Rattle.line_step.specs.Tracks.{TrackLine, TrackSteps}
use Rattle.line_step.specs.Numbered.{node_at}
use Rattle.line_step.specs.Runs.{IsRun, Point, all_told}
use Rattle.line_step.specs.State.{LineState, no_line}
use Rattle.line_step.specs.Steps.{unread_by}
use Rattle.law_one_standing.specs.Carried.{Trace}
use Rattle.law_one_standing.specs.Mirrors.{scene_at}
use Rattle.law_one_standing.specs.Stands.{Stands}
use Rattle.law_one_standing.proofs.Carrying.{SaysAlone}
use Rattle.law_one_standing.proofs.HandSteps.{good_node}
use Rattle.law_one_standing.proofs.LineForms.{ConnectsBear}
use Rattle.law_one_standing.proofs.LineRun.{AreStood, Stood, none_stood, run_stood}
use Rattle.law_history.specs.Settled.{BoardsSettleWhenSaid, entry_act, entry_acts, is_at_entry}
use Rattle.law_history.proofs.Folds.{Hearing, Orderly, ends, goes_on, heard_act, heard_all, none_heard, orderly_both, settles_so}
use Rattle.law_history.proofs.Halves.{Knows}
use Rattle.law_history.proofs.Said.{is_said_of, said_then}
use Rattle.law_history.proofs.Stepping.{Does, StepDoes, step_does}
use Rattle.law_history.proofs.Telling.{IsIn}
use Rattle.law_history.proofs.View.{Turn, Stepped, done_act, done_by, has_stepped, is_still, track_turn, told_of_act, undriven}

-- ---- the acts at the entry among those of the machine

abbrev pub entry_of : List Act → List Act
entry_of [] = []
entry_of (act ∷ told) = cond (is_at_entry act) (act ∷ []) [] ++ entry_of told

entry_append : (a b : List Act) → entry_of (a ++ b) ≡ entry_of a ++ entry_of b
entry_append [] b = refl
entry_append (act ∷ a) b = ap (λ (x : List Act). cond (is_at_entry act) (act ∷ []) [] ++ x) (entry_append a b) ∙ sym (append_assoc (cond (is_at_entry act) (act ∷ []) []) (entry_of a) (entry_of b))

-- drives and a bridge's signals are not at the entry's handover
entry_undriven_one : (act : Act) → entry_of (told_of_act act) ≡ entry_of (act ∷ [])
entry_undriven_one (acts.Drive side on) = refl
entry_undriven_one _ = refl

entry_one : (act : Act) (same : Bool) → cond (same && is_at_entry act) (act ∷ []) [] ≡ entry_of (cond same (told_of_act act) [])
entry_one act true = sym (entry_undriven_one act ∙ append-nil (cond (is_at_entry act) (act ∷ []) []))
entry_one act false = refl

entry_happening : (machine : ℕ) (happening : Happening) → entry_act machine happening ≡ entry_of (done_act machine happening)
entry_happening machine (happenings.Done other act) = entry_one act (other == machine)
entry_happening machine _ = refl

pub entry_is : (machine : ℕ) (told : List Happening) → entry_acts machine told ≡ entry_of (done_by machine told)
entry_is machine [] = refl
entry_is machine (happening ∷ told) =
    ap (λ (x : List Act). x ++ entry_acts machine told) (entry_happening machine happening) ∙ ap (λ (x : List Act). entry_of (done_act machine happening) ++ x) (entry_is machine told)
    ∙ sym (entry_append (done_act machine happening) (done_by machine told))

pub acts_append : (machine : ℕ) (a b : List Happening) → entry_acts machine (a ++ b) ≡ entry_acts machine a ++ entry_acts machine b
acts_append machine [] b = refl
acts_append machine (h ∷ a) b = ap (λ (x : List Act). entry_act machine h ++ x) (acts_append machine a b) ∙ sym (append_assoc (entry_act machine h) (entry_acts machine a) (entry_acts machine b))

pub entry_undriven : (told : List Act) → entry_of (undriven told) ≡ entry_of told
entry_undriven [] = refl
entry_undriven (act ∷ told) =
    entry_append (told_of_act act) (undriven told) ∙ ap (λ (x : List Act). x ++ entry_of (undriven told)) (entry_undriven_one act) ∙ ap (λ (x : List Act). entry_of (act ∷ []) ++ x) (entry_undriven told)
    ∙ sym (entry_append (act ∷ []) told)

-- what is elsewhere says nothing of it
aside : (h : Hearing) (act : Act) → is_at_entry act ≡ false → heard_act h act ≡ h
aside h (acts.Hears Entry message) off = absurd (let no_way : true ≡ false = off in cc)
aside h (acts.Closes Entry) off = absurd (let no_way : true ≡ false = off in cc)
aside h (acts.Notices Entry) off = absurd (let no_way : true ≡ false = off in cc)
aside h (acts.Deed (deeds.Starts id)) off = absurd (let no_way : true ≡ false = off in cc)
aside h _ off = refl

entry_heard : (h : Hearing) (told : List Act) → heard_all h (entry_of told) ≡ heard_all h told
entry_heard h [] = refl
entry_heard h (act ∷ told) = by (is_at_entry act) refl (λ x. entry_heard x told) where
  by : (at : Bool) → is_at_entry act ≡ at → ((x : Hearing) → heard_all x (entry_of told) ≡ heard_all x told) → heard_all h (cond at (act ∷ []) [] ++ entry_of told) ≡ heard_all (heard_act h act) told
  by true is later = later (heard_act h act)
  by false is later = later h ∙ ap (λ (x : Hearing). heard_all x told) (sym (aside h act is))

pub entry_orderly : {P Q : ℕ → Type 0} {h : Hearing} {told : List Act} → ((id : ℕ) → P id → Q id) → Orderly P h told → Orderly Q h (entry_of told)
entry_orderly more ends = ends
entry_orderly more (settles_so named said is later) = settles_so named said (more _ is) (entry_orderly more later)
entry_orderly {Q = Q} {h = h} more (goes_on {act = act} {told = told} plain later) = by (is_at_entry act) refl (entry_orderly more later) where
  by : (at : Bool) → is_at_entry act ≡ at → Orderly Q (heard_act h act) (entry_of told) → Orderly Q h (cond at (act ∷ []) [] ++ entry_of told)
  by true is others = goes_on plain others
  by false is others = subst (λ (x : Hearing). Orderly Q x (entry_of told)) (aside h act is) others

-- ---- one line

-- what holds of a board that settles at machine j + 1 in a line from this state on
abbrev pub IsInAt : ℕ → LineState → ℕ → Type 0
IsInAt j s id = IsIn (node_at s j).lane.body.outlet.phase (node_at s (j + 1)).lane.body.intake.phase (machine_at s.world.floor (j + 1)).boards id

pub record Told (j : ℕ) (h : Hearing) (before after : LineState) (told : List Happening) : Type 0 where
  pub orderly : Orderly (IsInAt j before) h (entry_acts (j + 1) told)
  pub knows : Knows (heard_all h (entry_acts (j + 1) told)) (node_at after (j + 1)).lane.body.intake

-- the step of the machine, in the scene of the line
pub stepped_does : (t : Trace) (j : ℕ) (h : Hearing) (before after : LineState) (told : List Happening) → Stands t before → Knows h (node_at before (j + 1)).lane.body.intake → (s : Stepped j t before after told)
    → StepDoes (IsInAt j before) h s.desk (unread_by (j + 1) before.world) s.event (node_at before (j + 1)).lane.body
stepped_does t j h before after told st k s =
    step_does s.desk (unread_by (j + 1) before.world) s.event (node_at before (j + 1)).lane.body (scene_at t before j) s.known (st.keeps.machines.at j).offers (good_node j t before (node_at before (j + 1)) st refl) k
    (λ q held free lies. record { board = q; named = refl; taken = held; free = free; inside = lies })

turn_told : (t : Trace) (j : ℕ) (h : Hearing) (before after : LineState) (told : List Happening) → Stands t before → Knows h (node_at before (j + 1)).lane.body.intake → Turn j t before after told → Told j h before after told
turn_told t j h before after told st k (is_still same none) =
    let nothing : entry_acts (j + 1) told ≡ [] = entry_is (j + 1) told ∙ ap entry_of none in
    record {
      orderly = subst (λ (x : List Act). Orderly (IsInAt j before) h x) (sym nothing) ends;
      knows = subst (λ (x : List Act). Knows (heard_all h x) (node_at after (j + 1)).lane.body.intake) (sym nothing) (subst (λ (b : Body). Knows h b.intake) (sym same) k);
    }
turn_told t j h before after told st k (has_stepped s) =
    let d : Done = plain_step s.desk (unread_by (j + 1) before.world) s.event (node_at before (j + 1)).lane.body in
    let does : Does (IsInAt j before) h (node_at before (j + 1)).lane.body d = (stepped_does t j h before after told st k s).does in
    let all : entry_acts (j + 1) told ≡ entry_of d.acts = entry_is (j + 1) told ∙ ap entry_of s.acts ∙ entry_undriven d.acts in
    record {
      orderly = subst (λ (x : List Act). Orderly (IsInAt j before) h x) (sym all) (entry_orderly (λ id is. is) does.orderly);
      knows = subst (λ (x : List Act). Knows (heard_all h x) (node_at after (j + 1)).lane.body.intake) (sym all)
          (subst (λ (x : Hearing). Knows x (node_at after (j + 1)).lane.body.intake) (sym (entry_heard h d.acts)) (subst (λ (b : Body). Knows (heard_all h d.acts) b.intake) (sym s.body) does.knows));
    }

pub line_told : SaysAlone → (number j : ℕ) (h : Hearing) (line : TrackLine) (before after : LineState) (told : List Happening) → Stood before → TrackSteps number line before after told → Knows h (node_at before (j + 1)).lane.body.intake → Told j h before after told
line_told alone number j h line before after told was steps k = turn_told was.trace j h before after told was.stands k (track_turn alone was.trace number line before after told was.stands steps j)

-- ---- along a run

abbrev Any : ℕ → Type 0
Any id = Unit {0}

orderly_any : {P : ℕ → Type 0} {h : Hearing} {told : List Act} → Orderly P h told → Orderly Any h told
orderly_any ends = ends
orderly_any (goes_on plain more) = goes_on plain (orderly_any more)
orderly_any (settles_so named said is more) = settles_so named said tt (orderly_any more)

run_told : SaysAlone → (j : ℕ) (h : Hearing) (s : LineState) (asked : List TrackLine) (points : List Point) (n : ℕ) → Stood s → IsRun s asked points → AreStood (take n points) → Knows h (node_at s (j + 1)).lane.body.intake → Orderly Any h (entry_acts (j + 1) (all_told (take n points)))
run_told alone j h s asked points zero was run all k = ends
run_told alone j h s [] [] (suc n) was run all k = ends
run_told alone j h s [] (point ∷ points) (suc n) was run all k = absurd run
run_told alone j h s (line ∷ asked) [] (suc n) was run all k = absurd run
run_told alone j h s (line ∷ asked) (point ∷ points) (suc n) was run all k =
    let one : Told j h s point.after point.told = line_told alone (s.lines + 1) j h line s point.after point.told was run.0 k in
    subst (λ (x : List Act). Orderly Any h x) (sym (acts_append (j + 1) point.told (all_told (take n points))))
    (orderly_both (entry_acts (j + 1) (all_told (take n points))) (orderly_any one.orderly) (run_told alone j (heard_all h (entry_acts (j + 1) point.told)) point.after asked points n all.0 run.1 all.1 one.knows))

pub none_knows : (h : Hearing) (machine : ℕ) → Knows h (node_at no_line machine).lane.body.intake
none_knows h zero = record { named = λ r is. absurd (let no_way : ◌≡◌ {A = Option Record} None (Some r) = is in cc); recalled = record { ended = refl; linked = refl; waiting = refl } }
none_knows h (suc place) = record { named = λ r is. absurd (let no_way : ◌≡◌ {A = Option Record} None (Some r) = is in cc); recalled = record { ended = refl; linked = refl; waiting = refl } }

-- THE LAW
pub boards_settle_when_said : SaysAlone → ConnectsBear → BoardsSettleWhenSaid
boards_settle_when_said alone connects asked points n gap fit few run honest earlier later id is =
    let all : AreStood (take n points) = run_stood alone connects no_line asked points n fit few none_stood run honest in
    let orderly = run_told alone gap none_heard no_line asked points n none_stood.stood run all (none_knows none_heard (gap + 1)) in
    is_said_of earlier id (said_then orderly earlier later id is).0
