-- A BOARD THAT HAS LEFT IS NEVER STARTED AGAIN at that gap: since a machine told that it has left,
-- no offer of it is still to be taken up there.
use Rattle.std.proofs.Common.{Bool, List, [], ap, false, inl, inr, refl, sym, true, ℕ, ◌++◌, ◌+◌, ◌==◌, ◌||◌, ◌&&◌, ◌∙◌, ◌∷◌, ◌≡◌, ◌≤◌, ◌⊎◌}
use Rattle.std.specs.Prelude.{if◌then◌else◌}
use Rattle.std.specs.List.{list_any}
use Rattle.std.proofs.lemmas.Bool.{false≢true, or_parts, or_left, or_right}
use Rattle.std.proofs.lemmas.List.Folds.{list_any-append}
use mathlib.Core.Bool.{or-false}
use Rattle.line_report.specs.declared.happening.Happening.{Happening}
use Rattle.line_report.specs.declared.happening.Happening.TheVariants as happenings
use Rattle.node_core.specs.declared.act.Act.{Act}
use Rattle.node_core.specs.declared.act.Act.TheVariants as acts
use Rattle.node_core.specs.declared.act.Deed.TheVariants as deeds
use Rattle.node_core.specs.Step.{plain_step}
use Rattle.line_step.specs.Lines.{LineSteps}
use Rattle.line_step.specs.Numbered.{node_at}
use Rattle.line_step.specs.State.{LineState}
use Rattle.line_step.specs.Steps.{unread_by}
use Rattle.line_step.specs.Requests.{Request}
use Rattle.law_one_standing.specs.Carried.{Trace}
use Rattle.law_one_standing.specs.Standing.{IsFitRequest}
use Rattle.law_one_standing.proofs.Carrying.{SaysAlone}
use Rattle.law_one_standing.proofs.LineRun.{Stood}
use Rattle.law_history.proofs.View.{Turn, done_act, done_by, has_stepped, is_still, line_turn, told_of_act, undriven}
use Rattle.law_supervisor_replay.specs.Replay.{has_left, leaves_at}
use Rattle.law_supervisor_replay.proofs.Since.{left_since, since_after, since_with}
use Rattle.law_supervisor_replay.proofs.Bodies.{holds_it, keeps_it}
use Rattle.law_supervisor_replay.proofs.DownForms.{StaysFree, line_free}
use Rattle.law_supervisor_replay.proofs.Free.{IsFree, starts_it}
use Rattle.law_supervisor_replay.proofs.Leaves.{leaves_act, leaves_held}
use Rattle.law_supervisor_replay.proofs.Sending.{held_free}
use Rattle.law_supervisor_replay.proofs.Happenings.{left_after_append}

-- ---- what the acts of a machine say of it

one_leaves : (gap id machine : ℕ) (act : Act) (same : Bool) → (machine == gap) ≡ same
    → leaves_at gap id (happenings.Done machine act)
    ≡ list_any (leaves_act id) (if same then told_of_act act else [])
one_leaves gap id machine (acts.Deed (deeds.Leaves other)) true is =
    rw is (sym (or-false (other == id)))
one_leaves gap id machine (acts.Deed (deeds.Leaves other)) false is = rw is refl
one_leaves gap id machine (acts.Deed (deeds.Opens other)) true is = refl
one_leaves gap id machine (acts.Deed (deeds.Refuses other)) true is = refl
one_leaves gap id machine (acts.Deed (deeds.Returns other)) true is = refl
one_leaves gap id machine (acts.Deed (deeds.Loses other)) true is = refl
one_leaves gap id machine (acts.Deed (deeds.Starts other)) true is = refl
one_leaves gap id machine (acts.Deed (deeds.Settles other)) true is = refl
one_leaves gap id machine (acts.Deed (deeds.Drops other)) true is = refl
one_leaves gap id machine (acts.Drive side on) true is = refl
one_leaves gap id machine (acts.Signals signal on) true is = refl
one_leaves gap id machine (acts.Tells message) true is = refl
one_leaves gap id machine (acts.Drive side on) false is = refl
one_leaves gap id machine (acts.Signals signal on) false is = refl
one_leaves gap id machine (acts.Tells message) false is = refl
one_leaves gap id machine _ true is = refl
one_leaves gap id machine _ false is = refl

each_leaves : (gap id : ℕ) (happening : Happening)
    → leaves_at gap id happening ≡ list_any (leaves_act id) (done_act gap happening)
each_leaves gap id (happenings.Done machine act) =
    one_leaves gap id machine act (machine == gap) refl
each_leaves gap id _ = refl

told_leaves : (gap id : ℕ) (told : List Happening)
    → list_any (leaves_at gap id) told ≡ list_any (leaves_act id) (done_by gap told)
told_leaves gap id [] = refl
told_leaves gap id (happening ∷ told) =
    ap (λ (b : Bool). b || list_any (leaves_at gap id) told) (each_leaves gap id happening)
    ∙ ap (λ (b : Bool). list_any (leaves_act id) (done_act gap happening)
    || b) (told_leaves gap id told)
    ∙ sym (list_any-append (leaves_act id) (done_act gap happening) (done_by gap told))

undriven_one : (id : ℕ) (act : Act) (rest : Bool)
    → (list_any (leaves_act id) (told_of_act act) || rest) ≡ (leaves_act id act || rest)
undriven_one id (acts.Drive side on) rest = refl
undriven_one id (acts.Signals signal on) rest = refl
undriven_one id (acts.Tells message) rest = refl
undriven_one id act rest = ap (λ (b : Bool). b || rest) (or-false (leaves_act id act))

undriven_leaves : (id : ℕ) (made : List Act)
    → list_any (leaves_act id) (undriven made) ≡ list_any (leaves_act id) made
undriven_leaves id [] = refl
undriven_leaves id (act ∷ made) =
    list_any-append (leaves_act id) (told_of_act act) (undriven made)
    ∙ ap (λ (b : Bool). list_any (leaves_act id) (told_of_act act) || b) (undriven_leaves id made)
    ∙ undriven_one id act (list_any (leaves_act id) made)

-- what a line says has left, the outlet held before it
turn_held : (t : Trace) (id j : ℕ) (before after : LineState) (told : List Happening)
    → Turn j t before after told
    → list_any (leaves_at (j + 1) id) told ≡ true
    → holds_it id (node_at before (j + 1)).lane.body ≡ true
turn_held t id j before after told (is_still same none) left =
    absurd (false≢true
    (sym (ap (list_any (leaves_act id)) none) ∙ sym (told_leaves (j + 1) id told) ∙ left))
turn_held t id j before after told (has_stepped s) left =
    leaves_held id s.desk (unread_by (j + 1) before.world) s.event
    (node_at before (j + 1)).lane.body
    (sym (undriven_leaves id
    (plain_step s.desk (unread_by (j + 1) before.world) s.event
    (node_at before (j + 1)).lane.body).acts)
    ∙ sym (ap (list_any (leaves_act id)) s.acts) ∙ sym (told_leaves (j + 1) id told) ∙ left)

-- ---- where the machine below starts it not

or_both : (a b c : Bool) → ((a || b) || c) ≡ (b || (a || c))
or_both true true c = refl
or_both true false c = refl
or_both false b c = refl

-- of one happening
start_not : (test same : Bool) (other id : ℕ) (left : Bool) → test ≡ same
    → list_any (starts_it id) (if same then acts.Deed (deeds.Starts other) ∷ [] else []) ≡ false
    → (if test && (other == id) then false else left) ≡ left
start_not true true other id left is none = rw (or_parts (other == id) false none).0 refl
start_not false same other id left is none = refl
start_not true false other id left is none = absurd (false≢true (sym is))

with_one : (gap id : ℕ) (happening : Happening) (left : Bool)
    → list_any (starts_it id) (done_act (gap + 1) happening) ≡ false
    → since_with gap id happening left ≡ (leaves_at gap id happening || left)
with_one gap id (happenings.Done machine (acts.Deed (deeds.Starts other))) left none =
    start_not (machine == gap + 1) (machine == gap + 1) other id left refl none
with_one gap id _ left none = refl

unstarted : (gap id : ℕ) (told : List Happening) (left : Bool)
    → list_any (starts_it id) (done_by (gap + 1) told) ≡ false
    → since_after gap id told left ≡ (left || list_any (leaves_at gap id) told)
unstarted gap id [] left none = sym (or-false left)
unstarted gap id (happening ∷ told) left none =
    let parts =
    sym (list_any-append (starts_it id) (done_act (gap + 1) happening)
    (done_by (gap + 1) told)) ∙ none in
    ap (since_after gap id told) (with_one gap id happening left (or_parts _ _ parts).0)
    ∙ unstarted gap id told (leaves_at gap id happening || left) (or_parts _ _ parts).1
    ∙ or_both (leaves_at gap id happening) left (list_any (leaves_at gap id) told)

-- ---- whether or not it starts it, what has left was told to leave

less_one : (gap id : ℕ) (happening : Happening) (left : Bool)
    → since_with gap id happening left ≡ true
    → (leaves_at gap id happening || left) ≡ true
less_one gap id (happenings.Done machine (acts.Deed (deeds.Starts other))) left is =
    by_test ((machine == gap + 1) && (other == id)) is where
      by_test : (test : Bool) → (if test then false else left) ≡ true → left ≡ true
      by_test true is = absurd (false≢true is)
      by_test false is = is
less_one gap id _ left is = is

either_true : {X : Type 0} (a b : Bool) → (a ≡ true → X) → (b ≡ true → X) → (a || b) ≡ true → X
either_true true b one two is = one refl
either_true false b one two is = two is

-- it was told before, or is told now
less_told : (gap id : ℕ) (told : List Happening) (left : Bool)
    → since_after gap id told left ≡ true
    → (left ≡ true) ⊎ (list_any (leaves_at gap id) told ≡ true)
less_told gap id [] left is = inl is
less_told gap id (happening ∷ told) left is =
    elim (less_told gap id told (since_with gap id happening left) is) [
      | inl now ↦
          either_true (leaves_at gap id happening) left
          (λ here. inr
          (or_left (leaves_at gap id happening) (list_any (leaves_at gap id) told) here))
          (λ was. inl was)
          (less_one gap id happening left now)
      | inr later ↦ inr
          (or_right (leaves_at gap id happening) (list_any (leaves_at gap id) told) later)
    ]

pub left_was : (gap id : ℕ) (reported : List Happening) → left_since gap id reported ≡ true
    → has_left gap id reported ≡ true
left_was gap id reported is =
    elim (less_told gap id reported false is) [
      | inl never ↦ absurd
          (false≢true never)
      | inr told ↦ told
    ]

-- ---- THE INVARIANT, of machine j + 1 and the gap below it

pub record Never (id j : ℕ) (s : LineState) (past : List Happening) : Type 0 where
  -- it was not started since
  pub still : has_left (j + 1) id past ≡ true → left_since (j + 1) id past ≡ true
  pub free : left_since (j + 1) id past ≡ true → IsFree id (j + 1) s

-- where no offer was to be taken up before the line
free_never : (id j : ℕ) (after : LineState) (told past : List Happening)
    → StaysFree id (j + 1) after told
    → (left_since (j + 1) id past ≡ false → list_any (leaves_at (j + 1) id) told ≡ true)
    → (has_left (j + 1) id past ≡ true → left_since (j + 1) id past ≡ true)
    → (left_since (j + 1) id (past ++ told) ≡ true
    → keeps_it id (node_at after (j + 1)).lane.body ≡ false)
    → Never id j after (past ++ told)
free_never id j after told past stays leaves was gone =
    let now : left_since (j + 1) id (past ++ told) ≡ true =
    left_after_append (j + 1) id past told false
    ∙ unstarted (j + 1) id told (left_since (j + 1) id past) stays.starts
    ∙ by_left (left_since (j + 1) id past) refl in
    record { still = λ told. now; free = λ left. stays.free (gone left) } where
      by_left : (left : Bool) → left_since (j + 1) id past ≡ left
          → (left || list_any (leaves_at (j + 1) id) told) ≡ true
      by_left true is = refl
      by_left false is = leaves is

pub never_step : SaysAlone → (id j number : ℕ) (request : Request) (before after : LineState)
    (told past : List Happening) → number ≤ 1000000 → IsFitRequest request → Stood before
    → LineSteps number request before after told
    → (left_since (j + 1) id (past ++ told) ≡ true
    → keeps_it id (node_at after (j + 1)).lane.body ≡ false)
    → Never id j before past → Never id j after (past ++ told)
never_step alone id j number request before after told past few fit was steps gone never =
    by_left (left_since (j + 1) id past) refl where
      stays : IsFree id (j + 1) before → StaysFree id (j + 1) after told
      stays free =
          line_free alone id
          (j + 1) number request was.trace before after told few fit was.stands was.waits steps free

      -- it has neither left before nor leaves now
      neither : left_since (j + 1) id past ≡ false
          → list_any (leaves_at (j + 1) id) told ≡ false
          → Never id j after (past ++ told)
      neither not none = record {
        still = λ is.
            absurd (either_true (has_left (j + 1) id past) (list_any (leaves_at (j + 1) id) told)
            (λ old. false≢true (sym not ∙ never.still old)) (λ now. false≢true (sym none ∙ now))
            (sym (list_any-append (leaves_at (j + 1) id) past told) ∙ is));
        free = λ is.
            absurd (elim
            (less_told (j + 1) id told (left_since (j + 1) id past)
            (sym (left_after_append (j + 1) id past told false) ∙ is)) [
              | inl old ↦ false≢true (sym not ∙ old)
              | inr now ↦ false≢true (sym none ∙ now)
            ]);
      }

      by_told : left_since (j + 1) id past ≡ false → (now : Bool)
          → list_any (leaves_at (j + 1) id) told ≡ now
          → Never id j after (past ++ told)
      by_told not false none = neither not none
      by_told not true leaves =
          let held : holds_it id (node_at before (j + 1)).lane.body ≡ true =
          turn_held was.trace id j before after told
          (line_turn alone was.trace number request before after told was.stands steps j) leaves
          in
          free_never id j after told past
          (stays (held_free was.trace before (j + 1) id was.stands held)) (λ none. leaves)
          never.still gone

      by_left : (left : Bool) → left_since (j + 1) id past ≡ left → Never id j after (past ++ told)
      by_left true left =
          free_never id j after told past (stays (never.free left)) (λ none.
          absurd (false≢true (sym none ∙ left)))
          never.still gone
      by_left false none = by_told none (list_any (leaves_at (j + 1) id) told) refl
