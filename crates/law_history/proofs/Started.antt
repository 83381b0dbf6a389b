-- What an intake holds was started last, and it is not over: by what a machine owns, act by act.
use Rattle.std.proofs.Common.{Bool, List, None, Option, Some, [], ap, arith, false, inl, inr, refl, suc, sym, take, true, zero, ℕ, ◌++◌, ◌+◌, ◌∙◌, ◌∷◌, ◌≡◌, ◌⊎◌}
use Rattle.std.specs.Prelude.{cond}
use Rattle.std.specs.List.{list_any}
use Rattle.std.proofs.lemmas.Bool.{and_parts}
use Rattle.law_history.proofs.Said.{some_id}
use Rattle.node_core.specs.Done.{Done}
use Rattle.node_core.specs.Event.{Event, Nothing}
use Rattle.node_core.specs.Own.{Own, id_of, own_of}
use Rattle.node_core.specs.Step.{plain_step}
use Rattle.node_core.specs.declared.act.Act.{Act}
use Rattle.node_core.specs.declared.act.Act.TheVariants as acts
use Rattle.node_core.specs.declared.act.Deed.TheVariants as deeds
use Rattle.node_core.specs.declared.lane.Body.{Body}
use Rattle.line_report.specs.declared.happening.Happening.{Happening}
use Rattle.line_step.specs.Numbered.{node_at}
use Rattle.line_step.specs.Tracks.{TrackLine}
use Rattle.line_step.specs.Runs.{IsRun, Point}
use Rattle.line_step.specs.State.{LineState, no_line}
use Rattle.line_step.specs.Steps.{unread_by}
use Rattle.law_one_standing.specs.Carried.{Trace}
use Rattle.law_one_standing.proofs.Carrying.{SaysAlone}
use Rattle.law_one_standing.proofs.LedgerWalk.{Announces, Did, Hand, IsNewFor, Walk, are_silent, did, hand_gets, hand_gives, hand_inserts, hand_removes, hand_replaces, hand_walks, is_silent, says_last, says_more, says_start, step_did, walk_drops, walk_end, walk_leaves, walk_loses, walk_on, walk_opens, walk_returns, walk_settles}
use Rattle.law_one_standing.proofs.LineForms.{ConnectsBear}
use Rattle.law_one_standing.proofs.LineRun.{AreStood, Stood, none_stood, run_stood}
use Rattle.law_history.specs.Settled.{entry_acts, is_at_entry, is_start, starts}
use Rattle.law_history.specs.Started.{HoldsWhatStarted, IsStartedLast, WhatIsHeldStarted, is_over}
use Rattle.law_history.proofs.SettledRun.{acts_append, entry_is, entry_of, entry_undriven}
use Rattle.law_history.proofs.View.{Turn, has_stepped, is_still, track_turn}

-- ---- the board of the last start that is not over

abbrev pub open_act : Option ℕ → Act → Option ℕ
open_act o (acts.Deed (deeds.Starts id)) = Some id
open_act o (acts.Deed (deeds.Settles id)) = None
open_act o (acts.Deed (deeds.Drops id)) = None
open_act o _ = o

abbrev pub open_all : Option ℕ → List Act → Option ℕ
open_all o [] = o
open_all o (act ∷ told) = open_all (open_act o act) told

open_append : (o : Option ℕ) (a b : List Act) → open_all o (a ++ b) ≡ open_all (open_all o a) b
open_append o [] b = refl
open_append o (act ∷ a) b = open_append (open_act o act) a b

-- acts that move no record say nothing of it
not_so : {X : Type 0} → false ≡ true → X
not_so is = cc

pub silent_open : (o : Option ℕ) (act : Act) → is_silent act ≡ true → open_act o act ≡ o
silent_open o (acts.Deed (deeds.Opens id)) is = not_so is
silent_open o (acts.Deed (deeds.Leaves id)) is = not_so is
silent_open o (acts.Deed (deeds.Returns id)) is = not_so is
silent_open o (acts.Deed (deeds.Loses id)) is = not_so is
silent_open o (acts.Deed (deeds.Starts id)) is = not_so is
silent_open o (acts.Deed (deeds.Settles id)) is = not_so is
silent_open o (acts.Deed (deeds.Drops id)) is = not_so is
silent_open o _ is = refl

pub silent_all : (o : Option ℕ) (told : List Act) → are_silent told ≡ true → open_all o told ≡ o
silent_all o [] is = refl
silent_all o (act ∷ told) is =
    ap (λ (x : Option ℕ). open_all x told) (silent_open o act (and_parts (is_silent act) (are_silent told) is).0) ∙ silent_all o told (and_parts (is_silent act) (are_silent told) is).1

-- what a machine takes is open, act by act
pub walk_open : {own end : Own} {told : List Act} → Walk own told end → open_all own.taking told ≡ end.taking
walk_open walk_end = refl
walk_open {own = own} (walk_on {act = act} {others = others} silent more) = ap (λ (x : Option ℕ). open_all x others) (silent_open own.taking act silent) ∙ walk_open more
walk_open (walk_opens more) = walk_open more
walk_open (walk_returns more) = walk_open more
walk_open (walk_leaves more) = walk_open more
walk_open (walk_loses more) = walk_open more
walk_open (walk_settles more) = walk_open more
walk_open (walk_drops more) = walk_open more

pub hand_open : {New : ℕ → Type 0} {own end : Own} {told : List Act} → Hand New own told end → open_all own.taking told ≡ end.taking
hand_open (hand_walks walk) = walk_open walk
hand_open (hand_inserts new) = refl
hand_open (hand_removes has) = refl
hand_open (hand_gives has) = refl
hand_open hand_gets = refl
hand_open (hand_replaces has new) = refl

announces_open : {own end : Own} {told : List Act} → Announces own told end → open_all own.taking told ≡ end.taking
announces_open {own = own} (says_more told others silent more) = open_append own.taking told others ∙ ap (λ (x : Option ℕ). open_all x others) (silent_all own.taking told silent) ∙ announces_open more
announces_open {own = own} (says_last {told = told} silent) = silent_all own.taking told silent
announces_open (says_start {id = id} {others = others} silent) = silent_all (Some id) others silent

did_open : {New : ℕ → Type 0} {own end : Own} {told : List Act} → Did New own told end → open_all own.taking told ≡ end.taking
did_open {own = own} (did {one = one} {two = two} read met told walk hand says) =
    open_append own.taking read (met ++ told) ∙ ap (λ (x : Option ℕ). open_all x (met ++ told)) (walk_open walk)
    ∙ open_append one.taking met told ∙ ap (λ (x : Option ℕ). open_all x told) (hand_open hand) ∙ announces_open says

abbrev pub Any : ℕ → Type 0
Any id = Unit {0}

pub any_new : (event : Event) → IsNewFor Any event
any_new Nothing = tt
any_new _ = tt

-- ---- of the entry's acts alone

entry_open_act : (o : Option ℕ) (act : Act) → is_at_entry act ≡ false → open_act o act ≡ o
entry_open_act o (acts.Deed (deeds.Starts id)) off = absurd (let no_way : true ≡ false = off in cc)
entry_open_act o (acts.Deed (deeds.Settles id)) off = absurd (let no_way : true ≡ false = off in cc)
entry_open_act o (acts.Deed (deeds.Drops id)) off = absurd (let no_way : true ≡ false = off in cc)
entry_open_act o _ off = refl

pub entry_open : (o : Option ℕ) (told : List Act) → open_all o (entry_of told) ≡ open_all o told
entry_open o [] = refl
entry_open o (act ∷ told) = by (is_at_entry act) refl (λ x. entry_open x told) where
  by : (at : Bool) → is_at_entry act ≡ at → ((x : Option ℕ) → open_all x (entry_of told) ≡ open_all x told) → open_all o (cond at (act ∷ []) [] ++ entry_of told) ≡ open_all (open_act o act) told
  by true is later = later (open_act o act)
  by false is later = later o ∙ ap (λ (x : Option ℕ). open_all x told) (sym (entry_open_act o act is))

-- ---- a line

abbrev pub taking_at : LineState → ℕ → Option ℕ
taking_at s machine = (own_of (node_at s machine).lane.body).taking

pub turn_open : (t : Trace) (j : ℕ) (before after : LineState) (told : List Happening) → Turn j t before after told → open_all (taking_at before (j + 1)) (entry_acts (j + 1) told) ≡ taking_at after (j + 1)
turn_open t j before after told (is_still same none) =
    ap (λ (x : List Act). open_all (taking_at before (j + 1)) x) (entry_is (j + 1) told ∙ ap entry_of none) ∙ ap (λ (b : Body). (own_of b).taking) (sym same)
turn_open t j before after told (has_stepped s) =
    let body : Body = (node_at before (j + 1)).lane.body in
    let d : Done = plain_step s.desk (unread_by (j + 1) before.world) s.event body in
    let does : Did Any (own_of body) d.acts (own_of d.body) = step_did s.desk (unread_by (j + 1) before.world) s.event body (any_new s.event) in
    ap (λ (x : List Act). open_all (taking_at before (j + 1)) x) (entry_is (j + 1) told ∙ ap entry_of s.acts ∙ entry_undriven d.acts)
    ∙ entry_open (taking_at before (j + 1)) d.acts ∙ did_open does ∙ ap (λ (b : Body). (own_of b).taking) (sym s.body)

-- ---- read off

started_on : (act : Act) (told : List Act) (id : ℕ) → IsStartedLast id told → IsStartedLast id (act ∷ told)
started_on act told id s = record { before = act ∷ s.before; since = s.since; told_is = ap (λ (x : List Act). act ∷ x) s.told_is; last = s.last; open_still = s.open_still }

-- the board is of a start among these acts, or was open before and is still
abbrev Open : Option ℕ → List Act → ℕ → Type 0
Open o told id = IsStartedLast id told ⊎ ((o ≡ Some id) × ((list_any is_start told ≡ false) × (list_any is_over told ≡ false)))

pub none_some : {X : Type 0} (id : ℕ) → ◌≡◌ {A = Option ℕ} None (Some id) → X
none_some id is = cc

open_by : (o : Option ℕ) (act : Act) (told : List Act) (id : ℕ) → Open (open_act o act) told id → Open o (act ∷ told) id
open_by o act told id (inl s) = inl (started_on act told id s)
open_by o (acts.Deed (deeds.Starts other)) told id (inr both) =
    inl (record { before = []; since = told; told_is = ap (λ (x : ℕ). starts x ∷ told) (some_id other id both.0); last = both.1.0; open_still = both.1.1 })
open_by o (acts.Deed (deeds.Settles other)) told id (inr both) = none_some id both.0
open_by o (acts.Deed (deeds.Drops other)) told id (inr both) = none_some id both.0
open_by o _ told id (inr both) = inr both

open_last : (o : Option ℕ) (told : List Act) (id : ℕ) → open_all o told ≡ Some id → Open o told id
open_last o [] id is = inr (is, (refl, refl))
open_last o (act ∷ told) id is = open_by o act told id (open_last (open_act o act) told id is)

none_open : {told : List Act} {id : ℕ} → Open None told id → IsStartedLast id told
none_open (inl s) = s
none_open {id = id} (inr both) = none_some id both.0

-- ---- along a run

run_started : SaysAlone → (gap : ℕ) (past : List Happening) (s : LineState) (asked : List TrackLine) (points : List Point) (n : ℕ) → Stood s → IsRun s asked points → AreStood (take n points) → open_all None (entry_acts (gap + 1) past) ≡ taking_at s (gap + 1)
    → HoldsWhatStarted gap past (take n points)
run_started alone gap past s asked points zero was run all k = tt
run_started alone gap past s [] [] (suc n) was run all k = tt
run_started alone gap past s [] (point ∷ points) (suc n) was run all k = absurd run
run_started alone gap past s (line ∷ asked) [] (suc n) was run all k = absurd run
run_started alone gap past s (line ∷ asked) (point ∷ points) (suc n) was run all k =
    let turn : Turn gap was.trace s point.after point.told = track_turn alone was.trace (s.lines + 1) line s point.after point.told was.stands run.0 gap in
    let now : open_all None (entry_acts (gap + 1) (past ++ point.told)) ≡ taking_at point.after (gap + 1) =
    ap (λ (x : List Act). open_all None x) (acts_append (gap + 1) past point.told) ∙ open_append None (entry_acts (gap + 1) past) (entry_acts (gap + 1) point.told)
    ∙ ap (λ (x : Option ℕ). open_all x (entry_acts (gap + 1) point.told)) k ∙ turn_open was.trace gap s point.after point.told turn in (
      λ board taken. none_open (open_last None (entry_acts (gap + 1) (past ++ point.told)) board.id (now ∙ ap id_of taken)),
      run_started alone gap (past ++ point.told) point.after asked points n all.0 run.1 all.1 now,
    )

none_taking : (machine : ℕ) → None ≡ taking_at no_line machine
none_taking zero = refl
none_taking (suc place) = refl

-- THE LAW
pub what_is_held_started : SaysAlone → ConnectsBear → WhatIsHeldStarted
what_is_held_started alone connects asked points n gap fit few run honest =
    run_started alone gap [] no_line asked points n none_stood.stood run (run_stood alone connects no_line asked points n fit few none_stood run honest) (none_taking (gap + 1))
