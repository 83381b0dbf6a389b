-- A machine has the ids that the acts of its step don't name in the places in which it had them. So it is of
-- each piece of which the step is made.
use Rattle.std.proofs.Common.{◌≡◌, ◌∙◌, ◌++◌, ◌==◌, ◌||◌, ℕ, Bool, true, false, List, [], ◌∷◌, Option, Some, None, refl, sym, ap, eqb-true}
use Rattle.std.specs.List.{flat_map}
use Rattle.std.proofs.lemmas.Bool.{or_parts}
use Rattle.std.proofs.lemmas.Grind.{flat_map-append}
use Rattle.std.proofs.lemmas.List.{map-append}
use Rattle.standings.proofs.Ids.{has_id-append}
use Rattle.line_base.specs.declared.states.Side.{Side}
use Rattle.line_base.specs.declared.states.Side.TheVariants.{Entry, Exit}
use Rattle.line_base.specs.declared.states.Severity.TheVariants.{Fatal}
use Rattle.line_base.specs.declared.states.Quality.TheVariants as qualities
use Rattle.board_record.specs.declared.record.Record.{Record}
use Rattle.board_record.specs.declared.sensed.Sensed.{Sensed as Seen}
use Rattle.board_record.specs.Record.{plain_record}
use Rattle.session_core.specs.End.{SessionEnd, at_rest}
use Rattle.handover_out.specs.declared.input.OutInput.{OutInput}
use Rattle.handover_out.specs.declared.input.OutInput.TheVariants as out_input
use Rattle.handover_out.specs.State.{OutState, held, would_open}
use Rattle.handover_out.specs.Row.{OutRow}
use Rattle.handover_out.specs.Table.{IsOutletRow, opens as out_opens, refuses, stop_home, left_moving, left_stuck, left_stopped, left_unlinked, back_stuck, back_stopped, back_unlinked, taken_moving, taken_stuck, taken_stopped, taken_unlinked, fault_home, closed_home}
use Rattle.handover_in.specs.declared.input.InInput.{InInput}
use Rattle.handover_in.specs.State.{InState, held as in_held}
use Rattle.handover_in.specs.Row.{InRow}
use Rattle.handover_in.specs.Table.{IsIntakeRow, starts_transport, running_drop, hears_keep, hears_drop, full_heard, taken_heard, stopped_keep, stopped_drop, waiting_settles, waiting_home, waiting_taken, closed_home as in_closed_home, closed_stopped_home, closed_stopped_gone, stands_settles}
use Rattle.node_core.specs.Desk.{Desk}
use Rattle.node_core.specs.declared.act.Act.{Act}
use Rattle.node_core.specs.declared.act.Act.TheVariants as acts
use Rattle.node_core.specs.declared.lane.Body.{Body}
use Rattle.node_core.specs.Done.{Done, done, stays, behind}
use Rattle.node_core.specs.Told.{out_told, in_told, sends, notification}
use Rattle.node_core.specs.Sides.{session_at, with_session}
use Rattle.node_core.specs.Halves.{given_back, settled, opening_board, behind_opening}
use Rattle.node_core.specs.Reads.{all_read}
use Rattle.node_core.specs.Boards.{with_kept, without, with_instead, with_changed}
use Rattle.node_core.specs.Announces.{announces}
use Rattle.node_core.specs.Event.{Event, event_did}
use Rattle.node_core.specs.Step.{machine_step, plain_step}
use Rattle.node_core.specs.declared.supervising.Watch.{Watch}
use Rattle.node_core.specs.Supervising.{
  watch_of,
  with_tells,
}
use Rattle.node_core.proofs.Telling.{tells_pass}
use Rattle.node_core.specs.Own.{Own, own_by, own_of, ids_of, id_of}
use Rattle.node_core.proofs.KeptIds.{ids_changed}
use Rattle.standings.specs.Marks.{has_id, is_held}
use Rattle.line_step.specs.Named.{ids_of_act}
use Rattle.step_rules.specs.Causes.{ByHand, Cause, hand_gets, hand_gives, hand_inserts, hand_removes, hand_replaces, hand_changes}
use Rattle.step_rules.specs.Made.{Made, made_act, made_both, made_breach, made_by_hand, made_close, made_intake, made_none, made_notice, made_outlet, made_passed, made_row, made_start, made_will, made_word}
use Rattle.step_rules.proofs.Inputs.{IsNoStart, no_start}
use Rattle.step_rules.proofs.Steps.{step_made}
use Rattle.step_rules.proofs.Changing.{changes_leave}

-- ---- what the supervisor is told, what it is asked and what it says name no board

pub ids_with_tells : (desk : Desk) (watch : Watch) (made : List Act)
    → flat_map ids_of_act (with_tells desk watch made) ≡ flat_map ids_of_act made
ids_with_tells desk watch made =
    tells_pass (flat_map ids_of_act)
    (λ act told plain same. ap (λ (ids : List ℕ). ids_of_act act ++ ids) same)
    (λ message told. refl) desk watch made

-- ---- an id in the three places

pub record SameAt (id : ℕ) (before after : Own) : Type 0 where
  pub kept : has_id id after.kept ≡ has_id id before.kept
  pub held : is_held id after.held ≡ is_held id before.held
  pub taking : is_held id after.taking ≡ is_held id before.taking

same_still : (id : ℕ) (own : Own) → SameAt id own own
same_still id own = record { kept = refl; held = refl; taking = refl }

-- no act names the id
abbrev pub IsUnnamed : ℕ → List Act → Type 0
IsUnnamed id told = has_id id (flat_map ids_of_act told) ≡ false

-- where its acts don't name the id, a micro event leaves it where it was
pub record Spares (id : ℕ) (body : Body) (d : Done) : Type 0 where
  pub same : IsUnnamed id d.acts → SameAt id (own_of body) (own_of d.body)

-- ---- tests

pub or_false : (a b : Bool) → b ≡ false → (a || b) ≡ a
or_false true b is = refl
or_false false b is = is

pub apart_ids : (id : ℕ) (first last : List ℕ) → has_id id (first ++ last) ≡ false → (has_id id first ≡ false) × (has_id id last ≡ false)
apart_ids id first last none = or_parts (has_id id first) (has_id id last) (sym (has_id-append id first last) ∙ none)

pub apart_is : {A : Type 0} (id : ℕ) (ids_of_one : A → List ℕ) (first last : List A) → has_id id (flat_map ids_of_one (first ++ last)) ≡ false → (has_id id (flat_map ids_of_one first) ≡ false) × (has_id id (flat_map ids_of_one last) ≡ false)
apart_is id ids_of_one first last none = apart_ids id (flat_map ids_of_one first) (flat_map ids_of_one last) (ap (has_id id) (sym (flat_map-append ids_of_one first last)) ∙ none)

apart : (id : ℕ) (first last : List Act) → IsUnnamed id (first ++ last) → IsUnnamed id first × IsUnnamed id last
apart id first last none = apart_is id ids_of_act first last none

-- the first id that acts name is another
another : (other id : ℕ) (ids : List ℕ) → has_id id (other ∷ ids) ≡ false → (other == id) ≡ false
another other id ids none = (or_parts (other == id) (has_id id ids) none).0

-- an id more in front, and one at the back
in_front : (other id : ℕ) (ids : List ℕ) → (other == id) ≡ false → has_id id (other ∷ ids) ≡ has_id id ids
in_front other id ids is = ap (λ (b : Bool). b || has_id id ids) is

at_back : (other id : ℕ) (ids : List ℕ) → (other == id) ≡ false → has_id id (ids ++ other ∷ []) ≡ has_id id ids
at_back other id ids is = has_id-append id ids (other ∷ []) ∙ or_false (has_id id ids) (has_id id (other ∷ [])) (in_front other id [] is)

-- ---- a micro event, and what is composed of them

spares_still : (id : ℕ) (body : Body) → Spares id body (stays body)
spares_still id body = record { same = λ _. same_still id (own_of body) }

spares_told : (id : ℕ) (body : Body) (told : List Act) → Spares id body (done body told)
spares_told id body told = record { same = λ _. same_still id (own_of body) }

spares_behind : (id : ℕ) (body : Body) (told : List Act) (d : Done) → Spares id body d → Spares id body (behind told d)
spares_behind id body told d k = record { same = λ none. k.same (apart id told d.acts none).1 }

-- one after the other
spares_both : (id : ℕ) (body : Body) (one two : Done) → Spares id body one
    → Spares id one.body two → Spares id body (done two.body (one.acts ++ two.acts))
spares_both id body one two a b = record {
  same = λ none.
      let parts = apart id one.acts two.acts none in
      let first = a.same parts.0 in
      let next = b.same parts.1 in
      record {
        kept = next.kept ∙ first.kept;
        held = next.held ∙ first.held;
        taking = next.taking ∙ first.taking;
      };
}

-- a session changes first
spares_session : (id : ℕ) (side : Side) (s : SessionEnd) (body : Body) (d : Done) → Spares id (with_session side s body) d → Spares id body d
spares_session id Entry s body d k = record { same = λ none. k.same none }
spares_session id Exit s body d k = record { same = λ none. k.same none }

-- ---- the halves: a row that moves a record names its board

out_goes : (id mine : ℕ) (kept : List ℕ) (taking : Option ℕ) → (mine == id) ≡ false → SameAt id (record { kept = kept; held = Some mine; taking = taking }) (record { kept = kept; held = None; taking = taking })
out_goes id mine kept taking is = record { kept = refl; held = sym is; taking = refl }

out_returns : (id mine : ℕ) (kept : List ℕ) (taking : Option ℕ) → (mine == id) ≡ false → SameAt id (record { kept = kept; held = Some mine; taking = taking }) (record { kept = mine ∷ kept; held = None; taking = taking })
out_returns id mine kept taking is = record { kept = in_front mine id kept is; held = sym is; taking = refl }

out_takes : (id mine : ℕ) (kept : List ℕ) (taking : Option ℕ) → (mine == id) ≡ false → SameAt id (record { kept = mine ∷ kept; held = None; taking = taking }) (record { kept = kept; held = Some mine; taking = taking })
out_takes id mine kept taking is = record { kept = sym (in_front mine id kept is); held = is; taking = refl }

in_takes : (id mine : ℕ) (kept : List ℕ) (held : Option ℕ) → (mine == id) ≡ false → SameAt id (record { kept = kept; held = held; taking = None }) (record { kept = kept; held = held; taking = Some mine })
in_takes id mine kept held is = record { kept = refl; held = refl; taking = is }

in_goes : (id mine : ℕ) (kept : List ℕ) (held : Option ℕ) → (mine == id) ≡ false → SameAt id (record { kept = kept; held = held; taking = Some mine }) (record { kept = kept; held = held; taking = None })
in_goes id mine kept held is = record { kept = refl; held = refl; taking = sym is }

behind_ids : (kept : List Record) (board : Record) → ids_of (kept ++ board ∷ []) ≡ ids_of kept ++ board.id ∷ []
behind_ids kept board = map-append (λ (b : Record). b.id) kept (board ∷ [])

in_settles : (id : ℕ) (board : Record) (kept : List Record) (held : Option ℕ) → (board.id == id) ≡ false → SameAt id (record { kept = ids_of kept; held = held; taking = Some board.id }) (record { kept = ids_of (kept ++ board ∷ []); held = held; taking = None })
in_settles id board kept held is = record { kept = ap (has_id id) (behind_ids kept board) ∙ at_back board.id id (ids_of kept) is; held = refl; taking = sym is }

-- the outlet, at an input that is no start
row_same : (id : ℕ) (desk : Desk) (intake : InState) {s : OutState} {input : OutInput} {r : OutRow} (kept : List Record) → IsOutletRow s input r → IsNoStart input
    → IsUnnamed id (out_told desk kept r.act) → SameAt id (own_by kept s intake) (own_by (given_back r.act.back kept) r.after intake)
row_same id desk intake kept (out_opens _) plain none = absurd plain
row_same id desk intake kept (refuses _) plain none = absurd plain
row_same id desk intake kept (stop_home {board = b} _) plain none = out_returns id b.id (ids_of kept) (id_of (in_held intake)) (another b.id id [] none)
row_same id desk intake kept (left_moving {board = b}) plain none = out_goes id b.id (ids_of kept) (id_of (in_held intake)) (another b.id id [] none)
row_same id desk intake kept (left_stuck {board = b}) plain none = out_goes id b.id (ids_of kept) (id_of (in_held intake)) (another b.id id [] none)
row_same id desk intake kept (left_stopped {board = b}) plain none = out_goes id b.id (ids_of kept) (id_of (in_held intake)) (another b.id id [] none)
row_same id desk intake kept (left_unlinked {board = b}) plain none = out_goes id b.id (ids_of kept) (id_of (in_held intake)) (another b.id id [] none)
row_same id desk intake kept (back_stuck {board = b}) plain none = out_returns id b.id (ids_of kept) (id_of (in_held intake)) (another b.id id [] none)
row_same id desk intake kept (back_stopped {board = b}) plain none = out_returns id b.id (ids_of kept) (id_of (in_held intake)) (another b.id id [] none)
row_same id desk intake kept (back_unlinked {board = b}) plain none = out_returns id b.id (ids_of kept) (id_of (in_held intake)) (another b.id id [] none)
row_same id desk intake kept (taken_moving {board = b}) plain none = out_goes id b.id (ids_of kept) (id_of (in_held intake)) (another b.id id [] none)
row_same id desk intake kept (taken_stuck {board = b}) plain none = out_goes id b.id (ids_of kept) (id_of (in_held intake)) (another b.id id [] none)
row_same id desk intake kept (taken_stopped {board = b}) plain none = out_goes id b.id (ids_of kept) (id_of (in_held intake)) (another b.id id [] none)
row_same id desk intake kept (taken_unlinked {board = b}) plain none = out_goes id b.id (ids_of kept) (id_of (in_held intake)) (another b.id id [] none)
row_same id desk intake kept (fault_home {board = b}) plain none = out_returns id b.id (ids_of kept) (id_of (in_held intake)) (another b.id id [] none)
row_same id desk intake kept (closed_home {board = b}) plain none = out_returns id b.id (ids_of kept) (id_of (in_held intake)) (another b.id id [] none)
row_same id desk intake kept _ plain none = record { kept = refl; held = refl; taking = refl }

-- the outlet, at a start
start_same : (id : ℕ) (desk : Desk) (intake : InState) {s : OutState} {named : ℕ} {r : OutRow} (opening : Bool) (kept : List Record) → IsOutletRow s (out_input.Start named (opening_board opening kept)) r
    → IsUnnamed id (out_told desk (behind_opening opening kept) r.act) → SameAt id (own_by kept s intake) (own_by (given_back r.act.back (behind_opening opening kept)) r.after intake)
start_same id desk intake false kept (refuses _) none = record { kept = refl; held = refl; taking = refl }
start_same id desk intake true [] (refuses _) none = record { kept = refl; held = refl; taking = refl }
start_same id desk intake true (b ∷ bs) (out_opens _) none = out_takes id b.id (ids_of bs) (id_of (in_held intake)) (another b.id id [] none)

in_row_same : (id : ℕ) (desk : Desk) (outlet : OutState) {s : InState} {input : InInput} {r : InRow} (kept : List Record) → IsIntakeRow s input r
    → IsUnnamed id (in_told desk r.act) → SameAt id (own_by kept outlet s) (own_by (settled r.act.keep kept) outlet r.after)
in_row_same id desk outlet kept (starts_transport {board = b}) none = in_takes id b.id (ids_of kept) (id_of (held outlet)) (another b.id id [] none)
in_row_same id desk outlet kept (running_drop {board = b} _ _ _) none = in_goes id b.id (ids_of kept) (id_of (held outlet)) (another b.id id [] none)
in_row_same id desk outlet kept (hears_keep {board = b} _ _) none = in_settles id b kept (id_of (held outlet)) (another b.id id [] none)
in_row_same id desk outlet kept (hears_drop {board = b} _ _) none = in_goes id b.id (ids_of kept) (id_of (held outlet)) (another b.id id [] none)
in_row_same id desk outlet kept (full_heard {board = b}) none = in_settles id b kept (id_of (held outlet)) (another b.id id [] none)
in_row_same id desk outlet kept (taken_heard {board = b}) none = in_goes id b.id (ids_of kept) (id_of (held outlet)) (another b.id id [] none)
in_row_same id desk outlet kept (stopped_keep {board = b} _ _) none = in_settles id b kept (id_of (held outlet)) (another b.id id [] none)
in_row_same id desk outlet kept (stopped_drop {board = b} _ _) none = in_goes id b.id (ids_of kept) (id_of (held outlet)) (another b.id id [] none)
in_row_same id desk outlet kept (waiting_settles {board = b} _ _) none = in_settles id b kept (id_of (held outlet)) (another b.id id [] none)
in_row_same id desk outlet kept (waiting_home {board = b} _ _) none = in_goes id b.id (ids_of kept) (id_of (held outlet)) (another b.id id [] none)
in_row_same id desk outlet kept (waiting_taken {board = b} _ _) none = in_goes id b.id (ids_of kept) (id_of (held outlet)) (another b.id id [] none)
in_row_same id desk outlet kept (in_closed_home {board = b}) none = in_goes id b.id (ids_of kept) (id_of (held outlet)) (another b.id id [] none)
in_row_same id desk outlet kept (closed_stopped_home {board = b}) none = in_goes id b.id (ids_of kept) (id_of (held outlet)) (another b.id id [] none)
in_row_same id desk outlet kept (closed_stopped_gone {board = b}) none = in_goes id b.id (ids_of kept) (id_of (held outlet)) (another b.id id [] none)
in_row_same id desk outlet kept (stands_settles {board = b}) none = in_settles id b kept (id_of (held outlet)) (another b.id id [] none)
in_row_same id desk outlet kept _ none = record { kept = refl; held = refl; taking = refl }

-- ---- by hand

-- a test of two numbers that are one
same_test : (mine other id : ℕ) → (mine == other) ≡ true → (other == id) ≡ false → (mine == id) ≡ false
same_test mine other id same is = ap (λ (n : ℕ). n == id) (eqb-true mine other same) ∙ is

without_has : (test : Bool) (id other : ℕ) (board : Record) (boards : List Record) → (board.id == other) ≡ test → (other == id) ≡ false → has_id id (ids_of (without other boards)) ≡ has_id id (ids_of boards)
    → has_id id (ids_of (without other (board ∷ boards))) ≡ has_id id (ids_of (board ∷ boards))
without_has true id other board boards test is same = rw test (sym (in_front board.id id (ids_of boards) (same_test board.id other id test is)))
without_has false id other board boards test is same = rw test (ap (λ (b : Bool). (board.id == id) || b) same)

has-without : (id other : ℕ) (kept : List Record) → (other == id) ≡ false → has_id id (ids_of (without other kept)) ≡ has_id id (ids_of kept)
has-without id other [] is = refl
has-without id other (board ∷ boards) is = without_has (board.id == other) id other board boards refl is (has-without id other boards is)

instead_has : (test : Bool) (id old : ℕ) (new board : Record) (boards : List Record) → (board.id == old) ≡ test → (old == id) ≡ false → (new.id == id) ≡ false → has_id id (ids_of (with_instead old new boards)) ≡ has_id id (ids_of boards)
    → has_id id (ids_of (with_instead old new (board ∷ boards))) ≡ has_id id (ids_of (board ∷ boards))
instead_has true id old new board boards test is differs same = rw test (in_front new.id id (ids_of boards) differs ∙ sym (in_front board.id id (ids_of boards) (same_test board.id old id test is)))
instead_has false id old new board boards test is differs same = rw test (ap (λ (b : Bool). (board.id == id) || b) same)

has-instead : (id old : ℕ) (new : Record) (kept : List Record) → (old == id) ≡ false → (new.id == id) ≡ false → has_id id (ids_of (with_instead old new kept)) ≡ has_id id (ids_of kept)
has-instead id old new [] is differs = refl
has-instead id old new (board ∷ boards) is differs = instead_has (board.id == old) id old new board boards refl is differs (has-instead id old new boards is differs)

by_hand : (id : ℕ) (body : Body) (kept : List Record) (act : Act) → (IsUnnamed id (act ∷ []) → has_id id (ids_of kept) ≡ has_id id (ids_of body.kept)) → Spares id body (done (record body { kept = kept }) (act ∷ []))
by_hand id body kept act same = record { same = λ none. record { kept = same none; held = refl; taking = refl } }

hand_spares : {desk : Desk} {event : Event} {body : Body} {kept : List Record} {act : Act}
    (id : ℕ) → ByHand desk event body kept act
    → Spares id body (done (with_kept kept body) (act ∷ []))
hand_spares {desk = desk} id (hand_inserts {id = new} {barcode = barcode} {body = body}) =
    let board = plain_record new desk.name barcode in
    by_hand id body (body.kept ++ board ∷ []) (acts.Inserts new) (λ none.
    ap (has_id id) (behind_ids body.kept board)
    ∙ at_back new id (ids_of body.kept) (another new id [] none))
hand_spares id (hand_removes {id = other} {body = body} is) =
    by_hand id body (without other body.kept) (acts.Removes other) (λ none.
    has-without id other body.kept (another other id [] none))
hand_spares {desk = desk} id (hand_replaces {old = old} {new = new} {body = body} is) =
    let board = plain_record new desk.name None in
    by_hand id body (with_instead old board body.kept) (acts.Replaces old new) (λ none.
    let two = or_parts (old == id) (has_id id (new ∷ [])) none in
    has-instead id old board body.kept two.0 (another new id [] two.1))
hand_spares id (hand_gives {id = other} {to = to} {body = body} is) =
    by_hand id body (without other body.kept) (acts.Gives other to) (λ none.
    has-without id other body.kept (another other id [] none))
hand_spares id (hand_gets {board = board} {body = body}) =
    by_hand id body (body.kept ++ board ∷ []) (acts.Gets board.id) (λ none.
    ap (has_id id) (behind_ids body.kept board)
    ∙ at_back board.id id (ids_of body.kept) (another board.id id [] none))
hand_spares id (hand_changes {body = body} {id = other} {change = change} {act = act} deed) =
    by_hand id body (with_changed other change body.kept) act (λ _.
    ap (has_id id) (sym (ids_changed other change body.kept (changes_leave deed))))

-- ---- the pieces of a step

spares : {desk : Desk} {cause : Cause} {body : Body} {d : Done} (id : ℕ)
    → Made desk cause body d → Spares id body d
spares id (made_none {body = body}) = spares_still id body
spares id (made_both {body = body} {one = one} {two = two} first next) =
    spares_both id body one two (spares id first) (spares id next)
spares id (made_word is on made) = spares id made
spares id (made_act {body = body} {act = act} tells) = spares_told id body (act ∷ [])
spares id (made_row {side = side} {row = row} {body = body} to shape made) =
    spares_session id side row.after body _ (spares id made)
spares id (made_passed {side = side} {row = row} {body = body} shape first on made) =
    spares_session id side row.after body _ (spares id made)
spares id (made_close {side = side} {body = body} talk made) =
    spares_behind id body (acts.Closes side ∷ []) _ (spares id made)
spares id (made_notice {side = side} {body = body} on made) =
    spares_behind id body (acts.Notices side ∷ []) _
    (spares_session id side (at_rest (session_at side body).role) body _ (spares id made))
spares {desk = desk} id (made_breach {side = side} {text = text} {body = body} made) =
    spares_behind id body (acts.Breaches side text ∷ (sends desk side (notification 1 Fatal text)
    ++ acts.Closes side ∷ [])) _
    (spares_session id side (at_rest (session_at side body).role) body _ (spares id made))
spares {desk = desk} id (made_start {id = named} {body = body} says on shape) = record {
  same = λ none. start_same id desk body.intake (would_open body.outlet named) body.kept shape none;
}
spares {desk = desk} id (made_outlet {body = body} to shape) =
    record { same = λ none. row_same id desk body.intake body.kept shape (no_start to) none }
spares {desk = desk} id (made_intake {body = body} to shape) =
    record { same = λ none. in_row_same id desk body.outlet body.kept shape none }
spares id (made_by_hand hand) = hand_spares id hand
spares id (made_will {side = Entry} sets) =
    record { same = λ _. record { kept = refl; held = refl; taking = refl } }
spares id (made_will {side = Exit} sets) =
    record { same = λ _. record { kept = refl; held = refl; taking = refl } }

-- ---- the step

plain_step_spares : (id : ℕ) (desk : Desk) (unread : List Seen) (event : Event) (body : Body)
    → Spares id body (plain_step desk unread event body)
plain_step_spares id desk unread event body =
    let step = step_made desk unread event body in
    let read = all_read desk unread body in
    let met = event_did desk event read.body in
    let last = announces desk met.body in
    spares_both id body read (done last.body (met.acts ++ last.acts)) (spares id step.read)
    (spares_both id read.body met last (spares id step.met) (spares id step.announced))

pub step_spares : (id : ℕ) (desk : Desk) (unread : List Seen) (event : Event) (body : Body)
    → Spares id body (machine_step desk unread event body)
step_spares id desk unread event body =
    let plain = plain_step desk unread event body in
    let named = ids_with_tells desk (watch_of desk body) plain.acts in
    record {
      same = λ none.
          (plain_step_spares id desk unread event body).same (ap (has_id id) (sym named) ∙ none);
    }
