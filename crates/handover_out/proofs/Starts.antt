-- Laws on starts, and on what is offered over a list of inputs.
use Rattle.std.proofs.Common.{◌≡◌, ◌↔◌, ◌∙◌, ◌&&◌, not, sym, ap, ℕ, Bool, true, false, List, [], ◌∷◌, Option, Some, None, IsSome, IsTrue, IfSome, is_some, unwrap_or, refl}
use mathlib.Core.Bool.{and-false}
use Rattle.board_record.specs.declared.record.Record.{Record}
use Rattle.handover_out.specs.declared.act.OutAct.{OutAct}
use Rattle.handover_out.specs.declared.input.OutInput.{OutInput}
use Rattle.handover_out.specs.declared.input.OutInput.TheVariants.{Start}
use Rattle.handover_out.specs.declared.phase.Phase.{Phase}
use Rattle.handover_out.specs.declared.phase.Phase.TheVariants.{Idle}
use Rattle.handover_out.specs.State.{OutState, would_open}
use Rattle.handover_out.specs.Row.{OutRow, outlet_row, row_if}
use Rattle.handover_out.specs.Given.{IsGiven}
use Rattle.handover_out.specs.Run.{stay, step, after_all}
use Rattle.handover_out.specs.Offers.{is_opening, is_refusing, takes_start, refuses_at, offered_at, ready_at, offered_after_all, ready_after_all}
use Rattle.handover_out.specs.Table.{state_of, IsOutletRow, refuses}
use Rattle.handover_out.proofs.Rows.{rows_of, by_row, test_other}
use Rattle.handover_out.proofs.OutletLaws.{opens_exactly, row_clears}

-- Refusals

abbrev Refuses : OutState → OutInput → OutRow → Type 0
Refuses s input row = is_refusing row.act.deed ≡ refuses_at s input

row_refuses : (s : OutState) (input : OutInput) (row : OutRow) → IsOutletRow s input row → Refuses s input row
row_refuses _ _ _ (refuses {o = o} {id = id} other) = sym (test_other o id other)
row_refuses _ _ _ _ = refl

refusing_test : (test : Bool) (s after : OutState) (act : OutAct) → is_refusing act.deed ≡ true
    → is_refusing (unwrap_or (row_if test after act) (stay s)).act.deed ≡ test
refusing_test true s after act refusing = refusing
refusing_test false s after act _ = refl

refuses_start : (phase : Phase) (o t : Option ℕ) (r : Bool) (id : ℕ)
    → is_refusing (step (state_of phase o t r) (Start id None)).act.deed ≡ refuses_at (state_of phase o t r) (Start id None)
refuses_start Idle o t r id = refusing_test (r && not (would_open (state_of Idle o t r) id)) _ _ _ refl
refuses_start _ _ _ _ _ = refl

pub refuses_exactly : (s : OutState) (input : OutInput) → is_refusing (step s input).act.deed ≡ refuses_at s input
refuses_exactly s (Start id None) = refuses_start s.phase s.offered s.touched s.ready id
refuses_exactly s input = by_row Refuses s input (outlet_row s input) (row_refuses s input) refl (rows_of s input)

-- A start that is given brings its board exactly where it opens

never : false ≡ true → ⊥
never same = cc

given_board : (board : Option Record) (test : Bool) → IsSome board ↔ IsTrue test → is_some board ≡ test
given_board (Some board) true given = refl
given_board (Some board) false given = absurd (never (given.0 refl))
given_board None true given = absurd (never (given.1 refl))
given_board None false given = refl

opens_by : (s : OutState) (id : ℕ) (board : Option Record) → is_some board ≡ would_open s id
    → is_opening (step s (Start id board)).act.deed ≡ would_open s id
opens_by s id (Some board) _ = opens_exactly s (Start id (Some board))
opens_by s id None is = opens_exactly s (Start id None) ∙ is

pub opens_given : (s : OutState) (id : ℕ) (board : Option Record) → IsGiven s (Start id board)
    → is_opening (step s (Start id board)).act.deed ≡ would_open s id
opens_given s id board given = opens_by s id board (given_board board (would_open s id) given.0)

refuses_by : (s : OutState) (id : ℕ) (board : Option Record) → is_some board ≡ would_open s id
    → is_refusing (step s (Start id board)).act.deed ≡ (takes_start s && not (would_open s id))
refuses_by s id (Some board) is =
    refuses_exactly s (Start id (Some board)) ∙ sym (ap (λ opening. takes_start s && not opening) (sym is) ∙ and-false (takes_start s))
refuses_by s id None _ = refuses_exactly s (Start id None)

pub refuses_given : (s : OutState) (id : ℕ) (board : Option Record) → IsGiven s (Start id board)
    → is_refusing (step s (Start id board)).act.deed ≡ (takes_start s && not (would_open s id))
refuses_given s id board given = refuses_by s id board (given_board board (would_open s id) given.0)

starts_by : (phase : Phase) (o t : Option ℕ) (r : Bool) (id : ℕ) (board : Option Record) → is_some board ≡ would_open (state_of phase o t r) id
    → is_some (outlet_row (state_of phase o t r) (Start id board)) ≡ takes_start (state_of phase o t r)
starts_by Idle o t true id (Some board) is = rw (sym is) refl
starts_by Idle o t false id (Some board) is = cc
starts_by Idle o t true id None is = rw (sym is) refl
starts_by Idle o t false id None is = refl
starts_by _ _ _ _ _ _ _ = refl

pub starts_given : (s : OutState) (id : ℕ) (board : Option Record) → IsGiven s (Start id board)
    → is_some (outlet_row s (Start id board)) ≡ takes_start s
starts_given s id board given = starts_by s.phase s.offered s.touched s.ready id board (given_board board (would_open s id) given.0)

-- Offers and readiness over a list

cleared_at : (s : OutState) (input : OutInput) (found : Option OutRow) → IfSome found (IsOutletRow s input)
    → ((unwrap_or found (stay s)).after.offered ≡ offered_at (is_some found) s.offered input) × ((unwrap_or found (stay s)).after.ready ≡ ready_at (is_some found) s.ready input)
cleared_at s input None _ = (refl, refl)
cleared_at s input (Some row) shape = let clears = row_clears s input row shape in (clears.0, clears.1)

pub offered_all : (s : OutState) (inputs : List OutInput) → (after_all s inputs).offered ≡ offered_after_all s.offered s inputs
offered_all s [] = refl
offered_all s (input ∷ inputs) =
    offered_all (step s input).after inputs
    ∙ ap (λ offered. offered_after_all offered (step s input).after inputs) (cleared_at s input (outlet_row s input) (rows_of s input)).0

pub ready_all : (s : OutState) (inputs : List OutInput) → (after_all s inputs).ready ≡ ready_after_all s.ready s inputs
ready_all s [] = refl
ready_all s (input ∷ inputs) =
    ready_all (step s input).after inputs
    ∙ ap (λ ready. ready_after_all ready (step s input).after inputs) (cleared_at s input (outlet_row s input) (rows_of s input)).1
