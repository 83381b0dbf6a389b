-- Laws on the state of an end: where a message is passed on, where the end closes, where it comes to stand.
use Rattle.std.proofs.Common.{◌≡◌, ◌≢◌, ◌≤◌, ◌↔◌, ◌⊎◌, ◌&&◌, not, ℕ, Bool, true, false, Option, Some, refl, sym, ◌∙◌, inl, inr, nat_lt}
use Rattle.line_base.specs.declared.states.Role.TheVariants.{Upstream, Downstream}
use Rattle.session_core.specs.declared.state.SessionState.{SessionState}
use Rattle.session_core.specs.declared.state.SessionState.TheVariants.{NotConnected, Handshake, Standing}
use Rattle.session_core.specs.declared.actions.Actions.{Actions}
use Rattle.session_core.specs.End.{SessionEnd, at_rest, raised}
use Rattle.session_core.specs.Input.{Input, closed}
use Rattle.session_core.specs.Passing.{pass_open}
use Rattle.session_core.specs.Row.{SessionRow, session_row, row}
use Rattle.session_core.specs.States.{closes, closes_at, stands_at, state_after, tells_intake, is_upstream}
use Rattle.session_core.specs.Table.{to, IsSessionRow, opens_downstream, opens_upstream, refuses_second, stands_upstream, is_unsettled, stands_downstream, answers, is_answered, is_alive, is_notified, passes_over, asks, gives_up_handshake, gives_up_standing, waits_in_handshake, waits_standing, shuts_down, is_closed}
use Rattle.session_core.proofs.Rows.{row_is, raised_most, test_five, five}
use Rattle.session_core.proofs.RowLaws.{connected, shakes_apart, stands_apart}

-- what is passed on

row_open : (s : SessionEnd) (input : Input) (row : SessionRow) → IsSessionRow s input row → pass_open row.actions.first row.after.state ≡ true
row_open _ _ _ opens_downstream = refl
row_open _ _ _ _ = refl

pub pass_opens : (s after : SessionEnd) (input : Input) (actions : Actions) → session_row s input ≡ row after actions → pass_open actions.first after.state ≡ true
pass_opens s after input actions same = row_open s input (to after actions) (row_is s input (to after actions) same)

-- closing

unwatched : (j : ℕ) (listed silent : Bool) → nat_lt 4 j ≡ silent → j ≤ 5 → (j ≡ 5 → listed ≡ false) → (nat_lt 4 j && listed) ≡ false
unwatched j listed true test most none = let unlisted : listed ≡ false = none (five j most test) in rw (test, unlisted) refl
unwatched j listed false test most none = rw test refl

row_closes : (s : SessionEnd) (input : Input) (row : SessionRow) → IsSessionRow s input row → closes row.actions ≡ closes_at s input
row_closes _ _ _ (asks _ same) = rw same refl
row_closes _ _ _ (gives_up_handshake same) = rw same refl
row_closes _ _ _ (gives_up_standing same listed) = rw (same, listed) refl
row_closes _ _ _ (waits_in_handshake {k = k} _ silent) = rw (test_five (raised k) (raised_most k) silent) refl
row_closes _ _ _ (waits_standing {k = k} {f = f} _ listed) = sym (unwatched (raised k) f.check_alive _ refl (raised_most k) listed)
row_closes _ _ _ _ = refl

pub closes_exactly : (s : SessionEnd) (input : Input) (row : SessionRow) → session_row s input ≡ Some row → closes row.actions ≡ closes_at s input
closes_exactly s input row same = row_closes s input row (row_is s input row same)

-- the state

row_state : (s : SessionEnd) (input : Input) (row : SessionRow) → IsSessionRow s input row → row.after.state ≡ state_after s input
row_state _ _ _ (asks _ same) = rw same refl
row_state _ _ _ (gives_up_handshake same) = rw same refl
row_state _ _ _ (gives_up_standing same listed) = rw (same, listed) refl
row_state _ _ _ (waits_in_handshake {k = k} _ silent) = rw (test_five (raised k) (raised_most k) silent) refl
row_state _ _ _ (waits_standing {k = k} {f = f} _ listed) = rw (unwatched (raised k) f.check_alive _ refl (raised_most k) listed) refl
row_state _ _ _ _ = refl

pub state_exactly : (s : SessionEnd) (input : Input) (row : SessionRow) → session_row s input ≡ Some row → row.after.state ≡ state_after s input
state_exactly s input row same = row_state s input row (row_is s input row same)

-- no connection

row_rests : (s : SessionEnd) (input : Input) (row : SessionRow) → IsSessionRow s input row → row.after.state ≡ NotConnected
    → (row.after ≡ at_rest s.role) × ((closes row.actions ≡ true) ⊎ (input ≡ closed))
row_rests _ _ _ is_unsettled _ = (refl, inl refl)
row_rests _ _ _ (gives_up_handshake _) _ = (refl, inl refl)
row_rests _ _ _ (gives_up_standing _ _) _ = (refl, inl refl)
row_rests _ _ _ (shuts_down _) _ = (refl, inl refl)
row_rests _ _ _ (is_closed _) _ = (refl, inr refl)
row_rests _ _ _ opens_downstream none = absurd (shakes_apart none)
row_rests _ _ _ opens_upstream none = absurd (shakes_apart none)
row_rests _ _ _ (refuses_second there) none = absurd (connected _ there none)
row_rests _ _ _ (answers there) none = absurd (connected _ there none)
row_rests _ _ _ (is_answered there) none = absurd (connected _ there none)
row_rests _ _ _ (is_alive there) none = absurd (connected _ there none)
row_rests _ _ _ (is_notified there) none = absurd (connected _ there none)
row_rests _ _ _ (passes_over there) none = absurd (connected _ there none)
row_rests _ _ _ (asks there _) none = absurd (connected _ there none)
row_rests _ _ _ (waits_in_handshake _ _) none = absurd (shakes_apart none)
row_rests _ _ _ _ none = absurd (stands_apart none)

pub rests_exactly : (s : SessionEnd) (input : Input) (row : SessionRow) → session_row s input ≡ Some row → row.after.state ≡ NotConnected
    → (row.after ≡ at_rest s.role) × ((closes row.actions ≡ true) ⊎ (input ≡ closed))
rests_exactly s input row same = row_rests s input row (row_is s input row same)

row_closed : (s : SessionEnd) (input : Input) (row : SessionRow) → IsSessionRow s input row → closes row.actions ≡ true → row.after ≡ at_rest s.role
row_closed _ _ _ is_unsettled _ = refl
row_closed _ _ _ (gives_up_handshake _) _ = refl
row_closed _ _ _ (gives_up_standing _ _) _ = refl
row_closed _ _ _ (shuts_down _) _ = refl
row_closed _ _ _ _ other = cc

pub closed_rests : (s : SessionEnd) (input : Input) (row : SessionRow) → session_row s input ≡ Some row → closes row.actions ≡ true → row.after ≡ at_rest s.role
closed_rests s input row same = row_closed s input row (row_is s input row same)

-- coming to stand

row_stands : (s : SessionEnd) (input : Input) (row : SessionRow) → IsSessionRow s input row → s.state ≢ Standing → (row.after.state ≡ Standing) ↔ (stands_at s input ≡ true)
row_stands _ _ _ stands_upstream _ = (λ _. refl, λ _. refl)
row_stands _ _ _ stands_downstream _ = (λ _. refl, λ _. refl)
row_stands _ _ _ opens_downstream _ = (λ is. cc, λ is. cc)
row_stands _ _ _ opens_upstream _ = (λ is. cc, λ is. cc)
row_stands _ _ _ is_unsettled _ = (λ is. cc, λ is. cc)
row_stands _ _ _ (gives_up_handshake _) _ = (λ is. cc, λ is. cc)
row_stands _ _ _ (gives_up_standing _ _) _ = (λ is. cc, λ is. cc)
row_stands _ _ _ (shuts_down _) _ = (λ is. cc, λ is. cc)
row_stands _ _ _ (is_closed _) _ = (λ is. cc, λ is. cc)
row_stands _ _ _ _ other = (λ is. absurd (other is), λ is. cc)

pub stands_exactly : (s : SessionEnd) (input : Input) (row : SessionRow) → session_row s input ≡ Some row → s.state ≢ Standing
    → (row.after.state ≡ Standing) ↔ (stands_at s input ≡ true)
stands_exactly s input row same = row_stands s input row (row_is s input row same)

row_tells : (s : SessionEnd) (input : Input) (row : SessionRow) → IsSessionRow s input row → tells_intake row.actions ≡ (stands_at s input && not (is_upstream s.role))
row_tells _ _ _ opens_downstream = refl
row_tells _ _ _ _ = refl

pub tells_exactly : (s : SessionEnd) (input : Input) (row : SessionRow) → session_row s input ≡ Some row → tells_intake row.actions ≡ (stands_at s input && not (is_upstream s.role))
tells_exactly s input row same = row_tells s input row (row_is s input row same)
