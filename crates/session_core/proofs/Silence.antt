-- Laws on silent ticks.
use Rattle.std.proofs.Common.{◌≡◌, ◌≤◌, ℕ, zero, suc, Bool, true, false, cond, List, [], ◌∷◌, Option, Some, None, refl, sym, subst, nat_eq, arith}
use mathlib.Core.Bool.{and-false}
use Rattle.line_base.specs.declared.states.Role.{Role}
use Rattle.hermes_horizontal.specs.declared.message.Features.{Features}
use Rattle.hermes_horizontal.specs.declared.message.Horizontal.{Horizontal}
use Rattle.session_core.specs.declared.state.SessionState.{SessionState}
use Rattle.session_core.specs.declared.state.SessionState.TheVariants.{NotConnected, Handshake, Standing}
use Rattle.session_core.specs.End.{SessionEnd, at_rest, raised, grown}
use Rattle.session_core.specs.Input.{Input, heard}
use Rattle.session_core.specs.Row.{SessionRow, session_row, ticked}
use Rattle.session_core.specs.Run.{after_row, step, after_all, after_ticks}
use Rattle.session_core.specs.Table.{end_of, IsSessionRow, refuses_second, is_unsettled, asks, waits_in_handshake, waits_standing}
use Rattle.session_core.proofs.Rows.{row_is, raised_most}
use Rattle.session_core.proofs.RowLaws.{connected, shakes_apart, stands_apart}

-- a state up to the fourth tick, and none after the fifth
abbrev Ends : Role → SessionState → ℕ → ℕ → Features → SessionState → Type 0
Ends role state silent pings peer before =
    ((after_ticks 4 (end_of role state silent pings peer)).state ≡ before) × ((after_ticks 5 (end_of role state silent pings peer)).state ≡ NotConnected)

pub handshake_ends : (s : SessionEnd) → s.state ≡ Handshake → s.silent ≡ 0
    → ((after_ticks 4 s).state ≡ Handshake) × ((after_ticks 5 s).state ≡ NotConnected)
handshake_ends s there fresh =
    subst (λ (state : SessionState). Ends s.role state s.silent s.pings s.peer Handshake) (sym there)
    (subst (λ (silent : ℕ). Ends s.role Handshake silent s.pings s.peer Handshake) (sym fresh) (refl, refl))

pub listed_ends : (s : SessionEnd) → s.state ≡ Standing → s.silent ≡ 0 → s.peer.check_alive ≡ true
    → ((after_ticks 4 s).state ≡ Standing) × ((after_ticks 5 s).state ≡ NotConnected)
listed_ends s there fresh listed =
    subst (λ (state : SessionState). Ends s.role state s.silent s.pings s.peer Standing) (sym there)
    (subst (λ (silent : ℕ). Ends s.role Standing silent s.pings s.peer Standing) (sym fresh)
    (subst (λ (alive : Bool). Ends s.role Standing 0 s.pings (record s.peer { check_alive = alive }) Standing) (sym listed) (refl, refl)))

-- a peer that is not watched

unlisted_tick : (role : Role) (k n j : ℕ) (f : Features) (asked : Bool) → f.check_alive ≡ false → nat_eq j 2 ≡ asked
    → (ticked (end_of role Standing k n f) j).after ≡ end_of role Standing j (cond asked (grown n) n) f
unlisted_tick role k n j f true unlisted test = rw (unlisted, and-false, test) refl
unlisted_tick role k n j f false unlisted test = rw (unlisted, and-false, test) refl

stays : (ticks : ℕ) (role : Role) (k n : ℕ) (f : Features) → f.check_alive ≡ false → (after_ticks ticks (end_of role Standing k n f)).state ≡ Standing
stays zero role k n f unlisted = refl
stays (suc ticks) role k n f unlisted =
    let after = unlisted_tick role k n (raised k) f (nat_eq (raised k) 2) unlisted refl in
    subst (λ (s : SessionEnd). (after_ticks ticks s).state ≡ Standing) (sym after) (stays ticks role (raised k) _ f unlisted)

pub unlisted_stays : (s : SessionEnd) (ticks : ℕ) → s.state ≡ Standing → s.peer.check_alive ≡ false → (after_ticks ticks s).state ≡ Standing
unlisted_stays s ticks there unlisted =
    subst (λ (state : SessionState). (after_ticks ticks (end_of s.role state s.silent s.pings s.peer)).state ≡ Standing) (sym there)
    (stays ticks s.role s.silent s.pings s.peer unlisted)

-- the count

row_anew : (s : SessionEnd) (message : Horizontal) (unsettled : Bool) (row : SessionRow) → IsSessionRow s (heard message unsettled) row → row.after.silent ≡ 0
row_anew _ _ _ _ is_unsettled = refl
row_anew _ _ _ _ _ = refl

pub heard_anew : (s : SessionEnd) (message : Horizontal) (unsettled : Bool) (row : SessionRow) → session_row s (heard message unsettled) ≡ Some row → row.after.silent ≡ 0
heard_anew s message unsettled row same = row_anew s message unsettled row (row_is s (heard message unsettled) row same)

row_opened : (s : SessionEnd) (input : Input) (row : SessionRow) → IsSessionRow s input row → s.state ≡ NotConnected → row.after.silent ≡ 0
row_opened _ _ _ (refuses_second there) none = absurd (connected _ there none)
row_opened _ _ _ (asks there _) none = absurd (connected _ there none)
row_opened _ _ _ (waits_in_handshake _ _) none = absurd (shakes_apart none)
row_opened _ _ _ (waits_standing _ _) none = absurd (stands_apart none)
row_opened _ _ _ _ none = refl

pub opened_anew : (s : SessionEnd) (input : Input) (row : SessionRow) → session_row s input ≡ Some row → s.state ≡ NotConnected → row.after.silent ≡ 0
opened_anew s input row same = row_opened s input row (row_is s input row same)

row_most : (s : SessionEnd) (input : Input) (row : SessionRow) → IsSessionRow s input row → s.silent ≤ 5 → row.after.silent ≤ 5
row_most _ _ _ (refuses_second _) most = most
row_most _ _ _ (asks {k = k} _ _) most = raised_most k
row_most _ _ _ (waits_in_handshake {k = k} _ _) most = raised_most k
row_most _ _ _ (waits_standing {k = k} _ _) most = raised_most k
row_most _ _ _ _ most = omega arith

step_most : (s : SessionEnd) (input : Input) (option : Option SessionRow) → session_row s input ≡ option → s.silent ≤ 5 → (after_row s option).silent ≤ 5
step_most s input None _ most = most
step_most s input (Some row) same most = row_most s input row (row_is s input row same) most

run_most : (s : SessionEnd) (inputs : List Input) → s.silent ≤ 5 → (after_all s inputs).silent ≤ 5
run_most s [] most = most
run_most s (input ∷ inputs) most = run_most (step s input) inputs (step_most s input (session_row s input) refl most)

pub silent_most : (role : Role) (inputs : List Input) → (after_all (at_rest role) inputs).silent ≤ 5
silent_most role inputs = run_most (at_rest role) inputs (omega arith)
