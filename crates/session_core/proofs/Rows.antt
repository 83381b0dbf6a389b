-- The plain program computes exactly the rows of the table.
use Rattle.std.proofs.Common.{◌≡◌, ◌≢◌, ◌≤◌, ◌&&◌, ◌↔◌, ℕ, Bool, true, false, cond, Option, Some, None, IfSome, refl, subst, arith, nat_eq, nat_lt}
use Rattle.std.proofs.lemmas.Bool.Decides.{nat_tests}
use Rattle.std.proofs.lemmas.Bool.{and_parts}
use Rattle.line_base.specs.declared.states.Role.{Role}
use Rattle.line_base.specs.declared.states.Role.TheVariants.{Upstream, Downstream}
use Rattle.hermes_horizontal.specs.declared.message.Features.{Features}
use Rattle.hermes_horizontal.specs.declared.message.Horizontal.TheVariants.{CheckAlive, ServiceDescription, Notification, BoardAvailable, RevokeBoardAvailable, MachineReady, RevokeMachineReady, StartTransport, StopTransport, TransportFinished, BoardForecast, QueryBoardInfo, SendBoardInfo, Other}
use Rattle.hermes_horizontal.specs.declared.message.Ping.TheVariants as ping
use Rattle.session_core.specs.declared.state.SessionState.{SessionState}
use Rattle.session_core.specs.declared.state.SessionState.TheVariants.{NotConnected, Handshake, Standing}
use Rattle.session_core.specs.End.{SessionEnd, at_rest, raised, grown, is_given_up}
use Rattle.session_core.specs.declared.actions.Action.TheVariants.{Close, Ping}
use Rattle.session_core.specs.Acts.{nothing, one}
use Rattle.session_core.specs.Input.{Input, opened, second, heard, tick, shutdown, closed}
use Rattle.session_core.specs.Row.{SessionRow, session_row, connected_row, ticked}
use Rattle.session_core.specs.Table.{end_of, to, IsConnected, in_handshake, in_standing, IsSessionRow, opens_downstream, opens_upstream, refuses_second, stands_upstream, is_unsettled, stands_downstream, answers, is_answered, is_alive, is_notified, passes_over, passes_ready, passes_unready, passes_start, passes_stop, passes_query, passes_available, passes_revoked, passes_finished, passes_forecast, passes_info, asks, gives_up_handshake, gives_up_standing, waits_in_handshake, waits_standing, shuts_down, is_closed}

-- the count of silent ticks

pub raised_most : (k : ℕ) → raised k ≤ 5
raised_most k = grind (arith, nat_tests)

pub five : (j : ℕ) → j ≤ 5 → nat_lt 4 j ≡ true → j ≡ 5
five j most test = grind (arith, nat_tests)

not_five : (j : ℕ) → nat_lt 4 j ≡ false → j ≢ 5
not_five j test same = grind (arith, nat_tests)

two : (j : ℕ) → nat_eq j 2 ≡ true → j ≡ 2
two j test = grind (arith, nat_tests)

not_two : (j : ℕ) → nat_eq j 2 ≡ false → j ≢ 2
not_two j test same = grind (arith, nat_tests)

-- and the tests of these facts

test_two : (j : ℕ) → j ≢ 2 → nat_eq j 2 ≡ false
test_two j other = grind (arith, nat_tests)

pub test_five : (j : ℕ) → j ≤ 5 → j ≢ 5 → nat_lt 4 j ≡ false
test_five j most other = grind (arith, nat_tests)

-- the two parts of a test

pub not_left : (a : Bool) → (a && true) ≡ false → a ≡ false
not_left true other = other
not_left false other = refl

unlisted : (j : ℕ) (listed : Bool) → (nat_lt 4 j && listed) ≡ false → j ≡ 5 → listed ≡ false
unlisted j listed other same = let not : (nat_lt 4 5 && listed) ≡ false = rw same at other in not

-- what a tick does, by its two tests

abbrev ticked_by : Role → SessionState → ℕ → ℕ → Features → Bool → Bool → SessionRow
ticked_by role state k n f given asked =
    cond given (to (at_rest role) (one Close)) (cond asked (to (end_of role state (raised k) (grown n) f) (one (Ping (grown n)))) (to (end_of role state (raised k) n f) nothing))

tick_by : (role : Role) (state : SessionState) (k n : ℕ) (f : Features) (given asked : Bool) → IsConnected state
    → is_given_up state (raised k) f ≡ given → nat_eq (raised k) 2 ≡ asked
    → IsSessionRow (end_of role state k n f) tick (ticked_by role state k n f given asked)
tick_by role _ k n f true _ in_handshake given _ = gives_up_handshake (five (raised k) (raised_most k) (and_parts _ _ given).0)
tick_by role _ k n f true _ in_standing given _ = gives_up_standing (five (raised k) (raised_most k) (and_parts _ _ given).0) (and_parts (nat_lt 4 (raised k)) _ given).1
tick_by role _ k n f false true in_handshake _ asked = asks in_handshake (two (raised k) asked)
tick_by role _ k n f false true in_standing _ asked = asks in_standing (two (raised k) asked)
tick_by role _ k n f false false in_handshake given asked = waits_in_handshake (not_two (raised k) asked) (not_five (raised k) (not_left _ given))
tick_by role _ k n f false false in_standing given asked = waits_standing (not_two (raised k) asked) (unlisted (raised k) f.check_alive given)

-- each row of the program is one of the table

rows : (input : Input) (state : SessionState) (role : Role) (k n : ℕ) (f : Features)
    → IfSome (session_row (end_of role state k n f) input) (IsSessionRow (end_of role state k n f) input)
rows opened NotConnected Downstream k n f = opens_downstream
rows opened NotConnected Upstream k n f = opens_upstream
rows second Handshake Upstream k n f = refuses_second in_handshake
rows second Standing Upstream k n f = refuses_second in_standing
rows (heard (ServiceDescription service) false) Handshake Upstream k n f = stands_upstream
rows (heard (ServiceDescription service) true) Handshake Upstream k n f = is_unsettled
rows (heard (ServiceDescription service) unsettled) Handshake Downstream k n f = stands_downstream
rows (heard (CheckAlive (Some ping.Ask) id) unsettled) Handshake role k n f = answers in_handshake
rows (heard (CheckAlive (Some ping.Ask) id) unsettled) Standing role k n f = answers in_standing
rows (heard (CheckAlive (Some ping.Answer) id) unsettled) Handshake role k n f = is_answered in_handshake
rows (heard (CheckAlive (Some ping.Answer) id) unsettled) Standing role k n f = is_answered in_standing
rows (heard (CheckAlive None id) unsettled) Handshake role k n f = is_alive in_handshake
rows (heard (CheckAlive None id) unsettled) Standing role k n f = is_alive in_standing
rows (heard (Notification code severity text) unsettled) Handshake role k n f = is_notified in_handshake
rows (heard (Notification code severity text) unsettled) Standing role k n f = is_notified in_standing
rows (heard (Other name) unsettled) Handshake role k n f = passes_over in_handshake
rows (heard (Other name) unsettled) Standing role k n f = passes_over in_standing
rows (heard (MachineReady quality) unsettled) Standing Upstream k n f = passes_ready
rows (heard RevokeMachineReady unsettled) Standing Upstream k n f = passes_unready
rows (heard (StartTransport id) unsettled) Standing Upstream k n f = passes_start
rows (heard (StopTransport said id) unsettled) Standing Upstream k n f = passes_stop
rows (heard (QueryBoardInfo top bottom) unsettled) Standing Upstream k n f = passes_query
rows (heard (BoardAvailable board) unsettled) Standing Downstream k n f = passes_available
rows (heard RevokeBoardAvailable unsettled) Standing Downstream k n f = passes_revoked
rows (heard (TransportFinished said id) unsettled) Standing Downstream k n f = passes_finished
rows (heard (BoardForecast info) unsettled) Standing Downstream k n f = passes_forecast
rows (heard (SendBoardInfo info) unsettled) Standing Downstream k n f = passes_info
rows tick Handshake role k n f = tick_by role Handshake k n f _ _ in_handshake refl refl
rows tick Standing role k n f = tick_by role Standing k n f _ _ in_standing refl refl
rows shutdown Handshake role k n f = shuts_down in_handshake
rows shutdown Standing role k n f = shuts_down in_standing
rows closed Handshake role k n f = is_closed in_handshake
rows closed Standing role k n f = is_closed in_standing
rows second NotConnected Upstream k n f = tt
rows _ _ _ _ _ _ = tt

found : (P : SessionRow → Type 0) (option : Option SessionRow) (row : SessionRow) → IfSome option P → option ≡ Some row → P row
found P (Some it) row shape same = let is : it ≡ row = cc in subst P is shape
found P None row _ same = absurd (let never : ⊥ = cc in never)

pub row_is : (s : SessionEnd) (input : Input) (row : SessionRow) → session_row s input ≡ Some row → IsSessionRow s input row
row_is s input row same = found (IsSessionRow s input) (session_row s input) row (rows input s.state s.role s.silent s.pings s.peer) same

-- and each row of the table is computed

abbrev Ticks : Role → SessionState → ℕ → ℕ → Features → ℕ → SessionRow → Type 0
Ticks role state k n f silent row =
    let it = ticked (end_of role state k n f) silent in connected_row state it.after it.actions ≡ Some row

asked_at : (role : Role) (state : SessionState) (k n j : ℕ) (f : Features) → IsConnected state → j ≡ 2
    → Ticks role state k n f j (to (end_of role state j (grown n) f) (one (Ping (grown n))))
asked_at role _ k n j f in_handshake same = rw same refl
asked_at role _ k n j f in_standing same = rw same refl

given_up : (role : Role) (k n j : ℕ) (f : Features) → j ≡ 5 → Ticks role Handshake k n f j (to (at_rest role) (one Close))
given_up role k n j f same = rw same refl

given_up_standing : (role : Role) (k n j : ℕ) (f : Features) → j ≡ 5 → f.check_alive ≡ true → Ticks role Standing k n f j (to (at_rest role) (one Close))
given_up_standing role k n j f same listed = rw (same, listed) refl

waited : (role : Role) (k n j : ℕ) (f : Features) → j ≤ 5 → j ≢ 2 → j ≢ 5 → Ticks role Handshake k n f j (to (end_of role Handshake j n f) nothing)
waited role k n j f most other silent = rw (test_two j other, test_five j most silent) refl

waited_standing : (role : Role) (k n j : ℕ) (f : Features) (silent : Bool) → nat_lt 4 j ≡ silent → j ≤ 5 → j ≢ 2 → (j ≡ 5 → f.check_alive ≡ false)
    → Ticks role Standing k n f j (to (end_of role Standing j n f) nothing)
waited_standing role k n j f true test most other listed =
    let none : f.check_alive ≡ false = listed (five j most test) in rw (test, none, test_two j other) refl
waited_standing role k n j f false test most other listed = rw (test, test_two j other) refl

pub is_computed : (s : SessionEnd) (input : Input) (row : SessionRow) → IsSessionRow s input row → session_row s input ≡ Some row
is_computed _ _ _ (refuses_second in_handshake) = refl
is_computed _ _ _ (refuses_second in_standing) = refl
is_computed _ _ _ (answers in_handshake) = refl
is_computed _ _ _ (answers in_standing) = refl
is_computed _ _ _ (is_answered in_handshake) = refl
is_computed _ _ _ (is_answered in_standing) = refl
is_computed _ _ _ (is_alive in_handshake) = refl
is_computed _ _ _ (is_alive in_standing) = refl
is_computed _ _ _ (is_notified in_handshake) = refl
is_computed _ _ _ (is_notified in_standing) = refl
is_computed _ _ _ (passes_over in_handshake) = refl
is_computed _ _ _ (passes_over in_standing) = refl
is_computed _ _ _ (shuts_down in_handshake) = refl
is_computed _ _ _ (shuts_down in_standing) = refl
is_computed _ _ _ (is_closed in_handshake) = refl
is_computed _ _ _ (is_closed in_standing) = refl
is_computed _ _ _ (asks {role = role} {state = state} {k = k} {n = n} {f = f} there same) = asked_at role state k n (raised k) f there same
is_computed _ _ _ (gives_up_handshake {role = role} {k = k} {n = n} {f = f} same) = given_up role k n (raised k) f same
is_computed _ _ _ (gives_up_standing {role = role} {k = k} {n = n} {f = f} same listed) = given_up_standing role k n (raised k) f same listed
is_computed _ _ _ (waits_in_handshake {role = role} {k = k} {n = n} {f = f} other silent) = waited role k n (raised k) f (raised_most k) other silent
is_computed _ _ _ (waits_standing {role = role} {k = k} {n = n} {f = f} other listed) = waited_standing role k n (raised k) f _ refl (raised_most k) other listed
is_computed _ _ _ _ = refl

pub rows_exactly : (s : SessionEnd) (input : Input) (row : SessionRow) → (session_row s input ≡ Some row) ↔ IsSessionRow s input row
rows_exactly s input row = (row_is s input row, is_computed s input row)
