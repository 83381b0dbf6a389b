-- Each law by one match over the rows of the table.
use Rattle.std.proofs.Common.{◌≡◌, ◌≢◌, ◌↔◌, ℕ, Bool, true, false, List, [], ◌∷◌, Option, Some, None, IsSome, is_some, refl, ◌∙◌}
use Rattle.line_base.specs.declared.states.Role.{Role}
use Rattle.line_base.specs.declared.states.Role.TheVariants.{Upstream, Downstream}
use Rattle.hermes_horizontal.specs.declared.message.Features.{Features}
use Rattle.hermes_horizontal.specs.declared.message.Horizontal.TheVariants.{ServiceDescription}
use Rattle.hermes_horizontal.specs.declared.message.Service.{Service}
use Rattle.session_core.specs.declared.state.SessionState.{SessionState}
use Rattle.session_core.specs.declared.state.SessionState.TheVariants.{NotConnected, Handshake, Standing}
use Rattle.session_core.specs.declared.actions.Action.TheVariants.{Tell, Close}
use Rattle.session_core.specs.declared.actions.Tell.TheVariants.{Unsettled}
use Rattle.session_core.specs.End.{SessionEnd, at_rest, no_features}
use Rattle.session_core.specs.Acts.{two}
use Rattle.session_core.specs.Input.{Input, opened, second, heard}
use Rattle.session_core.specs.Row.{SessionRow, session_row, row}
use Rattle.session_core.specs.Given.{IsGiven, IsNoMessage}
use Rattle.session_core.specs.Passing.{passed, passing, passing_at}
use Rattle.session_core.specs.Handling.{handling_of}
use Rattle.session_core.specs.declared.handling.Handling.{Handling}
use Rattle.session_core.specs.declared.handling.Handling.TheVariants.{Pass, Refuse}
use Rattle.hermes_horizontal.specs.Parts.{kind_of}
use Rattle.hermes_horizontal.specs.declared.message.Horizontal.{Horizontal}
use Rattle.session_core.specs.Alive.{pongs, asked}
use Rattle.session_core.specs.Standing.{described, comes_unsettled, describes}
use Rattle.session_core.specs.Run.{after_row, step, after_all, is_heard, is_described, is_described_after}
use Rattle.session_core.specs.Table.{end_of, IsConnected, in_handshake, in_standing, IsSessionRow, opens_downstream, opens_upstream, refuses_second, stands_upstream, is_unsettled, stands_downstream, answers, is_answered, is_alive, is_notified, passes_over, asks, gives_up_handshake, gives_up_standing, waits_in_handshake, shuts_down, is_closed}
use Rattle.session_core.proofs.Rows.{row_is}

-- what is passed on

row_passes : (s : SessionEnd) (input : Input) (row : SessionRow) → IsSessionRow s input row → passed row.actions ≡ passing s input
row_passes _ _ _ opens_downstream = refl
row_passes _ _ _ _ = refl

pub passes_exactly : (s : SessionEnd) (input : Input) (row : SessionRow) → session_row s input ≡ Some row → passed row.actions ≡ passing s input
passes_exactly s input row same = row_passes s input row (row_is s input row same)

idle : (handling : Handling) (state : SessionState) (message : Horizontal) → state ≢ Standing → passing_at handling state message ≡ []
idle Pass Standing message other = absurd (other refl)
idle Pass NotConnected message other = refl
idle Pass Handshake message other = refl
idle Refuse _ message other = refl

passing_idle : (s : SessionEnd) (input : Input) → s.state ≢ Standing → passing s input ≡ []
passing_idle s (heard message unsettled) other = idle (handling_of (kind_of message) s.role) s.state message other
passing_idle s _ other = refl

pub passes_nothing : (s : SessionEnd) (input : Input) (row : SessionRow) → session_row s input ≡ Some row → s.state ≢ Standing → passed row.actions ≡ []
passes_nothing s input row same other = passes_exactly s input row same ∙ passing_idle s input other

-- pongs

row_pongs : (s : SessionEnd) (input : Input) (row : SessionRow) → IsSessionRow s input row → pongs row.actions ≡ asked input
row_pongs _ _ _ opens_downstream = refl
row_pongs _ _ _ _ = refl

pub pongs_exactly : (s : SessionEnd) (input : Input) (row : SessionRow) → session_row s input ≡ Some row → pongs row.actions ≡ asked input
pongs_exactly s input row same = row_pongs s input row (row_is s input row same)

-- what differs

shakes : Handshake ≡ Standing → ⊥
shakes same = cc

rests : NotConnected ≡ Standing → ⊥
rests same = cc

pub shakes_apart : Handshake ≡ NotConnected → ⊥
shakes_apart same = cc

pub stands_apart : Standing ≡ NotConnected → ⊥
stands_apart same = cc

downstream : Downstream ≡ Upstream → ⊥
downstream same = cc

never : false ≡ true → ⊥
never same = cc

pub connected : (state : SessionState) → IsConnected state → state ≢ NotConnected
connected _ in_handshake = shakes_apart
connected _ in_standing = stands_apart

-- coming to stand

row_stands : (s : SessionEnd) (input : Input) (row : SessionRow) → IsSessionRow s input row → s.state ≢ Standing → row.after.state ≡ Standing
    → (s.state ≡ Handshake) × (described input ≡ Some row.after.peer)
row_stands _ _ _ stands_upstream _ _ = (refl, refl)
row_stands _ _ _ stands_downstream _ _ = (refl, refl)
row_stands _ _ _ opens_downstream _ stands = absurd (shakes stands)
row_stands _ _ _ opens_upstream _ stands = absurd (shakes stands)
row_stands _ _ _ is_unsettled _ stands = absurd (rests stands)
row_stands _ _ _ (gives_up_handshake _) _ stands = absurd (rests stands)
row_stands _ _ _ (gives_up_standing _ _) _ stands = absurd (rests stands)
row_stands _ _ _ (shuts_down _) _ stands = absurd (rests stands)
row_stands _ _ _ (is_closed _) _ stands = absurd (rests stands)
row_stands _ _ _ _ other stands = absurd (other stands)

pub stands_by_description : (s : SessionEnd) (input : Input) (row : SessionRow) → session_row s input ≡ Some row → s.state ≢ Standing → row.after.state ≡ Standing
    → (s.state ≡ Handshake) × (described input ≡ Some row.after.peer)
stands_by_description s input row same = row_stands s input row (row_is s input row same)

row_settled : (s : SessionEnd) (input : Input) (row : SessionRow) → IsSessionRow s input row → s.role ≡ Upstream → s.state ≢ Standing → row.after.state ≡ Standing
    → comes_unsettled input ≡ false
row_settled _ _ _ stands_upstream _ _ _ = refl
row_settled _ _ _ stands_downstream up _ _ = absurd (downstream up)
row_settled _ _ _ opens_downstream _ _ _ = refl
row_settled _ _ _ opens_upstream _ _ _ = refl
row_settled _ _ _ is_unsettled _ _ stands = absurd (rests stands)
row_settled _ _ _ (gives_up_handshake _) _ _ _ = refl
row_settled _ _ _ (gives_up_standing _ _) _ _ _ = refl
row_settled _ _ _ (shuts_down _) _ _ _ = refl
row_settled _ _ _ (is_closed _) _ _ _ = refl
row_settled _ _ _ _ _ other stands = absurd (other stands)

pub stands_settled : (s : SessionEnd) (input : Input) (row : SessionRow) → s.role ≡ Upstream → session_row s input ≡ Some row → s.state ≢ Standing → row.after.state ≡ Standing
    → comes_unsettled input ≡ false
stands_settled s input row up same = row_settled s input row (row_is s input row same) up

row_describes : (s : SessionEnd) (input : Input) (row : SessionRow) → IsSessionRow s input row → describes row.actions ≡ true → comes_unsettled input ≡ false
row_describes _ _ _ opens_downstream _ = refl
row_describes _ _ _ stands_upstream _ = refl
row_describes _ _ _ _ says = absurd (never says)

pub describes_settled : (s : SessionEnd) (input : Input) (row : SessionRow) → s.role ≡ Upstream → session_row s input ≡ Some row → describes row.actions ≡ true
    → comes_unsettled input ≡ false
describes_settled s input row _ same = row_describes s input row (row_is s input row same)

closes_at : (role : Role) (state : SessionState) (k n : ℕ) (f : Features) (service : Service) → role ≡ Upstream → state ≡ Handshake
    → session_row (end_of role state k n f) (heard (ServiceDescription service) true) ≡ row (at_rest Upstream) (two (Tell Unsettled) Close)
closes_at Upstream Handshake k n f service up there = refl
closes_at Upstream NotConnected k n f service up there = cc
closes_at Upstream Standing k n f service up there = cc
closes_at Downstream state k n f service up there = absurd (downstream up)

pub closes_unsettled : (s : SessionEnd) (service : Service) → s.role ≡ Upstream → s.state ≡ Handshake
    → session_row s (heard (ServiceDescription service) true) ≡ row (at_rest Upstream) (two (Tell Unsettled) Close)
closes_unsettled s service = closes_at s.role s.state s.silent s.pings s.peer service

-- a description was heard on the connection of a session that stands

found_heard : (before : Bool) (input : Input) → is_some (described input) ≡ true → is_heard before input ≡ true
found_heard true input found = refl
found_heard false input found = found

keeps : (state : SessionState) (before : Bool) (input : Input) → state ≡ Standing → before ≡ true → is_described state before input ≡ true
keeps state before input stands heard_before = rw (stands, heard_before) refl

row_described : (s : SessionEnd) (before : Bool) (input : Input) (row : SessionRow) → IsSessionRow s input row → (s.state ≡ Standing → before ≡ true)
    → row.after.state ≡ Standing → is_described s.state before input ≡ true
row_described _ before _ _ stands_upstream _ _ = found_heard before _ refl
row_described _ before _ _ stands_downstream _ _ = found_heard before _ refl
row_described _ before _ _ opens_downstream _ stands = absurd (shakes stands)
row_described _ before _ _ opens_upstream _ stands = absurd (shakes stands)
row_described _ before _ _ is_unsettled _ stands = absurd (rests stands)
row_described _ before _ _ (gives_up_handshake _) _ stands = absurd (rests stands)
row_described _ before _ _ (gives_up_standing _ _) _ stands = absurd (rests stands)
row_described _ before _ _ (shuts_down _) _ stands = absurd (rests stands)
row_described _ before _ _ (is_closed _) _ stands = absurd (rests stands)
row_described _ before _ _ _ agrees stands = keeps _ before _ stands (agrees stands)

option_described : (s : SessionEnd) (before : Bool) (input : Input) (option : Option SessionRow) → session_row s input ≡ option → (s.state ≡ Standing → before ≡ true)
    → (after_row s option).state ≡ Standing → is_described s.state before input ≡ true
option_described s before input None _ agrees stands = keeps s.state before input stands (agrees stands)
option_described s before input (Some row) same agrees stands = row_described s before input row (row_is s input row same) agrees stands

described_run : (s : SessionEnd) (before : Bool) (inputs : List Input) → (s.state ≡ Standing → before ≡ true)
    → (after_all s inputs).state ≡ Standing → is_described_after before s inputs ≡ true
described_run s before [] agrees stands = agrees stands
described_run s before (input ∷ inputs) agrees stands =
    described_run (step s input) (is_described s.state before input) inputs (option_described s before input (session_row s input) refl agrees) stands

pub stands_described : (role : Role) (inputs : List Input) → (after_all (at_rest role) inputs).state ≡ Standing → is_described_after false (at_rest role) inputs ≡ true
stands_described role inputs = described_run (at_rest role) false inputs (λ stands. absurd (rests stands))

-- the features of a session that doesn't stand

abbrev Unknown : SessionEnd → Type 0
Unknown s = s.state ≢ Standing → s.peer ≡ no_features

row_unknown : (s : SessionEnd) (input : Input) (row : SessionRow) → IsSessionRow s input row → Unknown s → Unknown row.after
row_unknown _ _ _ stands_upstream _ other = absurd (other refl)
row_unknown _ _ _ stands_downstream _ other = absurd (other refl)
row_unknown _ _ _ opens_downstream _ _ = refl
row_unknown _ _ _ opens_upstream _ _ = refl
row_unknown _ _ _ is_unsettled _ _ = refl
row_unknown _ _ _ (gives_up_handshake _) _ _ = refl
row_unknown _ _ _ (gives_up_standing _ _) _ _ = refl
row_unknown _ _ _ (shuts_down _) _ _ = refl
row_unknown _ _ _ (is_closed _) _ _ = refl
row_unknown _ _ _ _ unknown other = unknown other

option_unknown : (s : SessionEnd) (input : Input) (option : Option SessionRow) → session_row s input ≡ option → Unknown s → Unknown (after_row s option)
option_unknown s input None _ unknown = unknown
option_unknown s input (Some row) same unknown = row_unknown s input row (row_is s input row same) unknown

run_unknown : (s : SessionEnd) (inputs : List Input) → Unknown s → Unknown (after_all s inputs)
run_unknown s [] unknown = unknown
run_unknown s (input ∷ inputs) unknown = run_unknown (step s input) inputs (option_unknown s input (session_row s input) refl unknown)

pub features_unknown : (role : Role) (inputs : List Input) → (after_all (at_rest role) inputs).state ≢ Standing → (after_all (at_rest role) inputs).peer ≡ no_features
features_unknown role inputs = run_unknown (at_rest role) inputs (λ _. refl)

-- the part

row_part : (s : SessionEnd) (input : Input) (row : SessionRow) → IsSessionRow s input row → row.after.role ≡ s.role
row_part _ _ _ opens_downstream = refl
row_part _ _ _ _ = refl

pub part_stays : (s : SessionEnd) (input : Input) (row : SessionRow) → session_row s input ≡ Some row → row.after.role ≡ s.role
part_stays s input row same = row_part s input row (row_is s input row same)

-- when an input has a row

given_at : (input : Input) (state : SessionState) (role : Role) (k n : ℕ) (f : Features) → IsNoMessage input
    → IsSome (session_row (end_of role state k n f) input) ↔ IsGiven (end_of role state k n f) input
given_at opened NotConnected role k n f _ = (λ _. refl, λ _. refl)
given_at opened Handshake role k n f _ = (λ found. absurd (never found), λ given. absurd (shakes_apart given))
given_at opened Standing role k n f _ = (λ found. absurd (never found), λ given. absurd (stands_apart given))
given_at second NotConnected Upstream k n f _ = (λ found. absurd (never found), λ given. absurd (given.1 refl))
given_at second Handshake Upstream k n f _ = (λ _. (refl, shakes_apart), λ _. refl)
given_at second Standing Upstream k n f _ = (λ _. (refl, stands_apart), λ _. refl)
given_at second state Downstream k n f _ = (λ found. absurd (never found), λ given. absurd (downstream given.0))
given_at (heard _ _) state role k n f none = absurd none
given_at _ NotConnected role k n f _ = (λ found. absurd (never found), λ given. absurd (given refl))
given_at _ Handshake role k n f _ = (λ _. shakes_apart, λ _. refl)
given_at _ Standing role k n f _ = (λ _. stands_apart, λ _. refl)

pub given_exactly : (s : SessionEnd) (input : Input) → IsNoMessage input → IsSome (session_row s input) ↔ IsGiven s input
given_exactly s input = given_at input s.state s.role s.silent s.pings s.peer

row_given : (s : SessionEnd) (input : Input) (row : SessionRow) → IsSessionRow s input row → IsGiven s input
row_given _ _ _ opens_downstream = refl
row_given _ _ _ opens_upstream = refl
row_given _ _ _ (refuses_second there) = (refl, connected _ there)
row_given _ _ _ (answers there) = connected _ there
row_given _ _ _ (is_answered there) = connected _ there
row_given _ _ _ (is_alive there) = connected _ there
row_given _ _ _ (is_notified there) = connected _ there
row_given _ _ _ (passes_over there) = connected _ there
row_given _ _ _ (asks there _) = connected _ there
row_given _ _ _ (shuts_down there) = connected _ there
row_given _ _ _ (is_closed there) = connected _ there
row_given _ _ _ stands_upstream = shakes_apart
row_given _ _ _ is_unsettled = shakes_apart
row_given _ _ _ stands_downstream = shakes_apart
row_given _ _ _ (gives_up_handshake _) = shakes_apart
row_given _ _ _ (waits_in_handshake _ _) = shakes_apart
row_given _ _ _ _ = stands_apart

pub only_given : (s : SessionEnd) (input : Input) (row : SessionRow) → session_row s input ≡ Some row → IsGiven s input
only_given s input row same = row_given s input row (row_is s input row same)
