-- What was said before a close isn't sent behind it.
use Rattle.std.proofs.Common.{◌≡◌, ◌∙◌, refl, sym, ap, subst, ℕ, ℤ, Bool, true, false, ◌||◌, List, [], ◌∷◌, ◌++◌, append_assoc, append-nil, flat_map, if◌then◌else◌}
use Rattle.std.specs.List.{list_any}
use Rattle.line_base.specs.declared.states.Side.{Side}
use Rattle.line_base.specs.declared.states.Side.TheVariants.{Entry, Exit}
use Rattle.line_outside.specs.Given.{Closes, Connects, Given, Listens, Polls, Refuses, Sends, is_same_way, taken_of}
use Rattle.line_outside.specs.declared.answer.GotBytes.{GotBytes}
use Rattle.line_outside.specs.declared.answer.GotBytes.TheVariants as founds
use Rattle.node_run.specs.After.{way_of}
use Rattle.law_node_runs.specs.Connections.{Connection, InOrderAlong, IsFront, IsInOrder, does, got, no_connection}
use Rattle.law_node_runs.specs.Doings.{Doing, calls, says, steps}
use Rattle.law_node_runs.specs.OldBytes.{NothingOldIsSent, closes_way, said_by, taken_by}
use Rattle.law_node_runs.proofs.Pieces.{done_all}

-- ---- what a doing that doesn't close the way takes and says

got_taken : (found : GotBytes) (c : Connection) → (got found c).taken ≡ c.taken
got_taken founds.Arrived c = refl
got_taken (founds.Bytes bytes) c = refl
got_taken founds.Second c = refl
got_taken founds.NotYet c = refl
got_taken founds.Closed c = refl
got_taken founds.Failed c = refl

got_said : (found : GotBytes) (c : Connection) → (got found c).said ≡ c.said
got_said founds.Arrived c = refl
got_said (founds.Bytes bytes) c = refl
got_said founds.Second c = refl
got_said founds.NotYet c = refl
got_said founds.Closed c = refl
got_said founds.Failed c = refl

poll_taken : (same : Bool) (found : GotBytes) (c : Connection) → (if same then got found c else c).taken ≡ c.taken ++ []
poll_taken true found c = got_taken found c ∙ sym (append-nil c.taken)
poll_taken false found c = sym (append-nil c.taken)

poll_said : (same : Bool) (found : GotBytes) (c : Connection) → (if same then got found c else c).said ≡ c.said ++ []
poll_said true found c = got_said found c ∙ sym (append-nil c.said)
poll_said false found c = sym (append-nil c.said)

send_taken : (same : Bool) (text : List ℕ) (c : Connection) → (if same then record c { taken = c.taken ++ text } else c).taken ≡ c.taken ++ (if same then text else [])
send_taken true text c = refl
send_taken false text c = sym (append-nil c.taken)

send_said : (same : Bool) (text : List ℕ) (c : Connection) → (if same then record c { taken = c.taken ++ text } else c).said ≡ c.said ++ []
send_said true text c = sym (append-nil c.said)
send_said false text c = sym (append-nil c.said)

close_taken : (same : Bool) (c : Connection) → same ≡ false → (if same then record c { said = []; taken = [] } else c).taken ≡ c.taken ++ []
close_taken true c apart = cc
close_taken false c apart = sym (append-nil c.taken)

close_said : (same : Bool) (c : Connection) → same ≡ false → (if same then record c { said = []; taken = [] } else c).said ≡ c.said ++ []
close_said true c apart = cc
close_said false c apart = sym (append-nil c.said)

takes_so : (side : Side) (doing : Doing) (c : Connection) → closes_way side doing ≡ false → (does side doing c).taken ≡ c.taken ++ taken_by side doing
takes_so side (calls (Polls way room found)) c apart = poll_taken (is_same_way (way_of side) way) found c
takes_so side (calls (Sends way piece sent)) c apart = send_taken (is_same_way (way_of side) way) (taken_of sent piece) c
takes_so side (calls (Closes way)) c apart = close_taken (is_same_way (way_of side) way) c apart
takes_so side (calls (Listens way address opened)) c apart = sym (append-nil c.taken)
takes_so side (calls (Connects way address opened)) c apart = sym (append-nil c.taken)
takes_so side (calls (Refuses way piece sent)) c apart = sym (append-nil c.taken)
takes_so side (steps input acts) c apart = sym (append-nil c.taken)
takes_so side (says other text) c apart = sym (append-nil c.taken)

says_so : (side : Side) (doing : Doing) (c : Connection) → closes_way side doing ≡ false → (does side doing c).said ≡ c.said ++ said_by side doing
says_so side (calls (Polls way room found)) c apart = poll_said (is_same_way (way_of side) way) found c
says_so side (calls (Sends way piece sent)) c apart = send_said (is_same_way (way_of side) way) (taken_of sent piece) c
says_so side (calls (Closes way)) c apart = close_said (is_same_way (way_of side) way) c apart
says_so side (calls (Listens way address opened)) c apart = sym (append-nil c.said)
says_so side (calls (Connects way address opened)) c apart = sym (append-nil c.said)
says_so side (calls (Refuses way piece sent)) c apart = sym (append-nil c.said)
says_so side (steps input acts) c apart = refl
says_so side (says other text) c apart = refl

-- ---- along doings that don't

or_first : (one two : Bool) → (one || two) ≡ false → one ≡ false
or_first true two is = cc
or_first false two is = refl

or_last : (one two : Bool) → (one || two) ≡ false → two ≡ false
or_last true two is = cc
or_last false two is = is

now_in_order : (side : Side) (c : Connection) (after : List Doing) → InOrderAlong side c after → IsInOrder c
now_in_order side c [] order = order
now_in_order side c (doing ∷ after) order = order.0

since_front : (side : Side) (c : Connection) (since after : List Doing) → InOrderAlong side c (since ++ after) → list_any (closes_way side) since ≡ false
    → IsFront (c.taken ++ flat_map (taken_by side) since) (c.said ++ flat_map (said_by side) since)
since_front side c [] after order apart =
    let front : IsFront c.taken c.said = (now_in_order side c after order).sent in
    subst (λ (taken : List ℕ). IsFront taken (c.said ++ [])) (sym (append-nil c.taken)) (subst (λ (said : List ℕ). IsFront c.taken said) (sym (append-nil c.said)) front)
since_front side c (doing ∷ since) after order apart =
    let here : closes_way side doing ≡ false = or_first (closes_way side doing) (list_any (closes_way side) since) apart in
    let there : list_any (closes_way side) since ≡ false = or_last (closes_way side doing) (list_any (closes_way side) since) apart in
    let taken : (does side doing c).taken ++ flat_map (taken_by side) since ≡ c.taken ++ (taken_by side doing ++ flat_map (taken_by side) since) =
    ap (λ (l : List ℕ). l ++ flat_map (taken_by side) since) (takes_so side doing c here) ∙ append_assoc c.taken (taken_by side doing) (flat_map (taken_by side) since) in
    let said : (does side doing c).said ++ flat_map (said_by side) since ≡ c.said ++ (said_by side doing ++ flat_map (said_by side) since) =
    ap (λ (l : List ℕ). l ++ flat_map (said_by side) since) (says_so side doing c here) ∙ append_assoc c.said (said_by side doing) (flat_map (said_by side) since) in
    let more : IsFront ((does side doing c).taken ++ flat_map (taken_by side) since) ((does side doing c).said ++ flat_map (said_by side) since) = since_front side (does side doing c) since after order.1 there in
    subst (λ (l : List ℕ). IsFront l (c.said ++ (said_by side doing ++ flat_map (said_by side) since))) taken (subst (λ (l : List ℕ). IsFront ((does side doing c).taken ++ flat_map (taken_by side) since) l) said more)

-- ---- from a close on

closed_taken : (side : Side) (c : Connection) → (does side (calls (Closes (way_of side))) c).taken ≡ []
closed_taken Entry c = refl
closed_taken Exit c = refl

closed_said : (side : Side) (c : Connection) → (does side (calls (Closes (way_of side))) c).said ≡ []
closed_said Entry c = refl
closed_said Exit c = refl

behind_close : (side : Side) (c : Connection) (before since after : List Doing) → InOrderAlong side c ((before ++ calls (Closes (way_of side)) ∷ since) ++ after) → list_any (closes_way side) since ≡ false
    → IsFront (flat_map (taken_by side) since) (flat_map (said_by side) since)
behind_close side c [] since after order apart =
    let d : Connection = does side (calls (Closes (way_of side))) c in
    let front : IsFront (d.taken ++ flat_map (taken_by side) since) (d.said ++ flat_map (said_by side) since) = since_front side d since after order.1 apart in
    subst (λ (l : List ℕ). IsFront (l ++ flat_map (taken_by side) since) (flat_map (said_by side) since)) (closed_taken side c)
    (subst (λ (l : List ℕ). IsFront (d.taken ++ flat_map (taken_by side) since) (l ++ flat_map (said_by side) since)) (closed_said side c) front)
behind_close side c (doing ∷ before) since after order apart = behind_close side (does side doing c) before since after order.1 apart

pub nothing_old : NothingOldIsSent
nothing_old rules s t moments given log h side before since after is apart =
    behind_close side no_connection before since after (subst (λ (doings : List Doing). InOrderAlong side no_connection doings) is (h.order side)) apart
