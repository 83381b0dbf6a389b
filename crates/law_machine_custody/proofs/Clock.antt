-- The clock ticks, a machine shuts down, and what it is willing to do changes, which may be before it has read all events.
use Rattle.std.proofs.Common.{Bool, List, None, Option, Some, [], false, refl, subst, sym, true, ◌++◌, ◌∷◌, ◌≡◌}
use Rattle.line_base.specs.declared.states.Role.{Role}
use Rattle.line_base.specs.declared.states.Role.TheVariants.{Downstream, Upstream}
use Rattle.line_base.specs.declared.states.Side.{Side}
use Rattle.line_base.specs.declared.states.Side.TheVariants.{Entry, Exit}
use Rattle.board_record.specs.declared.record.Record.{Record}
use Rattle.board_record.specs.declared.sensed.Sensed.{Sensed}
use Rattle.hermes_horizontal.specs.declared.message.Horizontal.{Horizontal}
use Rattle.hermes_horizontal.specs.declared.message.Horizontal.TheVariants as message
use Rattle.hermes_horizontal.specs.declared.message.Ping.TheVariants as ping
use Rattle.std.specs.Prelude.{decimal}
use Rattle.session_core.specs.Acts.{two}
use Rattle.session_core.specs.End.{grown, raised}
use Rattle.session_core.specs.End.{SessionEnd, at_rest}
use Rattle.session_core.specs.Input.{shutdown as to_shut_down, tick}
use Rattle.session_core.specs.Row.{SessionRow, session_row}
use Rattle.session_core.specs.Table.{IsSessionRow, asks, end_of, gives_up_handshake, gives_up_standing, shuts_down as row_shuts_down, waits_in_handshake, waits_standing}
use Rattle.session_core.specs.declared.actions.Tell.TheVariants.{Shutdown}
use Rattle.session_core.specs.declared.state.SessionState.TheVariants.{Handshake, Standing}
use Rattle.session_core.proofs.Rows.{row_is as session_row_is}
use Rattle.node_core.specs.Boards.{wills}
use Rattle.node_core.specs.Connect.{both_shut_down, both_tick, if_open, shuts_down, ticks}
use Rattle.node_core.specs.Desk.{Desk}
use Rattle.node_core.specs.Done.{Done}
use Rattle.node_core.specs.Halves.{half_closed}
use Rattle.node_core.specs.Session.{actions_did, session_did}
use Rattle.node_core.specs.Sides.{session_at, with_session}
use Rattle.node_core.specs.Told.{tells}
use Rattle.node_core.specs.declared.act.Act.TheVariants as acts
use Rattle.node_core.specs.declared.lane.Body.{Body as Machine}
use Rattle.law_custody.specs.Pair.{Ghost}
use Rattle.law_custody.specs.Words.{down_words, events_at, up_words}
use Rattle.law_custody.proofs.LinkEvents.{says_aside_down, says_aside_up}
use Rattle.law_custody.proofs.Lists.{sent_down, sent_up}
use Rattle.law_custody.proofs.Unread.{HasRead, ReadFirst}
use Rattle.law_machine_custody.specs.Scene.{Scene, all_met, link_above, link_below, shut}
use Rattle.law_machine_custody.specs.Good.{Afar, Goes, GoesBy, Good}
use Rattle.law_machine_custody.proofs.Closing.{MayFollow, entry_shuts_unread, exit_shuts_unread, told_above, told_below}
use Rattle.law_machine_custody.proofs.Goes.{goes_not, goes_then, met_append}
use Rattle.law_machine_custody.proofs.HearingEntry.{same_entry}
use Rattle.law_machine_custody.proofs.HearingExit.{same_exit}

-- messages that are no words are said
pub exit_says : {afar : Afar} {above : List Record} {us : List Sensed} {ga gb : Ghost} (body : Machine) (c : Scene) (ms : List Horizontal) → down_words ms ≡ []
    → Good afar above us ga gb body c → Goes afar above us ga gb c body (told_below ms c)
exit_says {us = us} {ga = ga} {gb = gb} body c ms quiet g = record {
  a = ga;
  b = gb;
  good = record {
    above_pair = g.above_pair;
    below_pair = says_aside_down gb (link_below us body c) ms quiet g.below_pair;
    boards = g.boards;
    above_contents = g.above_contents;
    below_contents = rw (sent_down c.below.stands ms c.below.down, quiet) g.below_contents;
    above_holds = g.above_holds;
    below_holds = g.below_holds;
    entry_role = g.entry_role;
    exit_role = g.exit_role;
    away = g.away;
    here = g.here;
    recent = g.recent;
  };
  lists_above = λ kept i q boards h. h;
  lists_below = λ o p kept boards h. h;
  still_first = λ n. n;
  still_over = λ n. n;
}

pub entry_says : {afar : Afar} {above : List Record} {us : List Sensed} {ga gb : Ghost} (body : Machine) (c : Scene) (ms : List Horizontal) → up_words ms ≡ []
    → Good afar above us ga gb body c → Goes afar above us ga gb c body (told_above ms c)
entry_says {us = us} {ga = ga} {gb = gb} body c ms quiet g = record {
  a = ga;
  b = gb;
  good = record {
    above_pair = says_aside_up ga (link_above us body c) ms quiet g.above_pair;
    below_pair = g.below_pair;
    boards = g.boards;
    above_contents = rw (sent_up c.above.stands ms c.above.up, quiet) g.above_contents;
    below_contents = g.below_contents;
    above_holds = g.above_holds;
    below_holds = g.below_holds;
    entry_role = g.entry_role;
    exit_role = g.exit_role;
    away = g.away;
    here = g.here;
    recent = g.recent;
  };
  lists_above = λ kept i q boards h. h;
  lists_below = λ o p kept boards h. h;
  still_first = λ n. n;
  still_over = λ n. n;
}

-- the machine closes a side that has said these messages before
exit_closes : {afar : Afar} {above : List Record} {us : List Sensed} {ga gb : Ghost} (body : Machine) (c : Scene) (desk : Desk) (s : SessionEnd) (role : Role) (ms : List Horizontal) → down_words ms ≡ [] → role ≡ Upstream
    → HasRead (events_at Exit us) → Good afar above us ga gb (with_session Exit s body) c
    → Goes afar above us ga gb c (half_closed desk Exit (with_session Exit (at_rest role) body)).body (all_met ((half_closed desk Exit (with_session Exit (at_rest role) body)).acts ++ []) (shut Exit (told_below ms c)))
exit_closes {afar = afar} {above = above} {us = us} {ga = ga} {gb = gb} body c desk s role ms quiet is n g =
    let did : Done = half_closed desk Exit (with_session Exit (at_rest role) body) in
    subst (λ z. Goes afar above us ga gb c did.body z) (sym (met_append did.acts [] (shut Exit (told_below ms c)))) (exit_shuts_unread desk (at_rest role) ms refl is quiet n g)

entry_closes : {afar : Afar} {above : List Record} {us : List Sensed} {ga gb : Ghost} (body : Machine) (c : Scene) (desk : Desk) (s : SessionEnd) (role : Role) (ms : List Horizontal) → up_words ms ≡ [] → role ≡ Downstream
    → ReadFirst (events_at Entry us) ga.place → Good afar above us ga gb (with_session Entry s body) c
    → Goes afar above us ga gb c (half_closed desk Entry (with_session Entry (at_rest role) body)).body (all_met ((half_closed desk Entry (with_session Entry (at_rest role) body)).acts ++ []) (shut Entry (told_above ms c)))
entry_closes {afar = afar} {above = above} {us = us} {ga = ga} {gb = gb} body c desk s role ms quiet is n g =
    let did : Done = half_closed desk Entry (with_session Entry (at_rest role) body) in
    subst (λ z. Goes afar above us ga gb c did.body z) (sym (met_append did.acts [] (shut Entry (told_above ms c)))) (entry_shuts_unread desk (at_rest role) ms refl is quiet n g)

-- ---- a tick

exit_ticks : {afar : Afar} {above : List Record} {us : List Sensed} {ga gb : Ghost} (body : Machine) (c : Scene) (desk : Desk) (s : SessionEnd) (row : SessionRow) → IsSessionRow s tick row
    → HasRead (events_at Exit us) → Good afar above us ga gb (with_session Exit s body) c → GoesBy afar above us ga gb c (actions_did desk Exit row.actions (with_session Exit row.after body))
exit_ticks body c desk _ _ (asks {role = role} {state = state} {k = k} {n = n} {f = f} is two) m g =
    exit_says _ c (message.CheckAlive (Some ping.Ask) (Some (decimal (grown n))) ∷ []) refl (same_exit body c (end_of role state k n f) (end_of role state (raised k) (grown n) f) refl refl g)
exit_ticks body c desk _ _ (gives_up_handshake {role = role} {k = k} {n = n} {f = f} is) m g = exit_closes body c desk (end_of role Handshake k n f) role [] refl g.exit_role m g
exit_ticks body c desk _ _ (gives_up_standing {role = role} {k = k} {n = n} {f = f} is alive) m g = exit_closes body c desk (end_of role Standing k n f) role [] refl g.exit_role m g
exit_ticks body c desk _ _ (waits_in_handshake {role = role} {k = k} {n = n} {f = f} is also) m g = goes_not (same_exit body c (end_of role Handshake k n f) (end_of role Handshake (raised k) n f) refl refl g)
exit_ticks body c desk _ _ (waits_standing {role = role} {k = k} {n = n} {f = f} is also) m g = goes_not (same_exit body c (end_of role Standing k n f) (end_of role Standing (raised k) n f) refl refl g)

entry_ticks : {afar : Afar} {above : List Record} {us : List Sensed} {ga gb : Ghost} (body : Machine) (c : Scene) (desk : Desk) (s : SessionEnd) (row : SessionRow) → IsSessionRow s tick row
    → ReadFirst (events_at Entry us) ga.place → Good afar above us ga gb (with_session Entry s body) c → GoesBy afar above us ga gb c (actions_did desk Entry row.actions (with_session Entry row.after body))
entry_ticks body c desk _ _ (asks {role = role} {state = state} {k = k} {n = n} {f = f} is two) m g =
    entry_says _ c (message.CheckAlive (Some ping.Ask) (Some (decimal (grown n))) ∷ []) refl (same_entry body c (end_of role state k n f) (end_of role state (raised k) (grown n) f) refl refl g)
entry_ticks body c desk _ _ (gives_up_handshake {role = role} {k = k} {n = n} {f = f} is) m g = entry_closes body c desk (end_of role Handshake k n f) role [] refl g.entry_role m g
entry_ticks body c desk _ _ (gives_up_standing {role = role} {k = k} {n = n} {f = f} is alive) m g = entry_closes body c desk (end_of role Standing k n f) role [] refl g.entry_role m g
entry_ticks body c desk _ _ (waits_in_handshake {role = role} {k = k} {n = n} {f = f} is also) m g = goes_not (same_entry body c (end_of role Handshake k n f) (end_of role Handshake (raised k) n f) refl refl g)
entry_ticks body c desk _ _ (waits_standing {role = role} {k = k} {n = n} {f = f} is also) m g = goes_not (same_entry body c (end_of role Standing k n f) (end_of role Standing (raised k) n f) refl refl g)

tick_found : {afar : Afar} {above : List Record} {us : List Sensed} {ga gb : Ghost} (body : Machine) (c : Scene) (desk : Desk) (side : Side) (row : Option SessionRow) → session_row (session_at side body) tick ≡ row
    → MayFollow side us ga → Good afar above us ga gb body c → GoesBy afar above us ga gb c (session_did desk side row body)
tick_found body c desk side None is n g = goes_not g
tick_found body c desk Entry (Some row) is n g = entry_ticks body c desk body.entry.session row (session_row_is body.entry.session tick row is) n g
tick_found body c desk Exit (Some row) is n g = exit_ticks body c desk body.exit.session row (session_row_is body.exit.session tick row is) n g

ticks_go : {afar : Afar} {above : List Record} {us : List Sensed} {ga gb : Ghost} (body : Machine) (c : Scene) (desk : Desk) (side : Side) → MayFollow side us ga → Good afar above us ga gb body c → GoesBy afar above us ga gb c (ticks desk side body)
ticks_go body c desk side n g = tick_found body c desk side (session_row (session_at side body) tick) refl n g

pub both_tick_unread : {afar : Afar} {above : List Record} {us : List Sensed} {ga gb : Ghost} (body : Machine) (c : Scene) (desk : Desk) → ReadFirst (events_at Entry us) ga.place → HasRead (events_at Exit us)
    → Good afar above us ga gb body c → GoesBy afar above us ga gb c (both_tick desk body)
both_tick_unread body c desk n m g = goes_then (ticks desk Entry body) (ticks desk Exit) (ticks_go body c desk Entry n g) (λ a b next. ticks_go _ _ desk Exit m next)

-- ---- a shutdown

exit_ends : {afar : Afar} {above : List Record} {us : List Sensed} {ga gb : Ghost} (body : Machine) (c : Scene) (desk : Desk) (s : SessionEnd) (row : SessionRow) → IsSessionRow s to_shut_down row
    → HasRead (events_at Exit us) → Good afar above us ga gb (with_session Exit s body) c → GoesBy afar above us ga gb c (actions_did desk Exit row.actions (with_session Exit row.after body))
exit_ends body c desk _ _ (row_shuts_down {role = role} {state = state} {k = k} {n = n} {f = f} is) m g = exit_closes body c desk (end_of role state k n f) role (tells Shutdown ∷ []) refl g.exit_role m g

entry_ends : {afar : Afar} {above : List Record} {us : List Sensed} {ga gb : Ghost} (body : Machine) (c : Scene) (desk : Desk) (s : SessionEnd) (row : SessionRow) → IsSessionRow s to_shut_down row
    → ReadFirst (events_at Entry us) ga.place → Good afar above us ga gb (with_session Entry s body) c → GoesBy afar above us ga gb c (actions_did desk Entry row.actions (with_session Entry row.after body))
entry_ends body c desk _ _ (row_shuts_down {role = role} {state = state} {k = k} {n = n} {f = f} is) m g = entry_closes body c desk (end_of role state k n f) role (tells Shutdown ∷ []) refl g.entry_role m g

end_found : {afar : Afar} {above : List Record} {us : List Sensed} {ga gb : Ghost} (body : Machine) (c : Scene) (desk : Desk) (side : Side) (row : Option SessionRow) → session_row (session_at side body) to_shut_down ≡ row
    → MayFollow side us ga → Good afar above us ga gb body c → GoesBy afar above us ga gb c (session_did desk side row body)
end_found body c desk side None is n g = goes_not g
end_found body c desk Entry (Some row) is n g = entry_ends body c desk body.entry.session row (session_row_is body.entry.session to_shut_down row is) n g
end_found body c desk Exit (Some row) is n g = exit_ends body c desk body.exit.session row (session_row_is body.exit.session to_shut_down row is) n g

ends_go : {afar : Afar} {above : List Record} {us : List Sensed} {ga gb : Ghost} (body : Machine) (c : Scene) (desk : Desk) (side : Side) → MayFollow side us ga → Good afar above us ga gb body c → GoesBy afar above us ga gb c (shuts_down desk side body)
ends_go body c desk side n g = end_found body c desk side (session_row (session_at side body) to_shut_down) refl n g

pub both_shut_down_unread : {afar : Afar} {above : List Record} {us : List Sensed} {ga gb : Ghost} (body : Machine) (c : Scene) (desk : Desk) → ReadFirst (events_at Entry us) ga.place → HasRead (events_at Exit us)
    → Good afar above us ga gb body c → GoesBy afar above us ga gb c (both_shut_down desk body)
both_shut_down_unread body c desk n m g = goes_then (shuts_down desk Entry body) (shuts_down desk Exit) (ends_go body c desk Entry n g) (λ a b next. ends_go _ _ desk Exit m next)

-- ---- what is found closed, and what the machine is willing to do

pub if_open_goes : {afar : Afar} {above : List Record} {us : List Sensed} {ga gb : Ghost} {c : Scene} (test : Bool) (did : Done) (body : Machine) → Good afar above us ga gb body c
    → (test ≡ true → GoesBy afar above us ga gb c did) → GoesBy afar above us ga gb c (if_open test did body)
if_open_goes true did body g goes = goes refl
if_open_goes false did body g goes = goes_not g

pub wills_go : {afar : Afar} {above : List Record} {us : List Sensed} {ga gb : Ghost} {body : Machine} {c : Scene} (side : Side) (on : Bool) → Good afar above us ga gb body c → GoesBy afar above us ga gb c (wills side on body)
wills_go {ga = ga} {gb = gb} Entry on g = record {
  a = ga;
  b = gb;
  good = record { above_pair = g.above_pair; below_pair = g.below_pair; boards = g.boards; above_contents = g.above_contents; below_contents = g.below_contents; above_holds = g.above_holds; below_holds = g.below_holds; entry_role = g.entry_role; exit_role = g.exit_role; away = g.away; here = g.here; recent = g.recent };
  lists_above = λ kept i q boards h. h;
  lists_below = λ o p kept boards h. h;
  still_first = λ n. n;
  still_over = λ n. n;
}
wills_go {ga = ga} {gb = gb} Exit on g = record {
  a = ga;
  b = gb;
  good = record { above_pair = g.above_pair; below_pair = g.below_pair; boards = g.boards; above_contents = g.above_contents; below_contents = g.below_contents; above_holds = g.above_holds; below_holds = g.below_holds; entry_role = g.entry_role; exit_role = g.exit_role; away = g.away; here = g.here; recent = g.recent };
  lists_above = λ kept i q boards h. h;
  lists_below = λ o p kept boards h. h;
  still_first = λ n. n;
  still_over = λ n. n;
}
