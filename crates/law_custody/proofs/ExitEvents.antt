-- The events of an exit, over the values of a link. A word that is heard finds a session that takes it, and a row.
use Rattle.std.proofs.Common.{Bool, List, None, Option, Some, [], ap, false, subst, sym, ℕ, ◌∙◌, ◌∷◌, ◌≡◌}
use Rattle.line_base.specs.declared.states.Quality.{Quality}
use Rattle.line_base.specs.declared.states.SensorEvent.{SensorEvent}
use Rattle.line_base.specs.declared.states.Side.TheVariants as sides
use Rattle.line_base.specs.declared.states.Transfer.{Transfer}
use Rattle.board_record.specs.declared.record.Record.{Record}
use Rattle.board_record.specs.declared.sensed.Sensed.{Sensed}
use Rattle.hermes_horizontal.specs.declared.message.Horizontal.{Horizontal}
use Rattle.hermes_horizontal.specs.declared.message.Horizontal.TheVariants as message
use Rattle.hermes_horizontal.specs.declared.message.Service.{Service}
use Rattle.session_core.specs.declared.state.SessionState.{SessionState}
use Rattle.session_core.specs.declared.state.SessionState.TheVariants.{Handshake, Standing}
use Rattle.line_world.specs.Moves.{exit_sees}
use Rattle.handover_out.specs.Row.{last_after}
use Rattle.handover_out.specs.State.{board_of_phase as held_out}
use Rattle.handover_out.specs.declared.input.OutInput.TheVariants as out_input
use Rattle.handover_out.specs.declared.phase.Phase.{Phase as Out}
use Rattle.handover_out.specs.declared.phase.Phase.TheVariants as out
use Rattle.law_custody.specs.Contents.{Kept, Looks, OffersFront}
use Rattle.law_custody.specs.Events.{ExitShut, ExitStep, IsContent, StartStep, described_on, hearing_up, offered_on, revoked_on, with_unread_down, with_unread_up}
use Rattle.law_custody.specs.Facts.{IsOpen, is_ready, is_revoke_ready, is_start, is_stop}
use Rattle.law_custody.specs.LookBack.{asks_nothing}
use Rattle.law_custody.specs.Pair.{Ghost, LinkState, Pair}
use Rattle.law_custody.specs.Talks.{Talks}
use Rattle.law_custody.specs.Unread.{IsBehind}
use Rattle.law_custody.specs.Words.{BoardAvailable, DownWord, DownstreamService, RevokeBoardAvailable, UpstreamService, down_words, events_at, sent, up_words}
use Rattle.law_custody.proofs.AnnounceExit.{announce_offer, announce_revoke, contents_offer, contents_revoke}
use Rattle.law_custody.proofs.CloseExit.{close_exit}
use Rattle.law_custody.proofs.HearReady.{hear_ready, hear_revoke_ready}
use Rattle.law_custody.proofs.HearService.{contents_described, free_in_a_handshake, hear_downstream_service, held_in_a_handshake}
use Rattle.law_custody.proofs.HearStart.{hear_start}
use Rattle.law_custody.proofs.HearStop.{hear_stop}
use Rattle.law_custody.proofs.Lists.{sent_down}
use Rattle.law_custody.proofs.ReadExit.{fault_exit, read_exit}
use Rattle.law_custody.proofs.Sessions.{exit_shakes, exit_stands, offered_stands}
use Rattle.law_custody.proofs.Steps.{body_entry, body_exit, exit_step}
use Rattle.law_custody.proofs.Unread.{HasRead, all_read}

-- the machine reads an event of its exit: the link of its entry sees no difference
pub reads_exit : {Gone : ℕ → Type 0} (g : Ghost) (l : LinkState) (e : SensorEvent) (rest : List Sensed) → Pair g (with_unread_up l (exit_sees e ∷ rest))
    → ExitStep Gone g (with_unread_up l (exit_sees e ∷ rest)) (out_input.Sensed e) rest l.up
reads_exit g l e rest k = exit_step g (with_unread_up l (exit_sees e ∷ rest)) (out_input.Sensed e) rest l.up k (read_exit k.out k.in k.talk l.outlet.touched)

pub skips_exit : (g : Ghost) (l : LinkState) (e : SensorEvent) (rest : List Sensed) → Pair g (with_unread_down l (exit_sees e ∷ rest)) → Pair g (with_unread_down l rest)
skips_exit g l e rest k = record { out = k.out; «in» = k.in; gap = k.gap; talk = k.talk }

-- what may be unread beside a fault, a stop that is heard and a close
pub has_read : (g : Ghost) (l : LinkState) → IsBehind g l → HasRead (events_at sides.Exit l.around.up.unread)
has_read g l behind = record { begun = behind.exit }

pub fails_unread : {Gone : ℕ → Type 0} (g : Ghost) (l : LinkState) → Pair g l → HasRead (events_at sides.Exit l.around.up.unread) → ExitStep Gone g l out_input.Fault l.around.up.unread l.up
fails_unread g l k n = exit_step g l out_input.Fault l.around.up.unread l.up k (fault_exit n k.out k.talk l.outlet.touched)

pub fails_exit : {Gone : ℕ → Type 0} (g : Ghost) (l : LinkState) → Pair g (with_unread_up l []) → ExitStep Gone g (with_unread_up l []) out_input.Fault [] l.up
fails_exit g l k = fails_unread g (with_unread_up l []) k all_read

pub hears_ready_unread : {Gone : ℕ → Type 0} (g : Ghost) (l : LinkState) (quality : Quality) (rest : List Horizontal) → Pair g (record l { up = message.MachineReady quality ∷ rest })
    → (l.exit ≡ Standing) × ExitStep Gone g (record l { up = message.MachineReady quality ∷ rest }) out_input.MachineReady l.around.up.unread rest
hears_ready_unread g l quality rest k = (exit_stands k.talk is_ready, exit_step g (record l { up = message.MachineReady quality ∷ rest }) out_input.MachineReady l.around.up.unread rest k (hear_ready l.outlet.touched k.out k.talk))

pub hears_ready : {Gone : ℕ → Type 0} (g : Ghost) (l : LinkState) (quality : Quality) (rest : List Horizontal) → Pair g (hearing_up l (message.MachineReady quality) rest)
    → (l.exit ≡ Standing) × ExitStep Gone g (hearing_up l (message.MachineReady quality) rest) out_input.MachineReady [] rest
hears_ready g l quality rest k = hears_ready_unread g (with_unread_up l []) quality rest k

pub hears_revoke_ready_unread : {Gone : ℕ → Type 0} (g : Ghost) (l : LinkState) (rest : List Horizontal) → Pair g (record l { up = message.RevokeMachineReady ∷ rest })
    → (l.exit ≡ Standing) × ExitStep Gone g (record l { up = message.RevokeMachineReady ∷ rest }) out_input.RevokeMachineReady l.around.up.unread rest
hears_revoke_ready_unread g l rest k = (exit_stands k.talk is_revoke_ready, exit_step g (record l { up = message.RevokeMachineReady ∷ rest }) out_input.RevokeMachineReady l.around.up.unread rest k (hear_revoke_ready l.outlet.touched k.out k.talk))

pub hears_revoke_ready : {Gone : ℕ → Type 0} (g : Ghost) (l : LinkState) (rest : List Horizontal) → Pair g (hearing_up l message.RevokeMachineReady rest)
    → (l.exit ≡ Standing) × ExitStep Gone g (hearing_up l message.RevokeMachineReady rest) out_input.RevokeMachineReady [] rest
hears_revoke_ready g l rest k = hears_revoke_ready_unread g (with_unread_up l []) rest k

pub hears_stop_unread : {Gone : ℕ → Type 0} (g : Ghost) (l : LinkState) (s : Transfer) (z : ℕ) (rest : List Horizontal) → Pair g (record l { up = message.StopTransport s z ∷ rest }) → HasRead (events_at sides.Exit l.around.up.unread)
    → (l.exit ≡ Standing) × ExitStep Gone g (record l { up = message.StopTransport s z ∷ rest }) (out_input.Stop s z) l.around.up.unread rest
hears_stop_unread g l s z rest k n = (exit_stands k.talk is_stop, exit_step g (record l { up = message.StopTransport s z ∷ rest }) (out_input.Stop s z) l.around.up.unread rest k (hear_stop k.talk n k.out l.outlet.touched s))

pub hears_stop : {Gone : ℕ → Type 0} (g : Ghost) (l : LinkState) (s : Transfer) (z : ℕ) (rest : List Horizontal) → Pair g (hearing_up l (message.StopTransport s z) rest)
    → (l.exit ≡ Standing) × ExitStep Gone g (hearing_up l (message.StopTransport s z) rest) (out_input.Stop s z) [] rest
hears_stop g l s z rest k = hears_stop_unread g (with_unread_up l []) s z rest k all_read

-- a start: the front of the kept boards is what was offered, and no board that is kept is gone from the floor
pub hears_start : {Gone : ℕ → Type 0} (g : Ghost) (l : LinkState) (z : ℕ) (brought : Option Record) (kept : List Record) (rest : List Horizontal)
    → Pair g (hearing_up l (message.StartTransport z) rest)
    → Looks l.outlet.offered kept z brought → OffersFront l.outlet.offered kept → ((x : ℕ) → Kept x kept → Gone x → ⊥) → IsContent Gone (hearing_up l (message.StartTransport z) rest) kept
    → (l.exit ≡ Standing) × StartStep Gone g (hearing_up l (message.StartTransport z) rest) z brought rest
hears_start g l z brought kept rest k looks front floor c =
    let m : LinkState = hearing_up l (message.StartTransport z) rest in
    let d = hear_start k.talk looks front floor c k.out k.in k.gap in (
      exit_stands k.talk is_start,
      record {
        row = d.row;
        is = d.is;
        after = record { place = d.place; board = d.board };
        fresh = d.fresh;
        pair = λ ms e. record { out = d.out; «in» = d.in; gap = d.gap; talk = rw (sent_down l.stands ms l.down, e) d.talk };
        body = λ kept i q boards s. body_exit (d.body kept) s;
        below = λ o p kept boards s. body_entry (d.below kept) s;
        contents = λ kept ms e. rw (sent_down l.stands ms l.down, e) (d.contents kept d.row.after.touched (last_after d.row l.last_offer));
        lets = d.lets;
        asked = λ ms last dropped. asks_nothing d.only;
      },
    )

-- the downstream machine describes itself, and the outlet holds nothing: the session stands, and the answer is sent
pub hears_downstream_unread : (g : Ghost) (l : LinkState) (service answer : Service) (rest : List Horizontal) → Pair g (record l { up = message.ServiceDescription service ∷ rest })
    → l.exit ≡ Handshake → held_out l.outlet.phase ≡ None
    → Pair g (record l { exit = Standing; up = rest; down = sent (message.ServiceDescription answer ∷ []) l.stands l.down })
hears_downstream_unread g l service answer rest k x free =
    let e : l.outlet.phase ≡ out.Idle = free_in_a_handshake (rw x at k.talk) free in
    let t = subst (λ x. Talks l.stands x out.Idle l.outlet.offered l.outlet.ready l.entry l.intake.phase l.intake.offer l.intake.ready g.place (DownstreamService ∷ up_words rest) (down_words l.down)) x (subst (λ o. Talks l.stands l.exit o l.outlet.offered l.outlet.ready l.entry l.intake.phase l.intake.offer l.intake.ready g.place (DownstreamService ∷ up_words rest) (down_words l.down)) e k.talk) in
    record {
      out = k.out;
      «in» = k.in;
      gap = k.gap;
      talk = rw (sent_down l.stands (message.ServiceDescription answer ∷ []) l.down) (subst (λ o. Talks l.stands Standing o l.outlet.offered l.outlet.ready l.entry l.intake.phase l.intake.offer l.intake.ready g.place (up_words rest) (sent (UpstreamService ∷ []) l.stands (down_words l.down))) (sym e) (hear_downstream_service t));
    }

pub hears_downstream : (g : Ghost) (l : LinkState) (service answer : Service) (rest : List Horizontal) → Pair g (hearing_up l (message.ServiceDescription service) rest)
    → l.exit ≡ Handshake → held_out l.outlet.phase ≡ None
    → Pair g (described_on l service answer rest)
hears_downstream g l service answer rest k x free = hears_downstream_unread g (with_unread_up l []) service answer rest k x free

pub described_contents : {Gone : ℕ → Type 0} (l : LinkState) (service answer : Service) (rest : List Horizontal) (kept : List Record)
    → IsContent Gone (hearing_up l (message.ServiceDescription service) rest) kept
    → IsContent Gone (described_on l service answer rest) kept
described_contents l service answer rest kept c = rw (sent_down l.stands (message.ServiceDescription answer ∷ []) l.down) (contents_described l.stands c)

pub finds_a_handshake : (g : Ghost) (l : LinkState) (service : Service) (rest : List Horizontal) → Pair g (hearing_up l (message.ServiceDescription service) rest)
    → IsOpen l.exit → l.exit ≡ Handshake
finds_a_handshake g l service rest k is_open = exit_shakes k.talk is_open

pub holds_in_a_handshake : (g : Ghost) (l : LinkState) (service : Service) (rest : List Horizontal) (q : Record)
    → Pair g (hearing_up l (message.ServiceDescription service) rest) → l.exit ≡ Handshake → held_out l.outlet.phase ≡ Some q → l.outlet.phase ≡ out.Stuck q false false
holds_in_a_handshake g l service rest q k x held = held_in_a_handshake (rw x at k.talk) held

-- what is said at a close is a Notification, and no word
said_nothing : (b : Bool) (ms ds : List Horizontal) → down_words ms ≡ [] → down_words (sent ms b ds) ≡ down_words ds
said_nothing b ms ds e = sent_down b ms ds ∙ ap (λ ws. sent ws b (down_words ds)) e

-- the close of an exit, whose machine may have events unread, but that its board has begun or left
pub closes_unread : {Gone : ℕ → Type 0} (g : Ghost) (l : LinkState) → Pair g l → HasRead (events_at sides.Exit l.around.up.unread) → ExitShut Gone g l
closes_unread {Gone = Gone} g l k n =
    let d = close_exit {Gone = Gone} k.talk n k.out l.outlet.touched in
    record {
      row = d.row;
      is = d.is;
      silent = d.silent;
      pair = λ ms e. record { out = d.out; «in» = k.in; gap = k.gap; talk = rw (said_nothing l.stands ms l.down e) d.talk };
      body = λ kept i q boards s. body_exit (d.body kept) s;
      contents = λ kept ms e c. rw (said_nothing l.stands ms l.down e) (d.contents kept l.last_offer c);
      lets = d.lets;
    }

pub closes_exit : {Gone : ℕ → Type 0} (g : Ghost) (l : LinkState) → Pair g (with_unread_up l []) → ExitShut Gone g (with_unread_up l [])
closes_exit g l k = closes_unread g (with_unread_up l []) k all_read

-- the exit announces: it offers the front of the kept boards, and takes its offer back
pub offers_front_board : {Gone : ℕ → Type 0} (g : Ghost) (l : LinkState) (q : Record) (ks : List Record) → Pair g l → l.exit ≡ Standing → l.outlet.phase ≡ out.Idle
    → l.outlet.offered ≡ None → IsContent Gone l (q ∷ ks)
    → Pair g (offered_on l q) × IsContent Gone (offered_on l q) (q ∷ ks)
offers_front_board {Gone = Gone} g l q ks k x o none c =
    let at : SessionState → Out → Option ℕ → List DownWord → Type 0 = λ x o of ws. Talks l.stands x o of l.outlet.ready l.entry l.intake.phase l.intake.offer l.intake.ready g.place (up_words l.up) ws in
    let t : at Standing out.Idle None (down_words l.down) = rw (x, o, none) at k.talk in
    let u : at l.exit l.outlet.phase (Some q.id) (sent (BoardAvailable q ∷ []) l.stands (down_words l.down)) = rw (x, o) (announce_offer q t) in (
      record { out = k.out; «in» = k.in; gap = k.gap; talk = rw (sent_down l.stands (message.BoardAvailable q ∷ []) l.down) u },
      rw (sent_down l.stands (message.BoardAvailable q ∷ []) l.down) (contents_offer l.stands c),
    )

pub revokes_offer : {Gone : ℕ → Type 0} (g : Ghost) (l : LinkState) (z : ℕ) (ks : List Record) → Pair g l → l.outlet.phase ≡ out.Idle → l.outlet.offered ≡ Some z → IsContent Gone l ks
    → Pair g (revoked_on l) × IsContent Gone (revoked_on l) ks
revokes_offer {Gone = Gone} g l z ks k o some c =
    let x : l.exit ≡ Standing = offered_stands (rw (o, some) at k.talk) in
    let at : SessionState → Out → Option ℕ → List DownWord → Type 0 = λ x o of ws. Talks l.stands x o of l.outlet.ready l.entry l.intake.phase l.intake.offer l.intake.ready g.place (up_words l.up) ws in
    let t : at Standing out.Idle (Some z) (down_words l.down) = rw (x, o, some) at k.talk in
    let u : at l.exit l.outlet.phase None (sent (RevokeBoardAvailable ∷ []) l.stands (down_words l.down)) = rw (x, o) (announce_revoke t) in (
      record { out = k.out; «in» = k.in; gap = k.gap; talk = rw (sent_down l.stands (message.RevokeBoardAvailable ∷ []) l.down) u },
      rw (sent_down l.stands (message.RevokeBoardAvailable ∷ []) l.down) (contents_revoke l.stands c),
    )
