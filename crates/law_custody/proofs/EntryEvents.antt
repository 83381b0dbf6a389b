-- The events of an entry, over the values of a link. A word that is heard finds a session that takes it, and a row.
use Rattle.std.proofs.Common.{Bool, List, Option, Some, [], ap, false, is_some, subst, sym, true, ℕ, ◌∙◌, ◌∷◌, ◌≡◌}
use Rattle.line_base.specs.declared.states.SensorEvent.{SensorEvent}
use Rattle.line_base.specs.declared.states.Side.TheVariants as sides
use Rattle.line_base.specs.declared.states.Transfer.{Transfer}
use Rattle.board_record.specs.declared.record.Record.{Record}
use Rattle.board_record.specs.declared.sensed.Sensed.{Sensed}
use Rattle.hermes_horizontal.specs.declared.message.Horizontal.{Horizontal}
use Rattle.hermes_horizontal.specs.declared.message.Horizontal.TheVariants as message
use Rattle.hermes_horizontal.specs.declared.message.Service.{Service}
use Rattle.session_core.specs.declared.state.SessionState.{SessionState}
use Rattle.session_core.specs.declared.state.SessionState.TheVariants.{Handshake, Standing}
use Rattle.line_world.specs.Moves.{entry_sees}
use Rattle.handover_in.specs.State.{board_of_phase as held_in}
use Rattle.handover_in.specs.declared.input.InInput.TheVariants as in_input
use Rattle.handover_in.specs.declared.phase.Phase.{Phase as In}
use Rattle.handover_in.specs.declared.phase.Phase.TheVariants as inn
use Rattle.law_custody.specs.Contents.{Named}
use Rattle.law_custody.specs.Events.{EntryShut, EntryStep, StartSaid, hearing_down, with_unread_down, with_unread_up}
use Rattle.law_custody.specs.Facts.{is_available, is_finished, is_revoke_available}
use Rattle.law_custody.specs.LookBack.{Asked, asked_after, dropped_after}
use Rattle.law_custody.specs.Pair.{Ghost, LinkState, Pair}
use Rattle.law_custody.specs.Steps.{EntryBegan, EntryDid, intake}
use Rattle.law_custody.specs.Talks.{Talks}
use Rattle.law_custody.specs.Unread.{IsEndRead, all_is_read}
use Rattle.law_custody.specs.Words.{UpstreamService, down_words, events_at, in_says, sent, up_words}
use Rattle.law_custody.proofs.AnnounceEntry.{announce_ready, announce_start, announce_unready}
use Rattle.law_custody.proofs.CloseEntry.{close_entry, contents_left}
use Rattle.law_custody.proofs.FaultEntry.{fault_entry}
use Rattle.law_custody.proofs.HearAvailable.{hear_available, hear_revoke_available}
use Rattle.law_custody.proofs.HearFinished.{hear_finished}
use Rattle.law_custody.proofs.HearUpstream.{hear_upstream_service}
use Rattle.law_custody.proofs.Lists.{sent_up}
use Rattle.law_custody.proofs.ReadEntry.{read_entry}
use Rattle.law_custody.proofs.Sessions.{entry_shakes, entry_stands, ready_stands}
use Rattle.law_custody.proofs.Steps.{body_entry, body_exit, entry_contents, entry_step, still_starts}
use Rattle.law_custody.proofs.Unread.{ReadFirst, none_unread}

-- the machine reads an event of its entry: the link of its exit sees no difference
pub reads_entry : {Gone : ℕ → Type 0} {above : List Record} (g : Ghost) (l : LinkState) (e : SensorEvent) (rest : List Sensed)
    → Pair g (with_unread_down l (entry_sees e ∷ rest)) → EntryStep Gone above g (with_unread_down l (entry_sees e ∷ rest)) (in_input.Sensed e) rest l.down
reads_entry g l e rest k = entry_step g (with_unread_down l (entry_sees e ∷ rest)) (in_input.Sensed e) rest l.down k (read_entry k.in k.talk)

pub skips_entry : (g : Ghost) (l : LinkState) (e : SensorEvent) (rest : List Sensed) → Pair g (with_unread_up l (entry_sees e ∷ rest)) → Pair g (with_unread_up l rest)
skips_entry g l e rest k = record { out = k.out; «in» = k.in; gap = k.gap; talk = k.talk }

pub fails_unread : {Gone : ℕ → Type 0} {above : List Record} (g : Ghost) (l : LinkState) → Pair g l → ReadFirst (events_at sides.Entry l.around.down.unread) g.place
    → EntryStep Gone above g l in_input.Fault l.around.down.unread l.down
fails_unread g l k n = entry_step g l in_input.Fault l.around.down.unread l.down k (fault_entry n k.in k.talk)

pub fails_entry : {Gone : ℕ → Type 0} {above : List Record} (g : Ghost) (l : LinkState) → Pair g (with_unread_down l [])
    → EntryStep Gone above g (with_unread_down l []) in_input.Fault [] l.down
fails_entry g l k = fails_unread g (with_unread_down l []) k none_unread

pub hears_available_unread : {Gone : ℕ → Type 0} {above : List Record} (g : Ghost) (l : LinkState) (q : Record) (rest : List Horizontal) → Pair g (record l { down = message.BoardAvailable q ∷ rest })
    → (l.entry ≡ Standing) × EntryStep Gone above g (record l { down = message.BoardAvailable q ∷ rest }) (in_input.BoardAvailable q) l.around.down.unread rest
hears_available_unread g l q rest k = (entry_stands k.talk is_available, entry_step g (record l { down = message.BoardAvailable q ∷ rest }) (in_input.BoardAvailable q) l.around.down.unread rest k (hear_available q k.talk k.in))

pub hears_available : {Gone : ℕ → Type 0} {above : List Record} (g : Ghost) (l : LinkState) (q : Record) (rest : List Horizontal) → Pair g (hearing_down l (message.BoardAvailable q) rest)
    → (l.entry ≡ Standing) × EntryStep Gone above g (hearing_down l (message.BoardAvailable q) rest) (in_input.BoardAvailable q) [] rest
hears_available g l q rest k = hears_available_unread g (with_unread_down l []) q rest k

pub hears_revoke_available_unread : {Gone : ℕ → Type 0} {above : List Record} (g : Ghost) (l : LinkState) (rest : List Horizontal) → Pair g (record l { down = message.RevokeBoardAvailable ∷ rest })
    → (l.entry ≡ Standing) × EntryStep Gone above g (record l { down = message.RevokeBoardAvailable ∷ rest }) in_input.RevokeBoardAvailable l.around.down.unread rest
hears_revoke_available_unread g l rest k = (entry_stands k.talk is_revoke_available, entry_step g (record l { down = message.RevokeBoardAvailable ∷ rest }) in_input.RevokeBoardAvailable l.around.down.unread rest k (hear_revoke_available k.talk k.in))

pub hears_revoke_available : {Gone : ℕ → Type 0} {above : List Record} (g : Ghost) (l : LinkState) (rest : List Horizontal) → Pair g (hearing_down l message.RevokeBoardAvailable rest)
    → (l.entry ≡ Standing) × EntryStep Gone above g (hearing_down l message.RevokeBoardAvailable rest) in_input.RevokeBoardAvailable [] rest
hears_revoke_available g l rest k = hears_revoke_available_unread g (with_unread_down l []) rest k

pub hears_finished_unread : {Gone : ℕ → Type 0} {above : List Record} (g : Ghost) (l : LinkState) (s : Transfer) (z : ℕ) (rest : List Horizontal) → Pair g (record l { down = message.TransportFinished s z ∷ rest })
    → ReadFirst (events_at sides.Entry l.around.down.unread) g.place → IsEndRead s (events_at sides.Entry l.around.down.unread)
    → (l.entry ≡ Standing) × EntryStep Gone above g (record l { down = message.TransportFinished s z ∷ rest }) (in_input.Finished s z) l.around.down.unread rest
hears_finished_unread g l s z rest k n w = (entry_stands k.talk is_finished, entry_step g (record l { down = message.TransportFinished s z ∷ rest }) (in_input.Finished s z) l.around.down.unread rest k (hear_finished k.talk n w k.in))

pub hears_finished : {Gone : ℕ → Type 0} {above : List Record} (g : Ghost) (l : LinkState) (s : Transfer) (z : ℕ) (rest : List Horizontal)
    → Pair g (hearing_down l (message.TransportFinished s z) rest)
    → (l.entry ≡ Standing) × EntryStep Gone above g (hearing_down l (message.TransportFinished s z) rest) (in_input.Finished s z) [] rest
hears_finished g l s z rest k = hears_finished_unread g (with_unread_down l []) s z rest k none_unread all_is_read

-- the upstream machine describes itself: the session stands, and the intake hears that there is a new connection
pub hears_upstream : {Gone : ℕ → Type 0} {above : List Record} (g : Ghost) (l : LinkState) (service : Service) (rest : List Horizontal)
    → Pair g (hearing_down l (message.ServiceDescription service) rest)
    → (l.entry ≡ Handshake) × EntryStep Gone above g (record (hearing_down l (message.ServiceDescription service) rest) { entry = Standing }) in_input.Stand [] rest
hears_upstream {Gone = Gone} {above = above} g l service rest k =
    let m : LinkState = hearing_down l (message.ServiceDescription service) rest in
    let x : l.entry ≡ Handshake = entry_shakes k.talk in
    let t = subst (λ y. Talks l.stands l.exit l.outlet.phase l.outlet.offered l.outlet.ready y l.intake.phase l.intake.offer l.intake.ready g.place (up_words l.up) (UpstreamService ∷ down_words rest)) x k.talk in
    let d : EntryDid (Named Gone l.stands above l.outlet.touched l.last_offer) in_input.Stand l.intake [] l.around.between.entry_drive l.stands l.exit l.outlet.phase l.outlet.offered l.outlet.ready Standing g.place g.board (up_words l.up) (UpstreamService ∷ down_words rest) (down_words rest) = hear_upstream_service t k.in in (
      x,
      record {
        row = d.row;
        is = d.is;
        pair = λ ms e. record { out = k.out; «in» = d.in; gap = k.gap; talk = rw (sent_up l.stands ms l.up, e) d.talk };
        body = λ o p kept boards s. body_entry (d.body kept) s;
        contents = λ ms e c. entry_contents d.holds (still_starts l.stands ms l.up (in_says d.row.act.send) e d.quiet) (d.opened c.offers c.offer) c;
        settles = d.settles;
        recalls = d.recalls;
        asked = λ ms e last dropped a. subst (λ ids. Asked ids (asked_after d.row.act.deed last) (dropped_after d.row.act.deed dropped) (is_some (held_in d.row.after.phase))) (sym (still_starts l.stands ms l.up (in_says d.row.act.send) e d.quiet)) (d.asked last dropped a);
      },
    )

said_nothing : (b : Bool) (ms us : List Horizontal) → up_words ms ≡ [] → up_words (sent ms b us) ≡ up_words us
said_nothing b ms us e = sent_up b ms us ∙ ap (λ ws. sent ws b (up_words us)) e

-- the close of an entry, whose machine may have events unread
pub closes_unread : {Gone : ℕ → Type 0} {above : List Record} (g : Ghost) (l : LinkState) → Pair g l → ReadFirst (events_at sides.Entry l.around.down.unread) g.place → EntryShut Gone above g l
closes_unread g l k n =
    let d = close_entry k.talk n k.in in
    record {
      row = d.row;
      is = d.is;
      silent = d.silent;
      settles_not = d.settles_not;
      pair = λ ms e. record { out = k.out; «in» = d.in; gap = k.gap; talk = rw (said_nothing l.stands ms l.up e) d.talk };
      body = λ o p kept boards s. body_entry (d.body kept) s;
      contents = λ ms e. contents_left d.offerless;
      recalls = d.recalls;
      asked = λ ms e last dropped a. rw (said_nothing l.stands ms l.up e) (d.asked last dropped a);
    }

pub closes_entry : {Gone : ℕ → Type 0} {above : List Record} (g : Ghost) (l : LinkState) → Pair g (with_unread_down l []) → EntryShut Gone above g (with_unread_down l [])
closes_entry g l k = closes_unread g (with_unread_down l []) k none_unread

-- the entry announces that it is ready, and that it is not any more
pub says_ready : {Gone : ℕ → Type 0} {above : List Record} (g : Ghost) (l : LinkState) → Pair g (with_unread_down l []) → l.entry ≡ Standing → l.intake.phase ≡ inn.Idle
    → l.intake.ready ≡ false
    → EntryStep Gone above g (with_unread_down l []) in_input.Ready [] l.down
says_ready {Gone = Gone} {above = above} g l k y i r =
    let P : SessionState → In → Bool → Type 0 = λ y i r. EntryDid (Named Gone l.stands above l.outlet.touched l.last_offer) in_input.Ready (intake i l.intake.offer r) [] l.around.between.entry_drive l.stands l.exit l.outlet.phase l.outlet.offered l.outlet.ready y g.place g.board (up_words l.up) (down_words l.down) (down_words l.down) in
    let d : P Standing inn.Idle false = announce_ready (rw (y, i, r) at k.talk) (rw i at k.in) in
    let e : P l.entry l.intake.phase l.intake.ready = rw (y, i, r) d in
    entry_step g (with_unread_down l []) in_input.Ready [] l.down k e

pub says_unready : {Gone : ℕ → Type 0} {above : List Record} (g : Ghost) (l : LinkState) → Pair g (with_unread_down l []) → l.intake.phase ≡ inn.Idle → l.intake.ready ≡ true
    → EntryStep Gone above g (with_unread_down l []) in_input.Unready [] l.down
says_unready {Gone = Gone} {above = above} g l k i r =
    let y : l.entry ≡ Standing = ready_stands (rw (i, r) at k.talk) in
    let P : SessionState → In → Bool → Type 0 = λ y i r. EntryDid (Named Gone l.stands above l.outlet.touched l.last_offer) in_input.Unready (intake i l.intake.offer r) [] l.around.between.entry_drive l.stands l.exit l.outlet.phase l.outlet.offered l.outlet.ready y g.place g.board (up_words l.up) (down_words l.down) (down_words l.down) in
    let d : P Standing inn.Idle true = announce_unready (rw (y, i, r) at k.talk) (rw i at k.in) in
    let e : P l.entry l.intake.phase l.intake.ready = rw (y, i, r) d in
    entry_step g (with_unread_down l []) in_input.Unready [] l.down k e

-- and that a transport starts of the board that is offered
start_said : {Gone : ℕ → Type 0} {above : List Record} (g : Ghost) (l : LinkState)
    → EntryBegan Gone in_input.Start l.intake l.around.between.entry_drive l.stands l.exit l.outlet.phase l.outlet.offered l.outlet.ready l.entry (events_at sides.Exit l.around.up.unread) l.around.between.exit_drive l.around.between.lies g.place (up_words l.up) (down_words l.down)
    → StartSaid Gone above g (with_unread_down l [])
start_said {above = above} g l e = record {
  row = e.row;
  is = e.is;
  after = record { place = e.place; board = e.board };
  pair = λ ms same. record { out = e.out; «in» = e.in; gap = e.gap; talk = rw (sent_up l.stands ms l.up, same) e.talk };
  body = λ o p kept boards s. body_entry (e.body kept) s;
  above_body = λ kept i q boards s. body_exit (e.above kept) s;
  contents = λ ms same c. rw (sent_up l.stands ms l.up, same) (e.contents above l.outlet.touched l.last_offer c);
  lets = e.lets;
  recalls = e.recalls;
  asked = λ ms same last dropped. rw (sent_up l.stands ms l.up, same) (e.asked last dropped);
}

pub says_start : {Gone : ℕ → Type 0} {above : List Record} (g : Ghost) (l : LinkState) (q : Record) → Pair g (with_unread_down l []) → l.intake.phase ≡ inn.Idle
    → l.intake.offer ≡ Some q → l.intake.ready ≡ true
    → StartSaid Gone above g (with_unread_down l [])
says_start {Gone = Gone} {above = above} g l q k i f r =
    let y : l.entry ≡ Standing = ready_stands (rw (i, r) at k.talk) in
    let P : SessionState → In → Option Record → Bool → Type 0 = λ y i f r. EntryBegan Gone in_input.Start (intake i f r) l.around.between.entry_drive l.stands l.exit l.outlet.phase l.outlet.offered l.outlet.ready y (events_at sides.Exit l.around.up.unread) l.around.between.exit_drive l.around.between.lies g.place (up_words l.up) (down_words l.down) in
    let d : P Standing inn.Idle (Some q) true = announce_start (rw (y, i, f, r) at k.talk) (rw i at k.in) k.out k.gap in
    start_said g l (rw (y, i, f, r) d)
