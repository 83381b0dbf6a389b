-- WHO MAY TELL OF BOARDS: where a link stands and one end is not in its handshake, the other is not either, or its description
-- is on its way there.
use Rattle.std.proofs.Common.{Bool, List, None, Option, Some, [], ap, false, inl, inr, refl, subst, sym, true, ℕ, ◌+◌, ◌∙◌, ◌∷◌, ◌≡◌, ◌⊎◌}
use Rattle.std.proofs.lemmas.Bool.{false≢true}
use Rattle.line_base.specs.declared.states.Side.{Side}
use Rattle.line_base.specs.declared.states.Side.TheVariants.{Entry, Exit}
use Rattle.board_record.specs.declared.record.Record.{Record}
use Rattle.hermes_horizontal.specs.declared.message.Horizontal.{Horizontal}
use Rattle.hermes_horizontal.specs.declared.message.Horizontal.TheVariants as message
use Rattle.hermes_horizontal.specs.declared.message.Message.{Message}
use Rattle.hermes_horizontal.specs.declared.message.Ping.TheVariants as pings
use Rattle.session_core.specs.declared.state.SessionState.{SessionState}
use Rattle.session_core.specs.declared.state.SessionState.TheVariants.{Handshake, NotConnected, Standing}
use Rattle.handover_in.specs.declared.phase.Phase.{Phase as In}
use Rattle.handover_out.specs.declared.phase.Phase.{Phase as Out}
use Rattle.line_link.specs.Flow.{Stream, coming}
use Rattle.law_custody.specs.Bytes.{Flows, Spoiled, texts_of}
use Rattle.law_custody.specs.Place.{Place}
use Rattle.law_custody.specs.Talks.{Talks, apart, apart_start, apart_start_stop, described, described_waiting, live, shaking_idle, shaking_stuck, shaking_stuck_waiting, shaking_waiting}
use Rattle.law_custody.specs.Words.{BoardAvailable, DownWord, RevokeBoardAvailable, TransportFinished, UpWord, UpstreamService, before_down, down_words}
use Rattle.law_machine_custody.specs.Flight.{AreOldest}
use Rattle.law_link_messages.specs.Fit.{AreFit, IsFit}
use Rattle.law_link_messages.specs.Heard.{bodies}
use Rattle.law_link_messages.proofs.SayingWhat.{IsFitSaid, pong_fits}
use Rattle.line_step.specs.Numbered.{node_at}
use Rattle.line_step.specs.Reasons.{has_link}
use Rattle.line_step.specs.State.{LineState}
use Rattle.line_step.specs.World.{link_at}
use Rattle.law_one_standing.specs.Carried.{Carries, Trace, carries_over, carries_spoiled, carries_whole}
use Rattle.law_one_standing.specs.Stands.{Stands}
use Rattle.law_one_standing.proofs.BlameLinks.{AreClear, Clear, after_more, clear_over, clear_spoiled, clear_whole, ready_behind}
use Rattle.step_rules.proofs.BlameReady.{is_ready, is_ready_state, ready_after}
use Rattle.law_one_standing.proofs.BlameSteps.{AreClearIn, entries_of, exits_of, free_of, ready_of}
use Rattle.law_one_standing.proofs.BlameWords.{never_spoiled, same_said}
use Rattle.law_one_standing.proofs.Carrying.{SaysAlone}
use Rattle.law_one_standing.proofs.FactsBlame.{AreFrom, Front, front_of, said}

-- ---- what the relation of a link knows

abbrev has_service : List DownWord → Bool
has_service [] = false
has_service (UpstreamService ∷ ws) = true
has_service (BoardAvailable board ∷ ws) = has_service ws
has_service (RevokeBoardAvailable ∷ ws) = has_service ws
has_service (TransportFinished state id ∷ ws) = has_service ws

exit_free : {b : Bool} {x y : SessionState} {o : Out} {of : Option ℕ} {rd : Bool} {i : In} {f : Option Record} {ri : Bool} {p : Place} {up : List UpWord} {down : List DownWord} → Talks b x o of rd y i f ri p up down → b ≡ true → is_ready_state x ≡ true
    → (is_ready_state y ≡ true) ⊎ (has_service down ≡ true)
exit_free (live shape) on is = inl refl
exit_free shaking_idle on is = absurd (false≢true is)
exit_free shaking_waiting on is = absurd (false≢true is)
exit_free shaking_stuck on is = absurd (false≢true is)
exit_free shaking_stuck_waiting on is = absurd (false≢true is)
exit_free (described offers) on is = inr refl
exit_free (described_waiting offers) on is = inr refl
exit_free (apart_start s a) on is = absurd (false≢true on)
exit_free (apart_start_stop s a) on is = absurd (false≢true on)
exit_free (apart x e) on is = absurd (false≢true on)

entry_free : {b : Bool} {x y : SessionState} {o : Out} {of : Option ℕ} {rd : Bool} {i : In} {f : Option Record} {ri : Bool} {p : Place} {up : List UpWord} {down : List DownWord} → Talks b x o of rd y i f ri p up down → b ≡ true → is_ready_state y ≡ true → is_ready_state x ≡ true
entry_free (live shape) on is = refl
entry_free shaking_idle on is = absurd (false≢true is)
entry_free shaking_waiting on is = absurd (false≢true is)
entry_free shaking_stuck on is = absurd (false≢true is)
entry_free shaking_stuck_waiting on is = absurd (false≢true is)
entry_free (described offers) on is = refl
entry_free (described_waiting offers) on is = refl
entry_free (apart_start s a) on is = absurd (false≢true on)
entry_free (apart_start_stop s a) on is = absurd (false≢true on)
entry_free (apart x e) on is = absurd (false≢true on)

connected_there : {b : Bool} {x y : SessionState} {o : Out} {of : Option ℕ} {rd : Bool} {i : In} {f : Option Record} {ri : Bool} {p : Place} {up : List UpWord} {down : List DownWord} → Talks b x o of rd y i f ri p up down → b ≡ true → x ≡ NotConnected → ⊥
connected_there (live shape) on is = absurd (cc)
connected_there shaking_idle on is = absurd (cc)
connected_there shaking_waiting on is = absurd (cc)
connected_there shaking_stuck on is = absurd (cc)
connected_there shaking_stuck_waiting on is = absurd (cc)
connected_there (described offers) on is = absurd (cc)
connected_there (described_waiting offers) on is = absurd (cc)
connected_there (apart_start s a) on is = absurd (false≢true on)
connected_there (apart_start_stop s a) on is = absurd (false≢true on)
connected_there (apart x e) on is = absurd (false≢true on)

-- ---- a description among what was sent is among what is known to be

behind_ready : (side : Side) (ready : Bool) (sent : List Horizontal) → ready ≡ true → ready_behind side ready sent ≡ true
behind_ready side ready [] is = is
behind_ready side ready (body ∷ sent) is = behind_ready side (ready_after side ready body) sent (after_more side ready body is)

first_service : (ready : Bool) (what : Horizontal) (ws : List DownWord) → has_service (before_down what ws) ≡ true → (ready_after Entry ready what ≡ true) ⊎ (has_service ws ≡ true)
first_service ready (message.ServiceDescription service) ws is = inl refl
first_service ready (message.BoardAvailable board) ws is = inr is
first_service ready message.RevokeBoardAvailable ws is = inr is
first_service ready (message.TransportFinished state id) ws is = inr is
first_service ready _ ws is = inr is

behind_service : (ready : Bool) (sent : List Message) (messages : List Horizontal) → AreOldest (said sent) messages → has_service (down_words (bodies sent)) ≡ true → ready_behind Entry ready messages ≡ true
behind_service ready [] messages oldest is = absurd (false≢true is)
behind_service ready (m ∷ sent) messages oldest is =
    let f : Front m.body (said sent) messages = front_of oldest in
    let later : ready_behind Entry (ready_after Entry ready m.body) f.rest ≡ true = elim (first_service ready m.body (down_words (bodies sent)) is) [
      | inl now ↦ behind_ready Entry (ready_after Entry ready m.body) f.rest now
      | inr there ↦ behind_service (ready_after Entry ready m.body) sent f.rest f.oldest there
    ] in
    ap (ready_behind Entry ready) f.is ∙ later

abbrev pong : Message
pong = record { stamp = None; body = message.CheckAlive (Some pings.Answer) None }

pong_fit : IsFit pong
pong_fit =
    let fit : IsFitSaid (message.CheckAlive (Some pings.Answer) None) = pong_fits None tt in
    record { proper = record { stamp = tt; name = fit.name; values = fit.values; subs = fit.barcodes }; writable = record { numbers = fit.numbers; subs = fit.subs; named = fit.named }; short = fit.short }

by_scene : (ready : Bool) (sent said_so : List Message) → AreOldest (said sent) (bodies said_so) → (ready ≡ true) ⊎ (has_service (down_words (bodies sent)) ≡ true) → ready_behind Entry ready (bodies said_so) ≡ true
by_scene ready sent said_so oldest (inl now) = behind_ready Entry ready (bodies said_so) now
by_scene ready sent said_so oldest (inr there) = behind_service ready sent (bodies said_so) oldest there

down_whole : {Taint : Type 0} {ready stands : Bool} {waiting : List ℕ} {stream : Stream} {messages : List Horizontal} → SaysAlone → (free : Bool) (sent : List Message) → AreFit sent → AreFrom Entry ready sent → Flows waiting (coming stream) (texts_of sent)
    → Carries stands waiting stream messages → (free ≡ true → stands ≡ true → (ready ≡ true) ⊎ (has_service (down_words messages) ≡ true)) → Clear Taint Entry ready free stands waiting (coming stream)
down_whole {ready = ready} {waiting = waiting} {stream = stream} alone free sent fit from flows (carries_whole was good same) then =
    clear_whole sent fit from (λ is on. by_scene ready was sent (same_said alone waiting (coming stream) was sent good fit same flows) (then is on)) flows
down_whole {waiting = waiting} {stream = stream} alone free sent fit from flows (carries_spoiled spoiled hides) then = absurd (never_spoiled alone waiting (coming stream) sent pong fit pong_fit flows spoiled)
down_whole alone free sent fit from flows (carries_over off none) then = clear_whole sent fit from (λ is on. absurd (false≢true (sym off ∙ on))) flows

-- ---- a link of a line

free_down : {Taint : Type 0} {ready stands : Bool} {waiting : List ℕ} {stream : Stream} {messages : List Horizontal} → SaysAlone → (free : Bool) → Carries stands waiting stream messages
    → (free ≡ true → stands ≡ true → (ready ≡ true) ⊎ (has_service (down_words messages) ≡ true)) → Clear Taint Entry ready false stands waiting (coming stream) → Clear Taint Entry ready free stands waiting (coming stream)
free_down alone free carries then (clear_whole sent fit from none flows) = down_whole alone free sent fit from flows carries then
free_down alone free carries then (clear_spoiled taint spoiled) = clear_spoiled taint spoiled
free_down alone free carries then (clear_over off none) = clear_over off none

free_up : {Taint : Type 0} {ready stands : Bool} {waiting bytes : List ℕ} (side : Side) (free : Bool) → (free ≡ true → stands ≡ true → ready ≡ true) → Clear Taint side ready false stands waiting bytes → Clear Taint side ready free stands waiting bytes
free_up {ready = ready} side free then (clear_whole sent fit from none flows) = clear_whole sent fit from (λ is on. behind_ready side ready (bodies sent) (then is on)) flows
free_up side free then (clear_spoiled taint spoiled) = clear_spoiled taint spoiled
free_up side free then (clear_over off none) = clear_over off none

-- where there is no link, it doesn't stand
apart_down : {Taint : Type 0} (t : Trace) (s : LineState) (link : ℕ) → SaysAlone → Stands t s → (test : Bool) → has_link link s ≡ test
    → Clear Taint Entry (ready_of s link Entry) false (link_at link s.world).stands (entries_of s link) (coming (link_at link s.world).flows.to_downstream)
    → Clear Taint Entry (ready_of s link Entry) (free_of s link Entry) (link_at link s.world).stands (entries_of s link) (coming (link_at link s.world).flows.to_downstream)
apart_down t s link alone holds true there k = free_down alone (free_of s link Entry) (holds.carried link there).down (λ is on. exit_free (holds.keeps.neighbours.at link).pair.talk on is) k
apart_down t s link alone holds false there k =
    free_up Entry (free_of s link Entry) (λ is on. absurd (connected_there (holds.keeps.neighbours.at link).pair.talk on (holds.rest link there).exit)) k

-- THE LINE: between two lines of a script each side of a link that isn't in its handshake may tell the other of boards
pub freed : {Taint : ℕ → Side → Type 0} (t : Trace) (s : LineState) → SaysAlone → Stands t s → AreClearIn Taint s → AreClear Taint (ready_of s) (free_of s) (exits_of s) (entries_of s) s.world
freed t s alone holds all = record {
  at = λ link. record {
    up = free_up Exit (free_of s link Exit) (λ is on. entry_free (holds.keeps.neighbours.at link).pair.talk on is) (all.at link).up;
    down = apart_down t s link alone holds (has_link link s) refl (all.at link).down;
  };
}
