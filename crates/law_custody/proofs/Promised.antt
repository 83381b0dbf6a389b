-- The laws, as the contracts in src/laws.rt state them.
use Rattle.std.proofs.Common.{Bool, List, None, Option, Some, [], ap, false, is_some, not, refl, subst, sym, ℕ, ◌∙◌, ◌∷◌, ◌≡◌}
use Rattle.line_base.specs.declared.states.SensorEvent.{SensorEvent}
use Rattle.line_base.specs.declared.states.SensorEvent.TheVariants as event
use Rattle.line_base.specs.declared.states.Side.TheVariants as sides
use Rattle.line_base.specs.declared.states.Transfer.{Transfer}
use Rattle.board_record.specs.declared.record.Record.{Record}
use Rattle.board_record.specs.declared.sensed.Sensed.{Sensed}
use Rattle.hermes_horizontal.specs.declared.message.Horizontal.{Horizontal}
use Rattle.hermes_horizontal.specs.declared.message.Horizontal.TheVariants as message
use Rattle.hermes_horizontal.specs.declared.message.Service.{Service}
use Rattle.session_core.specs.declared.state.SessionState.TheVariants.{Handshake, Standing}
use Rattle.line_world.specs.Moves.{entry_sees}
use Rattle.line_world.specs.declared.board.Board.{Board}
use Rattle.line_world.specs.declared.gap.Gap.TheVariants as gaps
use Rattle.handover_out.specs.State.{board_of_phase as held_out, would_open}
use Rattle.handover_out.specs.declared.phase.Phase.{Phase as Out}
use Rattle.handover_out.specs.declared.phase.Phase.TheVariants as out
use Rattle.handover_in.specs.Row.{InRow, intake_row}
use Rattle.handover_in.specs.State.{board_of_phase as held_in}
use Rattle.handover_in.specs.declared.input.InInput.{InInput}
use Rattle.handover_in.specs.declared.input.InInput.TheVariants as in_input
use Rattle.handover_in.specs.declared.phase.Phase.{Phase as In}
use Rattle.law_custody.specs.Contents.{Looks, OffersFront, front_if, no_offer, open_none}
use Rattle.law_custody.specs.Events.{EntryStep, IsAsked, IsContent, hearing_down, hearing_up, with_unread_down}
use Rattle.law_custody.specs.Facts.{Has, HasDown, TellsOf, tells_across}
use Rattle.law_custody.specs.Floor.{GapAt, gap_left}
use Rattle.law_custody.specs.Floors.{new_link, nobody}
use Rattle.law_custody.specs.LookBack.{IsSaid, LetGo, Recalls, Settles, Since, asks_nothing, is_not_beyond, not_beyond_fresh, since_after}
use Rattle.law_custody.specs.Pair.{Ghost, LinkState, Pair}
use Rattle.law_custody.specs.Place.{Fresh, Place, beyond_inside}
use Rattle.law_custody.specs.Words.{TransportFinished, UpstreamService, down_words, events_at}
use Rattle.law_custody.proofs.Asked.{heard_is_last}
use Rattle.law_custody.proofs.Behind.{holds_or_stale, nothing_behind_a_description, nothing_behind_an_end}
use Rattle.law_custody.proofs.EntryEvents.{hears_finished, hears_upstream, reads_entry}
use Rattle.law_custody.proofs.Facts.{begun_held_upstream, begun_id, gone_is_unread, in_holds, left_held_downstream, left_id, out_holds}
use Rattle.law_custody.proofs.HearStart.{start_finds}
use Rattle.law_custody.proofs.Lets.{settles_what_left}

pub board_begun : (g : Ghost) (l : LinkState) (a : Board) → Pair g l → l.around.between.lies ≡ gaps.Begun a → (held_out l.outlet.phase ≡ Some g.board) × (a.id ≡ Some g.board.id)
board_begun g l a k e = let gap = subst (λ t. GapAt t g.place g.board) e k.gap in (begun_held_upstream gap k.out, begun_id gap)

pub board_across : (g : Ghost) (l : LinkState) (a : Board) → Pair g l → l.around.between.lies ≡ gaps.Left a → (held_in l.intake.phase ≡ Some g.board) × (a.id ≡ Some g.board.id)
board_across g l a k e = let gap = subst (λ t. GapAt t g.place g.board) e k.gap in (left_held_downstream gap k.in, left_id gap)

tells_of_left : {a : Board} {p : Place} {r : Record} → GapAt (gaps.Left a) p r → TellsOf p event.Left
tells_of_left gap_left = tells_across

pub board_gone : (g : Ghost) (l : LinkState) (q : Record) (e : SensorEvent) → Pair g l → held_out l.outlet.phase ≡ Some q → TellsOf g.place e
    → Has e (events_at sides.Exit l.around.up.unread)
board_gone g l q e k held tells = gone_is_unread k.out tells held

pub board_left : (g : Ghost) (l : LinkState) (q : Record) (a : Board) → Pair g l → held_out l.outlet.phase ≡ Some q → l.around.between.lies ≡ gaps.Left a
    → Has event.Left (events_at sides.Exit l.around.up.unread)
board_left g l q a k held e = gone_is_unread k.out (tells_of_left (subst (λ t. GapAt t g.place g.board) e k.gap)) held

pub free_behind_an_end : (g : Ghost) (l : LinkState) (e : Transfer) (z : ℕ) → Pair g l → HasDown (TransportFinished e z) (down_words l.down) → held_out l.outlet.phase ≡ None
free_behind_an_end g l e z k has = nothing_behind_an_end (holds_or_stale k.talk) has

pub free_behind_a_description : (g : Ghost) (l : LinkState) → Pair g l → HasDown UpstreamService (down_words l.down) → held_out l.outlet.phase ≡ None
free_behind_a_description g l k has = nothing_behind_a_description (holds_or_stale k.talk) has

pub one_record : (g : Ghost) (l : LinkState) (q r : Record) → Pair g l → held_out l.outlet.phase ≡ Some q → held_in l.intake.phase ≡ Some r → q ≡ r
one_record g l q r k a b = sym (out_holds k.out a) ∙ in_holds k.in b

-- what settles is the board that was let go last, and the upstream machine said so
settled_by : {o : Out} {p : Place} {r q : Record} {w : InInput} {i : In} {last : Option Record} → Settles o p r q w i → LetGo p o r last → last ≡ Some q
settled_by {o = o} {p = p} {r = r} {last = last} s l =
    settles_what_left beyond_inside s.free (subst (λ p. LetGo p o r last) s.inside l) ∙ ap (λ r. Some r) (sym s.same)

same_row : {a c : InRow} → ◌≡◌ {A = Option InRow} (Some a) (Some c) → a ≡ c
same_row e = cc

keeps_same : {a c : InRow} {found : Option InRow} {q : Record} → found ≡ Some a → found ≡ Some c → c.act.keep ≡ Some q → a.act.keep ≡ Some q
keeps_same e f keep = ap (λ row. row.act.keep) (same_row (sym e ∙ f)) ∙ keep

nowhere : ℕ → Type 0
nowhere _ = ⊥

-- what an event of the entry settles, whichever row it has
read_settles : (g : Ghost) (l : LinkState) (e : SensorEvent) (rest : List Sensed) (row : InRow) (q : Record) → Pair g (with_unread_down l (entry_sees e ∷ rest))
    → intake_row l.intake (in_input.Sensed e) ≡ Some row → row.act.keep ≡ Some q
    → Settles l.outlet.phase g.place g.board q (in_input.Sensed e) l.intake.phase
read_settles g l e rest row q k is keep = let d : EntryStep nowhere [] g (with_unread_down l (entry_sees e ∷ rest)) (in_input.Sensed e) rest l.down = reads_entry g l e rest k in d.settles q (keeps_same d.is is keep)

end_settles : (g : Ghost) (l : LinkState) (s : Transfer) (z : ℕ) (rest : List Horizontal) (row : InRow) (q : Record)
    → Pair g (hearing_down l (message.TransportFinished s z) rest) → intake_row l.intake (in_input.Finished s z) ≡ Some row → row.act.keep ≡ Some q
    → Settles l.outlet.phase g.place g.board q (in_input.Finished s z) l.intake.phase
end_settles g l s z rest row q k is keep = let d : (l.entry ≡ Standing) × EntryStep nowhere [] g (hearing_down l (message.TransportFinished s z) rest) (in_input.Finished s z) [] rest = hears_finished g l s z rest k in d.1.settles q (keeps_same d.1.is is keep)

description_settles : (g : Ghost) (l : LinkState) (service : Service) (rest : List Horizontal) (row : InRow) (q : Record)
    → Pair g (hearing_down l (message.ServiceDescription service) rest) → intake_row l.intake in_input.Stand ≡ Some row → row.act.keep ≡ Some q
    → Settles l.outlet.phase g.place g.board q in_input.Stand l.intake.phase
description_settles g l service rest row q k is keep = let d : (l.entry ≡ Handshake) × EntryStep nowhere [] g (record (hearing_down l (message.ServiceDescription service) rest) { entry = Standing }) in_input.Stand [] rest = hears_upstream g l service rest k in d.1.settles q (keeps_same d.1.is is keep)

-- it was let go last
pub read_was_let_go : (g : Ghost) (l : LinkState) (e : SensorEvent) (rest : List Sensed) (row : InRow) (q : Record) (last : Option Record)
    → Pair g (with_unread_down l (entry_sees e ∷ rest)) → intake_row l.intake (in_input.Sensed e) ≡ Some row → row.act.keep ≡ Some q
    → LetGo g.place l.outlet.phase g.board last → last ≡ Some q
read_was_let_go g l e rest row q last k is keep lets = settled_by (read_settles g l e rest row q k is keep) lets

pub end_was_let_go : (g : Ghost) (l : LinkState) (s : Transfer) (z : ℕ) (rest : List Horizontal) (row : InRow) (q : Record) (last : Option Record)
    → Pair g (hearing_down l (message.TransportFinished s z) rest) → intake_row l.intake (in_input.Finished s z) ≡ Some row → row.act.keep ≡ Some q
    → LetGo g.place l.outlet.phase g.board last → last ≡ Some q
end_was_let_go g l s z rest row q last k is keep lets = settled_by (end_settles g l s z rest row q k is keep) lets

pub description_was_let_go : (g : Ghost) (l : LinkState) (service : Service) (rest : List Horizontal) (row : InRow) (q : Record) (last : Option Record)
    → Pair g (hearing_down l (message.ServiceDescription service) rest) → intake_row l.intake in_input.Stand ≡ Some row → row.act.keep ≡ Some q
    → LetGo g.place l.outlet.phase g.board last → last ≡ Some q
description_was_let_go g l service rest row q last k is keep lets = settled_by (description_settles g l service rest row q k is keep) lets

-- and the upstream machine said so
pub read_was_said : (g : Ghost) (l : LinkState) (e : SensorEvent) (rest : List Sensed) (row : InRow) (q : Record) (s : Since)
    → Pair g (with_unread_down l (entry_sees e ∷ rest)) → intake_row l.intake (in_input.Sensed e) ≡ Some row → row.act.keep ≡ Some q → Recalls l.intake.phase s
    → IsSaid (since_after (in_input.Sensed e) s)
read_was_said g l e rest row q s k is keep = (read_settles g l e rest row q k is keep).said s

pub end_was_said : (g : Ghost) (l : LinkState) (t : Transfer) (z : ℕ) (rest : List Horizontal) (row : InRow) (q : Record) (s : Since)
    → Pair g (hearing_down l (message.TransportFinished t z) rest) → intake_row l.intake (in_input.Finished t z) ≡ Some row → row.act.keep ≡ Some q
    → Recalls l.intake.phase s → IsSaid (since_after (in_input.Finished t z) s)
end_was_said g l t z rest row q s k is keep = (end_settles g l t z rest row q k is keep).said s

pub description_was_said : (g : Ghost) (l : LinkState) (service : Service) (rest : List Horizontal) (row : InRow) (q : Record) (s : Since)
    → Pair g (hearing_down l (message.ServiceDescription service) rest) → intake_row l.intake in_input.Stand ≡ Some row → row.act.keep ≡ Some q → Recalls l.intake.phase s
    → IsSaid (since_after in_input.Stand s)
description_was_said g l service rest row q s k is keep = (description_settles g l service rest row q k is keep).said s

-- a start that is heard is the last that was said, and its board is held unless it was dropped since
pub start_is_last : (l : LinkState) (z : ℕ) (rest : List Horizontal) (last : Option ℕ) (dropped : Bool)
    → IsAsked (hearing_up l (message.StartTransport z) rest) last dropped → (last ≡ Some z) × (is_some (held_in l.intake.phase) ≡ not dropped)
start_is_last l z rest last dropped a = heard_is_last a

-- the front, where it is what the outlet offers, is what a machine finds for a start
pub finds_for_a_start : (g : Ghost) (l : LinkState) (z : ℕ) (rest : List Horizontal) (kept : List Record) → Pair g (hearing_up l (message.StartTransport z) rest)
    → OffersFront l.outlet.offered kept → Looks l.outlet.offered kept z (front_if (would_open l.outlet z) kept)
finds_for_a_start g l z rest kept k front = start_finds l.outlet.touched k.talk front

-- what holds of a new link
pub new_contents : (Gone : ℕ → Type 0) → IsContent Gone new_link []
new_contents Gone = record { offers = open_none; offer = no_offer; start = λ r _ _ some. absurd (some refl) }

pub new_lets : LetGo Fresh out.Idle nobody None
new_lets = is_not_beyond not_beyond_fresh

pub new_asked : IsAsked new_link None false
new_asked = asks_nothing refl
