-- A TURN, at each of its machine's two links: what the step of the machine says of the acts there, and which connections it meets.
use Rattle.std.proofs.Common.{Bool, Err, List, None, Ok, Option, Result, [], ap, false, refl, subst, sym, true, ℕ, ℤ, ◌++◌, ◌∙◌, ◌∷◌, ◌≡◌}
use Rattle.std.proofs.lemmas.Bool.{false≢true}
use Rattle.line_base.specs.declared.states.Side.{Side}
use Rattle.line_base.specs.declared.states.Side.TheVariants.{Entry, Exit}
use Rattle.board_record.specs.Maker.{Maker, next_id}
use Rattle.board_record.specs.declared.maker.IdsUsedUp.{IdsUsedUp}
use Rattle.board_record.specs.declared.record.Record.{Record}
use Rattle.board_record.specs.declared.sensed.Sensed.{Sensed}
use Rattle.session_core.specs.declared.state.SessionState.{SessionState}
use Rattle.session_core.specs.declared.state.SessionState.TheVariants.{Handshake, NotConnected, Standing}
use Rattle.session_core.specs.End.{is_connected_state}
use Rattle.smema_bridge.specs.Levels.{BridgeLevels}
use Rattle.handover_out.specs.Links.{is_unlinked_phase as out_unlinked}
use Rattle.handover_out.specs.declared.phase.Phase.{Phase as Out}
use Rattle.handover_in.specs.Links.{is_unlinked_phase as in_unlinked}
use Rattle.handover_in.specs.declared.phase.Phase.{Phase as In}
use Rattle.node_core.specs.Event.{Event, Insert, Replace, event_of, with_new}
use Rattle.node_core.specs.Node.{NodeState, desk_of}
use Rattle.node_core.specs.Signals.{signalled}
use Rattle.node_core.specs.Step.{Brings, Steps, machine_step}
use Rattle.node_core.specs.declared.act.Act.{Act}
use Rattle.node_core.specs.declared.act.Act.TheVariants as acts
use Rattle.node_core.specs.declared.input.Input.{Input}
use Rattle.node_core.specs.declared.input.Input.TheVariants as inputs
use Rattle.node_core.specs.declared.lane.Body.{Body as Machine}
use Rattle.node_core.specs.declared.lane.Lane.{Lane}
use Rattle.node_core.specs.declared.word.Word.{Word}
use Rattle.law_custody.specs.Apart.{Exit as LoneExit, Entry as LoneEntry, entry_described, entry_described_waiting, entry_none, entry_shaking, entry_shaking_waiting, entry_waits, entry_waits_heard, entry_waits_in, exit_called, exit_called_stuck, exit_described, exit_described_stuck, exit_none, exit_none_stuck, exit_shaking, exit_shaking_stuck}
use Rattle.law_custody.specs.Place.{Place}
use Rattle.law_custody.specs.Talks.{Talks, apart, apart_start, apart_start_stop, described, described_waiting, live, shaking_idle, shaking_stuck, shaking_stuck_waiting, shaking_waiting}
use Rattle.law_custody.specs.Words.{DownWord, UpWord}
use Rattle.step_rules.specs.Opened.{opened_by}
use Rattle.law_one_standing.proofs.Counting.{input_words, is_bytes_to, step_hears_none}
use Rattle.law_one_standing.proofs.CarryingSides.{heard_in}
use Rattle.law_one_standing.proofs.Signalled.{signals_unheard}
use Rattle.node_core.proofs.Signalling.{signals_all}
use Rattle.law_running_line.specs.Off.{AreMute, IsMute, Mutes, Off, StaysOff, StillMay, more_mute, none_mute}
use Rattle.law_running_line.proofs.WiresStep.{step_mutes}

-- ---- a side that is off, by the relation of its link

not_off : {X : Type 0} → (◌≡◌ {A = SessionState} Standing Standing → ⊥) → X
not_off not = absurd (not refl)

lone_exit : {b : Bool} {x : SessionState} {o : Out} {of : Option ℕ} {rd : Bool} {up : List UpWord} → LoneExit b x o of rd up → (x ≡ Standing → ⊥) → (out_unlinked o ≡ true) × (of ≡ None)
lone_exit exit_none off = (refl, refl)
lone_exit exit_none_stuck off = (refl, refl)
lone_exit exit_called off = (refl, refl)
lone_exit exit_called_stuck off = (refl, refl)
lone_exit exit_shaking off = (refl, refl)
lone_exit exit_shaking_stuck off = (refl, refl)
lone_exit exit_described off = (refl, refl)
lone_exit exit_described_stuck off = (refl, refl)
lone_exit _ off = not_off off

lone_entry : {b : Bool} {y : SessionState} {i : In} {f : Option Record} {ri : Bool} {p : Place} {down : List DownWord} → LoneEntry b y i f ri p down → (y ≡ Standing → ⊥) → (in_unlinked i ≡ true) × (ri ≡ false)
lone_entry entry_none off = (refl, refl)
lone_entry entry_waits off = (refl, refl)
lone_entry entry_waits_in off = (refl, refl)
lone_entry (entry_waits_heard fits) off = (refl, refl)
lone_entry entry_shaking off = (refl, refl)
lone_entry entry_shaking_waiting off = (refl, refl)
lone_entry (entry_described offers) off = (refl, refl)
lone_entry (entry_described_waiting offers) off = (refl, refl)
lone_entry _ off = not_off off

pub talk_exit : {b : Bool} {x y : SessionState} {o : Out} {of : Option ℕ} {rd : Bool} {i : In} {f : Option Record} {ri : Bool} {p : Place} {up : List UpWord} {down : List DownWord} → Talks b x o of rd y i f ri p up down → (x ≡ Standing → ⊥) → (out_unlinked o ≡ true) × (of ≡ None)
talk_exit (live shape) off = not_off off
talk_exit shaking_idle off = (refl, refl)
talk_exit shaking_waiting off = (refl, refl)
talk_exit shaking_stuck off = (refl, refl)
talk_exit shaking_stuck_waiting off = (refl, refl)
talk_exit (described offers) off = not_off off
talk_exit (described_waiting offers) off = not_off off
talk_exit (apart_start s a) off = not_off off
talk_exit (apart_start_stop s a) off = not_off off
talk_exit (apart x e) off = lone_exit x off

pub talk_entry : {b : Bool} {x y : SessionState} {o : Out} {of : Option ℕ} {rd : Bool} {i : In} {f : Option Record} {ri : Bool} {p : Place} {up : List UpWord} {down : List DownWord} → Talks b x o of rd y i f ri p up down → (y ≡ Standing → ⊥) → (in_unlinked i ≡ true) × (ri ≡ false)
talk_entry (live shape) off = not_off off
talk_entry shaking_idle off = (refl, refl)
talk_entry shaking_waiting off = (refl, refl)
talk_entry shaking_stuck off = (refl, refl)
talk_entry shaking_stuck_waiting off = (refl, refl)
talk_entry (described offers) off = (refl, refl)
talk_entry (described_waiting offers) off = (refl, refl)
talk_entry (apart_start s a) off = (refl, refl)
talk_entry (apart_start_stop s a) off = (refl, refl)
talk_entry (apart x e) off = lone_entry e off

-- ---- inputs that are none of a side's

abbrev pub is_plain_at : Side → Input → Bool
is_plain_at Entry (inputs.Bytes Entry piece) = false
is_plain_at Exit (inputs.Bytes Exit piece) = false
is_plain_at Entry inputs.Connect = false
is_plain_at Exit inputs.Accepted = false
is_plain_at Exit inputs.Second = false
is_plain_at side input = true

pub plain_bytes : (side : Side) (input : Input) → is_plain_at side input ≡ true → is_bytes_to side input ≡ false
plain_bytes Entry (inputs.Bytes Entry piece) is = absurd (false≢true is)
plain_bytes Exit (inputs.Bytes Exit piece) is = absurd (false≢true is)
plain_bytes Entry (inputs.Bytes Exit piece) is = refl
plain_bytes Entry _ is = refl
plain_bytes Exit _ is = refl

pub plain_opened : (side : Side) (input : Input) (opened : Bool) → is_plain_at side input ≡ true → opened_by input side opened ≡ opened
plain_opened Entry inputs.Connect opened is = absurd (false≢true is)
plain_opened Exit inputs.Accepted opened is = absurd (false≢true is)
plain_opened Entry _ opened is = refl
plain_opened Exit _ opened is = refl

new_stays : (side : Side) (found : Result ℕ IdsUsedUp) (event : ℕ → Event) → ((id : ℕ) → StaysOff side (event id)) → StaysOff side (with_new found event)
new_stays side (Ok id) event each = each id
new_stays Entry (Err why) event each = tt
new_stays Exit (Err why) event each = tt

-- and one that the exit takes, or refuses, leaves it off
pub stays_at : (side : Side) (maker : Maker) (input : Input) (words : List Word) → is_bytes_to side input ≡ false → (side ≡ Entry → input ≡ inputs.Connect → ⊥) → StaysOff side (event_of maker input words)
stays_at Entry maker (inputs.Bytes Entry piece) words none not = absurd (false≢true (sym none))
stays_at Exit maker (inputs.Bytes Exit piece) words none not = absurd (false≢true (sym none))
stays_at Entry maker (inputs.Bytes Exit piece) words none not = tt
stays_at Entry maker inputs.Connect words none not = not refl refl
stays_at Exit maker inputs.Connect words none not = tt
stays_at Entry maker (inputs.Insert barcode) words none not = new_stays Entry (next_id maker) (λ id. Insert id barcode) (λ id. tt)
stays_at Exit maker (inputs.Insert barcode) words none not = new_stays Exit (next_id maker) (λ id. Insert id barcode) (λ id. tt)
stays_at Entry maker (inputs.Replace old) words none not = new_stays Entry (next_id maker) (Replace old) (λ id. tt)
stays_at Exit maker (inputs.Replace old) words none not = new_stays Exit (next_id maker) (Replace old) (λ id. tt)
stays_at Entry maker _ words none not = tt
stays_at Exit maker _ words none not = tt

pub plain_connect : (side : Side) (input : Input) → is_plain_at side input ≡ true → side ≡ Entry → input ≡ inputs.Connect → ⊥
plain_connect Entry inputs.Connect is at input = false≢true is
plain_connect Exit input is at same = exit_entry at
  where
    exit_entry : Exit ≡ Entry → ⊥
    exit_entry is = cc
plain_connect Entry input is at same = false≢true (sym (ap (is_plain_at Entry) same) ∙ is)

pub plain_exit_bytes : (input : Input) (old new : Lane) (words : List Word) → is_plain_at Exit input ≡ true → Brings input old new words → new.exit_bytes ≡ old.exit_bytes
plain_exit_bytes (inputs.Bytes Exit piece) old new words is b = absurd (false≢true is)
plain_exit_bytes inputs.Accepted old new words is b = absurd (false≢true is)
plain_exit_bytes _ old new words is b = b.1

pub plain_entry_bytes : (input : Input) (old new : Lane) (words : List Word) → is_plain_at Entry input ≡ true → Brings input old new words → new.entry_bytes ≡ old.entry_bytes
plain_entry_bytes (inputs.Bytes Exit piece) old new words is b = b.1
plain_entry_bytes (inputs.Bytes Entry piece) old new words is b = absurd (false≢true is)
plain_entry_bytes inputs.Connect old new words is b = absurd (false≢true is)
plain_entry_bytes _ old new words is b = b.0

-- ---- what the step says of a side

pub heard_none : {s t : NodeState} {read : List Sensed} {input : Input} {moment : ℤ} {told : List Act} (side : Side) (steps : Steps s read input moment t told) → is_bytes_to side input ≡ false → heard_in side told ≡ 0
heard_none {s} {t} {read} {input} {moment} {told} side steps none =
    ap (heard_in side) steps.told ∙ signals_unheard side steps.made s.bridge t.lane.body ∙ ap (heard_in side) steps.lane.told
    ∙ step_hears_none side (desk_of s moment) read (event_of s.maker input steps.lane.words) s.lane.body (input_words side s.maker input steps.lane.words none)

mute_both : {side : Side} {xs ys : List Act} → AreMute side xs → AreMute side ys → AreMute side (xs ++ ys)
mute_both none_mute ys = ys
mute_both (more_mute x xs) ys = more_mute x (mute_both xs ys)

mute_signal : (side : Side) (act : Act) → IsMute Entry act → IsMute Exit act → AreMute side (act ∷ [])
mute_signal Entry act a b = more_mute a none_mute
mute_signal Exit act a b = more_mute b none_mute

mute_signals : (side : Side) (bridge : Option BridgeLevels) (body : Machine) → AreMute side (signalled bridge body)
mute_signals side bridge body = signals_all (AreMute side) none_mute (λ signal on. mute_signal side (acts.Signals signal on) tt tt) (λ first rest one other. mute_both one other) bridge body

-- a side that is off before says no word and is off behind
pub record StepOff (side : Side) (before after : NodeState) (told : List Act) : Type 0 where
  pub mute : AreMute side told
  pub off : Off side after.lane.body
  pub may : StillMay side before.lane.body after.lane.body

pub step_off : {s t : NodeState} {read : List Sensed} {input : Input} {moment : ℤ} {told : List Act} (side : Side) (steps : Steps s read input moment t told) → StaysOff side (event_of s.maker input steps.lane.words) → Off side s.lane.body → StepOff side s t told
step_off {s} {t} {read} {input} {moment} {told} side steps stays off =
    let m : Mutes side s.lane.body (machine_step (desk_of s moment) read (event_of s.maker input steps.lane.words) s.lane.body) = step_mutes side (desk_of s moment) read (event_of s.maker input steps.lane.words) s.lane.body stays off in
    record {
      mute = subst (AreMute side) (sym steps.told) (mute_both (subst (AreMute side) (sym steps.lane.told) m.mute) (mute_signals side s.bridge t.lane.body));
      off = subst (Off side) (sym steps.lane.body) m.off;
      may = subst (StillMay side s.lane.body) (sym steps.lane.body) m.may;
    }

-- which has a session that shakes hands, if it has one
pub shakes_of : (state : SessionState) → (state ≡ Standing → ⊥) → is_connected_state state ≡ true → state ≡ Handshake
shakes_of NotConnected off on = absurd (false≢true on)
shakes_of Handshake off on = refl
shakes_of Standing off on = absurd (off refl)
