-- From a call and its answer to a move, and from moves to a run.
use Rattle.std.proofs.Common.{◌≡◌, ◌∙◌, sym, subst, ap, refl, ℕ, ℤ, pos, false, List, [], ◌∷◌, ◌++◌, Option, None, Some, Result, Ok, Err, ◌⊎◌, inl, inr, length, ◌<◌, ◌≤◌, append_assoc, append-nil, arith}
use Rattle.line_outside.proofs.Growing.{grows_none, grows_more, grows_part, rose_after, rose_before}
use Rattle.std.proofs.lemmas.List.Elements.{All-nil, All-push}
use Rattle.std.specs.Prelude.{OnOk, OnErr}
use Rattle.line_base.specs.declared.memory.Memory.{Memory}
use Rattle.line_base.specs.Moment.{IsMomentMillis}
use Rattle.line_base.specs.declared.states.Side.{Side}
use Rattle.config_service.specs.declared.message.Settings.{Settings}
use Rattle.line_outside.specs.Listening.{at_all}
use Rattle.line_outside.specs.Clock.{TellsMoment}
use Rattle.line_outside.specs.Faults.{Rose}
use Rattle.line_outside.specs.Given.{Given, Listens, Connects, Polls, Sends, Refuses, Closes}
use Rattle.line_outside.specs.Ports.{Gains, HasOpenCause, HasGotCause, HasSentCause}
use Rattle.line_outside.specs.Sink.{Grows, GrowsInPart}
use Rattle.line_outside.specs.declared.answer.GotBytes.{GotBytes}
use Rattle.line_outside.specs.declared.ports.Got.{Got}
use Rattle.line_outside.specs.declared.ports.Got.TheVariants as gots
use Rattle.line_outside.specs.declared.ports.Opened.{Opened}
use Rattle.line_outside.specs.declared.ports.Opened.TheVariants as opens
use Rattle.line_outside.specs.declared.ports.Sent.{Sent}
use Rattle.line_outside.specs.declared.ports.Sent.TheVariants as sents
use Rattle.line_outside.specs.declared.way.Address.{Address}
use Rattle.line_outside.specs.declared.way.Way.{Way}
use Rattle.line_outside.specs.declared.way.Way.TheVariants as ways
use Rattle.node_run.specs.After.{found_of, after_listen, after_send, looked, AfterPoll, AfterLook, AfterClose, TakesHeld}
use Rattle.supervised_end.specs.Channel.{is_empty, IsShort}
use Rattle.node_run.specs.Held.{HasFewLooks}
use Rattle.node_run.specs.Hearing.{DoesHear}
use Rattle.node_run.specs.Configuring.{AfterTry, DoesConfig}
use Rattle.node_run.specs.Resetting.{ResetsSide}
use Rattle.node_run.specs.Lines.{DoesLine}
use Rattle.node_run.specs.Moving.{MovesAs, MissesMove, IsEndCaused, MovesOn, FailsLog, FailsMemory, IsAtEnd, EndsMove, IsRunEnd, IsOnceStatus}
use Rattle.node_run.specs.Next.{next_of, moved_on}
use Rattle.node_run.specs.Runs.{Moves, listens, connects, polls, sends, refuses, closes, skips, looks_again, takes_held, does_line, does_hear, does_config, tries_port, resets_side, begins, goes_on, no_call, polled, polled_again, closed, tried, IsMoment, HasRun, HasRunInPart, RunEnds, IsRunStatus, room_bytes}
use Rattle.node_run.specs.State.{Refusal, RunState, RunView, refusal_text, way_at}
use Rattle.node_run.specs.Work.{far_of}
use Rattle.node_run.specs.Told.{HasRunCauses}
use Rattle.node_run.specs.declared.place.Next.{Next}
use Rattle.node_run.specs.declared.place.Next.TheVariants as nexts
use Rattle.node_run.specs.declared.rules.Rules.{Rules}
use Rattle.node_run.specs.declared.status.NodeStatus.{NodeStatus}
use Rattle.node_run.specs.declared.status.NodeStatus.TheVariants as statuses
use Rattle.node_run.proofs.Far.{close_less, moves_nearer, not_empty}
use Rattle.node_run.proofs.Frames.{EndsBy, IsShortGot, line_takes, panel_same, poll_same, sent_same}
use Rattle.node_run.proofs.Holding.{held_here}
use Rattle.node_run.proofs.Heard.{hear_less}
use Rattle.node_run.proofs.Configured.{config_less, reset_stays}
use Rattle.node_run.proofs.Nexts.{is_from, not_ended}

-- ---- calls that come behind others

pub gains_none : (g : Option (List Given)) → Gains g g []
gains_none None = tt
gains_none (Some old) = sym (append-nil old)

pub gains_more : (a b c : Option (List Given)) (front back : List Given) → Gains a b front → Gains b c back → Gains a c (front ++ back)
gains_more None None None front back first second = tt
gains_more None None (Some c) front back first second = second
gains_more None (Some b) c front back first second = absurd first
gains_more (Some a) None None front back first second = tt
gains_more (Some a) None (Some c) front back first second = absurd second
gains_more (Some a) (Some b) None front back first second = tt
gains_more (Some a) (Some b) (Some c) front back first second = second ∙ ap (λ t. t ++ back) first ∙ append_assoc a front back

-- ---- the moment of a move

moment_of : Option ℤ → ℤ
moment_of None = pos 0
moment_of (Some moment) = moment

is_moment_of : (told : Option ℤ) → IsMoment told (moment_of told)
unfolding moment_of
is_moment_of None = (omega arith, omega arith)
is_moment_of (Some moment) = refl

pub is_moment_now : (told after : Option ℤ) (now : ℤ) → IsMomentMillis now → TellsMoment told after now → IsMoment told now
is_moment_now None after now within tells = within
is_moment_now (Some moment) after now within tells = tells.0

pub clock_same : (told after : Option ℤ) (now : ℤ) → TellsMoment told after now → after ≡ told
clock_same None after now tells = tells
clock_same (Some moment) after now tells = tells.1

-- ---- how a move may end a run

pub uncaused : (ended : Option NodeStatus) (before now : ℕ) → ended ≡ None → IsEndCaused ended before now
uncaused ended before now none = let P : Option NodeStatus → Type 0 = λ e. IsEndCaused e before now in subst P (sym none) tt

ends_caused : (old new : Option NodeStatus) (before now : ℕ) → old ≡ None → EndsBy old new → IsEndCaused new before now
ends_caused old new before now none (inl e) = uncaused new before now (e ∙ none)
ends_caused old new before now none (inr e) = let P : Option NodeStatus → Type 0 = λ n. IsEndCaused n before now in subst P (sym e) tt

-- ---- moves that can't fail

as_done : (told : Option ℤ) (r u : RunView) (t : RunState) (calls : List Given) (given_old given_new : Option (List Given)) (before now : ℕ)
    → u ≡ record r { state = t } → r.told ≡ [] → ((moment : ℤ) → Moves r.rules moment r.state calls t []) → Gains given_old given_new calls → length t.rest ≤ 4096 → IsEndCaused t.ended before now
    → MovesAs told r u given_old given_new before now
as_done told r u t calls given_old given_new before now e quiet move gains rest ended =
    let P : RunView → Type 0 = λ v. MovesAs told r v given_old given_new before now in
    let Q : List ℕ → Type 0 = λ log. Moves r.rules (moment_of told) r.state calls t log in
    subst P (sym e) (record {
      rules = refl;
      makes = record { moment = moment_of told; same = is_moment_of told; calls = calls; move = subst Q (sym quiet) (move (moment_of told)); gains = gains };
      rest = rest;
      ended = ended;
    })

pub passed : (told : Option ℤ) (r u : RunView) (given : Option (List Given)) (before now : ℕ)
    → next_of r.rules r.state ≡ nexts.Skip → r.told ≡ [] → length r.state.rest ≤ 4096 → u ≡ record r { state = moved_on r.state }
    → MovesAs told r u given given before now
passed told r u given before now next quiet rest e =
    as_done told r u (moved_on r.state) [] given given before now e quiet (λ moment. skips next) (gains_none given) rest (uncaused r.state.ended before now (not_ended r.rules r.state nexts.Skip next refl))

listen_rest : (address : Address) (opened : Opened) (s : RunState) → length s.rest ≤ 4096 → length (after_listen address opened s).rest ≤ 4096
listen_rest address opens.Done s few = few
listen_rest address opens.Failed s few = few

listen_caused : (address : Address) (opened : Opened) (s : RunState) (before now : ℕ) → s.ended ≡ None → HasOpenCause before now opened → IsEndCaused (after_listen address opened s).ended before now
listen_caused address opens.Done s before now none cause = uncaused s.ended before now none
listen_caused address opens.Failed s before now none cause = cause.1

pub listened : (told : Option ℤ) (r u : RunView) (way : Way) (address : Address) (opened : Opened) (given_old given_new : Option (List Given)) (before now : ℕ)
    → next_of r.rules r.state ≡ nexts.Listen way address → r.told ≡ [] → length r.state.rest ≤ 4096 → Gains given_old given_new (Listens way address opened ∷ []) → HasOpenCause before now opened
    → u ≡ record r { state = after_listen address opened r.state } → MovesAs told r u given_old given_new before now
listened told r u way address opened given_old given_new before now next quiet rest gains cause e =
    as_done told r u (after_listen address opened r.state) _ given_old given_new before now e quiet (λ moment. listens next) gains (listen_rest address opened r.state rest)
    (listen_caused address opened r.state before now (not_ended r.rules r.state (nexts.Listen way address) next refl) cause)

pub opened_counts : (opened : Opened) (before now : ℕ) → HasOpenCause before now opened → before ≤ now
opened_counts opens.Done before now cause = cause
opened_counts opens.Failed before now cause = cause.0

pub sent_counts : (sent : Sent) (before now : ℕ) → HasSentCause before now sent → before ≤ now
sent_counts (sents.Took n) before now cause = cause
sent_counts sents.NotYet before now cause = cause
sent_counts sents.Closed before now cause = cause
sent_counts sents.Failed before now cause = cause.0

pub got_counts : (got : Got) (before now : ℕ) → HasGotCause before now got → before ≤ now
got_counts gots.Arrived before now cause = cause
got_counts gots.Second before now cause = cause
got_counts (gots.Bytes n) before now cause = cause
got_counts gots.NotYet before now cause = cause
got_counts gots.Closed before now cause = cause
got_counts gots.Failed before now cause = cause.0

pub unsent_some : (piece : List ℕ) (s : RunState) (way : Way) → piece ≡ (way_at way s).unsent → is_empty (way_at way s).unsent ≡ false → 0 < length piece
unsent_some piece s way e some = let P : List ℕ → Type 0 = λ p. 0 < length p in subst P (sym e) (not_empty (way_at way s).unsent some)

pub connected : (told : Option ℤ) (r u : RunView) (address : Address) (opened : Opened) (given_old given_new : Option (List Given)) (before now : ℕ)
    → next_of r.rules r.state ≡ nexts.Connect address → r.told ≡ [] → length r.state.rest ≤ 4096 → Gains given_old given_new (Connects ways.Upstream address opened ∷ [])
    → u ≡ record r { state = record r.state { asks = false } } → MovesAs told r u given_old given_new before now
connected told r u address opened given_old given_new before now next quiet rest gains e =
    as_done told r u (record r.state { asks = false }) _ given_old given_new before now e quiet (λ moment. connects next) gains rest
    (uncaused r.state.ended before now (not_ended r.rules r.state (nexts.Connect address) next refl))

pub sent_on : (told : Option ℤ) (r u : RunView) (way : Way) (piece : List ℕ) (sent : Sent) (given_old given_new : Option (List Given)) (before now : ℕ)
    → next_of r.rules r.state ≡ nexts.Send way → r.told ≡ [] → length r.state.rest ≤ 4096 → piece ≡ (way_at way r.state).unsent → Gains given_old given_new (Sends way piece sent ∷ [])
    → u ≡ record r { state = after_send way sent (moved_on r.state) } → MovesAs told r u given_old given_new before now
sent_on told r u way piece sent given_old given_new before now next quiet rest whole gains e =
    let there = sent_same way sent (moved_on r.state) in
    let t = after_send way sent (moved_on r.state) in
    let P : List ℕ → Type 0 = λ p. Gains given_old given_new (Sends way p sent ∷ []) in
    as_done told r u t _ given_old given_new before now e quiet (λ moment. sends next) (subst P whole gains) (omega (arith, ap length there.rest, rest))
    (uncaused t.ended before now (there.ended ∙ not_ended r.rules r.state (nexts.Send way) next refl))

refused_move : (rules : Rules) (moment : ℤ) (s : RunState) (refusal : Refusal) (way : Way) (sent : Sent) → next_of rules s ≡ nexts.Refuse way → s.refusal ≡ Some refusal → refusal.way ≡ way → Moves rules moment s (Refuses way refusal.text sent ∷ []) (record s { refusal = None }) []
refused_move rules moment s refusal way sent next e same =
    let P : Way → Type 0 = λ w. Moves rules moment s (Refuses w refusal.text sent ∷ []) (record s { refusal = None }) [] in
    subst P same (refuses {refusal = refusal} (next ∙ ap nexts.Refuse (sym same)) e)

pub refused_on : (told : Option ℤ) (r u : RunView) (way : Way) (piece : List ℕ) (sent : Sent) (given_old given_new : Option (List Given)) (before now : ℕ)
    → next_of r.rules r.state ≡ nexts.Refuse way → r.told ≡ [] → length r.state.rest ≤ 4096 → piece ≡ refusal_text r.state.refusal → Gains given_old given_new (Refuses way piece sent ∷ [])
    → u ≡ record r { state = record r.state { refusal = None } } → MovesAs told r u given_old given_new before now
refused_on told r u way piece sent given_old given_new before now next quiet rest whole gains e =
    let found = is_from r.rules r.state (nexts.Refuse way) next in
    let refusal = found.0 in
    let P : List ℕ → Type 0 = λ p. Gains given_old given_new (Refuses way p sent ∷ []) in
    as_done told r u (record r.state { refusal = None }) (Refuses way refusal.text sent ∷ []) given_old given_new before now e quiet (λ moment. refused_move r.rules moment r.state refusal way sent next found.1 found.2)
    (subst P (whole ∙ ap refusal_text found.1) gains) rest
    (uncaused r.state.ended before now (not_ended r.rules r.state (nexts.Refuse way) next refl))

-- ---- moves at a moment

pub line_done : (told : Option ℤ) (moment : ℤ) (r u : RunView) (given : Option (List Given)) (before now : ℕ)
    → next_of r.rules r.state ≡ nexts.Line → length r.state.rest ≤ 4096 → IsMoment told moment → u.rules ≡ r.rules → DoesLine r.rules moment r.state u.state u.told
    → MovesAs told r u given given before now
line_done told moment r u given before now next rest at rules does =
    let takes = line_takes r.rules moment r.state u.state u.told (not_empty r.state.rest (is_from r.rules r.state nexts.Line next)) does in
    record {
      rules = rules;
      makes = record { moment = moment; same = at; calls = []; move = does_line next does; gains = gains_none given };
      rest = omega (arith, takes.rest, rest);
      ended = ends_caused r.state.ended u.state.ended before now (not_ended r.rules r.state nexts.Line next refl) takes.ended;
    }

pub heard_on : (told : Option ℤ) (moment : ℤ) (r u : RunView) (given : Option (List Given)) (before now : ℕ)
    → next_of r.rules r.state ≡ nexts.Hear → length r.state.rest ≤ 4096 → IsMoment told moment → u.rules ≡ r.rules → DoesHear r.rules moment r.state u.state u.told
    → MovesAs told r u given given before now
heard_on told moment r u given before now next rest at rules does =
    let less = hear_less r.rules moment r.state u.state u.told (is_from r.rules r.state nexts.Hear next) does in
    record {
      rules = rules;
      makes = record { moment = moment; same = at; calls = []; move = does_hear next does; gains = gains_none given };
      rest = omega (arith, ap length less.rest, rest);
      ended = uncaused u.state.ended before now (less.ended ∙ not_ended r.rules r.state nexts.Hear next refl);
    }

pub polled_on : (told : Option ℤ) (moment : ℤ) (r u : RunView) (way : Way) (room : ℕ) (got found : GotBytes) (given_old given_new : Option (List Given)) (before now : ℕ)
    → next_of r.rules r.state ≡ nexts.Poll way → length r.state.rest ≤ 4096 → IsMoment told moment → u.rules ≡ r.rules
    → room ≡ 4096 → got ≡ found → IsShortGot 4096 found → Gains given_old given_new (Polls way room got ∷ []) → AfterPoll r.rules moment way found (moved_on r.state) u.state u.told
    → MovesAs told r u given_old given_new before now
polled_on told moment r u way room got found given_old given_new before now next rest at rules full same short gains does =
    let there = poll_same 4096 r.rules moment way found (moved_on r.state) u.state u.told short does in
    let P : ℕ → Type 0 = λ n. Gains given_old given_new (Polls way n found ∷ []) in
    let Q : GotBytes → Type 0 = λ g. Gains given_old given_new (Polls way room g ∷ []) in
    record {
      rules = rules;
      makes = record { moment = moment; same = at; calls = Polls way room_bytes found ∷ []; move = polls next does; gains = subst P full (subst Q same gains) };
      rest = there.rest rest;
      ended = uncaused u.state.ended before now (there.ended ∙ not_ended r.rules r.state (nexts.Poll way) next refl);
    }

pub looked_on : (told : Option ℤ) (r u : RunView) (room : ℕ) (got found : GotBytes) (given_old given_new : Option (List Given)) (before now : ℕ)
    → next_of r.rules r.state ≡ nexts.Look → length r.state.rest ≤ 4096 → u.rules ≡ r.rules
    → room ≡ 4096 → got ≡ found → IsShortGot 4096 found → Gains given_old given_new (Polls ways.Panel room got ∷ []) → AfterLook r.rules found r.state u.state u.told
    → MovesAs told r u given_old given_new before now
looked_on told r u room got found given_old given_new before now next rest rules full same short gains does =
    let there = panel_same 4096 r.rules found (looked found r.state) u.state u.told short does in
    let P : ℕ → Type 0 = λ n. Gains given_old given_new (Polls ways.Panel n found ∷ []) in
    let Q : GotBytes → Type 0 = λ g. Gains given_old given_new (Polls ways.Panel room g ∷ []) in
    record {
      rules = rules;
      makes = record { moment = moment_of told; same = is_moment_of told; calls = Polls ways.Panel room_bytes found ∷ []; move = looks_again next does; gains = subst P full (subst Q same gains) };
      rest = there.rest rest;
      ended = uncaused u.state.ended before now (there.ended ∙ not_ended r.rules r.state nexts.Look next refl);
    }

pub taken_on : (told : Option ℤ) (moment : ℤ) (r u : RunView) (given : Option (List Given)) (before now : ℕ)
    → next_of r.rules r.state ≡ nexts.Take → length r.state.rest ≤ 4096 → IsMoment told moment → u.rules ≡ r.rules → TakesHeld r.rules moment r.state u.state u.told
    → MovesAs told r u given given before now
taken_on told moment r u given before now next rest at rules does =
    let there = held_here r.rules moment r.state u.state u.told does in
    record {
      rules = rules;
      makes = record { moment = moment; same = at; calls = []; move = takes_held next does; gains = gains_none given };
      rest = omega (arith, ap length there.rest, rest);
      ended = uncaused u.state.ended before now (there.ended ∙ not_ended r.rules r.state nexts.Take next refl);
    }

pub configured_on : (told : Option ℤ) (moment : ℤ) (r u : RunView) (given : Option (List Given)) (before now : ℕ)
    → next_of r.rules r.state ≡ nexts.HearConfig → length r.state.rest ≤ 4096 → r.told ≡ [] → IsMoment told moment → u.rules ≡ r.rules → u.told ≡ r.told → DoesConfig moment r.state u.state
    → MovesAs told r u given given before now
configured_on told moment r u given before now next rest quiet at rules same does =
    let less = config_less moment r.state u.state (is_from r.rules r.state nexts.HearConfig next) does in
    record {
      rules = rules;
      makes = record { moment = moment; same = at; calls = []; move = does_config next does (same ∙ quiet); gains = gains_none given };
      rest = omega (arith, ap length less.rest, rest);
      ended = uncaused u.state.ended before now (less.ended ∙ not_ended r.rules r.state nexts.HearConfig next refl);
    }

tried_rest : (opened : Opened) (moment : ℤ) (settings : Settings) (s t : RunState) → AfterTry opened moment settings s t → (t.rest ≡ s.rest) × (t.ended ≡ s.ended)
tried_rest opens.Done moment settings s t after = (ap (λ (r : RunState). r.rest) after.after, ap (λ (r : RunState). r.ended) after.after)
tried_rest opens.Failed moment settings s t after = (ap (λ (r : RunState). r.rest) after, ap (λ (r : RunState). r.ended) after)

pub tried_on : (told : Option ℤ) (moment : ℤ) (r u : RunView) (settings : Settings) (address : Address) (opened : Opened) (given_old given_new : Option (List Given)) (before now : ℕ)
    → next_of r.rules r.state ≡ nexts.Try settings → length r.state.rest ≤ 4096 → r.told ≡ [] → IsMoment told moment → u.rules ≡ r.rules → u.told ≡ r.told → address ≡ at_all settings.port
    → Gains given_old given_new (Listens ways.Downstream address opened ∷ []) → AfterTry opened moment settings r.state u.state
    → MovesAs told r u given_old given_new before now
tried_on told moment r u settings address opened given_old given_new before now next rest quiet at rules same there gains after =
    let P : Address → Type 0 = λ a. Gains given_old given_new (Listens ways.Downstream a opened ∷ []) in
    let kept = tried_rest opened moment settings r.state u.state after in
    record {
      rules = rules;
      makes = record { moment = moment; same = at; calls = Listens ways.Downstream (at_all settings.port) opened ∷ []; move = tries_port next after (same ∙ quiet); gains = subst P there gains };
      rest = omega (arith, ap length kept.0, rest);
      ended = uncaused u.state.ended before now (kept.1 ∙ not_ended r.rules r.state (nexts.Try settings) next refl);
    }

pub reset_on : (told : Option ℤ) (moment : ℤ) (r u : RunView) (side : Side) (given : Option (List Given)) (before now : ℕ)
    → next_of r.rules r.state ≡ nexts.Reset side → length r.state.rest ≤ 4096 → IsMoment told moment → u.rules ≡ r.rules → ResetsSide r.rules moment side r.state u.state u.told
    → MovesAs told r u given given before now
reset_on told moment r u side given before now next rest at rules does =
    let there = reset_stays r.rules moment side r.state u.state u.told does in
    record {
      rules = rules;
      makes = record { moment = moment; same = at; calls = []; move = resets_side next does; gains = gains_none given };
      rest = omega (arith, ap length there.rest, rest);
      ended = uncaused u.state.ended before now (there.ended ∙ not_ended r.rules r.state (nexts.Reset side) next refl);
    }

pub closed_on : (told : Option ℤ) (moment : ℤ) (r u : RunView) (way : Way) (given_old given_new : Option (List Given)) (before now : ℕ)
    → next_of r.rules r.state ≡ nexts.Close way → length r.state.rest ≤ 4096 → IsMoment told moment → u.rules ≡ r.rules
    → Gains given_old given_new (Closes way ∷ []) → AfterClose r.rules moment way r.state u.state u.told
    → MovesAs told r u given_old given_new before now
closed_on told moment r u way given_old given_new before now next rest at rules gains does =
    let less = close_less r.rules moment way r.state u.state u.told (is_from r.rules r.state (nexts.Close way) next) does in
    record {
      rules = rules;
      makes = record { moment = moment; same = at; calls = Closes way ∷ []; move = closes next does; gains = gains };
      rest = omega (arith, less.rest, rest);
      ended = uncaused u.state.ended before now (less.ended ∙ not_ended r.rules r.state (nexts.Close way) next refl);
    }

-- ---- where memory runs out

pub missed_line : (rules : Rules) (s : RunState) (given : Option (List Given)) → MissesMove rules s given given
missed_line rules s given = record { last = []; next = no_call; gains = gains_none given }

pub missed_poll : (rules : Rules) (s : RunState) (way : Way) (room : ℕ) (got : GotBytes) (given_old given_new : Option (List Given)) → next_of rules s ≡ nexts.Poll way → room ≡ 4096 → Gains given_old given_new (Polls way room got ∷ []) → MissesMove rules s given_old given_new
missed_poll rules s way room got given_old given_new next full gains =
    let P : ℕ → Type 0 = λ n. Gains given_old given_new (Polls way n got ∷ []) in
    record { last = Polls way room_bytes got ∷ []; next = polled next; gains = subst P full gains }

pub missed_look : (rules : Rules) (s : RunState) (room : ℕ) (got : GotBytes) (given_old given_new : Option (List Given)) → next_of rules s ≡ nexts.Look → room ≡ 4096 → Gains given_old given_new (Polls ways.Panel room got ∷ []) → MissesMove rules s given_old given_new
missed_look rules s room got given_old given_new next full gains =
    let P : ℕ → Type 0 = λ n. Gains given_old given_new (Polls ways.Panel n got ∷ []) in
    record { last = Polls ways.Panel room_bytes got ∷ []; next = polled_again next; gains = subst P full gains }

pub missed_close : (rules : Rules) (s : RunState) (way : Way) (given_old given_new : Option (List Given)) → next_of rules s ≡ nexts.Close way → Gains given_old given_new (Closes way ∷ []) → MissesMove rules s given_old given_new
missed_close rules s way given_old given_new next gains = record { last = Closes way ∷ []; next = closed next; gains = gains }

pub missed_try : (rules : Rules) (s : RunState) (settings : Settings) (address : Address) (opened : Opened) (given_old given_new : Option (List Given)) → next_of rules s ≡ nexts.Try settings → address ≡ at_all settings.port
    → Gains given_old given_new (Listens ways.Downstream address opened ∷ []) → MissesMove rules s given_old given_new
missed_try rules s settings address opened given_old given_new next there gains =
    let P : Address → Type 0 = λ a. Gains given_old given_new (Listens ways.Downstream a opened ∷ []) in
    record { last = Listens ways.Downstream (at_all settings.port) opened ∷ []; next = tried next; gains = subst P there gains }

-- ---- once in the loop

-- a run that comes to its end doesn't end by a fault

no_log_fault : (ended : Option NodeStatus) → IsRunEnd ended → ended ≡ Some statuses.LogFault → ⊥
no_log_fault ended is e = let P : Option NodeStatus → Type 0 = IsRunEnd in subst P e is

no_memory : (ended : Option NodeStatus) → IsRunEnd ended → ended ≡ Some statuses.Memory → ⊥
no_memory ended is e = let P : Option NodeStatus → Type 0 = IsRunEnd in subst P e is

pub not_by_log : (ended : Option NodeStatus) → IsRunEnd ended → (let status : NodeStatus = statuses.LogFault in (ended ≡ Some status) ⊎ (status ≡ statuses.TurnsUsed)) → ⊥
not_by_log ended is (inl e) = no_log_fault ended is e
not_by_log ended is (inr e) = cc

pub not_by_memory : (ended : Option NodeStatus) → IsRunEnd ended → (let status : NodeStatus = statuses.Memory in (ended ≡ Some status) ⊎ (status ≡ statuses.TurnsUsed)) → ⊥
not_by_memory ended is (inl e) = no_memory ended is e
not_by_memory ended is (inr e) = cc

at_end : (told : Option ℤ) (rules : Rules) (s : RunState) (given : Option (List Given)) (log : Option (List ℕ)) (status : NodeStatus)
    → IsRunEnd s.ended → (s.ended ≡ Some status) ⊎ (status ≡ statuses.TurnsUsed) → IsAtEnd rules s given given log log status → EndsMove told rules s given given log log status
at_end told rules s given log statuses.LogFault is why at = absurd (not_by_log s.ended is why)
at_end told rules s given log statuses.Memory is why at = absurd (not_by_memory s.ended is why)
at_end told rules s given log statuses.Done is why at = at
at_end told rules s given log statuses.Usage is why at = at
at_end told rules s given log (statuses.ConfigRefused key reason) is why at = at
at_end told rules s given log statuses.ReadFault is why at = at
at_end told rules s given log (statuses.ListenFault address) is why at = at
at_end told rules s given log statuses.TurnsUsed is why at = at

pub ends_now : (told : Option ℤ) (rules : Rules) (s : RunState) (given : Option (List Given)) (log : Option (List ℕ)) (status : NodeStatus)
    → IsRunEnd s.ended → next_of rules s ≡ nexts.End status → EndsMove told rules s given given log log status
ends_now told rules s given log status is next = at_end told rules s given log status is (is_from rules s (nexts.End status) next) (record { next = next; given = refl; logged = refl })

once_of : (ended : Option NodeStatus) (status : NodeStatus) (before now : ℕ) → IsRunEnd ended → (ended ≡ Some status) ⊎ (status ≡ statuses.TurnsUsed) → IsOnceStatus ended status before now
once_of ended statuses.LogFault before now is why = absurd (not_by_log ended is why)
once_of ended statuses.Memory before now is why = tt
once_of ended statuses.TurnsUsed before now is why = tt
once_of ended statuses.Done before now is (inl e) = e
once_of ended statuses.Done before now is (inr e) = cc
once_of ended statuses.Usage before now is (inl e) = e
once_of ended statuses.Usage before now is (inr e) = cc
once_of ended (statuses.ConfigRefused key reason) before now is (inl e) = e
once_of ended (statuses.ConfigRefused key reason) before now is (inr e) = cc
once_of ended statuses.ReadFault before now is (inl e) = e
once_of ended statuses.ReadFault before now is (inr e) = cc
once_of ended (statuses.ListenFault address) before now is (inl e) = e
once_of ended (statuses.ListenFault address) before now is (inr e) = cc

pub ends_once : (rules : Rules) (s : RunState) (status : NodeStatus) (before now : ℕ) → IsRunEnd s.ended → next_of rules s ≡ nexts.End status → IsOnceStatus s.ended status before now
ends_once rules s status before now is next = once_of s.ended status before now is (is_from rules s (nexts.End status) next)

-- ---- the loop

pub begins_run : (told : Option ℤ) (rules : Rules) (s : RunState) (given : Option (List Given)) (log : Option (List ℕ)) → HasRun told rules s s given given log log
begins_run told rules s given log = record { moments = []; calls = []; log = []; at = All-nil (IsMoment told); run = begins; told = gains_none given; logged = grows_none log }

pub runs_on : (told : Option ℤ) (rules : Rules) (s t u : RunState) (given_old given_mid given_new : Option (List Given)) (log_old log_mid log_new : Option (List ℕ))
    → HasRun told rules s t given_old given_mid log_old log_mid → MovesOn told rules t u given_mid given_new log_mid log_new → HasRun told rules s u given_old given_new log_old log_new
runs_on told rules s t u given_old given_mid given_new log_old log_mid log_new run moves = record {
  moments = run.moments ++ moves.makes.moment ∷ [];
  calls = run.calls ++ moves.makes.calls;
  log = run.log ++ moves.log;
  at = All-push (IsMoment told) run.moments moves.makes.moment run.at moves.makes.same;
  run = goes_on run.run moves.makes.move;
  told = gains_more given_old given_mid given_new run.calls moves.makes.calls run.told moves.makes.gains;
  logged = grows_more log_old log_mid log_new run.log moves.log run.logged moves.grows;
}

memory_part : (told : Option ℤ) (rules : Rules) (s t : RunState) (given_old given_mid given_new : Option (List Given)) (log_old log_mid log_new : Option (List ℕ))
    → HasRun told rules s t given_old given_mid log_old log_mid → FailsMemory rules t given_mid given_new log_mid log_new → HasRunInPart told rules s given_old given_new log_old log_new
memory_part told rules s t given_old given_mid given_new log_old log_mid log_new run fails =
    let P : Option (List ℕ) → Type 0 = λ l. Grows log_old l run.log in
    record {
      moments = run.moments;
      calls = run.calls;
      last = fails.misses.last;
      log = run.log;
      reached = t;
      at = run.at;
      run = run.run;
      next = fails.misses.next;
      told = gains_more given_old given_mid given_new run.calls fails.misses.last run.told fails.misses.gains;
      logged = record { front = run.log; back = []; parts = append-nil run.log; grows = subst P (sym fails.logged) run.logged };
    }

log_part : (told : Option ℤ) (rules : Rules) (s t : RunState) (given_old given_mid given_new : Option (List Given)) (log_old log_mid log_new : Option (List ℕ))
    → HasRun told rules s t given_old given_mid log_old log_mid → FailsLog told rules t given_mid given_new log_mid log_new → HasRunInPart told rules s given_old given_new log_old log_new
log_part told rules s t given_old given_mid given_new log_old log_mid log_new run fails =
    let calls = run.calls ++ fails.makes.calls in
    let P : List Given → Type 0 = Gains given_old given_new in
    record {
      moments = run.moments ++ fails.makes.moment ∷ [];
      calls = calls;
      last = [];
      log = run.log ++ fails.log;
      reached = fails.after;
      at = All-push (IsMoment told) run.moments fails.makes.moment run.at fails.makes.same;
      run = goes_on run.run fails.makes.move;
      next = no_call;
      told = subst P (sym (append-nil calls)) (gains_more given_old given_mid given_new run.calls fails.makes.calls run.told fails.makes.gains);
      logged = grows_part log_old log_mid log_new run.log fails.log run.logged fails.part;
    }

run_at : (told : Option ℤ) (rules : Rules) (s t : RunState) (given_old given_mid given_new : Option (List Given)) (log_old log_mid log_new : Option (List ℕ))
    → HasRun told rules s t given_old given_mid log_old log_mid → given_new ≡ given_mid → log_new ≡ log_mid → HasRun told rules s t given_old given_new log_old log_new
run_at told rules s t given_old given_mid given_new log_old log_mid log_new run given log =
    let P : Option (List Given) → Type 0 = λ g. Gains given_old g run.calls in
    let Q : Option (List ℕ) → Type 0 = λ l. Grows log_old l run.log in
    record { moments = run.moments; calls = run.calls; log = run.log; at = run.at; run = run.run; told = subst P (sym given) run.told; logged = subst Q (sym log) run.logged }

run_ends : (status : NodeStatus) (told : Option ℤ) (rules : Rules) (s t : RunState) (given_old given_mid given_new : Option (List Given)) (log_old log_mid log_new : Option (List ℕ))
    → HasRun told rules s t given_old given_mid log_old log_mid → EndsMove told rules t given_mid given_new log_mid log_new status → RunEnds told rules s given_old given_new log_old log_new status
run_ends statuses.LogFault told rules s t given_old given_mid given_new log_old log_mid log_new run ends = log_part told rules s t given_old given_mid given_new log_old log_mid log_new run ends
run_ends statuses.Memory told rules s t given_old given_mid given_new log_old log_mid log_new run ends = memory_part told rules s t given_old given_mid given_new log_old log_mid log_new run ends
run_ends statuses.Done told rules s t given_old given_mid given_new log_old log_mid log_new run ends = (t, run_at told rules s t given_old given_mid given_new log_old log_mid log_new run ends.given ends.logged, ends.next)
run_ends statuses.Usage told rules s t given_old given_mid given_new log_old log_mid log_new run ends = (t, run_at told rules s t given_old given_mid given_new log_old log_mid log_new run ends.given ends.logged, ends.next)
run_ends (statuses.ConfigRefused key why) told rules s t given_old given_mid given_new log_old log_mid log_new run ends = (t, run_at told rules s t given_old given_mid given_new log_old log_mid log_new run ends.given ends.logged, ends.next)
run_ends statuses.ReadFault told rules s t given_old given_mid given_new log_old log_mid log_new run ends = (t, run_at told rules s t given_old given_mid given_new log_old log_mid log_new run ends.given ends.logged, ends.next)
run_ends (statuses.ListenFault address) told rules s t given_old given_mid given_new log_old log_mid log_new run ends = (t, run_at told rules s t given_old given_mid given_new log_old log_mid log_new run ends.given ends.logged, ends.next)
run_ends statuses.TurnsUsed told rules s t given_old given_mid given_new log_old log_mid log_new run ends = (t, run_at told rules s t given_old given_mid given_new log_old log_mid log_new run ends.given ends.logged, ends.next)

-- HOW THE LOOP ENDS: the moment and the rules stay what they were
pub ends_told : (told told_now : Option ℤ) (rules rules_now : Rules) (s t : RunState) (given_old given_mid given_new : Option (List Given)) (log_old log_mid log_new : Option (List ℕ)) (status : NodeStatus)
    → told_now ≡ told → rules_now ≡ rules → HasRun told rules s t given_old given_mid log_old log_mid → EndsMove told_now rules_now t given_mid given_new log_mid log_new status → RunEnds told rules s given_old given_new log_old log_new status
ends_told told told_now rules rules_now s t given_old given_mid given_new log_old log_mid log_new status same_moment same_rules run ends =
    let P : Option ℤ → Type 0 = λ m. EndsMove m rules_now t given_mid given_new log_mid log_new status in
    let Q : Rules → Type 0 = λ r. EndsMove told r t given_mid given_new log_mid log_new status in
    run_ends status told rules s t given_old given_mid given_new log_old log_mid log_new run (subst Q same_rules (subst P same_moment ends))

pub told_on : (told told_now : Option ℤ) (rules rules_now : Rules) (s t u : RunState) (given_old given_mid given_new : Option (List Given)) (log_old log_mid log_new : Option (List ℕ))
    → told_now ≡ told → rules_now ≡ rules → HasRun told rules s t given_old given_mid log_old log_mid → MovesOn told_now rules_now t u given_mid given_new log_mid log_new → HasRun told rules s u given_old given_new log_old log_new
told_on told told_now rules rules_now s t u given_old given_mid given_new log_old log_mid log_new same_moment same_rules run moves =
    let P : Option ℤ → Type 0 = λ m. MovesOn m rules_now t u given_mid given_new log_mid log_new in
    let Q : Rules → Type 0 = λ r. MovesOn told r t u given_mid given_new log_mid log_new in
    runs_on told rules s t u given_old given_mid given_new log_old log_mid log_new run (subst Q same_rules (subst P same_moment moves))

-- and where memory is wanting before it
pub ends_before : (told : Option ℤ) (rules : Rules) (s : RunState) (given : Option (List Given)) (log : Option (List ℕ)) → RunEnds told rules s given given log log statuses.Memory
ends_before told rules s given log = record { moments = []; calls = []; last = []; log = []; reached = s; at = All-nil (IsMoment told); run = begins; next = no_call; told = gains_none given; logged = record { front = []; back = []; parts = refl; grows = grows_none log } }

-- and how a whole run does
pub ends_started : (told : Option ℤ) (rules : Rules) (s : RunState) (log : List ℕ) (r : RunView) (given_old given_new : Option (List Given)) (log_old log_new : Option (List ℕ)) (status : NodeStatus)
    → r ≡ record { rules = rules; state = s; told = log } → RunEnds told r.rules r.state given_old given_new log_old log_new status → RunEnds told rules s given_old given_new log_old log_new status
ends_started told rules s log r given_old given_new log_old log_new status e ends = let P : RunView → Type 0 = λ v. RunEnds told v.rules v.state given_old given_new log_old log_new status in subst P e ends

-- a run that went on is nearer to its end
pub nearer_on : (told : Option ℤ) (rules rules_now : Rules) (s t : RunState) (given_old given_new : Option (List Given)) (log_old log_new : Option (List ℕ))
    → rules_now ≡ rules → MovesOn told rules s t given_old given_new log_old log_new → length s.rest ≤ 4096 → length t.rest ≤ 4096 → IsShort t.channel → IsShort t.config → HasFewLooks t.held → far_of rules_now t < far_of rules s
nearer_on told rules rules_now s t given_old given_new log_old log_new same moves before after short heard few =
    let P : Rules → Type 0 = λ r. far_of r t < far_of rules s in
    subst P (sym same) (moves_nearer rules moves.makes.moment moves.makes.move before after short heard few)

-- ---- causes

pub run_status : (ended : Option NodeStatus) (status : NodeStatus) (ports_before ports_now log_before log_now : ℕ) → IsEndCaused ended ports_before ports_now → IsOnceStatus ended status log_before log_now → IsRunStatus status
run_status ended statuses.Done ports_before ports_now log_before log_now caused once = tt
run_status ended statuses.LogFault ports_before ports_now log_before log_now caused once = tt
run_status ended statuses.Memory ports_before ports_now log_before log_now caused once = tt
run_status ended (statuses.ListenFault address) ports_before ports_now log_before log_now caused once = tt
run_status ended statuses.TurnsUsed ports_before ports_now log_before log_now caused once = tt
run_status ended statuses.Usage ports_before ports_now log_before log_now caused once = let P : Option NodeStatus → Type 0 = λ e. IsEndCaused e ports_before ports_now in subst P once caused
run_status ended (statuses.ConfigRefused key why) ports_before ports_now log_before log_now caused once = let P : Option NodeStatus → Type 0 = λ e. IsEndCaused e ports_before ports_now in subst P once caused
run_status ended statuses.ReadFault ports_before ports_now log_before log_now caused once = let P : Option NodeStatus → Type 0 = λ e. IsEndCaused e ports_before ports_now in subst P once caused

listen_cause : (ended : Option NodeStatus) (status : NodeStatus) (ports_before ports_mid ports_now log_mid log_now : ℕ) → ports_before ≤ ports_mid → ports_mid ≤ ports_now → IsEndCaused ended ports_before ports_mid → IsOnceStatus ended status log_mid log_now
    → (address : Address) → status ≡ statuses.ListenFault address → Rose ports_before ports_now
listen_cause ended status ports_before ports_mid ports_now log_mid log_now first second caused once address e =
    let P : NodeStatus → Type 0 = λ s. IsOnceStatus ended s log_mid log_now in
    let Q : Option NodeStatus → Type 0 = λ n. IsEndCaused n ports_before ports_mid in
    rose_before ports_before ports_mid ports_now first second (subst Q (subst P e once) caused)

log_cause : (ended : Option NodeStatus) (status : NodeStatus) (log_before log_mid log_now : ℕ) → log_before ≤ log_mid → log_mid ≤ log_now → IsOnceStatus ended status log_mid log_now → status ≡ statuses.LogFault → Rose log_before log_now
log_cause ended status log_before log_mid log_now first second once e =
    let P : NodeStatus → Type 0 = λ s. IsOnceStatus ended s log_mid log_now in
    rose_after log_before log_mid log_now first second (subst P e once)

pub ends_caused_by : (ended : Option NodeStatus) (status : NodeStatus) (ports_before ports_mid ports_now log_before log_mid log_now : ℕ)
    → ports_before ≤ ports_mid → ports_mid ≤ ports_now → log_before ≤ log_mid → log_mid ≤ log_now → IsEndCaused ended ports_before ports_mid → IsOnceStatus ended status log_mid log_now
    → HasRunCauses status ports_before ports_now log_before log_now
ends_caused_by ended status ports_before ports_mid ports_now log_before log_mid log_now ports_first ports_second log_first log_second caused once = record {
  ports = omega (arith, ports_first, ports_second);
  log = omega (arith, log_first, log_second);
  listen_fault = listen_cause ended status ports_before ports_mid ports_now log_mid log_now ports_first ports_second caused once;
  log_fault = log_cause ended status log_before log_mid log_now log_first log_second once;
}

pub memory_causes : (ports log : ℕ) → HasRunCauses statuses.Memory ports ports log log
memory_causes ports log = record { ports = omega arith; log = omega arith; listen_fault = λ address e. cc; log_fault = λ e. cc }

-- a cause in a later stretch is one in both
pub caused_later : (ended : Option NodeStatus) (a b c : ℕ) → a ≤ b → b ≤ c → IsEndCaused ended b c → IsEndCaused ended a c
caused_later None a b c first second caused = tt
caused_later (Some statuses.Done) a b c first second caused = tt
caused_later (Some (statuses.ListenFault address)) a b c first second caused = rose_after a b c first second caused
caused_later (Some statuses.Usage) a b c first second caused = caused
caused_later (Some (statuses.ConfigRefused key why)) a b c first second caused = caused
caused_later (Some statuses.ReadFault) a b c first second caused = caused
caused_later (Some statuses.LogFault) a b c first second caused = caused
caused_later (Some statuses.Memory) a b c first second caused = caused
caused_later (Some statuses.TurnsUsed) a b c first second caused = caused

pub is_run_end : (ended : Option NodeStatus) (before now : ℕ) → IsEndCaused ended before now → IsRunEnd ended
is_run_end None before now caused = tt
is_run_end (Some statuses.Done) before now caused = tt
is_run_end (Some (statuses.ListenFault address)) before now caused = tt
is_run_end (Some statuses.Usage) before now caused = caused
is_run_end (Some (statuses.ConfigRefused key why)) before now caused = caused
is_run_end (Some statuses.ReadFault) before now caused = caused
is_run_end (Some statuses.LogFault) before now caused = caused
is_run_end (Some statuses.Memory) before now caused = caused
is_run_end (Some statuses.TurnsUsed) before now caused = caused

-- ---- answers as they come

pub if_polled : (answer : Result (Unit {0}) Memory) (told : Option ℤ) (moment : ℤ) (r u : RunView) (way : Way) (room : ℕ) (got found : GotBytes) (given_old given_new : Option (List Given)) (before now : ℕ)
    → next_of r.rules r.state ≡ nexts.Poll way → length r.state.rest ≤ 4096 → IsMoment told moment → u.rules ≡ r.rules
    → room ≡ 4096 → got ≡ found → IsShortGot 4096 found → Gains given_old given_new (Polls way room got ∷ []) → OnOk answer (AfterPoll r.rules moment way found (moved_on r.state) u.state u.told)
    → OnOk answer (MovesAs told r u given_old given_new before now)
if_polled (Ok done) told moment r u way room got found given_old given_new before now next rest at rules full same short gains does =
    polled_on told moment r u way room got found given_old given_new before now next rest at rules full same short gains does
if_polled (Err memory) told moment r u way room got found given_old given_new before now next rest at rules full same short gains does = tt

pub unless_polled : (answer : Result (Unit {0}) Memory) (rules : Rules) (s : RunState) (way : Way) (room : ℕ) (got : GotBytes) (given_old given_new : Option (List Given)) → next_of rules s ≡ nexts.Poll way → room ≡ 4096 → Gains given_old given_new (Polls way room got ∷ []) → OnErr answer (MissesMove rules s given_old given_new)
unless_polled (Ok done) rules s way room got given_old given_new next full gains = tt
unless_polled (Err memory) rules s way room got given_old given_new next full gains = missed_poll rules s way room got given_old given_new next full gains

pub if_looked : (answer : Result (Unit {0}) Memory) (told : Option ℤ) (r u : RunView) (room : ℕ) (got found : GotBytes) (given_old given_new : Option (List Given)) (before now : ℕ)
    → next_of r.rules r.state ≡ nexts.Look → length r.state.rest ≤ 4096 → u.rules ≡ r.rules
    → room ≡ 4096 → got ≡ found → IsShortGot 4096 found → Gains given_old given_new (Polls ways.Panel room got ∷ []) → OnOk answer (AfterLook r.rules found r.state u.state u.told)
    → OnOk answer (MovesAs told r u given_old given_new before now)
if_looked (Ok done) told r u room got found given_old given_new before now next rest rules full same short gains does = looked_on told r u room got found given_old given_new before now next rest rules full same short gains does
if_looked (Err memory) told r u room got found given_old given_new before now next rest rules full same short gains does = tt

pub unless_looked : (answer : Result (Unit {0}) Memory) (rules : Rules) (s : RunState) (room : ℕ) (got : GotBytes) (given_old given_new : Option (List Given)) → next_of rules s ≡ nexts.Look → room ≡ 4096 → Gains given_old given_new (Polls ways.Panel room got ∷ []) → OnErr answer (MissesMove rules s given_old given_new)
unless_looked (Ok done) rules s room got given_old given_new next full gains = tt
unless_looked (Err memory) rules s room got given_old given_new next full gains = missed_look rules s room got given_old given_new next full gains

pub if_taken : (answer : Result (Unit {0}) Memory) (told : Option ℤ) (moment : ℤ) (r u : RunView) (given : Option (List Given)) (before now : ℕ)
    → next_of r.rules r.state ≡ nexts.Take → length r.state.rest ≤ 4096 → IsMoment told moment → u.rules ≡ r.rules → OnOk answer (TakesHeld r.rules moment r.state u.state u.told)
    → OnOk answer (MovesAs told r u given given before now)
if_taken (Ok done) told moment r u given before now next rest at rules does = taken_on told moment r u given before now next rest at rules does
if_taken (Err memory) told moment r u given before now next rest at rules does = tt

pub if_closed : (answer : Result (Unit {0}) Memory) (told : Option ℤ) (moment : ℤ) (r u : RunView) (way : Way) (given_old given_new : Option (List Given)) (before now : ℕ)
    → next_of r.rules r.state ≡ nexts.Close way → length r.state.rest ≤ 4096 → IsMoment told moment → u.rules ≡ r.rules
    → Gains given_old given_new (Closes way ∷ []) → OnOk answer (AfterClose r.rules moment way r.state u.state u.told)
    → OnOk answer (MovesAs told r u given_old given_new before now)
if_closed (Ok done) told moment r u way given_old given_new before now next rest at rules gains does = closed_on told moment r u way given_old given_new before now next rest at rules gains does
if_closed (Err memory) told moment r u way given_old given_new before now next rest at rules gains does = tt

pub unless_closed : (answer : Result (Unit {0}) Memory) (rules : Rules) (s : RunState) (way : Way) (given_old given_new : Option (List Given)) → next_of rules s ≡ nexts.Close way → Gains given_old given_new (Closes way ∷ []) → OnErr answer (MissesMove rules s given_old given_new)
unless_closed (Ok done) rules s way given_old given_new next gains = tt
unless_closed (Err memory) rules s way given_old given_new next gains = missed_close rules s way given_old given_new next gains

pub if_lined : (answer : Result (Unit {0}) Memory) (told : Option ℤ) (moment : ℤ) (r u : RunView) (given : Option (List Given)) (before now : ℕ)
    → next_of r.rules r.state ≡ nexts.Line → length r.state.rest ≤ 4096 → IsMoment told moment → u.rules ≡ r.rules → OnOk answer (DoesLine r.rules moment r.state u.state u.told)
    → OnOk answer (MovesAs told r u given given before now)
if_lined (Ok done) told moment r u given before now next rest at rules does = line_done told moment r u given before now next rest at rules does
if_lined (Err memory) told moment r u given before now next rest at rules does = tt

pub if_heard : (answer : Result (Unit {0}) Memory) (told : Option ℤ) (moment : ℤ) (r u : RunView) (given : Option (List Given)) (before now : ℕ)
    → next_of r.rules r.state ≡ nexts.Hear → length r.state.rest ≤ 4096 → IsMoment told moment → u.rules ≡ r.rules → OnOk answer (DoesHear r.rules moment r.state u.state u.told)
    → OnOk answer (MovesAs told r u given given before now)
if_heard (Ok done) told moment r u given before now next rest at rules does = heard_on told moment r u given before now next rest at rules does
if_heard (Err memory) told moment r u given before now next rest at rules does = tt

pub if_configured : (answer : Result (Unit {0}) Memory) (told : Option ℤ) (moment : ℤ) (r u : RunView) (given : Option (List Given)) (before now : ℕ)
    → next_of r.rules r.state ≡ nexts.HearConfig → length r.state.rest ≤ 4096 → r.told ≡ [] → IsMoment told moment → u.rules ≡ r.rules → u.told ≡ r.told → OnOk answer (DoesConfig moment r.state u.state)
    → OnOk answer (MovesAs told r u given given before now)
if_configured (Ok done) told moment r u given before now next rest quiet at rules same does = configured_on told moment r u given before now next rest quiet at rules same does
if_configured (Err memory) told moment r u given before now next rest quiet at rules same does = tt

pub if_tried : (answer : Result (Unit {0}) Memory) (told : Option ℤ) (moment : ℤ) (r u : RunView) (settings : Settings) (address : Address) (opened : Opened) (given_old given_new : Option (List Given)) (before now : ℕ)
    → next_of r.rules r.state ≡ nexts.Try settings → length r.state.rest ≤ 4096 → r.told ≡ [] → IsMoment told moment → u.rules ≡ r.rules → u.told ≡ r.told → address ≡ at_all settings.port
    → Gains given_old given_new (Listens ways.Downstream address opened ∷ []) → OnOk answer (AfterTry opened moment settings r.state u.state)
    → OnOk answer (MovesAs told r u given_old given_new before now)
if_tried (Ok done) told moment r u settings address opened given_old given_new before now next rest quiet at rules same there gains after =
    tried_on told moment r u settings address opened given_old given_new before now next rest quiet at rules same there gains after
if_tried (Err memory) told moment r u settings address opened given_old given_new before now next rest quiet at rules same there gains after = tt

pub unless_tried : (answer : Result (Unit {0}) Memory) (rules : Rules) (s : RunState) (settings : Settings) (address : Address) (opened : Opened) (given_old given_new : Option (List Given)) → next_of rules s ≡ nexts.Try settings → address ≡ at_all settings.port
    → Gains given_old given_new (Listens ways.Downstream address opened ∷ []) → OnErr answer (MissesMove rules s given_old given_new)
unless_tried (Ok done) rules s settings address opened given_old given_new next there gains = tt
unless_tried (Err memory) rules s settings address opened given_old given_new next there gains = missed_try rules s settings address opened given_old given_new next there gains

pub if_reset : (answer : Result (Unit {0}) Memory) (told : Option ℤ) (moment : ℤ) (r u : RunView) (side : Side) (given : Option (List Given)) (before now : ℕ)
    → next_of r.rules r.state ≡ nexts.Reset side → length r.state.rest ≤ 4096 → IsMoment told moment → u.rules ≡ r.rules → OnOk answer (ResetsSide r.rules moment side r.state u.state u.told)
    → OnOk answer (MovesAs told r u given given before now)
if_reset (Ok done) told moment r u side given before now next rest at rules does = reset_on told moment r u side given before now next rest at rules does
if_reset (Err memory) told moment r u side given before now next rest at rules does = tt

pub unless_lined : (answer : Result (Unit {0}) Memory) (rules : Rules) (s : RunState) (given : Option (List Given)) → OnErr answer (MissesMove rules s given given)
unless_lined (Ok done) rules s given = tt
unless_lined (Err memory) rules s given = missed_line rules s given

-- what a poll found is no more than its room
pub short_found : (got : Got) (room bytes : List ℕ) → length room ≡ 4096 → length bytes ≤ length room → IsShortGot 4096 (found_of got bytes)
short_found gots.Arrived room bytes full within = tt
short_found gots.Second room bytes full within = tt
short_found (gots.Bytes n) room bytes full within = omega (arith, full, within)
short_found gots.NotYet room bytes full within = tt
short_found gots.Closed room bytes full within = tt
short_found gots.Failed room bytes full within = tt

-- ---- a move from a run that has told nothing yet

abbrev pub begun : RunView → RunView
begun r = record r { told = [] }

pub once_moved : (told : Option ℤ) (r b u : RunView) (given_old given_new : Option (List Given)) (log_old log_new : Option (List ℕ)) (before now : ℕ)
    → b ≡ begun r → MovesAs told b u given_old given_new before now → Grows log_old log_new u.told → MovesOn told r.rules r.state u.state given_old given_new log_old log_new
once_moved told r b u given_old given_new log_old log_new before now e moves grows =
    let P : RunView → Type 0 = λ v. MovesAs told v u given_old given_new before now in
    record { log = u.told; makes = (subst P e moves).makes; grows = grows }

pub once_rules : (told : Option ℤ) (r b u : RunView) (given_old given_new : Option (List Given)) (before now : ℕ) → b ≡ begun r → MovesAs told b u given_old given_new before now → u.rules ≡ r.rules
once_rules told r b u given_old given_new before now e moves = moves.rules ∙ ap (λ (v : RunView). v.rules) e

pub once_unlogged : (told : Option ℤ) (r b u : RunView) (given_old given_new : Option (List Given)) (log_old log_new : Option (List ℕ)) (before now : ℕ)
    → b ≡ begun r → MovesAs told b u given_old given_new before now → GrowsInPart log_old log_new u.told → FailsLog told r.rules r.state given_old given_new log_old log_new
once_unlogged told r b u given_old given_new log_old log_new before now e moves part =
    let P : RunView → Type 0 = λ v. MovesAs told v u given_old given_new before now in
    record { after = u.state; log = u.told; makes = (subst P e moves).makes; part = part }

pub once_missed : (r b : RunView) (given_old given_new : Option (List Given)) (log : Option (List ℕ)) → b ≡ begun r → MissesMove b.rules b.state given_old given_new → FailsMemory r.rules r.state given_old given_new log log
once_missed r b given_old given_new log e misses =
    let P : RunView → Type 0 = λ v. MissesMove v.rules v.state given_old given_new in
    record { misses = subst P e misses; logged = refl }

pub begun_next : (r b : RunView) (next : Next) → b ≡ begun r → next ≡ next_of b.rules b.state → next_of r.rules r.state ≡ next
begun_next r b next e is = let P : RunView → Type 0 = λ v. next ≡ next_of v.rules v.state in sym (subst P e is)

pub once_ended : (told : Option ℤ) (r b : RunView) (given : Option (List Given)) (log : Option (List ℕ)) (status : NodeStatus)
    → b ≡ begun r → IsRunEnd r.state.ended → nexts.End status ≡ next_of b.rules b.state → EndsMove told r.rules r.state given given log log status
once_ended told r b given log status e is next = ends_now told r.rules r.state given log status is (begun_next r b (nexts.End status) e next)

pub once_status : (r b : RunView) (status : NodeStatus) (before now : ℕ) → b ≡ begun r → IsRunEnd r.state.ended → nexts.End status ≡ next_of b.rules b.state → IsOnceStatus r.state.ended status before now
once_status r b status before now e is next = ends_once r.rules r.state status before now is (begun_next r b (nexts.End status) e next)
