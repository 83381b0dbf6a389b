-- A MOVE IS ONE: the same call, with the same answer the same state and the same lines.
use Rattle.std.proofs.Common.{◌≡◌, ◌∙◌, ◌++◌, ℕ, ℤ, Bool, true, false, List, [], ◌∷◌, Option, Some, None, refl, sym, ap, subst}
use Rattle.line_base.specs.declared.states.Side.{Side}
use Rattle.line_base.specs.declared.states.Side.TheVariants.{Entry, Exit}
use Rattle.config_service.specs.declared.message.Settings.{Settings}
use Rattle.line_outside.specs.Listening.{at_all}
use Rattle.line_outside.specs.Given.{Closes, Connects, Given, Listens, Polls, Refuses, Sends}
use Rattle.line_outside.specs.declared.answer.GotBytes.{GotBytes}
use Rattle.line_outside.specs.declared.answer.GotBytes.TheVariants as founds
use Rattle.line_outside.specs.declared.ports.Opened.{Opened}
use Rattle.line_outside.specs.declared.ports.Opened.TheVariants as opens
use Rattle.line_outside.specs.declared.ports.Sent.{Sent}
use Rattle.line_outside.specs.declared.ports.Sent.TheVariants as sents
use Rattle.line_outside.specs.declared.way.Address.{Address}
use Rattle.line_outside.specs.declared.way.Way.{Way}
use Rattle.line_outside.specs.declared.way.Way.TheVariants as ways
use Rattle.node_core.specs.Node.{NodeState}
use Rattle.node_core.specs.Sides.{is_open}
use Rattle.node_core.specs.declared.input.Input.TheVariants as inputs
use Rattle.step_rules.proofs.Once.{OneMeaning}
use Rattle.node_run.specs.After.{AfterClose, AfterDownstream, AfterLook, AfterPoll, AfterUpstream, TakesFinding, TakesFound, TakesHeld, after_listen, after_send, broken, configuration_gone, looked, panel_gone, way_of, with_held}
use Rattle.supervised_end.specs.Channel.{no_session}
use Rattle.node_run.specs.Configuring.{AfterTry, DoesConfig}
use Rattle.node_run.specs.Hearing.{DoesHear}
use Rattle.node_run.specs.Held.{Finding, holds, nothing_held}
use Rattle.node_run.specs.Lines.{DoesLine}
use Rattle.node_run.specs.Next.{moved_on, next_of}
use Rattle.node_run.specs.Resetting.{ResetsSide}
use Rattle.node_run.specs.Runs.{Moves, closes, connects, does_config, does_hear, does_line, listens, looks_again, polls, refuses, resets_side, room_bytes, sends, skips, takes_held, tries_port}
use Rattle.node_run.specs.State.{Refusal, RunState, at_rest, way_at, with_wire}
use Rattle.node_run.specs.declared.place.Next.{Next}
use Rattle.node_run.specs.declared.place.Next.TheVariants as nexts
use Rattle.node_run.specs.declared.rules.Rules.{Rules}
use Rattle.node_run.specs.declared.status.NodeStatus.{NodeStatus}
use Rattle.node_run.specs.declared.way_state.Wire.TheVariants as wires
use Rattle.law_node_runs.specs.One.{Agree, answers_of, found, opened, sent}
use Rattle.law_node_runs.proofs.Channels.{RefusedOnce, SpelledOnce, hear_once, supervisory_once, unsupervised_once}
use Rattle.law_node_runs.proofs.Configuring.{ConfigRefusedOnce, ConfigSpelledOnce, config_once, configuration_once, reset_once, try_once}
use Rattle.law_node_runs.proofs.Nodes.{Alike}
use Rattle.law_node_runs.proofs.Panels.{line_once, panel_once}
use Rattle.law_node_runs.proofs.States.{Once, Passes, RunsAlike, becomes, like, passed, second_once, takes_bytes, takes_once}

-- what is known of words
pub record Laws : Type 0 where
  pub meaning : OneMeaning
  pub spelled : SpelledOnce
  pub refused : RefusedOnce
  pub config_spelled : ConfigSpelledOnce
  pub config_refused : ConfigRefusedOnce

-- ---- what polls found

upstream_once : (got : GotBytes) (rules : Rules) (moment : ℤ) (s : RunState) (n : NodeState) (t t' : RunState) (log log' : List ℕ) → Alike s.node n → AfterUpstream rules moment got s t log → AfterUpstream rules moment got (like s n) t' log' → Once t t' log log'
upstream_once founds.Arrived rules moment s n t t' log log' alike one two = takes_once rules moment inputs.Connect (with_wire ways.Upstream wires.Stands s) s n t t' log log' tt alike alike one two
upstream_once founds.Second rules moment s n t t' log log' alike one two = becomes s n [] t t' log log' alike one two
upstream_once (founds.Bytes bytes) rules moment s n t t' log log' alike one two = becomes (with_held (holds Entry (Some bytes)) s) n [] t t' log log' alike one two
upstream_once founds.NotYet rules moment s n t t' log log' alike one two = becomes s n [] t t' log log' alike one two
upstream_once founds.Closed rules moment s n t t' log log' alike one two = becomes (with_held (holds Entry None) s) n [] t t' log log' alike one two
upstream_once founds.Failed rules moment s n t t' log log' alike one two = becomes (with_held (holds Entry None) s) n [] t t' log log' alike one two

downstream_once : (got : GotBytes) (rules : Rules) (moment : ℤ) (s : RunState) (n : NodeState) (t t' : RunState) (log log' : List ℕ) → Alike s.node n → AfterDownstream rules moment got s t log → AfterDownstream rules moment got (like s n) t' log' → Once t t' log log'
downstream_once founds.Arrived rules moment s n t t' log log' alike one two = takes_once rules moment inputs.Accepted (with_wire ways.Downstream wires.Stands s) s n t t' log log' tt alike alike one two
downstream_once founds.Second rules moment s n t t' log log' alike one two = second_once rules moment inputs.Second s n t t' log log' tt alike one two
downstream_once (founds.Bytes bytes) rules moment s n t t' log log' alike one two = becomes (with_held (holds Exit (Some bytes)) s) n [] t t' log log' alike one two
downstream_once founds.NotYet rules moment s n t t' log log' alike one two = becomes s n [] t t' log log' alike one two
downstream_once founds.Closed rules moment s n t t' log log' alike one two = becomes (with_held (holds Exit None) s) n [] t t' log log' alike one two
downstream_once founds.Failed rules moment s n t t' log log' alike one two = becomes (with_held (holds Exit None) s) n [] t t' log log' alike one two

poll_once : (way : Way) (got : GotBytes) (rules : Rules) (moment : ℤ) (s : RunState) (n : NodeState) (t t' : RunState) (log log' : List ℕ) → Alike s.node n → AfterPoll rules moment way got s t log → AfterPoll rules moment way got (like s n) t' log' → Once t t' log log'
poll_once ways.Panel got rules moment s n t t' log log' alike one two = panel_once got rules s n t t' log log' alike one two
poll_once ways.Upstream got rules moment s n t t' log log' alike one two = upstream_once got rules moment s n t t' log log' alike one two
poll_once ways.Downstream got rules moment s n t t' log log' alike one two = downstream_once got rules moment s n t t' log log' alike one two
poll_once ways.Supervisory got rules moment s n t t' log log' alike one two = supervisory_once got moment s n t t' log log' alike one two
poll_once ways.Configuration got rules moment s n t t' log log' alike one two = configuration_once got moment s n t t' log log' alike one two

-- ---- what was held

broken_once : (side : Side) (test : Bool) (s : RunState) (n : NodeState) (t t' : RunState) (log log' : List ℕ) → Alike s.node n → (t ≡ broken (way_of side) test s) × (log ≡ []) → (t' ≡ broken (way_of side) test (like s n)) × (log' ≡ []) → Once t t' log log'
broken_once Entry true s n t t' log log' alike one two = becomes (with_wire ways.Upstream wires.Breaks s) n [] t t' log log' alike one two
broken_once Exit true s n t t' log log' alike one two = becomes (with_wire ways.Downstream wires.Breaks s) n [] t t' log log' alike one two
broken_once Entry false s n t t' log log' alike one two = becomes s n [] t t' log log' alike one two
broken_once Exit false s n t t' log log' alike one two = becomes s n [] t t' log log' alike one two

taken_once : Laws → (bytes : Option (List ℕ)) (side : Side) (rules : Rules) (moment : ℤ) (s : RunState) (n : NodeState) (t t' : RunState) (log log' : List ℕ) → Alike s.node n → TakesFound bytes side rules moment s t log → TakesFound bytes side rules moment (like s n) t' log' → Once t t' log log'
taken_once laws (Some bytes) side rules moment s n t t' log log' alike one two =
    takes_bytes laws.meaning rules moment side one.piece two.piece s n t t' log log' (two.same ∙ sym one.same) alike one.takes two.takes
taken_once laws None side rules moment s n t t' log log' alike one two =
    let same : is_open side n.lane.body ≡ is_open side s.node.lane.body = ap (is_open side) alike.body in
    let P : Bool → Type 0 = λ test. (t' ≡ broken (way_of side) test (like s n)) × (log' ≡ []) in
    broken_once side (is_open side s.node.lane.body) s n t t' log log' alike one (subst P same two)

finding_once : Laws → (finding : Option Finding) (rules : Rules) (moment : ℤ) (s : RunState) (n : NodeState) (t t' : RunState) (log log' : List ℕ) → Alike s.node n → TakesFinding finding rules moment s t log → TakesFinding finding rules moment (like s n) t' log' → Once t t' log log'
finding_once laws None rules moment s n t t' log log' alike one two = becomes s n [] t t' log log' alike one two
finding_once laws (Some finding) rules moment s n t t' log log' alike one two = taken_once laws finding.bytes finding.side rules moment s n t t' log log' alike one two

held_once : Laws → (rules : Rules) (moment : ℤ) (s : RunState) (n : NodeState) (t t' : RunState) (log log' : List ℕ) → Alike s.node n → TakesHeld rules moment s t log → TakesHeld rules moment (like s n) t' log' → Once t t' log log'
held_once laws rules moment s n t t' log log' alike one two = finding_once laws s.held.finding rules moment (with_held nothing_held s) n t t' log log' alike one two

-- ---- listening, sending and closing

passes_listen : (address : Address) (done : Opened) → Passes (after_listen address done)
passes_listen address opens.Done = record { same = λ s n. refl; node = λ s. refl }
passes_listen address opens.Failed = record { same = λ s n. refl; node = λ s. refl }

passes_send : (way : Way) (done : Sent) → Passes (after_send way done)
passes_send ways.Panel (sents.Took n) = record { same = λ s n. refl; node = λ s. refl }
passes_send ways.Panel sents.NotYet = record { same = λ s n. refl; node = λ s. refl }
passes_send ways.Panel sents.Closed = record { same = λ s n. refl; node = λ s. refl }
passes_send ways.Panel sents.Failed = record { same = λ s n. refl; node = λ s. refl }
passes_send ways.Upstream (sents.Took n) = record { same = λ s n. refl; node = λ s. refl }
passes_send ways.Upstream sents.NotYet = record { same = λ s n. refl; node = λ s. refl }
passes_send ways.Upstream sents.Closed = record { same = λ s n. refl; node = λ s. refl }
passes_send ways.Upstream sents.Failed = record { same = λ s n. refl; node = λ s. refl }
passes_send ways.Downstream (sents.Took n) = record { same = λ s n. refl; node = λ s. refl }
passes_send ways.Downstream sents.NotYet = record { same = λ s n. refl; node = λ s. refl }
passes_send ways.Downstream sents.Closed = record { same = λ s n. refl; node = λ s. refl }
passes_send ways.Downstream sents.Failed = record { same = λ s n. refl; node = λ s. refl }
passes_send ways.Supervisory (sents.Took n) = record { same = λ s n. refl; node = λ s. refl }
passes_send ways.Supervisory sents.NotYet = record { same = λ s n. refl; node = λ s. refl }
passes_send ways.Supervisory sents.Closed = record { same = λ s n. refl; node = λ s. refl }
passes_send ways.Supervisory sents.Failed = record { same = λ s n. refl; node = λ s. refl }
passes_send ways.Configuration (sents.Took n) = record { same = λ s n. refl; node = λ s. refl }
passes_send ways.Configuration sents.NotYet = record { same = λ s n. refl; node = λ s. refl }
passes_send ways.Configuration sents.Closed = record { same = λ s n. refl; node = λ s. refl }
passes_send ways.Configuration sents.Failed = record { same = λ s n. refl; node = λ s. refl }

close_once : (way : Way) (rules : Rules) (moment : ℤ) (s : RunState) (n : NodeState) (t t' : RunState) (log log' : List ℕ) → Alike s.node n → AfterClose rules moment way s t log → AfterClose rules moment way (like s n) t' log' → Once t t' log log'
close_once ways.Panel rules moment s n t t' log log' alike one two = becomes (panel_gone s) n [] t t' log log' alike one two
close_once ways.Upstream rules moment s n t t' log log' alike one two =
    let closed = record s { upstream = at_rest } in takes_once rules moment (inputs.Notice Entry) closed closed n t t' log log' tt alike alike one two
close_once ways.Downstream rules moment s n t t' log log' alike one two =
    let closed = record s { downstream = at_rest } in takes_once rules moment (inputs.Notice Exit) closed closed n t t' log log' tt alike alike one two
close_once ways.Supervisory rules moment s n t t' log log' alike one two = unsupervised_once rules moment (record s { supervisory = at_rest; channel = no_session }) n t t' log log' alike one two
close_once ways.Configuration rules moment s n t t' log log' alike one two = becomes (configuration_gone s) n [] t t' log log' alike one two

-- ---- a move, by what comes next

pub record HasListened (way : Way) (address : Address) (s : RunState) (calls : List Given) (t : RunState) (log : List ℕ) : Type 0 where
  pub done : Opened
  pub called : calls ≡ Listens way address done ∷ []
  pub after : (t ≡ after_listen address done s) × (log ≡ [])

pub record HasConnected (address : Address) (s : RunState) (calls : List Given) (t : RunState) (log : List ℕ) : Type 0 where
  pub done : Opened
  pub called : calls ≡ Connects ways.Upstream address done ∷ []
  pub after : (t ≡ record s { asks = false }) × (log ≡ [])

pub record HasPolled (way : Way) (rules : Rules) (moment : ℤ) (s : RunState) (calls : List Given) (t : RunState) (log : List ℕ) : Type 0 where
  pub got : GotBytes
  pub called : calls ≡ Polls way room_bytes got ∷ []
  pub after : AfterPoll rules moment way got (moved_on s) t log

pub record HasSent (way : Way) (s : RunState) (calls : List Given) (t : RunState) (log : List ℕ) : Type 0 where
  pub done : Sent
  pub called : calls ≡ Sends way (way_at way s).unsent done ∷ []
  pub after : (t ≡ after_send way done (moved_on s)) × (log ≡ [])

pub record HasRefused (s : RunState) (calls : List Given) (t : RunState) (log : List ℕ) : Type 0 where
  pub refusal : Refusal
  pub done : Sent
  pub is : s.refusal ≡ Some refusal
  pub called : calls ≡ Refuses refusal.way refusal.text done ∷ []
  pub after : (t ≡ record s { refusal = None }) × (log ≡ [])

pub record HasClosed (way : Way) (rules : Rules) (moment : ℤ) (s : RunState) (calls : List Given) (t : RunState) (log : List ℕ) : Type 0 where
  pub called : calls ≡ Closes way ∷ []
  pub after : AfterClose rules moment way s t log

pub record HasLooked (rules : Rules) (s : RunState) (calls : List Given) (t : RunState) (log : List ℕ) : Type 0 where
  pub got : GotBytes
  pub called : calls ≡ Polls ways.Panel room_bytes got ∷ []
  pub after : AfterLook rules got s t log

pub record HasTried (settings : Settings) (moment : ℤ) (s : RunState) (calls : List Given) (t : RunState) (log : List ℕ) : Type 0 where
  pub done : Opened
  pub called : calls ≡ Listens ways.Downstream (at_all settings.port) done ∷ []
  pub after : AfterTry done moment settings s t
  pub quiet : log ≡ []

abbrev pub MovesAt : Next → Rules → ℤ → RunState → List Given → RunState → List ℕ → Type 0
MovesAt (nexts.End status) rules moment s calls t log = ⊥
MovesAt nexts.Line rules moment s calls t log = (calls ≡ []) × DoesLine rules moment s t log
MovesAt nexts.Hear rules moment s calls t log = (calls ≡ []) × DoesHear rules moment s t log
MovesAt nexts.HearConfig rules moment s calls t log = (calls ≡ []) × DoesConfig moment s t × (log ≡ [])
MovesAt (nexts.Try settings) rules moment s calls t log = HasTried settings moment s calls t log
MovesAt (nexts.Reset side) rules moment s calls t log = (calls ≡ []) × ResetsSide rules moment side s t log
MovesAt nexts.Look rules moment s calls t log = HasLooked rules s calls t log
MovesAt nexts.Take rules moment s calls t log = (calls ≡ []) × TakesHeld rules moment s t log
MovesAt nexts.Skip rules moment s calls t log = (calls ≡ []) × (t ≡ moved_on s) × (log ≡ [])
MovesAt (nexts.Listen way address) rules moment s calls t log = HasListened way address s calls t log
MovesAt (nexts.Connect address) rules moment s calls t log = HasConnected address s calls t log
MovesAt (nexts.Poll way) rules moment s calls t log = HasPolled way rules moment s calls t log
MovesAt (nexts.Send way) rules moment s calls t log = HasSent way s calls t log
MovesAt (nexts.Refuse way) rules moment s calls t log = HasRefused s calls t log
MovesAt (nexts.Close way) rules moment s calls t log = HasClosed way rules moment s calls t log

at : (next was : Next) (rules : Rules) (moment : ℤ) (s : RunState) (calls : List Given) (t : RunState) (log : List ℕ) → was ≡ next → MovesAt next rules moment s calls t log → MovesAt was rules moment s calls t log
at next was rules moment s calls t log is moves =
    let P : Next → Type 0 = λ n. MovesAt n rules moment s calls t log in subst P (sym is) moves

pub moves_at : (rules : Rules) (moment : ℤ) (s : RunState) (calls : List Given) (t : RunState) (log : List ℕ) → Moves rules moment s calls t log → MovesAt (next_of rules s) rules moment s calls t log
moves_at rules moment s calls t log (listens {way = way} {address = address} {opened = done} is) =
    at (nexts.Listen way address) (next_of rules s) rules moment s calls t log is (record { done = done; called = refl; after = (refl, refl) })
moves_at rules moment s calls t log (connects {address = address} {opened = done} is) =
    at (nexts.Connect address) (next_of rules s) rules moment s calls t log is (record { done = done; called = refl; after = (refl, refl) })
moves_at rules moment s calls t log (polls {way = way} {got = got} is after) =
    at (nexts.Poll way) (next_of rules s) rules moment s calls t log is (record { got = got; called = refl; after = after })
moves_at rules moment s calls t log (sends {way = way} {sent = done} is) =
    at (nexts.Send way) (next_of rules s) rules moment s calls t log is (record { done = done; called = refl; after = (refl, refl) })
moves_at rules moment s calls t log (refuses {refusal = refusal} {sent = done} is there) =
    at (nexts.Refuse refusal.way) (next_of rules s) rules moment s calls t log is (record { refusal = refusal; done = done; is = there; called = refl; after = (refl, refl) })
moves_at rules moment s calls t log (closes {way = way} is after) =
    at (nexts.Close way) (next_of rules s) rules moment s calls t log is (record { called = refl; after = after })
moves_at rules moment s calls t log (skips is) = at nexts.Skip (next_of rules s) rules moment s calls t log is (refl, refl, refl)
moves_at rules moment s calls t log (looks_again {got = got} is after) =
    at nexts.Look (next_of rules s) rules moment s calls t log is (record { got = got; called = refl; after = after })
moves_at rules moment s calls t log (takes_held is after) = at nexts.Take (next_of rules s) rules moment s calls t log is (refl, after)
moves_at rules moment s calls t log (does_line is after) = at nexts.Line (next_of rules s) rules moment s calls t log is (refl, after)
moves_at rules moment s calls t log (does_hear is after) = at nexts.Hear (next_of rules s) rules moment s calls t log is (refl, after)
moves_at rules moment s calls t log (does_config is after quiet) = at nexts.HearConfig (next_of rules s) rules moment s calls t log is (refl, after, quiet)
moves_at rules moment s calls t log (tries_port {settings = settings} {opened = done} is after quiet) =
    at (nexts.Try settings) (next_of rules s) rules moment s calls t log is (record { done = done; called = refl; after = after; quiet = quiet })
moves_at rules moment s calls t log (resets_side {side = side} is after) = at (nexts.Reset side) (next_of rules s) rules moment s calls t log is (refl, after)

-- ---- both moves

pub record MovesOnce (t t' : RunState) (calls more : List Given) (log log' : List ℕ) : Type 0 where
  pub once : Once t t' log log'
  pub same_calls : more ≡ calls

-- the answers that stand first in two lists of calls
agreed : (calls more : List Given) (call other : Given) → calls ≡ call ∷ [] → more ≡ other ∷ [] → Agree (answers_of calls) (answers_of more) → Agree (answers_of (call ∷ [])) (answers_of (other ∷ []))
agreed calls more call other is other_is agree =
    let P : List Given → Type 0 = λ cs. Agree (answers_of cs) (answers_of more) in
    let Q : List Given → Type 0 = λ cs. Agree (answers_of (call ∷ [])) (answers_of cs) in
    subst Q other_is (subst P is agree)

pub same_opened : (a b : Opened) → opened a ≡ opened b → a ≡ b
same_opened a b is = cc

pub same_found : (a b : GotBytes) → found a ≡ found b → a ≡ b
same_found a b is = cc

same_sent : (a b : Sent) → sent a ≡ sent b → a ≡ b
same_sent a b is = cc

same_refusal : (o : Option Refusal) (a b : Refusal) → o ≡ Some a → o ≡ Some b → a ≡ b
same_refusal o a b one two = cc

unsent_same : (way : Way) (s : RunState) (n : NodeState) → (way_at way (like s n)).unsent ≡ (way_at way s).unsent
unsent_same ways.Panel s n = refl
unsent_same ways.Upstream s n = refl
unsent_same ways.Downstream s n = refl
unsent_same ways.Supervisory s n = refl
unsent_same ways.Configuration s n = refl

at_once : Laws → (next : Next) (rules : Rules) (moment : ℤ) (s : RunState) (n : NodeState) (calls more : List Given) (t t' : RunState) (log log' : List ℕ) → Alike s.node n → Agree (answers_of calls) (answers_of more)
    → MovesAt next rules moment s calls t log → MovesAt next rules moment (like s n) more t' log' → MovesOnce t t' calls more log log'
at_once laws (nexts.End status) rules moment s n calls more t t' log log' alike agree one two = absurd one
at_once laws nexts.Line rules moment s n calls more t t' log log' alike agree one two = record { once = line_once rules moment s n t t' log log' alike one.1 two.1; same_calls = two.0 ∙ sym one.0 }
at_once laws nexts.Hear rules moment s n calls more t t' log log' alike agree one two = record { once = hear_once laws.spelled laws.refused rules moment s n t t' log log' alike one.1 two.1; same_calls = two.0 ∙ sym one.0 }
at_once laws nexts.HearConfig rules moment s n calls more t t' log log' alike agree one two =
    record { once = config_once laws.config_spelled laws.config_refused moment s n t t' log log' alike one.1 two.1 one.2 two.2; same_calls = two.0 ∙ sym one.0 }
at_once laws (nexts.Reset side) rules moment s n calls more t t' log log' alike agree one two = record { once = reset_once side rules moment s n t t' log log' alike one.1 two.1; same_calls = two.0 ∙ sym one.0 }
at_once laws (nexts.Try settings) rules moment s n calls more t t' log log' alike agree one two =
    let call : Opened → Given = λ done. Listens ways.Downstream (at_all settings.port) done in
    let same = same_opened one.done two.done (agreed calls more (call one.done) (call two.done) one.called two.called agree).0 in
    let P : Opened → Type 0 = λ done. AfterTry done moment settings (like s n) t' in
    record {
      once = try_once one.done moment settings s n t t' log log' alike one.after (subst P (sym same) two.after) one.quiet two.quiet;
      same_calls = two.called ∙ ap (λ (done : Opened). call done ∷ []) (sym same) ∙ sym one.called;
    }
at_once laws nexts.Take rules moment s n calls more t t' log log' alike agree one two = record { once = held_once laws rules moment s n t t' log log' alike one.1 two.1; same_calls = two.0 ∙ sym one.0 }
at_once laws nexts.Skip rules moment s n calls more t t' log log' alike agree one two = record { once = becomes (moved_on s) n [] t t' log log' alike (one.1, one.2) (two.1, two.2); same_calls = two.0 ∙ sym one.0 }
at_once laws nexts.Look rules moment s n calls more t t' log log' alike agree one two =
    let call : GotBytes → Given = λ got. Polls ways.Panel room_bytes got in
    let same = same_found one.got two.got (agreed calls more (call one.got) (call two.got) one.called two.called agree).0 in
    let P : GotBytes → Type 0 = λ got. AfterLook rules got (like s n) t' log' in
    record {
      once = panel_once one.got rules (looked one.got s) n t t' log log' alike one.after (subst P (sym same) two.after);
      same_calls = two.called ∙ ap (λ (got : GotBytes). call got ∷ []) (sym same) ∙ sym one.called;
    }
at_once laws (nexts.Listen way address) rules moment s n calls more t t' log log' alike agree one two =
    let call : Opened → Given = λ done. Listens way address done in
    let same = same_opened one.done two.done (agreed calls more (call one.done) (call two.done) one.called two.called agree).0 in
    let P : Opened → Type 0 = λ done. (t' ≡ after_listen address done (like s n)) × (log' ≡ []) in
    record {
      once = passed (after_listen address one.done) (passes_listen address one.done) s n [] t t' log log' alike one.after (subst P (sym same) two.after);
      same_calls = two.called ∙ ap (λ (done : Opened). call done ∷ []) (sym same) ∙ sym one.called;
    }
at_once laws (nexts.Connect address) rules moment s n calls more t t' log log' alike agree one two =
    let call : Opened → Given = λ done. Connects ways.Upstream address done in
    let same = same_opened one.done two.done (agreed calls more (call one.done) (call two.done) one.called two.called agree).0 in
    record {
      once = becomes (record s { asks = false }) n [] t t' log log' alike one.after two.after;
      same_calls = two.called ∙ ap (λ (done : Opened). call done ∷ []) (sym same) ∙ sym one.called;
    }
at_once laws (nexts.Poll way) rules moment s n calls more t t' log log' alike agree one two =
    let call : GotBytes → Given = λ got. Polls way room_bytes got in
    let same = same_found one.got two.got (agreed calls more (call one.got) (call two.got) one.called two.called agree).0 in
    let P : GotBytes → Type 0 = λ got. AfterPoll rules moment way got (like (moved_on s) n) t' log' in
    record {
      once = poll_once way one.got rules moment (moved_on s) n t t' log log' alike one.after (subst P (sym same) two.after);
      same_calls = two.called ∙ ap (λ (got : GotBytes). call got ∷ []) (sym same) ∙ sym one.called;
    }
at_once laws (nexts.Send way) rules moment s n calls more t t' log log' alike agree one two =
    let call : List ℕ → Sent → Given = λ piece done. Sends way piece done in
    let same = same_sent one.done two.done (agreed calls more (call (way_at way s).unsent one.done) (call (way_at way (like s n)).unsent two.done) one.called two.called agree).0 in
    let P : Sent → Type 0 = λ done. (t' ≡ after_send way done (like (moved_on s) n)) × (log' ≡ []) in
    record {
      once = passed (after_send way one.done) (passes_send way one.done) (moved_on s) n [] t t' log log' alike one.after (subst P (sym same) two.after);
      same_calls = two.called ∙ ap (λ (piece : List ℕ). call piece two.done ∷ []) (unsent_same way s n) ∙ ap (λ (done : Sent). call (way_at way s).unsent done ∷ []) (sym same) ∙ sym one.called;
    }
at_once laws (nexts.Refuse way) rules moment s n calls more t t' log log' alike agree one two =
    let call : Refusal → Sent → Given = λ refusal done. Refuses refusal.way refusal.text done in
    let refusal = same_refusal s.refusal one.refusal two.refusal one.is two.is in
    let same = same_sent one.done two.done (agreed calls more (call one.refusal one.done) (call two.refusal two.done) one.called two.called agree).0 in
    record {
      once = becomes (record s { refusal = None }) n [] t t' log log' alike one.after two.after;
      same_calls = two.called ∙ ap (λ (r : Refusal). call r two.done ∷ []) (sym refusal) ∙ ap (λ (done : Sent). call one.refusal done ∷ []) (sym same) ∙ sym one.called;
    }
at_once laws (nexts.Close way) rules moment s n calls more t t' log log' alike agree one two = record { once = close_once way rules moment s n t t' log log' alike one.after two.after; same_calls = two.called ∙ sym one.called }

moved_once : Laws → (rules : Rules) (moment : ℤ) (s : RunState) (n : NodeState) (calls more : List Given) (t t' : RunState) (log log' : List ℕ) → Alike s.node n → Agree (answers_of calls) (answers_of more)
    → Moves rules moment s calls t log → Moves rules moment (like s n) more t' log' → MovesOnce t t' calls more log log'
moved_once laws rules moment s n calls more t t' log log' alike agree one two =
    at_once laws (next_of rules s) rules moment s n calls more t t' log log' alike agree (moves_at rules moment s calls t log one) (moves_at rules moment (like s n) more t' log' two)

pub move_once : Laws → (rules : Rules) (moment : ℤ) (s s' : RunState) (calls more : List Given) (t t' : RunState) (log log' : List ℕ) → RunsAlike s s' → Agree (answers_of calls) (answers_of more)
    → Moves rules moment s calls t log → Moves rules moment s' more t' log' → MovesOnce t t' calls more log log'
move_once laws rules moment s s' calls more t t' log log' alike agree one two =
    let P : RunState → Type 0 = λ b. Moves rules moment b more t' log' in
    moved_once laws rules moment s s'.node calls more t t' log log' alike.node agree one (subst P alike.same two)

-- no move comes behind an end
pub none_ends : (status : NodeStatus) (rules : Rules) (moment : ℤ) (s : RunState) (calls : List Given) (t : RunState) (log : List ℕ) → next_of rules s ≡ nexts.End status → Moves rules moment s calls t log → ⊥
none_ends status rules moment s calls t log ends moves =
    let P : Next → Type 0 = λ n. MovesAt n rules moment s calls t log in subst P ends (moves_at rules moment s calls t log moves)
