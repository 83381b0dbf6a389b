-- A message of the supervisor leaves the run where it is, and fewer bytes to hear.
use Rattle.std.proofs.Common.{◌≡◌, ◌∙◌, sym, subst, ap, refl, ℕ, ℤ, ◌+◌, ◌-◌, ◌<◌, ◌≤◌, Bool, true, false, List, [], ◌∷◌, Option, None, Some, Result, Ok, Err, codes, length, not, arith}
use Rattle.std.proofs.lemmas.Bool.{false≢true}
use Rattle.std.proofs.lemmas.List.{length-append, length-drop, length-take}
use Rattle.hermes_stream.specs.Cutter.{taken_of}
use Rattle.hermes_vertical.specs.declared.message.Vertical.{Vertical}
use Rattle.hermes_vertical.specs.Parts.{kind_of}
use Rattle.supervisory_core.specs.Row.{SupervisedRow, supervised_row}
use Rattle.supervisory_core.specs.Told.{unexpected}
use Rattle.supervisory_core.specs.declared.action.VerticalAction.{VerticalAction}
use Rattle.supervisory_core.specs.declared.action.VerticalAction.TheVariants as actions
use Rattle.board_record.specs.declared.sensed.Sensed.{Sensed}
use Rattle.node_core.specs.May.{may_of}
use Rattle.node_core.specs.declared.input.Input.{Input}
use Rattle.node_core.specs.declared.input.Input.TheVariants as inputs
use Rattle.node_core.specs.declared.input.No.{No}
use Rattle.supervised_end.specs.Channel.{ChannelValue, HearsNext, is_empty, fed, room_of}
use Rattle.supervised_end.specs.Said.{system_of}
use Rattle.node_run.specs.Hearing.{AnswersIf, BreaksOff, DoesAction, DoesFound, DoesHear, DoesRow, DoesWord, broken_off, said, with_channel, with_stands}
use Rattle.node_run.specs.State.{RunState}
use Rattle.node_run.specs.Steps.{Takes, TakesStep}
use Rattle.node_run.specs.Work.{count, hear_work}
use Rattle.supervised_end.specs.declared.channel.Found.{Found}
use Rattle.supervised_end.specs.declared.channel.Found.TheVariants as founds
use Rattle.supervised_end.specs.declared.channel.Word.{Word}
use Rattle.supervised_end.specs.declared.channel.Word.TheVariants as words
use Rattle.node_run.specs.declared.rules.Rules.{Rules}

-- ---- what is left to hear

-- as many bytes go behind those that wait as the answer has fewer then
pub record IsFed (old : ChannelValue) : Type 0 where
  pub waiting : length (fed old).waiting ≡ length old.waiting + room_of old
  pub piece : length (fed old).piece + room_of old ≡ length old.piece

pub is_fed : (old : ChannelValue) → IsFed old
is_fed old = record {
  waiting = omega (arith, length-append old.waiting (taken_of old.waiting old.piece), length-take (room_of old) old.piece);
  piece = omega (arith, length-drop (room_of old) old.piece);
}

-- a frame has nine bytes at least
pub word_less : (old new : ChannelValue) (w k : ℕ) → old.hears ≡ true → IsFed old → length (fed old).waiting ≡ w → k + length new.waiting ≤ w → 9 ≤ k
    → new.piece ≡ (fed old).piece → new.hears ≡ true → hear_work new < hear_work old
word_less old new w k hears bytes wide fewer nine piece goes = omega (arith, ap count hears, ap count goes, bytes.waiting, bytes.piece, wide, fewer, nine, ap length piece)

some_behind : (piece : List ℕ) → not (is_empty piece) ≡ true → 0 < length piece
some_behind [] e = absurd (false≢true e)
some_behind (byte ∷ bytes) e = omega arith

-- where no end waits, all of the answer is among the bytes that wait, or there is less than there was room for
pub more_less : (old new : ChannelValue) (more : Bool) → not (is_empty (fed old).piece) ≡ more → old.hears ≡ true → IsFed old → length new.waiting < 65536 → length new.waiting ≤ length (fed old).waiting
    → new.piece ≡ (fed old).piece → new.hears ≡ more → hear_work new < hear_work old
more_less old new true some hears bytes room fewer piece goes =
    let behind = some_behind (fed old).piece some in
    omega (arith, ap count hears, ap count goes, bytes.waiting, bytes.piece, room, fewer, ap length piece, behind)
more_less old new false none hears bytes room fewer piece goes =
    omega (arith, ap count hears, ap count goes, bytes.waiting, bytes.piece, room, fewer, ap length piece)

-- ---- what is as it was

-- a run is where it was, with this channel
pub record SameHere (s t : RunState) : Type 0 where
  pub turn : t.turn ≡ s.turn
  pub place : t.place ≡ s.place
  pub rest : t.rest ≡ s.rest
  pub ended : t.ended ≡ s.ended
  pub channel : t.channel ≡ s.channel
  pub config : t.config ≡ s.config
  pub held : t.held ≡ s.held
  pub settings : t.settings ≡ s.settings

here : (s : RunState) → SameHere s s
here s = record { turn = refl; place = refl; rest = refl; ended = refl; channel = refl; config = refl; held = refl; settings = refl }

pub here_at : (s t : RunState) → t ≡ s → SameHere s t
here_at s t e = let P : RunState → Type 0 = SameHere s in subst P (sym e) (here s)

step_here : (rules : Rules) (moment : ℤ) (sensed : List Sensed) (input : Input) (s t : RunState) (log : List ℕ) → TakesStep false rules moment sensed input s t log → SameHere s t
step_here rules moment sensed input s t log takes = record {
  turn = ap (λ (r : RunState). r.turn) takes.after;
  place = ap (λ (r : RunState). r.place) takes.after;
  rest = ap (λ (r : RunState). r.rest) takes.after;
  ended = ap (λ (r : RunState). r.ended) takes.after;
  channel = ap (λ (r : RunState). r.channel) takes.after;
  config = ap (λ (r : RunState). r.config) takes.after;
  held = ap (λ (r : RunState). r.held) takes.after;
  settings = ap (λ (r : RunState). r.settings) takes.after;
}

pub takes_here : (may : Result (Unit {0}) No) (rules : Rules) (moment : ℤ) (input : Input) (s t : RunState) (log : List ℕ) → Takes may rules moment input s s t log → SameHere s t
takes_here (Ok done) rules moment input s t log takes = step_here rules moment [] input s t log takes
takes_here (Err why) rules moment input s t log takes = here_at s t takes.0

-- ---- what a message does

answers_here : (may : Result (Unit {0}) No) (rules : Rules) (moment : ℤ) (query : ℕ) (order : List ℕ) (s t : RunState) (log : List ℕ) → AnswersIf may rules moment query order s t log → SameHere s t
answers_here (Ok done) rules moment query order s t log answers = step_here rules moment [] (inputs.Answer query order) s t log answers
answers_here (Err why) rules moment query order s t log answers =
    let told = here_at _ t answers.0 in
    record { turn = told.turn; place = told.place; rest = told.rest; ended = told.ended; channel = told.channel; config = told.config; held = told.held; settings = told.settings }

action_here : (action : VerticalAction) (rules : Rules) (moment : ℤ) (s t : RunState) (log : List ℕ) → DoesAction action rules moment s t log → SameHere s t
action_here actions.Describe rules moment s t log does =
    let told = takes_here (may_of s.node (inputs.Supervise true)) rules moment (inputs.Supervise true) (said moment (system_of rules.machine_id) s) t log does in
    record { turn = told.turn; place = told.place; rest = told.rest; ended = told.ended; channel = told.channel; config = told.config; held = told.held; settings = told.settings }
action_here (actions.Pong id) rules moment s t log does =
    let told = here_at _ t does.0 in
    record { turn = told.turn; place = told.place; rest = told.rest; ended = told.ended; channel = told.channel; config = told.config; held = told.held; settings = told.settings }
action_here (actions.Answer query order) rules moment s t log does = answers_here (may_of s.node (inputs.Answer query order)) rules moment query order s t log does
action_here actions.Nothing rules moment s t log does = here_at s t does.0

-- a run is where it was, with less to hear
pub record HearsLess (s t : RunState) : Type 0 where
  pub turn : t.turn ≡ s.turn
  pub place : t.place ≡ s.place
  pub rest : t.rest ≡ s.rest
  pub ended : t.ended ≡ s.ended
  pub config : t.config ≡ s.config
  pub held : t.held ≡ s.held
  pub settings : t.settings ≡ s.settings
  pub less : hear_work t.channel < hear_work s.channel

-- where a session is broken off, nothing is heard any more
breaks_less : (rules : Rules) (moment : ℤ) (text : List ℕ) (channel : ChannelValue) (s t : RunState) (log : List ℕ) → s.channel.hears ≡ true → BreaksOff rules moment text (with_channel channel s) t log → HearsLess s t
breaks_less rules moment text channel s t log hears breaks =
    let broken = broken_off moment text (with_channel channel s) in
    let told = takes_here (may_of s.node (inputs.Supervise false)) rules moment (inputs.Supervise false) broken t log breaks in
    record { turn = told.turn; place = told.place; rest = told.rest; ended = told.ended; config = told.config; held = told.held; settings = told.settings; less = omega (arith, ap hear_work told.channel, ap count hears) }

acts_less : (row : SupervisedRow) (rules : Rules) (moment : ℤ) (channel : ChannelValue) (s t : RunState) (log : List ℕ) → hear_work channel < hear_work s.channel
    → DoesAction row.action rules moment (with_stands row.after (with_channel channel s)) t log → HearsLess s t
acts_less row rules moment channel s t log less does =
    let told = action_here row.action rules moment (with_stands row.after (with_channel channel s)) t log does in
    record { turn = told.turn; place = told.place; rest = told.rest; ended = told.ended; config = told.config; held = told.held; settings = told.settings; less = omega (arith, ap hear_work told.channel, less) }

row_less : (row : Option SupervisedRow) (body : Vertical) (rules : Rules) (moment : ℤ) (channel : ChannelValue) (s t : RunState) (log : List ℕ) → s.channel.hears ≡ true → hear_work channel < hear_work s.channel
    → DoesRow row body rules moment (with_channel channel s) t log → HearsLess s t
row_less None body rules moment channel s t log hears less does = breaks_less rules moment (unexpected (kind_of body)) channel s t log hears does
row_less (Some row) body rules moment channel s t log hears less does = acts_less row rules moment channel s t log less does

word_hears : (word : Word) (rules : Rules) (moment : ℤ) (channel : ChannelValue) (s t : RunState) (log : List ℕ) → s.channel.hears ≡ true → hear_work channel < hear_work s.channel
    → DoesWord word rules moment (with_channel channel s) t log → HearsLess s t
word_hears (words.Says message) rules moment channel s t log hears less does = row_less (supervised_row channel.stands message.body) message.body rules moment channel s t log hears less does
word_hears (words.Wrong text) rules moment channel s t log hears less does = breaks_less rules moment text channel s t log hears does

found_less : (found : Found) (rules : Rules) (moment : ℤ) (channel : ChannelValue) (s t : RunState) (log : List ℕ) → s.channel.hears ≡ true → HearsNext s.channel channel found
    → DoesFound found rules moment (with_channel channel s) t log → HearsLess s t
found_less (founds.Word word) rules moment channel s t log hears next does =
    let takes = next.finds in
    let behind = ap length takes.behind in
    let fewer : length takes.frame + length channel.waiting ≤ length (fed s.channel).waiting = omega (arith, takes.gives.fewer, behind) in
    word_hears word rules moment channel s t log hears
    (word_less s.channel channel (length (fed s.channel).waiting) (length takes.frame) hears (is_fed s.channel) refl fewer takes.gives.nine next.piece (next.hears ∙ hears)) does
found_less founds.More rules moment channel s t log hears next does =
    let told = here_at (with_channel channel s) t does.0 in
    let behind = ap length next.finds.1 in
    let room : length channel.waiting < 65536 = omega (arith, next.finds.0.room, behind) in
    let fewer : length channel.waiting ≤ length (fed s.channel).waiting = omega (arith, next.finds.0.fewer, behind) in
    let less = more_less s.channel channel (not (is_empty (fed s.channel).piece)) refl hears (is_fed s.channel) room fewer next.piece next.hears in
    record { turn = told.turn; place = told.place; rest = told.rest; ended = told.ended; config = told.config; held = told.held; settings = told.settings; less = omega (arith, ap hear_work told.channel, less) }
found_less founds.TooLong rules moment channel s t log hears next does = breaks_less rules moment (codes "message too long") channel s t log hears does

-- A MESSAGE LEAVES LESS TO HEAR
pub hear_less : (rules : Rules) (moment : ℤ) (s t : RunState) (log : List ℕ) → s.channel.hears ≡ true → DoesHear rules moment s t log → HearsLess s t
hear_less rules moment s t log hears does = found_less does.found rules moment does.channel s t log hears does.hears does.does
