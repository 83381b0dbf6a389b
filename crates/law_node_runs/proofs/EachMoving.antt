-- EACH ANSWER HAS A MOVE: what comes next is done, whatever the ports answer to it.
use Rattle.std.proofs.Common.{◌≡◌, ◌∙◌, ◌≤◌, ℕ, ℤ, Bool, true, false, List, [], ◌∷◌, Some, None, length, refl, sym, ap, arith}
use Rattle.config_service.specs.declared.message.Settings.{Settings}
use Rattle.line_outside.specs.Given.{Closes, Connects, Given, Listens, Polls, Refuses, Sends}
use Rattle.line_outside.specs.Listening.{at_all}
use Rattle.line_outside.specs.declared.answer.GotBytes.{GotBytes}
use Rattle.line_outside.specs.declared.answer.GotBytes.TheVariants as founds
use Rattle.line_outside.specs.declared.ports.Opened.{Opened}
use Rattle.line_outside.specs.declared.ports.Opened.TheVariants as opens
use Rattle.line_outside.specs.declared.ports.Sent.{Sent}
use Rattle.line_outside.specs.declared.ports.Sent.TheVariants as sents
use Rattle.line_outside.specs.declared.way.Address.{Address}
use Rattle.line_outside.specs.declared.way.Way.{Way}
use Rattle.line_outside.specs.declared.way.Way.TheVariants as ways
use Rattle.node_run.specs.After.{after_listen, after_send, looked}
use Rattle.node_run.specs.Configuring.{AfterTry}
use Rattle.node_run.specs.Held.{is_more, looks_behind}
use Rattle.node_run.specs.Moving.{is_end}
use Rattle.node_run.specs.Next.{moved_on, next_of}
use Rattle.node_run.specs.Runs.{Moves, closes, connects, does_config, does_hear, does_line, listens, looks_again, polls, refuses, resets_side, room_bytes, sends, skips, takes_held, tries_port}
use Rattle.node_run.specs.State.{Refusal, RunState, way_at}
use Rattle.node_run.specs.declared.place.Next.{Next}
use Rattle.node_run.specs.declared.place.Next.TheVariants as nexts
use Rattle.node_run.specs.declared.rules.Rules.{Rules}
use Rattle.node_run.proofs.Configured.{config_less, reset_stays}
use Rattle.node_run.proofs.Far.{close_less, not_empty}
use Rattle.node_run.proofs.Frames.{IsShortGot, line_takes, panel_same, poll_same, sent_same}
use Rattle.node_run.proofs.Heard.{hear_less}
use Rattle.node_run.proofs.Holding.{held_here}
use Rattle.node_run.proofs.Nexts.{is_from}
use Rattle.law_node_runs.specs.One.{answer_of}
use Rattle.law_node_runs.specs.Each.{FitsRoom, Replies, reply_to}
use Rattle.law_node_runs.proofs.Happening.{IsKept, alike, close_happens, held_happens, line_happens, panel_happens, poll_happens, reset_happens}
use Rattle.law_node_runs.proofs.Hearing.{config_happens, hear_happens, try_happens}

-- the calls of a move are answered as these replies say: it makes none, or one
pub data AsReplied (replies : Replies) : List Given → Type 0 where
  none_called : AsReplied replies []
  one_called : {call : Given} → answer_of call ≡ reply_to call replies → AsReplied replies (call ∷ [])

pub record HasMove (rules : Rules) (moment : ℤ) (replies : Replies) (s : RunState) : Type 0 where
  pub after : RunState
  pub calls : List Given
  pub log : List ℕ
  pub moves : Moves rules moment s calls after log
  pub answered : AsReplied replies calls
  pub kept : IsKept after
  pub rest : length after.rest ≤ 4096

-- ---- what is kept

opened_kept : (address : Address) (opened : Opened) (s : RunState) → IsKept s → IsKept (after_listen address opened s)
opened_kept address opens.Done s k = alike s (after_listen address opens.Done s) refl refl refl refl k
opened_kept address opens.Failed s k = alike s (after_listen address opens.Failed s) refl refl refl refl k

opened_rest : (address : Address) (opened : Opened) (s : RunState) → length s.rest ≤ 4096 → length (after_listen address opened s).rest ≤ 4096
opened_rest address opens.Done s few = few
opened_rest address opens.Failed s few = few

sent_kept : (way : Way) (sent : Sent) (s : RunState) → IsKept s → IsKept (after_send way sent s)
sent_kept ways.Panel (sents.Took n) s k = record { node = k.node; channel = k.channel; config = k.config; held = k.held }
sent_kept ways.Upstream (sents.Took n) s k = record { node = k.node; channel = k.channel; config = k.config; held = k.held }
sent_kept ways.Downstream (sents.Took n) s k = record { node = k.node; channel = k.channel; config = k.config; held = k.held }
sent_kept ways.Supervisory (sents.Took n) s k = record { node = k.node; channel = k.channel; config = k.config; held = k.held }
sent_kept ways.Configuration (sents.Took n) s k = record { node = k.node; channel = k.channel; config = k.config; held = k.held }
sent_kept way sents.NotYet s k = k
sent_kept ways.Panel sents.Closed s k = record { node = k.node; channel = k.channel; config = k.config; held = k.held }
sent_kept ways.Upstream sents.Closed s k = record { node = k.node; channel = k.channel; config = k.config; held = k.held }
sent_kept ways.Downstream sents.Closed s k = record { node = k.node; channel = k.channel; config = k.config; held = k.held }
sent_kept ways.Supervisory sents.Closed s k = record { node = k.node; channel = k.channel; config = k.config; held = k.held }
sent_kept ways.Configuration sents.Closed s k = record { node = k.node; channel = k.channel; config = k.config; held = k.held }
sent_kept ways.Panel sents.Failed s k = record { node = k.node; channel = k.channel; config = k.config; held = k.held }
sent_kept ways.Upstream sents.Failed s k = record { node = k.node; channel = k.channel; config = k.config; held = k.held }
sent_kept ways.Downstream sents.Failed s k = record { node = k.node; channel = k.channel; config = k.config; held = k.held }
sent_kept ways.Supervisory sents.Failed s k = record { node = k.node; channel = k.channel; config = k.config; held = k.held }
sent_kept ways.Configuration sents.Failed s k = record { node = k.node; channel = k.channel; config = k.config; held = k.held }

few_looks : (more : Bool) (looks : ℕ) → looks ≤ 16 → looks_behind more looks ≤ 16
few_looks true looks few = omega (arith, few)
few_looks false looks few = omega arith

looked_kept : (got : GotBytes) (s : RunState) → IsKept s → IsKept (looked got s)
looked_kept got s k = record { node = k.node; channel = k.channel; config = k.config; held = record { looks = few_looks (is_more got) s.held.looks k.held.looks } }

short_got : (got : GotBytes) → FitsRoom got → IsShortGot 4096 got
short_got (founds.Bytes bytes) few = few
short_got founds.Arrived few = tt
short_got founds.Second few = tt
short_got founds.NotYet few = tt
short_got founds.Closed few = tt
short_got founds.Failed few = tt

try_rest : (opened : Opened) (moment : ℤ) (settings : Settings) (s t : RunState) → AfterTry opened moment settings s t → t.rest ≡ s.rest
try_rest opens.Done moment settings s t after = ap (λ (r : RunState). r.rest) after.after
try_rest opens.Failed moment settings s t after = ap (λ (r : RunState). r.rest) after

-- ---- the move that comes next

-- the way of a refusal is that of the text that waits
refuse_move : (rules : Rules) (moment : ℤ) (replies : Replies) (s : RunState) (way : Way) → next_of rules s ≡ nexts.Refuse way → (refusal : Refusal) → s.refusal ≡ Some refusal → refusal.way ≡ way
    → IsKept s → length s.rest ≤ 4096 → HasMove rules moment replies s
refuse_move rules moment replies s way next refusal is same k few = record {
  after = record s { refusal = None };
  calls = Refuses refusal.way refusal.text replies.sending ∷ [];
  log = [];
  moves = refuses (next ∙ ap nexts.Refuse (sym same)) is;
  answered = one_called refl;
  kept = alike s (record s { refusal = None }) refl refl refl refl k;
  rest = few;
}

move_by : (rules : Rules) (moment : ℤ) (replies : Replies) (s : RunState) → FitsRoom replies.got → IsKept s → length s.rest ≤ 4096
    → (next : Next) → next_of rules s ≡ next → is_end next ≡ false → HasMove rules moment replies s
move_by rules moment replies s room k few (nexts.End status) next goes = absurd cc
move_by rules moment replies s room k few (nexts.Refuse way) next goes =
    let from = is_from rules s (nexts.Refuse way) next in refuse_move rules moment replies s way next from.0 from.1 from.2 k few
move_by rules moment replies s room k few (nexts.Close way) next goes =
    let done = close_happens rules moment way s k in
    let less = close_less rules moment way s done.after done.log (is_from rules s (nexts.Close way) next) done.does in
    record { after = done.after; calls = Closes way ∷ []; log = done.log; moves = closes next done.does; answered = one_called refl; kept = done.kept; rest = omega (arith, few, less.rest) }
move_by rules moment replies s room k few (nexts.Reset side) next goes =
    let done = reset_happens rules moment side s k in
    let there = reset_stays rules moment side s done.after done.log done.does in
    record { after = done.after; calls = []; log = done.log; moves = resets_side next done.does; answered = none_called; kept = done.kept; rest = rw there.rest few }
move_by rules moment replies s room k few (nexts.Try settings) next goes =
    let done = try_happens replies.opening moment settings s k in
    record {
      after = done.after;
      calls = Listens ways.Downstream (at_all settings.port) replies.opening ∷ [];
      log = [];
      moves = tries_port next done.does refl;
      answered = one_called refl;
      kept = done.kept;
      rest = rw (try_rest replies.opening moment settings s done.after done.does) few;
    }
move_by rules moment replies s room k few (nexts.Connect address) next goes = record {
  after = record s { asks = false };
  calls = Connects ways.Upstream address replies.opening ∷ [];
  log = [];
  moves = connects next;
  answered = one_called refl;
  kept = alike s (record s { asks = false }) refl refl refl refl k;
  rest = few;
}
move_by rules moment replies s room k few nexts.Line next goes =
    let done = line_happens rules moment s k in
    let takes = line_takes rules moment s done.after done.log (not_empty s.rest (is_from rules s nexts.Line next)) done.does in
    record { after = done.after; calls = []; log = done.log; moves = does_line next done.does; answered = none_called; kept = done.kept; rest = omega (arith, few, takes.rest) }
move_by rules moment replies s room k few nexts.Hear next goes =
    let done = hear_happens rules moment s k in
    let less = hear_less rules moment s done.after done.log (is_from rules s nexts.Hear next) done.does in
    record { after = done.after; calls = []; log = done.log; moves = does_hear next done.does; answered = none_called; kept = done.kept; rest = rw less.rest few }
move_by rules moment replies s room k few nexts.HearConfig next goes =
    let done = config_happens moment s k in
    let less = config_less moment s done.after (is_from rules s nexts.HearConfig next) done.does in
    record { after = done.after; calls = []; log = []; moves = does_config next done.does refl; answered = none_called; kept = done.kept; rest = rw less.rest few }
move_by rules moment replies s room k few nexts.Look next goes =
    let done = panel_happens rules replies.got (looked replies.got s) (looked_kept replies.got s k) in
    let there = panel_same 4096 rules replies.got (looked replies.got s) done.after done.log (short_got replies.got room) done.does in
    record {
      after = done.after;
      calls = Polls ways.Panel room_bytes replies.got ∷ [];
      log = done.log;
      moves = looks_again next done.does;
      answered = one_called refl;
      kept = done.kept;
      rest = there.rest few;
    }
move_by rules moment replies s room k few nexts.Take next goes =
    let done = held_happens rules moment s k in
    let there = held_here rules moment s done.after done.log done.does in
    record { after = done.after; calls = []; log = done.log; moves = takes_held next done.does; answered = none_called; kept = done.kept; rest = rw there.rest few }
move_by rules moment replies s room k few nexts.Skip next goes =
    record { after = moved_on s; calls = []; log = []; moves = skips next; answered = none_called; kept = alike s (moved_on s) refl refl refl refl k; rest = few }
move_by rules moment replies s room k few (nexts.Listen way address) next goes = record {
  after = after_listen address replies.opening s;
  calls = Listens way address replies.opening ∷ [];
  log = [];
  moves = listens next;
  answered = one_called refl;
  kept = opened_kept address replies.opening s k;
  rest = opened_rest address replies.opening s few;
}
move_by rules moment replies s room k few (nexts.Poll way) next goes =
    let done = poll_happens rules moment way replies.got (moved_on s) room (alike s (moved_on s) refl refl refl refl k) in
    let there = poll_same 4096 rules moment way replies.got (moved_on s) done.after done.log (short_got replies.got room) done.does in
    record {
      after = done.after;
      calls = Polls way room_bytes replies.got ∷ [];
      log = done.log;
      moves = polls next done.does;
      answered = one_called refl;
      kept = done.kept;
      rest = there.rest few;
    }
move_by rules moment replies s room k few (nexts.Send way) next goes =
    let there = sent_same way replies.sending (moved_on s) in
    record {
      after = after_send way replies.sending (moved_on s);
      calls = Sends way (way_at way s).unsent replies.sending ∷ [];
      log = [];
      moves = sends next;
      answered = one_called refl;
      kept = sent_kept way replies.sending (moved_on s) (alike s (moved_on s) refl refl refl refl k);
      rest = rw there.rest few;
    }

pub has_move : (rules : Rules) (moment : ℤ) (replies : Replies) (s : RunState) → FitsRoom replies.got → IsKept s → length s.rest ≤ 4096 → is_end (next_of rules s) ≡ false → HasMove rules moment replies s
has_move rules moment replies s room k few goes = move_by rules moment replies s room k few (next_of rules s) refl goes
