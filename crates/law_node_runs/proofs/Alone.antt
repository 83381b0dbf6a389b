-- AND THERE IS NO OTHER: two runs in the same are one, and a node's first state is kept.
use Rattle.std.proofs.Common.{◌≡◌, ◌∙◌, ◌++◌, ◌+◌, ◌<◌, ◌^◌, ℕ, ℤ, List, [], ◌∷◌, refl, sym, ap, subst, arith, append_assoc, append-nil}
use Rattle.line_outside.specs.Given.{Closes, Connects, Given, Listens, Polls, Refuses, Sends}
use Rattle.line_outside.specs.Listening.{at_all}
use Rattle.line_outside.specs.declared.way.Way.TheVariants as ways
use Rattle.node_settings.specs.declared.settings.Settings.{Settings}
use Rattle.node_run.specs.Next.{next_of}
use Rattle.node_run.specs.Runs.{Moves, room_bytes}
use Rattle.node_run.specs.State.{RunState, way_at}
use Rattle.node_run.specs.Told.{profile_of, rules_of}
use Rattle.node_run.specs.declared.place.Next.{Next}
use Rattle.node_run.specs.declared.place.Next.TheVariants as nexts
use Rattle.node_run.specs.declared.rules.Rules.{Rules}
use Rattle.node_run.specs.declared.status.NodeStatus.{NodeStatus}
use Rattle.law_node_runs.specs.One.{Agree, Answer, answers_of, closed, found, opened, sent}
use Rattle.law_node_runs.proofs.Moving.{Laws, MovesAt, move_once, moves_at, none_ends}
use Rattle.law_node_runs.proofs.Nodes.{alike_self}
use Rattle.law_node_runs.proofs.States.{RunsAlike}
use Rattle.law_node_runs.specs.Each.{AreAnswered, AreMoments, EachOutsideHasOneRun, HasOneRun, Outside, Replies, begun_by}
use Rattle.law_node_runs.proofs.Going.{Chain, Goes, chain_of, has_run, run_of, steps, stops}
use Rattle.law_node_runs.proofs.Happening.{IsKept}
use Rattle.law_node_runs.proofs.Small.{new_small_node}

-- ---- the answers to what comes next

abbrev answers_at : Next → Replies → List Answer
answers_at (nexts.End status) replies = []
answers_at nexts.Line replies = []
answers_at nexts.Hear replies = []
answers_at nexts.HearConfig replies = []
answers_at (nexts.Reset side) replies = []
answers_at nexts.Take replies = []
answers_at nexts.Skip replies = []
answers_at (nexts.Try settings) replies = opened replies.opening ∷ []
answers_at (nexts.Listen way address) replies = opened replies.opening ∷ []
answers_at (nexts.Connect address) replies = opened replies.opening ∷ []
answers_at nexts.Look replies = found replies.got ∷ []
answers_at (nexts.Poll way) replies = found replies.got ∷ []
answers_at (nexts.Send way) replies = sent replies.sending ∷ []
answers_at (nexts.Refuse way) replies = sent replies.sending ∷ []
answers_at (nexts.Close way) replies = closed ∷ []

-- of a move that makes one call
one_answer : (outside : Outside) (before first later : List Given) (call : Given) (answer : Answer) → first ≡ call ∷ [] → AreAnswered outside before (first ++ later)
    → ((AreAnswered outside before (call ∷ later)) → answers_of (call ∷ []) ≡ answer ∷ []) → answers_of first ≡ answer ∷ []
one_answer outside before first later call answer is answered tells =
    let P : List Given → Type 0 = λ cs. AreAnswered outside before (cs ++ later) in
    ap answers_of is ∙ tells (subst P is answered)

answers_by : (next : Next) (outside : Outside) (before first later : List Given) (rules : Rules) (moment : ℤ) (s r : RunState) (line : List ℕ) → MovesAt next rules moment s first r line
    → AreAnswered outside before (first ++ later) → answers_of first ≡ answers_at next (outside.replies before)
answers_by (nexts.End status) outside before first later rules moment s r line moves answered = absurd moves
answers_by nexts.Line outside before first later rules moment s r line moves answered = ap answers_of moves.0
answers_by nexts.Hear outside before first later rules moment s r line moves answered = ap answers_of moves.0
answers_by nexts.HearConfig outside before first later rules moment s r line moves answered = ap answers_of moves.0
answers_by (nexts.Reset side) outside before first later rules moment s r line moves answered = ap answers_of moves.0
answers_by nexts.Take outside before first later rules moment s r line moves answered = ap answers_of moves.0
answers_by nexts.Skip outside before first later rules moment s r line moves answered = ap answers_of moves.0
answers_by (nexts.Try settings) outside before first later rules moment s r line moves answered =
    one_answer outside before first later (Listens ways.Downstream (at_all settings.port) moves.done) _ moves.called answered (λ a. ap (λ (x : Answer). x ∷ []) a.0)
answers_by (nexts.Listen way address) outside before first later rules moment s r line moves answered =
    one_answer outside before first later (Listens way address moves.done) _ moves.called answered (λ a. ap (λ (x : Answer). x ∷ []) a.0)
answers_by (nexts.Connect address) outside before first later rules moment s r line moves answered =
    one_answer outside before first later (Connects ways.Upstream address moves.done) _ moves.called answered (λ a. ap (λ (x : Answer). x ∷ []) a.0)
answers_by nexts.Look outside before first later rules moment s r line moves answered =
    one_answer outside before first later (Polls ways.Panel room_bytes moves.got) _ moves.called answered (λ a. ap (λ (x : Answer). x ∷ []) a.0)
answers_by (nexts.Poll way) outside before first later rules moment s r line moves answered =
    one_answer outside before first later (Polls way room_bytes moves.got) _ moves.called answered (λ a. ap (λ (x : Answer). x ∷ []) a.0)
answers_by (nexts.Send way) outside before first later rules moment s r line moves answered =
    one_answer outside before first later (Sends way (way_at way s).unsent moves.done) _ moves.called answered (λ a. ap (λ (x : Answer). x ∷ []) a.0)
answers_by (nexts.Refuse way) outside before first later rules moment s r line moves answered =
    one_answer outside before first later (Refuses moves.refusal.way moves.refusal.text moves.done) _ moves.called answered (λ a. ap (λ (x : Answer). x ∷ []) a.0)
answers_by (nexts.Close way) outside before first later rules moment s r line moves answered =
    one_answer outside before first later (Closes way) _ moves.called answered (λ a. ap (λ (x : Answer). x ∷ []) a.0)

agree_self : (answers : List Answer) → Agree answers answers
agree_self [] = tt
agree_self (answer ∷ answers) = (refl, agree_self answers)

agree_both : (one other both : List Answer) → one ≡ both → other ≡ both → Agree one other
agree_both one other both first second =
    let P : List Answer → Type 0 = λ a. Agree a other in
    let Q : List Answer → Type 0 = λ a. Agree both a in
    subst P (sym first) (subst Q (sym second) (agree_self both))

-- two moves that come next in alike states are answered alike
agree_next : (outside : Outside) (before first later first' later' : List Given) (rules : Rules) (moment : ℤ) (s s' r r' : RunState) (line line' : List ℕ) → next_of rules s' ≡ next_of rules s
    → Moves rules moment s first r line → Moves rules moment s' first' r' line' → AreAnswered outside before (first ++ later) → AreAnswered outside before (first' ++ later') → Agree (answers_of first) (answers_of first')
agree_next outside before first later first' later' rules moment s s' r r' line line' same move move' one two =
    let P : Next → Type 0 = λ next. MovesAt next rules moment s' first' r' line' in
    agree_both (answers_of first) (answers_of first') (answers_at (next_of rules s) (outside.replies before))
    (answers_by (next_of rules s) outside before first later rules moment s r line (moves_at rules moment s first r line move) one)
    (answers_by (next_of rules s) outside before first' later' rules moment s' r' line' (subst P same (moves_at rules moment s' first' r' line' move')) two)

behind_first : (outside : Outside) (before first later : List Given) → AreAnswered outside before (first ++ later) → AreAnswered outside (before ++ first) later
behind_first outside before [] later answered = subst (λ (cs : List Given). AreAnswered outside cs later) (sym (append-nil before)) answered
behind_first outside before (call ∷ first) later answered =
    subst (λ (cs : List Given). AreAnswered outside cs later) (append_assoc before (call ∷ []) first) (behind_first outside (before ++ call ∷ []) first later answered.1)

-- ---- both runs

record AreOne (moments others : List ℤ) (calls more : List Given) (log text : List ℕ) (status end : NodeStatus) : Type 0 where
  moments_are : others ≡ moments
  calls_are : more ≡ calls
  log_is : text ≡ log
  status_is : end ≡ status

same_next : (rules : Rules) (s s' : RunState) → RunsAlike s s' → next_of rules s' ≡ next_of rules s
same_next rules s s' alike = ap (next_of rules) alike.same

same_end : (a b : NodeStatus) → nexts.End a ≡ nexts.End b → a ≡ b
same_end a b is = cc

put_first : (moment : ℤ) (moments others : List ℤ) (first later first' later' calls more : List Given) (line lines line' lines' log text : List ℕ) (status end : NodeStatus)
    → first' ≡ first → line' ≡ line → calls ≡ first ++ later → more ≡ first' ++ later' → log ≡ line ++ lines → text ≡ line' ++ lines'
    → AreOne moments others later later' lines lines' status end → AreOne (moment ∷ moments) (moment ∷ others) calls more log text status end
put_first moment moments others first later first' later' calls more line lines line' lines' log text status end first_is line_is calls_are more_are log_is text_is one = record {
  moments_are = ap (λ (ms : List ℤ). moment ∷ ms) one.moments_are;
  calls_are = more_are ∙ ap (λ (cs : List Given). cs ++ later') first_is ∙ ap (λ (cs : List Given). first ++ cs) one.calls_are ∙ sym calls_are;
  log_is = text_is ∙ ap (λ (x : List ℕ). x ++ lines') line_is ∙ ap (λ (x : List ℕ). line ++ x) one.log_is ∙ sym log_is;
  status_is = one.status_is;
}

both : Laws → (outside : Outside) (rules : Rules) (s s' t t' : RunState) (n : ℕ) (before : List Given) (moments others : List ℤ) (calls more : List Given) (log text : List ℕ) (status end : NodeStatus)
    → RunsAlike s s' → next_of rules t ≡ nexts.End status → next_of rules t' ≡ nexts.End end → AreMoments outside n moments → AreMoments outside n others → AreAnswered outside before calls → AreAnswered outside before more
    → Chain rules s moments calls t log → Chain rules s' others more t' text → AreOne moments others calls more log text status end
both laws outside rules s s' t t' n before moments others calls more log text status end alike ends ends' at at' answered answered' stops stops =
    record { moments_are = refl; calls_are = refl; log_is = refl; status_is = same_end end status (sym ends' ∙ same_next rules s s' alike ∙ ends) }
both laws outside rules s s' t t' n before moments others calls more log text status end alike ends ends' at at' answered answered' stops (steps r moment first later line lines move rest calls_are text_is) =
    absurd (none_ends status rules moment s' first r line (same_next rules s s' alike ∙ ends) move)
both laws outside rules s s' t t' n before moments others calls more log text status end alike ends ends' at at' answered answered' (steps r moment first later line lines move rest calls_are text_is) stops =
    absurd (none_ends end rules moment s first r line (sym (same_next rules s s' alike) ∙ ends') move)
both laws outside rules s s' t t' n before (moment ∷ moments) (other ∷ others) calls more log text status end alike ends ends' at at' answered answered'
    (steps r _ first later line lines move rest calls_are text_is) (steps r' _ first' later' line' lines' move' rest' calls_are' text_is') =
    let P : List Given → Type 0 = AreAnswered outside before in
    let here = subst P calls_are answered in
    let here' = subst P calls_are' answered' in
    let same : other ≡ moment = at'.0 ∙ sym at.0 in
    let M : ℤ → Type 0 = λ m. Moves rules m s' first' r' line' in
    let moved = subst M same move' in
    let agree = agree_next outside before first later first' later' rules moment s s' r r' line line' (same_next rules s s' alike) move moved here here' in
    let once = move_once laws rules moment s s' first first' r r' line line' alike agree move moved in
    let B : List Given → Type 0 = λ cs. AreAnswered outside (before ++ cs) later' in
    let later_one = both laws outside rules r r' t t' (n + 1) (before ++ first) moments others later later' lines lines' status end once.once.alike ends ends' at.1 at'.1
    (behind_first outside before first later here) (subst B once.same_calls (behind_first outside before first' later' here')) rest rest' in
    let Q : ℤ → Type 0 = λ m. AreOne (moment ∷ moments) (m ∷ others) calls more log text status end in
    subst Q (sym same) (put_first moment moments others first later first' later' calls more line lines line' lines' log text status end once.same_calls once.once.same_log calls_are calls_are' text_is text_is' later_one)

-- ---- the law

one_of : Laws → (outside : Outside) (rules : Rules) (s : RunState) → Goes outside rules s 0 [] → HasOneRun outside rules s
one_of laws outside rules s goes = record {
  moments = goes.moments;
  calls = goes.calls;
  log = goes.log;
  status = goes.status;
  run = record { whole = record { reached = goes.reached; run = run_of goes.chain; ends = goes.ends }; at = goes.at; answered = goes.answered };
  alone = λ others more text end other.
      let one = both laws outside rules s s goes.reached other.whole.reached 0 [] goes.moments others goes.calls more goes.log text goes.status end (record { node = alike_self s.node; same = refl })
      goes.ends other.whole.ends goes.at other.at goes.answered other.answered goes.chain (chain_of other.whole.run) in
      (one.moments_are, one.calls_are, one.log_is, one.status_is);
}

begun_kept : (settings : Settings) → settings.identity.number < 2 ^ 32 → IsKept (begun_by settings)
begun_kept settings small = record {
  node = new_small_node (profile_of settings) small;
  channel = record { waiting = omega arith; piece = omega arith };
  config = record { waiting = omega arith; piece = omega arith };
  held = record { looks = omega arith };
}

pub each_outside : Laws → EachOutsideHasOneRun
each_outside laws settings outside small fits =
    one_of laws outside (rules_of settings) (begun_by settings) (has_run outside (rules_of settings) (begun_by settings) fits (begun_kept settings small) (omega arith))
