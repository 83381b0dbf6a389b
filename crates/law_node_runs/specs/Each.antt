-- EACH LIST OF ANSWERS HAS A RUN: whatever the ports of a node answer, and whenever its moves fall,
-- there is exactly one run, and it comes to its end.
use Rattle.std.specs.Prelude.{◌≡◌, ◌++◌, ◌+◌, ◌≤◌, ◌<◌, ◌^◌, ℕ, ℤ, List, [], ◌∷◌, length}
use Rattle.line_outside.specs.Given.{Closes, Connects, Given, Listens, Polls, Refuses, Sends}
use Rattle.line_outside.specs.declared.answer.GotBytes.{GotBytes}
use Rattle.line_outside.specs.declared.answer.GotBytes.TheVariants as founds
use Rattle.line_outside.specs.declared.ports.Opened.{Opened}
use Rattle.line_outside.specs.declared.ports.Sent.{Sent}
use Rattle.node_core.specs.Node.{new_node}
use Rattle.node_run.specs.Runs.{room_bytes}
use Rattle.node_run.specs.State.{RunState, started}
use Rattle.node_run.specs.Told.{neighbours_of, profile_of, rules_of}
use Rattle.node_run.specs.declared.rules.Rules.{Rules}
use Rattle.node_run.specs.declared.status.NodeStatus.{NodeStatus}
use Rattle.node_settings.specs.declared.settings.Settings.{Settings}
use Rattle.law_node_runs.specs.One.{Answer, IsWhole, answer_of, closed, found, opened, sent}

-- ---- what is outside of a node

-- what ports would answer next, to whichever call comes: one that listens or connects, a poll, or
-- one that sends or refuses
pub record Replies : Type 0 where
  pub opening : Opened
  pub got : GotBytes
  pub sending : Sent

abbrev pub reply_to : Given → Replies → Answer
reply_to (Listens _ _ _) replies = opened replies.opening
reply_to (Connects _ _ _) replies = opened replies.opening
reply_to (Polls _ _ _) replies = found replies.got
reply_to (Sends _ _ _) replies = sent replies.sending
reply_to (Refuses _ _ _) replies = sent replies.sending
reply_to (Closes _) replies = closed

-- WHAT IS OUTSIDE: the moment of each move, by its number, and what the ports would answer next,
-- which may hang on all that was called before
pub record Outside : Type 0 where
  pub moment : ℕ → ℤ
  pub replies : List Given → Replies

-- a poll gives no more bytes than it has room for
abbrev pub FitsRoom : GotBytes → Type 0
FitsRoom (founds.Bytes bytes) = length bytes ≤ room_bytes
FitsRoom got = Unit {0}

pub record Fits (outside : Outside) : Type 0 where
  pub room : (before : List Given) → FitsRoom (outside.replies before).got

-- ---- a run in these

-- these are the moments of the moves from this one on
abbrev pub AreMoments : Outside → ℕ → List ℤ → Type 0
AreMoments outside n [] = Unit {0}
AreMoments outside n (moment ∷ moments) =
    (moment ≡ outside.moment n) × AreMoments outside (n + 1) moments

-- these calls, behind those, are answered so
abbrev pub AreAnswered : Outside → List Given → List Given → Type 0
AreAnswered outside before [] = Unit {0}
AreAnswered outside before (call ∷ calls) =
    (answer_of call ≡ reply_to call (outside.replies before))
    × AreAnswered outside (before ++ call ∷ []) calls

-- A RUN IN THESE, from a state to its end
pub record IsRunIn (outside : Outside) (rules : Rules) (s : RunState) (moments : List ℤ)
    (calls : List Given) (log : List ℕ) (status : NodeStatus) : Type 0 where
  pub whole : IsWhole rules s moments calls log status
  pub at : AreMoments outside 0 moments
  pub answered : AreAnswered outside [] calls

-- there is one, and no other
pub record HasOneRun (outside : Outside) (rules : Rules) (s : RunState) : Type 0 where
  pub moments : List ℤ
  pub calls : List Given
  pub log : List ℕ
  pub status : NodeStatus
  pub run : IsRunIn outside rules s moments calls log status
  pub alone : (others : List ℤ) (more : List Given) (text : List ℕ) (end : NodeStatus)
      → IsRunIn outside rules s others more text end
      → (others ≡ moments) × (more ≡ calls) × (text ≡ log) × (end ≡ status)

-- the state in which a node of these settings begins
abbrev pub begun_by : Settings → RunState
begun_by settings = started (neighbours_of settings) (new_node (profile_of settings))

-- THE LAW: whatever the ports answer, and at whatever moments, a node has exactly one run, and it
-- comes to its end
abbrev pub EachOutsideHasOneRun : Type 0
EachOutsideHasOneRun =
    (settings : Settings) (outside : Outside) → settings.identity.number < 2 ^ 32 → Fits outside
    → HasOneRun outside (rules_of settings) (begun_by settings)
