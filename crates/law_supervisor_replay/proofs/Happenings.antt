-- What is folded from the happenings of a step is what its acts tell.
use Rattle.std.proofs.Common.{ap, refl, ◌≡◌, ◌∙◌, ◌++◌, ℕ, Bool, true, false, List, [], ◌∷◌}
use Rattle.line_base.specs.declared.states.Side.{Side}
use Rattle.hermes_horizontal.specs.Canonical.{canonical}
use Rattle.hermes_horizontal.specs.declared.message.Message.{Message}
use Rattle.line_link.specs.Link.{answer_sent, sent_of}
use Rattle.line_link.specs.declared.link.Sent.{Sent}
use Rattle.line_link.specs.declared.link.Sent.TheVariants as sent
use Rattle.line_report.specs.declared.happening.Happening.{Happening}
use Rattle.line_report.specs.declared.happening.Happening.TheVariants as happenings
use Rattle.node_core.specs.declared.act.Act.{Act}
use Rattle.node_core.specs.declared.act.Act.TheVariants as acts
use Rattle.line_step.specs.Acts.{Effect, act_did, acts_did, answers, cut_told, sent_by}
use Rattle.line_step.specs.World.{WorldParts, end_of, link_at, link_of}
use Rattle.law_supervisor_replay.specs.Replay.{Told, told_after, with_happening}
use Rattle.law_supervisor_replay.proofs.Since.{since_after, since_with}
use Rattle.law_supervisor_replay.proofs.Bodies.{left_acts, told_acts}

-- ---- happenings behind others

pub after_append : (id : ℕ) (first second : List Happening) (told : Told)
    → told_after id (first ++ second) told ≡ told_after id second (told_after id first told)
after_append id [] second told = refl
after_append id (happening ∷ first) second told =
    after_append id first second (with_happening id happening told)

pub left_after_append : (gap id : ℕ) (first second : List Happening) (left : Bool)
    → since_after gap id (first ++ second) left
    ≡ since_after gap id second (since_after gap id first left)
left_after_append gap id [] second left = refl
left_after_append gap id (happening ∷ first) second left =
    left_after_append gap id first second (since_with gap id happening left)

-- ---- an act

-- a link that is cut tells nothing of a board
cut_silent : (id link : ℕ) (how : Sent) (told : Told)
    → told_after id (cut_told link how) told ≡ told
cut_silent id link sent.Cuts told = refl
cut_silent id link sent.Flows told = refl
cut_silent id link sent.Vanishes told = refl

cut_keeps : (gap id link : ℕ) (how : Sent) (left : Bool)
    → since_after gap id (cut_told link how) left ≡ left
cut_keeps gap id link sent.Cuts left = refl
cut_keeps gap id link sent.Flows left = refl
cut_keeps gap id link sent.Vanishes left = refl

-- nor does a message that is sent
sends_silent : (id machine : ℕ) (test : Bool) (side : Side) (message : Message) (world : WorldParts)
    (told : Told) → told_after id (sent_by test machine side message world).told told ≡ told
sends_silent id machine true side message world told =
    cut_silent id machine (answer_sent (canonical message) (link_at machine world)) told
sends_silent id machine false side message world told =
    let link : ℕ = link_of machine side in
    cut_silent id link (sent_of (end_of side) (canonical message) (link_at link world)) told

sends_keep : (gap id machine : ℕ) (test : Bool) (side : Side) (message : Message)
    (world : WorldParts) (left : Bool)
    → since_after gap id (sent_by test machine side message world).told left ≡ left
sends_keep gap id machine true side message world left =
    cut_keeps gap id machine (answer_sent (canonical message) (link_at machine world)) left
sends_keep gap id machine false side message world left =
    let link : ℕ = link_of machine side in
    cut_keeps gap id link (sent_of (end_of side) (canonical message) (link_at link world)) left

act_told : (id machine : ℕ) (second : Bool) (act : Act) (world : WorldParts) (told : Told)
    → told_after id (act_did second machine act world).told told
    ≡ with_happening id (happenings.Done machine act) told
act_told id machine second (acts.Sends side message) world told =
    sends_silent id machine (answers second side message) side message world told
act_told id machine second (acts.Drive side on) world told = refl
act_told id machine second _ world told = refl

act_left : (gap id machine : ℕ) (second : Bool) (act : Act) (world : WorldParts) (left : Bool)
    → since_after gap id (act_did second machine act world).told left
    ≡ since_with gap id (happenings.Done machine act) left
act_left gap id machine second (acts.Sends side message) world left =
    sends_keep gap id machine (answers second side message) side message world left
act_left gap id machine second (acts.Drive side on) world left = refl
act_left gap id machine second _ world left = refl

-- ---- the acts of a step

pub acts_told : (id machine : ℕ) (second : Bool) (made : List Act) (world : WorldParts)
    (told : Told)
    → told_after id (acts_did second machine made world).told told
    ≡ told_acts id machine made told
acts_told id machine second [] world told = refl
acts_told id machine second (act ∷ made) world told =
    let one : Effect = act_did second machine act world in
    let rest : List Happening = (acts_did second machine made one.world).told in
    after_append id one.told rest told
    ∙ ap (told_after id rest) (act_told id machine second act world told)
    ∙ acts_told id machine second made one.world
    (with_happening id (happenings.Done machine act) told)

pub acts_left : (gap id machine : ℕ) (second : Bool) (made : List Act) (world : WorldParts)
    (left : Bool)
    → since_after gap id (acts_did second machine made world).told left
    ≡ left_acts gap id machine made left
acts_left gap id machine second [] world left = refl
acts_left gap id machine second (act ∷ made) world left =
    let one : Effect = act_did second machine act world in
    let rest : List Happening = (acts_did second machine made one.world).told in
    left_after_append gap id one.told rest left
    ∙ ap (since_after gap id rest) (act_left gap id machine second act world left)
    ∙ acts_left gap id machine second made one.world
    (since_with gap id (happenings.Done machine act) left)
