-- Which words are told as answers: those of the acts of a machine's step, and no others.
use Rattle.std.proofs.Common.{
  ◌≡◌,
  ◌∙◌,
  ◌++◌,
  ◌+◌,
  ◌==◌,
  ℕ,
  Bool,
  true,
  false,
  List,
  [],
  ◌∷◌,
  refl,
  sym,
  ap,
  append_assoc,
  append-nil,
  if◌then◌else◌,
}
use Rattle.std.specs.List.{flat_map}
use Rattle.line_base.specs.declared.states.Side.{Side}
use Rattle.hermes_horizontal.specs.Canonical.{canonical}
use Rattle.hermes_horizontal.specs.declared.message.Message.{Message}
use Rattle.line_link.specs.Link.{answer_sent, sent_of}
use Rattle.node_core.specs.declared.act.Act.{Act}
use Rattle.node_core.specs.declared.act.Act.TheVariants as acts
use Rattle.line_report.specs.declared.happening.Happening.{Happening}
use Rattle.line_report.specs.declared.happening.Happening.TheVariants as happenings
use Rattle.line_step.specs.Acts.{act_did, acts_did, answers, cut_told, sent_by}
use Rattle.line_step.specs.World.{WorldParts, end_of, link_at, link_of}
use Rattle.law_sentences.specs.Answers.{answers_of, word_in, word_of}
use Rattle.line_step.proofs.Remarks.{AreRemarks, IsNoAct, Passes, all_pass, cut_remarks, no_acts}

pub answers_join : (machine query : ℕ) (a b : List Happening)
    → answers_of machine query (a ++ b) ≡ answers_of machine query a ++ answers_of machine query b
answers_join machine query [] b = refl
answers_join machine query (h ∷ a) b =
    ap (λ (words : List (List ℕ)). word_of machine query h
    ++ words) (answers_join machine query a b)
    ∙ sym (append_assoc (word_of machine query h) (answers_of machine query a)
    (answers_of machine query b))

-- ---- what tells no answer

abbrev pub Silent : List Happening → Type 0
Silent told = (machine query : ℕ) → answers_of machine query told ≡ []

pub both_silent : (a b : List Happening) → Silent a → Silent b → Silent (a ++ b)
both_silent a b one two machine query =
    answers_join machine query a b
    ∙ ap (λ (words : List (List ℕ)). words ++ answers_of machine query b) (one machine query)
    ∙ two machine query

no_act_silent : (h : Happening) → IsNoAct h → Silent (h ∷ [])
no_act_silent (happenings.Done machine act) is = absurd is
no_act_silent _ is = λ machine query. refl

pub no_acts_silent : Passes IsNoAct Silent
no_acts_silent = record {
  none = λ machine query. refl;
  both = both_silent;
  one = no_act_silent;
}

pub remarks_silent : (told : List Happening) → AreRemarks told → Silent told
remarks_silent told remarks = all_pass told no_acts_silent (no_acts told remarks)

-- ---- acts

-- these words, of the machine that is asked for
abbrev pub if_own : Bool → List (List ℕ) → List (List ℕ)
if_own own words = if own then words else []

pub own_none : (own : Bool) → if_own own [] ≡ []
own_none true = refl
own_none false = refl

own_both : (own : Bool) (one two : List (List ℕ))
    → if_own own one ++ if_own own two ≡ if_own own (one ++ two)
own_both true one two = refl
own_both false one two = refl

sends_none : (own : Bool) (machine query : ℕ) (told : List Happening) → Silent told
    → if_own own [] ++ answers_of machine query told ≡ if_own own []
sends_none own machine query told silent =
    ap (λ (words : List (List ℕ)). if_own own [] ++ words) (silent machine query) ∙ append-nil
    (if_own own [])

sent_words : (second : Bool) (machine query by : ℕ) (side : Side) (message : Message)
    (world : WorldParts)
    → answers_of machine query (sent_by second by side message world).told
    ≡ if_own (by == machine) []
sent_words true machine query by side message world =
    let on = answer_sent (canonical message) (link_at by world) in
    sends_none (by == machine) machine query (cut_told by on) (remarks_silent (cut_told by on) (cut_remarks by on))
sent_words false machine query by side message world =
    let on = sent_of (end_of side) (canonical message) (link_at (link_of by side) world) in
    sends_none (by == machine) machine query (cut_told (link_of by side) on)
    (remarks_silent (cut_told (link_of by side) on) (cut_remarks (link_of by side) on))

act_words : (machine query : ℕ) (second : Bool) (by : ℕ) (act : Act) (world : WorldParts)
    → answers_of machine query (act_did second by act world).told
    ≡ if_own (by == machine) (word_in query act)
act_words machine query second by (acts.Sends side message) world =
    sent_words (answers second side message) machine query by side message world
act_words machine query second by (acts.Drive side on) world = sym (own_none (by == machine))
act_words machine query second by act world =
    append-nil (if_own (by == machine) (word_in query act))

-- the words of the acts of a machine's step are told of that machine
pub acts_words : (machine query : ℕ) (second : Bool) (by : ℕ) (told : List Act)
    (world : WorldParts)
    → answers_of machine query (acts_did second by told world).told
    ≡ if_own (by == machine) (flat_map (word_in query) told)
acts_words machine query second by [] world = sym (own_none (by == machine))
acts_words machine query second by (act ∷ others) world =
    let one = act_did second by act world in
    let rest = (acts_did second by others one.world).told in
    answers_join machine query one.told rest
    ∙ ap (λ (words : List (List ℕ)). words ++ answers_of machine query rest)
    (act_words machine query second by act world)
    ∙ ap (λ (words : List (List ℕ)). if_own (by == machine) (word_in query act) ++ words)
    (acts_words machine query second by others one.world)
    ∙ own_both (by == machine) (word_in query act) (flat_map (word_in query) others)
