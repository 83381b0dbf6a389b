-- Which breaches are in what is told: those of a machine's acts, and no others.
use Rattle.std.proofs.Common.{Bool, List, [], false, true, ℕ, ◌++◌, ◌+◌, ◌∷◌, ◌≡◌}
use Rattle.std.specs.List.{AllByRecursion}
use Rattle.std.proofs.lemmas.Bool.{and_parts}
use Rattle.line_base.specs.declared.states.Side.{Side}
use Rattle.hermes_horizontal.specs.Canonical.{canonical}
use Rattle.hermes_horizontal.specs.declared.message.Message.{Message}
use Rattle.line_link.specs.Link.{answer_sent, sent_of}
use Rattle.line_report.specs.declared.happening.Happening.{Happening}
use Rattle.line_report.specs.declared.happening.Happening.TheVariants as happenings
use Rattle.node_core.specs.declared.act.Act.{Act}
use Rattle.node_core.specs.declared.act.Act.TheVariants as acts
use Rattle.line_step.specs.Acts.{act_did, acts_did, answers, sent_by}
use Rattle.line_step.specs.World.{WorldParts, end_of, link_at, link_of}
use Rattle.law_one_standing.specs.Told.{IsTold, told_first, told_later}
use Rattle.law_one_standing.proofs.FactsBlame.{Leave, are_mild, is_mild}
use Rattle.line_step.proofs.Remarks.{AreRemarks, IsNoAct, Passes, all_pass, cut_remarks, no_acts}

-- this holds of the machine and the side of a breach that is told
abbrev pub Blames : (ℕ → Side → Type 0) → Happening → Type 0
Blames Holds (happenings.Done machine (acts.Breaches side text)) = Holds machine side
Blames Holds _ = Unit {0}

abbrev pub AllBlames : (ℕ → Side → Type 0) → List Happening → Type 0
AllBlames Holds told = AllByRecursion (λ (h : Happening). Blames Holds h) told

pub both_blame : (Holds : ℕ → Side → Type 0) (a b : List Happening) → AllBlames Holds a → AllBlames Holds b → AllBlames Holds (a ++ b)
both_blame Holds [] b one two = two
both_blame Holds (h ∷ a) b one two = (one.0, both_blame Holds a b one.1 two)

all_told : (P : Happening → Type 0) {h : Happening} {told : List Happening} → IsTold h told → AllByRecursion P told → P h
all_told P told_first all = all.0
all_told P (told_later later) all = all_told P later all.1

pub blame_told : (Holds : ℕ → Side → Type 0) (machine : ℕ) (side : Side) (text : List ℕ) (told : List Happening) → AllBlames Holds told → IsTold (happenings.Done machine (acts.Breaches side text)) told → Holds machine side
blame_told Holds machine side text told all is = all_told (λ (h : Happening). Blames Holds h) is all

-- what no machine does breaches nothing
no_act_blame : (Holds : ℕ → Side → Type 0) (h : Happening) → IsNoAct h → AllBlames Holds (h ∷ [])
no_act_blame Holds (happenings.Done machine act) is = absurd is
no_act_blame Holds _ is = (tt, tt)

pub no_acts_blame : (Holds : ℕ → Side → Type 0) → Passes IsNoAct (AllBlames Holds)
no_acts_blame Holds = record { none = tt; both = both_blame Holds; one = no_act_blame Holds }

pub remarks_blame : (Holds : ℕ → Side → Type 0) (told : List Happening) → AreRemarks told → AllBlames Holds told
remarks_blame Holds told remarks = all_pass told (no_acts_blame Holds) (no_acts told remarks)

-- ---- acts

sent_blame : (Holds : ℕ → Side → Type 0) (second : Bool) (machine : ℕ) (side : Side) (message : Message) (world : WorldParts) → AllBlames Holds (sent_by second machine side message world).told
sent_blame Holds true machine side message world = (tt, remarks_blame Holds _ (cut_remarks machine (answer_sent (canonical message) (link_at machine world))))
sent_blame Holds false machine side message world = (tt, remarks_blame Holds _ (cut_remarks (link_of machine side) (sent_of (end_of side) (canonical message) (link_at (link_of machine side) world))))

act_blame : (Holds : ℕ → Side → Type 0) (may : Leave) (second : Bool) (machine : ℕ) (act : Act) (world : WorldParts) → ((side : Side) → may.blames side ≡ true → Holds machine side) → is_mild may act ≡ true → AllBlames Holds (act_did second machine act world).told
act_blame Holds may second machine (acts.Sends side message) world each mild = sent_blame Holds (answers second side message) machine side message world
act_blame Holds may second machine (acts.Breaches side text) world each mild = (each side mild, tt)
act_blame Holds may second machine (acts.Drive side on) world each mild = tt
act_blame Holds may second machine act world each mild = (tt, tt)

pub acts_blame : (Holds : ℕ → Side → Type 0) (may : Leave) (second : Bool) (machine : ℕ) (told : List Act) (world : WorldParts) → ((side : Side) → may.blames side ≡ true → Holds machine side) → are_mild may told ≡ true → AllBlames Holds (acts_did second machine told world).told
acts_blame Holds may second machine [] world each mild = tt
acts_blame Holds may second machine (act ∷ others) world each mild =
    both_blame Holds (act_did second machine act world).told (acts_did second machine others (act_did second machine act world).world).told (act_blame Holds may second machine act world each (and_parts (is_mild may act) (are_mild may others) mild).0)
    (acts_blame Holds may second machine others (act_did second machine act world).world each (and_parts (is_mild may act) (are_mild may others) mild).1)
