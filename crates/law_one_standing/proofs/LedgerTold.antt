-- Which deeds are in what is told: those of a machine's acts, and no others.
use Rattle.std.proofs.Common.{Bool, List, [], ap, append-nil, append_assoc, false, refl, sym, true, ℕ, ◌&&◌, ◌++◌, ◌+◌, ◌∙◌, ◌∷◌, ◌≡◌}
use Rattle.line_base.specs.declared.states.Side.{Side}
use Rattle.hermes_horizontal.specs.Canonical.{canonical}
use Rattle.hermes_horizontal.specs.declared.message.Message.{Message}
use Rattle.line_link.specs.Link.{answer_sent, sent_of}
use Rattle.node_core.specs.declared.act.Act.{Act}
use Rattle.node_core.specs.declared.act.Act.TheVariants as acts
use Rattle.line_report.specs.declared.happening.Happening.{Happening}
use Rattle.line_report.specs.declared.happening.Happening.TheVariants as happenings
use Rattle.standings.specs.declared.deed.Deed.{Deed}
use Rattle.line_step.specs.Acts.{act_did, acts_did, is_answer, is_exit, sent_by}
use Rattle.line_step.specs.World.{WorldParts, end_of, link_at, link_of}
use Rattle.law_one_standing.specs.Replay.{deeds_at, deeds_at_side, deeds_in, deeds_of}
use Rattle.law_one_standing.proofs.LedgerSteps.{deeds_by}
use Rattle.line_step.proofs.Remarks.{AreRemarks, IsNoAct, Passes, all_pass, cut_remarks, no_acts}

pub deeds_join : (a b : List Happening) → deeds_of (a ++ b) ≡ deeds_of a ++ deeds_of b
deeds_join [] b = refl
deeds_join (happening ∷ a) b = ap (λ (ds : List Deed). deeds_in happening ++ ds) (deeds_join a b) ∙ sym (append_assoc (deeds_in happening) (deeds_of a) (deeds_of b))

-- nothing and nothing
pub none_both : (a b : List Happening) → deeds_of a ≡ [] → deeds_of b ≡ [] → deeds_of (a ++ b) ≡ []
none_both a b one two = deeds_join a b ∙ rw (one, two) refl

no_act_deeds : (h : Happening) → IsNoAct h → deeds_of (h ∷ []) ≡ []
no_act_deeds (happenings.Done machine act) is = absurd is
no_act_deeds _ is = refl

pub no_acts_deeds : Passes IsNoAct (λ (told : List Happening). deeds_of told ≡ [])
no_acts_deeds = record { none = refl; both = none_both; one = no_act_deeds }

pub remarks_none : (told : List Happening) → AreRemarks told → deeds_of told ≡ []
remarks_none told remarks = all_pass told no_acts_deeds (no_acts told remarks)

-- ---- acts

sent_none : (second : Bool) (machine : ℕ) (side : Side) (message : Message) (world : WorldParts) → deeds_of (sent_by second machine side message world).told ≡ []
sent_none true machine side message world = remarks_none _ (cut_remarks machine (answer_sent (canonical message) (link_at machine world)))
sent_none false machine side message world = remarks_none _ (cut_remarks (link_of machine side) (sent_of (end_of side) (canonical message) (link_at (link_of machine side) world)))

act_deeds : (second : Bool) (machine : ℕ) (act : Act) (world : WorldParts) → deeds_of (act_did second machine act world).told ≡ deeds_at machine act
act_deeds second machine (acts.Sends side message) world = sent_none (second && (is_exit side && is_answer message.body)) machine side message world
act_deeds second machine (acts.Deed deed) world = append-nil (deeds_at_side machine deed)
act_deeds second machine act world = refl

pub acts_deeds : (second : Bool) (machine : ℕ) (told : List Act) (world : WorldParts) → deeds_of (acts_did second machine told world).told ≡ deeds_by machine told
acts_deeds second machine [] world = refl
acts_deeds second machine (act ∷ others) world =
    deeds_join (act_did second machine act world).told (acts_did second machine others (act_did second machine act world).world).told
    ∙ rw (act_deeds second machine act world, acts_deeds second machine others (act_did second machine act world).world) refl
