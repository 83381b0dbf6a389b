-- No offer of a board is still to be taken up on a link: neither has the entry heard one, nor is one on its way that it
-- won't pass over.
use Rattle.std.proofs.Common.{Bool, List, [], false, true, ℕ, ◌+◌, ◌==◌, ◌≡◌, ◌≢◌}
use Rattle.line_base.specs.declared.states.Role.TheVariants.{Downstream}
use Rattle.line_base.specs.declared.states.Side.TheVariants.{Entry, Exit}
use Rattle.board_record.specs.declared.record.Record.{Record}
use Rattle.hermes_horizontal.specs.declared.message.Horizontal.{Horizontal}
use Rattle.hermes_horizontal.specs.declared.message.Horizontal.TheVariants as messages
use Rattle.hermes_horizontal.specs.declared.message.Message.{Message}
use Rattle.handover_in.specs.State.{passes_offers_over}
use Rattle.node_core.specs.Event.{Event, Words}
use Rattle.node_core.specs.Sides.{is_open}
use Rattle.node_core.specs.declared.act.Act.{Act}
use Rattle.node_core.specs.declared.act.Act.TheVariants as acts
use Rattle.node_core.specs.declared.act.Deed.TheVariants as deeds
use Rattle.node_core.specs.declared.word.Word.{Word}
use Rattle.line_link.specs.Link.{LinkParts}
use Rattle.law_custody.specs.Contents.{OfferIs, OpenAll}
use Rattle.law_custody.specs.Words.{down_words}
use Rattle.law_link_messages.specs.Heard.{bodies}
use Rattle.line_step.specs.Numbered.{node_at}
use Rattle.line_step.specs.State.{LineState}
use Rattle.line_step.specs.World.{link_at}
use Rattle.law_history.proofs.LinkFlow.{Flow, FlowOn}

-- a record of another board
abbrev pub IsOther : ℕ → Record → Type 0
IsOther id board = board.id ≢ id

-- ---- acts

abbrev pub is_offer_of : ℕ → Horizontal → Bool
is_offer_of id (messages.BoardAvailable board) = board.id == id
is_offer_of id _ = false

abbrev pub offers_it : ℕ → Act → Bool
offers_it id (acts.Sends Exit message) = is_offer_of id message.body
offers_it id _ = false

abbrev pub starts_it : ℕ → Act → Bool
starts_it id (acts.Deed (deeds.Starts other)) = other == id
starts_it id _ = false

-- the words that an event brings to the entry
abbrev pub entry_words : Event → List Word
entry_words (Words Entry words) = words
entry_words _ = []

-- ---- a link

-- what flows down is whole, and has no offer of the board that will be taken up; or it is spoiled; or nothing comes any
-- more. `passes`: offers are passed over until an end of a transfer is heard
abbrev pub AreFree : ℕ → Bool → List Message → Type 0
AreFree id passes said = OpenAll (IsOther id) passes (down_words (bodies said))

abbrev pub Down : ℕ → Bool → Bool → List ℕ → List ℕ → Type 0
Down id passes stands waiting bytes = Flow (AreFree id passes) stands waiting bytes

abbrev pub DownOn : ℕ → Bool → List ℕ → LinkParts → Type 0
DownOn id passes waiting link = FlowOn Downstream (AreFree id passes) waiting link

-- the link between machines k and k + 1 of a line
pub record IsFree (id k : ℕ) (s : LineState) : Type 0 where
  pub offer : OfferIs (IsOther id) (node_at s (k + 1)).lane.body.intake.offer
  pub down : is_open Entry (node_at s (k + 1)).lane.body ≡ true
      → DownOn id (passes_offers_over (node_at s (k + 1)).lane.body.intake.phase)
      (node_at s (k + 1)).lane.entry_bytes (link_at k s.world)
