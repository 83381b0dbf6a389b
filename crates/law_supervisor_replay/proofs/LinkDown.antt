-- What flows down on a link goes on free of offers of a board through the acts of a machine that
-- sends none.
use Rattle.std.proofs.Common.{Bool, List, [], ap, false, subst, sym, true, ℕ, ◌++◌, ◌∙◌, ◌∷◌, ◌≡◌}
use Rattle.std.specs.List.{list_any}
use Rattle.std.proofs.lemmas.Bool.{eqb-false, or_parts}
use Rattle.line_base.specs.declared.states.Role.TheVariants.{Downstream}
use Rattle.line_base.specs.declared.states.Side.TheVariants.{Entry, Exit}
use Rattle.hermes_horizontal.specs.declared.message.Horizontal.{Horizontal}
use Rattle.hermes_horizontal.specs.declared.message.Horizontal.TheVariants as messages
use Rattle.hermes_horizontal.specs.declared.message.Message.{Message}
use Rattle.node_core.specs.declared.act.Act.{Act}
use Rattle.node_core.specs.declared.act.Act.TheVariants as acts
use Rattle.law_link_messages.specs.Fit.{AreFitActs}
use Rattle.law_link_messages.specs.Heard.{bodies}
use Rattle.law_custody.specs.Contents.{OpenAll, open_back, open_end, open_new, open_none, open_passed, open_service}
use Rattle.law_custody.specs.Words.{DownWord, before_down, down_words}
use Rattle.law_custody.proofs.Lists.{down_words-append}
use Rattle.line_step.specs.Acts.{acts_did}
use Rattle.line_step.specs.World.{WorldParts, link_at}
use Rattle.law_history.proofs.LinkFlow.{AllSaySo, SaysSo, acts_flow}
use Rattle.law_one_standing.specs.Links.{IsWholeLink}
use Rattle.law_one_standing.proofs.Carrying.{SaysAlone, bodies_append}
use Rattle.law_supervisor_replay.proofs.Free.{AreFree, DownOn, IsOther, is_offer_of, offers_it}

-- ---- words behind others are as open as they are alone

open_behind : {id : ℕ} {passes : Bool} {words : List DownWord} (more : List DownWord)
    → ((b : Bool) → OpenAll (IsOther id) b more) → OpenAll (IsOther id) passes words
    → OpenAll (IsOther id) passes (words ++ more)
open_behind {passes = passes} more all open_none = all passes
open_behind more all (open_new other h) = open_new other (open_behind more all h)
open_behind more all (open_passed h) = open_passed (open_behind more all h)
open_behind more all (open_back h) = open_back (open_behind more all h)
open_behind more all (open_end h) = open_end (open_behind more all h)
open_behind more all (open_service h) = open_service (open_behind more all h)

open_alone : {id : ℕ} (m : Horizontal) → is_offer_of id m ≡ false → (b : Bool)
    → OpenAll (IsOther id) b (before_down m [])
open_alone {id = id} (messages.BoardAvailable board) other true = open_passed open_none
open_alone {id = id} (messages.BoardAvailable board) other false =
    open_new (eqb-false board.id id other) open_none
open_alone messages.RevokeBoardAvailable other b = open_back open_none
open_alone (messages.TransportFinished state id) other b = open_end open_none
open_alone (messages.ServiceDescription service) other b = open_service open_none
open_alone _ other b = open_none

open_more : {id : ℕ} {passes : Bool} (said : List Message) (message : Message)
    → is_offer_of id message.body ≡ false → OpenAll (IsOther id) passes (down_words (bodies said))
    → OpenAll (IsOther id) passes (down_words (bodies (said ++ message ∷ [])))
open_more {id = id} {passes = passes} said message other h =
    subst (λ (ws : List DownWord). OpenAll (IsOther id) passes ws)
    (sym (ap (λ (hs : List Horizontal). down_words hs)
    (bodies_append said message) ∙ down_words-append (bodies said) (message.body ∷ [])))
    (open_behind (before_down message.body []) (open_alone message.body other) h)

-- ---- the acts of a machine, of which the one above the link sends no offer of the board

says_so : (id : ℕ) (passes : Bool) (k machine : ℕ) (act : Act)
    → (k ≡ machine → offers_it id act ≡ false)
    → SaysSo Downstream (AreFree id passes) k machine act
says_so id passes k machine (acts.Sends Exit message) other = λ is said free. open_more said message (other is) free
says_so id passes k machine (acts.Sends Entry message) other = tt
says_so id passes k machine _ other = tt

all_say_so : (id : ℕ) (passes : Bool) (k machine : ℕ) (told : List Act)
    → (k ≡ machine → list_any (offers_it id) told ≡ false)
    → AllSaySo Downstream (AreFree id passes) k machine told
all_say_so id passes k machine [] other = tt
all_say_so id passes k machine (act ∷ told) other = (
  says_so id passes k machine act
      (λ is. (or_parts (offers_it id act) (list_any (offers_it id) told) (other is)).0),
  all_say_so id passes k machine told
      (λ is. (or_parts (offers_it id act) (list_any (offers_it id) told) (other is)).1),
)

-- where it answers a second connection, nothing waits at the entry below
pub acts_down : {id : ℕ} {passes : Bool} {waiting : List ℕ} → SaysAlone
    → (k : ℕ) (second : Bool) (machine : ℕ) (told : List Act) (world : WorldParts)
    → AreFitActs told → (k ≡ machine → list_any (offers_it id) told ≡ false)
    → (second ≡ true → k ≡ machine → waiting ≡ [])
    → ((link : ℕ) → IsWholeLink (link_at link world))
    → DownOn id passes waiting (link_at k world)
    → DownOn id passes waiting (link_at k (acts_did second machine told world).world)
acts_down {id} {passes} alone k second machine told world fit other empty whole was =
    acts_flow alone Downstream k second machine told world fit (all_say_so id passes k machine told other)
    (λ again is. (empty again is, open_none)) whole was
