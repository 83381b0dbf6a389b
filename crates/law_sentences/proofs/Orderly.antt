-- A list of acts in which each start that is heard is answered at once: by the opening where board and place are announced
-- by then, and by a refusal where they are not.
use Rattle.std.proofs.Common.{◌≡◌, ◌∙◌, ◌++◌, ◌==◌, ◌&&◌, ℕ, Bool, true, false, List, [], ◌∷◌, Option, Some, None, refl, not, sym, subst, if◌then◌else◌}
use Rattle.std.specs.Prelude.{get_or}
use Rattle.std.proofs.lemmas.Bool.{and_parts, and_from}
use Rattle.line_base.specs.declared.states.Side.TheVariants.{Exit}
use Rattle.hermes_horizontal.specs.declared.message.Message.{Message}
use Rattle.hermes_horizontal.specs.declared.message.Horizontal.{Horizontal}
use Rattle.hermes_horizontal.specs.declared.message.Horizontal.TheVariants as bodies
use Rattle.node_core.specs.declared.act.Act.{Act}
use Rattle.node_core.specs.declared.act.Act.TheVariants as acts
use Rattle.node_core.specs.declared.act.Deed.TheVariants as deeds
use Rattle.node_core.specs.declared.supervising.Watch.{Watch}
use Rattle.node_core.specs.Desk.{Desk}
use Rattle.node_core.specs.Supervising.{watch_after, with_tells}
use Rattle.node_core.proofs.Telling.{beside, just_behind}
use Rattle.law_sentences.proofs.Folds.{offered_act, offered_from, offered_append, ready_act, ready_from, ready_append}

abbrev pub is_start : Horizontal → Bool
is_start (bodies.StartTransport id) = true
is_start _ = false

-- the text of a breach at a start, told from all others by three of its characters
abbrev pub is_start_text : List ℕ → Bool
is_start_text text = (get_or text 3 0 == 120) && (get_or text 12 0 == 116) && (get_or text 13 0 == 97)

-- an act that neither asks for an opening nor opens, and breaks nothing off at the exit
abbrev pub is_plain : Act → Bool
is_plain (acts.Hears Exit message) = not (is_start message.body)
is_plain (acts.Breaches Exit text) = false
is_plain (acts.Deed (deeds.Opens id)) = false
is_plain _ = true

abbrev pub are_plain : List Act → Bool
are_plain [] = true
are_plain (act ∷ told) = is_plain act && are_plain told

pub data Orderly : Option ℕ → Bool → List Act → Type 0 where
  ends : {o : Option ℕ} {r : Bool} → Orderly o r []
  goes_on : {o : Option ℕ} {r : Bool} {act : Act} {told : List Act} → is_plain act ≡ true → Orderly (offered_act o act) (ready_act r act) told → Orderly o r (act ∷ told)
  is_opened : {id : ℕ} {message : Message} {told : List Act} → message.body ≡ bodies.StartTransport id → Orderly None false told → Orderly (Some id) true (acts.Hears Exit message ∷ acts.Deed (deeds.Opens id) ∷ told)
  is_refused : {o : Option ℕ} {id : ℕ} {message : Message} {told : List Act} → message.body ≡ bodies.StartTransport id → (o ≡ Some id → ⊥) → Orderly None false told → Orderly o true (acts.Hears Exit message ∷ acts.Deed (deeds.Refuses id) ∷ told)
  -- a start that has no row comes only while no place is announced
  is_broken : {o : Option ℕ} {r : Bool} {text : List ℕ} {told : List Act} → (is_start_text text ≡ true → r ≡ false) → Orderly o r told → Orderly o r (acts.Breaches Exit text ∷ told)

pub orderly_both : {o : Option ℕ} {r : Bool} {a : List Act} (b : List Act) → Orderly o r a → Orderly (offered_from o a) (ready_from r a) b → Orderly o r (a ++ b)
orderly_both b ends later = later
orderly_both b (goes_on plain more) later = goes_on plain (orderly_both b more later)
orderly_both b (is_opened start more) later = is_opened start (orderly_both b more later)
orderly_both b (is_refused start apart more) later = is_refused start apart (orderly_both b more later)
orderly_both b (is_broken place more) later = is_broken place (orderly_both b more later)

pub plain_orderly : (o : Option ℕ) (r : Bool) (told : List Act) → are_plain told ≡ true → Orderly o r told
plain_orderly o r [] plain = ends
plain_orderly o r (act ∷ told) plain = let both = and_parts (is_plain act) (are_plain told) plain in goes_on both.0 (plain_orderly (offered_act o act) (ready_act r act) told both.1)

pub plain_append : (a b : List Act) → are_plain a ≡ true → are_plain b ≡ true → are_plain (a ++ b) ≡ true
plain_append [] b one two = two
plain_append (x ∷ xs) b one two = let both = and_parts (is_plain x) (are_plain xs) one in and_from (is_plain x) (are_plain (xs ++ b)) both.0 (plain_append xs b both.1 two)

-- ---- what the supervisor is told says nothing of the exit

pub tells_offered : (desk : Desk) (watch : Watch) (made : List Act) (o : Option ℕ) → offered_from o (with_tells desk watch made) ≡ offered_from o made
tells_offered desk watch made =
    beside (λ told plain. (o : Option ℕ) → offered_from o told ≡ offered_from o plain) (λ o. refl)
    (λ act told plain h o. h (offered_act o act)) (λ message told plain h o. h o) desk watch made

pub tells_ready : (desk : Desk) (watch : Watch) (made : List Act) (r : Bool) → ready_from r (with_tells desk watch made) ≡ ready_from r made
tells_ready desk watch made =
    beside (λ told plain. (r : Bool) → ready_from r told ≡ ready_from r plain) (λ r. refl)
    (λ act told plain h r. h (ready_act r act)) (λ message told plain h r. h r) desk watch made

none_told : (test : Bool) → ◌≡◌ {A = List Act} (if test then [] else []) []
none_told true = refl
none_told false = refl

-- no message comes between a start and its answer
answered_at_once : (o : Option ℕ) (r supervised : Bool) (first second : Act) (told : List Act) → Orderly o r (first ∷ second ∷ told)
    → Orderly o r (first ∷ ((if supervised then [] else []) ++ second ∷ ((if supervised then [] else []) ++ told)))
answered_at_once o r supervised first second told h =
    subst (λ (none : List Act). Orderly o r (first ∷ (none ++ second ∷ (none ++ told)))) (sym (none_told supervised)) h

pub tells_orderly : {o : Option ℕ} {r : Bool} {made : List Act} (desk : Desk) (watch : Watch) → Orderly o r made → Orderly o r (with_tells desk watch made)
tells_orderly desk watch ends = ends
tells_orderly {o = o} {r = r} desk watch (goes_on {act = act} {told = others} plain more) =
    goes_on plain (just_behind (λ (told : List Act). Orderly (offered_act o act) (ready_act r act) told) (λ message told h. goes_on refl h) desk watch act _
    (tells_orderly desk (watch_after watch act) more))
tells_orderly desk watch (is_opened {id = id} {message = message} {told = others} start more) =
    answered_at_once (Some id) true watch.supervised (acts.Hears Exit message) (acts.Deed (deeds.Opens id)) (with_tells desk watch others)
    (is_opened start (tells_orderly desk watch more))
tells_orderly {o = o} desk watch (is_refused {id = id} {message = message} {told = others} start apart more) =
    answered_at_once o true watch.supervised (acts.Hears Exit message) (acts.Deed (deeds.Refuses id)) (with_tells desk watch others)
    (is_refused start apart (tells_orderly desk watch more))
tells_orderly {o = o} {r = r} desk watch (is_broken {text = text} {told = others} place more) =
    is_broken place (just_behind (λ (told : List Act). Orderly o r told) (λ message told h. goes_on refl h) desk watch (acts.Breaches Exit text) _
    (tells_orderly desk watch more))

-- ---- acts that say nothing of the exit

pub record AreSilent (told : List Act) : Type 0 where
  pub plain : are_plain told ≡ true
  pub offered : (o : Option ℕ) → offered_from o told ≡ o
  pub ready : (r : Bool) → ready_from r told ≡ r

pub silent_none : AreSilent []
silent_none = record { plain = refl; offered = λ o. refl; ready = λ r. refl }

pub silent_both : (a b : List Act) → AreSilent a → AreSilent b → AreSilent (a ++ b)
silent_both a b one two = record {
  plain = plain_append a b one.plain two.plain;
  offered = λ o. offered_append o a b ∙ two.offered (offered_from o a) ∙ one.offered o;
  ready = λ r. ready_append r a b ∙ two.ready (ready_from r a) ∙ one.ready r;
}
