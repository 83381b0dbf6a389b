-- What the supervisor is told: what doesn't look at it is of the acts of a step what it is without it.
use Rattle.std.proofs.Common.{◌≡◌, ◌∙◌, ◌++◌, Bool, true, false, List, [], ◌∷◌, Option, refl, sym, ap, append_assoc, append-nil, not, if◌then◌else◌}
use Rattle.std.specs.List.{list_all}
use Rattle.std.proofs.lemmas.Bool.{and_parts, not-true}
use Rattle.line_base.specs.declared.states.Seen.{Seen}
use Rattle.line_base.specs.declared.states.Side.TheVariants.{Entry}
use Rattle.hermes_vertical.specs.declared.message.VerticalMessage.{VerticalMessage}
use Rattle.node_core.specs.declared.act.Act.{Act}
use Rattle.node_core.specs.declared.act.Act.TheVariants as acts
use Rattle.node_core.specs.declared.act.Deed.{Deed}
use Rattle.node_core.specs.declared.act.Deed.TheVariants as deeds
use Rattle.node_core.specs.declared.act.Setting.TheVariants as settings
use Rattle.node_core.specs.declared.supervising.Cause.{Cause}
use Rattle.node_core.specs.declared.supervising.Cause.TheVariants as causes
use Rattle.node_core.specs.declared.supervising.Watch.{Watch}
use Rattle.node_core.specs.Desk.{Desk}
use Rattle.node_core.specs.Supervising.{
  cause_of,
  is_unwatched,
  saw_taken,
  stays_unwatched,
  tells_behind,
  tells_cause,
  tells_deed,
  tells_of,
  watch_after,
  watch_behind,
  with_tells,
}

-- ---- a relation of acts with what is told to acts without it

-- what is told goes before
abbrev Tells : (List Act → List Act → Type 0) → Type 0
Tells P = (message : VerticalMessage) (told made : List Act) → P told made → P (acts.Tells message ∷ told) made

by_test : (P : List Act → List Act → Type 0) (test : Bool) (some told made : List Act) → P (some ++ told) made
    → P told made → P ((if test then some else []) ++ told) made
by_test P true some told made with_some without = with_some
by_test P false some told made with_some without = without

behind_deed : (P : List Act → List Act → Type 0) → Tells P → (desk : Desk) (seen : Option Seen) (deed : Deed)
    (told made : List Act) → P told made → P (tells_deed desk seen deed ++ told) made
behind_deed P tells desk seen (deeds.Settles id) told made h = tells _ told made h
behind_deed P tells desk seen (deeds.Leaves id) told made h = tells _ told made h
behind_deed P tells desk seen (deeds.Loses id) told made h = tells _ told made h
behind_deed P tells desk seen (deeds.Drops id) told made h = by_test P (saw_taken seen) _ told made (tells _ told made h) h
behind_deed P tells desk seen _ told made h = h

behind_cause : (P : List Act → List Act → Type 0) → Tells P → (desk : Desk) (seen : Option Seen) (cause : Cause)
    (told made : List Act) → P told made → P (tells_cause desk seen cause ++ told) made
behind_cause P tells desk seen (causes.Inserts id) told made h = tells _ told made h
behind_cause P tells desk seen (causes.Removes id) told made h = tells _ told made h
behind_cause P tells desk seen (causes.Replaces old new) told made h = tells _ _ made (tells _ told made h)
behind_cause P tells desk seen (causes.Deed deed) told made h = behind_deed P tells desk seen deed told made h
behind_cause P tells desk seen causes.None told made h = h

-- THE PRINCIPLE: a relation that holds of no acts, beside each act, and beside each message to the supervisor, holds of
-- the acts with what is told and without it
pub beside : (P : List Act → List Act → Type 0) → P [] []
    → ((act : Act) (told made : List Act) → P told made → P (act ∷ told) (act ∷ made))
    → ((message : VerticalMessage) (told made : List Act) → P told made → P (acts.Tells message ∷ told) made)
    → (desk : Desk) (watch : Watch) (made : List Act) → P (with_tells desk watch made) made
beside P none both tells desk watch [] = none
beside P none both tells desk watch (act ∷ others) =
    let rest = with_tells desk (watch_after watch act) others in
    let h : P rest others = beside P none both tells desk (watch_after watch act) others in
    by_test (λ told made. P (act ∷ told) (act ∷ made)) watch.supervised (tells_of desk watch.seen act) rest others
    (both act _ others (behind_cause P tells desk watch.seen (cause_of act) rest others h)) (both act rest others h)

-- what looks at no message to the supervisor
pub tells_pass : {X : Type 0} (f : List Act → X)
    → ((act : Act) (told made : List Act) → f told ≡ f made → f (act ∷ told) ≡ f (act ∷ made))
    → ((message : VerticalMessage) (told : List Act) → f (acts.Tells message ∷ told) ≡ f told)
    → (desk : Desk) (watch : Watch) (made : List Act) → f (with_tells desk watch made) ≡ f made
tells_pass f both tells desk watch made =
    beside (λ told plain. f told ≡ f plain) refl both (λ message told plain h. tells message told ∙ h) desk watch made

-- what holds of acts where it holds of each holds with what is told, if it holds of each message
pub tells_all : (P : List Act → Type 0) → ((act : Act) (others : List Act) → P (act ∷ others) → P others)
    → ((act : Act) (told others : List Act) → P (act ∷ others) → P told → P (act ∷ told))
    → ((message : VerticalMessage) (told : List Act) → P told → P (acts.Tells message ∷ told))
    → P [] → (desk : Desk) (watch : Watch) (made : List Act) → P made → P (with_tells desk watch made)
tells_all P behind both tells none desk watch made all =
    beside (λ told plain. P plain → P told) (λ h. h)
    (λ act told plain h is. both act told plain is (h (behind act plain is)))
    (λ message told plain h is. tells message told (h is)) desk watch made all

-- what is told just behind an act goes before too
behind_one : (P : List Act → Type 0) → ((message : VerticalMessage) (told : List Act) → P told → P (acts.Tells message ∷ told))
    → (desk : Desk) (seen : Option Seen) (act : Act) (told : List Act) → P told → P (tells_of desk seen act ++ told)
behind_one P tells desk seen (acts.Inserts id) told h = tells _ told h
behind_one P tells desk seen (acts.Removes id) told h = tells _ told h
behind_one P tells desk seen (acts.Replaces old new) told h = tells _ _ (tells _ told h)
behind_one P tells desk seen (acts.Deed deed) told h = behind_deed (λ some made. P some) (λ message some made k. tells message some k) desk seen deed told [] h
behind_one P tells desk seen _ told h = h

pub just_behind : (P : List Act → Type 0) → ((message : VerticalMessage) (told : List Act) → P told → P (acts.Tells message ∷ told))
    → (desk : Desk) (watch : Watch) (act : Act) (told : List Act) → P told → P (tells_behind desk watch act ++ told)
just_behind P tells desk watch act told h =
    by_test (λ some made. P some) watch.supervised (tells_of desk watch.seen act) told [] (behind_one P tells desk watch.seen act told h) h

-- ---- acts one by one

-- an act more at the back
pub tells_one_more : (desk : Desk) (watch : Watch) (first : List Act) (act : Act)
    → with_tells desk watch (first ++ act ∷ [])
    ≡ with_tells desk watch first ++ act ∷ tells_behind desk (watch_behind watch first) act
tells_one_more desk watch [] act = ap (λ (xs : List Act). act ∷ xs) (append-nil (tells_behind desk watch act))
tells_one_more desk watch (one ∷ others) act =
    let next = watch_after watch one in
    ap (λ (xs : List Act). one ∷ (tells_behind desk watch one ++ xs)) (tells_one_more desk next others act)
    ∙ ap (λ (xs : List Act). one ∷ xs)
    (sym (append_assoc (tells_behind desk watch one) (with_tells desk next others)
    (act ∷ tells_behind desk (watch_behind next others) act)))

pub watch_one_more : (watch : Watch) (first : List Act) (act : Act)
    → watch_behind watch (first ++ act ∷ []) ≡ watch_after (watch_behind watch first) act
watch_one_more watch [] act = refl
watch_one_more watch (one ∷ others) act = watch_one_more (watch_after watch one) others act

-- the loop that takes an act more
pub tells_next : (desk : Desk) (start watch : Watch) (first : List Act) (act : Act) (told now : List Act)
    → told ≡ with_tells desk start first → watch ≡ watch_behind start first
    → now ≡ told ++ act ∷ tells_behind desk watch act → now ≡ with_tells desk start (first ++ act ∷ [])
tells_next desk start watch first act told now told_is watch_is now_is =
    now_is
    ∙ ap (λ (xs : List Act). xs ++ act ∷ tells_behind desk watch act) told_is
    ∙ ap (λ (w : Watch). with_tells desk start first ++ act ∷ tells_behind desk w act) watch_is
    ∙ sym (tells_one_more desk start first act)

pub watch_next : (start watch now : Watch) (first : List Act) (act : Act) → watch ≡ watch_behind start first
    → now ≡ watch_after watch act → now ≡ watch_behind start (first ++ act ∷ [])
watch_next start watch now first act watch_is now_is =
    now_is ∙ ap (λ (w : Watch). watch_after w act) watch_is ∙ sym (watch_one_more start first act)

pub left_next : (first rest later all : List Act) (act : Act) → first ++ rest ≡ all → rest ≡ act ∷ later
    → (first ++ act ∷ []) ++ later ≡ all
left_next first rest later all act all_is rest_is =
    append_assoc first (act ∷ []) later ∙ ap (λ (xs : List Act). first ++ xs) (sym rest_is) ∙ all_is

-- ---- a machine that is not supervised

stays_off : (watch : Watch) (act : Act) → stays_unwatched act ≡ true → watch.supervised ≡ false
    → (watch_after watch act).supervised ≡ false
stays_off watch (acts.Reads Entry event) is off = off
stays_off watch (acts.Deed (deeds.Starts id)) is off = off
stays_off watch (acts.Deed (deeds.Settles id)) is off = off
stays_off watch (acts.Deed (deeds.Drops id)) is off = off
stays_off watch (acts.Sets (settings.Supervise on)) is off = cc
stays_off watch _ is off = off

-- tells nothing
pub unwatched_tells : (desk : Desk) (watch : Watch) (made : List Act) → watch.supervised ≡ false
    → list_all stays_unwatched made ≡ true → with_tells desk watch made ≡ made
unwatched_tells desk watch [] off all = refl
unwatched_tells desk watch (act ∷ others) off all =
    let parts = and_parts (stays_unwatched act) (list_all stays_unwatched others) all in
    let next = watch_after watch act in
    ap (λ (test : Bool). act ∷ ((if test then tells_of desk watch.seen act else []) ++ with_tells desk next others)) off
    ∙ ap (λ (xs : List Act). act ∷ xs) (unwatched_tells desk next others (stays_off watch act parts.0 off) parts.1)

pub quiet_tells : (desk : Desk) (watch : Watch) (made : List Act) → watch.supervised ≡ desk.supervised
    → is_unwatched desk.supervised made ≡ true → with_tells desk watch made ≡ made
quiet_tells desk watch made same is =
    let parts = and_parts (not desk.supervised) (list_all stays_unwatched made) is in
    unwatched_tells desk watch made (same ∙ not-true desk.supervised parts.0) parts.1
