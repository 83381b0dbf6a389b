-- What is told of a line, where each start that machine k hears is answered at once: and the law read off it.
use Rattle.std.proofs.Common.{◌≡◌, inl, inr, ◌∙◌, ◌++◌, ◌==◌, ℕ, Bool, true, false, List, [], ◌∷◌, Option, Some, None, refl, sym, ap, subst}
use Rattle.std.specs.Prelude.{◌↔◌, cond}
use Rattle.std.proofs.lemmas.Bool.Decides.{eqb_tells}
use Rattle.std.proofs.lemmas.Bool.{false≢true}
use Rattle.line_base.specs.declared.states.Side.TheVariants.{Exit}
use Rattle.hermes_horizontal.specs.declared.kind.Kind.TheVariants as kinds
use Rattle.hermes_horizontal.specs.declared.message.Message.{Message}
use Rattle.hermes_horizontal.specs.declared.message.Horizontal.TheVariants as bodies
use Rattle.session_core.specs.Breach.{unexpected}
use Rattle.node_core.specs.declared.act.Act.{Act}
use Rattle.node_core.specs.declared.act.Act.TheVariants as acts
use Rattle.node_core.specs.declared.act.Deed.{Deed}
use Rattle.node_core.specs.declared.act.Deed.TheVariants as deeds
use Rattle.line_report.specs.declared.happening.Happening.{Happening}
use Rattle.line_report.specs.declared.happening.Happening.TheVariants as happenings
use Rattle.law_sentences.specs.Announced.{IsAsked, OpensAsAnnounced, exit_act, exit_acts, first_of, hears, is_on_exit, opens, breaks_at_start}
use Rattle.law_sentences.proofs.Folds.{offered_act, offered_append, offered_from, offered_is, ready_act, ready_append, ready_from, ready_is}
use Rattle.law_sentences.proofs.Orderly.{are_plain, is_start_text}

abbrev pub refuses : ℕ → ℕ → Happening
refuses k id = happenings.Done k (acts.Deed (deeds.Refuses id))

pub data Told (k : ℕ) : Option ℕ → Bool → List Happening → Type 0 where
  all_told : {o : Option ℕ} {r : Bool} → Told k o r []
  told_on : {o : Option ℕ} {r : Bool} {happening : Happening} {told : List Happening} → are_plain (exit_act k happening) ≡ true → Told k (offered_from o (exit_act k happening)) (ready_from r (exit_act k happening)) told → Told k o r (happening ∷ told)
  told_opened : {id : ℕ} {message : Message} {told : List Happening} → message.body ≡ bodies.StartTransport id → Told k None false told → Told k (Some id) true (hears k message ∷ opens k id ∷ told)
  told_refused : {o : Option ℕ} {id : ℕ} {message : Message} {told : List Happening} → message.body ≡ bodies.StartTransport id → (o ≡ Some id → ⊥) → Told k None false told → Told k o true (hears k message ∷ refuses k id ∷ told)
  told_broken : {o : Option ℕ} {r : Bool} {text : List ℕ} {told : List Happening} → (is_start_text text ≡ true → r ≡ false) → Told k o r told → Told k o r (happenings.Done k (acts.Breaches Exit text) ∷ told)

-- ---- the acts of machine k

same_number : (k : ℕ) → (k == k) ≡ true
same_number k = elim (eqb_tells k k) [ inl same ↦ same.0 | inr apart ↦ absurd (apart.1 refl) ]

pub own_act : (k : ℕ) (act : Act) → exit_act k (happenings.Done k act) ≡ cond (is_on_exit act) (act ∷ []) []
own_act k act = rw (same_number k) refl

-- hearings and openings among them
plain_not : (k : ℕ) (message : Message) (id : ℕ) → message.body ≡ bodies.StartTransport id → are_plain (exit_act k (hears k message)) ≡ true → ⊥
plain_not k message id start plain = (
    let one : are_plain (acts.Hears Exit message ∷ []) ≡ true = ap are_plain (sym (own_act k (acts.Hears Exit message))) ∙ plain in
    let none : are_plain (acts.Hears Exit message ∷ []) ≡ false = rw start refl in
    false≢true (sym none ∙ one))

plain_opens_not : (k id : ℕ) → are_plain (exit_act k (opens k id)) ≡ true → ⊥
plain_opens_not k id plain = false≢true (ap are_plain (sym (own_act k (acts.Deed (deeds.Opens id)))) ∙ plain)

-- both acts of an answered start together leave nothing announced
answered_offer : (k : ℕ) (o : Option ℕ) (message : Message) (deed : Deed) → is_on_exit (acts.Deed deed) ≡ true → ((x : Option ℕ) → offered_act x (acts.Deed deed) ≡ None) → (told : List Happening)
    → offered_from o (exit_acts k (hears k message ∷ happenings.Done k (acts.Deed deed) ∷ told)) ≡ offered_from None (exit_acts k told)
answered_offer k o message deed at none told =
    let two : exit_act k (happenings.Done k (acts.Deed deed)) ≡ acts.Deed deed ∷ [] = own_act k (acts.Deed deed) ∙ ap (λ (b : Bool). cond b (acts.Deed deed ∷ []) []) at in
    let all : exit_acts k (hears k message ∷ happenings.Done k (acts.Deed deed) ∷ told) ≡ acts.Hears Exit message ∷ acts.Deed deed ∷ exit_acts k told =
    ap (λ (a : List Act). a ++ (exit_act k (happenings.Done k (acts.Deed deed)) ++ exit_acts k told)) (own_act k (acts.Hears Exit message)) ∙ ap (λ (a : List Act). acts.Hears Exit message ∷ (a ++ exit_acts k told)) two in
    ap (λ (a : List Act). offered_from o a) all ∙ ap (λ (x : Option ℕ). offered_from x (exit_acts k told)) (none (offered_act o (acts.Hears Exit message)))

answered_ready : (k : ℕ) (r : Bool) (message : Message) (deed : Deed) → is_on_exit (acts.Deed deed) ≡ true → ((x : Bool) → ready_act x (acts.Deed deed) ≡ false) → (told : List Happening)
    → ready_from r (exit_acts k (hears k message ∷ happenings.Done k (acts.Deed deed) ∷ told)) ≡ ready_from false (exit_acts k told)
answered_ready k r message deed at none told =
    let two : exit_act k (happenings.Done k (acts.Deed deed)) ≡ acts.Deed deed ∷ [] = own_act k (acts.Deed deed) ∙ ap (λ (b : Bool). cond b (acts.Deed deed ∷ []) []) at in
    let all : exit_acts k (hears k message ∷ happenings.Done k (acts.Deed deed) ∷ told) ≡ acts.Hears Exit message ∷ acts.Deed deed ∷ exit_acts k told =
    ap (λ (a : List Act). a ++ (exit_act k (happenings.Done k (acts.Deed deed)) ++ exit_acts k told)) (own_act k (acts.Hears Exit message)) ∙ ap (λ (a : List Act). acts.Hears Exit message ∷ (a ++ exit_acts k told)) two in
    ap (λ (a : List Act). ready_from r a) all ∙ ap (λ (x : Bool). ready_from x (exit_acts k told)) (none (ready_act r (acts.Hears Exit message)))

-- a breach says nothing of either
broken_acts : (k : ℕ) (text : List ℕ) (told : List Happening) → exit_acts k (happenings.Done k (acts.Breaches Exit text) ∷ told) ≡ acts.Breaches Exit text ∷ exit_acts k told
broken_acts k text told = ap (λ (a : List Act). a ++ exit_acts k told) (own_act k (acts.Breaches Exit text))

plain_breach_not : (k : ℕ) (text : List ℕ) → are_plain (exit_act k (happenings.Done k (acts.Breaches Exit text))) ≡ true → ⊥
plain_breach_not k text plain = false≢true (ap are_plain (sym (own_act k (acts.Breaches Exit text))) ∙ plain)

-- ---- one behind the other

pub told_both : {k : ℕ} {o : Option ℕ} {r : Bool} {a : List Happening} (b : List Happening) → Told k o r a → Told k (offered_from o (exit_acts k a)) (ready_from r (exit_acts k a)) b → Told k o r (a ++ b)
told_both b all_told later = later
told_both {k = k} {o = o} {r = r} b (told_on {happening = h} {told = told} plain more) later =
    told_on plain (told_both b more (subst (λ (x : Option ℕ). Told k x (ready_from (ready_from r (exit_act k h)) (exit_acts k told)) b) (offered_append o (exit_act k h) (exit_acts k told))
    (subst (λ (x : Bool). Told k (offered_from o (exit_act k h ++ exit_acts k told)) x b) (ready_append r (exit_act k h) (exit_acts k told)) later)))
told_both {k = k} {o = o} {r = r} b (told_opened {id = id} {message = m} {told = told} start more) later =
    told_opened start (told_both b more (subst (λ (x : Option ℕ). Told k x (ready_from false (exit_acts k told)) b) (answered_offer k o m (deeds.Opens id) refl (λ x. refl) told)
    (subst (λ (x : Bool). Told k (offered_from o (exit_acts k (hears k m ∷ opens k id ∷ told))) x b) (answered_ready k r m (deeds.Opens id) refl (λ x. refl) told) later)))
told_both {k = k} {o = o} b (told_refused {id = id} {message = m} {told = told} start apart more) later =
    told_refused start apart (told_both b more (subst (λ (x : Option ℕ). Told k x (ready_from false (exit_acts k told)) b) (answered_offer k o m (deeds.Refuses id) refl (λ x. refl) told)
    (subst (λ (x : Bool). Told k (offered_from o (exit_acts k (hears k m ∷ refuses k id ∷ told))) x b) (answered_ready k true m (deeds.Refuses id) refl (λ x. refl) told) later)))
told_both {k = k} {o = o} {r = r} b (told_broken {text = text} {told = told} place more) later =
    told_broken place (told_both b more (subst (λ (a : List Act). Told k (offered_from o a) (ready_from r a) b) (broken_acts k text told) later))

-- what is told of others
none_of_both : {A : Type 0} (a b : List A) → a ++ b ≡ [] → (a ≡ []) × (b ≡ [])
none_of_both [] b is = (refl, is)
none_of_both (x ∷ xs) b is = cc

pub told_apart : (k : ℕ) (o : Option ℕ) (r : Bool) (told : List Happening) → exit_acts k told ≡ [] → Told k o r told
told_apart k o r [] none = all_told
told_apart k o r (h ∷ told) none =
    let both = none_of_both (exit_act k h) (exit_acts k told) none in
    told_on (rw both.0 refl) (subst (λ (a : List Act). Told k (offered_from o a) (ready_from r a) told) (sym both.0) (told_apart k o r told both.1))

-- ---- THE LAW of a list

-- a start is heard: it is opened exactly where board and place are announced, and a place is announced
abbrev Exactly : ℕ → Option ℕ → Bool → ℕ → List Happening → List Happening → Type 0
Exactly k o r id earlier later =
    ((first_of later ≡ Some (opens k id)) ↔ ((offered_from o (exit_acts k earlier) ≡ Some id) × (ready_from r (exit_acts k earlier) ≡ true))) × (ready_from r (exit_acts k earlier) ≡ true)

opened_id : (k id mine : ℕ) → opens k mine ≡ opens k id → mine ≡ id
opened_id k id mine same = cc

start_id : (message : Message) (id mine : ℕ) → message.body ≡ bodies.StartTransport mine → message.body ≡ bodies.StartTransport id → mine ≡ id
start_id message id mine one two = cc

exactly_on : (k : ℕ) (o : Option ℕ) (r : Bool) (id : ℕ) (h : Happening) (earlier later : List Happening) → Exactly k (offered_from o (exit_act k h)) (ready_from r (exit_act k h)) id earlier later → Exactly k o r id (h ∷ earlier) later
exactly_on k o r id h earlier later is =
    let offered = offered_append o (exit_act k h) (exit_acts k earlier) in
    let ready = ready_append r (exit_act k h) (exit_acts k earlier) in
    ((λ first. (let both = is.0.0 first in (offered ∙ both.0, ready ∙ both.1)), λ both. is.0.1 (sym offered ∙ both.0, sym ready ∙ both.1)), ready ∙ is.1)

exactly_past : (k : ℕ) (o : Option ℕ) (r : Bool) (id : ℕ) (m : Message) (deed : Deed) → is_on_exit (acts.Deed deed) ≡ true → ((x : Option ℕ) → offered_act x (acts.Deed deed) ≡ None) → ((x : Bool) → ready_act x (acts.Deed deed) ≡ false)
    → (earlier later : List Happening) → Exactly k None false id earlier later → Exactly k o r id (hears k m ∷ happenings.Done k (acts.Deed deed) ∷ earlier) later
exactly_past k o r id m deed at none unready earlier later is =
    let offered = answered_offer k o m deed at none earlier in
    let ready = answered_ready k r m deed at unready earlier in
    ((λ first. (let both = is.0.0 first in (offered ∙ both.0, ready ∙ both.1)), λ both. is.0.1 (sym offered ∙ both.0, sym ready ∙ both.1)), ready ∙ is.1)

exactly_broken : (k : ℕ) (o : Option ℕ) (r : Bool) (id : ℕ) (text : List ℕ) (earlier later : List Happening) → Exactly k o r id earlier later → Exactly k o r id (happenings.Done k (acts.Breaches Exit text) ∷ earlier) later
exactly_broken k o r id text earlier later is =
    let all = broken_acts k text earlier in
    let offered = ap (λ (a : List Act). offered_from o a) all in
    let ready = ap (λ (a : List Act). ready_from r a) all in
    ((λ first. (let both = is.0.0 first in (offered ∙ both.0, ready ∙ both.1)), λ both. is.0.1 (sym offered ∙ both.0, sym ready ∙ both.1)), ready ∙ is.1)

exact : {k : ℕ} {o : Option ℕ} {r : Bool} {told : List Happening} → Told k o r told → (earlier later : List Happening) (message : Message) (id : ℕ) → message.body ≡ bodies.StartTransport id → told ≡ earlier ++ hears k message ∷ later → Exactly k o r id earlier later
exact all_told [] later message id start is = cc
exact all_told (e ∷ es) later message id start is = cc
exact {k = k} {o = o} {r = r} (told_on {happening = h} {told = told} plain more) [] later message id start is =
    let same : h ≡ hears k message = cc in
    absurd (plain_not k message id start (subst (λ (x : Happening). are_plain (exit_act k x) ≡ true) same plain))
exact {k = k} {o = o} {r = r} (told_on {happening = h} {told = told} plain more) (e ∷ es) later message id start is =
    let same : h ≡ e = cc in
    let rest : told ≡ es ++ hears k message ∷ later = cc in
    subst (λ (x : Happening). Exactly k o r id (x ∷ es) later) same (exactly_on k o r id h es later (exact more es later message id start rest))
exact {k = k} (told_opened {id = mine} {message = m} {told = told} says more) [] later message id start is =
    let heard : m ≡ message = cc in
    let rest : opens k mine ∷ told ≡ later = cc in
    let one : mine ≡ id = start_id message id mine (subst (λ (x : Message). x.body ≡ bodies.StartTransport mine) heard says) start in
    ((λ first. (ap (λ (x : ℕ). Some x) one, refl), λ both. ap first_of (sym rest) ∙ ap (λ (x : ℕ). Some (opens k x)) one), refl)
exact {k = k} (told_opened {id = mine} {message = m} {told = told} says more) (e ∷ []) later message id start is =
    let clash : opens k mine ≡ hears k message = cc in
    cc
exact {k = k} (told_opened {id = mine} {message = m} {told = told} says more) (e ∷ f ∷ es) later message id start is =
    let one : hears k m ≡ e = cc in
    let two : opens k mine ≡ f = cc in
    let rest : told ≡ es ++ hears k message ∷ later = cc in
    subst (λ (x : Happening). Exactly k (Some mine) true id (x ∷ f ∷ es) later) one (subst (λ (x : Happening). Exactly k (Some mine) true id (hears k m ∷ x ∷ es) later) two
    (exactly_past k (Some mine) true id m (deeds.Opens mine) refl (λ x. refl) (λ x. refl) es later (exact more es later message id start rest)))
exact {k = k} {o = o} (told_refused {id = mine} {message = m} {told = told} says apart more) [] later message id start is =
    let heard : m ≡ message = cc in
    let rest : refuses k mine ∷ told ≡ later = cc in
    let one : mine ≡ id = start_id message id mine (subst (λ (x : Message). x.body ≡ bodies.StartTransport mine) heard says) start in
    ((λ first. (let clash : Some (refuses k mine) ≡ Some (opens k id) = ap first_of rest ∙ first in cc), λ both. absurd (apart (both.0 ∙ ap (λ (x : ℕ). Some x) (sym one)))), refl)
exact {k = k} (told_refused {id = mine} {message = m} {told = told} says apart more) (e ∷ []) later message id start is =
    let clash : refuses k mine ≡ hears k message = cc in
    cc
exact {k = k} {o = o} (told_refused {id = mine} {message = m} {told = told} says apart more) (e ∷ f ∷ es) later message id start is =
    let one : hears k m ≡ e = cc in
    let two : refuses k mine ≡ f = cc in
    let rest : told ≡ es ++ hears k message ∷ later = cc in
    subst (λ (x : Happening). Exactly k o true id (x ∷ f ∷ es) later) one (subst (λ (x : Happening). Exactly k o true id (hears k m ∷ x ∷ es) later) two
    (exactly_past k o true id m (deeds.Refuses mine) refl (λ x. refl) (λ x. refl) es later (exact more es later message id start rest)))
exact {k = k} (told_broken {text = text} {told = told} place more) [] later message id start is =
    let clash : happenings.Done k (acts.Breaches Exit text) ≡ hears k message = cc in
    cc
exact {k = k} {o = o} {r = r} (told_broken {text = text} {told = told} place more) (e ∷ es) later message id start is =
    let same : happenings.Done k (acts.Breaches Exit text) ≡ e = cc in
    let rest : told ≡ es ++ hears k message ∷ later = cc in
    subst (λ (x : Happening). Exactly k o r id (x ∷ es) later) same (exactly_broken k o r id text es later (exact more es later message id start rest))

-- an opening: the start that asks for it is just before
asked_on : (k id : ℕ) (h : Happening) (told : List Happening) → IsAsked k id told → IsAsked k id (h ∷ told)
asked_on k id h told asked = record { earlier = h ∷ asked.earlier; message = asked.message; start = asked.start; told_is = ap (λ (t : List Happening). h ∷ t) asked.told_is }

asked : {k : ℕ} {o : Option ℕ} {r : Bool} {told : List Happening} → Told k o r told → (earlier later : List Happening) (id : ℕ) → told ≡ earlier ++ opens k id ∷ later → IsAsked k id earlier
asked all_told [] later id is = cc
asked all_told (e ∷ es) later id is = cc
asked {k = k} (told_on {happening = h} {told = told} plain more) [] later id is =
    let same : h ≡ opens k id = cc in
    absurd (plain_opens_not k id (subst (λ (x : Happening). are_plain (exit_act k x) ≡ true) same plain))
asked {k = k} (told_on {happening = h} {told = told} plain more) (e ∷ es) later id is =
    let rest : told ≡ es ++ opens k id ∷ later = cc in
    asked_on k id e es (asked more es later id rest)
asked {k = k} (told_opened {id = mine} {message = m} {told = told} says more) [] later id is =
    let clash : hears k m ≡ opens k id = cc in
    cc
asked {k = k} (told_opened {id = mine} {message = m} {told = told} says more) (e ∷ []) later id is =
    let one : hears k m ≡ e = cc in
    let two : opens k mine ≡ opens k id = cc in
    record { earlier = []; message = m; start = says ∙ ap (λ (x : ℕ). bodies.StartTransport x) (opened_id k id mine two); told_is = ap (λ (x : Happening). x ∷ []) (sym one) }
asked {k = k} (told_opened {id = mine} {message = m} {told = told} says more) (e ∷ f ∷ es) later id is =
    let rest : told ≡ es ++ opens k id ∷ later = cc in
    asked_on k id e (f ∷ es) (asked_on k id f es (asked more es later id rest))
asked {k = k} (told_refused {id = mine} {message = m} {told = told} says apart more) [] later id is =
    let clash : hears k m ≡ opens k id = cc in
    cc
asked {k = k} (told_refused {id = mine} {message = m} {told = told} says apart more) (e ∷ []) later id is =
    let clash : refuses k mine ≡ opens k id = cc in
    cc
asked {k = k} (told_refused {id = mine} {message = m} {told = told} says apart more) (e ∷ f ∷ es) later id is =
    let rest : told ≡ es ++ opens k id ∷ later = cc in
    asked_on k id e (f ∷ es) (asked_on k id f es (asked more es later id rest))
asked {k = k} (told_broken {text = text} {told = told} place more) [] later id is =
    let clash : happenings.Done k (acts.Breaches Exit text) ≡ opens k id = cc in
    cc
asked {k = k} (told_broken {text = text} {told = told} place more) (e ∷ es) later id is =
    let rest : told ≡ es ++ opens k id ∷ later = cc in
    asked_on k id e es (asked more es later id rest)

-- a start that has no row: no place is announced
placeless : {k : ℕ} {o : Option ℕ} {r : Bool} {told : List Happening} → Told k o r told → (earlier later : List Happening) → told ≡ earlier ++ breaks_at_start k ∷ later → ready_from r (exit_acts k earlier) ≡ false
placeless all_told [] later is = cc
placeless all_told (e ∷ es) later is = cc
placeless {k = k} (told_on {happening = h} {told = told} plain more) [] later is =
    let same : h ≡ breaks_at_start k = cc in
    absurd (plain_breach_not k (unexpected kinds.StartTransport) (subst (λ (x : Happening). are_plain (exit_act k x) ≡ true) same plain))
placeless {k = k} {r = r} (told_on {happening = h} {told = told} plain more) (e ∷ es) later is =
    let same : h ≡ e = cc in
    let rest : told ≡ es ++ breaks_at_start k ∷ later = cc in
    subst (λ (x : Happening). ready_from r (exit_acts k (x ∷ es)) ≡ false) same (ready_append r (exit_act k h) (exit_acts k es) ∙ placeless more es later rest)
placeless {k = k} (told_opened {id = mine} {message = m} {told = told} says more) [] later is =
    let clash : hears k m ≡ breaks_at_start k = cc in
    cc
placeless {k = k} (told_opened {id = mine} {message = m} {told = told} says more) (e ∷ []) later is =
    let clash : opens k mine ≡ breaks_at_start k = cc in
    cc
placeless {k = k} (told_opened {id = mine} {message = m} {told = told} says more) (e ∷ f ∷ es) later is =
    let one : hears k m ≡ e = cc in
    let two : opens k mine ≡ f = cc in
    let rest : told ≡ es ++ breaks_at_start k ∷ later = cc in
    subst (λ (x : Happening). ready_from true (exit_acts k (x ∷ f ∷ es)) ≡ false) one (subst (λ (x : Happening). ready_from true (exit_acts k (hears k m ∷ x ∷ es)) ≡ false) two
    (answered_ready k true m (deeds.Opens mine) refl (λ x. refl) es ∙ placeless more es later rest))
placeless {k = k} (told_refused {id = mine} {message = m} {told = told} says apart more) [] later is =
    let clash : hears k m ≡ breaks_at_start k = cc in
    cc
placeless {k = k} (told_refused {id = mine} {message = m} {told = told} says apart more) (e ∷ []) later is =
    let clash : refuses k mine ≡ breaks_at_start k = cc in
    cc
placeless {k = k} (told_refused {id = mine} {message = m} {told = told} says apart more) (e ∷ f ∷ es) later is =
    let one : hears k m ≡ e = cc in
    let two : refuses k mine ≡ f = cc in
    let rest : told ≡ es ++ breaks_at_start k ∷ later = cc in
    subst (λ (x : Happening). ready_from true (exit_acts k (x ∷ f ∷ es)) ≡ false) one (subst (λ (x : Happening). ready_from true (exit_acts k (hears k m ∷ x ∷ es)) ≡ false) two
    (answered_ready k true m (deeds.Refuses mine) refl (λ x. refl) es ∙ placeless more es later rest))
placeless {k = k} (told_broken {text = text} {told = told} place more) [] later is =
    let same : text ≡ unexpected kinds.StartTransport = cc in
    place (ap is_start_text same)
placeless {k = k} {r = r} (told_broken {text = text} {told = told} place more) (e ∷ es) later is =
    let same : happenings.Done k (acts.Breaches Exit text) ≡ e = cc in
    let rest : told ≡ es ++ breaks_at_start k ∷ later = cc in
    subst (λ (x : Happening). ready_from r (exit_acts k (x ∷ es)) ≡ false) same (ap (λ (a : List Act). ready_from r a) (broken_acts k text es) ∙ placeless more es later rest)

pub opens_as_announced : (k : ℕ) (told : List Happening) → Told k None false told → OpensAsAnnounced k told
opens_as_announced k told t = record {
  exactly = λ earlier later message id start is.
      (let both = (exact t earlier later message id start is).0 in (
        λ first. (let two = both.0 first in record { board = sym (offered_is (exit_acts k earlier)) ∙ two.0; place = sym (ready_is (exit_acts k earlier)) ∙ two.1 }),
        λ announced. both.1 (offered_is (exit_acts k earlier) ∙ announced.board, ready_is (exit_acts k earlier) ∙ announced.place),
      ));
  in_place = λ earlier later message id start is. sym (ready_is (exit_acts k earlier)) ∙ (exact t earlier later message id start is).1;
  no_other = λ earlier later id is. asked t earlier later id is;
  no_place = λ earlier later is. sym (ready_is (exit_acts k earlier)) ∙ placeless t earlier later is;
}
