-- What reading answers follows from what reading the element answers and from what its root says, in each channel.
use Rattle.std.proofs.Common.{◌≡◌, ℕ, List, Option, Some, None, Result, Ok, Err, refl, sym, ap, subst, ◌∙◌, inl, inr}
use Rattle.hermes_element.specs.Element.{Tree}
use Rattle.hermes_element.specs.Spelling as form
use Rattle.hermes_element.specs.Refusal as form_refusal
use Rattle.hermes_element.specs.declared.refusal.Why.{Why}
use Rattle.hermes_horizontal.specs.declared.fault.Fault.{Fault}
use Rattle.hermes_horizontal.specs.declared.fault.Fault.TheVariants as faults
use Rattle.hermes_horizontal.specs.declared.fault.Refusal.{Refusal}
use Rattle.hermes_horizontal.specs.declared.fault.MessageError.{MessageError}
use Rattle.hermes_horizontal.specs.declared.fault.MessageError.TheVariants as errors
use Rattle.hermes_horizontal.specs.Roots.{SpellsBy, IsRefusedFor, ReadsBy, ReadsRoot, AnswersMessage, AnswersRefusal}
use Rattle.hermes_horizontal.proofs.Rooted.{IsChannel}

-- the bytes spell this element alone
abbrev pub SpellsOnly : List ℕ → Tree → Type 0
SpellsOnly bytes root = (tree : Tree) → form.Spells bytes tree → root ≡ tree

-- and no element is refused
abbrev pub IsFormed : List ℕ → Type 0
IsFormed bytes = (at : ℕ) (reason : Why) → form_refusal.IsRefused bytes at reason → ⊥

some_none : (refusal : Refusal) (o : Option Refusal) → o ≡ Some refusal → o ≡ None → ⊥
some_none refusal o e d = absurd cc

some_same : (a b : Refusal) (o : Option Refusal) → o ≡ Some a → o ≡ Some b → a ≡ b
some_same a b o e d = cc

-- ---- a root that says a message

said_once : {M : Type 0} {Says : Tree → M → Type 0} {refusal_of : Tree → Option Refusal} (channel : IsChannel Says refusal_of) (bytes : List ℕ) (root : Tree) (message wanted : M)
    → SpellsOnly bytes root → Says root message → SpellsBy Says bytes wanted → message ≡ wanted
said_once {M} {Says} channel bytes root message wanted only says spells =
    channel.once root message wanted says (subst (λ (t : Tree). Says t wanted) (sym (only spells.tree spells.element)) spells.says)

said_unrefused : {M : Type 0} {Says : Tree → M → Type 0} {refusal_of : Tree → Option Refusal} (channel : IsChannel Says refusal_of) (bytes : List ℕ) (root : Tree) (message : M) (at : ℕ) (why : Fault)
    → SpellsOnly bytes root → IsFormed bytes → Says root message → IsRefusedFor refusal_of bytes at why → ⊥
said_unrefused channel bytes root message at why only formed says (inl formless) = formed at formless.reason formless.refused
said_unrefused {refusal_of = refusal_of} channel bytes root message at why only formed says (inr nothing) =
    some_none (record { at = at; why = why }) (refusal_of root) (ap refusal_of (only nothing.tree nothing.element) ∙ nothing.refused) (channel.unrefused root message says)

-- ---- a root that says none

refused_so : (refusal_of : Tree → Option Refusal) (bytes : List ℕ) (root : Tree) (refusal : Refusal) → form.Spells bytes root → refusal_of root ≡ Some refusal → IsRefusedFor refusal_of bytes refusal.at refusal.why
refused_so refusal_of bytes root refusal spells refused = inr (record { tree = root; element = spells; refused = refused })

refused_unsaid : {M : Type 0} {Says : Tree → M → Type 0} {refusal_of : Tree → Option Refusal} (channel : IsChannel Says refusal_of) (bytes : List ℕ) (root : Tree) (refusal : Refusal)
    → SpellsOnly bytes root → refusal_of root ≡ Some refusal → (message : M) → SpellsBy Says bytes message → ⊥
refused_unsaid {refusal_of = refusal_of} channel bytes root refusal only refused message spells =
    some_none refusal (refusal_of root) refused (ap refusal_of (only spells.tree spells.element) ∙ channel.unrefused spells.tree message spells.says)

refused_once : (refusal_of : Tree → Option Refusal) (bytes : List ℕ) (root : Tree) (refusal : Refusal) (at : ℕ) (why : Fault) → SpellsOnly bytes root → IsFormed bytes → refusal_of root ≡ Some refusal
    → IsRefusedFor refusal_of bytes at why → (refusal.at ≡ at) × (refusal.why ≡ why)
refused_once refusal_of bytes root refusal at why only formed refused (inl formless) = absurd (formed at formless.reason formless.refused)
refused_once refusal_of bytes root refusal at why only formed refused (inr nothing) =
    let same = some_same refusal (record { at = at; why = why }) (refusal_of root) refused (ap refusal_of (only nothing.tree nothing.element) ∙ nothing.refused) in
    (ap (λ (r : Refusal). r.at) same, ap (λ (r : Refusal). r.why) same)

-- ---- what is read of a root is what is read of its bytes

pub answers : {M : Type 0} {Says : Tree → M → Type 0} {refusal_of : Tree → Option Refusal} (channel : IsChannel Says refusal_of) (bytes : List ℕ) (root : Tree) (result : Result M MessageError)
    → form.Spells bytes root → SpellsOnly bytes root → ReadsRoot Says refusal_of root result → ReadsBy Says refusal_of bytes result
answers channel bytes root (Ok message) spells only reads = record { tree = root; element = spells; says = reads }
answers {refusal_of = refusal_of} channel bytes root (Err (errors.Refused at why)) spells only refused =
    (refused_so refusal_of bytes root (record { at = at; why = why }) spells refused, refused_unsaid channel bytes root (record { at = at; why = why }) only refused)
answers channel bytes root (Err errors.Memory) spells only reads = tt

pub answers_said : {M : Type 0} {Says : Tree → M → Type 0} {refusal_of : Tree → Option Refusal} (channel : IsChannel Says refusal_of) (bytes : List ℕ) (root : Tree) (result : Result M MessageError) (wanted : M)
    → SpellsOnly bytes root → ReadsRoot Says refusal_of root result → SpellsBy Says bytes wanted → AnswersMessage result wanted
answers_said channel bytes root (Ok message) wanted only says spells = said_once channel bytes root message wanted only says spells
answers_said channel bytes root (Err (errors.Refused at why)) wanted only refused spells = refused_unsaid channel bytes root (record { at = at; why = why }) only refused wanted spells
answers_said channel bytes root (Err errors.Memory) wanted only reads spells = tt

pub answers_refused : {M : Type 0} {Says : Tree → M → Type 0} {refusal_of : Tree → Option Refusal} (channel : IsChannel Says refusal_of) (bytes : List ℕ) (root : Tree) (result : Result M MessageError) (at : ℕ) (why : Fault)
    → SpellsOnly bytes root → IsFormed bytes → ReadsRoot Says refusal_of root result → IsRefusedFor refusal_of bytes at why → AnswersRefusal result at why
answers_refused channel bytes root (Ok message) at why only formed says refused = said_unrefused channel bytes root message at why only formed says refused
answers_refused {refusal_of = refusal_of} channel bytes root (Err (errors.Refused place reason)) at why only formed said refused = refused_once refusal_of bytes root (record { at = place; why = reason }) at why only formed said refused
answers_refused channel bytes root (Err errors.Memory) at why only formed reads refused = tt

-- ---- bytes that spell no element

pub formless_so : (refusal_of : Tree → Option Refusal) (bytes : List ℕ) (at : ℕ) (reason : Why) → form_refusal.IsRefused bytes at reason → IsRefusedFor refusal_of bytes at (faults.Form reason)
formless_so refusal_of bytes at reason refused = inl (record { reason = reason; fault = refl; refused = refused })

pub formless_unsaid : {M : Type 0} (Says : Tree → M → Type 0) (bytes : List ℕ) → ((tree : Tree) → form.Spells bytes tree → ⊥) → (message : M) → SpellsBy Says bytes message → ⊥
formless_unsaid Says bytes none message spells = none spells.tree spells.element

pub formless_once : (refusal_of : Tree → Option Refusal) (bytes : List ℕ) (place : ℕ) (reason : Why) (at : ℕ) (why : Fault) → ((tree : Tree) → form.Spells bytes tree → ⊥)
    → ((a : ℕ) (r : Why) → form_refusal.IsRefused bytes a r → (place ≡ a) × (reason ≡ r)) → IsRefusedFor refusal_of bytes at why → (place ≡ at) × (faults.Form reason ≡ why)
formless_once refusal_of bytes place reason at why none once (inl formless) =
    let same = once at formless.reason formless.refused in
    (same.0, ap faults.Form same.1 ∙ sym formless.fault)
formless_once refusal_of bytes place reason at why none once (inr nothing) = absurd (none nothing.tree nothing.element)

-- ---- one message, one refusal, and none beside a spelling

abbrev pub OneElement : List ℕ → Type 0
OneElement bytes = (one other : Tree) → form.Spells bytes one → form.Spells bytes other → one ≡ other

abbrev OneRefusal : List ℕ → Type 0
OneRefusal bytes = (at place : ℕ) (why reason : Why) → form_refusal.IsRefused bytes at why → form_refusal.IsRefused bytes place reason → (at ≡ place) × (why ≡ reason)

abbrev NeverBoth : List ℕ → Type 0
NeverBoth bytes = (at : ℕ) (why : Why) (tree : Tree) → form_refusal.IsRefused bytes at why → form.Spells bytes tree → ⊥

pub one_message : {M : Type 0} {Says : Tree → M → Type 0} {refusal_of : Tree → Option Refusal} (channel : IsChannel Says refusal_of) (bytes : List ℕ) → OneElement bytes
    → (a b : M) → SpellsBy Says bytes a → SpellsBy Says bytes b → a ≡ b
one_message {M} {Says} channel bytes once a b spells_a spells_b =
    let tree = once spells_b.tree spells_a.tree spells_b.element spells_a.element in
    channel.once spells_a.tree a b spells_a.says (subst (λ (t : Tree). Says t b) tree spells_b.says)

pub one_refusal : (refusal_of : Tree → Option Refusal) (bytes : List ℕ) → OneElement bytes → OneRefusal bytes → NeverBoth bytes
    → (at place : ℕ) (why reason : Fault) → IsRefusedFor refusal_of bytes at why → IsRefusedFor refusal_of bytes place reason → (at ≡ place) × (why ≡ reason)
one_refusal refusal_of bytes once one never at place why reason (inl f) (inl g) =
    let same = one at place f.reason g.reason f.refused g.refused in
    (same.0, f.fault ∙ ap faults.Form same.1 ∙ sym g.fault)
one_refusal refusal_of bytes once one never at place why reason (inl f) (inr n) = absurd (never at f.reason n.tree f.refused n.element)
one_refusal refusal_of bytes once one never at place why reason (inr m) (inl g) = absurd (never place g.reason m.tree g.refused m.element)
one_refusal refusal_of bytes once one never at place why reason (inr m) (inr n) =
    let tree = once n.tree m.tree n.element m.element in
    let same = some_same (record { at = at; why = why }) (record { at = place; why = reason }) (refusal_of m.tree) m.refused (ap refusal_of (sym tree) ∙ n.refused) in
    (ap (λ (r : Refusal). r.at) same, ap (λ (r : Refusal). r.why) same)

pub never_both : {M : Type 0} {Says : Tree → M → Type 0} {refusal_of : Tree → Option Refusal} (channel : IsChannel Says refusal_of) (bytes : List ℕ) → OneElement bytes → NeverBoth bytes
    → (at : ℕ) (why : Fault) (message : M) → IsRefusedFor refusal_of bytes at why → SpellsBy Says bytes message → ⊥
never_both channel bytes once never at why message (inl f) s = never at f.reason s.tree f.refused s.element
never_both {refusal_of = refusal_of} channel bytes once never at why message (inr n) s =
    some_none (record { at = at; why = why }) (refusal_of n.tree) n.refused (ap refusal_of (once n.tree s.tree n.element s.element) ∙ channel.unrefused s.tree message s.says)
