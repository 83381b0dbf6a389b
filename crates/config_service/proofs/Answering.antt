-- What reading answers follows from what reading the element answers and from what its root says.
use Rattle.std.proofs.Common.{◌≡◌, ℕ, true, codes, List, Result, Ok, Err, refl, sym, ap, ◌∙◌, inl, inr}
use Rattle.std.specs.Str.{bytes_eq}
use Rattle.hermes_element.specs.Element.{Tree}
use Rattle.hermes_element.specs.Spelling as form
use Rattle.hermes_element.specs.Refusal as form_refusal
use Rattle.hermes_element.specs.declared.refusal.Why.{Why}
use Rattle.config_service.specs.declared.fault.ConfigError.{ConfigError}
use Rattle.config_service.specs.declared.fault.ConfigError.TheVariants as errors
use Rattle.config_service.specs.declared.fault.ConfigFault.{ConfigFault}
use Rattle.config_service.specs.declared.fault.ConfigFault.TheVariants as faults
use Rattle.config_service.specs.declared.fault.ConfigRefusal.{ConfigRefusal}
use Rattle.config_service.specs.declared.message.ConfigMessage.{ConfigMessage}
use Rattle.config_service.specs.Said.{refusal, message_of, said_in}
use Rattle.config_service.specs.Spelling.{AnswersMessage, AnswersRefusal, IsRefused, Reads, ReadsMessage, Spells}

-- the bytes spell this element alone
abbrev pub SpellsOnly : List ℕ → Tree → Type 0
SpellsOnly bytes root = (tree : Tree) → form.Spells bytes tree → root ≡ tree

-- and no element is refused
abbrev pub IsFormed : List ℕ → Type 0
IsFormed bytes = (at : ℕ) (reason : Why) → form_refusal.IsRefused bytes at reason → ⊥

never_both : (said : Result ConfigMessage ConfigRefusal) (message : ConfigMessage) (why : ConfigRefusal) → said ≡ Ok message → said ≡ Err why → ⊥
never_both said message why e d = absurd cc

same_message : (said : Result ConfigMessage ConfigRefusal) (a b : ConfigMessage) → said ≡ Ok a → said ≡ Ok b → a ≡ b
same_message said a b e d = cc

same_refusal : (said : Result ConfigMessage ConfigRefusal) (a b : ConfigRefusal) → said ≡ Err a → said ≡ Err b → a ≡ b
same_refusal said a b e d = cc

refusal_parts : (at place : ℕ) (why reason : ConfigFault) → refusal at why ≡ refusal place reason → (at ≡ place) × (why ≡ reason)
refusal_parts at place why reason e = (ap (λ (r : ConfigRefusal). r.at) e, ap (λ (r : ConfigRefusal). r.why) e)

unsaid : (bytes : List ℕ) (root : Tree) (why : ConfigRefusal) → SpellsOnly bytes root → message_of root ≡ Err why → (message : ConfigMessage) → Spells bytes message → ⊥
unsaid bytes root why only refused message spells = never_both (message_of root) message why (ap message_of (only spells.tree spells.element) ∙ spells.says) refused

-- a root of the right name says what is said in it
pub said_so : (tree : Tree) (result : Result ConfigMessage ConfigError) → bytes_eq tree.name (codes "Hermes") ≡ true → Reads (said_in tree) result → Reads (message_of tree) result
said_so tree result e reads = rw e reads

-- ---- what is read of a root is what is read of its bytes

pub answers : (bytes : List ℕ) (root : Tree) (result : Result ConfigMessage ConfigError) → form.Spells bytes root → SpellsOnly bytes root → Reads (message_of root) result → ReadsMessage bytes result
answers bytes root (Ok message) spells only says = record { tree = root; element = spells; says = says }
answers bytes root (Err (errors.Refused at why)) spells only refused = (inr (record { tree = root; element = spells; refused = refused }), unsaid bytes root (refusal at why) only refused)
answers bytes root (Err errors.Memory) spells only reads = tt

pub answers_said : (bytes : List ℕ) (root : Tree) (result : Result ConfigMessage ConfigError) (wanted : ConfigMessage) → SpellsOnly bytes root → Reads (message_of root) result → Spells bytes wanted → AnswersMessage result wanted
answers_said bytes root (Ok message) wanted only says spells = same_message (message_of root) message wanted says (ap message_of (only spells.tree spells.element) ∙ spells.says)
answers_said bytes root (Err (errors.Refused at why)) wanted only refused spells = unsaid bytes root (refusal at why) only refused wanted spells
answers_said bytes root (Err errors.Memory) wanted only reads spells = tt

refused_so : (bytes : List ℕ) (root : Tree) (why : ConfigRefusal) (at : ℕ) (reason : ConfigFault) → SpellsOnly bytes root → IsFormed bytes → message_of root ≡ Err why → IsRefused bytes at reason → (why.at ≡ at) × (why.why ≡ reason)
refused_so bytes root why at reason only formed refused (inl formless) = absurd (formed at formless.reason formless.refused)
refused_so bytes root why at reason only formed refused (inr nothing) =
    refusal_parts why.at at why.why reason (same_refusal (message_of root) why (refusal at reason) refused (ap message_of (only nothing.tree nothing.element) ∙ nothing.refused))

not_refused : (bytes : List ℕ) (root : Tree) (message : ConfigMessage) (at : ℕ) (reason : ConfigFault) → SpellsOnly bytes root → IsFormed bytes → message_of root ≡ Ok message → IsRefused bytes at reason → ⊥
not_refused bytes root message at reason only formed says (inl formless) = formed at formless.reason formless.refused
not_refused bytes root message at reason only formed says (inr nothing) =
    never_both (message_of root) message (refusal at reason) says (ap message_of (only nothing.tree nothing.element) ∙ nothing.refused)

pub answers_refused : (bytes : List ℕ) (root : Tree) (result : Result ConfigMessage ConfigError) (at : ℕ) (why : ConfigFault) → SpellsOnly bytes root → IsFormed bytes → Reads (message_of root) result → IsRefused bytes at why → AnswersRefusal result at why
answers_refused bytes root (Ok message) at why only formed says refused = not_refused bytes root message at why only formed says refused
answers_refused bytes root (Err (errors.Refused place reason)) at why only formed said refused = refused_so bytes root (refusal place reason) at why only formed said refused
answers_refused bytes root (Err errors.Memory) at why only formed reads refused = tt

-- ---- bytes that spell no element

pub formless_so : (bytes : List ℕ) (at : ℕ) (reason : Why) → form_refusal.IsRefused bytes at reason → IsRefused bytes at (faults.Form reason)
formless_so bytes at reason refused = inl (record { reason = reason; fault = refl; refused = refused })

pub formless_unsaid : (bytes : List ℕ) → ((tree : Tree) → form.Spells bytes tree → ⊥) → (message : ConfigMessage) → Spells bytes message → ⊥
formless_unsaid bytes none message spells = none spells.tree spells.element

pub formless_once : (bytes : List ℕ) (place : ℕ) (reason : Why) (at : ℕ) (why : ConfigFault) → ((tree : Tree) → form.Spells bytes tree → ⊥)
    → ((a : ℕ) (r : Why) → form_refusal.IsRefused bytes a r → (place ≡ a) × (reason ≡ r)) → IsRefused bytes at why → (place ≡ at) × (faults.Form reason ≡ why)
formless_once bytes place reason at why none once (inl formless) =
    let same = once at formless.reason formless.refused in
    (same.0, ap faults.Form same.1 ∙ sym formless.fault)
formless_once bytes place reason at why none once (inr nothing) = absurd (none nothing.tree nothing.element)

-- ---- one message, one refusal, and none beside a spelling

abbrev pub OneElement : List ℕ → Type 0
OneElement bytes = (one other : Tree) → form.Spells bytes one → form.Spells bytes other → one ≡ other

abbrev OneRefusal : List ℕ → Type 0
OneRefusal bytes = (at place : ℕ) (why reason : Why) → form_refusal.IsRefused bytes at why → form_refusal.IsRefused bytes place reason → (at ≡ place) × (why ≡ reason)

abbrev NeverBoth : List ℕ → Type 0
NeverBoth bytes = (at : ℕ) (why : Why) (tree : Tree) → form_refusal.IsRefused bytes at why → form.Spells bytes tree → ⊥

pub one_message : (bytes : List ℕ) → OneElement bytes → (a b : ConfigMessage) → Spells bytes a → Spells bytes b → a ≡ b
one_message bytes once a b x y = same_message (message_of x.tree) a b x.says (ap message_of (once x.tree y.tree x.element y.element) ∙ y.says)

pub one_refusal : (bytes : List ℕ) → OneElement bytes → OneRefusal bytes → NeverBoth bytes → (at place : ℕ) (why reason : ConfigFault) → IsRefused bytes at why → IsRefused bytes place reason → (at ≡ place) × (why ≡ reason)
one_refusal bytes once one never at place why reason (inl f) (inl g) =
    let same = one at place f.reason g.reason f.refused g.refused in
    (same.0, f.fault ∙ ap faults.Form same.1 ∙ sym g.fault)
one_refusal bytes once one never at place why reason (inl f) (inr n) = absurd (never at f.reason n.tree f.refused n.element)
one_refusal bytes once one never at place why reason (inr m) (inl g) = absurd (never place g.reason m.tree g.refused m.element)
one_refusal bytes once one never at place why reason (inr m) (inr n) =
    refusal_parts at place why reason (same_refusal (message_of m.tree) (refusal at why) (refusal place reason) m.refused (ap message_of (once m.tree n.tree m.element n.element) ∙ n.refused))

pub never_said : (bytes : List ℕ) → OneElement bytes → NeverBoth bytes → (at : ℕ) (why : ConfigFault) (message : ConfigMessage) → IsRefused bytes at why → Spells bytes message → ⊥
never_said bytes once never at why message (inl f) s = never at f.reason s.tree f.refused s.element
never_said bytes once never at why message (inr n) s =
    never_both (message_of n.tree) message (refusal at why) (ap message_of (once n.tree s.tree n.element s.element) ∙ s.says) n.refused
