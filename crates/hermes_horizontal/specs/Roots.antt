-- Which bytes spell a message of a channel, which are refused, where and why, and what reading
-- answers: by what the one element in the root says. The messages of both channels are spelled so.
use Rattle.std.specs.Prelude.{◌≡◌, ◌⊎◌, ◌≤◌, ℕ, ℤ, if◌then◌else◌, List, [], ◌∷◌, Option, Some, None, Result, Ok, Err, codes, option_map}
use Rattle.std.specs.Str.{bytes_eq}
use Rattle.hermes_element.specs.Element.{Tree, trees_of}
use Rattle.hermes_element.specs.Spelling as form
use Rattle.hermes_element.specs.Refusal as form_refusal
use Rattle.hermes_element.specs.declared.refusal.Why.{Why}
use Rattle.hermes_horizontal.specs.declared.fault.Fault.{Fault}
use Rattle.hermes_horizontal.specs.declared.fault.Fault.TheVariants as faults
use Rattle.hermes_horizontal.specs.declared.fault.Refusal.{Refusal}
use Rattle.hermes_horizontal.specs.declared.fault.MessageError.{MessageError}
use Rattle.hermes_horizontal.specs.declared.fault.MessageError.TheVariants as errors
use Rattle.hermes_horizontal.specs.Attrs.{attr_text}
use Rattle.hermes_horizontal.specs.Values.{Value, timed}
use Rattle.hermes_horizontal.specs.Rows.{stamp_column}
use Rattle.hermes_horizontal.specs.Said.{first_named, value_at}

-- ---- which messages elements say, and which bytes spell them

abbrev pub stamp_in : Tree → Result (Option Value) Refusal
stamp_in tree =
    value_at tree.at stamp_column (first_named (attr_text stamp_column.attr) tree.attributes)

-- the root is `Hermes`, tells the stamp or none, and holds one element, which says the body
pub record SaysRoot {Body : Type 0} (SaysBody : Tree → Body
    → Type 0) (tree : Tree) (moment : Option ℤ) (said : Body) : Type 0 where
  pub root : tree.name ≡ codes "Hermes"
  pub stamp : stamp_in tree ≡ Ok (option_map timed moment)
  pub child : Tree
  pub only : trees_of tree.children ≡ child ∷ []
  pub body : SaysBody child said

-- the bytes spell an element that says the message
pub record SpellsBy {Message : Type 0} (Says : Tree → Message
    → Type 0) (bytes : List ℕ) (message : Message) : Type 0 where
  pub tree : Tree
  pub element : form.Spells bytes tree
  pub says : Says tree message

-- ---- which elements say no message: the first refusal, root, Timestamp, count, and then the
-- message's attributes

abbrev pub refusal_of_result : {A : Type 0} → Result A Refusal → Option Refusal
refusal_of_result (Ok value) = None
refusal_of_result (Err refusal) = Some refusal

abbrev pub first_of : Option Refusal → Option Refusal → Option Refusal
first_of None later = later
first_of (Some refusal) later = Some refusal

abbrev pub children_refusal_by : (Tree → Option Refusal) → ℕ → List Tree → Option Refusal
children_refusal_by of_body at [] = Some (record { at = at; why = faults.Count })
children_refusal_by of_body at (child ∷ []) = of_body child
children_refusal_by of_body at (child ∷ other ∷ others) =
    Some (record { at = at; why = faults.Count })

abbrev pub refusal_by : (Tree → Option Refusal) → Tree → Option Refusal
refusal_by of_body tree =
    if bytes_eq tree.name (codes "Hermes") then first_of (refusal_of_result (stamp_in tree))
    (children_refusal_by of_body tree.at (trees_of tree.children))
    else Some (record { at = tree.at; why = faults.Root })

-- the bytes spell no element
pub record IsFormless (bytes : List ℕ) (at : ℕ) (why : Fault) : Type 0 where
  pub reason : Why
  pub fault : why ≡ faults.Form reason
  pub refused : form_refusal.IsRefused bytes at reason

-- they spell an element that says no message
pub record SaysNothingBy (refusal_of : Tree
    → Option Refusal) (bytes : List ℕ) (at : ℕ) (why : Fault) : Type 0 where
  pub tree : Tree
  pub element : form.Spells bytes tree
  pub refused : refusal_of tree ≡ Some (record { at = at; why = why })

abbrev pub IsRefusedFor : (Tree → Option Refusal) → List ℕ → ℕ → Fault → Type 0
IsRefusedFor refusal_of bytes at why =
    IsFormless bytes at why ⊎ SaysNothingBy refusal_of bytes at why

-- the bytes are refused, at an index of at most this
pub record IsRefusedNear (IsRefused : List ℕ → ℕ → Fault
    → Type 0) (bytes : List ℕ) (most : ℕ) : Type 0 where
  pub at : ℕ
  pub why : Fault
  pub near : at ≤ most
  pub refused : IsRefused bytes at why

-- ---- what reading answers

-- the error is this refusal, unless memory ran out
abbrev pub Refuses : Option Refusal → MessageError → Type 0
Refuses refusal (errors.Refused at why) = refusal ≡ Some (record { at = at; why = why })
Refuses refusal errors.Memory = Unit {0}

-- a message that a root says, or its refusal
abbrev pub ReadsRoot : {Message : Type 0} → (Tree → Message → Type 0) → (Tree → Option Refusal)
    → Tree → Result Message MessageError → Type 0
ReadsRoot Says refusal_of tree (Ok message) = Says tree message
ReadsRoot Says refusal_of tree (Err error) = Refuses (refusal_of tree) error

-- a message that the bytes spell, or their refusal where they spell none
abbrev pub ReadsBy : {Message : Type 0} → (Tree → Message → Type 0) → (Tree → Option Refusal)
    → List ℕ → Result Message MessageError → Type 0
ReadsBy Says refusal_of bytes (Ok message) = SpellsBy Says bytes message
ReadsBy {Message} Says refusal_of bytes (Err (errors.Refused at why)) =
    IsRefusedFor refusal_of bytes at why × ((message : Message) → SpellsBy Says bytes message → ⊥)
ReadsBy Says refusal_of bytes (Err errors.Memory) = Unit {0}

-- the answer is this message, unless memory ran out
abbrev pub AnswersMessage : {Message : Type 0} → Result Message MessageError → Message → Type 0
AnswersMessage (Ok message) wanted = message ≡ wanted
AnswersMessage (Err (errors.Refused at why)) wanted = ⊥
AnswersMessage (Err errors.Memory) wanted = Unit {0}

-- the answer is this refusal, unless memory ran out
abbrev pub AnswersRefusal : {Message : Type 0} → Result Message MessageError → ℕ → Fault → Type 0
AnswersRefusal (Ok message) at why = ⊥
AnswersRefusal (Err (errors.Refused place reason)) at why = (place ≡ at) × (reason ≡ why)
AnswersRefusal (Err errors.Memory) at why = Unit {0}
