-- What reading answers of the parts of a root and of a message.
use Rattle.std.specs.Prelude.{◌≡◌, ℕ, List, [], ◌∷◌, Option, Some, None, Result, Ok, Err, codes, option_map}
use Rattle.hermes_element.specs.Element.{Tree, trees_of}
use Rattle.hermes_horizontal.specs.declared.fault.Fault.TheVariants as faults
use Rattle.hermes_horizontal.specs.declared.fault.Refusal.{Refusal}
use Rattle.hermes_horizontal.specs.declared.fault.MessageError.{MessageError}
use Rattle.hermes_horizontal.specs.declared.root.Opened.{Opened}
use Rattle.hermes_horizontal.specs.Values.{Value, timed}
use Rattle.hermes_horizontal.specs.Roots.{Refuses, children_refusal_by, refusal_by, refusal_of_result, stamp_in}

-- what some columns say of a part of a message, seen by its values, or the first refusal
abbrev pub ReadsParts : {Part : Type 0} → (Part → List (Option Value)) → Result Part MessageError
    → Result (List (Option Value)) Refusal → Type 0
ReadsParts parts (Ok part) said = said ≡ Ok (parts part)
ReadsParts parts (Err error) said = Refuses (refusal_of_result said) error

-- the stamp of a root and the one element in it, or the root's refusal, whatever the element says
pub record IsOpened (tree : Tree) (opened : Opened) : Type 0 where
  pub root : tree.name ≡ codes "Hermes"
  pub stamp : stamp_in tree ≡ Ok (option_map timed opened.stamp)
  pub only : trees_of tree.children ≡ opened.child ∷ []

abbrev pub OpensRoot : Tree → Result Opened Refusal → Type 0
OpensRoot tree (Ok opened) = IsOpened tree opened
OpensRoot tree (Err refusal) =
    (of_body : Tree → Option Refusal) → refusal_by of_body tree ≡ Some refusal

-- the one tree of a list, or None where there isn't exactly one
abbrev pub HasOnly : List Tree → Option Tree → Type 0
HasOnly trees (Some child) = trees ≡ child ∷ []
HasOnly trees None =
    (of_body : Tree → Option Refusal) (at : ℕ)
    → children_refusal_by of_body at trees ≡ Some (record { at = at; why = faults.Count })
