-- What a root says of a message, by what the one element in it says: one message at most, and none where it is refused.
use Rattle.std.proofs.Common.{◌≡◌, ℤ, Bool, true, cond, List, [], ◌∷◌, Option, Some, None, Result, Ok, option_map, codes, sym, ap, subst, ◌∙◌}
use Rattle.std.specs.Str.{bytes_eq}
use Rattle.std.proofs.lemmas.Slice.Eq.{bytes_eq-Decides}
use Rattle.hermes_element.specs.Element.{Tree, trees_of}
use Rattle.hermes_horizontal.specs.declared.fault.Fault.TheVariants as faults
use Rattle.hermes_horizontal.specs.declared.fault.Refusal.{Refusal}
use Rattle.hermes_horizontal.specs.Values.{Value, timed}
use Rattle.hermes_horizontal.specs.Roots.{SaysRoot, stamp_in, children_refusal_by, refusal_by, refusal_of_result, first_of}
use Rattle.hermes_horizontal.proofs.PartsBack.{moment_in, moment_back}

-- the messages of a channel: a root says one at most, and none where it is refused
pub record IsChannel {Message : Type 0} (Says : Tree → Message → Type 0) (refusal_of : Tree → Option Refusal) : Type 0 where
  pub once : (tree : Tree) (a b : Message) → Says tree a → Says tree b → a ≡ b
  pub unrefused : (tree : Tree) (message : Message) → Says tree message → refusal_of tree ≡ None

stamp_same : (x y : Option Value) (r : Result (Option Value) Refusal) → r ≡ Ok x → r ≡ Ok y → x ≡ y
stamp_same x y r e d = cc

only_same : (a b : Tree) (trees : List Tree) → trees ≡ a ∷ [] → trees ≡ b ∷ [] → a ≡ b
only_same a b trees e d = cc

-- a root says one stamp and one body at most, where its one element says one body at most
pub same_root : {Body : Type 0} (SaysBody : Tree → Body → Type 0) → ((child : Tree) (a b : Body) → SaysBody child a → SaysBody child b → a ≡ b)
    → (tree : Tree) (stamp stamp' : Option ℤ) (a b : Body) → SaysRoot SaysBody tree stamp a → SaysRoot SaysBody tree stamp' b → (stamp ≡ stamp') × (a ≡ b)
same_root SaysBody same tree stamp stamp' a b says_a says_b =
    let value = stamp_same (option_map timed stamp) (option_map timed stamp') (stamp_in tree) says_a.stamp says_b.stamp in
    let child = only_same says_a.child says_b.child (trees_of tree.children) says_a.only says_b.only in
    (sym (moment_back stamp) ∙ ap moment_in value ∙ moment_back stamp', same says_b.child a b (subst (λ (c : Tree). SaysBody c a) child says_a.body) says_b.body)

-- ---- what says a message is not refused

is_hermes : (tree : Tree) → tree.name ≡ codes "Hermes" → bytes_eq tree.name (codes "Hermes") ≡ true
is_hermes tree e = (bytes_eq-Decides tree.name (codes "Hermes")).1 e

pub at_hermes : (of_body : Tree → Option Refusal) (tree : Tree) → bytes_eq tree.name (codes "Hermes") ≡ true
    → refusal_by of_body tree ≡ first_of (refusal_of_result (stamp_in tree)) (children_refusal_by of_body tree.at (trees_of tree.children))
at_hermes of_body tree e =
    ap (λ (b : Bool). cond b (first_of (refusal_of_result (stamp_in tree)) (children_refusal_by of_body tree.at (trees_of tree.children))) (Some (record { at = tree.at; why = faults.Root }))) e

pub behind_stamp : (of_body : Tree → Option Refusal) (tree : Tree) (value : Option Value) → bytes_eq tree.name (codes "Hermes") ≡ true → stamp_in tree ≡ Ok value
    → refusal_by of_body tree ≡ children_refusal_by of_body tree.at (trees_of tree.children)
behind_stamp of_body tree value e d =
    at_hermes of_body tree e ∙ ap (λ (r : Result (Option Value) Refusal). first_of (refusal_of_result r) (children_refusal_by of_body tree.at (trees_of tree.children))) d

pub behind_count : (of_body : Tree → Option Refusal) (tree child : Tree) (value : Option Value) → tree.name ≡ codes "Hermes" → stamp_in tree ≡ Ok value → trees_of tree.children ≡ child ∷ []
    → refusal_by of_body tree ≡ of_body child
behind_count of_body tree child value e d f = behind_stamp of_body tree value (is_hermes tree e) d ∙ ap (children_refusal_by of_body tree.at) f

pub not_refused_root : {Body : Type 0} (SaysBody : Tree → Body → Type 0) (of_body : Tree → Option Refusal) → ((child : Tree) (body : Body) → SaysBody child body → of_body child ≡ None)
    → (tree : Tree) (stamp : Option ℤ) (body : Body) → SaysRoot SaysBody tree stamp body → refusal_by of_body tree ≡ None
not_refused_root SaysBody of_body unrefused tree stamp body says =
    behind_count of_body tree says.child (option_map timed stamp) says.root says.stamp says.only ∙ unrefused says.child body says.body
