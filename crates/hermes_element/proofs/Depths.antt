-- How deep elements are: those to which one is added, those in a list, and those that bytes spell.
use Rattle.std.proofs.Common.{◌≡◌, ℕ, zero, suc, ◌+◌, ◌<◌, ◌≤◌, max, Bool, true, false, List, [], ◌∷◌, ◌++◌, length, get_or, Result, Ok, Err, IfOk, refl, ap, subst, ◌∙◌, arith}
use Rattle.std.specs.Prelude.{◌==◌}
use Rattle.std.proofs.lemmas.Bool.{eqb-false}
use Rattle.hermes_element.specs.Plain.{Content, last, empty, full, Root, lone, holding, Tag, tag_text, content_text}
use Rattle.hermes_element.specs.Element.{Tree, Forest, none, more, trees_of, forest_of, add}
use Rattle.hermes_element.specs.Checks.{Fault, fault_if, assignments_faults, tag_faults, end_faults, content_faults, root_faults, root_place, forest_in, root_children}
use Rattle.hermes_element.specs.Canonical.{depth_of}
use Rattle.hermes_element.specs.Levels.{HasLevels}
use Rattle.hermes_element.specs.Spelling.{Spells, ReadsElement}
use Rattle.hermes_element.specs.declared.refusal.ElementError.{ElementError}
use Rattle.hermes_element.specs.declared.refusal.Why.TheVariants as why
use Rattle.hermes_element.proofs.Forests.{forest_of-push}

depth_of-add : (forest : Forest) (tree : Tree) → depth_of (add forest tree) ≡ max (depth_of forest) (suc (depth_of tree.children))
depth_of-add none tree = omega arith
depth_of-add (more name at attributes children rest) tree = let h = depth_of-add rest tree in omega (arith, h)

pub levels_more : (trees : List Tree) (tree : Tree) (levels below : ℕ) → HasLevels (forest_of trees) levels → below ≡ depth_of tree.children → below ≤ 2 → HasLevels (forest_of (trees ++ tree ∷ [])) (max levels (below + 1))
levels_more trees tree levels below h e few =
    let is = h.is in
    let small = h.few in
    let d : depth_of (forest_of (trees ++ tree ∷ [])) ≡ max (depth_of (forest_of trees)) (suc (depth_of tree.children)) = ap depth_of (forest_of-push trees tree) ∙ depth_of-add (forest_of trees) tree in
    record { is = omega (arith, d, is, e); few = omega (arith, small, few) }

-- each element of a list is less deep than the list
pub shallow_child : (forest : Forest) (i : ℕ) (d : Tree) → i < length (trees_of forest) → suc (depth_of (get_or (trees_of forest) i d).children) ≤ depth_of forest
shallow_child none i d h = absurd (omega arith)
shallow_child (more name at attributes children rest) zero d h = omega arith
shallow_child (more name at attributes children rest) (suc i) d h =
    let in_rest : i < length (trees_of rest) = omega arith in
    omega (arith, shallow_child rest i d in_rest)

-- ---- what bytes spell has at most four levels

front_none : (xs ys : List Fault) → xs ++ ys ≡ [] → xs ≡ []
front_none [] ys e = refl
front_none (x ∷ xs) ys e = absurd (cc e)

back_none : (xs ys : List Fault) → xs ++ ys ≡ [] → ys ≡ []
back_none [] ys e = e
back_none (x ∷ xs) ys e = absurd (cc e)

no_fault : (test : Bool) (at : ℕ) → fault_if test at why.Deep ≡ [] → test ≡ false
no_fault false at e = refl
no_fault true at e = absurd (cc e)

not_deep : (depth at : ℕ) (tag : Tag) → depth ≤ 5 → tag_faults depth at tag ≡ [] → depth ≤ 4
not_deep depth at tag few e =
    let other = eqb-false depth 5 (no_fault (depth == 5) at (front_none (fault_if (depth == 5) at why.Deep) (assignments_faults (at + 1 + length tag.name) [] tag.assignments) e)) in
    omega (arith, other, few)

content_depth : (depth at : ℕ) (content : Content) → depth ≤ 5 → content_faults depth at content ≡ [] → depth_of (forest_in at content) + depth ≤ 5
content_depth depth at (last gap) few e = omega arith
content_depth depth at (empty gap tag rest) few e =
    let tag_at = at + length gap in
    let rest_at = at + length gap + length (tag_text tag) + 2 in
    let own = not_deep depth tag_at tag few (front_none (tag_faults depth tag_at tag) (content_faults depth rest_at rest) e) in
    let others = content_depth depth rest_at rest few (back_none (tag_faults depth tag_at tag) (content_faults depth rest_at rest) e) in
    omega (arith, own, others)
content_depth depth at (full gap tag inside end rest) few e =
    let tag_at = at + length gap in
    let from = at + length gap + length (tag_text tag) + 1 in
    let to = from + length (content_text inside) in
    let rest_at = to + length end.name + length end.gap + 3 in
    let a = tag_faults depth tag_at tag in
    let b = content_faults (depth + 1) from inside in
    let c = end_faults to tag end in
    let d = content_faults depth rest_at rest in
    let abc = front_none ((a ++ b) ++ c) d e in
    let ab = front_none (a ++ b) c abc in
    let own = not_deep depth tag_at tag few (front_none a b ab) in
    let below = content_depth (depth + 1) from inside (omega (arith, own)) (back_none a b ab) in
    let others = content_depth depth rest_at rest few (back_none ((a ++ b) ++ c) d e) in
    omega (arith, own, below, others)

root_depth : (at : ℕ) (root : Root) → root_faults at root ≡ [] → depth_of (root_children at root) ≤ 3
root_depth at (lone tag) e = omega arith
root_depth at (holding tag inside end) e =
    let from = at + length (tag_text tag) + 1 in
    let a = tag_faults 1 at tag in
    let b = content_faults 2 from inside in
    let c = end_faults (from + length (content_text inside)) tag end in
    let below = content_depth 2 from inside (omega arith) (back_none a b (front_none (a ++ b) c e)) in
    omega (arith, below)

pub spelled_depth : (bytes : List ℕ) (tree : Tree) → Spells bytes tree → depth_of tree.children ≤ 3
spelled_depth bytes tree s = subst (λ (t : Tree). depth_of t.children ≤ 3) s.element (root_depth (root_place s.document) s.document.root s.good)

pub found_depth : (bytes : List ℕ) (result : Result Tree ElementError) → ReadsElement bytes result → IfOk result (λ root. depth_of root.children ≤ 3)
found_depth bytes (Ok tree) spells = spelled_depth bytes tree spells
found_depth bytes (Err error) refused = tt
