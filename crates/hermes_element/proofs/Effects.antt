-- What the effects of a document's parts come to: the first check that fails, or the element.
use Rattle.std.proofs.Common.{◌≡◌, ℕ, suc, ◌+◌, ◌-◌, ◌<◌, Bool, true, false, cond, not, List, [], ◌∷◌, ◌++◌, Some, None, is_some, Result, Ok, Err, length, refl, ap, sym, ◌∙◌, append_assoc, append-nil, arith, length-append}
use Rattle.std.specs.Prelude.{◌==◌, ◌&&◌, nat_lt}
use Rattle.std.specs.List.{list_any}
use Rattle.std.specs.Str.{bytes_eq}
use Rattle.std.specs.Char.{encode_utf8}
use Rattle.std.proofs.lemmas.Bool.Decides.{nat_tests}
use Rattle.line_base.specs.Name.{IsName}
use Rattle.hermes_element.specs.Plain.{Piece, plain, escaped, piece_text, Assignment, assignment_front, assignment_text, IsAssignment, AreAssignments, Tag, tag_text, IsTag, EndTag, IsEndTag, Content, last, empty, full, content_text, IsContent, Root, lone, holding, IsRoot}
use Rattle.hermes_element.specs.Checks.{Fault, fault_if, character_of, encoded, spaced, value_from, reference_faults, long_if_good, value_faults, assignment_faults, assignments_faults, tag_faults, end_faults, content_faults, root_faults, attribute_of, attributes_of, tag_attributes, forest_in, root_children, root_tag}
use Rattle.hermes_element.specs.Element.{Forest, none, more, Tree, add}
use Rattle.hermes_element.specs.Machine.{Build, ◌>>=◌, check, in_tag, between, with_attribute, names_of, end_value, end_key, begin_value, refer, ended, add_last, is_none, innermost, outer, close, begin_end}
use Rattle.hermes_element.specs.Steps.{valuing}
use Rattle.hermes_element.specs.declared.attribute.Attribute.{Attribute}
use Rattle.hermes_element.specs.declared.refusal.Why.{Why}
use Rattle.hermes_element.specs.declared.refusal.Why.TheVariants as why
use Rattle.hermes_element.proofs.Tags.{keying}
use Rattle.hermes_element.proofs.Roots.{innermost-push, outer-push, add_last-push, length-push}
use Rattle.hermes_element.proofs.Complete.{folded, words}
use Rattle.hermes_element.proofs.Parts.{pieces_effect, key_effect, add_key, keys, assignment_effect, assignments_effect, name_effect, add_name, names, tag_effect}
use Rattle.hermes_element.proofs.Whole.{word_effect, match_effect, end_effect, push_tag, end_empty, content_effect, root_effect}

-- the first fault, or what was made
abbrev pub settle : List Fault → Build → Result Build Fault
settle [] b = Ok b
settle (fault ∷ faults) b = Err fault

pub settle_bind : (faults rest : List Fault) (b d : Build) (f : Build → Result Build Fault) → f b ≡ settle rest d → (settle faults b >>= f) ≡ settle (faults ++ rest) d
settle_bind [] rest b d f e = e
settle_bind (fault ∷ faults) rest b d f e = refl

check_is : (t : Bool) (at : ℕ) (reason : Why) (b : Build) → check t (at, reason) b ≡ settle (fault_if t at reason) b
check_is true at reason b = refl
check_is false at reason b = refl

-- ---- values

value_settle : (at : ℕ) (ps : List Piece) (c : Build) (key : List ℕ) (start : ℕ) (value : List ℕ) (after_cr : Bool)
    → (pieces_effect at ps (valuing c key start value after_cr) >>= end_value)
    ≡ settle (long_if_good (reference_faults at ps) start (value ++ value_from after_cr ps)) (in_tag c.roots c.stack (with_attribute c.tag key (value ++ value_from after_cr ps) start))
value_settle at [] c key start value after_cr =
    check_is (nat_lt 1024 (length value)) start why.LongValue (in_tag c.roots c.stack (with_attribute c.tag key value start))
    ∙ ap (λ v. settle (fault_if (nat_lt 1024 (length v)) start why.LongValue) (in_tag c.roots c.stack (with_attribute c.tag key v start))) (sym (append-nil value))
value_settle at (plain x ∷ ps) c key start value after_cr =
    let own = cond (after_cr && x == 10) [] (encode_utf8 (spaced x)) in
    value_settle (at + length (piece_text (plain x))) ps c key start (value ++ own) (x == 13)
    ∙ ap (λ v. settle (long_if_good (reference_faults (at + length (piece_text (plain x))) ps) start v) (in_tag c.roots c.stack (with_attribute c.tag key v start))) (append_assoc value own (value_from (x == 13) ps))
value_settle at (escaped e ∷ ps) c key start value after_cr =
    let next = at + length (piece_text (escaped e)) in
    elim (character_of e) as (λ o. ((refer at o (valuing c key start value after_cr) >>= pieces_effect next ps) >>= end_value)
    ≡ settle (long_if_good (cond (is_some o) [] ((at, why.Reference) ∷ []) ++ reference_faults next ps) start (value ++ (encoded o ++ value_from false ps)))
    (in_tag c.roots c.stack (with_attribute c.tag key (value ++ (encoded o ++ value_from false ps)) start))) [
      | None ↦ refl
      | Some char ↦ value_settle next ps c key start (value ++ encode_utf8 char) false
          ∙ ap (λ v. settle (long_if_good (reference_faults next ps) start v) (in_tag c.roots c.stack (with_attribute c.tag key v start))) (append_assoc value (encode_utf8 char) (value_from false ps))
    ]

-- ---- attributes

length-names : (list : List Attribute) → length (names_of list) ≡ length list
length-names [] = refl
length-names (a ∷ list) = ap suc (length-names list)

names-append : (list : List Attribute) (a : Attribute) → names_of (list ++ a ∷ []) ≡ names_of list ++ a.name ∷ []
names-append [] a = refl
names-append (b ∷ list) a = ap (λ l. b.name ∷ l) (names-append list a)

key_settle : (at : ℕ) (name : List ℕ) (roots : Forest) (stack : List Tree) (tag : Tree) → IsName name
    → key_effect at name (in_tag roots stack tag) ≡ settle (fault_if (length (names_of tag.attributes) == 64) at why.Many) (keying roots stack tag name)
key_settle at [] roots stack tag h = absurd (cc)
key_settle at (x ∷ xs) roots stack tag h =
    ap (λ r. r >>= (λ b. Ok (folded add_key xs b))) (check_is (length tag.attributes == 64) at why.Many (keying roots stack tag (x ∷ [])))
    ∙ settle_bind (fault_if (length tag.attributes == 64) at why.Many) [] (keying roots stack tag (x ∷ [])) (keying roots stack tag (x ∷ xs)) (λ b. Ok (folded add_key xs b)) (ap (λ (b : Build). Ok b) (keys xs (keying roots stack tag (x ∷ []))))
    ∙ ap (λ l. settle l (keying roots stack tag (x ∷ xs))) (append-nil (fault_if (length tag.attributes == 64) at why.Many))
    ∙ ap (λ n. settle (fault_if (n == 64) at why.Many) (keying roots stack tag (x ∷ xs))) (sym (length-names tag.attributes))

front_some : (a : Assignment) → 0 < length (assignment_front a)
front_some a = simp length-append (omega arith)

settled_value : (faults : List Fault) (b : Build) (f : Build → Result Build Fault) → ((settle faults b >>= f) >>= end_value) ≡ (settle faults b >>= (λ b. f b >>= end_value))
settled_value [] b f = refl
settled_value (fault ∷ faults) b f = refl

assignment_settle : (at : ℕ) (a : Assignment) (roots : Forest) (stack : List Tree) (tag : Tree) → IsAssignment a
    → assignment_effect at a (in_tag roots stack tag)
    ≡ settle (assignment_faults at (names_of tag.attributes) a) (in_tag roots stack (record tag { attributes = tag.attributes ++ attribute_of at a ∷ [] }))
assignment_settle at a roots stack tag is =
    let named_at = at + length a.gap in
    let behind = named_at + length a.name in
    let start = at + length (assignment_front a) in
    let k = keying roots stack tag a.name in
    let v = valuing (in_tag roots stack tag) a.name start [] false in
    let done = in_tag roots stack (record tag { attributes = tag.attributes ++ attribute_of at a ∷ [] }) in
    let many = fault_if (length (names_of tag.attributes) == 64) named_at why.Many in
    let again = fault_if (list_any (bytes_eq a.name) (names_of tag.attributes)) behind why.Repeated in
    let some = front_some a in
    let first : (start - 1) + 1 ≡ start = omega arith in
    ap (λ r. ((((r >>= (end_key behind)) >>= (λ b. Ok (begin_value (start - 1) b))) >>= pieces_effect start a.value) >>= end_value)) (key_settle named_at a.name roots stack tag is.name)
    ∙ ap (λ r. (((r >>= (λ b. Ok (begin_value (start - 1) b))) >>= pieces_effect start a.value) >>= end_value))
    (settle_bind many again k k (end_key behind) (check_is (list_any (bytes_eq a.name) (names_of tag.attributes)) behind why.Repeated k))
    ∙ ap (λ r. ((r >>= pieces_effect start a.value) >>= end_value))
    (settle_bind (many ++ again) [] k v (λ b. Ok (begin_value (start - 1) b)) (ap (λ n. Ok (valuing (in_tag roots stack tag) a.name n [] false)) first)
    ∙ ap (λ l. settle l v) (append-nil (many ++ again)))
    ∙ settled_value (many ++ again) v (pieces_effect start a.value)
    ∙ settle_bind (many ++ again) (value_faults start a.value) v done (λ b. pieces_effect start a.value b >>= end_value) (value_settle start a.value (in_tag roots stack tag) a.name start [] false)

assignments_settle : (at : ℕ) (list : List Assignment) (roots : Forest) (stack : List Tree) (tag : Tree) → AreAssignments list
    → assignments_effect at list (in_tag roots stack tag)
    ≡ settle (assignments_faults at (names_of tag.attributes) list) (in_tag roots stack (record tag { attributes = tag.attributes ++ attributes_of at list }))
assignments_settle at [] roots stack tag is = ap (λ l. Ok (in_tag roots stack (record tag { attributes = l }))) (sym (append-nil tag.attributes))
assignments_settle at (a ∷ list) roots stack tag is =
    let next = at + length (assignment_text a) in
    let grown = record tag { attributes = tag.attributes ++ attribute_of at a ∷ [] } in
    let own = assignment_faults at (names_of tag.attributes) a in
    let done = in_tag roots stack (record tag { attributes = tag.attributes ++ (attribute_of at a ∷ attributes_of next list) }) in
    ap (λ r. r >>= assignments_effect next list) (assignment_settle at a roots stack tag is.0)
    ∙ settle_bind own (assignments_faults next (names_of tag.attributes ++ a.name ∷ []) list) (in_tag roots stack grown) done (assignments_effect next list)
    (assignments_settle next list roots stack grown is.1
    ∙ ap (λ l. settle (assignments_faults next l list) (in_tag roots stack (record tag { attributes = (tag.attributes ++ attribute_of at a ∷ []) ++ attributes_of next list }))) (names-append tag.attributes (attribute_of at a))
    ∙ ap (λ l. settle (assignments_faults next (names_of tag.attributes ++ a.name ∷ []) list) (in_tag roots stack (record tag { attributes = l }))) (append_assoc tag.attributes (attribute_of at a ∷ []) (attributes_of next list)))

-- ---- tags

abbrev pub start_of : ℕ → Tag → Tree
start_of at tag = record { name = tag.name; at = at; attributes = tag_attributes at tag; children = none }

name_settle : (at : ℕ) (name : List ℕ) (roots : Forest) (stack : List Tree) → IsName name
    → name_effect (at + 1) name (between roots stack)
    ≡ settle (fault_if (length stack + 1 == 5) at why.Deep) (in_tag roots stack (record { name = name; at = at; attributes = []; children = none }))
name_settle at [] roots stack h = absurd (cc)
name_settle at (x ∷ xs) roots stack h =
    let place : (at + 1) - 1 ≡ at = omega arith in
    let depth : (length stack == 4) ≡ (length stack + 1 == 5) = grind (arith, nat_tests) in
    let t : List ℕ → ℕ → Build = λ word k. in_tag roots stack (record { name = word; at = k; attributes = []; children = none }) in
    ap (λ r. r >>= (λ b. Ok (folded add_name xs b))) (check_is (length stack == 4) ((at + 1) - 1) why.Deep (t (x ∷ []) ((at + 1) - 1)))
    ∙ settle_bind (fault_if (length stack == 4) ((at + 1) - 1) why.Deep) [] (t (x ∷ []) ((at + 1) - 1)) (t (x ∷ xs) ((at + 1) - 1)) (λ b. Ok (folded add_name xs b)) (ap (λ (b : Build). Ok b) (names xs (t (x ∷ []) ((at + 1) - 1))))
    ∙ ap (λ l. settle l (t (x ∷ xs) ((at + 1) - 1))) (append-nil (fault_if (length stack == 4) ((at + 1) - 1) why.Deep))
    ∙ ap (λ k. settle (fault_if (length stack == 4) k why.Deep) (t (x ∷ xs) k)) place
    ∙ ap (λ test. settle (fault_if test at why.Deep) (t (x ∷ xs) at)) depth

tag_settle : (at : ℕ) (tag : Tag) (roots : Forest) (stack : List Tree) → IsTag tag
    → tag_effect at tag (between roots stack) ≡ settle (tag_faults (length stack + 1) at tag) (in_tag roots stack (start_of at tag))
tag_settle at tag roots stack is =
    let from = at + 1 + length tag.name in
    let named : Tree = record { name = tag.name; at = at; attributes = []; children = none } in
    ap (λ r. r >>= assignments_effect from tag.assignments) (name_settle at tag.name roots stack is.name)
    ∙ settle_bind (fault_if (length stack + 1 == 5) at why.Deep) (assignments_faults from [] tag.assignments) (in_tag roots stack named) (in_tag roots stack (start_of at tag)) (assignments_effect from tag.assignments)
    (assignments_settle from tag.assignments roots stack named is.assignments)

-- ---- content

abbrev join : Forest → Forest → Forest
join none forest = forest
join (more name at attributes children rest) forest = more name at attributes children (join rest forest)

join-none : (forest : Forest) → join forest none ≡ forest
join-none none = refl
join-none (more name at attributes children rest) = ap (more name at attributes children) (join-none rest)

join-add : (forest : Forest) (tree : Tree) (rest : Forest) → join (add forest tree) rest ≡ join forest (more tree.name tree.at tree.attributes tree.children rest)
join-add none tree rest = refl
join-add (more name at attributes children next) tree rest = ap (more name at attributes children) (join-add next tree rest)

is_none-push : (stack : List Tree) (top : Tree) → is_none (stack ++ top ∷ []) ≡ false
is_none-push [] top = refl
is_none-push (a ∷ stack) top = refl

ended-push : (roots : Forest) (stack : List Tree) (top tree : Tree) → ended roots (stack ++ top ∷ []) tree ≡ between roots (stack ++ record top { children = add top.children tree } ∷ [])
ended-push roots stack top tree =
    ap (λ t. between (cond t (add roots tree) roots) (add_last (stack ++ top ∷ []) tree)) (is_none-push stack top)
    ∙ ap (λ l. between roots l) (add_last-push stack top tree)

-- the innermost open element has these children more
abbrev grown : Forest → List Tree → Tree → Forest → Build
grown roots stack top children = between roots (stack ++ record top { children = join top.children children } ∷ [])

fault_not : (t : Bool) (at : ℕ) (reason : Why) → fault_if (not t) at reason ≡ cond t [] ((at, reason) ∷ [])
fault_not true at reason = refl
fault_not false at reason = refl

word_is : (at : ℕ) (name : List ℕ) (b : Build) → b.scratch.word ≡ [] → IsName name → word_effect at name b ≡ Ok (record b { scratch = record b.scratch { word = name; start = at } })
word_is at [] b e h = absurd (cc)
word_is at (x ∷ xs) b e h = ap (λ (w : Build). Ok w) (words xs (begin_end at x b))

end_settle : (at : ℕ) (tag : EndTag) (start : Tag) (roots : Forest) (stack : List Tree) (top : Tree) → IsEndTag tag → top.name ≡ start.name
    → end_effect at tag.name (between roots (stack ++ top ∷ [])) ≡ settle (end_faults at start tag) (ended roots stack top)
end_settle at tag start roots stack top is same =
    let b = between roots (stack ++ top ∷ []) in
    let w = record b { scratch = record b.scratch { word = tag.name; start = at + 2 } } in
    ap (λ r. r >>= match_effect) (word_is (at + 2) tag.name b refl is.name)
    ∙ check_is (not (bytes_eq tag.name (innermost (stack ++ top ∷ [])).name)) (at + 2) why.EndName (close b)
    ∙ ap (λ l. settle l (close b)) (fault_not (bytes_eq tag.name (innermost (stack ++ top ∷ [])).name) (at + 2) why.EndName)
    ∙ ap (λ (t : Tree). settle (cond (bytes_eq tag.name t.name) [] ((at + 2, why.EndName) ∷ [])) (ended roots (outer (stack ++ top ∷ [])) t)) (innermost-push stack top)
    ∙ ap (λ n. settle (cond (bytes_eq tag.name n) [] ((at + 2, why.EndName) ∷ [])) (ended roots (outer (stack ++ top ∷ [])) top)) same
    ∙ ap (λ s. settle (end_faults at start tag) (ended roots s top)) (outer-push stack top)

content_settle : (at : ℕ) (c : Content) (roots : Forest) (stack : List Tree) (top : Tree) → IsContent c
    → content_effect at c (between roots (stack ++ top ∷ [])) ≡ settle (content_faults (length stack + 2) at c) (grown roots stack top (forest_in at c))
content_settle at (last gap) roots stack top is = ap (λ f. Ok (between roots (stack ++ record top { children = f } ∷ []))) (sym (join-none top.children))
content_settle at (empty gap tag rest) roots stack top is =
    let start = at + length gap in
    let behind = start + length (tag_text tag) + 2 in
    let open_stack = stack ++ top ∷ [] in
    let element = start_of start tag in
    let next = record top { children = add top.children element } in
    let own = tag_faults (length stack + 2) start tag in
    let depth : length open_stack + 1 ≡ length stack + 2 = omega (arith, length-push stack top) in
    ap (λ r. (r >>= end_empty) >>= content_effect behind rest) (tag_settle start tag roots open_stack is.1 ∙ ap (λ n. settle (tag_faults n start tag) (in_tag roots open_stack element)) depth)
    ∙ ap (λ r. r >>= content_effect behind rest) (settle_bind own [] (in_tag roots open_stack element) (between roots (stack ++ next ∷ [])) end_empty (ap (λ (b : Build). Ok b) (ended-push roots stack top element)) ∙ ap (λ l. settle l (between roots (stack ++ next ∷ []))) (append-nil own))
    ∙ settle_bind own (content_faults (length stack + 2) behind rest) (between roots (stack ++ next ∷ [])) (grown roots stack top (forest_in at (empty gap tag rest))) (content_effect behind rest)
    (content_settle behind rest roots stack next is.2
    ∙ ap (λ f. settle (content_faults (length stack + 2) behind rest) (between roots (stack ++ record top { children = f } ∷ []))) (join-add top.children element (forest_in behind rest)))
content_settle at (full gap tag inside end rest) roots stack top is =
    let start = at + length gap in
    let from = start + length (tag_text tag) + 1 in
    let to = from + length (content_text inside) in
    let behind = to + length end.name + length end.gap + 3 in
    let open_stack = stack ++ top ∷ [] in
    let begun = start_of start tag in
    let element = record begun { children = forest_in from inside } in
    let next = record top { children = add top.children element } in
    let own = tag_faults (length stack + 2) start tag in
    let inner = content_faults (length stack + 2 + 1) from inside in
    let close_faults = end_faults to tag end in
    let depth : length open_stack + 1 ≡ length stack + 2 = omega (arith, length-push stack top) in
    let deeper : length open_stack + 2 ≡ length stack + 2 + 1 = omega (arith, length-push stack top) in
    let e1 = tag_settle start tag roots open_stack is.1 ∙ ap (λ n. settle (tag_faults n start tag) (in_tag roots open_stack begun)) depth in
    let e2 = ap (λ r. r >>= push_tag) e1 ∙ settle_bind own [] (in_tag roots open_stack begun) (between roots (open_stack ++ begun ∷ [])) push_tag refl ∙ ap (λ l. settle l (between roots (open_stack ++ begun ∷ []))) (append-nil own) in
    let e3 = ap (λ r. r >>= content_effect from inside) e2
    ∙ settle_bind own inner (between roots (open_stack ++ begun ∷ [])) (between roots (open_stack ++ element ∷ [])) (content_effect from inside)
    (content_settle from inside roots open_stack begun is.2 ∙ ap (λ n. settle (content_faults n from inside) (between roots (open_stack ++ element ∷ []))) deeper) in
    let e4 = ap (λ r. r >>= end_effect to end.name) e3
    ∙ settle_bind (own ++ inner) close_faults (between roots (open_stack ++ element ∷ [])) (between roots (stack ++ next ∷ [])) (end_effect to end.name)
    (end_settle to end tag roots open_stack element is.3 refl ∙ ap (λ b. settle close_faults b) (ended-push roots stack top element)) in
    ap (λ r. r >>= content_effect behind rest) e4
    ∙ settle_bind ((own ++ inner) ++ close_faults) (content_faults (length stack + 2) behind rest) (between roots (stack ++ next ∷ [])) (grown roots stack top (forest_in at (full gap tag inside end rest))) (content_effect behind rest)
    (content_settle behind rest roots stack next is.4
    ∙ ap (λ f. settle (content_faults (length stack + 2) behind rest) (between roots (stack ++ record top { children = f } ∷ []))) (join-add top.children element (forest_in behind rest)))

-- ---- the root

abbrev pub root_tree : ℕ → Root → Tree
root_tree at root = record { name = (root_tag root).name; at = at; attributes = tag_attributes at (root_tag root); children = root_children at root }

pub root_settle : (at : ℕ) (root : Root) → IsRoot root → root_effect at root (between none []) ≡ settle (root_faults at root) (between (add none (root_tree at root)) [])
root_settle at (lone tag) is =
    let own = tag_faults 1 at tag in
    let done = between (add none (root_tree at (lone tag))) [] in
    ap (λ r. r >>= end_empty) (tag_settle at tag none [] is)
    ∙ settle_bind own [] (in_tag none [] (start_of at tag)) done end_empty refl ∙ ap (λ l. settle l done) (append-nil own)
root_settle at (holding tag inside end) is =
    let from = at + length (tag_text tag) + 1 in
    let to = from + length (content_text inside) in
    let begun = start_of at tag in
    let element = record begun { children = forest_in from inside } in
    let own = tag_faults 1 at tag in
    let inner = content_faults 2 from inside in
    let done = between (add none (root_tree at (holding tag inside end))) [] in
    let e1 = tag_settle at tag none [] is.0 in
    let e2 = ap (λ r. r >>= push_tag) e1 ∙ settle_bind own [] (in_tag none [] begun) (between none (begun ∷ [])) push_tag refl ∙ ap (λ l. settle l (between none (begun ∷ []))) (append-nil own) in
    let e3 = ap (λ r. r >>= content_effect from inside) e2
    ∙ settle_bind own inner (between none (begun ∷ [])) (between none (element ∷ [])) (content_effect from inside) (content_settle from inside none [] begun is.1) in
    ap (λ r. r >>= end_effect to end.name) e3
    ∙ settle_bind (own ++ inner) (end_faults to tag end) (between none (element ∷ [])) done (end_effect to end.name) (end_settle to end tag none [] element is.2 refl)
