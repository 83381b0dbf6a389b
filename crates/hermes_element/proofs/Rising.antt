-- The checks that fail in a document come in the order of their places, no two at one place.
use Rattle.std.proofs.Common.{◌≡◌, inl, inr, ℕ, ◌+◌, ◌<◌, ◌≤◌, Bool, true, false, cond, List, [], ◌∷◌, ◌++◌, Option, Some, None, is_some, length, refl, ap, arith, length-append}
use Rattle.std.specs.Prelude.{◌==◌, nat_lt}
use Rattle.std.specs.List.{list_any, flat_map, AllByRecursion}
use Rattle.std.specs.Str.{bytes_eq}
use Rattle.line_base.specs.Name.{IsName}
use Rattle.hermes_element.specs.Plain.{Piece, plain, escaped, piece_text, value_text, Escape, named, decimal, hexadecimal, escape_text, Assignment, assignment_front, assignment_text, IsAssignment, AreAssignments, Tag, tag_text, IsTag, EndTag, end_text, Content, last, empty, full, content_text, IsContent, Root, lone, holding, IsRoot}
use Rattle.hermes_element.specs.Checks.{Fault, fault_if, character_of, reference_faults, long_if_good, value_of, value_faults, assignment_faults, assignments_faults, tag_faults, end_faults, content_faults, root_faults}
use Rattle.hermes_element.specs.Refusal.{IsLeast, IsAmong}
use Rattle.hermes_element.specs.declared.refusal.Why.{Why}
use Rattle.hermes_element.specs.declared.refusal.Why.TheVariants as why

-- the places rise, from at least `low` to below `high`
abbrev pub Rising : ℕ → ℕ → List Fault → Type 0
Rising low high [] = low ≤ high
Rising low high (fault ∷ faults) = (low ≤ fault.0) × Rising (fault.0 + 1) high faults

lower : (low least high : ℕ) (faults : List Fault) → least ≤ low → Rising low high faults → Rising least high faults
lower low least high [] h r = omega arith
lower low least high (fault ∷ faults) h r = (omega (arith, r.0), r.1)

append : (low mid high : ℕ) (xs ys : List Fault) → Rising low mid xs → Rising mid high ys → Rising low high (xs ++ ys)
append low mid high [] ys r s = lower mid low high ys r s
append low mid high (fault ∷ xs) ys r s = (r.0, append (fault.0 + 1) mid high xs ys r.1 s)

higher : (low high most : ℕ) (faults : List Fault) → high ≤ most → Rising low high faults → Rising low most faults
higher low high most [] h r = omega arith
higher low high most (fault ∷ faults) h r = (r.0, higher (fault.0 + 1) high most faults h r.1)

at_if : (test : Bool) (at low high : ℕ) (reason : Why) → low ≤ at → at + 1 ≤ high → Rising low high (fault_if test at reason)
at_if true at low high reason a b = (a, b)
at_if false at low high reason a b = omega arith

pub escape_some : (e : Escape) → 0 < length (escape_text e)
escape_some (named word) = omega arith
escape_some (decimal word) = omega arith
escape_some (hexadecimal word) = omega arith

bad_if : (o : Option ℕ) (at high : ℕ) → at + 1 ≤ high → Rising at high (cond (is_some o) [] ((at, why.Reference) ∷ []))
bad_if None at high h = (omega arith, h)
bad_if (Some c) at high h = omega arith

references : (at : ℕ) (ps : List Piece) → Rising at (at + length (value_text ps)) (reference_faults at ps)
references at [] = omega arith
references at (plain c ∷ ps) =
    let next = at + length (piece_text (plain c)) in
    let e : next + length (value_text ps) ≤ at + length (value_text (plain c ∷ ps)) = omega (arith, length-append (piece_text (plain c)) (value_text ps)) in
    higher at (next + length (value_text ps)) (at + length (value_text (plain c ∷ ps))) (reference_faults next ps) e (lower next at (next + length (value_text ps)) (reference_faults next ps) (omega arith) (references next ps))
references at (escaped x ∷ ps) =
    let next = at + length (escape_text x) in
    let e : next + length (value_text ps) ≤ at + length (value_text (escaped x ∷ ps)) = omega (arith, length-append (escape_text x) (value_text ps)) in
    append at next (at + length (value_text (escaped x ∷ ps))) (cond (is_some (character_of x)) [] ((at, why.Reference) ∷ [])) (reference_faults next ps)
    (bad_if (character_of x) at next (omega (arith, escape_some x))) (higher next (next + length (value_text ps)) (at + length (value_text (escaped x ∷ ps))) (reference_faults next ps) e (references next ps))

long : (faults : List Fault) (at high : ℕ) (value : List ℕ) → at + 1 ≤ high → Rising at high faults → Rising at high (long_if_good faults at value)
long [] at high value h r = at_if (nat_lt 1024 (length value)) at at high why.LongValue (omega arith) h
long (fault ∷ faults) at high value h r = r

name_some : (name : List ℕ) → IsName name → 0 < length name
name_some [] h = absurd (cc)
name_some (x ∷ xs) h = omega arith

pub length_front : (a : Assignment) → length (assignment_front a) ≡ length a.gap + length a.name + length a.before + 1 + length a.after + 1
length_front a = simp length-append

length_text : (a : Assignment) → length (assignment_text a) ≡ length (assignment_front a) + length (value_text a.value) + 1
length_text a = simp length-append

assignment : (at : ℕ) (names : List (List ℕ)) (a : Assignment) → IsAssignment a → Rising at (at + length (assignment_text a)) (assignment_faults at names a)
assignment at names a is =
    let named_at = at + length a.gap in
    let behind = named_at + length a.name in
    let start = at + length (assignment_front a) in
    let high = at + length (assignment_text a) in
    let f = length_front a in
    let t = length_text a in
    let some = name_some a.name is.name in
    append at start high (fault_if (length names == 64) named_at why.Many ++ fault_if (list_any (bytes_eq a.name) names) behind why.Repeated) (value_faults start a.value)
    (append at behind start (fault_if (length names == 64) named_at why.Many) (fault_if (list_any (bytes_eq a.name) names) behind why.Repeated)
    (at_if (length names == 64) named_at at behind why.Many (omega arith) (omega arith))
    (at_if (list_any (bytes_eq a.name) names) behind behind start why.Repeated (omega arith) (omega (arith, f))))
    (long (reference_faults start a.value) start high (value_of a.value) (omega (arith, t))
    (higher start (start + length (value_text a.value)) high (reference_faults start a.value) (omega (arith, t)) (references start a.value)))

assignments : (at : ℕ) (names : List (List ℕ)) (list : List Assignment) → AreAssignments list → Rising at (at + length (flat_map assignment_text list)) (assignments_faults at names list)
assignments at names [] is = omega arith
assignments at names (a ∷ list) is =
    let next = at + length (assignment_text a) in
    let high = at + length (flat_map assignment_text (a ∷ list)) in
    append at next high (assignment_faults at names a) (assignments_faults next (names ++ a.name ∷ []) list) (assignment at names a is.0)
    (higher next (next + length (flat_map assignment_text list)) high (assignments_faults next (names ++ a.name ∷ []) list) (omega (arith, length-append (assignment_text a) (flat_map assignment_text list)))
    (assignments next (names ++ a.name ∷ []) list is.1))

pub tag_length : (tag : Tag) → length (tag_text tag) ≡ 1 + length tag.name + length (flat_map assignment_text tag.assignments) + length tag.gap
tag_length tag = simp length-append (omega arith)

tag_rising : (depth at : ℕ) (tag : Tag) → IsTag tag → Rising at (at + length (tag_text tag)) (tag_faults depth at tag)
tag_rising depth at tag is =
    let from = at + 1 + length tag.name in
    let high = at + length (tag_text tag) in
    let t = tag_length tag in
    append at from high (fault_if (depth == 5) at why.Deep) (assignments_faults from [] tag.assignments)
    (at_if (depth == 5) at at from why.Deep (omega arith) (omega arith))
    (higher from (from + length (flat_map assignment_text tag.assignments)) high (assignments_faults from [] tag.assignments) (omega (arith, t)) (assignments from [] tag.assignments is.assignments))

end_rising : (at : ℕ) (tag : Tag) (end : EndTag) (high : ℕ) → at + 3 ≤ high → Rising at high (end_faults at tag end)
end_rising at tag end high h = elim (bytes_eq end.name tag.name) as (λ t. Rising at high (cond t [] ((at + 2, why.EndName) ∷ []))) [
  | true ↦ omega arith
  | false ↦ (omega arith, omega arith)
]

pub end_length : (tag : EndTag) → length (end_text tag) ≡ length tag.name + length tag.gap + 3
end_length tag = simp length-append (omega arith)

empty_length : (gap t r : List ℕ) → length ((gap ++ (t ++ (47 ∷ 62 ∷ []))) ++ r) ≡ length gap + length t + 2 + length r
empty_length gap t r = simp length-append (omega arith)

pub full_length : (gap t inside e r : List ℕ) → length ((gap ++ (((t ++ (62 ∷ [])) ++ inside) ++ e)) ++ r) ≡ length gap + length t + 1 + length inside + length e + length r
full_length gap t inside e r = simp length-append (omega arith)

content_rising : (depth at : ℕ) (c : Content) → IsContent c → Rising at (at + length (content_text c)) (content_faults depth at c)
content_rising depth at (last gap) is = omega arith
content_rising depth at (empty gap tag rest) is =
    let start = at + length gap in
    let behind = start + length (tag_text tag) + 2 in
    let high = at + length (content_text (empty gap tag rest)) in
    let e = empty_length gap (tag_text tag) (content_text rest) in
    append at behind high (tag_faults depth start tag) (content_faults depth behind rest)
    (higher at (start + length (tag_text tag)) behind (tag_faults depth start tag) (omega arith) (lower start at (start + length (tag_text tag)) (tag_faults depth start tag) (omega arith) (tag_rising depth start tag is.1)))
    (higher behind (behind + length (content_text rest)) high (content_faults depth behind rest) (omega (arith, e)) (content_rising depth behind rest is.2))
content_rising depth at (full gap tag inside end rest) is =
    let start = at + length gap in
    let from = start + length (tag_text tag) + 1 in
    let to = from + length (content_text inside) in
    let behind = to + length end.name + length end.gap + 3 in
    let high = at + length (content_text (full gap tag inside end rest)) in
    let e = full_length gap (tag_text tag) (content_text inside) (end_text end) (content_text rest) in
    let own = tag_faults depth start tag in
    let inner = content_faults (depth + 1) from inside in
    append at behind high ((own ++ inner) ++ end_faults to tag end) (content_faults depth behind rest)
    (append at to behind (own ++ inner) (end_faults to tag end)
    (append at from to own inner (higher at (start + length (tag_text tag)) from own (omega arith) (lower start at (start + length (tag_text tag)) own (omega arith) (tag_rising depth start tag is.1))) (content_rising (depth + 1) from inside is.2))
    (end_rising to tag end behind (omega arith)))
    (higher behind (behind + length (content_text rest)) high (content_faults depth behind rest) (omega (arith, e, end_length end)) (content_rising depth behind rest is.4))

pub root_rising : (at : ℕ) (root : Root) → IsRoot root → (high : ℕ) × Rising at high (root_faults at root)
root_rising at (lone tag) is = (at + length (tag_text tag), tag_rising 1 at tag is)
root_rising at (holding tag inside end) is =
    let from = at + length (tag_text tag) + 1 in
    let to = from + length (content_text inside) in
    let own = tag_faults 1 at tag in
    let inner = content_faults 2 from inside in (
      to + 3,
      append at to (to + 3) (own ++ inner) (end_faults to tag end)
          (append at from to own inner (higher at (at + length (tag_text tag)) from own (omega arith) (tag_rising 1 at tag is.0)) (content_rising 2 from inside is.1))
          (end_rising to tag end (to + 3) (omega arith)),
    )

-- ---- so the first of them is the one of the least place

all_above : (low high least : ℕ) (faults : List Fault) → least ≤ low → Rising low high faults → AllByRecursion (λ other. least ≤ other.0) faults
all_above low high least [] h r = tt
all_above low high least (fault ∷ faults) h r = (omega (arith, r.0), all_above (fault.0 + 1) high least faults (omega (arith, r.0)) r.1)

pub first_least : (low high : ℕ) (fault : Fault) (faults : List Fault) → Rising low high (fault ∷ faults) → IsLeast (fault ∷ faults) fault
first_least low high fault faults r = record { among = inl refl; least = (omega arith, all_above (fault.0 + 1) high fault.0 faults (omega arith) r.1) }

above_all : (low high : ℕ) (faults : List Fault) (fault : Fault) → Rising low high faults → IsAmong fault faults → low ≤ fault.0
above_all low high [] fault r h = absurd h
above_all low high (first ∷ faults) fault r (inl e) = let p = ap (λ (f : Fault). f.0) e in omega (arith, r.0, p)
above_all low high (first ∷ faults) fault r (inr h) = let p = above_all (first.0 + 1) high faults fault r.1 h in omega (arith, r.0, p)

pub least_first : (low high : ℕ) (fault first : Fault) (faults : List Fault) → Rising low high (first ∷ faults) → IsLeast (first ∷ faults) fault → first ≡ fault
least_first low high fault first faults r least = elim least.among [
  | inl e ↦ e
  | inr h ↦ let p = above_all (first.0 + 1) high faults fault r.1 h in absurd (omega (arith, p, least.least.0))
]
