-- Links and machines by their number.
use Rattle.std.proofs.Common.{◌≡◌, ◌≢◌, ◌⊎◌, ◌∙◌, inl, inr, ℕ, zero, suc, ◌-◌, ◌<◌, ◌≤◌, ◌++◌, Bool, true, false, List, [], ◌∷◌, Some, length, refl, sym, ap, arith, eqb-true, length-set, nat_eq}
use Rattle.std.specs.Prelude.{cond, nat_lt, slice_get, slice_index_or, slice_set}
use Rattle.std.proofs.lemmas.Bool.{eqb-false}
use Rattle.std.proofs.lemmas.List.{get_or-set_same, get_or-set_other, get_or_past}
use Rattle.std.proofs.lemmas.Option.{slice_get-get_or, slice_get_past, slice_get_within}
use Rattle.line_world.proofs.Keeping.{counted_test}
use Rattle.line_link.specs.Link.{LinkParts, no_link}
use Rattle.node_core.specs.Node.{NodeState}
use Rattle.line_step.specs.World.{WorldParts, link_at, with_link}
use Rattle.line_step.specs.State.{LineState, machine_in, with_machine}

-- ---- numbers

same_by : (a b : ℕ) (test : Bool) → nat_eq a b ≡ test → (a ≡ b) ⊎ (a ≢ b)
same_by a b true is = inl (eqb-true a b is)
same_by a b false is = inr (eqb-false a b is)

pub same_or_not : (a b : ℕ) → (a ≡ b) ⊎ (a ≢ b)
same_or_not a b = same_by a b (nat_eq a b) refl

pub none_or_one : (n : ℕ) → (n ≡ 0) ⊎ (1 ≤ n)
none_or_one zero = inl refl
none_or_one (suc k) = inr (omega arith)

beyond_by : (n count : ℕ) (test : Bool) → nat_lt count n ≡ test → (n ≤ count) ⊎ (count < n)
beyond_by n count true is = inr (grind (arith, is))
beyond_by n count false is = inl (grind (arith, is))

pub beyond_or_not : (n count : ℕ) → (n ≤ count) ⊎ (count < n)
beyond_or_not n count = beyond_by n count (nat_lt count n) refl

-- ---- lists whose elements are numbered from 1

abbrev pub at_number : {X : Type 0} → List X → ℕ → X → X
at_number xs number none = cond (nat_lt 0 number) (slice_index_or xs (number - 1) none) none

abbrev pub with_number : {X : Type 0} → List X → ℕ → X → List X
with_number xs number x = cond (nat_lt 0 number) (slice_set xs (number - 1) x) xs

at_there : {X : Type 0} (xs : List X) (number : ℕ) (none : X) → 1 ≤ number → at_number xs number none ≡ slice_index_or xs (number - 1) none
at_there xs number none counted = rw (counted_test number counted) refl

with_there : {X : Type 0} (xs : List X) (number : ℕ) (x : X) → 1 ≤ number → with_number xs number x ≡ slice_set xs (number - 1) x
with_there xs number x counted = rw (counted_test number counted) refl

other_there : {X : Type 0} (xs : List X) (number other : ℕ) (x none : X) → 1 ≤ number → 1 ≤ other → other ≢ number → at_number (with_number xs number x) other none ≡ at_number xs other none
other_there {X} xs number other x none counted here apart =
    let places : other - 1 ≢ number - 1 = omega arith in
    ap (λ (ys : List X). at_number ys other none) (with_there xs number x counted) ∙ at_there (slice_set xs (number - 1) x) other none here ∙ get_or-set_other xs (number - 1) (other - 1) x none places ∙ sym (at_there xs other none here)

-- a change changes no other element
pub number_other : {X : Type 0} (xs : List X) (number other : ℕ) (x none : X) → other ≢ number → at_number (with_number xs number x) other none ≡ at_number xs other none
number_other xs number other x none apart =
    elim (none_or_one number) [ inl zeroth ↦ rw zeroth refl | inr counted ↦ elim (none_or_one other) [ inl zeroth ↦ rw zeroth refl | inr here ↦ other_there xs number other x none counted here apart ] ]

pub number_own : {X : Type 0} (xs : List X) (number : ℕ) (x none : X) → 1 ≤ number → number ≤ length xs → at_number (with_number xs number x) number none ≡ x
number_own {X} xs number x none counted within =
    let place : number - 1 < length xs = omega arith in
    ap (λ (ys : List X). at_number ys number none) (with_there xs number x counted) ∙ at_there (slice_set xs (number - 1) x) number none counted ∙ get_or-set_same xs (number - 1) x none place

-- beyond its end there is none
pub number_past : {X : Type 0} (xs : List X) (number : ℕ) (none : X) → length xs < number → at_number xs number none ≡ none
number_past xs number none behind = at_there xs number none (omega arith) ∙ get_or_past xs (number - 1) none (omega arith)

pub numbers_stay : {X : Type 0} (xs : List X) (number : ℕ) (x : X) → length (with_number xs number x) ≡ length xs
numbers_stay {X} xs number x = elim (none_or_one number) [ inl zeroth ↦ rw zeroth refl | inr counted ↦ ap (λ (ys : List X). length ys) (with_there xs number x counted) ∙ length-set xs (number - 1) x ]

pub number_at : {X : Type 0} (xs ys : List X) (number : ℕ) (none : X) → 1 ≤ number → slice_index_or xs (number - 1) none ≡ slice_index_or ys (number - 1) none → at_number xs number none ≡ at_number ys number none
number_at xs ys number none counted same = at_there xs number none counted ∙ same ∙ sym (at_there ys number none counted)

-- a list with one more element that is none
pub none_more : {X : Type 0} (xs : List X) (place : ℕ) (none : X) → slice_index_or (xs ++ none ∷ []) place none ≡ slice_index_or xs place none
none_more [] zero none = refl
none_more [] (suc place) none = refl
none_more (x ∷ xs) zero none = refl
none_more (x ∷ xs) (suc place) none = none_more xs place none

none_by : {X : Type 0} (test : Bool) (a b none : X) → a ≡ b → cond test a none ≡ cond test b none
none_by true a b none is = is
none_by false a b none is = refl

pub number_more : {X : Type 0} (xs : List X) (number : ℕ) (none : X) → at_number (xs ++ none ∷ []) number none ≡ at_number xs number none
number_more xs number none = none_by (nat_lt 0 number) (slice_index_or (xs ++ none ∷ []) (number - 1) none) (slice_index_or xs (number - 1) none) none (none_more xs (number - 1) none)

-- ---- links

links_by : (test : Bool) (place : ℕ) (parts : LinkParts) (world : WorldParts) → (cond test (record world { links = slice_set world.links place parts }) world).links ≡ cond test (slice_set world.links place parts) world.links
links_by true place parts world = refl
links_by false place parts world = refl

links_with : (link : ℕ) (parts : LinkParts) (world : WorldParts) → (with_link link parts world).links ≡ with_number world.links link parts
links_with link parts world = links_by (nat_lt 0 link) (link - 1) parts world

-- a changed link changes no other
pub link_set_other : (link other : ℕ) (parts : LinkParts) (world : WorldParts) → other ≢ link → link_at other (with_link link parts world) ≡ link_at other world
link_set_other link other parts world apart = ap (λ (ls : List LinkParts). at_number ls other no_link) (links_with link parts world) ∙ number_other world.links link other parts no_link apart

pub link_set_own : (link : ℕ) (parts : LinkParts) (world : WorldParts) → 1 ≤ link → link ≤ length world.links → link_at link (with_link link parts world) ≡ parts
link_set_own link parts world counted within = ap (λ (ls : List LinkParts). at_number ls link no_link) (links_with link parts world) ∙ number_own world.links link parts no_link counted within

pub link_beyond : (link : ℕ) (world : WorldParts) → length world.links < link → link_at link world ≡ no_link
link_beyond link world behind = number_past world.links link no_link behind

pub links_stay : (link : ℕ) (parts : LinkParts) (world : WorldParts) → length (with_link link parts world).links ≡ length world.links
links_stay link parts world = ap (λ (ls : List LinkParts). length ls) (links_with link parts world) ∙ numbers_stay world.links link parts

floor_by : (test : Bool) (links : List LinkParts) (world : WorldParts) → (cond test (record world { links = links }) world).floor ≡ world.floor
floor_by true links world = refl
floor_by false links world = refl

pub floor_stays : (link : ℕ) (parts : LinkParts) (world : WorldParts) → (with_link link parts world).floor ≡ world.floor
floor_stays link parts world = floor_by (nat_lt 0 link) (slice_set world.links (link - 1) parts) world

-- a link that is there is what it was changed to, and one that isn't has nothing connected
pub data Written (link : ℕ) (parts : LinkParts) (world : WorldParts) : Type 0 where
  written : link_at link (with_link link parts world) ≡ parts → Written link parts world
  nowhere : link_at link (with_link link parts world) ≡ no_link → link_at link world ≡ no_link → Written link parts world

pub link_set : (link : ℕ) (parts : LinkParts) (world : WorldParts) → Written link parts world
link_set link parts world =
    elim (none_or_one link) [
      | inl none ↦ nowhere (rw none refl) (rw none refl)
      | inr counted ↦
          elim (beyond_or_not link (length world.links)) [
            | inl within ↦ written (link_set_own link parts world counted within)
            | inr behind ↦ nowhere (link_beyond link (with_link link parts world) (omega (arith, links_stay link parts world))) (link_beyond link world behind)
          ]
    ]

-- ---- machines

get_set_same : (nodes : List NodeState) (place : ℕ) (node : NodeState) → place < length nodes → slice_get (slice_set nodes place node) place ≡ Some node
get_set_same nodes place node within =
    let here : place < length (slice_set nodes place node) = omega (arith, length-set nodes place node) in
    slice_get-get_or (slice_set nodes place node) place node here ∙ ap (λ (n : NodeState). Some n) (get_or-set_same nodes place node node within)

get_set_other : (nodes : List NodeState) (place other : ℕ) (node : NodeState) → other ≢ place → slice_get (slice_set nodes place node) other ≡ slice_get nodes other
get_set_other nodes place other node apart =
    elim (beyond_or_not (length nodes) other) [
      | inl behind ↦ slice_get_past (slice_set nodes place node) other (omega (arith, length-set nodes place node)) ∙ sym (slice_get_past nodes other behind)
      | inr within ↦
          slice_get-get_or (slice_set nodes place node) other node (omega (arith, length-set nodes place node)) ∙ ap (λ (n : NodeState). Some n) (get_or-set_other nodes place other node node apart)
          ∙ sym (slice_get-get_or nodes other node within)
    ]

found : (nodes : List NodeState) (place : ℕ) → place < length nodes → (node : NodeState) × (slice_get nodes place ≡ Some node)
found [] place within = absurd (omega arith)
found (node ∷ nodes) place within = (slice_index_or (node ∷ nodes) place node, slice_get-get_or (node ∷ nodes) place node within)

-- a machine that is there has a place
pub machine_within : (machine : ℕ) (s : LineState) (node : NodeState) → machine_in machine s ≡ Some node → (1 ≤ machine) × (machine ≤ length s.machines)
machine_within zero s node there = absurd (cc)
machine_within (suc place) s node there =
    let within : place < length s.machines = slice_get_within s.machines place node there in
    (omega arith, omega arith)

-- and each number up to the count of machines has a machine
pub machine_at_number : (machine : ℕ) (s : LineState) → 1 ≤ machine → machine ≤ length s.machines → (node : NodeState) × (machine_in machine s ≡ Some node)
machine_at_number zero s counted within = absurd (omega arith)
machine_at_number (suc place) s counted within = found s.machines place (omega arith)

-- a changed machine is there, and no other one changes
pub machine_set_own : (machine : ℕ) (s : LineState) (node next : NodeState) → machine_in machine s ≡ Some node → machine_in machine (with_machine machine next s) ≡ Some next
machine_set_own zero s node next there = absurd (cc)
machine_set_own (suc place) s node next there =
    let within : place < length s.machines = slice_get_within s.machines place node there in
    let same : suc place - 1 ≡ place = omega arith in
    rw same (get_set_same s.machines place next within)

pub machine_set_other : (machine other : ℕ) (s : LineState) (next : NodeState) → 1 ≤ machine → other ≢ machine → machine_in other (with_machine machine next s) ≡ machine_in other s
machine_set_other machine zero s next counted apart = refl
machine_set_other machine (suc place) s next counted apart =
    let places : place ≢ machine - 1 = omega arith in
    get_set_other s.machines (machine - 1) place next places
