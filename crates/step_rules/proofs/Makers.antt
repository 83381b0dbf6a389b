-- Which ids the machines of a line have made.
use Rattle.std.proofs.Common.{◌≡◌, ◌≢◌, ◌+◌, ◌<◌, ◌≤◌, ◌⊎◌, inl, inr, ℕ, zero, suc, List, [], ◌∷◌, ◌++◌, Some, length, slice_get, slice_set, sym, subst, ◌∙◌, arith}
use Rattle.board_record.specs.Maker.{made_id}
use Rattle.node_core.specs.Node.{NodeState}
use Rattle.step_rules.specs.Makers.{IsMadeBy, IsOld}

-- each machine's maker has its number
pub record IsNumbered (number : ℕ) (node : NodeState) : Type 0 where
  pub machine : node.maker.machine ≡ number

abbrev pub AreNumbered : ℕ → List NodeState → Type 0
AreNumbered number [] = Unit {0}
AreNumbered number (node ∷ nodes) = IsNumbered number node × AreNumbered (number + 1) nodes

-- an id that a machine with this number or a later one made
pub record IsBeyond (number id : ℕ) : Type 0 where
  pub machine : ℕ
  pub later : number ≤ machine
  pub count : ℕ
  pub small : count < 281474976710656
  pub is : id ≡ made_id machine count

made_id-differ : (machine machine' count count' : ℕ) → count < 281474976710656 → count' < 281474976710656 → machine < machine' → made_id machine' count' ≢ made_id machine count
made_id-differ machine machine' count count' small small' earlier same = omega arith

beyond-weaker : (number id : ℕ) → IsBeyond (number + 1) id → IsBeyond number id
beyond-weaker number id beyond = record { machine = beyond.machine; later = omega (arith, beyond.later); count = beyond.count; small = beyond.small; is = beyond.is }

made-beyond : (number used id : ℕ) → IsMadeBy number used id → IsBeyond number id
made-beyond number used id made = record { machine = number; later = omega arith; count = made.count; small = made.small; is = made.is }

-- ---- a change at one machine

pub numbered-at : (number : ℕ) (nodes : List NodeState) (place : ℕ) (node : NodeState) → AreNumbered number nodes → slice_get nodes place ≡ Some node → IsNumbered (number + place) node
numbered-at number [] place node own found = cc
numbered-at number (s ∷ ss) zero node own found =
    let same : s ≡ node = cc in
    let here : number + 0 ≡ number = omega arith in
    rw here (subst (IsNumbered number) same own.0)
numbered-at number (s ∷ ss) (suc place) node own found =
    let here : number + suc place ≡ number + 1 + place = omega arith in
    rw here (numbered-at (number + 1) ss place node own.1 found)

pub numbered-set : (number : ℕ) (nodes : List NodeState) (place : ℕ) (node other : NodeState) → AreNumbered number nodes → slice_get nodes place ≡ Some node → IsNumbered (number + place) other → AreNumbered number (slice_set nodes place other)
numbered-set number [] place node other own found new = tt
numbered-set number (s ∷ ss) zero node other own found new =
    let here : number + 0 ≡ number = omega arith in
    (rw here at new, own.1)
numbered-set number (s ∷ ss) (suc place) node other own found new =
    let here : number + suc place ≡ number + 1 + place = omega arith in
    (own.0, numbered-set (number + 1) ss place node other own.1 found (rw here at new))

pub made-more : (number used more id : ℕ) → used ≤ more → IsMadeBy number used id → IsMadeBy number more id
made-more number used more id le made = record { count = made.count; counted = omega (arith, made.counted); small = made.small; is = made.is }

-- what was made stays made
pub old-set : (number : ℕ) (nodes : List NodeState) (place : ℕ) (node other : NodeState) (id : ℕ) → slice_get nodes place ≡ Some node → node.maker.used ≤ other.maker.used → IsOld number nodes id → IsOld number (slice_set nodes place other) id
old-set number [] place node other id found more old = absurd old
old-set number (s ∷ ss) zero node other id found more old =
    let same : s ≡ node = cc in
    let used : s.maker.used ≤ other.maker.used = rw same more in
    elim old [ inl made ↦ inl (made-more number s.maker.used other.maker.used id used made) | inr later ↦ inr later ]
old-set number (s ∷ ss) (suc place) node other id found more old =
    elim old [ inl made ↦ inl made | inr later ↦ inr (old-set (number + 1) ss place node other id found more later) ]

-- what the machine at a place has made then is old
pub old-new : (number : ℕ) (nodes : List NodeState) (place : ℕ) (node other : NodeState) (id : ℕ) → slice_get nodes place ≡ Some node → IsMadeBy (number + place) other.maker.used id → IsOld number (slice_set nodes place other) id
old-new number [] place node other id found made = cc
old-new number (s ∷ ss) zero node other id found made =
    let here : number + 0 ≡ number = omega arith in
    inl (rw here at made)
old-new number (s ∷ ss) (suc place) node other id found made =
    let here : number + suc place ≡ number + 1 + place = omega arith in
    inr (old-new (number + 1) ss place node other id found (rw here at made))

pub old-last : (number : ℕ) (nodes : List NodeState) (node : NodeState) (id : ℕ) → IsOld number nodes id → IsOld number (nodes ++ node ∷ []) id
old-last number [] node id old = absurd old
old-last number (s ∷ ss) node id old = elim old [ inl made ↦ inl made | inr later ↦ inr (old-last (number + 1) ss node id later) ]

pub numbered-last : (number : ℕ) (nodes : List NodeState) (node : NodeState) → AreNumbered number nodes → IsNumbered (number + length nodes) node → AreNumbered number (nodes ++ node ∷ [])
numbered-last number [] node own new =
    let here : number + 0 ≡ number = omega arith in
    (rw here at new, tt)
numbered-last number (s ∷ ss) node own new =
    let here : number + length (s ∷ ss) ≡ number + 1 + length ss = omega arith in
    (own.0, numbered-last (number + 1) ss node own.1 (rw here at new))

-- ---- a new id is none that any machine made

new-apart : (number used id new count : ℕ) → used < count → count < 281474976710656 → new ≡ made_id number count → IsMadeBy number used id → id ≢ new
new-apart number used id new count above small is made same =
    let equal : made_id number made.count ≡ made_id number count = sym made.is ∙ same ∙ is in
    omega (arith, made.counted)

old-beyond : (number : ℕ) (nodes : List NodeState) (id : ℕ) → IsOld number nodes id → IsBeyond number id
old-beyond number [] id old = absurd old
old-beyond number (s ∷ ss) id old = elim old [ inl made ↦ made-beyond number s.maker.used id made | inr later ↦ beyond-weaker number id (old-beyond (number + 1) ss id later) ]

-- the id that the machine at a place makes next differs from every old one
pub old-apart : (number : ℕ) (nodes : List NodeState) (place : ℕ) (node : NodeState) (id new count : ℕ) → slice_get nodes place ≡ Some node → node.maker.used < count → count < 281474976710656 → new ≡ made_id (number + place) count → IsOld number nodes id → id ≢ new
old-apart number [] place node id new count found above small is old = absurd old
old-apart number (s ∷ ss) zero node id new count found above small is old =
    let same : s ≡ node = cc in
    let used : s.maker.used < count = rw same above in
    let here : number + 0 ≡ number = omega arith in
    let made_here = rw here at is in
    elim old [
      | inl made ↦ new-apart number s.maker.used id new count used small made_here made
      | inr later ↦ λ equal. (let beyond = old-beyond (number + 1) ss id later in
          made_id-differ number beyond.machine count beyond.count small beyond.small (omega (arith, beyond.later)) (sym beyond.is ∙ equal ∙ made_here))
    ]
old-apart number (s ∷ ss) (suc place) node id new count found above small is old =
    let here : number + suc place ≡ number + 1 + place = omega arith in
    elim old [
      | inl made ↦ λ equal. made_id-differ number (number + suc place) made.count count made.small small (omega arith) (sym is ∙ sym equal ∙ made.is)
      | inr later ↦ old-apart (number + 1) ss place node id new count found above small (rw here at is) later
    ]
