-- Tracks whose machines share their makers, and what a step of one track leaves of another.
use Rattle.std.proofs.Common.{◌≡◌, ◌∙◌, ◌≤◌, ◌+◌, inl, inr, ℕ, suc, List, [], ◌∷◌, None, length, refl, sym, ap, subst, arith}
use Rattle.board_record.specs.Maker.{Maker}
use Rattle.node_core.specs.Node.{NodeState}
use Rattle.line_step.specs.State.{LineState}
use Rattle.line_step.specs.Lines.{Counts}
use Rattle.step_rules.specs.Makers.{IsMadeBy, IsOld}
use Rattle.line_step.specs.Tracks.{AreBesideNodes, IsBeside, IsBesideNode}
use Rattle.line_step.proofs.Beside.{beside-itself}
use Rattle.law_lanes.specs.Lanes.{beside, beside_nodes}
use Rattle.law_lanes.proofs.Growing.{AreGrown, IsGrown}

pub record IsShared (node other : NodeState) : Type 0 where
  pub maker : other.maker ≡ node.maker
  pub supervised : other.supervised ≡ node.supervised

abbrev pub AreShared : List NodeState → List NodeState → Type 0
AreShared [] [] = Unit {0}
AreShared [] (_ ∷ _) = ⊥
AreShared (_ ∷ _) [] = ⊥
AreShared (node ∷ nodes) (other ∷ others) = IsShared node other × AreShared nodes others

pub shared_same : (nodes : List NodeState) → AreShared nodes nodes
shared_same [] = tt
shared_same (node ∷ nodes) = (record { maker = refl; supervised = refl }, shared_same nodes)

pub shared_back : (a b : List NodeState) → AreShared a b → AreShared b a
shared_back [] [] are = tt
shared_back [] (b ∷ bs) are = absurd are
shared_back (a ∷ xs) [] are = absurd are
shared_back (a ∷ xs) (b ∷ bs) are = (
  record { maker = sym are.0.maker; supervised = sym are.0.supervised },
  shared_back xs bs are.1,
)

pub shared_both : (a b c : List NodeState) → AreShared a b → AreShared b c → AreShared a c
shared_both [] [] c one two = two
shared_both [] (b ∷ bs) c one two = absurd one
shared_both (a ∷ xs) [] c one two = absurd one
shared_both (a ∷ xs) (b ∷ bs) [] one two = absurd two
shared_both (a ∷ xs) (b ∷ bs) (c ∷ cs) one two = (
  record {
    maker = two.0.maker ∙ one.0.maker;
    supervised = two.0.supervised ∙ one.0.supervised;
  },
  shared_both xs bs cs one.1 two.1,
)

pub shared_many : (a b : List NodeState) → AreShared a b → length b ≡ length a
shared_many [] [] are = refl
shared_many [] (b ∷ bs) are = absurd are
shared_many (a ∷ xs) [] are = absurd are
shared_many (a ∷ xs) (b ∷ bs) are = ap suc (shared_many xs bs are.1)

-- ---- two tracks of a line

pub record IsLike (t u : LineState) : Type 0 where
  pub machines : AreShared t.machines u.machines
  pub lines : u.lines ≡ t.lines
  pub unvouched : u.unvouched ≡ t.unvouched

pub like_itself : (t : LineState) → IsLike t t
like_itself t = record { machines = shared_same t.machines; lines = refl; unvouched = refl }

pub like_back : (t u : LineState) → IsLike t u → IsLike u t
like_back t u is =
    record {
      machines = shared_back t.machines u.machines is.machines;
      lines = sym is.lines;
      unvouched = sym is.unvouched;
    }

pub like_both : (t u v : LineState) → IsLike t u → IsLike u v → IsLike t v
like_both t u v one two =
    record {
      machines = shared_both t.machines u.machines v.machines one.machines two.machines;
      lines = two.lines ∙ one.lines;
      unvouched = two.unvouched ∙ one.unvouched;
    }

-- ---- what a step leaves of another track

-- xs it was, but for what the lanes of a machine share
pub record IsLeft (before after : LineState) : Type 0 where
  pub machines : AreBesideNodes before.machines after.machines
  pub world : after.world ≡ before.world
  pub lines : after.lines ≡ before.lines
  pub vouched : after.unvouched ≡ None → before.unvouched ≡ None

left_nodes : (nodes : List NodeState) → AreBesideNodes nodes nodes
left_nodes [] = tt
left_nodes (node ∷ nodes) = (beside-itself node, left_nodes nodes)

pub left_itself : (t : LineState) → IsLeft t t
left_itself t =
    record {
      machines = left_nodes t.machines;
      world = refl;
      lines = refl;
      vouched = λ none. none;
    }

pub left_same : (t u : LineState) → u ≡ t → IsLeft t u
left_same t u same = subst (λ (v : LineState). IsLeft t v) (sym same) (left_itself t)

node_both : (a b c : NodeState) → IsBesideNode a b → IsBesideNode b c → IsBesideNode a c
node_both a b c one two =
    record {
      spent = two.spent ∙ one.spent;
      name = two.name ∙ one.name;
      number = two.number ∙ one.number;
      capacity = two.capacity ∙ one.capacity;
      machine = two.machine ∙ one.machine;
      used = omega (arith, one.used, two.used);
      lane = two.lane ∙ one.lane;
      bridge = two.bridge ∙ one.bridge;
      forecasts = two.forecasts ∙ one.forecasts;
      orders = two.orders ∙ one.orders;
    }

nodes_both : (a b c : List NodeState) → AreBesideNodes a b → AreBesideNodes b c
    → AreBesideNodes a c
nodes_both [] [] c one two = two
nodes_both [] (b ∷ bs) c one two = absurd one
nodes_both (a ∷ xs) [] c one two = absurd one
nodes_both (a ∷ xs) (b ∷ bs) [] one two = absurd two
nodes_both (a ∷ xs) (b ∷ bs) (c ∷ cs) one two =
    (node_both a b c one.0 two.0, nodes_both xs bs cs one.1 two.1)

pub left_both : (t u v : LineState) → IsLeft t u → IsLeft u v → IsLeft t v
left_both t u v one two =
    record {
      machines = nodes_both t.machines u.machines v.machines one.machines two.machines;
      world = two.world ∙ one.world;
      lines = two.lines ∙ one.lines;
      vouched = λ none. one.vouched (two.vouched none);
    }

beside_node : (before now other : NodeState) → IsGrown before now → IsShared before other
    → IsBesideNode other (record other { maker = now.maker; supervised = now.supervised })
beside_node before now other grown shared =
    record {
      spent = refl;
      name = refl;
      number = refl;
      capacity = refl;
      machine = grown.machine ∙ sym (ap (λ (m : Maker). m.machine) shared.maker);
      used = subst (λ (m : Maker). m.used ≤ now.maker.used) (sym shared.maker) grown.used;
      lane = refl;
      bridge = refl;
      forecasts = refl;
      orders = refl;
    }

pub beside_grown : (before now others : List NodeState) → AreGrown before now
    → AreShared before others → AreBesideNodes others (beside_nodes now others)
beside_grown [] [] [] grown shared = tt
beside_grown [] [] (o ∷ os) grown shared = absurd shared
beside_grown [] (n ∷ ns) others grown shared = absurd grown
beside_grown (b ∷ bs) [] others grown shared = absurd grown
beside_grown (b ∷ bs) (n ∷ ns) [] grown shared = absurd shared
beside_grown (b ∷ bs) (n ∷ ns) (o ∷ os) grown shared =
    (beside_node b n o grown.0 shared.0, beside_grown bs ns os grown.1 shared.1)

pub left_beside : (before now u : LineState) → AreGrown before.machines now.machines
    → IsLike before u → (now.unvouched ≡ None → before.unvouched ≡ None)
    → IsLeft u (beside now u)
left_beside before now u grown like vouched =
    record {
      machines = beside_grown before.machines now.machines u.machines grown like.machines;
      world = refl;
      lines = refl;
      vouched = λ none. like.unvouched ∙ vouched none;
    }

-- and it goes on to be like it
beside_shared : (now others : List NodeState) → length others ≡ length now
    → AreShared now (beside_nodes now others)
beside_shared [] [] many = tt
beside_shared [] (o ∷ os) many = absurd (let never : ⊥ = omega (arith, many) in never)
beside_shared (n ∷ ns) [] many = absurd (let never : ⊥ = omega (arith, many) in never)
beside_shared (n ∷ ns) (o ∷ os) many =
    (record { maker = refl; supervised = refl }, beside_shared ns os (omega (arith, many)))

pub like_beside : (now u : LineState) → length u.machines ≡ length now.machines
    → u.lines ≡ now.lines → IsLike now (beside now u)
like_beside now u many lines =
    record {
      machines = beside_shared now.machines u.machines many;
      lines = lines;
      unvouched = refl;
    }

-- what shares everything with a step is xs it was beside it
pub beside_back : (now others : List NodeState) → AreShared now others
    → beside_nodes now others ≡ others
beside_back [] [] are = refl
beside_back [] (o ∷ os) are = absurd are
beside_back (n ∷ ns) [] are = absurd are
beside_back (n ∷ ns) (o ∷ os) are =
    λ i. record o { maker = sym are.0.maker i; supervised = sym are.0.supervised i }
    ∷ beside_back ns os are.1 i

pub like_same : (now u : LineState) → IsLike now u → beside now u ≡ u
like_same now u is =
    λ i. record u {
      machines = beside_back now.machines u.machines is.machines i;
      unvouched = sym is.unvouched i;
    }

-- ---- counted

pub left_counted : (before next : LineState) (lines : ℕ) → IsLeft before next
    → Counts next.lines lines → IsBeside before (record next { lines = lines })
left_counted before next lines left counts =
    record {
      machines = left.machines;
      world = left.world;
      counts = subst (λ (old : ℕ). Counts old lines) left.lines counts;
      vouched = left.vouched;
    }

-- ---- ids that were made

old_shared : (number : ℕ) (nodes others : List NodeState) (id : ℕ) → AreShared nodes others
    → IsOld number nodes id → IsOld number others id
old_shared number [] [] id are old = absurd old
old_shared number [] (o ∷ os) id are old = absurd are
old_shared number (n ∷ ns) [] id are old = absurd are
old_shared number (n ∷ ns) (o ∷ os) id are (inl made) =
    inl (subst (λ (m : Maker). IsMadeBy number m.used id) (sym are.0.maker) made)
old_shared number (n ∷ ns) (o ∷ os) id are (inr later) =
    inr (old_shared (number + 1) ns os id are.1 later)

-- of two tracks that share their makers an id is old on both
pub old_alike : (t u : LineState) (id : ℕ) → IsLike t u → IsOld 1 t.machines id
    → IsOld 1 u.machines id
old_alike t u id is old = old_shared 1 t.machines u.machines id is.machines old
