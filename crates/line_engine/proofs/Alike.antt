-- The tracks of a line stay alike, and each of them stands together, behind a step of one.
use Rattle.std.proofs.Common.{◌≡◌, ◌∙◌, ◌-◌, ◌≤◌, ℕ, zero, suc, List, [], ◌∷◌, ap, arith, length, map, refl, subst, sym}
use Rattle.std.specs.Prelude.{Some, slice_get}
use Rattle.std.specs.List.{AllByRecursion}
use Rattle.board_record.specs.Maker.{Maker}
use Rattle.line_base.specs.declared.states.Side.{Side}
use Rattle.node_core.specs.Node.{NodeState}
use Rattle.node_core.specs.declared.lane.Lane.{Lane}
use Rattle.node_core.specs.Shared.{SharedParts, shared_of}
use Rattle.node_core.specs.Sides.{is_open}
use Rattle.standings.specs.Marks.{Owned}
use Rattle.line_step.specs.State.{LineState, machine_in, owned, owned_by}
use Rattle.line_step.specs.Together.{IsLineTogether, is_linked}
use Rattle.law_lanes.specs.Lanes.{beside, beside_nodes}
use Rattle.line_marks.specs.Indexed.{Entries, IsIndexOf}
use Rattle.line_machines.specs.Sharing.{AreNumbered}
use Rattle.line_engine.specs.Tracks.{AreKept, AreLike, IsLike, IsOwn, states_of, with_behind}
use Rattle.line_engine.specs.declared.track.Track.{Track}
use Rattle.line_engine.proofs.Besides.{beside_track, tracks_behind}

-- ---- alike

pub like_itself : (s : LineState) → IsLike s s
like_itself s = record { shared = refl; lines = refl; unvouched = refl }

pub like_back : (s t : LineState) → IsLike s t → IsLike t s
like_back s t l = record { shared = sym l.shared; lines = sym l.lines; unvouched = sym l.unvouched }

pub like_on : (s t u : LineState) → IsLike s t → IsLike t u → IsLike s u
like_on s t u l m = record { shared = l.shared ∙ m.shared; lines = l.lines ∙ m.lines; unvouched = l.unvouched ∙ m.unvouched }

pub like_all : (s t : LineState) (ss : List LineState) → IsLike s t → AllByRecursion (IsLike t) ss → AllByRecursion (IsLike s) ss
like_all s t [] l all = tt
like_all s t (u ∷ ss) l all = (like_on s t u l all.0, like_all s t ss l all.1)

-- of one that all are like
pub like_any : (s : LineState) (ss : List LineState) → AllByRecursion (IsLike s) ss → AreLike ss
like_any s [] all = tt
like_any s (t ∷ ss) all = like_all t s ss (like_back s t all.0) all.1

all_from : (s : LineState) (ss : List LineState) → AreLike (s ∷ ss) → AllByRecursion (IsLike s) (s ∷ ss)
all_from s ss like = (like_itself s, like)

pub at_place : (s t : LineState) (ss : List LineState) (place : ℕ) → AllByRecursion (IsLike s) ss → slice_get ss place ≡ Some t → IsLike s t
at_place s t [] place all there = absurd (cc)
at_place s t (u ∷ ss) zero all there = let same : u ≡ t = cc in subst (λ (v : LineState). IsLike s v) same all.0
at_place s t (u ∷ ss) (suc place) all there = at_place s t ss place all.1 there

-- each of them is one that all are like
pub like_from : (s : LineState) (ss : List LineState) (place : ℕ) → AreLike ss → slice_get ss place ≡ Some s → AllByRecursion (IsLike s) ss
like_from s [] place like there = tt
like_from s (t ∷ ss) place like there =
    let all : AllByRecursion (IsLike t) (t ∷ ss) = all_from t ss like in
    like_all s t (t ∷ ss) (like_back t s (at_place t s (t ∷ ss) place all there)) all

-- ---- a node beside another

pub record Got (nodes others : List NodeState) (place : ℕ) (now : NodeState) : Type 0 where
  pub node : NodeState
  pub there : slice_get others place ≡ Some node
  pub lane : now.lane ≡ node.lane
  pub giver : NodeState
  pub given : slice_get nodes place ≡ Some giver
  pub maker : now.maker ≡ giver.maker

pub beside_got : (nodes others : List NodeState) (place : ℕ) (now : NodeState) → length nodes ≡ length others → slice_get (beside_nodes nodes others) place ≡ Some now → Got nodes others place now
beside_got [] [] place now same there = absurd (cc)
beside_got [] (other ∷ others) place now same there = absurd (omega (arith, same))
beside_got (node ∷ nodes) [] place now same there = absurd (omega (arith, same))
beside_got (node ∷ nodes) (other ∷ others) zero now same there =
    let is : record other { maker = node.maker; supervised = node.supervised } ≡ now = cc in
    record {
      node = other;
      there = refl;
      lane = ap (λ (n : NodeState). n.lane) (sym is);
      giver = node;
      given = refl;
      maker = ap (λ (n : NodeState). n.maker) (sym is);
    }
beside_got (node ∷ nodes) (other ∷ others) (suc place) now same there =
    let g : Got nodes others place now = beside_got nodes others place now (omega (arith, same)) there in
    record { node = g.node; there = g.there; lane = g.lane; giver = g.giver; given = g.given; maker = g.maker }

pub beside_owned : (nodes others : List NodeState) → length nodes ≡ length others → map owned_by (beside_nodes nodes others) ≡ map owned_by others
beside_owned [] others same = refl
beside_owned (node ∷ nodes) [] same = refl
beside_owned (node ∷ nodes) (other ∷ others) same = ap (λ (owns : List Owned). owned_by other ∷ owns) (beside_owned nodes others (omega (arith, same)))

pub beside_wide : (nodes others : List NodeState) → length nodes ≡ length others → length (beside_nodes nodes others) ≡ length others
beside_wide [] others same = refl
beside_wide (node ∷ nodes) [] same = refl
beside_wide (node ∷ nodes) (other ∷ others) same = ap (λ (n : ℕ). suc n) (beside_wide nodes others (omega (arith, same)))

pub beside_shared : (nodes others : List NodeState) → length nodes ≡ length others → map shared_of nodes ≡ map shared_of (beside_nodes nodes others)
beside_shared [] [] same = refl
beside_shared [] (other ∷ others) same = absurd (omega (arith, same))
beside_shared (node ∷ nodes) [] same = absurd (omega (arith, same))
beside_shared (node ∷ nodes) (other ∷ others) same = ap (λ (shares : List SharedParts). shared_of node ∷ shares) (beside_shared nodes others (omega (arith, same)))

pub shared_wide : (nodes others : List NodeState) → map shared_of nodes ≡ map shared_of others → length nodes ≡ length others
shared_wide [] [] same = refl
shared_wide [] (other ∷ others) same = absurd (cc)
shared_wide (node ∷ nodes) [] same = absurd (cc)
shared_wide (node ∷ nodes) (other ∷ others) same = let rest : map shared_of nodes ≡ map shared_of others = cc in ap (λ (n : ℕ). suc n) (shared_wide nodes others rest)

-- ---- a track beside another

joined_beside : (next t : LineState) (machine : ℕ) (side : Side) (now : NodeState) → length next.machines ≡ length t.machines → IsLineTogether t → machine_in machine (beside next t) ≡ Some now → is_linked machine side t.world ≡ is_open side now.lane.body
joined_beside next t zero side now same together there = absurd (cc)
joined_beside next t (suc place) side now same together there =
    let g : Got next.machines t.machines place now = beside_got next.machines t.machines place now same there in
    together.joined (suc place) side g.node g.there ∙ ap (λ (lane : Lane). is_open side lane.body) (sym g.lane)

pub beside_stands : (next t : LineState) → length next.machines ≡ length t.machines → IsLineTogether t → IsLineTogether (beside next t)
beside_stands next t same together =
    let wide : length (beside_nodes next.machines t.machines) ≡ length t.machines = beside_wide next.machines t.machines same in
    record {
      few = subst (λ (n : ℕ). n ≤ 64) (sym wide) together.few;
      short = together.short;
      floor = together.floor ∙ sym wide;
      links = together.links ∙ ap (λ (n : ℕ). n - 1) (sym wide);
      joined = λ machine side now there. joined_beside next t machine side now same together there;
    }

pub beside_numbered : (next t : LineState) → length next.machines ≡ length t.machines → AreNumbered next → AreNumbered (beside next t)
beside_numbered next t same numbered = λ machine now there. number_at machine now there
  where
    number_at : (machine : ℕ) (now : NodeState) → machine_in machine (beside next t) ≡ Some now → now.maker.machine ≡ machine
    number_at zero now there = absurd (cc)
    number_at (suc place) now there =
        let g : Got next.machines t.machines place now = beside_got next.machines t.machines place now same there in
        ap (λ (m : Maker). m.machine) g.maker ∙ numbered (suc place) g.giver g.given

pub own_beside : (next : LineState) (track : Track) → length next.machines ≡ length track.state.machines → AreNumbered next → IsOwn track → IsOwn (beside_track next track)
own_beside next track same numbered own = record {
  together = beside_stands next track.state same own.together;
  numbered = beside_numbered next track.state same numbered;
  index = subst (λ (line : List Owned). IsIndexOf track.index line) (sym (beside_owned next.machines track.state.machines same)) own.index;
}

like_beside : (next t : LineState) → length next.machines ≡ length t.machines → next.lines ≡ t.lines → IsLike next (beside next t)
like_beside next t same lines = record { shared = beside_shared next.machines t.machines same; lines = lines; unvouched = refl }

-- ---- all tracks behind a step of one, whose index is that of what it has now

-- what is known of the step
pub record Stepped (before next : LineState) : Type 0 where
  pub wide : length next.machines ≡ length before.machines
  pub lines : next.lines ≡ before.lines
  pub together : IsLineTogether next
  pub numbered : AreNumbered next

abbrev pub tracks_now : ℕ → LineState → Entries → List Track → List Track
tracks_now before next index [] = []
tracks_now zero next index (own ∷ others) = record { state = next; index = index } ∷ map (beside_track next) others
tracks_now (suc before) next index (other ∷ others) = beside_track next other ∷ tracks_now before next index others

pub now_is : (place : ℕ) (next : LineState) (index : Entries) (tracks : List Track) → with_behind place (record { state = next; index = index }) (tracks_behind place next tracks) ≡ tracks_now place next index tracks
now_is place next index [] = refl
now_is zero next index (own ∷ others) = refl
now_is (suc place) next index (other ∷ others) = ap (λ (ts : List Track). beside_track next other ∷ ts) (now_is place next index others)

wide_to : (before next t : LineState) → Stepped before next → IsLike before t → length next.machines ≡ length t.machines
wide_to before next t s like = s.wide ∙ shared_wide before.machines t.machines like.shared

owns_map : (before next : LineState) (tracks : List Track) → Stepped before next → AllByRecursion (IsLike before) (states_of tracks) → AllByRecursion IsOwn tracks → AllByRecursion IsOwn (map (beside_track next) tracks)
owns_map before next [] s like owns = tt
owns_map before next (track ∷ tracks) s like owns =
    (own_beside next track (wide_to before next track.state s like.0) s.numbered owns.0, owns_map before next tracks s like.1 owns.1)

pub owns_now : (place : ℕ) (before next : LineState) (index : Entries) (tracks : List Track) → Stepped before next → IsIndexOf index (owned next) → AllByRecursion (IsLike before) (states_of tracks) → AllByRecursion IsOwn tracks → AllByRecursion IsOwn (tracks_now place next index tracks)
owns_now place before next index [] s is like owns = tt
owns_now zero before next index (own ∷ others) s is like owns =
    (record { together = s.together; numbered = s.numbered; index = is }, owns_map before next others s like.1 owns.1)
owns_now (suc place) before next index (other ∷ others) s is like owns =
    (own_beside next other (wide_to before next other.state s like.0) s.numbered owns.0, owns_now place before next index others s is like.1 owns.1)

likes_map : (before next : LineState) (tracks : List Track) → Stepped before next → AllByRecursion (IsLike before) (states_of tracks) → AllByRecursion (IsLike next) (states_of (map (beside_track next) tracks))
likes_map before next [] s like = tt
likes_map before next (track ∷ tracks) s like =
    (like_beside next track.state (wide_to before next track.state s like.0) (s.lines ∙ like.0.lines), likes_map before next tracks s like.1)

pub likes_now : (place : ℕ) (before next : LineState) (index : Entries) (tracks : List Track) → Stepped before next → AllByRecursion (IsLike before) (states_of tracks) → AllByRecursion (IsLike next) (states_of (tracks_now place next index tracks))
likes_now place before next index [] s like = tt
likes_now zero before next index (own ∷ others) s like = (like_itself next, likes_map before next others s like.1)
likes_now (suc place) before next index (other ∷ others) s like =
    (like_beside next other.state (wide_to before next other.state s like.0) (s.lines ∙ like.0.lines), likes_now place before next index others s like.1)

pub map_wide : (next : LineState) (tracks : List Track) → length (map (beside_track next) tracks) ≡ length tracks
map_wide next [] = refl
map_wide next (track ∷ tracks) = ap (λ (n : ℕ). suc n) (map_wide next tracks)

pub now_wide : (place : ℕ) (next : LineState) (index : Entries) (tracks : List Track) → length (tracks_now place next index tracks) ≡ length tracks
now_wide place next index [] = refl
now_wide zero next index (own ∷ others) = ap (λ (n : ℕ). suc n) (map_wide next others)
now_wide (suc place) next index (other ∷ others) = ap (λ (n : ℕ). suc n) (now_wide place next index others)

pub state_at : (place : ℕ) (tracks : List Track) (own : Track) → slice_get tracks place ≡ Some own → slice_get (states_of tracks) place ≡ Some own.state
state_at place [] own there = absurd (cc)
state_at zero (first ∷ tracks) own there = let same : first ≡ own = cc in ap (λ (t : Track). Some t.state) same
state_at (suc place) (first ∷ tracks) own there = state_at place tracks own there

pub likes_at : (place : ℕ) (tracks : List Track) (own : Track) → AreKept tracks → slice_get tracks place ≡ Some own → AllByRecursion (IsLike own.state) (states_of tracks)
likes_at place tracks own kept there = like_from own.state (states_of tracks) place kept.alike (state_at place tracks own there)

pub kept_now : (place : ℕ) (next : LineState) (index : Entries) (tracks : List Track) (own : Track) → AreKept tracks → slice_get tracks place ≡ Some own → Stepped own.state next → IsIndexOf index (owned next) → AreKept (tracks_now place next index tracks)
kept_now place next index tracks own kept there s is =
    let like = likes_at place tracks own kept there in
    record {
      few = subst (λ (n : ℕ). n ≤ 4) (sym (now_wide place next index tracks)) kept.few;
      each = owns_now place own.state next index tracks s is like kept.each;
      alike = like_any next (states_of (tracks_now place next index tracks)) (likes_now place own.state next index tracks s like);
    }
