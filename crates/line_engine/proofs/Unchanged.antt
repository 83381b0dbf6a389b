-- Where another lane has what a lane has to share, nothing changes as the lanes follow it.
use Rattle.std.proofs.Common.{◌≡◌, ◌≢◌, ◌∙◌, ◌==◌, ℕ, Bool, true, false, zero, suc, List, [], ◌∷◌, ap, arith, map, refl, subst, sym, eq-eqb, eqb-true}
use Rattle.std.proofs.Math.Numerals.{sub-one}
use Rattle.std.specs.Prelude.{Option, None, Some, if◌then◌else◌, slice_get}
use Rattle.node_core.specs.Shared.{SharedParts}
use Rattle.line_step.specs.State.{LineState}
use Rattle.line_step.proofs.Ascending.{choose_false}
use Rattle.line_machines.specs.Sharing.{AreNumbered, shared_in}
use Rattle.line_engine.specs.Sharing.{ShareAlike, followed}
use Rattle.line_engine.specs.Tracks.{AreBeside, AreKept, IsFollowing, IsLike, IsReady, StepsOn, lane_beside, states_of, track_in, with_behind}
use Rattle.line_engine.specs.declared.track.Track.{Track}
use Rattle.line_engine.proofs.Alike.{at_place, like_back, like_on, likes_at, state_at}
use Rattle.line_engine.proofs.Besides.{alone_follows, followed_is, own_followed, share_state, sharing_if, state_rests}
use Rattle.line_engine.proofs.OnLane.{own_at}
use Rattle.line_engine.proofs.OnTwo.{get_behind}

-- ---- one track

share_alike : (first last : ℕ) (s o t : LineState) → shared_in first s ≡ shared_in first o → shared_in last s ≡ shared_in last o → share_state first last s t ≡ share_state first last o t
share_alike first last s o t one two =
    ap (λ (x : Option SharedParts). if first == last then sharing_if last (shared_in last s) t else sharing_if first x (sharing_if last (shared_in last s) t)) one
    ∙ ap (λ (y : Option SharedParts). if first == last then sharing_if last y t else sharing_if first (shared_in first o) (sharing_if last y t)) two

-- one that is like a line with the same to share
track_rests : (first last : ℕ) (s o : LineState) (t : Track) → shared_in first s ≡ shared_in first o → shared_in last s ≡ shared_in last o → s.unvouched ≡ o.unvouched → IsLike o t.state → followed first last s t ≡ t
track_rests first last s o t one two vouched like =
    followed_is first last s t
    ∙ ap (λ (u : LineState). record t { state = record u { unvouched = s.unvouched } }) (share_alike first last s o t.state one two ∙ state_rests first last o t.state like.shared)
    ∙ ap (λ (u : Option ℕ). record t { state = record t.state { unvouched = u } }) (vouched ∙ like.unvouched)

-- ---- all of them

map_rests : (f : Track → Track) (tracks : List Track) → ((place : ℕ) (t : Track) → slice_get tracks place ≡ Some t → f t ≡ t) → map f tracks ≡ tracks
map_rests f [] rests = refl
map_rests f (t ∷ tracks) rests =
    ap (λ (u : Track). u ∷ map f tracks) (rests zero t refl) ∙ ap (λ (ts : List Track). t ∷ ts) (map_rests f tracks (λ place u there. rests (suc place) u there))

pub unchanged : (lane other first last : ℕ) (tracks : List Track) (own beside : Track) → other ≢ lane → AreBeside lane tracks → track_in lane tracks ≡ Some own → track_in other tracks ≡ Some beside → ShareAlike first last own.state beside.state
    → IsFollowing lane first last tracks tracks
unchanged lane other first last tracks own beside apart b own_at beside_at a = record {
  own = own;
  there = own_at;
  after_is = sym (map_rests (followed first last own.state) tracks (λ place t there. rests place t (suc place == lane) refl there));
}
  where
    rests : (place : ℕ) (t : Track) (test : Bool) → (suc place == lane) ≡ test → slice_get tracks place ≡ Some t → followed first last own.state t ≡ t
    rests place t true is there =
        let at : track_in lane tracks ≡ Some t = subst (λ (n : ℕ). track_in n tracks ≡ Some t) (eqb-true (suc place) lane is) there in
        let same : own ≡ t = cc in
        ap (λ (u : Track). followed first last u.state t) same ∙ own_followed first last t.state t
    rests place t false is there =
        let far : suc place ≢ lane = λ equal. (let yes = eq-eqb (suc place) lane equal in absurd (cc)) in
        track_rests first last own.state beside.state t a.first_is a.last_is a.unvouched_is
        (like_on beside.state b.line t.state (like_back b.line beside.state (b.others other beside apart beside_at).0) (b.others (suc place) t far there).0)

beside_by : (lane : ℕ) (test : Bool) → (lane == 1) ≡ test → (if test then 2 else 1) ≢ lane
beside_by lane true is = λ same. (let one : lane ≡ 1 = eqb-true lane 1 is in absurd (omega (arith, one, same)))
beside_by lane false is = λ same. (let yes : (lane == 1) ≡ true = eq-eqb lane 1 (sym same) in absurd (cc))

pub beside_apart : (lane : ℕ) → lane_beside lane ≢ lane
beside_apart lane = beside_by lane (lane == 1) refl

-- a lane alone
pub alone_unchanged : (lane first last : ℕ) (tracks : List Track) → IsReady lane tracks → track_in (lane_beside lane) tracks ≡ None → IsFollowing lane first last tracks tracks
alone_unchanged zero first last tracks ready none = absurd ready
alone_unchanged (suc zero) first last [] ready none = absurd ready
alone_unchanged (suc zero) first last (one ∷ []) ready none = alone_follows 1 first last one ready
alone_unchanged (suc zero) first last (one ∷ (two ∷ more)) ready none = absurd (cc)
alone_unchanged (suc (suc before)) first last [] ready none = absurd ready
alone_unchanged (suc (suc before)) first last (one ∷ tracks) ready none =
    let apart : (suc (suc before) == 1) ≡ false = grind arith in
    let there : track_in (lane_beside (suc (suc before))) (one ∷ tracks) ≡ Some one = ap (λ (n : ℕ). track_in n (one ∷ tracks)) (choose_false (suc (suc before) == 1) 2 1 apart) in
    absurd (cc)

-- ---- behind a step of one lane

steps_beside : (place : ℕ) (tracks : List Track) (own : Track) (next : LineState) → AreKept tracks → slice_get tracks place ≡ Some own → AreBeside (suc place) (with_behind place (record own { state = next }) tracks)
steps_beside place tracks own next kept there = record { line = own.state; others = λ other track apart at. other_of other track apart at }
  where
    other_of : (other : ℕ) (track : Track) → other ≢ suc place → track_in other (with_behind place (record own { state = next }) tracks) ≡ Some track → IsLike own.state track.state × AreNumbered track.state
    other_of zero track apart at = absurd (cc)
    other_of (suc q) track apart at =
        let was : slice_get tracks q ≡ Some track = sym (get_behind place q (record own { state = next }) tracks (λ same. apart (ap suc (sym same)))) ∙ at in
        (at_place own.state track.state (states_of tracks) q (likes_at place tracks own kept there) (state_at q tracks track was), (own_at q tracks track kept.each was).numbered)

pub done_beside : (lane : ℕ) (Does : LineState → LineState → Type 0) (before after : List Track) → AreKept before → StepsOn lane Does before after → AreBeside lane after
done_beside zero Does before after kept s = let none = s.there in absurd (cc)
done_beside (suc place) Does before after kept s =
    subst (λ (ts : List Track). AreBeside (suc place) ts) (sym (s.after_is ∙ ap (λ (n : ℕ). with_behind n (record s.own { state = s.next }) before) (sub-one (suc place))))
    (steps_beside place before s.own s.next kept s.there)
