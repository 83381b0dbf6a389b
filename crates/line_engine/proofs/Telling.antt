-- A lane's index follows what a line did there, and the standings are told, one id after the other.
use Rattle.std.proofs.Common.{◌≡◌, ◌∙◌, ◌+◌, ◌-◌, ◌<◌, ◌≤◌, ◌++◌, ℕ, zero, suc, List, [], ◌∷◌, ap, append_assoc, arith, drop, get_or, length, refl, subst, sym}
use Rattle.std.specs.Prelude.{Some, if◌then◌else◌, nat_eq, slice_get, slice_index_or, slice_set}
use Rattle.standings.specs.Marks.{Owned}
use Rattle.standings.specs.declared.mark.Mark.{Mark}
use Rattle.line_report.specs.Lanes.{told_on}
use Rattle.line_report.specs.declared.happening.Happening.{Happening}
use Rattle.line_report.specs.declared.happening.LaneHappening.{LaneHappening}
use Rattle.line_step.specs.Named.{ids_named}
use Rattle.line_step.specs.Shown.{ascending}
use Rattle.line_step.specs.State.{owned}
use Rattle.line_marks.specs.Indexed.{Entries, Follows, IsIndexOf, entry_at, indexed, marks_listed, patched}
use Rattle.line_marks.specs.Seats.{both, own_seat}
use Rattle.line_engine.specs.Seats.{moved_told, seat_beside, seat_told}
use Rattle.line_marks.specs.Stepped.{told_each}
use Rattle.line_engine.specs.Tracks.{FollowsDone, FollowsOne, FollowsTrack, IsReady, lane_told, track_in, with_behind, with_index}
use Rattle.line_marks.specs.declared.index.Moved.{Moved}
use Rattle.line_marks.specs.declared.seat.Seat.{Seat}
use Rattle.line_engine.specs.declared.track.Track.{Track}
use Rattle.line_step.specs.Together.{IsLineTogether}
use Rattle.line_machines.specs.Sharing.{AreNumbered}
use Rattle.line_engine.proofs.Lanes.{IsLater, later_set, later_there, own_ready, some_of}
use Rattle.line_marks.proofs.Following.{IsFollowing, at_end, begins_at, ends, ends_index, goes_on_at}
use Rattle.line_engine.proofs.Seating.{beside_same}

-- so far the index of the lane is this one, and of whatever line it was before it has followed all
-- ids but these
pub record IsTellingDone (lane first last : ℕ) (done : List Happening) (all rest : List ℕ) (start now : List Track) (told_start told_now : List LaneHappening) : Type 0 where
  pub own : Track
  pub there : track_in lane start ≡ Some own
  pub index : Entries
  pub now_is : now ≡ with_index lane index own start
  pub follows : (line : List Owned) → IsIndexOf own.index line → Follows first last (ids_named done) line (owned own.state)
      → IsFollowing first last line (owned own.state) (lane_told lane start) all rest own.index index told_start told_now

own_behind : (place : ℕ) (tracks : List Track) (own : Track) → slice_get tracks place ≡ Some own → with_behind place own tracks ≡ tracks
own_behind place [] own there = absurd (cc)
own_behind zero (first ∷ tracks) own there = let same : first ≡ own = cc in ap (λ (t : Track). t ∷ tracks) (sym same)
own_behind (suc place) (first ∷ tracks) own there = ap (λ (ts : List Track). first ∷ ts) (own_behind place tracks own there)

pub own_with : (lane : ℕ) (tracks : List Track) (own : Track) → track_in lane tracks ≡ Some own → with_behind (lane - 1) own tracks ≡ tracks
own_with zero tracks own there = absurd (cc)
own_with (suc place) tracks own there =
    let less : suc place - 1 ≡ place = omega arith in
    ap (λ (n : ℕ). with_behind n own tracks) less ∙ own_behind place tracks own there

twice_behind : (place : ℕ) (tracks : List Track) (one other : Track) → with_behind place other (with_behind place one tracks) ≡ with_behind place other tracks
twice_behind place [] one other = refl
twice_behind zero (first ∷ tracks) one other = refl
twice_behind (suc place) (first ∷ tracks) one other = ap (λ (ts : List Track). first ∷ ts) (twice_behind place tracks one other)

behind_get : (place : ℕ) (tracks : List Track) (own now : Track) → slice_get tracks place ≡ Some own → slice_get (with_behind place now tracks) place ≡ Some now
behind_get place [] own now there = absurd (cc)
behind_get zero (first ∷ tracks) own now there = refl
behind_get (suc place) (first ∷ tracks) own now there = behind_get place tracks own now there

pub with_there : (lane : ℕ) (tracks : List Track) (own now : Track) → track_in lane tracks ≡ Some own → track_in lane (with_behind (lane - 1) now tracks) ≡ Some now
with_there zero tracks own now there = absurd (cc)
with_there (suc place) tracks own now there =
    let less : suc place - 1 ≡ place = omega arith in
    ap (λ (n : ℕ). slice_get (with_behind n now tracks) place) less ∙ behind_get place tracks own now there

at_least : (lane : ℕ) (tracks : List Track) (own : Track) → track_in lane tracks ≡ Some own → 1 ≤ lane
at_least zero tracks own there = absurd (cc)
at_least (suc place) tracks own there = omega arith

pub telling_begins : (lane first last : ℕ) (done : List Happening) (all : List ℕ) (start : List Track) (own : Track) (told : List LaneHappening) → track_in lane start ≡ Some own → all ≡ ascending (ids_named done)
    → IsTellingDone lane first last done all all start start told told
telling_begins lane first last done all start own told there are = record {
  own = own;
  there = there;
  index = own.index;
  now_is = sym (own_with lane start own there);
  follows = λ line index follows. begins_at first last line (owned own.state) (lane_told lane start) (ids_named done) all own.index told are index follows;
}

pub telling_next : (lane first last : ℕ) (done : List Happening) (all : List ℕ) (place id : ℕ) (start now next : List Track) (told_start told_now told_next : List LaneHappening) (moved : Moved) (beside : Seat) → place < length all → id ≡ get_or all place id
    → IsTellingDone lane first last done all (drop place all) start now told_start told_now
    → beside ≡ seat_beside lane id 1 now
    → FollowsOne lane first last id now next moved
    → told_next ≡ told_now ++ seat_told id (both moved.was beside) (both moved.now beside)
    → IsTellingDone lane first last done all (drop (place + 1) all) start next told_start told_next
telling_next lane first last done all place id start now next told_start told_now told_next moved beside within at t beside_is f told_is =
    let mine : Track = record t.own { index = t.index } in
    let there_now : track_in lane now ≡ Some mine = ap (track_in lane) t.now_is ∙ with_there lane start t.own mine t.there in
    let seen : track_in lane now ≡ Some f.own = f.there in
    let same : f.own ≡ mine = cc in
    let index_is : f.own.index ≡ t.index = ap (λ (o : Track). o.index) same in
    let state_is : owned f.own.state ≡ owned t.own.state = ap (λ (o : Track). owned o.state) same in
    let seat : beside ≡ seat_beside lane id 1 start = beside_is ∙ ap (seat_beside lane id 1) t.now_is ∙ beside_same id lane start mine (at_least lane start t.own t.there) in
    let tell : ℕ → List Mark → List Mark → List LaneHappening = lane_told lane start in
    let patch : List Mark → List Mark = λ ms. patched first last (owned t.own.state) ms id in
    let was : moved.was ≡ own_seat lane (marks_listed t.index id) = f.was ∙ ap (λ (e : Entries). own_seat lane (marks_listed e id)) index_is in
    let now_seat : moved.now ≡ own_seat lane (patch (marks_listed t.index id)) =
    f.now ∙ ap (λ (e : Entries). own_seat lane (patched first last (owned f.own.state) (marks_listed e id) id)) index_is ∙ ap (λ (os : List Owned). own_seat lane (patched first last os (marks_listed t.index id) id)) state_is in
    record {
      own = t.own;
      there = t.there;
      index = f.index;
      now_is = f.after_is ∙ ap (λ (o : Track). with_behind (lane - 1) (record o { index = f.index }) now) same ∙ ap (with_behind (lane - 1) (record mine { index = f.index })) t.now_is
          ∙ twice_behind (lane - 1) start mine (record t.own { index = f.index });
      follows = λ line index follows.
          goes_on_at first last line (owned t.own.state) tell all place id t.own.index t.index f.index told_start told_now told_next within at (t.follows line index follows)
          (record {
            told = told_is
                ∙ ap (λ (s : Seat). told_now ++ seat_told id (both s beside) (both moved.now beside)) was
                ∙ ap (λ (s : Seat). told_now ++ seat_told id (both (own_seat lane (marks_listed t.index id)) beside) (both s beside)) now_seat
                ∙ ap (λ (s : Seat). told_now ++ moved_told lane s id (marks_listed t.index id) (patch (marks_listed t.index id))) seat;
            entries = λ other. f.entries other
                ∙ ap (λ (o : Track). if nat_eq id other then indexed (patched first last (owned o.state) (marks_listed o.index id) id) else entry_at o.index other) same;
          });
    }

pub telling_ends : (lane first last : ℕ) (done : List Happening) (all : List ℕ) (place : ℕ) (start now : List Track) (told_first told_start told_now : List LaneHappening) → length all ≤ place → all ≡ ascending (ids_named done)
    → told_start ≡ told_first ++ told_on lane done
    → IsTellingDone lane first last done all (drop place all) start now told_start told_now → FollowsDone lane first last done start now told_first told_now
telling_ends lane first last done all place start now told_first told_start told_now past are start_is t = record {
  own = t.own;
  there = t.there;
  each = λ line index follows. (
      let f : IsFollowing first last line (owned t.own.state) (lane_told lane start) all [] t.own.index t.index told_start told_now =
      at_end first last line (owned t.own.state) (lane_told lane start) all place t.own.index t.index told_start told_now past (t.follows line index follows) in
      record {
        index = t.index;
        index_is = ends_index first last line (owned t.own.state) (lane_told lane start) all t.own.index t.index told_start told_now f;
        after_is = t.now_is;
        told = ends first last line (owned t.own.state) (lane_told lane start) all t.own.index t.index told_start told_now f
            ∙ ap (λ (told : List LaneHappening). told ++ told_each (lane_told lane start) all line (owned t.own.state)) start_is
            ∙ append_assoc told_first (told_on lane done) (told_each (lane_told lane start) all line (owned t.own.state))
            ∙ ap (λ (ids : List ℕ). told_first ++ (told_on lane done ++ told_each (lane_told lane start) ids line (owned t.own.state))) are;
      });
}

-- ---- what the calls in between ask

wide_behind : (place : ℕ) (now : Track) (tracks : List Track) → length (with_behind place now tracks) ≡ length tracks
wide_behind place now [] = refl
wide_behind zero now (first ∷ tracks) = refl
wide_behind (suc place) now (first ∷ tracks) = ap (λ (n : ℕ). suc n) (wide_behind place now tracks)

pub telling_few : (lane first last : ℕ) (done : List Happening) (all rest : List ℕ) (start now : List Track) (told_start told_now : List LaneHappening) → IsTellingDone lane first last done all rest start now told_start told_now → length start ≤ 4 → length now ≤ 4
telling_few lane first last done all rest start now told_start told_now t few =
    subst (λ (n : ℕ). n ≤ 4) (sym (ap (λ (ts : List Track). length ts) t.now_is ∙ wide_behind (lane - 1) (record t.own { index = t.index }) start)) few

pub telling_ready : (lane first last : ℕ) (done : List Happening) (all rest : List ℕ) (start now : List Track) (told_start told_now : List LaneHappening) → IsTellingDone lane first last done all rest start now told_start told_now → IsReady lane start → IsReady lane now
telling_ready lane first last done all rest start now told_start told_now t ready =
    let mine : Track = record t.own { index = t.index } in
    some_of (λ (own : Track). IsLineTogether own.state × AreNumbered own.state) lane now mine (ap (track_in lane) t.now_is ∙ with_there lane start t.own mine t.there)
    (own_ready (λ (own : Track). IsLineTogether own.state × AreNumbered own.state) lane start t.own t.there ready)

-- ---- the index of a lane, in the tracks

pub follows_first : (lane first last id : ℕ) (own next : Track) (others : List Track) (moved : Moved) → lane ≡ 1 → FollowsTrack lane first last id own next moved → FollowsOne lane first last id (own ∷ others) (next ∷ others) moved
follows_first lane first last id own next others moved is f = record {
  own = own;
  there = ap (λ (n : ℕ). track_in n (own ∷ others)) is;
  index = f.index;
  after_is = ap (λ (t : Track). t ∷ others) f.after_is ∙ ap (λ (n : ℕ). with_behind (n - 1) (record own { index = f.index }) (own ∷ others)) (sym is);
  was = f.was;
  now = f.now;
  entries = f.entries;
}

pub follows_later : (lane first last id : ℕ) (front own next : Track) (others : List Track) (moved : Moved) → IsLater lane others → own ≡ slice_index_or others (lane - 2) own → FollowsTrack lane first last id own next moved
    → FollowsOne lane first last id (front ∷ others) (front ∷ slice_set others (lane - 2) next) moved
follows_later lane first last id front own next others moved l at f = record {
  own = own;
  there = later_there lane front others own l at;
  index = f.index;
  after_is = ap (λ (t : Track). front ∷ slice_set others (lane - 2) t) f.after_is ∙ later_set lane front (record own { index = f.index }) others l;
  was = f.was;
  now = f.now;
  entries = f.entries;
}
