-- The indexes of both lanes of a shift follow, one id after the other.
use Rattle.std.proofs.Common.{◌≡◌, ◌≢◌, ◌∙◌, ◌+◌, ◌-◌, ◌<◌, ◌≤◌, ◌++◌, ◌||◌, ℕ, Bool, true, false, zero, suc, List, [], ◌∷◌, ap, append_assoc, append-nil, drop, get_or, length, refl, subst, sym, eq-eqb}
use Rattle.std.proofs.Math.Numerals.{sub-one}
use Rattle.std.proofs.lemmas.List.{drop_more, drop_all}
use Rattle.std.specs.Prelude.{IsSomeAnd, Option, Some, None, nat_eq, if◌then◌else◌, slice_get}
use Rattle.std.specs.List.{flat_map}
use Rattle.standings.specs.Marks.{Owned, has_id, marks_of}
use Rattle.standings.specs.declared.mark.Mark.{Mark}
use Rattle.line_report.specs.Shifts.{shift_told}
use Rattle.line_report.specs.declared.happening.Happening.{Happening}
use Rattle.line_report.specs.declared.happening.LaneHappening.{LaneHappening}
use Rattle.line_step.specs.Named.{ids_named}
use Rattle.line_step.specs.Shown.{ascending}
use Rattle.line_step.specs.State.{LineState, owned}
use Rattle.line_step.specs.Together.{IsLineTogether}
use Rattle.line_marks.specs.Indexed.{Entries, Follows, IsIndexOf, entry_at, indexed, marks_in_entry, marks_listed, patched}
use Rattle.line_marks.specs.Seats.{both, own_seat}
use Rattle.line_engine.specs.Seats.{seat_listed, seat_told}
use Rattle.line_machines.specs.Sharing.{AreNumbered}
use Rattle.line_engine.specs.Tracks.{FollowsBoth, FollowsOne, IsReady, track_in, with_behind}
use Rattle.line_marks.specs.declared.index.Moved.{Moved}
use Rattle.line_marks.specs.declared.seat.Seat.{Seat}
use Rattle.line_engine.specs.declared.track.Track.{Track}
use Rattle.line_marks.proofs.Following.{IsFollowing, at_end, begins_at, ends_index, goes_on_at}
use Rattle.line_engine.proofs.OnLane.{behind_there}
use Rattle.line_engine.proofs.OnTwo.{get_behind}
use Rattle.line_marks.proofs.Rising.{not_again}
use Rattle.line_step.proofs.Ascending.{choose_false, choose_true}

-- ---- two places of a list

put_same : (p : ℕ) (tracks : List Track) (own : Track) → slice_get tracks p ≡ Some own → with_behind p own tracks ≡ tracks
put_same p [] own there = refl
put_same zero (first ∷ tracks) own there = let same : first ≡ own = cc in ap (λ (t : Track). t ∷ tracks) (sym same)
put_same (suc p) (first ∷ tracks) own there = ap (λ (ts : List Track). first ∷ ts) (put_same p tracks own there)

put_twice : (p : ℕ) (x y : Track) (tracks : List Track) → with_behind p x (with_behind p y tracks) ≡ with_behind p x tracks
put_twice p x y [] = refl
put_twice zero x y (first ∷ tracks) = refl
put_twice (suc p) x y (first ∷ tracks) = ap (λ (ts : List Track). first ∷ ts) (put_twice p x y tracks)

put_swap : (p q : ℕ) (x y : Track) (tracks : List Track) → p ≢ q → with_behind p x (with_behind q y tracks) ≡ with_behind q y (with_behind p x tracks)
put_swap p q x y [] apart = refl
put_swap zero zero x y (first ∷ tracks) apart = absurd (apart refl)
put_swap zero (suc q) x y (first ∷ tracks) apart = refl
put_swap (suc p) zero x y (first ∷ tracks) apart = refl
put_swap (suc p) (suc q) x y (first ∷ tracks) apart = ap (λ (ts : List Track). first ∷ ts) (put_swap p q x y tracks (λ same. apart (ap suc same)))

-- ---- the tracks with other indexes of both lanes

abbrev placed : ℕ → ℕ → Track → Track → List Track → Entries → Entries → List Track
placed pf pt giver taker start given got = with_behind pt (record taker { index = got }) (with_behind pf (record giver { index = given }) start)

seat_put : (id lane p : ℕ) (x y : Track) (tracks : List Track) → marks_listed x.index id ≡ marks_listed y.index id → seat_listed id lane (with_behind p x tracks) ≡ seat_listed id lane (with_behind p y tracks)
seat_put id lane p x y [] same = refl
seat_put id lane zero x y (first ∷ tracks) same = ap (λ (ms : List Mark). both (own_seat lane ms) (seat_listed id (lane + 1) tracks)) same
seat_put id lane (suc p) x y (first ∷ tracks) same = ap (both (own_seat lane (marks_listed first.index id))) (seat_put id (lane + 1) p x y tracks same)

seat_placed : (id pf pt : ℕ) (giver taker : Track) (start : List Track) (given got given2 got2 : Entries) → pf ≢ pt → marks_listed given id ≡ marks_listed given2 id → marks_listed got id ≡ marks_listed got2 id
    → seat_listed id 1 (placed pf pt giver taker start given got) ≡ seat_listed id 1 (placed pf pt giver taker start given2 got2)
seat_placed id pf pt giver taker start given got given2 got2 apart one two =
    seat_put id 1 pt (record taker { index = got }) (record taker { index = got2 }) (with_behind pf (record giver { index = given }) start) two
    ∙ ap (seat_listed id 1) (sym (put_swap pf pt (record giver { index = given }) (record taker { index = got2 }) start apart))
    ∙ seat_put id 1 pf (record giver { index = given }) (record giver { index = given2 }) (with_behind pt (record taker { index = got2 }) start) one
    ∙ ap (seat_listed id 1) (put_swap pf pt (record giver { index = given2 }) (record taker { index = got2 }) start apart)

-- ---- the loop

-- what is told of standings is told behind both
abbrev no_tell : ℕ → List Mark → List Mark → List LaneHappening
no_tell id before now = []

abbrev all_told : ℕ → ℕ → Track → Track → List Track → Entries → Entries → List ℕ → List LaneHappening
all_told pf pt giver taker start given got ids =
    flat_map (λ (id : ℕ). seat_told id (seat_listed id 1 start) (seat_listed id 1 (placed pf pt giver taker start given got))) ids

-- two lines that the lanes were, and what the indexes are then
pub record AreFollowing (machine pf pt : ℕ) (giver taker : Track) (start : List Track) (line other : List Owned) (all rest : List ℕ) (given got : Entries) (old new : List LaneHappening) : Type 0 where
  pub giving : IsFollowing machine machine line (owned giver.state) no_tell all rest giver.index given [] []
  pub getting : IsFollowing machine machine other (owned taker.state) no_tell all rest taker.index got [] []
  pub told : (given2 got2 : Entries) → IsIndexOf given2 (owned giver.state) → IsIndexOf got2 (owned taker.state)
      → new ++ all_told pf pt giver taker start given2 got2 rest ≡ old ++ all_told pf pt giver taker start given2 got2 all

pub record IsBoth (machine from to : ℕ) (ids all rest : List ℕ) (start now : List Track) (old new : List LaneHappening) : Type 0 where
  pub giver : Track
  pub taker : Track
  pub from_is : track_in from start ≡ Some giver
  pub to_is : track_in to start ≡ Some taker
  pub given : Entries
  pub got : Entries
  pub now_is : now ≡ placed (from - 1) (to - 1) giver taker start given got
  pub each : (line other : List Owned) → IsIndexOf giver.index line → IsIndexOf taker.index other → Follows machine machine ids line (owned giver.state) → Follows machine machine ids other (owned taker.state)
      → AreFollowing machine (from - 1) (to - 1) giver taker start line other all rest given got old new

-- so far none
pub both_begin : (machine from to : ℕ) (ids all : List ℕ) (start : List Track) (giver taker : Track) (told : List LaneHappening) → all ≡ ascending ids → track_in from start ≡ Some giver → track_in to start ≡ Some taker
    → IsBoth machine from to ids all all start start told told
both_begin machine zero to ids all start giver taker told are from_is to_is = absurd (cc)
both_begin machine (suc pf) zero ids all start giver taker told are from_is to_is = absurd (cc)
both_begin machine (suc pf) (suc pt) ids all start giver taker told are from_is to_is = record {
  giver = giver;
  taker = taker;
  from_is = from_is;
  to_is = to_is;
  given = giver.index;
  got = taker.index;
  now_is = sym (ap (λ (n : ℕ). with_behind (suc pt - 1) taker (with_behind n giver start)) (sub-one (suc pf)) ∙ ap (λ (ts : List Track). with_behind (suc pt - 1) taker ts) (put_same pf start giver from_is)
      ∙ ap (λ (n : ℕ). with_behind n taker start) (sub-one (suc pt)) ∙ put_same pt start taker to_is);
  each = λ line other one two first second. record {
    giving = begins_at machine machine line (owned giver.state) no_tell ids all giver.index [] are one first;
    getting = begins_at machine machine other (owned taker.state) no_tell ids all taker.index [] are two second;
    told = λ given2 got2 a b. refl;
  };
}

-- of lanes that are there
begin_at : (machine from to : ℕ) (ids all : List ℕ) (start : List Track) (told : List LaneHappening) (found second : Option Track) → all ≡ ascending ids → track_in from start ≡ found → track_in to start ≡ second
    → IsSomeAnd found (λ (own : Track). IsLineTogether own.state × AreNumbered own.state) → IsSomeAnd second (λ (own : Track). IsLineTogether own.state × AreNumbered own.state) → IsBoth machine from to ids all all start start told told
begin_at machine from to ids all start told None second are one two ready other = absurd ready
begin_at machine from to ids all start told (Some giver) None are one two ready other = absurd other
begin_at machine from to ids all start told (Some giver) (Some taker) are one two ready other = both_begin machine from to ids all start giver taker told are one two

pub both_begins : (machine from to : ℕ) (ids all : List ℕ) (start : List Track) (told : List LaneHappening) → all ≡ ascending ids → IsReady from start → IsReady to start → IsBoth machine from to ids all all start start told told
both_begins machine from to ids all start told are one two = begin_at machine from to ids all start told (track_in from start) (track_in to start) are refl refl one two

-- ---- one id more

has_first : (id : ℕ) (rest : List ℕ) → has_id id (id ∷ rest) ≡ true
has_first id rest = ap (λ (test : Bool). test || has_id id rest) (eq-eqb id id refl)

-- what an index has of the next id, and has of it behind
next_had : (machine : ℕ) (before now : List Owned) (all : List ℕ) (id : ℕ) (rest : List ℕ) (old new : Entries) → IsIndexOf old before → IsFollowing machine machine before now no_tell all (id ∷ rest) old new [] [] → marks_listed new id ≡ marks_listed old id
next_had machine before now all id rest old new index f =
    ap marks_in_entry (f.entries id) ∙ ap (λ (ms : List Mark). marks_in_entry (indexed ms)) (choose_true (has_id id (id ∷ rest)) (marks_of before id) (marks_of now id) (has_first id rest)) ∙ sym (ap marks_in_entry (index.at id))

next_has : (machine : ℕ) (before now : List Owned) (all : List ℕ) (id : ℕ) (rest : List ℕ) (old new last : Entries) → IsIndexOf last now → has_id id rest ≡ false → IsFollowing machine machine before now no_tell all rest old new [] [] → marks_listed new id ≡ marks_listed last id
next_has machine before now all id rest old new last index none f =
    ap marks_in_entry (f.entries id) ∙ ap (λ (ms : List Mark). marks_in_entry (indexed ms)) (choose_false (has_id id rest) (marks_of before id) (marks_of now id) none) ∙ sym (ap marks_in_entry (index.at id))

placed_start : (pf pt : ℕ) (giver taker : Track) (start : List Track) → slice_get start pf ≡ Some giver → slice_get start pt ≡ Some taker → placed pf pt giver taker start giver.index taker.index ≡ start
placed_start pf pt giver taker start from_is to_is = ap (with_behind pt taker) (put_same pf start giver from_is) ∙ put_same pt start taker to_is

-- one lane's index
record IsPut (machine id p : ℕ) (own : Track) (index : Entries) (before after : List Track) : Type 0 where
  next : Entries
  after_is : after ≡ with_behind p (record own { index = next }) before
  entries : (other : ℕ) → entry_at next other ≡ (if nat_eq id other then indexed (patched machine machine (owned own.state) (marks_listed index id) id) else entry_at index other)

put_of : (machine id p : ℕ) (own : Track) (index : Entries) (before after : List Track) (moved : Moved) → slice_get before p ≡ Some (record own { index = index }) → FollowsOne (suc p) machine machine id before after moved → IsPut machine id p own index before after
put_of machine id p own index before after moved there f =
    let seen : slice_get before p ≡ Some f.own = f.there in
    let same : f.own ≡ record own { index = index } = cc in
    record {
      next = f.index;
      after_is = f.after_is ∙ ap (λ (n : ℕ). with_behind n (record f.own { index = f.index }) before) (sub-one (suc p)) ∙ ap (λ (t : Track). with_behind p (record t { index = f.index }) before) same;
      entries = λ other. subst (λ (t : Track). entry_at f.index other ≡ (if nat_eq id other then indexed (patched machine machine (owned t.state) (marks_listed t.index id) id) else entry_at t.index other)) same (f.entries other);
    }

both_next : (machine pf pt : ℕ) (all : List ℕ) (place id : ℕ) (start : List Track) (giver taker : Track) (line other : List Owned) (given got given3 got3 : Entries) (old new newer : List LaneHappening)
    → pf ≢ pt → place < length all → id ≡ get_or all place id
    → slice_get start pf ≡ Some giver → slice_get start pt ≡ Some taker → IsIndexOf giver.index line → IsIndexOf taker.index other
    → AreFollowing machine pf pt giver taker start line other all (drop place all) given got old new
    → ((o : ℕ) → entry_at given3 o ≡ (if nat_eq id o then indexed (patched machine machine (owned giver.state) (marks_listed given id) id) else entry_at given o))
    → ((o : ℕ) → entry_at got3 o ≡ (if nat_eq id o then indexed (patched machine machine (owned taker.state) (marks_listed got id) id) else entry_at got o))
    → newer ≡ new ++ seat_told id (seat_listed id 1 (placed pf pt giver taker start given got)) (seat_listed id 1 (placed pf pt giver taker start given3 got3))
    → AreFollowing machine pf pt giver taker start line other all (drop (place + 1) all) given3 got3 old newer
both_next machine pf pt all place id start giver taker line other given got given3 got3 old new newer apart within is from_is to_is one two was first second newer_is =
    let rest : List ℕ = drop (place + 1) all in
    let drops : drop place all ≡ id ∷ rest = drop_more all place id within ∙ ap (λ (x : ℕ). x ∷ drop (place + 1) all) (sym is) in
    let giving : IsFollowing machine machine line (owned giver.state) no_tell all (id ∷ rest) giver.index given [] [] = subst (λ (ids : List ℕ). IsFollowing machine machine line (owned giver.state) no_tell all ids giver.index given [] []) drops was.giving in
    let getting : IsFollowing machine machine other (owned taker.state) no_tell all (id ∷ rest) taker.index got [] [] = subst (λ (ids : List ℕ). IsFollowing machine machine other (owned taker.state) no_tell all ids taker.index got [] []) drops was.getting in
    let giving_on : IsFollowing machine machine line (owned giver.state) no_tell all rest giver.index given3 [] [] =
    goes_on_at machine machine line (owned giver.state) no_tell all place id giver.index given given3 [] [] [] within is was.giving (record { told = refl; entries = first }) in
    let getting_on : IsFollowing machine machine other (owned taker.state) no_tell all rest taker.index got3 [] [] =
    goes_on_at machine machine other (owned taker.state) no_tell all place id taker.index got got3 [] [] [] within is was.getting (record { told = refl; entries = second }) in
    let none : has_id id rest ≡ false = not_again id rest giving.rising in
    let before : seat_listed id 1 (placed pf pt giver taker start given got) ≡ seat_listed id 1 start =
    seat_placed id pf pt giver taker start given got giver.index taker.index apart (next_had machine line (owned giver.state) all id rest giver.index given one giving) (next_had machine other (owned taker.state) all id rest taker.index got two getting)
    ∙ ap (seat_listed id 1) (placed_start pf pt giver taker start from_is to_is) in
    record {
      giving = giving_on;
      getting = getting_on;
      told = λ given2 got2 a b. (
          let last : List Track = placed pf pt giver taker start given2 got2 in
          let after : seat_listed id 1 (placed pf pt giver taker start given3 got3) ≡ seat_listed id 1 last =
          seat_placed id pf pt giver taker start given3 got3 given2 got2 apart (next_has machine line (owned giver.state) all id rest giver.index given3 given2 a none giving_on) (next_has machine other (owned taker.state) all id rest taker.index got3 got2 b none getting_on) in
          ap (λ (ts : List LaneHappening). ts ++ all_told pf pt giver taker start given2 got2 rest) newer_is
          ∙ append_assoc new (seat_told id (seat_listed id 1 (placed pf pt giver taker start given got)) (seat_listed id 1 (placed pf pt giver taker start given3 got3))) (all_told pf pt giver taker start given2 got2 rest)
          ∙ ap (λ (s : Seat). new ++ (seat_told id s (seat_listed id 1 (placed pf pt giver taker start given3 got3)) ++ all_told pf pt giver taker start given2 got2 rest)) before
          ∙ ap (λ (s : Seat). new ++ (seat_told id (seat_listed id 1 start) s ++ all_told pf pt giver taker start given2 got2 rest)) after
          ∙ ap (λ (ids : List ℕ). new ++ all_told pf pt giver taker start given2 got2 ids) (sym drops)
          ∙ was.told given2 got2 a b);
    }

pub both_more : (machine from to : ℕ) (ids all : List ℕ) (place id : ℕ) (start now between next : List Track) {moved other : Moved} (old new newer : List LaneHappening) → from ≢ to → place < length all → id ≡ get_or all place id
    → IsBoth machine from to ids all (drop place all) start now old new → FollowsOne from machine machine id now between moved → FollowsOne to machine machine id between next other
    → newer ≡ new ++ seat_told id (seat_listed id 1 now) (seat_listed id 1 next) → IsBoth machine from to ids all (drop (place + 1) all) start next old newer
both_more machine zero to ids all place id start now between next old new newer apart within is b one two newer_is = let none = b.from_is in absurd (cc)
both_more machine (suc pf) zero ids all place id start now between next old new newer apart within is b one two newer_is = let none = b.to_is in absurd (cc)
both_more machine (suc pf) (suc pt) ids all place id start now between next {moved} {other} old new newer apart within is b one two newer_is =
    let differ : pf ≢ pt = λ same. apart (ap suc same) in
    let back : pt ≢ pf = λ same. differ (sym same) in
    let giver : Track = b.giver in
    let taker : Track = b.taker in
    let now_is : now ≡ placed pf pt giver taker start b.given b.got =
    b.now_is ∙ ap (λ (n : ℕ). with_behind (suc pt - 1) (record taker { index = b.got }) (with_behind n (record giver { index = b.given }) start)) (sub-one (suc pf))
    ∙ ap (λ (n : ℕ). with_behind n (record taker { index = b.got }) (with_behind pf (record giver { index = b.given }) start)) (sub-one (suc pt)) in
    let giver_at : slice_get now pf ≡ Some (record giver { index = b.given }) =
    ap (λ (ts : List Track). slice_get ts pf) now_is ∙ get_behind pt pf (record taker { index = b.got }) (with_behind pf (record giver { index = b.given }) start) back ∙ behind_there pf start giver (record giver { index = b.given }) b.from_is in
    let first : IsPut machine id pf giver b.given now between = put_of machine id pf giver b.given now between moved giver_at one in
    let between_is : between ≡ placed pf pt giver taker start first.next b.got =
    first.after_is ∙ ap (with_behind pf (record giver { index = first.next })) now_is
    ∙ put_swap pf pt (record giver { index = first.next }) (record taker { index = b.got }) (with_behind pf (record giver { index = b.given }) start) differ
    ∙ ap (with_behind pt (record taker { index = b.got })) (put_twice pf (record giver { index = first.next }) (record giver { index = b.given }) start) in
    let taker_at : slice_get between pt ≡ Some (record taker { index = b.got }) =
    ap (λ (ts : List Track). slice_get ts pt) between_is
    ∙ behind_there pt (with_behind pf (record giver { index = first.next }) start) taker (record taker { index = b.got }) (get_behind pf pt (record giver { index = first.next }) start differ ∙ b.to_is) in
    let second : IsPut machine id pt taker b.got between next = put_of machine id pt taker b.got between next other taker_at two in
    let next_is : next ≡ placed pf pt giver taker start first.next second.next =
    second.after_is ∙ ap (with_behind pt (record taker { index = second.next })) between_is
    ∙ put_twice pt (record taker { index = second.next }) (record taker { index = b.got }) (with_behind pf (record giver { index = first.next }) start) in
    let told : newer ≡ new ++ seat_told id (seat_listed id 1 (placed pf pt giver taker start b.given b.got)) (seat_listed id 1 (placed pf pt giver taker start first.next second.next)) =
    newer_is ∙ ap (λ (ts : List Track). new ++ seat_told id (seat_listed id 1 ts) (seat_listed id 1 next)) now_is
    ∙ ap (λ (ts : List Track). new ++ seat_told id (seat_listed id 1 (placed pf pt giver taker start b.given b.got)) (seat_listed id 1 ts)) next_is in
    record {
      giver = giver;
      taker = taker;
      from_is = b.from_is;
      to_is = b.to_is;
      given = first.next;
      got = second.next;
      now_is = next_is
          ∙ ap (λ (n : ℕ). with_behind n (record taker { index = second.next }) (with_behind pf (record giver { index = first.next }) start)) (sym (sub-one (suc pt)))
          ∙ ap (λ (n : ℕ). with_behind (suc pt - 1) (record taker { index = second.next }) (with_behind n (record giver { index = first.next }) start)) (sym (sub-one (suc pf)));
      each = λ line more a c f g.
          at_subs machine pf pt giver taker start line more all (drop (place + 1) all) first.next second.next old newer
          (both_next machine pf pt all place id start giver taker line more b.given b.got first.next second.next old new newer differ within is b.from_is b.to_is a c
          (at_places machine pf pt giver taker start line more all (drop place all) b.given b.got old new (b.each line more a c f g)) first.entries second.entries told);
    }
  where
    at_places : (machine pf pt : ℕ) (giver taker : Track) (start : List Track) (line other : List Owned) (all rest : List ℕ) (given got : Entries) (old new : List LaneHappening)
        → AreFollowing machine (suc pf - 1) (suc pt - 1) giver taker start line other all rest given got old new → AreFollowing machine pf pt giver taker start line other all rest given got old new
    at_places machine pf pt giver taker start line other all rest given got old new a =
        subst (λ (n : ℕ). AreFollowing machine pf n giver taker start line other all rest given got old new) (sub-one (suc pt))
        (subst (λ (n : ℕ). AreFollowing machine n (suc pt - 1) giver taker start line other all rest given got old new) (sub-one (suc pf)) a)

    at_subs : (machine pf pt : ℕ) (giver taker : Track) (start : List Track) (line other : List Owned) (all rest : List ℕ) (given got : Entries) (old new : List LaneHappening)
        → AreFollowing machine pf pt giver taker start line other all rest given got old new → AreFollowing machine (suc pf - 1) (suc pt - 1) giver taker start line other all rest given got old new
    at_subs machine pf pt giver taker start line other all rest given got old new a =
        subst (λ (n : ℕ). AreFollowing machine (suc pf - 1) n giver taker start line other all rest given got old new) (sym (sub-one (suc pt)))
        (subst (λ (n : ℕ). AreFollowing machine n pt giver taker start line other all rest given got old new) (sym (sub-one (suc pf))) a)

-- all
gone : (all : List ℕ) (place : ℕ) → length all ≤ place → drop place all ≡ []
gone all place past = drop_all place all past

pub follows_one : (lane first last machine id : ℕ) (before after : List Track) {moved : Moved} → first ≡ machine → last ≡ machine → FollowsOne lane first last id before after moved → FollowsOne lane machine machine id before after moved
follows_one lane first last machine id before after {moved} one other f =
    subst (λ (n : ℕ). FollowsOne lane machine n id before after moved) other (subst (λ (n : ℕ). FollowsOne lane n last id before after moved) one f)

pub both_end : (machine from to : ℕ) (given got : List Happening) (all : List ℕ) (place : ℕ) (start after : List Track) (old behind new : List LaneHappening) → all ≡ ascending (ids_named (given ++ got)) → length all ≤ place
    → behind ≡ old ++ shift_told from to given got → IsBoth machine from to (ids_named (given ++ got)) all (drop place all) start after behind new → FollowsBoth machine from to given got start after old new
both_end machine from to given got all place start after old behind new are past told b = record {
  giver = b.giver;
  taker = b.taker;
  from_is = b.from_is;
  to_is = b.to_is;
  given_index = b.given;
  got_index = b.got;
  after_is = b.now_is;
  each = λ line other one two first second. (
      let a = b.each line other one two first second in
      let given_is : IsIndexOf b.given (owned b.giver.state) = ends_index machine machine line (owned b.giver.state) no_tell all b.giver.index b.given [] [] (at_end machine machine line (owned b.giver.state) no_tell all place b.giver.index b.given [] [] past a.giving) in
      let got_is : IsIndexOf b.got (owned b.taker.state) = ends_index machine machine other (owned b.taker.state) no_tell all b.taker.index b.got [] [] (at_end machine machine other (owned b.taker.state) no_tell all place b.taker.index b.got [] [] past a.getting) in
      let last : List Track = placed (from - 1) (to - 1) b.giver b.taker start b.given b.got in
      let what : List ℕ → List LaneHappening = all_told (from - 1) (to - 1) b.giver b.taker start b.given b.got in (
        given_is,
        got_is,
        sym (append-nil new) ∙ ap (λ (ids : List ℕ). new ++ what ids) (sym (gone all place past)) ∙ a.told b.given b.got given_is got_is
            ∙ ap (λ (ts : List LaneHappening). ts ++ what all) told ∙ append_assoc old (shift_told from to given got) (what all)
            ∙ ap (λ (ids : List ℕ). old ++ (shift_told from to given got ++ what ids)) are
            ∙ ap (λ (ts : List Track). old ++ (shift_told from to given got ++ flat_map (λ (id : ℕ). seat_told id (seat_listed id 1 start) (seat_listed id 1 ts)) (ascending (ids_named (given ++ got))))) (sym b.now_is),
      ));
}

-- ---- what the loop needs of the tracks

put_long : (p : ℕ) (x : Track) (tracks : List Track) → length (with_behind p x tracks) ≡ length tracks
put_long p x [] = refl
put_long zero x (first ∷ tracks) = refl
put_long (suc p) x (first ∷ tracks) = ap (λ (n : ℕ). suc n) (put_long p x tracks)

ready_put : (q p : ℕ) (x own : Track) (tracks : List Track) → slice_get tracks p ≡ Some own → x.state ≡ own.state → IsReady (suc q) tracks → IsReady (suc q) (with_behind p x tracks)
ready_put q p x own [] there same ready = absurd ready
ready_put zero zero x own (first ∷ tracks) there same ready =
    let is : first ≡ own = cc in
    let state_is : x.state ≡ first.state = same ∙ ap (λ (t : Track). t.state) (sym is) in
    (subst (λ (s : LineState). IsLineTogether s) (sym state_is) ready.0, subst (λ (s : LineState). AreNumbered s) (sym state_is) ready.1)
ready_put zero (suc p) x own (first ∷ tracks) there same ready = ready
ready_put (suc q) zero x own (first ∷ tracks) there same ready = ready
ready_put (suc q) (suc p) x own (first ∷ tracks) there same ready = ready_put q p x own tracks there same ready

-- the tracks stay ready as an index follows
pub record StayReady (from to : ℕ) (now : List Track) : Type 0 where
  pub few : length now ≤ 4
  pub giver : IsReady from now
  pub taker : IsReady to now

ready_behind : (lane p : ℕ) (x own : Track) (tracks : List Track) → slice_get tracks p ≡ Some own → x.state ≡ own.state → IsReady lane tracks → IsReady lane (with_behind p x tracks)
ready_behind zero p x own tracks there same ready = absurd ready
ready_behind (suc q) p x own tracks there same ready = ready_put q p x own tracks there same ready

pub stay_ready : (from to lane machine id : ℕ) (now next : List Track) {moved : Moved} → FollowsOne lane machine machine id now next moved → StayReady from to now → StayReady from to next
stay_ready from to zero machine id now next f r = let none = f.there in absurd (cc)
stay_ready from to (suc p) machine id now next f r =
    let own : Track = record f.own { index = f.index } in
    let is : next ≡ with_behind p own now = f.after_is ∙ ap (λ (n : ℕ). with_behind n own now) (sub-one (suc p)) in
    subst (λ (ts : List Track). StayReady from to ts) (sym is)
    (record {
      few = subst (λ (n : ℕ). n ≤ 4) (sym (put_long p own now)) r.few;
      giver = ready_behind from p own f.own now f.there refl r.giver;
      taker = ready_behind to p own f.own now f.there refl r.taker;
    })
