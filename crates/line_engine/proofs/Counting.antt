-- A line is counted on each lane, and with that it is a step.
use Rattle.std.proofs.Common.{◌≡◌, ◌∙◌, ◌+◌, ◌≤◌, ◌++◌, ℕ, Bool, true, false, suc, List, [], ◌∷◌, ap, arith, length, map, refl, subst, sym}
use Rattle.std.specs.List.{AllByRecursion}
use Rattle.line_report.specs.declared.happening.LaneHappening.{LaneHappening}
use Rattle.line_script.specs.declared.line.LaneLine.{LaneLine}
use Rattle.line_step.specs.Lines.{Counts}
use Rattle.line_step.specs.Parts.{count_behind}
use Rattle.line_step.specs.State.{LineState}
use Rattle.line_step.proofs.Counted.{rises}
use Rattle.law_lanes.specs.Lanes.{counted, lines_of}
use Rattle.law_lanes.specs.Shown.{standings_on}
use Rattle.law_lanes.specs.Steps.{LanesDo}
use Rattle.line_engine.specs.Each.{GoesOn}
use Rattle.line_engine.specs.Sharing.{counted_track}
use Rattle.line_engine.specs.Tracks.{AreKept, AreLike, IsLike, IsOwn, TellsDone, lanes_of, states_of}
use Rattle.line_engine.specs.declared.track.Track.{Track}

counts_to : (ends : Bool) (lines : ℕ) → Counts lines (count_behind ends lines)
counts_to true lines = rises lines
counts_to false lines = record { least = omega arith; most = omega arith }

states_counted : (n : ℕ) (tracks : List Track) → states_of (map (counted_track n) tracks) ≡ map (λ (t : LineState). record t { lines = n }) (states_of tracks)
states_counted n [] = refl
states_counted n (track ∷ tracks) = ap (λ (ss : List LineState). record track.state { lines = n } ∷ ss) (states_counted n tracks)

pub counted_lanes : (n : ℕ) (tracks : List Track) → lanes_of (map (counted_track n) tracks) ≡ counted n (lanes_of tracks)
counted_lanes n tracks = ap (λ (ss : List LineState). record (lanes_of tracks) { tracks = ss }) (states_counted n tracks)

-- nothing changes where that is what was counted
alike_counted : (s : LineState) (ss : List LineState) → AllByRecursion (IsLike s) ss → map (λ (t : LineState). record t { lines = s.lines }) ss ≡ ss
alike_counted s [] like = refl
alike_counted s (t ∷ ss) like =
    ap (λ (n : ℕ). record t { lines = n } ∷ map (λ (u : LineState). record u { lines = s.lines }) ss) like.0.lines
    ∙ ap (λ (us : List LineState). t ∷ us) (alike_counted s ss like.1)

pub counted_rest : (tracks : List Track) → AreLike (states_of tracks) → lanes_of tracks ≡ counted (lines_of (lanes_of tracks)) (lanes_of tracks)
counted_rest [] like = refl
counted_rest (track ∷ tracks) like = ap (λ (ss : List LineState). record (lanes_of (track ∷ tracks)) { tracks = track.state ∷ ss }) (sym (alike_counted track.state (states_of tracks) like))

-- where the line doesn't end, and where it does
pub counted_not : (ends : Bool) (tracks : List Track) → ends ≡ false → AreLike (states_of tracks) → lanes_of tracks ≡ counted (count_behind ends (lines_of (lanes_of tracks))) (lanes_of tracks)
counted_not ends tracks is like = counted_rest tracks like ∙ ap (λ (b : Bool). counted (count_behind b (lines_of (lanes_of tracks))) (lanes_of tracks)) (sym is)

pub counted_all : (ends : Bool) (number : ℕ) (tracks now : List Track) → ends ≡ true → number ≡ lines_of (lanes_of tracks) + 1 → now ≡ map (counted_track number) tracks
    → lanes_of now ≡ counted (count_behind ends (lines_of (lanes_of tracks))) (lanes_of tracks)
counted_all ends number tracks now is numbered now_is =
    ap lanes_of now_is ∙ counted_lanes number tracks ∙ ap (λ (n : ℕ). counted n (lanes_of tracks)) numbered
    ∙ ap (λ (b : Bool). counted (count_behind b (lines_of (lanes_of tracks))) (lanes_of tracks)) (sym is)

-- the tracks, of which the first is counted apart
pub first_counted : (number : ℕ) (first : Track) (others now : List Track) (state : LineState) → state ≡ record first.state { lines = number } → now ≡ map (counted_track number) others
    → record first { state = state } ∷ now ≡ map (counted_track number) (first ∷ others)
first_counted number first others now state one rest =
    ap (λ (s : LineState). record first { state = s } ∷ now) one ∙ ap (λ (ts : List Track). counted_track number first ∷ ts) rest

owns_counted : (n : ℕ) (tracks : List Track) → n ≤ 1000000 → AllByRecursion IsOwn tracks → AllByRecursion IsOwn (map (counted_track n) tracks)
owns_counted n [] few owns = tt
owns_counted n (track ∷ tracks) few owns = (
  record {
    together = record { few = owns.0.together.few; short = few; floor = owns.0.together.floor; links = owns.0.together.links; joined = owns.0.together.joined };
    numbered = owns.0.numbered;
    index = owns.0.index;
  },
  owns_counted n tracks few owns.1,
)

like_counted : (n : ℕ) (s : LineState) (tracks : List Track) → AllByRecursion (IsLike s) (states_of tracks) → AllByRecursion (IsLike (record s { lines = n })) (states_of (map (counted_track n) tracks))
like_counted n s [] like = tt
like_counted n s (track ∷ tracks) like = (record { shared = like.0.shared; lines = refl; unvouched = like.0.unvouched }, like_counted n s tracks like.1)

likes_counted : (n : ℕ) (tracks : List Track) → AreLike (states_of tracks) → AreLike (states_of (map (counted_track n) tracks))
likes_counted n [] like = tt
likes_counted n (track ∷ tracks) like = like_counted n track.state tracks like

pub wide_counted : (n : ℕ) (tracks : List Track) → length (map (counted_track n) tracks) ≡ length tracks
wide_counted n [] = refl
wide_counted n (track ∷ tracks) = ap (λ (k : ℕ). suc k) (wide_counted n tracks)

pub counted_kept : (n : ℕ) (tracks : List Track) → n ≤ 1000000 → AreKept tracks → AreKept (map (counted_track n) tracks)
counted_kept n tracks few kept = record {
  few = subst (λ (k : ℕ). k ≤ 4) (sym (wide_counted n tracks)) kept.few;
  each = owns_counted n tracks few kept.each;
  alike = likes_counted n tracks kept.alike;
}

-- ---- a part of a line

pub part_goes : (number : ℕ) (line : LaneLine) (ends : Bool) (before next after : List Track) (old new : List LaneHappening) → TellsDone (LanesDo number line) before next old new
    → lanes_of after ≡ counted (count_behind ends (lines_of (lanes_of next))) (lanes_of next) → GoesOn number line (lanes_of before) (lanes_of after) old new
part_goes number line ends before next after old new t is = record {
  more = t.done ++ standings_on (lanes_of before) (lanes_of next);
  steps = record {
    next = lanes_of next;
    done = t.done;
    does = t.does;
    lines = count_behind ends (lines_of (lanes_of next));
    counts = counts_to ends (lines_of (lanes_of next));
    after_is = is;
    told_is = refl;
  };
  now_is = t.now_is;
}

counted_first : (n : ℕ) (track : Track) (tracks : List Track) → lines_of (counted n (lanes_of (track ∷ tracks))) ≡ n
counted_first n track tracks = refl

pub part_counts : (ends : Bool) (before after : List Track) (track : Track) (tracks : List Track) → lines_of (lanes_of (track ∷ tracks)) ≡ lines_of (lanes_of before)
    → lanes_of after ≡ counted (count_behind ends (lines_of (lanes_of (track ∷ tracks)))) (lanes_of (track ∷ tracks)) → lines_of (lanes_of after) ≡ count_behind ends (lines_of (lanes_of before))
part_counts ends before after track tracks same is = ap lines_of is ∙ ap (count_behind ends) same
