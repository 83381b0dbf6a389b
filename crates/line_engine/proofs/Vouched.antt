-- Nobody vouches for a lane where nobody does for the line.
use Rattle.std.proofs.Common.{◌≡◌, ◌∙◌, ◌≤◌, ℕ, Bool, zero, suc, List, [], ◌∷◌, ap, arith, refl, sym}
use Rattle.std.proofs.Math.Numerals.{sub-one}
use Rattle.std.specs.Prelude.{get_or}
use Rattle.std.specs.List.{AllByRecursion}
use Rattle.line_step.specs.State.{LineState}
use Rattle.law_lanes.specs.Lanes.{empty_track, track, unvouched_of}
use Rattle.line_engine.specs.Each.{AreVouchedAlike}
use Rattle.line_engine.specs.Tracks.{AreKept, AreLike, IsLike, states_of}
use Rattle.line_engine.specs.declared.track.Track.{Track}
use Rattle.line_engine.proofs.Seen.{seen}

among : (s none : LineState) (ss : List LineState) (place : ℕ) → AllByRecursion (IsLike s) ss → none.unvouched ≡ s.unvouched → (get_or ss place none).unvouched ≡ s.unvouched
among s none [] place like is = is
among s none (t ∷ ss) zero like is = sym like.0.unvouched
among s none (t ∷ ss) (suc place) like is = among s none ss place like.1 is

alike_at : (spent : Bool) (tracks : List Track) (place : ℕ) → AreLike (states_of tracks) → (get_or (states_of tracks) place (empty_track (seen spent tracks))).unvouched ≡ unvouched_of (seen spent tracks)
alike_at spent [] place like = refl
alike_at spent (first ∷ tracks) zero like = refl
alike_at spent (first ∷ tracks) (suc place) like = among first.state (empty_track (seen spent (first ∷ tracks))) (states_of tracks) place like refl

pub vouched_alike : (spent : Bool) (tracks : List Track) → AreKept tracks → AreVouchedAlike (seen spent tracks)
vouched_alike spent tracks kept = λ lane least. at_lane lane least
  where
    at_lane : (lane : ℕ) → 1 ≤ lane → (track lane (seen spent tracks)).unvouched ≡ unvouched_of (seen spent tracks)
    at_lane zero least = absurd (omega (arith, least))
    at_lane (suc place) least = ap (λ (n : ℕ). (get_or (states_of tracks) n (empty_track (seen spent tracks))).unvouched) (sub-one (suc place)) ∙ alike_at spent tracks place kept.alike
