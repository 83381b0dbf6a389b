-- The frames of a front of a stream are the first of its frames.
use Rattle.std.proofs.Common.{List, None, Some, [], ap, refl, sym, ℕ, ◌++◌, ◌∙◌, ◌∷◌, ◌≡◌}
use Rattle.law_custody.proofs.Texts.{first_text, texts_behind, no_first, rebuilt}
use Rattle.hermes_stream.specs.Frames.{Answer, Frame, Frames, NeedMore, TooLong, answer_of, behind, frames_of, left_of}
use Rattle.hermes_stream.proofs.Streams.{frames_of-frame, frames_of-frame_append, frames_of-need_more, frames_of-need_more_append, frames_of-too_long_append}

-- the texts of a whole stream: those of the front, and those behind it, which what is left of the front begins
pub record IsFront (texts : List (List ℕ)) (x y : List ℕ) : Type 0 where
  pub later : List (List ℕ)
  pub left : List ℕ
  pub texts_are : texts ≡ (frames_of x).messages ++ later
  pub rest : (frames_of x).rest ≡ Some left
  pub flows : frames_of (left ++ y) ≡ record { messages = later; rest = Some [] }

pub no_end : {left : List ℕ} → None ≡ Some left → ⊥
no_end e = cc

front_more : (t f : List ℕ) (ts : List (List ℕ)) (x y : List ℕ) → answer_of x ≡ Frame f → f ≡ t → IsFront ts (left_of x) y → IsFront (t ∷ ts) x y
front_more t f ts x y answer same front = record {
  later = front.later;
  left = front.left;
  texts_are = ap (λ (first : List ℕ). first ∷ ts) (sym same) ∙ ap (λ (others : List (List ℕ)). f ∷ others) front.texts_are ∙ sym (ap (λ (z : Frames). z.messages ++ front.later) (frames_of-frame x f answer));
  rest = ap (λ (z : Frames). z.rest) (frames_of-frame x f answer) ∙ front.rest;
  flows = front.flows;
}

front_at : (texts : List (List ℕ)) (x y : List ℕ) (answer : Answer) → answer_of x ≡ answer → frames_of (x ++ y) ≡ record { messages = texts; rest = Some [] }
    → ((f : List ℕ) (ts : List (List ℕ)) → answer_of x ≡ Frame f → texts ≡ f ∷ ts → frames_of (left_of x ++ y) ≡ record { messages = ts; rest = Some [] } → IsFront texts x y) → IsFront texts x y
front_at texts x y TooLong is e more = absurd (no_end (ap (λ (z : Frames). z.rest) (sym (frames_of-too_long_append x y is) ∙ e)))
front_at texts x y NeedMore is e more = record {
  later = texts;
  left = left_of x;
  texts_are = sym (ap (λ (z : Frames). z.messages ++ texts) (frames_of-need_more x is));
  rest = ap (λ (z : Frames). z.rest) (frames_of-need_more x is);
  flows = sym (frames_of-need_more_append x y is) ∙ e;
}
front_at texts x y (Frame f) is e more =
    let whole : behind (f ∷ []) (frames_of (left_of x ++ y)) ≡ record { messages = texts; rest = Some [] } = sym (frames_of-frame_append x y f is) ∙ e in
    more f (frames_of (left_of x ++ y)).messages is (sym (ap (λ (z : Frames). z.messages) whole))
    (rebuilt (frames_of (left_of x ++ y)) refl (ap (λ (z : Frames). z.rest) whole))

pub front_of : (texts : List (List ℕ)) (x y : List ℕ) → frames_of (x ++ y) ≡ record { messages = texts; rest = Some [] } → IsFront texts x y
front_of [] x y e = front_at [] x y (answer_of x) refl e (λ f ts is texts_are flows. absurd (no_first (sym texts_are)))
front_of (t ∷ ts) x y e =
    front_at (t ∷ ts) x y (answer_of x) refl e (λ f others is texts_are flows.
    front_more t f ts x y is (sym (first_text texts_are))
    (front_of ts (left_of x) y (flows ∙ ap (λ (ms : List (List ℕ)). record { messages = ms; rest = Some [] }) (sym (texts_behind texts_are)))))
