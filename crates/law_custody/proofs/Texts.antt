-- The frames that are still to come on a link without a NUL: the texts of the messages in flight, in order.
use Rattle.std.proofs.Common.{List, None, Option, Some, [], ap, append-nil, append_assoc, refl, sym, ℕ, ◌++◌, ◌∙◌, ◌∷◌, ◌≡◌}
use Rattle.hermes_stream.proofs.Streams.{frames_of-frame_append, frames_of-need_more, frames_of-need_more_append, frames_of-too_long_append}
use Rattle.hermes_stream.specs.Cutter.{GivesFrame, StaysTooLong, WantsMore}
use Rattle.hermes_stream.specs.Frames.{Answer, Frame, Frames, IsOneFrame, NeedMore, TooLong, answer_of, behind, frames_of, left_of}
use Rattle.law_custody.specs.Bytes.{Flows, Next}

no_rest : ◌≡◌ {A = Option (List ℕ)} None (Some []) → ⊥
no_rest e = cc

-- a frame that is cut is the first text in flight
pub cuts_the_first : {waiting coming : List ℕ} {texts : List (List ℕ)} {f : List ℕ} → GivesFrame waiting f → Flows waiting coming texts → Next waiting coming texts f
cuts_the_first {waiting = w} {coming = c} g k =
    let e = sym (g.frames c) ∙ k.frames in
    record {
      later = (frames_of (left_of w ++ c)).messages;
      first = sym (ap (λ x. x.messages) e);
      flows = record { frames = ap (λ r. record { messages = (frames_of (left_of w ++ c)).messages; rest = r }) (ap (λ x. x.rest) e) };
    }

-- where more is wanted, the same is to come
pub wants_the_same : {waiting coming : List ℕ} {texts : List (List ℕ)} → WantsMore waiting → Flows waiting coming texts → Flows (left_of waiting) coming texts
wants_the_same {coming = c} g k = record { frames = sym (g.frames c) ∙ k.frames }

-- and nothing is too long
pub never_too_long : {waiting coming : List ℕ} {texts : List (List ℕ)} → StaysTooLong waiting → Flows waiting coming texts → ⊥
never_too_long {coming = c} g k = no_rest (ap (λ x. x.rest) (sym (g.frames c) ∙ k.frames))

-- a piece arrives
pub arrives : {texts : List (List ℕ)} (w p c : List ℕ) → Flows w (p ++ c) texts → Flows (w ++ p) c texts
arrives w p c k = record { frames = rw (append_assoc w p c) k.frames }

-- what is sent comes behind: of a stream that ends with a whole message
nothing_after : (x : List ℕ) → frames_of (x ++ []) ≡ frames_of x
nothing_after x = ap frames_of (append-nil x)

pub no_first : {f : List ℕ} {fs : List (List ℕ)} → f ∷ fs ≡ [] → ⊥
no_first e = cc

pub texts_behind : {f t : List ℕ} {fs ts : List (List ℕ)} → f ∷ fs ≡ t ∷ ts → fs ≡ ts
texts_behind e = cc

pub first_text : {f t : List ℕ} {fs ts : List (List ℕ)} → f ∷ fs ≡ t ∷ ts → f ≡ t
first_text e = cc

pub rebuilt : {ts : List (List ℕ)} {k : Option (List ℕ)} (z : Frames) → z.messages ≡ ts → z.rest ≡ k → z ≡ record { messages = ts; rest = k }
rebuilt z m r = λ i. record { messages = m i; rest = r i }

same_some : {a c : List ℕ} → ◌≡◌ {A = Option (List ℕ)} (Some a) (Some c) → a ≡ c
same_some e = cc

after_nothing : (texts : List (List ℕ)) (left x y : List ℕ) → ◌≡◌ {A = Frames} (record { messages = []; rest = Some left }) (record { messages = texts; rest = Some [] })
    → frames_of (x ++ y) ≡ frames_of (left ++ y) → frames_of (x ++ y) ≡ behind texts (frames_of y)
after_nothing texts left x y e k = k ∙ ap (λ l. frames_of (l ++ y)) (same_some (ap (λ r. r.rest) e)) ∙ ap (λ ts. behind ts (frames_of y)) (ap (λ r. r.messages) e)

pub comes_behind : (texts : List (List ℕ)) (x y : List ℕ) (answer : Answer) → answer_of x ≡ answer → frames_of x ≡ record { messages = texts; rest = Some [] }
    → frames_of (x ++ y) ≡ behind texts (frames_of y)
comes_behind texts x y TooLong a e = absurd (no_rest (ap (λ r. r.rest) (sym (frames_of-too_long_append x [] a) ∙ nothing_after x ∙ e)))
comes_behind [] x y (Frame f) a e = absurd (no_first (ap (λ r. r.messages) (sym (frames_of-frame_append x [] f a) ∙ nothing_after x ∙ e)))
comes_behind (t ∷ ts) x y (Frame f) a e =
    let first : behind (f ∷ []) (frames_of (left_of x ++ [])) ≡ record { messages = t ∷ ts; rest = Some [] } = sym (frames_of-frame_append x [] f a) ∙ nothing_after x ∙ e in
    let later : frames_of (left_of x) ≡ record { messages = ts; rest = Some [] } = sym (nothing_after (left_of x)) ∙ rebuilt _ (texts_behind (ap (λ r. r.messages) first)) (ap (λ r. r.rest) first) in
    let again = comes_behind ts (left_of x) y (answer_of (left_of x)) refl later in
    frames_of-frame_append x y f a ∙ ap (behind (f ∷ [])) again ∙ ap (λ g. behind (g ∷ ts) (frames_of y)) (first_text (ap (λ r. r.messages) first))
comes_behind texts x y NeedMore a e = after_nothing texts (left_of x) x y (sym (frames_of-need_more x a) ∙ e) (frames_of-need_more_append x y a)

-- the text of a message, sent on a link
pub sends_a_text : (texts : List (List ℕ)) (w c t : List ℕ) → Flows w c texts → frames_of t ≡ record { messages = t ∷ []; rest = Some [] } → Flows w (c ++ t) (texts ++ (t ∷ []))
sends_a_text texts w c t k e = record { frames = rw (sym (append_assoc w c t)) (comes_behind texts (w ++ c) t (answer_of (w ++ c)) refl k.frames ∙ ap (behind texts) e) }

pub sends_one_frame : (w c t : List ℕ) (texts : List (List ℕ)) → IsOneFrame t → Flows w c texts → Flows w (c ++ t) (texts ++ (t ∷ []))
sends_one_frame w c t texts one k = sends_a_text texts w c t k one.frames

-- nothing is on its way
pub nothing_flows : Flows [] [] []
unfolding answer_of left_of
nothing_flows = record { frames = frames_of-need_more [] refl }
