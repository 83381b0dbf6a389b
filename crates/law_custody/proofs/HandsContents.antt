-- Changes by hand, and what is offered. An id that was used and is gone from the floor stays gone.
use Rattle.std.proofs.Common.{Bool, List, None, Option, Some, [], false, refl, subst, ℕ, ◌++◌, ◌∷◌, ◌≡◌}
use Rattle.board_record.specs.declared.record.Record.{Record}
use Rattle.handover_in.specs.declared.phase.Phase.{Phase as In}
use Rattle.law_custody.specs.Contents.{Contents, Foremost, Named, foremost, named_front, named_gone, named_kept}
use Rattle.law_custody.specs.Hands.{PutFor, TakenOut, out_here, out_later, put_here, put_later}
use Rattle.law_custody.specs.Pair.{keep_at}
use Rattle.law_custody.specs.Words.{DownWord, UpWord}
use Rattle.law_custody.proofs.Contents.{contents_map, named_behind, named_still}

-- inserted behind the kept ones
pub contents_inserted : {Gone Gone2 : ℕ → Type 0} {b : Bool} {ks : List Record} {t last : Option ℕ} {i : In} {f : Option Record} {up : List UpWord} {down : List DownWord} (n : Record)
    → ((x : ℕ) → Gone x → Gone2 x) → Contents Gone b ks t last i f up down → Contents Gone2 b (ks ++ (n ∷ [])) t last i f up down
contents_inserted n m h = contents_map (λ r. named_behind n r (m r.id)) (λ e. e) (λ r k _. named_behind n r (m r.id) k) h

-- removed: its id is gone then
foremost_out : {Gone : ℕ → Type 0} {q r : Record} {ks js : List Record} {t last : Option ℕ} {x : ℕ} → Gone q.id → TakenOut q ks js → Foremost x last ks → x ≡ r.id → Named Gone false js t last r
foremost_out {Gone = Gone} g out_here foremost e = named_gone (subst Gone e g)
foremost_out {js = js} {last = last} g (out_later _ t) foremost e = named_kept (subst (λ x. Foremost x last js) e foremost)

pub named_out : {Gone Gone2 : ℕ → Type 0} {b : Bool} {q : Record} {ks js : List Record} {t last : Option ℕ} → ((x : ℕ) → Gone x → Gone2 x) → Gone2 q.id → TakenOut q ks js
    → (r : Record) → Named Gone b ks t last r → Named Gone2 b js t last r
named_out m g out_here r named_front = named_gone g
named_out m g (out_later _ t) r named_front = named_front
named_out m g t r (named_gone h) = named_gone (m _ h)
named_out m g t r (named_kept k) = foremost_out g t k refl

pub contents_removed : {Gone Gone2 : ℕ → Type 0} {b : Bool} {q : Record} {ks js : List Record} {t last : Option ℕ} {i : In} {f : Option Record} {up : List UpWord} {down : List DownWord}
    → ((x : ℕ) → Gone x → Gone2 x) → Gone2 q.id → TakenOut q ks js → Contents Gone b ks t last i f up down → Contents Gone2 b js t last i f up down
contents_removed m g t h = contents_map (named_out m g t) (λ e. e) (λ r k _. named_out m g t r k) h

-- replaced: the old id is gone
foremost_for : {Gone : ℕ → Type 0} {q n r : Record} {ks js : List Record} {t last : Option ℕ} {x : ℕ} → Gone q.id → PutFor q n ks js → Foremost x last ks → x ≡ r.id → Named Gone false js t last r
foremost_for {Gone = Gone} g put_here foremost e = named_gone (subst Gone e g)
foremost_for {js = js} {last = last} g (put_later _ t) foremost e = named_kept (subst (λ x. Foremost x last js) e foremost)

pub named_for : {Gone Gone2 : ℕ → Type 0} {b : Bool} {q n : Record} {ks js : List Record} {t last : Option ℕ} → ((x : ℕ) → Gone x → Gone2 x) → Gone2 q.id → PutFor q n ks js
    → (r : Record) → Named Gone b ks t last r → Named Gone2 b js t last r
named_for m g put_here r named_front = named_gone g
named_for m g (put_later _ t) r named_front = named_front
named_for m g t r (named_gone h) = named_gone (m _ h)
named_for m g t r (named_kept k) = foremost_for g t k refl

pub contents_replaced : {Gone Gone2 : ℕ → Type 0} {b : Bool} {q n : Record} {ks js : List Record} {t last : Option ℕ} {i : In} {f : Option Record} {up : List UpWord} {down : List DownWord}
    → ((x : ℕ) → Gone x → Gone2 x) → Gone2 q.id → PutFor q n ks js → Contents Gone b ks t last i f up down → Contents Gone2 b js t last i f up down
contents_replaced m g t h = contents_map (named_for m g t) (λ e. e) (λ r k _. named_for m g t r k) h

-- marked: not while it is touched, so no offered record becomes another
pub foremost_marked : {q n : Record} {ks js : List Record} {x : ℕ} {last : Option ℕ} → n.id ≡ q.id → PutFor q n ks js → Foremost x last ks → Foremost x last js
foremost_marked {n = n} e (put_here {ks = ks}) foremost = subst (λ x. Foremost x (Some x) (n ∷ ks)) e foremost
foremost_marked e (put_later _ t) foremost = foremost

pub named_marked : {Gone : ℕ → Type 0} {b : Bool} {q n : Record} {ks js : List Record} {t last : Option ℕ} → n.id ≡ q.id → (t ≡ Some q.id → ⊥) → PutFor q n ks js
    → (r : Record) → Named Gone b ks t last r → Named Gone b js t last r
named_marked e free put_here r named_front = absurd (free refl)
named_marked e free (put_later _ t) r named_front = named_front
named_marked e free t r (named_gone h) = named_gone h
named_marked e free t r (named_kept k) = named_kept (foremost_marked e t k)

pub contents_marked : {Gone : ℕ → Type 0} {b : Bool} {q n : Record} {ks js : List Record} {t last : Option ℕ} {i : In} {f : Option Record} {up : List UpWord} {down : List DownWord}
    → n.id ≡ q.id → (t ≡ Some q.id → ⊥) → PutFor q n ks js → Contents Gone b ks t last i f up down → Contents Gone b js t last i f up down
contents_marked e free t h = contents_map (named_marked e free t) (λ s. s) (λ r k _. named_marked e free t r k) h

-- given to another lane: none but the last offer is named
foremost_given : {q : Record} {ks js : List Record} {x : ℕ} {last : Option ℕ} → (last ≡ Some q.id → ⊥) → TakenOut q ks js → Foremost x last ks → Foremost x last js
foremost_given other out_here foremost = absurd (other refl)
foremost_given other (out_later _ t) foremost = foremost

named_given : {Gone : ℕ → Type 0} {b : Bool} {q : Record} {ks js : List Record} {t last : Option ℕ} → (last ≡ Some q.id → ⊥) → TakenOut q ks js
    → (r : Record) → Named Gone b ks t last r → Named Gone b js t last r
named_given other out_here r named_front = absurd (other refl)
named_given other (out_later _ t) r named_front = named_front
named_given other t r (named_gone h) = named_gone h
named_given other t r (named_kept k) = named_kept (foremost_given other t k)

pub contents_given : {Gone : ℕ → Type 0} {b : Bool} {q : Record} {ks js : List Record} {t last : Option ℕ} {i : In} {f : Option Record} {up : List UpWord} {down : List DownWord}
    → (last ≡ Some q.id → ⊥) → TakenOut q ks js → Contents Gone b ks t last i f up down → Contents Gone b js t last i f up down
contents_given other t h = contents_map (named_given other t) (λ s. s) (λ r k _. named_given other t r k) h

-- a board of the link above settles, and goes behind the kept ones; and on the floor a board may be gone
pub contents_settled : {Gone : ℕ → Type 0} {b : Bool} {t last : Option ℕ} {i : In} {f : Option Record} {up : List UpWord} {down : List DownWord} (q : Option Record) {ks : List Record}
    → Contents Gone b ks t last i f up down → Contents Gone b (keep_at q ks) t last i f up down
contents_settled None h = h
contents_settled (Some n) h = contents_inserted n (λ x g. g) h

pub contents_gone : {Gone Gone2 : ℕ → Type 0} {b : Bool} {ks : List Record} {t last : Option ℕ} {i : In} {f : Option Record} {up : List UpWord} {down : List DownWord}
    → ((x : ℕ) → Gone x → Gone2 x) → Contents Gone b ks t last i f up down → Contents Gone2 b ks t last i f up down
contents_gone m h = contents_map (λ r. named_still m r) (λ e. e) (λ r k _. named_still m r k) h
