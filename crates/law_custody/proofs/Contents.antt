-- What is offered, as the kept boards, what is touched and the link change.
use Rattle.std.proofs.Common.{Bool, List, None, Option, Some, [], false, subst, sym, true, ℕ, ◌++◌, ◌∙◌, ◌∷◌, ◌≡◌}
use Rattle.board_record.specs.declared.record.Record.{Record}
use Rattle.handover_in.specs.declared.phase.Phase.{Phase as In}
use Rattle.law_custody.specs.Contents.{Contents, Foremost, Kept, Named, OfferIs, OpenAll, foremost, kept_first, named_front, named_gone, named_kept, no_offer}
use Rattle.law_custody.specs.Words.{DownWord, UpWord, starts_in}
use Rattle.law_custody.proofs.Open.{NothingOpen, offer_map, open_map}

pub none_open : {Q : Record → Type 0} {f : Option Record} → f ≡ None → OfferIs Q f
none_open {Q = Q} e = subst (OfferIs Q) (sym e) no_offer

pub any_open : {Q : Record → Type 0} {b : Bool} {ws : List DownWord} → OpenAll (λ _. ⊥) b ws → OpenAll Q b ws
any_open = open_map (λ r n. absurd n)

-- where nothing is open and no start is on its way, any kept boards and any touch will do
pub contents_free : {Gone : ℕ → Type 0} {b : Bool} {kept : List Record} {t last : Option ℕ} {i : In} {f : Option Record} {up : List UpWord} {down : List DownWord}
    → NothingOpen i f down → starts_in up ≡ [] → Contents Gone b kept t last i f up down
contents_free n quiet = record { offers = any_open n.offers; offer = none_open n.offer; start = λ r _ _ some. absurd (some quiet) }

pub contents_map : {Gone Gone2 : ℕ → Type 0} {b c : Bool} {kept kept2 : List Record} {t t2 last : Option ℕ} {i : In} {f : Option Record} {up : List UpWord} {down : List DownWord}
    → ((r : Record) → Named Gone b kept t last r → Named Gone2 c kept2 t2 last r) → (c ≡ true → b ≡ true) → ((r : Record) → Named Gone true kept t last r → c ≡ true → Named Gone2 true kept2 t2 last r)
    → Contents Gone b kept t last i f up down → Contents Gone2 c kept2 t2 last i f up down
contents_map m stands m2 h = record { offers = open_map m h.offers; offer = offer_map m h.offer; start = λ r s e u. m2 r (h.start r (stands s) e u) s }

-- a word is heard that is no start
pub contents_heard : {Gone : ℕ → Type 0} {b : Bool} {kept : List Record} {t last : Option ℕ} {i : In} {f : Option Record} {before up : List UpWord} {down : List DownWord}
    → starts_in before ≡ starts_in up → Contents Gone b kept t last i f before down → Contents Gone b kept t last i f up down
contents_heard e h = record { offers = h.offers; offer = h.offer; start = λ r s k some. h.start r s k (λ none. some (sym e ∙ none)) }

-- an offer of the front touches it, and is the last one
pub offered_front : {x : ℕ} {last : Option ℕ} {q : Record} {ks : List Record} → Foremost x last (q ∷ ks) → Foremost x (Some q.id) (q ∷ ks)
offered_front foremost = foremost

pub touched_front : {Gone : ℕ → Type 0} {b : Bool} {q : Record} {ks : List Record} {t last : Option ℕ} (r : Record) → Named Gone b (q ∷ ks) t last r → Named Gone b (q ∷ ks) (Some q.id) (Some q.id) r
touched_front r named_front = named_front
touched_front r (named_gone g) = named_gone g
touched_front r (named_kept k) = named_kept (offered_front k)

pub foremost_kept : {x : ℕ} {last : Option ℕ} {ks : List Record} → Foremost x last ks → Kept x ks
foremost_kept foremost = kept_first

-- one more kept board at the back
pub foremost_more : {x : ℕ} {last : Option ℕ} {ks : List Record} (n : Record) → Foremost x last ks → Foremost x last (ks ++ (n ∷ []))
foremost_more n foremost = foremost

pub named_behind : {Gone Gone2 : ℕ → Type 0} {b : Bool} {ks : List Record} {t last : Option ℕ} (n : Record) (r : Record)
    → (Gone r.id → Gone2 r.id) → Named Gone b ks t last r → Named Gone2 b (ks ++ (n ∷ [])) t last r
named_behind n r m named_front = named_front
named_behind n r m (named_gone g) = named_gone (m g)
named_behind n r m (named_kept k) = named_kept (foremost_more n k)

-- the link stands no more, and touched tells nothing then
pub named_cut : {Gone : ℕ → Type 0} {b : Bool} {ks : List Record} {t t2 last : Option ℕ} (r : Record) → Named Gone b ks t last r → Named Gone false ks t2 last r
named_cut r named_front = named_kept foremost
named_cut r (named_gone g) = named_gone g
named_cut r (named_kept k) = named_kept k

pub not_standing : false ≡ true → ⊥
not_standing e = cc

pub contents_shut : {Gone : ℕ → Type 0} {b : Bool} {ks : List Record} {t t2 last : Option ℕ} {i : In} {f : Option Record} {before up : List UpWord} {down : List DownWord}
    → Contents Gone b ks t last i f before down → Contents Gone false ks t2 last i f up down
contents_shut h = record { offers = open_map named_cut h.offers; offer = offer_map named_cut h.offer; start = λ r s _ _. absurd (not_standing s) }

-- ids that are gone stay gone
pub named_still : {Gone Gone2 : ℕ → Type 0} {b : Bool} {ks : List Record} {t last : Option ℕ} → ((x : ℕ) → Gone x → Gone2 x) → (r : Record) → Named Gone b ks t last r → Named Gone2 b ks t last r
named_still m r named_front = named_front
named_still m r (named_gone g) = named_gone (m _ g)
named_still m r (named_kept k) = named_kept k
