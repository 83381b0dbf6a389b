-- The reading machine goes over values, attributes, tags, content and documents of the plain form, and does to what
-- was said so far what the effect of each says.
use Rattle.std.proofs.Common.{◌≡◌, inl, inr, ℕ, suc, ◌+◌, ◌-◌, ◌<◌, ◌≤◌, true, false, List, [], ◌∷◌, ◌++◌, Result, Ok, Err, length, refl, ap, sym, ◌∙◌, append_assoc, append-nil, add-zero, arith, length-append}
use Rattle.std.specs.Prelude.{◌==◌}
use Rattle.std.specs.List.{list_all, flat_map}
use Rattle.std.proofs.lemmas.Bool.{cases_lt, eq-eqb, and_parts}
use Rattle.std.proofs.lemmas.Bool.Decides.{nat_tests}
use Rattle.hermes_element.proofs.Rising.{length_front, tag_length}
use Rattle.hermes_element.proofs.Tags.{blank_not_62, blank_not_byte, blank_not_start, start_not_slash}
use Rattle.line_base.specs.Name.{is_name_start, is_name_byte, IsName}
use Rattle.hermes_element.specs.Plain.{is_blank, is_quote, AreBlanks, Piece, plain, escaped, piece_text, is_piece, value_text, Assignment, assignment_front, assignment_text, IsAssignment, AreAssignments, Tag, tag_text, IsTag}
use Rattle.hermes_element.specs.Checks.{Fault, character_of}
use Rattle.hermes_element.specs.Machine.{Build, run, ◌>>=◌, refer, begin_key, end_key, begin_value, end_value, begin_tag, between, ended, after_element}
use Rattle.hermes_element.specs.declared.place.Place.{Place}
use Rattle.hermes_element.specs.declared.place.Place.TheVariants as places
use Rattle.hermes_element.proofs.Complete.{bind_ok, bind_assoc, over, passes, folded, over_all, over_idle, plain_effect, over_char, over_escape}

no_bytes : (xs : List ℕ) → length xs ≤ 0 → xs ≡ []
no_bytes [] h = refl
no_bytes (x ∷ xs) h = absurd (omega arith)

-- ---- values

abbrev pub piece_effect : ℕ → Piece → Build → Result Build Fault
piece_effect at (plain c) b = Ok (plain_effect c b)
piece_effect at (escaped e) b = refer at (character_of e) b

abbrev pub pieces_effect : ℕ → List Piece → Build → Result Build Fault
pieces_effect at [] b = Ok b
pieces_effect at (p ∷ ps) b = piece_effect at p b >>= pieces_effect (at + length (piece_text p)) ps

over_piece : (q d at : ℕ) (p : Piece) (rest : List ℕ) (k : Result Build Fault) → is_quote q ≡ true → is_piece q p ≡ true
    → run (places.Value q) d k at (piece_text p ++ rest) ≡ run (places.Value q) d (k >>= piece_effect at p) (at + length (piece_text p)) rest
over_piece q d at (plain c) rest k is h = over_char q d at c rest k is h
over_piece q d at (escaped e) rest k is h = over_escape q d at e rest k is h

over_pieces : (q d at : ℕ) (ps : List Piece) (rest : List ℕ) (k : Result Build Fault) → is_quote q ≡ true → list_all (is_piece q) ps ≡ true
    → run (places.Value q) d k at (value_text ps ++ rest) ≡ run (places.Value q) d (k >>= pieces_effect at ps) (at + length (value_text ps)) rest
over_pieces q d at [] rest k is h = ap (λ z. run (places.Value q) d z at rest) (sym (bind_ok k)) ∙ ap (λ j. run (places.Value q) d (k >>= pieces_effect at []) j rest) (sym (add-zero at))
over_pieces q d at (p ∷ ps) rest k is h =
    let both = and_parts (is_piece q p) (list_all (is_piece q) ps) h in
    let next = at + length (piece_text p) in
    ap (λ l. run (places.Value q) d k at l) (append_assoc (piece_text p) (value_text ps) rest)
    ∙ over_piece q d at p (value_text ps ++ rest) k is both.0
    ∙ over_pieces q d next ps rest (k >>= piece_effect at p) is both.1
    ∙ ap (λ z. run (places.Value q) d z (next + length (value_text ps)) rest) (bind_assoc k (piece_effect at p) (pieces_effect next ps))
    ∙ ap (λ j. run (places.Value q) d (k >>= pieces_effect at (p ∷ ps)) j rest) (omega (arith, length-append (piece_text p) (value_text ps)))

-- ---- attributes

-- the places in a start tag where an attribute or its end may follow
pub data TagPlace : Type 0 where
  named : TagPlace
  spaced : TagPlace
  quoted : TagPlace

abbrev pub place_of : TagPlace → Place
place_of named = places.Name
place_of spaced = places.Gap
place_of quoted = places.Quoted

over_blank : (p : TagPlace) (d at x : ℕ) (rest : List ℕ) (k : Result Build Fault) → is_blank x ≡ true → run (place_of p) d k at (x ∷ rest) ≡ run places.Gap d k (at + 1) rest
over_blank named d at x rest k h = passes places.Name places.Gap d d at x k rest (rw (blank_not_byte x h, h)) (λ b. rw (blank_not_byte x h, blank_not_62 x h))
over_blank spaced d at x rest k h = passes places.Gap places.Gap d d at x k rest (rw (blank_not_start x h, h)) (λ b. rw (blank_not_start x h, blank_not_62 x h))
over_blank quoted d at x rest k h = passes places.Quoted places.Gap d d at x k rest (rw h) (λ b. rw (blank_not_62 x h))

over_gaps : (d at : ℕ) (xs rest : List ℕ) (k : Result Build Fault) → AreBlanks xs → run places.Gap d k at (xs ++ rest) ≡ run places.Gap d k (at + length xs) rest
over_gaps d at xs rest k h = over_idle places.Gap d is_blank (λ x p. rw (blank_not_start x p, p)) (λ x j b p. rw (blank_not_start x p, blank_not_62 x p)) xs rest at k h

over_gap : (p : TagPlace) (d at : ℕ) (xs rest : List ℕ) (k : Result Build Fault) → 0 < length xs → AreBlanks xs → run (place_of p) d k at (xs ++ rest) ≡ run places.Gap d k (at + length xs) rest
over_gap p d at [] rest k some h = absurd (omega arith)
over_gap p d at (x ∷ xs) rest k some h =
    let both = and_parts (is_blank x) (list_all is_blank xs) h in
    let place : (at + 1) + length xs ≡ at + suc (length xs) = omega arith in
    over_blank p d at x (xs ++ rest) k both.0 ∙ over_gaps d (at + 1) xs rest k both.1 ∙ ap (λ j. run places.Gap d k j rest) place

abbrev pub add_key : ℕ → Build → Build
add_key x b = record b { scratch = record b.scratch { key = b.scratch.key ++ x ∷ [] } }

pub keys : (xs : List ℕ) (b : Build) → folded add_key xs b ≡ record b { scratch = record b.scratch { key = b.scratch.key ++ xs } }
keys [] b = ap (λ w. record b { scratch = record b.scratch { key = w } }) (sym (append-nil b.scratch.key))
keys (x ∷ xs) b = keys xs (add_key x b) ∙ ap (λ w. record b { scratch = record b.scratch { key = w } }) (append_assoc b.scratch.key (x ∷ []) xs)

abbrev pub key_effect : ℕ → List ℕ → Build → Result Build Fault
key_effect at [] b = Ok b
key_effect at (x ∷ xs) b = begin_key at x b >>= (λ b. Ok (folded add_key xs b))

over_key : (d at : ℕ) (name rest : List ℕ) (k : Result Build Fault) → IsName name → run places.Gap d k at (name ++ rest) ≡ run places.Key d (k >>= key_effect at name) (at + length name) rest
over_key d at [] rest k h = absurd (cc)
over_key d at (x ∷ xs) rest k h =
    let both = and_parts (is_name_start x) (list_all is_name_byte xs) h in
    let s = both.0 in
    let place : (at + 1) + length xs ≡ at + suc (length xs) = omega arith in
    over places.Gap places.Key d d at x k (begin_key at x) (xs ++ rest) (rw s) (λ b. rw s)
    ∙ over_all places.Key d is_name_byte add_key (λ y p. rw p) (λ y j b p. rw p) xs rest (at + 1) (k >>= begin_key at x) both.1
    ∙ ap (λ z. run places.Key d z ((at + 1) + length xs) rest) (bind_assoc k (begin_key at x) (λ b. Ok (folded add_key xs b)))
    ∙ ap (λ j. run places.Key d (k >>= key_effect at (x ∷ xs)) j rest) place

over_sign : (d at : ℕ) (before rest : List ℕ) (k : Result Build Fault) → AreBlanks before
    → run places.Key d k at (before ++ (61 ∷ rest)) ≡ run places.Before d (k >>= end_key at) (at + length before + 1) rest
over_sign d at [] rest k h =
    over places.Key places.Before d d at 61 k (end_key at) rest refl (λ b. refl) ∙ ap (λ j. run places.Before d (k >>= end_key at) (j + 1) rest) (sym (add-zero at))
over_sign d at (x ∷ xs) rest k h =
    let both = and_parts (is_blank x) (list_all is_blank xs) h in
    let s = both.0 in
    let z = k >>= end_key at in
    let place : ((at + 1) + length xs) + 1 ≡ (at + suc (length xs)) + 1 = omega arith in
    over places.Key places.Equals d d at x k (end_key at) (xs ++ (61 ∷ rest)) (rw (blank_not_byte x s, s)) (λ b. rw (blank_not_byte x s))
    ∙ over_idle places.Equals d is_blank (λ y p. rw p) (λ y j b p. refl) xs (61 ∷ rest) (at + 1) z both.1
    ∙ passes places.Equals places.Before d d ((at + 1) + length xs) 61 z rest refl (λ b. refl)
    ∙ ap (λ j. run places.Before d z j rest) place

quote_not_blank : (q : ℕ) → is_quote q ≡ true → is_blank q ≡ false
quote_not_blank q h = grind (arith, nat_tests)

over_quote : (d at q : ℕ) (after rest : List ℕ) (k : Result Build Fault) → AreBlanks after → is_quote q ≡ true
    → run places.Before d k at (after ++ (q ∷ rest)) ≡ run (places.Value q) d (k >>= (λ b. Ok (begin_value (at + length after) b))) (at + length after + 1) rest
over_quote d at q after rest k h is =
    let e = quote_not_blank q is in
    over_idle places.Before d is_blank (λ y p. rw p) (λ y j b p. rw p) after (q ∷ rest) at k h
    ∙ over places.Before (places.Value q) d d (at + length after) q k (λ b. Ok (begin_value (at + length after) b)) rest (rw (e, is)) (λ b. rw e)

over_close : (d at q : ℕ) (rest : List ℕ) (k : Result Build Fault) → run (places.Value q) d k at (q ∷ rest) ≡ run places.Quoted d (k >>= end_value) (at + 1) rest
over_close d at q rest k = let e = eq-eqb q q refl in over (places.Value q) places.Quoted d d at q k end_value rest (rw e) (λ b. rw e)

-- the whole attribute
abbrev pub assignment_effect : ℕ → Assignment → Build → Result Build Fault
assignment_effect at a b =
    key_effect (at + length a.gap) a.name b >>= end_key (at + length a.gap + length a.name)
    >>= (λ b. Ok (begin_value (at + length (assignment_front a) - 1) b)) >>= pieces_effect (at + length (assignment_front a)) a.value >>= end_value

front_split : (gap name before after rest : List ℕ) (q : ℕ) → ((((((gap ++ name) ++ before) ++ (61 ∷ [])) ++ after) ++ (q ∷ [])) ++ rest) ≡ gap ++ (name ++ (before ++ (61 ∷ (after ++ (q ∷ rest)))))
front_split gap name before after rest q = simp append_assoc

text_split : (front value rest : List ℕ) (q : ℕ) → ((front ++ value) ++ (q ∷ [])) ++ rest ≡ front ++ (value ++ (q ∷ rest))
text_split front value rest q = simp append_assoc

assignment_whole : (k : Result Build Fault) (at : ℕ) (a : Assignment)
    → (((((k >>= key_effect (at + length a.gap) a.name) >>= end_key (at + length a.gap + length a.name)) >>= (λ b. Ok (begin_value (at + length (assignment_front a) - 1) b)))
    >>= pieces_effect (at + length (assignment_front a)) a.value) >>= end_value) ≡ (k >>= assignment_effect at a)
assignment_whole (Ok b) at a = refl
assignment_whole (Err fault) at a = refl

pub over_assignment : (p : TagPlace) (d at : ℕ) (a : Assignment) (rest : List ℕ) (k : Result Build Fault) → IsAssignment a
    → run (place_of p) d k at (assignment_text a ++ rest) ≡ run places.Quoted d (k >>= assignment_effect at a) (at + length (assignment_text a)) rest
over_assignment p d at a rest k is =
    let k1 = k >>= key_effect (at + length a.gap) a.name in
    let k2 = k1 >>= end_key (at + length a.gap + length a.name) in
    let quote_at = ((at + length a.gap) + length a.name) + length a.before + 1 + length a.after in
    let k3 = k2 >>= (λ b. Ok (begin_value quote_at b)) in
    let start = quote_at + 1 in
    let k4 = k3 >>= pieces_effect start a.value in
    let front = length_front a in
    let place : quote_at ≡ at + length (assignment_front a) - 1 = omega (arith, front) in
    let first : start ≡ at + length (assignment_front a) = omega (arith, front) in
    let end : start + length (value_text a.value) + 1 ≡ at + length (assignment_text a) =
    omega (arith, front, length-append (assignment_front a) (value_text a.value), length-append (assignment_front a ++ value_text a.value) (a.quote ∷ [])) in
    ap (λ l. run (place_of p) d k at l) (text_split (assignment_front a) (value_text a.value) rest a.quote ∙ front_split a.gap a.name a.before a.after (value_text a.value ++ (a.quote ∷ rest)) a.quote)
    ∙ over_gap p d at a.gap (a.name ++ (a.before ++ (61 ∷ (a.after ++ (a.quote ∷ (value_text a.value ++ (a.quote ∷ rest))))))) k is.some is.gap
    ∙ over_key d (at + length a.gap) a.name (a.before ++ (61 ∷ (a.after ++ (a.quote ∷ (value_text a.value ++ (a.quote ∷ rest)))))) k is.name
    ∙ over_sign d ((at + length a.gap) + length a.name) a.before (a.after ++ (a.quote ∷ (value_text a.value ++ (a.quote ∷ rest)))) k1 is.before
    ∙ over_quote d (((at + length a.gap) + length a.name) + length a.before + 1) a.quote a.after (value_text a.value ++ (a.quote ∷ rest)) k2 is.after is.quote
    ∙ over_pieces a.quote d start a.value (a.quote ∷ rest) k3 is.quote is.value
    ∙ over_close d (start + length (value_text a.value)) a.quote rest k4
    ∙ ap (λ j. run places.Quoted d (k4 >>= end_value) j rest) end
    ∙ ap (λ s. run places.Quoted d (((k2 >>= (λ b. Ok (begin_value quote_at b))) >>= pieces_effect s a.value) >>= end_value) (at + length (assignment_text a)) rest) first
    ∙ ap (λ s. run places.Quoted d (((k2 >>= (λ b. Ok (begin_value s b))) >>= pieces_effect (at + length (assignment_front a)) a.value) >>= end_value) (at + length (assignment_text a)) rest) place
    ∙ ap (λ z. run places.Quoted d z (at + length (assignment_text a)) rest) (assignment_whole k at a)

abbrev pub assignments_effect : ℕ → List Assignment → Build → Result Build Fault
assignments_effect at [] b = Ok b
assignments_effect at (a ∷ rest) b = assignment_effect at a b >>= assignments_effect (at + length (assignment_text a)) rest

record OverAssignments (p : TagPlace) (d at : ℕ) (list : List Assignment) (rest : List ℕ) (k : Result Build Fault) : Type 0 where
  place : TagPlace
  same : run (place_of p) d k at (flat_map assignment_text list ++ rest) ≡ run (place_of place) d (k >>= assignments_effect at list) (at + length (flat_map assignment_text list)) rest

over_assignments : (p : TagPlace) (d at : ℕ) (list : List Assignment) (rest : List ℕ) (k : Result Build Fault) → AreAssignments list → OverAssignments p d at list rest k
over_assignments p d at [] rest k is = record {
  place = p;
  same = ap (λ z. run (place_of p) d z at rest) (sym (bind_ok k)) ∙ ap (λ j. run (place_of p) d (k >>= assignments_effect at []) j rest) (sym (add-zero at));
}
over_assignments p d at (a ∷ list) rest k is =
    let next = at + length (assignment_text a) in
    let tail = over_assignments quoted d next list rest (k >>= assignment_effect at a) is.1 in
    record {
      place = tail.place;
      same = ap (λ l. run (place_of p) d k at l) (append_assoc (assignment_text a) (flat_map assignment_text list) rest)
          ∙ over_assignment p d at a (flat_map assignment_text list ++ rest) k is.0
          ∙ tail.same
          ∙ ap (λ z. run (place_of tail.place) d z (next + length (flat_map assignment_text list)) rest) (bind_assoc k (assignment_effect at a) (assignments_effect next list))
          ∙ ap (λ j. run (place_of tail.place) d (k >>= assignments_effect at (a ∷ list)) j rest) (omega (arith, length-append (assignment_text a) (flat_map assignment_text list)));
    }

-- ---- start tags

abbrev pub add_name : ℕ → Build → Build
add_name x b = record b { tag = record b.tag { name = b.tag.name ++ x ∷ [] } }

pub names : (xs : List ℕ) (b : Build) → folded add_name xs b ≡ record b { tag = record b.tag { name = b.tag.name ++ xs } }
names [] b = ap (λ w. record b { tag = record b.tag { name = w } }) (sym (append-nil b.tag.name))
names (x ∷ xs) b = names xs (add_name x b) ∙ ap (λ w. record b { tag = record b.tag { name = w } }) (append_assoc b.tag.name (x ∷ []) xs)

-- the name, its first byte at `at`
abbrev pub name_effect : ℕ → List ℕ → Build → Result Build Fault
name_effect at [] b = Ok b
name_effect at (x ∷ xs) b = begin_tag at x b >>= (λ b. Ok (folded add_name xs b))

start_not_question : (b : ℕ) → is_name_start b ≡ true → (b == 63) ≡ false
start_not_question b h = grind (arith, nat_tests)

over_name : (d at : ℕ) (name rest : List ℕ) (k : Result Build Fault) → IsName name → run places.Open d k at (name ++ rest) ≡ run places.Name d (k >>= name_effect at name) (at + length name) rest
over_name d at [] rest k h = absurd (cc)
over_name d at (x ∷ xs) rest k h =
    let both = and_parts (is_name_start x) (list_all is_name_byte xs) h in
    let s = both.0 in
    let place : (at + 1) + length xs ≡ at + suc (length xs) = omega arith in
    over places.Open places.Name d d at x k (begin_tag at x) (xs ++ rest) (rw (start_not_slash x s, s)) (λ b. rw (start_not_slash x s))
    ∙ over_all places.Name d is_name_byte add_name (λ y p. rw p) (λ y j b p. rw p) xs rest (at + 1) (k >>= begin_tag at x) both.1
    ∙ ap (λ z. run places.Name d z ((at + 1) + length xs) rest) (bind_assoc k (begin_tag at x) (λ b. Ok (folded add_name xs b)))
    ∙ ap (λ j. run places.Name d (k >>= name_effect at (x ∷ xs)) j rest) place

-- at the first byte of the document
pub first_name : (at : ℕ) (name rest : List ℕ) (k : Result Build Fault) → IsName name → run places.First 0 k at (name ++ rest) ≡ run places.Open 0 k at (name ++ rest)
first_name at [] rest k h = absurd (cc)
first_name at (x ∷ xs) rest k h =
    let both = and_parts (is_name_start x) (list_all is_name_byte xs) h in
    let s = both.0 in
    over places.First places.Name 0 0 at x k (begin_tag at x) (xs ++ rest) (rw (start_not_question x s, s)) (λ b. rw (start_not_question x s))
    ∙ sym (over places.Open places.Name 0 0 at x k (begin_tag at x) (xs ++ rest) (rw (start_not_slash x s, s)) (λ b. rw (start_not_slash x s)))

-- the whole tag up to its end, from behind its `<`, which stands at `at`
abbrev pub tag_effect : ℕ → Tag → Build → Result Build Fault
tag_effect at tag b = name_effect (at + 1) tag.name b >>= assignments_effect (at + 1 + length tag.name) tag.assignments

abbrev pub tag_rest : Tag → List ℕ
tag_rest tag = (tag.name ++ flat_map assignment_text tag.assignments) ++ tag.gap

pub record OverTag (d at : ℕ) (tag : Tag) (rest : List ℕ) (k : Result Build Fault) : Type 0 where
  pub place : TagPlace
  pub same : run places.Open d k (at + 1) (tag_rest tag ++ rest) ≡ run (place_of place) d (k >>= tag_effect at tag) (at + length (tag_text tag)) rest

pub tag_split : (name list gap rest : List ℕ) → ((name ++ list) ++ gap) ++ rest ≡ name ++ (list ++ (gap ++ rest))
tag_split name list gap rest = simp append_assoc

pub over_tag : (d at : ℕ) (tag : Tag) (rest : List ℕ) (k : Result Build Fault) → IsTag tag → OverTag d at tag rest k
over_tag d at tag rest k is =
    let list = flat_map assignment_text tag.assignments in
    let k1 = k >>= name_effect (at + 1) tag.name in
    let from = (at + 1) + length tag.name in
    let inner = over_assignments named d from tag.assignments (tag.gap ++ rest) k1 is.assignments in
    let k2 = k1 >>= assignments_effect from tag.assignments in
    let start = ap (λ l. run places.Open d k (at + 1) l) (tag_split tag.name list tag.gap rest)
    ∙ over_name d (at + 1) tag.name (list ++ (tag.gap ++ rest)) k is.name
    ∙ inner.same in
    let long : length (tag_text tag) ≡ 1 + length tag.name + length list + length tag.gap = tag_length tag in
    let whole = bind_assoc k (name_effect (at + 1) tag.name) (assignments_effect from tag.assignments) in
    elim (cases_lt 0 (length tag.gap)) [
      | inl some ↦ record {
        place = spaced;
        same = start ∙ over_gap inner.place d (from + length list) tag.gap rest k2 some is.gap
            ∙ ap (λ z. run places.Gap d z ((from + length list) + length tag.gap) rest) whole
            ∙ ap (λ j. run places.Gap d (k >>= tag_effect at tag) j rest) (omega (arith, long));
      }
      | inr bare ↦ record {
        place = inner.place;
        same = start ∙ ap (λ l. run (place_of inner.place) d k2 (from + length list) (l ++ rest)) (no_bytes tag.gap bare)
            ∙ ap (λ z. run (place_of inner.place) d z (from + length list) rest) whole
            ∙ ap (λ j. run (place_of inner.place) d (k >>= tag_effect at tag) j rest) (omega (arith, long));
      }
    ]

-- its two ends
pub over_open : (p : TagPlace) (d at : ℕ) (rest : List ℕ) (k : Result Build Fault) → run (place_of p) d k at (62 ∷ rest) ≡ run places.Content (d + 1) (k >>= (λ b. Ok (between b.roots (b.stack ++ b.tag ∷ [])))) (at + 1) rest
over_open named d at rest k = over places.Name places.Content d (d + 1) at 62 k (λ b. Ok (between b.roots (b.stack ++ b.tag ∷ []))) rest refl (λ b. refl)
over_open spaced d at rest k = over places.Gap places.Content d (d + 1) at 62 k (λ b. Ok (between b.roots (b.stack ++ b.tag ∷ []))) rest refl (λ b. refl)
over_open quoted d at rest k = over places.Quoted places.Content d (d + 1) at 62 k (λ b. Ok (between b.roots (b.stack ++ b.tag ∷ []))) rest refl (λ b. refl)

slash : (p : TagPlace) (d at : ℕ) (rest : List ℕ) (k : Result Build Fault) → run (place_of p) d k at (47 ∷ rest) ≡ run places.Slash d k (at + 1) rest
slash named d at rest k = passes places.Name places.Slash d d at 47 k rest refl (λ b. refl)
slash spaced d at rest k = passes places.Gap places.Slash d d at 47 k rest refl (λ b. refl)
slash quoted d at rest k = passes places.Quoted places.Slash d d at 47 k rest refl (λ b. refl)

pub over_empty : (p : TagPlace) (d at : ℕ) (rest : List ℕ) (k : Result Build Fault) → run (place_of p) d k at (47 ∷ 62 ∷ rest) ≡ run (after_element d) d (k >>= (λ b. Ok (ended b.roots b.stack b.tag))) (at + 2) rest
over_empty p d at rest k =
    slash p d at (62 ∷ rest) k ∙ over places.Slash (after_element d) d d (at + 1) 62 k (λ b. Ok (ended b.roots b.stack b.tag)) rest refl (λ b. refl)
    ∙ ap (λ j. run (after_element d) d (k >>= (λ b. Ok (ended b.roots b.stack b.tag))) j rest) (omega arith)
