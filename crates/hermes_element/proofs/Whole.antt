-- The reading machine goes over content, the root and whole documents of the plain form.
use Rattle.std.proofs.Common.{◌≡◌, ℕ, suc, ◌+◌, ◌-◌, Bool, true, false, not, List, [], ◌∷◌, ◌++◌, Option, Some, None, Result, Ok, Err, length, refl, ap, sym, ◌∙◌, append_assoc, append-nil, add-zero, arith, length-append}
use Rattle.std.specs.Prelude.{nat_lt}
use Rattle.std.specs.List.{list_all, flat_map}
use Rattle.std.specs.Str.{bytes_eq}
use Rattle.std.proofs.lemmas.Bool.{lt-ltb, and_parts}
use Rattle.hermes_element.proofs.Roots.{stays_declared}
use Rattle.hermes_element.proofs.Sound.{end_split, inner, empty_split, full_split}
use Rattle.hermes_element.proofs.Rising.{end_length, full_length}
use Rattle.hermes_element.proofs.Tags.{blank_not_62, blank_not_byte}
use Rattle.line_base.specs.Name.{is_name_start, is_name_byte, IsName}
use Rattle.hermes_element.specs.Plain.{is_blank, AreBlanks, is_declared, assignment_text, Tag, tag_text, IsTag, EndTag, end_text, IsEndTag, Content, last, empty, full, content_text, IsContent, Root, lone, holding, root_text, IsRoot, Declaration, declaration_text, IsDeclaration, Document, document_text, IsPlain}
use Rattle.hermes_element.specs.Checks.{Fault, root_place, root_tag}
use Rattle.hermes_element.specs.Machine.{Build, Outcome, run, ◌>>=◌, with_word, begin_end, check, close, between, ended, innermost, after_element}
use Rattle.hermes_element.specs.declared.refusal.Why.TheVariants as why
use Rattle.hermes_element.specs.declared.place.Place.TheVariants as places
use Rattle.hermes_element.proofs.Complete.{bind_same, bind_ok, bind_assoc, over, passes, folded, over_all, over_idle}
use Rattle.hermes_element.proofs.Parts.{tag_effect, tag_rest, OverTag, over_tag, over_open, over_empty, first_name, tag_split}

-- ---- end tags

abbrev pub word_effect : ℕ → List ℕ → Build → Result Build Fault
word_effect at [] b = Ok b
word_effect at (x ∷ xs) b = Ok (folded with_word xs (begin_end at x b))

abbrev pub match_effect : Build → Result Build Fault
match_effect b = check (not (bytes_eq b.scratch.word (innermost b.stack).name)) (b.scratch.start, why.EndName) (close (between b.roots b.stack))

abbrev pub end_effect : ℕ → List ℕ → Build → Result Build Fault
end_effect at name b = word_effect (at + 2) name b >>= match_effect

check_then : (t : Bool) (fault : Fault) (b : Build) (f : Build → Build) → (check t fault b >>= (λ b. Ok (f b))) ≡ check t fault (f b)
check_then true fault b f = refl
check_then false fault b f = refl

over_end_gap : (d at : ℕ) (gap rest : List ℕ) (k : Result Build Fault) → AreBlanks gap
    → run places.EndName (d + 1) k at (gap ++ (62 ∷ rest)) ≡ run (after_element d) d (k >>= match_effect) (at + length gap + 1) rest
over_end_gap d at [] rest k h =
    let e : (d + 1) - 1 ≡ d = omega arith in
    over places.EndName (after_element ((d + 1) - 1)) (d + 1) ((d + 1) - 1) at 62 k match_effect rest refl (λ b. refl)
    ∙ ap (λ n. run (after_element n) n (k >>= match_effect) (at + 1) rest) e
    ∙ ap (λ j. run (after_element d) d (k >>= match_effect) (j + 1) rest) (sym (add-zero at))
over_end_gap d at (x ∷ xs) rest k h =
    let both = and_parts (is_blank x) (list_all is_blank xs) h in
    let s = both.0 in
    let e : (d + 1) - 1 ≡ d = omega arith in
    let opened : Build → Result Build Fault = λ b. check (not (bytes_eq b.scratch.word (innermost b.stack).name)) (b.scratch.start, why.EndName) (between b.roots b.stack) in
    let place : ((at + 1) + length xs) + 1 ≡ (at + suc (length xs)) + 1 = omega arith in
    over places.EndName places.EndGap (d + 1) (d + 1) at x k opened (xs ++ (62 ∷ rest)) (rw (blank_not_byte x s, s)) (λ b. rw (blank_not_byte x s, blank_not_62 x s))
    ∙ over_idle places.EndGap (d + 1) is_blank (λ y p. rw p) (λ y j b p. rw (blank_not_62 y p)) xs (62 ∷ rest) (at + 1) (k >>= opened) both.1
    ∙ over places.EndGap (after_element ((d + 1) - 1)) (d + 1) ((d + 1) - 1) ((at + 1) + length xs) 62 (k >>= opened) (λ b. Ok (close b)) rest refl (λ b. refl)
    ∙ ap (λ n. run (after_element n) n ((k >>= opened) >>= (λ b. Ok (close b))) (((at + 1) + length xs) + 1) rest) e
    ∙ ap (λ z. run (after_element d) d z (((at + 1) + length xs) + 1) rest)
    (bind_assoc k opened (λ b. Ok (close b)) ∙ bind_same k (λ b. opened b >>= (λ b. Ok (close b))) match_effect
    (λ b. check_then (not (bytes_eq b.scratch.word (innermost b.stack).name)) (b.scratch.start, why.EndName) (between b.roots b.stack) close))
    ∙ ap (λ j. run (after_element d) d (k >>= match_effect) j rest) place

over_word : (d at : ℕ) (name rest : List ℕ) (k : Result Build Fault) → IsName name → run places.Close d k at (name ++ rest) ≡ run places.EndName d (k >>= word_effect at name) (at + length name) rest
over_word d at [] rest k h = absurd (cc)
over_word d at (x ∷ xs) rest k h =
    let both = and_parts (is_name_start x) (list_all is_name_byte xs) h in
    let s = both.0 in
    let place : (at + 1) + length xs ≡ at + suc (length xs) = omega arith in
    over places.Close places.EndName d d at x k (λ b. Ok (begin_end at x b)) (xs ++ rest) (rw s) (λ b. refl)
    ∙ over_all places.EndName d is_name_byte with_word (λ y p. rw p) (λ y j b p. rw p) xs rest (at + 1) (k >>= (λ b. Ok (begin_end at x b))) both.1
    ∙ ap (λ z. run places.EndName d z ((at + 1) + length xs) rest) (bind_assoc k (λ b. Ok (begin_end at x b)) (λ b. Ok (folded with_word xs b)))
    ∙ ap (λ j. run places.EndName d (k >>= word_effect at (x ∷ xs)) j rest) place

over_end : (d at : ℕ) (tag : EndTag) (rest : List ℕ) (k : Result Build Fault) → IsEndTag tag
    → run places.Content (d + 1) k at (end_text tag ++ rest) ≡ run (after_element d) d (k >>= end_effect at tag.name) (at + length tag.name + length tag.gap + 3) rest
over_end d at tag rest k is =
    let deep : nat_lt 0 (d + 1) ≡ true = lt-ltb 0 (d + 1) (omega arith) in
    let two : (at + 1) + 1 ≡ at + 2 = omega arith in
    let place : ((at + 2) + length tag.name) + length tag.gap + 1 ≡ at + length tag.name + length tag.gap + 3 = omega arith in
    ap (λ l. run places.Content (d + 1) k at l) (end_split tag.name tag.gap rest)
    ∙ passes places.Content places.Open (d + 1) (d + 1) at 60 k (47 ∷ (tag.name ++ (tag.gap ++ (62 ∷ rest)))) refl (λ b. refl)
    ∙ passes places.Open places.Close (d + 1) (d + 1) (at + 1) 47 k (tag.name ++ (tag.gap ++ (62 ∷ rest))) (rw deep) (λ b. refl)
    ∙ ap (λ j. run places.Close (d + 1) k j (tag.name ++ (tag.gap ++ (62 ∷ rest)))) two
    ∙ over_word (d + 1) (at + 2) tag.name (tag.gap ++ (62 ∷ rest)) k is.name
    ∙ over_end_gap d ((at + 2) + length tag.name) tag.gap rest (k >>= word_effect (at + 2) tag.name) is.gap
    ∙ ap (λ z. run (after_element d) d z (((at + 2) + length tag.name) + length tag.gap + 1) rest) (bind_assoc k (word_effect (at + 2) tag.name) match_effect)
    ∙ ap (λ j. run (after_element d) d (k >>= end_effect at tag.name) j rest) place

-- ---- content

abbrev pub push_tag : Build → Result Build Fault
push_tag b = Ok (between b.roots (b.stack ++ b.tag ∷ []))

abbrev pub end_empty : Build → Result Build Fault
end_empty b = Ok (ended b.roots b.stack b.tag)

abbrev pub content_effect : ℕ → Content → Build → Result Build Fault
content_effect at (last gap) b = Ok b
content_effect at (empty gap tag rest) b = tag_effect (at + length gap) tag b >>= end_empty >>= content_effect (at + length gap + length (tag_text tag) + 2) rest
content_effect at (full gap tag inside end rest) b =
    let from = at + length gap + length (tag_text tag) + 1 in
    let to = from + length (content_text inside) in
    tag_effect (at + length gap) tag b >>= push_tag >>= content_effect from inside >>= end_effect to end.name
    >>= content_effect (to + length end.name + length end.gap + 3) rest

over_start : (d at : ℕ) (gap : List ℕ) (tag : Tag) (rest : List ℕ) (k : Result Build Fault) → AreBlanks gap → IsTag tag → OverTag (d + 1) (at + length gap) tag rest k
    → run places.Content (d + 1) k at (gap ++ (tag_text tag ++ rest)) ≡ run places.Open (d + 1) k (at + length gap + 1) (tag_rest tag ++ rest)
over_start d at gap tag rest k h is t =
    over_idle places.Content (d + 1) is_blank (λ y p. rw p) (λ y j b p. refl) gap (tag_text tag ++ rest) at k h
    ∙ passes places.Content places.Open (d + 1) (d + 1) (at + length gap) 60 k (tag_rest tag ++ rest) refl (λ b. refl)

bind_3 : (k : Result Build Fault) (f g h : Build → Result Build Fault) → (((k >>= f) >>= g) >>= h) ≡ (k >>= (λ b. (f b >>= g) >>= h))
bind_3 (Ok b) f g h = refl
bind_3 (Err fault) f g h = refl

bind_5 : (k : Result Build Fault) (f g h i j : Build → Result Build Fault) → (((((k >>= f) >>= g) >>= h) >>= i) >>= j) ≡ (k >>= (λ b. (((f b >>= g) >>= h) >>= i) >>= j))
bind_5 (Ok b) f g h i j = refl
bind_5 (Err fault) f g h i j = refl

pub over_content : (d at : ℕ) (c : Content) (rest : List ℕ) (k : Result Build Fault) → IsContent c
    → run places.Content (d + 1) k at (content_text c ++ rest) ≡ run places.Content (d + 1) (k >>= content_effect at c) (at + length (content_text c)) rest
over_content d at (last gap) rest k is =
    over_idle places.Content (d + 1) is_blank (λ y p. rw p) (λ y j b p. refl) gap rest at k is
    ∙ ap (λ z. run places.Content (d + 1) z (at + length gap) rest) (sym (bind_ok k))
over_content d at (empty gap tag next) rest k is =
    let start = at + length gap in
    let behind = start + length (tag_text tag) + 2 in
    let t = over_tag (d + 1) start tag (47 ∷ 62 ∷ (content_text next ++ rest)) k is.1 in
    let k1 = k >>= tag_effect start tag in
    let k2 = k1 >>= end_empty in
    ap (λ l. run places.Content (d + 1) k at l) (empty_split gap (tag_text tag) (content_text next) rest)
    ∙ over_start d at gap tag (47 ∷ 62 ∷ (content_text next ++ rest)) k is.0 is.1 t
    ∙ t.same
    ∙ over_empty t.place (d + 1) (start + length (tag_text tag)) (content_text next ++ rest) k1
    ∙ ap (λ p. run p (d + 1) k2 behind (content_text next ++ rest)) (inner d)
    ∙ over_content d behind next rest k2 is.2
    ∙ ap (λ z. run places.Content (d + 1) z (behind + length (content_text next)) rest) (bind_3 k (tag_effect start tag) end_empty (content_effect behind next))
    ∙ ap (λ j. run places.Content (d + 1) (k >>= content_effect at (empty gap tag next)) j rest)
    (omega (arith, length-append (gap ++ (tag_text tag ++ (47 ∷ 62 ∷ []))) (content_text next), length-append gap (tag_text tag ++ (47 ∷ 62 ∷ [])), length-append (tag_text tag) (47 ∷ 62 ∷ [])))
over_content d at (full gap tag inside end next) rest k is =
    let start = at + length gap in
    let from = start + length (tag_text tag) + 1 in
    let to = from + length (content_text inside) in
    let behind = to + length end.name + length end.gap + 3 in
    let tail = content_text next ++ rest in
    let t = over_tag (d + 1) start tag (62 ∷ (content_text inside ++ (end_text end ++ tail))) k is.1 in
    let k1 = k >>= tag_effect start tag in
    let k2 = k1 >>= push_tag in
    let k3 = k2 >>= content_effect from inside in
    let k4 = k3 >>= end_effect to end.name in
    ap (λ l. run places.Content (d + 1) k at l) (full_split gap (tag_text tag) (content_text inside) (end_text end) (content_text next) rest)
    ∙ over_start d at gap tag (62 ∷ (content_text inside ++ (end_text end ++ tail))) k is.0 is.1 t
    ∙ t.same
    ∙ over_open t.place (d + 1) (start + length (tag_text tag)) (content_text inside ++ (end_text end ++ tail)) k1
    ∙ over_content (d + 1) from inside (end_text end ++ tail) k2 is.2
    ∙ over_end (d + 1) to end tail k3 is.3
    ∙ ap (λ p. run p (d + 1) k4 behind tail) (inner d)
    ∙ over_content d behind next rest k4 is.4
    ∙ ap (λ z. run places.Content (d + 1) z (behind + length (content_text next)) rest) (bind_5 k (tag_effect start tag) push_tag (content_effect from inside) (end_effect to end.name) (content_effect behind next))
    ∙ ap (λ j. run places.Content (d + 1) (k >>= content_effect at (full gap tag inside end next)) j rest)
    (omega (arith, full_length gap (tag_text tag) (content_text inside) (end_text end) (content_text next), end_length end))

-- ---- the root

abbrev pub root_effect : ℕ → Root → Build → Result Build Fault
root_effect at (lone tag) b = tag_effect at tag b >>= end_empty
root_effect at (holding tag inside end) b =
    let from = at + length (tag_text tag) + 1 in
    tag_effect at tag b >>= push_tag >>= content_effect from inside >>= end_effect (from + length (content_text inside)) end.name

abbrev pub root_rest : Root → List ℕ
root_rest (lone tag) = tag_rest tag ++ (47 ∷ 62 ∷ [])
root_rest (holding tag inside end) = tag_rest tag ++ (62 ∷ []) ++ content_text inside ++ end_text end

bind_4 : (k : Result Build Fault) (f g h i : Build → Result Build Fault) → ((((k >>= f) >>= g) >>= h) >>= i) ≡ (k >>= (λ b. ((f b >>= g) >>= h) >>= i))
bind_4 (Ok b) f g h i = refl
bind_4 (Err fault) f g h i = refl

holding_split : (t inside e : List ℕ) → ((t ++ (62 ∷ [])) ++ inside) ++ e ≡ t ++ (62 ∷ (inside ++ (e ++ [])))
holding_split t inside e = simp (append_assoc, append-nil)

abbrev pub over_done : Result Build Fault → Outcome
over_done z = record { stop = None; built = z }

pub over_root : (at : ℕ) (root : Root) (k : Result Build Fault) → IsRoot root
    → run places.Open 0 k (at + 1) (root_rest root) ≡ record { stop = None; built = k >>= root_effect at root }
over_root at (lone tag) k is =
    let t = over_tag 0 at tag (47 ∷ 62 ∷ []) k is in
    t.same ∙ over_empty t.place 0 (at + length (tag_text tag)) [] (k >>= tag_effect at tag)
    ∙ ap over_done (bind_assoc k (tag_effect at tag) end_empty)
over_root at (holding tag inside end) k is =
    let from = at + length (tag_text tag) + 1 in
    let to = from + length (content_text inside) in
    let t = over_tag 0 at tag (62 ∷ (content_text inside ++ (end_text end ++ []))) k is.0 in
    let k1 = k >>= tag_effect at tag in
    let k2 = k1 >>= push_tag in
    let k3 = k2 >>= content_effect from inside in
    ap (λ l. run places.Open 0 k (at + 1) l) (holding_split (tag_rest tag) (content_text inside) (end_text end))
    ∙ t.same
    ∙ over_open t.place 0 (at + length (tag_text tag)) (content_text inside ++ (end_text end ++ [])) k1
    ∙ over_content 0 from inside (end_text end ++ []) k2 is.1
    ∙ over_end 0 to end [] k3 is.2
    ∙ ap over_done (bind_4 k (tag_effect at tag) push_tag (content_effect from inside) (end_effect to end.name))

-- ---- before the root

prolog_blanks : (at : ℕ) (xs rest : List ℕ) (k : Result Build Fault) → AreBlanks xs → run places.Prolog 0 k at (xs ++ rest) ≡ run places.Prolog 0 k (at + length xs) rest
prolog_blanks at xs rest k h = over_idle places.Prolog 0 is_blank (λ y p. rw p) (λ y j b p. refl) xs rest at k h

pub root_split : (root : Root) → root_text root ≡ 60 ∷ root_rest root
root_split (lone tag) = refl
root_split (holding tag inside end) = refl

hold_split : (name x y z i e : List ℕ) → (((((name ++ x) ++ y) ++ z) ++ i) ++ e) ≡ name ++ (x ++ (y ++ (z ++ (i ++ e))))
hold_split name x y z i e = simp append_assoc

first_root : (at : ℕ) (root : Root) (k : Result Build Fault) → IsTag (root_tag root) → run places.First 0 k at (root_rest root) ≡ run places.Open 0 k at (root_rest root)
first_root at (lone tag) k is =
    let split = tag_split tag.name (flat_map assignment_text tag.assignments) tag.gap (47 ∷ 62 ∷ []) in
    ap (λ l. run places.First 0 k at l) split
    ∙ first_name at tag.name (flat_map assignment_text tag.assignments ++ (tag.gap ++ (47 ∷ 62 ∷ []))) k is.name
    ∙ ap (λ l. run places.Open 0 k at l) (sym split)
first_root at (holding tag inside end) k is =
    let split = hold_split tag.name (flat_map assignment_text tag.assignments) tag.gap (62 ∷ []) (content_text inside) (end_text end) in
    ap (λ l. run places.First 0 k at l) split
    ∙ first_name at tag.name (flat_map assignment_text tag.assignments ++ (tag.gap ++ ((62 ∷ []) ++ (content_text inside ++ end_text end)))) k is.name
    ∙ ap (λ l. run places.Open 0 k at l) (sym split)

root_names : (root : Root) → IsRoot root → IsTag (root_tag root)
root_names (lone tag) is = is
root_names (holding tag inside end) is = is.0

from_prolog : (at : ℕ) (gap : List ℕ) (root : Root) (k : Result Build Fault) → AreBlanks gap → IsRoot root
    → run places.Prolog 0 k at (gap ++ root_text root) ≡ over_done (k >>= root_effect (at + length gap) root)
from_prolog at gap root k h is =
    prolog_blanks at gap (root_text root) k h
    ∙ ap (λ l. run places.Prolog 0 k (at + length gap) l) (root_split root)
    ∙ passes places.Prolog places.Open 0 0 (at + length gap) 60 k (root_rest root) refl (λ b. refl)
    ∙ over_root (at + length gap) root k is

pub declaration_split : (blank : ℕ) (body gap root : List ℕ)
    → ((((60 ∷ 63 ∷ 120 ∷ 109 ∷ 108 ∷ blank ∷ []) ++ body) ++ (63 ∷ 62 ∷ [])) ++ gap) ++ root ≡ 60 ∷ 63 ∷ 120 ∷ 109 ∷ 108 ∷ blank ∷ (body ++ (63 ∷ 62 ∷ (gap ++ root)))
declaration_split blank body gap root = simp append_assoc

declaration_length : (blank : ℕ) (body : List ℕ) → length (((60 ∷ 63 ∷ 120 ∷ 109 ∷ 108 ∷ blank ∷ []) ++ body) ++ (63 ∷ 62 ∷ [])) ≡ 6 + length body + 2
declaration_length blank body = simp length-append (omega arith)

from_start : (declaration : Option Declaration) (gap : List ℕ) (root : Root) (k : Result Build Fault) → IsDeclaration declaration → AreBlanks gap → IsRoot root
    → run places.Start 0 k 0 ((declaration_text declaration ++ gap) ++ root_text root) ≡ over_done (k >>= root_effect (length (declaration_text declaration) + length gap) root)
from_start None [] root k d h is =
    ap (λ l. run places.Start 0 k 0 l) (root_split root)
    ∙ passes places.Start places.First 0 0 0 60 k (root_rest root) refl (λ b. refl)
    ∙ first_root 1 root k (root_names root is)
    ∙ over_root 0 root k is
from_start None (x ∷ xs) root k d h is =
    let both = and_parts (is_blank x) (list_all is_blank xs) h in
    let s = both.0 in
    passes places.Start places.Prolog 0 0 0 x k (xs ++ root_text root) (rw s) (λ b. refl)
    ∙ sym (passes places.Prolog places.Prolog 0 0 0 x k (xs ++ root_text root) (rw s) (λ b. refl))
    ∙ from_prolog 0 (x ∷ xs) root k h is
from_start (Some decl) gap root k d h is =
    let rest = gap ++ root_text root in
    let e : (((((((0 + 1) + 1) + 1) + 1) + 1) + 1) + length decl.body + 1) + 1 ≡ length (declaration_text (Some decl)) = omega (arith, declaration_length decl.blank decl.body) in
    let b = d.0 in
    ap (λ l. run places.Start 0 k 0 l) (declaration_split decl.blank decl.body gap (root_text root))
    ∙ passes places.Start places.First 0 0 0 60 k (63 ∷ 120 ∷ 109 ∷ 108 ∷ decl.blank ∷ (decl.body ++ (63 ∷ 62 ∷ rest))) refl (λ b. refl)
    ∙ passes places.First places.Question 0 0 1 63 k (120 ∷ 109 ∷ 108 ∷ decl.blank ∷ (decl.body ++ (63 ∷ 62 ∷ rest))) refl (λ b. refl)
    ∙ passes places.Question places.DeclarationX 0 0 2 120 k (109 ∷ 108 ∷ decl.blank ∷ (decl.body ++ (63 ∷ 62 ∷ rest))) refl (λ b. refl)
    ∙ passes places.DeclarationX places.DeclarationM 0 0 3 109 k (108 ∷ decl.blank ∷ (decl.body ++ (63 ∷ 62 ∷ rest))) refl (λ b. refl)
    ∙ passes places.DeclarationM places.DeclarationL 0 0 4 108 k (decl.blank ∷ (decl.body ++ (63 ∷ 62 ∷ rest))) refl (λ b. refl)
    ∙ passes places.DeclarationL places.Declaration 0 0 5 decl.blank k (decl.body ++ (63 ∷ 62 ∷ rest)) (rw b) (λ b. refl)
    ∙ over_idle places.Declaration 0 is_declared stays_declared (λ y j b p. refl) decl.body (63 ∷ 62 ∷ rest) 6 k d.1
    ∙ passes places.Declaration places.DeclarationEnd 0 0 (6 + length decl.body) 63 k (62 ∷ rest) refl (λ b. refl)
    ∙ passes places.DeclarationEnd places.Prolog 0 0 ((6 + length decl.body) + 1) 62 k rest refl (λ b. refl)
    ∙ ap (λ j. run places.Prolog 0 k j rest) e
    ∙ from_prolog (length (declaration_text (Some decl))) gap root k h is

pub over_document : (d : Document) (k : Result Build Fault) → IsPlain d → run places.Start 0 k 0 (document_text d) ≡ over_done (k >>= root_effect (root_place d) d.root)
over_document d k is = from_start d.declaration d.gap d.root k is.declaration is.gap is.root
