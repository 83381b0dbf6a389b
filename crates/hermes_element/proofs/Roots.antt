-- How the reading machine goes over what stands around the root, over end tags, and from tag to tag.
use Rattle.std.proofs.Common.{◌≡◌, ◌⊎◌, inl, inr, ℕ, suc, ◌+◌, ◌-◌, ◌<◌, Bool, true, false, cond, List, [], ◌∷◌, ◌++◌, Option, Some, None, Result, Ok, Err, length, drop, get_or, set, refl, ap, sym, ◌∙◌, arith, subst, length-append}
use Rattle.std.specs.Prelude.{◌==◌, nat_lt, slice_range}
use Rattle.std.specs.Str.{bytes_eq}
use Rattle.std.proofs.lemmas.List.{drop_all}
use Rattle.std.proofs.lemmas.Bool.{cases_lt, cases_Bool, ne_eqb, lt-ltb}
use Rattle.std.proofs.lemmas.Bool.Decides.{nat_tests}
use Rattle.line_base.specs.Name.{is_name_start, is_name_byte}
use Rattle.hermes_element.specs.Plain.{is_blank, is_declared}
use Rattle.hermes_element.specs.Element.{Forest, none, Tree, add}
use Rattle.hermes_element.specs.Machine.{Build, Stand, Outcome, run, step, act, moved, between, no_scratch, no_tag, ended, after_element, add_last, innermost, outer, step_end}
use Rattle.hermes_element.specs.Steps.{run_at, IsSpan, Meets, beginning, in_content, in_close, as_forest, ReadsClose, ReadsMarkup}
use Rattle.hermes_element.specs.declared.refusal.Why.TheVariants as why
use Rattle.hermes_element.specs.declared.stop.Stop.{Stop}
use Rattle.hermes_element.specs.declared.place.Place.{Place}
use Rattle.hermes_element.specs.declared.place.Place.TheVariants as places
use Rattle.hermes_element.proofs.Running.{yes, no, over, goes, goes_over, stops as stops_at, ends, faults, faults_over, spans, skips, range_first, IsSpan-rest}
use Rattle.hermes_element.proofs.Tags.{stop_same, name_has_bytes, blank_not_62}

-- ---- before the root

prolog_blanks : (at to : ℕ) (c : Build) (bytes : List ℕ) → IsSpan is_blank bytes at to → run_at places.Prolog 0 c at bytes ≡ run_at places.Prolog 0 c to bytes
prolog_blanks at to c bytes span = skips places.Prolog 0 is_blank c (λ b h. rw h) (λ b k h. refl) bytes at to span

pub prolog_read : (at to : ℕ) (c : Build) (bytes : List ℕ) → IsSpan is_blank bytes at to → to < length bytes → get_or bytes to 0 ≡ 60 → run_at places.Prolog 0 c at bytes ≡ run_at places.Open 0 c (to + 1) bytes
prolog_read at to c bytes span here e = prolog_blanks at to c bytes span ∙ goes_over places.Prolog places.Open 0 0 c c to bytes 60 here e refl refl

pub prolog_breaks : (at to : ℕ) (c : Build) (bytes : List ℕ) → IsSpan is_blank bytes at to → (to < length bytes → get_or bytes to 0 ≡ 60 → ⊥) → (run_at places.Prolog 0 c at bytes).stop ≡ Some to
prolog_breaks at to c bytes span bad =
    ap (λ o. o.stop) (prolog_blanks at to c bytes span)
    ∙ elim (cases_lt to (length bytes)) [
      | inl here ↦ let b = span.over here in let e : (get_or bytes to 0 == 60) ≡ false = ne_eqb (get_or bytes to 0) 60 (bad here) in stops_at places.Prolog 0 c to bytes here (rw (b, e))
      | inr past ↦ ends places.Prolog 0 c to bytes past refl
    ]

pub declared_not_63 : (b : ℕ) → is_declared b ≡ true → (b == 63) ≡ false
declared_not_63 b h = grind (arith, nat_tests)

pub stays_declared : (b : ℕ) → is_declared b ≡ true → step places.Declaration 0 b ≡ Some (places.Declaration, 0)
stays_declared b h =
    no (b == 63) (Some (places.DeclarationEnd, 0)) (cond (is_declared b) (Some (places.Declaration, 0)) None) (declared_not_63 b h)
    ∙ yes (is_declared b) (Some (places.Declaration, 0)) None h

leaves_declared : (b : ℕ) → is_declared b ≡ false → (b == 63) ≡ false → step places.Declaration 0 b ≡ None
leaves_declared b h e =
    no (b == 63) (Some (places.DeclarationEnd, 0)) (cond (is_declared b) (Some (places.Declaration, 0)) None) e
    ∙ no (is_declared b) (Some (places.Declaration, 0)) None h

pub declared : (bytes : List ℕ) (to : ℕ) → 5 < length bytes → get_or bytes 0 0 ≡ 60 → get_or bytes 1 0 ≡ 63 → get_or bytes 2 0 ≡ 120 → get_or bytes 3 0 ≡ 109 → get_or bytes 4 0 ≡ 108 → is_blank (get_or bytes 5 0) ≡ true
    → IsSpan is_declared bytes 6 to → run_at places.Start 0 beginning 0 bytes ≡ run_at places.Declaration 0 beginning to bytes
declared bytes to long b0 b1 b2 b3 b4 b5 span =
    goes_over places.Start places.First 0 0 beginning beginning 0 bytes 60 (omega arith) b0 refl refl
    ∙ goes_over places.First places.Question 0 0 beginning beginning 1 bytes 63 (omega arith) b1 refl refl
    ∙ goes_over places.Question places.DeclarationX 0 0 beginning beginning 2 bytes 120 (omega arith) b2 refl refl
    ∙ goes_over places.DeclarationX places.DeclarationM 0 0 beginning beginning 3 bytes 109 (omega arith) b3 refl refl
    ∙ goes_over places.DeclarationM places.DeclarationL 0 0 beginning beginning 4 bytes 108 (omega arith) b4 refl refl
    ∙ goes places.DeclarationL places.Declaration 0 0 beginning beginning 5 bytes (omega arith) (rw b5) refl
    ∙ skips places.Declaration 0 is_declared beginning stays_declared (λ b k h. refl) bytes 6 to span

pub declaration_breaks : (bytes : List ℕ) (to : ℕ) → IsSpan is_declared bytes 6 to → (to < length bytes → get_or bytes to 0 ≡ 63 → ⊥) → (run_at places.Declaration 0 beginning to bytes).stop ≡ Some to
declaration_breaks bytes to span bad = elim (cases_lt to (length bytes)) [
  | inl here ↦ let b = span.over here in let e : (get_or bytes to 0 == 63) ≡ false = ne_eqb (get_or bytes to 0) 63 (bad here) in stops_at places.Declaration 0 beginning to bytes here (leaves_declared (get_or bytes to 0) b e)
  | inr past ↦ ends places.Declaration 0 beginning to bytes past refl
]

pub declaration_question : (bytes : List ℕ) (to : ℕ) → to < length bytes → get_or bytes to 0 ≡ 63 → run_at places.Declaration 0 beginning to bytes ≡ run_at places.DeclarationEnd 0 beginning (to + 1) bytes
declaration_question bytes to here e = goes_over places.Declaration places.DeclarationEnd 0 0 beginning beginning to bytes 63 here e refl refl

pub declaration_end_breaks : (bytes : List ℕ) (at : ℕ) → (at < length bytes → get_or bytes at 0 ≡ 62 → ⊥) → (run_at places.DeclarationEnd 0 beginning at bytes).stop ≡ Some at
declaration_end_breaks bytes at bad = elim (cases_lt at (length bytes)) [
  | inl here ↦ let e : (get_or bytes at 0 == 62) ≡ false = ne_eqb (get_or bytes at 0) 62 (bad here) in stops_at places.DeclarationEnd 0 beginning at bytes here (rw e)
  | inr past ↦ ends places.DeclarationEnd 0 beginning at bytes past refl
]

pub declaration_over : (bytes : List ℕ) (to : ℕ) → to < length bytes → get_or bytes to 0 ≡ 63 → to + 1 < length bytes → get_or bytes (to + 1) 0 ≡ 62 → run_at places.Declaration 0 beginning to bytes ≡ run_at places.Prolog 0 beginning (to + 2) bytes
declaration_over bytes to here e there f =
    let two : (to + 1) + 1 ≡ to + 2 = omega arith in
    declaration_question bytes to here e ∙ goes_over places.DeclarationEnd places.Prolog 0 0 beginning beginning (to + 1) bytes 62 there f refl refl
    ∙ ap (λ k. run_at places.Prolog 0 beginning k bytes) two

pub first_open : (bytes : List ℕ) → (1 < length bytes → get_or bytes 1 0 ≡ 63 → ⊥) → run_at places.First 0 beginning 1 bytes ≡ run_at places.Open 0 beginning 1 bytes
first_open bytes other = elim (cases_lt 1 (length bytes)) [
  | inr past ↦ rw (drop_all 1 bytes past)
  | inl here ↦
      let b = get_or bytes 1 0 in
      let e : (b == 63) ≡ false = ne_eqb b 63 (other here) in
      elim (cases_Bool (b == 47)) [
        | inl slash ↦ let s : is_name_start b ≡ false = grind (arith, nat_tests) in rw (over bytes 1 here, e, s, slash)
        | inr apart ↦ rw (over bytes 1 here, e, apart)
      ]
]

-- ---- end tags

pub innermost-push : (stack : List Tree) (top : Tree) → innermost (stack ++ top ∷ []) ≡ top
innermost-push [] top = refl
innermost-push (a ∷ []) top = refl
innermost-push (a ∷ b ∷ rest) top = innermost-push (b ∷ rest) top

pub outer-push : (stack : List Tree) (top : Tree) → outer (stack ++ top ∷ []) ≡ stack
outer-push [] top = refl
outer-push (a ∷ []) top = refl
outer-push (a ∷ b ∷ rest) top = ap (λ l. a ∷ l) (outer-push (b ∷ rest) top)

-- what the innermost open element becomes, in its place
pub add_last-set : (stack : List Tree) (parent child : Tree) → 0 < length stack → parent ≡ get_or stack (length stack - 1) parent
    → set stack (length stack - 1) (record parent { children = add parent.children child }) ≡ add_last stack child
add_last-set [] parent child some is = absurd (omega arith)
add_last-set (a ∷ []) parent child some is = ap (λ (p : Tree). record p { children = add p.children child } ∷ []) is
add_last-set (a ∷ b ∷ rest) parent child some is =
    let last : length (a ∷ b ∷ rest) - 1 ≡ suc (length (b ∷ rest) - 1) = omega arith in
    ap (λ k. set (a ∷ b ∷ rest) k (record parent { children = add parent.children child })) last
    ∙ ap (λ l. a ∷ l) (add_last-set (b ∷ rest) parent child (omega arith) (is ∙ ap (λ k. get_or (a ∷ b ∷ rest) k parent) last))

pub add_last-below : (root : Tree) (stack : List Tree) (child : Tree) → 0 < length stack → root ∷ add_last stack child ≡ add_last (root ∷ stack) child
add_last-below root [] child some = absurd (omega arith)
add_last-below root (a ∷ rest) child some = refl

pub add_last-push : (stack : List Tree) (parent child : Tree) → add_last (stack ++ parent ∷ []) child ≡ stack ++ record parent { children = add parent.children child } ∷ []
add_last-push [] parent child = refl
add_last-push (a ∷ []) parent child = refl
add_last-push (a ∷ b ∷ rest) parent child = ap (λ l. a ∷ l) (add_last-push (b ∷ rest) parent child)

abbrev wording : Forest → List Tree → List ℕ → ℕ → Build
wording roots stack word start = record { roots = roots; stack = stack; tag = no_tag; scratch = record no_scratch { word = word; start = start } }

module _ (bytes : List ℕ) (at to : ℕ) (here : at < length bytes) (start : is_name_start (get_or bytes at 0) ≡ true) (span : IsSpan is_name_byte bytes at to) (depth : ℕ) (roots : Forest) (stack : List Tree) where
  end_name_read : run_at places.Close depth (between roots stack) at bytes ≡ run_at places.EndName depth (wording roots stack (slice_range bytes at to) at) to bytes
  end_name_read =
      let b = get_or bytes at 0 in
      let some = name_has_bytes bytes at to here start span in
      let high = span.high in
      goes places.Close places.EndName depth depth (between roots stack) (wording roots stack (b ∷ []) at) at bytes here (rw start) refl
      ∙ spans places.EndName depth is_name_byte (λ word. wording roots stack word at) (λ x h. rw h) (λ x k word h. rw h) bytes (at + 1) to (b ∷ []) (IsSpan-rest is_name_byte bytes at to some span)
      ∙ ap (λ w. run_at places.EndName depth (wording roots stack w at) to bytes) (sym (range_first bytes at to some high))

  pub end_differs : (end : ℕ) → IsSpan is_blank bytes to end → end < length bytes → get_or bytes end 0 ≡ 62 → bytes_eq (slice_range bytes at to) (innermost stack).name ≡ false
      → (run_at places.Close depth (between roots stack) at bytes).built ≡ Err (at, why.EndName)
  end_differs end blanks there sign differs =
      let low = blanks.low in
      let inside : to < length bytes = omega arith in
      let other = span.over inside in
      let c = wording roots stack (slice_range bytes at to) at in
      ap (λ o. o.built) end_name_read
      ∙ elim (cases_lt to end) [
        | inl gap ↦
            let h : is_blank (get_or bytes to 0) ≡ true = blanks.each to (omega arith) gap in
            faults places.EndName places.EndGap depth depth c (at, why.EndName) to bytes inside (rw (other, h)) (rw (other, differs))
        | inr bare ↦
            let e : end ≡ to = omega arith in
            let is : get_or bytes to 0 ≡ 62 = ap (λ k. get_or bytes k 0) (sym e) ∙ sign in
            faults_over places.EndName (after_element (depth - 1)) depth (depth - 1) c (at, why.EndName) to bytes 62 inside is refl (rw differs)
      ]

  end_name_over : to < length bytes → (is_blank (get_or bytes to 0) ≡ true) ⊎ (get_or bytes to 0 ≡ 62) → bytes_eq (slice_range bytes at to) (innermost stack).name ≡ true
      → run_at places.EndName depth (wording roots stack (slice_range bytes at to) at) to bytes ≡ run_at places.EndGap depth (between roots stack) to bytes
  end_name_over inside (inl blank) same = let other = span.over inside in rw (over bytes to inside, other, same, blank)
  end_name_over inside (inr sign) same =
      goes_over places.EndName (after_element (depth - 1)) depth (depth - 1) (wording roots stack (slice_range bytes at to) at) (ended roots (outer stack) (innermost stack)) to bytes 62 inside sign refl (rw same)
      ∙ sym (goes_over places.EndGap (after_element (depth - 1)) depth (depth - 1) (between roots stack) (ended roots (outer stack) (innermost stack)) to bytes 62 inside sign refl refl)

  end_blanks : (end : ℕ) → IsSpan is_blank bytes to end → run_at places.EndGap depth (between roots stack) to bytes ≡ run_at places.EndGap depth (between roots stack) end bytes
  end_blanks end blanks = skips places.EndGap depth is_blank (between roots stack) (λ b h. rw h) (λ b k h. rw (blank_not_62 b h)) bytes to end blanks

  pub end_same : (end : ℕ) → IsSpan is_blank bytes to end → end < length bytes → get_or bytes end 0 ≡ 62 → bytes_eq (slice_range bytes at to) (innermost stack).name ≡ true
      → run_at places.Close depth (between roots stack) at bytes ≡ run_at (after_element (depth - 1)) (depth - 1) (ended roots (outer stack) (innermost stack)) (end + 1) bytes
  end_same end blanks there sign same =
      let low = blanks.low in
      end_name_read ∙ end_name_over (omega arith) (elim (cases_lt to end) [ inl gap ↦ inl (blanks.each to (omega arith) gap) | inr bare ↦ let e : end ≡ to = omega arith in inr (ap (λ k. get_or bytes k 0) (sym e) ∙ sign) ]) same
      ∙ end_blanks end blanks
      ∙ goes_over places.EndGap (after_element (depth - 1)) depth (depth - 1) (between roots stack) (ended roots (outer stack) (innermost stack)) end bytes 62 there sign refl refl

moved_stop : (to : Option Stand) (x y : Outcome) (f g : Place → ℕ → Outcome) → x.stop ≡ y.stop → ((p : Place) (n : ℕ) → (f p n).stop ≡ (g p n).stop) → (moved to x f).stop ≡ (moved to y g).stop
moved_stop None x y f g e h = e
moved_stop (Some to) x y f g e h = h to.0 to.1

end_name_stop : (depth at : ℕ) (c : Build) (bytes : List ℕ) → (at < length bytes → is_name_byte (get_or bytes at 0) ≡ false) → (run_at places.EndName depth c at bytes).stop ≡ (run_at places.EndGap depth c at bytes).stop
end_name_stop depth at c bytes other = elim (cases_lt at (length bytes)) [
  | inr past ↦ rw (drop_all at bytes past)
  | inl here ↦
      let b = get_or bytes at 0 in
      let rest = drop (at + 1) bytes in
      let h = other here in
      let to_name : Place → ℕ → Outcome = λ p n. run p n (act places.EndName at b c) (at + 1) rest in
      let to_gap : Place → ℕ → Outcome = λ p n. run p n (act places.EndGap at b c) (at + 1) rest in
      let stuck : Outcome = record { stop = Some at; built = Ok c } in
      ap (λ l. (run places.EndName depth (Ok c) at l).stop) (over bytes at here)
      ∙ ap (λ o. (moved o stuck to_name).stop) (no (is_name_byte b) (Some (places.EndName, depth)) (step_end depth b) h)
      ∙ moved_stop (step_end depth b) stuck stuck to_name to_gap refl (λ p n. stop_same p n (act places.EndName at b c) (act places.EndGap at b c) (at + 1) rest)
      ∙ sym (ap (λ l. (run places.EndGap depth (Ok c) at l).stop) (over bytes at here))
]

pub end_breaks : (bytes : List ℕ) (at to end depth : ℕ) (c : Build) → at < length bytes → is_name_start (get_or bytes at 0) ≡ true → IsSpan is_name_byte bytes at to → IsSpan is_blank bytes to end
    → (end < length bytes → get_or bytes end 0 ≡ 62 → ⊥) → (run_at places.Close depth c at bytes).stop ≡ Some end
end_breaks bytes at to end depth c here start span blanks bad =
    let k = between none [] in
    let w = wording none [] (slice_range bytes at to) at in
    stop_same places.Close depth (Ok c) (Ok k) at (drop at bytes)
    ∙ ap (λ o. o.stop) (end_name_read bytes at to here start span depth none [])
    ∙ end_name_stop depth to w bytes span.over
    ∙ stop_same places.EndGap depth (Ok w) (Ok k) to (drop to bytes)
    ∙ ap (λ o. o.stop) (end_blanks bytes at to here start span depth none [] end blanks)
    ∙ elim (cases_lt end (length bytes)) [
      | inl there ↦ let b = blanks.over there in let e : (get_or bytes end 0 == 62) ≡ false = ne_eqb (get_or bytes end 0) 62 (bad there) in stops_at places.EndGap depth k end bytes there (rw (b, e))
      | inr past ↦ ends places.EndGap depth k end bytes past refl
    ]

-- ---- from tag to tag

content_blanks : (depth at to : ℕ) (c : Build) (bytes : List ℕ) → IsSpan is_blank bytes at to → run_at places.Content depth c at bytes ≡ run_at places.Content depth c to bytes
content_blanks depth at to c bytes span = skips places.Content depth is_blank c (λ b h. rw h) (λ b k h. refl) bytes at to span

pub content_breaks : (depth at to : ℕ) (c : Build) (bytes : List ℕ) → IsSpan is_blank bytes at to → (to < length bytes → get_or bytes to 0 ≡ 60 → ⊥) → (run_at places.Content depth c at bytes).stop ≡ Some to
content_breaks depth at to c bytes span bad =
    ap (λ o. o.stop) (content_blanks depth at to c bytes span)
    ∙ elim (cases_lt to (length bytes)) [
      | inl here ↦ let b = span.over here in let e : (get_or bytes to 0 == 60) ≡ false = ne_eqb (get_or bytes to 0) 60 (bad here) in stops_at places.Content depth c to bytes here (rw (b, e))
      | inr past ↦ ends places.Content depth c to bytes past refl
    ]

pub content_open : (depth at to : ℕ) (c : Build) (bytes : List ℕ) → IsSpan is_blank bytes at to → to < length bytes → get_or bytes to 0 ≡ 60 → run_at places.Content depth c at bytes ≡ run_at places.Open depth c (to + 1) bytes
content_open depth at to c bytes span here e = content_blanks depth at to c bytes span ∙ goes_over places.Content places.Open depth depth c c to bytes 60 here e refl refl

pub content_close : (depth at to : ℕ) (c : Build) (bytes : List ℕ) → 0 < depth → IsSpan is_blank bytes at to → to + 1 < length bytes → get_or bytes to 0 ≡ 60 → get_or bytes (to + 1) 0 ≡ 47
    → run_at places.Content depth c at bytes ≡ run_at places.Close depth c (to + 2) bytes
content_close depth at to c bytes some span here e f =
    let open_there : nat_lt 0 depth ≡ true = lt-ltb 0 depth some in
    let two : (to + 1) + 1 ≡ to + 2 = omega arith in
    content_open depth at to c bytes span (omega arith) e
    ∙ goes_over places.Open places.Close depth depth c c (to + 1) bytes 47 here f (rw open_there) refl
    ∙ ap (λ k. run_at places.Close depth c k bytes) two

pub length-push : (stack : List Tree) (top : Tree) → length (stack ++ top ∷ []) ≡ length stack + 1
length-push stack top = omega (arith, length-append stack (top ∷ []))

pub closing : (old front : List Tree) (top : Tree) (at : ℕ) (bytes : List ℕ) → old ≡ front ++ top ∷ [] → in_close old at bytes ≡ run_at places.Close (length front + 1) (between none (front ++ top ∷ [])) at bytes
closing old front top at bytes e =
    ap (λ s. in_close s at bytes) e ∙ ap (λ d. run_at places.Close d (between none (front ++ top ∷ [])) at bytes) (length-push front top)

pub opened : (old : List Tree) (top : Tree) (at : ℕ) (bytes : List ℕ) (new : List Tree) → new ≡ old ++ top ∷ [] → run_at places.Content (length old + 1) (between none (old ++ top ∷ [])) at bytes ≡ in_content new at bytes
opened old top at bytes new e =
    ap (λ d. run_at places.Content d (between none (old ++ top ∷ [])) at bytes) (sym (length-push old top)) ∙ ap (λ s. in_content s at bytes) (sym e)

pub length-add_last : (stack : List Tree) (child : Tree) → length (add_last stack child) ≡ length stack
length-add_last [] child = refl
length-add_last (a ∷ []) child = refl
length-add_last (a ∷ b ∷ rest) child = ap suc (length-add_last (b ∷ rest) child)

pub again : (front : List Tree) (top : Tree) (to : ℕ) (bytes : List ℕ) → 0 < length front
    → run_at (after_element (length front)) (length front) (ended none front top) to bytes ≡ in_content (add_last front top) to bytes
again [] top to bytes some = absurd (omega arith)
again (a ∷ rest) top to bytes some =
    let stack = a ∷ rest in
    let there : (length stack == 0) ≡ false = ne_eqb (length stack) 0 (λ e. omega arith) in
    ap (λ p. run_at p (length stack) (ended none stack top) to bytes) (no (length stack == 0) places.End places.Content there)
    ∙ ap (λ d. run_at places.Content d (between none (add_last stack top)) to bytes) (sym (length-add_last stack top))

pub last_closed : (front : List Tree) (top : Tree) (to : ℕ) (bytes : List ℕ) → length front ≡ 0
    → run_at (after_element (length front)) (length front) (ended none front top) to bytes ≡ run_at places.End 0 (between (as_forest top) []) to bytes
last_closed [] top to bytes e = refl
last_closed (a ∷ rest) top to bytes e = absurd (omega arith)

pub markup_close : (bytes : List ℕ) (at k : ℕ) (old : List Tree) (root : Tree) (stack : List Tree) (result : Result (Bool × ℕ) Stop) → in_content old at bytes ≡ in_close old k bytes → ReadsClose bytes k old root stack result → ReadsMarkup bytes at old root stack result
markup_close bytes at k old root stack (Ok (false, to)) e h = e ∙ h
markup_close bytes at k old root stack (Ok (true, to)) e h = e ∙ h
markup_close bytes at k old root stack (Err stop) e h = subst (λ o. Meets o stop) (sym e) h
