-- What the reading of a part has to keep so that it is exact, and how that is had of parts one behind
-- the other.
use Rattle.std.proofs.Common.{◌≡◌, ℕ, ◌+◌, ◌<◌, Bool, true, false, cond, List, [], ◌∷◌, ◌++◌, Result, Ok, Err, length, get_or, drop, refl, sym, ap, ◌∙◌, subst, append_assoc, append-nil}
use Rattle.std.proofs.lemmas.List.{drop_at, get_or-drop, append_cancel_left}
use Rattle.line_base.specs.Results.{then_ok, mapped_ok}
use Rattle.book_entry.specs.declared.fault.Fail.{Fail}
use Rattle.book_entry.specs.declared.fault.Fail.TheVariants as fails
use Rattle.book_entry.specs.Numbers.{byte_in}
use Rattle.book_entry.specs.Spelling.{AreBytes}

pub bytes_behind : (n : ℕ) (bytes : List ℕ) → AreBytes bytes → AreBytes (drop n bytes)
bytes_behind n bytes are = record { below = λ k. rw (get_or-drop n bytes k 0) (are.below (n + k)) }

-- the bytes begin with the spelling of this value
pub record IsRead {A : Type 0} (spell : A → List ℕ) (fits : A → Type 0) (bytes : List ℕ) (a : A) : Type 0 where
  pub value_fits : fits a
  pub rest : List ℕ
  pub spelled : bytes ≡ spell a ++ rest

-- they go on to the spelling of some value
pub record GoesOn {A : Type 0} (spell : A → List ℕ) (fits : A → Type 0) (bytes : List ℕ) : Type 0 where
  pub value : A
  pub value_fits : fits value
  pub more : List ℕ
  pub spelled : bytes ++ more ≡ spell value

-- reading a part is exact
pub record Form {A : Type 0} (spell : A → List ℕ) (fits : A → Type 0) (read : List ℕ → Result A Fail) : Type 0 where
  pub back : (a : A) (rest : List ℕ) → fits a → read (spell a ++ rest) ≡ Ok a
  pub only : (bytes : List ℕ) (a : A) → AreBytes bytes → read bytes ≡ Ok a → IsRead spell fits bytes a
  pub short : (bytes : List ℕ) → AreBytes bytes → read bytes ≡ Err fails.Short → GoesOn spell fits bytes
  pub bad : (bytes more rest : List ℕ) (a : A) → AreBytes bytes → read bytes ≡ Err fails.Bad → fits a → bytes ++ more ≡ spell a ++ rest → ⊥

-- ---- a part, and behind it what hangs on it

-- a whole of which this is the part
pub record IsKeyed {A B : Type 0} (key : B → A) (whole : B → Type 0) (a : A) (b : B) : Type 0 where
  pub whole_is : whole b
  pub key_is : key b ≡ a

module _ {A B : Type 0} (w : ℕ) (head : A → List ℕ) (fits : A → Type 0) (read : List ℕ → Result A Fail) (key : B → A) (tail : B → List ℕ) (whole : B → Type 0) (next : A → List ℕ → Result B Fail)
    (first : Form head fits read) (size : (a : A) → fits a → length (head a) ≡ w) (second : (a : A) → fits a → Form tail (IsKeyed key whole a) (next a))
    (keeps : (b : B) → whole b → fits (key b)) (some : (a : A) → fits a → (b : B) × IsKeyed key whole a b) where
  abbrev joined : List ℕ → Result B Fail
  joined bytes = then_ok (read bytes) (λ a. next a (drop w bytes))

  abbrev both : B → List ℕ
  both b = head (key b) ++ tail b

  joined_back : (b : B) (rest : List ℕ) → whole b → joined (both b ++ rest) ≡ Ok b
  joined_back b rest is =
      let k = key b in
      let fit = keeps b is in
      ap joined (append_assoc (head k) (tail b) rest)
      ∙ ap (λ (r : Result A Fail). then_ok r (λ a. next a (drop w (head k ++ (tail b ++ rest))))) (first.back k (tail b ++ rest) fit)
      ∙ ap (next k) (drop_at (head k) (tail b ++ rest) w (size k fit))
      ∙ (second k fit).back b rest (record { whole_is = is; key_is = refl })

  dropped : (bytes rest : List ℕ) (a : A) → fits a → bytes ≡ head a ++ rest → drop w bytes ≡ rest
  dropped bytes rest a fit e = ap (drop w) e ∙ drop_at (head a) rest w (size a fit)

  joined_only : (bytes : List ℕ) (b : B) (r : Result A Fail) → AreBytes bytes → read bytes ≡ r → then_ok r (λ a. next a (drop w bytes)) ≡ Ok b → IsRead both whole bytes b
  joined_only bytes b (Ok a) are q e =
      let one = first.only bytes a are q in
      let two = (second a one.value_fits).only (drop w bytes) b (bytes_behind w bytes are) e in
      record {
        value_fits = two.value_fits.whole_is;
        rest = two.rest;
        spelled =
            one.spelled
            ∙ ap (λ (x : List ℕ). head a ++ x) (sym (dropped bytes one.rest a one.value_fits one.spelled) ∙ two.spelled)
            ∙ sym (append_assoc (head a) (tail b) two.rest)
            ∙ ap (λ (k : A). (head k ++ tail b) ++ two.rest) (sym two.value_fits.key_is);
      }
  joined_only bytes b (Err f) are q e = absurd (cc)

  joined_short : (bytes : List ℕ) (r : Result A Fail) → AreBytes bytes → read bytes ≡ r → then_ok r (λ a. next a (drop w bytes)) ≡ Err fails.Short → GoesOn both whole bytes
  joined_short bytes (Ok a) are q e =
      let one = first.only bytes a are q in
      let two = (second a one.value_fits).short (drop w bytes) (bytes_behind w bytes are) e in
      record {
        value = two.value;
        value_fits = two.value_fits.whole_is;
        more = two.more;
        spelled =
            ap (λ (x : List ℕ). x ++ two.more) one.spelled
            ∙ append_assoc (head a) one.rest two.more
            ∙ ap (λ (x : List ℕ). head a ++ (x ++ two.more)) (sym (dropped bytes one.rest a one.value_fits one.spelled))
            ∙ ap (λ (x : List ℕ). head a ++ x) two.spelled
            ∙ ap (λ (k : A). head k ++ tail two.value) (sym two.value_fits.key_is);
      }
  joined_short bytes (Err fails.Short) are q e =
      let one = first.short bytes are q in
      let two = some one.value one.value_fits in
      record {
        value = two.0;
        value_fits = two.1.whole_is;
        more = one.more ++ tail two.0;
        spelled =
            sym (append_assoc bytes one.more (tail two.0))
            ∙ ap (λ (x : List ℕ). x ++ tail two.0) one.spelled
            ∙ ap (λ (k : A). head k ++ tail two.0) (sym two.1.key_is);
      }
  joined_short bytes (Err fails.Bad) are q e = absurd (cc)

  joined_bad : (bytes more rest : List ℕ) (b : B) (r : Result A Fail) → AreBytes bytes → read bytes ≡ r → then_ok r (λ a. next a (drop w bytes)) ≡ Err fails.Bad → whole b → bytes ++ more ≡ both b ++ rest → ⊥
  joined_bad bytes more rest b (Ok a) are q e is p =
      let one = first.only bytes a are q in
      let k = key b in
      let left : bytes ++ more ≡ head a ++ (one.rest ++ more) = ap (λ (x : List ℕ). x ++ more) one.spelled ∙ append_assoc (head a) one.rest more in
      let right : bytes ++ more ≡ head k ++ (tail b ++ rest) = p ∙ append_assoc (head k) (tail b) rest in
      let by_left : read (bytes ++ more) ≡ Ok a = ap read left ∙ first.back a (one.rest ++ more) one.value_fits in
      let by_right : read (bytes ++ more) ≡ Ok k = ap read right ∙ first.back k (tail b ++ rest) (keeps b is) in
      let same : a ≡ k = cc (by_left, by_right) in
      let matched : head a ++ (one.rest ++ more) ≡ head a ++ (tail b ++ rest) = sym left ∙ right ∙ ap (λ (x : A). head x ++ (tail b ++ rest)) (sym same) in
      (second a one.value_fits).bad (drop w bytes) more rest b (bytes_behind w bytes are) e (record { whole_is = is; key_is = sym same })
      (ap (λ (x : List ℕ). x ++ more) (dropped bytes one.rest a one.value_fits one.spelled) ∙ append_cancel_left (head a) (one.rest ++ more) (tail b ++ rest) matched)
  joined_bad bytes more rest b (Err fails.Short) are q e is p = absurd (cc)
  joined_bad bytes more rest b (Err fails.Bad) are q e is p =
      first.bad bytes more (tail b ++ rest) (key b) are q (keeps b is) (p ∙ append_assoc (head (key b)) (tail b) rest)

  pub behind : Form both whole joined
  behind = record {
    back = joined_back;
    only = λ bytes b are e. joined_only bytes b (read bytes) are refl e;
    short = λ bytes are e. joined_short bytes (read bytes) are refl e;
    bad = λ bytes more rest b are e is p. joined_bad bytes more rest b (read bytes) are refl e is p;
  }

-- ---- a part as another value

-- a value that is made of this one
pub record IsMade {A B : Type 0} (spell : A → List ℕ) (fits : A → Type 0) (make : A → B) (tail : B → List ℕ) (b : B) : Type 0 where
  pub from : A
  pub from_fits : fits from
  pub made : make from ≡ b

module _ {A B : Type 0} (spell : A → List ℕ) (fits : A → Type 0) (read : List ℕ → Result A Fail) (make : A → B) (tail : B → List ℕ) (whole : B → Type 0)
    (part : Form spell fits read) (fit : (a : A) → fits a → whole (make a)) (same : (a : A) → fits a → tail (make a) ≡ spell a) (un : (b : B) → whole b → IsMade spell fits make tail b) where
  abbrev made_of : List ℕ → Result B Fail
  made_of bytes = mapped_ok make (read bytes)

  spelled_as : (b : B) (m : IsMade spell fits make tail b) → tail b ≡ spell m.from
  spelled_as b m = ap tail (sym m.made) ∙ same m.from m.from_fits

  mapped_back : (b : B) (rest : List ℕ) → whole b → made_of (tail b ++ rest) ≡ Ok b
  mapped_back b rest is =
      let m = un b is in
      ap (λ (x : List ℕ). made_of (x ++ rest)) (spelled_as b m) ∙ ap (mapped_ok make) (part.back m.from rest m.from_fits) ∙ ap Ok m.made

  mapped_only : (bytes : List ℕ) (b : B) (r : Result A Fail) → AreBytes bytes → read bytes ≡ r → mapped_ok make r ≡ Ok b → IsRead tail whole bytes b
  mapped_only bytes b (Ok a) are q e =
      let one = part.only bytes a are q in
      let is : make a ≡ b = cc in
      record {
        value_fits = subst whole is (fit a one.value_fits);
        rest = one.rest;
        spelled = one.spelled ∙ ap (λ (x : List ℕ). x ++ one.rest) (sym (same a one.value_fits) ∙ ap tail is);
      }
  mapped_only bytes b (Err f) are q e = absurd (cc)

  mapped_short : (bytes : List ℕ) (r : Result A Fail) → AreBytes bytes → read bytes ≡ r → mapped_ok make r ≡ Err fails.Short → GoesOn tail whole bytes
  mapped_short bytes (Ok a) are q e = absurd (cc)
  mapped_short bytes (Err fails.Short) are q e =
      let one = part.short bytes are q in
      record {
        value = make one.value;
        value_fits = fit one.value one.value_fits;
        more = one.more;
        spelled = one.spelled ∙ sym (same one.value one.value_fits);
      }
  mapped_short bytes (Err fails.Bad) are q e = absurd (cc)

  mapped_bad : (bytes more rest : List ℕ) (b : B) (r : Result A Fail) → AreBytes bytes → read bytes ≡ r → mapped_ok make r ≡ Err fails.Bad → whole b → bytes ++ more ≡ tail b ++ rest → ⊥
  mapped_bad bytes more rest b (Ok a) are q e is p = absurd (cc)
  mapped_bad bytes more rest b (Err fails.Short) are q e is p = absurd (cc)
  mapped_bad bytes more rest b (Err fails.Bad) are q e is p =
      let m = un b is in
      part.bad bytes more rest m.from are q m.from_fits (p ∙ ap (λ (x : List ℕ). x ++ rest) (spelled_as b m))

  pub mapped : Form tail whole made_of
  mapped = record {
    back = mapped_back;
    only = λ bytes b are e. mapped_only bytes b (read bytes) are refl e;
    short = λ bytes are e. mapped_short bytes (read bytes) are refl e;
    bad = λ bytes more rest b are e is p. mapped_bad bytes more rest b (read bytes) are refl e is p;
  }

-- ---- a part without bytes, which is one value

pub alone : {B : Type 0} (value : B) (tail : B → List ℕ) (whole : B → Type 0) → whole value → tail value ≡ [] → ((b : B) → whole b → value ≡ b) → Form tail whole (λ bytes. Ok value)
alone {B} value tail whole is none one = record {
  back = λ b rest w. ap Ok (one b w);
  only = λ bytes b are e. let same : value ≡ b = cc in record { value_fits = subst whole same is; rest = bytes; spelled = ap (λ (x : List ℕ). x ++ bytes) (sym none ∙ ap tail same) };
  short = λ bytes are e. absurd (cc);
  bad = λ bytes more rest b are e w p. absurd (cc);
}

-- ---- one byte that passes a test

byte_back : (test : ℕ → Bool) (b : ℕ) (rest : List ℕ) → test b ≡ true → byte_in test ((b ∷ []) ++ rest) ≡ Ok b
byte_back test b rest e = ap (λ t. cond t (Ok b) (Err fails.Bad)) e

byte_only : (test : ℕ → Bool) (x b : ℕ) (xs : List ℕ) (t : Bool) → test x ≡ t → cond t (Ok x) (Err fails.Bad) ≡ Ok b → IsRead (λ c. c ∷ []) (λ c. test c ≡ true) (x ∷ xs) b
byte_only test x b xs true q e =
    let same : x ≡ b = cc in
    record { value_fits = ap test (sym same) ∙ q; rest = xs; spelled = ap (λ c. c ∷ xs) same }
byte_only test x b xs false q e = absurd (cc)

byte_never_short : (t : Bool) (x : ℕ) → cond {A = Result ℕ Fail} t (Ok x) (Err fails.Bad) ≡ Err fails.Short → ⊥
byte_never_short true x e = absurd (cc)
byte_never_short false x e = absurd (cc)

byte_bad : (test : ℕ → Bool) (x a : ℕ) (xs rest : List ℕ) → cond (test x) (Ok x) (Err fails.Bad) ≡ Err fails.Bad → test a ≡ true → x ∷ xs ≡ a ∷ rest → ⊥
byte_bad test x a xs rest e fits p =
    let same : x ≡ a = cc in
    let passes : test x ≡ true = ap test same ∙ fits in
    let found : Ok x ≡ Err fails.Bad = ap (λ t. cond t (Ok x) (Err fails.Bad)) (sym passes) ∙ e in
    absurd (cc)

pub byte_form : (test : ℕ → Bool) (some : ℕ) → test some ≡ true → Form (λ b. b ∷ []) (λ b. test b ≡ true) (byte_in test)
byte_form test some passes = record { back = byte_back test; only = only; short = short; bad = bad }
  where
    only : (bytes : List ℕ) (b : ℕ) → AreBytes bytes → byte_in test bytes ≡ Ok b → IsRead (λ c. c ∷ []) (λ c. test c ≡ true) bytes b
    only [] b are e = absurd (cc)
    only (x ∷ xs) b are e = byte_only test x b xs (test x) refl e

    short : (bytes : List ℕ) → AreBytes bytes → byte_in test bytes ≡ Err fails.Short → GoesOn (λ c. c ∷ []) (λ c. test c ≡ true) bytes
    short [] are e = record { value = some; value_fits = passes; more = some ∷ []; spelled = refl }
    short (x ∷ xs) are e = absurd (byte_never_short (test x) x e)

    bad : (bytes more rest : List ℕ) (a : ℕ) → AreBytes bytes → byte_in test bytes ≡ Err fails.Bad → test a ≡ true → bytes ++ more ≡ (a ∷ []) ++ rest → ⊥
    bad [] more rest a are e fits p = absurd (cc)
    bad (x ∷ xs) more rest a are e fits p = byte_bad test x a (xs ++ more) rest e fits p

-- ---- the same part in other words

pub reform : {A : Type 0} (spell spell' : A → List ℕ) (fits fits' : A → Type 0) (read read' : List ℕ → Result A Fail) → Form spell fits read → ((a : A) → fits a → fits' a) → ((a : A) → fits' a → fits a) → ((a : A) → fits a → spell' a ≡ spell a) → ((bytes : List ℕ) → read' bytes ≡ read bytes)
    → Form spell' fits' read'
reform {A} spell spell' fits fits' read read' form to from same again = record {
  back = λ a rest is. again (spell' a ++ rest) ∙ ap (λ (x : List ℕ). read (x ++ rest)) (same a (from a is)) ∙ form.back a rest (from a is);
  only = λ bytes a are e.
      let one = form.only bytes a are (sym (again bytes) ∙ e) in
      record { value_fits = to a one.value_fits; rest = one.rest; spelled = one.spelled ∙ ap (λ (x : List ℕ). x ++ one.rest) (sym (same a one.value_fits)) };
  short = λ bytes are e.
      let one = form.short bytes are (sym (again bytes) ∙ e) in
      record { value = one.value; value_fits = to one.value one.value_fits; more = one.more; spelled = one.spelled ∙ sym (same one.value one.value_fits) };
  bad = λ bytes more rest a are e is p. form.bad bytes more rest a are (sym (again bytes) ∙ e) (from a is) (p ∙ ap (λ (x : List ℕ). x ++ rest) (same a (from a is)));
}

-- ---- two parts that don't hang on each other

pub fused : {A B C D E : Type 0} (f : C → D) (make : A → B → C) (r : Result A E) (s : A → Result B E) → mapped_ok f (then_ok r (λ a. mapped_ok (make a) (s a))) ≡ then_ok r (λ a. mapped_ok (λ b. f (make a b)) (s a))
fused f make (Ok a) s = fused_in f (make a) (s a)
  where
    fused_in : {B C D E : Type 0} (f : C → D) (g : B → C) (r : Result B E) → mapped_ok f (mapped_ok g r) ≡ mapped_ok (λ b. f (g b)) r
    fused_in f g (Ok b) = refl
    fused_in f g (Err e) = refl
fused f make (Err e) s = refl

pub then_same : {A B E : Type 0} (r : Result A E) (f g : A → Result B E) → ((a : A) → f a ≡ g a) → then_ok r f ≡ then_ok r g
then_same (Ok a) f g same = same a
then_same (Err e) f g same = refl

pub record IsPair {A B : Type 0} (fits : A → Type 0) (fits' : B → Type 0) (p : A × B) : Type 0 where
  pub left : fits p.0
  pub right : fits' p.1

abbrev pub first_of_pair : {A B : Type 0} → A × B → A
first_of_pair p = p.0

abbrev pub pairing : {A B : Type 0} → A → B → A × B
pairing a b = (a, b)

module _ {A B : Type 0} (w : ℕ) (head : A → List ℕ) (fits : A → Type 0) (read : List ℕ → Result A Fail) (tail : B → List ℕ) (fits' : B → Type 0) (read' : List ℕ → Result B Fail)
    (first : Form head fits read) (size : (a : A) → fits a → length (head a) ≡ w) (second : Form tail fits' read') (some : B) (some_fits : fits' some) where
  abbrev behind_head : A × B → List ℕ
  behind_head p = tail p.1

  abbrev next_pair : A → List ℕ → Result (A × B) Fail
  next_pair a bytes = mapped_ok (pairing a) (read' bytes)

  pair_made : (a : A) → fits a → (p : A × B) → IsKeyed first_of_pair (IsPair fits fits') a p → IsMade tail fits' (pairing a) behind_head p
  pair_made a fit p is = record { from = p.1; from_fits = is.whole_is.right; made = λ i. (sym is.key_is i, p.1) }

  pair_second : (a : A) → fits a → Form behind_head (IsKeyed first_of_pair (IsPair fits fits') a) (next_pair a)
  pair_second a fit =
      mapped tail fits' read' (pairing a) behind_head (IsKeyed first_of_pair (IsPair fits fits') a) second
      (λ b is. record { whole_is = record { left = fit; right = is }; key_is = refl }) (λ b is. refl) (pair_made a fit)

  pub paired : Form (λ (p : A × B). head p.0 ++ tail p.1) (IsPair fits fits') (λ bytes. then_ok (read bytes) (λ a. mapped_ok (pairing a) (read' (drop w bytes))))
  paired =
      behind w head fits read first_of_pair behind_head (IsPair fits fits') next_pair first size pair_second (λ p is. is.left)
      (λ a fit. ((a, some), record { whole_is = record { left = fit; right = some_fits }; key_is = refl }))

-- and the value that is made of both
pub record IsMadeOfTwo {A B C : Type 0} (fits : A → Type 0) (fits' : B → Type 0) (make : A → B → C) (c : C) : Type 0 where
  pub left : A
  pub left_fits : fits left
  pub right : B
  pub right_fits : fits' right
  pub made : make left right ≡ c

pub both_form : {A B C : Type 0} (w : ℕ) (head : A → List ℕ) (fits : A → Type 0) (read : List ℕ → Result A Fail) (tail : B → List ℕ) (fits' : B → Type 0) (read' : List ℕ → Result B Fail) (make : A → B → C) (spell : C → List ℕ) (whole : C → Type 0)
    → Form head fits read → ((a : A) → fits a → length (head a) ≡ w) → Form tail fits' read' → (some : B) → fits' some
    → ((a : A) (b : B) → fits a → fits' b → whole (make a b)) → ((a : A) (b : B) → fits a → fits' b → spell (make a b) ≡ head a ++ tail b)
    → ((c : C) → whole c → IsMadeOfTwo fits fits' make c)
    → Form spell whole (λ bytes. then_ok (read bytes) (λ a. mapped_ok (make a) (read' (drop w bytes))))
both_form {A} {B} {C} w head fits read tail fits' read' make spell whole first size second some some_fits fit same un =
    let of_pair : A × B → C = λ p. make p.0 p.1 in
    let read_pair : List ℕ → Result (A × B) Fail = λ bytes. then_ok (read bytes) (λ a. mapped_ok (pairing a) (read' (drop w bytes))) in
    let spell_pair : A × B → List ℕ = λ p. head p.0 ++ tail p.1 in
    let form = mapped spell_pair (IsPair fits fits') read_pair of_pair spell whole (paired w head fits read tail fits' read' first size second some some_fits)
    (λ p is. fit p.0 p.1 is.left is.right) (λ p is. same p.0 p.1 is.left is.right)
    (λ c is. let m = un c is in record { from = (m.left, m.right); from_fits = record { left = m.left_fits; right = m.right_fits }; made = m.made }) in
    reform spell spell whole whole (λ bytes. mapped_ok of_pair (read_pair bytes)) (λ bytes. then_ok (read bytes) (λ a. mapped_ok (make a) (read' (drop w bytes)))) form
    (λ c is. is) (λ c is. is) (λ c is. refl) (λ bytes. sym (fused of_pair pairing (read bytes) (λ a. read' (drop w bytes))))
