-- A book leads one way: its bytes begin with one list of entries, and each is one step of machines that are alike.
use Rattle.std.proofs.Common.{◌≡◌, ℕ, ℤ, ◌+◌, Bool, true, false, List, [], ◌∷◌, ◌++◌, Option, Some, None, Result, Ok, Err, length, drop, refl, sym, ap, ◌∙◌, subst, arith, append_assoc, length-append}
use Rattle.std.specs.Borrow.{Bor}
use Rattle.std.proofs.lemmas.List.{drop_at}
use Rattle.line_base.specs.declared.states.Side.{Side}
use Rattle.line_base.specs.declared.states.Side.TheVariants.{Entry as EntrySide, Exit}
use Rattle.board_record.specs.declared.sensed.Sensed.{Sensed}
use Rattle.book_entry.proofs.Exact.{never_both, read_of}
use Rattle.book_entry.specs.declared.fault.Fail.{Fail}
use Rattle.book_entry.specs.Fronts.{Begins, IsBad, IsFront}
use Rattle.book_entry.specs.Reading.{entry_in}
use Rattle.book_entry.specs.Spelling.{spelling}
use Rattle.book_entry.specs.declared.entry.Entry.{Entry}
use Rattle.book_entry.specs.declared.entry.OwnInput.{OwnInput}
use Rattle.book_entry.specs.declared.entry.OwnInput.TheVariants as own
use Rattle.book_entry.specs.Given.{IsOfOneLane, own_of}
use Rattle.book_entry.proofs.Given.{of_one_lane}
use Rattle.book_entry.specs.Steps.{AreEntries, DoesEntry, DoesInput, IsRefused, Replays, spelled}
use Rattle.step_rules.proofs.Once.{AreAlike, IsDry, OneMeaning, StepsOnce, steps-bytes, steps-dry}
use Rattle.machine_log.specs.Drives.{all_off, drives_after}
use Rattle.node_core.specs.May.{may_of, may_do}
use Rattle.node_core.specs.Node.{NodeState, new_node}
use Rattle.node_core.specs.Sides.{is_open}
use Rattle.node_core.specs.Step.{Steps}
use Rattle.node_core.specs.declared.act.Act.{Act}
use Rattle.node_core.specs.declared.input.Input.{Input}
use Rattle.node_core.specs.declared.input.Input.TheVariants as inputs
use Rattle.node_core.specs.declared.profile.NodeProfile.{NodeProfile}
use Rattle.restart_book.specs.Exactly.{AnswersBad, AnswersWhole, AreOne, EachBookHasOneAnswer}
use Rattle.restart_book.specs.Replay.{IsBadAt, IsResumed, Leads, RefusesOne, Resumes}
use Rattle.restart_book.specs.declared.resuming.BookWhy.{BookWhy}
use Rattle.restart_book.specs.declared.resuming.BookWhy.TheVariants as whys
use Rattle.restart_book.specs.declared.resuming.ResumeError.{ResumeError}
use Rattle.restart_book.specs.declared.resuming.ResumeError.TheVariants as errors
use Rattle.restart_book.specs.declared.resuming.Resumed.{Resumed}

-- ---- machines that are alike, whatever was spent of them

abbrev unspent : NodeState → NodeState
unspent node = record node { spent = false }

abbrev Alike : NodeState → NodeState → Type 0
Alike a b = AreAlike (unspent a) (unspent b)

alike_self : (a : NodeState) → Alike a a
alike_self a = record { spent = refl; name = refl; number = refl; capacity = refl; maker = refl; bridge = refl; forecasts = refl; supervised = refl; orders = refl; body = refl; entry = λ opened. refl; exit = λ opened. refl }

alike_back : (a b : NodeState) → Alike a b → Alike b a
alike_back a b alike = record {
  spent = refl;
  name = sym alike.name;
  number = sym alike.number;
  capacity = sym alike.capacity;
  maker = sym alike.maker;
  bridge = sym alike.bridge;
  forecasts = sym alike.forecasts;
  supervised = sym alike.supervised;
  orders = sym alike.orders;
  body = sym alike.body;
  entry = λ opened. sym (alike.entry (sym (ap (is_open EntrySide) alike.body) ∙ opened));
  exit = λ opened. sym (alike.exit (sym (ap (is_open Exit) alike.body) ∙ opened));
}

one_of : (a b : NodeState) → Alike a b → AreOne a b
one_of a b alike = record {
  name = alike.name;
  number = alike.number;
  capacity = alike.capacity;
  maker = alike.maker;
  bridge = alike.bridge;
  forecasts = alike.forecasts;
  supervised = alike.supervised;
  orders = alike.orders;
  body = alike.body;
  entry = alike.entry;
  exit = alike.exit;
}

steps_unspent : {s t : NodeState} {sensed : List Sensed} {input : Input} {moment : ℤ} {told : List Act} → Steps s sensed input moment t told → Steps (unspent s) sensed input moment (unspent t) told
steps_unspent steps = record {
  made = steps.made;
  lane = steps.lane;
  told = steps.told;
  bridge = steps.bridge;
  forecasts = steps.forecasts;
  supervised = steps.supervised;
  orders = steps.orders;
  name = steps.name;
  number = steps.number;
  capacity = steps.capacity;
}

-- what an input may be looks neither at what was spent nor at undelivered bytes
abbrev bare : NodeState → Bool → List ℕ → List ℕ → NodeState
bare a spent entry exit = record a { spent = spent; lane = record a.lane { entry_bytes = entry; exit_bytes = exit } }

same_but : (a b : NodeState) → Alike a b → bare a b.spent b.lane.entry_bytes b.lane.exit_bytes ≡ b
same_but a b alike =
    rw (← alike.name, ← alike.number, ← alike.capacity, ← alike.maker, ← alike.bridge, ← alike.forecasts, ← alike.supervised, ← alike.orders, ← alike.body) refl

may_bare : (input : Input) (a : NodeState) (spent : Bool) (entry exit : List ℕ) → may_of (bare a spent entry exit) input ≡ may_of a input
may_bare inputs.Nothing a spent entry exit = refl
may_bare _ a spent entry exit = refl

may_same : (input : Input) (a b : NodeState) → Alike a b → may_of b input ≡ may_of a input
may_same input a b alike = sym (ap (λ (n : NodeState). may_of n input) (same_but a b alike)) ∙ may_bare input a b.spent b.lane.entry_bytes b.lane.exit_bytes

-- ---- two inputs that are kept as one

abbrev own_dry : OwnInput → Bool
own_dry (own.Bytes side bytes) = false
own_dry _ = true

abbrev lent_of : Input → OwnInput → Input
lent_of d own.Nothing = inputs.Nothing
lent_of d own.Connect = inputs.Connect
lent_of d own.Accepted = inputs.Accepted
lent_of d own.Second = inputs.Second
lent_of d (own.Bytes side bytes) = d
lent_of d (own.Notice side) = inputs.Notice side
lent_of d own.Tick = inputs.Tick
lent_of d own.Shutdown = inputs.Shutdown
lent_of d (own.Fault side) = inputs.Fault side
lent_of d (own.Will side on) = inputs.Will side on
lent_of d (own.Level line on) = inputs.Level line on
lent_of d (own.Insert barcode) = inputs.Insert barcode
lent_of d (own.Remove id) = inputs.Remove id
lent_of d (own.Replace id) = inputs.Replace id
lent_of d (own.Mark id quality) = inputs.Mark id quality
lent_of d own.Forecast = inputs.Forecast
lent_of d (own.Query barcode) = inputs.Query barcode
lent_of d (own.Supervise on) = inputs.Supervise on
lent_of d (own.Ask question) = inputs.Ask question
lent_of d (own.Answer query order) = inputs.Answer query order
lent_of d (own.Sub id place barcode) = inputs.Sub id place barcode

lent_back : (d a : Input) → IsOfOneLane a → own_dry (own_of a) ≡ true → lent_of d (own_of a) ≡ a
lent_back d (inputs.Bytes side piece) alone dry = absurd (cc)
lent_back d (inputs.Gives id to) alone dry = absurd alone
lent_back d (inputs.Gets board) alone dry = absurd alone
lent_back d _ alone dry = refl

is_dry : (a : Input) → own_dry (own_of a) ≡ true → IsDry a
is_dry (inputs.Bytes side piece) dry = absurd (cc)
is_dry _ dry = tt

dry_same : (a b : Input) (input : OwnInput) → IsOfOneLane a → IsOfOneLane b → own_dry input ≡ true → own_of a ≡ input → own_of b ≡ input → b ≡ a
dry_same a b input mine yours dry one two =
    sym (lent_back a b yours (ap own_dry two ∙ dry)) ∙ ap (lent_of a) (two ∙ sym one) ∙ lent_back a a mine (ap own_dry one ∙ dry)

record DoneOnce (a b : NodeState) (acts more : List Act) : Type 0 where
  alike : Alike a b
  same : more ≡ acts

done_once : (a b : NodeState) (acts more : List Act) → StepsOnce (unspent a) (unspent b) acts more → DoneOnce a b acts more
done_once a b acts more once = record { alike = once.alike; same = once.same }

record IsPiece (a : Input) (side : Side) (bytes : List ℕ) : Type 0 where
  piece : Bor (List ℕ)
  is : a ≡ inputs.Bytes side piece
  same : piece.now ≡ bytes

abbrev side_of : Side → OwnInput → Side
side_of d (own.Bytes side bytes) = side
side_of d _ = d

abbrev bytes_of : OwnInput → List ℕ
bytes_of (own.Bytes side bytes) = bytes
bytes_of _ = []

piece_at : (side at : Side) (piece : Bor (List ℕ)) (bytes : List ℕ) → side ≡ at → piece.now ≡ bytes → IsPiece (inputs.Bytes side piece) at bytes
piece_at side at piece bytes same is = record { piece = piece; is = ap (λ (s : Side). inputs.Bytes s piece) same; same = is }

piece_of : (a : Input) (side : Side) (bytes : List ℕ) → own_of a ≡ own.Bytes side bytes → IsPiece a side bytes
piece_of (inputs.Bytes at piece) side bytes e = piece_at at side piece bytes (ap (side_of side) e) (ap bytes_of e)
piece_of inputs.Nothing side bytes e = (let never = ap own_dry e in absurd (cc))
piece_of _ side bytes e = (let never = ap own_dry e in absurd (cc))

-- ---- one entry of two machines that are alike

dry_once : OneMeaning → (a b a' b' : NodeState) (sensed : List Sensed) (input : OwnInput) (moment : ℤ) (acts more : List Act) → own_dry input ≡ true → Alike a b → DoesInput a sensed input moment a' acts → DoesInput b sensed input moment b' more → DoneOnce a' b' acts more
dry_once law a b a' b' sensed input moment acts more dry alike one two =
    let same = dry_same one.lent two.lent input (of_one_lane a one.lent one.may) (of_one_lane b two.lent two.may) dry one.kept two.kept in
    let P : Input → Type 0 = λ i. Steps b sensed i moment b' more in
    done_once a' b' acts more (steps-dry (unspent a) (unspent b) (unspent a') (unspent b') sensed one.lent moment acts more alike (is_dry one.lent (ap own_dry one.kept ∙ dry)) (steps_unspent one.steps) (steps_unspent (subst P same two.steps)) refl refl)

bytes_once : OneMeaning → (a b a' b' : NodeState) (sensed : List Sensed) (side : Side) (bytes : List ℕ) (moment : ℤ) (acts more : List Act) → Alike a b → DoesInput a sensed (own.Bytes side bytes) moment a' acts → DoesInput b sensed (own.Bytes side bytes) moment b' more → DoneOnce a' b' acts more
bytes_once law a b a' b' sensed side bytes moment acts more alike one two =
    let mine = piece_of one.lent side bytes one.kept in
    let yours = piece_of two.lent side bytes two.kept in
    let P : Input → Type 0 = λ i. Steps a sensed i moment a' acts in
    let Q : Input → Type 0 = λ i. Steps b sensed i moment b' more in
    done_once a' b' acts more (steps-bytes law side (unspent a) (unspent b) (unspent a') (unspent b') sensed mine.piece yours.piece moment acts more alike (yours.same ∙ sym mine.same) (steps_unspent (subst P mine.is one.steps)) (steps_unspent (subst Q yours.is two.steps)) refl refl)

does_once : OneMeaning → (a b a' b' : NodeState) (sensed : List Sensed) (input : OwnInput) (moment : ℤ) (acts more : List Act) → Alike a b → DoesInput a sensed input moment a' acts → DoesInput b sensed input moment b' more → DoneOnce a' b' acts more
does_once law a b a' b' sensed (own.Bytes side bytes) moment acts more alike one two = bytes_once law a b a' b' sensed side bytes moment acts more alike one two
does_once law a b a' b' sensed own.Nothing moment acts more alike one two = dry_once law a b a' b' sensed own.Nothing moment acts more refl alike one two
does_once law a b a' b' sensed input moment acts more alike one two = dry_once law a b a' b' sensed input moment acts more refl alike one two

dry_never : (a b : NodeState) (input : OwnInput) (one two : Input) → own_dry input ≡ true → Alike a b → own_of one ≡ input → own_of two ≡ input → IsOfOneLane two → may_of a one ≡ may_do → may_of b two ≡ may_do
dry_never a b input one two dry alike kept kept' alone may =
    ap (may_of b) (dry_same one two input (of_one_lane a one may) alone dry kept kept') ∙ may_same one a b alike ∙ may

bytes_never : (a b : NodeState) (side : Side) (bytes : List ℕ) (one two : Input) → Alike a b → own_of one ≡ own.Bytes side bytes → own_of two ≡ own.Bytes side bytes → may_of a one ≡ may_do → may_of b two ≡ may_do
bytes_never a b side bytes one two alike kept kept' may =
    let mine = piece_of one side bytes kept in
    let yours = piece_of two side bytes kept' in
    ap (may_of b) yours.is ∙ may_same (inputs.Bytes side mine.piece) a b alike ∙ ap (may_of a) (sym mine.is) ∙ may

may_once : (a b : NodeState) (input : OwnInput) (one two : Input) → Alike a b → own_of one ≡ input → own_of two ≡ input → IsOfOneLane two → may_of a one ≡ may_do → may_of b two ≡ may_do
may_once a b (own.Bytes side bytes) one two alike kept kept' alone may = bytes_never a b side bytes one two alike kept kept' may
may_once a b own.Nothing one two alike kept kept' alone may = dry_never a b own.Nothing one two refl alike kept kept' alone may
may_once a b input one two alike kept kept' alone may = dry_never a b input one two refl alike kept kept' alone may

-- what one may be given, none that is alike is refused
never_refused : (a b : NodeState) (sensed : List Sensed) (input : OwnInput) (moment : ℤ) (t : NodeState) (acts : List Act) → Alike a b → DoesInput a sensed input moment t acts → IsRefused b input → ⊥
never_refused a b sensed input moment t acts alike does is = is.refused (may_once a b input does.lent is.lent alike does.kept is.kept is.alone does.may)

-- ---- bytes begin with one entry

abbrev entry_of_read : Entry → Result (Entry × ℕ) Fail → Entry
entry_of_read d (Ok found) = found.0
entry_of_read d (Err why) = d

begins_once : (bytes : List ℕ) (x y : Entry) → Begins bytes x → Begins bytes y → y ≡ x
begins_once bytes x y one two =
    let mine : entry_in bytes ≡ Ok (x, length (spelling x)) = ap entry_in one.spelled ∙ read_of x one.rest one.entry_is in
    let yours : entry_in bytes ≡ Ok (y, length (spelling y)) = ap entry_in two.spelled ∙ read_of y two.rest two.entry_is in
    sym (ap (entry_of_read x) yours) ∙ ap (entry_of_read x) mine

begins : (bytes rest : List ℕ) (x : Entry) (xs : List Entry) → AreEntries (x ∷ xs) → bytes ≡ spelled (x ∷ xs) ++ rest → Begins bytes x
begins bytes rest x xs are is = record { entry_is = are.0; rest = spelled xs ++ rest; spelled = is ∙ append_assoc (spelling x) (spelled xs) rest }

behind_same : (x y : Entry) (more other : List ℕ) → y ≡ x → spelling x ++ more ≡ spelling y ++ other → more ≡ other
behind_same x y more other same is =
    sym (drop_at (spelling x) more (length (spelling x)) refl) ∙ ap (drop (length (spelling x))) is
    ∙ drop_at (spelling y) other (length (spelling x)) (ap (λ (e : Entry). length (spelling e)) same)

-- ---- where a book ends

-- why it isn't done further, if there is a reason
abbrev Halts : Option BookWhy → NodeState → List ℕ → Type 0
Halts None node rest = IsFront rest
Halts (Some whys.Spelling) node rest = IsBad rest
Halts (Some whys.NotPossible) node rest = RefusesOne node rest

never_done : (how : Option BookWhy) (a b : NodeState) (rest : List ℕ) (entry : Entry) (t : NodeState) (acts : List Act) → Alike b a → Halts how a rest → Begins rest entry → DoesEntry b entry t acts → ⊥
never_done None a b rest entry t acts alike front is does = never_both rest entry is front
never_done (Some whys.Spelling) a b rest entry t acts alike bad is does = bad.no_entry entry is
never_done (Some whys.NotPossible) a b rest entry t acts alike refused is does =
    let P : Entry → Type 0 = λ e. DoesEntry b e t acts in
    never_refused b a refused.entry.sensed refused.entry.input refused.entry.moment t acts alike (subst P (begins_once rest refused.entry entry refused.begins is) does) refused.refused

halts_once : (how other : Option BookWhy) (a b : NodeState) (rest : List ℕ) → Halts how a rest → Halts other b rest → other ≡ how
halts_once None None a b rest one two = refl
halts_once None (Some whys.Spelling) a b rest one two = absurd (two.no_front one)
halts_once None (Some whys.NotPossible) a b rest one two = absurd (never_both rest two.entry two.begins one)
halts_once (Some whys.Spelling) None a b rest one two = absurd (one.no_front two)
halts_once (Some whys.Spelling) (Some whys.Spelling) a b rest one two = refl
halts_once (Some whys.Spelling) (Some whys.NotPossible) a b rest one two = absurd (one.no_entry two.entry two.begins)
halts_once (Some whys.NotPossible) None a b rest one two = absurd (never_both rest one.entry one.begins two)
halts_once (Some whys.NotPossible) (Some whys.Spelling) a b rest one two = absurd (two.no_entry one.entry one.begins)
halts_once (Some whys.NotPossible) (Some whys.NotPossible) a b rest one two = refl

record EndsOnce (xs ys : List Entry) (how other : Option BookWhy) (s t : NodeState) (acts more : List Act) : Type 0 where
  size : length (spelled ys) ≡ length (spelled xs)
  why : other ≡ how
  alike : Alike s t
  same : more ≡ acts

more_once : (x y : Entry) (xs ys : List Entry) (how other : Option BookWhy) (s t : NodeState) (acts more first first' rest rest' : List Act) → y ≡ x → first' ≡ first → acts ≡ first ++ rest → more ≡ first' ++ rest' → EndsOnce xs ys how other s t rest rest' → EndsOnce (x ∷ xs) (y ∷ ys) how other s t acts more
more_once x y xs ys how other s t acts more first first' rest rest' same told is is' ends = record {
  size = omega (arith, length-append (spelling x) (spelled xs), length-append (spelling y) (spelled ys), ends.size, ap (λ (e : Entry). length (spelling e)) same);
  why = ends.why;
  alike = ends.alike;
  same = is' ∙ ap (λ (a : List Act). a ++ rest') told ∙ ap (λ (a : List Act). first ++ a) ends.same ∙ sym is;
}

replays_once : OneMeaning → (xs ys : List Entry) (how other : Option BookWhy) (a b s t : NodeState) (bytes rest rest' : List ℕ) (acts more : List Act) → Alike a b → AreEntries xs → AreEntries ys → bytes ≡ spelled xs ++ rest → bytes ≡ spelled ys ++ rest'
    → Replays a xs s acts → Replays b ys t more → Halts how s rest → Halts other t rest' → EndsOnce xs ys how other s t acts more
replays_once law [] [] how other a b s t bytes rest rest' acts more alike are are' is is' one two halts halts' =
    let P : NodeState → Type 0 = λ n. Alike n t in
    let Q : NodeState → Type 0 = λ n. Alike a n in
    let R : List ℕ → Type 0 = λ x. Halts other t x in
    record { size = refl; why = halts_once how other s t rest halts (subst R (sym is' ∙ is) halts'); alike = subst P one.0 (subst Q two.0 alike); same = two.1 ∙ sym one.1 }
replays_once law [] (y ∷ ys) how other a b s t bytes rest rest' acts more alike are are' is is' one two halts halts' =
    let P : NodeState → Type 0 = λ n. Alike b n in
    let Q : List ℕ → Type 0 = λ x. Begins x y in
    absurd (never_done how s b rest y two.0 two.1 (subst P one.0 (alike_back a b alike)) halts (subst Q is (begins bytes rest' y ys are' is')) two.3)
replays_once law (x ∷ xs) [] how other a b s t bytes rest rest' acts more alike are are' is is' one two halts halts' =
    let P : NodeState → Type 0 = λ n. Alike a n in
    let Q : List ℕ → Type 0 = λ z. Begins z x in
    absurd (never_done other t a rest' x one.0 one.1 (subst P two.0 alike) halts' (subst Q is' (begins bytes rest x xs are is)) one.3)
replays_once law (x ∷ xs) (y ∷ ys) how other a b s t bytes rest rest' acts more alike are are' is is' one two halts halts' =
    let same = begins_once bytes x y (begins bytes rest x xs are is) (begins bytes rest' y ys are' is') in
    let P : Entry → Type 0 = λ e. DoesEntry b e two.0 two.1 in
    let next = does_once law a b one.0 two.0 x.sensed x.input x.moment one.1 two.1 alike one.3 (subst P same two.3) in
    let behind = behind_same x y (spelled xs ++ rest) (spelled ys ++ rest') same (sym (append_assoc (spelling x) (spelled xs) rest) ∙ sym is ∙ is' ∙ append_assoc (spelling y) (spelled ys) rest') in
    more_once x y xs ys how other s t acts more one.1 two.1 one.2 two.2 same next.same one.5 two.5
    (replays_once law xs ys how other one.0 two.0 s t (spelled xs ++ rest) rest rest' one.2 two.2 next.alike are.1 are'.1 refl behind one.4 two.4 halts halts')

-- ---- a book has one answer

leads_once : OneMeaning → (start : NodeState) (book : List ℕ) (at at' : ℕ) (s t : NodeState) (acts more : List Act) (how other : Option BookWhy) → (one : Leads start book at s acts) → (two : Leads start book at' t more) → Halts how s (drop at book) → Halts other t (drop at' book)
    → EndsOnce one.entries two.entries how other s t acts more
leads_once law start book at at' s t acts more how other one two halts halts' =
    replays_once law one.entries two.entries how other start start s t book (drop at book) (drop at' book) acts more (alike_self start) one.are two.are one.split two.split one.replays two.replays halts halts'

record IsHalted (start : NodeState) (book : List ℕ) (at : ℕ) (how : Option BookWhy) : Type 0 where
  node : NodeState
  acts : List Act
  leads : Leads start book at node acts
  halts : Halts how node (drop at book)

halted_bad : (start : NodeState) (book : List ℕ) (at : ℕ) (why : BookWhy) → IsBadAt start book at why → IsHalted start book at (Some why)
halted_bad start book at whys.Spelling is = record { node = is.node; acts = is.acts; leads = is.leads; halts = is.bad }
halted_bad start book at whys.NotPossible is = record { node = is.node; acts = is.acts; leads = is.leads; halts = record { entry = is.entry; begins = is.begins; refused = is.refused } }

halted_whole : (start : NodeState) (book : List ℕ) (at : ℕ) (node : NodeState) (acts : List Act) → IsResumed start book at node acts → IsHalted start book at None
halted_whole start book at node acts is = record { node = node; acts = acts; leads = is.leads; halts = is.torn }

halted_once : OneMeaning → (start : NodeState) (book : List ℕ) (at at' : ℕ) (how other : Option BookWhy) → IsHalted start book at how → IsHalted start book at' other → (at' ≡ at) × (other ≡ how)
halted_once law start book at at' how other one two =
    let ends = leads_once law start book at at' one.node two.node one.acts two.acts how other one.leads two.leads one.halts two.halts in
    (two.leads.at_is ∙ ends.size ∙ sym one.leads.at_is, ends.why)

some_same : (a b : BookWhy) → Some a ≡ Some b → a ≡ b
some_same a b e = cc

some_none : (why : BookWhy) → None ≡ Some why → ⊥
some_none why e = cc

whole_once : OneMeaning → (start : NodeState) (book : List ℕ) (one other : ℕ) (a b : NodeState) (acts more : List Act) → IsResumed start book one a acts → IsResumed start book other b more → (other ≡ one) × AreOne a b × (more ≡ acts)
whole_once law start book one other a b acts more mine yours =
    let ends = leads_once law start book one other a b acts more None None mine.leads yours.leads mine.torn yours.torn in
    (yours.leads.at_is ∙ ends.size ∙ sym mine.leads.at_is, one_of a b ends.alike, ends.same)

bad_once : OneMeaning → (start : NodeState) (book : List ℕ) (one other : ℕ) (why also : BookWhy) → IsBadAt start book one why → IsBadAt start book other also → (other ≡ one) × (also ≡ why)
bad_once law start book one other why also mine yours =
    let once = halted_once law start book one other (Some why) (Some also) (halted_bad start book one why mine) (halted_bad start book other also yours) in
    (once.0, some_same also why once.1)

never_bad : OneMeaning → (start : NodeState) (book : List ℕ) (whole at : ℕ) (node : NodeState) (acts : List Act) (why : BookWhy) → IsResumed start book whole node acts → IsBadAt start book at why → ⊥
never_bad law start book whole at node acts why is bad =
    some_none why (sym (halted_once law start book whole at None (Some why) (halted_whole start book whole node acts is) (halted_bad start book at why bad)).1)

pub one_answer : OneMeaning → EachBookHasOneAnswer
one_answer law start book = record { whole = whole_once law start book; bad = bad_once law start book; never_both = never_bad law start book }

-- ---- so each cause has its answer

pub only_whole : EachBookHasOneAnswer → (profile : NodeProfile) (book : List ℕ) (result : Result Resumed ResumeError) → Resumes profile book result → (whole : ℕ) (node : NodeState) (acts : List Act) → IsResumed (new_node profile) book whole node acts → AnswersWhole result whole node acts
only_whole law profile book (Ok resumed) answer whole node acts is =
    let once = (law (new_node profile) book).whole resumed.whole whole resumed.node node answer.acts acts answer.resumed is in
    (sym once.0, once.1, answer.drives_are ∙ ap (drives_after all_off) (sym once.2))
only_whole law profile book (Err (errors.Bad at why)) answer whole node acts is = (law (new_node profile) book).never_both whole at node acts why is answer
only_whole law profile book (Err errors.Memory) answer whole node acts is = tt

pub only_bad : EachBookHasOneAnswer → (profile : NodeProfile) (book : List ℕ) (result : Result Resumed ResumeError) → Resumes profile book result → (at : ℕ) (why : BookWhy) → IsBadAt (new_node profile) book at why → AnswersBad result at why
only_bad law profile book (Ok resumed) answer at why is = (law (new_node profile) book).never_both resumed.whole at resumed.node answer.acts why answer.resumed is
only_bad law profile book (Err (errors.Bad own_at own_why)) answer at why is =
    let once = (law (new_node profile) book).bad own_at at own_why why answer is in
    (sym once.0, sym once.1)
only_bad law profile book (Err errors.Memory) answer at why is = tt
