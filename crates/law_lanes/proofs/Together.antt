-- What the tracks of a line have in common between two lines of a script, and that each step keeps it.
use Rattle.std.proofs.Common.{◌≡◌, ◌≢◌, ◌∙◌, ◌+◌, ◌-◌, ◌<◌, ◌≤◌, ◌⊎◌, inl, inr, ℕ, zero, suc, Bool, List, [], ◌∷◌, None, ◌++◌, length, get_or, refl, sym, ap, subst, arith}
use Rattle.node_core.specs.Node.{NodeState, new_node}
use Rattle.line_step.specs.State.{LineState, no_line, one_more, profile_of}
use Rattle.law_lanes.specs.Lanes.{Lanes, beside, counted, empty_track, lines_of, most_lanes, no_lanes, track, unvouched_of, with_track}
use Rattle.law_lanes.specs.Steps.{copies, more_on}
use Rattle.law_lanes.proofs.Growing.{AreGrown, grown_many}
use Rattle.law_lanes.proofs.Places.{at_any, at_map, at_past, copies_at, copies_many, map_many, more_at, more_many, with_many, with_other, with_own}
use Rattle.law_lanes.proofs.Sharing.{AreShared, IsLeft, IsLike, IsShared, left_beside, like_back, like_beside, like_both, like_itself, shared_many}

-- a lane is there
abbrev pub IsThere : ℕ → Lanes → Type 0
IsThere lane s = (1 ≤ lane) × (lane ≤ length s.tracks)

-- a line has one lane at least and four at most; its tracks share their machines' makers, and count
-- alike; and where no machine stands each is empty
pub record IsTogether (s : Lanes) : Type 0 where
  pub some : 1 ≤ length s.tracks
  pub few : length s.tracks ≤ most_lanes
  pub like : (lane : ℕ) → IsThere lane s → IsLike (track 1 s) (track lane s)
  pub bare : (track 1 s).machines ≡ [] → (lane : ℕ) → IsThere lane s → track lane s ≡ empty_track s

pub first_there : (s : Lanes) → 1 ≤ length s.tracks → IsThere 1 s
first_there s some = (omega arith, some)

pub two_alike : (s : Lanes) (lane other : ℕ) → IsTogether s → IsThere lane s → IsThere other s
    → IsLike (track lane s) (track other s)
two_alike s lane other is here there =
    like_both (track lane s) (track 1 s) (track other s)
    (like_back (track 1 s) (track lane s) (is.like lane here)) (is.like other there)

-- the first track stands for all
pub first_is : (s : Lanes) → 1 ≤ length s.tracks → get_or s.tracks 0 no_line ≡ track 1 s
first_is s some = at_any s.tracks 0 no_line (empty_track s) (omega (arith, some))

pub lines_are : (s : Lanes) (lane : ℕ) → IsTogether s → IsThere lane s
    → (track lane s).lines ≡ lines_of s
lines_are s lane is there =
    (is.like lane there).lines ∙ sym (ap (λ (t : LineState). t.lines) (first_is s is.some))

pub unvouched_are : (s : Lanes) (lane : ℕ) → IsTogether s → IsThere lane s
    → (track lane s).unvouched ≡ unvouched_of s
unvouched_are s lane is there =
    (is.like lane there).unvouched
    ∙ sym (ap (λ (t : LineState). t.unvouched) (first_is s is.some))

-- ---- a lane is there, or it is empty

pub data Whether (lane : ℕ) (s : Lanes) : Type 0 where
  is_there : IsThere lane s → Whether lane s
  is_past : length s.tracks < lane → track lane s ≡ empty_track s → Whether lane s

whether_by : (lane : ℕ) (s : Lanes) → 1 ≤ lane → (lane ≤ length s.tracks) ⊎ (length s.tracks < lane)
    → Whether lane s
whether_by lane s some (inl there) = is_there (some, there)
whether_by lane s some (inr past) =
    is_past past (at_past s.tracks (lane - 1) (empty_track s) (omega (arith, past)))

pub within_or_past : (a b : ℕ) → (a ≤ b) ⊎ (b < a)
within_or_past zero b = inl (omega arith)
within_or_past (suc a) zero = inr (omega arith)
within_or_past (suc a) (suc b) = elim (within_or_past a b) [
  | inl le ↦ inl (omega (arith, le))
  | inr lt ↦ inr (omega (arith, lt))
]

pub whether : (lane : ℕ) (s : Lanes) → 1 ≤ lane → Whether lane s
whether lane s some = whether_by lane s some (within_or_past lane (length s.tracks))

-- the count is that of the line on every lane
pub lines_on_each : (s : Lanes) (lane : ℕ) → IsTogether s → 1 ≤ lane
    → (track lane s).lines ≡ lines_of s
lines_on_each s lane is some = by (whether lane s some) where
  by : Whether lane s → (track lane s).lines ≡ lines_of s
  by (is_there there) = lines_are s lane is there
  by (is_past past empty) = ap (λ (t : LineState). t.lines) empty

pub unvouched_on_each : (s : Lanes) (lane : ℕ) → IsTogether s → 1 ≤ lane
    → (track lane s).unvouched ≡ unvouched_of s
unvouched_on_each s lane is some = by (whether lane s some) where
  by : Whether lane s → (track lane s).unvouched ≡ unvouched_of s
  by (is_there there) = unvouched_are s lane is there
  by (is_past past empty) = ap (λ (t : LineState). t.unvouched) empty

-- ---- a track is put back

pub own_put : (lane : ℕ) (now : LineState) (s : Lanes) → IsThere lane s
    → track lane (with_track lane now s) ≡ now
own_put lane now s there =
    with_own (lane - 1) now (empty_track (with_track lane now s)) s.tracks
    (omega (arith, there.0, there.1))

pub other_put : (lane other : ℕ) (now : LineState) (s : Lanes) → other ≢ lane → IsThere lane s
    → IsThere other s → track other (with_track lane now s) ≡ beside now (track other s)
other_put lane other now s apart here there =
    let within : other - 1 < length s.tracks = omega (arith, there.0, there.1) in
    with_other (lane - 1) (other - 1) now (empty_track (with_track lane now s)) s.tracks
    (λ (same : other - 1 ≡ lane - 1). apart (omega (arith, same, there.0, here.0))) within
    ∙ ap (beside now) (at_any s.tracks (other - 1) _ (empty_track s) within)

pub put_many : (lane : ℕ) (now : LineState) (s : Lanes)
    → length (with_track lane now s).tracks ≡ length s.tracks
put_many lane now s = with_many (lane - 1) now s.tracks

pub put_there : (lane other : ℕ) (now : LineState) (s : Lanes)
    → IsThere other (with_track lane now s) → IsThere other s
put_there lane other now s there = (there.0, omega (arith, there.1, put_many lane now s))

-- a step on a track: its machines' makers grew, and its line isn't counted yet
pub record IsDone (before now : LineState) : Type 0 where
  pub grown : AreGrown before.machines now.machines
  pub lines : now.lines ≡ before.lines
  pub vouched : now.unvouched ≡ None → before.unvouched ≡ None
  pub stands : 1 ≤ length before.machines

pub alike_put : (lane other : ℕ) (now : LineState) (s : Lanes) → IsTogether s → IsThere lane s
    → IsThere other s → IsDone (track lane s) now → IsLike now (track other (with_track lane now s))
alike_put lane other now s is here there did = by (same_or_not other lane) where
  same_or_not : (a b : ℕ) → (a ≡ b) ⊎ (a ≢ b)
  same_or_not zero zero = inl refl
  same_or_not zero (suc b) = inr (λ (same : zero ≡ suc b). omega (arith, same))
  same_or_not (suc a) zero = inr (λ (same : suc a ≡ zero). omega (arith, same))
  same_or_not (suc a) (suc b) = elim (same_or_not a b) [
    | inl same ↦ inl (ap suc same)
    | inr apart ↦ inr (λ (same : suc a ≡ suc b). apart (omega (arith, same)))
  ]

  by : (other ≡ lane) ⊎ (other ≢ lane) → IsLike now (track other (with_track lane now s))
  by (inl same) =
      subst (λ (t : LineState). IsLike now t)
      (sym (ap (λ (l : ℕ). track l (with_track lane now s)) same ∙ own_put lane now s here))
      (like_itself now)
  by (inr apart) =
      let like = two_alike s lane other is here there in
      subst (λ (t : LineState). IsLike now t) (sym (other_put lane other now s apart here there))
      (like_beside now (track other s)
      (shared_many (track lane s).machines (track other s).machines like.machines
      ∙ sym (grown_many (track lane s).machines now.machines did.grown))
      (like.lines ∙ sym did.lines))

-- behind it all tracks are together again
pub together_put : (lane : ℕ) (now : LineState) (s : Lanes) → IsTogether s → IsThere lane s
    → IsDone (track lane s) now → IsTogether (with_track lane now s)
together_put lane now s is here did =
    let next = with_track lane now s in
    let first = alike_put lane 1 now s is here (first_there s is.some) did in
    record {
      some = omega (arith, is.some, put_many lane now s);
      few = omega (arith, is.few, put_many lane now s);
      like = λ other there.
          like_both (track 1 next) now (track other next) (like_back now (track 1 next) first)
          (alike_put lane other now s is here (put_there lane other now s there) did);
      bare = λ none other there.
          absurd (let never : ⊥ = omega (
            arith,
            did.stands,
            grown_many (track lane s).machines now.machines did.grown,
            shared_many now.machines (track 1 next).machines first.machines,
            ap (λ (ns : List NodeState). length ns) none,
          ) in never);
    }

-- and every other one is left
pub other_left : (lane other : ℕ) (now : LineState) (s : Lanes) → IsTogether s → IsThere lane s
    → 1 ≤ other → other ≢ lane → IsDone (track lane s) now
    → IsLeft (track other s) (track other (with_track lane now s))
other_left lane other now s is here some apart did = by (whether other s some) where
  next : Lanes
  next = with_track lane now s

  by : Whether other s → IsLeft (track other s) (track other next)
  by (is_there there) =
      subst (λ (t : LineState). IsLeft (track other s) t)
      (sym (other_put lane other now s apart here there))
      (left_beside (track lane s) now (track other s) did.grown
      (two_alike s lane other is here there) did.vouched)
  by (is_past past empty) =
      let behind = together_put lane now s is here did in
      let many = put_many lane now s in
      let one = alike_put lane 1 now s is here (first_there s is.some) did in
      let lines : lines_of next ≡ lines_of s =
      sym (lines_are next 1 behind (first_there next behind.some)) ∙ one.lines ∙ did.lines
      ∙ lines_are s lane is here in
      let vouched : unvouched_of next ≡ None → unvouched_of s ≡ None =
      λ none. sym (unvouched_are s lane is here) ∙ did.vouched
      (sym one.unvouched ∙ unvouched_are next 1 behind (first_there next behind.some) ∙ none) in
      let still : track other next ≡ empty_track next =
      at_past next.tracks (other - 1) (empty_track next) (omega (arith, past, many)) in
      let left : IsLeft (empty_track s) (empty_track next) =
      record { machines = tt; world = refl; lines = lines; vouched = vouched } in
      subst (λ (t : LineState). IsLeft t (track other next)) (sym empty)
      (subst (λ (t : LineState). IsLeft (empty_track s) t) (sym still) left)

-- ---- counted

pub counted_many : (lines : ℕ) (s : Lanes) → length (counted lines s).tracks ≡ length s.tracks
counted_many lines s = map_many (λ (t : LineState). record t { lines = lines }) s.tracks

counted_there : (lines lane : ℕ) (s : Lanes) → IsThere lane s
    → track lane (counted lines s) ≡ record (track lane s) { lines = lines }
counted_there lines lane s there =
    at_map (λ (t : LineState). record t { lines = lines }) s.tracks (lane - 1) (empty_track s)
    (empty_track (counted lines s)) (omega (arith, there.0, there.1))

counted_first : (lines : ℕ) (s : Lanes) → 1 ≤ length s.tracks
    → get_or (counted lines s).tracks 0 no_line
    ≡ record (get_or s.tracks 0 no_line) { lines = lines }
counted_first lines s some =
    at_map (λ (t : LineState). record t { lines = lines }) s.tracks 0 no_line no_line
    (omega (arith, some))

pub counted_lines : (lines : ℕ) (s : Lanes) → 1 ≤ length s.tracks
    → lines_of (counted lines s) ≡ lines
counted_lines lines s some = ap (λ (t : LineState). t.lines) (counted_first lines s some)

pub counted_unvouched : (lines : ℕ) (s : Lanes) → 1 ≤ length s.tracks
    → unvouched_of (counted lines s) ≡ unvouched_of s
counted_unvouched lines s some =
    ap (λ (t : LineState). t.unvouched) (counted_first lines s some)

counted_empty : (lines : ℕ) (s : Lanes) → 1 ≤ length s.tracks
    → empty_track (counted lines s) ≡ record (empty_track s) { lines = lines }
counted_empty lines s some =
    λ i. record no_line {
      lines = counted_lines lines s some i;
      unvouched = counted_unvouched lines s some i;
    }

pub counted_track : (lines lane : ℕ) (s : Lanes) → 1 ≤ length s.tracks → 1 ≤ lane
    → track lane (counted lines s) ≡ record (track lane s) { lines = lines }
counted_track lines lane s some counts = by (whether lane s counts) where
  by : Whether lane s → track lane (counted lines s) ≡ record (track lane s) { lines = lines }
  by (is_there there) = counted_there lines lane s there
  by (is_past past empty) =
      at_past (counted lines s).tracks (lane - 1) (empty_track (counted lines s))
      (omega (arith, past, counted_many lines s))
      ∙ counted_empty lines s some
      ∙ ap (λ (t : LineState). record t { lines = lines }) (sym empty)

counted_like : (lines : ℕ) (t u : LineState) → IsLike t u
    → IsLike (record t { lines = lines }) (record u { lines = lines })
counted_like lines t u is =
    record { machines = is.machines; lines = refl; unvouched = is.unvouched }

pub together_counted : (lines : ℕ) (s : Lanes) → IsTogether s → IsTogether (counted lines s)
together_counted lines s is =
    let next = counted lines s in
    let many = counted_many lines s in
    let at : (lane : ℕ) → IsThere lane next → track lane next ≡ record (track lane s) { lines = lines } =
    λ lane there. counted_track lines lane s is.some there.0 in
    let first = counted_track lines 1 s is.some (omega arith) in
    record {
      some = omega (arith, is.some, many);
      few = omega (arith, is.few, many);
      like = λ lane there.
          subst (λ (t : LineState). IsLike t (track lane next)) (sym first)
          (subst (λ (t : LineState). IsLike (record (track 1 s) { lines = lines }) t)
          (sym (at lane there))
          (counted_like lines (track 1 s) (track lane s)
          (is.like lane (there.0, omega (arith, there.1, many)))));
      bare = λ none lane there.
          at lane there
          ∙ ap (λ (t : LineState). record t { lines = lines })
          (is.bare (sym (ap (λ (t : LineState). t.machines) first) ∙ none) lane
          (there.0, omega (arith, there.1, many)))
          ∙ sym (counted_empty lines s is.some);
    }

-- ---- lanes are set

pub copies_track : (count lane : ℕ) (s : Lanes) → 1 ≤ count → 1 ≤ lane
    → track lane (record s { tracks = copies count (empty_track s) }) ≡ empty_track s
copies_track count lane s some counts = by (whether lane next counts) where
  next : Lanes
  next = record s { tracks = copies count (empty_track s) }

  first : get_or next.tracks 0 no_line ≡ empty_track s
  first = copies_at count (empty_track s) no_line 0 (omega (arith, some))

  by : Whether lane next → track lane next ≡ empty_track s
  by (is_there there) =
      copies_at count (empty_track s) (empty_track next) (lane - 1)
      (omega (arith, there.0, there.1, copies_many count (empty_track s)))
  by (is_past past empty) =
      empty ∙ (λ i. record no_line { lines = (first i).lines; unvouched = (first i).unvouched })

pub together_copies : (count : ℕ) (s : Lanes) → 1 ≤ count → count ≤ most_lanes
    → IsTogether (record s { tracks = copies count (empty_track s) })
together_copies count s some few =
    let next : Lanes = record s { tracks = copies count (empty_track s) } in
    let many = copies_many count (empty_track s) in
    let first = copies_track count 1 s some (omega arith) in
    let empty : empty_track next ≡ empty_track s =
    λ i. record no_line {
      lines = (copies_at count (empty_track s) no_line 0 (omega (arith, some)) i).lines;
      unvouched = (copies_at count (empty_track s) no_line 0 (omega (arith, some)) i).unvouched;
    } in
    record {
      some = omega (arith, some, many);
      few = omega (arith, few, many);
      like = λ lane there.
          subst (λ (t : LineState). IsLike (track 1 next) t)
          (first ∙ sym (copies_track count lane s some there.0)) (like_itself (track 1 next));
      bare = λ none lane there. copies_track count lane s some there.0 ∙ sym empty;
    }

none_by : (lane : ℕ) → Whether lane no_lanes → track lane no_lanes ≡ no_line
none_by lane (is_past past empty) = empty
none_by zero (is_there there) = refl
none_by (suc zero) (is_there there) = refl
none_by (suc (suc lane)) (is_there there) =
    absurd (let never : ⊥ = omega (arith, there.1) in never)

pub none_track : (lane : ℕ) → 1 ≤ lane → track lane no_lanes ≡ no_line
none_track lane some = none_by lane (whether lane no_lanes some)

pub together_none : IsTogether no_lanes
together_none =
    record {
      some = omega arith;
      few = omega arith;
      like = λ lane there.
          subst (λ (t : LineState). IsLike no_line t) (sym (none_track lane there.0))
          (like_itself no_line);
      bare = λ none lane there. none_track lane there.0;
    }

-- ---- a machine more on each track

pub more_track : (is_bridge : Bool) (capacity used lane : ℕ) (s : Lanes) → IsThere lane s
    → track lane (record s { tracks = more_on 1 is_bridge capacity used s.tracks })
    ≡ one_more lane is_bridge capacity used (track lane s)
more_track is_bridge capacity used lane s there =
    let next : Lanes = record s { tracks = more_on 1 is_bridge capacity used s.tracks } in
    let within : lane - 1 < length s.tracks = omega (arith, there.0, there.1) in
    let here : 1 + (lane - 1) ≡ lane = omega (arith, there.0) in
    more_at 1 is_bridge capacity used s.tracks (lane - 1) (empty_track next) within
    ∙ ap (one_more (1 + (lane - 1)) is_bridge capacity used)
    (at_any s.tracks (lane - 1) (empty_track next) (empty_track s) within)
    ∙ ap (λ (own : ℕ). one_more own is_bridge capacity used (track lane s)) here

shared_last : (xs bs : List NodeState) (a b : NodeState) → AreShared xs bs → IsShared a b
    → AreShared (xs ++ a ∷ []) (bs ++ b ∷ [])
shared_last [] [] a b are one = (one, tt)
shared_last [] (x ∷ xs) a b are one = absurd are
shared_last (x ∷ xs) [] a b are one = absurd are
shared_last (x ∷ xs) (y ∷ ys) a b are one = (are.0, shared_last xs ys a b are.1 one)

more_like : (is_bridge : Bool) (capacity used lane other : ℕ) (t u : LineState) → IsLike t u
    → IsLike (one_more lane is_bridge capacity used t) (one_more other is_bridge capacity used u)
more_like is_bridge capacity used lane other t u is =
    let many : length u.machines ≡ length t.machines =
    shared_many t.machines u.machines is.machines in
    record {
      machines = shared_last t.machines u.machines
          (new_node (profile_of lane is_bridge (length t.machines + 1) capacity used))
          (new_node (profile_of other is_bridge (length u.machines + 1) capacity used))
          is.machines (record {
            maker = ap (λ (n : ℕ). record { machine = n + 1; used = used }) many;
            supervised = refl;
          });
      lines = is.lines;
      unvouched = is.unvouched;
    }

last_some : (nodes : List NodeState) (node : NodeState) → 1 ≤ length (nodes ++ node ∷ [])
last_some [] node = omega arith
last_some (first ∷ nodes) node = omega arith

pub together_more : (is_bridge : Bool) (capacity used : ℕ) (s : Lanes) → IsTogether s
    → IsTogether (record s { tracks = more_on 1 is_bridge capacity used s.tracks })
together_more is_bridge capacity used s is =
    let next : Lanes = record s { tracks = more_on 1 is_bridge capacity used s.tracks } in
    let many = more_many 1 is_bridge capacity used s.tracks in
    let at : (lane : ℕ) → IsThere lane next → track lane next ≡ one_more lane is_bridge capacity used (track lane s) =
    λ lane there. more_track is_bridge capacity used lane s (there.0, omega (arith, there.1, many)) in
    let first = at 1 (first_there next (omega (arith, is.some, many))) in
    record {
      some = omega (arith, is.some, many);
      few = omega (arith, is.few, many);
      like = λ lane there.
          subst (λ (t : LineState). IsLike t (track lane next)) (sym first)
          (subst (λ (t : LineState). IsLike (one_more 1 is_bridge capacity used (track 1 s)) t)
          (sym (at lane there))
          (more_like is_bridge capacity used 1 lane (track 1 s) (track lane s)
          (is.like lane (there.0, omega (arith, there.1, many)))));
      bare = λ none lane there.
          absurd (let never : ⊥ = omega (
            arith,
            last_some (track 1 s).machines (new_node (profile_of 1 is_bridge
                (length (track 1 s).machines + 1) capacity used)),
            ap (λ (t : LineState). length t.machines) first,
            ap (λ (ns : List NodeState). length ns) none,
          ) in never);
    }

-- a lane that isn't there stays so
pub past_more : (is_bridge : Bool) (capacity used lane : ℕ) (s : Lanes) → IsTogether s
    → length s.tracks < lane → 1 ≤ lane
    → IsLeft (track lane s) (track lane (record s { tracks = more_on 1 is_bridge capacity used s.tracks }))
past_more is_bridge capacity used lane s is past some =
    let next : Lanes = record s { tracks = more_on 1 is_bridge capacity used s.tracks } in
    let behind = together_more is_bridge capacity used s is in
    let many = more_many 1 is_bridge capacity used s.tracks in
    let first = more_track is_bridge capacity used 1 s (first_there s is.some) in
    let lines : lines_of next ≡ lines_of s =
    ap (λ (t : LineState). t.lines) (first_is next behind.some ∙ first ∙ refl)
    ∙ sym (ap (λ (t : LineState). t.lines) (first_is s is.some)) in
    let unvouched : unvouched_of next ≡ unvouched_of s =
    ap (λ (t : LineState). t.unvouched) (first_is next behind.some ∙ first)
    ∙ sym (ap (λ (t : LineState). t.unvouched) (first_is s is.some)) in
    let empty : track lane s ≡ empty_track s =
    at_past s.tracks (lane - 1) (empty_track s) (omega (arith, past)) in
    let still : track lane next ≡ empty_track next =
    at_past next.tracks (lane - 1) (empty_track next) (omega (arith, past, many)) in
    let left : IsLeft (empty_track s) (empty_track next) =
    record {
      machines = tt;
      world = refl;
      lines = lines;
      vouched = λ none. sym unvouched ∙ none;
    } in
    subst (λ (t : LineState). IsLeft t (track lane next)) (sym empty)
    (subst (λ (t : LineState). IsLeft (empty_track s) t) (sym still) left)
