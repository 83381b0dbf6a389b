-- A track knows nothing of boards that are away: none lies on its floor, and none is gone there.
use Rattle.std.proofs.Common.{Bool, List, None, Some, [], ap, append-nil, arith, false, inl, inr, refl, subst, sym, true, ℕ, ◌++◌, ◌+◌, ◌∙◌, ◌∷◌, ◌≡◌, ◌≢◌, ◌≤◌, ◌⊎◌}
use Rattle.std.specs.List.{AllByRecursion}
use Rattle.node_core.specs.Node.{NodeState}
use Rattle.node_core.specs.declared.act.Act.TheVariants as acts
use Rattle.node_core.specs.declared.input.Input.TheVariants as inputs
use Rattle.line_report.specs.declared.happening.Happening.{Happening}
use Rattle.line_report.specs.declared.happening.Happening.TheVariants as happenings
use Rattle.line_step.specs.FloorIds.{boards_of, made_by, made_in}
use Rattle.line_step.specs.Homes.{IsNewcomer, home_after, is_home}
use Rattle.line_step.specs.Lines.{LineDoes}
use Rattle.step_rules.specs.Makers.{IsOld}
use Rattle.line_step.specs.Reasons.{is_here}
use Rattle.line_step.specs.Requests.{Request, gives}
use Rattle.line_step.specs.Shown.{standings_told}
use Rattle.line_step.specs.State.{LineState}
use Rattle.line_step.specs.Tracks.{ComesFromElsewhere, own_line}
use Rattle.line_step.proofs.Effects.{Effect, line_effect}
use Rattle.line_step.proofs.Effects as effects
use Rattle.line_step.proofs.FloorLaws.{Goes, absent-none}
use Rattle.line_step.proofs.Getting.{gives_can}
use Rattle.line_step.proofs.Remarks.{AreRemarks, remarks_join, standings_remarks}
use Rattle.line_step.proofs.Shifted.{AreAskedFor, AsksFor, IsAskedFor, asks_to_get, asks_to_give, steps_asked}
use Rattle.line_step.proofs.Counted.{rises}
use Rattle.law_one_standing.specs.Carried.{Trace, between_of, stand_of}
use Rattle.law_one_standing.specs.Places.{LiesAt, at_machine}
use Rattle.law_one_standing.specs.Stands.{Stands}
use Rattle.law_one_standing.specs.Told.{IsTold, told_first, told_later}
use Rattle.law_one_standing.proofs.ApartFloor.{counted, lies_on_floor}
use Rattle.law_one_standing.proofs.ApartHands.{here_lies}
use Rattle.law_one_standing.proofs.ApartStep.{AreNews, IsNot, LayOn, LeftBy, all_lost_count, come_by, come_in, floor_old, gives_loses, old_count}
use Rattle.law_one_standing.proofs.Homes.{GivesAway, WentAway, gives_away, home_append, home_before, home_far, home_lost, not_join}

pub record IsAway (t : Trace) (s : LineState) (id : ℕ) : Type 0 where
  pub lies : counted id (boards_of s) ≡ 0
  pub gone : (link : ℕ) → t.gone link id ≡ true → ⊥

-- all that aren't at home, by what was told
abbrev pub AreAway : List Happening → Trace → LineState → Type 0
AreAway past t s = (id : ℕ) → is_home id past ≡ false → IsAway t s id

-- ---- what comes is news

-- a board that comes from another lane is not gone
abbrev pub IsUngone : Trace → Request → Type 0
IsUngone t (gives machine (inputs.Gets board)) = (link : ℕ) → t.gone link board.id ≡ true → ⊥
IsUngone t request = Unit {0}

pub ungone : (past : List Happening) (request : Request) (t : Trace) (s : LineState) → AreAway past t s → IsNewcomer past (own_line request) → IsUngone t request
ungone past (gives machine (inputs.Gets board)) t s away new = (away board.id new).gone
ungone past _ t s away new = tt

asked_gone : {request : Request} {machine id : ℕ} (t : Trace) (link x : ℕ) → AsksFor request machine (acts.Gets id) → IsUngone t request → t.gone link x ≡ true → x ≢ id
asked_gone t link x asks_to_get none gone is = none link (subst (λ (n : ℕ). t.gone link n ≡ true) is gone)

asked_lies : {request : Request} {machine id : ℕ} (s : LineState) (x : ℕ) → AsksFor request machine (acts.Gets id) → ComesFromElsewhere request s → 1 ≤ counted x (boards_of s) → x ≢ id
asked_lies s x (asks_to_get {board = board}) from some is =
    let none : counted board.id (boards_of s) ≡ 0 = absent-none board.id (boards_of s) from.absent in
    let own : 1 ≤ counted board.id (boards_of s) = subst (λ (n : ℕ). 1 ≤ counted n (boards_of s)) is some in
    omega (arith, none, own)

-- an old id other than that of the board that comes
abbrev IsFresh : List NodeState → ℕ → Type 0
IsFresh nodes id = (other : ℕ) → IsOld 1 nodes other → other ≢ id

fresh_front : (nodes : List NodeState) (a b : List ℕ) → AllByRecursion (IsFresh nodes) (a ++ b) → AllByRecursion (IsFresh nodes) a
fresh_front nodes [] b all = tt
fresh_front nodes (x ∷ a) b all = (all.0, fresh_front nodes a b all.1)

fresh_back : (nodes : List NodeState) (a b : List ℕ) → AllByRecursion (IsFresh nodes) (a ++ b) → AllByRecursion (IsFresh nodes) b
fresh_back nodes [] b all = all
fresh_back nodes (x ∷ a) b all = fresh_back nodes a b all.1

not_in : (nodes : List NodeState) (request : Request) (x : ℕ) (h : Happening) → IsOld 1 nodes x → ((machine id : ℕ) → AsksFor request machine (acts.Gets id) → x ≢ id) → AllByRecursion (IsFresh nodes) (made_in h) → IsAskedFor request h → IsNot x (come_in h)
not_in nodes request x (happenings.Done machine (acts.Inserts id)) old other fresh asked = (fresh.0 x old, tt)
not_in nodes request x (happenings.Done machine (acts.Replaces was id)) old other fresh asked = (fresh.0 x old, tt)
not_in nodes request x (happenings.Done machine (acts.Gets id)) old other fresh asked = (other machine id asked, tt)
not_in nodes request x _ old other fresh asked = tt

pub not_by : (nodes : List NodeState) (request : Request) (x : ℕ) (told : List Happening) → IsOld 1 nodes x → ((machine id : ℕ) → AsksFor request machine (acts.Gets id) → x ≢ id) → AllByRecursion (IsFresh nodes) (made_by told) → AreAskedFor request told → IsNot x (come_by told)
not_by nodes request x [] old other fresh asked = tt
not_by nodes request x (h ∷ told) old other fresh asked =
    not_join x (come_in h) (come_by told) (not_in nodes request x h old other (fresh_front nodes (made_in h) (made_by told) fresh) asked.0)
    (not_by nodes request x told old other (fresh_back nodes (made_in h) (made_by told) fresh) asked.1)

pub news_of : (request : Request) (t : Trace) (s after : LineState) (told : List Happening) → Stands t s → Goes s after told → AreAskedFor request told → ComesFromElsewhere request s → IsUngone t request → AreNews t s told
news_of request t s after told st goes asked from none = record {
  gone = λ link x gone. not_by s.machines request x told (st.olds link x gone) (λ machine id asks. asked_gone t link x asks none gone) goes.fresh asked;
  lies = λ x some. not_by s.machines request x told (floor_old s x st.ids some) (λ machine id asks. asked_lies s x asks from some) goes.fresh asked;
}

pub done_asked : (number : ℕ) (request : Request) (s next : LineState) (done : List Happening) → LineDoes number request s next done → AreAskedFor request (done ++ standings_told s next)
done_asked number request s next done does = steps_asked number request s (record next { lines = next.lines + 1 }) (done ++ standings_told s next) (record { next = next; done = done; does = does; lines = next.lines + 1; counts = rises next.lines; after_is = refl; told_is = refl })

-- ---- behind a line

pub record Passed (number : ℕ) (request : Request) (t t2 : Trace) (s next : LineState) (done : List Happening) : Type 0 where
  pub st : Stands t s
  pub goes : Goes s next (done ++ standings_told s next)
  pub news : AreNews t s (done ++ standings_told s next)
  pub asked : AreAskedFor request (done ++ standings_told s next)
  pub does : LineDoes number request s next done
  pub was : (link id : ℕ) → t2.gone link id ≡ true → (t.gone link id ≡ true) ⊎ LeftBy request s id

told_asked : (request : Request) {h : Happening} {told : List Happening} → IsTold h told → AreAskedFor request told → IsAskedFor request h
told_asked request told_first all = all.0
told_asked request (told_later is) all = told_asked request is all.1

told_remark : {machine id to : ℕ} {told : List Happening} → IsTold (happenings.Done machine (acts.Gives id to)) told → AreRemarks told → ⊥
told_remark told_first all = all.0
told_remark (told_later is) all = told_remark is all.1

-- a board that went to another lane lay there
gives_here : (number machine id to : ℕ) (s next : LineState) (done : List Happening) → Effect number s next done (gives machine (inputs.Gives id to)) → IsTold (happenings.Done machine (acts.Gives id to)) (done ++ standings_told s next) → is_here machine id s.world ≡ true
gives_here number machine id to s next done (effects.rests _ what remarks b) is =
    let quiet : AreRemarks done = subst (λ (hs : List Happening). AreRemarks hs) (sym b.told_is) remarks in
    absurd (told_remark is (remarks_join done (standings_told s next) quiet (standings_remarks s next)))
gives_here number machine id to s next done (effects.steps _ _ given may did) is = (gives_can machine id to s did.node did.there may).here

given_away : {number : ℕ} {request : Request} {machine id to : ℕ} {t t2 : Trace} {s next : LineState} {done : List Happening} → AsksFor request machine (acts.Gives id to) → IsTold (happenings.Done machine (acts.Gives id to)) (done ++ standings_told s next)
    → Passed number request t t2 s next done → IsAway t2 next id
given_away {number = number} {t = t} {t2 = t2} {s = s} {next = next} {done = done} (asks_to_give {machine = machine} {id = id} {to = to}) is p =
    let here : is_here machine id s.world ≡ true = gives_here number machine id to s next done (line_effect number (gives machine (inputs.Gives id to)) s next done p.does) is in
    let there : LiesAt (stand_of s) (between_of t s) id (at_machine machine) = here_lies t s machine id here in
    let some : 1 ≤ counted id (boards_of s) = lies_on_floor t s id (at_machine machine) p.st.ids.whole there in
    let fewer = all_lost_count is id (boards_of s) (boards_of next) (gives_loses machine id to) p.goes.change (p.news.lies id some) in
    let most = p.st.ids.differ.once id in
    record {
      lies = omega (arith, fewer, most);
      gone = λ link gone. elim (p.was link id gone) [ inl was ↦ p.st.keeps.apart.nowhere link id (at_machine machine) was there | inr none ↦ none ];
    }

went_away : {number : ℕ} {request : Request} {id : ℕ} {h : Happening} {t t2 : Trace} {s next : LineState} {done : List Happening} → GivesAway id h → IsTold h (done ++ standings_told s next) → Passed number request t t2 s next done → IsAway t2 next id
went_away {request = request} gives_away is p = given_away (told_asked request is p.asked) is p

left_lies : (request : Request) (s : LineState) (id : ℕ) → LeftBy request s id → LayOn s id
left_lies (gives machine (inputs.Gives other to)) s id left = absurd left
left_lies (gives machine inputs.Nothing) s id left = left
left_lies _ s id left = left

-- one that was away, and didn't come
still_away : (number : ℕ) (request : Request) (t t2 : Trace) (s next : LineState) (done : List Happening) (id : ℕ) → Passed number request t t2 s next done → IsAway t s id → IsNot id (come_by (done ++ standings_told s next)) → IsAway t2 next id
still_away number request t t2 s next done id p away apart =
    let none : counted id (boards_of s) ≡ 0 = away.lies in
    let fewer = old_count s next (done ++ standings_told s next) id p.goes apart in
    record {
      lies = omega (arith, none, fewer);
      gone = λ link gone. elim (p.was link id gone) [ inl was ↦ away.gone link was | inr left ↦ (let lay : 1 ≤ counted id (boards_of s) = left_lies request s id left in omega (arith, lay, none)) ];
    }

pub away_then : (number : ℕ) (past : List Happening) (request : Request) (t t2 : Trace) (s next : LineState) (done : List Happening) → Passed number request t t2 s next done → AreAway past t s → AreAway (past ++ (done ++ standings_told s next)) t2 next
away_then number past request t t2 s next done p away id far = by (home_after id told true) refl where
  told : List Happening
  told = done ++ standings_told s next

  by : (home : Bool) → home_after id told true ≡ home → IsAway t2 next id
  by false lost = (let went : WentAway id told = home_lost id told lost in went_away went.gives went.told_is p)
  by true kept =
      let own : home_after id told (is_home id past) ≡ false = sym (home_append id past told false) ∙ far in
      let before : is_home id past ≡ false = home_before id told (is_home id past) kept own in
      still_away number request t t2 s next done id p (away id before) (home_far id told (sym (ap (home_after id told) before) ∙ own) kept)
