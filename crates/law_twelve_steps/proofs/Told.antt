-- What is told where a machine's step, or a move, is done: that something was done, and nothing that was not so.
use Rattle.std.proofs.Common.{◌≡◌, ◌++◌, ◌||◌, ℕ, Bool, true, false, List, [], ◌∷◌, Option, Some, None, refl}
use Rattle.std.specs.List.{AllByRecursion, flat_map}
use Rattle.line_base.specs.declared.states.Side.{Side}
use Rattle.hermes_horizontal.specs.Canonical.{canonical}
use Rattle.hermes_horizontal.specs.declared.message.Message.{Message}
use Rattle.line_link.specs.Link.{answer_sent, sent_of}
use Rattle.line_link.specs.declared.link.Sent.{Sent}
use Rattle.line_link.specs.declared.link.Sent.TheVariants as sent
use Rattle.line_report.specs.declared.happening.Happening.{Happening}
use Rattle.line_report.specs.declared.happening.Happening.TheVariants as happenings
use Rattle.line_step.specs.Acts.{act_did, acts_did, answers, cut_told, sent_by}
use Rattle.line_step.specs.Lies.{is_lie, tells_lie}
use Rattle.line_step.specs.Shown.{ascending, ids_marked, standing_told, standings_told}
use Rattle.line_step.specs.State.{LineState, marks_in}
use Rattle.line_step.specs.World.{WorldParts, end_of, link_at, link_of}
use Rattle.node_core.specs.declared.act.Act.{Act}
use Rattle.node_core.specs.declared.act.Act.TheVariants as acts
use Rattle.standings.specs.Told.{told_of}
use Rattle.standings.specs.declared.told.Told.{Told}
use Rattle.standings.specs.declared.told.Told.TheVariants as tolds
use Rattle.law_twelve_steps.specs.Undisturbed.{is_no, tells_no}

-- no reason stood against it, and it is true
abbrev pub IsDone : Happening → Type 0
IsDone (happenings.No reason) = ⊥
IsDone (happenings.Lie machine sensed) = ⊥
IsDone (happenings.Unseen machine side) = ⊥
IsDone _ = Unit {0}

abbrev pub AreDone : List Happening → Type 0
AreDone told = AllByRecursion IsDone told

pub record IsCalm (told : List Happening) : Type 0 where
  pub no : tells_no told ≡ false
  pub lie : tells_lie told ≡ false

pub neither : (a b : Bool) → a ≡ false → b ≡ false → (a || b) ≡ false
neither false b is also = also
neither true b is also = absurd cc

done_no : (h : Happening) → IsDone h → is_no h ≡ false
done_no (happenings.No reason) is = absurd is
done_no _ is = refl

done_lie : (h : Happening) → IsDone h → is_lie h ≡ false
done_lie (happenings.Lie machine sensed) is = absurd is
done_lie (happenings.Unseen machine side) is = absurd is
done_lie _ is = refl

pub done_calm : (told : List Happening) → AreDone told → IsCalm told
done_calm [] all = record { no = refl; lie = refl }
done_calm (h ∷ told) all =
    let others = done_calm told all.1 in
    record { no = neither (is_no h) (tells_no told) (done_no h all.0) others.no; lie = neither (is_lie h) (tells_lie told) (done_lie h all.0) others.lie }

pub done_join : (a b : List Happening) → AreDone a → AreDone b → AreDone (a ++ b)
done_join [] b one two = two
done_join (h ∷ a) b one two = (one.0, done_join a b one.1 two)

-- ---- the acts of a step

cut_done : (link : ℕ) (on : Sent) → AreDone (cut_told link on)
cut_done link sent.Cuts = (tt, tt)
cut_done link sent.Flows = tt
cut_done link sent.Vanishes = tt

sent_done : (second : Bool) (machine : ℕ) (side : Side) (message : Message) (world : WorldParts) → AreDone (sent_by second machine side message world).told
sent_done true machine side message world = (tt, cut_done machine (answer_sent (canonical message) (link_at machine world)))
sent_done false machine side message world = (tt, cut_done (link_of machine side) (sent_of (end_of side) (canonical message) (link_at (link_of machine side) world)))

act_done : (second : Bool) (machine : ℕ) (act : Act) (world : WorldParts) → AreDone (act_did second machine act world).told
act_done second machine (acts.Sends side message) world = sent_done (answers second side message) machine side message world
act_done second machine (acts.Drive side on) world = tt
act_done second machine act world = (tt, tt)

pub acts_done : (second : Bool) (machine : ℕ) (told : List Act) (world : WorldParts) → AreDone (acts_did second machine told world).told
acts_done second machine [] world = tt
acts_done second machine (act ∷ others) world =
    let one = act_did second machine act world in
    done_join one.told (acts_did second machine others one.world).told (act_done second machine act world) (acts_done second machine others one.world)

-- ---- the standings that changed

standing_done : (id : ℕ) (told : Option Told) → AreDone (standing_told id told)
standing_done id None = tt
standing_done id (Some (tolds.With machine)) = (tt, tt)
standing_done id (Some (tolds.Between gap)) = (tt, tt)
standing_done id (Some tolds.Gone) = (tt, tt)

flat_done : (f : ℕ → List Happening) (ids : List ℕ) → ((id : ℕ) → AreDone (f id)) → AreDone (flat_map f ids)
flat_done f [] every = tt
flat_done f (id ∷ ids) every = done_join (f id) (flat_map f ids) (every id) (flat_done f ids every)

pub standings_done : (before next : LineState) → AreDone (standings_told before next)
standings_done before next =
    flat_done (λ id. standing_told id (told_of (marks_in before id) (marks_in next id))) (ascending (ids_marked before ++ ids_marked next))
    (λ id. standing_done id (told_of (marks_in before id) (marks_in next id)))
