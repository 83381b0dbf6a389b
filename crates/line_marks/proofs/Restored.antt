-- Which machines a line of a script changes: with what those that it may step had put back, the line is as it was.
use Rattle.std.proofs.Common.{Bool, true, false, subst, ◌≡◌, ◌∙◌, ◌+◌, ◌-◌, ◌⊎◌, ℕ, zero, suc, List, [], ◌∷◌, inl, inr, drop, take, refl, sym, ap, arith, lt-ltb}
use Rattle.std.specs.Prelude.{map, nat_lt, slice_set}
use Rattle.std.proofs.Math.Numerals.{sub-one}
use Rattle.line_script.specs.declared.line.ScriptLine.{ScriptLine}
use Rattle.line_script.specs.declared.line.ScriptLine.TheVariants as lines
use Rattle.node_core.specs.declared.input.Input.{Input}
use Rattle.node_core.specs.declared.input.Input.TheVariants as inputs
use Rattle.node_core.specs.Node.{NodeState}
use Rattle.standings.specs.Marks.{Owned}
use Rattle.line_step.specs.State.{LineState, owned, owned_by}
use Rattle.line_step.specs.Steps.{MachineSteps}
use Rattle.line_step.specs.Named.{ids_named}
use Rattle.line_step.specs.Lines.{Connects, LineDoes, arrived, connecting}
use Rattle.line_step.proofs.Ascending.{choose_true}
use Rattle.line_report.specs.declared.happening.Happening.{Happening}
use Rattle.line_marks.specs.Stepped.{first_stepped, last_stepped, owned_between}
use Rattle.line_step.specs.Requests.{Request, added_told, request_of}
use Rattle.line_step.proofs.Turns.{LineTurns, line_turns}
use Rattle.line_step.specs.Requests as requests
use Rattle.line_step.proofs.Turns as turns

-- ---- what machines had, put back

-- a line in which the machines from this number on have this, and the others what they have
abbrev pub owned_over : List Owned → List Owned → List Owned
owned_over [] line = line
owned_over (_ ∷ _) [] = []
owned_over (owned ∷ more) (_ ∷ line) = owned ∷ owned_over more line

abbrev pub owned_with : ℕ → List Owned → List Owned → List Owned
owned_with zero owned line = line
owned_with (suc zero) owned line = owned_over owned line
owned_with (suc (suc before)) owned [] = []
owned_with (suc (suc before)) owned (mine ∷ line) = mine ∷ owned_with (suc before) owned line

over_same : (count : ℕ) (line : List Owned) → owned_over (take count line) line ≡ line
over_same zero line = refl
over_same (suc count) [] = refl
over_same (suc count) (own ∷ line) = ap (λ (owns : List Owned). own ∷ owns) (over_same count line)

with_same : (place count : ℕ) (line : List Owned) → owned_with (suc place) (take count (drop place line)) line ≡ line
with_same zero count line = over_same count line
with_same (suc place) count [] = refl
with_same (suc place) count (own ∷ line) = ap (λ (owns : List Owned). own ∷ owns) (with_same place count line)

pub between_is : (place last count : ℕ) (line : List Owned) → (last + 1) - suc place ≡ count → owned_between (suc place) last line ≡ take count (drop place line)
between_is place last count line is =
    choose_true (nat_lt 0 (suc place)) (take ((last + 1) - suc place) (drop (suc place - 1) line)) [] (lt-ltb 0 (suc place) (omega arith))
    ∙ ap (λ (n : ℕ). take n (drop (suc place - 1) line)) is
    ∙ ap (λ (n : ℕ). take count (drop n line)) (sub-one (suc place))

-- a line that is as it was
restored_none : (first last : ℕ) (line : List Owned) → owned_with first (owned_between first last line) line ≡ line
restored_none zero last line = refl
restored_none (suc place) last line = ap (λ (owns : List Owned). owned_with (suc place) owns line) (between_is place last ((last + 1) - suc place) line refl) ∙ with_same place ((last + 1) - suc place) line

-- one machine is another
one_back : (place : ℕ) (nodes : List NodeState) (next : NodeState) → owned_with (suc place) (take 1 (drop place (map owned_by nodes))) (map owned_by (slice_set nodes place next)) ≡ map owned_by nodes
one_back zero [] next = refl
one_back zero (node ∷ nodes) next = refl
one_back (suc place) [] next = refl
one_back (suc place) (node ∷ nodes) next = ap (λ (owns : List Owned). owned_by node ∷ owns) (one_back place nodes next)

-- two neighbours are others
two_back : (place : ℕ) (nodes : List NodeState) (upper lower : NodeState) → owned_with (suc place) (take 2 (drop place (map owned_by nodes))) (map owned_by (slice_set (slice_set nodes (suc place) lower) place upper)) ≡ map owned_by nodes
two_back zero [] upper lower = refl
two_back zero (node ∷ []) upper lower = refl
two_back zero (node ∷ second ∷ nodes) upper lower = refl
two_back (suc place) [] upper lower = refl
two_back (suc place) (node ∷ nodes) upper lower = ap (λ (owns : List Owned). owned_by node ∷ owns) (two_back place nodes upper lower)

-- ---- lines of the script

-- what was remembered, put back, is what the machines had
abbrev pub Restores : ℕ → ℕ → LineState → LineState → Type 0
Restores first last before after = owned_with first (owned_between first last (owned before)) (owned after) ≡ owned before

-- the machines after a step
pub stepped : (number place machine : ℕ) (input : Input) (before after : LineState) (told : List Happening) → machine ≡ suc place → (m : MachineSteps number machine input before after told) → after.machines ≡ slice_set before.machines place m.next
stepped number place machine input before after told is m =
    ap (λ (s : LineState). s.machines) m.after_is
    ∙ ap (λ (n : ℕ). slice_set before.machines (n - 1) m.next) is
    ∙ ap (λ (n : ℕ). slice_set before.machines n m.next) (sub-one (suc place))

pub one_step : (number machine : ℕ) (input : Input) (before start after : LineState) (told : List Happening) → start.machines ≡ before.machines → MachineSteps number machine input start after told → Restores machine machine before after
one_step number zero input before start after told same m = let none = m.there in cc
one_step number (suc place) input before start after told same m =
    ap (λ (owns : List Owned). owned_with (suc place) owns (owned after)) (between_is place (suc place) 1 (owned before) (omega arith))
    ∙ ap (λ (nodes : List NodeState). owned_with (suc place) (take 1 (drop place (owned before))) (map owned_by nodes)) (stepped number place (suc place) input start after told refl m ∙ ap (λ (nodes : List NodeState). slice_set nodes place m.next) same)
    ∙ one_back place before.machines m.next

two_steps : (number place upper : ℕ) (one other : Input) (before start between after : LineState) (earlier later : List Happening) → upper ≡ place → start.machines ≡ before.machines
    → MachineSteps number (suc place) one start between earlier → MachineSteps number upper other between after later → Restores upper (suc place) before after
two_steps number place zero one other before start between after earlier later is same a b = let none = b.there in cc
two_steps number place (suc above) one other before start between after earlier later is same a b =
    let lower = stepped number place (suc place) one start between earlier refl a ∙ ap (λ (nodes : List NodeState). slice_set nodes place a.next) same ∙ ap (λ (n : ℕ). slice_set before.machines n a.next) (sym is) in
    ap (λ (owns : List Owned). owned_with (suc above) owns (owned after)) (between_is above (suc place) 2 (owned before) (omega (arith, is)))
    ∙ ap (λ (nodes : List NodeState). owned_with (suc above) (take 2 (drop above (owned before))) (map owned_by nodes)) (stepped number above (suc above) other between after later refl b ∙ ap (λ (nodes : List NodeState). slice_set nodes above b.next) lower)
    ∙ two_back above before.machines b.next a.next

connects : (number machine : ℕ) (before after : LineState) (told : List Happening) → Connects number machine before after told → Restores (machine - 1) machine before after
connects number zero before after told t = let none = t.first.there in cc
connects number (suc place) before after told t = two_steps number place (suc place - 1) inputs.Connect _ before (connecting (suc place) before) t.between after t.earlier t.later (sub-one (suc place)) refl t.first t.second

added_none : (is_bridge : Bool) (capacity : ℕ) (s : LineState) → ids_named (added_told is_bridge capacity s) ≡ []
added_none true capacity s = refl
added_none false capacity s = refl

-- the machines that a request may step
abbrev pub last_asked : Request → ℕ
last_asked (requests.gives machine input) = machine
last_asked (requests.connects machine) = machine
last_asked (requests.flows machine side count) = machine
last_asked _ = 0

abbrev pub first_asked : Request → ℕ
first_asked (requests.connects machine) = machine - 1
first_asked request = last_asked request

pub first_is : (line : ScriptLine) → first_asked (request_of line) ≡ first_stepped line
first_is lines.Blank = refl
first_is _ = refl

pub last_is : (line : ScriptLine) → last_asked (request_of line) ≡ last_stepped line
last_is lines.Blank = refl
last_is _ = refl

turn_restores : (number : ℕ) (request : Request) (before after : LineState) (told : List Happening) → LineTurns number before after told request → Restores (first_asked request) (last_asked request) before after ⊎ (ids_named told ≡ [])
turn_restores number request before after told (turns.stays _ same none) =
    inl (ap (λ (line : List Owned). owned_with (first_asked request) (owned_between (first_asked request) (last_asked request) (owned before)) line) (ap (map owned_by) same) ∙ restored_none (first_asked request) (last_asked request) (owned before))
turn_restores number request before after told (turns.adds lane is_bridge capacity used may b) = inr (ap ids_named b.told_is ∙ added_none is_bridge capacity before)
turn_restores number request before after told (turns.steps machine input given may did) = inl (one_step number machine input before before after told refl did)
turn_restores number request before after told (turns.connects machine may did) = inl (connects number machine before after told did)
turn_restores number request before after told (turns.flows machine side count may did) = inl (one_step number machine _ before (arrived machine side count before) after told refl did.steps)

-- what the line of a new machine tells names no id; all others restore what was
pub restores : (number : ℕ) (line : ScriptLine) (before after : LineState) (told : List Happening) → LineDoes number (request_of line) before after told → Restores (first_stepped line) (last_stepped line) before after ⊎ (ids_named told ≡ [])
restores number line before after told does =
    subst (λ (first : ℕ). Restores first (last_stepped line) before after ⊎ (ids_named told ≡ [])) (first_is line)
    (subst (λ (last : ℕ). Restores (first_asked (request_of line)) last before after ⊎ (ids_named told ≡ [])) (last_is line)
    (turn_restores number (request_of line) before after told (line_turns number (request_of line) before after told does)))
