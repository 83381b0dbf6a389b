-- What a step leaves in a port, from what the calls of it say.
use Rattle.std.proofs.Common.{◌≡◌, ◌∙◌, [], ◌∷◌, ℕ, ℤ, List, Bool, true, false, Option, None, Some, refl, ap, sym, subst}
use Rattle.line_base.specs.declared.states.Side.{Side}
use Rattle.line_base.specs.declared.states.Side.TheVariants.{Entry, Exit}
use Rattle.board_record.specs.declared.sensed.Sensed.{Sensed}
use Rattle.node_core.specs.Bounds.{IsBounded}
use Rattle.node_core.specs.Breaking.{IsBrokenOff}
use Rattle.node_core.specs.Bridge.{IsWilling}
use Rattle.node_core.specs.Node.{NodeState}
use Rattle.node_core.specs.Own.{own_after, own_of}
use Rattle.node_core.specs.Step.{Steps}
use Rattle.node_core.specs.declared.act.Act.{Act}
use Rattle.node_core.specs.declared.input.Input.{Input}
use Rattle.machine_port.specs.Levels.{levels_after}
use Rattle.machine_port.specs.Port.{HasStepped, PortState, closed_by, dropped, is_second, made_after, one_step_more, routed, stepped}
use Rattle.machine_port.specs.declared.levels.Levels.{Levels}

-- while a step is made the port is spent, and its id is counted; its machine is another behind it
abbrev pub during : Option Side → ℕ → NodeState → PortState → PortState
during closed made node s = record (dropped closed (record s { spent = true; made = made })) { node = node }

-- and at its end
abbrev pub ended : List Act → ℕ → PortState → PortState
ended acts count r = record r { spent = false; levels = levels_after r.levels acts; last = acts; steps = count }

pub ended_is : (closed : Option Side) (second : Bool) (acts : List Act) (made count : ℕ) (node : NodeState) (s : PortState)
    → ended acts count (routed second acts (during closed made node s))
    ≡ record (routed second acts (dropped closed s)) {
      spent = false;
      made = made;
      steps = count;
      node = node;
      levels = levels_after s.levels acts;
      last = acts;
    }
ended_is None true [] made count node s = refl
ended_is None true (act ∷ acts) made count node s = refl
ended_is None false acts made count node s = refl
ended_is (Some Entry) true [] made count node s = refl
ended_is (Some Entry) true (act ∷ acts) made count node s = refl
ended_is (Some Entry) false acts made count node s = refl
ended_is (Some Exit) true [] made count node s = refl
ended_is (Some Exit) true (act ∷ acts) made count node s = refl
ended_is (Some Exit) false acts made count node s = refl

pub node_stays : (closed : Option Side) (second : Bool) (acts : List Act) (made : ℕ) (node : NodeState) (s : PortState)
    → (routed second acts (during closed made node s)).node ≡ node
node_stays None true [] made node s = refl
node_stays None true (act ∷ acts) made node s = refl
node_stays None false acts made node s = refl
node_stays (Some Entry) true [] made node s = refl
node_stays (Some Entry) true (act ∷ acts) made node s = refl
node_stays (Some Entry) false acts made node s = refl
node_stays (Some Exit) true [] made node s = refl
node_stays (Some Exit) true (act ∷ acts) made node s = refl
node_stays (Some Exit) false acts made node s = refl

dropped_node : (closed : Option Side) (made : ℕ) (s : PortState)
    → (dropped closed (record s { spent = true; made = made })).node ≡ s.node
dropped_node None made s = refl
dropped_node (Some Entry) made s = refl
dropped_node (Some Exit) made s = refl

-- the machine's step between the calls that drop, route and set levels
pub whole_step : (sensed : List Sensed) (input : Input) (moment : ℤ) (second : Bool) (listed obeyed acts : List Act)
    (levels : Levels) (made count : ℕ) (s d r : PortState) (node : NodeState)
    → made ≡ made_after input s.made → count ≡ one_step_more s.steps
    → second ≡ is_second input → d ≡ dropped (closed_by input) (record s { spent = true; made = made })
    → r ≡ routed second listed (record d { node = node }) → listed ≡ acts
    → levels ≡ levels_after r.levels obeyed → obeyed ≡ acts
    → Steps d.node sensed input moment node acts → IsBrokenOff d.node sensed input moment node acts
    → IsBounded node → IsWilling node.bridge node.lane.body
    → own_of node.lane.body ≡ own_after (own_of d.node.lane.body) acts
    → HasStepped sensed input moment s (record r { spent = false; levels = levels; last = acts; steps = count })
whole_step sensed input moment second listed obeyed acts levels made count s d r node counts counted is_it drops routes same sets same_set steps wrong bounded willing own =
    let r_is : r ≡ routed (is_second input) acts (during (closed_by input) made node s) =
    routes
    ∙ ap (λ (b : Bool). routed b listed (record d { node = node })) is_it
    ∙ ap (λ (l : List Act). routed (is_second input) l (record d { node = node })) same
    ∙ ap (λ (x : PortState). routed (is_second input) acts (record x { node = node })) drops in
    let node_is : r.node ≡ node = ap (λ (x : PortState). x.node) r_is ∙ node_stays (closed_by input) (is_second input) acts made node s in
    let from : d.node ≡ s.node = ap (λ (x : PortState). x.node) drops ∙ dropped_node (closed_by input) made s in
    let levels_is : levels ≡ levels_after r.levels acts = sets ∙ ap (levels_after r.levels) same_set in
    let end_is : record r { spent = false; levels = levels; last = acts; steps = count } ≡ ended acts count (routed (is_second input) acts (during (closed_by input) made node s)) =
    ap (λ (v : Levels). record r { spent = false; levels = v; last = acts; steps = count }) levels_is
    ∙ ap (ended acts count) r_is in
    record {
      step = subst (λ (n : NodeState). Steps s.node sensed input moment n acts) (sym node_is)
          (subst (λ (n : NodeState). Steps n sensed input moment node acts) from steps);
      wrong = subst (λ (n : NodeState). IsBrokenOff s.node sensed input moment n acts) (sym node_is)
          (subst (λ (n : NodeState). IsBrokenOff n sensed input moment node acts) from wrong);
      bounded = subst IsBounded (sym node_is) bounded;
      willing = subst (λ (n : NodeState). IsWilling n.bridge n.lane.body) (sym node_is) willing;
      own = subst (λ (n : NodeState). own_of n.lane.body ≡ own_after (own_of s.node.lane.body) acts) (sym node_is)
          (subst (λ (n : NodeState). own_of node.lane.body ≡ own_after (own_of n.lane.body) acts) from own);
      after =
          end_is
          ∙ ended_is (closed_by input) (is_second input) acts made count node s
          ∙ ap (λ (m : ℕ). record (stepped input node acts s) { made = m; steps = count }) counts
          ∙ ap (λ (m : ℕ). record (stepped input node acts s) { steps = m }) counted
          ∙ ap (λ (n : NodeState). stepped input n acts s) (sym node_is);
    }

-- a value and what it was made of
pub of_same : (sensed : List Sensed) (input : Input) (moment : ℤ) (s was t : PortState) → s ≡ was
    → HasStepped sensed input moment s t → HasStepped sensed input moment was t
of_same sensed input moment s was t same stepped = subst (λ (x : PortState). HasStepped sensed input moment x t) same stepped
