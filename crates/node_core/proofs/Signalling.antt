-- A bridge's own signals: what holds of acts holds with them behind.
use Rattle.std.proofs.Common.{◌≡◌, ◌∙◌, ◌++◌, Bool, List, [], ◌∷◌, Option, Some, None, refl, sym, ap, append_assoc, append-nil}
use Rattle.smema_bridge.specs.declared.edges.BridgeEdges.{BridgeEdges}
use Rattle.smema_bridge.specs.Levels.{BridgeLevels, OwnLevels}
use Rattle.smema_bridge.specs.Signals.{bridge_edges, signals_of}
use Rattle.node_core.specs.declared.act.Act.{Act}
use Rattle.node_core.specs.declared.act.Act.TheVariants as acts
use Rattle.node_core.specs.declared.act.Signal.{Signal}
use Rattle.node_core.specs.declared.act.Signal.TheVariants as signals
use Rattle.node_core.specs.declared.input.Input.{Input}
use Rattle.node_core.specs.declared.input.Input.TheVariants as inputs
use Rattle.node_core.specs.declared.lane.Body.{Body}
use Rattle.node_core.specs.Signals.{quality_taken, moves_out, signal_told, edges_told, signalled, after_level, levels_told}
use Rattle.node_core.specs.Own.{Own, own_after}
use Rattle.node_core.proofs.Keeping.{own_append}

-- ---- what holds of each signal, and of acts behind acts, holds of all that a bridge tells of its signals

told_all : (P : List Act → Type 0) → P [] → ((signal : Signal) (on : Bool) → P (acts.Signals signal on ∷ [])) → (signal : Signal) (edge : Option Bool) → P (signal_told signal edge)
told_all P none one signal None = none
told_all P none one signal (Some on) = one signal on

edges_all : (P : List Act → Type 0) → P [] → ((signal : Signal) (on : Bool) → P (acts.Signals signal on ∷ [])) → ((first rest : List Act) → P first → P rest → P (first ++ rest)) → (edges : BridgeEdges) → P (edges_told edges)
edges_all P none one both edges =
    let entry = signal_told signals.EntryFailed edges.failed in
    let exit = signal_told signals.ExitReady edges.ready in
    both (signal_told signals.EntryAvailable edges.available) (entry ++ exit) (told_all P none one signals.EntryAvailable edges.available)
    (both entry exit (told_all P none one signals.EntryFailed edges.failed) (told_all P none one signals.ExitReady edges.ready))

pub signals_all : (P : List Act → Type 0) → P [] → ((signal : Signal) (on : Bool) → P (acts.Signals signal on ∷ [])) → ((first rest : List Act) → P first → P rest → P (first ++ rest)) → (bridge : Option BridgeLevels) (body : Body) → P (signalled bridge body)
signals_all P none one both None body = none
signals_all P none one both (Some before) body = edges_all P none one both (bridge_edges before.own (signals_of (quality_taken body.intake.phase) (moves_out body)))

-- what doesn't look at signals is of some acts what it is with a bridge's signals behind them
pub signals_pass : {X : Type 0} → (f : List Act → X) → ((front : List Act) (signal : Signal) (on : Bool) → f (front ++ acts.Signals signal on ∷ []) ≡ f front) → (made : List Act) (bridge : Option BridgeLevels) (body : Body) → f (made ++ signalled bridge body) ≡ f made
signals_pass f one made bridge body =
    signals_all (λ told. (front : List Act) → f (front ++ told) ≡ f front)
    (λ front. ap f (append-nil front))
    (λ signal on front. one front signal on)
    (λ first rest of_first of_rest front. ap f (sym (append_assoc front first rest)) ∙ of_rest (front ++ first) ∙ of_first front)
    bridge body made

-- they are no deeds
pub signals_silent : (bridge : Option BridgeLevels) (body : Body) (own : Own) → own_after own (signalled bridge body) ≡ own
signals_silent bridge body =
    signals_all (λ told. (own : Own) → own_after own told ≡ own)
    (λ own. refl)
    (λ signal on own. refl)
    (λ first rest of_first of_rest own. own_append own first rest ∙ ap (λ (o : Own). own_after o rest) (of_first own) ∙ of_rest own)
    bridge body

-- ---- a level of the segment leaves the own signals

told_own : (input : Input) (before : BridgeLevels) → (after_level input before).own ≡ before.own
told_own (inputs.Level line on) before = refl
told_own input before = refl

pub told_signals : (input : Input) (bridge : Option BridgeLevels) (body : Body) → signalled (levels_told input bridge) body ≡ signalled bridge body
told_signals input None body = refl
told_signals input (Some before) body = ap (λ (own : OwnLevels). edges_told (bridge_edges own (signals_of (quality_taken body.intake.phase) (moves_out body)))) (told_own input before)
