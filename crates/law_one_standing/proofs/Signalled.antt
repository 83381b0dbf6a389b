-- A bridge's own signals, behind the acts of a step: what looks for messages, deeds or breaches passes over them.
use Rattle.std.proofs.Common.{Bool, List, [], Option, ap, arith, refl, true, ℕ, ◌++◌, ◌&&◌, ◌+◌, ◌∙◌, ◌∷◌, ◌≡◌}
use Rattle.line_base.specs.declared.states.Side.{Side}
use Rattle.smema_bridge.specs.Levels.{BridgeLevels}
use Rattle.node_core.specs.Signals.{signalled}
use Rattle.node_core.specs.declared.act.Act.{Act}
use Rattle.node_core.specs.declared.act.Act.TheVariants as acts
use Rattle.node_core.specs.declared.lane.Body.{Body}
use Rattle.node_core.proofs.Signalling.{signals_all, signals_pass}
use Rattle.law_machine_custody.specs.Joined.{all_met_second}
use Rattle.law_machine_custody.specs.Scene.{Scene, all_met}
use Rattle.law_machine_custody.proofs.Answering.{IsNoAnswer, second_append}
use Rattle.law_machine_custody.proofs.Goes.{met_append}
use Rattle.law_machine_custody.proofs.Quiet.{AllActs, acts_more, acts_none, all_append}
use Rattle.law_one_standing.proofs.CarryingSides.{heard_in}
use Rattle.law_one_standing.proofs.CountingQuiet.{heard_append}
use Rattle.law_one_standing.proofs.FactsBlame.{Leave, are_mild, is_mild}
use Rattle.law_one_standing.proofs.LedgerWalk.{are_silent, both_silent}

no_more : (n : ℕ) → n + 0 ≡ n
no_more n = omega arith

-- they hear nothing
pub signals_unheard : (side : Side) (made : List Act) (bridge : Option BridgeLevels) (body : Body) → heard_in side (made ++ signalled bridge body) ≡ heard_in side made
signals_unheard side made bridge body =
    signals_pass (heard_in side) (λ front signal on. heard_append side front (acts.Signals signal on ∷ []) ∙ no_more (heard_in side front)) made bridge body

-- they breach nothing
mild_last : (may : Leave) (front : List Act) (act : Act) → is_mild may act ≡ true → are_mild may (front ++ act ∷ []) ≡ are_mild may front
mild_last may [] act is = rw is refl
mild_last may (one ∷ front) act is = ap (λ (rest : Bool). is_mild may one && rest) (mild_last may front act is)

pub signals_mild : (may : Leave) (made : List Act) (bridge : Option BridgeLevels) (body : Body) → are_mild may (made ++ signalled bridge body) ≡ are_mild may made
signals_mild may made bridge body = signals_pass (are_mild may) (λ front signal on. mild_last may front (acts.Signals signal on) refl) made bridge body

-- they are no business of what lies around a machine
pub signals_passed : (c : Scene) (made : List Act) (bridge : Option BridgeLevels) (body : Body) → all_met (made ++ signalled bridge body) c ≡ all_met made c
signals_passed c made bridge body = signals_pass (λ (told : List Act). all_met told c) (λ front signal on. met_append front (acts.Signals signal on ∷ []) c) made bridge body

pub signals_passed_second : (c : Scene) (made : List Act) (bridge : Option BridgeLevels) (body : Body) → all_met_second (made ++ signalled bridge body) c ≡ all_met_second made c
signals_passed_second c made bridge body =
    signals_pass (λ (told : List Act). all_met_second told c) (λ front signal on. second_append front (acts.Signals signal on ∷ []) c) made bridge body

-- they answer nobody
pub signals_no_answer : (bridge : Option BridgeLevels) (body : Body) → AllActs IsNoAnswer (signalled bridge body)
signals_no_answer bridge body = signals_all (λ (told : List Act). AllActs IsNoAnswer told) acts_none (λ signal on. acts_more tt acts_none) (λ first rest one other. all_append one other) bridge body

-- they move no record
pub signals_silent : (bridge : Option BridgeLevels) (body : Body) → are_silent (signalled bridge body) ≡ true
signals_silent bridge body = signals_all (λ (told : List Act). are_silent told ≡ true) refl (λ signal on. refl) both_silent bridge body
