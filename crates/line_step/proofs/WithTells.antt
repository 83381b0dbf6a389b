-- What a machine tells its supervisor behind the acts of a step changes nothing of the world, and
-- what is told of it stands behind what is told of the acts that are the cause.
use Rattle.std.proofs.Common.{
  ◌≡◌,
  ◌∙◌,
  ◌++◌,
  ◌&&◌,
  List,
  [],
  ◌∷◌,
  refl,
  sym,
  ap,
  append_assoc,
}
use Rattle.std.specs.List.{flat_map}
use Rattle.hermes_vertical.specs.declared.message.VerticalMessage.{VerticalMessage}
use Rattle.node_core.specs.declared.act.Act.{Act}
use Rattle.node_core.specs.declared.act.Act.TheVariants as acts
use Rattle.node_core.specs.declared.supervising.Watch.{Watch}
use Rattle.node_core.specs.Desk.{Desk}
use Rattle.node_core.specs.Supervising.{
  tells_behind,
  watch_after,
  watch_behind,
  with_tells,
}
use Rattle.node_core.proofs.Telling.{tells_pass}
use Rattle.line_report.specs.declared.happening.Happening.TheVariants as happenings

-- ---- acts behind acts

pub tells_append : (desk : Desk) (watch : Watch) (first last : List Act)
    → with_tells desk watch (first ++ last)
    ≡ with_tells desk watch first ++ with_tells desk (watch_behind watch first) last
tells_append desk watch [] last = refl
tells_append desk watch (act ∷ others) last =
    let next = watch_after watch act in
    ap (λ (xs : List Act). act ∷ (tells_behind desk watch act ++ xs))
    (tells_append desk next others last)
    ∙ ap (λ (xs : List Act). act ∷ xs)
    (sym (append_assoc (tells_behind desk watch act) (with_tells desk next others)
    (with_tells desk (watch_behind next others) last)))

-- ---- folds of acts by one function

-- a list that no message to the supervisor is in
pub flat_with_tells : {X : Type 0} (f : Act → List X)
    → ((message : VerticalMessage) → f (acts.Tells message) ≡ [])
    → (desk : Desk) (watch : Watch) (made : List Act)
    → flat_map f (with_tells desk watch made) ≡ flat_map f made
flat_with_tells {X = X} f none desk watch made =
    tells_pass (flat_map f) (λ act told plain same. ap (λ (rest : List X). f act ++ rest) same)
    (λ message told. ap (λ (first : List X). first ++ flat_map f told) (none message))
    desk watch made
