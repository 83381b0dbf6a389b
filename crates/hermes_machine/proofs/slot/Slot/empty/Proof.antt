-- `empty` makes a null pointer.
use Rattle.std.proofs.Common.{◌≡◌, List, [], ◌∷◌, refl, lit<}
use Rattle.std.proofs.raw_atomic.Walks.{proved}
use mir.Val.{Val, vint, vstruct, vcons, vnil}
use mir.Syntax.{w64}
use base.Fml.{ftrue}
use types.Kit.{‵, raw, ◌$◌, ◌∵◌, !, qed, suffices, fjoin, fpack, feq_i, move, drop, join, done, group, frame}
use types.Run.{of_opd, lit, no_more, and_then, returns, enter}
use types.ByLocal.{alloc_all, pass_all, free_all, look_at, sets}
use types.Part.{agg}
use contract.Running.{tables}
use denote.RattleType.{Valss}
use denote.Builtin.{RawPtr}
use denote.RawPtr.{null_ptr}
use denote.Steps.{nothing}
use denote.Struct.Struct.{within}
use denote.Struct.Owning.{shape}
use denote.Triple.Entry.{on_entry}
use denote.Triple.Walked.{walk_of, ends_at, says}
use Rattle.std.specs.Prelude.{Option, Some, None}
use Rattle.hermes_machine.specs.contracts.slot.Slot as slot
use Rattle.hermes_machine.specs.contracts.slot.Slot.empty as f
use Rattle.hermes_machine.proofs.slot.Slot.empty.Statement.{statement}
use Rattle.hermes_machine.proofs.slot.Slot.empty.Code as code

pub empty_spec : {M : Type 1} → statement M
empty_spec 𝓤 𝓛 𝓜 𝓡 wired =
    let c = f.clauses 𝓛 𝓜.mem 𝓡.returns in let W = walk_of 𝓛 f.ended tt c in let 𝓣 = tables 𝓤 𝓛.H 𝓜 𝓡 𝓡.env in
    proved 𝓛 f.ended tt c 𝓜 𝓡 tt
    f.Key.name code.function (code.unfolded 𝓤 𝓛.H 𝓜 𝓡 wired)
    (λ κs. tt) (λ κs. tt) (λ κs qs bounds a n are.
    let y : W.Ghost = ((κs, qs, bounds, a, tt), tt) in
    let v : Val = vstruct (vcons (vint w64 0) vnil) in
    qed 𝓛 (raw (on_entry 𝓛 f.signature κs qs a tt) ∷ ‵ ftrue ∷ []) ∵
    drop ! $ drop ! $ enter ! _ _ _ _ _ $ alloc_all ! (λ l. pass_all ! refl tt $
    sets ! (agg ! (and_then ! (lit ! tt) (no_more !))) refl (tt, (record { fits = lit< tt }, tt)) $
    nothing ! $ nothing ! $ feq_i ! (List Val) (vint w64 0 ∷ []) (vint w64 0 ∷ []) refl $ fjoin ! $
    feq_i ! (List Val) (v ∷ []) (v ∷ []) refl $ fjoin ! $
    fpack ! (Valss (RawPtr ∷ [])) (within (shape slot.the_type) (null_ptr, tt) (v ∷ [])) (vint w64 0 ∷ [], tt) $ fjoin ! $
    returns ! (look_at ! 0 refl) $ free_all ! refl $
    suffices ! _ (ends_at 𝓛 f.ended tt c y v (record { at = null_ptr; held = None }) tt tt) $ says ! refl $
    nothing ! $ nothing ! $ done !))
