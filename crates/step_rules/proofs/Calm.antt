-- ACTS THAT LEAVE A SIDE AS IT IS, and say a text there only where it has a connection.
use Rattle.std.proofs.Common.{Bool, List, None, Option, Some, [], ap, inl, inr, refl, subst, sym, ◌++◌, ◌∙◌, ◌∷◌, ◌≡◌, ◌⊎◌}
use Rattle.std.specs.Prelude.{slice_get}
use Rattle.line_base.specs.declared.states.Side.{Side}
use Rattle.line_base.specs.declared.states.Side.TheVariants.{Entry, Exit}
use Rattle.board_record.specs.declared.record.Record.{Record}
use Rattle.hermes_horizontal.specs.declared.message.Horizontal.{Horizontal}
use Rattle.smema_bridge.specs.Levels.{BridgeLevels}
use Rattle.handover_out.specs.declared.act.OutAct.{OutAct}
use Rattle.handover_out.specs.declared.act.OutDeed.{OutDeed}
use Rattle.handover_out.specs.declared.act.OutSend.{OutSend}
use Rattle.handover_out.specs.declared.act.OutSend.TheVariants as out_send
use Rattle.handover_in.specs.declared.act.InAct.{InAct}
use Rattle.handover_in.specs.declared.act.InDeed.{InDeed}
use Rattle.handover_in.specs.declared.act.InSend.{InSend}
use Rattle.node_core.specs.Desk.{Desk}
use Rattle.node_core.specs.Signals.{signalled}
use Rattle.node_core.specs.Supervising.{with_tells}
use Rattle.node_core.specs.Told.{
  drives,
  in_does,
  in_sends,
  in_told,
  offers,
  out_does,
  out_sends,
  out_told,
  sends,
}
use Rattle.node_core.specs.declared.act.Act.{Act}
use Rattle.node_core.specs.declared.lane.Body.{Body}
use Rattle.node_core.specs.declared.supervising.Watch.{Watch}
use Rattle.node_core.proofs.Signalling.{signals_all}
use Rattle.node_core.proofs.Telling.{beside}
use Rattle.step_rules.specs.Opened.{open_act, open_after}
use Rattle.step_rules.proofs.Quiet.{open_append}
use Rattle.step_rules.specs.Spoken.{AreSaidOpen, SaidAt}

pub record IsCalm (at : Side) (o : Bool) (told : List Act) : Type 0 where
  pub said : AreSaidOpen at o told
  pub same : open_after at o told ≡ o

pub said_both : (at : Side) (o : Bool) (a b : List Act) → AreSaidOpen at o a
    → AreSaidOpen at (open_after at o a) b → AreSaidOpen at o (a ++ b)
said_both at o [] b one two = two
said_both at o (act ∷ a) b one two = (one.0, said_both at (open_act at o act) a b one.1 two)

pub calm_none : (at : Side) (o : Bool) → IsCalm at o []
calm_none at o = record { said = tt; same = refl }

pub calm_both : {at : Side} {o : Bool} (a b : List Act) → IsCalm at o a → IsCalm at o b
    → IsCalm at o (a ++ b)
calm_both {at} {o} a b one two = record {
  said = said_both at o a b one.said
      (subst (λ (p : Bool). AreSaidOpen at p b) (sym one.same) two.said);
  same = open_append at o a b ∙ ap (λ (p : Bool). open_after at p b) one.same ∙ two.same;
}

pub calm_sends : (at side : Side) (o : Bool) (desk : Desk) (what : Horizontal) → SaidAt at side o
    → IsCalm at o (sends desk side what)
calm_sends at side o desk what said = record { said = (said, tt); same = refl }

calm_drives : (at side : Side) (o : Bool) (drive : Option Bool) → IsCalm at o (drives side drive)
calm_drives at side o None = calm_none at o
calm_drives at side o (Some on) = record { said = (tt, tt); same = refl }

-- ---- what the outlet tells: it says something where the exit has a connection, or nothing

calm_out_does : (at : Side) (o : Bool) (deed : Option OutDeed) → IsCalm at o (out_does deed)
calm_out_does at o None = calm_none at o
calm_out_does at o (Some deed) = record { said = (tt, tt); same = refl }

calm_offers : (at : Side) (o : Bool) (desk : Desk) (board : Option Record) → SaidAt at Exit o
    → IsCalm at o (offers desk board)
calm_offers at o desk None said = calm_none at o
calm_offers at o desk (Some board) said = record { said = (said, tt); same = refl }

calm_out_sends : (at : Side) (o : Bool) (desk : Desk) (kept : List Record) (send : Option OutSend)
    → (send ≡ None) ⊎ SaidAt at Exit o → IsCalm at o (out_sends desk kept send)
calm_out_sends at o desk kept None which = calm_none at o
calm_out_sends at o desk kept (Some send) (inl none) = absurd (cc)
calm_out_sends at o desk kept (Some out_send.BoardAvailable) (inr said) =
    calm_offers at o desk (slice_get kept 0) said
calm_out_sends at o desk kept (Some out_send.RevokeBoardAvailable) (inr said) =
    record { said = (said, tt); same = refl }
calm_out_sends at o desk kept (Some (out_send.Finished state id)) (inr said) =
    record { said = (said, tt); same = refl }

pub calm_out : (at : Side) (o : Bool) (desk : Desk) (kept : List Record) (act : OutAct)
    → (act.send ≡ None) ⊎ SaidAt at Exit o → IsCalm at o (out_told desk kept act)
calm_out at o desk kept act which =
    calm_both (out_does act.deed) (out_sends desk kept act.send ++ drives Exit act.drive)
    (calm_out_does at o act.deed)
    (calm_both (out_sends desk kept act.send) (drives Exit act.drive)
    (calm_out_sends at o desk kept act.send which) (calm_drives at Exit o act.drive))

-- ---- and what the intake tells

calm_in_does : (at : Side) (o : Bool) (deed : Option InDeed) → IsCalm at o (in_does deed)
calm_in_does at o None = calm_none at o
calm_in_does at o (Some deed) = record { said = (tt, tt); same = refl }

calm_in_sends : (at : Side) (o : Bool) (desk : Desk) (send : Option InSend)
    → (send ≡ None) ⊎ SaidAt at Entry o → IsCalm at o (in_sends desk send)
calm_in_sends at o desk None which = calm_none at o
calm_in_sends at o desk (Some send) (inl none) = absurd (cc)
calm_in_sends at o desk (Some send) (inr said) = record { said = (said, tt); same = refl }

pub calm_in : (at : Side) (o : Bool) (desk : Desk) (act : InAct)
    → (act.send ≡ None) ⊎ SaidAt at Entry o → IsCalm at o (in_told desk act)
calm_in at o desk act which =
    calm_both (in_does act.deed) (in_sends desk act.send ++ drives Entry act.drive)
    (calm_in_does at o act.deed)
    (calm_both (in_sends desk act.send) (drives Entry act.drive)
    (calm_in_sends at o desk act.send which) (calm_drives at Entry o act.drive))

-- ---- what is told beside the acts, and a bridge's own signals

abbrev StillSaid : Side → List Act → List Act → Type 0
StillSaid at told plain = (o : Bool) → AreSaidOpen at o plain → AreSaidOpen at o told

pub said_with_tells : (at : Side) (o : Bool) (desk : Desk) (watch : Watch) (made : List Act)
    → AreSaidOpen at o made → AreSaidOpen at o (with_tells desk watch made)
said_with_tells at o desk watch made said =
    beside (StillSaid at) (λ p none. none)
    (λ act told plain still p all. (all.0, still (open_act at p act) all.1))
    (λ message told plain still p all. (tt, still p all)) desk watch made o said

pub calm_signals : (at : Side) (o : Bool) (bridge : Option BridgeLevels) (body : Body)
    → IsCalm at o (signalled bridge body)
calm_signals at o bridge body =
    signals_all (IsCalm at o) (calm_none at o)
    (λ signal on. record { said = (tt, tt); same = refl }) (λ a b. calm_both a b) bridge body
