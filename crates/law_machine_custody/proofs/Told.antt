-- What the acts of an outlet's row do below the machine, and those of an intake's row above it.
use Rattle.std.proofs.Common.{Bool, List, None, Option, Some, [], refl, unwrap_or, ◌∷◌, ◌≡◌}
use Rattle.board_record.specs.declared.record.Record.{Record}
use Rattle.hermes_horizontal.specs.declared.message.Horizontal.{Horizontal}
use Rattle.hermes_horizontal.specs.declared.message.Horizontal.TheVariants as message
use Rattle.handover_out.specs.declared.act.OutDeed.{OutDeed}
use Rattle.handover_out.specs.declared.act.OutSend.{OutSend}
use Rattle.handover_out.specs.declared.act.OutSend.TheVariants as out_sends
use Rattle.handover_in.specs.declared.act.InDeed.{InDeed}
use Rattle.handover_in.specs.declared.act.InSend.{InSend}
use Rattle.handover_in.specs.declared.act.InSend.TheVariants as in_sends
use Rattle.node_core.specs.Desk.{Desk}
use Rattle.node_core.specs.Halves.{given_back, settled}
use Rattle.node_core.specs.Told.{in_told, out_told, in_says as in_message}
use Rattle.law_custody.specs.Pair.{back_to, keep_at}
use Rattle.law_custody.specs.Words.{down_words, in_says, out_says, sent, up_words}
use Rattle.law_machine_custody.specs.Scene.{Scene, all_met}

-- the messages of what an outlet sends; an offer is said elsewhere
abbrev pub out_messages : Option OutSend → List Horizontal
out_messages None = []
out_messages (Some out_sends.BoardAvailable) = []
out_messages (Some out_sends.RevokeBoardAvailable) = message.RevokeBoardAvailable ∷ []
out_messages (Some (out_sends.Finished state id)) = message.TransportFinished state id ∷ []

abbrev pub IsNoOffer : Option OutSend → Type 0
IsNoOffer None = Unit {0}
IsNoOffer (Some out_sends.BoardAvailable) = ⊥
IsNoOffer (Some out_sends.RevokeBoardAvailable) = Unit {0}
IsNoOffer (Some (out_sends.Finished state id)) = Unit {0}

pub out_words : (send : Option OutSend) → down_words (out_messages send) ≡ out_says send None
out_words None = refl
out_words (Some out_sends.BoardAvailable) = refl
out_words (Some out_sends.RevokeBoardAvailable) = refl
out_words (Some (out_sends.Finished state id)) = refl

-- below the machine after an act of its outlet
abbrev pub out_scene : Option OutSend → Option Bool → Scene → Scene
out_scene send drive c = record c { below = record c.below { down = sent (out_messages send) c.below.stands c.below.down; gap = record c.below.gap { exit_drive = unwrap_or drive c.below.gap.exit_drive } } }

pub out_met : (desk : Desk) (kept : List Record) (deed : Option OutDeed) (send : Option OutSend) (drive : Option Bool) (back : Option Record) (c : Scene) → IsNoOffer send
    → all_met (out_told desk kept (record { deed = deed; send = send; drive = drive; back = back })) c ≡ out_scene send drive c
out_met desk kept None None None back c _ = refl
out_met desk kept None None (Some on) back c _ = refl
out_met desk kept None (Some out_sends.RevokeBoardAvailable) None back c _ = refl
out_met desk kept None (Some out_sends.RevokeBoardAvailable) (Some on) back c _ = refl
out_met desk kept None (Some (out_sends.Finished state id)) None back c _ = refl
out_met desk kept None (Some (out_sends.Finished state id)) (Some on) back c _ = refl
out_met desk kept None (Some out_sends.BoardAvailable) drive back c no_offer = elim no_offer [ ]
out_met desk kept (Some deed) (Some out_sends.BoardAvailable) drive back c no_offer = elim no_offer [ ]
out_met desk kept (Some deed) None None back c _ = refl
out_met desk kept (Some deed) None (Some on) back c _ = refl
out_met desk kept (Some deed) (Some out_sends.RevokeBoardAvailable) None back c _ = refl
out_met desk kept (Some deed) (Some out_sends.RevokeBoardAvailable) (Some on) back c _ = refl
out_met desk kept (Some deed) (Some (out_sends.Finished state id)) None back c _ = refl
out_met desk kept (Some deed) (Some (out_sends.Finished state id)) (Some on) back c _ = refl

-- the message of what an intake sends
abbrev pub in_messages : Option InSend → List Horizontal
in_messages None = []
in_messages (Some send) = in_message send ∷ []

in_word : (send : InSend) → up_words (in_message send ∷ []) ≡ in_says (Some send)
in_word in_sends.MachineReady = refl
in_word in_sends.RevokeMachineReady = refl
in_word (in_sends.Start id) = refl
in_word (in_sends.Stop state id) = refl

pub in_words : (send : Option InSend) → up_words (in_messages send) ≡ in_says send
in_words None = refl
in_words (Some send) = in_word send

abbrev pub in_scene : Option InSend → Option Bool → Scene → Scene
in_scene send drive c = record c { above = record c.above { up = sent (in_messages send) c.above.stands c.above.up; gap = record c.above.gap { entry_drive = unwrap_or drive c.above.gap.entry_drive } } }

pub in_met : (desk : Desk) (deed : Option InDeed) (send : Option InSend) (drive : Option Bool) (keep : Option Record) (taken : Bool) (c : Scene)
    → all_met (in_told desk (record { deed = deed; send = send; drive = drive; keep = keep; taken = taken })) c ≡ in_scene send drive c
in_met desk None None None keep taken c = refl
in_met desk None None (Some on) keep taken c = refl
in_met desk None (Some send) None keep taken c = refl
in_met desk None (Some send) (Some on) keep taken c = refl
in_met desk (Some deed) None None keep taken c = refl
in_met desk (Some deed) None (Some on) keep taken c = refl
in_met desk (Some deed) (Some send) None keep taken c = refl
in_met desk (Some deed) (Some send) (Some on) keep taken c = refl

-- records that are given back or settle, by either name
pub back_is : (back : Option Record) (kept : List Record) → back_to back kept ≡ given_back back kept
back_is None kept = refl
back_is (Some board) kept = refl

pub keep_is : (keep : Option Record) (kept : List Record) → keep_at keep kept ≡ settled keep kept
keep_is None kept = refl
keep_is (Some board) kept = refl
