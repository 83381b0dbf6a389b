-- The entry hears the upstream machine's ServiceDescription: a board that waits inside settles.
use Rattle.std.proofs.Common.{Bool, List, Option, [], refl, ℕ, ◌∷◌}
use Rattle.board_record.specs.declared.record.Record.{Record}
use Rattle.session_core.specs.declared.state.SessionState.{SessionState}
use Rattle.session_core.specs.declared.state.SessionState.TheVariants.{Handshake, Standing}
use Rattle.handover_out.specs.declared.phase.Phase.{Phase as Out}
use Rattle.handover_in.specs.declared.input.InInput.TheVariants as in_input
use Rattle.handover_in.specs.declared.phase.Phase.{Phase as In}
use Rattle.law_custody.specs.Apart.{entry_described, entry_described_waiting, entry_idle}
use Rattle.law_custody.specs.Flight.{readies_none}
use Rattle.law_custody.specs.Floor.{EntryFloor, in_free, in_waiting, is_in, no_full_none}
use Rattle.law_custody.specs.LookBack.{by_description}
use Rattle.law_custody.specs.Place.{Place, not_across_inside}
use Rattle.law_custody.specs.Shape.{no_handover}
use Rattle.law_custody.specs.Steps.{EntryDid, intake}
use Rattle.law_custody.specs.Talks.{Talks, apart, described, described_waiting, live}
use Rattle.law_custody.specs.Words.{DownWord, UpWord, UpstreamService}
use Rattle.law_custody.proofs.Asked.{exit_starts}
use Rattle.law_custody.proofs.Behind.{exit_free}
use Rattle.law_custody.proofs.Facts.{no_board}
use Rattle.law_custody.proofs.Open.{open_shaken}
use Rattle.law_custody.proofs.Passed.{is_settled}

pub hear_upstream_service : {Q : Record → Type 0} {b : Bool} {x : SessionState} {o : Out} {of : Option ℕ} {rd : Bool} {i : In} {f : Option Record} {ri : Bool} {p : Place} {r : Record} {up : List UpWord} {down : List DownWord} {ed : Bool}
    → Talks b x o of rd Handshake i f ri p up (UpstreamService ∷ down) → EntryFloor i [] ed p r
    → EntryDid Q in_input.Stand (intake i f ri) [] ed b x o of rd Standing p r up (UpstreamService ∷ down) down
hear_upstream_service (described c) n =
    record { row = _; is = refl; «in» = n; talk = live (no_handover readies_none c); body = λ ks. refl; opened = λ k j. (open_shaken k, j); holds = λ q e. e; quiet = refl; settles = λ q e. absurd (no_board e); recalls = λ s k. k; asked = λ l d a. a }
hear_upstream_service (described_waiting c) (in_waiting is_in) = is_settled refl refl refl (in_free no_full_none not_across_inside) (live (no_handover readies_none c)) (λ k. open_shaken k) refl refl (λ s k. by_description (k.2 refl))
hear_upstream_service (apart a (entry_described c)) n =
    record { row = _; is = refl; «in» = n; talk = apart a (entry_idle c); body = λ ks. refl; opened = λ k j. (open_shaken k, j); holds = λ q e. e; quiet = refl; settles = λ q e. absurd (no_board e); recalls = λ s k. k; asked = λ l d a. a }
hear_upstream_service (apart a (entry_described_waiting c)) (in_waiting is_in) = is_settled refl refl refl (in_free no_full_none not_across_inside) (apart a (entry_idle c)) (λ k. open_shaken k) (exit_free a) (exit_starts a) (λ s k. by_description (k.2 refl))
