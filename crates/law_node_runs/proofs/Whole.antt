-- THE BYTES OF A RUN'S CONNECTIONS are in order, move by move.
use Rattle.std.proofs.Common.{◌≡◌, ◌∙◌, refl, sym, ap, subst, ℕ, ℤ, List, [], ◌∷◌, ◌++◌, append_assoc, false}
use Rattle.line_base.specs.declared.states.Side.{Side}
use Rattle.line_base.specs.declared.states.Side.TheVariants.{Entry, Exit}
use Rattle.line_outside.specs.Given.{Given}
use Rattle.config_service.specs.declared.message.Settings.{Settings}
use Rattle.node_core.specs.Node.{NodeState}
use Rattle.node_core.specs.declared.act.Act.{Act}
use Rattle.node_run.specs.Owning.{TellsActs, no_lines}
use Rattle.node_run.specs.Next.{next_of}
use Rattle.node_run.specs.Runs.{Moves, Runs, begins, goes_on}
use Rattle.node_run.specs.State.{RunState, started}
use Rattle.node_run.specs.declared.rules.Rules.{Rules}
use Rattle.law_node_runs.specs.Connections.{Connection, ConnectionsAreInOrder, InOrderAlong, does, no_connection}
use Rattle.law_node_runs.specs.Doings.{Doing, RunDoes, act_in, acts_in, reset_of, run_begins, run_goes_on}
use Rattle.law_node_runs.proofs.Holding.{Holds, all_heard, in_order}
use Rattle.law_node_runs.proofs.Pieces.{Piece, done_all, move_piece}

-- ---- doings behind others

acts_join : (one two : List Doing) → acts_in (one ++ two) ≡ acts_in one ++ acts_in two
acts_join [] two = refl
acts_join (doing ∷ one) two = ap (λ (l : List Act). act_in doing ++ l) (acts_join one two) ∙ sym (append_assoc (act_in doing) (acts_in one) (acts_in two))

order_join : (side : Side) (c : Connection) (one two : List Doing) → InOrderAlong side c one → InOrderAlong side (done_all side one c) two → InOrderAlong side c (one ++ two)
order_join side c [] two first later = later
order_join side c (doing ∷ one) two first later = (first.0, order_join side (does side doing c) one two first.1 later)

done_join : (side : Side) (c : Connection) (one two : List Doing) → done_all side (one ++ two) c ≡ done_all side two (done_all side one c)
done_join side c [] two = refl
done_join side c (doing ∷ one) two = done_join side (does side doing c) one two

-- ---- a run so far

record SoFar (rules : Rules) (s t : RunState) (moments : List ℤ) (given : List Given) (log : List ℕ) : Type 0 where
  doings : List Doing
  happen : RunDoes rules s moments given t log doings
  tells : TellsActs rules log (acts_in doings)
  order : (side : Side) → InOrderAlong side no_connection doings
  holds : (side : Side) → Holds false side t (done_all side doings no_connection)

goes_further : {rules : Rules} {s t u : RunState} {moments : List ℤ} {moment : ℤ} {given more : List Given} {log lines : List ℕ} → SoFar rules s t moments given log → Moves rules moment t more u lines → Piece (reset_of (next_of rules t)) rules t u more lines
    → SoFar rules s u (moments ++ moment ∷ []) (given ++ more) (log ++ lines)
goes_further {rules} {s} {t} {u} {moments} {moment} {given} {more} {log} {lines} far move piece = record {
  doings = far.doings ++ piece.more;
  happen = run_goes_on far.happen move piece.along;
  tells = subst (λ (told : List Act). TellsActs rules (log ++ lines) told) (sym (acts_join far.doings piece.more)) (piece.tells.behind log (acts_in far.doings) far.tells);
  order = λ side. order_join side no_connection far.doings piece.more (far.order side) (piece.keeps side (done_all side far.doings no_connection) (far.holds side)).0;
  holds = λ side. subst (λ (c : Connection). Holds false side u c) (sym (done_join side no_connection far.doings piece.more)) (piece.keeps side (done_all side far.doings no_connection) (far.holds side)).1;
}

begun : (settings : Settings) (node : NodeState) (side : Side) → Holds false side (started settings node) no_connection
begun settings node Entry = record { sent = refl; heard = all_heard refl }
begun settings node Exit = record { sent = refl; heard = all_heard refl }

far_in : {rules : Rules} {settings : Settings} {node : NodeState} {s t : RunState} {moments : List ℤ} {given : List Given} {log : List ℕ} → Runs rules s moments given t log → s ≡ started settings node → SoFar rules s t moments given log
far_in {rules} {settings} {node} (begins {s}) is = record {
  doings = [];
  happen = run_begins;
  tells = no_lines;
  order = λ side. in_order (begun settings node side);
  holds = λ side. subst (λ (r : RunState). Holds false side r no_connection) (sym is) (begun settings node side);
}
far_in (goes_on run move) is = goes_further (far_in run is) move (move_piece move)

pub connections_are_in_order : ConnectionsAreInOrder
connections_are_in_order rules settings node moments t given log run =
    let far : SoFar rules (started settings node) t moments given log = far_in run refl in
    record { doings = far.doings; happen = far.happen; tells = far.tells; order = far.order }
