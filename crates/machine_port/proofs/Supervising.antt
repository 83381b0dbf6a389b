-- From what the calls over a supervisor's connection say to what a message does.
use Rattle.std.proofs.Common.{◌≡◌, ◌∙◌, sym, subst, ap, refl, ℕ, ℤ, true, false, List, Option, None, Result, Ok, Err}
use Rattle.std.specs.Prelude.{OnOk}
use Rattle.line_base.specs.declared.memory.Memory.{Memory}
use Rattle.line_base.specs.declared.states.Severity.TheVariants as severity
use Rattle.hermes_vertical.specs.Parts.{kind_of}
use Rattle.hermes_vertical.specs.declared.kind.VerticalKind.{VerticalKind}
use Rattle.hermes_vertical.specs.declared.message.Vertical.{Vertical}
use Rattle.supervisory_core.specs.Row.{SupervisedRow}
use Rattle.supervisory_core.specs.Told.{unexpected}
use Rattle.supervised_end.specs.Channel.{HearsNext}
use Rattle.supervised_end.specs.Said.{notification, system_of, untaken}
use Rattle.supervised_end.specs.declared.channel.Found.{Found}
use Rattle.node_core.specs.May.{may_of}
use Rattle.node_core.specs.declared.input.Input.TheVariants as inputs
use Rattle.node_core.specs.declared.input.No.{No}
use Rattle.machine_port.specs.Port.{PortState}
use Rattle.machine_port.specs.Supervisor.{AnswersIf, BreaksOff, Describes, DoesFound, DoesHear, DoesRow, Takes, Unsupervised, said, session_ended, unstepped, with_channel}

pub hears_does : (result : Result (Unit {0}) Memory) (found : Found) (moment : ℤ) (s m u : PortState) → HearsNext s.channel m.channel found
    → m ≡ with_channel m.channel s → OnOk result (DoesFound found moment m u) → OnOk result (DoesHear moment s u)
hears_does (Ok done) found moment s m u hears e does =
    let P : PortState → Type 0 = λ v. DoesFound found moment v u in
    record { found = found; channel = m.channel; hears = hears; does = subst P e does }
hears_does (Err memory) found moment s m u hears e does = tt

pub forgot : (result : Result (Unit {0}) Memory) (moment : ℤ) (s m u : PortState) → m ≡ unstepped s → OnOk result (DoesHear moment m u) → OnOk result (DoesHear moment (unstepped s) u)
forgot result moment s m u e does = subst (λ (v : PortState). OnOk result (DoesHear moment v u)) e does

pub describes : (result : Result (Unit {0}) Memory) (moment : ℤ) (own : Vertical) (s m u : PortState) → own ≡ system_of s.name → m ≡ said moment own s
    → OnOk result (Takes (may_of m.node (inputs.Supervise true)) (inputs.Supervise true) moment m u) → OnOk result (Describes moment s u)
describes result moment own s m u own_is e takes =
    let P : PortState → Type 0 = λ v. OnOk result (Takes (may_of v.node (inputs.Supervise true)) (inputs.Supervise true) moment v u) in
    subst P (e ∙ ap (λ b. said moment b s) own_is) takes

pub untaken_does : (result : Result (Unit {0}) Memory) (may : Result (Unit {0}) No) (why : No) (moment : ℤ) (query : ℕ) (order : List ℕ) (s u : PortState) → Err why ≡ may
    → OnOk result (u ≡ said moment (notification 0 severity.Warning (untaken why)) s) → OnOk result (AnswersIf may moment query order s u)
untaken_does result may why moment query order s u is said =
    let P : Result (Unit {0}) No → Type 0 = λ n. OnOk result (AnswersIf n moment query order s u) in
    subst P is said

pub text_breaks : (result : Result (Unit {0}) Memory) (text wanted : List ℕ) (moment : ℤ) (s u : PortState) → text ≡ wanted
    → OnOk result (BreaksOff moment text s u) → OnOk result (BreaksOff moment wanted s u)
text_breaks result text wanted moment s u same breaks = subst (λ (l : List ℕ). OnOk result (BreaksOff moment l s u)) same breaks

pub session_breaks : (result : Result (Unit {0}) Memory) (text : List ℕ) (body : Vertical) (moment : ℤ) (s m n u : PortState) → body ≡ notification 1 severity.Fatal text → m ≡ said moment body s
    → n ≡ session_ended m → OnOk result (Unsupervised moment n u) → OnOk result (BreaksOff moment text s u)
session_breaks result text body moment s m n u is e ended ends =
    let P : PortState → Type 0 = λ v. OnOk result (Unsupervised moment v u) in
    subst P (ended ∙ ap session_ended (e ∙ ap (λ b. said moment b s) is)) ends

pub row_breaks : (result : Result (Unit {0}) Memory) (row : Option SupervisedRow) (body : Vertical) (kind : VerticalKind) (text : List ℕ) (moment : ℤ) (s m u : PortState) → row ≡ None → kind ≡ kind_of body
    → text ≡ unexpected kind → m ≡ s → OnOk result (BreaksOff moment text m u) → OnOk result (DoesRow row body moment s u)
row_breaks result row body kind text moment s m u none is said same breaks =
    let P : Option SupervisedRow → Type 0 = λ o. OnOk result (DoesRow o body moment s u) in
    let Q : PortState → Type 0 = λ v. OnOk result (BreaksOff moment text v u) in
    subst P (sym none) (text_breaks result text (unexpected (kind_of body)) moment s u (said ∙ ap unexpected is) (subst Q same breaks))
