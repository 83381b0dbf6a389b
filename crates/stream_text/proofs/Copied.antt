-- The line of a canonical frame is the frame.
use Rattle.std.proofs.Common.{◌≡◌, ◌≢◌, ◌++◌, ℕ, List, Result, Ok, Err, OnOk, refl, inl, sym, ap, ◌∙◌}
use Rattle.hermes_horizontal.specs.Canonical.{canonical}
use Rattle.hermes_horizontal.specs.Parts.{kind_of}
use Rattle.hermes_horizontal.specs.declared.kind.Kind.TheVariants as kinds
use Rattle.hermes_horizontal.specs.declared.message.Horizontal.{Horizontal}
use Rattle.hermes_horizontal.specs.declared.message.Horizontal.TheVariants as bodies
use Rattle.hermes_horizontal.specs.declared.message.Message.{Message}
use Rattle.canonical_frames.specs.Frame.{IsCanonical}
use Rattle.stream_text.specs.ReadText.{entry, body_text}
use Rattle.stream_text.specs.StreamReader.{WritesLine}

written_of : (message : Message) (body : Horizontal) → kind_of body ≢ kinds.Other → body_text message body ≡ canonical message
written_of message (bodies.CheckAlive ping id) named = refl
written_of message (bodies.ServiceDescription service) named = refl
written_of message (bodies.Notification code severity text) named = refl
written_of message (bodies.BoardAvailable board) named = refl
written_of message bodies.RevokeBoardAvailable named = refl
written_of message (bodies.MachineReady quality) named = refl
written_of message bodies.RevokeMachineReady named = refl
written_of message (bodies.StartTransport id) named = refl
written_of message (bodies.StopTransport state id) named = refl
written_of message (bodies.TransportFinished state id) named = refl
written_of message (bodies.BoardForecast info) named = refl
written_of message (bodies.QueryBoardInfo top bottom) named = refl
written_of message (bodies.SendBoardInfo info) named = refl
written_of message (bodies.Other name) named = absurd (named refl)

copied : (number : ℕ) (frame before now : List ℕ) → IsCanonical frame → now ≡ before ++ entry number frame → WritesLine number frame before now
copied number frame before now known written = record {
  line = entry number frame;
  told = inl (record {
    message = known.message;
    spelled = known.spelled;
    written = ap (entry number) (sym (written_of known.message known.message.body known.named ∙ known.written));
  });
  written = written;
}

ok_more : {T E : Type 0} (result : Result T E) (P Q : Type 0) → (P → Q) → OnOk result P → OnOk result Q
ok_more (Ok value) P Q more h = more h
ok_more (Err error) P Q more h = tt

pub copies : (number : ℕ) (frame before now : List ℕ) {T E : Type 0} (result : Result T E) → IsCanonical frame → OnOk result (now ≡ before ++ entry number frame) → OnOk result (WritesLine number frame before now)
copies number frame before now result known written = ok_more result _ _ (copied number frame before now known) written
