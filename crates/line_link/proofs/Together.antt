-- What stands together in a link still does as bytes arrive.
use Rattle.std.proofs.Common.{◌≡◌, refl, sym, ap, subst, arith, ℕ, ◌+◌, ◌≤◌, true, List, [], ◌∷◌, Option, Some, None, drop, length}
use Rattle.std.proofs.lemmas.List.{length-drop}
use Rattle.line_base.specs.declared.states.Role.{Role}
use Rattle.line_base.specs.declared.states.Role.TheVariants.{Upstream, Downstream}
use Rattle.line_link.specs.Flow.{Stream, Streams, coming, reached, stream_to, with_arrival, with_stream_to}
use Rattle.line_link.specs.Link.{IsLinkTogether, LinkParts, is_dry_without, most_in_flight}
use Rattle.line_link.proofs.Coming.{coming_of_arrival}

pub still_dry : (number : Option ℕ) (count : ℕ) (texts : List (List ℕ)) → is_dry_without number texts ≡ true → is_dry_without number (reached count texts).texts ≡ true
still_dry None count [] dry = refl
still_dry None count (text ∷ texts) dry = absurd (cc)
still_dry (Some number) count texts dry = refl

still_within : (count : ℕ) (stream : Stream) → length (coming stream) ≤ most_in_flight → length (coming (with_arrival count stream)) ≤ most_in_flight
still_within count stream within =
    let fewer : length (coming (with_arrival count stream)) ≡ length (drop count (coming stream)) = ap length (coming_of_arrival count stream) in
    omega (arith, length-drop count (coming stream))

arrived_at : (to : Role) (count : ℕ) (link : LinkParts) → IsLinkTogether link → IsLinkTogether (record link { flows = with_stream_to to (with_arrival count (stream_to to link.flows)) link.flows })
arrived_at Upstream count link together = record {
  joined = together.joined;
  dry_upstream = still_dry link.upstream (link.flows.to_upstream.arrived + count) link.flows.to_upstream.texts together.dry_upstream;
  dry_downstream = together.dry_downstream;
  upstream_within = still_within count link.flows.to_upstream together.upstream_within;
  downstream_within = together.downstream_within;
}
arrived_at Downstream count link together = record {
  joined = together.joined;
  dry_upstream = together.dry_upstream;
  dry_downstream = still_dry link.downstream (link.flows.to_downstream.arrived + count) link.flows.to_downstream.texts together.dry_downstream;
  upstream_within = together.upstream_within;
  downstream_within = still_within count link.flows.to_downstream together.downstream_within;
}

pub arrives_together : (to : Role) (count : ℕ) (link : LinkParts) (streams : Streams) → IsLinkTogether link
    → streams ≡ with_stream_to to (with_arrival count (stream_to to link.flows)) link.flows → IsLinkTogether (record link { flows = streams })
arrives_together to count link streams together is =
    let P : Streams → Type 0 = λ (s : Streams). IsLinkTogether (record link { flows = s }) in
    subst P (sym is) (arrived_at to count link together)
