-- The relation, computed on the states of the run 'cut after the board is in'.
use Rattle.board_record.specs.declared.record.Record.{Record}
use Rattle.hermes_horizontal.specs.declared.message.Service.{Service}
use Rattle.law_custody.specs.Apart.{entry_transporting, entry_waits_in, exit_none, exit_transporting}
use Rattle.law_custody.specs.CutAfterInside.{ghost_at, link_across, link_answered, link_begun, link_connected, link_cut_off, link_inside, link_noticed_downstream, link_noticed_upstream, link_opened, link_settled}
use Rattle.law_custody.specs.Flight.{offers_none, readies_none, stale_none}
use Rattle.law_custody.specs.Floor.{at_start, begun_unread, both_unread, gap_begun, gap_fresh, gap_inside, gap_left, in_free, in_taken_in, in_taking, in_waiting, is_in, no_full_none, none_taken, out_idle, sees_across, sees_begun, sees_fresh, sees_full}
use Rattle.law_custody.specs.Pair.{Pair}
use Rattle.law_custody.specs.Place.{Across, Fresh, InGap, Inside, beyond_across, beyond_inside, not_across_inside, not_begun_inside}
use Rattle.law_custody.specs.Shape.{no_handover, transporting}
use Rattle.law_custody.specs.Talks.{apart, described_waiting, live, shaking_waiting}

pub opened_stands : (a : Record) → Pair (ghost_at Fresh a) (link_opened a)
opened_stands a = record { out = at_start; «in» = in_taking sees_fresh; gap = gap_fresh; talk = live (transporting stale_none) }

pub begun_stands : (a : Record) → Pair (ghost_at InGap a) (link_begun a)
begun_stands a = record { out = begun_unread; «in» = in_taking sees_begun; gap = gap_begun; talk = live (transporting stale_none) }

pub across_stands : (a : Record) → Pair (ghost_at Across a) (link_across a)
across_stands a = record { out = both_unread beyond_across; «in» = in_taking sees_across; gap = gap_left; talk = live (transporting stale_none) }

pub inside_stands : (a : Record) → Pair (ghost_at Inside a) (link_inside a)
inside_stands a = record { out = both_unread beyond_inside; «in» = in_taken_in sees_full; gap = gap_inside; talk = live (transporting stale_none) }

pub cut_off_stands : (a : Record) → Pair (ghost_at Inside a) (link_cut_off a)
cut_off_stands a = record { out = both_unread beyond_inside; «in» = in_taken_in sees_full; gap = gap_inside; talk = apart exit_transporting (entry_transporting stale_none) }

pub noticed_downstream_stands : (a : Record) → Pair (ghost_at Inside a) (link_noticed_downstream a)
noticed_downstream_stands a = record { out = both_unread beyond_inside; «in» = in_waiting is_in; gap = gap_inside; talk = apart exit_transporting entry_waits_in }

pub noticed_upstream_stands : (a : Record) → Pair (ghost_at Inside a) (link_noticed_upstream a)
noticed_upstream_stands a = record { out = out_idle none_taken not_begun_inside; «in» = in_waiting is_in; gap = gap_inside; talk = apart exit_none entry_waits_in }

pub connected_stands : (a : Record) (service : Service) → Pair (ghost_at Inside a) (link_connected a service)
connected_stands a service = record { out = out_idle none_taken not_begun_inside; «in» = in_waiting is_in; gap = gap_inside; talk = shaking_waiting }

pub answered_stands : (a : Record) (service : Service) → Pair (ghost_at Inside a) (link_answered a service)
answered_stands a service = record { out = out_idle none_taken not_begun_inside; «in» = in_waiting is_in; gap = gap_inside; talk = described_waiting offers_none }

pub settled_stands : (a : Record) → Pair (ghost_at Inside a) (link_settled a)
settled_stands a = record { out = out_idle none_taken not_begun_inside; «in» = in_free no_full_none not_across_inside; gap = gap_inside; talk = live (no_handover readies_none offers_none) }
