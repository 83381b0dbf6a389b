use Rattle.law_link_messages.proofs.Spoiling.{hears_spoiled, nul_spells_none}
use Rattle.law_link_messages.proofs.laws.a_frame_with_a_nul_is_a_wrong_word.Goals as goal

pub returns : goal.returns
returns c = λ old piece coming new still words messages spoiled are. hears_spoiled (nul_spells_none c.zero_is_refused.ensures c.refused_or_spelled.ensures) old piece coming new still words messages spoiled are
