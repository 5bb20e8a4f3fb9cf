use Rattle.std.proofs.Common.{◌≡◌, ◌+◌, drop}
use Rattle.std.specs.List.{prefix_len}
use Rattle.life_psets.specs.SetTexts.{is_earlier, shown_seen}
use Rattle.life_psets.proofs.order.place_for.Given as goal

-- those so far stand before the text
abbrev pub invariant-loop-index : goal.invariant-loop-index
invariant-loop-index l =
    let earlier = is_earlier (shown_seen l.text) in
    l.index + prefix_len earlier (drop l.index l.texts) ≡ prefix_len earlier l.texts
