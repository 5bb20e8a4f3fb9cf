use Rattle.std.proofs.Common.{◌∙◌, ap, arith, length, map}
use Rattle.std.specs.List.{prefix_len}
use Rattle.std.proofs.lemmas.List.Sums.{prefix_len-le-length}
use Rattle.life_psets.specs.SetTexts.{is_earlier, shown_seen}
use Rattle.life_psets.proofs.Tables.{put_seen}
use Rattle.life_psets.proofs.order.put_in_order.Goals as goal

pub insert-requires : goal.insert-requires
insert-requires c =
    omega (arith, c.place_for-index.ensures, prefix_len-le-length (is_earlier (shown_seen c.args.text)) c.deref.result.now, ap length c.deref.ensures.value, c.args.texts.now.ok.0)

pub returns : goal.returns
returns c =
    ap (map shown_seen) c.in_ok-insert.ensures.items
    ∙ put_seen c.args.texts.now.items c.place_for-index.result c.args.text (c.place_for-index.ensures ∙ ap (prefix_len (is_earlier (shown_seen c.args.text))) c.deref.ensures.value)
