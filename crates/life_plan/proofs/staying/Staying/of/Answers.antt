use Rattle.std.proofs.Common.{◌∙◌, ap, arith, length, subst, sym}
use Rattle.life_pset.specs.Table.{Table}
use Rattle.life_pset.specs.TableInvariant.{HasOneNumber}
use Rattle.life_pset.proofs.Numbers.{one_element}
use Rattle.life_rules.specs.Staying.{spot_writes}
use Rattle.life_plan.specs.Crossing.{crossing_in}
use Rattle.life_plan.specs.Numbered.{passes}
use Rattle.life_plan.proofs.Changing.{sized_none, stays_noted, stays_still}
use Rattle.life_plan.proofs.staying.Staying.of.Goals as goal
use Rattle.life_plan.proofs.staying.Staying.of.Goals.{else-moves_elements, then-moves_elements+in_ok-note_all}

pub returns : goal.returns
returns c =
    let x = crossing_in c.args.context.now in
    let unique = subst (λ (t : Table). HasOneNumber t.elements) (sym c.requires.table) (one_element x.types x.f) in
    elim c.if-moves_elements.branch [
      | then-moves_elements+in_ok-note_all w ↦
          rw (w.gone-is, w.becoming-is)
          (record {
            sized = record { gone = w.in_ok-note_all.ensures.limit ∙ c.in_ok-gone.ensures.limit ∙ c.element_count.ensures; becoming = w.in_ok-note_all.ensures.noted.sized };
            written = λ n l at. c.in_ok-written.ensures.each n ∙ ap (passes (spot_writes x.spot)) at;
            stays = stays_noted x unique (record { written = c.in_ok-written.written; gone = w.note_all.new.gone; becoming = w.note_all.new.becoming }) (length x.table.elements) (omega arith) w.in_ok-note_all.ensures.noted;
          })
      | else-moves_elements w ↦
          rw (w.gone-is, w.becoming-is)
          (record {
            sized = record { gone = c.in_ok-gone.ensures.limit ∙ c.element_count.ensures; becoming = sized_none (length x.table.elements) c.new-becoming.result.items c.new-becoming.ensures.items };
            written = λ n l at. c.in_ok-written.ensures.each n ∙ ap (passes (spot_writes x.spot)) at;
            stays = stays_still x unique (record { written = c.in_ok-written.written; gone = c.in_ok-gone.gone; becoming = c.new-becoming.result }) c.in_ok-gone.ensures.none c.new-becoming.ensures.items (c.moves_elements.ensures.still w.if-moves_elements.false);
          })
    ]
