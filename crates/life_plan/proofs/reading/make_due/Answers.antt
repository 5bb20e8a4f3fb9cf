use Rattle.std.proofs.Common.{◌≡◌, ◌<◌, ◌≤◌, ◌∙◌, ℕ, Some, ap, length, refl, rules, slice_get, sym}
use Rattle.std.proofs.lemmas.Option.{slice_get-get_or}
use Rattle.std.specs.Prelude.{slice_set}
use Rattle.life_sets.specs.NumberSets.{holds}
use Rattle.life_rules.specs.FactSets.{Includes}
use Rattle.life_plan.specs.Crossing.{crossing_in}
use Rattle.life_plan.specs.Numbered.{MakesAt, MakesFrom}
use Rattle.life_plan.proofs.Growing.{notes_more, notes_none, some_includes, some_more, some_none}
use Rattle.life_plan.proofs.Making.{made_first, made_last, made_pass, made_set, readings_set, same_locations, same_more, some_from}
use Rattle.life_plan.proofs.reading.make_due.Goals as goal
use Rattle.life_plan.proofs.reading.make_due.Goals.{else-contains, then-contains+in_ok-make}

pub loop-k-init : goal.loop-k-init
loop-k-init g c = record {
  same = λ n. ((λ h. h), (λ h. h));
  are = c.requires.are;
  made = made_first (crossing_in c.args.context.now) c.args.readings.now.items (holds c.args.due.now) (g.R.Rows.has c.args.from.now) (g.R.Rows.has c.args.into.now) c.requires.made;
  some = some_none (g.R.Rows.has c.args.into.now) (MakesFrom (crossing_in c.args.context.now) c.args.readings.now.items (g.R.Rows.has c.args.from.now));
  noted = notes_none (g.R.Rows.has c.args.into.now) (holds c.args.gained.now);
  locations = refl;
  elements = refl;
  gained = refl;
  limit = refl;
}

pub loop-k-preserved : goal.loop-k-preserved
loop-k-preserved g c =
    let has = g.R.Rows.has in
    let x = crossing_in c.args.context.now in
    let was = c.loop-k.invariant in
    let readings = c.loop-k.readings.items in
    let k = c.loop-k.k in
    let lt : k < length readings = search rules in
    let makes : ℕ → ℕ → Type 0 = MakesFrom x c.args.readings.now.items (has c.args.from.now) in
    elim c.if-contains.branch [
      | then-contains+in_ok-make w ↦
          let r = w.index_mut.result.now in
          let now = w.make.ensures in
          let at : slice_get readings k ≡ Some r = slice_get-get_or readings k r lt ∙ ap Some (sym w.index_mut.ensures.value) in
          let grown : Includes (has c.loop-k.into) (has w.make.new.into) = some_includes (has c.loop-k.into) (has w.make.new.into) (MakesAt x r.location (has c.args.from.now r.location)) now.some in
          rw (w.readings-is, w.into-is, w.gained-is, w.elements-is)
          (record {
            same = same_more c.args.readings.now.items readings (slice_set readings k w.make.new.self) was.same (same_locations x readings k r w.make.new.self at now.location);
            are = readings_set x readings k r w.make.new.self at now.location now.seen_limit was.are;
            made = made_set x readings k r w.make.new.self at now.location (holds c.args.due.now) (has c.args.from.now) (has c.loop-k.into) (has w.make.new.into) grown w.in_ok-make.ensures.seen w.in_ok-make.ensures.made was.made;
            some = some_more (has c.args.into.now) (has c.loop-k.into) (has w.make.new.into) makes was.some (some_from x c.args.readings.now.items readings k r (has c.args.from.now) (has c.loop-k.into) (has w.make.new.into) was.same at now.some);
            noted = notes_more (has c.args.into.now) (has c.loop-k.into) (has w.make.new.into) (holds c.args.gained.now) (holds c.loop-k.gained) (holds w.make.new.gained)
                (some_includes (has c.args.into.now) (has c.loop-k.into) makes was.some) grown was.noted w.in_ok-make.ensures.noted;
            locations = now.locations ∙ was.locations;
            elements = now.elements ∙ was.elements;
            gained = now.gained ∙ was.gained;
            limit = now.limit ∙ was.limit;
          })
      | else-contains w ↦
          let r = c.index.result.now in
          let at : slice_get readings k ≡ Some r = slice_get-get_or readings k r lt ∙ ap Some (sym c.index.ensures) in
          rw (w.readings-is, w.into-is, w.gained-is, w.elements-is)
          (record {
            same = was.same;
            are = was.are;
            made = made_pass x k readings (holds c.args.due.now) (has c.args.from.now) (has c.loop-k.into) r at (sym c.contains.ensures ∙ w.if-contains.false) was.made;
            some = was.some;
            noted = was.noted;
            locations = was.locations;
            elements = was.elements;
            gained = was.gained;
            limit = was.limit;
          })
    ]

pub returns-in_err-make-clause-are : goal.returns-in_err-make-clause-are
returns-in_err-make-clause-are g c =
    let readings = c.loop-k.readings.items in
    let k = c.loop-k.k in
    let r = c.index_mut.result.now in
    let lt : k < length readings = search rules in
    let at : slice_get readings k ≡ Some r = slice_get-get_or readings k r lt ∙ ap Some (sym c.index_mut.ensures.value) in
    readings_set (crossing_in c.args.context.now) readings k r c.make.new.self at c.make.ensures.location c.make.ensures.seen_limit c.loop-k.invariant.are

pub returns-in_err-make-clause-some : goal.returns-in_err-make-clause-some
returns-in_err-make-clause-some g c =
    let has = g.R.Rows.has in
    let x = crossing_in c.args.context.now in
    let readings = c.loop-k.readings.items in
    let k = c.loop-k.k in
    let r = c.index_mut.result.now in
    let lt : k < length readings = search rules in
    let at : slice_get readings k ≡ Some r = slice_get-get_or readings k r lt ∙ ap Some (sym c.index_mut.ensures.value) in
    some_more (has c.args.into.now) (has c.loop-k.into) (has c.make.new.into) (MakesFrom x c.args.readings.now.items (has c.args.from.now)) c.loop-k.invariant.some
    (some_from x c.args.readings.now.items readings k r (has c.args.from.now) (has c.loop-k.into) (has c.make.new.into) c.loop-k.invariant.same at c.make.ensures.some)

pub returns-clause-made : goal.returns-clause-made
returns-clause-made g c =
    let past : length c.loop-k.readings.items ≤ c.loop-k.k = search rules in
    made_last (crossing_in c.args.context.now) c.loop-k.k c.loop-k.readings.items (holds c.args.due.now) (g.R.Rows.has c.args.from.now) (g.R.Rows.has c.loop-k.into) past c.loop-k.invariant.made
