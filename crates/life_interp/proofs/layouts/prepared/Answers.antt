use Rattle.std.proofs.Common.{List, ap, rules, sym, ◌∙◌}
use Rattle.std.specs.List.{list_all}
use Rattle.life_values.specs.declared.layout.Layout.{Layout}
use Rattle.life_interp.specs.Layouts.{is_narrow}
use Rattle.life_interp.proofs.Narrow.{narrow_types}
use Rattle.life_interp.proofs.layouts.prepared.Goals as goal

pub returns-then-are_narrow : goal.returns-then-are_narrow
returns-then-are_narrow c = record {
  laid = c.in_ok-all.ensures;
  deep = search rules;
  narrow = narrow_types c.args.types.now c.in_ok-all.all.items c.in_ok-all.ensures
      (ap (λ (ls : List Layout). list_all is_narrow ls) (sym c.deref.ensures.value) ∙ sym c.are_narrow.ensures ∙ c.if-are_narrow.true);
}
