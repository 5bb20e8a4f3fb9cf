use Rattle.std.proofs.Common.{◌≡◌, ◌∙◌, ap, []}
use Rattle.indexmap.specs.IndexSet.{insert_all}
use Rattle.life_core.specs.Function.{function_of}
use Rattle.life_pset.specs.contracts.element.AbsPlacePartialEq.TheImpl.{ghosts as place}
use Rattle.life_pset.specs.contracts.element.ElementPartialEq.TheImpl.{ghosts as element}
use Rattle.life_pset.specs.Table.{table_of}
use Rattle.life_pset.proofs.Numbers.{numbered_table}
use Rattle.life_pset.proofs.table.ElementTable.of.Goals as goal

pub invariant_of-result : goal.invariant_of-result
invariant_of-result c =
    let types = c.args.types.now in
    let f = function_of c.args.f.now in
    let locations : c.in_ok-locations-2.locations.keys ≡ (table_of types f).locations =
    c.in_ok-locations-2.ensures ∙ ap (insert_all place.eq []) (c.deref.ensures.value ∙ c.in_ok-locations.ensures) in
    let elements : c.in_ok-elements-2.elements.keys ≡ (table_of types f).elements =
    c.in_ok-elements-2.ensures ∙ ap (insert_all element.eq []) (c.deref-2.ensures.value ∙ c.in_ok-elements.ensures) in
    rw (locations, elements) (numbered_table types f c.requires.limits)
