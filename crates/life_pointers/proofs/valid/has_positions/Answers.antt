use Rattle.std.proofs.Common.{◌≡◌, true, false, sym, ◌∙◌}
use Rattle.std.specs.Prelude.{◌&&◌}
use Rattle.life_store.specs.Cells.{at}
use Rattle.life_store.specs.Content.{is_valid_in}
use Rattle.life_store.specs.Edits.{size_of}
use Rattle.life_seen.specs.Seen.{seen}
use Rattle.life_pointers.specs.Valid.{sees_there}
use Rattle.life_pointers.proofs.Validity.{valid_meant}
use Rattle.life_pointers.proofs.valid.has_positions.Goals as goal

pub returns-then-valid-clause-is : goal.returns-then-valid-clause-is
returns-then-valid-clause-is g c = λ kinds housed fits.
    let content = g.S.Store.content c.args.store.now in
    let rows = g.S.Store.rows c.args.store.now in
    let m = seen kinds content rows in
    let lives : true ≡ is_valid_in c.args.index c.args.count c.args.moment (at m.objects c.args.object.birth) =
    sym c.if-valid.true ∙ c.valid.ensures ∙ valid_meant kinds content rows c.args.object housed fits c.args.index c.args.count c.args.moment in
    let size : c.length.result ≡ size_of m c.args.object.birth = c.length.ensures.is kinds housed fits in
    c.is_within.ensures.is ∙ (λ i. lives i && sees_there c.args.index c.args.count (size i))

pub returns-else-valid-clause-is : goal.returns-else-valid-clause-is
returns-else-valid-clause-is g c = λ kinds housed fits.
    let content = g.S.Store.content c.args.store.now in
    let rows = g.S.Store.rows c.args.store.now in
    let m = seen kinds content rows in
    let ends : false ≡ is_valid_in c.args.index c.args.count c.args.moment (at m.objects c.args.object.birth) =
    sym c.if-valid.false ∙ c.valid.ensures ∙ valid_meant kinds content rows c.args.object housed fits c.args.index c.args.count c.args.moment in
    c.if-valid.false ∙ (λ i. ends i && sees_there c.args.index c.args.count (size_of m c.args.object.birth))
