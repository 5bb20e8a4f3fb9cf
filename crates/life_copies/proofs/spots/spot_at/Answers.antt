use Rattle.std.proofs.Common.{ℕ, ap, subst, sym, ◌∙◌}
use Rattle.life_core.specs.Operands.{operand_of}
use Rattle.life_store.specs.Places as spec
use Rattle.life_store.specs.Places.{Found, on_found}
use Rattle.life_store.specs.Effects.{Strays}
use Rattle.life_seen.specs.Kinds.{kinds_of}
use Rattle.life_pointers.specs.Owned.{spot_seen}
use Rattle.life_pointers.specs.Places.{BeginsAt, IsHere, IsPlace}
use Rattle.life_pointers.specs.declared.places.Place.{Place}
use Rattle.life_cells.specs.Cells.{state_in, state_of}
use Rattle.life_cells.specs.Fits.{meant}
use Rattle.life_cells.specs.Scopes.{function_in, types_in}
use Rattle.life_cells.proofs.PlaceLemmas.{same_found, same_word}
use Rattle.life_cells.proofs.StepLemmas.{stopped}
use Rattle.life_copies.proofs.spots.spot_at.Goals as goal

pub returns-in-Err-clause-is : goal.returns-in-Err-clause-is
returns-in-Err-clause-is g c = λ output input go.
    let types = types_in c.args.scope.now in
    let f = function_in c.args.scope.now in
    let content = g.S.Store.content c.args.store.now in
    let rows = g.S.Store.rows c.args.store.now in
    let m = meant types content rows in
    let st = state_of m c.args.cells.now output input in
    ap (λ (w : Found). on_found w (λ n i object. go (record { object = n; index = i; word = spec.operand_word types f (operand_of c.args.operand.now) st }))) (same_found types f m c.args.cells.now output input (operand_of c.args.operand.now))
    ∙ c.in-Err.ensures.is (λ n i object. go (record { object = n; index = i; word = spec.operand_word types f (operand_of c.args.operand.now) st })) (λ s. Strays) ∙ sym (stopped spot_seen go c.in-Err.stop)

pub returns-in-Ok-Fixed-clause-is : goal.returns-in-Ok-Fixed-clause-is
returns-in-Ok-Fixed-clause-is g c = λ output input go.
    let types = types_in c.args.scope.now in
    let f = function_in c.args.scope.now in
    let content = g.S.Store.content c.args.store.now in
    let rows = g.S.Store.rows c.args.store.now in
    let m = meant types content rows in
    let st = state_of m c.args.cells.now output input in
    let fixed = subst (λ (x : Place). IsPlace (kinds_of types) content rows (spec.locate types f (operand_of c.args.operand.now) (state_in m c.args.cells.now)) x) c.in-Ok-Fixed.field-0-is c.in-Ok-Fixed.ensures.is in
    ap (λ (w : Found). on_found w (λ n i object. go (record { object = n; index = i; word = spec.operand_word types f (operand_of c.args.operand.now) st }))) (same_found types f m c.args.cells.now output input (operand_of c.args.operand.now))
    ∙ ap (λ (w : Found). on_found w (λ n i object. go (record { object = n; index = i; word = spec.operand_word types f (operand_of c.args.operand.now) st }))) fixed

pub returns-in-Ok-Here-clause-is : goal.returns-in-Ok-Here-clause-is
returns-in-Ok-Here-clause-is g c = λ output input go.
    let types = types_in c.args.scope.now in
    let f = function_in c.args.scope.now in
    let content = g.S.Store.content c.args.store.now in
    let rows = g.S.Store.rows c.args.store.now in
    let m = meant types content rows in
    let st = state_of m c.args.cells.now output input in
    let h : IsHere (kinds_of types) content rows (spec.locate types f (operand_of c.args.operand.now) (state_in m c.args.cells.now)) c.in-Ok-Here.spot = subst (λ (x : Place). IsPlace (kinds_of types) content rows (spec.locate types f (operand_of c.args.operand.now) (state_in m c.args.cells.now)) x) c.in-Ok-Here.field-0-is c.in-Ok-Here.ensures.is in
    let word = subst (λ (x : Place). BeginsAt (spec.operand_word types f (operand_of c.args.operand.now) (state_in m c.args.cells.now)) x) c.in-Ok-Here.field-0-is c.in-Ok-Here.ensures.word in
    ap (λ (w : Found). on_found w (λ n i object. go (record { object = n; index = i; word = spec.operand_word types f (operand_of c.args.operand.now) st }))) (same_found types f m c.args.cells.now output input (operand_of c.args.operand.now))
    ∙ ap (λ (w : Found). on_found w (λ n i object. go (record { object = n; index = i; word = spec.operand_word types f (operand_of c.args.operand.now) st }))) h.here
    ∙ ap (λ (w : ℕ). go (record { object = c.in-Ok-Here.spot.object.birth; index = c.in-Ok-Here.spot.index; word = w })) (same_word types f m c.args.cells.now output input (operand_of c.args.operand.now) ∙ sym word)

pub returns-in-Ok-Here-clause-found : goal.returns-in-Ok-Here-clause-found
returns-in-Ok-Here-clause-found g c =
    let types = types_in c.args.scope.now in
    let f = function_in c.args.scope.now in
    let content = g.S.Store.content c.args.store.now in
    let rows = g.S.Store.rows c.args.store.now in
    let st = state_in (meant types content rows) c.args.cells.now in
    record {
      here = subst (λ (x : Place). IsPlace (kinds_of types) content rows (spec.locate types f (operand_of c.args.operand.now) st) x) c.in-Ok-Here.field-0-is c.in-Ok-Here.ensures.is;
      word = subst (λ (x : Place). BeginsAt (spec.operand_word types f (operand_of c.args.operand.now) st) x) c.in-Ok-Here.field-0-is c.in-Ok-Here.ensures.word;
    }
