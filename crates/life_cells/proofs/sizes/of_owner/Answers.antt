use Rattle.std.proofs.Common.{IfSome, Option, subst, sym, ◌∙◌}
use Rattle.life_store.specs.Content.{Object}
use Rattle.life_store.specs.References.{HasWord}
use Rattle.life_seen.specs.Kinds.{kinds_of}
use Rattle.life_pointers.specs.Attempts.{itself}
use Rattle.life_pointers.specs.Owned.{spot_seen}
use Rattle.life_cells.specs.Cells.{state_of}
use Rattle.life_cells.specs.Fits.{meant}
use Rattle.life_cells.specs.Scopes.{function_in, types_in}
use Rattle.life_cells.proofs.StepLemmas.{stops_alike}
use Rattle.std.proofs.Common.{ℕ, ap}
use Rattle.std.specs.Prelude.{pos}
use Rattle.life_store.specs.Edits.{buffer_of, size_of}
use Rattle.life_store.specs.Effects.{Attempt, Next, on_got, put_cell}
use Rattle.life_store.specs.State.{Number}
use Rattle.life_pointers.proofs.MeantSteps.{owned_size_is}
use Rattle.life_cells.proofs.sizes.of_owner.Goals as goal

pub returns-in-Err-clause-is : goal.returns-in-Err-clause-is
returns-in-Err-clause-is g c = λ r output input.
    let types = types_in c.args.scope.now in
    let content = g.S.Store.content c.args.store.now in
    let rows = g.S.Store.rows c.args.store.now in
    let m = meant types content rows in
    let st = state_of m c.args.cells.now output input in
    c.in-Err.ensures.is output input (λ spot. on_got (buffer_of m spot) (λ b. Next (put_cell r (Number (pos (size_of m b))) st))) ∙ stops_alike spot_seen itself _ _ c.in-Err.stop

pub owned_size-requires : goal.owned_size-requires
owned_size-requires g c =
    subst (λ (x : Option Object). IfSome x (HasWord c.in-Ok.owner.index c.in-Ok.owner.word)) (sym c.in-Ok.ensures.owns.is.there) c.in-Ok.ensures.owns.word

pub returns-in-Err-owned_size-clause-is : goal.returns-in-Err-owned_size-clause-is
returns-in-Err-owned_size-clause-is g c = λ r output input.
    let types = types_in c.args.scope.now in
    let f = function_in c.args.scope.now in
    let content = g.S.Store.content c.args.store.now in
    let rows = g.S.Store.rows c.args.store.now in
    let m = meant types content rows in
    let st = state_of m c.args.cells.now output input in
    let counted = λ (n : ℕ). Next (put_cell r (Number (pos n)) st) in
    c.in-Ok.ensures.is output input (λ spot. on_got (buffer_of m spot) (λ b. counted (size_of m b)))
    ∙ owned_size_is types f st r (spot_seen c.in-Ok.owner)
    ∙ ap (λ (a : Attempt ℕ). on_got a counted) (sym (c.in-Err-owned_size.ensures (kinds_of types) c.in-Ok.ensures.owns.object c.in-Ok.ensures.owns.is))
    ∙ stops_alike itself itself counted counted c.in-Err-owned_size.stop

pub returns-in-Ok-owned_size-clause-is : goal.returns-in-Ok-owned_size-clause-is
returns-in-Ok-owned_size-clause-is g c = λ r output input.
    let types = types_in c.args.scope.now in
    let f = function_in c.args.scope.now in
    let content = g.S.Store.content c.args.store.now in
    let rows = g.S.Store.rows c.args.store.now in
    let m = meant types content rows in
    let st = state_of m c.args.cells.now output input in
    let counted = λ (n : ℕ). Next (put_cell r (Number (pos n)) st) in
    c.in-Ok.ensures.is output input (λ spot. on_got (buffer_of m spot) (λ b. counted (size_of m b)))
    ∙ owned_size_is types f st r (spot_seen c.in-Ok.owner)
    ∙ ap (λ (a : Attempt ℕ). on_got a counted) (sym (c.in-Ok-owned_size.ensures (kinds_of types) c.in-Ok.ensures.owns.object c.in-Ok.ensures.owns.is))
