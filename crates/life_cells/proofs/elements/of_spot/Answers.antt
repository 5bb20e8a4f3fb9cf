use Rattle.std.proofs.Common.{IfSome, Option, ap, refl, rules, subst, sym, ◌∙◌}
use Rattle.std.proofs.lemmas.Int.{to_z-of_z}
use mir.Val.{SFits}
use Rattle.std.specs.Int.{w64}
use Rattle.std.specs.Prelude.{ℤ}
use Rattle.life_core.specs.declared.operand.Which.{Which}
use Rattle.life_core.specs.declared.operand.Which.TheVariants as which
use Rattle.life_store.specs.Content.{Object}
use Rattle.life_store.specs.Doing.{owner_element}
use Rattle.life_store.specs.Edits.{owned_at}
use Rattle.life_store.specs.Effects.{Attempt, on_got}
use Rattle.life_store.specs.Places.{pointed}
use Rattle.life_store.specs.References.{HasWord}
use Rattle.life_store.specs.State.{Pointer}
use Rattle.life_seen.specs.Kinds.{kinds_of}
use Rattle.life_words.specs.Owning.{number_of}
use Rattle.life_pointers.specs.Attempts.{tried}
use Rattle.life_pointers.specs.Owned.{owned_element, spot_seen}
use Rattle.life_pointers.specs.Pointers.{pointer_seen}
use Rattle.life_pointers.specs.declared.choosing.Choice.TheVariants as choice
use Rattle.life_pointers.proofs.MeantSteps.{owned_target_is}
use Rattle.life_cells.specs.Cells.{state_of}
use Rattle.life_cells.specs.Fits.{meant}
use Rattle.life_cells.specs.Scopes.{function_in, types_in}
use Rattle.life_cells.proofs.Choosing.{at_none, at_number, owned_stops, owned_there}
use Rattle.life_cells.proofs.StepLemmas.{stops_alike}
use Rattle.life_cells.proofs.elements.of_spot.Goals as goal

pub returns-in-Target-clause-is : goal.returns-in-Target-clause-is
returns-in-Target-clause-is g c = λ p output input.
    let types = types_in c.args.scope.now in
    let f = function_in c.args.scope.now in
    let content = g.S.Store.content c.args.store.now in
    let rows = g.S.Store.rows c.args.store.now in
    let m = meant types content rows in
    let st = state_of m c.args.cells.now output input in
    ap (λ (w : Which). owner_element types f p (spot_seen c.args.owner) w st) c.in-Target.is
    ∙ owned_target_is types f st p (owned_at m (spot_seen c.args.owner))
    ∙ ap (λ (a : Attempt Pointer). on_got a (λ v. pointed types f p v st)) (sym (c.owned_target.ensures.is (kinds_of types) c.requires.owns.object c.requires.owns.is))

pub returns-in-Target-clause-fits : goal.returns-in-Target-clause-fits
returns-in-Target-clause-fits g c = c.owned_target.ensures.fits (kinds_of (types_in c.args.scope.now)) c.requires.owns.object c.requires.owns.is c.requires.fits.countable

pub owned_target-requires : goal.owned_target-requires
owned_target-requires g c =
    subst (λ (x : Option Object). IfSome x (HasWord c.args.owner.index c.args.owner.word)) (sym c.requires.owns.is.there) c.requires.owns.word

pub returns-in-First-clause-is : goal.returns-in-First-clause-is
returns-in-First-clause-is g c = λ p output input.
    let types = types_in c.args.scope.now in
    let f = function_in c.args.scope.now in
    let content = g.S.Store.content c.args.store.now in
    let rows = g.S.Store.rows c.args.store.now in
    let m = meant types content rows in
    let st = state_of m c.args.cells.now output input in
    ap (λ (w : Which). owner_element types f p (spot_seen c.args.owner) w st) c.in-First.is
    ∙ owned_there types f st p which.First (spot_seen c.args.owner) choice.First (tried pointer_seen c.owned_element.result) (λ size. refl) (c.owned_element.ensures.is (kinds_of types) c.requires.owns.object c.requires.owns.is)

pub returns-in-First-clause-fits : goal.returns-in-First-clause-fits
returns-in-First-clause-fits g c = c.owned_element.ensures.fits (kinds_of (types_in c.args.scope.now)) c.requires.owns.object c.requires.owns.is c.requires.fits.countable

pub owned_element-requires : goal.owned_element-requires
owned_element-requires g c =
    subst (λ (x : Option Object). IfSome x (HasWord c.args.owner.index c.args.owner.word)) (sym c.requires.owns.is.there) c.requires.owns.word

pub returns-in-Last-clause-is : goal.returns-in-Last-clause-is
returns-in-Last-clause-is g c = λ p output input.
    let types = types_in c.args.scope.now in
    let f = function_in c.args.scope.now in
    let content = g.S.Store.content c.args.store.now in
    let rows = g.S.Store.rows c.args.store.now in
    let m = meant types content rows in
    let st = state_of m c.args.cells.now output input in
    ap (λ (w : Which). owner_element types f p (spot_seen c.args.owner) w st) c.in-Last.is
    ∙ owned_there types f st p which.Last (spot_seen c.args.owner) choice.Last (tried pointer_seen c.owned_element-in-Last.result) (λ size. refl) (c.owned_element-in-Last.ensures.is (kinds_of types) c.requires.owns.object c.requires.owns.is)

pub returns-in-Last-clause-fits : goal.returns-in-Last-clause-fits
returns-in-Last-clause-fits g c = c.owned_element-in-Last.ensures.fits (kinds_of (types_in c.args.scope.now)) c.requires.owns.object c.requires.owns.is c.requires.fits.countable

pub owned_element-requires-in-Last : goal.owned_element-requires-in-Last
owned_element-requires-in-Last g c =
    subst (λ (x : Option Object). IfSome x (HasWord c.args.owner.index c.args.owner.word)) (sym c.requires.owns.is.there) c.requires.owns.word

pub returns-in-Some-clause-is : goal.returns-in-Some-clause-is
returns-in-Some-clause-is g c = λ p output input.
    let types = types_in c.args.scope.now in
    let f = function_in c.args.scope.now in
    let content = g.S.Store.content c.args.store.now in
    let rows = g.S.Store.rows c.args.store.now in
    let m = meant types content rows in
    let st = state_of m c.args.cells.now output input in
    let number = c.in-Some.index in
    let fits : SFits w64 number = search rules in
    ap (λ (w : Which). owner_element types f p (spot_seen c.args.owner) w st) c.in-Index.is
    ∙ owned_there types f st p (which.Index c.in-Index.register) (spot_seen c.args.owner) (choice.At number) (tried pointer_seen c.owned_element-in-Some.result) (at_number st c.in-Index.register number c.in-Some.ensures)
    (c.owned_element-in-Some.ensures.is (kinds_of types) c.requires.owns.object c.requires.owns.is ∙ ap (λ (z : ℤ). owned_element m (choice.At z) (spot_seen c.args.owner)) (to_z-of_z w64 number fits))

pub returns-in-Some-clause-fits : goal.returns-in-Some-clause-fits
returns-in-Some-clause-fits g c = c.owned_element-in-Some.ensures.fits (kinds_of (types_in c.args.scope.now)) c.requires.owns.object c.requires.owns.is c.requires.fits.countable

pub owned_element-requires-in-Some : goal.owned_element-requires-in-Some
owned_element-requires-in-Some g c =
    subst (λ (x : Option Object). IfSome x (HasWord c.args.owner.index c.args.owner.word)) (sym c.requires.owns.is.there) c.requires.owns.word

pub buffer-requires : goal.buffer-requires
buffer-requires g c =
    subst (λ (x : Option Object). IfSome x (HasWord c.args.owner.index c.args.owner.word)) (sym c.requires.owns.is.there) c.requires.owns.word

pub returns-in-Err-clause-is : goal.returns-in-Err-clause-is
returns-in-Err-clause-is g c = λ p output input.
    let types = types_in c.args.scope.now in
    let f = function_in c.args.scope.now in
    let content = g.S.Store.content c.args.store.now in
    let rows = g.S.Store.rows c.args.store.now in
    let m = meant types content rows in
    let st = state_of m c.args.cells.now output input in
    ap (λ (w : Which). owner_element types f p (spot_seen c.args.owner) w st) c.in-Index.is
    ∙ owned_stops types f st p (which.Index c.in-Index.register) (spot_seen c.args.owner) _ (at_none st c.in-Index.register c.in-None.ensures) (c.in-Err.ensures.is (kinds_of types) c.requires.owns.object c.requires.owns.is)
    ∙ stops_alike number_of pointer_seen _ _ c.in-Err.stop

pub returns-in-Ok-clause-is : goal.returns-in-Ok-clause-is
returns-in-Ok-clause-is g c = λ p output input.
    let types = types_in c.args.scope.now in
    let f = function_in c.args.scope.now in
    let content = g.S.Store.content c.args.store.now in
    let rows = g.S.Store.rows c.args.store.now in
    let m = meant types content rows in
    let st = state_of m c.args.cells.now output input in
    ap (λ (w : Which). owner_element types f p (spot_seen c.args.owner) w st) c.in-Index.is
    ∙ owned_stops types f st p (which.Index c.in-Index.register) (spot_seen c.args.owner) _ (at_none st c.in-Index.register c.in-None.ensures) (c.in-Ok.ensures.is (kinds_of types) c.requires.owns.object c.requires.owns.is)
