use Rattle.std.proofs.Common.{ℕ, ap, arith, rules, ◌∙◌}
use Rattle.std.proofs.lemmas.Int.{to_z-of_z}
use mir.Val.{SFits}
use Rattle.std.specs.Int.{w64, cast_unsigned}
use Rattle.life_store.specs.Effects.{Attempt, then_get}
use Rattle.life_seen.specs.Seen.{seen}
use Rattle.life_pointers.specs.Owned.{element_in}
use Rattle.life_pointers.specs.Pointers.{pointer_seen}
use Rattle.life_pointers.specs.declared.choosing.Choice.TheVariants as choice
use Rattle.life_pointers.proofs.Owning.{element_there}
use Rattle.life_interp.proofs.SpotLemmas.{chosen_at}
use Rattle.life_interp.proofs.spots.element_at.Goals as goal

pub returns-then-index-length-clause-is : goal.returns-then-index-length-clause-is
returns-then-index-length-clause-is g c = λ kinds o is.
    let m = seen kinds (g.S.Store.content c.args.store.now) (g.S.Store.rows c.args.store.now) in
    let b = c.in-Ok.object.birth in
    let ref = c.in-Ok.ensures.fits kinds o is in
    let fits : SFits w64 c.args.number = search rules in
    element_there m (choice.At c.args.number) b c.length.result c.cast_unsigned-index.result c.now.result (pointer_seen c.place_pointer.result)
    (chosen_at c.args.number c.cast_unsigned-index.result c.length.result (c.cast_unsigned-index.ensures ∙ ap (cast_unsigned w64) (to_z-of_z w64 c.args.number fits)) c.if-index-length.true) (c.length.ensures.is kinds is.housed ref) c.now.ensures c.place_pointer.ensures.is
    ∙ ap (λ (a : Attempt ℕ). then_get a (λ n. element_in m (choice.At c.args.number) n)) (c.in-Ok.ensures.is kinds o is)

pub returns-then-index-length-clause-fits : goal.returns-then-index-length-clause-fits
returns-then-index-length-clause-fits g c = λ kinds o is can.
    c.place_pointer.ensures.fits (g.S.Store.content c.args.store.now) (g.S.Store.rows c.args.store.now) (c.in-Ok.ensures.fits kinds o is) (omega (arith, can.clock, c.now.ensures))
