-- What views see, of which a frame that is sound says that it is characters.
use Rattle.std.proofs.Common.{◌≡◌, ℕ, ◌+◌, Bool, true, List, Option, Some, refl, sym, ap, subst, ◌∙◌, arith}
use Rattle.std.proofs.lemmas.Bool.{false≢true}
use Rattle.life_types.specs.Trees.{IsOrdered}
use Rattle.life_types.specs.TypeTests.{is_pointer}
use Rattle.life_types.specs.Types.{HasEachOnce, Types}
use Rattle.life_types.specs.declared.ty.Ty.{Ty}
use Rattle.life_types.specs.declared.ty.Ty.TheVariants as ty
use Rattle.life_types.specs.declared.ty.TyId.{TyId}
use Rattle.life_core.specs.Function.{Function}
use Rattle.life_core.specs.Operands.{Location}
use Rattle.life_proper.specs.OperandTypes.{are_compared}
use Rattle.life_proper.specs.Placed.{type_in}
use Rattle.life_store.specs.Kinds.{Plain, kind_in}
use Rattle.life_store.specs.Parts.{Parts, Iterates, Views, characters_type, location_parts, location_type, parts_at, parts_if, width, width_at}
use Rattle.life_store.specs.State.{To, State}
use Rattle.life_forest.specs.FrameTypes.{Aims, seen_in, seen_type}
use Rattle.life_forest.specs.Settled.{PointersFit}
use Rattle.life_forest.specs.Sorted.{AreSorted, PointerFits}
use Rattle.life_forest.proofs.SeenTypes.{character_parts, parts_typed}
use Rattle.life_forest.proofs.Shaped.{IsShaped}
use Rattle.life_forest.proofs.TypedSteps.{PointersAim, pointer_of}
use Rattle.life_cells.specs.Typed.{SeesCharacters}

module _ (types : Types) (ordered : IsOrdered types) (once : HasEachOnce types) (texts : ℕ) (fs : List Function) (f : Function) (shaped : IsShaped types f) (st : State) (aims : PointersAim types f st) (sorted : AreSorted types f st.cells) (fits : PointersFit types f st) where
  pub views_see : (l : Location) → type_in types f l ≡ ty.View → SeesCharacters types f l st
  views_see l view t o points there =
      let of = pointer_of types ordered once texts fs f shaped st aims sorted l ty.View view refl in
      let seen : seen_type types (location_type types f l) ≡ Some (characters_type types) = ap (seen_type types) of.takes.0 ∙ ap (seen_in types) of.there in
      let aim = subst (λ (id : Option TyId). Aims types st.world.content id t) seen (aims l of.part of.takes.0 of.takes.1 (To t) points) in
      let first = subst (λ (u : Ty). PointerFits u (To t)) view (fits l (To t) (ap is_pointer view) points) refl in
      let single = character_parts types ordered in
      let one : width_at types (characters_type types) ≡ 1 = ap width single in
      let word : t.word + 0 ≡ 0 = omega (arith, first) in
      subst (λ k. kind_in (parts_at types o.ty) k ≡ Plain) word ((aim.place o (characters_type types) there refl).words 0 (omega (arith, one)) ∙ ap (λ (p : Parts). kind_in p 0) single)

  iterator_parts : (l : Location) (target : TyId) (constant : Bool) → type_in types f l ≡ ty.Iterator target constant → location_parts types f l ≡ Iterates
  iterator_parts l target constant is =
      let of = pointer_of types ordered once texts fs f shaped st aims sorted l (ty.Iterator target constant) is refl in
      ap (parts_if types) of.takes.0 ∙ parts_typed types ordered of.part (ty.Iterator target constant) of.there

  -- where two are compared that are no iterators, both see characters
  pub compared_see : (a b : Location) (t u : Ty) → type_in types f a ≡ t → type_in types f b ≡ u → are_compared types t u ≡ true → location_parts types f a ≡ Views → SeesCharacters types f a st × SeesCharacters types f b st
  compared_see a b (ty.Iterator t c) (ty.Iterator u d) is_a is_b e views = absurd (unlike (sym (iterator_parts a t c is_a) ∙ views))
    where
      unlike : Iterates ≡ Views → ⊥
      unlike k = cc
  compared_see a b ty.View ty.View is_a is_b e views = (views_see a is_a, views_see b is_b)
  compared_see a b _ _ is_a is_b e views = absurd (false≢true e)
