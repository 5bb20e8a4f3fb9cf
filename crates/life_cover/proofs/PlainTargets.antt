-- What a pointer points to is plain, so no unique_ptr is behind one.
use Rattle.std.proofs.Common.{◌≡◌, ℕ, true, false, List, [], Option, Some, refl, sym, ap, ◌∙◌}
use Rattle.std.proofs.lemmas.Bool.{false≢true}
use Rattle.life_types.specs.Trees.{is_plain, tree_at, tree_of}
use Rattle.life_types.specs.TypeTests.{is_unique, is_void}
use Rattle.life_types.specs.Types.{Types}
use Rattle.life_types.specs.declared.ty.Ty.{Ty}
use Rattle.life_types.specs.declared.ty.Ty.TheVariants as ty
use Rattle.life_types.specs.declared.ty.TyId.{TyId}
use Rattle.life_types.proofs.TreeLemmas.{tree_made}
use Rattle.life_core.specs.Function.{Function}
use Rattle.life_core.specs.Operands.{Location}
use Rattle.life_core.specs.Operands as named
use Rattle.life_pset.specs.Shapes.{tree_if}
use Rattle.life_pset.specs.declared.element.Fact.{Fact}
use Rattle.life_pset.specs.declared.element.Root.{Root}
use Rattle.life_proper.specs.Placed.{type_of}
use Rattle.life_store.specs.State.{State}
use Rattle.life_forest.proofs.PlainTypes.{through_plain}
use Rattle.life_forest.proofs.TypedSteps.{operand_of, operand_same}
use Rattle.life_cover.specs.Regions.{Region}
use Rattle.life_cover.proofs.KnownFrames.{IsKnownFrame}

module _ (types : Types) (f : Function) (rest : ℕ → ℕ) (inputs : Root → Option Region) (S : Fact → Type 0) (st : State) (k : IsKnownFrame types f rest inputs S st) where
  plain_other : (t : Ty) → is_plain (tree_of types (tree_at types) (Some t)) ≡ true → is_unique t ≡ false
  plain_other (ty.Unique target) e = absurd (false≢true e)
  plain_other _ e = refl

  pub through_other : (p : Location) (members : List ℕ) → is_void (type_of types f (named.Through p members)) ≡ false → is_unique (type_of types f (named.Through p members)) ≡ false
  through_other p members solid =
      let of = operand_of types k.ordered k.once 0 [] f k.shaped (named.Through p members) (type_of types f (named.Through p members)) refl solid in
      plain_other (type_of types f (named.Through p members))
      (sym
      (ap (λ (id : Option TyId). is_plain (tree_if types id)) (operand_same types k.ordered k.once 0 [] f k.shaped (named.Through p members) ∙ of.is)
      ∙ ap is_plain (tree_made types k.ordered of.number ∙ ap (tree_of types (tree_at types)) of.there))
      ∙ through_plain types k.ordered f k.stand p members)
