-- What a variable or a target is given, as the code has it.
use Rattle.std.proofs.Common.{◌≡◌, ℕ, List, Some, sym, ap, ◌∙◌}
use Rattle.life_types.specs.declared.place.Place.{Place}
use Rattle.life_types.specs.declared.ty.Ty.{Ty}
use Rattle.life_typed.specs.Delimiters.{delimiters_view}
use Rattle.life_typed.specs.TypedForm.{Typed, whole}
use Rattle.life_typed.specs.TypedStatement.{initial_view}
use Rattle.life_typed.specs.declared.delimiters.Delimiters.{Delimiters}
use Rattle.life_typed.specs.declared.typed_expr.TypedExpr.{TypedExpr}
use Rattle.life_typed.specs.declared.typed_program.TypedLocal.{TypedLocal}
use Rattle.life_typed.specs.declared.typed_stmt.TypedInitial.{TypedInitial}
use Rattle.life_typed.specs.declared.typed_stmt.TypedInitial.TheVariants as initial
use Rattle.life_typed.specs.declared.typed_stmt.TypedList.{TypedList}
use Rattle.life_writer.specs.Around.{Around, type_of}
use Rattle.life_writer.specs.Assigning as assigning
use Rattle.life_writer.specs.Building.{Destination}
use Rattle.life_writer.specs.ExpressionForms.{uses}
use Rattle.life_writer.specs.Initialising.{initialised}
use Rattle.life_writer.specs.Lists.{built_type, listed}
use Rattle.life_writer.specs.PartUses.{expression_uses, expressions_uses}
use Rattle.life_writer.specs.Uses.{Uses}
use Rattle.life_writer.specs.Writing.{State, Gives, gives}
use Rattle.life_elab.specs.DeclarationForms.{given_initial}
use Rattle.life_elab.specs.Declarations.{variable}
use Rattle.life_elab.specs.SimpleForms.{assigned, target_of}
use Rattle.life_elab.specs.Simples.{type_in}

pub expression_declared : (a : Around) (x : TypedExpr) (v : TypedLocal) (i : TypedInitial) (t : Ty) (d : Destination) (behind : Place) (s now : State) (r : ℕ) → i ≡ initial.Expr x → t ≡ type_of a v.ty → d ≡ variable a v
    → initialised a (expression_uses a x) t behind d s ≡ gives r now → now ≡ given_initial a v (Some (initial_view i)) behind s
expression_declared a x v i t d behind s now r is type_is home_is given =
    sym
    (ap (λ (j : TypedInitial). given_initial a v (Some (initial_view j)) behind s) is
    ∙ ap (λ (u : Ty). (initialised a (expression_uses a x) u behind (variable a v) s).state) (sym type_is)
    ∙ ap (λ (y : Destination). (initialised a (expression_uses a x) t behind y s).state) (sym home_is)
    ∙ ap (λ (w : Gives ℕ). w.state) given)

module _ (a : Around) (l : TypedList) (elements : List TypedExpr) (delimiters : Delimiters) (elements_are : elements ≡ l.elements.items) (delimiters_are : delimiters ≡ l.delimiters.value) where
  abbrev list_uses : Ty → List TypedExpr → Delimiters → Uses
  list_uses t es ds = listed a (built_type a t) l.opening (expressions_uses a es) (delimiters_view ds)

  pub list_declared : (v : TypedLocal) (i : TypedInitial) (t : Ty) (d : Destination) (behind : Place) (s now : State) (r : ℕ) → i ≡ initial.List l → t ≡ type_of a v.ty → d ≡ variable a v
      → initialised a (list_uses t elements delimiters) t behind d s ≡ gives r now → now ≡ given_initial a v (Some (initial_view i)) behind s
  list_declared v i t d behind s now r is type_is home_is given =
      sym
      (ap (λ (j : TypedInitial). given_initial a v (Some (initial_view j)) behind s) is
      ∙ ap (λ (u : Ty). (initialised a (list_uses u l.elements.items l.delimiters.value) u behind (variable a v) s).state) (sym type_is)
      ∙ ap (λ (y : Destination). (initialised a (list_uses t l.elements.items l.delimiters.value) t behind y s).state) (sym home_is)
      ∙ ap (λ (es : List TypedExpr). (initialised a (list_uses t es l.delimiters.value) t behind d s).state) (sym elements_are)
      ∙ ap (λ (ds : Delimiters). (initialised a (list_uses t elements ds) t behind d s).state) (sym delimiters_are)
      ∙ ap (λ (w : Gives ℕ). w.state) given)

  pub list_assigned : (target : Typed) (i : TypedInitial) (equals behind : Place) (s : State) → i ≡ initial.List l
      → assigning.assigned (list_uses (type_in target) elements delimiters) (type_in target) (target_of (uses a (whole target))) equals behind s ≡ assigned a target equals (initial_view i) behind s
  list_assigned target i equals behind s is =
      ap (λ (es : List TypedExpr). assigning.assigned (list_uses (type_in target) es delimiters) (type_in target) (target_of (uses a (whole target))) equals behind s) elements_are
      ∙ ap (λ (ds : Delimiters). assigning.assigned (list_uses (type_in target) l.elements.items ds) (type_in target) (target_of (uses a (whole target))) equals behind s) delimiters_are
      ∙ ap (λ (j : TypedInitial). assigned a target equals (initial_view j) behind s) (sym is)
