-- What each step of writing keeps is kept where expressions are used whose uses keep it.
use Rattle.std.proofs.Common.{ℕ, Option, Some, None}
use Rattle.life_types.specs.contracts.ty.TyPartialEq.TheImpl.{ghosts as compared}
use Rattle.life_types.specs.declared.place.Place.{Place}
use Rattle.life_types.specs.declared.ty.Ty.{Ty}
use Rattle.life_types.specs.declared.ty.Ty.TheVariants as ty
use Rattle.life_typed.specs.Operators.{is_nullable}
use Rattle.life_typed.specs.declared.typed_expr.Category.{Category}
use Rattle.life_typed.specs.declared.typed_expr.Category.TheVariants as category
use Rattle.life_core.specs.Operands.{Base, Characters, Location, Operand, Whole}
use Rattle.life_core.specs.Step.{Append, Change, Element, NonZero, NotNull, Set}
use Rattle.life_core.specs.Tree.{Tree}
use Rattle.life_core.specs.declared.operand.Which.{Which}
use Rattle.life_writer.proofs.UsesKeep.{Does, DoesTo, Keeps, Steps, Writes, WritesIf, built_keeps, computed_keeps, emits, if_keeps, located_keeps, read_keeps, temporary_keeps, tested_keeps, value_from_keeps, wanted_keeps}
use Rattle.life_writer.specs.Bases.{base, base_by, element, reference_to}
use Rattle.life_writer.specs.Behind.{lasting}
use Rattle.life_writer.specs.Building.{Fill}
use Rattle.life_writer.specs.Characters.{Seen, InRegister, InString, InView, changed_by, characters, concatenated, seen, seen_by, viewed}
use Rattle.life_writer.specs.Conditions.{non_zero, not_null}
use Rattle.life_writer.specs.Pointers.{aimed}
use Rattle.life_writer.specs.Registers.{as_type, computed, conversion, wanted}
use Rattle.life_writer.specs.Temporaries.{temporary}
use Rattle.life_writer.specs.Uses.{Uses, own}
use Rattle.life_writer.specs.Using.{condition, condition_by, nullable, operand, operand_by, owned_by, pointer, pointing, pointing_by, register_type, temporary_of, tested_type, value}
use Rattle.life_writer.specs.Values as values
use Rattle.life_writer.specs.Writing.{State, Gives, mapped}
use Rattle.life_writer.specs.declared.behind.Behind.{Behind}

module _ (Kept : State → State → Type 0) (k : Steps Kept) where
  -- ---- values

  pub as_type_keeps : (from to : Ty) (place : Place) (value : Option ℕ → State → Gives ℕ) → ((into : Option ℕ) → Writes Kept k (value into))
      → (into : Option ℕ) → Writes Kept k (as_type from to place value into)
  as_type_keeps from to place value keeps into s =
      if_keeps Kept k (compared.eq from to) (value into s) (computed into to place (conversion (value None s).given) (value None s).state) s (keeps into s) (k.goes_on _ _ _ (keeps None s) (computed_keeps Kept k into to place (conversion (value None s).given) _))

  pub value_keeps : (e : Uses) → Keeps Kept k e → (behind : Place) (to : Ty) (into : Option ℕ) → Writes Kept k (value e behind to into)
  value_keeps e h behind to into =
      as_type_keeps (own e) to e.place (values.value_from (own e) e.place e.category (e.decision (lasting behind)) e.at (e.made behind))
      (value_from_keeps Kept k (own e) e.place e.category (e.decision (lasting behind)) e.at (e.made behind) (h.decision (lasting behind)) h.at (h.made behind))
      into

  -- ---- places

  pub temporary_of_keeps : (e : Uses) → Keeps Kept k e → (t : Ty) → Writes Kept k (temporary_of e t)
  temporary_of_keeps e h t s = k.goes_on _ _ _ (h.object s).0 ((h.object s).1 (temporary e.place t) (temporary_keeps Kept k e.place t) _)

  pub operand_by_keeps : (c : Category) (at : State → Gives Operand) (made : State → Gives ℕ) → Writes Kept k at → Writes Kept k made → Writes Kept k (operand_by c at made)
  operand_by_keeps category.Value at made stands makes s = makes s
  operand_by_keeps (category.Place id constant) at made stands makes s = stands s

  pub operand_keeps : (e : Uses) → Keeps Kept k e → Writes Kept k (operand e)
  operand_keeps e h = operand_by_keeps e.category e.at (temporary_of e (own e)) h.at (temporary_of_keeps e h (own e))

  -- ---- pointers

  pub owned_by_keeps : (c : Category) (at : State → Gives Operand) (made : State → Gives ℕ) → Writes Kept k at → Writes Kept k made → Writes Kept k (owned_by c at made)
  owned_by_keeps category.Value at made stands makes s = makes s
  owned_by_keeps (category.Place id constant) at made stands makes s = stands s

  pub pointing_by_keeps : (t : Ty) (e : Uses) → Keeps Kept k e → Writes Kept k (pointing_by t e)
  pointing_by_keeps ty.Text e h s = operand_keeps e h s
  pointing_by_keeps (ty.Vector item) e h s = operand_keeps e h s
  pointing_by_keeps (ty.Unique target) e h s = owned_by_keeps e.category e.at (temporary_of e (own e)) h.at (temporary_of_keeps e h (own e)) s
  pointing_by_keeps _ e h s = h.pointing s

  pub pointing_keeps : (e : Uses) → Keeps Kept k e → Writes Kept k (pointing e)
  pointing_keeps e h s = pointing_by_keeps (own e) e h s

  pub pointer_keeps : (e : Uses) → Keeps Kept k e → (t : Ty) → Writes Kept k (pointer e t)
  pointer_keeps e h t s = k.goes_on _ _ _ (pointing_keeps e h s) (located_keeps Kept k e.place (register_type t (own e)) (pointing e s).given _)

  pub nullable_keeps : (e : Uses) → Keeps Kept k e → Writes Kept k (nullable e)
  nullable_keeps e h s = k.goes_on _ _ _ (pointing_keeps e h s) (located_keeps Kept k e.place (tested_type (own e)) (pointing e s).given _)

  -- ---- conditions

  pub not_null_keeps : (place : Place) (ends : Option Place) (p : State → Gives Location) → Writes Kept k p → Writes Kept k (not_null place ends p)
  not_null_keeps place ends p keeps s = tested_keeps Kept k place ends (λ s. mapped NotNull (p s)) keeps s

  pub non_zero_keeps : (place : Place) (ends : Option Place) (v : State → Gives ℕ) → Writes Kept k v → Writes Kept k (non_zero place ends v)
  non_zero_keeps place ends v keeps s = tested_keeps Kept k place ends (λ s. mapped NonZero (v s)) keeps s

  pub condition_by_keeps : (d : Option (State → Gives Tree)) (t : Ty) (place : Place) (ends : Option Place) (p : State → Gives Location) (v : State → Gives ℕ)
      → WritesIf Kept k d → Writes Kept k p → Writes Kept k v → Writes Kept k (condition_by d t place ends p v)
  condition_by_keeps (Some d) t place ends p v decides points gives s = decides s
  condition_by_keeps None t place ends p v decides points gives s =
      if_keeps Kept k (is_nullable t) (not_null place ends p s) (non_zero place ends v s) s (not_null_keeps place ends p points s) (non_zero_keeps place ends v gives s)

  pub condition_keeps : (e : Uses) → Keeps Kept k e → (b : Behind) → Writes Kept k (condition e b)
  condition_keeps e h b =
      condition_by_keeps (e.decision b) (own e) e.place b.ends (nullable e) (values.read_or_made (own e) e.place e.category e.at (e.made b.token) None)
      (h.decision b) (nullable_keeps e h) (read_keeps Kept k (own e) e.place e.category e.at (e.made b.token) h.at (h.made b.token) None)

  -- ---- characters

  pub seen_by_keeps : (t : Ty) (e : Uses) → Keeps Kept k e → Writes Kept k (seen_by t e)
  seen_by_keeps ty.Text e h s = operand_keeps e h s
  seen_by_keeps ty.Char e h s = value_keeps e h e.place ty.Char None s
  seen_by_keeps _ e h s = pointer_keeps e h ty.View s

  pub seen_keeps : (e : Uses) → Keeps Kept k e → Writes Kept k (seen e)
  seen_keeps e h s = seen_by_keeps (own e) e h s

  pub viewed_keeps : (x : Seen) → Writes Kept k (viewed x)
  viewed_keeps (InString place o) s = located_keeps Kept k place ty.View (aimed (Whole o)) s
  viewed_keeps (InView l) s = k.stays s
  viewed_keeps (InRegister r) s = k.stays s

  pub characters_keeps : (x : Seen) → Writes Kept k (characters x)
  characters_keeps (InString place o) s = viewed_keeps (InString place o) s
  characters_keeps (InView l) s = k.stays s
  characters_keeps (InRegister r) s = k.stays s

  pub changed_by_keeps : (change : Characters → Change) (at : Place) (x : Seen) (to : Operand) → Does Kept k (changed_by change at x to)
  changed_by_keeps change at x to s = k.goes_on _ _ _ (characters_keeps x s) (emits Kept k at _ _)

  pub concatenated_keeps : (at : Place) (x y : Seen) → DoesTo Kept k (concatenated at x y)
  concatenated_keeps at x y place to s = k.goes_on _ _ _ (changed_by_keeps Set at x to s) (changed_by_keeps Append at y to _)

  -- ---- what has elements

  pub base_by_keeps : (t : Ty) (e : Uses) → Keeps Kept k e → Writes Kept k (base_by t e)
  base_by_keeps ty.View e h s = pointer_keeps e h (own e) s
  base_by_keeps (ty.Span target constant) e h s = pointer_keeps e h (own e) s
  base_by_keeps _ e h s = operand_keeps e h s

  pub base_keeps : (e : Uses) → Keeps Kept k e → Writes Kept k (base e)
  base_keeps e h s = base_by_keeps (own e) e h s

  pub element_keeps : (place : Place) (c : Category) (b : Base) (which : Which) → Writes Kept k (element place c b which)
  element_keeps place c b which s =
      built_keeps Kept k (Fill place (λ p. Element p b which)) (wanted place None (reference_to c)) (wanted_keeps Kept k place None (reference_to c)) s
