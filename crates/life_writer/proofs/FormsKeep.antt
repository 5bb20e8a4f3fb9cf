-- What each step of writing keeps is kept by the uses of every form: a lemma a form, and one recursion.
use Rattle.std.proofs.Common.{ℕ, List, [], ◌∷◌, Option, Some, None}
use Rattle.life_types.specs.declared.place.Place.{Place}
use Rattle.life_types.specs.declared.ty.Ty.{Ty}
use Rattle.life_types.specs.declared.ty.Ty.TheVariants as ty
use Rattle.life_typed.specs.Delimiters.{DelimitersForm, behind_first, behind_others}
use Rattle.life_typed.specs.Members.{element_type}
use Rattle.life_typed.specs.declared.typed_expr.Category.{Category}
use Rattle.life_typed.specs.declared.typed_expr.ExprType.{ExprType}
use Rattle.life_typed.specs.declared.typed_expr.Method.{Method}
use Rattle.life_typed.specs.declared.typed_expr.Method.TheVariants as method
use Rattle.life_core.specs.Operands.{Operand}
use Rattle.life_core.specs.Step.{Change, Clear, PopBack, Size}
use Rattle.life_core.specs.declared.instr.Form.TheVariants.{Plain}
use Rattle.life_core.specs.declared.operand.RangeEnd.{RangeEnd}
use Rattle.life_core.specs.declared.operand.RangeEnd.TheVariants as range_end
use Rattle.life_core.specs.declared.operand.Which.{Which}
use Rattle.life_core.specs.declared.operand.Which.TheVariants as which_one
use Rattle.life_core.specs.declared.operation.Operation.TheVariants as operation
use Rattle.life_writer.proofs.GivingKeep.{AllKeep, given_over_keeps}
use Rattle.life_writer.proofs.UsesKeep.{Does, Keeps, Steps, Writes, WritesAct, WritesRest, computed_keeps, emits, lived_keeps}
use Rattle.life_writer.proofs.UsingKeep.{base_keeps, element_keeps, operand_keeps, pointer_keeps, value_keeps}
use Rattle.life_writer.specs.Around.{Around}
use Rattle.life_writer.specs.Bases.{base, element}
use Rattle.life_writer.specs.Registers.{eval}
use Rattle.life_writer.specs.MethodForms.{alone_uses, changed, count_if, cursor, cut, emptied, end_uses, erased, got, method_uses, pointing_uses, pushed_back, reserved, reset, sized}
use Rattle.life_writer.specs.OwnerForms.{move_uses, moved_from, owned_operand, replacing_uses}
use Rattle.life_writer.specs.Pointers.{Pointing}
use Rattle.life_writer.specs.Uses.{Act, Remaining, Uses, own, unused}
use Rattle.life_writer.specs.Writing.{State, Gives, gives, ◌>>◌}

module _ (Kept : State → State → Type 0) (k : Steps Kept) where
  -- ---- one use alone

  nothing_left : WritesRest Kept k (λ s. gives (λ d s. gives 0 s) s)
  nothing_left s = (k.stays s, λ d begins s. k.stays s)

  pub made_alone : (place : Place) (t : ExprType) (c : Category) (made : Place → Option ℕ → State → Gives ℕ)
      → ((behind : Place) (into : Option ℕ) → Writes Kept k (made behind into)) → Keeps Kept k (record (unused place t c) { made = made })
  made_alone place t c made makes = record {
    made = makes;
    decision = λ b. tt;
    at = k.stays;
    pointing = k.stays;
    object = nothing_left;
    replacing = tt;
    call = tt;
    alone = k.stays;
  }

  pub stands_alone : (place : Place) (t : ExprType) (c : Category) (at : State → Gives Operand) → Writes Kept k at → Keeps Kept k (record (unused place t c) { at = at })
  stands_alone place t c at stands = record {
    made = λ behind into. k.stays;
    decision = λ b. tt;
    at = stands;
    pointing = k.stays;
    object = nothing_left;
    replacing = tt;
    call = tt;
    alone = k.stays;
  }

  pub points_alone : (place : Place) (t : ExprType) (c : Category) (p : State → Gives Pointing) → Writes Kept k p → Keeps Kept k (pointing_uses p place t c)
  points_alone place t c p points = record {
    made = λ behind into. k.stays;
    decision = λ b. tt;
    at = k.stays;
    pointing = points;
    object = nothing_left;
    replacing = tt;
    call = tt;
    alone = k.stays;
  }

  pub does_alone : (place : Place) (t : ExprType) (c : Category) (does : State → State) → Does Kept k does → Keeps Kept k (alone_uses does place t c)
  does_alone place t c does keeps = record {
    made = λ behind into. k.stays;
    decision = λ b. tt;
    at = k.stays;
    pointing = k.stays;
    object = nothing_left;
    replacing = tt;
    call = tt;
    alone = keeps;
  }

  pub object_alone : (place : Place) (t : ExprType) (c : Category) (object : State → Gives Remaining) → WritesRest Kept k object
      → Keeps Kept k (record (unused place t c) { object = object })
  object_alone place t c object builds = record {
    made = λ behind into. k.stays;
    decision = λ b. tt;
    at = k.stays;
    pointing = k.stays;
    object = builds;
    replacing = tt;
    call = tt;
    alone = k.stays;
  }

  -- ---- what owns

  pub replacing_keeps : (act : State → Gives Act) → WritesAct Kept k act → (place : Place) (t : ExprType) (c : Category) → Keeps Kept k (replacing_uses act place t c)
  replacing_keeps act acts place t c = record {
    made = λ behind into. k.stays;
    decision = λ b. tt;
    at = k.stays;
    pointing = k.stays;
    object = λ s. ((acts s).0, lived_keeps Kept k Plain (act s).given (acts s).1);
    replacing = acts;
    call = tt;
    alone = k.stays;
  }

  pub move_keeps : (x : ℕ) (place : Place) (t : ExprType) (c : Category) → Keeps Kept k (move_uses x place t c)
  move_keeps x place t c = replacing_keeps (moved_from place x) (λ s. (k.stays s, λ where_ to s. emits Kept k place _ s)) place t c

  -- .. of one that may be left out
  abbrev pub KeepsIf : Option Uses → Type 0
  KeepsIf None = Unit {0}
  KeepsIf (Some e) = Keeps Kept k e

  pub owned_operand_keeps : (target : Ty) (e : Option Uses) → KeepsIf e → (closing : Place) → Writes Kept k (owned_operand target e closing)
  owned_operand_keeps target None h closing s = k.stays s
  owned_operand_keeps target (Some e) h closing s = given_over_keeps Kept k e h target closing s

  -- ---- members

  pub sized_keeps : (e : Uses) → Keeps Kept k e → (place : Place) (into : Option ℕ) → Writes Kept k (sized e place into)
  sized_keeps e h place into s = k.goes_on _ _ _ (base_keeps Kept k e h s) (computed_keeps Kept k into ty.Size place (λ r. Size r (base e s).given) _)

  pub emptied_keeps : (e : Uses) → Keeps Kept k e → (place : Place) (into : Option ℕ) → Writes Kept k (emptied e place into)
  emptied_keeps e h place into s = k.goes_on _ _ _ (sized_keeps e h place None s) (computed_keeps Kept k into ty.Bool place (eval (operation.IsZero (sized e place None s).given)) _)

  pub cursor_keeps : (e : Uses) → Keeps Kept k e → (end : RangeEnd) → Writes Kept k (cursor e end)
  cursor_keeps e h end s = base_keeps Kept k e h s

  pub got_keeps : (e : Uses) → Keeps Kept k e → Writes Kept k (got e)
  got_keeps e h s = operand_keeps Kept k e h s

  pub erased_keeps : (e : Uses) → Keeps Kept k e → (es : List Uses) → AllKeep Kept k es → Writes Kept k (erased e es)
  erased_keeps e h [] hs s = k.stays s
  erased_keeps e h (x ∷ xs) hs s = k.goes_on _ _ _ (operand_keeps Kept k e h s) (pointer_keeps Kept k x hs.0 (own x) _)

  pub count_if_keeps : (es : List Uses) → AllKeep Kept k es → (d : DelimitersForm) → Writes Kept k (count_if es d)
  count_if_keeps [] hs d s = k.stays s
  count_if_keeps (n ∷ more) hs d s = value_keeps Kept k n hs.0 (behind_first d) ty.Size None s

  pub cut_keeps : (e : Uses) → Keeps Kept k e → (es : List Uses) → AllKeep Kept k es → (d : DelimitersForm) → Writes Kept k (cut e es d)
  cut_keeps e h [] hs d s = k.stays s
  cut_keeps e h (i ∷ more) hs d s =
      k.goes_on _ _ _ (pointer_keeps Kept k e h (own e) s)
      (k.goes_on _ _ _ (value_keeps Kept k i hs.0 (behind_first d) ty.Size None _) (count_if_keeps more hs.1 (behind_others d) _))

  pub changed_keeps : (e : Uses) → Keeps Kept k e → (place : Place) (change : Change) → Does Kept k (changed e place change)
  changed_keeps e h place change s = k.goes_on _ _ _ (operand_keeps Kept k e h s) (emits Kept k place _ _)

  pub pushed_back_keeps : (e : Uses) → Keeps Kept k e → (t : Ty) (es : List Uses) → AllKeep Kept k es → (d : DelimitersForm) (place : Place) → Does Kept k (pushed_back e t es d place)
  pushed_back_keeps e h t [] hs d place s = k.stays s
  pushed_back_keeps e h t (x ∷ more) hs d place s =
      k.goes_on _ _ _ (operand_keeps Kept k e h s) (k.goes_on _ _ _ (given_over_keeps Kept k x hs.0 t (behind_first d) _) (emits Kept k place _ _))

  pub reserved_keeps : (e : Uses) → Keeps Kept k e → (es : List Uses) → AllKeep Kept k es → (d : DelimitersForm) (place : Place) → Does Kept k (reserved e es d place)
  reserved_keeps e h [] hs d place s = k.stays s
  reserved_keeps e h (n ∷ more) hs d place s =
      k.goes_on _ _ _ (operand_keeps Kept k e h s) (k.goes_on _ _ _ (value_keeps Kept k n hs.0 (behind_first d) ty.Size None _) (emits Kept k place _ _))

  pub reset_keeps : (e : Uses) → Keeps Kept k e → (place : Place) → Does Kept k (reset e place)
  reset_keeps e h place s = k.goes_on _ _ _ (operand_keeps Kept k e h s) (emits Kept k place _ _)

  pub end_keeps : (e : Uses) → Keeps Kept k e → (which : Which) (place : Place) (t : ExprType) (c : Category) → Keeps Kept k (end_uses e which place t c)
  end_keeps e h which place t c = stands_alone place t c (λ s. base e s >> λ b s. element place c b which s) (λ s. k.goes_on _ _ _ (base_keeps Kept k e h s) (element_keeps Kept k place c (base e s).given which _))

  pub method_keeps : (a : Around) (e : Uses) → Keeps Kept k e → (m : Method) (es : List Uses) → AllKeep Kept k es → (d : DelimitersForm) (place : Place) (t : ExprType) (c : Category)
      → Keeps Kept k (method_uses a e m es d place t c)
  method_keeps a e h method.Size es hs d place t c = made_alone place t c (λ behind into s. sized e place into s) (λ behind into. sized_keeps e h place into)
  method_keeps a e h method.Empty es hs d place t c = made_alone place t c (λ behind into s. emptied e place into s) (λ behind into. emptied_keeps e h place into)
  method_keeps a e h method.Front es hs d place t c = end_keeps e h which_one.First place t c
  method_keeps a e h method.Back es hs d place t c = end_keeps e h which_one.Last place t c
  method_keeps a e h method.Begin es hs d place t c = points_alone place t c (cursor e range_end.Begin) (cursor_keeps e h range_end.Begin)
  method_keeps a e h method.End es hs d place t c = points_alone place t c (cursor e range_end.End) (cursor_keeps e h range_end.End)
  method_keeps a e h method.PushBack es hs d place t c = does_alone place t c (pushed_back e (element_type a.program.types (own e)) es d place) (pushed_back_keeps e h (element_type a.program.types (own e)) es hs d place)
  method_keeps a e h method.PopBack es hs d place t c = does_alone place t c (changed e place PopBack) (changed_keeps e h place PopBack)
  method_keeps a e h method.Clear es hs d place t c = does_alone place t c (changed e place Clear) (changed_keeps e h place Clear)
  method_keeps a e h method.Reserve es hs d place t c = does_alone place t c (reserved e es d place) (reserved_keeps e h es hs d place)
  method_keeps a e h method.Erase es hs d place t c = points_alone place t c (erased e es) (erased_keeps e h es hs)
  method_keeps a e h method.Get es hs d place t c = points_alone place t c (got e) (got_keeps e h)
  method_keeps a e h method.Reset es hs d place t c = does_alone place t c (reset e place) (reset_keeps e h place)
  method_keeps a e h method.Subspan es hs d place t c = points_alone place t c (cut e es d) (cut_keeps e h es hs d)
  method_keeps a e h method.Substr es hs d place t c = points_alone place t c (cut e es d) (cut_keeps e h es hs d)
