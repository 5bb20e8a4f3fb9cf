-- A temporary can end: it is an object, and neither the result nor a slot.
use Rattle.std.proofs.Common.{◌≡◌, ◌&&◌, ◌||◌, ℕ, Bool, true, false, not, nat_eq, List, slice_get, Option, Some, is_none, refl, sym, ap, ◌∙◌, arith, ◌≤◌, ◌<◌, None}
use Rattle.std.proofs.lemmas.Bool.{and_from, false≢true, or_left}
use Rattle.std.proofs.lemmas.Bool.Decides.{nat_tests}
use Rattle.life_types.specs.Pointees.{ty_of}
use Rattle.life_types.specs.TypeTests.{is_pointer, is_void}
use Rattle.life_types.specs.Types.{Types, is_slot_type}
use Rattle.life_types.specs.declared.ty.NameId.{NameId}
use Rattle.life_types.specs.declared.ty.Ty.{Ty}
use Rattle.life_types.specs.declared.ty.Ty.TheVariants as ty
use Rattle.life_core.specs.Function.{Function}
use Rattle.life_core.specs.Kinds.{is_object}
use Rattle.life_core.specs.declared.program.Local.{Local}
use Rattle.life_core.specs.declared.program.LocalKind.{LocalKind}
use Rattle.life_proper.specs.Placed.{is_slot_local, object_at, result_at, slot_at}
use Rattle.life_proper.specs.Placed as placed
use Rattle.life_proper.specs.WellFormed.{can_end}
use Rattle.life_elab_laws.proofs.EndSteps.{ends_here}
use Rattle.life_elab_laws.proofs.OperandsThere.{object_there}
use Rattle.life_elab_laws.proofs.PendingTemporaries.{IsTemporary}
use Rattle.life_elab_laws.proofs.Shaping.{is_lasting, lasts_at}

plain_no_slot : (types : Types) (t : Ty) → is_pointer t ≡ false → is_slot_type types (Some t) ≡ false
plain_no_slot types (ty.Reference target constant) plain = absurd (false≢true (sym plain))
plain_no_slot types _ plain = refl

module _ (types : Types) (texts : ℕ) (fs : List Function) (f : Function) where
  -- .. of this function
  abbrev pub TemporariesEnd : ℕ → Type 0
  TemporariesEnd low = (y : ℕ) → IsTemporary low f.locals types.types y → ends_here types texts fs f y ≡ true

  -- what lies beyond the result isn't it
  pub beyond_result : (low y : ℕ) → (is_void (ty_of types f.result) ≡ false → f.parameters < low) → low ≤ y → not (result_at types f y) ≡ true
  beyond_result low y own beyond = go (is_void (ty_of types f.result)) (nat_eq y f.parameters) refl refl
    where
      one : (a b : ℕ) → nat_eq a b ≡ true → a ≡ b
      one a b h = grind (arith, nat_tests)

      go : (v e : Bool) → is_void (ty_of types f.result) ≡ v → nat_eq y f.parameters ≡ e → not (not v && e) ≡ true
      go true e vs es = refl
      go false false vs es = refl
      go false true vs es = let e = one y f.parameters es in absurd (omega (arith, e, beyond, own vs))

  -- .. nor is what has a name
  pub named_result : ((l : Local) → slice_get f.locals f.parameters ≡ Some l → is_void (ty_of types f.result) ≡ false → l.name ≡ None) → (y : ℕ) (l : Local) → slice_get f.locals y ≡ Some l → (l.name ≡ None → ⊥) → not (result_at types f y) ≡ true
  named_result nameless y l at named = go (is_void (ty_of types f.result)) (nat_eq y f.parameters) refl refl
    where
      one : (a b : ℕ) → nat_eq a b ≡ true → a ≡ b
      one a b h = grind (arith, nat_tests)

      go : (v e : Bool) → is_void (ty_of types f.result) ≡ v → nat_eq y f.parameters ≡ e → not (not v && e) ≡ true
      go true e vs es = refl
      go false false vs es = refl
      go false true vs es = absurd (named (nameless l (ap (slice_get f.locals) (sym (one y f.parameters es)) ∙ at) vs))

  pub temporary_ends : (low : ℕ) → (is_void (ty_of types f.result) ≡ false → f.parameters < low) → TemporariesEnd low
  temporary_ends low own y is =
      and_from (can_end types texts fs f y) (lasts_at f y)
      (and_from (object_at types f y || is_pointer (placed.type_at types f y)) _ (or_left (object_at types f y) _ (object_there types f y is.local is.there is.kind))
      (and_from (not (result_at types f y)) (not (slot_at types f y)) (beyond_result low y own is.beyond)
      (ap (λ (o : Option Local). not (is_slot_local types f o)) is.there ∙ ap not (ap (is_slot_type types) is.typed ∙ plain_no_slot types is.ty is.plain))))
      (ap is_lasting is.there
      ∙ ap (λ (k : LocalKind). not (is_none is.local.name && not (is_object k))) is.kind
      ∙ ap (λ (o : Option NameId). not (is_none o && false)) is.nameless)
