-- A struct is copied to another one: from its place, or from the temporary that is made of it, also of a list.
use Rattle.std.proofs.Common.{◌≡◌, inr, ℕ, Bool, true, false, List, None, Some, sym, ap, subst}
use Rattle.life_types.specs.Types.{Types, class}
use Rattle.life_types.specs.declared.place.Place.{Place}
use Rattle.life_types.specs.declared.ty.Ty.{Ty}
use Rattle.life_types.specs.declared.ty.Ty.TheVariants as ty
use Rattle.life_typed.specs.TypedForm.{Typed, whole as whole_form, forms}
use Rattle.life_typed.specs.TypedStatement.{one, ListForm, several}
use Rattle.life_core.specs.Function.{Function}
use Rattle.life_core.specs.Operands.{Operand}
use Rattle.life_writer.specs.Around.{Around, own_type}
use Rattle.life_writer.specs.Assigning.{acted, assigned_by}
use Rattle.life_writer.specs.ExpressionForms.{uses, all_uses}
use Rattle.life_writer.specs.Using.{operand}
use Rattle.life_writer.specs.Writing.{Gives, State, gives}
use Rattle.life_elab.specs.SimpleForms.{assigned, target_of}
use Rattle.life_elab_laws.proofs.CopiedStructs.{is_copied_struct}
use Rattle.life_elab_laws.proofs.ExpressionForms.{Standing}
use Rattle.life_elab_laws.proofs.Gifts.{a_place, both, nothing as no_gift}
use Rattle.life_elab_laws.proofs.Parts.{Makes, and_part, then_part}
use Rattle.life_elab_laws.proofs.PointerForms.{placed_operand}
use Rattle.life_elab_laws.proofs.Setting.{Setting}
use Rattle.life_elab_laws.proofs.StructForms.{IsStruct}
use Rattle.life_elab_laws.proofs.StructSteps.{struct_copies_part}
use Rattle.life_elab_laws.proofs.VariablePlaces.{stands_later}
use Rattle.life_types.specs.Trees.{members_at}
use Rattle.life_well_typed.specs.Given.{is_given}
use Rattle.life_well_typed.specs.Members.{are_members}
use Rattle.life_writer.specs.Lists.{built_type, listed}
use Rattle.life_writer.specs.Uses.{Act, Uses}
use Rattle.life_elab_laws.proofs.MadeForms.{temporary_made}
use Rattle.life_elab_laws.proofs.MadeStructs.{IsAnyStruct, as_struct, struct_at, struct_by_at}
use Rattle.life_elab_laws.proofs.AdmittedTypes.{struct_tabled}
use Rattle.life_elab_laws.proofs.StructLists.{members_build}
use Rattle.life_elab_laws.proofs.StructMembers.{AreListed}

module _ (a : Around) (visible : List ℕ) (types : Types) (texts : ℕ) (fs : List Function) (f : Function) (setting : Setting a types fs f) where
  abbrev Stood : State → Type 0
  Stood s = Standing a visible types texts fs f setting s

  -- what isn't const is a place that may be written
  free_struct : (target : Typed) (to : IsStruct a visible types texts fs f setting (whole_form target)) → to.constant ≡ false → (s : State) → Stood s
      → Makes types texts fs f None s (operand (uses a (whole_form target)) s) (a_place types texts fs f (ty.Struct to.number) false)
  free_struct target to free s stands =
      subst (λ (w : Gives Operand). Makes types texts fs f None s w (a_place types texts fs f (ty.Struct to.number) false)) (sym (placed_operand a visible types texts fs f setting (whole_form target) to.id to.constant s to.place))
      (subst (λ (b : Bool). Makes types texts fs f None s ((uses a (whole_form target)).at s) (a_place types texts fs f (ty.Struct to.number) b)) free (to.names s stands))

  -- found first, and then copied there
  pub struct_copied_part : (target : Typed) (u : Uses) (constant : Bool) (equals behind : Place) (s : State) → (to : IsStruct a visible types texts fs f setting (whole_form target)) → to.constant ≡ false → is_copied_struct a.program.types to.number ≡ true
      → Makes types texts fs f None s (struct_at u.category u (ty.Struct to.number) s) (a_place types texts fs f (ty.Struct to.number) constant) → Stood s
      → Makes types texts fs f None s (gives tt (assigned_by (class (Some (own_type target.ty))) u (own_type target.ty) (target_of (uses a (whole_form target))) equals behind s)) (no_gift types texts fs f)
  struct_copied_part target u constant equals behind s to free copies first stands =
      let G = no_gift types texts fs f in
      let w = struct_at u.category u (ty.Struct to.number) s in
      let o = operand (uses a (whole_form target)) w.state in
      let P = a_place types texts fs f (ty.Struct to.number) constant in
      let Q = a_place types texts fs f (ty.Struct to.number) false in
      let second = free_struct target to free w.state (stands_later a visible s w.state first.grown stands) in
      subst (λ (t : Ty). Makes types texts fs f None s (gives tt (assigned_by (class (Some t)) u t (target_of (uses a (whole_form target))) equals behind s)) G) (sym (ap own_type to.is))
      (subst (λ (g : Gives Act). Makes types texts fs f None s (gives tt (acted g (target_of (uses a (whole_form target))) equals)) G) (sym (struct_by_at u.category u (ty.Struct to.number) s))
      (then_part types texts fs f G tt None s (gives (w.given, o.given) o.state) _ (both types texts fs f P Q) G stands.opened
      (and_part types texts fs f G tt s w o P Q stands.opened first second)
      (struct_copies_part types texts fs f setting.structs (both types texts fs f P Q) (w.given, o.given) to.number (setting.copies to.number copies) constant o.given w.given equals o.state (λ h. (h.1, h.0)) (λ n k q. (q.1, q.0)))))

  pub struct_assigned_part : (target e : Typed) (equals behind : Place) (s : State) → (to : IsStruct a visible types texts fs f setting (whole_form target)) → to.constant ≡ false → is_copied_struct a.program.types to.number ≡ true
      → IsAnyStruct a visible types texts fs f setting (whole_form e) → is_given a.program.types (ty.Struct to.number) e ≡ true → Stood s → Makes types texts fs f None s (gives tt (assigned a target equals (one e) behind s)) (no_gift types texts fs f)
  struct_assigned_part target e equals behind s to free copies from given stands =
      let of = as_struct a visible types texts fs f setting (whole_form e) to.number from given in
      struct_copied_part target (uses a (whole_form e)) of.constant equals behind s to free copies (of.found (struct_tabled a.program.types to.id to.number to.here) s stands) stands

  -- .. of a list of its members
  pub members_assigned_part : (target : Typed) (list : ListForm) (equals behind : Place) (s : State) → (to : IsStruct a visible types texts fs f setting (whole_form target)) → to.constant ≡ false → is_copied_struct a.program.types to.number ≡ true
      → AreListed a visible types texts fs f setting (forms list.elements) → are_members a.program.types (members_at a.program.types to.number) (forms list.elements) ≡ true → Stood s
      → Makes types texts fs f None s (gives tt (assigned a target equals (several list) behind s)) (no_gift types texts fs f)
  members_assigned_part target list equals behind s to free copies elements all stands =
      let es = forms list.elements in
      let t = ty.Struct to.number in
      let u = listed a t list.opening (all_uses a es) list.delimiters in
      let tabled = struct_tabled a.program.types to.id to.number to.here in
      let builds = members_build a visible types texts fs f setting to.number list.opening es list.delimiters s elements all in
      subst (λ (q : Ty). Makes types texts fs f None s (gives tt (assigned_by (class (Some (own_type target.ty))) (listed a (built_type a q) list.opening (all_uses a es) list.delimiters) (own_type target.ty) (target_of (uses a (whole_form target))) equals behind s)) (no_gift types texts fs f)) (sym (ap own_type to.is))
      (struct_copied_part target u false equals behind s to free copies (temporary_made a visible types texts fs f setting t u.place s (u.object s) (inr (inr tabled)) builds stands) stands)
