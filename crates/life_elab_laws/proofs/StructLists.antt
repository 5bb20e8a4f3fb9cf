-- What a list builds for a struct: each member is given one after the other, where the struct has come to life.
use Rattle.std.proofs.Common.{◌≡◌, ◌+◌, ℕ, true, false, List, None, Some, slice_get, refl, sym, ap, subst, arith, length, ◌<◌}
use Rattle.std.proofs.lemmas.Bool.{false≢true}
use Rattle.life_types.specs.Trees.{members_at}
use Rattle.life_types.specs.Types.{Types}
use Rattle.life_types.specs.declared.place.Place.{Place}
use Rattle.life_types.specs.declared.ty.Ty.{Ty}
use Rattle.life_types.specs.declared.ty.Ty.TheVariants as ty
use Rattle.life_typed.specs.Delimiters.{DelimitersForm}
use Rattle.life_typed.specs.TypedForm.{Form, Typed, construct, nothing, ◌⨟◌}
use Rattle.life_type_expr.specs.Operands.{value}
use Rattle.life_core.specs.Function.{Function}
use Rattle.life_core.specs.declared.instr.Form.TheVariants.{Plain, Zero}
use Rattle.life_well_typed.specs.Members.{are_members, are_each}
use Rattle.life_writer.specs.Around.{Around, own_type}
use Rattle.life_writer.specs.ExpressionForms.{all_uses, form_uses}
use Rattle.life_writer.specs.Lists.{filled_in, list_object, assigned_members}
use Rattle.life_writer.specs.Uses.{Remaining}
use Rattle.life_writer.specs.Writing.{Gives, State, gives}
use Rattle.life_elab_laws.proofs.ExpressionForms.{Standing}
use Rattle.life_elab_laws.proofs.Gifts.{a_place, both, nothing as no_gift}
use Rattle.life_elab_laws.proofs.MadeForms.{BuildsIn, lived_builds, of_elements}
use Rattle.life_elab_laws.proofs.MadeStructs.{IsBuiltUnseen, IsMadeStructAt, by_members}
use Rattle.life_elab_laws.proofs.Parts.{gives_part, leaf_part}
use Rattle.life_elab_laws.proofs.Setting.{Setting}
use Rattle.life_elab_laws.proofs.StructMembers.{AreListed, members_written}
use Rattle.life_core.specs.Operands.{whole, Operand, object_named, Name}
use Rattle.life_elab_laws.proofs.WrittenMembers.{IsWriting, part_writing}
use Rattle.life_elab_laws.proofs.FilledObjects.{filling_writing}
use Rattle.life_well_typed.specs.Expressions.{HasStructType}

module _ (a : Around) (visible : List ℕ) (types : Types) (texts : ℕ) (fs : List Function) (f : Function) (setting : Setting a types fs f) where
  abbrev Stood : State → Type 0
  Stood s = Standing a visible types texts fs f setting s

  -- all of them
  all_written : (number : ℕ) (to : Operand) {Writes : State → State → Type 0} → IsWriting types texts fs f (ty.Struct number) to Writes → (es : Form) (d : DelimitersForm) (s : State) → AreListed a visible types texts fs f setting es
      → are_each a.program.types (members_at a.program.types number) es ≡ true → Stood s
      → (n : ℕ) × ((to ≡ Name (whole n)) × (n < length s.locals)) → Writes s (assigned_members a 0 (members_at a.program.types number) to (all_uses a es) d s)
  all_written number to ways es d s given all stands lies =
      members_written a visible types texts fs f setting number to ways 0 (members_at a.program.types number)
      (λ k id there. let here : k ≡ 0 + k = omega arith in subst (λ (n : ℕ). slice_get (members_at a.program.types number) n ≡ Some id) here there) es d s given all stands lies

  pub members_build : (number : ℕ) (opening : Place) (es : Form) (d : DelimitersForm) (s : State) → AreListed a visible types texts fs f setting es → are_members a.program.types (members_at a.program.types number) es ≡ true
      → BuildsIn a visible types texts fs f setting false (ty.Struct number) s (gives (list_object a (ty.Struct number) opening (all_uses a es) d) s)
  members_build number opening nothing d s given all =
      lived_builds a visible types texts fs f setting false (ty.Struct number) s s of_elements tt Zero (λ place to r. r) (leaf_part types texts fs f tt s (no_gift types texts fs f) (λ b. tt) (λ b k alive. tt)) refl
      (λ place to r stands still new.
      gives_part types texts fs f (both types texts fs f (no_gift types texts fs f) (a_place types texts fs f (ty.Struct number) false)) (tt, to) None tt r (no_gift types texts fs f) (λ b h. tt) (λ b k alive h. tt))
      (λ e. absurd (false≢true e))
  members_build number opening (e ⨟ es) d s given all =
      lived_builds a visible types texts fs f setting false (ty.Struct number) s s of_elements tt Plain (filled_in a (ty.Struct number) opening (all_uses a (e ⨟ es)) d)
      (leaf_part types texts fs f tt s (no_gift types texts fs f) (λ b. tt) (λ b k alive. tt)) refl
      (λ place to r stands still new.
      all_written number to
      (part_writing types texts fs f (ty.Struct number) (both types texts fs f (no_gift types texts fs f) (a_place types texts fs f (ty.Struct number) false)) (tt, to) to (λ h. h.1) (λ n k h. h.1)) (e ⨟ es) d r given all stands
      (new.number, (new.is, new.below)))
      (λ e. absurd (false≢true e))
  members_build number opening _ d s given all = absurd given

  -- .. where nothing else sees it
  pub members_unseen : (number : ℕ) (opening : Place) (es : Form) (d : DelimitersForm) → AreListed a visible types texts fs f setting es → are_members a.program.types (members_at a.program.types number) es ≡ true
      → (object : State → Gives Remaining) → ((s : State) → object s ≡ gives (list_object a (ty.Struct number) opening (all_uses a es) d) s) → IsBuiltUnseen a visible types texts fs f setting number object
  members_unseen number opening nothing d given all object same = by_members Zero (λ place to r. r) same (λ place x s stands below. (filling_writing types texts fs f x (ty.Struct number)).none s)
  members_unseen number opening (e ⨟ es) d given all object same =
      by_members Plain (filled_in a (ty.Struct number) opening (all_uses a (e ⨟ es)) d) same
      (λ place x s stands below. all_written number (object_named x) (filling_writing types texts fs f x (ty.Struct number)) (e ⨟ es) d s given all stands (x, (refl, below)))
  members_unseen number opening _ d given all object same = absurd given

  -- as an expression, which stands at its brace
  pub constructed : (number : ℕ) (es : Form) (d : DelimitersForm) (e : Typed) (place : Place) → e ≡ value e.place (ty.Struct number) e.form → are_members a.program.types (members_at a.program.types number) es ≡ true → HasStructType a.program.types number → AreListed a visible types texts fs f setting es
      → IsMadeStructAt a visible types texts fs f setting e ((form_uses a (construct number es d) place e.ty e.category).object)
  constructed number es d e place is all has given = record {
    number = number;
    is = ap (λ (y : Typed). y.ty) is;
    value = ap (λ (y : Typed). y.category) is;
    tabled = record { number = number; is = refl; at = has.0; there = has.1 };
    builds = λ s stands.
        subst (λ (t : Ty). BuildsIn a visible types texts fs f setting false (ty.Struct number) s (gives (list_object a t place (all_uses a es) d) s)) (sym (ap (λ (y : Typed). own_type y.ty) is)) (members_build number place es d s given all);
    unseen =
        members_unseen number place es d given all ((form_uses a (construct number es d) place e.ty e.category).object)
        (λ s. ap (λ (t : Ty). gives (list_object a t place (all_uses a es) d) s) (ap (λ (y : Typed). own_type y.ty) is));
  }
