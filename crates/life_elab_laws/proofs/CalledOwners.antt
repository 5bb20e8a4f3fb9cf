-- An owner, a unique_ptr or a struct that a call gives: its result brings to life what it goes to, behind its arguments, which may be owners that are given over.
use Rattle.std.proofs.Common.{◌≡◌, ℕ, Bool, true, false, ◌&&◌, ◌||◌, List, [], ◌∷◌, ◌++◌, flat_map, slice_get, Some, None, inl, inr, refl, sym, ap, ◌∙◌, subst, append-nil, if◌then◌else◌}
use Rattle.std.proofs.lemmas.Bool.{and_from, false≢true, or_left}
use Rattle.life_types.specs.Pointees.{ty_of}
use Rattle.life_types.specs.TypeTests.{is_pointer}
use Rattle.life_types.specs.Types.{Types}
use Rattle.life_types.specs.declared.place.Place.{Place}
use Rattle.life_types.specs.declared.ty.Ty.{Ty}
use Rattle.life_types.specs.declared.ty.Ty.TheVariants as ty
use Rattle.life_typed.specs.Programs.{FunctionForm}
use Rattle.life_core.specs.Function.{Function}
use Rattle.life_core.specs.Kinds.{is_object_at}
use Rattle.life_core.specs.Operands.{Argument, object_named, whole}
use Rattle.life_core.specs.Tree.{Acts}
use Rattle.life_core.specs.Touched.{if_object, unless_object}
use Rattle.life_proper.specs.GivenOver.{given_argument}
use Rattle.life_proper.specs.OperandTypes.{is_composed, same}
use Rattle.life_proper.specs.OperandTypes as operands
use Rattle.life_proper.specs.Placed.{is_number, object_at, type_in}
use Rattle.life_proper.specs.Placed as placed
use Rattle.life_proper.specs.WellFormed.{goes_to}
use Rattle.life_well_typed.specs.Expressions.{parameter_types}
use Rattle.life_writer.specs.Around.{Around}
use Rattle.life_writer.specs.Calls.{called}
use Rattle.life_writer.specs.Uses.{filled}
use Rattle.life_writer.specs.Writing.{Gives, State, gives}
use Rattle.life_elab_laws.proofs.Among.{Among}
use Rattle.life_elab_laws.proofs.Calls.{IsCallee, one_local}
use Rattle.life_elab_laws.proofs.Coming.{Comes}
use Rattle.life_elab_laws.proofs.Gifts.{IsPlaceOf, a_place, all_handed, both, nothing as no_gift}
use Rattle.life_elab_laws.proofs.GivenApart.{nil_right}
use Rattle.life_elab_laws.proofs.HandedArguments.{Hands}
use Rattle.life_elab_laws.proofs.HandedTypes.{built_composed}
use Rattle.life_elab_laws.proofs.HandingCalls.{born_falls, born_fine, born_looks}
use Rattle.life_elab_laws.proofs.MadeForms.{Builds, of_call, handed_ready}
use Rattle.life_elab_laws.proofs.MoveSteps.{moved_same, moved_there}
use Rattle.life_elab_laws.proofs.Parts.{gives_part}
use Rattle.life_elab_laws.proofs.AdmittedTypes.{IsBuilt}
use Rattle.life_elab_laws.proofs.Setting.{Setting}

owner_no_pointer : (t : Ty) → is_composed t ≡ true → is_pointer t ≡ false
owner_no_pointer ty.Text o = refl
owner_no_pointer (ty.Vector item) o = refl
owner_no_pointer (ty.Unique target) o = refl
owner_no_pointer (ty.Struct number) o = refl
owner_no_pointer _ o = absurd (false≢true o)

module _ (types : Types) (texts : ℕ) (fs : List Function) (f : Function) where
  -- ---- where its result goes

  goes_owner : (t : Ty) (x : ℕ) → is_composed t ≡ true → placed.type_at types f x ≡ t → object_at types f x ≡ true → goes_to types texts fs f t (Some (whole x)) ≡ true
  goes_owner t x owner typed there =
      ap (λ (b : Bool). if b then operands.takes types (type_in types f (whole x)) t else (same t (type_in types f (whole x)) && (object_at types f x || is_number types f x))) (owner_no_pointer t owner)
      ∙ and_from (same t (placed.type_at types f x)) (object_at types f x || is_number types f x) (ap (same t) typed ∙ moved_same t owner) (or_left (object_at types f x) (is_number types f x) there)

  -- ---- it brings that to life

  abbrev pub call_comes : (g : ℕ) (of : FunctionForm) (callee : IsCallee types fs g of) (s : State) (w : Gives (List Argument)) (hands : Hands types texts fs f (parameter_types (Some of)) s w) (t : Ty) (place : Place)
      → ((x : ℕ) → IsPlaceOf types texts fs f t false (object_named x) → goes_to types texts fs f (ty_of types of.result) (Some (whole x)) ≡ true)
      → Comes types texts fs f (flat_map given_argument w.given) s w (all_handed types texts fs f (parameter_types (Some of))) hands t
  call_comes g of callee s w hands t place goes = record {
    code = λ start x. Acts place (called g w.given (whole x)) ∷ [];
    fine = λ q start x can is. born_fine types texts fs f g of callee s w hands x place q (goes x is);
    falls = λ r start x k q none blank aside. born_falls types texts fs f g of callee s w hands x place r k q none blank aside;
    named = λ start x y m. subst (Among y) (append-nil (flat_map given_argument w.given)) m;
    looks = λ start x k q. born_looks types texts fs f g of callee s w hands x place k q;
    births = λ start x y m. elim (subst (Among y) (one_local (is_object_at f x) x) (nil_right f (if_object f x ++ unless_object f x) y m)) [ inl e ↦ e | inr none ↦ absurd none ];
  }

module _ (a : Around) (visible : List ℕ) (types : Types) (texts : ℕ) (fs : List Function) (f : Function) (setting : Setting a types fs f) where
  -- it is all that is done
  pub call_builds : (g : ℕ) (of : FunctionForm) → slice_get a.program.functions g ≡ Some of → (t : Ty) → IsBuilt a.program.types t → ty_of types of.result ≡ t → (place : Place) (s : State) (w : Gives (List Argument))
      → Hands types texts fs f (parameter_types (Some of)) s w → Builds a visible types texts fs f setting t s (gives (filled place (called g w.given)) w.state)
  call_builds g of there t built same place s w hands = record {
    making = of_call (parameter_types (Some of));
    found = w.given;
    over = flat_map given_argument w.given;
    hands = hands;
    comes = call_comes types texts fs f g of (setting.callees g of there) s w hands t place
        (λ x is.
        let owner = built_composed a.program.types t built in
        let here = moved_there types texts fs f t x owner is in
        ap (λ (u : Ty). goes_to types texts fs f u (Some (whole x))) same ∙ goes_owner types texts fs f t x owner here.typed here.object);
    act = λ start to r. r;
    lives = λ d r. refl;
    acts = λ start to r stands still new.
        gives_part types texts fs f (both types texts fs f (all_handed types texts fs f (parameter_types (Some of))) (a_place types texts fs f t false)) (w.given, to) None tt r (no_gift types texts fs f) (λ b h. tt) (λ b k alive h. tt);
    alone = λ e. record {
      free = λ start to r pending. refl;
      kept = λ start to r living. refl;
      code = λ start to r. [];
      written = λ start to r. sym (append-nil r.code);
      looks = λ start to r still y m. absurd m;
    };
    stays = λ x n k blank aside ready. handed_ready a visible types texts fs f setting x (parameter_types (Some of)) w.given n k blank aside ready;
  }
