-- An owner that is moved out of a variable, as one that is made: wherever it stands, that builds a variable or a temporary.
use Rattle.std.proofs.Common.{◌≡◌, ℕ, false, true, List, [], ◌∷◌, Contains, None, refl, sym, subst}
use Rattle.life_elab_laws.proofs.ObjectTypes.{is_owner_of_values}
use Rattle.life_types.specs.Types.{Types}
use Rattle.life_types.specs.declared.place.Place.{Place}
use Rattle.life_typed.specs.TypedForm.{Typed}
use Rattle.life_core.specs.Function.{Function}
use Rattle.life_core.specs.Operands.{Operand}
use Rattle.life_core.specs.Step.{Move}
use Rattle.life_core.specs.Tree.{Acts}
use Rattle.life_core.specs.declared.instr.Form.TheVariants.{Plain}
use Rattle.life_writer.specs.Around.{Around}
use Rattle.life_writer.specs.OwnerForms.{move_uses, moved_out_of}
use Rattle.life_writer.specs.Uses.{lived}
use Rattle.life_writer.specs.Variables.{variable}
use Rattle.life_writer.specs.Writing.{State, emit, gives}
use Rattle.life_elab_laws.proofs.Among.{Among}
use Rattle.life_elab_laws.proofs.ExpressionForms.{Standing}
use Rattle.life_elab_laws.proofs.Gifts.{a_place, both, nothing as no_gift}
use Rattle.life_elab_laws.proofs.MadeForms.{Builds, IsMadeAt, IsNew, Steady, lived_builds, new_apart, of_moved}
use Rattle.life_elab_laws.proofs.MoveSteps.{moves_part, a_source}
use Rattle.life_elab_laws.proofs.MovedOwners.{IsMovedFrom, source_part}
use Rattle.life_elab_laws.proofs.Parts.{Makes, Part}
use Rattle.life_elab_laws.proofs.PlainActs.{IsPlainAct}
use Rattle.life_elab_laws.proofs.Setting.{Setting}
use Rattle.life_elab_laws.proofs.VariablePlaces.{IsVariableAt}

module _ (a : Around) (visible : List ℕ) (types : Types) (texts : ℕ) (fs : List Function) (f : Function) (setting : Setting a types fs f) where
  abbrev Stood : State → Type 0
  Stood s = Standing a visible types texts fs f setting s

  module _ (x : ℕ) (e : Typed) (c : Contains visible x) (is : IsMovedFrom a visible types texts fs f setting x e) where
    -- where the variable lies
    found_part : (s : State) → Stood s → Makes types texts fs f None s (gives (variable s x) s) (a_source types texts fs f is.ty)
    found_part s stands = source_part a visible types texts fs f setting x e is c s stands

    -- it lives, which what comes to life behind it doesn't yet
    lives : (s : State) → Stood s → Contains s.living (variable s x)
    lives s stands = let v : IsVariableAt a s x is.source = stands.seen x is.source c is.found in v.lives

    -- the move looks at it
    moving_plain : (place : Place) (s : State) → IsPlainAct (moved_out_of place x) (variable s x ∷ []) (Steady a visible types texts fs f setting s)
    moving_plain place s = record {
      free = λ at to s pending. refl;
      kept = λ at to s living. refl;
      code = λ at to s. Acts place (Move to (variable s x)) ∷ [];
      written = λ at to s. refl;
      looks = λ at to s' still y m. subst (λ (z : ℕ). Among y (z ∷ [])) (still x c) m;
    }

    -- what it owns goes to what has come to life
    moving_part : (place : Place) (s : State) → Stood s → (to : Operand) (s' : State) → Steady a visible types texts fs f setting s s' → IsNew a visible types texts fs f setting s s' to
        → Part types texts fs f (both types texts fs f (a_source types texts fs f is.ty) (a_place types texts fs f is.ty false)) (variable s x, to) None s' (gives tt (emit place (Move to (variable s' x)) s')) (no_gift types texts fs f)
    moving_part place s stands to s' still new =
        let P = both types texts fs f (a_source types texts fs f is.ty) (a_place types texts fs f is.ty false) in
        subst (λ (y : ℕ). Part types texts fs f P (variable s x, to) None s' (gives tt (emit place (Move to y) s')) (no_gift types texts fs f)) (sym (still x c))
        (moves_part types texts fs f P (variable s x, to) is.ty to (variable s x) place s' is.owner (λ h. (h.1, h.0)) (λ n k q. (q.1, q.0)) (new_apart a visible types texts fs f setting s s' to new (variable s x) (lives s stands)))

    pub moved_builds : (place : Place) (s : State) → Stood s → Builds a visible types texts fs f setting is.ty s (gives (lived Plain (moved_out_of place x)) s)
    moved_builds place s stands =
        lived_builds a visible types texts fs f setting true is.ty s s (of_moved x is.ty) (variable s x) Plain (moved_out_of place x) (found_part s stands) refl
        (λ at to s' there still new. moving_part place s stands to s' still new) (λ e. moving_plain place s)

    pub moved_made : (place : Place) → is_owner_of_values a.program.types is.ty ≡ true → IsMadeAt a visible types texts fs f setting e ((move_uses x place e.ty e.category).object)
    moved_made place o = record { ty = is.ty; is = is.is; owner = o; value = is.value; builds = λ s stands. moved_builds place s stands }
