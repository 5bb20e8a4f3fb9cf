-- What means a function is the name of the form with its number.
use Rattle.std.proofs.Common.{◌≡◌, ⊎_elim, ℕ, Some, List, slice_get, slice_set, sym, ap, subst, ◌∙◌}
use Rattle.life_types.specs.declared.ty.NameId.{NameId}
use Rattle.life_typed.specs.Programs.{FunctionForm}
use Rattle.life_names.specs.Environment.{Scope}
use Rattle.life_names.specs.declared.environment.Entity.TheVariants as entity
use Rattle.life_typing_laws.proofs.Known.{same_or_not}
use Rattle.life_typing_laws.proofs.Scopes.{set_else, set_there}
use Rattle.life_typing_laws.proofs.Steps.{same_some}

pub record NamedAt (forms : List FunctionForm) (n k : ℕ) : Type 0 where
  pub form : FunctionForm
  pub there : slice_get forms n ≡ Some form
  pub name : form.name.0 ≡ k

abbrev pub AreNamed : Scope → List FunctionForm → Type 0
AreNamed scope forms = (k n : ℕ) → slice_get scope.visible k ≡ Some (entity.Function n) → NamedAt forms n k

-- one of them gets its body
pub named_changed : (scope : Scope) (forms : List FunctionForm) (number : ℕ) (old new : FunctionForm) → slice_get forms number ≡ Some old → new.name ≡ old.name → AreNamed scope forms
    → AreNamed scope (slice_set forms number new)
named_changed scope forms number old new there same_name named k n e = ⊎_elim changed kept (same_or_not number n)
  where
    at : NamedAt forms n k
    at = named k n e

    changed : number ≡ n → NamedAt (slice_set forms number new) n k
    changed same = record {
      form = new;
      there = subst (λ (i : ℕ). slice_get (slice_set forms number new) i ≡ Some new) same (set_there forms number old new there);
      name = ap (λ (id : NameId). id.0) same_name ∙ ap (λ (f : FunctionForm). f.name.0) (same_some old at.form (sym there ∙ subst (λ (i : ℕ). slice_get forms i ≡ Some at.form) (sym same) at.there)) ∙ at.name;
    }

    kept : (number ≡ n → ⊥) → NamedAt (slice_set forms number new) n k
    kept other = record { form = at.form; there = set_else forms number n new other ∙ at.there; name = at.name }
