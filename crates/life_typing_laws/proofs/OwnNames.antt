-- No two functions of a program have one name: it would mean both.
use Rattle.std.proofs.Common.{◌≡◌, ℕ, suc, ◌+◌, Bool, true, false, not, Some, List, [], ◌∷◌, length, map, nat_eq, slice_get, refl, sym, ap, subst, ◌∙◌, arith}
use Rattle.std.specs.List.{list_any}
use Rattle.std.proofs.lemmas.Bool.{and_from, eqb-true}
use Rattle.life_types.specs.declared.ty.NameId.{NameId}
use Rattle.life_tree.specs.declared.program.Program.{Program}
use Rattle.life_typed.specs.Programs.{FunctionForm}
use Rattle.life_names.specs.Environment.{text_items, unseen_names}
use Rattle.life_names.specs.declared.environment.Entity.{Entity}
use Rattle.life_names.specs.declared.environment.Entity.TheVariants as entity
use Rattle.life_typing.specs.Progress.{ProgressView, nothing_defined}
use Rattle.life_typing.specs.Resolves.{texts_of}
use Rattle.life_well_typed.specs.Names.{have_own_names, is_of_name}
use Rattle.life_typing_laws.proofs.Steps.{same_number, same_some}
use Rattle.life_typing_laws.proofs.FunctionsMeant.{AreMeant}

-- ---- no two have one name

none_of_name : (name : NameId) (fs : List FunctionForm) → ((k : ℕ) (g : FunctionForm) → slice_get fs k ≡ Some g → name.0 ≡ g.name.0 → ⊥) → list_any (is_of_name name) fs ≡ false
none_of_name name [] other = refl
none_of_name name (f ∷ fs) other = go (nat_eq name.0 f.name.0) refl (none_of_name name fs (λ k g e. other (suc k) g e))
  where
    go : (b : Bool) → nat_eq name.0 f.name.0 ≡ b → list_any (is_of_name name) fs ≡ false → list_any (is_of_name name) (f ∷ fs) ≡ false
    go true same rest = absurd (other 0 f refl (eqb-true name.0 f.name.0 same))
    go false same rest = rw (same, rest)

-- where the name of the function behind so many means its number
own_names : (visible : List Entity) (n : ℕ) (fs : List FunctionForm) → ((k : ℕ) (g : FunctionForm) → slice_get fs k ≡ Some g → slice_get visible g.name.0 ≡ Some (entity.Function (n + k))) → have_own_names fs ≡ true
own_names visible n [] means = refl
own_names visible n (f ∷ fs) means = and_from (not (list_any (is_of_name f.name) fs)) (have_own_names fs) (ap not (none_of_name f.name fs other))
    (own_names visible (suc n) fs (λ k g e. let one : n + suc k ≡ suc n + k = omega arith in subst (λ (i : ℕ). slice_get visible g.name.0 ≡ Some (entity.Function i)) one (means (suc k) g e)))
  where
    other : (k : ℕ) (g : FunctionForm) → slice_get fs k ≡ Some g → f.name.0 ≡ g.name.0 → ⊥
    other k g e same =
        let here : slice_get visible g.name.0 ≡ Some (entity.Function (n + 0)) = subst (λ (i : ℕ). slice_get visible i ≡ Some (entity.Function (n + 0))) same (means 0 f refl) in
        let number : n + 0 ≡ n + suc k = same_number (n + 0) (n + suc k) (same_some (entity.Function (n + 0)) (entity.Function (n + suc k)) (sym here ∙ means (suc k) g e)) in
        omega (arith, number)

-- ---- files

unseen_count : {A : Type 0} (read : A → List ℕ) (names : List A) → length (unseen_names (map read names)) ≡ length names
unseen_count read [] = refl
unseen_count read (name ∷ names) = ap suc (unseen_count read names)

pub nothing_meant : (tree : Program) → AreMeant (length tree.names.items) [] (nothing_defined (texts_of tree))
nothing_meant tree = record { means = λ k g e. absurd (never k g e); forms = refl; named = unseen_count text_items tree.names.items }
  where
    never : (k : ℕ) (g : FunctionForm) → slice_get {X = FunctionForm} [] k ≡ Some g → ⊥
    never k g e = cc

pub meant_own_names : (size : ℕ) (q : ProgressView) → AreMeant size [] q → have_own_names q.functions ≡ true
meant_own_names size q meant =
    own_names q.scope.visible 0 q.functions (λ k g e. let none : k ≡ 0 + k = omega arith in subst (λ (n : ℕ). slice_get q.scope.visible g.name.0 ≡ Some (entity.Function n)) none (meant.means k g e).1)
