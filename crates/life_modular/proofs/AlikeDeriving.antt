-- What is derived in a function looks only at the types that the function and the heads of what it calls name.
use Rattle.std.proofs.Common.{◌≡◌, ◌∙◌, ◌++◌, ◌+◌, ℕ, Bool, List, [], ◌∷◌, Option, Some, Contains, if◌then◌else◌, nat_lt, map, refl, ap, ap₂, subst, sym}
use Rattle.std.specs.List.{flat_map}
use Rattle.life_types.specs.Types.{Types}
use Rattle.life_types.specs.declared.ty.Ty.{Ty}
use Rattle.life_types.specs.declared.ty.TyId.{TyId}
use Rattle.life_core.specs.Function.{Function}
use Rattle.life_core.specs.declared.program.Local.{Local}
use Rattle.life_core.specs.declared.stmt.Edge.{Edge}
use Rattle.life_core.specs.declared.stmt.Point.{Point}
use Rattle.life_pset.specs.Elements.{Input, local_inputs, local_locations}
use Rattle.life_pset.specs.Places.{path, root_place}
use Rattle.life_pset.specs.Shapes.{members_type, shape, ty_if}
use Rattle.life_pset.specs.Table.{IsOf, Table, table_of}
use Rattle.life_pset.specs.declared.element.AbsPlace.{AbsPlace}
use Rattle.life_pset.specs.declared.element.Element.TheVariants as element
use Rattle.life_pset.specs.declared.element.Fact.{Fact}
use Rattle.life_contract.specs.Promises.{owner_elements}
use Rattle.life_contract.specs.Signatures.{Signature}
use Rattle.life_rules.specs.Deriving.{Carries, Derives, along, entry, entry_facts, entry_facts_from, input_facts, owner_facts, parameter_facts}
use Rattle.life_rules.specs.Matching.{fact_at, given_if}
use Rattle.life_rules.proofs.Giving.{at_head, in_tail}
use Rattle.life_modular.proofs.Renumbered.{owner_elements_renumbered}
use Rattle.life_modular.specs.Modular.{CallsName}
use Rattle.life_modular.specs.Renumbering.{Renumbering, renumbered_function, renumbered_input, renumbered_local, renumbered_signature}
use Rattle.life_modular.specs.Vocabulary.{Vocabulary, HaveAlike, Names}
use Rattle.life_modular.proofs.AlikeCarrying.{gives_alike}
use Rattle.life_modular.proofs.AlikeInputs.{local_inputs_named, local_inputs_same, local_locations_same, may_be_null_same, table_of_same}
use Rattle.life_modular.proofs.AlikeLists.{flat_map_mapped, flat_map_same}
use Rattle.life_modular.proofs.AlikeTypes.{AreLocalsNamed, IsNamed, members_type_named, members_type_same, shape_named, shape_same, ty_if_same}

module _ {v : Vocabulary} {new : Renumbering} {these those : Types} (alike : HaveAlike v new these those) where
  -- ---- at the entry

  pub input_facts_same : (nonnull : Bool) (i : Input) → IsNamed v i.ty → input_facts those nonnull (renumbered_input new i) ≡ input_facts these nonnull i
  input_facts_same nonnull i named =
      ap
      (λ (may : Bool). fact_at i.pointer (element.At (root_place i.root)) ∷ given_if may (fact_at i.pointer element.Null))
      (may_be_null_same alike nonnull i named)

  pub owner_facts_same : (id : TyId) → Contains v.types id → (l : AbsPlace) → owner_facts those (new.type id) l ≡ owner_facts these id l
  owner_facts_same id named l =
      ap (λ (part : Option TyId). map (fact_at l) (owner_elements (ty_if those part))) (members_type_same alike (Some id) named (path l))
      ∙ ap
      (λ (t : Ty). map (fact_at l) (owner_elements t))
      (ty_if_same alike (members_type these (Some id) (path l)) (members_type_named alike (Some id) named (path l)))
      ∙ ap (map (fact_at l)) (owner_elements_renumbered new (ty_if these (members_type these (Some id) (path l))))

  -- what the pointers of a parameter hold, and its owners
  inputs_same : (n x : ℕ) (l : Local) → Contains v.types l.ty
      → flat_map (input_facts those l.nonnull) (local_inputs those n x (renumbered_local new l))
      ≡ flat_map (input_facts these l.nonnull) (local_inputs these n x l)
  inputs_same n x l named =
      ap (flat_map (input_facts those l.nonnull)) (local_inputs_same alike n x l named)
      ∙ flat_map_mapped (renumbered_input new) (input_facts those l.nonnull) (input_facts these l.nonnull) (local_inputs these n x l)
      (λ i has. input_facts_same l.nonnull i (local_inputs_named alike n x l named i has))

  owners_same : (n x : ℕ) (l : Local) → Contains v.types l.ty
      → flat_map (owner_facts those (shape those n x (renumbered_local new l))) (local_locations those n x (renumbered_local new l))
      ≡ flat_map (owner_facts these (shape these n x l)) (local_locations these n x l)
  owners_same n x l named =
      ap (flat_map (owner_facts those (shape those n x (renumbered_local new l)))) (local_locations_same alike n x l named)
      ∙ ap (λ (id : TyId). flat_map (owner_facts those id) (local_locations these n x l)) (shape_same alike n x l named)
      ∙ flat_map_same (owner_facts those (new.type (shape these n x l))) (owner_facts these (shape these n x l)) (local_locations these n x l)
      (λ place has. owner_facts_same (shape these n x l) (shape_named alike n x l named) place)

  pub parameter_facts_same : (n x : ℕ) (l : Local) → Contains v.types l.ty → parameter_facts those n x (renumbered_local new l) ≡ parameter_facts these n x l
  parameter_facts_same n x l named =
      ap₂ (λ (inputs owners : List Fact). inputs ++ (if nat_lt x n then owners else [])) (inputs_same n x l named) (owners_same n x l named)

  pub entry_facts_from_same : (n x : ℕ) (ls : List Local) → AreLocalsNamed v ls
      → entry_facts_from those n x (map (renumbered_local new) ls) ≡ entry_facts_from these n x ls
  entry_facts_from_same n x [] named = refl
  entry_facts_from_same n x (l ∷ ls) named =
      ap₂ (λ (one more : List Fact). one ++ more)
      (parameter_facts_same n x l (named l (at_head l ls)))
      (entry_facts_from_same n (x + 1) ls (λ m has. named m (in_tail l ls m has)))

  pub entry_facts_same : {f : Function} → Names v f → entry_facts those (renumbered_function new f) ≡ entry_facts these f
  entry_facts_same {f} names = entry_facts_from_same f.parameters 0 f.locals names.locals

  -- ---- at each point

  module _ (sigs : List Signature) {f : Function} (names : Names v f) (called : CallsName v sigs f) where
    is_of_alike : {x : Fact} → IsOf (table_of these f) x → IsOf (table_of those (renumbered_function new f)) x
    is_of_alike {x} is = subst (λ (t : Table). IsOf t x) (sym (table_of_same alike names)) is

    pub carries_alike : (edge : Edge) (premises : List Fact) {x : Fact} → Carries sigs these f edge premises x
        → Carries (map (renumbered_signature new) sigs) those (renumbered_function new f) edge premises x
    carries_alike edge premises {x} carries = (is_of_alike carries.0, gives_alike alike names sigs called edge premises x carries.1)

    pub derives_alike : {point : Point} {x : Fact} → Derives sigs these f point x
        → Derives (map (renumbered_signature new) sigs) those (renumbered_function new f) point x
    derives_alike {point} {x} (entry is among) = entry (is_of_alike is) (subst (λ (xs : List Fact). Contains xs x) (sym (entry_facts_same names)) among)
    derives_alike (along edge premises among held carries) = along edge premises among (λ a has. derives_alike (held a has)) (carries_alike edge premises carries)
