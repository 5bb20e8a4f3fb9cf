-- A result is of the type that the function's head says, and what is promised of it lies behind its inputs.
use Rattle.std.proofs.Common.{◌≡◌, ⊎_elim, ℕ, ◌+◌, Bool, true, false, List, [], ◌∷◌, ◌++◌, map, length, Option, Some, None, refl, sym, ap, subst, ◌∙◌, arith}
use Rattle.std.specs.Prelude.{Contains, if◌then◌else◌, cond, nat_eq, nat_lt, slice_get, ◌&&◌}
use Rattle.std.proofs.lemmas.Bool.{and_parts, false≢true}
use Rattle.std.proofs.lemmas.Bool.Decides.{nat_tests}
use Rattle.std.proofs.lemmas.List.Elements.{Contains-append_cases}
use Rattle.life_types.specs.Pointees.{or_void, ty_of}
use Rattle.life_types.specs.TypeTests.{is_pointer, is_void}
use Rattle.life_types.specs.Types.{Types}
use Rattle.life_types.specs.declared.ty.Ty.{Ty}
use Rattle.life_types.specs.declared.ty.Ty.TheVariants as ty
use Rattle.life_types.specs.declared.ty.TyId.{TyId}
use Rattle.life_core.specs.declared.program.Local.{Local}
use Rattle.life_core.specs.Function.{Function}
use Rattle.life_pset.specs.Elements.{Input, input_at, input_if, input_places, inputs_among, inputs_from, local_inputs, local_locations, number_after}
use Rattle.life_pset.specs.Places.{path, root_place}
use Rattle.life_pset.specs.Shapes as shapes
use Rattle.life_pset.specs.Shapes.{member_of, members_type, shape, shape_if, shape_of, target_type, tree_if, ty_if}
use Rattle.life_pset.specs.declared.element.AbsPlace.{AbsPlace}
use Rattle.life_pset.specs.declared.element.Root.{Root}
use Rattle.life_pset.specs.declared.element.Root.TheVariants as root
use Rattle.life_contract.specs.Inputs.{inputs_of_signature, parameter_local, parameter_number}
use Rattle.life_contract.specs.Promises.{fits, fitting, is_listed, place_if, promised_behind, promised_places}
use Rattle.life_contract.specs.Signatures.{Signature}
use Rattle.life_proper.specs.OperandTypes.{is_composed}
use Rattle.life_proper.specs.WellFormedPrograms.{is_result_local, is_result_of}
use Rattle.life_rules.proofs.Giving.{cons_cases, flat_map_from, none_in_empty}
use Rattle.life_cover.proofs.Making.{root_made, tree_made_of}

-- ---- its type

eqb_same : (a b : ℕ) → nat_eq a b ≡ true → a ≡ b
eqb_same a b h = grind (arith, nat_tests)

not_less : (n : ℕ) → nat_lt n n ≡ false
not_less n = grind (arith, nat_tests)

number_same : (a b : TyId) → a.0 ≡ b.0 → a ≡ b
number_same a b e = ap (λ n. record { 0 = n }) e

-- what has a pointer at a member, or is one, isn't void
none_within : (types : Types) (ms : List ℕ) → members_type types None ms ≡ None
none_within types [] = refl
none_within types (m ∷ ms) = none_within types ms

memberless : (types : Types) (ms : List ℕ) → is_pointer (ty_if types (members_type types None ms)) ≡ true → ⊥
memberless types ms h = false≢true (ap (λ (id : Option TyId). is_pointer (ty_if types id)) (sym (none_within types ms)) ∙ h)

pub part_composed : (types : Types) (id : TyId) (m : ℕ) (ms : List ℕ) → is_pointer (ty_if types (members_type types (Some id) (m ∷ ms))) ≡ true → is_composed (ty_of types id) ≡ true
part_composed types id m ms pointer = go (ty_of types id) pointer
  where
    go : (t : Ty) → is_pointer (ty_if types (members_type types (member_of types t m) ms)) ≡ true → is_composed t ≡ true
    go (ty.Struct number) h = refl
    go _ h = absurd (memberless types ms h)

pub part_solid : (types : Types) (id : TyId) (ms : List ℕ) → is_pointer (ty_if types (members_type types (Some id) ms)) ≡ true → is_void (ty_of types id) ≡ false
part_solid types id [] pointer = go (ty_of types id) pointer
  where
    go : (t : Ty) → is_pointer t ≡ true → is_void t ≡ false
    go ty.Void h = absurd (false≢true h)
    go _ h = refl
part_solid types id (m ∷ ms) pointer = go (ty_of types id) (part_composed types id m ms pointer)
  where
    go : (t : Ty) → is_composed t ≡ true → is_void t ≡ false
    go ty.Void h = absurd (false≢true h)
    go _ h = refl

-- the local of a result
pub record IsResultLocal (f : Function) : Type 0 where
  pub local : Local
  pub there : slice_get f.locals f.parameters ≡ Some local
  pub type : local.ty ≡ f.result

pub result_local : (types : Types) (f : Function) → is_result_of types f.result (slice_get types.types f.result.0) (slice_get f.locals f.parameters) ≡ true → is_void (ty_of types f.result) ≡ false → IsResultLocal f
result_local types f formed solid = by_type (slice_get types.types f.result.0) formed solid
  where
    by_local : (o : Option Local) → slice_get f.locals f.parameters ≡ o → is_result_local types f.result o ≡ true → IsResultLocal f
    by_local None there h = absurd (false≢true h)
    by_local (Some l) there h = record { local = l; there = there; type = number_same l.ty f.result (eqb_same l.ty.0 f.result.0 (and_parts (nat_eq l.ty.0 f.result.0) _ h).0) }

    by_type : (o : Option Ty) → is_result_of types f.result o (slice_get f.locals f.parameters) ≡ true → is_void (or_void o) ≡ false → IsResultLocal f
    by_type None h p = absurd (false≢true h)
    by_type (Some ty.Void) h p = absurd (false≢true (sym p))
    by_type (Some _) h p = by_local (slice_get f.locals f.parameters) refl h

pub result_typed : (types : Types) (f : Function) → is_result_of types f.result (slice_get types.types f.result.0) (slice_get f.locals f.parameters) ≡ true → is_void (ty_of types f.result) ≡ false → shapes.local_type types f f.parameters ≡ Some f.result
result_typed types f formed solid =
    let r = result_local types f formed solid in
    ap (shape_of types f.parameters f.parameters) r.there ∙ ap (λ b. Some (shape_if types b r.local.ty)) (not_less f.parameters) ∙ ap Some r.type

-- ---- inputs are no locals

-- the root of an input
pub record IsInputRoot (r : Root) : Type 0 where
  pub parameter : ℕ
  pub member : Option ℕ
  pub is : r ≡ root.Input parameter member

module _ (types : Types) where
  among_root : (q : ℕ) (id : TyId) (k : ℕ) (ls : List AbsPlace) (i : Input) → Contains (inputs_among types q id k ls) i → IsInputRoot i.root
  among_root q id k [] i h = absurd (none_in_empty i h)
  among_root q id k (l ∷ ls) i h = go (λ b c. among_root q id (number_after b k) ls i c) (is_pointer (ty_if types (members_type types (Some id) (path l)))) h
    where
      one : (b : Bool) (j : Input) → IsInputRoot j.root → Contains (input_if b j) i → IsInputRoot i.root
      one true j is c = ⊎_elim (λ e. subst (λ (z : Input). IsInputRoot z.root) e is) (λ none. absurd (none_in_empty i none)) (cons_cases j [] i c)
      one false j is c = absurd (none_in_empty i c)

      root_is : IsInputRoot (input_at q k l (members_type types (Some id) (path l))).root
      root_is = record { parameter = q; member = _; is = refl }

      go : ((b : Bool) → Contains (inputs_among types q id (number_after b k) ls) i → IsInputRoot i.root) → (b : Bool) → Contains (input_if b (input_at q k l (members_type types (Some id) (path l))) ++ inputs_among types q id (number_after b k) ls) i → IsInputRoot i.root
      go rest b c =
          ⊎_elim (λ here. one b (input_at q k l (members_type types (Some id) (path l))) root_is here) (λ more. rest b more)
          (Contains-append_cases (input_if b (input_at q k l (members_type types (Some id) (path l)))) (inputs_among types q id (number_after b k) ls) i c)

  local_root : (n x : ℕ) (l : Local) (i : Input) → Contains (local_inputs types n x l) i → IsInputRoot i.root
  local_root n x l i h = go (nat_lt x n) h
    where
      go : (b : Bool) → Contains (if b then inputs_among types x (shape types n x l) 0 (local_locations types n x l) else []) i → IsInputRoot i.root
      go true c = among_root x (shape types n x l) 0 (local_locations types n x l) i c
      go false c = absurd (none_in_empty i c)

  pub input_rooted : (n x : ℕ) (ls : List Local) (i : Input) → Contains (inputs_from types n x ls) i → IsInputRoot i.root
  input_rooted n x [] i h = absurd (none_in_empty i h)
  input_rooted n x (l ∷ ls) i h = ⊎_elim (λ here. local_root n x l i here) (λ more. input_rooted n (x + 1) ls i more) (Contains-append_cases (local_inputs types n x l) (inputs_from types n (x + 1) ls) i h)

-- ---- what is promised

-- a place that is promised lies behind its input
pub promised_root : (types : Types) (sig : Signature) (t : Ty) (i : Input) (a : AbsPlace) → Contains (promised_behind types sig t i) a → a.root ≡ i.root
promised_root types sig t i a among = go (is_pointer t && is_listed sig.promise (parameter_number i)) among
  where
    one : (b : Bool) (p : AbsPlace) → Contains (place_if b p) a → p ≡ a
    one true p h = ⊎_elim (λ e. e) (λ none. absurd (none_in_empty a none)) (cons_cases p [] a h)
    one false p h = absurd (none_in_empty a h)

    go : (b : Bool) → Contains (cond b (fitting types t i) []) a → a.root ≡ i.root
    go false h = absurd (none_in_empty a h)
    go true h =
        let p = flat_map_from (λ p. place_if (fits types t i p) p) (input_places types i) a h in
        ap (λ (z : AbsPlace). z.root) (sym (one (fits types t i p.0) p.0 p.1.1)) ∙ ((tree_made_of i.root (tree_if types (target_type types i.ty))).0 (root_place i.root) (root_made i.root) p.0 p.1.0).root

pub promised_input : (types : Types) (sig : Signature) (t : Ty) (a : AbsPlace) → Contains (promised_places types sig t) a → IsInputRoot a.root
promised_input types sig t a among =
    let i = flat_map_from (promised_behind types sig t) (inputs_of_signature types sig) a among in
    subst IsInputRoot (sym (promised_root types sig t i.0 a i.1.1)) (input_rooted types (length sig.parameters) 0 (map (parameter_local sig.place) sig.parameters) i.0 i.1.0)
