-- No pointer lies within the place of a value that holds none.
use Rattle.std.proofs.Common.{◌≡◌, ℕ, ◌+◌, ◌≤◌, Bool, true, false, ◌&&◌, List, [], ◌∷◌, ◌++◌, Option, Some, None, refl, sym, ap, ◌∙◌, arith}
use Rattle.std.specs.Prelude.{nat_eq, slice_get}
use Rattle.std.proofs.lemmas.Bool.{and_parts, false≢true}
use Rattle.std.proofs.lemmas.Bool.Decides.{nat_tests}
use Rattle.life_types.specs.Pointees.{ty_of}
use Rattle.life_types.specs.TypeTests.{is_pointer}
use Rattle.life_types.specs.Types.{Types}
use Rattle.life_types.specs.declared.ty.TyId.{TyId}
use Rattle.life_core.specs.Function.{Function}
use Rattle.life_core.specs.Operands.{Location}
use Rattle.life_core.specs.Operands as named
use Rattle.life_pset.specs.Elements.{local_place}
use Rattle.life_pset.specs.Places.{begins, is_within, path}
use Rattle.life_pset.specs.Shapes.{ty_if}
use Rattle.life_pset.specs.contracts.element.RootPartialEq.TheImpl.{ghosts as compared}
use Rattle.life_pset.specs.declared.element.Fact.{Fact}
use Rattle.life_pset.specs.declared.element.Root.{Root}
use Rattle.life_pset.specs.declared.element.Root.TheVariants as root
use Rattle.life_contract.specs.Located.{located}
use Rattle.life_proper.specs.Placed.{type_in}
use Rattle.life_store.specs.Parts.{local_type, location_type, members_of, type_within, word_within}
use Rattle.life_store.specs.Places.{location_cell}
use Rattle.life_store.specs.State.{Pointer, Points, State}
use Rattle.life_forest.proofs.TypedSteps.{operand_same}
use Rattle.life_cover.specs.Regions.{Region}
use Rattle.life_cover.proofs.ExactLocations.{exact_path}
use Rattle.life_cover.proofs.KnownFrames.{IsKnownFrame}
use Rattle.life_cover.proofs.LocationsListed.{pointer_memberless}
use Rattle.life_cover.proofs.MemberWords.{IsPointing, is_pointing, path_words}
use Rattle.life_cover.proofs.PointedPlaces.{pointer_short}
use Rattle.life_cover.proofs.SparedPointers.{HasNoPointer}
use Rattle.life_cover.proofs.Unkept.{members_root}

same_number : (a b : ℕ) → nat_eq a b ≡ true → a ≡ b
same_number a b h = grind (arith, nat_tests)

-- a path that begins with another goes on from it
pub begun : (xs ys : List ℕ) → begins xs ys ≡ true → (ks : List ℕ) × (ys ≡ xs ++ ks)
begun [] ys h = (ys, refl)
begun (x ∷ xs) [] h = absurd (false≢true h)
begun (x ∷ xs) (y ∷ ys) h =
    let both = and_parts (nat_eq x y) (begins xs ys) h in
    let rest = begun xs ys both.1 in
    (rest.0, ap (λ z. z ∷ ys) (sym (same_number x y both.0)) ∙ ap (λ (zs : List ℕ). x ∷ zs) rest.1)

-- a member of a member
pub type_along : (types : Types) (ms ks : List ℕ) (id : Option TyId) → type_within types id (ms ++ ks) ≡ type_within types (type_within types id ms) ks
type_along types [] ks id = refl
type_along types (m ∷ ms) ks None = none ks
  where
    none : (ns : List ℕ) → None ≡ type_within types None ns
    none [] = refl
    none (n ∷ ns) = refl
type_along types (m ∷ ms) ks (Some id) = type_along types ms ks (slice_get (members_of types id) m)

-- what is a member has no whole local in it
pub member_apart : (l : Location) (m : ℕ) (ms : List ℕ) → l.members ≡ m ∷ ms → (located l).length ≤ 8 → (x : ℕ) → is_within (located l) (local_place x) ≡ false
member_apart l m ms members short x =
    ap (λ (ks : List ℕ). compared.eq (located l).root (root.Local x) && begins ks []) (exact_path l.members (local_place l.local) refl short ∙ members) ∙ never (compared.eq (located l).root (root.Local x))
  where
    never : (b : Bool) → (b && false) ≡ false
    never true = refl
    never false = refl

-- what lies within a location is of its local
pub within_local : (a l : Location) → is_within (located a) (located l) ≡ true → a.local ≡ l.local
within_local a l e =
    same_number a.local l.local
    (sym (ap (λ (ro : Root). compared.eq ro (located l).root) (members_root a.members (local_place a.local)) ∙ ap (compared.eq (root.Local a.local)) (members_root l.members (local_place l.local)))
    ∙ (and_parts (compared.eq (located a).root (located l).root) (begins (path (located a)) (path (located l))) e).0)

module _ (types : Types) (f : Function) (rest : ℕ → ℕ) (inputs : Root → Option Region) (S : Fact → Type 0) (st : State) (k : IsKnownFrame types f rest inputs S st) where
  -- what lies within a location is it, or a member of it
  pub inner : (a l : Location) → (located a).length ≤ 8 → (located l).length ≤ 8 → is_within (located a) (located l) ≡ true → (ks : List ℕ) × (a.local ≡ l.local) × (l.members ≡ a.members ++ ks)
  inner a l short_a short_l e =
      let both = and_parts (compared.eq (located a).root (located l).root) (begins (path (located a)) (path (located l))) e in
      let goes = begun a.members l.members
      (sym (ap (λ (ms : List ℕ). begins ms (path (located l))) (exact_path a.members (local_place a.local) refl short_a) ∙ ap (begins a.members) (exact_path l.members (local_place l.local) refl short_l)) ∙ both.1) in (
        goes.0,
        within_local a l e,
        goes.1,
      )

  pub no_pointer_within : (a : Location) (id : TyId) → location_type types f a ≡ Some id → HasNoPointer types id → (located a).length ≤ 8 → (l : Location) (v : Pointer) → is_pointer (type_in types f l) ≡ true → location_cell types f l st ≡ Some (Points v)
      → is_within (located a) (located l) ≡ false
  no_pointer_within a id typed free short l v pointer held = go (is_within (located a) (located l)) refl
    where
      is : IsPointing types k.ordered k.once f k.shaped l
      is = is_pointing types k.ordered k.once f k.shaped l pointer

      nothing : (w : ℕ) → w ≡ w + 0
      nothing w = omega arith

      clash : is_within (located a) (located l) ≡ true → ⊥
      clash e =
          let goes = inner a l short (pointer_short types f rest inputs S st k l pointer v held) e in
          let within : type_within types (Some id) goes.0 ≡ Some is.part =
          ap (λ (o : Option TyId). type_within types o goes.0) (sym typed)
          ∙ sym (type_along types a.members goes.0 (local_type types f a.local))
          ∙ ap (λ (ms : List ℕ). type_within types (local_type types f a.local) ms) (sym goes.2)
          ∙ ap (λ x. type_within types (local_type types f x) l.members) goes.1
          ∙ is.typed in
          free (word_within types (Some id) goes.0) 0 (path_words types k.ordered id is.part goes.0 within is.points 0 (word_within types (Some id) goes.0) (omega arith) (nothing (word_within types (Some id) goes.0)))

      go : (b : Bool) → is_within (located a) (located l) ≡ b → is_within (located a) (located l) ≡ false
      go true e = absurd (clash e)
      go false e = e

  -- what lies within a pointer is that pointer
  pub pointer_itself : (a l : Location) → is_pointer (type_in types f a) ≡ true → is_pointer (type_in types f l) ≡ true → (located a).length ≤ 8 → (located l).length ≤ 8 → is_within (located a) (located l) ≡ true → a ≡ l
  pointer_itself a l pointer_a pointer_l short_a short_l e = go goes.0 goes.2
    where
      is_a : IsPointing types k.ordered k.once f k.shaped a
      is_a = is_pointing types k.ordered k.once f k.shaped a pointer_a

      is_l : IsPointing types k.ordered k.once f k.shaped l
      is_l = is_pointing types k.ordered k.once f k.shaped l pointer_l

      goes : (ks : List ℕ) × (a.local ≡ l.local) × (l.members ≡ a.members ++ ks)
      goes = inner a l short_a short_l e

      append_none : (xs : List ℕ) → xs ++ [] ≡ xs
      append_none [] = refl
      append_none (x ∷ xs) = ap (λ (ys : List ℕ). x ∷ ys) (append_none xs)

      along : (ks : List ℕ) → l.members ≡ a.members ++ ks → type_within types (Some is_a.part) ks ≡ Some is_l.part
      along ks members =
          ap (λ (o : Option TyId). type_within types o ks) (sym is_a.typed) ∙ sym (type_along types a.members ks (local_type types f a.local)) ∙ sym (ap (type_within types (local_type types f a.local)) members)
          ∙ ap (λ x. type_within types (local_type types f x) l.members) goes.1 ∙ is_l.typed

      points : is_pointer (ty_of types is_a.part) ≡ true
      points = ap (λ (o : Option TyId). is_pointer (ty_if types o)) (sym is_a.typed ∙ sym (operand_same types k.ordered k.once 0 [] f k.shaped (named.Name a))) ∙ pointer_a

      go : (ks : List ℕ) → l.members ≡ a.members ++ ks → a ≡ l
      go [] members = ap (λ x. record { local = x; members = a.members }) goes.1 ∙ ap (λ (ms : List ℕ). record { local = l.local; members = ms }) (sym (members ∙ append_none a.members))
      go (m ∷ ms) members = absurd (false≢true (sym (pointer_memberless types k.ordered is_a.part m ms is_l.part (along (m ∷ ms) members)) ∙ points))
