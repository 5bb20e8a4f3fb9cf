-- The buffer of what stands at a spot, and what comes of its edits.
use Rattle.std.proofs.Common.{◌≡◌, ℕ, length, Option, Some, None, IfSome, Result, Ok, Err, refl, sym, ap, subst, ◌∙◌, arith}
use Rattle.std.proofs.lemmas.List.{length-map}
use Rattle.life_types.specs.Types.{Types}
use Rattle.life_types.specs.declared.ty.TyId.{TyId}
use Rattle.life_store.specs.Content.{Object, Content}
use Rattle.life_store.specs.Edits.{Edit, buffer_of, edited, owned_at}
use Rattle.life_store.specs.Effects.{Setting, Attempt, Got, GotFault, got_or, then_get}
use Rattle.life_store.specs.Parts.{Parts, Single, Raw, Iterates, Views, Text, Vector, Unique, Member, NoMember, parts_at}
use Rattle.life_store.specs.References.{Rows, object_of, HasWord}
use Rattle.life_store.specs.declared.object.BirthFault.{BirthFault}
use Rattle.life_store.specs.declared.object.BirthFault.TheVariants as birth_fault
use Rattle.life_store.specs.declared.object.ObjRef.{ObjRef}
use Rattle.life_store.specs.declared.run.FaultKind.{FaultKind}
use Rattle.life_seen.specs.Housed.{IsRef}
use Rattle.life_seen.specs.Kinds.{kinds_of, Kinds}
use Rattle.life_seen.specs.Named.{names_of}
use Rattle.life_seen.specs.Seen.{slot_seen}
use Rattle.life_words.specs.Owning.{IsOwner}
use Rattle.life_values.specs.Fresh.{Comes}
use Rattle.life_values.specs.Layouts.{flat}
use Rattle.life_values.proofs.SeenAs.{seen_as, IsSeenAs}
use Rattle.life_pointers.specs.Attempts.{itself, tried}
use Rattle.life_pointers.specs.Owned.{spot_seen}
use Rattle.life_pointers.specs.declared.owned.Spot.{Spot}
use Rattle.life_pointers.specs.declared.stop.Stop.{Stop}
use Rattle.life_pointers.specs.declared.stop.Stop.TheVariants as stop
use Rattle.life_cells.specs.Fits.{meant}
use Rattle.life_changes.specs.Edits.{edited_at}
use Rattle.life_changes.specs.Failures.{unborn}
use Rattle.life_changes.specs.Owners.{characters_in, elements_in, first_of, HasBuffer, IsContainer, StandsAt}
use Rattle.life_changes.specs.Steps.{Gets}
use Rattle.life_changes.specs.declared.failure.Failure.{Failure}
use Rattle.life_changes.proofs.Owned.{OwnsParts, owns_there, text_parts, vector_parts, word_inside}

-- ---- attempts

pub then_stopped : {A B C : Type 0} (f : A → B) (x : Attempt B) (go : B → Attempt C) (e : Stop) → tried f (Err e) ≡ x → then_get x go ≡ tried itself (Err e)
then_stopped f x go e is = ap (λ y. then_get y go) (sym is) ∙ over e
  where
    over : (k : Stop) → then_get (tried f (Err k)) go ≡ tried itself (Err k)
    over (stop.Trap kind) = refl
    over (stop.Fault kind) = refl
    over stop.Lost = refl

got_some : (x : Option ℕ) (kind : FaultKind) (n : ℕ) → Got n ≡ got_or x (GotFault kind) → x ≡ Some n
got_some None kind n e = absurd (unlike e)
  where
    unlike : ◌≡◌ {A = Attempt ℕ} (Got n) (GotFault kind) → ⊥
    unlike h = cc
got_some (Some k) kind n e = ap Some (sym (same e))
  where
    same : ◌≡◌ {A = Attempt ℕ} (Got n) (Got k) → n ≡ k
    same h = cc

-- ---- answers of the store

-- an attempt that a birth stopped, or that came
pub comes_got : {A : Type 0} (kinds : Kinds) (x y : Attempt Content) (c : Content) (rows : Rows) (done : A) → x ≡ y → Comes kinds x (Ok done) c rows → Gets kinds y (Ok done) c rows
comes_got kinds x y c rows done same came = (came.0, sym same ∙ came.1, came.2)

pub comes_unborn : (A B : Type 0) (kinds : Kinds) (x y : Attempt Content) (c d : Content) (rows new : Rows) (fault : BirthFault) → x ≡ y → Comes {A = A} kinds x (Err fault) c rows → Gets {A = B} kinds y (Err (unborn fault)) d new
comes_unborn A B kinds x y c d rows new birth_fault.Cells same came = sym same ∙ came
comes_unborn A B kinds x y c d rows new birth_fault.NoMemory same came = tt

-- .. of another attempt that is the same
pub gets_same : {A : Type 0} (kinds : Kinds) (x y : Attempt Content) (result : Result A Failure) (c : Content) (rows : Rows) → x ≡ y → Gets kinds x result c rows → Gets kinds y result c rows
gets_same kinds x y result c rows same gets = subst (λ z. Gets kinds z result c rows) same gets

-- ---- what is at the spot

module _ (types : Types) (limit depth : ℕ) (hand : ℕ → ℕ) (ty : TyId) (spot : Spot) (c : Content) (rows : Rows) (here : StandsAt types limit depth hand ty spot c rows) where
  abbrev pub stored : IsSeenAs (kinds_of types) c rows spot.object here.object
  stored = seen_as (kinds_of types) c rows spot.object here.object here.housed here.placed here.place.there

  abbrev pub raw : Object
  raw = stored.object

  module _ (id : TyId) (element : Parts) (owns : OwnsParts types ty id element) where
    pub is_owner : IsOwner (kinds_of types) c rows spot.object spot.word raw
    is_owner = record {
      housed = here.housed;
      there = stored.found;
      owner = ap (λ (x : Object). kinds_of types x.ty spot.word) stored.same ∙ owns_there types limit depth hand ty spot c rows here id element owns;
    }

    has_it : HasWord spot.index spot.word raw
    has_it = record {
      has_slot =
          let n = length-map raw.slots (slot_seen (names_of c rows) (kinds_of types raw.ty)) in
          let e = ap (λ (x : Object). length x.slots) stored.same in
          let s = here.place.slot in
          omega (arith, n, e, s);
      has_word = let e = ap (λ (x : Object). x.width) stored.same in let w = word_inside types limit depth hand ty spot c rows here id element owns in omega (arith, e, w);
    }

    pub has_word : IfSome (object_of c rows spot.object) (HasWord spot.index spot.word)
    has_word = subst (λ (x : Option Object). IfSome x (HasWord spot.index spot.word)) (sym stored.found) has_it

    -- it has the buffer that was found
    pub has_buffer : (b : ObjRef) → Got b.birth ≡ buffer_of (meant types c rows) (spot_seen spot) → IsRef c rows b → HasBuffer types limit depth hand ty spot b c rows
    has_buffer b is referred = record { stands = here; owned = got_some (owned_at (meant types c rows) (spot_seen spot)) _ b.birth is; referred = referred }

  -- whatever it owns
  module _ (container : IsContainer (parts_at types ty)) where
    pub container_owns : (id : TyId) × (element : Parts) × OwnsParts types ty id element
    container_owns = go (parts_at types ty) refl container
      where
        go : (p : Parts) → parts_at types ty ≡ p → IsContainer p → (id : TyId) × (element : Parts) × OwnsParts types ty id element
        go (Text id) is h = (id, Single, text_parts types here.served.ordered ty id is)
        go (Vector id element) is h = (id, element, vector_parts types here.served.ordered ty id element is)
        go Single is h = absurd h
        go Raw is h = absurd h
        go Iterates is h = absurd h
        go Views is h = absurd h
        go (Unique id target) is h = absurd h
        go (Member first others) is h = absurd h
        go NoMember is h = absurd h

-- what is found first in a container tells what it is
module _ (p : Parts) (container : IsContainer p) where
  pub told_vector : (id : TyId) → Some id ≡ elements_in (first_of (flat 0 p)) → (element : Parts) × (p ≡ Vector id element)
  told_vector id e = go p container e
    where
      go : (q : Parts) → IsContainer q → Some id ≡ elements_in (first_of (flat 0 q)) → (element : Parts) × (q ≡ Vector id element)
      go (Text k) h e = absurd (unlike e)
        where
          unlike : Some id ≡ None → ⊥
          unlike x = cc
      go (Vector k element) h e = (element, ap (λ n. Vector n element) (sym (same e)))
        where
          same : Some id ≡ Some k → id ≡ k
          same x = cc
      go Single h e = absurd h
      go Raw h e = absurd h
      go Iterates h e = absurd h
      go Views h e = absurd h
      go (Unique k target) h e = absurd h
      go (Member first others) h e = absurd h
      go NoMember h e = absurd h

  pub told_text : (id : TyId) → Some id ≡ characters_in (first_of (flat 0 p)) → p ≡ Text id
  told_text id e = go p container e
    where
      go : (q : Parts) → IsContainer q → Some id ≡ characters_in (first_of (flat 0 q)) → q ≡ Text id
      go (Text k) h e = ap Text (sym (same e))
        where
          same : Some id ≡ Some k → id ≡ k
          same x = cc
      go (Vector k element) h e = absurd (unlike e)
        where
          unlike : Some id ≡ None → ⊥
          unlike x = cc
      go Single h e = absurd h
      go Raw h e = absurd h
      go Iterates h e = absurd h
      go Views h e = absurd h
      go (Unique k target) h e = absurd h
      go (Member first others) h e = absurd h
      go NoMember h e = absurd h

  -- one of both
  pub told_either : None ≡ elements_in (first_of (flat 0 p)) → None ≡ characters_in (first_of (flat 0 p)) → ⊥
  told_either vector text = go p container vector text
    where
      go : (q : Parts) → IsContainer q → None ≡ elements_in (first_of (flat 0 q)) → None ≡ characters_in (first_of (flat 0 q)) → ⊥
      go (Text k) h a b = unlike b
        where
          unlike : None ≡ Some k → ⊥
          unlike x = cc
      go (Vector k element) h a b = unlike a
        where
          unlike : None ≡ Some k → ⊥
          unlike x = cc
      go Single h a b = h
      go Raw h a b = h
      go Iterates h a b = h
      go Views h a b = h
      go (Unique k target) h a b = h
      go (Member first others) h a b = h
      go NoMember h a b = h

-- the edit of the buffer that was found
pub edited_here : (s : Setting) (p : Parts) (spot : Spot) (edit : Edit) (m : Content) (b : ℕ) → Got b ≡ buffer_of m (spot_seen spot) → edited s p (spot_seen spot) b edit m ≡ edited_at s p (spot_seen spot) edit m
edited_here s p spot edit m b is = ap (λ (x : Attempt ℕ). then_get x (λ n. edited s p (spot_seen spot) n edit m)) is
