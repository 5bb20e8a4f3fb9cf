-- A frame has a store behind the move of an owner.
use Rattle.std.proofs.Common.{◌≡◌, ℕ, zero, suc, ◌+◌, ◌<◌, List, [], ◌∷◌, length, Option, Some, None, refl, sym, ap, subst, arith}
use Rattle.std.specs.Prelude.{drop, slice_index, take}
use Rattle.life_types.specs.Trees.{IsOrdered}
use Rattle.life_types.specs.Types.{Types}
use Rattle.life_types.specs.declared.ty.TyId.{TyId}
use Rattle.life_store.specs.Cells.{at}
use Rattle.life_store.specs.Content.{Object, Content}
use Rattle.life_store.specs.Doing.{giving, moved_to, moves_from}
use Rattle.life_store.specs.Effects.{Next, put_content}
use Rattle.life_store.specs.Held.{owned_in, owner_word, slot_words, wrote}
use Rattle.life_store.specs.Owners.{taken}
use Rattle.life_store.specs.Parts.{Parts, Unique, parts_at, width_at}
use Rattle.life_store.specs.Places.{spot_words}
use Rattle.life_store.specs.State.{Named, State}
use Rattle.life_forest.specs.Frames.{HasStore, OnNext, named_in}
use Rattle.life_forest.specs.Owned.{times}
use Rattle.life_forest.specs.Typed.{IsStore}
use Rattle.life_forest.specs.Values.{owned_of}
use Rattle.life_forest.specs.Within.{LiesWithin}
use Rattle.life_forest.proofs.Coming.{IfGot}
use Rattle.life_forest.proofs.Fitting.{Flat}
use Rattle.life_forest.proofs.Frames.{on_got_next}
use Rattle.life_forest.proofs.Owners.{moved_out, ws_wide}
use Rattle.life_forest.proofs.Stores.{replaced_store}

-- what is given is what the owner has
giving_is : (p : Parts) (x : Option ℕ) → IfGot (giving p x) (λ y. y ≡ x)
giving_is (Unique ty target) x = refl
giving_is _ None = tt
giving_is _ (Some n) = refl

owner_back : (x : ℕ) → owner_word (owned_in x) ≡ x
owner_back zero = refl
owner_back (suc x) = refl

one_word : (n : ℕ) (xs : List ℕ) → n ≡ 1 → length (take n (drop 0 xs)) ≡ n → take n (drop 0 xs) ≡ owner_word (owned_in (slice_index xs 0)) ∷ []
one_word zero xs e l = absurd (omega (arith, e))
one_word (suc n) [] e l = absurd (omega (arith, l))
one_word (suc zero) (x ∷ xs) e l = ap (λ (y : ℕ). y ∷ []) (sym (owner_back x))
one_word (suc (suc n)) (x ∷ xs) e l = absurd (omega (arith, e))

module _ (types : Types) (ordered : IsOrdered types) (rest : ℕ → ℕ) (st : State) (store : HasStore types rest st) (m : ℕ) (part : TyId) (om : Object) (m_there : at st.world.content.objects m ≡ Some om) (m_within : LiesWithin types om.ty 0 part)
    (m_slot : 0 < length om.slots) (one : width_at types part ≡ 1) where
  abbrev has : ℕ → ℕ
  has k = times (named_in st.cells) k + rest k

  abbrev c : Content
  c = st.world.content

  abbrev p : Parts
  p = parts_at types part

  -- the words that the owner has
  abbrev words : List ℕ
  words = owner_word (owned_in (slice_index (slot_words c m 0) 0)) ∷ []

  pub words_are : spot_words c (record { object = m; index = 0; word = 0 }) (width_at types part) ≡ words
  words_are = one_word (width_at types part) (slot_words c m 0) one (ws_wide types ordered has c store m part om m_there m_within m_slot one)

  -- the content where the owner has nothing
  abbrev left : Content
  left = wrote m 0 0 (owner_word None ∷ []) (taken p words c).1

  out : IsStore types (λ k. times (owned_of p (taken p words c).0) k + has k) left × Flat left p (taken p words c).0 × (length (taken p words c).0 ≡ width_at types part)
  out =
      subst (λ (ws : List ℕ). IsStore types (λ k. times (owned_of p (taken p ws c).0) k + has k) (wrote m 0 0 (owner_word None ∷ []) (taken p ws c).1) × Flat (wrote m 0 0 (owner_word None ∷ []) (taken p ws c).1) p (taken p ws c).0 × (length (taken p ws c).0 ≡ width_at types part))
      words_are (moved_out types ordered has c store m part om m_there m_within m_slot one)

  -- the place of the other owner is as it is when this one has nothing
  pub move_keeps : (n i w : ℕ) (o : Object) → at (wrote m 0 0 (owner_word None ∷ []) (taken (parts_at types part) (owner_word (owned_in (slice_index (slot_words st.world.content m 0) 0)) ∷ []) st.world.content).1).objects n ≡ Some o
      → LiesWithin types o.ty w part → i < length o.slots → OnNext (moves_from (parts_at types part) (record { object = n; index = i; word = w }) (Some (Named m)) st) (HasStore types rest)
  move_keeps n i w o there within lt =
      on_got_next (giving p (owned_in (slice_index (slot_words c m 0) 0))) (λ owned. Next (put_content (moved_to p (record { object = n; index = i; word = w }) m (taken p (owner_word owned ∷ []) c)) st)) (λ y. y ≡ owned_in (slice_index (slot_words c m 0) 0)) (HasStore types rest)
      (giving_is p (owned_in (slice_index (slot_words c m 0) 0)))
      (λ y e. subst (λ x. IsStore types has (moved_to p (record { object = n; index = i; word = w }) m (taken p (owner_word x ∷ []) c))) (sym e)
      (replaced_store types ordered has (λ k. times (owned_of p (taken p words c).0) k + has k) left out.0 n i w part o there within lt (taken p words c).0 out.2 out.1 (λ k. omega arith)))
