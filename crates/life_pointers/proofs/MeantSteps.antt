-- The steps of the meaning that make pointers, by what is made before something is written.
use Rattle.std.proofs.Common.{◌≡◌, ℕ, ℤ, Option, Some, None, refl, ap, ◌∙◌}
use Rattle.std.specs.Prelude.{pos}
use Rattle.life_types.specs.Types.{Types}
use Rattle.life_core.specs.declared.instr.Direction.{Direction}
use Rattle.life_core.specs.declared.operand.RangeEnd.{RangeEnd}
use Rattle.life_core.specs.declared.operand.Which.{Which}
use Rattle.life_core.specs.Function.{Function}
use Rattle.life_core.specs.Operands.{Location}
use Rattle.life_core.specs.Operands as source
use Rattle.life_store.specs.Content.{Content}
use Rattle.life_store.specs.Doing.{advanced, compared, count_in, cursor, cut, element, element_at, location_cell, on_number, pointed, pointer_to, sized, target_at, type_if, whole_of}
use Rattle.life_store.specs.Edits.{buffer_of, size_of}
use Rattle.life_store.specs.Effects.{Setting, Effect, Next, Attempt, Got, GotTrap, GotFault, GotLost, cell, on_got, put_cell, then_get, type_of}
use Rattle.life_store.specs.Iterators.{at_index, chosen, count_of, directed, element_of, end_index, index_in, iterator, same_position, stepped}
use Rattle.life_store.specs.Parts.{Views, location_type}
use Rattle.life_store.specs.Places.{Spot}
use Rattle.life_store.specs.State.{Pointer, Points, Cell, Number, State}
use Rattle.life_store.specs.Views.{are_same, is_span, part_count, part_of, seen_bytes, seen_count, usable, used}
use Rattle.life_pointers.specs.Choices.{chosen_by}
use Rattle.life_pointers.specs.Made.{alike, moved, viewed_alike, viewed_element, viewed_end, viewed_part, viewed_size}
use Rattle.life_pointers.specs.Owned.{owned_element, owned_end, owned_size, owned_target, owned_whole}
use Rattle.life_pointers.specs.declared.choosing.Choice.{Choice}

-- one part after the other
pub got_then : {A B : Type 0} (a : Attempt A) (f : A → Attempt B) (go : B → Effect) → on_got a (λ x. on_got (f x) go) ≡ on_got (then_get a f) go
got_then (Got x) f go = refl
got_then (GotTrap kind) f go = refl
got_then (GotFault kind) f go = refl
got_then GotLost f go = refl

pub got_twice : {A B C : Type 0} (a : Attempt A) (f : A → Attempt B) (g : A → B → C) (go : C → Effect)
    → on_got a (λ x. on_got (f x) (λ y. go (g x y))) ≡ on_got (then_get a (λ x. then_get (f x) (λ y. Got (g x y)))) go
got_twice a f g go = (λ j. on_got a (λ x. got_then (f x) (λ y. Got (g x y)) go j)) ∙ got_then a (λ x. then_get (f x) (λ y. Got (g x y))) go

module _ (types : Types) (f : Function) (st : State) where
  abbrev m : Content
  m = st.world.content

  abbrev now : ℕ
  now = st.world.content.clock

  abbrev put : Location → Pointer → Effect
  put p v = pointed types f p v st

  abbrev counted : ℕ → ℕ → Effect
  counted r n = Next (put_cell r (Number (pos n)) st)

  -- ---- of a span or a view

  module _ (l : Location) (q : Pointer) (held : location_cell types f l st ≡ Some (Points q)) where
    pub element_is : (p : Location) (w : Which) (c : Choice) → ((size : ℕ) → chosen st w size ≡ chosen_by c size) → element types f p (source.Pointer l) w st ≡ on_got (viewed_element m c q) (put p)
    element_is p w c same =
        ap (λ (x : Option Cell). on_got (used m x) (λ v. element_at types f p w (seen_count v) v st)) held
        ∙ (λ j. on_got (usable m q) (λ v. on_got (same (seen_count v) j) (λ i. put p (element_of now i v))))
        ∙ got_twice (usable m q) (λ v. chosen_by c (seen_count v)) (λ v i. element_of now i v) (put p)

    pub cursor_is : (p : Location) (end : RangeEnd) → cursor types f p (source.Pointer l) end st ≡ on_got (viewed_end m end q) (put p)
    cursor_is p end =
        ap (λ (x : Option Cell). on_got (used m x) (λ v. put p (element_of now (end_index end (seen_count v)) v))) held
        ∙ got_then (usable m q) (λ v. Got (element_of now (end_index end (seen_count v)) v)) (put p)

    pub size_is : (r : ℕ) → sized types f r (source.Pointer l) st ≡ on_got (viewed_size m q) (counted r)
    size_is r = ap (λ (x : Option Cell). on_got (used m x) (λ v. counted r (seen_count v))) held ∙ got_then (usable m q) (λ v. Got (seen_count v)) (counted r)

    pub cut_is : (p : Location) (r : ℕ) (count : Option ℕ) (i : ℕ) (n : Option ℕ) → index_in (cell st r) ≡ Got i → count_in st count ≡ Got n
        → cut types f p l r count st ≡ on_got (viewed_part m (is_span (type_if types (location_type types f l))) i n q) (put p)
    cut_is p r count i n index counts =
        (λ j. on_got (used m (held j)) (λ v. on_got (index j) (λ k. on_got (counts j) (λ x.
        on_got (part_count (is_span (type_if types (location_type types f l))) k x (seen_count v)) (λ y. put p (part_of now k y v))))))
        ∙ got_twice (usable m q) (λ v. part_count (is_span (type_if types (location_type types f l))) i n (seen_count v)) (λ v y. part_of now i y v) (put p)

    -- ---- of an iterator

    pub advanced_is : (s : Setting) (p : Location) (r : ℕ) (way : Direction) (z : ℤ) → cell st r ≡ Some (Number z)
        → advanced s types f p l r way st ≡ on_got (moved s.texts m (directed way (count_of (type_of types f r) z)) q) (put p)
    advanced_is s p r way z number =
        (λ j. on_got (iterator m (held j)) (λ v. on_number (number j) (λ k. on_got (stepped s.texts m v (directed way (count_of (type_of types f r) k))) (λ i. put p (at_index now i v)))))
        ∙ got_twice (iterator m (Some (Points q))) (λ v. stepped s.texts m v (directed way (count_of (type_of types f r) z))) (λ v i. at_index now i v) (put p)

  -- ---- of two

  module _ (a b : Location) (p q : Pointer) (left : location_cell types f a st ≡ Some (Points p)) (right : location_cell types f b st ≡ Some (Points q)) where
    pub views_compared : (s : Setting) → compared s types f Views a b st ≡ viewed_alike s.texts m p q
    views_compared s = (λ j. then_get (used m (left j)) (λ v. then_get (used m (right j)) (λ w. Got (are_same (seen_bytes s.texts m v) (seen_bytes s.texts m w)))))

    -- by all other parts
    pub iterators_compared : then_get (iterator m (location_cell types f a st)) (λ v. then_get (iterator m (location_cell types f b st)) (λ w. same_position v w)) ≡ alike m p q
    iterators_compared = (λ j. then_get (iterator m (left j)) (λ v. then_get (iterator m (right j)) (λ w. same_position v w)))

  -- ---- of what an owner owns

  pub owned_element_is : (p : Location) (spot : Spot) (w : Which) (c : Choice) → ((size : ℕ) → chosen st w size ≡ chosen_by c size)
      → on_got (buffer_of m spot) (λ b. element_at types f p w (size_of m b) (pointer_to m b 0 0) st) ≡ on_got (owned_element m c spot) (put p)
  owned_element_is p spot w c same =
      (λ j. on_got (buffer_of m spot) (λ b. on_got (same (size_of m b) j) (λ i. put p (element_of now i (pointer_to m b 0 0)))))
      ∙ got_twice (buffer_of m spot) (λ b. chosen_by c (size_of m b)) (λ b i. element_of now i (pointer_to m b 0 0)) (put p)

  pub owned_end_is : (p : Location) (spot : Spot) (end : RangeEnd) → on_got (buffer_of m spot) (λ b. put p (pointer_to m b (end_index end (size_of m b)) 0)) ≡ on_got (owned_end m end spot) (put p)
  owned_end_is p spot end = got_then (buffer_of m spot) (λ b. Got (pointer_to m b (end_index end (size_of m b)) 0)) (put p)

  pub owned_whole_is : (p : Location) (spot : Spot) → on_got (buffer_of m spot) (λ b. put p (whole_of m b)) ≡ on_got (owned_whole m spot) (put p)
  owned_whole_is p spot = got_then (buffer_of m spot) (λ b. Got (whole_of m b)) (put p)

  pub owned_size_is : (r : ℕ) (spot : Spot) → on_got (buffer_of m spot) (λ b. counted r (size_of m b)) ≡ on_got (owned_size m spot) (counted r)
  owned_size_is r spot = got_then (buffer_of m spot) (λ b. Got (size_of m b)) (counted r)

  pub owned_target_is : (p : Location) (owned : Option ℕ) → target_at types f p owned st ≡ on_got (owned_target m owned) (put p)
  owned_target_is p None = refl
  owned_target_is p (Some n) = refl
