-- A local is given a number or an object: nothing else is touched, no pointer is written, and each vector and each string has its buffer still.
use Rattle.std.proofs.Common.{◌≡◌, ◌≢◌, ◌⊎◌, inl, inr, ⊎_elim, ℕ, ◌+◌, ◌*◌, ◌≤◌, ◌<◌, Bool, true, false, [], ◌∷◌, Option, Some, None, refl, sym, ap, subst, ◌∙◌, arith}
use Rattle.std.specs.Prelude.{ℤ, cond, nat_lt, option_map, slice_get, ◌&&◌}
use Rattle.life_types.specs.Trees.{IsOrdered}
use Rattle.life_types.specs.Types.{Types, is_slot_at}
use Rattle.life_types.specs.declared.ty.TyId.{TyId}
use Rattle.life_core.specs.declared.program.Local.{Local}
use Rattle.life_core.specs.Function.{Function}
use Rattle.life_core.specs.Holdings.{ANumber, APointer, AView, AnObject, Blank, Holding, sort_of}
use Rattle.life_store.specs.Births.{with_value_object}
use Rattle.life_store.specs.Calls.{born_with, given, given_if, given_to, number_given, slot_born}
use Rattle.life_store.specs.Cells.{at, at-set_other, at-set_same}
use Rattle.life_store.specs.Content.{Content, Object, live_words_of, newborn, resized, with_birth, with_object, with_word}
use Rattle.life_store.specs.Doing.{saved}
use Rattle.life_store.specs.Effects.{Next, Setting, Traps, on_next, put_cell, put_content, word_of_number}
use Rattle.life_store.specs.Kinds.{is_owner, kind_in}
use Rattle.life_store.specs.Parts.{Parts, Single, parts_at}
use Rattle.life_store.specs.Places.{found_at, found_in, on_found}
use Rattle.life_store.specs.State.{Cell, Empty, Named, Number, Pointer, Points, State}
use Rattle.life_store.specs.declared.run.TrapKind.TheVariants as trap
use Rattle.life_store.proofs.CellLemmas.{cell_cases}
use Rattle.life_store.proofs.MapLemmas.{one_or_apart}
use Rattle.life_forest.specs.Forest.{Touches}
use Rattle.life_forest.specs.Frames.{OnNext}
use Rattle.life_forest.specs.Kinds.{kinds_of}
use Rattle.life_forest.specs.Owned.{hit, owns, owns_at, owns_if, spared}
use Rattle.life_cover.specs.Buffered.{AreBut}
use Rattle.life_cover.proofs.Buffering.{birth_but, set_but, single_have}
use Rattle.life_cover.proofs.KeptCopies.{object_parts}
use Rattle.life_cover.proofs.Putting.{set_other}
use Rattle.life_cover.proofs.Unkilled.{no_foot}

-- a number, an object or a pointer
abbrev pub IsFilled : Cell → Type 0
IsFilled Empty = ⊥
IsFilled _ = Unit {0}

-- ---- an object of a value alone is new

module _ (types : Types) (c d : Content) (word : ℕ) (ty : TyId) (single : parts_at types ty ≡ Single) where
  abbrev pub one_word : (stamp capacity end : ℕ) → Object
  one_word stamp capacity end = record { ty = ty; width = 1; capacity = capacity; slots = record { words = word ∷ []; stamp = stamp } ∷ []; end = end }

  owns_nothing : (stamp capacity end : ℕ) (g : ℕ → Bool) (k : ℕ) → owns (kinds_of types) g (one_word stamp capacity end) k ≡ 0
  owns_nothing stamp capacity end g k = ap (λ (b : Bool). cond (b && g 0) (hit word k) 0 + 0 + 0) (ap (λ (p : Parts). is_owner (kind_in p 0)) single)

  pub new_touches : (stamp capacity end : ℕ) → at d.objects c.births ≡ Some (one_word stamp capacity end) → ((n : ℕ) → c.births ≢ n → at d.objects n ≡ at c.objects n) → c.births ≤ d.births → c.clock ≤ d.clock → Touches (kinds_of types) no_foot c d
  new_touches stamp capacity end there others births clock = record {
    births = births;
    clock = clock;
    kept = λ n lt apart. ap (option_map (spared (kinds_of types) (λ u. false))) (others n (λ e. omega (arith, e, lt)));
    back = λ g m k lt own. one_or_apart c.births m
        (λ same.
        let z = owns_nothing stamp capacity end g k in
        let e : owns_at (kinds_of types) d g m k ≡ owns (kinds_of types) g (one_word stamp capacity end) k = ap (λ (o : Option Object). owns_if (kinds_of types) g o k) (subst (λ j. at d.objects j ≡ Some (one_word stamp capacity end)) same there) in
        absurd (omega (arith, own, e, z)))
        (λ ne. inr (subst (λ (o : Option Object). 0 < owns_if (kinds_of types) g o k) (others m ne) own));
  }

-- ---- behind a local that is given a value

-- what is named was named, is what was given, or is new; a pointer is what was given, and all other cells are as they were. An object is given as it is
pub record IsGiven (types : Types) (bare : ℕ → Type 0) (x : ℕ) (v : Cell) (st st' : State) : Type 0 where
  pub touch : Touches (kinds_of types) no_foot st.world.content st'.world.content
  pub buffered : AreBut types bare st'.world.content
  pub named : (y n : ℕ) → slice_get st'.cells y ≡ Some (Named n) → (slice_get st.cells y ≡ Some (Named n)) ⊎ ((v ≡ Named n) ⊎ (st.world.content.births ≤ n))
  pub points : (y : ℕ) (p : Pointer) → slice_get st'.cells y ≡ Some (Points p) → ((x ≡ y) × (v ≡ Points p)) ⊎ ((x ≢ y) × (slice_get st.cells y ≡ Some (Points p)))
  pub stays : (y : ℕ) → x ≢ y → slice_get st'.cells y ≡ slice_get st.cells y
  pub object : (m : ℕ) → v ≡ Named m → (st'.world.content ≡ st.world.content) × ((n : ℕ) → slice_get st'.cells x ≡ Some (Named n) → n ≡ m)

module _ (types : Types) (ordered : IsOrdered types) (s : Setting) (x : ℕ) (v : Cell) (st : State) (bare : ℕ → Type 0) (buffered : AreBut types bare st.world.content) where
  given_cell : (new : Cell) (d : Content) → ((p : Pointer) → new ≡ Points p → v ≡ Points p) → ((n : ℕ) → new ≡ Named n → (v ≡ Named n) ⊎ (st.world.content.births ≤ n)) → Touches (kinds_of types) no_foot st.world.content d → AreBut types bare d
      → ((m : ℕ) → v ≡ Named m → (d ≡ st.world.content) × ((n : ℕ) → new ≡ Named n → n ≡ m)) → IsGiven types bare x v st (put_cell x new (put_content d st))
  given_cell new d point name touch kept whole = record {
    touch = touch;
    buffered = kept;
    named = λ y n e. ⊎_elim (λ h. inr (name n h.1)) (λ h. inl h.1) (cell_cases st.cells x y new (Named n) e);
    points = λ y p e. ⊎_elim (λ h. inl (h.0, point p h.1)) (λ h. inr (h.0, h.1)) (cell_cases st.cells x y new (Points p) e);
    stays = λ y ne. set_other st.cells x y new ne;
    object = λ m is. ((whole m is).0, λ n e. ⊎_elim (λ h. (whole m is).1 n h.1) (λ h. absurd (h.0 refl)) (cell_cases st.cells x x new (Named n) e));
  }

  nothing_touched : Touches (kinds_of types) no_foot st.world.content st.world.content
  nothing_touched = record { births = omega arith; clock = omega arith; kept = λ n lt apart. refl; back = λ g m k lt own. inr own }

  named_other : (n : ℕ) (p : Pointer) → Named n ≡ Points p → v ≡ Points p
  named_other n p e = absurd (unlike e)
    where
      unlike : Named n ≡ Points p → ⊥
      unlike h = cc

  number_other : (z : ℤ) (p : Pointer) → Number z ≡ Points p → v ≡ Points p
  number_other z p e = absurd (unlike e)
    where
      unlike : Number z ≡ Points p → ⊥
      unlike h = cc

  number_nameless : (z : ℤ) (n : ℕ) → Number z ≡ Named n → ⊥
  number_nameless z n e = cc

  -- an object comes to life with a value
  object_given : (ty : TyId) → parts_at types ty ≡ Single → (z : ℤ) → ((m : ℕ) → v ≡ Named m → ⊥) → OnNext (born_with s ty z x st) (IsGiven types bare x v st)
  object_given ty single z other = go (nat_lt s.given.cells (live_words_of st.world.content + (2 + 1 * 1)))
    where
      born : AreBut types bare (with_value_object ty st.world.content)
      born =
          set_but types bare st.world.content.births (resized (st.world.content.clock + 1) 1 0 (newborn ty 1 1 st.world.content.clock)) (with_birth ty 1 1 st.world.content) (with_value_object ty st.world.content)
          (inr (single_have types (resized (st.world.content.clock + 1) 1 0 (newborn ty 1 1 st.world.content.clock)) single)) refl (birth_but types bare ty 1 1 st.world.content buffered)

      go : (full : Bool)
          → OnNext (on_next (cond full (Traps trap.Cells) (Next (put_cell x (Named st.world.content.births) (put_content (with_value_object ty st.world.content) st)))) (λ later. on_found (found_at later.world.content st.world.content.births 0) (λ n i o. Next (saved z n i 0 o later)))) (IsGiven types bare x v st)
      go true = tt
      go false =
          subst (λ (o : Option Object). OnNext (on_found (found_in o st.world.content.births 0) (λ n i q. Next (saved z n i 0 q (put_cell x (Named st.world.content.births) (put_content (with_value_object ty st.world.content) st))))) (IsGiven types bare x v st))
          (sym (at-set_same (with_birth ty 1 1 st.world.content).objects st.world.content.births st.world.content.births (resized (st.world.content.clock + 1) 1 0 (newborn ty 1 1 st.world.content.clock)) refl))
          (given_cell (Named st.world.content.births) (with_object st.world.content.births (with_word 0 0 (word_of_number z) (resized (st.world.content.clock + 1) 1 0 (newborn ty 1 1 st.world.content.clock))) (with_value_object ty st.world.content)) (named_other st.world.content.births)
          (λ n e. inr (subst (λ j. st.world.content.births ≤ j) (same e) (omega arith)))
          (new_touches types st.world.content (with_object st.world.content.births (with_word 0 0 (word_of_number z) (resized (st.world.content.clock + 1) 1 0 (newborn ty 1 1 st.world.content.clock))) (with_value_object ty st.world.content)) (word_of_number z) ty single
          (st.world.content.clock + 1) 1 (st.world.content.clock + 1)
          (at-set_same (with_value_object ty st.world.content).objects st.world.content.births st.world.content.births _ refl) others (omega arith) (omega arith))
          (set_but types bare st.world.content.births (with_word 0 0 (word_of_number z) (resized (st.world.content.clock + 1) 1 0 (newborn ty 1 1 st.world.content.clock))) (with_value_object ty st.world.content)
          (with_object st.world.content.births (with_word 0 0 (word_of_number z) (resized (st.world.content.clock + 1) 1 0 (newborn ty 1 1 st.world.content.clock))) (with_value_object ty st.world.content))
          (inr (single_have types (with_word 0 0 (word_of_number z) (resized (st.world.content.clock + 1) 1 0 (newborn ty 1 1 st.world.content.clock))) single)) refl born)
          (λ m is. absurd (other m is)))
        where
          same : {i j : ℕ} → Named i ≡ Named j → i ≡ j
          same e = cc

          others : (n : ℕ) → st.world.content.births ≢ n
              → at (with_object st.world.content.births (with_word 0 0 (word_of_number z) (resized (st.world.content.clock + 1) 1 0 (newborn ty 1 1 st.world.content.clock))) (with_value_object ty st.world.content)).objects n ≡ at st.world.content.objects n
          others n ne =
              at-set_other (with_value_object ty st.world.content).objects st.world.content.births n (with_word 0 0 (word_of_number z) (resized (st.world.content.clock + 1) 1 0 (newborn ty 1 1 st.world.content.clock))) ne
              ∙ at-set_other (with_birth ty 1 1 st.world.content).objects st.world.content.births n (resized (st.world.content.clock + 1) 1 0 (newborn ty 1 1 st.world.content.clock)) ne
              ∙ at-set_other st.world.content.objects st.world.content.births n (newborn ty 1 1 st.world.content.clock) ne

  number_given_to : (f : Function) (l : Local) (h : Holding) (z : ℤ) → (h ≡ AnObject → parts_at types l.ty ≡ Single) → ((m : ℕ) → v ≡ Named m → ⊥) → OnNext (number_given s h l.ty z x st) (IsGiven types bare x v st)
  number_given_to f l AnObject z single other = object_given l.ty (single refl) z other
  number_given_to f l ANumber z single other = given_cell (Number z) st.world.content (number_other z) (λ n e. absurd (number_nameless z n e)) nothing_touched buffered (λ m is. absurd (other m is))
  number_given_to f l Blank z single other = tt
  number_given_to f l APointer z single other = tt
  number_given_to f l AView z single other = tt

-- what a slot takes is no object
abbrev pub TakesNoSlot : Types → Function → ℕ → Cell → Type 0
TakesNoSlot types f x v = (l : Local) (n : ℕ) → slice_get f.locals x ≡ Some l → v ≡ Named n → is_slot_at types l.ty ≡ false

pub value_given : (types : Types) (ordered : IsOrdered types) (s : Setting) (f : Function) (x : ℕ) (v : Cell) (st : State) (bare : ℕ → Type 0) → AreBut types bare st.world.content → IsFilled v → TakesNoSlot types f x v → OnNext (given s types f v x st) (IsGiven types bare x v st)
value_given types ordered s f x v st bare buffered is free = by_local (slice_get f.locals x) refl
  where
    by_cell : (l : Local) → slice_get f.locals x ≡ Some l → (u : Cell) → v ≡ u → IsFilled u → OnNext (given_to s types (sort_of types f x) l.ty u x st) (IsGiven types bare x v st)
    by_cell l there Empty e h = absurd h
    by_cell l there (Points p) e h = given_cell types ordered s x v st bare buffered (Points p) st.world.content (λ q k. e ∙ k) (λ n k. absurd (unlike n k)) (nothing_touched types ordered s x v st bare buffered) buffered (λ m is. absurd (unlike m (sym e ∙ is)))
      where
        unlike : (n : ℕ) → Points p ≡ Named n → ⊥
        unlike n k = cc
    by_cell l there (Number z) e h = number_given_to types ordered s x v st bare buffered f l (sort_of types f x) z (object_parts types ordered f x l there)
        (λ m is. number_nameless types ordered s x v st bare buffered z m (sym e ∙ is))
    by_cell l there (Named n) e h =
        subst (λ (b : Bool). OnNext (cond b (slot_born s types l.ty (Some n) x st) (Next (put_cell x (Named n) st))) (IsGiven types bare x v st)) (sym (free l n there e))
        (given_cell types ordered s x v st bare buffered (Named n) st.world.content (named_other types ordered s x v st bare buffered n) (λ m k. inl (e ∙ k)) (nothing_touched types ordered s x v st bare buffered) buffered
        (λ m is. (refl, λ j at. one (sym at ∙ (sym e ∙ is)))))
      where
        one : {i j : ℕ} → Named i ≡ Named j → i ≡ j
        one k = cc

    by_local : (o : Option Local) → slice_get f.locals x ≡ o → OnNext (given_if s types f o v x st) (IsGiven types bare x v st)
    by_local None e = tt
    by_local (Some l) e = by_cell l e v refl is
