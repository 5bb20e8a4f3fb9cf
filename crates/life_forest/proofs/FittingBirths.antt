-- What comes to life fits its type.
use Rattle.std.proofs.Common.{◌≡◌, ℕ, zero, suc, ◌+◌, true, List, [], ◌∷◌, ◌++◌, length, Option, Some, None, refl, sym, ap, subst, ◌∙◌, arith, inl, inr, ◌⊎◌, ⊎_elim}
use Rattle.std.specs.Prelude.{◌&&◌, slice_index}
use Rattle.life_types.specs.declared.ty.TyId.{TyId}
use Rattle.life_core.specs.declared.instr.Form.{Form}
use Rattle.life_store.specs.Cells.{at, at-set_same, at-set_other}
use Rattle.life_store.specs.Content.{Object, Content, newborn, with_birth, word_at}
use Rattle.life_store.specs.Effects.{Setting, Attempt, Got, GotTrap, GotFault, GotLost, then_get}
use Rattle.life_store.specs.Held.{owner_word, resized_at, resized_if}
use Rattle.life_store.specs.Owners.{Words, birth, fresh, joined, owning}
use Rattle.life_store.specs.Parts.{Parts, Single, Raw, Iterates, Views, Text, Vector, Unique, Member, NoMember, width}
use Rattle.life_store.proofs.CellLemmas.{some_same}
use Rattle.life_store.proofs.MapLemmas.{one_or_apart}
use Rattle.life_forest.specs.Changes.{with_born}
use Rattle.life_forest.specs.Kinds.{Kinds, owned_type}
use Rattle.life_store.specs.Kinds.{Kind, Plain, Owner, Pointing, is_owner, row_behind, kind_in}
use Rattle.life_forest.specs.Owned.{every, times, alive, alive_if}
use Rattle.life_forest.specs.Forest.{IsForest}
use Rattle.life_forest.specs.Typed.{AreFit, IsFit}
use Rattle.life_forest.specs.Values.{Laid, Named, owned_of}
use Rattle.life_forest.proofs.Among.{slots_counted, to_among}
use Rattle.life_forest.proofs.Below.{lives}
use Rattle.life_forest.proofs.Coming.{Came, CameWords, IfGot, fresh_came, got_then, if_room}
use Rattle.life_forest.proofs.Fitting.{Flat, KeepsTypes, fit_resize, flat_later}
use Rattle.life_forest.proofs.Single.{unborn}
use Rattle.life_forest.proofs.Steps.{owned_held}

pub value_owner : Plain ≡ Owner → ⊥
value_owner e = cc

pub pointer_owner : (i : ℕ) → Pointing i ≡ Owner → ⊥
pointer_owner i e = cc

-- both of what was got
pub got_both : {A : Type 0} (x : Attempt A) (P Q : A → Type 0) → IfGot x P → IfGot x Q → IfGot x (λ a. P a × Q a)
got_both (Got a) P Q h k = (h, k)
got_both (GotTrap kind) P Q h k = tt
got_both (GotFault kind) P Q h k = tt
got_both GotLost P Q h k = tt

-- ---- the words of a struct, joined

joined_word : {A : Type 0} (n : ℕ) (f g : ℕ → Kind) (a b : ℕ → A) (xs ys : List ℕ) (u m : ℕ) → length xs ≡ n → slice_index (xs ++ ys) u ≡ suc m
    → ((row_behind n f g u ≡ f u) × (row_behind n a b u ≡ a u) × (slice_index xs u ≡ suc m)) ⊎ ((v : ℕ) × (row_behind n f g u ≡ g v) × (row_behind n a b u ≡ b v) × (slice_index ys v ≡ suc m))
joined_word zero f g a b [] ys u m l e = inr (u, refl, refl, e)
joined_word zero f g a b (x ∷ xs) ys u m l e = absurd (omega (arith, l))
joined_word (suc n) f g a b [] ys u m l e = absurd (omega (arith, l))
joined_word (suc n) f g a b (x ∷ xs) ys zero m l e = inl (refl, refl, e)
joined_word (suc n) f g a b (x ∷ xs) ys (suc u) m l e = joined_word n (λ v. f (suc v)) g (λ v. a (suc v)) b xs ys u m (omega (arith, l)) e

pub flat_joined : (d : Content) (first others : Parts) (xs ys : List ℕ) → length xs ≡ width first → Flat d first xs → Flat d others ys → Flat d (Member first others) (xs ++ ys)
flat_joined d first others xs ys wide one two u m q k e there =
    ⊎_elim
    (λ h. h.1 ∙ one u m q (sym h.0 ∙ k) h.2 there)
    (λ h. h.2 ∙ two h.0 m q (sym h.1 ∙ k) h.3 there)
    (joined_word (width first) (kind_in first) (kind_in others) (owned_type first) (owned_type others) xs ys u m wide e)

-- an owner's one word
pub flat_owner : (d : Content) (p : Parts) (ty : TyId) (n : ℕ) (o : Object) → ((u : ℕ) → owned_type p u ≡ Some ty) → at d.objects n ≡ Some o → o.ty ≡ ty → Flat d p (owner_word (Some n) ∷ [])
flat_owner d p ty n o names there type zero m q k e is =
    let s : n ≡ m = omega (arith, e) in
    names 0 ∙ ap Some (sym type ∙ ap (λ (x : Object). x.ty) (some_same (sym there ∙ ap (at d.objects) s ∙ is)))
flat_owner d p ty n o names there type (suc u) m q k e is = absurd (omega (arith, e))

module _ (kind : Kinds) where
  -- ---- an object is born, which none owned before

  module _ (hand : ℕ → ℕ) (c : Content) (forest : IsForest kind hand c) (new : Object) where
    pub unowned : (n i u : ℕ) (x : Object) → at c.objects n ≡ Some x → kind.word x.ty u ≡ Owner → word_at x i u ≡ suc c.births → ⊥
    unowned n i u x there k e =
        let own = slots_counted (λ v. is_owner (kind.word x.ty v) && every v) x.slots u c.births (to_among x.slots i u c.births e) (ap (λ y. is_owner y && true) k) in
        let l = owned_held kind c n c.births x there in
        let h = forest.held c.births in
        let z : alive c c.births ≡ 0 = ap alive_if (unborn kind hand c forest) in
        omega arith

    pub fit_born : AreFit kind c → IsFit kind (with_born new c) new → AreFit kind (with_born new c)
    fit_born fit h n x is = one_or_apart c.births n
        (λ e. subst (IsFit kind (with_born new c)) (some_same (sym (at-set_same c.objects c.births n new e) ∙ is)) h)
        (λ ne. let was = sym (at-set_other c.objects c.births n new ne) ∙ is in
        let old = fit n x was in
        record {
          owned = λ i u m q k e there. one_or_apart c.births m
              (λ s. absurd (unowned n i u x was k (e ∙ ap suc (sym s))))
              (λ nm. old.owned i u m q k e (sym (at-set_other c.objects c.births m new nm) ∙ there));
          width = old.width;
          slots = old.slots;
        })

  pub fit_birth : (hand : ℕ → ℕ) (c : Content) (ty : TyId) (w capacity : ℕ) → IsForest kind hand c → kind.width ty ≡ w → AreFit kind c → AreFit kind (with_birth ty w capacity c)
  fit_birth hand c ty w capacity forest wide fit =
      fit_born hand c forest (newborn ty w capacity c.clock) fit (record { owned = λ i u m q k e there. absurd (omega (arith, e)); width = sym wide; slots = tt })

  -- .. and has its slots
  pub fit_sized : (hand : ℕ → ℕ) (c : Content) (ty : TyId) (w capacity size : ℕ) → IsForest kind hand c → kind.width ty ≡ w → AreFit kind c → AreFit kind (resized_at c.births size 0 (with_birth ty w capacity c))
  fit_sized hand c ty w capacity size forest wide fit =
      let there : at (with_birth ty w capacity c).objects c.births ≡ Some (newborn ty w capacity c.clock) = at-set_same c.objects c.births c.births (newborn ty w capacity c.clock) refl in
      subst (AreFit kind) (sym (ap (λ (x : Option Object). resized_if x c.births size 0 (with_birth ty w capacity c)) there))
      (fit_resize kind (with_birth ty w capacity c) c.births size 0 (newborn ty w capacity c.clock) there (fit_birth hand c ty w capacity forest wide fit))

  -- ---- a value as it comes to life

  abbrev pub FitWords : Parts → Words → Type 0
  FitWords p v = AreFit kind v.1 × Flat v.1 p v.0

  -- what comes after keeps what came before
  pub came_keeps : (bound : ℕ) (hand before : ℕ → ℕ) (ms : List ℕ) (c d : Content) → IsForest kind before c → Came kind bound hand ms c d → KeepsTypes c d
  came_keeps bound hand before ms c d forest a m x q there is = ap (λ (o : Object). o.ty) (some_same (sym there ∙ sym (a.same m (forest.births m x there)) ∙ is))

  pub joined_fit : (bound : ℕ) (hand : ℕ → ℕ) (first others : Parts) (c : Content) (a : Attempt Words) (f : Content → Attempt Words) → IfGot a (λ v. CameWords kind bound hand first c v × FitWords first v)
      → ((h : ℕ → ℕ) (v : Words) → IsForest kind h v.1 → AreFit kind v.1 → CameWords kind bound hand first c v → IfGot (f v.1) (λ w. CameWords kind bound h others v.1 w × FitWords others w))
      → IfGot (joined a f) (FitWords (Member first others))
  joined_fit bound hand first others c a f one more =
      got_then a (λ v. then_get (f v.1) (λ w. Got (v.0 ++ w.0, w.1))) (λ v. CameWords kind bound hand first c v × FitWords first v) (FitWords (Member first others)) one
      (λ v h. got_then (f v.1) (λ w. Got (v.0 ++ w.0, w.1)) (λ w. CameWords kind bound (λ k. times (owned_of first v.0) k + hand k) others v.1 w × FitWords others w) (FitWords (Member first others))
      (more (λ k. times (owned_of first v.0) k + hand k) v h.0.0.forest h.1.0 h.0)
      (λ w k. (
        k.1.0,
        flat_joined w.1 first others v.0 w.0 h.0.1
            (flat_later v.1 w.1 first v.0 (λ m lt. let e = h.0.0.forest.held m in lives kind v.1 m (omega arith))
            (came_keeps bound (λ k. times (owned_of first v.0) k + hand k) (λ k. times (owned_of first v.0) k + hand k) (owned_of others w.0) v.1 w.1 h.0.0.forest k.0.0) h.1.1)
            k.1.1,
      )))

  buffer_fit : (s : Setting) (p : Parts) (ty : TyId) (w : ℕ) (hand : ℕ → ℕ) (c : Content) → ((u : ℕ) → owned_type p u ≡ Some ty) → kind.width ty ≡ w → IsForest kind hand c → AreFit kind c
      → IfGot (then_get (birth s ty w 0 c) (λ b. Got (owning b))) (FitWords p)
  buffer_fit s p ty w hand c names wide forest fit =
      got_then (birth s ty w 0 c) (λ b. Got (owning b)) (λ b. FitWords p (owning b)) (FitWords p)
      (if_room _ _ (c.births, with_birth ty w 0 c) (λ b. FitWords p (owning b)) (
        fit_birth hand c ty w 0 forest wide fit,
        flat_owner (with_birth ty w 0 c) p ty c.births (newborn ty w 0 c.clock) names (at-set_same c.objects c.births c.births (newborn ty w 0 c.clock) refl) refl,
      ))
      (λ b h. h)

  pub fresh_fit : (s : Setting) (form : Form) (p : Parts) (bound : ℕ) → Laid kind bound p → Named kind p → (hand : ℕ → ℕ) (c : Content) → IsForest kind hand c → AreFit kind c → IfGot (fresh s form p c) (FitWords p)
  fresh_fit s form Single bound laid named hand c forest fit = (fit, λ u m q k e there. absurd (value_owner k))
  fresh_fit s form Raw bound laid named hand c forest fit = (fit, λ u m q k e there. absurd (pointer_owner u k))
  fresh_fit s form Iterates bound laid named hand c forest fit = (fit, λ u m q k e there. absurd (pointer_owner u k))
  fresh_fit s form Views bound laid named hand c forest fit = (fit, λ u m q k e there. absurd (pointer_owner u k))
  fresh_fit s form (Text ty) bound laid named hand c forest fit = buffer_fit s (Text ty) ty 1 hand c (λ u. refl) named.0 forest fit
  fresh_fit s form (Vector ty element) bound laid named hand c forest fit = buffer_fit s (Vector ty element) ty (width element) hand c (λ u. refl) named.0.0 forest fit
  fresh_fit s form (Unique ty target) bound laid named hand c forest fit = (fit, λ u m q k e there. absurd (no_word u m e))
    where
      no_word : (u m : ℕ) → slice_index (owner_word None ∷ []) u ≡ suc m → ⊥
      no_word zero m e = omega (arith, e)
      no_word (suc u) m e = omega (arith, e)
  fresh_fit s form (Member first others) bound laid named hand c forest fit =
      joined_fit bound hand first others c (fresh s form first c) (fresh s form others)
      (got_both (fresh s form first c) (CameWords kind bound hand first c) (FitWords first) (fresh_came kind s form first bound laid.0 hand c forest) (fresh_fit s form first bound laid.0 named.0 hand c forest fit))
      (λ h v now fits came. got_both (fresh s form others v.1) (CameWords kind bound h others v.1) (FitWords others) (fresh_came kind s form others bound laid.1 h v.1 now) (fresh_fit s form others bound laid.1 named.1 h v.1 now fits))
  fresh_fit s form NoMember bound laid named hand c forest fit = (fit, λ u m q k e there. absurd (value_owner k))
