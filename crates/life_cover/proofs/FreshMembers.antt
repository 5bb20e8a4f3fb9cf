-- The pointers of a value that comes to life: each is what its type gives it.
use Rattle.std.proofs.Common.{◌≡◌, ⊎_elim, ℕ, zero, suc, ◌+◌, ◌≤◌, ◌<◌, List, [], ◌∷◌, ◌++◌, length, length-append, Option, Some, None, refl, sym, ap, subst, ◌∙◌, arith}
use Rattle.std.specs.Prelude.{drop, slice_get, take}
use Rattle.life_types.specs.Trees.{AllBelow, IsOrdered, members_at}
use Rattle.life_types.specs.Types.{Types}
use Rattle.life_types.specs.declared.ty.Ty.{Ty}
use Rattle.life_types.specs.declared.ty.Ty.TheVariants as ty
use Rattle.life_types.specs.declared.ty.TyId.{TyId}
use Rattle.life_core.specs.declared.instr.Form.{Form}
use Rattle.life_store.specs.Cells.{at, at-set_same}
use Rattle.life_store.specs.Content.{Content, Object}
use Rattle.life_store.specs.Effects.{Setting, Attempt, Got, GotTrap, GotFault, GotLost, then_get}
use Rattle.life_store.specs.Held.{pointer_in, pointer_words, slots_if, words_at, words_if, wrote}
use Rattle.life_store.specs.Kinds.{row_behind}
use Rattle.life_store.specs.Owners.{Words, birth, born_pointer, empty_view, fresh, object_with, owning, sized_birth}
use Rattle.life_store.specs.Parts.{Parts, characters_type, parts_at, parts_of, struct_of, width, width_at}
use Rattle.life_store.specs.State.{Pointer, Wild}
use Rattle.life_store.proofs.CellLemmas.{none_some, some_same}
use Rattle.life_forest.specs.Begins.{begins_at, begins_of, first_begins, struct_begins}
use Rattle.life_forest.specs.Kinds.{kinds_of, rank_of}
use Rattle.life_forest.specs.Owned.{times}
use Rattle.life_forest.specs.Typed.{IsStore}
use Rattle.life_forest.proofs.Begins.{begins_made, row_cases}
use Rattle.life_forest.proofs.BegunPointers.{begun_at}
use Rattle.life_forest.proofs.Coming.{CameWords, IfGot, fresh_came, got_then}
use Rattle.life_forest.proofs.Copying.{Sized, sized_birth_came}
use Rattle.life_forest.proofs.FittingBirths.{got_both}
use Rattle.life_forest.proofs.FreshPointers.{front_words}
use Rattle.life_forest.proofs.HoldingWrites.{first_wide, first_written}
use Rattle.life_forest.proofs.Laying.{laid_at, parts_made}
use Rattle.life_forest.proofs.Lists.{drop_front}
use Rattle.life_forest.proofs.MemberPointers.{drop_further, five_words, part_back, pointer_read, sets}
use Rattle.life_forest.proofs.Puts.{puts_in, wrote_is}

-- what each type gives its pointers
abbrev pub born_for : Form → Ty → Pointer
born_for how ty.View = empty_view
born_for how (ty.Span target constant) = empty_view
born_for how (ty.Iterator target constant) = Wild
born_for how _ = born_pointer how

-- so many words, in which such pointers begin
pub record FreshWords (types : Types) (how : Form) (n : ℕ) (begins : ℕ → Option TyId) (ws : List ℕ) : Type 0 where
  pub wide : length ws ≡ n
  pub exact : (u : ℕ) (q : TyId) (t : Ty) → begins u ≡ Some q → slice_get types.types q.0 ≡ Some t → pointer_in (take 5 (drop u ws)) ≡ born_for how t

module _ (types : Types) (how : Form) where
  fresh_same : (n : ℕ) (f g : ℕ → Option TyId) (ws : List ℕ) → ((u : ℕ) → f u ≡ g u) → FreshWords types how n g ws → FreshWords types how n f ws
  fresh_same n f g ws same h = record { wide = h.wide; exact = λ u q t e there. h.exact u q t (sym (same u) ∙ e) there }

  -- no pointer begins
  fresh_plain : (n : ℕ) (ws : List ℕ) → length ws ≡ n → FreshWords types how n (λ u. None) ws
  fresh_plain n ws wide = record { wide = wide; exact = λ u q t e there. absurd (none_some e) }

  fresh_first : (id : TyId) (p : Pointer) → ((t : Ty) → slice_get types.types id.0 ≡ Some t → p ≡ born_for how t) → FreshWords types how 5 (first_begins id) (pointer_words p)
  fresh_first id p is = record { wide = five_words p; exact = λ u q t e there. first u q t e there }
    where
      first : (u : ℕ) (q : TyId) (t : Ty) → first_begins id u ≡ Some q → slice_get types.types q.0 ≡ Some t → pointer_in (take 5 (drop u (pointer_words p))) ≡ born_for how t
      first zero q t e there = pointer_read p ∙ is t (ap (λ (z : TyId). slice_get types.types z.0) (some_same e) ∙ there)
      first (suc u) q t e there = absurd (none_some e)

  -- one value behind another
  fresh_joined : (n m : ℕ) (f g : ℕ → Option TyId) (xs ys : List ℕ) → ((u : ℕ) (q : TyId) → f u ≡ Some q → u + 5 ≤ n) → FreshWords types how n f xs → FreshWords types how m g ys → FreshWords types how (n + m) (row_behind n f g) (xs ++ ys)
  fresh_joined n m f g xs ys within front back = record {
    wide = let a = front.wide in let b = back.wide in let e = length-append xs ys in omega (arith, a, b, e);
    exact = λ u q t e there. ⊎_elim
        (λ h. ap pointer_in (in_first u q (sym h.1 ∙ e)) ∙ front.exact u q t (sym h.1 ∙ e) there)
        (λ h. ap pointer_in (in_second u h.0 h.1) ∙ back.exact h.0 q t (sym h.2 ∙ e) there)
        (row_cases n f g u);
  }
    where
      in_first : (u : ℕ) (q : TyId) → f u ≡ Some q → take 5 (drop u (xs ++ ys)) ≡ take 5 (drop u xs)
      in_first u q e = front_words 5 u xs ys (let w = within u q e in let l = front.wide in omega (arith, w, l))

      in_second : (u v : ℕ) → u ≡ n + v → take 5 (drop u (xs ++ ys)) ≡ take 5 (drop v ys)
      in_second u v is =
          ap (λ (k : ℕ). take 5 (drop k (xs ++ ys))) is
          ∙ ap (λ (zs : List ℕ). take 5 zs) (sym (drop_further n v (xs ++ ys)))
          ∙ ap (λ (zs : List ℕ). take 5 (drop v zs)) (drop_front n xs ys front.wide)

module _ (types : Types) (ordered : IsOrdered types) (s : Setting) (how : Form) where
  abbrev FreshOf : TyId → Type 0
  FreshOf id = (d : Content) → IfGot (fresh s how (parts_at types id) d) (λ v. FreshWords types how (width_at types id) (begins_at types id) v.0)

  fresh_struct : (n : ℕ) (ids : List TyId) → AllBelow n ids → ((id : TyId) → id.0 < n → FreshOf id) → (d : Content)
      → IfGot (fresh s how (struct_of (parts_at types) ids) d) (λ v. FreshWords types how (width (struct_of (parts_at types) ids)) (struct_begins types (begins_at types) ids) v.0)
  fresh_struct n [] below each d = fresh_plain types how 0 [] refl
  fresh_struct n (id ∷ ids) below each d =
      got_then (fresh s how (parts_at types id) d) (λ a. then_get (fresh s how (struct_of (parts_at types) ids) a.1) (λ b. Got (a.0 ++ b.0, b.1)))
      (λ v. FreshWords types how (width_at types id) (begins_at types id) v.0) (λ v. FreshWords types how (width (struct_of (parts_at types) (id ∷ ids))) (struct_begins types (begins_at types) (id ∷ ids)) v.0)
      (each id below.0 d)
      (λ a h. got_then (fresh s how (struct_of (parts_at types) ids) a.1) (λ b. Got (a.0 ++ b.0, b.1))
      (λ v. FreshWords types how (width (struct_of (parts_at types) ids)) (struct_begins types (begins_at types) ids) v.0) (λ v. FreshWords types how (width (struct_of (parts_at types) (id ∷ ids))) (struct_begins types (begins_at types) (id ∷ ids)) v.0)
      (fresh_struct n ids below.1 each a.1)
      (λ b k. fresh_joined types how (width_at types id) (width (struct_of (parts_at types) ids)) (begins_at types id) (struct_begins types (begins_at types) ids) a.0 b.0 (λ u q e. (begun_at types ordered id u q e).fits) h k))

  fresh_within : (n : ℕ) (id : TyId) → id.0 < n → FreshOf id
  fresh_within zero id lt d = absurd (omega (arith, lt))
  fresh_within (suc n) id lt d =
      subst (λ (p : Parts). IfGot (fresh s how p d) (λ v. FreshWords types how (width p) (begins_at types id) v.0)) (sym (parts_made types ordered id))
      (go (λ x below. fresh_within n x (omega (arith, below, lt))) (slice_get types.types id.0) refl)
    where
      -- by what begins there
      by_begins : (o : Option Ty) → slice_get types.types id.0 ≡ o → (n : ℕ) (ws : List ℕ) → FreshWords types how n (begins_of types (begins_at types) id o) ws → FreshWords types how n (begins_at types id) ws
      by_begins o there n ws h = fresh_same types how n (begins_at types id) (begins_of types (begins_at types) id o) ws (λ u. begins_made types ordered id u ∙ ap (λ (x : Option Ty). begins_of types (begins_at types) id x u) there) h

      owner : (o : Option Ty) → slice_get types.types id.0 ≡ o → (e : TyId) (w : ℕ) → ((u : ℕ) → begins_of types (begins_at types) id o u ≡ None) → IfGot (then_get (birth s e w 0 d) (λ b. Got (owning b))) (λ v. FreshWords types how 1 (begins_at types id) v.0)
      owner o there e w none =
          got_then (birth s e w 0 d) (λ b. Got (owning b)) (λ b. Unit {0}) (λ v. FreshWords types how 1 (begins_at types id) v.0) (any (birth s e w 0 d))
          (λ b h. by_begins o there 1 (owning b).0 (fresh_same types how 1 (begins_of types (begins_at types) id o) (λ u. None) (owning b).0 none (fresh_plain types how 1 (owning b).0 refl)))
        where
          any : (x : Attempt (ℕ × Content)) → IfGot x (λ b. Unit {0})
          any (Got b) = tt
          any (GotTrap kind) = tt
          any (GotFault kind) = tt
          any GotLost = tt

      plain : (o : Option Ty) → slice_get types.types id.0 ≡ o → (ws : List ℕ) → length ws ≡ 1 → ((u : ℕ) → begins_of types (begins_at types) id o u ≡ None) → FreshWords types how 1 (begins_at types id) ws
      plain o there ws one none = by_begins o there 1 ws (fresh_same types how 1 (begins_of types (begins_at types) id o) (λ u. None) ws none (fresh_plain types how 1 ws one))

      -- a pointer
      as_born : (t : Ty) → slice_get types.types id.0 ≡ Some t → (p : Pointer) → p ≡ born_for how t → (u : Ty) → slice_get types.types id.0 ≡ Some u → p ≡ born_for how u
      as_born t there p is u h = is ∙ ap (born_for how) (some_same (sym there ∙ h))

      go : ((x : TyId) → x.0 < id.0 → FreshOf x) → (o : Option Ty) → slice_get types.types id.0 ≡ o → IfGot (fresh s how (parts_of types (parts_at types) o) d) (λ v. FreshWords types how (width (parts_of types (parts_at types) o)) (begins_at types id) v.0)
      go each None there = plain None there (0 ∷ []) refl (λ u. refl)
      go each (Some ty.View) there = by_begins (Some ty.View) there 5 (pointer_words empty_view) (fresh_first types how id empty_view (as_born ty.View there empty_view refl))
      go each (Some (ty.Iterator target constant)) there = by_begins (Some (ty.Iterator target constant)) there 5 (pointer_words Wild) (fresh_first types how id Wild (as_born (ty.Iterator target constant) there Wild refl))
      go each (Some (ty.Span target constant)) there = by_begins (Some (ty.Span target constant)) there 5 (pointer_words empty_view) (fresh_first types how id empty_view (as_born (ty.Span target constant) there empty_view refl))
      go each (Some (ty.Raw target constant)) there = by_begins (Some (ty.Raw target constant)) there 5 (pointer_words (born_pointer how)) (fresh_first types how id (born_pointer how) (as_born (ty.Raw target constant) there (born_pointer how) refl))
      go each (Some (ty.Reference target constant)) there = by_begins (Some (ty.Reference target constant)) there 5 (pointer_words (born_pointer how)) (fresh_first types how id (born_pointer how) (as_born (ty.Reference target constant) there (born_pointer how) refl))
      go each (Some (ty.Struct number)) there =
          let below = ordered.parts id.0 (ty.Struct number) there in
          got_same (fresh s how (struct_of (parts_at types) (members_at types number)) d) (fresh_struct id.0 (members_at types number) (rw (below.there) (below.below)) each d)
        where
          got_same : (x : Attempt Words) → IfGot x (λ v. FreshWords types how (width (struct_of (parts_at types) (members_at types number))) (struct_begins types (begins_at types) (members_at types number)) v.0)
              → IfGot x (λ v. FreshWords types how (width (struct_of (parts_at types) (members_at types number))) (begins_at types id) v.0)
          got_same (Got v) h = by_begins (Some (ty.Struct number)) there (width (struct_of (parts_at types) (members_at types number))) v.0 h
          got_same (GotTrap kind) h = tt
          got_same (GotFault kind) h = tt
          got_same GotLost h = tt
      go each (Some ty.Text) there = owner (Some ty.Text) there (characters_type types) 1 (λ u. refl)
      go each (Some (ty.Vector element)) there = owner (Some (ty.Vector element)) there element (width_at types element) (λ u. refl)
      go each (Some (ty.Unique target)) there = plain (Some (ty.Unique target)) there (0 ∷ []) refl (λ u. refl)
      go each (Some ty.Void) there = plain (Some ty.Void) there (0 ∷ []) refl (λ u. refl)
      go each (Some ty.Bool) there = plain (Some ty.Bool) there (0 ∷ []) refl (λ u. refl)
      go each (Some ty.Char) there = plain (Some ty.Char) there (0 ∷ []) refl (λ u. refl)
      go each (Some ty.Int) there = plain (Some ty.Int) there (0 ∷ []) refl (λ u. refl)
      go each (Some ty.Long) there = plain (Some ty.Long) there (0 ∷ []) refl (λ u. refl)
      go each (Some ty.Size) there = plain (Some ty.Size) there (0 ∷ []) refl (λ u. refl)

-- ---- an object that comes to life

-- what its pointers are
abbrev pub AreBorn : Types → Form → TyId → Content → ℕ → Type 0
AreBorn types how ty d n = (u : ℕ) (q : TyId) (t : Ty) → begins_at types ty u ≡ Some q → slice_get types.types q.0 ≡ Some t → pointer_in (words_at d n 0 u 5) ≡ born_for how t

module _ (types : Types) (ordered : IsOrdered types) (hand : ℕ → ℕ) (c : Content) (store : IsStore types hand c) where
  pub members_born : (s : Setting) (ty : TyId) (how : Form) → IfGot (object_with s ty (parts_at types ty) (fresh s how (parts_at types ty)) c) (λ b. AreBorn types how ty b.1 b.0)
  members_born s ty how =
      got_then (sized_birth s ty (width (parts_at types ty)) 1 c) (λ b. then_get (fresh s how (parts_at types ty) b.1) (λ v. Got (b.0, wrote b.0 0 0 v.0 v.1)))
      (Sized (kinds_of types) (suc (rank_of types ty)) hand ty (width (parts_at types ty)) 1 c) (λ b. AreBorn types how ty b.1 b.0)
      (sized_birth_came (kinds_of types) (suc (rank_of types ty)) hand ty (width (parts_at types ty)) 1 c (omega arith) store.forest s)
      (λ b sized. got_then (fresh s how (parts_at types ty) b.1) (λ v. Got (b.0, wrote b.0 0 0 v.0 v.1))
      (λ v. CameWords (kinds_of types) (rank_of types ty) (λ k. times (b.0 ∷ []) k + hand k) (parts_at types ty) b.1 v × FreshWords types how (width_at types ty) (begins_at types ty) v.0) (λ x. AreBorn types how ty x.1 x.0)
      (got_both (fresh s how (parts_at types ty) b.1) (CameWords (kinds_of types) (rank_of types ty) (λ k. times (b.0 ∷ []) k + hand k) (parts_at types ty) b.1) (λ v. FreshWords types how (width_at types ty) (begins_at types ty) v.0)
      (fresh_came (kinds_of types) s how (parts_at types ty) (rank_of types ty) (laid_at types ordered ty) (λ k. times (b.0 ∷ []) k + hand k) b.1 sized.came.forest)
      (fresh_within types ordered s how (suc ty.0) ty (omega arith) b.1))
      (λ v h. written b.0 v.1 sized.object (h.0.0.same b.0 (sized.came.forest.births b.0 sized.object sized.there) ∙ sized.there)
      (first_wide (width_at types ty) sized.object.slots (let e = sized.count in omega (arith, e)) sized.wide) v.0 h.1))
    where
      written : (n : ℕ) (d : Content) (o : Object) → at d.objects n ≡ Some o → length (words_if (slice_get o.slots 0)) ≡ width_at types ty → (vs : List ℕ) → FreshWords types how (width_at types ty) (begins_at types ty) vs → AreBorn types how ty (wrote n 0 0 vs d) n
      written n d o there long vs words u q t begins typed = ap pointer_in read ∙ words.exact u q t begins typed
        where
          read : words_at (wrote n 0 0 vs d) n 0 u 5 ≡ take 5 (drop u vs)
          read =
              let none : u ≡ 0 + u = omega arith in
              let five = (begun_at types ordered ty u q begins).fits in
              let wide = words.wide in
              ap (λ (e : Content). words_at e n 0 u 5) (wrote_is d n 0 0 vs o there)
              ∙ ap (λ (x : Option Object). take 5 (drop u (words_if (slice_get (slots_if x) 0)))) (at-set_same d.objects n n (record o { slots = puts_in 0 0 vs o.slots }) refl)
              ∙ ap (λ (ws : List ℕ). take 5 (drop u ws)) (first_written 0 vs o.slots)
              ∙ ap (λ (k : ℕ). take 5 (drop k (sets 0 vs (words_if (slice_get o.slots 0))))) none
              ∙ part_back 0 vs (words_if (slice_get o.slots 0)) (omega (arith, long, wide)) u 5 (omega (arith, five, wide))
