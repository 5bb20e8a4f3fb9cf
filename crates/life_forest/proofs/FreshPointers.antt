-- The pointers of a value that comes to life are wild, null or empty, each as its type takes it.
use Rattle.std.proofs.Common.{◌≡◌, ⊎_elim, ℕ, zero, suc, ◌+◌, ◌≤◌, ◌<◌, true, ◌&&◌, List, [], ◌∷◌, ◌++◌, length, length-append, Option, Some, None, refl, sym, ap, subst, ◌∙◌, arith}
use Rattle.std.proofs.lemmas.Bool.{and_parts, false≢true}
use Rattle.std.specs.Prelude.{drop, slice_get, take}
use Rattle.life_types.specs.TypeTests.{is_raw}
use Rattle.life_types.specs.Trees.{AllBelow, IsOrdered, Reference, TypeTree, members_at, tree_at, tree_of}
use Rattle.life_types.specs.Trees as tree
use Rattle.life_types.specs.Types.{Types}
use Rattle.life_types.specs.declared.ty.Ty.{Ty}
use Rattle.life_types.specs.declared.ty.Ty.TheVariants as ty
use Rattle.life_types.specs.declared.ty.TyId.{TyId}
use Rattle.life_types.proofs.TreeLemmas.{tree_made}
use Rattle.life_core.specs.declared.instr.Form.{Form}
use Rattle.life_core.specs.declared.instr.Form.TheVariants as form
use Rattle.life_proper.specs.WellFormedPrograms.{is_member, may_stand}
use Rattle.life_store.specs.Content.{Content}
use Rattle.life_store.specs.Effects.{Setting, Attempt, Got, GotTrap, GotFault, GotLost, then_get}
use Rattle.life_store.specs.Held.{pointer_in, pointer_words}
use Rattle.life_store.specs.Kinds.{row_behind}
use Rattle.life_store.specs.Owners.{Words, birth, born_pointer, empty_view, fresh, owning}
use Rattle.life_store.specs.Parts.{Parts, characters_type, parts_at, parts_of, struct_of, width, width_at}
use Rattle.life_store.specs.State.{Pointer, Null, Wild, To, Static}
use Rattle.life_store.proofs.CellLemmas.{none_some, some_same}
use Rattle.life_forest.specs.Begins.{begins_at, begins_of, first_begins, struct_begins}
use Rattle.life_forest.specs.Sorted.{PointerFits}
use Rattle.life_forest.proofs.Begins.{begins_made, row_cases}
use Rattle.life_forest.proofs.Coming.{IfGot, got_then}
use Rattle.life_forest.proofs.BegunPointers.{begun_at}
use Rattle.life_forest.proofs.Laying.{parts_made}
use Rattle.life_forest.proofs.Lists.{drop_front}
use Rattle.life_forest.proofs.MemberPointers.{drop_further, five_words, pointer_read}

-- it points to no object and to no text
abbrev pub IsNew : Pointer → Type 0
IsNew Null = Unit {0}
IsNew Wild = Unit {0}
IsNew (To t) = ⊥
IsNew (Static s) = s.text ≡ None

-- a reference doesn't come to life, and no struct has one
abbrev pub NoReference : TypeTree → Type 0
NoReference (Reference target constant) = ⊥
NoReference _ = Unit {0}

no_reference : (t : TypeTree) → is_member t ≡ true → NoReference t
no_reference (Reference target constant) e = false≢true e
no_reference _ e = tt

-- so many words, in which such pointers begin
pub record FreshWords (types : Types) (n : ℕ) (begins : ℕ → Option TyId) (ws : List ℕ) : Type 0 where
  pub wide : length ws ≡ n
  pub new : (u : ℕ) (q : TyId) → begins u ≡ Some q → IsNew (pointer_in (take 5 (drop u ws)))
  pub fits : (u : ℕ) (q : TyId) (t : Ty) → begins u ≡ Some q → slice_get types.types q.0 ≡ Some t → PointerFits t (pointer_in (take 5 (drop u ws)))

pub front_words : (k u : ℕ) (xs ys : List ℕ) → u + k ≤ length xs → take k (drop u (xs ++ ys)) ≡ take k (drop u xs)
front_words zero u xs ys le = none (drop u (xs ++ ys)) ∙ sym (none (drop u xs))
  where
    none : (zs : List ℕ) → take 0 zs ≡ []
    none [] = refl
    none (z ∷ zs) = refl
front_words (suc k) u [] ys le = absurd (omega (arith, le))
front_words (suc k) zero (x ∷ xs) ys le = ap (λ (zs : List ℕ). x ∷ zs) (front_words k zero xs ys (omega (arith, le)))
front_words (suc k) (suc u) (x ∷ xs) ys le = front_words (suc k) u xs ys (omega (arith, le))

module _ (types : Types) where
  fresh_same : (n : ℕ) (f g : ℕ → Option TyId) (ws : List ℕ) → ((u : ℕ) → f u ≡ g u) → FreshWords types n g ws → FreshWords types n f ws
  fresh_same n f g ws same h = record { wide = h.wide; new = λ u q e. h.new u q (sym (same u) ∙ e); fits = λ u q t e there. h.fits u q t (sym (same u) ∙ e) there }

  -- no pointer begins
  fresh_plain : (n : ℕ) (ws : List ℕ) → length ws ≡ n → FreshWords types n (λ u. None) ws
  fresh_plain n ws wide = record { wide = wide; new = λ u q e. absurd (none_some e); fits = λ u q t e there. absurd (none_some e) }

  fresh_first : (id : TyId) (p : Pointer) → IsNew p → ((t : Ty) → slice_get types.types id.0 ≡ Some t → PointerFits t p) → FreshWords types 5 (first_begins id) (pointer_words p)
  fresh_first id p new fits = record {
    wide = five_words p;
    new = λ u q e. first_new u q e;
    fits = λ u q t e there. first_fits u q t e there;
  }
    where
      first_new : (u : ℕ) (q : TyId) → first_begins id u ≡ Some q → IsNew (pointer_in (take 5 (drop u (pointer_words p))))
      first_new zero q e = subst IsNew (sym (pointer_read p)) new
      first_new (suc u) q e = absurd (none_some e)

      first_fits : (u : ℕ) (q : TyId) (t : Ty) → first_begins id u ≡ Some q → slice_get types.types q.0 ≡ Some t → PointerFits t (pointer_in (take 5 (drop u (pointer_words p))))
      first_fits zero q t e there = subst (PointerFits t) (sym (pointer_read p)) (fits t (ap (λ (z : TyId). slice_get types.types z.0) (some_same e) ∙ there))
      first_fits (suc u) q t e there = absurd (none_some e)

  -- one value behind another
  fresh_joined : (n m : ℕ) (f g : ℕ → Option TyId) (xs ys : List ℕ) → ((u : ℕ) (q : TyId) → f u ≡ Some q → u + 5 ≤ n) → FreshWords types n f xs → FreshWords types m g ys → FreshWords types (n + m) (row_behind n f g) (xs ++ ys)
  fresh_joined n m f g xs ys within front back = record {
    wide = let a = front.wide in let b = back.wide in let e = length-append xs ys in omega (arith, a, b, e);
    new = λ u q e. ⊎_elim
        (λ h. subst (λ (ws : List ℕ). IsNew (pointer_in ws)) (sym (in_first u q (sym h.1 ∙ e))) (front.new u q (sym h.1 ∙ e)))
        (λ h. subst (λ (ws : List ℕ). IsNew (pointer_in ws)) (sym (in_second u h.0 h.1)) (back.new h.0 q (sym h.2 ∙ e)))
        (row_cases n f g u);
    fits = λ u q t e there. ⊎_elim
        (λ h. subst (λ (ws : List ℕ). PointerFits t (pointer_in ws)) (sym (in_first u q (sym h.1 ∙ e))) (front.fits u q t (sym h.1 ∙ e) there))
        (λ h. subst (λ (ws : List ℕ). PointerFits t (pointer_in ws)) (sym (in_second u h.0 h.1)) (back.fits h.0 q t (sym h.2 ∙ e) there))
        (row_cases n f g u);
  }
    where
      in_first : (u : ℕ) (q : TyId) → f u ≡ Some q → take 5 (drop u (xs ++ ys)) ≡ take 5 (drop u xs)
      in_first u q e = front_words 5 u xs ys (let w = within u q e in let l = front.wide in omega (arith, w, l))

      in_second : (u v : ℕ) → u ≡ n + v → take 5 (drop u (xs ++ ys)) ≡ take 5 (drop v ys)
      in_second u v is =
          ap (λ (k : ℕ). take 5 (drop k (xs ++ ys))) is
          ∙ ap (λ (zs : List ℕ). take 5 zs) (sym (drop_further n v (xs ++ ys)))
          ∙ ap (λ (zs : List ℕ). take 5 (drop v zs)) (drop_front n xs ys front.wide)

module _ (types : Types) (ordered : IsOrdered types) (s : Setting) (how : Form) where
  abbrev FreshOf : TyId → Type 0
  FreshOf id = (d : Content) → IfGot (fresh s how (parts_at types id) d) (λ v. FreshWords types (width_at types id) (begins_at types id) v.0)

  fresh_struct : (n : ℕ) (ids : List TyId) → AllBelow n ids → ((id : TyId) → id.0 < n → NoReference (tree_at types id) → may_stand (tree_at types id) ≡ true → FreshOf id) → may_stand (tree.struct_of (tree_at types) ids) ≡ true
      → (d : Content) → IfGot (fresh s how (struct_of (parts_at types) ids) d) (λ v. FreshWords types (width (struct_of (parts_at types) ids)) (struct_begins types (begins_at types) ids) v.0)
  fresh_struct n [] below each stand d = fresh_plain types 0 [] refl
  fresh_struct n (id ∷ ids) below each stand d =
      let outer = and_parts (is_member (tree_at types id)) (may_stand (tree_at types id) && may_stand (tree.struct_of (tree_at types) ids)) stand in
      let inner = and_parts (may_stand (tree_at types id)) (may_stand (tree.struct_of (tree_at types) ids)) outer.1 in
      got_then (fresh s how (parts_at types id) d) (λ a. then_get (fresh s how (struct_of (parts_at types) ids) a.1) (λ b. Got (a.0 ++ b.0, b.1)))
      (λ v. FreshWords types (width_at types id) (begins_at types id) v.0) (λ v. FreshWords types (width (struct_of (parts_at types) (id ∷ ids))) (struct_begins types (begins_at types) (id ∷ ids)) v.0)
      (each id below.0 (no_reference (tree_at types id) outer.0) inner.0 d)
      (λ a h. got_then (fresh s how (struct_of (parts_at types) ids) a.1) (λ b. Got (a.0 ++ b.0, b.1))
      (λ v. FreshWords types (width (struct_of (parts_at types) ids)) (struct_begins types (begins_at types) ids) v.0) (λ v. FreshWords types (width (struct_of (parts_at types) (id ∷ ids))) (struct_begins types (begins_at types) (id ∷ ids)) v.0)
      (fresh_struct n ids below.1 each inner.1 a.1)
      (λ b k. fresh_joined types (width_at types id) (width (struct_of (parts_at types) ids)) (begins_at types id) (struct_begins types (begins_at types) ids) a.0 b.0 (λ u q e. (begun_at types ordered id u q e).fits) h k))

  fresh_within : (n : ℕ) (id : TyId) → id.0 < n → NoReference (tree_at types id) → may_stand (tree_at types id) ≡ true → FreshOf id
  fresh_within zero id lt member stand d = absurd (omega (arith, lt))
  fresh_within (suc n) id lt member stand d =
      subst (λ (p : Parts). IfGot (fresh s how p d) (λ v. FreshWords types (width p) (begins_at types id) v.0)) (sym (parts_made types ordered id))
      (go (λ x below m e. fresh_within n x (omega (arith, below, lt)) m e) (slice_get types.types id.0) refl (subst NoReference (tree_made types ordered id) member) (sym (ap may_stand (tree_made types ordered id)) ∙ stand))
    where
      -- by what begins there
      by_begins : (o : Option Ty) → slice_get types.types id.0 ≡ o → (n : ℕ) (ws : List ℕ) → FreshWords types n (begins_of types (begins_at types) id o) ws → FreshWords types n (begins_at types id) ws
      by_begins o there n ws h = fresh_same types n (begins_at types id) (begins_of types (begins_at types) id o) ws (λ u. begins_made types ordered id u ∙ ap (λ (x : Option Ty). begins_of types (begins_at types) id x u) there) h

      owner : (o : Option Ty) → slice_get types.types id.0 ≡ o → (e : TyId) (w : ℕ) → ((u : ℕ) → begins_of types (begins_at types) id o u ≡ None) → IfGot (then_get (birth s e w 0 d) (λ b. Got (owning b))) (λ v. FreshWords types 1 (begins_at types id) v.0)
      owner o there e w none =
          got_then (birth s e w 0 d) (λ b. Got (owning b)) (λ b. Unit {0}) (λ v. FreshWords types 1 (begins_at types id) v.0) (any (birth s e w 0 d))
          (λ b h. by_begins o there 1 (owning b).0 (fresh_same types 1 (begins_of types (begins_at types) id o) (λ u. None) (owning b).0 none (fresh_plain types 1 (owning b).0 refl)))
        where
          any : (x : Attempt (ℕ × Content)) → IfGot x (λ b. Unit {0})
          any (Got b) = tt
          any (GotTrap kind) = tt
          any (GotFault kind) = tt
          any GotLost = tt

      plain : (o : Option Ty) → slice_get types.types id.0 ≡ o → (ws : List ℕ) → length ws ≡ 1 → ((u : ℕ) → begins_of types (begins_at types) id o u ≡ None) → FreshWords types 1 (begins_at types id) ws
      plain o there ws one none = by_begins o there 1 ws (fresh_same types 1 (begins_of types (begins_at types) id o) (λ u. None) ws none (fresh_plain types 1 ws one))

      raw_fits : (how : Form) (t : Ty) → is_raw t ≡ true → PointerFits t (born_pointer how)
      raw_fits form.Plain t raw = tt
      raw_fits form.Zero t raw = raw

      raw_new : (how : Form) → IsNew (born_pointer how)
      raw_new form.Plain = tt
      raw_new form.Zero = tt

      go : ((x : TyId) → x.0 < id.0 → NoReference (tree_at types x) → may_stand (tree_at types x) ≡ true → FreshOf x) → (o : Option Ty) → slice_get types.types id.0 ≡ o → NoReference (tree_of types (tree_at types) o) → may_stand (tree_of types (tree_at types) o) ≡ true
          → IfGot (fresh s how (parts_of types (parts_at types) o) d) (λ v. FreshWords types (width (parts_of types (parts_at types) o)) (begins_at types id) v.0)
      go each None there m e = plain None there (0 ∷ []) refl (λ u. refl)
      go each (Some ty.View) there m e = by_begins (Some ty.View) there 5 (pointer_words empty_view) (fresh_first types id empty_view refl (λ t h. tt))
      go each (Some (ty.Iterator target constant)) there m e = by_begins (Some (ty.Iterator target constant)) there 5 (pointer_words Wild) (fresh_first types id Wild tt (λ t h. tt))
      go each (Some (ty.Span target constant)) there m e = by_begins (Some (ty.Span target constant)) there 5 (pointer_words empty_view) (fresh_first types id empty_view refl (λ t h. tt))
      go each (Some (ty.Raw target constant)) there m e =
          by_begins (Some (ty.Raw target constant)) there 5 (pointer_words (born_pointer how)) (fresh_first types id (born_pointer how) (raw_new how) (λ t h. raw_fits how t (sym (ap is_raw (some_same (sym there ∙ h))))))
      go each (Some (ty.Reference target constant)) there m e = absurd m
      go each (Some (ty.Struct number)) there m e =
          let below = ordered.parts id.0 (ty.Struct number) there in
          got_same (fresh s how (struct_of (parts_at types) (members_at types number)) d)
          (fresh_struct id.0 (members_at types number) (rw (below.there) (below.below)) each e d)
        where
          got_same : (x : Attempt Words) → IfGot x (λ v. FreshWords types (width (struct_of (parts_at types) (members_at types number))) (struct_begins types (begins_at types) (members_at types number)) v.0)
              → IfGot x (λ v. FreshWords types (width (struct_of (parts_at types) (members_at types number))) (begins_at types id) v.0)
          got_same (Got v) h = by_begins (Some (ty.Struct number)) there (width (struct_of (parts_at types) (members_at types number))) v.0 h
          got_same (GotTrap kind) h = tt
          got_same (GotFault kind) h = tt
          got_same GotLost h = tt
      go each (Some ty.Text) there m e = owner (Some ty.Text) there (characters_type types) 1 (λ u. refl)
      go each (Some (ty.Vector element)) there m e = owner (Some (ty.Vector element)) there element (width_at types element) (λ u. refl)
      go each (Some (ty.Unique target)) there m e = plain (Some (ty.Unique target)) there (0 ∷ []) refl (λ u. refl)
      go each (Some ty.Void) there m e = plain (Some ty.Void) there (0 ∷ []) refl (λ u. refl)
      go each (Some ty.Bool) there m e = plain (Some ty.Bool) there (0 ∷ []) refl (λ u. refl)
      go each (Some ty.Char) there m e = plain (Some ty.Char) there (0 ∷ []) refl (λ u. refl)
      go each (Some ty.Int) there m e = plain (Some ty.Int) there (0 ∷ []) refl (λ u. refl)
      go each (Some ty.Long) there m e = plain (Some ty.Long) there (0 ∷ []) refl (λ u. refl)
      go each (Some ty.Size) there m e = plain (Some ty.Size) there (0 ∷ []) refl (λ u. refl)

  pub fresh_pointers : (id : TyId) → NoReference (tree_at types id) → may_stand (tree_at types id) ≡ true → (d : Content) → IfGot (fresh s how (parts_at types id) d) (λ v. FreshWords types (width_at types id) (begins_at types id) v.0)
  fresh_pointers id member stand d = fresh_within (suc id.0) id (omega arith) member stand d
