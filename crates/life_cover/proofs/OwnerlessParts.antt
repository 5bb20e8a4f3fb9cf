-- A value that holds no owner has no owner's word, and nothing lies beneath it.
use Rattle.std.proofs.Common.{◌≡◌, ⊎_elim, ℕ, zero, suc, ◌<◌, Bool, true, false, ◌&&◌, ◌||◌, List, [], ◌∷◌, Option, Some, None, refl, sym, ap, ◌∙◌, arith}
use Rattle.std.specs.Prelude.{slice_get}
use Rattle.std.proofs.lemmas.Bool.{false≢true}
use Rattle.life_types.specs.Trees.{AllBelow, IsOrdered, holds_owner, members_at, tree_at, tree_of}
use Rattle.life_types.specs.Trees as trees
use Rattle.life_types.specs.Types.{Types}
use Rattle.life_types.specs.declared.ty.Ty.{Ty}
use Rattle.life_types.specs.declared.ty.Ty.TheVariants as ty
use Rattle.life_types.specs.declared.ty.TyId.{TyId}
use Rattle.life_types.proofs.TreeLemmas.{tree_made}
use Rattle.life_store.specs.Cells.{at}
use Rattle.life_store.specs.Content.{Content, Object}
use Rattle.life_store.specs.Kinds.{Kind, Owner, Plain, Pointing, is_owner, kind_in}
use Rattle.life_store.specs.Parts.{Parts, parts_at, parts_of, struct_of, width_at}
use Rattle.life_store.proofs.CellLemmas.{some_same}
use Rattle.life_forest.specs.Forest.{Beneath, part, under, whole}
use Rattle.life_forest.specs.Kinds.{kinds_of}
use Rattle.life_forest.specs.Owned.{owns_at, owns_if}
use Rattle.life_forest.specs.Within.{LiesWithin}
use Rattle.life_forest.proofs.Begins.{row_cases}
use Rattle.life_forest.proofs.Below.{owner_lives}
use Rattle.life_forest.proofs.Counting.{in_slots_none}
use Rattle.life_forest.proofs.Laying.{parts_made}
use Rattle.life_forest.proofs.WrittenPointers.{gap}
use Rattle.life_cover.specs.Regions.{Region, foot_of, is_in_region}
use Rattle.life_cover.proofs.Inside.{region_within}

-- no word is an owner's
abbrev pub HasNoOwner : Parts → Type 0
HasNoOwner p = (u : ℕ) → kind_in p u ≡ Owner → ⊥

unlike_plain : Plain ≡ Owner → ⊥
unlike_plain h = cc

unlike_pointing : (j : ℕ) → Pointing j ≡ Owner → ⊥
unlike_pointing j h = cc

neither : (a b : Bool) → (a || b) ≡ false → (a ≡ false) × (b ≡ false)
neither true b e = absurd (false≢true (sym e))
neither false b e = (refl, e)

module _ (types : Types) (ordered : IsOrdered types) where
  -- ---- its words

  struct_ownerless : (n : ℕ) (ids : List TyId) → AllBelow n ids → ((id : TyId) → id.0 < n → holds_owner (tree_at types id) ≡ false → HasNoOwner (parts_at types id)) → holds_owner (trees.struct_of (tree_at types) ids) ≡ false → HasNoOwner (struct_of (parts_at types) ids)
  struct_ownerless n [] below each none u e = unlike_plain e
  struct_ownerless n (id ∷ ids) below each none u e =
      let both = neither (holds_owner (tree_at types id)) (holds_owner (trees.struct_of (tree_at types) ids)) none in
      ⊎_elim (λ h. each id below.0 both.0 u (sym h.1 ∙ e)) (λ h. struct_ownerless n ids below.1 each both.1 h.0 (sym h.2 ∙ e)) (row_cases (width_at types id) (kind_in (parts_at types id)) (kind_in (struct_of (parts_at types) ids)) u)

  ownerless_within : (n : ℕ) (id : TyId) → id.0 < n → holds_owner (tree_at types id) ≡ false → HasNoOwner (parts_at types id)
  ownerless_within zero id lt none u e = omega (arith, lt)
  ownerless_within (suc n) id lt none u e =
      go (λ x below h. ownerless_within n x (omega (arith, below, lt)) h) (slice_get types.types id.0) refl (sym (ap holds_owner (tree_made types ordered id)) ∙ none) (ap (λ (p : Parts). kind_in p u) (sym (parts_made types ordered id)) ∙ e)
    where
      go : ((x : TyId) → x.0 < id.0 → holds_owner (tree_at types x) ≡ false → HasNoOwner (parts_at types x)) → (o : Option Ty) → slice_get types.types id.0 ≡ o → holds_owner (tree_of types (tree_at types) o) ≡ false → kind_in (parts_of types (parts_at types) o) u ≡ Owner → ⊥
      go each (Some (ty.Struct number)) there h k =
          let has = ordered.parts id.0 (ty.Struct number) there in
          struct_ownerless id.0 (members_at types number) (rw (has.there) (has.below)) each h u k
      go each None there h k = unlike_plain k
      go each (Some ty.Void) there h k = unlike_plain k
      go each (Some ty.Bool) there h k = unlike_plain k
      go each (Some ty.Char) there h k = unlike_plain k
      go each (Some ty.Int) there h k = unlike_plain k
      go each (Some ty.Long) there h k = unlike_plain k
      go each (Some ty.Size) there h k = unlike_plain k
      go each (Some ty.Text) there h k = false≢true (sym h)
      go each (Some (ty.Vector element)) there h k = false≢true (sym h)
      go each (Some (ty.Unique target)) there h k = false≢true (sym h)
      go each (Some ty.View) there h k = unlike_pointing u k
      go each (Some (ty.Raw target constant)) there h k = unlike_pointing u k
      go each (Some (ty.Reference target constant)) there h k = unlike_pointing u k
      go each (Some (ty.Iterator target constant)) there h k = unlike_pointing u k
      go each (Some (ty.Span target constant)) there h k = unlike_pointing u k

  pub ownerless : (id : TyId) → holds_owner (tree_at types id) ≡ false → HasNoOwner (parts_at types id)
  ownerless id none = ownerless_within (suc id.0) id (omega arith) none

  -- ---- what is beneath it

  module _ (c : Content) (a : Region) (o : Object) (there : at c.objects a.object ≡ Some o) (within : LiesWithin types o.ty a.word a.ty) (free : HasNoOwner (parts_at types a.ty)) where
    never : (b : Bool) → (b && false) ≡ false
    never true = refl
    never false = refl

    not_owner : (k : Kind) → (k ≡ Owner → ⊥) → is_owner k ≡ false
    not_owner Owner other = absurd (other refl)
    not_owner Plain other = refl
    not_owner (Pointing j) other = refl

    owns_none : (j m : ℕ) → 0 < owns_at (kinds_of types) c ((foot_of types a).part j) j m → ⊥
    owns_none j m own = let z = zero_owned in omega (arith, own, z)
      where
        holder : (q : Object) × (at c.objects j ≡ Some q)
        holder = owner_lives (kinds_of types) c ((foot_of types a).part j) j m own

        each : (u : ℕ) → (is_owner (kind_in (parts_at types holder.0.ty) u) && is_in_region types a j u) ≡ false
        each u = go (is_in_region types a j u) refl
          where
            go : (b : Bool) → is_in_region types a j u ≡ b → (is_owner (kind_in (parts_at types holder.0.ty) u) && is_in_region types a j u) ≡ false
            go false e = ap (λ b. is_owner (kind_in (parts_at types holder.0.ty) u) && b) e ∙ never (is_owner (kind_in (parts_at types holder.0.ty) u))
            go true e =
                let inside = region_within types a j u e in
                let same : holder.0 ≡ o = some_same (sym holder.1 ∙ ap (at c.objects) inside.object ∙ there) in
                let first = inside.first in
                let last = inside.last in
                let g = gap a.word u first in
                let is = g.1 in
                let kind : kind_in (parts_at types holder.0.ty) u ≡ kind_in (parts_at types a.ty) g.0 = ap (λ (q : Object). kind_in (parts_at types q.ty) u) same ∙ ap (kind_in (parts_at types o.ty)) is ∙ within.words g.0 (omega (arith, is, last)) in
                ap (λ x. x && is_in_region types a j u) (not_owner (kind_in (parts_at types holder.0.ty) u) (λ h. free g.0 (sym kind ∙ h)))

        zero_owned : owns_at (kinds_of types) c ((foot_of types a).part j) j m ≡ 0
        zero_owned =
            ap (λ (x : Option Object). owns_if (kinds_of types) ((foot_of types a).part j) x m) holder.1
            ∙ in_slots_none (λ u. is_owner (kind_in (parts_at types holder.0.ty) u) && is_in_region types a j u) holder.0.slots m each

    pub ownerless_beneath : (m : ℕ) → Beneath (kinds_of types) c (foot_of types a) m → ⊥
    ownerless_beneath m (whole _ e) = false≢true e
    ownerless_beneath m (part j _ own) = owns_none j m own
    ownerless_beneath m (under j _ low own) = ownerless_beneath j low
