-- A local of a sound frame may end with all beneath it, of whatever kind it is, and what the store shows then is what the meaning says.
use Rattle.std.proofs.Common.{◌≡◌, ℕ, zero, suc, ◌+◌, ◌<◌, ◌≤◌, List, [], ◌∷◌, length, Option, Some, None, refl, sym, ap, subst, ◌∙◌, arith}
use Rattle.std.proofs.lemmas.Option.{same_Some, slice_get_within}
use Rattle.std.specs.Prelude.{ℤ, slice_get}
use Rattle.life_types.specs.Trees.{IsOrdered}
use Rattle.life_types.specs.Types.{Types}
use Rattle.life_types.specs.declared.ty.Ty.{Ty}
use Rattle.life_types.specs.declared.ty.TyId.{TyId}
use Rattle.life_core.specs.Function.{Function}
use Rattle.life_store.specs.Births.{end_cell, end_object}
use Rattle.life_store.specs.Cells.{at}
use Rattle.life_store.specs.Content.{Object, Content, without}
use Rattle.life_store.specs.Effects.{Next, cell, put_cell}
use Rattle.life_store.specs.Held.{slots_if, words_if}
use Rattle.life_store.specs.Kinds.{Kind, Owner, first_owns, kind_in, row_behind}
use Rattle.life_store.specs.Owners.{ended}
use Rattle.life_store.specs.Parts.{Parts, Single, Raw, Iterates, Views, Text, Vector, Unique, Member, NoMember, local_parts, parts_at, parts_if, width}
use Rattle.life_store.specs.References.{Rows, object_of}
use Rattle.life_store.specs.State.{Cell, Empty, Named, State}
use Rattle.life_store.specs.declared.object.ObjRef.{ObjRef}
use Rattle.life_store.proofs.MapLemmas.{one_or_apart}
use Rattle.life_forest.specs.FrameTypes.{Stands}
use Rattle.life_forest.specs.Frames.{named_in}
use Rattle.life_forest.specs.Kinds.{Kinds, rank_if, rank_of, kinds_of as forest_kinds}
use Rattle.life_forest.specs.Owned.{owned_list, times}
use Rattle.life_forest.specs.Values.{IsOf, Known}
use Rattle.life_forest.proofs.Counting.{one_apart, one_same}
use Rattle.life_forest.proofs.Following.{in_hand}
use Rattle.life_forest.proofs.Frames.{less_in_hand}
use Rattle.life_forest.proofs.FromTypes.{object_is_known}
use Rattle.life_seen.specs.Housed.{IsHoused, Shows}
use Rattle.life_seen.specs.Kinds.{kinds_of}
use Rattle.life_seen.specs.Seen.{seen}
use Rattle.life_seen.proofs.References.{found}
use Rattle.life_values.specs.Ended.{ended_each, ended_number}
use Rattle.life_values.specs.Ending.{CanEnd}
use Rattle.life_values.proofs.Meant.{one_slot, shows_meant}

-- ---- an owner's word lies within the value

first_inside : (u : ℕ) → first_owns u ≡ Owner → u < 1
first_inside zero e = omega arith
first_inside (suc u) e = absurd (unlike e)
  where
    unlike : first_owns (suc u) ≡ Owner → ⊥
    unlike h = cc

behind_inside : (n m : ℕ) (f g : ℕ → Kind) → ((u : ℕ) → f u ≡ Owner → u < n) → ((u : ℕ) → g u ≡ Owner → u < m) → (u : ℕ) → row_behind n f g u ≡ Owner → u < n + m
behind_inside zero m f g h k u e = let i = k u e in omega (arith, i)
behind_inside (suc n) m f g h k zero e = omega arith
behind_inside (suc n) m f g h k (suc u) e =
    let i = behind_inside n m (λ v. f (suc v)) g (λ v e'. let j = h (suc v) e' in omega (arith, j)) k u e in omega (arith, i)

pub owner_inside : (p : Parts) (u : ℕ) → kind_in p u ≡ Owner → u < width p
owner_inside Single u e = absurd (unlike e)
  where
    unlike : kind_in Single u ≡ Owner → ⊥
    unlike h = cc
owner_inside Raw u e = absurd (unlike e)
  where
    unlike : kind_in Raw u ≡ Owner → ⊥
    unlike h = cc
owner_inside Iterates u e = absurd (unlike e)
  where
    unlike : kind_in Iterates u ≡ Owner → ⊥
    unlike h = cc
owner_inside Views u e = absurd (unlike e)
  where
    unlike : kind_in Views u ≡ Owner → ⊥
    unlike h = cc
owner_inside (Text ty) u e = first_inside u e
owner_inside (Vector ty element) u e = first_inside u e
owner_inside (Unique ty target) u e = first_inside u e
owner_inside (Member first others) u e = behind_inside (width first) (width others) (kind_in first) (kind_in others) (owner_inside first) (owner_inside others) u e
owner_inside NoMember u e = absurd (unlike e)
  where
    unlike : kind_in NoMember u ≡ Owner → ⊥
    unlike h = cc

-- no type stands higher than there are types
deep_enough : (types : Types) (depth : ℕ) (ty : TyId) → length types.types < depth → rank_of types ty < depth
deep_enough types depth ty deep = go (slice_get types.types ty.0) refl
  where
    go : (t : Option Ty) → slice_get types.types ty.0 ≡ t → rank_if ty.0 t < depth
    go None e = omega (arith, deep)
    go (Some t) e = let within = slice_get_within types.types ty.0 t e in omega (arith, within, deep)

-- ---- nothing is counted where objects end

each_counts : (end : ℕ → Content → Content) → ((n : ℕ) (c : Content) → ((end n c).births ≡ c.births) × ((end n c).clock ≡ c.clock)) → (ns : List ℕ) (c : Content) → ((ended_each end ns c).births ≡ c.births) × ((ended_each end ns c).clock ≡ c.clock)
each_counts end h [] c = (refl, refl)
each_counts end h (n ∷ ns) c = let i = each_counts end h ns (end n c) in let j = h n c in (i.0 ∙ j.0, i.1 ∙ j.1)

pub ended_counts : (kind : Kinds) (depth n : ℕ) (c : Content) → ((ended_number kind depth n c).births ≡ c.births) × ((ended_number kind depth n c).clock ≡ c.clock)
ended_counts kind zero n c = (refl, refl)
ended_counts kind (suc depth) n c = each_counts (ended_number kind depth) (λ k d. ended_counts kind depth k d) (owned_list kind (at c.objects n)) (without n c)

-- ---- an object that a local names

module _ (types : Types) (ordered : IsOrdered types) (depth : ℕ) (deep : length types.types < depth) (c : Content) (rows : Rows) (housed : IsHoused (kinds_of types) c rows)
    (f : Function) (rest : ℕ → ℕ) (cells : List Cell) (output : List ℕ) (input : List ℤ) where
  abbrev state : State
  state = record { world = record { content = seen (kinds_of types) c rows; output = output; input = input }; cells = cells }

  module _ (stands : Stands types f rest (record { world = record { content = seen (kinds_of types) c rows; output = output; input = input }; cells = cells })) (x : ℕ) (r : ObjRef) (named : slice_get cells x ≡ Some (Named r.birth)) (o : Object) (there : object_of c rows r ≡ Some o) where
    pub local_can_end : CanEnd (kinds_of types) (forest_kinds types) depth r c rows
    local_can_end = record {
      housed = housed;
      placed = (found c rows r o there).placed;
      sized = λ n p at_n.
          let fit = stands.store.fit n p at_n in
          record { wide = fit.slots; owners = λ u owner. subst (λ w. u < w) (sym fit.width) (owner_inside (parts_at types p.ty) u owner) };
      hand = λ k. 0;
      forest = (less_in_hand types (λ k. times (named_in cells) k + rest k) (λ k. times (r.birth ∷ []) k + 0) (seen (kinds_of types) c rows) held stands.store).forest;
      deep = λ p at_n. deep_enough types depth p.ty deep;
    }
      where
        held : (k : ℕ) → times (r.birth ∷ []) k + 0 ≤ times (named_in cells) k + rest k
        held k = one_or_apart r.birth k
            (λ e. let i = one_same r.birth k e in let h = subst (λ n. 0 < times (named_in cells) n) e (in_hand cells x r.birth named) in omega (arith, i, h))
            (λ ne. let i = one_apart r.birth k ne in omega (arith, i))

    pub local_ended : (d : Content) (new : Rows) → Shows (kinds_of types) d new (ended_number (forest_kinds types) depth r.birth (seen (kinds_of types) c rows))
        → end_cell (local_parts types f x) (cell (record { world = record { content = seen (kinds_of types) c rows; output = output; input = input }; cells = cells }) x) x (record { world = record { content = seen (kinds_of types) c rows; output = output; input = input }; cells = cells })
        ≡ Next (put_cell x Empty (record { world = record { content = seen (kinds_of types) d new; output = output; input = input }; cells = cells }))
    local_ended d new shows =
        let v = stands.frame.objects x r.birth named in
        let m = seen (kinds_of types) c rows in
        let parts = local_parts types f x in
        let same : parts_at types v.object.ty ≡ parts = sym (ap (parts_if types) v.type) in
        let known = object_is_known types ordered (λ k. times (named_in cells) k + rest k) m stands.store r.birth v.object v.there in
        let meant = shows_meant (kinds_of types) (forest_kinds types) depth r c rows local_can_end (parts_at types v.object.ty)
        (stands.store.forest.births r.birth v.object v.there, λ q at_q. subst (λ (y : Object). IsOf (forest_kinds types) (parts_at types v.object.ty) y (Known (forest_kinds types) m (parts_at types v.object.ty))) (same_Some v.object q (sym v.there ∙ at_q)) known) d new shows in
        ap (λ (u : Option Cell). end_cell parts u x state) named
        ∙ ap (λ (q : Option Object). end_object parts q r.birth x state) v.there
        ∙ ap (λ (e : Content). Next (put_cell x Empty (record { world = record { content = e; output = output; input = input }; cells = cells })))
        (ap (λ (p : Parts). without r.birth (ended p (words_if (slice_get v.object.slots 0)) m)) (sym same)
        ∙ ap (λ (q : Option Object). without r.birth (ended (parts_at types v.object.ty) (words_if (slice_get (slots_if q) 0)) m)) (sym v.there)
        ∙ sym (one_slot (parts_at types v.object.ty) r.birth m v.slot (ap slots_if v.there ∙ v.one))
        ∙ sym meant.is)
