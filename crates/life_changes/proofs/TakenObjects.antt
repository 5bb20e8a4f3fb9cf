-- A new object in a store takes the value of a temporary.
use Rattle.std.proofs.Common.{◌≡◌, ℕ, suc, ◌+◌, ◌*◌, ◌≤◌, ◌<◌, List, [], ◌∷◌, length, Some, Ok, refl, sym, ap, subst, ◌∙◌, arith}
use Rattle.std.proofs.lemmas.List.{length-replicate}
use Rattle.std.proofs.lemmas.Option.{same_Some}
use Rattle.life_types.specs.Types.{Types}
use Rattle.life_types.specs.declared.ty.TyId.{TyId}
use Rattle.life_store.specs.Cells.{at}
use Rattle.life_store.specs.Content.{Object, Content, live_words_of}
use Rattle.life_store.specs.Effects.{Setting, Attempt, Got}
use Rattle.life_store.specs.Owners.{consumed, object_with, sized_birth}
use Rattle.life_store.specs.Parts.{parts_at, width_at}
use Rattle.life_store.specs.References.{Rows}
use Rattle.life_store.specs.declared.object.ObjRef.{ObjRef}
use Rattle.life_forest.specs.Forest.{IsForest}
use Rattle.life_forest.specs.Kinds.{kinds_of as forest_kinds, rank_of}
use Rattle.life_forest.specs.Owned.{times}
use Rattle.life_forest.specs.Typed.{IsStore}
use Rattle.life_forest.proofs.Coming.{IfGot}
use Rattle.life_forest.proofs.Copying.{sized_birth_came, Sized}
use Rattle.life_seen.specs.Housed.{IsRef, Later, Shows}
use Rattle.life_seen.specs.Kinds.{kinds_of}
use Rattle.life_seen.proofs.References.{ref_later}
use Rattle.life_values.specs.Consumed.{stored, CanConsume}
use Rattle.life_values.specs.Layouts.{leaves_at, AreLaid}
use Rattle.life_values.specs.declared.layout.Layout.{Layout}
use Rattle.life_values.proofs.Elements.{not_unborn}
use Rattle.life_values.proofs.OneOwner.{leaves_by_parts}
use Rattle.life_cells.specs.Fits.{meant}
use Rattle.life_changes.specs.NewObjects.{taken_value, Bears, IsTemporary}
use Rattle.life_changes.proofs.BornObjects.{blank, born, born_got, there as born_here, with_born}
use Rattle.life_changes.proofs.Leaves.{flat_short}
use Rattle.life_changes.proofs.Owned.{ref_placed}

got_has : {A : Type 0} (x : Attempt A) (P : A → Type 0) (a : A) → IfGot x P → x ≡ Got a → P a
got_has x P a h e = subst (λ y. IfGot y P) e h

module _ (types : Types) (ty : TyId) (hand : ℕ → ℕ) (c : Content) (rows : Rows) (store : IsStore types hand (meant types c rows)) (r : ObjRef) (t : IsTemporary types hand ty r c rows) (q : ObjRef) (number : q.birth ≡ c.births) (d : Content) (new : Rows)
    (shows : Shows (kinds_of types) d new (born types ty (width_at types ty) c rows)) (later : Later c d rows new) (s : Setting) (room : live_words_of c + (2 + width_at types ty * 1) ≤ s.given.cells) where
  abbrev m : Content
  m = meant types c rows

  abbrev begun : Content
  begun = born types ty (width_at types ty) c rows

  sized : Sized (forest_kinds types) (suc (rank_of types ty)) hand ty (width_at types ty) 1 (meant types c rows) (c.births, begun)
  sized =
      got_has (sized_birth s ty (width_at types ty) 1 m) (Sized (forest_kinds types) (suc (rank_of types ty)) hand ty (width_at types ty) 1 m) (c.births, begun)
      (sized_birth_came (forest_kinds types) (suc (rank_of types ty)) hand ty (width_at types ty) 1 m (omega arith) store.forest s) (born_got types ty (width_at types ty) c rows s room)

  r_born : r.birth < c.births
  r_born = store.forest.births r.birth t.object t.there

  pub still_there : at (meant types d new).objects r.birth ≡ Some t.object
  still_there = ap (λ (x : Content). at x.objects r.birth) shows.is ∙ sized.came.same r.birth r_born ∙ t.there

  abbrev begin : Object
  begin = blank types ty (width_at types ty) c rows

  pub can_consume : at new q.birth ≡ Some q.row → CanConsume types r q 0 d new
  can_consume placed =
      let fit = store.fit r.birth t.object t.there in
      let referred : IsRef c rows r = record { born = r_born; row = λ k e. same_Some k r.row (sym e ∙ t.placed) } in
      record {
        housed = shows.housed;
        placed = ref_placed types d new shows.housed r (ref_later c d rows new r later referred) t.object still_there;
        to_placed = placed;
        hand = λ k. times (c.births ∷ []) k + hand k;
        forest = subst (IsForest (forest_kinds types) (λ k. times (c.births ∷ []) k + hand k)) (sym shows.is) sized.came.forest;
        held = let h = t.held in omega (arith, h);
        temporary = t.object;
        there = still_there;
        alone = ap length t.one;
        target = begin;
        target_there = born_here types ty (width_at types ty) c rows q number d new shows;
        target_slot = omega arith;
        alike = t.type;
        long = fit.slots;
        target_long = (length-replicate (width_at types ty) 0, tt);
        width = fit.width;
        target_width = sym (fit.width ∙ ap (width_at types) t.type);
        apart = λ same. let l = r_born in absurd (omega (arith, same, number, l));
        free = not_unborn (forest_kinds types) (parts_at types t.object.ty) hand m store.forest r.birth t.object t.there (λ u. refl) q.birth (omega (arith, number));
      }

  module _ (layouts : List Layout) (laid : AreLaid types layouts) where
    pub few_leaves : (o : Object) → at (meant types d new).objects r.birth ≡ Some o → length (leaves_at layouts o.ty) ≤ width_at types ty
    few_leaves o is =
        let same = ap (λ (x : Object). x.ty) (same_Some o t.object (sym is ∙ still_there)) ∙ t.type in
        subst (λ k. length (leaves_at layouts k) ≤ width_at types ty) (sym same)
        (let n = ap length (leaves_by_parts types layouts laid ty) in let f = flat_short (parts_at types ty) 0 in omega (arith, n, f))

  pub bears_taken : (e : Content) (after : Rows) → IsRef e after q → ((o : Object) → at (meant types d new).objects r.birth ≡ Some o → Shows (kinds_of types) e after (stored q.birth 0 (consumed (parts_at types o.ty) r.birth (meant types d new))))
      → Bears (kinds_of types) (object_with s ty (parts_at types ty) (taken_value r.birth (parts_at types ty)) (meant types c rows)) (Ok q) e after
  bears_taken e after referred shown = (
    stored q.birth 0 (consumed (parts_at types t.object.ty) r.birth (meant types d new)),
    with_born types c rows s ty (parts_at types ty) (taken_value r.birth (parts_at types ty)) room
        ∙ (λ j. Got (sym number j, stored (sym number j) 0 (consumed (parts_at types (sym t.type j)) r.birth (sym shows.is j)))),
    shown t.object still_there,
    referred,
  )
