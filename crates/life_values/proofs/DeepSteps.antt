-- The steps of the code by which an object ends with all beneath it.
use Rattle.std.proofs.Common.{◌≡◌, ℕ, ◌+◌, ◌-◌, ◌<◌, ◌≤◌, List, length, Option, Some, None, IfSome, Ok, sym, ap, subst, ◌∙◌, arith}
use Rattle.std.specs.Prelude.{slice_get}
use Rattle.life_types.specs.Types.{Types}
use Rattle.life_store.specs.Cells.{unset}
use Rattle.life_store.specs.Content.{Object, Content, with_object, with_word, without}
use Rattle.life_store.specs.References.{Rows, asked_of, object_of, shape_of, HasWord}
use Rattle.life_store.specs.declared.object.ObjRef.{ObjRef}
use Rattle.life_store.specs.declared.object.Shape.{Shape}
use Rattle.life_forest.specs.Kinds.{kinds_of as forest_kinds}
use Rattle.life_seen.specs.Housed.{IsHoused, Shows, Later}
use Rattle.life_seen.specs.Kinds.{kinds_of, Kinds}
use Rattle.life_store.specs.Kinds.{Owner}
use Rattle.life_seen.specs.Named.{names_of}
use Rattle.life_seen.specs.Rowed.{AreRowed}
use Rattle.life_seen.specs.Seen.{object_seen, seen}
use Rattle.life_words.specs.Owning.{with_owner, IsOwner}
use Rattle.life_values.specs.Ended.{ended_number}
use Rattle.life_values.specs.Ending.{CanEnd, NextIn}
use Rattle.life_values.specs.Layouts.{owners_at, AreLayouts, AreOwners}
use Rattle.life_values.specs.declared.deep_end.Found.{Found}
use Rattle.life_values.specs.declared.layout.Layout.{Layout}
use Rattle.life_values.proofs.AlikeKinds.{alike_kinds}
use Rattle.life_values.proofs.Deep.{Progress, deeper, has_words, next_slot, next_word, now, now_there, owned_can, progress_end, shape_before}
use Rattle.life_values.proofs.StillRowed.{owner_keeps, OwnerKeeps}

module _ (types : Types) (layouts : List Layout) (depth : ℕ) (r : ObjRef) (c : Content) (rows : Rows) (can : CanEnd (kinds_of types) (forest_kinds types) depth r c rows) (laid : AreLayouts (kinds_of types) layouts)
    (shape : Shape) (asked : asked_of (object_of c rows r) shape_of ≡ Ok shape) (owners : List ℕ) (own : owners ≡ owners_at layouts shape.ty) (d : Content) (new : Rows) (slot index : ℕ)
    (p : Progress (kinds_of types) (forest_kinds types) (alike_kinds types) depth r c rows can owners d new slot index) where
  are : AreOwners (kinds_of types p.ending.object.ty) owners
  are =
      let s = shape_before (kinds_of types) (forest_kinds types) (alike_kinds types) depth r c rows can shape asked in
      subst (λ ty. AreOwners (kinds_of types ty) owners) (sym (p.ending.ty ∙ s.0)) (subst (AreOwners (kinds_of types shape.ty)) (sym own) (laid shape.ty))

  count : length p.ending.object.slots ≡ shape.length
  count = p.ending.count ∙ (shape_before (kinds_of types) (forest_kinds types) (alike_kinds types) depth r c rows can shape asked).1

  -- the words are there
  pub words_there : slot < shape.length → (j u : ℕ) → slice_get owners j ≡ Some u → IfSome (object_of d new r) (HasWord slot u)
  words_there within j u e =
      let n = now (kinds_of types) (forest_kinds types) (alike_kinds types) depth r c rows can owners d new slot index p in
      subst (λ x. IfSome x (HasWord slot u)) (sym n.found)
      (has_words (kinds_of types) (forest_kinds types) (alike_kinds types) depth r c rows can owners d new slot index p are (let l = count in omega (arith, l, within)) j u e)

  next : (result : Option Found) → ((kinds : Kinds) (o : Object) → IsHoused kinds d new → object_of d new r ≡ Some o → AreOwners (kinds o.ty) owners → NextIn new owners slot index (object_seen kinds (names_of d new) o) result)
      → NextIn new owners slot index p.ending.object result
  next result told =
      let n = now (kinds_of types) (forest_kinds types) (alike_kinds types) depth r c rows can owners d new slot index p in
      subst (λ (o : Object). NextIn new owners slot index o result) n.same
      (told (kinds_of types) n.object p.housed n.found (subst (λ (o : Object). AreOwners (kinds_of types o.ty) owners) (sym n.same) are))

  pub slot_done : ((kinds : Kinds) (o : Object) → IsHoused kinds d new → object_of d new r ≡ Some o → AreOwners (kinds o.ty) owners → NextIn new owners slot index (object_seen kinds (names_of d new) o) None)
      → Progress (kinds_of types) (forest_kinds types) (alike_kinds types) depth r c rows can owners d new (slot + 1) 0
  slot_done told = next_slot (kinds_of types) (forest_kinds types) (alike_kinds types) depth r c rows can owners d new slot index p (next None told)

  module _ (f : Found) (told : (kinds : Kinds) (o : Object) → IsHoused kinds d new → object_of d new r ≡ Some o → AreOwners (kinds o.ty) owners → NextIn new owners slot index (object_seen kinds (names_of d new) o) (Some f)) where
    pub found_before : index ≤ f.index
    found_before = (next (Some f) told).0

    pub word_there : slot < shape.length → IfSome (object_of d new r) (HasWord slot f.word)
    word_there within = words_there within f.index f.word (next (Some f) told).2

    pub word_keeps : (e : Content) (after : Rows) → OwnerKeeps d new r f.word e after → AreRowed (kinds_of types) d new → AreRowed (kinds_of types) e after
    word_keeps =
        owner_keeps types d new r p.ending.object p.housed p.placed (now_there (kinds_of types) (forest_kinds types) (alike_kinds types) depth r c rows can owners d new slot index p) f.word
        (are.sound f.index f.word (next (Some f) told).2)

    module _ (within : slot < shape.length) (e : Content) (after : Rows) (took : (kinds : Kinds) (o : Object) → IsOwner kinds d new r f.word o → Shows kinds e after (with_owner kinds d new r slot f.word o None)) (same : after ≡ new) where
      owner : kinds_of types p.ending.object.ty f.word ≡ Owner
      owner = are.sound f.index f.word (next (Some f) told).2

      shows : Shows (kinds_of types) e after (with_object r.birth (with_word slot f.word 0 p.ending.object) (seen (kinds_of types) d new))
      shows =
          let n = now (kinds_of types) (forest_kinds types) (alike_kinds types) depth r c rows can owners d new slot index p in
          subst (λ (o : Object). Shows (kinds_of types) e after (with_object r.birth (with_word slot f.word 0 o) (seen (kinds_of types) d new))) n.same
          (took (kinds_of types) n.object (record { housed = p.housed; there = n.found; owner = ap (λ (o : Object). kinds_of types o.ty f.word) n.same ∙ owner }))

      pub then_can : CanEnd (kinds_of types) (forest_kinds types) (depth - 1) f.owned e after
      then_can =
          let t = next (Some f) told in
          owned_can (kinds_of types) (forest_kinds types) (alike_kinds types) depth r c rows can owners d new slot index p f.owned f.index f.word t.0 t.1 t.2 owner (let l = count in omega (arith, l, within)) t.3 t.4 e after shows same

      pub word_done : (g : Content) (last : Rows) → Shows (kinds_of types) g last (ended_number (forest_kinds types) (depth - 1) f.owned.birth (seen (kinds_of types) e after)) → Later e g after last
          → Progress (kinds_of types) (forest_kinds types) (alike_kinds types) depth r c rows can owners g last slot (f.index + 1)
      word_done g last ends less =
          let t = next (Some f) told in
          next_word (kinds_of types) (forest_kinds types) (alike_kinds types) depth r c rows can owners d new slot index p f.owned f.index f.word t.0 t.1 t.2 owner (let l = count in omega (arith, l, within)) t.3 t.4 e after shows same g last ends less

  pub all_done : shape.length ≤ slot → (e : Content) (after : Rows) → e ≡ without r.birth d → after ≡ unset new r.birth → Shows (kinds_of types) e after (ended_number (forest_kinds types) depth r.birth (seen (kinds_of types) c rows))
  all_done past e after last gone =
      progress_end (kinds_of types) (forest_kinds types) (alike_kinds types) depth r c rows can owners d new slot index p (let l = count in omega (arith, l, past)) are e after last gone

pub deep_enough : (types : Types) (depth : ℕ) (r : ObjRef) (c : Content) (rows : Rows) → CanEnd (kinds_of types) (forest_kinds types) depth r c rows → 1 ≤ depth
deep_enough types depth r c rows can = let d = deeper (kinds_of types) (forest_kinds types) (alike_kinds types) depth r c rows can in omega (arith, d)
