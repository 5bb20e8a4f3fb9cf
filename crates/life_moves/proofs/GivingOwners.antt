-- A store goes the way of the meaning where words that own nothing yet, or what ended, are given objects, the last one first.
use Rattle.std.proofs.Common.{◌≡◌, ℕ, ◌+◌, ◌<◌, ◌≤◌, ◌^◌, List, [], ◌∷◌, drop, length, Option, Some, IfSome, refl, sym, ap, subst, ◌∙◌, arith}
use Rattle.std.proofs.lemmas.List.{drop_all}
use Rattle.std.specs.Prelude.{option_map, slice_get}
use Rattle.life_types.specs.Types.{Types}
use Rattle.life_store.specs.Cells.{at, at-set_same}
use Rattle.life_store.specs.Content.{Object, Content, with_object, with_word}
use Rattle.life_store.specs.Held.{owner_word, wrote, wrote_if}
use Rattle.life_store.specs.Kinds.{Owner}
use Rattle.life_store.specs.References.{Rows, object_of, HasWord}
use Rattle.life_store.specs.declared.object.ObjRef.{ObjRef}
use Rattle.life_seen.specs.Housed.{Shows, Later}
use Rattle.life_seen.specs.Kinds.{kinds_of, Kinds as Seen}
use Rattle.life_seen.specs.Named.{names_of}
use Rattle.life_seen.specs.Rowed.{AreRowed}
use Rattle.life_seen.specs.Seen.{object_seen, seen}
use Rattle.life_seen.proofs.References.{later_same, later_then}
use Rattle.life_seen.proofs.Resizing.{count_seen}
use Rattle.life_words.specs.Owning.{number_of, with_owner, CanOwn, IsOwner}
use Rattle.life_values.specs.Moved.{place, CanDisown}
use Rattle.life_values.specs.declared.spot.Spot.{Spot}
use Rattle.life_values.proofs.Flat.{drop_here}
use Rattle.life_values.proofs.Renewed.{word_like}
use Rattle.life_values.proofs.SeenAs.{seen_as, IsSeenAs}
use Rattle.life_values.proofs.StillRowed.{owner_keeps, OwnerKeeps}
use Rattle.life_moves.specs.CopiedTo.{all_given, CanGive}

module _ (types : Types) (to : Spot) (owners : List ℕ) (copies : List ObjRef) (c : Content) (rows : Rows) (can : CanGive (kinds_of types) to owners copies c rows) where
  -- the owners from one on have theirs
  pub record Progress (d : Content) (new : Rows) (j : ℕ) : Type 0 where
    pub within : j ≤ length owners
    pub words : CanDisown (kinds_of types) to owners d new
    pub is : seen (kinds_of types) d new ≡ all_given (place to) (drop j owners) (drop j copies) (seen (kinds_of types) c rows)
    pub same : new ≡ rows
    pub later : Later c d rows new

  pub progress_begin : Progress c rows (length owners)
  progress_begin = record {
    within = omega arith;
    words = can.words;
    is = ap (λ us. all_given (place to) us (drop (length owners) copies) (seen (kinds_of types) c rows)) (sym (drop_all (length owners) owners (omega arith)));
    same = refl;
    later = later_same c c rows (omega arith);
  }

  module _ (d : Content) (new : Rows) (j : ℕ) (progress : Progress d new j) where
    pub progress_end : j ≤ 0 → Shows (kinds_of types) d new (all_given (place to) owners copies (seen (kinds_of types) c rows))
    progress_end none =
        let z : j ≡ 0 = omega (arith, none) in
        record {
          housed = progress.words.housed;
          is = progress.is ∙ ap (λ k. all_given (place to) (drop k owners) (drop k copies) (seen (kinds_of types) c rows)) z;
        }

    -- the one before
    module _ (i u : ℕ) (r : ObjRef) (before : i + 1 ≡ j) (here : slice_get owners i ≡ Some u) (at_r : slice_get copies i ≡ Some r) where
      abbrev m : Content
      m = seen (kinds_of types) d new

      abbrev w : ℕ
      w = to.word + u

      now : IsSeenAs (kinds_of types) d new to.object progress.words.object
      now = seen_as (kinds_of types) d new to.object progress.words.object progress.words.housed progress.words.placed progress.words.there

      pub word_there : IfSome (object_of d new to.object) (HasWord to.slot (to.word + u))
      word_there =
          let a : length (object_seen (kinds_of types) (names_of d new) now.object).slots ≡ length progress.words.object.slots = ap (λ (x : Object). length x.slots) now.same in
          let b = count_seen (kinds_of types) (names_of d new) now.object in
          let e : now.object.width ≡ progress.words.object.width = ap (λ (x : Object). x.width) now.same in
          let f = progress.words.slot in
          let h = (progress.words.own i u here).1 in
          subst (λ x. IfSome x (HasWord to.slot (to.word + u))) (sym now.found) (record { has_slot = omega (arith, a, b, f); has_word = omega (arith, e, h) })

      pub word_small : to.word + u < 2 ^ 64
      word_small = progress.words.small i u here

      pub copy_lives : CanOwn new (Some r)
      copy_lives = ap (λ (z : Rows). at z r.birth) progress.same ∙ can.live i r at_r

      owner : kinds_of types progress.words.object.ty w ≡ Owner
      owner = (progress.words.own i u here).0

      owner_now : IsOwner (kinds_of types) d new to.object w now.object
      owner_now = record { housed = progress.words.housed; there = now.found; owner = ap (λ (o : Object). kinds_of types o.ty w) now.same ∙ owner }

      pub own_keeps : (e : Content) (after : Rows) → OwnerKeeps d new to.object (to.word + u) e after → AreRowed (kinds_of types) d new → AreRowed (kinds_of types) e after
      own_keeps = owner_keeps types d new to.object progress.words.object progress.words.housed progress.words.placed progress.words.there w owner

      module _ (e : Content) (after : Rows) (put : (ks : Seen) (o : Object) → IsOwner ks d new to.object (to.word + u) o → Shows ks e after (with_owner ks d new to.object to.slot (to.word + u) o (option_map number_of (Some r)))) (same : after ≡ new) where
        abbrev next : Object
        next = with_word to.slot w (owner_word (Some r.birth)) progress.words.object

        shows : Shows (kinds_of types) e after (with_object to.object.birth next m)
        shows = subst (λ (o : Object). Shows (kinds_of types) e after (with_object to.object.birth (with_word to.slot w (owner_word (Some r.birth)) o) m)) now.same (put (kinds_of types) now.object owner_now)

        pub progress_next : Progress e after i
        progress_next = record {
          within = let l = progress.within in omega (arith, l, before);
          words = record {
            housed = shows.housed;
            placed = ap (λ (z : Rows). at z to.object.birth) same ∙ progress.words.placed;
            object = next;
            there = ap (λ (z : Content). at z.objects to.object.birth) shows.is ∙ at-set_same m.objects to.object.birth to.object.birth next refl;
            slot = let l = (word_like to.slot w (owner_word (Some r.birth)) progress.words.object).count in let s = progress.words.slot in omega (arith, l, s);
            own = progress.words.own;
            small = progress.words.small;
          };
          is =
              shows.is
              ∙ ap (λ (x : Option Object). wrote_if x to.object.birth to.slot w (owner_word (Some r.birth) ∷ []) m) (sym progress.words.there)
              ∙ ap (wrote to.object.birth to.slot w (owner_word (Some r.birth) ∷ [])) progress.is
              ∙ (λ k. wrote to.object.birth to.slot w (owner_word (Some r.birth) ∷ []) (all_given (place to) (drop (sym before k) owners) (drop (sym before k) copies) (seen (kinds_of types) c rows)))
              ∙ (λ k. all_given (place to) (sym (drop_here owners i u here) k) (sym (drop_here copies i r at_r) k) (seen (kinds_of types) c rows));
          same = same ∙ progress.same;
          later = later_then c d e rows new after progress.later
              (record {
                births = let b = ap (λ (z : Content). z.births) shows.is in omega (arith, b);
                row = λ n k below t. ap (λ (z : Rows). at z n) (sym same) ∙ t;
              });
        }
