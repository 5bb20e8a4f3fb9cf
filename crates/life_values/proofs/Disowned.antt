-- A store goes the way of the meaning where the words of a value own nothing any more.
use Rattle.std.proofs.Common.{◌≡◌, ℕ, ◌+◌, ◌≤◌, List, [], ◌∷◌, ◌<◌, ◌^◌, drop, length, Some, None, IfSome, refl, sym, ap, subst, ◌∙◌, arith}
use Rattle.std.proofs.lemmas.List.{drop_all}
use Rattle.std.specs.Prelude.{slice_get}
use Rattle.life_store.specs.Cells.{Cells, at, at-set_same}
use Rattle.life_store.specs.Content.{Object, Content, with_object, with_word}
use Rattle.life_store.specs.References.{Rows, object_of, HasWord}
use Rattle.life_store.proofs.MapLemmas.{set-set, set-unset, set_back}
use Rattle.life_seen.specs.Housed.{Shows, Later}
use Rattle.life_seen.specs.Kinds.{Kinds}
use Rattle.life_seen.specs.Named.{names_of}
use Rattle.life_seen.specs.Seen.{object_seen, seen}
use Rattle.life_seen.proofs.References.{later_same, later_then}
use Rattle.life_seen.proofs.Resizing.{count_seen}
use Rattle.life_words.specs.Owning.{with_owner, IsOwner}
use Rattle.life_values.specs.Moved.{disowned, disowned_if, place, CanDisown}
use Rattle.life_values.specs.Zeroed.{zeroed}
use Rattle.life_values.specs.declared.spot.Spot.{Spot}
use Rattle.life_values.proofs.Flat.{drop_here}
use Rattle.life_values.proofs.Renewed.{word_like}
use Rattle.life_values.proofs.SeenAs.{seen_as, IsSeenAs}

-- into an object that is changed itself
pub disowned_with : (n i w : ℕ) (us : List ℕ) (o : Object) (m : Content) → disowned (record { object = n; index = i; word = w }) us (with_object n o m) ≡ with_object n (zeroed i w us o) m
disowned_with n i w us o m =
    ap (λ x. disowned_if x (record { object = n; index = i; word = w }) us (with_object n o m)) (at-set_same m.objects n n o refl)
    ∙ ap (λ (x : Cells Object). record { objects = x; births = m.births; clock = m.clock }) (set-set m.objects n o (zeroed i w us o))

module _ (kinds : Kinds) (spot : Spot) (owners : List ℕ) where
  -- how far the store has come
  pub record Progress (c : Content) (rows : Rows) (d : Content) (new : Rows) (j : ℕ) : Type 0 where
    pub can : CanDisown kinds spot owners d new
    pub is : disowned (place spot) (drop j owners) (seen kinds d new) ≡ disowned (place spot) owners (seen kinds c rows)
    pub later : Later c d rows new

  pub progress_begin : (c : Content) (rows : Rows) → CanDisown kinds spot owners c rows → Progress c rows c rows 0
  progress_begin c rows can = record { can = can; is = refl; later = later_same c c rows (omega arith) }

  module _ (c : Content) (rows : Rows) (d : Content) (new : Rows) (j : ℕ) (p : Progress c rows d new j) where
    abbrev m : Content
    m = seen kinds d new

    pub progress_end : length owners ≤ j → Shows kinds d new (disowned (place spot) owners (seen kinds c rows))
    progress_end all = record {
      housed = p.can.housed;
      is =
          ap (λ (x : Cells Object). record { objects = x; births = d.births; clock = d.clock }) (sym (sym (set-unset m.objects spot.object.birth p.can.object) ∙ set_back m.objects spot.object.birth p.can.object p.can.there))
          ∙ ap (λ x. disowned_if x (place spot) [] (seen kinds d new)) (sym p.can.there)
          ∙ ap (λ us. disowned (place spot) us (seen kinds d new)) (sym (drop_all j owners all))
          ∙ p.is;
    }

    module _ (u : ℕ) (here : slice_get owners j ≡ Some u) where
      abbrev w : ℕ
      w = spot.word + u

      now : IsSeenAs kinds d new spot.object p.can.object
      now = seen_as kinds d new spot.object p.can.object p.can.housed p.can.placed p.can.there

      pub word_there : IfSome (object_of d new spot.object) (HasWord spot.slot (spot.word + u))
      word_there =
          let a : length (object_seen kinds (names_of d new) now.object).slots ≡ length p.can.object.slots = ap (λ (x : Object). length x.slots) now.same in
          let b = count_seen kinds (names_of d new) now.object in
          let e : now.object.width ≡ p.can.object.width = ap (λ (x : Object). x.width) now.same in
          let f = p.can.slot in
          let h = (p.can.own j u here).1 in
          subst (λ x. IfSome x (HasWord spot.slot (spot.word + u))) (sym now.found) (record { has_slot = omega (arith, a, b, f); has_word = omega (arith, e, h) })

      pub word_small : spot.word + u < 2 ^ 64
      word_small = p.can.small j u here

      owner_now : IsOwner kinds d new spot.object w now.object
      owner_now = record { housed = p.can.housed; there = now.found; owner = ap (λ (o : Object). kinds o.ty w) now.same ∙ (p.can.own j u here).0 }

      module _ (e : Content) (after : Rows) (took : (ks : Kinds) (o : Object) → IsOwner ks d new spot.object w o → Shows ks e after (with_owner ks d new spot.object spot.slot w o None)) (same : after ≡ new) where
        abbrev next : Object
        next = with_word spot.slot w 0 p.can.object

        shows : Shows kinds e after (with_object spot.object.birth next m)
        shows = subst (λ (o : Object). Shows kinds e after (with_object spot.object.birth (with_word spot.slot w 0 o) m)) now.same (took kinds now.object owner_now)

        pub progress_next : Progress c rows e after (j + 1)
        progress_next = record {
          can = record {
            housed = shows.housed;
            placed = ap (λ (z : Rows). at z spot.object.birth) same ∙ p.can.placed;
            object = next;
            there = ap (λ (z : Content). at z.objects spot.object.birth) shows.is ∙ at-set_same m.objects spot.object.birth spot.object.birth next refl;
            slot = let l = (word_like spot.slot w 0 p.can.object).count in let s = p.can.slot in omega (arith, l, s);
            own = p.can.own;
            small = p.can.small;
          };
          is =
              ap (disowned (place spot) (drop (j + 1) owners)) shows.is
              ∙ disowned_with spot.object.birth spot.slot spot.word (drop (j + 1) owners) next m
              ∙ ap (λ x. disowned_if x (place spot) (u ∷ drop (j + 1) owners) m) (sym p.can.there)
              ∙ ap (λ us. disowned (place spot) us m) (sym (drop_here owners j u here))
              ∙ p.is;
          later = later_then c d e rows new after p.later
              (record {
                births = let b = ap (λ (z : Content). z.births) shows.is in omega (arith, b);
                row = λ n k below t. ap (λ (z : Rows). at z n) (sym same) ∙ t;
              });
        }
