-- A store goes the way of the meaning where what a word owns gets another number.
use Rattle.std.proofs.Common.{◌≡◌, ℕ, suc, ◌+◌, true, [], ◌∷◌, length, Option, Some, None, MatchOption, IfSome, IsSome, refl, sym, ap, subst, ◌∙◌, arith}
use Rattle.std.specs.Prelude.{option_map}
use Rattle.life_store.specs.Cells.{at}
use Rattle.life_store.specs.Content.{Object, Content, with_object, with_rename, with_word, word_at, CanCount}
use Rattle.life_store.specs.Held.{owned_in, owner_word}
use Rattle.life_store.specs.Kinds.{is_owner}
use Rattle.life_store.specs.References.{Rows, object_of, HasWord}
use Rattle.life_store.specs.declared.object.ObjRef.{ObjRef}
use Rattle.life_forest.specs.Forest.{IsForest}
use Rattle.life_forest.specs.Kinds.{Kinds}
use Rattle.life_forest.specs.Owned.{times}
use Rattle.life_forest.proofs.Counting.{one_same}
use Rattle.life_seen.specs.Housed.{IsHoused, Shows, Later}
use Rattle.life_seen.specs.Kinds.{AreWhole, Kinds as Seen}
use Rattle.life_seen.specs.Named.{names_of}
use Rattle.life_seen.specs.Owned.{IsUnowned}
use Rattle.life_seen.specs.Rowed.{AreRowed}
use Rattle.life_seen.specs.Seen.{object_seen, seen}
use Rattle.life_seen.proofs.References.{later_then}
use Rattle.life_seen.proofs.Resizing.{count_seen}
use Rattle.life_words.specs.Owning.{number_of, with_owner, CanOwn, Holds, IsOwner}
use Rattle.life_values.specs.Ended.{AreAlike}
use Rattle.life_values.specs.Taken.{renewed, CanRenew}
use Rattle.life_values.proofs.Filling.{still_placed}
use Rattle.life_values.proofs.Owners.{unowned_in_hand}
use Rattle.life_values.proofs.Renewed.{one_held, owned_there, renewed_none, renewed_some, there_moved, word_like}
use Rattle.life_values.proofs.SeenAs.{seen_as, IsSeenAs}
use Rattle.life_values.proofs.StillRowed.{seen_keeps, OwnerKeeps}

module _ (kinds : Seen) (kind : Kinds) (alike : AreAlike kinds kind) (r : ObjRef) (i u : ℕ) (c : Content) (rows : Rows) (can : CanRenew kinds kind r i u c rows) where
  abbrev m : Content
  m = seen kinds c rows

  now : IsSeenAs kinds c rows r can.object
  now = seen_as kinds c rows r can.object can.housed can.placed can.there

  owner : is_owner (kind.word can.object.ty u) ≡ true
  owner = sym (alike can.object.ty u) ∙ ap is_owner can.own

  has : (d : Content) (new : Rows) (o : Object) → IsSeenAs kinds d new r o → length o.slots ≡ length can.object.slots → o.width ≡ can.object.width → IfSome (object_of d new r) (HasWord i u)
  has d new o s count width =
      let a : length (object_seen kinds (names_of d new) s.object).slots ≡ length o.slots = ap (λ (x : Object). length x.slots) s.same in
      let b = count_seen kinds (names_of d new) s.object in
      let e : s.object.width ≡ o.width = ap (λ (x : Object). x.width) s.same in
      let f = can.slot in
      let g = can.within in
      subst (λ x. IfSome x (HasWord i u)) (sym s.found) (record { has_slot = omega (arith, a, b, count, f); has_word = omega (arith, e, width, g) })

  pub word_there : IfSome (object_of c rows r) (HasWord i u)
  word_there = has c rows can.object now refl refl

  is_owner_now : IsOwner kinds c rows r u now.object
  is_owner_now = record { housed = can.housed; there = now.found; owner = ap (λ (o : Object). kinds o.ty u) now.same ∙ can.own }

  module _ (found : Option ObjRef) (told : (ks : Seen) (o : Object) → IsOwner ks c rows r u o → Holds ks c rows i u o found)
      (e : Content) (after : Rows) (took : (ks : Seen) (o : Object) → IsOwner ks c rows r u o → Shows ks e after (with_owner ks c rows r i u o None)) (same_rows : after ≡ rows) where
    shows_out : Shows kinds e after (with_object r.birth (with_word i u 0 can.object) (seen kinds c rows))
    shows_out = subst (λ (o : Object). Shows kinds e after (with_object r.birth (with_word i u 0 o) (seen kinds c rows))) now.same (took kinds now.object is_owner_now)

    held : MatchOption found (word_at can.object i u ≡ owner_word None) (λ q. (word_at can.object i u ≡ owner_word (Some q.birth)) × (at rows q.birth ≡ Some q.row))
    held =
        subst (λ (o : Object). MatchOption found (word_at o i u ≡ owner_word None) (λ q. (word_at o i u ≡ owner_word (Some q.birth)) × (at rows q.birth ≡ Some q.row))) now.same (told kinds now.object is_owner_now)

    out_later : Later c e rows after
    out_later = record {
      births = let b = ap (λ (x : Content). x.births) shows_out.is in omega (arith, b);
      row = λ k q lt t. ap (λ (x : Rows). at x k) (sym same_rows) ∙ t;
    }

    -- it owned nothing
    pub none_shows : found ≡ None → Shows kinds e after (renewed r.birth i u (seen kinds c rows))
    none_shows none =
        let z : word_at can.object i u ≡ 0 = subst (λ x. MatchOption x (word_at can.object i u ≡ owner_word None) (λ q. (word_at can.object i u ≡ owner_word (Some q.birth)) × (at rows q.birth ≡ Some q.row))) none held in
        record {
          housed = shows_out.housed;
          is = shows_out.is ∙ sym (renewed_none kind r.birth i u can.hand (seen kinds c rows) can.object can.there can.forest can.wide can.slot can.within owner (ap owned_in z));
        }

    pub none_later : found ≡ None → Later c e rows after
    none_later none = out_later

    module _ (q : ObjRef) (some : found ≡ Some q) where
      owned : (word_at can.object i u ≡ owner_word (Some q.birth)) × (at rows q.birth ≡ Some q.row)
      owned = subst (λ x. MatchOption x (word_at can.object i u ≡ owner_word None) (λ p. (word_at can.object i u ≡ owner_word (Some p.birth)) × (at rows p.birth ≡ Some p.row))) some held

      is_some : owned_in (word_at can.object i u) ≡ Some q.birth
      is_some = ap owned_in owned.0

      one : IsForest kind (λ k. times (q.birth ∷ []) k + can.hand k) (with_object r.birth (with_word i u 0 can.object) (seen kinds c rows))
      one = one_held kind r.birth i u can.hand (seen kinds c rows) can.object can.there can.forest can.wide can.slot can.within owner q.birth is_some

      unfoldable here : (x : Object) × (at (with_object r.birth (with_word i u 0 can.object) (seen kinds c rows)).objects q.birth ≡ Some x)
      here = owned_there kind r.birth i u can.hand (seen kinds c rows) can.object can.there can.forest can.wide can.slot can.within owner q.birth is_some

      seen_owned : IsSeenAs kinds e after q here.0
      seen_owned = seen_as kinds e after q here.0 shows_out.housed (ap (λ (x : Rows). at x q.birth) same_rows ∙ owned.1) (ap (λ (x : Content). at x.objects q.birth) shows_out.is ∙ here.1)

      pub owned_lives : IsSome (object_of e after q)
      owned_lives = subst IsSome (sym seen_owned.found) refl

      pub can_count : CanCount c → CanCount e
      can_count count = record {
        births = let b = ap (λ (x : Content). x.births) shows_out.is in let l = count.births in omega (arith, b, l);
        clock = let b = ap (λ (x : Content). x.clock) shows_out.is in let l = count.clock in omega (arith, b, l);
      }

      unowned : IsUnowned kinds q.birth (seen kinds e after)
      unowned =
          subst (IsUnowned kinds q.birth) (sym shows_out.is)
          (unowned_in_hand kinds kind alike (λ k. times (q.birth ∷ []) k + can.hand k) (with_object r.birth (with_word i u 0 can.object) (seen kinds c rows)) q.birth one (let s = one_same q.birth q.birth refl in omega (arith, s)))

      module _ (f : Content) (last : Rows) (p : ObjRef) (number : p.birth ≡ e.births) (placed : at last p.birth ≡ Some p.row) (later : Later e f after last)
          (renamed_shows : (ks : Seen) (o : Object) → IsHoused ks e after → object_of e after q ≡ Some o → IsUnowned ks q.birth (seen ks e after) → Shows ks f last (with_rename q.birth (object_seen ks (names_of e after) o) (seen ks e after))) where
        shows_moved : Shows kinds f last (with_rename q.birth here.0 (with_object r.birth (with_word i u 0 can.object) (seen kinds c rows)))
        shows_moved =
            let s = renamed_shows kinds seen_owned.object shows_out.housed seen_owned.found unowned in
            record { housed = s.housed; is = s.is ∙ (λ j. with_rename q.birth (seen_owned.same j) (shows_out.is j)) }

        abbrev less : Object
        less = with_word i u 0 can.object

        there_f : at (seen kinds f last).objects r.birth ≡ Some (with_word i u 0 can.object)
        unfolding here
        there_f =
            ap (λ (x : Content). at x.objects r.birth) shows_moved.is
            ∙ there_moved kind r.birth i u can.hand (seen kinds c rows) can.object can.there can.forest can.wide can.slot can.within owner q.birth is_some

        placed_f : at last r.birth ≡ Some r.row
        placed_f =
            still_placed kinds e f after last shows_moved.housed later r.birth r.row (with_word i u 0 can.object)
            (let b = ap (λ (x : Content). x.births) shows_out.is in let l = can.housed.below r.birth r.row can.placed in omega (arith, b, l)) (ap (λ (x : Rows). at x r.birth) same_rows ∙ can.placed) there_f

        seen_f : IsSeenAs kinds f last r (with_word i u 0 can.object)
        seen_f = seen_as kinds f last r (with_word i u 0 can.object) shows_moved.housed placed_f there_f

        pub word_there_still : IfSome (object_of f last r) (HasWord i u)
        word_there_still = has f last (with_word i u 0 can.object) seen_f (word_like i u 0 can.object).count refl

        pub can_own : CanOwn last (Some p)
        can_own = placed

        pub own_keeps : ((x : Object) → AreWhole (kinds x.ty)) → (g : Content) (final : Rows) → OwnerKeeps f last r u g final → AreRowed kinds f last → AreRowed kinds g final
        own_keeps whole = seen_keeps kinds whole f last shows_moved.housed r (with_word i u 0 can.object) seen_f u can.own

        module _ (g : Content) (final : Rows) (owned_shows : (ks : Seen) (o : Object) → IsOwner ks f last r u o → Shows ks g final (with_owner ks f last r i u o (option_map number_of (Some p)))) (same_last : final ≡ last) where
          shows_back : Shows kinds g final (with_object r.birth (with_word i u (suc p.birth) (with_word i u 0 can.object)) (seen kinds f last))
          shows_back =
              subst (λ (o : Object). Shows kinds g final (with_object r.birth (with_word i u (suc p.birth) o) (seen kinds f last))) seen_f.same
              (owned_shows kinds seen_f.object (record { housed = shows_moved.housed; there = seen_f.found; owner = ap (λ (o : Object). kinds o.ty u) seen_f.same ∙ can.own }))

          births_e : p.birth ≡ c.births
          births_e = number ∙ ap (λ (x : Content). x.births) shows_out.is

          pub some_shows : Shows kinds g final (renewed r.birth i u (seen kinds c rows))
          unfolding here
          some_shows = record {
            housed = shows_back.housed;
            is = shows_back.is
                ∙ (λ j. with_object r.birth (with_word i u (suc (births_e j)) (with_word i u 0 can.object)) (shows_moved.is j))
                ∙ sym (renewed_some kind r.birth i u can.hand (seen kinds c rows) can.object can.there can.forest can.wide can.slot can.within owner q.birth is_some);
          }

          pub some_later : Later c g rows final
          some_later =
              later_then c f g rows last final (later_then c e f rows after last out_later later)
              (record {
                births = let b = ap (λ (x : Content). x.births) shows_back.is in omega (arith, b);
                row = λ k j lt t. ap (λ (x : Rows). at x k) (sym same_last) ∙ t;
              })
