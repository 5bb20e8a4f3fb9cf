-- A store goes the way of the meaning where words get copies of what they own, one after the other.
use Rattle.std.proofs.Common.{◌≡◌, ℕ, suc, ◌+◌, ◌<◌, ◌≤◌, List, [], ◌∷◌, drop, length, Option, Some, None, Ok, Err, MatchOption, IfSome, refl, sym, ap, subst, ◌∙◌, arith}
use Rattle.std.proofs.lemmas.List.{drop_all}
use Rattle.std.proofs.lemmas.Option.{none-some, same_Some}
use Rattle.std.specs.Prelude.{option_map, slice_get}
use Rattle.life_types.specs.Trees.{IsOrdered}
use Rattle.life_types.specs.Types.{Types}
use Rattle.life_types.specs.declared.ty.TyId.{TyId}
use Rattle.life_store.specs.Cells.{at}
use Rattle.life_store.specs.Content.{Object, Content, with_object, with_word, word_at}
use Rattle.life_store.specs.Effects.{Setting, Attempt, Got, then_get}
use Rattle.life_store.specs.Held.{owned_in, owner_word, wrote, wrote_if}
use Rattle.life_store.specs.Kinds.{Owner}
use Rattle.life_store.specs.Parts.{Parts, Single, Raw, Iterates, Views, Text, Vector, Unique, Member, NoMember, parts_at, width}
use Rattle.life_store.specs.References.{Rows, object_of, HasWord}
use Rattle.life_store.specs.declared.object.ObjRef.{ObjRef}
use Rattle.life_forest.specs.Kinds.{kinds_of as forest_kinds, owned_type, rank_of}
use Rattle.life_forest.proofs.Coming.{IfGot}
use Rattle.life_forest.proofs.Laying.{IsMade, made_at}
use Rattle.life_seen.specs.Housed.{Shows, Later}
use Rattle.life_seen.specs.Kinds.{kinds_of, Kinds as Seen}
use Rattle.life_seen.specs.Named.{names_of}
use Rattle.life_seen.specs.Rowed.{AreRowed}
use Rattle.life_seen.specs.Seen.{object_seen, seen}
use Rattle.life_seen.proofs.References.{later_same, later_then}
use Rattle.life_seen.proofs.Resizing.{count_seen}
use Rattle.life_seen.proofs.WholePointers.{row_cases}
use Rattle.life_words.specs.Owning.{number_of, with_owner, Holds, IsOwner}
use Rattle.life_values.specs.Copied.{copied_number, recopied, recopied_each, CanCopy, CanRecopy, ComesCopied, Copies}
use Rattle.life_values.specs.Good.{AreGood}
use Rattle.life_values.specs.Layouts.{owners_at, AreLaid}
use Rattle.life_values.specs.Taken.{owned_if}
use Rattle.life_values.specs.declared.copying.CopyFault.{CopyFault}
use Rattle.life_values.specs.declared.copying.CopyFault.TheVariants as copy_fault
use Rattle.life_values.specs.declared.layout.Layout.{Layout}
use Rattle.life_values.proofs.CopiedGood.{got_is, number_grew, word_grew, Copied, Grew}
use Rattle.life_values.proofs.Filling.{some_setting, still_placed}
use Rattle.life_values.proofs.Flat.{drop_here, layouts_own}
use Rattle.life_values.proofs.SeenAs.{seen_as, IsSeenAs}
use Rattle.life_values.proofs.StillRowed.{are_whole, seen_keeps, OwnerKeeps}

-- ---- what is owned has a lesser type

module _ (types : Types) (ordered : IsOrdered types) where
  owned_less : (bound : ℕ) (p : Parts) (u : ℕ) (t : TyId) → IsMade types ordered bound p → owned_type p u ≡ Some t → rank_of types t < bound
  owned_less bound Single u t made e = absurd (none-some t e)
  owned_less bound Raw u t made e = absurd (none-some t e)
  owned_less bound Iterates u t made e = absurd (none-some t e)
  owned_less bound Views u t made e = absurd (none-some t e)
  owned_less bound (Text id) u t made e = subst (λ k. rank_of types k < bound) (same_Some id t e) made.0
  owned_less bound (Vector id element) u t made e = subst (λ k. rank_of types k < bound) (same_Some id t e) made.0
  owned_less bound (Unique id target) u t made e = subst (λ k. rank_of types k < bound) (same_Some id t e) made.0
  owned_less bound (Member first others) u t made e =
      row_cases (width first) (owned_type first) (owned_type others) u (λ lt f. owned_less bound first u t made.0 (sym f ∙ e)) (λ v s f. owned_less bound others v t made.1 (sym f ∙ e))
  owned_less bound NoMember u t made e = absurd (none-some t e)

  pub falls : (ty : TyId) (u : ℕ) (t : TyId) → owned_type (parts_at types ty) u ≡ Some t → rank_of types t < rank_of types ty
  falls ty u t e = owned_less (rank_of types ty) (parts_at types ty) u t (made_at types ordered ty) e

module _ (types : Types) (layouts : List Layout) (laid : AreLaid types layouts) (ordered : IsOrdered types) (limit depth : ℕ) where
  abbrev pub copy : Setting → ℕ → Content → Attempt (ℕ × Content)
  copy s = copied_number s (owners_at layouts) depth

  pub copies_good : (s : Setting) → s.given.cells ≡ limit → (n : ℕ) (c : Content) → AreGood (forest_kinds types) limit c → IfGot (copied_number s (owners_at layouts) depth n c) (Copied (forest_kinds types) limit n c)
  copies_good s cells n c good = number_grew (forest_kinds types) limit s cells (owners_at layouts) (λ ty j u e. (layouts_own types layouts laid ty).sound j u e) depth n c good

  module _ (r : ObjRef) (i : ℕ) (owners : List ℕ) where
    abbrev whole : Setting → Content → Attempt Content
    whole s m = recopied_each (copied_number s (owners_at layouts) depth) r.birth i owners m

    -- how far the store has come
    pub record Progress (c : Content) (rows : Rows) (d : Content) (new : Rows) (j : ℕ) : Type 0 where
      pub can : CanRecopy (kinds_of types) (forest_kinds types) limit depth r i owners d new
      pub is : (s : Setting) → s.given.cells ≡ limit → recopied_each (copied_number s (owners_at layouts) depth) r.birth i owners (seen (kinds_of types) c rows)
          ≡ recopied_each (copied_number s (owners_at layouts) depth) r.birth i (drop j owners) (seen (kinds_of types) d new)
      pub later : Later c d rows new

    pub progress_begin : (c : Content) (rows : Rows) → CanRecopy (kinds_of types) (forest_kinds types) limit depth r i owners c rows → Progress c rows c rows 0
    progress_begin c rows can = record { can = can; is = λ s cells. refl; later = later_same c c rows (omega arith) }

    pub progress_end : (c : Content) (rows : Rows) (d : Content) (new : Rows) (j : ℕ) → Progress c rows d new j → length owners ≤ j → (s : Setting) → s.given.cells ≡ limit
        → ComesCopied {A = Unit {0}} (kinds_of types) (recopied_each (copied_number s (owners_at layouts) depth) r.birth i owners (seen (kinds_of types) c rows)) (Ok tt) d new
    progress_end c rows d new j p all s cells = (
      seen (kinds_of types) d new,
      p.is s cells ∙ ap (λ us. recopied_each (copied_number s (owners_at layouts) depth) r.birth i us (seen (kinds_of types) d new)) (drop_all j owners all),
      record { housed = p.can.housed; is = refl },
    )

    module _ (c : Content) (rows : Rows) (d : Content) (new : Rows) (j : ℕ) (p : Progress c rows d new j) (u : ℕ) (here : slice_get owners j ≡ Some u) where
      now : IsSeenAs (kinds_of types) d new r p.can.object
      now = seen_as (kinds_of types) d new r p.can.object p.can.housed p.can.placed p.can.there

      has : (e : Content) (after : Rows) → IsSeenAs (kinds_of types) e after r p.can.object → IfSome (object_of e after r) (HasWord i u)
      has e after n =
          let a : length (object_seen (kinds_of types) (names_of e after) n.object).slots ≡ length p.can.object.slots = ap (λ (x : Object). length x.slots) n.same in
          let b = count_seen (kinds_of types) (names_of e after) n.object in
          let w : n.object.width ≡ p.can.object.width = ap (λ (x : Object). x.width) n.same in
          let s = p.can.slot in
          let o = (p.can.own j u here).1 in
          subst (λ x. IfSome x (HasWord i u)) (sym n.found) (record { has_slot = omega (arith, a, b, s); has_word = omega (arith, w, o) })

      pub word_there : IfSome (object_of d new r) (HasWord i u)
      word_there = has d new now

      owner_at : (e : Content) (after : Rows) → (n : IsSeenAs (kinds_of types) e after r p.can.object) → kinds_of types n.object.ty u ≡ Owner
      owner_at e after n = ap (λ (o : Object). kinds_of types o.ty u) n.same ∙ (p.can.own j u here).0

      module _ (found : Option ObjRef) (told : (ks : Seen) (o : Object) → IsOwner ks d new r u o → Holds ks d new i u o found) where
        held : MatchOption found (word_at p.can.object i u ≡ owner_word None) (λ q. (word_at p.can.object i u ≡ owner_word (Some q.birth)) × (at new q.birth ≡ Some q.row))
        held =
            subst (λ (o : Object). MatchOption found (word_at o i u ≡ owner_word None) (λ q. (word_at o i u ≡ owner_word (Some q.birth)) × (at new q.birth ≡ Some q.row))) now.same
            (told (kinds_of types) now.object (record { housed = p.can.housed; there = now.found; owner = owner_at d new now }))

        abbrev rest : Setting → Content → Attempt Content
        rest s = recopied_each (copied_number s (owners_at layouts) depth) r.birth i (drop (j + 1) owners)

        left : (s : Setting) → s.given.cells ≡ limit → recopied_each (copied_number s (owners_at layouts) depth) r.birth i owners (seen (kinds_of types) c rows)
            ≡ then_get (recopied (copied_number s (owners_at layouts) depth) (owned_in (word_at p.can.object i u)) r.birth i u (seen (kinds_of types) d new)) (rest s)
        left s cells =
            p.is s cells
            ∙ ap (λ us. recopied_each (copied_number s (owners_at layouts) depth) r.birth i us (seen (kinds_of types) d new)) (drop_here owners j u here)
            ∙ ap (λ (x : Option Object). then_get (recopied (copied_number s (owners_at layouts) depth) (owned_if x i u) r.birth i u (seen (kinds_of types) d new)) (rest s)) p.can.there

        -- it owns nothing
        pub none_comes : found ≡ None → (e : Content) (after : Rows) (s : Setting) → s.given.cells ≡ limit
            → ComesCopied {A = Unit {0}} (kinds_of types) (recopied_each (copied_number s (owners_at layouts) depth) r.birth i owners (seen (kinds_of types) c rows)) (Err copy_fault.Moved) e after
        none_comes none e after s cells =
            let z : word_at p.can.object i u ≡ 0 = subst (λ x. MatchOption x (word_at p.can.object i u ≡ owner_word None) (λ q. (word_at p.can.object i u ≡ owner_word (Some q.birth)) × (at new q.birth ≡ Some q.row))) none held in
            left s cells ∙ ap (λ w. then_get (recopied (copied_number s (owners_at layouts) depth) (owned_in w) r.birth i u (seen (kinds_of types) d new)) (rest s)) z

        module _ (q : ObjRef) (some : found ≡ Some q) where
          owned : (word_at p.can.object i u ≡ owner_word (Some q.birth)) × (at new q.birth ≡ Some q.row)
          owned = subst (λ x. MatchOption x (word_at p.can.object i u ≡ owner_word None) (λ y. (word_at p.can.object i u ≡ owner_word (Some y.birth)) × (at new y.birth ≡ Some y.row))) some held

          pub copy_can : CanCopy (kinds_of types) (forest_kinds types) limit depth q d new
          copy_can = record {
            housed = p.can.housed;
            placed = owned.1;
            good = p.can.good;
            deep = λ y at_q.
                let t = ((p.can.good.good r.birth p.can.object p.can.there).names i u q.birth (p.can.own j u here).0 owned.0).type y at_q in
                let l = falls types ordered p.can.object.ty u y.ty t in
                let e = p.can.deep in
                omega (arith, l, e);
          }

          then_copy : (s : Setting) → s.given.cells ≡ limit → recopied_each (copied_number s (owners_at layouts) depth) r.birth i owners (seen (kinds_of types) c rows)
              ≡ then_get (recopied (copied_number s (owners_at layouts) depth) (Some q.birth) r.birth i u (seen (kinds_of types) d new)) (rest s)
          then_copy s cells = left s cells ∙ ap (λ w. then_get (recopied (copied_number s (owners_at layouts) depth) (owned_in w) r.birth i u (seen (kinds_of types) d new)) (rest s)) owned.0

          abbrev put_back : ℕ × Content → Attempt Content
          put_back b = Got (wrote r.birth i u (owner_word (Some b.0) ∷ []) b.1)

          -- no copy came
          pub copy_fails : (why : CopyFault) (e : Content) (after : Rows)
              → ((s : Setting) → s.given.cells ≡ limit → Copies (kinds_of types) (copied_number s (owners_at layouts) depth q.birth (seen (kinds_of types) d new)) (Err why) e after)
              → (s : Setting) → s.given.cells ≡ limit → ComesCopied {A = Unit {0}} (kinds_of types) (recopied_each (copied_number s (owners_at layouts) depth) r.birth i owners (seen (kinds_of types) c rows)) (Err why) e after
          copy_fails copy_fault.Moved e after came s cells = then_copy s cells ∙ ap (λ x. then_get (then_get x put_back) (rest s)) (came s cells)
          copy_fails copy_fault.Cells e after came s cells = then_copy s cells ∙ ap (λ x. then_get (then_get x put_back) (rest s)) (came s cells)
          copy_fails copy_fault.NoMemory e after came s cells = tt

          -- .. or one did
          module _ (b : ObjRef) (e : Content) (after : Rows)
              (came : (s : Setting) → s.given.cells ≡ limit → Copies (kinds_of types) (copied_number s (owners_at layouts) depth q.birth (seen (kinds_of types) d new)) (Ok b) e after) (later : Later d e new after) where
            abbrev m : Content
            m = (came (some_setting limit) refl).0

            shows_e : Shows (kinds_of types) e after (came (some_setting limit) refl).0
            shows_e = (came (some_setting limit) refl).2

            copied : Copied (forest_kinds types) limit q.birth (seen (kinds_of types) d new) (b.birth, (came (some_setting limit) refl).0)
            copied =
                got_is (copied_number (some_setting limit) (owners_at layouts) depth q.birth (seen (kinds_of types) d new)) (Copied (forest_kinds types) limit q.birth (seen (kinds_of types) d new)) (b.birth, (came (some_setting limit) refl).0)
                (copies_good (some_setting limit) refl q.birth (seen (kinds_of types) d new) p.can.good) (came (some_setting limit) refl).1

            there_m : at (came (some_setting limit) refl).0.objects r.birth ≡ Some p.can.object
            there_m = copied.same r.birth (p.can.good.born r.birth p.can.object p.can.there) ∙ p.can.there

            there_e : at (seen (kinds_of types) e after).objects r.birth ≡ Some p.can.object
            there_e = ap (λ (x : Content). at x.objects r.birth) shows_e.is ∙ there_m

            placed_e : at after r.birth ≡ Some r.row
            placed_e = still_placed (kinds_of types) d e new after shows_e.housed later r.birth r.row p.can.object (p.can.good.born r.birth p.can.object p.can.there) p.can.placed there_e

            seen_e : IsSeenAs (kinds_of types) e after r p.can.object
            seen_e = seen_as (kinds_of types) e after r p.can.object shows_e.housed placed_e there_e

            pub can_own : IfSome (object_of e after r) (HasWord i u)
            can_own = has e after seen_e

            pub copy_placed : at after b.birth ≡ Some b.row
            copy_placed = (came (some_setting limit) refl).3

            pub own_keeps : (f : Content) (last : Rows) → OwnerKeeps e after r u f last → AreRowed (kinds_of types) e after → AreRowed (kinds_of types) f last
            own_keeps = seen_keeps (kinds_of types) (are_whole types) e after shows_e.housed r p.can.object seen_e u (p.can.own j u here).0

            module _ (f : Content) (last : Rows) (owned_shows : (ks : Seen) (o : Object) → IsOwner ks e after r u o → Shows ks f last (with_owner ks e after r i u o (option_map number_of (Some b)))) (same : last ≡ after) where
              shows_f : Shows (kinds_of types) f last (with_object r.birth (with_word i u (suc b.birth) p.can.object) (seen (kinds_of types) e after))
              shows_f =
                  subst (λ (o : Object). Shows (kinds_of types) f last (with_object r.birth (with_word i u (suc b.birth) o) (seen (kinds_of types) e after))) seen_e.same
                  (owned_shows (kinds_of types) seen_e.object (record { housed = shows_e.housed; there = seen_e.found; owner = owner_at e after seen_e }))

              grew : Grew (forest_kinds types) limit r.birth (seen (kinds_of types) d new) (wrote r.birth i u (owner_word (Some b.birth) ∷ []) (came (some_setting limit) refl).0)
              grew =
                  word_grew (forest_kinds types) limit (copied_number (some_setting limit) (owners_at layouts) depth) (copies_good (some_setting limit) refl) r.birth i u (seen (kinds_of types) d new) p.can.object p.can.good p.can.there
                  (p.can.own j u here).0 q.birth owned.0 (b.birth, (came (some_setting limit) refl).0) copied

              is_f : (n : Content) → Shows (kinds_of types) e after n → seen (kinds_of types) f last ≡ wrote r.birth i u (owner_word (Some b.birth) ∷ []) n
              is_f n shows =
                  shows_f.is
                  ∙ ap (λ (x : Option Object). wrote_if x r.birth i u (suc b.birth ∷ []) (seen (kinds_of types) e after)) (sym there_e)
                  ∙ ap (wrote r.birth i u (suc b.birth ∷ [])) shows.is

              next_is : (s : Setting) → s.given.cells ≡ limit → recopied (copied_number s (owners_at layouts) depth) (Some q.birth) r.birth i u (seen (kinds_of types) d new) ≡ Got (seen (kinds_of types) f last)
              next_is s cells =
                  let x = came s cells in
                  ap (λ y. then_get y put_back) x.1 ∙ ap (λ (y : Content). Got y) (sym (is_f x.0 x.2))

              pub progress_next : Progress c rows f last (j + 1)
              progress_next =
                  let t = grew.target p.can.object p.can.there in
                  let is_m = is_f (came (some_setting limit) refl).0 shows_e in
                  let there_f : at (seen (kinds_of types) f last).objects r.birth ≡ Some t.0 = ap (λ (x : Content). at x.objects r.birth) is_m ∙ t.1 in
                  record {
                    can = record {
                      housed = shows_f.housed;
                      placed = ap (λ (x : Rows). at x r.birth) same ∙ placed_e;
                      good = subst (AreGood (forest_kinds types) limit) (sym is_m) grew.good;
                      object = t.0;
                      there = there_f;
                      slot = let k = t.2.count in let s = p.can.slot in omega (arith, k, s);
                      own = λ k v at_k. let o = p.can.own k v at_k in let w = t.2.width in let l = o.1 in (ap (λ ty. kinds_of types ty v) t.2.ty ∙ o.0, omega (arith, w, l));
                      deep = let k = ap (rank_of types) t.2.ty in let l = p.can.deep in omega (arith, k, l);
                    };
                    is = λ s cells. then_copy s cells ∙ ap (λ x. then_get x (rest s)) (next_is s cells);
                    later = later_then c d f rows new last p.later
                        (later_then d e f new after last later
                        (record {
                          births = let k = ap (λ (x : Content). x.births) shows_f.is in omega (arith, k);
                          row = λ k l lt t'. ap (λ (x : Rows). at x k) (sym same) ∙ t';
                        }));
                  }
