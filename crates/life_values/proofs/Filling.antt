-- A store goes the way of the meaning where a slot is given a fresh value.
use Rattle.std.proofs.Common.{◌≡◌, ℕ, ◌+◌, ◌*◌, ◌≤◌, ◌<◌, Bool, true, false, cond, List, [], ◌∷◌, length, drop, Option, Some, None, Ok, Err, IfSome, refl, sym, ap, subst, ◌∙◌, arith}
use Rattle.std.proofs.lemmas.List.{drop_all}
use Rattle.std.proofs.lemmas.Option.{none-some}
use Rattle.std.specs.Prelude.{nat_lt, option_map, slice_get}
use Rattle.life_types.specs.Types.{Types}
use Rattle.life_types.specs.declared.ty.TyId.{TyId}
use Rattle.life_core.specs.declared.instr.Form.{Form}
use Rattle.life_store.specs.Cells.{at, at-set_same, at-set_other}
use Rattle.life_store.specs.Content.{Object, Content, live_words_of, newborn, with_birth, with_object, with_word}
use Rattle.life_store.specs.Effects.{Setting, Attempt, Got, GotTrap, then_get}
use Rattle.life_store.specs.Held.{wrote, wrote_if}
use Rattle.life_store.specs.Parts.{parts_at, width}
use Rattle.life_store.specs.References.{Rows, object_of, HasWord}
use Rattle.life_store.specs.declared.object.BirthFault.{BirthFault}
use Rattle.life_store.specs.declared.object.BirthFault.TheVariants as birth_fault
use Rattle.life_store.specs.declared.run.Growth.TheVariants as growth
use Rattle.life_store.specs.declared.run.TrapKind.TheVariants as trap
use Rattle.life_seen.specs.Housed.{IsHoused, Later, Shows, WordLives}
use Rattle.life_seen.specs.Kinds.{Kinds}
use Rattle.life_seen.specs.Named.{names_of}
use Rattle.life_seen.specs.Seen.{object_seen, seen, word_seen}
use Rattle.life_seen.proofs.Calls.{shows_put}
use Rattle.life_seen.proofs.MapViews.{at-mapped}
use Rattle.life_seen.proofs.References.{later_same, later_then, lives_placed}
use Rattle.life_seen.proofs.Resizing.{count_seen}
use Rattle.life_values.specs.Fresh.{kind_of, leaf_born, leaf_wrote, leaves_wrote, CanFill, Comes, IsFirst}
use Rattle.life_values.specs.declared.layout.Holds.{Holds}
use Rattle.life_values.specs.declared.layout.Holds.TheVariants as holds
use Rattle.life_values.specs.declared.layout.Leaf.{Leaf}
use Rattle.life_values.specs.declared.spot.Spot.{Spot}
use Rattle.life_values.proofs.Beginning.{by_word}
use Rattle.life_values.proofs.Flat.{drop_here}
use Rattle.life_values.proofs.Owners.{count_put, with_word_is}
use Rattle.life_values.proofs.SeenAs.{seen_as, IsSeenAs}

-- what lives still has its row
pub still_placed : (kinds : Kinds) (c d : Content) (rows new : Rows) → IsHoused kinds d new → Later c d rows new → (n k : ℕ) (x : Object) → n < c.births → at rows n ≡ Some k → at (seen kinds d new).objects n ≡ Some x → at new n ≡ Some k
still_placed kinds c d rows new housed later n k x born placed there = go (at d.objects n) refl
  where
    go : (o : Option Object) → at d.objects n ≡ o → at new n ≡ Some k
    go None none = absurd (none-some x (sym (at-mapped (object_seen kinds (names_of d new)) d.objects n ∙ ap (option_map (object_seen kinds (names_of d new))) none) ∙ there))
    go (Some o) some = let r = lives_placed kinds d new housed n o some in r.1 ∙ sym (later.row n r.0 born r.1) ∙ placed

-- ---- a birth leaves what was there

abbrev content_or : Content → Attempt (ℕ × Content) → Content
content_or c (Got b) = b.1
content_or c _ = c

stays : (c m : Content) (x v n : ℕ) → ◌≡◌ {A = Attempt (ℕ × Content)} (Got (x, c)) (Got (v, m)) → at m.objects n ≡ at c.objects n
stays c m x v n e = ap (λ (y : Attempt (ℕ × Content)). at (content_or c y).objects n) (sym e)

born_keeps : (b : Bool) (c m : Content) (ty : TyId) (w v n : ℕ) → n < c.births → then_get (cond b (GotTrap trap.Cells) (Got (c.births, with_birth ty w 0 c))) by_word ≡ Got (v, m) → at m.objects n ≡ at c.objects n
born_keeps true c m ty w v n lt e = ap (λ (y : Attempt (ℕ × Content)). at (content_or c y).objects n) (sym e)
born_keeps false c m ty w v n lt e =
    ap (λ (y : Attempt (ℕ × Content)). at (content_or c y).objects n) (sym e)
    ∙ at-set_other c.objects c.births n (newborn ty w 0 c.clock) (λ s. absurd (omega (arith, s, lt)))

leaf_keeps : (s : Setting) (types : Types) (f : Form) (h : Holds) (c m : Content) (v n : ℕ) → n < c.births → leaf_born s types f h c ≡ Got (v, m) → at m.objects n ≡ at c.objects n
leaf_keeps s types f holds.Raw c m v n lt e = stays c m _ v n e
leaf_keeps s types f holds.View c m v n lt e = stays c m _ v n e
leaf_keeps s types f (holds.Characters ty) c m v n lt e = born_keeps (nat_lt s.given.cells (live_words_of c + (2 + 1 * 0))) c m ty 1 v n lt e
leaf_keeps s types f (holds.Elements ty) c m v n lt e = born_keeps (nat_lt s.given.cells (live_words_of c + (2 + width (parts_at types ty) * 0))) c m ty (width (parts_at types ty)) v n lt e
leaf_keeps s types f (holds.Target ty) c m v n lt e = stays c m _ v n e

-- some run has the limit
abbrev pub some_setting : ℕ → Setting
some_setting limit = record { given = record { growth = growth.Double; cells = limit; depth = 0 }; texts = [] }

module _ (kinds : Kinds) (types : Types) (f : Form) (limit : ℕ) (spot : Spot) (leaves : List Leaf) where
  -- how far the store has come
  pub record Filling (c : Content) (rows : Rows) (d : Content) (new : Rows) (j : ℕ) : Type 0 where
    pub can : CanFill kinds spot leaves d new
    pub is : (s : Setting) → s.given.cells ≡ limit
        → leaves_wrote s types f spot.object.birth spot.slot spot.word leaves (seen kinds c rows) ≡ leaves_wrote s types f spot.object.birth spot.slot spot.word (drop j leaves) (seen kinds d new)
    pub later : Later c d rows new
    pub births : d.births ≤ c.births + j
    pub clock : d.clock ≡ c.clock

  pub filling_begin : (c : Content) (rows : Rows) → CanFill kinds spot leaves c rows → Filling c rows c rows 0
  filling_begin c rows can = record { can = can; is = λ s cells. refl; later = later_same c c rows (omega arith); births = omega arith; clock = refl }

  pub filling_end : (c : Content) (rows : Rows) (d : Content) (new : Rows) (j : ℕ) → Filling c rows d new j → length leaves ≤ j → (s : Setting) → s.given.cells ≡ limit
      → Comes {A = Unit {0}} kinds (leaves_wrote s types f spot.object.birth spot.slot spot.word leaves (seen kinds c rows)) (Ok tt) d new
  filling_end c rows d new j p all s cells = (
    seen kinds d new,
    p.is s cells ∙ ap (λ ls. leaves_wrote s types f spot.object.birth spot.slot spot.word ls (seen kinds d new)) (drop_all j leaves all),
    record { housed = p.can.housed; is = refl },
  )

  module _ (c : Content) (rows : Rows) (d : Content) (new : Rows) (j : ℕ) (p : Filling c rows d new j) (l : Leaf) (here : slice_get leaves j ≡ Some l) where
    pub born_before : spot.object.birth < d.births
    born_before = p.can.housed.below spot.object.birth spot.object.row p.can.placed

    -- ---- there was no room

    pub filling_stops : (fault : BirthFault) (e : Content) (after : Rows)
        → ((s : Setting) → s.given.cells ≡ limit → IsFirst kinds (leaf_born s types f l.holds (seen kinds d new)) (kind_of l.holds) (Err fault) e after)
        → (s : Setting) → s.given.cells ≡ limit → Comes {A = Unit {0}} kinds (leaves_wrote s types f spot.object.birth spot.slot spot.word leaves (seen kinds c rows)) (Err fault) e after
    filling_stops birth_fault.Cells e after first s cells =
        p.is s cells
        ∙ ap (λ ls. leaves_wrote s types f spot.object.birth spot.slot spot.word ls (seen kinds d new)) (drop_here leaves j l here)
        ∙ ap (λ x. then_get (then_get x (λ v. Got (wrote spot.object.birth spot.slot (spot.word + l.word) (v.0 ∷ []) v.1))) (leaves_wrote s types f spot.object.birth spot.slot spot.word (drop (j + 1) leaves))) (first s cells)
    filling_stops birth_fault.NoMemory e after first s cells = tt

    -- ---- the word is there

    module _ (w : ℕ) (e : Content) (after : Rows) (later : Later d e new after)
        (first : (s : Setting) → s.given.cells ≡ limit → IsFirst kinds (leaf_born s types f l.holds (seen kinds d new)) (kind_of l.holds) (Ok w) e after) where
      there_then : (s : Setting) (cells : s.given.cells ≡ limit) → at (first s cells).1.objects spot.object.birth ≡ Some p.can.object
      there_then s cells = leaf_keeps s types f l.holds (seen kinds d new) (first s cells).1 (first s cells).0 spot.object.birth born_before (first s cells).2 ∙ p.can.there

      there_e : at (seen kinds e after).objects spot.object.birth ≡ Some p.can.object
      there_e = let x = first (some_setting limit) refl in ap (λ (y : Content). at y.objects spot.object.birth) x.3.is ∙ there_then (some_setting limit) refl

      housed_e : IsHoused kinds e after
      housed_e = let x = first (some_setting limit) refl in x.3.housed

      placed_e : at after spot.object.birth ≡ Some spot.object.row
      placed_e = still_placed kinds d e new after housed_e later spot.object.birth spot.object.row p.can.object born_before p.can.placed there_e

      pub now : IsSeenAs kinds e after spot.object p.can.object
      now = seen_as kinds e after spot.object p.can.object housed_e placed_e there_e

      pub word_there : IfSome (object_of e after spot.object) (HasWord spot.slot (spot.word + l.word))
      word_there =
          let s = count_seen kinds (names_of e after) now.object in
          let n : length (object_seen kinds (names_of e after) now.object).slots ≡ length p.can.object.slots = ap (λ (x : Object). length x.slots) now.same in
          let v : now.object.width ≡ p.can.object.width = ap (λ (x : Object). x.width) now.same in
          let o = p.can.within j l here in
          let k = p.can.slot in
          subst (λ x. IfSome x (HasWord spot.slot (spot.word + l.word))) (sym now.found) (record { has_slot = omega (arith, n, s, k); has_word = omega (arith, v, o) })

      pub kind_now : kinds now.object.ty (spot.word + l.word) ≡ kind_of l.holds
      kind_now = ap (λ (x : Object). kinds x.ty (spot.word + l.word)) now.same ∙ p.can.own j l here

      module _ (h : Content) (last : Rows) (put : IfSome (object_of e after spot.object) (λ o. h ≡ with_object spot.object.birth (with_word spot.slot (spot.word + l.word) w o) e)) (same : last ≡ after) where
        pub put_now : h ≡ with_object spot.object.birth (with_word spot.slot (spot.word + l.word) w now.object) e
        put_now = subst (λ x. IfSome x (λ o. h ≡ with_object spot.object.birth (with_word spot.slot (spot.word + l.word) w o) e)) now.found put

        module _ (s : Setting) (cells : s.given.cells ≡ limit) where
          shows : Shows kinds h last (with_object spot.object.birth (with_word spot.slot (spot.word + l.word) (first s cells).0 p.can.object) (first s cells).1)
          shows =
              let x = first s cells in
              let a = shows_put kinds e after housed_e h last spot.object spot.slot (spot.word + l.word) w x.0 now.object now.found
              (subst (λ k. WordLives (names_of e after) k w) (sym kind_now) x.4) (ap (λ k. word_seen (names_of e after) k w) kind_now ∙ x.5) put_now same in
              record {
                housed = a.housed;
                is = a.is ∙ (λ i. with_object spot.object.birth (with_word spot.slot (spot.word + l.word) x.0 (now.same i)) (x.3.is i));
              }

          wrote_is : leaf_wrote s types f spot.object.birth spot.slot (spot.word + l.word) l.holds (seen kinds d new) ≡ Got (seen kinds h last)
          wrote_is =
              let x = first s cells in
              ap (λ y. then_get y (λ v. Got (wrote spot.object.birth spot.slot (spot.word + l.word) (v.0 ∷ []) v.1))) x.2
              ∙ ap (λ y. Got (wrote_if y spot.object.birth spot.slot (spot.word + l.word) (x.0 ∷ []) x.1)) (there_then s cells)
              ∙ ap (λ (y : Content). Got y) (sym shows.is)

        pub after_put : with_object spot.object.birth (with_word spot.slot (spot.word + l.word) (first (some_setting limit) refl).0 p.can.object) (first (some_setting limit) refl).1 ≡ seen kinds h last
        after_put = sym (shows (some_setting limit) refl).is

        count_put_in : (v : ℕ) → length (with_word spot.slot (spot.word + l.word) v p.can.object).slots ≡ length p.can.object.slots
        count_put_in v = ap (λ (x : Object). length x.slots) (with_word_is spot.slot (spot.word + l.word) v p.can.object) ∙ count_put p.can.object.slots spot.slot (spot.word + l.word) v

        pub filling_next : e.births ≤ d.births + 1 → e.clock ≡ d.clock → Filling c rows h last (j + 1)
        filling_next births clock = record {
          can = record {
            housed = (shows (some_setting limit) refl).housed;
            placed = ap (λ (x : Rows). at x spot.object.birth) same ∙ placed_e;
            object = with_word spot.slot (spot.word + l.word) (first (some_setting limit) refl).0 p.can.object;
            there =
                ap (λ (x : Content). at x.objects spot.object.birth) (sym after_put)
                ∙ at-set_same (first (some_setting limit) refl).1.objects spot.object.birth spot.object.birth (with_word spot.slot (spot.word + l.word) (first (some_setting limit) refl).0 p.can.object) refl;
            slot = let n = count_put_in (first (some_setting limit) refl).0 in let k = p.can.slot in omega (arith, n, k);
            own = p.can.own;
            within = p.can.within;
            small = p.can.small;
          };
          is = λ s cells.
              p.is s cells
              ∙ ap (λ ls. leaves_wrote s types f spot.object.birth spot.slot spot.word ls (seen kinds d new)) (drop_here leaves j l here)
              ∙ ap (λ y. then_get y (leaves_wrote s types f spot.object.birth spot.slot spot.word (drop (j + 1) leaves))) (wrote_is s cells);
          later = later_then c d h rows new last p.later
              (record {
                births = let a = later.births in let b = ap (λ (x : Content). x.births) put_now in omega (arith, a, b);
                row = λ n k lt t. later.row n k lt (ap (λ (x : Rows). at x n) (sym same) ∙ t);
              });
          births = let a = p.births in let b = ap (λ (x : Content). x.births) put_now in omega (arith, a, b, births);
          clock = ap (λ (x : Content). x.clock) put_now ∙ clock ∙ p.clock;
        }
