-- A store that stands for a content stands for it still after each call, as the meaning changes it.
use Rattle.std.proofs.Common.{◌≡◌, ℕ, ◌+◌, ◌<◌, ◌^◌, Some, None, refl, sym, ap, subst, ◌∙◌, arith}
use Rattle.std.proofs.lemmas.Option.{same_Some}
use Rattle.life_types.specs.declared.ty.TyId.{TyId}
use Rattle.life_store.specs.Cells.{at, set, unset, at-set_same, at-set_other}
use Rattle.life_store.specs.Content.{Object, Content, with_birth, with_object, with_rename, with_resize, with_word, without}
use Rattle.life_store.specs.References.{Rows, object_of, IsFreeRow}
use Rattle.life_store.specs.declared.object.ObjRef.{ObjRef}
use Rattle.life_seen.specs.Kinds.{Kinds}
use Rattle.life_seen.specs.Named.{Names, names_of, inverted}
use Rattle.life_seen.specs.Seen.{word_seen, object_seen, content_seen, seen}
use Rattle.life_seen.specs.Owned.{IsUnowned}
use Rattle.life_seen.specs.Housed.{WordLives, IsNamed, IsHoused, Shows, IsRef, Later}
use Rattle.life_seen.proofs.Contents.{seen_birth, named_birth, seen_end, named_end, seen_rename, named_rename, seen_put, named_put, seen_resize, named_resize}
use Rattle.life_seen.proofs.MapViews.{set_cases, unset_there}
use Rattle.life_seen.proofs.Naming.{inverted_birth, inverted_free, inverted_end, apart_birth, apart_end}
use Rattle.life_seen.proofs.References.{found, number_in_row}

-- ---- references stay, and there is a new one

module _ (c : Content) (rows : Rows) where
  pub later_birth : (d : Content) (new : Rows) (r : ObjRef) (ty : TyId) (width capacity : ℕ) → r.birth ≡ c.births → d ≡ with_birth ty width capacity c → new ≡ set rows r.birth r.row → Later c d rows new
  later_birth d new r ty width capacity number last placed = record {
    births = let e = ap (λ (x : Content). x.births) last in omega (arith, e);
    row = λ n k lt e. sym (at-set_other rows r.birth n r.row (λ s. omega (arith, number, s, lt))) ∙ ap (λ (x : Rows). at x n) (sym placed) ∙ e;
  }

  pub ref_birth : (d : Content) (new : Rows) (r : ObjRef) (ty : TyId) (width capacity : ℕ) → r.birth ≡ c.births → d ≡ with_birth ty width capacity c → new ≡ set rows r.birth r.row → IsRef d new r
  ref_birth d new r ty width capacity number last placed = record {
    born = let e = ap (λ (x : Content). x.births) last in omega (arith, e, number);
    row = λ k e. same_Some k r.row (sym e ∙ ap (λ (x : Rows). at x r.birth) placed ∙ at-set_same rows r.birth r.birth r.row refl);
  }

  pub later_end : (d : Content) (new : Rows) (r : ObjRef) → d ≡ without r.birth c → new ≡ unset rows r.birth → Later c d rows new
  later_end d new r last gone = record {
    births = let e = ap (λ (x : Content). x.births) last in omega (arith, e);
    row = λ n k lt e. (unset_there rows r.birth n k (ap (λ (x : Rows). at x n) (sym gone) ∙ e)).1;
  }

  pub later_rename : (d : Content) (new : Rows) (r q : ObjRef) (o : Object) → q.birth ≡ c.births → d ≡ with_rename r.birth o c → new ≡ set (unset rows r.birth) q.birth q.row → Later c d rows new
  later_rename d new r q o number last placed = record {
    births = let e = ap (λ (x : Content). x.births) last in omega (arith, e);
    row = λ n k lt e. (unset_there rows r.birth n k (sym (at-set_other (unset rows r.birth) q.birth n q.row (λ s. omega (arith, number, s, lt))) ∙ ap (λ (x : Rows). at x n) (sym placed) ∙ e)).1;
  }

module _ (kinds : Kinds) (c : Content) (rows : Rows) (h : IsHoused kinds c rows) where
  -- ---- a birth

  abbrev names : Names
  names = names_of c rows

  born_names : (b k : ℕ) → b ≡ c.births → inverted (c.births + 1) (set rows b k) ≡ set names k c.births
  born_names b k e = ap (λ n. inverted (c.births + 1) (set rows n k)) e ∙ inverted_birth c.births k rows

  pub shows_birth : (d : Content) (new : Rows) (r : ObjRef) (ty : TyId) (width capacity : ℕ) → r.birth ≡ c.births → r.row < 2 ^ 32 → IsFreeRow rows r.row
      → d ≡ with_birth ty width capacity c → new ≡ set rows r.birth r.row
      → Shows kinds d new (with_birth ty width capacity (seen kinds c rows))
  shows_birth d new r ty width capacity number little free last placed =
      subst (λ x. Shows kinds x new (with_birth ty width capacity (seen kinds c rows))) (sym last)
      (subst (λ x. Shows kinds (with_birth ty width capacity c) x (with_birth ty width capacity (seen kinds c rows))) (sym placed)
      (let vacant = inverted_free c.births r.row rows free in
      let same = born_names r.birth r.row number in
      record {
        housed = record {
          apart = subst (λ n. (m p k : ℕ) → at (set rows n r.row) m ≡ Some k → at (set rows n r.row) p ≡ Some k → m ≡ p) (sym number) (apart_birth c.births r.row rows h.apart free);
          below = λ n k e. set_cases rows r.birth n r.row k e (λ b s. omega (arith, number, b)) (λ ne old. let l = h.below n k old in omega (arith, l));
          small = λ n k e. set_cases rows r.birth n r.row k e (λ b s. omega (arith, little, s)) (λ ne old. h.small n k old);
          named = subst (λ ns. IsNamed kinds ns (with_birth ty width capacity c)) (sym same) (named_birth kinds names c r.row ty width capacity h.named vacant);
        };
        is = ap (λ ns. content_seen kinds ns (with_birth ty width capacity c)) same ∙ seen_birth kinds names c r.row ty width capacity h.named vacant;
      }))

  -- ---- an end

  pub shows_end : (d : Content) (new : Rows) (r : ObjRef) (o : Object) → object_of c rows r ≡ Some o → IsUnowned kinds r.birth (seen kinds c rows)
      → d ≡ without r.birth c → new ≡ unset rows r.birth → Shows kinds d new (without r.birth (seen kinds c rows))
  shows_end d new r o there free last gone =
      subst (λ x. Shows kinds x new (without r.birth (seen kinds c rows))) (sym last)
      (subst (λ x. Shows kinds (without r.birth c) x (without r.birth (seen kinds c rows))) (sym gone)
      (let f = found c rows r o there in
      let named = number_in_row kinds c rows h r.birth r.row f.placed in
      let same : names_of (without r.birth c) (unset rows r.birth) ≡ unset names r.row = inverted_end c.births r.row r.birth rows h.apart (h.below r.birth r.row f.placed) f.placed in
      record {
        housed = record {
          apart = apart_end r.birth rows h.apart;
          below = λ n k e. h.below n k (unset_there rows r.birth n k e).1;
          small = λ n k e. h.small n k (unset_there rows r.birth n k e).1;
          named = subst (λ ns. IsNamed kinds ns (without r.birth c)) (sym same) (named_end kinds names c r.row r.birth h.named named free);
        };
        is = ap (λ ns. content_seen kinds ns (without r.birth c)) same ∙ seen_end kinds names c r.row r.birth h.named named free;
      }))

  -- ---- another number

  pub shows_rename : (d : Content) (new : Rows) (r q : ObjRef) (o : Object) → object_of c rows r ≡ Some o → IsUnowned kinds r.birth (seen kinds c rows)
      → q.birth ≡ c.births → q.row < 2 ^ 32 → IsFreeRow (unset rows r.birth) q.row → d ≡ with_rename r.birth o c → new ≡ set (unset rows r.birth) q.birth q.row
      → Shows kinds d new (with_rename r.birth (object_seen kinds (names_of c rows) o) (seen kinds c rows))
  shows_rename d new r q o there free number little vacant last placed =
      subst (λ x. Shows kinds x new (with_rename r.birth (object_seen kinds (names_of c rows) o) (seen kinds c rows))) (sym last)
      (subst (λ x. Shows kinds (with_rename r.birth o c) x (with_rename r.birth (object_seen kinds (names_of c rows) o) (seen kinds c rows))) (sym placed)
      (let f = found c rows r o there in
      let named = number_in_row kinds c rows h r.birth r.row f.placed in
      let ended : inverted c.births (unset rows r.birth) ≡ unset names r.row = inverted_end c.births r.row r.birth rows h.apart (h.below r.birth r.row f.placed) f.placed in
      let none : at (unset names r.row) q.row ≡ None = ap (λ (ns : Names). at ns q.row) (sym ended) ∙ inverted_free c.births q.row (unset rows r.birth) vacant in
      let same : inverted (c.births + 1) (set (unset rows r.birth) q.birth q.row) ≡ set (unset names r.row) q.row c.births =
      ap (λ n. inverted (c.births + 1) (set (unset rows r.birth) n q.row)) number ∙ inverted_birth c.births q.row (unset rows r.birth) ∙ ap (λ (ns : Names). set ns q.row c.births) ended in
      record {
        housed = record {
          apart = subst (λ n. (m p k : ℕ) → at (set (unset rows r.birth) n q.row) m ≡ Some k → at (set (unset rows r.birth) n q.row) p ≡ Some k → m ≡ p) (sym number)
              (apart_birth c.births q.row (unset rows r.birth) (apart_end r.birth rows h.apart) vacant);
          below = λ n k e. set_cases (unset rows r.birth) q.birth n q.row k e (λ b s. omega (arith, number, b)) (λ ne old. let l = h.below n k (unset_there rows r.birth n k old).1 in omega (arith, l));
          small = λ n k e. set_cases (unset rows r.birth) q.birth n q.row k e (λ b s. omega (arith, little, s)) (λ ne old. h.small n k (unset_there rows r.birth n k old).1);
          named = subst (λ ns. IsNamed kinds ns (with_rename r.birth o c)) (sym same) (named_rename kinds names c r.row q.row r.birth o h.named named f.there free none);
        };
        is = ap (λ ns. content_seen kinds ns (with_rename r.birth o c)) same ∙ seen_rename kinds names c r.row q.row r.birth o h.named named f.there free none;
      }))

  -- ---- slots and words

  pub shows_resize : (d : Content) (new : Rows) (r : ObjRef) (size since : ℕ) (o : Object) → object_of c rows r ≡ Some o → d ≡ with_resize r.birth size since o c → new ≡ rows
      → Shows kinds d new (with_resize r.birth size since (object_seen kinds (names_of c rows) o) (seen kinds c rows))
  shows_resize d new r size since o there last placed =
      subst (λ x. Shows kinds x new (with_resize r.birth size since (object_seen kinds (names_of c rows) o) (seen kinds c rows))) (sym last)
      (subst (λ x. Shows kinds (with_resize r.birth size since o c) x (with_resize r.birth size since (object_seen kinds (names_of c rows) o) (seen kinds c rows))) (sym placed)
      (record {
        housed = record { apart = h.apart; below = h.below; small = h.small; named = named_resize kinds names c r.birth size since o h.named (found c rows r o there).there };
        is = seen_resize kinds names c r.birth size since o;
      }))

  -- a word is written as what it is seen as
  pub shows_put : (d : Content) (new : Rows) (r : ObjRef) (i u v w : ℕ) (o : Object) → object_of c rows r ≡ Some o → WordLives (names_of c rows) (kinds o.ty u) v → word_seen (names_of c rows) (kinds o.ty u) v ≡ w
      → d ≡ with_object r.birth (with_word i u v o) c → new ≡ rows
      → Shows kinds d new (with_object r.birth (with_word i u w (object_seen kinds (names_of c rows) o)) (seen kinds c rows))
  shows_put d new r i u v w o there live meant last placed =
      subst (λ x. Shows kinds x new (with_object r.birth (with_word i u w (object_seen kinds (names_of c rows) o)) (seen kinds c rows))) (sym last)
      (subst (λ x. Shows kinds (with_object r.birth (with_word i u v o) c) x (with_object r.birth (with_word i u w (object_seen kinds (names_of c rows) o)) (seen kinds c rows))) (sym placed)
      (record {
        housed = record { apart = h.apart; below = h.below; small = h.small; named = named_put kinds names c r.birth i u v o h.named (found c rows r o there).there live };
        is = seen_put kinds names c r.birth i u v o ∙ ap (λ x. with_object r.birth (with_word i u x (object_seen kinds names o)) (seen kinds c rows)) meant;
      }))
