-- What is seen of a store goes along with its calls, by the number in each row.
use Rattle.std.proofs.Common.{◌≡◌, ◌≢◌, ℕ, suc, ◌+◌, Some, None, refl, sym, ap, subst, ◌∙◌, arith}
use Rattle.std.proofs.lemmas.Option.{none-some, same_Some}
use Rattle.std.specs.Prelude.{option_map}
use Rattle.life_types.specs.declared.ty.TyId.{TyId}
use Rattle.life_store.specs.Cells.{Cells, at, set, unset, at-set_same, at-set_other, at-unset_other}
use Rattle.life_store.specs.Content.{Object, Content, newborn, with_birth, with_object, with_rename, with_resize, with_word, resized, without}
use Rattle.life_store.proofs.MapLemmas.{one_or_apart}
use Rattle.life_seen.specs.Kinds.{Kinds}
use Rattle.life_seen.specs.Mapped.{mapped}
use Rattle.life_seen.specs.Named.{Names}
use Rattle.life_seen.specs.Seen.{word_seen, object_seen, content_seen}
use Rattle.life_seen.specs.Owned.{owner_if, IsUnowned}
use Rattle.life_seen.specs.Housed.{WordLives, SlotsLive, IsNamed}
use Rattle.life_seen.proofs.MapViews.{at-mapped, mapped_alike, mapped-set, mapped-unset, set_cases, unset_there}
use Rattle.life_seen.proofs.Resizing.{object_resized, resized_live}
use Rattle.life_seen.proofs.Views.{IsSeenAs, object_kept, object_put, object_put_lives}

module _ (kinds : Kinds) where
  -- what is seen at a number
  pub seen_at : (names : Names) (c : Content) (n : ℕ) (o : Object) → at c.objects n ≡ Some o → at (content_seen kinds names c).objects n ≡ Some (object_seen kinds names o)
  seen_at names c n o there = at-mapped (object_seen kinds names) c.objects n ∙ ap (option_map (object_seen kinds names)) there

  pub seen_none : (names : Names) (c : Content) (n : ℕ) → at c.objects n ≡ None → at (content_seen kinds names c).objects n ≡ None
  seen_none names c n none = at-mapped (object_seen kinds names) c.objects n ∙ ap (option_map (object_seen kinds names)) none

  -- ---- an object comes to life

  abbrev with_born : Object → Content → Content
  with_born o c = record { objects = set c.objects c.births o; births = c.births + 1; clock = c.clock }

  grown : (names : Names) (k b : ℕ) → at names k ≡ None → (j m : ℕ) → Unit {0} → at names j ≡ Some m → at (set names k b) j ≡ Some m
  grown names k b free j m u there = at-set_other names k j b (λ e. none-some m (sym free ∙ ap (at names) e ∙ there)) ∙ there

  born_kept : (names : Names) (k b : ℕ) → at names k ≡ None → (o : Object) → SlotsLive names (kinds o.ty) o.slots → IsSeenAs kinds names (set names k b) o
  born_kept names k b free o l = object_kept (λ m. Unit {0}) kinds names (set names k b) (grown names k b free) o l (λ i u m e. tt)

  seen_born : (names : Names) (c : Content) (k : ℕ) (o : Object) → IsNamed kinds names c → at names k ≡ None → SlotsLive names (kinds o.ty) o.slots
      → content_seen kinds (set names k c.births) (with_born o c) ≡ with_born (object_seen kinds names o) (content_seen kinds names c)
  seen_born names c k o h free l =
      let after : Names = set names k c.births in
      let put : Cells Object → Content = λ m. record { objects = m; births = c.births + 1; clock = c.clock } in
      ap put (mapped-set (object_seen kinds after) c.objects c.births o
      ∙ ap (λ m. set m c.births (object_seen kinds after o))
      (mapped_alike (object_seen kinds after) (object_seen kinds names) c.objects (λ n p there. (born_kept names k c.births free p (h.owners n p there)).same))
      ∙ ap (set (mapped (object_seen kinds names) c.objects) c.births) (born_kept names k c.births free o l).same)

  named_born : (names : Names) (c : Content) (k : ℕ) (o : Object) → IsNamed kinds names c → at names k ≡ None → SlotsLive names (kinds o.ty) o.slots → IsNamed kinds (set names k c.births) (with_born o c)
  named_born names c k o h free l =
      let b : ℕ = c.births in
      record {
        row = λ n p there. set_cases c.objects b n o p there
            (λ e same. (k, at-set_same names k k b refl ∙ ap Some e))
            (λ ne old. let r = h.row n p old in (r.0, grown names k b free r.0 n tt r.1));
        lives = λ j n there. set_cases names k j b n there
            (λ e same. (o, at-set_same c.objects b n o same))
            (λ ne old. let q = h.lives j n old in (q.0, at-set_other c.objects b n o (λ e. absurd (omega (arith, h.below j n old, e))) ∙ q.1));
        one = λ i j n x y. set_cases names k i b n x
            (λ e same. set_cases names k j b n y
            (λ f same'. sym e ∙ f)
            (λ ne old. absurd (omega (arith, h.below j n old, same))))
            (λ ne old. set_cases names k j b n y
            (λ f same. absurd (omega (arith, h.below i n old, same)))
            (λ nf older. h.one i j n old older));
        below = λ j n there. set_cases names k j b n there (λ e same. omega (arith, same)) (λ ne old. omega (arith, h.below j n old));
        owners = λ n p there. set_cases c.objects b n o p there
            (λ e same. subst (λ (q : Object). SlotsLive (set names k b) (kinds q.ty) q.slots) same (born_kept names k b free o l).live)
            (λ ne old. (born_kept names k b free p (h.owners n p old)).live);
      }

  pub seen_birth : (names : Names) (c : Content) (k : ℕ) (ty : TyId) (width capacity : ℕ) → IsNamed kinds names c → at names k ≡ None
      → content_seen kinds (set names k c.births) (with_birth ty width capacity c) ≡ with_birth ty width capacity (content_seen kinds names c)
  seen_birth names c k ty width capacity h free = seen_born names c k (newborn ty width capacity c.clock) h free tt

  pub named_birth : (names : Names) (c : Content) (k : ℕ) (ty : TyId) (width capacity : ℕ) → IsNamed kinds names c → at names k ≡ None → IsNamed kinds (set names k c.births) (with_birth ty width capacity c)
  named_birth names c k ty width capacity h free = named_born names c k (newborn ty width capacity c.clock) h free tt

  -- ---- one that nothing owns ends

  left_over : (names : Names) (k n : ℕ) → at names k ≡ Some n → (j m : ℕ) → m ≢ n → at names j ≡ Some m → at (unset names k) j ≡ Some m
  left_over names k n at_k j m ne there = at-unset_other names k j (λ e. ne (same_Some m n (sym there ∙ ap (at names) (sym e) ∙ at_k))) ∙ there

  unowned_kept : (names : Names) (c : Content) (k n : ℕ) → IsNamed kinds names c → at names k ≡ Some n → IsUnowned kinds n (content_seen kinds names c)
      → (q : ℕ) (o : Object) → at c.objects q ≡ Some o → IsSeenAs kinds names (unset names k) o
  unowned_kept names c k n h at_k free q o there =
      object_kept (λ m. m ≢ n) kinds names (unset names k) (left_over names k n at_k) o (h.owners q o there)
      (λ i u m e same. free q i u (ap (λ x. owner_if kinds x i u) (seen_at names c q o there) ∙ e ∙ ap suc same))

  pub seen_end : (names : Names) (c : Content) (k n : ℕ) → IsNamed kinds names c → at names k ≡ Some n → IsUnowned kinds n (content_seen kinds names c)
      → content_seen kinds (unset names k) (without n c) ≡ without n (content_seen kinds names c)
  seen_end names c k n h at_k free =
      let put : Cells Object → Content = λ m. record { objects = m; births = c.births; clock = c.clock } in
      ap put (mapped-unset (object_seen kinds (unset names k)) c.objects n
      ∙ ap (λ m. unset m n) (mapped_alike (object_seen kinds (unset names k)) (object_seen kinds names) c.objects (λ q o there. (unowned_kept names c k n h at_k free q o there).same)))

  pub named_end : (names : Names) (c : Content) (k n : ℕ) → IsNamed kinds names c → at names k ≡ Some n → IsUnowned kinds n (content_seen kinds names c) → IsNamed kinds (unset names k) (without n c)
  named_end names c k n h at_k free = record {
    row = λ q o there. let old = unset_there c.objects n q o there in let r = h.row q o old.1 in (r.0, left_over names k n at_k r.0 q (λ e. old.0 (sym e)) r.1);
    lives = λ j q there.
        let old = unset_there names k j q there in let o = h.lives j q old.1 in
        (o.0, at-unset_other c.objects n q (λ e. old.0 (h.one k j n at_k (old.1 ∙ ap Some (sym e)))) ∙ o.1);
    one = λ i j q x y. h.one i j q (unset_there names k i q x).1 (unset_there names k j q y).1;
    below = λ j q there. h.below j q (unset_there names k j q there).1;
    owners = λ q o there. (unowned_kept names c k n h at_k free q o (unset_there c.objects n q o there).1).live;
  }

  -- ---- .. and has another number

  pub seen_rename : (names : Names) (c : Content) (k j n : ℕ) (o : Object) → IsNamed kinds names c → at names k ≡ Some n → at c.objects n ≡ Some o → IsUnowned kinds n (content_seen kinds names c)
      → at (unset names k) j ≡ None
      → content_seen kinds (set (unset names k) j c.births) (with_rename n o c) ≡ with_rename n (object_seen kinds names o) (content_seen kinds names c)
  seen_rename names c k j n o h at_k there free vacant =
      let kept = unowned_kept names c k n h at_k free n o there in
      seen_born (unset names k) (without n c) j o (named_end names c k n h at_k free) vacant kept.live
      ∙ ap (λ p. with_born p (content_seen kinds (unset names k) (without n c))) kept.same
      ∙ ap (with_born (object_seen kinds names o)) (seen_end names c k n h at_k free)

  pub named_rename : (names : Names) (c : Content) (k j n : ℕ) (o : Object) → IsNamed kinds names c → at names k ≡ Some n → at c.objects n ≡ Some o → IsUnowned kinds n (content_seen kinds names c)
      → at (unset names k) j ≡ None → IsNamed kinds (set (unset names k) j c.births) (with_rename n o c)
  named_rename names c k j n o h at_k there free vacant =
      named_born (unset names k) (without n c) j o (named_end names c k n h at_k free) vacant (unowned_kept names c k n h at_k free n o there).live

  -- ---- one changes its words or slots

  pub named_with : (names : Names) (c : Content) (n clock : ℕ) (o p : Object) → IsNamed kinds names c → at c.objects n ≡ Some o → SlotsLive names (kinds p.ty) p.slots
      → IsNamed kinds names (record { objects = set c.objects n p; births = c.births; clock = clock })
  named_with names c n clock o p h there live = record {
    row = λ q r t. set_cases c.objects n q p r t (λ e same. let w = h.row n o there in (w.0, w.1 ∙ ap Some e)) (λ ne old. h.row q r old);
    lives = λ k q t. one_or_apart n q
        (λ e. (p, at-set_same c.objects n q p e))
        (λ ne. let l = h.lives k q t in (l.0, at-set_other c.objects n q p ne ∙ l.1));
    one = h.one;
    below = h.below;
    owners = λ q r t. set_cases c.objects n q p r t
        (λ e same. subst (λ (x : Object). SlotsLive names (kinds x.ty) x.slots) same live)
        (λ ne old. h.owners q r old);
  }

  -- a word is written as what it is seen as
  pub seen_put : (names : Names) (c : Content) (n i u v : ℕ) (o : Object)
      → content_seen kinds names (with_object n (with_word i u v o) c) ≡ with_object n (with_word i u (word_seen names (kinds o.ty u) v) (object_seen kinds names o)) (content_seen kinds names c)
  seen_put names c n i u v o =
      let put : Cells Object → Content = λ m. record { objects = m; births = c.births; clock = c.clock } in
      ap put (mapped-set (object_seen kinds names) c.objects n (with_word i u v o) ∙ ap (set (mapped (object_seen kinds names) c.objects) n) (object_put kinds names o i u v))

  pub named_put : (names : Names) (c : Content) (n i u v : ℕ) (o : Object) → IsNamed kinds names c → at c.objects n ≡ Some o → WordLives names (kinds o.ty u) v → IsNamed kinds names (with_object n (with_word i u v o) c)
  named_put names c n i u v o h there new = named_with names c n c.clock o (with_word i u v o) h there (object_put_lives kinds names o i u v (h.owners n o there) new)

  pub seen_resize : (names : Names) (c : Content) (n size since : ℕ) (o : Object)
      → content_seen kinds names (with_resize n size since o c) ≡ with_resize n size since (object_seen kinds names o) (content_seen kinds names c)
  seen_resize names c n size since o =
      let put : Cells Object → Content = λ m. record { objects = m; births = c.births; clock = c.clock + 1 } in
      ap put (mapped-set (object_seen kinds names) c.objects n (resized (c.clock + 1) size since o)
      ∙ ap (set (mapped (object_seen kinds names) c.objects) n) (object_resized kinds names o (c.clock + 1) size since))

  pub named_resize : (names : Names) (c : Content) (n size since : ℕ) (o : Object) → IsNamed kinds names c → at c.objects n ≡ Some o → IsNamed kinds names (with_resize n size since o c)
  named_resize names c n size since o h there =
      named_with names c n (c.clock + 1) o (resized (c.clock + 1) size since o) h there (resized_live names (kinds o.ty) o.width (c.clock + 1) size since o.slots (h.owners n o there))
