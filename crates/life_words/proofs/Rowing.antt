-- Pointers in a store can be read still where a word that is no pointer's is written, and where slots come and numbers change.
use Rattle.std.proofs.Common.{◌≡◌, ◌+◌, ℕ, Option, Some, None, IfSome, IsSome, sym, ap, ◌∙◌, arith}
use Rattle.life_store.specs.Cells.{at, set, unset}
use Rattle.life_store.specs.Content.{Object, Content, resized, with_object, with_rename, with_resize, with_word}
use Rattle.life_store.specs.Kinds.{Kind, Plain, Owner, Pointing}
use Rattle.life_store.specs.References.{Rows, object_of}
use Rattle.life_store.specs.declared.object.ObjRef.{ObjRef}
use Rattle.life_seen.specs.Housed.{Later}
use Rattle.life_seen.specs.Kinds.{Kinds, AreWhole}
use Rattle.life_seen.specs.Rowed.{AreRowed}
use Rattle.life_seen.proofs.Calls.{later_rename}
use Rattle.life_seen.proofs.References.{found}
use Rattle.life_seen.proofs.Rowed.{put_rowed, resized_rowed, rowed_born, rowed_renamed, slots_rowed_later}
use Rattle.life_words.proofs.Renaming.{none_is}

pub owner_apart : {k : Kind} → k ≡ Owner → (i : ℕ) → k ≡ Pointing i → ⊥
owner_apart e i h = clash (sym e ∙ h)
  where
    clash : Owner ≡ Pointing i → ⊥
    clash x = cc

pub plain_apart : {k : Kind} → k ≡ Plain → (i : ℕ) → k ≡ Pointing i → ⊥
plain_apart e i h = clash (sym e ∙ h)
  where
    clash : Plain ≡ Pointing i → ⊥
    clash x = cc

same_later : (c d : Content) (rows new : Rows) → d.births ≡ c.births → new ≡ rows → Later c d rows new
same_later c d rows new births same = record { births = omega (arith, births); row = λ n k lt e. ap (λ (x : Rows). at x n) (sym same) ∙ e }

module _ (kinds : Kinds) (c : Content) (rows : Rows) (rowed : AreRowed kinds c rows) (r : ObjRef) (o : Object) (there : object_of c rows r ≡ Some o) (d : Content) (new : Rows) where
  pub put_still : (i u v : ℕ) → AreWhole (kinds o.ty) → ((k : ℕ) → kinds o.ty u ≡ Pointing k → ⊥) → d ≡ with_object r.birth (with_word i u v o) c → new ≡ rows → AreRowed kinds d new
  put_still i u v whole apart last same =
      let later = same_later c d rows new (ap (λ (x : Content). x.births) last) same in
      rowed_born c d rows new later kinds r.birth (with_word i u v o) rowed
      (slots_rowed_later c d rows new later (kinds o.ty) (with_word i u v o).slots (put_rowed c rows (kinds o.ty) whole o.slots i u v apart (rowed r.birth o (found c rows r o there).there)))
      (ap (λ (x : Content). x.objects) last)

  pub resized_still : (size since : ℕ) → d ≡ with_resize r.birth size since o c → new ≡ rows → AreRowed kinds d new
  resized_still size since last same =
      let later = same_later c d rows new (ap (λ (x : Content). x.births) last) same in
      let p : Object = resized (c.clock + 1) size since o in
      rowed_born c d rows new later kinds r.birth p rowed
      (slots_rowed_later c d rows new later (kinds o.ty) p.slots (resized_rowed c rows (kinds o.ty) o.width (c.clock + 1) size since o.slots (rowed r.birth o (found c rows r o there).there)))
      (ap (λ (x : Content). x.objects) last)

  pub renamed_still : (q : ObjRef) → q.birth ≡ c.births → d ≡ with_rename r.birth o c → new ≡ set (unset rows r.birth) q.birth q.row → AreRowed kinds d new
  renamed_still q number last placed =
      rowed_renamed c d rows new (later_rename c rows d new r q o number last placed) kinds r.birth c.births o rowed (found c rows r o there).there (ap (λ (x : Content). x.objects) last)

pub rowed_renumbered : (kinds : Kinds) (c d : Content) (rows new : Rows) (r q : ObjRef) (x : Option Object) → object_of c rows r ≡ x → IsSome x → IfSome x (λ o. d ≡ with_rename r.birth o c) → q.birth ≡ c.births
    → new ≡ set (unset rows r.birth) q.birth q.row → AreRowed kinds c rows → AreRowed kinds d new
rowed_renumbered kinds c d rows new r q None there some is number placed rowed = absurd (none_is some)
rowed_renumbered kinds c d rows new r q (Some o) there some is number placed rowed = renamed_still kinds c rows rowed r o there d new q number is placed
