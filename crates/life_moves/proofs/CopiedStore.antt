-- Behind the copy of an object the store is one of a run still, with the copy in the hand.
use Rattle.std.proofs.Common.{◌≡◌, ℕ, suc, ◌+◌, ◌<◌, true, List, [], ◌∷◌, Some, refl, sym, ap, subst, ◌∙◌, arith}
use Rattle.std.proofs.lemmas.Option.{same_Some}
use Rattle.std.specs.Prelude.{◌&&◌}
use Rattle.life_types.specs.Trees.{IsOrdered}
use Rattle.life_types.specs.Types.{Types}
use Rattle.life_store.specs.Cells.{at}
use Rattle.life_store.specs.Content.{Object, Content, word_at}
use Rattle.life_store.specs.Effects.{Setting, Got, then_get}
use Rattle.life_store.specs.Held.{owner_word}
use Rattle.life_store.specs.Kinds.{Kind, Owner, is_owner}
use Rattle.life_store.specs.Owners.{copied, copied_buffer}
use Rattle.life_store.specs.Parts.{Parts, Vector, parts_at, width}
use Rattle.life_forest.specs.Kinds.{kinds_of, rank_of}
use Rattle.life_forest.specs.Owned.{alive_if, every, times}
use Rattle.life_forest.specs.Typed.{AreFit, IsStore}
use Rattle.life_forest.specs.Values.{IsOf, Known}
use Rattle.life_forest.proofs.Among.{slots_counted, to_among}
use Rattle.life_forest.proofs.Below.{lives}
use Rattle.life_forest.proofs.Coming.{Came, CameWords}
use Rattle.life_forest.proofs.Copying.{buffer_copied, copied_came}
use Rattle.life_forest.proofs.Counting.{one_there}
use Rattle.life_forest.proofs.FromTypes.{known_from, object_known}
use Rattle.life_forest.proofs.Laying.{laid_at, made_at}
use Rattle.life_forest.proofs.Steps.{owned_held}
use Rattle.life_values.specs.Copied.{copied_number}
use Rattle.life_values.specs.Copyable.{HasCopy}
use Rattle.life_values.specs.Good.{AreGood, HasRoom}
use Rattle.life_values.specs.Layouts.{owners_at, AreLaid}
use Rattle.life_values.specs.declared.layout.Layout.{Layout}
use Rattle.life_values.proofs.CopiedAside.{owned_words}
use Rattle.life_values.proofs.CopiedGood.{got_is, Copied}
use Rattle.life_values.proofs.CopiedMeant.{buffer_meant}
use Rattle.life_values.proofs.CopyableFromTypes.{is_readable}
use Rattle.life_values.proofs.OneOwner.{owners_by_parts}
use Rattle.life_values.proofs.Recopying.{copies_good}

module _ (types : Types) (hand : ℕ → ℕ) (c : Content) (store : IsStore types hand c) where
  -- what a word owns lives
  pub owned_lives : (n : ℕ) (o : Object) → at c.objects n ≡ Some o → (i u m : ℕ) → (kinds_of types).word o.ty u ≡ Owner → word_at o i u ≡ suc m → (x : Object) × (at c.objects m ≡ Some x)
  owned_lives n o there i u m owner e =
      let own = slots_counted (λ v. is_owner ((kinds_of types).word o.ty v) && every v) o.slots u m (to_among o.slots i u m e) (ap (λ (k : Kind). is_owner k && true) owner) in
      let l = owned_held (kinds_of types) c n m o there in
      let h = store.forest.held m in
      lives (kinds_of types) c m (omega (arith, own, l, h))

  pub good_store : (limit : ℕ) → HasRoom limit c → AreGood (kinds_of types) limit c
  good_store limit room = record {
    good = λ n o there.
        let fit = store.fit n o there in
        record {
          width = fit.width;
          long = fit.slots;
          names = λ i u m owner e. record { born = let x = owned_lives n o there i u m owner e in store.forest.births m x.0 x.1; type = λ q at_q. fit.owned i u m q owner e at_q };
        };
    born = store.forest.births;
    room = room;
  }

pub fit_good : (types : Types) (limit : ℕ) (c : Content) → AreGood (kinds_of types) limit c → AreFit (kinds_of types) c
fit_good types limit c good n o there =
    let g = good.good n o there in
    record {
      owned = λ i u m q owner e at_q. (g.names i u m owner e).type q at_q;
      width = g.width;
      slots = g.long;
    }

module _ (types : Types) (ordered : IsOrdered types) (hand : ℕ → ℕ) (c : Content) (store : IsStore types hand c) (layouts : List Layout) (laid : AreLaid types layouts) (limit depth : ℕ) (room : HasRoom limit c) (s : Setting) (cells : s.given.cells ≡ limit)
    (q : ℕ) (x : Object) (there : at c.objects q ≡ Some x) (has : HasCopy (parts_at types x.ty)) (low : rank_of types x.ty < depth) where
  abbrev p : Parts
  p = parts_at types x.ty

  -- as the meaning copies it
  pub by_number : copied_buffer s x.ty (width (parts_at types x.ty)) (copied s (parts_at types x.ty)) (Some q) c ≡ then_get (copied_number s (owners_at layouts) depth q c) owned_words
  by_number = buffer_meant s types (owners_at layouts) (owners_by_parts types layouts laid) c depth x.ty p q low (is_readable types ordered hand c store q x there has)

  module _ (f : ℕ) (d : Content) (got : copied_number s (owners_at layouts) depth q c ≡ Got (f, d)) where
    pub copied_good : Copied (kinds_of types) limit q c (f, d)
    copied_good = got_is (copied_number s (owners_at layouts) depth q c) (Copied (kinds_of types) limit q c) (f, d) (copies_good types layouts laid ordered limit depth s cells q c (good_store types hand c store limit room)) got

    is_of : (o : Object) → at c.objects q ≡ Some o → IsOf (kinds_of types) p o (Known (kinds_of types) c p)
    is_of o at_q =
        subst (λ (y : Object). IsOf (kinds_of types) p y (Known (kinds_of types) c p)) (same_Some x o (sym there ∙ at_q))
        (object_known types ordered hand c store p (known_from types ordered hand c store (rank_of types x.ty) p (made_at types ordered x.ty)) q x there refl)

    came : Came (kinds_of types) (suc (rank_of types x.ty)) hand (f ∷ []) c d
    came =
        (got_is (copied_buffer s x.ty (width p) (copied s p) (Some q) c) (CameWords (kinds_of types) (suc (rank_of types x.ty)) hand (Vector x.ty p) c) (owner_word (Some f) ∷ [], d)
        (buffer_copied (kinds_of types) s (Vector x.ty p) p (suc (rank_of types x.ty)) x.ty (width p) (copied s p) (λ n. refl) refl (omega arith) (λ u. refl) (copied_came (kinds_of types) s p (rank_of types x.ty) (laid_at types ordered x.ty)) (Some q) hand c store.forest
        (store.forest.births q x there, is_of)
        (λ k lt. let e = one_there q k (omega (arith, lt)) in let a = ap alive_if (sym (ap (at c.objects) e) ∙ there) in omega (arith, a)))
        (by_number ∙ ap (λ z. then_get z owned_words) got)).0

    pub copied_store : IsStore types (λ k. times (f ∷ []) k + hand k) d
    copied_store = record { forest = came.forest; fit = fit_good types limit d copied_good.good }
