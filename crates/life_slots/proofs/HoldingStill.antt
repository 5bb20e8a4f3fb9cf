-- What an owner or a location of a pointer is stays so where one word is written, and where a slot's object ends.
use Rattle.std.proofs.Common.{◌≡◌, ℕ, zero, suc, ◌+◌, ◌<◌, ◌≤◌, List, [], ◌∷◌, length, Option, Some, None, refl, sym, ap, subst, ◌∙◌, arith}
use Rattle.std.proofs.lemmas.List.{length-set}
use Rattle.std.proofs.lemmas.Option.{none-some, same_Some}
use Rattle.std.specs.Prelude.{slice_get}
use Rattle.life_types.specs.Types.{Types}
use Rattle.life_core.specs.Function.{Function}
use Rattle.life_core.specs.Operands.{Location}
use Rattle.life_seen.specs.Kinds.{kinds_of}
use Rattle.life_store.specs.Cells.{at, at-set_other, at-set_same}
use Rattle.life_store.specs.Content.{Slot, Object, Content, with_object}
use Rattle.life_store.specs.Effects.{put_content}
use Rattle.life_store.specs.Held.{wrote, wrote_if}
use Rattle.life_store.specs.Kinds.{Kind}
use Rattle.life_store.specs.State.{State}
use Rattle.life_store.proofs.MapLemmas.{one_or_apart}
use Rattle.life_forest.proofs.Puts.{put_in}
use Rattle.life_values.proofs.Owners.{count_put, with_word_is}
use Rattle.life_cells.specs.Typed.{Holds, LieIn}
use Rattle.life_slots.specs.Slots.{IsSlotPlace}

-- the first slot has as many words as before
first_long : (i w v : ℕ) (ss : List Slot) (s : Slot) → slice_get (put_in i w v ss) 0 ≡ Some s → (t : Slot) × (slice_get ss 0 ≡ Some t) × (length s.words ≡ length t.words)
first_long i w v [] s e = absurd (none-some s e)
first_long zero w v (t ∷ ts) s e = (t, refl, sym (ap (λ (x : Slot). length x.words) (same_Some _ s e)) ∙ length-set t.words w v)
first_long (suc i) w v (t ∷ ts) s e = (t, refl, sym (ap (λ (x : Slot). length x.words) (same_Some t s e)))

module _ (types : Types) (kind : Kind) (count n u : ℕ) (c : Content) (h : Holds types kind count n u c) (m i w v : ℕ) where
  at_it : (o : Object) → at c.objects m ≡ Some o → m ≡ n → Holds types kind count n u (with_object m (record o { slots = put_in i w v o.slots }) c)
  at_it o there same =
      let is : h.object ≡ o = same_Some h.object o (sym h.there ∙ sym (ap (at c.objects) same) ∙ there) in
      let slot : 0 < length o.slots = subst (λ (x : Object). 0 < length x.slots) is h.slot in
      let lies : LieIn u count o = subst (LieIn u count) is h.lies in
      let whole : (s : Slot) → slice_get o.slots 0 ≡ Some s → u + count ≤ length s.words = subst (λ (x : Object). (s : Slot) → slice_get x.slots 0 ≡ Some s → u + count ≤ length s.words) is h.whole in
      record {
        object = record o { slots = put_in i w v o.slots };
        there = at-set_same c.objects m n (record o { slots = put_in i w v o.slots }) same;
        slot = let l = count_put o.slots i w v in omega (arith, l, slot);
        lies = record { within = lies.within; small = lies.small };
        whole = λ s e. let f = first_long i w v o.slots s e in let l = f.2 in let k = whole f.0 f.1 in omega (arith, l, k);
        is = subst (λ (x : Object). kinds_of types x.ty u ≡ kind) is h.is;
      }

  apart : (o : Object) → (m ≡ n → ⊥) → Holds types kind count n u (with_object m o c)
  apart o ne = record {
    object = h.object;
    there = at-set_other c.objects m n o ne ∙ h.there;
    slot = h.slot;
    lies = h.lies;
    whole = h.whole;
    is = h.is;
  }

  pub holds_wrote : Holds types kind count n u (wrote m i w (v ∷ []) c)
  holds_wrote = go (at c.objects m) refl
    where
      go : (x : Option Object) → at c.objects m ≡ x → Holds types kind count n u (wrote_if x m i w (v ∷ []) c)
      go None e = h
      go (Some o) e =
          subst (λ (x : Object). Holds types kind count n u (with_object m x c)) (sym (with_word_is i w v o))
          (one_or_apart m n (λ same. at_it o e same) (λ ne. apart (record o { slots = put_in i w v o.slots }) ne))

-- .. of the operand of a slot
pub place_wrote : (types : Types) (f : Function) (l : Location) (st : State) (m i w v : ℕ) → IsSlotPlace types f l st → IsSlotPlace types f l (put_content (wrote m i w (v ∷ []) st.world.content) st)
place_wrote types f l st m i w v place = record {
  owner = λ e n named. holds_wrote types _ 1 n _ st.world.content (place.owner e n named) m i w v;
  pointer = λ e n some named. holds_wrote types _ 5 n _ st.world.content (place.pointer e n some named) m i w v;
}
