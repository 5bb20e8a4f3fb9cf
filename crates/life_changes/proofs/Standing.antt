-- What a frame that stands still has behind a change: its pointers in members, and where another is written, that all lives within the limit.
use Rattle.std.proofs.Common.{◌≡◌, ℕ, List, [], ◌∷◌, length, Option, Some, None, refl, sym, ap, ◌∙◌, arith}
use Rattle.std.proofs.lemmas.Option.{none-some, same_Some}
use Rattle.std.specs.Prelude.{slice_get}
use Rattle.life_types.specs.Types.{Types}
use Rattle.life_core.specs.Function.{Function}
use Rattle.life_core.specs.Operands.{Location}
use Rattle.life_store.specs.Cells.{at}
use Rattle.life_store.specs.Content.{Slot, Object, Content}
use Rattle.life_store.specs.Effects.{cell, put_content}
use Rattle.life_store.specs.Held.{pointer_words, wrote}
use Rattle.life_store.specs.Parts.{local_type, width_at, word_within}
use Rattle.life_store.specs.Places.{member_pointed, pointed}
use Rattle.life_store.specs.State.{Pointer, Cell, Empty, Named, Number, Points, State}
use Rattle.life_store.proofs.CellLemmas.{some_same}
use Rattle.life_forest.specs.FrameTypes.{Stands}
use Rattle.life_forest.specs.Frames.{OnNext}
use Rattle.life_forest.specs.Values.{AllWide}
use Rattle.life_seen.specs.Kinds.{kinds_of}
use Rattle.life_cells.specs.Typed.{member_of, HoldsPointer}
use Rattle.life_changes.specs.Bounded.{IsBounded}
use Rattle.life_changes.proofs.Counted.{counted_wrote}

wide_first : (n : ℕ) (ss : List Slot) (s : Slot) → AllWide n ss → slice_get ss 0 ≡ Some s → length s.words ≡ n
wide_first n [] s h e = absurd (none-some s e)
wide_first n (x ∷ xs) s h e = sym (ap (λ (t : Slot). length t.words) (same_Some x s e)) ∙ h.0

-- each variable has its type, so what is a member of it stands where it stood
pub holds_still : (types : Types) (f : Function) (rest : ℕ → ℕ) (l : Location) (st : State) (d : Content) → Stands types f rest st → Stands types f rest (put_content d st) → HoldsPointer types f l st → HoldsPointer types f l (put_content d st)
holds_still types f rest l st d before behind holds = λ n some named.
    let was = holds n some named in
    let old = before.frame.objects l.local n named in
    let new = behind.frame.objects l.local n named in
    let typed = some_same (sym new.type ∙ old.type) ∙ ap (λ (o : Object). o.ty) (some_same (sym old.there ∙ was.there)) in
    let fit = behind.store.fit n new.object new.there in
    let wide = fit.width ∙ ap (width_at types) typed ∙ sym (before.store.fit n was.object was.there).width in
    record {
      object = new.object;
      there = new.there;
      slot = let one = ap length new.one in omega (arith, one);
      lies = record { within = let w = was.lies.within in omega (arith, w, wide); small = let w = was.lies.small in omega (arith, w, wide) };
      whole = λ s e. let long = wide_first new.object.width new.object.slots s fit.slots e in let w = was.lies.within in omega (arith, long, w, wide);
      is = ap (λ t. kinds_of types t (member_of types f l)) typed ∙ was.is;
    }

-- ---- a location is given a pointer

module _ (types : Types) (f : Function) (rest : ℕ → ℕ) (limit : ℕ) (st : State) (stands : Stands types f rest st) (bounded : IsBounded limit st.world.content) where
  written : (n w : ℕ) (vs : List ℕ) (o : Object) → at st.world.content.objects n ≡ Some o → IsBounded limit (wrote n 0 w vs st.world.content)
  written n w vs o there =
      (counted_wrote limit st.world.content n o.capacity 0 0 n 0 w vs st.world.content (record {
        births = omega arith;
        clock = omega arith;
        bounded = bounded;
        old = stands.store.forest.births n o there;
        same = λ q e. ap (λ (x : Object). x.capacity) (some_same (sym e ∙ there));
      })).bounded

  pub pointed_bounded : (l : Location) (p : Pointer) → OnNext (pointed types f l p st) (λ after. IsBounded limit after.world.content)
  pointed_bounded l p = go l.members (cell st l.local) refl
    where
      go : (ms : List ℕ) (v : Option Cell) → cell st l.local ≡ v → OnNext (member_pointed types f l.local ms v p st) (λ after. IsBounded limit after.world.content)
      go [] v e = bounded
      go (m ∷ ms) None e = tt
      go (m ∷ ms) (Some Empty) e = tt
      go (m ∷ ms) (Some (Number z)) e = tt
      go (m ∷ ms) (Some (Points q)) e = tt
      go (m ∷ ms) (Some (Named n)) e =
          let v = stands.frame.objects l.local n e in
          written n (word_within types (local_type types f l.local) (m ∷ ms)) (pointer_words p) v.object v.there
