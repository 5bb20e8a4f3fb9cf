-- Rows that fit a type, and the object that is filled with them.
use Rattle.std.proofs.Common.{◌≡◌, ℕ, ◌<◌, List, [], ◌∷◌, Some, refl, sym, ap, subst, ◌∙◌, inl, inr, ⊎_elim}
use Rattle.life_store.specs.Cells.{at}
use Rattle.life_store.specs.Content.{Object, Content}
use Rattle.life_store.specs.Held.{filled, filled_slots}
use Rattle.life_store.specs.Parts.{Parts}
use Rattle.life_forest.specs.Kinds.{Kinds, owned_type}
use Rattle.life_store.specs.Kinds.{Owner, kind_in}
use Rattle.life_forest.specs.Owned.{times}
use Rattle.life_forest.specs.Typed.{AreFit, IsFit}
use Rattle.life_forest.specs.Values.{owned_rows}
use Rattle.life_forest.proofs.Among.{InRows, among-filled, from_among, rows_counted, to_among}
use Rattle.life_forest.proofs.Filling.{filled_is, full}
use Rattle.life_forest.proofs.Fitting.{Flat, KeepsTypes, fit_with}
use Rattle.life_forest.proofs.Widths.{AllLong, wide-filled}

abbrev pub RowsFlat : Content → Parts → List (List ℕ) → Type 0
RowsFlat c p vs = (u m : ℕ) (q : Object) → kind_in p u ≡ Owner → InRows vs u m → at c.objects m ≡ Some q → owned_type p u ≡ Some q.ty

pub rows_later : (c d : Content) (p : Parts) (vs : List (List ℕ)) → ((m : ℕ) → 0 < times (owned_rows p vs) m → (x : Object) × (at c.objects m ≡ Some x)) → KeepsTypes c d → RowsFlat c p vs → RowsFlat d p vs
rows_later c d p vs living keeps flat u m q k e there =
    let x = living m (rows_counted p vs u m k e) in
    flat u m x.0 k e x.1 ∙ ap Some (keeps m x.0 q x.1 there)

pub rows_none : (c : Content) (p : Parts) → RowsFlat c p []
rows_none c p u m q k e there = absurd e

pub rows_more : (c : Content) (p : Parts) (v : List ℕ) (vs : List (List ℕ)) → Flat c p v → RowsFlat c p vs → RowsFlat c p (v ∷ vs)
rows_more c p v vs one more u m q k (inl e) there = one u m q k e there
rows_more c p v vs one more u m q k (inr h) there = more u m q k h there

module _ (kind : Kinds) (c : Content) (n : ℕ) (o : Object) (p : Parts) (vs : List (List ℕ)) (there : at c.objects n ≡ Some o) (kinds : (u : ℕ) → kind.word o.ty u ≡ kind_in p u) (names : (u : ℕ) → kind.owned o.ty u ≡ owned_type p u) where
  pub fit_full : RowsFlat c p vs → AllLong o.width vs → IsFit kind c o → IsFit kind c (record o { slots = filled_slots o.slots vs })
  fit_full flat long h = record {
    owned = λ i u m q k e is. ⊎_elim
        (λ a. let r = from_among o.slots u m a in h.owned r.0 u m q k r.1 is)
        (λ b. names u ∙ flat u m q (sym (kinds u) ∙ k) b is)
        (among-filled o.slots vs u m (to_among (filled_slots o.slots vs) i u m e));
    width = h.width;
    slots = wide-filled o.width o.slots vs h.slots long;
  }

  pub fit_filled : RowsFlat c p vs → AllLong o.width vs → AreFit kind c → AreFit kind (filled n vs c)
  fit_filled flat long fit = subst (AreFit kind) (sym (filled_is c n o vs there)) (fit_with kind c n o (full c n o vs there) there refl fit (fit_full flat long (fit n o there)))
