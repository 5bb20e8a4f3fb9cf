-- What ends by the kinds of its words is what the meaning ends by the parts of its type.
use Rattle.std.proofs.Common.{◌≡◌, ℕ, List, [], ◌∷◌, Some, sym, ap, ◌∙◌, arith}
use Rattle.std.specs.Prelude.{slice_get}
use Rattle.life_store.specs.Cells.{at}
use Rattle.life_store.specs.Content.{Slot, Content, without}
use Rattle.life_store.specs.Held.{slots_at, words_if}
use Rattle.life_store.specs.Owners.{ended, ended_object, ended_owned, ended_slots}
use Rattle.life_store.specs.Parts.{Parts}
use Rattle.life_store.specs.References.{Rows}
use Rattle.life_store.specs.declared.object.ObjRef.{ObjRef}
use Rattle.life_forest.specs.Kinds.{Kinds}
use Rattle.life_forest.specs.Values.{Known, OwnedKnown}
use Rattle.life_forest.proofs.Counting.{one_there}
use Rattle.life_seen.specs.Housed.{Shows}
use Rattle.life_seen.specs.Kinds.{Kinds as Seen}
use Rattle.life_seen.specs.Seen.{seen}
use Rattle.life_values.specs.Ended.{ended_number}
use Rattle.life_values.specs.Ending.{CanEnd}
use Rattle.life_values.proofs.Ends.{number_ended}

-- what owns no slot but one ends as an object that is a variable
pub one_slot : (p : Parts) (n : ℕ) (c : Content) (s : Slot) → slots_at c n ≡ s ∷ [] → ended_owned (ended p) (Some n) c ≡ ended_object p n c
one_slot p n c s e =
    ap (λ (ss : List Slot). without n (ended_slots (ended p) ss c)) e
    ∙ sym (ap (λ (ss : List Slot). without n (ended p (words_if (slice_get ss 0)) c)) e)

-- a buffer or a target
pub shows_meant : (kinds : Seen) (kind : Kinds) (depth : ℕ) (r : ObjRef) (c : Content) (rows : Rows) → CanEnd kinds kind depth r c rows
    → (p : Parts) → OwnedKnown kind (seen kinds c rows) p (Known kind (seen kinds c rows) p) (Some r.birth)
    → (d : Content) (new : Rows) → Shows kinds d new (ended_number kind depth r.birth (seen kinds c rows)) → Shows kinds d new (ended_owned (ended p) (Some r.birth) (seen kinds c rows))
shows_meant kinds kind depth r c rows can p known d new shows = record {
  housed = shows.housed;
  is = shows.is
      ∙ number_ended kind can.hand depth r.birth p (seen kinds c rows) can.forest
      (λ m q lt there. let e = one_there r.birth m (omega (arith, lt)) in can.deep q (ap (at (seen kinds c rows).objects) e ∙ there)) known;
}
