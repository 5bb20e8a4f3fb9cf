-- An object that a reference finds, as it lies in the store and as it is seen.
use Rattle.std.proofs.Common.{◌≡◌, Some, sym, ◌∙◌}
use Rattle.std.proofs.lemmas.Option.{same_Some}
use Rattle.life_store.specs.Cells.{at}
use Rattle.life_store.specs.Content.{Object, Content}
use Rattle.life_store.specs.References.{Rows, object_of}
use Rattle.life_store.specs.declared.object.ObjRef.{ObjRef}
use Rattle.life_seen.specs.Housed.{IsHoused}
use Rattle.life_seen.specs.Kinds.{Kinds as Seen}
use Rattle.life_seen.specs.Named.{names_of}
use Rattle.life_seen.specs.Seen.{object_seen, seen}
use Rattle.life_seen.proofs.Contents.{seen_at}
use Rattle.life_seen.proofs.References.{of_found, placed_lives}

pub record IsSeenAs (kinds : Seen) (c : Content) (rows : Rows) (r : ObjRef) (o : Object) : Type 0 where
  pub object : Object
  pub found : object_of c rows r ≡ Some object
  pub same : object_seen kinds (names_of c rows) object ≡ o

pub seen_as : (kinds : Seen) (c : Content) (rows : Rows) (r : ObjRef) (o : Object) → IsHoused kinds c rows → at rows r.birth ≡ Some r.row → at (seen kinds c rows).objects r.birth ≡ Some o → IsSeenAs kinds c rows r o
seen_as kinds c rows r o housed placed there =
    let l = placed_lives kinds c rows housed r.birth r.row placed in
    record {
      object = l.0;
      found = of_found c rows r l.0 (record { there = l.1; placed = placed });
      same = same_Some _ _ (sym (seen_at kinds (names_of c rows) c r.birth l.0 l.1) ∙ there);
    }
