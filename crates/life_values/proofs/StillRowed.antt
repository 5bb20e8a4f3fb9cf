-- Pointers in a store can be read still where a word that owns or a number is written, and where slots come and objects end.
use Rattle.std.proofs.Common.{◌≡◌, ℕ, Option, Some, None, IfSome, IsSome, ap, ◌∙◌}
use Rattle.life_types.specs.Types.{Types}
use Rattle.life_store.specs.Cells.{at, unset}
use Rattle.life_store.specs.Content.{Object, Content, with_resize, without}
use Rattle.life_store.specs.Kinds.{Owner}
use Rattle.life_store.specs.Parts.{parts_at}
use Rattle.life_store.specs.References.{Rows, object_of}
use Rattle.life_store.specs.declared.object.ObjRef.{ObjRef}
use Rattle.life_seen.specs.Housed.{IsHoused}
use Rattle.life_seen.specs.Kinds.{kinds_of, AreWhole, Kinds}
use Rattle.life_seen.specs.Rowed.{AreRowed}
use Rattle.life_seen.specs.Seen.{seen}
use Rattle.life_seen.proofs.Calls.{later_end}
use Rattle.life_seen.proofs.Rowed.{rowed_ended}
use Rattle.life_seen.proofs.WholePointers.{whole_pointers}
use Rattle.life_words.specs.Owning.{IsOwner}
use Rattle.life_words.proofs.Renaming.{none_is}
use Rattle.life_words.proofs.Rowing.{resized_still}
use Rattle.life_values.proofs.SeenAs.{seen_as, IsSeenAs}

pub are_whole : (types : Types) (o : Object) → AreWhole (kinds_of types o.ty)
are_whole types o u k = whole_pointers (parts_at types o.ty) u k

-- what is known of a step on a word that owns, wherever it lies
abbrev pub OwnerKeeps : (c : Content) (rows : Rows) → ObjRef → (word : ℕ) → (d : Content) (new : Rows) → Type 0
OwnerKeeps c rows r u d new = (kinds : Kinds) (o : Object) → IsOwner kinds c rows r u o → AreWhole (kinds o.ty) → AreRowed kinds c rows → AreRowed kinds d new

pub seen_keeps : (kinds : Kinds) → ((o : Object) → AreWhole (kinds o.ty)) → (c : Content) (rows : Rows) → IsHoused kinds c rows → (r : ObjRef) (o : Object) → IsSeenAs kinds c rows r o → (u : ℕ) → kinds o.ty u ≡ Owner
    → (d : Content) (new : Rows) → OwnerKeeps c rows r u d new → AreRowed kinds c rows → AreRowed kinds d new
seen_keeps kinds whole c rows housed r o now u owner d new keeps =
    keeps kinds now.object (record { housed = housed; there = now.found; owner = ap (λ (x : Object). kinds x.ty u) now.same ∙ owner }) (whole now.object)

pub owner_keeps : (types : Types) (c : Content) (rows : Rows) (r : ObjRef) (o : Object) → IsHoused (kinds_of types) c rows → at rows r.birth ≡ Some r.row → at (seen (kinds_of types) c rows).objects r.birth ≡ Some o
    → (u : ℕ) → kinds_of types o.ty u ≡ Owner → (d : Content) (new : Rows) → OwnerKeeps c rows r u d new → AreRowed (kinds_of types) c rows → AreRowed (kinds_of types) d new
owner_keeps types c rows r o housed placed there = seen_keeps (kinds_of types) (are_whole types) c rows housed r o (seen_as (kinds_of types) c rows r o housed placed there)

pub slots_keep : (kinds : Kinds) (c : Content) (rows : Rows) (r : ObjRef) (d : Content) (new : Rows) (size since : ℕ) (x : Option Object) → object_of c rows r ≡ x → IsSome x → IfSome x (λ o. d ≡ with_resize r.birth size since o c) → new ≡ rows
    → AreRowed kinds c rows → AreRowed kinds d new
slots_keep kinds c rows r d new size since None found some last same rowed = absurd (none_is some)
slots_keep kinds c rows r d new size since (Some o) found some last same rowed = resized_still kinds c rows rowed r o found d new size since last same

pub end_keeps : (kinds : Kinds) (c : Content) (rows : Rows) (r : ObjRef) (d : Content) (new : Rows) → d ≡ without r.birth c → new ≡ unset rows r.birth → AreRowed kinds c rows → AreRowed kinds d new
end_keeps kinds c rows r d new last gone rowed = rowed_ended c d rows new (later_end c rows d new r last gone) kinds r.birth rowed (ap (λ (x : Content). x.objects) last)
