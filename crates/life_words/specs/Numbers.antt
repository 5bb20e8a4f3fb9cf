-- What is asked of a word that is a number.
use Rattle.std.specs.Prelude.{◌≡◌, ◌<◌, ◌≤◌, ◌+◌, ℕ, List, Option, Some, IfSome, length}
use Rattle.life_store.specs.Content.{Object, Content, with_object}
use Rattle.life_store.specs.Held.{with_words}
use Rattle.life_store.specs.References.{Rows, object_of}
use Rattle.life_store.specs.declared.object.ObjRef.{ObjRef}
use Rattle.life_seen.specs.Housed.{IsHoused}
use Rattle.life_seen.specs.Kinds.{Kinds}
use Rattle.life_store.specs.Kinds.{Plain}

-- the object lives, and the word of its slots is a number
pub record IsPlain (kinds : Kinds) (c : Content) (rows : Rows) (r : ObjRef) (word : ℕ) (o : Object) : Type 0 where
  pub housed : IsHoused kinds c rows
  pub there : object_of c rows r ≡ Some o
  pub plain : kinds o.ty word ≡ Plain

-- the object has the slot, and so many words there from one on
pub record HasWords (slot word count : ℕ) (o : Object) : Type 0 where
  pub has_slot : slot < length o.slots
  pub has_words : word + count ≤ o.width

-- all that is known of a store in which such words were written
abbrev pub Wrote : Option Object → (n slot word : ℕ) → List ℕ → (before now : Content) → Type 0
Wrote found n slot word values before now = IfSome found (λ o. now ≡ with_object n (with_words slot word values o) before)
