-- What is asked of a word that owns.
use Rattle.std.specs.Prelude.{◌≡◌, ◌<◌, ◌+◌, ◌^◌, ℕ, Option, Some, None, IfSome, MatchOption}
use Rattle.life_store.specs.Cells.{at}
use Rattle.life_store.specs.Content.{Object, Content, with_object, with_word, word_at}
use Rattle.life_store.specs.Held.{owner_word}
use Rattle.life_store.specs.References.{Rows, object_of, IsFreeRow}
use Rattle.life_store.specs.declared.object.ObjRef.{ObjRef}
use Rattle.life_seen.specs.Housed.{IsHoused}
use Rattle.life_seen.specs.Kinds.{Kinds}
use Rattle.life_store.specs.Kinds.{Owner}
use Rattle.life_seen.specs.Named.{names_of}
use Rattle.life_seen.specs.Seen.{object_seen, seen}

-- the object lives, and the word of its slots owns
pub record IsOwner (kinds : Kinds) (c : Content) (rows : Rows) (r : ObjRef) (word : ℕ) (o : Object) : Type 0 where
  pub housed : IsHoused kinds c rows
  pub there : object_of c rows r ≡ Some o
  pub owner : kinds o.ty word ≡ Owner

-- the object in the row that the word names, if it names one
abbrev pub IsNamedBy : Rows → (word : ℕ) → Option ObjRef → Type 0
IsNamedBy rows word found =
    MatchOption found
    ((row : ℕ) → word ≡ row + 1 → row < 2 ^ 32 → IsFreeRow rows row)
    (λ r. (word ≡ r.row + 1) × (at rows r.birth ≡ Some r.row))

-- the object that is owned, if one is, as it is seen
abbrev pub Holds : Kinds → Content → Rows → (slot word : ℕ) → Object → Option ObjRef → Type 0
Holds kinds c rows slot word o owned =
    MatchOption owned
    (word_at (object_seen kinds (names_of c rows) o) slot word ≡ owner_word None)
    (λ q. (word_at (object_seen kinds (names_of c rows) o) slot word ≡ owner_word (Some q.birth)) × (at rows q.birth ≡ Some q.row))

-- the word as it is seen after a change
abbrev pub with_owner : Kinds → Content → Rows → ObjRef → (slot word : ℕ) → Object → Option ℕ → Content
with_owner kinds c rows r slot word o owned =
    with_object r.birth (with_word slot word (owner_word owned) (object_seen kinds (names_of c rows) o)) (seen kinds c rows)

abbrev pub number_of : ObjRef → ℕ
number_of r = r.birth

-- the word by which it is owned in the store
abbrev pub IsWordOf : Option ObjRef → (word : ℕ) → Type 0
IsWordOf owned word = MatchOption owned (word ≡ 0) (λ q. word ≡ q.row + 1)

-- what is to be owned lives
abbrev pub CanOwn : Rows → Option ObjRef → Type 0
CanOwn rows owned = IfSome owned (λ q. at rows q.birth ≡ Some q.row)
