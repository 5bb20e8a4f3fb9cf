-- When the words of a store stand for a content: each object that lives has a row of its own, and what owns names a row with an object.
use Rattle.std.specs.Prelude.{◌≡◌, ◌<◌, ◌≤◌, ◌^◌, ℕ, zero, suc, List, [], ◌∷◌, Some}
use Rattle.life_store.specs.Cells.{at}
use Rattle.life_store.specs.Content.{Slot, Object, Content}
use Rattle.life_store.specs.References.{Rows}
use Rattle.life_store.specs.declared.object.ObjRef.{ObjRef}
use Rattle.life_seen.specs.Kinds.{Kinds}
use Rattle.life_store.specs.Kinds.{Kind, Plain, Owner, Pointing}
use Rattle.life_seen.specs.Named.{Names, names_of, AreApart}
use Rattle.life_seen.specs.Seen.{seen}

abbrev pub RowLives : Names → ℕ → Type 0
RowLives names zero = Unit {0}
RowLives names (suc row) = (n : ℕ) × (at names row ≡ Some n)

abbrev pub WordLives : Names → Kind → ℕ → Type 0
WordLives names Plain w = Unit {0}
WordLives names Owner w = RowLives names w
WordLives names (Pointing i) w = Unit {0}

abbrev pub WordsLive : Names → (ℕ → Kind) → List ℕ → Type 0
WordsLive names f [] = Unit {0}
WordsLive names f (w ∷ ws) = WordLives names (f 0) w × WordsLive names (λ u. f (suc u)) ws

abbrev pub SlotsLive : Names → (ℕ → Kind) → List Slot → Type 0
SlotsLive names f [] = Unit {0}
SlotsLive names f (s ∷ ss) = WordsLive names f s.words × SlotsLive names f ss

-- by the number in each row
pub record IsNamed (kinds : Kinds) (names : Names) (c : Content) : Type 0 where
  pub row : (n : ℕ) (o : Object) → at c.objects n ≡ Some o → (k : ℕ) × (at names k ≡ Some n)
  pub lives : (k n : ℕ) → at names k ≡ Some n → (o : Object) × (at c.objects n ≡ Some o)
  pub one : (j k n : ℕ) → at names j ≡ Some n → at names k ≡ Some n → j ≡ k
  pub below : (k n : ℕ) → at names k ≡ Some n → n < c.births
  pub owners : (n : ℕ) (o : Object) → at c.objects n ≡ Some o → SlotsLive names (kinds o.ty) o.slots

-- by the row of each number
pub record IsHoused (kinds : Kinds) (c : Content) (rows : Rows) : Type 0 where
  pub apart : AreApart rows
  pub below : (n k : ℕ) → at rows n ≡ Some k → n < c.births
  pub small : (n k : ℕ) → at rows n ≡ Some k → k < 2 ^ 32
  pub named : IsNamed kinds (names_of c rows) c

-- a store with these rows is housed, and stands for this content
pub record Shows (kinds : Kinds) (c : Content) (rows : Rows) (meant : Content) : Type 0 where
  pub housed : IsHoused kinds c rows
  pub is : seen kinds c rows ≡ meant

-- what is referred to was born, and has the row while it lives
pub record IsRef (c : Content) (rows : Rows) (r : ObjRef) : Type 0 where
  pub born : r.birth < c.births
  pub row : (k : ℕ) → at rows r.birth ≡ Some k → k ≡ r.row

-- rows were given to new objects alone, or taken away: what was referred to still is
pub record Later (c d : Content) (rows new : Rows) : Type 0 where
  pub births : c.births ≤ d.births
  pub row : (n k : ℕ) → n < c.births → at new n ≡ Some k → at rows n ≡ Some k
