-- What is asked of a content for its objects to be copied: words that own name objects of the types that they say, and new objects can be counted.
use Rattle.std.specs.Prelude.{◌≡◌, ◌<◌, ◌≤◌, ◌+◌, ◌*◌, ◌^◌, ℕ, suc, Some}
use Rattle.life_types.specs.declared.ty.TyId.{TyId}
use Rattle.life_store.specs.Cells.{at}
use Rattle.life_store.specs.Content.{Object, Content, live_words_of, word_at}
use Rattle.life_store.specs.Kinds.{Owner}
use Rattle.life_forest.specs.Kinds.{Kinds}
use Rattle.life_forest.specs.Values.{AllWide}

-- what the word names was born, and has the type that the word says
pub record IsNaming (kind : Kinds) (c : Content) (ty : TyId) (u m : ℕ) : Type 0 where
  pub born : m < c.births
  pub type : (q : Object) → at c.objects m ≡ Some q → kind.owned ty u ≡ Some q.ty

pub record IsGood (kind : Kinds) (c : Content) (o : Object) : Type 0 where
  pub width : o.width ≡ kind.width o.ty
  pub long : AllWide o.width o.slots
  pub names : (i u m : ℕ) → kind.word o.ty u ≡ Owner → word_at o i u ≡ suc m → IsNaming kind c o.ty u m

-- each birth takes two live words at least, so the limit bounds them
pub record HasRoom (limit : ℕ) (c : Content) : Type 0 where
  pub within : live_words_of c ≤ limit
  pub births : 2 * c.births + limit + 2 < 2 ^ 64 + live_words_of c
  pub clock : 2 * c.clock + limit + 2 < 2 ^ 64 + live_words_of c

pub record AreGood (kind : Kinds) (limit : ℕ) (c : Content) : Type 0 where
  pub good : (n : ℕ) (o : Object) → at c.objects n ≡ Some o → IsGood kind c o
  pub born : (n : ℕ) (o : Object) → at c.objects n ≡ Some o → n < c.births
  pub room : HasRoom limit c
