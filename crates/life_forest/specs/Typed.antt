-- What the words of all objects are: each slot has those of its object's type, and an owner's word owns an object of the type that it names.
use Rattle.std.specs.Prelude.{◌≡◌, ℕ, suc, Some}
use Rattle.life_types.specs.Types.{Types}
use Rattle.life_store.specs.Cells.{at}
use Rattle.life_store.specs.Content.{Object, Content, word_at}
use Rattle.life_forest.specs.Kinds.{Kinds, kinds_of}
use Rattle.life_store.specs.Kinds.{Owner}
use Rattle.life_forest.specs.Forest.{IsForest}
use Rattle.life_forest.specs.Values.{AllWide}

pub record IsFit (kind : Kinds) (c : Content) (o : Object) : Type 0 where
  pub owned : (i u m : ℕ) (q : Object) → kind.word o.ty u ≡ Owner → word_at o i u ≡ suc m → at c.objects m ≡ Some q → kind.owned o.ty u ≡ Some q.ty
  pub width : o.width ≡ kind.width o.ty
  pub slots : AllWide o.width o.slots

abbrev pub AreFit : Kinds → Content → Type 0
AreFit kind c = (n : ℕ) (o : Object) → at c.objects n ≡ Some o → IsFit kind c o

-- what holds of every content of a run, with these in the hand
pub record IsStore (types : Types) (hand : ℕ → ℕ) (c : Content) : Type 0 where
  pub forest : IsForest (kinds_of types) hand c
  pub fit : AreFit (kinds_of types) c
