-- What a word that owns holds.
use Rattle.std.proofs.Common.{◌≡◌, ℕ, Option, Some, None, Result, Ok, sym, ap, ◌∙◌}
use Rattle.std.specs.Prelude.{option_map}
use Rattle.life_store.specs.Content.{Object, Content, with_object, with_word, word_at}
use Rattle.life_store.specs.References.{Rows}
use Rattle.life_store.specs.declared.object.ObjRef.{ObjRef}
use Rattle.life_seen.specs.Housed.{Shows}
use Rattle.life_seen.specs.Kinds.{Kinds}
use Rattle.life_seen.proofs.OwnerWords.{owns_living, owns_none, shows_owned, shows_taken}
use Rattle.life_words.specs.Owning.{number_of, with_owner, CanOwn, Holds, IsNamedBy, IsOwner, IsWordOf}

pub same_ok : {A B : Type 0} {x y : A} → ◌≡◌ {A = Result A B} (Ok x) (Ok y) → x ≡ y
same_ok e = cc

module _ (kinds : Kinds) (c : Content) (rows : Rows) (r : ObjRef) (slot word : ℕ) (o : Object) (is : IsOwner kinds c rows r word o) where
  pub holds : (held : ℕ) → word_at o slot word ≡ held → (found : Option ObjRef) → IsNamedBy rows held found → Holds kinds c rows slot word o found
  holds held e None free = owns_none kinds c rows is.housed r slot word o is.there is.owner (λ k h. free k (sym e ∙ h))
  holds held e (Some q) named = (owns_living kinds c rows is.housed r slot word o is.there is.owner q (e ∙ named.0) named.1, named.1)

  pub taken_out : (d : Content) (new : Rows) → d ≡ with_object r.birth (with_word slot word 0 o) c → new ≡ rows → Shows kinds d new (with_owner kinds c rows r slot word o None)
  taken_out d new last same = shows_taken kinds c rows is.housed r slot word o is.there is.owner d new last same

  pub put_in : (owned : Option ObjRef) (v : ℕ) → CanOwn rows owned → IsWordOf owned v → (d : Content) (new : Rows) → d ≡ with_object r.birth (with_word slot word v o) c → new ≡ rows
      → Shows kinds d new (with_owner kinds c rows r slot word o (option_map number_of owned))
  put_in None v can e d new last same = taken_out d new (last ∙ ap (λ x. with_object r.birth (with_word slot word x o) c) e) same
  put_in (Some q) v can e d new last same = shows_owned kinds c rows is.housed r slot word o is.there is.owner d new q v e can last same
