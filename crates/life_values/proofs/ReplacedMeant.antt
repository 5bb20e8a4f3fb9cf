-- Where a word takes another object, what it owned ends as the meaning ends it by the parts of its type. A string's old buffer just goes.
use Rattle.std.proofs.Common.{◌≡◌, ℕ, suc, ◌+◌, ◌≤◌, List, [], ◌∷◌, Option, Some, refl, sym, ap, ◌∙◌, arith}
use Rattle.life_types.specs.declared.ty.TyId.{TyId}
use Rattle.life_store.specs.Cells.{at}
use Rattle.life_store.specs.Content.{Slot, Object, Content, with_object, with_word, without}
use Rattle.life_store.specs.Edits.{owned_at, owns}
use Rattle.life_store.specs.Held.{owner_word, slots_at, words_at, wrote, wrote_if}
use Rattle.life_store.specs.Owners.{ended, ended_owned, ended_slots}
use Rattle.life_store.specs.Parts.{Parts, Text, width}
use Rattle.life_forest.specs.Forest.{IsForest}
use Rattle.life_forest.specs.Kinds.{Kinds}
use Rattle.life_forest.specs.Values.{Known}
use Rattle.life_values.specs.Ended.{ended_number}
use Rattle.life_values.specs.Layouts.{flat, owner_words}
use Rattle.life_values.specs.Replaced.{replaced_by}
use Rattle.life_values.specs.Zeroed.{zeroed}
use Rattle.life_values.proofs.EmptiedMeant.{emptied_meant, ended_beside, IsPlace}
use Rattle.life_values.proofs.ReadWords.{with_twice}
use Rattle.life_values.proofs.Zeros.{wrote_with}

-- characters own nothing
slots_stay : (ss : List Slot) (c : Content) → ended_slots (λ vs d. d) ss c ≡ c
slots_stay [] c = refl
slots_stay (s ∷ ss) c = slots_stay ss c

module _ (kind : Kinds) (depth n i : ℕ) (hand : ℕ → ℕ) (w : ℕ) (p : Parts) (m : Content) (o : Object) (there : at m.objects n ≡ Some o) (forest : IsForest kind hand m) (deep : kind.rank o.ty ≤ depth) (place : IsPlace kind depth n i w p o)
    (known : Known kind (with_object n (zeroed i w (owner_words (flat 0 p)) o) m) p (words_at m n i w (width p))) (one : owner_words (flat 0 p) ≡ 0 ∷ []) (f : ℕ) where
  -- the word was 0 for a moment
  object_is : with_word i w (suc f) (zeroed i w (owner_words (flat 0 p)) o) ≡ with_word i w (suc f) o
  object_is =
      let z : w + 0 ≡ w = omega arith in
      ap (λ us. with_word i w (suc f) (zeroed i w us o)) one
      ∙ ap (λ k. with_word i w (suc f) (with_word i k 0 o)) z
      ∙ with_twice i w 0 (suc f) o

  pub replaced_meant : replaced_by (ended_number kind depth) n i w (owner_words (flat 0 p)) f m ≡ wrote n i w (owner_word (Some f) ∷ []) (ended p (words_at m n i w (width p)) m)
  replaced_meant =
      let e : Content = ended p (words_at m n i w (width p)) m in
      ap (wrote n i w (suc f ∷ [])) (emptied_meant kind depth n i hand w p m o there forest deep place known)
      ∙ wrote_with n i w (suc f ∷ []) (zeroed i w (owner_words (flat 0 p)) o) e
      ∙ ap (λ (x : Object). with_object n x e) object_is
      ∙ ap (λ (x : Option Object). wrote_if x n i w (suc f ∷ []) e) (sym (ended_beside kind depth n i hand w p m o there forest deep place known))

-- of a string, whose owner takes the other buffer in the content without the old one
module _ (kind : Kinds) (depth n i : ℕ) (hand : ℕ → ℕ) (w : ℕ) (ty : TyId) (m : Content) (o : Object) (there : at m.objects n ≡ Some o) (forest : IsForest kind hand m) (deep : kind.rank o.ty ≤ depth) (place : IsPlace kind depth n i w (Text ty) o)
    (known : Known kind (with_object n (zeroed i w (0 ∷ []) o) m) (Text ty) (words_at m n i w 1)) (b f : ℕ) (owned : owned_at m (record { object = n; index = i; word = w }) ≡ Some b) where
  pub text_replaced : replaced_by (ended_number kind depth) n i w (0 ∷ []) f m ≡ owns (record { object = n; index = i; word = w }) f (without b m)
  text_replaced =
      replaced_meant kind depth n i hand w (Text ty) m o there forest deep place known refl f
      ∙ ap (λ x. wrote n i w (suc f ∷ []) (ended_owned (λ vs d. d) x m)) owned
      ∙ ap (λ (x : Content). wrote n i w (suc f ∷ []) (without b x)) (slots_stay (slots_at m b) m)
