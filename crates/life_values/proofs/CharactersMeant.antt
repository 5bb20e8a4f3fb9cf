-- A string that gets other characters is rewritten as in the meaning.
use Rattle.std.proofs.Common.{◌≡◌, ℕ, ◌+◌, ◌<◌, ◌≤◌, List, [], ◌∷◌, length, take, drop, Option, Some, refl, sym, ap, subst, ◌∙◌, arith}
use Rattle.std.specs.Prelude.{slice_get, slice_index}
use Rattle.life_types.specs.declared.ty.TyId.{TyId}
use Rattle.life_store.specs.Cells.{at, at-set_same, at-set_other}
use Rattle.life_store.specs.Content.{Object, Content, with_birth, with_object, without}
use Rattle.life_store.specs.Edits.{owned_at, owns, rewritten}
use Rattle.life_store.specs.Effects.{Setting, Attempt, Got, GotTrap, GotFault, GotLost, then_get}
use Rattle.life_store.specs.Held.{owned_in, resized_at, slots_if, words_at, words_if}
use Rattle.life_store.specs.Parts.{Single, Text}
use Rattle.life_store.proofs.MapLemmas.{one_or_apart}
use Rattle.life_forest.specs.Forest.{IsForest}
use Rattle.life_forest.specs.Kinds.{Kinds}
use Rattle.life_forest.specs.Owned.{times}
use Rattle.life_forest.specs.Values.{Known, IsLaid, OwnedKnown}
use Rattle.life_seen.specs.Kinds.{Kinds as Seen}
use Rattle.life_values.specs.Ended.{ended_number, AreAlike}
use Rattle.life_values.specs.Replaced.{replaced_by}
use Rattle.life_values.specs.Rewritten.{given_characters}
use Rattle.life_values.specs.Texts.{text_born, with_characters}
use Rattle.life_values.specs.Zeroed.{zeroed}
use Rattle.life_values.proofs.EmptiedMeant.{IsPlace}
use Rattle.life_values.proofs.ReplacedMeant.{text_replaced}
use Rattle.life_values.proofs.TextForest.{text_births, text_forest, text_is, text_same, text_there}
use Rattle.life_values.proofs.TextsBorn.{rewritten_is}

module _ (kinds : Seen) (kind : Kinds) (alike : AreAlike kinds kind) (depth n i : ℕ) (hand : ℕ → ℕ) (w : ℕ) (ty : TyId) (ws : List ℕ) (m : Content) (o : Object) (there : at m.objects n ≡ Some o) (forest : IsForest kind hand m) (deep : kind.rank o.ty ≤ depth)
    (place : IsPlace kind depth n i w (Text ty) o) (known : Known kind (with_object n (zeroed i w (0 ∷ []) o) m) (Text ty) (words_at m n i w 1)) (b : ℕ) (owned : owned_at m (record { object = n; index = i; word = w }) ≡ Some b) (laid : IsLaid kind ty Single)
    (lower : kind.rank ty < kind.rank o.ty) where
  -- where the buffer has come to life
  abbrev born : Content
  born = with_characters m.births ws (resized_at m.births (length ws) 0 (with_birth ty 1 (length ws) m))

  abbrev less : Object
  less = zeroed i w (0 ∷ []) o

  there_born : at born.objects n ≡ Some o
  there_born = text_there kinds kind alike hand ty ws m forest laid (kind.rank o.ty) lower n o there

  owned_born : owned_at born (record { object = n; index = i; word = w }) ≡ Some b
  owned_born = ap (λ (x : Option Object). owned_in (slice_index (take 1 (drop w (words_if (slice_get (slots_if x) i)))) 0)) (there_born ∙ sym there) ∙ owned

  old_known : OwnedKnown kind (with_object n less m) Single (λ vs. Unit {0}) (Some b)
  old_known = subst (OwnedKnown kind (with_object n less m) Single (λ vs. Unit {0})) owned known

  same_then : b < m.births → at (with_object n less born).objects b ≡ at (with_object n less m).objects b
  same_then lt =
      one_or_apart n b
      (λ e. at-set_same born.objects n b less e ∙ sym (at-set_same m.objects n b less e))
      (λ ne. at-set_other born.objects n b less ne ∙ text_same kinds kind alike hand ty ws m forest laid (kind.rank o.ty) lower b lt ∙ sym (at-set_other m.objects n b less ne))

  births_born : m.births ≤ born.births
  births_born = text_births kinds kind alike hand ty ws m forest laid (kind.rank o.ty) lower

  known_born : Known kind (with_object n (zeroed i w (0 ∷ []) o) born) (Text ty) (words_at born n i w 1)
  known_born =
      let l = old_known.0 in
      let k = births_born in
      subst (OwnedKnown kind (with_object n less born) Single (λ vs. Unit {0})) (sym owned_born)
      (omega (arith, l, k), (λ x at_x. old_known.1 x (sym (same_then l) ∙ at_x)))

  by_text : (q : ℕ) → replaced_by (ended_number kind depth) n i w (0 ∷ []) q born ≡ owns (record { object = n; index = i; word = w }) q (without b born)
  by_text q =
      text_replaced kind depth n i (λ k. times (m.births ∷ []) k + hand k) w ty born o there_born (text_forest kinds kind alike hand ty ws m forest laid (kind.rank o.ty) lower) deep place known_born b q owned_born

  pub characters_meant : (s : Setting) → given_characters s (ended_number kind depth) ty n i w (0 ∷ []) ws m ≡ rewritten s ty (record { object = n; index = i; word = w }) b ws m
  characters_meant s = go (text_born s ty ws m) refl ∙ sym (rewritten_is s ty (record { object = n; index = i; word = w }) b ws m)
    where
      go : (x : Attempt (ℕ × Content)) → text_born s ty ws m ≡ x
          → then_get x (λ f. Got (replaced_by (ended_number kind depth) n i w (0 ∷ []) f.0 f.1)) ≡ then_get x (λ f. Got (owns (record { object = n; index = i; word = w }) f.0 (without b f.1)))
      go (Got f) e =
          ap (λ (d : Content). Got d)
          (subst (λ (d : Content). replaced_by (ended_number kind depth) n i w (0 ∷ []) f.0 d ≡ owns (record { object = n; index = i; word = w }) f.0 (without b d)) (sym (text_is s ty ws m f.0 f.1 e).is) (by_text f.0))
      go (GotTrap t) e = refl
      go (GotFault t) e = refl
      go GotLost e = refl
