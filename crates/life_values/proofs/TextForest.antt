-- Where the buffer of a string has come to life with its characters, it is in the hand, and all else is as it was.
use Rattle.std.proofs.Common.{◌≡◌, ℕ, ◌+◌, ◌*◌, ◌<◌, ◌≤◌, Bool, true, false, cond, List, [], ◌∷◌, length, Option, Some, refl, sym, ap, subst, ◌∙◌, arith}
use Rattle.std.specs.Prelude.{map, nat_lt}
use Rattle.life_types.specs.declared.ty.TyId.{TyId}
use Rattle.life_store.specs.Cells.{Cells, at, at-set_same}
use Rattle.life_store.specs.Content.{Slot, Object, Content, live_words_of, newborn, resized, with_birth, with_object}
use Rattle.life_store.specs.Edits.{one_word}
use Rattle.life_store.specs.Effects.{Setting, Attempt, Got, GotTrap, then_get}
use Rattle.life_store.specs.Held.{filled_slots, resized_at, resized_if}
use Rattle.life_store.specs.Kinds.{Owner, is_owner, kind_in}
use Rattle.life_store.specs.Parts.{Single}
use Rattle.life_store.specs.declared.run.TrapKind.TheVariants as trap
use Rattle.life_store.proofs.MapLemmas.{set-set}
use Rattle.life_forest.specs.Forest.{IsForest}
use Rattle.life_forest.specs.Kinds.{Kinds}
use Rattle.life_forest.specs.Owned.{times}
use Rattle.life_forest.specs.Values.{owned_rows, AllWide, IsLaid}
use Rattle.life_forest.proofs.Below.{empty_handed}
use Rattle.life_forest.proofs.Copying.{sized_is, Sized}
use Rattle.life_forest.proofs.Filling.{filled_births, filled_forest, filled_is, filled_other}
use Rattle.life_forest.proofs.Widths.{wide-resized}
use Rattle.life_seen.specs.Kinds.{Kinds as Seen}
use Rattle.life_values.specs.Ended.{AreAlike}
use Rattle.life_values.specs.Ending.{AreSized, IsSized}
use Rattle.life_values.specs.Texts.{text_born, with_characters}
use Rattle.life_values.proofs.Deep.{sized_with}
use Rattle.life_values.proofs.TextsBorn.{all_slots, characters_in}

own_nothing : (vs : List (List ℕ)) (k : ℕ) → times (owned_rows Single vs) k ≡ 0
own_nothing [] k = refl
own_nothing (v ∷ vs) k = own_nothing vs k

still_wide : (ss : List Slot) (ws : List ℕ) → AllWide 1 ss → AllWide 1 (filled_slots ss (map one_word ws))
still_wide [] ws wide = tt
still_wide (s ∷ ss) [] wide = wide
still_wide (s ∷ ss) (w ∷ ws) wide = (refl, still_wide ss ws wide.1)

-- ---- the content

abbrev or_else : ℕ × Content → Attempt (ℕ × Content) → ℕ × Content
or_else y (Got x) = x
or_else y _ = y

-- where there is no room, there is none
pub record IsBorn (q : ℕ) (ty : TyId) (ws : List ℕ) (m d : Content) : Type 0 where
  pub number : q ≡ m.births
  pub is : d ≡ with_characters m.births ws (resized_at m.births (length ws) 0 (with_birth ty 1 (length ws) m))

pub text_is : (s : Setting) (ty : TyId) (ws : List ℕ) (m : Content) (q : ℕ) (d : Content) → text_born s ty ws m ≡ Got (q, d) → IsBorn q ty ws m d
text_is s ty ws m q d e = go (nat_lt s.given.cells (live_words_of m + (2 + 1 * length ws))) e
  where
    go : (b : Bool) → then_get (then_get (cond b (GotTrap trap.Cells) (Got (m.births, with_birth ty 1 (length ws) m))) (all_slots (length ws))) (characters_in ws) ≡ Got (q, d) → IsBorn q ty ws m d
    go true h = absurd (clash h)
      where
        clash : ◌≡◌ {A = Attempt (ℕ × Content)} (GotTrap trap.Cells) (Got (q, d)) → ⊥
        clash x = cc
    go false h = record {
      number = ap (λ (x : Attempt (ℕ × Content)). (or_else (q, d) x).0) (sym h);
      is = ap (λ (x : Attempt (ℕ × Content)). (or_else (q, d) x).1) (sym h);
    }

module _ (kinds : Seen) (kind : Kinds) (alike : AreAlike kinds kind) (hand : ℕ → ℕ) (ty : TyId) (ws : List ℕ) (m : Content) (forest : IsForest kind hand m) (laid : IsLaid kind ty Single) (bound : ℕ) (lower : kind.rank ty < bound) where
  came : Sized kind bound hand ty 1 (length ws) m (m.births, resized_at m.births (length ws) 0 (with_birth ty 1 (length ws) m))
  came = sized_is kind bound hand ty 1 (length ws) (length ws) m lower forest

  abbrev sized : Content
  sized = resized_at m.births (length ws) 0 (with_birth ty 1 (length ws) m)

  pub text_forest : IsForest kind (λ k. times (m.births ∷ []) k + hand k) (with_characters m.births ws (resized_at m.births (length ws) 0 (with_birth ty 1 (length ws) m)))
  text_forest =
      filled_forest sized m.births came.object (map one_word ws) came.there kind Single (λ u. ap (λ t. kind.word t u) came.type ∙ laid u) came.blank (λ k. times (m.births ∷ []) k + hand k)
      (empty_handed kind (λ k. times (m.births ∷ []) k + hand k) (λ k. times (owned_rows Single (map one_word ws)) k + (times (m.births ∷ []) k + hand k)) sized (λ k. let z = own_nothing (map one_word ws) k in omega (arith, z)) came.came.forest)
      (λ k q lt there. let z = own_nothing (map one_word ws) k in absurd (omega (arith, z, lt)))

  pub text_same : (k : ℕ) → k < m.births → at (with_characters m.births ws (resized_at m.births (length ws) 0 (with_birth ty 1 (length ws) m))).objects k ≡ at m.objects k
  text_same k b = filled_other sized m.births came.object (map one_word ws) came.there k (λ e. absurd (omega (arith, e, b))) ∙ came.came.same k b

  pub text_there : (n : ℕ) (o : Object) → at m.objects n ≡ Some o → at (with_characters m.births ws (resized_at m.births (length ws) 0 (with_birth ty 1 (length ws) m))).objects n ≡ Some o
  text_there n o there = text_same n (forest.births n o there) ∙ there

  pub text_births : m.births ≤ (with_characters m.births ws (resized_at m.births (length ws) 0 (with_birth ty 1 (length ws) m))).births
  text_births = let e = filled_births sized m.births came.object (map one_word ws) came.there in let b = came.came.births in omega (arith, e, b)

  -- ---- widths

  abbrev blanks : Object
  blanks = resized (m.clock + 1) (length ws) 0 (newborn ty 1 (length ws) m.clock)

  number_alone : (u : ℕ) → kinds ty u ≡ Owner → u < 1
  number_alone u e = absurd (clash (ap is_owner (sym e) ∙ alike ty u ∙ ap is_owner (laid u)))
    where
      clash : true ≡ is_owner (kind_in Single u) → ⊥
      clash h = cc

  is_sized : resized_at m.births (length ws) 0 (with_birth ty 1 (length ws) m) ≡ with_object m.births blanks (record { objects = m.objects; births = m.births + 1; clock = m.clock + 1 })
  is_sized =
      ap (λ (x : Option Object). resized_if x m.births (length ws) 0 (with_birth ty 1 (length ws) m)) (at-set_same m.objects m.births m.births (newborn ty 1 (length ws) m.clock) refl)
      ∙ ap (λ (x : Cells Object). record { objects = x; births = m.births + 1; clock = m.clock + 1 }) (set-set m.objects m.births (newborn ty 1 (length ws) m.clock) blanks)

  blanks_sized : IsSized kinds blanks
  blanks_sized = record { wide = wide-resized 1 (m.clock + 1) (length ws) 0 [] tt; owners = number_alone }

  pub text_sized : AreSized kinds m → AreSized kinds (with_characters m.births ws (resized_at m.births (length ws) 0 (with_birth ty 1 (length ws) m)))
  text_sized are =
      let there : at sized.objects m.births ≡ Some blanks = ap (λ (x : Content). at x.objects m.births) is_sized ∙ at-set_same m.objects m.births m.births blanks refl in
      subst (AreSized kinds) (sym (filled_is sized m.births blanks (map one_word ws) there))
      (sized_with kinds sized m.births (record blanks { slots = filled_slots blanks.slots (map one_word ws) })
      (subst (AreSized kinds) (sym is_sized) (sized_with kinds (record { objects = m.objects; births = m.births + 1; clock = m.clock + 1 }) m.births blanks are blanks_sized))
      (record { wide = still_wide blanks.slots ws blanks_sized.wide; owners = number_alone }))
