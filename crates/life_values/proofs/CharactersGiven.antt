-- A store goes the way of the meaning where a string gets other characters.
use Rattle.std.proofs.Common.{◌≡◌, ℕ, ◌+◌, List, [], ◌∷◌, Some, Ok, Err, refl, sym, ap, subst, ◌∙◌, arith}
use Rattle.life_types.specs.declared.ty.TyId.{TyId}
use Rattle.life_store.specs.Cells.{at}
use Rattle.life_store.specs.Content.{Content}
use Rattle.life_store.specs.Effects.{Setting, Got, then_get}
use Rattle.life_store.specs.References.{Rows}
use Rattle.life_store.specs.declared.object.BirthFault.{BirthFault}
use Rattle.life_store.specs.declared.object.BirthFault.TheVariants as birth_fault
use Rattle.life_store.specs.declared.object.ObjRef.{ObjRef}
use Rattle.life_forest.specs.Forest.{IsForest}
use Rattle.life_forest.specs.Kinds.{Kinds}
use Rattle.life_forest.specs.Owned.{times}
use Rattle.life_forest.proofs.Counting.{one_same}
use Rattle.life_seen.specs.Housed.{Later, Shows}
use Rattle.life_seen.specs.Kinds.{Kinds as Seen}
use Rattle.life_seen.specs.Seen.{seen}
use Rattle.life_values.specs.Ended.{ended_number, AreAlike}
use Rattle.life_values.specs.Ending.{AreSized}
use Rattle.life_values.specs.Fresh.{Comes}
use Rattle.life_values.specs.Replaced.{replaced_by, CanReplace}
use Rattle.life_values.specs.Rewritten.{given_characters, CanRewrite}
use Rattle.life_values.specs.Texts.{text_born, IsBuffer}
use Rattle.life_values.specs.declared.spot.Spot.{Spot}
use Rattle.life_values.proofs.Filling.{some_setting, still_placed}
use Rattle.life_values.proofs.TextForest.{text_forest, text_is, text_sized, text_there, IsBorn}

-- there was no room for them
pub no_room : (kinds : Seen) (s : Setting) (end : ℕ → Content → Content) (ty : TyId) (n i w : ℕ) (us ws : List ℕ) (m : Content) (fault : BirthFault) (d : Content) (new : Rows)
    → IsBuffer kinds (text_born s ty ws m) (Err fault) d new → Comes {A = Unit {0}} kinds (given_characters s end ty n i w us ws m) (Err fault) d new
no_room kinds s end ty n i w us ws m birth_fault.Cells d new told = ap (λ x. then_get x (λ f. Got (replaced_by end n i w us f.0 f.1))) told
no_room kinds s end ty n i w us ws m birth_fault.NoMemory d new told = tt

module _ (kinds : Seen) (kind : Kinds) (alike : AreAlike kinds kind) (depth : ℕ) (spot : Spot) (owners : List ℕ) (ty : TyId) (ws : List ℕ) (limit : ℕ) (c : Content) (rows : Rows) (can : CanRewrite kinds kind depth spot owners ty c rows)
    (q : ObjRef) (d : Content) (new : Rows) (told : (s : Setting) → s.given.cells ≡ limit → IsBuffer kinds (text_born s ty ws (seen kinds c rows)) (Ok q) d new) (later : Later c d rows new) where
  born : IsBorn q.birth ty ws (seen kinds c rows) (seen kinds d new)
  born =
      let x = told (some_setting limit) refl in
      let b = text_is (some_setting limit) ty ws (seen kinds c rows) q.birth x.0 x.1 in
      record { number = b.number; is = x.2.is ∙ b.is }

  there_then : at (seen kinds d new).objects spot.object.birth ≡ Some can.empty.object
  there_then =
      ap (λ (x : Content). at x.objects spot.object.birth) born.is
      ∙ text_there kinds kind alike can.empty.hand ty ws (seen kinds c rows) can.empty.forest can.laid (kind.rank can.empty.object.ty) can.lower spot.object.birth can.empty.object can.empty.there

  forest_then : IsForest kind (λ k. times (q.birth ∷ []) k + can.empty.hand k) (seen kinds d new)
  forest_then =
      subst (λ n. IsForest kind (λ k. times (n ∷ []) k + can.empty.hand k) (seen kinds d new)) (sym born.number)
      (subst (IsForest kind (λ k. times (c.births ∷ []) k + can.empty.hand k)) (sym born.is)
      (text_forest kinds kind alike can.empty.hand ty ws (seen kinds c rows) can.empty.forest can.laid (kind.rank can.empty.object.ty) can.lower))

  sized_then : AreSized kinds (seen kinds d new)
  sized_then = subst (AreSized kinds) (sym born.is) (text_sized kinds kind alike can.empty.hand ty ws (seen kinds c rows) can.empty.forest can.laid (kind.rank can.empty.object.ty) can.lower can.empty.sized)

  pub can_replace : CanReplace kinds kind depth spot owners q d new
  can_replace =
      let x = told (some_setting limit) refl in
      record {
        empty = record {
          housed = x.2.housed;
          placed = still_placed kinds c d rows new x.2.housed later spot.object.birth spot.object.row can.empty.object (can.empty.housed.below spot.object.birth spot.object.row can.empty.placed) can.empty.placed there_then;
          sized = sized_then;
          hand = λ k. times (q.birth ∷ []) k + can.empty.hand k;
          forest = forest_then;
          object = can.empty.object;
          there = there_then;
          slot = can.empty.slot;
          own = can.empty.own;
          small = can.empty.small;
          deep = can.empty.deep;
        };
        one = can.one;
        placed = x.3;
        held = let s = one_same q.birth q.birth refl in omega (arith, s);
      }

  pub rewrite_comes : (e : Content) (after : Rows) → Shows kinds e after (replaced_by (ended_number kind depth) spot.object.birth spot.slot spot.word owners q.birth (seen kinds d new)) → (s : Setting) → s.given.cells ≡ limit
      → Comes {A = Unit {0}} kinds (given_characters s (ended_number kind depth) ty spot.object.birth spot.slot spot.word owners ws (seen kinds c rows)) (Ok tt) e after
  rewrite_comes e after shows s cells =
      let x = told s cells in (
        replaced_by (ended_number kind depth) spot.object.birth spot.slot spot.word owners q.birth (seen kinds d new),
        ap (λ y. then_get y (λ f. Got (replaced_by (ended_number kind depth) spot.object.birth spot.slot spot.word owners f.0 f.1))) x.1
            ∙ ap (λ (z : Content). Got (replaced_by (ended_number kind depth) spot.object.birth spot.slot spot.word owners q.birth z)) (sym x.2.is),
        shows,
      )
