-- A pointer that is made now to what an owner has is covered by the place that the rules give it: the owner's place with one owned step.
use Rattle.std.proofs.Common.{◌≡◌, inr, ℕ, zero, suc, ◌≤◌, Bool, true, false, List, [], ◌∷◌, length, Option, Some, None, refl, sym, ap, subst, ◌∙◌, arith}
use Rattle.std.specs.Prelude.{drop, slice_get, slice_index, take}
use Rattle.life_types.specs.Types.{Types}
use Rattle.life_types.specs.declared.ty.TyId.{TyId}
use Rattle.life_pset.specs.Places.{owned_place, owned_step}
use Rattle.life_pset.specs.declared.element.AbsPlace.{AbsPlace}
use Rattle.life_pset.specs.declared.element.Root.{Root}
use Rattle.life_store.specs.Cells.{at}
use Rattle.life_store.specs.Content.{Slot, Object, Content, word_at, word_in}
use Rattle.life_store.specs.Edits.{owned_at}
use Rattle.life_store.specs.Held.{owned_in, slots_if, words_if}
use Rattle.life_store.specs.State.{Target}
use Rattle.life_store.proofs.CellLemmas.{none_some, some_same}
use Rattle.life_forest.specs.Forest.{IsForest}
use Rattle.life_forest.specs.Kinds.{Kinds}
use Rattle.life_cover.specs.Covers.{Holds, IsSeenAs, Look, PointsTo}
use Rattle.life_cover.specs.Regions.{IsAt, Region, owned_in_type}
use Rattle.life_cover.proofs.Fresh.{at_position, at_range, position_holds, range_holds}
use Rattle.life_cover.proofs.Stepping.{HasRoom, goes_at, stepped_root}

-- ---- the word of an owner

pub first_of : (ws : List ℕ) (w : ℕ) → slice_index (take 1 (drop w ws)) 0 ≡ slice_index ws w
first_of [] zero = refl
first_of [] (suc w) = refl
first_of (x ∷ xs) zero = refl
first_of (x ∷ xs) (suc w) = first_of xs w

pub word_there : (ss : List Slot) (i w : ℕ) → slice_index (words_if (slice_get ss i)) w ≡ word_in (slice_get ss i) w
word_there ss i w = go (slice_get ss i)
  where
    go : (s : Option Slot) → slice_index (words_if s) w ≡ word_in s w
    go None = refl
    go (Some s) = refl

number : (x b : ℕ) → owned_in x ≡ Some b → x ≡ suc b
number zero b e = absurd (none_some e)
number (suc x) b e = ap suc (some_same e)

pub owner_word_is : (c : Content) (n i w b : ℕ) (o : Object) → at c.objects n ≡ Some o → owned_at c (record { object = n; index = i; word = w }) ≡ Some b → word_at o i w ≡ suc b
owner_word_is c n i w b o there owned =
    sym (first_of (words_if (slice_get o.slots i)) w ∙ word_there o.slots i w)
    ∙ ap (λ (x : Option Object). slice_index (take 1 (drop w (words_if (slice_get (slots_if x) i)))) 0) (sym there)
    ∙ number (slice_index (take 1 (drop w (words_if (slice_get (slots_if (at c.objects n)) i)))) 0) b owned

-- ---- places

module _ (types : Types) (c : Content) (Stands : Root → Region → Type 0) (may_change : Root → Bool) (a : AbsPlace) (r : Region) (i b : ℕ) (o : Object) (item : TyId) (room : HasRoom 1 a) (at_r : IsAt types c Stands a r)
    (type : owned_in_type types (slice_get types.types r.ty.0) ≡ Some item) (there : at c.objects r.object ≡ Some o) (owned : owned_at c (record { object = r.object; index = i; word = r.word }) ≡ Some b) where
  -- all of what the owner has lies in the owned place
  pub owned_lies : IsAt types c Stands (owned_place a) (record { object = b; word = 0; ty = item })
  owned_lies =
      goes_at types c Stands 0 a owned_step r (record { object = b; word = 0; ty = item }) room at_r
      (inr (record { owned = refl; type = type; holder = o; there = there; index = i; has = owner_word_is c r.object i r.word b o there owned; word = refl }))

  module _ (look : Look) (target : IsSeenAs types look.target item) (change : look.constant ≡ false → may_change a.root ≡ true) where
    pub owned_pointed : (t : Target) → t.object ≡ b → t.word ≡ 0 → Holds c look.ranged t → PointsTo types c Stands may_change look (owned_place a) t
    owned_pointed t object word holds = record {
      region = record { object = b; word = 0; ty = item };
      lies = owned_lies;
      object = object;
      word = word;
      type = target;
      change = λ e. ap may_change (stepped_root 0 a owned_step room) ∙ change e;
      holds = holds;
    }

    module _ (kind : Kinds) (hand : ℕ → ℕ) (forest : IsForest kind hand c) (ob : Object) (lives : at c.objects b ≡ Some ob) where
      -- an element, a target or an iterator, which may stand at the end
      pub element_pointed : look.ranged ≡ false → (k : ℕ) → k ≤ length ob.slots → PointsTo types c Stands may_change look (owned_place a) (at_position c b k 0)
      element_pointed is k le = owned_pointed (at_position c b k 0) refl refl (subst (λ q. Holds c q (at_position c b k 0)) (sym is) (position_holds kind hand c forest b ob lives k 0 le))

      -- a view or a span of the whole
      pub whole_pointed : look.ranged ≡ true → PointsTo types c Stands may_change look (owned_place a) (at_range c b 0 0 (length ob.slots))
      whole_pointed is = owned_pointed (at_range c b 0 0 (length ob.slots)) refl refl (subst (λ q. Holds c q (at_range c b 0 0 (length ob.slots))) (sym is) (range_holds kind hand c forest b ob lives 0 0 (length ob.slots) (omega arith)))
