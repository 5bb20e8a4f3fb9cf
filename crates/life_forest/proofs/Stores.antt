-- Every content of a run stays one where a value is written over another one, and where one is copied there.
use Rattle.std.proofs.Common.{◌≡◌, ℕ, zero, suc, ◌+◌, ◌≤◌, ◌<◌, Bool, true, false, cond, List, [], ◌∷◌, length, Option, Some, refl, ap, subst, ◌∙◌, arith}
use Rattle.std.specs.Prelude.{◌&&◌, slice_index}
use Rattle.life_types.specs.Trees.{IsOrdered}
use Rattle.life_types.specs.Types.{Types}
use Rattle.life_types.specs.declared.ty.TyId.{TyId}
use Rattle.life_store.specs.Cells.{at}
use Rattle.life_store.specs.Content.{Object, Content}
use Rattle.life_store.specs.Doing.{replaced}
use Rattle.life_store.specs.Effects.{Setting, Attempt, Got, GotTrap, GotFault, GotLost}
use Rattle.life_store.specs.Owners.{copied}
use Rattle.life_store.specs.Parts.{Parts, Single, Raw, Iterates, Views, Text, Vector, Unique, Member, NoMember, parts_at, width, width_at}
use Rattle.life_store.specs.Places.{spot_words, wrote_spot}
use Rattle.life_store.proofs.MapLemmas.{one_or_apart}
use Rattle.life_forest.specs.Kinds.{kinds_of, owned_type, rank_of}
use Rattle.life_store.specs.Kinds.{Kind, Plain, Owner, Pointing, is_owner, row_behind, kind_in}
use Rattle.life_forest.specs.Owned.{hit, in_words, times, alive}
use Rattle.life_forest.specs.Typed.{IsStore}
use Rattle.life_forest.specs.Values.{Known, owned_of}
use Rattle.life_forest.specs.Within.{LiesWithin}
use Rattle.life_forest.proofs.ByParts.{owned_words}
use Rattle.life_forest.proofs.Coming.{CameWords, IfGot}
use Rattle.life_forest.proofs.Copying.{copied_came}
use Rattle.life_forest.proofs.Counting.{one_there, times-words_list}
use Rattle.life_forest.proofs.Fitting.{Flat, fit_wrote}
use Rattle.life_forest.proofs.FittingBirths.{FitWords, got_both, pointer_owner, value_owner}
use Rattle.life_forest.proofs.FittingCopies.{copied_fit}
use Rattle.life_forest.proofs.Laying.{IsMade, laid_at, made_at, named_at}
use Rattle.life_forest.proofs.Lying.{forest_value}
use Rattle.life_forest.proofs.Replacing.{replaced_fit, replaced_forest}
use Rattle.life_forest.proofs.Spots.{lies_at, owns_alike, spot_known}

-- what was got is such, so it is such
pub if_such : {A : Type 0} (x : Attempt A) (P Q : A → Type 0) → IfGot x P → ((a : A) → P a → Q a) → IfGot x Q
if_such (Got a) P Q h more = more a h
if_such (GotTrap kind) P Q h more = tt
if_such (GotFault kind) P Q h more = tt
if_such GotLost P Q h more = tt

-- ---- what a value owns stands at an owner's word

some_word : (f : ℕ → Bool) (xs : List ℕ) (m : ℕ) → 0 < in_words f xs m → (u : ℕ) × (f u ≡ true) × (slice_index xs u ≡ suc m)
some_word f [] m lt = absurd (omega arith)
some_word f (x ∷ xs) m lt = go (f 0) refl (some_word (λ u. f (suc u)) xs m)
  where
    hit_is : (y : ℕ) → 0 < hit y m → y ≡ suc m
    hit_is zero h = absurd (omega arith)
    hit_is (suc n) h = ap suc (one_there n m h)

    go : (b : Bool) → f 0 ≡ b → (0 < in_words (λ u. f (suc u)) xs m → (u : ℕ) × (f (suc u) ≡ true) × (slice_index xs u ≡ suc m)) → (u : ℕ) × (f u ≡ true) × (slice_index (x ∷ xs) u ≡ suc m)
    go true e rest = one_or_apart (in_words (λ u. f (suc u)) xs m) 0
        (λ z. let c = ap (λ (b : Bool). cond b (hit x m) 0) e in (0, e, hit_is x (omega arith)))
        (λ nz. let r = rest (omega arith) in (suc r.0, r.1, r.2))
    go false e rest = let c = ap (λ (b : Bool). cond b (hit x m) 0) e in let r = rest (omega arith) in (suc r.0, r.1, r.2)

owner_is : (k : Kind) → (is_owner k && true) ≡ true → k ≡ Owner
owner_is Owner e = refl
owner_is Plain e = cc
owner_is (Pointing i) e = cc

pub word_owned : (p : Parts) (ws : List ℕ) (m : ℕ) → 0 < times (owned_of p ws) m → (u : ℕ) × (kind_in p u ≡ Owner) × (slice_index ws u ≡ suc m)
word_owned p ws m lt =
    let b = times-words_list (λ x. is_owner (kind_in p x) && true) ws m in
    let c = ap (λ (xs : List ℕ). times xs m) (owned_words p ws) in
    let r = some_word (λ x. is_owner (kind_in p x) && true) ws m (omega arith) in
    (r.0, owner_is (kind_in p r.0) r.1, r.2)

module _ (types : Types) (ordered : IsOrdered types) where
  -- ---- what an owner's word owns has a lesser type

  some_same : {a b : TyId} → Some a ≡ Some b → a ≡ b
  some_same e = cc

  row_lesser : (bound n : ℕ) (f g : ℕ → Kind) (a b : ℕ → Option TyId) (t : TyId) → ((v : ℕ) → f v ≡ Owner → a v ≡ Some t → rank_of types t < bound) → ((v : ℕ) → g v ≡ Owner → b v ≡ Some t → rank_of types t < bound)
      → (u : ℕ) → row_behind n f g u ≡ Owner → row_behind n a b u ≡ Some t → rank_of types t < bound
  row_lesser bound zero f g a b t h k u e i = k u e i
  row_lesser bound (suc n) f g a b t h k zero e i = h 0 e i
  row_lesser bound (suc n) f g a b t h k (suc u) e i = row_lesser bound n (λ v. f (suc v)) g (λ v. a (suc v)) b t (λ v x y. h (suc v) x y) k u e i

  pub lesser : (bound : ℕ) (p : Parts) → IsMade types ordered bound p → (u : ℕ) (t : TyId) → kind_in p u ≡ Owner → owned_type p u ≡ Some t → rank_of types t < bound
  lesser bound Single made u t k e = absurd (value_owner k)
  lesser bound Raw made u t k e = absurd (pointer_owner u k)
  lesser bound Iterates made u t k e = absurd (pointer_owner u k)
  lesser bound Views made u t k e = absurd (pointer_owner u k)
  lesser bound (Text id) made u t k e = subst (λ x. rank_of types x < bound) (some_same e) made.0
  lesser bound (Vector id element) made u t k e = subst (λ x. rank_of types x < bound) (some_same e) made.0
  lesser bound (Unique id target) made u t k e = subst (λ x. rank_of types x < bound) (some_same e) made.0
  lesser bound (Member first others) made u t k e =
      row_lesser bound (width first) (kind_in first) (kind_in others) (owned_type first) (owned_type others) t (λ v x y. lesser bound first made.0 v t x y) (λ v x y. lesser bound others made.1 v t x y) u k e
  lesser bound NoMember made u t k e = absurd (value_owner k)

  -- .. so a value that is written into an object owns lesser types than that
  pub flat_lower : (d : Content) (whole part : TyId) (w : ℕ) (vs : List ℕ) → LiesWithin types whole w part → length vs ≡ width_at types part → Flat d (parts_at types part) vs
      → (m : ℕ) (q : Object) → 0 < times (owned_of (parts_at types part) vs) m → at d.objects m ≡ Some q → rank_of types q.ty < rank_of types whole
  flat_lower d whole part w vs within wide flat m q lt there =
      let r = word_owned (parts_at types part) vs m lt in
      let small : r.0 < width_at types part = (let l = in_list vs r.0 m r.2 in omega arith) in
      lesser (rank_of types whole) (parts_at types whole) (made_at types ordered whole) (w + r.0) q.ty (within.words r.0 small ∙ r.1) (within.owners r.0 small ∙ flat r.0 m q r.1 r.2 there)
    where
      in_list : (xs : List ℕ) (u j : ℕ) → slice_index xs u ≡ suc j → u < length xs
      in_list [] u j e = absurd (omega (arith, e))
      in_list (x ∷ xs) zero j e = omega arith
      in_list (x ∷ xs) (suc u) j e = let h = in_list xs u j e in omega arith

  -- ---- a value is written where another one ends

  module _ (hand before : ℕ → ℕ) (d : Content) (store : IsStore types before d) (n i w : ℕ) (part : TyId) (o : Object) (there : at d.objects n ≡ Some o) (within : LiesWithin types o.ty w part) (lt : i < length o.slots) where
    -- .. or just written: what stood there is in the hand then
    pub wrote_store : (vs : List ℕ) → length vs ≡ width_at types part → Flat d (parts_at types part) vs
        → ((k : ℕ) → hand k + times (owned_of (parts_at types part) vs) k ≤ before k + times (owned_of (parts_at types part) (spot_words d (record { object = n; index = i; word = w }) (width_at types part))) k)
        → IsStore types hand (wrote_spot (record { object = n; index = i; word = w }) vs d)
    wrote_store vs wide flat less =
        let lies = lies_at types ordered before d store n i w part o there within lt in
        record {
          forest = forest_value (kinds_of types) d (record { object = n; index = i; word = w }) (parts_at types part) o lies vs wide before hand store.forest (flat_lower d o.ty part w vs within wide flat) less;
          fit = fit_wrote (kinds_of types) d (record { object = n; index = i; word = w }) (parts_at types part) o lies (owns_alike types ordered before d store n i w part o there within lt) vs wide flat store.fit;
        }

    pub replaced_store : (vs : List ℕ) → length vs ≡ width_at types part → Flat d (parts_at types part) vs → ((k : ℕ) → hand k + times (owned_of (parts_at types part) vs) k ≤ before k)
        → IsStore types hand (replaced (parts_at types part) (record { object = n; index = i; word = w }) (vs, d))
    replaced_store vs wide flat less =
        let lies = lies_at types ordered before d store n i w part o there within lt in
        let known = spot_known types ordered before d store n i w part o there within lt in
        let low = flat_lower d o.ty part w vs within wide flat in
        record {
          forest = replaced_forest (kinds_of types) d (record { object = n; index = i; word = w }) (parts_at types part) o lies vs wide before hand store.forest known low less;
          fit = replaced_fit (kinds_of types) d (record { object = n; index = i; word = w }) (parts_at types part) o lies vs wide before hand store.forest known low less (owns_alike types ordered before d store n i w part o there within lt) flat store.fit;
        }

  -- ---- a value is copied to a place, from words that are known and live

  module _ (hand : ℕ → ℕ) (c : Content) (store : IsStore types hand c) (n i w : ℕ) (part : TyId) (o : Object) (there : at c.objects n ≡ Some o) (within : LiesWithin types o.ty w part) (lt : i < length o.slots) where
    pub copied_store : (s : Setting) (ws : List ℕ) → length ws ≡ width_at types part → Known (kinds_of types) c (parts_at types part) ws → ((k : ℕ) → 0 < times (owned_of (parts_at types part) ws) k → 0 < alive c k)
        → IfGot (copied s (parts_at types part) ws c) (λ v. IsStore types hand (replaced (parts_at types part) (record { object = n; index = i; word = w }) v))
    copied_store s ws wide known living =
        if_such (copied s (parts_at types part) ws c) (λ v. CameWords (kinds_of types) (rank_of types part) hand (parts_at types part) c v × FitWords (kinds_of types) (parts_at types part) v)
        (λ v. IsStore types hand (replaced (parts_at types part) (record { object = n; index = i; word = w }) v))
        (got_both (copied s (parts_at types part) ws c) (CameWords (kinds_of types) (rank_of types part) hand (parts_at types part) c) (FitWords (kinds_of types) (parts_at types part))
        (copied_came (kinds_of types) s (parts_at types part) (rank_of types part) (laid_at types ordered part) ws wide hand c store.forest known living)
        (copied_fit (kinds_of types) s (parts_at types part) (rank_of types part) (laid_at types ordered part) (named_at types ordered part) ws wide hand c store.forest known living store.fit))
        (λ v h.
        replaced_store hand (λ k. times (owned_of (parts_at types part) v.0) k + hand k) v.1 (record { forest = h.0.0.forest; fit = h.1.0 }) n i w part o
        (h.0.0.same n (store.forest.births n o there) ∙ there) within lt v.0 h.0.1 h.1.1 (λ k. omega arith))
