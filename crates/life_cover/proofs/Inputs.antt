-- The inputs of a frame stand apart from its locals and from each other, and go on so whatever the frame touches.
use Rattle.std.proofs.Common.{◌≡◌, ◌≢◌, inl, inr, ⊎_elim, ℕ, ◌+◌, ◌<◌, true, Option, Some, None, refl, sym, ap, subst, ◌∙◌, arith}
use Rattle.std.specs.Prelude.{option_map, slice_get}
use Rattle.std.proofs.lemmas.Bool.{false≢true}
use Rattle.life_types.specs.Trees.{IsOrdered}
use Rattle.life_types.specs.Types.{Types}
use Rattle.life_types.specs.declared.ty.TyId.{TyId}
use Rattle.life_core.specs.Function.{Function}
use Rattle.life_pset.specs.declared.element.Root.{Root}
use Rattle.life_pset.specs.declared.element.Root.TheVariants as root
use Rattle.life_store.specs.Cells.{at}
use Rattle.life_store.specs.Content.{Content, Object}
use Rattle.life_store.specs.State.{Named, State}
use Rattle.life_store.proofs.CellLemmas.{none_some, some_same}
use Rattle.life_forest.specs.Forest.{Beneath, Foot, IsForest, Touches, Within, part, under, whole}
use Rattle.life_forest.specs.FrameTypes.{IsFrame}
use Rattle.life_forest.specs.Frames.{HasStore, named_in}
use Rattle.life_forest.specs.Kinds.{Kinds, kinds_of}
use Rattle.life_forest.specs.Owned.{every, spared, times}
use Rattle.life_forest.proofs.Below.{is_positive}
use Rattle.life_forest.proofs.Following.{in_hand}
use Rattle.life_forest.proofs.Feet.{within_self}
use Rattle.life_forest.proofs.Steps.{beneath_back, beneath_more, owner_born, own_all}
use Rattle.life_cover.specs.Frames.{NoInput, RootStands}
use Rattle.life_cover.specs.Inputs.{AreGiven, StandsAt, frame_foot, owning}
use Rattle.life_cover.specs.Regions.{HasPart, IsTrue, Region, foot_of}
use Rattle.life_cover.specs.Roots.{AreRooted, IsApart}
use Rattle.life_cover.proofs.Inside.{region_owner}
use Rattle.life_cover.proofs.Locals.{locals_rooted, named_free}
use Rattle.life_cover.proofs.Mutated.{in_mutated}
use Rattle.life_cover.proofs.ObjectParts.{part_within}

-- ---- what isn't beneath a foot stays beneath what it was

module _ (kind : Kinds) (hand : ℕ → ℕ) (c d : Content) (forest : IsForest kind hand c) (foot : Foot) (touch : Touches kind foot c d) where
  pub beneath_before : (t : Foot) (k : ℕ) → k < c.births → (Beneath kind c foot k → ⊥) → Beneath kind d t k → Beneath kind c t k
  beneath_before t k lt free (whole _ e) = whole k e
  beneath_before t k lt free (part m _ own) = ⊎_elim (λ low. absurd (free low)) (λ was. part m k was) (touch.back (t.part m) m k lt own)
  beneath_before t k lt free (under m _ low own) = ⊎_elim
      (λ l. absurd (free l))
      (λ was. under m k (beneath_before t m (owner_born kind hand c every m k forest was) (λ l. free (under m k l was)) low) was)
      (touch.back every m k lt own)

-- ---- they go on

module _ (types : Types) (f : Function) (inputs : Root → Option Region) (hand : ℕ → ℕ) (c d : Content) (forest : IsForest (kinds_of types) hand c) (foot : Foot) where
  -- whatever is touched beneath the foot, and with another one that lies in it
  pub given_on : AreGiven types f inputs foot c → (other : Foot) → Touches (kinds_of types) foot c d → Within (kinds_of types) c other foot → AreGiven types f inputs other d
  given_on given other touch within = record {
    each = given.each;
    part = λ r a stands q there.
        let o = same_type a (given.born r a stands) (given.free r a stands) q there in
        subst (λ (id : TyId). HasPart types id a.word a.ty) o.2 (given.part r a stands o.0 o.1);
    born = λ r a stands. let b = given.born r a stands in let more = touch.births in omega (arith, b, more);
    free = λ r a stands low. given.free r a stands (beneath_back (kinds_of types) hand c forest foot other foot d a.object touch (within_self (kinds_of types) c foot) within (given.born r a stands) low);
    beside = given.beside;
    over = λ r s a b own ne at_r at_s low. given.over r s a b own ne at_r at_s (beneath_before (kinds_of types) hand c d forest foot touch (foot_of types b) a.object (given.born r a at_r) (given.free r a at_r) low);
  }
    where
      same_type : (a : Region) → a.object < c.births → (Beneath (kinds_of types) c foot a.object → ⊥) → (q : Object) → at d.objects a.object ≡ Some q → (o : Object) × (at c.objects a.object ≡ Some o) × (o.ty ≡ q.ty)
      same_type a born free q there = go (at c.objects a.object) refl (touch.kept a.object born free)
        where
          go : (o : Option Object) → at c.objects a.object ≡ o → option_map (spared (kinds_of types) (foot.part a.object)) (at d.objects a.object) ≡ option_map (spared (kinds_of types) (foot.part a.object)) (at c.objects a.object) → (o : Object) × (at c.objects a.object ≡ Some o) × (o.ty ≡ q.ty)
          go (Some o) e same =
              (o, e, sym (ap (λ (x : Object). x.ty) (some_same (sym (ap (option_map (spared (kinds_of types) (foot.part a.object))) there) ∙ same ∙ ap (option_map (spared (kinds_of types) (foot.part a.object))) e))))
          go None e same = absurd (none_some (sym (sym (ap (option_map (spared (kinds_of types) (foot.part a.object))) there) ∙ same ∙ ap (option_map (spared (kinds_of types) (foot.part a.object))) e)))

-- ---- apart from the locals

module _ (types : Types) (f : Function) (rest : ℕ → ℕ) (inputs : Root → Option Region) (st : State) (store : HasStore types rest st) (frame : IsFrame types f st.world.content st.cells) where
  abbrev foot : Foot
  foot = frame_foot types f inputs st.cells

  pub local_low : (x n : ℕ) → slice_get st.cells x ≡ Some (Named n) → Beneath (kinds_of types) st.world.content (frame_foot types f inputs st.cells) n
  local_low x n named = whole n (is_positive (times (named_in st.cells) n) (in_hand st.cells x n named))

  -- what is beneath a region of a local is beneath what may be touched
  pub start_low : (x : ℕ) (a : Region) (n : ℕ) → slice_get st.cells x ≡ Some (Named a.object) → Beneath (kinds_of types) st.world.content (foot_of types a) n → Beneath (kinds_of types) st.world.content (frame_foot types f inputs st.cells) n
  start_low x a n named (whole _ e) = absurd (false≢true e)
  start_low x a n named (part m _ own) =
      under m n (subst (Beneath (kinds_of types) st.world.content foot) (sym (region_owner types st.world.content a m n own)) (local_low x a.object named)) (own_all (kinds_of types) st.world.content ((foot_of types a).part m) m n own)
  start_low x a n named (under m _ low own) = under m n (start_low x a m named low) own

  module _ (given : AreGiven types f inputs (frame_foot types f inputs st.cells) st.world.content) where
    -- .. and what is beneath the region of a mutating input
    pub mutated_within : (r : Root) (a : Region) → StandsAt inputs r a → owning types f r ≡ true → Within (kinds_of types) st.world.content (foot_of types a) (frame_foot types f inputs st.cells)
    mutated_within r a stands own = record {
      whole = λ n lt e. absurd (false≢true e);
      part = λ m lt. inr (λ w e. in_mutated types f inputs r a (given.each r a stands) stands own m w e);
    }

    pub mutated_low : (r : Root) (a : Region) (n : ℕ) → StandsAt inputs r a → owning types f r ≡ true → n < st.world.content.births → Beneath (kinds_of types) st.world.content (foot_of types a) n → Beneath (kinds_of types) st.world.content (frame_foot types f inputs st.cells) n
    mutated_low r a n stands own lt low = beneath_more (kinds_of types) (λ m. times (named_in st.cells) m + rest m) st.world.content store.forest (foot_of types a) foot n (mutated_within r a stands own) lt low

    pub frame_rooted : (ordered : IsOrdered types) → AreRooted types st.world.content (RootStands types f (StandsAt inputs) st.cells) (owning types f)
    frame_rooted ordered = record { fits = fits; one = one; apart = apart }
      where
        locals : AreRooted types st.world.content (RootStands types f NoInput st.cells) (owning types f)
        locals = let h = locals_rooted types f rest st store frame in record { fits = h.fits; one = h.one; apart = λ r s a b own ne. h.apart r s a b refl ne }

        fits : (r : Root) (a : Region) → RootStands types f (StandsAt inputs) st.cells r a → IsTrue types st.world.content a
        fits (root.Local x) a s o there = locals.fits (root.Local x) a s o there
        fits (root.Input q member) a s o there = part_within types ordered o.ty a.word a.ty (given.part (root.Input q member) a s o there)

        one : (r : Root) (a b : Region) → RootStands types f (StandsAt inputs) st.cells r a → RootStands types f (StandsAt inputs) st.cells r b → a ≡ b
        one (root.Local x) a b s t = locals.one (root.Local x) a b s t
        one (root.Input q member) a b s t = some_same (sym s ∙ t)

        -- an input is another object than a local's, and neither is beneath the other
        from_local : (x : ℕ) (a : Region) (s : Root) (b : Region) → slice_get st.cells x ≡ Some (Named a.object) → StandsAt inputs s b → IsApart types st.world.content a b
        from_local x a s b named at_s = record {
          beside = λ same. absurd (given.free s b at_s (subst (Beneath (kinds_of types) st.world.content foot) same (local_low x a.object named)));
          over = λ low. given.free s b at_s (start_low x a b.object named low);
          under = λ low. named_free types f rest st store frame x a.object b named low;
        }

        turned : (a b : Region) → IsApart types st.world.content a b → IsApart types st.world.content b a
        turned a b h = record { beside = λ same. ⊎_elim (λ l. inr l) (λ r. inl r) (h.beside (sym same)); over = h.under; under = h.over }

        apart : (r s : Root) (a b : Region) → owning types f r ≡ true → r ≢ s → RootStands types f (StandsAt inputs) st.cells r a → RootStands types f (StandsAt inputs) st.cells s b → IsApart types st.world.content a b
        apart (root.Local x) (root.Local y) a b own ne s t = locals.apart (root.Local x) (root.Local y) a b own ne s t
        apart (root.Local x) (root.Input q member) a b own ne s t = from_local x a (root.Input q member) b s.0 t
        apart (root.Input q member) (root.Local y) a b own ne s t = turned b a (from_local y b (root.Input q member) a t.0 s)
        apart (root.Input q member) (root.Input p other) a b own ne s t = record {
          beside = given.beside (root.Input q member) (root.Input p other) a b own ne s t;
          over = λ low. given.free (root.Input p other) b t (mutated_low (root.Input q member) a b.object s own (given.born (root.Input p other) b t) low);
          under = λ low. given.over (root.Input q member) (root.Input p other) a b own ne s t low;
        }
