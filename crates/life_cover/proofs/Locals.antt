-- In a frame without inputs each local stands for itself, apart from all others.
use Rattle.std.proofs.Common.{◌≡◌, ◌≢◌, ℕ, zero, suc, ◌≤◌, ◌<◌, Bool, true, List, [], ◌∷◌, Option, Some, None, refl, sym, ap, subst, ◌∙◌, arith}
use Rattle.std.specs.Prelude.{slice_get}
use Rattle.std.proofs.lemmas.Bool.{false≢true}
use Rattle.life_types.specs.Types.{Types}
use Rattle.life_core.specs.Function.{Function}
use Rattle.life_pset.specs.declared.element.Root.{Root}
use Rattle.life_pset.specs.declared.element.Root.TheVariants as root
use Rattle.life_store.specs.Content.{Object, Content}
use Rattle.life_store.specs.State.{Cell, Named, State}
use Rattle.life_store.proofs.CellLemmas.{some_same}
use Rattle.life_forest.specs.Forest.{Beneath, part, under, whole}
use Rattle.life_forest.specs.FrameTypes.{IsFrame}
use Rattle.life_forest.specs.Frames.{HasStore, named_in}
use Rattle.life_forest.specs.Kinds.{kinds_of}
use Rattle.life_forest.specs.Owned.{every, owns_at, times}
use Rattle.life_forest.specs.Within.{LiesWithin}
use Rattle.life_forest.proofs.Below.{owned_at_held}
use Rattle.life_forest.proofs.Counting.{one_same}
use Rattle.life_forest.proofs.Following.{in_hand}
use Rattle.life_forest.proofs.Frames.{first_named}
use Rattle.life_forest.proofs.Members.{within_self}
use Rattle.life_forest.proofs.Steps.{alive_le, own_all}
use Rattle.life_cover.specs.Frames.{NoInput, RootStands}
use Rattle.life_cover.specs.Regions.{IsTrue, Region, foot_of}
use Rattle.life_cover.specs.Roots.{AreRooted, IsApart}
use Rattle.life_cover.proofs.Guarding.{same_region}

-- a local names one object, and two name two
pub named_once : {a b : ℕ} → Named a ≡ Named b → a ≡ b
named_once e = cc

pub two_named : (cells : List Cell) (x y n : ℕ) → x ≢ y → slice_get cells x ≡ Some (Named n) → slice_get cells y ≡ Some (Named n) → 2 ≤ times (named_in cells) n
two_named [] x y n ne a b = absurd (none a)
  where
    none : ◌≡◌ {A = Option Cell} None (Some (Named n)) → ⊥
    none e = cc
two_named (v ∷ vs) zero zero n ne a b = absurd (ne refl)
two_named (v ∷ vs) zero (suc y) n ne a b =
    let f = first_named v vs n in
    let h = in_hand vs y n b in
    let e = ap (λ (z : Cell). times (named_in (z ∷ [])) n) (some_same a) in
    let s = one_same n n refl in
    omega (arith, f, h, e, s)
two_named (v ∷ vs) (suc x) zero n ne a b =
    let f = first_named v vs n in
    let h = in_hand vs x n a in
    let e = ap (λ (z : Cell). times (named_in (z ∷ [])) n) (some_same b) in
    let s = one_same n n refl in
    omega (arith, f, h, e, s)
two_named (v ∷ vs) (suc x) (suc y) n ne a b =
    let f = first_named v vs n in
    let h = two_named vs x y n (λ e. ne (ap suc e)) a b in
    omega (arith, f, h)

-- what is beneath a region is owned
pub beneath_owned : (types : Types) (c : Content) (a : Region) (n : ℕ) → Beneath (kinds_of types) c (foot_of types a) n → (m : ℕ) × (0 < owns_at (kinds_of types) c every m n)
beneath_owned types c a n (whole _ e) = absurd (false≢true e)
beneath_owned types c a n (part m _ own) = (m, own_all (kinds_of types) c ((foot_of types a).part m) m n own)
beneath_owned types c a n (under m _ low own) = (m, own)

module _ (types : Types) (f : Function) (rest : ℕ → ℕ) (st : State) (store : HasStore types rest st) (frame : IsFrame types f st.world.content st.cells) where
  -- what a local names is owned by none
  pub named_unowned : (x n m : ℕ) → slice_get st.cells x ≡ Some (Named n) → 0 < owns_at (kinds_of types) st.world.content every m n → ⊥
  named_unowned x n m named own =
      let hand = in_hand st.cells x n named in
      let held = store.forest.held n in
      let least = owned_at_held (kinds_of types) st.world.content m n in
      let one = alive_le (kinds_of types) st.world.content n in
      omega (arith, hand, held, least, own, one)

  pub named_free : (x n : ℕ) (a : Region) → slice_get st.cells x ≡ Some (Named n) → Beneath (kinds_of types) st.world.content (foot_of types a) n → ⊥
  named_free x n a named low = let own = beneath_owned types st.world.content a n low in named_unowned x n own.0 named own.1

  -- two locals name two objects
  pub locals_other : (x y n : ℕ) → x ≢ y → slice_get st.cells x ≡ Some (Named n) → slice_get st.cells y ≡ Some (Named n) → ⊥
  locals_other x y n ne a b =
      let two = two_named st.cells x y n ne a b in
      let held = store.forest.held n in
      let one = alive_le (kinds_of types) st.world.content n in
      omega (arith, two, held, one)

  pub locals_rooted : AreRooted types st.world.content (RootStands types f NoInput st.cells) (λ r. true)
  locals_rooted = record { fits = fits; one = one; apart = apart }
    where
      fits : (r : Root) (a : Region) → RootStands types f NoInput st.cells r a → IsTrue types st.world.content a
      fits (root.Local x) a s o there =
          let v = frame.objects x a.object s.0 in
          let same : o ≡ v.object = some_same (sym there ∙ v.there) in
          let ty : o.ty ≡ a.ty = ap (λ (z : Object). z.ty) same ∙ some_same (sym v.type ∙ s.2) in
          subst (λ w. LiesWithin types o.ty w a.ty) (sym s.1) (subst (λ id. LiesWithin types id 0 a.ty) (sym ty) (within_self types a.ty))
      fits (root.Input q member) a s o there = absurd s

      one : (r : Root) (a b : Region) → RootStands types f NoInput st.cells r a → RootStands types f NoInput st.cells r b → a ≡ b
      one (root.Local x) a b s t = same_region a b (named_once (some_same (sym s.0 ∙ t.0))) (s.1 ∙ sym t.1) (some_same (sym s.2 ∙ t.2))
      one (root.Input q member) a b s t = absurd s

      apart : (r s : Root) (a b : Region) → ◌≡◌ {A = Bool} true true → r ≢ s → RootStands types f NoInput st.cells r a → RootStands types f NoInput st.cells s b → IsApart types st.world.content a b
      apart (root.Local x) (root.Local y) a b e ne s t = record {
        beside = λ same. absurd (locals_other x y b.object (λ k. ne (ap (λ z. root.Local z) k)) (subst (λ n. slice_get st.cells x ≡ Some (Named n)) same s.0) t.0);
        over = λ low. named_free y b.object a t.0 low;
        under = λ low. named_free x a.object b s.0 low;
      }
      apart (root.Local x) (root.Input q member) a b e ne s t = absurd t
      apart (root.Input q member) s a b e ne h t = absurd h
