-- A pointer that is given something: it can be, it is a pointer behind it, and const stays const.
use Rattle.std.proofs.Common.{◌≡◌, inl, inr, ℕ, Bool, true, false, ◌&&◌, List, [], ◌∷◌, nat_lt, None, refl, sym, ap, ◌∙◌, subst}
use Rattle.std.proofs.lemmas.Bool.{and_from, and_parts, false≢true}
use Rattle.life_types.specs.Pointees.{ty_of}
use Rattle.life_types.specs.TypeTests.{is_constant, is_raw, is_view}
use Rattle.life_types.specs.Types.{Types}
use Rattle.life_types.specs.declared.ty.Ty.{Ty}
use Rattle.life_types.specs.declared.ty.Ty.TheVariants as ty
use Rattle.life_typed.specs.declared.typed_expr.ExprType.{ExprType}
use Rattle.life_typed.specs.declared.typed_expr.ExprType.TheVariants.{NullPointer, Of, TextLiteral}
use Rattle.life_core.specs.Function.{Function}
use Rattle.life_core.specs.Kinds.{is_register_at}
use Rattle.life_core.specs.Operands.{Location, Null, Operand, Place as Aimed, Text, whole}
use Rattle.life_core.specs.Touched.{touched_by}
use Rattle.life_proper.specs.Knowing.{known_at}
use Rattle.life_proper.specs.OperandTypes.{aims_at, keeps_const, same, takes}
use Rattle.life_proper.specs.Placed.{is_const_place, type_in, type_of}
use Rattle.life_proper.specs.ReadyKnown.{are_ready, known_after}
use Rattle.life_proper.specs.WellFormed.{is_source_of}
use Rattle.life_proper.specs.declared.known.Known.{Known}
use Rattle.life_proper.specs.declared.known.Known.TheVariants as known
use Rattle.life_proper.proofs.ReadyTests.{uses_ready}
use Rattle.life_writer.specs.Pointers.{As, By, Pointing, aimed, pointed}
use Rattle.life_elab_laws.proofs.Falling.{Fills}
use Rattle.life_elab_laws.proofs.Filling.{filling_fills, filling_leaves, filling_ready}
use Rattle.life_elab_laws.proofs.Gifts.{IsGivenAs, IsTakenBy, takes_from}
use Rattle.life_elab_laws.proofs.Held.{one_there, two_there}
use Rattle.life_elab_laws.proofs.Knowledge.{set_length, set_same}
use Rattle.life_elab_laws.proofs.Locations.{is_location}
use Rattle.life_elab_laws.proofs.Making.{IsPointer, IsPointing, Keeps, keeps_all, lies_by, fills_in}
use Rattle.life_elab_laws.proofs.OperandsThere.{same_is}
use Rattle.life_elab_laws.proofs.Shaping.{IsFineStep}

pub keeps_further : (c d e : Bool) → keeps_const c d ≡ true → keeps_const d e ≡ true → keeps_const c e ≡ true
keeps_further true d e h g = refl
keeps_further false true e h g = absurd (false≢true h)
keeps_further false false e h g = g

-- ---- what it is given is there, and it is a pointer still

module _ (f : Function) where
  pub pointed_fills : (x n : ℕ) (p : Pointing) (k : List Known) → IsPointing f p n k → is_register_at f x ≡ true → Fills f k (pointed p (whole x)) x
  pointed_fills x n (By step) k h e = filling_fills f step n k h x e
  pointed_fills x n (As q) k h e = record { ready = uses_ready k (q.local ∷ []) (x ∷ []) (one_there k q.local (ap (known_at k) h.is ∙ h.held)); after = refl }

  module _ (l : Location) (n m : ℕ) (p : Pointing) (k : List Known) (h : IsPointer l n k) (g : IsPointing f p m k) where
    abbrev part : (first : ℕ) (members : List ℕ) → Location
    part first members = record { local = l.local; members = first ∷ members }

    there : known_at k l.local ≡ known.Ready
    there = ap (known_at k) h.is ∙ h.held

    -- in a member, where all stays as it is
    part_ready : (p : Pointing) → IsPointing f p m k → (first : ℕ) (members : List ℕ) → are_ready k (touched_by f (pointed p (part first members))) ≡ true
    part_ready (By step) g first members = filling_ready f step m k g l.local first members there
    part_ready (As q) g first members = uses_ready k (q.local ∷ l.local ∷ []) [] (two_there k q.local l.local (ap (known_at k) g.is ∙ g.held) there)

    part_leaves : (p : Pointing) → IsPointing f p m k → (first : ℕ) (members : List ℕ) → known_after (touched_by f (pointed p (part first members))) k ≡ k
    part_leaves (By step) g first members = filling_leaves f step m k g l.local first members
    part_leaves (As q) g first members = refl

    pub pointed_ready : fills_in f l ≡ true → are_ready k (touched_by f (pointed p l)) ≡ true
    pointed_ready kept = go l.members kept
      where
        go : (members : List ℕ) → lies_by members (is_register_at f l.local) true ≡ true → are_ready k (touched_by f (pointed p (record { local = l.local; members = members }))) ≡ true
        go [] kept = (pointed_fills l.local m p k g kept).ready
        go (first ∷ members) kept = part_ready p g first members

    pub pointed_keeps : (z : ℕ) → fills_in f l ≡ true → Keeps f z None k (known_after (touched_by f (pointed p l)) k)
    pointed_keeps z kept = go l.members kept
      where
        go : (members : List ℕ) → lies_by members (is_register_at f l.local) true ≡ true → Keeps f z None k (known_after (touched_by f (pointed p (record { local = l.local; members = members }))) k)
        go [] kept = subst (Keeps f z None k) (sym (pointed_fills l.local m p k g kept).after) (record {
          sized = set_length k l.local known.Ready;
          below = λ y lt b. set_same k l.local known.Ready y there;
        })
        go (first ∷ members) kept = subst (Keeps f z None k) (sym (part_leaves p g first members)) (keeps_all f z None k)

-- ---- what it is given fits it

module _ (types : Types) (texts : ℕ) (fs : List Function) (f : Function) where
  aims_further : (t u : Ty) (o : Operand) → is_location t ≡ true → takes types t u ≡ true → (aims_at types u (type_of types f o) && keeps_const (is_constant u) (is_const_place types f o)) ≡ true
      → (aims_at types t (type_of types f o) && keeps_const (is_constant t) (is_const_place types f o)) ≡ true
  aims_further (ty.Raw target c) (ty.Raw found d) o raw taken aimed =
      let first = and_parts (same (ty_of types target) (ty_of types found)) (keeps_const c d) taken in
      let second = and_parts (same (ty_of types found) (type_of types f o)) (keeps_const d (is_const_place types f o)) aimed in
      and_from (same (ty_of types target) (type_of types f o)) (keeps_const c (is_const_place types f o))
      (ap (same (ty_of types target)) (sym (same_is (ty_of types found) (type_of types f o) second.0)) ∙ first.0)
      (keeps_further c d (is_const_place types f o) first.1 second.1)
  aims_further (ty.Raw target c) _ o raw taken aimed = absurd (false≢true taken)
  aims_further ty.View ty.View o raw taken aimed = absurd (false≢true aimed)
  aims_further (ty.Iterator target c) (ty.Iterator found d) o raw taken aimed = absurd (false≢true aimed)
  aims_further (ty.Iterator target c) _ o raw taken aimed = absurd (false≢true taken)
  aims_further (ty.Span target c) (ty.Span found d) o raw taken aimed = absurd (false≢true aimed)
  aims_further (ty.Span target c) _ o raw taken aimed = absurd (false≢true taken)
  aims_further ty.View _ o raw taken aimed = absurd (false≢true taken)
  aims_further _ u o raw taken aimed = absurd (false≢true raw)

  -- nullptr is taken by each raw pointer
  pub null_given : IsGivenAs types texts fs f NullPointer (aimed Null)
  null_given = λ u l loc at taken. record { given = refl; formed = ap is_raw at ∙ raw u taken }
    where
      clash : (u : Ty) → NullPointer ≡ Of u → ⊥
      clash u e = cc

      raw : (u : Ty) → IsTakenBy types u NullPointer → is_raw u ≡ true
      raw u (inl e) = absurd (clash u e)
      raw u (inr e) = e

  -- a literal by each view
  pub literal_given : (n : ℕ) → nat_lt n texts ≡ true → IsGivenAs types texts fs f TextLiteral (aimed (Text n))
  literal_given n few = λ u l loc at taken. record {
    given = refl;
    formed = and_from (is_view (type_in types f l)) (nat_lt n texts) (ap is_view at ∙ view u taken) few;
  }
    where
      clash : (u : Ty) → TextLiteral ≡ Of u → ⊥
      clash u e = cc

      view : (u : Ty) → IsTakenBy types u TextLiteral → is_view u ≡ true
      view u (inl e) = absurd (clash u e)
      view u (inr e) = e

  -- a place by each that takes its address
  pub place_given : (t : Ty) (o : Operand) → (aims_at types t (type_of types f o) && keeps_const (is_constant t) (is_const_place types f o)) ≡ true → IsGivenAs types texts fs f (Of t) (aimed (Aimed o))
  place_given t o fits = λ u l raw at taken. record {
    given = refl;
    formed = ap (λ (w : Ty). is_source_of types texts fs f w (Aimed o)) at ∙ go u raw taken;
  }
    where
      same_of : (u : Ty) → Of t ≡ Of u → t ≡ u
      same_of u e = cc

      go : (u : Ty) → is_location u ≡ true → IsTakenBy types u (Of t) → (aims_at types u (type_of types f o) && keeps_const (is_constant u) (is_const_place types f o)) ≡ true
      go u raw (inl e) = subst (λ (w : Ty). (aims_at types w (type_of types f o) && keeps_const (is_constant w) (is_const_place types f o)) ≡ true) (same_of u e) fits
      go u raw (inr taken) = aims_further u t o raw taken fits

  pub pointed_fine : (l : Location) (u : Ty) (t : ExprType) (p : Pointing) → is_location u ≡ true → type_in types f l ≡ u → takes_from types u t ≡ true → IsGivenAs types texts fs f t p → IsFineStep types texts fs f (pointed p l)
  pointed_fine l u t (By step) raw at taken given = given u l raw at (inr taken)
  pointed_fine l u (Of v) (As q) raw at taken given = record {
    given = refl;
    formed = ap (λ (w : Ty). takes types w (type_in types f q)) at ∙ ap (takes types u) given.typed ∙ taken;
  }
  pointed_fine l u NullPointer (As q) raw at taken given = absurd given
  pointed_fine l u TextLiteral (As q) raw at taken given = absurd given
