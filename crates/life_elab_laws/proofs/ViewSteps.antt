-- The instruction that gives a part of a view.
use Rattle.std.proofs.Common.{◌≡◌, ◌<◌, ◌≤◌, ℕ, true, List, [], ◌∷◌, ◌++◌, Option, Some, None, inl, inr, refl, sym, ap, ◌∙◌, subst, append_assoc}
use Rattle.std.proofs.lemmas.Bool.{and_from, false≢true}
use Rattle.life_types.specs.Types.{Types}
use Rattle.life_types.specs.declared.ty.Ty.{Ty}
use Rattle.life_types.specs.declared.ty.Ty.TheVariants as ty
use Rattle.life_typed.specs.declared.typed_expr.ExprType.TheVariants.{Of}
use Rattle.life_core.specs.Function.{Function}
use Rattle.life_core.specs.Operands.{Location}
use Rattle.life_core.specs.Step.{Cut}
use Rattle.life_core.specs.Touched.{count_uses, nothing}
use Rattle.life_proper.specs.Knowing.{known_at}
use Rattle.life_proper.specs.OperandTypes.{is_range, takes}
use Rattle.life_proper.specs.Placed.{is_number_of, is_number_of_if, type_in}
use Rattle.life_proper.specs.declared.known.Known.{Known}
use Rattle.life_proper.specs.declared.known.Known.TheVariants as known
use Rattle.life_writer.specs.Pointers.{By}
use Rattle.life_elab_laws.proofs.Gifts.{Gift, IsGivenAs, IsTakenBy, a_number, a_pointer, both, held_stays}
use Rattle.life_elab_laws.proofs.Locations.{is_location}
use Rattle.life_elab_laws.proofs.Making.{AreHeld, IsFilling, IsHeld, IsPointer, Keeps}

pub pointer_held : (l : Location) (n : ℕ) (k : List Known) → IsPointer l n k → known_at k l.local ≡ known.Ready
pointer_held l n k p = ap (known_at k) p.is ∙ p.held

pub pointer_is_held : (l : Location) (n : ℕ) (k : List Known) → IsPointer l n k → IsHeld l.local n k
pointer_is_held l n k p = (subst (λ (x : ℕ). x < n) (sym p.is) p.below, pointer_held l n k p)

-- what a view is given goes to a view
pub view_taker : (types : Types) (u : Ty) → is_location u ≡ true → IsTakenBy types u (Of ty.View) → u ≡ ty.View
view_taker types u loc (inl e) = sym (same_of e)
  where
    same_of : Of ty.View ≡ Of u → ty.View ≡ u
    same_of e = cc
view_taker types ty.View loc (inr e) = refl
view_taker types (ty.Raw target constant) loc (inr e) = absurd (false≢true e)
view_taker types (ty.Iterator target constant) loc (inr e) = absurd (false≢true e)
view_taker types (ty.Span target constant) loc (inr e) = absurd (false≢true e)
view_taker types _ loc (inr e) = absurd (false≢true loc)

-- a number that may be left out
abbrev pub IsCounted : Option ℕ → ℕ → List Known → Type 0
IsCounted None n k = Unit {0}
IsCounted (Some r) n k = IsHeld r n k

module _ (types : Types) (texts : ℕ) (fs : List Function) (f : Function) where
  pub count_stays : (o : Option ℕ) (n m : ℕ) (k j : List Known) → n ≤ m → IsCounted o n k → Keeps f n None k j → IsCounted o m j
  count_stays None n m k j h p keeps = tt
  count_stays (Some r) n m k j h p keeps = held_stays types texts fs f r n m k j h p keeps

  abbrev pub a_count : Gift types texts fs f (Option ℕ)
  a_count = record { typed = λ o. is_number_of_if types f ty.Size o ≡ true; ready = IsCounted; stays = count_stays }

  -- a part of a view, from an index on
  abbrev pub Cuts : Gift types texts fs f ((Location × ℕ) × Option ℕ)
  Cuts = both types texts fs f (both types texts fs f (a_pointer types texts fs f ty.View) (a_number types texts fs f ty.Size)) a_count

  pub cut_given : (x : (Location × ℕ) × Option ℕ) → Cuts.typed x → IsGivenAs types texts fs f (Of ty.View) (By (λ p. Cut p x.0.0 x.0.1 x.1))
  cut_given x h = λ u l loc at taken.
      let view : type_in types f l ≡ ty.View = at ∙ view_taker types u loc taken in
      record {
        given = refl;
        formed =
            and_from (is_range (type_in types f l)) _ (ap is_range view)
            (and_from (takes types (type_in types f l) (type_in types f x.0.0)) _ (ap (λ (t : Ty). takes types t (type_in types f x.0.0)) view ∙ ap (takes types ty.View) h.0.0.typed)
            (and_from (is_number_of types f ty.Size x.0.1) (is_number_of_if types f ty.Size x.1) h.0.1 h.1));
      }

  pub cut_filling : (x : (Location × ℕ) × Option ℕ) (n : ℕ) (k : List Known) → Cuts.ready x n k → IsFilling f (λ p. Cut p x.0.0 x.0.1 x.1) n k
  cut_filling x n k h = record {
    uses = x.0.0.local ∷ x.0.1 ∷ (count_uses x.1 ++ []);
    held = (pointer_is_held x.0.0 n k h.0.0, (h.0.1, counted x.1 h.1));
    touches = λ y e. refl;
    parts = λ y m ms. ap (λ (us : List ℕ). record nothing { uses = x.0.0.local ∷ x.0.1 ∷ us }) (sym (append_assoc (count_uses x.1) [] (y ∷ [])));
    looks = λ l y m. absurd m;
  }
    where
      counted : (o : Option ℕ) → IsCounted o n k → AreHeld (count_uses o ++ []) n k
      counted None p = tt
      counted (Some r) p = (p, tt)
