-- A unique_ptr comes to life, and is made to own an owner that is given over to it: that stands before, and is gone behind.
use Rattle.std.proofs.Common.{◌≡◌, ◌<◌, inl, inr, ℕ, Bool, true, false, List, [], ◌∷◌, ◌++◌, length, slice_set, refl, sym, ap, ◌∙◌, subst, arith, if◌then◌else◌}
use Rattle.life_types.specs.Pointees.{ty_of}
use Rattle.life_types.specs.TypeTests.{is_value}
use Rattle.life_types.specs.Types.{Types}
use Rattle.life_types.specs.declared.place.Place.{Place}
use Rattle.life_types.specs.declared.ty.Ty.{Ty}
use Rattle.life_types.specs.declared.ty.Ty.TheVariants as ty
use Rattle.life_types.specs.declared.ty.TyId.{TyId}
use Rattle.life_core.specs.Function.{Function}
use Rattle.life_core.specs.Kinds.{is_object_at}
use Rattle.life_core.specs.Operands.{whole}
use Rattle.life_core.specs.Step.{Live, Make}
use Rattle.life_core.specs.Touched.{touched_by}
use Rattle.life_core.specs.Tree.{Acts, Tree}
use Rattle.life_core.specs.declared.instr.Form.TheVariants.{Plain}
use Rattle.life_core.specs.declared.instr.Made.TheVariants as made
use Rattle.life_proper.specs.Knowing.{known_at, same}
use Rattle.life_proper.specs.Placed.{is_given, type_in}
use Rattle.life_proper.specs.ReadyKnown.{are_known, are_ready, can_leave, known_after, set_known}
use Rattle.life_proper.specs.WellFormed.{can_live, is_made_for}
use Rattle.life_proper.specs.declared.known.Known.{Known}
use Rattle.life_proper.specs.declared.known.Known.TheVariants as known
use Rattle.life_proper.proofs.ReadyTests.{all_ready, one_known}
use Rattle.life_elab_laws.proofs.Among.{Among, ascend_apart}
use Rattle.life_elab_laws.proofs.Falling.{Falls, falls_acts, falls_append, falls_filling}
use Rattle.life_elab_laws.proofs.Knowledge.{at_set, beside_set}
use Rattle.life_elab_laws.proofs.Saving.{live_fills}
use Rattle.life_elab_laws.proofs.Shaping.{IsFine, fine_acts, fine_append, fine_gives}
use Rattle.life_elab_laws.proofs.TakenOwners.{object_consumed}
use Rattle.life_elab_laws.proofs.UnseenLocals.{all_leave, set_swap}

module _ (types : Types) (texts : ℕ) (fs : List Function) (f : Function) (n x : ℕ) (begins place : Place) where
  abbrev lives : List Tree
  lives = Acts begins (Live n Plain) ∷ []

  abbrev makes : List Tree
  makes = Acts place (Make (whole n) (made.Of x)) ∷ []

  abbrev pub owned_code : List Tree
  owned_code = lives ++ makes

  -- it is well formed
  pub owned_fine : (target : TyId) (t : Ty) → is_value t ≡ false → ty_of types target ≡ t → can_live types texts fs f n ≡ true → type_in types f (whole n) ≡ ty.Unique target → is_given types f t x ≡ true → IsFine types texts fs f owned_code
  owned_fine target t plain holds can typed given =
      fine_append types texts fs f lives makes (fine_acts types texts fs f begins (Live n Plain) (record { given = refl; formed = can }))
      (fine_gives types texts fs f place (Make (whole n) (made.Of x)) refl
      (ap (λ (b : Ty). is_made_for types texts fs f b (made.Of x)) typed ∙ object_consumed types f t (ty_of types target) x plain holds given))

  -- on a way, where x has come
  module _ (older : x ≡ n → ⊥) (object : is_object_at f x ≡ true) (k : List Known) (within : n < length k) (none : known_at k x ≡ known.Blank) (born : known_at k n ≡ known.Blank) where
    -- with both
    abbrev final : List Known
    final = slice_set k n known.Ready

    abbrev both : List Known
    both = set_known known.Ready (x ∷ []) final

    swapped : slice_set (slice_set k x known.Ready) n known.Ready ≡ both
    swapped = set_swap k x n known.Ready known.Ready older

    blank : (z : ℕ) → Among z (x ∷ []) → known_at final z ≡ known.Blank
    blank z m = elim m [
      | inl e ↦ subst (λ (y : ℕ). known_at final y ≡ known.Blank) e (beside_set k n x known.Ready (λ e. older (sym e)) ∙ none)
      | inr never ↦ absurd never
    ]

    leaves : (can_leave both (x ∷ []) ≡ true) × (set_known known.Blank (x ∷ []) both ≡ final)
    leaves = all_leave (x ∷ []) (ascend_apart 0 (x ∷ []) (omega arith, tt)) final blank

    living : Falls types f lives (slice_set k x known.Ready) (slice_set (slice_set k x known.Ready) n known.Ready)
    living =
        falls_filling types f begins (Live n Plain) n (slice_set k x known.Ready)
        (live_fills types f n Plain (slice_set k x known.Ready) (beside_set k x n known.Ready older ∙ born))

    ready : are_ready both (touched_by f (Make (whole n) (made.Of x))) ≡ true
    ready =
        all_ready both (touched_by f (Make (whole n) (made.Of x)))
        (ap (λ (b : Bool). are_known known.Ready both (n ∷ (if b then [] else x ∷ []))) object ∙ one_known known.Ready both n (ap (λ (b : Known). same b known.Ready) (beside_set final x n known.Ready older ∙ at_set k n known.Ready within)))
        (ap (λ (b : Bool). can_leave both (if b then x ∷ [] else [])) object ∙ leaves.0)
        refl

    behind : known_after (touched_by f (Make (whole n) (made.Of x))) both ≡ final
    behind = ap (λ (b : Bool). set_known known.Ready [] (set_known known.Blank (if b then x ∷ [] else []) both)) object ∙ leaves.1

    making : Falls types f makes both final
    making = subst (Falls types f makes both) behind (falls_acts types f place (Make (whole n) (made.Of x)) both ready)

    pub owned_falls : Falls types f owned_code (set_known known.Ready (x ∷ []) k) final
    owned_falls =
        falls_append types f lives makes (slice_set k x known.Ready) (slice_set (slice_set k x known.Ready) n known.Ready) final living
        (subst (λ (j : List Known). Falls types f makes j final) (sym swapped) making)
