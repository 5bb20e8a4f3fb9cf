-- What a set of places has, by look-ups and as a list.
use Rattle.std.proofs.Common.{◌≡◌, ◌⊎◌, ◌↔◌, inl, inr, sym, ap, subst, ◌∙◌, true, List, [], ◌∷◌, ◌++◌}
use Rattle.std.specs.List.{list_any}
use Rattle.std.specs.Prelude.{Contains}
use Rattle.std.proofs.lemmas.Bool.{cond_both}
use Rattle.std.proofs.lemmas.List.Elements.{Contains-append_left, Contains-push_cases}
use Rattle.std.proofs.lemmas.List.Folds.{list_any_at}
use Rattle.indexmap.specs.IndexSet.{insert_key}
use Rattle.indexmap.proofs.CallerLemmas.{Contains-insert_key, Contains-list_any}
use Rattle.life_pset.specs.contracts.element.AbsPlacePartialEq.TheImpl.{ghosts as compared}
use Rattle.life_pset.specs.declared.element.AbsPlace.{AbsPlace}
use Rattle.life_pset.proofs.Numbers.{exact_place, place_laws}

-- a look-up finds just what the list has
pub found : (places : List AbsPlace) (p : AbsPlace) → (list_any (compared.eq p) places ≡ true) ↔ Contains places p
found places p = (
  Contains-list_any compared.eq exact_place places p,
  λ h. list_any_at (compared.eq p) places h.0 p h.1 (ap (compared.eq p) h.2 ∙ place_laws.refl p),
)

-- an insertion adds its place and no other
pub inserted : (places : List AbsPlace) (p x : AbsPlace) → Contains (insert_key compared.eq places p) x ↔ (Contains places x ⊎ (x ≡ p))
inserted places p x = (
  cond_both (list_any (compared.eq p) places) places (places ++ p ∷ []) (λ l. Contains l x → Contains places x ⊎ (x ≡ p)) (λ _ h. inl h) (λ _ h.
      elim (Contains-push_cases places p x h) [ inl there ↦ inl there | inr is ↦ inr (sym is) ]),
  λ h.
      elim h [
        | inl there ↦ cond_both (list_any (compared.eq p) places) places (places ++ p ∷ []) (λ l. Contains l x) (λ _. there) (λ _. Contains-append_left places (p ∷ []) x there)
        | inr is ↦ subst (λ (y : AbsPlace). Contains (insert_key compared.eq places p) y) (sym is) (Contains-insert_key compared.eq exact_place places p)
      ],
)
